-- Statements that are changed themselves first, and then the statements in them.
use Rattle.std.proofs.Common.{◌≡◌, ℕ, ◌<◌, ◌≤◌, ◌+◌, ◌*◌, zero, suc, List, [], ◌∷◌, ◌++◌, length, map, get_or, drop, Result, Ok, Box, Vec, Global, refl, sym}
use Rattle.std.proofs.Common.{ap, ◌∙◌, subst, arith}
use Rattle.std.specs.Box.{with_value}
use Rattle.std.specs.List.{flat_map}
use Rattle.std.specs.Vec.{with_items}
use Rattle.std.proofs.lemmas.List.{append-nil, length-map}
use Rattle.starlark_lexer.specs.Tokens.{span_of}
use Rattle.starlark_lexer.specs.declared.span.Spanned.{Spanned}
use Rattle.starlark_tree.specs.declared.ast.DefP.{DefP}
use Rattle.starlark_tree.specs.declared.ast.ExprP.{ExprP}
use Rattle.starlark_tree.specs.declared.ast.ForP.{ForP}
use Rattle.starlark_tree.specs.declared.ast.StmtP as stmt
use Rattle.starlark_tree.specs.Ast as t
use Rattle.starlark_tree.specs.Children.{own_stmts, stmts_of_stmt}
use Rattle.starlark_tree.specs.Views.{all_statements, form_seen, payloads, statement_of}
use Rattle.starlark_tree.specs.Walks.{MayWriteBy, WriteBy, Writing, WritesIn}
use Rattle.starlark_tree.proofs.LentParts.{with_items_all}
use Rattle.starlark_tree.proofs.Rows.{statements_seen_of}
use Rattle.starlark_uniplate_mut.specs.Forms.{all_forms, all_nesting, form_nesting, forms, forms_of, later_forms, later_forms_of, nesting, nesting_of}
use Rattle.starlark_uniplate_mut.specs.Forms.{own_and_nesting_of, statement_forms}
use Rattle.starlark_uniplate_mut.specs.FormFrames.{gaps, stmts_frame, stmts_frame_of}
use Rattle.starlark_uniplate_mut.proofs.FormFrames.{same_gaps}
use Rattle.starlark_uniplate_mut.proofs.OwnFirst.{may_own, then_parts}
use Rattle.starlark_uniplate_mut.proofs.WriteLoops.{still_there}
use Rattle.starlark_uniplate_mut.proofs.Writing.{write_at, write_one}

module _ {Q : t.Payloads} where
  own_then_later : (form : t.Form Q) → forms form ≡ (stmts_frame form ∷ []) ++ later_forms form
  own_then_later (t.Block ss) = refl
  own_then_later form = refl

  listed : (ss : t.Statements Q) → all_forms ss ≡ flat_map statement_forms (t.statement_list ss)
  listed t.no_statements = refl
  listed (t.statements s ss) = ap (λ fs. statement_forms s ++ fs) (listed ss)

  later_listed : (form : t.Form Q) → later_forms form ≡ flat_map statement_forms (own_stmts form)
  later_listed (t.Block ss) = listed ss
  later_listed (t.IfThen e s) = sym (append-nil (statement_forms s))
  later_listed (t.IfElse e s other) = ap (λ fs. statement_forms s ++ fs) (sym (append-nil (statement_forms other)))
  later_listed (t.For x e s) = sym (append-nil (statement_forms s))
  later_listed (t.Def w p ps ty s q) = sym (append-nil (statement_forms s))
  later_listed form = refl

  nests : (ss : t.Statements Q) → all_nesting ss ≡ t.statements_of (map nesting (t.statement_list ss))
  nests t.no_statements = refl
  nests (t.statements s ss) = ap (t.statements (nesting s)) (nests ss)

  nesting_listed : (form : t.Form Q) → form_nesting form ≡ t.Block (t.statements_of (map nesting (own_stmts form)))
  nesting_listed (t.Block ss) = ap t.Block (nests ss)
  nesting_listed form = refl

-- the measure of the recursion: how many statements a statement is, including those in it
abbrev mutual
  form_size : {Q : t.Payloads} → t.Form Q → ℕ
  form_size (t.Block ss) = suc (sizes ss)
  form_size (t.IfThen e s) = suc (statement_size s)
  form_size (t.IfElse e s other) = suc (statement_size s + statement_size other)
  form_size (t.For x e s) = suc (statement_size s)
  form_size (t.Def w p ps ty s q) = suc (statement_size s)
  form_size other = 1

  statement_size : {Q : t.Payloads} → t.Statement Q → ℕ
  statement_size (t.statement s form) = form_size form

  sizes : {Q : t.Payloads} → t.Statements Q → ℕ
  sizes t.no_statements = 0
  sizes (t.statements s ss) = statement_size s + sizes ss

module _ {Q : t.Payloads} where
  abbrev total : List (t.Statement Q) → ℕ
  total [] = 0
  total (x ∷ xs) = statement_size x + total xs

  sizes_listed : (ss : t.Statements Q) → sizes ss ≡ total (t.statement_list ss)
  sizes_listed t.no_statements = refl
  sizes_listed (t.statements s ss) = ap (λ n. statement_size s + n) (sizes_listed ss)

  size_listed : (form : t.Form Q) → form_size form ≡ suc (total (own_stmts form))
  size_listed (t.Block ss) = ap suc (sizes_listed ss)
  size_listed (t.IfThen e s) = omega arith
  size_listed (t.IfElse e s other) = omega arith
  size_listed (t.For x e s) = omega arith
  size_listed (t.Def w p ps ty s q) = omega arith
  size_listed form = refl

module _ {P A B C D E : Type 0} where
  pub split : (x : stmt.StmtP P A B C D E) → forms_of x ≡ (stmts_frame_of x ∷ []) ++ later_forms_of x
  split x = own_then_later (form_seen x)

  pub later_kept : (x y : stmt.StmtP P A B C D E) → stmts_of_stmt y ≡ stmts_of_stmt x → later_forms_of y ≡ later_forms_of x
  later_kept x y e = later_listed (form_seen y) ∙ ap (flat_map statement_forms) e ∙ sym (later_listed (form_seen x))

  pub nesting_kept : (x y : stmt.StmtP P A B C D E) → stmts_of_stmt y ≡ stmts_of_stmt x → nesting_of y ≡ nesting_of x
  nesting_kept x y e = nesting_listed (form_seen y) ∙ ap (λ ss. t.Block (t.statements_of (map nesting ss))) e ∙ sym (nesting_listed (form_seen x))

  -- the measures of the recursion
  abbrev pub stmts_in : stmt.StmtP P A B C D E → ℕ
  stmts_in x = form_size (form_seen x)

  abbrev pub size_of : stmt.StmtP P A B C D E → ℕ
  size_of x = 3 * stmts_in x + 2

  abbrev pub size_later : stmt.StmtP P A B C D E → ℕ
  size_later x = 3 * stmts_in x + 1

  abbrev pub size_block : Vec (Spanned (stmt.StmtP P A B C D E)) Global → ℕ
  size_block v = 3 * stmts_in (stmt.Statements v)

  abbrev pub size_both : stmt.StmtP P A B C D E → stmt.StmtP P A B C D E → ℕ
  size_both x y = 3 * (stmts_in x + stmts_in y) + 3

  pub later_falls : (x y : stmt.StmtP P A B C D E) (n : ℕ) → stmts_of_stmt y ≡ stmts_of_stmt x → size_of x ≡ n → size_later y < n
  later_falls x y n e m =
      let same : form_size (form_seen y) ≡ form_size (form_seen x) = size_listed (form_seen y) ∙ ap (λ ss. suc (total ss)) e
      ∙ sym (size_listed (form_seen x)) in
      omega (arith, same, m)

  one_size : (xs : List (Spanned (stmt.StmtP P A B C D E))) (i : ℕ) (d : Spanned (stmt.StmtP P A B C D E)) → i < length xs
      → form_size (form_seen (get_or xs i d).node) ≤ sizes (all_statements xs)
  one_size [] i d p = absurd (omega (arith, p))
  one_size (x ∷ xs) zero d p = omega arith
  one_size (x ∷ xs) (suc i) d p = let rest = one_size xs i d (omega (arith, p)) in omega (arith, rest)

  -- a statement of a block that was not changed yet
  pub part_falls : (v : Vec (Spanned (stmt.StmtP P A B C D E)) Global) (old new : List (Spanned (stmt.StmtP P A B C D E))) (i : ℕ)
      (d : Spanned (stmt.StmtP P A B C D E)) → old ≡ v.items → i < length old → drop i new ≡ drop i old
      → size_of (get_or new i d).node < size_block v
  part_falls v old new i d held within e =
      let there = still_there old new i d d within e in
      let same = ap (λ (x : Spanned (stmt.StmtP P A B C D E)). stmts_in x.node) there in
      let least = one_size old i d within in
      let all : stmts_in (stmt.Statements v) ≡ suc (sizes (all_statements old)) = ap (λ ss. suc (sizes ss)) (statements_seen_of v)
      ∙ ap (λ ys. suc (sizes (all_statements ys))) (sym held) in
      omega (arith, least, same, all)

  own_framed : (v : Vec (Spanned (stmt.StmtP P A B C D E)) Global) → stmts_frame_of (stmt.Statements v) ≡ t.Block (gaps (all_statements v.items))
  own_framed v = ap (λ ss. t.Block (gaps ss)) (statements_seen_of v)

  forms_of_all : (xs : List (Spanned (stmt.StmtP P A B C D E))) → all_forms (all_statements xs)
      ≡ flat_map (λ (x : Spanned (stmt.StmtP P A B C D E)). forms_of x.node) xs
  forms_of_all [] = refl
  forms_of_all (x ∷ xs) = ap (λ ys. forms_of x.node ++ ys) (forms_of_all xs)

  pub block_forms : (v : Vec (Spanned (stmt.StmtP P A B C D E)) Global) → later_forms_of (stmt.Statements v)
      ≡ flat_map (λ (x : Spanned (stmt.StmtP P A B C D E)). forms_of x.node) v.items
  block_forms v = ap all_forms (statements_seen_of v) ∙ forms_of_all v.items

  nesting_of_all : (xs : List (Spanned (stmt.StmtP P A B C D E))) → all_nesting (all_statements xs)
      ≡ t.statements_of (map (λ (x : Spanned (stmt.StmtP P A B C D E)). nesting (statement_of x)) xs)
  nesting_of_all [] = refl
  nesting_of_all (x ∷ xs) = ap (t.statements (nesting (statement_of x))) (nesting_of_all xs)

  block_nesting : (v : Vec (Spanned (stmt.StmtP P A B C D E)) Global) → nesting_of (stmt.Statements v)
      ≡ t.Block (t.statements_of (map (λ (x : Spanned (stmt.StmtP P A B C D E)). nesting (statement_of x)) v.items))
  block_nesting v = ap (λ ss. t.Block (all_nesting ss)) (statements_seen_of v) ∙ ap t.Block (nesting_of_all v.items)

  many : (xs ys : List (Spanned (stmt.StmtP P A B C D E))) → map (λ (x : Spanned (stmt.StmtP P A B C D E)). nesting (statement_of x)) xs
      ≡ map (λ (x : Spanned (stmt.StmtP P A B C D E)). nesting (statement_of x)) ys → length xs ≡ length ys
  many xs ys e =
      sym (length-map xs (λ (x : Spanned (stmt.StmtP P A B C D E)). nesting (statement_of x))) ∙ ap length e
      ∙ length-map ys (λ (x : Spanned (stmt.StmtP P A B C D E)). nesting (statement_of x))

  as_many : (xs ys : List (Spanned (stmt.StmtP P A B C D E))) → map (λ (x : Spanned (stmt.StmtP P A B C D E)). nesting (statement_of x)) xs
      ≡ map (λ (x : Spanned (stmt.StmtP P A B C D E)). nesting (statement_of x)) ys
      → length (map statement_of xs) ≡ length (map statement_of ys)
  as_many xs ys e = length-map xs statement_of ∙ many xs ys e ∙ sym (length-map ys statement_of)

-- what the call at the statement itself requires, in a form for proof search: its conclusion begins with the fact that it is drawn from
module _ {P A B C D E S R : Type 0} (by : Writing S (t.Form (payloads A B C D E)) R) {s : S} (x : stmt.StmtP P A B C D E) where
  pub at_own : MayWriteBy by s (forms_of x) → MayWriteBy by s (forms_of x) × by.may s (stmts_frame_of x)
  at_own p = (p, (may_own forms_of (λ z. stmts_frame_of z ∷ []) later_forms_of split x p).each.0)

module _ {P A B C D E S R : Type 0} {by : Writing S (t.Form (payloads A B C D E)) R} {s u : S} where
  -- a call at the statement itself
  pub own_written : (x y : stmt.StmtP P A B C D E) {r : Result (Unit {0}) R} → by.call s (stmts_frame_of x) (stmts_frame_of y) r u
      → stmts_of_stmt y ≡ stmts_of_stmt x
      → WritesIn (λ (z : stmt.StmtP P A B C D E). stmts_frame_of z ∷ []) stmts_of_stmt by s x y r u
  own_written x y p e = record { calls = write_one p; rest = e }

  pub then_later : (x y z : stmt.StmtP P A B C D E) {r : Result (Unit {0}) R} {w : S}
      → WritesIn (λ (z : stmt.StmtP P A B C D E). stmts_frame_of z ∷ []) stmts_of_stmt by s x y (Ok tt) u
      → WritesIn later_forms_of own_and_nesting_of by u y z r w → WritesIn forms_of nesting_of by s x z r w
  then_later x y z q p =
      then_parts forms_of (λ (z : stmt.StmtP P A B C D E). stmts_frame_of z ∷ []) later_forms_of nesting_of stmts_of_stmt split later_kept nesting_kept x y z q
      (ap (λ (both : t.Form (payloads A B C D E) × t.Form (payloads A B C D E)). both.0 ∷ []) p.rest)
      (ap (λ (both : t.Form (payloads A B C D E) × t.Form (payloads A B C D E)). both.1) p.rest)
      p.calls

module _ {P A B C D E S R : Type 0} {by : Writing S (t.Form (payloads A B C D E)) R} {s u : S} {r : Result (Unit {0}) R} where
  pub block_written : (v : Vec (Spanned (stmt.StmtP P A B C D E)) Global) (xs ws : List (Spanned (stmt.StmtP P A B C D E))) → xs ≡ v.items
      → WritesIn (flat_map (λ (x : Spanned (stmt.StmtP P A B C D E)). forms_of x.node))
      (map (λ (x : Spanned (stmt.StmtP P A B C D E)). nesting (statement_of x))) by s xs ws r u
      → WritesIn later_forms_of own_and_nesting_of by s (stmt.Statements v) (stmt.Statements (with_items v ws)) r u
  block_written v xs ws same q =
      let p = subst (λ ys. WritesIn (flat_map (λ (x : Spanned (stmt.StmtP P A B C D E)). forms_of x.node))
      (map (λ (x : Spanned (stmt.StmtP P A B C D E)). nesting (statement_of x))) by s ys ws r u) same q in
      let e = with_items_all v ws (many ws v.items p.rest) in
      let own : stmts_frame_of (stmt.Statements (with_items v ws)) ≡ stmts_frame_of (stmt.Statements v) =
      own_framed (with_items v ws) ∙ ap (λ ys. t.Block (gaps (all_statements ys))) e
      ∙ ap t.Block (same_gaps (map statement_of ws) (map statement_of v.items) (as_many ws v.items p.rest)) ∙ sym (own_framed v) in
      let nested : nesting_of (stmt.Statements (with_items v ws)) ≡ nesting_of (stmt.Statements v) =
      block_nesting (with_items v ws)
      ∙ ap (λ ys. t.Block (t.statements_of (map (λ (x : Spanned (stmt.StmtP P A B C D E)). nesting (statement_of x)) ys))) e
      ∙ ap (λ zs. t.Block (t.statements_of zs)) p.rest
      ∙ sym (block_nesting v) in
      record {
        calls = write_at (sym (block_forms v)) (sym (block_forms (with_items v ws) ∙ ap (flat_map (λ (x : Spanned (stmt.StmtP P A B C D E)). forms_of x.node))
            e)) p.calls;
        rest = λ i. (own i, nested i);
      }

  pub if_written : (e : Spanned (ExprP P A B C D E)) (b : Box (Spanned (stmt.StmtP P A B C D E)) Global) (x : Spanned (stmt.StmtP P A B C D E))
      (y : stmt.StmtP P A B C D E) → x ≡ b.value
      → WritesIn forms_of nesting_of by s x.node y r u → WritesIn later_forms_of own_and_nesting_of by s (stmt.If e b)
      (stmt.If e (with_value b (record x { node = y }))) r u
  if_written e b x y same p = record {
    calls = write_at (ap (λ (z : Spanned (stmt.StmtP P A B C D E)). forms_of z.node) same) refl p.calls;
    rest =
        ap (λ n. (stmts_frame_of (stmt.If e b), t.Block (t.statements (t.statement (span_of x.span) n) t.no_statements))) p.rest
        ∙ ap (λ z. (stmts_frame_of (stmt.If e b), t.Block (t.statements (nesting (statement_of z)) t.no_statements))) same;
  }

  pub for_written : (f : ForP P A B C D E) (x : Spanned (stmt.StmtP P A B C D E)) (y : stmt.StmtP P A B C D E) → x ≡ f.body.value
      → WritesIn forms_of nesting_of by s x.node y r u → WritesIn later_forms_of own_and_nesting_of by s (stmt.For f)
      (stmt.For (record f { body = with_value f.body (record x { node = y }) })) r u
  for_written f x y same p = record {
    calls = write_at (ap (λ (z : Spanned (stmt.StmtP P A B C D E)). forms_of z.node) same) refl p.calls;
    rest =
        ap (λ n. (stmts_frame_of (stmt.For f), t.Block (t.statements (t.statement (span_of x.span) n) t.no_statements))) p.rest
        ∙ ap (λ z. (stmts_frame_of (stmt.For f), t.Block (t.statements (nesting (statement_of z)) t.no_statements))) same;
  }

  pub def_written : (d : DefP P A B C D E) (x : Spanned (stmt.StmtP P A B C D E)) (y : stmt.StmtP P A B C D E) → x ≡ d.body.value
      → WritesIn forms_of nesting_of by s x.node y r u → WritesIn later_forms_of own_and_nesting_of by s (stmt.Def d)
      (stmt.Def (record d { body = with_value d.body (record x { node = y }) })) r u
  def_written d x y same p = record {
    calls = write_at (ap (λ (z : Spanned (stmt.StmtP P A B C D E)). forms_of z.node) same) refl p.calls;
    rest =
        ap (λ n. (stmts_frame_of (stmt.Def d), t.Block (t.statements (t.statement (span_of x.span) n) t.no_statements))) p.rest
        ∙ ap (λ z. (stmts_frame_of (stmt.Def d), t.Block (t.statements (nesting (statement_of z)) t.no_statements))) same;
  }

  pub if_else_written : (e : Spanned (ExprP P A B C D E)) (b : Box (Spanned (stmt.StmtP P A B C D E) × Spanned (stmt.StmtP P A B C D E)) Global)
      (p q : Spanned (stmt.StmtP P A B C D E)) (x y : stmt.StmtP P A B C D E)
      → p ≡ b.value.0 → q ≡ b.value.1
      → WriteBy by s (forms_of p.node ++ forms_of q.node) (forms_of x ++ forms_of y) r u → nesting_of x ≡ nesting_of p.node → nesting_of y ≡ nesting_of q.node
      → WritesIn later_forms_of own_and_nesting_of by s (stmt.IfElse e b) (stmt.IfElse e (with_value b (record p { node = x }, record q { node = y }))) r u
  if_else_written e b p q x y left right calls first second =
      let one : nesting (t.statement (span_of p.span) (form_seen x)) ≡ nesting (statement_of b.value.0) = ap (t.statement (span_of p.span)) first
      ∙ ap (λ z. nesting (statement_of z)) left in
      let two : nesting (t.statement (span_of q.span) (form_seen y)) ≡ nesting (statement_of b.value.1) = ap (t.statement (span_of q.span)) second
      ∙ ap (λ z. nesting (statement_of z)) right in
      record {
        calls =
            write_at
            (ap (λ (z : Spanned (stmt.StmtP P A B C D E)). forms_of z.node ++ forms_of q.node) left
            ∙ ap (λ (z : Spanned (stmt.StmtP P A B C D E)). forms_of b.value.0.node ++ forms_of z.node) right)
            refl calls;
        rest = λ i. (stmts_frame_of (stmt.IfElse e b), t.Block (t.statements (one i) (t.statements (two i) t.no_statements)));
      }
