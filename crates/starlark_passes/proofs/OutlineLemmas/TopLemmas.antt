-- The statements at the top of a tree, and others in place of them.
use Rattle.std.proofs.Common.{◌≡◌, ℕ, zero, suc, ◌-◌, ◌+◌, ◌<◌, ◌≤◌, List, [], ◌∷◌, ◌++◌, length, take, drop, get_or, set, map, Vec, Global, refl, sym, ap}
use Rattle.std.proofs.Common.{◌∙◌, arith, subst, length-append, length-drop, append-nil}
use Rattle.std.specs.Fn.{Mut}
use Rattle.std.specs.List.{flat_map}
use Rattle.std.specs.Vec.{with_items}
use Rattle.std.proofs.lemmas.List.{take_more, take_all, drop_more, drop_all, drop-append-le, map-set, length-map, nil_from_length}
use Rattle.std.proofs.lemmas.Grind.{flat_map-append}
use Rattle.std.proofs.Math.ListN.{get_or-map}
use Rattle.std.proofs.Math.Seq.{drop-nil}
use denote.Ref.{MutBor}
use Rattle.starlark_lexer.specs.Tokens.{Span, span_of}
use Rattle.starlark_lexer.specs.declared.span.Spanned.{Spanned}
use Rattle.starlark_tree.specs.Ast as t
use Rattle.starlark_tree.specs.Ast.{Payloads}
use Rattle.starlark_tree.specs.Views.{form_seen, payloads, statement_of}
use Rattle.starlark_tree.specs.declared.ast.StmtP as stmts
use Rattle.starlark_tree.specs.declared.ast.StmtP.TheBlock as Stmts
use Rattle.starlark_tree.specs.declared.ast.StmtP.TheViews.{outs-Statements', rolls-Statements}
use Rattle.starlark_tree.proofs.Rows.{statements_seen_of}
use Rattle.starlark_passes.specs.Outline.Outline.{all_top, top_statements}
use Rattle.starlark_passes.specs.Outline.Tops.{WritesTop, WritesTops, all_with_top, each_with_top, first_or, with_top}
use Rattle.starlark_tree.specs.Walks.{MayWalk, MayWrite, Writes, WritesSeen, may_walk, writes}
use Rattle.starlark_tree.proofs.LentParts.{with_items_all}
use Rattle.starlark_tree.proofs.Steps.{may_left}

-- how large a statement is: how many are at its top, counting lists too
abbrev mutual
  pub top_size : {P : Payloads} → t.Statement P → ℕ
  top_size (t.statement s (t.Block ss)) = 2 + tops_size ss
  top_size (t.statement s other) = 1

  pub tops_size : {P : Payloads} → t.Statements P → ℕ
  tops_size t.no_statements = 0
  tops_size (t.statements s ss) = top_size s + tops_size ss

module _ {P : Payloads} where
  mutual
    pub none_given : (s : t.Statement P) → with_top s [] ≡ s
    none_given (t.statement s (t.Block ss)) = ap (λ l. t.statement s (t.Block l)) (none_given_all ss)
    none_given (t.statement s other) = refl

    none_given_all : (ss : t.Statements P) → all_with_top ss [] ≡ ss
    none_given_all t.no_statements = refl
    none_given_all (t.statements s ss) = λ i. t.statements (none_given s i) ((ap (all_with_top ss) (drop-nil (length (top_statements s))) ∙ none_given_all ss)
        i)

  at_first : (s : t.Statement P) (xs ys : List (t.Statement P)) → 1 ≤ length xs → first_or s (xs ++ ys) ≡ first_or s xs
  at_first s [] ys fits = absurd (omega arith)
  at_first s (x ∷ xs) ys fits = refl

  -- what is passed in after the last statement does not matter
  mutual
    pub enough_given : (s : t.Statement P) (xs ys : List (t.Statement P)) → length (top_statements s) ≤ length xs → with_top s (xs ++ ys) ≡ with_top s xs
    enough_given (t.statement s (t.Block ss)) xs ys fits = ap (λ l. t.statement s (t.Block l)) (enough_given_all ss xs ys fits)
    enough_given (t.statement s other) xs ys fits = at_first (t.statement s other) xs ys fits

    enough_given_all : (ss : t.Statements P) (xs ys : List (t.Statement P)) → length (all_top ss) ≤ length xs → all_with_top ss (xs ++ ys) ≡ all_with_top ss xs
    enough_given_all t.no_statements xs ys fits = refl
    enough_given_all (t.statements s ss) xs ys fits =
        let both = length-append (top_statements s) (all_top ss) in
        let rest = length-drop (length (top_statements s)) xs in
        let here : length (top_statements s) ≤ length xs = omega (arith, both, fits) in
        let after : length (all_top ss) ≤ length (drop (length (top_statements s)) xs) = omega (arith, both, rest, fits) in
        λ i. t.statements (enough_given s xs ys here i)
        ((ap (all_with_top ss) (drop-append-le (length (top_statements s)) xs ys here) ∙ enough_given_all ss (drop (length (top_statements s)) xs) ys after) i)

  pub all_top_of : (xs : List (t.Statement P)) → all_top (t.statements_of xs) ≡ flat_map top_statements xs
  all_top_of [] = refl
  all_top_of (x ∷ xs) = ap (λ l. top_statements x ++ l) (all_top_of xs)

  pub all_with_top_of : (xs given : List (t.Statement P)) → all_with_top (t.statements_of xs) given ≡ t.statements_of (each_with_top xs given)
  all_with_top_of [] given = refl
  all_with_top_of (x ∷ xs) given = ap (t.statements (with_top x given)) (all_with_top_of xs (drop (length (top_statements x)) given))

  each-none : (xs : List (t.Statement P)) → each_with_top xs [] ≡ xs
  each-none [] = refl
  each-none (x ∷ xs) = λ i. none_given x i ∷ (ap (each_with_top xs) (drop-nil (length (top_statements x))) ∙ each-none xs) i

  -- the next statement is unchanged
  each-next : (xs given : List (t.Statement P)) (i : ℕ) (d : t.Statement P) → length given ≡ length (flat_map top_statements (take i xs))
      → get_or (each_with_top xs given) i d ≡ get_or xs i d
  each-next [] given i d e = refl
  each-next (x ∷ xs) given zero d e = ap (with_top x) (nil_from_length given e) ∙ none_given x
  each-next (x ∷ xs) given (suc i) d e =
      let both = length-append (top_statements x) (flat_map top_statements (take i xs)) in
      let rest = length-drop (length (top_statements x)) given in
      each-next xs (drop (length (top_statements x)) given) i d (omega (arith, both, rest, e))

  -- and then others are at its top
  each-step : (xs given more : List (t.Statement P)) (i : ℕ) (d : t.Statement P) → i < length xs → length given ≡ length (flat_map top_statements (take i xs))
      → length more ≡ length (top_statements (get_or xs i d)) → set (each_with_top xs given) i (with_top (get_or xs i d) more)
      ≡ each_with_top xs (given ++ more)
  each-step [] given more i d within e f = absurd (omega arith)
  each-step (x ∷ xs) given more zero d within e f =
      let nothing = nil_from_length given e in
      let rest : each_with_top xs (drop (length (top_statements x)) given) ≡ each_with_top xs (drop (length (top_statements x)) more) =
      ap (λ l. each_with_top xs (drop (length (top_statements x)) l)) nothing ∙ ap (each_with_top xs) (drop-nil (length (top_statements x))
      ∙ sym (drop_all (length (top_statements x)) more (omega (arith, f)))) in
      ap (λ l. with_top x more ∷ l) rest ∙ ap (λ l. with_top x (l ++ more) ∷ each_with_top xs (drop (length (top_statements x)) (l ++ more))) (sym nothing)
  each-step (x ∷ xs) given more (suc i) d within e f =
      let both = length-append (top_statements x) (flat_map top_statements (take i xs)) in
      let rest = length-drop (length (top_statements x)) given in
      let here : length (top_statements x) ≤ length given = omega (arith, both, e) in
      λ k. sym (enough_given x given more here) k
      ∷ (each-step xs (drop (length (top_statements x)) given) more i d (omega arith) (omega (arith, both, rest, e)) f
      ∙ ap (each_with_top xs) (sym (drop-append-le (length (top_statements x)) given more here))) k

  size_at : (xs : List (t.Statement P)) (i : ℕ) (d : t.Statement P) → i < length xs → top_size (get_or xs i d) ≤ tops_size (t.statements_of xs)
  size_at [] i d within = absurd (omega arith)
  size_at (x ∷ xs) zero d within = omega arith
  size_at (x ∷ xs) (suc i) d within = let h = size_at xs i d (omega arith) in omega (arith, h)

-- writing one list of statements after another
module _ {F A X : Type 0} (seen : A → X) (g : Mut F (MutBor A × Unit {0}) (Unit {0} × (MutBor A × Unit {0}))) where
  may_right : (f : F) (xs ys ws : List X) (k : F) → may_walk (λ f x. (a : MutBor A) → seen a.now ≡ x → g.pre f (a, tt))
      (λ s x t. (y : X) × WritesSeen seen g s x y tt t) f (xs ++ ys)
      → writes seen g f xs ws k → may_walk (λ f x. (a : MutBor A) → seen a.now ≡ x → g.pre f (a, tt)) (λ s x t. (y : X) × WritesSeen seen g s x y tt t) k ys
  may_right f [] ys [] k h w = rw w h
  may_right f [] ys (y ∷ ws) k h w = absurd w
  may_right f (x ∷ xs) ys [] k h w = absurd w
  may_right f (x ∷ xs) ys (y ∷ ws) k h w = may_right w.0 xs ys ws k (h.1 w.0 (y, w.1)) w.2

  both_written : (f : F) (xs us : List X) (h : F) (ys vs : List X) (k : F) → writes seen g f xs us h → writes seen g h ys vs k
      → writes seen g f (xs ++ ys) (us ++ vs) k
  both_written f [] [] h ys vs k p q = subst (λ z. writes seen g z ys vs k) p q
  both_written f [] (u ∷ us) h ys vs k p q = absurd p
  both_written f (x ∷ xs) [] h ys vs k p q = absurd p
  both_written f (x ∷ xs) (u ∷ us) h ys vs k p q = (p.0, p.1, both_written p.0 xs us h ys vs k p.2 q)

  as_many : (f : F) (xs ys : List X) (h : F) → writes seen g f xs ys h → length ys ≡ length xs
  as_many f [] [] h p = refl
  as_many f (x ∷ xs) (y ∷ ys) h p = let e = as_many p.0 xs ys h p.2 in omega (arith, e)
  as_many f [] (y ∷ ys) h p = absurd p
  as_many f (x ∷ xs) [] h p = absurd p

flat_more : {X Y : Type 0} (f : X → List Y) (xs : List X) (i : ℕ) (d : X) → i < length xs → flat_map f (take (i + 1) xs) ≡ flat_map f (take i xs)
    ++ f (get_or xs i d)
flat_more f xs i d within =
    ap (flat_map f) (take_more xs i d within) ∙ flat_map-append f (take i xs) (get_or xs i d ∷ [])
    ∙ ap (λ l. flat_map f (take i xs) ++ l) (append-nil (f (get_or xs i d)))

-- A loop over statements, each of which is written at its top.
module _ {F A : Type 0} {P : Payloads} (seen : A → t.Statement P) (g : Mut F (MutBor A × Unit {0}) (Unit {0} × (MutBor A × Unit {0}))) (start : F)
    (old : List A) where
  -- those before an index are written, and those from there on may be
  pub record SoFar (i : ℕ) (f : F) (now : List A) : Type 0 where
    pub left : List (t.Statement P)
    pub calls : Writes seen g start (flat_map top_statements (take i (map seen old))) left f
    pub stands : map seen now ≡ each_with_top (map seen old) left
    pub may : MayWrite seen g f (flat_map top_statements (drop i (map seen old)))

  pub none_yet : MayWrite seen g start (flat_map top_statements (map seen old)) → SoFar 0 start old
  none_yet h = record { left = []; calls = record { calls = refl }; stands = sym (each-none (map seen old)); may = h }

  pub next_is : (i : ℕ) (f : F) (now : List A) (d : A) → SoFar i f now → seen (get_or now i d) ≡ get_or (map seen old) i (seen d)
  next_is i f now d h =
      sym (get_or-map seen now i d) ∙ ap (λ l. get_or l i (seen d)) h.stands
      ∙ each-next (map seen old) h.left i (seen d) (as_many seen g start (flat_map top_statements (take i (map seen old))) h.left f h.calls.calls)

  from_here : (i : ℕ) (d : A) → i < length old → flat_map top_statements (drop i (map seen old)) ≡ top_statements (get_or (map seen old) i (seen d))
      ++ flat_map top_statements (drop (i + 1) (map seen old))
  from_here i d within = ap (flat_map top_statements) (drop_more (map seen old) i (seen d) (rw (length-map old seen) within))

  pub may_next : (i : ℕ) (f : F) (now : List A) (d : A) → i < length old → SoFar i f now → MayWrite seen g f (top_statements (seen (get_or now i d)))
  may_next i f now d within h =
      let here = next_is i f now d h in
      let may = rw (from_here i d within) at h.may in
      rw here (may_left (top_statements (get_or (map seen old) i (seen d))) (flat_map top_statements (drop (i + 1) (map seen old))) may)

  pub one_more : (i : ℕ) (f : F) (now : List A) (d y : A) (k : F) → i < length old → SoFar i f now → WritesTop seen g f (seen (get_or now i d)) (seen y) k
      → SoFar (i + 1) k (set now i y)
  one_more i f now d y k within h r =
      let here = next_is i f now d h in
      let calls : Writes seen g f (top_statements (get_or (map seen old) i (seen d))) r.left k = rw here at r.calls in
      let may = rw (from_here i d within) at h.may in
      let before = as_many seen g start (flat_map top_statements (take i (map seen old))) h.left f h.calls.calls in
      let many = as_many seen g f (top_statements (get_or (map seen old) i (seen d))) r.left k calls.calls in
      record {
        left = h.left ++ r.left;
        calls =
            rw (flat_more top_statements (map seen old) i (seen d) (rw (length-map old seen) within))
            (record {
              calls =
                  both_written seen g start (flat_map top_statements (take i (map seen old))) h.left f (top_statements (get_or (map seen old) i (seen d)))
                  r.left k h.calls.calls calls.calls;
            });
        stands =
            map-set seen now i y ∙ ap (λ l. set l i (seen y)) h.stands
            ∙ ap (λ z. set (each_with_top (map seen old) h.left) i z) (r.stands ∙ ap (λ z. with_top z r.left) here)
            ∙ each-step (map seen old) h.left r.left i (seen d) (rw (length-map old seen) within) before many;
        may =
            record {
              each =
                  may_right seen g f (top_statements (get_or (map seen old) i (seen d))) (flat_map top_statements (drop (i + 1) (map seen old))) r.left k
                  may.each calls.calls;
            };
      }

  pub all_done : (i : ℕ) (f : F) (now : List A) → length old ≤ i → SoFar i f now → WritesTops seen g start (map seen old) (map seen now) f
  all_done i f now end h = record {
    left = h.left;
    calls = rw (take_all i (map seen old) (rw (length-map old seen) end)) at h.calls;
    stands = h.stands;
  }

  -- a statement of those that the loop goes over is smaller than they
  pub item_falls : (i : ℕ) (f : F) (now : List A) (d : A) (n : ℕ) → i < length old → SoFar i f now → 1 + tops_size (t.statements_of (map seen old)) ≡ n
      → top_size (seen (get_or now i d)) < n
  item_falls i f now d n within h is =
      let here = next_is i f now d h in
      let fits = size_at (map seen old) i (seen d) (rw (length-map old seen) within) in
      rw here (omega (arith, fits, is))

-- a statement that is a list of statements
module _ {P : Payloads} where
  pub block_falls : (x : t.Statement P) (s : Span) (ss : t.Statements P) (n : ℕ) → x ≡ t.statement s (t.Block ss) → top_size x ≡ n → 1 + tops_size ss < n
  block_falls x s ss n e is = let h = ap top_size e in omega (arith, h, is)

module _ {F A : Type 0} {P : Payloads} {seen : A → t.Statement P} {g : Mut F (MutBor A × Unit {0}) (Unit {0} × (MutBor A × Unit {0}))} where
  pub may_block : {f : F} (xs : List (t.Statement P)) {x : t.Statement P} (s : Span) → x ≡ t.statement s (t.Block (t.statements_of xs))
      → MayWrite seen g f (top_statements x) → MayWrite seen g f (flat_map top_statements xs)
  may_block xs s e h = rw (all_top_of xs) at (rw e at h)

  pub block_written : {f h : F} {xs ys : List (t.Statement P)} {x y : t.Statement P} (s : Span) → x ≡ t.statement s (t.Block (t.statements_of xs))
      → y ≡ t.statement s (t.Block (t.statements_of ys))
      → WritesTops seen g f xs ys h → WritesTop seen g f x y h
  block_written {xs} s d e w = rw (d, e) (record {
    left = w.left;
    calls = rw (all_top_of xs) w.calls;
    stands = ap (λ l. t.statement s (t.Block (t.statements_of l))) w.stands ∙ ap (λ l. t.statement s (t.Block l)) (sym (all_with_top_of xs w.left));
  })

module _ {P A B C D E : Type 0} where
  pub block_old : (s : Spanned (stmts.StmtP P A B C D E)) (v w : Vec (Spanned (stmts.StmtP P A B C D E)) Global)
      (xs : List (Spanned (stmts.StmtP P A B C D E))) → s.node ≡ stmts.Statements v → xs ≡ w.items → w ≡ v
      → statement_of s ≡ t.statement (span_of s.span) (t.Block (t.statements_of (map statement_of xs)))
  block_old s v w xs is value same =
      ap (λ n. t.statement (span_of s.span) (form_seen n)) is ∙ ap (λ l. t.statement (span_of s.span) (t.Block l)) (statements_seen_of v)
      ∙ ap (λ l. t.statement (span_of s.span) (t.Block (t.statements_of (map statement_of l)))) (sym (value ∙ ap (λ u. u.items) same))

  pub block_new : (s : Span) (v : Vec (Spanned (stmts.StmtP P A B C D E)) Global) (ws : List (Spanned (stmts.StmtP P A B C D E))) → length ws ≡ length v.items
      → t.statement s (form_seen (stmts.Statements (with_items v ws))) ≡ t.statement s (t.Block (t.statements_of (map statement_of ws)))
  block_new s v ws kept = ap (λ l. t.statement s (t.Block l)) (statements_seen_of (with_items v ws))
      ∙ ap (λ l. t.statement s (t.Block (t.statements_of (map statement_of l)))) (with_items_all v ws kept)

-- a statement that is not a list of statements
module _ {P A B C D E : Type 0} where
  pub alone : (s : Span) (node : stmts.StmtP P A B C D E) → ((v : Vec (Spanned (stmts.StmtP P A B C D E)) Global) → node ≡ stmts.Statements v → ⊥)
      → top_statements (t.statement s (form_seen node)) ≡ t.statement s (form_seen node) ∷ []
  alone s (stmts.Statements' shape row) no_list = absurd (no_list (Stmts.shown-the_row-StmtP-Statements-0-2-0 P A B C D E shape row) (list_of_row shape row))
    where
      list_of_row : (shape : _) (row : _) → stmts.Statements' shape row ≡ stmts.Statements (Stmts.shown-the_row-StmtP-Statements-0-2-0 P A B C D E shape row)
      list_of_row shape row = sym (stmts.roll-out-StmtP P A B C D E (stmts.Statements' shape row))
          ∙ ap (stmts.roll-StmtP P A B C D E) (outs-Statements' shape row) ∙ rolls-Statements _
  alone s _ no_list = refl

  in_its_place : (s : Span) (node : stmts.StmtP P A B C D E) → ((v : Vec (Spanned (stmts.StmtP P A B C D E)) Global) → node ≡ stmts.Statements v → ⊥)
      → (y : t.Statement (payloads A B C D E)) → with_top (t.statement s (form_seen node)) (y ∷ []) ≡ y
  in_its_place s (stmts.Statements' shape row) no_list y =
      absurd (no_list (Stmts.shown-the_row-StmtP-Statements-0-2-0 P A B C D E shape row) (list_of_row shape row))
    where
      list_of_row : (shape : _) (row : _) → stmts.Statements' shape row ≡ stmts.Statements (Stmts.shown-the_row-StmtP-Statements-0-2-0 P A B C D E shape row)
      list_of_row shape row = sym (stmts.roll-out-StmtP P A B C D E (stmts.Statements' shape row))
          ∙ ap (stmts.roll-StmtP P A B C D E) (outs-Statements' shape row) ∙ rolls-Statements _
  in_its_place s _ no_list y = refl

  module _ {F H : Type 0} {seen : H → t.Statement (payloads A B C D E)} {g : Mut F (MutBor H × Unit {0}) (Unit {0} × (MutBor H × Unit {0}))} where
    pub may_alone : {f : F} (s : Span) (node : stmts.StmtP P A B C D E) → ((v : Vec (Spanned (stmts.StmtP P A B C D E)) Global) → node ≡ stmts.Statements v → ⊥)
        → MayWrite seen g f (top_statements (t.statement s (form_seen node))) → (a : MutBor H) → seen a.now ≡ t.statement s (form_seen node) → g.pre f (a, tt)
    may_alone s node no_list h = let may = rw (alone s node no_list) at h in may.each.0

    pub written_alone : {f h : F} {y : t.Statement (payloads A B C D E)} (s : Span) (node : stmts.StmtP P A B C D E)
        → ((v : Vec (Spanned (stmts.StmtP P A B C D E)) Global) → node ≡ stmts.Statements v → ⊥)
        → WritesSeen seen g f (t.statement s (form_seen node)) y tt h → WritesTop seen g f (t.statement s (form_seen node)) y h
    written_alone {h} {y} s node no_list w = record {
      left = y ∷ [];
      calls = rw (alone s node no_list) (record { calls = (h, w, refl) });
      stands = sym (in_its_place s node no_list y);
    }
