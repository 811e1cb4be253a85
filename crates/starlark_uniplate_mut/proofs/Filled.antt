-- Statements in terms of the statements in them and of the forms without these.
use Rattle.std.proofs.Common.{◌≡◌, List, [], ◌∷◌, ◌++◌, map, refl, sym, ap, ◌∙◌, append_assoc}
use Rattle.std.specs.List.{flat_map}
use Rattle.std.proofs.lemmas.List.{append-nil, map-append}
use Rattle.std.proofs.lemmas.List.Concat.{flat_map-append}
use Rattle.starlark_lexer.specs.Tokens.{nowhere}
use Rattle.starlark_tree.specs.Ast as t
use Rattle.starlark_tree.specs.Ast.{statement_list, statements_of}
use Rattle.starlark_tree.specs.Children.{form_exprs, own_exprs, stmt_exprs, stmts_exprs}
use Rattle.starlark_uniplate_mut.specs.Forms.{all_forms, all_nesting, form_nesting, forms, nesting, statement_forms}
use Rattle.starlark_uniplate_mut.specs.FormFrames.{entered_frame, exprs_frame, form_entered_frame, statements_entered_frame}

module _ {Q : t.Payloads} where
  -- a statement with others in place of those in it
  abbrev refilled : t.Form Q → List (t.Statement Q) → t.Form Q
  refilled (t.Block ss) xs = t.Block (statements_of xs)
  refilled (t.IfThen e s) (x ∷ xs) = t.IfThen e x
  refilled (t.IfElse e s other) (x ∷ y ∷ ys) = t.IfElse e x y
  refilled (t.For target e s) (x ∷ xs) = t.For target e x
  refilled (t.Def w p ps ty s q) (x ∷ xs) = t.Def w p ps ty x q
  refilled form xs = form

-- the statement with as many statements as there are, from the forms that are given for them; and the forms that are left
abbrev mutual
  fill : {Q : t.Payloads} → t.Statement Q → List (t.Form Q) → t.Statement Q × List (t.Form Q)
  fill (t.statement s form) [] = (t.statement s form, [])
  fill (t.statement s (t.Block ss)) (f ∷ fs) = (t.statement s (refilled f (fill_all ss fs).0), (fill_all ss fs).1)
  fill (t.statement s other) (f ∷ fs) = (t.statement s f, fs)

  fill_all : {Q : t.Payloads} → t.Statements Q → List (t.Form Q) → List (t.Statement Q) × List (t.Form Q)
  fill_all t.no_statements fs = ([], fs)
  fill_all (t.statements x xs) fs = ((fill x fs).0 ∷ (fill_all xs (fill x fs).1).0, (fill_all xs (fill x fs).1).1)

module _ {Q : t.Payloads} where
  entered_list : (ss : t.Statements Q) → statements_of (map entered_frame (statement_list ss)) ≡ statements_entered_frame ss
  entered_list t.no_statements = refl
  entered_list (t.statements s ss) = ap (t.statements (entered_frame s)) (entered_list ss)

  shifted : (xs ys rest : List (t.Form Q)) → map exprs_frame (xs ++ ys) ++ rest ≡ map exprs_frame xs ++ (map exprs_frame ys ++ rest)
  shifted xs ys rest = ap (λ zs. zs ++ rest) (map-append exprs_frame xs ys) ∙ append_assoc (map exprs_frame xs) (map exprs_frame ys) rest

  one_filled : (s : t.Statement Q) (fs rest : List (t.Form Q)) → fill (nesting s) fs ≡ (entered_frame s, rest)
      → fill_all (t.statements (nesting s) t.no_statements) fs ≡ (entered_frame s ∷ [], rest)
  one_filled s fs rest e = ap (λ (a : t.Statement Q × List (t.Form Q)). (a.0 ∷ [], a.1)) e

  mutual
    filled : (x : t.Statement Q) (rest : List (t.Form Q)) → fill (nesting x) (map exprs_frame (statement_forms x) ++ rest) ≡ (entered_frame x, rest)
    filled (t.statement s (t.Block ss)) rest =
        ap (λ (a : List (t.Statement Q) × List (t.Form Q)). (t.statement s (t.Block (statements_of a.0)), a.1)) (all_filled ss rest)
        ∙ ap (λ ks. (t.statement s (t.Block ks), rest)) (entered_list ss)
    filled (t.statement s (t.IfThen e x)) rest =
        ap (λ (a : List (t.Statement Q) × List (t.Form Q)). (t.statement s (refilled (exprs_frame (t.IfThen e x)) a.0), a.1))
        (one_filled x _ rest (filled x rest))
    filled (t.statement s (t.IfElse e x y)) rest =
        ap (λ fs. fill (nesting (t.statement s (t.IfElse e x y))) (exprs_frame (t.IfElse e x y) ∷ fs)) (shifted (statement_forms x) (statement_forms y) rest)
        ∙ ap (λ (a : t.Statement Q × List (t.Form Q)). (
          t.statement s (refilled (exprs_frame (t.IfElse e x y)) (a.0 ∷ (fill (nesting y) a.1).0 ∷ [])),
          (fill (nesting y) a.1).1,
        )) (filled x (map exprs_frame (statement_forms y) ++ rest))
        ∙ ap (λ (a : t.Statement Q × List (t.Form Q)). (t.statement s (refilled (exprs_frame (t.IfElse e x y)) (entered_frame x ∷ a.0 ∷ [])), a.1))
        (filled y rest)
    filled (t.statement s (t.For target e x)) rest =
        ap (λ (a : List (t.Statement Q) × List (t.Form Q)). (t.statement s (refilled (exprs_frame (t.For target e x)) a.0), a.1))
        (one_filled x _ rest (filled x rest))
    filled (t.statement s (t.Def w p ps ty x q)) rest =
        ap (λ (a : List (t.Statement Q) × List (t.Form Q)). (t.statement s (refilled (exprs_frame (t.Def w p ps ty x q)) a.0), a.1))
        (one_filled x _ rest (filled x rest))
    filled (t.statement s other) rest = refl

    all_filled : (xs : t.Statements Q) (rest : List (t.Form Q)) → fill_all (all_nesting xs) (map exprs_frame (all_forms xs) ++ rest)
        ≡ (map entered_frame (statement_list xs), rest)
    all_filled t.no_statements rest = refl
    all_filled (t.statements x xs) rest =
        ap (fill_all (t.statements (nesting x) (all_nesting xs))) (shifted (statement_forms x) (all_forms xs) rest)
        ∙ ap (λ (a : t.Statement Q × List (t.Form Q)). (a.0 ∷ (fill_all (all_nesting xs) a.1).0, (fill_all (all_nesting xs) a.1).1))
        (filled x (map exprs_frame (all_forms xs) ++ rest))
        ∙ ap (λ (a : List (t.Statement Q) × List (t.Form Q)). (entered_frame x ∷ a.0, a.1)) (all_filled xs rest)

  abbrev form_in : t.Statement Q → t.Form Q
  form_in (t.statement s form) = form

  pub same_entered : (x y : t.Form Q) → form_nesting y ≡ form_nesting x → map exprs_frame (forms y) ≡ map exprs_frame (forms x) → form_entered_frame y
      ≡ form_entered_frame x
  same_entered x y e d =
      ap (λ (a : t.Statement Q × List (t.Form Q)). form_in a.0) (sym (filled (t.statement nowhere y) []))
      ∙ ap (λ n. form_in (fill (t.statement nowhere n) (map exprs_frame (forms y) ++ [])).0) e
      ∙ ap (λ fs. form_in (fill (t.statement nowhere (form_nesting x)) (fs ++ [])).0) d
      ∙ ap (λ (a : t.Statement Q × List (t.Form Q)). form_in a.0) (filled (t.statement nowhere x) [])

-- the expressions of a statement are those of the forms of it
mutual
  in_statement : {Q : t.Payloads} (x : t.Statement Q) → stmt_exprs x ≡ flat_map own_exprs (statement_forms x)
  in_statement (t.statement s form) = exprs_in_forms form

  pub exprs_in_forms : {Q : t.Payloads} (form : t.Form Q) → form_exprs form ≡ flat_map own_exprs (forms form)
  exprs_in_forms (t.Block ss) = in_all ss
  exprs_in_forms (t.IfThen e s) = ap (λ es. e ∷ es) (in_statement s)
  exprs_in_forms (t.IfElse e s other) =
      ap (λ es. e ∷ (es ++ stmt_exprs other)) (in_statement s) ∙ ap (λ es. e ∷ (flat_map own_exprs (statement_forms s) ++ es)) (in_statement other)
      ∙ ap (λ es. e ∷ es) (sym (flat_map-append own_exprs (statement_forms s) (statement_forms other)))
  exprs_in_forms (t.For x e s) = ap (λ es. own_exprs (t.For x e s) ++ es) (in_statement s)
  exprs_in_forms (t.Def w p ps ty s q) = ap (λ es. own_exprs (t.Def w p ps ty s q) ++ es) (in_statement s)
  exprs_in_forms other = sym (append-nil (own_exprs other))

  in_all : {Q : t.Payloads} (xs : t.Statements Q) → stmts_exprs xs ≡ flat_map own_exprs (all_forms xs)
  in_all t.no_statements = refl
  in_all (t.statements x xs) =
      ap (λ es. es ++ stmts_exprs xs) (in_statement x) ∙ ap (λ es. flat_map own_exprs (statement_forms x) ++ es) (in_all xs)
      ∙ sym (flat_map-append own_exprs (statement_forms x) (all_forms xs))
