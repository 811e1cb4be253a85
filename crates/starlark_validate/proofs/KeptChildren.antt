-- The faults of an expression: those of its children in the order of the text, and then its own.
use Rattle.std.proofs.Common.{◌≡◌, List as Seq, [], ◌∷◌, ◌++◌, append_assoc, append-nil, refl, sym, ◌∙◌, ap}
use Rattle.std.specs.List.{flat_map}
use Rattle.std.proofs.lemmas.Grind.{flat_map-append}
use Rattle.starlark_lexer.specs.declared.dialect.Dialect.{Dialect}
use Rattle.starlark_tree.specs.Ast as t
use Rattle.starlark_tree.specs.Ast.{Payloads, argument_list, expression_list}
use Rattle.starlark_tree.specs.Places.{target_exprs, targets_exprs, maybe_exprs, type_exprs, argument_expr, arguments_exprs, parameter_exprs}
use Rattle.starlark_tree.specs.Places.{parameters_exprs, for_exprs, clause_exprs, clauses_exprs, pairs_exprs}
use Rattle.starlark_spec.specs.Faults.{Fault}
use Rattle.starlark_validate.specs.KeptTreeFaults.{call_faults, in_expression, in_shape, in_expressions, in_maybe, in_type, in_pairs, in_arguments, in_argument}
use Rattle.starlark_validate.specs.KeptTreeFaults.{in_parameters, in_parameter, in_for, in_clauses, in_clause, in_target, in_targets}
use Rattle.starlark_validate.specs.Walks.InText.{children_in_text, own_kept}

pub pair : {X : Type 0} {a b c d : Seq X} → a ≡ b → c ≡ d → a ++ c ≡ b ++ d
pair e f = cc

module _ {P : Payloads} (d : Dialect) where
  abbrev faults : Seq (t.Expression P) → Seq Fault
  faults es = flat_map (in_expression d) es

  pub one : (e : t.Expression P) → in_expression d e ≡ faults (e ∷ [])
  one e = sym (append-nil (in_expression d e))

  pub join : {a b : Seq Fault} (es fs : Seq (t.Expression P)) → a ≡ faults es → b ≡ faults fs → a ++ b ≡ faults (es ++ fs)
  join es fs p q = pair p q ∙ sym (flat_map-append (in_expression d) es fs)

  mutual
    pub target_kept : (x : t.Target P) → in_target d x ≡ faults (target_exprs x)
    target_kept (t.TupleTarget s xs) = targets_kept xs
    target_kept (t.IndexTarget s a i) = pair {a = in_expression d a} refl (one i)
    target_kept (t.DotTarget s e w) = one e
    target_kept (t.NameTarget s w p) = refl

    targets_kept : (xs : t.Targets P) → in_targets d xs ≡ faults (targets_exprs xs)
    targets_kept t.no_targets = refl
    targets_kept (t.targets x xs) = join (target_exprs x) (targets_exprs xs) (target_kept x) (targets_kept xs)

  expressions_kept : (es : t.Expressions P) → in_expressions d es ≡ faults (expression_list es)
  expressions_kept t.no_expressions = refl
  expressions_kept (t.expressions e es) = pair {a = in_expression d e} refl (expressions_kept es)

  maybe_kept : (e : t.Maybe P) → in_maybe d e ≡ faults (maybe_exprs e)
  maybe_kept t.absent = refl
  maybe_kept (t.present e) = one e

  pub type_kept : (ty : t.MaybeType P) → in_type d ty ≡ faults (type_exprs ty)
  type_kept t.no_type = refl
  type_kept (t.typed s e p) = one e

  pairs_kept : (ps : t.Pairs P) → in_pairs d ps ≡ faults (pairs_exprs ps)
  pairs_kept t.no_pairs = refl
  pairs_kept (t.pairs k v ps) = pair {a = in_expression d k} refl (pair {a = in_expression d v} refl (pairs_kept ps))

  argument_kept : (a : t.Argument P) → in_argument d a ≡ in_expression d (argument_expr a)
  argument_kept (t.Positional s e) = refl
  argument_kept (t.Named s w e) = refl
  argument_kept (t.Star s e) = refl
  argument_kept (t.StarStar s e) = refl

  arguments_kept : (xs : t.Arguments P) → in_arguments d xs ≡ faults (arguments_exprs xs)
  arguments_kept t.no_arguments = refl
  arguments_kept (t.arguments a rest) = pair (argument_kept a) (arguments_kept rest)

  parameter_kept : (p : t.Parameter P) → in_parameter d p ≡ faults (parameter_exprs p)
  parameter_kept (t.Slash s) = refl
  parameter_kept (t.Normal s w p ty v) = join (type_exprs ty) (maybe_exprs v) (type_kept ty) (maybe_kept v)
  parameter_kept (t.NoArgs s) = refl
  parameter_kept (t.Args s w p ty) = type_kept ty
  parameter_kept (t.KwArgs s w p ty) = type_kept ty

  pub parameters_kept : (ps : t.Parameters P) → in_parameters d ps ≡ faults (parameters_exprs ps)
  parameters_kept t.no_parameters = refl
  parameters_kept (t.parameters p ps) = join (parameter_exprs p) (parameters_exprs ps) (parameter_kept p) (parameters_kept ps)

  for_kept : (c : t.ForIn P) → in_for d c ≡ faults (for_exprs c)
  for_kept (t.for_in x over) = join (target_exprs x) (over ∷ []) (target_kept x) (one over)

  clause_kept : (c : t.Clause P) → in_clause d c ≡ faults (clause_exprs c)
  clause_kept (t.for_clause c) = for_kept c
  clause_kept (t.if_clause e) = one e

  clauses_kept : (cs : t.Clauses P) → in_clauses d cs ≡ faults (clauses_exprs cs)
  clauses_kept t.no_clauses = refl
  clauses_kept (t.clauses c cs) = join (clause_exprs c) (clauses_exprs cs) (clause_kept c) (clauses_kept cs)

  -- no fault of its own
  pub none : {a : Seq Fault} (es : Seq (t.Expression P)) → a ≡ faults es → a ≡ faults es ++ []
  none es p = p ∙ sym (append-nil (faults es))

  pub shape_kept : (shape : t.Shape P) → in_shape d shape ≡ flat_map (in_expression d) (children_in_text shape) ++ own_kept d shape
  shape_kept (t.Tuple es) = none (expression_list es) (expressions_kept es)
  shape_kept (t.Dot e w) = none (e ∷ []) (one e)
  shape_kept (t.Call e xs) = pair {a = in_expression d e} refl (pair (arguments_kept xs) refl)
      ∙ sym (append_assoc (in_expression d e) (faults (arguments_exprs xs)) (call_faults (argument_list xs)))
  shape_kept (t.Index a i) = none (a ∷ i ∷ []) (pair {a = in_expression d a} refl (one i))
  shape_kept (t.Index2 a i j) = none (a ∷ i ∷ j ∷ []) (pair {a = in_expression d a} refl (pair {a = in_expression d i} refl (one j)))
  shape_kept (t.Slice a start stop step) =
      none (a ∷ (maybe_exprs start ++ (maybe_exprs stop ++ maybe_exprs step)))
      (pair {a = in_expression d a} refl (join (maybe_exprs start) (maybe_exprs stop ++ maybe_exprs step) (maybe_kept start)
      (join (maybe_exprs stop) (maybe_exprs step) (maybe_kept stop) (maybe_kept step))))
  shape_kept (t.Identifier w p) = refl
  shape_kept (t.Lambda ps e p) = none (parameters_exprs ps ++ e ∷ []) (join (parameters_exprs ps) (e ∷ []) (parameters_kept ps) (one e))
  shape_kept (t.Constant l) = refl
  shape_kept (t.Not e) = none (e ∷ []) (one e)
  shape_kept (t.Minus e) = none (e ∷ []) (one e)
  shape_kept (t.Plus e) = none (e ∷ []) (one e)
  shape_kept (t.BitNot e) = none (e ∷ []) (one e)
  shape_kept (t.Op l op r) = none (l ∷ r ∷ []) (pair {a = in_expression d l} refl (one r))
  shape_kept (t.If c v w) = none (v ∷ c ∷ w ∷ []) (pair {a = in_expression d v} refl (pair {a = in_expression d c} refl (one w)))
  shape_kept (t.List es) = none (expression_list es) (expressions_kept es)
  shape_kept (t.Dict ps) = none (pairs_exprs ps) (pairs_kept ps)
  shape_kept (t.ListComprehension e for cs) = none (e ∷ (for_exprs for ++ clauses_exprs cs))
      (pair {a = in_expression d e} refl (join (for_exprs for) (clauses_exprs cs) (for_kept for) (clauses_kept cs)))
  shape_kept (t.DictComprehension k v for cs) = none (k ∷ v ∷ (for_exprs for ++ clauses_exprs cs))
      (pair {a = in_expression d k} refl (pair {a = in_expression d v} refl (join (for_exprs for) (clauses_exprs cs) (for_kept for) (clauses_kept cs))))
  shape_kept (t.FString s w es) = pair (expressions_kept es) refl

  -- those of the children, and its own
  pub with_own : {es : Seq (t.Expression P)} (shape : t.Shape P) → es ≡ children_in_text shape → flat_map (in_expression d) es ++ own_kept d shape
      ≡ in_shape d shape
  with_own shape same = ap (λ xs. flat_map (in_expression d) xs ++ own_kept d shape) same ∙ sym (shape_kept shape)
