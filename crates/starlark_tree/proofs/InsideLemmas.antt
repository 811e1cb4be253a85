-- What is inside an expression: itself, and what is inside its children.
use Rattle.std.proofs.Common.{◌≡◌, List as Seq, [], ◌∷◌, ◌++◌, append_assoc, append-nil, refl, sym, ◌∙◌}
use Rattle.std.specs.List.{flat_map}
use Rattle.std.proofs.lemmas.Grind.{flat_map-append}
use Rattle.starlark_tree.specs.Ast as t
use Rattle.starlark_tree.specs.Ast.{Payloads, expression_list}
use Rattle.starlark_tree.specs.Inside.{inside, below, all_inside, maybe_inside, type_inside, pairs_inside, arguments_inside, argument_inside}
use Rattle.starlark_tree.specs.Inside.{parameters_inside, parameter_inside, for_inside, clauses_inside, clause_inside, target_inside, targets_inside}
use Rattle.starlark_tree.specs.Places.{target_exprs, targets_exprs, maybe_exprs, type_exprs, argument_expr, arguments_exprs, parameter_exprs}
use Rattle.starlark_tree.specs.Places.{parameters_exprs, for_exprs, clause_exprs, clauses_exprs, pairs_exprs, expr_children}

pair : {X : Type 0} {a b c d : Seq X} → a ≡ b → c ≡ d → a ++ c ≡ b ++ d
pair e f = cc

module _ {P : Payloads} where
  abbrev all : Seq (t.Expression P) → Seq (t.Expression P)
  all es = flat_map inside es

  pub one : (e : t.Expression P) → inside e ≡ all (e ∷ [])
  one e = sym (append-nil (inside e))

  pub join : {a b : Seq (t.Expression P)} (es fs : Seq (t.Expression P)) → a ≡ all es → b ≡ all fs → a ++ b ≡ all (es ++ fs)
  join es fs p q = pair p q ∙ sym (flat_map-append inside es fs)

  mutual
    pub in_target : (x : t.Target P) → target_inside x ≡ all (target_exprs x)
    in_target (t.TupleTarget s xs) = in_targets xs
    in_target (t.IndexTarget s a i) = pair {a = inside a} refl (one i)
    in_target (t.DotTarget s e w) = one e
    in_target (t.NameTarget s w p) = refl

    in_targets : (xs : t.Targets P) → targets_inside xs ≡ all (targets_exprs xs)
    in_targets t.no_targets = refl
    in_targets (t.targets x xs) = join (target_exprs x) (targets_exprs xs) (in_target x) (in_targets xs)

  in_expressions : (es : t.Expressions P) → all_inside es ≡ all (expression_list es)
  in_expressions t.no_expressions = refl
  in_expressions (t.expressions e es) = pair {a = inside e} refl (in_expressions es)

  in_maybe : (e : t.Maybe P) → maybe_inside e ≡ all (maybe_exprs e)
  in_maybe t.absent = refl
  in_maybe (t.present e) = one e

  pub in_type : (ty : t.MaybeType P) → type_inside ty ≡ all (type_exprs ty)
  in_type t.no_type = refl
  in_type (t.typed s e p) = one e

  in_pairs : (ps : t.Pairs P) → pairs_inside ps ≡ all (pairs_exprs ps)
  in_pairs t.no_pairs = refl
  in_pairs (t.pairs k v ps) = pair {a = inside k} refl (pair {a = inside v} refl (in_pairs ps))

  in_argument : (a : t.Argument P) → argument_inside a ≡ inside (argument_expr a)
  in_argument (t.Positional s e) = refl
  in_argument (t.Named s w e) = refl
  in_argument (t.Star s e) = refl
  in_argument (t.StarStar s e) = refl

  in_arguments : (xs : t.Arguments P) → arguments_inside xs ≡ all (arguments_exprs xs)
  in_arguments t.no_arguments = refl
  in_arguments (t.arguments a rest) = pair (in_argument a) (in_arguments rest)

  in_parameter : (p : t.Parameter P) → parameter_inside p ≡ all (parameter_exprs p)
  in_parameter (t.Slash s) = refl
  in_parameter (t.Normal s w p ty v) = join (type_exprs ty) (maybe_exprs v) (in_type ty) (in_maybe v)
  in_parameter (t.NoArgs s) = refl
  in_parameter (t.Args s w p ty) = in_type ty
  in_parameter (t.KwArgs s w p ty) = in_type ty

  pub in_parameters : (ps : t.Parameters P) → parameters_inside ps ≡ all (parameters_exprs ps)
  in_parameters t.no_parameters = refl
  in_parameters (t.parameters p ps) = join (parameter_exprs p) (parameters_exprs ps) (in_parameter p) (in_parameters ps)

  in_for : (c : t.ForIn P) → for_inside c ≡ all (for_exprs c)
  in_for (t.for_in x over) = join (target_exprs x) (over ∷ []) (in_target x) (one over)

  in_clause : (c : t.Clause P) → clause_inside c ≡ all (clause_exprs c)
  in_clause (t.for_clause c) = in_for c
  in_clause (t.if_clause e) = one e

  in_clauses : (cs : t.Clauses P) → clauses_inside cs ≡ all (clauses_exprs cs)
  in_clauses t.no_clauses = refl
  in_clauses (t.clauses c cs) = join (clause_exprs c) (clauses_exprs cs) (in_clause c) (in_clauses cs)

  pub below_children : (shape : t.Shape P) → below shape ≡ flat_map inside (expr_children shape)
  below_children (t.Tuple es) = in_expressions es
  below_children (t.Dot e w) = one e
  below_children (t.Call e xs) = pair {a = inside e} refl (in_arguments xs)
  below_children (t.Index a i) = pair {a = inside a} refl (one i)
  below_children (t.Index2 a i j) = pair {a = inside a} refl (pair {a = inside i} refl (one j))
  below_children (t.Slice a start stop step) =
      pair {a = inside a} refl (join (maybe_exprs start) (maybe_exprs stop ++ maybe_exprs step) (in_maybe start)
      (join (maybe_exprs stop) (maybe_exprs step) (in_maybe stop) (in_maybe step)))
  below_children (t.Identifier w p) = refl
  below_children (t.Lambda ps e p) = join (parameters_exprs ps) (e ∷ []) (in_parameters ps) (one e)
  below_children (t.Constant l) = refl
  below_children (t.Not e) = one e
  below_children (t.Minus e) = one e
  below_children (t.Plus e) = one e
  below_children (t.BitNot e) = one e
  below_children (t.Op l op r) = pair {a = inside l} refl (one r)
  below_children (t.If c v w) = pair {a = inside c} refl (pair {a = inside v} refl (one w))
  below_children (t.List es) = in_expressions es
  below_children (t.Dict ps) = in_pairs ps
  below_children (t.ListComprehension e for cs) =
      sym (append_assoc (for_inside for) (clauses_inside cs) (inside e)) ∙ join (for_exprs for ++ clauses_exprs cs) (e ∷ [])
      (join (for_exprs for) (clauses_exprs cs) (in_for for) (in_clauses cs)) (one e)
  below_children (t.DictComprehension k v for cs) =
      sym (append_assoc (for_inside for) (clauses_inside cs) (inside k ++ inside v))
      ∙ join (for_exprs for ++ clauses_exprs cs) (k ∷ v ∷ []) (join (for_exprs for) (clauses_exprs cs) (in_for for) (in_clauses cs))
      (pair {a = inside k} refl (one v))
  below_children (t.FString s w es) = in_expressions es
