-- The identifiers of a tree by recursion are those among all of its expressions, and those that a walk visits.
use Rattle.std.proofs.Common.{◌≡◌, List as Seq, [], ◌∷◌, ◌++◌, Option, Some, None, append-nil, refl, sym, ap, ◌∙◌}
use Rattle.std.specs.List.{flat_map}
use Rattle.std.specs.Prelude.{option_to_list}
use Rattle.std.proofs.lemmas.Grind.{flat_map-append}
use Rattle.starlark_tree.specs.Ast as t
use Rattle.starlark_tree.specs.Ast.{Payloads, Word}
use Rattle.starlark_tree.specs.Children.{form_exprs}
use Rattle.starlark_tree.specs.Inside as i
use Rattle.starlark_uniplate.specs.Identifiers.{identifiers, in_argument, in_arguments, in_clause, in_clauses, in_expressions, in_for, in_form, in_maybe}
use Rattle.starlark_uniplate.specs.Identifiers.{in_option, in_pairs, in_parameter, in_parameters, in_statement, in_statements, in_target, in_targets, in_type}
use Rattle.starlark_uniplate.specs.Idents.{all_idents, idents, own_ident}
use Rattle.starlark_uniplate.proofs.Inside as all

module _ {P : Payloads} where
  abbrev among : Seq (t.Expression P) → Seq (Word × P.ident)
  among es = flat_map own_ident es

  join : {a b : Seq (Word × P.ident)} (es fs : Seq (t.Expression P)) → a ≡ among es → b ≡ among fs → a ++ b ≡ among (es ++ fs)
  join {a} {b} es fs p q = let parts : a ++ b ≡ among es ++ among fs = cc in parts ∙ sym (flat_map-append own_ident es fs)

  mutual
    one : (e : t.Expression P) → identifiers e ≡ among (i.inside e)
    one (t.expression s (t.Tuple es)) = expressions es
    one (t.expression s (t.Dot e w)) = one e
    one (t.expression s (t.Call e passed)) = join (i.inside e) (i.arguments_inside passed) (one e) (arguments passed)
    one (t.expression s (t.Index a k)) = join (i.inside a) (i.inside k) (one a) (one k)
    one (t.expression s (t.Index2 a k l)) = join (i.inside a) (i.inside k ++ i.inside l) (one a) (join (i.inside k) (i.inside l) (one k) (one l))
    one (t.expression s (t.Slice a start stop step)) =
        join (i.inside a) (i.maybe_inside start ++ (i.maybe_inside stop ++ i.maybe_inside step)) (one a)
        (join (i.maybe_inside start) (i.maybe_inside stop ++ i.maybe_inside step) (maybe start) (join (i.maybe_inside stop) (i.maybe_inside step) (maybe stop)
        (maybe step)))
    one (t.expression s (t.Identifier w p)) = refl
    one (t.expression s (t.Lambda ps e p)) = join (i.parameters_inside ps) (i.inside e) (parameters ps) (one e)
    one (t.expression s (t.Constant l)) = refl
    one (t.expression s (t.Not e)) = one e
    one (t.expression s (t.Minus e)) = one e
    one (t.expression s (t.Plus e)) = one e
    one (t.expression s (t.BitNot e)) = one e
    one (t.expression s (t.Op l op r)) = join (i.inside l) (i.inside r) (one l) (one r)
    one (t.expression s (t.If c v w)) = join (i.inside c) (i.inside v ++ i.inside w) (one c) (join (i.inside v) (i.inside w) (one v) (one w))
    one (t.expression s (t.List es)) = expressions es
    one (t.expression s (t.Dict ps)) = pairs ps
    one (t.expression s (t.ListComprehension e for cs)) =
        join (i.for_inside for) (i.clauses_inside cs ++ i.inside e) (for_in for) (join (i.clauses_inside cs) (i.inside e) (clauses cs) (one e))
    one (t.expression s (t.DictComprehension k v for cs)) =
        join (i.for_inside for) (i.clauses_inside cs ++ (i.inside k ++ i.inside v)) (for_in for)
        (join (i.clauses_inside cs) (i.inside k ++ i.inside v) (clauses cs) (join (i.inside k) (i.inside v) (one k) (one v)))
    one (t.expression s (t.FString at w es)) = expressions es

    expressions : (es : t.Expressions P) → in_expressions es ≡ among (i.all_inside es)
    expressions t.no_expressions = refl
    expressions (t.expressions e es) = join (i.inside e) (i.all_inside es) (one e) (expressions es)

    maybe : (e : t.Maybe P) → in_maybe e ≡ among (i.maybe_inside e)
    maybe t.absent = refl
    maybe (t.present e) = one e

    maybe_type : (ty : t.MaybeType P) → in_type ty ≡ among (i.type_inside ty)
    maybe_type t.no_type = refl
    maybe_type (t.typed s e p) = one e

    pairs : (ps : t.Pairs P) → in_pairs ps ≡ among (i.pairs_inside ps)
    pairs t.no_pairs = refl
    pairs (t.pairs k v ps) = join (i.inside k) (i.inside v ++ i.pairs_inside ps) (one k) (join (i.inside v) (i.pairs_inside ps) (one v) (pairs ps))

    arguments : (xs : t.Arguments P) → in_arguments xs ≡ among (i.arguments_inside xs)
    arguments t.no_arguments = refl
    arguments (t.arguments a rest) = join (i.argument_inside a) (i.arguments_inside rest) (argument a) (arguments rest)

    argument : (a : t.Argument P) → in_argument a ≡ among (i.argument_inside a)
    argument (t.Positional s e) = one e
    argument (t.Named s w e) = one e
    argument (t.Star s e) = one e
    argument (t.StarStar s e) = one e

    parameters : (ps : t.Parameters P) → in_parameters ps ≡ among (i.parameters_inside ps)
    parameters t.no_parameters = refl
    parameters (t.parameters p ps) = join (i.parameter_inside p) (i.parameters_inside ps) (parameter p) (parameters ps)

    parameter : (p : t.Parameter P) → in_parameter p ≡ among (i.parameter_inside p)
    parameter (t.Slash s) = refl
    parameter (t.Normal s w p ty v) = join (i.type_inside ty) (i.maybe_inside v) (maybe_type ty) (maybe v)
    parameter (t.NoArgs s) = refl
    parameter (t.Args s w p ty) = maybe_type ty
    parameter (t.KwArgs s w p ty) = maybe_type ty

    for_in : (c : t.ForIn P) → in_for c ≡ among (i.for_inside c)
    for_in (t.for_in x over) = join (i.target_inside x) (i.inside over) (target x) (one over)

    clauses : (cs : t.Clauses P) → in_clauses cs ≡ among (i.clauses_inside cs)
    clauses t.no_clauses = refl
    clauses (t.clauses c cs) = join (i.clause_inside c) (i.clauses_inside cs) (clause c) (clauses cs)

    clause : (c : t.Clause P) → in_clause c ≡ among (i.clause_inside c)
    clause (t.for_clause c) = for_in c
    clause (t.if_clause e) = one e

    target : (x : t.Target P) → in_target x ≡ among (i.target_inside x)
    target (t.TupleTarget s xs) = targets xs
    target (t.IndexTarget s a k) = join (i.inside a) (i.inside k) (one a) (one k)
    target (t.DotTarget s e w) = one e
    target (t.NameTarget s w p) = refl

    targets : (xs : t.Targets P) → in_targets xs ≡ among (i.targets_inside xs)
    targets t.no_targets = refl
    targets (t.targets x xs) = join (i.target_inside x) (i.targets_inside xs) (target x) (targets xs)

  option : (e : Option (t.Expression P)) → in_option e ≡ among (flat_map i.inside (option_to_list e))
  option None = refl
  option (Some e) = one e ∙ ap among (sym (append-nil (i.inside e)))

  mutual
    statement : (s : t.Statement P) → in_statement s ≡ among (i.inside_statement s)
    statement (t.statement s body) = form body

    form : (s : t.Form P) → in_form s ≡ among (i.inside_form s)
    form t.Break = refl
    form t.Continue = refl
    form t.Pass = refl
    form (t.Return e) = option e
    form (t.Evaluate e) = one e
    form (t.Assign x ty e) = join (i.target_inside x) (i.type_inside ty ++ i.inside e) (target x) (join (i.type_inside ty) (i.inside e) (maybe_type ty) (one e))
    form (t.AssignModify x op e) = join (i.target_inside x) (i.inside e) (target x) (one e)
    form (t.Block ss) = statements ss
    form (t.IfThen e s) = join (i.inside e) (i.inside_statement s) (one e) (statement s)
    form (t.IfElse e s other) =
        join (i.inside e) (i.inside_statement s ++ i.inside_statement other) (one e) (join (i.inside_statement s) (i.inside_statement other) (statement s)
        (statement other))
    form (t.For x e s) = join (i.target_inside x) (i.inside e ++ i.inside_statement s) (target x)
        (join (i.inside e) (i.inside_statement s) (one e) (statement s))
    form (t.Def w p ps ty s q) =
        join (i.parameters_inside ps) (i.type_inside ty ++ i.inside_statement s) (parameters ps)
        (join (i.type_inside ty) (i.inside_statement s) (maybe_type ty) (statement s))
    form (t.Load path names p) = refl

    statements : (ss : t.Statements P) → in_statements ss ≡ among (i.inside_statements ss)
    statements t.no_statements = refl
    statements (t.statements s ss) = join (i.inside_statement s) (i.inside_statements ss) (statement s) (statements ss)

  each : (es : Seq (t.Expression P)) → among (flat_map i.inside es) ≡ flat_map idents es
  each [] = refl
  each (e ∷ es) = flat_map-append own_ident (i.inside e) (flat_map i.inside es) ∙ ap (λ (ys : Seq (Word × P.ident)). idents e ++ ys) (each es)

  -- what a walk visits is among all expressions
  pub idents_among : (s : t.Form P) → all_idents s ≡ flat_map own_ident (i.inside_form s)
  idents_among s = sym (each (form_exprs s)) ∙ ap among (sym (all.in_form s))

  pub every_identifier : (s : t.Form P) → all_idents s ≡ in_form s
  every_identifier s = idents_among s ∙ sym (form s)
