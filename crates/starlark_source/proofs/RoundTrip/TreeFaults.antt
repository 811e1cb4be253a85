-- The faults of a tree have the same kinds without its spans.
use Rattle.std.proofs.Common.{◌≡◌, List as Seq, [], ◌∷◌, ◌++◌, refl, sym, ap, ap₂, ◌∙◌, Bool, true, false, not, Option, Some, None}
use Rattle.std.specs.Prelude.{◌&&◌, map, option_map, option_to_list}
use Rattle.std.specs.List.{flat_map}
use Rattle.std.proofs.lemmas.Grind.{flat_map-append}
use Rattle.starlark_lexer.specs.Tokens.{Span, nowhere}
use Rattle.starlark_lexer.specs.declared.dialect.Dialect.{Dialect}
use Rattle.starlark_tree.specs.Ast as t
use Rattle.starlark_tree.specs.Ast.{Payloads, Word, argument_list, parameter_list, parameter_span}
use Rattle.starlark_tree.specs.Inside.{inside, below, all_inside, maybe_inside, type_inside, pairs_inside, arguments_inside, argument_inside}
use Rattle.starlark_tree.specs.Inside.{parameters_inside, parameter_inside, for_inside, clauses_inside, clause_inside, target_inside, targets_inside}
use Rattle.starlark_tree.specs.Inside.{inside_statement, inside_form, inside_statements}
use Rattle.starlark_spec.specs.Faults.{Fault, rule_fault as fault, Rule, Dialect as of_dialect, Place, Grammar}
use Rattle.starlark_checks.specs.Calls.{call_fault}
use Rattle.starlark_checks.specs.Parameters.{params_fault, is_slash}
use Rattle.starlark_spec.specs.declared.error.DialectError.TheVariants as dialects
use Rattle.starlark_spec.specs.declared.error.GrammarError.TheVariants.{LoadRequiresAtLeastTwoArguments}
use Rattle.starlark_spec.specs.declared.error.PlaceError.TheVariants as places
use Rattle.starlark_validate.specs.KeptTreeFaults.{listed_if, is_empty, call_faults, f_string_faults, load_faults, in_expression, in_shape, in_expressions}
use Rattle.starlark_validate.specs.KeptTreeFaults.{in_maybe, in_type, in_pairs, in_arguments, in_argument, in_parameters, in_parameter, in_for, in_clauses}
use Rattle.starlark_validate.specs.KeptTreeFaults.{in_clause, in_target, in_targets, in_option, in_statement, in_form, in_statements}
use Rattle.starlark_validate.specs.Validity.{Around, top, in_body_of_def, in_body_of_for, in_branch, is_star, star_faults, slash_faults, params_faults}
use Rattle.starlark_validate.specs.Validity.{are_disabled, statement_faults, statements_faults, own_faults, expression_faults, tree_faults}
use Rattle.starlark_validate.specs.Faults.{faults_in}
use Rattle.starlark_source.specs.Unspanned.{unspanned_word, unspanned, unspanned_shape, unspanned_all, unspanned_maybe, unspanned_type}
use Rattle.starlark_source.specs.Unspanned.{unspanned_pairs, unspanned_arguments, unspanned_argument, unspanned_parameters, unspanned_parameter}
use Rattle.starlark_source.specs.Unspanned.{unspanned_for, unspanned_clauses, unspanned_clause, unspanned_target, unspanned_targets, unspanned_load}
use Rattle.starlark_source.specs.Unspanned.{unspanned_value, unspanned_statement, unspanned_form, unspanned_statements}
use Rattle.starlark_source.proofs.RoundTrip.FaultKinds.{kind_of, kinds, both_same, listed_same, listed_if_same}
use Rattle.starlark_source.proofs.RoundTrip.EntryFaults.{call_same, slash_same, parameters_listed, parameters_same}

module _ (d : Dialect) where
  f_string_same : (s : Span) → kinds (f_string_faults d nowhere) ≡ kinds (f_string_faults d s)
  f_string_same s = listed_if_same (not d.enable_f_strings) (not d.enable_f_strings) (of_dialect dialects.FStrings) nowhere s refl

  if_at_top : (a : Around) (s : Span) → kinds (listed_if (a.at_top && not d.enable_top_level_stmt) (fault (Place places.IfAtTop) nowhere))
      ≡ kinds (listed_if (a.at_top && not d.enable_top_level_stmt) (fault (Place places.IfAtTop) s))
  if_at_top a s = listed_if_same (a.at_top && not d.enable_top_level_stmt) (a.at_top && not d.enable_top_level_stmt) (Place places.IfAtTop) nowhere s refl

module _ {P : Payloads} (d : Dialect) where
  -- ---- the kept ones

  calls_same : (xs : t.Arguments P) → kinds (call_faults (argument_list (unspanned_arguments xs))) ≡ kinds (call_faults (argument_list xs))
  calls_same xs = listed_same (call_fault (argument_list (unspanned_arguments xs))) (call_fault (argument_list xs)) (call_same xs)

  empty_same : (names : Seq (t.LoadArg P)) → is_empty (map (λ (a : t.LoadArg P). unspanned_load a) names) ≡ is_empty names
  empty_same [] = refl
  empty_same (x ∷ xs) = refl

  loads_same : (w : Word) (names : Seq (t.LoadArg P)) → kinds (load_faults (unspanned_word w) (map (λ (a : t.LoadArg P). unspanned_load a) names))
      ≡ kinds (load_faults w names)
  loads_same w names = listed_if_same (is_empty (map (λ (a : t.LoadArg P). unspanned_load a) names)) (is_empty names)
      (Grammar LoadRequiresAtLeastTwoArguments) nowhere w.span (empty_same names)

  mutual
    pub kept_expression : (x : t.Expression P) → kinds (in_expression d (unspanned x)) ≡ kinds (in_expression d x)
    kept_expression (t.expression s shape) = kept_shape shape

    pub kept_shape : (x : t.Shape P) → kinds (in_shape d (unspanned_shape x)) ≡ kinds (in_shape d x)
    kept_shape (t.Tuple es) = kept_all es
    kept_shape (t.Dot e w) = kept_expression e
    kept_shape (t.Call e xs) = both_same (in_expression d (unspanned e))
        (in_arguments d (unspanned_arguments xs) ++ (call_faults (argument_list (unspanned_arguments xs)))) (in_expression d e)
        (in_arguments d xs ++ (call_faults (argument_list xs))) (kept_expression e)
        (both_same (in_arguments d (unspanned_arguments xs)) (call_faults (argument_list (unspanned_arguments xs))) (in_arguments d xs)
        (call_faults (argument_list xs)) (kept_arguments xs) (calls_same xs))
    kept_shape (t.Index a i) = both_same (in_expression d (unspanned a)) (in_expression d (unspanned i)) (in_expression d a) (in_expression d i)
        (kept_expression a) (kept_expression i)
    kept_shape (t.Index2 a i j) = both_same (in_expression d (unspanned a)) (in_expression d (unspanned i) ++ (in_expression d (unspanned j)))
        (in_expression d a) (in_expression d i ++ (in_expression d j)) (kept_expression a)
        (both_same (in_expression d (unspanned i)) (in_expression d (unspanned j)) (in_expression d i) (in_expression d j) (kept_expression i)
        (kept_expression j))
    kept_shape (t.Slice a i j k) = both_same (in_expression d (unspanned a))
        (in_maybe d (unspanned_maybe i) ++ (in_maybe d (unspanned_maybe j) ++ (in_maybe d (unspanned_maybe k)))) (in_expression d a)
        (in_maybe d i ++ (in_maybe d j ++ (in_maybe d k))) (kept_expression a)
        (both_same (in_maybe d (unspanned_maybe i)) (in_maybe d (unspanned_maybe j) ++ (in_maybe d (unspanned_maybe k))) (in_maybe d i)
        (in_maybe d j ++ (in_maybe d k)) (kept_maybe i) (both_same (in_maybe d (unspanned_maybe j)) (in_maybe d (unspanned_maybe k)) (in_maybe d j)
        (in_maybe d k) (kept_maybe j) (kept_maybe k)))
    kept_shape (t.Identifier w p) = refl
    kept_shape (t.Lambda ps e p) = both_same (in_parameters d (unspanned_parameters ps)) (in_expression d (unspanned e)) (in_parameters d ps)
        (in_expression d e) (kept_parameters ps) (kept_expression e)
    kept_shape (t.Constant l) = refl
    kept_shape (t.Not e) = kept_expression e
    kept_shape (t.Minus e) = kept_expression e
    kept_shape (t.Plus e) = kept_expression e
    kept_shape (t.BitNot e) = kept_expression e
    kept_shape (t.Op l o r) = both_same (in_expression d (unspanned l)) (in_expression d (unspanned r)) (in_expression d l) (in_expression d r)
        (kept_expression l) (kept_expression r)
    kept_shape (t.If c v w) = both_same (in_expression d (unspanned v)) (in_expression d (unspanned c) ++ (in_expression d (unspanned w)))
        (in_expression d v) (in_expression d c ++ (in_expression d w)) (kept_expression v)
        (both_same (in_expression d (unspanned c)) (in_expression d (unspanned w)) (in_expression d c) (in_expression d w) (kept_expression c)
        (kept_expression w))
    kept_shape (t.List es) = kept_all es
    kept_shape (t.Dict ps) = kept_pairs ps
    kept_shape (t.ListComprehension e x cs) = both_same (in_expression d (unspanned e)) (in_for d (unspanned_for x) ++ (in_clauses d (unspanned_clauses cs)))
        (in_expression d e) (in_for d x ++ (in_clauses d cs)) (kept_expression e)
        (both_same (in_for d (unspanned_for x)) (in_clauses d (unspanned_clauses cs)) (in_for d x) (in_clauses d cs) (kept_for x) (kept_clauses cs))
    kept_shape (t.DictComprehension k v x cs) = both_same (in_expression d (unspanned k))
        (in_expression d (unspanned v) ++ (in_for d (unspanned_for x) ++ (in_clauses d (unspanned_clauses cs)))) (in_expression d k)
        (in_expression d v ++ (in_for d x ++ (in_clauses d cs))) (kept_expression k)
        (both_same (in_expression d (unspanned v)) (in_for d (unspanned_for x) ++ (in_clauses d (unspanned_clauses cs))) (in_expression d v)
        (in_for d x ++ (in_clauses d cs)) (kept_expression v)
        (both_same (in_for d (unspanned_for x)) (in_clauses d (unspanned_clauses cs)) (in_for d x) (in_clauses d cs) (kept_for x) (kept_clauses cs)))
    kept_shape (t.FString s w es) = both_same (in_expressions d (unspanned_all es)) (f_string_faults d nowhere) (in_expressions d es) (f_string_faults d s)
        (kept_all es) (f_string_same d s)

    pub kept_all : (x : t.Expressions P) → kinds (in_expressions d (unspanned_all x)) ≡ kinds (in_expressions d x)
    kept_all t.no_expressions = refl
    kept_all (t.expressions e es) = both_same (in_expression d (unspanned e)) (in_expressions d (unspanned_all es)) (in_expression d e) (in_expressions d es)
        (kept_expression e) (kept_all es)

    pub kept_maybe : (x : t.Maybe P) → kinds (in_maybe d (unspanned_maybe x)) ≡ kinds (in_maybe d x)
    kept_maybe t.absent = refl
    kept_maybe (t.present e) = kept_expression e

    pub kept_type : (x : t.MaybeType P) → kinds (in_type d (unspanned_type x)) ≡ kinds (in_type d x)
    kept_type t.no_type = refl
    kept_type (t.typed s e p) = kept_expression e

    pub kept_pairs : (x : t.Pairs P) → kinds (in_pairs d (unspanned_pairs x)) ≡ kinds (in_pairs d x)
    kept_pairs t.no_pairs = refl
    kept_pairs (t.pairs k v ps) = both_same (in_expression d (unspanned k)) (in_expression d (unspanned v) ++ (in_pairs d (unspanned_pairs ps)))
        (in_expression d k) (in_expression d v ++ (in_pairs d ps)) (kept_expression k)
        (both_same (in_expression d (unspanned v)) (in_pairs d (unspanned_pairs ps)) (in_expression d v) (in_pairs d ps) (kept_expression v) (kept_pairs ps))

    pub kept_arguments : (x : t.Arguments P) → kinds (in_arguments d (unspanned_arguments x)) ≡ kinds (in_arguments d x)
    kept_arguments t.no_arguments = refl
    kept_arguments (t.arguments a as') = both_same (in_argument d (unspanned_argument a)) (in_arguments d (unspanned_arguments as')) (in_argument d a)
        (in_arguments d as') (kept_argument a) (kept_arguments as')

    pub kept_argument : (x : t.Argument P) → kinds (in_argument d (unspanned_argument x)) ≡ kinds (in_argument d x)
    kept_argument (t.Positional s e) = kept_expression e
    kept_argument (t.Named s w e) = kept_expression e
    kept_argument (t.Star s e) = kept_expression e
    kept_argument (t.StarStar s e) = kept_expression e

    pub kept_parameters : (x : t.Parameters P) → kinds (in_parameters d (unspanned_parameters x)) ≡ kinds (in_parameters d x)
    kept_parameters t.no_parameters = refl
    kept_parameters (t.parameters p ps) = both_same (in_parameter d (unspanned_parameter p)) (in_parameters d (unspanned_parameters ps)) (in_parameter d p)
        (in_parameters d ps) (kept_parameter p) (kept_parameters ps)

    pub kept_parameter : (x : t.Parameter P) → kinds (in_parameter d (unspanned_parameter x)) ≡ kinds (in_parameter d x)
    kept_parameter (t.Slash s) = refl
    kept_parameter (t.Normal s w p ty v) = both_same (in_type d (unspanned_type ty)) (in_maybe d (unspanned_maybe v)) (in_type d ty) (in_maybe d v)
        (kept_type ty) (kept_maybe v)
    kept_parameter (t.NoArgs s) = refl
    kept_parameter (t.Args s w p ty) = kept_type ty
    kept_parameter (t.KwArgs s w p ty) = kept_type ty

    pub kept_for : (x : t.ForIn P) → kinds (in_for d (unspanned_for x)) ≡ kinds (in_for d x)
    kept_for (t.for_in x e) = both_same (in_target d (unspanned_target x)) (in_expression d (unspanned e)) (in_target d x) (in_expression d e)
        (kept_target x) (kept_expression e)

    pub kept_clauses : (x : t.Clauses P) → kinds (in_clauses d (unspanned_clauses x)) ≡ kinds (in_clauses d x)
    kept_clauses t.no_clauses = refl
    kept_clauses (t.clauses c cs) = both_same (in_clause d (unspanned_clause c)) (in_clauses d (unspanned_clauses cs)) (in_clause d c) (in_clauses d cs)
        (kept_clause c) (kept_clauses cs)

    pub kept_clause : (x : t.Clause P) → kinds (in_clause d (unspanned_clause x)) ≡ kinds (in_clause d x)
    kept_clause (t.for_clause x) = kept_for x
    kept_clause (t.if_clause e) = kept_expression e

    pub kept_target : (x : t.Target P) → kinds (in_target d (unspanned_target x)) ≡ kinds (in_target d x)
    kept_target (t.TupleTarget s xs) = kept_targets xs
    kept_target (t.IndexTarget s a i) = both_same (in_expression d (unspanned a)) (in_expression d (unspanned i)) (in_expression d a) (in_expression d i)
        (kept_expression a) (kept_expression i)
    kept_target (t.DotTarget s e w) = kept_expression e
    kept_target (t.NameTarget s w p) = refl

    pub kept_targets : (x : t.Targets P) → kinds (in_targets d (unspanned_targets x)) ≡ kinds (in_targets d x)
    kept_targets t.no_targets = refl
    kept_targets (t.targets x xs) = both_same (in_target d (unspanned_target x)) (in_targets d (unspanned_targets xs)) (in_target d x) (in_targets d xs)
        (kept_target x) (kept_targets xs)

  pub kept_value : (x : Option (t.Expression P)) → kinds (in_option d (unspanned_value x)) ≡ kinds (in_option d x)
  kept_value None = refl
  kept_value (Some e) = kept_expression e

  mutual
    pub kept_statement : (x : t.Statement P) → kinds (in_statement d (unspanned_statement x)) ≡ kinds (in_statement d x)
    kept_statement (t.statement s form) = kept_form form

    pub kept_form : (x : t.Form P) → kinds (in_form d (unspanned_form x)) ≡ kinds (in_form d x)
    kept_form t.Break = refl
    kept_form t.Continue = refl
    kept_form t.Pass = refl
    kept_form (t.Return o) = kept_value o
    kept_form (t.Evaluate e) = kept_expression e
    kept_form (t.Assign x ty e) = both_same (in_target d (unspanned_target x)) (in_type d (unspanned_type ty) ++ (in_expression d (unspanned e)))
        (in_target d x) (in_type d ty ++ (in_expression d e)) (kept_target x)
        (both_same (in_type d (unspanned_type ty)) (in_expression d (unspanned e)) (in_type d ty) (in_expression d e) (kept_type ty) (kept_expression e))
    kept_form (t.AssignModify x o e) = both_same (in_target d (unspanned_target x)) (in_expression d (unspanned e)) (in_target d x) (in_expression d e)
        (kept_target x) (kept_expression e)
    kept_form (t.Block ss) = kept_statements ss
    kept_form (t.IfThen e s) = both_same (in_expression d (unspanned e)) (in_statement d (unspanned_statement s)) (in_expression d e) (in_statement d s)
        (kept_expression e) (kept_statement s)
    kept_form (t.IfElse e s u) = both_same (in_expression d (unspanned e))
        (in_statement d (unspanned_statement s) ++ (in_statement d (unspanned_statement u))) (in_expression d e) (in_statement d s ++ (in_statement d u))
        (kept_expression e) (both_same (in_statement d (unspanned_statement s)) (in_statement d (unspanned_statement u)) (in_statement d s)
        (in_statement d u) (kept_statement s) (kept_statement u))
    kept_form (t.For x e s) = both_same (in_target d (unspanned_target x)) (in_expression d (unspanned e) ++ (in_statement d (unspanned_statement s)))
        (in_target d x) (in_expression d e ++ (in_statement d s)) (kept_target x)
        (both_same (in_expression d (unspanned e)) (in_statement d (unspanned_statement s)) (in_expression d e) (in_statement d s) (kept_expression e)
        (kept_statement s))
    kept_form (t.Def w p ps ty s q) = both_same (in_parameters d (unspanned_parameters ps))
        (in_type d (unspanned_type ty) ++ (in_statement d (unspanned_statement s))) (in_parameters d ps) (in_type d ty ++ (in_statement d s))
        (kept_parameters ps) (both_same (in_type d (unspanned_type ty)) (in_statement d (unspanned_statement s)) (in_type d ty) (in_statement d s)
        (kept_type ty) (kept_statement s))
    kept_form (t.Load w names p) = loads_same w names

    pub kept_statements : (x : t.Statements P) → kinds (in_statements d (unspanned_statements x)) ≡ kinds (in_statements d x)
    kept_statements t.no_statements = refl
    kept_statements (t.statements s ss) = both_same (in_statement d (unspanned_statement s)) (in_statements d (unspanned_statements ss)) (in_statement d s)
        (in_statements d ss) (kept_statement s) (kept_statements ss)

  -- ---- those of expressions

  abbrev owns : Seq (t.Expression P) → Seq Rule
  owns es = kinds (flat_map (own_faults d) es)

  owns_both : (a b c e : Seq (t.Expression P)) → owns a ≡ owns c → owns b ≡ owns e → owns (a ++ b) ≡ owns (c ++ e)
  owns_both a b c e p q = ap (λ (fs : Seq Fault). kinds fs) (flat_map-append (own_faults d) a b)
      ∙ both_same (flat_map (own_faults d) a) (flat_map (own_faults d) b) (flat_map (own_faults d) c) (flat_map (own_faults d) e) p q
      ∙ sym (ap (λ (fs : Seq Fault). kinds fs) (flat_map-append (own_faults d) c e))

  star_same : (p : t.Parameter P) → kinds (star_faults d (unspanned_parameter p)) ≡ kinds (star_faults d p)
  star_same (t.Slash s) = refl
  star_same (t.Normal s w q ty v) = refl
  star_same (t.NoArgs s) = listed_if_same (not d.enable_keyword_only_arguments) (not d.enable_keyword_only_arguments)
      (of_dialect dialects.KeywordOnly) nowhere s refl
  star_same (t.Args s w q ty) = refl
  star_same (t.KwArgs s w q ty) = refl

  stars_same : (ps : Seq (t.Parameter P)) → kinds (flat_map (star_faults d) (map unspanned_parameter ps)) ≡ kinds (flat_map (star_faults d) ps)
  stars_same [] = refl
  stars_same (p ∷ ps) = both_same (star_faults d (unspanned_parameter p)) (flat_map (star_faults d) (map unspanned_parameter ps)) (star_faults d p)
      (flat_map (star_faults d) ps) (star_same p) (stars_same ps)

  slash_kind : (p : t.Parameter P) → kinds (slash_faults d (unspanned_parameter p)) ≡ kinds (slash_faults d p)
  slash_kind p = listed_if_same (is_slash (unspanned_parameter p) && not d.enable_positional_only_arguments)
      (is_slash p && not d.enable_positional_only_arguments) (of_dialect dialects.PositionalOnly)
      (parameter_span (unspanned_parameter p)) (parameter_span p) (ap (λ (b : Bool). b && not d.enable_positional_only_arguments) (slash_same p))

  slashes_same : (ps : Seq (t.Parameter P)) → kinds (flat_map (slash_faults d) (map unspanned_parameter ps)) ≡ kinds (flat_map (slash_faults d) ps)
  slashes_same [] = refl
  slashes_same (p ∷ ps) = both_same (slash_faults d (unspanned_parameter p)) (flat_map (slash_faults d) (map unspanned_parameter ps)) (slash_faults d p)
      (flat_map (slash_faults d) ps) (slash_kind p) (slashes_same ps)

  params_listed : (ps : Seq (t.Parameter P)) → kinds (params_faults d (map unspanned_parameter ps)) ≡ kinds (params_faults d ps)
  params_listed ps =
      let qs = map unspanned_parameter ps in
      both_same (flat_map (star_faults d) qs) (flat_map (slash_faults d) qs ++ option_to_list (params_fault qs)) (flat_map (star_faults d) ps)
      (flat_map (slash_faults d) ps ++ option_to_list (params_fault ps))
      (stars_same ps)
      (both_same (flat_map (slash_faults d) qs) (option_to_list (params_fault qs)) (flat_map (slash_faults d) ps) (option_to_list (params_fault ps))
      (slashes_same ps) (listed_same (params_fault qs) (params_fault ps) (parameters_same ps)))

  params_same : (ps : t.Parameters P) → kinds (params_faults d (parameter_list (unspanned_parameters ps))) ≡ kinds (params_faults d (parameter_list ps))
  params_same ps = ap (λ (qs : Seq (t.Parameter P)). kinds (params_faults d qs)) (parameters_listed ps) ∙ params_listed (parameter_list ps)

  itself : (s : Span) (shape : t.Shape P) → kinds (own_faults d (t.expression nowhere (unspanned_shape shape))) ≡ kinds (own_faults d (t.expression s shape))
  itself s (t.Constant t.Ellipsis) = listed_if_same (are_disabled d.enable_types) (are_disabled d.enable_types) (of_dialect dialects.Ellipsis) nowhere s refl
  itself s (t.Constant (t.Int i n)) = refl
  itself s (t.Constant (t.Float w)) = refl
  itself s (t.Constant (t.String w)) = refl
  itself s (t.Constant (t.Bytes w)) = refl
  itself s (t.Lambda ps e p) = both_same (listed_if (not d.enable_lambda) (fault (of_dialect dialects.Lambda) nowhere))
      (params_faults d (parameter_list (unspanned_parameters ps)))
      (listed_if (not d.enable_lambda) (fault (of_dialect dialects.Lambda) s)) (params_faults d (parameter_list ps))
      (listed_if_same (not d.enable_lambda) (not d.enable_lambda) (of_dialect dialects.Lambda) nowhere s refl) (params_same ps)
  itself s (t.Tuple es) = refl
  itself s (t.Dot e w) = refl
  itself s (t.Call e xs) = refl
  itself s (t.Index a i) = refl
  itself s (t.Index2 a i j) = refl
  itself s (t.Slice a i j k) = refl
  itself s (t.Identifier w p) = refl
  itself s (t.Not e) = refl
  itself s (t.Minus e) = refl
  itself s (t.Plus e) = refl
  itself s (t.BitNot e) = refl
  itself s (t.Op l o r) = refl
  itself s (t.If c v w) = refl
  itself s (t.List es) = refl
  itself s (t.Dict ps) = refl
  itself s (t.ListComprehension e x cs) = refl
  itself s (t.DictComprehension k v x cs) = refl
  itself s (t.FString i w es) = refl

  mutual
    pub own_expression : (x : t.Expression P) → owns (inside (unspanned x)) ≡ owns (inside x)
    own_expression (t.expression s shape) = both_same (own_faults d (t.expression nowhere (unspanned_shape shape)))
        (flat_map (own_faults d) (below (unspanned_shape shape))) (own_faults d (t.expression s shape)) (flat_map (own_faults d) (below shape))
        (itself s shape) (own_shape shape)

    pub own_shape : (x : t.Shape P) → owns (below (unspanned_shape x)) ≡ owns (below x)
    own_shape (t.Tuple es) = own_all es
    own_shape (t.Dot e w) = own_expression e
    own_shape (t.Call e xs) = owns_both (inside (unspanned e)) (arguments_inside (unspanned_arguments xs)) (inside e) (arguments_inside xs)
        (own_expression e) (own_arguments xs)
    own_shape (t.Index a i) = owns_both (inside (unspanned a)) (inside (unspanned i)) (inside a) (inside i) (own_expression a) (own_expression i)
    own_shape (t.Index2 a i j) = owns_both (inside (unspanned a)) (inside (unspanned i) ++ (inside (unspanned j))) (inside a) (inside i ++ (inside j))
        (own_expression a) (owns_both (inside (unspanned i)) (inside (unspanned j)) (inside i) (inside j) (own_expression i) (own_expression j))
    own_shape (t.Slice a i j k) = owns_both (inside (unspanned a))
        (maybe_inside (unspanned_maybe i) ++ (maybe_inside (unspanned_maybe j) ++ (maybe_inside (unspanned_maybe k)))) (inside a)
        (maybe_inside i ++ (maybe_inside j ++ (maybe_inside k))) (own_expression a)
        (owns_both (maybe_inside (unspanned_maybe i)) (maybe_inside (unspanned_maybe j) ++ (maybe_inside (unspanned_maybe k))) (maybe_inside i)
        (maybe_inside j ++ (maybe_inside k)) (own_maybe i)
        (owns_both (maybe_inside (unspanned_maybe j)) (maybe_inside (unspanned_maybe k)) (maybe_inside j) (maybe_inside k) (own_maybe j) (own_maybe k)))
    own_shape (t.Identifier w p) = refl
    own_shape (t.Lambda ps e p) = owns_both (parameters_inside (unspanned_parameters ps)) (inside (unspanned e)) (parameters_inside ps) (inside e)
        (own_parameters ps) (own_expression e)
    own_shape (t.Constant l) = refl
    own_shape (t.Not e) = own_expression e
    own_shape (t.Minus e) = own_expression e
    own_shape (t.Plus e) = own_expression e
    own_shape (t.BitNot e) = own_expression e
    own_shape (t.Op l o r) = owns_both (inside (unspanned l)) (inside (unspanned r)) (inside l) (inside r) (own_expression l) (own_expression r)
    own_shape (t.If c v w) = owns_both (inside (unspanned c)) (inside (unspanned v) ++ (inside (unspanned w))) (inside c) (inside v ++ (inside w))
        (own_expression c) (owns_both (inside (unspanned v)) (inside (unspanned w)) (inside v) (inside w) (own_expression v) (own_expression w))
    own_shape (t.List es) = own_all es
    own_shape (t.Dict ps) = own_pairs ps
    own_shape (t.ListComprehension e x cs) = owns_both (for_inside (unspanned_for x)) (clauses_inside (unspanned_clauses cs) ++ (inside (unspanned e)))
        (for_inside x) (clauses_inside cs ++ (inside e)) (own_for x)
        (owns_both (clauses_inside (unspanned_clauses cs)) (inside (unspanned e)) (clauses_inside cs) (inside e) (own_clauses cs) (own_expression e))
    own_shape (t.DictComprehension k v x cs) = owns_both (for_inside (unspanned_for x))
        (clauses_inside (unspanned_clauses cs) ++ (inside (unspanned k) ++ (inside (unspanned v)))) (for_inside x)
        (clauses_inside cs ++ (inside k ++ (inside v))) (own_for x)
        (owns_both (clauses_inside (unspanned_clauses cs)) (inside (unspanned k) ++ (inside (unspanned v))) (clauses_inside cs) (inside k ++ (inside v))
        (own_clauses cs) (owns_both (inside (unspanned k)) (inside (unspanned v)) (inside k) (inside v) (own_expression k) (own_expression v)))
    own_shape (t.FString s w es) = own_all es

    pub own_all : (x : t.Expressions P) → owns (all_inside (unspanned_all x)) ≡ owns (all_inside x)
    own_all t.no_expressions = refl
    own_all (t.expressions e es) = owns_both (inside (unspanned e)) (all_inside (unspanned_all es)) (inside e) (all_inside es) (own_expression e) (own_all es)

    pub own_maybe : (x : t.Maybe P) → owns (maybe_inside (unspanned_maybe x)) ≡ owns (maybe_inside x)
    own_maybe t.absent = refl
    own_maybe (t.present e) = own_expression e

    pub own_type : (x : t.MaybeType P) → owns (type_inside (unspanned_type x)) ≡ owns (type_inside x)
    own_type t.no_type = refl
    own_type (t.typed s e p) = own_expression e

    pub own_pairs : (x : t.Pairs P) → owns (pairs_inside (unspanned_pairs x)) ≡ owns (pairs_inside x)
    own_pairs t.no_pairs = refl
    own_pairs (t.pairs k v ps) = owns_both (inside (unspanned k)) (inside (unspanned v) ++ (pairs_inside (unspanned_pairs ps))) (inside k)
        (inside v ++ (pairs_inside ps)) (own_expression k)
        (owns_both (inside (unspanned v)) (pairs_inside (unspanned_pairs ps)) (inside v) (pairs_inside ps) (own_expression v) (own_pairs ps))

    pub own_arguments : (x : t.Arguments P) → owns (arguments_inside (unspanned_arguments x)) ≡ owns (arguments_inside x)
    own_arguments t.no_arguments = refl
    own_arguments (t.arguments a as') = owns_both (argument_inside (unspanned_argument a)) (arguments_inside (unspanned_arguments as')) (argument_inside a)
        (arguments_inside as') (own_argument a) (own_arguments as')

    pub own_argument : (x : t.Argument P) → owns (argument_inside (unspanned_argument x)) ≡ owns (argument_inside x)
    own_argument (t.Positional s e) = own_expression e
    own_argument (t.Named s w e) = own_expression e
    own_argument (t.Star s e) = own_expression e
    own_argument (t.StarStar s e) = own_expression e

    pub own_parameters : (x : t.Parameters P) → owns (parameters_inside (unspanned_parameters x)) ≡ owns (parameters_inside x)
    own_parameters t.no_parameters = refl
    own_parameters (t.parameters p ps) = owns_both (parameter_inside (unspanned_parameter p)) (parameters_inside (unspanned_parameters ps))
        (parameter_inside p) (parameters_inside ps) (own_parameter p) (own_parameters ps)

    pub own_parameter : (x : t.Parameter P) → owns (parameter_inside (unspanned_parameter x)) ≡ owns (parameter_inside x)
    own_parameter (t.Slash s) = refl
    own_parameter (t.Normal s w p ty v) = owns_both (type_inside (unspanned_type ty)) (maybe_inside (unspanned_maybe v)) (type_inside ty) (maybe_inside v)
        (own_type ty) (own_maybe v)
    own_parameter (t.NoArgs s) = refl
    own_parameter (t.Args s w p ty) = own_type ty
    own_parameter (t.KwArgs s w p ty) = own_type ty

    pub own_for : (x : t.ForIn P) → owns (for_inside (unspanned_for x)) ≡ owns (for_inside x)
    own_for (t.for_in x e) = owns_both (target_inside (unspanned_target x)) (inside (unspanned e)) (target_inside x) (inside e) (own_target x)
        (own_expression e)

    pub own_clauses : (x : t.Clauses P) → owns (clauses_inside (unspanned_clauses x)) ≡ owns (clauses_inside x)
    own_clauses t.no_clauses = refl
    own_clauses (t.clauses c cs) = owns_both (clause_inside (unspanned_clause c)) (clauses_inside (unspanned_clauses cs)) (clause_inside c)
        (clauses_inside cs) (own_clause c) (own_clauses cs)

    pub own_clause : (x : t.Clause P) → owns (clause_inside (unspanned_clause x)) ≡ owns (clause_inside x)
    own_clause (t.for_clause x) = own_for x
    own_clause (t.if_clause e) = own_expression e

    pub own_target : (x : t.Target P) → owns (target_inside (unspanned_target x)) ≡ owns (target_inside x)
    own_target (t.TupleTarget s xs) = own_targets xs
    own_target (t.IndexTarget s a i) = owns_both (inside (unspanned a)) (inside (unspanned i)) (inside a) (inside i) (own_expression a) (own_expression i)
    own_target (t.DotTarget s e w) = own_expression e
    own_target (t.NameTarget s w p) = refl

    pub own_targets : (x : t.Targets P) → owns (targets_inside (unspanned_targets x)) ≡ owns (targets_inside x)
    own_targets t.no_targets = refl
    own_targets (t.targets x xs) = owns_both (target_inside (unspanned_target x)) (targets_inside (unspanned_targets xs)) (target_inside x)
        (targets_inside xs) (own_target x) (own_targets xs)

  pub own_value : (x : Option (t.Expression P)) → owns (flat_map inside (option_to_list (unspanned_value x))) ≡ owns (flat_map inside (option_to_list x))
  own_value None = refl
  own_value (Some e) = owns_both (inside (unspanned e)) [] (inside e) [] (own_expression e) refl

  mutual
    pub own_statement : (x : t.Statement P) → owns (inside_statement (unspanned_statement x)) ≡ owns (inside_statement x)
    own_statement (t.statement s form) = own_form form

    pub own_form : (x : t.Form P) → owns (inside_form (unspanned_form x)) ≡ owns (inside_form x)
    own_form t.Break = refl
    own_form t.Continue = refl
    own_form t.Pass = refl
    own_form (t.Return o) = own_value o
    own_form (t.Evaluate e) = own_expression e
    own_form (t.Assign x ty e) = owns_both (target_inside (unspanned_target x)) (type_inside (unspanned_type ty) ++ (inside (unspanned e))) (target_inside x)
        (type_inside ty ++ (inside e)) (own_target x) (owns_both (type_inside (unspanned_type ty)) (inside (unspanned e)) (type_inside ty) (inside e)
        (own_type ty) (own_expression e))
    own_form (t.AssignModify x o e) = owns_both (target_inside (unspanned_target x)) (inside (unspanned e)) (target_inside x) (inside e) (own_target x)
        (own_expression e)
    own_form (t.Block ss) = own_statements ss
    own_form (t.IfThen e s) = owns_both (inside (unspanned e)) (inside_statement (unspanned_statement s)) (inside e) (inside_statement s) (own_expression e)
        (own_statement s)
    own_form (t.IfElse e s u) = owns_both (inside (unspanned e)) (inside_statement (unspanned_statement s) ++ (inside_statement (unspanned_statement u)))
        (inside e) (inside_statement s ++ (inside_statement u)) (own_expression e)
        (owns_both (inside_statement (unspanned_statement s)) (inside_statement (unspanned_statement u)) (inside_statement s) (inside_statement u)
        (own_statement s) (own_statement u))
    own_form (t.For x e s) = owns_both (target_inside (unspanned_target x)) (inside (unspanned e) ++ (inside_statement (unspanned_statement s)))
        (target_inside x) (inside e ++ (inside_statement s)) (own_target x)
        (owns_both (inside (unspanned e)) (inside_statement (unspanned_statement s)) (inside e) (inside_statement s) (own_expression e) (own_statement s))
    own_form (t.Def w p ps ty s q) = owns_both (parameters_inside (unspanned_parameters ps))
        (type_inside (unspanned_type ty) ++ (inside_statement (unspanned_statement s))) (parameters_inside ps) (type_inside ty ++ (inside_statement s))
        (own_parameters ps) (owns_both (type_inside (unspanned_type ty)) (inside_statement (unspanned_statement s)) (type_inside ty) (inside_statement s)
        (own_type ty) (own_statement s))
    own_form (t.Load w names p) = refl

    pub own_statements : (x : t.Statements P) → owns (inside_statements (unspanned_statements x)) ≡ owns (inside_statements x)
    own_statements t.no_statements = refl
    own_statements (t.statements s ss) = owns_both (inside_statement (unspanned_statement s)) (inside_statements (unspanned_statements ss))
        (inside_statement s) (inside_statements ss) (own_statement s) (own_statements ss)

  -- ---- those of statements

  mutual
    placed_same : (a : Around) (x : t.Statement P) → kinds (statement_faults d a (unspanned_statement x)) ≡ kinds (statement_faults d a x)
    placed_same a (t.statement s t.Break) = listed_if_same (not a.in_for) (not a.in_for) (Place places.BreakOutsideFor) nowhere s refl
    placed_same a (t.statement s t.Continue) = listed_if_same (not a.in_for) (not a.in_for) (Place places.ContinueOutsideFor) nowhere s refl
    placed_same a (t.statement s t.Pass) = refl
    placed_same a (t.statement s (t.Return e)) = listed_if_same (not a.in_def) (not a.in_def) (Place places.ReturnOutsideDef) nowhere s refl
    placed_same a (t.statement s (t.Evaluate e)) = refl
    placed_same a (t.statement s (t.Assign x ty e)) = refl
    placed_same a (t.statement s (t.AssignModify x op e)) = refl
    placed_same a (t.statement s (t.Block ss)) = all_placed a ss
    placed_same a (t.statement s (t.IfThen e body)) =
        both_same (listed_if (a.at_top && not d.enable_top_level_stmt) (fault (Place places.IfAtTop) nowhere))
        (statement_faults d (in_branch a) (unspanned_statement body))
        (listed_if (a.at_top && not d.enable_top_level_stmt) (fault (Place places.IfAtTop) s)) (statement_faults d (in_branch a) body) (if_at_top d a s)
        (placed_same (in_branch a) body)
    placed_same a (t.statement s (t.IfElse e body other)) =
        both_same (listed_if (a.at_top && not d.enable_top_level_stmt) (fault (Place places.IfAtTop) nowhere))
        (statement_faults d (in_branch a) (unspanned_statement body) ++ statement_faults d (in_branch a) (unspanned_statement other))
        (listed_if (a.at_top && not d.enable_top_level_stmt) (fault (Place places.IfAtTop) s))
        (statement_faults d (in_branch a) body ++ statement_faults d (in_branch a) other) (if_at_top d a s)
        (both_same (statement_faults d (in_branch a) (unspanned_statement body)) (statement_faults d (in_branch a) (unspanned_statement other))
        (statement_faults d (in_branch a) body) (statement_faults d (in_branch a) other) (placed_same (in_branch a) body) (placed_same (in_branch a) other))
    placed_same a (t.statement s (t.For x e body)) = both_same (listed_if (a.at_top && not d.enable_top_level_stmt) (fault (Place places.ForAtTop) nowhere))
        (statement_faults d (in_body_of_for a) (unspanned_statement body))
        (listed_if (a.at_top && not d.enable_top_level_stmt) (fault (Place places.ForAtTop) s)) (statement_faults d (in_body_of_for a) body)
        (listed_if_same (a.at_top && not d.enable_top_level_stmt) (a.at_top && not d.enable_top_level_stmt) (Place places.ForAtTop) nowhere s refl)
        (placed_same (in_body_of_for a) body)
    placed_same a (t.statement s (t.Def w p ps ty body q)) = both_same (listed_if (not d.enable_def) (fault (of_dialect dialects.Def) nowhere))
        (params_faults d (parameter_list (unspanned_parameters ps)) ++ statement_faults d in_body_of_def (unspanned_statement body))
        (listed_if (not d.enable_def) (fault (of_dialect dialects.Def) s)) (params_faults d (parameter_list ps) ++ statement_faults d in_body_of_def body)
        (listed_if_same (not d.enable_def) (not d.enable_def) (of_dialect dialects.Def) nowhere s refl)
        (both_same (params_faults d (parameter_list (unspanned_parameters ps))) (statement_faults d in_body_of_def (unspanned_statement body))
        (params_faults d (parameter_list ps)) (statement_faults d in_body_of_def body)
        (params_same ps) (placed_same in_body_of_def body))
    placed_same a (t.statement s (t.Load path names p)) =
        both_same (listed_if (not a.at_top) (fault (Place places.LoadNotAtTop) nowhere))
        (listed_if (not d.enable_load) (fault (of_dialect dialects.Load) nowhere))
        (listed_if (not a.at_top) (fault (Place places.LoadNotAtTop) s)) (listed_if (not d.enable_load) (fault (of_dialect dialects.Load) s))
        (listed_if_same (not a.at_top) (not a.at_top) (Place places.LoadNotAtTop) nowhere s refl)
        (listed_if_same (not d.enable_load) (not d.enable_load) (of_dialect dialects.Load) nowhere s refl)

    all_placed : (a : Around) (xs : t.Statements P) → kinds (statements_faults d a (unspanned_statements xs)) ≡ kinds (statements_faults d a xs)
    all_placed a t.no_statements = refl
    all_placed a (t.statements s ss) = both_same (statement_faults d a (unspanned_statement s)) (statements_faults d a (unspanned_statements ss))
        (statement_faults d a s) (statements_faults d a ss) (placed_same a s) (all_placed a ss)

-- ---- those of a module

pub faults_same : (d : Dialect) (s : t.Statement t.no_payload) → kinds (faults_in d (unspanned_statement s)) ≡ kinds (faults_in d s)
faults_same d s = both_same (in_statement d (unspanned_statement s)) (tree_faults d (unspanned_statement s)) (in_statement d s) (tree_faults d s)
    (kept_statement d s)
    (both_same (statement_faults d top (unspanned_statement s)) (expression_faults d (unspanned_statement s)) (statement_faults d top s)
    (expression_faults d s) (placed_same d top s) (own_statement d s))

-- trees that are equal apart from spans have faults of the same kinds
pub same_but_for_places : (d : Dialect) (s u : t.Statement t.no_payload) → unspanned_statement s ≡ unspanned_statement u → kinds (faults_in d s)
    ≡ kinds (faults_in d u)
same_but_for_places d s u e = sym (faults_same d s) ∙ ap (λ (x : t.Statement t.no_payload). kinds (faults_in d x)) e ∙ faults_same d u

no_kinds : (fs : Seq Fault) → kinds fs ≡ [] → fs ≡ []
no_kinds [] e = refl
no_kinds (f ∷ fs) e = absurd (cc)

-- if one has no faults, neither has the other
pub faultless_too : (d : Dialect) (s u : t.Statement t.no_payload) → unspanned_statement s ≡ unspanned_statement u → faults_in d s ≡ [] → faults_in d u ≡ []
faultless_too d s u e none = no_kinds (faults_in d u) (sym (same_but_for_places d s u e) ∙ ap (λ (fs : Seq Fault). kinds fs) none)
