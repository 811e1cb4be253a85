-- Expressions are read back from their source.
use Rattle.std.proofs.Common.{◌≡◌, List as Seq, [], ◌∷◌, ◌++◌, map, Bool, true, false, Ok, refl, sym, ap, append_assoc, append-nil}
use Rattle.starlark_lexer.specs.Tokens.{Dot, Colon, nowhere}
use Rattle.starlark_lexer.specs.Tokens as tokens
use Rattle.starlark_tree.specs.Ast as t
use Rattle.starlark_tree.specs.Ast.{no_payload, Expression, Expressions, Maybe, Target, Targets, expressions_of, expression_list, arguments_of, argument_list}
use Rattle.starlark_tree.specs.Ast.{parameters_of, parameter_list, pairs_of, clauses_of, clause_list}
use Rattle.starlark_spec.specs.Targets.{target}
use Rattle.starlark_spec.specs.Grammar.Nonterminal.{Test, Primary, Bound, Arg, Entry, LambdaParam, LoopVars, ForClause, Clauses, OptionalList}
use Rattle.starlark_spec.specs.Grammar.ElementKind.{lambda_parameters}
use Rattle.starlark_spec.specs.Grammar.ElementOf.{of_elements, of_arguments, of_entries, of_lambda_parameters}
use Rattle.starlark_spec.specs.Grammar.Derivation.{bound_none, bound_test, arg_test, arg_named, arg_star, arg_stars, lambda_param_slash, lambda_param_star}
use Rattle.starlark_spec.specs.Grammar.Derivation.{lambda_param_args, lambda_param_kwargs, lambda_param_name, lambda_param_default}
use Rattle.starlark_spec.specs.Trees.{Pair}
use Rattle.starlark_source.specs.declared.level.Level.{Level}
use Rattle.starlark_source.specs.declared.level.Level.TheVariants as level
use Rattle.starlark_source.specs.Levels.{left_of, right_of, level_of, level_of_operator}
use Rattle.starlark_source.specs.Literals.{name}
use Rattle.starlark_source.specs.Pieces.{Pieces, token, comma, listed, between}
use Rattle.starlark_source.specs.Source.{operator, colon, kept_apart, begins_with_brace, at_level, test, shape_source, tests, holes, maybe_source}
use Rattle.starlark_source.specs.Source.{pair_sources, argument_source, argument_sources, lambda_parameter, lambda_parameter_sources}
use Rattle.starlark_source.specs.Source.{lambda_parameters as lambda_source, for_source, clauses_source, target_source, target_sources}
use Rattle.starlark_source.specs.Unspanned.{unspanned, unspanned_all, unspanned_argument, unspanned_arguments, unspanned_clauses, unspanned_for}
use Rattle.starlark_source.specs.Unspanned.{unspanned_maybe, unspanned_pairs, unspanned_parameter, unspanned_parameters, unspanned_shape, unspanned_target}
use Rattle.starlark_source.specs.Unspanned.{unspanned_targets, unspanned_word}
use Rattle.starlark_source.proofs.ReadBack.Writing.{Sayable, split, Reads, none_written, one, followed, after, after_sign, spaced, then_none, reads_as}
use Rattle.starlark_source.proofs.ReadBack.Writing.{name_written, aimed}
use Rattle.starlark_source.proofs.ReadBack.Listing.{Offers, optional_list}
use Rattle.starlark_source.proofs.ReadBack.Levels.{At, at_any, placed_at}
use Rattle.starlark_source.proofs.ReadBack.Productions.{plain, unspanned_pair, unspanned_comprehended, with_clauses, name_read, literal_read, tuple_read}
use Rattle.starlark_source.proofs.ReadBack.Productions.{list_read, dict_read, dot_read, call_read, index_read, index_two_read, slice_read, step_read}
use Rattle.starlark_source.proofs.ReadBack.Productions.{not_read, minus_read, plus_read, bit_not_read, operation_read, if_read, lambda_read, for_read}
use Rattle.starlark_source.proofs.ReadBack.Productions.{first_clause, next_for, next_if, pair_read, list_comprehension_read, dict_comprehension_read}
use Rattle.starlark_source.proofs.ReadBack.Targets.{as_expression, as_expressions, expressions_back, target_seen, vars_of_tuple, vars_alone}
use Rattle.starlark_source.proofs.ReadBack.Targets.{tuple_of_primaries}
use Rattle.starlark_source.proofs.ReadBack.Formats.{f_string_read}

-- ---- lists, and the lists that they are

arguments_back : (xs : t.Arguments no_payload) → arguments_of (argument_list xs) ≡ xs
arguments_back t.no_arguments = refl
arguments_back (t.arguments x xs) = ap (t.arguments x) (arguments_back xs)

pub parameters_back : (xs : t.Parameters no_payload) → parameters_of (parameter_list xs) ≡ xs
parameters_back t.no_parameters = refl
parameters_back (t.parameters x xs) = ap (t.parameters x) (parameters_back xs)

clauses_back : (cs : t.Clauses no_payload) → clauses_of (clause_list cs) ≡ cs
clauses_back t.no_clauses = refl
clauses_back (t.clauses c cs) = ap (t.clauses c) (clauses_back cs)

abbrev pair_list : t.Pairs no_payload → Seq Pair
pair_list t.no_pairs = []
pair_list (t.pairs k v ps) = (k, v) ∷ pair_list ps

pairs_back : (ps : t.Pairs no_payload) → pairs_of (pair_list ps) ≡ ps
pairs_back t.no_pairs = refl
pairs_back (t.pairs k v ps) = ap (t.pairs k v) (pairs_back ps)

-- ---- what needs no recursion

kept : (b : Bool) (ps : Pieces) (e : Expression no_payload) → (Sayable ps → At level.Test ps e) → Sayable (kept_apart b ps)
    → At level.Test (kept_apart b ps) e
kept true ps e r h = let x = r h in record { derivation = x.derivation; writes = spaced 1 x.writes; looks = x.looks }
kept false ps e r h = r h

bound_of : {ps : Pieces} {e : Expression no_payload} → At level.Test ps e → Reads Bound (λ v. unspanned_maybe v) ps (t.present e)
bound_of r = record { derivation = bound_test r.derivation; writes = r.writes; looks = ap t.present r.looks }

-- the variables of a loop, seen as a target
vars_seen : {ps : Pieces} (x : Target no_payload) → Reads LoopVars (λ v. unspanned v) ps (as_expression (unspanned_target x))
    → Reads LoopVars (λ v. aimed (target v)) ps (Ok (unspanned_target x))
vars_seen x r = record { derivation = r.derivation; writes = r.writes; looks = target_seen _ x r.looks }

clauses_as : {ps qs : Pieces} {f : t.ForIn no_payload} {xs ys : Seq (t.Clause no_payload)} → ps ≡ qs → xs ≡ ys
    → Reads Clauses (λ v. unspanned_comprehended v) ps (with_clauses f xs) → Reads Clauses (λ v. unspanned_comprehended v) qs (with_clauses f ys)
clauses_as {f = f} is same r = reads_as is (ap (with_clauses f) same) r

in_list_back : {ps : Pieces} {es : Expressions no_payload} → At level.Primary ps (plain (t.Tuple (expressions_of (expression_list es))))
    → At level.Primary ps (plain (t.Tuple es))
in_list_back {es = es} r = reads_as refl (ap (λ xs. plain (t.Tuple xs)) (expressions_back es)) r

-- ---- expressions

mutual
  pub shape_read : (shape : t.Shape no_payload) → Sayable (shape_source shape) → At (level_of shape) (shape_source shape) (plain (unspanned_shape shape))
  shape_read (t.Tuple es) h = in_list_back (tuple_read (tests es) (expression_list (unspanned_all es)) (tests_read es) h)
  shape_read (t.Dot e w) h = let x = split (at_level level.Primary e) _ h in dot_read w (read_at level.Primary e x.0) x.1
  shape_read (t.Call f xs) h =
      let x = split (at_level level.Number f) _ h in
      let y = split (listed (argument_sources xs)) _ x.1 in
      reads_as refl (ap (λ zs. plain (t.Call (unspanned f) zs)) (arguments_back (unspanned_arguments xs)))
      (call_read (read_at level.Number f x.0)
      (optional_list of_arguments (λ v. unspanned_argument v) (argument_sources xs) (argument_list (unspanned_arguments xs)) (arguments_read xs) y.0))
  shape_read (t.Index a i) h =
      let x = split (at_level level.Number a) _ h in
      index_read (read_at level.Number a x.0) (test_read i (split (test i) _ x.1).0)
  shape_read (t.Index2 a i j) h =
      let x = split (at_level level.Number a) _ h in
      let y = split (test i) _ (split (test i ++ (comma ++ test j)) _ x.1).0 in
      index_two_read (read_at level.Number a x.0) (test_read i y.0) (test_read j y.1)
  shape_read (t.Slice a start stop t.absent) h =
      let x = split (at_level level.Number a) _ h in
      let y = split (maybe_source [] start) _ (split (maybe_source [] start ++ (token Colon ∷ [] ++ (maybe_source [] stop ++ []))) _ x.1).0 in
      slice_read (read_at level.Number a x.0) (bound_read start y.0) (bound_read stop (split (maybe_source [] stop) _ y.1).0)
  shape_read (t.Slice a start stop (t.present e)) h =
      let x = split (at_level level.Number a) _ h in
      let y = split (maybe_source [] start) _ (split (maybe_source [] start ++
      (token Colon ∷ [] ++ (maybe_source [] stop ++ token Colon ∷ test e))) _ x.1).0 in
      let z = split (maybe_source [] stop) _ y.1 in
      step_read (read_at level.Number a x.0) (bound_read start y.0) (bound_read stop z.0) (bound_of (test_read e z.1))
  shape_read (t.Identifier w p) h = name_read w h
  shape_read (t.Lambda ps e p) h =
      let x = split (lambda_source ps) _ h in
      reads_as refl (ap (λ zs. plain (t.Lambda zs (unspanned e) tt)) (parameters_back (unspanned_parameters ps)))
      (lambda_read (lambda_list_read ps x.0) (test_read e x.1))
  shape_read (t.Constant x) h = literal_read x h
  shape_read (t.Not e) h = not_read (read_at level.Not e h)
  shape_read (t.Minus e) h = minus_read (read_at level.Unary e h)
  shape_read (t.Plus e) h = plus_read (read_at level.Unary e h)
  shape_read (t.BitNot e) h = bit_not_read (read_at level.Unary e h)
  shape_read (t.Op l o r) h =
      let x = split (at_level (left_of (level_of_operator o)) l) _ h in
      operation_read o (read_at (left_of (level_of_operator o)) l x.0) (read_at (right_of (level_of_operator o)) r (split (operator o) _ x.1).1)
  shape_read (t.If c a b) h =
      let x = split (at_level level.Or a) _ h in
      let y = split (at_level level.Or c) _ x.1 in
      if_read (read_at level.Or a x.0) (read_at level.Or c y.0) (test_read b y.1)
  shape_read (t.List es) h =
      reads_as refl (ap (λ xs. plain (t.List xs)) (expressions_back (unspanned_all es)))
      (list_read
      (optional_list of_elements (λ v. unspanned v) (tests es) (expression_list (unspanned_all es)) (tests_read es) (split (listed (tests es)) _ h).0))
  shape_read (t.Dict ps) h =
      reads_as refl (ap (λ xs. plain (t.Dict xs)) (pairs_back (unspanned_pairs ps)))
      (dict_read
      (optional_list of_entries (λ v. unspanned_pair v) (pair_sources ps) (pair_list (unspanned_pairs ps)) (pairs_read ps)
      (split (listed (pair_sources ps)) _ h).0))
  shape_read (t.ListComprehension e first cs) h =
      let x = split (test e) _ (split (test e ++ (for_source first ++ clauses_source cs)) _ h).0 in
      let y = split (for_source first) _ x.1 in
      reads_as refl (ap (λ zs. plain (t.ListComprehension (unspanned e) (unspanned_for first) zs)) (clauses_back (unspanned_clauses cs)))
      (list_comprehension_read (test_read e x.0) (clauses_read cs (first_clause (for_in_read first y.0)) y.1))
  shape_read (t.DictComprehension k v first cs) h =
      let x = split (test k ++ (colon ++ test v)) _ (split ((test k ++ (colon ++ test v)) ++ (for_source first ++ clauses_source cs)) _ h).0 in
      let y = split (for_source first) _ x.1 in
      let z = split (test k) _ x.0 in
      reads_as refl (ap (λ zs. plain (t.DictComprehension (unspanned k) (unspanned v) (unspanned_for first) zs)) (clauses_back (unspanned_clauses cs)))
      (dict_comprehension_read (pair_read (test_read k z.0) (test_read v z.1)) (clauses_read cs (first_clause (for_in_read first y.0)) y.1))
  shape_read (t.FString s format es) h =
      reads_as refl (ap (λ xs. plain (t.FString nowhere (unspanned_word format) xs)) (expressions_back (unspanned_all es)))
      (f_string_read s format (holes es) (expression_list (unspanned_all es)) (holes_read es) h)

  pub read_at : (k : Level) (e : Expression no_payload) → Sayable (at_level k e) → At k (at_level k e) (unspanned e)
  read_at k (t.expression s shape) h = placed_at (level_of shape) k (shape_source shape) (plain (unspanned_shape shape)) (shape_read shape) h

  pub test_read : (e : Expression no_payload) → Sayable (test e) → At level.Test (test e) (unspanned e)
  test_read (t.expression s shape) h = at_any (level_of shape) (shape_read shape h)

  pub tests_read : (es : Expressions no_payload) → Offers Test (λ v. unspanned v) (tests es) (expression_list (unspanned_all es))
  tests_read t.no_expressions = tt
  tests_read (t.expressions e es) = (test_read e, tests_read es)

  holes_read : (es : Expressions no_payload) → Offers Test (λ v. unspanned v) (holes es) (expression_list (unspanned_all es))
  holes_read t.no_expressions = tt
  holes_read (t.expressions e es) = (kept (begins_with_brace e) (test e) (unspanned e) (test_read e), holes_read es)

  bound_read : (m : Maybe no_payload) → Sayable (maybe_source [] m) → Reads Bound (λ v. unspanned_maybe v) (maybe_source [] m) (unspanned_maybe m)
  bound_read t.absent h = record { derivation = bound_none; writes = none_written; looks = refl }
  bound_read (t.present e) h = bound_of (test_read e h)

  pairs_read : (ps : t.Pairs no_payload) → Offers Entry (λ v. unspanned_pair v) (pair_sources ps) (pair_list (unspanned_pairs ps))
  pairs_read t.no_pairs = tt
  pairs_read (t.pairs k v ps) = (λ h. let x = split (test k) _ h in pair_read (test_read k x.0) (test_read v x.1), pairs_read ps)

  argument_read : (x : t.Argument no_payload) → Sayable (argument_source x) → Reads Arg (λ v. unspanned_argument v) (argument_source x) (unspanned_argument x)
  argument_read (t.Positional s e) h =
      let r = test_read e h in record { derivation = arg_test r.derivation; writes = r.writes; looks = ap (t.Positional nowhere) r.looks }
  argument_read (t.Named s w e) h =
      let x = split (name w) _ h in
      let r = test_read e x.1 in record {
        derivation = arg_named w.text nowhere nowhere r.derivation;
        writes = followed (name_written w nowhere x.0) (after_sign r.writes);
        looks = ap (t.Named nowhere (unspanned_word w)) r.looks;
      }
  argument_read (t.Star s e) h =
      let r = test_read e h in record { derivation = arg_star nowhere r.derivation; writes = after r.writes; looks = ap (t.Star nowhere) r.looks }
  argument_read (t.StarStar s e) h =
      let r = test_read e h in record { derivation = arg_stars nowhere r.derivation; writes = after r.writes; looks = ap (t.StarStar nowhere) r.looks }

  arguments_read : (xs : t.Arguments no_payload) → Offers Arg (λ v. unspanned_argument v) (argument_sources xs) (argument_list (unspanned_arguments xs))
  arguments_read t.no_arguments = tt
  arguments_read (t.arguments x xs) = (argument_read x, arguments_read xs)

  lambda_parameter_read : (x : t.Parameter no_payload) → Sayable (lambda_parameter x)
      → Reads LambdaParam (λ v. unspanned_parameter v) (lambda_parameter x) (unspanned_parameter x)
  lambda_parameter_read (t.Slash s) h = record { derivation = lambda_param_slash nowhere; writes = one; looks = refl }
  lambda_parameter_read (t.Normal s w p (t.typed r e q) value) h = absurd (split (name w) _ h).1
  lambda_parameter_read (t.Normal s w p t.no_type t.absent) h =
      record { derivation = lambda_param_name w.text nowhere; writes = then_none (name_written w nowhere (split (name w) _ h).0); looks = refl }
  lambda_parameter_read (t.Normal s w p t.no_type (t.present e)) h =
      let x = split (name w) _ h in
      let r = test_read e x.1 in record {
        derivation = lambda_param_default w.text nowhere nowhere r.derivation;
        writes = followed (name_written w nowhere x.0) (after_sign r.writes);
        looks = ap (λ v. t.Normal nowhere (unspanned_word w) tt t.no_type (t.present v)) r.looks;
      }
  lambda_parameter_read (t.NoArgs s) h = record { derivation = lambda_param_star nowhere; writes = one; looks = refl }
  lambda_parameter_read (t.Args s w p t.no_type) h =
      record {
        derivation = lambda_param_args nowhere w.text nowhere;
        writes = after (then_none (name_written w nowhere (split (name w) _ h).0));
        looks =
            refl;
      }
  lambda_parameter_read (t.Args s w p (t.typed r e q)) h = absurd (split (name w) _ h).1
  lambda_parameter_read (t.KwArgs s w p t.no_type) h =
      record {
        derivation = lambda_param_kwargs nowhere w.text nowhere;
        writes = after (then_none (name_written w nowhere (split (name w) _ h).0));
        looks = refl;
      }
  lambda_parameter_read (t.KwArgs s w p (t.typed r e q)) h = absurd (split (name w) _ h).1

  lambda_parameters_read : (xs : t.Parameters no_payload)
      → Offers LambdaParam (λ v. unspanned_parameter v) (lambda_parameter_sources xs) (parameter_list (unspanned_parameters xs))
  lambda_parameters_read t.no_parameters = tt
  lambda_parameters_read (t.parameters x xs) = (lambda_parameter_read x, lambda_parameters_read xs)

  lambda_list_read : (xs : t.Parameters no_payload) → Sayable (lambda_source xs)
      → Reads (OptionalList lambda_parameters) (λ vs. map (λ v. unspanned_parameter v) vs) (lambda_source xs) (parameter_list (unspanned_parameters xs))
  lambda_list_read t.no_parameters h = optional_list of_lambda_parameters (λ v. unspanned_parameter v) [] [] tt tt
  lambda_list_read (t.parameters x xs) h =
      let r = optional_list of_lambda_parameters (λ v. unspanned_parameter v) (lambda_parameter x ∷ lambda_parameter_sources xs)
      (unspanned_parameter x ∷ parameter_list (unspanned_parameters xs)) (lambda_parameter_read x, lambda_parameters_read xs) h in
      record { derivation = r.derivation; writes = spaced 1 r.writes; looks = r.looks }

  for_in_read : (f : t.ForIn no_payload) → Sayable (for_source f) → Reads ForClause (λ v. unspanned_for v) (for_source f) (unspanned_for f)
  for_in_read (t.for_in x e) h =
      let y = split (target_source true x) _ h in for_read (vars_read x y.0) (read_at level.Or e y.1)

  clauses_read : (cs : t.Clauses no_payload) {ps : Pieces} {f : t.ForIn no_payload} {xs : Seq (t.Clause no_payload)}
      → Reads Clauses (λ v. unspanned_comprehended v) ps (with_clauses f xs) → Sayable (clauses_source cs)
      → Reads Clauses (λ v. unspanned_comprehended v) (ps ++ clauses_source cs) (with_clauses f (xs ++ clause_list (unspanned_clauses cs)))
  clauses_read t.no_clauses {ps = ps} {xs = xs} l h = clauses_as (sym (append-nil ps)) (sym (append-nil xs)) l
  clauses_read (t.clauses (t.for_clause g) cs) {ps = ps} {xs = xs} l h =
      let y = split (for_source g) _ h in
      clauses_as (append_assoc ps (for_source g) (clauses_source cs))
      (append_assoc xs (t.for_clause (unspanned_for g) ∷ []) (clause_list (unspanned_clauses cs)))
      (clauses_read cs (next_for l (for_in_read g y.0)) y.1)
  clauses_read (t.clauses (t.if_clause e) cs) {ps = ps} {xs = xs} l h =
      let y = split (between tokens.If ++ at_level level.Or e) _ h in
      clauses_as (append_assoc ps (between tokens.If ++ at_level level.Or e) (clauses_source cs))
      (append_assoc xs (t.if_clause (unspanned e) ∷ []) (clause_list (unspanned_clauses cs)))
      (clauses_read cs (next_if l (read_at level.Or e y.0)) y.1)

  -- a target, as the expression that it is
  pub target_read : (x : Target no_payload) → Sayable (target_source false x) → At level.Primary (target_source false x) (as_expression (unspanned_target x))
  target_read (t.TupleTarget s xs) h =
      in_list_back (tuple_read (target_sources xs) (expression_list (as_expressions (unspanned_targets xs))) (tuple_of_primaries _ _ (targets_read xs)) h)
  target_read (t.IndexTarget s a i) h =
      let x = split (at_level level.Number a) _ h in
      index_read (read_at level.Number a x.0) (test_read i (split (test i) _ x.1).0)
  target_read (t.DotTarget s e w) h = let x = split (at_level level.Primary e) _ h in dot_read w (read_at level.Primary e x.0) x.1
  target_read (t.NameTarget s w p) h = name_read w h

  pub targets_read : (xs : Targets no_payload) → Offers Primary (λ v. unspanned v) (target_sources xs)
      (expression_list (as_expressions (unspanned_targets xs)))
  targets_read t.no_targets = tt
  targets_read (t.targets x xs) = (target_read x, targets_read xs)

  pub vars_read : (x : Target no_payload) → Sayable (target_source true x)
      → Reads LoopVars (λ v. aimed (target v)) (target_source true x) (Ok (unspanned_target x))
  vars_read (t.TupleTarget s xs) h =
      vars_seen (t.TupleTarget s xs) (reads_as refl (ap (λ zs. plain (t.Tuple zs)) (expressions_back (as_expressions (unspanned_targets xs))))
      (vars_of_tuple (target_sources xs) (expression_list (as_expressions (unspanned_targets xs))) (targets_read xs) h))
  vars_read (t.IndexTarget s a i) h =
      let x = split (at_level level.Number a) _ h in
      vars_seen (t.IndexTarget s a i) (vars_alone (index_read (read_at level.Number a x.0) (test_read i (split (test i) _ x.1).0)))
  vars_read (t.DotTarget s e w) h =
      let x = split (at_level level.Primary e) _ h in vars_seen (t.DotTarget s e w) (vars_alone (dot_read w (read_at level.Primary e x.0) x.1))
  vars_read (t.NameTarget s w p) h = vars_seen (t.NameTarget s w p) (vars_alone (name_read w h))
