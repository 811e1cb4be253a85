-- What is in statements besides expressions: lists of them, targets, types and parameters.
use Rattle.std.proofs.Common.{◌≡◌, [], ◌++◌, true, Ok, refl, ap, ◌∙◌}
use Rattle.starlark_lexer.specs.Tokens.{nowhere}
use Rattle.starlark_lexer.specs.Tokens as tokens
use Rattle.starlark_tree.specs.Ast as t
use Rattle.starlark_tree.specs.Ast.{no_payload, Expression, MaybeType, Target, expression_list, parameters_of, parameter_list}
use Rattle.starlark_spec.specs.Targets.{target}
use Rattle.starlark_spec.specs.Grammar.Nonterminal.{TestList, Annotation, ReturnType, DefParam, OptionalList}
use Rattle.starlark_spec.specs.Grammar.ElementKind.{def_parameters}
use Rattle.starlark_spec.specs.Grammar.ElementOf.{of_def_parameters}
use Rattle.starlark_spec.specs.Grammar.Derivation.{annotation_none, annotation_note, note_test, return_type_none, return_type_note, def_param_slash}
use Rattle.starlark_spec.specs.Grammar.Derivation.{def_param_star, def_param_args, def_param_kwargs, def_param_name, def_param_default}
use Rattle.starlark_spec.specs.Trees.{tree}
use Rattle.starlark_source.specs.declared.level.Level.TheVariants as level
use Rattle.starlark_source.specs.Levels.{level_of}
use Rattle.starlark_source.specs.Literals.{name}
use Rattle.starlark_source.specs.Pieces.{Pieces, listed, between}
use Rattle.starlark_source.specs.Source.{colon, at_level, test, test_list, tests, maybe_type_source, parameter_source, parameter_sources, target_source}
use Rattle.starlark_source.specs.Source.{target_sources}
use Rattle.starlark_source.specs.Unspanned.{unspanned, unspanned_all, unspanned_parameter, unspanned_parameters, unspanned_target, unspanned_targets}
use Rattle.starlark_source.specs.Unspanned.{unspanned_type, unspanned_word}
use Rattle.starlark_source.proofs.ReadBack.Writing.{Sayable, split, Reads, none_written, one, followed, after, after_sign, spaced, with_mark, then_none}
use Rattle.starlark_source.proofs.ReadBack.Writing.{reads_as, name_written, aimed}
use Rattle.starlark_source.proofs.ReadBack.Listing.{Offers, optional_list}
use Rattle.starlark_source.proofs.ReadBack.Productions.{plain, parameters_unspanned, dot_read, index_read, name_read}
use Rattle.starlark_source.proofs.ReadBack.Targets.{as_expression, as_expressions, expressions_back, target_seen, test_list_of_one, test_list_of_tuple}
use Rattle.starlark_source.proofs.ReadBack.Targets.{tuple_of_primaries}
use Rattle.starlark_source.proofs.ReadBack.Levels.{at_any}
use Rattle.starlark_source.proofs.ReadBack.Expressions.{parameters_back, read_at, shape_read, test_read, tests_read, targets_read}

-- ---- lists of expressions and of targets

pub test_list_read : (e : Expression no_payload) → Sayable (test_list e) → Reads TestList (λ v. unspanned v) (test_list e) (unspanned e)
test_list_read (t.expression s (t.Tuple es)) h =
    reads_as refl (ap (λ xs. plain (t.Tuple xs)) (expressions_back (unspanned_all es)))
    (test_list_of_tuple (tests es) (expression_list (unspanned_all es)) (tests_read es) h)
test_list_read (t.expression s other) h = test_list_of_one (at_any (level_of other) (shape_read other h))

-- a list of expressions, seen as a target
list_seen : {ps : Pieces} (x : Target no_payload) → Reads TestList (λ v. unspanned v) ps (as_expression (unspanned_target x))
    → Reads TestList (λ v. aimed (target v)) ps (Ok (unspanned_target x))
list_seen x r = record { derivation = r.derivation; writes = r.writes; looks = target_seen _ x r.looks }

pub target_list_read : (x : Target no_payload) → Sayable (target_source true x)
    → Reads TestList (λ v. aimed (target v)) (target_source true x) (Ok (unspanned_target x))
target_list_read (t.TupleTarget s xs) h =
    list_seen (t.TupleTarget s xs) (reads_as refl (ap (λ zs. plain (t.Tuple zs)) (expressions_back (as_expressions (unspanned_targets xs))))
    (test_list_of_tuple (target_sources xs) (expression_list (as_expressions (unspanned_targets xs))) (tuple_of_primaries _ _ (targets_read xs)) h))
target_list_read (t.IndexTarget s a i) h =
    let x = split (at_level level.Number a) _ h in
    list_seen (t.IndexTarget s a i) (test_list_of_one (at_any level.Primary (index_read (read_at level.Number a x.0) (test_read i (split (test i) _ x.1).0))))
target_list_read (t.DotTarget s e w) h =
    let x = split (at_level level.Primary e) _ h in
    list_seen (t.DotTarget s e w) (test_list_of_one (at_any level.Primary (dot_read w (read_at level.Primary e x.0) x.1)))
target_list_read (t.NameTarget s w p) h = list_seen (t.NameTarget s w p) (test_list_of_one (at_any level.Primary (name_read w h)))

-- ---- types

pub annotation_read : (ty : MaybeType no_payload) → Sayable (maybe_type_source colon ty)
    → Reads Annotation (λ v. unspanned_type v) (maybe_type_source colon ty) (unspanned_type ty)
annotation_read t.no_type h = record { derivation = annotation_none; writes = none_written; looks = refl }
annotation_read (t.typed s e p) h =
    let r = test_read e h in record {
      derivation = annotation_note nowhere (note_test r.derivation);
      writes = after (spaced 1 (with_mark refl r.writes));
      looks = ap (λ v. t.typed nowhere v tt) r.looks;
    }

pub return_type_read : (ty : MaybeType no_payload) → Sayable (maybe_type_source (between tokens.MinusGreater) ty)
    → Reads ReturnType (λ v. unspanned_type v) (maybe_type_source (between tokens.MinusGreater) ty) (unspanned_type ty)
return_type_read t.no_type h = record { derivation = return_type_none; writes = none_written; looks = refl }
return_type_read (t.typed s e p) h =
    let r = test_read e h in record {
      derivation = return_type_note nowhere (note_test r.derivation);
      writes = after_sign (with_mark refl r.writes);
      looks = ap (λ v. t.typed nowhere v tt) r.looks;
    }

-- ---- the parameters of a definition

parameter_read : (x : t.Parameter no_payload) → Sayable (parameter_source x)
    → Reads DefParam (λ v. unspanned_parameter v) (parameter_source x) (unspanned_parameter x)
parameter_read (t.Slash s) h = record { derivation = def_param_slash nowhere; writes = one; looks = refl }
parameter_read (t.Normal s w p ty t.absent) h =
    let x = split (name w) _ h in
    let r = annotation_read ty (split (maybe_type_source colon ty) [] x.1).0 in record {
      derivation = def_param_name w.text nowhere r.derivation;
      writes = followed (name_written w nowhere x.0) (then_none r.writes);
      looks = ap (λ v. t.Normal nowhere (unspanned_word w) tt v t.absent) r.looks;
    }
parameter_read (t.Normal s w p ty (t.present e)) h =
    let x = split (name w) _ h in
    let y = split (maybe_type_source colon ty) (between tokens.Equal ++ test e) x.1 in
    let r = annotation_read ty y.0 in
    let v = test_read e y.1 in record {
      derivation = def_param_default w.text nowhere r.derivation nowhere v.derivation;
      writes = followed (name_written w nowhere x.0) (followed r.writes (after_sign v.writes));
      looks = ap (λ z. t.Normal nowhere (unspanned_word w) tt z (t.present (unspanned (tree v.derivation)))) r.looks
          ∙ ap (λ z. t.Normal nowhere (unspanned_word w) tt (unspanned_type ty) (t.present z)) v.looks;
    }
parameter_read (t.NoArgs s) h = record { derivation = def_param_star nowhere; writes = one; looks = refl }
parameter_read (t.Args s w p ty) h =
    let x = split (name w) _ h in
    let r = annotation_read ty x.1 in record {
      derivation = def_param_args nowhere w.text nowhere r.derivation;
      writes = after (followed (name_written w nowhere x.0) r.writes);
      looks = ap (t.Args nowhere (unspanned_word w) tt) r.looks;
    }
parameter_read (t.KwArgs s w p ty) h =
    let x = split (name w) _ h in
    let r = annotation_read ty x.1 in record {
      derivation = def_param_kwargs nowhere w.text nowhere r.derivation;
      writes = after (followed (name_written w nowhere x.0) r.writes);
      looks = ap (t.KwArgs nowhere (unspanned_word w) tt) r.looks;
    }

all_parameters_read : (xs : t.Parameters no_payload)
    → Offers DefParam (λ v. unspanned_parameter v) (parameter_sources xs) (parameter_list (unspanned_parameters xs))
all_parameters_read t.no_parameters = tt
all_parameters_read (t.parameters x xs) = (parameter_read x, all_parameters_read xs)

pub parameters_read : (xs : t.Parameters no_payload) → Sayable (listed (parameter_sources xs))
    → Reads (OptionalList def_parameters) (λ vs. unspanned_parameters (parameters_of vs)) (listed (parameter_sources xs)) (unspanned_parameters xs)
parameters_read xs h =
    let r = optional_list of_def_parameters (λ v. unspanned_parameter v) (parameter_sources xs) (parameter_list (unspanned_parameters xs))
    (all_parameters_read xs) h in record {
      derivation = r.derivation;
      writes = r.writes;
      looks = parameters_unspanned (tree r.derivation) ∙ ap parameters_of r.looks ∙ parameters_back (unspanned_parameters xs);
    }
