-- Which arguments of a call and which parameters are rejected does not depend on spans.
use Rattle.std.proofs.Common.{◌≡◌, List as Seq, [], ◌∷◌, ◌++◌, refl, sym, ap, ap₂, ◌∙◌, Bool, true, false, not, Option, Some, None}
use Rattle.std.specs.Prelude.{◌||◌, ◌&&◌, ◌-◌, ◌^◌, ℕ, map, length, nat_lt, option_map, option_to_list, slice_get}
use Rattle.std.specs.List.{list_any}
use Rattle.std.specs.Option.{option_or}
use Rattle.std.specs.Str.{bytes_eq}
use Rattle.std.proofs.lemmas.List.{length-map}
use Rattle.starlark_lexer.specs.Tokens.{Span, Text, nowhere}
use Rattle.starlark_tree.specs.Ast as t
use Rattle.starlark_tree.specs.Ast.{Payloads, Argument, Parameter, Maybe, argument_list, parameter_list, argument_span, parameter_span}
use Rattle.starlark_spec.specs.Faults.{Fault, rule_fault as fault, Rule, Call, Params}
use Rattle.starlark_checks.specs.Faults.{fault_if, first_fault}
use Rattle.starlark_checks.specs.Calls as calls
use Rattle.starlark_checks.specs.Parameters as parameters
use Rattle.starlark_spec.specs.declared.error.CallError.TheVariants as rule
use Rattle.starlark_spec.specs.declared.error.ParamsError.TheVariants as params
use Rattle.starlark_source.specs.Unspanned.{unspanned_argument, unspanned_arguments, unspanned_maybe, unspanned_parameter, unspanned_parameters}
use Rattle.starlark_source.specs.Unspanned.{unspanned_word}
use Rattle.starlark_source.proofs.RoundTrip.FaultKinds.{kind_of, kind_in, kinds, if_same, or_same, any_same, first_same}

module _ {P : Payloads} where
  -- ---- arguments

  pub arguments_listed : (xs : t.Arguments P) → argument_list (unspanned_arguments xs) ≡ map unspanned_argument (argument_list xs)
  arguments_listed t.no_arguments = refl
  arguments_listed (t.arguments x xs) = ap (λ (ys : Seq (Argument P)). unspanned_argument x ∷ ys) (arguments_listed xs)

  positional_same : (a : Argument P) → calls.is_positional (unspanned_argument a) ≡ calls.is_positional a
  positional_same (t.Positional s e) = refl
  positional_same (t.Named s w e) = refl
  positional_same (t.Star s e) = refl
  positional_same (t.StarStar s e) = refl

  unpacked_same : (a : Argument P) → calls.is_unpacked (unspanned_argument a) ≡ calls.is_unpacked a
  unpacked_same (t.Positional s e) = refl
  unpacked_same (t.Named s w e) = refl
  unpacked_same (t.Star s e) = refl
  unpacked_same (t.StarStar s e) = refl

  star_star_same : (a : Argument P) → calls.is_star_star (unspanned_argument a) ≡ calls.is_star_star a
  star_star_same (t.Positional s e) = refl
  star_star_same (t.Named s w e) = refl
  star_star_same (t.Star s e) = refl
  star_star_same (t.StarStar s e) = refl

  name_same : (text : Text) (a : Argument P) → calls.has_name text (unspanned_argument a) ≡ calls.has_name text a
  name_same text (t.Positional s e) = refl
  name_same text (t.Named s w e) = refl
  name_same text (t.Star s e) = refl
  name_same text (t.StarStar s e) = refl

  precedes_same : (a b : Argument P) → calls.must_precede (unspanned_argument a) (unspanned_argument b) ≡ calls.must_precede a b
  precedes_same (t.Positional s e) b = ap (λ (x : Bool). not x) (positional_same b)
  precedes_same (t.Named s w e) b = unpacked_same b
  precedes_same (t.Star s e) b = unpacked_same b
  precedes_same (t.StarStar s e) b = star_star_same b

  rule_same : (a : Argument P) → calls.rule_of (unspanned_argument a) ≡ calls.rule_of a
  rule_same (t.Positional s e) = refl
  rule_same (t.Named s w e) = refl
  rule_same (t.Star s e) = refl
  rule_same (t.StarStar s e) = refl

  misplaced_same : (before : Seq (Argument P)) (a : Argument P) → kind_in (calls.misplaced (map unspanned_argument before) (unspanned_argument a))
      ≡ kind_in (calls.misplaced before a)
  misplaced_same before a = rw (rule_same a)
      (if_same (list_any (calls.must_precede (unspanned_argument a)) (map unspanned_argument before)) (list_any (calls.must_precede a) before)
      (Call (calls.rule_of a))
      (argument_span (unspanned_argument a)) (argument_span a)
      (any_same unspanned_argument (calls.must_precede (unspanned_argument a)) (calls.must_precede a) (precedes_same a) before))

  repeated_same : (before : Seq (Argument P)) (a : Argument P) → kind_in (calls.repeated (map unspanned_argument before) (unspanned_argument a))
      ≡ kind_in (calls.repeated before a)
  repeated_same before (t.Positional s e) = refl
  repeated_same before (t.Named s w e) =
      if_same (list_any (calls.has_name w.text) (map unspanned_argument before)) (list_any (calls.has_name w.text) before)
      (Call rule.RepeatedName) nowhere w.span
      (any_same unspanned_argument (calls.has_name w.text) (calls.has_name w.text) (name_same w.text) before)
  repeated_same before (t.Star s e) = refl
  repeated_same before (t.StarStar s e) = refl

  argument_same : (before : Seq (Argument P)) (a : Argument P) → kind_in (calls.argument_fault (map unspanned_argument before) (unspanned_argument a))
      ≡ kind_in (calls.argument_fault before a)
  argument_same before a = or_same (calls.misplaced (map unspanned_argument before) (unspanned_argument a)) (calls.misplaced before a)
      (calls.repeated (map unspanned_argument before) (unspanned_argument a)) (calls.repeated before a) (misplaced_same before a) (repeated_same before a)

  pub call_same : (xs : t.Arguments P) → kind_in (calls.call_fault (argument_list (unspanned_arguments xs))) ≡ kind_in (calls.call_fault (argument_list xs))
  call_same xs = ap (λ (ys : Seq (Argument P)). kind_in (calls.call_fault ys)) (arguments_listed xs)
      ∙ first_same unspanned_argument calls.argument_fault argument_same [] (argument_list xs)

  -- ---- parameters

  pub parameters_listed : (ps : t.Parameters P) → parameter_list (unspanned_parameters ps) ≡ map unspanned_parameter (parameter_list ps)
  parameters_listed t.no_parameters = refl
  parameters_listed (t.parameters p ps) = ap (λ (qs : Seq (Parameter P)). unspanned_parameter p ∷ qs) (parameters_listed ps)

  pub slash_same : (p : Parameter P) → parameters.is_slash (unspanned_parameter p) ≡ parameters.is_slash p
  slash_same (t.Slash s) = refl
  slash_same (t.Normal s w q ty v) = refl
  slash_same (t.NoArgs s) = refl
  slash_same (t.Args s w q ty) = refl
  slash_same (t.KwArgs s w q ty) = refl

  plain_same : (p : Parameter P) → parameters.is_plain (unspanned_parameter p) ≡ parameters.is_plain p
  plain_same (t.Slash s) = refl
  plain_same (t.Normal s w q ty v) = refl
  plain_same (t.NoArgs s) = refl
  plain_same (t.Args s w q ty) = refl
  plain_same (t.KwArgs s w q ty) = refl

  starred_same : (p : Parameter P) → parameters.is_starred (unspanned_parameter p) ≡ parameters.is_starred p
  starred_same (t.Slash s) = refl
  starred_same (t.Normal s w q ty v) = refl
  starred_same (t.NoArgs s) = refl
  starred_same (t.Args s w q ty) = refl
  starred_same (t.KwArgs s w q ty) = refl

  kwargs_same : (p : Parameter P) → parameters.is_kwargs (unspanned_parameter p) ≡ parameters.is_kwargs p
  kwargs_same (t.Slash s) = refl
  kwargs_same (t.Normal s w q ty v) = refl
  kwargs_same (t.NoArgs s) = refl
  kwargs_same (t.Args s w q ty) = refl
  kwargs_same (t.KwArgs s w q ty) = refl

  given_same : (v : Maybe P) → parameters.is_given (unspanned_maybe v) ≡ parameters.is_given v
  given_same t.absent = refl
  given_same (t.present e) = refl

  default_same : (p : Parameter P) → parameters.has_default (unspanned_parameter p) ≡ parameters.has_default p
  default_same (t.Slash s) = refl
  default_same (t.Normal s w q ty v) = given_same v
  default_same (t.NoArgs s) = refl
  default_same (t.Args s w q ty) = refl
  default_same (t.KwArgs s w q ty) = refl

  called_same : (text : Text) (p : Parameter P) → parameters.has_name text (unspanned_parameter p) ≡ parameters.has_name text p
  called_same text (t.Slash s) = refl
  called_same text (t.Normal s w q ty v) = refl
  called_same text (t.NoArgs s) = refl
  called_same text (t.Args s w q ty) = refl
  called_same text (t.KwArgs s w q ty) = refl

  module _ (before : Seq (Parameter P)) where
    any : (test : Parameter P → Bool) → ((p : Parameter P) → test (unspanned_parameter p) ≡ test p) → list_any test (map unspanned_parameter before)
        ≡ list_any test before
    any test h = any_same unspanned_parameter test test h before

    starred_before : (list_any parameters.is_starred (map unspanned_parameter before) || list_any parameters.is_kwargs (map unspanned_parameter before))
        ≡ (list_any parameters.is_starred before || list_any parameters.is_kwargs before)
    starred_before = ap₂ (λ (x y : Bool). x || y) (any parameters.is_starred starred_same) (any parameters.is_kwargs kwargs_same)

    after_default : (v : Maybe P) → (not (parameters.is_given (unspanned_maybe v))
        && (list_any parameters.has_default (map unspanned_parameter before) && not (list_any parameters.is_starred (map unspanned_parameter before))))
        ≡ (not (parameters.is_given v) && (list_any parameters.has_default before && not (list_any parameters.is_starred before)))
    after_default v = rw (given_same v, any parameters.has_default default_same, any parameters.is_starred starred_same) refl

    misplaced_entry : (p : Parameter P) → kind_in (parameters.misplaced (map unspanned_parameter before) (unspanned_parameter p))
        ≡ kind_in (parameters.misplaced before p)
    misplaced_entry (t.Slash s) = if_same
        (list_any parameters.is_slash (map unspanned_parameter before) ||
        (list_any parameters.is_starred (map unspanned_parameter before) || list_any parameters.is_kwargs (map unspanned_parameter before)))
        (list_any parameters.is_slash before || (list_any parameters.is_starred before || list_any parameters.is_kwargs before))
        (Params params.MultipleSlash) nowhere s (ap₂ (λ (x y : Bool). x || y) (any parameters.is_slash slash_same) starred_before)
    misplaced_entry (t.Normal s w q ty v) = or_same
        (fault_if (list_any parameters.is_kwargs (map unspanned_parameter before)) (fault (Params params.AfterKwargs) nowhere))
        (fault_if (list_any parameters.is_kwargs before) (fault (Params params.AfterKwargs) s))
        (fault_if (not (parameters.is_given (unspanned_maybe v)) &&
        (list_any parameters.has_default (map unspanned_parameter before) && not (list_any parameters.is_starred (map unspanned_parameter before))))
        (fault (Params params.PositionalAfterNonPositional) nowhere))
        (fault_if (not (parameters.is_given v) && (list_any parameters.has_default before && not (list_any parameters.is_starred before)))
        (fault (Params params.PositionalAfterNonPositional) s))
        (if_same (list_any parameters.is_kwargs (map unspanned_parameter before)) (list_any parameters.is_kwargs before)
        (Params params.AfterKwargs) nowhere s (any parameters.is_kwargs kwargs_same))
        (if_same (not (parameters.is_given (unspanned_maybe v)) &&
        (list_any parameters.has_default (map unspanned_parameter before) && not (list_any parameters.is_starred (map unspanned_parameter before))))
        (not (parameters.is_given v) && (list_any parameters.has_default before && not (list_any parameters.is_starred before)))
        (Params params.PositionalAfterNonPositional) nowhere s (after_default v))
    misplaced_entry (t.NoArgs s) = if_same (list_any parameters.is_starred (map unspanned_parameter before) || list_any parameters.is_kwargs
        (map unspanned_parameter before))
        (list_any parameters.is_starred before || list_any parameters.is_kwargs before) (Params params.ArgsAfterArgs) nowhere s starred_before
    misplaced_entry (t.Args s w q ty) = if_same (list_any parameters.is_starred (map unspanned_parameter before) || list_any parameters.is_kwargs
        (map unspanned_parameter before))
        (list_any parameters.is_starred before || list_any parameters.is_kwargs before) (Params params.ArgsAfterArgs) nowhere s starred_before
    misplaced_entry (t.KwArgs s w q ty) = if_same (list_any parameters.is_kwargs (map unspanned_parameter before)) (list_any parameters.is_kwargs before)
        (Params params.MultipleKwargs) nowhere s (any parameters.is_kwargs kwargs_same)

    named_before : (text : Text) (s : Span) → kind_in
        (fault_if (list_any (parameters.has_name text) (map unspanned_parameter before)) (fault (Params params.DuplicateName) nowhere))
        ≡ kind_in (fault_if (list_any (parameters.has_name text) before) (fault (Params params.DuplicateName) s))
    named_before text s = if_same (list_any (parameters.has_name text) (map unspanned_parameter before)) (list_any (parameters.has_name text) before)
        (Params params.DuplicateName) nowhere s (any (parameters.has_name text) (called_same text))

    repeated_entry : (p : Parameter P) → kind_in (parameters.repeated (map unspanned_parameter before) (unspanned_parameter p))
        ≡ kind_in (parameters.repeated before p)
    repeated_entry (t.Slash s) = refl
    repeated_entry (t.Normal s w q ty v) = named_before w.text s
    repeated_entry (t.NoArgs s) = refl
    repeated_entry (t.Args s w q ty) = named_before w.text s
    repeated_entry (t.KwArgs s w q ty) = named_before w.text s

    entry_same : (p : Parameter P) → kind_in (parameters.entry_fault (map unspanned_parameter before) (unspanned_parameter p))
        ≡ kind_in (parameters.entry_fault before p)
    entry_same p = or_same (parameters.repeated (map unspanned_parameter before) (unspanned_parameter p)) (parameters.repeated before p)
        (parameters.misplaced (map unspanned_parameter before) (unspanned_parameter p)) (parameters.misplaced before p) (repeated_entry p) (misplaced_entry p)

  too_many_same : (ps : Seq (Parameter P)) → kind_in (parameters.too_many (map unspanned_parameter ps)) ≡ kind_in (parameters.too_many ps)
  too_many_same ps = if_same (nat_lt (2 ^ 32 - 1) (length (map unspanned_parameter ps))) (nat_lt (2 ^ 32 - 1) (length ps)) (Params params.TooMany)
      (parameters.whole (map unspanned_parameter ps)) (parameters.whole ps) (ap (λ (n : ℕ). nat_lt (2 ^ 32 - 1) n) (length-map ps unspanned_parameter))

  slash_first_same : (ps : Seq (Parameter P)) → kind_in (parameters.slash_first (map unspanned_parameter ps)) ≡ kind_in (parameters.slash_first ps)
  slash_first_same [] = refl
  slash_first_same (t.Slash s ∷ ps) = refl
  slash_first_same (t.Normal s w q ty v ∷ ps) = refl
  slash_first_same (t.NoArgs s ∷ ps) = refl
  slash_first_same (t.Args s w q ty ∷ ps) = refl
  slash_first_same (t.KwArgs s w q ty ∷ ps) = refl

  alone_same : (p : Parameter P) (ps : Seq (Parameter P))
      → kind_in (parameters.star_alone (unspanned_parameter p) (slice_get (map unspanned_parameter ps) 0))
      ≡ kind_in (parameters.star_alone p (slice_get ps 0))
  alone_same (t.Slash s) ps = refl
  alone_same (t.Normal s w q ty v) ps = refl
  alone_same (t.NoArgs s) [] = refl
  alone_same (t.NoArgs s) (p ∷ ps) = if_same (not (parameters.is_plain (unspanned_parameter p))) (not (parameters.is_plain p))
      (Params params.StarWithoutNamed)
      (parameter_span (unspanned_parameter p)) (parameter_span p) (ap (λ (x : Bool). not x) (plain_same p))
  alone_same (t.Args s w q ty) ps = refl
  alone_same (t.KwArgs s w q ty) ps = refl

  star_same : (ps : Seq (Parameter P)) → kind_in (parameters.star_fault (map unspanned_parameter ps)) ≡ kind_in (parameters.star_fault ps)
  star_same [] = refl
  star_same (p ∷ ps) = or_same (parameters.star_alone (unspanned_parameter p) (slice_get (map unspanned_parameter ps) 0))
      (parameters.star_alone p (slice_get ps 0))
      (parameters.star_fault (map unspanned_parameter ps)) (parameters.star_fault ps) (alone_same p ps) (star_same ps)

  pub parameters_same : (ps : Seq (Parameter P)) → kind_in (parameters.params_fault (map unspanned_parameter ps)) ≡ kind_in (parameters.params_fault ps)
  parameters_same ps =
      let qs = map unspanned_parameter ps in
      or_same (parameters.too_many qs) (parameters.too_many ps)
      (option_or (parameters.slash_first qs) (option_or (first_fault parameters.entry_fault [] qs) (parameters.star_fault qs)))
      (option_or (parameters.slash_first ps) (option_or (first_fault parameters.entry_fault [] ps) (parameters.star_fault ps)))
      (too_many_same ps)
      (or_same (parameters.slash_first qs) (parameters.slash_first ps)
      (option_or (first_fault parameters.entry_fault [] qs) (parameters.star_fault qs))
      (option_or (first_fault parameters.entry_fault [] ps) (parameters.star_fault ps))
      (slash_first_same ps)
      (or_same (first_fault parameters.entry_fault [] qs) (first_fault parameters.entry_fault [] ps) (parameters.star_fault qs) (parameters.star_fault ps)
      (first_same unspanned_parameter parameters.entry_fault entry_same [] ps) (star_same ps)))
