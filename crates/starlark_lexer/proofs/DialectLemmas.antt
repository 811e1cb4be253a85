-- Dialects whose parts are equal are equal.
use Rattle.std.proofs.Common.{◌≡◌, ◌↔◌, Bool, IsTrue, rules, tests}
use Rattle.std.proofs.lemmas.Bool.{and_parts, eqb-true}
use Rattle.std.specs.Cmp.{booleans_Decides}
use Rattle.starlark_lexer.specs.declared.dialect.Dialect.{Dialect}
use Rattle.starlark_lexer.specs.declared.dialect.DialectTypes.{DialectTypes}
use Rattle.starlark_lexer.specs.Dialects.{types_number, same_dialect, same_dialect-equivalence}

types_number-injective : (a b : DialectTypes) → types_number a ≡ types_number b → a ≡ b
types_number-injective a b e = search (rules, tests)

same_dialect-equal : (a b : Dialect) → IsTrue (same_dialect a b) → a ≡ b
same_dialect-equal a b same =
    let (functions, more0) = and_parts _ _ same in
    let (lambdas, more1) = and_parts _ _ more0 in
    let (loads, more2) = and_parts _ _ more1 in
    let (keyword_only_arguments, more3) = and_parts _ _ more2 in
    let (positional_only_arguments, more4) = and_parts _ _ more3 in
    let (top_level_stmt, more5) = and_parts _ _ more4 in
    let (f_strings, types) = and_parts _ _ more5 in
    λ i. record {
      enable_def = (booleans_Decides a.enable_def b.enable_def).0 functions i;
      enable_lambda = (booleans_Decides a.enable_lambda b.enable_lambda).0 lambdas i;
      enable_load = (booleans_Decides a.enable_load b.enable_load).0 loads i;
      enable_keyword_only_arguments = (booleans_Decides a.enable_keyword_only_arguments b.enable_keyword_only_arguments).0 keyword_only_arguments i;
      enable_positional_only_arguments = (booleans_Decides a.enable_positional_only_arguments b.enable_positional_only_arguments).0 positional_only_arguments i;
      enable_top_level_stmt = (booleans_Decides a.enable_top_level_stmt b.enable_top_level_stmt).0 top_level_stmt i;
      enable_f_strings = (booleans_Decides a.enable_f_strings b.enable_f_strings).0 f_strings i;
      enable_types = types_number-injective a.enable_types b.enable_types (eqb-true _ _ types) i;
    }

pub same_dialect-decides : (same : Bool) (a b : Dialect) → same ≡ same_dialect a b → IsTrue same ↔ (a ≡ b)
same_dialect-decides same a b e = (
  λ yes. same_dialect-equal a b (rw (← e) yes),
  λ equal. rw (e, equal) (same_dialect-equivalence.refl b),
)
