-- The named dialects, and equality of dialects, part by part.
use Rattle.std.specs.Prelude.{ℕ, Bool, true, false, ◌==◌}
use Rattle.std.specs.Bool.{beq}
use Rattle.std.specs.Ordering.{on, eq_of_both}
use Rattle.std.specs.Cmp.{IsEquivalence, and_equiv, on_equiv, nat_eq_equiv, bool_eq_equiv}
use Rattle.starlark_lexer.specs.declared.dialect.Dialect.{Dialect}
use Rattle.starlark_lexer.specs.declared.dialect.DialectTypes.{DialectTypes}
use Rattle.starlark_lexer.specs.declared.dialect.DialectTypes.TheVariants.{Disable, ParseOnly, Enable}

-- every part is on
abbrev pub every_part : Dialect
every_part = record {
  enable_def = true;
  enable_lambda = true;
  enable_load = true;
  enable_keyword_only_arguments = true;
  enable_positional_only_arguments = true;
  enable_top_level_stmt = true;
  enable_f_strings = true;
  enable_types = Enable;
}

-- every part is off
abbrev pub no_part : Dialect
no_part = record {
  enable_def = false;
  enable_lambda = false;
  enable_load = false;
  enable_keyword_only_arguments = false;
  enable_positional_only_arguments = false;
  enable_top_level_stmt = false;
  enable_f_strings = false;
  enable_types = Disable;
}

-- only `def`, `lambda` and `load`
abbrev pub standard_parts : Dialect
standard_parts = record {
  enable_def = true;
  enable_lambda = true;
  enable_load = true;
  enable_keyword_only_arguments = false;
  enable_positional_only_arguments = false;
  enable_top_level_stmt = false;
  enable_f_strings = false;
  enable_types = Disable;
}

abbrev pub types_number : DialectTypes → ℕ
types_number Disable = 0
types_number ParseOnly = 1
types_number Enable = 2

-- whether all parts of two dialects are equal
abbrev pub same_dialect : Dialect → Dialect → Bool
same_dialect =
    eq_of_both (on (λ d. d.enable_def) beq) (
    eq_of_both (on (λ d. d.enable_lambda) beq) (
    eq_of_both (on (λ d. d.enable_load) beq) (
    eq_of_both (on (λ d. d.enable_keyword_only_arguments) beq) (
    eq_of_both (on (λ d. d.enable_positional_only_arguments) beq) (
    eq_of_both (on (λ d. d.enable_top_level_stmt) beq) (
    eq_of_both (on (λ d. d.enable_f_strings) beq) (
    on (λ d. types_number d.enable_types) ◌==◌)))))))

pub same_dialect-equivalence : IsEquivalence same_dialect
same_dialect-equivalence =
    and_equiv (on_equiv (λ d. d.enable_def) bool_eq_equiv) (
    and_equiv (on_equiv (λ d. d.enable_lambda) bool_eq_equiv) (
    and_equiv (on_equiv (λ d. d.enable_load) bool_eq_equiv) (
    and_equiv (on_equiv (λ d. d.enable_keyword_only_arguments) bool_eq_equiv) (
    and_equiv (on_equiv (λ d. d.enable_positional_only_arguments) bool_eq_equiv) (
    and_equiv (on_equiv (λ d. d.enable_top_level_stmt) bool_eq_equiv) (
    and_equiv (on_equiv (λ d. d.enable_f_strings) bool_eq_equiv) (
    on_equiv (λ d. types_number d.enable_types) nat_eq_equiv)))))))
