-- Dialects as sums of their parts.
use Rattle.std.specs.Prelude.{ℕ, ◌+◌, ◌*◌, Bool, true, false}
use Rattle.starlark_lexer.specs.Dialects.{types_number}
use Rattle.starlark_lexer.specs.declared.dialect.Dialect.{Dialect}

abbrev pub bit : Bool → ℕ
bit false = 0
bit true = 1

-- 1, 2, 4, 8, 16, 32 and 64 for the parts that are on or off, and 128 or 256 for types that are parsed alone or enabled
abbrev pub flags_of : Dialect → ℕ
flags_of d = bit d.enable_def + 2 * bit d.enable_lambda + 4 * bit d.enable_load + 8 * bit d.enable_keyword_only_arguments
    + 16 * bit d.enable_positional_only_arguments + 32 * bit d.enable_top_level_stmt + 64 * bit d.enable_f_strings
    + 128 * types_number d.enable_types
