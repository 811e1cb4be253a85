use Rattle.std.proofs.Common.{◌≡◌, ℕ, ◌<◌, true, not, nat_eq, get_or, List, refl, arith}
use Rattle.starlark_lexer.specs.declared.text.TheConstants.{NAME_BYTES}
use Rattle.starlark_lexer.specs.Classes.{is_name_byte}
use Rattle.starlark_lexer.proofs.ByteTables.{agree_below, agree_at}
use Rattle.starlark_lexer.proofs.text.is_name_byte.Goals as goal

from_table : (table : List ℕ) (b : ℕ) → b < 256 → agree_below (λ k. not (nat_eq (get_or table k 0) 46)) is_name_byte 256 ≡ true
    → not (nat_eq (get_or table b 0) 46) ≡ is_name_byte b
from_table table b lt h = agree_at _ _ 256 h b lt

pub returns : goal.returns
unfolding agree_below
returns c = from_table NAME_BYTES c.args.byte (omega arith) refl
