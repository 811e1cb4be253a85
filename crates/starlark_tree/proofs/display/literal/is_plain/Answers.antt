use Rattle.std.proofs.Common.{◌≡◌, ℕ, ◌<◌, true, nat_eq, get_or, List, refl, arith}
use Rattle.starlark_lexer.proofs.ByteTables.{agree_below, agree_at}
use Rattle.starlark_tree.specs.declared.display.literal.TheConstants.{PLAIN_BYTES}
use Rattle.starlark_tree.specs.Escapes.{is_plain}
use Rattle.starlark_tree.proofs.display.literal.is_plain.Goals as goal

from_table : (table : List ℕ) (b : ℕ) → b < 256 → agree_below (λ k. nat_eq (get_or table k 0) 46) is_plain 256 ≡ true
    → nat_eq (get_or table b 0) 46 ≡ is_plain b
from_table table b lt h = agree_at _ _ 256 h b lt

pub returns : goal.returns
unfolding agree_below
returns c = from_table PLAIN_BYTES c.args.byte (omega arith) refl
