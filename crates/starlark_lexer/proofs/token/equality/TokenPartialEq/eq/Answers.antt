use denote.Enum.Bare.{same_true}
use Rattle.std.proofs.Common.{rules, sym}
use Rattle.starlark_lexer.specs.contracts.kind.Kind.{the_type}
use Rattle.starlark_lexer.proofs.TokenKeyLemmas.{same_content-decides}
use Rattle.starlark_lexer.proofs.token.equality.TokenPartialEq.eq.Goals as goal

pub returns-then-eq : goal.returns-then-eq
returns-then-eq c =
    same_content-decides c.same_content.result _ _
    (rw (← c.kind_of.ensures, ← c.kind_of-2.ensures) (same_true the_type (search rules) c.kind_of.result c.kind_of-2.result (sym c.if-eq.ensures)))
    (rw (← c.content.ensures, ← c.content-then-eq.ensures) c.same_content.ensures)
