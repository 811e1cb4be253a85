use Rattle.std.proofs.Common.{◌≡◌, IfOk, string_bytes, subst, sym}
use Rattle.starlark_diagnostics.proofs.Expecting.{few, many}
use Rattle.starlark_diagnostics.proofs.unexpected.unexpected.Goals as goal

pub returns-in-empty : goal.returns-in-empty
returns-in-empty c =
    subst (λ text. IfOk c.format.result (λ message. string_bytes message ≡ text)) (sym (few c.args.name.now c.args.things.now c.in-empty.len_below))
    c.format.ensures.ok

pub returns-in-len5-up : goal.returns-in-len5-up
returns-in-len5-up c =
    subst (λ text. IfOk c.format-in-len5-up.result (λ message. string_bytes message ≡ text))
    (sym (many c.args.name.now c.args.things.now c.in-len5-up.len_at_least)) c.format-in-len5-up.ensures.ok
