use Rattle.std.proofs.Common.{ap, sym, ◌∙◌}
use Rattle.starlark_diagnostics.specs.Lexed.{runs_out}
use Rattle.starlark_diagnostics.proofs.Lexed.{from_extend}
use Rattle.starlark_diagnostics.proofs.lexemes.lexemes.Goals as goal

pub returns : goal.returns
returns c =
    let ran = c.in_ok-extend.ensures.ran in
    from_extend c.new.result ran.0 c.args.text.now c.new-found.result.items c.extend.new.self.items ran.1 c.new.ensures.items ran.2 ran.3.0 ran.4
    c.new-found.ensures.items (ap runs_out (sym c.deref.ensures.value) ∙ sym c.is_out_of_memory.ensures ∙ c.if-is_out_of_memory.false)
