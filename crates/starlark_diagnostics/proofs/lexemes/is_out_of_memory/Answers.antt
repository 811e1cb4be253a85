use Rattle.std.proofs.Common.{ap, sym, ◌∙◌}
use Rattle.std.specs.Option.{option_copied}
use Rattle.starlark_diagnostics.specs.Lexed.{is_last_memory}
use Rattle.starlark_diagnostics.proofs.lexemes.is_out_of_memory.Goals as goal

pub returns-in-Some : goal.returns-in-Some
returns-in-Some c =
    c.is_memory_error.ensures ∙ sym (ap is_last_memory (sym c.last.ensures.value ∙ ap option_copied c.in-Some.is))

pub returns-in-None : goal.returns-in-None
returns-in-None c = sym (ap is_last_memory (sym c.last.ensures.value ∙ ap option_copied c.in-None.is))
