use Rattle.std.specs.Prelude.{codes}
use Rattle.std.proofs.lemmas.Str.Pattern.{contains_text}
use Rattle.starlark_module.proofs.module.fields.asks_for_typecheck.Goals as goal

pub returns : goal.returns
returns c = contains_text c.contains.result (codes "@starlark-rust: typecheck") c.args.text.now c.contains.ensures.cases
