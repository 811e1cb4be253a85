use Rattle.std.proofs.Common.{◌<◌, length, arith}
use Rattle.std.proofs.lemmas.Grind.{common_steps}
use Rattle.starlark_lexer.proofs.LineLemmas.{skip_len-drop, skip_len-nil}
use Rattle.starlark_lexer.proofs.lines.skip_len.Goals as goal

pub returns-in-None-clause-len : goal.returns-in-None-clause-len
returns-in-None-clause-len c =
    let within : c.bytes.at < length c.args.rest.now = omega arith in
    let step = skip_len-drop c.args.quiet c.bytes.joined c.args.rest.now c.bytes.at within in
    grind (arith, common_steps)

pub bytes-preserved : goal.bytes-preserved
bytes-preserved c =
    let within : c.bytes.at < length c.args.rest.now = omega arith in
    let step = skip_len-drop c.args.quiet c.bytes.joined c.args.rest.now c.bytes.at within in
    grind (arith, common_steps)

pub returns-clause-len : goal.returns-clause-len
returns-clause-len c = grind (arith, common_steps, skip_len-nil)
