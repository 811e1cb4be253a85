use Rattle.std.proofs.Common.{◌≡◌, ◌∙◌, ap, false}
use Rattle.std.proofs.lemmas.Result.{IfOk-weaker}
use Rattle.clap.specs.Simple.{App, app_of_fields, new_app}
use Rattle.clap.specs.Words.{app_of}
use Rattle.clap.specs.declared.builder.command.Command.TheViews.{out-Command}
use Rattle.starlark_cli.proofs.ToolLemmas.Commands.{adds, no_globals}
use Rattle.starlark_cli.proofs.tool.command.mode.Goals as goal

pub returns-clause-shape : goal.returns-clause-shape
returns-clause-shape c =
    let start : app_of c.about.result ≡ new_app c.args.name.now = ap app_of_fields c.about.ensures ∙ c.new.ensures.app in
    let one = adds _ _ _ _ _ c.in_ok-arg.ensures c.dialect.ensures.local c.dialect.ensures.rule start in
    let two = adds _ _ _ _ _ c.in_ok-arg-2.ensures c.max_depth.ensures.local c.max_depth.ensures.rule one in
    let three = adds _ _ _ _ _ c.in_ok-arg-3.ensures c.format.ensures.local c.format.ensures.rule two in
    let four = adds _ _ _ _ _ c.in_ok-arg-4.ensures c.stdin_name.ensures.local c.stdin_name.ensures.rule three in
    let five = adds _ _ _ _ _ c.in_ok-arg-5.ensures c.quiet.ensures.local c.quiet.ensures.rule four in
    IfOk-weaker c.arg-6.result _ _ (λ m h. ap (λ (a : App). a.top) (adds _ _ _ _ _ h c.path.ensures.local c.path.ensures.rule five)) c.arg-6.ensures

pub returns-clause-local : goal.returns-clause-local
returns-clause-local c =
    let start : (out-Command c.about.result).has_globals ≡ false = ap (λ f. f.has_globals) c.about.ensures ∙ c.new.ensures.local in
    let one = no_globals _ _ _ c.in_ok-arg.ensures c.dialect.ensures.local start in
    let two = no_globals _ _ _ c.in_ok-arg-2.ensures c.max_depth.ensures.local one in
    let three = no_globals _ _ _ c.in_ok-arg-3.ensures c.format.ensures.local two in
    let four = no_globals _ _ _ c.in_ok-arg-4.ensures c.stdin_name.ensures.local three in
    let five = no_globals _ _ _ c.in_ok-arg-5.ensures c.quiet.ensures.local four in
    IfOk-weaker c.arg-6.result _ _ (λ m h. no_globals _ _ _ h c.path.ensures.local five) c.arg-6.ensures
