use Rattle.std.proofs.Common.{rules, ◌≡◌, [], ap, ◌∙◌}
use Rattle.std.proofs.lemmas.Result.{IfOk-weaker}
use Rattle.json.specs.Print.{print}
use Rattle.json.specs.Tree.{json_tokens}
use Rattle.starlark_diagnostics.specs.Ends.{file_of}
use Rattle.starlark_diagnostics.specs.Sarif.{result_json}
use Rattle.starlark_diagnostics.specs.DiagnosticViews.{seen}
use Rattle.starlark_diagnostics.proofs.emit.sarif.result_text.Goals as goal

pub returns : goal.returns
returns c =
    let new : c.write_result.new.out.before ≡ [] = search rules in
    let wrote : c.write_result.new.out.tokens
    ≡ json_tokens (result_json c.args.uri.now (file_of c.args.codemap) (seen c.args.diagnostic.now)) = search rules in
    IfOk-weaker c.text_of.result _ _ (λ text is. is ∙ ap print wrote) (c.text_of.ensures.text new)
