use Rattle.std.proofs.Common.{rules, ◌≡◌, [], ◌∙◌, string_bytes}
use Rattle.std.proofs.lemmas.Result.{IfOk-weaker}
use Rattle.json.specs.Tree.{json_tokens}
use Rattle.starlark_json.specs.Answers.{module_json}
use Rattle.starlark_json.specs.Parsed.{content_of}
use Rattle.starlark_json.specs.Reading.{Module}
use Rattle.starlark_json.proofs.Fits.Modules.{parsed_fits}
use Rattle.starlark_json.proofs.ReadsBack.{module_text_back}
use Rattle.starlark_json.proofs.module.module_to_json.Goals as goal

pub returns-clause-reads_back : goal.returns-clause-reads_back
returns-clause-reads_back c =
    let m : Module = content_of c.args.parsed.now in
    let new : c.write_module.new.out.before ≡ [] = search rules in
    let wrote : c.write_module.new.out.tokens ≡ json_tokens (module_json m.0 m.1 m.2) = search rules in
    IfOk-weaker c.text_of.result _ _ (λ text is. module_text_back m (string_bytes text) (is ∙ wrote)) (c.text_of.ensures.reads_back new)

pub returns-clause-parsed_reads_back : goal.returns-clause-parsed_reads_back
returns-clause-parsed_reads_back c =
    IfOk-weaker c.text_of.result _ _ (λ text back parsed. back (parsed_fits c.args.parsed.now parsed)) (returns-clause-reads_back c)
