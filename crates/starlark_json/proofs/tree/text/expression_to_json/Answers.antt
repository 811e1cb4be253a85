use Rattle.std.proofs.Common.{rules, ◌≡◌, [], ◌∙◌, string_bytes}
use Rattle.std.proofs.lemmas.Result.{IfOk-weaker}
use Rattle.json.specs.Tree.{json_tokens}
use Rattle.starlark_tree.specs.Views.{expression_of}
use Rattle.starlark_json.specs.Tree.Trees.{expression_json}
use Rattle.starlark_json.proofs.TreeLemmas.ReadTexts.{expression_text_back}
use Rattle.starlark_json.proofs.tree.text.expression_to_json.Goals as goal

pub returns-clause-reads_back : goal.returns-clause-reads_back
returns-clause-reads_back c =
    let new : c.write_expression.new.out.before ≡ [] = search rules in
    let wrote : c.write_expression.new.out.tokens ≡ json_tokens (expression_json (expression_of c.args.expression.now)) = search rules in
    IfOk-weaker c.text_of.result _ _ (λ text is. expression_text_back (expression_of c.args.expression.now) (string_bytes text) (is ∙ wrote))
    (c.text_of.ensures.reads_back new)
