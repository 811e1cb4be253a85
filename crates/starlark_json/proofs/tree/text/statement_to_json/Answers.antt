use Rattle.std.proofs.Common.{rules, ◌≡◌, [], ◌∙◌, string_bytes}
use Rattle.std.proofs.lemmas.Result.{IfOk-weaker}
use Rattle.json.specs.Tree.{json_tokens}
use Rattle.starlark_tree.specs.Views.{statement_of}
use Rattle.starlark_json.specs.Tree.Trees.{statement_json}
use Rattle.starlark_json.proofs.TreeLemmas.ReadTexts.{statement_text_back}
use Rattle.starlark_json.proofs.tree.text.statement_to_json.Goals as goal

pub returns-clause-reads_back : goal.returns-clause-reads_back
returns-clause-reads_back c =
    let new : c.write_statement.new.out.before ≡ [] = search rules in
    let wrote : c.write_statement.new.out.tokens ≡ json_tokens (statement_json (statement_of c.args.statement.now)) = search rules in
    IfOk-weaker c.text_of.result _ _ (λ text is. statement_text_back (statement_of c.args.statement.now) (string_bytes text) (is ∙ wrote))
    (c.text_of.ensures.reads_back new)
