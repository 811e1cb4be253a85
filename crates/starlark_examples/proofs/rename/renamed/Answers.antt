use Rattle.std.proofs.Common.{string_bytes, ap, ◌∙◌}
use Rattle.starlark_syntax.specs.lexer.Places.{File}
use Rattle.starlark_syntax.specs.tree.Views.{statement_of}
use Rattle.starlark_examples.specs.Rename.{spans_of}
use Rattle.starlark_examples.proofs.Answered.{each_weaker}
use Rattle.starlark_examples.proofs.Renaming.{renamed_is}
use Rattle.starlark_examples.proofs.rename.renamed.Goals as goal

pub returns : goal.returns
returns c =
    each_weaker c.with_name.result
    (λ out written. renamed_is c.args.ast.now c.args.old.now c.args.new.now _ (string_bytes out) c.in_ok-spans.spans.items c.sort_by_key.new.self.items _
    (c.in_ok-spans.ensures ∙ ap (λ s. spans_of c.args.old.now (statement_of s)) c.statement.ensures) (c.source.ensures.text
    ∙ ap (λ (f : File). f.text) c.codemap.ensures)
    c.deref.ensures.value c.in_ok-sort_by_key.ensures.permutation written)
    c.with_name.ensures
