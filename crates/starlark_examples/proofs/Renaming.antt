-- The text of a module with the spans of a name sorted.
use Rattle.std.proofs.Common.{◌≡◌, List, map, subst, IsPermutation}
use Rattle.std.proofs.lemmas.List.Sorted.{IsPermutation-map}
use Rattle.starlark_syntax.specs.lexer.Tokens.{Text, span_of}
use Rattle.starlark_syntax.specs.lexer.declared.span.Span.{Span}
use Rattle.starlark_syntax.specs.modules.declared.module.AstModule.{AstModule}
use Rattle.starlark_syntax.specs.tree.Views.{statement_of}
use Rattle.starlark_examples.specs.Rename.{IsRenamed, WithName, spans_of}

pub renamed_is : (ast : AstModule) (old new text out : Text) (found sorted given : List Span)
    → map span_of found ≡ spans_of old (statement_of ast.statement) → text ≡ ast.codemap.text → given ≡ sorted
    → IsPermutation found sorted → WithName text new (map span_of given) out → IsRenamed ast old new out
renamed_is ast old new text out found sorted given found_is text_is given_is sorts written = record {
  spans = map span_of sorted;
  are_all = subst (λ l. IsPermutation l (map span_of sorted)) found_is (IsPermutation-map span_of found sorted sorts);
  is_written = subst (λ l. WithName l new (map span_of sorted) out) text_is (subst (λ l. WithName text new (map span_of l) out) given_is written);
}
