-- What is written of lists, and the program's answer.
use Rattle.std.proofs.Common.{◌≡◌, ℕ, List, [], ◌∷◌, ◌++◌, append_assoc, append-nil, Option, Some, None, IfSome, map, subst, sym, ap, ◌∙◌}
use Rattle.std.specs.Prelude.{flat_map}
use Rattle.std.specs.Io.KnownBytes.{Appends}
use Rattle.std.proofs.lemmas.List.Folds.{flat_map-map}
use Rattle.starlark_cli.specs.Ast.Output.{AsksFor, Writes, WritesAnswer}
use Rattle.starlark_cli.specs.declared.ast.request.Mode.{Mode}
use Rattle.starlark_module.specs.Comments.Keeping.{comment_spans}
use Rattle.starlark_module.specs.Comments.Suppressions.{Suppression, suppressions}
use Rattle.starlark_spec.specs.Items.{items}
use Rattle.starlark_lexer.specs.Lexemes.{lexemes}
use Rattle.starlark_lexer.specs.Places.{File}
use Rattle.starlark_lexer.specs.Tokens.{Span, Text}
use Rattle.starlark_lexer.specs.declared.dialect.Dialect.{Dialect}
use Rattle.starlark_passes.specs.Outline.Listed.{in_file}
use Rattle.starlark_tree.specs.Ast.{Statement, no_payload}
use Rattle.starlark_validate.specs.Answers.{IsValidModule}

-- what is listed of a file writes as what it was listed from
pub lines_of_list : {A X : Type 0} (line : Text → X → Text) (seen : A → File × X) (xs : List A) (file : File) (ys : List X)
    → map seen xs ≡ map (in_file file) ys → flat_map (line file.text) ys ≡ flat_map (λ a. line (seen a).0.text (seen a).1) xs
lines_of_list {A = A} {X = X} line seen xs file ys same =
    let each : File × X → Text = λ p. line p.0.text p.1 in
    sym (sym (flat_map-map each seen xs) ∙ ap (flat_map each) same ∙ flat_map-map each (in_file file) ys)

-- what was written of a module is the program's answer
pub answers : (words : List (List ℕ)) (d : Dialect) (mode : Mode) → AsksFor words d mode → (known : Option (List ℕ)) (text name : List ℕ) (file : File)
    (comments : List Span) (quiet : List Suppression)
    (s : Statement no_payload) (before after : Option (List ℕ)) (bytes : List ℕ) → IfSome known (λ k. text ≡ k) → IsValidModule d (items (lexemes text)) s
    → file ≡ record { name = name; text = text }
    → comments ≡ comment_spans (lexemes text) → quiet ≡ suppressions text (lexemes text) → Writes mode file.text comments quiet s bytes
    → Appends before after bytes
    → IfSome known (λ k. WritesAnswer words k before after)
answers words d mode asked None text name file comments quiet s before after bytes is tree in_file same hushed wrote sent = tt
answers words d mode asked (Some k) text name file comments quiet s before after bytes is tree in_file same hushed wrote sent =
    let here : Writes mode text (comment_spans (lexemes text)) (suppressions text (lexemes text)) s bytes =
    subst (λ q. Writes mode text (comment_spans (lexemes text)) q s bytes) hushed
    (subst (λ l. Writes mode text l quiet s bytes) same (subst (λ f. Writes mode f.text comments quiet s bytes) in_file wrote)) in
    record {
      dialect = d;
      mode = mode;
      asked = asked;
      statement = s;
      is_tree = subst (λ x. IsValidModule d (items (lexemes x)) s) is tree;
      output = bytes;
      is_output = subst (λ x. Writes mode x (comment_spans (lexemes x)) (suppressions x (lexemes x)) s bytes) is here;
      written = sent;
    }
