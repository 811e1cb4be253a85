-- One more lexeme is kept.
use Rattle.std.proofs.Common.{◌≡◌, List, [], ◌∷◌, ◌++◌, map, None, Result, Ok, Err, OnOk, String, Global, refl, sym, ap, ◌∙◌}
use Rattle.std.proofs.lemmas.List.{append-nil, map-append}
use Rattle.std.proofs.lemmas.List.Elements.{filter_map-append}
use Rattle.std.specs.List.{cons_option}
use Rattle.starlark_lexer.specs.Tokens as tokens
use Rattle.starlark_lexer.specs.Tokens.{Text, Span, span_of, Lexeme, LexerFault, lexeme, terminal}
use Rattle.starlark_lexer.specs.declared.span.Span.{Span as CodeSpan}
use Rattle.starlark_lexer.specs.declared.token.Token.{Token}
use Rattle.starlark_lexer.specs.declared.token.Token.TheVariants as codes
use Rattle.starlark_module.specs.Comments.Building.{HasRead}
use Rattle.starlark_module.specs.Comments.Comments.{Comment, comments, comment_of}
use Rattle.starlark_module.specs.declared.comments.lint_suppressions.LintSuppressionsBuilder.{LintSuppressionsBuilder}
use Rattle.starlark_module.specs.Comments.Keeping.{AreKept, comment_spans}

-- any other token is not a comment
pub no_comment : (t : Token) (s : Span) → ((text : String Global) → t ≡ codes.Comment text → ⊥) → comment_of (Ok (lexeme (terminal t) s)) ≡ None
no_comment (codes.Comment text) s h = absurd (h text refl)
no_comment t s h = refl

spans_more : (lexemes : List (Result Lexeme LexerFault)) (x : Result Lexeme LexerFault) → comment_spans (lexemes ++ x ∷ []) ≡ comment_spans lexemes
    ++ map (λ c. c.span) (cons_option (comment_of x) [])
spans_more lexemes x = ap (map (λ c. c.span)) (filter_map-append comment_of lexemes (x ∷ [])) ∙ map-append (λ (c : Comment). c.span) (comments lexemes)
    (comments (x ∷ []))

module _ (text : Text) (old new : LintSuppressionsBuilder) where
  pub kept_comment : {T E : Type 0} (r : Result T E) (said : Text) (span : CodeSpan) (spans spans' : List CodeSpan) → spans' ≡ spans ++ span ∷ []
      → ((lexemes : List (Result Lexeme LexerFault)) → HasRead text lexemes old
      → OnOk r (HasRead text (lexemes ++ Ok (lexeme (tokens.Comment said) (span_of span)) ∷ []) new))
      → OnOk r ((lexemes : List (Result Lexeme LexerFault)) → AreKept text lexemes spans old
      → AreKept text (lexemes ++ Ok (lexeme (tokens.Comment said) (span_of span)) ∷ []) spans' new)
  kept_comment (Ok _) said span spans spans' more read =
      λ lexemes kept. record {
        spans_are = ap (map span_of) more ∙ map-append span_of spans (span ∷ []) ∙ ap (λ s. s ++ span_of span ∷ []) kept.spans_are
            ∙ sym (spans_more lexemes (Ok (lexeme (tokens.Comment said) (span_of span))));
        read = read lexemes kept.read;
      }
  kept_comment (Err _) said span spans spans' more read = tt

  pub kept_other : (x : Result Lexeme LexerFault) (spans : List CodeSpan) → comment_of x ≡ None
      → ((t : Text) (lexemes : List (Result Lexeme LexerFault)) (x : Result Lexeme LexerFault) → comment_of x ≡ None → HasRead t lexemes old
      → HasRead t (lexemes ++ x ∷ []) new)
      → (lexemes : List (Result Lexeme LexerFault)) → AreKept text lexemes spans old → AreKept text (lexemes ++ x ∷ []) spans new
  kept_other x spans other ends lexemes kept = record {
    spans_are = kept.spans_are ∙ sym (append-nil (comment_spans lexemes)) ∙ ap (λ o. comment_spans lexemes ++ map (λ c. c.span) (cons_option o []))
        (sym other) ∙ sym (spans_more lexemes x);
    read = ends text lexemes x other kept.read;
  }
