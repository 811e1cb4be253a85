-- The tokens that the lexer returns for a module's source.
use Rattle.std.proofs.Common.{◌≡◌, List as Seq, [], map, Ok, refl, sym, ap, ◌∙◌}
use Rattle.starlark_lexer.specs.Tokens.{Text, Lexeme}
use Rattle.starlark_lexer.specs.Lexemes.{lexemes}
use Rattle.starlark_tree.specs.Ast as t
use Rattle.starlark_tree.specs.Ast.{Payloads}
use Rattle.starlark_source.specs.Pieces.{Pieces}
use Rattle.starlark_source.specs.Lines.{as_block, module_source, source_of}
use Rattle.starlark_source.specs.SourceTokens.{terminals, source_tokens, with_last_newline}
use Rattle.starlark_lexer.proofs.TokenTexts.LexerStates.{all_lexemes}
use Rattle.starlark_lexer.proofs.TokenTexts.Indentation.{at_line, text_ends}
use Rattle.starlark_source.proofs.ReadBack.Writing.{Sayable}
use Rattle.starlark_source.proofs.ReadBack.Derived.{said_sayable}
use Rattle.starlark_source.proofs.SourceLexemes.Pieces.{write, before, before_none, said_written, Lexed}
use Rattle.starlark_source.proofs.SourceLexemes.Lines.{Onward, over, Lays, at_begin}
use Rattle.starlark_source.proofs.SourceLexemes.Statements.{form_lays}

-- the end of a module
the_end : Onward 0 [] []
the_end = record { next = over refl refl; lexed = record { lexes = text_ends 0 } }

lines_lexed : (ps : Pieces) → Lays 0 ps → Lexed (at_line 0) (write ps []) (before ps [])
lines_lexed ps l = at_begin (l.lays [] [] the_end)

module _ {P : Payloads} where
  module_lexed : (m : t.Statement P) → Sayable (module_source m) → Lexed (at_line 0) (write (module_source m) []) (before (module_source m) [])
  module_lexed (t.statement s (t.Block t.no_statements)) h = the_end.lexed
  module_lexed (t.statement s (t.Block (t.statements a ss))) h = lines_lexed _ (form_lays (t.Block (t.statements a ss)) as_block 0 s h)
  module_lexed (t.statement s form) h = lines_lexed _ (form_lays form as_block 0 s h)

  -- The lexer reads the tokens of a module's source, whatever their spans, and a Newline before the Dedents at their end.
  pub source_lexed : (m : t.Statement P) (text : Text) → source_of m ≡ Ok text
      → (ls : Seq Lexeme) × (lexemes text ≡ map (λ l. Ok l) ls) × (terminals ls ≡ with_last_newline (source_tokens m))
  source_lexed m text is =
      let h = said_sayable (module_source m) text is in
      let r = module_lexed m h in
      let all = all_lexemes (write (module_source m) []) (with_last_newline (before (module_source m) [])) (r.lexes.lexes 0 [] refl) in
      let same = said_written (module_source m) text is in (
        all.0,
        ap lexemes (sym same) ∙ all.1,
        all.2 ∙ ap with_last_newline (before_none (module_source m)),
      )
