-- What a text denotes is sayable.
use Rattle.std.proofs.Common.{◌≡◌, [], ◌∷◌, Result, Ok, Err, refl, ap, ◌∙◌, append-nil}
use Rattle.starlark_lexer.specs.Tokens.{Text, Span}
use Rattle.starlark_tree.specs.Ast as t
use Rattle.starlark_tree.specs.Ast.{no_payload}
use Rattle.starlark_spec.specs.Grammar.{Derivation, right_side, yield_of}
use Rattle.starlark_spec.specs.Grammar.Nonterminal.{Module}
use Rattle.starlark_spec.specs.Trees.{module_tree}
use Rattle.starlark_source.specs.Pieces.{Pieces, token, text_byte, blank, unsayable, escaped_in_format, joined, said, spelled}
use Rattle.starlark_source.specs.Lines.{module_source}
use Rattle.starlark_source.specs.SourceTokens.{tokens_of}
use Rattle.starlark_source.specs.Unspanned.{unspanned_statement}
use Rattle.starlark_source.specs.ReadsBack.{ReadsBack}
use Rattle.starlark_source.proofs.ReadBack.Writing.{Sayable, Writes, yields, open_nowhere, fine_closed}

ok_after : (text : Text) (r : Result Text Span) (all : Text) → joined text r ≡ Ok all → (more : Text) × (r ≡ Ok more)
ok_after text (Ok more) all is = (more, refl)
ok_after text (Err s) all is = absurd (cc)

pub said_sayable : (ps : Pieces) (text : Text) → said ps ≡ Ok text → Sayable ps
said_sayable [] text is = tt
said_sayable (token t ∷ ps) text is = let more = ok_after (spelled t) (said ps) text is in said_sayable ps more.0 more.1
said_sayable (text_byte b ∷ ps) text is = let more = ok_after (escaped_in_format b) (said ps) text is in said_sayable ps more.0 more.1
said_sayable (blank n ∷ ps) text is = let more = ok_after _ (said ps) text is in said_sayable ps more.0 more.1
said_sayable (unsayable s ∷ ps) text is = absurd (cc)
