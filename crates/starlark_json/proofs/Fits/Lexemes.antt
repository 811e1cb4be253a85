-- The lexemes of a text of less than 2^32 bytes fit.
use Rattle.std.proofs.Common.{ℕ, ◌^◌, ◌-◌, ◌<◌, pos, negsuc, List as Seq, [], ◌∷◌, true, length, map, IsUtf8, Option, Some, None}
use Rattle.std.proofs.Common.{Result, Ok, Err, arith, ltb-true}
use Rattle.std.specs.Bool.{⊤}
use Rattle.std.specs.List.{AllByRecursion, cons_option, list_all}
use Rattle.std.proofs.lemmas.Bool.{and_parts, cond_both}
use Rattle.starlark_module.specs.Comments.Comments.{Comment, comment_in, comment_of, comments}
use Rattle.starlark_module.specs.Comments.Keeping.{comment_spans}
use Rattle.starlark_lexer.specs.Lexemes.{lexemes}
use Rattle.starlark_lexer.specs.Order.{AreLaidOut, ArePlaced, IsPlaced}
use Rattle.starlark_lexer.specs.Tokens.{Text, Span, Lexeme, LexerFault, Terminal, Int, Bytes, small, large}
use Rattle.starlark_lexer.specs.Tokens as tokens
use Rattle.starlark_lexer.proofs.OrderLaws.{lexemes_laid_out}
use Rattle.starlark_lexer.proofs.TokenTexts.CutTexts.{AreBytes, is_byte}
use Rattle.starlark_lexer.proofs.TokenTexts.GivenTokens.{AllAgain, Rereads, lexemes_alone}
use Rattle.starlark_lexer.proofs.TokenTexts.StringValues.{utf8_bytes}
use Rattle.starlark_spec.specs.Items.{Items, is_comment, items}
use Rattle.starlark_json.specs.Tree.Fitting.{SpanFits, BytesFit}
use Rattle.starlark_json.proofs.Fits.Tokens.{TokenFits, LexemeFits, AllFit}

-- what the lexer gives fits
abbrev GivenFits : Result Lexeme LexerFault → Type 0
GivenFits (Ok l) = LexemeFits l
GivenFits (Err e) = ⊤

abbrev AllGivenFit : Seq (Result Lexeme LexerFault) → Type 0
AllGivenFit = AllByRecursion GivenFits

bytes_fit : (bytes : Text) → AreBytes bytes → BytesFit bytes
bytes_fit [] h = tt
bytes_fit (b ∷ bs) h =
    let parts = and_parts (is_byte b) (list_all is_byte bs) h in
    let small = ltb-true b 256 parts.0 in
    (omega arith, bytes_fit bs parts.1)

token_fits : (most : ℕ) (t : Terminal) → Rereads most t → TokenFits t
token_fits most (Int (small (pos n))) h = let less = h.0 in omega arith
token_fits most (Int (small (negsuc n))) h = absurd h.0
token_fits most (Int (large text)) h = tt
token_fits most (Bytes bytes) h = bytes_fit bytes h.0
token_fits most _ h = tt

span_fits : (text : Text) (from : ℕ) (l : Lexeme) → length text < 2 ^ 32 → IsPlaced text from l → SpanFits l.span
span_fits text from l short p =
    let begin = p.begins.0 in
    let end = p.ends.0 in
    record { begin = omega arith; end = omega arith }

all_fit : (text : Text) (from most : ℕ) (ls : Seq (Result Lexeme LexerFault)) → length text < 2 ^ 32 → ArePlaced text from ls → AllAgain most ls
    → AllGivenFit ls
all_fit text from most [] short placed again = tt
all_fit text from most (Ok l ∷ ls) short placed again = (
  (token_fits most l.token again.0, span_fits text from l short placed.0),
  all_fit text l.span.end most ls short placed.1 again.1,
)
all_fit text from most (Err e ∷ []) short placed again = (tt, tt)
all_fit text from most (Err e ∷ l ∷ ls) short placed again = absurd (cc)

lexemes_fit : (text : Text) → IsUtf8 text → length text < 2 ^ 32 → AllGivenFit (lexemes text)
lexemes_fit text utf8 short =
    let laid : AreLaidOut text (lexemes text) = lexemes_laid_out text utf8 in
    all_fit text 0 (2 ^ 32 - 1) (lexemes text) short laid.placed (lexemes_alone (2 ^ 32 - 1) text (utf8_bytes text utf8, omega arith))

-- ---- the tokens among them

given_items_fit : (ls : Seq (Result Lexeme LexerFault)) → AllGivenFit ls → AllFit (items ls).tokens
given_items_fit [] h = tt
given_items_fit (Ok l ∷ ls) h =
    let more = given_items_fit ls h.1 in
    cond_both (is_comment l.token) (items ls) (record { tokens = l ∷ (items ls).tokens; ending = (items ls).ending }) (λ (i : Items). AllFit i.tokens)
    (λ _. more) (λ _. (h.0, more))
given_items_fit (Err e ∷ ls) h = tt

pub items_fit : (text : Text) → IsUtf8 text → length text < 2 ^ 32 → AllFit (items (lexemes text)).tokens
items_fit text utf8 short = given_items_fit (lexemes text) (lexemes_fit text utf8 short)

-- ---- the comments among them

abbrev CommentFits : Option Comment → Type 0
CommentFits None = ⊤
CommentFits (Some c) = SpanFits c.span

comment_fits : (t : Terminal) (s : Span) → SpanFits s → CommentFits (comment_in t s)
comment_fits (tokens.Comment text) s h = h
comment_fits _ s h = tt

given_comment_fits : (l : Result Lexeme LexerFault) → GivenFits l → CommentFits (comment_of l)
given_comment_fits (Ok l) h = comment_fits l.token l.span h.1
given_comment_fits (Err e) h = tt

one_more : (o : Option Comment) (cs : Seq Comment) → CommentFits o → AllByRecursion SpanFits (map (λ (c : Comment). c.span) cs)
    → AllByRecursion SpanFits (map (λ (c : Comment). c.span) (cons_option o cs))
one_more None cs h k = k
one_more (Some c) cs h k = (h, k)

given_comments_fit : (ls : Seq (Result Lexeme LexerFault)) → AllGivenFit ls → AllByRecursion SpanFits (comment_spans ls)
given_comments_fit [] h = tt
given_comments_fit (l ∷ ls) h = one_more (comment_of l) (comments ls) (given_comment_fits l h.0) (given_comments_fit ls h.1)

pub comments_fit : (text : Text) → IsUtf8 text → length text < 2 ^ 32 → AllByRecursion SpanFits (comment_spans (lexemes text))
comments_fit text utf8 short = given_comments_fit (lexemes text) (lexemes_fit text utf8 short)
