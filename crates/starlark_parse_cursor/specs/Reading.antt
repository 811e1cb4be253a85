-- What a cursor with one item of lookahead reads from an iterator of lexemes.
use Rattle.std.specs.Prelude.{◌≡◌, ℕ, ◌+◌, ◌≤◌, true, false, ⊤, Option, Some, None, Ok, Err}
use Rattle.std.specs.Iterator.{Count, IsFinite, size}
use Rattle.starlark_lexer.specs.Tokens.{from_to, span_of, terminal, Lexeme, lexeme, fault_of}
use Rattle.starlark_lexer.specs.Lexer.{CodeLexeme}
use Rattle.starlark_lexer.specs.declared.dialect.DialectTypes.{DialectTypes}
use Rattle.starlark_spec.specs.Items.{at_end, ending_of, is_comment}
use Rattle.starlark_spec.specs.Answers.{Answer}
use Rattle.starlark_spec.specs.Machine.Answers.{stop_of}
use Rattle.starlark_spec.specs.Machine.Sight.{Sight, token, ending}
use Rattle.starlark_parse_cursor.specs.declared.cursor.Cursor.{Cursor}
use Rattle.starlark_parse_cursor.specs.declared.cursor.Look.{Look as CodeLook}
use Rattle.starlark_parse_cursor.specs.declared.cursor.Look.TheVariants as looks
use Rattle.starlark_parse_cursor.specs.Order.{ComesInOrder}

-- the item of a result of the iterator
abbrev pub item_of : Option CodeLexeme → Sight
item_of None = ending at_end
item_of (Some (Ok x)) = token (lexeme (terminal x.1) (from_to x.0 x.2))
item_of (Some (Err e)) = ending (ending_of (fault_of e))

-- a result that is not a comment
abbrev pub IsItem : Option CodeLexeme → Type 0
IsItem (Some (Ok x)) = is_comment (terminal x.1) ≡ false
IsItem _ = ⊤

abbrev pub sight_of : CodeLook → Sight
sight_of (looks.Token what span) = token (lexeme (terminal what) (span_of span))
sight_of (looks.Error e) = ending (ending_of (fault_of e))
sight_of looks.End = ending at_end

abbrev pub IsToken : Sight → Type 0
IsToken (token x) = ⊤
IsToken (ending z) = ⊥

-- a cursor: the iterator's state, the next item, the end of the last token that was consumed, and which types the dialect allows
pub record At (S : Type 0) : Type 0 where
  pub state : S
  pub sight : Sight
  pub end : ℕ
  pub types : DialectTypes

abbrev pub at : {S : Type 0} → Cursor S → At S
at c = record { state = c.lexemes.now; sight = sight_of c.look; end = c.end.byte; types = c.types }

module _ {S : Type 0} (steps : S → Option CodeLexeme → S → Type 0) where
  -- from s, calls returned only comments and then the item k; they left t
  pub data Pulls : S → Sight → S → Type 0 where
    here : {s t : S} {k : Sight} (r : Option CodeLexeme) → steps s r t → IsItem r → k ≡ item_of r → Pulls s k t
    past : {s u t : S} {k : Sight} (x : ℕ × _ × ℕ) → steps s (Some (Ok x)) u → is_comment (terminal x.1) ≡ true → Pulls u k t → Pulls s k t

  -- the token x was the next item and was consumed
  pub record Advances (a : At S) (x : Lexeme) (b : At S) : Type 0 where
    pub sees : a.sight ≡ token x
    pub pulls : Pulls a.state b.sight b.state
    pub end_is : b.end ≡ x.span.end
    pub same_types : b.types ≡ a.types

-- where the next item begins
abbrev pub begin_in : Sight → ℕ → ℕ
begin_in (token x) end = x.span.begin
begin_in (ending z) end = end

abbrev pub begin_at : {S : Type 0} → At S → ℕ
begin_at a = begin_in a.sight a.end

-- how many items may still come, if n may come after the next item
abbrev pub items_left : Sight → ℕ → ℕ
items_left (token x) n = n + 1
items_left (ending z) n = 0

abbrev pub left_at : {S : Type 0} → (S → Count) → At S → ℕ
left_at left a = items_left a.sight (size (left a.state))

-- the iterator may be called, ends, and returns its lexemes in order
abbrev pub GoesOn : {S : Type 0} → (S → Type 0) → (S → Count) → (S → Option CodeLexeme → S → Type 0) → Sight → S → Type 0
GoesOn can left steps (token x) s = can s × IsFinite (left s) × ComesInOrder steps s x.span.end
GoesOn can left steps (ending z) s = ⊤

-- the cursor may continue
pub record Ready {S : Type 0} (can : S → Type 0) (left : S → Count) (steps : S → Option CodeLexeme → S → Type 0) (a : At S) : Type 0 where
  pub goes_on : GoesOn can left steps a.sight a.state
  pub later : a.end ≤ begin_at a

-- the answer for the next item, if nothing can continue with it
abbrev pub stop_at : {S : Type 0} → At S → Answer
stop_at a = stop_of a.sight a.end
