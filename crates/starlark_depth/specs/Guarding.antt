-- What the calls of a guard return, by those of the iterator in it.
use Rattle.std.specs.Prelude.{◌≡◌, ◌⊎◌, Bool, true, false, Option, Some, None, Ok, Err}
use Rattle.starlark_lexer.specs.Lexer.{CodeLexeme}
use Rattle.starlark_lexer.specs.Tokens.{terminal, fault_of, from_to}
use Rattle.starlark_lexer.specs.declared.token.LexerError.{LexerError}
use Rattle.starlark_lexer.specs.declared.token.LexerErrorKind.TheVariants as kinds
use Rattle.starlark_depth.specs.Counted.{state_of}
use Rattle.starlark_depth.specs.Depths.{after_token}
use Rattle.starlark_depth.specs.Limited.{too_deep}
use Rattle.starlark_parse_cursor.specs.Order.{ComesInOrder}
use Rattle.starlark_depth.specs.declared.depth.Depth.{Depth}
use Rattle.starlark_depth.specs.declared.guard.DepthGuard.{DepthGuard}

-- A lexeme is passed on: a token that is counted, or an error, which is the last.
abbrev pub Passes : CodeLexeme → Depth → Depth → Bool → Type 0
Passes (Ok x) old new failed = (after_token old.limit (state_of old) (terminal x.1) ≡ Some (state_of new)) × (failed ≡ false)
Passes (Err e) old new failed = failed ≡ true

-- an error replaces a token: the last, for a token that is too deep, or for which allocation failed
abbrev pub Refuses : CodeLexeme → LexerError → Depth → Bool → Type 0
Refuses (Ok x) e old failed = (failed ≡ true)
    × ((e.kind ≡ kinds.Memory) ⊎ ((fault_of e ≡ too_deep (from_to x.0 x.2)) × (after_token old.limit (state_of old) (terminal x.1) ≡ None)))
Refuses (Err x) e old failed = ⊥

module _ {S : Type 0} where
  -- the same limit, and the same iterator, wherever it is now
  pub record IsSameGuard (old new : DepthGuard S) : Type 0 where
    pub same_reference : new.lexemes.ghost_name ≡ old.lexemes.ghost_name
    pub limit : new.depth.limit ≡ old.depth.limit

  module _ (steps : S → Option CodeLexeme → S → Type 0) where
    -- A call returns what the iterator returns, or an error instead. After an error the iterator is not called.
    pub data Gives : DepthGuard S → Option CodeLexeme → DepthGuard S → Type 0 where
      ends : {old new : DepthGuard S} → old.failed ≡ false → IsSameGuard old new → steps old.lexemes.now None new.lexemes.now → Gives old None new
      passes : {old new : DepthGuard S} (x : CodeLexeme) → old.failed ≡ false → IsSameGuard old new → steps old.lexemes.now (Some x) new.lexemes.now
          → Passes x old.depth new.depth new.failed → Gives old (Some x) new
      refuses : {old new : DepthGuard S} (x : CodeLexeme) (e : LexerError) → old.failed ≡ false → IsSameGuard old new
          → steps old.lexemes.now (Some x) new.lexemes.now → Refuses x e old.depth new.failed → Gives old (Some (Err e)) new
      stopped : {old : DepthGuard S} → old.failed ≡ true → Gives old None old

  -- until there is an error the iterator may be called, and its lexemes come in order
  abbrev pub CanNext : (S → Type 0) → (S → Option CodeLexeme → S → Type 0) → DepthGuard S → Type 0
  CanNext can steps g = g.failed ≡ false → can g.lexemes.now × ComesInOrder steps g.lexemes.now 0
