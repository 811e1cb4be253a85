-- From what a cursor pulled to the calls of the iterator.
use Rattle.std.proofs.Common.{◌≡◌, ℕ, true, false, List, [], ◌∷◌, ◌++◌, Option, Some, None, Result, Ok, Err, refl, ◌∙◌, ap}
use Rattle.std.specs.Iterator.{YieldsThen}
use Rattle.starlark_lexer.specs.Tokens.{Lexeme, lexeme, LexerFault, terminal, from_to}
use Rattle.starlark_lexer.specs.Lexer.{CodeLexeme, lexeme_of}
use Rattle.starlark_spec.specs.Items.{Items, items, is_comment}
use Rattle.starlark_parse_cursor.specs.Runs.{lexemes_with, HasNoError}
use Rattle.starlark_spec.specs.Machine.Sight.{Sight, token}
use Rattle.starlark_parse_cursor.specs.Reading.{Pulls, Pulls.here, Pulls.past, item_of, IsItem}

-- tokens before items
abbrev pub after : List Lexeme → Items → Items
after ts i = record { tokens = ts ++ i.tokens; ending = i.ending }

-- the calls from s returned the tokens and then the item k
pub record Calls {S : Type 0} (steps : S → Option CodeLexeme → S → Type 0) (s : S) (ts : List Lexeme) (k : Sight) (t : S) : Type 0 where
  pub calls : List CodeLexeme
  pub last : Option CodeLexeme
  pub run : YieldsThen steps s calls last t
  pub no_error : HasNoError calls
  pub is_item : IsItem last
  pub sight_is : k ≡ item_of last
  pub shows : (more : List (Result Lexeme LexerFault)) → items (lexemes_with calls last more) ≡ after ts (items (lexemes_with [] last more))

with_first : (x : CodeLexeme) (calls : List CodeLexeme) (last : Option CodeLexeme) (more : List (Result Lexeme LexerFault))
    → lexemes_with (x ∷ calls) last more ≡ lexeme_of x ∷ lexemes_with calls last more
with_first x calls None more = refl
with_first x calls (Some y) more = refl

module _ {S : Type 0} {steps : S → Option CodeLexeme → S → Type 0} where
  -- a comment before that
  comment_first : {s u t : S} {ts : List Lexeme} {k : Sight} (x : ℕ × _ × ℕ) → steps s (Some (Ok x)) u → is_comment (terminal x.1) ≡ true
      → Calls steps u ts k t → Calls steps s ts k t
  comment_first {u = u} x h e q = record {
    calls = Ok x ∷ q.calls;
    last = q.last;
    run = (q.run.0, (u, h, q.run.1), q.run.2);
    no_error = q.no_error;
    is_item = q.is_item;
    sight_is = q.sight_is;
    shows = λ more. ap items (with_first (Ok x) q.calls q.last more) ∙ rw e (q.shows more);
  }

  -- a token before that
  token_first : {s u t : S} {ts : List Lexeme} {k : Sight} (x : ℕ × _ × ℕ) → steps s (Some (Ok x)) u → is_comment (terminal x.1) ≡ false
      → Calls steps u ts k t → Calls steps s (lexeme (terminal x.1) (from_to x.0 x.2) ∷ ts) k t
  token_first {u = u} x h e q = record {
    calls = Ok x ∷ q.calls;
    last = q.last;
    run = (q.run.0, (u, h, q.run.1), q.run.2);
    no_error = q.no_error;
    is_item = q.is_item;
    sight_is = q.sight_is;
    shows = λ more. ap items (with_first (Ok x) q.calls q.last more) ∙ rw e (ap (after (lexeme (terminal x.1) (from_to x.0 x.2) ∷ [])) (q.shows more));
  }

  -- what was pulled last
  pub pulled_last : {s t : S} {k : Sight} → Pulls steps s k t → Calls steps s [] k t
  pulled_last {s = s} (here r h i e) = record { calls = []; last = r; run = (s, refl, h); no_error = tt; is_item = i; sight_is = e; shows = λ more. refl }
  pulled_last (past x h e p) = comment_first x h e (pulled_last p)

  -- a token that was pulled, and what came after it
  pub pulled_first : {s u t : S} {x : Lexeme} {ts : List Lexeme} {k : Sight} → Pulls steps s (token x) u → Calls steps u ts k t → Calls steps s (x ∷ ts) k t
  pulled_first {s = s} {t = t} {x = x} {ts = ts} {k = k} (here (Some (Ok y)) h i e) q = rw (token_same e) (token_first y h i q)
    where
      token_same : {x y : Lexeme} → token x ≡ token y → x ≡ y
      token_same e = cc
  pulled_first (here None h i e) q = cc
  pulled_first (here (Some (Err y)) h i e) q = cc
  pulled_first (past x h e p) q = comment_first x h e (pulled_first p q)
