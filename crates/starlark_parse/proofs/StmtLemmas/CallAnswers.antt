-- From the calls of the iterator to the answers for all that it may return.
use Rattle.std.proofs.Common.{◌≡◌, Bool, true, false, List, [], ◌∷◌, ◌++◌, map, Option, Some, None, Result, Ok, Err, refl, sym, ◌∙◌, ap}
use Rattle.std.proofs.lemmas.List.{append-nil, append_cancel_right}
use Rattle.starlark_lexer.specs.Tokens.{Lexeme, lexeme, LexerFault, terminal, from_to, fault_of}
use Rattle.starlark_lexer.specs.Lexer.{CodeLexeme, lexeme_of}
use Rattle.starlark_lexer.specs.declared.dialect.DialectTypes.{DialectTypes}
use Rattle.starlark_spec.specs.Items.{Items, Ending, at_end, items, is_comment, ending_of}
use Rattle.starlark_spec.specs.Answers.{Answer}
use Rattle.starlark_spec.specs.Machine.Sight.{Sight, sight}
use Rattle.starlark_parse_cursor.specs.Runs.{lexemes_with, HasNoError}
use Rattle.starlark_parse_cursor.specs.Reading.{item_of, IsItem}
use Rattle.starlark_parse_cursor.proofs.Calls.{Calls, after}
use Rattle.starlark_parse.specs.Stmt.Runs.{tokens_of, IsLastItem, AnswersAfter, AnswersFrom}
use Rattle.starlark_parse.proofs.StmtLemmas.ListAnswers.{ended}

-- one more token, or a comment
one_more : (x : Lexeme) (b : Bool) (more calls rest : List (Result Lexeme LexerFault)) → is_comment x.token ≡ b
    → items more ≡ after (items calls).tokens (items rest) → items (Ok x ∷ more) ≡ after (items (Ok x ∷ calls)).tokens (items rest)
one_more x true more calls rest e h = rw e h
one_more x false more calls rest e h = rw e (ap (after (x ∷ [])) h)

-- what comes after lexemes without an error comes after their tokens
came : (calls : List CodeLexeme) (rest : List (Result Lexeme LexerFault)) → HasNoError calls → items (map lexeme_of calls ++ rest) ≡ after (tokens_of calls)
    (items rest)
came [] rest h = refl
came (Ok x ∷ xs) rest h = one_more (lexeme (terminal x.1) (from_to x.0 x.2)) _ (map lexeme_of xs ++ rest) (map lexeme_of xs) rest refl (came xs rest h)
came (Err e ∷ xs) rest h = absurd h

same_before : (ts us : List Lexeme) (i : Items) → after ts i ≡ after us i → ts ≡ us
same_before ts us i e = append_cancel_right ts us i.tokens (ap (λ (j : Items). j.tokens) e)

-- the tokens of the calls before the last
tokens_came : {S : Type 0} {steps : S → Option CodeLexeme → S → Type 0} {o t : S} {ts : List Lexeme} {k : Sight} (c : Calls steps o ts k t)
    → tokens_of c.calls ≡ ts
tokens_came {ts = ts} c = by_last c.last (c.shows [])
  where
    by_last : (last : Option CodeLexeme) → items (lexemes_with c.calls last []) ≡ after ts (items (lexemes_with [] last [])) → tokens_of c.calls ≡ ts
    by_last None e = ap (λ (j : Items). j.tokens) e ∙ append-nil ts
    by_last (Some x) e = same_before (tokens_of c.calls) ts (items (lexeme_of x ∷ [])) (sym (came c.calls (lexeme_of x ∷ []) c.no_error) ∙ e)

-- the items from the last call on, whatever comes after it
pub record FromLast (last : Option CodeLexeme) (more : List (Result Lexeme LexerFault)) : Type 0 where
  pub rest : List Lexeme
  pub ending : Ending
  pub sees : item_of last ≡ sight ending rest
  pub shows : items (lexemes_with [] last more) ≡ ended rest ending

from_last : (last : Option CodeLexeme) → IsItem last → (more : List (Result Lexeme LexerFault)) → FromLast last more
from_last None i more = record { rest = []; ending = at_end; sees = refl; shows = refl }
from_last (Some (Ok x)) i more = record {
  rest = lexeme (terminal x.1) (from_to x.0 x.2) ∷ (items more).tokens;
  ending = (items more).ending;
  sees = refl;
  shows = rw i refl;
}
from_last (Some (Err e)) i more = record { rest = []; ending = ending_of (fault_of e); sees = refl; shows = refl }

-- an answer that is correct for each list that continues after what was read is that of the calls
pub answers_from : {S : Type 0} {steps : S → Option CodeLexeme → S → Type 0} {o t : S} {ts : List Lexeme} {k : Sight} (y : DialectTypes) (answer : Answer)
    (c : Calls steps o ts k t) → IsLastItem c.last answer
    → ((z : Ending) (rest : List Lexeme) → k ≡ sight z rest → AnswersAfter ts y (ended (ts ++ rest) z) answer) → AnswersFrom steps y o answer t
answers_from {ts = ts} y answer c l f = record {
  calls = c.calls;
  last = c.last;
  run = c.run;
  no_error = c.no_error;
  last_is = l;
  answers = λ more.
      let g = from_last c.last c.is_item more in
      rw (tokens_came c, c.shows more, g.shows) (f g.ending g.rest (c.sight_is ∙ g.sees));
}
