-- Runs of a keeper's calls, as runs of those of the iterator in it.
use Rattle.std.proofs.Common.{◌≡◌, ℕ, false, List, [], ◌∷◌, ◌++◌, map, Option, Some, None, Result, Ok, Err, append-nil, append_assoc, refl, sym, subst, ◌∙◌}
use Rattle.std.proofs.lemmas.Bool.{false≢true}
use Rattle.std.specs.Bool.{⊤}
use Rattle.std.specs.Iterator.{Yields, YieldsThen}
use Rattle.starlark_lexer.specs.Lexer.{CodeLexeme, lexeme_of}
use Rattle.starlark_lexer.specs.Tokens.{Lexeme, LexerFault}
use Rattle.starlark_parse_cursor.specs.Order.{IsInOrder, ComesInOrder}
use Rattle.starlark_parse_cursor.specs.Runs.{HasNoError}
use Rattle.starlark_parse_cursor.proofs.Order.{first_in_order, rest_in_order}
use Rattle.starlark_module.specs.Comments.Keeping.{HasKept, Keeps, IsSameKeeper, Gives, ends, hands_on, wants_memory, has_failed, IsGivenFor, as_it_came}
use Rattle.starlark_module.specs.Comments.Keeping.{in_its_place, TakesFrom}
use Rattle.starlark_module.specs.declared.comments.comment_keeper.CommentKeeper.{CommentKeeper}

module _ {S : Type 0} (steps : S → Option CodeLexeme → S → Type 0) where
  joined : {a b c : CommentKeeper S} → IsSameKeeper a b → IsSameKeeper b c → IsSameKeeper a c
  joined h k = record { same_reference = k.same_reference ∙ h.same_reference; codemap = k.codemap ∙ h.codemap }

  -- calls that returned no error
  record Passes (old : CommentKeeper S) (xs : List CodeLexeme) (new : CommentKeeper S) : Type 0 where
    run : Yields steps old.lexemes.now xs new.lexemes.now
    same_keeper : IsSameKeeper old new
    going : new.failed ≡ false
    kept : (lexemes : List (Result Lexeme LexerFault)) → HasKept lexemes old → HasKept (lexemes ++ map lexeme_of xs) new

  -- one call that returned a token or a comment
  record PassesOne (old : CommentKeeper S) (x : CodeLexeme) (new : CommentKeeper S) : Type 0 where
    step : steps old.lexemes.now (Some x) new.lexemes.now
    same_keeper : IsSameKeeper old new
    going : new.failed ≡ false
    kept : Keeps x old new

  passed_one : (old new : CommentKeeper S) (x : _) → Gives steps old (Some (Ok x)) new → PassesOne old (Ok x) new
  passed_one old new x (hands_on y going same_keeper step kept failed) = record { step = step; same_keeper = same_keeper; going = failed; kept = kept }

  passed : (old new : CommentKeeper S) (xs : List CodeLexeme) → Yields (Gives steps) old xs new → HasNoError xs → old.failed ≡ false → Passes old xs new
  passed old new [] e none going =
      let here : Passes old [] old = record {
        run = refl;
        same_keeper = record { same_reference = refl; codemap = refl };
        going = going;
        kept = λ lexemes kept. subst (λ ls. HasKept ls old) (sym (append-nil lexemes)) kept;
      } in
      subst (Passes old []) e here
  passed old new (Ok x ∷ xs) (next, given, more) none going =
      let one = passed_one old next x given in
      let rest = passed next new xs more none one.going in
      record {
        run = (next.lexemes.now, one.step, rest.run);
        same_keeper = joined one.same_keeper rest.same_keeper;
        going = rest.going;
        kept = λ lexemes kept. subst (λ ls. HasKept ls new) (append_assoc lexemes (lexeme_of (Ok x) ∷ []) (map lexeme_of xs))
            (rest.kept (lexemes ++ lexeme_of (Ok x) ∷ []) (one.kept lexemes kept));
      }
  passed old new (Err x ∷ xs) y none going = absurd none

  -- the last call
  record PassesLast (old : CommentKeeper S) (last : Option CodeLexeme) (new : CommentKeeper S) : Type 0 where
    came : Option CodeLexeme
    given_for : IsGivenFor last came
    step : steps old.lexemes.now came new.lexemes.now
    same_keeper : IsSameKeeper old new
    kept : (lexemes : List (Result Lexeme LexerFault)) → HasKept lexemes old → last ≡ None → HasKept lexemes new

  abbrev IsNothing : Option CodeLexeme → Type 0
  IsNothing None = ⊤
  IsNothing (Some x) = ⊥

  passed_last : (old new : CommentKeeper S) (last : Option CodeLexeme) → Gives steps old last new → old.failed ≡ false → PassesLast old last new
  passed_last old new None (ends going same_keeper step kept) h = record {
    came = None;
    given_for = as_it_came None;
    step = step;
    same_keeper = same_keeper;
    kept = λ lexemes before e. kept lexemes before;
  }
  passed_last old new (Some x) (hands_on y going same_keeper step kept failed) h = record {
    came = Some x;
    given_for = as_it_came (Some x);
    step = step;
    same_keeper = same_keeper;
    kept = λ lexemes before e. absurd (subst IsNothing (sym e) tt);
  }
  passed_last old new (Some (Err e)) (wants_memory y f going same_keeper step comment no_memory failed) h =
      record {
        came = Some y;
        given_for = in_its_place y e comment no_memory;
        step = step;
        same_keeper = same_keeper;
        kept = λ lexemes before e. absurd (subst IsNothing (sym e) tt);
      }
  passed_last old new None (has_failed failed) h = absurd (false≢true (sym h ∙ failed))

  pub taken : (old new : CommentKeeper S) (calls : List CodeLexeme) (last : Option CodeLexeme) → YieldsThen (Gives steps) old calls last new
      → HasNoError calls → old.failed ≡ false → TakesFrom steps old calls last new
  taken old new calls last (before, run, given) none going =
      let front = passed old before calls run none going in
      let end = passed_last before new last given front.going in
      record {
        came = end.came;
        given_for = end.given_for;
        run = (before.lexemes.now, front.run, end.step);
        same_keeper = joined front.same_keeper end.same_keeper;
        kept = λ lexemes kept e. end.kept (lexemes ++ map lexeme_of calls) (front.kept lexemes kept) e;
      }

  -- a keeper's lexemes come in order, as those of the iterator in it do
  in_order : (old new : CommentKeeper S) (xs : List CodeLexeme) (from : ℕ) → ComesInOrder steps old.lexemes.now from → Yields (Gives steps) old xs new
      → IsInOrder from xs
  in_order old new [] from ordered y = tt
  in_order old new (Ok x ∷ xs) from ordered (next, given, more) =
      let one = passed_one old next x given in
      let first = first_in_order ordered one.step in
      (first.0, first.1, first.2, in_order next new xs x.2 (rest_in_order ordered one.step) more)
  in_order old new (Err x ∷ xs) from ordered y = tt

  pub keeper_in_order : (k : CommentKeeper S) (from : ℕ) → ComesInOrder steps k.lexemes.now from → ComesInOrder (Gives steps) k from
  keeper_in_order k from ordered = record { at = λ xs t y. in_order k t xs from ordered y }
