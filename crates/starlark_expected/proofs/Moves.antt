-- What a move determines, and the forms of moves.
use Rattle.std.proofs.Common.{◌≡◌, Bool, true, false, if◌then◌else◌, List, [], ◌∷◌, ◌++◌, reverse, refl, sym, ◌∙◌, ap, subst, append_assoc, Some, None}
use Rattle.std.proofs.lemmas.List.{reverse-append}
use Rattle.starlark_lexer.specs.declared.kind.Kind.{Kind}
use Rattle.starlark_lexer.specs.declared.kind.Kind.TheVariants as kinds
use Rattle.starlark_lexer.specs.Kinds.{is}
use Rattle.starlark_spec.specs.Grammar.{Derivation}
use Rattle.starlark_spec.specs.Grammar.Nonterminal.{Module}
use Rattle.starlark_spec.specs.Machine.States.{State}
use Rattle.starlark_spec.specs.Machine.Moves.{Move, Keep, Take, Fail, Finish}
use Rattle.starlark_expected.specs.declared.word.Word.{Word}
use Rattle.starlark_expected.specs.declared.word.Word.TheVariants.{Token, SliceTail, BoundTail, ClausesTail}
use Rattle.starlark_expected.specs.Words.{Start, follow, token_start, clause_start}
use Rattle.starlark_expected.specs.Words.{Reply, Passes, Refuses, takes, must, square_reply, curly_reply, Outcome, Took, Refused, Whole}
use Rattle.starlark_expected.specs.Words.{named_by, after_reply, outcome}
use Rattle.starlark_expected.proofs.Shown.{begun, shown}

pub data Acts : Move Module → Kind → Outcome → Type 0 where
  keeps_so : {t : State Module} {k : Kind} {r : Outcome} → shown t k ≡ r → Acts (Keep t) k r
  takes_so : {t : State Module} {k : Kind} {s : List Word} {f : Bool} → ((j : Kind) → outcome s f j ≡ shown t j) → Acts (Take t) k (Took s f)
  fails_so : {k : Kind} → Acts Fail k Refused
  finishes_so : {d : Derivation Module} {k : Kind} → Acts (Finish d) k Whole

-- ---- the forms of moves

reversed : (after words s : List Word) → reverse (after ++ words) ++ s ≡ reverse words ++ (reverse after ++ s)
reversed after words s = ap (λ l. l ++ s) (reverse-append after words) ∙ append_assoc (reverse words) (reverse after) s

pub by_must : (o : Start) (s : List Word) (a : Bool) (k : Kind) (r : Outcome) → after_reply (must a o) k s r ≡ begun o s a k
by_must (Some words) s a k r = refl
by_must None s a k r = refl

pub by_follow : (o : Start) (after s : List Word) (a : Bool) (k : Kind) (r : Outcome)
    → after_reply (must a (follow after o)) k s r ≡ begun o (reverse after ++ s) a k
by_follow (Some words) after s a k r = ap (λ l. Took l (named_by a k)) (reversed after words s)
by_follow None after s a k r = refl

unnamed : (a : Bool) → (if a then false else false) ≡ false
unnamed true = refl
unnamed false = refl

pub if_acts : (c : Bool) {m u : Move Module} {k : Kind} (x y : Reply) (s : List Word) (r : Outcome) → Acts m k (after_reply x k s r)
    → Acts u k (after_reply y k s r) → Acts (if c then m else u) k (after_reply (if c then x else y) k s r)
if_acts true x y s r f g = f
if_acts false x y s r f g = g

pub due_if : (c : Bool) {m u : Move Module} {k : Kind} (x y : Start) (a : Bool) (s : List Word) (r : Outcome) → Acts m k (after_reply (must a x) k s r)
    → Acts u k (after_reply (must a y) k s r) → Acts (if c then m else u) k (after_reply (must a (if c then x else y)) k s r)
due_if true x y a s r f g = f
due_if false x y a s r f g = g

-- what was not an argument before
pub keeps_unnamed : (a : Bool) {t : State Module} (s : List Word) {k : Kind} → shown t k ≡ outcome s (if a then false else false) k
    → Acts (Keep t) k (outcome s false k)
keeps_unnamed a s {k = k} e = keeps_so (e ∙ ap (λ f. outcome s f k) (unnamed a))

pub takes_unnamed : (a : Bool) {t : State Module} {s : List Word} {k : Kind} → ((j : Kind) → outcome s (if a then false else false) j ≡ shown t j)
    → Acts (Take t) k (Took s false)
takes_unnamed a {s = s} h = takes_so (λ j. ap (λ f. outcome s f j) (sym (unnamed a)) ∙ h j)

-- a token that is not a name is consumed, whether or not an argument begins there
takes_plain : (a : Bool) {t : State Module} {s : List Word} {k : Kind} → is k kinds.Identifier ≡ false → ((j : Kind) → outcome s false j ≡ shown t j)
    → Acts (Take t) k (Took s (named_by a k))
takes_plain true {t = t} {s = s} {k = k} n h = subst (λ f. Acts (Take t) k (Took s f)) (sym n) (takes_so h)
takes_plain false n h = takes_so h

-- a token that is not a name is consumed, or another part begins there
pub word_or : (c a : Bool) (t u : State Module) (k : Kind) (words : List Word) (o : Start) (s : List Word) → (c ≡ true → is k kinds.Identifier ≡ false)
    → ((j : Kind) → outcome (reverse words ++ s) false j ≡ shown t j) → shown u k ≡ begun o s a k
    → Acts (if c then Take t else Keep u) k (begun (if c then Some words else o) s a k)
word_or true a t u k words o s n h e = takes_plain a (n refl) h
word_or false a t u k words o s n h e = keeps_so e

-- a list begins there, or it is empty
pub list_or : (c a : Bool) (t u : State Module) (k : Kind) (o : Start) (after s : List Word) (r : Outcome) → shown t k ≡ begun o (reverse after ++ s) a k
    → shown u k ≡ r → Acts (if c then Keep t else Keep u) k (after_reply (if c then must a (follow after o) else Passes) k s r)
list_or true a t u k o after s r e f = keeps_so (e ∙ sym (by_follow o after s a k r))
list_or false a t u k o after s r e f = keeps_so f

-- a part begins there, or another
pub part_or : (c : Bool) (t u : State Module) (k : Kind) (o q : Start) (after s : List Word) (r : Outcome) → shown t k ≡ begun o (reverse after ++ s) false k
    → shown u k ≡ begun q s false k
    → Acts (if c then Keep t else Keep u) k (after_reply (if c then must false (follow after o) else must false q) k s r)
part_or true t u k o q after s r e f = keeps_so (e ∙ sym (by_follow o after s false k r))
part_or false t u k o q after s r e f = keeps_so (f ∙ sym (by_must q s false k r))

-- if a token of another kind than a name is consumed, no argument is a name
pub takes_other : (a : Bool) {t : State Module} {s : List Word} {k : Kind} → ((j : Kind) → outcome s false j ≡ shown t j)
    → Acts (Take t) k (Took s (if a then false else false))
takes_other true h = takes_so h
takes_other false h = takes_so h

pub colon_same : (c : Bool) (s : List Word) (k : Kind) (r q : Outcome)
    → after_reply (must false (if c then Some [] else None)) k (BoundTail ∷ SliceTail ∷ s) r
    ≡ after_reply (if c then takes (SliceTail ∷ BoundTail ∷ []) else Refuses) k s q
colon_same true s k r q = refl
colon_same false s k r q = refl

pub square_same : (c : Bool) (s : List Word) (k : Kind) (r : Outcome)
    → (if c then begun (clause_start k) (ClausesTail ∷ Token kinds.ClosingSquare ∷ s) false k else begun (token_start kinds.ClosingSquare k) s false k)
    ≡ after_reply (if c then must false (follow (Token kinds.ClosingSquare ∷ ClausesTail ∷ []) (clause_start k)) else square_reply k) k s r
square_same true s k r = sym (by_follow (clause_start k) (Token kinds.ClosingSquare ∷ ClausesTail ∷ []) s false k r)
square_same false s k r = sym (by_must (token_start kinds.ClosingSquare k) s false k r)

pub curly_same : (c : Bool) (s : List Word) (k : Kind) (r : Outcome)
    → (if c then begun (clause_start k) (ClausesTail ∷ Token kinds.ClosingCurly ∷ s) false k else begun (token_start kinds.ClosingCurly k) s false k)
    ≡ after_reply (if c then must false (follow (Token kinds.ClosingCurly ∷ ClausesTail ∷ []) (clause_start k)) else curly_reply k) k s r
curly_same true s k r = sym (by_follow (clause_start k) (Token kinds.ClosingCurly ∷ ClausesTail ∷ []) s false k r)
curly_same false s k r = sym (by_must (token_start kinds.ClosingCurly k) s false k r)

pub block_end_acts : (c e : Bool) (t u : State Module) (k : Kind) (s : List Word)
    → ((j : Kind) → outcome s false j ≡ shown t j) → shown u k ≡ outcome s false k
    → Acts (if c then Take t else (if e then Keep u else Fail)) k (if c then Took s false else (if e then outcome s false k else Refused))
block_end_acts true e t u k s h g = takes_so h
block_end_acts false true t u k s h g = keeps_so g
block_end_acts false false t u k s h g = fails_so
