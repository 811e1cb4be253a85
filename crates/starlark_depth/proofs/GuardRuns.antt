-- What a guard of a lexer returns of the lexemes of a text.
use Rattle.std.proofs.Common.{◌≡◌, ◌⊎◌, inl, inr, ℕ, zero, suc, ◌+◌, ◌*◌, ◌<◌, false, List, [], ◌∷◌, ◌++◌, map, length, Option, Some, None, Result, Ok, Err}
use Rattle.std.proofs.Common.{subst, refl, sym, ap, ◌∙◌, arith}
use Rattle.std.proofs.lemmas.List.{append-nil}
use Rattle.std.proofs.lemmas.Bool.{false≢true}
use Rattle.std.specs.Iterator.{Yields, YieldsThen}
use Rattle.std.specs.Option.{IsSomeAnd}
use Rattle.starlark_lexer.proofs.RunLaws.{given_token, gives_left, lexer_valid, lexemes-none, lexemes-step}
use Rattle.starlark_lexer.specs.Lexemes.{Step, lexemes, lexemes_from, left, step}
use Rattle.starlark_lexer.specs.Lexemes as lexing
use Rattle.starlark_lexer.specs.Lexer.{CodeLexeme, Refuses, gives, lexeme_of}
use Rattle.starlark_lexer.specs.Lexer as lexer
use Rattle.starlark_lexer.specs.Tokens.{Text, Lexeme, LexerFault, fault_of, terminal, from_to, lexeme}
use Rattle.starlark_lexer.specs.declared.lexer.Lexer.{Lexer}
use Rattle.starlark_lexer.specs.declared.token.Token.{Token}
use Rattle.starlark_lexer.specs.declared.token.LexerError.{LexerError}
use Rattle.starlark_lexer.specs.declared.token.LexerErrorKind.{LexerErrorKind}
use Rattle.starlark_lexer.specs.declared.token.LexerErrorKind.TheVariants as kinds
use Rattle.starlark_depth.specs.Counted.{state_of}
use Rattle.starlark_depth.specs.Depths.{State, after_token}
use Rattle.starlark_parse_cursor.specs.Runs.{HasNoError}
use Rattle.starlark_depth.specs.Given.{IsGivenOf, Begins}
use Rattle.starlark_depth.specs.Guarding.{Gives, ends, passes, refuses, stopped}
use Rattle.starlark_depth.specs.Limited.{limit_at, limited_from, limited, too_deep}
use Rattle.starlark_depth.specs.declared.guard.DepthGuard.{DepthGuard}

-- ---- calls of a lexer that returned no error, and what follows

record Came (n : ℕ) (s t : Lexer) (xs : List CodeLexeme) : Type 0 where
  room : ℕ
  enough : left (lexer.state_of t) < room
  is : lexemes_from n (lexer.state_of s) ≡ map lexeme_of xs ++ lexemes_from room (lexer.state_of t)

came : (n : ℕ) (s t : Lexer) (xs : List CodeLexeme) → left (lexer.state_of s) < n → Yields gives s xs t → HasNoError xs → Came n s t xs
came n s t [] room ys none = record { room = n; enough = subst (λ k. left (lexer.state_of k) < n) ys room; is = ap (λ k. lexemes_from n (lexer.state_of k)) ys }
came zero s t (x ∷ xs) room ys none = absurd (omega arith)
came (suc n) s t (Ok x ∷ xs) room (j, g, more) none =
    let less = gives_left (lexer.state_of s) (Ok x) (lexer.state_of j) (lexer_valid s) g.0 in
    let rest = came n j t xs (omega arith) more none in
    record {
      room = rest.room;
      enough = rest.enough;
      is = lexemes-step n (lexer.state_of s) (lexer.state_of j) (lexeme_of (Ok x)) (given_token (step (lexer.state_of s)) (lexeme_of (Ok x))
          (lexer.state_of j) g.0) ∙ ap (λ ls. lexeme_of (Ok x) ∷ ls) rest.is;
    }
came (suc n) s t (Err e ∷ xs) room ys none = absurd none

next_is : (m : ℕ) (t u : Lexer) (x : Result Lexeme LexerFault) → left (lexer.state_of t) < m → step (lexer.state_of t) ≡ Some (x, lexer.state_of u)
    → (more : List (Result Lexeme LexerFault)) × (lexemes_from m (lexer.state_of t) ≡ x ∷ more)
next_is zero t u x room is = absurd (omega arith)
next_is (suc m) t u x room is = (lexemes_from m (lexer.state_of u), lexemes-step m (lexer.state_of t) (lexer.state_of u) x is)

-- a refusal is that of the step, unless allocation failed
refusal_is : (k : LexerErrorKind) (e : LexerError) (o : Option Step) (t : _) → IsSomeAnd o (λ p. Refuses k e p t)
    → (k ≡ kinds.Memory) ⊎ (o ≡ Some (Err (fault_of e), t))
refusal_is kinds.Memory e o t h = inl refl
refusal_is _ e o t h = inr (given_token o (Err (fault_of e)) t h)

-- ---- what the last call of a guard says about the lexer

Last : DepthGuard Lexer → DepthGuard Lexer → Option CodeLexeme → Type 0
Last h u None = gives h.lexemes.now None u.lexemes.now
Last h u (Some (Ok x)) = gives h.lexemes.now (Some (Ok x)) u.lexemes.now × (after_token h.depth.limit (state_of h.depth) (terminal x.1) ≡ Some
    (state_of u.depth))
Last h u (Some (Err e)) =
    gives h.lexemes.now (Some (Err e)) u.lexemes.now
    ⊎ ((x : ℕ × Token × ℕ) × gives h.lexemes.now (Some (Ok x)) u.lexemes.now
    × ((e.kind ≡ kinds.Memory) ⊎ ((fault_of e ≡ too_deep (from_to x.0 x.2)) × (after_token h.depth.limit (state_of h.depth) (terminal x.1) ≡ None))))

last_of : (h u : DepthGuard Lexer) (last : Option CodeLexeme) → h.failed ≡ false → Gives gives h last u → Last h u last
unfolding Last
last_of h u None running (ends still same given) = given
last_of h u (Some (Ok x)) running (passes y still same given counted) = (given, counted.0)
last_of h u (Some (Err e)) running (passes y still same given counted) = inl given
last_of h u (Some (Err e)) running (refuses (Ok x) f still same given (failed, why)) = inr (x, given, why)
last_of h u (Some (Err e)) running (refuses (Err x) f still same given why) = absurd why
last_of h u None running (stopped failed) = absurd (false≢true (sym running ∙ failed))

-- ---- calls of a guard that returned no error

module _ (n : ℕ) where
  record Passed (g h : DepthGuard Lexer) (xs : List CodeLexeme) : Type 0 where
    run : Yields gives g.lexemes.now xs h.lexemes.now
    limit : h.depth.limit ≡ n
    running : h.failed ≡ false
    listed : (more : List (Result Lexeme LexerFault)) → limited_from n (state_of g.depth) (map lexeme_of xs ++ more) ≡ map lexeme_of xs ++ limited_from n
        (state_of h.depth) more

  record PassedOne (g h : DepthGuard Lexer) (x : ℕ × _ × ℕ) : Type 0 where
    one : gives g.lexemes.now (Some (Ok x)) h.lexemes.now
    limit : h.depth.limit ≡ n
    running : h.failed ≡ false
    counts : after_token n (state_of g.depth) (terminal x.1) ≡ Some (state_of h.depth)

  passed_one : (g h : DepthGuard Lexer) (x : _) → g.depth.limit ≡ n → Gives gives g (Some (Ok x)) h → PassedOne g h x
  passed_one g h x is (passes y running same one counted) = record {
    one = one;
    limit = same.limit ∙ is;
    running = counted.1;
    counts = subst (λ m. after_token m (state_of g.depth) (terminal x.1) ≡ Some (state_of h.depth)) is counted.0;
  }

  passed : (g h : DepthGuard Lexer) (xs : List CodeLexeme) → g.depth.limit ≡ n → g.failed ≡ false → Yields (Gives gives) g xs h → HasNoError xs → Passed g h xs
  passed g h [] is running e none =
      let here : Passed g g [] = record { run = refl; limit = is; running = running; listed = λ more. refl } in
      subst (λ h. Passed g h []) e here
  passed g h (Ok x ∷ xs) is running (next, given, more) none =
      let one = passed_one g next x is given in
      let rest = passed next h xs one.limit one.running more none in
      record {
        run = (next.lexemes.now, one.one, rest.run);
        limit = rest.limit;
        running = rest.running;
        listed = λ others.
            ap (λ o. limit_at (lexeme (terminal x.1) (from_to x.0 x.2)) o (λ t. limited_from n t (map lexeme_of xs ++ others))) one.counts
            ∙ ap (λ ls. lexeme_of (Ok x) ∷ ls) (rest.listed others);
      }
  passed g h (Err x ∷ xs) is running y none = absurd none

  -- ---- the last call

  module _ (m : ℕ) (g h u : DepthGuard Lexer) (xs : List CodeLexeme) (front : Passed g h xs) (from : Came m g.lexemes.now h.lexemes.now xs) where
    -- the lexemes of which the guard returned some, and what follows
    listed_with : (more : List (Result Lexeme LexerFault)) → lexemes_from from.room (lexer.state_of h.lexemes.now) ≡ more
        → limited_from n (state_of g.depth) (lexemes_from m (lexer.state_of g.lexemes.now)) ≡ map lexeme_of xs ++ limited_from n (state_of h.depth) more
    listed_with more is = ap (limited_from n (state_of g.depth)) (from.is ∙ ap (λ ls. map lexeme_of xs ++ ls) is) ∙ front.listed more

    -- the lexer returned a token that was counted, or not
    with_token : (x : ℕ × _ × ℕ) (o : Option State) → after_token n (state_of h.depth) (terminal x.1) ≡ o → gives h.lexemes.now (Some (Ok x)) u.lexemes.now
        → (more : List (Result Lexeme LexerFault)) × (limited_from n (state_of g.depth) (lexemes_from m (lexer.state_of g.lexemes.now))
        ≡ map lexeme_of xs ++ limit_at (lexeme (terminal x.1) (from_to x.0 x.2)) o (λ t. limited_from n t more))
    with_token x o is given =
        let (more, next) = next_is from.room h.lexemes.now u.lexemes.now (lexeme_of (Ok x)) from.enough (given_token (step
        (lexer.state_of h.lexemes.now)) (lexeme_of (Ok x)) (lexer.state_of u.lexemes.now) given.0) in (
          more,
          listed_with (lexeme_of (Ok x) ∷ more) next ∙ ap (λ o. map lexeme_of xs ++ limit_at (lexeme (terminal x.1) (from_to x.0 x.2)) o
              (λ t. limited_from n t more)) is,
        )

    Whole : Option CodeLexeme → Type 0
    Whole last = IsGivenOf (limited_from n (state_of g.depth) (lexemes_from m (lexer.state_of g.lexemes.now))) xs last

    -- the lexer returned an error
    with_error : (e : LexerError) → gives h.lexemes.now (Some (Err e)) u.lexemes.now → Whole (Some (Err e))
    unfolding Whole
    with_error e given =
        elim (refusal_is e.kind e (step (lexer.state_of h.lexemes.now)) (lexer.state_of u.lexemes.now) given.0) [
          | inl memory ↦ inr memory
          | inr is ↦
              let next = next_is from.room h.lexemes.now u.lexemes.now (Err (fault_of e)) from.enough is in
              inl ([], listed_with (Err (fault_of e) ∷ next.0) next.1)
        ]

    last_given : (last : Option CodeLexeme) → Last h u last → Whole last
    unfolding Whole Last
    last_given None given =
        inl ([], listed_with [] (lexemes-none from.room (lexer.state_of h.lexemes.now) given.0.0) ∙ append-nil (map lexeme_of xs))
    last_given (Some (Ok x)) (given, counted) =
        let counts = subst (λ k. after_token k (state_of h.depth) (terminal x.1) ≡ Some (state_of u.depth)) front.limit counted in
        let found = with_token x (Some (state_of u.depth)) counts given in
        inl (limited_from n (state_of u.depth) found.0, found.1)
    last_given (Some (Err e)) (inl given) = with_error e given
    last_given (Some (Err e)) (inr (x, given, why)) =
        elim why [
          | inl memory ↦ inr memory
          | inr deep ↦
              let none = subst (λ k. after_token k (state_of h.depth) (terminal x.1) ≡ None) front.limit deep.1 in
              let found = with_token x None none given in
              inl ([], found.1 ∙ ap (λ fault. map lexeme_of xs ++ Err fault ∷ []) (sym deep.0))
        ]

-- What calls of a guard of the lexer of a text have returned of the lexemes that nest no deeper than its limit.
pub guard_gives : (text : Text) (g u : DepthGuard Lexer) (xs : List CodeLexeme) (last : Option CodeLexeme) → Begins text g
    → YieldsThen (Gives gives) g xs last u → HasNoError xs
    → IsGivenOf (limited g.depth.limit (lexemes text)) xs last
unfolding lexemes Whole
guard_gives text g u xs last begins (h, run, given) none =
    let n = g.depth.limit in
    let front = passed n g h xs refl begins.running run none in
    let m = 2 + 2 * length text in
    let room : left (lexing.start text) < m = omega arith in
    let from = came m g.lexemes.now h.lexemes.now xs (subst (λ x. left x < m) (sym begins.lexer) room) front.run none in
    subst (λ s. IsGivenOf (limited_from n s (lexemes_from m (lexing.start text))) xs last) begins.counted
    (subst (λ x. IsGivenOf (limited_from n (state_of g.depth) (lexemes_from m x)) xs last) begins.lexer
    (last_given n m g h u xs front from last (last_of h u last front.running given)))
