-- Lines, indented by four spaces more for each block.
use Rattle.std.proofs.Common.{◌≡◌, ℕ, zero, suc, ◌+◌, ◌*◌, ◌<◌, ◌≤◌, true, false, cond, ◌==◌, nat_lt, List, [], ◌∷◌, ◌++◌, length, get_or, take, drop}
use Rattle.std.proofs.Common.{replicate, Some, None, unwrap_or, refl, sym, ap, ◌∙◌, arith, inl, inr, length-append}
use Rattle.std.proofs.lemmas.Bool.{cases_lt, cond-true, cond-false, le-ltb, lt-ltb, eq-eqb, ne_eqb, or_left, or_right}
use Rattle.std.proofs.lemmas.Bool.Decides.{nat_tests}
use Rattle.std.proofs.lemmas.List.{length-replicate}
use Rattle.std.proofs.lemmas.List.Folds.{list_any-append}
use Rattle.std.proofs.lemmas.List.Sums.{sum_by-cons}
use Rattle.std.proofs.Math.Seq.{take-append_seam, drop-append_seam}
use Rattle.std.specs.List.{list_any}
use Rattle.starlark_lexer.specs.declared.f_string.FString.{FString}
use Rattle.starlark_lexer.specs.Newlines.{first, newline_len}
use Rattle.starlark_lexer.specs.Classes.{is_whitespace}
use Rattle.starlark_lexer.specs.Cuts.{token}
use Rattle.starlark_lexer.specs.Lexing.{cut}
use Rattle.starlark_lexer.specs.Lines.{skip_len, whitespace_len, blank_lines_len, indentation}
use Rattle.starlark_lexer.specs.Openings.{prefix, opening}
use Rattle.starlark_lexer.specs.Tokens.{Text, Terminal, from_to, Newline, Indent, Dedent}
use Rattle.starlark_lexer.specs.Lexemes.{State, after, gives, innermost, without_innermost, level, is_level, indent, indent_step, filled_line_step, line_step}
use Rattle.starlark_lexer.specs.Lexemes.{text_or_line_step, token_step, plain_step, literal_or, take_cut, end_step, step}
use Rattle.starlark_lexer.proofs.LineLemmas.{blank_lines-none}
use Rattle.starlark_lexer.proofs.StepLemmas.{filled_line-indent}
use Rattle.starlark_lexer.proofs.TokenTexts.LexerStates.{Standing, levels_of, state, Lexes, At, as_another}
use Rattle.starlark_lexer.proofs.TokenTexts.LineTokens.{innermost-last, without-last, InLine, token_next, nothing_skipped, not_in_hole, Solid, solid_unbroken}

-- this many blocks are open, and a line begins
abbrev pub at_line : ℕ → Standing
at_line k = record { depth = 0; line_begins = true; blocks = k; frames = [] }

-- the same after the line has begun
abbrev pub in_line : ℕ → Standing
in_line k = record { depth = 0; line_begins = false; blocks = k; frames = [] }

pub line_goes_on : (k : ℕ) → InLine (in_line k)
line_goes_on k = record { goes_on = refl; deeper = tt }

-- ---- the end of a line

feed_opens : (rest : Text) → opening (10 ∷ rest) ≡ None
unfolding opening prefix
feed_opens rest = refl

feed_cut : (rest : Text) → cut (10 ∷ rest) ≡ token Newline 1
unfolding cut
feed_cut rest = refl

feed_given : (s : State) (rest : Text) → s.rest ≡ 10 ∷ rest → plain_step s ≡ take_cut s (token Newline 1)
unfolding plain_step
feed_given s rest is = ap (λ text. literal_or s (opening text)) is ∙ ap (literal_or s) (feed_opens rest) ∙ ap (λ text. take_cut s (cut text)) is
    ∙ ap (take_cut s) (feed_cut rest)

feed_kept : (rest : Text) → skip_len false false (10 ∷ rest) ≡ 0
unfolding skip_len
feed_kept rest = refl

pub line_ends : {k : ℕ} {rest : Text} {ts : List Terminal} → At (at_line k) rest ts → At (in_line k) (10 ∷ rest) (Newline ∷ ts)
line_ends {k = k} {rest = rest} {ts = ts} r = record { lexes = λ at fs are. go at fs are }
  where
    go : (at : ℕ) (fs : List FString) → fs ≡ [] → Lexes (Newline ∷ ts) (state at (10 ∷ rest) (in_line k) fs)
    go at fs are =
        let s = state at (10 ∷ rest) (in_line k) fs in (
          from_to (at + 0) (at + 0 + 1),
          state (at + 0 + 1) rest (at_line k) fs,
          token_next (in_line k) at (10 ∷ rest) fs (line_goes_on k) are
              ∙ ap (λ p. Some p) (nothing_skipped s (feed_kept rest) (omega arith) ∙ not_in_hole (after 0 s) refl refl ∙ feed_given (after 0 s) rest refl),
          omega arith,
          r.lexes (at + 0 + 1) fs are,
        )

-- ---- the front of a line

whitespace_before : (n : ℕ) (text : Text) → Solid text → whitespace_len (replicate n 32 ++ text) ≡ n
whitespace_before zero [] h = refl
whitespace_before zero (b ∷ bs) h = let gap = h.no_gap in let none : is_whitespace b ≡ false = grind (arith, nat_tests) in cond-false (is_whitespace b) _ 0 none
whitespace_before (suc n) text h = omega (arith, whitespace_before n text h)

spaces_count : (n : ℕ) → indentation (replicate n 32) ≡ n
spaces_count zero = refl
spaces_count (suc n) =
    omega (arith, spaces_count n, sum_by-cons (λ b. cond (b == 32) 1 0) 32 (replicate n 32), sum_by-cons (λ b. cond (b == 9) 1 0) 32 (replicate n 32))

after_spaces_is : (n : ℕ) (text : Text) → drop n (replicate n 32 ++ text) ≡ text
after_spaces_is n text = ap (λ m. drop m (replicate n 32 ++ text)) (sym (length-replicate n 32)) ∙ drop-append_seam (replicate n 32) text

spaces_taken : (n : ℕ) (text : Text) → take n (replicate n 32 ++ text) ≡ replicate n 32
spaces_taken n text = ap (λ m. take m (replicate n 32 ++ text)) (sym (length-replicate n 32)) ∙ take-append_seam (replicate n 32) text

no_blank_line : (n : ℕ) (text : Text) → Solid text → blank_lines_len (replicate n 32 ++ text) ≡ 0
no_blank_line n text h =
    blank_lines-none (replicate n 32 ++ text)
    (ap (λ m. newline_len (drop m (replicate n 32 ++ text))) (whitespace_before n text h) ∙ ap newline_len (after_spaces_is n text) ∙ solid_unbroken text h)

-- a line that begins with n spaces and this text, which is not a comment
pub record Filled (text : Text) : Type 0 where
  pub solid : Solid text
  pub no_comment : (first text == 35) ≡ false

line_at : (s : State) (k : ℕ) → blank_lines_len s.rest ≡ k → line_step s ≡ filled_line_step (after k s)
line_at s k is = ap (λ n. filled_line_step (after n s)) is

spaces_end : (n : ℕ) (text : Text) → get_or (replicate n 32 ++ text) n 0 ≡ first text
spaces_end zero text = refl
spaces_end (suc n) text = spaces_end n text

line_indented : (s : State) (n : ℕ) (text : Text) → s.rest ≡ replicate n 32 ++ text → Filled text → filled_line_step s ≡ indent_step s n n
line_indented s n text is h =
    let some = h.solid.some in
    let whitespace : n ≡ whitespace_len s.rest = sym (ap whitespace_len is ∙ whitespace_before n text h.solid) in
    let whole : length s.rest ≡ n + length text = ap length is ∙ length-append (replicate n 32) text ∙ ap (λ m. m + length text) (length-replicate n 32) in
    let no_comment : first text ≡ 35 → ⊥ = λ same. let other = h.no_comment in grind (arith, nat_tests) in
    filled_line-indent s n whitespace (λ same. omega arith) (λ same. no_comment (sym (spaces_end n text) ∙ ap (λ r. get_or r n 0) (sym is) ∙ same))
    ∙ ap (indent_step s n) (ap (λ r. indentation (take n r)) is ∙ ap indentation (spaces_taken n text) ∙ spaces_count n)

-- ---- the step where a line begins

line_next : (k at : ℕ) (rest : Text) (fs : List FString) → fs ≡ [] → step (state at rest (at_line k) fs) ≡ Some (line_step (state at rest (at_line k) fs))
unfolding step
line_next k at rest fs are = ap (λ gs. Some (text_or_line_step (state at rest (at_line k) fs) (innermost gs))) are

pub filled_next : (k at n : ℕ) (text : Text) (fs : List FString) → fs ≡ [] → Filled text
    → step (state at (replicate n 32 ++ text) (at_line k) fs) ≡ Some (indent_step (state (at + 0) (replicate n 32 ++ text) (at_line k) fs) n n)
filled_next k at n text fs are h =
    line_next k at (replicate n 32 ++ text) fs are
    ∙ ap (λ p. Some p) (line_at (state at (replicate n 32 ++ text) (at_line k) fs) 0 (no_blank_line n text h.solid)
    ∙ line_indented (state (at + 0) (replicate n 32 ++ text) (at_line k) fs) n text refl h)

pub level_is : (k : ℕ) → level (levels_of k) ≡ 4 * k
level_is zero = refl
level_is (suc k) = ap (λ o. unwrap_or o 0) (innermost-last (levels_of k) (4 * suc k))

pub same_level : (s : State) (n : ℕ) → level s.levels ≡ n → indent_step s n n ≡ token_step (record (after n s) { line_begins = false })
unfolding indent_step
same_level s n is =
    cond-false (nat_lt (level s.levels) n) _ _ (le-ltb (level s.levels) n (omega arith))
    ∙ cond-true (n == level s.levels) _ _ (eq-eqb n (level s.levels) (sym is))

-- a line of the same block
pub same_block : {k : ℕ} {text : Text} {ts : List Terminal} → Filled text → At (in_line k) text ts → At (at_line k) (replicate (4 * k) 32 ++ text) ts
same_block {k = k} {text = text} {ts = ts} h r = record { lexes = λ at fs are. go at fs are }
  where
    go : (at : ℕ) (fs : List FString) → fs ≡ [] → Lexes ts (state at (replicate (4 * k) 32 ++ text) (at_line k) fs)
    go at fs are =
        let s = state at (replicate (4 * k) 32 ++ text) (at_line k) fs in
        let t = state (at + 0 + 4 * k) text (in_line k) fs in
        as_another ts s t
        (filled_next k at (4 * k) text fs are h
        ∙ ap (λ p. Some p) (same_level (state (at + 0) (replicate (4 * k) 32 ++ text) (at_line k) fs) (4 * k) (level_is k)
        ∙ ap (λ r. token_step (state (at + 0 + 4 * k) r (in_line k) fs)) (after_spaces_is (4 * k) text))
        ∙ sym (token_next (in_line k) (at + 0 + 4 * k) text fs (line_goes_on k) are))
        (omega (arith, length-append (replicate (4 * k) 32) text)) (r.lexes (at + 0 + 4 * k) fs are)

-- ---- a block begins

further_in : (s : State) (n : ℕ) → level s.levels < n → indent_step s n n ≡ indent s n n
unfolding indent_step
further_in s n more = cond-true (nat_lt (level s.levels) n) _ _ (lt-ltb (level s.levels) n more)

pub block_begins : {k : ℕ} {text : Text} {ts : List Terminal} → Filled text → At (in_line (suc k)) text ts
    → At (at_line k) (replicate (4 * suc k) 32 ++ text) (Indent ∷ ts)
block_begins {k = k} {text = text} {ts = ts} h r = record { lexes = λ at fs are. go at fs are }
  where
    go : (at : ℕ) (fs : List FString) → fs ≡ [] → Lexes (Indent ∷ ts) (state at (replicate (4 * suc k) 32 ++ text) (at_line k) fs)
    go at fs are =
        let n = 4 * suc k in
        let s = state (at + 0) (replicate n 32 ++ text) (at_line k) fs in
        let low = level_is k in (
          from_to (at + 0) (at + 0 + n),
          state (at + 0 + n) text (in_line (suc k)) fs,
          filled_next k at n text fs are h
              ∙ ap (λ p. Some p) (further_in s n (omega arith) ∙ ap (λ rest. gives Indent n s (state (at + 0 + n) rest (in_line (suc k)) fs))
              (after_spaces_is n text)),
          omega (arith, length-append (levels_of k) (n ∷ []), length-append (replicate n 32) text, length-replicate {A = ℕ} n 32),
          r.lexes (at + 0 + n) fs are,
        )

-- ---- a block ends

has_level : (j k : ℕ) → j < k → list_any (λ l. l == 4 * suc j) (levels_of k) ≡ true
has_level j zero h = absurd (omega arith)
has_level j (suc k) h =
    list_any-append (λ l. l == 4 * suc j) (levels_of k) (4 * suc k ∷ [])
    ∙ elim (cases_lt j k) [
      | inl less ↦ or_left _ _ (has_level j k less)
      | inr last ↦ let same : j ≡ k = omega arith in
          or_right (list_any (λ l. l == 4 * suc j) (levels_of k)) _ (or_left _ false (eq-eqb (4 * suc k) (4 * suc j) (ap (λ i. 4 * suc i) (sym same))))
    ]

comes_back : (j k : ℕ) → j ≤ k → is_level (4 * j) (levels_of k) ≡ true
comes_back zero k h = refl
comes_back (suc j) k h = or_right (4 * suc j == 0) _ (has_level j k (omega arith))

further_out : (s : State) (n : ℕ) → n < level s.levels → is_level n s.levels ≡ true
    → indent_step s n n ≡ gives Dedent 0 s (record s { levels = without_innermost s.levels })
unfolding indent_step
further_out s n less back =
    cond-false (nat_lt (level s.levels) n) _ _ (le-ltb (level s.levels) n (omega arith))
    ∙ cond-false (n == level s.levels) _ _ (ne_eqb n (level s.levels) (λ same. omega arith)) ∙ cond-true (is_level n s.levels) _ _ back

-- a line that is indented less comes next
pub block_ends : {k : ℕ} {text : Text} {ts : List Terminal} (j : ℕ) → j ≤ k → Filled text → At (at_line k) (replicate (4 * j) 32 ++ text) ts
    → At (at_line (suc k)) (replicate (4 * j) 32 ++ text) (Dedent ∷ ts)
block_ends {k = k} {text = text} {ts = ts} j out h r = record { lexes = λ at fs are. go at fs are }
  where
    go : (at : ℕ) (fs : List FString) → fs ≡ [] → Lexes (Dedent ∷ ts) (state at (replicate (4 * j) 32 ++ text) (at_line (suc k)) fs)
    go at fs are =
        let rest = replicate (4 * j) 32 ++ text in
        let s = state (at + 0) rest (at_line (suc k)) fs in
        let low = level_is (suc k) in (
          from_to (at + 0) (at + 0 + 0),
          state (at + 0) rest (at_line k) fs,
          filled_next (suc k) at (4 * j) text fs are h
              ∙ ap (λ p. Some p) (further_out s (4 * j) (omega arith) (comes_back j (suc k) (omega arith))
              ∙ ap (λ levels. gives Dedent 0 s (record s { levels = levels })) (without-last (levels_of k) (4 * suc k))),
          omega (arith, length-append (levels_of k) (4 * suc k ∷ [])),
          r.lexes (at + 0) fs are,
        )

-- ---- the end of the text

abbrev over : ℕ → ℕ → List FString → State
over at k fs = record { at = at; rest = []; depth = 0; line_begins = true; levels = levels_of k; f_strings = fs; ended = true }

over_none : (at : ℕ) (fs : List FString) → step (over at zero fs) ≡ None
unfolding step
over_none at fs = refl

over_some : (at k : ℕ) (fs : List FString) → step (over at (suc k) fs) ≡ Some (gives Dedent 0 (over at (suc k) fs) (over at k fs))
unfolding step
over_some at k fs =
    ap (end_step (over at (suc k) fs)) (innermost-last (levels_of k) (4 * suc k))
    ∙ ap (λ levels. Some (gives Dedent 0 (over at (suc k) fs) (record (over at (suc k) fs) { levels = levels }))) (without-last (levels_of k) (4 * suc k))

dedents : (at k : ℕ) (fs : List FString) → Lexes (replicate k Dedent) (over at k fs)
dedents at zero fs = over_none at fs
dedents at (suc k) fs =
    (from_to at (at + 0), over at k fs, over_some at k fs, omega (arith, length-append (levels_of k) (4 * suc k ∷ [])), dedents at k fs)

end_given : (at k : ℕ) (fs : List FString) → filled_line_step (state at [] (at_line k) fs)
    ≡ gives Newline 0 (state (at + 0) [] (at_line k) fs) (over (at + 0) k fs)
unfolding filled_line_step
end_given at k fs = refl

no_lines : blank_lines_len [] ≡ 0
unfolding blank_lines_len
no_lines = refl

-- a Newline, and a Dedent for each block
pub text_ends : (k : ℕ) → At (at_line k) [] (Newline ∷ replicate k Dedent)
text_ends k = record { lexes = λ at fs are. go at fs are }
  where
    go : (at : ℕ) (fs : List FString) → fs ≡ [] → Lexes (Newline ∷ replicate k Dedent) (state at [] (at_line k) fs)
    go at fs are = (
      from_to (at + 0 + 0) (at + 0 + 0 + 0),
      over (at + 0 + 0) k fs,
      line_next k at [] fs are ∙ ap (λ p. Some p) (line_at (state at [] (at_line k) fs) 0 no_lines ∙ end_given (at + 0) k fs),
      omega arith,
      dedents (at + 0 + 0) k fs,
    )
