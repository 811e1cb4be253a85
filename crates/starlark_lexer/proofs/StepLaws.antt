-- What a step gives: a lexeme that lies in the text, and less that is left.
use Rattle.std.proofs.Common.{◌≡◌, ℕ, zero, suc, ◌+◌, ◌-◌, ◌*◌, ◌<◌, ◌≤◌, Bool, true, false, not, ◌&&◌, ◌||◌, ◌==◌, nat_lt, List, [], ◌∷◌, ◌++◌, length, get_or}
use Rattle.std.proofs.Common.{take, drop, Option, Some, None, unwrap_or, Result, Ok, Err, IsUtf8, subst, refl, sym, ap, ◌∙◌, arith, length-drop, length-append}
use Rattle.std.proofs.Common.{get_or-drop, eqb-true, ltb-true, ltb-false, inl, inr, zero-add}
use Rattle.std.proofs.lemmas.Bool.{true≢false, false≢true, eqb-false, cond_both, cases_Bool, cases_lt, and_parts, and_from}
use Rattle.std.proofs.lemmas.List.{drop-drop, length-take-le}
use Rattle.std.proofs.lemmas.List.Elements.{All-append, All-take}
use Rattle.std.proofs.lemmas.Option.{none-some, slice_get_cases}
use Rattle.std.proofs.lemmas.Str.{IsCharBoundary-start, IsCharBoundary-after_ascii, IsCharBoundary-from_rest, IsUtf8-drop}
use Rattle.std.specs.List.{All, slice_index}
use Rattle.std.specs.Str.{IsCharBoundary}
use Rattle.starlark_lexer.specs.declared.string.escape.Stop.{Stop}
use Rattle.starlark_lexer.specs.declared.string.escape.Stop.TheVariants.{Closed, Unfinished, Hole, LoneBrace, BadEscape}
use Rattle.starlark_lexer.specs.declared.f_string.FString.{FString}
use Rattle.starlark_lexer.specs.declared.string.opening.Style.{Style}
use Rattle.starlark_lexer.specs.declared.token.LexerErrorKind.{LexerErrorKind}
use Rattle.starlark_lexer.specs.declared.token.LexerErrorKind.TheVariants as kinds
use Rattle.starlark_lexer.specs.Newlines.{first, newline_len}
use Rattle.starlark_lexer.specs.Tokens.{Terminal, Dedent, Indent, FStringText, FStringEnd, FStringExprStart, FStringExprEnd, FStringBang, FStringStart, Newline}
use Rattle.starlark_lexer.specs.Tokens.{Lexeme, LexerFault}
use Rattle.starlark_lexer.specs.Cuts.{Cut, IsCutOf, IsSpelled, is_gap}
use Rattle.starlark_lexer.specs.Lines.{skip_len, whitespace_len, blank_lines_len, indentation}
use Rattle.starlark_lexer.specs.Lexing.{cut, comment_cut}
use Rattle.starlark_lexer.specs.OpenFStrings.{IsOpen}
use Rattle.starlark_lexer.specs.Openings.{opening, quotes_len}
use Rattle.starlark_lexer.specs.Strings.{run, stop_len, string_cut}
use Rattle.starlark_lexer.specs.Lexemes.{State, Step, after, gives, refuses, innermost, without_innermost, take_cut, take_what, opens, closes, bracket_depth}
use Rattle.starlark_lexer.specs.Lexemes.{floor, give_last_newline, f_string_quote, open_f_string, end_text, is_end, give_text, text_step, is_at_hole}
use Rattle.starlark_lexer.specs.Lexemes.{literal_or, plain_step, hole_step, front_step, token_step, level, is_level, indent, indent_step, filled_line_step}
use Rattle.starlark_lexer.specs.Lexemes.{line_step, line_or_token_step, text_or_line_step, left}
use Rattle.starlark_lexer.proofs.CutLaws.{comment_fits}
use Rattle.starlark_lexer.proofs.CutFits.{cut_fits}
use Rattle.starlark_lexer.proofs.FStringLemmas.{opening_some, opening_text, quotes_some, one_open}
use Rattle.starlark_lexer.proofs.LineLemmas.{whitespace_gap, IsCharBoundary-whitespace, blank_lines_gap, IsCharBoundary-blank_lines, skip_gap}
use Rattle.starlark_lexer.proofs.LineLemmas.{IsCharBoundary-skip_len}
use Rattle.starlark_lexer.proofs.StringFits.{string_fits, opening_ends}
use Rattle.starlark_lexer.proofs.StringRuns.{run_fits}

-- the rest is a text, and the f-strings were opened before it
pub record Valid (s : State) : Type 0 where
  pub utf8 : IsUtf8 s.rest
  pub opened : All (IsOpen s.at) s.f_strings
  pub shallow : s.depth ≤ s.at

-- what a state that has not ended has left
abbrev pub weight : State → ℕ
weight s = length s.levels + (1 + 2 * length s.rest)

-- A token after `skip` bytes that may be between lexemes. It has `len` bytes, and the state advances by `on` bytes.
pub record Placed (s : State) (l : Lexeme) (t : State) : Type 0 where
  pub skip : ℕ
  pub len : ℕ
  pub on : ℕ
  pub begin : l.span.begin ≡ s.at + skip
  pub end : l.span.end ≡ s.at + skip + len
  pub at : t.at ≡ s.at + on
  pub rest : t.rest ≡ drop on s.rest
  pub here : IsCharBoundary s.rest skip
  pub there : IsCharBoundary s.rest (skip + len)
  pub onward : IsCharBoundary s.rest on
  pub within : skip + len ≤ on
  pub before : (k : ℕ) → k < skip → is_gap (get_or s.rest k 0) ≡ true
  pub after : (k : ℕ) → skip + len ≤ k → k < on → is_gap (get_or s.rest k 0) ≡ true
  pub spelled : IsSpelled (take len (drop skip s.rest)) (Ok l.token)
  pub done : t.ended ≡ true → skip + len ≡ length s.rest
  pub opened : All (IsOpen t.at) t.f_strings
  pub shallow : t.depth ≤ t.at
  pub less : left t < weight s

-- an error ends the lexemes, inside the text
pub record Ends (s : State) (e : LexerFault) (t : State) : Type 0 where
  pub on : ℕ
  pub end : e.span.end ≡ s.at + on
  pub there : IsCharBoundary s.rest on
  pub ended : t.ended ≡ true
  pub levels : t.levels ≡ []

abbrev pub IsGood : State → Result Lexeme LexerFault → State → Type 0
IsGood s (Ok l) t = Placed s l t
IsGood s (Err e) t = Ends s e t

pub record Good (s : State) (p : Step) : Type 0 where
  pub good : IsGood s p.0 p.1

-- ---- small facts

left-le : (s : State) → left s ≤ weight s
left-le s = cond_both s.ended 0 (1 + 2 * length s.rest) (λ n. length s.levels + n ≤ weight s) (λ _. omega arith) (λ _. omega arith)

-- one byte fewer outweighs one level more
shrinks : (s t : State) (n : ℕ) → t.rest ≡ drop n s.rest → 0 < n → n ≤ length s.rest → length t.levels ≤ 1 + length s.levels → left t < weight s
shrinks s t n rest some within levels =
    let e : length t.rest ≡ length s.rest - n = ap length rest ∙ length-drop n s.rest in
    omega (arith, left-le t)

opened_on : (at later : ℕ) (fs : List FString) → at ≤ later → All (IsOpen at) fs → All (IsOpen later) fs
opened_on at later fs h all k d within =
    let o = all k d within in
    record { quoted = o.quoted; text = o.text; begin = let b = o.begin in omega arith; depth = let b = o.depth in omega arith }

innermost_get : (xs : List FString) (f : FString) → innermost xs ≡ Some f → (0 < length xs) × (get_or xs (length xs - 1) f ≡ f)
innermost_get xs f e =
    elim (slice_get_cases xs (length xs - 1)).1 [
      | inl (x, within, is, get) ↦ let same : x ≡ f = ap (λ o. unwrap_or o f) (sym is ∙ e) in
          (omega arith, subst (λ y. get_or xs (length xs - 1) y ≡ y) same get)
      | inr (past, none) ↦ absurd (none-some f (sym none ∙ e))
    ]

pub innermost_open : (at : ℕ) (xs : List FString) (f : FString) → All (IsOpen at) xs → innermost xs ≡ Some f → IsOpen at f
innermost_open at xs f all e =
    let (some, is) = innermost_get xs f e in
    subst (IsOpen at) is (all (length xs - 1) f (omega arith))

-- ---- the parts of steps

gap_on : (text : List ℕ) (from k n : ℕ) → ((j : ℕ) → from ≤ j → j < n → is_gap (get_or (drop k text) j 0) ≡ true) → (j : ℕ) → k + from ≤ j → j < k + n
    → is_gap (get_or text j 0) ≡ true
gap_on text from k n gap j above below =
    let e : k + (j - k) ≡ j = omega arith in let h = gap (j - k) (omega arith) (omega arith) in rw (get_or-drop k text (j - k) 0, e) at h

after_later : (s : State) (k : ℕ) (x : Result Lexeme LexerFault) (t : State) → IsCharBoundary s.rest k → ((j : ℕ) → j < k → is_gap (get_or s.rest j 0) ≡ true)
    → IsGood (after k s) x t → IsGood s x t
after_later s k (Ok l) t here gap h =
    let begin = h.begin in
    let end = h.end in
    let at = h.at in
    let within = h.within in
    let room = here.0 in
    let less = h.less in
    let left_over : length (drop k s.rest) ≡ length s.rest - k = length-drop k s.rest in
    record {
      skip = k + h.skip;
      len = h.len;
      on = k + h.on;
      begin = omega arith;
      end = omega arith;
      at = omega arith;
      rest = h.rest ∙ drop-drop h.on k s.rest;
      here = IsCharBoundary-from_rest s.rest k h.skip here.0 h.here;
      there = subst (IsCharBoundary s.rest) (omega arith) (IsCharBoundary-from_rest s.rest k (h.skip + h.len) here.0 h.there);
      onward = IsCharBoundary-from_rest s.rest k h.on here.0 h.onward;
      within = omega arith;
      before = λ j below. elim (cases_lt j k) [
        | inl early ↦ gap j early
        | inr late ↦ gap_on s.rest 0 k h.skip (λ i _ b. h.before i b) j (omega arith) below
      ];
      after = λ j above below. gap_on s.rest (h.skip + h.len) k h.on h.after j (omega arith) below;
      spelled = subst (λ r. IsSpelled (take h.len r) (Ok l.token)) (drop-drop h.skip k s.rest) h.spelled;
      done = λ e. let d = h.done e in omega arith;
      opened = h.opened;
      shallow = h.shallow;
      less = omega arith;
    }
after_later s k (Err e) t here gap h =
    let end = h.end in
    record { on = k + h.on; end = omega arith; there = IsCharBoundary-from_rest s.rest k h.on here.0 h.there; ended = h.ended; levels = h.levels }

-- what comes after bytes that may be between lexemes
after_good : (s : State) (k : ℕ) (p : Step) → IsCharBoundary s.rest k → ((j : ℕ) → j < k → is_gap (get_or s.rest j 0) ≡ true) → Good (after k s) p → Good s p
after_good s k p here gap h = record { good = after_later s k p.0 p.1 here gap h.good }

after_valid : (s : State) (k : ℕ) → Valid s → IsCharBoundary s.rest k → Valid (after k s)
after_valid s k valid here =
    let shallow = valid.shallow in
    record { utf8 = IsUtf8-drop s.rest k valid.utf8 here; opened = opened_on s.at (s.at + k) s.f_strings (omega arith) valid.opened; shallow = omega arith }

-- a token at the front
gives_good : (s t : State) (what : Terminal) (n : ℕ) → Valid s → IsCharBoundary s.rest n → IsSpelled (take n s.rest) (Ok what) → t.at ≡ s.at + n
    → t.rest ≡ drop n s.rest
    → (t.ended ≡ true → n ≡ length s.rest) → All (IsOpen t.at) t.f_strings → t.depth ≤ t.at → left t < weight s → Good s (gives what n s t)
gives_good s t what n valid there spelled at rest done opened shallow less = record {
  good = record {
    skip = 0;
    len = n;
    on = n;
    begin = omega arith;
    end = omega arith;
    at = at;
    rest = rest;
    here = IsCharBoundary-start s.rest valid.utf8;
    there = rw zero-add there;
    onward = there;
    within = omega arith;
    before = λ k h. absurd (omega arith);
    after = λ k h l. absurd (omega arith);
    spelled = spelled;
    done = λ e. let d = done e in omega arith;
    opened = opened;
    shallow = shallow;
    less = less;
  };
}

refuses_good : (s : State) (kind : LexerErrorKind) (begin n : ℕ) → IsCharBoundary s.rest n → Good s (refuses kind begin (s.at + n) s)
refuses_good s kind begin n there = record { good = record { on = n; end = refl; there = there; ended = refl; levels = refl } }

last_newline_good : (s : State) → Valid s → length s.rest ≡ 0 → Good s (give_last_newline s)
last_newline_good s valid none =
    gives_good s (record s { ended = true }) Newline 0 valid (IsCharBoundary-start s.rest valid.utf8) tt (omega arith) refl (λ _. sym none) valid.opened
    valid.shallow (omega arith)

depth_more : (low b depth : ℕ) → bracket_depth low b depth ≤ depth + 1
depth_more low b depth =
    let P : ℕ → Type 0 = λ n. n ≤ depth + 1 in
    cond_both (opens b) (depth + 1) _ P (λ _. omega arith) (λ _. cond_both (closes b && nat_lt low depth) (depth - 1) depth P (λ _. omega arith)
    (λ _. omega arith))

-- the state after what was cut off
abbrev after_cut : State → Cut → State
after_cut s c =
    record (after c.taken s) {
      depth = bracket_depth (floor (innermost s.f_strings)) (first s.rest) s.depth;
      line_begins = s.line_begins || nat_lt 0 (newline_len s.rest);
    }

-- what was cut off from the front
take_what_good : (s : State) (c : Cut) (what : Result Terminal LexerErrorKind) → Valid s → s.ended ≡ false → IsCutOf s.rest c → what ≡ c.what
    → Good s (take_what s c what)
take_what_good s c (Ok what) valid live fits is =
    let front : c.begin ≡ 0 = let f = fits.front in rw (← is) at f in
    let some = fits.some in
    let within = fits.within in
    let len : c.begin + c.len ≡ c.len = omega arith in
    let end : IsCharBoundary s.rest c.len = rw (← len) fits.end in
    let shallow = valid.shallow in
    let deep = depth_more (floor (innermost s.f_strings)) (first s.rest) s.depth in
    let room = fits.taken in
    record {
      good = record {
        skip = 0;
        len = c.len;
        on = c.taken;
        begin = omega arith;
        end = omega arith;
        at = refl;
        rest = refl;
        here = IsCharBoundary-start s.rest valid.utf8;
        there = rw zero-add end;
        onward = fits.taken;
        within = omega arith;
        before = λ k h. absurd (omega arith);
        after = λ k h l. fits.gap k (omega arith) l;
        spelled = subst (λ w. IsSpelled (take c.len s.rest) w) (sym is) fits.spelled;
        done = λ e. absurd (false≢true (sym live ∙ e));
        opened = opened_on s.at (s.at + c.taken) s.f_strings (omega arith) valid.opened;
        shallow = omega arith;
        less = shrinks s (after_cut s c) c.taken refl (omega arith) room.0 (omega arith);
      };
    }
take_what_good s c (Err kind) valid live fits is =
    subst (λ e. Good s (refuses kind (s.at + c.begin) e s)) (omega arith) (refuses_good s kind (s.at + c.begin) (c.begin + c.len) fits.end)

take_cut_good : (s : State) (c : Cut) → Valid s → s.ended ≡ false → IsCutOf s.rest c → Good s (take_cut s c)
take_cut_good s c valid live fits = take_what_good s c c.what valid live fits refl

-- a token of some bytes at the front that does not change the levels
some_good : (s t : State) (what : Terminal) (n : ℕ) → Valid s → s.ended ≡ false → 0 < n → IsCharBoundary s.rest n → IsSpelled (take n s.rest) (Ok what)
    → t.at ≡ s.at + n
    → t.rest ≡ drop n s.rest → t.ended ≡ s.ended → t.levels ≡ s.levels → All (IsOpen t.at) t.f_strings → t.depth ≤ t.at → Good s (gives what n s t)
some_good s t what n valid live some there spelled at rest same levels opened shallow =
    gives_good s t what n valid there spelled at rest (λ e. absurd (false≢true (sym live ∙ sym same ∙ e))) opened shallow
    (shrinks s t n rest some there.0 (let k = ap length levels in omega arith))

on_open : (s : State) (n : ℕ) → Valid s → All (IsOpen (s.at + n)) s.f_strings
on_open s n valid = opened_on s.at (s.at + n) s.f_strings (omega arith) valid.opened

-- ---- f-strings

open_good : (s : State) (style : Style) (n : ℕ) → Valid s → s.ended ≡ false → opening s.rest ≡ Some (style, n) → style.format ≡ true
    → Good s (open_f_string style n s)
open_good s style n valid live opens format =
    let fits = opening_ends style n s.rest valid.utf8 opens in
    let shallow = valid.shallow in
    let here : IsOpen (s.at + n) (record { style = style; begin = s.at; depth = s.depth }) =
    record { quoted = fits.0; text = opening_text s.rest style n opens format; begin = omega arith; depth = omega arith } in
    some_good s _ (FStringStart (f_string_quote style)) n valid live (opening_some s.rest style n opens) fits.2 tt refl refl refl refl
    (All-append (IsOpen (s.at + n)) s.f_strings _ (on_open s n valid) (one_open (s.at + n) _ here)) (omega arith)

end_text_good : (s : State) (f : FString) (len : ℕ) (stop : Stop) → Valid s → s.ended ≡ false → IsOpen s.at f → (is_end stop ≡ true → len ≡ 0)
    → IsCharBoundary s.rest len → IsCharBoundary s.rest (len + stop_len f.style stop) → Good s (end_text f s len stop)
end_text_good s f len Closed valid live held none begin end =
    let n = quotes_len f.style.triple in
    let zero_len : len ≡ 0 = none refl in
    let there : IsCharBoundary s.rest n = subst (IsCharBoundary s.rest) (omega arith) end in
    let shallow = valid.shallow in
    some_good s _ FStringEnd n valid live (quotes_some f.style.triple) there tt refl refl refl refl
    (All-take (IsOpen (s.at + n)) (length s.f_strings - 1) s.f_strings (on_open s n valid)) (omega arith)
end_text_good s f len Hole valid live held none begin end =
    let zero_len : len ≡ 0 = none refl in
    let there : IsCharBoundary s.rest 1 = subst (IsCharBoundary s.rest) (omega arith) end in
    let shallow = valid.shallow in
    some_good s _ FStringExprStart 1 valid live (omega arith) there tt refl refl refl refl (on_open s 1 valid) (omega arith)
end_text_good s f len LoneBrace valid live held none begin end =
    subst (λ e. Good s (refuses kinds.InvalidFString (s.at + len) e s)) (omega arith) (refuses_good s kinds.InvalidFString (s.at + len) (len + 1) end)
end_text_good s f len Unfinished valid live held none begin end = refuses_good s kinds.UnfinishedString f.begin len begin
end_text_good s f len (BadEscape n) valid live held none begin end =
    subst (λ e. Good s (refuses kinds.InvalidEscape (s.at + len) e s)) (omega arith) (refuses_good s kinds.InvalidEscape (s.at + len) (len + n) end)

no_text : (len : ℕ) (end : Bool) → (nat_lt 0 len && end) ≡ false → end ≡ true → len ≡ 0
no_text len end off on =
    elim (cases_Bool (nat_lt 0 len)) [
      | inl some ↦ absurd (true≢false (sym (and_from (nat_lt 0 len) end some on) ∙ off))
      | inr none ↦ let h = ltb-false 0 len none in omega arith
    ]

text_good : (s : State) (f : FString) → Valid s → s.ended ≡ false → IsOpen s.at f → Good s (text_step f s)
unfolding text_step
text_good s f valid live held =
    let r = run f.style s.rest in
    let fits = run_fits f.style s.rest valid.utf8 held.quoted in
    let shallow = valid.shallow in
    cond_both (nat_lt 0 r.len && is_end r.stop) (give_text f.style s) (end_text f s r.len r.stop) (Good s)
    (λ t. some_good s _ (FStringText r.value) r.len valid live (ltb-true 0 r.len (and_parts _ _ t).0) fits.begin tt refl refl refl refl (on_open s r.len valid)
    (omega arith))
    (λ t. end_text_good s f r.len r.stop valid live held (no_text r.len (is_end r.stop) t) fits.begin fits.end)

-- ---- tokens

plain_good : (s : State) → Valid s → s.ended ≡ false → 0 < length s.rest → Good s (plain_step s)
unfolding plain_step
plain_good s valid live some = literal_good s (opening s.rest) valid live some refl
  where
    literal_good : (s : State) (o : Option (Style × ℕ)) → Valid s → s.ended ≡ false → 0 < length s.rest → opening s.rest ≡ o → Good s (literal_or s o)
    literal_good s None valid live some e = take_cut_good s (cut s.rest) valid live (cut_fits s.rest valid.utf8 some)
    literal_good s (Some (style, n)) valid live some e =
        cond_both style.format (open_f_string style n s) (take_cut s (string_cut style n s.rest)) (Good s)
        (open_good s style n valid live e) (λ _. take_cut_good s (string_cut style n s.rest) valid live (string_fits style n s.rest valid.utf8 e))

hole_good : (s : State) → Valid s → s.ended ≡ false → 0 < length s.rest → Good s (hole_step s)
unfolding hole_step
hole_good s valid live some =
    let shallow = valid.shallow in
    cond_both (first s.rest == 125) _ _ (Good s)
    (λ t. let b : get_or s.rest 0 0 ≡ 125 = eqb-true (first s.rest) 125 t in
    some_good s (record (after 1 s) { depth = s.depth - 1 }) FStringExprEnd 1 valid live (omega arith)
    (IsCharBoundary-after_ascii s.rest 0 valid.utf8 some (omega arith)) tt refl refl refl refl (on_open s 1 valid) (omega arith))
    (λ _. cond_both (first s.rest == 33 && not (slice_index s.rest 1 == 61)) _ _ (Good s)
    (λ t. let b : get_or s.rest 0 0 ≡ 33 = eqb-true (first s.rest) 33 (and_parts _ _ t).0 in
    some_good s (after 1 s) FStringBang 1 valid live (omega arith) (IsCharBoundary-after_ascii s.rest 0 valid.utf8 some (omega arith)) tt refl refl refl refl
    (on_open s 1 valid) (omega arith))
    (λ _. plain_good s valid live some))

front_good : (s : State) → Valid s → s.ended ≡ false → 0 < length s.rest → Good s (front_step s)
unfolding front_step
front_good s valid live some =
    cond_both (is_at_hole s.depth (innermost s.f_strings)) (hole_step s) (plain_step s) (Good s) (λ _. hole_good s valid live some)
    (λ _. plain_good s valid live some)

some_left : (n : ℕ) → (n == 0) ≡ false → 0 < n
some_left n e = let h = eqb-false n 0 e in omega arith

token_good : (s : State) → Valid s → s.ended ≡ false → Good s (token_step s)
unfolding token_step
token_good s valid live =
    let n = skip_len (nat_lt 0 s.depth) false s.rest in
    let t = after n s in
    let here = IsCharBoundary-skip_len (nat_lt 0 s.depth) s.rest valid.utf8 in
    let there = after_valid s n valid here in
    after_good s n _ here (skip_gap (nat_lt 0 s.depth) false s.rest)
    (cond_both (length t.rest == 0) (give_last_newline t) (front_step t) (Good t) (λ e. last_newline_good t there (eqb-true _ _ e))
    (λ e. front_good t there live (some_left _ e)))

-- ---- lines

level_some : (levels : List ℕ) → 0 < level levels → 0 < length levels
level_some [] h = absurd (omega arith)
level_some (l ∷ ls) h = omega arith

-- whether a line begins makes no difference
relabel : (s : State) (begins : Bool) (x : Result Lexeme LexerFault) (t : State) → IsGood (record s { line_begins = begins }) x t → IsGood s x t
relabel s begins (Ok l) t h = record {
  skip = h.skip;
  len = h.len;
  on = h.on;
  begin = h.begin;
  end = h.end;
  at = h.at;
  rest = h.rest;
  here = h.here;
  there = h.there;
  onward = h.onward;
  within = h.within;
  before = h.before;
  after = h.after;
  spelled = h.spelled;
  done = h.done;
  opened = h.opened;
  shallow = h.shallow;
  less = h.less;
}
relabel s begins (Err e) t h = record { on = h.on; end = h.end; there = h.there; ended = h.ended; levels = h.levels }

in_line_good : (s : State) (p : Step) → Good (record s { line_begins = false }) p → Good s p
in_line_good s p h = record { good = relabel s false p.0 p.1 h.good }

indentation_some : (n : ℕ) (text : List ℕ) → 0 < indentation (take n text) → 0 < n
indentation_some zero text h = absurd (omega arith)
indentation_some (suc n) text h = omega arith

dedent_good : (s : State) → Valid s → s.ended ≡ false → 0 < length s.levels → Good s (gives Dedent 0 s (record s { levels = without_innermost s.levels }))
dedent_good s valid live some =
    let t = record s { levels = without_innermost s.levels } in
    let fewer : length (take (length s.levels - 1) s.levels) ≡ length s.levels - 1 = length-take-le (length s.levels - 1) s.levels (omega arith) in
    let bound : left t ≤ length (take (length s.levels - 1) s.levels) + (1 + 2 * length s.rest) = left-le t in
    gives_good s t Dedent 0 valid (IsCharBoundary-start s.rest valid.utf8) tt (omega arith) refl (λ e. absurd (false≢true (sym live ∙ e))) valid.opened
    valid.shallow (omega arith)

deeper_good : (s : State) (n : ℕ) → Valid s → s.ended ≡ false → 0 < whitespace_len s.rest → Good s (indent s (whitespace_len s.rest) n)
deeper_good s n valid live some =
    let whitespace = whitespace_len s.rest in
    let here = IsCharBoundary-whitespace s.rest valid.utf8 in
    let shallow = valid.shallow in
    let t = record (after whitespace s) { line_begins = false; levels = s.levels ++ n ∷ [] } in
    let more : length (s.levels ++ n ∷ []) ≡ length s.levels + 1 = length-append s.levels (n ∷ []) in
    gives_good s t Indent whitespace valid here tt refl refl (λ e. absurd (false≢true (sym live ∙ e))) (on_open s whitespace valid) (omega arith)
    (shrinks s t whitespace refl some here.0 (omega arith))

indent_good : (s : State) (n : ℕ) → Valid s → s.ended ≡ false → n ≡ indentation (take (whitespace_len s.rest) s.rest)
    → Good s (indent_step s (whitespace_len s.rest) n)
unfolding indent_step
indent_good s n valid live is =
    let whitespace = whitespace_len s.rest in
    let here = IsCharBoundary-whitespace s.rest valid.utf8 in
    cond_both (nat_lt (level s.levels) n) (indent s whitespace n) _ (Good s)
    (λ t. let h = ltb-true (level s.levels) n t in
    let some : 0 < indentation (take whitespace s.rest) = omega arith in deeper_good s n valid live (indentation_some whitespace s.rest some))
    (λ low. cond_both (n == level s.levels) (token_step (record (after whitespace s) { line_begins = false })) _ (Good s)
    (λ _. let there = after_valid s whitespace valid here in
    after_good s whitespace _ here (whitespace_gap s.rest)
    (in_line_good (after whitespace s) _ (token_good (record (after whitespace s) { line_begins = false }) (record {
      utf8 = there.utf8;
      opened = there.opened;
      shallow = there.shallow;
    }) live)))
    (λ other. cond_both (is_level n s.levels) (gives Dedent 0 s (record s { levels = without_innermost s.levels }))
    (refuses kinds.Indentation s.at (s.at + whitespace) s) (Good s)
    (λ _. let h = ltb-false (level s.levels) n low in
    let k = eqb-false n (level s.levels) other in
    dedent_good s valid live (level_some s.levels (less_level n (level s.levels) h k)))
    (λ _. refuses_good s kinds.Indentation s.at whitespace here)))
  where
    less_level : (n m : ℕ) → n ≤ m → (n ≡ m → ⊥) → 0 < m
    less_level n m h k = omega arith

filled_line_good : (s : State) → Valid s → s.ended ≡ false → Good s (filled_line_step s)
unfolding filled_line_step
filled_line_good s valid live =
    let n = whitespace_len s.rest in
    let t = after n s in
    let here = IsCharBoundary-whitespace s.rest valid.utf8 in
    let there = after_valid s n valid here in
    cond_both (n == length s.rest) (give_last_newline t) _ (Good s)
    (λ e. let whole = eqb-true n (length s.rest) e in
    after_good s n _ here (whitespace_gap s.rest) (last_newline_good t there (omega (arith, length-drop n s.rest))))
    (λ _. cond_both (slice_index s.rest n == 35) (take_cut t (comment_cut t.rest)) (indent_step s n (indentation (take n s.rest))) (Good s)
    (λ e. let hash : get_or (drop n s.rest) 0 0 ≡ 35 = get_or-drop n s.rest 0 0 ∙ ap (λ k. get_or s.rest k 0) (omega arith)
    ∙ eqb-true (slice_index s.rest n) 35 e in
    after_good s n _ here (whitespace_gap s.rest) (take_cut_good t (comment_cut t.rest) there live (comment_fits t.rest there.utf8 hash)))
    (λ _. indent_good s (indentation (take n s.rest)) valid live refl))

line_good : (s : State) → Valid s → s.ended ≡ false → Good s (line_step s)
line_good s valid live =
    let here = IsCharBoundary-blank_lines s.rest valid.utf8 in
    after_good s (blank_lines_len s.rest) _ here (blank_lines_gap s.rest) (filled_line_good (after (blank_lines_len s.rest) s) (after_valid s _ valid here)
    live)

-- ---- one step

line_or_token_good : (s : State) → Valid s → s.ended ≡ false → Good s (line_or_token_step s)
line_or_token_good s valid live = cond_both s.line_begins (line_step s) (token_step s) (Good s) (λ _. line_good s valid live) (λ _. token_good s valid live)

text_or_line_good : (s : State) (o : Option FString) → Valid s → s.ended ≡ false → innermost s.f_strings ≡ o → Good s (text_or_line_step s o)
text_or_line_good s None valid live e = line_or_token_good s valid live
text_or_line_good s (Some f) valid live e =
    cond_both (s.depth == f.depth) (text_step f s) (line_or_token_step s) (Good s)
    (λ _. text_good s f valid live (innermost_open s.at s.f_strings f valid.opened e)) (λ _. line_or_token_good s valid live)

pub step_good : (s : State) → Valid s → s.ended ≡ false → Good s (text_or_line_step s (innermost s.f_strings))
step_good s valid live = text_or_line_good s (innermost s.f_strings) valid live refl
