-- F-strings between quotation marks.
use Rattle.std.proofs.Common.{◌≡◌, ℕ, ◌+◌, ◌-◌, ◌<◌, ◌≤◌, Bool, true, false, not, cond, ◌&&◌, ◌==◌, nat_lt, List, [], ◌∷◌, ◌++◌, length, get_or, drop, Some}
use Rattle.std.proofs.Common.{refl, sym, ap, ◌∙◌, subst, arith, length-append, length-drop}
use Rattle.std.proofs.lemmas.Bool.{cond-true, cond-false, lt-ltb, eq-eqb, and_from}
use Rattle.std.proofs.Math.Seq.{drop-append-add}
use Rattle.starlark_lexer.specs.declared.f_string.FString.{FString}
use Rattle.starlark_lexer.specs.declared.string.escape.Stop.{Stop}
use Rattle.starlark_lexer.specs.declared.string.escape.Stop.TheVariants.{Closed, Hole}
use Rattle.starlark_lexer.specs.declared.string.opening.Style.{Style}
use Rattle.starlark_lexer.specs.declared.token.FStringQuote.TheVariants.{Double}
use Rattle.starlark_lexer.specs.Newlines.{first}
use Rattle.starlark_lexer.specs.Openings.{opening, quotes_len}
use Rattle.starlark_lexer.specs.Strings.{run}
use Rattle.starlark_lexer.specs.Tokens.{Text, Terminal, from_to, FStringStart, FStringText, FStringExprStart, FStringBang, FStringExprEnd, FStringEnd}
use Rattle.starlark_lexer.specs.Lexemes.{State, after, gives, innermost, without_innermost, open_f_string, end_text, is_end, text_step, text_or_line_step}
use Rattle.starlark_lexer.specs.Lexemes.{is_at_hole, literal_or, plain_step, hole_step, front_step, step}
use Rattle.starlark_lexer.proofs.TokenTexts.StringPieces.{RunsTo, run_of, run_is}
use Rattle.starlark_lexer.proofs.TokenTexts.StringBytes.{marks, Spells, itself, by_letter, by_digits, doubled, spelled_first, closes_run, hole_stops_run}
use Rattle.starlark_lexer.proofs.TokenTexts.Literals.{is_triple, format_opens}
use Rattle.starlark_lexer.proofs.TokenTexts.LexerStates.{Standing, AreOpen, state, Lexes, At}
use Rattle.starlark_lexer.proofs.TokenTexts.LineTokens.{innermost-last, without-last, InLine, token_next, nothing_skipped, not_in_hole, Solid, skip_none}

-- ---- where an f-string begins

-- one f-string more is open
abbrev pub in_f_string : Standing → Standing
in_f_string c = record c { frames = c.depth ∷ c.frames }

format_given : (s : State) (inside : Text) → s.rest ≡ 102 ∷ 34 ∷ inside → is_triple inside ≡ false → plain_step s ≡ open_f_string (marks false true) 2 s
unfolding plain_step
format_given s inside is once = ap (λ text. literal_or s (opening text)) is ∙ ap (literal_or s) (format_opens inside once)

f_string_solid : (inside : Text) → Solid (102 ∷ 34 ∷ inside)
f_string_solid inside = record { some = omega arith; no_gap = refl }

pub f_string_begins : {c : Standing} {inside : Text} {ts : List Terminal} → InLine c → is_triple inside ≡ false → At (in_f_string c) inside ts
    → At c (102 ∷ 34 ∷ inside) (FStringStart Double ∷ ts)
f_string_begins {c = c} {inside = inside} {ts = ts} line once r = record { lexes = λ at fs are. go at fs are }
  where
    go : (at : ℕ) (fs : List FString) → AreOpen c.frames fs → Lexes (FStringStart Double ∷ ts) (state at (102 ∷ 34 ∷ inside) c fs)
    go at fs are =
        let s = state at (102 ∷ 34 ∷ inside) c fs in
        let f : FString = record { style = marks false true; begin = at + 0; depth = c.depth } in
        let solid = f_string_solid inside in (
          from_to (at + 0) (at + 0 + 2),
          state (at + 0 + 2) inside (in_f_string c) (fs ++ f ∷ []),
          token_next c at (102 ∷ 34 ∷ inside) fs line are
              ∙ ap (λ p. Some p) (nothing_skipped s (skip_none (nat_lt 0 c.depth) (102 ∷ 34 ∷ inside) solid) (omega arith)
              ∙ not_in_hole (after 0 s) refl refl ∙ format_given (after 0 s) inside refl once),
          omega arith,
          r.lexes (at + 0 + 2) (fs ++ f ∷ []) (f, fs, refl, refl, refl, are),
        )

-- ---- its text

text_turn : (f : FString) (s : State) (value : Text) (len : ℕ) (stop : Stop) → run f.style s.rest ≡ run_of value len stop
    → text_step f s ≡ cond (nat_lt 0 len && is_end stop) (gives (FStringText value) len s (after len s)) (end_text f s len stop)
unfolding text_step
text_turn f s value len stop is = rw is refl

in_text : (s : State) (f : FString) (more : List FString) → s.f_strings ≡ more ++ f ∷ [] → f.depth ≡ s.depth
    → text_or_line_step s (innermost s.f_strings) ≡ text_step f s
in_text s f more are here =
    ap (λ fs. text_or_line_step s (innermost fs)) are ∙ ap (text_or_line_step s) (innermost-last more f)
    ∙ cond-true (s.depth == f.depth) _ _ (eq-eqb s.depth f.depth (sym here))

-- the text of an f-string comes next
text_next : (c : Standing) (at : ℕ) (rest value : Text) (len : ℕ) (stop : Stop) (fs : List FString) (f : FString) (more : List FString) → fs ≡ more ++ f ∷ []
    → f.style ≡ marks false true → f.depth ≡ c.depth → RunsTo (marks false true) rest value len stop
    → step (state at rest c fs)
    ≡ Some (cond (nat_lt 0 len && is_end stop) (gives (FStringText value) len (state at rest c fs) (after len (state at rest c fs)))
    (end_text f (state at rest c fs) len stop))
unfolding step
text_next c at rest value len stop fs f more are style here r =
    ap (λ p. Some p) (in_text (state at rest c fs) f more are here
    ∙ text_turn f (state at rest c fs) value len stop (ap (λ st. run st rest) style ∙ run_is r))

-- the closing quotation mark
pub f_string_ends : {c : Standing} {rest : Text} {ts : List Terminal} → At c rest ts → At (in_f_string c) (34 ∷ rest) (FStringEnd ∷ ts)
f_string_ends {c = c} {rest = rest} {ts = ts} r = record { lexes = λ at fs are. go at fs are }
  where
    go : (at : ℕ) (fs : List FString) → AreOpen (c.depth ∷ c.frames) fs → Lexes (FStringEnd ∷ ts) (state at (34 ∷ rest) (in_f_string c) fs)
    go at fs (f, more, are, style, here, others) =
        let s = state at (34 ∷ rest) (in_f_string c) fs in
        let len : quotes_len f.style.triple ≡ 1 = ap (λ (st : Style). quotes_len st.triple) style in (
          from_to at (at + 1),
          state (at + 1) rest c more,
          text_next (in_f_string c) at (34 ∷ rest) [] 0 Closed fs f more are style here (closes_run false true rest)
              ∙ ap (λ n. Some (gives FStringEnd n s (record (after n s) { f_strings = without_innermost fs }))) len
              ∙ ap (λ gs. Some (gives FStringEnd 1 s (record (after 1 s) { f_strings = gs }))) (ap (λ gs. without_innermost gs) are ∙ without-last more f),
          omega arith,
          r.lexes (at + 1) more others,
        )

-- ---- its holes

abbrev pub in_hole : Standing → Standing
in_hole c = record c { depth = c.depth + 1; frames = c.depth ∷ c.frames }

pub hole_begins : {c : Standing} {rest : Text} {ts : List Terminal} → (first rest == 123) ≡ false → At (in_hole c) rest ts
    → At (in_f_string c) (123 ∷ rest) (FStringExprStart ∷ ts)
hole_begins {c = c} {rest = rest} {ts = ts} other r = record { lexes = λ at fs are. go at fs are }
  where
    go : (at : ℕ) (fs : List FString) → AreOpen (c.depth ∷ c.frames) fs → Lexes (FStringExprStart ∷ ts) (state at (123 ∷ rest) (in_f_string c) fs)
    go at fs (f, more, are, style, here, others) = (
      from_to at (at + 1),
      state (at + 1) rest (in_hole c) fs,
      text_next (in_f_string c) at (123 ∷ rest) [] 0 Hole fs f more are style here (hole_stops_run false rest other),
      omega arith,
      r.lexes (at + 1) fs (f, more, are, style, here, others),
    )

at_hole : (s : State) (f : FString) (more : List FString) (d : ℕ) → s.f_strings ≡ more ++ f ∷ [] → f.depth ≡ d → s.depth ≡ d + 1 → front_step s ≡ hole_step s
unfolding front_step
at_hole s f more d are here deep =
    cond-true (is_at_hole s.depth (innermost s.f_strings)) _ _
    (ap (λ gs. is_at_hole s.depth (innermost gs)) are ∙ ap (is_at_hole s.depth) (innermost-last more f)
    ∙ eq-eqb s.depth (f.depth + 1) (deep ∙ ap (λ n. n + 1) (sym here)))

hole_end : (s : State) → (first s.rest == 125) ≡ true → hole_step s ≡ gives FStringExprEnd 1 s (record (after 1 s) { depth = s.depth - 1 })
unfolding hole_step
hole_end s is = cond-true _ _ _ is

hole_bang : (s : State) → (first s.rest == 125) ≡ false → (first s.rest == 33 && not (get_or s.rest 1 0 == 61)) ≡ true
    → hole_step s ≡ gives FStringBang 1 s (after 1 s)
unfolding hole_step
hole_bang s closing is = cond-false _ _ _ closing ∙ cond-true _ _ _ is

pub hole_line : (c : Standing) → c.line_begins ≡ false → InLine (in_hole c)
hole_line c goes_on = record { goes_on = goes_on; deeper = omega arith }

pub hole_ends : {c : Standing} {rest : Text} {ts : List Terminal} → c.line_begins ≡ false → At (in_f_string c) rest ts
    → At (in_hole c) (125 ∷ rest) (FStringExprEnd ∷ ts)
hole_ends {c = c} {rest = rest} {ts = ts} goes_on r = record { lexes = λ at fs are. go at fs are }
  where
    go : (at : ℕ) (fs : List FString) → AreOpen (c.depth ∷ c.frames) fs → Lexes (FStringExprEnd ∷ ts) (state at (125 ∷ rest) (in_hole c) fs)
    go at fs (f, more, are, style, here, others) =
        let s = state at (125 ∷ rest) (in_hole c) fs in
        let solid : Solid (125 ∷ rest) = record { some = omega arith; no_gap = refl } in
        let deep : c.depth + 1 - 1 ≡ c.depth = omega arith in (
          from_to (at + 0) (at + 0 + 1),
          state (at + 0 + 1) rest (in_f_string c) fs,
          token_next (in_hole c) at (125 ∷ rest) fs (hole_line c goes_on) (f, more, are, style, here, others)
              ∙ ap (λ p. Some p) (nothing_skipped s (skip_none (nat_lt 0 (c.depth + 1)) (125 ∷ rest) solid) (omega arith)
              ∙ at_hole (after 0 s) f more c.depth are here refl ∙ hole_end (after 0 s) refl)
              ∙ ap (λ d. Some (gives FStringExprEnd 1 (after 0 s) (record (after 1 (after 0 s)) { depth = d }))) deep,
          omega arith,
          r.lexes (at + 0 + 1) fs (f, more, are, style, here, others),
        )

pub conversion_begins : {c : Standing} {rest : Text} {ts : List Terminal} → c.line_begins ≡ false → (first rest == 61) ≡ false → At (in_hole c) rest ts
    → At (in_hole c) (33 ∷ rest) (FStringBang ∷ ts)
conversion_begins {c = c} {rest = rest} {ts = ts} goes_on other r = record { lexes = λ at fs are. go at fs are }
  where
    go : (at : ℕ) (fs : List FString) → AreOpen (c.depth ∷ c.frames) fs → Lexes (FStringBang ∷ ts) (state at (33 ∷ rest) (in_hole c) fs)
    go at fs (f, more, are, style, here, others) =
        let s = state at (33 ∷ rest) (in_hole c) fs in
        let solid : Solid (33 ∷ rest) = record { some = omega arith; no_gap = refl } in (
          from_to (at + 0) (at + 0 + 1),
          state (at + 0 + 1) rest (in_hole c) fs,
          token_next (in_hole c) at (33 ∷ rest) fs (hole_line c goes_on) (f, more, are, style, here, others)
              ∙ ap (λ p. Some p) (nothing_skipped s (skip_none (nat_lt 0 (c.depth + 1)) (33 ∷ rest) solid) (omega arith)
              ∙ at_hole (after 0 s) f more c.depth are here refl ∙ hole_bang (after 0 s) refl (ap not other)),
          omega arith,
          r.lexes (at + 0 + 1) fs (f, more, are, style, here, others),
        )

-- ---- its text, byte by byte

-- what is left of the text is read as this value, followed by these tokens
pub record TextThen (c : Standing) (rest value : Text) (ts : List Terminal) : Type 0 where
  pub len : ℕ
  pub stop : Stop
  pub runs : RunsTo (marks false true) rest value len stop
  pub ends : is_end stop ≡ true
  pub next : At (in_f_string c) (drop len rest) ts
  pub within : len ≤ length rest
  pub none : value ≡ [] → len ≡ 0
  pub some : 0 < length value → 0 < len

pub text_closed : {c : Standing} {rest : Text} {ts : List Terminal} → At (in_f_string c) (34 ∷ rest) ts → TextThen c (34 ∷ rest) [] ts
text_closed {rest = rest} r = record {
  len = 0;
  stop = Closed;
  runs = closes_run false true rest;
  ends = refl;
  next = r;
  within = omega arith;
  none = λ _. refl;
  some = λ h. absurd (omega arith);
}

pub text_hole : {c : Standing} {rest : Text} {ts : List Terminal} → (first rest == 123) ≡ false → At (in_f_string c) (123 ∷ rest) ts
    → TextThen c (123 ∷ rest) [] ts
text_hole {rest = rest} other r = record {
  len = 0;
  stop = Hole;
  runs = hole_stops_run false rest other;
  ends = refl;
  next = r;
  within = omega arith;
  none = λ _. refl;
  some = λ h. absurd (omega arith);
}

spelled_some : {bytes format : Bool} {b : ℕ} {front : Text} → Spells bytes format b front → 0 < length front
spelled_some (itself plain) = omega arith
spelled_some (by_letter is) = omega arith
spelled_some (by_digits first second is small adds) = omega arith
spelled_some (doubled is brace) = omega arith

pub text_more : {c : Standing} {rest value front : Text} {ts : List Terminal} {b : ℕ} → Spells false true b front → TextThen c rest value ts
    → TextThen c (front ++ rest) (b ∷ value) ts
text_more {c = c} {rest = rest} {front = front} {ts = ts} sp r = record {
  len = length front + r.len;
  stop = r.stop;
  runs = spelled_first sp r.runs;
  ends = r.ends;
  next = subst (λ left_text. At (in_f_string c) left_text ts) (sym (drop-append-add front rest r.len)) r.next;
  within = let within = r.within in omega (arith, length-append front rest);
  none = λ h. absurd (cc);
  some = λ h. omega (arith, spelled_some sp);
}

-- the tokens of a text and what comes after it
abbrev pub text_then : Text → List Terminal → List Terminal
text_then [] ts = ts
text_then (b ∷ bs) ts = FStringText (b ∷ bs) ∷ ts

drop_none : (rest : Text) (len : ℕ) → len ≡ 0 → drop len rest ≡ rest
drop_none rest len none = ap (λ n. drop n rest) none

pub text_lexed : (c : Standing) (rest value : Text) (ts : List Terminal) → TextThen c rest value ts → At (in_f_string c) rest (text_then value ts)
text_lexed c rest [] ts r = subst (λ left_text. At (in_f_string c) left_text ts) (drop_none rest r.len (r.none refl)) r.next
text_lexed c rest (b ∷ bs) ts r = record { lexes = λ at fs are. go at fs are }
  where
    go : (at : ℕ) (fs : List FString) → AreOpen (c.depth ∷ c.frames) fs → Lexes (FStringText (b ∷ bs) ∷ ts) (state at rest (in_f_string c) fs)
    go at fs (f, more, are, style, here, others) =
        let s = state at rest (in_f_string c) fs in
        let some = r.some (omega arith) in
        let shorter : length (drop r.len rest) < length rest = let within = r.within in omega (arith, length-drop r.len rest) in (
          from_to at (at + r.len),
          state (at + r.len) (drop r.len rest) (in_f_string c) fs,
          text_next (in_f_string c) at rest (b ∷ bs) r.len r.stop fs f more are style here r.runs
              ∙ ap (λ p. Some p) (cond-true (nat_lt 0 r.len && is_end r.stop) _ _ (and_from (nat_lt 0 r.len) (is_end r.stop) (lt-ltb 0 r.len some) r.ends)),
          omega (arith, shorter),
          r.next.lexes (at + r.len) fs (f, more, are, style, here, others),
        )
