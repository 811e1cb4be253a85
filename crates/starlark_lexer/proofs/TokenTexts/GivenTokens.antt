-- Each token that the lexer returns for a text is read again if its own text is alone.
use Rattle.std.proofs.Common.{◌≡◌, ℕ, zero, suc, ◌+◌, ◌-◌, ◌^◌, ◌≤◌, pos, inl, inr, append-nil, eqb-true, Bool, true, false, not, cond, ◌&&◌, ◌||◌, ◌==◌}
use Rattle.std.proofs.Common.{nat_lt, nat_le, ◌*◌, List, [], ◌∷◌, ◌++◌, length, get_or, take, drop, Option, Some, None, option_map}
use Rattle.std.proofs.Common.{unwrap_or, Result, Ok, Err, refl, sym, ap, ◌∙◌, subst, arith, ltb-true, one-add}
use Rattle.std.specs.Bool.{⊤}
use Rattle.std.specs.List.{list_all, prefix_len}
use Rattle.std.specs.Str.Parse.{digits_value}
use Rattle.std.proofs.lemmas.Bool.{and_parts, or_cases, cond_both, ne_eqb}
use Rattle.std.proofs.lemmas.Bool.Decides.{nat_tests}
use Rattle.starlark_lexer.specs.declared.f_string.FString.{FString}
use Rattle.starlark_lexer.specs.declared.string.escape.Stop.{Stop}
use Rattle.starlark_lexer.specs.declared.string.escape.Stop.TheVariants.{Closed, Unfinished, Hole, LoneBrace, BadEscape}
use Rattle.starlark_lexer.specs.declared.string.opening.Style.{Style}
use Rattle.starlark_lexer.specs.declared.token.LexerErrorKind.{LexerErrorKind}
use Rattle.starlark_lexer.specs.declared.token.LexerErrorKind.TheVariants as kinds
use Rattle.starlark_lexer.specs.Newlines.{first, newline_len}
use Rattle.starlark_lexer.specs.Classes.{is_letter, is_name_byte, is_digit_of, is_sign_byte}
use Rattle.starlark_lexer.specs.Cuts.{Cut, token}
use Rattle.starlark_lexer.specs.Lexing.{plain_name, name_of, name_cut, sign_at, sign_or, sign_cut, comment_cut, cut}
use Rattle.starlark_lexer.specs.Lines.{skip_len, whitespace_len, blank_lines_len, indentation}
use Rattle.starlark_lexer.specs.Numbers.{integer, digits_len, fraction_len, exponent_len, prefixed_len, integer_cut, decimal_cut, number_cut}
use Rattle.starlark_lexer.specs.Numbers.{begins_number}
use Rattle.starlark_lexer.specs.Openings.{opening}
use Rattle.starlark_lexer.specs.Strings.{run, literal, cut_at, string_cut}
use Rattle.starlark_lexer.specs.Tokens.{Text, Terminal, Lexeme, LexerFault, lexeme, from_to, Identifier, Int, Float, String, Bytes, small, large, FStringText}
use Rattle.starlark_lexer.specs.Tokens.{FStringExprEnd, FStringBang, Indent, Dedent}
use Rattle.starlark_lexer.specs.Words.{is_spelled, spelled_so, keywords, signs, keyword, sign, is_reserved}
use Rattle.starlark_lexer.specs.Lexemes.{State, Step, after, gives, refuses, without_innermost, start, take_what, take_cut, give_last_newline, open_f_string}
use Rattle.starlark_lexer.specs.Lexemes.{end_text, give_text, is_end, text_step, is_at_hole, literal_or, plain_step, hole_step, front_step, token_step}
use Rattle.starlark_lexer.specs.Lexemes.{is_level, level, indent, indent_step, filled_line_step, line_step, end_step, line_or_token_step, text_or_line_step}
use Rattle.starlark_lexer.specs.Lexemes.{innermost, step, and_then, lexemes_from, lexemes}
use Rattle.starlark_lexer.proofs.NumberLemmas.{list_all-run}
use Rattle.starlark_lexer.proofs.TokenTexts.LexerStates.{state}
use Rattle.starlark_lexer.proofs.TokenTexts.LineTokens.{Solid, Given, nothing_skipped, not_in_hole, skip_none}
use Rattle.starlark_lexer.proofs.TokenTexts.Indentation.{at_line, filled_next, same_level}
use Rattle.starlark_lexer.proofs.TokenTexts.Names.{EndsName, identifier_given}
use Rattle.starlark_lexer.proofs.TokenTexts.Numbers.{EndsNumber, number_given}
use Rattle.starlark_lexer.proofs.TokenTexts.WholeTexts.{as_name}
use Rattle.starlark_lexer.proofs.TokenTexts.CutTexts.{AreBytes, ReadsAlone, float_alone, decimal_alone, prefixed_alone}
use Rattle.starlark_lexer.proofs.TokenTexts.StringValues.{bytes_left, run_bytes}

-- ---- what is cut off

-- a name or number of at most this many bytes
abbrev pub IsShort : ℕ → Terminal → Type 0
IsShort n (Identifier text) = length text ≤ n
IsShort n (Float text) = length text ≤ n
IsShort n (Int (large text)) = length text ≤ n
IsShort n _ = ⊤

taken_short : (n : ℕ) (text : Text) → length (take n text) ≤ length text
taken_short zero text = omega arith
taken_short (suc n) [] = omega arith
taken_short (suc n) (b ∷ bs) = let less = taken_short n bs in omega arith

left_short : (n : ℕ) (text : Text) → length (drop n text) ≤ length text
left_short zero text = omega arith
left_short (suc n) [] = omega arith
left_short (suc n) (b ∷ bs) = let less = left_short n bs in omega arith

-- bytes, at most this many
abbrev pub IsSource : ℕ → Text → Type 0
IsSource most text = AreBytes text × (length text ≤ most)

source_left : (most n : ℕ) (text : Text) → IsSource most text → IsSource most (drop n text)
source_left most n text h = let less = left_short n text in let short = h.1 in (bytes_left n text h.0, omega arith)

-- a token whose own text has at most this many bytes, and is read again if it is alone
abbrev pub Rereads : ℕ → Terminal → Type 0
Rereads most t = ReadsAlone t × IsShort most t

abbrev pub GivenAgain : ℕ → Result Lexeme LexerFault → Type 0
GivenAgain most (Ok l) = Rereads most l.token
GivenAgain most (Err e) = ⊤

abbrev pub AllAgain : ℕ → List (Result Lexeme LexerFault) → Type 0
AllAgain most [] = ⊤
AllAgain most (r ∷ rs) = GivenAgain most r × AllAgain most rs

module _ (most : ℕ) where
  abbrev plain : Terminal → Bool
  plain (Identifier text) = false
  plain (Int n) = false
  plain (Float text) = false
  plain (Bytes bytes) = false
  plain _ = true

  plain_alone : (t : Terminal) → plain t ≡ true → Rereads most t
  plain_alone (Identifier text) e = absurd (cc)
  plain_alone (Int n) e = absurd (cc)
  plain_alone (Float text) e = absurd (cc)
  plain_alone (Bytes bytes) e = absurd (cc)
  plain_alone _ e = (tt, tt)

  abbrev all_plain : List Terminal → Bool
  all_plain [] = true
  all_plain (t ∷ ts) = plain t && all_plain ts

  abbrev FoundAlone : Option Terminal → Type 0
  FoundAlone None = ⊤
  FoundAlone (Some t) = Rereads most t

  found_alone : (text : Text) (ts : List Terminal) → all_plain ts ≡ true → FoundAlone (spelled_so text ts)
  found_alone text [] e = tt
  found_alone text (t ∷ ts) e =
      let parts = and_parts (plain t) (all_plain ts) e in
      cond_both (is_spelled text t) (Some t) (spelled_so text ts) FoundAlone (λ _. plain_alone t parts.0) (λ _. found_alone text ts parts.1)

  keyword_alone : (text : Text) → FoundAlone (keyword text)
  unfolding keyword
  keyword_alone text = found_alone text keywords refl

  sign_alone : (text : Text) → FoundAlone (sign text)
  unfolding sign
  sign_alone text = found_alone text signs refl

  abbrev WhatAlone : Result Terminal LexerErrorKind → Type 0
  WhatAlone (Ok t) = Rereads most t
  WhatAlone (Err kind) = ⊤

  -- what is cut off is read again alone
  record CutsAlone (c : Cut) : Type 0 where
    what : WhatAlone c.what

  plain_name_alone : (text : Text) (b : Bool) (kind : LexerErrorKind) → is_reserved text ≡ b → list_all is_name_byte text ≡ true → is_letter (first text)
      ≡ true → keyword text ≡ None
      → length text ≤ most → WhatAlone (cond b (Err kind) (Ok (Identifier text)))
  plain_name_alone text true kind is all letter none short = tt
  plain_name_alone text false kind is all letter none short = (as_name all letter none is, short)

  named_alone : (text : Text) (o : Option Terminal) → keyword text ≡ o → FoundAlone o → list_all is_name_byte text ≡ true → is_letter (first text) ≡ true
      → length text ≤ most → WhatAlone (unwrap_or (option_map (λ t. Ok t) o) (plain_name text))
  named_alone text None none h all letter short = plain_name_alone text (is_reserved text) _ refl all letter none short
  named_alone text (Some t) some h all letter short = h

  name_of_alone : (text : Text) → list_all is_name_byte text ≡ true → is_letter (first text) ≡ true → length text ≤ most → WhatAlone (name_of text)
  unfolding name_of
  name_of_alone text all letter short = named_alone text (keyword text) refl (keyword_alone text) all letter short

  letter_name : (b : ℕ) → is_letter b ≡ true → is_name_byte b ≡ true
  letter_name b e = grind (arith, nat_tests)

  -- a name begins with the text's first byte
  first_taken : (text : Text) → is_letter (first text) ≡ true → is_letter (first (take (prefix_len is_name_byte text) text)) ≡ true
  first_taken [] e = absurd (cc)
  first_taken (b ∷ bs) e =
      cond_both (is_name_byte b) (1 + prefix_len is_name_byte bs) 0 (λ n. is_letter (first (take n (b ∷ bs))) ≡ true) (λ _. rw one-add e)
      (λ other. absurd (no_both (is_name_byte b) (letter_name b e) other))
    where
      no_both : (x : Bool) → x ≡ true → x ≡ false → ⊥
      no_both true h k = cc
      no_both false h k = cc

  name_alone : (text : Text) → length text ≤ most → is_letter (first text) ≡ true → CutsAlone (name_cut text)
  unfolding name_cut
  name_alone text short letter = record {
    what = name_of_alone (take (prefix_len is_name_byte text) text) (list_all-run is_name_byte text) (first_taken text letter)
        (let less = taken_short (prefix_len is_name_byte text) text in omega arith);
  }

  -- the text of an integer
  integer_short : (base : ℕ) (ds w : Text) → length w ≤ most → IsShort most (Int (integer base ds w))
  unfolding integer
  integer_short base ds w h =
      cond_both (nat_lt (digits_value base ds) (2 ^ 31)) (small (pos (digits_value base ds))) (large w) (λ n. IsShort most (Int n)) (λ _. tt) (λ _. h)

  integer_cut_alone : (text : Text) → fraction_len (drop (digits_len 10 text) text) ≡ 0 → begins_number text ≡ true → length text ≤ most
      → CutsAlone (integer_cut (take (digits_len 10 text) text))
  unfolding integer_cut
  integer_cut_alone text none begins short =
      let ds = take (digits_len 10 text) text in
      cond_both (first ds == 48 && nat_lt 1 (length ds)) _ _ CutsAlone (λ _. record { what = tt })
      (λ leading. record {
        what = (
          decimal_alone text (digits_len 10 text) refl none begins leading,
          integer_short 10 ds ds
              (let less = taken_short (digits_len 10 text) text in omega arith),
        );
      })

  decimal_cut_alone : (text : Text) → begins_number text ≡ true → prefixed_len text ≡ 0 → length text ≤ most → CutsAlone (decimal_cut text)
  unfolding decimal_cut
  decimal_cut_alone text begins unprefixed short =
      let d = digits_len 10 text in
      let f = fraction_len (drop d text) in
      let e = exponent_len (drop f (drop d text)) in
      cond_both (nat_lt 0 (f + e)) _ _ CutsAlone
      (λ some. record {
        what = (float_alone text d f e refl refl refl begins unprefixed (ltb-true 0 (f + e) some), let less = taken_short (d + f + e) text in omega arith);
      })
      (λ other. let none : f + e ≡ 0 = grind (arith, nat_tests) in integer_cut_alone text (omega arith) begins short)

  number_alone : (text : Text) → length text ≤ most → begins_number text ≡ true → CutsAlone (number_cut text)
  unfolding number_cut
  number_alone text short begins =
      let n = prefixed_len text in
      cond_both (nat_lt 0 n) _ _ CutsAlone (λ some. record {
        what = (
          prefixed_alone text n refl (ltb-true 0 n some) begins,
          integer_short _ (take n (drop 2 text)) (take (2 + n) text)
              (let less = taken_short (2 + n) text in omega arith),
        );
      })
      (λ other. let none : n ≡ 0 = grind (arith, nat_tests) in decimal_cut_alone text begins none short)

  sign_or_alone : (n : ℕ) (o : Option Terminal) (c : Cut) → FoundAlone o → CutsAlone c → CutsAlone (sign_or n o c)
  sign_or_alone n None c h more = more
  sign_or_alone n (Some t) c h more = record { what = h }

  sign_at_alone : (n : ℕ) (text : Text) → FoundAlone (sign_at n text)
  sign_at_alone n text = cond_both (nat_le n (prefix_len is_sign_byte text)) (sign (take n text)) None FoundAlone (λ _. sign_alone (take n text)) (λ _. tt)

  sign_cut_alone : (text : Text) → CutsAlone (sign_cut text)
  unfolding sign_cut
  sign_cut_alone text =
      sign_or_alone 3 _ _ (sign_at_alone 3 text) (sign_or_alone 2 _ _ (sign_at_alone 2 text)
      (sign_or_alone 1 _ _ (sign_at_alone 1 text) (record { what = tt })))

  comment_alone : (text : Text) → CutsAlone (comment_cut text)
  unfolding comment_cut
  comment_alone text = record { what = (tt, tt) }

  cut_alone : (text : Text) → length text ≤ most → CutsAlone (cut text)
  unfolding cut
  cut_alone text short =
      cond_both (nat_lt 0 (newline_len text)) _ _ CutsAlone (λ _. record { what = (tt, tt) })
      (λ _. cond_both (first text == 35) _ _ CutsAlone (λ _. comment_alone text)
      (λ _. cond_both (is_letter (first text)) _ _ CutsAlone (name_alone text short)
      (λ _. cond_both (begins_number text) _ _ CutsAlone (number_alone text short) (λ _. sign_cut_alone text))))

  literal_alone : (style : Style) (inside : Text) → AreBytes inside → Rereads most (literal style inside)
  unfolding literal
  literal_alone style inside h = cond_both style.bytes (Bytes (run style inside).value) (String (run style inside).value) (Rereads most)
      (λ _. (run_bytes style inside h, tt)) (λ _. (tt, tt))

  cut_at_alone : (style : Style) (n : ℕ) (inside : Text) (len : ℕ) (stop : Stop) → AreBytes inside → CutsAlone (cut_at style n inside len stop)
  cut_at_alone style n inside len Closed h = record { what = literal_alone style inside h }
  cut_at_alone style n inside len (BadEscape k) h = record { what = tt }
  cut_at_alone style n inside len Unfinished h = record { what = tt }
  cut_at_alone style n inside len Hole h = record { what = tt }
  cut_at_alone style n inside len LoneBrace h = record { what = tt }

  string_alone : (style : Style) (n : ℕ) (text : Text) → AreBytes text → CutsAlone (string_cut style n text)
  unfolding string_cut
  string_alone style n text h = cut_at_alone style n (drop n text) _ _ (bytes_left n text h)

  -- ---- what a step gives

  -- a step returns a token that is read again alone, and leaves bytes
  record Gives (p : Step) : Type 0 where
    given : GivenAgain most p.0
    rest : IsSource most p.1.rest

  either : (b : Bool) (p q : Step) → Gives p → Gives q → Gives (cond b p q)
  either b p q h k = cond_both b p q Gives (λ _. h) (λ _. k)

  take_gives : (s : State) (c : Cut) (what : Result Terminal LexerErrorKind) → WhatAlone what → IsSource most s.rest → Gives (take_what s c what)
  take_gives s c (Ok t) h bytes = record { given = h; rest = source_left most c.taken s.rest bytes }
  take_gives s c (Err kind) h bytes = record { given = tt; rest = bytes }

  token_given : (t : Terminal) (n : ℕ) (s u : State) → Rereads most t → IsSource most u.rest → Gives (gives t n s u)
  token_given t n s u h bytes = record { given = h; rest = bytes }

  refused : (kind : LexerErrorKind) (a b : ℕ) (s : State) → IsSource most s.rest → Gives (refuses kind a b s)
  refused kind a b s bytes = record { given = tt; rest = bytes }

  newline_given : (s : State) → IsSource most s.rest → Gives (give_last_newline s)
  newline_given s bytes = record { given = (tt, tt); rest = bytes }

  cut_gives : (s : State) (c : Cut) → CutsAlone c → IsSource most s.rest → Gives (take_cut s c)
  cut_gives s c h bytes = take_gives s c c.what h.what bytes

  literal_gives : (s : State) (o : Option (Style × ℕ)) → IsSource most s.rest → Gives (literal_or s o)
  literal_gives s None bytes = cut_gives s (cut s.rest) (cut_alone s.rest bytes.1) bytes
  literal_gives s (Some o) bytes =
      either o.0.format (open_f_string o.0 o.1 s) (take_cut s (string_cut o.0 o.1 s.rest))
      (record { given = (tt, tt); rest = source_left most o.1 s.rest bytes })
      (cut_gives s (string_cut o.0 o.1 s.rest) (string_alone o.0 o.1 s.rest bytes.0) bytes)

  plain_gives : (s : State) → IsSource most s.rest → Gives (plain_step s)
  unfolding plain_step
  plain_gives s bytes = literal_gives s (opening s.rest) bytes

  hole_gives : (s : State) → IsSource most s.rest → Gives (hole_step s)
  unfolding hole_step
  hole_gives s bytes =
      let left = source_left most 1 s.rest bytes in
      either (first s.rest == 125) (gives FStringExprEnd 1 s (record (after 1 s) { depth = s.depth - 1 })) _ (record { given = (tt, tt); rest = left })
      (either (first s.rest == 33 && not (get_or s.rest 1 0 == 61)) (gives FStringBang 1 s (after 1 s)) (plain_step s)
      (record { given = (tt, tt); rest = left })
      (plain_gives s bytes))

  front_gives : (s : State) → IsSource most s.rest → Gives (front_step s)
  unfolding front_step
  front_gives s bytes = either (is_at_hole s.depth (innermost s.f_strings)) _ _ (hole_gives s bytes) (plain_gives s bytes)

  token_gives : (s : State) → IsSource most s.rest → Gives (token_step s)
  unfolding token_step
  token_gives s bytes =
      let t = after (skip_len (nat_lt 0 s.depth) false s.rest) s in
      let left = source_left most (skip_len (nat_lt 0 s.depth) false s.rest) s.rest bytes in
      either (length t.rest == 0) (give_last_newline t) (front_step t) (newline_given t left) (front_gives t left)

  indent_gives : (s : State) (whitespace n : ℕ) → IsSource most s.rest → Gives (indent_step s whitespace n)
  unfolding indent_step
  indent_gives s whitespace n bytes =
      let left = source_left most whitespace s.rest bytes in
      let line = record (after whitespace s) { line_begins = false } in
      let outer = record s { levels = without_innermost s.levels } in
      either (nat_lt (level s.levels) n) (indent s whitespace n) _
      (token_given Indent whitespace s (record (after whitespace s) { line_begins = false; levels = s.levels ++ n ∷ [] }) (tt, tt) left)
      (either (n == level s.levels) (token_step line) _ (token_gives line left)
      (either (is_level n s.levels) (gives Dedent 0 s outer) (refuses kinds.Indentation s.at (s.at + whitespace) s)
      (token_given Dedent 0 s outer (tt, tt) bytes)
      (refused kinds.Indentation s.at (s.at + whitespace) s bytes)))

  filled_gives : (s : State) → IsSource most s.rest → Gives (filled_line_step s)
  unfolding filled_line_step
  filled_gives s bytes =
      let whitespace = whitespace_len s.rest in
      let left = source_left most whitespace s.rest bytes in
      let t = after whitespace s in
      either (whitespace == length s.rest) (give_last_newline t) _ (newline_given t left)
      (either (get_or s.rest whitespace 0 == 35) (take_cut t (comment_cut (drop whitespace s.rest)))
      (indent_step s whitespace (indentation (take whitespace s.rest)))
      (cut_gives t (comment_cut (drop whitespace s.rest)) (comment_alone (drop whitespace s.rest)) left)
      (indent_gives s whitespace (indentation (take whitespace s.rest)) bytes))

  line_gives : (s : State) → IsSource most s.rest → Gives (line_step s)
  line_gives s bytes = filled_gives (after (blank_lines_len s.rest) s) (source_left most (blank_lines_len s.rest) s.rest bytes)

  line_or_token_gives : (s : State) → IsSource most s.rest → Gives (line_or_token_step s)
  line_or_token_gives s bytes = either s.line_begins (line_step s) (token_step s) (line_gives s bytes) (token_gives s bytes)

  end_text_gives : (f : FString) (s : State) (len : ℕ) (stop : Stop) → IsSource most s.rest → Gives (end_text f s len stop)
  end_text_gives f s len Closed bytes = record { given = (tt, tt); rest = source_left most _ s.rest bytes }
  end_text_gives f s len Hole bytes = record { given = (tt, tt); rest = source_left most 1 s.rest bytes }
  end_text_gives f s len LoneBrace bytes = record { given = tt; rest = bytes }
  end_text_gives f s len Unfinished bytes = record { given = tt; rest = bytes }
  end_text_gives f s len (BadEscape n) bytes = record { given = tt; rest = bytes }

  text_gives : (f : FString) (s : State) → IsSource most s.rest → Gives (text_step f s)
  unfolding text_step
  text_gives f s bytes =
      let r = run f.style s.rest in
      either (nat_lt 0 r.len && is_end r.stop) (give_text f.style s) (end_text f s r.len r.stop)
      (token_given (FStringText r.value) r.len s (after r.len s) (tt, tt) (source_left most r.len s.rest bytes)) (end_text_gives f s r.len r.stop bytes)

  text_or_line_gives : (s : State) (o : Option FString) → IsSource most s.rest → Gives (text_or_line_step s o)
  text_or_line_gives s None bytes = line_or_token_gives s bytes
  text_or_line_gives s (Some f) bytes = either (s.depth == f.depth) _ _ (text_gives f s bytes) (line_or_token_gives s bytes)

  abbrev StepGives : Option Step → Type 0
  StepGives None = ⊤
  StepGives (Some p) = Gives p

  end_gives : (s : State) (o : Option ℕ) → IsSource most s.rest → StepGives (end_step s o)
  end_gives s None bytes = tt
  end_gives s (Some n) bytes = record { given = (tt, tt); rest = bytes }

  step_gives : (s : State) → IsSource most s.rest → StepGives (step s)
  unfolding step
  step_gives s bytes =
      cond_both s.ended (end_step s (innermost s.levels)) (Some (text_or_line_step s (innermost s.f_strings))) StepGives
      (λ _. end_gives s (innermost s.levels) bytes) (λ _. text_or_line_gives s (innermost s.f_strings) bytes)

  -- ---- all lexemes

  then_alone : (n : ℕ) (o : Option Step) → StepGives o → ((s : State) → IsSource most s.rest → AllAgain most (lexemes_from n s))
      → AllAgain most (and_then o (lexemes_from n))
  then_alone n None h more = tt
  then_alone n (Some p) h more = (h.given, more p.1 h.rest)

  from_alone : (n : ℕ) (s : State) → IsSource most s.rest → AllAgain most (lexemes_from n s)
  from_alone zero s bytes = tt
  from_alone (suc n) s bytes = then_alone n (step s) (step_gives s bytes) (from_alone n)

  -- each token of a text of bytes is read again if its own text is alone
  pub lexemes_alone : (text : Text) → IsSource most text → AllAgain most (lexemes text)
  unfolding lexemes
  lexemes_alone text bytes = from_alone (2 + 2 * length text) (start text) bytes

-- ---- a text that is one such token

first_fits : (w : Text) (t : Terminal) → Given w [] t → Solid w
first_fits w t g = subst Solid (append-nil w) g.solid

-- the first step returns it
pub reads_again : (w : Text) (t : Terminal) → Given w [] t → (first w == 35) ≡ false → (u : State)
    × (step (start w) ≡ Some (Ok (lexeme t (from_to 0 (length w))), u))
reads_again w t g comment =
    let solid = first_fits w t g in
    let line = state (0 + 0) w (at_line 0) [] in
    let s = after 0 (record (after 0 line) { line_begins = false }) in
    let same : w ++ [] ≡ w = append-nil w in
    let whole : 0 + length w ≡ length w = omega arith in (
      after (length w) s,
      filled_next 0 0 0 w [] refl (record { solid = solid; no_comment = comment })
          ∙ ap (λ p. Some p) (same_level line 0 refl ∙ nothing_skipped (record (after 0 line) { line_begins = false }) (skip_none false w solid) solid.some
          ∙ not_in_hole s (ap (λ x. first x == 125) (sym same) ∙ g.no_hole_end) (ap (λ x. first x == 33 && not (get_or x 1 0 == 61)) (sym same) ∙ g.no_bang)
          ∙ g.given s (sym same) ∙ ap (λ n. (Ok (lexeme t (from_to 0 n)), after (length w) s)) whole),
    )

ends_a_name : EndsName []
ends_a_name = record { no_more = refl; no_quote = refl }

ends_a_number : EndsNumber []
ends_a_number = record { no_name = refl; no_point = refl; no_plus = refl; no_minus = refl }

letter_no_comment : (b : ℕ) → is_letter b ≡ true → (b == 35) ≡ false
letter_no_comment b e = grind (arith, nat_tests)

number_no_comment : (a b : ℕ) → (is_digit_of 10 a || (a == 46 && is_digit_of 10 b)) ≡ true → (a == 35) ≡ false
number_no_comment a b e = elim (or_cases (is_digit_of 10 a) (a == 46 && is_digit_of 10 b) e) [
  | inl digit ↦ grind (arith, nat_tests)
  | inr point ↦ let same = eqb-true a 46 (and_parts (a == 46) (is_digit_of 10 b) point).0 in ne_eqb a 35 (λ other. omega arith)
]

pub name_again : (w : Text) → list_all is_name_byte w ≡ true → is_letter (first w) ≡ true → keyword w ≡ None → is_reserved w ≡ false
    → (u : State) × (step (start w) ≡ Some (Ok (lexeme (Identifier w) (from_to 0 (length w))), u))
name_again w all letter none plain =
    reads_again w (Identifier w) (identifier_given w [] (record { all = all; letter = letter; ends = ends_a_name }) none plain)
    (letter_no_comment (first w) letter)

pub number_again : (w : Text) (t : Terminal) → begins_number w ≡ true → number_cut w ≡ token t (length w)
    → (u : State) × (step (start w) ≡ Some (Ok (lexeme t (from_to 0 (length w))), u))
number_again w t begins cut = reads_again w t (number_given w [] t begins cut ends_a_number) (number_no_comment (first w) (get_or w 1 0) begins)
