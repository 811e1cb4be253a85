-- Each string and bytes literal lies in its text.
use Rattle.std.proofs.Common.{◌≡◌, ℕ, ◌+◌, ◌<◌, true, ◌&&◌, ◌==◌, List, get_or, take, drop, IsUtf8, Option, Some, None, IfSome, Ok, Err, refl, sym, subst}
use Rattle.std.proofs.Common.{arith, add_assoc, zero-add, eqb-true}
use Rattle.std.proofs.lemmas.Bool.{and_parts, cond_both, false≢true}
use Rattle.std.proofs.lemmas.Str.{IsCharBoundary-start, IsCharBoundary-from_rest, IsUtf8-drop}
use Rattle.std.specs.Str.{IsCharBoundary}
use Rattle.starlark_lexer.specs.declared.string.escape.Stop.{Stop}
use Rattle.starlark_lexer.specs.declared.string.escape.Stop.TheVariants.{Closed, Unfinished, Hole, LoneBrace, BadEscape}
use Rattle.starlark_lexer.specs.declared.string.opening.Style.{Style}
use Rattle.starlark_lexer.specs.declared.token.LexerErrorKind.{LexerErrorKind}
use Rattle.starlark_lexer.specs.Cuts.{Cut, IsFault, IsCutOf, IsSpelled}
use Rattle.starlark_lexer.specs.Words.{spelling}
use Rattle.starlark_lexer.specs.Memory.{takes_memory}
use Rattle.starlark_lexer.specs.Cutting.{Cuts, TakesMemory}
use Rattle.starlark_lexer.specs.declared.cut.Cut.{Cut as CodeCut}
use Rattle.std.specs.Prelude.{Result, IsErr}
use Rattle.starlark_lexer.specs.Openings.{is_quote, quotes_len, prefix, opening}
use Rattle.starlark_lexer.specs.Strings.{run, stop_len, literal, cut_at, string_cut}
use Rattle.starlark_lexer.specs.Tokens.{Text, Terminal, String, Bytes}
use Rattle.starlark_lexer.proofs.PieceBounds.{HasBytes, after_ascii, quote_ascii}
use Rattle.starlark_lexer.proofs.StringRuns.{run_fits}

-- ---- the opening

abbrev pub OpensWell : List ℕ → Option (Style × ℕ) → Type 0
OpensWell text (Some s) = (is_quote s.0.quote ≡ true) × (0 < s.1) × IsCharBoundary text s.1
OpensWell text None = Unit {0}

-- an opening has bytes, and ends on a character boundary
pub record OpeningFits (text : List ℕ) (o : Option (Style × ℕ)) : Type 0 where
  pub fits : OpensWell text o

opening_fits : (text : List ℕ) → IsUtf8 text → OpeningFits text (opening text)
unfolding opening
opening_fits text utf8 =
    let n = (prefix (get_or text 0 0) (get_or text 1 0)).len in
    let quote = get_or text n 0 in
    let triple = get_or text (n + 1) 0 == quote && get_or text (n + 2) 0 == quote in
    let P : ℕ → Type 0 = λ k. (0 < n + k) × IsCharBoundary text (n + k) in
    let three : is_quote quote ≡ true → triple ≡ true → P 3 =
    λ q t. let bounds = quote_ascii quote q in
    let last : get_or text (n + 2) 0 ≡ quote = eqb-true _ _ (and_parts (get_or text (n + 1) 0 == quote) (get_or text (n + 2) 0 == quote) t).1 in
    let e : n + 2 + 1 ≡ n + 3 = omega arith in
    (omega arith, subst (IsCharBoundary text) e (after_ascii text (n + 2) utf8 (omega arith) (omega arith))) in
    let one : is_quote quote ≡ true → P 1 = λ q. let bounds = quote_ascii quote q in (omega arith, after_ascii text n utf8 bounds.0 bounds.1) in
    cond_both (is_quote quote) _ _ (OpeningFits text) (λ q. let ends = cond_both triple 3 1 P (three q) (λ _. one q) in record { fits = (q, ends.0, ends.1) })
    (λ _. record { fits = tt })

pub opening_ends : (style : Style) (n : ℕ) (text : List ℕ) → IsUtf8 text → opening text ≡ Some (style, n) → (is_quote style.quote ≡ true) × (0 < n)
    × IsCharBoundary text n
opening_ends style n text utf8 e = (subst (OpeningFits text) e (opening_fits text utf8)).fits

-- ---- literals

literal_spelled : (style : Style) (inside source : Text) → IsSpelled source (Ok (literal style inside))
unfolding literal
literal_spelled style inside source =
    let P : Terminal → Type 0 = λ t. IfSome (spelling t) (λ w. w ≡ source) in
    cond_both style.bytes (Bytes (run style inside).value) (String (run style inside).value) P (λ _. tt) (λ _. tt)

-- a token at the front, with only its own bytes
token_fits : (text : List ℕ) (t : Terminal) (n : ℕ) → IsUtf8 text → 0 < n → IsCharBoundary text n → IsSpelled (take n text) (Ok t)
    → IsCutOf text (record { what = Ok t; begin = 0; len = n; taken = n })
token_fits text t n utf8 some end spelled = record {
  some = some;
  front = refl;
  begin = IsCharBoundary-start text utf8;
  end = rw zero-add end;
  taken = end;
  within = omega arith;
  gap = λ k h l. absurd (omega arith);
  spelled = spelled;
}

-- an error about bytes of the text
refusal_fits : (text : List ℕ) (kind : LexerErrorKind) (begin len : ℕ) → IsFault kind → 0 < len → IsCharBoundary text begin → IsCharBoundary text (begin + len)
    → IsCutOf text (record { what = Err kind; begin = begin; len = len; taken = begin + len })
refusal_fits text kind begin len fault some here end = record {
  some = some;
  front = tt;
  begin = here;
  end = end;
  taken = end;
  within = omega arith;
  gap = λ k h l. absurd (omega arith);
  spelled = fault;
}

cut_at_fits : (style : Style) (n : ℕ) (text inside : List ℕ) (len : ℕ) (stop : Stop) → IsUtf8 text → 0 < n → HasBytes stop → IsCharBoundary text (n + len)
    → IsCharBoundary text (n + len + stop_len style stop) → IsCutOf text (cut_at style n inside len stop)
cut_at_fits style n text inside len Closed utf8 some bytes begin end =
    token_fits text (literal style inside) _ utf8 (omega arith) end (literal_spelled style inside (take (n + len + quotes_len style.triple) text))
cut_at_fits style n text inside len (BadEscape k) utf8 some bytes begin end = refusal_fits text _ (n + len) k tt bytes begin end
cut_at_fits style n text inside len Unfinished utf8 some bytes begin end =
    refusal_fits text _ 0 (n + len) tt (omega arith) (IsCharBoundary-start text utf8) (rw zero-add begin)
cut_at_fits style n text inside len Hole utf8 some bytes begin end =
    refusal_fits text _ 0 (n + len) tt (omega arith) (IsCharBoundary-start text utf8) (rw zero-add begin)
cut_at_fits style n text inside len LoneBrace utf8 some bytes begin end =
    refusal_fits text _ 0 (n + len) tt (omega arith) (IsCharBoundary-start text utf8) (rw zero-add begin)

pub string_fits : (style : Style) (n : ℕ) (text : List ℕ) → IsUtf8 text → opening text ≡ Some (style, n) → IsCutOf text (string_cut style n text)
unfolding string_cut
string_fits style n text utf8 e =
    let (quote, some, here) = opening_ends style n text utf8 e in
    let inside = drop n text in
    let r = run style inside in
    let fits = run_fits style inside (IsUtf8-drop text n utf8 here) quote in
    cut_at_fits style n text inside r.len r.stop utf8 some fits.bytes (IsCharBoundary-from_rest text n r.len here.0 fits.begin)
    (rw add_assoc (IsCharBoundary-from_rest text n (r.len + stop_len style r.stop) here.0 fits.end))

-- a string owns memory
literal_takes : (style : Style) (text : List ℕ) → takes_memory (literal style text) ≡ true
unfolding literal
literal_takes style text = cond_both style.bytes (Bytes (run style text).value) (String (run style text).value) (λ t. takes_memory t ≡ true) (λ _. refl)
    (λ _. refl)

pub closed_takes : (style : Style) (n : ℕ) (text : List ℕ) → (run style (drop n text)).stop ≡ Closed → TakesMemory (string_cut style n text).what
unfolding string_cut
closed_takes style n text closed =
    let inside = drop n text in
    subst (λ stop. TakesMemory (cut_at style n inside (run style inside).len stop).what) (sym closed) (literal_takes style inside)

pub cuts_err : {E : Type 0} (r : Result CodeCut E) (c : Cut) → IsErr r → TakesMemory c.what → Cuts r c
cuts_err (Ok x) c e takes = absurd (false≢true e)
cuts_err (Err x) c e takes = takes
