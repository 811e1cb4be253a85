-- The line of an offset begins there or before.
use Rattle.std.proofs.Common.{◌≡◌, ℕ, zero, suc, ◌+◌, ◌≤◌, Bool, true, false, cond, ◌==◌, [], ◌∷◌, length, take, drop, count_by, one-add, zero-add, Option}
use Rattle.std.proofs.Common.{Some, None, option_map, unwrap_or, IsSome, IsSomeAnd, min, max, refl, ap, ap₂, arith}
use Rattle.std.proofs.lemmas.Bool.{cond_both, leb-true}
use Rattle.std.proofs.lemmas.List.{length-take}
use Rattle.std.proofs.lemmas.List.Sums.{sum_by-cons, count_by-le-length}
use Rattle.starlark_lexer.specs.Bytes.{line_feed}
use Rattle.starlark_lexer.specs.Places.{char_begin, place_in, line_of, bytes_before, line_at, trimmed_line_at, trimmed_end, first_line_len}
use Rattle.starlark_lexer.specs.Spans.{ends}
use Rattle.starlark_lexer.specs.Tokens.{Text, from_to, span_of}
use Rattle.starlark_lexer.specs.declared.span.Span.{Span}
use Rattle.starlark_module.specs.Comments.Suppressions.{line_around}
use Rattle.starlark_tree.specs.Signatures.{merge}

-- an offset that is moved into the text is only moved back
char_begin-le : (text : Text) (at : ℕ) → char_begin text at ≤ at
char_begin-le text zero = omega arith
char_begin-le text (suc at) =
    let earlier = char_begin-le text at in
    let P : ℕ → Type 0 = λ n. n ≤ suc at in
    cond_both _ (suc at) (char_begin text at) P (λ _. omega arith) (λ _. omega arith)

place_in-le : (text : Text) (at : ℕ) → place_in text at ≤ at
place_in-le text at =
    let P : ℕ → Type 0 = λ n. n ≤ at in
    cond_both _ (length text) (char_begin text at) P (λ h. leb-true _ _ h) (λ _. char_begin-le text at)

breaks : Text → ℕ
breaks text = count_by (λ b. b == line_feed) text

breaks-cons : (b : ℕ) (text : Text) → breaks (b ∷ text) ≡ cond (b == line_feed) 1 0 + breaks text
unfolding breaks
breaks-cons b text = sum_by-cons (λ b. cond (b == line_feed) 1 0) b text

breaks-nil : breaks [] ≡ 0
unfolding breaks
breaks-nil = refl

earlier : (o : Option ℕ) {m n : ℕ} → m ≤ n → IsSomeAnd o (λ i. i ≤ m) → IsSomeAnd o (λ i. i ≤ n)
earlier None le h = absurd h
earlier (Some i) le h = omega arith

one_more : (k : ℕ) (o : Option ℕ) → IsSomeAnd o (λ n. n ≤ k) → IsSomeAnd (option_map (λ n. 1 + n) o) (λ n. n ≤ suc k)
one_more k None h = absurd h
one_more k (Some n) h = omega arith

-- after one more byte, which may be a newline
after : (x : Bool) (k n b : ℕ) (text : Text) → b == line_feed ≡ x → IsSomeAnd (bytes_before n text) (λ i. i ≤ k)
    → IsSomeAnd (bytes_before (cond x 1 0 + n) (b ∷ text)) (λ i. i ≤ suc k)
after true k n b text is h = rw one-add (rw is (one_more k (bytes_before n text) h))
after false k zero b text is h = omega arith
after false k (suc n) b text is h = rw zero-add (rw is (one_more k (bytes_before (suc n) text) h))

-- after k bytes, as many lines have begun as these have newlines
begins_before : (k : ℕ) (text : Text) → IsSomeAnd (bytes_before (breaks (take k text)) text) (λ n. n ≤ k)
begins_before zero text = rw (breaks-nil) (omega arith)
begins_before (suc k) [] = rw (breaks-nil) (omega arith)
begins_before (suc k) (b ∷ text) = rw (breaks-cons b (take k text)) (after (b == line_feed) k _ b text refl (begins_before k text))

-- the line of an offset exists, and begins there or before
pub has_line : (text : Text) (at : ℕ) → IsSomeAnd (bytes_before (line_of text at) text) (λ n. n ≤ at)
unfolding breaks
has_line text at = earlier (bytes_before (line_of text at) text) (place_in-le text at) (begins_before (place_in text at) text)

pub line_of-le : (text : Text) (at : ℕ) → line_of text at ≤ at
line_of-le text at =
    let few = count_by-le-length (λ b. b == line_feed) (take (place_in text at) text) in
    let short : length (take (place_in text at) text) ≡ min (place_in text at) (length text) = length-take _ _ in
    let back = place_in-le text at in
    omega arith

is_there : (o : Option ℕ) (at : ℕ) (f : ℕ → ℕ × ℕ) → IsSomeAnd o (λ n. n ≤ at) → IsSome (option_map f o)
is_there None at f h = absurd h
is_there (Some n) at f h = refl

pub line_is_there : (text : Text) (at line : ℕ) → line ≡ line_of text at → IsSome (line_at line text)
line_is_there text at line e = rw e (is_there _ at _ (has_line text at))

begins_there : (o : Option ℕ) (at : ℕ) (f : ℕ → ℕ) (g : ℕ × ℕ → ℕ) (s : Span) → IsSomeAnd o (λ n. n ≤ at)
    → option_map (λ (p : ℕ × ℕ). (p.0, g p)) (option_map (λ (n : ℕ). (n, f n)) o) ≡ Some (ends s) → s.begin.byte ≤ at
begins_there None at f g s h e = absurd h
begins_there (Some n) at f g s h e = let same : n ≡ s.begin.byte = ap (λ (o : Option (ℕ × ℕ)). (unwrap_or o (0, 0)).0) e in omega arith

pub line_begins : (text : Text) (at line : ℕ) (s : Span) → line ≡ line_of text at → trimmed_line_at line text ≡ Some (ends s) → s.begin.byte ≤ at
line_begins text at line s e is = begins_there (bytes_before (line_of text at) text) at (λ n. n + first_line_len (drop n text))
    (λ p. trimmed_end text p.0 p.1) s (has_line text at) (rw (← e) is)

pub line_around_is : (text : Text) (at line : ℕ) (s : Span) → line ≡ line_of text at → trimmed_line_at line text ≡ Some (ends s)
    → span_of s ≡ line_around text at
unfolding line_around
line_around_is text at line s e is = rw (← e, is) refl

pub merged : (a b r : Span) → r.begin.byte ≡ min a.begin.byte b.begin.byte → r.end.byte ≡ max a.end.byte b.end.byte → span_of r ≡ merge (span_of a) (span_of b)
merged a b r begin end = ap₂ from_to begin end
