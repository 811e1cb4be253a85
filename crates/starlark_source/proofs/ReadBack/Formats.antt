-- Formats with expressions in their holes, as they are read.
use Rattle.std.proofs.Common.{◌≡◌, ℕ, zero, suc, ◌==◌, ◌&&◌, Bool, true, false, if◌then◌else◌, List as Seq, [], ◌∷◌, ◌++◌, codes, map, drop, slice_index}
use Rattle.std.proofs.Common.{refl, sym, ap, ap₂, ◌∙◌, append_assoc, append-nil}
use Rattle.std.proofs.lemmas.Bool.{eqb-true}
use Rattle.std.proofs.lemmas.List.{map-append}
use Rattle.std.proofs.lemmas.Grind.{flat_map-append}
use Rattle.starlark_lexer.specs.Tokens.{Text, Span, Terminal, FStringStart, FStringText, FStringExprStart, FStringExprEnd, FStringEnd, nowhere}
use Rattle.starlark_lexer.specs.declared.token.FStringQuote.TheVariants.{Double}
use Rattle.starlark_tree.specs.Ast as t
use Rattle.starlark_tree.specs.Ast.{Word, no_payload, Expression, expressions_of}
use Rattle.starlark_spec.specs.Grammar.{Derivation, right_side}
use Rattle.starlark_spec.specs.Grammar.Nonterminal.{Test, FStringParts, Conversion}
use Rattle.starlark_spec.specs.Grammar.Derivation.{primary_atom, atom_f_string, parts_none, parts_text, parts_replacement, conversion_default}
use Rattle.starlark_spec.specs.Grammar.Derivation.{conversion_name}
use Rattle.starlark_spec.specs.Trees.{doubled, doubled_byte, placeholder, tree}
use Rattle.starlark_source.specs.declared.level.Level.TheVariants as level
use Rattle.starlark_source.specs.declared.format.Mark.{Mark}
use Rattle.starlark_source.specs.declared.format.Mark.TheVariants as marks
use Rattle.starlark_source.specs.Pieces.{Pieces, token, text_byte}
use Rattle.starlark_source.specs.Formats.{as_repr, mark_of, marked_source, filled, filled_after}
use Rattle.starlark_source.specs.SourceTokens.{tokens_of, with_text}
use Rattle.starlark_source.specs.Unspanned.{unspanned, unspanned_word}
use Rattle.starlark_source.proofs.ReadBack.Writing.{Sayable, split, side_tokens, IsFine, Writes, Reads, none_written, one, after, with_mark}
use Rattle.starlark_source.proofs.ReadBack.Listing.{Offers}
use Rattle.starlark_source.proofs.ReadBack.Levels.{At}
use Rattle.starlark_source.proofs.ReadBack.Productions.{plain, expressions_unspanned}

-- ---- the bytes of a text, one after another, are one token

abbrev with_all : Text → Seq Terminal → Seq Terminal
with_all [] ts = ts
with_all (b ∷ text) ts = with_text b (with_all text ts)

with_all_more : (text : Text) (b : ℕ) (ts : Seq Terminal) → with_all (text ++ b ∷ []) ts ≡ with_all text (with_text b ts)
with_all_more [] b ts = refl
with_all_more (c ∷ text) b ts = ap (with_text c) (with_all_more text b ts)

one_text : (b : ℕ) (text : Text) (x : Terminal) (ts : Seq Terminal) → ((c : ℕ) → with_text c (x ∷ ts) ≡ FStringText (c ∷ []) ∷ x ∷ ts)
    → with_all (b ∷ text) (x ∷ ts) ≡ FStringText (b ∷ text) ∷ x ∷ ts
one_text b [] x ts h = h b
one_text b (c ∷ text) x ts h = ap (with_text b) (one_text c text x ts h)

-- parts, and a text after them if it has bytes
abbrev texted : Derivation FStringParts → Text → Derivation FStringParts
texted d [] = d
texted d (b ∷ text) = parts_text d (b ∷ text) nowhere

texted_tokens : (d : Derivation FStringParts) (run : Text) (x : Terminal) (ts : Seq Terminal)
    → ((c : ℕ) → with_text c (x ∷ ts) ≡ FStringText (c ∷ []) ∷ x ∷ ts)
    → side_tokens (right_side (texted d run)) (x ∷ ts) ≡ side_tokens (right_side d) (with_all run (x ∷ ts))
texted_tokens d [] x ts h = refl
texted_tokens d (b ∷ run) x ts h = ap (side_tokens (right_side d)) (sym (one_text b run x ts h))

texted_fine : (d : Derivation FStringParts) (run : Text) → IsFine (right_side d) → IsFine (right_side (texted d run))
texted_fine d [] c = c
texted_fine d (b ∷ run) c = (c, tt)

texted_text : (d : Derivation FStringParts) (run : Text) → (tree (texted d run)).text ≡ (tree d).text ++ doubled run
texted_text d [] = sym (append-nil (tree d).text)
texted_text d (b ∷ run) = refl

texted_values : (d : Derivation FStringParts) (run : Text) → (tree (texted d run)).values ≡ (tree d).values
texted_values d [] = refl
texted_values d (b ∷ run) = refl

-- Parts after d and a run of text: what is left of a format, as pieces, as a text, and as expressions.
record Filled (d : Derivation FStringParts) (run : Text) (ps : Pieces) (format : Text) (es : Seq (Expression no_payload)) : Type 0 where
  derivation : Derivation FStringParts
  fine : IsFine (right_side derivation)
  tokens : (rest : Pieces) → side_tokens (right_side derivation) (FStringEnd ∷ tokens_of rest)
      ≡ side_tokens (right_side d) (with_all run (tokens_of (ps ++ token FStringEnd ∷ rest)))
  text : (tree derivation).text ≡ (tree d).text ++ (doubled run ++ format)
  values : map (λ v. unspanned v) (tree derivation).values ≡ map (λ v. unspanned v) (tree d).values ++ es

format_as : {d : Derivation FStringParts} {run : Text} {ps : Pieces} {f g : Text} {es : Seq (Expression no_payload)} → f ≡ g → Filled d run ps f es
    → Filled d run ps g es
format_as {d = d} {run = run} is r =
    record {
      derivation = r.derivation;
      fine = r.fine;
      tokens = r.tokens;
      text = r.text ∙ ap (λ x. (tree d).text ++ (doubled run ++ x)) is;
      values = r.values;
    }

ended : (d : Derivation FStringParts) (run : Text) → IsFine (right_side d) → Filled d run [] [] []
ended d run c = record {
  derivation = texted d run;
  fine = texted_fine d run c;
  tokens = λ rest. texted_tokens d run FStringEnd (tokens_of rest) (λ b. refl);
  text = texted_text d run ∙ ap (λ x. (tree d).text ++ x) (sym (append-nil (doubled run)));
  values = ap (λ vs. map (λ v. unspanned v) vs) (texted_values d run) ∙ sym (append-nil _);
}

run_more : (run : Text) (b : ℕ) (more : Text) → doubled (run ++ b ∷ []) ++ more ≡ doubled run ++ (doubled_byte b ++ more)
run_more run b more =
    ap (λ x. x ++ more) (flat_map-append doubled_byte run (b ∷ []))
    ∙ append_assoc (doubled run) (doubled_byte b ++ []) more ∙ ap (λ x. doubled run ++ (x ++ more)) (append-nil (doubled_byte b))

module _ {d : Derivation FStringParts} {run : Text} {ps : Pieces} {more : Text} {es : Seq (Expression no_payload)} where
  byte_more : (b : ℕ) → Filled d (run ++ b ∷ []) ps more es → Filled d run (text_byte b ∷ ps) (doubled_byte b ++ more) es
  byte_more b r = record {
    derivation = r.derivation;
    fine = r.fine;
    tokens = λ rest. r.tokens rest ∙ ap (side_tokens (right_side d)) (with_all_more run b (tokens_of (ps ++ token FStringEnd ∷ rest)));
    text = r.text ∙ ap (λ x. (tree d).text ++ x) (run_more run b more);
    values = r.values;
  }

-- parts followed by an expression in a hole
abbrev replaced : Derivation FStringParts → Text → Derivation Test → Derivation Conversion → Derivation FStringParts
replaced d run value conversion = parts_replacement (texted d run) nowhere value conversion nowhere

four : (a b c e : Text) → ((a ++ b) ++ c) ++ e ≡ a ++ (b ++ (c ++ e))
four a b c e = append_assoc (a ++ b) c e ∙ append_assoc a b (c ++ e)

module _ (d : Derivation FStringParts) (run : Text) (conversion : Derivation Conversion) (p conv ps : Pieces) (more : Text) (e : Expression no_payload)
    (es : Seq (Expression no_payload)) where
  hole_more : (r : Reads Test (λ v. unspanned v) p e) → IsFine (right_side d) → Writes (right_side conversion) conv
      → Filled (replaced d run r.derivation conversion) [] ps more es
      → Filled d run (token FStringExprStart ∷ (p ++ (conv ++ (token FStringExprEnd ∷ ps)))) (placeholder (tree conversion) ++ more) (e ∷ es)
  hole_more r c w f = record {
    derivation = f.derivation;
    fine = f.fine;
    tokens = λ rest.
        let after_hole = token FStringExprEnd ∷ (ps ++ token FStringEnd ∷ rest) in
        let inside = ap (side_tokens (right_side r.derivation)) (w.tokens after_hole) ∙ r.writes.tokens (conv ++ after_hole)
        ∙ ap tokens_of (sym (append_assoc p (conv ++ token FStringExprEnd ∷ ps) (token FStringEnd ∷ rest)
        ∙ ap (λ x. p ++ x) (append_assoc conv (token FStringExprEnd ∷ ps) (token FStringEnd ∷ rest)))) in
        f.tokens rest ∙ ap (λ ts. side_tokens (right_side (texted d run)) (FStringExprStart ∷ ts)) inside
        ∙ texted_tokens d run FStringExprStart _ (λ b. refl);
    text = f.text ∙ ap (λ x. (x ++ placeholder (tree conversion)) ++ more) (texted_text d run)
        ∙ four (tree d).text (doubled run) (placeholder (tree conversion)) more;
    values = f.values ∙ ap (λ vs. vs ++ es) (map-append (λ v. unspanned v) (tree (texted d run)).values (tree r.derivation ∷ [])
        ∙ ap₂ (λ vs v. map (λ x. unspanned x) vs ++ v ∷ []) (texted_values d run) r.looks)
        ∙ append_assoc (map (λ v. unspanned v) (tree d).values) (e ∷ []) es;
  }

-- ---- what a mark determines about the bytes

abbrev tested : Bool → Bool → Bool → Bool → Bool → Bool → Mark
tested x y a b c e =
    if x then (if a then marks.Brace else if b then marks.Hole else if c then marks.ReprHole else marks.Broken)
    else if y then (if e then marks.Brace else marks.Broken) else marks.Text

text_tests : (x y a b c e : Bool) → marks.Text ≡ tested x y a b c e → (x ≡ false) × (y ≡ false)
text_tests true y true b c e is = absurd (cc)
text_tests true y false true c e is = absurd (cc)
text_tests true y false false true e is = absurd (cc)
text_tests true y false false false e is = absurd (cc)
text_tests false true a b c true is = absurd (cc)
text_tests false true a b c false is = absurd (cc)
text_tests false false a b c e is = (refl, refl)

hole_tests : (x y a b c e : Bool) → marks.Hole ≡ tested x y a b c e → (x ≡ true) × (b ≡ true)
hole_tests true y true b c e is = absurd (cc)
hole_tests true y false true c e is = (refl, refl)
hole_tests true y false false true e is = absurd (cc)
hole_tests true y false false false e is = absurd (cc)
hole_tests false true a b c true is = absurd (cc)
hole_tests false true a b c false is = absurd (cc)
hole_tests false false a b c e is = absurd (cc)

repr_tests : (x y a b c e : Bool) → marks.ReprHole ≡ tested x y a b c e → (x ≡ true) × (c ≡ true)
repr_tests true y true b c e is = absurd (cc)
repr_tests true y false true c e is = absurd (cc)
repr_tests true y false false true e is = (refl, refl)
repr_tests true y false false false e is = absurd (cc)
repr_tests false true a b c true is = absurd (cc)
repr_tests false true a b c false is = absurd (cc)
repr_tests false false a b c e is = absurd (cc)

brace_tests : (x y a b c e : Bool) (X : Type 0) → marks.Brace ≡ tested x y a b c e → (x ≡ true → a ≡ true → X) → (y ≡ true → e ≡ true → X) → X
brace_tests true y true b c e X is f g = f refl refl
brace_tests true y false true c e X is f g = absurd (cc)
brace_tests true y false false true e X is f g = absurd (cc)
brace_tests true y false false false e X is f g = absurd (cc)
brace_tests false true a b c true X is f g = g refl refl
brace_tests false true a b c false X is f g = absurd (cc)
brace_tests false false a b c e X is f g = absurd (cc)

-- the first byte of a text
first_is : (rest : Text) (x : ℕ) → (0 == x) ≡ false → (slice_index rest 0 == x) ≡ true → rest ≡ x ∷ drop 1 rest
first_is [] x not_zero is = absurd (cc)
first_is (c ∷ rest) x not_zero is = ap (λ y. y ∷ rest) (eqb-true c x is)

both_true : (x y : Bool) → (x && y) ≡ true → (x ≡ true) × (y ≡ true)
both_true true y is = (refl, is)
both_true false y is = absurd (cc)

repr_is : (rest : Text) → (slice_index rest 0 == 33) ≡ true → (slice_index rest 1 == 114) ≡ true → (slice_index rest 2 == 125) ≡ true
    → rest ≡ 33 ∷ 114 ∷ 125 ∷ drop 3 rest
repr_is [] a b c = absurd (cc)
repr_is (x ∷ []) a b c = absurd (cc)
repr_is (x ∷ y ∷ rest) a b c =
    ap₂ (λ u v. u ∷ v ∷ rest) (eqb-true x 33 a) (eqb-true y 114 b) ∙ ap (λ zs. 33 ∷ 114 ∷ zs) (first_is rest 125 refl c)

no_brace : (x y : Bool) (u v w : Text) → x ≡ false → y ≡ false → (if x then u else (if y then v else w)) ≡ w
no_brace true y u v w no_x no_y = absurd (cc)
no_brace false true u v w no_x no_y = absurd (cc)
no_brace false false u v w no_x no_y = refl

module _ (b : ℕ) (rest : Text) where
  abbrev mark_here : Mark
  mark_here = mark_of b (slice_index rest 0) (slice_index rest 1) (slice_index rest 2)

  abbrev is_repr : Bool
  is_repr = slice_index rest 0 == 33 && (slice_index rest 1 == 114 && slice_index rest 2 == 125)

  plain_byte : marks.Text ≡ mark_here → doubled_byte b ++ rest ≡ b ∷ rest
  plain_byte is =
      let tests = text_tests (b == 123) (b == 125) (slice_index rest 0 == 123) (slice_index rest 0 == 125) is_repr (slice_index rest 0 == 125) is in
      ap (λ x. x ++ rest) (no_brace (b == 123) (b == 125) (codes "{{") (codes "}}") (b ∷ []) tests.0 tests.1)

  double_brace : (x : ℕ) → (0 == x) ≡ false → doubled_byte x ≡ x ∷ x ∷ [] → (b == x) ≡ true → (slice_index rest 0 == x) ≡ true
      → doubled_byte b ++ drop 1 rest ≡ b ∷ rest
  double_brace x not_zero two is same =
      ap (λ y. doubled_byte y ++ drop 1 rest) (eqb-true b x is) ∙ ap (λ y. y ++ drop 1 rest) two
      ∙ sym (ap₂ (λ y ys. y ∷ ys) (eqb-true b x is) (first_is rest x not_zero same))

  brace_bytes : marks.Brace ≡ mark_here → doubled_byte b ++ drop 1 rest ≡ b ∷ rest
  brace_bytes is =
      brace_tests (b == 123) (b == 125) (slice_index rest 0 == 123) (slice_index rest 0 == 125) is_repr (slice_index rest 0 == 125) _ is
      (double_brace 123 refl refl) (double_brace 125 refl refl)

  hole_bytes : marks.Hole ≡ mark_here → codes "{}" ++ drop 1 rest ≡ b ∷ rest
  hole_bytes is =
      let tests = hole_tests (b == 123) (b == 125) (slice_index rest 0 == 123) (slice_index rest 0 == 125) is_repr (slice_index rest 0 == 125) is in
      sym (ap₂ (λ y ys. y ∷ ys) (eqb-true b 123 tests.0) (first_is rest 125 refl tests.1))

  repr_bytes : marks.ReprHole ≡ mark_here → codes "{!r}" ++ drop 3 rest ≡ b ∷ rest
  repr_bytes is =
      let tests = repr_tests (b == 123) (b == 125) (slice_index rest 0 == 123) (slice_index rest 0 == 125) is_repr (slice_index rest 0 == 125) is in
      let first = both_true (slice_index rest 0 == 33) (slice_index rest 1 == 114 && slice_index rest 2 == 125) tests.1 in
      let others = both_true (slice_index rest 1 == 114) (slice_index rest 2 == 125) first.1 in
      sym (ap₂ (λ y ys. y ∷ ys) (eqb-true b 123 tests.0) (repr_is rest first.0 others.0 others.1))

-- ---- a format, mark by mark

-- what is left of a format after k bytes is read, whatever is before it
abbrev IsRead : Span → ℕ → Text → Type 0
IsRead s k format =
    (ps : Seq Pieces) (es : Seq (Expression no_payload)) (d : Derivation FStringParts) (run : Text) → IsFine (right_side d)
    → Offers Test (λ v. unspanned v) ps es → Sayable (filled_after s k format ps) → Filled d run (filled_after s k format ps) (drop k format) es

as_repr_written : Writes (right_side (conversion_name nowhere (114 ∷ []) nowhere)) as_repr
as_repr_written = with_mark refl (after one)

at_mark : (s : Span) (m : Mark) (b : ℕ) (rest : Text) → m ≡ mark_here b rest → ((k : ℕ) → IsRead s k rest)
    → (ps : Seq Pieces) (es : Seq (Expression no_payload)) (d : Derivation FStringParts) (run : Text) → IsFine (right_side d)
    → Offers Test (λ v. unspanned v) ps es → Sayable (marked_source s m b ps (λ k. filled_after s k rest))
    → Filled d run (marked_source s m b ps (λ k. filled_after s k rest)) (b ∷ rest) es
at_mark s marks.Text b rest is again ps es d run c o h = format_as (plain_byte b rest is) (byte_more b (again 0 ps es d (run ++ b ∷ []) c o h))
at_mark s marks.Brace b rest is again ps es d run c o h = format_as (brace_bytes b rest is) (byte_more b (again 1 ps es d (run ++ b ∷ []) c o h))
at_mark s marks.Hole b rest is again [] es d run c o h = absurd h
at_mark s marks.Hole b rest is again (p ∷ ps) [] d run c o h = absurd o
at_mark s marks.Hole b rest is again (p ∷ ps) (e ∷ es) d run c o h =
    let said = split p (token FStringExprEnd ∷ filled_after s 1 rest ps) h in
    let r = o.0 said.0 in
    format_as (hole_bytes b rest is)
    (hole_more d run conversion_default p [] (filled_after s 1 rest ps) (drop 1 rest) e es r c none_written
    (again 1 ps es (replaced d run r.derivation conversion_default) [] (texted_fine d run c, (tt, (r.writes.fine, (tt, tt)))) o.1 said.1))
at_mark s marks.ReprHole b rest is again [] es d run c o h = absurd h
at_mark s marks.ReprHole b rest is again (p ∷ ps) [] d run c o h = absurd o
at_mark s marks.ReprHole b rest is again (p ∷ ps) (e ∷ es) d run c o h =
    let said = split p (as_repr ++ token FStringExprEnd ∷ filled_after s 3 rest ps) h in
    let r = o.0 said.0 in
    let conversion = conversion_name nowhere (114 ∷ []) nowhere in
    format_as (repr_bytes b rest is)
    (hole_more d run conversion p as_repr (filled_after s 3 rest ps) (drop 3 rest) e es r c as_repr_written
    (again 3 ps es (replaced d run r.derivation conversion) [] (texted_fine d run c, (tt, (r.writes.fine, ((refl, (tt, tt)), tt)))) o.1 said.1))
at_mark s marks.Broken b rest is again ps es d run c o h = absurd h

filled_read : (s : Span) (format : Text) (k : ℕ) → IsRead s k format
filled_read s [] zero [] [] d run c o h = ended d run c
filled_read s [] (suc k) [] [] d run c o h = ended d run c
filled_read s [] k [] (e ∷ es) d run c o h = absurd o
filled_read s [] k (p ∷ ps) es d run c o h = absurd h
filled_read s (b ∷ rest) zero ps es d run c o h =
    at_mark s (mark_here b rest) b rest refl (λ k. filled_read s rest k) ps es d run c o h
filled_read s (b ∷ rest) (suc k) ps es d run c o h = filled_read s rest k ps es d run c o h

format_of : Text → t.Expressions no_payload → Expression no_payload
format_of text vs = plain (t.FString nowhere (record { text = text; span = nowhere }) vs)

f_string_of : (w : Word) (ps : Pieces) (es : Seq (Expression no_payload)) → Filled parts_none [] ps w.text es
    → At level.Primary (token (FStringStart Double) ∷ (ps ++ token FStringEnd ∷ [])) (plain (t.FString nowhere (unspanned_word w) (expressions_of es)))
unfolding format_of
f_string_of w ps es f = record {
  derivation = primary_atom (atom_f_string Double nowhere f.derivation nowhere);
  writes = after (record { fine = (f.fine, tt); tokens = λ rest. f.tokens rest ∙ ap tokens_of (sym (append_assoc ps (token FStringEnd ∷ []) rest)) });
  looks = ap₂ format_of f.text (expressions_unspanned (tree f.derivation).values ∙ ap expressions_of f.values);
}

pub f_string_read : (s : Span) (w : Word) (ps : Seq Pieces) (es : Seq (Expression no_payload)) → Offers Test (λ v. unspanned v) ps es
    → Sayable (token (FStringStart Double) ∷ (filled s w.text ps ++ token FStringEnd ∷ []))
    → At level.Primary (token (FStringStart Double) ∷ (filled s w.text ps ++ token FStringEnd ∷ []))
    (plain (t.FString nowhere (unspanned_word w) (expressions_of es)))
f_string_read s w ps es o h =
    f_string_of w (filled s w.text ps) es
    (filled_read s w.text 0 ps es parts_none [] tt o (split (filled s w.text ps) (token FStringEnd ∷ []) h).0)
