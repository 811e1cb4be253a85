-- The formats of f-strings that were read are filled with what is in their holes.
use Rattle.std.proofs.Common.{◌≡◌, ℕ, ◌==◌, if◌then◌else◌, List as Seq, [], ◌∷◌, ◌++◌, map, true, false, codes, refl, sym, ap, ◌∙◌, subst, append_assoc}
use Rattle.std.proofs.Common.{append-nil}
use Rattle.std.proofs.lemmas.Bool.{cond_both, cond-false}
use Rattle.std.proofs.lemmas.List.{map-append}
use Rattle.std.specs.Prelude.{slice_index}
use Rattle.starlark_lexer.specs.Tokens.{Text, Span, FStringExprEnd, FStringEnd}
use Rattle.starlark_lexer.specs.declared.token.FStringConv.{FStringConv}
use Rattle.starlark_lexer.specs.declared.token.FStringConv.TheVariants as conversions
use Rattle.starlark_tree.specs.Ast as t
use Rattle.starlark_tree.specs.Ast.{no_payload, Expression, expressions_of}
use Rattle.starlark_spec.specs.Trees.{Format, f_string, doubled_byte, doubled, placeholder}
use Rattle.starlark_source.specs.declared.format.Mark.TheVariants as marks
use Rattle.starlark_source.specs.Pieces.{Pieces, token}
use Rattle.starlark_source.specs.Formats.{as_repr, mark_of, marked_source, filled_after, filled}
use Rattle.starlark_source.specs.Source.{begins_with_brace, kept_apart, test, holes}
use Rattle.starlark_source.proofs.ReadBack.Writing.{Sayable}
use Rattle.starlark_source.proofs.Sources.Pieces.{joined, apart_said}
use Rattle.starlark_source.proofs.Sources.Expressions.{Said}

-- what is in the hole of an expression
abbrev hole : Expression no_payload → Pieces
hole e = kept_apart (begins_with_brace e) (test e)

holes_are : (es : Seq (Expression no_payload)) → holes (expressions_of es) ≡ map (λ e. hole e) es
holes_are [] = refl
holes_are (e ∷ es) = ap (λ ps. hole e ∷ ps) (holes_are es)

-- a format with its expressions comes before any that a text denotes
pub record FormatSaid (f : Format) : Type 0 where
  pub said : (s : Span) (rest : Text) (es : Seq Pieces) → Sayable (filled_after s 0 rest es)
      → Sayable (filled_after s 0 (f.text ++ rest) (map (λ e. hole e) f.values ++ es))

pub empty_said : FormatSaid (record { text = []; values = [] })
empty_said = record { said = λ s rest es h. h }

-- ---- text

plain_mark : (a b c d : ℕ) → (a == 123) ≡ false → (a == 125) ≡ false → mark_of a b c d ≡ marks.Text
plain_mark a b c d opens closes = cond-false (a == 123) _ _ opens ∙ cond-false (a == 125) _ _ closes

byte_said : (b : ℕ) (s : Span) (rest : Text) (es : Seq Pieces) → Sayable (filled_after s 0 rest es) → Sayable (filled_after s 0 (doubled_byte b ++ rest) es)
byte_said b s rest es h =
    let P : Text → Type 0 = λ text. Sayable (filled_after s 0 (text ++ rest) es) in
    cond_both (b == 123) (codes "{{") (if b == 125 then codes "}}" else b ∷ []) P (λ _. h)
    (λ opens. cond_both (b == 125) (codes "}}") (b ∷ []) P (λ _. h)
    (λ closes. subst (λ m. Sayable (marked_source s m b es (λ k. filled_after s k rest)))
    (sym (plain_mark b (slice_index rest 0) (slice_index rest 1) (slice_index rest 2) opens closes)) h))

text_said : (text : Text) (s : Span) (rest : Text) (es : Seq Pieces) → Sayable (filled_after s 0 rest es)
    → Sayable (filled_after s 0 (doubled text ++ rest) es)
text_said [] s rest es h = h
text_said (b ∷ text) s rest es h =
    subst (λ x. Sayable (filled_after s 0 x es)) (sym (append_assoc (doubled_byte b) (doubled text) rest))
    (byte_said b s (doubled text ++ rest) es (text_said text s rest es h))

pub text_more : (f : Format) (text : Text) → FormatSaid f → FormatSaid (record { text = f.text ++ doubled text; values = f.values })
text_more f text h = record {
  said = λ s rest es k.
      subst (λ x. Sayable (filled_after s 0 x (map (λ e. hole e) f.values ++ es))) (sym (append_assoc f.text (doubled text) rest))
      (h.said s (doubled text ++ rest) es (text_said text s rest es k));
}

-- ---- holes

place_said : (c : FStringConv) (e : Expression no_payload) (s : Span) (rest : Text) (es : Seq Pieces) → Said e → Sayable (filled_after s 0 rest es)
    → Sayable (filled_after s 0 (placeholder c ++ rest) (hole e ∷ es))
place_said conversions.None e s rest es h k = joined (hole e) (token FStringExprEnd ∷ filled_after s 0 rest es)
    (apart_said (begins_with_brace e) (test e) h) k
place_said conversions.Str e s rest es h k = joined (hole e) (token FStringExprEnd ∷ filled_after s 0 rest es) (apart_said (begins_with_brace e) (test e) h) k
place_said conversions.Repr e s rest es h k = joined (hole e) (as_repr ++ (token FStringExprEnd ∷ filled_after s 0 rest es))
    (apart_said (begins_with_brace e) (test e) h) k

pub place_more : (f : Format) (c : FStringConv) (e : Expression no_payload) → FormatSaid f → Said e
    → FormatSaid (record { text = f.text ++ placeholder c; values = f.values ++ e ∷ [] })
place_more f c e h said = record {
  said = λ s rest es k.
      let texts : (f.text ++ placeholder c) ++ rest ≡ f.text ++ (placeholder c ++ rest) = append_assoc f.text (placeholder c) rest in
      let parts : map (λ x. hole x) (f.values ++ e ∷ []) ++ es ≡ map (λ x. hole x) f.values ++ (hole e ∷ es) =
      ap (λ ps. ps ++ es) (map-append (λ x. hole x) f.values (e ∷ [])) ∙ append_assoc (map (λ x. hole x) f.values) (hole e ∷ []) es in
      subst (λ x. Sayable (filled_after s 0 x (map (λ x. hole x) (f.values ++ e ∷ []) ++ es))) (sym texts)
      (subst (λ ps. Sayable (filled_after s 0 (f.text ++ (placeholder c ++ rest)) ps)) (sym parts)
      (h.said s (placeholder c ++ rest) (hole e ∷ es) (place_said c e s rest es said k)));
}

-- an f-string
pub f_string_said : (s : Span) (f : Format) → FormatSaid f → Said (f_string s f)
f_string_said s f h =
    let whole = h.said s [] [] tt in
    let here : Sayable (filled s f.text (holes (expressions_of f.values))) =
    subst (λ ps. Sayable (filled_after s 0 f.text ps)) (append-nil (map (λ e. hole e) f.values) ∙ sym (holes_are f.values))
    (subst (λ x. Sayable (filled_after s 0 x (map (λ e. hole e) f.values ++ []))) (append-nil f.text) whole) in
    joined (filled s f.text (holes (expressions_of f.values))) (token FStringEnd ∷ []) here tt
