-- What is written on a page, step by step.
use Rattle.std.proofs.Common.{◌≡◌, ℕ, List, [], ◌∷◌, ◌++◌, map, Option, Some, None, string_bytes, refl, sym, ap, subst, ◌∙◌, inl, inr, append_assoc, append-nil}
use Rattle.std.proofs.lemmas.Grind.{common_steps}
use Rattle.std.proofs.lemmas.List.{map-append}
use Rattle.starlark_lexer.specs.Tokens.{Text, Span, span_of}
use Rattle.starlark_lexer.specs.declared.span.Span.{Span as CodeSpan}
use Rattle.starlark_source.specs.declared.page.Page.{Page}
use Rattle.starlark_source.specs.declared.error.SourceError.{SourceError}
use Rattle.starlark_source.specs.declared.error.SourceError.TheVariants as errors
use Rattle.starlark_source.specs.Pages.{Mark, byte, fault, Draft, say, State, writing, refused, out, failed_state, state_of, after_mark, marked, Wrote}

pub refused_stays : (s : Span) (ms : Draft) → marked (refused s) ms ≡ refused s
refused_stays s [] = refl
refused_stays s (m ∷ ms) = refused_stays s ms

out_stays : (ms : Draft) → marked out ms ≡ out
out_stays [] = refl
out_stays (m ∷ ms) = out_stays ms

failed_fixed : (text : Text) (e : SourceError) (ms : Draft) → marked (failed_state text (Some e)) ms ≡ failed_state text (Some e)
failed_fixed text (errors.NotSource s) ms = refused_stays (span_of s) ms
failed_fixed text errors.Memory ms = out_stays ms

pub said_so_far : (before text : Text) → marked (writing before) (say text) ≡ writing (before ++ text)
said_so_far before [] = ap writing (sym (append-nil before))
said_so_far before (b ∷ text) = said_so_far (before ++ b ∷ []) text ∙ ap writing (append_assoc before (b ∷ []) text)

pub marked_append : (s : State) (ms ns : Draft) → marked s (ms ++ ns) ≡ marked (marked s ms) ns
marked_append s [] ns = refl
marked_append s (m ∷ ms) ns = marked_append (after_mark s m) ms ns

-- a page that failed is unchanged
pub failed_stays : (p : Page) (e : SourceError) (ms : Draft) → p.failure ≡ Some e → Wrote p ms p
failed_stays p e ms is =
    let s : state_of p ≡ failed_state (string_bytes p.text) (Some e) = ap (failed_state (string_bytes p.text)) is in
    record { reached = inr (s ∙ sym (ap (λ x. marked x ms) s ∙ failed_fixed (string_bytes p.text) e ms)) }

pub ran_out : (p q : Page) (ms : Draft) → q.failure ≡ Some errors.Memory → Wrote p ms q
ran_out p q ms is = record { reached = inl (ap (failed_state (string_bytes q.text)) is) }

pub put_on : (p q : Page) (text : Text) → p.failure ≡ None → q.failure ≡ None → string_bytes q.text ≡ string_bytes p.text ++ text → Wrote p (say text) q
put_on p q text was is more = record {
  reached = inr (
      ap (failed_state (string_bytes q.text)) is ∙ ap writing more ∙ sym (said_so_far (string_bytes p.text) text)
      ∙ ap (λ x. marked x (say text)) (sym (ap (failed_state (string_bytes p.text)) was)));
}

pub refused_on : (p q : Page) (s : CodeSpan) → p.failure ≡ None → q.failure ≡ Some (errors.NotSource s) → Wrote p (fault (span_of s) ∷ []) q
refused_on p q s was is = record {
  reached = inr (
      ap (failed_state (string_bytes q.text)) is
      ∙ ap (λ x. marked x (fault (span_of s) ∷ [])) (sym (ap (failed_state (string_bytes p.text)) was)));
}

pub wrote_nothing : (p : Page) → Wrote p [] p
wrote_nothing p = record { reached = inr refl }

pub wrote_as : (p q : Page) (ms ns : Draft) → Wrote p ms q → ms ≡ ns → Wrote p ns q
wrote_as p q ms ns w is = let P : Draft → Type 0 = λ x. Wrote p x q in subst P is w

pub wrote_append : (p q r : Page) (ms ns : Draft) → Wrote p ms q → Wrote q ns r → Wrote p (ms ++ ns) r
wrote_append p q r ms ns v w = record {
  reached = elim w.reached [
    | inl o ↦ inl o
    | inr e ↦
        elim v.reached [
          | inl o ↦ inl (e ∙ ap (λ s. marked s ns) o ∙ out_stays ns)
          | inr f ↦ inr (e ∙ ap (λ s. marked s ns) f ∙ sym (marked_append (state_of p) ms ns))
        ]
  ];
}

-- nothing matters after what no text denotes
fault_ends : (s : State) (x : Span) (ms ns : Draft) → marked s (fault x ∷ ms) ≡ marked s (fault x ∷ ns)
fault_ends (writing text) x ms ns = refused_stays x ms ∙ sym (refused_stays x ns)
fault_ends (refused y) x ms ns = refused_stays y ms ∙ sym (refused_stays y ns)
fault_ends out x ms ns = out_stays ms ∙ sym (out_stays ns)

pub wrote_to_fault : (p q r : Page) (before : Draft) (x : Span) (ns : Draft) → Wrote p (before ++ fault x ∷ []) q → Wrote q ns r
    → Wrote p (before ++ fault x ∷ []) r
wrote_to_fault p q r before x ns v w =
    let both = wrote_append p q r (before ++ fault x ∷ []) ns v w in
    record {
      reached = elim both.reached [
        | inl o ↦ inl o
        | inr e ↦
            inr (e ∙ ap (marked (state_of p)) (append_assoc before (fault x ∷ []) ns) ∙ marked_append (state_of p) before (fault x ∷ ns)
            ∙ fault_ends (marked (state_of p) before) x ns [] ∙ sym (marked_append (state_of p) before (fault x ∷ [])))
      ];
    }

pub wrote_two : (p q r : Page) (a b all : Draft) → Wrote p a q → Wrote q b r → a ++ b ≡ all → Wrote p all r
wrote_two p q r a b all v w is = wrote_as p r _ all (wrote_append p q r a b v w) is

pub wrote_three : (p q r s : Page) (a b c all : Draft) → Wrote p a q → Wrote q b r → Wrote r c s → a ++ (b ++ c) ≡ all → Wrote p all s
wrote_three p q r s a b c all u v w is = wrote_two p q s a (b ++ c) all u (wrote_append q r s b c v w) is

pub wrote_four : (p q r s t : Page) (a b c d all : Draft) → Wrote p a q → Wrote q b r → Wrote r c s → Wrote s d t → a ++ (b ++ (c ++ d)) ≡ all
    → Wrote p all t
wrote_four p q r s t a b c d all u v w x is = wrote_three p q r t a b (c ++ d) all u v (wrote_append r s t c d w x) is

pub wrote_five : (p q r s t y : Page) (a b c d e all : Draft) → Wrote p a q → Wrote q b r → Wrote r c s → Wrote s d t → Wrote t e y
    → a ++ (b ++ (c ++ (d ++ e))) ≡ all → Wrote p all y
wrote_five p q r s t y a b c d e all u v w x z is = wrote_four p q r s y a b c (d ++ e) all u v w (wrote_append s t y d e x z) is

-- texts one after another
pub wrote_texts : (p q r : Page) (a b all : Text) → Wrote p (say a) q → Wrote q (say b) r → a ++ b ≡ all → Wrote p (say all) r
wrote_texts p q r a b all v w is =
    wrote_as p r _ (say all) (wrote_append p q r (say a) (say b) v w) (sym (map-append (λ n. byte n) a b) ∙ ap say is)

pub wrote_three_texts : (p q r s : Page) (a b c all : Text) → Wrote p (say a) q → Wrote q (say b) r → Wrote r (say c) s → a ++ (b ++ c) ≡ all
    → Wrote p (say all) s
wrote_three_texts p q r s a b c all u v w is = wrote_texts p q s a (b ++ c) all u (wrote_texts q r s b c (b ++ c) v w refl) is

pub ruleset pages = (common_steps, failed_stays, ran_out, put_on, refused_on)

pub ruleset writing_steps = (common_steps, wrote_nothing, wrote_two, wrote_three, wrote_four, wrote_five, wrote_texts, wrote_three_texts)
