-- Names and numbers that are all of a text.
use Rattle.std.proofs.Common.{◌≡◌, ℕ, ℤ, ◌+◌, ◌^◌, ◌≤◌, pos, Bool, true, false, not, cond, ◌&&◌, ◌==◌, nat_lt, nat_le, List, [], ◌∷◌, length, take, drop}
use Rattle.std.proofs.Common.{Option, Some, None, option_map, unwrap_or, Result, Ok, Err, refl, sym, ap, ◌∙◌, subst}
use Rattle.std.specs.Bool.{⊤}
use Rattle.std.specs.List.{list_all, prefix_len}
use Rattle.std.specs.Str.Parse.{digits_value}
use Rattle.std.proofs.lemmas.Bool.{and_parts, cond_both, false≢true}
use Rattle.std.proofs.lemmas.List.Sums.{prefix_len-le-length}
use Rattle.std.proofs.Math.Seq.{take-length}
use Rattle.std.proofs.lemmas.List.{length-take-le}
use Rattle.starlark_lexer.proofs.NumberLemmas.{list_all-run}
use Rattle.starlark_lexer.specs.declared.token.LexerErrorKind.{LexerErrorKind}
use Rattle.starlark_lexer.specs.declared.token.LexerErrorKind.TheVariants as kinds
use Rattle.starlark_lexer.specs.Newlines.{first, newline_len}
use Rattle.starlark_lexer.specs.Classes.{is_letter, is_name_byte, is_digit_of, is_sign_byte}
use Rattle.starlark_lexer.specs.Cuts.{Cut, token, refused}
use Rattle.starlark_lexer.specs.Lexing.{char_len, plain_name, name_of, name_cut, sign_at, sign_or, sign_cut, comment_cut, cut}
use Rattle.starlark_lexer.specs.Numbers.{integer, digits_len, fraction_len, exponent_len, prefixed_len, prefixed_cut, integer_cut, decimal_cut, number_cut}
use Rattle.starlark_lexer.specs.Numbers.{begins_number}
use Rattle.starlark_lexer.specs.Tokens.{Text, Terminal, lexeme, from_to, small, large, Identifier, Int, Float}
use Rattle.starlark_lexer.specs.Words.{is_spelled, spelled_so, keywords, signs, keyword, sign, is_reserved}
use Rattle.starlark_lexer.specs.Lexemes.{State, start, step}
use Rattle.starlark_lexer.proofs.TokenTexts.SingleToken.{is_written, IsWritten, alone_tells}

-- ---- tables

abbrev none_written : List Terminal → Bool
none_written [] = true
none_written (t ∷ ts) = not (is_written t) && none_written ts

-- what a table gives is neither a name nor a number
abbrev Plain : Option Terminal → Type 0
Plain None = ⊤
Plain (Some t) = IsWritten t → ⊥

not_both : (b : Bool) → not b ≡ true → b ≡ true → ⊥
not_both true e h = cc
not_both false e h = cc

found_plain : (text : Text) (ts : List Terminal) → none_written ts ≡ true → Plain (spelled_so text ts)
found_plain text [] e = tt
found_plain text (t ∷ ts) e =
    let parts = and_parts (not (is_written t)) (none_written ts) e in
    cond_both (is_spelled text t) (Some t) (spelled_so text ts) Plain (λ _. not_both (is_written t) parts.0) (λ _. found_plain text ts parts.1)

keyword_plain : (text : Text) → Plain (keyword text)
unfolding keyword
keyword_plain text = found_plain text keywords refl

sign_plain : (text : Text) → Plain (sign text)
unfolding sign
sign_plain text = found_plain text signs refl

-- ---- what a cut gives, if that is a name or a number

-- a token that is a name or a number, for all of a text
pub data Cuts (text : Text) : Terminal → Type 0 where
  as_name : list_all is_name_byte text ≡ true → is_letter (first text) ≡ true → keyword text ≡ None → is_reserved text ≡ false → Cuts text (Identifier text)
  as_float : begins_number text ≡ true → number_cut text ≡ token (Float text) (length text) → Cuts text (Float text)
  as_large : begins_number text ≡ true → number_cut text ≡ token (Int (large text)) (length text) → Cuts text (Int (large text))
  as_small : (z : ℤ) → begins_number text ≡ true → Cuts text (Int (small z))

-- all of the text is such a token
pub record Whole (text : Text) (c : Cut) : Type 0 where
  pub whole : (t : Terminal) → IsWritten t → c.what ≡ Ok t → c.len ≡ length text → Cuts text t

what_of : Result Terminal LexerErrorKind → Terminal → Terminal
what_of (Ok t) other = t
what_of (Err e) other = other

same_what : (a b : Terminal) → ◌≡◌ {A = Result Terminal LexerErrorKind} (Ok a) (Ok b) → a ≡ b
same_what a b e = cc

no_what : (e : LexerErrorKind) (b : Terminal) → ◌≡◌ {A = Result Terminal LexerErrorKind} (Err e) (Ok b) → ⊥
no_what e b h = cc

-- another token
not_written : (text : Text) (w : Terminal) (begin len taken : ℕ) → (IsWritten w → ⊥)
    → Whole text (record { what = Ok w; begin = begin; len = len; taken = taken })
not_written text w begin len taken h = record { whole = λ t written is all. absurd (h (subst IsWritten (sym (same_what w t is)) written)) }

not_given : (text : Text) (e : LexerErrorKind) (begin len taken : ℕ) → Whole text (record { what = Err e; begin = begin; len = len; taken = taken })
not_given text e begin len taken = record { whole = λ t written is all. absurd (no_what e t is) }

-- ---- names

plain_named : (text : Text) (t : Terminal) (b : Bool) → is_reserved text ≡ b → list_all is_name_byte text ≡ true → is_letter (first text) ≡ true
    → keyword text ≡ None
    → cond b (Err kinds.ReservedKeyword) (Ok (Identifier text)) ≡ Ok t → Cuts text t
plain_named text t true reserved all letter none is = absurd (no_what _ t is)
plain_named text t false reserved all letter none is = subst (Cuts text) (same_what (Identifier text) t is) (as_name all letter none reserved)

named_is : (text : Text) (t : Terminal) (o : Option Terminal) → keyword text ≡ o → Plain o → IsWritten t → list_all is_name_byte text ≡ true
    → is_letter (first text) ≡ true → unwrap_or (option_map (λ k. Ok k) o) (plain_name text) ≡ Ok t → Cuts text t
named_is text t None none h written all letter is = plain_named text t (is_reserved text) refl all letter none is
named_is text t (Some k) some h written all letter is = absurd (h (subst IsWritten (sym (same_what k t is)) written))

name_means : (text : Text) → name_of text ≡ unwrap_or (option_map (λ k. Ok k) (keyword text)) (plain_name text)
unfolding name_of
name_means text = refl

name_whole : (text : Text) → is_letter (first text) ≡ true → Whole text (name_cut text)
unfolding name_cut
name_whole text letter = record {
  whole = λ t written is all.
      let len = prefix_len is_name_byte text in
      let front : take len text ≡ text = ap (λ n. take n text) all ∙ take-length text in
      named_is text t (keyword text) refl (keyword_plain text) written
      (subst (λ x. list_all is_name_byte x ≡ true) front (list_all-run is_name_byte text)) letter
      (sym (name_means text) ∙ ap name_of (sym front) ∙ is);
}

-- ---- numbers

-- the token's own text is that text
abbrev Own : Terminal → Text → Type 0
Own (Float x) text = x ≡ text
Own (Int (large x)) text = x ≡ text
Own (Identifier x) text = ⊥
Own _ text = ⊤

record Shaped (text : Text) (c : Cut) : Type 0 where
  shaped : (t : Terminal) → c.what ≡ Ok t → c.len ≡ length text → (c ≡ token t (length text)) × Own t text

shaped_token : (text : Text) (w : Terminal) (n : ℕ) → (n ≡ length text → Own w text) → Shaped text (token w n)
shaped_token text w n h = record {
  shaped = λ t is all. let same = same_what w t is in ((λ i. token (same i) (all i)), subst (λ x. Own x text) same (h all));
}

shaped_refusal : (text : Text) (e : LexerErrorKind) (begin n : ℕ) → Shaped text (refused e begin n)
shaped_refusal text e begin n = record { shaped = λ t is all. absurd (no_what e t is) }

integer_own : (base : ℕ) (ds x text : Text) → x ≡ text → Own (Int (integer base ds x)) text
unfolding integer
integer_own base ds x text same =
    cond_both (nat_lt (digits_value base ds) (2 ^ 31)) (small (pos (digits_value base ds))) (large x) (λ i. Own (Int i) text) (λ _. tt) (λ _. same)

prefixed_shaped : (text : Text) (digits : ℕ) → Shaped text (prefixed_cut digits text)
prefixed_shaped text digits =
    shaped_token text _ (2 + digits) (λ all. integer_own _ (take digits (drop 2 text)) (take (2 + digits) text) text
    (ap (λ n. take n text) all ∙ take-length text))

integer_shaped : (text ds : Text) → (length ds ≡ length text → ds ≡ text) → Shaped text (integer_cut ds)
unfolding integer_cut
integer_shaped text ds h =
    cond_both (first ds == 48 && nat_lt 1 (length ds)) _ _ (Shaped text) (λ _. shaped_refusal text _ 0 (length ds))
    (λ _. shaped_token text _ (length ds) (λ all. integer_own 10 ds ds text (h all)))

decimal_shaped : (text : Text) → Shaped text (decimal_cut text)
unfolding decimal_cut
decimal_shaped text =
    let d = digits_len 10 text in
    let f = fraction_len (drop d text) in
    let e = exponent_len (drop f (drop d text)) in
    let within : d ≤ length text = prefix_len-le-length (is_digit_of 10) text in
    cond_both (nat_lt 0 (f + e)) _ _ (Shaped text)
    (λ _. shaped_token text (Float (take (d + f + e) text)) (d + f + e) (λ all. ap (λ n. take n text) all ∙ take-length text))
    (λ _. integer_shaped text (take d text) (λ all. let same : d ≡ length text = sym (length-take-le d text within) ∙ all in ap (λ n. take n text) same
    ∙ take-length text))

number_shaped : (text : Text) → Shaped text (number_cut text)
unfolding number_cut
number_shaped text =
    cond_both (nat_lt 0 (prefixed_len text)) _ _ (Shaped text) (λ _. prefixed_shaped text (prefixed_len text)) (λ _. decimal_shaped text)

number_cuts : (text : Text) (t : Terminal) → IsWritten t → begins_number text ≡ true → number_cut text ≡ token t (length text) → Own t text → Cuts text t
number_cuts text (Identifier x) written begins is own = absurd own
number_cuts text (Float x) written begins is own =
    subst (λ y. Cuts text (Float y)) (sym own) (as_float begins (is ∙ ap (λ y. token (Float y) (length text)) own))
number_cuts text (Int (large x)) written begins is own =
    subst (λ y. Cuts text (Int (large y))) (sym own) (as_large begins (is ∙ ap (λ y. token (Int (large y)) (length text)) own))
number_cuts text (Int (small z)) written begins is own = as_small z begins
number_cuts text _ written begins is own = absurd (false≢true written)

number_whole : (text : Text) → begins_number text ≡ true → Whole text (number_cut text)
number_whole text begins = record {
  whole = λ t written is all. let h = (number_shaped text).shaped t is all in number_cuts text t written begins h.0 h.1;
}

-- ---- operators and punctuation

sign_or_whole : (text : Text) (n : ℕ) (o : Option Terminal) (c : Cut) → Plain o → Whole text c → Whole text (sign_or n o c)
sign_or_whole text n None c h more = more
sign_or_whole text n (Some t) c h more = not_written text t 0 n n h

sign_at_plain : (n : ℕ) (text : Text) → Plain (sign_at n text)
sign_at_plain n text = cond_both (nat_le n (prefix_len is_sign_byte text)) (sign (take n text)) None Plain (λ _. sign_plain (take n text)) (λ _. tt)

sign_whole : (text : Text) → Whole text (sign_cut text)
unfolding sign_cut
sign_whole text =
    sign_or_whole text 3 _ _ (sign_at_plain 3 text)
    (sign_or_whole text 2 _ _ (sign_at_plain 2 text) (sign_or_whole text 1 _ _ (sign_at_plain 1 text)
    (not_given text _ 0 (char_len text) (0 + char_len text))))

-- ---- all of a text

comment_whole : (text : Text) → Whole text (comment_cut text)
unfolding comment_cut
comment_whole text = not_written text _ _ _ _ false≢true

cut_whole : (text : Text) → Whole text (cut text)
unfolding cut
cut_whole text =
    cond_both (nat_lt 0 (newline_len text)) _ _ (Whole text) (λ _. not_written text _ _ _ _ false≢true)
    (λ _. cond_both (first text == 35) _ _ (Whole text) (λ _. comment_whole text)
    (λ _. cond_both (is_letter (first text)) _ _ (Whole text) (name_whole text)
    (λ _. cond_both (begins_number text) _ _ (Whole text) (number_whole text) (λ _. sign_whole text))))

-- if the first step returns a name or number for all of a text, all of it is cut off
pub alone_cuts : (text : Text) (t : Terminal) (u : State) → IsWritten t → step (start text) ≡ Some (Ok (lexeme t (from_to 0 (length text))), u) → Cuts text t
alone_cuts text t u written is = let h = alone_tells text t u written is in (cut_whole text).whole t written h.1 h.2
