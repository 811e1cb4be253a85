-- Open f-strings.
use Rattle.std.proofs.Common.{◌≡◌, ℕ, zero, suc, ◌+◌, ◌<◌, Bool, true, false, cond, ◌&&◌, ◌==◌, List, [], ◌∷◌, ◌++◌, Option, Some, None, IfSome, refl, sym}
use Rattle.std.proofs.Common.{subst, arith}
use Rattle.std.proofs.lemmas.Bool.{cond_both, false≢true}
use Rattle.std.proofs.lemmas.List.Elements.{All-append}
use Rattle.std.specs.List.{All, slice_index}
use Rattle.starlark_lexer.specs.declared.f_string.FString.{FString}
use Rattle.starlark_lexer.specs.declared.string.opening.Prefix.{Prefix}
use Rattle.starlark_lexer.specs.declared.string.opening.Style.{Style}
use Rattle.starlark_lexer.specs.OpenFStrings.{IsOpen}
use Rattle.starlark_lexer.specs.Openings.{prefix_of, prefix, opening, is_quote, quotes_len}

-- an f-string is not a bytes literal
record IsText (p : Prefix) : Type 0 where
  text : p.format ≡ true → p.bytes ≡ false

plain : (len : ℕ) (raw format : Bool) → IsText (prefix_of len raw false format)
plain len raw format = record { text = λ _. refl }

bytes : (len : ℕ) (raw : Bool) → IsText (prefix_of len raw true false)
bytes len raw = record { text = λ h. absurd (false≢true h) }

either : (b : Bool) (p q : Prefix) → IsText p → IsText q → IsText (cond b p q)
either b p q h k = cond_both b p q IsText (λ _. h) (λ _. k)

prefix_text : (first second : ℕ) → IsText (prefix first second)
unfolding prefix
prefix_text first second =
    either (first == 114 && second == 98) _ _ (bytes 2 true)
    (either (first == 98 && second == 114) _ _ (bytes 2 true)
    (either (first == 102 && second == 114) _ _ (plain 2 true true)
    (either (first == 114 && second == 102) _ _ (plain 2 true true)
    (either (first == 114) _ _ (plain 1 true false)
    (either (first == 98) _ _ (bytes 1 false) (either (first == 102) _ _ (plain 1 false true) (plain 0 false false)))))))

-- what an opening determines
record Opens (style : Style) (n : ℕ) : Type 0 where
  some : 0 < n
  text : style.format ≡ true → style.bytes ≡ false

record OpensSome (o : Option (Style × ℕ)) : Type 0 where
  opens : IfSome o (λ p. Opens p.0 p.1)

pub quotes_some : (triple : Bool) → 0 < quotes_len triple
quotes_some triple = cond_both triple 3 1 (λ n. 0 < n) (λ _. omega arith) (λ _. omega arith)

opening_opens : (text : List ℕ) → OpensSome (opening text)
unfolding opening
opening_opens text =
    let p = prefix (slice_index text 0) (slice_index text 1) in
    let quote = slice_index text p.len in
    let triple = slice_index text (p.len + 1) == quote && slice_index text (p.len + 2) == quote in
    let some = quotes_some triple in
    cond_both (is_quote quote) _ None OpensSome
    (λ _. record { opens = record { some = omega arith; text = (prefix_text (slice_index text 0) (slice_index text 1)).text } })
    (λ _. record { opens = tt })

opens_of : (text : List ℕ) (style : Style) (n : ℕ) → opening text ≡ Some (style, n) → Opens style n
opens_of text style n e = (subst OpensSome e (opening_opens text)).opens

pub opening_some : (text : List ℕ) (style : Style) (n : ℕ) → opening text ≡ Some (style, n) → 0 < n
opening_some text style n e = (opens_of text style n e).some

pub opening_text : (text : List ℕ) (style : Style) (n : ℕ) → opening text ≡ Some (style, n) → style.format ≡ true → style.bytes ≡ false
opening_text text style n e = (opens_of text style n e).text

pub one_open : (at : ℕ) (f : FString) → IsOpen at f → All (IsOpen at) (f ∷ [])
one_open at f here zero d h = here
one_open at f here (suc k) d h = absurd (omega arith)

-- one more is open
pub opened_more : (at : ℕ) (fs gs : List FString) (f : FString) (pushed : Bool) → gs ≡ cond pushed (fs ++ f ∷ []) fs → All (IsOpen at) fs → IsOpen at f
    → All (IsOpen at) gs
opened_more at fs gs f pushed e all here =
    subst (λ xs. All (IsOpen at) xs) (sym e)
    (cond_both pushed (fs ++ f ∷ []) fs (λ xs. All (IsOpen at) xs) (λ _. All-append (IsOpen at) fs (f ∷ []) all (one_open at f here)) (λ _. all))
