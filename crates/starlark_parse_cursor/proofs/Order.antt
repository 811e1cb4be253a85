-- Lexemes in order.
use Rattle.std.proofs.Common.{ℕ, ◌<◌, ◌≤◌, ◌^◌, List, [], ◌∷◌, Option, Some, Ok, Err, refl, arith}
use Rattle.starlark_lexer.specs.Lexer.{CodeLexeme}
use Rattle.starlark_parse_cursor.specs.Order.{IsInOrder, ComesInOrder}

pub earlier : (a b : ℕ) (xs : List CodeLexeme) → a ≤ b → IsInOrder b xs → IsInOrder a xs
earlier a b [] h i = tt
earlier a b (Ok x ∷ xs) h i = (omega (arith, h, i.0), i.1, i.2, i.3)
earlier a b (Err e ∷ xs) h i = tt

module _ {S : Type 0} {steps : S → Option CodeLexeme → S → Type 0} where
  pub first_in_order : {s t : S} {from : ℕ} {x : ℕ × _ × ℕ} → ComesInOrder steps s from → steps s (Some (Ok x)) t → (from ≤ x.0) × (x.0 ≤ x.2) × (x.2 < 2 ^ 32)
  first_in_order {t = t} {x = x} o h = let i = o.at (Ok x ∷ []) t (t, h, refl) in (i.0, i.1, i.2)

  pub rest_in_order : {s t : S} {from : ℕ} {x : ℕ × _ × ℕ} → ComesInOrder steps s from → steps s (Some (Ok x)) t → ComesInOrder steps t x.2
  rest_in_order {t = t} {x = x} o h = record { at = λ xs u y. (o.at (Ok x ∷ xs) u (t, h, y)).3 }

  pub in_order_earlier : {s : S} (a b : ℕ) → ComesInOrder steps s b → a ≤ b → ComesInOrder steps s a
  in_order_earlier a b o h = record { at = λ xs t y. earlier a b xs h (o.at xs t y) }
