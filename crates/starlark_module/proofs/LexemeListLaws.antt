-- Lists of lexemes in a text come in order, and so does what passes them on.
use Rattle.std.proofs.Common.{ℕ, ◌<◌, ◌^◌, List, [], ◌∷◌, length, Option, Ok, Err, subst, ap, arith}
use Rattle.std.specs.Iterator.{Yields, YieldsFirst}
use Rattle.starlark_parse_cursor.specs.Order.{IsInOrder, ComesInOrder}
use Rattle.starlark_lexer.specs.Lexer.{CodeLexeme}
use Rattle.starlark_lexer.specs.Tokens.{Text}
use Rattle.starlark_module.specs.LexemeLists.{AreInText, lexemes_left}
use Rattle.starlark_module.specs.declared.module.lexeme_list.LexemeList.{LexemeList}

module _ (text : Text) (small : length text < 2 ^ 32) where
  -- the items of any run begin the list
  in_order : (s t : LexemeList) (xs : List CodeLexeme) (from : ℕ) → AreInText text from (lexemes_left s) → Yields (YieldsFirst lexemes_left) s xs t
      → IsInOrder from xs
  in_order s t [] from all ys = tt
  in_order s t (Ok x ∷ xs) from all (j, is, more) =
      let here = subst (AreInText text from) is all in
      let within = here.3.0 in
      (here.0, here.1, omega arith, in_order j t xs x.2 here.4 more)
  in_order s t (Err e ∷ xs) from all ys = tt

  pub list_in_order : (s : LexemeList) → AreInText text 0 (lexemes_left s) → ComesInOrder (YieldsFirst lexemes_left) s 0
  list_in_order s all = record { at = λ xs t ys. in_order s t xs 0 all ys }

-- an iterator that passes on what the one in it returns
module _ {S T : Type 0} (inner : S → T) (steps : T → Option CodeLexeme → T → Type 0) where
  inner_run : (s t : S) (xs : List CodeLexeme) → Yields (λ a r b. steps (inner a) r (inner b)) s xs t → Yields steps (inner s) xs (inner t)
  inner_run s t [] ys = ap inner ys
  inner_run s t (x ∷ xs) (j, given, more) = (inner j, given, inner_run j t xs more)

  pub handed_on_in_order : (s : S) (from : ℕ) → ComesInOrder steps (inner s) from → ComesInOrder (λ a r b. steps (inner a) r (inner b)) s from
  handed_on_in_order s from all = record { at = λ xs t ys. all.at xs (inner t) (inner_run s t xs ys) }
