-- A table that names no operator of a statement leaves it unchanged.
use Rattle.std.proofs.Common.{◌≡◌, ℕ, false, List, [], ◌∷◌, None, Result, Ok, Err, String, string_bytes, option_map, refl, ap, ◌∙◌, arith}
use Rattle.std.specs.Prelude.{cond, is_some}
use Rattle.std.specs.HashMap.{HashMap, IsEmpty}
use Rattle.std.specs.Map.{lookup}
use Rattle.std.specs.Str.{bytes_eq}
use Rattle.starlark_lexer.specs.Tokens.{Text}
use Rattle.starlark_tree.specs.Ast as t
use Rattle.starlark_tree.specs.Ast.{no_payload}
use Rattle.starlark_tree.specs.Inside.{inside_statement}
use Rattle.starlark_passes.specs.Replace.Parts.{Replaces, a_statement}
use Rattle.starlark_passes.specs.Replace.Replacing.{Table, is_named, named, operator_name, operators, table_of}
use Rattle.starlark_passes.proofs.ReplaceLemmas.Laws.{named-cons, none-statement}

-- a table without names names no expression
module _ (table : Table) (empty : (name : Text) → table name ≡ None) where
  not_named : (e : t.Expression no_payload) → is_named table e ≡ false
  not_named (t.expression s (t.Op l op r)) = ap is_some (empty (operator_name op))
  not_named (t.expression s (t.Tuple es)) = refl
  not_named (t.expression s (t.Dot e w)) = refl
  not_named (t.expression s (t.Call f passed)) = refl
  not_named (t.expression s (t.Index a x)) = refl
  not_named (t.expression s (t.Index2 a x y)) = refl
  not_named (t.expression s (t.Slice a start stop step)) = refl
  not_named (t.expression s (t.Identifier w p)) = refl
  not_named (t.expression s (t.Lambda ps e p)) = refl
  not_named (t.expression s (t.Constant l)) = refl
  not_named (t.expression s (t.Not e)) = refl
  not_named (t.expression s (t.Minus e)) = refl
  not_named (t.expression s (t.Plus e)) = refl
  not_named (t.expression s (t.BitNot e)) = refl
  not_named (t.expression s (t.If c v w)) = refl
  not_named (t.expression s (t.List es)) = refl
  not_named (t.expression s (t.Dict ps)) = refl
  not_named (t.expression s (t.ListComprehension e first cs)) = refl
  not_named (t.expression s (t.DictComprehension key v first cs)) = refl
  not_named (t.expression s (t.FString at w es)) = refl

  none_named : (es : List (t.Expression no_payload)) → named table es ≡ 0
  none_named [] = refl
  none_named (e ∷ es) =
      let counted = named-cons table e es in
      let none : cond (is_named table e) 1 0 ≡ 0 = ap {B = ℕ} (λ b. cond b 1 0) (not_named e) in
      let others = none_named es in
      omega (arith, counted, none, others)

-- a map without entries is such a table
map_names_none : {A B S : Type 0} (m : HashMap (String A) (String B) S) → IsEmpty m → (name : Text) → table_of m name ≡ None
map_names_none m empty name = ap (λ es. option_map string_bytes (lookup (λ k. bytes_eq name (string_bytes k)) es)) empty

pub empty_names_none : {A B S : Type 0} (m : HashMap (String A) (String B) S) → IsEmpty m → (s : t.Statement no_payload) → operators (table_of m) s ≡ 0
empty_names_none m empty s = none_named (table_of m) (map_names_none m empty) (inside_statement s)

-- the result for a statement in which the table names none
pub unnamed : {E : Type 0} (table : Table) (r : Result (Unit {0}) E) (old new : t.Statement no_payload) → Replaces table (a_statement table) r old new
    → operators table old ≡ 0
    → (r ≡ Ok tt) × (new ≡ old)
unnamed table (Ok tt) old new h none = (refl, h.stands ∙ none-statement table h.count (h.reaches ∙ none) old)
unnamed table (Err e) old new h none = let few = h.reaches in absurd (omega (arith, few, none))
