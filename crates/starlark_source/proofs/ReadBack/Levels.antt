-- An expression of a level is one of each looser level.
use Rattle.std.proofs.Common.{◌≡◌, ℕ, zero, suc, ◌+◌, ◌-◌, ◌==◌, Bool, true, false, if◌then◌else◌, refl, sym, ap, ◌∙◌, subst, arith}
use Rattle.std.proofs.lemmas.Bool.{ltb-false, le-ltb}
use Rattle.starlark_lexer.specs.Tokens.{nowhere}
use Rattle.starlark_tree.specs.Ast.{no_payload, Expression}
use Rattle.starlark_spec.specs.Grammar.{Nonterminal}
use Rattle.starlark_spec.specs.Grammar.PrecedenceLevel.{or_precedence, and_precedence, bit_or_precedence, xor_precedence, bit_and_precedence}
use Rattle.starlark_spec.specs.Grammar.PrecedenceLevel.{shift_precedence, add_precedence, multiply_precedence}
use Rattle.starlark_spec.specs.Grammar.Nonterminal.{Test, Not, Comp, Unary, Primary, LeftAssociative}
use Rattle.starlark_spec.specs.Grammar.OperandOf.{of_or, of_and, of_bit_or, of_xor, of_bit_and, of_shift, of_add, of_multiply}
use Rattle.starlark_spec.specs.Grammar.ElementOf.{of_elements}
use Rattle.starlark_spec.specs.Grammar.Derivation.{test_or, left_one, not_comp, comp_one, unary_primary, primary_atom, atom_round, optional_list_plain}
use Rattle.starlark_spec.specs.Grammar.Derivation.{comma_list_one}
use Rattle.starlark_spec.specs.Trees.{TreeOf}
use Rattle.starlark_source.specs.declared.level.Level.{Level}
use Rattle.starlark_source.specs.declared.level.Level.TheVariants as level
use Rattle.starlark_source.specs.Levels.{rank, is_looser}
use Rattle.starlark_source.specs.Pieces.{Pieces, in_round}
use Rattle.starlark_source.specs.Source.{bracketed}
use Rattle.starlark_source.specs.Unspanned.{unspanned}
use Rattle.starlark_source.proofs.ReadBack.Writing.{Sayable, split, Reads, one, followed, after}

abbrev pub nonterminal_of : Level → Nonterminal
nonterminal_of level.Test = Test
nonterminal_of level.Or = LeftAssociative or_precedence
nonterminal_of level.And = LeftAssociative and_precedence
nonterminal_of level.Not = Not
nonterminal_of level.Comparison = Comp
nonterminal_of level.BitOr = LeftAssociative bit_or_precedence
nonterminal_of level.Xor = LeftAssociative xor_precedence
nonterminal_of level.BitAnd = LeftAssociative bit_and_precedence
nonterminal_of level.Shift = LeftAssociative shift_precedence
nonterminal_of level.Add = LeftAssociative add_precedence
nonterminal_of level.Multiply = LeftAssociative multiply_precedence
nonterminal_of level.Unary = Unary
nonterminal_of level.Number = Primary
nonterminal_of level.Primary = Primary

-- the tree of an expression of a level, without spans
abbrev pub seen_at : (k : Level) → TreeOf (nonterminal_of k) → Expression no_payload
seen_at level.Test e = unspanned e
seen_at level.Or e = unspanned e
seen_at level.And e = unspanned e
seen_at level.Not e = unspanned e
seen_at level.Comparison e = unspanned e
seen_at level.BitOr e = unspanned e
seen_at level.Xor e = unspanned e
seen_at level.BitAnd e = unspanned e
seen_at level.Shift e = unspanned e
seen_at level.Add e = unspanned e
seen_at level.Multiply e = unspanned e
seen_at level.Unary e = unspanned e
seen_at level.Number e = unspanned e
seen_at level.Primary e = unspanned e

-- pieces are read as an expression of a level
abbrev pub At : Level → Pieces → Expression no_payload → Type 0
At k ps e = Reads (nonterminal_of k) (λ v. seen_at k v) ps e

-- the next looser level
abbrev looser : Level → Level
looser level.Test = level.Test
looser level.Or = level.Test
looser level.And = level.Or
looser level.Not = level.And
looser level.Comparison = level.Not
looser level.BitOr = level.Comparison
looser level.Xor = level.BitOr
looser level.BitAnd = level.Xor
looser level.Shift = level.BitAnd
looser level.Add = level.Shift
looser level.Multiply = level.Add
looser level.Unary = level.Multiply
looser level.Number = level.Unary
looser level.Primary = level.Number

loosened : (k : Level) {ps : Pieces} {e : Expression no_payload} → At k ps e → At (looser k) ps e
loosened level.Test r = r
loosened level.Or r = record { derivation = test_or r.derivation; writes = r.writes; looks = r.looks }
loosened level.And r = record { derivation = left_one of_or r.derivation; writes = r.writes; looks = r.looks }
loosened level.Not r = record { derivation = left_one of_and r.derivation; writes = r.writes; looks = r.looks }
loosened level.Comparison r = record { derivation = not_comp r.derivation; writes = r.writes; looks = r.looks }
loosened level.BitOr r = record { derivation = comp_one r.derivation; writes = r.writes; looks = r.looks }
loosened level.Xor r = record { derivation = left_one of_bit_or r.derivation; writes = r.writes; looks = r.looks }
loosened level.BitAnd r = record { derivation = left_one of_xor r.derivation; writes = r.writes; looks = r.looks }
loosened level.Shift r = record { derivation = left_one of_bit_and r.derivation; writes = r.writes; looks = r.looks }
loosened level.Add r = record { derivation = left_one of_shift r.derivation; writes = r.writes; looks = r.looks }
loosened level.Multiply r = record { derivation = left_one of_add r.derivation; writes = r.writes; looks = r.looks }
loosened level.Unary r = record { derivation = left_one of_multiply r.derivation; writes = r.writes; looks = r.looks }
loosened level.Number r = record { derivation = unary_primary r.derivation; writes = r.writes; looks = r.looks }
loosened level.Primary r = record { derivation = r.derivation; writes = r.writes; looks = r.looks }

rank-looser : (k : Level) → rank (looser k) ≡ rank k - 1
rank-looser level.Test = refl
rank-looser level.Or = refl
rank-looser level.And = refl
rank-looser level.Not = refl
rank-looser level.Comparison = refl
rank-looser level.BitOr = refl
rank-looser level.Xor = refl
rank-looser level.BitAnd = refl
rank-looser level.Shift = refl
rank-looser level.Add = refl
rank-looser level.Multiply = refl
rank-looser level.Unary = refl
rank-looser level.Number = refl
rank-looser level.Primary = refl

-- the level of a rank
abbrev ranked : ℕ → Level
ranked n =
    if n == 0 then level.Test else if n == 1 then level.Or else if n == 2 then level.And else if n == 3 then level.Not
    else if n == 4 then level.Comparison else if n == 5 then level.BitOr else if n == 6 then level.Xor else if n == 7 then level.BitAnd
    else if n == 8 then level.Shift else if n == 9 then level.Add else if n == 10 then level.Multiply else if n == 11 then level.Unary
    else if n == 12 then level.Number else level.Primary

ranked-rank : (k : Level) → ranked (rank k) ≡ k
ranked-rank level.Test = refl
ranked-rank level.Or = refl
ranked-rank level.And = refl
ranked-rank level.Not = refl
ranked-rank level.Comparison = refl
ranked-rank level.BitOr = refl
ranked-rank level.Xor = refl
ranked-rank level.BitAnd = refl
ranked-rank level.Shift = refl
ranked-rank level.Add = refl
ranked-rank level.Multiply = refl
ranked-rank level.Unary = refl
ranked-rank level.Number = refl
ranked-rank level.Primary = refl

-- this many levels looser
lifted : (n : ℕ) (k j : Level) {ps : Pieces} {e : Expression no_payload} → rank k ≡ n + rank j → At k ps e → At j ps e
lifted zero k j {ps = ps} {e = e} is r =
    let same : rank k ≡ rank j = omega (arith, is) in
    subst (λ l. At l ps e) (sym (ranked-rank k) ∙ ap ranked same ∙ ranked-rank j) r
lifted (suc n) k j is r = lifted n (looser k) j (omega (arith, is, rank-looser k)) (loosened k r)

pub at_looser : (k j : Level) {ps : Pieces} {e : Expression no_payload} → is_looser k j ≡ false → At k ps e → At j ps e
at_looser k j is r = lifted (rank k - rank j) k j (omega (arith, ltb-false (rank k) (rank j) is)) r

-- where any expression is allowed
pub at_any : (k : Level) {ps : Pieces} {e : Expression no_payload} → At k ps e → At level.Test ps e
at_any k r = at_looser k level.Test (le-ltb (rank k) 0 (omega arith)) r

-- ---- in parentheses

pub rounded : {ps : Pieces} {e : Expression no_payload} → At level.Test ps e → At level.Primary (in_round ps) e
rounded r = record {
  derivation = primary_atom (atom_round nowhere (optional_list_plain (comma_list_one of_elements r.derivation)) nowhere);
  writes = after (followed r.writes one);
  looks = r.looks;
}

primary_tightest : (k : Level) → is_looser level.Primary k ≡ false
primary_tightest level.Test = refl
primary_tightest level.Or = refl
primary_tightest level.And = refl
primary_tightest level.Not = refl
primary_tightest level.Comparison = refl
primary_tightest level.BitOr = refl
primary_tightest level.Xor = refl
primary_tightest level.BitAnd = refl
primary_tightest level.Shift = refl
primary_tightest level.Add = refl
primary_tightest level.Multiply = refl
primary_tightest level.Unary = refl
primary_tightest level.Number = refl
primary_tightest level.Primary = refl

placed_if : (b : Bool) (own k : Level) (ps : Pieces) (e : Expression no_payload) → is_looser own k ≡ b → (Sayable ps → At own ps e) → Sayable (bracketed b ps)
    → At k (bracketed b ps) e
placed_if true own k ps e is r h =
    at_looser level.Primary k (primary_tightest k) (rounded (at_any own (r (split ps _ h).0)))
placed_if false own k ps e is r h = at_looser own k is (r h)

-- an expression where one of a level is allowed
pub placed_at : (own k : Level) (ps : Pieces) (e : Expression no_payload) → (Sayable ps → At own ps e) → Sayable (bracketed (is_looser own k) ps)
    → At k (bracketed (is_looser own k) ps) e
placed_at own k ps e r h = placed_if (is_looser own k) own k ps e refl r h
