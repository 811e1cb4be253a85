use Rattle.std.proofs.Common.{◌≡◌, ℕ, ◌≤◌, List, [], ◌∷◌, ◌++◌, Some, refl, sym, ap, ◌∙◌, arith}
use Rattle.std.specs.List.{All}
use Rattle.std.proofs.lemmas.List.{map-append}
use Rattle.std.proofs.lemmas.List.Elements.{All-pop}
use Rattle.starlark_lexer.specs.declared.span.Pos.{Pos}
use Rattle.starlark_tree.specs.Ast.{Expression, no_payload}
use Rattle.starlark_parse_build.specs.Operations.{bytes, not_from, negated}
use Rattle.starlark_parse_build.proofs.operations.negated.Goals as goal

negated_last : (xs : List ℕ) (x end : ℕ) (e : Expression no_payload) → negated (xs ++ x ∷ []) end e ≡ negated xs end (not_from x end e)
negated_last [] x end e = refl
negated_last (y ∷ xs) x end e = ap (not_from y end) (negated_last xs x end e)

module _ (ps qs : List Pos) (p : Pos) (end : ℕ) (whole : ps ≡ qs ++ p ∷ []) where
  bytes_popped : bytes ps ≡ bytes qs ++ p.byte ∷ []
  bytes_popped = ap bytes whole ∙ map-append (λ (p : Pos). p.byte) qs (p ∷ [])

  within_popped : All (λ b. b ≤ end) (bytes ps) → All (λ b. b ≤ end) (bytes qs)
  within_popped w = (All-pop (λ b. b ≤ end) (bytes ps) (bytes qs) (Some p.byte) bytes_popped w).0

  negated_popped : (e : Expression no_payload) → negated (bytes ps) end e ≡ negated (bytes qs) end (not_from p.byte end e)
  negated_popped e = ap (λ xs. negated xs end e) bytes_popped ∙ negated_last (bytes qs) p.byte end e

pub negating-preserved : goal.negating-preserved
negating-preserved c =
    let rest = c.pop.new.self.items in
    let end = c.args.end.byte in
    let reaches : c.in_ok-operand.operand.tree.value.span.end.byte ≡ end = ap (λ (p : Pos). p.byte) c.in_ok-operand.ensures.ends in (
      within_popped _ _ _ end c.in-Some.ensures.items c.negating.invariant.0,
      omega (arith, reaches),
      omega (arith, reaches, c.requires.end),
      ap (negated (bytes rest) end) c.in_ok-operand.ensures.means
          ∙ sym (negated_popped _ _ _ end c.in-Some.ensures.items _)
          ∙ c.negating.invariant.3,
    )
