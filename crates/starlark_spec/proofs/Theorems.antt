-- At most one derivation; and when the machine gets stuck, no program continues.
use Rattle.std.proofs.Common.{◌≡◌, List, [], refl, sym, ap, subst, Option, Some, None}
use Rattle.starlark_lexer.specs.Tokens.{Lexeme}
use Rattle.starlark_spec.specs.Items.{at_end}
use Rattle.starlark_spec.specs.Grammar.{Nonterminal, Derivation, RightSide, Derives, right_side, yield_of, side_condition}
use Rattle.starlark_spec.specs.Grammar.Nonterminal.{Module}
use Rattle.starlark_spec.specs.Program.{IsProgram}
use Rattle.starlark_spec.specs.Machine.States.{Place, State, top, module_root}
use Rattle.starlark_spec.specs.Machine.States.State.{done}
use Rattle.starlark_spec.specs.Machine.Sight.{look}
use Rattle.starlark_spec.specs.Machine.Moves.{Fail, Finish, move}
use Rattle.std.specs.Bool.{⊤}
use Rattle.starlark_lexer.specs.declared.kind.Kind.TheVariants as kinds
use Rattle.starlark_spec.proofs.Blocks.{obeys, AtEnd, side_condition_obeys}
use Rattle.starlark_spec.proofs.Complete.{complete, closing}
use Rattle.starlark_spec.specs.Machine.Steps.{start, module_done, Config, config, next, Reaches, here, more}
use Rattle.starlark_spec.specs.Machine.Answers.{EachDerivationIsRead}
use Rattle.starlark_spec.proofs.Runs.{trans, same_end}

-- if there is no token, the end is there
pub end_there : (r : List Lexeme) → AtEnd r → (look at_end r).kind ≡ kinds.End
end_there r e = ap (λ x. (look at_end x).kind) e

pub obeyed : (a : RightSide) → side_condition a [] ⊤ → obeys AtEnd a [] ⊤
obeyed a f = subst (λ (x : Type 0). x) (side_condition_obeys a [] ⊤) f

pub fitted : (a : RightSide) → obeys AtEnd a [] ⊤ → side_condition a [] ⊤
fitted a f = subst (λ (x : Type 0). x) (sym (side_condition_obeys a [] ⊤)) f

-- the machine ends with each derivation of what it reads
pub ends : (d : Derivation Module) → side_condition (right_side d) [] ⊤ → Reaches at_end (config start (yield_of d [])) (config (module_done d) [])
ends d f = trans (complete at_end d (top module_root) [] (closing at_end AtEnd end_there d [] ⊤ (obeyed (right_side d) f) (refl, refl))) (more here)

result_at : {b n : Nonterminal} → Place b n → Derivation n → Option (Derivation b)
result_at (top u) d = Some d
result_at _ d = None

result : {b : Nonterminal} → State b → Option (Derivation b)
result (done d p) = result_at p d
result _ = None

some_same : {A : Type 0} (x y : A) → Some x ≡ Some y → x ≡ y
some_same x y e = cc

-- there is one derivation
pub unique : (ts : List Lexeme) (d e : Derivation Module) → Derives Module ts [] d → Derives Module ts [] e → d ≡ e
unfolding result result_at
unique ts d e p q =
    let r : Reaches at_end (config start ts) (config (module_done d) []) = rw p.0 (ends d p.1) in
    let s : Reaches at_end (config start ts) (config (module_done e) []) = rw q.0 (ends e q.1) in
    some_same d e (ap (λ (c : Config Module). result c.state) (same_end r s refl refl))

-- when the machine gets stuck, no program continues
pub no_program : (ts rest : List Lexeme) (s : State Module) → Reaches at_end (config start ts) (config s rest) → move s (look at_end rest) ≡ Fail
    → IsProgram ts → ⊥
no_program ts rest s stop f p =
    let end : Reaches at_end (config start ts) (config (module_done p.0) []) = rw p.1.0 (ends p.0 p.1.1) in
    let same = same_end stop end (ap (λ m. next m (config s rest)) f) refl in
    let moves : move s (look at_end rest) ≡ Finish p.0 = ap (λ (c : Config Module). move c.state (look at_end c.rest)) same in
    cc

pub each_is_read : EachDerivationIsRead
each_is_read ts d h = rw h.0 (ends d h.1)
