-- The machine has read no block without its Dedent, or is at the end and has only ends before it.
use Rattle.std.proofs.Common.{◌≡◌, Bool, true, false, List, [], ◌∷◌, refl, sym, ◌∙◌, ap, ◌⊎◌, inl, inr}
use Rattle.std.specs.Bool.{⊤}
use Rattle.starlark_lexer.specs.Tokens.{Lexeme}
use Rattle.starlark_lexer.specs.declared.kind.Kind.TheVariants as kinds
use Rattle.starlark_spec.specs.Items.{Ending, at_end, fails, out_of_memory}
use Rattle.starlark_spec.specs.Grammar.{Nonterminal, ElementKind, ElementOf, PrecedenceLevel, OperandOf, Derivation, right_side}
use Rattle.starlark_spec.specs.Grammar.RightSide.{◌⨾◌}
use Rattle.starlark_spec.specs.Grammar.OperandOf.{of_or, of_and, of_bit_or, of_xor, of_bit_and, of_shift, of_add, of_multiply}
use Rattle.starlark_spec.specs.Grammar.ElementOf.{of_elements, of_arguments, of_entries, of_lambda_parameters, of_variables, of_symbols, of_def_parameters}
use Rattle.starlark_spec.specs.Machine.States.{Place, State, top}
use Rattle.starlark_spec.specs.Machine.States.State.{read, done, module_tail, block_tail}
use Rattle.starlark_spec.specs.Machine.States.Place.{top, module_stmt_at, def_suite_at, if_suite_at, if_rest_at, stmt_for_at, for_suite_at, elif_suite_at}
use Rattle.starlark_spec.specs.Machine.States.Place.{elif_rest_at, else_suite_at, suite_block_at, block_first_at, block_stmt_at, left_first_at, left_right_at}
use Rattle.starlark_spec.specs.Machine.States.Place.{comma_list_one_at, comma_list_more_at}
use Rattle.starlark_spec.specs.Machine.Sight.{Look, look, is_ending}
use Rattle.starlark_spec.specs.Machine.Moves.{Move, Keep, Take, Fail, Finish, move}
use Rattle.starlark_spec.specs.Machine.ReadParts.{seen, seen_at}
use Rattle.starlark_spec.specs.Machine.Steps.{Config, config, next, step, Reaches, here, more}
use Rattle.starlark_spec.proofs.KindTests.{no_ending}
use Rattle.starlark_spec.proofs.Blocks.{opened, obeys, AtEnd}
use Rattle.starlark_spec.proofs.Viable.{IsBlocks, Level, IsFair, IsFair.keeps, IsFair.closes, IsFair.opens, IsFair.takes, IsFair.fails as fair_fails}
use Rattle.starlark_spec.proofs.Viable.{IsFair.finishes as fair_finishes, fair, open_side_condition, all_side_conditions, Whole, WholeState}
use Rattle.starlark_spec.specs.Grammar.Nonterminal.{Module, Stmt, Suite, Block, Rest, For}

-- a state that is at the end and has only ends before it, and the state after a move from it
abbrev pub Popped : {b : Nonterminal} → Move b → Type 0
Popped (Keep t) = Level t × obeys AtEnd (seen t) [] ⊤
Popped (Take t) = ⊥
Popped m = ⊤

no_level_under : {k : PrecedenceLevel} {n : Nonterminal} (u : OperandOf k n) → ¬ IsBlocks n
no_level_under of_or h = h
no_level_under of_and h = h
no_level_under of_bit_or h = h
no_level_under of_xor h = h
no_level_under of_bit_and h = h
no_level_under of_shift h = h
no_level_under of_add h = h
no_level_under of_multiply h = h

no_level_of : {k : ElementKind} {n : Nonterminal} (u : ElementOf k n) → ¬ IsBlocks n
no_level_of of_elements h = h
no_level_of of_arguments h = h
no_level_of of_entries h = h
no_level_of of_lambda_parameters h = h
no_level_of of_variables h = h
no_level_of of_symbols h = h
no_level_of of_def_parameters h = h

pops : {b : Nonterminal} (s : State b) (l : Look) → l.kind ≡ kinds.End → Level s → obeys AtEnd (seen s) [] ⊤ → Popped (move s l)
pops (read Rest p) l e v h = rw e (tt, h)
pops (read n p) l e v h = absurd v
pops (done d (top u)) l e v h = tt
pops (done d (module_stmt_at m p)) l e v h = (tt, h)
pops (done s (def_suite_at d text i o ps c t k p)) l e v h = (tt, h)
pops (done s (if_suite_at i d c p)) l e v h = (tt, h)
pops (done r (if_rest_at i d c s p)) l e v h = (tt, h)
pops (done d (stmt_for_at p)) l e v h = (tt, h)
pops (done s (for_suite_at f d i r c p)) l e v h = (tt, h)
pops (done s (elif_suite_at i d c p)) l e v h = (tt, h)
pops (done r (elif_rest_at i d c s p)) l e v h = (tt, h)
pops (done s (else_suite_at i c p)) l e v h = (tt, h)
pops (done c (suite_block_at n d i p)) l e v h = rw e (tt, open_side_condition n d i c p h)
pops (done s (block_first_at d p)) l e v h = (tt, h)
pops (done s (block_stmt_at d p)) l e v h = (tt, h)
pops (done d (left_first_at u p)) l e v h = absurd (no_level_under u v)
pops (done d (left_right_at u q o s p)) l e v h = absurd (no_level_under u v)
pops (done d (comma_list_one_at u p)) l e v h = absurd (no_level_of u v)
pops (done d (comma_list_more_at u q c p)) l e v h = absurd (no_level_of u v)
pops (done d p) l e v h = absurd v
pops (module_tail m p) l e v h = rw e (tt, h)
pops (block_tail d p) l e v h = rw e (tt, h)
pops s l e v h = absurd v

-- the end is reached, and only ends were before it
pub record Ended {b : Nonterminal} (z : Ending) (c : Config b) : Type 0 where
  pub nothing_left : c.rest ≡ []
  pub ends : z ≡ at_end
  pub level : Level c.state
  pub fits : obeys AtEnd (seen c.state) [] ⊤

abbrev pub IsSound : {b : Nonterminal} → Ending → Config b → Type 0
IsSound z c = (opened (seen c.state) 0 ≡ 0) ⊎ Ended z c

pub end_alone : (z : Ending) (rest : List Lexeme) → (look z rest).kind ≡ kinds.End → (rest ≡ []) × (z ≡ at_end)
end_alone at_end [] h = (refl, refl)
end_alone (fails f) [] h = cc
end_alone out_of_memory [] h = cc
end_alone z (x ∷ rest) h = absurd (no_end (no_ending x.token) (ap is_ending h))
  where
    no_end : {c : Bool} → c ≡ false → c ≡ true → ⊥
    no_end f g = let k : false ≡ true = sym f ∙ g in cc

by_fair : {b : Nonterminal} (z : Ending) (a : Config b) (m : Move b) → IsFair (seen a.state) (look z a.rest) m → opened (seen a.state) 0 ≡ 0
    → IsSound z (next m a)
by_fair z a (Keep t) (keeps f g o) h = inl (o 0 ∙ h)
by_fair z a (Keep t) (closes f g o) h = inl (o 0 ∙ h)
by_fair z a (Keep t) (opens f g v o e) h = let k = end_alone z a.rest e in inr (record { nothing_left = k.0; ends = k.1; level = v; fits = o h })
by_fair z a (Take t) (takes f g o i) h = inl (o 0 ∙ h)
by_fair z a Fail fair_fails h = inl h
by_fair z a (Finish d) fair_finishes h = inl h

by_pop : {b : Nonterminal} (z : Ending) (a : Config b) (m : Move b) → Popped m → Ended z a → IsSound z (next m a)
by_pop z a (Keep t) h e = inr (record { nothing_left = e.nothing_left; ends = e.ends; level = h.0; fits = h.1 })
by_pop z a (Take t) h e = absurd h
by_pop z a Fail h e = inr e
by_pop z a (Finish d) h e = inr e

sound_step : {b : Nonterminal} (z : Ending) (a : Config b) → IsSound z a → IsSound z (step z a)
sound_step z a (inl h) = by_fair z a (move a.state (look z a.rest)) (fair a.state (look z a.rest)) h
sound_step z a (inr e) = by_pop z a (move a.state (look z a.rest)) (pops a.state (look z a.rest) (kind_there z a e) e.level e.fits) e
  where
    kind_there : {b : Nonterminal} (z : Ending) (a : Config b) → Ended z a → (look z a.rest).kind ≡ kinds.End
    kind_there z a e = rw (e.nothing_left, e.ends) refl

-- this holds along each run from the start
pub sound : {b : Nonterminal} {z : Ending} {a c : Config b} → Reaches z a c → IsSound z a → IsSound z c
sound here h = h
sound {z = z} {a = a} (more q) h = sound q (sound_step z a h)

whole_done : {b n : Nonterminal} (p : Place b n) (d : Derivation n) → opened (seen_at p ⨾ right_side d) 0 ≡ 0 → Whole n p d
whole_done {n = Module} p d h = all_side_conditions (seen_at p ⨾ right_side d) h
whole_done {n = Stmt} p d h = all_side_conditions (seen_at p ⨾ right_side d) h
whole_done {n = Suite} p d h = all_side_conditions (seen_at p ⨾ right_side d) h
whole_done {n = Block} p d h = all_side_conditions (seen_at p ⨾ right_side d) h
whole_done {n = Rest} p d h = all_side_conditions (seen_at p ⨾ right_side d) h
whole_done {n = For} p d h = all_side_conditions (seen_at p ⨾ right_side d) h
whole_done p d h = h

closed_whole : {b : Nonterminal} (s : State b) → opened (seen s) 0 ≡ 0 → WholeState s
closed_whole (read Rest p) h = all_side_conditions (seen_at p) h
closed_whole (read n p) h = h
closed_whole (done d p) h = whole_done p d h
closed_whole (module_tail m p) h = all_side_conditions (seen_at p ⨾ right_side m) h
closed_whole (block_tail d p) h = all_side_conditions (seen_at p ⨾ right_side d) h
closed_whole s h = h

level_done : {b n : Nonterminal} (p : Place b n) (d : Derivation n) → IsBlocks n → obeys AtEnd (seen_at p ⨾ right_side d) [] ⊤ → Whole n p d
level_done {n = Module} p d v h = h
level_done {n = Stmt} p d v h = h
level_done {n = Suite} p d v h = h
level_done {n = Block} p d v h = h
level_done {n = Rest} p d v h = h
level_done {n = For} p d v h = h
level_done p d v h = absurd v

level_whole : {b : Nonterminal} (s : State b) → Level s → obeys AtEnd (seen s) [] ⊤ → WholeState s
level_whole (read Rest p) v h = h
level_whole (read n p) v h = absurd v
level_whole (done d p) v h = level_done p d v h
level_whole (module_tail m p) v h = h
level_whole (block_tail d p) v h = h
level_whole s v h = absurd v

-- what a run has read may be completed
pub whole_state : {b : Nonterminal} {z : Ending} (s : State b) (rest : List Lexeme) → IsSound z (config s rest) → WholeState s
whole_state s rest (inl h) = closed_whole s h
whole_state s rest (inr e) = level_whole s e.level e.fits
