-- The machine terminates, so it has an answer for all items.
use Rattle.std.proofs.Common.{ℕ, zero, suc, ◌≡◌, ◌≤◌, ◌<◌, arith, List, [], ◌∷◌, ◌++◌, length, refl, sym, ◌∙◌, ap, subst, append_assoc, Option, Some, None}
use Rattle.starlark_lexer.specs.Tokens.{Lexeme}
use Rattle.starlark_lexer.specs.declared.dialect.DialectTypes.{DialectTypes}
use Rattle.starlark_lexer.specs.declared.kind.Kind.TheVariants as kinds
use Rattle.starlark_tree.specs.Ast.{Statement, no_payload}
use Rattle.starlark_spec.specs.Faults.{Fault}
use Rattle.starlark_spec.specs.Items.{Items, Ending, at_end, fails, out_of_memory}
use Rattle.starlark_spec.specs.Trees.{module_tree}
use Rattle.starlark_spec.specs.Answers.{Answer, end_of}
use Rattle.starlark_spec.specs.Answers.Answer.{module_of, memory, broken_rule}
use Rattle.starlark_spec.specs.Grammar.{Derivation}
use Rattle.starlark_spec.specs.Grammar.Nonterminal.{Module}
use Rattle.starlark_spec.specs.Machine.States.{State, Rooted, top, module_root}
use Rattle.starlark_spec.specs.Machine.States.State.{done}
use Rattle.starlark_spec.specs.Machine.Sight.{look, sight}
use Rattle.starlark_spec.specs.Machine.Moves.{Move, Keep, Take, Fail, Finish, move}
use Rattle.starlark_spec.specs.Machine.Faults.{fault_at}
use Rattle.starlark_spec.specs.Machine.ReadParts.{seen}
use Rattle.starlark_spec.specs.Machine.Steps.{start, module_done, Config, config, next, step, after_first, Clean, rests, steps_on}
use Rattle.starlark_spec.specs.Machine.Answers.{Comes, Answered, finished, stopped, refuses, stop_of}
use Rattle.starlark_spec.specs.Answers.{EachListIsAnswered}
use Rattle.starlark_spec.proofs.Runs.{runs}
use Rattle.starlark_spec.proofs.Viable.{IsFair, IsFair.takes as fair_takes, fair}
use Rattle.starlark_spec.proofs.ConsumedTokens.{first_of}
use Rattle.starlark_spec.proofs.BlockEnds.{end_alone}
use Rattle.starlark_spec.proofs.CompletedNodes.{Settled, settled}
use Rattle.starlark_spec.proofs.StepBounds.{measure, Lessens, less, takes, stops, finishes, lessens}
use Rattle.starlark_spec.proofs.CorrectAnswers.{each_is_right}

one_more_step : {y : DialectTypes} {z : Ending} {a c : Config Module} → Clean y z a c → fault_at y c.state (look z c.rest) ≡ None → Clean y z a (step z c)
one_more_step rests n = steps_on n rests
one_more_step (steps_on f q) n = steps_on f (one_more_step q n)

root_whole : (u : Rooted Module) (d : Derivation Module) → done d (top u) ≡ module_done d
root_whole module_root d = refl

module _ (y : DialectTypes) (items : Items) where
  abbrev Found : Type 0
  Found = (a : Answer) × Answered y items a

  at_whole : (s : State Module) (rest : List Lexeme) (d : Derivation Module) → s ≡ module_done d → Comes y items s rest → Found
  at_whole s rest d e q =
      let k : (look items.ending rest).kind ≡ kinds.End = subst (λ (t : State Module). Settled t (look items.ending rest).kind) e (settled (runs q) tt) in
      let n = end_alone items.ending rest k in
      (module_of (module_tree d), finished d n.1 (subst (λ r. Comes y items (module_done d) r) n.0 (subst (λ (t : State Module). Comes y items t rest) e q)))

  by_move : (s : State Module) (before rest : List Lexeme) → items.tokens ≡ before ++ rest → Comes y items s rest → fault_at y s (look items.ending rest)
      ≡ None → (m : Move Module) → move s (look items.ending rest) ≡ m
      → Lessens s (measure s) m → IsFair (seen s) (look items.ending rest) m
      → ((t : State Module) → Comes y items t rest → measure t < measure s → Found) → ((t : State Module) (x : Lexeme) (others : List Lexeme)
      → rest ≡ x ∷ others → Comes y items t others → Found) → Found
  by_move s before rest e q n (Keep t) f (less h) g near far =
      near t (subst (λ c. Clean y items.ending (config start items.tokens) c) (ap (λ k. next k (config s rest)) f) (one_more_step q n)) h
  by_move s before rest e q n (Take t) f takes (fair_takes v u o i) near far =
      let k = first_of items.ending rest i in
      far t k.first k.rest k.split (subst (λ c. Clean y items.ending (config start items.tokens) c) (ap (λ k. next k (config s rest)) f
      ∙ ap (λ r. config t r) (ap after_first k.split)) (one_more_step q n))
  by_move s before rest e q n Fail f stops g near far = (stop_of (sight items.ending rest) (end_of before), stopped s before rest e q n f)
  by_move s before rest e q n (Finish d) f (finishes {u = u} h) g near far = at_whole s rest d (h ∙ root_whole u d) q

  by_fault : (s : State Module) (before rest : List Lexeme) → items.tokens ≡ before ++ rest → Comes y items s rest → (o : Option Fault)
      → fault_at y s (look items.ending rest) ≡ o
      → ((t : State Module) → Comes y items t rest → measure t < measure s → Found) → ((t : State Module) (x : Lexeme) (others : List Lexeme)
      → rest ≡ x ∷ others → Comes y items t others → Found) → Found
  by_fault s before rest e q (Some f) h near far = (broken_rule f, refuses s rest f q h)
  by_fault s before rest e q None h near far = by_move s before rest e q h (move s (look items.ending rest)) refl (lessens s (look items.ending rest))
      (fair s (look items.ending rest)) near far

  -- if the shorter lists have answers, so has this one, within this many steps
  within : (n : ℕ) → ((s : State Module) (before rest : List Lexeme) → items.tokens ≡ before ++ rest → Comes y items s rest → length rest < n → Found)
      → (k : ℕ) (s : State Module) (before rest : List Lexeme) → items.tokens ≡ before ++ rest → Comes y items s rest → length rest ≤ n → measure s ≤ k → Found
  within n on zero s before rest e q l m =
      by_fault s before rest e q (fault_at y s (look items.ending rest)) refl (λ t c h. absurd (omega (arith, h, m)))
      (λ t x others p c. on t (before ++ x ∷ []) others (e ∙ ap (λ r. before ++ r) p ∙ sym (append_assoc before (x ∷ []) others)) c
      (omega (arith, l, ap length p)))
  within n on (suc k) s before rest e q l m =
      by_fault s before rest e q (fault_at y s (look items.ending rest)) refl (λ t c h. within n on k t before rest e c l (omega (arith, h, m)))
      (λ t x others p c. on t (before ++ x ∷ []) others (e ∙ ap (λ r. before ++ r) p ∙ sym (append_assoc before (x ∷ []) others)) c
      (omega (arith, l, ap length p)))

  lengths : (n : ℕ) (s : State Module) (before rest : List Lexeme) → items.tokens ≡ before ++ rest → Comes y items s rest → length rest ≤ n → Found
  lengths zero s before rest e q l = within zero (λ t b r f c h. absurd (omega (arith, h))) (measure s) s before rest e q l (omega arith)
  lengths (suc n) s before rest e q l = within (suc n) (λ t b r f c h. lengths n t b r f c (omega (arith, h))) (measure s) s before rest e q l (omega arith)

  found : Found
  found = lengths (length items.tokens) start [] items.tokens refl rests (omega arith)

stop_wants : (z : Ending) (rest : List Lexeme) (end : ℕ) → stop_of (sight z rest) end ≡ memory → z ≡ out_of_memory
stop_wants at_end [] end e = cc
stop_wants (fails f) [] end e = cc
stop_wants out_of_memory [] end e = refl
stop_wants z (x ∷ rest) end e = cc

no_module : {s : Statement no_payload} → module_of s ≡ memory → ⊥
no_module e = cc

no_rule : {f : Fault} → broken_rule f ≡ memory → ⊥
no_rule e = cc

-- the machine's answer is out of memory if the lexer ran out of memory
wants : {y : DialectTypes} {items : Items} (a : Answer) → Answered y items a → a ≡ memory → items.ending ≡ out_of_memory
wants a (finished d z q) e = absurd (no_module e)
wants {items = items} a (stopped s before rest w q n f) e = stop_wants items.ending rest (end_of before) e
wants a (refuses s rest f q h) e = absurd (no_rule e)

pub each_is_answered : EachListIsAnswered
each_is_answered y items = let f = found y items in (f.0, each_is_right y items f.0 f.1, wants f.0 f.1)
