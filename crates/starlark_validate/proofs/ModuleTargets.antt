-- If a module keeps the rules that are tested while tokens are read, what it assigns to are targets.
use Rattle.std.proofs.Common.{◌≡◌, false, List, [], ◌∷◌, refl, sym, subst, Option, Some, None, Result, Ok, Err}
use Rattle.starlark_lexer.specs.Tokens.{Lexeme}
use Rattle.starlark_lexer.specs.declared.dialect.DialectTypes.{DialectTypes}
use Rattle.starlark_spec.specs.Faults.{Fault}
use Rattle.starlark_spec.specs.Items.{Items, Ending, at_end}
use Rattle.starlark_spec.specs.Grammar.{Nonterminal, Derivation, Derives, right_side}
use Rattle.starlark_spec.specs.Grammar.Nonterminal.{Module}
use Rattle.starlark_spec.specs.Grammar.Derivation.{for_loop, for_clause, small_assign}
use Rattle.starlark_spec.specs.Nodes.{Occurrence, occurrences, IsMember}
use Rattle.starlark_spec.specs.Answers.{IsModule, KeepsRules}
use Rattle.starlark_spec.specs.Answers.Answer.{broken_rule}
use Rattle.starlark_spec.specs.Machine.States.State.{done}
use Rattle.starlark_spec.specs.Machine.Sight.{Look, look}
use Rattle.starlark_spec.specs.Machine.Faults.{fault_at, fault_of, in_time, node_fault}
use Rattle.starlark_spec.specs.Machine.Steps.{start, Config, config, step, Reaches, here, more, Clean, rests, steps_on}
use Rattle.starlark_spec.specs.Machine.Answers.{refuses}
use Rattle.starlark_spec.proofs.CorrectAnswers.{each_is_right}
use Rattle.starlark_spec.proofs.ConsumedTokens.{passes}
use Rattle.starlark_validate.proofs.DerivationTargets.{IsFine, aims, aims_well, AimsWell, all_aim}

one_more_step : {y : DialectTypes} {z : Ending} {a c : Config Module} → Clean y z a c → fault_at y c.state (look z c.rest) ≡ None → Clean y z a (step z c)
one_more_step rests n = steps_on n rests
one_more_step (steps_on f q) n = steps_on f (one_more_step q n)

module _ (y : DialectTypes) (tokens : List Lexeme) (keeps : KeepsRules y (record { tokens = tokens; ending = at_end })) where
  abbrev items : Items
  items = record { tokens = tokens; ending = at_end }

  -- no rule is broken at the end of a clean run
  unbroken : (c : Config Module) → Clean y at_end (config start tokens) c → (o : Option Fault) → fault_at y c.state (look at_end c.rest) ≡ o
      → fault_at y c.state (look at_end c.rest) ≡ None
  unbroken c q None h = h
  unbroken c q (Some f) h = let b = (each_is_right y items (broken_rule f) (refuses c.state c.rest f q h)).right in absurd (keeps f b.rest b.broken_node)

  -- so each run is clean
  clean : {a c : Config Module} → Reaches at_end a c → Clean y at_end (config start tokens) a → Clean y at_end (config start tokens) c
  clean here q = q
  clean {a = a} (more r) q = clean r (one_more_step q (unbroken a q (fault_at y a.state (look at_end a.rest)) refl))

is_fine : {A : Type 0} (r : Result A Fault) → fault_of r ≡ None → IsFine r
is_fine (Ok x) h = tt
is_fine (Err f) h = cc

aims_so : (y : DialectTypes) {n : Nonterminal} (d : Derivation n) (l : Look) → node_fault y n d l ≡ None → aims_well d
aims_so y (for_loop f d i e c s) l h = is_fine _ h
aims_so y (for_clause f d i e) l h = is_fine _ h
aims_so y (small_assign d n o s e) l h = is_fine _ h
aims_so y d l h = tt

in_good_time : (l : Look) (o : Option Fault) → l.no_memory ≡ false → in_time l.no_memory o ≡ None → o ≡ None
in_good_time l None w h = refl
in_good_time l (Some f) w h = cc

has_memory : (rest : List Lexeme) → (look at_end rest).no_memory ≡ false
has_memory [] = refl
has_memory (x ∷ rest) = refl

aim_at_end : (y : DialectTypes) (tokens : List Lexeme) (d : Derivation Module) → KeepsRules y (record { tokens = tokens; ending = at_end })
    → Derives Module tokens [] d → aims (right_side d)
aim_at_end y tokens d keeps derived = all_aim (right_side d) aim
  where
    aim : (h : Occurrence) → IsMember h (occurrences (right_side d)) → AimsWell h.node
    aim h i =
        let p = passes d derived.1 h i in
        let l : Look = look at_end p.rest in
        let q : Clean y at_end (config start tokens) (config (done p.derivation p.place) p.rest) =
        clean y tokens keeps (subst (λ ts. Reaches at_end (config start ts) (config (done p.derivation p.place) p.rest)) (sym derived.0) p.comes) rests in
        let n : fault_at y (done p.derivation p.place) l ≡ None = unbroken y tokens keeps (config (done p.derivation p.place) p.rest) q
        (fault_at y (done p.derivation p.place) l) refl in
        subst (λ (x : Occurrence). AimsWell x.node) (sym p.is_it)
        (aims_so y p.derivation l (in_good_time l (node_fault y p.what p.derivation l) (has_memory p.rest) n))

pub aim_well : (y : DialectTypes) (items : Items) (d : Derivation Module) → IsModule items d → KeepsRules y items → aims (right_side d)
aim_well y items d m keeps = aim_at_end y items.tokens d (subst (λ z. KeepsRules y (record { tokens = items.tokens; ending = z })) m.at_end keeps) m.derives
