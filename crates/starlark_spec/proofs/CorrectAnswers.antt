-- Each answer of the machine is correct.
use Rattle.std.proofs.Common.{◌≡◌, List, [], ◌∷◌, ◌++◌, Some, None, inl, refl, sym, ◌∙◌, ap, subst, append_assoc}
use Rattle.std.proofs.lemmas.List.{append-nil, append_cancel_right}
use Rattle.starlark_lexer.specs.Tokens.{Lexeme, LexerFault, from_to}
use Rattle.starlark_lexer.specs.declared.dialect.DialectTypes.{DialectTypes}
use Rattle.starlark_spec.specs.Faults.{Fault}
use Rattle.starlark_spec.specs.Items.{Items, Ending, at_end, fails, out_of_memory}
use Rattle.starlark_spec.specs.Grammar.{Derivation, Derives, right_side, side_yield}
use Rattle.starlark_spec.specs.Grammar.Nonterminal.{Module}
use Rattle.starlark_spec.specs.Trees.{module_tree}
use Rattle.starlark_spec.specs.Program.{IsProgram, BeginsProgram}
use Rattle.starlark_spec.specs.Answers.{Answers, end_of, KeepsRules, IsBroken}
use Rattle.starlark_spec.specs.Answers.Answer.{module_of, lexer, unexpected_token, unexpected_end, broken_rule}
use Rattle.starlark_spec.specs.Machine.States.{State}
use Rattle.starlark_spec.specs.Machine.Sight.{sight, look, look_at}
use Rattle.starlark_spec.specs.Machine.Moves.{Fail, move}
use Rattle.starlark_spec.specs.Machine.Faults.{fault_at}
use Rattle.starlark_spec.specs.Machine.ReadParts.{seen}
use Rattle.starlark_spec.specs.Machine.Steps.{start, module_done, config, next, Reaches, Clean}
use Rattle.starlark_spec.specs.Machine.Answers.{stop_of, finished, stopped, refuses, EachAnswerIsRight, EachRunBeginsAProgram}
use Rattle.starlark_spec.proofs.Runs.{runs}
use Rattle.starlark_spec.proofs.Theorems.{unique, no_program, fitted}
use Rattle.starlark_spec.proofs.BlockEnds.{sound, whole_state}
use Rattle.starlark_spec.proofs.Viable.{viable}
use Rattle.starlark_spec.proofs.ConsumedTokens.{taken}
use Rattle.starlark_spec.proofs.BrokenNodes.{none_broken, is_broken}

abbrev ended : List Lexeme → Ending → Items
ended ts z = record { tokens = ts; ending = z }

answers_module : {y : DialectTypes} (ts : List Lexeme) (d : Derivation Module) → Derives Module ts [] d → KeepsRules y (ended ts at_end)
    → Answers y (ended ts at_end) (module_of (module_tree d))
answers_module ts d h k = record {
  right = record {
    derivation = d;
    derived = record { at_end = refl; derives = h };
    tree_is = refl;
    unique = λ e g. unique ts e d g.derives h;
    keeps_rules = k;
  };
  found = λ e g j. inl (ap (λ (x : Derivation Module). module_of (module_tree x)) (unique ts d e h g.derives));
}

answers_token : {y : DialectTypes} (ts : List Lexeme) (x : Lexeme) (rest : List Lexeme) (z : Ending) → BeginsProgram ts
    → ((more : List Lexeme) → IsProgram (ts ++ x ∷ more) → ⊥) → KeepsRules y (ended (ts ++ x ∷ rest) z)
    → Answers y (ended (ts ++ x ∷ rest) z) (unexpected_token x.span)
answers_token ts x rest z begins never k = record {
  right = record {
    before = ts;
    named = x;
    after = rest;
    split = refl;
    at_span = refl;
    begins = begins;
    ends = λ b. never b.0 (subst IsProgram (append_assoc ts (x ∷ []) b.0) b.1);
    keeps_rules = k;
  };
  found = λ d m j. absurd (never rest (d, m.derives));
}

answers_end : {y : DialectTypes} (ts : List Lexeme) → BeginsProgram ts → (IsProgram ts → ⊥) → KeepsRules y (ended ts at_end)
    → Answers y (ended ts at_end) (unexpected_end (from_to (end_of ts) (end_of ts)))
answers_end ts begins never k = record {
  right = record { at_end = refl; at_span = refl; begins = begins; unfinished = never; keeps_rules = k };
  found = λ d m j. absurd (never (d, m.derives));
}

no_end : (f : LexerFault) → at_end ≡ fails f → ⊥
no_end f e = cc

answers_fault : {y : DialectTypes} (ts : List Lexeme) (f : LexerFault) → BeginsProgram ts → KeepsRules y (ended ts (fails f))
    → Answers y (ended ts (fails f)) (lexer f)
answers_fault ts f begins k = record {
  right = record { ending = refl; begins = begins; keeps_rules = k };
  found = λ d m j. absurd (no_end f (sym m.at_end));
}

-- the tokens of what the state has seen are those that were read
told_so : (ts rest : List Lexeme) (z : Ending) (s : State Module) → Reaches z (config start (ts ++ rest)) (config s rest) → (r : List Lexeme)
    → side_yield (seen s) r ≡ ts ++ r
told_so ts rest z s q r =
    let t = taken q in
    let same : ts ≡ t.before = append_cancel_right ts t.before rest t.split in
    t.told r ∙ ap (λ x. x ++ r) (sym same)

begins : (ts rest : List Lexeme) (z : Ending) (s : State Module) → Reaches z (config start (ts ++ rest)) (config s rest) → BeginsProgram ts
begins ts rest z s q = let v = viable s (whole_state s rest (sound q (inl refl))) in
    (v.more, (v.derivation, (sym (v.spells ∙ told_so ts rest z s q v.more), fitted (right_side v.derivation) v.fits)))

-- the same run over each list that continues after what was read
again : (ts rest : List Lexeme) (z : Ending) (s : State Module) → Reaches z (config start (ts ++ rest)) (config s rest) → (y : Ending) (r : List Lexeme)
    → sight z rest ≡ sight y r → Reaches y (config start (ts ++ r)) (config s r)
again ts rest z s q y r e =
    let t = taken q in
    subst (λ x. Reaches y (config start (x ++ r)) (config s r)) (sym (append_cancel_right ts t.before rest t.split)) (t.again y r e)

-- when it gets stuck, nothing can continue
none : (ts rest : List Lexeme) (z : Ending) (s : State Module) → Reaches z (config start (ts ++ rest)) (config s rest) → move s (look z rest) ≡ Fail
    → (r : List Lexeme) → sight z rest ≡ sight at_end r → IsProgram (ts ++ r) → ⊥
none ts rest z s q f r e = no_program (ts ++ r) r s (again ts rest z s q at_end r e) (ap (λ k. move s (look_at k)) (sym e) ∙ f)

keeps : {y : DialectTypes} (ts rest : List Lexeme) (z : Ending) (s : State Module) → Clean y z (config start (ts ++ rest)) (config s rest)
    → fault_at y s (look z rest) ≡ None → move s (look z rest) ≡ Fail → KeepsRules y (ended (ts ++ rest) z)
keeps ts rest z s q n f = none_broken s rest q (ap (λ m. next m (config s rest)) f) n

at_stop : {y : DialectTypes} (ts rest : List Lexeme) (z : Ending) (s : State Module) → Clean y z (config start (ts ++ rest)) (config s rest)
    → fault_at y s (look z rest) ≡ None → move s (look z rest) ≡ Fail
    → Answers y (ended (ts ++ rest) z) (stop_of (sight z rest) (end_of ts))
at_stop ts (x ∷ rest) z s q n f =
    answers_token ts x rest z (begins ts (x ∷ rest) z s (runs q)) (λ more p. none ts (x ∷ rest) z s (runs q) f (x ∷ more) refl p)
    (keeps ts (x ∷ rest) z s q n f)
at_stop {y = y} ts [] at_end s q n f =
    subst (λ x. Answers y (ended x at_end) (unexpected_end (from_to (end_of ts) (end_of ts)))) (sym (append-nil ts))
    (answers_end ts (begins ts [] at_end s (runs q)) (λ p. none ts [] at_end s (runs q) f [] refl (subst IsProgram (sym (append-nil ts)) p))
    (subst (λ x. KeepsRules y (ended x at_end)) (append-nil ts) (keeps ts [] at_end s q n f)))
at_stop {y = y} ts [] (fails g) s q n f =
    subst (λ x. Answers y (ended x (fails g)) (lexer g)) (sym (append-nil ts))
    (answers_fault ts g (begins ts [] (fails g) s (runs q)) (subst (λ x. KeepsRules y (ended x (fails g))) (append-nil ts) (keeps ts [] (fails g) s q n f)))
at_stop ts [] out_of_memory s q n f = record { right = tt; found = λ d m j. absurd (no_memory (sym m.at_end)) }
  where
    no_memory : at_end ≡ out_of_memory → ⊥
    no_memory e = cc

stops_so : {y : DialectTypes} (ts before rest : List Lexeme) (z : Ending) (s : State Module) → ts ≡ before ++ rest
    → Clean y z (config start ts) (config s rest) → fault_at y s (look z rest) ≡ None → move s (look z rest) ≡ Fail
    → Answers y (ended ts z) (stop_of (sight z rest) (end_of before))
stops_so {y = y} ts before rest z s e q n f =
    subst (λ x. Answers y (ended x z) (stop_of (sight z rest) (end_of before))) (sym e)
    (at_stop before rest z s (subst (λ x. Clean y z (config start x) (config s rest)) e q) n f)

done_so : {y : DialectTypes} (ts : List Lexeme) (z : Ending) (d : Derivation Module) → z ≡ at_end → Clean y z (config start ts) (config (module_done d) [])
    → Answers y (ended ts z) (module_of (module_tree d))
done_so ts at_end d e q =
    let t = taken (runs q) in
    let same : ts ≡ t.before = t.split ∙ append-nil t.before in
    answers_module ts d (
      same ∙ sym (append-nil t.before) ∙ sym (t.told []),
      fitted (right_side d) (whole_state (module_done d) [] (sound (runs q) (inl refl))),
    ) (none_broken (module_done d) [] q refl refl)
done_so ts z d e q = cc

refused_so : {y : DialectTypes} (ts rest : List Lexeme) (z : Ending) (s : State Module) (f : Fault) → Clean y z (config start ts) (config s rest)
    → fault_at y s (look z rest) ≡ Some f → Answers y (ended ts z) (broken_rule f)
refused_so {y = y} ts rest z s f q h =
    let t = taken (runs q) in
    let c : Clean y z (config start (t.before ++ rest)) (config s rest) = subst (λ x. Clean y z (config start x) (config s rest)) t.split q in
    let b : IsBroken y (ended (t.before ++ rest) z) f = is_broken y t.before rest z s f c t.told h in
    subst (λ x. Answers y (ended x z) (broken_rule f)) (sym t.split) (record { right = b; found = λ d m k. absurd (k f b.rest b.broken_node) })

pub each_is_right : EachAnswerIsRight
each_is_right y items answer (finished d e q) = done_so items.tokens items.ending d e q
each_is_right y items answer (stopped s before rest e q n f) = stops_so items.tokens before rest items.ending s e q n f
each_is_right y items answer (refuses s rest fault q h) = refused_so items.tokens rest items.ending s fault q h

pub each_begins : EachRunBeginsAProgram
each_begins z before rest s q = begins before rest z s q
