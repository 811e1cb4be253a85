-- Each answer of the machine over a list of items is correct, and comes after the tokens that were read.
use Rattle.std.proofs.Common.{◌≡◌, ◌≤◌, List, [], ◌∷◌, ◌++◌, length, length-append, Some, None, inl, inr, refl, sym, ◌∙◌, ap, subst, arith, append_assoc}
use Rattle.std.proofs.lemmas.List.{append-nil, append_cancel_right}
use Rattle.starlark_lexer.specs.Tokens.{Lexeme}
use Rattle.starlark_lexer.specs.declared.dialect.DialectTypes.{DialectTypes}
use Rattle.starlark_spec.specs.Faults.{Fault}
use Rattle.starlark_spec.specs.Items.{Items, Ending, at_end, fails, out_of_memory}
use Rattle.starlark_spec.specs.Grammar.{Derivation, right_side, side_yield}
use Rattle.starlark_spec.specs.Grammar.Nonterminal.{Module}
use Rattle.starlark_spec.specs.Trees.{module_tree}
use Rattle.starlark_spec.specs.Program.{IsProgram, BeginsProgram}
use Rattle.starlark_spec.specs.Nodes.{Occurrence, occurrences, IsMember}
use Rattle.starlark_spec.specs.Answers.{IsUnexpected, BrokenNode, IsBroken, end_of}
use Rattle.starlark_spec.specs.Answers.Answer.{module_of, memory, unexpected_token, broken_rule}
use Rattle.starlark_spec.specs.Machine.States.{State}
use Rattle.starlark_spec.specs.Machine.Sight.{sight, look}
use Rattle.starlark_spec.specs.Machine.Moves.{Fail, move}
use Rattle.starlark_spec.specs.Machine.Faults.{fault_at}
use Rattle.starlark_spec.specs.Machine.ReadParts.{seen}
use Rattle.starlark_spec.specs.Machine.Steps.{start, module_done, config, Reaches, Clean}
use Rattle.starlark_spec.specs.Machine.Answers.{stop_of, finished, stopped}
use Rattle.starlark_spec.proofs.Runs.{runs}
use Rattle.starlark_spec.proofs.Theorems.{no_program, fitted}
use Rattle.starlark_spec.proofs.BlockEnds.{IsSound, sound, whole_state}
use Rattle.starlark_spec.proofs.CompletedNodes.{settled}
use Rattle.starlark_spec.proofs.Viable.{occurrence_at, viable}
use Rattle.starlark_spec.proofs.Parts.{over-occurrences, in_front}
use Rattle.starlark_spec.proofs.ConsumedTokens.{taken, there}
use Rattle.starlark_spec.proofs.BrokenNodes.{ahead, occurrence_there, broken_state, is_broken}
use Rattle.starlark_spec.proofs.CorrectAnswers.{each_is_right, each_begins}
use Rattle.starlark_parse.specs.Stmt.Runs.{AnswersAfter}

abbrev pub ended : List Lexeme → Ending → Items
ended ts z = record { tokens = ts; ending = z }

-- the same run over each list that continues after what was read
again : (ts rest : List Lexeme) (z : Ending) (s : State Module) → Reaches z (config start (ts ++ rest)) (config s rest) → (y : Ending) (r : List Lexeme)
    → sight z rest ≡ sight y r → Reaches y (config start (ts ++ r)) (config s r)
again ts rest z s q y r e =
    let t = taken q in
    subst (λ x. Reaches y (config start (x ++ r)) (config s r)) (sym (append_cancel_right ts t.before rest t.split)) (t.again y r e)

-- no program begins with the tokens up to the one at which it stops
never : (ts rest : List Lexeme) (x : Lexeme) (z : Ending) (s : State Module) → Reaches z (config start (ts ++ x ∷ rest)) (config s (x ∷ rest))
    → move s (look z (x ∷ rest)) ≡ Fail → ¬ BeginsProgram (ts ++ x ∷ [])
never ts rest x z s q f b =
    no_program (ts ++ x ∷ b.0) (x ∷ b.0) s (again ts (x ∷ rest) z s q at_end (x ∷ b.0) refl) f
    (subst IsProgram (append_assoc ts (x ∷ []) b.0) b.1)

pub stops_after : (y : DialectTypes) (ts rest : List Lexeme) (z : Ending) (s : State Module) → Clean y z (config start (ts ++ rest)) (config s rest)
    → fault_at y s (look z rest) ≡ None → move s (look z rest) ≡ Fail
    → AnswersAfter ts y (ended (ts ++ rest) z) (stop_of (sight z rest) (end_of ts))
stops_after y ts (x ∷ rest) z s q n f =
    let a = each_is_right y (ended (ts ++ x ∷ rest) z) (unexpected_token x.span) (stopped s ts (x ∷ rest) refl q n f) in
    let u : IsUnexpected y (ended (ts ++ x ∷ rest) z) x.span = record {
      before = ts;
      named = x;
      after = rest;
      split = refl;
      at_span = refl;
      begins = each_begins z ts (x ∷ rest) s (runs q);
      ends = never ts rest x z s (runs q) f;
      keeps_rules = a.right.keeps_rules;
    } in record { answers = record { right = u; found = a.found }; stands = refl }
stops_after y ts [] at_end s q n f = record { answers = each_is_right y (ended (ts ++ []) at_end) _ (stopped s ts [] refl q n f); stands = tt }
stops_after y ts [] (fails g) s q n f = record { answers = each_is_right y (ended (ts ++ []) (fails g)) _ (stopped s ts [] refl q n f); stands = tt }
stops_after y ts [] out_of_memory s q n f = record { answers = each_is_right y (ended (ts ++ []) out_of_memory) _ (stopped s ts [] refl q n f); stands = tt }

pub finishes_after : (y : DialectTypes) (ts : List Lexeme) (d : Derivation Module) → Clean y at_end (config start (ts ++ [])) (config (module_done d) [])
    → AnswersAfter ts y (ended (ts ++ []) at_end) (module_of (module_tree d))
finishes_after y ts d q = record { answers = each_is_right y (ended (ts ++ []) at_end) _ (finished d refl q); stands = tt }

-- out of memory says nothing about the items
pub wants_after : (y : DialectTypes) (ts : List Lexeme) (i : Items) → AnswersAfter ts y i memory
wants_after y ts i = record { answers = record { right = tt; found = λ d m k. inr refl }; stands = tt }

-- two ways to split a list, with the same length after
same_front : (xs ys r q : List Lexeme) → xs ++ r ≡ ys ++ q → length r ≡ length q → xs ≡ ys
same_front [] [] r q e h = refl
same_front [] (y ∷ ys) r q e h = absurd (omega (arith, ap length e, length-append ys q, h))
same_front (x ∷ xs) [] r q e h = absurd (omega (arith, ap length e, length-append xs r, h))
same_front (x ∷ xs) (y ∷ ys) r q e h =
    let tails : xs ++ r ≡ ys ++ q = cc in
    let heads : x ≡ y = cc in
    ap (λ z. z ∷ xs) heads ∙ ap (λ zs. y ∷ zs) (same_front xs ys r q tails h)

-- the node that breaks a rule at the machine's place
node_there : (y : DialectTypes) (ts rest : List Lexeme) (z : Ending) (s : State Module) (f : Fault) → Clean y z (config start (ts ++ rest)) (config s rest)
    → ((r : List Lexeme) → side_yield (seen s) r ≡ ts ++ r)
    → fault_at y s (look z rest) ≡ Some f → BrokenNode y (ended (ts ++ rest) z) f rest
node_there y ts rest z s f clean told h =
    let j : IsSound z (config s rest) = sound (runs clean) (inl refl) in
    let k = broken_state y z rest f s j (settled (runs clean) tt) h in
    let v = viable s (whole_state s rest j) in
    let one : Occurrence = occurrence_at k.place k.derivation in
    let there_so : (r : List Lexeme) → side_yield (seen s) r ≡ one.before ++ (one.own ++ r) = λ r. ap (λ (x : State Module). side_yield (seen x) r) k.is_it
    ∙ there k.place k.derivation one r refl in
    let inside : IsMember one (occurrences (seen s)) = subst (λ (x : State Module). IsMember one (occurrences (seen x))) (sym k.is_it)
    (occurrence_there k.place k.derivation k.to_blame.own k.to_blame.is_marked) in
    let all : occurrences (right_side v.derivation) ≡ occurrences (seen s) ++ (v.nodes ++ []) = sym (append-nil _)
    ∙ sym (over-occurrences (right_side v.derivation) []) ∙ v.keeps ∙ over-occurrences (seen s) v.nodes
    ∙ ap (λ x. occurrences (seen s) ++ x) (sym (append-nil _)) in
    record {
      occurrence = one;
      split = sym (told rest) ∙ there_so rest;
      stands = record {
        more = v.more;
        derivation = v.derivation;
        derives = (sym (v.spells ∙ there_so v.more), fitted (right_side v.derivation) v.fits);
        occurs = subst (λ x. IsMember one x) (sym all) (in_front one _ _ inside);
      };
      closed = k.to_blame.closed;
      breaks = k.to_blame.breaks;
    }

-- a rule that is broken at the machine's place: the answer's node ends with what was read
pub breaks_after : (y : DialectTypes) (ts rest : List Lexeme) (z : Ending) (s : State Module) (f : Fault)
    → Clean y z (config start (ts ++ rest)) (config s rest) → fault_at y s (look z rest) ≡ Some f
    → AnswersAfter ts y (ended (ts ++ rest) z) (broken_rule f)
breaks_after y ts rest z s f clean h =
    let t = taken (runs clean) in
    let same : ts ≡ t.before = append_cancel_right ts t.before rest t.split in
    let told : (r : List Lexeme) → side_yield (seen s) r ≡ ts ++ r = λ r. t.told r ∙ ap (λ x. x ++ r) (sym same) in
    let b : IsBroken y (ended (ts ++ rest) z) f = is_broken y ts rest z s f clean told h in
    let later : length rest ≤ length b.rest = b.first f rest (node_there y ts rest z s f clean told h) in
    let u = taken (ahead (config s rest) clean b.broken_node).goes in
    let n = b.broken_node.occurrence in
    let split : ts ++ rest ≡ (n.before ++ n.own) ++ b.rest = b.broken_node.split ∙ sym (append_assoc n.before n.own b.rest) in
    record {
      answers = record { right = b; found = λ d m g. absurd (g f b.rest b.broken_node) };
      stands = sym (same_front ts (n.before ++ n.own) rest b.rest split (omega (arith, later, ap length u.split, length-append u.before b.rest)));
    }
