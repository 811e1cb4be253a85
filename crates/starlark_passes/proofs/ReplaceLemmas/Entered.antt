-- Expressions at which a function may be called that enters expressions.
use Rattle.std.proofs.Common.{◌≡◌, ℕ, zero, suc, ◌+◌, ◌<◌, ◌≤◌, List, [], ◌∷◌, ◌++◌, length, take, get_or, map, refl, sym, ap, ◌∙◌, arith, String, Result}
use Rattle.std.specs.Global.{Global}
use Rattle.std.specs.HashMap.{HashMap}
use Rattle.std.specs.List.{flat_map}
use Rattle.std.specs.declared.alloc.AllocError.{AllocError}
use Rattle.std.proofs.lemmas.List.{length-map}
use Rattle.std.proofs.lemmas.List.Sums.{sum_by-append}
use denote.Ref.{Bor, MutBor}
use Rattle.starlark_tree.specs.Ast as t
use Rattle.starlark_tree.specs.Ast.{no_payload, statements_of}
use Rattle.starlark_passes.specs.Replace.Replacing.{Table}
use Rattle.starlark_passes.specs.Replace.Parts.{Part}
use Rattle.starlark_passes.specs.Replace.Entering.{Enters, EntersStatements, InMemory, StatementInMemory, all_statements_in, statements_in, weight, weights}
use Rattle.starlark_passes.proofs.ReplaceLemmas.Steps.{Lawful}
use Rattle.starlark_passes.proofs.ReplaceLemmas.Loops.{SoFar, next_is}

pub weights-append : (xs ys : List (t.Expression no_payload)) → weights (xs ++ ys) ≡ weights xs + weights ys
weights-append xs ys = sum_by-append weight xs ys

weights_item : {X : Type 0} (inside : X → List (t.Expression no_payload)) (xs : List X) (i : ℕ) (d : X) → i < length xs
    → weights (inside (get_or xs i d)) ≤ weights (flat_map inside xs)
weights_item inside [] i d within = absurd (omega arith)
weights_item inside (x ∷ xs) zero d within = let e = weights-append (inside x) (flat_map inside xs) in omega (arith, e)
weights_item inside (x ∷ xs) (suc i) d within =
    let e = weights-append (inside x) (flat_map inside xs) in
    let h = weights_item inside xs i d (omega arith) in
    omega (arith, e, h)

module _ {P A B S : Type 0} {pre : Global → MutBor (InMemory P) → Bor (HashMap (String A) (String B) S) → Type 0}
    {post : Global → MutBor (InMemory P) → Bor (HashMap (String A) (String B) S) → Result (Unit {0}) AllocError → MutBor (InMemory P) → Type 0} where
  -- at fewer expressions
  pub fewer : {xs : List (t.Expression no_payload)} (ys : List (t.Expression no_payload)) → weights ys ≤ weights xs → Enters xs pre post → Enters ys pre post
  fewer ys less h = record { may = λ alloc e m fits. h.may alloc e m (omega (arith, less, fits)); replaces = h.replaces }

  pub at_same : {xs ys : List (t.Expression no_payload)} → ys ≡ xs → Enters xs pre post → Enters ys pre post
  at_same e h = rw e h

  pub at_left : (xs ys : List (t.Expression no_payload)) → Enters (xs ++ ys) pre post → Enters xs pre post
  at_left xs ys h = fewer xs (let e = weights-append xs ys in omega (arith, e)) h

  pub at_right : (xs ys : List (t.Expression no_payload)) → Enters (xs ++ ys) pre post → Enters ys pre post
  at_right xs ys h = fewer ys (let e = weights-append xs ys in omega (arith, e)) h

  -- at the next part of those that a loop goes over
  pub at_next : {X H : Type 0} {table : Table} {p : Part X} (law : Lawful table p) (seen : H → X) (old : List H) (i : ℕ) (now : List H) (d : H)
      → i < length old → SoFar law seen old i now
      → Enters (flat_map p.inside (map seen old)) pre post → Enters (p.inside (seen (get_or now i d))) pre post
  at_next {p} law seen old i now d within so_far h =
      let here = next_is law seen old i now d so_far in
      let less = weights_item p.inside (map seen old) i (seen d) (rw (length-map old seen) within) in
      rw here (fewer (p.inside (get_or (map seen old) i (seen d))) less h)

statements_item : (xs : List (t.Statement no_payload)) (i : ℕ) (d : t.Statement no_payload) → i < length xs
    → statements_in (get_or xs i d) ≤ all_statements_in (statements_of xs)
statements_item [] i d within = absurd (omega arith)
statements_item (x ∷ xs) zero d within = omega arith
statements_item (x ∷ xs) (suc i) d within = let h = statements_item xs i d (omega arith) in omega (arith, h)

module _ {P A B S : Type 0} {pre : Global → MutBor (StatementInMemory P) → Bor (HashMap (String A) (String B) S) → Type 0}
    {post : Global → MutBor (StatementInMemory P) → Bor (HashMap (String A) (String B) S) → Result (Unit {0}) AllocError → MutBor (StatementInMemory P)
    → Type 0} where
  pub at_most : {most : ℕ} (less : ℕ) → less ≤ most → EntersStatements most pre post → EntersStatements less pre post
  at_most less fits h = record { may = λ alloc s m small. h.may alloc s m (omega (arith, fits, small)); replaces = h.replaces }

  pub at_next_statement : {H : Type 0} {table : Table} {p : Part (t.Statement no_payload)} (law : Lawful table p) (seen : H → t.Statement no_payload)
      (old : List H) (i : ℕ) (now : List H) (d : H)
      → i < length old → SoFar law seen old i now → EntersStatements (all_statements_in (statements_of (map seen old))) pre post
      → EntersStatements (statements_in (seen (get_or now i d))) pre post
  at_next_statement law seen old i now d within so_far h =
      let here = next_is law seen old i now d so_far in
      let less = statements_item (map seen old) i (seen d) (rw (length-map old seen) within) in
      at_most (statements_in (seen (get_or now i d))) (rw here less) h
