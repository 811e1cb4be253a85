-- Parts one after another, and what they are in.
use Rattle.std.proofs.Common.{◌≡◌, ℕ, ◌-◌, ◌+◌, ◌<◌, ◌≤◌, List, [], ◌∷◌, ◌++◌, length, take, get_or, set, map, Result, Ok, Err, IsErr, refl, sym, ap, ◌∙◌}
use Rattle.std.proofs.Common.{arith, add-one}
use Rattle.std.specs.List.{flat_map}
use Rattle.starlark_tree.specs.Ast as t
use Rattle.starlark_tree.specs.Ast.{no_payload}
use Rattle.starlark_passes.specs.Replace.Replacing.{Table, named}
use Rattle.starlark_passes.specs.Replace.Parts.{Part, Reaches, Replaces, both, each, each_replaced}
use Rattle.starlark_passes.proofs.ReplaceLemmas.Laws.{named-append}

-- A part of which no operator is replaced is unchanged, and if all are, it is the same whatever the limit.
pub record Lawful {X : Type 0} (table : Table) (p : Part X) : Type 0 where
  pub none : (k : ℕ) → k ≡ 0 → (x : X) → p.replaced k x ≡ x
  pub same : (j k : ℕ) (x : X) → named table (p.inside x) ≤ j → named table (p.inside x) ≤ k → p.replaced j x ≡ p.replaced k x

after : (n k : ℕ) → (n + k) - n ≡ k
after n k = omega arith

module _ (table : Table) where
  reaches_on : {E : Type 0} (xs ys : List (t.Expression no_payload)) (r : Result (Unit {0}) E) (k : ℕ) → Reaches table ys r k
      → Reaches table (xs ++ ys) r (named table xs + k)
  reaches_on xs ys (Ok u) k h = let e = named-append table xs ys in omega (arith, e)
  reaches_on xs ys (Err u) k h = let e = named-append table xs ys in omega (arith, e)

module _ {E : Type 0} (table : Table) where
  -- of a failure only the number counts
  pub failing : (es : List (t.Expression no_payload)) (k : ℕ) (r : Result (Unit {0}) E) → IsErr r → k < named table es → Reaches table es r k
  failing es k (Err e) failed h = h
  failing es k (Ok u) failed h = let e = failed in absurd (cc)

module _ {E : Type 0} {table : Table} where
  -- the first part is done, and the walk continues in the second
  pub joined : {X Y : Type 0} {p : Part X} {q : Part Y} {u : Unit {0}} {r : Result (Unit {0}) E} {x a : X} {y b : Y} → Lawful table p
      → Replaces {E = E} table p (Ok u) x a → Replaces table q r y b → Replaces table (both table p q) r (x, y) (a, b)
  joined {p} {q} {r} {x} {y} law h k = record {
    count = named table (p.inside x) + k.count;
    reaches = reaches_on table (p.inside x) (q.inside y) r k.count k.reaches;
    stands =
        λ i. (
          (h.stands ∙ law.same h.count (named table (p.inside x) + k.count) x (omega (arith, h.reaches)) (omega arith)) i,
          (k.stands ∙ ap (λ n. q.replaced n y) (sym (after (named table (p.inside x)) k.count))) i,
        );
  }

  -- a failure in the first part leaves the second unchanged
  pub stopped : {X Y : Type 0} {p : Part X} {q : Part Y} {e : E} {x a : X} → Lawful table q → Replaces table p (Err e) x a → (y : Y) (r : Result (Unit {0}) E)
      → IsErr r
      → Replaces table (both table p q) r (x, y) (a, y)
  stopped {p} {q} {x} law h y r failed = record {
    count = h.count;
    reaches = failing table (p.inside x ++ q.inside y) h.count r failed (let e = named-append table (p.inside x) (q.inside y) in omega (arith, e, h.reaches));
    stands = λ i. (h.stands i, (sym (law.none (h.count - named table (p.inside x)) (omega (arith, h.reaches)) y)) i);
  }

  -- a part that is made of another
  pub made : {X Y : Type 0} {p : Part X} {q : Part Y} {r : Result (Unit {0}) E} {x a : X} (make : X → Y) → q.inside (make x) ≡ p.inside x
      → ((k : ℕ) → q.replaced k (make x) ≡ make (p.replaced k x)) → Replaces table p r x a → Replaces table q r (make x) (make a)
  made {p} {q} {r} {x} make inside replaced h = record {
    count = h.count;
    reaches = rw inside h.reaches;
    stands = ap make h.stands ∙ sym (replaced h.count);
  }

  -- a part without operators
  pub idle : {X : Type 0} {p : Part X} (x : X) → p.inside x ≡ [] → p.replaced 0 x ≡ x → (u : Unit {0}) → Replaces {E = E} table p (Ok u) x x
  idle x inside replaced u = record { count = 0; reaches = rw inside refl; stands = sym replaced }
