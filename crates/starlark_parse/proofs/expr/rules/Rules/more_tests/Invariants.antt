use Rattle.std.proofs.Common.{◌≡◌, ◌≤◌, ◌<◌, true, [], ◌∷◌}
use Rattle.starlark_tree.specs.Ast.{Expression, no_payload}
use Rattle.starlark_parse_held.specs.Held.{expressions_in}
use Rattle.starlark_spec.specs.Grammar.{Derivation}
use Rattle.starlark_spec.specs.Grammar.Nonterminal.{Module, Test}
use Rattle.starlark_spec.specs.Grammar.ElementKind.{elements}
use Rattle.starlark_spec.specs.Trees.{tree}
use Rattle.starlark_spec.specs.Machine.States.{Place}
use Rattle.starlark_spec.specs.Machine.States.State.{read}
use Rattle.starlark_spec.specs.Machine.Sight.{look_at}
use Rattle.starlark_spec.specs.Machine.Firsts.{starts_test}
use Rattle.starlark_parse_cursor.specs.Reading.{At, at, begin_at, left_at, Ready}
use Rattle.starlark_parse_cursor.specs.Contract.{Found}
use Rattle.starlark_parse.proofs.ExprLemmas.Lists.{Gathers}
use Rattle.starlark_parse.proofs.expr.rules.Rules.more_tests.Given as goal

abbrev pub invariant-listing : goal.invariant-listing
invariant-listing g l = record {
  same_reference : l.cursor.lexemes.ghost_name ≡ l.fn.cursor.lexemes.ghost_name;
  ready : Ready g.I.Iterator.can_next g.I.Iterator.remaining g.I.Iterator.next_gives (at l.cursor);
  fewer : left_at g.I.Iterator.remaining (at l.cursor) < left_at g.I.Iterator.remaining (at l.fn.cursor);
  later : begin_at (at l.fn.cursor) ≤ l.cursor.end.byte;
  gathers : (e : Expression no_payload) → expressions_in l.fn.first ≡ e ∷ [] → (start : At _) → starts_test (look_at start.sight).kind ≡ true
      → Found g.I.Iterator.next_gives (λ (p : Place Module Test). read Test p) (begin_at start) (λ (d : Derivation Test). e ≡ tree d) start (at l.fn.cursor)
      → Gathers g.I.Iterator.next_gives elements start (at l.cursor) (expressions_in l.elements);
}

abbrev pub decreases-listing : goal.decreases-listing
decreases-listing g l = left_at g.I.Iterator.remaining (at l.cursor)
