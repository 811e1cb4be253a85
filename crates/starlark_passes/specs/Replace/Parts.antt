-- The result of replacing the operators of a part of a tree.
use Rattle.std.specs.Prelude.{◌≡◌, ℕ, ◌-◌, ◌<◌, List as Seq, [], ◌∷◌, ◌++◌, option_map, option_to_list, Option, Result, Ok, Err}
use Rattle.std.specs.List.{flat_map}
use Rattle.starlark_lexer.specs.Tokens.{nowhere}
use Rattle.starlark_tree.specs.Ast as t
use Rattle.starlark_tree.specs.Ast.{no_payload}
use Rattle.starlark_tree.specs.Inside as walk
use Rattle.starlark_passes.specs.Replace.Replacing as first
use Rattle.starlark_passes.specs.Replace.Replacing.{Table, named}

-- a kind of part: the expressions inside one, and what it is with its first operators replaced
pub record Part (X : Type 0) : Type 0 where
  pub inside : X → Seq (t.Expression no_payload)
  pub replaced : ℕ → X → X

-- how many operators were replaced, of those in some expressions: all of them, or a failure came before the last
abbrev pub Reaches : {E : Type 0} → Table → Seq (t.Expression no_payload) → Result (Unit {0}) E → ℕ → Type 0
Reaches table es (Ok done) k = k ≡ named table es
Reaches table es (Err e) k = k < named table es

-- The first operators of a part are replaced, and the rest of it is unchanged.
pub record Replaces {X E : Type 0} (table : Table) (part : Part X) (r : Result (Unit {0}) E) (old new : X) : Type 0 where
  pub count : ℕ
  pub reaches : Reaches table (part.inside old) r count
  pub stands : new ≡ part.replaced count old

module _ (table : Table) where
  -- a part, then another
  abbrev pub both : {X Y : Type 0} → Part X → Part Y → Part (X × Y)
  both p q = record {
    inside = λ x. p.inside x.0 ++ q.inside x.1;
    replaced = λ k x. (p.replaced k x.0, q.replaced (k - named table (p.inside x.0)) x.1);
  }

  -- parts of a kind, one after another
  abbrev pub each_replaced : {X : Type 0} → Part X → ℕ → Seq X → Seq X
  each_replaced p k [] = []
  each_replaced p k (x ∷ xs) = p.replaced k x ∷ each_replaced p (k - named table (p.inside x)) xs

  abbrev pub each : {X : Type 0} → Part X → Part (Seq X)
  each p = record { inside = flat_map p.inside; replaced = each_replaced p }

  abbrev pub an_expression : Part (t.Expression no_payload)
  an_expression = record { inside = walk.inside; replaced = first.replaced table }

  -- an expression without its span, of which only what is below it is replaced
  abbrev pub below_replaced : ℕ → t.Shape no_payload → t.Shape no_payload
  below_replaced k (t.Op l op r) = t.Op (first.replaced table k l) op (first.replaced table (k - named table (walk.inside l)) r)
  below_replaced k other = first.shape_replaced table k nowhere other

  abbrev pub below_shape : Part (t.Shape no_payload)
  below_shape = record { inside = walk.below; replaced = below_replaced }

  abbrev pub a_maybe : Part (t.Maybe no_payload)
  a_maybe = record { inside = walk.maybe_inside; replaced = first.maybe_replaced table }

  abbrev pub a_type : Part (t.MaybeType no_payload)
  a_type = record { inside = walk.type_inside; replaced = first.type_replaced table }

  abbrev pub a_pair : Part (t.Expression no_payload × t.Expression no_payload)
  a_pair = both an_expression an_expression

  abbrev pub an_argument : Part (t.Argument no_payload)
  an_argument = record { inside = walk.argument_inside; replaced = first.argument_replaced table }

  abbrev pub a_parameter : Part (t.Parameter no_payload)
  a_parameter = record { inside = walk.parameter_inside; replaced = first.parameter_replaced table }

  abbrev pub a_for : Part (t.ForIn no_payload)
  a_for = record { inside = walk.for_inside; replaced = first.for_replaced table }

  abbrev pub a_clause : Part (t.Clause no_payload)
  a_clause = record { inside = walk.clause_inside; replaced = first.clause_replaced table }

  abbrev pub a_target : Part (t.Target no_payload)
  a_target = record { inside = walk.target_inside; replaced = first.target_replaced table }

  abbrev pub a_statement : Part (t.Statement no_payload)
  a_statement = record { inside = walk.inside_statement; replaced = first.statement_replaced table }

  abbrev pub a_form : Part (t.Form no_payload)
  a_form = record { inside = walk.inside_form; replaced = first.form_replaced table }
