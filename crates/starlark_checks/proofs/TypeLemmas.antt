-- Types one after another, and the members of a union.
use Rattle.std.proofs.Common.{◌≡◌, List as Seq, [], ◌∷◌, ◌++◌, Result, Ok, Err, refl, ap, sym, ◌∙◌}
use Rattle.starlark_lexer.specs.Tokens.{Span}
use Rattle.starlark_tree.specs.Ast as t
use Rattle.starlark_tree.specs.Ast.{Payloads, Expression, expression, Expressions, no_expressions, expressions, expressions_of}
use Rattle.starlark_tree.specs.declared.ast.operator.BinOp.TheVariants.{BitOr}
use Rattle.starlark_spec.specs.Faults.{Fault}
use Rattle.starlark_spec.specs.Targets.{map_ok, both}
use Rattle.starlark_spec.specs.Types.{Union, Reading, reads, Readings, no_readings, readings_with, readings_of, append, members, operands, either}

module _ {P : Payloads} where
  pub append_of : (xs ys : Seq (Reading P)) → append (readings_of xs) (readings_of ys) ≡ readings_of (xs ++ ys)
  append_of [] ys = refl
  append_of (x ∷ xs) ys = ap (readings_with x) (append_of xs ys)

  either_none : (r : Result (Readings P) Fault) → r ≡ either (Ok no_readings) r
  either_none (Ok rs) = refl
  either_none (Err f) = refl

  with_either : (x : Result (Reading P) Fault) (a b : Result (Readings P) Fault) → both readings_with x (either a b) ≡ either (both readings_with x a) b
  with_either (Ok x) (Ok a) (Ok b) = refl
  with_either (Ok x) (Ok a) (Err f) = refl
  with_either (Ok x) (Err f) b = refl
  with_either (Err f) a b = refl

  -- what each of them is read as, one after another
  module _ (one : Expression P → Result (Reading P) Fault) (all : Expressions P → Result (Readings P) Fault)
      (none : all no_expressions ≡ Ok no_readings) (more : (e : Expression P) (es : Expressions P) → all (expressions e es) ≡ both readings_with (one e)
      (all es)) where
    pub all-append : (xs ys : Seq (Expression P)) → all (expressions_of (xs ++ ys)) ≡ either (all (expressions_of xs)) (all (expressions_of ys))
    all-append [] ys = either_none (all (expressions_of ys)) ∙ ap (λ r. either r (all (expressions_of ys))) (sym none)
    all-append (x ∷ xs) ys =
        more x (expressions_of (xs ++ ys)) ∙ ap (both readings_with (one x)) (all-append xs ys)
        ∙ with_either (one x) (all (expressions_of xs)) (all (expressions_of ys))
        ∙ ap (λ r. either r (all (expressions_of ys))) (sym (more x (expressions_of xs)))

    pub all_from : (xs : Seq (Expression P)) (x : Expression P) (rest : Seq (Expression P)) → all (expressions_of (xs ++ x ∷ rest))
        ≡ either (all (expressions_of xs)) (both readings_with (one x) (all (expressions_of rest)))
    all_from xs x rest = all-append xs (x ∷ rest) ∙ ap (either (all (expressions_of xs))) (more x (expressions_of rest))

  -- the members of a `|` are those that its operands give
  pub operands-or : (s : Span) (l r : Expression P) → operands (expression s (t.Op l BitOr r)) ≡ either (operands l) (operands r)
  operands-or s l r = spliced (either (operands l) (operands r))
    where
      spliced : (rs : Result (Readings P) Fault) → map_ok (members (expression s (t.Op l BitOr r))) (map_ok (reads s) (map_ok Union rs)) ≡ rs
      spliced (Ok rs) = refl
      spliced (Err f) = refl
