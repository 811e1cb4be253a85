-- What is in expressions, parameters, targets and clauses.
use Rattle.std.proofs.Common.{◌≡◌, ℕ, ◌-◌, List as Seq, [], ◌∷◌, ◌++◌, Result, Some, refl, sym, ap, ◌∙◌, arith}
use Rattle.std.specs.List.{flat_map}
use Rattle.std.proofs.lemmas.List.{append-nil}
use Rattle.starlark_lexer.specs.Tokens.{Span}
use Rattle.starlark_tree.specs.Ast as t
use Rattle.starlark_tree.specs.Ast.{no_payload, expressions_of, pairs_of, arguments_of, parameters_of, clauses_of, targets_of, statements_of}
use Rattle.starlark_tree.specs.Inside as walk
use Rattle.starlark_tree.specs.declared.ast.operator.BinOp.{BinOp}
use Rattle.starlark_passes.specs.Replace.Replacing as first
use Rattle.starlark_passes.specs.Replace.Replacing.{Table, named}
use Rattle.starlark_passes.specs.Replace.Parts.{Part, Replaces, both, each, each_replaced, below_shape, an_expression, a_pair, a_maybe, a_type, an_argument}
use Rattle.starlark_passes.specs.Replace.Parts.{a_parameter, a_for, a_clause, a_target, a_statement, a_form}
use Rattle.starlark_passes.proofs.ReplaceLemmas.Laws.{named-append}
use Rattle.starlark_passes.proofs.ReplaceLemmas.Steps.{made}

-- lists
pub inside_expressions : (xs : Seq (t.Expression no_payload)) → walk.all_inside (expressions_of xs) ≡ flat_map walk.inside xs
inside_expressions [] = refl
inside_expressions (x ∷ xs) = ap (λ l. walk.inside x ++ l) (inside_expressions xs)

pub replaced_expressions : (table : Table) (k : ℕ) (xs : Seq (t.Expression no_payload)) → first.expressions_replaced table k (expressions_of xs)
    ≡ expressions_of (each_replaced table (an_expression table) k xs)
replaced_expressions table k [] = refl
replaced_expressions table k (x ∷ xs) = ap (t.expressions ((an_expression table).replaced k x))
    (replaced_expressions table (k - named table (walk.inside x)) xs)

pub inside_arguments : (xs : Seq (t.Argument no_payload)) → walk.arguments_inside (arguments_of xs) ≡ flat_map walk.argument_inside xs
inside_arguments [] = refl
inside_arguments (x ∷ xs) = ap (λ l. walk.argument_inside x ++ l) (inside_arguments xs)

pub replaced_arguments : (table : Table) (k : ℕ) (xs : Seq (t.Argument no_payload)) → first.arguments_replaced table k (arguments_of xs)
    ≡ arguments_of (each_replaced table (an_argument table) k xs)
replaced_arguments table k [] = refl
replaced_arguments table k (x ∷ xs) = ap (t.arguments ((an_argument table).replaced k x))
    (replaced_arguments table (k - named table (walk.argument_inside x)) xs)

pub inside_parameters : (xs : Seq (t.Parameter no_payload)) → walk.parameters_inside (parameters_of xs) ≡ flat_map walk.parameter_inside xs
inside_parameters [] = refl
inside_parameters (x ∷ xs) = ap (λ l. walk.parameter_inside x ++ l) (inside_parameters xs)

pub replaced_parameters : (table : Table) (k : ℕ) (xs : Seq (t.Parameter no_payload)) → first.parameters_replaced table k (parameters_of xs)
    ≡ parameters_of (each_replaced table (a_parameter table) k xs)
replaced_parameters table k [] = refl
replaced_parameters table k (x ∷ xs) = ap (t.parameters ((a_parameter table).replaced k x))
    (replaced_parameters table (k - named table (walk.parameter_inside x)) xs)

pub inside_clauses : (xs : Seq (t.Clause no_payload)) → walk.clauses_inside (clauses_of xs) ≡ flat_map walk.clause_inside xs
inside_clauses [] = refl
inside_clauses (x ∷ xs) = ap (λ l. walk.clause_inside x ++ l) (inside_clauses xs)

pub replaced_clauses : (table : Table) (k : ℕ) (xs : Seq (t.Clause no_payload)) → first.clauses_replaced table k (clauses_of xs)
    ≡ clauses_of (each_replaced table (a_clause table) k xs)
replaced_clauses table k [] = refl
replaced_clauses table k (x ∷ xs) = ap (t.clauses ((a_clause table).replaced k x)) (replaced_clauses table (k - named table (walk.clause_inside x)) xs)

pub inside_targets : (xs : Seq (t.Target no_payload)) → walk.targets_inside (targets_of xs) ≡ flat_map walk.target_inside xs
inside_targets [] = refl
inside_targets (x ∷ xs) = ap (λ l. walk.target_inside x ++ l) (inside_targets xs)

pub replaced_targets : (table : Table) (k : ℕ) (xs : Seq (t.Target no_payload)) → first.targets_replaced table k (targets_of xs)
    ≡ targets_of (each_replaced table (a_target table) k xs)
replaced_targets table k [] = refl
replaced_targets table k (x ∷ xs) = ap (t.targets ((a_target table).replaced k x)) (replaced_targets table (k - named table (walk.target_inside x)) xs)

pub inside_statements : (xs : Seq (t.Statement no_payload)) → walk.inside_statements (statements_of xs) ≡ flat_map walk.inside_statement xs
inside_statements [] = refl
inside_statements (x ∷ xs) = ap (λ l. walk.inside_statement x ++ l) (inside_statements xs)

pub replaced_statements : (table : Table) (k : ℕ) (xs : Seq (t.Statement no_payload)) → first.statements_replaced table k (statements_of xs)
    ≡ statements_of (each_replaced table (a_statement table) k xs)
replaced_statements table k [] = refl
replaced_statements table k (x ∷ xs) = ap (t.statements ((a_statement table).replaced k x))
    (replaced_statements table (k - named table (walk.inside_statement x)) xs)

less_both : (table : Table) (k : ℕ) (xs ys : Seq (t.Expression no_payload)) → (k - named table xs) - named table ys ≡ k - named table (xs ++ ys)
less_both table k xs ys = let e = named-append table xs ys in omega (arith, e)

same_rest : (xs ys zs : Seq (t.Expression no_payload)) → (xs ++ ys) ++ zs ≡ xs ++ (ys ++ zs)
same_rest [] ys zs = refl
same_rest (x ∷ xs) ys zs = ap (λ l. x ∷ l) (same_rest xs ys zs)

pub inside_pairs : (xs : Seq (t.Expression no_payload × t.Expression no_payload)) → walk.pairs_inside (pairs_of xs)
    ≡ flat_map (λ p. walk.inside p.0 ++ walk.inside p.1) xs
inside_pairs [] = refl
inside_pairs (p ∷ ps) = ap (λ l. walk.inside p.0 ++ (walk.inside p.1 ++ l)) (inside_pairs ps)
    ∙ sym (same_rest (walk.inside p.0) (walk.inside p.1) (flat_map (λ p. walk.inside p.0 ++ walk.inside p.1) ps))

pub replaced_pairs : (table : Table) (k : ℕ) (xs : Seq (t.Expression no_payload × t.Expression no_payload)) → first.pairs_replaced table k (pairs_of xs)
    ≡ pairs_of (each_replaced table (a_pair table) k xs)
replaced_pairs table k [] = refl
replaced_pairs table k (p ∷ ps) =
    ap (t.pairs (first.replaced table k p.0) (first.replaced table (k - named table (walk.inside p.0)) p.1))
    (ap (λ n. first.pairs_replaced table n (pairs_of ps)) (less_both table k (walk.inside p.0) (walk.inside p.1))
    ∙ replaced_pairs table (k - named table (walk.inside p.0 ++ walk.inside p.1)) ps)

module _ {E : Type 0} {table : Table} {r : Result (Unit {0}) E} where
  -- the same part, under other names
  pub seen_as : {X : Type 0} {p : Part X} {x y a b : X} → a ≡ x → b ≡ y → Replaces table p r x y → Replaces table p r a b
  seen_as {p} d e h = rw (d, e) h

  pub in_tuple : {xs ys : Seq (t.Expression no_payload)} → Replaces table (each table (an_expression table)) r xs ys
      → Replaces table (below_shape table) r (t.Tuple (expressions_of xs)) (t.Tuple (expressions_of ys))
  in_tuple = made (λ xs. t.Tuple (expressions_of xs)) (inside_expressions _) (λ k. ap t.Tuple (replaced_expressions table k _))

  pub in_list : {xs ys : Seq (t.Expression no_payload)} → Replaces table (each table (an_expression table)) r xs ys
      → Replaces table (below_shape table) r (t.List (expressions_of xs)) (t.List (expressions_of ys))
  in_list = made (λ xs. t.List (expressions_of xs)) (inside_expressions _) (λ k. ap t.List (replaced_expressions table k _))

  pub in_f_string : {xs ys : Seq (t.Expression no_payload)} (s : Span) (w : t.Word) → Replaces table (each table (an_expression table)) r xs ys
      → Replaces table (below_shape table) r (t.FString s w (expressions_of xs)) (t.FString s w (expressions_of ys))
  in_f_string s w = made (λ xs. t.FString s w (expressions_of xs)) (inside_expressions _) (λ k. ap (t.FString s w) (replaced_expressions table k _))

  pub in_dict : {xs ys : Seq (t.Expression no_payload × t.Expression no_payload)} → Replaces table (each table (a_pair table)) r xs ys
      → Replaces table (below_shape table) r (t.Dict (pairs_of xs)) (t.Dict (pairs_of ys))
  in_dict = made (λ xs. t.Dict (pairs_of xs)) (inside_pairs _) (λ k. ap t.Dict (replaced_pairs table k _))

  pub in_call : {f g : t.Expression no_payload} {xs ys : Seq (t.Argument no_payload)}
      → Replaces table (both table (an_expression table) (each table (an_argument table))) r (f, xs) (g, ys)
      → Replaces table (below_shape table) r (t.Call f (arguments_of xs)) (t.Call g (arguments_of ys))
  in_call {f} {xs} = made (λ p. t.Call p.0 (arguments_of p.1)) (ap (λ l. walk.inside f ++ l) (inside_arguments xs))
      (λ k. ap (t.Call (first.replaced table k f)) (replaced_arguments table (k - named table (walk.inside f)) xs))

  pub in_lambda : {xs ys : Seq (t.Parameter no_payload)} {a b : t.Expression no_payload} (p : Unit {0})
      → Replaces table (both table (each table (a_parameter table)) (an_expression table)) r (xs, a) (ys, b)
      → Replaces table (below_shape table) r (t.Lambda (parameters_of xs) a p) (t.Lambda (parameters_of ys) b p)
  in_lambda {xs} {a} p =
      made (λ x. t.Lambda (parameters_of x.0) x.1 p) (ap (λ l. l ++ walk.inside a) (inside_parameters xs))
      (λ k. λ i. t.Lambda (replaced_parameters table k xs i) (first.replaced table (k - named table (inside_parameters xs i)) a) p)

  pub in_list_comprehension : {f g : t.ForIn no_payload} {xs ys : Seq (t.Clause no_payload)} {a b : t.Expression no_payload}
      → Replaces table (both table (a_for table) (both table (each table (a_clause table)) (an_expression table))) r (f, (xs, a)) (g, (ys, b))
      → Replaces table (below_shape table) r (t.ListComprehension a f (clauses_of xs)) (t.ListComprehension b g (clauses_of ys))
  in_list_comprehension {f} {xs} {a} =
      made (λ x. t.ListComprehension x.1.1 x.0 (clauses_of x.1.0)) (ap (λ l. walk.for_inside f ++ (l ++ walk.inside a)) (inside_clauses xs))
      (λ k. λ i. t.ListComprehension (first.replaced table (k - named table (walk.for_inside f) - named table (inside_clauses xs i)) a)
      (first.for_replaced table k f)
      (replaced_clauses table (k - named table (walk.for_inside f)) xs i))

  pub in_dict_comprehension : {f g : t.ForIn no_payload} {xs ys : Seq (t.Clause no_payload)} {a b : t.Expression no_payload × t.Expression no_payload}
      → Replaces table (both table (a_for table) (both table (each table (a_clause table)) (a_pair table))) r (f, (xs, a)) (g, (ys, b))
      → Replaces table (below_shape table) r (t.DictComprehension a.0 a.1 f (clauses_of xs)) (t.DictComprehension b.0 b.1 g (clauses_of ys))
  in_dict_comprehension {f} {xs} {a} =
      made (λ x. t.DictComprehension x.1.1.0 x.1.1.1 x.0 (clauses_of x.1.0)) (ap (λ l. walk.for_inside f ++ (l ++ (walk.inside a.0 ++ walk.inside a.1)))
      (inside_clauses xs))
      (λ k. λ i. t.DictComprehension (first.replaced table (k - named table (walk.for_inside f) - named table (inside_clauses xs i)) a.0)
      (first.replaced table (k - named table (walk.for_inside f) - named table (inside_clauses xs i) - named table (walk.inside a.0)) a.1)
      (first.for_replaced table k f)
      (replaced_clauses table (k - named table (walk.for_inside f)) xs i))

  pub in_not : {a b : t.Expression no_payload} → Replaces table (an_expression table) r a b → Replaces table (below_shape table) r (t.Not a) (t.Not b)
  in_not = made t.Not refl (λ k. refl)

  pub in_minus : {a b : t.Expression no_payload} → Replaces table (an_expression table) r a b → Replaces table (below_shape table) r (t.Minus a) (t.Minus b)
  in_minus = made t.Minus refl (λ k. refl)

  pub in_plus : {a b : t.Expression no_payload} → Replaces table (an_expression table) r a b → Replaces table (below_shape table) r (t.Plus a) (t.Plus b)
  in_plus = made t.Plus refl (λ k. refl)

  pub in_bit_not : {a b : t.Expression no_payload} → Replaces table (an_expression table) r a b → Replaces table (below_shape table) r (t.BitNot a) (t.BitNot b)
  in_bit_not = made t.BitNot refl (λ k. refl)

  pub in_dot : {a b : t.Expression no_payload} (w : t.Word) → Replaces table (an_expression table) r a b → Replaces table (below_shape table) r (t.Dot a w)
      (t.Dot b w)
  in_dot w = made (λ a. t.Dot a w) refl (λ k. refl)

  pub in_index : {x y : t.Expression no_payload × t.Expression no_payload} → Replaces table (both table (an_expression table) (an_expression table)) r x y
      → Replaces table (below_shape table) r (t.Index x.0 x.1) (t.Index y.0 y.1)
  in_index = made (λ x. t.Index x.0 x.1) refl (λ k. refl)

  pub in_operation : {x y : t.Expression no_payload × t.Expression no_payload} (op : BinOp)
      → Replaces table (both table (an_expression table) (an_expression table)) r x y → Replaces table (below_shape table) r (t.Op x.0 op x.1) (t.Op y.0 op y.1)
  in_operation op = made (λ x. t.Op x.0 op x.1) refl (λ k. refl)

  pub in_index2 : {x y : t.Expression no_payload × (t.Expression no_payload × t.Expression no_payload)}
      → Replaces table (both table (an_expression table) (both table (an_expression table) (an_expression table))) r x y
      → Replaces table (below_shape table) r (t.Index2 x.0 x.1.0 x.1.1) (t.Index2 y.0 y.1.0 y.1.1)
  in_index2 = made (λ x. t.Index2 x.0 x.1.0 x.1.1) refl (λ k. refl)

  pub in_if : {x y : t.Expression no_payload × (t.Expression no_payload × t.Expression no_payload)}
      → Replaces table (both table (an_expression table) (both table (an_expression table) (an_expression table))) r x y
      → Replaces table (below_shape table) r (t.If x.0 x.1.0 x.1.1) (t.If y.0 y.1.0 y.1.1)
  in_if = made (λ x. t.If x.0 x.1.0 x.1.1) refl (λ k. refl)

  pub in_slice : {x y : t.Expression no_payload × (t.Maybe no_payload × (t.Maybe no_payload × t.Maybe no_payload))}
      → Replaces table (both table (an_expression table) (both table (a_maybe table) (both table (a_maybe table) (a_maybe table)))) r x y
      → Replaces table (below_shape table) r (t.Slice x.0 x.1.0 x.1.1.0 x.1.1.1) (t.Slice y.0 y.1.0 y.1.1.0 y.1.1.1)
  in_slice = made (λ x. t.Slice x.0 x.1.0 x.1.1.0 x.1.1.1) refl (λ k. refl)

  pub in_for : {x y : t.Target no_payload × t.Expression no_payload} → Replaces table (both table (a_target table) (an_expression table)) r x y
      → Replaces table (a_for table) r (t.for_in x.0 x.1) (t.for_in y.0 y.1)
  in_for = made (λ x. t.for_in x.0 x.1) refl (λ k. refl)

  pub in_target_tuple : {xs ys : Seq (t.Target no_payload)} (s : Span) → Replaces table (each table (a_target table)) r xs ys
      → Replaces table (a_target table) r (t.TupleTarget s (targets_of xs)) (t.TupleTarget s (targets_of ys))
  in_target_tuple {xs} s = made (λ ts. t.TupleTarget s (targets_of ts)) (inside_targets xs) (λ k. ap (t.TupleTarget s) (replaced_targets table k xs))

  pub in_block : {xs ys : Seq (t.Statement no_payload)} → Replaces table (each table (a_statement table)) r xs ys
      → Replaces table (a_form table) r (t.Block (statements_of xs)) (t.Block (statements_of ys))
  in_block {xs} = made (λ ss. t.Block (statements_of ss)) (inside_statements xs) (λ k. ap t.Block (replaced_statements table k xs))

  pub in_return : {a b : t.Expression no_payload} → Replaces table (an_expression table) r a b → Replaces table (a_form table) r (t.Return (Some a))
      (t.Return (Some b))
  in_return {a} = made (λ e. t.Return (Some e)) (append-nil (walk.inside a)) (λ k. refl)

  pub in_assign : {x y : t.Target no_payload × (t.MaybeType no_payload × t.Expression no_payload)}
      → Replaces table (both table (a_target table) (both table (a_type table) (an_expression table))) r x y
      → Replaces table (a_form table) r (t.Assign x.0 x.1.0 x.1.1) (t.Assign y.0 y.1.0 y.1.1)
  in_assign = made (λ x. t.Assign x.0 x.1.0 x.1.1) refl (λ k. refl)

  pub in_if_then : {x y : t.Expression no_payload × t.Statement no_payload} → Replaces table (both table (an_expression table) (a_statement table)) r x y
      → Replaces table (a_form table) r (t.IfThen x.0 x.1) (t.IfThen y.0 y.1)
  in_if_then = made (λ x. t.IfThen x.0 x.1) refl (λ k. refl)

  pub in_if_else : {x y : t.Expression no_payload × (t.Statement no_payload × t.Statement no_payload)}
      → Replaces table (both table (an_expression table) (both table (a_statement table) (a_statement table))) r x y
      → Replaces table (a_form table) r (t.IfElse x.0 x.1.0 x.1.1) (t.IfElse y.0 y.1.0 y.1.1)
  in_if_else = made (λ x. t.IfElse x.0 x.1.0 x.1.1) refl (λ k. refl)

  pub in_repeated : {x y : (t.Target no_payload × t.Expression no_payload) × t.Statement no_payload}
      → Replaces table (both table (both table (a_target table) (an_expression table)) (a_statement table)) r x y
      → Replaces table (a_form table) r (t.For x.0.0 x.0.1 x.1) (t.For y.0.0 y.0.1 y.1)
  in_repeated {x} =
      made (λ x. t.For x.0.0 x.0.1 x.1) (sym (same_rest (walk.target_inside x.0.0) (walk.inside x.0.1) (walk.inside_statement x.1)))
      (λ k. ap (λ n. t.For (first.target_replaced table k x.0.0) (first.replaced table (k - named table (walk.target_inside x.0.0)) x.0.1)
      (first.statement_replaced table n x.1))
      (less_both table k (walk.target_inside x.0.0) (walk.inside x.0.1)))

  pub in_definition : {x y : (Seq (t.Parameter no_payload) × t.MaybeType no_payload) × t.Statement no_payload} (w : t.Word) (p q : Unit {0})
      → Replaces table (both table (both table (each table (a_parameter table)) (a_type table)) (a_statement table)) r x y
      → Replaces table (a_form table) r (t.Def w p (parameters_of x.0.0) x.0.1 x.1 q) (t.Def w p (parameters_of y.0.0) y.0.1 y.1 q)
  in_definition {x} w p q =
      made (λ x. t.Def w p (parameters_of x.0.0) x.0.1 x.1 q)
      (ap (λ l. l ++ (walk.type_inside x.0.1 ++ walk.inside_statement x.1)) (inside_parameters x.0.0)
      ∙ sym (same_rest (flat_map walk.parameter_inside x.0.0) (walk.type_inside x.0.1) (walk.inside_statement x.1)))
      (λ k. (λ i. t.Def w p (replaced_parameters table k x.0.0 i) (first.type_replaced table (k - named table (inside_parameters x.0.0 i)) x.0.1)
      (first.statement_replaced table ((k - named table (inside_parameters x.0.0 i)) - named table (walk.type_inside x.0.1)) x.1) q)
      ∙ ap (λ n. t.Def w p (parameters_of (each_replaced table (a_parameter table) k x.0.0))
      (first.type_replaced table (k - named table (flat_map walk.parameter_inside x.0.0)) x.0.1) (first.statement_replaced table n x.1) q)
      (less_both table k (flat_map walk.parameter_inside x.0.0) (walk.type_inside x.0.1)))
