-- Parts of which no operator is replaced, and of which all are.
use Rattle.std.proofs.Common.{◌≡◌, ℕ, zero, suc, ◌-◌, ◌+◌, ◌≤◌, List, [], ◌∷◌, ◌++◌, Option, Some, None, refl, ap, arith, append-nil}
use Rattle.std.specs.Prelude.{cond, is_some}
use Rattle.std.proofs.lemmas.List.Sums.{sum_by-append}
use Rattle.starlark_lexer.specs.Tokens.{Span, Text}
use Rattle.starlark_tree.specs.Ast as t
use Rattle.starlark_tree.specs.Ast.{no_payload}
use Rattle.starlark_tree.specs.Inside as walk
use Rattle.starlark_tree.specs.declared.ast.operator.BinOp.{BinOp}
use Rattle.starlark_passes.specs.Replace.Replacing.{Table, is_named, named, operator_name, one_if_some, call_or_op, call_of, replaced, shape_replaced}
use Rattle.starlark_passes.specs.Replace.Replacing.{expressions_replaced, maybe_replaced, type_replaced, pairs_replaced, arguments_replaced, argument_replaced}
use Rattle.starlark_passes.specs.Replace.Replacing.{parameters_replaced, parameter_replaced, for_replaced, clauses_replaced, clause_replaced, target_replaced}
use Rattle.starlark_passes.specs.Replace.Replacing.{targets_replaced, statement_replaced, form_replaced, statements_replaced}

gone : (k n : ℕ) → k ≡ 0 → k - n ≡ 0
gone k n h = omega arith

module _ (table : Table) where
  -- how many operators two parts have
  pub named-append : (xs ys : List (t.Expression no_payload)) → named table (xs ++ ys) ≡ named table xs + named table ys
  named-append xs ys = sum_by-append (λ e. cond (is_named table e) 1 0) xs ys

  pub named-cons : (e : t.Expression no_payload) (es : List (t.Expression no_payload)) → named table (e ∷ es) ≡ cond (is_named table e) 1 0 + named table es
  named-cons e es = let h = named-append (e ∷ []) es in omega (arith, h)

  -- an expression has no fewer than what is below it
  pub inner : (s : Span) (x : t.Shape no_payload) (j : ℕ) → named table (t.expression s x ∷ walk.below x) ≤ j → named table (walk.below x) ≤ j
  inner s x j p = let h = named-cons (t.expression s x) (walk.below x) in omega (arith, h)

  named-nil : (xs : List (t.Expression no_payload)) → named table (xs ++ []) ≡ named table xs
  named-nil xs = ap (named table) (append-nil xs)

  pub front : (xs ys : List (t.Expression no_payload)) (j : ℕ) → named table (xs ++ ys) ≤ j → named table xs ≤ j
  front xs ys j p = let e = named-append xs ys in omega (arith, e)

  pub back : (xs ys : List (t.Expression no_payload)) (j : ℕ) → named table (xs ++ ys) ≤ j → named table ys ≤ j - named table xs
  back xs ys j p = let e = named-append xs ys in omega (arith, e)

  operation_none : (o : Option Text) (k : ℕ) → k ≡ 0 → (s : Span) (op : BinOp) {l x r y : t.Expression no_payload} → l ≡ x → r ≡ y → call_or_op o k s l op r
      ≡ t.Op x op y
  operation_none (Some f) zero h s op d e = λ i. t.Op (d i) op (e i)
  operation_none (Some f) (suc k) h s op d e = absurd (omega arith)
  operation_none None k h s op d e = λ i. t.Op (d i) op (e i)

  operation_same : (o : Option Text) (j k : ℕ) (s : Span) (op : BinOp) → one_if_some o ≤ j → one_if_some o ≤ k → {l x r y : t.Expression no_payload} → l ≡ x
      → r ≡ y → call_or_op o j s l op r ≡ call_or_op o k s x op y
  operation_same (Some f) (suc j) (suc k) s op p q d e = λ i. call_of f s (d i) (e i)
  operation_same (Some f) zero k s op p q d e = absurd (omega arith)
  operation_same (Some f) (suc j) zero s op p q d e = absurd (omega arith)
  operation_same None j k s op p q d e = λ i. t.Op (d i) op (e i)

  -- none is replaced
  mutual
    pub none-expression : (k : ℕ) → k ≡ 0 → (x : t.Expression no_payload) → replaced table k x ≡ x
    none-expression k h (t.expression s shape) = ap (t.expression s) (none-shape k h s shape)

    none-shape : (k : ℕ) → k ≡ 0 → (s : Span) (x : t.Shape no_payload) → shape_replaced table k s x ≡ x
    none-shape k h s (t.Tuple es) = λ i. t.Tuple (none-expressions k h es i)
    none-shape k h s (t.Dot e w) = λ i. t.Dot (none-expression k h e i) w
    none-shape k h s (t.Call f passed) =
        let h1 = gone k (named table (walk.inside f)) h in
        λ i. t.Call (none-expression k h f i) (none-arguments (k - named table (walk.inside f)) h1 passed i)
    none-shape k h s (t.Index a x) =
        let h1 = gone k (named table (walk.inside a)) h in
        λ i. t.Index (none-expression k h a i) (none-expression (k - named table (walk.inside a)) h1 x i)
    none-shape k h s (t.Index2 a x y) =
        let h1 = gone k (named table (walk.inside a)) h in
        let h2 = gone (k - named table (walk.inside a)) (named table (walk.inside x)) h1 in
        λ i. t.Index2 (none-expression k h a i) (none-expression (k - named table (walk.inside a)) h1 x i)
        (none-expression (k - named table (walk.inside a) - named table (walk.inside x)) h2 y i)
    none-shape k h s (t.Slice a start stop step) =
        let h1 = gone k (named table (walk.inside a)) h in
        let h2 = gone (k - named table (walk.inside a)) (named table (walk.maybe_inside start)) h1 in
        let h3 = gone (k - named table (walk.inside a) - named table (walk.maybe_inside start)) (named table (walk.maybe_inside stop)) h2 in
        λ i. t.Slice (none-expression k h a i) (none-maybe (k - named table (walk.inside a)) h1 start i)
        (none-maybe (k - named table (walk.inside a) - named table (walk.maybe_inside start)) h2 stop i)
        (none-maybe (k - named table (walk.inside a) - named table (walk.maybe_inside start) - named table (walk.maybe_inside stop)) h3 step i)
    none-shape k h s (t.Identifier w p) = refl
    none-shape k h s (t.Lambda ps e p) =
        let h1 = gone k (named table (walk.parameters_inside ps)) h in
        λ i. t.Lambda (none-parameters k h ps i) (none-expression (k - named table (walk.parameters_inside ps)) h1 e i) p
    none-shape k h s (t.Constant l) = refl
    none-shape k h s (t.Not e) = λ i. t.Not (none-expression k h e i)
    none-shape k h s (t.Minus e) = λ i. t.Minus (none-expression k h e i)
    none-shape k h s (t.Plus e) = λ i. t.Plus (none-expression k h e i)
    none-shape k h s (t.BitNot e) = λ i. t.BitNot (none-expression k h e i)
    none-shape k h s (t.Op l op r) =
        operation_none (table (operator_name op)) k h s op
        (none-expression (k - one_if_some (table (operator_name op))) (gone k (one_if_some (table (operator_name op))) h) l)
        (none-expression (k - one_if_some (table (operator_name op)) - named table (walk.inside l))
        (gone (k - one_if_some (table (operator_name op))) (named table (walk.inside l)) (gone k (one_if_some (table (operator_name op))) h)) r)
    none-shape k h s (t.If c v w) =
        let h1 = gone k (named table (walk.inside c)) h in
        let h2 = gone (k - named table (walk.inside c)) (named table (walk.inside v)) h1 in
        λ i. t.If (none-expression k h c i) (none-expression (k - named table (walk.inside c)) h1 v i)
        (none-expression (k - named table (walk.inside c) - named table (walk.inside v)) h2 w i)
    none-shape k h s (t.List es) = λ i. t.List (none-expressions k h es i)
    none-shape k h s (t.Dict ps) = λ i. t.Dict (none-pairs k h ps i)
    none-shape k h s (t.ListComprehension e first cs) =
        let h1 = gone k (named table (walk.for_inside first)) h in
        let h2 = gone (k - named table (walk.for_inside first)) (named table (walk.clauses_inside cs)) h1 in
        λ i. t.ListComprehension (none-expression (k - named table (walk.for_inside first) - named table (walk.clauses_inside cs)) h2 e i)
        (none-for k h first i) (none-clauses (k - named table (walk.for_inside first)) h1 cs i)
    none-shape k h s (t.DictComprehension key v first cs) =
        let h1 = gone k (named table (walk.for_inside first)) h in
        let h2 = gone (k - named table (walk.for_inside first)) (named table (walk.clauses_inside cs)) h1 in
        let h3 = gone (k - named table (walk.for_inside first) - named table (walk.clauses_inside cs)) (named table (walk.inside key)) h2 in
        λ i. t.DictComprehension (none-expression (k - named table (walk.for_inside first) - named table (walk.clauses_inside cs)) h2 key i)
        (none-expression (k - named table (walk.for_inside first) - named table (walk.clauses_inside cs) - named table (walk.inside key)) h3 v i)
        (none-for k h first i) (none-clauses (k - named table (walk.for_inside first)) h1 cs i)
    none-shape k h s (t.FString at w es) = λ i. t.FString at w (none-expressions k h es i)

    pub none-expressions : (k : ℕ) → k ≡ 0 → (x : t.Expressions no_payload) → expressions_replaced table k x ≡ x
    none-expressions k h t.no_expressions = refl
    none-expressions k h (t.expressions e es) =
        let h1 = gone k (named table (walk.inside e)) h in
        λ i. t.expressions (none-expression k h e i) (none-expressions (k - named table (walk.inside e)) h1 es i)

    pub none-maybe : (k : ℕ) → k ≡ 0 → (x : t.Maybe no_payload) → maybe_replaced table k x ≡ x
    none-maybe k h t.absent = refl
    none-maybe k h (t.present e) = λ i. t.present (none-expression k h e i)

    pub none-type : (k : ℕ) → k ≡ 0 → (x : t.MaybeType no_payload) → type_replaced table k x ≡ x
    none-type k h t.no_type = refl
    none-type k h (t.typed s e p) = λ i. t.typed s (none-expression k h e i) p

    pub none-pairs : (k : ℕ) → k ≡ 0 → (x : t.Pairs no_payload) → pairs_replaced table k x ≡ x
    none-pairs k h t.no_pairs = refl
    none-pairs k h (t.pairs key v ps) =
        let h1 = gone k (named table (walk.inside key)) h in
        let h2 = gone (k - named table (walk.inside key)) (named table (walk.inside v)) h1 in
        λ i. t.pairs (none-expression k h key i) (none-expression (k - named table (walk.inside key)) h1 v i)
        (none-pairs (k - named table (walk.inside key) - named table (walk.inside v)) h2 ps i)

    pub none-arguments : (k : ℕ) → k ≡ 0 → (x : t.Arguments no_payload) → arguments_replaced table k x ≡ x
    none-arguments k h t.no_arguments = refl
    none-arguments k h (t.arguments a rest) =
        let h1 = gone k (named table (walk.argument_inside a)) h in
        λ i. t.arguments (none-argument k h a i) (none-arguments (k - named table (walk.argument_inside a)) h1 rest i)

    pub none-argument : (k : ℕ) → k ≡ 0 → (x : t.Argument no_payload) → argument_replaced table k x ≡ x
    none-argument k h (t.Positional s e) = λ i. t.Positional s (none-expression k h e i)
    none-argument k h (t.Named s w e) = λ i. t.Named s w (none-expression k h e i)
    none-argument k h (t.Star s e) = λ i. t.Star s (none-expression k h e i)
    none-argument k h (t.StarStar s e) = λ i. t.StarStar s (none-expression k h e i)

    pub none-parameters : (k : ℕ) → k ≡ 0 → (x : t.Parameters no_payload) → parameters_replaced table k x ≡ x
    none-parameters k h t.no_parameters = refl
    none-parameters k h (t.parameters p ps) =
        let h1 = gone k (named table (walk.parameter_inside p)) h in
        λ i. t.parameters (none-parameter k h p i) (none-parameters (k - named table (walk.parameter_inside p)) h1 ps i)

    pub none-parameter : (k : ℕ) → k ≡ 0 → (x : t.Parameter no_payload) → parameter_replaced table k x ≡ x
    none-parameter k h (t.Slash s) = refl
    none-parameter k h (t.Normal s w p ty v) =
        let h1 = gone k (named table (walk.type_inside ty)) h in
        λ i. t.Normal s w p (none-type k h ty i) (none-maybe (k - named table (walk.type_inside ty)) h1 v i)
    none-parameter k h (t.NoArgs s) = refl
    none-parameter k h (t.Args s w p ty) = λ i. t.Args s w p (none-type k h ty i)
    none-parameter k h (t.KwArgs s w p ty) = λ i. t.KwArgs s w p (none-type k h ty i)

    pub none-for : (k : ℕ) → k ≡ 0 → (x : t.ForIn no_payload) → for_replaced table k x ≡ x
    none-for k h (t.for_in x over) =
        let h1 = gone k (named table (walk.target_inside x)) h in
        λ i. t.for_in (none-target k h x i) (none-expression (k - named table (walk.target_inside x)) h1 over i)

    pub none-clauses : (k : ℕ) → k ≡ 0 → (x : t.Clauses no_payload) → clauses_replaced table k x ≡ x
    none-clauses k h t.no_clauses = refl
    none-clauses k h (t.clauses c cs) =
        let h1 = gone k (named table (walk.clause_inside c)) h in
        λ i. t.clauses (none-clause k h c i) (none-clauses (k - named table (walk.clause_inside c)) h1 cs i)

    pub none-clause : (k : ℕ) → k ≡ 0 → (x : t.Clause no_payload) → clause_replaced table k x ≡ x
    none-clause k h (t.for_clause first) = λ i. t.for_clause (none-for k h first i)
    none-clause k h (t.if_clause e) = λ i. t.if_clause (none-expression k h e i)

    pub none-target : (k : ℕ) → k ≡ 0 → (x : t.Target no_payload) → target_replaced table k x ≡ x
    none-target k h (t.TupleTarget s xs) = λ i. t.TupleTarget s (none-targets k h xs i)
    none-target k h (t.IndexTarget s a x) =
        let h1 = gone k (named table (walk.inside a)) h in
        λ i. t.IndexTarget s (none-expression k h a i) (none-expression (k - named table (walk.inside a)) h1 x i)
    none-target k h (t.DotTarget s e w) = λ i. t.DotTarget s (none-expression k h e i) w
    none-target k h (t.NameTarget s w p) = refl

    pub none-targets : (k : ℕ) → k ≡ 0 → (x : t.Targets no_payload) → targets_replaced table k x ≡ x
    none-targets k h t.no_targets = refl
    none-targets k h (t.targets x xs) =
        let h1 = gone k (named table (walk.target_inside x)) h in
        λ i. t.targets (none-target k h x i) (none-targets (k - named table (walk.target_inside x)) h1 xs i)

  mutual
    pub none-statement : (k : ℕ) → k ≡ 0 → (x : t.Statement no_payload) → statement_replaced table k x ≡ x
    none-statement k h (t.statement s form) = ap (t.statement s) (none-form k h form)

    pub none-form : (k : ℕ) → k ≡ 0 → (x : t.Form no_payload) → form_replaced table k x ≡ x
    none-form k h t.Break = refl
    none-form k h t.Continue = refl
    none-form k h t.Pass = refl
    none-form k h (t.Return None) = refl
    none-form k h (t.Return (Some e)) = λ i. t.Return (Some (none-expression k h e i))
    none-form k h (t.Evaluate e) = λ i. t.Evaluate (none-expression k h e i)
    none-form k h (t.Assign x ty e) =
        let h1 = gone k (named table (walk.target_inside x)) h in
        let h2 = gone (k - named table (walk.target_inside x)) (named table (walk.type_inside ty)) h1 in
        λ i. t.Assign (none-target k h x i) (none-type (k - named table (walk.target_inside x)) h1 ty i)
        (none-expression (k - named table (walk.target_inside x) - named table (walk.type_inside ty)) h2 e i)
    none-form k h (t.AssignModify x op e) =
        let h1 = gone k (named table (walk.target_inside x)) h in
        λ i. t.AssignModify (none-target k h x i) op (none-expression (k - named table (walk.target_inside x)) h1 e i)
    none-form k h (t.Block ss) = λ i. t.Block (none-statements k h ss i)
    none-form k h (t.IfThen e body) =
        let h1 = gone k (named table (walk.inside e)) h in
        λ i. t.IfThen (none-expression k h e i) (none-statement (k - named table (walk.inside e)) h1 body i)
    none-form k h (t.IfElse e body other) =
        let h1 = gone k (named table (walk.inside e)) h in
        let h2 = gone (k - named table (walk.inside e)) (named table (walk.inside_statement body)) h1 in
        λ i. t.IfElse (none-expression k h e i) (none-statement (k - named table (walk.inside e)) h1 body i)
        (none-statement (k - named table (walk.inside e) - named table (walk.inside_statement body)) h2 other i)
    none-form k h (t.For x over body) =
        let h1 = gone k (named table (walk.target_inside x)) h in
        let h2 = gone (k - named table (walk.target_inside x)) (named table (walk.inside over)) h1 in
        λ i. t.For (none-target k h x i) (none-expression (k - named table (walk.target_inside x)) h1 over i)
        (none-statement (k - named table (walk.target_inside x) - named table (walk.inside over)) h2 body i)
    none-form k h (t.Def w p ps ty body q) =
        let h1 = gone k (named table (walk.parameters_inside ps)) h in
        let h2 = gone (k - named table (walk.parameters_inside ps)) (named table (walk.type_inside ty)) h1 in
        λ i. t.Def w p (none-parameters k h ps i) (none-type (k - named table (walk.parameters_inside ps)) h1 ty i)
        (none-statement (k - named table (walk.parameters_inside ps) - named table (walk.type_inside ty)) h2 body i) q
    none-form k h (t.Load path names p) = refl

    pub none-statements : (k : ℕ) → k ≡ 0 → (x : t.Statements no_payload) → statements_replaced table k x ≡ x
    none-statements k h t.no_statements = refl
    none-statements k h (t.statements s ss) =
        let h1 = gone k (named table (walk.inside_statement s)) h in
        λ i. t.statements (none-statement k h s i) (none-statements (k - named table (walk.inside_statement s)) h1 ss i)

  -- all are replaced, however many may be
  mutual
    pub same-expression : (j k : ℕ) (x : t.Expression no_payload) → named table (walk.inside x) ≤ j → named table (walk.inside x) ≤ k
        → replaced table j x ≡ replaced table k x
    same-expression j k (t.expression s shape) hj hk = ap (t.expression s) (same-shape j k s shape hj hk)

    same-shape : (j k : ℕ) (s : Span) (x : t.Shape no_payload) → named table (t.expression s x ∷ walk.below x) ≤ j
        → named table (t.expression s x ∷ walk.below x) ≤ k → shape_replaced table j s x ≡ shape_replaced table k s x
    same-shape j k s (t.Tuple es) hj hk =
        let p0 = inner s (t.Tuple es) j hj in
        let q0 = inner s (t.Tuple es) k hk in
        λ i. t.Tuple (same-expressions j k es p0 q0 i)
    same-shape j k s (t.Dot e w) hj hk =
        let p0 = inner s (t.Dot e w) j hj in
        let q0 = inner s (t.Dot e w) k hk in
        λ i. t.Dot (same-expression j k e p0 q0 i) w
    same-shape j k s (t.Call f passed) hj hk =
        let p0 = inner s (t.Call f passed) j hj in
        let q0 = inner s (t.Call f passed) k hk in
        let p1 = back (walk.inside f) (walk.arguments_inside passed) j p0 in
        let q1 = back (walk.inside f) (walk.arguments_inside passed) k q0 in
        λ i. t.Call (same-expression j k f (front (walk.inside f) (walk.arguments_inside passed) j p0)
        (front (walk.inside f) (walk.arguments_inside passed) k q0) i) (same-arguments (j - named table (walk.inside f)) (k - named table (walk.inside f))
        passed p1 q1 i)
    same-shape j k s (t.Index a x) hj hk =
        let p0 = inner s (t.Index a x) j hj in
        let q0 = inner s (t.Index a x) k hk in
        let p1 = back (walk.inside a) (walk.inside x) j p0 in
        let q1 = back (walk.inside a) (walk.inside x) k q0 in
        λ i. t.Index (same-expression j k a (front (walk.inside a) (walk.inside x) j p0) (front (walk.inside a) (walk.inside x) k q0) i)
        (same-expression (j - named table (walk.inside a)) (k - named table (walk.inside a)) x p1 q1 i)
    same-shape j k s (t.Index2 a x y) hj hk =
        let p0 = inner s (t.Index2 a x y) j hj in
        let q0 = inner s (t.Index2 a x y) k hk in
        let p1 = back (walk.inside a) (walk.inside x ++ walk.inside y) j p0 in
        let q1 = back (walk.inside a) (walk.inside x ++ walk.inside y) k q0 in
        let p2 = back (walk.inside x) (walk.inside y) (j - named table (walk.inside a)) p1 in
        let q2 = back (walk.inside x) (walk.inside y) (k - named table (walk.inside a)) q1 in
        λ i. t.Index2 (same-expression j k a (front (walk.inside a) (walk.inside x ++ walk.inside y) j p0)
        (front (walk.inside a) (walk.inside x ++ walk.inside y) k q0) i)
        (same-expression (j - named table (walk.inside a)) (k - named table (walk.inside a)) x
        (front (walk.inside x) (walk.inside y) (j - named table (walk.inside a)) p1)
        (front (walk.inside x) (walk.inside y) (k - named table (walk.inside a)) q1) i)
        (same-expression (j - named table (walk.inside a) - named table (walk.inside x)) (k - named table (walk.inside a) - named table (walk.inside x)) y
        p2 q2 i)
    same-shape j k s (t.Slice a start stop step) hj hk =
        let p0 = inner s (t.Slice a start stop step) j hj in
        let q0 = inner s (t.Slice a start stop step) k hk in
        let p1 = back (walk.inside a) (walk.maybe_inside start ++ (walk.maybe_inside stop ++ walk.maybe_inside step)) j p0 in
        let q1 = back (walk.inside a) (walk.maybe_inside start ++ (walk.maybe_inside stop ++ walk.maybe_inside step)) k q0 in
        let p2 = back (walk.maybe_inside start) (walk.maybe_inside stop ++ walk.maybe_inside step) (j - named table (walk.inside a)) p1 in
        let q2 = back (walk.maybe_inside start) (walk.maybe_inside stop ++ walk.maybe_inside step) (k - named table (walk.inside a)) q1 in
        let p3 = back (walk.maybe_inside stop) (walk.maybe_inside step) (j - named table (walk.inside a) - named table (walk.maybe_inside start)) p2 in
        let q3 = back (walk.maybe_inside stop) (walk.maybe_inside step) (k - named table (walk.inside a) - named table (walk.maybe_inside start)) q2 in
        λ i. t.Slice (same-expression j k a (front (walk.inside a) (walk.maybe_inside start ++ (walk.maybe_inside stop ++ walk.maybe_inside step)) j p0)
        (front (walk.inside a) (walk.maybe_inside start ++ (walk.maybe_inside stop ++ walk.maybe_inside step)) k q0) i)
        (same-maybe (j - named table (walk.inside a)) (k - named table (walk.inside a)) start
        (front (walk.maybe_inside start) (walk.maybe_inside stop ++ walk.maybe_inside step) (j - named table (walk.inside a)) p1)
        (front (walk.maybe_inside start) (walk.maybe_inside stop ++ walk.maybe_inside step) (k - named table (walk.inside a)) q1) i)
        (same-maybe (j - named table (walk.inside a) - named table (walk.maybe_inside start))
        (k - named table (walk.inside a) - named table (walk.maybe_inside start)) stop (front (walk.maybe_inside stop) (walk.maybe_inside step)
        (j - named table (walk.inside a) - named table (walk.maybe_inside start)) p2) (front (walk.maybe_inside stop) (walk.maybe_inside step)
        (k - named table (walk.inside a) - named table (walk.maybe_inside start)) q2) i)
        (same-maybe (j - named table (walk.inside a) - named table (walk.maybe_inside start) - named table (walk.maybe_inside stop))
        (k - named table (walk.inside a) - named table (walk.maybe_inside start) - named table (walk.maybe_inside stop)) step p3 q3 i)
    same-shape j k s (t.Identifier w p) hj hk = refl
    same-shape j k s (t.Lambda ps e p) hj hk =
        let p0 = inner s (t.Lambda ps e p) j hj in
        let q0 = inner s (t.Lambda ps e p) k hk in
        let p1 = back (walk.parameters_inside ps) (walk.inside e) j p0 in
        let q1 = back (walk.parameters_inside ps) (walk.inside e) k q0 in
        λ i. t.Lambda (same-parameters j k ps (front (walk.parameters_inside ps) (walk.inside e) j p0)
        (front (walk.parameters_inside ps) (walk.inside e) k q0) i) (same-expression (j - named table (walk.parameters_inside ps))
        (k - named table (walk.parameters_inside ps)) e p1 q1 i) p
    same-shape j k s (t.Constant l) hj hk = refl
    same-shape j k s (t.Not e) hj hk =
        let p0 = inner s (t.Not e) j hj in
        let q0 = inner s (t.Not e) k hk in
        λ i. t.Not (same-expression j k e p0 q0 i)
    same-shape j k s (t.Minus e) hj hk =
        let p0 = inner s (t.Minus e) j hj in
        let q0 = inner s (t.Minus e) k hk in
        λ i. t.Minus (same-expression j k e p0 q0 i)
    same-shape j k s (t.Plus e) hj hk =
        let p0 = inner s (t.Plus e) j hj in
        let q0 = inner s (t.Plus e) k hk in
        λ i. t.Plus (same-expression j k e p0 q0 i)
    same-shape j k s (t.BitNot e) hj hk =
        let p0 = inner s (t.BitNot e) j hj in
        let q0 = inner s (t.BitNot e) k hk in
        λ i. t.BitNot (same-expression j k e p0 q0 i)
    same-shape j k s (t.Op l op r) hj hk =
        let whole = named-cons (t.expression s (t.Op l op r)) (walk.inside l ++ walk.inside r) in
        let below = named-append (walk.inside l) (walk.inside r) in
        operation_same (table (operator_name op)) j k s op (omega (arith, whole)) (omega (arith, whole))
        (same-expression (j - one_if_some (table (operator_name op))) (k - one_if_some (table (operator_name op))) l (omega (arith, whole, below))
        (omega (arith, whole, below)))
        (same-expression (j - one_if_some (table (operator_name op)) - named table (walk.inside l)) (k - one_if_some (table (operator_name op)) - named table
        (walk.inside l)) r
        (omega (arith, whole, below)) (omega (arith, whole, below)))
    same-shape j k s (t.If c v w) hj hk =
        let p0 = inner s (t.If c v w) j hj in
        let q0 = inner s (t.If c v w) k hk in
        let p1 = back (walk.inside c) (walk.inside v ++ walk.inside w) j p0 in
        let q1 = back (walk.inside c) (walk.inside v ++ walk.inside w) k q0 in
        let p2 = back (walk.inside v) (walk.inside w) (j - named table (walk.inside c)) p1 in
        let q2 = back (walk.inside v) (walk.inside w) (k - named table (walk.inside c)) q1 in
        λ i. t.If (same-expression j k c (front (walk.inside c) (walk.inside v ++ walk.inside w) j p0)
        (front (walk.inside c) (walk.inside v ++ walk.inside w) k q0) i)
        (same-expression (j - named table (walk.inside c)) (k - named table (walk.inside c)) v
        (front (walk.inside v) (walk.inside w) (j - named table (walk.inside c)) p1)
        (front (walk.inside v) (walk.inside w) (k - named table (walk.inside c)) q1) i)
        (same-expression (j - named table (walk.inside c) - named table (walk.inside v)) (k - named table (walk.inside c) - named table (walk.inside v)) w
        p2 q2 i)
    same-shape j k s (t.List es) hj hk =
        let p0 = inner s (t.List es) j hj in
        let q0 = inner s (t.List es) k hk in
        λ i. t.List (same-expressions j k es p0 q0 i)
    same-shape j k s (t.Dict ps) hj hk =
        let p0 = inner s (t.Dict ps) j hj in
        let q0 = inner s (t.Dict ps) k hk in
        λ i. t.Dict (same-pairs j k ps p0 q0 i)
    same-shape j k s (t.ListComprehension e first cs) hj hk =
        let p0 = inner s (t.ListComprehension e first cs) j hj in
        let q0 = inner s (t.ListComprehension e first cs) k hk in
        let p1 = back (walk.for_inside first) (walk.clauses_inside cs ++ walk.inside e) j p0 in
        let q1 = back (walk.for_inside first) (walk.clauses_inside cs ++ walk.inside e) k q0 in
        let p2 = back (walk.clauses_inside cs) (walk.inside e) (j - named table (walk.for_inside first)) p1 in
        let q2 = back (walk.clauses_inside cs) (walk.inside e) (k - named table (walk.for_inside first)) q1 in
        λ i. t.ListComprehension (same-expression (j - named table (walk.for_inside first) - named table (walk.clauses_inside cs))
        (k - named table (walk.for_inside first) - named table (walk.clauses_inside cs)) e p2 q2 i)
        (same-for j k first (front (walk.for_inside first) (walk.clauses_inside cs ++ walk.inside e) j p0)
        (front (walk.for_inside first) (walk.clauses_inside cs ++ walk.inside e) k q0) i) (same-clauses (j - named table (walk.for_inside first))
        (k - named table (walk.for_inside first)) cs (front (walk.clauses_inside cs) (walk.inside e) (j - named table (walk.for_inside first)) p1)
        (front (walk.clauses_inside cs) (walk.inside e) (k - named table (walk.for_inside first)) q1) i)
    same-shape j k s (t.DictComprehension key v first cs) hj hk =
        let p0 = inner s (t.DictComprehension key v first cs) j hj in
        let q0 = inner s (t.DictComprehension key v first cs) k hk in
        let p1 = back (walk.for_inside first) (walk.clauses_inside cs ++ (walk.inside key ++ walk.inside v)) j p0 in
        let q1 = back (walk.for_inside first) (walk.clauses_inside cs ++ (walk.inside key ++ walk.inside v)) k q0 in
        let p2 = back (walk.clauses_inside cs) (walk.inside key ++ walk.inside v) (j - named table (walk.for_inside first)) p1 in
        let q2 = back (walk.clauses_inside cs) (walk.inside key ++ walk.inside v) (k - named table (walk.for_inside first)) q1 in
        let p3 = back (walk.inside key) (walk.inside v) (j - named table (walk.for_inside first) - named table (walk.clauses_inside cs)) p2 in
        let q3 = back (walk.inside key) (walk.inside v) (k - named table (walk.for_inside first) - named table (walk.clauses_inside cs)) q2 in
        λ i. t.DictComprehension (same-expression (j - named table (walk.for_inside first) - named table (walk.clauses_inside cs))
        (k - named table (walk.for_inside first) - named table (walk.clauses_inside cs)) key
        (front (walk.inside key) (walk.inside v) (j - named table (walk.for_inside first) - named table (walk.clauses_inside cs)) p2)
        (front (walk.inside key) (walk.inside v) (k - named table (walk.for_inside first) - named table (walk.clauses_inside cs)) q2) i)
        (same-expression (j - named table (walk.for_inside first) - named table (walk.clauses_inside cs) - named table (walk.inside key))
        (k - named table (walk.for_inside first) - named table (walk.clauses_inside cs) - named table (walk.inside key)) v p3 q3 i)
        (same-for j k first (front (walk.for_inside first) (walk.clauses_inside cs ++ (walk.inside key ++ walk.inside v)) j p0)
        (front (walk.for_inside first) (walk.clauses_inside cs ++ (walk.inside key ++ walk.inside v)) k q0) i)
        (same-clauses (j - named table (walk.for_inside first)) (k - named table (walk.for_inside first)) cs
        (front (walk.clauses_inside cs) (walk.inside key ++ walk.inside v) (j - named table (walk.for_inside first)) p1)
        (front (walk.clauses_inside cs) (walk.inside key ++ walk.inside v) (k - named table (walk.for_inside first)) q1) i)
    same-shape j k s (t.FString at w es) hj hk =
        let p0 = inner s (t.FString at w es) j hj in
        let q0 = inner s (t.FString at w es) k hk in
        λ i. t.FString at w (same-expressions j k es p0 q0 i)

    pub same-expressions : (j k : ℕ) (x : t.Expressions no_payload) → named table (walk.all_inside x) ≤ j → named table (walk.all_inside x) ≤ k
        → expressions_replaced table j x ≡ expressions_replaced table k x
    same-expressions j k t.no_expressions hj hk = refl
    same-expressions j k (t.expressions e es) hj hk =
        let p1 = back (walk.inside e) (walk.all_inside es) j hj in
        let q1 = back (walk.inside e) (walk.all_inside es) k hk in
        λ i. t.expressions (same-expression j k e (front (walk.inside e) (walk.all_inside es) j hj) (front (walk.inside e) (walk.all_inside es) k hk) i)
        (same-expressions (j - named table (walk.inside e)) (k - named table (walk.inside e)) es p1 q1 i)

    pub same-maybe : (j k : ℕ) (x : t.Maybe no_payload) → named table (walk.maybe_inside x) ≤ j → named table (walk.maybe_inside x) ≤ k
        → maybe_replaced table j x ≡ maybe_replaced table k x
    same-maybe j k t.absent hj hk = refl
    same-maybe j k (t.present e) hj hk = λ i. t.present (same-expression j k e hj hk i)

    pub same-type : (j k : ℕ) (x : t.MaybeType no_payload) → named table (walk.type_inside x) ≤ j → named table (walk.type_inside x) ≤ k
        → type_replaced table j x ≡ type_replaced table k x
    same-type j k t.no_type hj hk = refl
    same-type j k (t.typed s e p) hj hk = λ i. t.typed s (same-expression j k e hj hk i) p

    pub same-pairs : (j k : ℕ) (x : t.Pairs no_payload) → named table (walk.pairs_inside x) ≤ j → named table (walk.pairs_inside x) ≤ k
        → pairs_replaced table j x ≡ pairs_replaced table k x
    same-pairs j k t.no_pairs hj hk = refl
    same-pairs j k (t.pairs key v ps) hj hk =
        let p1 = back (walk.inside key) (walk.inside v ++ walk.pairs_inside ps) j hj in
        let q1 = back (walk.inside key) (walk.inside v ++ walk.pairs_inside ps) k hk in
        let p2 = back (walk.inside v) (walk.pairs_inside ps) (j - named table (walk.inside key)) p1 in
        let q2 = back (walk.inside v) (walk.pairs_inside ps) (k - named table (walk.inside key)) q1 in
        λ i. t.pairs (same-expression j k key (front (walk.inside key) (walk.inside v ++ walk.pairs_inside ps) j hj)
        (front (walk.inside key) (walk.inside v ++ walk.pairs_inside ps) k hk) i)
        (same-expression (j - named table (walk.inside key)) (k - named table (walk.inside key)) v
        (front (walk.inside v) (walk.pairs_inside ps) (j - named table (walk.inside key)) p1)
        (front (walk.inside v) (walk.pairs_inside ps) (k - named table (walk.inside key)) q1) i)
        (same-pairs (j - named table (walk.inside key) - named table (walk.inside v)) (k - named table (walk.inside key) - named table (walk.inside v)) ps
        p2 q2 i)

    pub same-arguments : (j k : ℕ) (x : t.Arguments no_payload) → named table (walk.arguments_inside x) ≤ j → named table (walk.arguments_inside x) ≤ k
        → arguments_replaced table j x ≡ arguments_replaced table k x
    same-arguments j k t.no_arguments hj hk = refl
    same-arguments j k (t.arguments a rest) hj hk =
        let p1 = back (walk.argument_inside a) (walk.arguments_inside rest) j hj in
        let q1 = back (walk.argument_inside a) (walk.arguments_inside rest) k hk in
        λ i. t.arguments (same-argument j k a (front (walk.argument_inside a) (walk.arguments_inside rest) j hj)
        (front (walk.argument_inside a) (walk.arguments_inside rest) k hk) i) (same-arguments (j - named table (walk.argument_inside a))
        (k - named table (walk.argument_inside a)) rest p1 q1 i)

    pub same-argument : (j k : ℕ) (x : t.Argument no_payload) → named table (walk.argument_inside x) ≤ j → named table (walk.argument_inside x) ≤ k
        → argument_replaced table j x ≡ argument_replaced table k x
    same-argument j k (t.Positional s e) hj hk = λ i. t.Positional s (same-expression j k e hj hk i)
    same-argument j k (t.Named s w e) hj hk = λ i. t.Named s w (same-expression j k e hj hk i)
    same-argument j k (t.Star s e) hj hk = λ i. t.Star s (same-expression j k e hj hk i)
    same-argument j k (t.StarStar s e) hj hk = λ i. t.StarStar s (same-expression j k e hj hk i)

    pub same-parameters : (j k : ℕ) (x : t.Parameters no_payload) → named table (walk.parameters_inside x) ≤ j → named table (walk.parameters_inside x) ≤ k
        → parameters_replaced table j x ≡ parameters_replaced table k x
    same-parameters j k t.no_parameters hj hk = refl
    same-parameters j k (t.parameters p ps) hj hk =
        let p1 = back (walk.parameter_inside p) (walk.parameters_inside ps) j hj in
        let q1 = back (walk.parameter_inside p) (walk.parameters_inside ps) k hk in
        λ i. t.parameters (same-parameter j k p (front (walk.parameter_inside p) (walk.parameters_inside ps) j hj)
        (front (walk.parameter_inside p) (walk.parameters_inside ps) k hk) i) (same-parameters (j - named table (walk.parameter_inside p))
        (k - named table (walk.parameter_inside p)) ps p1 q1 i)

    pub same-parameter : (j k : ℕ) (x : t.Parameter no_payload) → named table (walk.parameter_inside x) ≤ j → named table (walk.parameter_inside x) ≤ k
        → parameter_replaced table j x ≡ parameter_replaced table k x
    same-parameter j k (t.Slash s) hj hk = refl
    same-parameter j k (t.Normal s w p ty v) hj hk =
        let p1 = back (walk.type_inside ty) (walk.maybe_inside v) j hj in
        let q1 = back (walk.type_inside ty) (walk.maybe_inside v) k hk in
        λ i. t.Normal s w p (same-type j k ty (front (walk.type_inside ty) (walk.maybe_inside v) j hj)
        (front (walk.type_inside ty) (walk.maybe_inside v) k hk) i)
        (same-maybe (j - named table (walk.type_inside ty)) (k - named table (walk.type_inside ty)) v p1 q1 i)
    same-parameter j k (t.NoArgs s) hj hk = refl
    same-parameter j k (t.Args s w p ty) hj hk = λ i. t.Args s w p (same-type j k ty hj hk i)
    same-parameter j k (t.KwArgs s w p ty) hj hk = λ i. t.KwArgs s w p (same-type j k ty hj hk i)

    pub same-for : (j k : ℕ) (x : t.ForIn no_payload) → named table (walk.for_inside x) ≤ j → named table (walk.for_inside x) ≤ k → for_replaced table j x
        ≡ for_replaced table k x
    same-for j k (t.for_in x over) hj hk =
        let p1 = back (walk.target_inside x) (walk.inside over) j hj in
        let q1 = back (walk.target_inside x) (walk.inside over) k hk in
        λ i. t.for_in (same-target j k x (front (walk.target_inside x) (walk.inside over) j hj) (front (walk.target_inside x) (walk.inside over) k hk) i)
        (same-expression (j - named table (walk.target_inside x)) (k - named table (walk.target_inside x)) over p1 q1 i)

    pub same-clauses : (j k : ℕ) (x : t.Clauses no_payload) → named table (walk.clauses_inside x) ≤ j → named table (walk.clauses_inside x) ≤ k
        → clauses_replaced table j x ≡ clauses_replaced table k x
    same-clauses j k t.no_clauses hj hk = refl
    same-clauses j k (t.clauses c cs) hj hk =
        let p1 = back (walk.clause_inside c) (walk.clauses_inside cs) j hj in
        let q1 = back (walk.clause_inside c) (walk.clauses_inside cs) k hk in
        λ i. t.clauses (same-clause j k c (front (walk.clause_inside c) (walk.clauses_inside cs) j hj)
        (front (walk.clause_inside c) (walk.clauses_inside cs) k hk) i) (same-clauses (j - named table (walk.clause_inside c))
        (k - named table (walk.clause_inside c)) cs p1 q1 i)

    pub same-clause : (j k : ℕ) (x : t.Clause no_payload) → named table (walk.clause_inside x) ≤ j → named table (walk.clause_inside x) ≤ k
        → clause_replaced table j x ≡ clause_replaced table k x
    same-clause j k (t.for_clause first) hj hk = λ i. t.for_clause (same-for j k first hj hk i)
    same-clause j k (t.if_clause e) hj hk = λ i. t.if_clause (same-expression j k e hj hk i)

    pub same-target : (j k : ℕ) (x : t.Target no_payload) → named table (walk.target_inside x) ≤ j → named table (walk.target_inside x) ≤ k
        → target_replaced table j x ≡ target_replaced table k x
    same-target j k (t.TupleTarget s xs) hj hk = λ i. t.TupleTarget s (same-targets j k xs hj hk i)
    same-target j k (t.IndexTarget s a x) hj hk =
        let p1 = back (walk.inside a) (walk.inside x) j hj in
        let q1 = back (walk.inside a) (walk.inside x) k hk in
        λ i. t.IndexTarget s (same-expression j k a (front (walk.inside a) (walk.inside x) j hj) (front (walk.inside a) (walk.inside x) k hk) i)
        (same-expression (j - named table (walk.inside a)) (k - named table (walk.inside a)) x p1 q1 i)
    same-target j k (t.DotTarget s e w) hj hk = λ i. t.DotTarget s (same-expression j k e hj hk i) w
    same-target j k (t.NameTarget s w p) hj hk = refl

    pub same-targets : (j k : ℕ) (x : t.Targets no_payload) → named table (walk.targets_inside x) ≤ j → named table (walk.targets_inside x) ≤ k
        → targets_replaced table j x ≡ targets_replaced table k x
    same-targets j k t.no_targets hj hk = refl
    same-targets j k (t.targets x xs) hj hk =
        let p1 = back (walk.target_inside x) (walk.targets_inside xs) j hj in
        let q1 = back (walk.target_inside x) (walk.targets_inside xs) k hk in
        λ i. t.targets (same-target j k x (front (walk.target_inside x) (walk.targets_inside xs) j hj)
        (front (walk.target_inside x) (walk.targets_inside xs) k hk) i) (same-targets (j - named table (walk.target_inside x))
        (k - named table (walk.target_inside x)) xs p1 q1 i)

  mutual
    pub same-statement : (j k : ℕ) (x : t.Statement no_payload) → named table (walk.inside_statement x) ≤ j → named table (walk.inside_statement x) ≤ k
        → statement_replaced table j x ≡ statement_replaced table k x
    same-statement j k (t.statement s form) hj hk = ap (t.statement s) (same-form j k form hj hk)

    pub same-form : (j k : ℕ) (x : t.Form no_payload) → named table (walk.inside_form x) ≤ j → named table (walk.inside_form x) ≤ k → form_replaced table j x
        ≡ form_replaced table k x
    same-form j k t.Break hj hk = refl
    same-form j k t.Continue hj hk = refl
    same-form j k t.Pass hj hk = refl
    same-form j k (t.Return None) hj hk = refl
    same-form j k (t.Return (Some e)) hj hk =
        let e1 = named-nil (walk.inside e) in
        λ i. t.Return (Some (same-expression j k e (omega (arith, e1)) (omega (arith, e1)) i))
    same-form j k (t.Evaluate e) hj hk = λ i. t.Evaluate (same-expression j k e hj hk i)
    same-form j k (t.Assign x ty e) hj hk =
        let p1 = back (walk.target_inside x) (walk.type_inside ty ++ walk.inside e) j hj in
        let q1 = back (walk.target_inside x) (walk.type_inside ty ++ walk.inside e) k hk in
        let p2 = back (walk.type_inside ty) (walk.inside e) (j - named table (walk.target_inside x)) p1 in
        let q2 = back (walk.type_inside ty) (walk.inside e) (k - named table (walk.target_inside x)) q1 in
        λ i. t.Assign (same-target j k x (front (walk.target_inside x) (walk.type_inside ty ++ walk.inside e) j hj)
        (front (walk.target_inside x) (walk.type_inside ty ++ walk.inside e) k hk) i)
        (same-type (j - named table (walk.target_inside x)) (k - named table (walk.target_inside x)) ty
        (front (walk.type_inside ty) (walk.inside e) (j - named table (walk.target_inside x)) p1)
        (front (walk.type_inside ty) (walk.inside e) (k - named table (walk.target_inside x)) q1) i)
        (same-expression (j - named table (walk.target_inside x) - named table (walk.type_inside ty))
        (k - named table (walk.target_inside x) - named table (walk.type_inside ty)) e p2 q2 i)
    same-form j k (t.AssignModify x op e) hj hk =
        let p1 = back (walk.target_inside x) (walk.inside e) j hj in
        let q1 = back (walk.target_inside x) (walk.inside e) k hk in
        λ i. t.AssignModify (same-target j k x (front (walk.target_inside x) (walk.inside e) j hj) (front (walk.target_inside x) (walk.inside e) k hk) i) op
        (same-expression (j - named table (walk.target_inside x)) (k - named table (walk.target_inside x)) e p1 q1 i)
    same-form j k (t.Block ss) hj hk = λ i. t.Block (same-statements j k ss hj hk i)
    same-form j k (t.IfThen e body) hj hk =
        let p1 = back (walk.inside e) (walk.inside_statement body) j hj in
        let q1 = back (walk.inside e) (walk.inside_statement body) k hk in
        λ i. t.IfThen (same-expression j k e (front (walk.inside e) (walk.inside_statement body) j hj)
        (front (walk.inside e) (walk.inside_statement body) k hk) i) (same-statement (j - named table (walk.inside e)) (k - named table (walk.inside e))
        body p1 q1 i)
    same-form j k (t.IfElse e body other) hj hk =
        let p1 = back (walk.inside e) (walk.inside_statement body ++ walk.inside_statement other) j hj in
        let q1 = back (walk.inside e) (walk.inside_statement body ++ walk.inside_statement other) k hk in
        let p2 = back (walk.inside_statement body) (walk.inside_statement other) (j - named table (walk.inside e)) p1 in
        let q2 = back (walk.inside_statement body) (walk.inside_statement other) (k - named table (walk.inside e)) q1 in
        λ i. t.IfElse (same-expression j k e (front (walk.inside e) (walk.inside_statement body ++ walk.inside_statement other) j hj)
        (front (walk.inside e) (walk.inside_statement body ++ walk.inside_statement other) k hk) i)
        (same-statement (j - named table (walk.inside e)) (k - named table (walk.inside e)) body
        (front (walk.inside_statement body) (walk.inside_statement other) (j - named table (walk.inside e)) p1)
        (front (walk.inside_statement body) (walk.inside_statement other) (k - named table (walk.inside e)) q1) i)
        (same-statement (j - named table (walk.inside e) - named table (walk.inside_statement body))
        (k - named table (walk.inside e) - named table (walk.inside_statement body)) other p2 q2 i)
    same-form j k (t.For x over body) hj hk =
        let p1 = back (walk.target_inside x) (walk.inside over ++ walk.inside_statement body) j hj in
        let q1 = back (walk.target_inside x) (walk.inside over ++ walk.inside_statement body) k hk in
        let p2 = back (walk.inside over) (walk.inside_statement body) (j - named table (walk.target_inside x)) p1 in
        let q2 = back (walk.inside over) (walk.inside_statement body) (k - named table (walk.target_inside x)) q1 in
        λ i. t.For (same-target j k x (front (walk.target_inside x) (walk.inside over ++ walk.inside_statement body) j hj)
        (front (walk.target_inside x) (walk.inside over ++ walk.inside_statement body) k hk) i) (same-expression (j - named table (walk.target_inside x))
        (k - named table (walk.target_inside x)) over (front (walk.inside over) (walk.inside_statement body) (j - named table (walk.target_inside x)) p1)
        (front (walk.inside over) (walk.inside_statement body) (k - named table (walk.target_inside x)) q1) i)
        (same-statement (j - named table (walk.target_inside x) - named table (walk.inside over))
        (k - named table (walk.target_inside x) - named table (walk.inside over)) body p2 q2 i)
    same-form j k (t.Def w p ps ty body q) hj hk =
        let p1 = back (walk.parameters_inside ps) (walk.type_inside ty ++ walk.inside_statement body) j hj in
        let q1 = back (walk.parameters_inside ps) (walk.type_inside ty ++ walk.inside_statement body) k hk in
        let p2 = back (walk.type_inside ty) (walk.inside_statement body) (j - named table (walk.parameters_inside ps)) p1 in
        let q2 = back (walk.type_inside ty) (walk.inside_statement body) (k - named table (walk.parameters_inside ps)) q1 in
        λ i. t.Def w p (same-parameters j k ps (front (walk.parameters_inside ps) (walk.type_inside ty ++ walk.inside_statement body) j hj)
        (front (walk.parameters_inside ps) (walk.type_inside ty ++ walk.inside_statement body) k hk) i)
        (same-type (j - named table (walk.parameters_inside ps)) (k - named table (walk.parameters_inside ps)) ty
        (front (walk.type_inside ty) (walk.inside_statement body) (j - named table (walk.parameters_inside ps)) p1)
        (front (walk.type_inside ty) (walk.inside_statement body) (k - named table (walk.parameters_inside ps)) q1) i)
        (same-statement (j - named table (walk.parameters_inside ps) - named table (walk.type_inside ty))
        (k - named table (walk.parameters_inside ps) - named table (walk.type_inside ty)) body p2 q2 i) q
    same-form j k (t.Load path names p) hj hk = refl

    pub same-statements : (j k : ℕ) (x : t.Statements no_payload) → named table (walk.inside_statements x) ≤ j → named table (walk.inside_statements x) ≤ k
        → statements_replaced table j x ≡ statements_replaced table k x
    same-statements j k t.no_statements hj hk = refl
    same-statements j k (t.statements s ss) hj hk =
        let p1 = back (walk.inside_statement s) (walk.inside_statements ss) j hj in
        let q1 = back (walk.inside_statement s) (walk.inside_statements ss) k hk in
        λ i. t.statements (same-statement j k s (front (walk.inside_statement s) (walk.inside_statements ss) j hj)
        (front (walk.inside_statement s) (walk.inside_statements ss) k hk) i) (same-statements (j - named table (walk.inside_statement s))
        (k - named table (walk.inside_statement s)) ss p1 q1 i)
