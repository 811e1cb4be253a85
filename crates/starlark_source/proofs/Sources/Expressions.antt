-- Expressions whose parts a text denotes, and the targets that they are.
use Rattle.std.proofs.Common.{◌≡◌, List as Seq, [], ◌∷◌, ◌++◌, Bool, true, false, Option, Some, None, Result, Ok, Err}
use Rattle.std.specs.Bool.{⊤}
use Rattle.std.specs.Prelude.{is_ok}
use Rattle.starlark_lexer.specs.Tokens.{Span}
use Rattle.starlark_lexer.specs.Tokens as tokens
use Rattle.starlark_tree.specs.Ast as t
use Rattle.starlark_tree.specs.Ast.{no_payload, Expression, Target, expressions_of, arguments_of, parameters_of, pairs_of, clauses_of}
use Rattle.starlark_tree.specs.declared.ast.operator.AssignOp.{AssignOp}
use Rattle.starlark_tree.specs.declared.ast.operator.AssignOp.TheVariants as assign
use Rattle.starlark_tree.specs.declared.ast.operator.BinOp.{BinOp}
use Rattle.starlark_tree.specs.declared.ast.operator.BinOp.TheVariants as op
use Rattle.starlark_spec.specs.Faults.{Fault}
use Rattle.starlark_spec.specs.Targets.{map_ok, both, and_then, target, parts}
use Rattle.starlark_spec.specs.Assignments.{assigned, assigned_target, refuse_annotation}
use Rattle.starlark_spec.specs.Trees.{Pair, Subscript, one_index, two_indices, bounds, subscripted, target_or_none, target_of}
use Rattle.starlark_source.specs.declared.level.Level.{Level}
use Rattle.starlark_source.specs.declared.level.Level.TheVariants as level
use Rattle.starlark_source.specs.Levels.{is_looser, level_of, level_of_operator, left_of, right_of}
use Rattle.starlark_source.specs.Pieces.{Pieces, token, comma, listed, in_round, in_square, between}
use Rattle.starlark_source.specs.Source.{operator, colon, at_level, test, test_list, shape_source, tests, maybe_source, maybe_type_source, pair_sources}
use Rattle.starlark_source.specs.Source.{argument_source, argument_sources, lambda_parameter, lambda_parameter_sources, lambda_parameters, for_source}
use Rattle.starlark_source.specs.Source.{clause_source, clauses_source, target_source, target_sources, parameter_source, parameter_sources}
use Rattle.starlark_source.specs.Lines.{assign_operator, target_type, modified, small}
use Rattle.starlark_source.proofs.ReadBack.Writing.{Sayable, split}
use Rattle.starlark_source.proofs.Sources.Pieces.{Each, joined, listed_said, listed_parts, in_round_said, in_square_said, bracketed_said, tuple_parts}
use Rattle.starlark_source.proofs.Sources.Pieces.{tupled_said}

abbrev pub Said : Expression no_payload → Type 0
Said e = Sayable (test e)

abbrev pub PairSaid : Pair → Type 0
PairSaid p = Said p.0 × Said p.1

abbrev pub MaybeSaid : t.Maybe no_payload → Type 0
MaybeSaid t.absent = ⊤
MaybeSaid (t.present e) = Said e

abbrev pub TypeSaid : t.MaybeType no_payload → Type 0
TypeSaid t.no_type = ⊤
TypeSaid (t.typed s e p) = Said e

abbrev pub ArgumentSaid : t.Argument no_payload → Type 0
ArgumentSaid a = Sayable (argument_source a)

abbrev pub LambdaParameterSaid : t.Parameter no_payload → Type 0
LambdaParameterSaid p = Sayable (lambda_parameter p)

abbrev pub ParameterSaid : t.Parameter no_payload → Type 0
ParameterSaid p = Sayable (parameter_source p)

abbrev pub ClauseSaid : t.Clause no_payload → Type 0
ClauseSaid c = Sayable (clause_source c)

abbrev pub SubscriptSaid : Subscript → Type 0
SubscriptSaid (one_index i) = Said i
SubscriptSaid (two_indices i j) = Said i × Said j
SubscriptSaid (bounds start stop step) = MaybeSaid start × MaybeSaid stop × MaybeSaid step

-- ---- lists

pub tests_said : (es : Seq (Expression no_payload)) → Each Said es → Each Sayable (tests (expressions_of es))
tests_said [] h = tt
tests_said (e ∷ es) h = (h.0, tests_said es h.1)

arguments_said : (xs : Seq (t.Argument no_payload)) → Each ArgumentSaid xs → Each Sayable (argument_sources (arguments_of xs))
arguments_said [] h = tt
arguments_said (x ∷ xs) h = (h.0, arguments_said xs h.1)

pub pairs_said : (ps : Seq Pair) → Each PairSaid ps → Each Sayable (pair_sources (pairs_of ps))
pairs_said [] h = tt
pairs_said (p ∷ ps) h = (joined (test p.0) (colon ++ test p.1) h.0.0 h.0.1, pairs_said ps h.1)

lambda_parameters_each : (ps : Seq (t.Parameter no_payload)) → Each LambdaParameterSaid ps → Each Sayable (lambda_parameter_sources (parameters_of ps))
lambda_parameters_each [] h = tt
lambda_parameters_each (p ∷ ps) h = (h.0, lambda_parameters_each ps h.1)

lambda_parameters_said : (ps : Seq (t.Parameter no_payload)) → Each LambdaParameterSaid ps → Sayable (lambda_parameters (parameters_of ps))
lambda_parameters_said [] h = tt
lambda_parameters_said (p ∷ ps) h = listed_said (lambda_parameter p ∷ lambda_parameter_sources (parameters_of ps)) (h.0, lambda_parameters_each ps h.1)

pub parameters_said : (ps : Seq (t.Parameter no_payload)) → Each ParameterSaid ps → Each Sayable (parameter_sources (parameters_of ps))
parameters_said [] h = tt
parameters_said (p ∷ ps) h = (h.0, parameters_said ps h.1)

pub clauses_said : (cs : Seq (t.Clause no_payload)) → Each ClauseSaid cs → Sayable (clauses_source (clauses_of cs))
clauses_said [] h = tt
clauses_said (c ∷ cs) h = joined (clause_source c) (clauses_source (clauses_of cs)) h.0 (clauses_said cs h.1)

pub type_said : (before : Pieces) → Sayable before → (ty : t.MaybeType no_payload) → TypeSaid ty → Sayable (maybe_type_source before ty)
type_said before b t.no_type h = tt
type_said before b (t.typed s e p) h = joined before (test e) b h

pub maybe_said : (before : Pieces) → Sayable before → (m : t.Maybe no_payload) → MaybeSaid m → Sayable (maybe_source before m)
maybe_said before b t.absent h = tt
maybe_said before b (t.present e) h = joined before (test e) b h

-- ---- expressions

pub level_said : (k : Level) (e : Expression no_payload) → Said e → Sayable (at_level k e)
level_said k (t.expression s shape) h = bracketed_said (is_looser (level_of shape) k) (shape_source shape) h

pub list_said : (e : Expression no_payload) → Said e → Sayable (test_list e)
list_said (t.expression s (t.Tuple es)) h = tupled_said true (tests es) (tuple_parts (tests es) h)
list_said (t.expression s other) h = h

pub operator_said : (o : BinOp) (ps : Pieces) → Sayable ps → Sayable (operator o ++ ps)
operator_said op.Or ps h = h
operator_said op.And ps h = h
operator_said op.Equal ps h = h
operator_said op.NotEqual ps h = h
operator_said op.Less ps h = h
operator_said op.Greater ps h = h
operator_said op.LessOrEqual ps h = h
operator_said op.GreaterOrEqual ps h = h
operator_said op.In ps h = h
operator_said op.NotIn ps h = h
operator_said op.Subtract ps h = h
operator_said op.Add ps h = h
operator_said op.Multiply ps h = h
operator_said op.Percent ps h = h
operator_said op.Divide ps h = h
operator_said op.FloorDivide ps h = h
operator_said op.BitAnd ps h = h
operator_said op.BitOr ps h = h
operator_said op.BitXor ps h = h
operator_said op.LeftShift ps h = h
operator_said op.RightShift ps h = h

pub operation_said : (s : Span) (o : BinOp) (l r : Expression no_payload) → Said l → Said r → Said (t.expression s (t.Op l o r))
operation_said s o l r h k =
    joined (at_level (left_of (level_of_operator o)) l) (operator o ++ at_level (right_of (level_of_operator o)) r)
    (level_said (left_of (level_of_operator o)) l h)
    (operator_said o (at_level (right_of (level_of_operator o)) r) (level_said (right_of (level_of_operator o)) r k))

pub if_said : (s : Span) (c v w : Expression no_payload) → Said c → Said v → Said w → Said (t.expression s (t.If c v w))
if_said s c v w h k l =
    joined (at_level level.Or v) (between tokens.If ++ (at_level level.Or c ++ (between tokens.Else ++ test w))) (level_said level.Or v k)
    (joined (at_level level.Or c) (between tokens.Else ++ test w) (level_said level.Or c h) l)

pub lambda_said : (s : Span) (ps : Seq (t.Parameter no_payload)) (e : Expression no_payload) → Each LambdaParameterSaid ps → Said e
    → Said (t.expression s (t.Lambda (parameters_of ps) e tt))
lambda_said s ps e h k = joined (lambda_parameters (parameters_of ps)) (colon ++ test e) (lambda_parameters_said ps h) k

pub call_said : (s : Span) (e : Expression no_payload) (xs : Seq (t.Argument no_payload)) → Said e → Each ArgumentSaid xs
    → Said (t.expression s (t.Call e (arguments_of xs)))
call_said s e xs h k =
    joined (at_level level.Number e) (in_round (listed (argument_sources (arguments_of xs)))) (level_said level.Number e h)
    (in_round_said (listed (argument_sources (arguments_of xs))) (listed_said (argument_sources (arguments_of xs)) (arguments_said xs k)))

pub subscript_said : (s : Span) (e : Expression no_payload) (sub : Subscript) → Said e → SubscriptSaid sub → Said (subscripted s e sub)
subscript_said s e (one_index i) h k = joined (at_level level.Number e) (in_square (test i)) (level_said level.Number e h) (in_square_said (test i) k)
subscript_said s e (two_indices i j) h k =
    joined (at_level level.Number e) (in_square (test i ++ (comma ++ test j))) (level_said level.Number e h)
    (in_square_said (test i ++ (comma ++ test j)) (joined (test i) (comma ++ test j) k.0 k.1))
subscript_said s e (bounds start stop step) h k =
    let last = joined (maybe_source [] stop) (maybe_source (token tokens.Colon ∷ []) step) (maybe_said [] tt stop k.1)
    (maybe_said (token tokens.Colon ∷ []) tt step k.2) in
    let inside = maybe_source [] start ++ (token tokens.Colon ∷ [] ++ (maybe_source [] stop ++ maybe_source (token tokens.Colon ∷ []) step)) in
    joined (at_level level.Number e) (in_square inside) (level_said level.Number e h)
    (in_square_said inside (joined (maybe_source [] start) _ (maybe_said [] tt start k.0) last))

-- ---- the target that an expression is

abbrev TargetSaid : Result (Target no_payload) Fault → Type 0
TargetSaid (Ok x) = (in_list : Bool) → Sayable (target_source in_list x)
TargetSaid (Err f) = ⊤

abbrev TargetsSaid : Result (t.Targets no_payload) Fault → Type 0
TargetsSaid (Ok xs) = Each Sayable (target_sources xs)
TargetsSaid (Err f) = ⊤

tuple_target : (s : Span) (r : Result (t.Targets no_payload) Fault) → TargetsSaid r → TargetSaid (map_ok (t.TupleTarget s) r)
tuple_target s (Ok xs) h = λ in_list. tupled_said in_list (target_sources xs) h
tuple_target s (Err f) h = tt

both_targets : (r : Result (Target no_payload) Fault) (q : Result (t.Targets no_payload) Fault) → TargetSaid r → TargetsSaid q
    → TargetsSaid (both t.targets r q)
both_targets (Ok x) (Ok xs) h k = (h false, k)
both_targets (Ok x) (Err f) h k = tt
both_targets (Err f) q h k = tt

mutual
  target_said : (e : Expression no_payload) → Said e → TargetSaid (target e)
  target_said (t.expression s (t.Tuple es)) h = tuple_target s (parts es) (targets_said es (tuple_parts (tests es) h))
  target_said (t.expression s (t.List es)) h =
      tuple_target s (parts es) (targets_said es (listed_parts (tests es) (split (listed (tests es)) (token tokens.ClosingSquare ∷ []) h).0))
  target_said (t.expression s (t.Dot e w)) h = λ in_list. h
  target_said (t.expression s (t.Index a i)) h = λ in_list. h
  target_said (t.expression s (t.Identifier w p)) h = λ in_list. h
  target_said (t.expression s other) h = tt

  targets_said : (es : t.Expressions no_payload) → Each Sayable (tests es) → TargetsSaid (parts es)
  targets_said t.no_expressions h = tt
  targets_said (t.expressions e es) h = both_targets (target e) (parts es) (target_said e h.0) (targets_said es h.1)

found_said : (r : Result (Target no_payload) Fault) → TargetSaid r → is_ok r ≡ true → (in_list : Bool) → Sayable (target_source in_list (target_or_none r))
found_said (Ok x) h ok in_list = h in_list
found_said (Err f) h ok in_list = absurd (cc)

pub aim_said : (e : Expression no_payload) → Said e → is_ok (target e) ≡ true → (in_list : Bool) → Sayable (target_source in_list (target_of e))
aim_said e h ok in_list = found_said (target e) (target_said e h) ok in_list

pub for_said : (vars over : Expression no_payload) → Said vars → is_ok (target vars) ≡ true → Said over
    → Sayable (for_source (t.for_in (target_of vars) over))
for_said vars over h ok k =
    joined (target_source true (target_of vars)) (between tokens.In ++ at_level level.Or over) (aim_said vars h ok true) (level_said level.Or over k)

-- ---- assignments

type_fits : (r : Result (Target no_payload) Fault) (ty : t.MaybeType no_payload) → TargetSaid r → TypeSaid ty
    → is_ok (and_then r (λ x. refuse_annotation x ty None)) ≡ true
    → Sayable (target_source true (target_or_none r)) × Sayable (target_type (target_or_none r) ty)
type_fits (Err f) ty h k ok = absurd (cc)
type_fits (Ok x) t.no_type h k ok = (h true, tt)
type_fits (Ok (t.TupleTarget s xs)) (t.typed r e p) h k ok = absurd (cc)
type_fits (Ok (t.IndexTarget s a i)) (t.typed r e p) h k ok = (h true, k)
type_fits (Ok (t.DotTarget s a w)) (t.typed r e p) h k ok = (h true, k)
type_fits (Ok (t.NameTarget s w q)) (t.typed r e p) h k ok = (h true, k)

assign_operator_said : (o : AssignOp) (ps : Pieces) → Sayable ps → Sayable (assign_operator o ++ ps)
assign_operator_said assign.Add ps h = h
assign_operator_said assign.Subtract ps h = h
assign_operator_said assign.Multiply ps h = h
assign_operator_said assign.Divide ps h = h
assign_operator_said assign.FloorDivide ps h = h
assign_operator_said assign.Percent ps h = h
assign_operator_said assign.BitAnd ps h = h
assign_operator_said assign.BitOr ps h = h
assign_operator_said assign.BitXor ps h = h
assign_operator_said assign.LeftShift ps h = h
assign_operator_said assign.RightShift ps h = h

modified_said : (e : Expression no_payload) (ty : t.MaybeType no_payload) (o : AssignOp) → Said e → is_ok (assigned_target e ty (Some o)) ≡ true
    → Sayable (modified (target_of e))
modified_said (t.expression s (t.Tuple es)) ty o h ok = absurd (cc)
modified_said (t.expression s (t.List es)) ty o h ok = absurd (cc)
modified_said (t.expression s (t.Dot e w)) ty o h ok = h
modified_said (t.expression s (t.Index a i)) ty o h ok = h
modified_said (t.expression s (t.Identifier w p)) ty o h ok = h
modified_said (t.expression s other) ty o h ok = absurd (cc)

pub assigned_said : (s : Span) (left : Expression no_payload) (ty : t.MaybeType no_payload) (o : Option AssignOp) (value : Expression no_payload) → Said left
    → TypeSaid ty → Said value → is_ok (assigned_target left ty o) ≡ true → Sayable (small s (assigned ty o value (target_of left)))
assigned_said s (t.expression r shape) ty None value h k v ok =
    let e = t.expression r shape in
    let x = type_fits (target e) ty (target_said e h) k ok in
    joined (target_source true (target_of e)) _ x.0 (joined (target_type (target_of e) ty) (between tokens.Equal ++ test_list value) x.1 (list_said value v))
assigned_said s left ty (Some o) value h k v ok =
    joined (modified (target_of left)) (assign_operator o ++ test_list value) (modified_said left ty o h ok)
    (assign_operator_said o (test_list value) (list_said value v))
