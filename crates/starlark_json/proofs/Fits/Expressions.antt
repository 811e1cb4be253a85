-- Nodes of parts that fit, and the targets that expressions are.
use Rattle.std.proofs.Common.{List as Seq, [], ◌∷◌, ◌++◌, Option, Some, None, Result, Ok, Err, refl}
use Rattle.std.specs.Bool.{⊤}
use Rattle.std.specs.List.{AllByRecursion as Each}
use Rattle.starlark_lexer.specs.Tokens.{Span, from_to}
use Rattle.starlark_tree.specs.Ast as t
use Rattle.starlark_tree.specs.Ast.{Word, no_payload, Expression, Statement, Target, expressions_of, arguments_of, parameters_of, pairs_of, clauses_of}
use Rattle.starlark_tree.specs.Ast.{statements_of, expression_span}
use Rattle.starlark_tree.specs.declared.ast.operator.AssignOp.{AssignOp}
use Rattle.starlark_tree.specs.declared.ast.operator.BinOp.{BinOp}
use Rattle.starlark_spec.specs.Assignments.{assigned}
use Rattle.starlark_spec.specs.Faults.{Fault}
use Rattle.starlark_spec.specs.Grammar.{UnarySign, Derivation, right_side}
use Rattle.starlark_spec.specs.Grammar.UnarySign.{plus_sign, minus_sign, tilde_sign}
use Rattle.starlark_spec.specs.Grammar.ElementKind.{elements}
use Rattle.starlark_spec.specs.Grammar.Nonterminal.{OptionalList}
use Rattle.starlark_spec.specs.Grammar.Derivation.{optional_list_none, optional_list_plain, optional_list_comma}
use Rattle.starlark_spec.specs.Targets.{map_ok, both, target, parts}
use Rattle.starlark_spec.specs.Trees.{Pair, Subscript, one_index, two_indices, bounds, Format, subscripted, operation, signed, tuple, one_or_tuple, grouped}
use Rattle.starlark_spec.specs.Trees.{target_or_none, target_of, one_or_block, if_form, f_string, load_arguments}
use Rattle.starlark_json.specs.Tree.Fitting.{SpanFits, ExpressionFits, ExpressionsFit, PairsFit, ArgumentFits, ArgumentsFit, ParameterFits, ParametersFit}
use Rattle.starlark_json.specs.Tree.Fitting.{MaybeFits, MaybeTypeFits, ClauseFits, ClausesFit, TargetFits, TargetsFit, LoadArgsFit}
use Rattle.starlark_json.specs.Tree.Fitting.{StatementFits, FormFits, StatementsFit}
use Rattle.starlark_json.proofs.Fits.Tokens.{SideFits, span_fits}

pub each_more : {A : Type 0} (P : A → Type 0) (xs : Seq A) (x : A) → Each P xs → P x → Each P (xs ++ x ∷ [])
each_more P [] x h k = (k, tt)
each_more P (y ∷ ys) x h k = (h.0, each_more P ys x h.1 k)

pub spanned : (s r : Span) → SpanFits s → SpanFits r → SpanFits (from_to s.begin r.end)
spanned s r h k = record { begin = h.begin; end = k.end }

pub place_fits : (e : Expression no_payload) → ExpressionFits e → SpanFits (expression_span e)
place_fits (t.expression s shape) h = h.0

-- ---- lists

pub expressions_fit : (es : Seq (Expression no_payload)) → Each ExpressionFits es → ExpressionsFit (expressions_of es)
expressions_fit [] h = tt
expressions_fit (e ∷ es) h = (h.0, expressions_fit es h.1)

abbrev pub PairFits : Pair → Type 0
PairFits p = ExpressionFits p.0 × ExpressionFits p.1

pub pairs_fit : (ps : Seq Pair) → Each PairFits ps → PairsFit (pairs_of ps)
pairs_fit [] h = tt
pairs_fit (p ∷ ps) h = (h.0.0, h.0.1, pairs_fit ps h.1)

pub arguments_fit : (xs : Seq (t.Argument no_payload)) → Each ArgumentFits xs → ArgumentsFit (arguments_of xs)
arguments_fit [] h = tt
arguments_fit (x ∷ xs) h = (h.0, arguments_fit xs h.1)

pub parameters_fit : (ps : Seq (t.Parameter no_payload)) → Each ParameterFits ps → ParametersFit (parameters_of ps)
parameters_fit [] h = tt
parameters_fit (p ∷ ps) h = (h.0, parameters_fit ps h.1)

pub clauses_fit : (cs : Seq (t.Clause no_payload)) → Each ClauseFits cs → ClausesFit (clauses_of cs)
clauses_fit [] h = tt
clauses_fit (c ∷ cs) h = (h.0, clauses_fit cs h.1)

pub statements_fit : (ss : Seq (Statement no_payload)) → Each StatementFits ss → StatementsFit (statements_of ss)
statements_fit [] h = tt
statements_fit (s ∷ ss) h = (h.0, statements_fit ss h.1)

-- ---- expressions

pub tuple_fits : (s : Span) (es : Seq (Expression no_payload)) → SpanFits s → Each ExpressionFits es → ExpressionFits (tuple s es)
tuple_fits s es k h = (k, expressions_fit es h)

pub one_fits : (s : Span) (es : Seq (Expression no_payload)) → SpanFits s → Each ExpressionFits es → ExpressionFits (one_or_tuple s es)
one_fits s [] k h = (k, tt)
one_fits s (e ∷ []) k h = h.0
one_fits s (e ∷ f ∷ es) k h = tuple_fits s (e ∷ f ∷ es) k h

pub grouped_fits : (brackets : Span) (d : Derivation (OptionalList elements)) (es : Seq (Expression no_payload)) → SpanFits brackets
    → SideFits (right_side d) → Each ExpressionFits es → ExpressionFits (grouped brackets d es)
grouped_fits brackets optional_list_none es k s h = tuple_fits brackets es k h
grouped_fits brackets (optional_list_plain d) es k s h = one_fits _ es (span_fits (optional_list_plain d) s) h
grouped_fits brackets (optional_list_comma d c) es k s h = tuple_fits _ es (span_fits (optional_list_comma d c) s) h

pub signed_fits : (sign : UnarySign) (s : Span) (e : Expression no_payload) → SpanFits s → ExpressionFits e → ExpressionFits (signed sign s e)
signed_fits plus_sign s e k h = (k, h)
signed_fits minus_sign s e k h = (k, h)
signed_fits tilde_sign s e k h = (k, h)

pub operation_fits : (l : Expression no_payload) (o : BinOp) (r : Expression no_payload) → ExpressionFits l → ExpressionFits r
    → ExpressionFits (operation l o r)
operation_fits l o r h k = (spanned (expression_span l) (expression_span r) (place_fits l h) (place_fits r k), (h, k))

abbrev pub SubscriptFits : Subscript → Type 0
SubscriptFits (one_index i) = ExpressionFits i
SubscriptFits (two_indices i j) = ExpressionFits i × ExpressionFits j
SubscriptFits (bounds start stop step) = MaybeFits start × MaybeFits stop × MaybeFits step

pub subscripted_fits : (s : Span) (e : Expression no_payload) (sub : Subscript) → SpanFits s → ExpressionFits e → SubscriptFits sub
    → ExpressionFits (subscripted s e sub)
subscripted_fits s e (one_index i) k h sub = (k, (h, sub))
subscripted_fits s e (two_indices i j) k h sub = (k, (h, sub.0, sub.1))
subscripted_fits s e (bounds start stop step) k h sub = (k, (h, sub.0, sub.1, sub.2))

pub f_string_fits : (s : Span) (f : Format) → SpanFits s → Each ExpressionFits f.values → ExpressionFits (f_string s f)
f_string_fits s f k h = (k, (refl, k, expressions_fit f.values h))

-- ---- targets

-- the target, or where the fault is
abbrev TargetOrFaultFits : Result (Target no_payload) Fault → Type 0
TargetOrFaultFits (Ok x) = TargetFits x
TargetOrFaultFits (Err f) = SpanFits f.span

abbrev TargetsOrFaultFit : Result (t.Targets no_payload) Fault → Type 0
TargetsOrFaultFit (Ok xs) = TargetsFit xs
TargetsOrFaultFit (Err f) = SpanFits f.span

tuple_target_fits : (s : Span) (r : Result (t.Targets no_payload) Fault) → SpanFits s → TargetsOrFaultFit r → TargetOrFaultFits (map_ok (t.TupleTarget s) r)
tuple_target_fits s (Ok xs) k h = (k, h)
tuple_target_fits s (Err f) k h = h

both_fit : (r : Result (Target no_payload) Fault) (q : Result (t.Targets no_payload) Fault) → TargetOrFaultFits r → TargetsOrFaultFit q
    → TargetsOrFaultFit (both t.targets r q)
both_fit (Ok x) (Ok xs) h k = (h, k)
both_fit (Ok x) (Err f) h k = k
both_fit (Err f) q h k = h

mutual
  target_fits : (e : Expression no_payload) → ExpressionFits e → TargetOrFaultFits (target e)
  target_fits (t.expression s (t.Tuple es)) h = tuple_target_fits s (parts es) h.0 (parts_fit es h.1)
  target_fits (t.expression s (t.List es)) h = tuple_target_fits s (parts es) h.0 (parts_fit es h.1)
  target_fits (t.expression s (t.Dot e w)) h = (h.0, h.1.0, h.1.1)
  target_fits (t.expression s (t.Index a i)) h = (h.0, h.1.0, h.1.1)
  target_fits (t.expression s (t.Identifier w p)) h = h
  target_fits (t.expression s other) h = h.0

  parts_fit : (es : t.Expressions no_payload) → ExpressionsFit es → TargetsOrFaultFit (parts es)
  parts_fit t.no_expressions h = tt
  parts_fit (t.expressions e es) h = both_fit (target e) (parts es) (target_fits e h.0) (parts_fit es h.1)

found_fits : (r : Result (Target no_payload) Fault) → TargetOrFaultFits r → TargetFits (target_or_none r)
found_fits (Ok x) h = h
found_fits (Err f) h = (h, tt)

pub aim_fits : (e : Expression no_payload) → ExpressionFits e → TargetFits (target_of e)
aim_fits e h = found_fits (target e) (target_fits e h)

-- ---- statements

pub assigned_fits : (ty : t.MaybeType no_payload) (o : Option AssignOp) (value : Expression no_payload) (x : Target no_payload) → MaybeTypeFits ty
    → ExpressionFits value → TargetFits x → FormFits (assigned ty o value x)
assigned_fits ty None value x k v h = (h, k, v)
assigned_fits ty (Some o) value x k v h = (h, v)

abbrev pub RestFits : Option (Statement no_payload) → Type 0
RestFits None = ⊤
RestFits (Some s) = StatementFits s

pub if_fits : (e : Expression no_payload) (body : Statement no_payload) (rest : Option (Statement no_payload)) → ExpressionFits e → StatementFits body
    → RestFits rest → FormFits (if_form e body rest)
if_fits e body None h b r = (h, b)
if_fits e body (Some other) h b r = (h, b, r)

pub block_fits : (s : Span) (ss : Seq (Statement no_payload)) → SpanFits s → Each StatementFits ss → StatementFits (one_or_block s ss)
block_fits s [] k h = (k, tt)
block_fits s (a ∷ []) k h = h.0
block_fits s (a ∷ b ∷ ss) k h = (k, statements_fit (a ∷ b ∷ ss) h)

-- the name that a load binds, and the one that it takes
abbrev pub NamesFit : Word × Word → Type 0
NamesFit names = SpanFits names.0.span × SpanFits names.1.span

pub loads_fit : (ns : Seq (Word × Word)) (cs : Seq Span) → Each NamesFit ns → Each SpanFits cs → LoadArgsFit (load_arguments ns cs)
loads_fit [] cs h k = tt
loads_fit (n ∷ ns) [] h k = (h.0.0, h.0.1, tt, loads_fit ns [] h.1 tt)
loads_fit (n ∷ ns) (c ∷ cs) h k = (h.0.0, h.0.1, k.0, loads_fit ns cs h.1 k.1)
