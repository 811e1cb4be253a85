-- What the code's nodes mean.
use Rattle.std.proofs.Common.{◌≡◌, Option, false, List, [], ◌∷◌, map, length, Vec, Global, String, string_bytes, refl, ap, ◌∙◌}
use Rattle.std.specs.Bool.{⊤}
use Rattle.std.specs.declared.boxed.Box.{Box}
use Rattle.starlark_lexer.specs.Tokens.{Span, span_of}
use Rattle.starlark_lexer.specs.declared.span.Span.{Span as CodeSpan}
use Rattle.starlark_lexer.specs.declared.span.Spanned.{Spanned}
use Rattle.starlark_tree.specs.declared.ast.ExprP.{ExprP}
use Rattle.starlark_tree.specs.declared.ast.ExprP as exprs
use Rattle.starlark_tree.specs.declared.ast.IdentP.{IdentP}
use Rattle.starlark_tree.specs.declared.ast.payload.AstNoPayload.{AstNoPayload}
use Rattle.starlark_tree.specs.declared.ast.StmtP.{StmtP}
use Rattle.starlark_tree.specs.declared.ast.StmtP as stmts
use Rattle.starlark_tree.specs.Ast as t
use Rattle.starlark_tree.specs.Ast.{Expression, expression, Statement, statement, Word, no_payload, arguments_of, expressions_of, parameters_of, statements_of}
use Rattle.starlark_tree.specs.Views.{shape_seen, form_seen, expression_of, pair_of, argument_of, parameter_of, statement_of, parameter_seen, assign_word}
use Rattle.starlark_tree.specs.Views.{boxed_type_of, maybe_of, maybe_seen, for_in_of, clause_seen}
use Rattle.starlark_tree.proofs.Rows.{expressions_seen_of, pairs_seen_of, arguments_seen_of, parameters_seen_of, statements_seen_of, clauses_seen_of}
use Rattle.starlark_tree.proofs.Rows.{maybe_seen_of, maybe_type_seen_of}
use Rattle.starlark_tree.specs.declared.ast.ArgumentP.{ArgumentP}
use Rattle.starlark_tree.specs.declared.ast.ParameterP.{ParameterP}
use Rattle.starlark_tree.specs.declared.ast.ParameterP as params
use Rattle.starlark_tree.specs.declared.ast.AssignIdentP.{AssignIdentP}
use Rattle.starlark_tree.specs.declared.ast.ClauseP.{ClauseP}
use Rattle.starlark_tree.specs.declared.ast.ForClauseP.{ForClauseP}
use Rattle.starlark_tree.specs.declared.ast.TypeExprP.{TypeExprP}
use Rattle.starlark_spec.specs.Trees.{tuple, list, dictionary, lambda, f_string, at, one_or_block, one_or_tuple, list_comprehension, dict_comprehension}
use Rattle.starlark_parse_build.specs.Suffixes.{is_name}

abbrev pub CodeStatement : Type 0
CodeStatement = Spanned (StmtP AstNoPayload ⊤ ⊤ ⊤ ⊤ ⊤)

abbrev pub CodeExpression : Type 0
CodeExpression = Spanned (ExprP AstNoPayload ⊤ ⊤ ⊤ ⊤ ⊤)

abbrev CodeType : Type 0
CodeType = Spanned (TypeExprP AstNoPayload ⊤ ⊤ ⊤ ⊤ ⊤)

abbrev CodeForClause : Type 0
CodeForClause = ForClauseP AstNoPayload ⊤ ⊤ ⊤ ⊤ ⊤

abbrev CodeClauses : Type 0
CodeClauses = Vec (ClauseP AstNoPayload ⊤ ⊤ ⊤ ⊤ ⊤) Global

abbrev CodeArguments : Type 0
CodeArguments = Vec (Spanned (ArgumentP AstNoPayload ⊤ ⊤ ⊤ ⊤ ⊤)) Global

abbrev CodePairs : Type 0
CodePairs = Vec (CodeExpression × CodeExpression) Global

abbrev CodeParameters : Type 0
CodeParameters = Vec (Spanned (ParameterP AstNoPayload ⊤ ⊤ ⊤ ⊤ ⊤)) Global

pub tuple_seen : (v : Vec CodeExpression Global) (ws : List CodeExpression) {s z : Span} → v.items ≡ ws → s ≡ z → expression s (shape_seen (exprs.Tuple v))
    ≡ tuple z (map expression_of ws)
tuple_seen v ws {s} {z} g e =
    ap (λ x. expression x (shape_seen (exprs.Tuple v))) e ∙ ap (λ es. expression z (t.Tuple es)) (expressions_seen_of v)
    ∙ ap (λ xs. tuple z (map expression_of xs)) g

pub list_seen : (v : Vec CodeExpression Global) (ws : List CodeExpression) {s z : Span} → v.items ≡ ws → s ≡ z → expression s (shape_seen (exprs.List v))
    ≡ list z (map expression_of ws)
list_seen v ws {s} {z} g e =
    ap (λ x. expression x (shape_seen (exprs.List v))) e ∙ ap (λ es. expression z (t.List es)) (expressions_seen_of v)
    ∙ ap (λ xs. list z (map expression_of xs)) g

pub dictionary_seen : (v : CodePairs) (ws : List (CodeExpression × CodeExpression)) {s z : Span} → v.items ≡ ws → s ≡ z
    → expression s (shape_seen (exprs.Dict v)) ≡ dictionary z (map pair_of ws)
dictionary_seen v ws {s} {z} g e =
    ap (λ x. expression x (shape_seen (exprs.Dict v))) e ∙ ap (λ ps. expression z (t.Dict ps)) (pairs_seen_of v)
    ∙ ap (λ xs. dictionary z (map pair_of xs)) g

pub f_string_seen : (v : Vec CodeExpression Global) (ws : List CodeExpression) (text u : String Global) (place : CodeSpan) {z : Span} → v.items ≡ ws
    → text ≡ u → span_of place ≡ z
    → expression (span_of place) (shape_seen (exprs.FString (record {
      node = record { format = record { node = text; span = place }; expressions = v };
      span = place;
    })))
    ≡ f_string z (record { text = string_bytes u; values = map expression_of ws })
f_string_seen v ws text u place {z} g k e =
    ap (λ es. expression (span_of place) (t.FString (span_of place) (at (string_bytes text) (span_of place)) es)) (expressions_seen_of v)
    ∙ ap (λ x. expression x (t.FString x (at (string_bytes text) x) (expressions_of (map expression_of v.items)))) e
    ∙ ap (λ (x : String Global). f_string z (record { text = string_bytes x; values = map expression_of v.items })) k
    ∙ ap (λ xs. f_string z (record { text = string_bytes u; values = map expression_of xs })) g

pub lambda_seen : (v : CodeParameters) (ws : List (Spanned (ParameterP AstNoPayload ⊤ ⊤ ⊤ ⊤ ⊤))) (o : Box CodeExpression Global)
    (e : CodeExpression) {s z : Span} → v.items ≡ ws → o.value ≡ e → s ≡ z
    → expression s (shape_seen (exprs.Lambda (record { params = v; body = o; payload = tt }))) ≡ lambda z (map parameter_of ws) (expression_of e)
lambda_seen v ws o e {s} {z} g k h =
    ap (λ x. expression x (shape_seen (exprs.Lambda (record { params = v; body = o; payload = tt })))) h
    ∙ ap (λ ps. expression z (t.Lambda ps (expression_of o.value) tt)) (parameters_seen_of v)
    ∙ ap (λ ps. lambda z (map parameter_of ps) (expression_of o.value)) g
    ∙ ap (λ (x : CodeExpression). lambda z (map parameter_of ws) (expression_of x)) k

pub call_seen : (o : Box CodeExpression Global) (v : CodeArguments) (ws : List (Spanned (ArgumentP AstNoPayload ⊤ ⊤ ⊤ ⊤ ⊤))) → v.items ≡ ws
    → shape_seen (exprs.Call o (record { args = v })) ≡ t.Call (expression_of o.value) (arguments_of (map argument_of ws))
call_seen o v ws g = ap (t.Call (expression_of o.value)) (arguments_seen_of v) ∙ ap (λ xs. t.Call (expression_of o.value) (arguments_of (map argument_of xs))) g

-- what is not an identifier is not a name
pub no_identifier : (x : ExprP AstNoPayload ⊤ ⊤ ⊤ ⊤ ⊤) (s : Span) → ((i : Spanned (IdentP AstNoPayload ⊤ ⊤ ⊤ ⊤ ⊤)) → x ≡ exprs.Identifier i → ⊥)
    → is_name (expression s (shape_seen x)) ≡ false
no_identifier (exprs.Identifier i) s h = absurd (h i refl)
no_identifier x s h = refl

pub block_of : (span : Span) (ss : List (Statement no_payload)) → (length ss ≡ 1 → ⊥) → statement span (t.Block (statements_of ss)) ≡ one_or_block span ss
block_of span [] h = refl
block_of span (s ∷ []) h = absurd (h refl)
block_of span (s ∷ r ∷ rs) h = refl

-- several expressions, or none, are a tuple
pub tuple_of_several : (span : Span) (es : List (Expression no_payload)) → ¬ (length es ≡ 1) → tuple span es ≡ one_or_tuple span es
tuple_of_several span [] h = refl
tuple_of_several span (e ∷ []) h = absurd (h refl)
tuple_of_several span (e ∷ f ∷ es) h = refl

pub block_seen : (v : Vec CodeStatement Global) (ws : List CodeStatement) → v.items ≡ ws → form_seen (stmts.Statements v)
    ≡ t.Block (statements_of (map statement_of ws))
block_seen v ws g = ap t.Block (statements_seen_of v) ∙ ap (λ xs. t.Block (statements_of (map statement_of xs))) g

abbrev CodeParts : Type 0
CodeParts = Box CodeForClause Global × CodeClauses

pub list_comprehension_seen : (o : Box CodeExpression Global) (p q : CodeParts) (e : CodeExpression) {s z : Span} → o.value ≡ e → p ≡ q → s ≡ z
    → expression s (shape_seen (exprs.ListComprehension o p.0 p.1)) ≡ list_comprehension z (expression_of e) (for_in_of q.0.value, map clause_seen q.1.items)
list_comprehension_seen o p q e {s} {z} k g h =
    ap (λ x. expression x (shape_seen (exprs.ListComprehension o p.0 p.1))) h
    ∙ ap (λ cs. expression z (t.ListComprehension (expression_of o.value) (for_in_of p.0.value) cs)) (clauses_seen_of p.1)
    ∙ ap (λ (x : CodeParts). list_comprehension z (expression_of o.value) (for_in_of x.0.value, map clause_seen x.1.items)) g
    ∙ ap (λ (x : CodeExpression). list_comprehension z (expression_of x) (for_in_of q.0.value, map clause_seen q.1.items)) k

pub dict_comprehension_seen : (o : Box (CodeExpression × CodeExpression) Global) (p q : CodeParts) (e : CodeExpression × CodeExpression) {s z : Span}
    → o.value ≡ e → p ≡ q → s ≡ z
    → expression s (shape_seen (exprs.DictComprehension o p.0 p.1)) ≡ dict_comprehension z (pair_of e) (for_in_of q.0.value, map clause_seen q.1.items)
dict_comprehension_seen o p q e {s} {z} k g h =
    ap (λ x. expression x (shape_seen (exprs.DictComprehension o p.0 p.1))) h
    ∙ ap (λ cs. expression z (t.DictComprehension (expression_of o.value.0) (expression_of o.value.1) (for_in_of p.0.value) cs)) (clauses_seen_of p.1)
    ∙ ap (λ (x : CodeParts). dict_comprehension z (pair_of o.value) (for_in_of x.0.value, map clause_seen x.1.items)) g
    ∙ ap (λ (x : CodeExpression × CodeExpression). dict_comprehension z (pair_of x) (for_in_of q.0.value, map clause_seen q.1.items)) k

abbrev CodeName : Type 0
CodeName = Spanned (AssignIdentP AstNoPayload ⊤ ⊤ ⊤ ⊤ ⊤)

module _ (s : Span) (name : CodeName) (ty : Option (Box CodeType Global)) (n : Word) (x : t.MaybeType no_payload) (names : assign_word name ≡ n)
    (types : boxed_type_of ty ≡ x) where
  pub normal_seen : (d : Option (Box CodeExpression Global)) (m : t.Maybe no_payload) → maybe_of d ≡ m → parameter_seen s (params.Normal name ty d)
      ≡ t.Normal s n tt x m
  normal_seen d m holds =
      ap (λ y. t.Normal s (assign_word name) tt y (maybe_seen (exprs.back-ExprP-Slice-1 AstNoPayload ⊤ ⊤ ⊤ ⊤ ⊤ d))) (maybe_type_seen_of ty ∙ types)
      ∙ ap (λ y. t.Normal s (assign_word name) tt x y) (maybe_seen_of d ∙ holds) ∙ ap (λ w. t.Normal s w tt x m) names

  pub args_seen : parameter_seen s (params.Args name ty) ≡ t.Args s n tt x
  args_seen = ap (λ y. t.Args s (assign_word name) tt y) (maybe_type_seen_of ty ∙ types) ∙ ap (λ w. t.Args s w tt x) names

  pub kwargs_seen : parameter_seen s (params.KwArgs name ty) ≡ t.KwArgs s n tt x
  kwargs_seen = ap (λ y. t.KwArgs s (assign_word name) tt y) (maybe_type_seen_of ty ∙ types) ∙ ap (λ w. t.KwArgs s w tt x) names

  pub definition_seen : (v : CodeParameters) (ws : List (Spanned (ParameterP AstNoPayload ⊤ ⊤ ⊤ ⊤ ⊤))) (o : Box CodeStatement Global) (b : CodeStatement)
      → v.items ≡ ws → o.value ≡ b
      → form_seen (stmts.Def (record { name = name; params = v; return_type = ty; body = o; payload = tt }))
      ≡ t.Def n tt (parameters_of (map parameter_of ws)) x (statement_of b) tt
  definition_seen v ws o b same body =
      ap (λ m. t.Def m tt (parameters_of (map parameter_of v.items)) (boxed_type_of ty) (statement_of o.value) tt) names
      ∙ ap (λ y. t.Def n tt (parameters_of (map parameter_of v.items)) y (statement_of o.value) tt) types
      ∙ ap (λ ps. t.Def n tt (parameters_of (map parameter_of ps)) x (statement_of o.value) tt) same
      ∙ ap (λ (c : CodeStatement). t.Def n tt (parameters_of (map parameter_of ws)) x (statement_of c) tt) body
