-- The tree of a derivation without its spans is seen as that of the derivation.
use Rattle.std.proofs.Common.{◌≡◌, List as Seq, [], ◌∷◌, ◌++◌, map, Option, Some, None, Result, Ok, Err, refl, sym, ap, ◌∙◌}
use Rattle.std.proofs.lemmas.List.{map-append}
use Rattle.starlark_lexer.specs.Tokens.{Span, nowhere}
use Rattle.starlark_tree.specs.Ast as t
use Rattle.starlark_tree.specs.Ast.{no_payload, Word, Expression, Target, Statement, expressions_of, pairs_of, arguments_of, parameters_of, clauses_of}
use Rattle.starlark_tree.specs.declared.ast.operator.AssignOp.{AssignOp}
use Rattle.starlark_spec.specs.Assignments.{assigned}
use Rattle.starlark_spec.specs.Targets.{map_ok, target}
use Rattle.starlark_spec.specs.Faults.{Fault}
use Rattle.starlark_spec.specs.Grammar.{Nonterminal, ElementKind, ElementOf, PrecedenceLevel, OperandOf, UnarySign, CompSign, Derivation}
use Rattle.starlark_spec.specs.Grammar as G
use Rattle.starlark_spec.specs.Trees.{TreeOf, ElementTree, Pair, Subscript, one_index, two_indices, bounds, Format, Comprehended, element_tree, operand_tree}
use Rattle.starlark_spec.specs.Trees.{one_or_tuple, one_or_block, grouped, if_form, signed, subscripted, compared_by, operator_of, load_argument}
use Rattle.starlark_spec.specs.Trees.{load_arguments, target_or_none, target_of, placeholder, doubled, assign_operator, tree}
use Rattle.starlark_source.specs.Unspanned.{unspanned, unspanned_all, unspanned_argument, unspanned_arguments, unspanned_clause, unspanned_clauses}
use Rattle.starlark_source.specs.Unspanned.{unspanned_for, unspanned_form, unspanned_load, unspanned_maybe, unspanned_pairs, unspanned_parameter}
use Rattle.starlark_source.specs.Unspanned.{unspanned_parameters, unspanned_statement, unspanned_target, unspanned_type, unspanned_word}
use Rattle.starlark_source.proofs.ReadBack.Productions.{unspanned_pair, expressions_unspanned, arguments_unspanned, parameters_unspanned, pairs_unspanned}
use Rattle.starlark_source.proofs.ReadBack.Productions.{clauses_unspanned}
use Rattle.starlark_source.proofs.ReadBack.Smalls.{all_unspanned, one_or_all}
use Rattle.starlark_source.proofs.ReadBack.Statements.{if_seen}
use Rattle.starlark_source.proofs.ReadBack.Suites.{seen_rest}
use Rattle.starlark_source.proofs.ReadBack.Targets.{unplaced as without_place, target_unspanned}
use Rattle.starlark_source.proofs.Spans.Moves.{unplaced, unplaced_sign}

-- ---- trees without their spans

abbrev pub seen_words : Word × Word → Word × Word
seen_words p = (unspanned_word p.0, unspanned_word p.1)

abbrev pub seen_item : (k : ElementKind) → ElementTree k → ElementTree k
seen_item G.elements e = unspanned e
seen_item G.arguments a = unspanned_argument a
seen_item G.entries p = unspanned_pair p
seen_item G.lambda_parameters p = unspanned_parameter p
seen_item G.variables e = unspanned e
seen_item G.symbols s = seen_words s
seen_item G.def_parameters p = unspanned_parameter p

abbrev pub seen_subscript : Subscript → Subscript
seen_subscript (one_index i) = one_index (unspanned i)
seen_subscript (two_indices i j) = two_indices (unspanned i) (unspanned j)
seen_subscript (bounds a b c) = bounds (unspanned_maybe a) (unspanned_maybe b) (unspanned_maybe c)

abbrev pub seen_format : Format → Format
seen_format f = record { text = f.text; values = map (λ v. unspanned v) f.values }

abbrev pub seen_comprehended : Comprehended → Comprehended
seen_comprehended cs = (unspanned_for cs.0, map (λ c. unspanned_clause c) cs.1)

abbrev pub seen : (n : Nonterminal) → TreeOf n → TreeOf n
seen G.Module ss = all_unspanned ss
seen G.Stmt s = unspanned_statement s
seen G.For s = unspanned_statement s
seen G.Rest s = seen_rest s
seen G.Suite s = unspanned_statement s
seen G.Newlines ss = []
seen G.Block ss = all_unspanned ss
seen G.ReturnType ty = unspanned_type ty
seen G.DefParam p = unspanned_parameter p
seen G.Simple s = unspanned_statement s
seen G.Smalls ss = all_unspanned ss
seen G.Small s = unspanned_statement s
seen G.TestList e = unspanned e
seen G.Annotation ty = unspanned_type ty
seen G.Note e = unspanned e
seen G.Symbols ss = map (λ a. unspanned_load a) ss
seen G.Sym s = seen_words s
seen G.Test e = unspanned e
seen (G.LeftAssociative k) e = unspanned e
seen G.Not e = unspanned e
seen G.Comp e = unspanned e
seen G.Unary e = unspanned e
seen G.Primary e = unspanned e
seen G.Sub s = seen_subscript s
seen G.Bound e = unspanned_maybe e
seen G.Arg a = unspanned_argument a
seen G.Entry p = unspanned_pair p
seen G.LambdaParam p = unspanned_parameter p
seen G.Atom e = unspanned e
seen G.LoopVars e = unspanned e
seen G.ForClause f = unspanned_for f
seen G.Clauses cs = seen_comprehended cs
seen G.FStringParts f = seen_format f
seen G.Conversion c = c
seen (G.OptionalList k) xs = map (λ x. seen_item k x) xs
seen (G.CommaList k) xs = map (λ x. seen_item k x) xs

-- ---- how trees are built, without spans

operand_seen : {k : PrecedenceLevel} {n : Nonterminal} (u : OperandOf k n) (v w : TreeOf n) → seen n v ≡ seen n w → unspanned (operand_tree u v)
    ≡ unspanned (operand_tree u w)
operand_seen G.of_or v w is = is
operand_seen G.of_and v w is = is
operand_seen G.of_bit_or v w is = is
operand_seen G.of_xor v w is = is
operand_seen G.of_bit_and v w is = is
operand_seen G.of_shift v w is = is
operand_seen G.of_add v w is = is
operand_seen G.of_multiply v w is = is

element_seen : {k : ElementKind} {n : Nonterminal} (u : ElementOf k n) (v w : TreeOf n) → seen n v ≡ seen n w → seen_item k (element_tree u v)
    ≡ seen_item k (element_tree u w)
element_seen G.of_elements v w is = is
element_seen G.of_arguments v w is = is
element_seen G.of_entries v w is = is
element_seen G.of_lambda_parameters v w is = is
element_seen G.of_variables v w is = is
element_seen G.of_symbols v w is = is
element_seen G.of_def_parameters v w is = is

signed_seen : (sign : UnarySign) (s r : Span) (e f : Expression no_payload) → unspanned e ≡ unspanned f → unspanned (signed sign s e)
    ≡ unspanned (signed sign r f)
signed_seen G.plus_sign s r e f is = λ i. t.expression nowhere (t.Plus (is i))
signed_seen G.minus_sign s r e f is = λ i. t.expression nowhere (t.Minus (is i))
signed_seen G.tilde_sign s r e f is = λ i. t.expression nowhere (t.BitNot (is i))

compared_same : (sign : CompSign) → compared_by sign ≡ compared_by (unplaced_sign sign)
compared_same (G.comparison c s) = refl
compared_same (G.not_in a b) = refl

subscript_seen : (s : Span) (e : Expression no_payload) (x : Subscript) → unspanned (subscripted s e x) ≡ subscripted nowhere (unspanned e) (seen_subscript x)
subscript_seen s e (one_index i) = refl
subscript_seen s e (two_indices i j) = refl
subscript_seen s e (bounds a b c) = refl

tuple_seen : (s : Span) (es : Seq (Expression no_payload)) → unspanned (one_or_tuple s es) ≡ one_or_tuple nowhere (map (λ e. unspanned e) es)
tuple_seen s [] = refl
tuple_seen s (e ∷ []) = refl
tuple_seen s (e ∷ f ∷ es) = ap (λ xs. t.expression nowhere (t.Tuple xs)) (expressions_unspanned (e ∷ f ∷ es))

-- lists that are seen as equal
expressions_same : (es fs : Seq (Expression no_payload)) → map (λ e. unspanned e) es ≡ map (λ e. unspanned e) fs → unspanned_all (expressions_of es)
    ≡ unspanned_all (expressions_of fs)
expressions_same es fs is = expressions_unspanned es ∙ ap (λ xs. expressions_of xs) is ∙ sym (expressions_unspanned fs)

one_same : (s r : Span) (es fs : Seq (Expression no_payload)) → map (λ e. unspanned e) es ≡ map (λ e. unspanned e) fs → unspanned (one_or_tuple s es)
    ≡ unspanned (one_or_tuple r fs)
one_same s r es fs is = tuple_seen s es ∙ ap (one_or_tuple nowhere) is ∙ sym (tuple_seen r fs)

all_same : (s r : Span) (es fs : Seq (Expression no_payload)) → map (λ e. unspanned e) es ≡ map (λ e. unspanned e) fs
    → unspanned (t.expression s (t.Tuple (expressions_of es))) ≡ unspanned (t.expression r (t.Tuple (expressions_of fs)))
all_same s r es fs is = ap (λ xs. t.expression nowhere (t.Tuple xs)) (expressions_same es fs is)

grouped_same : (s r : Span) (d : Derivation (G.OptionalList G.elements)) (es fs : Seq (Expression no_payload)) → map (λ e. unspanned e) es
    ≡ map (λ e. unspanned e) fs
    → unspanned (grouped s d es) ≡ unspanned (grouped r (unplaced d) fs)
grouped_same s r G.optional_list_none es fs is = all_same s r es fs is
grouped_same s r (G.optional_list_plain d) es fs is = one_same _ _ es fs is
grouped_same s r (G.optional_list_comma d c) es fs is = all_same nowhere nowhere es fs is

arguments_same : (xs ys : Seq (t.Argument no_payload)) → map (λ x. unspanned_argument x) xs ≡ map (λ x. unspanned_argument x) ys
    → unspanned_arguments (arguments_of xs) ≡ unspanned_arguments (arguments_of ys)
arguments_same xs ys is = arguments_unspanned xs ∙ ap (λ zs. arguments_of zs) is ∙ sym (arguments_unspanned ys)

parameters_same : (xs ys : Seq (t.Parameter no_payload)) → map (λ x. unspanned_parameter x) xs ≡ map (λ x. unspanned_parameter x) ys
    → unspanned_parameters (parameters_of xs) ≡ unspanned_parameters (parameters_of ys)
parameters_same xs ys is = parameters_unspanned xs ∙ ap (λ zs. parameters_of zs) is ∙ sym (parameters_unspanned ys)

pairs_same : (xs ys : Seq Pair) → map (λ p. unspanned_pair p) xs ≡ map (λ p. unspanned_pair p) ys → unspanned_pairs (pairs_of xs)
    ≡ unspanned_pairs (pairs_of ys)
pairs_same xs ys is = pairs_unspanned xs ∙ ap (λ zs. pairs_of zs) is ∙ sym (pairs_unspanned ys)

clauses_same : (xs ys : Seq (t.Clause no_payload)) → map (λ x. unspanned_clause x) xs ≡ map (λ x. unspanned_clause x) ys
    → unspanned_clauses (clauses_of xs) ≡ unspanned_clauses (clauses_of ys)
clauses_same xs ys is = clauses_unspanned xs ∙ ap (λ zs. clauses_of zs) is ∙ sym (clauses_unspanned ys)

pub block_same : (s r : Span) (xs ys : Seq (Statement no_payload)) → all_unspanned xs ≡ all_unspanned ys → unspanned_statement (one_or_block s xs)
    ≡ unspanned_statement (one_or_block r ys)
block_same s r xs ys is = one_or_all s xs ∙ ap (one_or_block nowhere) is ∙ sym (one_or_all r ys)

pub if_same : (s r : Span) (e f : Expression no_payload) (m o : Statement no_payload) (x y : Option (Statement no_payload)) → unspanned e ≡ unspanned f
    → unspanned_statement m ≡ unspanned_statement o → seen_rest x ≡ seen_rest y → unspanned_statement (t.statement s (if_form e m x))
    ≡ unspanned_statement (t.statement r (if_form f o y))
if_same s r e f m o x y is body rest =
    ap (λ g. t.statement nowhere g) (if_seen e m x ∙ (λ i. if_form (is i) (body i) (rest i)) ∙ sym (if_seen f o y))

-- what an expression is as a target, without spans
abbrev seen_target : Result (Target no_payload) Fault → Target no_payload
seen_target (Ok x) = x
seen_target (Err f) = t.TupleTarget nowhere t.no_targets

target_placed : (r : Result (Target no_payload) Fault) → unspanned_target (target_or_none r)
    ≡ seen_target (without_place (map_ok (λ x. unspanned_target x) r))
target_placed (Ok x) = refl
target_placed (Err f) = refl

target_same : (e f : Expression no_payload) → unspanned e ≡ unspanned f → unspanned_target (target_of e) ≡ unspanned_target (target_of f)
target_same e f is =
    target_placed (target e) ∙ ap seen_target (sym (target_unspanned e) ∙ ap (λ g. target g) is ∙ target_unspanned f) ∙ sym (target_placed (target f))

assigned_seen : (ty : t.MaybeType no_payload) (op : Option AssignOp) (e : Expression no_payload) (x : Target no_payload)
    → unspanned_form (assigned ty op e x) ≡ assigned (unspanned_type ty) op (unspanned e) (unspanned_target x)
assigned_seen ty None e x = refl
assigned_seen ty (Some op) e x = refl

assigned_same : (s r : Span) (ty uy : t.MaybeType no_payload) (op : Option AssignOp) (e f : Expression no_payload) (x y : Target no_payload)
    → unspanned_type ty ≡ unspanned_type uy → unspanned e ≡ unspanned f → unspanned_target x ≡ unspanned_target y
    → unspanned_statement (t.statement s (assigned ty op e x)) ≡ unspanned_statement (t.statement r (assigned uy op f y))
assigned_same s r ty uy op e f x y types value targets =
    ap (λ g. t.statement nowhere g) (assigned_seen ty op e x ∙ (λ i. assigned (types i) op (value i) (targets i)) ∙ sym (assigned_seen uy op f y))

loads_seen : (ns : Seq (Word × Word)) (cs : Seq Span) → map (λ a. unspanned_load a) (load_arguments ns cs)
    ≡ map (λ p. load_argument p None) (map seen_words ns)
loads_seen [] cs = refl
loads_seen (n ∷ ns) [] = ap (λ l. load_argument (seen_words n) None ∷ l) (loads_seen ns [])
loads_seen (n ∷ ns) (c ∷ cs) = ap (λ l. load_argument (seen_words n) None ∷ l) (loads_seen ns cs)

loads_same : (ns ms : Seq (Word × Word)) (cs ds : Seq Span) → map seen_words ns ≡ map seen_words ms
    → map (λ a. unspanned_load a) (load_arguments ns cs) ≡ map (λ a. unspanned_load a) (load_arguments ms ds)
loads_same ns ms cs ds is = loads_seen ns cs ∙ ap (λ l. map (λ p. load_argument p None) l) is ∙ sym (loads_seen ms ds)

-- one more at the end
pub snoc_same : {A B : Type 0} (f : A → B) (xs ys : Seq A) (x y : A) → map f xs ≡ map f ys → f x ≡ f y → map f (xs ++ x ∷ []) ≡ map f (ys ++ y ∷ [])
snoc_same f xs ys x y all one = map-append f xs (x ∷ []) ∙ (λ i. all i ++ one i ∷ []) ∙ sym (map-append f ys (y ∷ []))

-- ---- derivations

pub seen_unplaced : {n : Nonterminal} (d : Derivation n) → seen n (tree d) ≡ seen n (tree (unplaced d))
seen_unplaced G.module_none = refl
seen_unplaced (G.module_newline before newline_at) = seen_unplaced before
seen_unplaced (G.module_stmt before stmt) = snoc_same (λ x. unspanned_statement x) (tree before) (tree (unplaced before)) _ _ (seen_unplaced before)
    (seen_unplaced stmt)
seen_unplaced (G.stmt_simple d) = seen_unplaced d
seen_unplaced (G.stmt_def def_at name name_at opening_at params closing_at return_type colon_at suite) =
    λ i. t.statement nowhere (t.Def (record { text = name; span = nowhere }) tt
    (parameters_same (tree params) (tree (unplaced params)) (seen_unplaced params) i) (seen_unplaced return_type i) (seen_unplaced suite i) tt)
seen_unplaced (G.stmt_if if_at test colon_at suite rest) =
    if_same nowhere nowhere (tree test) (tree (unplaced test)) (tree suite) (tree (unplaced suite)) (tree rest) (tree (unplaced rest)) (seen_unplaced test)
    (seen_unplaced suite) (seen_unplaced rest)
seen_unplaced (G.stmt_for d) = seen_unplaced d
seen_unplaced (G.for_loop for_at vars in_at source colon_at suite) =
    λ i. t.statement nowhere (t.For (target_same (tree vars) (tree (unplaced vars)) (seen_unplaced vars) i) (seen_unplaced source i) (seen_unplaced suite i))
seen_unplaced G.rest_none = refl
seen_unplaced (G.rest_elif elif_at test colon_at suite rest) =
    ap (λ s. Some s) (if_same nowhere nowhere (tree test) (tree (unplaced test)) (tree suite) (tree (unplaced suite)) (tree rest) (tree (unplaced rest))
    (seen_unplaced test) (seen_unplaced suite) (seen_unplaced rest))
seen_unplaced (G.rest_else else_at colon_at suite) = ap (λ s. Some s) (seen_unplaced suite)
seen_unplaced (G.suite_simple d) = seen_unplaced d
seen_unplaced (G.suite_block newline_at newlines indent_at block dedent_at) = block_same _ _ (tree block) (tree (unplaced block)) (seen_unplaced block)
seen_unplaced (G.suite_open newline_at newlines indent_at block) = block_same _ _ (tree block) (tree (unplaced block)) (seen_unplaced block)
seen_unplaced G.newlines_none = refl
seen_unplaced (G.newlines_more newlines newline_at) = refl
seen_unplaced (G.block_first newlines stmt) = ap (λ s. s ∷ []) (seen_unplaced stmt)
seen_unplaced (G.block_newline block newline_at) = seen_unplaced block
seen_unplaced (G.block_stmt block stmt) = snoc_same (λ x. unspanned_statement x) (tree block) (tree (unplaced block)) _ _ (seen_unplaced block)
    (seen_unplaced stmt)
seen_unplaced G.return_type_none = refl
seen_unplaced (G.return_type_note arrow_at note) = λ i. t.typed nowhere (seen_unplaced note i) tt
seen_unplaced (G.def_param_slash slash_at) = refl
seen_unplaced (G.def_param_star star_at) = refl
seen_unplaced (G.def_param_args star_at name name_at annotation) = λ i. t.Args nowhere (record { text = name; span = nowhere }) tt (seen_unplaced annotation i)
seen_unplaced (G.def_param_kwargs stars_at name name_at annotation) =
    λ i. t.KwArgs nowhere (record { text = name; span = nowhere }) tt (seen_unplaced annotation i)
seen_unplaced (G.def_param_name name name_at annotation) =
    λ i. t.Normal nowhere (record { text = name; span = nowhere }) tt (seen_unplaced annotation i) t.absent
seen_unplaced (G.def_param_default name name_at annotation equal_at value) =
    λ i. t.Normal nowhere (record { text = name; span = nowhere }) tt (seen_unplaced annotation i) (t.present (seen_unplaced value i))
seen_unplaced (G.simple_line smalls newline_at) = block_same _ _ (tree smalls) (tree (unplaced smalls)) (seen_unplaced smalls)
seen_unplaced (G.simple_semicolon smalls semicolon_at newline_at) = block_same _ _ (tree smalls) (tree (unplaced smalls)) (seen_unplaced smalls)
seen_unplaced (G.smalls_one d) = ap (λ s. s ∷ []) (seen_unplaced d)
seen_unplaced (G.smalls_more smalls semicolon_at small) =
    snoc_same (λ x. unspanned_statement x) (tree smalls) (tree (unplaced smalls)) _ _ (seen_unplaced smalls) (seen_unplaced small)
seen_unplaced (G.small_return return_at) = refl
seen_unplaced (G.small_return_value return_at value) = λ i. t.statement nowhere (t.Return (Some (seen_unplaced value i)))
seen_unplaced (G.small_break s) = refl
seen_unplaced (G.small_continue s) = refl
seen_unplaced (G.small_pass s) = refl
seen_unplaced (G.small_load load_at opening_at file file_at loaded closing_at) =
    λ i. t.statement nowhere (t.Load (record { text = file; span = nowhere }) (seen_unplaced loaded i) tt)
seen_unplaced (G.small_test d) = λ i. t.statement nowhere (t.Evaluate (seen_unplaced d i))
seen_unplaced (G.small_assign left annotation sign sign_at right) =
    assigned_same nowhere nowhere (tree annotation) (tree (unplaced annotation)) (assign_operator sign) (tree right) (tree (unplaced right)) _ _
    (seen_unplaced annotation) (seen_unplaced right) (target_same (tree left) (tree (unplaced left)) (seen_unplaced left))
seen_unplaced (G.list_plain d) = one_same _ _ (tree d) (tree (unplaced d)) (seen_unplaced d)
seen_unplaced (G.list_comma listed comma_at) = all_same nowhere nowhere (tree listed) (tree (unplaced listed)) (seen_unplaced listed)
seen_unplaced G.annotation_none = refl
seen_unplaced (G.annotation_note colon_at note) = λ i. t.typed nowhere (seen_unplaced note i) tt
seen_unplaced (G.note_test d) = seen_unplaced d
seen_unplaced G.symbols_none = refl
seen_unplaced (G.symbols_list comma_at loaded) = loads_same (tree loaded) (tree (unplaced loaded)) _ _ (seen_unplaced loaded)
seen_unplaced (G.sym_same name name_at) = refl
seen_unplaced (G.sym_other name name_at equal_at their their_at) = refl
seen_unplaced (G.sym_alone name name_at) = refl
seen_unplaced (G.test_or d) = seen_unplaced d
seen_unplaced (G.test_if value if_at test else_at other) =
    λ i. t.expression nowhere (t.If (seen_unplaced test i) (seen_unplaced value i) (seen_unplaced other i))
seen_unplaced (G.test_lambda lambda_at params colon_at body) =
    λ i. t.expression nowhere (t.Lambda (parameters_same (tree params) (tree (unplaced params)) (seen_unplaced params) i) (seen_unplaced body i) tt)
seen_unplaced (G.left_one is_operand operand) = operand_seen is_operand (tree operand) (tree (unplaced operand)) (seen_unplaced operand)
seen_unplaced (G.left_more is_operand left sign sign_at right) =
    λ i. t.expression nowhere (t.Op (seen_unplaced left i) (operator_of sign)
    (operand_seen is_operand (tree right) (tree (unplaced right)) (seen_unplaced right) i))
seen_unplaced (G.not_not not_at operand) = λ i. t.expression nowhere (t.Not (seen_unplaced operand i))
seen_unplaced (G.not_comp d) = seen_unplaced d
seen_unplaced (G.comp_one d) = seen_unplaced d
seen_unplaced (G.comp_two left sign right) = λ i. t.expression nowhere (t.Op (seen_unplaced left i) (compared_same sign i) (seen_unplaced right i))
seen_unplaced (G.unary_sign sign sign_at operand) = signed_seen sign _ _ (tree operand) (tree (unplaced operand)) (seen_unplaced operand)
seen_unplaced (G.unary_primary d) = seen_unplaced d
seen_unplaced (G.primary_atom d) = seen_unplaced d
seen_unplaced (G.primary_dot operand dot_at name name_at) = λ i. t.expression nowhere (t.Dot (seen_unplaced operand i) (record { text = name; span = nowhere }))
seen_unplaced (G.primary_subscript operand opening_at sub closing_at) = subscript_seen _ (tree operand) (tree sub)
    ∙ (λ i. subscripted nowhere (seen_unplaced operand i) (seen_unplaced sub i)) ∙ sym (subscript_seen _ (tree (unplaced operand)) (tree (unplaced sub)))
seen_unplaced (G.primary_call operand opening_at passed closing_at) =
    λ i. t.expression nowhere (t.Call (seen_unplaced operand i) (arguments_same (tree passed) (tree (unplaced passed)) (seen_unplaced passed) i))
seen_unplaced (G.sub_one d) = ap (λ e. one_index e) (seen_unplaced d)
seen_unplaced (G.sub_two first comma_at second) = λ i. two_indices (seen_unplaced first i) (seen_unplaced second i)
seen_unplaced (G.sub_slice begin colon_at stop) = λ i. bounds (seen_unplaced begin i) (seen_unplaced stop i) t.absent
seen_unplaced (G.sub_step begin colon_at stop step_at step) = λ i. bounds (seen_unplaced begin i) (seen_unplaced stop i) (seen_unplaced step i)
seen_unplaced G.bound_none = refl
seen_unplaced (G.bound_test d) = ap (λ e. t.present e) (seen_unplaced d)
seen_unplaced (G.arg_test d) = λ i. t.Positional nowhere (seen_unplaced d i)
seen_unplaced (G.arg_named name name_at equal_at value) = λ i. t.Named nowhere (record { text = name; span = nowhere }) (seen_unplaced value i)
seen_unplaced (G.arg_star star_at value) = λ i. t.Star nowhere (seen_unplaced value i)
seen_unplaced (G.arg_stars stars_at value) = λ i. t.StarStar nowhere (seen_unplaced value i)
seen_unplaced (G.entry key colon_at value) = λ i. ((seen_unplaced key i), (seen_unplaced value i))
seen_unplaced (G.lambda_param_slash slash_at) = refl
seen_unplaced (G.lambda_param_star star_at) = refl
seen_unplaced (G.lambda_param_args star_at name name_at) = refl
seen_unplaced (G.lambda_param_kwargs stars_at name name_at) = refl
seen_unplaced (G.lambda_param_name name name_at) = refl
seen_unplaced (G.lambda_param_default name name_at equal_at value) =
    λ i. t.Normal nowhere (record { text = name; span = nowhere }) tt t.no_type (t.present (seen_unplaced value i))
seen_unplaced (G.atom_name name name_at) = refl
seen_unplaced (G.atom_int n s) = refl
seen_unplaced (G.atom_float text s) = refl
seen_unplaced (G.atom_string text s) = refl
seen_unplaced (G.atom_bytes text s) = refl
seen_unplaced (G.atom_ellipsis s) = refl
seen_unplaced (G.atom_round opening_at inside closing_at) = grouped_same _ _ inside (tree inside) (tree (unplaced inside)) (seen_unplaced inside)
seen_unplaced (G.atom_square opening_at inside closing_at) =
    λ i. t.expression nowhere (t.List (expressions_same (tree inside) (tree (unplaced inside)) (seen_unplaced inside) i))
seen_unplaced (G.atom_curly opening_at inside closing_at) =
    λ i. t.expression nowhere (t.Dict (pairs_same (tree inside) (tree (unplaced inside)) (seen_unplaced inside) i))
seen_unplaced (G.atom_list_comprehension opening_at element clauses closing_at) =
    λ i. t.expression nowhere (t.ListComprehension (seen_unplaced element i) (seen_unplaced clauses i).0
    (clauses_same (tree clauses).1 (tree (unplaced clauses)).1 (ap (λ cs. cs.1) (seen_unplaced clauses)) i))
seen_unplaced (G.atom_dict_comprehension opening_at pair clauses closing_at) =
    λ i. t.expression nowhere (t.DictComprehension (seen_unplaced pair i).0 (seen_unplaced pair i).1 (seen_unplaced clauses i).0
    (clauses_same (tree clauses).1 (tree (unplaced clauses)).1 (ap (λ cs. cs.1) (seen_unplaced clauses)) i))
seen_unplaced (G.atom_f_string quote opening_at parts closing_at) =
    λ i. t.expression nowhere (t.FString nowhere (record { text = (seen_unplaced parts i).text; span = nowhere })
    (expressions_same (tree parts).values (tree (unplaced parts)).values (ap (λ f. f.values) (seen_unplaced parts)) i))
seen_unplaced (G.vars_plain d) = one_same _ _ (tree d) (tree (unplaced d)) (seen_unplaced d)
seen_unplaced (G.vars_comma listed comma_at) = all_same nowhere nowhere (tree listed) (tree (unplaced listed)) (seen_unplaced listed)
seen_unplaced (G.for_clause for_at vars in_at source) =
    λ i. t.for_in (target_same (tree vars) (tree (unplaced vars)) (seen_unplaced vars) i) (seen_unplaced source i)
seen_unplaced (G.clauses_one d) = λ i. ((seen_unplaced d i), [])
seen_unplaced (G.clauses_for clauses clause) = λ i. (
  (seen_unplaced clauses i).0,
  snoc_same (λ x. unspanned_clause x) (tree clauses).1 (tree (unplaced clauses)).1 (t.for_clause (tree clause))
      (t.for_clause (tree (unplaced clause))) (ap (λ cs. cs.1) (seen_unplaced clauses)) (λ j. t.for_clause (seen_unplaced clause j)) i,
)
seen_unplaced (G.clauses_if clauses if_at test) = λ i. (
  (seen_unplaced clauses i).0,
  snoc_same (λ x. unspanned_clause x) (tree clauses).1 (tree (unplaced clauses)).1 (t.if_clause (tree test))
      (t.if_clause (tree (unplaced test))) (ap (λ cs. cs.1) (seen_unplaced clauses)) (λ j. t.if_clause (seen_unplaced test j)) i,
)
seen_unplaced G.parts_none = refl
seen_unplaced (G.parts_text parts text text_at) = λ i. record { text = (seen_unplaced parts i).text ++ doubled text; values = (seen_unplaced parts i).values }
seen_unplaced (G.parts_replacement parts opening_at value conversion closing_at) =
    λ i. record {
      text = (seen_unplaced parts i).text ++ placeholder (seen_unplaced conversion i);
      values =
          snoc_same (λ x. unspanned x) (tree parts).values (tree (unplaced parts)).values _ _ (ap (λ f. f.values) (seen_unplaced parts))
          (seen_unplaced value) i;
    }
seen_unplaced G.conversion_default = refl
seen_unplaced (G.conversion_absent bang_at) = refl
seen_unplaced (G.conversion_name bang_at name name_at) = refl
seen_unplaced G.optional_list_none = refl
seen_unplaced (G.optional_list_plain d) = seen_unplaced d
seen_unplaced (G.optional_list_comma listed comma_at) = seen_unplaced listed
seen_unplaced (G.comma_list_one is_element element) = λ i. element_seen is_element (tree element) (tree (unplaced element)) (seen_unplaced element) i ∷ []
seen_unplaced (G.comma_list_more is_element listed comma_at element) =
    snoc_same (λ x. seen_item _ x) (tree listed) (tree (unplaced listed)) _ _ (seen_unplaced listed)
    (element_seen is_element (tree element) (tree (unplaced element)) (seen_unplaced element))
