-- The types in a module's derivation are those of its tree.
use Rattle.std.proofs.Common.{◌≡◌, List as Seq, [], ◌∷◌, ◌++◌, map, flat_map, Bool, true, false, if◌then◌else◌, Option, Some, None, Result, Ok, Err, refl}
use Rattle.std.proofs.Common.{sym, ap, ◌∙◌}
use Rattle.std.specs.Bool.{⊤}
use Rattle.std.specs.Prelude.{is_ok}
use Rattle.std.proofs.lemmas.Grind.{flat_map-append}
use Rattle.std.proofs.lemmas.List.{append-nil, map-append}
use Rattle.starlark_lexer.specs.Tokens.{Span, nowhere}
use Rattle.starlark_tree.specs.Ast as t
use Rattle.starlark_tree.specs.Ast.{no_payload, Expression, MaybeType, Parameter, Statement, Target, parameter_list, parameters_of, statements_of}
use Rattle.starlark_tree.specs.declared.ast.operator.AssignOp.{AssignOp}
use Rattle.starlark_spec.specs.Faults.{Fault, grammar_fault}
use Rattle.starlark_spec.specs.declared.error.GrammarError.TheVariants.{InvalidModifyLhs}
use Rattle.starlark_spec.specs.Targets.{and_then, target}
use Rattle.starlark_spec.specs.Assignments.{assigned, assigned_target, is_sequence, refuse_annotation}
use Rattle.starlark_spec.specs.Grammar.{Nonterminal, ElementKind, ElementOf, PrecedenceLevel, OperandOf, Derivation, CompSign, Node, node, RightSide}
use Rattle.starlark_spec.specs.Grammar.{right_side, sign_side}
use Rattle.starlark_spec.specs.Grammar as G
use Rattle.starlark_spec.specs.Grammar.RightSide.{◌⨾◌}
use Rattle.starlark_spec.specs.Trees.{TreeOf, ElementTree, element_tree, one_or_block, if_form, target_of, assign_operator, derivation_span, module_span}
use Rattle.starlark_spec.specs.Trees.{module_tree, tree}
use Rattle.starlark_source.specs.Unspanned.{unspanned, unspanned_type, unspanned_parameter, unspanned_parameters, unspanned_statement}
use Rattle.starlark_source.specs.Unspanned.{unspanned_statements}
use Rattle.starlark_source.proofs.ReadBack.Writing.{node_keeps, IsFine}
use Rattle.starlark_source.proofs.RoundTrip.EntryFaults.{parameters_listed}

-- ---- the types in a derivation, and in a tree

abbrev pub note_of : Node → Seq (Expression no_payload)
note_of (node (G.note_test d)) = tree d ∷ []
note_of _ = []

abbrev pub notes : RightSide → Seq (Expression no_payload)
notes G.nothing = []
notes (G.word x s) = []
notes (a ⨾ b) = notes a ++ notes b
notes (G.marked x a) = note_of x ++ notes a
notes G.tokens_end = []

abbrev type_notes : MaybeType no_payload → Seq (Expression no_payload)
type_notes t.no_type = []
type_notes (t.typed s e p) = e ∷ []

abbrev parameter_notes : Parameter no_payload → Seq (Expression no_payload)
parameter_notes (t.Normal s w p ty v) = type_notes ty
parameter_notes (t.Args s w p ty) = type_notes ty
parameter_notes (t.KwArgs s w p ty) = type_notes ty
parameter_notes _ = []

abbrev mutual
  pub statement_notes : Statement no_payload → Seq (Expression no_payload)
  statement_notes (t.statement s (t.Assign x ty e)) = type_notes ty
  statement_notes (t.statement s (t.Block ss)) = all_notes ss
  statement_notes (t.statement s (t.IfThen e body)) = statement_notes body
  statement_notes (t.statement s (t.IfElse e body other)) = statement_notes body ++ statement_notes other
  statement_notes (t.statement s (t.For x e body)) = statement_notes body
  statement_notes (t.statement s (t.Def w p ps ty body q)) = flat_map (λ p. parameter_notes p) (parameter_list ps) ++ (type_notes ty ++ statement_notes body)
  statement_notes (t.statement s _) = []

  all_notes : t.Statements no_payload → Seq (Expression no_payload)
  all_notes t.no_statements = []
  all_notes (t.statements s ss) = statement_notes s ++ all_notes ss

abbrev rest_notes : Option (Statement no_payload) → Seq (Expression no_payload)
rest_notes None = []
rest_notes (Some s) = statement_notes s

abbrev item_notes : (k : ElementKind) → Seq (ElementTree k) → Seq (Expression no_payload)
item_notes G.def_parameters ps = flat_map (λ p. parameter_notes p) ps
item_notes _ xs = []

abbrev noted : (n : Nonterminal) → TreeOf n → Seq (Expression no_payload)
noted G.Module ss = flat_map (λ s. statement_notes s) ss
noted G.Stmt s = statement_notes s
noted G.For s = statement_notes s
noted G.Rest s = rest_notes s
noted G.Suite s = statement_notes s
noted G.Block ss = flat_map (λ s. statement_notes s) ss
noted G.ReturnType ty = type_notes ty
noted G.DefParam p = parameter_notes p
noted G.Simple s = statement_notes s
noted G.Smalls ss = flat_map (λ s. statement_notes s) ss
noted G.Small s = statement_notes s
noted G.Annotation ty = type_notes ty
noted G.Note e = e ∷ []
noted (G.OptionalList k) xs = item_notes k xs
noted (G.CommaList k) xs = item_notes k xs
noted _ x = []

-- ---- how they come together

snoc : {X A : Type 0} (f : X → Seq A) (xs : Seq X) (x : X) → flat_map f (xs ++ x ∷ []) ≡ flat_map f xs ++ f x
snoc f xs x = flat_map-append f xs (x ∷ []) ∙ ap (λ ys. flat_map f xs ++ ys) (append-nil (f x))

parameters_back : (ps : Seq (Parameter no_payload)) → parameter_list (parameters_of ps) ≡ ps
parameters_back [] = refl
parameters_back (p ∷ ps) = ap (λ qs. p ∷ qs) (parameters_back ps)

all_listed : (ss : Seq (Statement no_payload)) → all_notes (statements_of ss) ≡ flat_map (λ s. statement_notes s) ss
all_listed [] = refl
all_listed (s ∷ ss) = ap (λ xs. statement_notes s ++ xs) (all_listed ss)

one_or_all : (span : Span) (ss : Seq (Statement no_payload)) → statement_notes (one_or_block span ss) ≡ flat_map (λ s. statement_notes s) ss
one_or_all span [] = refl
one_or_all span (s ∷ []) = sym (append-nil (statement_notes s))
one_or_all span (s ∷ u ∷ ss) = all_listed (s ∷ u ∷ ss)

if_notes : (span : Span) (e : Expression no_payload) (body : Statement no_payload) (rest : Option (Statement no_payload))
    → statement_notes (t.statement span (if_form e body rest)) ≡ statement_notes body ++ rest_notes rest
if_notes span e body None = sym (append-nil (statement_notes body))
if_notes span e body (Some other) = refl

element_noted : {k : ElementKind} {n : Nonterminal} (u : ElementOf k n) (x : TreeOf n) → item_notes k (element_tree u x ∷ []) ≡ noted n x
element_noted G.of_elements x = refl
element_noted G.of_arguments x = refl
element_noted G.of_entries x = refl
element_noted G.of_lambda_parameters x = refl
element_noted G.of_variables x = refl
element_noted G.of_symbols x = refl
element_noted G.of_def_parameters x = append-nil (parameter_notes x)

operand_noted : {k : PrecedenceLevel} {n : Nonterminal} (u : OperandOf k n) (x : TreeOf n) → noted n x ≡ []
operand_noted G.of_or x = refl
operand_noted G.of_and x = refl
operand_noted G.of_bit_or x = refl
operand_noted G.of_xor x = refl
operand_noted G.of_bit_and x = refl
operand_noted G.of_shift x = refl
operand_noted G.of_add x = refl
operand_noted G.of_multiply x = refl

more_noted : {k : ElementKind} {n : Nonterminal} (u : ElementOf k n) (xs : Seq (ElementTree k)) (x : TreeOf n) → item_notes k (xs ++ element_tree u x ∷ [])
    ≡ item_notes k xs ++ noted n x
more_noted G.of_elements xs x = refl
more_noted G.of_arguments xs x = refl
more_noted G.of_entries xs x = refl
more_noted G.of_lambda_parameters xs x = refl
more_noted G.of_variables xs x = refl
more_noted G.of_symbols xs x = refl
more_noted G.of_def_parameters xs x = snoc (λ p. parameter_notes p) xs x

none_noted : (k : ElementKind) → item_notes k [] ≡ []
none_noted G.def_parameters = refl
none_noted other = refl

-- what is modified in place has no type
none_modified : (r : Result (Target no_payload) Fault) (ty : MaybeType no_payload) (o : AssignOp) → is_ok (and_then r (λ x. refuse_annotation x ty (Some o)))
    ≡ true → type_notes ty ≡ []
none_modified r t.no_type o h = refl
none_modified (Ok x) (t.typed s e p) o h = absurd (cc)
none_modified (Err f) (t.typed s e p) o h = absurd (cc)

none_refused : (b : Bool) (f : Fault) (e : Expression no_payload) (ty : MaybeType no_payload) (o : AssignOp)
    → is_ok (and_then (if b then Err f else Ok e) (λ e. and_then (target e) (λ x. refuse_annotation x ty (Some o)))) ≡ true → type_notes ty ≡ []
none_refused true f e ty o h = absurd (cc)
none_refused false f e ty o h = none_modified (target e) ty o h

assigned_notes : (span : Span) (left : Expression no_payload) (ty : MaybeType no_payload) (op : Option AssignOp) (value : Expression no_payload)
    (x : Target no_payload)
    → is_ok (assigned_target left ty op) ≡ true → type_notes ty ++ [] ≡ statement_notes (t.statement span (assigned ty op value x))
assigned_notes span left ty None value x h = append-nil (type_notes ty)
assigned_notes span (t.expression s shape) ty (Some o) value x h = append-nil (type_notes ty)
    ∙ none_refused (is_sequence shape) (grammar_fault InvalidModifyLhs s) (t.expression s shape) ty o h

-- ---- derivations whose nodes keep the rules

abbrev pub Kept : RightSide → Type 0
Kept G.nothing = ⊤
Kept (G.word x s) = ⊤
Kept (a ⨾ b) = Kept a × Kept b
Kept (G.marked x a) = (node_keeps x ≡ true) × Kept a
Kept G.tokens_end = ⊤

pub kept_so : (a : RightSide) → IsFine a → Kept a
kept_so G.nothing h = tt
kept_so (G.word x s) h = tt
kept_so (a ⨾ b) h = (kept_so a h.0, kept_so b h.1)
kept_so (G.marked x a) h = (h.0, kept_so a h.1)
kept_so G.tokens_end h = tt

sign_noted : (sign : CompSign) → notes (sign_side sign) ≡ []
sign_noted (G.comparison c s) = refl
sign_noted (G.not_in a b) = refl

notes_are : {n : Nonterminal} (d : Derivation n) → Kept (right_side d) → notes (right_side d) ≡ noted n (tree d)
notes_are G.module_none h = refl
notes_are (G.module_newline before newline_at) h = append-nil _ ∙ notes_are before h.0
notes_are (G.module_stmt before stmt) h = (λ i. (notes_are before h.0) i ++ (notes_are stmt h.1) i)
    ∙ sym (snoc (λ s. statement_notes s) (tree before) (tree stmt))
notes_are (G.stmt_simple d) h = λ i. (notes_are d h) i
notes_are (G.stmt_def def_at name name_at opening_at params closing_at return_type colon_at suite) h =
    (λ i. (notes_are params h.1.1.1.0) i ++ ((notes_are return_type h.1.1.1.1.1.0) i ++ (notes_are suite h.1.1.1.1.1.1.1) i))
    ∙ ap (λ ps. flat_map (λ p. parameter_notes p) ps ++ (type_notes (tree return_type) ++ statement_notes (tree suite))) (sym (parameters_back (tree params)))
notes_are (G.stmt_if if_at test colon_at suite rest) h = (λ i. (notes_are test h.1.0) i ++ ((notes_are suite h.1.1.1.0) i ++ (notes_are rest h.1.1.1.1) i))
    ∙ sym (if_notes (derivation_span (G.stmt_if if_at test colon_at suite rest)) (tree test) (tree suite) (tree rest))
notes_are (G.stmt_for d) h = λ i. (notes_are d h) i
notes_are (G.for_loop for_at vars in_at source colon_at suite) h =
    λ i. (notes_are vars h.1.1.0) i ++ ((notes_are source h.1.1.1.1.0) i ++ (notes_are suite h.1.1.1.1.1.1) i)
notes_are G.rest_none h = refl
notes_are (G.rest_elif elif_at test colon_at suite rest) h = (λ i. (notes_are test h.1.0) i ++ ((notes_are suite h.1.1.1.0) i ++ (notes_are rest h.1.1.1.1) i))
    ∙ sym (if_notes (derivation_span (G.rest_elif elif_at test colon_at suite rest)) (tree test) (tree suite) (tree rest))
notes_are (G.rest_else else_at colon_at suite) h = λ i. (notes_are suite h.1.1) i
notes_are (G.suite_simple d) h = λ i. (notes_are d h) i
notes_are (G.suite_block newline_at newlines indent_at block dedent_at) h = (λ i. (notes_are newlines h.1.0) i ++ ((notes_are block h.1.1.1.0) i ++ []))
    ∙ append-nil _ ∙ sym (one_or_all _ (tree block))
notes_are (G.suite_open newline_at newlines indent_at block) h = (λ i. (notes_are newlines h.1.0) i ++ ((notes_are block h.1.1.1.0) i ++ [])) ∙ append-nil _
    ∙ sym (one_or_all _ (tree block))
notes_are G.newlines_none h = refl
notes_are (G.newlines_more newlines newline_at) h = λ i. (notes_are newlines h.0) i ++ []
notes_are (G.block_first newlines stmt) h = (λ i. (notes_are newlines h.0) i ++ (notes_are stmt h.1) i) ∙ sym (append-nil _)
notes_are (G.block_newline block newline_at) h = append-nil _ ∙ notes_are block h.0
notes_are (G.block_stmt block stmt) h = (λ i. (notes_are block h.0) i ++ (notes_are stmt h.1) i) ∙ sym (snoc (λ s. statement_notes s) (tree block) (tree stmt))
notes_are G.return_type_none h = refl
notes_are (G.return_type_note arrow_at note) h = λ i. (notes_are note h.1) i
notes_are (G.def_param_slash slash_at) h = refl
notes_are (G.def_param_star star_at) h = refl
notes_are (G.def_param_args star_at name name_at annotation) h = λ i. (notes_are annotation h.1.1) i
notes_are (G.def_param_kwargs stars_at name name_at annotation) h = λ i. (notes_are annotation h.1.1) i
notes_are (G.def_param_name name name_at annotation) h = λ i. (notes_are annotation h.1) i
notes_are (G.def_param_default name name_at annotation equal_at value) h = (λ i. (notes_are annotation h.1.0) i ++ (notes_are value h.1.1.1) i) ∙ append-nil _
notes_are (G.simple_line smalls newline_at) h = append-nil _ ∙ notes_are smalls h.0 ∙ sym (one_or_all _ (tree smalls))
notes_are (G.simple_semicolon smalls semicolon_at newline_at) h = append-nil _ ∙ notes_are smalls h.0 ∙ sym (one_or_all _ (tree smalls))
notes_are (G.smalls_one d) h = notes_are d h ∙ sym (append-nil _)
notes_are (G.smalls_more smalls semicolon_at small) h = (λ i. (notes_are smalls h.0) i ++ (notes_are small h.1.1) i)
    ∙ sym (snoc (λ s. statement_notes s) (tree smalls) (tree small))
notes_are (G.small_return return_at) h = refl
notes_are (G.small_return_value return_at value) h = λ i. (notes_are value h.1) i
notes_are (G.small_break s) h = refl
notes_are (G.small_continue s) h = refl
notes_are (G.small_pass s) h = refl
notes_are (G.small_load load_at opening_at file file_at loaded closing_at) h = λ i. (notes_are loaded h.1.1.1.0) i ++ []
notes_are (G.small_test d) h = λ i. (notes_are d h) i
notes_are (G.small_assign left annotation sign sign_at right) h =
    (λ i. (notes_are left h.1.0) i ++ ((notes_are annotation h.1.1.0) i ++ (notes_are right h.1.1.1.1) i))
    ∙ assigned_notes (derivation_span (G.small_assign left annotation sign sign_at right)) (tree left) (tree annotation) (assign_operator sign) (tree right)
    (target_of (tree left)) h.0
notes_are (G.list_plain d) h = λ i. (notes_are d h) i
notes_are (G.list_comma listed comma_at) h = λ i. (notes_are listed h.1.0) i ++ []
notes_are G.annotation_none h = refl
notes_are (G.annotation_note colon_at note) h = λ i. (notes_are note h.1) i
notes_are (G.note_test d) h = λ i. tree d ∷ (notes_are d h.1) i
notes_are G.symbols_none h = refl
notes_are (G.symbols_list comma_at loaded) h = λ i. (notes_are loaded h.1) i
notes_are (G.sym_same name name_at) h = refl
notes_are (G.sym_other name name_at equal_at their their_at) h = refl
notes_are (G.sym_alone name name_at) h = refl
notes_are (G.test_or d) h = λ i. (notes_are d h) i
notes_are (G.test_if value if_at test else_at other) h = λ i. (notes_are value h.0) i ++ ((notes_are test h.1.1.0) i ++ (notes_are other h.1.1.1.1) i)
notes_are (G.test_lambda lambda_at params colon_at body) h = λ i. (notes_are params h.1.0) i ++ (notes_are body h.1.1.1) i
notes_are (G.left_one is_operand operand) h = notes_are operand h ∙ operand_noted is_operand (tree operand)
notes_are (G.left_more is_operand left sign sign_at right) h = (λ i. (notes_are left h.0) i ++ (notes_are right h.1.1) i)
    ∙ operand_noted is_operand (tree right)
notes_are (G.not_not not_at operand) h = λ i. (notes_are operand h.1) i
notes_are (G.not_comp d) h = λ i. (notes_are d h) i
notes_are (G.comp_one d) h = λ i. (notes_are d h) i
notes_are (G.comp_two left sign right) h = λ i. (notes_are left h.0) i ++ (sign_noted sign i ++ (notes_are right h.1.1) i)
notes_are (G.unary_sign sign sign_at operand) h = λ i. (notes_are operand h.1) i
notes_are (G.unary_primary d) h = λ i. (notes_are d h) i
notes_are (G.primary_atom d) h = λ i. (notes_are d h) i
notes_are (G.primary_dot operand dot_at name name_at) h = λ i. (notes_are operand h.0) i ++ []
notes_are (G.primary_subscript operand opening_at sub closing_at) h = λ i. (notes_are operand h.0) i ++ ((notes_are sub h.1.1.0) i ++ [])
notes_are (G.primary_call operand opening_at passed closing_at) h = λ i. (notes_are operand h.0) i ++ ((notes_are passed h.1.1.0) i ++ [])
notes_are (G.sub_one d) h = λ i. (notes_are d h) i
notes_are (G.sub_two first comma_at second) h = λ i. (notes_are first h.0) i ++ (notes_are second h.1.1) i
notes_are (G.sub_slice begin colon_at stop) h = λ i. (notes_are begin h.0) i ++ (notes_are stop h.1.1) i
notes_are (G.sub_step begin colon_at stop step_at step) h = λ i. (notes_are begin h.0) i ++ ((notes_are stop h.1.1.0) i ++ (notes_are step h.1.1.1.1) i)
notes_are G.bound_none h = refl
notes_are (G.bound_test d) h = λ i. (notes_are d h) i
notes_are (G.arg_test d) h = λ i. (notes_are d h) i
notes_are (G.arg_named name name_at equal_at value) h = λ i. (notes_are value h.1.1) i
notes_are (G.arg_star star_at value) h = λ i. (notes_are value h.1) i
notes_are (G.arg_stars stars_at value) h = λ i. (notes_are value h.1) i
notes_are (G.entry key colon_at value) h = λ i. (notes_are key h.0) i ++ (notes_are value h.1.1) i
notes_are (G.lambda_param_slash slash_at) h = refl
notes_are (G.lambda_param_star star_at) h = refl
notes_are (G.lambda_param_args star_at name name_at) h = refl
notes_are (G.lambda_param_kwargs stars_at name name_at) h = refl
notes_are (G.lambda_param_name name name_at) h = refl
notes_are (G.lambda_param_default name name_at equal_at value) h = λ i. (notes_are value h.1.1) i
notes_are (G.atom_name name name_at) h = refl
notes_are (G.atom_int n s) h = refl
notes_are (G.atom_float text s) h = refl
notes_are (G.atom_string text s) h = refl
notes_are (G.atom_bytes text s) h = refl
notes_are (G.atom_ellipsis s) h = refl
notes_are (G.atom_round opening_at inside closing_at) h = λ i. (notes_are inside h.1.0) i ++ []
notes_are (G.atom_square opening_at inside closing_at) h = λ i. (notes_are inside h.1.0) i ++ []
notes_are (G.atom_curly opening_at inside closing_at) h = λ i. (notes_are inside h.1.0) i ++ []
notes_are (G.atom_list_comprehension opening_at element clauses closing_at) h = λ i. (notes_are element h.1.0) i ++ ((notes_are clauses h.1.1.0) i ++ [])
notes_are (G.atom_dict_comprehension opening_at pair clauses closing_at) h = λ i. (notes_are pair h.1.0) i ++ ((notes_are clauses h.1.1.0) i ++ [])
notes_are (G.atom_f_string quote opening_at parts closing_at) h = λ i. (notes_are parts h.1.0) i ++ []
notes_are (G.vars_plain d) h = λ i. (notes_are d h) i
notes_are (G.vars_comma listed comma_at) h = λ i. (notes_are listed h.1.0) i ++ []
notes_are (G.for_clause for_at vars in_at source) h = λ i. (notes_are vars h.1.1.0) i ++ (notes_are source h.1.1.1.1) i
notes_are (G.clauses_one d) h = λ i. (notes_are d h) i
notes_are (G.clauses_for clauses clause) h = λ i. (notes_are clauses h.0) i ++ (notes_are clause h.1) i
notes_are (G.clauses_if clauses if_at test) h = λ i. (notes_are clauses h.0) i ++ (notes_are test h.1.1) i
notes_are G.parts_none h = refl
notes_are (G.parts_text parts text text_at) h = λ i. (notes_are parts h.0) i ++ []
notes_are (G.parts_replacement parts opening_at value conversion closing_at) h =
    λ i. (notes_are parts h.0) i ++ ((notes_are value h.1.1.0) i ++ ((notes_are conversion h.1.1.1.0) i ++ []))
notes_are G.conversion_default h = refl
notes_are (G.conversion_absent bang_at) h = refl
notes_are (G.conversion_name bang_at name name_at) h = refl
notes_are G.optional_list_none h = sym (none_noted _)
notes_are (G.optional_list_plain d) h = λ i. (notes_are d h) i
notes_are (G.optional_list_comma listed comma_at) h = append-nil _ ∙ notes_are listed h.0
notes_are (G.comma_list_one is_element element) h = notes_are element h ∙ sym (element_noted is_element (tree element))
notes_are (G.comma_list_more is_element listed comma_at element) h = (λ i. (notes_are listed h.0) i ++ (notes_are element h.1.1) i)
    ∙ sym (more_noted is_element (tree listed) (tree element))

pub module_notes : (d : Derivation G.Module) → Kept (right_side d) → notes (right_side d) ≡ statement_notes (module_tree d)
module_notes d h = notes_are d h ∙ sym (one_or_all (module_span d) (tree d))

-- ---- without spans

abbrev pub all_unspanned : Seq (Expression no_payload) → Seq (Expression no_payload)
all_unspanned es = map (λ e. unspanned e) es

joined : (a b : Seq (Expression no_payload)) {x y : Seq (Expression no_payload)} → x ≡ all_unspanned a → y ≡ all_unspanned b → x ++ y ≡ all_unspanned (a ++ b)
joined a b p q = (λ i. p i ++ q i) ∙ sym (map-append (λ e. unspanned e) a b)

type_placed : (ty : MaybeType no_payload) → type_notes (unspanned_type ty) ≡ all_unspanned (type_notes ty)
type_placed t.no_type = refl
type_placed (t.typed s e p) = refl

parameter_placed : (p : Parameter no_payload) → parameter_notes (unspanned_parameter p) ≡ all_unspanned (parameter_notes p)
parameter_placed (t.Slash s) = refl
parameter_placed (t.Normal s w p ty v) = type_placed ty
parameter_placed (t.NoArgs s) = refl
parameter_placed (t.Args s w p ty) = type_placed ty
parameter_placed (t.KwArgs s w p ty) = type_placed ty

parameters_placed : (ps : Seq (Parameter no_payload)) → flat_map (λ p. parameter_notes p) (map unspanned_parameter ps)
    ≡ all_unspanned (flat_map (λ p. parameter_notes p) ps)
parameters_placed [] = refl
parameters_placed (p ∷ ps) = joined (parameter_notes p) (flat_map (λ p. parameter_notes p) ps) (parameter_placed p) (parameters_placed ps)

mutual
  pub notes_placed : (s : Statement no_payload) → statement_notes (unspanned_statement s) ≡ all_unspanned (statement_notes s)
  notes_placed (t.statement s t.Break) = refl
  notes_placed (t.statement s t.Continue) = refl
  notes_placed (t.statement s t.Pass) = refl
  notes_placed (t.statement s (t.Return e)) = refl
  notes_placed (t.statement s (t.Evaluate e)) = refl
  notes_placed (t.statement s (t.Assign x ty e)) = type_placed ty
  notes_placed (t.statement s (t.AssignModify x o e)) = refl
  notes_placed (t.statement s (t.Block ss)) = all_placed ss
  notes_placed (t.statement s (t.IfThen e body)) = notes_placed body
  notes_placed (t.statement s (t.IfElse e body other)) = joined (statement_notes body) (statement_notes other) (notes_placed body) (notes_placed other)
  notes_placed (t.statement s (t.For x e body)) = notes_placed body
  notes_placed (t.statement s (t.Def w p ps ty body q)) =
      joined (flat_map (λ p. parameter_notes p) (parameter_list ps)) (type_notes ty ++ statement_notes body)
      (ap (λ qs. flat_map (λ p. parameter_notes p) qs) (parameters_listed ps) ∙ parameters_placed (parameter_list ps))
      (joined (type_notes ty) (statement_notes body) (type_placed ty) (notes_placed body))
  notes_placed (t.statement s (t.Load w names p)) = refl

  all_placed : (ss : t.Statements no_payload) → all_notes (unspanned_statements ss) ≡ all_unspanned (all_notes ss)
  all_placed t.no_statements = refl
  all_placed (t.statements s ss) = joined (statement_notes s) (all_notes ss) (notes_placed s) (all_placed ss)
