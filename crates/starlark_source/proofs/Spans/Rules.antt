-- Which rules a derivation keeps does not depend on its spans, apart from those of types.
use Rattle.std.proofs.Common.{◌≡◌, Bool, true, false, ◌&&◌, Option, Some, None, Result, Ok, Err, if◌then◌else◌, refl, sym, ap, ◌∙◌}
use Rattle.std.specs.Bool.{⊤}
use Rattle.std.specs.Prelude.{is_ok}
use Rattle.starlark_lexer.specs.Tokens.{nowhere}
use Rattle.starlark_tree.specs.Ast as t
use Rattle.starlark_tree.specs.Ast.{no_payload, Expression, MaybeType, Shape, Target}
use Rattle.starlark_tree.specs.declared.ast.operator.AssignOp.{AssignOp}
use Rattle.starlark_spec.specs.Faults.{Fault, grammar_fault}
use Rattle.starlark_spec.specs.declared.error.GrammarError.TheVariants.{InvalidModifyLhs}
use Rattle.starlark_spec.specs.Targets.{map_ok, and_then, target}
use Rattle.starlark_spec.specs.Assignments.{assigned_target, refuse_annotation, refuse_sequence, is_sequence}
use Rattle.starlark_spec.specs.Grammar.{Nonterminal, Derivation, AssignSign, CompSign, RightSide, right_side, sign_side}
use Rattle.starlark_spec.specs.Grammar as G
use Rattle.starlark_spec.specs.Grammar.RightSide.{◌⨾◌}
use Rattle.starlark_spec.specs.Trees.{assign_operator, tree}
use Rattle.starlark_source.specs.Unspanned.{unspanned, unspanned_shape, unspanned_target, unspanned_type}
use Rattle.starlark_source.proofs.ReadBack.Writing.{IsFine, aimed, node_keeps}
use Rattle.starlark_source.proofs.ReadBack.Targets.{unplaced as without_place, target_unspanned}
use Rattle.starlark_source.proofs.Spans.Moves.{unplaced, unplaced_sign}
use Rattle.starlark_source.proofs.Spans.Trees.{seen_unplaced}

-- ---- a test for it

abbrev fine : RightSide → Bool
fine G.nothing = true
fine (G.word x s) = true
fine (a ⨾ b) = fine a && fine b
fine (G.marked x a) = node_keeps x && fine a
fine G.tokens_end = false

left_true : (a b : Bool) → a && b ≡ true → a ≡ true
left_true true b h = refl
left_true false b h = h

right_true : (a b : Bool) → a && b ≡ true → b ≡ true
right_true true b h = h
right_true false b h = absurd (cc)

is_fine : (a : RightSide) → fine a ≡ true → IsFine a
is_fine G.nothing h = tt
is_fine (G.word x s) h = tt
is_fine (a ⨾ b) h = (is_fine a (left_true (fine a) (fine b) h), is_fine b (right_true (fine a) (fine b) h))
is_fine (G.marked x a) h = (left_true (node_keeps x) (fine a) h, is_fine a (right_true (node_keeps x) (fine a) h))
is_fine G.tokens_end h = absurd (cc)

fine_so : (a : RightSide) → IsFine a → fine a ≡ true
fine_so G.nothing h = refl
fine_so (G.word x s) h = refl
fine_so (a ⨾ b) h = rw (fine_so a h.0, fine_so b h.1) refl
fine_so (G.marked x a) h = rw (h.0, fine_so a h.1) refl
fine_so G.tokens_end h = absurd h

-- ---- targets of assignments

placed_ok : (r : Result (Target no_payload) Fault) → is_ok (without_place (aimed r)) ≡ is_ok r
placed_ok (Ok x) = refl
placed_ok (Err f) = refl

target_placed : (e : Expression no_payload) → is_ok (target (unspanned e)) ≡ is_ok (target e)
target_placed e = ap (λ r. is_ok r) (target_unspanned e) ∙ placed_ok (target e)

target_kept : (v : Derivation G.LoopVars) → is_ok (target (tree (unplaced v))) ≡ is_ok (target (tree v))
target_kept v = sym (target_placed (tree (unplaced v))) ∙ ap (λ e. is_ok (target e)) (sym (seen_unplaced v)) ∙ target_placed (tree v)

type_placed : (x : Target no_payload) (ty : MaybeType no_payload) (op : Option AssignOp)
    → is_ok (refuse_annotation (unspanned_target x) (unspanned_type ty) op) ≡ is_ok (refuse_annotation x ty op)
type_placed x t.no_type op = refl
type_placed x (t.typed s e p) (Some op) = refl
type_placed (t.TupleTarget r xs) (t.typed s e p) None = refl
type_placed (t.IndexTarget r a i) (t.typed s e p) None = refl
type_placed (t.DotTarget r a w) (t.typed s e p) None = refl
type_placed (t.NameTarget r w q) (t.typed s e p) None = refl

then_placed : (r : Result (Target no_payload) Fault) (ty : MaybeType no_payload) (op : Option AssignOp)
    → is_ok (and_then (without_place (aimed r)) (λ x. refuse_annotation x (unspanned_type ty) op)) ≡ is_ok (and_then r (λ x. refuse_annotation x ty op))
then_placed (Ok x) ty op = type_placed x ty op
then_placed (Err f) ty op = refl

aim_placed : (e : Expression no_payload) (ty : MaybeType no_payload) (op : Option AssignOp)
    → is_ok (and_then (target (unspanned e)) (λ x. refuse_annotation x (unspanned_type ty) op)) ≡ is_ok (and_then (target e) (λ x. refuse_annotation x ty op))
aim_placed e ty op = ap (λ r. is_ok (and_then r (λ x. refuse_annotation x (unspanned_type ty) op))) (target_unspanned e) ∙ then_placed (target e) ty op

sequence_placed : (shape : Shape no_payload) → is_sequence (unspanned_shape shape) ≡ is_sequence shape
sequence_placed (t.Tuple es) = refl
sequence_placed (t.List es) = refl
sequence_placed (t.Dot e w) = refl
sequence_placed (t.Call e xs) = refl
sequence_placed (t.Index a i) = refl
sequence_placed (t.Index2 a i j) = refl
sequence_placed (t.Slice a i j k) = refl
sequence_placed (t.Identifier w p) = refl
sequence_placed (t.Lambda ps e p) = refl
sequence_placed (t.Constant l) = refl
sequence_placed (t.Not e) = refl
sequence_placed (t.Minus e) = refl
sequence_placed (t.Plus e) = refl
sequence_placed (t.BitNot e) = refl
sequence_placed (t.Op l o r) = refl
sequence_placed (t.If c v w) = refl
sequence_placed (t.Dict ps) = refl
sequence_placed (t.ListComprehension e x cs) = refl
sequence_placed (t.DictComprehension k v x cs) = refl
sequence_placed (t.FString s w es) = refl

-- what a test chooses
chosen : (b : Bool) (f g : Fault) (r q : Result (Target no_payload) Fault) (next next' : Expression no_payload → Result (Target no_payload) Fault)
    (e e' : Expression no_payload)
    → is_ok (next e) ≡ is_ok (next' e') → is_ok (and_then (if b then Err f else Ok e) next) ≡ is_ok (and_then (if b then Err g else Ok e') next')
chosen true f g r q next next' e e' h = refl
chosen false f g r q next next' e e' h = h

assigned_placed : (e : Expression no_payload) (ty : MaybeType no_payload) (op : Option AssignOp)
    → is_ok (assigned_target (unspanned e) (unspanned_type ty) op) ≡ is_ok (assigned_target e ty op)
assigned_placed (t.expression s shape) ty None = aim_placed (t.expression s shape) ty None
assigned_placed (t.expression s shape) ty (Some o) =
    ap (λ b. is_ok (and_then (if b then Err (grammar_fault InvalidModifyLhs nowhere) else Ok (unspanned (t.expression s shape)))
    (λ e. and_then (target e) (λ x. refuse_annotation x (unspanned_type ty) (Some o))))) (sequence_placed shape)
    ∙ chosen (is_sequence shape) (grammar_fault InvalidModifyLhs nowhere) (grammar_fault InvalidModifyLhs s) (target (unspanned (t.expression s shape)))
    (target (t.expression s shape))
    (λ e. and_then (target e) (λ x. refuse_annotation x (unspanned_type ty) (Some o))) (λ e. and_then (target e) (λ x. refuse_annotation x ty (Some o)))
    (unspanned (t.expression s shape)) (t.expression s shape) (aim_placed (t.expression s shape) ty (Some o))

assigned_kept : (left : Derivation G.TestList) (annotation : Derivation G.Annotation) (sign : AssignSign)
    → is_ok (assigned_target (tree (unplaced left)) (tree (unplaced annotation)) (assign_operator sign))
    ≡ is_ok (assigned_target (tree left) (tree annotation) (assign_operator sign))
assigned_kept left annotation sign =
    let same : is_ok (assigned_target (unspanned (tree left)) (unspanned_type (tree annotation)) (assign_operator sign))
    ≡ is_ok (assigned_target (unspanned (tree (unplaced left))) (unspanned_type (tree (unplaced annotation))) (assign_operator sign)) =
    λ i. is_ok (assigned_target (seen_unplaced left i) (seen_unplaced annotation i) (assign_operator sign)) in
    sym (assigned_placed (tree (unplaced left)) (tree (unplaced annotation)) (assign_operator sign)) ∙ sym same
    ∙ assigned_placed (tree left) (tree annotation) (assign_operator sign)

-- ---- derivations

sign_fine : (sign : CompSign) → fine (sign_side (unplaced_sign sign)) ≡ fine (sign_side sign)
sign_fine (G.comparison c s) = refl
sign_fine (G.not_in a b) = refl

fine_unplaced : {n : Nonterminal} (d : Derivation n) → fine (right_side (unplaced d)) ≡ fine (right_side d)
fine_unplaced G.module_none = refl
fine_unplaced (G.module_newline before newline_at) = λ i. fine_unplaced before i && true
fine_unplaced (G.module_stmt before stmt) = λ i. fine_unplaced before i && fine_unplaced stmt i
fine_unplaced (G.stmt_simple d) = λ i. fine_unplaced d i
fine_unplaced (G.stmt_def def_at name name_at opening_at params closing_at return_type colon_at suite) =
    λ i. fine_unplaced params i && (fine_unplaced return_type i && fine_unplaced suite i)
fine_unplaced (G.stmt_if if_at test colon_at suite rest) = λ i. fine_unplaced test i && (fine_unplaced suite i && fine_unplaced rest i)
fine_unplaced (G.stmt_for d) = λ i. fine_unplaced d i
fine_unplaced (G.for_loop for_at vars in_at source colon_at suite) =
    λ i. target_kept vars i && (fine_unplaced vars i && (fine_unplaced source i && fine_unplaced suite i))
fine_unplaced G.rest_none = refl
fine_unplaced (G.rest_elif elif_at test colon_at suite rest) = λ i. fine_unplaced test i && (fine_unplaced suite i && fine_unplaced rest i)
fine_unplaced (G.rest_else else_at colon_at suite) = λ i. fine_unplaced suite i
fine_unplaced (G.suite_simple d) = λ i. fine_unplaced d i
fine_unplaced (G.suite_block newline_at newlines indent_at block dedent_at) = λ i. fine_unplaced newlines i && (fine_unplaced block i && true)
fine_unplaced (G.suite_open newline_at newlines indent_at block) = λ i. fine_unplaced newlines i && (fine_unplaced block i && false)
fine_unplaced G.newlines_none = refl
fine_unplaced (G.newlines_more newlines newline_at) = λ i. fine_unplaced newlines i && true
fine_unplaced (G.block_first newlines stmt) = λ i. fine_unplaced newlines i && fine_unplaced stmt i
fine_unplaced (G.block_newline block newline_at) = λ i. fine_unplaced block i && true
fine_unplaced (G.block_stmt block stmt) = λ i. fine_unplaced block i && fine_unplaced stmt i
fine_unplaced G.return_type_none = refl
fine_unplaced (G.return_type_note arrow_at note) = λ i. fine_unplaced note i
fine_unplaced (G.def_param_slash slash_at) = refl
fine_unplaced (G.def_param_star star_at) = refl
fine_unplaced (G.def_param_args star_at name name_at annotation) = λ i. fine_unplaced annotation i
fine_unplaced (G.def_param_kwargs stars_at name name_at annotation) = λ i. fine_unplaced annotation i
fine_unplaced (G.def_param_name name name_at annotation) = λ i. fine_unplaced annotation i
fine_unplaced (G.def_param_default name name_at annotation equal_at value) = λ i. fine_unplaced annotation i && fine_unplaced value i
fine_unplaced (G.simple_line smalls newline_at) = λ i. fine_unplaced smalls i && true
fine_unplaced (G.simple_semicolon smalls semicolon_at newline_at) = λ i. fine_unplaced smalls i && true
fine_unplaced (G.smalls_one d) = λ i. fine_unplaced d i
fine_unplaced (G.smalls_more smalls semicolon_at small) = λ i. fine_unplaced smalls i && fine_unplaced small i
fine_unplaced (G.small_return return_at) = refl
fine_unplaced (G.small_return_value return_at value) = λ i. fine_unplaced value i
fine_unplaced (G.small_break s) = refl
fine_unplaced (G.small_continue s) = refl
fine_unplaced (G.small_pass s) = refl
fine_unplaced (G.small_load load_at opening_at file file_at loaded closing_at) = λ i. fine_unplaced loaded i && true
fine_unplaced (G.small_test d) = λ i. fine_unplaced d i
fine_unplaced (G.small_assign left annotation sign sign_at right) =
    λ i. assigned_kept left annotation sign i && (fine_unplaced left i && (fine_unplaced annotation i && fine_unplaced right i))
fine_unplaced (G.list_plain d) = λ i. fine_unplaced d i
fine_unplaced (G.list_comma listed comma_at) = refl
fine_unplaced G.annotation_none = refl
fine_unplaced (G.annotation_note colon_at note) = λ i. fine_unplaced note i
fine_unplaced (G.note_test d) = λ i. fine_unplaced d i
fine_unplaced G.symbols_none = refl
fine_unplaced (G.symbols_list comma_at loaded) = λ i. fine_unplaced loaded i
fine_unplaced (G.sym_same name name_at) = refl
fine_unplaced (G.sym_other name name_at equal_at their their_at) = refl
fine_unplaced (G.sym_alone name name_at) = refl
fine_unplaced (G.test_or d) = λ i. fine_unplaced d i
fine_unplaced (G.test_if value if_at test else_at other) = λ i. fine_unplaced value i && (fine_unplaced test i && fine_unplaced other i)
fine_unplaced (G.test_lambda lambda_at params colon_at body) = λ i. fine_unplaced params i && fine_unplaced body i
fine_unplaced (G.left_one is_operand operand) = λ i. fine_unplaced operand i
fine_unplaced (G.left_more is_operand left sign sign_at right) = λ i. fine_unplaced left i && fine_unplaced right i
fine_unplaced (G.not_not not_at operand) = λ i. fine_unplaced operand i
fine_unplaced (G.not_comp d) = λ i. fine_unplaced d i
fine_unplaced (G.comp_one d) = λ i. fine_unplaced d i
fine_unplaced (G.comp_two left sign right) = λ i. fine_unplaced left i && (sign_fine sign i && fine_unplaced right i)
fine_unplaced (G.unary_sign sign sign_at operand) = λ i. fine_unplaced operand i
fine_unplaced (G.unary_primary d) = λ i. fine_unplaced d i
fine_unplaced (G.primary_atom d) = λ i. fine_unplaced d i
fine_unplaced (G.primary_dot operand dot_at name name_at) = λ i. fine_unplaced operand i && true
fine_unplaced (G.primary_subscript operand opening_at sub closing_at) = λ i. fine_unplaced operand i && (fine_unplaced sub i && true)
fine_unplaced (G.primary_call operand opening_at passed closing_at) = λ i. fine_unplaced operand i && (fine_unplaced passed i && true)
fine_unplaced (G.sub_one d) = λ i. fine_unplaced d i
fine_unplaced (G.sub_two first comma_at second) = λ i. fine_unplaced first i && fine_unplaced second i
fine_unplaced (G.sub_slice begin colon_at stop) = λ i. fine_unplaced begin i && fine_unplaced stop i
fine_unplaced (G.sub_step begin colon_at stop step_at step) = λ i. fine_unplaced begin i && (fine_unplaced stop i && fine_unplaced step i)
fine_unplaced G.bound_none = refl
fine_unplaced (G.bound_test d) = λ i. fine_unplaced d i
fine_unplaced (G.arg_test d) = λ i. fine_unplaced d i
fine_unplaced (G.arg_named name name_at equal_at value) = λ i. fine_unplaced value i
fine_unplaced (G.arg_star star_at value) = λ i. fine_unplaced value i
fine_unplaced (G.arg_stars stars_at value) = λ i. fine_unplaced value i
fine_unplaced (G.entry key colon_at value) = λ i. fine_unplaced key i && fine_unplaced value i
fine_unplaced (G.lambda_param_slash slash_at) = refl
fine_unplaced (G.lambda_param_star star_at) = refl
fine_unplaced (G.lambda_param_args star_at name name_at) = refl
fine_unplaced (G.lambda_param_kwargs stars_at name name_at) = refl
fine_unplaced (G.lambda_param_name name name_at) = refl
fine_unplaced (G.lambda_param_default name name_at equal_at value) = λ i. fine_unplaced value i
fine_unplaced (G.atom_name name name_at) = refl
fine_unplaced (G.atom_int n s) = refl
fine_unplaced (G.atom_float text s) = refl
fine_unplaced (G.atom_string text s) = refl
fine_unplaced (G.atom_bytes text s) = refl
fine_unplaced (G.atom_ellipsis s) = refl
fine_unplaced (G.atom_round opening_at inside closing_at) = λ i. fine_unplaced inside i && true
fine_unplaced (G.atom_square opening_at inside closing_at) = λ i. fine_unplaced inside i && true
fine_unplaced (G.atom_curly opening_at inside closing_at) = λ i. fine_unplaced inside i && true
fine_unplaced (G.atom_list_comprehension opening_at element clauses closing_at) = λ i. fine_unplaced element i && (fine_unplaced clauses i && true)
fine_unplaced (G.atom_dict_comprehension opening_at pair clauses closing_at) = λ i. fine_unplaced pair i && (fine_unplaced clauses i && true)
fine_unplaced (G.atom_f_string quote opening_at parts closing_at) = λ i. fine_unplaced parts i && true
fine_unplaced (G.vars_plain d) = λ i. fine_unplaced d i
fine_unplaced (G.vars_comma listed comma_at) = refl
fine_unplaced (G.for_clause for_at vars in_at source) = λ i. target_kept vars i && (fine_unplaced vars i && fine_unplaced source i)
fine_unplaced (G.clauses_one d) = λ i. fine_unplaced d i
fine_unplaced (G.clauses_for clauses clause) = λ i. fine_unplaced clauses i && fine_unplaced clause i
fine_unplaced (G.clauses_if clauses if_at test) = λ i. fine_unplaced clauses i && fine_unplaced test i
fine_unplaced G.parts_none = refl
fine_unplaced (G.parts_text parts text text_at) = λ i. fine_unplaced parts i && true
fine_unplaced (G.parts_replacement parts opening_at value conversion closing_at) =
    λ i. fine_unplaced parts i && (fine_unplaced value i && (fine_unplaced conversion i && true))
fine_unplaced G.conversion_default = refl
fine_unplaced (G.conversion_absent bang_at) = refl
fine_unplaced (G.conversion_name bang_at name name_at) = refl
fine_unplaced G.optional_list_none = refl
fine_unplaced (G.optional_list_plain d) = λ i. fine_unplaced d i
fine_unplaced (G.optional_list_comma listed comma_at) = λ i. fine_unplaced listed i && true
fine_unplaced (G.comma_list_one is_element element) = λ i. fine_unplaced element i
fine_unplaced (G.comma_list_more is_element listed comma_at element) = λ i. fine_unplaced listed i && fine_unplaced element i

-- if derivations are equal apart from spans, both keep the rules or neither does
pub fine_too : {n : Nonterminal} (d e : Derivation n) → unplaced d ≡ unplaced e → IsFine (right_side e) → IsFine (right_side d)
fine_too d e same h = is_fine (right_side d) (sym (fine_unplaced d) ∙ ap (λ x. fine (right_side x)) same ∙ fine_unplaced e ∙ fine_so (right_side e) h)
