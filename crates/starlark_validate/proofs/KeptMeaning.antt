-- The kept faults of a derivation are those of its tree, if what it assigns to are targets.
use Rattle.std.proofs.Common.{◌≡◌, List, [], ◌∷◌, ◌++◌, append_assoc, refl, sym, ◌∙◌, ap, Option, Some, None}
use Rattle.std.specs.List.{flat_map}
use Rattle.std.proofs.lemmas.Grind.{flat_map-append}
use Rattle.std.proofs.lemmas.List.{append-nil}
use Rattle.starlark_lexer.specs.Tokens.{Span, from_to}
use Rattle.starlark_lexer.specs.declared.dialect.Dialect.{Dialect}
use Rattle.starlark_tree.specs.Ast as t
use Rattle.starlark_tree.specs.Ast.{no_payload, Expression, Statement, expression_span, expressions_of, pairs_of, arguments_of, parameters_of, clauses_of}
use Rattle.starlark_tree.specs.Ast.{statements_of, Argument, argument_list}
use Rattle.starlark_spec.specs.Faults.{Fault}
use Rattle.starlark_spec.specs.Grammar.{Nonterminal, ElementKind, ElementOf, PrecedenceLevel, OperandOf, UnarySign, Derivation, right_side}
use Rattle.starlark_spec.specs.Grammar as G
use Rattle.starlark_spec.specs.Trees.{TreeOf, ElementTree, Pair, Comprehended, Subscript, one_index, two_indices, bounds, element_tree, operand_tree}
use Rattle.starlark_spec.specs.Trees.{one_or_tuple, one_or_block, grouped, if_form, signed, subscripted, derivation_span, end_of_last, block_span}
use Rattle.starlark_spec.specs.Trees.{module_span, module_tree, assign_operator, tree}
use Rattle.starlark_validate.specs.KeptFaults.{kept}
use Rattle.starlark_validate.specs.KeptTreeFaults.{call_faults, in_expression, in_expressions, in_maybe, in_type, in_pairs, in_arguments, in_argument}
use Rattle.starlark_validate.specs.KeptTreeFaults.{in_parameters, in_parameter, in_for, in_clauses, in_clause, in_statement, in_statements, in_form}
use Rattle.starlark_validate.proofs.DerivationTargets.{aims}
use Rattle.starlark_validate.proofs.KeptTargets.{pair, as_target, as_assigned}

snoc : {X A : Type 0} (f : X → List A) (xs : List X) (x : X) → flat_map f (xs ++ x ∷ []) ≡ flat_map f xs ++ f x
snoc f xs x = flat_map-append f xs (x ∷ []) ∙ ap (λ ys. flat_map f xs ++ ys) (append-nil (f x))

listed : (xs : List (Argument no_payload)) → argument_list (arguments_of xs) ≡ xs
listed [] = refl
listed (x ∷ xs) = ap (λ ys. x ∷ ys) (listed xs)

module _ (b : Dialect) where
  -- ---- what the trees of nonterminals contain

  abbrev in_pair : Pair → List Fault
  in_pair p = in_expression b p.0 ++ in_expression b p.1

  abbrev in_item : (k : ElementKind) → ElementTree k → List Fault
  in_item G.elements e = in_expression b e
  in_item G.arguments a = in_argument b a
  in_item G.entries p = in_pair p
  in_item G.lambda_parameters p = in_parameter b p
  in_item G.variables e = in_expression b e
  in_item G.symbols s = []
  in_item G.def_parameters p = in_parameter b p

  abbrev in_subscript : Subscript → List Fault
  in_subscript (one_index i) = in_expression b i
  in_subscript (two_indices i j) = in_expression b i ++ in_expression b j
  in_subscript (bounds start stop step) = in_maybe b start ++ (in_maybe b stop ++ in_maybe b step)

  abbrev in_comprehended : Comprehended → List Fault
  in_comprehended cs = in_for b cs.0 ++ flat_map (in_clause b) cs.1

  abbrev in_rest : Option (Statement no_payload) → List Fault
  in_rest None = []
  in_rest (Some s) = in_statement b s

  abbrev in_meaning : (n : Nonterminal) → TreeOf n → List Fault
  in_meaning G.Module ss = flat_map (in_statement b) ss
  in_meaning G.Stmt s = in_statement b s
  in_meaning G.Simple s = in_statement b s
  in_meaning G.Smalls ss = flat_map (in_statement b) ss
  in_meaning G.Small s = in_statement b s
  in_meaning G.TestList e = in_expression b e
  in_meaning G.Annotation ty = in_type b ty
  in_meaning G.Note e = in_expression b e
  in_meaning G.Symbols ss = []
  in_meaning G.Sym s = []
  in_meaning G.Suite s = in_statement b s
  in_meaning G.Block ss = flat_map (in_statement b) ss
  in_meaning G.Newlines ss = []
  in_meaning G.Rest s = in_rest s
  in_meaning G.For s = in_statement b s
  in_meaning G.ReturnType ty = in_type b ty
  in_meaning G.DefParam p = in_parameter b p
  in_meaning G.Test e = in_expression b e
  in_meaning (G.LeftAssociative k) e = in_expression b e
  in_meaning G.Not e = in_expression b e
  in_meaning G.Comp e = in_expression b e
  in_meaning G.Unary e = in_expression b e
  in_meaning G.Primary e = in_expression b e
  in_meaning G.Atom e = in_expression b e
  in_meaning G.Sub s = in_subscript s
  in_meaning G.Bound e = in_maybe b e
  in_meaning G.Arg a = in_argument b a
  in_meaning G.Entry p = in_pair p
  in_meaning G.LambdaParam p = in_parameter b p
  in_meaning G.FStringParts f = flat_map (in_expression b) f.values
  in_meaning G.Conversion c = []
  in_meaning G.LoopVars e = in_expression b e
  in_meaning G.ForClause f = in_for b f
  in_meaning G.Clauses cs = in_comprehended cs
  in_meaning (G.OptionalList k) xs = flat_map (in_item k) xs
  in_meaning (G.CommaList k) xs = flat_map (in_item k) xs

  -- ---- lists

  all_expressions : (es : List (Expression no_payload)) → in_expressions b (expressions_of es) ≡ flat_map (in_expression b) es
  all_expressions [] = refl
  all_expressions (e ∷ es) = pair refl (all_expressions es)

  all_arguments : (xs : List (Argument no_payload)) → in_arguments b (arguments_of xs) ≡ flat_map (in_argument b) xs
  all_arguments [] = refl
  all_arguments (x ∷ xs) = pair refl (all_arguments xs)

  all_parameters : (ps : List (t.Parameter no_payload)) → in_parameters b (parameters_of ps) ≡ flat_map (in_parameter b) ps
  all_parameters [] = refl
  all_parameters (p ∷ ps) = pair refl (all_parameters ps)

  all_pairs : (ps : List Pair) → in_pairs b (pairs_of ps) ≡ flat_map in_pair ps
  all_pairs [] = refl
  all_pairs (p ∷ ps) =
      pair {a = in_expression b p.0} refl (pair {a = in_expression b p.1} refl (all_pairs ps))
      ∙ sym (append_assoc (in_expression b p.0) (in_expression b p.1) (flat_map in_pair ps))

  all_others : (cs : List (t.Clause no_payload)) → in_clauses b (clauses_of cs) ≡ flat_map (in_clause b) cs
  all_others [] = refl
  all_others (c ∷ cs) = pair refl (all_others cs)

  all_clauses : (cs : Comprehended) → in_for b cs.0 ++ in_clauses b (clauses_of cs.1) ≡ in_comprehended cs
  all_clauses cs = pair refl (all_others cs.1)

  one_more_clause : (cs : Comprehended) (c : t.Clause no_payload) → in_comprehended cs ++ in_clause b c ≡ in_for b cs.0 ++ flat_map (in_clause b)
      (cs.1 ++ c ∷ [])
  one_more_clause cs c = append_assoc (in_for b cs.0) (flat_map (in_clause b) cs.1) (in_clause b c) ∙ pair refl (sym (snoc (in_clause b) cs.1 c))

  all_statements : (ss : List (Statement no_payload)) → in_statements b (statements_of ss) ≡ flat_map (in_statement b) ss
  all_statements [] = refl
  all_statements (s ∷ ss) = pair refl (all_statements ss)

  no_faults : (xs : List (ElementTree G.symbols)) → flat_map (in_item G.symbols) xs ≡ []
  no_faults [] = refl
  no_faults (x ∷ xs) = no_faults xs

  -- ---- what is built of them

  pub one_or_all : (span : Span) (ss : List (Statement no_payload)) → in_statement b (one_or_block span ss) ≡ flat_map (in_statement b) ss
  one_or_all span [] = refl
  one_or_all span (s ∷ []) = sym (append-nil (in_statement b s))
  one_or_all span (s ∷ u ∷ ss) = all_statements (s ∷ u ∷ ss)

  one_or_several : (span : Span) (es : List (Expression no_payload)) → in_expression b (one_or_tuple span es) ≡ flat_map (in_expression b) es
  one_or_several span [] = refl
  one_or_several span (e ∷ []) = sym (append-nil (in_expression b e))
  one_or_several span (e ∷ f ∷ es) = all_expressions (e ∷ f ∷ es)

  in_group : (span : Span) (d : Derivation (G.OptionalList G.elements)) (es : List (Expression no_payload)) → flat_map (in_expression b) es
      ≡ in_expression b (grouped span d es)
  in_group span G.optional_list_none es = sym (all_expressions es)
  in_group span (G.optional_list_plain d) es = sym (one_or_several (derivation_span (G.optional_list_plain d)) es)
  in_group span (G.optional_list_comma d c) es = sym (all_expressions es)

  if_else : (e : Expression no_payload) (s : Statement no_payload) (o : Option (Statement no_payload)) → in_expression b e ++ (in_statement b s ++ in_rest o)
      ≡ in_form b (if_form e s o)
  if_else e s None = pair {a = in_expression b e} refl (append-nil (in_statement b s))
  if_else e s (Some u) = refl

  with_sign : (o : UnarySign) (span : Span) (e : Expression no_payload) → in_expression b e ≡ in_expression b (signed o span e)
  with_sign G.plus_sign span e = refl
  with_sign G.minus_sign span e = refl
  with_sign G.tilde_sign span e = refl

  with_subscript : (span : Span) (e : Expression no_payload) (s : Subscript) → in_expression b e ++ in_subscript s ≡ in_expression b (subscripted span e s)
  with_subscript span e (one_index i) = refl
  with_subscript span e (two_indices i j) = refl
  with_subscript span e (bounds start stop step) = refl

  as_operand : {k : PrecedenceLevel} {n : Nonterminal} (u : OperandOf k n) (m : TreeOf n) → in_meaning n m ≡ in_expression b (operand_tree u m)
  as_operand G.of_or m = refl
  as_operand G.of_and m = refl
  as_operand G.of_bit_or m = refl
  as_operand G.of_xor m = refl
  as_operand G.of_bit_and m = refl
  as_operand G.of_shift m = refl
  as_operand G.of_add m = refl
  as_operand G.of_multiply m = refl

  as_item : {k : ElementKind} {n : Nonterminal} (u : ElementOf k n) (m : TreeOf n) → in_meaning n m ≡ in_item k (element_tree u m)
  as_item G.of_elements m = refl
  as_item G.of_arguments m = refl
  as_item G.of_entries m = refl
  as_item G.of_lambda_parameters m = refl
  as_item G.of_variables m = refl
  as_item G.of_symbols m = refl
  as_item G.of_def_parameters m = refl

  -- ---- by cases

  same : {n : Nonterminal} (d : Derivation n) → aims (right_side d) → kept b d ≡ in_meaning n (tree d)
  same G.module_none h = refl
  same (G.module_newline m s) h = same m h.0
  same (G.module_stmt m d) h = pair (same m h.0) (same d h.1) ∙ sym (snoc (in_statement b) (tree m) (tree d))
  same (G.stmt_simple d) h = same d h
  same (G.stmt_def d text i o ps c t k s) h = pair ((same ps h.1.1.1.0) ∙ sym (all_parameters (tree ps))) (pair (same t h.1.1.1.1.1.0) (same s h.1.1.1.1.1.1.1))
  same (G.stmt_if i d c s e) h = pair (same d h.1.0) (pair (same s h.1.1.1.0) (same e h.1.1.1.1)) ∙ if_else (tree d) (tree s) (tree e)
  same (G.stmt_for d) h = same d h
  same (G.for_loop f d i e c s) h = pair ((same d h.1.1.0) ∙ as_target b (tree d) h.0) (pair (same e h.1.1.1.1.0) (same s h.1.1.1.1.1.1))
  same G.rest_none h = refl
  same (G.rest_elif i d c s e) h = pair (same d h.1.0) (pair (same s h.1.1.1.0) (same e h.1.1.1.1)) ∙ if_else (tree d) (tree s) (tree e)
  same (G.rest_else i c s) h = same s h.1.1
  same (G.suite_simple d) h = same d h
  same (G.suite_block n d i b0 e) h = pair (same d h.1.0) (same b0 h.1.1.1.0) ∙ sym (one_or_all (block_span b0) (tree b0))
  same (G.suite_open n d i b0) h = pair (same d h.1.0) (same b0 h.1.1.1.0) ∙ sym (one_or_all (block_span b0) (tree b0))
  same G.newlines_none h = refl
  same (G.newlines_more d s) h = same d h.0
  same (G.block_first d s) h = pair (same d h.0) (same s h.1) ∙ sym (append-nil (in_statement b (tree s)))
  same (G.block_newline b0 s) h = same b0 h.0
  same (G.block_stmt b0 s) h = pair (same b0 h.0) (same s h.1) ∙ sym (snoc (in_statement b) (tree b0) (tree s))
  same G.return_type_none h = refl
  same (G.return_type_note a d) h = same d h.1
  same (G.def_param_slash s) h = refl
  same (G.def_param_star s) h = refl
  same (G.def_param_args s text i d) h = same d h.1.1
  same (G.def_param_kwargs s text i d) h = same d h.1.1
  same (G.def_param_name text i d) h = (same d h.1) ∙ sym (append-nil (in_type b (tree d)))
  same (G.def_param_default text i d e v) h = pair (same d h.1.0) (same v h.1.1.1)
  same (G.simple_line d n) h = (same d h.0) ∙ sym (one_or_all (derivation_span (G.simple_line d n)) (tree d))
  same (G.simple_semicolon d s n) h = (same d h.0) ∙ sym (one_or_all (derivation_span (G.simple_semicolon d s n)) (tree d))
  same (G.smalls_one d) h = (same d h) ∙ sym (append-nil (in_statement b (tree d)))
  same (G.smalls_more d s e) h = pair (same d h.0) (same e h.1.1) ∙ sym (snoc (in_statement b) (tree d) (tree e))
  same (G.small_return r) h = refl
  same (G.small_return_value r d) h = same d h.1
  same (G.small_break s) h = refl
  same (G.small_continue s) h = refl
  same (G.small_pass s) h = refl
  same (G.small_load l o text i d c) h = pair (same d h.1.1.1.0) refl
  same (G.small_test d) h = same d h
  same (G.small_assign d n o s e) h = pair (same d h.1.0) (pair (same n h.1.1.0) (same e h.1.1.1.1)) ∙ as_assigned b (tree d) (tree n) (assign_operator o)
      (tree e) h.0
  same (G.list_plain d) h = (same d h) ∙ sym (one_or_several (derivation_span (G.list_plain d)) (tree d))
  same (G.list_comma d c) h = (same d h.1.0) ∙ sym (all_expressions (tree d))
  same G.annotation_none h = refl
  same (G.annotation_note c d) h = same d h.1
  same (G.note_test d) h = same d h.1
  same G.symbols_none h = refl
  same (G.symbols_list c d) h = (same d h.1) ∙ no_faults (tree d)
  same (G.sym_same text s) h = refl
  same (G.sym_other text i e their s) h = refl
  same (G.sym_alone text i) h = refl
  same (G.test_or d) h = same d h
  same (G.test_if d i c e f) h = pair (same d h.0) (pair (same c h.1.1.0) (same f h.1.1.1.1))
  same (G.test_lambda l d c e) h = pair ((same d h.1.0) ∙ sym (all_parameters (tree d))) (same e h.1.1.1)
  same (G.left_one u d) h = (same d h) ∙ as_operand u (tree d)
  same (G.left_more u d o s e) h = pair (same d h.0) ((same e h.1.1) ∙ as_operand u (tree e))
  same (G.not_not s d) h = same d h.1
  same (G.not_comp d) h = same d h
  same (G.comp_one d) h = same d h
  same (G.comp_two d o e) h = pair (same d h.0) (same e h.1.1)
  same (G.unary_sign o s d) h = (same d h.1) ∙ with_sign o (from_to s.begin (end_of_last (right_side d) s.end)) (tree d)
  same (G.unary_primary d) h = same d h
  same (G.primary_atom d) h = same d h
  same (G.primary_dot d s text i) h = same d h.0
  same (G.primary_subscript d o f c) h = pair (same d h.0) (same f h.1.1.0) ∙ with_subscript (from_to (expression_span (tree d)).begin c.end) (tree d) (tree f)
  same (G.primary_call d o f c) h = pair (same d h.0) (pair ((same f h.1.1.0) ∙ sym (all_arguments (tree f))) (ap call_faults (sym (listed (tree f)))))
  same (G.sub_one d) h = same d h
  same (G.sub_two d c e) h = pair (same d h.0) (same e h.1.1)
  same (G.sub_slice d c e) h = pair (same d h.0) ((same e h.1.1) ∙ sym (append-nil (in_maybe b (tree e))))
  same (G.sub_step d c e s f) h = pair (same d h.0) (pair (same e h.1.1.0) (same f h.1.1.1.1))
  same G.bound_none h = refl
  same (G.bound_test d) h = same d h
  same (G.arg_test d) h = same d h
  same (G.arg_named text s e d) h = same d h.1.1
  same (G.arg_star s d) h = same d h.1
  same (G.arg_stars s d) h = same d h.1
  same (G.entry d c e) h = pair (same d h.0) (same e h.1.1)
  same (G.lambda_param_slash s) h = refl
  same (G.lambda_param_star s) h = refl
  same (G.lambda_param_args s text i) h = refl
  same (G.lambda_param_kwargs s text i) h = refl
  same (G.lambda_param_name text i) h = refl
  same (G.lambda_param_default text i e d) h = same d h.1.1
  same (G.atom_name text s) h = refl
  same (G.atom_int n s) h = refl
  same (G.atom_float text s) h = refl
  same (G.atom_string text s) h = refl
  same (G.atom_bytes text s) h = refl
  same (G.atom_ellipsis s) h = refl
  same (G.atom_round o d c) h = (same d h.1.0) ∙ in_group (from_to o.begin c.end) d (tree d)
  same (G.atom_square o d c) h = (same d h.1.0) ∙ sym (all_expressions (tree d))
  same (G.atom_curly o d c) h = (same d h.1.0) ∙ sym (all_pairs (tree d))
  same (G.atom_list_comprehension o d e c) h = pair (same d h.1.0) ((same e h.1.1.0) ∙ sym (all_clauses (tree e)))
  same (G.atom_dict_comprehension o d e c) h = pair (same d h.1.0) ((same e h.1.1.0) ∙ sym (all_clauses (tree e)))
      ∙ append_assoc (in_expression b (tree d).0) _ _
  same (G.atom_f_string q s d e) h = pair ((same d h.1.0) ∙ sym (all_expressions (tree d).values)) refl
  same (G.vars_plain d) h = (same d h) ∙ sym (one_or_several (derivation_span (G.vars_plain d)) (tree d))
  same (G.vars_comma d c) h = (same d h.1.0) ∙ sym (all_expressions (tree d))
  same (G.for_clause f d i e) h = pair ((same d h.1.1.0) ∙ as_target b (tree d) h.0) (same e h.1.1.1.1)
  same (G.clauses_one d) h = (same d h) ∙ sym (append-nil (in_for b (tree d)))
  same (G.clauses_for d e) h = pair (same d h.0) (same e h.1) ∙ one_more_clause (tree d) (t.for_clause (tree e))
  same (G.clauses_if d i e) h = pair (same d h.0) (same e h.1.1) ∙ one_more_clause (tree d) (t.if_clause (tree e))
  same G.parts_none h = refl
  same (G.parts_text d text s) h = same d h.0
  same (G.parts_replacement d o e c x) h = pair (same d h.0) (pair (same e h.1.1.0) (same c h.1.1.1.0) ∙ append-nil (in_expression b (tree e)))
      ∙ sym (snoc (in_expression b) (tree d).values (tree e))
  same G.conversion_default h = refl
  same (G.conversion_absent s) h = refl
  same (G.conversion_name s text i) h = refl
  same G.optional_list_none h = refl
  same (G.optional_list_plain d) h = same d h
  same (G.optional_list_comma d c) h = same d h.0
  same (G.comma_list_one u d) h = (same d h) ∙ as_item u (tree d) ∙ sym (append-nil (in_item _ (element_tree u (tree d))))
  same (G.comma_list_more u d c e) h = pair (same d h.0) ((same e h.1.1) ∙ as_item u (tree e)) ∙ sym (snoc (in_item _) (tree d) (element_tree u (tree e)))

  pub kept_in_tree : (d : Derivation G.Module) → aims (right_side d) → kept b d ≡ in_statement b (module_tree d)
  kept_in_tree d h = same d h ∙ sym (one_or_all (module_span d) (tree d))
