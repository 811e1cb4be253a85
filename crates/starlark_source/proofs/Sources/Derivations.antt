-- The tree of a derivation whose nodes keep the rules, of tokens that are read again if they are alone, has a source.
use Rattle.std.proofs.Common.{◌≡◌, ℕ, ◌^◌, ◌<◌, List as Seq, [], ◌∷◌, ◌++◌, Bool, true, false, Option, Some, None, Result, Ok, Err, refl}
use Rattle.std.specs.Bool.{⊤}
use Rattle.std.specs.Prelude.{is_ok}
use Rattle.starlark_lexer.specs.Tokens.{Span, String, nowhere}
use Rattle.starlark_lexer.specs.Tokens as tokens
use Rattle.starlark_lexer.proofs.TokenTexts.GivenTokens.{Rereads}
use Rattle.starlark_tree.specs.Ast as t
use Rattle.starlark_tree.specs.Ast.{no_payload, Expression, expressions_of, pairs_of, clauses_of}
use Rattle.starlark_spec.specs.Grammar.{Nonterminal, ElementKind, ElementOf, PrecedenceLevel, OperandOf, UnarySign, Derivation, RightSide, right_side}
use Rattle.starlark_spec.specs.Grammar as G
use Rattle.starlark_spec.specs.Grammar.RightSide.{◌⨾◌}
use Rattle.starlark_spec.specs.Trees.{TreeOf, ElementTree, element_tree, operand_tree, operator_of, compared_by, signed, at, tuple, one_or_tuple, grouped}
use Rattle.starlark_spec.specs.Trees.{assign_operator, commas, derivation_span, module_span, module_tree, tree}
use Rattle.starlark_source.specs.declared.level.Level.TheVariants as level
use Rattle.starlark_source.specs.Pieces.{Pieces, token, listed, between, in_square, in_curly}
use Rattle.starlark_source.specs.Literals.{name}
use Rattle.starlark_source.specs.Source.{colon, at_level, test, tests, maybe_type_source, pair_sources, for_source, clauses_source}
use Rattle.starlark_source.specs.Lines.{module_source}
use Rattle.starlark_source.proofs.ReadBack.Writing.{Sayable, node_keeps}
use Rattle.starlark_source.proofs.Sources.Pieces.{Each, each_more, joined, listed_said, in_round_said, in_square_said, in_curly_said, tupled_said}
use Rattle.starlark_source.proofs.Sources.Tokens.{name_said, int_said, float_said, bytes_said}
use Rattle.starlark_source.proofs.Sources.Expressions.{Said, PairSaid, MaybeSaid, TypeSaid, ArgumentSaid, LambdaParameterSaid, ParameterSaid, ClauseSaid}
use Rattle.starlark_source.proofs.Sources.Expressions.{SubscriptSaid, tests_said, pairs_said, clauses_said, type_said, level_said, list_said, operation_said}
use Rattle.starlark_source.proofs.Sources.Expressions.{if_said, lambda_said, call_said, subscript_said, for_said}
use Rattle.starlark_source.proofs.Sources.FStrings.{FormatSaid, empty_said, text_more, place_more, f_string_said}
use Rattle.starlark_source.proofs.Sources.Statements.{LoadsNames, LoadSaid, SymbolSaid, same_symbol, other_symbol, loads_said, Lined, Suited, RestSaid}
use Rattle.starlark_source.proofs.Sources.Statements.{SmallSaid, suited, rest_of_suite, rest_of_line, small_lined, load_small, assigned_small, if_lined}
use Rattle.starlark_source.proofs.Sources.Statements.{loop_lined, def_lined, block_suited, SmallsSaid, one_small, more_smalls, smalls_lined, whole_said}

-- ---- what the tree of a nonterminal has

abbrev ElementSaid : (k : ElementKind) → ElementTree k → Type 0
ElementSaid G.elements e = Said e
ElementSaid G.arguments a = ArgumentSaid a
ElementSaid G.entries p = PairSaid p
ElementSaid G.lambda_parameters p = LambdaParameterSaid p
ElementSaid G.variables e = Said e
ElementSaid G.symbols s = SymbolSaid s
ElementSaid G.def_parameters p = ParameterSaid p

abbrev TreeSaid : (n : Nonterminal) → TreeOf n → Type 0
TreeSaid G.Module ss = Each Lined ss
TreeSaid G.Stmt s = Lined s
TreeSaid G.For s = Lined s
TreeSaid G.Rest s = RestSaid s
TreeSaid G.Suite s = Suited s
TreeSaid G.Newlines ss = ⊤
TreeSaid G.Block ss = Each Lined ss
TreeSaid G.ReturnType ty = TypeSaid ty
TreeSaid G.DefParam p = ParameterSaid p
TreeSaid G.Simple s = Lined s
TreeSaid G.Smalls ss = SmallsSaid ss
TreeSaid G.Small s = SmallSaid s
TreeSaid G.TestList e = Said e
TreeSaid G.Annotation ty = TypeSaid ty
TreeSaid G.Note e = Said e
TreeSaid G.Symbols names = Each LoadSaid names
TreeSaid G.Sym names = SymbolSaid names
TreeSaid G.Test e = Said e
TreeSaid (G.LeftAssociative k) e = Said e
TreeSaid G.Not e = Said e
TreeSaid G.Comp e = Said e
TreeSaid G.Unary e = Said e
TreeSaid G.Primary e = Said e
TreeSaid G.Sub s = SubscriptSaid s
TreeSaid G.Bound m = MaybeSaid m
TreeSaid G.Arg a = ArgumentSaid a
TreeSaid G.Entry p = PairSaid p
TreeSaid G.LambdaParam p = LambdaParameterSaid p
TreeSaid G.Atom e = Said e
TreeSaid G.LoopVars e = Said e
TreeSaid G.ForClause f = Sayable (for_source f)
TreeSaid G.Clauses c = Sayable (for_source c.0) × Each ClauseSaid c.1
TreeSaid G.FStringParts f = FormatSaid f
TreeSaid G.Conversion c = ⊤
TreeSaid (G.OptionalList k) xs = Each (ElementSaid k) xs
TreeSaid (G.CommaList k) xs = Each (ElementSaid k) xs

element_said : {k : ElementKind} {n : Nonterminal} (u : ElementOf k n) (x : TreeOf n) → TreeSaid n x → ElementSaid k (element_tree u x)
element_said G.of_elements x h = h
element_said G.of_arguments x h = h
element_said G.of_entries x h = h
element_said G.of_lambda_parameters x h = h
element_said G.of_variables x h = h
element_said G.of_symbols x h = h
element_said G.of_def_parameters x h = h

operand_said : {k : PrecedenceLevel} {n : Nonterminal} (u : OperandOf k n) (x : TreeOf n) → TreeSaid n x → Said (operand_tree u x)
operand_said G.of_or x h = h
operand_said G.of_and x h = h
operand_said G.of_bit_or x h = h
operand_said G.of_xor x h = h
operand_said G.of_bit_and x h = h
operand_said G.of_shift x h = h
operand_said G.of_add x h = h
operand_said G.of_multiply x h = h

signed_said : (sign : UnarySign) (s : Span) (e : Expression no_payload) → Said e → Said (signed sign s e)
signed_said G.plus_sign s e h = level_said level.Unary e h
signed_said G.minus_sign s e h = level_said level.Unary e h
signed_said G.tilde_sign s e h = level_said level.Unary e h

tuple_said : (s : Span) (es : Seq (Expression no_payload)) → Each Said es → Said (tuple s es)
tuple_said s es h = tupled_said false (tests (expressions_of es)) (tests_said es h)

one_said : (s : Span) (es : Seq (Expression no_payload)) → Each Said es → Said (one_or_tuple s es)
one_said s [] h = tuple_said s [] h
one_said s (e ∷ []) h = h.0
one_said s (e ∷ f ∷ es) h = tuple_said s (e ∷ f ∷ es) h

grouped_said : (brackets : Span) (d : Derivation (G.OptionalList G.elements)) (es : Seq (Expression no_payload)) → Each Said es → Said (grouped brackets d es)
grouped_said brackets G.optional_list_none es h = tuple_said brackets es h
grouped_said brackets (G.optional_list_plain d) es h = one_said (derivation_span (G.optional_list_plain d)) es h
grouped_said brackets (G.optional_list_comma d c) es h = tuple_said (derivation_span (G.optional_list_comma d c)) es h

never : {A : Type 0} → false ≡ true → A
never e = absurd (cc)

module _ (most : ℕ) (bound : most < 2 ^ 32) where
  -- its tokens are read again, and its nodes keep the rules
  abbrev pub IsWritten : RightSide → Type 0
  IsWritten G.nothing = ⊤
  IsWritten (G.word x s) = Rereads most x
  IsWritten (a ⨾ b) = IsWritten a × IsWritten b
  IsWritten (G.marked x a) = (node_keeps x ≡ true) × IsWritten a
  IsWritten G.tokens_end = ⊤

  tree_said : {n : Nonterminal} (d : Derivation n) → IsWritten (right_side d) → TreeSaid n (tree d)
  tree_said G.module_none h = tt
  tree_said (G.module_newline before newline_at) h = tree_said before h.0
  tree_said (G.module_stmt before stmt) h = each_more Lined (tree before) (tree stmt) (tree_said before h.0) (tree_said stmt h.1)
  tree_said (G.stmt_simple d) h = tree_said d h
  tree_said (G.stmt_def def_at w name_at opening_at params closing_at return_type colon_at suite) h =
      def_lined _ (at w name_at) (tree params) (tree return_type) (tree suite) (name_said most bound w name_at h.1.0) (tree_said params h.1.1.1.0)
      (tree_said return_type h.1.1.1.1.1.0) (tree_said suite h.1.1.1.1.1.1.1)
  tree_said (G.stmt_if if_at test colon_at suite rest) h =
      if_lined _ (tree test) (tree suite) (tree rest) (tree_said test h.1.0) (tree_said suite h.1.1.1.0) (tree_said rest h.1.1.1.1)
  tree_said (G.stmt_for d) h = tree_said d h
  tree_said (G.for_loop for_at vars in_at source colon_at suite) h =
      loop_lined _ (tree vars) (tree source) (tree suite) (tree_said vars h.1.1.0) h.0 (tree_said source h.1.1.1.1.0) (tree_said suite h.1.1.1.1.1.1)
  tree_said G.rest_none h = tt
  tree_said (G.rest_elif elif_at test colon_at suite rest) h =
      rest_of_line _ (if_lined _ (tree test) (tree suite) (tree rest) (tree_said test h.1.0) (tree_said suite h.1.1.1.0) (tree_said rest h.1.1.1.1))
  tree_said (G.rest_else else_at colon_at suite) h = rest_of_suite (tree suite) (tree_said suite h.1.1)
  tree_said (G.suite_simple d) h = suited (tree d) (tree_said d h)
  tree_said (G.suite_block newline_at newlines indent_at block dedent_at) h = block_suited _ (tree block) (tree_said block h.1.1.1.0)
  tree_said (G.suite_open newline_at newlines indent_at block) h = block_suited _ (tree block) (tree_said block h.1.1.1.0)
  tree_said G.newlines_none h = tt
  tree_said (G.newlines_more newlines newline_at) h = tt
  tree_said (G.block_first newlines stmt) h = (tree_said stmt h.1, tt)
  tree_said (G.block_newline block newline_at) h = tree_said block h.0
  tree_said (G.block_stmt block stmt) h = each_more Lined (tree block) (tree stmt) (tree_said block h.0) (tree_said stmt h.1)
  tree_said G.return_type_none h = tt
  tree_said (G.return_type_note arrow_at note) h = tree_said note h.1
  tree_said (G.def_param_slash slash_at) h = tt
  tree_said (G.def_param_star star_at) h = tt
  tree_said (G.def_param_args star_at w name_at annotation) h =
      joined (name (at w name_at)) (maybe_type_source colon (tree annotation)) (name_said most bound w name_at h.1.0)
      (type_said colon tt (tree annotation) (tree_said annotation h.1.1))
  tree_said (G.def_param_kwargs stars_at w name_at annotation) h =
      joined (name (at w name_at)) (maybe_type_source colon (tree annotation)) (name_said most bound w name_at h.1.0)
      (type_said colon tt (tree annotation) (tree_said annotation h.1.1))
  tree_said (G.def_param_name w name_at annotation) h =
      joined (name (at w name_at)) (maybe_type_source colon (tree annotation) ++ []) (name_said most bound w name_at h.0)
      (joined (maybe_type_source colon (tree annotation)) [] (type_said colon tt (tree annotation) (tree_said annotation h.1)) tt)
  tree_said (G.def_param_default w name_at annotation equal_at value) h =
      joined (name (at w name_at)) (maybe_type_source colon (tree annotation) ++ (between tokens.Equal ++ test (tree value)))
      (name_said most bound w name_at h.0)
      (joined (maybe_type_source colon (tree annotation)) (between tokens.Equal ++ test (tree value))
      (type_said colon tt (tree annotation) (tree_said annotation h.1.0))
      (tree_said value h.1.1.1))
  tree_said (G.simple_line smalls newline_at) h = smalls_lined _ (tree smalls) (tree_said smalls h.0)
  tree_said (G.simple_semicolon smalls semicolon_at newline_at) h = smalls_lined _ (tree smalls) (tree_said smalls h.0)
  tree_said (G.smalls_one d) h = one_small (tree d) (tree_said d h)
  tree_said (G.smalls_more smalls semicolon_at small) h = more_smalls (tree smalls) (tree small) (tree_said smalls h.0) (tree_said small h.1.1)
  tree_said (G.small_return return_at) h = small_lined return_at (t.Return None) (λ place depth. refl) (λ _. tt)
  tree_said (G.small_return_value return_at value) h =
      small_lined _ (t.Return (Some (tree value))) (λ place depth. refl) (λ _. list_said (tree value) (tree_said value h.1))
  tree_said (G.small_break s) h = small_lined s t.Break (λ place depth. refl) (λ _. tt)
  tree_said (G.small_continue s) h = small_lined s t.Continue (λ place depth. refl) (λ _. tt)
  tree_said (G.small_pass s) h = small_lined s t.Pass (λ place depth. refl) (λ _. tt)
  tree_said (G.small_load load_at opening_at file file_at loaded closing_at) h = load_small _ (at file file_at) (tree loaded) (tree_said loaded h.1.1.1.0)
  tree_said (G.small_test d) h = small_lined _ (t.Evaluate (tree d)) (λ place depth. refl) (λ _. tree_said d h)
  tree_said (G.small_assign left annotation sign sign_at right) h =
      assigned_small _ (tree left) (tree annotation) (assign_operator sign) (tree right) (tree_said left h.1.0) (tree_said annotation h.1.1.0)
      (tree_said right h.1.1.1.1) h.0
  tree_said (G.list_plain d) h = one_said (derivation_span (G.list_plain d)) (tree d) (tree_said d h)
  tree_said (G.list_comma listed comma_at) h = never h.0
  tree_said G.annotation_none h = tt
  tree_said (G.annotation_note colon_at note) h = tree_said note h.1
  tree_said (G.note_test d) h = tree_said d h.1
  tree_said G.symbols_none h = tt
  tree_said (G.symbols_list comma_at loaded) h = loads_said (tree loaded) (commas loaded) (tree_said loaded h.1)
  tree_said (G.sym_same w name_at) h = same_symbol w name_at
  tree_said (G.sym_other w name_at equal_at their their_at) h = other_symbol w name_at their their_at (name_said most bound w name_at h.0)
  tree_said (G.sym_alone w name_at) h = never h.0
  tree_said (G.test_or d) h = tree_said d h
  tree_said (G.test_if value if_at test else_at other) h =
      if_said nowhere (tree test) (tree value) (tree other) (tree_said test h.1.1.0) (tree_said value h.0) (tree_said other h.1.1.1.1)
  tree_said (G.test_lambda lambda_at params colon_at body) h = lambda_said nowhere (tree params) (tree body) (tree_said params h.1.0) (tree_said body h.1.1.1)
  tree_said (G.left_one is_operand operand) h = operand_said is_operand (tree operand) (tree_said operand h)
  tree_said (G.left_more is_operand left sign sign_at right) h =
      operation_said nowhere (operator_of sign) (tree left) (operand_tree is_operand (tree right)) (tree_said left h.0)
      (operand_said is_operand (tree right) (tree_said right h.1.1))
  tree_said (G.not_not not_at operand) h = level_said level.Not (tree operand) (tree_said operand h.1)
  tree_said (G.not_comp d) h = tree_said d h
  tree_said (G.comp_one d) h = tree_said d h
  tree_said (G.comp_two left sign right) h = operation_said nowhere (compared_by sign) (tree left) (tree right) (tree_said left h.0) (tree_said right h.1.1)
  tree_said (G.unary_sign sign sign_at operand) h = signed_said sign _ (tree operand) (tree_said operand h.1)
  tree_said (G.unary_primary d) h = tree_said d h
  tree_said (G.primary_atom d) h = tree_said d h
  tree_said (G.primary_dot operand dot_at w name_at) h =
      joined (at_level level.Primary (tree operand)) (token tokens.Dot ∷ name (at w name_at))
      (level_said level.Primary (tree operand) (tree_said operand h.0))
      (name_said most bound w name_at h.1.1)
  tree_said (G.primary_subscript operand opening_at sub closing_at) h =
      subscript_said _ (tree operand) (tree sub) (tree_said operand h.0) (tree_said sub h.1.1.0)
  tree_said (G.primary_call operand opening_at passed closing_at) h =
      call_said nowhere (tree operand) (tree passed) (tree_said operand h.0) (tree_said passed h.1.1.0)
  tree_said (G.sub_one d) h = tree_said d h
  tree_said (G.sub_two first comma_at second) h = (tree_said first h.0, tree_said second h.1.1)
  tree_said (G.sub_slice begin colon_at stop) h = (tree_said begin h.0, tree_said stop h.1.1, tt)
  tree_said (G.sub_step begin colon_at stop step_at step) h = (tree_said begin h.0, tree_said stop h.1.1.0, tree_said step h.1.1.1.1)
  tree_said G.bound_none h = tt
  tree_said (G.bound_test d) h = tree_said d h
  tree_said (G.arg_test d) h = tree_said d h
  tree_said (G.arg_named w name_at equal_at value) h =
      joined (name (at w name_at)) (between tokens.Equal ++ test (tree value)) (name_said most bound w name_at h.0) (tree_said value h.1.1)
  tree_said (G.arg_star star_at value) h = tree_said value h.1
  tree_said (G.arg_stars stars_at value) h = tree_said value h.1
  tree_said (G.entry key colon_at value) h = (tree_said key h.0, tree_said value h.1.1)
  tree_said (G.lambda_param_slash slash_at) h = tt
  tree_said (G.lambda_param_star star_at) h = tt
  tree_said (G.lambda_param_args star_at w name_at) h = joined (name (at w name_at)) [] (name_said most bound w name_at h.1) tt
  tree_said (G.lambda_param_kwargs stars_at w name_at) h = joined (name (at w name_at)) [] (name_said most bound w name_at h.1) tt
  tree_said (G.lambda_param_name w name_at) h = joined (name (at w name_at)) [] (name_said most bound w name_at h) tt
  tree_said (G.lambda_param_default w name_at equal_at value) h =
      joined (name (at w name_at)) (between tokens.Equal ++ test (tree value)) (name_said most bound w name_at h.0) (tree_said value h.1.1)
  tree_said (G.atom_name w name_at) h = name_said most bound w name_at h
  tree_said (G.atom_int n s) h = int_said most bound s n h
  tree_said (G.atom_float text s) h = float_said most bound text s h
  tree_said (G.atom_string text s) h = tt
  tree_said (G.atom_bytes text s) h = bytes_said most bound text s h
  tree_said (G.atom_ellipsis s) h = tt
  tree_said (G.atom_round opening_at inside closing_at) h = grouped_said _ inside (tree inside) (tree_said inside h.1.0)
  tree_said (G.atom_square opening_at inside closing_at) h =
      in_square_said (listed (tests (expressions_of (tree inside))))
      (listed_said (tests (expressions_of (tree inside))) (tests_said (tree inside) (tree_said inside h.1.0)))
  tree_said (G.atom_curly opening_at inside closing_at) h =
      in_curly_said (listed (pair_sources (pairs_of (tree inside))))
      (listed_said (pair_sources (pairs_of (tree inside))) (pairs_said (tree inside) (tree_said inside h.1.0)))
  tree_said (G.atom_list_comprehension opening_at element clauses closing_at) h =
      let c = tree_said clauses h.1.1.0 in
      let more = for_source (tree clauses).0 ++ clauses_source (clauses_of (tree clauses).1) in
      in_square_said (test (tree element) ++ more)
      (joined (test (tree element)) more (tree_said element h.1.0)
      (joined (for_source (tree clauses).0) (clauses_source (clauses_of (tree clauses).1)) c.0 (clauses_said (tree clauses).1 c.1)))
  tree_said (G.atom_dict_comprehension opening_at pair clauses closing_at) h =
      let c = tree_said clauses h.1.1.0 in
      let p = tree_said pair h.1.0 in
      let more = for_source (tree clauses).0 ++ clauses_source (clauses_of (tree clauses).1) in
      let item = test (tree pair).0 ++ (colon ++ test (tree pair).1) in
      in_curly_said (item ++ more)
      (joined item more (joined (test (tree pair).0) (colon ++ test (tree pair).1) p.0 p.1)
      (joined (for_source (tree clauses).0) (clauses_source (clauses_of (tree clauses).1)) c.0 (clauses_said (tree clauses).1 c.1)))
  tree_said (G.atom_f_string quote opening_at parts closing_at) h = f_string_said _ (tree parts) (tree_said parts h.1.0)
  tree_said (G.vars_plain d) h = one_said (derivation_span (G.vars_plain d)) (tree d) (tree_said d h)
  tree_said (G.vars_comma listed comma_at) h = never h.0
  tree_said (G.for_clause for_at vars in_at source) h = for_said (tree vars) (tree source) (tree_said vars h.1.1.0) h.0 (tree_said source h.1.1.1.1)
  tree_said (G.clauses_one d) h = (tree_said d h, tt)
  tree_said (G.clauses_for clauses clause) h =
      let c = tree_said clauses h.0 in (c.0, each_more ClauseSaid (tree clauses).1 (t.for_clause (tree clause)) c.1 (tree_said clause h.1))
  tree_said (G.clauses_if clauses if_at test) h =
      let c = tree_said clauses h.0 in
      (c.0, each_more ClauseSaid (tree clauses).1 (t.if_clause (tree test)) c.1 (level_said level.Or (tree test) (tree_said test h.1.1)))
  tree_said G.parts_none h = empty_said
  tree_said (G.parts_text parts text text_at) h = text_more (tree parts) text (tree_said parts h.0)
  tree_said (G.parts_replacement parts opening_at value conversion closing_at) h =
      place_more (tree parts) (tree conversion) (tree value) (tree_said parts h.0) (tree_said value h.1.1.0)
  tree_said G.conversion_default h = tt
  tree_said (G.conversion_absent bang_at) h = tt
  tree_said (G.conversion_name bang_at w name_at) h = tt
  tree_said G.optional_list_none h = tt
  tree_said (G.optional_list_plain d) h = tree_said d h
  tree_said (G.optional_list_comma listed comma_at) h = tree_said listed h.0
  tree_said (G.comma_list_one is_element element) h = (element_said is_element (tree element) (tree_said element h), tt)
  tree_said (G.comma_list_more {k = k} is_element listed comma_at element) h =
      each_more (ElementSaid k) (tree listed) (element_tree is_element (tree element)) (tree_said listed h.0)
      (element_said is_element (tree element) (tree_said element h.1.1))

  -- a module has a source if each load binds a name
  pub module_said : (d : Derivation G.Module) → IsWritten (right_side d) → LoadsNames (module_tree d) → Sayable (module_source (module_tree d))
  module_said d h names = whole_said (module_span d) (tree d) (tree_said d h) names
