-- The machine's places and states: a derivation of a module with a hole, as far as it was read.
use Rattle.starlark_lexer.specs.Tokens.{Text, Span}
use Rattle.starlark_lexer.specs.declared.token.FStringQuote.{FStringQuote}
use Rattle.starlark_spec.specs.Grammar.{Nonterminal, ElementKind, ElementOf, PrecedenceLevel, OperandOf, Operator, CompSign, UnarySign, AssignSign, Derivation}
use Rattle.starlark_spec.specs.Grammar.PrecedenceLevel.{or_precedence, bit_or_precedence}
use Rattle.starlark_spec.specs.Grammar.ElementKind.{elements, arguments, entries, lambda_parameters, variables, symbols, def_parameters}
use Rattle.starlark_spec.specs.Grammar.Nonterminal.{Module, Stmt, Simple, Small, Test, Not, Comp, Unary, Primary, Atom, Sub, Bound}
use Rattle.starlark_spec.specs.Grammar.Nonterminal.{Arg, Entry, LambdaParam, FStringParts, Conversion, LoopVars, ForClause, Clauses}
use Rattle.starlark_spec.specs.Grammar.Nonterminal.{Smalls, TestList, Annotation, Note, Symbols, Sym, Suite, Block, Newlines, Rest}
use Rattle.starlark_spec.specs.Grammar.Nonterminal.{For, ReturnType, DefParam, LeftAssociative, OptionalList, CommaList}

-- what may be a root: a module, and nodes that a rule is about
pub data Rooted : Nonterminal → Type 0 where
  module_root : Rooted Module
  conversion_root : Rooted Conversion
  vars_root : Rooted LoopVars
  clause_root : Rooted ForClause
  list_root : Rooted TestList
  note_root : Rooted Note
  sym_root : Rooted Sym
  small_root : Rooted Small
  for_root : Rooted For

-- where a derivation of b continues once a nonterminal in it is derived
pub data Place (b : Nonterminal) : Nonterminal → Type 0 where
  top : Rooted b → Place b b
  module_stmt_at : Derivation Module → Place b Module → Place b Stmt
  stmt_simple_at : Place b Stmt → Place b Simple
  def_parameters_at : Span → Text → Span → Span → Place b Stmt → Place b (OptionalList def_parameters)
  def_return_type_at : Span → Text → Span → Span → Derivation (OptionalList def_parameters) → Span → Place b Stmt → Place b ReturnType
  def_suite_at : Span → Text → Span → Span → Derivation (OptionalList def_parameters) → Span → Derivation ReturnType → Span → Place b Stmt → Place b Suite
  if_test_at : Span → Place b Stmt → Place b Test
  if_suite_at : Span → Derivation Test → Span → Place b Stmt → Place b Suite
  if_rest_at : Span → Derivation Test → Span → Derivation Suite → Place b Stmt → Place b Rest
  stmt_for_at : Place b Stmt → Place b For
  for_vars_at : Span → Place b For → Place b LoopVars
  for_source_at : Span → Derivation LoopVars → Span → Place b For → Place b Test
  for_suite_at : Span → Derivation LoopVars → Span → Derivation Test → Span → Place b For → Place b Suite
  elif_test_at : Span → Place b Rest → Place b Test
  elif_suite_at : Span → Derivation Test → Span → Place b Rest → Place b Suite
  elif_rest_at : Span → Derivation Test → Span → Derivation Suite → Place b Rest → Place b Rest
  else_suite_at : Span → Span → Place b Rest → Place b Suite
  suite_simple_at : Place b Suite → Place b Simple
  suite_newlines_at : Span → Place b Suite → Place b Newlines
  suite_block_at : Span → Derivation Newlines → Span → Place b Suite → Place b Block
  block_newlines_at : Place b Block → Place b Newlines
  block_first_at : Derivation Newlines → Place b Block → Place b Stmt
  block_stmt_at : Derivation Block → Place b Block → Place b Stmt
  return_type_note_at : Span → Place b ReturnType → Place b Note
  args_annotation_at : Span → Text → Span → Place b DefParam → Place b Annotation
  kwargs_annotation_at : Span → Text → Span → Place b DefParam → Place b Annotation
  def_param_annotation_at : Text → Span → Place b DefParam → Place b Annotation
  def_param_default_at : Text → Span → Derivation Annotation → Span → Place b DefParam → Place b Test
  simple_smalls_at : Place b Simple → Place b Smalls
  smalls_one_at : Place b Smalls → Place b Small
  smalls_more_at : Derivation Smalls → Span → Place b Smalls → Place b Small
  return_value_at : Span → Place b Small → Place b TestList
  load_symbols_at : Span → Span → Text → Span → Place b Small → Place b Symbols
  -- an expression, or the target of an assignment
  small_list_at : Place b Small → Place b TestList
  assign_annotation_at : Derivation TestList → Place b Small → Place b Annotation
  assign_value_at : Derivation TestList → Derivation Annotation → AssignSign → Span → Place b Small → Place b TestList
  list_elements_at : Place b TestList → Place b (CommaList elements)
  annotation_note_at : Span → Place b Annotation → Place b Note
  note_test_at : Place b Note → Place b Test
  symbols_list_at : Span → Place b Symbols → Place b (OptionalList symbols)
  test_or_at : Place b Test → Place b (LeftAssociative or_precedence)
  test_if_at : Derivation (LeftAssociative or_precedence) → Span → Place b Test → Place b (LeftAssociative or_precedence)
  test_else_at : Derivation (LeftAssociative or_precedence) → Span → Derivation (LeftAssociative or_precedence) → Span → Place b Test → Place b Test
  lambda_parameters_at : Span → Place b Test → Place b (OptionalList lambda_parameters)
  lambda_body_at : Span → Derivation (OptionalList lambda_parameters) → Span → Place b Test → Place b Test
  left_first_at : {k : PrecedenceLevel} {n : Nonterminal} → OperandOf k n → Place b (LeftAssociative k) → Place b n
  left_right_at : {k : PrecedenceLevel} {n : Nonterminal} → OperandOf k n → Derivation (LeftAssociative k) → Operator k → Span → Place b (LeftAssociative k)
      → Place b n
  not_not_at : Span → Place b Not → Place b Not
  not_comp_at : Place b Not → Place b Comp
  comp_first_at : Place b Comp → Place b (LeftAssociative bit_or_precedence)
  comp_right_at : Derivation (LeftAssociative bit_or_precedence) → CompSign → Place b Comp → Place b (LeftAssociative bit_or_precedence)
  unary_sign_at : UnarySign → Span → Place b Unary → Place b Unary
  unary_primary_at : Place b Unary → Place b Primary
  primary_atom_at : Place b Primary → Place b Atom
  primary_subscript_at : Derivation Primary → Span → Place b Primary → Place b Sub
  -- an index, or where a slice starts
  sub_first_at : Place b Sub → Place b Test
  sub_two_at : Derivation Test → Span → Place b Sub → Place b Test
  sub_stop_at : Derivation Bound → Span → Place b Sub → Place b Bound
  sub_step_at : Derivation Bound → Span → Derivation Bound → Span → Place b Sub → Place b Bound
  bound_test_at : Place b Bound → Place b Test
  primary_call_at : Derivation Primary → Span → Place b Primary → Place b (OptionalList arguments)
  -- an argument, or its name
  arg_test_at : Place b Arg → Place b Test
  arg_named_at : Text → Span → Span → Place b Arg → Place b Test
  arg_star_at : Span → Place b Arg → Place b Test
  arg_stars_at : Span → Place b Arg → Place b Test
  entry_key_at : Place b Entry → Place b Test
  entry_value_at : Derivation Test → Span → Place b Entry → Place b Test
  lambda_param_default_at : Text → Span → Span → Place b LambdaParam → Place b Test
  atom_round_at : Span → Place b Atom → Place b (OptionalList elements)
  atom_square_at : Span → Place b Atom → Place b (OptionalList elements)
  atom_curly_at : Span → Place b Atom → Place b (OptionalList entries)
  list_clauses_at : Span → Derivation Test → Place b Atom → Place b Clauses
  dict_clauses_at : Span → Derivation Entry → Place b Atom → Place b Clauses
  vars_elements_at : Place b LoopVars → Place b (CommaList variables)
  clause_vars_at : Span → Place b ForClause → Place b LoopVars
  clause_source_at : Span → Derivation LoopVars → Span → Place b ForClause → Place b (LeftAssociative or_precedence)
  clauses_one_at : Place b Clauses → Place b ForClause
  clauses_for_at : Derivation Clauses → Place b Clauses → Place b ForClause
  clauses_if_at : Derivation Clauses → Span → Place b Clauses → Place b (LeftAssociative or_precedence)
  parts_at : FStringQuote → Span → Place b Atom → Place b FStringParts
  replacement_at : Derivation FStringParts → Span → Place b FStringParts → Place b Test
  conversion_at : Derivation FStringParts → Span → Derivation Test → Place b FStringParts → Place b Conversion
  comma_list_at : {k : ElementKind} → Place b (OptionalList k) → Place b (CommaList k)
  comma_list_one_at : {k : ElementKind} {n : Nonterminal} → ElementOf k n → Place b (CommaList k) → Place b n
  comma_list_more_at : {k : ElementKind} {n : Nonterminal} → ElementOf k n → Derivation (CommaList k) → Span → Place b (CommaList k) → Place b n

-- what the machine is about to do
pub data State (b : Nonterminal) : Type 0 where
  read : (n : Nonterminal) → Place b n → State b
  done : {n : Nonterminal} → Derivation n → Place b n → State b
  -- a module that may continue, and likewise what is inside an f-string
  module_tail : Derivation Module → Place b Module → State b
  newlines_tail : Derivation Newlines → Place b Newlines → State b
  block_tail : Derivation Block → Place b Block → State b
  -- operands that may continue, and an operand that may have further suffixes
  parts_tail : Derivation FStringParts → Place b FStringParts → State b
  clauses_tail : Derivation Clauses → Place b Clauses → State b
  left_tail : {k : PrecedenceLevel} → Derivation (LeftAssociative k) → Place b (LeftAssociative k) → State b
  primary_tail : Derivation Primary → Place b Primary → State b
  -- after a comma between the elements of a list
  after_comma : {k : ElementKind} → Derivation (CommaList k) → Span → Place b (OptionalList k) → State b
  after_vars_comma : Derivation (CommaList variables) → Span → Place b LoopVars → State b
  after_list_comma : Derivation (CommaList elements) → Span → Place b TestList → State b
  -- after `;`, after `return`, and after the name of a load's symbol
  after_semicolon : Derivation Smalls → Span → Place b Simple → State b
  after_return : Span → Place b Small → State b
  after_symbol : Text → Span → Place b Sym → State b
  after_def_param_star : Span → Place b DefParam → State b
  -- after the `*` of a parameter, and after its name
  after_star : Span → Place b LambdaParam → State b
  after_name : Text → Span → Place b LambdaParam → State b
  -- after `!` in an f-string, and after a name there
  after_bang : Span → Place b Conversion → State b
  conversion_named : Span → Text → Span → Place b Conversion → State b
  -- a token is required
  newline_due : Derivation Smalls → Place b Simple → State b
  line_end_due : Derivation Smalls → Span → Place b Simple → State b
  load_round_due : Span → Place b Small → State b
  load_string_due : Span → Span → Place b Small → State b
  load_due : Span → Span → Text → Span → Derivation Symbols → Place b Small → State b
  their_due : Text → Span → Span → Place b Sym → State b
  def_name_due : Span → Place b Stmt → State b
  def_round_due : Span → Text → Span → Place b Stmt → State b
  def_close_due : Span → Text → Span → Span → Derivation (OptionalList def_parameters) → Place b Stmt → State b
  def_colon_due : Span → Text → Span → Span → Derivation (OptionalList def_parameters) → Span → Derivation ReturnType → Place b Stmt → State b
  if_colon_due : Span → Derivation Test → Place b Stmt → State b
  elif_colon_due : Span → Derivation Test → Place b Rest → State b
  else_colon_due : Span → Place b Rest → State b
  for_in_due : Span → Derivation LoopVars → Place b For → State b
  for_colon_due : Span → Derivation LoopVars → Span → Derivation Test → Place b For → State b
  indent_due : Span → Derivation Newlines → Place b Suite → State b
  def_param_kwargs_due : Span → Place b DefParam → State b
  else_due : Derivation (LeftAssociative or_precedence) → Span → Derivation (LeftAssociative or_precedence) → Place b Test → State b
  in_due : Derivation (LeftAssociative bit_or_precedence) → Span → Place b Comp → State b
  name_due : Derivation Primary → Span → Place b Primary → State b
  colon_due : Derivation Bound → Place b Sub → State b
  subscript_due : Derivation Primary → Span → Derivation Sub → Place b Primary → State b
  call_due : Derivation Primary → Span → Derivation (OptionalList arguments) → Place b Primary → State b
  lambda_due : Span → Derivation (OptionalList lambda_parameters) → Place b Test → State b
  value_due : Derivation Test → Place b Entry → State b
  kwargs_due : Span → Place b LambdaParam → State b
  round_due : Span → Derivation (OptionalList elements) → Place b Atom → State b
  square_due : Span → Derivation (OptionalList elements) → Place b Atom → State b
  curly_due : Span → Derivation (OptionalList entries) → Place b Atom → State b
  clause_in_due : Span → Derivation LoopVars → Place b ForClause → State b
  list_comprehension_due : Span → Derivation Test → Derivation Clauses → Place b Atom → State b
  dict_comprehension_due : Span → Derivation Entry → Derivation Clauses → Place b Atom → State b
  replacement_due : Derivation FStringParts → Span → Derivation Test → Derivation Conversion → Place b FStringParts → State b
  f_string_due : FStringQuote → Span → Derivation FStringParts → Place b Atom → State b
