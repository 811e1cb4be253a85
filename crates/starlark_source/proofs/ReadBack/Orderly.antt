-- Each module of the grammar is orderly: a block has a statement.
use Rattle.std.specs.Prelude.{List as Seq, [], ◌∷◌, ◌++◌, Option, Some, None, ⊤}
use Rattle.starlark_lexer.specs.Tokens.{Span}
use Rattle.starlark_tree.specs.Ast as t
use Rattle.starlark_tree.specs.Ast.{no_payload, Statement, statement, statements_of}
use Rattle.starlark_spec.specs.Grammar.{Derivation}
use Rattle.starlark_spec.specs.Grammar.Nonterminal.{Module, Stmt, Simple, Small, Smalls, Suite, Block, Rest, For}
use Rattle.starlark_spec.specs.Grammar.Derivation.{module_none, module_newline, module_stmt, stmt_simple, stmt_def, stmt_if, stmt_for, for_loop, rest_none}
use Rattle.starlark_spec.specs.Grammar.Derivation.{rest_elif, rest_else, suite_simple, suite_block, suite_open, block_first, block_newline, block_stmt}
use Rattle.starlark_spec.specs.Grammar.Derivation.{simple_line, simple_semicolon, smalls_one, smalls_more, small_return, small_return_value, small_break}
use Rattle.starlark_spec.specs.Grammar.Derivation.{small_continue, small_pass, small_load, small_test, small_assign}
use Rattle.starlark_spec.specs.Trees.{tree, module_tree, one_or_block, if_form}
use Rattle.starlark_spec.specs.Assignments.{assigned}
use Rattle.starlark_tree.specs.declared.ast.operator.AssignOp.{AssignOp}
use Rattle.starlark_source.specs.ReadsBack.{HasNoEmptyBlock, HaveNoEmptyBlock, FormHasNoEmptyBlock, IsOrderly}

-- each of some statements has no empty block
data All : Seq (Statement no_payload) → Type 0 where
  none : All []
  one_more : {s : Statement no_payload} {ss : Seq (Statement no_payload)} → HasNoEmptyBlock s → All ss → All (s ∷ ss)

added : (ss : Seq (Statement no_payload)) (s : Statement no_payload) → All ss → HasNoEmptyBlock s → All (ss ++ s ∷ [])
added [] s none h = one_more h none
added (x ∷ xs) s (one_more g gs) h = one_more g (added xs s gs h)

-- a list with one more at its end is not empty
abbrev Filled : Seq (Statement no_payload) → Type 0
Filled [] = ⊥
Filled (s ∷ ss) = ⊤

filled_added : (ss : Seq (Statement no_payload)) (s : Statement no_payload) → Filled (ss ++ s ∷ [])
filled_added [] s = tt
filled_added (x ∷ xs) s = tt

listed : {ss : Seq (Statement no_payload)} → All ss → HaveNoEmptyBlock (statements_of ss)
listed none = tt
listed (one_more h hs) = (h, listed hs)

block_of : (r : Span) (ss : Seq (Statement no_payload)) → All ss → Filled ss → HasNoEmptyBlock (one_or_block r ss)
block_of r [] h f = elim f [ ]
block_of r (s ∷ []) (one_more h none) f = h
block_of r (s ∷ x ∷ xs) (one_more h hs) f = (h, listed hs)

assigned_orderly : (ty : t.MaybeType no_payload) (o : Option AssignOp) (e : t.Expression no_payload) (x : t.Target no_payload)
    → FormHasNoEmptyBlock (assigned ty o e x)
assigned_orderly ty None e x = tt
assigned_orderly ty (Some o) e x = tt

-- what comes after a body
abbrev RestIsOrderly : Option (Statement no_payload) → Type 0
RestIsOrderly None = ⊤
RestIsOrderly (Some s) = HasNoEmptyBlock s

if_orderly : (e : t.Expression no_payload) (body : Statement no_payload) (rest : Option (Statement no_payload)) → HasNoEmptyBlock body → RestIsOrderly rest
    → FormHasNoEmptyBlock (if_form e body rest)
if_orderly e body None h r = h
if_orderly e body (Some s) h r = (h, r)

small_orderly : (d : Derivation Small) → HasNoEmptyBlock (tree d)
small_orderly (small_return at) = tt
small_orderly (small_return_value at e) = tt
small_orderly (small_break s) = tt
small_orderly (small_continue s) = tt
small_orderly (small_pass s) = tt
small_orderly (small_load a b f g h i) = tt
small_orderly (small_test d) = tt
small_orderly (small_assign l a s p r) = assigned_orderly _ _ _ _

smalls_orderly : (d : Derivation Smalls) → All (tree d)
smalls_orderly (smalls_one d) = one_more (small_orderly d) none
smalls_orderly (smalls_more ds at d) = added (tree ds) (tree d) (smalls_orderly ds) (small_orderly d)

smalls_filled : (d : Derivation Smalls) → Filled (tree d)
smalls_filled (smalls_one d) = tt
smalls_filled (smalls_more ds at d) = filled_added (tree ds) (tree d)

simple_orderly : (d : Derivation Simple) → HasNoEmptyBlock (tree d)
simple_orderly (simple_line d at) = block_of _ (tree d) (smalls_orderly d) (smalls_filled d)
simple_orderly (simple_semicolon d s at) = block_of _ (tree d) (smalls_orderly d) (smalls_filled d)

block_filled : (d : Derivation Block) → Filled (tree d)
block_filled (block_first n d) = tt
block_filled (block_newline b at) = block_filled b
block_filled (block_stmt b d) = filled_added (tree b) (tree d)

mutual
  stmt_orderly : (d : Derivation Stmt) → HasNoEmptyBlock (tree d)
  stmt_orderly (stmt_simple d) = simple_orderly d
  stmt_orderly (stmt_def a name b c ps e ty f suite) = suite_orderly suite
  stmt_orderly (stmt_if a e b suite rest) = if_orderly (tree e) (tree suite) (tree rest) (suite_orderly suite) (rest_orderly rest)
  stmt_orderly (stmt_for d) = for_orderly d

  for_orderly : (d : Derivation For) → HasNoEmptyBlock (tree d)
  for_orderly (for_loop a vars b e c suite) = suite_orderly suite

  rest_orderly : (d : Derivation Rest) → RestIsOrderly (tree d)
  rest_orderly rest_none = tt
  rest_orderly (rest_elif a e b suite rest) = if_orderly (tree e) (tree suite) (tree rest) (suite_orderly suite) (rest_orderly rest)
  rest_orderly (rest_else a b suite) = suite_orderly suite

  suite_orderly : (d : Derivation Suite) → HasNoEmptyBlock (tree d)
  suite_orderly (suite_simple d) = simple_orderly d
  suite_orderly (suite_block a n b block c) = block_of _ (tree block) (block_orderly block) (block_filled block)
  suite_orderly (suite_open a n b block) = block_of _ (tree block) (block_orderly block) (block_filled block)

  block_orderly : (d : Derivation Block) → All (tree d)
  block_orderly (block_first n d) = one_more (stmt_orderly d) none
  block_orderly (block_newline b at) = block_orderly b
  block_orderly (block_stmt b d) = added (tree b) (tree d) (block_orderly b) (stmt_orderly d)

module_orderly : (d : Derivation Module) → All (tree d)
module_orderly module_none = none
module_orderly (module_newline before at) = module_orderly before
module_orderly (module_stmt before d) = added (tree before) (tree d) (module_orderly before) (stmt_orderly d)

orderly_of : (r : Span) (ss : Seq (Statement no_payload)) → All ss → IsOrderly (one_or_block r ss)
orderly_of r [] none = tt
orderly_of r (statement s (t.Block t.no_statements) ∷ []) (one_more h none) = tt
orderly_of r (statement s form ∷ []) (one_more h none) = h
orderly_of r (s ∷ x ∷ xs) (one_more h hs) = (h, listed hs)

-- a module's tree is orderly
pub parsed_is_orderly : (d : Derivation Module) → IsOrderly (module_tree d)
parsed_is_orderly d = orderly_of _ (tree d) (module_orderly d)
