-- The faults of a module whose nodes keep the rules that are tested while tokens are read.
use Rattle.std.specs.Prelude.{List as Seq, [], ◌∷◌, ◌++◌, Option, Some, None}
use Rattle.starlark_lexer.specs.declared.dialect.Dialect.{Dialect}
use Rattle.starlark_tree.specs.Ast.{Statement, no_payload}
use Rattle.starlark_spec.specs.Faults.{Fault}
use Rattle.starlark_spec.specs.Grammar.{Derivation}
use Rattle.starlark_spec.specs.Grammar.Nonterminal.{Module}
use Rattle.starlark_spec.specs.Trees.{module_tree}
use Rattle.starlark_validate.specs.KeptFaults.{kept}
use Rattle.starlark_validate.specs.KeptTreeFaults.{in_statement}
use Rattle.starlark_validate.specs.Validity.{tree_faults}

-- Those of calls, f-strings and loads in the order in which these end, then those of the statements of its tree, and then those of the expressions.
abbrev pub faults : Dialect → Derivation Module → Seq Fault
faults dialect d = kept dialect d ++ tree_faults dialect (module_tree d)

abbrev pub first : Seq Fault → Option Fault
first [] = None
first (f ∷ fs) = Some f

-- the same for a tree
abbrev pub faults_in : Dialect → Statement no_payload → Seq Fault
faults_in dialect s = in_statement dialect s ++ tree_faults dialect s
