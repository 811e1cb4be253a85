-- Where the machine stops because of a broken rule.
use Rattle.std.specs.Prelude.{if◌then◌else◌, Bool, true, false, Option, Some, None, Result, Ok, Err}
use Rattle.starlark_lexer.specs.Tokens.{Span, from_to}
use Rattle.starlark_lexer.specs.declared.token.FStringConv.{FStringConv}
use Rattle.starlark_tree.specs.Ast.{Expression, expression_span, no_payload}
use Rattle.starlark_spec.specs.declared.error.GrammarError.TheVariants.{FStringConversion, UnparenthesizedTupleTrailingComma, LoadNameWithoutEqual}
use Rattle.starlark_spec.specs.Faults.{Fault, rule_fault, grammar_fault, Types}
use Rattle.starlark_spec.specs.Targets.{target}
use Rattle.starlark_spec.specs.Types.{reading}
use Rattle.starlark_spec.specs.Assignments.{assigned_target}
use Rattle.starlark_lexer.specs.declared.dialect.DialectTypes.{DialectTypes}
use Rattle.starlark_lexer.specs.declared.dialect.DialectTypes.TheVariants.{Disable, ParseOnly, Enable}
use Rattle.starlark_spec.specs.Grammar.{Nonterminal, Derivation}
use Rattle.starlark_spec.specs.Grammar.Nonterminal.{Small, Conversion, LoopVars, ForClause, TestList, Note, Sym, For}
use Rattle.starlark_spec.specs.Grammar.Derivation.{for_loop, small_assign, list_plain, list_comma, note_test, sym_alone, vars_plain}
use Rattle.starlark_spec.specs.Grammar.Derivation.{vars_comma, for_clause, conversion_default, conversion_absent, conversion_name}
use Rattle.starlark_spec.specs.Trees.{conversion_of, derivation_span, assign_operator, tree}
use Rattle.starlark_spec.specs.Machine.States.{State}
use Rattle.starlark_spec.specs.Machine.States.State.{done}
use Rattle.starlark_spec.specs.Machine.Sight.{Look, is_ending}
use Rattle.starlark_spec.specs.Machine.Moves.{Move, move}

-- up to where the next token begins, or the span itself if there is none
abbrev pub up_to_look : Span → Look → Span
up_to_look s l = if is_ending l.kind then s else from_to s.begin l.first.span.begin

abbrev pub unless : Option FStringConv → Fault → Option Fault
unless (Some c) f = None
unless None f = Some f

abbrev pub fault_of : {A : Type 0} → Result A Fault → Option Fault
fault_of (Ok x) = None
fault_of (Err f) = Some f

abbrev pub conversion_fault : Derivation Conversion → Look → Option Fault
conversion_fault conversion_default l = None
conversion_fault (conversion_absent s) l = Some (grammar_fault FStringConversion (up_to_look s l))
conversion_fault (conversion_name s name i) l = unless (conversion_of name) (grammar_fault FStringConversion (from_to s.begin i.end))

abbrev pub vars_fault : Derivation LoopVars → Option Fault
vars_fault (vars_plain d) = None
vars_fault (vars_comma d c) = Some (grammar_fault UnparenthesizedTupleTrailingComma (derivation_span (vars_comma d c)))

abbrev pub clause_fault : Derivation ForClause → Option Fault
clause_fault (for_clause f d i e) = fault_of (target (tree d))

abbrev pub list_fault : Derivation TestList → Option Fault
list_fault (list_plain d) = None
list_fault (list_comma d c) = Some (grammar_fault UnparenthesizedTupleTrailingComma (derivation_span (list_comma d c)))

abbrev pub sym_fault : Derivation Sym → Option Fault
sym_fault (sym_alone text i) = Some (grammar_fault LoadNameWithoutEqual i)
sym_fault d = None

-- the fault of a type, given which types the dialect allows
abbrev pub type_fault : DialectTypes → Expression no_payload → Option Fault
type_fault Disable e = Some (rule_fault Types (expression_span e))
type_fault ParseOnly e = fault_of (reading e)
type_fault Enable e = fault_of (reading e)

abbrev pub note_fault : DialectTypes → Derivation Note → Option Fault
note_fault types (note_test d) = type_fault types (tree d)

abbrev pub small_fault : Derivation Small → Option Fault
small_fault (small_assign d n o s e) = fault_of (assigned_target (tree d) (tree n) (assign_operator o))
small_fault d = None

abbrev pub loop_fault : Derivation For → Option Fault
loop_fault (for_loop f d i e c s) = fault_of (target (tree d))

-- the rule broken by a node
abbrev pub node_fault : DialectTypes → (n : Nonterminal) → Derivation n → Look → Option Fault
node_fault types Conversion d l = conversion_fault d l
node_fault types LoopVars d l = vars_fault d
node_fault types ForClause d l = clause_fault d
node_fault types TestList d l = list_fault d
node_fault types Sym d l = sym_fault d
node_fault types Note d l = note_fault types d
node_fault types Small d l = small_fault d
node_fault types For d l = loop_fault d
node_fault types n d l = None

-- the broken rule, unless memory ran out
abbrev pub in_time : Bool → Option Fault → Option Fault
in_time no_memory None = None
in_time true (Some f) = None
in_time false (Some f) = Some f

-- the rule broken by what is done
abbrev pub fault_at : {b : Nonterminal} → DialectTypes → State b → Look → Option Fault
fault_at types (done {n} d p) l = in_time l.no_memory (node_fault types n d l)
fault_at types s l = None

-- a move, or a broken rule
pub data Ruled (b : Nonterminal) : Type 0 where
  Moves : Move b → Ruled b
  Refuses : Fault → Ruled b

abbrev pub judged : {b : Nonterminal} → Option Fault → Move b → Ruled b
judged None m = Moves m
judged (Some f) m = Refuses f

abbrev pub ruled : {b : Nonterminal} → DialectTypes → State b → Look → Ruled b
ruled types s l = judged (fault_at types s l) (move s l)
