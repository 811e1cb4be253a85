-- What is visible of a module's statements from outside.
use Rattle.std.specs.Prelude.{List as Seq, [], ◌∷◌, ◌++◌, filter_map, fold, Option, Some, None}
use Rattle.std.specs.Str.{bytes_eq}
use Rattle.indexmap.specs.IndexMap.{insert_entry}
use Rattle.starlark_lexer.specs.Tokens.{Text, Span}
use Rattle.starlark_tree.specs.Ast as t
use Rattle.starlark_tree.specs.Ast.{Payloads}

-- the statements at the top, those of a list of statements instead of the list
abbrev mutual
  pub top_statements : {P : Payloads} → t.Statement P → Seq (t.Statement P)
  top_statements (t.statement s (t.Block ss)) = all_top ss
  top_statements (t.statement s other) = t.statement s other ∷ []

  pub all_top : {P : Payloads} → t.Statements P → Seq (t.Statement P)
  all_top t.no_statements = []
  all_top (t.statements s ss) = top_statements s ++ all_top ss

-- A load as it is listed. The symbols go from local name to source.
pub record Load : Type 0 where
  pub span : Span
  pub module_id : Text
  pub symbols : Seq (Text × Text)

-- A local name that comes again keeps its first position and has the last source.
abbrev pub with_symbol : {P : Payloads} → Seq (Text × Text) → t.LoadArg P → Seq (Text × Text)
with_symbol so_far a = insert_entry bytes_eq so_far a.local.text a.their.text

abbrev pub symbols_of : {P : Payloads} → Seq (t.LoadArg P) → Seq (Text × Text)
symbols_of xs = fold with_symbol [] xs

abbrev pub load_of : {P : Payloads} → t.Statement P → Option Load
load_of (t.statement s (t.Load w xs q)) = Some (record { span = w.span; module_id = w.text; symbols = symbols_of xs })
load_of (t.statement s _) = None

abbrev pub loads : {P : Payloads} → t.Statement P → Seq Load
loads s = filter_map load_of (top_statements s)

-- the spans of all statements except lists of statements, each before what it contains
abbrev mutual
  pub locations : {P : Payloads} → t.Statement P → Seq Span
  locations (t.statement s (t.Block ss)) = all_locations ss
  locations (t.statement s (t.IfThen e body)) = s ∷ locations body
  locations (t.statement s (t.IfElse e body other)) = s ∷ locations body ++ locations other
  locations (t.statement s (t.For target over body)) = s ∷ locations body
  locations (t.statement s (t.Def w q ps ty body r)) = s ∷ locations body
  locations (t.statement s other) = s ∷ []

  pub all_locations : {P : Payloads} → t.Statements P → Seq Span
  all_locations t.no_statements = []
  all_locations (t.statements s ss) = locations s ++ all_locations ss
