-- The names that a module binds at its top, and those of them that it never reads.
use Rattle.std.specs.Prelude.{Bool, List as Seq, [], ◌∷◌, ◌++◌, filter, map, not}
use Rattle.std.specs.List.{list_any}
use Rattle.std.specs.Str.{bytes_eq}
use Rattle.starlark_syntax.specs.lexer.Tokens.{Text}
use Rattle.starlark_syntax.specs.tree.Ast as t
use Rattle.starlark_syntax.specs.tree.Ast.{Payloads, Word}
use Rattle.starlark_syntax.specs.tree.Places.{lvalues}
use Rattle.starlark_syntax.specs.uniplate.Idents.{all_idents}

-- The names that a statement binds at the top, in order. What a function binds is its own, and `x += 1` binds no new name.
abbrev mutual
  pub bound_names : {P : Payloads} → t.Statement P → Seq (Word × P.assign)
  bound_names (t.statement s t.Break) = []
  bound_names (t.statement s t.Continue) = []
  bound_names (t.statement s t.Pass) = []
  bound_names (t.statement s (t.Return value)) = []
  bound_names (t.statement s (t.Evaluate value)) = []
  bound_names (t.statement s (t.Assign target ty value)) = lvalues target
  bound_names (t.statement s (t.AssignModify target op value)) = []
  bound_names (t.statement s (t.Block parts)) = all_bound_names parts
  bound_names (t.statement s (t.IfThen condition body)) = bound_names body
  bound_names (t.statement s (t.IfElse condition body other)) = bound_names body ++ bound_names other
  bound_names (t.statement s (t.For target over body)) = lvalues target ++ bound_names body
  bound_names (t.statement s (t.Def name p params ty body q)) = (name, p) ∷ []
  bound_names (t.statement s (t.Load path symbols p)) = map (λ symbol. (symbol.local, symbol.payload)) symbols

  pub all_bound_names : {P : Payloads} → t.Statements P → Seq (Word × P.assign)
  all_bound_names t.no_statements = []
  all_bound_names (t.statements part parts) = bound_names part ++ all_bound_names parts

module _ {P : Payloads} where
  -- whether a name is read anywhere in a statement
  abbrev pub is_read : t.Statement P → Text → Bool
  is_read (t.statement s form) name = list_any (λ ident. bytes_eq ident.0.text name) (all_idents form)

  -- the names that are bound at the top and never read
  abbrev pub unread_names : t.Statement P → Seq (Word × P.assign)
  unread_names top = filter (λ name. not (is_read top name.0.text)) (bound_names top)
