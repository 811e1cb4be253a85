-- The expressions in lists: those of the arguments of a call, and of the clauses of a comprehension.
use Rattle.std.specs.Global.{Global}
use Rattle.std.specs.Prelude.{List as Seq, Vec}
use Rattle.starlark_tree.specs.Ast as t
use Rattle.starlark_tree.specs.Places.{arguments_exprs, clauses_exprs}
use Rattle.starlark_tree.specs.Views.{arguments_seen, clauses_seen, payloads}
use Rattle.starlark_tree.specs.declared.ast.ArgumentP.TheBlock as Block
use Rattle.starlark_tree.specs.declared.ast.CallArgsP.{CallArgsP}
use Rattle.starlark_tree.specs.declared.ast.ClauseP.{ClauseP}

module _ {P A B C D E : Type 0} where
  abbrev pub exprs_passed : CallArgsP P A B C D E → Seq (t.Expression (payloads A B C D E))
  exprs_passed args = arguments_exprs (arguments_seen (Block.hidden-the_row-CallArgsP-args-2-2 P A B C D E args.args))

  abbrev pub exprs_of_clauses : Vec (ClauseP P A B C D E) Global → Seq (t.Expression (payloads A B C D E))
  exprs_of_clauses v = clauses_exprs (clauses_seen (Block.hidden-the_row-ClauseP-5 P A B C D E v))
