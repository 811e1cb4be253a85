-- The lines of statements in memory, as marks on a page.
use Rattle.std.specs.Prelude.{ℕ, ◌+◌, ◌*◌, List as Seq, [], ◌∷◌, ◌++◌, codes, map, replicate, Option, Some, None}
use Rattle.std.specs.Global.{Global}
use Rattle.std.specs.declared.boxed.Box.{Box}
use Rattle.starlark_lexer.specs.Tokens.{Text, span_of, nowhere}
use Rattle.starlark_lexer.specs.declared.span.Span.{Span as CodeSpan}
use Rattle.starlark_lexer.specs.declared.span.Spanned.{Spanned}
use Rattle.starlark_tree.specs.Ast as t
use Rattle.starlark_tree.specs.Views.{form_seen, all_statements, load_arg_of, maybe_type_of, target_of, target_seen, word}
use Rattle.starlark_tree.specs.declared.ast.AssignP.{AssignP}
use Rattle.starlark_tree.specs.declared.ast.AssignTargetP.{AssignTargetP}
use Rattle.starlark_tree.specs.declared.ast.ExprP.{ExprP}
use Rattle.starlark_tree.specs.declared.ast.LoadArgP.{LoadArgP}
use Rattle.starlark_tree.specs.declared.ast.LoadP.{LoadP}
use Rattle.starlark_tree.specs.declared.ast.ParameterP.{ParameterP}
use Rattle.starlark_tree.specs.declared.ast.StmtP.{StmtP}
use Rattle.starlark_tree.specs.declared.ast.TypeExprP.{TypeExprP}
use Rattle.starlark_source.specs.Pages.{Draft, say}
use Rattle.starlark_source.specs.Drafts.{draft, drafts}
use Rattle.starlark_source.specs.Drafted.{drafted_expr, drafted_list, drafted_parameter, drafted_targets, drafted_type_if_there}
use Rattle.starlark_source.specs.Lines.{Place, as_line, as_block, as_rest, form_lines, small, small_line}
use Rattle.starlark_source.specs.Lines.{block, load, load_arg, modified, module_form, target_type}

-- four spaces for each block
abbrev pub drafted_margin : ℕ → Draft
drafted_margin depth = say (replicate (4 * depth) 32)

module _ {P A B C D E : Type 0} where
  unfoldable pub drafted_lines : Place → ℕ → CodeSpan → StmtP P A B C D E → Draft
  drafted_lines place depth at s = draft (form_lines place depth (span_of at) (form_seen s))

  unfoldable pub drafted_small : CodeSpan → StmtP P A B C D E → Draft
  drafted_small at s = draft (small (span_of at) (form_seen s))

  unfoldable pub drafted_small_line : CodeSpan → Seq (Spanned (StmtP P A B C D E)) → Draft
  drafted_small_line at parts = draft (small_line (span_of at) (all_statements parts))

  unfoldable pub drafted_block : ℕ → CodeSpan → Seq (Spanned (StmtP P A B C D E)) → Draft
  drafted_block depth at parts = draft (block depth (span_of at) (all_statements parts))

  -- the statements of a module
  unfoldable pub drafted_top : CodeSpan → Seq (Spanned (StmtP P A B C D E)) → Draft
  drafted_top at parts = draft (module_form (span_of at) (t.Block (all_statements parts)))

  unfoldable pub drafted_load_arg : LoadArgP P A B C D E → Draft
  drafted_load_arg a = draft (load_arg (load_arg_of a))

  -- a colon, and the block after it
  abbrev pub drafted_suite : ℕ → Spanned (StmtP P A B C D E) → Draft
  drafted_suite depth body = say (codes ":\n") ++ drafted_lines as_block (depth + 1) body.span body.node

  abbrev pub drafted_loop : AssignTargetP P A B C D E → ExprP P A B C D E → Draft
  drafted_loop x e = say (codes "for ") ++ (drafted_targets x ++ (say (codes " in ") ++ drafted_expr e))

  -- a name between `def` and the parameters, and the return type
  abbrev pub drafted_def : Draft → Seq (Spanned (ParameterP P A B C D E)) → Option (Box (Spanned (TypeExprP P A B C D E)) Global) → Draft
  drafted_def named ps ty =
      say (codes "def ") ++ (named
      ++ ((say (codes "(") ++ (drafts (λ (p : Spanned (ParameterP P A B C D E)). drafted_parameter p.node) (codes ", ") ps ++ say (codes ")")))
      ++ drafted_type_if_there (codes " -> ") ty))

  abbrev pub drafted_return : Option (Spanned (ExprP P A B C D E)) → Draft
  drafted_return None = say (codes "return")
  drafted_return (Some e) = say (codes "return ") ++ drafted_list e.node

  -- the type of a target; a tuple has none
  unfoldable pub drafted_target_type : AssignTargetP P A B C D E → Option (Spanned (TypeExprP P A B C D E)) → Draft
  drafted_target_type x ty = draft (target_type (target_seen nowhere x) (maybe_type_of ty))

  abbrev pub drafted_assign : AssignP P A B C D E → Draft
  drafted_assign a = drafted_targets a.lhs.node ++ (drafted_target_type a.lhs.node a.ty ++ (say (codes " = ") ++ drafted_list a.rhs.node))

  unfoldable pub drafted_modified : Spanned (AssignTargetP P A B C D E) → Draft
  drafted_modified x = draft (modified (target_of x))

  unfoldable pub drafted_load : CodeSpan → LoadP P A B C D E → Draft
  drafted_load at l = draft (load (span_of at) (word l.module) (map load_arg_of l.args.items))
