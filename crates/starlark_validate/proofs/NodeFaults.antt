-- The faults of a node itself.
use Rattle.std.proofs.Common.{◌≡◌, List, [], ◌∷◌, map, Box, Global, refl, sym, ap, ◌∙◌}
use Rattle.starlark_lexer.specs.Tokens.{span_of}
use Rattle.starlark_lexer.specs.declared.dialect.Dialect.{Dialect}
use Rattle.starlark_lexer.specs.declared.span.Spanned.{Spanned}
use Rattle.starlark_tree.specs.declared.ast.CallArgsP.{CallArgsP}
use Rattle.starlark_tree.specs.declared.ast.ExprP as expr
use Rattle.starlark_tree.specs.declared.ast.ExprP.TheVariants as variant
use Rattle.starlark_tree.specs.declared.ast.FStringP.{FStringP}
use Rattle.starlark_tree.specs.Ast as t
use Rattle.starlark_tree.specs.Ast.{Payloads, argument_list, arguments_of}
use Rattle.starlark_tree.specs.Views.{argument_of, shape_seen}
use Rattle.starlark_tree.proofs.Rows.{arguments_seen_of}
use Rattle.starlark_validate.specs.KeptTreeFaults.{call_faults, f_string_faults}
use Rattle.starlark_validate.specs.Walks.InText.{own_kept}

listed : {Q : Payloads} (xs : List (t.Argument Q)) → argument_list (arguments_of xs) ≡ xs
listed [] = refl
listed (x ∷ xs) = ap (λ ys. x ∷ ys) (listed xs)

module _ {P A B C D E : Type 0} (d : Dialect) where
  pub call_own : (callee : Box (Spanned (expr.ExprP P A B C D E)) Global) (args : CallArgsP P A B C D E) → call_faults (map argument_of args.args.items)
      ≡ own_kept d (shape_seen (expr.Call callee args))
  call_own callee args = sym (ap (λ xs. call_faults (argument_list xs)) (arguments_seen_of args.args)
      ∙ ap call_faults (listed (map argument_of args.args.items)))

  pub f_string_own : (s : Spanned (FStringP P A B C D E)) → f_string_faults d (span_of s.span) ≡ own_kept d (shape_seen (expr.FString s))
  f_string_own s = refl

  pub nothing_own : (e : expr.ExprP P A B C D E)
      → ((callee : Box (Spanned (expr.ExprP P A B C D E)) Global) (args : CallArgsP P A B C D E) → e ≡ expr.Call callee args → ⊥)
      → ((s : Spanned (FStringP P A B C D E)) → e ≡ expr.FString s → ⊥)
      → [] ≡ own_kept d (shape_seen e)
  nothing_own (expr.Tuple' shape row) no_call no_string = refl
  nothing_own (expr.Dot' p e s name) no_call no_string = refl
  nothing_own (expr.Call' p e s shape row) no_call no_string =
      absurd (no_call _ _ (sym (expr.roll-out-ExprP P A B C D E (expr.Call' p e s shape row))
      ∙ ap (expr.roll-ExprP P A B C D E) (variant.outs-Call' p e s shape row) ∙ variant.rolls-Call _ _))
  nothing_own (expr.Index' p a s i r) no_call no_string = refl
  nothing_own (expr.Index2' p a s i r j q) no_call no_string = refl
  nothing_own (expr.Slice' p a s start stop step) no_call no_string = refl
  nothing_own (expr.Identifier name) no_call no_string = refl
  nothing_own (expr.Lambda' shape row p body s payload) no_call no_string = refl
  nothing_own (expr.Literal x) no_call no_string = refl
  nothing_own (expr.Not' p e s) no_call no_string = refl
  nothing_own (expr.Minus' p e s) no_call no_string = refl
  nothing_own (expr.Plus' p e s) no_call no_string = refl
  nothing_own (expr.BitNot' p e s) no_call no_string = refl
  nothing_own (expr.Op' p l s op q r u) no_call no_string = refl
  nothing_own (expr.If' p c s v r w u) no_call no_string = refl
  nothing_own (expr.List' shape row) no_call no_string = refl
  nothing_own (expr.Dict' shape row) no_call no_string = refl
  nothing_own (expr.ListComprehension' p e s q var r over u shape row) no_call no_string = refl
  nothing_own (expr.DictComprehension' p k s v r q var u over w shape row) no_call no_string = refl
  nothing_own (expr.FString' format shape row s) no_call no_string =
      absurd (no_string _ (sym (expr.roll-out-ExprP P A B C D E (expr.FString' format shape row s))
      ∙ ap (expr.roll-ExprP P A B C D E) (variant.outs-FString' format shape row s) ∙ variant.rolls-FString _))
