-- An operation, and the call that replaces it.
use Rattle.std.proofs.Common.{◌≡◌, Option, Some, None, List, [], ◌∷◌, ◌++◌, map, Result, Ok, Err, OnErr, IsTrue, Global, Box, String, string_bytes}
use Rattle.std.proofs.Common.{option_map, refl, sym, ap, ◌∙◌}
use Rattle.std.specs.Prelude.{is_some}
use Rattle.std.specs.HashMap.{HashMap, get_by_text}
use Rattle.starlark_lexer.specs.Tokens.{Text, span_of}
use Rattle.starlark_lexer.specs.declared.span.Spanned.{Spanned}
use Rattle.starlark_tree.specs.Ast as t
use Rattle.starlark_tree.specs.Ast.{no_payload, arguments_of}
use Rattle.starlark_tree.specs.Views.{argument_of, expression_of, shape_seen}
use Rattle.starlark_tree.specs.declared.ast.ArgumentP.{ArgumentP}
use Rattle.starlark_tree.specs.declared.ast.CallArgsP.{CallArgsP}
use Rattle.starlark_tree.specs.declared.ast.ExprP as exprs
use Rattle.starlark_tree.specs.declared.ast.operator.BinOp.{BinOp}
use Rattle.starlark_passes.specs.Replace.Replacing.{Table, call_or_op, is_named, operand, operator_name, table_of}
use Rattle.starlark_passes.specs.Replace.Calls.{call_expression, node_replaced}
use Rattle.starlark_passes.proofs.ReplaceLemmas.Nodes.{call_seen}

pub on_err : {T E : Type 0} {P : Type 0} (r : Result T E) → P → OnErr r P
on_err (Ok x) h = tt
on_err (Err e) h = h

module _ {P : Type 0} where
  pub call_made : (o : Spanned (exprs.ExprP P (Unit {0}) (Unit {0}) (Unit {0}) (Unit {0}) (Unit {0})))
      (l r f g : Box (Spanned (exprs.ExprP P (Unit {0}) (Unit {0}) (Unit {0}) (Unit {0}) (Unit {0}))) Global) (op : BinOp)
      (args : CallArgsP P (Unit {0}) (Unit {0}) (Unit {0}) (Unit {0}) (Unit {0}))
      (a b : Spanned (ArgumentP P (Unit {0}) (Unit {0}) (Unit {0}) (Unit {0}) (Unit {0})))
      → o.node ≡ exprs.Op l op r → f ≡ g → args.args.items ≡ a ∷ b ∷ [] → argument_of a ≡ operand (expression_of l.value)
      → argument_of b ≡ operand (expression_of r.value)
      → t.expression (span_of o.span) (shape_seen (exprs.Call f args)) ≡ call_expression (expression_of g.value) (expression_of o)
  call_made o l r f g op args a b is callee items first second =
      ap (t.expression (span_of o.span))
      (call_seen f args ∙ (λ i. t.Call (expression_of (callee i).value) (arguments_of (map argument_of (items i))))
      ∙ (λ i. t.Call (expression_of g.value) (t.arguments (first i) (t.arguments (second i) t.no_arguments))))
      ∙ sym (ap (λ n. call_expression (expression_of g.value) (t.expression (span_of o.span) (shape_seen n))) is)

  pub named_by : (table : Table) (e : Spanned (exprs.ExprP P (Unit {0}) (Unit {0}) (Unit {0}) (Unit {0}) (Unit {0})))
      (l r : Box (Spanned (exprs.ExprP P (Unit {0}) (Unit {0}) (Unit {0}) (Unit {0}) (Unit {0}))) Global) (op : BinOp) (f : Text)
      → e.node ≡ exprs.Op l op r → table (operator_name op) ≡ Some f → IsTrue (is_named table (expression_of e))
  named_by table e l r op f is names = ap (λ n. is_named table (t.expression (span_of e.span) (shape_seen n))) is ∙ ap is_some names

  pub replaced_by : (table : Table) (e : Spanned (exprs.ExprP P (Unit {0}) (Unit {0}) (Unit {0}) (Unit {0}) (Unit {0})))
      (l r : Box (Spanned (exprs.ExprP P (Unit {0}) (Unit {0}) (Unit {0}) (Unit {0}) (Unit {0}))) Global) (op : BinOp) (f : Text)
      → e.node ≡ exprs.Op l op r → table (operator_name op) ≡ Some f
      → call_expression (t.expression (span_of e.span) (t.Identifier (record { text = f; span = span_of e.span }) tt)) (expression_of e)
      ≡ node_replaced table (expression_of e)
  replaced_by table e l r op f is names =
      ap (λ n. call_expression (t.expression (span_of e.span) (t.Identifier (record { text = f; span = span_of e.span }) tt))
      (t.expression (span_of e.span) (shape_seen n))) is
      ∙ sym (ap (λ n. node_replaced table (t.expression (span_of e.span) (shape_seen n))) is
      ∙ ap (λ o. t.expression (span_of e.span) (call_or_op o 1 (span_of e.span) (expression_of l.value) op (expression_of r.value))) names)

pub found : {A B S : Type 0} (m : HashMap (String A) (String B) S) (key : Text) (op : BinOp) (f : String B) → key ≡ operator_name op
    → Some f ≡ get_by_text m key → table_of m (operator_name op) ≡ Some (string_bytes f)
found m key op f is value = ap (λ k. option_map string_bytes (get_by_text m k)) (sym is) ∙ ap (option_map string_bytes) (sym value)
