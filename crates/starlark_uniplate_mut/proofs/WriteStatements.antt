-- What is changed in a statement.
use Rattle.std.proofs.Common.{◌≡◌, List, [], ◌∷◌, ◌++◌, Vec, Box, Option, Global, map, length, Result, sym, ap, ◌∙◌}
use Rattle.std.specs.List.{flat_map}
use Rattle.std.proofs.lemmas.List.{length-map, with_items_is}
use Rattle.std.specs.Box.{with_value}
use Rattle.std.specs.Vec.{with_items}
use Rattle.starlark_lexer.specs.Tokens.{span_of}
use Rattle.starlark_lexer.specs.declared.span.Spanned.{Spanned}
use Rattle.starlark_tree.specs.declared.ast.AssignTargetP.{AssignTargetP}
use Rattle.starlark_tree.specs.declared.ast.DefP.{DefP}
use Rattle.starlark_tree.specs.declared.ast.ExprP.{ExprP}
use Rattle.starlark_tree.specs.declared.ast.ForP.{ForP}
use Rattle.starlark_tree.specs.declared.ast.ParameterP.{ParameterP}
use Rattle.starlark_tree.specs.declared.ast.StmtP as stmt
use Rattle.starlark_tree.specs.declared.ast.TypeExprP.{TypeExprP}
use Rattle.starlark_tree.specs.Ast as t
use Rattle.starlark_tree.specs.Children.{exprs_of_stmt, stmts_of_stmt}
use Rattle.starlark_uniplate_mut.specs.FormFrames.{exprs_frame_of, gaps, stmts_frame_of}
use Rattle.starlark_uniplate_mut.specs.Frames.{gap, parameter_frame, parameters_frame, target_frame_of, type_frame}
use Rattle.starlark_tree.specs.Places.{exprs_in_parameter, exprs_in_target, type_exprs}
use Rattle.starlark_tree.specs.Views.{all_parameters, assign_word, boxed_type_of, expression_of, parameter_of, payloads, statement_of}
use Rattle.starlark_tree.specs.Walks.{WriteBy, Writing, WritesIn}
use Rattle.starlark_uniplate_mut.proofs.FormFrames.{same_gaps}
use Rattle.starlark_uniplate_mut.proofs.Framed.{parameters_framed, target_same}
use Rattle.starlark_tree.proofs.Rows.{statements_seen_of}
use Rattle.starlark_tree.proofs.Statements.{block_stmts, def_own, for_own, modify_exprs}
use Rattle.starlark_uniplate_mut.proofs.Writing.{write_at, write_length}

module _ {P A B C D E S R : Type 0} {by : Writing S (t.Statement (payloads A B C D E)) R} {s : S} where
  pub block_written : (v : Vec (Spanned (stmt.StmtP P A B C D E)) Global) (xs ws : List (Spanned (stmt.StmtP P A B C D E))) → xs ≡ v.items
      → {r : Result (Unit {0}) R} {u : S} → WriteBy by s (map statement_of xs) (map statement_of ws) r u
      → WritesIn stmts_of_stmt stmts_frame_of by s (stmt.Statements v) (stmt.Statements (with_items v ws)) r u
  block_written v xs ws e p =
      let old : map statement_of xs ≡ map statement_of v.items = ap (map statement_of) e in
      let many : length (map statement_of ws) ≡ length (map statement_of v.items) = write_length p ∙ ap length old in
      let all : (with_items v ws).items ≡ ws = with_items_is v ws (sym (length-map ws statement_of) ∙ many ∙ length-map v.items statement_of ∙ sym v.ok.0) in
      let new : map statement_of ws ≡ map statement_of (with_items v ws).items = ap (map statement_of) (sym all) in
      record {
        calls = write_at (old ∙ sym (block_stmts v)) (new ∙ sym (block_stmts (with_items v ws))) p;
        rest = ap (λ ss. t.Block (gaps ss)) (statements_seen_of (with_items v ws))
            ∙ ap t.Block (same_gaps (map statement_of (with_items v ws).items) (map statement_of v.items) (ap length (sym new) ∙ many))
            ∙ sym (ap (λ ss. t.Block (gaps ss)) (statements_seen_of v));
      }

module _ {P A B C D E S R : Type 0} {by : Writing S (t.Expression (payloads A B C D E)) R} {s u : S} {r : Result (Unit {0}) R} where
  pub modify_written : (x : Spanned (AssignTargetP P A B C D E)) (op : _) (b : Box (Spanned (ExprP P A B C D E)) Global) (y : AssignTargetP P A B C D E)
      (e : Spanned (ExprP P A B C D E))
      → WriteBy by s (exprs_in_target x.node ++ expression_of b.value ∷ []) (exprs_in_target y ++ expression_of e ∷ []) r u
      → target_frame_of y ≡ target_frame_of x.node
      → WritesIn exprs_of_stmt exprs_frame_of by s (stmt.AssignModify x op b) (stmt.AssignModify (record x { node = y }) op (with_value b e)) r u
  modify_written x op b y e p same =
      record {
        calls = write_at (sym (modify_exprs x op b)) (sym (modify_exprs (record x { node = y }) op (with_value b e))) p;
        rest = ap (λ z. t.AssignModify z op gap) (target_same (span_of x.span) x.node y same);
      }

  pub for_written : (f : ForP P A B C D E) (y : AssignTargetP P A B C D E) (e : Spanned (ExprP P A B C D E))
      → WriteBy by s (exprs_in_target f.var.node ++ expression_of f.over ∷ []) (exprs_in_target y ++ expression_of e ∷ []) r u
      → target_frame_of y ≡ target_frame_of f.var.node
      → WritesIn exprs_of_stmt exprs_frame_of by s (stmt.For f) (stmt.For (record f { var = record f.var { node = y }; over = e })) r u
  for_written f y e p same =
      record {
        calls = write_at (sym (for_own f)) (sym (for_own (record f { var = record f.var { node = y }; over = e }))) p;
        rest = ap (λ z. t.For z gap (statement_of f.body.value)) (target_same (span_of f.var.span) f.var.node y same);
      }

  pub def_written : (d : DefP P A B C D E) (xs ws : List (Spanned (ParameterP P A B C D E))) (ty : Option (Box (Spanned (TypeExprP P A B C D E)) Global))
      → xs ≡ d.params.items
      → WriteBy by s (flat_map (λ (p : Spanned (ParameterP P A B C D E)). exprs_in_parameter p.node) xs ++ type_exprs (boxed_type_of d.return_type))
      (flat_map (λ (p : Spanned (ParameterP P A B C D E)). exprs_in_parameter p.node) ws ++ type_exprs (boxed_type_of ty)) r u
      → map (λ (p : Spanned (ParameterP P A B C D E)). parameter_frame (parameter_of p)) ws
      ≡ map (λ (p : Spanned (ParameterP P A B C D E)). parameter_frame (parameter_of p)) xs
      → type_frame (boxed_type_of ty) ≡ type_frame (boxed_type_of d.return_type)
      → WritesIn exprs_of_stmt exprs_frame_of by s (stmt.Def d) (stmt.Def (record d { params = with_items d.params ws; return_type = ty })) r u
  def_written d xs ws ty e p parameters return_type =
      let framed = λ (p : Spanned (ParameterP P A B C D E)). parameter_frame (parameter_of p) in
      let exprs = λ (p : Spanned (ParameterP P A B C D E)). exprs_in_parameter p.node in
      let new = record d { params = with_items d.params ws; return_type = ty } in
      let many : length ws ≡ length d.params.items = sym (length-map ws framed) ∙ ap length parameters ∙ length-map xs framed ∙ ap length e in
      let all : (with_items d.params ws).items ≡ ws = with_items_is d.params ws (many ∙ sym d.params.ok.0) in
      record {
        calls = write_at
            (ap (λ ps. flat_map exprs ps ++ type_exprs (boxed_type_of d.return_type)) e ∙ sym (def_own d))
            (ap (λ ps. flat_map exprs ps ++ type_exprs (boxed_type_of ty)) (sym all) ∙ sym (def_own new))
            p;
        rest =
            ap (λ ps. t.Def (assign_word d.name) d.name.node.payload ps (type_frame (boxed_type_of ty)) (statement_of d.body.value) d.payload)
            (parameters_framed (with_items d.params ws).items ∙ ap (λ ps. t.parameters_of (map framed ps)) all
            ∙ ap t.parameters_of (parameters ∙ ap (map framed) e) ∙ sym (parameters_framed d.params.items))
            ∙ ap (λ z. t.Def (assign_word d.name) d.name.node.payload (parameters_frame (all_parameters d.params.items)) z (statement_of d.body.value)
            d.payload) return_type;
      }
