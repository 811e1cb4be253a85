-- Expressions whose children are changed, by their kinds.
use Rattle.std.proofs.Common.{◌≡◌, ◌+◌, List, [], ◌∷◌, ◌++◌, length, map, Option, Result, Box, Vec, Global, refl, sym, ap, ◌∙◌, arith}
use Rattle.std.specs.Box.{with_value}
use Rattle.std.specs.List.{flat_map}
use Rattle.std.specs.Vec.{with_items}
use Rattle.std.proofs.lemmas.List.{length-map, with_items_is}
use Rattle.starlark_lexer.specs.Tokens.{span_of}
use Rattle.starlark_lexer.specs.declared.span.Spanned.{Spanned}
use Rattle.starlark_tree.specs.declared.ast.ArgumentP.{ArgumentP}
use Rattle.starlark_tree.specs.declared.ast.CallArgsP.{CallArgsP}
use Rattle.starlark_tree.specs.declared.ast.ClauseP.{ClauseP}
use Rattle.starlark_tree.specs.declared.ast.ExprP as expr
use Rattle.starlark_tree.specs.declared.ast.ExprP.{ExprP}
use Rattle.starlark_tree.specs.declared.ast.FStringP.{FStringP}
use Rattle.starlark_tree.specs.declared.ast.ForClauseP.{ForClauseP}
use Rattle.starlark_tree.specs.declared.ast.LambdaP.{LambdaP}
use Rattle.starlark_tree.specs.declared.ast.ParameterP.{ParameterP}
use Rattle.starlark_tree.specs.Ast as t
use Rattle.starlark_uniplate_mut.specs.Frames.{argument_frame, clause_frame_of, expressions_frame, for_frame_of, frame_of, gap, maybe_frame, pairs_frame}
use Rattle.starlark_uniplate_mut.specs.Frames.{parameter_frame}
use Rattle.starlark_tree.specs.Parts.{argument_expression}
use Rattle.starlark_tree.specs.Places.{children, clause_exprs, exprs_in_parameter, for_exprs, maybe_exprs}
use Rattle.starlark_tree.specs.Views.{all_expressions, all_pairs, argument_of, clause_seen, expression_of, for_in_of, maybe_of, pair_of, parameter_of, payloads}
use Rattle.starlark_tree.specs.Views.{word}
use Rattle.starlark_tree.specs.Walks.{Write, WriteBy, Writing, WritesIn}
use Rattle.starlark_uniplate_mut.proofs.Framed.{call_frame, dict_comprehension_frame, dict_frame, expressions_gaps, fstring_frame, lambda_frame}
use Rattle.starlark_uniplate_mut.proofs.Framed.{list_comprehension_frame, list_frame, pairs_gaps, slice_frame, tuple_frame}
use Rattle.starlark_tree.proofs.Nodes.{call_children, dict_children, dict_comprehension_children, fstring_children, lambda_children, list_children}
use Rattle.starlark_tree.proofs.Nodes.{list_comprehension_children, slice_children, tuple_children}
use Rattle.starlark_uniplate_mut.proofs.Writing.{write_at, write_length}

items_kept : {X : Type 0} (v : Vec X Global) (ws : List X) → length ws ≡ length v.items → (with_items v ws).items ≡ ws
items_kept v ws e = with_items_is v ws (e ∙ sym v.ok.0)

-- lists that are seen as equal have equal lengths
long_as : {X Y : Type 0} (f : X → Y) (xs ys : List X) → map f ys ≡ map f xs → length ys ≡ length xs
long_as f xs ys e = sym (length-map ys f) ∙ ap length e ∙ length-map xs f

twice : {X Y : Type 0} (f g : X → Y) (xs : List X) → length (flat_map (λ (x : X). f x ∷ g x ∷ []) xs) ≡ length xs + length xs
twice f g [] = refl
twice f g (x ∷ xs) = let e = twice f g xs in omega (arith, e)

pub items_as_framed : {X Y : Type 0} (f : X → Y) (v : Vec X Global) (ws : List X) → map f ws ≡ map f v.items → (with_items v ws).items ≡ ws
items_as_framed f v ws e = items_kept v ws (long_as f v.items ws e)

-- as many items as calls
module _ {P A B C D E S F : Type 0} {call : S → t.Expression (payloads A B C D E) → t.Expression (payloads A B C D E) → Result (Unit {0}) F → S
    → Type 0} {s : S} {r : Result (Unit {0}) F} {u : S} where
  pub items_as_called : (v : Vec (Spanned (ExprP P A B C D E)) Global) (ws : List (Spanned (ExprP P A B C D E)))
      → Write call s (map expression_of v.items) (map expression_of ws) r u → (with_items v ws).items ≡ ws
  items_as_called v ws p = items_kept v ws (sym (length-map ws expression_of) ∙ write_length p ∙ length-map v.items expression_of)

module _ {P A B C D E S F : Type 0} {by : Writing S (t.Expression (payloads A B C D E)) F} {s : S} {r : Result (Unit {0}) F} {u : S} where
  pub tuple_written : (v : Vec (Spanned (ExprP P A B C D E)) Global) (ws : List (Spanned (ExprP P A B C D E)))
      → WriteBy by s (map expression_of v.items) (map expression_of ws) r u
      → WritesIn children frame_of by s (expr.Tuple v) (expr.Tuple (with_items v ws)) r u
  tuple_written v ws p =
      let e = items_as_called v ws p in
      record {
        calls = write_at (sym (tuple_children v)) (sym (tuple_children (with_items v ws) ∙ ap (map expression_of) e)) p;
        rest = tuple_frame (with_items v ws) ∙ ap (λ xs. t.Tuple (expressions_frame (all_expressions xs))) e
            ∙ ap t.Tuple (expressions_gaps (map expression_of v.items) (map expression_of ws) (write_length p)) ∙ sym (tuple_frame v);
      }

  pub list_written : (v : Vec (Spanned (ExprP P A B C D E)) Global) (ws : List (Spanned (ExprP P A B C D E)))
      → WriteBy by s (map expression_of v.items) (map expression_of ws) r u
      → WritesIn children frame_of by s (expr.List v) (expr.List (with_items v ws)) r u
  list_written v ws p =
      let e = items_as_called v ws p in
      record {
        calls = write_at (sym (list_children v)) (sym (list_children (with_items v ws) ∙ ap (map expression_of) e)) p;
        rest = list_frame (with_items v ws) ∙ ap (λ xs. t.List (expressions_frame (all_expressions xs))) e
            ∙ ap t.List (expressions_gaps (map expression_of v.items) (map expression_of ws) (write_length p)) ∙ sym (list_frame v);
      }

  pub fstring_written : (f f' : Spanned (FStringP P A B C D E)) (ws : List (Spanned (ExprP P A B C D E)))
      → f'.node.expressions.items ≡ ws → word f'.node.format ≡ word f.node.format → span_of f'.span ≡ span_of f.span
      → WriteBy by s (map expression_of f.node.expressions.items) (map expression_of ws) r u
      → WritesIn children frame_of by s (expr.FString f) (expr.FString f') r u
  fstring_written f f' ws e same at p = record {
    calls = write_at (sym (fstring_children f)) (sym (fstring_children f' ∙ ap (map expression_of) e)) p;
    rest = fstring_frame f'
        ∙ ap (λ xs. t.FString (span_of f'.span) (word f'.node.format) (expressions_frame (all_expressions xs))) e
        ∙ ap (t.FString (span_of f'.span) (word f'.node.format)) (expressions_gaps (map expression_of f.node.expressions.items) (map expression_of ws)
        (write_length p))
        ∙ ap (λ w. t.FString (span_of f'.span) w (expressions_frame (all_expressions f.node.expressions.items))) same
        ∙ ap (λ z. t.FString z (word f.node.format) (expressions_frame (all_expressions f.node.expressions.items))) at
        ∙ sym (fstring_frame f);
  }

  pub dict_written : (v : Vec (Spanned (ExprP P A B C D E) × Spanned (ExprP P A B C D E)) Global)
      (ws : List (Spanned (ExprP P A B C D E) × Spanned (ExprP P A B C D E)))
      → WriteBy by s (flat_map (λ (p : Spanned (ExprP P A B C D E) × Spanned (ExprP P A B C D E)). expression_of p.0 ∷ expression_of p.1 ∷ []) v.items)
      (flat_map (λ (p : Spanned (ExprP P A B C D E) × Spanned (ExprP P A B C D E)). expression_of p.0 ∷ expression_of p.1 ∷ []) ws) r u
      → WritesIn children frame_of by s (expr.Dict v) (expr.Dict (with_items v ws)) r u
  dict_written v ws p =
      let key : Spanned (ExprP P A B C D E) × Spanned (ExprP P A B C D E) → t.Expression (payloads A B C D E) = λ q. expression_of q.0 in
      let value : Spanned (ExprP P A B C D E) × Spanned (ExprP P A B C D E) → t.Expression (payloads A B C D E) = λ q. expression_of q.1 in
      let doubled : length ws + length ws ≡ length v.items + length v.items = sym (twice key value ws) ∙ write_length p ∙ twice key value v.items in
      let long : length ws ≡ length v.items = omega (arith, doubled) in
      let e = items_kept v ws long in
      record {
        calls = write_at (sym (dict_children v)) (sym (dict_children (with_items v ws)
            ∙ ap (flat_map (λ (q : Spanned (ExprP P A B C D E) × Spanned (ExprP P A B C D E)). expression_of q.0 ∷ expression_of q.1 ∷ [])) e)) p;
        rest = dict_frame (with_items v ws) ∙ ap (λ xs. t.Dict (pairs_frame (all_pairs xs))) e
            ∙ ap t.Dict (pairs_gaps (map pair_of v.items) (map pair_of ws) (length-map ws pair_of ∙ long ∙ sym (length-map v.items pair_of)))
            ∙ sym (dict_frame v);
      }

  pub call_written : (b : Box (Spanned (ExprP P A B C D E)) Global) (x : Spanned (ExprP P A B C D E)) (args args' : CallArgsP P A B C D E)
      (ws : List (Spanned (ArgumentP P A B C D E)))
      → args'.args.items ≡ ws
      → WriteBy by s (expression_of b.value ∷ map (λ (a : Spanned (ArgumentP P A B C D E)). expression_of (argument_expression a.node)) args.args.items)
      (expression_of x ∷ map (λ (a : Spanned (ArgumentP P A B C D E)). expression_of (argument_expression a.node)) ws) r u
      → map (λ (a : Spanned (ArgumentP P A B C D E)). argument_frame (argument_of a)) ws
      ≡ map (λ (a : Spanned (ArgumentP P A B C D E)). argument_frame (argument_of a)) args.args.items
      → WritesIn children frame_of by s (expr.Call b args) (expr.Call (with_value b x) args') r u
  call_written b x args args' ws e p q = record {
    calls = write_at (sym (call_children b args)) (sym (call_children (with_value b x) args'
        ∙ ap (λ ys. expression_of x ∷ map (λ (a : Spanned (ArgumentP P A B C D E)). expression_of (argument_expression a.node)) ys) e)) p;
    rest = call_frame (with_value b x) args'
        ∙ ap (λ ys. t.Call gap (t.arguments_of (map (λ (a : Spanned (ArgumentP P A B C D E)). argument_frame (argument_of a)) ys))) e
        ∙ ap (λ zs. t.Call gap (t.arguments_of zs)) q
        ∙ sym (call_frame b args);
  }

  pub lambda_written : (l l' : LambdaP P A B C D E) (ws : List (Spanned (ParameterP P A B C D E))) (x : Spanned (ExprP P A B C D E))
      → l'.params.items ≡ ws → l'.body.value ≡ x → l'.payload ≡ l.payload
      → WriteBy by s (flat_map (λ (p : Spanned (ParameterP P A B C D E)). exprs_in_parameter p.node) l.params.items ++ expression_of l.body.value ∷ [])
      (flat_map (λ (p : Spanned (ParameterP P A B C D E)). exprs_in_parameter p.node) ws ++ expression_of x ∷ []) r u
      → map (λ (p : Spanned (ParameterP P A B C D E)). parameter_frame (parameter_of p)) ws
      ≡ map (λ (p : Spanned (ParameterP P A B C D E)). parameter_frame (parameter_of p)) l.params.items
      → WritesIn children frame_of by s (expr.Lambda l) (expr.Lambda l') r u
  lambda_written l l' ws x e d same p q = record {
    calls = write_at (sym (lambda_children l))
        (sym
        (lambda_children l'
        ∙ ap (λ ys. flat_map (λ (p : Spanned (ParameterP P A B C D E)). exprs_in_parameter p.node) ys ++ expression_of l'.body.value ∷ []) e
        ∙ ap (λ z. flat_map (λ (p : Spanned (ParameterP P A B C D E)). exprs_in_parameter p.node) ws ++ expression_of z ∷ []) d))
        p;
    rest = lambda_frame l'
        ∙ ap (λ ys. t.Lambda (t.parameters_of (map (λ (p : Spanned (ParameterP P A B C D E)). parameter_frame (parameter_of p)) ys)) gap l'.payload) e
        ∙ ap (λ zs. t.Lambda (t.parameters_of zs) gap l'.payload) q
        ∙ ap (t.Lambda (t.parameters_of (map (λ (p : Spanned (ParameterP P A B C D E)). parameter_frame (parameter_of p)) l.params.items)) gap) same
        ∙ sym (lambda_frame l);
  }

  pub slice_written : (a : Box (Spanned (ExprP P A B C D E)) Global) (x : Spanned (ExprP P A B C D E))
      (start start' stop stop' step step' : Option (Box (Spanned (ExprP P A B C D E)) Global))
      → WriteBy by s (expression_of a.value ∷ (maybe_exprs (maybe_of start) ++ (maybe_exprs (maybe_of stop) ++ maybe_exprs (maybe_of step))))
      (expression_of x ∷ (maybe_exprs (maybe_of start') ++ (maybe_exprs (maybe_of stop') ++ maybe_exprs (maybe_of step')))) r u
      → maybe_frame (maybe_of start') ≡ maybe_frame (maybe_of start) → maybe_frame (maybe_of stop') ≡ maybe_frame (maybe_of stop)
      → maybe_frame (maybe_of step') ≡ maybe_frame (maybe_of step)
      → WritesIn children frame_of by s (expr.Slice a start stop step) (expr.Slice (with_value a x) start' stop' step') r u
  slice_written a x start start' stop stop' step step' p e1 e2 e3 = record {
    calls = write_at (sym (slice_children a start stop step)) (sym (slice_children (with_value a x) start' stop' step')) p;
    rest = slice_frame (with_value a x) start' stop' step'
        ∙ ap (λ m. t.Slice gap m (maybe_frame (maybe_of stop')) (maybe_frame (maybe_of step'))) e1
        ∙ ap (λ m. t.Slice gap (maybe_frame (maybe_of start)) m (maybe_frame (maybe_of step'))) e2
        ∙ ap (t.Slice gap (maybe_frame (maybe_of start)) (maybe_frame (maybe_of stop))) e3
        ∙ sym (slice_frame a start stop step);
  }

  pub list_comprehension_written : (b : Box (Spanned (ExprP P A B C D E)) Global) (x : Spanned (ExprP P A B C D E))
      (first : Box (ForClauseP P A B C D E) Global) (y : ForClauseP P A B C D E)
      (others : Vec (ClauseP P A B C D E) Global) (ws : List (ClauseP P A B C D E))
      → WriteBy by s ((for_exprs (for_in_of first.value) ++ flat_map (λ (k : ClauseP P A B C D E). clause_exprs (clause_seen k)) others.items)
      ++ expression_of b.value ∷ [])
      ((for_exprs (for_in_of y) ++ flat_map (λ (k : ClauseP P A B C D E). clause_exprs (clause_seen k)) ws) ++ expression_of x ∷ []) r u
      → for_frame_of y ≡ for_frame_of first.value → map clause_frame_of ws ≡ map clause_frame_of others.items
      → WritesIn children frame_of by s (expr.ListComprehension b first others) (expr.ListComprehension (with_value b x) (with_value first y)
      (with_items others ws)) r u
  list_comprehension_written b x first y others ws p q k =
      let e = items_as_framed clause_frame_of others ws k in
      record {
        calls = write_at (sym (list_comprehension_children b first others))
            (sym
            (list_comprehension_children (with_value b x) (with_value first y) (with_items others ws)
            ∙ ap (λ ys. (for_exprs (for_in_of y) ++ flat_map (λ (k : ClauseP P A B C D E). clause_exprs (clause_seen k)) ys) ++ expression_of x ∷ []) e))
            p;
        rest = list_comprehension_frame (with_value b x) (with_value first y) (with_items others ws)
            ∙ ap (λ ys. t.ListComprehension gap (for_frame_of y) (t.clauses_of (map clause_frame_of ys))) e
            ∙ ap (λ zs. t.ListComprehension gap (for_frame_of y) (t.clauses_of zs)) k
            ∙ ap (λ z. t.ListComprehension gap z (t.clauses_of (map clause_frame_of others.items))) q
            ∙ sym (list_comprehension_frame b first others);
      }

  pub dict_comprehension_written : (b : Box (Spanned (ExprP P A B C D E) × Spanned (ExprP P A B C D E)) Global) (x : Spanned (ExprP P A B C D E)
      × Spanned (ExprP P A B C D E)) (first : Box (ForClauseP P A B C D E) Global)
      (y : ForClauseP P A B C D E) (others : Vec (ClauseP P A B C D E) Global) (ws : List (ClauseP P A B C D E))
      → WriteBy by s ((for_exprs (for_in_of first.value) ++ flat_map (λ (k : ClauseP P A B C D E). clause_exprs (clause_seen k)) others.items)
      ++ expression_of b.value.0 ∷ expression_of b.value.1 ∷ [])
      ((for_exprs (for_in_of y) ++ flat_map (λ (k : ClauseP P A B C D E). clause_exprs (clause_seen k)) ws) ++ expression_of x.0 ∷ expression_of x.1 ∷ []) r u
      → for_frame_of y ≡ for_frame_of first.value → map clause_frame_of ws ≡ map clause_frame_of others.items
      → WritesIn children frame_of by s (expr.DictComprehension b first others) (expr.DictComprehension (with_value b x) (with_value first y)
      (with_items others ws)) r u
  dict_comprehension_written b x first y others ws p q k =
      let e = items_as_framed clause_frame_of others ws k in
      record {
        calls = write_at (sym (dict_comprehension_children b first others))
            (sym
            (dict_comprehension_children (with_value b x) (with_value first y) (with_items others ws)
            ∙ ap (λ ys. (for_exprs (for_in_of y) ++ flat_map (λ (k : ClauseP P A B C D E). clause_exprs (clause_seen k)) ys)
            ++ expression_of x.0 ∷ expression_of x.1 ∷ []) e))
            p;
        rest = dict_comprehension_frame (with_value b x) (with_value first y) (with_items others ws)
            ∙ ap (λ ys. t.DictComprehension gap gap (for_frame_of y) (t.clauses_of (map clause_frame_of ys))) e
            ∙ ap (λ zs. t.DictComprehension gap gap (for_frame_of y) (t.clauses_of zs)) k
            ∙ ap (λ z. t.DictComprehension gap gap z (t.clauses_of (map clause_frame_of others.items))) q
            ∙ sym (dict_comprehension_frame b first others);
      }
