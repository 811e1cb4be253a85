use denote.Param.{param}
use denote.Enum.Declared.{Record}
use borrow.Enum.Known.{ValuesAt}
use Rattle.std.proofs.Common.{[], ◌∷◌, refl, sym, ap}
use Rattle.starlark_tree.specs.contracts.ast.ExprP.{enum}
use Rattle.starlark_tree.specs.declared.ast.ExprP as expr
use Rattle.starlark_uniplate_mut.specs.Frames.{frame_of}
use Rattle.starlark_tree.specs.Places.{children}
use Rattle.starlark_tree.specs.Views.{expression_of}
use Rattle.starlark_tree.specs.Walks.{WritesIn}
use Rattle.starlark_tree.proofs.LentParts.{kept_in, left_in}
use Rattle.starlark_uniplate_mut.proofs.Writing.{both_lists, write_at, written_from}
use Rattle.starlark_uniplate_mut.proofs.uniplate_mut.children.write_children.Given as given
use Rattle.starlark_uniplate_mut.proofs.uniplate_mut.children.write_children.Goals as goal

abbrev exprs : given.Over → Record
exprs g = enum (param 0 g.row.P) (param 4 g.row.P-LoadPayload) (param 5 g.row.P-IdentPayload) (param 6 g.row.P-IdentAssignPayload) (param 7 g.row.P-DefPayload)
    (param 8 g.row.P-TypeExprPayload)

pub returns-in-Tuple : goal.returns-in-Tuple
returns-in-Tuple g c =
    let v : ValuesAt (exprs g).parts 0 = (c.in-Tuple.items, tt) in
    left_in (exprs g) 0 (λ v y. expr.Tuple y) (λ v. v.0) (λ b. c.write_tuple.new.items)
    (λ e. WritesIn children frame_of g.G.AtExprMut.calls c.args.state.now c.args.expr.now e c.write_tuple.result c.write_tuple.new.state) c.args.expr.now
    v c.in-Tuple.is
    (written_from c.in-Tuple.is (written_from (sym (ap expr.Tuple c.in-Tuple.items-is)) c.write_tuple.ensures))

pub returns-in-Dot : goal.returns-in-Dot
returns-in-Dot g c =
    let v : ValuesAt (exprs g).parts 1 = (c.in-Dot.object, (c.in-Dot.field-1, tt)) in
    left_in (exprs g) 1 (λ v y. expr.Dot y v.1.0) (λ v. v.0) (λ b. c.write_boxed.new.expr)
    (λ e. WritesIn children frame_of g.G.AtExprMut.calls c.args.state.now c.args.expr.now e c.write_boxed.result c.write_boxed.new.state) c.args.expr.now
    v c.in-Dot.is
    (written_from c.in-Dot.is (record { calls = write_at (ap (λ b. expression_of b.value ∷ []) c.in-Dot.object-is) refl c.write_boxed.ensures; rest = refl }))

pub returns-in-Index : goal.returns-in-Index
returns-in-Index g c =
    let v : ValuesAt (exprs g).parts 3 = (c.in-Index.parts, tt) in
    left_in (exprs g) 3 (λ v y. expr.Index y) (λ v. v.0) (λ b. c.write_boxed_pair.new.pair)
    (λ e. WritesIn children frame_of g.G.AtExprMut.calls c.args.state.now c.args.expr.now e c.write_boxed_pair.result c.write_boxed_pair.new.state)
    c.args.expr.now v c.in-Index.is
    (written_from c.in-Index.is (record {
      calls = write_at (ap (λ b. expression_of b.value.0 ∷ expression_of b.value.1 ∷ []) c.in-Index.parts-is) refl c.write_boxed_pair.ensures;
      rest = refl;
    }))

pub returns-in-Index2 : goal.returns-in-Index2
returns-in-Index2 g c =
    let v : ValuesAt (exprs g).parts 4 = (c.in-Index2.parts, tt) in
    left_in (exprs g) 4 (λ v y. expr.Index2 y) (λ v. v.0) (λ b. c.write_boxed_triple.new.triple)
    (λ e. WritesIn children frame_of g.G.AtExprMut.calls c.args.state.now c.args.expr.now e c.write_boxed_triple.result c.write_boxed_triple.new.state)
    c.args.expr.now v c.in-Index2.is
    (written_from c.in-Index2.is (record {
      calls = write_at (ap (λ b. expression_of b.value.0 ∷ expression_of b.value.1 ∷ expression_of b.value.2 ∷ []) c.in-Index2.parts-is) refl
          c.write_boxed_triple.ensures;
      rest = refl;
    }))

pub returns-in-Lambda : goal.returns-in-Lambda
returns-in-Lambda g c =
    let v : ValuesAt (exprs g).parts 7 = (c.in-Lambda.lambda, tt) in
    left_in (exprs g) 7 (λ v y. expr.Lambda y) (λ v. v.0) (λ b. c.write_lambda_parts.new.lambda)
    (λ e. WritesIn children frame_of g.G.AtExprMut.calls c.args.state.now c.args.expr.now e c.write_lambda_parts.result c.write_lambda_parts.new.state)
    c.args.expr.now v c.in-Lambda.is
    (written_from c.in-Lambda.is (written_from (sym (ap expr.Lambda c.in-Lambda.lambda-is)) c.write_lambda_parts.ensures))

pub returns-in-Not : goal.returns-in-Not
returns-in-Not g c =
    let v : ValuesAt (exprs g).parts 9 = (c.in-Not.operand, tt) in
    left_in (exprs g) 9 (λ v y. expr.Not y) (λ v. v.0) (λ b. c.write_boxed-in-Not.new.expr)
    (λ e. WritesIn children frame_of g.G.AtExprMut.calls c.args.state.now c.args.expr.now e c.write_boxed-in-Not.result c.write_boxed-in-Not.new.state)
    c.args.expr.now v c.in-Not.is
    (written_from c.in-Not.is (record {
      calls = write_at (ap (λ b. expression_of b.value ∷ []) c.in-Not.operand-is) refl c.write_boxed-in-Not.ensures;
      rest = refl;
    }))

pub returns-in-Minus : goal.returns-in-Minus
returns-in-Minus g c =
    let v : ValuesAt (exprs g).parts 10 = (c.in-Minus.operand, tt) in
    left_in (exprs g) 10 (λ v y. expr.Minus y) (λ v. v.0) (λ b. c.write_boxed-in-Minus.new.expr)
    (λ e. WritesIn children frame_of g.G.AtExprMut.calls c.args.state.now c.args.expr.now e c.write_boxed-in-Minus.result c.write_boxed-in-Minus.new.state)
    c.args.expr.now v c.in-Minus.is
    (written_from c.in-Minus.is (record {
      calls = write_at (ap (λ b. expression_of b.value ∷ []) c.in-Minus.operand-is) refl c.write_boxed-in-Minus.ensures;
      rest = refl;
    }))

pub returns-in-Plus : goal.returns-in-Plus
returns-in-Plus g c =
    let v : ValuesAt (exprs g).parts 11 = (c.in-Plus.operand, tt) in
    left_in (exprs g) 11 (λ v y. expr.Plus y) (λ v. v.0) (λ b. c.write_boxed-in-Plus.new.expr)
    (λ e. WritesIn children frame_of g.G.AtExprMut.calls c.args.state.now c.args.expr.now e c.write_boxed-in-Plus.result c.write_boxed-in-Plus.new.state)
    c.args.expr.now v c.in-Plus.is
    (written_from c.in-Plus.is (record {
      calls = write_at (ap (λ b. expression_of b.value ∷ []) c.in-Plus.operand-is) refl c.write_boxed-in-Plus.ensures;
      rest = refl;
    }))

pub returns-in-BitNot : goal.returns-in-BitNot
returns-in-BitNot g c =
    let v : ValuesAt (exprs g).parts 12 = (c.in-BitNot.operand, tt) in
    left_in (exprs g) 12 (λ v y. expr.BitNot y) (λ v. v.0) (λ b. c.write_boxed-in-BitNot.new.expr)
    (λ e. WritesIn children frame_of g.G.AtExprMut.calls c.args.state.now c.args.expr.now e c.write_boxed-in-BitNot.result c.write_boxed-in-BitNot.new.state)
    c.args.expr.now v c.in-BitNot.is
    (written_from c.in-BitNot.is (record {
      calls = write_at (ap (λ b. expression_of b.value ∷ []) c.in-BitNot.operand-is) refl c.write_boxed-in-BitNot.ensures;
      rest = refl;
    }))

pub returns-in-Op : goal.returns-in-Op
returns-in-Op g c =
    let v : ValuesAt (exprs g).parts 13 = (c.in-Op.left, (c.in-Op.field-1, (c.in-Op.right, tt))) in
    kept_in (exprs g) 13 (λ w. expr.Op c.write_operands.new.left w.1.0 c.write_operands.new.right)
    (λ e. WritesIn children frame_of g.G.AtExprMut.calls c.args.state.now c.args.expr.now e c.write_operands.result c.write_operands.new.state)
    c.args.expr.now v c.in-Op.is
    (written_from c.in-Op.is (record {
      calls = write_at (both_lists (ap (λ b. expression_of b.value ∷ []) c.in-Op.left-is)
          (ap (λ b. expression_of b.value ∷ []) c.in-Op.right-is)) refl c.write_operands.ensures;
      rest = refl;
    }))

pub returns-in-If : goal.returns-in-If
returns-in-If g c =
    let v : ValuesAt (exprs g).parts 14 = (c.in-If.parts, tt) in
    left_in (exprs g) 14 (λ v y. expr.If y) (λ v. v.0) (λ b. c.write_boxed_triple-in-If.new.triple)
    (λ e. WritesIn children frame_of g.G.AtExprMut.calls c.args.state.now c.args.expr.now e c.write_boxed_triple-in-If.result
    c.write_boxed_triple-in-If.new.state)
    c.args.expr.now v c.in-If.is
    (written_from c.in-If.is (record {
      calls = write_at (ap (λ b. expression_of b.value.0 ∷ expression_of b.value.1 ∷ expression_of b.value.2 ∷ []) c.in-If.parts-is) refl
          c.write_boxed_triple-in-If.ensures;
      rest = refl;
    }))

pub returns-in-List : goal.returns-in-List
returns-in-List g c =
    let v : ValuesAt (exprs g).parts 15 = (c.in-List.items, tt) in
    left_in (exprs g) 15 (λ v y. expr.List y) (λ v. v.0) (λ b. c.write_list.new.items)
    (λ e. WritesIn children frame_of g.G.AtExprMut.calls c.args.state.now c.args.expr.now e c.write_list.result c.write_list.new.state) c.args.expr.now
    v c.in-List.is
    (written_from c.in-List.is (written_from (sym (ap expr.List c.in-List.items-is)) c.write_list.ensures))

pub returns-in-Dict : goal.returns-in-Dict
returns-in-Dict g c =
    let v : ValuesAt (exprs g).parts 16 = (c.in-Dict.pairs, tt) in
    left_in (exprs g) 16 (λ v y. expr.Dict y) (λ v. v.0) (λ b. c.write_dict.new.pairs)
    (λ e. WritesIn children frame_of g.G.AtExprMut.calls c.args.state.now c.args.expr.now e c.write_dict.result c.write_dict.new.state) c.args.expr.now
    v c.in-Dict.is
    (written_from c.in-Dict.is (written_from (sym (ap expr.Dict c.in-Dict.pairs-is)) c.write_dict.ensures))

pub returns-in-FString : goal.returns-in-FString
returns-in-FString g c =
    let v : ValuesAt (exprs g).parts 19 = (c.in-FString.format, tt) in
    left_in (exprs g) 19 (λ v y. expr.FString y) (λ v. v.0) (λ b. c.write_fstring.new.format)
    (λ e. WritesIn children frame_of g.G.AtExprMut.calls c.args.state.now c.args.expr.now e c.write_fstring.result c.write_fstring.new.state) c.args.expr.now
    v c.in-FString.is
    (written_from c.in-FString.is (written_from (sym (ap expr.FString c.in-FString.format-is)) c.write_fstring.ensures))
