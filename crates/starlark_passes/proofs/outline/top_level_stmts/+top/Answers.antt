use denote.Enum.Declared.{Record}
use denote.Param.{param}
use Rattle.std.proofs.Common.{◌≡◌, length, map, ap, ◌∙◌, arith, refl}
use Rattle.std.specs.Vec.{with_items}
use Rattle.starlark_lexer.specs.Tokens.{span_of}
use Rattle.starlark_tree.specs.Ast.{statement, statements_of}
use Rattle.starlark_tree.specs.Views.{form_seen, statement_of}
use Rattle.starlark_tree.specs.contracts.ast.StmtP.{enum}
use Rattle.starlark_tree.specs.declared.ast.StmtP as stmts
use Rattle.starlark_passes.specs.Outline.Tops.{WritesTop}
use Rattle.starlark_passes.proofs.OutlineLemmas.TopLemmas.{all_done, block_falls, block_new, block_old, block_written, item_falls, may_alone, may_block}
use Rattle.starlark_passes.proofs.OutlineLemmas.TopLemmas.{may_next}
use Rattle.starlark_passes.proofs.OutlineLemmas.TopLemmas.{none_yet, one_more, written_alone}
use Rattle.starlark_tree.proofs.LentParts.{left_in}
use Rattle.starlark_passes.proofs.outline.top_level_stmts.+top.Given as given
use Rattle.starlark_passes.proofs.outline.top_level_stmts.+top.Goals as goal

abbrev code : given.Over → Record
code g = enum (param 0 g.row.P) (param 2 g.row.P-LoadPayload) (param 3 g.row.P-IdentPayload) (param 4 g.row.P-IdentAssignPayload) (param 5 g.row.P-DefPayload)
    (param 6 g.row.P-TypeExprPayload)

pub all_top_mut-loop-part-init : goal.all_top_mut-loop-part-init
all_top_mut-loop-part-init g t c = none_yet statement_of g.F.FnMut c.args.f.now c.args.parts.now c.requires

pub all_top_mut-top_level_stmts_mut-requires : goal.all_top_mut-top_level_stmts_mut-requires
all_top_mut-top_level_stmts_mut-requires g t c κs within = (
  item_falls statement_of g.F.FnMut c.args.f.now c.args.parts.now c.loop-part.part-index c.loop-part.f c.loop-part.parts c.part-item.result t
      (omega arith) c.loop-part.invariant c.decreases,
  (
    within.0,
    (
      within.1.0,
      (
        within.1.1.0,
        (
          within.1.1.1.0,
          (
            within.1.1.1.1.0,
            (
              within.1.1.1.1.1.0,
              (
                within.1.1.1.1.1.1,
                may_next statement_of g.F.FnMut c.args.f.now c.args.parts.now c.loop-part.part-index c.loop-part.f c.loop-part.parts c.part-item.result
                    (omega arith) c.loop-part.invariant,
              ),
            ),
          ),
        ),
      ),
    ),
  ),
)

pub all_top_mut-loop-part-preserved : goal.all_top_mut-loop-part-preserved
all_top_mut-loop-part-preserved g t c =
    one_more statement_of g.F.FnMut c.args.f.now c.args.parts.now c.loop-part.part-index c.loop-part.f c.loop-part.parts c.part-item.result
    c.top_level_stmts_mut.new.top c.top_level_stmts_mut.new.f
    (omega arith) c.loop-part.invariant c.top_level_stmts_mut.ensures

pub all_top_mut-returns : goal.all_top_mut-returns
all_top_mut-returns g t c = all_done statement_of g.F.FnMut c.args.f.now c.args.parts.now c.loop-part.part-index c.loop-part.f c.loop-part.parts
    (omega arith) c.loop-part.invariant

pub top_level_stmts_mut-all_top_mut-requires : goal.top_level_stmts_mut-all_top_mut-requires
top_level_stmts_mut-all_top_mut-requires g t c κs within = (
  block_falls (statement_of c.args.top.now) (span_of c.args.top.now.span) (statements_of (map statement_of c.deref_mut.result.now)) t
      (block_old c.args.top.now c.in-Statements.parts _ c.deref_mut.result.now c.in-Statements.is c.deref_mut.ensures.value c.in-Statements.parts-is)
      c.decreases,
  (
    within.0,
    (
      within.1.0,
      (
        within.1.1.0,
        (
          within.1.1.1.0,
          (
            within.1.1.1.1.0,
            (
              within.1.1.1.1.1.0,
              (
                within.1.1.1.1.1.1,
                may_block (map statement_of c.deref_mut.result.now) (span_of c.args.top.now.span)
                    (block_old c.args.top.now c.in-Statements.parts _ c.deref_mut.result.now c.in-Statements.is c.deref_mut.ensures.value
                    c.in-Statements.parts-is)
                    c.requires,
              ),
            ),
          ),
        ),
      ),
    ),
  ),
)

pub top_level_stmts_mut-returns-in-Statements : goal.top_level_stmts_mut-returns-in-Statements
top_level_stmts_mut-returns-in-Statements g t c =
    let e = ap length (c.deref_mut.ensures.value ∙ ap (λ u. u.items) c.in-Statements.parts-is) in
    let kept : length c.all_top_mut.new.parts ≡ length c.in-Statements.parts.items = omega (arith, e, c.all_top_mut.auto.parts) in
    left_in (code g) 7 (λ v y. stmts.Statements y) (λ v. v.0) (λ b. with_items b c.all_top_mut.new.parts)
    (λ n. WritesTop statement_of g.F.FnMut c.args.f.now (statement_of c.args.top.now) (statement (span_of c.args.top.now.span) (form_seen n))
    c.all_top_mut.new.f) c.args.top.now.node (c.in-Statements.parts, tt) c.in-Statements.is
    (block_written (span_of c.args.top.now.span) (block_old c.args.top.now c.in-Statements.parts _ c.deref_mut.result.now c.in-Statements.is
    c.deref_mut.ensures.value c.in-Statements.parts-is) (block_new (span_of c.args.top.now.span) c.in-Statements.parts c.all_top_mut.new.parts kept)
    c.all_top_mut.ensures)

pub top_level_stmts_mut-f-requires : goal.top_level_stmts_mut-f-requires
top_level_stmts_mut-f-requires g t c = may_alone (span_of c.args.top.now.span) c.args.top.now.node c.in_default.not-Statements c.requires _ refl

pub top_level_stmts_mut-returns-in_default : goal.top_level_stmts_mut-returns-in_default
top_level_stmts_mut-returns-in_default g t c =
    written_alone (span_of c.args.top.now.span) c.args.top.now.node c.in_default.not-Statements (record {
      shown = _;
      shows = refl;
      left = _;
      called = c.f.ensures;
      leaves = refl;
    })
