use Rattle.std.proofs.Common.{rules, ◌+◌, ◌^◌, ◌<◌, sym, ◌∙◌}
use Rattle.std.specs.Str.{IsAscii}
use Rattle.starlark_lexer.proofs.Columns.{blocks-more, blocks-long, blocks-now, block-within, block-fits, blocks-none, blocks-all, blocks-ascii}
use Rattle.starlark_lexer.proofs.codemap.char_rests_before_blocks.Goals as goal

pub overflow_add-before : goal.overflow_add-before
overflow_add-before c =
    let h : c.blocks-2.before + c.char_rests.result < 2 ^ 32 = block-fits c.args.text.now _ c.blocks-2.block c.blocks-2-test.true c.requires
    (block-within c.args.text.now c.blocks-2.before c.char_rests.result c.blocks-2.block c.blocks-2.invariant.within c.char_rests.ensures.within) in
    search rules

pub blocks-2-preserved : goal.blocks-2-preserved
blocks-2-preserved c = record {
  long = blocks-long c.blocks-2.rests.items _ c.blocks-2.before c.blocks-2.block c.blocks-2.invariant.long c.in_ok-push.ensures.items;
  table = blocks-more c.args.text.now c.blocks-2.rests.items _ c.blocks-2.before c.blocks-2.block c.blocks-2.invariant.long c.in_ok-push.ensures.items
      c.blocks-2.invariant.table c.blocks-2.invariant.now;
  now = blocks-now c.args.text.now c.blocks-2.before c.char_rests.result c.blocks-2.block c.blocks-2.invariant.now c.char_rests.ensures.rests;
  within = block-within c.args.text.now c.blocks-2.before c.char_rests.result c.blocks-2.block c.blocks-2.invariant.within c.char_rests.ensures.within;
}

pub returns-then-before-eq0 : goal.returns-then-before-eq0
returns-then-before-eq0 c = blocks-none c.args.text.now _ c.blocks-2.block c.new-then-before-eq0.ensures.items c.blocks-2-test.false
    (sym c.blocks-2.invariant.now ∙ c.if-before-eq0.true)

pub returns : goal.returns
returns c =
    blocks-all c.args.text.now _ c.blocks-2.block c.blocks-2-test.false
    (blocks-more c.args.text.now c.blocks-2.rests.items _ c.blocks-2.before c.blocks-2.block c.blocks-2.invariant.long c.in_ok-push-2.ensures.items
    c.blocks-2.invariant.table c.blocks-2.invariant.now)

pub returns-then-is_ascii : goal.returns-then-is_ascii
returns-then-is_ascii c =
    let ascii : IsAscii c.args.text.now = search rules in
    blocks-ascii c.args.text.now _ c.new.ensures.items ascii
