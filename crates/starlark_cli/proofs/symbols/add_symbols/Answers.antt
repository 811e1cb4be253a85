use Rattle.std.proofs.Common.{ap, sym, ◌∙◌, string_bytes, ◌++◌}
use Rattle.std.specs.List.{flat_map}
use Rattle.std.specs.Map.Iter.{deref_pair}
use Rattle.std.proofs.lemmas.List.Folds.{flat_map-map}
use Rattle.std.proofs.lemmas.Map.Iter.{rest_more, rest_all}
use Rattle.starlark_cli.specs.Symbols.{symbol_text}
use Rattle.starlark_cli.proofs.Lines.{left_more, left_none}
use Rattle.starlark_passes.specs.Outline.Listed.{symbol}
use Rattle.starlark_cli.proofs.symbols.add_symbols.Goals as goal

pub loop-local-init : goal.loop-local-init
loop-local-init c =
    ap (λ l. string_bytes c.args.text.now ++ l)
    (ap (flat_map (λ p. symbol_text (symbol p))) (c.into_iter-local-iterator.ensures.into_iter_gives ∙ c.iter-local-items.ensures.rest)
    ∙ sym (flat_map-map symbol_text symbol c.args.load.now.symbols.entries))

pub loop-local-preserved : goal.loop-local-preserved
loop-local-preserved c =
    left_more (λ p. symbol_text (symbol p)) c.loop-local.local-iterator c.next.new.self (c.in-Some.local.now, c.in-Some.source.now) _ _ _
    (rest_more deref_pair c.loop-local.local-iterator c.next.new.self c.next.result (c.in-Some.local, c.in-Some.source) c.in-Some.is c.next.ensures.steps)
    c.in_ok-add_symbol.ensures c.loop-local.invariant

pub returns : goal.returns
returns c =
    left_none (λ p. symbol_text (symbol p)) c.loop-local.local-iterator _ _
    (rest_all deref_pair c.loop-local.local-iterator c.next.new.self c.next.result c.in-None.is c.next.ensures.steps) c.loop-local.invariant
