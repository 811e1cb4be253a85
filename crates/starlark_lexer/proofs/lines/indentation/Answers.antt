use Rattle.starlark_lexer.proofs.LineLemmas.{whitespace-counted, tabs_split}
use Rattle.std.proofs.Common.{◌≡◌, ◌-◌, length, take, drop, arith, ap, ◌∙◌, ◌==◌}
use Rattle.std.proofs.lemmas.List.{take_all, length-drop}
use Rattle.std.proofs.lemmas.List.Sums.{prefix_len-le-length}
use Rattle.std.specs.List.{count_by}
use Rattle.starlark_lexer.specs.Classes.{is_space}
use Rattle.starlark_lexer.proofs.lines.indentation.Goals as goal

pub returns : goal.returns
returns c =
    let text = c.args.whitespace.now in
    let part : count_by (λ b. b == 9) (take (length text - c.args.spaces) (drop c.args.spaces text)) ≡ count_by (λ b. b == 9) (drop c.args.spaces text) =
    ap (count_by (λ b. b == 9)) (take_all _ (drop c.args.spaces text) (omega (arith, length-drop c.args.spaces text))) in
    let counted : c.tabs.result ≡ count_by (λ b. b == 9) text = c.tabs.ensures.count ∙ part ∙ tabs_split c.args.spaces text c.requires.spaces in
    omega (arith, whitespace-counted text c.requires.blank)

pub slice_bounds-tabs-count : goal.slice_bounds-tabs-count
slice_bounds-tabs-count c =
    let run = c.requires.spaces in
    omega (arith, prefix_len-le-length is_space c.args.whitespace.now)

pub slice_bounds-tabs-start : goal.slice_bounds-tabs-start
slice_bounds-tabs-start c =
    let run = c.requires.spaces in
    omega (arith, prefix_len-le-length is_space c.args.whitespace.now)
