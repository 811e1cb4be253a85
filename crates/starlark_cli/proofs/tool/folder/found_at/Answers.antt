use Rattle.std.proofs.Common.{List, map, subst, sym}
use denote.Ref.{Bor}
use Rattle.std.proofs.lemmas.List.{map_more, take_all}
use Rattle.starlark_lexer.specs.Tokens.{Text}
use Rattle.starlark_cli.proofs.ToolLemmas.FolderLemmas.{stand_more}
use Rattle.starlark_cli.specs.Tool.Folders.{StandFor}
use Rattle.starlark_cli.proofs.tool.folder.found_at.Goals as goal

pub loop-path-preserved : goal.loop-path-preserved
loop-path-preserved g c =
    subst (λ (paths : List Text). StandFor paths c.add_path.new.found.items)
    (sym (map_more (λ (p : Bor Text). p.now) c.args.paths.now c.loop-path.path-index _ c.loop-path-test.true))
    (stand_more _ _ _ _ c.loop-path.invariant c.in_ok-add_path.ensures)

pub returns : goal.returns
returns g c =
    subst (λ (paths : List (Bor Text)). StandFor (map (λ p. p.now) paths) c.loop-path.found.items)
    (take_all c.loop-path.path-index c.args.paths.now c.loop-path-test.false) c.loop-path.invariant
