use Rattle.std.proofs.Common.{rules, string_bytes}
use Rattle.std.specs.Prelude.{IsErr}
use Rattle.std.specs.Io.KnownBytes.{Appends}
use Rattle.starlark_cli.proofs.ToolLemmas.PrintedFiles.{cut_whole}
use Rattle.starlark_cli.proofs.ToolLemmas.WholeRuns.{file_err, part, part_none, whole, whole_none}
use Rattle.starlark_cli.specs.Tool.Cuts.{IsCut}
use Rattle.starlark_cli.specs.Tool.PrintedFiles.{name_of}
use Rattle.starlark_cli.proofs.tool.run.print_file.Goals as goal

pub returns-in_err-put-in-Ok : goal.returns-in_err-put-in-Ok
returns-in_err-put-in-Ok g c =
    let failed : IsErr c.from_residual.result = search rules in
    let out : IsCut (g.W.Write.contents c.args.out.now) (g.W.Write.contents c.put.new.out) (string_bytes c.in-Ok.report.out) = search rules in
    file_err _ _ _ _ _ _ _ _ _ _ failed (part c.args.request.now c.args.turn c.args.file.now _ _ c.in-Ok.report _ _ c.in-Ok.ensures out)

pub returns-in_err-put-in-Ok-2 : goal.returns-in_err-put-in-Ok-2
returns-in_err-put-in-Ok-2 g c =
    let failed : IsErr c.from_residual-in_err-put-in-Ok-2.result = search rules in
    let out : Appends (g.W.Write.contents c.args.out.now) (g.W.Write.contents c.put.new.out) (string_bytes c.in-Ok.report.out) = search rules in
    file_err _ _ _ _ _ _ _ _ _ _ failed
    (part c.args.request.now c.args.turn c.args.file.now _ _ c.in-Ok.report _ _ c.in-Ok.ensures (cut_whole _ _ (string_bytes c.in-Ok.report.out) out))

pub returns-in_err-put-in-Err : goal.returns-in_err-put-in-Err
returns-in_err-put-in-Err g c =
    let failed : IsErr c.from_residual-in_err-put-in-Err.result = search rules in
    file_err _ _ _ _ _ _ _ _ _ _ failed (part_none c.args.request.now c.args.turn c.args.file.now _ _ _)

pub returns-in_err-put-in-Err-2 : goal.returns-in_err-put-in-Err-2
returns-in_err-put-in-Err-2 g c =
    let failed : IsErr c.from_residual-in_err-put-in-Err-2.result = search rules in
    file_err _ _ _ _ _ _ _ _ _ _ failed (part_none c.args.request.now c.args.turn c.args.file.now _ _ _)

pub returns-in_ok-put-in-Ok-2 : goal.returns-in_ok-put-in-Ok-2
returns-in_ok-put-in-Ok-2 g c =
    let out : Appends (g.W.Write.contents c.args.out.now) (g.W.Write.contents c.put.new.out) (string_bytes c.in-Ok.report.out) = search rules in
    let err : Appends (g.E.Write.contents c.args.err.now) (g.E.Write.contents c.put-in-Ok.new.out) (string_bytes c.in-Ok.report.err) = search rules in
    whole c.args.request.now c.args.turn c.args.file.now _ _ c.in-Ok.report _ _ _ _ c.in-Ok.ensures out err

pub returns-in_ok-put-in-Err-2 : goal.returns-in_ok-put-in-Err-2
returns-in_ok-put-in-Err-2 g c =
    let name : Appends (g.E.Write.contents c.args.err.now) (g.E.Write.contents c.put-in-Err.new.out) (name_of c.args.request.now c.args.file.now)
    = search rules in
    whole_none c.args.request.now c.args.turn c.args.file.now _ _ _ _ _ _ name c.in_ok-put-in-Err-2.ensures
