use Rattle.std.proofs.Common.{rules, ◌≡◌, ◌∙◌, ap, sym, ◌++◌, append_assoc, take, drop}
use Rattle.std.specs.Io.KnownBytes.{Appends, Keeps}
use Rattle.std.proofs.lemmas.List.{take-append-drop, take_rest}
use Rattle.starlark_cli.proofs.ToolLemmas.PrintedFiles.{appends_kept, appends_twice}
use Rattle.starlark_cli.proofs.tool.put.put.Goals.{in-Ok, in-Err+else-ne}
use Rattle.starlark_cli.proofs.tool.put.put.Goals as goal

pub loop-preserved : goal.loop-preserved
loop-preserved g c =
    let begin = c.loop.invariant.0 in
    let text = c.loop.rest.now in
    elim c.match-write.branch [
      | in-Ok w ↦
          let n = w.in-Ok.count in
          let written : Appends (g.W.Write.contents c.loop.out) (g.W.Write.contents c.write.new.self) (take n text) = search rules in
          let left : c.match-write.rest.now ≡ drop n text = ap (λ r. r.now) w.rest-is ∙ take_rest text n in (
            begin ++ take n text,
            appends_twice _ _ _ _ _ c.loop.invariant.1 written,
            c.loop.invariant.2 ∙ ap (λ l. begin ++ l) (sym (take-append-drop n text)) ∙ sym (append_assoc begin (take n text) _)
                ∙ ap (λ l. (begin ++ take n text) ++ l) (sym left),
          )
      | in-Err+else-ne w ↦
          let kept : Keeps (g.W.Write.contents c.loop.out) (g.W.Write.contents c.write.new.self) = search rules in
          let same : c.match-write.rest.now ≡ text = search rules in
          (begin, appends_kept _ _ _ _ c.loop.invariant.1 kept, c.loop.invariant.2 ∙ ap (λ l. begin ++ l) (sym same))
    ]
