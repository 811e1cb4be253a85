use Rattle.std.proofs.Common.{rules, ◌≡◌, List, ap, inl, inr, refl, string_bytes, subst, sym}
use Rattle.std.specs.List.{All}
use Rattle.std.proofs.lemmas.List.Elements.{All-nil}
use Rattle.starlark_lexer.specs.Tokens.{Text}
use Rattle.starlark_cli.proofs.ToolLemmas.FolderLemmas.{adds_one, adds_twice, later_file, later_folder, later_popped, prefix_itself}
use Rattle.starlark_cli.specs.Tool.Folders.{AddsBelow, IsLaterBelow, IsPrefixBelow, prefix}
use Rattle.starlark_cli.specs.declared.tool.folder.Found.{Found}
use Rattle.starlark_cli.specs.declared.tool.folder.Found.TheVariants.{File}
use Rattle.starlark_cli.specs.declared.tool.folder.Later.{Later}
use Rattle.starlark_cli.proofs.tool.folder.add_folder.Goals.{then-next+in_ok-add_children-2, else-next+in_ok-push}
use Rattle.starlark_cli.proofs.tool.folder.add_folder.Goals as goal

pub loop-init : goal.loop-init
loop-init g c =
    let top = c.args.folder.now in
    let same : c.deref.result.now ≡ prefix top = search rules in
    let begins = subst (λ (t : Text). IsPrefixBelow top t) (sym same) (prefix_itself top) in
    let none = subst (λ (l : List Later). All (IsLaterBelow top) l) (sym c.new-later.ensures.items) (All-nil (IsLaterBelow top)) in
    (c.in_ok-add_children.ensures.found top (inl refl), c.in_ok-add_children.ensures.later top begins none)

pub loop-preserved : goal.loop-preserved
loop-preserved g c =
    let top = c.args.folder.now in
    let popped = later_popped top c.loop.later.items c.pop.new.self.items c.in-Some.next c.in-Some.ensures.items c.loop.invariant.1 in
    elim c.if-next.branch [
      | then-next+in_ok-add_children-2 w ↦
          let below = later_folder top c.in-Some.next popped.1 w.if-next.true in
          let folder : w.deref-then-next.result.now ≡ string_bytes c.in-Some.next.path = search rules in
          let begin : w.deref-then-next-2.result.now ≡ string_bytes c.in-Some.next.path = search rules in
          let more = w.in_ok-add_children-2.ensures.found top (inr (subst (λ (t : Text). IsPrefixBelow top t) (sym folder) below)) in
          let later = w.in_ok-add_children-2.ensures.later top (subst (λ (t : Text). IsPrefixBelow top t) (sym begin) below) popped.0 in (
            subst (λ (l : List Found). AddsBelow top c.args.found.now.items l) (sym (ap (λ v. v.items) w.found-is))
                (adds_twice top _ _ _ c.loop.invariant.0 more),
            subst (λ (l : List Later). All (IsLaterBelow top) l) (sym (ap (λ v. v.items) w.later-is)) later,
          )
      | else-next+in_ok-push w ↦
          let below = later_file top c.in-Some.next popped.1 w.if-next.false in
          let more = adds_one top c.loop.found.items w.push.new.self.items (File c.in-Some.next.path) w.in_ok-push.ensures.items below in (
            subst (λ (l : List Found). AddsBelow top c.args.found.now.items l) (sym (ap (λ v. v.items) w.found-is))
                (adds_twice top _ _ _ c.loop.invariant.0 more),
            subst (λ (l : List Later). All (IsLaterBelow top) l) (sym (ap (λ v. v.items) w.later-is)) popped.0,
          )
    ]
