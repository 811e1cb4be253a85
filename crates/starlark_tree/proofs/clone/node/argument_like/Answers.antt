use Rattle.std.proofs.Common.{ap, refl}
use Rattle.starlark_lexer.specs.Tokens.{Span as Place, span_of}
use Rattle.starlark_tree.specs.Clones.{ClonesArgument, ClonesShape, cloning}
use Rattle.starlark_tree.specs.Parts.{argument_expression}
use Rattle.starlark_tree.specs.Views.{argument_seen, shape_seen}
use Rattle.starlark_tree.specs.declared.ast.ArgumentP
use Rattle.starlark_tree.proofs.Copies.{of_part}
use Rattle.starlark_tree.proofs.clone.node.argument_like.Goals as goal

pub returns-in-Ok : goal.returns-in-Ok
returns-in-Ok g c =
    let R = cloning g.P.LoadPayload.Clone.is_clone g.P.IdentPayload.Clone.is_clone g.P.IdentAssignPayload.Clone.is_clone g.P.DefPayload.Clone.is_clone
    g.P.TypeExprPayload.Clone.is_clone in
    of_part (λ x v. ClonesShape R (shape_seen (argument_expression x).node) (shape_seen v) → (at : Place) →
    ClonesArgument R (argument_seen at x) (argument_seen at (ArgumentP.Positional c.in-Ok.part))) c.args.original.now _ _ _
    c.in-Ok.ensures.node c.in-Positional.is (λ same at. (refl, (ap span_of c.in-Ok.ensures.span, same)))

pub returns-in-Ok-parts : goal.returns-in-Ok-parts
returns-in-Ok-parts g c =
    let R = cloning g.P.LoadPayload.Clone.is_clone g.P.IdentPayload.Clone.is_clone g.P.IdentAssignPayload.Clone.is_clone g.P.DefPayload.Clone.is_clone
    g.P.TypeExprPayload.Clone.is_clone in
    let node = rw c.in-Ok-parts.ensures.second at c.spanned_like-in-Named.ensures.node in
    let span = rw c.in-Ok-parts.ensures.second at c.spanned_like-in-Named.ensures.span in
    let name = rw c.in-Ok-parts.ensures.first at c.clone_text.ensures in
    of_part (λ x v. ClonesShape R (shape_seen (argument_expression x).node) (shape_seen v) → (at : Place) →
    ClonesArgument R (argument_seen at x) (argument_seen at (ArgumentP.Named c.in-Ok-parts.name c.in-Ok-parts.value))) c.args.original.now _ _ _
    node c.in-Named.is (λ same at. (refl, name, (ap span_of span, same)))

pub returns-in-Ok-spanned_like : goal.returns-in-Ok-spanned_like
returns-in-Ok-spanned_like g c =
    let R = cloning g.P.LoadPayload.Clone.is_clone g.P.IdentPayload.Clone.is_clone g.P.IdentAssignPayload.Clone.is_clone g.P.DefPayload.Clone.is_clone
    g.P.TypeExprPayload.Clone.is_clone in
    of_part (λ x v. ClonesShape R (shape_seen (argument_expression x).node) (shape_seen v) → (at : Place) →
    ClonesArgument R (argument_seen at x) (argument_seen at (ArgumentP.Args c.in-Ok-spanned_like.part))) c.args.original.now _ _ _
    c.in-Ok-spanned_like.ensures.node c.in-Args.is (λ same at. (refl, (ap span_of c.in-Ok-spanned_like.ensures.span, same)))

pub returns-in-Ok-spanned_like-2 : goal.returns-in-Ok-spanned_like-2
returns-in-Ok-spanned_like-2 g c =
    let R = cloning g.P.LoadPayload.Clone.is_clone g.P.IdentPayload.Clone.is_clone g.P.IdentAssignPayload.Clone.is_clone g.P.DefPayload.Clone.is_clone
    g.P.TypeExprPayload.Clone.is_clone in
    of_part (λ x v. ClonesShape R (shape_seen (argument_expression x).node) (shape_seen v) → (at : Place) →
    ClonesArgument R (argument_seen at x) (argument_seen at (ArgumentP.KwArgs c.in-Ok-spanned_like-2.part))) c.args.original.now _ _ _
    c.in-Ok-spanned_like-2.ensures.node c.in-KwArgs.is (λ same at. (refl, (ap span_of c.in-Ok-spanned_like-2.ensures.span, same)))
