use Rattle.std.proofs.Common.{◌∙◌, IfSome, ap, subst}
use Rattle.starlark_module.proofs.CommentsLemmas.Sets.{listed-Contains}
use Rattle.starlark_module.specs.Comments.Names.{HasNames, is_listed}
use Rattle.starlark_module.proofs.comments.short_names.ShortNames.contains.Goals as goal

pub returns-in-Some : goal.returns-in-Some
returns-in-Some c =
    let has = subst (λ o. IfSome o (λ s. HasNames s c.args.self.now.listed.items)) c.in-Some.is c.args.self.now.same in
    listed-Contains c.args.name.now c.args.self.now.listed.items (c.contains.ensures ∙ has c.args.name.now)

pub returns-in-None : goal.returns-in-None
returns-in-None c =
    listed-Contains c.args.name.now c.args.self.now.listed.items (c.is_among.ensures ∙ ap (is_listed c.args.name.now) c.as_slice.ensures.value)
