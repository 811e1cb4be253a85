use Rattle.std.proofs.Common.{string_bytes, map, ap, ◌∙◌}
use Rattle.starlark_module.proofs.CommentsLemmas.Clones.{made_alike}
use Rattle.starlark_module.proofs.comments.short_names.ShortNamesClone.clone.Goals as goal

pub returns : goal.returns
returns c =
    record {
      cases = ap (λ v. map string_bytes v.items) c.new.ensures ∙ made_alike string_bytes c.args.self.now.listed.items c.in_ok-listed.listed.items
          c.in_ok-listed.ensures.cases.0;
    }
