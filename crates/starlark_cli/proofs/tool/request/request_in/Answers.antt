use Rattle.std.proofs.Common.{◌≡◌, ◌∙◌, rules, ap, sym, map, codes, Some, None, option_map}
use Rattle.clap.specs.Words.{found_of, matched_of, raw_values}
use Rattle.clap.proofs.WalkLemmas.{raw_values-rows}
use Rattle.starlark_cli.proofs.tool.request.request_in.Goals as goal

pub returns-clause-asked : goal.returns-clause-asked
returns-clause-asked c = record {
  task = c.in-Ok.ensures.asked;
  quiet = c.is_on.ensures;
  stdin = sym c.in-Some.ensures;
  paths = sym (c.in-Some-get_strs.ensures ∙ raw_values-rows (found_of c.args.given.now) (codes "path"))
      ∙ ap (λ xs. Some (map (λ s. s.now) xs)) (sym c.in_ok-from_slice.ensures.items);
}

pub returns-in_default-get_strs-clause-taken : goal.returns-in_default-get_strs-clause-taken
returns-in_default-get_strs-clause-taken c r h =
    let none : None ≡ option_map raw_values (matched_of (found_of c.args.given.now) (codes "path")) = search rules in
    let some = raw_values-rows (found_of c.args.given.now) (codes "path") ∙ h.paths in
    let both : None ≡ Some (map (λ s. s.now) r.paths.items) = none ∙ some in cc
