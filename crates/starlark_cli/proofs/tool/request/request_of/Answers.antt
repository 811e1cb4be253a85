use Rattle.std.proofs.Common.{◌≡◌, ◌∙◌, ap, sym, subst, refl, rules, true, map, string_bytes}
use Rattle.std.proofs.lemmas.Option.{none-some}
use Rattle.std.proofs.lemmas.Result.{IfOk-weaker}
use Rattle.clap.proofs.OnLiterals.{clap_on_literals}
use Rattle.clap.specs.Words.{App, HasMatchesOf, is_simple, takes}
use Rattle.starlark_cli.proofs.ToolLemmas.Found.{both_parts, no_parts, request_in_both}
use Rattle.starlark_cli.specs.Tool.Words.{tool}
use Rattle.starlark_cli.proofs.tool.request.request_of.Goals as goal

is_simple_tool : is_simple tool ≡ true
unfolding clap_on_literals
is_simple_tool = refl

pub returns-in-Some-clause-asked : goal.returns-in-Some-clause-asked
returns-in-Some-clause-asked c =
    let matches = subst (λ (a : App). HasMatchesOf a (map string_bytes c.args.words.now) c.in_ok-matches.matches) c.in_ok-tool.ensures
    c.in_ok-matches.ensures.matches in
    IfOk-weaker c.request_in.result _ _ (λ r h. record {
      name = c.in-Some.name.now;
      rows = _;
      subcommand = sym (matches is_simple_tool).1 ∙ both_parts _ _ _ _ c.in-Some.ensures.name c.in-Some.ensures.rows;
      request = h;
    }) c.request_in.ensures.asked

-- the subcommand that was met is the one that the arguments name
pub returns-in-Some-clause-taken : goal.returns-in-Some-clause-taken
returns-in-Some-clause-taken c takes_words r h =
    let matches = subst (λ (a : App). HasMatchesOf a (map string_bytes c.args.words.now) c.in_ok-matches.matches) c.in_ok-tool.ensures
    c.in_ok-matches.ensures.matches in
    let same = sym (sym (matches is_simple_tool).1 ∙ both_parts _ _ _ _ c.in-Some.ensures.name c.in-Some.ensures.rows) ∙ h.subcommand in
    c.request_in.ensures.taken r (request_in_both _ _ _ same h.request)

pub returns-in_err-matches-clause-taken : goal.returns-in_err-matches-clause-taken
returns-in_err-matches-clause-taken c takes_words r h =
    let memory = c.in_err-matches.ensures.passes (ap (λ (a : App). takes a (map string_bytes c.args.words.now)) c.in_ok-tool.ensures ∙ takes_words) in
    search rules

-- no subcommand was met, and the arguments name one
pub returns-clause-taken : goal.returns-clause-taken
returns-clause-taken c takes_words r h =
    let matches = subst (λ (a : App). HasMatchesOf a (map string_bytes c.args.words.now) c.in_ok-matches.matches) c.in_ok-tool.ensures
    c.in_ok-matches.ensures.matches in
    absurd (none-some (h.name, h.rows) (sym (no_parts _ _ c.in-None.ensures.name) ∙ (matches is_simple_tool).1 ∙ h.subcommand))
