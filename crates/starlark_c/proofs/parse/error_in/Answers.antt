use Rattle.std.proofs.Common.{◌≡◌, rules}
use Rattle.std.proofs.lemmas.Result.{IfOk-weaker}
use Rattle.starlark_c.proofs.Formats.{compact_refusal, json_refusal}
use Rattle.starlark_c.proofs.parse.error_in.Goals as goal

pub returns-then-format-eq-COMPACT : goal.returns-then-format-eq-COMPACT
returns-then-format-eq-COMPACT c =
    let two : c.args.format ≡ 2 = search rules in
    IfOk-weaker c.error_to_compact.result _ _ (λ bytes is. compact_refusal c.args.format _ _ two is) c.error_to_compact.ensures

pub returns-else-format-eq-COMPACT : goal.returns-else-format-eq-COMPACT
returns-else-format-eq-COMPACT c =
    let other : c.args.format ≡ 2 → ⊥ = search rules in
    IfOk-weaker c.error_json.result _ _ (λ bytes is. json_refusal c.args.format _ _ other is) c.error_json.ensures
