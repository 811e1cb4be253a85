use Rattle.std.proofs.Common.{◌≡◌, rules}
use Rattle.std.proofs.lemmas.Result.{IfOk-weaker}
use Rattle.starlark_c.proofs.Formats.{compact_module, json_module}
use Rattle.starlark_c.proofs.parse.module_in.Goals as goal

pub returns-then-format-eq-COMPACT : goal.returns-then-format-eq-COMPACT
returns-then-format-eq-COMPACT c =
    let two : c.args.format ≡ 2 = search rules in
    IfOk-weaker c.module_to_compact.result _ _ (λ bytes is. compact_module c.args.format _ _ _ _ two is) c.module_to_compact.ensures

pub returns-else-format-eq-COMPACT : goal.returns-else-format-eq-COMPACT
returns-else-format-eq-COMPACT c =
    let other : c.args.format ≡ 2 → ⊥ = search rules in
    IfOk-weaker c.module_json.result _ _ (λ bytes is. json_module c.args.format _ _ _ _ other is) c.module_json.ensures
