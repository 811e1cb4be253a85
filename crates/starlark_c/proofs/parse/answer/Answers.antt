use Rattle.std.proofs.Common.{◌≡◌, codes, rules, string_bytes}
use Rattle.std.proofs.lemmas.Result.{IfOk-weaker}
use Rattle.starlark_c.proofs.ResultLemmas.{both_ok, err_same, of_module, of_refusal}
use Rattle.starlark_c.proofs.parse.answer.Goals as goal

pub returns-in-Ok : goal.returns-in-Ok
returns-in-Ok c =
    let same : string_bytes c.in_ok-content.content ≡ c.args.text.now = search rules in
    IfOk-weaker c.module_in.result _ _ (λ bytes h. of_module c.args.format c.args.depth c.args.dialect.now (codes "input") c.args.text.now
    (string_bytes c.in_ok-content.content) _ _ _ _ same
    c.in-Ok.ensures.codemap c.in-Ok.ensures.comments c.in-Ok.ensures.within c.in-Ok.ensures.parsed h) c.module_in.ensures

pub returns-in-Err : goal.returns-in-Err
returns-in-Err c =
    let same : string_bytes c.in_ok-content.content ≡ c.args.text.now = search rules in
    IfOk-weaker c.refusal.result _ _ (λ bytes h. of_refusal c.args.format c.args.depth c.args.dialect.now (codes "input") c.args.text.now
    (string_bytes c.in_ok-content.content) _ _ same
    (λ long. err_same _ _ (c.in-Err.ensures.too_long long)) c.in-Err.ensures.refused h.1 h.0)
    (both_ok c.refusal.result _ _ c.refusal.ensures.bytes c.refusal.ensures.has_memory)
