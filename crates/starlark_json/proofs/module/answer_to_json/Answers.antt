use Rattle.std.proofs.lemmas.Result.{IfOk-weaker}
use Rattle.starlark_json.proofs.module.answer_to_json.Goals as goal

pub returns-in-Ok-clause-answer : goal.returns-in-Ok-clause-answer
returns-in-Ok-clause-answer c = rw c.in-Ok.is c.module_to_json.ensures.text

pub returns-in-Ok-clause-reads_back : goal.returns-in-Ok-clause-reads_back
returns-in-Ok-clause-reads_back c = rw c.in-Ok.is c.module_to_json.ensures.parsed_reads_back

pub returns-in-Err-clause-answer : goal.returns-in-Err-clause-answer
returns-in-Err-clause-answer c = rw c.in-Err.is c.error_to_json.ensures

pub returns-in-Err-clause-reads_back : goal.returns-in-Err-clause-reads_back
returns-in-Err-clause-reads_back c = rw c.in-Err.is (IfOk-weaker c.error_to_json.result _ _ (λ text is. tt) c.error_to_json.ensures)
