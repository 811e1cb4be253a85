use Rattle.starlark_checks.proofs.call.CallArgsUnpack.unpack.Goals as goal

pub returns-clause-ok : goal.returns-clause-ok
returns-clause-ok g c = rw c.as_slice.ensures.value at c.of_arguments.ensures.ok

pub returns-clause-faultless : goal.returns-clause-faultless
returns-clause-faultless g c = rw c.as_slice.ensures.value at c.of_arguments.ensures.faultless

pub returns-clause-err : goal.returns-clause-err
returns-clause-err g c = rw c.as_slice.ensures.value at c.of_arguments.ensures.err

pub returns-clause-only_memory : goal.returns-clause-only_memory
returns-clause-only_memory g c = rw c.as_slice.ensures.value at c.of_arguments.ensures.only_memory
