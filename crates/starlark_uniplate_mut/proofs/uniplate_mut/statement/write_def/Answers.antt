use Rattle.starlark_uniplate_mut.proofs.WriteStatements.{def_written}
use Rattle.starlark_uniplate_mut.proofs.uniplate_mut.statement.write_def.Goals as goal

pub returns : goal.returns
returns g c =
    def_written c.args.def.now c.deref_mut.result.now c.write_signature.new.parameters c.write_signature.new.return_type c.deref_mut.ensures.value
    c.write_signature.ensures.calls c.write_signature.ensures.parameters c.write_signature.ensures.return_type
