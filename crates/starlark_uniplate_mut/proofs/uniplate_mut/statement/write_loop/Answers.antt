use Rattle.starlark_uniplate_mut.proofs.WriteStatements.{for_written}
use Rattle.starlark_uniplate_mut.proofs.uniplate_mut.statement.write_loop.Goals as goal

pub returns : goal.returns
returns g c = for_written c.args.repeated.now c.write_binding.new.target c.write_binding.new.value c.write_binding.ensures.calls c.write_binding.ensures.rest
