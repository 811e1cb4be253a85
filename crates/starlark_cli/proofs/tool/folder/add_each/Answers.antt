use Rattle.starlark_cli.proofs.tool.folder.add_each.Goals as goal

pub loop-child-init : goal.loop-child-init
loop-child-init c top h x = x

pub loop-child-preserved : goal.loop-child-preserved
loop-child-preserved c top h x = c.in_ok-add_child.ensures top h (c.loop-child.invariant top h x)

pub returns : goal.returns
returns c top h x = c.loop-child.invariant top h x
