use Rattle.std.proofs.Common.{◌++◌, take, codes}
use Rattle.std.specs.List.{flat_map}
use Rattle.std.specs.Fmt.{HasWritten, IsPlainFormatter}
use Rattle.starlark_tree.specs.Printing.{load_arg_text}
use Rattle.starlark_tree.specs.Views.{load_arg_of}
use Rattle.starlark_tree.proofs.display.load.write_load_args.Given as goal

abbrev pub invariant-loop-arg : goal.invariant-loop-arg
invariant-loop-arg g l =
    IsPlainFormatter l.initial.f
    → HasWritten g.W.Write.write_str_gives l.initial.f (flat_map (λ arg. codes ", " ++ load_arg_text (load_arg_of arg)) (take l.arg-index l.others)) l.f
