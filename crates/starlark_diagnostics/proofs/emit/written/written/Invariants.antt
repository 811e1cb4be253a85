use Rattle.std.proofs.Common.{◌≡◌, flat_map, string_bytes}
use Rattle.starlark_diagnostics.specs.Written.{written_char}
use Rattle.starlark_diagnostics.proofs.emit.written.written.Given as goal

abbrev pub invariant-loop-c : goal.invariant-loop-c
invariant-loop-c l = string_bytes l.out ≡ flat_map (written_char l.style) l.yielded
