use Rattle.std.proofs.Common.{[], ◌∷◌, append_assoc}
use Rattle.std.specs.List.{flat_map}
use Rattle.json.specs.Token.{end_array, end_object}
use Rattle.starlark_json.specs.Tree.Tokens.{number_tokens}
use Rattle.starlark_json.proofs.TreeLemmas.AddsLemmas.{one, next, numbers_listed}
use Rattle.starlark_json.proofs.tree.literal.write_bytes.Goals as goal

pub returns : goal.returns
returns c =
    rw (numbers_listed c.args.bytes.now, append_assoc (flat_map number_tokens c.args.bytes.now) (end_array ∷ []) (end_object ∷ []))
    (next c.in_ok-write_text.ensures
    (next (one c.in_ok-key.ensures)
    (next (one c.in_ok-begin_array.ensures) (next c.in_ok-write_numbers.ensures (next (one c.in_ok-end_array.ensures) (one c.end_object.ensures))))))
