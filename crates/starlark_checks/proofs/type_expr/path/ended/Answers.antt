use Rattle.std.proofs.Common.{◌≡◌, true, codes, string_bytes, rules}
use Rattle.std.specs.Str.{bytes_eq}
use Rattle.starlark_tree.specs.Views.{word}
use Rattle.starlark_checks.specs.TypeViews.{path_seen}
use Rattle.starlark_checks.proofs.RefusalLemmas.{refused_by}
use Rattle.starlark_checks.proofs.TypeDotted.{banned_path}
use Rattle.starlark_checks.proofs.type_expr.path.ended.Goals as goal

pub returns-then-eq : goal.returns-then-eq
returns-then-eq g c =
    let type : bytes_eq (string_bytes c.args.name.now.node) (codes "type") ≡ true = search rules in
    record { ok = tt; err = refused_by _ (banned_path (word c.args.name.now) (path_seen c.args.path) type) c.banned.ensures }
