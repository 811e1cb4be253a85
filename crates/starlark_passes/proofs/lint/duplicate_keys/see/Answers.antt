use Rattle.std.proofs.Common.{ap, not, map, ◌∙◌}
use Rattle.std.specs.Str.{bytes_eq}
use Rattle.starlark_passes.specs.Lint.Found.{text_of}
use Rattle.starlark_passes.proofs.LintLemmas.Texts.{any_text, texts_inserted}
use Rattle.starlark_passes.proofs.lint.duplicate_keys.see.Goals as goal

pub returns-clause-is_new : goal.returns-clause-is_new
returns-clause-is_new c = c.in_ok-is_new.ensures.added ∙ ap not (any_text text_of (bytes_eq c.args.text.now) c.args.seen.now.keys)

pub returns-clause-seen : goal.returns-clause-seen
returns-clause-seen c = ap (map text_of) c.in_ok-is_new.ensures.keys ∙ texts_inserted text_of c.args.seen.now.keys c.args.text
