use Rattle.std.proofs.Common.{rules}
use Rattle.starlark_cli.proofs.tool.request.task_in.Goals as goal

pub returns-in_default-dialect_in-clause-taken : goal.returns-in_default-dialect_in-clause-taken
returns-in_default-dialect_in-clause-taken c t h =
    let none = c.in_default-dialect_in.ensures.none in
    none (search rules) t.dialect h.dialect

pub returns-in_default-depth_in-clause-taken : goal.returns-in_default-depth_in-clause-taken
returns-in_default-depth_in-clause-taken c t h =
    let none = c.in_default-depth_in.ensures.none in
    none (search rules) t.max_depth h.depth

pub returns-in_default-format_in-clause-taken : goal.returns-in_default-format_in-clause-taken
returns-in_default-format_in-clause-taken c t h =
    let none = c.in_default-format_in.ensures.none in
    none (search rules) t.format h.format
