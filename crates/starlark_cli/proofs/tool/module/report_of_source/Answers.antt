use Rattle.std.proofs.Common.{[], IfOk, Some, ap, rules}
use Rattle.starlark_diagnostics.specs.Emit.{diagnostic_text}
use Rattle.starlark_diagnostics.specs.declared.emit.Format.TheVariants as formats
use Rattle.starlark_lexer.specs.Tokens.{span_of}
use Rattle.starlark_source.specs.Lines.{source_of}
use Rattle.starlark_tree.specs.Views.{statement_of}
use Rattle.starlark_cli.specs.Tool.Modules.{not_source}
use Rattle.starlark_cli.specs.Tool.Writing.{Writes, counted_as}
use Rattle.starlark_cli.specs.declared.tool.report.Finding.TheVariants.{Faulty}
use Rattle.starlark_cli.proofs.ToolLemmas.Modules.{unsaid_printed}
use Rattle.starlark_cli.proofs.tool.module.report_of_source.Goals as goal

pub returns-in-Err-NotSource : goal.returns-in-Err-NotSource
returns-in-Err-NotSource c =
    let printed : IfOk c.report_of_unsaid.result (Writes [] (diagnostic_text formats.Full c.codemap-in-Err-NotSource.result.now.name
    (Some c.codemap-in-Err-NotSource.result.now) (not_source (span_of c.in-Err-NotSource.span))) (counted_as Faulty)) = search rules in
    unsaid_printed c.args.turn c.args.ast.now.codemap c.codemap-in-Err-NotSource.result.now (source_of (statement_of c.args.ast.now.statement))
    (source_of (statement_of c.statement.result.now)) c.in-Err-NotSource.field-0 c.in-Err-NotSource.span c.report_of_unsaid.result
    c.codemap-in-Err-NotSource.ensures (ap (λ s. source_of (statement_of s)) c.statement.ensures) c.in-Err-NotSource.field-0-is
    c.in-Err-NotSource.ensures.not_source printed
