-- What is printed of what was read of a file.
use Rattle.std.specs.Prelude.{codes}
use Rattle.std.specs.Prelude.{string_bytes}
use Rattle.starlark_diagnostics.specs.Files.{not_utf8}
use Rattle.starlark_lexer.specs.Tokens.{Text}
use Rattle.starlark_cli.specs.declared.tool.report.Finding.TheVariants.{Faulty}
use Rattle.starlark_cli.specs.declared.tool.report.Report.{Report}
use Rattle.starlark_cli.specs.declared.tool.source.Source.{Source}
use Rattle.starlark_cli.specs.declared.tool.source.Source.TheVariants as sources
use Rattle.starlark_cli.specs.declared.tool.task.Task.{Task}
use Rattle.starlark_cli.specs.declared.tool.task.Turn.{Turn}
use Rattle.starlark_cli.specs.Tool.Writing.{PrintsFault, PrintsUnread}
use Rattle.starlark_cli.specs.Tool.Modules.{PrintsText}

-- what is printed of what was read of the file at a path
abbrev pub PrintsSource : Task → Turn → Text → Source → Report → Type 0
PrintsSource task turn path (sources.Text text) report = PrintsText task turn path (string_bytes text) report
PrintsSource task turn path sources.NotUtf8 report = PrintsFault task turn path (codes "NotUtf8") not_utf8 Faulty report
PrintsSource task turn path (sources.Unread reason) report = PrintsUnread task turn path (string_bytes reason) report
