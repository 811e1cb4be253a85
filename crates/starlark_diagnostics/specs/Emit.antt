-- What each format writes.
use Rattle.std.specs.Prelude.{◌++◌, [], Option, codes}
use Rattle.starlark_lexer.specs.Places.{File}
use Rattle.starlark_lexer.specs.Tokens.{Text}
use Rattle.starlark_diagnostics.specs.Ends.{ends_of}
use Rattle.starlark_diagnostics.specs.Full.{full_text}
use Rattle.starlark_diagnostics.specs.Github.{github_text}
use Rattle.starlark_diagnostics.specs.Json.{json_text}
use Rattle.starlark_diagnostics.specs.Sarif.{sarif_text}
use Rattle.starlark_diagnostics.specs.DiagnosticViews.{Diagnostic}
use Rattle.starlark_diagnostics.specs.Short.{short_text}
use Rattle.starlark_diagnostics.specs.declared.emit.Format.{Format}
use Rattle.starlark_diagnostics.specs.declared.emit.Format.TheVariants as format

abbrev pub format_name : Format → Text
format_name format.Full = codes "full"
format_name format.Short = codes "short"
format_name format.Json = codes "json"
format_name format.Github = codes "github"
format_name format.Sarif = codes "sarif"

-- a diagnostic of the file at a path, whose text there may be
abbrev pub diagnostic_text : Format → Text → Option File → Diagnostic → Text
diagnostic_text format.Full path file d = full_text path file d
diagnostic_text format.Short path file d = short_text path (ends_of file d.span) d
diagnostic_text format.Json path file d = json_text path file d
diagnostic_text format.Github path file d = github_text path (ends_of file d.span) d
diagnostic_text format.Sarif path file d = sarif_text path file d

-- before the first diagnostic: SARIF's is one document with one run
abbrev pub opening : Format → Text
opening format.Sarif =
    codes "{\"version\":\"2.1.0\",\"$schema\":\"https://json.schemastore.org/sarif-2.1.0.json\",\"runs\":[{"
    ++ codes "\"tool\":{\"driver\":{\"name\":\"starlark\"}},\"columnKind\":\"unicodeCodePoints\",\"results\":["
opening f = []

-- between two
abbrev pub separator : Format → Text
separator format.Sarif = codes ","
separator f = []

-- after the last
abbrev pub closing : Format → Text
closing format.Sarif = codes "]}]}\n"
closing f = []
