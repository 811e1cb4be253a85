-- What is counted of files, and the summary.
use Rattle.std.specs.Prelude.{◌+◌, ◌-◌, ◌^◌, ◌++◌, ◌==◌, ◌&&◌, ℕ, Bool, codes, decimal, if◌then◌else◌, max, min}
use Rattle.starlark_lexer.specs.Tokens.{Text}
use Rattle.starlark_cli.specs.declared.tool.report.Counts.{Counts}
use Rattle.starlark_cli.specs.declared.tool.report.Finding.{Finding}
use Rattle.starlark_cli.specs.declared.tool.report.Finding.TheVariants.{Clean, Faulty, Failed}
use Rattle.starlark_cli.specs.declared.tool.tally.Tally.{Tally}

abbrev pub no_files : Tally
no_files = record { errors = 0; warnings = 0; files = 0; status = 0 }

abbrev pub status_of : Finding → ℕ
status_of Clean = 0
status_of Faulty = 1
status_of Failed = 3

-- a sum, which stops at 2^64 - 1
abbrev pub count_sum : ℕ → ℕ → ℕ
count_sum n m = min (n + m) (2 ^ 64 - 1)

-- with one more file, of which this is counted; the status is the worst of all files
abbrev pub with_file : Tally → Counts → Tally
with_file tally counts = record {
  errors = count_sum tally.errors counts.errors;
  warnings = count_sum tally.warnings counts.warnings;
  files = count_sum tally.files 1;
  status = max tally.status (status_of counts.finding);
}

-- there has been no error or warning
abbrev pub is_clean : Tally → Bool
is_clean tally = (tally.errors == 0) && (tally.warnings == 0)

-- so many things that are called this
abbrev pub counted : ℕ → Text → Text
counted n thing = decimal n ++ (codes " " ++ (thing ++ (if n == 1 then codes "" else codes "s")))

-- as `2 errors, 1 warning in 212 files`, on a line
abbrev pub summary : Tally → Text
summary tally = counted tally.errors (codes "error") ++ (codes ", " ++ (counted tally.warnings (codes "warning")
    ++ (codes " in " ++ (counted tally.files (codes "file") ++ codes "\n"))))
