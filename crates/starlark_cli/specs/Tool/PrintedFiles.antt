-- What is printed of files, one after another.
use Rattle.std.specs.Prelude.{◌≡◌, ◌⊎◌, ◌++◌, ℕ, Bool, List, [], ◌∷◌, Option, IfSome, Result, Ok, Err, ⊤, codes, flat_map, fold, if◌then◌else◌, length}
use Rattle.std.specs.Prelude.{◌&&◌, false, map, true, nat_lt, not, string_bytes}
use Rattle.std.specs.Option.{option_map_or}
use Rattle.std.specs.Io.KnownBytes.{Appends}
use Rattle.starlark_diagnostics.specs.Emit as emit
use Rattle.starlark_lexer.specs.Tokens.{Text}
use Rattle.starlark_cli.specs.Tool.Cuts.{IsCut}
use Rattle.starlark_cli.specs.Tool.Folders.{StandFor}
use Rattle.starlark_cli.specs.Tool.Reports.{PrintsSource}
use Rattle.starlark_cli.specs.Tool.Sources.{HasRead}
use Rattle.starlark_cli.specs.Tool.Tallies.{is_clean, no_files, summary, with_file}
use Rattle.starlark_cli.specs.declared.tool.folder.Found.{Found}
use Rattle.starlark_cli.specs.declared.tool.folder.Found.TheVariants.{Input, File, Unread}
use Rattle.starlark_cli.specs.declared.tool.report.Counts.{Counts}
use Rattle.starlark_cli.specs.declared.tool.report.Finding.TheVariants.{Failed}
use Rattle.starlark_cli.specs.declared.tool.report.Report.{Report}
use Rattle.starlark_cli.specs.declared.tool.request.Request.{Request}
use Rattle.starlark_cli.specs.declared.tool.source.Source.{Source}
use Rattle.starlark_cli.specs.declared.tool.source.Source.TheVariants as sources
use Rattle.starlark_cli.specs.declared.tool.tally.Tally.{Tally}
use Rattle.starlark_cli.specs.declared.tool.task.Mode.{Mode}
use Rattle.starlark_cli.specs.declared.tool.task.Mode.TheVariants as modes
use Rattle.starlark_cli.specs.declared.tool.task.Task.{Task}
use Rattle.starlark_cli.specs.declared.tool.task.Turn.{Turn}

-- the name of a file in what is printed
abbrev pub name_of : Request → Found → Text
name_of r Input = r.stdin_name.now
name_of r (File path) = string_bytes path
name_of r (Unread path reason) = string_bytes path

-- What is printed of a file, if the input still has `known`, if that is known, and then `left`. What a file of the disk gave is some source.
abbrev pub PrintsFound : Request → Turn → Option (List ℕ) → Option (List ℕ) → Found → Report → Type 0
PrintsFound r turn known left Input report = (source : Source) × HasRead known left source × PrintsSource r.task turn r.stdin_name.now source report
PrintsFound r turn known left (File path) report = (left ≡ known) × ((source : Source) × PrintsSource r.task turn (string_bytes path) source report)
PrintsFound r turn known left (Unread path reason) report = (left ≡ known) × PrintsSource r.task turn (string_bytes path) (sources.Unread reason) report

-- what was printed of a file, none if memory ran out, and what the input had left then
pub record Entry : Type 0 where
  pub found : Found
  pub report : Option Report
  pub left : Option (List ℕ)

abbrev pub counts_of : Entry → Counts
counts_of e = option_map_or (λ (r : Report). r.counts) e.report (record { errors = 0; warnings = 0; finding = Failed })

abbrev pub out_of : Entry → Text
out_of e = option_map_or (λ (r : Report). string_bytes r.out) e.report []

abbrev pub err_of : Request → Entry → Text
err_of r e = option_map_or (λ (report : Report). string_bytes report.err) e.report (name_of r e.found ++ codes ": out of memory\n")

abbrev pub IsPrinted : Request → Turn → Option (List ℕ) → Entry → Type 0
IsPrinted r turn known e = IfSome e.report (PrintsFound r turn known e.left e.found)

-- the files before have this tally
abbrev pub turn_after : Tally → Bool → Turn
turn_after tally is_one_of_many = record { follows = not (is_clean tally); is_one_of_many = is_one_of_many }

abbrev pub tally_of : Tally → List Entry → Tally
tally_of tally entries = fold (λ t e. with_file t (counts_of e)) tally entries

-- what the input has left after the entries
abbrev pub left_of : Option (List ℕ) → List Entry → Option (List ℕ)
left_of known entries = fold (λ k e. e.left) known entries

-- each entry is printed in its turn
abbrev pub ArePrinted : Request → Bool → Tally → Option (List ℕ) → List Entry → Type 0
ArePrinted r many tally known [] = ⊤
ArePrinted r many tally known (e ∷ es) = IsPrinted r (turn_after tally many) known e × ArePrinted r many (with_file tally (counts_of e)) e.left es

-- the mode prints diagnostics
abbrev pub is_reporting : Mode → Bool
is_reporting modes.Check = true
is_reporting modes.Lint = true
is_reporting modes.Loads = false
is_reporting modes.Json = false
is_reporting modes.Source = false
is_reporting modes.Print = false

-- what is printed before and after all files
abbrev pub opening_of : Task → Text
opening_of t = if is_reporting t.mode then emit.opening t.format else codes ""

abbrev pub closing_of : Task → Text
closing_of t = if is_reporting t.mode then emit.closing t.format else codes ""

-- there is a summary: of diagnostics, unless there are none
abbrev pub is_summed_up : Request → Tally → Bool
is_summed_up r tally = is_reporting r.task.mode && (not r.is_quiet && not (is_clean tally))

abbrev pub summary_of : Request → Tally → Text
summary_of r tally = if is_summed_up r tally then summary tally else codes ""

abbrev pub all_out : Request → List Entry → Text
all_out r entries = opening_of r.task ++ (flat_map out_of entries ++ closing_of r.task)

abbrev pub all_err : Request → List Entry → Text
all_err r entries = flat_map (err_of r) entries

-- Of each file in order what is printed of it was written after what was there before.
pub record PrintsAll (r : Request) (known out_before out_after err_before err_after : Option (List ℕ)) (status : ℕ) : Type 0 where
  pub found : List Found
  pub stands : StandFor (map (λ p. p.now) r.paths.items) found
  pub entries : List Entry
  pub each_file : map (λ (e : Entry). e.found) entries ≡ found
  pub printed : ArePrinted r (nat_lt 1 (length found)) no_files known entries
  pub out : Appends out_before out_after (all_out r entries)
  pub err : Appends err_before err_after (all_err r entries ++ summary_of r (tally_of no_files entries))
  pub status_is : status ≡ (tally_of no_files entries).status

-- Memory ran out, or something could not be written: what was printed up to there was written, but for a part at its end.
pub record PrintsSome (r : Request) (known out_before out_after : Option (List ℕ)) : Type 0 where
  pub found : List Found
  pub stands : (found ≡ []) ⊎ StandFor (map (λ p. p.now) r.paths.items) found
  pub entries : List Entry
  pub others : List Found
  pub first_files : map (λ (e : Entry). e.found) entries ++ others ≡ found
  pub printed : ArePrinted r (nat_lt 1 (length found)) no_files known entries
  pub out : IsCut out_before out_after (all_out r entries)

-- what is printed of a file was written, but for a part at its end if writing failed
pub record Prints (r : Request) (turn : Turn) (found : Found) (known left out_before out_after : Option (List ℕ)) : Type 0 where
  pub entry : Entry
  pub this_file : entry.found ≡ found
  pub its_left : entry.left ≡ left
  pub printed : IsPrinted r turn known entry
  pub out : IsCut out_before out_after (out_of entry)

pub record PrintsWhole (r : Request) (turn : Turn) (found : Found) (known left out_before out_after err_before err_after : Option (List ℕ))
    (counts : Counts) : Type 0 where
  pub entry : Entry
  pub this_file : entry.found ≡ found
  pub its_left : entry.left ≡ left
  pub printed : IsPrinted r turn known entry
  pub out : Appends out_before out_after (out_of entry)
  pub err : Appends err_before err_after (err_of r entry)
  pub counts_are : counts ≡ counts_of entry

abbrev pub PrintsFile : {E : Type 0} → Request → Turn → Found → Option (List ℕ) → Option (List ℕ) → Option (List ℕ) → Option (List ℕ) → Option (List ℕ)
    → Option (List ℕ) → Result Counts E → Type 0
PrintsFile r turn found known left out_before out_after err_before err_after (Ok counts) =
    PrintsWhole r turn found known left out_before out_after err_before err_after counts
PrintsFile r turn found known left out_before out_after err_before err_after (Err e) = Prints r turn found known left out_before out_after

-- of each file of a list
pub record PrintsEach (r : Request) (many : Bool) (found : List Found) (known left out_before out_after err_before err_after : Option (List ℕ))
    (tally : Tally) : Type 0 where
  pub entries : List Entry
  pub each_file : map (λ (e : Entry). e.found) entries ≡ found
  pub printed : ArePrinted r many no_files known entries
  pub its_left : left_of known entries ≡ left
  pub out : Appends out_before out_after (flat_map out_of entries)
  pub err : Appends err_before err_after (flat_map (err_of r) entries)
  pub tally_is : tally ≡ tally_of no_files entries

-- of the first files of a list, the last one cut
pub record PrintsFirst (r : Request) (many : Bool) (found : List Found) (known out_before out_after : Option (List ℕ)) : Type 0 where
  pub entries : List Entry
  pub others : List Found
  pub first_files : map (λ (e : Entry). e.found) entries ++ others ≡ found
  pub printed : ArePrinted r many no_files known entries
  pub out : IsCut out_before out_after (flat_map out_of entries)

abbrev pub PrintsFiles : {E : Type 0} → Request → List Found → Option (List ℕ) → Option (List ℕ) → Option (List ℕ) → Option (List ℕ) → Option (List ℕ)
    → Result Tally E → Type 0
PrintsFiles r found known out_before out_after err_before err_after (Ok tally) =
    (left : Option (List ℕ)) × PrintsEach r (nat_lt 1 (length found)) found known left out_before out_after err_before err_after tally
PrintsFiles r found known out_before out_after err_before err_after (Err e) = PrintsFirst r (nat_lt 1 (length found)) found known out_before out_after
