-- What the arguments of the program ask for, by what `clap` finds in them.
use Rattle.std.specs.Prelude.{◌≡◌, ◌⊎◌, ◌<◌, ◌^◌, ℕ, Bool, List, [], ◌∷◌, Some, IsSomeAnd, codes, map, true, false, ⊤}
use Rattle.std.specs.Option.{option_map_or}
use Rattle.std.specs.Str.{bytes_eq}
use Rattle.std.specs.Str.Parse.{IsNumeral, digits_value, without_leading_plus}
use Rattle.clap.specs.Lexer.{usize_max}
use Rattle.clap.specs.Words.{App, Row, Rule, Shape, Text, all_of, first_of, kind_of, new_rule, subcommand_of}
use Rattle.clap.specs.Simple.{new_shape}
use Rattle.clap.specs.declared.builder.action.ArgAction.TheVariants.{SetTrue}
use Rattle.clap.specs.declared.error.kind.ErrorKind.TheVariants.{OutOfMemory}
use Rattle.starlark_diagnostics.specs.Emit.{format_name}
use Rattle.starlark_lexer.specs.Dialects.{every_part, no_part, standard_parts}
use Rattle.starlark_lexer.specs.declared.dialect.Dialect.{Dialect}
use Rattle.starlark_cli.specs.declared.tool.task.Mode.{Mode}
use Rattle.starlark_cli.specs.declared.tool.task.Mode.TheVariants as modes
use Rattle.starlark_cli.specs.declared.tool.request.Request.{Request}
use Rattle.starlark_cli.specs.declared.tool.request.WordsError.{WordsError}
use Rattle.starlark_cli.specs.declared.tool.task.Task.{Task}
use Rattle.starlark_cli.specs.declared.tool.request.WordsError.TheVariants.{Command, Name, FormatName, Depth, NotUtf8, Memory}

abbrev pub mode_name : Mode → Text
mode_name modes.Check = codes "check"
mode_name modes.Lint = codes "lint"
mode_name modes.Loads = codes "loads"
mode_name modes.Json = codes "json"
mode_name modes.Source = codes "source"
mode_name modes.Print = codes "print"

-- the dialect has this name
abbrev pub NamesDialect : Text → Dialect → Type 0
NamesDialect word d = ((word ≡ codes "all") × (d ≡ every_part)) ⊎ ((word ≡ codes "standard") × (d ≡ standard_parts))
    ⊎ ((word ≡ codes "bare") × (d ≡ no_part))

-- the depth has this numeral, perhaps after `+`
abbrev pub NamesDepth : Text → ℕ → Type 0
NamesDepth word n = IsNumeral 10 (without_leading_plus word) × (n < 2 ^ 32) × (n ≡ digits_value 10 (without_leading_plus word))

-- `--NAME VALUE`, one value, with a default
abbrev pub option_rule : Text → Text → Rule
option_rule name default = record (new_rule name) {
  long = Some name;
  value_names = 1;
  defaults = default ∷ [];
}

-- `--NAME`
abbrev pub flag_rule : Text → Rule
flag_rule name = record (new_rule name) {
  long = Some name;
  action = Some SetTrue;
}

-- `PATH..`, at least one value: by default `.` if it may be left out
abbrev pub path_rule : Bool → Rule
path_rule false = record (new_rule (codes "path")) {
  value_names = 1;
  required = true;
  range = Some (record { start_inclusive = 1; end_inclusive = usize_max });
}
path_rule true = record (new_rule (codes "path")) {
  value_names = 1;
  defaults = codes "." ∷ [];
  range = Some (record { start_inclusive = 1; end_inclusive = usize_max });
}

-- the subcommand of a mode, whose paths may be left out or not
abbrev pub mode_shape : Text → Bool → Shape
mode_shape name is_optional = record (new_shape name) {
  rules = option_rule (codes "dialect") (codes "all") ∷ option_rule (codes "max-depth") (codes "2000") ∷ option_rule (codes "format") (codes "full")
      ∷ option_rule (codes "stdin-filename") (codes "-") ∷ flag_rule (codes "quiet") ∷ path_rule is_optional ∷ [];
}

-- the command: a subcommand for each mode
abbrev pub tool : App
tool = record {
  top = record (new_shape (codes "starlark")) { no_binary_name = true; subcommand_required = true; has_version = true; is_leaf = false };
  subs = mode_shape (codes "check") true ∷ mode_shape (codes "lint") true ∷ mode_shape (codes "loads") false
      ∷ mode_shape (codes "json") false ∷ mode_shape (codes "source") false ∷ mode_shape (codes "print") false ∷ [];
}

-- the option has a value of which P holds
abbrev pub Has : Text → List Row → (Text → Type 0) → Type 0
Has option rows P = IsSomeAnd (first_of option rows) P

-- the flag is given
abbrev pub is_on : Text → List Row → Bool
is_on flag rows = option_map_or (λ value. bytes_eq value (codes "true")) (first_of flag rows) false

-- what was found in the arguments of a mode's subcommand is to be done with each file
pub record HasTask (name : Text) (rows : List Row) (t : Task) : Type 0 where
  pub mode : name ≡ mode_name t.mode
  pub dialect : Has (codes "dialect") rows (λ word. NamesDialect word t.dialect)
  pub depth : Has (codes "max-depth") rows (λ word. NamesDepth word t.max_depth)
  pub format : Has (codes "format") rows (λ word. word ≡ format_name t.format)

-- it is this request
pub record HasRequest (name : Text) (rows : List Row) (r : Request) : Type 0 where
  pub task : HasTask name rows r.task
  pub quiet : r.is_quiet ≡ is_on (codes "quiet") rows
  pub stdin : first_of (codes "stdin-filename") rows ≡ Some r.stdin_name.now
  pub paths : all_of (codes "path") rows ≡ Some (map (λ s. s.now) r.paths.items)

-- the arguments ask for this
pub record AsksFor (words : List Text) (r : Request) : Type 0 where
  pub name : Text
  pub rows : List Row
  pub subcommand : subcommand_of tool words ≡ Some (name, rows)
  pub request : HasRequest name rows r

-- memory ran out
abbrev pub IsOutOfMemory : WordsError → Type 0
IsOutOfMemory (Command e) = kind_of e ≡ OutOfMemory
IsOutOfMemory Name = ⊥
IsOutOfMemory FormatName = ⊥
IsOutOfMemory Depth = ⊥
IsOutOfMemory NotUtf8 = ⊥
IsOutOfMemory Memory = ⊤
