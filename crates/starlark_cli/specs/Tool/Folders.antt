-- What paths stand for: standard input, files, and the files of Starlark in folders.
use Rattle.std.specs.Prelude.{◌≡◌, ◌≢◌, ◌⊎◌, ◌++◌, ◌||◌, Bool, List, [], ◌∷◌, codes, eqb, if◌then◌else◌, string_bytes, false, true}
use Rattle.std.specs.List.{All, ends_with}
use Rattle.std.specs.Str.{bytes_eq}
use Rattle.starlark_lexer.specs.Tokens.{Text}
use Rattle.starlark_cli.specs.declared.tool.folder.Found.{Found}
use Rattle.starlark_cli.specs.declared.tool.folder.Found.TheVariants.{Input, File, Unread}
use Rattle.starlark_cli.specs.declared.tool.folder.Later.{Later}

-- a file of this name is one of Starlark
abbrev pub is_whole_name : Text → Bool
is_whole_name name =
    bytes_eq name (codes "BUILD") || (bytes_eq name (codes "BUCK") || (bytes_eq name (codes "WORKSPACE") || bytes_eq name (codes "Tiltfile")))

abbrev pub has_ending : Text → Bool
has_ending name = ends_with eqb name (codes ".bzl") || (ends_with eqb name (codes ".star")
    || (ends_with eqb name (codes ".sky") || ends_with eqb name (codes ".bazel")))

abbrev pub is_starlark_name : Text → Bool
is_starlark_name name = is_whole_name name || has_ending name

-- what the paths of the files in a folder begin with
abbrev pub prefix : Text → Text
prefix folder = if bytes_eq folder (codes ".") then [] else (if ends_with eqb folder (codes "/") then folder else folder ++ codes "/")

-- the path of a file of Starlark below a folder
pub record IsFileBelow (folder path : Text) : Type 0 where
  pub above : Text
  pub name : Text
  pub is_path : path ≡ prefix folder ++ (above ++ name)
  pub is_named : is_starlark_name name ≡ true

-- the path of a folder below a folder, or of that itself
abbrev pub IsFolderBelow : Text → Text → Type 0
IsFolderBelow folder path = (path ≡ folder) ⊎ ((below : Text) × (path ≡ prefix folder ++ below))

abbrev pub IsBelow : Text → Found → Type 0
IsBelow folder Input = ⊥
IsBelow folder (File path) = IsFileBelow folder (string_bytes path)
IsBelow folder (Unread path reason) = IsFolderBelow folder (string_bytes path)

abbrev pub IsFileAt : Text → Found → Type 0
IsFileAt path Input = ⊥
IsFileAt path (File file) = string_bytes file ≡ path
IsFileAt path (Unread folder reason) = ⊥

-- what a path stands for: `-` for standard input, else it is a file, or a folder with the files of Starlark below it
abbrev pub StandsFor : Text → List Found → Type 0
StandsFor path found = ((path ≡ codes "-") × (found ≡ Input ∷ []))
    ⊎ ((path ≢ codes "-") × (((file : Found) × (found ≡ file ∷ []) × IsFileAt path file) ⊎ All (IsBelow path) found))

-- what paths stand for, in order
abbrev pub StandFor : List Text → List Found → Type 0
StandFor [] found = found ≡ []
StandFor (path ∷ paths) found = (first : List Found) × (rest : List Found) × (found ≡ first ++ rest) × StandsFor path first × StandFor paths rest

-- what a path stands for was added
abbrev pub AddsPath : Text → List Found → List Found → Type 0
AddsPath path before after = (found : List Found) × (after ≡ before ++ found) × StandsFor path found

-- some of what is below a folder was added
abbrev pub AddsBelow : Text → List Found → List Found → Type 0
AddsBelow folder before after = (found : List Found) × (after ≡ before ++ found) × All (IsBelow folder) found

-- what the paths of the files in a folder below a folder begin with
abbrev pub IsPrefixBelow : Text → Text → Type 0
IsPrefixBelow folder path = (below : Text) × (path ≡ prefix folder ++ below)

-- a file or a folder whose turn comes later is below a folder
abbrev pub IsLaterAt : Text → Bool → Text → Type 0
IsLaterAt folder true path = IsPrefixBelow folder path
IsLaterAt folder false path = IsFileBelow folder path

abbrev pub IsLaterBelow : Text → Later → Type 0
IsLaterBelow folder later = IsLaterAt folder later.is_folder (string_bytes later.path)

abbrev pub KeepsBelow : Text → List Later → List Later → Type 0
KeepsBelow folder before after = All (IsLaterBelow folder) before → All (IsLaterBelow folder) after
