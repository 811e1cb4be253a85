-- The issues of a module: what is not an error, and yet better not there.
use Rattle.std.specs.Prelude.{ℕ, Bool, List as Seq, [], ◌∷◌, ◌++◌, codes, map, if◌then◌else◌}
use Rattle.std.specs.List.{flat_map, list_any}
use Rattle.std.specs.Str.{bytes_eq}
use Rattle.starlark_lexer.specs.Tokens.{Span, Text}
use Rattle.starlark_passes.specs.Lint.Sorting.{sorted_by}
use Rattle.starlark_passes.specs.Outline.Outline.{top_statements}
use Rattle.starlark_tree.specs.Ast as t
use Rattle.starlark_tree.specs.Ast.{LoadArg, Payloads, Word}
use Rattle.starlark_tree.specs.Children.{stmt_exprs}
use Rattle.starlark_tree.specs.Inside.{inside}
use Rattle.starlark_tree.specs.Views.{word_at}
use Rattle.starlark_tree.specs.Signatures.{merge}
use Rattle.starlark_uniplate.specs.Idents.{idents}

pub record Issue : Type 0 where
  pub name : Text
  pub span : Span

abbrev pub issue_at : Text → Span → Issue
issue_at name span = record { name = name; span = span }

abbrev pub unused_load : Text
unused_load = codes "unused-load"

abbrev pub duplicate_key : Text
duplicate_key = codes "duplicate-key"

-- whether a text is one of these
abbrev pub is_among : Text → Seq Text → Bool
is_among text texts = list_any (bytes_eq text) texts

-- where each key is that has the text of an earlier one; the texts of those before the first are passed in
abbrev pub repeats : Seq Text → Seq Word → Seq Span
repeats earlier [] = []
repeats earlier (k ∷ ks) = (if is_among k.text earlier then k.span ∷ [] else []) ++ repeats (k.text ∷ earlier) ks

module _ {P : Payloads} where
  -- the symbols that a statement loads
  abbrev pub loaded : t.Statement P → Seq (LoadArg P)
  loaded (t.statement s (t.Load path symbols p)) = symbols
  loaded (t.statement s _) = []

  -- the names that a module reads: its identifiers, those in types and default values too
  abbrev pub names_read : t.Statement P → Seq Text
  names_read m = map (λ ident. ident.0.text) (flat_map idents (stmt_exprs m))

  -- where a symbol is with both its names, unless its local name is among those that are read
  abbrev pub unused_symbol : Seq Text → LoadArg P → Seq Span
  unused_symbol names a = if is_among a.local.text names then [] else merge a.local.span a.their.span ∷ []

  -- those of the loads at the top
  abbrev pub unused_loads : t.Statement P → Seq Span
  unused_loads m = flat_map (unused_symbol (names_read m)) (flat_map loaded (top_statements m))

  -- the text of a key that is a string literal, with the span of the key
  abbrev pub string_key : t.Expression P → Seq Word
  string_key (t.expression s (t.Constant (t.String w))) = word_at w.text s ∷ []
  string_key (t.expression s _) = []

  abbrev pub string_keys : t.Pairs P → Seq Word
  string_keys t.no_pairs = []
  string_keys (t.pairs k v ps) = string_key k ++ string_keys ps

  -- where the repeated keys of a dictionary's literal are, without those of literals inside it
  abbrev pub repeated_keys : t.Expression P → Seq Span
  repeated_keys (t.expression s (t.Dict ps)) = repeats [] (string_keys ps)
  repeated_keys (t.expression s _) = []

  -- those of each dictionary's literal of a module, each before those inside it
  abbrev pub duplicate_keys : t.Statement P → Seq Span
  duplicate_keys m = flat_map repeated_keys (flat_map inside (stmt_exprs m))

abbrev pub begins : Issue → ℕ
begins issue = issue.span.begin

-- Ordered by where they begin. Of two that begin at the same position an unused load comes first, and then the one that is found first.
abbrev pub issues : {P : Payloads} → t.Statement P → Seq Issue
issues m = sorted_by begins (map (issue_at unused_load) (unused_loads m) ++ map (issue_at duplicate_key) (duplicate_keys m))
