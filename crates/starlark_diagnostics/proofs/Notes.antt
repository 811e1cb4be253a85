-- The notes of a diagnostic, one after another.
use Rattle.std.proofs.Common.{◌≡◌, List, [], ◌∷◌, ◌++◌, map, refl, sym, ap, ◌∙◌, append_assoc}
use Rattle.std.specs.List.{flat_map}
use Rattle.json.specs.Json.{Json}
use Rattle.json.specs.Token.{end_array}
use Rattle.json.specs.Tree.{items_tokens, json_tokens}
use Rattle.starlark_diagnostics.specs.Json.{each_json}
use Rattle.starlark_diagnostics.specs.DiagnosticViews.{Note, note_seen}
use Rattle.starlark_diagnostics.specs.declared.diagnostic.Note.{Note as CodeNote}

-- as JSON
pub listed : (f : Note → Json) (ns : List CodeNote)
    → items_tokens (each_json f (map note_seen ns)) ≡ flat_map (λ n. json_tokens (f (note_seen n))) ns ++ end_array ∷ []
listed f [] = refl
listed f (n ∷ ns) =
    ap (λ ts. json_tokens (f (note_seen n)) ++ ts) (listed f ns)
    ∙ sym (append_assoc (json_tokens (f (note_seen n))) (flat_map (λ x. json_tokens (f (note_seen x))) ns) (end_array ∷ []))
