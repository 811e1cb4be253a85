-- What is added of what is below a folder.
use Rattle.std.proofs.Common.{◌≡◌, Bool, List, [], ◌∷◌, ◌++◌, Some, append_assoc, append-nil, ap, false, refl, string_bytes, subst, sym, true, ◌∙◌}
use Rattle.std.specs.List.{All}
use Rattle.std.proofs.lemmas.List.Elements.{All-append, All-nil, All-pop, All-push}
use Rattle.starlark_lexer.specs.Tokens.{Text}
use Rattle.starlark_cli.specs.Tool.Folders.{AddsBelow, AddsPath, IsBelow, IsFileBelow, IsLaterAt, IsLaterBelow, IsPrefixBelow, StandFor}
use Rattle.starlark_cli.specs.Tool.Folders.{is_starlark_name, prefix}
use Rattle.starlark_cli.specs.declared.tool.folder.Found.{Found}
use Rattle.starlark_cli.specs.declared.tool.folder.Later.{Later}

pub prefix_then : (top begin name end : Text) → IsPrefixBelow top begin → IsPrefixBelow top (begin ++ (name ++ end))
prefix_then top begin name end h = (h.0 ++ (name ++ end), ap (λ p. p ++ (name ++ end)) h.1 ∙ append_assoc (prefix top) h.0 (name ++ end))

pub file_then : (top begin name : Text) → IsPrefixBelow top begin → is_starlark_name name ≡ true → IsFileBelow top (begin ++ (name ++ []))
file_then top begin name h named = record {
  above = h.0;
  name = name;
  is_path = ap (λ p. p ++ (name ++ [])) h.1 ∙ append_assoc (prefix top) h.0 (name ++ []) ∙ ap (λ n. prefix top ++ (h.0 ++ n)) (append-nil name);
  is_named = named;
}

pub prefix_itself : (top : Text) → IsPrefixBelow top (prefix top)
prefix_itself top = ([], sym (append-nil (prefix top)))

pub adds_none : (top : Text) (found : List Found) → AddsBelow top found found
adds_none top found = ([], sym (append-nil found), All-nil (IsBelow top))

pub adds_one : (top : Text) (found now : List Found) (one : Found) → now ≡ found ++ one ∷ [] → IsBelow top one → AddsBelow top found now
adds_one top found now one same below = (one ∷ [], same, All-push (IsBelow top) [] one (All-nil (IsBelow top)) below)

pub adds_twice : (top : Text) (a b c : List Found) → AddsBelow top a b → AddsBelow top b c → AddsBelow top a c
adds_twice top a b c first then = (
  first.0 ++ then.0,
  then.1 ∙ ap (λ l. l ++ then.0) first.1 ∙ append_assoc a first.0 then.0,
  All-append (IsBelow top) first.0 then.0 first.2 then.2,
)

pub stand_more : (paths : List Text) (path : Text) (found now : List Found) → StandFor paths found → AddsPath path found now
    → StandFor (paths ++ path ∷ []) now
stand_more [] path found now h added = (added.0, [], added.1 ∙ ap (λ f. f ++ added.0) h ∙ sym (append-nil added.0), added.2, refl)
stand_more (p ∷ ps) path found now h added = (
  h.0,
  h.1 ++ added.0,
  added.1 ∙ ap (λ f. f ++ added.0) h.2 ∙ append_assoc h.0 h.1 added.0,
  h.3,
  stand_more ps path h.1 (h.1 ++ added.0) h.4 (added.0, refl, added.2),
)

-- the last of those whose turn comes later
pub later_popped : (top : Text) (before now : List Later) (next : Later) → before ≡ now ++ next ∷ [] → All (IsLaterBelow top) before
    → All (IsLaterBelow top) now × IsLaterBelow top next
later_popped top before now next same below = All-pop (IsLaterBelow top) before now (Some next) same below

pub later_folder : (top : Text) (next : Later) → IsLaterBelow top next → next.is_folder ≡ true → IsPrefixBelow top (string_bytes next.path)
later_folder top next below is = subst (λ (b : Bool). IsLaterAt top b (string_bytes next.path)) is below

pub later_file : (top : Text) (next : Later) → IsLaterBelow top next → next.is_folder ≡ false → IsFileBelow top (string_bytes next.path)
later_file top next below is = subst (λ (b : Bool). IsLaterAt top b (string_bytes next.path)) is below
