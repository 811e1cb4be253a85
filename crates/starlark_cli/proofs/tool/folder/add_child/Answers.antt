use Rattle.std.proofs.Common.{◌≡◌, List, [], ◌++◌, rules, string_bytes, subst, sym, true}
use Rattle.std.specs.List.{All}
use Rattle.std.proofs.lemmas.List.Elements.{All-push}
use Rattle.starlark_lexer.specs.Tokens.{Text}
use Rattle.starlark_cli.proofs.ToolLemmas.FolderLemmas.{file_then}
use Rattle.starlark_cli.specs.Tool.Folders.{IsFileBelow, IsLaterBelow, is_starlark_name}
use Rattle.starlark_cli.specs.declared.tool.folder.Later.{Later}
use Rattle.starlark_cli.proofs.tool.folder.add_child.Goals as goal

pub returns-in_ok-push-2 : goal.returns-in_ok-push-2
returns-in_ok-push-2 c top h later =
    let name = string_bytes c.args.child.now.name in
    let named : is_starlark_name name ≡ true = search rules in
    let path : string_bytes c.in_ok-path-2.path ≡ c.args.prefix.now ++ (name ++ []) = search rules in
    let file = subst (λ (t : Text). IsFileBelow top t) (sym path) (file_then top c.args.prefix.now name h named) in
    subst (λ (l : List Later). All (IsLaterBelow top) l) (sym c.in_ok-push-2.ensures.items)
    (All-push (IsLaterBelow top) c.args.later.now.items _ later file)
