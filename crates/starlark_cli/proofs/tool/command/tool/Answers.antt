use Rattle.std.proofs.Common.{◌≡◌, ◌∙◌, ap, true, false}
use Rattle.std.specs.Prelude.{codes}
use Rattle.std.proofs.lemmas.Result.{IfOk-weaker}
use Rattle.clap.specs.Simple.{App, app_of_fields, new_app, on_top}
use Rattle.clap.specs.Words.{app_of, with_subcommand}
use Rattle.starlark_cli.specs.Tool.Words.{mode_shape}
use Rattle.starlark_cli.proofs.tool.command.tool.Goals as goal

abbrev start : App
start = on_top (λ s. record s { no_binary_name = true; subcommand_required = true }) (new_app (codes "starlark"))

pub returns : goal.returns
returns c =
    let start_is : app_of c.subcommand_required-command.result ≡ start = ap app_of_fields c.subcommand_required-command.ensures
    ∙ ap (λ f. app_of_fields (record f { subcommand_required = true })) c.no_binary_name.ensures
    ∙ ap (λ f. app_of_fields (record (record f { no_binary_name = true }) { subcommand_required = true })) c.about.ensures
    ∙ ap (on_top (λ s. record s { no_binary_name = true; subcommand_required = true })) c.new.ensures.app in
    let version_is : app_of c.version.result ≡ on_top (λ s. record s { has_version = true }) start = ap app_of_fields c.version.ensures
    ∙ ap (on_top (λ s. record s { has_version = true })) start_is in
    let top_is : app_of c.in_ok-command.command ≡ on_top (λ s. record s { has_version = true }) start = ap app_of_fields c.in_ok-command.ensures.0
    ∙ version_is in
    let check = c.in_ok-command-2.ensures ∙ ap (λ a. with_subcommand a (mode_shape (codes "check") true)) top_is in
    let lint = c.in_ok-command-3.ensures ∙ ap (λ a. with_subcommand a (mode_shape (codes "lint") true)) check in
    let loads = c.in_ok-command-4.ensures ∙ ap (λ a. with_subcommand a (mode_shape (codes "loads") false)) lint in
    let json = c.in_ok-command-5.ensures ∙ ap (λ a. with_subcommand a (mode_shape (codes "json") false)) loads in
    let source = c.in_ok-command-6.ensures ∙ ap (λ a. with_subcommand a (mode_shape (codes "source") false)) json in
    IfOk-weaker c.with_mode-6.result _ _ (λ m h. h ∙ ap (λ a. with_subcommand a (mode_shape (codes "print") false)) source) c.with_mode-6.ensures
