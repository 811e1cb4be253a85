-- A command with one more argument.
use Rattle.std.proofs.Common.{◌≡◌, ◌∙◌, ap, false}
use Rattle.std.specs.Prelude.{◌||◌}
use Rattle.clap.specs.Simple.{App}
use Rattle.clap.specs.Words.{AddsArg, Rule, app_of, rule_of, with_rule}
use Rattle.clap.specs.declared.builder.arg.Arg.{Arg}
use Rattle.clap.specs.declared.builder.command.Command.{Command}
use Rattle.clap.specs.declared.builder.command.Command.TheViews.{out-Command}

pub adds : (old : Command) (a : Arg) (new : Command) (app : App) (rule : Rule) → AddsArg old a new → a.global ≡ false → rule_of a ≡ rule
    → app_of old ≡ app → app_of new ≡ with_rule app rule
adds old a new app rule h local is before = h.shape local ∙ ap (λ x. with_rule x (rule_of a)) before ∙ ap (with_rule app) is

pub no_globals : (old : Command) (a : Arg) (new : Command) → AddsArg old a new → a.global ≡ false → (out-Command old).has_globals ≡ false
    → (out-Command new).has_globals ≡ false
no_globals old a new h local before = h.globals ∙ ap (λ b. b || a.global) before ∙ local
