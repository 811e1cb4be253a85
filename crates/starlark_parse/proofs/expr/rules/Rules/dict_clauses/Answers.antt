use Rattle.std.proofs.Common.{◌≡◌, ℕ, inr, refl, ap, ◌∙◌}
use Rattle.starlark_lexer.specs.Tokens.{from_to}
use Rattle.starlark_lexer.specs.declared.span.Pos.{Pos}
use Rattle.starlark_tree.specs.Ast.{Expression, no_payload}
use Rattle.starlark_spec.specs.Trees.{Comprehended, Pair, dict_comprehension}
use Rattle.starlark_parse_held.specs.Held.{expression_of, clauses_in}
use Rattle.starlark_parse_cursor.proofs.Paths.{exits}
use Rattle.starlark_parse.proofs.ExprLemmas.Bracketed.{in_curly, left_open, several_entries, no_curly_end}
use Rattle.starlark_parse.proofs.ExprLemmas.Comprehensions.{entry_clauses_fail, no_entry_end, dict_wants, dict_found}
use Rattle.starlark_parse.proofs.ExprLemmas.Lists.{one_entry_listed}
use Rattle.starlark_parse.proofs.expr.rules.Rules.dict_clauses.Goals as goal

begins_so : {e : Expression no_payload} {b c n : ℕ} (x : Pair) (cs : Comprehended) → e ≡ dict_comprehension (from_to b n) x cs → b ≡ c
    → e ≡ dict_comprehension (from_to c n) x cs
begins_so {n = n} x cs h g = h ∙ ap (λ y. dict_comprehension (from_to y n) x cs) g

pub returns-in_default-clause-parses : goal.returns-in_default-clause-parses
returns-in_default-clause-parses g c start d =
    left_open in_curly _ d (inr (several_entries _ d.derivation d.means c.in_default.not-One)) (no_curly_end _ c.requires.comes, c.refusal.ensures, refl)

pub returns-in_err-clauses-clause-parses : goal.returns-in_err-clauses-clause-parses
returns-in_err-clauses-clause-parses g c start d =
    exits _ _ _ _ _ _ _ c.from_residual.ensures.1
    (entry_clauses_fail _ c.requires.comes c.in-One.key c.in-One.value (one_entry_listed _ c.in-One.key c.in-One.value c.in-One.is d)
    c.in_err-clauses.ensures.parses)

pub returns-in_err-_end-clause-parses : goal.returns-in_err-_end-clause-parses
returns-in_err-_end-clause-parses g c start d =
    exits _ _ _ _ _ _ _ c.from_residual-in_err-_end.ensures.1
    (no_entry_end _ c.requires.comes c.in-One.key c.in-One.value (one_entry_listed _ c.in-One.key c.in-One.value c.in-One.is d) c.in_ok-clauses.clauses
    c.in_ok-clauses.ensures.parses c.in_err-_end.ensures.expects)

pub returns-in_err-dict_comprehension-clause-parses : goal.returns-in_err-dict_comprehension-clause-parses
returns-in_err-dict_comprehension-clause-parses g c start d =
    exits _ _ _ _ _ _ _ c.from_residual-in_err-dict_comprehension.ensures.1
    (dict_wants _ c.requires.comes c.in-One.key c.in-One.value (one_entry_listed _ c.in-One.key c.in-One.value c.in-One.is d) c.in_ok-clauses.clauses
    c.in_ok-clauses.ensures.parses c.in_ok-_end.ensures.expects)

pub returns-clause-parses : goal.returns-clause-parses
returns-clause-parses g c start d =
    dict_found _ c.requires.comes c.in-One.key c.in-One.value (one_entry_listed _ c.in-One.key c.in-One.value c.in-One.is d) c.in_ok-clauses.clauses
    c.in_ok-clauses.ensures.parses c.in_ok-_end.ensures.expects
    c.in_ok-dict_comprehension.field-0
    (begins_so (expression_of c.in-One.key, expression_of c.in-One.value) (clauses_in c.in_ok-clauses.clauses) c.in_ok-dict_comprehension.ensures
    (ap (λ (p : Pos). p.byte) c.begin.ensures))
