use Rattle.std.proofs.Common.{ap, sym, ◌∙◌}
use Rattle.starlark_lexer.specs.Tokens.{span_of}
use Rattle.starlark_spec.specs.Machine.Faults.{fault_of}
use Rattle.starlark_parse_build.proofs.CheckLemmas.FaultLemmas.{found_alike, names_same}
use Rattle.starlark_parse_build.proofs.CheckLemmas.TypeForms.{none_dotted, longer_fault, longer_first, longer_text}
use Rattle.starlark_parse_build.proofs.check.type_expr.+path_text.Goals as goal

pub returns-in_default-clause-finds : goal.returns-in_default-clause-finds
returns-in_default-clause-finds t c = ap fault_of (none_dotted (span_of c.args.x.now.span) c.args.x.now.node c.in_default.not-Dot c.in_default.not-Identifier)

pub returns-in_err-text-in-Dot-clause-finds : goal.returns-in_err-text-in-Dot-clause-finds
returns-in_err-text-in-Dot-clause-finds t c =
    let whole = longer_fault (span_of c.args.x.now.span) c.args.x.now.node _ _ _ c.in-Dot.is c.deref.ensures in
    found_alike _ _ _ (names_same _ _ _ (λ x is. sym whole ∙ is) c.in_err-text-in-Dot.ensures.finds) c.from_residual-in_err-text-in-Dot.ensures.1

pub returns-in_ok-push_str-in-Dot-clause-text : goal.returns-in_ok-push_str-in-Dot-clause-text
unfolding lib.Utf8.encode
returns-in_ok-push_str-in-Dot-clause-text t c =
    longer_text (span_of c.args.x.now.span) c.args.x.now.node _ _ _ _ _ _ _ c.in-Dot.is c.deref.ensures c.in_ok-text-in-Dot.ensures.text
    c.in_ok-push-in-Dot.ensures.bytes c.in_ok-push_str-in-Dot.ensures.bytes c.deref-in-Dot.ensures

pub returns-in_ok-push_str-in-Dot-clause-first : goal.returns-in_ok-push_str-in-Dot-clause-first
returns-in_ok-push_str-in-Dot-clause-first t c =
    longer_first (span_of c.args.x.now.span) c.args.x.now.node _ _ _ _ c.in-Dot.is c.deref.ensures c.in_ok-text-in-Dot.ensures.first

pub returns-in_ok-push_str-in-Dot-clause-finds : goal.returns-in_ok-push_str-in-Dot-clause-finds
returns-in_ok-push_str-in-Dot-clause-finds t c =
    sym (longer_fault (span_of c.args.x.now.span) c.args.x.now.node _ _ _ c.in-Dot.is c.deref.ensures) ∙ c.in_ok-text-in-Dot.ensures.finds
