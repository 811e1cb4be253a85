use Rattle.std.proofs.Common.{length, not, ap, arith, subst, sym}
use Rattle.std.proofs.lemmas.Bool.{false_from_ne_true}
use Rattle.std.proofs.lemmas.List.Sums.{prefix_len_is}
use Rattle.memchr.specs.Find.{IsFirstByte, is_byte}
use Rattle.starlark_lexer.specs.declared.text.Class.TheVariants.{Line}
use Rattle.starlark_lexer.specs.Classes.{class_test}
use Rattle.starlark_lexer.proofs.text.line_len.Goals as goal

pub returns-in-Some-clause-len : goal.returns-in-Some-clause-len
returns-in-Some-clause-len c =
    let bytes = c.args.bytes.now in
    let at = c.in-Some.at in
    let first = subst (IsFirstByte (is_byte 10) bytes) c.in-Some.is c.memchr.ensures in
    sym (prefix_len_is (class_test Line) bytes at 0 (omega (arith, first.0.high))
    (λ k below. ap not (false_from_ne_true _ (first.0.before k (omega arith) below))) (λ within. ap not first.1))

pub returns-in-None-clause-len : goal.returns-in-None-clause-len
returns-in-None-clause-len c =
    let bytes = c.args.bytes.now in
    let none = subst (IsFirstByte (is_byte 10) bytes) c.in-None.is c.memchr.ensures in
    sym (prefix_len_is (class_test Line) bytes (length bytes) 0 (omega arith)
    (λ k below. ap not (false_from_ne_true _ (none k (omega arith) below))) (λ within. absurd (omega (arith, within))))
