-- An atom of one token as a list without delimiters, in the form in which the code's answers cite it.
use Rattle.std.proofs.Common.{◌≡◌, ◌≤◌, true, false, Option, Ok, Err, refl, sym, ◌∙◌, ap, arith}
use Rattle.starlark_lexer.specs.Tokens.{Span, Lexeme, lexeme, Terminal}
use Rattle.starlark_lexer.specs.Tokens as tokens
use Rattle.starlark_lexer.specs.Lexer.{CodeLexeme}
use Rattle.starlark_lexer.specs.Kinds.{is, kind_of}
use Rattle.starlark_lexer.specs.declared.kind.Kind.{Kind}
use Rattle.starlark_lexer.specs.declared.kind.Kind.TheVariants as kinds
use Rattle.starlark_tree.specs.Ast.{expression_span}
use Rattle.starlark_spec.specs.Items.{at_end, fails, out_of_memory}
use Rattle.starlark_spec.specs.Answers.Answer.{memory}
use Rattle.starlark_spec.specs.Grammar.Nonterminal.{Module, Atom, TestList}
use Rattle.starlark_spec.specs.Machine.States.{Place}
use Rattle.starlark_spec.specs.Machine.States.State.{read}
use Rattle.starlark_spec.specs.Machine.Sight.{Sight, token, ending, look_at}
use Rattle.starlark_spec.specs.Machine.Firsts.{is_leaf}
use Rattle.starlark_parse_held.specs.Held.{expression_of}
use Rattle.starlark_parse_held.specs.declared.expression.HeldExpr.{HeldExpr}
use Rattle.starlark_spec.specs.declared.refusal.Refusal.TheVariants as refusals
use Rattle.starlark_parse_cursor.specs.Reading.{At, Advances, IsToken}
use Rattle.starlark_parse_cursor.specs.Contract.{FailsFrom, Parses, ends_expression}
use Rattle.starlark_parse.specs.Expr.Expressions.{IsAtom, leaf_expression}
use Rattle.starlark_spec.proofs.Constructors.{not_true}
use Rattle.starlark_parse.proofs.ExprLemmas.Leaves.{leaf_parses}
use Rattle.starlark_parse.proofs.ExprLemmas.Single.{leaf_fails, leaf_found}
use Rattle.starlark_parse.proofs.StmtLemmas.TestLists.{FoundList, first_fails, one_found}

pub leaf_is_token : (k : Sight) → is_leaf (look_at k).kind ≡ true → IsToken k
leaf_is_token (token x) h = tt
leaf_is_token (ending at_end) h = not_true h
leaf_is_token (ending (fails f)) h = not_true h
leaf_is_token (ending out_of_memory) h = not_true h

leaf_span : (x : Terminal) (s : Span) → is_leaf (kind_of x) ≡ true → expression_span (leaf_expression x s) ≡ s
leaf_span (tokens.Identifier text) s h = refl
leaf_span (tokens.Int n) s h = refl
leaf_span (tokens.Float text) s h = refl
leaf_span (tokens.String text) s h = refl
leaf_span (tokens.Bytes text) s h = refl
leaf_span tokens.Ellipsis s h = refl
leaf_span x s h = not_true h

-- a list ends at the end of its line
line_ends : (k : Kind) → is k kinds.Newline ≡ true → (ends_expression k ≡ true) × (is k kinds.Comma ≡ false)
line_ends kinds.Newline h = (refl, refl)
line_ends k h = not_true h

module _ {S : Type 0} {steps : S → Option CodeLexeme → S → Type 0} where
  module _ {a b : At S} {x : Terminal} {s : Span} (v : Advances steps a (lexeme x s) b) (leaf : is_leaf (look_at a.sight).kind ≡ true) where
    pub leaf_taken : is_leaf (kind_of x) ≡ true
    leaf_taken = ap (λ k. is_leaf (look_at k).kind) (sym v.sees) ∙ leaf

    pub leaf_kept : (e : HeldExpr) → expression_of e ≡ leaf_expression x s → Parses steps Atom IsAtom a (Ok e) b
    leaf_kept e h = leaf_parses a b (Ok e) x s v leaf_taken h

    pub leaf_ends : (e : HeldExpr) → expression_of e ≡ leaf_expression x s → (expression_span (expression_of e)).end ≤ b.end
    leaf_ends e h = omega (arith, ap (λ (y : Span). y.end) (ap expression_span h ∙ leaf_span x s leaf_taken), v.end_is)

    -- no memory for the expression that it is
    pub leaf_wants : FailsFrom steps (λ (p : Place Module TestList). read TestList p) a b memory
    leaf_wants = first_fails (leaf_fails leaf (leaf_parses a b (Err refusals.Memory) x s v leaf_taken refl))

    -- a list of one token
    pub leaf_listed : ends_expression (look_at b.sight).kind ≡ true → is (look_at b.sight).kind kinds.Comma ≡ false
        → FoundList steps (leaf_expression x s) false a b
    leaf_listed h k = one_found (leaf_found v leaf_taken h) (k, refl)

    -- the same, if its line ends
    pub leaf_alone : is (look_at b.sight).kind kinds.Newline ≡ true → FoundList steps (leaf_expression x s) false a b
    leaf_alone h = let e = line_ends (look_at b.sight).kind h in leaf_listed e.0 e.1
