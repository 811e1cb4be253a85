-- Atoms of one token that are added by value, in the form in which the code's answers cite them.
use Rattle.std.proofs.Common.{◌≡◌, ℕ, Bool, true, false, List, [], ◌∷◌, ◌++◌, Option, Result, Ok, Err, refl, sym, ◌∙◌, ap, subst, arith}
use Rattle.starlark_lexer.specs.Tokens.{Span, from_to, Lexeme, lexeme, Terminal}
use Rattle.starlark_lexer.specs.Tokens as tokens
use Rattle.starlark_lexer.specs.Lexer.{CodeLexeme}
use Rattle.starlark_lexer.specs.declared.kind.Kind.{Kind}
use Rattle.starlark_lexer.specs.declared.kind.Kind.TheVariants as kinds
use Rattle.starlark_lexer.specs.Kinds.{is, kind_of}
use Rattle.starlark_tree.specs.Ast.{Expression, expression_span, Argument, no_payload}
use Rattle.starlark_tree.specs.Ast as t
use Rattle.starlark_tree.specs.Views.{word}
use Rattle.starlark_spec.specs.Items.{at_end, fails, out_of_memory}
use Rattle.starlark_spec.specs.Answers.Answer.{memory}
use Rattle.starlark_spec.specs.Grammar.{Derivation}
use Rattle.starlark_spec.specs.Grammar.Nonterminal.{Module, Test, Atom}
use Rattle.starlark_spec.specs.Trees.{tree}
use Rattle.starlark_spec.specs.Machine.States.{Place}
use Rattle.starlark_spec.specs.Machine.States.State.{read}
use Rattle.starlark_spec.specs.Machine.Sight.{Sight, token, ending, look_at}
use Rattle.starlark_spec.specs.Machine.Firsts.{is_leaf, starts_test}
use Rattle.starlark_parse_held.specs.Held.{expression_of, arguments_in}
use Rattle.starlark_parse_held.specs.declared.expression.HeldExpr.{HeldExpr}
use Rattle.starlark_parse_held.specs.declared.argument.HeldArguments.{HeldArguments}
use Rattle.starlark_spec.specs.declared.refusal.Refusal.{Refusal}
use Rattle.starlark_spec.specs.declared.refusal.Refusal.TheVariants as refusals
use Rattle.starlark_spec.specs.Refusals.{refused}
use Rattle.starlark_parse_cursor.specs.Reading.{At, Advances, IsToken, begin_at}
use Rattle.starlark_parse_cursor.specs.Contract.{CodeName, FailsFrom, Found, Parses, ends_expression}
use Rattle.starlark_parse_cursor.proofs.Looks.{same_spans}
use Rattle.starlark_parse_cursor.proofs.Paths.{begin_seen}
use Rattle.starlark_lexer.proofs.KindTests.{is_true}
use Rattle.starlark_parse.specs.Expr.Expressions.{IsAtom, Lies, leaf_expression}
use Rattle.starlark_parse.specs.Expr.Contract.{AddsPositional, AddsNamed, ParsesArgument}
use Rattle.starlark_spec.proofs.Constructors.{not_true}
use Rattle.starlark_parse.proofs.ExprLemmas.Leaves.{leaf_parses}
use Rattle.starlark_parse.proofs.ExprLemmas.Single.{leaf_fails, leaf_found}

pub leaf_is_token : (k : Sight) → is_leaf (look_at k).kind ≡ true → IsToken k
leaf_is_token (token x) h = tt
leaf_is_token (ending at_end) h = not_true h
leaf_is_token (ending (fails f)) h = not_true h
leaf_is_token (ending out_of_memory) h = not_true h

pub leaf_starts : (l : Kind) → is_leaf l ≡ true → starts_test l ≡ true
leaf_starts kinds.Identifier h = refl
leaf_starts kinds.Int h = refl
leaf_starts kinds.Float h = refl
leaf_starts kinds.String h = refl
leaf_starts kinds.Bytes h = refl
leaf_starts kinds.Ellipsis h = refl
leaf_starts l h = not_true h

pub comma_ends : (l : Kind) → is l kinds.Comma ≡ true → ends_expression l ≡ true
comma_ends l h = subst (λ x. ends_expression x ≡ true) (sym (is_true l kinds.Comma h)) refl

pub equal_ends : (l : Kind) → is l kinds.Equal ≡ true → ends_expression l ≡ true
equal_ends l h = subst (λ x. ends_expression x ≡ true) (sym (is_true l kinds.Equal h)) refl

pub name_is_leaf : (l : Kind) → is l kinds.Identifier ≡ true → is_leaf l ≡ true
name_is_leaf l h = subst (λ x. is_leaf x ≡ true) (sym (is_true l kinds.Identifier h)) refl

leaf_span : (x : Terminal) (s : Span) → is_leaf (kind_of x) ≡ true → expression_span (leaf_expression x s) ≡ s
leaf_span (tokens.Identifier text) s h = refl
leaf_span (tokens.Int n) s h = refl
leaf_span (tokens.Float text) s h = refl
leaf_span (tokens.String text) s h = refl
leaf_span (tokens.Bytes text) s h = refl
leaf_span tokens.Ellipsis s h = refl
leaf_span x s h = not_true h

pub true_false : {b : Bool} → b ≡ true → b ≡ false → ⊥
true_false h f = let x : true ≡ false = sym h ∙ f in cc

-- an argument was added to equal arguments
pub positional_as : {old now new : List (Argument no_payload)} (span : Span) (e : Expression no_payload) → new ≡ now ++ t.Positional span e ∷ [] → now ≡ old
    → new ≡ old ++ t.Positional span e ∷ []
positional_as span e h stays = h ∙ ap (λ xs. xs ++ t.Positional span e ∷ []) stays

-- an argument was added by an equal name, to equal arguments
pub named_as : {old now new : List (Argument no_payload)} {name other : CodeName} (span : Span) (e : Expression no_payload)
    → new ≡ now ++ t.Named span (word other) e ∷ [] → other ≡ name → now ≡ old
    → new ≡ old ++ t.Named span (word name) e ∷ []
named_as {now = now} {name = name} span e h same stays = h ∙ ap (λ (w : CodeName). now ++ t.Named span (word w) e ∷ []) same
    ∙ ap (λ xs. xs ++ t.Named span (word name) e ∷ []) stays

-- an argument that was added to equal arguments
pub argument_as : {S : Type 0} (steps : S → Option CodeLexeme → S → Type 0) (old now new : HeldArguments) (a b : At S) (r : Result (Unit {0}) Refusal)
    → arguments_in now ≡ arguments_in old
    → ParsesArgument steps now new a r b → ParsesArgument steps old new a r b
argument_as steps old now new a b (Ok u) same d = record {
  derivation = d.derivation;
  means = d.means ∙ ap (λ xs. xs ++ tree d.derivation ∷ []) same;
  begin_is = d.begin_is;
  end_is = d.end_is;
  goes = d.goes;
}
argument_as steps old now new a b (Err e) same f = f

module _ {S : Type 0} {steps : S → Option CodeLexeme → S → Type 0} where
  -- what was found, if it means something else
  pub found_as : {A B : Derivation Test → Type 0} {begin : ℕ} {a b : At S} (d : Found steps (λ (p : Place Module Test). read Test p) begin A a b)
      → B d.derivation
      → Found steps (λ (p : Place Module Test). read Test p) begin B a b
  found_as d m = record { derivation = d.derivation; means = m; begin_is = d.begin_is; end_is = d.end_is; goes = d.goes }

  module _ {a b : At S} {x : Terminal} {s : Span} (v : Advances steps a (lexeme x s) b) (leaf : is_leaf (look_at a.sight).kind ≡ true) where
    pub taken_leaf : is_leaf (kind_of x) ≡ true
    taken_leaf = ap (λ k. is_leaf (look_at k).kind) (sym v.sees) ∙ leaf

    pub taken_alone : ends_expression (look_at b.sight).kind ≡ true → Found steps (λ (p : Place Module Test). read Test p) (begin_at a)
        (λ (d : Derivation Test). leaf_expression x s ≡ tree d) a b
    taken_alone h = leaf_found v taken_leaf h

    -- it was added
    pub taken_added : (Adds : Expression no_payload → Type 0) → ends_expression (look_at b.sight).kind ≡ true → Adds (leaf_expression x s)
        → Found steps (λ (p : Place Module Test). read Test p) (begin_at a) (λ (d : Derivation Test). Adds (tree d)) a b
    taken_added Adds h m = let d = taken_alone h in found_as d (subst Adds d.means m)

    -- memory ran out for it
    pub taken_wants : FailsFrom steps (λ (p : Place Module Test). read Test p) a b memory
    taken_wants = leaf_fails leaf (leaf_parses a b (Err refusals.Memory) x s v taken_leaf refl)

    pub taken_refused : {e : Refusal} → e ≡ refusals.Memory → FailsFrom steps (λ (p : Place Module Test). read Test p) a b (refused e)
    taken_refused {e = e} h = leaf_fails leaf (leaf_parses a b (Err e) x s v taken_leaf h)

    pub taken_kept : (e : HeldExpr) → expression_of e ≡ leaf_expression x s → Parses steps Atom IsAtom a (Ok e) b
    taken_kept e h = leaf_parses a b (Ok e) x s v taken_leaf h

    pub taken_lies : (e : HeldExpr) → expression_of e ≡ leaf_expression x s → Lies (begin_at a) b.end e
    taken_lies e h =
        let span : expression_span (expression_of e) ≡ s = ap expression_span h ∙ leaf_span x s taken_leaf in
        let first : (expression_span (expression_of e)).begin ≡ begin_at a = ap (λ (y : Span). y.begin) span ∙ begin_seen v in
        let last : (expression_span (expression_of e)).end ≡ b.end = ap (λ (y : Span). y.end) span ∙ sym v.end_is in
        (omega (arith, first), omega (arith, last))

    pub taken_positional : (old new : HeldArguments) {begin end : ℕ} {e : Expression no_payload} → begin ≡ s.begin → end ≡ s.end → e ≡ leaf_expression x s
        → ends_expression (look_at b.sight).kind ≡ true
        → arguments_in new ≡ arguments_in old ++ t.Positional (from_to begin end) e ∷ []
        → Found steps (λ (p : Place Module Test). read Test p) (begin_at a) (λ (d : Derivation Test). AddsPositional (begin_at a) b.end old new (tree d)) a b
    taken_positional old new {begin = begin} {end = end} i j e h m =
        taken_added (AddsPositional (begin_at a) b.end old new) h
        (m ∙ ap (λ y. arguments_in old ++ t.Positional (from_to begin end) y ∷ []) e
        ∙ ap (λ y. arguments_in old ++ t.Positional y (leaf_expression x s) ∷ []) (same_spans (i ∙ begin_seen v) (j ∙ sym v.end_is)))

    pub taken_named : (name : CodeName) (begin : ℕ) (old new : HeldArguments) {end : ℕ} {e : Expression no_payload} → end ≡ s.end → e ≡ leaf_expression x s
        → ends_expression (look_at b.sight).kind ≡ true
        → arguments_in new ≡ arguments_in old ++ t.Named (from_to begin end) (word name) e ∷ []
        → Found steps (λ (p : Place Module Test). read Test p) (begin_at a) (λ (d : Derivation Test). AddsNamed name begin b.end old new (tree d)) a b
    taken_named name begin old new {end = end} j e h m =
        taken_added (AddsNamed name begin b.end old new) h
        (m ∙ ap (λ y. arguments_in old ++ t.Named (from_to begin end) (word name) y ∷ []) e
        ∙ ap (λ y. arguments_in old ++ t.Named (from_to begin y) (word name) (leaf_expression x s) ∷ []) (j ∙ sym v.end_is))
