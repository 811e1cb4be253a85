use Rattle.std.proofs.Common.{◌≡◌, ℕ, Some, [], ◌∷◌, None, get_or, ap, subst, ◌∙◌}
use Rattle.std.proofs.lemmas.Str.{IsUtf8-had}
use Rattle.starlark_lexer.specs.Cuts.{token, IsCutOf}
use Rattle.starlark_lexer.specs.Lexemes.{State, after, innermost, floor, bracket_depth}
use Rattle.starlark_lexer.specs.Lexer.{state_of}
use Rattle.starlark_lexer.specs.Tokens.{terminal}
use Rattle.starlark_lexer.specs.Words.{sign}
use Rattle.starlark_lexer.proofs.CutLaws.{sign_fits}
use Rattle.starlark_lexer.proofs.StepLemmas.{gave-taken, sign-one, lone_taken}
use Rattle.starlark_lexer.proofs.lexer.Lexer.sign_step.Goals as goal

abbrev with_depth : State → ℕ → State
with_depth s n = record s { depth = n }

same_depth : (u v : State) (a b : ℕ) → u ≡ v → a ≡ b → with_depth u a ≡ with_depth v b
same_depth u v a b h e = ap (λ x. with_depth x a) h ∙ ap (λ n. with_depth v n) e

pub take-lexeme-requires : goal.take-lexeme-requires
take-lexeme-requires c =
    let text = c.args.self.now.rest.now in
    let first : c.byte_at-first.result ≡ get_or text 0 0 = c.byte_at-first.ensures ∙ ap (λ t. get_or t 0 0) c.as_bytes.ensures.value in
    let one : Some (terminal c.in-Some.sign) ≡ sign (get_or text 0 0 ∷ []) = c.in-Some.ensures.one ∙ ap (λ b. sign (b ∷ [])) first in
    let two : None ≡ sign (get_or text 0 0 ∷ get_or text 1 0 ∷ []) =
    c.in-Some.ensures.two (get_or text 1 0) ∙ ap (λ b. sign (b ∷ get_or text 1 0 ∷ [])) first in
    let three : None ≡ sign (get_or text 0 0 ∷ get_or text 1 0 ∷ get_or text 2 0 ∷ []) =
    c.in-Some.ensures.three (get_or text 1 0) (get_or text 2 0) ∙ ap (λ b. sign (b ∷ get_or text 1 0 ∷ get_or text 2 0 ∷ [])) first in
    let fits : IsCutOf text (token (terminal c.in-Some.sign) 1) =
    subst (IsCutOf text) (sign-one text (terminal c.in-Some.sign) three two one) (sign_fits text (IsUtf8-had _ c.args.self.now.utf8) c.requires.some) in
    fits.taken

pub returns : goal.returns
returns c =
    let s = state_of c.args.self.now in
    let text = s.rest in
    let t = terminal c.in-Some.sign in
    let first : c.byte_at-first.result ≡ get_or text 0 0 = c.byte_at-first.ensures ∙ ap (λ t. get_or t 0 0) c.as_bytes.ensures.value in
    let one : Some t ≡ sign (get_or text 0 0 ∷ []) = c.in-Some.ensures.one ∙ ap (λ b. sign (b ∷ [])) first in
    let two : None ≡ sign (get_or text 0 0 ∷ get_or text 1 0 ∷ []) =
    c.in-Some.ensures.two (get_or text 1 0) ∙ ap (λ b. sign (b ∷ get_or text 1 0 ∷ [])) first in
    let three : None ≡ sign (get_or text 0 0 ∷ get_or text 1 0 ∷ get_or text 2 0 ∷ []) =
    c.in-Some.ensures.three (get_or text 1 0) (get_or text 2 0) ∙ ap (λ b. sign (b ∷ get_or text 1 0 ∷ get_or text 2 0 ∷ [])) first in
    let low : c.floor.result ≡ floor (innermost s.f_strings) = c.floor.ensures ∙ ap floor c.innermost.ensures.last in
    let depth : c.bracket_depth-depth.result ≡ bracket_depth (floor (innermost s.f_strings)) (get_or text 0 0) s.depth =
    c.bracket_depth-depth.ensures.depth ∙ ap (λ n. bracket_depth n c.byte_at-first.result s.depth) low
    ∙ ap (λ b. bracket_depth (floor (innermost s.f_strings)) b s.depth) first in
    let same = same_depth (state_of c.take-lexeme.new.self) (after 1 s) _ _ c.take-lexeme.ensures.state depth in
    rw (sign-one text t three two one, lone_taken s t c.requires.unbroken)
    (gave-taken _ _ c.take-lexeme.result _ c.take-lexeme.ensures.token same)
