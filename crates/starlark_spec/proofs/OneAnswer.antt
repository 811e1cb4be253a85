-- Items have one correct answer.
use Rattle.std.proofs.Common.{◌≡◌, List, [], ◌∷◌, ◌++◌, append_assoc, refl, sym, ◌∙◌, ap, subst}
use Rattle.std.proofs.lemmas.List.{append-nil}
use Rattle.starlark_lexer.specs.Tokens.{Span, Lexeme, LexerFault}
use Rattle.starlark_lexer.specs.declared.dialect.DialectTypes.{DialectTypes}
use Rattle.starlark_tree.specs.Ast.{Statement, no_payload}
use Rattle.starlark_spec.specs.Items.{Items, at_end, fails}
use Rattle.starlark_spec.specs.Grammar.{Derivation}
use Rattle.starlark_spec.specs.Grammar.Nonterminal.{Module}
use Rattle.starlark_spec.specs.Trees.{module_tree}
use Rattle.starlark_spec.specs.Program.{IsProgram, BeginsProgram}
use Rattle.starlark_spec.specs.Answers.{Answer, IsRight, IsModuleTree, IsUnexpected, HasOneAnswer}
use Rattle.starlark_spec.specs.Answers.Answer.{module_of, memory, lexer, unexpected_token, unexpected_end, broken_rule}
use Rattle.starlark_spec.proofs.DistinctSpans.{same_broken}

no_end : (f : LexerFault) → at_end ≡ fails f → ⊥
no_end f e = cc

same_fault : (f g : LexerFault) → fails f ≡ fails g → f ≡ g
same_fault f g e = cc

head_same : {i j : Lexeme} {x w : List Lexeme} → i ∷ x ≡ j ∷ w → i ≡ j
head_same e = cc

tail_same : {i j : Lexeme} {x w : List Lexeme} → i ∷ x ≡ j ∷ w → x ≡ w
tail_same e = cc

-- the start of a list of tokens that begins a program begins a program
shorter : (before more : List Lexeme) → BeginsProgram (before ++ more) → BeginsProgram before
shorter before more b = (more ++ b.0, subst IsProgram (append_assoc before more b.0) b.1)

-- of two beginnings of one list, each with the token after it, the tokens are the same, or one begins the other with its token
data Placed (x : List Lexeme) (i : Lexeme) (w : List Lexeme) (j : Lexeme) : Type 0 where
  same_place : i ≡ j → Placed x i w j
  earlier : (more : List Lexeme) → w ≡ (x ++ i ∷ []) ++ more → Placed x i w j
  later : (more : List Lexeme) → x ≡ (w ++ j ∷ []) ++ more → Placed x i w j

placed : (x : List Lexeme) (i : Lexeme) (r : List Lexeme) (w : List Lexeme) (j : Lexeme) (q : List Lexeme) → x ++ i ∷ r ≡ w ++ j ∷ q → Placed x i w j
placed [] i r [] j q e = same_place (head_same e)
placed [] i r (k ∷ w) j q e = earlier w (ap (λ l. l ∷ w) (sym (head_same e)))
placed (k ∷ x) i r [] j q e = later x (ap (λ l. l ∷ x) (head_same e))
placed (k ∷ x) i r (l ∷ w) j q e = elim (placed x i r w j q (tail_same e)) [
  | same_place s ↦ same_place s
  | earlier more s ↦ earlier more (ap (λ y. l ∷ y) s ∙ ap (λ y. y ∷ ((x ++ i ∷ []) ++ more)) (sym (head_same e)))
  | later more s ↦ later more (ap (λ y. k ∷ y) s ∙ ap (λ y. y ∷ ((w ++ j ∷ []) ++ more)) (head_same e))
]

module _ (y : DialectTypes) (items : Items) where
  -- if one of the tokens is reported, all of them together do not begin a program
  named_ends : {s : Span} → IsUnexpected y items s → BeginsProgram items.tokens → ⊥
  named_ends u b = u.ends (shorter (u.before ++ u.named ∷ []) u.after (subst BeginsProgram (u.split ∙ sym (append_assoc u.before (u.named ∷ []) u.after)) b))

  program_begins : IsProgram items.tokens → BeginsProgram items.tokens
  program_begins p = ([], subst IsProgram (sym (append-nil items.tokens)) p)

  module_program : {s : Statement no_payload} → IsModuleTree y items s → IsProgram items.tokens
  module_program m = (m.derivation, m.derived.derives)

  same_token : {s t : Span} → IsUnexpected y items s → IsUnexpected y items t → s ≡ t
  same_token u v = elim (placed u.before u.named u.after v.before v.named v.after (sym u.split ∙ v.split)) [
    | same_place e ↦ u.at_span ∙ ap (λ (l : Lexeme). l.span) e ∙ sym v.at_span
    | earlier more e ↦ absurd (u.ends (shorter (u.before ++ u.named ∷ []) more (subst BeginsProgram e v.begins)))
    | later more e ↦ absurd (v.ends (shorter (v.before ++ v.named ∷ []) more (subst BeginsProgram e u.begins)))
  ]

  one : (a b : Answer) → IsRight y items a → IsRight y items b → ¬ (a ≡ memory) → ¬ (b ≡ memory) → a ≡ b
  one memory b p q h k = absurd (h refl)
  one a memory p q h k = absurd (k refl)
  one (module_of s) (module_of t) p q h k = ap module_of (p.tree_is ∙ ap (λ (x : Derivation Module). module_tree x) (sym (p.unique q.derivation q.derived))
      ∙ sym q.tree_is)
  one (module_of s) (lexer f) p q h k = absurd (no_end f (sym p.derived.at_end ∙ q.ending))
  one (module_of s) (unexpected_token t) p q h k = absurd (named_ends q (program_begins (module_program p)))
  one (module_of s) (unexpected_end t) p q h k = absurd (q.unfinished (module_program p))
  one (module_of s) (broken_rule f) p q h k = absurd (p.keeps_rules f q.rest q.broken_node)
  one (lexer f) (module_of s) p q h k = absurd (no_end f (sym q.derived.at_end ∙ p.ending))
  one (lexer f) (lexer g) p q h k = ap lexer (same_fault f g (sym p.ending ∙ q.ending))
  one (lexer f) (unexpected_token t) p q h k = absurd (named_ends q p.begins)
  one (lexer f) (unexpected_end t) p q h k = absurd (no_end f (sym q.at_end ∙ p.ending))
  one (lexer f) (broken_rule g) p q h k = absurd (p.keeps_rules g q.rest q.broken_node)
  one (unexpected_token t) (module_of s) p q h k = absurd (named_ends p (program_begins (module_program q)))
  one (unexpected_token t) (lexer f) p q h k = absurd (named_ends p q.begins)
  one (unexpected_token t) (unexpected_token u) p q h k = ap unexpected_token (same_token p q)
  one (unexpected_token t) (unexpected_end u) p q h k = absurd (named_ends p q.begins)
  one (unexpected_token t) (broken_rule f) p q h k = absurd (p.keeps_rules f q.rest q.broken_node)
  one (unexpected_end t) (module_of s) p q h k = absurd (p.unfinished (module_program q))
  one (unexpected_end t) (lexer f) p q h k = absurd (no_end f (sym p.at_end ∙ q.ending))
  one (unexpected_end t) (unexpected_token u) p q h k = absurd (named_ends q p.begins)
  one (unexpected_end t) (unexpected_end u) p q h k = ap unexpected_end (p.at_span ∙ sym q.at_span)
  one (unexpected_end t) (broken_rule f) p q h k = absurd (p.keeps_rules f q.rest q.broken_node)
  one (broken_rule f) (module_of s) p q h k = absurd (q.keeps_rules f p.rest p.broken_node)
  one (broken_rule f) (lexer g) p q h k = absurd (q.keeps_rules f p.rest p.broken_node)
  one (broken_rule f) (unexpected_token t) p q h k = absurd (q.keeps_rules f p.rest p.broken_node)
  one (broken_rule f) (unexpected_end t) p q h k = absurd (q.keeps_rules f p.rest p.broken_node)
  one (broken_rule f) (broken_rule g) p q h k = ap broken_rule (same_broken p q)

pub one_answer : HasOneAnswer
one_answer y items a b p q h k = one y items a b p.right q.right h k
