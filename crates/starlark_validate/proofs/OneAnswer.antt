-- Items have one correct answer.
use Rattle.std.proofs.Common.{◌≡◌, List as Seq, [], ◌∷◌, ◌++◌, append_assoc, refl, sym, ◌∙◌, ap, subst, Option, Some, None, inl}
use Rattle.std.proofs.lemmas.List.{append-nil}
use Rattle.starlark_lexer.specs.Tokens.{Lexeme, LexerFault, Span}
use Rattle.starlark_lexer.specs.declared.dialect.Dialect.{Dialect}
use Rattle.starlark_lexer.specs.declared.dialect.DialectTypes.{DialectTypes}
use Rattle.starlark_spec.specs.Faults.{Fault}
use Rattle.starlark_spec.specs.Items.{Items, at_end, fails}
use Rattle.starlark_spec.specs.Grammar.{Derivation}
use Rattle.starlark_spec.specs.Grammar.Nonterminal.{Module}
use Rattle.starlark_spec.specs.Trees.{module_tree}
use Rattle.starlark_spec.specs.Program.{IsProgram, BeginsProgram}
use Rattle.starlark_spec.specs.Answers as parser
use Rattle.starlark_spec.specs.Answers.{Answer, IsModule, IsModuleTree, IsUnexpected, KeepsRules}
use Rattle.starlark_spec.proofs.OneAnswer.{one_answer as parser_one}
use Rattle.starlark_spec.proofs.Theorems.{unique}
use Rattle.starlark_validate.specs.Faults.{faults, first}
use Rattle.starlark_validate.specs.Answers.{while_read, in_tree, IsRight, unless, tested, HasOneAnswer}
use Rattle.starlark_spec.specs.Answers.Answer.{module_of, memory, lexer, unexpected_token, unexpected_end, broken_rule}
use Rattle.starlark_validate.proofs.AnswerCorrectness.{same_faults, first_none}

no_end : (f : LexerFault) → at_end ≡ fails f → ⊥
no_end f e = cc

-- a program begins with each of its prefixes
shorter : (before more : Seq Lexeme) → BeginsProgram (before ++ more) → BeginsProgram before
shorter before more b = (more ++ b.0, subst IsProgram (append_assoc before more b.0) b.1)

module _ (y : DialectTypes) (items : Items) where
  no_module : {s : Span} → IsUnexpected y items s → (d : Derivation Module) → IsModule items d → ⊥
  no_module u d m =
      let all : BeginsProgram items.tokens = ([], subst IsProgram (sym (append-nil items.tokens)) (d, m.derives)) in
      u.ends (shorter (u.before ++ u.named ∷ []) u.after (subst BeginsProgram (u.split ∙ sym (append_assoc u.before (u.named ∷ []) u.after)) all))

  -- what is correct is a correct answer
  pub whole_answer : (x : Answer) → parser.IsRight y items x → ¬ (x ≡ memory) → parser.Answers y items x
  whole_answer (module_of s) p n = record {
    right = p;
    found = λ d m k. inl (ap module_of (p.tree_is ∙ ap (λ (t : Derivation Module). module_tree t) (sym (p.unique d m))));
  }
  whole_answer memory p n = absurd (n refl)
  whole_answer (lexer f) p n = record { right = p; found = λ d m k. absurd (no_end f (sym m.at_end ∙ p.ending)) }
  whole_answer (unexpected_token s) p n = record { right = p; found = λ d m k. absurd (no_module p d m) }
  whole_answer (unexpected_end s) p n = record { right = p; found = λ d m k. absurd (p.unfinished (d, m.derives)) }
  whole_answer (broken_rule f) p n = record { right = p; found = λ d m k. absurd (k f p.rest p.broken_node) }

module _ (dialect : Dialect) (items : Items) where
  -- the answer of the parser that an answer comes from
  record Before (a : Answer) : Type 0 where
    pub answer : Answer
    pub right : parser.IsRight dialect.enable_types items answer
    pub in_memory : ¬ (answer ≡ memory)
    pub comes : tested dialect answer ≡ a

  tested_tree : (d : Derivation Module) (o : Option Fault) → IsModule items d → KeepsRules dialect.enable_types items → first (faults dialect d) ≡ o
      → tested dialect (module_of (module_tree d)) ≡ unless o (module_tree d)
  tested_tree d o m k e = ap (λ p. unless p (module_tree d)) (ap first (sym (same_faults dialect items d m k)) ∙ e)

  before : (a : Answer) → IsRight dialect items a → ¬ (a ≡ memory) → Before a
  before (module_of s) p n = record {
    answer = module_of s;
    right = record { derivation = p.derivation; derived = p.keeps.derived; tree_is = p.tree_is; unique = p.unique; keeps_rules = p.keeps.while_read };
    in_memory = λ e. cc;
    comes = ap (λ x. tested dialect (module_of x)) p.tree_is ∙ tested_tree p.derivation None p.keeps.derived p.keeps.while_read
        (first_none (faults dialect p.derivation) p.keeps.faultless) ∙ ap module_of (sym p.tree_is);
  }
  before memory p n = absurd (n refl)
  before (lexer f) p n = record { answer = lexer f; right = p; in_memory = λ e. cc; comes = refl }
  before (unexpected_token s) p n = record { answer = unexpected_token s; right = p; in_memory = λ e. cc; comes = refl }
  before (unexpected_end s) p n = record { answer = unexpected_end s; right = p; in_memory = λ e. cc; comes = refl }
  before (broken_rule f) (while_read p) n = record { answer = broken_rule f; right = p; in_memory = λ e. cc; comes = refl }
  before (broken_rule f) (in_tree p) n = record {
    answer = module_of (module_tree p.derivation);
    right = record {
      derivation = p.derivation;
      derived = p.derived;
      tree_is = refl;
      unique = λ d m. unique items.tokens d p.derivation m.derives p.derived.derives;
      keeps_rules = p.while_read;
    };
    in_memory = λ e. cc;
    comes = tested_tree p.derivation (Some f) p.derived p.while_read p.is_first;
  }

pub one_answer : HasOneAnswer
one_answer dialect items a b p q h k =
    let u = before dialect items a p.right h in
    let v = before dialect items b q.right k in
    let y = dialect.enable_types in
    sym u.comes ∙ ap (tested dialect) (parser_one y items u.answer v.answer (whole_answer y items u.answer u.right u.in_memory)
    (whole_answer y items v.answer v.right v.in_memory) u.in_memory v.in_memory) ∙ v.comes
