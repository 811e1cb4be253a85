-- A correct answer of the parser gives a correct answer, and it is the only one.
use Rattle.std.proofs.Common.{◌≡◌, List as Seq, [], ◌∷◌, ◌++◌, refl, sym, ◌∙◌, ap, subst, Option, Some, None, ◌⊎◌, inl, inr}
use Rattle.starlark_lexer.specs.declared.dialect.Dialect.{Dialect}
use Rattle.starlark_tree.specs.Ast.{Statement, no_payload}
use Rattle.starlark_spec.specs.Faults.{Fault}
use Rattle.starlark_spec.specs.Items.{Items}
use Rattle.starlark_spec.specs.Grammar.{Derivation}
use Rattle.starlark_spec.specs.Grammar.Nonterminal.{Module}
use Rattle.starlark_spec.specs.Trees.{module_tree}
use Rattle.starlark_spec.specs.Answers as parser
use Rattle.starlark_spec.specs.Answers.{Answer, IsModule, IsModuleTree, KeepsRules}
use Rattle.starlark_spec.proofs.Termination.{each_is_answered as parser_answers}
use Rattle.starlark_validate.specs.Faults.{faults, faults_in, first}
use Rattle.starlark_validate.specs.Validity.{tree_faults}
use Rattle.starlark_validate.specs.Answers.{while_read, in_tree, AnswersUnder, IsFirstFault, IsValidModule, KeepsEveryRule, unless, tested}
use Rattle.starlark_validate.specs.Answers.{EachTestedAnswerIsRight, EachListIsAnswered}
use Rattle.starlark_spec.specs.Answers.Answer.{module_of, memory, lexer, unexpected_token, unexpected_end, broken_rule}
use Rattle.starlark_validate.proofs.ModuleTargets.{aim_well}
use Rattle.starlark_validate.proofs.KeptMeaning.{kept_in_tree}

-- the faults of a module are those of its tree
pub same_faults : (dialect : Dialect) (items : Items) (d : Derivation Module) → IsModule items d → KeepsRules dialect.enable_types items
    → faults dialect d ≡ faults_in dialect (module_tree d)
same_faults dialect items d m keeps = ap (λ fs. fs ++ tree_faults dialect (module_tree d))
    (kept_in_tree dialect d (aim_well dialect.enable_types items d m keeps))

none_first : (fs : Seq Fault) → first fs ≡ None → fs ≡ []
none_first [] h = refl
none_first (f ∷ fs) h = cc

pub first_none : (fs : Seq Fault) → fs ≡ [] → first fs ≡ None
first_none fs h = rw h refl

some_none : {f : Fault} → Some f ≡ None → ⊥
some_none e = cc

module _ (dialect : Dialect) (items : Items) where
  -- the faults of a module that the parser returns are those of its tree
  tree_faults_so : (s : Statement no_payload) (m : IsModuleTree dialect.enable_types items s) → faults dialect m.derivation ≡ faults_in dialect s
  tree_faults_so s m = same_faults dialect items m.derivation m.derived m.keeps_rules ∙ ap (faults_in dialect) (sym m.tree_is)

  -- if it has none, it is valid
  pub is_valid : (s : Statement no_payload) → IsModuleTree dialect.enable_types items s → first (faults_in dialect s) ≡ None → IsValidModule dialect items s
  is_valid s m none = record {
    derivation = m.derivation;
    keeps = record {
      derived = m.derived;
      while_read = m.keeps_rules;
      faultless = none_first (faults dialect m.derivation) (ap first (tree_faults_so s m)
          ∙ none);
    };
    tree_is = m.tree_is;
    unique = m.unique;
  }

  -- and if it has one, the first is the fault
  pub is_first_fault : (s : Statement no_payload) → IsModuleTree dialect.enable_types items s → (f : Fault) → first (faults_in dialect s) ≡ Some f
      → IsFirstFault dialect items f
  is_first_fault s m f some = record {
    derivation = m.derivation;
    derived = m.derived;
    while_read = m.keeps_rules;
    is_first = ap first (tree_faults_so s m)
        ∙ some;
  }

  -- a tree that the parser returns
  module_so : (s : Statement no_payload) → IsModuleTree dialect.enable_types items s → (o : Option Fault) → first (faults_in dialect s) ≡ o
      → AnswersUnder dialect items (unless o s)
  module_so s m None h = record {
    right = is_valid s m h;
    found = λ d k. inl (ap module_of (m.tree_is ∙ ap (λ (x : Derivation Module). module_tree x) (sym (m.unique d k.derived))));
  }
  module_so s m (Some f) h =
      record {
        right = in_tree (is_first_fault s m f h);
        found = λ d k. absurd (some_none (sym (ap first (tree_faults_so s m) ∙ h) ∙ ap (λ (x : Derivation Module). first (faults dialect x))
            (sym (m.unique d k.derived)) ∙ first_none (faults dialect d) k.faultless));
      }

  Found : Answer → Type 0
  Found answer = (d : Derivation Module) → KeepsEveryRule dialect items d → (answer ≡ module_of (module_tree d)) ⊎ (answer ≡ memory)

  other : {x : Answer} (answer : Answer) → ((s : Statement no_payload) → ¬ (x ≡ module_of s)) → ((x ≡ memory) → answer ≡ memory)
      → parser.Answers dialect.enable_types items x → (d : Derivation Module) → KeepsEveryRule dialect items d → (answer ≡ module_of (module_tree d))
      ⊎ (answer ≡ memory)
  other answer never so a d k = elim (a.found d k.derived k.while_read) [ inl e ↦ absurd (never (module_tree d) e) | inr e ↦ inr (so e) ]

  is_tested : (x : Answer) → parser.Answers dialect.enable_types items x → AnswersUnder dialect items (tested dialect x)
  is_tested (module_of s) a = module_so s a.right (first (faults_in dialect s)) refl
  is_tested memory a = record { right = tt; found = λ d k. inr refl }
  is_tested (lexer f) a = record { right = a.right; found = other (lexer f) (λ s e. cc) (λ e. cc) a }
  is_tested (unexpected_token span) a = record { right = a.right; found = other (unexpected_token span) (λ s e. cc) (λ e. cc) a }
  is_tested (unexpected_end span) a = record { right = a.right; found = other (unexpected_end span) (λ s e. cc) (λ e. cc) a }
  is_tested (broken_rule f) a = record { right = while_read a.right; found = other (broken_rule f) (λ s e. cc) (λ e. cc) a }

pub each_tested_is_right : EachTestedAnswerIsRight
each_tested_is_right dialect items answer a = is_tested dialect items answer a

-- ---- there is an answer

wants : (dialect : Dialect) (x : Answer) → tested dialect x ≡ memory → x ≡ memory
wants dialect (module_of s) e = absurd (never (first (faults_in dialect s)) e)
  where
    never : (o : Option Fault) → ¬ (unless o s ≡ memory)
    never None e = cc
    never (Some f) e = cc
wants dialect memory e = refl
wants dialect (lexer f) e = absurd (cc)
wants dialect (unexpected_token span) e = absurd (cc)
wants dialect (unexpected_end span) e = absurd (cc)
wants dialect (broken_rule f) e = absurd (cc)

pub each_is_answered : EachListIsAnswered
each_is_answered dialect items =
    let a = parser_answers dialect.enable_types items in
    (tested dialect a.0, each_tested_is_right dialect items a.0 a.1, λ e. a.2 (wants dialect a.0 e))

-- ---- the result of the tests of a tree, for their caller

module _ (dialect : Dialect) (items : Items) (s : Statement no_payload) (a : parser.Answers dialect.enable_types items (module_of s)) where
  -- there is no fault
  pub valid_so : faults_in dialect s ≡ [] → AnswersUnder dialect items (module_of s)
  valid_so none = subst (λ o. AnswersUnder dialect items (unless o s)) (ap first none) (each_tested_is_right dialect items (module_of s) a)

  -- there is one, which is the first
  pub faulty_so : (f : Fault) → first (faults_in dialect s) ≡ Some f → AnswersUnder dialect items (broken_rule f)
  faulty_so f is = subst (λ o. AnswersUnder dialect items (unless o s)) is (each_tested_is_right dialect items (module_of s) a)

-- memory ran out
pub out_of_memory_so : (dialect : Dialect) (items : Items) → AnswersUnder dialect items memory
out_of_memory_so dialect items = record { right = tt; found = λ d k. inr refl }
