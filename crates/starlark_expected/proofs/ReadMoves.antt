-- The moves that are decided by an operator, or by what was read.
use Rattle.std.proofs.Common.{◌≡◌, Bool, true, false, if◌then◌else◌, List, [], ◌∷◌, ◌++◌, reverse, refl, sym, ◌∙◌, subst, Option, Some, None, is_some}
use Rattle.starlark_lexer.specs.Tokens.{Span, Lexeme}
use Rattle.starlark_lexer.specs.declared.kind.Kind.{Kind}
use Rattle.starlark_lexer.specs.declared.kind.Kind.TheVariants as kinds
use Rattle.starlark_lexer.specs.Kinds.{is}
use Rattle.starlark_tree.specs.Ast.{Word as AstWord}
use Rattle.starlark_spec.specs.Grammar.{PrecedenceLevel, Operator, Comparison, AssignSign as Sign, Derivation}
use Rattle.starlark_spec.specs.Grammar.PrecedenceLevel.{or_precedence, and_precedence, bit_or_precedence, xor_precedence, bit_and_precedence}
use Rattle.starlark_spec.specs.Grammar.PrecedenceLevel.{shift_precedence, add_precedence, multiply_precedence}
use Rattle.starlark_spec.specs.Grammar.ElementKind.{elements, entries}
use Rattle.starlark_spec.specs.Grammar.Nonterminal.{Module, Small, Comp, Atom, Arg, Entry, Test as TestN, TestList, Annotation, LeftAssociative, OptionalList}
use Rattle.starlark_spec.specs.Machine.States.{Place}
use Rattle.starlark_spec.specs.Machine.States as M
use Rattle.starlark_spec.specs.Machine.Firsts.{operator_at, assign_at}
use Rattle.starlark_spec.specs.Machine.Moves.{Keep, after_left, after_bit_or, after_argument}
use Rattle.starlark_spec.specs.Machine.Moves.{after_annotation, after_single, after_list, after_first_element, after_first_entry, alone, single_test}
use Rattle.starlark_expected.specs.declared.word.Level.{Level}
use Rattle.starlark_expected.specs.declared.word.Level.TheVariants.{Or, And, BitOr, Xor, BitAnd, Shift, Add, Multiply}
use Rattle.starlark_expected.specs.declared.word.Word.{Word}
use Rattle.starlark_expected.specs.declared.word.Word.TheVariants.{Token, AssignSign, TupleTail, Test, Operands, OperatorTail, Compared}
use Rattle.starlark_expected.specs.Words.{Start, assign_by, operand_word, Reply, Passes, Refuses, takes, must, Outcome, Took}
use Rattle.starlark_expected.specs.Words.{after_reply, outcome, operates, level}
use Rattle.starlark_expected.proofs.Shown.{looked, level_of, due, chain, named_so, small_end_by, square_end_if, curly_end_if, shown}
use Rattle.starlark_expected.proofs.Moves.{Acts, by_must, fails_so, if_acts, keeps_so, takes_so}

annotated : (d : Derivation TestList) (p : Place Module Small) (k : Kind) → is k kinds.Colon ≡ false → (o : Sign) → assign_at k ≡ Some o
    → shown (M.read Annotation (M.assign_annotation_at d p)) k ≡ Took (Test ∷ TupleTail ∷ due p) false
annotated d p k e o f = rw (e, f) refl

annotated_colon : (d : Derivation TestList) (p : Place Module Small) (k : Kind) → is k kinds.Colon ≡ true
    → shown (M.read Annotation (M.assign_annotation_at d p)) k ≡ Took (Test ∷ AssignSign ∷ Test ∷ TupleTail ∷ due p) false
annotated_colon d p k e = rw e refl

assigned : (q : Option (Derivation TestN)) (words : List Word) (k : Kind) (s : List Word) → small_end_by q (Some words) k s ≡ Took (reverse words ++ s) false
assigned (Some q) words k s = refl
assigned None words k s = refl

single_acts : (p : Place Module Small) (k : Kind) (q : Option (Derivation TestN)) → Acts (after_single p q) k (small_end_by q None k (due p))
single_acts p k (Some q) = keeps_so refl
single_acts p k None = fails_so

pub small_list_acts : (d : Derivation TestList) (p : Place Module Small) (k : Kind) (c : Bool) → is k kinds.Colon ≡ c → (o : Option Sign) → assign_at k ≡ o
    → Acts (if c then Keep (M.read Annotation (M.assign_annotation_at d p)) else after_list d p o) k
    (small_end_by (single_test d) (assign_by c (is_some o)) k (due p))
small_list_acts d p k true e o f = keeps_so (annotated_colon d p k e ∙ sym (assigned (single_test d) _ k (due p)))
small_list_acts d p k false e (Some o) f = keeps_so (annotated d p k e o f ∙ sym (assigned (single_test d) _ k (due p)))
small_list_acts d p k false e None f = single_acts p k (single_test d)

pub annotation_acts : (d : Derivation TestList) (n : Derivation Annotation) (p : Place Module Small) (x : Lexeme) (k : Kind) (o : Option Sign) (r : Outcome)
    → Acts (after_annotation d n p x.span o) k (after_reply (if is_some o then takes [] else Refuses) k (Test ∷ TupleTail ∷ due p) r)
annotation_acts d n p x k (Some o) r = takes_so (λ j. by_must _ _ _ _ _)
annotation_acts d n p x k None r = fails_so

pub comparison_acts : (d : Derivation (LeftAssociative bit_or_precedence)) (p : Place Module Comp) (x : Lexeme) (k : Kind) (v : Bool) (o : Option Comparison)
    → Acts (after_bit_or d p (looked k x v) o) k
    (after_reply (if is_some o then takes (Compared ∷ Operands BitOr ∷ [])
    else (if is k kinds.Not then takes (Compared ∷ Operands BitOr ∷ Token kinds.In ∷ []) else Passes)) k (due p)
    (outcome (due p) (named_so (chain p) (alone d)) k))
comparison_acts d p x k v (Some o) = takes_so (λ j. by_must _ _ _ _ _)
comparison_acts d p x k v None = if_acts (is k kinds.Not) _ _ _ _ (takes_so (λ j. refl)) (keeps_so refl)

left_acts : (i : PrecedenceLevel) (d : Derivation (LeftAssociative i)) (p : Place Module (LeftAssociative i)) (x : Lexeme) (k : Kind) (o : Option (Operator i))
    → Acts (after_left d p x.span o) k
    (after_reply (if is_some o then takes (OperatorTail (level_of i) ∷ operand_word i ∷ []) else Passes) k (due p)
    (outcome (due p) (named_so (chain p) (alone d)) k))
left_acts or_precedence d p x k (Some o) = takes_so (λ j. by_must _ _ _ _ _)
left_acts and_precedence d p x k (Some o) = takes_so (λ j. by_must _ _ _ _ _)
left_acts bit_or_precedence d p x k (Some o) = takes_so (λ j. by_must _ _ _ _ _)
left_acts xor_precedence d p x k (Some o) = takes_so (λ j. by_must _ _ _ _ _)
left_acts bit_and_precedence d p x k (Some o) = takes_so (λ j. by_must _ _ _ _ _)
left_acts shift_precedence d p x k (Some o) = takes_so (λ j. by_must _ _ _ _ _)
left_acts add_precedence d p x k (Some o) = takes_so (λ j. by_must _ _ _ _ _)
left_acts multiply_precedence d p x k (Some o) = takes_so (λ j. by_must _ _ _ _ _)
left_acts i d p x k None = keeps_so refl

-- the kinds that the code takes for operators are those
pub operates_at : (l : Level) (k : Kind) → operates l k ≡ is_some (operator_at (level l) k)
operates_at Or kinds.Or = refl
operates_at Or k = refl
operates_at And kinds.And = refl
operates_at And k = refl
operates_at BitOr kinds.Pipe = refl
operates_at BitOr k = refl
operates_at Xor kinds.Caret = refl
operates_at Xor k = refl
operates_at BitAnd kinds.Ampersand = refl
operates_at BitAnd k = refl
operates_at Shift kinds.LessLess = refl
operates_at Shift kinds.GreaterGreater = refl
operates_at Shift k = refl
operates_at Add kinds.Plus = refl
operates_at Add kinds.Minus = refl
operates_at Add k = refl
operates_at Multiply kinds.Star = refl
operates_at Multiply kinds.Slash = refl
operates_at Multiply kinds.SlashSlash = refl
operates_at Multiply kinds.Percent = refl
operates_at Multiply k = refl

pub left_there : (i : PrecedenceLevel) (d : Derivation (LeftAssociative i)) (p : Place Module (LeftAssociative i)) (x : Lexeme) (k : Kind)
    → operates (level_of i) k ≡ is_some (operator_at i k)
    → Acts (after_left d p x.span (operator_at i k)) k
    (after_reply (if operates (level_of i) k then takes (OperatorTail (level_of i) ∷ operand_word i ∷ []) else Passes) k (due p)
    (outcome (due p) (named_so (chain p) (alone d)) k))
left_there i d p x k e =
    subst (λ c. Acts (after_left d p x.span (operator_at i k)) k (after_reply (if c then takes (OperatorTail (level_of i) ∷ operand_word i ∷ []) else Passes) k
    (due p) (outcome (due p) (named_so (chain p) (alone d)) k))) (sym e) (left_acts i d p x k (operator_at i k))

pub argument_acts : (d : Derivation TestN) (p : Place Module Arg) (x : Lexeme) (k : Kind) (o : Option AstWord)
    → Acts (after_argument d p x.span o) k (after_reply (if is_some o then takes (Test ∷ []) else Passes) k (due p) (outcome (due p) (is_some o) k))
argument_acts d p x k (Some o) = takes_so (λ j. by_must _ _ _ _ _)
argument_acts d p x k None = keeps_so refl

pub square_acts : (o : Span) (d : Derivation (OptionalList elements)) (p : Place Module Atom) (k : Kind) (c : Bool) (q : Option (Derivation TestN))
    → Acts (if c then after_first_element o d p q else Keep (M.square_due o d p)) k (square_end_if c q k (due p))
square_acts o d p k true (Some q) = keeps_so refl
square_acts o d p k false (Some q) = keeps_so (by_must _ _ _ _ _)
square_acts o d p k true None = keeps_so (by_must _ _ _ _ _)
square_acts o d p k false None = keeps_so (by_must _ _ _ _ _)

pub curly_acts : (o : Span) (d : Derivation (OptionalList entries)) (p : Place Module Atom) (k : Kind) (c : Bool) (q : Option (Derivation Entry))
    → Acts (if c then after_first_entry o d p q else Keep (M.curly_due o d p)) k (curly_end_if c q k (due p))
curly_acts o d p k true (Some q) = keeps_so refl
curly_acts o d p k false (Some q) = keeps_so (by_must _ _ _ _ _)
curly_acts o d p k true None = keeps_so (by_must _ _ _ _ _)
curly_acts o d p k false None = keeps_so (by_must _ _ _ _ _)

-- after an argument it does not matter whether it is a name
pub closing_due : (c : Bool) (x : Reply) (k : Kind) (s t : List Word) (a b : Outcome) (o : Start)
    → after_reply (if c then x else Passes) k s (after_reply (must false o) k t a)
    ≡ after_reply (if c then x else Passes) k s (after_reply (must false o) k t b)
closing_due c x k s t a b (Some words) = refl
closing_due c x k s t a b None = refl
