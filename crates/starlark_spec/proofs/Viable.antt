-- What the machine reads, and how it can always be completed to a program.
use Rattle.std.proofs.Common.{ℕ, ◌≡◌, Bool, true, false, if◌then◌else◌, List, [], ◌∷◌, ◌++◌, refl, sym, ◌∙◌, ap, Option, Some, None}
use Rattle.std.specs.Bool.{⊤}
use Rattle.starlark_lexer.specs.Tokens.{Span, Lexeme, lexeme, Terminal, nowhere}
use Rattle.starlark_lexer.specs.Tokens as tokens
use Rattle.starlark_tree.specs.Ast.{Word}
use Rattle.starlark_lexer.specs.declared.kind.Kind.{Kind}
use Rattle.starlark_lexer.specs.declared.kind.Kind.TheVariants as kinds
use Rattle.starlark_spec.specs.Grammar.{Nonterminal, ElementKind, ElementOf, PrecedenceLevel, OperandOf, Operator, AssignSign, Derivation, node, RightSide}
use Rattle.starlark_spec.specs.Grammar.{right_side, yield_of, side_yield, operator_token}
use Rattle.starlark_spec.specs.Nodes.{Occurrence}
use Rattle.starlark_spec.specs.Grammar as G
use Rattle.starlark_spec.specs.Grammar.RightSide.{◌⨾◌}
use Rattle.starlark_spec.specs.Trees.{at}
use Rattle.starlark_lexer.specs.Kinds.{is, is_plain, kind_of, token_of}
use Rattle.starlark_spec.specs.Machine.States.{Place, State}
use Rattle.starlark_spec.specs.Machine.States as M
use Rattle.starlark_spec.specs.Machine.Sight.{Look, is_ending}
use Rattle.starlark_spec.specs.Machine.Firsts.{unary_at, operator_at, comparison_at, compares, starts_operand, starts_test, starts_small, starts_element}
use Rattle.starlark_spec.specs.Machine.Firsts.{assign_at}
use Rattle.starlark_spec.specs.Machine.Moves.{Move, Keep, Take, Fail, Finish, move, move_atom, move_lambda_param, move_unary, after_left, after_bit_or}
use Rattle.starlark_spec.specs.Machine.Moves.{move_stmt, move_def_param, move_block, move_small, move_symbol, after_annotation, single_test, after_single}
use Rattle.starlark_spec.specs.Machine.Moves.{after_list, alone, single, single_entry, after_first_element, after_first_entry, after_argument}
use Rattle.starlark_spec.specs.Machine.ReadParts.{seen, seen_at}
use Rattle.starlark_spec.specs.Machine.States.{Rooted, top, module_root, conversion_root, vars_root, clause_root, list_root, note_root, sym_root, small_root}
use Rattle.starlark_spec.specs.Machine.States.{for_root}
use Rattle.starlark_spec.proofs.Constructors.{not_some, not_true}
use Rattle.starlark_spec.proofs.Blocks.{opened, obeys, AtEnd, mapped, none_obeys, no_blocks}
use Rattle.starlark_lexer.proofs.KindTests.{is_true}
use Rattle.starlark_spec.proofs.KindTests.{first_token, first_plain, first_identifier, first_int, first_float, first_string, first_bytes}
use Rattle.starlark_spec.proofs.KindTests.{first_quote, first_text}

-- the nodes of a part after what f puts before its argument, and then others; this computes
abbrev pub onto : RightSide → (List Lexeme → List Lexeme) → List Occurrence → List Occurrence
onto G.nothing f k = k
onto (G.word t s) f k = k
onto (a ⨾ c) f k = onto a f (onto c (λ r. f (side_yield a r)) k)
onto G.tokens_end f k = k
onto (G.marked x a) f k = onto a f (record { before = f []; node = x; own = side_yield a [] } ∷ k)

abbrev pub occurrences_over : RightSide → List Occurrence → List Occurrence
occurrences_over a k = onto a (λ r. r) k

-- the node at a place
abbrev pub occurrence_at : {b n : Nonterminal} → Place b n → Derivation n → Occurrence
occurrence_at p d = record { before = side_yield (seen_at p) []; node = node d; own = yield_of d [] }

-- the nonterminals with statements
abbrev pub IsBlocks : Nonterminal → Type 0
IsBlocks G.Module = ⊤
IsBlocks G.Stmt = ⊤
IsBlocks G.Suite = ⊤
IsBlocks G.Block = ⊤
IsBlocks G.Rest = ⊤
IsBlocks G.For = ⊤
IsBlocks _ = ⊥

abbrev IsRest : Nonterminal → Type 0
IsRest G.Rest = ⊤
IsRest _ = ⊥

-- where a block without its Dedent may have been read
abbrev pub Level : {b : Nonterminal} → State b → Type 0
Level (M.read n p) = IsRest n
Level (M.done {n} d p) = IsBlocks n
Level (M.module_tail m p) = ⊤
Level (M.block_tail d p) = ⊤
Level s = ⊥

-- a move reads what it should: w is what was read before it. Either no node ends, or the one that is done; or a block ends without its Dedent.
pub data IsFair {b : Nonterminal} (w : RightSide) (l : Look) : Move b → Type 0 where
  keeps : {t : State b} → ((r : List Lexeme) → side_yield (seen t) r ≡ side_yield w r)
      → ((k : List Occurrence) → occurrences_over (seen t) k ≡ occurrences_over w k) → ((n : ℕ) → opened (seen t) n ≡ opened w n) → IsFair w l (Keep t)
  closes : {n : Nonterminal} {d : Derivation n} {p : Place b n} → ((r : List Lexeme) → side_yield (seen (M.done d p)) r ≡ side_yield w r)
      → ((k : List Occurrence) → occurrences_over (seen (M.done d p)) k ≡ occurrences_over w (occurrence_at p d ∷ k))
      → ((n : ℕ) → opened (seen (M.done d p)) n ≡ opened w n) → IsFair w l (Keep (M.done d p))
  opens : {t : State b} → ((r : List Lexeme) → side_yield (seen t) r ≡ side_yield w r)
      → ((k : List Occurrence) → occurrences_over (seen t) k ≡ occurrences_over w k)
      → Level t → (opened w 0 ≡ 0 → obeys AtEnd (seen t) [] ⊤) → l.kind ≡ kinds.End → IsFair w l (Keep t)
  takes : {t : State b} → (kind_of l.first.token ≡ l.kind → (r : List Lexeme) → side_yield (seen t) r ≡ side_yield w (l.first ∷ r))
      → ((k : List Occurrence) → occurrences_over (seen t) k ≡ occurrences_over w k) → ((n : ℕ) → opened (seen t) n ≡ opened w n)
      → is_ending l.kind ≡ false → IsFair w l (Take t)
  fails : IsFair w l Fail
  finishes : {d : Derivation b} → IsFair w l (Finish d)

plain_goes : (k : Kind) → is_plain k ≡ true → is_ending k ≡ false
plain_goes kinds.End h = not_true h
plain_goes kinds.Fault h = not_true h
plain_goes k h = refl

fair_if : {b : Nonterminal} {w : RightSide} {l : Look} (c : Bool) {m k : Move b} → (c ≡ true → IsFair w l m) → (c ≡ false → IsFair w l k)
    → IsFair w l (if c then m else k)
fair_if true g h = g refl
fair_if false g h = h refl

-- a token without contents is consumed
fair_plain : {b : Nonterminal} {w : RightSide} (t : Span → State b) (l : Look) (k : Kind) → is_plain k ≡ true → is l.kind k ≡ true
    → ((s : Span) (r : List Lexeme) → side_yield (seen (t s)) r ≡ side_yield w (lexeme (token_of k) s ∷ r))
    → ((s : Span) (j : List Occurrence) → occurrences_over (seen (t s)) j ≡ occurrences_over w j)
    → ((s : Span) (n : ℕ) → opened (seen (t s)) n ≡ opened w n) → IsFair w l (Take (t l.first.span))
fair_plain {w = w} t l k h i g m o = takes (λ e r. g l.first.span r ∙ ap (λ y. side_yield w (y ∷ r)) (sym (first_plain l.first k h (e ∙ is_true _ _ i))))
    (m l.first.span) (o l.first.span) (ap is_ending (is_true _ _ i) ∙ plain_goes k h)

fair_atom : {b : Nonterminal} (p : Place b G.Atom) (x : Lexeme) (k : Kind) (w : Bool) → IsFair (seen_at p) (record { kind = k; first = x; no_memory = w })
    (move_atom p x k)
fair_atom p x kinds.Identifier w = takes (λ e r. ap (λ y. side_yield (seen_at p) (y ∷ r)) (sym (first_identifier x e))) (λ j. refl) (λ n. refl) refl
fair_atom p x kinds.Int w = takes (λ e r. ap (λ y. side_yield (seen_at p) (y ∷ r)) (sym (first_int x e))) (λ j. refl) (λ n. refl) refl
fair_atom p x kinds.Float w = takes (λ e r. ap (λ y. side_yield (seen_at p) (y ∷ r)) (sym (first_float x e))) (λ j. refl) (λ n. refl) refl
fair_atom p x kinds.String w = takes (λ e r. ap (λ y. side_yield (seen_at p) (y ∷ r)) (sym (first_string x e))) (λ j. refl) (λ n. refl) refl
fair_atom p x kinds.Bytes w = takes (λ e r. ap (λ y. side_yield (seen_at p) (y ∷ r)) (sym (first_bytes x e))) (λ j. refl) (λ n. refl) refl
fair_atom p x kinds.Ellipsis w = takes (λ e r. ap (λ y. side_yield (seen_at p) (y ∷ r)) (sym (first_plain x kinds.Ellipsis refl e))) (λ j. refl)
    (λ n. refl) refl
fair_atom p x kinds.OpeningRound w = takes (λ e r. ap (λ y. side_yield (seen_at p) (y ∷ r)) (sym (first_plain x kinds.OpeningRound refl e))) (λ j. refl)
    (λ n. refl) refl
fair_atom p x kinds.OpeningSquare w = takes (λ e r. ap (λ y. side_yield (seen_at p) (y ∷ r)) (sym (first_plain x kinds.OpeningSquare refl e))) (λ j. refl)
    (λ n. refl) refl
fair_atom p x kinds.FStringStart w = takes (λ e r. ap (λ y. side_yield (seen_at p) (y ∷ r)) (sym (first_quote x e))) (λ j. refl) (λ n. refl) refl
fair_atom p x kinds.OpeningCurly w = takes (λ e r. ap (λ y. side_yield (seen_at p) (y ∷ r)) (sym (first_plain x kinds.OpeningCurly refl e))) (λ j. refl)
    (λ n. refl) refl
fair_atom p x _ w = fails

fair_lambda_param : {b : Nonterminal} (p : Place b G.LambdaParam) (x : Lexeme) (k : Kind) (w : Bool)
    → IsFair (seen_at p) (record { kind = k; first = x; no_memory = w }) (move_lambda_param p x k)
fair_lambda_param p x kinds.Slash w = takes (λ e r. ap (λ y. side_yield (seen_at p) (y ∷ r)) (sym (first_plain x kinds.Slash refl e))) (λ j. refl)
    (λ n. refl) refl
fair_lambda_param p x kinds.Star w = takes (λ e r. ap (λ y. side_yield (seen_at p) (y ∷ r)) (sym (first_plain x kinds.Star refl e))) (λ j. refl)
    (λ n. refl) refl
fair_lambda_param p x kinds.StarStar w = takes (λ e r. ap (λ y. side_yield (seen_at p) (y ∷ r)) (sym (first_plain x kinds.StarStar refl e))) (λ j. refl)
    (λ n. refl) refl
fair_lambda_param p x kinds.Identifier w = takes (λ e r. ap (λ y. side_yield (seen_at p) (y ∷ r)) (sym (first_identifier x e))) (λ j. refl) (λ n. refl) refl
fair_lambda_param p x _ w = fails

fair_stmt : {b : Nonterminal} (p : Place b G.Stmt) (x : Lexeme) (k : Kind) (w : Bool) → IsFair (seen_at p) (record { kind = k; first = x; no_memory = w })
    (move_stmt p x k)
fair_stmt p x kinds.Def w = takes (λ e r. ap (λ y. side_yield (seen_at p) (y ∷ r)) (sym (first_plain x kinds.Def refl e))) (λ j. refl) (λ n. refl) refl
fair_stmt p x kinds.If w = takes (λ e r. ap (λ y. side_yield (seen_at p) (y ∷ r)) (sym (first_plain x kinds.If refl e))) (λ j. refl) (λ n. refl) refl
fair_stmt p x kinds.For w = keeps (λ r. refl) (λ k. refl) (λ n. refl)
fair_stmt p x _ w = keeps (λ r. refl) (λ k. refl) (λ n. refl)

fair_def_param : {b : Nonterminal} (p : Place b G.DefParam) (x : Lexeme) (k : Kind) (w : Bool)
    → IsFair (seen_at p) (record { kind = k; first = x; no_memory = w }) (move_def_param p x k)
fair_def_param p x kinds.Slash w = takes (λ e r. ap (λ y. side_yield (seen_at p) (y ∷ r)) (sym (first_plain x kinds.Slash refl e))) (λ j. refl) (λ n. refl) refl
fair_def_param p x kinds.Star w = takes (λ e r. ap (λ y. side_yield (seen_at p) (y ∷ r)) (sym (first_plain x kinds.Star refl e))) (λ j. refl) (λ n. refl) refl
fair_def_param p x kinds.StarStar w = takes (λ e r. ap (λ y. side_yield (seen_at p) (y ∷ r)) (sym (first_plain x kinds.StarStar refl e))) (λ j. refl)
    (λ n. refl) refl
fair_def_param p x kinds.Identifier w = takes (λ e r. ap (λ y. side_yield (seen_at p) (y ∷ r)) (sym (first_identifier x e))) (λ j. refl) (λ n. refl) refl
fair_def_param p x _ w = fails

fair_block : {b : Nonterminal} (d : Derivation G.Block) (p : Place b G.Block) (x : Lexeme) (k : Kind) (w : Bool)
    → IsFair (seen_at p ⨾ right_side d) (record { kind = k; first = x; no_memory = w }) (move_block d p x k)
fair_block d p x kinds.Newline w = takes (λ e r. ap (λ y. side_yield (seen_at p ⨾ right_side d) (y ∷ r)) (sym (first_plain x kinds.Newline refl e)))
    (λ j. refl) (λ n. refl) refl
fair_block d p x kinds.Dedent w = keeps (λ r. refl) (λ k. refl) (λ n. refl)
fair_block d p x kinds.End w = keeps (λ r. refl) (λ k. refl) (λ n. refl)
fair_block d p x _ w = keeps (λ r. refl) (λ k. refl) (λ n. refl)

-- a block may end where the tokens do
pub open_side_condition : {b : Nonterminal} (n : Span) (d : Derivation G.Newlines) (i : Span) (c : Derivation G.Block) (p : Place b G.Suite)
    → obeys AtEnd (seen_at (M.suite_block_at n d i p) ⨾ right_side c) [] ⊤ → obeys AtEnd (seen_at p ⨾ right_side (G.suite_open n d i c)) [] ⊤
open_side_condition n d i c p h = mapped AtEnd (seen_at (M.suite_block_at n d i p) ⨾ right_side c) [] ⊤ (AtEnd [] × ⊤) (λ u. (refl, tt)) h

-- if none has ended like this, every condition holds
pub all_side_conditions : (a : RightSide) → opened a 0 ≡ 0 → obeys AtEnd a [] ⊤
all_side_conditions a h = none_obeys AtEnd a [] ⊤ h tt

fair_small : {b : Nonterminal} (p : Place b G.Small) (x : Lexeme) (k : Kind) (w : Bool) → IsFair (seen_at p) (record { kind = k; first = x; no_memory = w })
    (move_small p x k)
fair_small p x kinds.Return w = takes (λ e r. ap (λ y. side_yield (seen_at p) (y ∷ r)) (sym (first_plain x kinds.Return refl e))) (λ j. refl) (λ n. refl) refl
fair_small p x kinds.Break w = takes (λ e r. ap (λ y. side_yield (seen_at p) (y ∷ r)) (sym (first_plain x kinds.Break refl e))) (λ j. refl) (λ n. refl) refl
fair_small p x kinds.Continue w = takes (λ e r. ap (λ y. side_yield (seen_at p) (y ∷ r)) (sym (first_plain x kinds.Continue refl e))) (λ j. refl)
    (λ n. refl) refl
fair_small p x kinds.Pass w = takes (λ e r. ap (λ y. side_yield (seen_at p) (y ∷ r)) (sym (first_plain x kinds.Pass refl e))) (λ j. refl) (λ n. refl) refl
fair_small p x kinds.Load w = takes (λ e r. ap (λ y. side_yield (seen_at p) (y ∷ r)) (sym (first_plain x kinds.Load refl e))) (λ j. refl) (λ n. refl) refl
fair_small p x _ w = keeps (λ r. refl) (λ k. refl) (λ n. refl)

fair_symbol : {b : Nonterminal} (p : Place b G.Sym) (x : Lexeme) (k : Kind) (w : Bool) → IsFair (seen_at p) (record { kind = k; first = x; no_memory = w })
    (move_symbol p x k)
fair_symbol p x kinds.String w = takes (λ e r. ap (λ y. side_yield (seen_at p) (y ∷ r)) (sym (first_string x e))) (λ j. refl) (λ n. refl) refl
fair_symbol p x kinds.Identifier w = takes (λ e r. ap (λ y. side_yield (seen_at p) (y ∷ r)) (sym (first_identifier x e))) (λ j. refl) (λ n. refl) refl
fair_symbol p x _ w = fails

fair_assign : {b : Nonterminal} (d : Derivation G.TestList) (n : Derivation G.Annotation) (p : Place b G.Small) (x : Lexeme) (k : Kind) (w : Bool)
    → IsFair ((seen_at p ⨾ right_side d) ⨾ right_side n) (record { kind = k; first = x; no_memory = w }) (after_annotation d n p x.span (assign_at k))
fair_assign d n p x kinds.Equal w = takes (λ e r. ap (λ y. side_yield ((seen_at p ⨾ right_side d) ⨾ right_side n) (y ∷ r))
    (sym (first_plain x kinds.Equal refl e))) (λ j. refl) (λ n. refl) refl
fair_assign d n p x kinds.PlusEqual w = takes (λ e r. ap (λ y. side_yield ((seen_at p ⨾ right_side d) ⨾ right_side n) (y ∷ r))
    (sym (first_plain x kinds.PlusEqual refl e))) (λ j. refl) (λ n. refl) refl
fair_assign d n p x kinds.MinusEqual w = takes (λ e r. ap (λ y. side_yield ((seen_at p ⨾ right_side d) ⨾ right_side n) (y ∷ r))
    (sym (first_plain x kinds.MinusEqual refl e))) (λ j. refl) (λ n. refl) refl
fair_assign d n p x kinds.StarEqual w = takes (λ e r. ap (λ y. side_yield ((seen_at p ⨾ right_side d) ⨾ right_side n) (y ∷ r))
    (sym (first_plain x kinds.StarEqual refl e))) (λ j. refl) (λ n. refl) refl
fair_assign d n p x kinds.SlashEqual w = takes (λ e r. ap (λ y. side_yield ((seen_at p ⨾ right_side d) ⨾ right_side n) (y ∷ r))
    (sym (first_plain x kinds.SlashEqual refl e))) (λ j. refl) (λ n. refl) refl
fair_assign d n p x kinds.SlashSlashEqual w = takes (λ e r. ap (λ y. side_yield ((seen_at p ⨾ right_side d) ⨾ right_side n) (y ∷ r))
    (sym (first_plain x kinds.SlashSlashEqual refl e))) (λ j. refl) (λ n. refl) refl
fair_assign d n p x kinds.PercentEqual w = takes (λ e r. ap (λ y. side_yield ((seen_at p ⨾ right_side d) ⨾ right_side n) (y ∷ r))
    (sym (first_plain x kinds.PercentEqual refl e))) (λ j. refl) (λ n. refl) refl
fair_assign d n p x kinds.AmpersandEqual w = takes (λ e r. ap (λ y. side_yield ((seen_at p ⨾ right_side d) ⨾ right_side n) (y ∷ r))
    (sym (first_plain x kinds.AmpersandEqual refl e))) (λ j. refl) (λ n. refl) refl
fair_assign d n p x kinds.PipeEqual w = takes (λ e r. ap (λ y. side_yield ((seen_at p ⨾ right_side d) ⨾ right_side n) (y ∷ r))
    (sym (first_plain x kinds.PipeEqual refl e))) (λ j. refl) (λ n. refl) refl
fair_assign d n p x kinds.CaretEqual w = takes (λ e r. ap (λ y. side_yield ((seen_at p ⨾ right_side d) ⨾ right_side n) (y ∷ r))
    (sym (first_plain x kinds.CaretEqual refl e))) (λ j. refl) (λ n. refl) refl
fair_assign d n p x kinds.LessLessEqual w = takes (λ e r. ap (λ y. side_yield ((seen_at p ⨾ right_side d) ⨾ right_side n) (y ∷ r))
    (sym (first_plain x kinds.LessLessEqual refl e))) (λ j. refl) (λ n. refl) refl
fair_assign d n p x kinds.GreaterGreaterEqual w = takes (λ e r. ap (λ y. side_yield ((seen_at p ⨾ right_side d) ⨾ right_side n) (y ∷ r))
    (sym (first_plain x kinds.GreaterGreaterEqual refl e))) (λ j. refl) (λ n. refl) refl
fair_assign d n p x _ w = fails

fair_unary : {b : Nonterminal} (p : Place b G.Unary) (x : Lexeme) (k : Kind) (w : Bool) → IsFair (seen_at p) (record { kind = k; first = x; no_memory = w })
    (move_unary p x.span (unary_at k))
fair_unary p x kinds.Plus w = takes (λ e r. ap (λ y. side_yield (seen_at p) (y ∷ r)) (sym (first_plain x kinds.Plus refl e))) (λ j. refl) (λ n. refl) refl
fair_unary p x kinds.Minus w = takes (λ e r. ap (λ y. side_yield (seen_at p) (y ∷ r)) (sym (first_plain x kinds.Minus refl e))) (λ j. refl) (λ n. refl) refl
fair_unary p x kinds.Tilde w = takes (λ e r. ap (λ y. side_yield (seen_at p) (y ∷ r)) (sym (first_plain x kinds.Tilde refl e))) (λ j. refl) (λ n. refl) refl
fair_unary p x _ w = keeps (λ r. refl) (λ k. refl) (λ n. refl)

plain_operator : {k : PrecedenceLevel} (o : Operator k) → is_plain (kind_of (operator_token o)) ≡ true
plain_operator G.or_sign = refl
plain_operator G.and_sign = refl
plain_operator G.pipe = refl
plain_operator G.caret = refl
plain_operator G.ampersand = refl
plain_operator G.less_less = refl
plain_operator G.greater_greater = refl
plain_operator G.plus = refl
plain_operator G.minus = refl
plain_operator G.star = refl
plain_operator G.slash = refl
plain_operator G.slash_slash = refl
plain_operator G.percent = refl

-- one operator of a level is tried, and then the others
fair_operator : {b : Nonterminal} {k : PrecedenceLevel} (d : Derivation (G.LeftAssociative k)) (p : Place b (G.LeftAssociative k)) (l : Look) (o : Operator k)
    (others : Option (Operator k))
    → IsFair (seen_at p ⨾ right_side d) l (after_left d p l.first.span others)
    → IsFair (seen_at p ⨾ right_side d) l (after_left d p l.first.span (if is l.kind (kind_of (operator_token o)) then Some o else others))
fair_operator d p l o others q = go (is l.kind (kind_of (operator_token o))) refl
  where
    go : (c : Bool) → is l.kind (kind_of (operator_token o)) ≡ c
        → IsFair (seen_at p ⨾ right_side d) l (after_left d p l.first.span (if c then Some o else others))
    go true h = takes (λ e r. ap (λ y. side_yield (seen_at p ⨾ right_side d) (y ∷ r))
        (sym (first_token l.first (operator_token o) (plain_operator o) (e ∙ is_true l.kind (kind_of (operator_token o)) h)))) (λ j. refl) (λ n. refl)
        (ap is_ending {x = l.kind} {y = kind_of (operator_token o)} (is_true l.kind (kind_of (operator_token o)) h)
        ∙ plain_goes (kind_of (operator_token o)) (plain_operator o))
    go false h = q

fair_left : {b : Nonterminal} (k : PrecedenceLevel) (d : Derivation (G.LeftAssociative k)) (p : Place b (G.LeftAssociative k)) (l : Look)
    → IsFair (seen_at p ⨾ right_side d) l (after_left d p l.first.span (operator_at k l.kind))
fair_left G.or_precedence d p l = fair_operator d p l G.or_sign None (keeps (λ r. refl) (λ k. refl) (λ n. refl))
fair_left G.and_precedence d p l = fair_operator d p l G.and_sign None (keeps (λ r. refl) (λ k. refl) (λ n. refl))
fair_left G.bit_or_precedence d p l = fair_operator d p l G.pipe None (keeps (λ r. refl) (λ k. refl) (λ n. refl))
fair_left G.xor_precedence d p l = fair_operator d p l G.caret None (keeps (λ r. refl) (λ k. refl) (λ n. refl))
fair_left G.bit_and_precedence d p l = fair_operator d p l G.ampersand None (keeps (λ r. refl) (λ k. refl) (λ n. refl))
fair_left G.shift_precedence d p l = fair_operator d p l G.less_less _ (fair_operator d p l G.greater_greater None (keeps (λ r. refl) (λ k. refl) (λ n. refl)))
fair_left G.add_precedence d p l = fair_operator d p l G.plus _ (fair_operator d p l G.minus None (keeps (λ r. refl) (λ k. refl) (λ n. refl)))
fair_left G.multiply_precedence d p l =
    fair_operator d p l G.star _ (fair_operator d p l G.slash _
    (fair_operator d p l G.slash_slash _ (fair_operator d p l G.percent None (keeps (λ r. refl) (λ k. refl) (λ n. refl)))))

fair_compared : {b : Nonterminal} (d : Derivation (G.LeftAssociative G.bit_or_precedence)) (p : Place b G.Comp) (x : Lexeme) (k : Kind) (w : Bool)
    → IsFair (seen_at p ⨾ right_side d) (record { kind = k; first = x; no_memory = w }) (after_bit_or d p (record { kind = k; first = x; no_memory = w })
    (comparison_at k))
fair_compared d p x kinds.EqualEqual w = takes (λ e r. ap (λ y. side_yield (seen_at p ⨾ right_side d) (y ∷ r)) (sym (first_plain x kinds.EqualEqual refl e)))
    (λ j. refl) (λ n. refl) refl
fair_compared d p x kinds.BangEqual w = takes (λ e r. ap (λ y. side_yield (seen_at p ⨾ right_side d) (y ∷ r)) (sym (first_plain x kinds.BangEqual refl e)))
    (λ j. refl) (λ n. refl) refl
fair_compared d p x kinds.LessThan w = takes (λ e r. ap (λ y. side_yield (seen_at p ⨾ right_side d) (y ∷ r)) (sym (first_plain x kinds.LessThan refl e)))
    (λ j. refl) (λ n. refl) refl
fair_compared d p x kinds.GreaterThan w = takes (λ e r. ap (λ y. side_yield (seen_at p ⨾ right_side d) (y ∷ r))
    (sym (first_plain x kinds.GreaterThan refl e))) (λ j. refl) (λ n. refl) refl
fair_compared d p x kinds.LessEqual w = takes (λ e r. ap (λ y. side_yield (seen_at p ⨾ right_side d) (y ∷ r)) (sym (first_plain x kinds.LessEqual refl e)))
    (λ j. refl) (λ n. refl) refl
fair_compared d p x kinds.GreaterEqual w = takes (λ e r. ap (λ y. side_yield (seen_at p ⨾ right_side d) (y ∷ r))
    (sym (first_plain x kinds.GreaterEqual refl e))) (λ j. refl) (λ n. refl) refl
fair_compared d p x kinds.In w = takes (λ e r. ap (λ y. side_yield (seen_at p ⨾ right_side d) (y ∷ r)) (sym (first_plain x kinds.In refl e))) (λ j. refl)
    (λ n. refl) refl
fair_compared d p x kinds.Not w = takes (λ e r. ap (λ y. side_yield (seen_at p ⨾ right_side d) (y ∷ r)) (sym (first_plain x kinds.Not refl e))) (λ j. refl)
    (λ n. refl) refl
fair_compared d p x _ w = keeps (λ r. refl) (λ k. refl) (λ n. refl)

-- a derivation that is only a name is that token
pub alone_yield : {n : Nonterminal} (d : Derivation n) (name : Word) → alone d ≡ Some name → (r : List Lexeme)
    → yield_of d r ≡ lexeme (tokens.Identifier name.text) name.span ∷ r
alone_yield (G.test_or d) name h r = alone_yield d name h r
alone_yield (G.left_one u d) name h r = alone_yield d name h r
alone_yield (G.not_comp d) name h r = alone_yield d name h r
alone_yield (G.comp_one d) name h r = alone_yield d name h r
alone_yield (G.unary_primary d) name h r = alone_yield d name h r
alone_yield (G.primary_atom d) name h r = alone_yield d name h r
alone_yield (G.atom_name text s) name h r = let same : at text s ≡ name = cc in ap (λ (x : Word). lexeme (tokens.Identifier x.text) x.span ∷ r) same
alone_yield d name h r = not_some h

-- and has no node that a rule is about
alone_occurrences : {n : Nonterminal} (d : Derivation n) (name : Word) → alone d ≡ Some name → (f : List Lexeme → List Lexeme) (k : List Occurrence)
    → onto (right_side d) f k ≡ k
alone_occurrences (G.test_or d) name h f k = alone_occurrences d name h f k
alone_occurrences (G.left_one u d) name h f k = alone_occurrences d name h f k
alone_occurrences (G.not_comp d) name h f k = alone_occurrences d name h f k
alone_occurrences (G.comp_one d) name h f k = alone_occurrences d name h f k
alone_occurrences (G.unary_primary d) name h f k = alone_occurrences d name h f k
alone_occurrences (G.primary_atom d) name h f k = alone_occurrences d name h f k
alone_occurrences (G.atom_name text s) name h f k = refl
alone_occurrences d name h f k = not_some h

-- a list that is one element is that element, with its nodes; likewise for an entry
single_yield : (d : Derivation (G.OptionalList G.elements)) (e : Derivation G.Test) → single d ≡ Some e → (r : List Lexeme) → yield_of d r ≡ yield_of e r
single_yield (G.optional_list_plain (G.comma_list_one G.of_elements d)) e h r = let same : d ≡ e = cc in ap (λ (x : Derivation G.Test). yield_of x r) same
single_yield d e h r = not_some h

single_occurrences : (d : Derivation (G.OptionalList G.elements)) (e : Derivation G.Test) → single d ≡ Some e
    → (f : List Lexeme → List Lexeme) (k : List Occurrence) → onto (right_side d) f k ≡ onto (right_side e) f k
single_occurrences (G.optional_list_plain (G.comma_list_one G.of_elements d)) e h f k = let same : d ≡ e = cc in
    ap (λ (x : Derivation G.Test). onto (right_side x) f k) same
single_occurrences d e h f k = not_some h

single_entry_yield : (d : Derivation (G.OptionalList G.entries)) (e : Derivation G.Entry) → single_entry d ≡ Some e → (r : List Lexeme)
    → yield_of d r ≡ yield_of e r
single_entry_yield (G.optional_list_plain (G.comma_list_one G.of_entries d)) e h r = let same : d ≡ e = cc in ap (λ (x : Derivation G.Entry). yield_of x r) same
single_entry_yield d e h r = not_some h

single_entry_occurrences : (d : Derivation (G.OptionalList G.entries)) (e : Derivation G.Entry) → single_entry d ≡ Some e
    → (f : List Lexeme → List Lexeme) (k : List Occurrence) → onto (right_side d) f k ≡ onto (right_side e) f k
single_entry_occurrences (G.optional_list_plain (G.comma_list_one G.of_entries d)) e h f k = let same : d ≡ e = cc in
    ap (λ (x : Derivation G.Entry). onto (right_side x) f k) same
single_entry_occurrences d e h f k = not_some h

single_test_yield : (d : Derivation G.TestList) (e : Derivation G.Test) → single_test d ≡ Some e → (r : List Lexeme) → yield_of d r ≡ yield_of e r
single_test_yield (G.list_plain (G.comma_list_one G.of_elements d)) e h r = let same : d ≡ e = cc in ap (λ (x : Derivation G.Test). yield_of x r) same
single_test_yield d e h r = not_some h

single_test_occurrences : (d : Derivation G.TestList) (e : Derivation G.Test) → single_test d ≡ Some e → (f : List Lexeme → List Lexeme) (k : List Occurrence)
    → onto (right_side d) f k ≡ onto (right_side e) f k
single_test_occurrences (G.list_plain (G.comma_list_one G.of_elements d)) e h f k = let same : d ≡ e = cc in
    ap (λ (x : Derivation G.Test). onto (right_side x) f k) same
single_test_occurrences d e h f k = not_some h

fair_single : {b : Nonterminal} (d : Derivation G.TestList) (p : Place b G.Small) (l : Look) (x : Option (Derivation G.Test)) → single_test d ≡ x
    → IsFair (seen_at p ⨾ right_side d) l (after_single p x)
fair_single d p l None h = fails
fair_single d p l (Some e) h = keeps (λ r. ap (side_yield (seen_at p)) (sym (single_test_yield d e h r)))
    (λ k. ap (onto (seen_at p) (λ r. r)) (sym (single_test_occurrences d e h (λ r. side_yield (seen_at p) r) k)))
    (λ n. ap (opened (seen_at p)) (no_blocks e tt n ∙ sym (no_blocks d tt n)))

fair_list : {b : Nonterminal} (d : Derivation G.TestList) (p : Place b G.Small) (l : Look) (x : Option AssignSign)
    → IsFair (seen_at p ⨾ right_side d) l (after_list d p x)
fair_list d p l (Some o) = keeps (λ r. refl) (λ k. refl) (λ n. refl)
fair_list d p l None = fair_single d p l (single_test d) refl

fair_element : {b : Nonterminal} (o : Span) (d : Derivation (G.OptionalList G.elements)) (p : Place b G.Atom) (l : Look) (x : Option (Derivation G.Test))
    → single d ≡ x → IsFair ((seen_at p ⨾ G.word tokens.OpeningSquare o) ⨾ right_side d) l (after_first_element o d p x)
fair_element o d p l None h = keeps (λ r. refl) (λ k. refl) (λ n. refl)
fair_element o d p l (Some e) h =
    keeps (λ r. ap (λ y. side_yield (seen_at p) (lexeme tokens.OpeningSquare o ∷ y)) (sym (single_yield d e h r)))
    (λ k. ap (onto (seen_at p) (λ r. r)) (sym (single_occurrences d e h (λ r. side_yield (seen_at p) (lexeme tokens.OpeningSquare o ∷ r)) k)))
    (λ n. ap (opened (seen_at p)) (no_blocks e tt n ∙ sym (no_blocks d tt n)))

fair_entry : {b : Nonterminal} (o : Span) (d : Derivation (G.OptionalList G.entries)) (p : Place b G.Atom) (l : Look) (x : Option (Derivation G.Entry))
    → single_entry d ≡ x → IsFair ((seen_at p ⨾ G.word tokens.OpeningCurly o) ⨾ right_side d) l (after_first_entry o d p x)
fair_entry o d p l None h = keeps (λ r. refl) (λ k. refl) (λ n. refl)
fair_entry o d p l (Some e) h =
    keeps (λ r. ap (λ y. side_yield (seen_at p) (lexeme tokens.OpeningCurly o ∷ y)) (sym (single_entry_yield d e h r)))
    (λ k. ap (onto (seen_at p) (λ r. r)) (sym (single_entry_occurrences d e h (λ r. side_yield (seen_at p) (lexeme tokens.OpeningCurly o ∷ r)) k)))
    (λ n. ap (opened (seen_at p)) (no_blocks e tt n ∙ sym (no_blocks d tt n)))

fair_argument : {b : Nonterminal} (d : Derivation G.Test) (p : Place b G.Arg) (l : Look) → is l.kind kinds.Equal ≡ true → (x : Option Word) → alone d ≡ x
    → IsFair (seen_at p ⨾ right_side d) l (after_argument d p l.first.span x)
fair_argument d p l h None k = keeps (λ r. refl) (λ k. refl) (λ n. refl)
fair_argument d p l h (Some name) k =
    fair_plain (λ e. M.read G.Test (M.arg_named_at name.text name.span e p)) l kinds.Equal refl h
    (λ e r. ap (side_yield (seen_at p)) (sym (alone_yield d name k (lexeme tokens.Equal e ∷ r))))
    (λ s j. ap (onto (seen_at p) (λ r. r)) (sym (alone_occurrences d name k (side_yield (seen_at p)) j)))
    (λ s n. ap (opened (seen_at p)) (sym (no_blocks d tt n)))

pub fair : {b : Nonterminal} (s : State b) (l : Look) → IsFair (seen s) l (move s l)
fair (M.read G.Module p) l = keeps (λ r. refl) (λ k. refl) (λ n. refl)
fair (M.read G.Stmt p) l = fair_stmt p l.first l.kind l.no_memory
fair (M.read G.For p) l = fair_if (is l.kind kinds.For) (λ h. fair_plain (λ s. M.read G.LoopVars (M.for_vars_at s p)) l kinds.For refl h (λ s r. refl)
    (λ s j. refl)
    (λ s n. refl)) (λ h. fails)
fair (M.read G.Rest p) l = fair_if (is l.kind kinds.Elif) (λ h. fair_plain (λ s. M.read G.Test (M.elif_test_at s p)) l kinds.Elif refl h (λ s r. refl)
    (λ s j. refl)
    (λ s n. refl)) (λ h. fair_if (is l.kind kinds.Else) (λ h. fair_plain (λ s. M.else_colon_due s p) l kinds.Else refl h (λ s r. refl) (λ s j. refl)
    (λ s n. refl)) (λ h. keeps (λ r. refl) (λ k. refl) (λ n. refl)))
fair (M.read G.Suite p) l = fair_if (is l.kind kinds.Newline) (λ h. fair_plain (λ s. M.read G.Newlines (M.suite_newlines_at s p)) l kinds.Newline refl h
    (λ s r. refl)
    (λ s j. refl) (λ s n. refl)) (λ h. keeps (λ r. refl) (λ k. refl) (λ n. refl))
fair (M.read G.Newlines p) l = keeps (λ r. refl) (λ k. refl) (λ n. refl)
fair (M.read G.Block p) l = keeps (λ r. refl) (λ k. refl) (λ n. refl)
fair (M.read G.ReturnType p) l = fair_if (is l.kind kinds.MinusGreater) (λ h. fair_plain (λ s. M.read G.Note (M.return_type_note_at s p)) l kinds.MinusGreater
    refl h
    (λ s r. refl) (λ s j. refl) (λ s n. refl)) (λ h. keeps (λ r. refl) (λ k. refl) (λ n. refl))
fair (M.read G.DefParam p) l = fair_def_param p l.first l.kind l.no_memory
fair (M.read G.Simple p) l = keeps (λ r. refl) (λ k. refl) (λ n. refl)
fair (M.read G.Smalls p) l = keeps (λ r. refl) (λ k. refl) (λ n. refl)
fair (M.read G.Small p) l = fair_small p l.first l.kind l.no_memory
fair (M.read G.TestList p) l = keeps (λ r. refl) (λ k. refl) (λ n. refl)
fair (M.read G.Annotation p) l = fair_if (is l.kind kinds.Colon) (λ h. fair_plain (λ s. M.read G.Note (M.annotation_note_at s p)) l kinds.Colon refl h
    (λ s r. refl)
    (λ s j. refl) (λ s n. refl)) (λ h. keeps (λ r. refl) (λ k. refl) (λ n. refl))
fair (M.read G.Note p) l = keeps (λ r. refl) (λ k. refl) (λ n. refl)
fair (M.read G.Symbols p) l = fair_if (is l.kind kinds.Comma) (λ h. fair_plain (λ s. M.read (G.OptionalList G.symbols) (M.symbols_list_at s p)) l kinds.Comma
    refl h
    (λ s r. refl) (λ s j. refl) (λ s n. refl)) (λ h. keeps (λ r. refl) (λ k. refl) (λ n. refl))
fair (M.read G.Sym p) l = fair_symbol p l.first l.kind l.no_memory
fair (M.read G.Test p) l =
    fair_if (is l.kind kinds.Lambda) (λ h. fair_plain (λ s. M.read (G.OptionalList G.lambda_parameters) (M.lambda_parameters_at s p)) l kinds.Lambda refl h
    (λ s r. refl) (λ s j. refl) (λ s n. refl)) (λ h. keeps (λ r. refl) (λ k. refl) (λ n. refl))
fair (M.read (G.LeftAssociative k) p) l = keeps (λ r. refl) (λ k. refl) (λ n. refl)
fair (M.read G.Not p) l = fair_if (is l.kind kinds.Not) (λ h. fair_plain (λ s. M.read G.Not (M.not_not_at s p)) l kinds.Not refl h (λ s r. refl) (λ s j. refl)
    (λ s n. refl)) (λ h. keeps (λ r. refl) (λ k. refl) (λ n. refl))
fair (M.read G.Comp p) l = keeps (λ r. refl) (λ k. refl) (λ n. refl)
fair (M.read G.Unary p) l = fair_unary p l.first l.kind l.no_memory
fair (M.read G.Primary p) l = keeps (λ r. refl) (λ k. refl) (λ n. refl)
fair (M.read G.Atom p) l = fair_atom p l.first l.kind l.no_memory
fair (M.read G.Sub p) l = fair_if (starts_test l.kind) (λ h. keeps (λ r. refl) (λ k. refl) (λ n. refl)) (λ h. keeps (λ r. refl) (λ k. refl) (λ n. refl))
fair (M.read G.Bound p) l = fair_if (starts_test l.kind) (λ h. keeps (λ r. refl) (λ k. refl) (λ n. refl)) (λ h. keeps (λ r. refl) (λ k. refl) (λ n. refl))
fair (M.read G.Arg p) l =
    fair_if (is l.kind kinds.Star) (λ h. fair_plain (λ s. M.read G.Test (M.arg_star_at s p)) l kinds.Star refl h (λ s r. refl) (λ s j. refl) (λ s n. refl))
    (λ h. fair_if (is l.kind kinds.StarStar) (λ k. fair_plain (λ s. M.read G.Test (M.arg_stars_at s p)) l kinds.StarStar refl k (λ s r. refl) (λ s j. refl)
    (λ s n. refl)) (λ k. keeps (λ r. refl) (λ k. refl) (λ n. refl)))
fair (M.read G.Entry p) l = keeps (λ r. refl) (λ k. refl) (λ n. refl)
fair (M.read G.LambdaParam p) l = fair_lambda_param p l.first l.kind l.no_memory
fair (M.read G.FStringParts p) l = keeps (λ r. refl) (λ k. refl) (λ n. refl)
fair (M.read G.Conversion p) l =
    fair_if (is l.kind kinds.FStringBang) (λ h. fair_plain (λ s. M.after_bang s p) l kinds.FStringBang refl h (λ s r. refl) (λ s j. refl) (λ s n. refl))
    (λ h. keeps (λ r. refl) (λ k. refl) (λ n. refl))
fair (M.read G.LoopVars p) l = keeps (λ r. refl) (λ k. refl) (λ n. refl)
fair (M.read G.ForClause p) l = fair_if (is l.kind kinds.For) (λ h. fair_plain (λ s. M.read G.LoopVars (M.clause_vars_at s p)) l kinds.For refl h (λ s r. refl)
    (λ s j. refl) (λ s n. refl)) (λ h. fails)
fair (M.read G.Clauses p) l = keeps (λ r. refl) (λ k. refl) (λ n. refl)
fair (M.read (G.OptionalList k) p) l = fair_if (starts_element k l.kind) (λ h. keeps (λ r. refl) (λ k. refl) (λ n. refl))
    (λ h. keeps (λ r. refl) (λ k. refl) (λ n. refl))
fair (M.read (G.CommaList k) p) l = keeps (λ r. refl) (λ k. refl) (λ n. refl)
fair (M.done d (M.top u)) l = finishes
fair (M.done d (M.module_stmt_at m p)) l = keeps (λ r. refl) (λ k. refl) (λ n. refl)
fair (M.done d (M.stmt_simple_at p)) l = keeps (λ r. refl) (λ k. refl) (λ n. refl)
fair (M.done ps (M.def_parameters_at d text i o p)) l = keeps (λ r. refl) (λ k. refl) (λ n. refl)
fair (M.done t (M.def_return_type_at d text i o ps c p)) l = keeps (λ r. refl) (λ k. refl) (λ n. refl)
fair (M.done s (M.def_suite_at d text i o ps c t k p)) l = keeps (λ r. refl) (λ k. refl) (λ n. refl)
fair (M.done d (M.if_test_at i p)) l = keeps (λ r. refl) (λ k. refl) (λ n. refl)
fair (M.done s (M.if_suite_at i d c p)) l = keeps (λ r. refl) (λ k. refl) (λ n. refl)
fair (M.done e (M.if_rest_at i d c s p)) l = keeps (λ r. refl) (λ k. refl) (λ n. refl)
fair (M.done d (M.stmt_for_at p)) l = keeps (λ r. refl) (λ k. refl) (λ n. refl)
fair (M.done d (M.for_vars_at f p)) l = keeps (λ r. refl) (λ k. refl) (λ n. refl)
fair (M.done e (M.for_source_at f d i p)) l = keeps (λ r. refl) (λ k. refl) (λ n. refl)
fair (M.done d (M.elif_test_at i p)) l = keeps (λ r. refl) (λ k. refl) (λ n. refl)
fair (M.done s (M.elif_suite_at i d c p)) l = keeps (λ r. refl) (λ k. refl) (λ n. refl)
fair (M.done e (M.elif_rest_at i d c s p)) l = keeps (λ r. refl) (λ k. refl) (λ n. refl)
fair (M.done s (M.else_suite_at i c p)) l = keeps (λ r. refl) (λ k. refl) (λ n. refl)
fair (M.done d (M.suite_simple_at p)) l = keeps (λ r. refl) (λ k. refl) (λ n. refl)
fair (M.done d (M.suite_newlines_at n p)) l = keeps (λ r. refl) (λ k. refl) (λ n. refl)
fair (M.done d (M.block_newlines_at p)) l = keeps (λ r. refl) (λ k. refl) (λ n. refl)
fair (M.done s (M.block_first_at d p)) l = keeps (λ r. refl) (λ k. refl) (λ n. refl)
fair (M.done s (M.block_stmt_at b p)) l = keeps (λ r. refl) (λ k. refl) (λ n. refl)
fair (M.done d (M.return_type_note_at a p)) l = keeps (λ r. refl) (λ k. refl) (λ n. refl)
fair (M.done d (M.args_annotation_at s text i p)) l = keeps (λ r. refl) (λ k. refl) (λ n. refl)
fair (M.done d (M.kwargs_annotation_at s text i p)) l = keeps (λ r. refl) (λ k. refl) (λ n. refl)
fair (M.done v (M.def_param_default_at text i d e p)) l = keeps (λ r. refl) (λ k. refl) (λ n. refl)
fair (M.done s (M.for_suite_at f d i e c p)) l = closes {d = G.for_loop f d i e c s} {p = p} (λ r. refl) (λ k. refl) (λ n. refl)
fair (M.done b (M.suite_block_at n d i p)) l =
    fair_if (is l.kind kinds.Dedent) (λ h. fair_plain (λ s. M.done (G.suite_block n d i b s) p) l kinds.Dedent refl h (λ s r. refl) (λ s j. refl) (λ s n. refl))
    (λ h. fair_if (is l.kind kinds.End) (λ h. opens (λ r. refl) (λ k. refl) tt
    (λ q. open_side_condition n d i b p (all_side_conditions (seen_at (M.suite_block_at n d i p) ⨾ right_side b) q)) (is_true l.kind kinds.End h))
    (λ h. fails))
fair (M.done d (M.def_param_annotation_at text i p)) l =
    fair_if (is l.kind kinds.Equal) (λ h. fair_plain (λ s. M.read G.Test (M.def_param_default_at text i d s p)) l kinds.Equal refl h (λ s r. refl) (λ s j. refl)
    (λ s n. refl)) (λ h. keeps (λ r. refl) (λ k. refl) (λ n. refl))
fair (M.done d (M.simple_smalls_at p)) l = fair_if (is l.kind kinds.Semicolon) (λ h. fair_plain (λ s. M.after_semicolon d s p) l kinds.Semicolon refl h
    (λ s r. refl) (λ s j. refl) (λ s n. refl)) (λ h. keeps (λ r. refl) (λ k. refl) (λ n. refl))
fair (M.done d (M.smalls_one_at p)) l = keeps (λ r. refl) (λ k. refl) (λ n. refl)
fair (M.done e (M.smalls_more_at d s p)) l = keeps (λ r. refl) (λ k. refl) (λ n. refl)
fair (M.done d (M.return_value_at r p)) l = keeps (λ r. refl) (λ k. refl) (λ n. refl)
fair (M.done d (M.load_symbols_at o i text s p)) l = keeps (λ r. refl) (λ k. refl) (λ n. refl)
fair (M.done d (M.small_list_at p)) l = fair_if (is l.kind kinds.Colon) (λ h. keeps (λ r. refl) (λ k. refl) (λ n. refl))
    (λ h. fair_list d p l (assign_at l.kind))
fair (M.done n (M.assign_annotation_at d p)) l = fair_assign d n p l.first l.kind l.no_memory
fair (M.done e (M.assign_value_at d n o s p)) l = closes {d = G.small_assign d n o s e} {p = p} (λ r. refl) (λ k. refl) (λ n. refl)
fair (M.done d (M.list_elements_at p)) l = fair_if (is l.kind kinds.Comma) (λ h. fair_plain (λ s. M.after_list_comma d s p) l kinds.Comma refl h (λ s r. refl)
    (λ s j. refl) (λ s n. refl)) (λ h. keeps (λ r. refl) (λ k. refl) (λ n. refl))
fair (M.done d (M.annotation_note_at c p)) l = keeps (λ r. refl) (λ k. refl) (λ n. refl)
fair (M.done d (M.note_test_at p)) l = closes {d = G.note_test d} {p = p} (λ r. refl) (λ k. refl) (λ n. refl)
fair (M.done d (M.symbols_list_at c p)) l = keeps (λ r. refl) (λ k. refl) (λ n. refl)
fair (M.done d (M.test_or_at p)) l = fair_if (is l.kind kinds.If) (λ h. fair_plain (λ s. M.read (G.LeftAssociative G.or_precedence) (M.test_if_at d s p)) l
    kinds.If refl
    h (λ s r. refl) (λ s j. refl) (λ s n. refl)) (λ h. keeps (λ r. refl) (λ k. refl) (λ n. refl))
fair (M.done c (M.test_if_at d i p)) l = keeps (λ r. refl) (λ k. refl) (λ n. refl)
fair (M.done f (M.test_else_at d i c e p)) l = keeps (λ r. refl) (λ k. refl) (λ n. refl)
fair (M.done d (M.lambda_parameters_at s p)) l = keeps (λ r. refl) (λ k. refl) (λ n. refl)
fair (M.done e (M.lambda_body_at s d c p)) l = keeps (λ r. refl) (λ k. refl) (λ n. refl)
fair (M.done d (M.left_first_at u p)) l = keeps (λ r. refl) (λ k. refl) (λ n. refl)
fair (M.done e (M.left_right_at u d o s p)) l = keeps (λ r. refl) (λ k. refl) (λ n. refl)
fair (M.done d (M.not_not_at s p)) l = keeps (λ r. refl) (λ k. refl) (λ n. refl)
fair (M.done d (M.not_comp_at p)) l = keeps (λ r. refl) (λ k. refl) (λ n. refl)
fair (M.done d (M.comp_first_at p)) l = fair_compared d p l.first l.kind l.no_memory
fair (M.done e (M.comp_right_at d o p)) l = fair_if (compares l.kind) (λ h. fails) (λ h. keeps (λ r. refl) (λ k. refl) (λ n. refl))
fair (M.done d (M.unary_sign_at o s p)) l = keeps (λ r. refl) (λ k. refl) (λ n. refl)
fair (M.done d (M.unary_primary_at p)) l = keeps (λ r. refl) (λ k. refl) (λ n. refl)
fair (M.done d (M.primary_atom_at p)) l = keeps (λ r. refl) (λ k. refl) (λ n. refl)
fair (M.done f (M.primary_subscript_at d o p)) l = keeps (λ r. refl) (λ k. refl) (λ n. refl)
fair (M.done d (M.sub_first_at p)) l =
    fair_if (is l.kind kinds.Comma) (λ h. fair_plain (λ s. M.read G.Test (M.sub_two_at d s p)) l kinds.Comma refl h (λ s r. refl) (λ s j. refl) (λ s n. refl))
    (λ h. fair_if (is l.kind kinds.Colon) (λ k. fair_plain (λ s. M.read G.Bound (M.sub_stop_at (G.bound_test d) s p)) l kinds.Colon refl k (λ s r. refl)
    (λ s j. refl)
    (λ s n. refl)) (λ k. keeps (λ r. refl) (λ k. refl) (λ n. refl)))
fair (M.done e (M.sub_two_at d c p)) l = keeps (λ r. refl) (λ k. refl) (λ n. refl)
fair (M.done e (M.sub_stop_at d c p)) l = fair_if (is l.kind kinds.Colon) (λ h. fair_plain (λ s. M.read G.Bound (M.sub_step_at d c e s p)) l kinds.Colon refl h
    (λ s r. refl) (λ s j. refl) (λ s n. refl)) (λ h. keeps (λ r. refl) (λ k. refl) (λ n. refl))
fair (M.done f (M.sub_step_at d c e s p)) l = keeps (λ r. refl) (λ k. refl) (λ n. refl)
fair (M.done d (M.bound_test_at p)) l = keeps (λ r. refl) (λ k. refl) (λ n. refl)
fair (M.done f (M.primary_call_at d o p)) l = keeps (λ r. refl) (λ k. refl) (λ n. refl)
fair (M.done d (M.arg_test_at p)) l = fair_if (is l.kind kinds.Equal) (λ h. fair_argument d p l h (alone d) refl)
    (λ h. keeps (λ r. refl) (λ k. refl) (λ n. refl))
fair (M.done d (M.arg_named_at text s e p)) l = keeps (λ r. refl) (λ k. refl) (λ n. refl)
fair (M.done d (M.arg_star_at s p)) l = keeps (λ r. refl) (λ k. refl) (λ n. refl)
fair (M.done d (M.arg_stars_at s p)) l = keeps (λ r. refl) (λ k. refl) (λ n. refl)
fair (M.done d (M.entry_key_at p)) l = keeps (λ r. refl) (λ k. refl) (λ n. refl)
fair (M.done e (M.entry_value_at d c p)) l = keeps (λ r. refl) (λ k. refl) (λ n. refl)
fair (M.done d (M.lambda_param_default_at text i e p)) l = keeps (λ r. refl) (λ k. refl) (λ n. refl)
fair (M.done d (M.atom_round_at o p)) l = keeps (λ r. refl) (λ k. refl) (λ n. refl)
fair (M.done d (M.atom_square_at o p)) l = fair_if (is l.kind kinds.For) (λ h. fair_element o d p l (single d) refl)
    (λ h. keeps (λ r. refl) (λ k. refl) (λ n. refl))
fair (M.done d (M.atom_curly_at o p)) l = fair_if (is l.kind kinds.For) (λ h. fair_entry o d p l (single_entry d) refl)
    (λ h. keeps (λ r. refl) (λ k. refl) (λ n. refl))
fair (M.done e (M.list_clauses_at o d p)) l = keeps (λ r. refl) (λ k. refl) (λ n. refl)
fair (M.done e (M.dict_clauses_at o d p)) l = keeps (λ r. refl) (λ k. refl) (λ n. refl)
fair (M.done d (M.vars_elements_at p)) l = fair_if (is l.kind kinds.Comma) (λ h. fair_plain (λ s. M.after_vars_comma d s p) l kinds.Comma refl h (λ s r. refl)
    (λ s j. refl) (λ s n. refl)) (λ h. keeps (λ r. refl) (λ k. refl) (λ n. refl))
fair (M.done d (M.clause_vars_at f p)) l = keeps (λ r. refl) (λ k. refl) (λ n. refl)
fair (M.done e (M.clause_source_at f d i p)) l = closes {d = G.for_clause f d i e} {p = p} (λ r. refl) (λ k. refl) (λ n. refl)
fair (M.done d (M.clauses_one_at p)) l = keeps (λ r. refl) (λ k. refl) (λ n. refl)
fair (M.done e (M.clauses_for_at d p)) l = keeps (λ r. refl) (λ k. refl) (λ n. refl)
fair (M.done e (M.clauses_if_at d i p)) l = keeps (λ r. refl) (λ k. refl) (λ n. refl)
fair (M.done d (M.parts_at q s p)) l = keeps (λ r. refl) (λ k. refl) (λ n. refl)
fair (M.done e (M.replacement_at d o p)) l = keeps (λ r. refl) (λ k. refl) (λ n. refl)
fair (M.done c (M.conversion_at d o e p)) l = keeps (λ r. refl) (λ k. refl) (λ n. refl)
fair (M.done d (M.comma_list_at p)) l = fair_if (is l.kind kinds.Comma) (λ h. fair_plain (λ s. M.after_comma d s p) l kinds.Comma refl h (λ s r. refl)
    (λ s j. refl)
    (λ s n. refl)) (λ h. keeps (λ r. refl) (λ k. refl) (λ n. refl))
fair (M.done d (M.comma_list_one_at u p)) l = keeps (λ r. refl) (λ k. refl) (λ n. refl)
fair (M.done e (M.comma_list_more_at u d c p)) l = keeps (λ r. refl) (λ k. refl) (λ n. refl)
fair (M.module_tail m p) l =
    fair_if (is l.kind kinds.End) (λ h. keeps (λ r. refl) (λ k. refl) (λ n. refl))
    (λ h. fair_if (is l.kind kinds.Newline) (λ k. fair_plain (λ s. M.module_tail (G.module_newline m s) p) l kinds.Newline refl k (λ s r. refl) (λ s j. refl)
    (λ s n. refl)) (λ k. keeps (λ r. refl) (λ k. refl) (λ n. refl)))
fair (M.left_tail {k} d p) l = fair_left k d p l
fair (M.primary_tail d p) l =
    fair_if (is l.kind kinds.Dot) (λ h. fair_plain (λ s. M.name_due d s p) l kinds.Dot refl h (λ s r. refl) (λ s j. refl) (λ s n. refl))
    (λ h. fair_if (is l.kind kinds.OpeningSquare) (λ k. fair_plain (λ s. M.read G.Sub (M.primary_subscript_at d s p)) l kinds.OpeningSquare refl k (λ s r. refl)
    (λ s j. refl) (λ s n. refl))
    (λ h. fair_if (is l.kind kinds.OpeningRound) (λ k. fair_plain (λ s. M.read (G.OptionalList G.arguments) (M.primary_call_at d s p)) l kinds.OpeningRound
    refl k
    (λ s r. refl) (λ s j. refl) (λ s n. refl)) (λ k. keeps (λ r. refl) (λ k. refl) (λ n. refl))))
fair (M.after_comma {k} d c p) l = fair_if (starts_element k l.kind) (λ h. keeps (λ r. refl) (λ k. refl) (λ n. refl))
    (λ h. keeps (λ r. refl) (λ k. refl) (λ n. refl))
fair (M.after_vars_comma d c p) l =
    fair_if (starts_operand l.kind) (λ h. keeps (λ r. refl) (λ k. refl) (λ n. refl))
    (λ h. fair_if (is l.kind kinds.Not) (λ h. fails) (λ h. closes {d = G.vars_comma d c} {p = p} (λ r. refl) (λ k. refl) (λ n. refl)))
fair (M.after_star s p) l =
    fair_if (is l.kind kinds.Identifier) (λ h. takes (λ e r. ap (λ y. side_yield (seen (M.after_star s p)) (y ∷ r))
    (sym (first_identifier l.first (e ∙ is_true _ _ h)))) (λ j. refl) (λ n. refl)
    (ap is_ending {x = l.kind} {y = kinds.Identifier} (is_true l.kind kinds.Identifier h))) (λ h. keeps (λ r. refl) (λ k. refl) (λ n. refl))
fair (M.after_name text i p) l =
    fair_if (is l.kind kinds.Equal) (λ h. fair_plain (λ s. M.read G.Test (M.lambda_param_default_at text i s p)) l kinds.Equal refl h (λ s r. refl)
    (λ s j. refl)
    (λ s n. refl)) (λ h. keeps (λ r. refl) (λ k. refl) (λ n. refl))
fair (M.parts_tail d p) l =
    fair_if (is l.kind kinds.FStringText) (λ h. takes (λ e r. ap (λ y. side_yield (seen (M.parts_tail d p)) (y ∷ r))
    (sym (first_text l.first (e ∙ is_true _ _ h)))) (λ j. refl) (λ n. refl)
    (ap is_ending {x = l.kind} {y = kinds.FStringText} (is_true l.kind kinds.FStringText h)))
    (λ h. fair_if (is l.kind kinds.FStringExprStart) (λ k. fair_plain (λ s. M.read G.Test (M.replacement_at d s p)) l kinds.FStringExprStart refl k
    (λ s r. refl)
    (λ s j. refl) (λ s n. refl)) (λ k. keeps (λ r. refl) (λ j. refl) (λ n. refl)))
fair (M.after_bang s p) l =
    fair_if (is l.kind kinds.Identifier) (λ h. takes (λ e r. ap (λ y. side_yield (seen (M.after_bang s p)) (y ∷ r))
    (sym (first_identifier l.first (e ∙ is_true _ _ h)))) (λ j. refl) (λ n. refl)
    (ap is_ending {x = l.kind} {y = kinds.Identifier} (is_true l.kind kinds.Identifier h)))
    (λ h. closes {d = G.conversion_absent s} {p = p} (λ r. refl) (λ j. refl) (λ n. refl))
fair (M.conversion_named s text i p) l = closes {d = G.conversion_name s text i} {p = p} (λ r. refl) (λ j. refl) (λ n. refl)
fair (M.replacement_due d o e c p) l =
    fair_if (is l.kind kinds.FStringExprEnd) (λ h. fair_plain (λ s. M.parts_tail (G.parts_replacement d o e c s) p) l kinds.FStringExprEnd refl h (λ s r. refl)
    (λ s j. refl) (λ s n. refl)) (λ h. fails)
fair (M.f_string_due q s d p) l =
    fair_if (is l.kind kinds.FStringEnd) (λ h. fair_plain (λ e. M.done (G.atom_f_string q s d e) p) l kinds.FStringEnd refl h (λ e r. refl) (λ e j. refl)
    (λ e n. refl)) (λ h. fails)
fair (M.newline_due d p) l = fair_if (is l.kind kinds.Newline) (λ h. fair_plain (λ s. M.done (G.simple_line d s) p) l kinds.Newline refl h (λ s r. refl)
    (λ s j. refl) (λ s n. refl)) (λ h. fails)
fair (M.line_end_due d i p) l = fair_if (is l.kind kinds.Newline) (λ h. fair_plain (λ s. M.done (G.simple_semicolon d i s) p) l kinds.Newline refl h
    (λ s r. refl)
    (λ s j. refl) (λ s n. refl)) (λ h. fails)
fair (M.load_round_due o p) l = fair_if (is l.kind kinds.OpeningRound) (λ h. fair_plain (λ s. M.load_string_due o s p) l kinds.OpeningRound refl h (λ s r. refl)
    (λ s j. refl) (λ s n. refl)) (λ h. fails)
fair (M.load_string_due o i p) l = fair_if (is l.kind kinds.String)
    (λ h. takes (λ e r. ap (λ y. side_yield (seen (M.load_string_due o i p)) (y ∷ r)) (sym (first_string l.first (e ∙ is_true _ _ h)))) (λ j. refl) (λ n. refl)
    (ap is_ending {x = l.kind} {y = kinds.String} (is_true l.kind kinds.String h))) (λ h. fails)
fair (M.load_due o i text v d p) l = fair_if (is l.kind kinds.ClosingRound) (λ h. fair_plain (λ s. M.done (G.small_load o i text v d s) p) l kinds.ClosingRound
    refl
    h (λ s r. refl) (λ s j. refl) (λ s n. refl)) (λ h. fails)
fair (M.newlines_tail d p) l = fair_if (is l.kind kinds.Newline) (λ h. fair_plain (λ s. M.newlines_tail (G.newlines_more d s) p) l kinds.Newline refl h
    (λ s r. refl) (λ s j. refl) (λ s n. refl)) (λ h. keeps (λ r. refl) (λ k. refl) (λ n. refl))
fair (M.block_tail d p) l = fair_block d p l.first l.kind l.no_memory
fair (M.def_name_due d p) l = fair_if (is l.kind kinds.Identifier)
    (λ h. takes (λ q r. ap (λ y. side_yield (seen (M.def_name_due d p)) (y ∷ r)) (sym (first_identifier l.first (q ∙ is_true _ _ h)))) (λ j. refl) (λ n. refl)
    (ap is_ending {x = l.kind} {y = kinds.Identifier} (is_true l.kind kinds.Identifier h))) (λ h. fails)
fair (M.def_round_due d text i p) l = fair_if (is l.kind kinds.OpeningRound)
    (λ h. fair_plain (λ s. M.read (G.OptionalList G.def_parameters) (M.def_parameters_at d text i s p)) l kinds.OpeningRound refl h (λ s r. refl) (λ s j. refl)
    (λ s n. refl)) (λ h. fails)
fair (M.def_close_due d text i o ps p) l = fair_if (is l.kind kinds.ClosingRound)
    (λ h. fair_plain (λ s. M.read G.ReturnType (M.def_return_type_at d text i o ps s p))
    l kinds.ClosingRound refl h (λ s r. refl) (λ s j. refl) (λ s n. refl)) (λ h. fails)
fair (M.def_colon_due d text i o ps c t p) l = fair_if (is l.kind kinds.Colon)
    (λ h. fair_plain (λ s. M.read G.Suite (M.def_suite_at d text i o ps c t s p)) l kinds.Colon refl h (λ s r. refl) (λ s j. refl) (λ s n. refl)) (λ h. fails)
fair (M.if_colon_due i d p) l = fair_if (is l.kind kinds.Colon) (λ h. fair_plain (λ s. M.read G.Suite (M.if_suite_at i d s p)) l kinds.Colon refl h
    (λ s r. refl)
    (λ s j. refl) (λ s n. refl)) (λ h. fails)
fair (M.elif_colon_due i d p) l = fair_if (is l.kind kinds.Colon) (λ h. fair_plain (λ s. M.read G.Suite (M.elif_suite_at i d s p)) l kinds.Colon refl h
    (λ s r. refl)
    (λ s j. refl) (λ s n. refl)) (λ h. fails)
fair (M.else_colon_due i p) l = fair_if (is l.kind kinds.Colon) (λ h. fair_plain (λ s. M.read G.Suite (M.else_suite_at i s p)) l kinds.Colon refl h
    (λ s r. refl)
    (λ s j. refl) (λ s n. refl)) (λ h. fails)
fair (M.for_in_due f d p) l = fair_if (is l.kind kinds.In) (λ h. fair_plain (λ s. M.read G.Test (M.for_source_at f d s p)) l kinds.In refl h (λ s r. refl)
    (λ s j. refl) (λ s n. refl)) (λ h. fails)
fair (M.for_colon_due f d i e p) l = fair_if (is l.kind kinds.Colon) (λ h. fair_plain (λ s. M.read G.Suite (M.for_suite_at f d i e s p)) l kinds.Colon refl h
    (λ s r. refl) (λ s j. refl) (λ s n. refl)) (λ h. fails)
fair (M.indent_due n d p) l = fair_if (is l.kind kinds.Indent) (λ h. fair_plain (λ s. M.read G.Block (M.suite_block_at n d s p)) l kinds.Indent refl h
    (λ s r. refl)
    (λ s j. refl) (λ s n. refl)) (λ h. fails)
fair (M.def_param_kwargs_due s p) l = fair_if (is l.kind kinds.Identifier)
    (λ h. takes (λ q r. ap (λ y. side_yield (seen (M.def_param_kwargs_due s p)) (y ∷ r)) (sym (first_identifier l.first (q ∙ is_true _ _ h)))) (λ j. refl)
    (λ n. refl) (ap is_ending {x = l.kind} {y = kinds.Identifier} (is_true l.kind kinds.Identifier h))) (λ h. fails)
fair (M.after_def_param_star s p) l = fair_if (is l.kind kinds.Identifier)
    (λ h. takes (λ q r. ap (λ y. side_yield (seen (M.after_def_param_star s p)) (y ∷ r)) (sym (first_identifier l.first (q ∙ is_true _ _ h)))) (λ j. refl)
    (λ n. refl) (ap is_ending {x = l.kind} {y = kinds.Identifier} (is_true l.kind kinds.Identifier h))) (λ h. keeps (λ r. refl) (λ k. refl) (λ n. refl))
fair (M.their_due text i g p) l = fair_if (is l.kind kinds.String)
    (λ h. takes (λ e r. ap (λ y. side_yield (seen (M.their_due text i g p)) (y ∷ r)) (sym (first_string l.first (e ∙ is_true _ _ h)))) (λ j. refl) (λ n. refl)
    (ap is_ending {x = l.kind} {y = kinds.String} (is_true l.kind kinds.String h))) (λ h. fails)
fair (M.after_list_comma d c p) l = fair_if (starts_test l.kind) (λ h. keeps (λ r. refl) (λ k. refl) (λ n. refl))
    (λ h. closes {d = G.list_comma d c} {p = p} (λ r. refl) (λ k. refl) (λ n. refl))
fair (M.after_semicolon d s p) l = fair_if (starts_small l.kind) (λ h. keeps (λ r. refl) (λ k. refl) (λ n. refl))
    (λ h. keeps (λ r. refl) (λ k. refl) (λ n. refl))
fair (M.after_return r p) l = fair_if (starts_test l.kind) (λ h. keeps (λ r. refl) (λ k. refl) (λ n. refl)) (λ h. keeps (λ r. refl) (λ k. refl) (λ n. refl))
fair (M.after_symbol text i p) l = fair_if (is l.kind kinds.Equal) (λ h. fair_plain (λ s. M.their_due text i s p) l kinds.Equal refl h (λ s r. refl)
    (λ s j. refl)
    (λ s n. refl)) (λ h. closes {d = G.sym_alone text i} {p = p} (λ r. refl) (λ k. refl) (λ n. refl))
fair (M.else_due d i c p) l = fair_if (is l.kind kinds.Else) (λ h. fair_plain (λ s. M.read G.Test (M.test_else_at d i c s p)) l kinds.Else refl h (λ s r. refl)
    (λ s j. refl) (λ s n. refl)) (λ h. fails)
fair (M.in_due d s p) l = fair_if (is l.kind kinds.In)
    (λ h. fair_plain (λ i. M.read (G.LeftAssociative G.bit_or_precedence) (M.comp_right_at d (G.not_in s i) p)) l
    kinds.In refl h (λ i r. refl) (λ s j. refl) (λ s n. refl)) (λ h. fails)
fair (M.name_due d s p) l =
    fair_if (is l.kind kinds.Identifier)
    (λ h. takes (λ e r. ap (λ y. side_yield (seen (M.name_due d s p)) (y ∷ r)) (sym (first_identifier l.first (e ∙ is_true _ _ h)))) (λ j. refl) (λ n. refl)
    (ap is_ending {x = l.kind} {y = kinds.Identifier} (is_true l.kind kinds.Identifier h)))
    (λ h. fails)
fair (M.colon_due d p) l = fair_if (is l.kind kinds.Colon) (λ h. fair_plain (λ s. M.read G.Bound (M.sub_stop_at d s p)) l kinds.Colon refl h (λ s r. refl)
    (λ s j. refl) (λ s n. refl)) (λ h. fails)
fair (M.subscript_due d o f p) l =
    fair_if (is l.kind kinds.ClosingSquare) (λ h. fair_plain (λ s. M.primary_tail (G.primary_subscript d o f s) p) l kinds.ClosingSquare refl h (λ s r. refl)
    (λ s j. refl) (λ s n. refl)) (λ h. fails)
fair (M.call_due d o f p) l =
    fair_if (is l.kind kinds.ClosingRound) (λ h. fair_plain (λ s. M.primary_tail (G.primary_call d o f s) p) l kinds.ClosingRound refl h (λ s r. refl)
    (λ s j. refl) (λ s n. refl)) (λ h. fails)
fair (M.lambda_due s d p) l = fair_if (is l.kind kinds.Colon) (λ h. fair_plain (λ c. M.read G.Test (M.lambda_body_at s d c p)) l kinds.Colon refl h
    (λ c r. refl)
    (λ s j. refl) (λ s n. refl)) (λ h. fails)
fair (M.value_due d p) l = fair_if (is l.kind kinds.Colon) (λ h. fair_plain (λ c. M.read G.Test (M.entry_value_at d c p)) l kinds.Colon refl h (λ c r. refl)
    (λ s j. refl) (λ s n. refl)) (λ h. fails)
fair (M.kwargs_due s p) l =
    fair_if (is l.kind kinds.Identifier) (λ h. takes (λ e r. ap (λ y. side_yield (seen (M.kwargs_due s p)) (y ∷ r))
    (sym (first_identifier l.first (e ∙ is_true _ _ h)))) (λ j. refl) (λ n. refl)
    (ap is_ending {x = l.kind} {y = kinds.Identifier} (is_true l.kind kinds.Identifier h))) (λ h. fails)
fair (M.curly_due o d p) l = fair_if (is l.kind kinds.ClosingCurly) (λ h. fair_plain (λ s. M.done (G.atom_curly o d s) p) l kinds.ClosingCurly refl h
    (λ s r. refl)
    (λ s j. refl) (λ s n. refl)) (λ h. fails)
fair (M.clause_in_due f d p) l = fair_if (is l.kind kinds.In) (λ h. fair_plain (λ s. M.read (G.LeftAssociative G.or_precedence) (M.clause_source_at f d s p)) l
    kinds.In
    refl h (λ s r. refl) (λ s j. refl) (λ s n. refl)) (λ h. fails)
fair (M.list_comprehension_due o d e p) l = fair_if (is l.kind kinds.ClosingSquare)
    (λ h. fair_plain (λ s. M.done (G.atom_list_comprehension o d e s) p) l kinds.ClosingSquare refl h (λ s r. refl) (λ s j. refl) (λ s n. refl)) (λ h. fails)
fair (M.dict_comprehension_due o d e p) l = fair_if (is l.kind kinds.ClosingCurly)
    (λ h. fair_plain (λ s. M.done (G.atom_dict_comprehension o d e s) p) l kinds.ClosingCurly refl h (λ s r. refl) (λ s j. refl) (λ s n. refl)) (λ h. fails)
fair (M.clauses_tail d p) l =
    fair_if (is l.kind kinds.For) (λ h. keeps (λ r. refl) (λ k. refl) (λ n. refl))
    (λ h. fair_if (is l.kind kinds.If) (λ h. fair_plain (λ s. M.read (G.LeftAssociative G.or_precedence) (M.clauses_if_at d s p)) l kinds.If refl h
    (λ s r. refl)
    (λ s j. refl) (λ s n. refl)) (λ h. keeps (λ r. refl) (λ k. refl) (λ n. refl)))
fair (M.round_due o d p) l = fair_if (is l.kind kinds.ClosingRound) (λ h. fair_plain (λ s. M.done (G.atom_round o d s) p) l kinds.ClosingRound refl h
    (λ s r. refl)
    (λ s j. refl) (λ s n. refl)) (λ h. fails)
fair (M.square_due o d p) l = fair_if (is l.kind kinds.ClosingSquare) (λ h. fair_plain (λ s. M.done (G.atom_square o d s) p) l kinds.ClosingSquare refl h
    (λ s r. refl) (λ s j. refl) (λ s n. refl)) (λ h. fails)

-- What is read can be completed to a derivation of b: f gives its tokens, with further ones, and g its nodes, with further ones.
pub record Completed (b : Nonterminal) (f : List Lexeme → List Lexeme) (g : List Occurrence → List Occurrence) : Type 0 where
  pub more : List Lexeme
  pub derivation : Derivation b
  pub nodes : List Occurrence
  pub spells : yield_of derivation [] ≡ f more
  pub keeps : occurrences_over (right_side derivation) [] ≡ g nodes
  pub fits : obeys AtEnd (right_side derivation) [] ⊤

-- with further tokens before that
after : {b : Nonterminal} {f u : List Lexeme → List Lexeme} {g v : List Occurrence → List Occurrence} (ts : List Lexeme) → Completed b f g
    → ((r : List Lexeme) → f r ≡ u (ts ++ r)) → (hs : List Occurrence) → ((k : List Occurrence) → g k ≡ v (hs ++ k)) → Completed b u v
after ts c h hs n = record {
  more = ts ++ c.more;
  derivation = c.derivation;
  nodes = hs ++ c.nodes;
  spells = c.spells ∙ h c.more;
  keeps = c.keeps ∙ n c.nodes;
  fits = c.fits;
}

-- what has been read may occur: derivations with statements, if the tokens end; all others, before any tokens
abbrev pub Whole : {b : Nonterminal} (n : Nonterminal) → Place b n → Derivation n → Type 0
Whole G.Module p d = obeys AtEnd (seen_at p ⨾ right_side d) [] ⊤
Whole G.Stmt p d = obeys AtEnd (seen_at p ⨾ right_side d) [] ⊤
Whole G.Suite p d = obeys AtEnd (seen_at p ⨾ right_side d) [] ⊤
Whole G.Block p d = obeys AtEnd (seen_at p ⨾ right_side d) [] ⊤
Whole G.Rest p d = obeys AtEnd (seen_at p ⨾ right_side d) [] ⊤
Whole G.For p d = obeys AtEnd (seen_at p ⨾ right_side d) [] ⊤
Whole n p d = opened (seen_at p ⨾ right_side d) 0 ≡ 0

abbrev WholePlace : {b : Nonterminal} (n : Nonterminal) → Place b n → Type 0
WholePlace G.Rest p = obeys AtEnd (seen_at p) [] ⊤
WholePlace n p = opened (seen_at p) 0 ≡ 0

abbrev pub WholeState : {b : Nonterminal} → State b → Type 0
WholeState (M.read n p) = WholePlace n p
WholeState (M.done {n} d p) = Whole n p d
WholeState (M.module_tail m p) = obeys AtEnd (seen_at p ⨾ right_side m) [] ⊤
WholeState (M.block_tail d p) = obeys AtEnd (seen_at p ⨾ right_side d) [] ⊤
WholeState s = opened (seen s) 0 ≡ 0

whole_under : {b n : Nonterminal} {k : PrecedenceLevel} (u : OperandOf k n) (p : Place b n) (d : Derivation n) → Whole n p d
    → opened (seen_at p ⨾ right_side d) 0 ≡ 0
whole_under G.of_or p d h = h
whole_under G.of_and p d h = h
whole_under G.of_bit_or p d h = h
whole_under G.of_xor p d h = h
whole_under G.of_bit_and p d h = h
whole_under G.of_shift p d h = h
whole_under G.of_add p d h = h
whole_under G.of_multiply p d h = h

whole_of : {b n : Nonterminal} {k : ElementKind} (u : ElementOf k n) (p : Place b n) (d : Derivation n) → Whole n p d → opened (seen_at p ⨾ right_side d) 0 ≡ 0
whole_of G.of_elements p d h = h
whole_of G.of_arguments p d h = h
whole_of G.of_entries p d h = h
whole_of G.of_lambda_parameters p d h = h
whole_of G.of_variables p d h = h
whole_of G.of_symbols p d h = h
whole_of G.of_def_parameters p d h = h

root_side_condition : {b : Nonterminal} (u : Rooted b) (d : Derivation b) → Whole b (M.top u) d → obeys AtEnd (right_side d) [] ⊤
root_side_condition module_root d h = h
root_side_condition for_root d h = h
root_side_condition conversion_root d h = all_side_conditions (right_side d) h
root_side_condition vars_root d h = all_side_conditions (right_side d) h
root_side_condition clause_root d h = all_side_conditions (right_side d) h
root_side_condition list_root d h = all_side_conditions (right_side d) h
root_side_condition note_root d h = all_side_conditions (right_side d) h
root_side_condition sym_root d h = all_side_conditions (right_side d) h
root_side_condition small_root d h = all_side_conditions (right_side d) h

abbrev pub w : Terminal → Lexeme
w t = lexeme t nowhere

abbrev pub a_name : Lexeme
a_name = w (tokens.Identifier [])

-- the shortest of each nonterminal
abbrev an_atom : Derivation G.Atom
an_atom = G.atom_name [] nowhere

abbrev a_primary : Derivation G.Primary
a_primary = G.primary_atom an_atom

abbrev pub a_unary : Derivation G.Unary
a_unary = G.unary_primary a_primary

abbrev a_shift : Derivation (G.LeftAssociative G.shift_precedence)
a_shift = G.left_one G.of_shift (G.left_one G.of_add (G.left_one G.of_multiply a_unary))

abbrev pub a_bit_or : Derivation (G.LeftAssociative G.bit_or_precedence)
a_bit_or = G.left_one G.of_bit_or (G.left_one G.of_xor (G.left_one G.of_bit_and a_shift))

abbrev a_comp : Derivation G.Comp
a_comp = G.comp_one a_bit_or

abbrev pub a_not : Derivation G.Not
a_not = G.not_comp a_comp

abbrev pub a_left : (k : PrecedenceLevel) → Derivation (G.LeftAssociative k)
a_left G.or_precedence = G.left_one G.of_or (G.left_one G.of_and a_not)
a_left G.and_precedence = G.left_one G.of_and a_not
a_left G.bit_or_precedence = a_bit_or
a_left G.xor_precedence = G.left_one G.of_xor (G.left_one G.of_bit_and a_shift)
a_left G.bit_and_precedence = G.left_one G.of_bit_and a_shift
a_left G.shift_precedence = a_shift
a_left G.add_precedence = G.left_one G.of_add (G.left_one G.of_multiply a_unary)
a_left G.multiply_precedence = G.left_one G.of_multiply a_unary

pub left_is : (k : PrecedenceLevel) (r : List Lexeme) → yield_of (a_left k) r ≡ a_name ∷ r
left_is G.or_precedence r = refl
left_is G.and_precedence r = refl
left_is G.bit_or_precedence r = refl
left_is G.xor_precedence r = refl
left_is G.bit_and_precedence r = refl
left_is G.shift_precedence r = refl
left_is G.add_precedence r = refl
left_is G.multiply_precedence r = refl

left_occurrences : (k : PrecedenceLevel) (f : List Lexeme → List Lexeme) (j : List Occurrence) → onto (right_side (a_left k)) f j ≡ j
left_occurrences G.or_precedence f j = refl
left_occurrences G.and_precedence f j = refl
left_occurrences G.bit_or_precedence f j = refl
left_occurrences G.xor_precedence f j = refl
left_occurrences G.bit_and_precedence f j = refl
left_occurrences G.shift_precedence f j = refl
left_occurrences G.add_precedence f j = refl
left_occurrences G.multiply_precedence f j = refl

abbrev pub a_test : Derivation G.Test
a_test = G.test_or (a_left G.or_precedence)

abbrev pub a_variable : Derivation G.LoopVars
a_variable = G.vars_plain (G.comma_list_one G.of_variables (a_left G.bit_or_precedence))

abbrev pub a_clause : Derivation G.ForClause
a_clause = G.for_clause nowhere a_variable nowhere (a_left G.or_precedence)

abbrev the_clause : List Lexeme
the_clause = w tokens.For ∷ a_name ∷ w tokens.In ∷ a_name ∷ []

abbrev pub a_small : Derivation G.Small
a_small = G.small_pass nowhere

abbrev pub a_simple : Derivation G.Simple
a_simple = G.simple_line (G.smalls_one a_small) nowhere

abbrev pub pass_line : List Lexeme
pass_line = w tokens.Pass ∷ w tokens.Newline ∷ []

abbrev pub a_suite : Derivation G.Suite
a_suite = G.suite_simple a_simple

abbrev pub a_block : Derivation G.Block
a_block = G.block_first G.newlines_none (G.stmt_simple a_simple)

abbrev pub a_list : Derivation G.TestList
a_list = G.list_plain (G.comma_list_one G.of_elements a_test)

completed : {b n : Nonterminal} (p : Place b n) (d : Derivation n) → Whole n p d → Completed b (λ r. side_yield (seen_at p) (yield_of d r))
    (λ k. occurrences_over (seen_at p ⨾ right_side d) k)
completed (M.top u) d h = record { more = []; derivation = d; nodes = []; spells = refl; keeps = refl; fits = root_side_condition u d h }
completed (M.module_stmt_at m p) d h = completed p (G.module_stmt m d) h
completed (M.stmt_simple_at p) d h = completed p (G.stmt_simple d) (all_side_conditions (seen_at p ⨾ right_side d) h)
completed (M.def_parameters_at d text i o p) ps h =
    after (w tokens.ClosingRound ∷ w tokens.Colon ∷ pass_line) (completed p (G.stmt_def d text i o ps nowhere G.return_type_none nowhere a_suite)
    (all_side_conditions (seen_at p ⨾ right_side (G.stmt_def d text i o ps nowhere G.return_type_none nowhere a_suite)) h)) (λ r. refl) [] (λ k. refl)
completed (M.def_return_type_at d text i o ps c p) t h =
    after (w tokens.Colon ∷ pass_line) (completed p (G.stmt_def d text i o ps c t nowhere a_suite)
    (all_side_conditions (seen_at p ⨾ right_side (G.stmt_def d text i o ps c t nowhere a_suite)) h)) (λ r. refl) [] (λ k. refl)
completed (M.def_suite_at d text i o ps c t k p) s h = completed p (G.stmt_def d text i o ps c t k s) h
completed (M.if_test_at i p) d h =
    after (w tokens.Colon ∷ pass_line) (completed p (G.stmt_if i d nowhere a_suite G.rest_none)
    (all_side_conditions (seen_at p ⨾ right_side (G.stmt_if i d nowhere a_suite G.rest_none)) h)) (λ r. refl) [] (λ k. refl)
completed (M.if_suite_at i d c p) s h = completed p (G.stmt_if i d c s G.rest_none) h
completed (M.if_rest_at i d c s p) e h = completed p (G.stmt_if i d c s e) h
completed (M.stmt_for_at p) d h = completed p (G.stmt_for d) h
completed (M.for_vars_at f p) d h =
    let x : Derivation G.For = G.for_loop f d nowhere a_test nowhere a_suite in
    after (w tokens.In ∷ a_name ∷ w tokens.Colon ∷ pass_line) (completed p x (all_side_conditions (seen_at p ⨾ right_side x) h)) (λ r. refl)
    (occurrence_at p x ∷ []) (λ k. refl)
completed (M.for_source_at f d i p) e h =
    let x : Derivation G.For = G.for_loop f d i e nowhere a_suite in
    after (w tokens.Colon ∷ pass_line) (completed p x (all_side_conditions (seen_at p ⨾ right_side x) h)) (λ r. refl) (occurrence_at p x ∷ []) (λ k. refl)
completed (M.for_suite_at f d i e c p) s h = after [] (completed p (G.for_loop f d i e c s) h) (λ r. refl) (occurrence_at p (G.for_loop f d i e c s) ∷ [])
    (λ k. refl)
completed (M.elif_test_at i p) d h =
    after (w tokens.Colon ∷ pass_line) (completed p (G.rest_elif i d nowhere a_suite G.rest_none)
    (all_side_conditions (seen_at p ⨾ right_side (G.rest_elif i d nowhere a_suite G.rest_none)) h)) (λ r. refl) [] (λ k. refl)
completed (M.elif_suite_at i d c p) s h = completed p (G.rest_elif i d c s G.rest_none) h
completed (M.elif_rest_at i d c s p) e h = completed p (G.rest_elif i d c s e) h
completed (M.else_suite_at i c p) s h = completed p (G.rest_else i c s) h
completed (M.suite_simple_at p) d h = completed p (G.suite_simple d) (all_side_conditions (seen_at p ⨾ right_side d) h)
completed (M.suite_newlines_at n p) d h =
    after (w tokens.Indent ∷ pass_line) (completed p (G.suite_open n d nowhere a_block)
    (open_side_condition n d nowhere a_block p (all_side_conditions (seen_at (M.suite_block_at n d nowhere p) ⨾ right_side a_block) h))) (λ r. refl) []
    (λ k. refl)
completed (M.suite_block_at n d i p) b h = after [] (completed p (G.suite_open n d i b) (open_side_condition n d i b p h)) (λ r. refl) [] (λ k. refl)
completed (M.block_newlines_at p) d h =
    after pass_line (completed p (G.block_first d (G.stmt_simple a_simple))
    (all_side_conditions (seen_at p ⨾ right_side (G.block_first d (G.stmt_simple a_simple)))
    h)) (λ r. refl) [] (λ k. refl)
completed (M.block_first_at d p) s h = completed p (G.block_first d s) h
completed (M.block_stmt_at b p) s h = completed p (G.block_stmt b s) h
completed (M.return_type_note_at a p) d h = completed p (G.return_type_note a d) h
completed (M.args_annotation_at s text i p) d h = completed p (G.def_param_args s text i d) h
completed (M.kwargs_annotation_at s text i p) d h = completed p (G.def_param_kwargs s text i d) h
completed (M.def_param_annotation_at text i p) d h = completed p (G.def_param_name text i d) h
completed (M.def_param_default_at text i d e p) v h = completed p (G.def_param_default text i d e v) h
completed (M.simple_smalls_at p) d h = after (w tokens.Newline ∷ []) (completed p (G.simple_line d nowhere) h) (λ r. refl) [] (λ k. refl)
completed (M.smalls_one_at p) d h = completed p (G.smalls_one d) h
completed (M.smalls_more_at d s p) e h = completed p (G.smalls_more d s e) h
completed (M.return_value_at r p) d h = completed p (G.small_return_value r d) h
completed (M.load_symbols_at o i text s p) d h = after (w tokens.ClosingRound ∷ []) (completed p (G.small_load o i text s d nowhere) h) (λ r. refl) []
    (λ k. refl)
completed (M.small_list_at p) d h =
    after (w tokens.Equal ∷ a_name ∷ []) (completed p (G.small_assign d G.annotation_none G.equal_sign nowhere a_list) h) (λ r. refl)
    (occurrence_at p (G.small_assign d G.annotation_none G.equal_sign nowhere a_list) ∷ []) (λ k. refl)
completed (M.assign_annotation_at d p) n h =
    after (w tokens.Equal ∷ a_name ∷ []) (completed p (G.small_assign d n G.equal_sign nowhere a_list) h) (λ r. refl)
    (occurrence_at p (G.small_assign d n G.equal_sign nowhere a_list) ∷ []) (λ k. refl)
completed (M.assign_value_at d n o s p) e h = after [] (completed p (G.small_assign d n o s e) h) (λ r. refl) (occurrence_at p (G.small_assign d n o s e) ∷ [])
    (λ k. refl)
completed (M.list_elements_at p) d h = completed p (G.list_plain d) h
completed (M.annotation_note_at c p) d h = completed p (G.annotation_note c d) h
completed (M.note_test_at p) d h = after [] (completed p (G.note_test d) h) (λ r. refl) (occurrence_at p (G.note_test d) ∷ []) (λ k. refl)
completed (M.symbols_list_at c p) d h = completed p (G.symbols_list c d) h
completed (M.test_or_at p) d h = completed p (G.test_or d) h
completed (M.test_if_at d i p) c h = after (w tokens.Else ∷ a_name ∷ []) (completed p (G.test_if d i c nowhere a_test) h) (λ r. refl) [] (λ k. refl)
completed (M.test_else_at d i c e p) f h = completed p (G.test_if d i c e f) h
completed (M.lambda_parameters_at s p) d h = after (w tokens.Colon ∷ a_name ∷ []) (completed p (G.test_lambda s d nowhere a_test) h) (λ r. refl) [] (λ k. refl)
completed (M.lambda_body_at s d c p) e h = completed p (G.test_lambda s d c e) h
completed (M.left_first_at u p) d h = completed p (G.left_one u d) (whole_under u (M.left_first_at u p) d h)
completed (M.left_right_at u d o s p) e h = completed p (G.left_more u d o s e) (whole_under u (M.left_right_at u d o s p) e h)
completed (M.not_not_at s p) d h = completed p (G.not_not s d) h
completed (M.not_comp_at p) d h = completed p (G.not_comp d) h
completed (M.comp_first_at p) d h = completed p (G.comp_one d) h
completed (M.comp_right_at d o p) e h = completed p (G.comp_two d o e) h
completed (M.unary_sign_at o s p) d h = completed p (G.unary_sign o s d) h
completed (M.unary_primary_at p) d h = completed p (G.unary_primary d) h
completed (M.primary_atom_at p) d h = completed p (G.primary_atom d) h
completed (M.primary_subscript_at d o p) f h = after (w tokens.ClosingSquare ∷ []) (completed p (G.primary_subscript d o f nowhere) h) (λ r. refl) []
    (λ k. refl)
completed (M.sub_first_at p) d h = completed p (G.sub_one d) h
completed (M.sub_two_at d c p) e h = completed p (G.sub_two d c e) h
completed (M.sub_stop_at d c p) e h = completed p (G.sub_slice d c e) h
completed (M.sub_step_at d c e s p) f h = completed p (G.sub_step d c e s f) h
completed (M.bound_test_at p) d h = completed p (G.bound_test d) h
completed (M.primary_call_at d o p) f h = after (w tokens.ClosingRound ∷ []) (completed p (G.primary_call d o f nowhere) h) (λ r. refl) [] (λ k. refl)
completed (M.arg_test_at p) d h = completed p (G.arg_test d) h
completed (M.arg_named_at text s e p) d h = completed p (G.arg_named text s e d) h
completed (M.arg_star_at s p) d h = completed p (G.arg_star s d) h
completed (M.arg_stars_at s p) d h = completed p (G.arg_stars s d) h
completed (M.entry_key_at p) d h = after (w tokens.Colon ∷ a_name ∷ []) (completed p (G.entry d nowhere a_test) h) (λ r. refl) [] (λ k. refl)
completed (M.entry_value_at d c p) e h = completed p (G.entry d c e) h
completed (M.lambda_param_default_at text i e p) d h = completed p (G.lambda_param_default text i e d) h
completed (M.atom_round_at o p) d h = after (w tokens.ClosingRound ∷ []) (completed p (G.atom_round o d nowhere) h) (λ r. refl) [] (λ k. refl)
completed (M.atom_square_at o p) d h = after (w tokens.ClosingSquare ∷ []) (completed p (G.atom_square o d nowhere) h) (λ r. refl) [] (λ k. refl)
completed (M.atom_curly_at o p) d h = after (w tokens.ClosingCurly ∷ []) (completed p (G.atom_curly o d nowhere) h) (λ r. refl) [] (λ k. refl)
completed (M.list_clauses_at o d p) e h = after (w tokens.ClosingSquare ∷ []) (completed p (G.atom_list_comprehension o d e nowhere) h) (λ r. refl) []
    (λ k. refl)
completed (M.dict_clauses_at o d p) e h = after (w tokens.ClosingCurly ∷ []) (completed p (G.atom_dict_comprehension o d e nowhere) h) (λ r. refl) []
    (λ k. refl)
completed (M.vars_elements_at p) d h = completed p (G.vars_plain d) h
completed (M.clause_vars_at f p) d h =
    after (w tokens.In ∷ a_name ∷ []) (completed p (G.for_clause f d nowhere (a_left G.or_precedence)) h) (λ r. refl)
    (occurrence_at p (G.for_clause f d nowhere (a_left G.or_precedence)) ∷ []) (λ k. refl)
completed (M.clause_source_at f d i p) e h = after [] (completed p (G.for_clause f d i e) h) (λ r. refl) (occurrence_at p (G.for_clause f d i e) ∷ [])
    (λ k. refl)
completed (M.clauses_one_at p) d h = completed p (G.clauses_one d) h
completed (M.clauses_for_at d p) e h = completed p (G.clauses_for d e) h
completed (M.clauses_if_at d i p) e h = completed p (G.clauses_if d i e) h
completed (M.parts_at q s p) d h = after (w tokens.FStringEnd ∷ []) (completed p (G.atom_f_string q s d nowhere) h) (λ r. refl) [] (λ k. refl)
completed (M.replacement_at d o p) e h = after (w tokens.FStringExprEnd ∷ []) (completed p (G.parts_replacement d o e G.conversion_default nowhere) h)
    (λ r. refl) [] (λ k. refl)
completed (M.conversion_at d o e p) c h = after (w tokens.FStringExprEnd ∷ []) (completed p (G.parts_replacement d o e c nowhere) h) (λ r. refl) [] (λ k. refl)
completed (M.comma_list_at p) d h = completed p (G.optional_list_plain d) h
completed (M.comma_list_one_at u p) d h = completed p (G.comma_list_one u d) (whole_of u (M.comma_list_one_at u p) d h)
completed (M.comma_list_more_at u d c p) e h = completed p (G.comma_list_more u d c e) (whole_of u (M.comma_list_more_at u d c p) e h)

-- the least that a nonterminal that is still to be read adds
least : {b : Nonterminal} (n : Nonterminal) (p : Place b n) → WholePlace n p → Completed b (λ r. side_yield (seen_at p) r) (λ k. occurrences_over (seen_at p) k)
least G.Module p h = after [] (completed p G.module_none (all_side_conditions (seen_at p ⨾ right_side G.module_none) h)) (λ r. refl) [] (λ k. refl)
least G.Stmt p h = after pass_line (completed p (G.stmt_simple a_simple) (all_side_conditions (seen_at p ⨾ right_side (G.stmt_simple a_simple)) h))
    (λ r. refl) []
    (λ k. refl)
least G.Suite p h = after pass_line (completed p a_suite (all_side_conditions (seen_at p ⨾ right_side a_suite) h)) (λ r. refl) [] (λ k. refl)
least G.Block p h = after pass_line (completed p a_block (all_side_conditions (seen_at p ⨾ right_side a_block) h)) (λ r. refl) [] (λ k. refl)
least G.Newlines p h = after [] (completed p G.newlines_none h) (λ r. refl) [] (λ k. refl)
least G.Rest p h = after [] (completed p G.rest_none h) (λ r. refl) [] (λ k. refl)
least G.For p h =
    let x : Derivation G.For = G.for_loop nowhere a_variable nowhere a_test nowhere a_suite in
    after (w tokens.For ∷ a_name ∷ w tokens.In ∷ a_name ∷ w tokens.Colon ∷ pass_line) (completed p x (all_side_conditions (seen_at p ⨾ right_side x) h))
    (λ r. refl) (occurrence_at p x ∷ []) (λ k. refl)
least G.ReturnType p h = after [] (completed p G.return_type_none h) (λ r. refl) [] (λ k. refl)
least G.DefParam p h = after (w tokens.Slash ∷ []) (completed p (G.def_param_slash nowhere) h) (λ r. refl) [] (λ k. refl)
least G.Simple p h = after (w tokens.Pass ∷ w tokens.Newline ∷ []) (completed p a_simple h) (λ r. refl) [] (λ k. refl)
least G.Smalls p h = after (w tokens.Pass ∷ []) (completed p (G.smalls_one a_small) h) (λ r. refl) [] (λ k. refl)
least G.TestList p h = after (a_name ∷ []) (completed p a_list h) (λ r. refl) [] (λ k. refl)
least G.Annotation p h = after [] (completed p G.annotation_none h) (λ r. refl) [] (λ k. refl)
least G.Note p h = after (a_name ∷ []) (completed p (G.note_test a_test) h) (λ r. refl) (occurrence_at p (G.note_test a_test) ∷ []) (λ k. refl)
least G.Symbols p h = after [] (completed p G.symbols_none h) (λ r. refl) [] (λ k. refl)
least G.Sym p h = after (w (tokens.String []) ∷ []) (completed p (G.sym_same [] nowhere) h) (λ r. refl) [] (λ k. refl)
least G.Small p h = after (w tokens.Pass ∷ []) (completed p a_small h) (λ r. refl) [] (λ k. refl)
least G.Test p h = after (a_name ∷ []) (completed p a_test h) (λ r. refl) [] (λ k. refl)
least (G.LeftAssociative k) p h = after (a_name ∷ []) (completed p (a_left k) (ap (opened (seen_at p)) (no_blocks (a_left k) tt 0) ∙ h))
    (λ r. ap (side_yield (seen_at p)) (left_is k r)) [] (λ j. ap (onto (seen_at p) (λ r. r)) (left_occurrences k (side_yield (seen_at p)) j))
least G.Not p h = after (a_name ∷ []) (completed p a_not h) (λ r. refl) [] (λ k. refl)
least G.Comp p h = after (a_name ∷ []) (completed p a_comp h) (λ r. refl) [] (λ k. refl)
least G.Unary p h = after (a_name ∷ []) (completed p a_unary h) (λ r. refl) [] (λ k. refl)
least G.Primary p h = after (a_name ∷ []) (completed p a_primary h) (λ r. refl) [] (λ k. refl)
least G.Atom p h = after (a_name ∷ []) (completed p an_atom h) (λ r. refl) [] (λ k. refl)
least G.Sub p h = after (a_name ∷ []) (completed p (G.sub_one a_test) h) (λ r. refl) [] (λ k. refl)
least G.Bound p h = after [] (completed p G.bound_none h) (λ r. refl) [] (λ k. refl)
least G.Arg p h = after (a_name ∷ []) (completed p (G.arg_test a_test) h) (λ r. refl) [] (λ k. refl)
least G.Entry p h = after (a_name ∷ w tokens.Colon ∷ a_name ∷ []) (completed p (G.entry a_test nowhere a_test) h) (λ r. refl) [] (λ k. refl)
least G.LambdaParam p h = after (w tokens.Slash ∷ []) (completed p (G.lambda_param_slash nowhere) h) (λ r. refl) [] (λ k. refl)
least G.FStringParts p h = after [] (completed p G.parts_none h) (λ r. refl) [] (λ k. refl)
least G.Conversion p h = after [] (completed p G.conversion_default h) (λ r. refl) [] (λ k. refl)
least G.LoopVars p h = after (a_name ∷ []) (completed p a_variable h) (λ r. refl) [] (λ k. refl)
least G.ForClause p h = after the_clause (completed p a_clause h) (λ r. refl) (occurrence_at p a_clause ∷ []) (λ k. refl)
least G.Clauses p h = after the_clause (completed p (G.clauses_one a_clause) h) (λ r. refl) (occurrence_at (M.clauses_one_at p) a_clause ∷ []) (λ k. refl)
least (G.OptionalList k) p h = after [] (completed p G.optional_list_none h) (λ r. refl) [] (λ k. refl)
least (G.CommaList G.elements) p h = after (a_name ∷ []) (completed p (G.comma_list_one G.of_elements a_test) h) (λ r. refl) [] (λ k. refl)
least (G.CommaList G.arguments) p h = after (a_name ∷ []) (completed p (G.comma_list_one G.of_arguments (G.arg_test a_test)) h) (λ r. refl) [] (λ k. refl)
least (G.CommaList G.entries) p h = after (a_name ∷ w tokens.Colon ∷ a_name ∷ [])
    (completed p (G.comma_list_one G.of_entries (G.entry a_test nowhere a_test)) h)
    (λ r. refl) [] (λ k. refl)
least (G.CommaList G.lambda_parameters) p h = after (w tokens.Slash ∷ []) (completed p (G.comma_list_one G.of_lambda_parameters (G.lambda_param_slash nowhere))
    h)
    (λ r. refl) [] (λ k. refl)
least (G.CommaList G.variables) p h = after (a_name ∷ []) (completed p (G.comma_list_one G.of_variables (a_left G.bit_or_precedence)) h) (λ r. refl) []
    (λ k. refl)
least (G.CommaList G.symbols) p h = after (w (tokens.String []) ∷ []) (completed p (G.comma_list_one G.of_symbols (G.sym_same [] nowhere)) h) (λ r. refl) []
    (λ k. refl)
least (G.CommaList G.def_parameters) p h = after (w tokens.Slash ∷ []) (completed p (G.comma_list_one G.of_def_parameters (G.def_param_slash nowhere)) h)
    (λ r. refl) []
    (λ k. refl)

pub viable : {b : Nonterminal} (s : State b) → WholeState s → Completed b (λ r. side_yield (seen s) r) (λ k. occurrences_over (seen s) k)
viable (M.read n p) h = least n p h
viable (M.done d p) h = completed p d h
viable (M.module_tail m p) h = completed p m h
viable (M.left_tail d p) h = completed p d h
viable (M.primary_tail d p) h = completed p d h
viable (M.after_comma d c p) h = completed p (G.optional_list_comma d c) h
viable (M.after_vars_comma d c p) h = after [] (completed p (G.vars_comma d c) h) (λ r. refl) (occurrence_at p (G.vars_comma d c) ∷ []) (λ k. refl)
viable (M.after_star s p) h = completed p (G.lambda_param_star s) h
viable (M.after_name text i p) h = completed p (G.lambda_param_name text i) h
viable (M.newline_due d p) h = after (w tokens.Newline ∷ []) (completed p (G.simple_line d nowhere) h) (λ r. refl) [] (λ k. refl)
viable (M.line_end_due d s p) h = after (w tokens.Newline ∷ []) (completed p (G.simple_semicolon d s nowhere) h) (λ r. refl) [] (λ k. refl)
viable (M.load_round_due o p) h = after (w tokens.OpeningRound ∷ w (tokens.String []) ∷ w tokens.ClosingRound ∷ [])
    (completed p (G.small_load o nowhere [] nowhere G.symbols_none nowhere) h) (λ r. refl) [] (λ k. refl)
viable (M.load_string_due o i p) h = after (w (tokens.String []) ∷ w tokens.ClosingRound ∷ [])
    (completed p (G.small_load o i [] nowhere G.symbols_none nowhere) h)
    (λ r. refl) [] (λ k. refl)
viable (M.load_due o i text s d p) h = after (w tokens.ClosingRound ∷ []) (completed p (G.small_load o i text s d nowhere) h) (λ r. refl) [] (λ k. refl)
viable (M.their_due text i e p) h = after (w (tokens.String []) ∷ []) (completed p (G.sym_other text i e [] nowhere) h) (λ r. refl) [] (λ k. refl)
viable (M.after_list_comma d c p) h = after [] (completed p (G.list_comma d c) h) (λ r. refl) (occurrence_at p (G.list_comma d c) ∷ []) (λ k. refl)
viable (M.after_semicolon d s p) h = after (w tokens.Newline ∷ []) (completed p (G.simple_semicolon d s nowhere) h) (λ r. refl) [] (λ k. refl)
viable (M.after_return r p) h = completed p (G.small_return r) h
viable (M.after_symbol text i p) h = after [] (completed p (G.sym_alone text i) h) (λ r. refl) (occurrence_at p (G.sym_alone text i) ∷ []) (λ k. refl)
viable (M.else_due d i c p) h = after (w tokens.Else ∷ a_name ∷ []) (completed p (G.test_if d i c nowhere a_test) h) (λ r. refl) [] (λ k. refl)
viable (M.in_due d s p) h = after (w tokens.In ∷ a_name ∷ []) (completed p (G.comp_two d (G.not_in s nowhere) a_bit_or) h) (λ r. refl) [] (λ k. refl)
viable (M.name_due d s p) h = after (a_name ∷ []) (completed p (G.primary_dot d s [] nowhere) h) (λ r. refl) [] (λ k. refl)
viable (M.colon_due d p) h = after (w tokens.Colon ∷ []) (completed p (G.sub_slice d nowhere G.bound_none) h) (λ r. refl) [] (λ k. refl)
viable (M.subscript_due d o f p) h = after (w tokens.ClosingSquare ∷ []) (completed p (G.primary_subscript d o f nowhere) h) (λ r. refl) [] (λ k. refl)
viable (M.call_due d o f p) h = after (w tokens.ClosingRound ∷ []) (completed p (G.primary_call d o f nowhere) h) (λ r. refl) [] (λ k. refl)
viable (M.lambda_due s d p) h = after (w tokens.Colon ∷ a_name ∷ []) (completed p (G.test_lambda s d nowhere a_test) h) (λ r. refl) [] (λ k. refl)
viable (M.value_due d p) h = after (w tokens.Colon ∷ a_name ∷ []) (completed p (G.entry d nowhere a_test) h) (λ r. refl) [] (λ k. refl)
viable (M.kwargs_due s p) h = after (a_name ∷ []) (completed p (G.lambda_param_kwargs s [] nowhere) h) (λ r. refl) [] (λ k. refl)
viable (M.curly_due o d p) h = after (w tokens.ClosingCurly ∷ []) (completed p (G.atom_curly o d nowhere) h) (λ r. refl) [] (λ k. refl)
viable (M.clause_in_due f d p) h =
    after (w tokens.In ∷ a_name ∷ []) (completed p (G.for_clause f d nowhere (a_left G.or_precedence)) h) (λ r. refl)
    (occurrence_at p (G.for_clause f d nowhere (a_left G.or_precedence)) ∷ []) (λ k. refl)
viable (M.list_comprehension_due o d e p) h = after (w tokens.ClosingSquare ∷ []) (completed p (G.atom_list_comprehension o d e nowhere) h) (λ r. refl) []
    (λ k. refl)
viable (M.dict_comprehension_due o d e p) h = after (w tokens.ClosingCurly ∷ []) (completed p (G.atom_dict_comprehension o d e nowhere) h) (λ r. refl) []
    (λ k. refl)
viable (M.clauses_tail d p) h = completed p d h
viable (M.round_due o d p) h = after (w tokens.ClosingRound ∷ []) (completed p (G.atom_round o d nowhere) h) (λ r. refl) [] (λ k. refl)
viable (M.square_due o d p) h = after (w tokens.ClosingSquare ∷ []) (completed p (G.atom_square o d nowhere) h) (λ r. refl) [] (λ k. refl)
viable (M.parts_tail d p) h = completed p d h
viable (M.after_bang s p) h = after (a_name ∷ []) (completed p (G.conversion_name s [] nowhere) h) (λ r. refl)
    (occurrence_at p (G.conversion_name s [] nowhere) ∷ []) (λ k. refl)
viable (M.conversion_named s text i p) h = after [] (completed p (G.conversion_name s text i) h) (λ r. refl) (occurrence_at p (G.conversion_name s text i) ∷ [])
    (λ k. refl)
viable (M.replacement_due d o e c p) h = after (w tokens.FStringExprEnd ∷ []) (completed p (G.parts_replacement d o e c nowhere) h) (λ r. refl) [] (λ k. refl)
viable (M.f_string_due q s d p) h = after (w tokens.FStringEnd ∷ []) (completed p (G.atom_f_string q s d nowhere) h) (λ r. refl) [] (λ k. refl)
viable (M.newlines_tail d p) h = completed p d h
viable (M.block_tail d p) h = completed p d h
viable (M.def_name_due d p) h =
    let x : Derivation G.Stmt = G.stmt_def d [] nowhere nowhere G.optional_list_none nowhere G.return_type_none nowhere a_suite in
    after (a_name ∷ w tokens.OpeningRound ∷ w tokens.ClosingRound ∷ w tokens.Colon ∷ pass_line)
    (completed p x (all_side_conditions (seen_at p ⨾ right_side x) h)) (λ r. refl) [] (λ k. refl)
viable (M.def_round_due d text i p) h =
    let x : Derivation G.Stmt = G.stmt_def d text i nowhere G.optional_list_none nowhere G.return_type_none nowhere a_suite in
    after (w tokens.OpeningRound ∷ w tokens.ClosingRound ∷ w tokens.Colon ∷ pass_line) (completed p x (all_side_conditions (seen_at p ⨾ right_side x) h))
    (λ r. refl) [] (λ k. refl)
viable (M.def_close_due d text i o ps p) h =
    let x : Derivation G.Stmt = G.stmt_def d text i o ps nowhere G.return_type_none nowhere a_suite in
    after (w tokens.ClosingRound ∷ w tokens.Colon ∷ pass_line) (completed p x (all_side_conditions (seen_at p ⨾ right_side x) h)) (λ r. refl) [] (λ k. refl)
viable (M.def_colon_due d text i o ps c t p) h =
    let x : Derivation G.Stmt = G.stmt_def d text i o ps c t nowhere a_suite in
    after (w tokens.Colon ∷ pass_line) (completed p x (all_side_conditions (seen_at p ⨾ right_side x) h)) (λ r. refl) [] (λ k. refl)
viable (M.if_colon_due i d p) h =
    let x : Derivation G.Stmt = G.stmt_if i d nowhere a_suite G.rest_none in
    after (w tokens.Colon ∷ pass_line) (completed p x (all_side_conditions (seen_at p ⨾ right_side x) h)) (λ r. refl) [] (λ k. refl)
viable (M.elif_colon_due i d p) h =
    let x : Derivation G.Rest = G.rest_elif i d nowhere a_suite G.rest_none in
    after (w tokens.Colon ∷ pass_line) (completed p x (all_side_conditions (seen_at p ⨾ right_side x) h)) (λ r. refl) [] (λ k. refl)
viable (M.else_colon_due i p) h =
    let x : Derivation G.Rest = G.rest_else i nowhere a_suite in
    after (w tokens.Colon ∷ pass_line) (completed p x (all_side_conditions (seen_at p ⨾ right_side x) h)) (λ r. refl) [] (λ k. refl)
viable (M.for_in_due f d p) h =
    let x : Derivation G.For = G.for_loop f d nowhere a_test nowhere a_suite in
    after (w tokens.In ∷ a_name ∷ w tokens.Colon ∷ pass_line) (completed p x (all_side_conditions (seen_at p ⨾ right_side x) h)) (λ r. refl)
    (occurrence_at p x ∷ []) (λ k. refl)
viable (M.for_colon_due f d i e p) h =
    let x : Derivation G.For = G.for_loop f d i e nowhere a_suite in
    after (w tokens.Colon ∷ pass_line) (completed p x (all_side_conditions (seen_at p ⨾ right_side x) h)) (λ r. refl) (occurrence_at p x ∷ []) (λ k. refl)
viable (M.indent_due n d p) h =
    after (w tokens.Indent ∷ pass_line) (completed p (G.suite_open n d nowhere a_block)
    (open_side_condition n d nowhere a_block p (all_side_conditions (seen_at (M.suite_block_at n d nowhere p) ⨾ right_side a_block) h))) (λ r. refl) []
    (λ k. refl)
viable (M.def_param_kwargs_due s p) h = after (a_name ∷ []) (completed p (G.def_param_kwargs s [] nowhere G.annotation_none) h) (λ r. refl) [] (λ k. refl)
viable (M.after_def_param_star s p) h = completed p (G.def_param_star s) h
