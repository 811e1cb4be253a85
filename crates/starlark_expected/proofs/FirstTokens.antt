-- The moves that are decided by the kind of the first token.
use Rattle.std.proofs.Common.{◌≡◌, Bool, false, [], ◌∷◌, refl, sym}
use Rattle.starlark_lexer.specs.Tokens.{Span, Lexeme}
use Rattle.starlark_lexer.specs.declared.kind.Kind.{Kind}
use Rattle.starlark_lexer.specs.declared.kind.Kind.TheVariants as kinds
use Rattle.starlark_lexer.specs.Kinds.{is}
use Rattle.starlark_lexer.proofs.KindTests.{differs}
use Rattle.starlark_spec.specs.Grammar.{Derivation}
use Rattle.starlark_spec.specs.Grammar.Nonterminal.{Module, Stmt, Simple, Small, Not, Primary, Atom, TestList}
use Rattle.starlark_spec.specs.Grammar.Nonterminal.{Test as TestN, Unary as UnaryN, Suite as SuiteN, Block, Newlines, LambdaParam, Sym, DefParam}
use Rattle.starlark_spec.specs.Machine.States.{Place}
use Rattle.starlark_spec.specs.Machine.States as M
use Rattle.starlark_spec.specs.Machine.Moves.{Move, Keep, move_stmt, move_def_param, move_small, move_symbol, move_unary}
use Rattle.starlark_spec.specs.Machine.Moves.{move_atom, move_lambda_param, move_block, move_read}
use Rattle.starlark_spec.specs.Machine.Firsts.{unary_at}
use Rattle.starlark_expected.specs.declared.word.Listed.TheVariants.{LambdaParameters}
use Rattle.starlark_expected.specs.declared.word.Word.TheVariants.{Token, BlockTail, StatementTail, Test, ChoiceTail, NotTest, ListTail}
use Rattle.starlark_expected.specs.Words.{Start, follow, atom_start, primary_start, unary_start, comp_start, not_start, or_start, test_start}
use Rattle.starlark_expected.specs.Words.{lambda_param_start, symbol_start, def_param_start, small_start, simple_start, statement_start}
use Rattle.starlark_expected.specs.Words.{Reply, must, block_reply, Refused, after_reply, outcome}
use Rattle.starlark_expected.proofs.Shown.{looked, due, chain, begun}
use Rattle.starlark_expected.proofs.Moves.{Acts, by_follow, by_must, fails_so, keeps_so, takes_other, takes_so, word_or}

-- Every other kind: a clause for it is proved once for each of some seventy kinds, so it only computes the two sides.
other_statement : (p : Place Module Stmt) (k : Kind) (m : Move Module) (o : Start) → m ≡ Keep (M.read Simple (M.stmt_simple_at p)) → o ≡ simple_start k
    → Acts m k (begun o (due p) false k)
other_statement p k m o e f = rw (e, f) (keeps_so refl)

other_small : (p : Place Module Small) (k : Kind) (m : Move Module) (o : Start) → m ≡ Keep (M.read TestList (M.small_list_at p))
    → o ≡ follow (StatementTail ∷ []) (test_start k) → Acts m k (begun o (due p) false k)
other_small p k m o e f = rw (e, f) (keeps_so (sym (by_follow (test_start k) (StatementTail ∷ []) (due p) false k Refused)))

other_block : (d : Derivation Block) (n : Span) (a : Derivation Newlines) (i : Span) (p : Place Module SuiteN) (k : Kind) (m : Move Module) (r : Reply)
    → m ≡ Keep (M.read Stmt (M.block_stmt_at d (M.suite_block_at n a i p))) → r ≡ must false (follow (BlockTail ∷ []) (statement_start k))
    → Acts m k (after_reply r k (due p) (outcome (due p) false k))
other_block d n a i p k m r e f = rw (e, f) (keeps_so (sym (by_follow (statement_start k) (BlockTail ∷ []) (due p) false k (outcome (due p) false k))))

other_unary : (p : Place Module UnaryN) (k : Kind) (m : Move Module) (o : Start) → m ≡ Keep (M.read Primary (M.unary_primary_at p)) → o ≡ primary_start k
    → Acts m k (begun o (due p) (chain p) k)
other_unary p k m o e f = rw (e, f) (keeps_so refl)

pub statement_acts : (p : Place Module Stmt) (x : Lexeme) (k : Kind) → Acts (move_stmt p x k) k (begun (statement_start k) (due p) false k)
statement_acts p x kinds.Def = takes_so (λ j. refl)
statement_acts p x kinds.If = takes_so (λ j. by_must _ _ _ _ _)
statement_acts p x kinds.For = keeps_so refl
statement_acts p x k = other_statement p k (move_stmt p x k) (statement_start k) refl refl

pub def_param_acts : (p : Place Module DefParam) (x : Lexeme) (k : Kind) → Acts (move_def_param p x k) k (begun (def_param_start k) (due p) false k)
def_param_acts p x kinds.Slash = takes_so (λ j. refl)
def_param_acts p x kinds.Star = takes_so (λ j. refl)
def_param_acts p x kinds.StarStar = takes_so (λ j. refl)
def_param_acts p x kinds.Identifier = takes_so (λ j. refl)
def_param_acts p x k = fails_so

pub lambda_param_acts : (p : Place Module LambdaParam) (x : Lexeme) (k : Kind)
    → Acts (move_lambda_param p x k) k (begun (lambda_param_start k) (due p) false k)
lambda_param_acts p x kinds.Slash = takes_so (λ j. refl)
lambda_param_acts p x kinds.Star = takes_so (λ j. refl)
lambda_param_acts p x kinds.StarStar = takes_so (λ j. refl)
lambda_param_acts p x kinds.Identifier = takes_so (λ j. refl)
lambda_param_acts p x k = fails_so

pub symbol_acts : (p : Place Module Sym) (x : Lexeme) (k : Kind) → Acts (move_symbol p x k) k (begun (symbol_start k) (due p) false k)
symbol_acts p x kinds.String = takes_so (λ j. refl)
symbol_acts p x kinds.Identifier = takes_so (λ j. refl)
symbol_acts p x k = fails_so

pub small_acts : (p : Place Module Small) (x : Lexeme) (k : Kind) → Acts (move_small p x k) k (begun (small_start k) (due p) false k)
small_acts p x kinds.Return = takes_so (λ j. refl)
small_acts p x kinds.Break = takes_so (λ j. refl)
small_acts p x kinds.Continue = takes_so (λ j. refl)
small_acts p x kinds.Pass = takes_so (λ j. refl)
small_acts p x kinds.Load = takes_so (λ j. refl)
small_acts p x k = other_small p k (move_small p x k) (small_start k) refl refl

pub block_acts : (d : Derivation Block) (n : Span) (a : Derivation Newlines) (i : Span) (p : Place Module SuiteN) (x : Lexeme) (k : Kind)
    → Acts (move_block d (M.suite_block_at n a i p) x k) k (outcome (BlockTail ∷ due p) false k)
block_acts d n a i p x kinds.Newline = takes_so (λ j. refl)
block_acts d n a i p x kinds.Dedent = keeps_so refl
block_acts d n a i p x kinds.End = keeps_so refl
block_acts d n a i p x k = other_block d n a i p k (move_block d (M.suite_block_at n a i p) x k) (block_reply k) refl refl

pub test_acts : (p : Place Module TestN) (x : Lexeme) (k : Kind) (v : Bool)
    → Acts (move_read TestN p (looked k x v)) k (begun (test_start k) (due p) (chain p) k)
test_acts p x k v =
    word_or (is k kinds.Lambda) (chain p) _ _ k (Test ∷ Token kinds.Colon ∷ ListTail LambdaParameters ∷ []) (follow (ChoiceTail ∷ []) (or_start k)) (due p)
    (λ e. differs (λ j. is j kinds.Lambda) k kinds.Identifier e refl) (λ j. refl) (sym (by_follow (or_start k) (ChoiceTail ∷ []) (due p) (chain p) k Refused))

pub not_acts : (p : Place Module Not) (x : Lexeme) (k : Kind) (v : Bool) → Acts (move_read Not p (looked k x v)) k (begun (not_start k) (due p) (chain p) k)
not_acts p x k v =
    word_or (is k kinds.Not) (chain p) _ _ k (NotTest ∷ []) (comp_start k) (due p) (λ e. differs (λ j. is j kinds.Not) k kinds.Identifier e refl)
    (λ j. by_must (not_start j) (due p) false j _) refl

pub unary_acts : (p : Place Module UnaryN) (x : Lexeme) (k : Kind) → Acts (move_unary p x.span (unary_at k)) k (begun (unary_start k) (due p) (chain p) k)
unary_acts p x kinds.Plus = takes_other (chain p) (λ j. by_must _ _ _ _ _)
unary_acts p x kinds.Minus = takes_other (chain p) (λ j. by_must _ _ _ _ _)
unary_acts p x kinds.Tilde = takes_other (chain p) (λ j. by_must _ _ _ _ _)
unary_acts p x k = other_unary p k (move_unary p x.span (unary_at k)) (unary_start k) refl refl

pub atom_acts : (p : Place Module Atom) (x : Lexeme) (k : Kind) → Acts (move_atom p x k) k (begun (atom_start k) (due p) (chain p) k)
atom_acts p x kinds.Identifier = takes_so (λ j. refl)
atom_acts p x kinds.Int = takes_so (λ j. refl)
atom_acts p x kinds.Float = takes_so (λ j. refl)
atom_acts p x kinds.String = takes_so (λ j. refl)
atom_acts p x kinds.Bytes = takes_so (λ j. refl)
atom_acts p x kinds.Ellipsis = takes_so (λ j. refl)
atom_acts p x kinds.OpeningRound = takes_other (chain p) (λ j. refl)
atom_acts p x kinds.OpeningSquare = takes_other (chain p) (λ j. refl)
atom_acts p x kinds.OpeningCurly = takes_other (chain p) (λ j. refl)
atom_acts p x kinds.FStringStart = takes_other (chain p) (λ j. refl)
atom_acts p x k = fails_so
