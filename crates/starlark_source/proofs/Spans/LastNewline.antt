-- A derivation with a Newline before the Dedents at its end.
use Rattle.std.proofs.Common.{◌≡◌, ℕ, zero, suc, true, false, ◌&&◌, List as Seq, [], ◌∷◌, replicate, Some, None, refl, sym, ap, ◌∙◌}
use Rattle.std.specs.Bool.{⊤}
use Rattle.std.proofs.lemmas.Bool.{cond-true, cond-false, and_right}
use Rattle.starlark_lexer.specs.Tokens.{Text, Span, Terminal, Identifier, Newline, Dedent, OpeningRound, ClosingRound, nowhere}
use Rattle.starlark_lexer.specs.Tokens as tokens
use Rattle.starlark_tree.specs.Ast as t
use Rattle.starlark_tree.specs.Ast.{no_payload, Statement}
use Rattle.starlark_spec.specs.Grammar.{Nonterminal, Derivation, RightSide, right_side}
use Rattle.starlark_spec.specs.Grammar.RightSide.{nothing, word, ◌⨾◌, marked, tokens_end}
use Rattle.starlark_spec.specs.Grammar.Nonterminal.{Module, Stmt, For, Rest, Suite, Newlines, Block, ReturnType, Simple, Test, LoopVars, OptionalList}
use Rattle.starlark_spec.specs.Grammar.ElementKind.{def_parameters}
use Rattle.starlark_spec.specs.Grammar.Derivation.{module_none, module_newline, module_stmt, stmt_simple, stmt_def, stmt_if, stmt_for, for_loop, rest_none}
use Rattle.starlark_spec.specs.Grammar.Derivation.{rest_elif, rest_else, suite_simple, suite_block, suite_open, block_first, block_newline, block_stmt}
use Rattle.starlark_spec.specs.Grammar.Derivation.{simple_line, simple_semicolon}
use Rattle.starlark_spec.specs.Trees.{target_of, tree}
use Rattle.starlark_source.specs.SourceTokens.{is_dedent, only_dedents, with_last_newline}
use Rattle.starlark_source.specs.Unspanned.{unspanned, unspanned_statement, unspanned_parameters, unspanned_type, unspanned_target}
use Rattle.starlark_source.proofs.ReadBack.Writing.{side_tokens, IsFine}
use Rattle.starlark_source.proofs.Spans.Trees.{seen, if_same, block_same, snoc_same}

-- ---- tokens at the end

abbrev pub dedents : ℕ → Seq Terminal
dedents k = replicate k Dedent

only_them : (k : ℕ) → only_dedents (dedents k) ≡ true
only_them zero = refl
only_them (suc k) = only_them k

before_them : (k : ℕ) → with_last_newline (dedents k) ≡ Newline ∷ dedents k
before_them zero = refl
before_them (suc k) = cond-true (only_dedents (replicate k Dedent)) _ _ (only_them k)

side_some : (a : RightSide) (us : Seq Terminal) → only_dedents us ≡ false → only_dedents (side_tokens a us) ≡ false
side_some nothing us h = h
side_some (word x s) us h = and_right (is_dedent x) (only_dedents us) h
side_some (a ⨾ b) us h = side_some a (side_tokens b us) (side_some b us h)
side_some (marked x a) us h = side_some a us h
side_some tokens_end us h = h

-- what comes before tokens other than Dedents is unchanged
last_in : (a : RightSide) (us : Seq Terminal) → only_dedents us ≡ false → with_last_newline (side_tokens a us) ≡ side_tokens a (with_last_newline us)
last_in nothing us h = refl
last_in (word x s) us h = cond-false (is_dedent x && only_dedents us) _ _ (and_right (is_dedent x) (only_dedents us) h)
last_in (a ⨾ b) us h = last_in a (side_tokens b us) (side_some b us h) ∙ ap (side_tokens a) (last_in b us h)
last_in (marked x a) us h = last_in a us h
last_in tokens_end us h = refl

-- ---- how a derivation ends

abbrev pub Grown : {n : Nonterminal} → Derivation n → Derivation n → Type 0
Grown d e = (k : ℕ) → with_last_newline (side_tokens (right_side d) (dedents k)) ≡ side_tokens (right_side e) (dedents k)

abbrev pub Plain : {n : Nonterminal} → Derivation n → Type 0
Plain d = (k : ℕ) → with_last_newline (side_tokens (right_side d) (dedents k)) ≡ side_tokens (right_side d) (Newline ∷ dedents k)

-- in Dedents, before which a Newline fits into it, or in another token
pub data Finish {n : Nonterminal} (d : Derivation n) : Type 0 where
  grows : (e : Derivation n) → Grown d e → IsFine (right_side e) → seen n (tree e) ≡ seen n (tree d) → Finish d
  stays : Plain d → Finish d

pub data FinishRest : Derivation Rest → Type 0 where
  without : FinishRest rest_none
  with_rest : {d : Derivation Rest} → Finish d → ((us : Seq Terminal) → only_dedents (side_tokens (right_side d) us) ≡ false) → FinishRest d

abbrev pub EndOf : (n : Nonterminal) → Derivation n → Type 0
EndOf Module d = Finish d
EndOf Stmt d = Finish d
EndOf For d = Finish d
EndOf Rest d = FinishRest d
EndOf Suite d = Finish d
EndOf Block d = Finish d
EndOf _ d = ⊤

newline_last : (a : RightSide) (s : Span) (k : ℕ) → with_last_newline (side_tokens (a ⨾ word Newline s) (dedents k))
    ≡ side_tokens (a ⨾ word Newline s) (Newline ∷ dedents k)
newline_last a s k = last_in a (Newline ∷ dedents k) refl ∙ ap (λ us. side_tokens a (Newline ∷ us)) (before_them k)

simple_plain : (d : Derivation Simple) → Plain d
simple_plain (simple_line smalls s) k = newline_last (right_side smalls) s k
simple_plain (simple_semicolon smalls r s) k =
    last_in (right_side smalls) _ refl ∙ ap (λ us. side_tokens (right_side smalls) (tokens.Semicolon ∷ Newline ∷ us)) (before_them k)

simple_some : (d : Derivation Simple) (us : Seq Terminal) → only_dedents (side_tokens (right_side d) us) ≡ false
simple_some (simple_line smalls s) us = side_some (right_side smalls) (Newline ∷ us) refl
simple_some (simple_semicolon smalls r s) us = side_some (right_side smalls) (tokens.Semicolon ∷ Newline ∷ us) refl

stmt_some : (d : Derivation Stmt) (us : Seq Terminal) → only_dedents (side_tokens (right_side d) us) ≡ false
stmt_some (stmt_simple d) us = simple_some d us
stmt_some (stmt_def f w r o ps c ty k suite) us = refl
stmt_some (stmt_if f e k suite rest) us = refl
stmt_some (stmt_for (for_loop f v r e k suite)) us = refl

suite_some : (d : Derivation Suite) (us : Seq Terminal) → only_dedents (side_tokens (right_side d) us) ≡ false
suite_some (suite_simple d) us = simple_some d us
suite_some (suite_block r ns s block q) us = refl
suite_some (suite_open r ns s block) us = refl

-- what comes before what ends like this
grown_after : (a : RightSide) {n : Nonterminal} (d e : Derivation n) → ((us : Seq Terminal) → only_dedents (side_tokens (right_side d) us) ≡ false)
    → Grown d e
    → (k : ℕ) → with_last_newline (side_tokens a (side_tokens (right_side d) (dedents k))) ≡ side_tokens a (side_tokens (right_side e) (dedents k))
grown_after a d e some h k = last_in a (side_tokens (right_side d) (dedents k)) (some (dedents k)) ∙ ap (side_tokens a) (h k)

plain_after : (a : RightSide) {n : Nonterminal} (d : Derivation n) → ((us : Seq Terminal) → only_dedents (side_tokens (right_side d) us) ≡ false) → Plain d
    → (k : ℕ) → with_last_newline (side_tokens a (side_tokens (right_side d) (dedents k))) ≡ side_tokens a (side_tokens (right_side d) (Newline ∷ dedents k))
plain_after a d some h k = last_in a (side_tokens (right_side d) (dedents k)) (some (dedents k)) ∙ ap (side_tokens a) (h k)

-- ---- each way to end

block_some : (d : Derivation Block) (us : Seq Terminal) → only_dedents (side_tokens (right_side d) us) ≡ false
block_some (block_first ns stmt) us = side_some (right_side ns) _ (stmt_some stmt us)
block_some (block_newline block s) us = side_some (right_side block) (Newline ∷ us) refl
block_some (block_stmt block stmt) us = side_some (right_side block) _ (stmt_some stmt us)

def_ends : (f : Span) (w : Text) (r o : Span) (ps : Derivation (OptionalList def_parameters)) (q : Span) (ty : Derivation ReturnType) (k : Span)
    (suite : Derivation Suite)
    → IsFine (right_side (stmt_def f w r o ps q ty k suite)) → Finish suite → Finish (stmt_def f w r o ps q ty k suite)
def_ends f w r o ps q ty k suite c (grows e h fine looks) =
    let a = word tokens.Def f ⨾ word (Identifier w) r ⨾ word OpeningRound o ⨾ right_side ps ⨾ word ClosingRound q ⨾ right_side ty ⨾ word tokens.Colon k in
    grows (stmt_def f w r o ps q ty k e) (grown_after a suite e (suite_some suite) h) (tt, (tt, (tt, (c.1.1.1.0, (tt, (c.1.1.1.1.1.0, (tt, fine)))))))
    (λ i. t.statement nowhere (t.Def (record { text = w; span = nowhere }) tt (unspanned_parameters (t.parameters_of (tree ps))) (unspanned_type (tree ty))
    (looks i) tt))
def_ends f w r o ps q ty k suite c (stays h) =
    let a = word tokens.Def f ⨾ word (Identifier w) r ⨾ word OpeningRound o ⨾ right_side ps ⨾ word ClosingRound q ⨾ right_side ty ⨾ word tokens.Colon k in
    stays (plain_after a suite (suite_some suite) h)

if_ends : (f : Span) (e : Derivation Test) (k : Span) (suite : Derivation Suite) (rest : Derivation Rest) → IsFine (right_side (stmt_if f e k suite rest))
    → FinishRest rest → Finish suite
    → Finish (stmt_if f e k suite rest)
if_ends f e k suite rest_none c without (grows s h fine looks) =
    grows (stmt_if f e k s rest_none) (grown_after (word tokens.If f ⨾ right_side e ⨾ word tokens.Colon k) suite s (suite_some suite) h)
    (tt, (c.1.0, (tt, (fine, tt))))
    (if_same nowhere nowhere (tree e) (tree e) (tree s) (tree suite) None None refl looks refl)
if_ends f e k suite rest_none c without (stays h) =
    stays (plain_after (word tokens.If f ⨾ right_side e ⨾ word tokens.Colon k) suite (suite_some suite) h)
if_ends f e k suite rest c (with_rest (grows r h fine looks) some) s =
    grows (stmt_if f e k suite r) (grown_after (word tokens.If f ⨾ right_side e ⨾ word tokens.Colon k ⨾ right_side suite) rest r some h)
    (tt, (c.1.0, (tt, (c.1.1.1.0, fine))))
    (if_same nowhere nowhere (tree e) (tree e) (tree suite) (tree suite) (tree r) (tree rest) refl refl looks)
if_ends f e k suite rest c (with_rest (stays h) some) s =
    stays (plain_after (word tokens.If f ⨾ right_side e ⨾ word tokens.Colon k ⨾ right_side suite) rest some h)

elif_ends : (f : Span) (e : Derivation Test) (k : Span) (suite : Derivation Suite) (rest : Derivation Rest)
    → IsFine (right_side (rest_elif f e k suite rest)) → FinishRest rest → Finish suite
    → Finish (rest_elif f e k suite rest)
elif_ends f e k suite rest_none c without (grows s h fine looks) =
    grows (rest_elif f e k s rest_none) (grown_after (word tokens.Elif f ⨾ right_side e ⨾ word tokens.Colon k) suite s (suite_some suite) h)
    (tt, (c.1.0, (tt, (fine, tt))))
    (ap (λ x. Some x) (if_same nowhere nowhere (tree e) (tree e) (tree s) (tree suite) None None refl looks refl))
elif_ends f e k suite rest_none c without (stays h) =
    stays (plain_after (word tokens.Elif f ⨾ right_side e ⨾ word tokens.Colon k) suite (suite_some suite) h)
elif_ends f e k suite rest c (with_rest (grows r h fine looks) some) s =
    grows (rest_elif f e k suite r) (grown_after (word tokens.Elif f ⨾ right_side e ⨾ word tokens.Colon k ⨾ right_side suite) rest r some h)
    (tt, (c.1.0, (tt, (c.1.1.1.0, fine))))
    (ap (λ x. Some x) (if_same nowhere nowhere (tree e) (tree e) (tree suite) (tree suite) (tree r) (tree rest) refl refl looks))
elif_ends f e k suite rest c (with_rest (stays h) some) s =
    stays (plain_after (word tokens.Elif f ⨾ right_side e ⨾ word tokens.Colon k ⨾ right_side suite) rest some h)

else_ends : (f k : Span) (suite : Derivation Suite) → Finish suite → Finish (rest_else f k suite)
else_ends f k suite (grows s h fine looks) =
    grows (rest_else f k s) (grown_after (word tokens.Else f ⨾ word tokens.Colon k) suite s (suite_some suite) h) (tt, (tt, fine)) (ap (λ x. Some x) looks)
else_ends f k suite (stays h) = stays (plain_after (word tokens.Else f ⨾ word tokens.Colon k) suite (suite_some suite) h)

for_ends : (f : Span) (v : Derivation LoopVars) (r : Span) (e : Derivation Test) (k : Span) (suite : Derivation Suite)
    → IsFine (right_side (for_loop f v r e k suite)) → Finish suite
    → Finish (for_loop f v r e k suite)
for_ends f v r e k suite c (grows s h fine looks) =
    grows (for_loop f v r e k s) (grown_after (word tokens.For f ⨾ right_side v ⨾ word tokens.In r ⨾ right_side e ⨾ word tokens.Colon k) suite s
    (suite_some suite) h)
    (c.0, (tt, (c.1.1.0, (tt, (c.1.1.1.1.0, (tt, fine))))))
    (λ i. t.statement nowhere (t.For (unspanned_target (target_of (tree v))) (unspanned (tree e)) (looks i)))
for_ends f v r e k suite c (stays h) =
    stays (plain_after (word tokens.For f ⨾ right_side v ⨾ word tokens.In r ⨾ right_side e ⨾ word tokens.Colon k) suite (suite_some suite) h)

of_for : (d : Derivation For) → Finish d → Finish (stmt_for d)
of_for d (grows e h fine looks) = grows (stmt_for e) h fine looks
of_for d (stays h) = stays h

block_ends : (r : Span) (ns : Derivation Newlines) (s : Span) (block : Derivation Block) (q : Span) → IsFine (right_side (suite_block r ns s block q))
    → Finish block
    → Finish (suite_block r ns s block q)
block_ends r ns s block q c (grows b h fine looks) =
    let a = word Newline r ⨾ right_side ns ⨾ word tokens.Indent s in
    grows (suite_block r ns s b q) (λ k. last_in a (side_tokens (right_side block) (dedents (suc k))) (block_some block (dedents (suc k)))
    ∙ ap (side_tokens a) (h (suc k)))
    (tt, (c.1.0, (tt, (fine, tt)))) (block_same _ _ (tree b) (tree block) looks)
block_ends r ns s block q c (stays h) =
    let a = word Newline r ⨾ right_side ns ⨾ word tokens.Indent s in
    grows (suite_block r ns s (block_newline block nowhere) q)
    (λ k. last_in a (side_tokens (right_side block) (dedents (suc k))) (block_some block (dedents (suc k))) ∙ ap (side_tokens a) (h (suc k)))
    (tt, (c.1.0, (tt, ((c.1.1.1.0, tt), tt)))) (block_same _ _ (tree block) (tree block) refl)

first_ends : (ns : Derivation Newlines) (stmt : Derivation Stmt) → IsFine (right_side (block_first ns stmt)) → Finish stmt → Finish (block_first ns stmt)
first_ends ns stmt c (grows e h fine looks) =
    grows (block_first ns e) (grown_after (right_side ns) stmt e (stmt_some stmt) h) (c.0, fine) (ap (λ x. x ∷ []) looks)
first_ends ns stmt c (stays h) = stays (plain_after (right_side ns) stmt (stmt_some stmt) h)

next_ends : (block : Derivation Block) (stmt : Derivation Stmt) → IsFine (right_side (block_stmt block stmt)) → Finish stmt → Finish (block_stmt block stmt)
next_ends block stmt c (grows e h fine looks) =
    grows (block_stmt block e) (grown_after (right_side block) stmt e (stmt_some stmt) h) (c.0, fine)
    (snoc_same (λ x. unspanned_statement x) (tree block) (tree block) (tree e) (tree stmt) refl looks)
next_ends block stmt c (stays h) = stays (plain_after (right_side block) stmt (stmt_some stmt) h)

more_ends : (before : Derivation Module) (stmt : Derivation Stmt) → IsFine (right_side (module_stmt before stmt)) → Finish stmt
    → Finish (module_stmt before stmt)
more_ends before stmt c (grows e h fine looks) =
    grows (module_stmt before e) (grown_after (right_side before) stmt e (stmt_some stmt) h) (c.0, fine)
    (snoc_same (λ x. unspanned_statement x) (tree before) (tree before) (tree e) (tree stmt) refl looks)
more_ends before stmt c (stays h) = stays (plain_after (right_side before) stmt (stmt_some stmt) h)

-- ---- derivations

pub end_of : {n : Nonterminal} (d : Derivation n) → IsFine (right_side d) → EndOf n d
end_of module_none c = stays (λ k. before_them k)
end_of (module_newline before s) c = stays (λ k. newline_last (right_side before) s k)
end_of (module_stmt before stmt) c = more_ends before stmt c (end_of stmt c.1)
end_of (stmt_simple d) c = stays (simple_plain d)
end_of (stmt_def f w r o ps q ty k suite) c = def_ends f w r o ps q ty k suite c (end_of suite c.1.1.1.1.1.1.1)
end_of (stmt_if f e k suite rest) c = if_ends f e k suite rest c (end_of rest c.1.1.1.1) (end_of suite c.1.1.1.0)
end_of (stmt_for d) c = of_for d (end_of d c)
end_of (for_loop f v r e k suite) c = for_ends f v r e k suite c (end_of suite c.1.1.1.1.1.1)
end_of rest_none c = without
end_of (rest_elif f e k suite rest) c = with_rest (elif_ends f e k suite rest c (end_of rest c.1.1.1.1) (end_of suite c.1.1.1.0)) (λ us. refl)
end_of (rest_else f k suite) c = with_rest (else_ends f k suite (end_of suite c.1.1)) (λ us. refl)
end_of (suite_simple d) c = stays (simple_plain d)
end_of (suite_block r ns s block q) c = block_ends r ns s block q c (end_of block c.1.1.1.0)
end_of (suite_open r ns s block) c = absurd c.1.1.1.1
end_of (block_first ns stmt) c = first_ends ns stmt c (end_of stmt c.1)
end_of (block_newline block s) c = stays (λ k. newline_last (right_side block) s k)
end_of (block_stmt block stmt) c = next_ends block stmt c (end_of stmt c.1)
end_of _ c = tt

-- a module with a Newline before the Dedents at its end
pub record Ended (d : Derivation Module) : Type 0 where
  pub derivation : Derivation Module
  pub fine : IsFine (right_side derivation)
  pub tokens : side_tokens (right_side derivation) [] ≡ with_last_newline (side_tokens (right_side d) [])
  pub looks : seen Module (tree derivation) ≡ seen Module (tree d)

finished : (d : Derivation Module) → IsFine (right_side d) → Finish d → Ended d
finished d c (grows e h fine looks) = record { derivation = e; fine = fine; tokens = sym (h 0); looks = looks }
finished d c (stays h) = record { derivation = module_newline d nowhere; fine = (c, tt); tokens = sym (h 0); looks = refl }

pub ended : (d : Derivation Module) → IsFine (right_side d) → Ended d
ended d c = finished d c (end_of d c)
