-- Lines, blocks and what has blocks are read back.
use Rattle.std.proofs.Common.{◌≡◌, ℕ, ◌+◌, List as Seq, [], ◌∷◌, ◌++◌, Option, Some, None, refl, sym, ap, ◌∙◌, subst, append_assoc, append-nil}
use Rattle.std.proofs.lemmas.List.{map-append}
use Rattle.starlark_lexer.specs.Tokens.{Span, Terminal, nowhere}
use Rattle.starlark_lexer.specs.Tokens as tokens
use Rattle.starlark_tree.specs.Ast.{no_payload, Statement}
use Rattle.starlark_spec.specs.Grammar.Nonterminal.{Rest, Suite, Block}
use Rattle.starlark_spec.specs.Grammar.Derivation.{rest_none, rest_else, suite_block, newlines_none, block_first, block_stmt}
use Rattle.starlark_spec.specs.Trees.{tree, one_or_block}
use Rattle.starlark_source.specs.Pieces.{Pieces, token}
use Rattle.starlark_source.specs.Lines.{Place, as_line, as_block, as_rest, suite, at_place, margin}
use Rattle.starlark_source.specs.Unspanned.{unspanned_statement}
use Rattle.starlark_source.proofs.ReadBack.Writing.{Sayable, split, Reads, one, followed, after, spaced, none_written, reads_as}
use Rattle.starlark_source.proofs.ReadBack.Smalls.{all_unspanned, Says, one_or_all}

-- statements one after another
pub data Written : Pieces → Seq (Statement no_payload) → Type 0 where
  nothing_more : Written [] []
  then_more : {ps qs : Pieces} {x : Statement no_payload} {xs : Seq (Statement no_payload)} → Says ps x → Written qs xs → Written (ps ++ qs) (x ∷ xs)

-- pieces are the lines of a block: a statement, or several
pub record Lays (ps : Pieces) (m : Statement no_payload) : Type 0 where
  pub first : Statement no_payload
  pub others : Seq (Statement no_payload)
  pub written : Written ps (first ∷ others)
  pub is : one_or_block nowhere (first ∷ others) ≡ m

pub lays_one : {ps : Pieces} {m : Statement no_payload} → Says ps m → Lays ps m
lays_one {ps = ps} {m = m} a = record {
  first = m;
  others = [];
  written = subst (λ qs. Written qs (m ∷ [])) (append-nil ps) (then_more a nothing_more);
  is = refl;
}

-- ---- blocks

abbrev Blocks : Pieces → Seq (Statement no_payload) → Type 0
Blocks ps xs = Reads Block all_unspanned ps xs

first_of_block : {ps : Pieces} {x : Statement no_payload} → Says ps x → Blocks ps (x ∷ [])
first_of_block a = record { derivation = block_first newlines_none a.derivation; writes = followed none_written a.writes; looks = ap (λ y. y ∷ []) a.looks }

next_of_block : {ps qs : Pieces} {xs : Seq (Statement no_payload)} {y : Statement no_payload}
    → Blocks ps xs → Says qs y → Blocks (ps ++ qs) (xs ++ y ∷ [])
next_of_block b a = record {
  derivation = block_stmt b.derivation a.derivation;
  writes = followed b.writes a.writes;
  looks = map-append (λ v. unspanned_statement v) (tree b.derivation) (tree a.derivation ∷ []) ∙ (λ i. b.looks i ++ a.looks i ∷ []);
}

rest_of_block : {ps qs : Pieces} {xs ys : Seq (Statement no_payload)} → Blocks ps xs → Written qs ys → Blocks (ps ++ qs) (xs ++ ys)
rest_of_block {ps = ps} {xs = xs} b nothing_more = reads_as (sym (append-nil ps)) (sym (append-nil xs)) b
rest_of_block {ps = ps} {xs = xs} b (then_more {ps = qs} {qs = rs} {x = y} {xs = ys} a more) =
    reads_as (append_assoc ps qs rs) (append_assoc xs (y ∷ []) ys) (rest_of_block (next_of_block b a) more)

whole_block : {ps : Pieces} {x : Statement no_payload} {xs : Seq (Statement no_payload)} → Written ps (x ∷ xs) → Blocks ps (x ∷ xs)
whole_block (then_more a more) = rest_of_block (first_of_block a) more

-- ---- what comes after a colon

abbrev Suites : Pieces → Statement no_payload → Type 0
Suites ps m = Reads Suite (λ v. unspanned_statement v) (token tokens.Newline ∷ token tokens.Indent ∷ (ps ++ token tokens.Dedent ∷ [])) m

pub suite_read : {ps : Pieces} {m : Statement no_payload} → Lays ps m → Suites ps m
suite_read l =
    let b = whole_block l.written in
    record {
      derivation = suite_block nowhere newlines_none nowhere b.derivation nowhere;
      writes = after (followed none_written (after (followed b.writes one)));
      looks = one_or_all _ (tree b.derivation) ∙ ap (one_or_block nowhere) b.looks ∙ l.is;
    }

abbrev pub seen_rest : Option (Statement no_payload) → Option (Statement no_payload)
seen_rest None = None
seen_rest (Some m) = Some (unspanned_statement m)

-- pieces are what comes after the block of an `if`
abbrev pub Rests : Pieces → Option (Statement no_payload) → Type 0
Rests ps m = Reads Rest seen_rest ps m

pub no_rest : Rests [] None
no_rest = record { derivation = rest_none; writes = none_written; looks = refl }

pub else_read : (depth : ℕ) {ps : Pieces} {m : Statement no_payload} → Lays ps m → Rests (margin depth ++ (token tokens.Else ∷ suite ps)) (Some m)
else_read depth l =
    let body = suite_read l in
    record { derivation = rest_else nowhere nowhere body.derivation; writes = spaced _ (after (after body.writes)); looks = ap Some body.looks }

-- ---- what is at a place

abbrev pub ReadsAt : Place → Pieces → Statement no_payload → Type 0
ReadsAt as_line ps m = Says ps m
ReadsAt as_block ps m = Lays ps m
ReadsAt as_rest ps m = Rests ps (Some m)

-- the lines of a statement, of whatever depth
pub placed : (place : Place) (depth : ℕ) (lines_at : ℕ → Pieces) {m : Statement no_payload}
    → ((d : ℕ) → Sayable (lines_at d) → Says (lines_at d) m)
    → Sayable (at_place place depth lines_at) → ReadsAt place (at_place place depth lines_at) m
placed as_line depth lines_at says h = says depth h
placed as_block depth lines_at says h = lays_one (says depth h)
placed as_rest depth lines_at says h = else_read depth (lays_one (says (depth + 1) (split (lines_at (depth + 1)) _ h).0))
