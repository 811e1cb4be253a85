-- Statements that have blocks are read back, wherever they are.
use Rattle.std.proofs.Common.{◌≡◌, ℕ, ◌+◌, true, [], ◌∷◌, ◌++◌, flat_map, Option, Some, None, refl, ap, ◌∙◌, subst, append-nil}
use Rattle.starlark_lexer.specs.Tokens.{Span, Terminal, nowhere}
use Rattle.starlark_lexer.specs.Tokens as tokens
use Rattle.starlark_tree.specs.Ast as t
use Rattle.starlark_tree.specs.Ast.{no_payload, Word, Expression, Target, MaybeType, Parameters, Form, Statement, statement, Statements, statement_list}
use Rattle.starlark_tree.specs.Ast.{parameters_of}
use Rattle.starlark_spec.specs.Targets.{target}
use Rattle.starlark_spec.specs.Grammar.{RightSide}
use Rattle.starlark_spec.specs.Grammar.RightSide.{word, ◌⨾◌}
use Rattle.starlark_spec.specs.Grammar.Nonterminal.{Test}
use Rattle.starlark_spec.specs.Grammar.Derivation.{stmt_def, stmt_if, stmt_for, for_loop, rest_elif}
use Rattle.starlark_spec.specs.Trees.{tree, if_form}
use Rattle.starlark_source.specs.Pieces.{Pieces, token, listed, in_round}
use Rattle.starlark_source.specs.Literals.{name}
use Rattle.starlark_source.specs.Source.{test, target_source, parameter_sources}
use Rattle.starlark_source.specs.Lines.{Place, as_line, as_block, as_rest, if_word, suite, at_place, margin, tested, looped, defined, lines, form_lines}
use Rattle.starlark_source.specs.Lines.{block, all_lines, small, line}
use Rattle.starlark_source.specs.Unspanned.{unspanned, unspanned_word, unspanned_target, unspanned_parameters, unspanned_type, unspanned_form}
use Rattle.starlark_source.specs.Unspanned.{unspanned_statement, unspanned_statements}
use Rattle.starlark_source.specs.ReadsBack.{HasNoEmptyBlock, FormHasNoEmptyBlock, HaveNoEmptyBlock}
use Rattle.starlark_source.proofs.ReadBack.Writing.{Sayable, split, Writes, Reads, one, followed, after, spaced, after_sign, name_written}
use Rattle.starlark_source.proofs.ReadBack.Productions.{aims_well, aims_at}
use Rattle.starlark_source.proofs.ReadBack.Expressions.{test_read, vars_read}
use Rattle.starlark_source.proofs.ReadBack.Heads.{parameters_read, return_type_read}
use Rattle.starlark_source.proofs.ReadBack.Smalls.{all_unspanned, Says, listed_each, one_line, line_of}
use Rattle.starlark_source.proofs.ReadBack.Suites.{Written, nothing_more, then_more, Lays, lays_one, suite_read, seen_rest, Rests, no_rest, else_read}
use Rattle.starlark_source.proofs.ReadBack.Suites.{ReadsAt, placed}

-- ---- conditions

pub if_seen : (e : Expression no_payload) (m : Statement no_payload) (rest : Option (Statement no_payload))
    → unspanned_form (if_form e m rest) ≡ if_form (unspanned e) (unspanned_statement m) (seen_rest rest)
if_seen e m None = refl
if_seen e m (Some other) = refl

branch_written : {t : Terminal} {tested_side body_side more_side : RightSide} (e : Expression no_payload) (body : Pieces) {more : Pieces}
    → Writes tested_side (test e) → Writes body_side (token tokens.Newline ∷ token tokens.Indent ∷ (body ++ token tokens.Dedent ∷ []))
    → Writes more_side more
    → Writes (word t nowhere ⨾ tested_side ⨾ word tokens.Colon nowhere ⨾ body_side ⨾ more_side) ((tested t e ++ suite body) ++ more)
branch_written e body a b c =
    let all = followed (after {s = nowhere} (spaced 1 (followed a (after {s = nowhere} b)))) c in
    record { fine = (tt, (a.fine, (tt, (b.fine, c.fine)))); tokens = λ rest. all.tokens rest }

-- an `if` or an `elif`, with what comes after its block
branch_read : (place : Place) (depth : ℕ) (e : Expression no_payload) {body more : Pieces} {m : Statement no_payload} {rest : Option (Statement no_payload)}
    → Reads Test (λ v. unspanned v) (test e) (unspanned e) → Lays body m → Rests more rest
    → ReadsAt place ((margin depth ++ (tested (if_word place) e ++ suite body)) ++ more) (statement nowhere (if_form (unspanned e) m rest))
branch_read as_line depth e {body = body} a l c =
    let b = suite_read l in
    record {
      derivation = stmt_if nowhere a.derivation nowhere b.derivation c.derivation;
      writes = spaced _ (branch_written e body a.writes b.writes c.writes);
      looks = ap (λ f. statement nowhere f) (if_seen (tree a.derivation) (tree b.derivation) (tree c.derivation))
          ∙ (λ i. statement nowhere (if_form (a.looks i) (b.looks i) (c.looks i)));
    }
branch_read as_block depth e {body = body} a l c =
    let b = suite_read l in
    lays_one (record {
      derivation = stmt_if nowhere a.derivation nowhere b.derivation c.derivation;
      writes = spaced _ (branch_written e body a.writes b.writes c.writes);
      looks = ap (λ f. statement nowhere f) (if_seen (tree a.derivation) (tree b.derivation) (tree c.derivation))
          ∙ (λ i. statement nowhere (if_form (a.looks i) (b.looks i) (c.looks i)));
    })
branch_read as_rest depth e {body = body} a l c =
    let b = suite_read l in
    record {
      derivation = rest_elif nowhere a.derivation nowhere b.derivation c.derivation;
      writes = spaced _ (branch_written e body a.writes b.writes c.writes);
      looks = ap (λ f. Some (statement nowhere f)) (if_seen (tree a.derivation) (tree b.derivation) (tree c.derivation))
          ∙ (λ i. Some (statement nowhere (if_form (a.looks i) (b.looks i) (c.looks i))));
    }

if_then_read : (place : Place) (depth : ℕ) (e : Expression no_payload) (body : Pieces) {m : Statement no_payload}
    → Sayable (margin depth ++ (tested (if_word place) e ++ suite body)) → (Sayable body → Lays body m)
    → ReadsAt place (margin depth ++ (tested (if_word place) e ++ suite body)) (statement nowhere (t.IfThen (unspanned e) m))
if_then_read place depth e body {m = m} h l =
    let parts = split (test e) _ h in
    subst (λ ps. ReadsAt place ps (statement nowhere (t.IfThen (unspanned e) m))) (append-nil (margin depth ++ (tested (if_word place) e ++ suite body)))
    (branch_read place depth e (test_read e parts.0) (l (split body _ parts.1).0) no_rest)

if_else_read : (place : Place) (depth : ℕ) (e : Expression no_payload) (body more : Pieces) {m other : Statement no_payload}
    → Sayable ((margin depth ++ (tested (if_word place) e ++ suite body)) ++ more)
    → (Sayable body → Lays body m) → (Sayable more → Rests more (Some other))
    → ReadsAt place ((margin depth ++ (tested (if_word place) e ++ suite body)) ++ more) (statement nowhere (t.IfElse (unspanned e) m other))
if_else_read place depth e body more h l c =
    let all = split (margin depth ++ (tested (if_word place) e ++ suite body)) more h in
    let parts = split (test e) _ all.0 in
    branch_read place depth e (test_read e parts.0) (l (split body _ parts.1).0) (c all.1)

-- ---- loops and definitions

loop_read : (depth : ℕ) (x : Target no_payload) (e : Expression no_payload) (body : Pieces) {m : Statement no_payload}
    → Sayable (margin depth ++ (looped x e ++ suite body)) → (Sayable body → Lays body m)
    → Says (margin depth ++ (looped x e ++ suite body)) (statement nowhere (t.For (unspanned_target x) (unspanned e) m))
loop_read depth x e body h l =
    let all = split (looped x e) _ h in
    let parts = split (target_source true x) _ all.0 in
    let v = vars_read x parts.0 in
    let a = test_read e parts.1 in
    let b = suite_read (l (split body _ all.1).0) in
    let w = followed (after {s = nowhere} (spaced 1 (followed v.writes (after_sign {s = nowhere} a.writes)))) (after {s = nowhere} b.writes) in
    record {
      derivation = stmt_for (for_loop nowhere v.derivation nowhere a.derivation nowhere b.derivation);
      writes = record {
        fine = (aims_well (target (tree v.derivation)) v.looks, (tt, (v.writes.fine, (tt, (a.writes.fine, (tt, b.writes.fine))))));
        tokens =
            λ rest. w.tokens rest;
      };
      looks = λ i. statement nowhere (t.For (aims_at (target (tree v.derivation)) v.looks i) (a.looks i) (b.looks i));
    }

def_read : (depth : ℕ) (w : Word) (ps : Parameters no_payload) (ty : MaybeType no_payload) (body : Pieces) {m : Statement no_payload}
    → Sayable (margin depth ++ (defined w ps ty ++ suite body)) → (Sayable body → Lays body m)
    → Says (margin depth ++ (defined w ps ty ++ suite body))
    (statement nowhere (t.Def (unspanned_word w) tt (unspanned_parameters ps) (unspanned_type ty) m tt))
def_read depth w ps ty body h l =
    let all = split (defined w ps ty) _ h in
    let parts = split (name w) _ all.0 in
    let signature = split (in_round (listed (parameter_sources ps))) _ parts.1 in
    let p = parameters_read ps (split (listed (parameter_sources ps)) _ signature.0).0 in
    let y = return_type_read ty signature.1 in
    let b = suite_read (l (split body _ all.1).0) in
    let in_brackets = after {s = nowhere} (followed p.writes (one {s = nowhere})) in
    let signed = followed (name_written w nowhere parts.0) (followed in_brackets y.writes) in
    let whole = followed (after {s = nowhere} (spaced 1 signed)) (after {s = nowhere} b.writes) in
    record {
      derivation = stmt_def nowhere w.text nowhere nowhere p.derivation nowhere y.derivation nowhere b.derivation;
      writes = record { fine = (tt, (tt, (tt, (p.writes.fine, (tt, (y.writes.fine, (tt, b.writes.fine))))))); tokens = λ rest. whole.tokens rest };
      looks = λ i. statement nowhere (t.Def (unspanned_word w) tt (p.looks i) (y.looks i) (b.looks i) tt);
    }

-- ---- several statements

block_read : (depth : ℕ) (s : Span) (a : Statement no_payload) (ss : Statements no_payload) → Sayable (block depth s (t.statements a ss))
    → (Sayable (flat_map (λ more. more) (all_lines depth (t.statements a ss)))
    → Written (flat_map (λ more. more) (all_lines depth (t.statements a ss))) (all_unspanned (statement_list (t.statements a ss))))
    → Lays (block depth s (t.statements a ss)) (statement nowhere (t.Block (unspanned_statements (t.statements a ss))))
block_read depth s a t.no_statements h all = absurd h
block_read depth s a (t.statements b ss) h all = record {
  first = unspanned_statement a;
  others = all_unspanned (statement_list (t.statements b ss));
  written = all h;
  is = ap (λ l. statement nowhere (t.Block l)) (listed_each (t.statements a (t.statements b ss)));
}

several_read : (place : Place) (depth : ℕ) (s : Span) (a : Statement no_payload) (ss : Statements no_payload)
    → Sayable (form_lines place depth s (t.Block (t.statements a ss)))
    → ((d : ℕ) → Sayable (flat_map (λ more. more) (all_lines d (t.statements a ss)))
    → Written (flat_map (λ more. more) (all_lines d (t.statements a ss))) (all_unspanned (statement_list (t.statements a ss))))
    → ReadsAt place (form_lines place depth s (t.Block (t.statements a ss))) (statement nowhere (t.Block (unspanned_statements (t.statements a ss))))
several_read as_line depth s a ss h all = line_of depth s (t.statements a ss) h
several_read as_block depth s a ss h all = block_read depth s a ss h (all depth)
several_read as_rest depth s a ss h all =
    else_read depth (block_read (depth + 1) s a ss (split (block (depth + 1) s (t.statements a ss)) _ h).0 (all (depth + 1)))

-- ---- statements

small_at : (place : Place) (depth : ℕ) (s : Span) (form : Form no_payload) → Sayable (at_place place depth (λ d. line d (small s form)))
    → ReadsAt place (at_place place depth (λ d. line d (small s form))) (statement nowhere (unspanned_form form))
small_at place depth s form h = placed place depth (λ d. line d (small s form)) (λ d g. one_line d s form g) h

mutual
  pub statement_read : (place : Place) (depth : ℕ) (m : Statement no_payload) → Sayable (lines place depth m) → HasNoEmptyBlock m
      → ReadsAt place (lines place depth m) (unspanned_statement m)
  statement_read place depth (statement s form) h o = form_read place depth s form h o

  pub form_read : (place : Place) (depth : ℕ) (s : Span) (form : Form no_payload) → Sayable (form_lines place depth s form) → FormHasNoEmptyBlock form
      → ReadsAt place (form_lines place depth s form) (statement nowhere (unspanned_form form))
  form_read place depth s (t.Block t.no_statements) h o = absurd o
  form_read place depth s (t.Block (t.statements a ss)) h o =
      several_read place depth s a ss h (λ d g.
      let parts = split (lines as_line d a) _ g in
      then_more (statement_read as_line d a parts.0 o.0) (all_read d ss parts.1 o.1))
  form_read place depth s (t.IfThen e body) h o =
      if_then_read place depth e (lines as_block (depth + 1) body) h (λ g. statement_read as_block (depth + 1) body g o)
  form_read place depth s (t.IfElse e body other) h o =
      if_else_read place depth e (lines as_block (depth + 1) body) (lines as_rest depth other) h
      (λ g. statement_read as_block (depth + 1) body g o.0) (λ g. statement_read as_rest depth other g o.1)
  form_read place depth s (t.For x e body) h o =
      placed place depth (λ d. margin d ++ (looped x e ++ suite (lines as_block (d + 1) body)))
      (λ d g. loop_read d x e (lines as_block (d + 1) body) g (λ k. statement_read as_block (d + 1) body k o)) h
  form_read place depth s (t.Def w p ps ty body q) h o =
      placed place depth (λ d. margin d ++ (defined w ps ty ++ suite (lines as_block (d + 1) body)))
      (λ d g. def_read d w ps ty (lines as_block (d + 1) body) g (λ k. statement_read as_block (d + 1) body k o)) h
  form_read place depth s form h o = small_at place depth s form h

  pub all_read : (depth : ℕ) (ss : Statements no_payload) → Sayable (flat_map (λ more. more) (all_lines depth ss)) → HaveNoEmptyBlock ss
      → Written (flat_map (λ more. more) (all_lines depth ss)) (all_unspanned (statement_list ss))
  all_read depth t.no_statements h o = nothing_more
  all_read depth (t.statements s ss) h o =
      let parts = split (lines as_line depth s) _ h in
      then_more (statement_read as_line depth s parts.0 o.0) (all_read depth ss parts.1 o.1)
