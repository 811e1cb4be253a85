-- Statements, wherever they are.
use Rattle.std.proofs.Common.{ℕ, ◌+◌, true, false, [], ◌∷◌, ◌++◌, flat_map, refl, sym, subst, append-nil, append_assoc}
use Rattle.starlark_lexer.specs.Tokens.{Text, Span, Terminal}
use Rattle.starlark_lexer.specs.Tokens as tokens
use Rattle.starlark_tree.specs.Ast as t
use Rattle.starlark_tree.specs.Ast.{Payloads, Word}
use Rattle.starlark_source.specs.Literals.{name}
use Rattle.starlark_source.specs.Pieces.{Pieces, token, listed, in_round, between}
use Rattle.starlark_source.specs.Source.{colon, target_source, maybe_source, maybe_type_source, parameter_source, parameter_sources}
use Rattle.starlark_source.specs.Lines.{Place, as_line, as_block, as_rest, if_word, suite, at_place, several, margin, line, tested, looped, defined, lines}
use Rattle.starlark_source.specs.Lines.{form_lines, block, all_lines, small, small_line}
use Rattle.starlark_lexer.proofs.TokenTexts.LexerStates.{Standing}
use Rattle.starlark_lexer.proofs.TokenTexts.LineTokens.{InLine}
use Rattle.starlark_lexer.proofs.TokenTexts.Operators.{spaced_given, minus_greater}
use Rattle.starlark_lexer.proofs.TokenTexts.Brackets.{in_bracket, deeper_line}
use Rattle.starlark_lexer.proofs.TokenTexts.Indentation.{in_line, line_goes_on}
use Rattle.starlark_source.proofs.ReadBack.Writing.{Sayable, split}
use Rattle.starlark_source.proofs.SourceLexemes.Pieces.{write, write-append, Spells, followed}
use Rattle.starlark_source.proofs.SourceLexemes.NextBytes.{Stops, ends_name}
use Rattle.starlark_source.proofs.SourceLexemes.Tokens.{nothing, spaced_token, weaken, words, name_spelled}
use Rattle.starlark_source.proofs.SourceLexemes.Lists.{word_spelled, word_between, word_space, round_spelled, AreSpelled, listed_spelled}
use Rattle.starlark_source.proofs.SourceLexemes.Expressions.{test_spelled, target_spelled, value_spelled, alone_slash, alone_star, starred_name}
use Rattle.starlark_source.proofs.SourceLexemes.Expressions.{star_star_spelled, default_stops}
use Rattle.starlark_source.proofs.SourceLexemes.SmallStatements.{BeginsLine, type_spelled, type_stops, small_spelled, small_begins, small_line_spelled}
use Rattle.starlark_source.proofs.SourceLexemes.SmallStatements.{small_line_begins}
use Rattle.starlark_source.proofs.SourceLexemes.Lines.{Lays, then_lays, one_line, headed}

-- ---- the heads of blocks

module _ {P : Payloads} where
  tested_spelled : (place : Place) (e : t.Expression P) (c : Standing) → InLine c → Sayable (tested (if_word place) e)
      → Spells c (tested (if_word place) e) c Stops
  tested_spelled as_line e c line h = followed (word_space tokens.If line words.7 refl refl) (test_spelled e c line h) (λ rest f. tt)
  tested_spelled as_block e c line h = followed (word_space tokens.If line words.7 refl refl) (test_spelled e c line h) (λ rest f. tt)
  tested_spelled as_rest e c line h = followed (word_space tokens.Elif line words.4 refl refl) (test_spelled e c line h) (λ rest f. tt)

  tested_begins : (place : Place) (e : t.Expression P) → BeginsLine (tested (if_word place) e)
  tested_begins as_line e = λ rest. refl
  tested_begins as_block e = λ rest. refl
  tested_begins as_rest e = λ rest. refl

  looped_spelled : (x : t.Target P) (e : t.Expression P) (c : Standing) → InLine c → Sayable (looped x e) → Spells c (looped x e) c Stops
  looped_spelled x e c line h =
      let parts = split (target_source true x) _ h in
      followed (word_space tokens.For line words.6 refl refl)
      (followed (target_spelled x true c line parts.0) (followed (word_between tokens.In line words.8 refl refl) (test_spelled e c line parts.1)
      (λ rest f. tt)) (λ rest f. refl))
      (λ rest f. tt)

  parameter_spelled : (x : t.Parameter P) (c : Standing) → InLine c → Sayable (parameter_source x) → Spells c (parameter_source x) c Stops
  parameter_spelled (t.Slash s) c line h = alone_slash line
  parameter_spelled (t.Normal s w p ty value) c line h =
      let x = split (name w) _ h in
      let y = split (maybe_type_source colon ty) _ x.1 in
      followed (name_spelled false w line x.0) (followed (type_spelled ty c line y.0) (value_spelled value c line y.1) (λ rest f. default_stops value rest f))
      (λ rest f. subst (λ text. Stops text) (sym (write-append (maybe_type_source colon ty) (maybe_source (between tokens.Equal) value) rest))
      (type_stops ty (write (maybe_source (between tokens.Equal) value) rest) (default_stops value rest f)))
  parameter_spelled (t.NoArgs s) c line h = alone_star line
  parameter_spelled (t.Args s w p ty) c line h =
      let x = split (name w) _ h in
      followed (starred_name w line x.0) (type_spelled ty c line x.1) (λ rest f. type_stops ty rest f)
  parameter_spelled (t.KwArgs s w p ty) c line h =
      let x = split (name w) _ h in
      followed (followed (star_star_spelled line) (name_spelled false w line x.0) (λ rest f. tt)) (type_spelled ty c line x.1)
      (λ rest f. type_stops ty rest f)

  parameters_spelled : (xs : t.Parameters P) (c : Standing) → InLine c → AreSpelled c (parameter_sources xs)
  parameters_spelled t.no_parameters c line = tt
  parameters_spelled (t.parameters x xs) c line = (λ h. parameter_spelled x c line h, parameters_spelled xs c line)

  returns_spelled : (ty : t.MaybeType P) (c : Standing) → InLine c → Sayable (maybe_type_source (between tokens.MinusGreater) ty)
      → Spells c (maybe_type_source (between tokens.MinusGreater) ty) c Stops
  returns_spelled t.no_type c line h = weaken nothing (λ rest f. tt)
  returns_spelled (t.typed s e p) c line h =
      followed (spaced_token tokens.MinusGreater line (λ rest. spaced_given rest minus_greater)) (test_spelled e c line h) (λ rest f. tt)

  defined_spelled : (w : Word) (ps : t.Parameters P) (ty : t.MaybeType P) (c : Standing) → InLine c → Sayable (defined w ps ty)
      → Spells c (defined w ps ty) c Stops
  defined_spelled w ps ty c line h =
      let parts = split (name w) _ h in
      let signature = split (in_round (listed (parameter_sources ps))) _ parts.1 in
      let inside = deeper_line c line in
      followed (word_space tokens.Def line words.3 refl refl)
      (followed (name_spelled false w line parts.0)
      (followed
      (round_spelled line (listed_spelled (parameter_sources ps) inside (parameters_spelled ps (in_bracket c) inside)
      (split (listed (parameter_sources ps)) _ signature.0).0) (λ rest. refl))
      (returns_spelled ty c line signature.1) (λ rest f. tt)) (λ rest f. refl)) (λ rest f. tt)

-- ---- places

-- after the block of an `if` a statement is the block of an `else`
else_lays : {k : ℕ} {body : Pieces} → Lays (k + 1) body → Lays k (margin k ++ (token tokens.Else ∷ suite body))
else_lays {k = k} l =
    headed (weaken (word_spelled tokens.Else (line_goes_on k) words.5 refl refl) (λ rest f. ends_name false rest f)) (λ rest. refl) l

else_sayable : (k : ℕ) (body : Pieces) → Sayable (margin k ++ (token tokens.Else ∷ suite body)) → Sayable body
else_sayable k body h = (split body _ h).0

placed : (place : Place) (k : ℕ) (ps : ℕ → Pieces) → ((d : ℕ) → Sayable (ps d) → Lays d (ps d)) → Sayable (at_place place k ps) → Lays k (at_place place k ps)
placed as_line k ps f h = f k h
placed as_block k ps f h = f k h
placed as_rest k ps f h = else_lays (f (k + 1) (else_sayable k (ps (k + 1)) h))

several_placed : (place : Place) (k : ℕ) (in_line_ps : Pieces) (ps : ℕ → Pieces) → (Sayable (line k in_line_ps) → Lays k (line k in_line_ps))
    → ((d : ℕ) → Sayable (ps d) → Lays d (ps d)) → Sayable (several place k in_line_ps ps) → Lays k (several place k in_line_ps ps)
several_placed as_line k in_line_ps ps g f h = g h
several_placed as_block k in_line_ps ps g f h = f k h
several_placed as_rest k in_line_ps ps g f h = else_lays (f (k + 1) (else_sayable k (ps (k + 1)) h))

-- ---- statements

pass_lays : (k : ℕ) → Lays k (line k (token tokens.Pass ∷ []))
pass_lays k = one_line (weaken (word_spelled tokens.Pass (line_goes_on k) words.13 refl refl) (λ rest f. ends_name false rest f)) (λ rest. refl)

module _ {P : Payloads} where
  small_lays : (k : ℕ) (s : Span) (form : t.Form P) → Sayable (line k (small s form)) → Lays k (line k (small s form))
  small_lays k s form h =
      let g = (split (small s form) _ h).0 in one_line (small_spelled s form (in_line k) (line_goes_on k) g) (small_begins s form g)

  line_lays : (k : ℕ) (s : Span) (ss : t.Statements P) → Sayable (line k (small_line s ss)) → Lays k (line k (small_line s ss))
  line_lays k s ss h =
      let g = (split (small_line s ss) _ h).0 in one_line (small_line_spelled s ss (in_line k) (line_goes_on k) g) (small_line_begins s ss g)

  if_lays : (place : Place) (k : ℕ) (e : t.Expression P) (body : Pieces) → Sayable (margin k ++ (tested (if_word place) e ++ suite body))
      → (Sayable body → Lays (k + 1) body)
      → Lays k (margin k ++ (tested (if_word place) e ++ suite body))
  if_lays place k e body h l =
      let parts = split (tested (if_word place) e) _ h in
      headed (tested_spelled place e (in_line k) (line_goes_on k) parts.0) (tested_begins place e) (l (split body _ parts.1).0)

  for_lays : (k : ℕ) (x : t.Target P) (e : t.Expression P) (body : Pieces) → Sayable (margin k ++ (looped x e ++ suite body))
      → (Sayable body → Lays (k + 1) body)
      → Lays k (margin k ++ (looped x e ++ suite body))
  for_lays k x e body h l =
      let parts = split (looped x e) _ h in
      headed (looped_spelled x e (in_line k) (line_goes_on k) parts.0) (λ rest. refl) (l (split body _ parts.1).0)

  def_lays : (k : ℕ) (w : Word) (ps : t.Parameters P) (ty : t.MaybeType P) (body : Pieces) → Sayable (margin k ++ (defined w ps ty ++ suite body))
      → (Sayable body → Lays (k + 1) body) → Lays k (margin k ++ (defined w ps ty ++ suite body))
  def_lays k w ps ty body h l =
      let parts = split (defined w ps ty) _ h in
      headed (defined_spelled w ps ty (in_line k) (line_goes_on k) parts.0) (λ rest. refl) (l (split body _ parts.1).0)

  mutual
    pub statement_lays : (m : t.Statement P) (place : Place) (k : ℕ) → Sayable (lines place k m) → Lays k (lines place k m)
    statement_lays (t.statement s form) place k h = form_lays form place k s h

    pub form_lays : (form : t.Form P) (place : Place) (k : ℕ) (s : Span) → Sayable (form_lines place k s form) → Lays k (form_lines place k s form)
    form_lays (t.Block ss) place k s h =
        several_placed place k (small_line s ss) (λ d. block d s ss) (line_lays k s ss) (λ d g. block_lays ss d s g) h
    form_lays (t.IfThen e body) place k s h = if_lays place k e (lines as_block (k + 1) body) h (λ g. statement_lays body as_block (k + 1) g)
    form_lays (t.IfElse e body other) place k s h =
        let parts = split (margin k ++ (tested (if_word place) e ++ suite (lines as_block (k + 1) body))) _ h in
        then_lays (if_lays place k e (lines as_block (k + 1) body) parts.0 (λ g. statement_lays body as_block (k + 1) g))
        (statement_lays other as_rest k parts.1)
    form_lays (t.For x e body) place k s h =
        placed place k (λ d. margin d ++ (looped x e ++ suite (lines as_block (d + 1) body)))
        (λ d g. for_lays d x e (lines as_block (d + 1) body) g (λ j. statement_lays body as_block (d + 1) j)) h
    form_lays (t.Def w p ps ty body q) place k s h =
        placed place k (λ d. margin d ++ (defined w ps ty ++ suite (lines as_block (d + 1) body)))
        (λ d g. def_lays d w ps ty (lines as_block (d + 1) body) g (λ j. statement_lays body as_block (d + 1) j)) h
    form_lays form place k s h = placed place k (λ d. line d (small s form)) (λ d g. small_lays d s form g) h

    block_lays : (ss : t.Statements P) (k : ℕ) (s : Span) → Sayable (block k s ss) → Lays k (block k s ss)
    block_lays t.no_statements k s h = pass_lays k
    block_lays (t.statements a t.no_statements) k s h = absurd h
    block_lays (t.statements a (t.statements b ss)) k s h =
        let parts = split (lines as_line k a) _ h in
        all_lay (t.statements b ss) k (statement_lays a as_line k parts.0) parts.1

    -- lines, and those of these statements after them
    all_lay : (ss : t.Statements P) (k : ℕ) {ps : Pieces} → Lays k ps → Sayable (flat_map (λ qs. qs) (all_lines k ss))
        → Lays k (ps ++ flat_map (λ qs. qs) (all_lines k ss))
    all_lay t.no_statements k {ps = ps} l h = subst (λ qs. Lays k qs) (sym (append-nil ps)) l
    all_lay (t.statements s ss) k {ps = ps} l h =
        let parts = split (lines as_line k s) _ h in
        subst (λ qs. Lays k qs) (append_assoc ps (lines as_line k s) (flat_map (λ qs. qs) (all_lines k ss)))
        (all_lay ss k (then_lays l (statement_lays s as_line k parts.0)) parts.1)
