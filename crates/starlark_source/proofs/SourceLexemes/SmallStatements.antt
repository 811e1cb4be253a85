-- Small statements, as they are written.
use Rattle.std.proofs.Common.{◌≡◌, Bool, true, false, if◌then◌else◌, List as Seq, [], ◌∷◌, ◌++◌, flat_map, Some, None, refl, sym, ap, ◌∙◌, subst}
use Rattle.std.specs.Str.{bytes_eq}
use Rattle.starlark_lexer.specs.Newlines.{first}
use Rattle.starlark_lexer.specs.Tokens.{Text, Span, Terminal, String}
use Rattle.starlark_lexer.specs.Tokens as tokens
use Rattle.starlark_tree.specs.Ast as t
use Rattle.starlark_tree.specs.Ast.{Payloads, Word}
use Rattle.starlark_tree.specs.declared.ast.operator.AssignOp.{AssignOp}
use Rattle.starlark_tree.specs.declared.ast.operator.AssignOp.TheVariants as assign
use Rattle.starlark_source.specs.declared.level.Level.TheVariants as level
use Rattle.starlark_source.specs.Literals.{name}
use Rattle.starlark_source.specs.Pieces.{Pieces, token, comma, between, tupled}
use Rattle.starlark_source.specs.Source.{colon, at_level, test_list, tests, maybe_type_source, target_source, target_sources}
use Rattle.starlark_source.specs.Lines.{assign_operator, target_type, modified, load_arg, load_args, load, small, small_source, small_sources, semicolon}
use Rattle.starlark_source.specs.Lines.{small_line}
use Rattle.starlark_lexer.proofs.TokenTexts.LexerStates.{Standing}
use Rattle.starlark_lexer.proofs.TokenTexts.LineTokens.{InLine}
use Rattle.starlark_lexer.proofs.TokenTexts.Names.{EndsName}
use Rattle.starlark_lexer.proofs.TokenTexts.Operators.{semicolon as lone_semicolon, lone_given, spaced_given, plus_equal, minus_equal, star_equal}
use Rattle.starlark_lexer.proofs.TokenTexts.Operators.{slash_equal, slash_slash_equal, percent_equal, ampersand_equal, pipe_equal, caret_equal}
use Rattle.starlark_lexer.proofs.TokenTexts.Operators.{less_less_equal, greater_greater_equal}
use Rattle.starlark_lexer.proofs.TokenTexts.Brackets.{in_bracket, deeper_line}
use Rattle.starlark_source.proofs.ReadBack.Writing.{Sayable, split}
use Rattle.starlark_source.proofs.SourceLexemes.Pieces.{write, write-append, Spells, followed}
use Rattle.starlark_source.proofs.SourceLexemes.NextBytes.{Stops, Any, with_point, ends_name, is_begin, letter_begins}
use Rattle.starlark_source.proofs.SourceLexemes.Tokens.{given_token, spaces, nothing, spaced_token, weaken, words, name_spelled}
use Rattle.starlark_source.proofs.SourceLexemes.Literals.{string_spelled}
use Rattle.starlark_source.proofs.SourceLexemes.Lists.{word_spelled, word_space, equal_spelled, comma_space, colon_space, round_spelled, tupled_spelled}
use Rattle.starlark_source.proofs.SourceLexemes.FirstBytes.{level_begins, test_begins, name_letter}
use Rattle.starlark_source.proofs.SourceLexemes.Expressions.{points, shape_spelled, test_spelled, tests_spelled, target_spelled}

-- ---- what statements contain

module _ {P : Payloads} where
  pub list_spelled : (e : t.Expression P) (c : Standing) → InLine c → Sayable (test_list e) → Spells c (test_list e) c Stops
  list_spelled (t.expression s (t.Tuple es)) c line h =
      tupled_spelled true (tests es) line (tests_spelled es c line) (tests_spelled es (in_bracket c) (deeper_line c line)) h
  list_spelled (t.expression s shape) c line h = weaken (shape_spelled shape c line h) (λ rest f. with_point (points shape) rest f)

  -- a type after a colon
  pub type_spelled : (ty : t.MaybeType P) (c : Standing) → InLine c → Sayable (maybe_type_source colon ty) → Spells c (maybe_type_source colon ty) c Stops
  type_spelled t.no_type c line h = weaken nothing (λ rest f. tt)
  type_spelled (t.typed s e p) c line h = followed (colon_space line) (test_spelled e c line h) (λ rest f. tt)

  pub type_stops : (ty : t.MaybeType P) (rest : Text) → Stops rest → Stops (write (maybe_type_source colon ty) rest)
  type_stops t.no_type rest f = f
  type_stops (t.typed s e p) rest f = refl

  target_type_spelled : (x : t.Target P) (ty : t.MaybeType P) (c : Standing) → InLine c → Sayable (target_type x ty) → Spells c (target_type x ty) c Stops
  target_type_spelled x t.no_type c line h = weaken nothing (λ rest f. tt)
  target_type_spelled (t.TupleTarget s xs) (t.typed r e p) c line h = absurd h
  target_type_spelled (t.IndexTarget s a i) (t.typed r e p) c line h = type_spelled (t.typed r e p) c line h
  target_type_spelled (t.DotTarget s a w) (t.typed r e p) c line h = type_spelled (t.typed r e p) c line h
  target_type_spelled (t.NameTarget s w q) (t.typed r e p) c line h = type_spelled (t.typed r e p) c line h

  target_type_stops : (x : t.Target P) (ty : t.MaybeType P) (rest : Text) → Sayable (target_type x ty) → Stops rest → Stops (write (target_type x ty) rest)
  target_type_stops x t.no_type rest h f = f
  target_type_stops (t.TupleTarget s xs) (t.typed r e p) rest h f = absurd h
  target_type_stops (t.IndexTarget s a i) (t.typed r e p) rest h f = refl
  target_type_stops (t.DotTarget s a w) (t.typed r e p) rest h f = refl
  target_type_stops (t.NameTarget s w q) (t.typed r e p) rest h f = refl

  modified_spelled : (x : t.Target P) (c : Standing) → InLine c → Sayable (modified x) → Spells c (modified x) c Stops
  modified_spelled (t.TupleTarget s xs) c line h = absurd h
  modified_spelled (t.IndexTarget s a i) c line h = target_spelled {P = P} (t.IndexTarget s a i) true c line h
  modified_spelled (t.DotTarget s a w) c line h = target_spelled {P = P} (t.DotTarget s a w) true c line h
  modified_spelled (t.NameTarget s w q) c line h = target_spelled {P = P} (t.NameTarget s w q) true c line h

assign_spelled : {c : Standing} (o : AssignOp) → InLine c → Spells c (assign_operator o) c Any
assign_spelled assign.Add line = spaced_token tokens.PlusEqual line (λ rest. spaced_given rest plus_equal)
assign_spelled assign.Subtract line = spaced_token tokens.MinusEqual line (λ rest. spaced_given rest minus_equal)
assign_spelled assign.Multiply line = spaced_token tokens.StarEqual line (λ rest. spaced_given rest star_equal)
assign_spelled assign.Divide line = spaced_token tokens.SlashEqual line (λ rest. spaced_given rest slash_equal)
assign_spelled assign.FloorDivide line = spaced_token tokens.SlashSlashEqual line (λ rest. spaced_given rest slash_slash_equal)
assign_spelled assign.Percent line = spaced_token tokens.PercentEqual line (λ rest. spaced_given rest percent_equal)
assign_spelled assign.BitAnd line = spaced_token tokens.AmpersandEqual line (λ rest. spaced_given rest ampersand_equal)
assign_spelled assign.BitOr line = spaced_token tokens.PipeEqual line (λ rest. spaced_given rest pipe_equal)
assign_spelled assign.BitXor line = spaced_token tokens.CaretEqual line (λ rest. spaced_given rest caret_equal)
assign_spelled assign.LeftShift line = spaced_token tokens.LessLessEqual line (λ rest. spaced_given rest less_less_equal)
assign_spelled assign.RightShift line = spaced_token tokens.GreaterGreaterEqual line (λ rest. spaced_given rest greater_greater_equal)

assign_stops : (o : AssignOp) (ps : Pieces) (rest : Text) → Stops (write (assign_operator o ++ ps) rest)
assign_stops assign.Add ps rest = refl
assign_stops assign.Subtract ps rest = refl
assign_stops assign.Multiply ps rest = refl
assign_stops assign.Divide ps rest = refl
assign_stops assign.FloorDivide ps rest = refl
assign_stops assign.Percent ps rest = refl
assign_stops assign.BitAnd ps rest = refl
assign_stops assign.BitOr ps rest = refl
assign_stops assign.BitXor ps rest = refl
assign_stops assign.LeftShift ps rest = refl
assign_stops assign.RightShift ps rest = refl

semicolon_space : {c : Standing} → InLine c → Spells c semicolon c Any
semicolon_space line = followed {F = Any} (given_token tokens.Semicolon line (λ rest f. lone_given rest lone_semicolon)) (spaces 1 line) (λ rest f. tt)

word_alone : {c : Standing} {ps : Pieces} → Spells c ps c EndsName → Spells c ps c Stops
word_alone a = weaken a (λ rest f. ends_name false rest f)

-- ---- loads

module _ {P : Payloads} where
  load_arg_if : (a : t.LoadArg P) (same : Bool) (c : Standing) → InLine c → let ps =
      if same then token (String a.their.text) ∷ [] else name a.local ++ (between tokens.Equal ++ token (String a.their.text) ∷ []) in
      Sayable ps → Spells c ps c Stops
  load_arg_if a true c line h = string_spelled false a.their.text line
  load_arg_if a false c line h =
      followed (name_spelled false a.local line (split (name a.local) _ h).0)
      (followed (equal_spelled line) (string_spelled false a.their.text line) (λ rest f. tt)) (λ rest f. refl)

  load_arg_spelled : (a : t.LoadArg P) (c : Standing) → InLine c → Sayable (load_arg a) → Spells c (load_arg a) c Stops
  load_arg_spelled a c line h = load_arg_if a (bytes_eq a.local.text a.their.text) c line h

  args_stop : (args : Seq (t.LoadArg P)) (rest : Text) → Stops rest → Stops (write (load_args args) rest)
  args_stop [] rest f = f
  args_stop (a ∷ args) rest f = refl

  load_args_spelled : (args : Seq (t.LoadArg P)) (c : Standing) → InLine c → Sayable (load_args args) → Spells c (load_args args) c Stops
  load_args_spelled [] c line h = weaken nothing (λ rest f. tt)
  load_args_spelled (a ∷ args) c line h =
      let parts = split (comma ++ load_arg a) (load_args args) h in
      followed (followed (comma_space line) (load_arg_spelled a c line parts.0) (λ rest f. tt)) (load_args_spelled args c line parts.1)
      (λ rest f. args_stop args rest f)

  load_spelled : (s : Span) (file : Word) (args : Seq (t.LoadArg P)) (c : Standing) → InLine c → Sayable (load s file args)
      → Spells c (load s file args) c Any
  load_spelled s file [] c line h = absurd h
  load_spelled s file (a ∷ args) c line h =
      let inside = deeper_line c line in
      followed (word_spelled tokens.Load line words.10 refl refl)
      (round_spelled line
      (followed (string_spelled false file.text inside) (load_args_spelled (a ∷ args) (in_bracket c) inside (split (load_args (a ∷ args)) _ h).0)
      (λ rest f. args_stop (a ∷ args) rest f))
      (λ rest. refl)) (λ rest f. record { no_more = refl; no_quote = refl })

  -- ---- small statements

  pub small_spelled : (s : Span) (form : t.Form P) (c : Standing) → InLine c → Sayable (small s form) → Spells c (small s form) c Stops
  small_spelled s t.Break c line h = word_alone (word_spelled tokens.Break line words.1 refl refl)
  small_spelled s t.Continue c line h = word_alone (word_spelled tokens.Continue line words.2 refl refl)
  small_spelled s t.Pass c line h = word_alone (word_spelled tokens.Pass line words.13 refl refl)
  small_spelled s (t.Return None) c line h = word_alone (word_spelled tokens.Return line words.14 refl refl)
  small_spelled s (t.Return (Some e)) c line h = followed (word_space tokens.Return line words.14 refl refl) (list_spelled e c line h) (λ rest f. tt)
  small_spelled s (t.Evaluate e) c line h = test_spelled e c line h
  small_spelled s (t.Assign x ty e) c line h =
      let parts = split (target_source true x) _ h in
      let left = split (target_type x ty) _ parts.1 in
      followed (target_spelled x true c line parts.0)
      (followed (target_type_spelled x ty c line left.0) (followed (equal_spelled line) (list_spelled e c line left.1) (λ rest f. tt)) (λ rest f. refl))
      (λ rest f. subst (λ text. Stops text) (sym (write-append (target_type x ty) (between tokens.Equal ++ test_list e) rest))
      (target_type_stops x ty (write (between tokens.Equal ++ test_list e) rest) left.0 refl))
  small_spelled s (t.AssignModify x o e) c line h =
      let parts = split (modified x) _ h in
      followed (modified_spelled x c line parts.0) (followed (assign_spelled o line) (list_spelled e c line (split (assign_operator o) _ parts.1).1)
      (λ rest f. tt))
      (λ rest f. assign_stops o (test_list e) rest)
  small_spelled s (t.Load file args p) c line h = weaken (load_spelled s file args c line h) (λ rest f. tt)
  small_spelled s _ c line h = absurd h

-- ---- what small statements begin with

abbrev pub BeginsLine : Pieces → Type 0
BeginsLine ps = (rest : Text) → is_begin (first (write ps rest)) ≡ true

in_front : (ps qs : Pieces) → BeginsLine ps → BeginsLine (ps ++ qs)
in_front ps qs h = λ rest. ap (λ text. is_begin (first text)) (write-append ps qs rest) ∙ h (write qs rest)

module _ {P : Payloads} where
  mutual
    target_begins : (x : t.Target P) (in_list : Bool) → Sayable (target_source in_list x) → BeginsLine (target_source in_list x)
    target_begins (t.TupleTarget s xs) in_list h = tuple_begins xs in_list h
    target_begins (t.IndexTarget s a i) in_list h =
        in_front (at_level level.Number a) _ (λ rest. (level_begins level.Number a rest (split (at_level level.Number a) _ h).0).begin)
    target_begins (t.DotTarget s e w) in_list h =
        in_front (at_level level.Primary e) _ (λ rest. (level_begins level.Primary e rest (split (at_level level.Primary e) _ h).0).begin)
    target_begins (t.NameTarget s w p) in_list h = λ rest. letter_begins (first (write (name w) rest)) (name_letter w rest h)

    tuple_begins : (xs : t.Targets P) (in_list : Bool) → Sayable (tupled in_list (target_sources xs)) → BeginsLine (tupled in_list (target_sources xs))
    tuple_begins t.no_targets true h = λ rest. refl
    tuple_begins (t.targets x t.no_targets) true h = λ rest. refl
    tuple_begins (t.targets x (t.targets y ys)) true h = in_front (target_source false x) _ (target_begins x false (split (target_source false x) _ h).0)
    tuple_begins xs false h = λ rest. refl

  modified_begins : (x : t.Target P) → Sayable (modified x) → BeginsLine (modified x)
  modified_begins (t.TupleTarget s xs) h = absurd h
  modified_begins (t.IndexTarget s a i) h = target_begins (t.IndexTarget s a i) true h
  modified_begins (t.DotTarget s a w) h = target_begins (t.DotTarget s a w) true h
  modified_begins (t.NameTarget s w q) h = target_begins (t.NameTarget s w q) true h

  load_begins : (s : Span) (file : Word) (args : Seq (t.LoadArg P)) → Sayable (load s file args) → BeginsLine (load s file args)
  load_begins s file [] h = absurd h
  load_begins s file (a ∷ args) h = λ rest. refl

  pub small_begins : (s : Span) (form : t.Form P) → Sayable (small s form) → BeginsLine (small s form)
  small_begins s t.Break h = λ rest. refl
  small_begins s t.Continue h = λ rest. refl
  small_begins s t.Pass h = λ rest. refl
  small_begins s (t.Return None) h = λ rest. refl
  small_begins s (t.Return (Some e)) h = λ rest. refl
  small_begins s (t.Evaluate e) h = λ rest. (test_begins e rest h).begin
  small_begins s (t.Assign x ty e) h = in_front (target_source true x) _ (target_begins x true (split (target_source true x) _ h).0)
  small_begins s (t.AssignModify x o e) h = in_front (modified x) _ (modified_begins x (split (modified x) _ h).0)
  small_begins s (t.Load file args p) h = load_begins s file args h
  small_begins s _ h = absurd h

  -- ---- several in a line

  small_source_spelled : (m : t.Statement P) (c : Standing) → InLine c → Sayable (small_source m) → Spells c (small_source m) c Stops
  small_source_spelled (t.statement s form) c line h = small_spelled s form c line h

  small_source_begins : (m : t.Statement P) → Sayable (small_source m) → BeginsLine (small_source m)
  small_source_begins (t.statement s form) h = small_begins s form h

  smalls_stop : (ss : t.Statements P) (rest : Text) → Stops rest → Stops (write (flat_map (λ q. semicolon ++ q) (small_sources ss)) rest)
  smalls_stop t.no_statements rest f = f
  smalls_stop (t.statements s ss) rest f = refl

  smalls_spelled : (ss : t.Statements P) (c : Standing) → InLine c → Sayable (flat_map (λ q. semicolon ++ q) (small_sources ss))
      → Spells c (flat_map (λ q. semicolon ++ q) (small_sources ss)) c Stops
  smalls_spelled t.no_statements c line h = weaken nothing (λ rest f. tt)
  smalls_spelled (t.statements s ss) c line h =
      let parts = split (semicolon ++ small_source s) _ h in
      followed (followed (semicolon_space line) (small_source_spelled s c line parts.0) (λ rest f. tt)) (smalls_spelled ss c line parts.1)
      (λ rest f. smalls_stop ss rest f)

  pub small_line_spelled : (s : Span) (ss : t.Statements P) (c : Standing) → InLine c → Sayable (small_line s ss) → Spells c (small_line s ss) c Stops
  small_line_spelled s t.no_statements c line h = absurd h
  small_line_spelled s (t.statements a t.no_statements) c line h = absurd h
  small_line_spelled s (t.statements a (t.statements b ss)) c line h =
      let parts = split (small_source a) _ h in
      followed (small_source_spelled a c line parts.0) (smalls_spelled (t.statements b ss) c line parts.1) (λ rest f. smalls_stop (t.statements b ss) rest f)

  pub small_line_begins : (s : Span) (ss : t.Statements P) → Sayable (small_line s ss) → BeginsLine (small_line s ss)
  small_line_begins s t.no_statements h = absurd h
  small_line_begins s (t.statements a t.no_statements) h = absurd h
  small_line_begins s (t.statements a (t.statements b ss)) h = in_front (small_source a) _ (small_source_begins a (split (small_source a) _ h).0)
