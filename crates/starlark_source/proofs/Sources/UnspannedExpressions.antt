-- The source of an expression without its spans is that of the expression.
use Rattle.std.proofs.Common.{◌≡◌, ℕ, zero, suc, ◌+◌, List as Seq, [], ◌∷◌, ◌++◌, map, flat_map, Bool, true, false, pos, negsuc, refl, sym, ap, ◌∙◌}
use Rattle.std.proofs.lemmas.List.{map-append}
use Rattle.std.specs.Prelude.{slice_index}
use Rattle.starlark_lexer.specs.Tokens.{Text, Span, Terminal, small, large, nowhere}
use Rattle.starlark_lexer.specs.Tokens as tokens
use Rattle.starlark_lexer.specs.declared.token.FStringQuote.TheVariants.{Double}
use Rattle.starlark_tree.specs.Ast as t
use Rattle.starlark_tree.specs.Ast.{no_payload, Expression, Word}
use Rattle.starlark_tree.specs.declared.ast.operator.BinOp.{BinOp}
use Rattle.starlark_tree.specs.declared.ast.operator.BinOp.TheVariants as op
use Rattle.starlark_source.specs.declared.format.Mark.{Mark}
use Rattle.starlark_source.specs.declared.format.Mark.TheVariants as marks
use Rattle.starlark_source.specs.declared.level.Level.{Level}
use Rattle.starlark_source.specs.declared.level.Level.TheVariants as level
use Rattle.starlark_source.specs.Levels.{is_looser, level_of, level_of_operator, left_of, right_of}
use Rattle.starlark_source.specs.Pieces.{Pieces, Piece, token, text_byte, blank, unsayable, separated, comma, listed, in_tuple, in_round, in_square, in_curly}
use Rattle.starlark_source.specs.Pieces.{between, bare, tupled}
use Rattle.starlark_source.specs.Literals.{name, sayable, int, literal}
use Rattle.starlark_source.specs.Readings.{is_name, is_float, is_large_int}
use Rattle.starlark_source.specs.Formats.{as_repr, mark_of, placed, marked_source, filled_after, filled}
use Rattle.starlark_source.specs.Source.{operator, colon, bracketed, begins_with_brace, shape_begins_with_brace, kept_apart, at_level, test, shape_source}
use Rattle.starlark_source.specs.Source.{tests, holes, maybe_source, maybe_type_source, no_type_source, pair_sources, argument_source, argument_sources}
use Rattle.starlark_source.specs.Source.{lambda_parameter, lambda_parameter_sources, lambda_parameters, for_source, clause_source, clauses_source}
use Rattle.starlark_source.specs.Source.{target_source, target_sources}
use Rattle.starlark_source.specs.Unspanned.{unspanned_word, unspanned_literal, unspanned, unspanned_shape, unspanned_all, unspanned_maybe}
use Rattle.starlark_source.specs.Unspanned.{unspanned_type, unspanned_pairs, unspanned_arguments, unspanned_argument, unspanned_parameters}
use Rattle.starlark_source.specs.Unspanned.{unspanned_parameter, unspanned_for, unspanned_clauses, unspanned_clause, unspanned_target, unspanned_targets}

-- ---- pieces without spans

abbrev pub placeless : Piece → Piece
placeless (token x) = token x
placeless (text_byte b) = text_byte b
placeless (blank n) = blank n
placeless (unsayable s) = unsayable nowhere

abbrev pub bare_pieces : Pieces → Pieces
bare_pieces ps = map placeless ps

abbrev pub each_bare : Seq Pieces → Seq Pieces
each_bare ps = map bare_pieces ps

pub both : (a b : Pieces) {x y : Pieces} → x ≡ bare_pieces a → y ≡ bare_pieces b → x ++ y ≡ bare_pieces (a ++ b)
both a b p q = (λ i. p i ++ q i) ∙ sym (map-append placeless a b)

pub flat_bare : (before : Pieces) → bare_pieces before ≡ before → (ps : Seq Pieces) → flat_map (λ q. before ++ q) (each_bare ps)
    ≡ bare_pieces (flat_map (λ q. before ++ q) ps)
flat_bare before is [] = refl
flat_bare before is (p ∷ ps) = both (before ++ p) (flat_map (λ q. before ++ q) ps) (both before p (sym is) refl) (flat_bare before is ps)

pub separated_bare : (before : Pieces) → bare_pieces before ≡ before → (ps : Seq Pieces) → separated before (each_bare ps) ≡ bare_pieces (separated before ps)
separated_bare before is [] = refl
separated_bare before is (p ∷ ps) = both p (flat_map (λ q. before ++ q) ps) refl (flat_bare before is ps)

listed_bare : (ps : Seq Pieces) → listed (each_bare ps) ≡ bare_pieces (listed ps)
listed_bare ps = separated_bare comma refl ps

pub listed_as : {qs : Seq Pieces} (ps : Seq Pieces) → qs ≡ each_bare ps → listed qs ≡ bare_pieces (listed ps)
listed_as ps is = ap listed is ∙ listed_bare ps

pub in_round_as : {q : Pieces} (p : Pieces) → q ≡ bare_pieces p → in_round q ≡ bare_pieces (in_round p)
in_round_as p is = ap (λ ps. token tokens.OpeningRound ∷ ps) (both p (token tokens.ClosingRound ∷ []) is refl)

in_square_as : {q : Pieces} (p : Pieces) → q ≡ bare_pieces p → in_square q ≡ bare_pieces (in_square p)
in_square_as p is = ap (λ ps. token tokens.OpeningSquare ∷ ps) (both p (token tokens.ClosingSquare ∷ []) is refl)

in_curly_as : {q : Pieces} (p : Pieces) → q ≡ bare_pieces p → in_curly q ≡ bare_pieces (in_curly p)
in_curly_as p is = ap (λ ps. token tokens.OpeningCurly ∷ ps) (both p (token tokens.ClosingCurly ∷ []) is refl)

bracketed_as : (asked : Bool) {q : Pieces} (p : Pieces) → q ≡ bare_pieces p → bracketed asked q ≡ bare_pieces (bracketed asked p)
bracketed_as true p is = in_round_as p is
bracketed_as false p is = is

apart_as : (begins : Bool) {q : Pieces} (p : Pieces) → q ≡ bare_pieces p → kept_apart begins q ≡ bare_pieces (kept_apart begins p)
apart_as true p is = ap (λ ps. blank 1 ∷ ps) is
apart_as false p is = is

in_tuple_bare : (ps : Seq Pieces) → in_tuple (each_bare ps) ≡ bare_pieces (in_tuple ps)
in_tuple_bare [] = refl
in_tuple_bare (p ∷ []) = both p (token tokens.Comma ∷ []) refl refl
in_tuple_bare (p ∷ q ∷ ps) = listed_bare (p ∷ q ∷ ps)

bare_bare : (ps : Seq Pieces) → bare (each_bare ps) ≡ bare_pieces (bare ps)
bare_bare [] = refl
bare_bare (p ∷ []) = in_round_as (in_tuple (p ∷ [])) (in_tuple_bare (p ∷ []))
bare_bare (p ∷ q ∷ ps) = listed_bare (p ∷ q ∷ ps)

pub tupled_as : (in_list : Bool) {qs : Seq Pieces} (ps : Seq Pieces) → qs ≡ each_bare ps → tupled in_list qs ≡ bare_pieces (tupled in_list ps)
tupled_as true ps is = ap bare is ∙ bare_bare ps
tupled_as false ps is = ap (λ qs. in_round (in_tuple qs)) is ∙ in_round_as (in_tuple ps) (in_tuple_bare ps)

operator_as : (o : BinOp) {q : Pieces} (p : Pieces) → q ≡ bare_pieces p → operator o ++ q ≡ bare_pieces (operator o ++ p)
operator_as op.Or p is = ap (λ ps. operator op.Or ++ ps) is
operator_as op.And p is = ap (λ ps. operator op.And ++ ps) is
operator_as op.Equal p is = ap (λ ps. operator op.Equal ++ ps) is
operator_as op.NotEqual p is = ap (λ ps. operator op.NotEqual ++ ps) is
operator_as op.Less p is = ap (λ ps. operator op.Less ++ ps) is
operator_as op.Greater p is = ap (λ ps. operator op.Greater ++ ps) is
operator_as op.LessOrEqual p is = ap (λ ps. operator op.LessOrEqual ++ ps) is
operator_as op.GreaterOrEqual p is = ap (λ ps. operator op.GreaterOrEqual ++ ps) is
operator_as op.In p is = ap (λ ps. operator op.In ++ ps) is
operator_as op.NotIn p is = ap (λ ps. operator op.NotIn ++ ps) is
operator_as op.Subtract p is = ap (λ ps. operator op.Subtract ++ ps) is
operator_as op.Add p is = ap (λ ps. operator op.Add ++ ps) is
operator_as op.Multiply p is = ap (λ ps. operator op.Multiply ++ ps) is
operator_as op.Percent p is = ap (λ ps. operator op.Percent ++ ps) is
operator_as op.Divide p is = ap (λ ps. operator op.Divide ++ ps) is
operator_as op.FloorDivide p is = ap (λ ps. operator op.FloorDivide ++ ps) is
operator_as op.BitAnd p is = ap (λ ps. operator op.BitAnd ++ ps) is
operator_as op.BitOr p is = ap (λ ps. operator op.BitOr ++ ps) is
operator_as op.BitXor p is = ap (λ ps. operator op.BitXor ++ ps) is
operator_as op.LeftShift p is = ap (λ ps. operator op.LeftShift ++ ps) is
operator_as op.RightShift p is = ap (λ ps. operator op.RightShift ++ ps) is

-- ---- tokens

sayable_bare : (b : Bool) (x : Terminal) (s : Span) → sayable b x nowhere ≡ bare_pieces (sayable b x s)
sayable_bare true x s = refl
sayable_bare false x s = refl

pub name_bare : (w : Word) → name (unspanned_word w) ≡ bare_pieces (name w)
name_bare w = sayable_bare (is_name w.text) (tokens.Identifier w.text) w.span

literal_bare : (l : t.Literal) → literal (unspanned_literal l) ≡ bare_pieces (literal l)
literal_bare (t.Int s (small (pos n))) = sayable_bare _ (tokens.Int (small (pos n))) s
literal_bare (t.Int s (small (negsuc n))) = refl
literal_bare (t.Int s (large text)) = sayable_bare (is_large_int text) (tokens.Int (large text)) s
literal_bare (t.Float w) = sayable_bare (is_float w.text) (tokens.Float w.text) w.span
literal_bare (t.String w) = refl
literal_bare (t.Bytes w) = sayable_bare _ (tokens.Bytes w.text) w.span
literal_bare t.Ellipsis = refl

-- ---- formats

place_as : (s : Span) (conversion : Pieces) → bare_pieces conversion ≡ conversion → (es : Seq Pieces) (more more' : Seq Pieces → Pieces)
    → ((es : Seq Pieces) → more' (each_bare es) ≡ bare_pieces (more es)) → placed nowhere conversion (each_bare es) more'
    ≡ bare_pieces (placed s conversion es more)
place_as s conversion is [] more more' h = refl
place_as s conversion is (e ∷ es) more more' h =
    ap (λ ps. token tokens.FStringExprStart ∷ ps)
    (both e (conversion ++ (token tokens.FStringExprEnd ∷ more es)) refl (both conversion (token tokens.FStringExprEnd ∷ more es) (sym is)
    (ap (λ ps. token tokens.FStringExprEnd ∷ ps) (h es))))

mark_as : (s : Span) (m : Mark) (b : ℕ) (es : Seq Pieces) (more more' : ℕ → Seq Pieces → Pieces)
    → ((k : ℕ) (es : Seq Pieces) → more' k (each_bare es) ≡ bare_pieces (more k es)) → marked_source nowhere m b (each_bare es) more'
    ≡ bare_pieces (marked_source s m b es more)
mark_as s marks.Text b es more more' h = ap (λ ps. text_byte b ∷ ps) (h 0 es)
mark_as s marks.Brace b es more more' h = ap (λ ps. text_byte b ∷ ps) (h 1 es)
mark_as s marks.Hole b es more more' h = place_as s [] refl es (more 1) (more' 1) (h 1)
mark_as s marks.ReprHole b es more more' h = place_as s as_repr refl es (more 3) (more' 3) (h 3)
mark_as s marks.Broken b es more more' h = refl

filled_bare : (s : Span) (k : ℕ) (format : Text) (es : Seq Pieces) → filled_after nowhere k format (each_bare es) ≡ bare_pieces (filled_after s k format es)
filled_bare s k [] [] = refl
filled_bare s k [] (e ∷ es) = refl
filled_bare s zero (b ∷ rest) es =
    mark_as s (mark_of b (slice_index rest 0) (slice_index rest 1) (slice_index rest 2)) b es (λ k. filled_after s k rest) (λ k. filled_after nowhere k rest)
    (λ k es. filled_bare s k rest es)
filled_bare s (suc k) (b ∷ rest) es = filled_bare s k rest es

-- ---- expressions

literal_level : (x : t.Literal) → level_of {P = no_payload} (t.Constant (unspanned_literal x)) ≡ level_of {P = no_payload} (t.Constant x)
literal_level (t.Int s n) = refl
literal_level (t.Float w) = refl
literal_level (t.String w) = refl
literal_level (t.Bytes w) = refl
literal_level t.Ellipsis = refl

same_level : (shape : t.Shape no_payload) → level_of (unspanned_shape shape) ≡ level_of shape
same_level (t.Tuple es) = refl
same_level (t.Dot e w) = refl
same_level (t.Call f xs) = refl
same_level (t.Index a i) = refl
same_level (t.Index2 a i j) = refl
same_level (t.Slice a i j k) = refl
same_level (t.Identifier w p) = refl
same_level (t.Lambda ps e p) = refl
same_level (t.Constant x) = literal_level x
same_level (t.Not e) = refl
same_level (t.Minus e) = refl
same_level (t.Plus e) = refl
same_level (t.BitNot e) = refl
same_level (t.Op l o r) = refl
same_level (t.If c v w) = refl
same_level (t.List es) = refl
same_level (t.Dict ps) = refl
same_level (t.ListComprehension e x cs) = refl
same_level (t.DictComprehension k v x cs) = refl
same_level (t.FString s w es) = refl

mutual
  same_begin : (e : Expression no_payload) → begins_with_brace (unspanned e) ≡ begins_with_brace e
  same_begin (t.expression s shape) = same_shape_begin shape

  same_shape_begin : (shape : t.Shape no_payload) → shape_begins_with_brace (unspanned_shape shape) ≡ shape_begins_with_brace shape
  same_shape_begin (t.Tuple es) = refl
  same_shape_begin (t.Dot e w) = same_begin e
  same_shape_begin (t.Call f xs) = same_begin f
  same_shape_begin (t.Index a i) = same_begin a
  same_shape_begin (t.Index2 a i j) = same_begin a
  same_shape_begin (t.Slice a i j k) = same_begin a
  same_shape_begin (t.Identifier w p) = refl
  same_shape_begin (t.Lambda ps e p) = refl
  same_shape_begin (t.Constant x) = refl
  same_shape_begin (t.Not e) = refl
  same_shape_begin (t.Minus e) = refl
  same_shape_begin (t.Plus e) = refl
  same_shape_begin (t.BitNot e) = refl
  same_shape_begin (t.Op l o r) = same_begin l
  same_shape_begin (t.If c v w) = same_begin v
  same_shape_begin (t.List es) = refl
  same_shape_begin (t.Dict ps) = refl
  same_shape_begin (t.ListComprehension e x cs) = refl
  same_shape_begin (t.DictComprehension k v x cs) = refl
  same_shape_begin (t.FString s w es) = refl

mutual
  level_bare : (k : Level) (e : Expression no_payload) → at_level k (unspanned e) ≡ bare_pieces (at_level k e)
  level_bare k (t.expression s shape) =
      ap (λ l. bracketed (is_looser l k) (shape_source (unspanned_shape shape))) (same_level shape) ∙ bracketed_as (is_looser (level_of shape) k)
      (shape_source shape) (shape_bare shape)

  pub test_bare : (e : Expression no_payload) → test (unspanned e) ≡ bare_pieces (test e)
  test_bare (t.expression s shape) = shape_bare shape

  shape_bare : (shape : t.Shape no_payload) → shape_source (unspanned_shape shape) ≡ bare_pieces (shape_source shape)
  shape_bare (t.Tuple es) = tupled_as false (tests es) (tests_bare es)
  shape_bare (t.Dot e w) = both (at_level level.Primary e) (token tokens.Dot ∷ name w) (level_bare level.Primary e)
      (ap (λ ps. token tokens.Dot ∷ ps) (name_bare w))
  shape_bare (t.Call f xs) =
      both (at_level level.Number f) (in_round (listed (argument_sources xs))) (level_bare level.Number f)
      (in_round_as (listed (argument_sources xs)) (listed_as (argument_sources xs) (arguments_bare xs)))
  shape_bare (t.Index a i) = both (at_level level.Number a) (in_square (test i)) (level_bare level.Number a) (in_square_as (test i) (test_bare i))
  shape_bare (t.Index2 a i j) =
      both (at_level level.Number a) (in_square (test i ++ (comma ++ test j))) (level_bare level.Number a)
      (in_square_as (test i ++ (comma ++ test j)) (both (test i) (comma ++ test j) (test_bare i) (ap (λ ps. comma ++ ps) (test_bare j))))
  shape_bare (t.Slice a start stop step) =
      let steps = maybe_source (token tokens.Colon ∷ []) step in
      let stops = token tokens.Colon ∷ [] ++ (maybe_source [] stop ++ steps) in
      both (at_level level.Number a) (in_square (maybe_source [] start ++ stops)) (level_bare level.Number a)
      (in_square_as (maybe_source [] start ++ stops)
      (both (maybe_source [] start) stops (maybe_bare [] refl start)
      (ap (λ ps. token tokens.Colon ∷ ps) (both (maybe_source [] stop) steps (maybe_bare [] refl stop) (maybe_bare (token tokens.Colon ∷ []) refl step)))))
  shape_bare (t.Identifier w p) = name_bare w
  shape_bare (t.Lambda ps e p) =
      ap (λ qs. token tokens.Lambda ∷ qs) (both (lambda_parameters ps) (colon ++ test e) (lambda_parameters_bare ps) (ap (λ qs. colon ++ qs) (test_bare e)))
  shape_bare (t.Constant x) = literal_bare x
  shape_bare (t.Not e) = ap (λ ps. token tokens.Not ∷ blank 1 ∷ ps) (level_bare level.Not e)
  shape_bare (t.Minus e) = ap (λ ps. token tokens.Minus ∷ ps) (level_bare level.Unary e)
  shape_bare (t.Plus e) = ap (λ ps. token tokens.Plus ∷ ps) (level_bare level.Unary e)
  shape_bare (t.BitNot e) = ap (λ ps. token tokens.Tilde ∷ ps) (level_bare level.Unary e)
  shape_bare (t.Op l o r) =
      both (at_level (left_of (level_of_operator o)) l) (operator o ++ at_level (right_of (level_of_operator o)) r)
      (level_bare (left_of (level_of_operator o)) l)
      (operator_as o (at_level (right_of (level_of_operator o)) r) (level_bare (right_of (level_of_operator o)) r))
  shape_bare (t.If c v w) =
      both (at_level level.Or v) (between tokens.If ++ (at_level level.Or c ++ (between tokens.Else ++ test w))) (level_bare level.Or v)
      (ap (λ ps. between tokens.If ++ ps) (both (at_level level.Or c) (between tokens.Else ++ test w) (level_bare level.Or c)
      (ap (λ ps. between tokens.Else ++ ps) (test_bare w))))
  shape_bare (t.List es) = in_square_as (listed (tests es)) (listed_as (tests es) (tests_bare es))
  shape_bare (t.Dict ps) = in_curly_as (listed (pair_sources ps)) (listed_as (pair_sources ps) (pairs_bare ps))
  shape_bare (t.ListComprehension e first cs) =
      in_square_as (test e ++ (for_source first ++ clauses_source cs))
      (both (test e) (for_source first ++ clauses_source cs) (test_bare e) (both (for_source first) (clauses_source cs) (for_bare first) (clauses_bare cs)))
  shape_bare (t.DictComprehension k v first cs) =
      let item = test k ++ (colon ++ test v) in
      in_curly_as (item ++ (for_source first ++ clauses_source cs))
      (both item (for_source first ++ clauses_source cs) (both (test k) (colon ++ test v) (test_bare k) (ap (λ ps. colon ++ ps) (test_bare v)))
      (both (for_source first) (clauses_source cs) (for_bare first) (clauses_bare cs)))
  shape_bare (t.FString s format es) =
      ap (λ ps. token (tokens.FStringStart Double) ∷ ps)
      (both (filled s format.text (holes es)) (token tokens.FStringEnd ∷ []) (ap (filled nowhere format.text) (holes_bare es)
      ∙ filled_bare s 0 format.text (holes es)) refl)

  pub tests_bare : (es : t.Expressions no_payload) → tests (unspanned_all es) ≡ each_bare (tests es)
  tests_bare t.no_expressions = refl
  tests_bare (t.expressions e es) = λ i. test_bare e i ∷ tests_bare es i

  holes_bare : (es : t.Expressions no_payload) → holes (unspanned_all es) ≡ each_bare (holes es)
  holes_bare t.no_expressions = refl
  holes_bare (t.expressions e es) =
      λ i. (ap (λ b. kept_apart b (test (unspanned e))) (same_begin e) ∙ apart_as (begins_with_brace e) (test e) (test_bare e)) i ∷ holes_bare es i

  pub maybe_bare : (before : Pieces) → bare_pieces before ≡ before → (m : t.Maybe no_payload) → maybe_source before (unspanned_maybe m)
      ≡ bare_pieces (maybe_source before m)
  maybe_bare before is t.absent = refl
  maybe_bare before is (t.present e) = both before (test e) (sym is) (test_bare e)

  pub type_bare : (before : Pieces) → bare_pieces before ≡ before → (ty : t.MaybeType no_payload) → maybe_type_source before (unspanned_type ty)
      ≡ bare_pieces (maybe_type_source before ty)
  type_bare before is t.no_type = refl
  type_bare before is (t.typed s e p) = both before (test e) (sym is) (test_bare e)

  no_type_bare : (ty : t.MaybeType no_payload) → no_type_source (unspanned_type ty) ≡ bare_pieces (no_type_source ty)
  no_type_bare t.no_type = refl
  no_type_bare (t.typed s e p) = refl

  pairs_bare : (ps : t.Pairs no_payload) → pair_sources (unspanned_pairs ps) ≡ each_bare (pair_sources ps)
  pairs_bare t.no_pairs = refl
  pairs_bare (t.pairs k v ps) = λ i. both (test k) (colon ++ test v) (test_bare k) (ap (λ qs. colon ++ qs) (test_bare v)) i ∷ pairs_bare ps i

  argument_bare : (a : t.Argument no_payload) → argument_source (unspanned_argument a) ≡ bare_pieces (argument_source a)
  argument_bare (t.Positional s e) = test_bare e
  argument_bare (t.Named s w e) = both (name w) (between tokens.Equal ++ test e) (name_bare w) (ap (λ ps. between tokens.Equal ++ ps) (test_bare e))
  argument_bare (t.Star s e) = ap (λ ps. token tokens.Star ∷ ps) (test_bare e)
  argument_bare (t.StarStar s e) = ap (λ ps. token tokens.StarStar ∷ ps) (test_bare e)

  arguments_bare : (xs : t.Arguments no_payload) → argument_sources (unspanned_arguments xs) ≡ each_bare (argument_sources xs)
  arguments_bare t.no_arguments = refl
  arguments_bare (t.arguments a rest) = λ i. argument_bare a i ∷ arguments_bare rest i

  lambda_parameter_bare : (p : t.Parameter no_payload) → lambda_parameter (unspanned_parameter p) ≡ bare_pieces (lambda_parameter p)
  lambda_parameter_bare (t.Slash s) = refl
  lambda_parameter_bare (t.Normal s w p ty value) =
      both (name w) (no_type_source ty ++ maybe_source (between tokens.Equal) value) (name_bare w)
      (both (no_type_source ty) (maybe_source (between tokens.Equal) value) (no_type_bare ty) (maybe_bare (between tokens.Equal) refl value))
  lambda_parameter_bare (t.NoArgs s) = refl
  lambda_parameter_bare (t.Args s w p ty) = ap (λ ps. token tokens.Star ∷ ps) (both (name w) (no_type_source ty) (name_bare w) (no_type_bare ty))
  lambda_parameter_bare (t.KwArgs s w p ty) = ap (λ ps. token tokens.StarStar ∷ ps) (both (name w) (no_type_source ty) (name_bare w) (no_type_bare ty))

  lambda_each_bare : (ps : t.Parameters no_payload) → lambda_parameter_sources (unspanned_parameters ps) ≡ each_bare (lambda_parameter_sources ps)
  lambda_each_bare t.no_parameters = refl
  lambda_each_bare (t.parameters p ps) = λ i. lambda_parameter_bare p i ∷ lambda_each_bare ps i

  lambda_parameters_bare : (ps : t.Parameters no_payload) → lambda_parameters (unspanned_parameters ps) ≡ bare_pieces (lambda_parameters ps)
  lambda_parameters_bare t.no_parameters = refl
  lambda_parameters_bare (t.parameters p ps) =
      ap (λ qs. blank 1 ∷ qs) (listed_as (lambda_parameter p ∷ lambda_parameter_sources ps) (λ i. lambda_parameter_bare p i ∷ lambda_each_bare ps i))

  for_bare : (f : t.ForIn no_payload) → for_source (unspanned_for f) ≡ bare_pieces (for_source f)
  for_bare (t.for_in x over) =
      ap (λ ps. between tokens.For ++ ps)
      (both (target_source true x) (between tokens.In ++ at_level level.Or over) (target_bare true x)
      (ap (λ ps. between tokens.In ++ ps) (level_bare level.Or over)))

  clause_bare : (c : t.Clause no_payload) → clause_source (unspanned_clause c) ≡ bare_pieces (clause_source c)
  clause_bare (t.for_clause f) = for_bare f
  clause_bare (t.if_clause e) = ap (λ ps. between tokens.If ++ ps) (level_bare level.Or e)

  clauses_bare : (cs : t.Clauses no_payload) → clauses_source (unspanned_clauses cs) ≡ bare_pieces (clauses_source cs)
  clauses_bare t.no_clauses = refl
  clauses_bare (t.clauses c cs) = both (clause_source c) (clauses_source cs) (clause_bare c) (clauses_bare cs)

  pub target_bare : (in_list : Bool) (x : t.Target no_payload) → target_source in_list (unspanned_target x) ≡ bare_pieces (target_source in_list x)
  target_bare in_list (t.TupleTarget s xs) = tupled_as in_list (target_sources xs) (targets_bare xs)
  target_bare in_list (t.IndexTarget s a i) = both (at_level level.Number a) (in_square (test i)) (level_bare level.Number a)
      (in_square_as (test i) (test_bare i))
  target_bare in_list (t.DotTarget s e w) =
      both (at_level level.Primary e) (token tokens.Dot ∷ name w) (level_bare level.Primary e) (ap (λ ps. token tokens.Dot ∷ ps) (name_bare w))
  target_bare in_list (t.NameTarget s w p) = name_bare w

  targets_bare : (xs : t.Targets no_payload) → target_sources (unspanned_targets xs) ≡ each_bare (target_sources xs)
  targets_bare t.no_targets = refl
  targets_bare (t.targets x xs) = λ i. target_bare false x i ∷ targets_bare xs i
