-- Expressions, as they are written.
use Rattle.std.proofs.Common.{◌≡◌, Bool, true, false, not, ◌==◌, [], ◌∷◌, ◌++◌, refl, sym, subst, append-nil}
use Rattle.starlark_lexer.specs.Newlines.{first}
use Rattle.starlark_lexer.specs.Classes.{is_letter}
use Rattle.starlark_lexer.specs.Tokens.{Text, Terminal, FStringStart, FStringEnd, Dot, Colon, Slash, Star, StarStar}
use Rattle.starlark_lexer.specs.Tokens as tokens
use Rattle.starlark_tree.specs.Ast as t
use Rattle.starlark_tree.specs.Ast.{Payloads, Word}
use Rattle.starlark_tree.specs.declared.ast.operator.BinOp.{BinOp}
use Rattle.starlark_tree.specs.declared.ast.operator.BinOp.TheVariants as op
use Rattle.starlark_source.specs.declared.level.Level.{Level}
use Rattle.starlark_source.specs.declared.level.Level.TheVariants as level
use Rattle.starlark_source.specs.Levels.{is_looser, level_of, level_of_operator, left_of, right_of}
use Rattle.starlark_source.specs.Literals.{name, literal}
use Rattle.starlark_source.specs.Pieces.{Pieces, token, comma, listed, between}
use Rattle.starlark_source.specs.Source.{operator, colon, bracketed, begins_with_brace, shape_begins_with_brace, kept_apart, at_level, test, shape_source}
use Rattle.starlark_source.specs.Source.{tests, holes, maybe_source, no_type_source, pair_sources, argument_source, argument_sources, lambda_parameter}
use Rattle.starlark_source.specs.Source.{lambda_parameter_sources, lambda_parameters, for_source, clauses_source, target_source, target_sources}
use Rattle.starlark_lexer.proofs.TokenTexts.LexerStates.{Standing}
use Rattle.starlark_lexer.proofs.TokenTexts.LineTokens.{InLine}
use Rattle.starlark_lexer.proofs.TokenTexts.Names.{EndsName}
use Rattle.starlark_lexer.proofs.TokenTexts.Operators.{tilde, lone_given, minus_given, plus_given, star_given, slash_given, dot_given, star_star_given}
use Rattle.starlark_lexer.proofs.TokenTexts.Brackets.{in_bracket, deeper_line}
use Rattle.starlark_lexer.proofs.TokenTexts.FStrings.{in_hole, hole_line}
use Rattle.starlark_source.proofs.ReadBack.Writing.{Sayable, split}
use Rattle.starlark_source.proofs.SourceLexemes.Pieces.{write, Spells, followed}
use Rattle.starlark_source.proofs.SourceLexemes.NextBytes.{StopsOr, Stops, Any, with_point, is_begin, begins, letter_begins, letter_after_point, no_signs}
use Rattle.starlark_source.proofs.SourceLexemes.Tokens.{given_token, spaces, nothing, weaken, words, name_spelled, space_ends}
use Rattle.starlark_source.proofs.SourceLexemes.Literals.{is_number, literal_spelled}
use Rattle.starlark_source.proofs.SourceLexemes.Lists.{word_spelled, word_between, word_space, operator_spelled, equal_spelled, colon_spelled, comma_space}
use Rattle.starlark_source.proofs.SourceLexemes.Lists.{colon_space, round_spelled, square_spelled, curly_spelled, AreSpelled, listed_spelled, tuple_spelled}
use Rattle.starlark_source.proofs.SourceLexemes.Lists.{tupled_spelled}
use Rattle.starlark_source.proofs.SourceLexemes.FirstBytes.{shape_begins, level_begins, test_begins, name_letter}
use Rattle.starlark_source.proofs.SourceLexemes.FStrings.{IsHole, AreHoles, f_string_spelled}

-- ---- what needs no recursion

-- a dot may follow it
abbrev pub points : {P : Payloads} → t.Shape P → Bool
points shape = not (is_looser (level_of shape) level.Primary)

literal_points : (x : t.Literal) → not (is_looser (level_of {P = t.no_payload} (t.Constant x)) level.Primary) ≡ not (is_number x)
literal_points (t.Int s n) = refl
literal_points (t.Float w) = refl
literal_points (t.String w) = refl
literal_points (t.Bytes w) = refl
literal_points t.Ellipsis = refl

op_points : (o : BinOp) → not (is_looser (level_of_operator o) level.Primary) ≡ false
op_points op.Or = refl
op_points op.And = refl
op_points op.Equal = refl
op_points op.NotEqual = refl
op_points op.Less = refl
op_points op.Greater = refl
op_points op.LessOrEqual = refl
op_points op.GreaterOrEqual = refl
op_points op.In = refl
op_points op.NotIn = refl
op_points op.Subtract = refl
op_points op.Add = refl
op_points op.Multiply = refl
op_points op.Percent = refl
op_points op.Divide = refl
op_points op.FloorDivide = refl
op_points op.BitAnd = refl
op_points op.BitOr = refl
op_points op.BitXor = refl
op_points op.LeftShift = refl
op_points op.RightShift = refl

op_stops : (o : BinOp) (ps : Pieces) (rest : Text) → Stops (write (operator o ++ ps) rest)
op_stops op.Or ps rest = refl
op_stops op.And ps rest = refl
op_stops op.Equal ps rest = refl
op_stops op.NotEqual ps rest = refl
op_stops op.Less ps rest = refl
op_stops op.Greater ps rest = refl
op_stops op.LessOrEqual ps rest = refl
op_stops op.GreaterOrEqual ps rest = refl
op_stops op.In ps rest = refl
op_stops op.NotIn ps rest = refl
op_stops op.Subtract ps rest = refl
op_stops op.Add ps rest = refl
op_stops op.Multiply ps rest = refl
op_stops op.Percent ps rest = refl
op_stops op.Divide ps rest = refl
op_stops op.FloorDivide ps rest = refl
op_stops op.BitAnd ps rest = refl
op_stops op.BitOr ps rest = refl
op_stops op.BitXor ps rest = refl
op_stops op.LeftShift ps rest = refl
op_stops op.RightShift ps rest = refl

-- a unary operator
abbrev BeginsHere : Text → Type 0
BeginsHere rest = is_begin (first rest) ≡ true

minus_spelled : {c : Standing} → InLine c → Spells c (token tokens.Minus ∷ []) c BeginsHere
minus_spelled line = given_token tokens.Minus line (λ rest f. let b = begins (first rest) f in minus_given rest b.no_equal b.no_greater)

plus_spelled : {c : Standing} → InLine c → Spells c (token tokens.Plus ∷ []) c BeginsHere
plus_spelled line = given_token tokens.Plus line (λ rest f. plus_given rest (begins (first rest) f).no_equal)

tilde_spelled : {c : Standing} → InLine c → Spells c (token tokens.Tilde ∷ []) c Any
tilde_spelled line = given_token tokens.Tilde line (λ rest f. lone_given rest tilde)

pub star_star_spelled : {c : Standing} → InLine c → Spells c (token StarStar ∷ []) c Any
star_star_spelled line = given_token StarStar line (λ rest f. star_star_given rest)

-- what follows does not continue with `*`
pub record NoStar (rest : Text) : Type 0 where
  pub no_star : (first rest == 42) ≡ false
  pub no_equal : (first rest == 61) ≡ false

pub star_spelled : {c : Standing} → InLine c → Spells c (token Star ∷ []) c NoStar
star_spelled line = given_token Star line (λ rest f. star_given rest f.no_star f.no_equal)

begin_no_star : (rest : Text) → BeginsHere rest → NoStar rest
begin_no_star rest f = let b = begins (first rest) f in record { no_star = b.no_star; no_equal = b.no_equal }

-- a dot and a name
dotted_spelled : {c : Standing} (p : Bool) (w : Word) → InLine c → Sayable (name w) → Spells c (token Dot ∷ name w) c (StopsOr p)
dotted_spelled {c = c} p w line h =
    followed {F = λ rest. is_letter (first rest) ≡ true}
    (given_token Dot line (λ rest f. let after = letter_after_point (first rest) f in dot_given rest after.0 after.1)) (name_spelled p w line h)
    (λ rest f. name_letter w rest h)

-- in parentheses, if they are needed
in_brackets : {c : Standing} {ps : Pieces} (p q asked : Bool) → InLine c → Sayable (bracketed asked ps)
    → ((d : Standing) → InLine d → Sayable ps → Spells d ps d (StopsOr q)) → (asked ≡ false → (rest : Text) → StopsOr p rest → StopsOr q rest)
    → Spells c (bracketed asked ps) c (StopsOr p)
in_brackets {c = c} {ps = ps} p q true line h f g =
    weaken (round_spelled line (f (in_bracket c) (deeper_line c line) (split ps (token tokens.ClosingRound ∷ []) h).0) (λ rest. refl)) (λ rest k. tt)
in_brackets {c = c} p q false line h f g = weaken (f c line h) (g refl)

as_points : (asked : Bool) (rest : Text) → asked ≡ false → StopsOr true rest → StopsOr (not asked) rest
as_points asked rest is f = subst (λ b. StopsOr (not b) rest) (sym is) f

lambda_ends : {P : Payloads} (ps : t.Parameters P) (qs : Pieces) (rest : Text) → EndsName (write (lambda_parameters ps ++ (colon ++ qs)) rest)
lambda_ends t.no_parameters qs rest = record { no_more = refl; no_quote = refl }
lambda_ends (t.parameters p ps) qs rest = space_ends _

step_stops : {P : Payloads} (m : t.Maybe P) (rest : Text) → Stops rest → Stops (write (maybe_source (token Colon ∷ []) m) rest)
step_stops t.absent rest f = f
step_stops (t.present e) rest f = refl

clauses_stop : {P : Payloads} (cs : t.Clauses P) (rest : Text) → Stops rest → Stops (write (clauses_source cs) rest)
clauses_stop t.no_clauses rest f = f
clauses_stop (t.clauses (t.for_clause (t.for_in x over)) cs) rest f = refl
clauses_stop (t.clauses (t.if_clause e) cs) rest f = refl

for_stops : {P : Payloads} (c : t.ForIn P) (qs : Pieces) (rest : Text) → Stops (write (for_source c ++ qs) rest)
for_stops (t.for_in x over) qs rest = refl

no_type_spelled : {P : Payloads} {c : Standing} (ty : t.MaybeType P) → Sayable (no_type_source ty) → Spells c (no_type_source ty) c Any
no_type_spelled t.no_type h = nothing
no_type_spelled (t.typed s e p) h = absurd h

no_type_stops : {P : Payloads} (ty : t.MaybeType P) (rest : Text) → Sayable (no_type_source ty) → Stops rest → Stops (write (no_type_source ty) rest)
no_type_stops t.no_type rest h f = f
no_type_stops (t.typed s e p) rest h f = absurd h

pub default_stops : {P : Payloads} (m : t.Maybe P) (rest : Text) → Stops rest → Stops (write (maybe_source (between tokens.Equal) m) rest)
default_stops t.absent rest f = f
default_stops (t.present e) rest f = refl

-- the end of what is inside square brackets
square_ends : (rest : Text) → Stops (93 ∷ rest)
square_ends rest = refl

pair_spelled : {c : Standing} → InLine c → (k v : Pieces) → (Sayable k → Spells c k c Stops) → (Sayable v → Spells c v c Stops) → Sayable (k ++ (colon ++ v))
    → Spells c (k ++ (colon ++ v)) c Stops
pair_spelled line k v a b h =
    let x = split k (colon ++ v) h in followed (a x.0) (followed (colon_space line) (b x.1) (λ rest f. tt)) (λ rest f. refl)

-- an expression in the hole of an f-string
kept_hole : {c : Standing} (brace : Bool) (ps : Pieces) → InLine (in_hole c) → (Sayable ps → Spells (in_hole c) ps (in_hole c) Stops)
    → (Sayable ps → (rest : Text) → brace ≡ false → (first (write ps rest) == 123) ≡ false) → IsHole c (kept_apart brace ps)
kept_hole true ps line a b = record { spelled = λ h. followed (spaces 1 line) (a h) (λ rest f. tt); no_brace = λ h rest. refl }
kept_hole false ps line a b = record { spelled = a; no_brace = λ h rest. b h rest refl }

-- only a slash or a star
pub alone_slash : {c : Standing} → InLine c → Spells c (token Slash ∷ []) c Stops
alone_slash line = given_token Slash line (λ rest f. let other = no_signs rest f in slash_given rest other.1 other.2)

pub alone_star : {c : Standing} → InLine c → Spells c (token Star ∷ []) c Stops
alone_star line = given_token Star line (λ rest f. let other = no_signs rest f in star_given rest other.0 other.2)

-- a name after stars
pub starred_name : {c : Standing} (w : Word) → InLine c → Sayable (name w) → Spells c (token Star ∷ name w) c Stops
starred_name w line h =
    followed (star_spelled line) (name_spelled false w line h)
    (λ rest f. begin_no_star _ (letter_begins (first (write (name w) rest)) (name_letter w rest h)))

-- ---- expressions

module _ {P : Payloads} where
  mutual
    pub shape_spelled : (shape : t.Shape P) (c : Standing) → InLine c → Sayable (shape_source shape)
        → Spells c (shape_source shape) c (StopsOr (points shape))
    shape_spelled (t.Tuple es) c line h = weaken (tuple_spelled (tests es) line (tests_spelled es (in_bracket c) (deeper_line c line)) h) (λ rest f. tt)
    shape_spelled (t.Dot e w) c line h =
        let x = split (at_level level.Primary e) _ h in
        followed (primary_spelled e c line x.0) (dotted_spelled true w line x.1) (λ rest f. refl)
    shape_spelled (t.Call f xs) c line h =
        let x = split (at_level level.Number f) _ h in
        let y = split (listed (argument_sources xs)) _ x.1 in
        weaken
        (followed (level_spelled level.Number f c line x.0)
        (round_spelled line (listed_spelled (argument_sources xs) (deeper_line c line) (arguments_spelled xs (in_bracket c) (deeper_line c line)) y.0)
        (λ rest. refl)) (λ rest k. refl))
        (λ rest k. tt)
    shape_spelled (t.Index a i) c line h =
        let x = split (at_level level.Number a) _ h in
        weaken
        (followed (level_spelled level.Number a c line x.0)
        (square_spelled line (test_spelled i (in_bracket c) (deeper_line c line) (split (test i) _ x.1).0) square_ends) (λ rest k. refl)) (λ rest k. tt)
    shape_spelled (t.Index2 a i j) c line h =
        let x = split (at_level level.Number a) _ h in
        let y = split (test i) _ (split (test i ++ (comma ++ test j)) _ x.1).0 in
        let d = in_bracket c in
        let inside = deeper_line c line in
        weaken
        (followed (level_spelled level.Number a c line x.0)
        (square_spelled line
        (followed (test_spelled i d inside y.0) (followed (comma_space inside) (test_spelled j d inside y.1) (λ rest k. tt)) (λ rest k. refl)) square_ends)
        (λ rest k. refl)) (λ rest k. tt)
    shape_spelled (t.Slice a start stop step) c line h =
        let x = split (at_level level.Number a) _ h in
        let y = split (maybe_source [] start) _ (split (maybe_source [] start ++
        (token Colon ∷ [] ++ (maybe_source [] stop ++ maybe_source (token Colon ∷ []) step))) _ x.1).0 in
        let z = split (maybe_source [] stop) _ y.1 in
        let d = in_bracket c in
        let inside = deeper_line c line in
        weaken
        (followed (level_spelled level.Number a c line x.0)
        (square_spelled line
        (followed (bound_spelled start d inside y.0)
        (followed (colon_spelled inside) (followed (bound_spelled stop d inside z.0) (step_spelled step d inside z.1) (λ rest k. step_stops step rest k))
        (λ rest k. tt))
        (λ rest k. refl)) square_ends)
        (λ rest k. refl)) (λ rest k. tt)
    shape_spelled (t.Identifier w p) c line h = name_spelled true w line h
    shape_spelled (t.Lambda ps e p) c line h =
        let x = split (lambda_parameters ps) _ h in
        followed (word_spelled tokens.Lambda line words.9 refl refl)
        (followed (lambda_spelled ps c line x.0) (followed (colon_space line) (test_spelled e c line x.1) (λ rest k. tt)) (λ rest k. refl))
        (λ rest k. lambda_ends ps (test e) rest)
    shape_spelled (t.Constant x) c line h = subst (λ p. Spells c (literal x) c (StopsOr p)) (sym (literal_points x)) (literal_spelled x line h)
    shape_spelled (t.Not e) c line h = followed (word_space tokens.Not line words.11 refl refl) (level_spelled level.Not e c line h) (λ rest k. tt)
    shape_spelled (t.Minus e) c line h = followed (minus_spelled line) (level_spelled level.Unary e c line h)
        (λ rest k. (level_begins level.Unary e rest h).begin)
    shape_spelled (t.Plus e) c line h = followed (plus_spelled line) (level_spelled level.Unary e c line h)
        (λ rest k. (level_begins level.Unary e rest h).begin)
    shape_spelled (t.BitNot e) c line h = followed (tilde_spelled line) (level_spelled level.Unary e c line h) (λ rest k. tt)
    shape_spelled (t.Op l o r) c line h =
        let left = left_of (level_of_operator o) in
        let right = right_of (level_of_operator o) in
        let x = split (at_level left l) _ h in
        let y = split (operator o) _ x.1 in
        subst (λ p. Spells c (at_level left l ++ (operator o ++ at_level right r)) c (StopsOr p)) (sym (op_points o))
        (followed (level_spelled left l c line x.0) (followed (operator_spelled o line) (level_spelled right r c line y.1) (λ rest k. tt))
        (λ rest k. op_stops o (at_level right r) rest))
    shape_spelled (t.If q a b) c line h =
        let x = split (at_level level.Or a) _ h in
        let y = split (at_level level.Or q) _ x.1 in
        followed (level_spelled level.Or a c line x.0)
        (followed (word_between tokens.If line words.7 refl refl)
        (followed (level_spelled level.Or q c line y.0) (followed (word_between tokens.Else line words.5 refl refl) (test_spelled b c line y.1)
        (λ rest k. tt)) (λ rest k. refl))
        (λ rest k. tt)) (λ rest k. refl)
    shape_spelled (t.List es) c line h =
        let d = in_bracket c in
        let inside = deeper_line c line in
        weaken (square_spelled line (listed_spelled (tests es) inside (tests_spelled es d inside) (split (listed (tests es)) _ h).0) square_ends)
        (λ rest k. tt)
    shape_spelled (t.Dict ps) c line h =
        let d = in_bracket c in
        let inside = deeper_line c line in
        weaken (curly_spelled line (listed_spelled (pair_sources ps) inside (pairs_spelled ps d inside) (split (listed (pair_sources ps)) _ h).0)
        (λ rest. refl)) (λ rest k. tt)
    shape_spelled (t.ListComprehension e first cs) c line h =
        let d = in_bracket c in
        let inside = deeper_line c line in
        let x = split (test e) _ (split (test e ++ (for_source first ++ clauses_source cs)) _ h).0 in
        let y = split (for_source first) _ x.1 in
        weaken (square_spelled line
        (followed (test_spelled e d inside x.0)
        (followed (for_spelled first d inside y.0) (clauses_spelled cs d inside y.1) (λ rest k. clauses_stop cs rest k))
        (λ rest k. for_stops first (clauses_source cs) rest))
        square_ends) (λ rest k. tt)
    shape_spelled (t.DictComprehension k v first cs) c line h =
        let d = in_bracket c in
        let inside = deeper_line c line in
        let x = split (test k ++ (colon ++ test v)) _ (split ((test k ++ (colon ++ test v)) ++ (for_source first ++ clauses_source cs)) _ h).0 in
        let y = split (for_source first) _ x.1 in
        weaken (curly_spelled line
        (followed (pair_spelled inside (test k) (test v) (test_spelled k d inside) (test_spelled v d inside) x.0)
        (followed (for_spelled first d inside y.0) (clauses_spelled cs d inside y.1) (λ rest k. clauses_stop cs rest k))
        (λ rest k. for_stops first (clauses_source cs) rest))
        (λ rest. refl)) (λ rest k. tt)
    shape_spelled (t.FString s format es) c line h = f_string_spelled true s format.text (holes es) line (holes_spelled es c line.goes_on) h

    pub level_spelled : (k : Level) (e : t.Expression P) (c : Standing) → InLine c → Sayable (at_level k e) → Spells c (at_level k e) c Stops
    level_spelled k (t.expression s shape) c line h =
        in_brackets false (points shape) (is_looser (level_of shape) k) line h (λ d inside g. shape_spelled shape d inside g)
        (λ is rest f. with_point (points shape) rest f)

    -- a dot may come after it
    pub primary_spelled : (e : t.Expression P) (c : Standing) → InLine c → Sayable (at_level level.Primary e)
        → Spells c (at_level level.Primary e) c (StopsOr true)
    primary_spelled (t.expression s shape) c line h =
        in_brackets true (points shape) (is_looser (level_of shape) level.Primary) line h (λ d inside g. shape_spelled shape d inside g)
        (λ is rest f. as_points (is_looser (level_of shape) level.Primary) rest is f)

    pub test_spelled : (e : t.Expression P) (c : Standing) → InLine c → Sayable (test e) → Spells c (test e) c Stops
    test_spelled (t.expression s shape) c line h = weaken (shape_spelled shape c line h) (λ rest f. with_point (points shape) rest f)

    pub tests_spelled : (es : t.Expressions P) (c : Standing) → InLine c → AreSpelled c (tests es)
    tests_spelled t.no_expressions c line = tt
    tests_spelled (t.expressions e es) c line = (λ h. test_spelled e c line h, tests_spelled es c line)

    holes_spelled : (es : t.Expressions P) (c : Standing) → c.line_begins ≡ false → AreHoles c (holes es)
    holes_spelled t.no_expressions c goes_on = tt
    holes_spelled (t.expressions e es) c goes_on = (hole_spelled e c goes_on, holes_spelled es c goes_on)

    hole_spelled : (e : t.Expression P) (c : Standing) → c.line_begins ≡ false → IsHole c (kept_apart (begins_with_brace e) (test e))
    hole_spelled (t.expression s shape) c goes_on =
        let line = hole_line c goes_on in
        kept_hole (shape_begins_with_brace shape) (shape_source shape) line
        (λ h. weaken (shape_spelled shape (in_hole c) line h) (λ rest f. with_point (points shape) rest f)) (λ h rest. (shape_begins shape rest h).no_brace)

    bound_spelled : (m : t.Maybe P) (c : Standing) → InLine c → Sayable (maybe_source [] m) → Spells c (maybe_source [] m) c Stops
    bound_spelled t.absent c line h = weaken nothing (λ rest f. tt)
    bound_spelled (t.present e) c line h = test_spelled e c line h

    step_spelled : (m : t.Maybe P) (c : Standing) → InLine c → Sayable (maybe_source (token Colon ∷ []) m)
        → Spells c (maybe_source (token Colon ∷ []) m) c Stops
    step_spelled t.absent c line h = weaken nothing (λ rest f. tt)
    step_spelled (t.present e) c line h = followed (colon_spelled line) (test_spelled e c line h) (λ rest f. tt)

    -- a default value
    pub value_spelled : (m : t.Maybe P) (c : Standing) → InLine c → Sayable (maybe_source (between tokens.Equal) m)
        → Spells c (maybe_source (between tokens.Equal) m) c Stops
    value_spelled t.absent c line h = weaken nothing (λ rest f. tt)
    value_spelled (t.present e) c line h = followed (equal_spelled line) (test_spelled e c line h) (λ rest f. tt)

    pairs_spelled : (ps : t.Pairs P) (c : Standing) → InLine c → AreSpelled c (pair_sources ps)
    pairs_spelled t.no_pairs c line = tt
    pairs_spelled (t.pairs k v ps) c line = (pair_spelled line (test k) (test v) (test_spelled k c line) (test_spelled v c line), pairs_spelled ps c line)

    argument_spelled : (x : t.Argument P) (c : Standing) → InLine c → Sayable (argument_source x) → Spells c (argument_source x) c Stops
    argument_spelled (t.Positional s e) c line h = test_spelled e c line h
    argument_spelled (t.Named s w e) c line h =
        let x = split (name w) _ h in
        followed (name_spelled false w line x.0) (followed (equal_spelled line) (test_spelled e c line x.1) (λ rest f. tt)) (λ rest f. refl)
    argument_spelled (t.Star s e) c line h = followed (star_spelled line) (test_spelled e c line h) (λ rest f. begin_no_star _ (test_begins e rest h).begin)
    argument_spelled (t.StarStar s e) c line h = followed (star_star_spelled line) (test_spelled e c line h) (λ rest f. tt)

    arguments_spelled : (xs : t.Arguments P) (c : Standing) → InLine c → AreSpelled c (argument_sources xs)
    arguments_spelled t.no_arguments c line = tt
    arguments_spelled (t.arguments x xs) c line = (λ h. argument_spelled x c line h, arguments_spelled xs c line)

    parameter_spelled : (x : t.Parameter P) (c : Standing) → InLine c → Sayable (lambda_parameter x) → Spells c (lambda_parameter x) c Stops
    parameter_spelled (t.Slash s) c line h = alone_slash line
    parameter_spelled (t.Normal s w p t.no_type value) c line h =
        let x = split (name w) _ h in
        followed (name_spelled false w line x.0) (value_spelled value c line x.1) (λ rest f. default_stops value rest f)
    parameter_spelled (t.Normal s w p (t.typed r e q) value) c line h = absurd (split (name w) _ h).1
    parameter_spelled (t.NoArgs s) c line h = alone_star line
    parameter_spelled (t.Args s w p t.no_type) c line h =
        subst (λ ps. Spells c (token Star ∷ ps) c Stops) (sym (append-nil (name w))) (starred_name w line (split (name w) _ h).0)
    parameter_spelled (t.Args s w p (t.typed r e q)) c line h = absurd (split (name w) _ h).1
    parameter_spelled (t.KwArgs s w p t.no_type) c line h =
        subst (λ ps. Spells c (token StarStar ∷ ps) c Stops) (sym (append-nil (name w)))
        (followed (star_star_spelled line) (name_spelled false w line (split (name w) _ h).0) (λ rest f. tt))
    parameter_spelled (t.KwArgs s w p (t.typed r e q)) c line h = absurd (split (name w) _ h).1

    parameters_spelled : (xs : t.Parameters P) (c : Standing) → InLine c → AreSpelled c (lambda_parameter_sources xs)
    parameters_spelled t.no_parameters c line = tt
    parameters_spelled (t.parameters x xs) c line = (λ h. parameter_spelled x c line h, parameters_spelled xs c line)

    lambda_spelled : (xs : t.Parameters P) (c : Standing) → InLine c → Sayable (lambda_parameters xs) → Spells c (lambda_parameters xs) c Stops
    lambda_spelled t.no_parameters c line h = weaken nothing (λ rest f. tt)
    lambda_spelled (t.parameters x xs) c line h =
        followed (spaces 1 line)
        (listed_spelled (lambda_parameter x ∷ lambda_parameter_sources xs) line (λ g. parameter_spelled x c line g, parameters_spelled xs c line) h)
        (λ rest f. tt)

    pub for_spelled : (f : t.ForIn P) (c : Standing) → InLine c → Sayable (for_source f) → Spells c (for_source f) c Stops
    for_spelled (t.for_in x e) c line h =
        let y = split (target_source true x) _ h in
        followed (word_between tokens.For line words.6 refl refl)
        (followed (target_spelled x true c line y.0) (followed (word_between tokens.In line words.8 refl refl) (level_spelled level.Or e c line y.1)
        (λ rest f. tt)) (λ rest f. refl))
        (λ rest f. tt)

    clauses_spelled : (cs : t.Clauses P) (c : Standing) → InLine c → Sayable (clauses_source cs) → Spells c (clauses_source cs) c Stops
    clauses_spelled t.no_clauses c line h = weaken nothing (λ rest f. tt)
    clauses_spelled (t.clauses (t.for_clause f) cs) c line h =
        let y = split (for_source f) _ h in
        followed (for_spelled f c line y.0) (clauses_spelled cs c line y.1) (λ rest k. clauses_stop cs rest k)
    clauses_spelled (t.clauses (t.if_clause e) cs) c line h =
        let y = split (between tokens.If ++ at_level level.Or e) _ h in
        followed (followed (word_between tokens.If line words.7 refl refl) (level_spelled level.Or e c line y.0) (λ rest k. tt))
        (clauses_spelled cs c line y.1)
        (λ rest k. clauses_stop cs rest k)

    pub target_spelled : (x : t.Target P) (in_list : Bool) (c : Standing) → InLine c → Sayable (target_source in_list x)
        → Spells c (target_source in_list x) c Stops
    target_spelled (t.TupleTarget s xs) in_list c line h =
        tupled_spelled in_list (target_sources xs) line (targets_spelled xs c line) (targets_spelled xs (in_bracket c) (deeper_line c line)) h
    target_spelled (t.IndexTarget s a i) in_list c line h =
        let x = split (at_level level.Number a) _ h in
        weaken
        (followed (level_spelled level.Number a c line x.0)
        (square_spelled line (test_spelled i (in_bracket c) (deeper_line c line) (split (test i) _ x.1).0) square_ends) (λ rest k. refl)) (λ rest k. tt)
    target_spelled (t.DotTarget s e w) in_list c line h =
        let x = split (at_level level.Primary e) _ h in
        followed (primary_spelled e c line x.0) (dotted_spelled false w line x.1) (λ rest f. refl)
    target_spelled (t.NameTarget s w p) in_list c line h = name_spelled false w line h

    pub targets_spelled : (xs : t.Targets P) (c : Standing) → InLine c → AreSpelled c (target_sources xs)
    targets_spelled t.no_targets c line = tt
    targets_spelled (t.targets x xs) c line = (λ h. target_spelled x false c line h, targets_spelled xs c line)
