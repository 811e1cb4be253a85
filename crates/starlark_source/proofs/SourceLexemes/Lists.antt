-- Operators, delimiters, and lists with commas.
use Rattle.std.proofs.Common.{◌≡◌, ℕ, Bool, true, false, List as Seq, [], ◌∷◌, ◌++◌, flat_map, Some, refl, sym, subst}
use Rattle.std.specs.Bool.{⊤}
use Rattle.std.specs.List.{list_all}
use Rattle.starlark_lexer.specs.Newlines.{first}
use Rattle.starlark_lexer.specs.Classes.{is_letter, is_name_byte}
use Rattle.starlark_lexer.specs.Tokens.{Text, Terminal, Comma, OpeningRound, ClosingRound, OpeningSquare, ClosingSquare, OpeningCurly, ClosingCurly}
use Rattle.starlark_lexer.specs.Tokens as tokens
use Rattle.starlark_lexer.specs.Words.{keyword}
use Rattle.starlark_tree.specs.declared.ast.operator.BinOp.{BinOp}
use Rattle.starlark_tree.specs.declared.ast.operator.BinOp.TheVariants as op
use Rattle.starlark_source.specs.Pieces.{Pieces, token, blank, spelled, comma, listed, in_tuple, in_round, in_square, in_curly, between, tupled}
use Rattle.starlark_source.specs.Source.{operator, colon}
use Rattle.starlark_source.specs.SourceTokens.{is_dedent}
use Rattle.starlark_lexer.proofs.TokenTexts.LexerStates.{Standing, At}
use Rattle.starlark_lexer.proofs.TokenTexts.LineTokens.{InLine}
use Rattle.starlark_lexer.proofs.TokenTexts.Names.{EndsName}
use Rattle.starlark_lexer.proofs.TokenTexts.Operators.{comma as lone_comma, colon as lone_colon, lone_given, spaced_given, plus, minus, star, slash, percent}
use Rattle.starlark_lexer.proofs.TokenTexts.Operators.{ampersand, pipe, caret, less_than, greater_than, equal, slash_slash, less_less, greater_greater}
use Rattle.starlark_lexer.proofs.TokenTexts.Operators.{less_equal, greater_equal, equal_equal, bang_equal}
use Rattle.starlark_lexer.proofs.TokenTexts.Brackets.{in_bracket, Opening, Closing, round, square, curly, end_round, end_square, end_curly, bracket_opens}
use Rattle.starlark_lexer.proofs.TokenTexts.Brackets.{bracket_closes, deeper_line}
use Rattle.starlark_source.proofs.ReadBack.Writing.{Sayable, split}
use Rattle.starlark_source.proofs.SourceLexemes.Pieces.{write, one_token, Spells, followed}
use Rattle.starlark_source.proofs.SourceLexemes.NextBytes.{Stops, Any}
use Rattle.starlark_source.proofs.SourceLexemes.Tokens.{given_token, spaces, nothing, spaced_token, weaken, keyword_token, words, space_ends}

-- ---- keywords and operators

pub word_spelled : {c : Standing} (t : Terminal) → InLine c → keyword (spelled t) ≡ Some t → list_all is_name_byte (spelled t) ≡ true
    → is_letter (first (spelled t)) ≡ true
    → Spells c (token t ∷ []) c EndsName
word_spelled t line is all letter = given_token t line (λ rest f. keyword_token t rest is all letter f)

pub word_between : {c : Standing} (t : Terminal) → InLine c → keyword (spelled t) ≡ Some t → list_all is_name_byte (spelled t) ≡ true
    → is_letter (first (spelled t)) ≡ true
    → Spells c (between t) c Any
word_between t line is all letter = spaced_token t line (λ rest. keyword_token t (32 ∷ rest) is all letter (space_ends rest))

-- a keyword and a space
pub word_space : {c : Standing} (t : Terminal) → InLine c → keyword (spelled t) ≡ Some t → list_all is_name_byte (spelled t) ≡ true
    → is_letter (first (spelled t)) ≡ true
    → Spells c (token t ∷ blank 1 ∷ []) c Any
word_space t line is all letter = followed (word_spelled t line is all letter) (spaces 1 line) (λ rest f. space_ends rest)

pub operator_spelled : {c : Standing} (o : BinOp) → InLine c → Spells c (operator o) c Any
operator_spelled op.Or line = word_between tokens.Or line words.12 refl refl
operator_spelled op.And line = word_between tokens.And line words.0 refl refl
operator_spelled op.Equal line = spaced_token tokens.EqualEqual line (λ rest. spaced_given rest equal_equal)
operator_spelled op.NotEqual line = spaced_token tokens.BangEqual line (λ rest. spaced_given rest bang_equal)
operator_spelled op.Less line = spaced_token tokens.LessThan line (λ rest. spaced_given rest less_than)
operator_spelled op.Greater line = spaced_token tokens.GreaterThan line (λ rest. spaced_given rest greater_than)
operator_spelled op.LessOrEqual line = spaced_token tokens.LessEqual line (λ rest. spaced_given rest less_equal)
operator_spelled op.GreaterOrEqual line = spaced_token tokens.GreaterEqual line (λ rest. spaced_given rest greater_equal)
operator_spelled op.In line = word_between tokens.In line words.8 refl refl
operator_spelled op.NotIn line =
    followed (spaces 1 line) (followed (word_spelled tokens.Not line words.11 refl refl) (word_between tokens.In line words.8 refl refl)
    (λ rest f. space_ends _)) (λ rest f. tt)
operator_spelled op.Subtract line = spaced_token tokens.Minus line (λ rest. spaced_given rest minus)
operator_spelled op.Add line = spaced_token tokens.Plus line (λ rest. spaced_given rest plus)
operator_spelled op.Multiply line = spaced_token tokens.Star line (λ rest. spaced_given rest star)
operator_spelled op.Percent line = spaced_token tokens.Percent line (λ rest. spaced_given rest percent)
operator_spelled op.Divide line = spaced_token tokens.Slash line (λ rest. spaced_given rest slash)
operator_spelled op.FloorDivide line = spaced_token tokens.SlashSlash line (λ rest. spaced_given rest slash_slash)
operator_spelled op.BitAnd line = spaced_token tokens.Ampersand line (λ rest. spaced_given rest ampersand)
operator_spelled op.BitOr line = spaced_token tokens.Pipe line (λ rest. spaced_given rest pipe)
operator_spelled op.BitXor line = spaced_token tokens.Caret line (λ rest. spaced_given rest caret)
operator_spelled op.LeftShift line = spaced_token tokens.LessLess line (λ rest. spaced_given rest less_less)
operator_spelled op.RightShift line = spaced_token tokens.GreaterGreater line (λ rest. spaced_given rest greater_greater)

pub equal_spelled : {c : Standing} → InLine c → Spells c (between tokens.Equal) c Any
equal_spelled line = spaced_token tokens.Equal line (λ rest. spaced_given rest equal)

pub comma_spelled : {c : Standing} → InLine c → Spells c (token Comma ∷ []) c Any
comma_spelled line = given_token Comma line (λ rest f. lone_given rest lone_comma)

pub colon_spelled : {c : Standing} → InLine c → Spells c (token tokens.Colon ∷ []) c Any
colon_spelled line = given_token tokens.Colon line (λ rest f. lone_given rest lone_colon)

-- with a space after it
pub comma_space : {c : Standing} → InLine c → Spells c comma c Any
comma_space line = followed (comma_spelled line) (spaces 1 line) (λ rest f. tt)

pub colon_space : {c : Standing} → InLine c → Spells c colon c Any
colon_space line = followed (colon_spelled line) (spaces 1 line) (λ rest f. tt)

-- ---- delimiters

opens_spelled : {c : Standing} (t : Terminal) (a : ℕ) → is_dedent t ≡ false → spelled t ≡ a ∷ [] → InLine c → Opening t a
    → Spells c (token t ∷ []) (in_bracket c) Any
opens_spelled {c = c} t a other is line o = record {
  spells = λ rest us f r. one_token {c = c} {d = in_bracket c} {rest = rest} {text = spelled t ++ rest} {us = us} t other
      (λ ts h. subst (λ x. At c (x ++ rest) (t ∷ ts)) (sym is) (bracket_opens line o h)) r;
}

closes_spelled : {c : Standing} (t : Terminal) (a : ℕ) → is_dedent t ≡ false → spelled t ≡ a ∷ [] → InLine c → Closing t a
    → Spells (in_bracket c) (token t ∷ []) c Any
closes_spelled {c = c} t a other is line o = record {
  spells = λ rest us f r. one_token {c = in_bracket c} {d = c} {rest = rest} {text = spelled t ++ rest} {us = us} t other
      (λ ts h. subst (λ x. At (in_bracket c) (x ++ rest) (t ∷ ts)) (sym is) (bracket_closes line o h)) r;
}

module _ {c : Standing} {F : Text → Type 0} {ps : Pieces} (line : InLine c) (inside : Spells (in_bracket c) ps (in_bracket c) F) where
  pub round_spelled : ((rest : Text) → F (41 ∷ rest)) → Spells c (in_round ps) c Any
  round_spelled h =
      followed (opens_spelled OpeningRound 40 refl refl line round)
      (followed inside (closes_spelled ClosingRound 41 refl refl line end_round) (λ rest f. h rest)) (λ rest f. tt)

  pub square_spelled : ((rest : Text) → F (93 ∷ rest)) → Spells c (in_square ps) c Any
  square_spelled h =
      followed (opens_spelled OpeningSquare 91 refl refl line square)
      (followed inside (closes_spelled ClosingSquare 93 refl refl line end_square) (λ rest f. h rest)) (λ rest f. tt)

  pub curly_spelled : ((rest : Text) → F (125 ∷ rest)) → Spells c (in_curly ps) c Any
  curly_spelled h =
      followed (opens_spelled OpeningCurly 123 refl refl line curly)
      (followed inside (closes_spelled ClosingCurly 125 refl refl line end_curly) (λ rest f. h rest)) (λ rest f. tt)

-- ---- lists

-- each of these, if a text denotes it
abbrev pub AreSpelled : Standing → Seq Pieces → Type 0
AreSpelled c [] = ⊤
AreSpelled c (p ∷ ps) = (Sayable p → Spells c p c Stops) × AreSpelled c ps

rest_stops : (ps : Seq Pieces) (rest : Text) → Stops rest → Stops (write (flat_map (λ q. comma ++ q) ps) rest)
rest_stops [] rest h = h
rest_stops (q ∷ qs) rest h = refl

pub rest_spelled : {c : Standing} (ps : Seq Pieces) → InLine c → AreSpelled c ps → Sayable (flat_map (λ q. comma ++ q) ps)
    → Spells c (flat_map (λ q. comma ++ q) ps) c Stops
rest_spelled [] line are h = weaken nothing (λ rest f. tt)
rest_spelled (q ∷ qs) line are h =
    let parts = split (comma ++ q) (flat_map (λ q. comma ++ q) qs) h in
    followed (followed (comma_space line) (are.0 parts.0) (λ rest f. tt)) (rest_spelled qs line are.1 parts.1) (λ rest f. rest_stops qs rest f)

pub listed_spelled : {c : Standing} (ps : Seq Pieces) → InLine c → AreSpelled c ps → Sayable (listed ps) → Spells c (listed ps) c Stops
listed_spelled [] line are h = weaken nothing (λ rest f. tt)
listed_spelled (p ∷ ps) line are h =
    let parts = split p (flat_map (λ q. comma ++ q) ps) h in
    followed (are.0 parts.0) (rest_spelled ps line are.1 parts.1) (λ rest f. rest_stops ps rest f)

-- the elements of a tuple in its parentheses
in_tuple_spelled : {c : Standing} (ps : Seq Pieces) → InLine c → AreSpelled c ps → Sayable (in_tuple ps) → Spells c (in_tuple ps) c Stops
in_tuple_spelled [] line are h = weaken nothing (λ rest f. tt)
in_tuple_spelled (p ∷ []) line are h = weaken (followed (are.0 (split p (token Comma ∷ []) h).0) (comma_spelled line) (λ rest f. refl)) (λ rest f. tt)
in_tuple_spelled (p ∷ q ∷ ps) line are h = listed_spelled (p ∷ q ∷ ps) line are h

pub tuple_spelled : {c : Standing} (ps : Seq Pieces) → InLine c → AreSpelled (in_bracket c) ps → Sayable (in_round (in_tuple ps))
    → Spells c (in_round (in_tuple ps)) c Any
tuple_spelled {c = c} ps line are h =
    round_spelled line (in_tuple_spelled ps (deeper_line c line) are (split (in_tuple ps) (token ClosingRound ∷ []) h).0) (λ rest. refl)

-- a tuple, where a list is allowed or in its parentheses
pub tupled_spelled : {c : Standing} (in_list : Bool) (ps : Seq Pieces) → InLine c → AreSpelled c ps → AreSpelled (in_bracket c) ps
    → Sayable (tupled in_list ps)
    → Spells c (tupled in_list ps) c Stops
tupled_spelled false ps line are inside h = weaken (tuple_spelled ps line inside h) (λ rest f. tt)
tupled_spelled true [] line are inside h = weaken (tuple_spelled [] line inside h) (λ rest f. tt)
tupled_spelled true (p ∷ []) line are inside h = weaken (tuple_spelled (p ∷ []) line inside h) (λ rest f. tt)
tupled_spelled true (p ∷ q ∷ ps) line are inside h = listed_spelled (p ∷ q ∷ ps) line are h
