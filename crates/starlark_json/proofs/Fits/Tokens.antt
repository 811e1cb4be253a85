-- A derivation of tokens that fit spans from a number of 64 bits to another.
use Rattle.std.proofs.Common.{ℕ, ◌^◌, ◌<◌, List as Seq, [], ◌∷◌, arith}
use Rattle.std.specs.Bool.{⊤}
use Rattle.std.specs.List.{AllByRecursion}
use Rattle.starlark_lexer.specs.Tokens.{Lexeme, Terminal, Int, Bytes}
use Rattle.starlark_spec.specs.Grammar.{Derivation, Nonterminal, RightSide, right_side, side_yield}
use Rattle.starlark_spec.specs.Grammar.RightSide.{nothing, word, ◌⨾◌, marked, tokens_end}
use Rattle.starlark_spec.specs.Trees.{begin_of, end_of_last, derivation_span}
use Rattle.starlark_json.specs.Tree.Fitting.{SpanFits, NumberFits, BytesFit}

-- what a token says fits
abbrev pub TokenFits : Terminal → Type 0
TokenFits (Int n) = NumberFits n
TokenFits (Bytes bytes) = BytesFit bytes
TokenFits _ = ⊤

abbrev pub LexemeFits : Lexeme → Type 0
LexemeFits l = TokenFits l.token × SpanFits l.span

abbrev pub AllFit : Seq Lexeme → Type 0
AllFit = AllByRecursion LexemeFits

-- the tokens of a right side fit
abbrev pub SideFits : RightSide → Type 0
SideFits nothing = ⊤
SideFits (word token span) = TokenFits token × SpanFits span
SideFits (a ⨾ b) = SideFits a × SideFits b
SideFits (marked x a) = SideFits a
SideFits tokens_end = ⊤

rest_fits : (a : RightSide) (rest : Seq Lexeme) → AllFit (side_yield a rest) → AllFit rest
rest_fits nothing rest h = h
rest_fits (word token span) rest h = h.1
rest_fits (a ⨾ b) rest h = rest_fits b rest (rest_fits a (side_yield b rest) h)
rest_fits (marked x a) rest h = rest_fits a rest h
rest_fits tokens_end rest h = h

pub side_fits : (a : RightSide) (rest : Seq Lexeme) → AllFit (side_yield a rest) → SideFits a
side_fits nothing rest h = tt
side_fits (word token span) rest h = h.0
side_fits (a ⨾ b) rest h = (side_fits a (side_yield b rest) h, side_fits b rest (rest_fits a (side_yield b rest) h))
side_fits (marked x a) rest h = side_fits a rest h
side_fits tokens_end rest h = tt

-- ---- spans of derivations

yield_fits : (a : RightSide) (rest : Seq Lexeme) → SideFits a → AllFit rest → AllFit (side_yield a rest)
yield_fits nothing rest h k = k
yield_fits (word token span) rest h k = (h, k)
yield_fits (a ⨾ b) rest h k = yield_fits a (side_yield b rest) h.0 (yield_fits b rest h.1 k)
yield_fits (marked x a) rest h k = yield_fits a rest h k
yield_fits tokens_end rest h k = k

begin_fits : (ls : Seq Lexeme) → AllFit ls → begin_of ls < 2 ^ 64
begin_fits [] h = omega arith
begin_fits (l ∷ ls) h = h.0.1.begin

pub yield_begin_fits : (a : RightSide) → SideFits a → begin_of (side_yield a []) < 2 ^ 64
yield_begin_fits a h = begin_fits (side_yield a []) (yield_fits a [] h tt)

pub end_fits : (a : RightSide) (before : ℕ) → SideFits a → before < 2 ^ 64 → end_of_last a before < 2 ^ 64
end_fits nothing before h k = k
end_fits (word token span) before h k = h.1.end
end_fits (a ⨾ b) before h k = end_fits b (end_of_last a before) h.1 (end_fits a before h.0 k)
end_fits (marked x a) before h k = end_fits a before h k
end_fits tokens_end before h k = k

pub span_fits : {n : Nonterminal} (d : Derivation n) → SideFits (right_side d) → SpanFits (derivation_span d)
span_fits d h = record { begin = yield_begin_fits (right_side d) h; end = end_fits (right_side d) 0 h (omega arith) }
