-- Atoms, comprehensions, f-strings and lists with other spans.
use Rattle.std.proofs.Common.{◌∷◌, refl, ap, ◌∙◌}
use Rattle.starlark_lexer.specs.Tokens.{Text, Number, Span, lexeme, Identifier, Int, Float, String, Bytes, Comma, OpeningRound, nowhere}
use Rattle.starlark_lexer.specs.Tokens.{ClosingRound, OpeningSquare, ClosingSquare, OpeningCurly, ClosingCurly, FStringStart, FStringText, FStringExprStart}
use Rattle.starlark_lexer.specs.Tokens.{FStringBang, FStringExprEnd, FStringEnd}
use Rattle.starlark_lexer.specs.Tokens as tokens
use Rattle.starlark_spec.specs.Grammar.{Nonterminal, ElementKind, ElementOf, Derivation}
use Rattle.starlark_spec.specs.Grammar.{yield_of}
use Rattle.starlark_spec.specs.Grammar.Nonterminal.{Test, LeftAssociative, Entry, LoopVars}
use Rattle.starlark_spec.specs.Grammar.Nonterminal.{ForClause, Clauses, FStringParts, Conversion, OptionalList, CommaList}
use Rattle.starlark_spec.specs.Grammar.ElementKind.{elements, entries, variables}
use Rattle.starlark_spec.specs.Grammar.PrecedenceLevel.{or_precedence}
use Rattle.starlark_lexer.specs.declared.token.FStringQuote.{FStringQuote}
use Rattle.starlark_spec.specs.Grammar.Derivation.{atom_name, atom_int, atom_float, atom_string}
use Rattle.starlark_spec.specs.Grammar.Derivation.{atom_bytes, atom_ellipsis, atom_round, atom_square, atom_curly, atom_list_comprehension}
use Rattle.starlark_spec.specs.Grammar.Derivation.{atom_dict_comprehension, atom_f_string, vars_plain, vars_comma, for_clause, clauses_one, clauses_for}
use Rattle.starlark_spec.specs.Grammar.Derivation.{clauses_if, parts_none, parts_text, parts_replacement, conversion_default, conversion_absent}
use Rattle.starlark_spec.specs.Grammar.Derivation.{conversion_name, optional_list_none, optional_list_plain, optional_list_comma, comma_list_one}
use Rattle.starlark_spec.specs.Grammar.Derivation.{comma_list_more}
use Rattle.starlark_source.proofs.Spans.Moves.{word_of, Moves, given}

pub moved_atom_name : (name : Text) (name_at : Span) → Moves (atom_name name name_at)
moved_atom_name name name_at = record {
  moves = λ c ls ts h.
      given (word_of (Identifier name) ls h) λ x0.
      record {
        derivation = atom_name name x0.span;
        rest = x0.rest;
        yields = x0.yields;
        left = x0.left;
        same = refl;
        closed = tt;
      };
}

pub moved_atom_int : (n : Number) (s : Span) → Moves (atom_int n s)
moved_atom_int n s = record {
  moves = λ c ls ts h.
      given (word_of (Int n) ls h) λ x0.
      record {
        derivation = atom_int n x0.span;
        rest = x0.rest;
        yields = x0.yields;
        left = x0.left;
        same = refl;
        closed = tt;
      };
}

pub moved_atom_float : (text : Text) (s : Span) → Moves (atom_float text s)
moved_atom_float text s = record {
  moves = λ c ls ts h.
      given (word_of (Float text) ls h) λ x0.
      record {
        derivation = atom_float text x0.span;
        rest = x0.rest;
        yields = x0.yields;
        left = x0.left;
        same = refl;
        closed = tt;
      };
}

pub moved_atom_string : (text : Text) (s : Span) → Moves (atom_string text s)
moved_atom_string text s = record {
  moves = λ c ls ts h.
      given (word_of (String text) ls h) λ x0.
      record {
        derivation = atom_string text x0.span;
        rest = x0.rest;
        yields = x0.yields;
        left = x0.left;
        same = refl;
        closed = tt;
      };
}

pub moved_atom_bytes : (text : Text) (s : Span) → Moves (atom_bytes text s)
moved_atom_bytes text s = record {
  moves = λ c ls ts h.
      given (word_of (Bytes text) ls h) λ x0.
      record {
        derivation = atom_bytes text x0.span;
        rest = x0.rest;
        yields = x0.yields;
        left = x0.left;
        same = refl;
        closed = tt;
      };
}

pub moved_atom_ellipsis : (s : Span) → Moves (atom_ellipsis s)
moved_atom_ellipsis s = record {
  moves = λ c ls ts h.
      given (word_of tokens.Ellipsis ls h) λ x0.
      record {
        derivation = atom_ellipsis x0.span;
        rest = x0.rest;
        yields = x0.yields;
        left = x0.left;
        same = refl;
        closed = tt;
      };
}

pub moved_atom_round : (opening_at : Span) (inside : Derivation (OptionalList elements)) (closing_at : Span) → Moves inside
    → Moves (atom_round opening_at inside closing_at)
moved_atom_round opening_at inside closing_at m_inside = record {
  moves = λ c ls ts h.
      given (word_of OpeningRound ls h) λ x0.
      given (m_inside.moves c.1.0 x0.rest _ x0.left) λ x1.
      given (word_of ClosingRound x1.rest x1.left) λ x2.
      record {
        derivation = atom_round x0.span x1.derivation x2.span;
        rest = x2.rest;
        yields = x0.yields ∙ ap (λ l. lexeme OpeningRound x0.span ∷ l) (x1.yields ∙ ap (λ l. yield_of x1.derivation l) (x2.yields));
        left = x2.left;
        same = λ i. atom_round nowhere (x1.same i) nowhere;
        closed = (tt, (x1.closed, tt));
      };
}

pub moved_atom_square : (opening_at : Span) (inside : Derivation (OptionalList elements)) (closing_at : Span) → Moves inside
    → Moves (atom_square opening_at inside closing_at)
moved_atom_square opening_at inside closing_at m_inside = record {
  moves = λ c ls ts h.
      given (word_of OpeningSquare ls h) λ x0.
      given (m_inside.moves c.1.0 x0.rest _ x0.left) λ x1.
      given (word_of ClosingSquare x1.rest x1.left) λ x2.
      record {
        derivation = atom_square x0.span x1.derivation x2.span;
        rest = x2.rest;
        yields = x0.yields ∙ ap (λ l. lexeme OpeningSquare x0.span ∷ l) (x1.yields ∙ ap (λ l. yield_of x1.derivation l) (x2.yields));
        left = x2.left;
        same = λ i. atom_square nowhere (x1.same i) nowhere;
        closed = (tt, (x1.closed, tt));
      };
}

pub moved_atom_curly : (opening_at : Span) (inside : Derivation (OptionalList entries)) (closing_at : Span) → Moves inside
    → Moves (atom_curly opening_at inside closing_at)
moved_atom_curly opening_at inside closing_at m_inside = record {
  moves = λ c ls ts h.
      given (word_of OpeningCurly ls h) λ x0.
      given (m_inside.moves c.1.0 x0.rest _ x0.left) λ x1.
      given (word_of ClosingCurly x1.rest x1.left) λ x2.
      record {
        derivation = atom_curly x0.span x1.derivation x2.span;
        rest = x2.rest;
        yields = x0.yields ∙ ap (λ l. lexeme OpeningCurly x0.span ∷ l) (x1.yields ∙ ap (λ l. yield_of x1.derivation l) (x2.yields));
        left = x2.left;
        same = λ i. atom_curly nowhere (x1.same i) nowhere;
        closed = (tt, (x1.closed, tt));
      };
}

pub moved_atom_list_comprehension : (opening_at : Span) (element : Derivation Test) (clauses : Derivation Clauses) (closing_at : Span) → Moves element
    → Moves clauses → Moves (atom_list_comprehension opening_at element clauses closing_at)
moved_atom_list_comprehension opening_at element clauses closing_at m_element m_clauses = record {
  moves = λ c ls ts h.
      given (word_of OpeningSquare ls h) λ x0.
      given (m_element.moves c.1.0 x0.rest _ x0.left) λ x1.
      given (m_clauses.moves c.1.1.0 x1.rest _ x1.left) λ x2.
      given (word_of ClosingSquare x2.rest x2.left) λ x3.
      record {
        derivation = atom_list_comprehension x0.span x1.derivation x2.derivation x3.span;
        rest = x3.rest;
        yields = x0.yields ∙ ap (λ l. lexeme OpeningSquare x0.span ∷ l)
            (x1.yields ∙ ap (λ l. yield_of x1.derivation l) (x2.yields ∙ ap (λ l. yield_of x2.derivation l) (x3.yields)));
        left = x3.left;
        same = λ i. atom_list_comprehension nowhere (x1.same i) (x2.same i) nowhere;
        closed = (tt, (x1.closed, (x2.closed, tt)));
      };
}

pub moved_atom_dict_comprehension : (opening_at : Span) (pair : Derivation Entry) (clauses : Derivation Clauses) (closing_at : Span) → Moves pair
    → Moves clauses
    → Moves (atom_dict_comprehension opening_at pair clauses closing_at)
moved_atom_dict_comprehension opening_at pair clauses closing_at m_pair m_clauses = record {
  moves = λ c ls ts h.
      given (word_of OpeningCurly ls h) λ x0.
      given (m_pair.moves c.1.0 x0.rest _ x0.left) λ x1.
      given (m_clauses.moves c.1.1.0 x1.rest _ x1.left) λ x2.
      given (word_of ClosingCurly x2.rest x2.left) λ x3.
      record {
        derivation = atom_dict_comprehension x0.span x1.derivation x2.derivation x3.span;
        rest = x3.rest;
        yields = x0.yields ∙ ap (λ l. lexeme OpeningCurly x0.span ∷ l)
            (x1.yields ∙ ap (λ l. yield_of x1.derivation l) (x2.yields ∙ ap (λ l. yield_of x2.derivation l) (x3.yields)));
        left = x3.left;
        same = λ i. atom_dict_comprehension nowhere (x1.same i) (x2.same i) nowhere;
        closed = (tt, (x1.closed, (x2.closed, tt)));
      };
}

pub moved_atom_f_string : (quote : FStringQuote) (opening_at : Span) (parts : Derivation FStringParts) (closing_at : Span) → Moves parts
    → Moves (atom_f_string quote opening_at parts closing_at)
moved_atom_f_string quote opening_at parts closing_at m_parts = record {
  moves = λ c ls ts h.
      given (word_of (FStringStart quote) ls h) λ x0.
      given (m_parts.moves c.1.0 x0.rest _ x0.left) λ x1.
      given (word_of FStringEnd x1.rest x1.left) λ x2.
      record {
        derivation = atom_f_string quote x0.span x1.derivation x2.span;
        rest = x2.rest;
        yields = x0.yields ∙ ap (λ l. lexeme (FStringStart quote) x0.span ∷ l) (x1.yields ∙ ap (λ l. yield_of x1.derivation l) (x2.yields));
        left = x2.left;
        same = λ i. atom_f_string quote nowhere (x1.same i) nowhere;
        closed = (tt, (x1.closed, tt));
      };
}

pub moved_vars_plain : (d : Derivation (CommaList variables)) → Moves d → Moves (vars_plain d)
moved_vars_plain d m_d = record {
  moves = λ c ls ts h.
      given (m_d.moves c ls _ h) λ x0.
      record {
        derivation = vars_plain x0.derivation;
        rest = x0.rest;
        yields = x0.yields;
        left = x0.left;
        same = λ i. vars_plain (x0.same i);
        closed = x0.closed;
      };
}

pub moved_vars_comma : (listed : Derivation (CommaList variables)) (comma_at : Span) → Moves listed → Moves (vars_comma listed comma_at)
moved_vars_comma listed comma_at m_listed = record {
  moves = λ c ls ts h.
      given (m_listed.moves c.0 ls _ h) λ x0.
      given (word_of Comma x0.rest x0.left) λ x1.
      record {
        derivation = vars_comma x0.derivation x1.span;
        rest = x1.rest;
        yields = x0.yields ∙ ap (λ l. yield_of x0.derivation l) (x1.yields);
        left = x1.left;
        same = λ i. vars_comma (x0.same i) nowhere;
        closed = (x0.closed, tt);
      };
}

pub moved_for_clause : (for_at : Span) (vars : Derivation LoopVars) (in_at : Span) (source : Derivation (LeftAssociative or_precedence)) → Moves vars
    → Moves source → Moves (for_clause for_at vars in_at source)
moved_for_clause for_at vars in_at source m_vars m_source = record {
  moves = λ c ls ts h.
      given (word_of tokens.For ls h) λ x0.
      given (m_vars.moves c.1.0 x0.rest _ x0.left) λ x1.
      given (word_of tokens.In x1.rest x1.left) λ x2.
      given (m_source.moves c.1.1.1 x2.rest _ x2.left) λ x3.
      record {
        derivation = for_clause x0.span x1.derivation x2.span x3.derivation;
        rest = x3.rest;
        yields = x0.yields ∙ ap (λ l. lexeme tokens.For x0.span ∷ l)
            (x1.yields ∙ ap (λ l. yield_of x1.derivation l) (x2.yields ∙ ap (λ l. lexeme tokens.In x2.span ∷ l) (x3.yields)));
        left = x3.left;
        same = λ i. for_clause nowhere (x1.same i) nowhere (x3.same i);
        closed = (tt, (x1.closed, (tt, x3.closed)));
      };
}

pub moved_clauses_one : (d : Derivation ForClause) → Moves d → Moves (clauses_one d)
moved_clauses_one d m_d = record {
  moves = λ c ls ts h.
      given (m_d.moves c ls _ h) λ x0.
      record {
        derivation = clauses_one x0.derivation;
        rest = x0.rest;
        yields = x0.yields;
        left = x0.left;
        same = λ i. clauses_one (x0.same i);
        closed = x0.closed;
      };
}

pub moved_clauses_for : (clauses : Derivation Clauses) (clause : Derivation ForClause) → Moves clauses → Moves clause → Moves (clauses_for clauses clause)
moved_clauses_for clauses clause m_clauses m_clause = record {
  moves = λ c ls ts h.
      given (m_clauses.moves c.0 ls _ h) λ x0.
      given (m_clause.moves c.1 x0.rest _ x0.left) λ x1.
      record {
        derivation = clauses_for x0.derivation x1.derivation;
        rest = x1.rest;
        yields = x0.yields ∙ ap (λ l. yield_of x0.derivation l) (x1.yields);
        left = x1.left;
        same = λ i. clauses_for (x0.same i) (x1.same i);
        closed = (x0.closed, x1.closed);
      };
}

pub moved_clauses_if : (clauses : Derivation Clauses) (if_at : Span) (test : Derivation (LeftAssociative or_precedence)) → Moves clauses → Moves test
    → Moves (clauses_if clauses if_at test)
moved_clauses_if clauses if_at test m_clauses m_test = record {
  moves = λ c ls ts h.
      given (m_clauses.moves c.0 ls _ h) λ x0.
      given (word_of tokens.If x0.rest x0.left) λ x1.
      given (m_test.moves c.1.1 x1.rest _ x1.left) λ x2.
      record {
        derivation = clauses_if x0.derivation x1.span x2.derivation;
        rest = x2.rest;
        yields = x0.yields ∙ ap (λ l. yield_of x0.derivation l) (x1.yields ∙ ap (λ l. lexeme tokens.If x1.span ∷ l) (x2.yields));
        left = x2.left;
        same = λ i. clauses_if (x0.same i) nowhere (x2.same i);
        closed = (x0.closed, (tt, x2.closed));
      };
}

pub moved_parts_none : Moves parts_none
moved_parts_none = record { moves = λ c ls ts h. record { derivation = parts_none; rest = ls; yields = refl; left = h; same = refl; closed = tt } }

pub moved_parts_text : (parts : Derivation FStringParts) (text : Text) (text_at : Span) → Moves parts → Moves (parts_text parts text text_at)
moved_parts_text parts text text_at m_parts = record {
  moves = λ c ls ts h.
      given (m_parts.moves c.0 ls _ h) λ x0.
      given (word_of (FStringText text) x0.rest x0.left) λ x1.
      record {
        derivation = parts_text x0.derivation text x1.span;
        rest = x1.rest;
        yields = x0.yields ∙ ap (λ l. yield_of x0.derivation l) (x1.yields);
        left = x1.left;
        same = λ i. parts_text (x0.same i) text nowhere;
        closed = (x0.closed, tt);
      };
}

pub moved_parts_replacement : (parts : Derivation FStringParts) (opening_at : Span) (value : Derivation Test) (conversion : Derivation Conversion)
    (closing_at : Span) → Moves parts → Moves value → Moves conversion → Moves (parts_replacement parts opening_at value conversion closing_at)
moved_parts_replacement parts opening_at value conversion closing_at m_parts m_value m_conversion = record {
  moves = λ c ls ts h.
      given (m_parts.moves c.0 ls _ h) λ x0.
      given (word_of FStringExprStart x0.rest x0.left) λ x1.
      given (m_value.moves c.1.1.0 x1.rest _ x1.left) λ x2.
      given (m_conversion.moves c.1.1.1.0 x2.rest _ x2.left) λ x3.
      given (word_of FStringExprEnd x3.rest x3.left) λ x4.
      record {
        derivation = parts_replacement x0.derivation x1.span x2.derivation x3.derivation x4.span;
        rest = x4.rest;
        yields = x0.yields ∙ ap (λ l. yield_of x0.derivation l)
            (x1.yields ∙ ap (λ l. lexeme FStringExprStart x1.span ∷ l)
            (x2.yields ∙ ap (λ l. yield_of x2.derivation l) (x3.yields ∙ ap (λ l. yield_of x3.derivation l) (x4.yields))));
        left = x4.left;
        same = λ i. parts_replacement (x0.same i) nowhere (x2.same i) (x3.same i) nowhere;
        closed = (x0.closed, (tt, (x2.closed, (x3.closed, tt))));
      };
}

pub moved_conversion_default : Moves conversion_default
moved_conversion_default = record {
  moves = λ c ls ts h.
      record { derivation = conversion_default; rest = ls; yields = refl; left = h; same = refl; closed = tt };
}

pub moved_conversion_absent : (bang_at : Span) → Moves (conversion_absent bang_at)
moved_conversion_absent bang_at = record {
  moves = λ c ls ts h.
      given (word_of FStringBang ls h) λ x0.
      record {
        derivation = conversion_absent x0.span;
        rest = x0.rest;
        yields = x0.yields;
        left = x0.left;
        same = refl;
        closed = tt;
      };
}

pub moved_conversion_name : (bang_at : Span) (name : Text) (name_at : Span) → Moves (conversion_name bang_at name name_at)
moved_conversion_name bang_at name name_at = record {
  moves = λ c ls ts h.
      given (word_of FStringBang ls h) λ x0.
      given (word_of (Identifier name) x0.rest x0.left) λ x1.
      record {
        derivation = conversion_name x0.span name x1.span;
        rest = x1.rest;
        yields = x0.yields ∙ ap (λ l. lexeme FStringBang x0.span ∷ l) (x1.yields);
        left = x1.left;
        same = refl;
        closed = (tt, tt);
      };
}

pub moved_optional_list_none : (k : ElementKind) → Moves (optional_list_none {k = k})
moved_optional_list_none k =
    record { moves = λ c ls ts h. record { derivation = optional_list_none {k = k}; rest = ls; yields = refl; left = h; same = refl; closed = tt } }

pub moved_optional_list_plain : {k : ElementKind} (d : Derivation (CommaList k)) → Moves d → Moves (optional_list_plain d)
moved_optional_list_plain d m_d = record {
  moves = λ c ls ts h.
      given (m_d.moves c ls _ h) λ x0.
      record {
        derivation = optional_list_plain x0.derivation;
        rest = x0.rest;
        yields = x0.yields;
        left = x0.left;
        same = λ i. optional_list_plain (x0.same i);
        closed = x0.closed;
      };
}

pub moved_optional_list_comma : {k : ElementKind} (listed : Derivation (CommaList k)) (comma_at : Span) → Moves listed
    → Moves (optional_list_comma listed comma_at)
moved_optional_list_comma listed comma_at m_listed = record {
  moves = λ c ls ts h.
      given (m_listed.moves c.0 ls _ h) λ x0.
      given (word_of Comma x0.rest x0.left) λ x1.
      record {
        derivation = optional_list_comma x0.derivation x1.span;
        rest = x1.rest;
        yields = x0.yields ∙ ap (λ l. yield_of x0.derivation l) (x1.yields);
        left = x1.left;
        same = λ i. optional_list_comma (x0.same i) nowhere;
        closed = (x0.closed, tt);
      };
}

pub moved_comma_list_one : {k : ElementKind} {n : Nonterminal} (is_element : ElementOf k n) (element : Derivation n) → Moves element
    → Moves (comma_list_one is_element element)
moved_comma_list_one is_element element m_element = record {
  moves = λ c ls ts h.
      given (m_element.moves c ls _ h) λ x0.
      record {
        derivation = comma_list_one is_element x0.derivation;
        rest = x0.rest;
        yields = x0.yields;
        left = x0.left;
        same = λ i. comma_list_one is_element (x0.same i);
        closed = x0.closed;
      };
}

pub moved_comma_list_more : {k : ElementKind} {n : Nonterminal} (is_element : ElementOf k n) (listed : Derivation (CommaList k)) (comma_at : Span)
    (element : Derivation n) → Moves listed → Moves element → Moves (comma_list_more is_element listed comma_at element)
moved_comma_list_more is_element listed comma_at element m_listed m_element = record {
  moves = λ c ls ts h.
      given (m_listed.moves c.0 ls _ h) λ x0.
      given (word_of Comma x0.rest x0.left) λ x1.
      given (m_element.moves c.1.1 x1.rest _ x1.left) λ x2.
      record {
        derivation = comma_list_more is_element x0.derivation x1.span x2.derivation;
        rest = x2.rest;
        yields = x0.yields ∙ ap (λ l. yield_of x0.derivation l) (x1.yields ∙ ap (λ l. lexeme Comma x1.span ∷ l) (x2.yields));
        left = x2.left;
        same = λ i. comma_list_more is_element (x0.same i) nowhere (x2.same i);
        closed = (x0.closed, (tt, x2.closed));
      };
}
