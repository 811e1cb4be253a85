-- Small statements, targets and types with other spans.
use Rattle.std.proofs.Common.{◌∷◌, refl, ap, ◌∙◌}
use Rattle.starlark_lexer.specs.Tokens.{Text, Span, lexeme, Identifier, String, Comma, OpeningRound, nowhere}
use Rattle.starlark_lexer.specs.Tokens.{ClosingRound}
use Rattle.starlark_lexer.specs.Tokens.{Pass}
use Rattle.starlark_lexer.specs.Tokens as tokens
use Rattle.starlark_spec.specs.Grammar.{Nonterminal, PrecedenceLevel, OperandOf, Operator, AssignSign, Derivation}
use Rattle.starlark_spec.specs.Grammar.{yield_of, operator_token, assign_token}
use Rattle.starlark_spec.specs.Grammar.Nonterminal.{TestList, Annotation}
use Rattle.starlark_spec.specs.Grammar.Nonterminal.{Note, Symbols, Test, LeftAssociative}
use Rattle.starlark_spec.specs.Grammar.Nonterminal.{OptionalList, CommaList}
use Rattle.starlark_spec.specs.Grammar.ElementKind.{elements, lambda_parameters, symbols}
use Rattle.starlark_spec.specs.Grammar.PrecedenceLevel.{or_precedence}
use Rattle.starlark_spec.specs.Grammar.Derivation.{small_return, small_return_value, small_break, small_continue, small_pass}
use Rattle.starlark_spec.specs.Grammar.Derivation.{small_load, small_test, small_assign, list_plain, list_comma, annotation_none, annotation_note, note_test}
use Rattle.starlark_spec.specs.Grammar.Derivation.{symbols_none, symbols_list, sym_same, sym_other, sym_alone, test_or, test_if, test_lambda, left_one}
use Rattle.starlark_spec.specs.Grammar.Derivation.{left_more}
use Rattle.starlark_source.proofs.Spans.Moves.{word_of, Moves, given}

pub moved_small_return : (return_at : Span) → Moves (small_return return_at)
moved_small_return return_at = record {
  moves = λ c ls ts h.
      given (word_of tokens.Return ls h) λ x0.
      record {
        derivation = small_return x0.span;
        rest = x0.rest;
        yields = x0.yields;
        left = x0.left;
        same = refl;
        closed = tt;
      };
}

pub moved_small_return_value : (return_at : Span) (value : Derivation TestList) → Moves value → Moves (small_return_value return_at value)
moved_small_return_value return_at value m_value = record {
  moves = λ c ls ts h.
      given (word_of tokens.Return ls h) λ x0.
      given (m_value.moves c.1 x0.rest _ x0.left) λ x1.
      record {
        derivation = small_return_value x0.span x1.derivation;
        rest = x1.rest;
        yields = x0.yields ∙ ap (λ l. lexeme tokens.Return x0.span ∷ l) (x1.yields);
        left = x1.left;
        same = λ i. small_return_value nowhere (x1.same i);
        closed = (tt, x1.closed);
      };
}

pub moved_small_break : (s : Span) → Moves (small_break s)
moved_small_break s = record {
  moves = λ c ls ts h.
      given (word_of tokens.Break ls h) λ x0.
      record {
        derivation = small_break x0.span;
        rest = x0.rest;
        yields = x0.yields;
        left = x0.left;
        same = refl;
        closed = tt;
      };
}

pub moved_small_continue : (s : Span) → Moves (small_continue s)
moved_small_continue s = record {
  moves = λ c ls ts h.
      given (word_of tokens.Continue ls h) λ x0.
      record {
        derivation = small_continue x0.span;
        rest = x0.rest;
        yields = x0.yields;
        left = x0.left;
        same = refl;
        closed = tt;
      };
}

pub moved_small_pass : (s : Span) → Moves (small_pass s)
moved_small_pass s = record {
  moves = λ c ls ts h.
      given (word_of Pass ls h) λ x0.
      record {
        derivation = small_pass x0.span;
        rest = x0.rest;
        yields = x0.yields;
        left = x0.left;
        same = refl;
        closed = tt;
      };
}

pub moved_small_load : (load_at : Span) (opening_at : Span) (file : Text) (file_at : Span) (loaded : Derivation Symbols) (closing_at : Span) → Moves loaded
    → Moves (small_load load_at opening_at file file_at loaded closing_at)
moved_small_load load_at opening_at file file_at loaded closing_at m_loaded = record {
  moves = λ c ls ts h.
      given (word_of tokens.Load ls h) λ x0.
      given (word_of OpeningRound x0.rest x0.left) λ x1.
      given (word_of (String file) x1.rest x1.left) λ x2.
      given (m_loaded.moves c.1.1.1.0 x2.rest _ x2.left) λ x3.
      given (word_of ClosingRound x3.rest x3.left) λ x4.
      record {
        derivation = small_load x0.span x1.span file x2.span x3.derivation x4.span;
        rest = x4.rest;
        yields = x0.yields ∙ ap (λ l. lexeme tokens.Load x0.span ∷ l)
            (x1.yields ∙ ap (λ l. lexeme OpeningRound x1.span ∷ l)
            (x2.yields ∙ ap (λ l. lexeme (String file) x2.span ∷ l) (x3.yields ∙ ap (λ l. yield_of x3.derivation l) (x4.yields))));
        left = x4.left;
        same = λ i. small_load nowhere nowhere file nowhere (x3.same i) nowhere;
        closed = (tt, (tt, (tt, (x3.closed, tt))));
      };
}

pub moved_small_test : (d : Derivation Test) → Moves d → Moves (small_test d)
moved_small_test d m_d = record {
  moves = λ c ls ts h.
      given (m_d.moves c ls _ h) λ x0.
      record {
        derivation = small_test x0.derivation;
        rest = x0.rest;
        yields = x0.yields;
        left = x0.left;
        same = λ i. small_test (x0.same i);
        closed = x0.closed;
      };
}

pub moved_small_assign : (left : Derivation TestList) (annotation : Derivation Annotation) (sign : AssignSign) (sign_at : Span) (right : Derivation TestList)
    → Moves left → Moves annotation → Moves right → Moves (small_assign left annotation sign sign_at right)
moved_small_assign left annotation sign sign_at right m_left m_annotation m_right = record {
  moves = λ c ls ts h.
      given (m_left.moves c.0 ls _ h) λ x0.
      given (m_annotation.moves c.1.0 x0.rest _ x0.left) λ x1.
      given (word_of (assign_token sign) x1.rest x1.left) λ x2.
      given (m_right.moves c.1.1.1 x2.rest _ x2.left) λ x3.
      record {
        derivation = small_assign x0.derivation x1.derivation sign x2.span x3.derivation;
        rest = x3.rest;
        yields = x0.yields ∙ ap (λ l. yield_of x0.derivation l)
            (x1.yields ∙ ap (λ l. yield_of x1.derivation l) (x2.yields ∙ ap (λ l. lexeme (assign_token sign) x2.span ∷ l) (x3.yields)));
        left = x3.left;
        same = λ i. small_assign (x0.same i) (x1.same i) sign nowhere (x3.same i);
        closed = (x0.closed, (x1.closed, (tt, x3.closed)));
      };
}

pub moved_list_plain : (d : Derivation (CommaList elements)) → Moves d → Moves (list_plain d)
moved_list_plain d m_d = record {
  moves = λ c ls ts h.
      given (m_d.moves c ls _ h) λ x0.
      record {
        derivation = list_plain x0.derivation;
        rest = x0.rest;
        yields = x0.yields;
        left = x0.left;
        same = λ i. list_plain (x0.same i);
        closed = x0.closed;
      };
}

pub moved_list_comma : (listed : Derivation (CommaList elements)) (comma_at : Span) → Moves listed → Moves (list_comma listed comma_at)
moved_list_comma listed comma_at m_listed = record {
  moves = λ c ls ts h.
      given (m_listed.moves c.0 ls _ h) λ x0.
      given (word_of Comma x0.rest x0.left) λ x1.
      record {
        derivation = list_comma x0.derivation x1.span;
        rest = x1.rest;
        yields = x0.yields ∙ ap (λ l. yield_of x0.derivation l) (x1.yields);
        left = x1.left;
        same = λ i. list_comma (x0.same i) nowhere;
        closed = (x0.closed, tt);
      };
}

pub moved_annotation_none : Moves annotation_none
moved_annotation_none = record { moves = λ c ls ts h. record { derivation = annotation_none; rest = ls; yields = refl; left = h; same = refl; closed = tt } }

pub moved_annotation_note : (colon_at : Span) (note : Derivation Note) → Moves note → Moves (annotation_note colon_at note)
moved_annotation_note colon_at note m_note = record {
  moves = λ c ls ts h.
      given (word_of tokens.Colon ls h) λ x0.
      given (m_note.moves c.1 x0.rest _ x0.left) λ x1.
      record {
        derivation = annotation_note x0.span x1.derivation;
        rest = x1.rest;
        yields = x0.yields ∙ ap (λ l. lexeme tokens.Colon x0.span ∷ l) (x1.yields);
        left = x1.left;
        same = λ i. annotation_note nowhere (x1.same i);
        closed = (tt, x1.closed);
      };
}

pub moved_note_test : (d : Derivation Test) → Moves d → Moves (note_test d)
moved_note_test d m_d = record {
  moves = λ c ls ts h.
      given (m_d.moves c ls _ h) λ x0.
      record {
        derivation = note_test x0.derivation;
        rest = x0.rest;
        yields = x0.yields;
        left = x0.left;
        same = λ i. note_test (x0.same i);
        closed = x0.closed;
      };
}

pub moved_symbols_none : Moves symbols_none
moved_symbols_none = record { moves = λ c ls ts h. record { derivation = symbols_none; rest = ls; yields = refl; left = h; same = refl; closed = tt } }

pub moved_symbols_list : (comma_at : Span) (loaded : Derivation (OptionalList symbols)) → Moves loaded → Moves (symbols_list comma_at loaded)
moved_symbols_list comma_at loaded m_loaded = record {
  moves = λ c ls ts h.
      given (word_of Comma ls h) λ x0.
      given (m_loaded.moves c.1 x0.rest _ x0.left) λ x1.
      record {
        derivation = symbols_list x0.span x1.derivation;
        rest = x1.rest;
        yields = x0.yields ∙ ap (λ l. lexeme Comma x0.span ∷ l) (x1.yields);
        left = x1.left;
        same = λ i. symbols_list nowhere (x1.same i);
        closed = (tt, x1.closed);
      };
}

pub moved_sym_same : (name : Text) (name_at : Span) → Moves (sym_same name name_at)
moved_sym_same name name_at = record {
  moves = λ c ls ts h.
      given (word_of (String name) ls h) λ x0.
      record {
        derivation = sym_same name x0.span;
        rest = x0.rest;
        yields = x0.yields;
        left = x0.left;
        same = refl;
        closed = tt;
      };
}

pub moved_sym_other : (name : Text) (name_at : Span) (equal_at : Span) (their : Text) (their_at : Span)
    → Moves (sym_other name name_at equal_at their their_at)
moved_sym_other name name_at equal_at their their_at = record {
  moves = λ c ls ts h.
      given (word_of (Identifier name) ls h) λ x0.
      given (word_of tokens.Equal x0.rest x0.left) λ x1.
      given (word_of (String their) x1.rest x1.left) λ x2.
      record {
        derivation = sym_other name x0.span x1.span their x2.span;
        rest = x2.rest;
        yields = x0.yields ∙ ap (λ l. lexeme (Identifier name) x0.span ∷ l) (x1.yields ∙ ap (λ l. lexeme tokens.Equal x1.span ∷ l) (x2.yields));
        left = x2.left;
        same = refl;
        closed = (tt, (tt, tt));
      };
}

pub moved_sym_alone : (name : Text) (name_at : Span) → Moves (sym_alone name name_at)
moved_sym_alone name name_at = record {
  moves = λ c ls ts h.
      given (word_of (Identifier name) ls h) λ x0.
      record {
        derivation = sym_alone name x0.span;
        rest = x0.rest;
        yields = x0.yields;
        left = x0.left;
        same = refl;
        closed = tt;
      };
}

pub moved_test_or : (d : Derivation (LeftAssociative or_precedence)) → Moves d → Moves (test_or d)
moved_test_or d m_d = record {
  moves = λ c ls ts h.
      given (m_d.moves c ls _ h) λ x0.
      record {
        derivation = test_or x0.derivation;
        rest = x0.rest;
        yields = x0.yields;
        left = x0.left;
        same = λ i. test_or (x0.same i);
        closed = x0.closed;
      };
}

pub moved_test_if : (value : Derivation (LeftAssociative or_precedence)) (if_at : Span) (test : Derivation (LeftAssociative or_precedence)) (else_at : Span)
    (other : Derivation Test) → Moves value → Moves test → Moves other → Moves (test_if value if_at test else_at other)
moved_test_if value if_at test else_at other m_value m_test m_other = record {
  moves = λ c ls ts h.
      given (m_value.moves c.0 ls _ h) λ x0.
      given (word_of tokens.If x0.rest x0.left) λ x1.
      given (m_test.moves c.1.1.0 x1.rest _ x1.left) λ x2.
      given (word_of tokens.Else x2.rest x2.left) λ x3.
      given (m_other.moves c.1.1.1.1 x3.rest _ x3.left) λ x4.
      record {
        derivation = test_if x0.derivation x1.span x2.derivation x3.span x4.derivation;
        rest = x4.rest;
        yields = x0.yields ∙ ap (λ l. yield_of x0.derivation l)
            (x1.yields ∙ ap (λ l. lexeme tokens.If x1.span ∷ l)
            (x2.yields ∙ ap (λ l. yield_of x2.derivation l) (x3.yields ∙ ap (λ l. lexeme tokens.Else x3.span ∷ l) (x4.yields))));
        left = x4.left;
        same = λ i. test_if (x0.same i) nowhere (x2.same i) nowhere (x4.same i);
        closed = (x0.closed, (tt, (x2.closed, (tt, x4.closed))));
      };
}

pub moved_test_lambda : (lambda_at : Span) (params : Derivation (OptionalList lambda_parameters)) (colon_at : Span) (body : Derivation Test) → Moves params
    → Moves body → Moves (test_lambda lambda_at params colon_at body)
moved_test_lambda lambda_at params colon_at body m_params m_body = record {
  moves = λ c ls ts h.
      given (word_of tokens.Lambda ls h) λ x0.
      given (m_params.moves c.1.0 x0.rest _ x0.left) λ x1.
      given (word_of tokens.Colon x1.rest x1.left) λ x2.
      given (m_body.moves c.1.1.1 x2.rest _ x2.left) λ x3.
      record {
        derivation = test_lambda x0.span x1.derivation x2.span x3.derivation;
        rest = x3.rest;
        yields = x0.yields ∙ ap (λ l. lexeme tokens.Lambda x0.span ∷ l)
            (x1.yields ∙ ap (λ l. yield_of x1.derivation l) (x2.yields ∙ ap (λ l. lexeme tokens.Colon x2.span ∷ l) (x3.yields)));
        left = x3.left;
        same = λ i. test_lambda nowhere (x1.same i) nowhere (x3.same i);
        closed = (tt, (x1.closed, (tt, x3.closed)));
      };
}

pub moved_left_one : {k : PrecedenceLevel} {n : Nonterminal} (is_operand : OperandOf k n) (operand : Derivation n) → Moves operand
    → Moves (left_one is_operand operand)
moved_left_one is_operand operand m_operand = record {
  moves = λ c ls ts h.
      given (m_operand.moves c ls _ h) λ x0.
      record {
        derivation = left_one is_operand x0.derivation;
        rest = x0.rest;
        yields = x0.yields;
        left = x0.left;
        same = λ i. left_one is_operand (x0.same i);
        closed = x0.closed;
      };
}

pub moved_left_more : {k : PrecedenceLevel} {n : Nonterminal} (is_operand : OperandOf k n) (left : Derivation (LeftAssociative k)) (sign : Operator k)
    (sign_at : Span) (right : Derivation n) → Moves left → Moves right → Moves (left_more is_operand left sign sign_at right)
moved_left_more is_operand left sign sign_at right m_left m_right = record {
  moves = λ c ls ts h.
      given (m_left.moves c.0 ls _ h) λ x0.
      given (word_of (operator_token sign) x0.rest x0.left) λ x1.
      given (m_right.moves c.1.1 x1.rest _ x1.left) λ x2.
      record {
        derivation = left_more is_operand x0.derivation sign x1.span x2.derivation;
        rest = x2.rest;
        yields = x0.yields ∙ ap (λ l. yield_of x0.derivation l) (x1.yields ∙ ap (λ l. lexeme (operator_token sign) x1.span ∷ l) (x2.yields));
        left = x2.left;
        same = λ i. left_more is_operand (x0.same i) sign nowhere (x2.same i);
        closed = (x0.closed, (tt, x2.closed));
      };
}
