-- Operations, subscripts and calls with other spans.
use Rattle.std.proofs.Common.{◌∷◌, refl, ap, ◌∙◌}
use Rattle.starlark_lexer.specs.Tokens.{Text, Span, lexeme, Identifier, Comma, OpeningRound, nowhere}
use Rattle.starlark_lexer.specs.Tokens.{ClosingRound, OpeningSquare, ClosingSquare}
use Rattle.starlark_lexer.specs.Tokens as tokens
use Rattle.starlark_spec.specs.Grammar.{UnarySign, Derivation}
use Rattle.starlark_spec.specs.Grammar.{CompSign, sign_side, side_yield, yield_of, unary_token}
use Rattle.starlark_spec.specs.Grammar.Nonterminal.{Test, LeftAssociative, Not, Comp, Unary, Primary, Sub, Bound, Atom}
use Rattle.starlark_spec.specs.Grammar.Nonterminal.{OptionalList}
use Rattle.starlark_spec.specs.Grammar.ElementKind.{arguments}
use Rattle.starlark_spec.specs.Grammar.PrecedenceLevel.{bit_or_precedence}
use Rattle.starlark_spec.specs.Grammar.Derivation.{not_not, not_comp, comp_one, comp_two, unary_sign, unary_primary, primary_atom, primary_dot}
use Rattle.starlark_spec.specs.Grammar.Derivation.{primary_subscript, primary_call, sub_one, sub_two, sub_slice, sub_step, bound_none, bound_test, arg_test}
use Rattle.starlark_spec.specs.Grammar.Derivation.{arg_named, arg_star, arg_stars, entry, lambda_param_slash, lambda_param_star, lambda_param_args}
use Rattle.starlark_spec.specs.Grammar.Derivation.{lambda_param_kwargs, lambda_param_name, lambda_param_default}
use Rattle.starlark_source.proofs.Spans.Moves.{word_of, moved_sign, Moves, given}

pub moved_not_not : (not_at : Span) (operand : Derivation Not) → Moves operand → Moves (not_not not_at operand)
moved_not_not not_at operand m_operand = record {
  moves = λ c ls ts h.
      given (word_of tokens.Not ls h) λ x0.
      given (m_operand.moves c.1 x0.rest _ x0.left) λ x1.
      record {
        derivation = not_not x0.span x1.derivation;
        rest = x1.rest;
        yields = x0.yields ∙ ap (λ l. lexeme tokens.Not x0.span ∷ l) (x1.yields);
        left = x1.left;
        same = λ i. not_not nowhere (x1.same i);
        closed = (tt, x1.closed);
      };
}

pub moved_not_comp : (d : Derivation Comp) → Moves d → Moves (not_comp d)
moved_not_comp d m_d = record {
  moves = λ c ls ts h.
      given (m_d.moves c ls _ h) λ x0.
      record {
        derivation = not_comp x0.derivation;
        rest = x0.rest;
        yields = x0.yields;
        left = x0.left;
        same = λ i. not_comp (x0.same i);
        closed = x0.closed;
      };
}

pub moved_comp_one : (d : Derivation (LeftAssociative bit_or_precedence)) → Moves d → Moves (comp_one d)
moved_comp_one d m_d = record {
  moves = λ c ls ts h.
      given (m_d.moves c ls _ h) λ x0.
      record {
        derivation = comp_one x0.derivation;
        rest = x0.rest;
        yields = x0.yields;
        left = x0.left;
        same = λ i. comp_one (x0.same i);
        closed = x0.closed;
      };
}

pub moved_comp_two : (left : Derivation (LeftAssociative bit_or_precedence)) (sign : CompSign) (right : Derivation (LeftAssociative bit_or_precedence))
    → Moves left → Moves right → Moves (comp_two left sign right)
moved_comp_two left sign right m_left m_right = record {
  moves = λ c ls ts h.
      given (m_left.moves c.0 ls _ h) λ x0.
      given (moved_sign sign x0.rest x0.left) λ x1.
      given (m_right.moves c.1.1 x1.rest _ x1.left) λ x2.
      record {
        derivation = comp_two x0.derivation x1.sign_there x2.derivation;
        rest = x2.rest;
        yields = x0.yields ∙ ap (λ l. yield_of x0.derivation l) (x1.yields ∙ ap (λ l. side_yield (sign_side x1.sign_there) l) (x2.yields));
        left = x2.left;
        same = λ i. comp_two (x0.same i) (x1.same i) (x2.same i);
        closed = (x0.closed, (x1.closed, x2.closed));
      };
}

pub moved_unary_sign : (sign : UnarySign) (sign_at : Span) (operand : Derivation Unary) → Moves operand → Moves (unary_sign sign sign_at operand)
moved_unary_sign sign sign_at operand m_operand = record {
  moves = λ c ls ts h.
      given (word_of (unary_token sign) ls h) λ x0.
      given (m_operand.moves c.1 x0.rest _ x0.left) λ x1.
      record {
        derivation = unary_sign sign x0.span x1.derivation;
        rest = x1.rest;
        yields = x0.yields ∙ ap (λ l. lexeme (unary_token sign) x0.span ∷ l) (x1.yields);
        left = x1.left;
        same = λ i. unary_sign sign nowhere (x1.same i);
        closed = (tt, x1.closed);
      };
}

pub moved_unary_primary : (d : Derivation Primary) → Moves d → Moves (unary_primary d)
moved_unary_primary d m_d = record {
  moves = λ c ls ts h.
      given (m_d.moves c ls _ h) λ x0.
      record {
        derivation = unary_primary x0.derivation;
        rest = x0.rest;
        yields = x0.yields;
        left = x0.left;
        same = λ i. unary_primary (x0.same i);
        closed = x0.closed;
      };
}

pub moved_primary_atom : (d : Derivation Atom) → Moves d → Moves (primary_atom d)
moved_primary_atom d m_d = record {
  moves = λ c ls ts h.
      given (m_d.moves c ls _ h) λ x0.
      record {
        derivation = primary_atom x0.derivation;
        rest = x0.rest;
        yields = x0.yields;
        left = x0.left;
        same = λ i. primary_atom (x0.same i);
        closed = x0.closed;
      };
}

pub moved_primary_dot : (operand : Derivation Primary) (dot_at : Span) (name : Text) (name_at : Span) → Moves operand
    → Moves (primary_dot operand dot_at name name_at)
moved_primary_dot operand dot_at name name_at m_operand = record {
  moves = λ c ls ts h.
      given (m_operand.moves c.0 ls _ h) λ x0.
      given (word_of tokens.Dot x0.rest x0.left) λ x1.
      given (word_of (Identifier name) x1.rest x1.left) λ x2.
      record {
        derivation = primary_dot x0.derivation x1.span name x2.span;
        rest = x2.rest;
        yields = x0.yields ∙ ap (λ l. yield_of x0.derivation l) (x1.yields ∙ ap (λ l. lexeme tokens.Dot x1.span ∷ l) (x2.yields));
        left = x2.left;
        same = λ i. primary_dot (x0.same i) nowhere name nowhere;
        closed = (x0.closed, (tt, tt));
      };
}

pub moved_primary_subscript : (operand : Derivation Primary) (opening_at : Span) (sub : Derivation Sub) (closing_at : Span) → Moves operand → Moves sub
    → Moves (primary_subscript operand opening_at sub closing_at)
moved_primary_subscript operand opening_at sub closing_at m_operand m_sub = record {
  moves = λ c ls ts h.
      given (m_operand.moves c.0 ls _ h) λ x0.
      given (word_of OpeningSquare x0.rest x0.left) λ x1.
      given (m_sub.moves c.1.1.0 x1.rest _ x1.left) λ x2.
      given (word_of ClosingSquare x2.rest x2.left) λ x3.
      record {
        derivation = primary_subscript x0.derivation x1.span x2.derivation x3.span;
        rest = x3.rest;
        yields = x0.yields ∙ ap (λ l. yield_of x0.derivation l)
            (x1.yields ∙ ap (λ l. lexeme OpeningSquare x1.span ∷ l) (x2.yields ∙ ap (λ l. yield_of x2.derivation l) (x3.yields)));
        left = x3.left;
        same = λ i. primary_subscript (x0.same i) nowhere (x2.same i) nowhere;
        closed = (x0.closed, (tt, (x2.closed, tt)));
      };
}

pub moved_primary_call : (operand : Derivation Primary) (opening_at : Span) (passed : Derivation (OptionalList arguments)) (closing_at : Span) → Moves operand
    → Moves passed → Moves (primary_call operand opening_at passed closing_at)
moved_primary_call operand opening_at passed closing_at m_operand m_passed = record {
  moves = λ c ls ts h.
      given (m_operand.moves c.0 ls _ h) λ x0.
      given (word_of OpeningRound x0.rest x0.left) λ x1.
      given (m_passed.moves c.1.1.0 x1.rest _ x1.left) λ x2.
      given (word_of ClosingRound x2.rest x2.left) λ x3.
      record {
        derivation = primary_call x0.derivation x1.span x2.derivation x3.span;
        rest = x3.rest;
        yields = x0.yields ∙ ap (λ l. yield_of x0.derivation l)
            (x1.yields ∙ ap (λ l. lexeme OpeningRound x1.span ∷ l) (x2.yields ∙ ap (λ l. yield_of x2.derivation l) (x3.yields)));
        left = x3.left;
        same = λ i. primary_call (x0.same i) nowhere (x2.same i) nowhere;
        closed = (x0.closed, (tt, (x2.closed, tt)));
      };
}

pub moved_sub_one : (d : Derivation Test) → Moves d → Moves (sub_one d)
moved_sub_one d m_d = record {
  moves = λ c ls ts h.
      given (m_d.moves c ls _ h) λ x0.
      record {
        derivation = sub_one x0.derivation;
        rest = x0.rest;
        yields = x0.yields;
        left = x0.left;
        same = λ i. sub_one (x0.same i);
        closed = x0.closed;
      };
}

pub moved_sub_two : (first : Derivation Test) (comma_at : Span) (second : Derivation Test) → Moves first → Moves second
    → Moves (sub_two first comma_at second)
moved_sub_two first comma_at second m_first m_second = record {
  moves = λ c ls ts h.
      given (m_first.moves c.0 ls _ h) λ x0.
      given (word_of Comma x0.rest x0.left) λ x1.
      given (m_second.moves c.1.1 x1.rest _ x1.left) λ x2.
      record {
        derivation = sub_two x0.derivation x1.span x2.derivation;
        rest = x2.rest;
        yields = x0.yields ∙ ap (λ l. yield_of x0.derivation l) (x1.yields ∙ ap (λ l. lexeme Comma x1.span ∷ l) (x2.yields));
        left = x2.left;
        same = λ i. sub_two (x0.same i) nowhere (x2.same i);
        closed = (x0.closed, (tt, x2.closed));
      };
}

pub moved_sub_slice : (begin : Derivation Bound) (colon_at : Span) (stop : Derivation Bound) → Moves begin → Moves stop
    → Moves (sub_slice begin colon_at stop)
moved_sub_slice begin colon_at stop m_begin m_stop = record {
  moves = λ c ls ts h.
      given (m_begin.moves c.0 ls _ h) λ x0.
      given (word_of tokens.Colon x0.rest x0.left) λ x1.
      given (m_stop.moves c.1.1 x1.rest _ x1.left) λ x2.
      record {
        derivation = sub_slice x0.derivation x1.span x2.derivation;
        rest = x2.rest;
        yields = x0.yields ∙ ap (λ l. yield_of x0.derivation l) (x1.yields ∙ ap (λ l. lexeme tokens.Colon x1.span ∷ l) (x2.yields));
        left = x2.left;
        same = λ i. sub_slice (x0.same i) nowhere (x2.same i);
        closed = (x0.closed, (tt, x2.closed));
      };
}

pub moved_sub_step : (begin : Derivation Bound) (colon_at : Span) (stop : Derivation Bound) (step_at : Span) (step : Derivation Bound) → Moves begin
    → Moves stop
    → Moves step → Moves (sub_step begin colon_at stop step_at step)
moved_sub_step begin colon_at stop step_at step m_begin m_stop m_step = record {
  moves = λ c ls ts h.
      given (m_begin.moves c.0 ls _ h) λ x0.
      given (word_of tokens.Colon x0.rest x0.left) λ x1.
      given (m_stop.moves c.1.1.0 x1.rest _ x1.left) λ x2.
      given (word_of tokens.Colon x2.rest x2.left) λ x3.
      given (m_step.moves c.1.1.1.1 x3.rest _ x3.left) λ x4.
      record {
        derivation = sub_step x0.derivation x1.span x2.derivation x3.span x4.derivation;
        rest = x4.rest;
        yields = x0.yields ∙ ap (λ l. yield_of x0.derivation l)
            (x1.yields ∙ ap (λ l. lexeme tokens.Colon x1.span ∷ l)
            (x2.yields ∙ ap (λ l. yield_of x2.derivation l) (x3.yields ∙ ap (λ l. lexeme tokens.Colon x3.span ∷ l) (x4.yields))));
        left = x4.left;
        same = λ i. sub_step (x0.same i) nowhere (x2.same i) nowhere (x4.same i);
        closed = (x0.closed, (tt, (x2.closed, (tt, x4.closed))));
      };
}

pub moved_bound_none : Moves bound_none
moved_bound_none = record { moves = λ c ls ts h. record { derivation = bound_none; rest = ls; yields = refl; left = h; same = refl; closed = tt } }

pub moved_bound_test : (d : Derivation Test) → Moves d → Moves (bound_test d)
moved_bound_test d m_d = record {
  moves = λ c ls ts h.
      given (m_d.moves c ls _ h) λ x0.
      record {
        derivation = bound_test x0.derivation;
        rest = x0.rest;
        yields = x0.yields;
        left = x0.left;
        same = λ i. bound_test (x0.same i);
        closed = x0.closed;
      };
}

pub moved_arg_test : (d : Derivation Test) → Moves d → Moves (arg_test d)
moved_arg_test d m_d = record {
  moves = λ c ls ts h.
      given (m_d.moves c ls _ h) λ x0.
      record {
        derivation = arg_test x0.derivation;
        rest = x0.rest;
        yields = x0.yields;
        left = x0.left;
        same = λ i. arg_test (x0.same i);
        closed = x0.closed;
      };
}

pub moved_arg_named : (name : Text) (name_at : Span) (equal_at : Span) (value : Derivation Test) → Moves value → Moves (arg_named name name_at equal_at value)
moved_arg_named name name_at equal_at value m_value = record {
  moves = λ c ls ts h.
      given (word_of (Identifier name) ls h) λ x0.
      given (word_of tokens.Equal x0.rest x0.left) λ x1.
      given (m_value.moves c.1.1 x1.rest _ x1.left) λ x2.
      record {
        derivation = arg_named name x0.span x1.span x2.derivation;
        rest = x2.rest;
        yields = x0.yields ∙ ap (λ l. lexeme (Identifier name) x0.span ∷ l) (x1.yields ∙ ap (λ l. lexeme tokens.Equal x1.span ∷ l) (x2.yields));
        left = x2.left;
        same = λ i. arg_named name nowhere nowhere (x2.same i);
        closed = (tt, (tt, x2.closed));
      };
}

pub moved_arg_star : (star_at : Span) (value : Derivation Test) → Moves value → Moves (arg_star star_at value)
moved_arg_star star_at value m_value = record {
  moves = λ c ls ts h.
      given (word_of tokens.Star ls h) λ x0.
      given (m_value.moves c.1 x0.rest _ x0.left) λ x1.
      record {
        derivation = arg_star x0.span x1.derivation;
        rest = x1.rest;
        yields = x0.yields ∙ ap (λ l. lexeme tokens.Star x0.span ∷ l) (x1.yields);
        left = x1.left;
        same = λ i. arg_star nowhere (x1.same i);
        closed = (tt, x1.closed);
      };
}

pub moved_arg_stars : (stars_at : Span) (value : Derivation Test) → Moves value → Moves (arg_stars stars_at value)
moved_arg_stars stars_at value m_value = record {
  moves = λ c ls ts h.
      given (word_of tokens.StarStar ls h) λ x0.
      given (m_value.moves c.1 x0.rest _ x0.left) λ x1.
      record {
        derivation = arg_stars x0.span x1.derivation;
        rest = x1.rest;
        yields = x0.yields ∙ ap (λ l. lexeme tokens.StarStar x0.span ∷ l) (x1.yields);
        left = x1.left;
        same = λ i. arg_stars nowhere (x1.same i);
        closed = (tt, x1.closed);
      };
}

pub moved_entry : (key : Derivation Test) (colon_at : Span) (value : Derivation Test) → Moves key → Moves value → Moves (entry key colon_at value)
moved_entry key colon_at value m_key m_value = record {
  moves = λ c ls ts h.
      given (m_key.moves c.0 ls _ h) λ x0.
      given (word_of tokens.Colon x0.rest x0.left) λ x1.
      given (m_value.moves c.1.1 x1.rest _ x1.left) λ x2.
      record {
        derivation = entry x0.derivation x1.span x2.derivation;
        rest = x2.rest;
        yields = x0.yields ∙ ap (λ l. yield_of x0.derivation l) (x1.yields ∙ ap (λ l. lexeme tokens.Colon x1.span ∷ l) (x2.yields));
        left = x2.left;
        same = λ i. entry (x0.same i) nowhere (x2.same i);
        closed = (x0.closed, (tt, x2.closed));
      };
}

pub moved_lambda_param_slash : (slash_at : Span) → Moves (lambda_param_slash slash_at)
moved_lambda_param_slash slash_at = record {
  moves = λ c ls ts h.
      given (word_of tokens.Slash ls h) λ x0.
      record {
        derivation = lambda_param_slash x0.span;
        rest = x0.rest;
        yields = x0.yields;
        left = x0.left;
        same = refl;
        closed = tt;
      };
}

pub moved_lambda_param_star : (star_at : Span) → Moves (lambda_param_star star_at)
moved_lambda_param_star star_at = record {
  moves = λ c ls ts h.
      given (word_of tokens.Star ls h) λ x0.
      record {
        derivation = lambda_param_star x0.span;
        rest = x0.rest;
        yields = x0.yields;
        left = x0.left;
        same = refl;
        closed = tt;
      };
}

pub moved_lambda_param_args : (star_at : Span) (name : Text) (name_at : Span) → Moves (lambda_param_args star_at name name_at)
moved_lambda_param_args star_at name name_at = record {
  moves = λ c ls ts h.
      given (word_of tokens.Star ls h) λ x0.
      given (word_of (Identifier name) x0.rest x0.left) λ x1.
      record {
        derivation = lambda_param_args x0.span name x1.span;
        rest = x1.rest;
        yields = x0.yields ∙ ap (λ l. lexeme tokens.Star x0.span ∷ l) (x1.yields);
        left = x1.left;
        same = refl;
        closed = (tt, tt);
      };
}

pub moved_lambda_param_kwargs : (stars_at : Span) (name : Text) (name_at : Span) → Moves (lambda_param_kwargs stars_at name name_at)
moved_lambda_param_kwargs stars_at name name_at = record {
  moves = λ c ls ts h.
      given (word_of tokens.StarStar ls h) λ x0.
      given (word_of (Identifier name) x0.rest x0.left) λ x1.
      record {
        derivation = lambda_param_kwargs x0.span name x1.span;
        rest = x1.rest;
        yields = x0.yields ∙ ap (λ l. lexeme tokens.StarStar x0.span ∷ l) (x1.yields);
        left = x1.left;
        same = refl;
        closed = (tt, tt);
      };
}

pub moved_lambda_param_name : (name : Text) (name_at : Span) → Moves (lambda_param_name name name_at)
moved_lambda_param_name name name_at = record {
  moves = λ c ls ts h.
      given (word_of (Identifier name) ls h) λ x0.
      record {
        derivation = lambda_param_name name x0.span;
        rest = x0.rest;
        yields = x0.yields;
        left = x0.left;
        same = refl;
        closed = tt;
      };
}

pub moved_lambda_param_default : (name : Text) (name_at : Span) (equal_at : Span) (value : Derivation Test) → Moves value
    → Moves (lambda_param_default name name_at equal_at value)
moved_lambda_param_default name name_at equal_at value m_value = record {
  moves = λ c ls ts h.
      given (word_of (Identifier name) ls h) λ x0.
      given (word_of tokens.Equal x0.rest x0.left) λ x1.
      given (m_value.moves c.1.1 x1.rest _ x1.left) λ x2.
      record {
        derivation = lambda_param_default name x0.span x1.span x2.derivation;
        rest = x2.rest;
        yields = x0.yields ∙ ap (λ l. lexeme (Identifier name) x0.span ∷ l) (x1.yields ∙ ap (λ l. lexeme tokens.Equal x1.span ∷ l) (x2.yields));
        left = x2.left;
        same = λ i. lambda_param_default name nowhere nowhere (x2.same i);
        closed = (tt, (tt, x2.closed));
      };
}
