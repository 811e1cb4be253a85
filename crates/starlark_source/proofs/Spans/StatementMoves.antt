-- Statements with other spans.
use Rattle.std.proofs.Common.{◌∷◌, refl, ap, ◌∙◌}
use Rattle.starlark_lexer.specs.Tokens.{Text, Span, lexeme, Identifier, Newline, OpeningRound, nowhere}
use Rattle.starlark_lexer.specs.Tokens.{ClosingRound}
use Rattle.starlark_lexer.specs.Tokens as tokens
use Rattle.starlark_spec.specs.Grammar.{Derivation}
use Rattle.starlark_spec.specs.Grammar.{yield_of}
use Rattle.starlark_spec.specs.Grammar.Nonterminal.{Module, Stmt, For, Rest, Suite, Newlines, Block, ReturnType, Simple, Smalls, Small, Annotation}
use Rattle.starlark_spec.specs.Grammar.Nonterminal.{Note, Test, LoopVars}
use Rattle.starlark_spec.specs.Grammar.Nonterminal.{OptionalList}
use Rattle.starlark_spec.specs.Grammar.ElementKind.{def_parameters}
use Rattle.starlark_spec.specs.Grammar.Derivation.{module_none, module_newline, module_stmt, stmt_simple, stmt_def, stmt_if, stmt_for, for_loop, rest_none}
use Rattle.starlark_spec.specs.Grammar.Derivation.{rest_elif, rest_else, suite_simple, suite_block, suite_open, newlines_none, newlines_more, block_first}
use Rattle.starlark_spec.specs.Grammar.Derivation.{block_newline, block_stmt, return_type_none, return_type_note, def_param_slash, def_param_star}
use Rattle.starlark_spec.specs.Grammar.Derivation.{def_param_args, def_param_kwargs, def_param_name, def_param_default, simple_line, simple_semicolon}
use Rattle.starlark_spec.specs.Grammar.Derivation.{smalls_one, smalls_more}
use Rattle.starlark_source.proofs.Spans.Moves.{word_of, Moves, given}

pub moved_module_none : Moves module_none
moved_module_none = record { moves = λ c ls ts h. record { derivation = module_none; rest = ls; yields = refl; left = h; same = refl; closed = tt } }

pub moved_module_newline : (before : Derivation Module) (newline_at : Span) → Moves before → Moves (module_newline before newline_at)
moved_module_newline before newline_at m_before = record {
  moves = λ c ls ts h.
      given (m_before.moves c.0 ls _ h) λ x0.
      given (word_of Newline x0.rest x0.left) λ x1.
      record {
        derivation = module_newline x0.derivation x1.span;
        rest = x1.rest;
        yields = x0.yields ∙ ap (λ l. yield_of x0.derivation l) (x1.yields);
        left = x1.left;
        same = λ i. module_newline (x0.same i) nowhere;
        closed = (x0.closed, tt);
      };
}

pub moved_module_stmt : (before : Derivation Module) (stmt : Derivation Stmt) → Moves before → Moves stmt → Moves (module_stmt before stmt)
moved_module_stmt before stmt m_before m_stmt = record {
  moves = λ c ls ts h.
      given (m_before.moves c.0 ls _ h) λ x0.
      given (m_stmt.moves c.1 x0.rest _ x0.left) λ x1.
      record {
        derivation = module_stmt x0.derivation x1.derivation;
        rest = x1.rest;
        yields = x0.yields ∙ ap (λ l. yield_of x0.derivation l) (x1.yields);
        left = x1.left;
        same = λ i. module_stmt (x0.same i) (x1.same i);
        closed = (x0.closed, x1.closed);
      };
}

pub moved_stmt_simple : (d : Derivation Simple) → Moves d → Moves (stmt_simple d)
moved_stmt_simple d m_d = record {
  moves = λ c ls ts h.
      given (m_d.moves c ls _ h) λ x0.
      record {
        derivation = stmt_simple x0.derivation;
        rest = x0.rest;
        yields = x0.yields;
        left = x0.left;
        same = λ i. stmt_simple (x0.same i);
        closed = x0.closed;
      };
}

pub moved_stmt_def : (def_at : Span) (name : Text) (name_at : Span) (opening_at : Span) (params : Derivation (OptionalList def_parameters))
    (closing_at : Span)
    (return_type : Derivation ReturnType) (colon_at : Span) (suite : Derivation Suite) → Moves params → Moves return_type → Moves suite
    → Moves (stmt_def def_at name name_at opening_at params closing_at return_type colon_at suite)
moved_stmt_def def_at name name_at opening_at params closing_at return_type colon_at suite m_params m_return_type m_suite = record {
  moves = λ c ls ts h.
      given (word_of tokens.Def ls h) λ x0.
      given (word_of (Identifier name) x0.rest x0.left) λ x1.
      given (word_of OpeningRound x1.rest x1.left) λ x2.
      given (m_params.moves c.1.1.1.0 x2.rest _ x2.left) λ x3.
      given (word_of ClosingRound x3.rest x3.left) λ x4.
      given (m_return_type.moves c.1.1.1.1.1.0 x4.rest _ x4.left) λ x5.
      given (word_of tokens.Colon x5.rest x5.left) λ x6.
      given (m_suite.moves c.1.1.1.1.1.1.1 x6.rest _ x6.left) λ x7.
      record {
        derivation = stmt_def x0.span name x1.span x2.span x3.derivation x4.span x5.derivation x6.span x7.derivation;
        rest = x7.rest;
        yields = x0.yields ∙ ap (λ l. lexeme tokens.Def x0.span ∷ l)
            (x1.yields ∙ ap (λ l. lexeme (Identifier name) x1.span ∷ l)
            (x2.yields ∙ ap (λ l. lexeme OpeningRound x2.span ∷ l)
            (x3.yields ∙ ap (λ l. yield_of x3.derivation l) (x4.yields
            ∙ ap (λ l. lexeme ClosingRound x4.span ∷ l) (x5.yields
            ∙ ap (λ l. yield_of x5.derivation l) (x6.yields ∙ ap (λ l. lexeme tokens.Colon x6.span ∷ l) (x7.yields)))))));
        left = x7.left;
        same = λ i. stmt_def nowhere name nowhere nowhere (x3.same i) nowhere (x5.same i) nowhere (x7.same i);
        closed = (tt, (tt, (tt, (x3.closed, (tt, (x5.closed, (tt, x7.closed)))))));
      };
}

pub moved_stmt_if : (if_at : Span) (test : Derivation Test) (colon_at : Span) (suite : Derivation Suite) (rest : Derivation Rest) → Moves test → Moves suite
    → Moves rest → Moves (stmt_if if_at test colon_at suite rest)
moved_stmt_if if_at test colon_at suite rest m_test m_suite m_rest = record {
  moves = λ c ls ts h.
      given (word_of tokens.If ls h) λ x0.
      given (m_test.moves c.1.0 x0.rest _ x0.left) λ x1.
      given (word_of tokens.Colon x1.rest x1.left) λ x2.
      given (m_suite.moves c.1.1.1.0 x2.rest _ x2.left) λ x3.
      given (m_rest.moves c.1.1.1.1 x3.rest _ x3.left) λ x4.
      record {
        derivation = stmt_if x0.span x1.derivation x2.span x3.derivation x4.derivation;
        rest = x4.rest;
        yields = x0.yields ∙ ap (λ l. lexeme tokens.If x0.span ∷ l)
            (x1.yields ∙ ap (λ l. yield_of x1.derivation l) (x2.yields
            ∙ ap (λ l. lexeme tokens.Colon x2.span ∷ l) (x3.yields ∙ ap (λ l. yield_of x3.derivation l) (x4.yields))));
        left = x4.left;
        same = λ i. stmt_if nowhere (x1.same i) nowhere (x3.same i) (x4.same i);
        closed = (tt, (x1.closed, (tt, (x3.closed, x4.closed))));
      };
}

pub moved_stmt_for : (d : Derivation For) → Moves d → Moves (stmt_for d)
moved_stmt_for d m_d = record {
  moves = λ c ls ts h.
      given (m_d.moves c ls _ h) λ x0.
      record {
        derivation = stmt_for x0.derivation;
        rest = x0.rest;
        yields = x0.yields;
        left = x0.left;
        same = λ i. stmt_for (x0.same i);
        closed = x0.closed;
      };
}

pub moved_for_loop : (for_at : Span) (vars : Derivation LoopVars) (in_at : Span) (source : Derivation Test) (colon_at : Span) (suite : Derivation Suite)
    → Moves vars → Moves source → Moves suite → Moves (for_loop for_at vars in_at source colon_at suite)
moved_for_loop for_at vars in_at source colon_at suite m_vars m_source m_suite = record {
  moves = λ c ls ts h.
      given (word_of tokens.For ls h) λ x0.
      given (m_vars.moves c.1.0 x0.rest _ x0.left) λ x1.
      given (word_of tokens.In x1.rest x1.left) λ x2.
      given (m_source.moves c.1.1.1.0 x2.rest _ x2.left) λ x3.
      given (word_of tokens.Colon x3.rest x3.left) λ x4.
      given (m_suite.moves c.1.1.1.1.1 x4.rest _ x4.left) λ x5.
      record {
        derivation = for_loop x0.span x1.derivation x2.span x3.derivation x4.span x5.derivation;
        rest = x5.rest;
        yields = x0.yields ∙ ap (λ l. lexeme tokens.For x0.span ∷ l)
            (x1.yields ∙ ap (λ l. yield_of x1.derivation l) (x2.yields
            ∙ ap (λ l. lexeme tokens.In x2.span ∷ l) (x3.yields
            ∙ ap (λ l. yield_of x3.derivation l) (x4.yields ∙ ap (λ l. lexeme tokens.Colon x4.span ∷ l) (x5.yields)))));
        left = x5.left;
        same = λ i. for_loop nowhere (x1.same i) nowhere (x3.same i) nowhere (x5.same i);
        closed = (tt, (x1.closed, (tt, (x3.closed, (tt, x5.closed)))));
      };
}

pub moved_rest_none : Moves rest_none
moved_rest_none = record { moves = λ c ls ts h. record { derivation = rest_none; rest = ls; yields = refl; left = h; same = refl; closed = tt } }

pub moved_rest_elif : (elif_at : Span) (test : Derivation Test) (colon_at : Span) (suite : Derivation Suite) (rest : Derivation Rest) → Moves test
    → Moves suite
    → Moves rest → Moves (rest_elif elif_at test colon_at suite rest)
moved_rest_elif elif_at test colon_at suite rest m_test m_suite m_rest = record {
  moves = λ c ls ts h.
      given (word_of tokens.Elif ls h) λ x0.
      given (m_test.moves c.1.0 x0.rest _ x0.left) λ x1.
      given (word_of tokens.Colon x1.rest x1.left) λ x2.
      given (m_suite.moves c.1.1.1.0 x2.rest _ x2.left) λ x3.
      given (m_rest.moves c.1.1.1.1 x3.rest _ x3.left) λ x4.
      record {
        derivation = rest_elif x0.span x1.derivation x2.span x3.derivation x4.derivation;
        rest = x4.rest;
        yields = x0.yields ∙ ap (λ l. lexeme tokens.Elif x0.span ∷ l)
            (x1.yields ∙ ap (λ l. yield_of x1.derivation l) (x2.yields
            ∙ ap (λ l. lexeme tokens.Colon x2.span ∷ l) (x3.yields ∙ ap (λ l. yield_of x3.derivation l) (x4.yields))));
        left = x4.left;
        same = λ i. rest_elif nowhere (x1.same i) nowhere (x3.same i) (x4.same i);
        closed = (tt, (x1.closed, (tt, (x3.closed, x4.closed))));
      };
}

pub moved_rest_else : (else_at : Span) (colon_at : Span) (suite : Derivation Suite) → Moves suite → Moves (rest_else else_at colon_at suite)
moved_rest_else else_at colon_at suite m_suite = record {
  moves = λ c ls ts h.
      given (word_of tokens.Else ls h) λ x0.
      given (word_of tokens.Colon x0.rest x0.left) λ x1.
      given (m_suite.moves c.1.1 x1.rest _ x1.left) λ x2.
      record {
        derivation = rest_else x0.span x1.span x2.derivation;
        rest = x2.rest;
        yields = x0.yields ∙ ap (λ l. lexeme tokens.Else x0.span ∷ l) (x1.yields ∙ ap (λ l. lexeme tokens.Colon x1.span ∷ l) (x2.yields));
        left = x2.left;
        same = λ i. rest_else nowhere nowhere (x2.same i);
        closed = (tt, (tt, x2.closed));
      };
}

pub moved_suite_simple : (d : Derivation Simple) → Moves d → Moves (suite_simple d)
moved_suite_simple d m_d = record {
  moves = λ c ls ts h.
      given (m_d.moves c ls _ h) λ x0.
      record {
        derivation = suite_simple x0.derivation;
        rest = x0.rest;
        yields = x0.yields;
        left = x0.left;
        same = λ i. suite_simple (x0.same i);
        closed = x0.closed;
      };
}

pub moved_suite_block : (newline_at : Span) (newlines : Derivation Newlines) (indent_at : Span) (block : Derivation Block) (dedent_at : Span) → Moves newlines
    → Moves block → Moves (suite_block newline_at newlines indent_at block dedent_at)
moved_suite_block newline_at newlines indent_at block dedent_at m_newlines m_block = record {
  moves = λ c ls ts h.
      given (word_of Newline ls h) λ x0.
      given (m_newlines.moves c.1.0 x0.rest _ x0.left) λ x1.
      given (word_of tokens.Indent x1.rest x1.left) λ x2.
      given (m_block.moves c.1.1.1.0 x2.rest _ x2.left) λ x3.
      given (word_of tokens.Dedent x3.rest x3.left) λ x4.
      record {
        derivation = suite_block x0.span x1.derivation x2.span x3.derivation x4.span;
        rest = x4.rest;
        yields = x0.yields ∙ ap (λ l. lexeme Newline x0.span ∷ l)
            (x1.yields ∙ ap (λ l. yield_of x1.derivation l) (x2.yields
            ∙ ap (λ l. lexeme tokens.Indent x2.span ∷ l) (x3.yields ∙ ap (λ l. yield_of x3.derivation l) (x4.yields))));
        left = x4.left;
        same = λ i. suite_block nowhere (x1.same i) nowhere (x3.same i) nowhere;
        closed = (tt, (x1.closed, (tt, (x3.closed, tt))));
      };
}

pub moved_suite_open : (newline_at : Span) (newlines : Derivation Newlines) (indent_at : Span) (block : Derivation Block) → Moves newlines → Moves block
    → Moves (suite_open newline_at newlines indent_at block)
moved_suite_open newline_at newlines indent_at block m_newlines m_block = record { moves = λ c ls ts h. absurd c.1.1.1.1 }

pub moved_newlines_none : Moves newlines_none
moved_newlines_none = record { moves = λ c ls ts h. record { derivation = newlines_none; rest = ls; yields = refl; left = h; same = refl; closed = tt } }

pub moved_newlines_more : (newlines : Derivation Newlines) (newline_at : Span) → Moves newlines → Moves (newlines_more newlines newline_at)
moved_newlines_more newlines newline_at m_newlines = record {
  moves = λ c ls ts h.
      given (m_newlines.moves c.0 ls _ h) λ x0.
      given (word_of Newline x0.rest x0.left) λ x1.
      record {
        derivation = newlines_more x0.derivation x1.span;
        rest = x1.rest;
        yields = x0.yields ∙ ap (λ l. yield_of x0.derivation l) (x1.yields);
        left = x1.left;
        same = λ i. newlines_more (x0.same i) nowhere;
        closed = (x0.closed, tt);
      };
}

pub moved_block_first : (newlines : Derivation Newlines) (stmt : Derivation Stmt) → Moves newlines → Moves stmt → Moves (block_first newlines stmt)
moved_block_first newlines stmt m_newlines m_stmt = record {
  moves = λ c ls ts h.
      given (m_newlines.moves c.0 ls _ h) λ x0.
      given (m_stmt.moves c.1 x0.rest _ x0.left) λ x1.
      record {
        derivation = block_first x0.derivation x1.derivation;
        rest = x1.rest;
        yields = x0.yields ∙ ap (λ l. yield_of x0.derivation l) (x1.yields);
        left = x1.left;
        same = λ i. block_first (x0.same i) (x1.same i);
        closed = (x0.closed, x1.closed);
      };
}

pub moved_block_newline : (block : Derivation Block) (newline_at : Span) → Moves block → Moves (block_newline block newline_at)
moved_block_newline block newline_at m_block = record {
  moves = λ c ls ts h.
      given (m_block.moves c.0 ls _ h) λ x0.
      given (word_of Newline x0.rest x0.left) λ x1.
      record {
        derivation = block_newline x0.derivation x1.span;
        rest = x1.rest;
        yields = x0.yields ∙ ap (λ l. yield_of x0.derivation l) (x1.yields);
        left = x1.left;
        same = λ i. block_newline (x0.same i) nowhere;
        closed = (x0.closed, tt);
      };
}

pub moved_block_stmt : (block : Derivation Block) (stmt : Derivation Stmt) → Moves block → Moves stmt → Moves (block_stmt block stmt)
moved_block_stmt block stmt m_block m_stmt = record {
  moves = λ c ls ts h.
      given (m_block.moves c.0 ls _ h) λ x0.
      given (m_stmt.moves c.1 x0.rest _ x0.left) λ x1.
      record {
        derivation = block_stmt x0.derivation x1.derivation;
        rest = x1.rest;
        yields = x0.yields ∙ ap (λ l. yield_of x0.derivation l) (x1.yields);
        left = x1.left;
        same = λ i. block_stmt (x0.same i) (x1.same i);
        closed = (x0.closed, x1.closed);
      };
}

pub moved_return_type_none : Moves return_type_none
moved_return_type_none = record {
  moves = λ c ls ts h.
      record { derivation = return_type_none; rest = ls; yields = refl; left = h; same = refl; closed = tt };
}

pub moved_return_type_note : (arrow_at : Span) (note : Derivation Note) → Moves note → Moves (return_type_note arrow_at note)
moved_return_type_note arrow_at note m_note = record {
  moves = λ c ls ts h.
      given (word_of tokens.MinusGreater ls h) λ x0.
      given (m_note.moves c.1 x0.rest _ x0.left) λ x1.
      record {
        derivation = return_type_note x0.span x1.derivation;
        rest = x1.rest;
        yields = x0.yields ∙ ap (λ l. lexeme tokens.MinusGreater x0.span ∷ l) (x1.yields);
        left = x1.left;
        same = λ i. return_type_note nowhere (x1.same i);
        closed = (tt, x1.closed);
      };
}

pub moved_def_param_slash : (slash_at : Span) → Moves (def_param_slash slash_at)
moved_def_param_slash slash_at = record {
  moves = λ c ls ts h.
      given (word_of tokens.Slash ls h) λ x0.
      record {
        derivation = def_param_slash x0.span;
        rest = x0.rest;
        yields = x0.yields;
        left = x0.left;
        same = refl;
        closed = tt;
      };
}

pub moved_def_param_star : (star_at : Span) → Moves (def_param_star star_at)
moved_def_param_star star_at = record {
  moves = λ c ls ts h.
      given (word_of tokens.Star ls h) λ x0.
      record {
        derivation = def_param_star x0.span;
        rest = x0.rest;
        yields = x0.yields;
        left = x0.left;
        same = refl;
        closed = tt;
      };
}

pub moved_def_param_args : (star_at : Span) (name : Text) (name_at : Span) (annotation : Derivation Annotation) → Moves annotation
    → Moves (def_param_args star_at name name_at annotation)
moved_def_param_args star_at name name_at annotation m_annotation = record {
  moves = λ c ls ts h.
      given (word_of tokens.Star ls h) λ x0.
      given (word_of (Identifier name) x0.rest x0.left) λ x1.
      given (m_annotation.moves c.1.1 x1.rest _ x1.left) λ x2.
      record {
        derivation = def_param_args x0.span name x1.span x2.derivation;
        rest = x2.rest;
        yields = x0.yields ∙ ap (λ l. lexeme tokens.Star x0.span ∷ l) (x1.yields ∙ ap (λ l. lexeme (Identifier name) x1.span ∷ l) (x2.yields));
        left = x2.left;
        same = λ i. def_param_args nowhere name nowhere (x2.same i);
        closed = (tt, (tt, x2.closed));
      };
}

pub moved_def_param_kwargs : (stars_at : Span) (name : Text) (name_at : Span) (annotation : Derivation Annotation) → Moves annotation
    → Moves (def_param_kwargs stars_at name name_at annotation)
moved_def_param_kwargs stars_at name name_at annotation m_annotation = record {
  moves = λ c ls ts h.
      given (word_of tokens.StarStar ls h) λ x0.
      given (word_of (Identifier name) x0.rest x0.left) λ x1.
      given (m_annotation.moves c.1.1 x1.rest _ x1.left) λ x2.
      record {
        derivation = def_param_kwargs x0.span name x1.span x2.derivation;
        rest = x2.rest;
        yields = x0.yields ∙ ap (λ l. lexeme tokens.StarStar x0.span ∷ l) (x1.yields ∙ ap (λ l. lexeme (Identifier name) x1.span ∷ l) (x2.yields));
        left = x2.left;
        same = λ i. def_param_kwargs nowhere name nowhere (x2.same i);
        closed = (tt, (tt, x2.closed));
      };
}

pub moved_def_param_name : (name : Text) (name_at : Span) (annotation : Derivation Annotation) → Moves annotation
    → Moves (def_param_name name name_at annotation)
moved_def_param_name name name_at annotation m_annotation = record {
  moves = λ c ls ts h.
      given (word_of (Identifier name) ls h) λ x0.
      given (m_annotation.moves c.1 x0.rest _ x0.left) λ x1.
      record {
        derivation = def_param_name name x0.span x1.derivation;
        rest = x1.rest;
        yields = x0.yields ∙ ap (λ l. lexeme (Identifier name) x0.span ∷ l) (x1.yields);
        left = x1.left;
        same = λ i. def_param_name name nowhere (x1.same i);
        closed = (tt, x1.closed);
      };
}

pub moved_def_param_default : (name : Text) (name_at : Span) (annotation : Derivation Annotation) (equal_at : Span) (value : Derivation Test)
    → Moves annotation
    → Moves value → Moves (def_param_default name name_at annotation equal_at value)
moved_def_param_default name name_at annotation equal_at value m_annotation m_value = record {
  moves = λ c ls ts h.
      given (word_of (Identifier name) ls h) λ x0.
      given (m_annotation.moves c.1.0 x0.rest _ x0.left) λ x1.
      given (word_of tokens.Equal x1.rest x1.left) λ x2.
      given (m_value.moves c.1.1.1 x2.rest _ x2.left) λ x3.
      record {
        derivation = def_param_default name x0.span x1.derivation x2.span x3.derivation;
        rest = x3.rest;
        yields = x0.yields ∙ ap (λ l. lexeme (Identifier name) x0.span ∷ l)
            (x1.yields ∙ ap (λ l. yield_of x1.derivation l) (x2.yields ∙ ap (λ l. lexeme tokens.Equal x2.span ∷ l) (x3.yields)));
        left = x3.left;
        same = λ i. def_param_default name nowhere (x1.same i) nowhere (x3.same i);
        closed = (tt, (x1.closed, (tt, x3.closed)));
      };
}

pub moved_simple_line : (smalls : Derivation Smalls) (newline_at : Span) → Moves smalls → Moves (simple_line smalls newline_at)
moved_simple_line smalls newline_at m_smalls = record {
  moves = λ c ls ts h.
      given (m_smalls.moves c.0 ls _ h) λ x0.
      given (word_of Newline x0.rest x0.left) λ x1.
      record {
        derivation = simple_line x0.derivation x1.span;
        rest = x1.rest;
        yields = x0.yields ∙ ap (λ l. yield_of x0.derivation l) (x1.yields);
        left = x1.left;
        same = λ i. simple_line (x0.same i) nowhere;
        closed = (x0.closed, tt);
      };
}

pub moved_simple_semicolon : (smalls : Derivation Smalls) (semicolon_at : Span) (newline_at : Span) → Moves smalls
    → Moves (simple_semicolon smalls semicolon_at newline_at)
moved_simple_semicolon smalls semicolon_at newline_at m_smalls = record {
  moves = λ c ls ts h.
      given (m_smalls.moves c.0 ls _ h) λ x0.
      given (word_of tokens.Semicolon x0.rest x0.left) λ x1.
      given (word_of Newline x1.rest x1.left) λ x2.
      record {
        derivation = simple_semicolon x0.derivation x1.span x2.span;
        rest = x2.rest;
        yields = x0.yields ∙ ap (λ l. yield_of x0.derivation l) (x1.yields ∙ ap (λ l. lexeme tokens.Semicolon x1.span ∷ l) (x2.yields));
        left = x2.left;
        same = λ i. simple_semicolon (x0.same i) nowhere nowhere;
        closed = (x0.closed, (tt, tt));
      };
}

pub moved_smalls_one : (d : Derivation Small) → Moves d → Moves (smalls_one d)
moved_smalls_one d m_d = record {
  moves = λ c ls ts h.
      given (m_d.moves c ls _ h) λ x0.
      record {
        derivation = smalls_one x0.derivation;
        rest = x0.rest;
        yields = x0.yields;
        left = x0.left;
        same = λ i. smalls_one (x0.same i);
        closed = x0.closed;
      };
}

pub moved_smalls_more : (smalls : Derivation Smalls) (semicolon_at : Span) (small : Derivation Small) → Moves smalls → Moves small
    → Moves (smalls_more smalls semicolon_at small)
moved_smalls_more smalls semicolon_at small m_smalls m_small = record {
  moves = λ c ls ts h.
      given (m_smalls.moves c.0 ls _ h) λ x0.
      given (word_of tokens.Semicolon x0.rest x0.left) λ x1.
      given (m_small.moves c.1.1 x1.rest _ x1.left) λ x2.
      record {
        derivation = smalls_more x0.derivation x1.span x2.derivation;
        rest = x2.rest;
        yields = x0.yields ∙ ap (λ l. yield_of x0.derivation l) (x1.yields ∙ ap (λ l. lexeme tokens.Semicolon x1.span ∷ l) (x2.yields));
        left = x2.left;
        same = λ i. smalls_more (x0.same i) nowhere (x2.same i);
        closed = (x0.closed, (tt, x2.closed));
      };
}
