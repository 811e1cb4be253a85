-- Expressions whose parts are read.
use Rattle.std.proofs.Common.{◌≡◌, ◌^◌, nat_lt, pos, negsuc, List as Seq, [], ◌∷◌, ◌++◌, map, true, Result, Ok, Err, refl, sym, ap, ap₂, ◌∙◌, append_assoc}
use Rattle.std.proofs.lemmas.List.{map-append}
use Rattle.std.specs.Prelude.{is_ok}
use Rattle.starlark_lexer.specs.Tokens.{Span, Terminal, small, large, Dot, Colon, nowhere}
use Rattle.starlark_lexer.specs.Tokens as tokens
use Rattle.starlark_tree.specs.Ast as t
use Rattle.starlark_tree.specs.Ast.{Word, no_payload, Expression, Expressions, Maybe, expressions_of, arguments_of, parameters_of, pairs_of, clauses_of}
use Rattle.starlark_tree.specs.declared.ast.operator.BinOp.{BinOp}
use Rattle.starlark_tree.specs.declared.ast.operator.BinOp.TheVariants as op
use Rattle.starlark_spec.specs.Faults.{Fault}
use Rattle.starlark_spec.specs.Targets.{target}
use Rattle.starlark_spec.specs.Grammar.{Nonterminal, PrecedenceLevel, OperandOf, Operator, Comparison, RightSide, operator_token, comparison_token}
use Rattle.starlark_spec.specs.Grammar.RightSide.{word, ◌⨾◌}
use Rattle.starlark_spec.specs.Grammar.Nonterminal.{Test, Bound, LoopVars, ForClause, Clauses, Entry, LeftAssociative, OptionalList}
use Rattle.starlark_spec.specs.Grammar.ElementKind.{elements, arguments, entries, lambda_parameters}
use Rattle.starlark_spec.specs.Grammar.ElementOf.{of_elements}
use Rattle.starlark_spec.specs.Grammar.OperandOf.{of_or, of_and, of_bit_or, of_xor, of_bit_and, of_shift, of_add, of_multiply}
use Rattle.starlark_spec.specs.Grammar.Operator.{or_sign, and_sign, pipe, caret, ampersand, less_less, greater_greater, plus, minus, star, slash, slash_slash}
use Rattle.starlark_spec.specs.Grammar.Operator.{percent}
use Rattle.starlark_spec.specs.Grammar.Comparison.{equal, not_equal, less, greater, less_or_equal, greater_or_equal, membership}
use Rattle.starlark_spec.specs.Grammar.CompSign.{comparison, not_in}
use Rattle.starlark_spec.specs.Grammar.UnarySign.{plus_sign, minus_sign, tilde_sign}
use Rattle.starlark_spec.specs.Grammar.Derivation.{test_if, test_lambda, left_more, not_not, comp_two, unary_sign, primary_atom, primary_dot}
use Rattle.starlark_spec.specs.Grammar.Derivation.{primary_subscript, primary_call, sub_one, sub_two, sub_slice, sub_step, entry, atom_name, atom_int}
use Rattle.starlark_spec.specs.Grammar.Derivation.{atom_float, atom_string, atom_bytes, atom_ellipsis, atom_round, atom_square, atom_curly}
use Rattle.starlark_spec.specs.Grammar.Derivation.{atom_list_comprehension, atom_dict_comprehension, for_clause, clauses_one, clauses_for, clauses_if}
use Rattle.starlark_spec.specs.Grammar.Derivation.{optional_list_none, optional_list_plain, optional_list_comma}
use Rattle.starlark_spec.specs.Trees.{Comprehended, Pair, one_or_tuple, operand_tree, operator_of, comparison_of, target_or_none, tree}
use Rattle.starlark_source.specs.declared.level.Level.TheVariants as level
use Rattle.starlark_source.specs.Levels.{left_of, right_of, level_of_literal, level_of_operator}
use Rattle.starlark_source.specs.Literals.{name, is_byte, literal}
use Rattle.std.specs.List.{list_all}
use Rattle.starlark_source.specs.Readings.{is_float, is_large_int}
use Rattle.starlark_source.specs.Pieces.{Pieces, token, blank, comma, listed, in_tuple, in_round, in_square, in_curly, between}
use Rattle.starlark_source.specs.Source.{colon, operator}
use Rattle.starlark_source.specs.Unspanned.{unspanned, unspanned_all, unspanned_argument, unspanned_arguments, unspanned_clause, unspanned_clauses}
use Rattle.starlark_source.specs.Unspanned.{unspanned_for, unspanned_literal, unspanned_maybe, unspanned_pairs, unspanned_parameter, unspanned_parameters}
use Rattle.starlark_source.specs.Unspanned.{unspanned_target, unspanned_word}
use Rattle.starlark_source.proofs.ReadBack.Writing.{Sayable, split, Writes, Reads, none_written, one, followed, after, after_sign, spaced, with_mark}
use Rattle.starlark_source.proofs.ReadBack.Writing.{as_pieces, then_none, name_written, token_written, aimed}
use Rattle.starlark_source.proofs.ReadBack.Listing.{Offers, first_element, comma_list}
use Rattle.starlark_source.proofs.ReadBack.Levels.{At}

-- an expression without a span
abbrev pub plain : t.Shape no_payload → Expression no_payload
plain shape = t.expression nowhere shape

abbrev pub unspanned_pair : Pair → Pair
unspanned_pair p = (unspanned p.0, unspanned p.1)

ap₃ : {A B C D : Type 0} (f : A → B → C → D) {a a' : A} {b b' : B} {c c' : C} → a ≡ a' → b ≡ b' → c ≡ c' → f a b c ≡ f a' b' c'
ap₃ f {a' = a'} {b' = b'} {c = c} p q r = ap₂ (λ x y. f x y c) p q ∙ ap (f a' b') r

ap₄ : {A B C D E : Type 0} (f : A → B → C → D → E) {a a' : A} {b b' : B} {c c' : C} {d d' : D} → a ≡ a' → b ≡ b' → c ≡ c' → d ≡ d' → f a b c d ≡ f a' b' c' d'
ap₄ f {a' = a'} {b' = b'} {c' = c'} {d = d} p q r s = ap₃ (λ x y z. f x y z d) p q r ∙ ap (f a' b' c') s

-- ---- lists without spans

pub expressions_unspanned : (es : Seq (Expression no_payload)) → unspanned_all (expressions_of es) ≡ expressions_of (map (λ e. unspanned e) es)
expressions_unspanned [] = refl
expressions_unspanned (e ∷ es) = ap (t.expressions (unspanned e)) (expressions_unspanned es)

pub arguments_unspanned : (xs : Seq (t.Argument no_payload)) → unspanned_arguments (arguments_of xs) ≡ arguments_of (map (λ x. unspanned_argument x) xs)
arguments_unspanned [] = refl
arguments_unspanned (x ∷ xs) = ap (t.arguments (unspanned_argument x)) (arguments_unspanned xs)

pub parameters_unspanned : (xs : Seq (t.Parameter no_payload)) → unspanned_parameters (parameters_of xs) ≡ parameters_of (map (λ x. unspanned_parameter x) xs)
parameters_unspanned [] = refl
parameters_unspanned (x ∷ xs) = ap (t.parameters (unspanned_parameter x)) (parameters_unspanned xs)

pub pairs_unspanned : (ps : Seq Pair) → unspanned_pairs (pairs_of ps) ≡ pairs_of (map (λ p. unspanned_pair p) ps)
pairs_unspanned [] = refl
pairs_unspanned (p ∷ ps) = ap (t.pairs (unspanned p.0) (unspanned p.1)) (pairs_unspanned ps)

pub clauses_unspanned : (cs : Seq (t.Clause no_payload)) → unspanned_clauses (clauses_of cs) ≡ clauses_of (map (λ c. unspanned_clause c) cs)
clauses_unspanned [] = refl
clauses_unspanned (c ∷ cs) = ap (t.clauses (unspanned_clause c)) (clauses_unspanned cs)

-- ---- atoms

pub name_read : (w : Word) → Sayable (name w) → At level.Primary (name w) (plain (t.Identifier (unspanned_word w) tt))
name_read w h = record { derivation = primary_atom (atom_name w.text nowhere); writes = name_written w nowhere h; looks = refl }

pub literal_read : (x : t.Literal) → Sayable (literal x) → At (level_of_literal x) (literal x) (plain (t.Constant (unspanned_literal x)))
literal_read (t.Int s (small (pos n))) h = record {
  derivation = primary_atom (atom_int (small (pos n)) nowhere);
  writes = token_written (nat_lt n (2 ^ 31)) (tokens.Int (small (pos n))) s nowhere h;
  looks = refl;
}
literal_read (t.Int s (small (negsuc n))) h = absurd h
literal_read (t.Int s (large text)) h = record {
  derivation = primary_atom (atom_int (large text) nowhere);
  writes = token_written (is_large_int text) (tokens.Int (large text)) s nowhere h;
  looks = refl;
}
literal_read (t.Float w) h = record {
  derivation = primary_atom (atom_float w.text nowhere);
  writes = token_written (is_float w.text) (tokens.Float w.text) w.span nowhere h;
  looks = refl;
}
literal_read (t.String w) h = record { derivation = primary_atom (atom_string w.text nowhere); writes = one; looks = refl }
literal_read (t.Bytes w) h = record {
  derivation = primary_atom (atom_bytes w.text nowhere);
  writes = token_written (list_all is_byte w.text) (tokens.Bytes w.text) w.span nowhere h;
  looks = refl;
}
literal_read t.Ellipsis h = record { derivation = primary_atom (atom_ellipsis nowhere); writes = one; looks = refl }

-- two elements or more are a tuple
pub many_are_tuple : (s : Span) (vs : Seq (Expression no_payload)) (e f : Expression no_payload) (es : Seq (Expression no_payload))
    → map (λ v. unspanned v) vs ≡ e ∷ f ∷ es → unspanned (one_or_tuple s vs) ≡ plain (t.Tuple (expressions_of (e ∷ f ∷ es)))
many_are_tuple s [] e f es is = absurd (cc)
many_are_tuple s (v ∷ []) e f es is = absurd (cc)
many_are_tuple s (v ∷ w ∷ vs) e f es is = ap (λ xs. plain (t.Tuple xs)) (expressions_unspanned (v ∷ w ∷ vs) ∙ ap expressions_of is)

pub tuple_read : (ps : Seq Pieces) (es : Seq (Expression no_payload)) → Offers Test (λ v. unspanned v) ps es → Sayable (in_round (in_tuple ps))
    → At level.Primary (in_round (in_tuple ps)) (plain (t.Tuple (expressions_of es)))
tuple_read [] [] o h =
    record { derivation = primary_atom (atom_round nowhere optional_list_none nowhere); writes = after (followed none_written one); looks = refl }
tuple_read [] (e ∷ es) o h = absurd o
tuple_read (p ∷ ps) [] o h = absurd o
tuple_read (p ∷ []) (e ∷ []) o h =
    let r = first_element of_elements (λ v. unspanned v) (o.0 (split p _ (split (p ++ token tokens.Comma ∷ []) _ h).0).0) in record {
      derivation = primary_atom (atom_round nowhere (optional_list_comma r.derivation nowhere) nowhere);
      writes = after (followed (followed r.writes one) one);
      looks = ap (λ xs. plain (t.Tuple xs)) (expressions_unspanned (tree r.derivation) ∙ ap expressions_of r.looks);
    }
tuple_read (p ∷ []) (e ∷ f ∷ es) o h = absurd o.1
tuple_read (p ∷ q ∷ ps) (e ∷ []) o h = absurd o.1
tuple_read (p ∷ q ∷ ps) (e ∷ f ∷ es) o h =
    let r = comma_list of_elements (λ v. unspanned v) p (q ∷ ps) e (f ∷ es) o (split (listed (p ∷ q ∷ ps)) _ h).0 in record {
      derivation = primary_atom (atom_round nowhere (optional_list_plain r.derivation) nowhere);
      writes = after (followed r.writes one);
      looks = many_are_tuple _ (tree r.derivation) e f es r.looks;
    }

module _ {ps : Pieces} where
  pub list_read : {es : Seq (Expression no_payload)} → Reads (OptionalList elements) (λ vs. map (λ v. unspanned v) vs) ps es
      → At level.Primary (in_square ps) (plain (t.List (expressions_of es)))
  list_read r = record {
    derivation = primary_atom (atom_square nowhere r.derivation nowhere);
    writes = after (followed r.writes one);
    looks = ap (λ xs. plain (t.List xs)) (expressions_unspanned (tree r.derivation) ∙ ap expressions_of r.looks);
  }

  pub dict_read : {es : Seq Pair} → Reads (OptionalList entries) (λ vs. map (λ v. unspanned_pair v) vs) ps es
      → At level.Primary (in_curly ps) (plain (t.Dict (pairs_of es)))
  dict_read r = record {
    derivation = primary_atom (atom_curly nowhere r.derivation nowhere);
    writes = after (followed r.writes one);
    looks = ap (λ xs. plain (t.Dict xs)) (pairs_unspanned (tree r.derivation) ∙ ap pairs_of r.looks);
  }

-- ---- operands with what is after them

module _ {ps : Pieces} {e : Expression no_payload} where
  pub dot_read : (w : Word) → At level.Primary ps e → Sayable (name w) → At level.Primary (ps ++ token Dot ∷ name w) (plain (t.Dot e (unspanned_word w)))
  dot_read w r h = record {
    derivation = primary_dot r.derivation nowhere w.text nowhere;
    writes = followed r.writes (after (name_written w nowhere h));
    looks = ap (λ x. plain (t.Dot x (unspanned_word w))) r.looks;
  }

  pub call_read : {qs : Pieces} {xs : Seq (t.Argument no_payload)} → At level.Number ps e
      → Reads (OptionalList arguments) (λ vs. map (λ v. unspanned_argument v) vs) qs xs
      → At level.Primary (ps ++ in_round qs) (plain (t.Call e (arguments_of xs)))
  call_read r l = record {
    derivation = primary_call r.derivation nowhere l.derivation nowhere;
    writes = followed r.writes (after (followed l.writes one));
    looks = ap₂ (λ f xs. plain (t.Call f xs)) r.looks (arguments_unspanned (tree l.derivation) ∙ ap arguments_of l.looks);
  }

  pub index_read : {qs : Pieces} {i : Expression no_payload} → At level.Number ps e → At level.Test qs i
      → At level.Primary (ps ++ in_square qs) (plain (t.Index e i))
  index_read r q = record {
    derivation = primary_subscript r.derivation nowhere (sub_one q.derivation) nowhere;
    writes = followed r.writes (after (followed q.writes one));
    looks = ap₂ (λ x y. plain (t.Index x y)) r.looks q.looks;
  }

  pub index_two_read : {qs rs : Pieces} {i j : Expression no_payload} → At level.Number ps e → At level.Test qs i → At level.Test rs j
      → At level.Primary (ps ++ in_square (qs ++ (comma ++ rs))) (plain (t.Index2 e i j))
  index_two_read r q p = record {
    derivation = primary_subscript r.derivation nowhere (sub_two q.derivation nowhere p.derivation) nowhere;
    writes = followed r.writes (after (followed (followed q.writes (after (spaced 1 p.writes))) one));
    looks = ap₃ (λ x y z. plain (t.Index2 x y z)) r.looks q.looks p.looks;
  }

  pub slice_read : {qs rs : Pieces} {i j : Maybe no_payload} → At level.Number ps e → Reads Bound (λ v. unspanned_maybe v) qs i
      → Reads Bound (λ v. unspanned_maybe v) rs j → At level.Primary (ps ++ in_square (qs ++ (token Colon ∷ [] ++ (rs ++ []))))
      (plain (t.Slice e i j t.absent))
  slice_read r q p = record {
    derivation = primary_subscript r.derivation nowhere (sub_slice q.derivation nowhere p.derivation) nowhere;
    writes = followed r.writes (after (followed (followed q.writes (after (then_none p.writes))) one));
    looks = ap₃ (λ x y z. plain (t.Slice x y z t.absent)) r.looks q.looks p.looks;
  }

  pub step_read : {qs rs ss : Pieces} {i j k : Maybe no_payload} → At level.Number ps e → Reads Bound (λ v. unspanned_maybe v) qs i
      → Reads Bound (λ v. unspanned_maybe v) rs j → Reads Bound (λ v. unspanned_maybe v) ss k
      → At level.Primary (ps ++ in_square (qs ++ (token Colon ∷ [] ++ (rs ++ token Colon ∷ ss)))) (plain (t.Slice e i j k))
  step_read r q p o = record {
    derivation = primary_subscript r.derivation nowhere (sub_step q.derivation nowhere p.derivation nowhere o.derivation) nowhere;
    writes = followed r.writes (after (followed (followed q.writes (after (followed p.writes (after o.writes)))) one));
    looks = ap₄ (λ w x y z. plain (t.Slice w x y z)) r.looks q.looks p.looks o.looks;
  }

-- ---- operators

after_not_in : {a : RightSide} {qs : Pieces} → Writes a qs → Writes ((word tokens.Not nowhere ⨾ word tokens.In nowhere) ⨾ a) (operator op.NotIn ++ qs)
after_not_in w = record { fine = ((tt, tt), w.fine); tokens = λ rest. ap (λ ts. tokens.Not ∷ tokens.In ∷ ts) (w.tokens rest) }

module _ {ps : Pieces} {e : Expression no_payload} where
  pub not_read : At level.Not ps e → At level.Not (token tokens.Not ∷ blank 1 ∷ ps) (plain (t.Not e))
  not_read r = record { derivation = not_not nowhere r.derivation; writes = after (spaced 1 r.writes); looks = ap (λ x. plain (t.Not x)) r.looks }

  pub minus_read : At level.Unary ps e → At level.Unary (token tokens.Minus ∷ ps) (plain (t.Minus e))
  minus_read r = record { derivation = unary_sign minus_sign nowhere r.derivation; writes = after r.writes; looks = ap (λ x. plain (t.Minus x)) r.looks }

  pub plus_read : At level.Unary ps e → At level.Unary (token tokens.Plus ∷ ps) (plain (t.Plus e))
  plus_read r = record { derivation = unary_sign plus_sign nowhere r.derivation; writes = after r.writes; looks = ap (λ x. plain (t.Plus x)) r.looks }

  pub bit_not_read : At level.Unary ps e → At level.Unary (token tokens.Tilde ∷ ps) (plain (t.BitNot e))
  bit_not_read r = record { derivation = unary_sign tilde_sign nowhere r.derivation; writes = after r.writes; looks = ap (λ x. plain (t.BitNot x)) r.looks }

  left_read : {k : PrecedenceLevel} {n : Nonterminal} {qs : Pieces} {f : Expression no_payload} (u : OperandOf k n) (o : Operator k)
      → Reads (LeftAssociative k) (λ v. unspanned v) ps e → Reads n (λ v. unspanned (operand_tree u v)) qs f
      → Reads (LeftAssociative k) (λ v. unspanned v) (ps ++ (between (operator_token o) ++ qs)) (plain (t.Op e (operator_of o) f))
  left_read u o l r = record {
    derivation = left_more u l.derivation o nowhere r.derivation;
    writes = followed l.writes (after_sign r.writes);
    looks = ap₂ (λ x y. plain (t.Op x (operator_of o) y)) l.looks r.looks;
  }

  compared : {qs : Pieces} {f : Expression no_payload} (c : Comparison) → At level.BitOr ps e → At level.BitOr qs f
      → At level.Comparison (ps ++ (between (comparison_token c) ++ qs)) (plain (t.Op e (comparison_of c) f))
  compared c l r = record {
    derivation = comp_two l.derivation (comparison c nowhere) r.derivation;
    writes = followed l.writes (after_sign r.writes);
    looks = ap₂ (λ x y. plain (t.Op x (comparison_of c) y)) l.looks r.looks;
  }

  not_in_read : {qs : Pieces} {f : Expression no_payload} → At level.BitOr ps e → At level.BitOr qs f
      → At level.Comparison (ps ++ (operator op.NotIn ++ qs)) (plain (t.Op e op.NotIn f))
  not_in_read l r = record {
    derivation = comp_two l.derivation (not_in nowhere nowhere) r.derivation;
    writes = followed l.writes (after_not_in r.writes);
    looks = ap₂ (λ x y. plain (t.Op x op.NotIn y)) l.looks r.looks;
  }

  pub operation_read : {qs : Pieces} {f : Expression no_payload} (o : BinOp) → At (left_of (level_of_operator o)) ps e
      → At (right_of (level_of_operator o)) qs f
      → At (level_of_operator o) (ps ++ (operator o ++ qs)) (plain (t.Op e o f))
  operation_read op.Or l r = left_read of_or or_sign l r
  operation_read op.And l r = left_read of_and and_sign l r
  operation_read op.Equal l r = compared equal l r
  operation_read op.NotEqual l r = compared not_equal l r
  operation_read op.Less l r = compared less l r
  operation_read op.Greater l r = compared greater l r
  operation_read op.LessOrEqual l r = compared less_or_equal l r
  operation_read op.GreaterOrEqual l r = compared greater_or_equal l r
  operation_read op.In l r = compared membership l r
  operation_read op.NotIn l r = not_in_read l r
  operation_read op.Subtract l r = left_read of_add minus l r
  operation_read op.Add l r = left_read of_add plus l r
  operation_read op.Multiply l r = left_read of_multiply star l r
  operation_read op.Percent l r = left_read of_multiply percent l r
  operation_read op.Divide l r = left_read of_multiply slash l r
  operation_read op.FloorDivide l r = left_read of_multiply slash_slash l r
  operation_read op.BitAnd l r = left_read of_bit_and ampersand l r
  operation_read op.BitOr l r = left_read of_bit_or pipe l r
  operation_read op.BitXor l r = left_read of_xor caret l r
  operation_read op.LeftShift l r = left_read of_shift less_less l r
  operation_read op.RightShift l r = left_read of_shift greater_greater l r

  pub if_read : {qs rs : Pieces} {c b : Expression no_payload} → At level.Or ps e → At level.Or qs c → At level.Test rs b
      → At level.Test (ps ++ (between tokens.If ++ (qs ++ (between tokens.Else ++ rs)))) (plain (t.If c e b))
  if_read a c b = record {
    derivation = test_if a.derivation nowhere c.derivation nowhere b.derivation;
    writes = followed a.writes (after_sign (followed c.writes (after_sign b.writes)));
    looks = ap₃ (λ x y z. plain (t.If x y z)) c.looks a.looks b.looks;
  }

  pub lambda_read : {qs : Pieces} {xs : Seq (t.Parameter no_payload)}
      → Reads (OptionalList lambda_parameters) (λ vs. map (λ v. unspanned_parameter v) vs) qs xs
      → At level.Test ps e → At level.Test (token tokens.Lambda ∷ (qs ++ (colon ++ ps))) (plain (t.Lambda (parameters_of xs) e tt))
  lambda_read l r = record {
    derivation = test_lambda nowhere l.derivation nowhere r.derivation;
    writes = after (followed l.writes (after (spaced 1 r.writes)));
    looks = ap₂ (λ xs x. plain (t.Lambda xs x tt)) (parameters_unspanned (tree l.derivation) ∙ ap parameters_of l.looks) r.looks;
  }

-- ---- comprehensions

abbrev pub with_clauses : t.ForIn no_payload → Seq (t.Clause no_payload) → Comprehended
with_clauses first cs = (first, cs)

abbrev pub unspanned_comprehended : Comprehended → Comprehended
unspanned_comprehended c = with_clauses (unspanned_for c.0) (map (λ x. unspanned_clause x) c.1)

-- what is read as a target is a target, and is seen as this one
pub aims_well : (r : Result (t.Target no_payload) Fault) {x : t.Target no_payload} → aimed r ≡ Ok x → is_ok r ≡ true
aims_well (Ok y) is = refl
aims_well (Err f) is = absurd (cc)

pub aims_at : (r : Result (t.Target no_payload) Fault) {x : t.Target no_payload} → aimed r ≡ Ok x → unspanned_target (target_or_none r) ≡ x
aims_at (Ok y) is = cc
aims_at (Err f) is = absurd (cc)

pub for_read : {ps qs : Pieces} {x : t.Target no_payload} {e : Expression no_payload} → Reads LoopVars (λ v. aimed (target v)) ps (Ok x)
    → At level.Or qs e
    → Reads ForClause (λ v. unspanned_for v) (between tokens.For ++ (ps ++ (between tokens.In ++ qs))) (t.for_in x e)
for_read l r = record {
  derivation = for_clause nowhere l.derivation nowhere r.derivation;
  writes = with_mark (aims_well (target (tree l.derivation)) l.looks) (after_sign (followed l.writes (after_sign r.writes)));
  looks = ap₂ t.for_in (aims_at (target (tree l.derivation)) l.looks) r.looks;
}

pub first_clause : {ps : Pieces} {f : t.ForIn no_payload} → Reads ForClause (λ v. unspanned_for v) ps f
    → Reads Clauses (λ v. unspanned_comprehended v) ps (with_clauses f [])
first_clause r = record { derivation = clauses_one r.derivation; writes = r.writes; looks = ap (λ x. with_clauses x []) r.looks }

clause_more : (c : Comprehended) (x y : t.Clause no_payload) (f : t.ForIn no_payload) (xs : Seq (t.Clause no_payload))
    → unspanned_comprehended c ≡ with_clauses f xs → unspanned_clause x ≡ y
    → unspanned_comprehended (with_clauses c.0 (c.1 ++ x ∷ [])) ≡ with_clauses f (xs ++ y ∷ [])
clause_more c x y f xs is same =
    ap₂ with_clauses (ap (λ p. p.0) is) (map-append (λ z. unspanned_clause z) c.1 (x ∷ []) ∙ ap₂ (λ zs z. zs ++ z ∷ []) (ap (λ p. p.1) is) same)

module _ {ps qs : Pieces} {f : t.ForIn no_payload} {cs : Seq (t.Clause no_payload)} where
  pub next_for : {g : t.ForIn no_payload} → Reads Clauses (λ v. unspanned_comprehended v) ps (with_clauses f cs) → Reads ForClause (λ v. unspanned_for v) qs g
      → Reads Clauses (λ v. unspanned_comprehended v) (ps ++ qs) (with_clauses f (cs ++ t.for_clause g ∷ []))
  next_for {g = g} l r = record {
    derivation = clauses_for l.derivation r.derivation;
    writes = followed l.writes r.writes;
    looks = clause_more (tree l.derivation) (t.for_clause (tree r.derivation)) (t.for_clause g) f cs l.looks (ap t.for_clause r.looks);
  }

  pub next_if : {e : Expression no_payload} → Reads Clauses (λ v. unspanned_comprehended v) ps (with_clauses f cs) → At level.Or qs e
      → Reads Clauses (λ v. unspanned_comprehended v) (ps ++ (between tokens.If ++ qs)) (with_clauses f (cs ++ t.if_clause e ∷ []))
  next_if {e = e} l r = record {
    derivation = clauses_if l.derivation nowhere r.derivation;
    writes = followed l.writes (after_sign r.writes);
    looks = clause_more (tree l.derivation) (t.if_clause (tree r.derivation)) (t.if_clause e) f cs l.looks (ap t.if_clause r.looks);
  }

pub pair_read : {ps qs : Pieces} {k e : Expression no_payload} → At level.Test ps k → At level.Test qs e
    → Reads Entry (λ v. unspanned_pair v) (ps ++ (colon ++ qs)) (k, e)
pair_read k e = record {
  derivation = entry k.derivation nowhere e.derivation;
  writes = followed k.writes (after (spaced 1 e.writes));
  looks = ap₂ paired k.looks e.looks;
}
  where
    paired : Expression no_payload → Expression no_payload → Pair
    paired x y = (x, y)

module _ {ps qs : Pieces} {f : t.ForIn no_payload} {cs : Seq (t.Clause no_payload)} where
  pub list_comprehension_read : {e : Expression no_payload} → At level.Test ps e → Reads Clauses (λ v. unspanned_comprehended v) qs (with_clauses f cs)
      → At level.Primary (in_square (ps ++ qs)) (plain (t.ListComprehension e f (clauses_of cs)))
  list_comprehension_read r l = record {
    derivation = primary_atom (atom_list_comprehension nowhere r.derivation l.derivation nowhere);
    writes = after (as_pieces (sym (append_assoc ps qs _)) (followed r.writes (followed l.writes one)));
    looks = ap₃ (λ x y z. plain (t.ListComprehension x y z)) r.looks (ap (λ p. p.0) l.looks)
        (clauses_unspanned (tree l.derivation).1 ∙ ap (λ p. clauses_of p.1) l.looks);
  }

  pub dict_comprehension_read : {k e : Expression no_payload} → Reads Entry (λ v. unspanned_pair v) ps (k, e)
      → Reads Clauses (λ v. unspanned_comprehended v) qs (with_clauses f cs)
      → At level.Primary (in_curly (ps ++ qs)) (plain (t.DictComprehension k e f (clauses_of cs)))
  dict_comprehension_read r l = record {
    derivation = primary_atom (atom_dict_comprehension nowhere r.derivation l.derivation nowhere);
    writes = after (as_pieces (sym (append_assoc ps qs _)) (followed r.writes (followed l.writes one)));
    looks = ap₄ (λ w x y z. plain (t.DictComprehension w x y z)) (ap (λ p. p.0) r.looks) (ap (λ p. p.1) r.looks) (ap (λ p. p.0) l.looks)
        (clauses_unspanned (tree l.derivation).1 ∙ ap (λ p. clauses_of p.1) l.looks);
  }
