-- Blocks without their Dedent: parts that require that the tokens end.
use Rattle.std.proofs.Common.{◌≡◌, ◌≤◌, ◌+◌, ℕ, arith, List, [], ◌∷◌, refl, sym, ◌∙◌, ap, subst}
use Rattle.std.specs.Bool.{⊤}
use Rattle.starlark_lexer.specs.Tokens.{Lexeme}
use Rattle.starlark_spec.specs.Grammar.{Nonterminal, ElementKind, ElementOf, PrecedenceLevel, OperandOf, CompSign, Derivation, RightSide, right_side}
use Rattle.starlark_spec.specs.Grammar.{sign_side, side_yield, side_condition}
use Rattle.starlark_spec.specs.Grammar as G
use Rattle.starlark_spec.specs.Grammar.RightSide.{◌⨾◌}

-- how often a part requires that the tokens end, plus a number
abbrev pub opened : RightSide → ℕ → ℕ
opened G.nothing n = n
opened (G.word t s) n = n
opened (a ⨾ c) n = opened a (opened c n)
opened (G.marked x a) n = opened a n
opened G.tokens_end n = n + 1

more_opened : (a : RightSide) (n : ℕ) → n ≤ opened a n
more_opened G.nothing n = omega arith
more_opened (G.word t s) n = omega arith
more_opened (a ⨾ c) n = omega (arith, more_opened a (opened c n), more_opened c n)
more_opened (G.marked x a) n = more_opened a n
more_opened G.tokens_end n = omega arith

pub none_after : (a : RightSide) (n : ℕ) → opened a n ≡ 0 → n ≡ 0
none_after a n h = omega (arith, more_opened a n, h)

pub none_before : (a : RightSide) (n : ℕ) → opened a n ≡ 0 → opened a 0 ≡ 0
none_before a n h = subst (λ k. opened a k ≡ 0) (none_after a n h) h

-- a condition wherever a part requires that the tokens end, and then the condition on what follows
abbrev pub obeys : (List Lexeme → Type 0) → RightSide → List Lexeme → Type 0 → Type 0
obeys E G.nothing r T = T
obeys E (G.word t s) r T = T
obeys E (a ⨾ c) r T = obeys E a (side_yield c r) (obeys E c r T)
obeys E (G.marked x a) r T = obeys E a r T
obeys E G.tokens_end r T = E r × T

pub follows : (E : List Lexeme → Type 0) (a : RightSide) (r : List Lexeme) (T : Type 0) → obeys E a r T → T
follows E G.nothing r T h = h
follows E (G.word t s) r T h = h
follows E (a ⨾ c) r T h = follows E c r T (follows E a (side_yield c r) (obeys E c r T) h)
follows E (G.marked x a) r T h = follows E a r T h
follows E G.tokens_end r T h = h.1

pub mapped : (E : List Lexeme → Type 0) (a : RightSide) (r : List Lexeme) (T U : Type 0) → (T → U) → obeys E a r T → obeys E a r U
mapped E G.nothing r T U f h = f h
mapped E (G.word t s) r T U f h = f h
mapped E (a ⨾ c) r T U f h = mapped E a (side_yield c r) (obeys E c r T) (obeys E c r U) (mapped E c r T U f) h
mapped E (G.marked x a) r T U f h = mapped E a r T U f h
mapped E G.tokens_end r T U f h = (h.0, f h.1)

-- where the tokens end
abbrev pub AtEnd : List Lexeme → Type 0
AtEnd r = r ≡ []

-- nowhere
abbrev pub Nowhere : List Lexeme → Type 0
Nowhere r = ⊥

pub side_condition_obeys : (a : RightSide) (r : List Lexeme) (T : Type 0) → side_condition a r T ≡ obeys AtEnd a r T
side_condition_obeys G.nothing r T = refl
side_condition_obeys (G.word t s) r T = refl
side_condition_obeys (a ⨾ c) r T = ap (side_condition a (side_yield c r)) (side_condition_obeys c r T)
    ∙ side_condition_obeys a (side_yield c r) (obeys AtEnd c r T)
side_condition_obeys (G.marked x a) r T = side_condition_obeys a r T
side_condition_obeys G.tokens_end r T = refl

pub none_obeys : (E : List Lexeme → Type 0) (a : RightSide) (r : List Lexeme) (T : Type 0) → opened a 0 ≡ 0 → T → obeys E a r T
none_obeys E G.nothing r T h t = t
none_obeys E (G.word w s) r T h t = t
none_obeys E (a ⨾ c) r T h t = none_obeys E a (side_yield c r) (obeys E c r T) (none_before a (opened c 0) h)
    (none_obeys E c r T (none_after a (opened c 0) h) t)
none_obeys E (G.marked x a) r T h t = none_obeys E a r T h t
none_obeys E G.tokens_end r T h t = absurd (omega (arith, h))

pub none_side_condition : (a : RightSide) (r : List Lexeme) → opened a 0 ≡ 0 → side_condition a r ⊤
none_side_condition a r h = subst (λ (x : Type 0). x) (sym (side_condition_obeys a r ⊤)) (none_obeys AtEnd a r ⊤ h tt)

some_token : (a : RightSide) (x : Lexeme) (r : List Lexeme) → (y : Lexeme) × (ys : List Lexeme) × (side_yield a (x ∷ r) ≡ y ∷ ys)
some_token G.nothing x r = (x, r, refl)
some_token (G.word t s) x r = (_, _, refl)
some_token (a ⨾ c) x r =
    let k = some_token c x r in let j = some_token a k.0 k.1 in (j.0, j.1, ap (side_yield a) k.2 ∙ j.2)
some_token (G.marked y a) x r = some_token a x r
some_token G.tokens_end x r = (x, r, refl)

no_nil : (y : Lexeme) (ys : List Lexeme) → y ∷ ys ≡ [] → ⊥
no_nil y ys e = cc

-- if a token follows, no part requires that the tokens end
pub none_inside : (a : RightSide) (x : Lexeme) (r : List Lexeme) (T : Type 0) → obeys AtEnd a (x ∷ r) T → opened a 0 ≡ 0
none_inside G.nothing x r T h = refl
none_inside (G.word t s) x r T h = refl
none_inside (a ⨾ c) x r T h =
    let k = some_token c x r in
    let o : opened c 0 ≡ 0 = none_inside c x r T (follows AtEnd a (side_yield c (x ∷ r)) (obeys AtEnd c (x ∷ r) T) h) in
    let i : opened a 0 ≡ 0 = none_inside a k.0 k.1 (obeys AtEnd c (x ∷ r) T) (subst (λ q. obeys AtEnd a q (obeys AtEnd c (x ∷ r) T)) k.2 h) in
    ap (opened a) o ∙ i
none_inside (G.marked y a) x r T h = none_inside a x r T h
none_inside G.tokens_end x r T h = absurd (no_nil x r h.0)

-- the nonterminals without statements
abbrev pub IsPlain : Nonterminal → Type 0
IsPlain G.Module = ⊥
IsPlain G.Stmt = ⊥
IsPlain G.Suite = ⊥
IsPlain G.Block = ⊥
IsPlain G.Rest = ⊥
IsPlain G.For = ⊥
IsPlain _ = ⊤

plain_under : {k : PrecedenceLevel} {n : Nonterminal} → OperandOf k n → IsPlain n
plain_under G.of_or = tt
plain_under G.of_and = tt
plain_under G.of_bit_or = tt
plain_under G.of_xor = tt
plain_under G.of_bit_and = tt
plain_under G.of_shift = tt
plain_under G.of_add = tt
plain_under G.of_multiply = tt

plain_of : {k : ElementKind} {n : Nonterminal} → ElementOf k n → IsPlain n
plain_of G.of_elements = tt
plain_of G.of_arguments = tt
plain_of G.of_entries = tt
plain_of G.of_lambda_parameters = tt
plain_of G.of_variables = tt
plain_of G.of_symbols = tt
plain_of G.of_def_parameters = tt

no_sign : (o : CompSign) (m : ℕ) → opened (sign_side o) m ≡ m
no_sign (G.comparison c s) m = refl
no_sign (G.not_in s i) m = refl

-- a derivation without statements never requires that the tokens end
pub no_blocks : {n : Nonterminal} (d : Derivation n) → IsPlain n → (m : ℕ) → opened (right_side d) m ≡ m
no_blocks G.newlines_none h m = refl
no_blocks (G.newlines_more d s) h m = no_blocks d tt _
no_blocks G.return_type_none h m = refl
no_blocks (G.return_type_note a d) h m = no_blocks d tt _
no_blocks (G.def_param_slash s) h m = refl
no_blocks (G.def_param_star s) h m = refl
no_blocks (G.def_param_args s text i d) h m = no_blocks d tt _
no_blocks (G.def_param_kwargs s text i d) h m = no_blocks d tt _
no_blocks (G.def_param_name text i d) h m = no_blocks d tt _
no_blocks (G.def_param_default text i d e v) h m = no_blocks d tt _ ∙ no_blocks v tt _
no_blocks (G.simple_line d n) h m = no_blocks d tt _
no_blocks (G.simple_semicolon d s n) h m = no_blocks d tt _
no_blocks (G.smalls_one d) h m = no_blocks d tt _
no_blocks (G.smalls_more d s e) h m = no_blocks d tt _ ∙ no_blocks e tt _
no_blocks (G.small_return r) h m = refl
no_blocks (G.small_return_value r d) h m = no_blocks d tt _
no_blocks (G.small_break s) h m = refl
no_blocks (G.small_continue s) h m = refl
no_blocks (G.small_pass s) h m = refl
no_blocks (G.small_load l o text i d c) h m = no_blocks d tt _
no_blocks (G.small_test d) h m = no_blocks d tt _
no_blocks (G.small_assign d n o s e) h m = no_blocks d tt _ ∙ no_blocks n tt _ ∙ no_blocks e tt _
no_blocks (G.list_plain d) h m = no_blocks d tt _
no_blocks (G.list_comma d c) h m = no_blocks d tt _
no_blocks G.annotation_none h m = refl
no_blocks (G.annotation_note c d) h m = no_blocks d tt _
no_blocks (G.note_test d) h m = no_blocks d tt _
no_blocks G.symbols_none h m = refl
no_blocks (G.symbols_list c d) h m = no_blocks d tt _
no_blocks (G.sym_same text s) h m = refl
no_blocks (G.sym_other text i e their s) h m = refl
no_blocks (G.sym_alone text i) h m = refl
no_blocks (G.test_or d) h m = no_blocks d tt _
no_blocks (G.test_if d i c e f) h m = no_blocks d tt _ ∙ no_blocks c tt _ ∙ no_blocks f tt _
no_blocks (G.test_lambda l d c e) h m = no_blocks d tt _ ∙ no_blocks e tt _
no_blocks (G.left_one u d) h m = no_blocks d (plain_under u) _
no_blocks (G.left_more u d o s e) h m = no_blocks d tt _ ∙ no_blocks e (plain_under u) _
no_blocks (G.not_not s d) h m = no_blocks d tt _
no_blocks (G.not_comp d) h m = no_blocks d tt _
no_blocks (G.comp_one d) h m = no_blocks d tt _
no_blocks (G.comp_two d o e) h m = no_blocks d tt _ ∙ no_sign o _ ∙ no_blocks e tt _
no_blocks (G.unary_sign o s d) h m = no_blocks d tt _
no_blocks (G.unary_primary d) h m = no_blocks d tt _
no_blocks (G.primary_atom d) h m = no_blocks d tt _
no_blocks (G.primary_dot d s text i) h m = no_blocks d tt _
no_blocks (G.primary_subscript d o f c) h m = no_blocks d tt _ ∙ no_blocks f tt _
no_blocks (G.primary_call d o f c) h m = no_blocks d tt _ ∙ no_blocks f tt _
no_blocks (G.sub_one d) h m = no_blocks d tt _
no_blocks (G.sub_two d c e) h m = no_blocks d tt _ ∙ no_blocks e tt _
no_blocks (G.sub_slice d c e) h m = no_blocks d tt _ ∙ no_blocks e tt _
no_blocks (G.sub_step d c e s f) h m = no_blocks d tt _ ∙ no_blocks e tt _ ∙ no_blocks f tt _
no_blocks G.bound_none h m = refl
no_blocks (G.bound_test d) h m = no_blocks d tt _
no_blocks (G.arg_test d) h m = no_blocks d tt _
no_blocks (G.arg_named text s e d) h m = no_blocks d tt _
no_blocks (G.arg_star s d) h m = no_blocks d tt _
no_blocks (G.arg_stars s d) h m = no_blocks d tt _
no_blocks (G.entry d c e) h m = no_blocks d tt _ ∙ no_blocks e tt _
no_blocks (G.lambda_param_slash s) h m = refl
no_blocks (G.lambda_param_star s) h m = refl
no_blocks (G.lambda_param_args s text i) h m = refl
no_blocks (G.lambda_param_kwargs s text i) h m = refl
no_blocks (G.lambda_param_name text i) h m = refl
no_blocks (G.lambda_param_default text i e d) h m = no_blocks d tt _
no_blocks (G.atom_name text s) h m = refl
no_blocks (G.atom_int n s) h m = refl
no_blocks (G.atom_float text s) h m = refl
no_blocks (G.atom_string text s) h m = refl
no_blocks (G.atom_bytes text s) h m = refl
no_blocks (G.atom_ellipsis s) h m = refl
no_blocks (G.atom_round o d c) h m = no_blocks d tt _
no_blocks (G.atom_square o d c) h m = no_blocks d tt _
no_blocks (G.atom_curly o d c) h m = no_blocks d tt _
no_blocks (G.atom_list_comprehension o d e c) h m = no_blocks d tt _ ∙ no_blocks e tt _
no_blocks (G.atom_dict_comprehension o d e c) h m = no_blocks d tt _ ∙ no_blocks e tt _
no_blocks (G.atom_f_string q s d e) h m = no_blocks d tt _
no_blocks (G.vars_plain d) h m = no_blocks d tt _
no_blocks (G.vars_comma d c) h m = no_blocks d tt _
no_blocks (G.for_clause f d i e) h m = no_blocks d tt _ ∙ no_blocks e tt _
no_blocks (G.clauses_one d) h m = no_blocks d tt _
no_blocks (G.clauses_for d e) h m = no_blocks d tt _ ∙ no_blocks e tt _
no_blocks (G.clauses_if d i e) h m = no_blocks d tt _ ∙ no_blocks e tt _
no_blocks G.parts_none h m = refl
no_blocks (G.parts_text d text s) h m = no_blocks d tt _
no_blocks (G.parts_replacement d o e c x) h m = no_blocks d tt _ ∙ no_blocks e tt _ ∙ no_blocks c tt _
no_blocks G.conversion_default h m = refl
no_blocks (G.conversion_absent s) h m = refl
no_blocks (G.conversion_name s text i) h m = refl
no_blocks G.optional_list_none h m = refl
no_blocks (G.optional_list_plain d) h m = no_blocks d tt _
no_blocks (G.optional_list_comma d c) h m = no_blocks d tt _
no_blocks (G.comma_list_one u d) h m = no_blocks d (plain_of u) _
no_blocks (G.comma_list_more u d c e) h m = no_blocks d tt _ ∙ no_blocks e (plain_of u) _
no_blocks d h m = absurd h
