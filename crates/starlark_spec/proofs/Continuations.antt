-- Longer derivations: what continues an expression, and how one begins.
use Rattle.std.proofs.Common.{ℕ, ◌≡◌, ◌≤◌, ◌<◌, lit≤, arith, true, List, [], ◌∷◌, refl, ap}
use Rattle.std.specs.Bool.{⊤}
use Rattle.starlark_lexer.specs.Tokens.{Span, Lexeme, lexeme, Terminal, nowhere}
use Rattle.starlark_lexer.specs.Tokens as tokens
use Rattle.starlark_spec.specs.Grammar.{Nonterminal, PrecedenceLevel, OperandOf, Operator, Comparison, Derivation, yield_of, operator_token, comparison_token}
use Rattle.starlark_spec.specs.Grammar as G
use Rattle.starlark_spec.specs.Nodes.{ends_with_comparison, begins_comparison}
use Rattle.starlark_lexer.specs.Kinds.{kind_of}
use Rattle.starlark_spec.specs.Machine.Firsts.{starts_operand, starts_test}
use Rattle.starlark_spec.specs.Machine.Moves.{operand, is_operand}
use Rattle.starlark_spec.specs.Machine.BindingPower.{binding_power}
use Rattle.starlark_spec.proofs.Constructors.{not_true}
use Rattle.starlark_spec.proofs.Complete.{level_own}
use Rattle.starlark_spec.proofs.Viable.{a_name, a_test, a_left, a_bit_or, a_unary, a_not, w}

-- a token that continues an expression, and how tightly it binds
pub data Goes : ℕ → Lexeme → Type 0 where
  by_if : (s : Span) → Goes 1 (lexeme tokens.If s)
  by_operator : {k : PrecedenceLevel} (o : Operator k) (s : Span) → Goes (level_own k) (lexeme (operator_token o) s)
  by_comparison : (c : Comparison) (s : Span) → Goes 4 (lexeme (comparison_token c) s)
  by_not : (s : Span) → Goes 4 (lexeme tokens.Not s)
  by_dot : (s : Span) → Goes 11 (lexeme tokens.Dot s)
  by_square : (s : Span) → Goes 11 (lexeme tokens.OpeningSquare s)
  by_round : (s : Span) → Goes 11 (lexeme tokens.OpeningRound s)

none_goes : (t : ℕ) → 1 ≤ t → t ≡ 0 → ⊥
none_goes t h e = omega (arith, h, e)

pub going : (t : Terminal) (s : Span) → 1 ≤ binding_power (kind_of t) → Goes (binding_power (kind_of t)) (lexeme t s)
going tokens.If s h = by_if s
going tokens.Or s h = by_operator G.or_sign s
going tokens.And s h = by_operator G.and_sign s
going tokens.Pipe s h = by_operator G.pipe s
going tokens.Caret s h = by_operator G.caret s
going tokens.Ampersand s h = by_operator G.ampersand s
going tokens.LessLess s h = by_operator G.less_less s
going tokens.GreaterGreater s h = by_operator G.greater_greater s
going tokens.Plus s h = by_operator G.plus s
going tokens.Minus s h = by_operator G.minus s
going tokens.Star s h = by_operator G.star s
going tokens.Slash s h = by_operator G.slash s
going tokens.SlashSlash s h = by_operator G.slash_slash s
going tokens.Percent s h = by_operator G.percent s
going tokens.EqualEqual s h = by_comparison G.equal s
going tokens.BangEqual s h = by_comparison G.not_equal s
going tokens.LessThan s h = by_comparison G.less s
going tokens.GreaterThan s h = by_comparison G.greater s
going tokens.LessEqual s h = by_comparison G.less_or_equal s
going tokens.GreaterEqual s h = by_comparison G.greater_or_equal s
going tokens.In s h = by_comparison G.membership s
going tokens.Not s h = by_not s
going tokens.Dot s h = by_dot s
going tokens.OpeningSquare s h = by_square s
going tokens.OpeningRound s h = by_round s
going t s h = absurd (none_goes _ h refl)

-- what binds like a comparison begins the operator of one
pub begins_one : (t : Terminal) → binding_power (kind_of t) ≡ 4 → begins_comparison t ≡ true
begins_one tokens.EqualEqual h = refl
begins_one tokens.BangEqual h = refl
begins_one tokens.LessThan h = refl
begins_one tokens.GreaterThan h = refl
begins_one tokens.LessEqual h = refl
begins_one tokens.GreaterEqual h = refl
begins_one tokens.In h = refl
begins_one tokens.Not h = refl
begins_one t h = absurd (omega (arith, h))

pub powers_as_one : (t : Terminal) → begins_comparison t ≡ true → binding_power (kind_of t) ≡ 4
powers_as_one tokens.EqualEqual h = refl
powers_as_one tokens.BangEqual h = refl
powers_as_one tokens.LessThan h = refl
powers_as_one tokens.GreaterThan h = refl
powers_as_one tokens.LessEqual h = refl
powers_as_one tokens.GreaterEqual h = refl
powers_as_one tokens.In h = refl
powers_as_one tokens.Not h = refl
powers_as_one t h = not_true h

-- a longer derivation, by a token and further ones
pub record Grown {n : Nonterminal} (d : Derivation n) (x : Lexeme) : Type 0 where
  pub longer : Derivation n
  pub more : List Lexeme
  pub spells : yield_of longer [] ≡ yield_of d (x ∷ more)

-- the loosest binding that continues a nonterminal
abbrev loosest : Nonterminal → ℕ
loosest G.Test = 1
loosest (G.LeftAssociative k) = level_own k
loosest G.Not = 4
loosest G.Comp = 4
loosest _ = 11

inner : {k : PrecedenceLevel} {n : Nonterminal} (u : OperandOf k n) (t : ℕ) → level_own k < t → loosest n ≤ t
inner G.of_or t h = omega (arith, h)
inner G.of_and t h = omega (arith, h)
inner G.of_bit_or t h = omega (arith, h)
inner G.of_xor t h = omega (arith, h)
inner G.of_bit_and t h = omega (arith, h)
inner G.of_shift t h = omega (arith, h)
inner G.of_add t h = omega (arith, h)
inner G.of_multiply t h = omega (arith, h)

-- the shortest operand of a level
abbrev an_operand : (k : PrecedenceLevel) → Derivation (operand k)
an_operand G.or_precedence = a_left G.and_precedence
an_operand G.and_precedence = a_not
an_operand G.bit_or_precedence = a_left G.xor_precedence
an_operand G.xor_precedence = a_left G.bit_and_precedence
an_operand G.bit_and_precedence = a_left G.shift_precedence
an_operand G.shift_precedence = a_left G.add_precedence
an_operand G.add_precedence = a_left G.multiply_precedence
an_operand G.multiply_precedence = a_unary

operand_is : (k : PrecedenceLevel) → yield_of (an_operand k) [] ≡ a_name ∷ []
operand_is G.or_precedence = refl
operand_is G.and_precedence = refl
operand_is G.bit_or_precedence = refl
operand_is G.xor_precedence = refl
operand_is G.bit_and_precedence = refl
operand_is G.shift_precedence = refl
operand_is G.add_precedence = refl
operand_is G.multiply_precedence = refl

-- an operator is of the level, or binds more tightly
pub data Fitting (k : PrecedenceLevel) : ℕ → Lexeme → Type 0 where
  of_it : (o : Operator k) (s : Span) → Fitting k (level_own k) (lexeme (operator_token o) s)
  tighter : {t : ℕ} {x : Lexeme} → level_own k < t → Fitting k t x

by_power : (k : PrecedenceLevel) {j : PrecedenceLevel} (o : Operator j) (s : Span) → level_own k ≤ level_own j
    → Fitting k (level_own j) (lexeme (operator_token o) s)
by_power G.or_precedence {j = G.or_precedence} o s h = of_it o s
by_power G.and_precedence {j = G.and_precedence} o s h = of_it o s
by_power G.bit_or_precedence {j = G.bit_or_precedence} o s h = of_it o s
by_power G.xor_precedence {j = G.xor_precedence} o s h = of_it o s
by_power G.bit_and_precedence {j = G.bit_and_precedence} o s h = of_it o s
by_power G.shift_precedence {j = G.shift_precedence} o s h = of_it o s
by_power G.add_precedence {j = G.add_precedence} o s h = of_it o s
by_power G.multiply_precedence {j = G.multiply_precedence} o s h = of_it o s
by_power k o s h = tighter (omega (arith, h))

no_four : (k : PrecedenceLevel) → level_own k ≤ 4 → level_own k < 4
no_four G.or_precedence h = lit≤ tt
no_four G.and_precedence h = lit≤ tt
no_four k h = absurd (omega (arith, h))

no_eleven : (k : PrecedenceLevel) → level_own k < 11
no_eleven G.or_precedence = lit≤ tt
no_eleven G.and_precedence = lit≤ tt
no_eleven G.bit_or_precedence = lit≤ tt
no_eleven G.xor_precedence = lit≤ tt
no_eleven G.bit_and_precedence = lit≤ tt
no_eleven G.shift_precedence = lit≤ tt
no_eleven G.add_precedence = lit≤ tt
no_eleven G.multiply_precedence = lit≤ tt

no_one : (k : PrecedenceLevel) → level_own k ≤ 1 → ⊥
no_one G.or_precedence h = omega (arith, h)
no_one G.and_precedence h = omega (arith, h)
no_one G.bit_or_precedence h = omega (arith, h)
no_one G.xor_precedence h = omega (arith, h)
no_one G.bit_and_precedence h = omega (arith, h)
no_one G.shift_precedence h = omega (arith, h)
no_one G.add_precedence h = omega (arith, h)
no_one G.multiply_precedence h = omega (arith, h)

fitting : (k : PrecedenceLevel) {t : ℕ} {x : Lexeme} → Goes t x → level_own k ≤ t → Fitting k t x
fitting k (by_if s) h = absurd (no_one k h)
fitting k (by_operator o s) h = by_power k o s h
fitting k (by_comparison c s) h = tighter (no_four k h)
fitting k (by_not s) h = tighter (no_four k h)
fitting k (by_dot s) h = tighter (no_eleven k)
fitting k (by_square s) h = tighter (no_eleven k)
fitting k (by_round s) h = tighter (no_eleven k)

-- an operand with suffixes grows by a suffix
grow_primary : (d : Derivation G.Primary) {t : ℕ} {x : Lexeme} → Goes t x → 11 ≤ t → Grown d x
grow_primary d (by_dot s) h = record { longer = G.primary_dot d s [] nowhere; more = a_name ∷ []; spells = refl }
grow_primary d (by_square s) h = record {
  longer = G.primary_subscript d s (G.sub_one a_test) nowhere;
  more = a_name ∷ w tokens.ClosingSquare ∷ [];
  spells = refl;
}
grow_primary d (by_round s) h = record { longer = G.primary_call d s G.optional_list_none nowhere; more = w tokens.ClosingRound ∷ []; spells = refl }
grow_primary d (by_if s) h = absurd (omega (arith, h))
grow_primary d (by_comparison c s) h = absurd (omega (arith, h))
grow_primary d (by_not s) h = absurd (omega (arith, h))
grow_primary d (by_operator {k = G.or_precedence} o s) h = absurd (omega (arith, h))
grow_primary d (by_operator {k = G.and_precedence} o s) h = absurd (omega (arith, h))
grow_primary d (by_operator {k = G.bit_or_precedence} o s) h = absurd (omega (arith, h))
grow_primary d (by_operator {k = G.xor_precedence} o s) h = absurd (omega (arith, h))
grow_primary d (by_operator {k = G.bit_and_precedence} o s) h = absurd (omega (arith, h))
grow_primary d (by_operator {k = G.shift_precedence} o s) h = absurd (omega (arith, h))
grow_primary d (by_operator {k = G.add_precedence} o s) h = absurd (omega (arith, h))
grow_primary d (by_operator {k = G.multiply_precedence} o s) h = absurd (omega (arith, h))

-- a comparison's left operand grows by a comparison, or is itself longer
pub data Compared : ℕ → Lexeme → Type 0 where
  by_sign : (c : Comparison) (s : Span) → Compared 4 (lexeme (comparison_token c) s)
  by_not_in : (s : Span) → Compared 4 (lexeme tokens.Not s)
  tighter_still : {t : ℕ} {x : Lexeme} → 5 ≤ t → Compared t x

comparing : {t : ℕ} {x : Lexeme} → Goes t x → 4 ≤ t → Compared t x
comparing (by_if s) h = absurd (omega (arith, h))
comparing (by_comparison c s) h = by_sign c s
comparing (by_not s) h = by_not_in s
comparing (by_dot s) h = tighter_still (lit≤ tt)
comparing (by_square s) h = tighter_still (lit≤ tt)
comparing (by_round s) h = tighter_still (lit≤ tt)
comparing (by_operator {k = G.or_precedence} o s) h = absurd (omega (arith, h))
comparing (by_operator {k = G.and_precedence} o s) h = absurd (omega (arith, h))
comparing (by_operator {k = G.bit_or_precedence} o s) h = tighter_still (lit≤ tt)
comparing (by_operator {k = G.xor_precedence} o s) h = tighter_still (lit≤ tt)
comparing (by_operator {k = G.bit_and_precedence} o s) h = tighter_still (lit≤ tt)
comparing (by_operator {k = G.shift_precedence} o s) h = tighter_still (lit≤ tt)
comparing (by_operator {k = G.add_precedence} o s) h = tighter_still (lit≤ tt)
comparing (by_operator {k = G.multiply_precedence} o s) h = tighter_still (lit≤ tt)

-- `if` after an expression, or what continues its operands
pub data Conditional : ℕ → Lexeme → Type 0 where
  with_if : (s : Span) → Conditional 1 (lexeme tokens.If s)
  inside : {t : ℕ} {x : Lexeme} → 2 ≤ t → Conditional t x

conditional : {t : ℕ} {x : Lexeme} → Goes t x → Conditional t x
conditional (by_if s) = with_if s
conditional (by_comparison c s) = inside (lit≤ tt)
conditional (by_not s) = inside (lit≤ tt)
conditional (by_dot s) = inside (lit≤ tt)
conditional (by_square s) = inside (lit≤ tt)
conditional (by_round s) = inside (lit≤ tt)
conditional (by_operator {k = G.or_precedence} o s) = inside (lit≤ tt)
conditional (by_operator {k = G.and_precedence} o s) = inside (lit≤ tt)
conditional (by_operator {k = G.bit_or_precedence} o s) = inside (lit≤ tt)
conditional (by_operator {k = G.xor_precedence} o s) = inside (lit≤ tt)
conditional (by_operator {k = G.bit_and_precedence} o s) = inside (lit≤ tt)
conditional (by_operator {k = G.shift_precedence} o s) = inside (lit≤ tt)
conditional (by_operator {k = G.add_precedence} o s) = inside (lit≤ tt)
conditional (by_operator {k = G.multiply_precedence} o s) = inside (lit≤ tt)

-- the levels of an expression
abbrev IsLevel : Nonterminal → Type 0
IsLevel G.Test = ⊤
IsLevel (G.LeftAssociative k) = ⊤
IsLevel G.Not = ⊤
IsLevel G.Comp = ⊤
IsLevel G.Unary = ⊤
IsLevel G.Primary = ⊤
IsLevel _ = ⊥

level_under : {k : PrecedenceLevel} {n : Nonterminal} → OperandOf k n → IsLevel n
level_under G.of_or = tt
level_under G.of_and = tt
level_under G.of_bit_or = tt
level_under G.of_xor = tt
level_under G.of_bit_and = tt
level_under G.of_shift = tt
level_under G.of_add = tt
level_under G.of_multiply = tt

left_grows : {k : PrecedenceLevel} (d : Derivation (G.LeftAssociative k)) (o : Operator k) (s : Span) → Grown d (lexeme (operator_token o) s)
left_grows {k} d o s = record {
  longer = G.left_more (is_operand k) d o s (an_operand k);
  more = a_name ∷ [];
  spells = ap (λ y. yield_of d (lexeme (operator_token o) s ∷ y)) (operand_is k);
}

grow_test : (d : Derivation (G.LeftAssociative G.or_precedence)) {t : ℕ} {x : Lexeme} → Conditional t x → (2 ≤ t → Grown d x) → Grown (G.test_or d) x
grow_test d (with_if s) f = record {
  longer = G.test_if d s (a_left G.or_precedence) nowhere a_test;
  more = a_name ∷ w tokens.Else ∷ a_name ∷ [];
  spells = refl;
}
grow_test d (inside i) f = let k = f i in record { longer = G.test_or k.longer; more = k.more; spells = k.spells }

grow_one : {k : PrecedenceLevel} {n : Nonterminal} (u : OperandOf k n) (d : Derivation n) {t : ℕ} {x : Lexeme} → Fitting k t x → (level_own k < t → Grown d x)
    → Grown (G.left_one u d) x
grow_one u d (of_it o s) f = left_grows (G.left_one u d) o s
grow_one u d (tighter i) f = let j = f i in record { longer = G.left_one u j.longer; more = j.more; spells = j.spells }

grow_more : {k : PrecedenceLevel} {n : Nonterminal} (u : OperandOf k n) (d : Derivation (G.LeftAssociative k)) (o : Operator k) (s : Span)
    (e : Derivation n) {t : ℕ} {x : Lexeme} → Fitting k t x → (level_own k < t → Grown e x) → Grown (G.left_more u d o s e) x
grow_more u d o s e (of_it p q) f = left_grows (G.left_more u d o s e) p q
grow_more u d o s e (tighter i) f = let j = f i in record {
  longer = G.left_more u d o s j.longer;
  more = j.more;
  spells = ap (λ y. yield_of d (lexeme (operator_token o) s ∷ y)) j.spells;
}

grow_comp : (d : Derivation (G.LeftAssociative G.bit_or_precedence)) {t : ℕ} {x : Lexeme} → Compared t x → (5 ≤ t → Grown d x) → Grown (G.comp_one d) x
grow_comp d (by_sign o s) f = record { longer = G.comp_two d (G.comparison o s) a_bit_or; more = a_name ∷ []; spells = refl }
grow_comp d (by_not_in s) f = record { longer = G.comp_two d (G.not_in s nowhere) a_bit_or; more = w tokens.In ∷ a_name ∷ []; spells = refl }
grow_comp d (tighter_still i) f = let k = f i in record { longer = G.comp_one k.longer; more = k.more; spells = k.spells }

tight : (t : ℕ) → 4 ≤ t → (t ≡ 4 → ⊥) → 5 ≤ t
tight t h c = omega (arith, h, c)

-- An expression is continued by such a token, unless its last token ends a comparison and another comparison comes.
pub grow : {n : Nonterminal} (d : Derivation n) {t : ℕ} {x : Lexeme} → Goes t x → IsLevel n → loosest n ≤ t → (ends_with_comparison d ≡ true → t ≡ 4 → ⊥)
    → Grown d x
grow (G.test_or d) g l h c = grow_test d (conditional g) (λ i. grow d g tt i c)
grow (G.test_if d i v e f) g l h c = let k = grow f g tt h c in record {
  longer = G.test_if d i v e k.longer;
  more = k.more;
  spells = ap (λ y. yield_of d (lexeme tokens.If i ∷ yield_of v (lexeme tokens.Else e ∷ y))) k.spells;
}
grow (G.test_lambda s d v e) g l h c = let k = grow e g tt h c in record {
  longer = G.test_lambda s d v k.longer;
  more = k.more;
  spells = ap (λ y. lexeme tokens.Lambda s ∷ yield_of d (lexeme tokens.Colon v ∷ y)) k.spells;
}
grow (G.left_one {k} u d) g l h c = grow_one u d (fitting k g h) (λ i. grow d g (level_under u) (inner u _ i) c)
grow (G.left_more {k} u d o s e) g l h c = grow_more u d o s e (fitting k g h) (λ i. grow e g (level_under u) (inner u _ i) c)
grow (G.not_not s d) g l h c = let k = grow d g tt h c in
    record { longer = G.not_not s k.longer; more = k.more; spells = ap (λ y. lexeme tokens.Not s ∷ y) k.spells }
grow (G.not_comp d) g l h c = let k = grow d g tt h c in record { longer = G.not_comp k.longer; more = k.more; spells = k.spells }
grow (G.comp_one d) g l h c = grow_comp d (comparing g h) (λ i. grow d g tt i (λ e v. omega (arith, i, v)))
grow (G.comp_two d (G.comparison o s) e) {t} g l h c = let k = grow e g tt (tight t h (c refl)) (λ u v. c refl v) in
    record { longer = G.comp_two d (G.comparison o s) k.longer; more = k.more; spells = ap (λ y. yield_of d (lexeme (comparison_token o) s ∷ y)) k.spells }
grow (G.comp_two d (G.not_in s i) e) {t} g l h c = let k = grow e g tt (tight t h (c refl)) (λ u v. c refl v) in
    record {
      longer = G.comp_two d (G.not_in s i) k.longer;
      more = k.more;
      spells = ap (λ y. yield_of d (lexeme tokens.Not s ∷ lexeme tokens.In i ∷ y)) k.spells;
    }
grow (G.unary_sign G.plus_sign s d) g l h c = let k = grow d g tt h (λ e v. omega (arith, h, v)) in
    record { longer = G.unary_sign G.plus_sign s k.longer; more = k.more; spells = ap (λ y. lexeme tokens.Plus s ∷ y) k.spells }
grow (G.unary_sign G.minus_sign s d) g l h c = let k = grow d g tt h (λ e v. omega (arith, h, v)) in
    record { longer = G.unary_sign G.minus_sign s k.longer; more = k.more; spells = ap (λ y. lexeme tokens.Minus s ∷ y) k.spells }
grow (G.unary_sign G.tilde_sign s d) g l h c = let k = grow d g tt h (λ e v. omega (arith, h, v)) in
    record { longer = G.unary_sign G.tilde_sign s k.longer; more = k.more; spells = ap (λ y. lexeme tokens.Tilde s ∷ y) k.spells }
grow (G.unary_primary d) g l h c = let k = grow_primary d g h in record { longer = G.unary_primary k.longer; more = k.more; spells = k.spells }
grow (G.primary_atom d) g l h c = grow_primary (G.primary_atom d) g h
grow (G.primary_dot d s text i) g l h c = grow_primary (G.primary_dot d s text i) g h
grow (G.primary_subscript d o e f) g l h c = grow_primary (G.primary_subscript d o e f) g h
grow (G.primary_call d o e f) g l h c = grow_primary (G.primary_call d o e f) g h
grow d g l h c = absurd l

-- a derivation that begins with a token
pub record Begun (n : Nonterminal) (x : Lexeme) : Type 0 where
  pub derivation : Derivation n
  pub more : List Lexeme
  pub spells : yield_of derivation [] ≡ x ∷ more

abbrev with_unary : Derivation G.Unary → Derivation (G.LeftAssociative G.bit_or_precedence)
with_unary d = G.left_one G.of_bit_or (G.left_one G.of_xor (G.left_one G.of_bit_and (G.left_one G.of_shift (G.left_one G.of_add (G.left_one G.of_multiply d)))))

abbrev with_atom : Derivation G.Atom → Derivation (G.LeftAssociative G.bit_or_precedence)
with_atom d = with_unary (G.unary_primary (G.primary_atom d))

pub begins_operand : (t : Terminal) (s : Span) → starts_operand (kind_of t) ≡ true → Begun (G.LeftAssociative G.bit_or_precedence) (lexeme t s)
begins_operand (tokens.Identifier text) s h = record { derivation = with_atom (G.atom_name text s); more = []; spells = refl }
begins_operand (tokens.Int n) s h = record { derivation = with_atom (G.atom_int n s); more = []; spells = refl }
begins_operand (tokens.Float text) s h = record { derivation = with_atom (G.atom_float text s); more = []; spells = refl }
begins_operand (tokens.String text) s h = record { derivation = with_atom (G.atom_string text s); more = []; spells = refl }
begins_operand (tokens.Bytes text) s h = record { derivation = with_atom (G.atom_bytes text s); more = []; spells = refl }
begins_operand tokens.Ellipsis s h = record { derivation = with_atom (G.atom_ellipsis s); more = []; spells = refl }
begins_operand (tokens.FStringStart q) s h = record {
  derivation = with_atom (G.atom_f_string q s G.parts_none nowhere);
  more = w tokens.FStringEnd ∷ [];
  spells = refl;
}
begins_operand tokens.OpeningRound s h = record {
  derivation = with_atom (G.atom_round s G.optional_list_none nowhere);
  more = w tokens.ClosingRound ∷ [];
  spells = refl;
}
begins_operand tokens.OpeningSquare s h = record {
  derivation = with_atom (G.atom_square s G.optional_list_none nowhere);
  more = w tokens.ClosingSquare ∷ [];
  spells = refl;
}
begins_operand tokens.OpeningCurly s h = record {
  derivation = with_atom (G.atom_curly s G.optional_list_none nowhere);
  more = w tokens.ClosingCurly ∷ [];
  spells = refl;
}
begins_operand tokens.Plus s h = record { derivation = with_unary (G.unary_sign G.plus_sign s a_unary); more = a_name ∷ []; spells = refl }
begins_operand tokens.Minus s h = record { derivation = with_unary (G.unary_sign G.minus_sign s a_unary); more = a_name ∷ []; spells = refl }
begins_operand tokens.Tilde s h = record { derivation = with_unary (G.unary_sign G.tilde_sign s a_unary); more = a_name ∷ []; spells = refl }
begins_operand t s h = not_true h

abbrev with_not : Derivation G.Not → Derivation G.Test
with_not d = G.test_or (G.left_one G.of_or (G.left_one G.of_and d))

pub begins_test : (t : Terminal) (s : Span) → starts_test (kind_of t) ≡ true → Begun G.Test (lexeme t s)
begins_test tokens.Lambda s h = record { derivation = G.test_lambda s G.optional_list_none nowhere a_test; more = w tokens.Colon ∷ a_name ∷ []; spells = refl }
begins_test tokens.Not s h = record { derivation = with_not (G.not_not s a_not); more = a_name ∷ []; spells = refl }
begins_test t s h = let b = begins_operand t s h in record { derivation = with_not (G.not_comp (G.comp_one b.derivation)); more = b.more; spells = b.spells }
