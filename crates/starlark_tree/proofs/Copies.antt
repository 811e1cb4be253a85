-- What a loop that clones a list, or a node that is built from clones, has cloned.
use Rattle.std.proofs.Common.{◌≡◌, ℕ, ◌<◌, ◌≤◌, ◌+◌, ◌*◌, List, [], ◌∷◌, ◌++◌, length, take, get_or, max, Option, Result, Ok, Err, IfOk, Box, Vec, String}
use Rattle.std.proofs.Common.{Global, ap, refl, arith}
use Rattle.std.specs.Result.{IsOkAnd}
use Rattle.std.specs.List.{AllZip}
use Rattle.std.proofs.lemmas.List.{take_all, take_more}
use Rattle.std.proofs.lemmas.List.Elements.{AllZip-push}
use denote.Param.Weighed.{most, at_most}
use Rattle.starlark_lexer.specs.Tokens.{Span as Place, span_of}
use Rattle.starlark_lexer.specs.declared.span.Span.{Span}
use Rattle.starlark_lexer.specs.declared.span.Spanned.{Spanned}
use Rattle.starlark_tree.specs.declared.ast.ArgumentP.{ArgumentP}
use Rattle.starlark_tree.specs.declared.ast.ArgumentP as arg
use Rattle.starlark_tree.specs.declared.ast.ArgumentP.TheViews.{sized-Positional, sized-Named, sized-ArgumentP::Args, sized-ArgumentP::KwArgs}
use Rattle.starlark_tree.specs.declared.ast.AstLiteral.{AstLiteral}
use Rattle.starlark_tree.specs.declared.ast.ClauseP.{ClauseP}
use Rattle.starlark_tree.specs.declared.ast.ExprP.{ExprP}
use Rattle.starlark_tree.specs.declared.ast.ExprP as e
use Rattle.starlark_tree.specs.declared.ast.ForClauseP.{ForClauseP}
use Rattle.starlark_tree.specs.declared.ast.StmtP.{StmtP}
use Rattle.starlark_tree.specs.declared.ast.StmtP as stmt
use Rattle.starlark_tree.specs.declared.ast.operator.BinOp.{BinOp}
use Rattle.starlark_tree.specs.Ast.{Constant, Dot, Expression, IfElse, Statement}
use Rattle.starlark_tree.specs.Parts.{argument_expression}
use Rattle.starlark_tree.specs.Views.{payloads, literal_seen, shape_seen, expression_of, maybe_of, argument_of, for_in_of, clause_seen, form_seen, word}
use Rattle.starlark_tree.specs.Views.{statement_of}
use Rattle.starlark_tree.specs.Clones.{Cloning, ClonesArgument, ClonesClause, ClonesExpression, ClonesForIn, ClonesForm, ClonesMaybe, ClonesShape}
use Rattle.starlark_tree.specs.Clones.{ClonesStatement}
use Rattle.starlark_tree.proofs.Clones.{one_more, arguments_cloned, clauses_cloned, maybe_cloned}

-- clones of all of a list
pub whole : {X : Type 0} (R : X → X → Type 0) (xs ys zs : List X) (i : ℕ) → length xs ≤ i → xs ≡ ys → AllZip R (take i xs) zs → AllZip R ys zs
whole R xs ys zs i end same h = rw (← same) (rw (take_all i xs end) at h)

-- what an item of a list contains is smaller than the list
pub item_smaller : {X : Type 0} (μ : X → ℕ) (xs ys : List X) (i : ℕ) (x : X) (t : ℕ)
    → i < length xs → x ≡ get_or xs i x → xs ≡ ys → 2 * most (λ p. max (μ p) 0) ys + 1 ≡ t → 2 * μ x + 0 < t
item_smaller μ xs ys i x t within is same e =
    let least = rw (← is, same) at (at_most (λ p. max (μ p) 0) xs i x within) in
    omega (arith, least, e)

-- what a part of an item of a list contains is smaller than the list
part_smaller : {X Y : Type 0} (μ : X → ℕ) (ν : Y → ℕ) (part : X → Y) (xs ys : List X) (i : ℕ) (x : X) (y : Y) (t : ℕ) → ((a : X) → ν (part a) ≤ μ a)
    → i < length xs → x ≡ get_or xs i x → xs ≡ ys → y ≡ part x → 2 * most (λ p. max (μ p) 0) ys + 1 ≡ t → 2 * ν y + 0 < t
part_smaller μ ν part xs ys i x y t below within is same made e =
    let whole = item_smaller μ xs ys i x t within is same e in
    let under = below x in
    rw made (omega (arith, whole, under))

module _ {P A B C D E : Type 0} where
  passed_smaller : (a : ArgumentP P A B C D E) → e.size-ExprP P A B C D E (argument_expression a).node ≤ arg.size-ArgumentP P A B C D E a
  passed_smaller (arg.Positional' n s) = let sized = sized-Positional P A B C D E (record { node = n; span = s }) in omega (arith, sized)
  passed_smaller (arg.Named' name n s) = let sized = sized-Named P A B C D E name (record { node = n; span = s }) in omega (arith, sized)
  passed_smaller (arg.Args' n s) = let sized = sized-ArgumentP::Args P A B C D E (record { node = n; span = s }) in omega (arith, sized)
  passed_smaller (arg.KwArgs' n s) = let sized = sized-ArgumentP::KwArgs P A B C D E (record { node = n; span = s }) in omega (arith, sized)

  -- what an argument of a list passes is smaller than the list
  pub argument_smaller : (xs ys : List (Spanned (ArgumentP P A B C D E))) (i : ℕ) (x : Spanned (ArgumentP P A B C D E)) (y : Spanned (ExprP P A B C D E))
      (t : ℕ) → i < length xs → x ≡ get_or xs i x → xs ≡ ys → y ≡ argument_expression x.node
      → 2 * most (λ p. max (arg.size-ArgumentP P A B C D E p.node) 0) ys + 1 ≡ t → 2 * e.size-ExprP P A B C D E y.node + 0 < t
  argument_smaller xs ys i x y t =
      part_smaller (λ p. arg.size-ArgumentP P A B C D E p.node) (λ z. e.size-ExprP P A B C D E z.node) (λ p. argument_expression p.node) xs ys i x y t
      (λ a. passed_smaller a.node)

-- what a pair of a list contains is smaller than the list
pub pair_smaller : {X : Type 0} (μ ν : X → ℕ) (xs ys : List X) (i : ℕ) (x : X) (t : ℕ)
    → i < length xs → x ≡ get_or xs i x → xs ≡ ys → 2 * most (λ p. max (max (μ p) 0) (max (max (ν p) 0) 0)) ys + 1 ≡ t → (2 * μ x + 0 < t) × (2 * ν x + 0 < t)
pair_smaller μ ν xs ys i x t within is same e =
    let least = rw (← is, same) at (at_most (λ p. max (max (μ p) 0) (max (max (ν p) 0) 0)) xs i x within) in
    (omega (arith, least, e), omega (arith, least, e))

-- what is seen of a value together with the span of an original, if it was allocated
pub alike_at : {N E : Type 0} (Q : Place → N → Type 0) (s : Span) (n : Result N E) (r : Result (Spanned N) E)
    → IfOk r (λ b. n ≡ Ok b.node) → IfOk r (λ b. b.span ≡ s) → IfOk n (Q (span_of s)) → IfOk r (λ b. Q (span_of b.span) b.node)
alike_at Q s n (Ok b) node span h = rw span (rw node at h)
alike_at Q s n (Err e) node span h = tt

-- what holds of a clone with every span holds with one
pub at_place : {N E : Type 0} (Q : Place → N → Type 0) (n : Result N E) (s : Place) → IfOk n (λ x. (at : Place) → Q at x) → IfOk n (Q s)
at_place Q (Ok x) s h = h s
at_place Q (Err e) s h = tt

-- the first and the second of two in a box
pub first_alike : {N U E : Type 0} (Q : N → Type 0) (s : Span) (n : Result N E) (r : Result (Box (Spanned N × U) Global) E)
    → IfOk r (λ b. n ≡ Ok b.value.0.node) → IfOk r (λ b. b.value.0.span ≡ s) → IfOk n Q → IfOk r (λ b. (span_of b.value.0.span ≡ span_of s) × Q b.value.0.node)
first_alike Q s n (Ok b) node span h = (ap span_of span, rw node at h)
first_alike Q s n (Err e) node span h = tt

pub second_alike : {N U E : Type 0} (Q : N → Type 0) (s : Span) (n : Result N E) (r : Result (Box (U × Spanned N) Global) E)
    → IfOk r (λ b. n ≡ Ok b.value.1.node) → IfOk r (λ b. b.value.1.span ≡ s) → IfOk n Q → IfOk r (λ b. (span_of b.value.1.span ≡ span_of s) × Q b.value.1.node)
second_alike Q s n (Ok b) node span h = (ap span_of span, rw node at h)
second_alike Q s n (Err e) node span h = tt

-- one more element and its clone, which was appended
pub one_more_made : {X E : Type 0} (R : X → X → Type 0) (xs ys zs : List X) (i : ℕ) (x : X) (made : Result X E)
    → i < length xs → x ≡ get_or xs i x → AllZip R (take i xs) ys → IsOkAnd made (λ y. zs ≡ ys ++ y ∷ []) → IfOk made (R x) → AllZip R (take (i + 1) xs) zs
one_more_made R xs ys zs i x (Ok y) within is zip pushed r = rw pushed (one_more R xs ys i x y within is zip r)
one_more_made R xs ys zs i x (Err e) within is zip pushed r = absurd pushed

-- the same with the span of the original
pub one_more_alike : {N E : Type 0} (R : Spanned N → Spanned N → Type 0) (xs ys zs : List (Spanned N)) (i : ℕ) (x : Spanned N) (node : Result N E)
    → i < length xs → x ≡ get_or xs i x → AllZip R (take i xs) ys → IsOkAnd node (λ n. zs ≡ ys ++ record { node = n; span = x.span } ∷ [])
    → IfOk node (λ n. R x (record { node = n; span = x.span })) → AllZip R (take (i + 1) xs) zs
one_more_alike R xs ys zs i x (Ok n) within is zip pushed r = rw pushed (one_more R xs ys i x (record { node = n; span = x.span }) within is zip r)
one_more_alike R xs ys zs i x (Err e) within is zip pushed r = absurd pushed

-- the same for two values
pub one_more_pair : {N M E : Type 0} (P : N → Type 0) (Q : M → Type 0) (R : Spanned N × Spanned M → Spanned N × Spanned M → Type 0)
    (xs ys zs : List (Spanned N × Spanned M)) (i : ℕ) (x : Spanned N × Spanned M) (first : Result N E) (second : Result M E)
    → i < length xs → x ≡ get_or xs i x → AllZip R (take i xs) ys
    → IsOkAnd first (λ n. IsOkAnd second (λ m. zs ≡ ys ++ (record { node = n; span = x.0.span }, record { node = m; span = x.1.span }) ∷ []))
    → IfOk first P → IfOk second Q
    → ((n : N) (m : M) → P n → Q m → R x (record { node = n; span = x.0.span }, record { node = m; span = x.1.span })) → AllZip R (take (i + 1) xs) zs
one_more_pair P Q R xs ys zs i x (Ok n) (Ok m) within is zip pushed p q made =
    rw pushed (one_more R xs ys i x (record { node = n; span = x.0.span }, record { node = m; span = x.1.span }) within is zip (made n m p q))
one_more_pair P Q R xs ys zs i x (Ok n) (Err e) within is zip pushed p q made = absurd pushed
one_more_pair P Q R xs ys zs i x (Err e) second within is zip pushed p q made = absurd pushed

-- the same for what was appended if a part of it is a clone
pub one_more_of : {X V E : Type 0} (R : X → X → Type 0) (Q : V → Type 0) (xs ys zs : List X) (i : ℕ) (x : X) (value : Result V E)
    → i < length xs → x ≡ get_or xs i x → AllZip R (take i xs) ys
    → IsOkAnd value (λ v. Q v → (ws : List X) → AllZip R ws ys → AllZip R (ws ++ x ∷ []) zs) → IfOk value Q → AllZip R (take (i + 1) xs) zs
one_more_of R Q xs ys zs i x (Ok v) within is zip pushed q = rw (take_more xs i x within, ← is) (pushed q (take i xs) zip)
one_more_of R Q xs ys zs i x (Err e) within is zip pushed q = absurd pushed

-- what was appended to a list of clones, with the span of the original, if a part of it is a clone
pub pushed_alike : {N V E : Type 0} (R : Spanned N → Spanned N → Type 0) (A : Place → N → Type 0) (Q : V → Type 0) (x : Spanned N) (old : List (Spanned N))
    (value : Result V E) (node : Result N E) (r : Result (Vec (Spanned N) Global) E)
    → IfOk r (λ all. IsOkAnd node (λ n. all.items ≡ old ++ record { node = n; span = x.span } ∷ []))
    → IfOk node (λ n. IsOkAnd value (λ v. Q v → (at : Place) → A at n))
    → ((n : N) → A (span_of x.span) n → R x (record { node = n; span = x.span }))
    → IfOk r (λ all. IsOkAnd value (λ v. Q v → (ws : List (Spanned N)) → AllZip R ws old → AllZip R (ws ++ x ∷ []) all.items))
pushed_alike R A Q x old (Ok v) (Ok n) (Ok all) is made at =
    λ q ws zip. rw is (AllZip-push R ws old x (record { node = n; span = x.span }) zip (at n (made q (span_of x.span))))
pushed_alike R A Q x old (Err e) (Ok n) (Ok all) is made at = absurd made
pushed_alike R A Q x old value (Err e) (Ok all) is made at = absurd is
pushed_alike R A Q x old value node (Err e) is made at = tt

-- a clone beside the span of the original
pub beside : {N E : Type 0} (Q : N → Type 0) (s : Place) (r : Result N E) → IfOk r Q → IfOk r (λ n. (s ≡ s) × Q n)
beside Q s (Ok n) h = (refl, h)
beside Q s (Err e) h = tt

-- what follows from a clone of a part, of what was built from it
pub follows : {B M E : Type 0} (P : B → Type 0) (W : M → Type 0) (part : Result B E) (made : Result M E)
    → IfOk made (λ m. IsOkAnd part (λ b. P b → W m)) → IfOk part P → IfOk made W
follows P W (Ok b) (Ok m) h p = h p
follows P W (Err e) (Ok m) h p = absurd h
follows P W part (Err e) h p = tt

-- the same for two parts
pub follow : {A B M E : Type 0} (P : A → Type 0) (Q : B → Type 0) (W : M → Type 0) (a : Result A E) (b : Result B E) (made : Result M E)
    → IfOk made (λ m. IsOkAnd a (λ x. IsOkAnd b (λ y. P x → Q y → W m))) → IfOk a P → IfOk b Q → IfOk made W
follow P Q W a b (Err e) h p q = tt
follow P Q W (Ok x) (Ok y) (Ok m) h p q = h p q
follow P Q W (Ok x) (Err e) (Ok m) h p q = absurd h
follow P Q W (Err e) b (Ok m) h p q = absurd h

-- what is built from a part, if it was allocated
pub of_one_part : {A M E : Type 0} (P : A → Type 0) (W : M → Type 0) (make : A → M) (a : Result A E) (r : Result M E)
    → IfOk r (λ m. IsOkAnd a (λ x. m ≡ make x)) → IfOk a P → ((x : A) → P x → W (make x)) → IfOk r W
of_one_part P W make (Ok x) (Ok m) is p made = rw is (made x p)
of_one_part P W make (Err e) (Ok m) is p made = absurd is
of_one_part P W make a (Err e) is p made = tt

-- what is built from two parts, if both were allocated
pub of_two : {A B M E : Type 0} (P : A → Type 0) (Q : B → Type 0) (W : M → Type 0) (make : A → B → M) (a : Result A E) (b : Result B E) (r : Result M E)
    → IfOk r (λ m. IsOkAnd a (λ x. IsOkAnd b (λ y. m ≡ make x y))) → IfOk a P → IfOk b Q → ((x : A) (y : B) → P x → Q y → W (make x y)) → IfOk r W
of_two P Q W make a b (Err e) is p q made = tt
of_two P Q W make (Ok x) (Ok y) (Ok m) is p q made = rw is (made x y p q)
of_two P Q W make (Ok x) (Err e) (Ok m) is p q made = absurd is
of_two P Q W make (Err e) b (Ok m) is p q made = absurd is

-- what holds of a part and of what is built from it
pub of_part : {X V E : Type 0} (G : X → V → Type 0) (x y : X) (value : Result V E) (v : V) → value ≡ Ok v → x ≡ y → G y v → IsOkAnd value (G x)
of_part G x y value v made was h = rw (made, was) h

-- two facts about one result
pub of_one : {A E : Type 0} (P Q : A → Type 0) (r : Result A E) → IfOk r P → IfOk r Q → IfOk r (λ x. P x × Q x)
of_one P Q (Ok x) p q = (p, q)
of_one P Q (Err e) p q = tt

-- three facts about one result
pub of_same : {A E : Type 0} (P Q S : A → Type 0) (r : Result A E) → IfOk r P → IfOk r Q → IfOk r S → IfOk r (λ x. P x × Q x × S x)
of_same P Q S (Ok x) p q s = (p, q, s)
of_same P Q S (Err e) p q s = tt

-- the same for three
pub of_three : {A B C M E : Type 0} (P : A → Type 0) (Q : B → Type 0) (S : C → Type 0) (W : M → Type 0) (make : A → B → C → M) (a : Result A E)
    (b : Result B E) (c : Result C E) (r : Result M E)
    → IfOk r (λ m. IsOkAnd a (λ x. IsOkAnd b (λ y. IsOkAnd c (λ z. m ≡ make x y z)))) → IfOk a P → IfOk b Q → IfOk c S
    → ((x : A) (y : B) (z : C) → P x → Q y → S z → W (make x y z)) → IfOk r W
of_three P Q S W make a b c (Err e) is p q s made = tt
of_three P Q S W make (Ok x) b c (Ok m) is p q s made = of_two Q S W (make x) b c (Ok m) is q s (λ y z. made x y z p)
of_three P Q S W make (Err e) b c (Ok m) is p q s made = absurd is

-- the same for four
pub of_four : {A B C D M E : Type 0} (P : A → Type 0) (Q : B → Type 0) (S : C → Type 0) (T : D → Type 0) (W : M → Type 0) (make : A → B → C → D → M)
    (a : Result A E) (b : Result B E) (c : Result C E) (d : Result D E) (r : Result M E)
    → IfOk r (λ m. IsOkAnd a (λ x. IsOkAnd b (λ y. IsOkAnd c (λ z. IsOkAnd d (λ w. m ≡ make x y z w))))) → IfOk a P → IfOk b Q → IfOk c S → IfOk d T
    → ((x : A) (y : B) (z : C) (w : D) → P x → Q y → S z → T w → W (make x y z w)) → IfOk r W
of_four P Q S T W make a b c d (Err e) is p q s t made = tt
of_four P Q S T W make (Ok x) b c d (Ok m) is p q s t made = of_three Q S T W (make x) b c d (Ok m) is q s t (λ y z w. made x y z w p)
of_four P Q S T W make (Err e) b c d (Ok m) is p q s t made = absurd is

module _ {P A B C D E : Type 0} (R : Cloning (payloads A B C D E)) where
  abbrev IsBoxedClone : Box (Spanned (ExprP P A B C D E)) Global → Box (Spanned (ExprP P A B C D E)) Global → Type 0
  IsBoxedClone a b = ClonesExpression R (expression_of a.value) (expression_of b.value)

  abbrev IsCloneOf : ExprP P A B C D E → ExprP P A B C D E → Type 0
  IsCloneOf a b = ClonesShape R (shape_seen a) (shape_seen b)

  -- an expression that is built from clones of another's parts, if each of them was allocated
  module _ {X : Type 0} where
    pub attribute_cloned : (x : ExprP P A B C D E) (object : Box (Spanned (ExprP P A B C D E)) Global) (name : Spanned (String Global))
        (o : Result (Box (Spanned (ExprP P A B C D E)) Global) X) (r : Result (ExprP P A B C D E) X)
        → x ≡ e.Dot object name
        → IfOk r (λ m. IsOkAnd o (λ y. (s : Expression (payloads A B C D E)) → ClonesExpression R s (expression_of y.value)
        → ClonesShape R (Dot s (word name)) (shape_seen m)))
        → IfOk o (IsBoxedClone object) → IfOk r (IsCloneOf x)
    attribute_cloned x object name (Ok y) (Ok m) was is p = rw was (is (expression_of object.value) p)
    attribute_cloned x object name (Err e) (Ok m) was is p = absurd is
    attribute_cloned x object name o (Err e) was is p = tt

    pub call_cloned : (x : ExprP P A B C D E) (callee : Box (Spanned (ExprP P A B C D E)) Global) (args : Vec (Spanned (ArgumentP P A B C D E)) Global)
        (f : Result (Box (Spanned (ExprP P A B C D E)) Global) X) (xs : Result (Vec (Spanned (ArgumentP P A B C D E)) Global) X)
        (r : Result (ExprP P A B C D E) X)
        → x ≡ e.Call callee (record { args = args }) → IfOk r (λ m. IsOkAnd f (λ x. IsOkAnd xs (λ y. m ≡ e.Call x (record { args = y }))))
        → IfOk f (IsBoxedClone callee)
        → IfOk xs (λ ys. AllZip (λ x y. ClonesArgument R (argument_of x) (argument_of y)) args.items ys.items) → IfOk r (IsCloneOf x)
    call_cloned x callee args f xs r was is p q =
        rw was (of_two (IsBoxedClone callee) (λ ys. AllZip (λ x y. ClonesArgument R (argument_of x) (argument_of y)) args.items ys.items)
        (IsCloneOf (e.Call callee (record { args = args })))
        (λ x y. e.Call x (record { args = y })) f xs r is p q (λ x y h k. (h, arguments_cloned R args y k)))

    pub slice_cloned : (x : ExprP P A B C D E) (array : Box (Spanned (ExprP P A B C D E)) Global)
        (start stop step : Option (Box (Spanned (ExprP P A B C D E)) Global)) (a : Result (Box (Spanned (ExprP P A B C D E)) Global) X)
        (i j k : Result (Option (Box (Spanned (ExprP P A B C D E)) Global)) X) (r : Result (ExprP P A B C D E) X)
        → x ≡ e.Slice array start stop step → IfOk r (λ m. IsOkAnd a (λ x. IsOkAnd i (λ y. IsOkAnd j (λ z. IsOkAnd k (λ w. m ≡ e.Slice x y z w)))))
        → IfOk a (IsBoxedClone array)
        → IfOk i (λ y. ClonesMaybe R (maybe_of start) (maybe_of y)) → IfOk j (λ y. ClonesMaybe R (maybe_of stop) (maybe_of y))
        → IfOk k (λ y. ClonesMaybe R (maybe_of step) (maybe_of y))
        → IfOk r (IsCloneOf x)
    slice_cloned x array start stop step a i j k r was is p q s t =
        rw was (of_four (IsBoxedClone array) (λ y. ClonesMaybe R (maybe_of start) (maybe_of y)) (λ y. ClonesMaybe R (maybe_of stop) (maybe_of y))
        (λ y. ClonesMaybe R (maybe_of step) (maybe_of y))
        (IsCloneOf (e.Slice array start stop step)) e.Slice a i j k r is p q s t (λ x y z w h l m n. (
          h,
          maybe_cloned R start y l,
          maybe_cloned R stop z m,
          maybe_cloned R step w n,
        )))

    pub operation_cloned : (x : ExprP P A B C D E) (left : Box (Spanned (ExprP P A B C D E)) Global) (operator : BinOp)
        (right : Box (Spanned (ExprP P A B C D E)) Global) (a b : Result (Box (Spanned (ExprP P A B C D E)) Global) X) (r : Result (ExprP P A B C D E) X)
        → x ≡ e.Op left operator right → IfOk r (λ m. IsOkAnd a (λ x. IsOkAnd b (λ y. m ≡ e.Op x operator y))) → IfOk a (IsBoxedClone left)
        → IfOk b (IsBoxedClone right) → IfOk r (IsCloneOf x)
    operation_cloned x left operator right a b r was is p q =
        rw was (of_two (IsBoxedClone left) (IsBoxedClone right) (IsCloneOf (e.Op left operator right)) (λ x y. e.Op x operator y) a b r is p q
        (λ x y h k. (h, refl, k)))

    pub list_comprehension_cloned : (x : ExprP P A B C D E) (value : Box (Spanned (ExprP P A B C D E)) Global) (first : Box (ForClauseP P A B C D E) Global)
        (clauses : Vec (ClauseP P A B C D E) Global)
        (v : Result (Box (Spanned (ExprP P A B C D E)) Global) X) (f : Result (Box (ForClauseP P A B C D E) Global) X)
        (cs : Result (Vec (ClauseP P A B C D E) Global) X) (r : Result (ExprP P A B C D E) X)
        → x ≡ e.ListComprehension value first clauses → IfOk r (λ m. IsOkAnd v (λ x. IsOkAnd f (λ y. IsOkAnd cs (λ z. m ≡ e.ListComprehension x y z))))
        → IfOk v (IsBoxedClone value)
        → IfOk f (λ y. ClonesForIn R (for_in_of first.value) (for_in_of y.value))
        → IfOk cs (λ zs. AllZip (λ x y. ClonesClause R (clause_seen x) (clause_seen y)) clauses.items zs.items)
        → IfOk r (IsCloneOf x)
    list_comprehension_cloned x value first clauses v f cs r was is p q s =
        rw was (of_three (IsBoxedClone value) (λ y. ClonesForIn R (for_in_of first.value) (for_in_of y.value))
        (λ zs. AllZip (λ x y. ClonesClause R (clause_seen x) (clause_seen y)) clauses.items zs.items)
        (IsCloneOf (e.ListComprehension value first clauses)) e.ListComprehension v f cs r is p q s (λ x y z h k l. (h, k, clauses_cloned R clauses z l)))

    pub dict_comprehension_cloned : (x : ExprP P A B C D E) (pair : Box (Spanned (ExprP P A B C D E) × Spanned (ExprP P A B C D E)) Global)
        (first : Box (ForClauseP P A B C D E) Global) (clauses : Vec (ClauseP P A B C D E) Global)
        (v : Result (Box (Spanned (ExprP P A B C D E) × Spanned (ExprP P A B C D E)) Global) X) (f : Result (Box (ForClauseP P A B C D E) Global) X)
        (cs : Result (Vec (ClauseP P A B C D E) Global) X) (r : Result (ExprP P A B C D E) X)
        → x ≡ e.DictComprehension pair first clauses → IfOk r (λ m. IsOkAnd v (λ x. IsOkAnd f (λ y. IsOkAnd cs (λ z. m ≡ e.DictComprehension x y z))))
        → IfOk v (λ x. ClonesExpression R (expression_of pair.value.0) (expression_of x.value.0))
        → IfOk v (λ x. ClonesExpression R (expression_of pair.value.1) (expression_of x.value.1))
        → IfOk f (λ y. ClonesForIn R (for_in_of first.value) (for_in_of y.value))
        → IfOk cs (λ zs. AllZip (λ x y. ClonesClause R (clause_seen x) (clause_seen y)) clauses.items zs.items)
        → IfOk r (IsCloneOf x)
    dict_comprehension_cloned x pair first clauses v f cs r was is key value q s =
        rw was (of_three (λ x. ClonesExpression R (expression_of pair.value.0) (expression_of x.value.0) × ClonesExpression R (expression_of pair.value.1)
        (expression_of x.value.1))
        (λ y. ClonesForIn R (for_in_of first.value) (for_in_of y.value)) (λ zs. AllZip (λ x y. ClonesClause R (clause_seen x) (clause_seen y)) clauses.items
        zs.items)
        (IsCloneOf (e.DictComprehension pair first clauses)) e.DictComprehension v f cs r is (of_one _ _ v key value) q s
        (λ x y z h k l. (h.0, h.1, k, clauses_cloned R clauses z l)))

    pub constant_cloned : (x : ExprP P A B C D E) (literal : AstLiteral) (r : Result (ExprP P A B C D E) X)
        → x ≡ e.Literal literal → IfOk r (λ m. shape_seen m ≡ Constant (literal_seen literal)) → IfOk r (IsCloneOf x)
    constant_cloned x literal (Ok m) was is = rw (was, is) refl
    constant_cloned x literal (Err e) was is = tt

    pub if_else_cloned : (x : StmtP P A B C D E) (condition : Spanned (ExprP P A B C D E))
        (branches : Box (Spanned (StmtP P A B C D E) × Spanned (StmtP P A B C D E)) Global)
        (b : Result (Box (Spanned (StmtP P A B C D E) × Spanned (StmtP P A B C D E)) Global) X) (r : Result (StmtP P A B C D E) X)
        → x ≡ stmt.IfElse condition branches
        → IfOk r (λ m. IsOkAnd b (λ y. (s t : Statement (payloads A B C D E)) → ClonesStatement R s (statement_of y.value.0)
        → ClonesStatement R t (statement_of y.value.1) → ClonesForm R (IfElse (expression_of condition) s t) (form_seen m)))
        → IfOk b (λ y. ClonesStatement R (statement_of branches.value.0) (statement_of y.value.0))
        → IfOk b (λ y. ClonesStatement R (statement_of branches.value.1) (statement_of y.value.1)) → IfOk r (λ m. ClonesForm R (form_seen x) (form_seen m))
    if_else_cloned x condition branches (Ok y) (Ok m) was is p q = rw was (is (statement_of branches.value.0) (statement_of branches.value.1) p q)
    if_else_cloned x condition branches (Err e) (Ok m) was is p q = absurd is
    if_else_cloned x condition branches b (Err e) was is p q = tt
