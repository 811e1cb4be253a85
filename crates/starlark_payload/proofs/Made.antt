-- Values that were built, if they were allocated.
use Rattle.std.proofs.Common.{◌≡◌, Result, Ok, Err, IfOk, Box, Global, ap}
use Rattle.starlark_lexer.specs.Tokens.{span_of}
use Rattle.starlark_lexer.specs.declared.span.Span.{Span}
use Rattle.starlark_lexer.specs.declared.span.Spanned.{Spanned}
use Rattle.starlark_payload.specs.Function.Steps.{◌⨾◌}

-- a value with the span of its source
pub placed : {N E : Type 0} (Q : N → Type 0) (s : Span) (n : Result N E) (r : Result (Spanned N) E)
    → IfOk r (λ b. n ≡ Ok b.node) → IfOk r (λ b. b.span ≡ s) → IfOk n Q → IfOk r (λ b. (span_of b.span ≡ span_of s) × Q b.node)
placed Q s n (Ok b) node span h = (ap span_of span, rw node at h)
placed Q s n (Err e) node span h = tt

-- what holds of a value that was built
pub out_of : {T E : Type 0} (P : T → Type 0) (n : Result T E) (x : T) → n ≡ Ok x → IfOk n P → P x
out_of P n x made h = rw made at h

-- one step and then another, if both were allocated: the first value and the second source were kept meanwhile
pub then_made : {F X Y T U E : Type 0} (R : X → T → F → F → Type 0) (S : Y → U → F → F → Type 0) (x : X) (y y' : Y) (t t' : T) (u : U) (n : Result T E)
    (m : Result U E) (before between after : F)
    → n ≡ Ok t → y' ≡ y → m ≡ Ok u → t' ≡ t → IfOk n (λ t. R x t before between) → IfOk m (λ u. S y' u between after) → (R x t' ⨾ S y u) before after
then_made R S x y y' t t' u n m before between after first later second kept h k =
    (between, rw kept (out_of (λ t. R x t before between) n t first h), rw later at (out_of (λ u. S y' u between after) m u second k))

-- what relates a value to its source, if the value was put in a box and the source taken out of one
pub held_from : {S T E : Type 0} (R : S → T → Type 0) (x x' : S) (n : Result T E) (r : Result (Box T Global) E)
    → x ≡ x' → IfOk r (λ b. n ≡ Ok b.value) → IfOk n (λ t. R x t) → IfOk r (λ b. R x' b.value)
held_from R x x' n (Ok b) source made h = rw source at (out_of (λ t. R x t) n b.value made h)
held_from R x x' n (Err e) source made h = tt

-- the same, if the value was allocated
pub taken_from : {S T E : Type 0} (R : S → T → Type 0) (x x' : S) (n : Result T E) (t : T) → x ≡ x' → n ≡ Ok t → IfOk n (λ t. R x t) → R x' t
taken_from R x x' n t source made h = rw source at (out_of (λ t. R x t) n t made h)
