-- What a result satisfies, if there is one.
use Rattle.std.proofs.Common.{Result, Ok, Err, Option, Some, None, IfOk, IfSome}

pub each_weaker : {A E : Type 0} {P Q : A → Type 0} (r : Result (Option A) E) → ((a : A) → P a → Q a)
    → IfOk r (λ answer. IfSome answer P) → IfOk r (λ answer. IfSome answer Q)
each_weaker (Ok (Some a)) weaker p = weaker a p
each_weaker (Ok None) weaker p = p
each_weaker (Err e) weaker p = p
