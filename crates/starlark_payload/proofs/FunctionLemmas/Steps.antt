-- Steps for the values of two lists, one after another.
use Rattle.std.proofs.Common.{◌≡◌, List, [], ◌∷◌, ◌++◌, map, refl}
use Rattle.starlark_payload.specs.Function.Steps.{Each}

-- one value more in each list, and its step
pub one_more : {F X Y : Type 0} (step : X → Y → F → F → Type 0) (xs : List X) (ys zs : List Y) (x : X) (y : Y) (before between after : F)
    → Each step xs ys before between → zs ≡ ys ++ y ∷ [] → step x y between after → Each step (xs ++ x ∷ []) zs before after
one_more step xs ys zs x y before between after done pushed last = rw pushed (put xs ys before done)
  where
    put : (xs : List _) (ys : List _) (before : _) → Each step xs ys before between → Each step (xs ++ x ∷ []) (ys ++ y ∷ []) before after
    put [] [] before done = rw (← done) (after, last, refl)
    put [] (y' ∷ ys) before done = absurd done
    put (x' ∷ xs) [] before done = absurd done
    put (x' ∷ xs) (y' ∷ ys) before done = (done.0, done.1, put xs ys done.0 done.2)

-- steps for the values, as steps for what they are seen as
pub each_mapped : {X Y S T F : Type 0} (step : S → T → F → F → Type 0) (f : X → S) (g : Y → T) (xs : List X) (ys : List Y) (before after : F)
    → Each (λ x y. step (f x) (g y)) xs ys before after → Each step (map f xs) (map g ys) before after
each_mapped step f g [] [] before after h = h
each_mapped step f g [] (y ∷ ys) before after h = absurd h
each_mapped step f g (x ∷ xs) [] before after h = absurd h
each_mapped step f g (x ∷ xs) (y ∷ ys) before after h = (h.0, h.1, each_mapped step f g xs ys h.0 after h.2)
