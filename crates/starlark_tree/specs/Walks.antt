-- A walk over a list of nodes: a call at each of them, one after another.
use Rattle.std.specs.Prelude.{◌≡◌, List, [], ◌∷◌, Result, Ok, Err, ◌⊎◌, ⊤}
use Rattle.std.specs.Fn.{Called, Mut}
use denote.Ref.{MutBor}

module _ {S X : Type 0} (may : S → X → Type 0) (goes : S → X → S → Type 0) where
  abbrev pub may_walk : S → List X → Type 0
  may_walk s [] = ⊤
  may_walk s (x ∷ xs) = may s x × ((t : S) → goes s x t → may_walk t xs)

  -- a call may be made at each node, in each state that the calls before it leave
  pub record MayWalk (s : S) (places : List X) : Type 0 where
    pub each : may_walk s places

module _ {S X E : Type 0} (call : S → X → Result (Unit {0}) E → S → Type 0) where
  abbrev pub walk : S → List X → Result (Unit {0}) E → S → Type 0
  walk s [] r t = (r ≡ Ok tt) × (t ≡ s)
  walk s (x ∷ xs) r t = ((e : E) × call s x (Err e) t × (r ≡ Err e)) ⊎ ((u : S) × call s x (Ok tt) u × walk u xs r t)

  -- the calls are those at the nodes up to the first Err, which is then the result, and each begins in the state that the one before it leaves
  pub record Walk (s : S) (places : List X) (r : Result (Unit {0}) E) (t : S) : Type 0 where
    pub calls : walk s places r t

-- what a walk does at a node: in which states it may be called, and its effect
pub record Calls (S X E : Type 0) : Type 1 where
  pub may : S → X → Type 0
  pub call : S → X → Result (Unit {0}) E → S → Type 0

module _ {S X E : Type 0} (calls : Calls S X E) where
  abbrev pub MayWalkBy : S → List X → Type 0
  MayWalkBy = MayWalk calls.may (λ s x t. calls.call s x (Ok tt) t)

  abbrev pub WalkBy : S → List X → Result (Unit {0}) E → S → Type 0
  WalkBy = Walk calls.call

-- the call of a closure at a value, seen as x
module _ {F A X R : Type 0} (seen : A → X) (g : Mut F (A × Unit {0}) R) where
  abbrev pub TakesSeen : F → X → Type 0
  TakesSeen f x = (a : A) → seen a ≡ x → g.pre f (a, tt)

  pub record CallsSeen (f : F) (x : X) (r : R) (f' : F) : Type 0 where
    pub shown : A
    pub shows : seen shown ≡ x
    pub called : Called g f (shown, tt) r f'

-- the call of a closure that cannot fail, as one that may fail
module _ {F A X E : Type 0} (seen : A → X) (g : Mut F (A × Unit {0}) (Unit {0})) where
  pub record Goes (f : F) (x : X) (r : Result (Unit {0}) E) (f' : F) : Type 0 where
    pub on : r ≡ Ok tt
    pub called : CallsSeen seen g f x tt f'

-- A closure is called at each node.
module _ {F A X : Type 0} (seen : A → X) (g : Mut F (A × Unit {0}) (Unit {0})) where
  abbrev pub MayVisit : F → List X → Type 0
  MayVisit = MayWalk (TakesSeen seen g) (λ s x t. CallsSeen seen g s x tt t)

  abbrev pub visits : F → List X → F → Type 0
  visits f [] f' = f' ≡ f
  visits f (x ∷ xs) f' = (h : F) × CallsSeen seen g f x tt h × visits h xs f'

  pub record Visits (f : F) (places : List X) (f' : F) : Type 0 where
    pub calls : visits f places f'

-- A closure is called at each node up to the first Err, which is then the result.
module _ {F A X E : Type 0} (seen : A → X) (g : Mut F (A × Unit {0}) (Result (Unit {0}) E)) where
  abbrev pub MayVisitUntilErr : F → List X → Type 0
  MayVisitUntilErr = MayWalk (TakesSeen seen g) (λ s x t. CallsSeen seen g s x (Ok tt) t)

  abbrev pub VisitsUntilErr : F → List X → Result (Unit {0}) E → F → Type 0
  VisitsUntilErr = Walk (CallsSeen seen g)

-- A mutable walk: `call s x y r t` is a call that finds x at its node and leaves y there.
module _ {S X E : Type 0} (call : S → X → X → Result (Unit {0}) E → S → Type 0) where
  abbrev pub write : S → List X → List X → Result (Unit {0}) E → S → Type 0
  write s [] [] r t = (r ≡ Ok tt) × (t ≡ s)
  write s [] (y ∷ ys) r t = ⊥
  write s (x ∷ xs) [] r t = ⊥
  write s (x ∷ xs) (y ∷ ys) r t =
      ((e : E) × call s x y (Err e) t × (r ≡ Err e) × (ys ≡ xs)) ⊎ ((u : S) × call s x y (Ok tt) u × write u xs ys r t)

  -- as in `Walk`; each node contains what its call left, and those after an Err are unchanged
  pub record Write (s : S) (old new : List X) (r : Result (Unit {0}) E) (t : S) : Type 0 where
    pub calls : write s old new r t

-- what a mutable walk does at a node: in which states it may be called, and its effect
pub record Writing (S X E : Type 0) : Type 1 where
  pub may : S → X → Type 0
  pub call : S → X → X → Result (Unit {0}) E → S → Type 0

module _ {S X E : Type 0} (calls : Writing S X E) where
  -- whatever the calls before it leave at their nodes
  abbrev pub MayWriteBy : S → List X → Type 0
  MayWriteBy = MayWalk calls.may (λ s x t. (y : X) × calls.call s x y (Ok tt) t)

  abbrev pub WriteBy : S → List X → List X → Result (Unit {0}) E → S → Type 0
  WriteBy = Write calls.call

-- a walk that changes certain nodes in a node, and leaves the rest of it unchanged
module _ {N X Y S E : Type 0} (places : N → List X) (frame : N → Y) (by : Writing S X E) where
  pub record WritesIn (s : S) (old new : N) (r : Result (Unit {0}) E) (t : S) : Type 0 where
    pub calls : WriteBy by s (places old) (places new) r t
    pub rest : frame new ≡ frame old

-- the call of a closure by a reference through which x is seen, and y afterwards
module _ {F A X R : Type 0} (seen : A → X) (g : Mut F (MutBor A × Unit {0}) (R × (MutBor A × Unit {0}))) where
  abbrev pub TakesMut : F → X → Type 0
  TakesMut f x = (a : MutBor A) → seen a.now ≡ x → g.pre f (a, tt)

  pub record WritesSeen (f : F) (x y : X) (r : R) (f' : F) : Type 0 where
    pub shown : MutBor A
    pub shows : seen shown.now ≡ x
    pub left : MutBor A
    pub called : Called g f (shown, tt) (r, (left, tt)) f'
    pub leaves : seen left.now ≡ y

-- the call of a closure that cannot fail, as one that may fail
module _ {F A X E : Type 0} (seen : A → X) (g : Mut F (MutBor A × Unit {0}) (Unit {0} × (MutBor A × Unit {0}))) where
  pub record GoesWriting (f : F) (x y : X) (r : Result (Unit {0}) E) (f' : F) : Type 0 where
    pub on : r ≡ Ok tt
    pub called : WritesSeen seen g f x y tt f'

-- A closure changes each node.
module _ {F A X : Type 0} (seen : A → X) (g : Mut F (MutBor A × Unit {0}) (Unit {0} × (MutBor A × Unit {0}))) where
  abbrev pub MayWrite : F → List X → Type 0
  MayWrite = MayWalk (TakesMut seen g) (λ s x t. (y : X) × WritesSeen seen g s x y tt t)

  abbrev pub writes : F → List X → List X → F → Type 0
  writes f [] [] f' = f' ≡ f
  writes f [] (y ∷ ys) f' = ⊥
  writes f (x ∷ xs) [] f' = ⊥
  writes f (x ∷ xs) (y ∷ ys) f' = (h : F) × WritesSeen seen g f x y tt h × writes h xs ys f'

  pub record Writes (f : F) (old new : List X) (f' : F) : Type 0 where
    pub calls : writes f old new f'

-- A closure changes each node up to the first Err, which is then the result.
module _ {F A X E : Type 0} (seen : A → X) (g : Mut F (MutBor A × Unit {0}) (Result (Unit {0}) E × (MutBor A × Unit {0}))) where
  abbrev pub MayWriteUntilErr : F → List X → Type 0
  MayWriteUntilErr = MayWalk (TakesMut seen g) (λ s x t. (y : X) × WritesSeen seen g s x y (Ok tt) t)

  abbrev pub WritesUntilErr : F → List X → List X → Result (Unit {0}) E → F → Type 0
  WritesUntilErr = Write (WritesSeen seen g)
