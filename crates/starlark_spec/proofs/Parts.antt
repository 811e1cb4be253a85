-- Facts about parts: each is one induction, independent of the productions.
use Rattle.std.proofs.Common.{◌≡◌, List, [], ◌∷◌, ◌++◌, refl, sym, ◌∙◌, ap, map, append_assoc, ◌⊎◌, inl, inr}
use Rattle.std.proofs.lemmas.List.{append-nil, map-append}
use Rattle.starlark_lexer.specs.Tokens.{Lexeme}
use Rattle.starlark_spec.specs.Grammar.{RightSide, side_yield}
use Rattle.starlark_spec.specs.Grammar.RightSide.{nothing, word, ◌⨾◌, marked, tokens_end}
use Rattle.starlark_spec.specs.Nodes.{Occurrence, shifted, occurrences, IsMember}
use Rattle.starlark_spec.proofs.Viable.{onto, occurrences_over}

-- what follows a part may be cut anywhere
linear : (a : RightSide) (r q : List Lexeme) → side_yield a (r ++ q) ≡ side_yield a r ++ q
linear nothing r q = refl
linear (word t s) r q = refl
linear (a ⨾ c) r q = ap (side_yield a) (linear c r q) ∙ linear a (side_yield c r) q
linear tokens_end r q = refl
linear (marked x a) r q = linear a r q

pub tokens_first : (a : RightSide) (r : List Lexeme) → side_yield a r ≡ side_yield a [] ++ r
tokens_first a r = linear a [] r

after_after : (f g : List Lexeme) (hs : List Occurrence) → map (shifted f) (map (shifted g) hs) ≡ map (shifted (f ++ g)) hs
after_after f g [] = refl
after_after f g (h ∷ hs) =
    let e : shifted f (shifted g h) ≡ shifted (f ++ g) h = ap (λ (x : List Lexeme). record h { before = x }) (sym (append_assoc f g h.before)) in
    ap (λ (x : Occurrence). x ∷ map (shifted f) (map (shifted g) hs)) e ∙ ap (λ (x : List Occurrence). shifted (f ++ g) h ∷ x) (after_after f g hs)

-- the nodes of a part, in the form that computes
onto-occurrences : (a : RightSide) (f : List Lexeme → List Lexeme) (k : List Occurrence) → ((r : List Lexeme) → f r ≡ f [] ++ r)
    → onto a f k ≡ map (shifted (f [])) (occurrences a) ++ k
onto-occurrences nothing f k l = refl
onto-occurrences (word t s) f k l = refl
onto-occurrences (a ⨾ c) f k l =
    onto-occurrences a f (onto c (λ r. f (side_yield a r)) k) l
    ∙ ap (λ x. map (shifted (f [])) (occurrences a) ++ x) (
    onto-occurrences c (λ r. f (side_yield a r)) k (λ r. ap f (tokens_first a r) ∙ l _ ∙ sym (append_assoc (f []) (side_yield a []) r)
    ∙ ap (λ x. x ++ r) (sym (l (side_yield a []))))
    ∙ ap (λ x. map (shifted x) (occurrences c) ++ k) (l (side_yield a []))
    ∙ ap (λ x. x ++ k) (sym (after_after (f []) (side_yield a []) (occurrences c))))
    ∙ sym (append_assoc (map (shifted (f [])) (occurrences a)) _ k)
    ∙ ap (λ x. x ++ k) (sym (map-append (shifted (f [])) (occurrences a) _))
onto-occurrences tokens_end f k l = refl
onto-occurrences (marked x a) f k l =
    onto-occurrences a f _ l
    ∙ ap (λ (y : List Lexeme). map (shifted (f [])) (occurrences a) ++ (record { before = y; node = x; own = side_yield a [] } ∷ k)) (sym (append-nil (f [])))
    ∙ sym (append_assoc (map (shifted (f [])) (occurrences a)) (record { before = f [] ++ []; node = x; own = side_yield a [] } ∷ []) k)
    ∙ ap (λ y. y ++ k) (sym (map-append (shifted (f [])) (occurrences a) _))

after_none : (hs : List Occurrence) → map (shifted []) hs ≡ hs
after_none [] = refl
after_none (h ∷ hs) = ap (λ x. h ∷ x) (after_none hs)

pub over-occurrences : (a : RightSide) (k : List Occurrence) → occurrences_over a k ≡ occurrences a ++ k
over-occurrences a k = onto-occurrences a (λ r. r) k (λ r. refl) ∙ ap (λ x. x ++ k) (after_none (occurrences a))

pub same_occurrences : (a c : RightSide) → occurrences_over a [] ≡ occurrences_over c [] → occurrences a ≡ occurrences c
same_occurrences a c e = sym (append-nil _) ∙ sym (over-occurrences a []) ∙ e ∙ over-occurrences c [] ∙ append-nil _

pub more_occurrences : (a c : RightSide) (h : Occurrence) → occurrences_over a [] ≡ occurrences_over c (h ∷ []) → occurrences a ≡ occurrences c ++ h ∷ []
more_occurrences a c h e = sym (append-nil _) ∙ sym (over-occurrences a []) ∙ e ∙ over-occurrences c _

pub in_front : {A : Type 0} (x : A) (xs ys : List A) → IsMember x xs → IsMember x (xs ++ ys)
in_front x (y ∷ xs) ys (inl e) = inl e
in_front x (y ∷ xs) ys (inr h) = inr (in_front x xs ys h)
in_front x [] ys h = absurd h

pub in_last : {A : Type 0} (x : A) (xs : List A) → IsMember x (xs ++ x ∷ [])
in_last x [] = inl refl
in_last x (y ∷ xs) = inr (in_last x xs)

pub in_either : {A : Type 0} (x y : A) (xs : List A) → IsMember x (xs ++ y ∷ []) → IsMember x xs ⊎ (x ≡ y)
in_either x y [] (inl e) = inr e
in_either x y [] (inr h) = absurd h
in_either x y (u ∷ xs) (inl e) = inl (inl e)
in_either x y (u ∷ xs) (inr h) = elim (in_either x y xs h) [ inl g ↦ inl (inr g) | inr e ↦ inr e ]
