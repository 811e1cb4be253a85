-- Pieces that a text denotes, put together and taken apart.
use Rattle.std.proofs.Common.{List as Seq, [], ◌∷◌, ◌++◌, flat_map, Bool, true, false}
use Rattle.std.specs.Bool.{⊤}
use Rattle.starlark_lexer.specs.Tokens as tokens
use Rattle.starlark_source.specs.Pieces.{Pieces, token, text_byte, blank, unsayable, separated, comma, listed, in_tuple, in_round, in_square, in_curly, bare}
use Rattle.starlark_source.specs.Pieces.{tupled}
use Rattle.starlark_source.specs.Source.{bracketed, kept_apart}
use Rattle.starlark_source.proofs.ReadBack.Writing.{Sayable, split}

-- it holds for each
abbrev pub Each : {A : Type 0} → (A → Type 0) → Seq A → Type 0
Each P [] = ⊤
Each P (x ∷ xs) = P x × Each P xs

pub each_more : {A : Type 0} (P : A → Type 0) (xs : Seq A) (x : A) → Each P xs → P x → Each P (xs ++ x ∷ [])
each_more P [] x h k = (k, tt)
each_more P (y ∷ ys) x h k = (h.0, each_more P ys x h.1 k)

pub joined : (ps qs : Pieces) → Sayable ps → Sayable qs → Sayable (ps ++ qs)
joined [] qs h k = k
joined (token t ∷ ps) qs h k = joined ps qs h k
joined (text_byte b ∷ ps) qs h k = joined ps qs h k
joined (blank n ∷ ps) qs h k = joined ps qs h k
joined (unsayable s ∷ ps) qs h k = absurd h

-- ---- with something between them

pub flat_said : (between : Pieces) → Sayable between → (ps : Seq Pieces) → Each Sayable ps → Sayable (flat_map (λ q. between ++ q) ps)
flat_said between h [] k = tt
flat_said between h (p ∷ ps) k = joined (between ++ p) (flat_map (λ q. between ++ q) ps) (joined between p h k.0) (flat_said between h ps k.1)

pub separated_said : (between : Pieces) → Sayable between → (ps : Seq Pieces) → Each Sayable ps → Sayable (separated between ps)
separated_said between h [] k = tt
separated_said between h (p ∷ ps) k = joined p (flat_map (λ q. between ++ q) ps) k.0 (flat_said between h ps k.1)

pub listed_said : (ps : Seq Pieces) → Each Sayable ps → Sayable (listed ps)
listed_said ps h = separated_said comma tt ps h

flat_parts : (ps : Seq Pieces) → Sayable (flat_map (λ q. comma ++ q) ps) → Each Sayable ps
flat_parts [] h = tt
flat_parts (p ∷ ps) h = let x = split (comma ++ p) (flat_map (λ q. comma ++ q) ps) h in ((split comma p x.0).1, flat_parts ps x.1)

pub listed_parts : (ps : Seq Pieces) → Sayable (listed ps) → Each Sayable ps
listed_parts [] h = tt
listed_parts (p ∷ ps) h = let x = split p (flat_map (λ q. comma ++ q) ps) h in (x.0, flat_parts ps x.1)

-- ---- in parentheses

pub in_round_said : (ps : Pieces) → Sayable ps → Sayable (in_round ps)
in_round_said ps h = joined ps (token tokens.ClosingRound ∷ []) h tt

pub in_square_said : (ps : Pieces) → Sayable ps → Sayable (in_square ps)
in_square_said ps h = joined ps (token tokens.ClosingSquare ∷ []) h tt

pub in_curly_said : (ps : Pieces) → Sayable ps → Sayable (in_curly ps)
in_curly_said ps h = joined ps (token tokens.ClosingCurly ∷ []) h tt

pub bracketed_said : (asked : Bool) (ps : Pieces) → Sayable ps → Sayable (bracketed asked ps)
bracketed_said true ps h = in_round_said ps h
bracketed_said false ps h = h

pub apart_said : (begins : Bool) (ps : Pieces) → Sayable ps → Sayable (kept_apart begins ps)
apart_said true ps h = h
apart_said false ps h = h

in_tuple_said : (ps : Seq Pieces) → Each Sayable ps → Sayable (in_tuple ps)
in_tuple_said [] h = tt
in_tuple_said (p ∷ []) h = joined p (token tokens.Comma ∷ []) h.0 tt
in_tuple_said (p ∷ q ∷ ps) h = listed_said (p ∷ q ∷ ps) h

pub tuple_parts : (ps : Seq Pieces) → Sayable (in_round (in_tuple ps)) → Each Sayable ps
tuple_parts [] h = tt
tuple_parts (p ∷ []) h = ((split p (token tokens.Comma ∷ []) (split (p ++ token tokens.Comma ∷ []) (token tokens.ClosingRound ∷ []) h).0).0, tt)
tuple_parts (p ∷ q ∷ ps) h = listed_parts (p ∷ q ∷ ps) (split (listed (p ∷ q ∷ ps)) (token tokens.ClosingRound ∷ []) h).0

bare_said : (ps : Seq Pieces) → Each Sayable ps → Sayable (bare ps)
bare_said [] h = tt
bare_said (p ∷ []) h = in_round_said (p ++ token tokens.Comma ∷ []) (in_tuple_said (p ∷ []) h)
bare_said (p ∷ q ∷ ps) h = listed_said (p ∷ q ∷ ps) h

pub tupled_said : (in_list : Bool) (ps : Seq Pieces) → Each Sayable ps → Sayable (tupled in_list ps)
tupled_said true ps h = bare_said ps h
tupled_said false ps h = in_round_said (in_tuple ps) (in_tuple_said ps h)
