-- Which elements of a list are chosen, and which are members.
use Rattle.std.proofs.Common.{◌≡◌, ◌↔◌, ◌<◌, ◌≤◌, ◌+◌, ℕ, zero, suc, arith, Bool, true, false, if◌then◌else◌, List, [], ◌∷◌, ◌++◌, length, take}
use Rattle.std.proofs.Common.{get_or, add-one, reverse}
use Rattle.std.proofs.Common.{refl, sym, ◌∙◌, ap, subst, inl, inr}
use Rattle.starlark_lexer.specs.declared.kind.Kind.{Kind}
use Rattle.starlark_lexer.specs.declared.kind.Kind.TheVariants as kinds
use Rattle.starlark_spec.specs.Nodes.{IsMember}
use Rattle.starlark_expected.specs.MayFollow.{Chosen, none_left, chooses, leaves_out, all_kinds, IsTook, IsSaid, takes_so, whole_so, MayFollow}
use Rattle.starlark_expected.specs.MayFollow.{Decides, IsExpected}
use Rattle.starlark_lexer.specs.Tokens.{Lexeme}
use Rattle.starlark_lexer.specs.Kinds.{is}
use Rattle.starlark_lexer.proofs.KindTests.{is_true}
use Rattle.starlark_expected.specs.declared.word.Word.{Word}
use Rattle.starlark_expected.specs.declared.due.Says.{Says}
use Rattle.starlark_expected.specs.Words.{Outcome, Took, Refused, Whole, outcome}
use Rattle.starlark_spec.proofs.Constructors.{not_false}

module _ {A : Type 0} (P : A → Type 0) where
  pub chooses_last : (x : A) (all chosen : List A) → P x → Chosen P all chosen → Chosen P (all ++ x ∷ []) (chosen ++ x ∷ [])
  chooses_last x all chosen p none_left = chooses p none_left
  chooses_last x (y ∷ all) chosen p (chooses {chosen = ys} q c) = chooses q (chooses_last x all ys p c)
  chooses_last x (y ∷ all) chosen p (leaves_out q c) = leaves_out q (chooses_last x all chosen p c)

  pub leaves_last : (x : A) (all chosen : List A) → ¬ P x → Chosen P all chosen → Chosen P (all ++ x ∷ []) chosen
  leaves_last x all chosen p none_left = leaves_out p none_left
  leaves_last x (y ∷ all) chosen p (chooses {chosen = ys} q c) = chooses q (leaves_last x all ys p c)
  leaves_last x (y ∷ all) chosen p (leaves_out q c) = leaves_out q (leaves_last x all chosen p c)

  chosen_holds : (x : A) (all chosen : List A) → Chosen P all chosen → IsMember x chosen → P x
  chosen_holds x all chosen none_left m = absurd m
  chosen_holds x (y ∷ all) chosen (chooses q c) (inl e) = subst P (sym e) q
  chosen_holds x (y ∷ all) chosen (chooses {chosen = ys} q c) (inr m) = chosen_holds x all ys c m
  chosen_holds x (y ∷ all) chosen (leaves_out q c) m = chosen_holds x all chosen c m

  is_chosen : (x : A) (all chosen : List A) → Chosen P all chosen → IsMember x all → P x → IsMember x chosen
  is_chosen x all chosen none_left m p = absurd m
  is_chosen x (y ∷ all) chosen (chooses q c) (inl e) p = inl e
  is_chosen x (y ∷ all) chosen (chooses {chosen = ys} q c) (inr m) p = inr (is_chosen x all ys c m p)
  is_chosen x (y ∷ all) chosen (leaves_out q c) (inl e) p = absurd (q (subst P e p))
  is_chosen x (y ∷ all) chosen (leaves_out q c) (inr m) p = is_chosen x all chosen c m p

pub chosen_so : {A : Type 0} (P Q : A → Type 0) (all chosen : List A) → ((x : A) → P x ↔ Q x) → Chosen P all chosen → Chosen Q all chosen
chosen_so P Q all chosen f none_left = none_left
chosen_so P Q (x ∷ all) chosen f (chooses {chosen = ys} q c) = chooses ((f x).0 q) (chosen_so P Q all ys f c)
chosen_so P Q (x ∷ all) chosen f (leaves_out q c) = leaves_out (λ p. q ((f x).1 p)) (chosen_so P Q all chosen f c)

-- each kind is one of all
has : List Kind → Kind → Bool
has [] k = false
has (x ∷ l) k = if is k x then true else has l k

has_so : (l : List Kind) (k : Kind) → has l k ≡ true → IsMember k l
unfolding has
has_so [] k e = cc
has_so (x ∷ l) k e = by_first (is k x) refl e (has_so l k)
  where
    by_first : (c : Bool) → is k x ≡ c → (if c then true else has l k) ≡ true → (has l k ≡ true → IsMember k l) → IsMember k (x ∷ l)
    by_first true f h on = inl (is_true k x f)
    by_first false f h on = inr (on h)

every_has : (k : Kind) → has all_kinds k ≡ true
unfolding has
every_has kinds.Identifier = refl
every_has kinds.Int = refl
every_has kinds.Float = refl
every_has kinds.String = refl
every_has kinds.Bytes = refl
every_has kinds.Comment = refl
every_has kinds.Newline = refl
every_has kinds.Indent = refl
every_has kinds.Dedent = refl
every_has kinds.FStringStart = refl
every_has kinds.FStringText = refl
every_has kinds.FStringExprStart = refl
every_has kinds.FStringBang = refl
every_has kinds.FStringExprEnd = refl
every_has kinds.FStringEnd = refl
every_has kinds.And = refl
every_has kinds.Break = refl
every_has kinds.Continue = refl
every_has kinds.Def = refl
every_has kinds.Elif = refl
every_has kinds.Else = refl
every_has kinds.For = refl
every_has kinds.If = refl
every_has kinds.In = refl
every_has kinds.Lambda = refl
every_has kinds.Load = refl
every_has kinds.Not = refl
every_has kinds.Or = refl
every_has kinds.Pass = refl
every_has kinds.Return = refl
every_has kinds.Comma = refl
every_has kinds.Semicolon = refl
every_has kinds.Colon = refl
every_has kinds.Dot = refl
every_has kinds.Ellipsis = refl
every_has kinds.MinusGreater = refl
every_has kinds.OpeningRound = refl
every_has kinds.ClosingRound = refl
every_has kinds.OpeningSquare = refl
every_has kinds.ClosingSquare = refl
every_has kinds.OpeningCurly = refl
every_has kinds.ClosingCurly = refl
every_has kinds.Plus = refl
every_has kinds.Minus = refl
every_has kinds.Star = refl
every_has kinds.Slash = refl
every_has kinds.SlashSlash = refl
every_has kinds.Percent = refl
every_has kinds.StarStar = refl
every_has kinds.Ampersand = refl
every_has kinds.Pipe = refl
every_has kinds.Caret = refl
every_has kinds.Tilde = refl
every_has kinds.LessLess = refl
every_has kinds.GreaterGreater = refl
every_has kinds.LessThan = refl
every_has kinds.GreaterThan = refl
every_has kinds.LessEqual = refl
every_has kinds.GreaterEqual = refl
every_has kinds.EqualEqual = refl
every_has kinds.BangEqual = refl
every_has kinds.Equal = refl
every_has kinds.PlusEqual = refl
every_has kinds.MinusEqual = refl
every_has kinds.StarEqual = refl
every_has kinds.SlashEqual = refl
every_has kinds.SlashSlashEqual = refl
every_has kinds.PercentEqual = refl
every_has kinds.AmpersandEqual = refl
every_has kinds.PipeEqual = refl
every_has kinds.CaretEqual = refl
every_has kinds.LessLessEqual = refl
every_has kinds.GreaterGreaterEqual = refl
every_has kinds.Fault = refl
every_has kinds.End = refl

every : (k : Kind) → IsMember k all_kinds
every k = has_so all_kinds k (every_has k)

-- so the chosen kinds are those for which it holds
pub chosen_kinds : (P : Kind → Type 0) (chosen : List Kind) → Chosen P all_kinds chosen → (k : Kind) → IsMember k chosen ↔ P k
chosen_kinds P chosen c k = (chosen_holds P k all_kinds chosen c, is_chosen P k all_kinds chosen c (every k))

-- ---- the rest of a list in a loop

take_suc : {A : Type 0} (l : List A) (i : ℕ) (d : A) → i < length l → take (suc i) l ≡ take i l ++ get_or l i d ∷ []
take_suc [] i d h = absurd (omega (arith, h))
take_suc (x ∷ l) zero d h = refl
take_suc (x ∷ l) (suc i) d h = ap (λ y. x ∷ y) (take_suc l i d (omega (arith, h)))

take_one : {A : Type 0} (l : List A) (i : ℕ) (d : A) → i < length l → take (i + 1) l ≡ take i l ++ get_or l i d ∷ []
take_one l i d h = ap (λ j. take j l) (add-one i) ∙ take_suc l i d h

take_all : {A : Type 0} (l : List A) (i : ℕ) → length l ≤ i → take i l ≡ l
take_all [] zero h = refl
take_all [] (suc i) h = refl
take_all (x ∷ l) zero h = absurd (omega (arith, h))
take_all (x ∷ l) (suc i) h = ap (λ y. x ∷ y) (take_all l i (omega (arith, h)))

pub chosen_of_all : (P : Kind → Type 0) (all chosen : List Kind) (i : ℕ) → length all ≤ i → Chosen P (take i all) chosen → Chosen P all chosen
chosen_of_all P all chosen i h c = subst (λ l. Chosen P l chosen) (take_all all i h) c

is_took : (o : Outcome) (s : Says) → IsSaid o s → takes_so s ≡ true → IsTook o
is_took (Took due named) s h e = tt
is_took Refused s h e = not_false (sym e ∙ ap takes_so h)
is_took Whole s h e = not_false (sym e ∙ ap takes_so h)

is_not_took : (o : Outcome) (s : Says) → IsSaid o s → takes_so s ≡ false → IsTook o → ⊥
is_not_took (Took due named) s h e t = not_false (sym (ap takes_so h) ∙ e)
is_not_took Refused s h e t = t
is_not_took Whole s h e t = t

module _ (all chosen : List Kind) (i : ℕ) (d : Kind) (due words : List Word) (named : Bool) (s : Says) (taken : Bool) (small : i < length all)
    (same : words ≡ due) (said : IsSaid (outcome (reverse words) named (get_or all i d)) s) (told : taken ≡ takes_so s)
    (before : Chosen (λ kind. IsTook (outcome (reverse due) named kind)) (take i all) chosen) where
  abbrev Follows : Kind → Type 0
  Follows kind = IsTook (outcome (reverse due) named kind)

  said_so : IsSaid (outcome (reverse due) named (get_or all i d)) s
  said_so = subst (λ w. IsSaid (outcome (reverse w) named (get_or all i d)) s) same said

  pub one_chosen : (new : List Kind) → taken ≡ true → new ≡ chosen ++ get_or all i d ∷ [] → Chosen Follows (take (i + 1) all) new
  one_chosen new t e =
      subst (λ l. Chosen Follows l new) (sym (take_one all i d small))
      (subst (λ l. Chosen Follows (take i all ++ get_or all i d ∷ []) l) (sym e)
      (chooses_last Follows (get_or all i d) (take i all) chosen (is_took _ s said_so (sym told ∙ t)) before))

  pub one_left : taken ≡ false → Chosen Follows (take (i + 1) all) chosen
  one_left t =
      subst (λ l. Chosen Follows l chosen) (sym (take_one all i d small))
      (leaves_last Follows (get_or all i d) (take i all) chosen (is_not_took _ s said_so (sym told ∙ t)) before)

pub member_at : (l : List Kind) (i : ℕ) (d k : Kind) → i < length l → is (get_or l i d) k ≡ true → IsMember k l
member_at [] i d k h e = absurd (omega (arith, h))
member_at (x ∷ l) zero d k h e = inl (sym (is_true x k e))
member_at (x ∷ l) (suc i) d k h e = inr (member_at l i d k (omega (arith, h)) e)

-- ---- what may follow

whole_says : (o : Outcome) (s : Says) → IsSaid o s → o ≡ Whole → whole_so s ≡ true
whole_says (Took due named) s h e = cc
whole_says Refused s h e = cc
whole_says Whole s h e = ap whole_so h

says_whole : (o : Outcome) (s : Says) → IsSaid o s → whole_so s ≡ true → o ≡ Whole
says_whole (Took due named) s h e = not_false (sym e ∙ ap whole_so h)
says_whole Refused s h e = not_false (sym e ∙ ap whole_so h)
says_whole Whole s h e = refl

pub exact : (ts : List Lexeme) (due words : List Word) (named : Bool) (found : List Kind) (s : Says) (b : Bool) → Decides ts (reverse due) named
    → Chosen (λ kind. IsTook (outcome (reverse due) named kind)) all_kinds found → words ≡ due → IsSaid (outcome (reverse words) named kinds.End) s
    → b ≡ whole_so s → IsExpected ts found b
exact ts due words named found s b d c same said e =
    let end : IsSaid (outcome (reverse due) named kinds.End) s = subst (λ w. IsSaid (outcome (reverse w) named kinds.End) s) same said in
    let members = chosen_kinds (λ kind. IsTook (outcome (reverse due) named kind)) found c in
    record {
      begins = d.begins;
      kinds = λ k. ((λ m. (d.follows k).0 ((members k).0 m)), (λ m. (members k).1 ((d.follows k).1 m)));
      in_order = chosen_so (λ kind. IsTook (outcome (reverse due) named kind)) (MayFollow ts) all_kinds found d.follows c;
      ends = (
        (λ h. d.ends.0 (says_whole _ s end (sym e ∙ h))),
        (λ p. e ∙ whole_says _ s end (d.ends.1 p)),
      );
    }
