-- How far lexemes are read.
use Rattle.std.proofs.Common.{◌≡◌, ◌<◌, ◌+◌, ℕ, suc, Bool, true, false, if◌then◌else◌, length, get_or, drop, add-one, drop-cons, List, [], ◌∷◌}
use Rattle.std.proofs.Common.{◌++◌, Ok, Err, refl, sym, ◌∙◌, ap, subst, append_assoc}
use Rattle.std.proofs.lemmas.List.{append-nil}
use Rattle.starlark_lexer.specs.Tokens.{Lexeme, lexeme, Terminal, terminal, from_to}
use Rattle.starlark_lexer.specs.Tokens as tokens
use Rattle.starlark_lexer.specs.declared.kind.Kind.{Kind}
use Rattle.starlark_lexer.specs.declared.kind.Kind.TheVariants as kinds
use Rattle.starlark_expected.specs.declared.expected.Sort.TheVariants as sorts
use Rattle.starlark_lexer.specs.Kinds.{kind_of}
use Rattle.starlark_lexer.specs.Lexer.{CodeLexeme}
use Rattle.starlark_spec.specs.Items.{Items, is_comment}
use Rattle.starlark_spec.specs.Program.{IsProgram, BeginsProgram}
use Rattle.starlark_expected.specs.declared.word.Word.{Word}
use Rattle.starlark_expected.specs.declared.word.Word.TheVariants.{ModuleTail}
use Rattle.starlark_expected.specs.Words.{Outcome, Took, Refused, Whole, outcome}
use Rattle.starlark_expected.specs.MayFollow.{Decides, IsTaken, tokens_of, seen_of, seen_by}
use Rattle.starlark_spec.proofs.Constructors.{not_false, not_true}
use Rattle.starlark_expected.proofs.Read.{Reading, nothing_read, took, refused, decides}

-- the next of a list in a loop
pub next_of : {A : Type 0} (l : List A) (i : ℕ) (x : A) → i < length l → x ≡ get_or l i x → drop i l ≡ x ∷ drop (i + 1) l
next_of l i x h e = drop-cons l i x h ∙ ap (λ y. y ∷ drop (suc i) l) (sym e) ∙ ap (λ j. x ∷ drop j l) (sym (add-one i))

-- some tokens are read, and the others are those of the rest
pub record UpTo (all rest : List CodeLexeme) (due : List Word) (named : Bool) : Type 0 where
  pub before : List Lexeme
  pub reading : Reading before due named
  pub left : tokens_of all ≡ before ++ tokens_of rest

pub at_first : (all rest : List CodeLexeme) → rest ≡ all → UpTo all rest (ModuleTail ∷ []) false
at_first all rest e = record { before = []; reading = nothing_read; left = ap tokens_of (sym e) }

pub at_last : (all rest : List CodeLexeme) (due : List Word) (named : Bool) → UpTo all rest due named → tokens_of rest ≡ [] → Decides (tokens_of all) due named
at_last all rest due named u e =
    subst (λ ts. Decides ts due named) (sym (u.left ∙ ap (λ r. u.before ++ r) e ∙ append-nil u.before)) (decides u.before due named u.reading)

-- ---- what is seen of a lexeme

no_comment : {k : Kind} → sorts.Token k ≡ sorts.Comment → ⊥
no_comment e = cc

no_token : {k : Kind} → sorts.Comment ≡ sorts.Token k → ⊥
no_token e = cc

error_comment : sorts.Error ≡ sorts.Comment → ⊥
error_comment e = cc

error_token : {k : Kind} → sorts.Error ≡ sorts.Token k → ⊥
error_token e = cc

token_error : {k : Kind} → sorts.Token k ≡ sorts.Error → ⊥
token_error e = cc

comment_error : sorts.Comment ≡ sorts.Error → ⊥
comment_error e = cc

same_kind : {j k : Kind} → sorts.Token j ≡ sorts.Token k → j ≡ k
same_kind e = cc

skips : (c : Bool) (i j : Items) → c ≡ true → (if c then i else j) ≡ i
skips c i j e = rw e refl

keeps : (c : Bool) (i j : Items) → c ≡ false → (if c then i else j) ≡ j
keeps c i j e = rw e refl

comment_so : (t : Terminal) → seen_by (kind_of t) ≡ sorts.Comment → is_comment t ≡ true
comment_so (tokens.Comment text) e = refl
comment_so t e = absurd (no_comment e)

token_so : (t : Terminal) (k : Kind) → seen_by (kind_of t) ≡ sorts.Token k → (is_comment t ≡ false) × (kind_of t ≡ k)
token_so (tokens.Comment text) k e = absurd (no_token e)
token_so t k e = (refl, same_kind e)

no_error : (k : Kind) → seen_by k ≡ sorts.Error → ⊥
no_error kinds.Comment e = comment_error e
no_error k e = token_error e

seen_comment : (x : CodeLexeme) (others : List CodeLexeme) → seen_of x ≡ sorts.Comment → tokens_of (x ∷ others) ≡ tokens_of others
seen_comment (Ok x) others e = ap (λ (i : Items). i.tokens) (skips (is_comment (terminal x.1)) _ _ (comment_so (terminal x.1) e))
seen_comment (Err x) others e = absurd (error_comment e)

record SeenToken (x : CodeLexeme) (others : List CodeLexeme) (k : Kind) : Type 0 where
  token : Lexeme
  kind_is : kind_of token.token ≡ k
  split_so : tokens_of (x ∷ others) ≡ token ∷ tokens_of others

seen_token : (x : CodeLexeme) (others : List CodeLexeme) (k : Kind) → seen_of x ≡ sorts.Token k → SeenToken x others k
seen_token (Ok x) others k e =
    let t = token_so (terminal x.1) k e in record {
      token = lexeme (terminal x.1) (from_to x.0 x.2);
      kind_is = t.1;
      split_so = ap (λ (i : Items). i.tokens) (keeps (is_comment (terminal x.1)) _ _ t.0);
    }
seen_token (Err x) others k e = absurd (error_token e)

seen_error : (x : CodeLexeme) (others : List CodeLexeme) → seen_of x ≡ sorts.Error → tokens_of (x ∷ others) ≡ []
seen_error (Ok x) others e = absurd (no_error (kind_of (terminal x.1)) e)
seen_error (Err x) others e = refl

-- ---- one lexeme

module _ (all rest others : List CodeLexeme) (due : List Word) (named : Bool) (u : UpTo all rest due named) where
  pub at_error : (x : CodeLexeme) → rest ≡ x ∷ others → seen_of x ≡ sorts.Error → Decides (tokens_of all) due named
  at_error x e s = at_last all rest due named u (ap tokens_of e ∙ seen_error x others s)

  by_comment : (x : CodeLexeme) → rest ≡ x ∷ others → tokens_of (x ∷ others) ≡ tokens_of others → UpTo all others due named
  by_comment x e h = record { before = u.before; reading = u.reading; left = u.left ∙ ap (λ r. u.before ++ tokens_of r) e ∙ ap (λ r. u.before ++ r) h }

  pub at_comment : (x : CodeLexeme) → rest ≡ x ∷ others → seen_of x ≡ sorts.Comment → UpTo all others due named
  at_comment x e s = by_comment x e (seen_comment x others s)

  abbrev split : (x : CodeLexeme) (l : Lexeme) → rest ≡ x ∷ others → tokens_of (x ∷ others) ≡ l ∷ tokens_of others
      → tokens_of all ≡ (u.before ++ l ∷ []) ++ tokens_of others
  split x l e h =
      u.left ∙ ap (λ r. u.before ++ tokens_of r) e ∙ ap (λ r. u.before ++ r) h ∙ sym (append_assoc u.before (l ∷ []) (tokens_of others))

  by_taken : (x : CodeLexeme) (l : Lexeme) → rest ≡ x ∷ others → tokens_of (x ∷ others) ≡ l ∷ tokens_of others → (o : Outcome)
      → outcome due named (kind_of l.token) ≡ o → (new : List Word) (now : Bool) → IsTaken o true new now → UpTo all others new now
  by_taken x l e h (Took s f) g new now t = record {
    before = u.before ++ l ∷ [];
    reading = took u.before due named u.reading l new now (g ∙ ap (λ w. Took w f) (sym t.1) ∙ ap (Took new) (sym t.2));
    left = split x l e h;
  }
  by_taken x l e h Refused g new now t = not_false t
  by_taken x l e h Whole g new now t = not_false t

  pub at_token : (x : CodeLexeme) → rest ≡ x ∷ others → (k : Kind) → seen_of x ≡ sorts.Token k → (new : List Word) (now taken : Bool)
      → IsTaken (outcome due named k) taken new now → taken ≡ true → UpTo all others new now
  at_token x e k s new now taken t g =
      let q = seen_token x others k s in
      by_taken x q.token e q.split_so (outcome due named (kind_of q.token.token)) refl new now
      (subst (λ j. IsTaken (outcome due named j) true new now) (sym q.kind_is) (subst (λ b. IsTaken (outcome due named k) b new now) g t))

  by_refused : (o : Outcome) (new : List Word) (now : Bool) → IsTaken o false new now → (s : List Word) (f : Bool) → o ≡ Took s f → ⊥
  by_refused (Took s f) new now t w g e = not_true t.0
  by_refused Refused new now t w g e = cc
  by_refused Whole new now t w g e = cc

  pub at_refused : (x : CodeLexeme) → rest ≡ x ∷ others → (k : Kind) → seen_of x ≡ sorts.Token k → (new : List Word) (now taken : Bool)
      → IsTaken (outcome due named k) taken new now → taken ≡ false → BeginsProgram (tokens_of all) → ⊥
  at_refused x e k s new now taken t g p =
      let q = seen_token x others k s in
      refused u.before due named u.reading q.token
      (by_refused (outcome due named (kind_of q.token.token)) new now
      (subst (λ j. IsTaken (outcome due named j) false new now) (sym q.kind_is) (subst (λ b. IsTaken (outcome due named k) b new now) g t))) (
        tokens_of others ++ p.0,
        subst IsProgram (ap (λ ts. ts ++ p.0) (split x q.token e q.split_so) ∙ append_assoc (u.before ++ q.token ∷ []) (tokens_of others) p.0) p.1,
      )
