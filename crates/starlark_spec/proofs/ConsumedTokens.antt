-- What a run over a list of tokens consumes, and the nodes that it passes.
use Rattle.std.proofs.Common.{◌≡◌, false, List, [], ◌∷◌, ◌++◌, refl, sym, ◌∙◌, ap, subst, ◌⊎◌, inl, inr}
use Rattle.starlark_lexer.specs.Tokens.{Lexeme}
use Rattle.std.specs.Bool.{⊤}
use Rattle.starlark_spec.specs.Items.{Ending, at_end, fails, out_of_memory}
use Rattle.starlark_spec.specs.Grammar.{Nonterminal, Derivation, right_side, yield_of, side_yield, side_condition}
use Rattle.starlark_spec.specs.Grammar.Nonterminal.{Module}
use Rattle.starlark_spec.specs.Nodes.{Occurrence, occurrences, IsMember}
use Rattle.starlark_lexer.specs.Kinds.{kind_of}
use Rattle.starlark_spec.specs.Machine.States.{Place}
use Rattle.starlark_spec.specs.Machine.States.State.{done}
use Rattle.starlark_spec.specs.Machine.Sight.{is_ending, look, look_at, sight}
use Rattle.starlark_spec.specs.Machine.Moves.{Move, Keep, Take, Fail, Finish, move}
use Rattle.starlark_spec.specs.Machine.ReadParts.{seen, seen_at}
use Rattle.starlark_spec.specs.Machine.Steps.{start, module_done, Config, config, next, step, after_first, Reaches, here, more}
use Rattle.starlark_spec.proofs.Runs.{leaves, takes as takes_token}
use Rattle.starlark_spec.proofs.Viable.{IsFair, IsFair.keeps, IsFair.closes, IsFair.opens, IsFair.takes, IsFair.fails as fair_fails}
use Rattle.starlark_spec.proofs.Viable.{IsFair.finishes as fair_finishes, fair, occurrence_at}
use Rattle.starlark_spec.proofs.Parts.{same_occurrences, more_occurrences, in_front, in_either, tokens_first}
use Rattle.starlark_spec.proofs.Theorems.{ends}

-- a run passes the end of a node
pub record Passing {b : Nonterminal} (z : Ending) (a c : Config b) (h : Occurrence) : Type 0 where
  pub what : Nonterminal
  pub derivation : Derivation what
  pub place : Place b what
  pub rest : List Lexeme
  pub comes : Reaches z a (config (done derivation place) rest)
  pub goes : Reaches z (config (done derivation place) rest) c
  pub is_it : h ≡ occurrence_at place derivation

-- what a run consumes, and the nodes that it passes
pub record Taken {b : Nonterminal} (z : Ending) (a c : Config b) : Type 0 where
  pub before : List Lexeme
  pub split : a.rest ≡ before ++ c.rest
  pub told : (r : List Lexeme) → side_yield (seen c.state) r ≡ side_yield (seen a.state) (before ++ r)
  pub kept : (h : Occurrence) → IsMember h (occurrences (seen a.state)) → IsMember h (occurrences (seen c.state))
  pub passed : (h : Occurrence) → IsMember h (occurrences (seen c.state)) → IsMember h (occurrences (seen a.state)) ⊎ Passing z a c h
  -- the same run over each list that continues after it
  pub again : (y : Ending) (r : List Lexeme) → sight z c.rest ≡ sight y r → Reaches y (config a.state (before ++ r)) (config c.state r)

same_sight : (z y : Ending) (before rest r : List Lexeme) → sight z rest ≡ sight y r → sight z (before ++ rest) ≡ sight y (before ++ r)
same_sight z y [] rest r e = e
same_sight z y (x ∷ before) rest r e = refl

by_step : {b : Nonterminal} {z : Ending} {a c d : Config b} → step z a ≡ c → Reaches z c d → Reaches z a d
by_step {z = z} {d = d} e q = more (subst (λ x. Reaches z x d) (sym e) q)

earlier : {b : Nonterminal} {z : Ending} {a c d : Config b} {h : Occurrence} → step z a ≡ c → Passing z c d h → Passing z a d h
earlier e p = record { what = p.what; derivation = p.derivation; place = p.place; rest = p.rest; comes = by_step e p.comes; goes = p.goes; is_it = p.is_it }

-- the first token, if there is one
pub record First (z : Ending) (ts : List Lexeme) : Type 0 where
  pub first : Lexeme
  pub rest : List Lexeme
  pub split : ts ≡ first ∷ rest
  pub seen_so : (look z ts).first ≡ first
  pub kind_so : kind_of first.token ≡ (look z ts).kind

pub first_of : (z : Ending) (ts : List Lexeme) → is_ending (look z ts).kind ≡ false → First z ts
first_of at_end [] h = cc
first_of (fails f) [] h = cc
first_of out_of_memory [] h = cc
first_of z (x ∷ ts) h = record { first = x; rest = ts; split = refl; seen_so = refl; kind_so = refl }

one : {b : Nonterminal} (z : Ending) (a c : Config b) (m : Move b) → move a.state (look z a.rest) ≡ m → IsFair (seen a.state) (look z a.rest) m
    → Reaches z (next m a) c → Taken z (next m a) c → Taken z a c
one z a c (Keep t) e (keeps f g o) w q =
    let same = same_occurrences (seen t) (seen a.state) (g []) in
    let goes : step z a ≡ config t a.rest = ap (λ k. next k a) e in record {
      before = q.before;
      split = q.split;
      told = λ r. q.told r ∙ f _;
      kept = λ h i. q.kept h (subst (λ x. IsMember h x) (sym same) i);
      passed = λ h i. elim (q.passed h i) [ inl j ↦ inl (subst (λ x. IsMember h x) same j) | inr p ↦ inr (earlier goes p) ];
      again = λ y r s. leaves (q.before ++ r) (ap (λ k. move a.state (look_at k)) (sym (ap (sight z) q.split ∙ same_sight z y q.before c.rest r s)) ∙ e)
          (q.again y r s);
    }
one z a c (Keep t) e (opens f g o u v) w q =
    let same = same_occurrences (seen t) (seen a.state) (g []) in
    let goes : step z a ≡ config t a.rest = ap (λ k. next k a) e in record {
      before = q.before;
      split = q.split;
      told = λ r. q.told r ∙ f _;
      kept = λ h i. q.kept h (subst (λ x. IsMember h x) (sym same) i);
      passed = λ h i. elim (q.passed h i) [ inl j ↦ inl (subst (λ x. IsMember h x) same j) | inr p ↦ inr (earlier goes p) ];
      again = λ y r s. leaves (q.before ++ r) (ap (λ k. move a.state (look_at k)) (sym (ap (sight z) q.split ∙ same_sight z y q.before c.rest r s)) ∙ e)
          (q.again y r s);
    }
one z a c (Keep t) e (closes {d = d} {p = p} f g o) w q =
    let grown = more_occurrences (seen (done d p)) (seen a.state) (occurrence_at p d) (g []) in
    let goes : step z a ≡ config (done d p) a.rest = ap (λ k. next k a) e in
    let here_it : (h : Occurrence) → h ≡ occurrence_at p d → Passing z a c h = λ h i. record {
      what = _;
      derivation = d;
      place = p;
      rest = a.rest;
      comes = by_step goes here;
      goes = w;
      is_it = i;
    } in record {
      before = q.before;
      split = q.split;
      told = λ r. q.told r ∙ f _;
      kept = λ h i. q.kept h (subst (λ x. IsMember h x) (sym grown) (in_front h _ _ i));
      passed = λ h i. elim (q.passed h i) [
        | inl j ↦ elim (in_either h _ _ (subst (λ x. IsMember h x) grown j)) [ inl k ↦ inl k | inr k ↦ inr (here_it h k) ]
        | inr p ↦ inr (earlier goes p)
      ];
      again = λ y r s. leaves (q.before ++ r) (ap (λ k. move a.state (look_at k)) (sym (ap (sight z) q.split ∙ same_sight z y q.before c.rest r s)) ∙ e)
          (q.again y r s);
    }
one z a c (Take t) e (takes f g o i) w q =
    let k = first_of z a.rest i in
    let same = same_occurrences (seen t) (seen a.state) (g []) in
    let goes : step z a ≡ config t (after_first a.rest) = ap (λ k. next k a) e in record {
      before = k.first ∷ q.before;
      split = k.split ∙ ap (λ y. k.first ∷ y) (sym (ap after_first k.split) ∙ q.split);
      told = λ r. q.told r ∙ f (ap (λ (x : Lexeme). kind_of x.token) k.seen_so ∙ k.kind_so) _
          ∙ ap (λ x. side_yield (seen a.state) (x ∷ (q.before ++ r))) k.seen_so;
      kept = λ h i. q.kept h (subst (λ x. IsMember h x) (sym same) i);
      passed = λ h i. elim (q.passed h i) [ inl j ↦ inl (subst (λ x. IsMember h x) same j) | inr p ↦ inr (earlier goes p) ];
      again = λ y r s. takes_token k.first (q.before ++ r) (ap (λ l. move a.state (look_at l)) (sym (ap (sight z) k.split)) ∙ e) (q.again y r s);
    }
one z a c Fail e fair_fails w q = q
one z a c (Finish d) e fair_finishes w q = q

pub taken : {b : Nonterminal} {z : Ending} {a c : Config b} → Reaches z a c → Taken z a c
taken here = record { before = []; split = refl; told = λ r. refl; kept = λ h i. i; passed = λ h i. inl i; again = λ y r s. here }
taken {b} {z} {a} {c} (more q) = one z a c (move a.state (look z a.rest)) refl (fair a.state (look z a.rest)) q (taken q)

-- the machine passes each node of a program
pub passes : (d : Derivation Module) → side_condition (right_side d) [] ⊤ → (h : Occurrence) → IsMember h (occurrences (right_side d))
    → Passing at_end (config start (yield_of d [])) (config (module_done d) []) h
passes d f h i = elim ((taken (ends d f)).passed h (subst (λ x. IsMember h x) (sym (occurrences_whole d)) i)) [ inl j ↦ absurd j | inr p ↦ p ]
  where
    occurrences_whole : (d : Derivation Module) → occurrences (seen (module_done d)) ≡ occurrences (right_side d)
    occurrences_whole d = same_occurrences (seen (module_done d)) (right_side d) refl

-- the tokens before a node, its own, and the rest
pub there : {n : Nonterminal} (p : Place Module n) (d : Derivation n) (h : Occurrence) (rest : List Lexeme) → h ≡ occurrence_at p d
    → side_yield (seen_at p) (yield_of d rest) ≡ h.before ++ (h.own ++ rest)
there p d h rest e =
    tokens_first (seen_at p) _ ∙ ap (λ x. side_yield (seen_at p) [] ++ x) (tokens_first (right_side d) rest)
    ∙ ap (λ (x : Occurrence). x.before ++ (x.own ++ rest)) (sym e)
