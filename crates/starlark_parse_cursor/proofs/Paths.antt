-- The machine's paths in the form in which the code's answers cite them.
use Rattle.std.proofs.Common.{◌≡◌, ℕ, Option, Result, Ok, Err, sym, ◌∙◌, ap, subst}
use Rattle.std.specs.Result.{IsErrAnd}
use Rattle.starlark_lexer.specs.Tokens.{Lexeme}
use Rattle.starlark_lexer.specs.Lexer.{CodeLexeme}
use Rattle.starlark_spec.specs.Answers.{Answer}
use Rattle.starlark_spec.specs.Answers.Answer.{memory}
use Rattle.starlark_spec.specs.Grammar.{Nonterminal, Derivation}
use Rattle.starlark_spec.specs.Grammar.Nonterminal.{Module}
use Rattle.starlark_spec.specs.Machine.States.{Place, State}
use Rattle.starlark_spec.specs.Machine.States.State.{read}
use Rattle.starlark_spec.specs.Machine.Sight.{token, look_at}
use Rattle.starlark_spec.specs.Machine.Moves.{Keep, Take, Fail}
use Rattle.starlark_spec.specs.Machine.Faults.{Moves, ruled}
use Rattle.starlark_spec.specs.declared.refusal.Refusal.{Refusal}
use Rattle.starlark_spec.specs.declared.refusal.Refusal.TheVariants as refusals
use Rattle.starlark_spec.specs.Refusals.{refused}
use Rattle.starlark_parse_cursor.specs.Reading.{At, Advances, begin_in, begin_at, stop_at}
use Rattle.starlark_parse_cursor.specs.Contract.{Goes, Goes.stays, Goes.keeps, Goes.takes, Comes, FailsFrom, FailsFrom.no_memory, FailsFrom.sticks}
use Rattle.starlark_parse_cursor.specs.Contract.{FailsFrom.breaks, Found, ParsesFrom, Parses, Gives}

module _ {S : Type 0} {steps : S → Option CodeLexeme → S → Type 0} where
  pub after : {s t u : State Module} {a b c : At S} → Goes steps s a t b → Goes steps t b u c → Goes steps s a u c
  after stays q = q
  after (keeps h p) q = keeps h (after p q)
  after (takes v h p) q = takes v h (after p q)

  -- a step that keeps its token, and continues at the same cursor
  pub past : {s t u : State Module} {a m c : At S} → m ≡ a → ruled a.types s (look_at a.sight) ≡ Moves (Keep t) → Goes steps t m u c → Goes steps s a u c
  past {t = t} {u = u} {c = c} e h g = keeps h (subst (λ x. Goes steps t x u c) e g)

  -- a path to an equal cursor
  pub at_same : {s t : State Module} {a m b : At S} → b ≡ m → Goes steps s a t m → Goes steps s a t b
  at_same {s = s} {t = t} {a = a} e g = subst (λ x. Goes steps s a t x) (sym e) g

  pub begin_seen : {a b : At S} {x : Lexeme} → Advances steps a x b → x.span.begin ≡ begin_at a
  begin_seen {a = a} v = sym (ap (λ k. begin_in k a.end) v.sees)

  -- the exit of a `?`
  pub exits : {V : Type 0} {n : Nonterminal} (from : Place Module n → State Module) (begin : ℕ) (Means : V → Derivation n → Type 0) (a b : At S)
      (r : Result V Refusal) (e : Refusal) → IsErrAnd r (λ y. y ≡ e) → FailsFrom steps from a b (refused e) → ParsesFrom steps from begin Means a r b
  exits from begin Means a b (Err y) e h f = subst (λ x. FailsFrom steps from a b (refused x)) (sym h) f
  exits from begin Means a b (Ok v) e h f = absurd h

  pub gives_exits : {V I : Type 0} (from : I → State Module) (Finds : V → At S → Type 0) (a b : At S) (r : Result V Refusal) (e : Refusal)
      → IsErrAnd r (λ y. y ≡ e) → FailsFrom steps from a b (refused e) → Gives steps from Finds a r b
  gives_exits from Finds a b (Err y) e h f = subst (λ x. FailsFrom steps from a b (refused x)) (sym h) f
  gives_exits from Finds a b (Ok v) e h f = absurd h

  -- the exit of a `?` after a path, if memory ran out
  pub wants : {I : Type 0} {from : I → State Module} {a b : At S} (s : I → State Module) → ((i : I) → Goes steps (from i) a (s i) b)
      → FailsFrom steps from a b memory
  wants s path = no_memory (λ i. record { state = s i; goes = path i })

  pub wants_memory : {I : Type 0} {from : I → State Module} {a b : At S} {e : Refusal} (s : I → State Module) → e ≡ refusals.Memory
      → ((i : I) → Goes steps (from i) a (s i) b) → FailsFrom steps from a b (refused e)
  wants_memory {from = from} {a = a} {b = b} s h path = subst (λ x. FailsFrom steps from a b (refused x)) (sym h) (wants s path)

  -- what rejects a part rejects the whole
  pub further : {I J : Type 0} {from : I → State Module} {g : J → State Module} {a m b : At S} {r : Answer} (q : I → J)
      → ((i : I) → Goes steps (from i) a (g (q i)) m) → FailsFrom steps g m b r → FailsFrom steps from a b r
  further q path (no_memory w) = no_memory (λ i. let k = w (q i) in record { state = k.state; goes = after (path i) k.goes })
  further q path (breaks f h b) = breaks f h (λ i. let k = b (q i) in record { state = k.state; goes = after (path i) k.goes; refuses = k.refuses })
  further q path (sticks h f) = sticks h (λ i. let k = f (q i) in record { state = k.state; goes = after (path i) k.goes; fails = k.fails })

  -- a required token does not come
  pub due : {I : Type 0} {from : I → State Module} {a q b : At S} {r : Answer} (s : I → State Module) → b ≡ q → r ≡ stop_at b
      → ((i : I) → Goes steps (from i) a (s i) q) → ((i : I) → ruled q.types (s i) (look_at q.sight) ≡ Moves Fail) → FailsFrom steps from a b r
  due {from = from} {a = a} {q = q} {b = b} s same e path stops = sticks e (λ i. record {
    state = s i;
    goes = at_same same (path i);
    fails = subst (λ (x : At S). ruled x.types (s i) (look_at x.sight) ≡ Moves Fail) (sym same) (stops i);
  })

  -- what is read after a token
  pub into_taken : {V : Type 0} {n : Nonterminal} {from : Place Module n → State Module} (Means : V → Derivation n → Type 0) {a m : At S} {x : Lexeme}
      (b : At S) (r : Result V Refusal)
      → Advances steps a x m → ((p : Place Module n) → ruled a.types (read n p) (look_at (token x)) ≡ Moves (Take (from p)))
      → ParsesFrom steps from x.span.begin Means m r b → Parses steps n Means a r b
  into_taken Means b (Ok v) w moves d = record {
    derivation = d.derivation;
    means = d.means;
    begin_is = λ rest. d.begin_is rest ∙ begin_seen w;
    end_is = d.end_is;
    goes = λ p. takes w (moves p) (d.goes p);
  }
  into_taken Means b (Err e) w moves f = further (λ p. p) (λ p. takes w (moves p) stays) f

-- what is read if no token was consumed before
pub into_kept : {S : Type 0} (steps : S → Option CodeLexeme → S → Type 0) {V : Type 0} {n : Nonterminal} (from : Place Module n → State Module) (Means : V
    → Derivation n → Type 0) (a m b : At S) (r : Result V Refusal)
    → m ≡ a → ((p : Place Module n) → ruled a.types (read n p) (look_at a.sight) ≡ Moves (Keep (from p))) → ParsesFrom steps from (begin_at m) Means m r b
    → Parses steps n Means a r b
into_kept steps from Means a m b (Ok v) same moves d = record {
  derivation = d.derivation;
  means = d.means;
  begin_is = λ rest. d.begin_is rest ∙ ap begin_at same;
  end_is = d.end_is;
  goes = λ p. past same (moves p) (d.goes p);
}
into_kept steps from Means a m b (Err e) same moves f = further (λ p. p) (λ p. past same (moves p) stays) f
