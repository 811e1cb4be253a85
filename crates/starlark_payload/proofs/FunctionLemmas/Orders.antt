-- In which order a map calls the function: what a function that records its calls has recorded for some trees, these calls and
-- no others. So no map of such a tree is correct that makes a call at another point, twice, or not at all.
use Rattle.std.proofs.Common.{rules, refl, ◌≡◌, ℕ, List as Seq, [], ◌∷◌, ◌++◌, Some, None}
use Rattle.starlark_lexer.specs.Tokens.{Span}
use Rattle.starlark_tree.specs.Ast.{Payloads, no_payload, Word, Shape, Form, expression, statement, Identifier, Lambda, ListComprehension, absent, present}
use Rattle.starlark_tree.specs.Ast.{no_type, typed, no_parameters, parameters, Normal, for_in, no_clauses, NameTarget, Return, Assign, Def, Load}
use Rattle.starlark_payload.specs.Function.Mapped.{Calls, MapsShape, MapsForm}

-- a call, with the payload that it maps
pub data Called : Type 0 where
  load ident assign def type : ℕ → Called

abbrev pub numbers : Payloads
numbers = record { load = ℕ; ident = ℕ; assign = ℕ; def = ℕ; type = ℕ }

-- a function that records its calls, the last one last
abbrev pub keeps : Calls numbers no_payload (Seq Called)
keeps = record {
  load = λ path a b before after. after ≡ before ++ load a ∷ [];
  ident = λ a b before after. after ≡ before ++ ident a ∷ [];
  assign = λ a b before after. after ≡ before ++ assign a ∷ [];
  def = λ a b before after. after ≡ before ++ def a ∷ [];
  type = λ a b before after. after ≡ before ++ type a ∷ [];
}

-- from no calls the step reaches these, and no others
pub record Comes (step : Seq Called → Seq Called → Type 0) (calls : Seq Called) : Type 0 where
  pub there : step [] calls
  pub alone : (after : Seq Called) → step [] after → after ≡ calls

module _ (at : Span) (w : Word) where
  -- `def f(x): return x`: the payload of the definition after those of its body
  abbrev definition : (P : Payloads) → P.assign → P.assign → P.ident → P.def → Form P
  definition P f x read d = Def w f (parameters (Normal at w x no_type absent) no_parameters) no_type
      (statement at (Return (Some (expression at (Identifier w read))))) d

  pub definition_called : Comes (MapsForm keeps (definition numbers 0 1 2 3) (definition no_payload tt tt tt tt)) (assign 0 ∷ assign 1 ∷ ident 2 ∷ def 3 ∷ [])
  definition_called = record {
    there =
        let bound = assign 0 ∷ assign 1 ∷ [] in (
          refl,
          (
            assign 0 ∷ [],
            refl,
            (
              bound,
              (bound, ((refl, refl), (bound, refl, (bound, refl, refl))), refl),
              (bound, refl, (assign 0 ∷ assign 1 ∷ ident 2 ∷ [], (refl, (refl, (refl, refl))), refl)),
            ),
          ),
        );
    alone = λ after h. search rules;
  }

  -- `lambda p, q=d: e`
  abbrev lambda : (P : Payloads) → P.assign → P.assign → P.ident → P.ident → P.def → Shape P
  lambda P p q d e l =
      Lambda (parameters (Normal at w p no_type absent) (parameters (Normal at w q no_type (present (expression at (Identifier w d)))) no_parameters))
      (expression at (Identifier w e)) l

  pub lambda_called : Comes (MapsShape keeps (lambda numbers 0 1 2 3 4) (lambda no_payload tt tt tt tt tt))
      (assign 0 ∷ assign 1 ∷ ident 2 ∷ ident 3 ∷ def 4 ∷ [])
  lambda_called = record {
    there =
        let first = assign 0 ∷ [] in
        let both = assign 0 ∷ assign 1 ∷ [] in
        let default = assign 0 ∷ assign 1 ∷ ident 2 ∷ [] in (
          default,
          (first, ((refl, refl), (first, refl, (first, refl, refl))), (default, ((refl, refl), (both, refl, (both, refl, (refl, (refl, refl))))), refl)),
          (assign 0 ∷ assign 1 ∷ ident 2 ∷ ident 3 ∷ [], (refl, (refl, refl)), refl),
        );
    alone = λ after h. search rules;
  }

  -- `[x for y in z]`: the element before the clauses
  abbrev comprehension : (P : Payloads) → P.ident → P.assign → P.ident → Shape P
  comprehension P x y z = ListComprehension (expression at (Identifier w x)) (for_in (NameTarget at w y) (expression at (Identifier w z))) no_clauses

  pub comprehension_called : Comes (MapsShape keeps (comprehension numbers 0 1 2) (comprehension no_payload tt tt tt)) (ident 0 ∷ assign 1 ∷ ident 2 ∷ [])
  comprehension_called = record { there = search rules; alone = λ after h. search rules }

  -- `v: t = w`
  abbrev annotated : (P : Payloads) → P.assign → P.ident → P.type → P.ident → Form P
  annotated P v t ty value = Assign (NameTarget at w v) (typed at (expression at (Identifier w t)) ty) (expression at (Identifier w value))

  pub annotated_called : Comes (MapsForm keeps (annotated numbers 0 1 2 3) (annotated no_payload tt tt tt tt)) (assign 0 ∷ ident 1 ∷ type 2 ∷ ident 3 ∷ [])
  annotated_called = record {
    there = (
      assign 0 ∷ [],
      ((refl, refl), refl),
      (
        assign 0 ∷ ident 1 ∷ type 2 ∷ [],
        (refl, (assign 0 ∷ ident 1 ∷ [], (refl, (refl, refl)), refl)),
        (refl, (refl, refl)),
      ),
    );
    alone = λ after h. search rules;
  }

  -- `load("m", "a", b = "c")`: the payload of the load before those of its names
  abbrev loading : (P : Payloads) → P.load → P.assign → P.assign → Form P
  loading P l a b = Load w (record { local = w; payload = a; their = w; comma = None } ∷ record { local = w; payload = b; their = w; comma = None } ∷ []) l

  pub loading_called : Comes (MapsForm keeps (loading numbers 0 1 2) (loading no_payload tt tt tt)) (load 0 ∷ assign 1 ∷ assign 2 ∷ [])
  loading_called = record { there = search rules; alone = λ after h. search rules }
