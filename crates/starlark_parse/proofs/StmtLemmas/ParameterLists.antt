-- The machine's paths through lists of parameters, in the form in which the code's answers cite them.
use Rattle.std.proofs.Common.{◌≡◌, true, false, List, [], ◌∷◌, ◌++◌, Option, refl, sym, ◌∙◌, ap, subst}
use Rattle.starlark_lexer.specs.Tokens.{Span, lexeme}
use Rattle.starlark_lexer.specs.Tokens as tokens
use Rattle.starlark_lexer.specs.Lexer.{CodeLexeme}
use Rattle.starlark_tree.specs.Ast.{Parameter as AstParameter, no_payload}
use Rattle.starlark_parse_held.specs.declared.parameter.HeldParameter.{HeldParameter}
use Rattle.starlark_parse_held.specs.Held.{parameter_of}
use Rattle.starlark_lexer.specs.declared.kind.Kind.TheVariants as kinds
use Rattle.starlark_spec.specs.Answers.{Answer}
use Rattle.starlark_spec.specs.Answers.Answer.{memory}
use Rattle.starlark_spec.specs.Grammar.{Derivation}
use Rattle.starlark_spec.specs.Grammar.ElementKind.{def_parameters}
use Rattle.starlark_spec.specs.Grammar.ElementOf.{of_def_parameters}
use Rattle.starlark_spec.specs.Grammar.Nonterminal.{Module, DefParam, OptionalList, CommaList}
use Rattle.starlark_spec.specs.Grammar.Derivation.{optional_list_none, optional_list_plain, optional_list_comma, comma_list_one, comma_list_more}
use Rattle.starlark_spec.specs.Trees.{tree}
use Rattle.starlark_lexer.specs.Kinds.{is}
use Rattle.starlark_spec.specs.Machine.States.{Place, comma_list_at, comma_list_one_at, comma_list_more_at}
use Rattle.starlark_spec.specs.Machine.States.State.{read, done, after_comma}
use Rattle.starlark_spec.specs.Machine.Sight.{look_at}
use Rattle.starlark_spec.specs.Machine.Firsts.{starts_param}
use Rattle.starlark_parse_cursor.specs.Reading.{At, Advances, begin_at}
use Rattle.starlark_parse_cursor.specs.Contract.{Goes, Goes.stays, Goes.keeps, Goes.takes, FailsFrom, Found, FoundOptionalList}
use Rattle.starlark_parse_cursor.proofs.Paths.{after, at_same, further, wants}
use Rattle.starlark_parse.specs.Stmt.Statements.{IsParam}

-- parameters were read, with a comma after each; or none was read yet
pub data Listed {S : Type 0} (steps : S → Option CodeLexeme → S → Type 0) (a b : At S) (xs : List (AstParameter no_payload)) : Type 0 where
  none_yet : b ≡ a → xs ≡ [] → Listed steps a b xs
  some : (derivation : Derivation (CommaList def_parameters)) (comma : Span) → tree derivation ≡ xs
      → ((p : Place Module (OptionalList def_parameters)) → Goes steps (read (OptionalList def_parameters) p) a (after_comma derivation comma p) b)
      → Listed steps a b xs

-- one is due after those
record Next {S : Type 0} (steps : S → Option CodeLexeme → S → Type 0) (a b : At S) (xs : List (AstParameter no_payload)) : Type 0 where
  place : Place Module (OptionalList def_parameters) → Place Module DefParam
  more : Derivation DefParam → Derivation (CommaList def_parameters)
  means : (d : Derivation DefParam) → tree (more d) ≡ xs ++ tree d ∷ []
  goes : (p : Place Module (OptionalList def_parameters)) → Goes steps (read (OptionalList def_parameters) p) a (read DefParam (place p)) b
  passes : (d : Derivation DefParam) (p : Place Module (OptionalList def_parameters)) (c : At S)
      → Goes steps (done d (place p)) c (done (more d) (comma_list_at p)) c

module _ {S : Type 0} {steps : S → Option CodeLexeme → S → Type 0} where
  pub none_listed : (a : At S) → Listed steps a a []
  none_listed a = none_yet refl refl

  pub listed_as : {a b : At S} {xs ys : List (AstParameter no_payload)} → Listed steps a b xs → ys ≡ xs → Listed steps a b ys
  listed_as {a = a} {b = b} g e = subst (λ x. Listed steps a b x) (sym e) g

  module _ {a q : At S} {xs : List (AstParameter no_payload)} where
    next_one : Listed steps a q xs → starts_param (look_at q.sight).kind ≡ true → Next steps a q xs
    next_one (none_yet same nothing) h = record {
      place = λ p. comma_list_one_at of_def_parameters (comma_list_at p);
      more = λ d. comma_list_one of_def_parameters d;
      means = λ d. ap (λ ys. ys ++ tree d ∷ []) (sym nothing);
      goes = λ p. at_same same (keeps {t = read (CommaList def_parameters) (comma_list_at p)}
          (rw (subst (λ (x : At S). starts_param (look_at x.sight).kind ≡ true) same h) refl) (keeps refl stays));
      passes = λ d p c. keeps refl stays;
    }
    next_one (some derivation comma m g) h = record {
      place = λ p. comma_list_more_at of_def_parameters derivation comma (comma_list_at p);
      more = λ d. comma_list_more of_def_parameters derivation comma d;
      means = λ d. ap (λ ys. ys ++ tree d ∷ []) m;
      goes = λ p. after (g p) (keeps (rw h refl) stays);
      passes = λ d p c. keeps refl stays;
    }

    module _ (g : Listed steps a q xs) (h : starts_param (look_at q.sight).kind ≡ true) where
      pub next_fails : {b : At S} {r : Answer} → FailsFrom steps (λ (p : Place Module DefParam). read DefParam p) q b r
          → FailsFrom steps (λ (p : Place Module (OptionalList def_parameters)). read (OptionalList def_parameters) p) a b r
      next_fails f = let i = next_one g h in further i.place i.goes f

      module _ {m : At S} (x : HeldParameter) (d : Found steps (λ (p : Place Module DefParam). read DefParam p) (begin_at q) (IsParam x) q m) where
        one_read : (p : Place Module (OptionalList def_parameters)) → Goes steps (read (OptionalList def_parameters) p) a
            (done ((next_one g h).more d.derivation) (comma_list_at p)) m
        one_read p = let i = next_one g h in after (i.goes p) (after (d.goes (i.place p)) (i.passes d.derivation p m))

        they_mean : tree ((next_one g h).more d.derivation) ≡ xs ++ parameter_of x ∷ []
        they_mean = (next_one g h).means d.derivation ∙ ap (λ y. xs ++ y ∷ []) (sym d.means)

        pub next_wants : FailsFrom steps (λ (p : Place Module (OptionalList def_parameters)). read (OptionalList def_parameters) p) a m memory
        next_wants = wants (λ p. done ((next_one g h).more d.derivation) (comma_list_at p)) one_read

        pub listed_more : {b : At S} {c : Span} → Advances steps m (lexeme tokens.Comma c) b → Listed steps a b (xs ++ parameter_of x ∷ [])
        listed_more {c = c} v = some ((next_one g h).more d.derivation) c they_mean (λ p. after (one_read p) (takes v refl stays))

        pub last_listed : {b : At S} {ys : List (AstParameter no_payload)} → (is (look_at m.sight).kind kinds.Comma ≡ false) × (b ≡ m)
            → ys ≡ xs ++ parameter_of x ∷ [] → FoundOptionalList steps {k = def_parameters} (λ e. ys ≡ tree e) a b
        last_listed j e = record {
          derivation = optional_list_plain ((next_one g h).more d.derivation);
          means = e ∙ sym they_mean;
          goes = λ p. at_same j.1 (after (one_read p) (keeps (rw j.0 refl) stays));
        }

  pub all_listed : {a b : At S} {xs : List (AstParameter no_payload)} → Listed steps a b xs → starts_param (look_at b.sight).kind ≡ false
      → FoundOptionalList steps {k = def_parameters} (λ e. xs ≡ tree e) a b
  all_listed (none_yet same nothing) h = record {
    derivation = optional_list_none;
    means = nothing;
    goes = λ p. at_same same (keeps (rw (subst (λ (x : At S). starts_param (look_at x.sight).kind ≡ false) same h) refl) stays);
  }
  all_listed (some derivation comma m g) h = record {
    derivation = optional_list_comma derivation comma;
    means = sym m;
    goes = λ p. after (g p) (keeps (rw h refl) stays);
  }
