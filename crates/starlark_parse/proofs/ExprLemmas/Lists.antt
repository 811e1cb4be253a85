-- The machine's paths through lists with commas, in the form in which the code's answers cite them.
use Rattle.std.proofs.Common.{◌≡◌, ℕ, true, false, List, [], ◌∷◌, ◌++◌, Option, refl, sym, ◌∙◌, ap, subst, None, append-nil, append_assoc}
use Rattle.std.specs.Bool.{⊤}
use Rattle.starlark_lexer.specs.Tokens.{Span, Lexeme, lexeme}
use Rattle.starlark_lexer.specs.Tokens as tokens
use Rattle.starlark_lexer.specs.Lexer.{CodeLexeme}
use Rattle.starlark_lexer.specs.declared.dialect.DialectTypes.{DialectTypes}
use Rattle.starlark_tree.specs.Ast.{Expression, no_payload}
use Rattle.starlark_parse_held.specs.Held.{expressions_in, pair_of, entries_in}
use Rattle.starlark_spec.specs.Trees.{Pair, tuple, ElementTree, element_tree, tree, begin_of}
use Rattle.starlark_parse_held.specs.declared.expression.HeldExpr.{HeldExpr}
use Rattle.starlark_parse_held.specs.declared.expression.HeldExprs.{HeldExprs}
use Rattle.starlark_parse_held.specs.declared.argument.HeldEntries.{HeldEntries}
use Rattle.starlark_parse_cursor.proofs.Looks.{same_spans}
use Rattle.starlark_lexer.specs.declared.kind.Kind.TheVariants as kinds
use Rattle.starlark_parse.specs.declared.expr.listed.Listed.{Listed}
use Rattle.starlark_parse.specs.declared.expr.listed.Listed.TheVariants as listed
use Rattle.starlark_parse.specs.declared.expr.listed.ListedEntries.{ListedEntries}
use Rattle.starlark_parse.specs.declared.expr.listed.ListedEntries.TheVariants as listed_entry
use Rattle.starlark_spec.specs.Answers.{Answer}
use Rattle.starlark_spec.specs.Answers.Answer.{memory}
use Rattle.starlark_spec.specs.Grammar.{Nonterminal, ElementKind, ElementOf, Derivation, yield_of}
use Rattle.starlark_spec.specs.Grammar.ElementKind.{elements, entries}
use Rattle.starlark_spec.specs.Grammar.ElementOf.{of_elements, of_arguments, of_entries, of_lambda_parameters, of_variables, of_symbols, of_def_parameters}
use Rattle.starlark_spec.specs.Grammar.Nonterminal.{Module, Test, Entry, OptionalList, CommaList}
use Rattle.starlark_spec.specs.Grammar.Derivation.{optional_list_none, optional_list_plain, optional_list_comma, comma_list_one, comma_list_more}
use Rattle.starlark_lexer.specs.Kinds.{is}
use Rattle.starlark_spec.specs.Machine.States.{Place, Place.comma_list_at, Place.comma_list_one_at, Place.comma_list_more_at}
use Rattle.starlark_spec.specs.Machine.States.State.{read, done, after_comma}
use Rattle.starlark_spec.specs.Machine.Sight.{Look, look_at}
use Rattle.starlark_spec.specs.Machine.Firsts.{starts_element}
use Rattle.starlark_spec.specs.Machine.Moves.{Keep, move}
use Rattle.starlark_spec.specs.Machine.Faults.{Moves, node_fault, in_time, judged, ruled}
use Rattle.starlark_parse_cursor.specs.Reading.{At, Advances, begin_at}
use Rattle.starlark_parse_cursor.specs.Contract.{Goes, Goes.stays, Goes.keeps, Goes.takes, FailsFrom, Found, FoundOptionalList}
use Rattle.starlark_parse.specs.Expr.Expressions.{IsTest, IsEntry, IsOneTest, IsOneEntry, AreTests, AreEntries, elements_in, listed_entries}
use Rattle.starlark_parse_cursor.proofs.Paths.{after, further, at_same, wants}
use Rattle.starlark_parse.proofs.ExprLemmas.Rows.{are_tuple}

-- items were read, with a comma after each
pub record Gathers {S : Type 0} (steps : S → Option CodeLexeme → S → Type 0) (k : ElementKind) (a b : At S) (xs : List (ElementTree k)) : Type 0 where
  pub derivation : Derivation (CommaList k)
  pub comma : Span
  pub means : tree derivation ≡ xs
  pub begin_is : (rest : List Lexeme) → begin_of (yield_of derivation rest) ≡ begin_at a
  pub end_is : b.end ≡ comma.end
  pub goes : (p : Place Module (OptionalList k)) → Goes steps (read (OptionalList k) p) a (after_comma derivation comma p) b

-- the same, or none was read yet
pub data Given {S : Type 0} (steps : S → Option CodeLexeme → S → Type 0) (k : ElementKind) (a b : At S) (xs : List (ElementTree k)) : Type 0 where
  none_yet : b ≡ a → xs ≡ [] → Given steps k a b xs
  some : Gathers steps k a b xs → Given steps k a b xs

-- the same if the items are added to others
pub record Added {S : Type 0} (steps : S → Option CodeLexeme → S → Type 0) (k : ElementKind) (a b : At S) (old now : List (ElementTree k)) : Type 0 where
  pub items : List (ElementTree k)
  pub given : Given steps k a b items
  pub adds : now ≡ old ++ items

to_first : {k : ElementKind} {n : Nonterminal} (u : ElementOf k n) (p : Place Module (CommaList k)) (y : DialectTypes) (l : Look)
    → ruled y (read (CommaList k) p) l ≡ Moves (Keep (read n (comma_list_one_at u p)))
to_first of_elements p y l = refl
to_first of_arguments p y l = refl
to_first of_entries p y l = refl
to_first of_lambda_parameters p y l = refl
to_first of_variables p y l = refl
to_first of_symbols p y l = refl
to_first of_def_parameters p y l = refl

to_next : {k : ElementKind} {n : Nonterminal} (u : ElementOf k n) (d : Derivation (CommaList k)) (c : Span) (p : Place Module (OptionalList k))
    (y : DialectTypes) (l : Look) → starts_element k l.kind ≡ true
    → ruled y (after_comma d c p) l ≡ Moves (Keep (read n (comma_list_more_at u d c (comma_list_at p))))
to_next of_elements d c p y l h = rw h refl
to_next of_arguments d c p y l h = rw h refl
to_next of_entries d c p y l h = rw h refl
to_next of_lambda_parameters d c p y l h = rw h refl
to_next of_variables d c p y l h = rw h refl
to_next of_symbols d c p y l h = rw h refl
to_next of_def_parameters d c p y l h = rw h refl

-- items that no rule is about
abbrev pub IsFree : {k : ElementKind} {n : Nonterminal} → ElementOf k n → Type 0
IsFree of_symbols = ⊥
IsFree u = ⊤

free : {k : ElementKind} {n : Nonterminal} (u : ElementOf k n) → IsFree u → (y : DialectTypes) (d : Derivation n) (l : Look) → node_fault y n d l ≡ None
free of_elements f y d l = refl
free of_arguments f y d l = refl
free of_entries f y d l = refl
free of_lambda_parameters f y d l = refl
free of_variables f y d l = refl
free of_def_parameters f y d l = refl
free of_symbols f y d l = absurd f

-- an item is due after those
record Next {S : Type 0} (steps : S → Option CodeLexeme → S → Type 0) {k : ElementKind} {n : Nonterminal} (u : ElementOf k n) (a b : At S)
    (xs : List (ElementTree k)) : Type 0 where
  place : Place Module (OptionalList k) → Place Module n
  more : Derivation n → Derivation (CommaList k)
  means : (d : Derivation n) → tree (more d) ≡ xs ++ element_tree u (tree d) ∷ []
  begin_is : (d : Derivation n) → ((rest : List Lexeme) → begin_of (yield_of d rest) ≡ begin_at b) → (rest : List Lexeme) → begin_of (yield_of (more d) rest)
      ≡ begin_at a
  goes : (p : Place Module (OptionalList k)) → Goes steps (read (OptionalList k) p) a (read n (place p)) b
  passes : (d : Derivation n) (p : Place Module (OptionalList k)) (y : DialectTypes) (l : Look) → ruled y (done d (place p)) l
      ≡ Moves (Keep (done (more d) (comma_list_at p)))

module _ {S : Type 0} {steps : S → Option CodeLexeme → S → Type 0} where
  pub none_given : {k : ElementKind} (a : At S) → Given steps k a a []
  none_given a = none_yet refl refl

  pub given_as : {k : ElementKind} {a b : At S} {xs ys : List (ElementTree k)} → Given steps k a b xs → ys ≡ xs → Given steps k a b ys
  given_as {k = k} {a = a} {b = b} g e = subst (λ x. Given steps k a b x) (sym e) g

  pub gathered : {k : ElementKind} {a b : At S} {xs ys : List (ElementTree k)} → Gathers steps k a b xs → ys ≡ xs → Gathers steps k a b ys
  gathered {k = k} {a = a} {b = b} g e = subst (λ x. Gathers steps k a b x) (sym e) g

  module _ {k : ElementKind} {n : Nonterminal} (u : ElementOf k n) (f : IsFree u) {a q : At S} {xs : List (ElementTree k)} where
    next_item : Given steps k a q xs → starts_element k (look_at q.sight).kind ≡ true → Next steps u a q xs
    next_item (none_yet same nothing) h = record {
      place = λ p. comma_list_one_at u (comma_list_at p);
      more = λ d. comma_list_one u d;
      means = λ d. ap (λ ys. ys ++ element_tree u (tree d) ∷ []) (sym nothing);
      begin_is = λ d b rest. b rest ∙ ap begin_at same;
      goes = λ p. subst (λ x. Goes steps (read (OptionalList k) p) a (read n (comma_list_one_at u (comma_list_at p))) x) (sym same)
          (keeps {t = read (CommaList k) (comma_list_at p)} (rw (subst (λ (x : At S). starts_element k (look_at x.sight).kind ≡ true) same h) refl)
          (keeps (to_first u (comma_list_at p) a.types (look_at a.sight)) stays));
      passes = λ d p y l. ap (λ o. judged (in_time l.no_memory o) (move (done d (comma_list_one_at u (comma_list_at p))) l)) (free u f y d l);
    }
    next_item (some g) h = record {
      place = λ p. comma_list_more_at u g.derivation g.comma (comma_list_at p);
      more = λ d. comma_list_more u g.derivation g.comma d;
      means = λ d. ap (λ ys. ys ++ element_tree u (tree d) ∷ []) g.means;
      begin_is = λ d b rest. g.begin_is _;
      goes = λ p. after (g.goes p) (keeps (to_next u g.derivation g.comma p q.types (look_at q.sight) h) stays);
      passes = λ d p y l. ap (λ o. judged (in_time l.no_memory o) (move (done d (comma_list_more_at u g.derivation g.comma (comma_list_at p))) l))
          (free u f y d l);
    }

    module _ (g : Given steps k a q xs) (h : starts_element k (look_at q.sight).kind ≡ true) where
      pub next_fails : {b : At S} {r : Answer} → FailsFrom steps (λ (p : Place Module n). read n p) q b r
          → FailsFrom steps (λ (p : Place Module (OptionalList k)). read (OptionalList k) p) a b r
      next_fails k = let i = next_item g h in further i.place i.goes k

      module _ {m : At S} {Means : Derivation n → Type 0} (x : ElementTree k) (d : Found steps (λ (p : Place Module n). read n p) (begin_at q) Means q m)
          (same : x ≡ element_tree u (tree d.derivation)) where
        item_read : (p : Place Module (OptionalList k)) → Goes steps (read (OptionalList k) p) a (done ((next_item g h).more d.derivation) (comma_list_at p)) m
        item_read p = let i = next_item g h in after (i.goes p) (after (d.goes (i.place p)) (keeps (i.passes d.derivation p m.types (look_at m.sight)) stays))

        pub item_wants : FailsFrom steps (λ (p : Place Module (OptionalList k)). read (OptionalList k) p) a m memory
        item_wants = wants (λ p. done ((next_item g h).more d.derivation) (comma_list_at p)) item_read

        items_mean : tree ((next_item g h).more d.derivation) ≡ xs ++ x ∷ []
        items_mean = (next_item g h).means d.derivation ∙ ap (λ y. xs ++ y ∷ []) (sym same)

        pub gathers_more : {b : At S} {c : Span} → Advances steps m (lexeme tokens.Comma c) b → Gathers steps k a b (xs ++ x ∷ [])
        gathers_more {c = c} v = record {
          derivation = (next_item g h).more d.derivation;
          comma = c;
          means = items_mean;
          begin_is = (next_item g h).begin_is d.derivation d.begin_is;
          end_is = v.end_is;
          goes = λ p. after (item_read p) (takes v refl stays);
        }

        pub given_more : {b : At S} {c : Span} → Advances steps m (lexeme tokens.Comma c) b → Given steps k a b (xs ++ x ∷ [])
        given_more v = some (gathers_more v)

        pub last_given : {b : At S} {ys : List (ElementTree k)} → (is (look_at m.sight).kind kinds.Comma ≡ false) × (b ≡ m) → ys ≡ xs ++ x ∷ []
            → FoundOptionalList steps (λ e. ys ≡ tree e) a b
        last_given j e = record {
          derivation = optional_list_plain ((next_item g h).more d.derivation);
          means = e ∙ sym items_mean;
          goes = λ p. subst (λ y. Goes steps (read (OptionalList k) p) a (done (optional_list_plain ((next_item g h).more d.derivation)) p) y) (sym j.1)
              (after (item_read p) (keeps (rw j.0 refl) stays));
        }

  pub all_given : {k : ElementKind} {a b : At S} {xs : List (ElementTree k)} → Given steps k a b xs → starts_element k (look_at b.sight).kind ≡ false
      → FoundOptionalList steps (λ e. xs ≡ tree e) a b
  all_given {k = k} {a = a} (none_yet same nothing) h = record {
    derivation = optional_list_none;
    means = nothing;
    goes = λ p. subst (λ x. Goes steps (read (OptionalList k) p) a (done optional_list_none p) x) (sym same)
        (keeps (rw (subst (λ (x : At S). starts_element k (look_at x.sight).kind ≡ false) same h) refl) stays);
  }
  all_given (some g) h = record {
    derivation = optional_list_comma g.derivation g.comma;
    means = sym g.means;
    goes = λ p. after (g.goes p) (keeps (rw h refl) stays);
  }

  -- ---- items that are added to others

  pub none_added : {k : ElementKind} (a : At S) (old : List (ElementTree k)) → Added steps k a a old old
  none_added a old = record { items = []; given = none_given a; adds = sym (append-nil old) }

  pub added_to_none : {k : ElementKind} {a b : At S} {old now : List (ElementTree k)} → old ≡ []
      → FoundOptionalList steps (λ (e : Derivation (OptionalList k)). now ≡ old ++ tree e) a b
      → FoundOptionalList steps (λ (e : Derivation (OptionalList k)). now ≡ tree e) a b
  added_to_none h d = record { derivation = d.derivation; means = d.means ∙ ap (λ xs. xs ++ tree d.derivation) h; goes = d.goes }

  module _ {k : ElementKind} {a q : At S} {old now : List (ElementTree k)} (g : Added steps k a q old now) where
    pub all_added : starts_element k (look_at q.sight).kind ≡ false → FoundOptionalList steps (λ (e : Derivation (OptionalList k)). now ≡ old ++ tree e) a q
    all_added h = let d = all_given g.given h in record { derivation = d.derivation; means = g.adds ∙ ap (λ xs. old ++ xs) d.means; goes = d.goes }

    module _ {n : Nonterminal} (u : ElementOf k n) (f : IsFree u) (h : starts_element k (look_at q.sight).kind ≡ true) where
      pub added_fails : {b : At S} {r : Answer} → FailsFrom steps (λ (p : Place Module n). read n p) q b r
          → FailsFrom steps (λ (p : Place Module (OptionalList k)). read (OptionalList k) p) a b r
      added_fails e = next_fails u f g.given h e

      module _ {m : At S} {new : List (ElementTree k)} (d : Found steps (λ (p : Place Module n). read n p) (begin_at q) (λ (x : Derivation n). new ≡ now
          ++ element_tree u (tree x) ∷ []) q m) where
        items_added : new ≡ old ++ (g.items ++ element_tree u (tree d.derivation) ∷ [])
        items_added = d.means ∙ ap (λ xs. xs ++ element_tree u (tree d.derivation) ∷ []) g.adds
            ∙ append_assoc old g.items (element_tree u (tree d.derivation) ∷ [])

        pub more_added : {b : At S} {c : Span} → Advances steps m (lexeme tokens.Comma c) b → Added steps k a b old new
        more_added v = record {
          items = g.items ++ element_tree u (tree d.derivation) ∷ [];
          given = given_more u f g.given h (element_tree u (tree d.derivation)) d refl v;
          adds = items_added;
        }

        pub last_added : {b : At S} → (is (look_at m.sight).kind kinds.Comma ≡ false) × (b ≡ m)
            → FoundOptionalList steps (λ (e : Derivation (OptionalList k)). new ≡ old ++ tree e) a b
        last_added j = let l = last_given u f g.given h (element_tree u (tree d.derivation)) d refl j refl in
            record { derivation = l.derivation; means = items_added ∙ ap (λ xs. old ++ xs) l.means; goes = l.goes }

  -- ---- expressions

  pub nothing_found : {a : At S} → starts_element elements (look_at a.sight).kind ≡ false
      → FoundOptionalList steps (AreTests (begin_at a) a.end listed.Nothing) a a
  nothing_found h = record { derivation = optional_list_none; means = refl; goes = λ p. keeps (rw h refl) stays }

  module _ {a : At S} (h : starts_element elements (look_at a.sight).kind ≡ true) where
    pub first_fails : {b : At S} {r : Answer} → FailsFrom steps (λ (p : Place Module Test). read Test p) a b r
        → FailsFrom steps (λ (p : Place Module (OptionalList elements)). read (OptionalList elements) p) a b r
    first_fails f = next_fails of_elements tt (none_given a) h f

    module _ {q : At S} (e : HeldExpr) (d : Found steps (λ (p : Place Module Test). read Test p) (begin_at a) (IsTest e) a q) where
      pub one_found : {b : At S} → (is (look_at q.sight).kind kinds.Comma ≡ false) × (b ≡ q)
          → FoundOptionalList steps (AreTests (begin_at a) b.end (listed.One e)) a b
      one_found j = record {
        derivation = optional_list_plain (comma_list_one of_elements d.derivation);
        means = (d.derivation, refl, d.means);
        goes = λ p. subst (λ x. Goes steps (read (OptionalList elements) p) a (done (optional_list_plain (comma_list_one of_elements d.derivation)) p) x)
            (sym j.1)
            (keeps {t = read (CommaList elements) (comma_list_at p)} (rw h refl)
            (keeps refl (after (d.goes (comma_list_one_at of_elements (comma_list_at p))) (keeps refl (keeps (rw j.0 refl) stays)))));
      }

  -- memory ran out after a comma
  pub comma_wants : {k : ElementKind} {a b : At S} {xs : List (ElementTree k)} → Gathers steps k a b xs
      → FailsFrom steps (λ (p : Place Module (OptionalList k)). read (OptionalList k) p) a b memory
  comma_wants g = wants (λ p. after_comma g.derivation g.comma p) g.goes

  module _ {a q : At S} {es : List (Expression no_payload)} (g : Gathers steps elements a q es) where
    pub many_found : {m b : At S} (v : HeldExprs) → starts_element elements (look_at q.sight).kind ≡ true
        → Found steps (λ (p : Place Module Test). read Test p) (begin_at q) (λ (d : Derivation Test). expressions_in v ≡ es ++ tree d ∷ []) q m
        → (is (look_at m.sight).kind kinds.Comma ≡ false) × (b ≡ m)
        → FoundOptionalList steps (AreTests (begin_at a) b.end (listed.Many v)) a b
    many_found v h d j = record {
      derivation = optional_list_plain (comma_list_more of_elements g.derivation g.comma d.derivation);
      means = (
        ap (λ x. x ++ tree d.derivation ∷ []) g.means ∙ sym d.means,
        refl,
        λ s. are_tuple g.derivation (tree d.derivation) _
            ∙ ap (λ z. tuple z (tree g.derivation ++ tree d.derivation ∷ [])) (same_spans (g.begin_is _) (sym (ap (λ (x : At S). x.end) j.1 ∙ d.end_is _))),
      );
      goes = λ p. subst (λ x. Goes steps (read (OptionalList elements) p) a
          (done (optional_list_plain (comma_list_more of_elements g.derivation g.comma d.derivation)) p) x) (sym j.1)
          (after (g.goes p) (keeps (rw h refl) (after (d.goes (comma_list_more_at of_elements g.derivation g.comma (comma_list_at p)))
          (keeps refl (keeps (rw j.0 refl) stays)))));
    }

  pub comma_found : {a b : At S} (v : HeldExprs) (g : Gathers steps elements a b (expressions_in v)) → starts_element elements (look_at b.sight).kind ≡ false
      → FoundOptionalList steps (AreTests (begin_at a) b.end (listed.Many v)) a b
  comma_found v g h = record {
    derivation = optional_list_comma g.derivation g.comma;
    means = (g.means, refl, λ s. ap (λ z. tuple z (tree g.derivation)) (same_spans (g.begin_is _) (sym g.end_is)));
    goes = λ p. after (g.goes p) (keeps (rw h refl) stays);
  }

pub elements_listed : (begin end : ℕ) (l : Listed) (d : Derivation (OptionalList elements)) → AreTests begin end l d → elements_in l ≡ tree d
elements_listed begin end listed.Nothing d h = sym (ap (λ (x : Derivation (OptionalList elements)). tree x) h)
elements_listed begin end (listed.One e) d h = ap (λ x. x ∷ []) h.2 ∙ ap (λ (x : Derivation (OptionalList elements)). tree x) (sym h.1)
elements_listed begin end (listed.Many es) d h = sym h.0

-- the list is one expression
pub one_listed : {S : Type 0} {steps : S → Option CodeLexeme → S → Type 0} (begin end : ℕ) (l : Listed) {m q : At S} (e : HeldExpr) → l ≡ listed.One e
    → FoundOptionalList steps (AreTests begin end l) m q → FoundOptionalList steps (IsOneTest e) m q
one_listed {steps = steps} begin end l {m = m} {q = q} e same d = subst (λ x. FoundOptionalList steps (AreTests begin end x) m q) same d

-- ---- entries

-- the list is one entry
pub one_entry_listed : {S : Type 0} {steps : S → Option CodeLexeme → S → Type 0} (l : ListedEntries) {m q : At S} (key value : HeldExpr)
    → l ≡ listed_entry.One key value → FoundOptionalList steps (AreEntries l) m q
    → FoundOptionalList steps (IsOneEntry (key, value)) m q
one_entry_listed {steps = steps} l {m = m} {q = q} key value same d = subst (λ x. FoundOptionalList steps (AreEntries x) m q) same d

module _ {S : Type 0} {steps : S → Option CodeLexeme → S → Type 0} {a : At S} where
  pub no_entry : (es : HeldEntries) → starts_element entries (look_at a.sight).kind ≡ false → entries_in es ≡ []
      → FoundOptionalList steps (AreEntries (listed_entry.Many es)) a a
  no_entry es h e = record { derivation = optional_list_none; means = (e, refl); goes = λ p. keeps (rw h refl) stays }

  module _ (h : starts_element entries (look_at a.sight).kind ≡ true) where
    pub first_entry_fails : {b : At S} {r : Answer} → FailsFrom steps (λ (p : Place Module Entry). read Entry p) a b r
        → FailsFrom steps (λ (p : Place Module (OptionalList entries)). read (OptionalList entries) p) a b r
    first_entry_fails f = next_fails of_entries tt (none_given a) h f

    module _ {q : At S} (x : HeldExpr × HeldExpr) (d : Found steps (λ (p : Place Module Entry). read Entry p) (begin_at a) (IsEntry x) a q) where
      pub one_entry : {b : At S} → (is (look_at q.sight).kind kinds.Comma ≡ false) × (b ≡ q)
          → FoundOptionalList steps (AreEntries (listed_entry.One x.0 x.1)) a b
      one_entry j = record {
        derivation = optional_list_plain (comma_list_one of_entries d.derivation);
        means = (d.derivation, refl, d.means);
        goes = λ p. at_same j.1
            (keeps {t = read (CommaList entries) (comma_list_at p)} (rw h refl)
            (keeps refl (after (d.goes (comma_list_one_at of_entries (comma_list_at p))) (keeps refl (keeps (rw j.0 refl) stays)))));
      }

      pub gathers_entry : {b : At S} {c : Span} → Advances steps q (lexeme tokens.Comma c) b → Gathers steps entries a b (pair_of x ∷ [])
      gathers_entry v = gathers_more of_entries tt (none_given a) h (pair_of x) d d.means v

  module _ {q : At S} {xs : List Pair} (g : Gathers steps entries a q xs) where
    pub last_entry : {m b : At S} (es : HeldEntries) (x : HeldExpr × HeldExpr) → starts_element entries (look_at q.sight).kind ≡ true
        → Found steps (λ (p : Place Module Entry). read Entry p) (begin_at q) (IsEntry x) q m → (is (look_at m.sight).kind kinds.Comma ≡ false) × (b ≡ m)
        → entries_in es ≡ xs ++ pair_of x ∷ [] → FoundOptionalList steps (AreEntries (listed_entry.Many es)) a b
    last_entry es x h d j e = record {
      derivation = optional_list_plain (comma_list_more of_entries g.derivation g.comma d.derivation);
      means = (e ∙ ap (λ y. xs ++ y ∷ []) d.means ∙ ap (λ y. y ++ tree d.derivation ∷ []) (sym g.means), refl);
      goes = λ p. at_same j.1
          (after (g.goes p) (keeps (rw h refl) (after (d.goes (comma_list_more_at of_entries g.derivation g.comma (comma_list_at p)))
          (keeps refl (keeps (rw j.0 refl) stays)))));
    }

    pub comma_entries : (es : HeldEntries) → starts_element entries (look_at q.sight).kind ≡ false → entries_in es ≡ xs
        → FoundOptionalList steps (AreEntries (listed_entry.Many es)) a q
    comma_entries es h e = record {
      derivation = optional_list_comma g.derivation g.comma;
      means = (e ∙ sym g.means, refl);
      goes = λ p. after (g.goes p) (keeps (rw h refl) stays);
    }

pub entries_listed : (l : ListedEntries) (d : Derivation (OptionalList entries)) → AreEntries l d → listed_entries l ≡ tree d
entries_listed (listed_entry.One key value) d h = ap (λ x. x ∷ []) h.2 ∙ ap (λ (x : Derivation (OptionalList entries)). tree x) (sym h.1)
entries_listed (listed_entry.Many es) d h = h.0
