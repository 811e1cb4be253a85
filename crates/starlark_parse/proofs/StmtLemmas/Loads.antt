-- The machine's paths through loads, in the form in which the code's answers cite them.
use Rattle.std.proofs.Common.{◌≡◌, true, false, if◌then◌else◌, List, [], ◌∷◌, ◌++◌, length, length-append, arith, Option, Some, None, refl, sym, ◌∙◌, ap, subst}
use Rattle.starlark_lexer.specs.Tokens.{Text, Span, from_to, Lexeme, lexeme}
use Rattle.starlark_lexer.specs.Tokens as tokens
use Rattle.starlark_lexer.specs.Lexer.{CodeLexeme}
use Rattle.starlark_tree.specs.Ast.{Word, LoadArg, no_payload}
use Rattle.starlark_lexer.specs.declared.kind.Kind.{Kind}
use Rattle.starlark_lexer.specs.declared.kind.Kind.TheVariants as kinds
use Rattle.starlark_spec.specs.declared.error.GrammarError.TheVariants.{LoadNameWithoutEqual}
use Rattle.starlark_spec.specs.Faults as rule
use Rattle.starlark_spec.specs.Answers.{Answer}
use Rattle.starlark_spec.specs.Answers.Answer.{memory, broken_rule}
use Rattle.starlark_spec.specs.Grammar.{Derivation}
use Rattle.starlark_spec.specs.Grammar.ElementKind.{symbols}
use Rattle.starlark_spec.specs.Grammar.ElementOf.{of_symbols}
use Rattle.starlark_spec.specs.Grammar.Nonterminal.{Module, Symbols, Sym, OptionalList, CommaList}
use Rattle.starlark_spec.specs.Grammar.Derivation.{symbols_none, symbols_list, sym_same, sym_other, sym_alone, optional_list_none, optional_list_plain}
use Rattle.starlark_spec.specs.Grammar.Derivation.{optional_list_comma, comma_list_one, comma_list_more}
use Rattle.starlark_spec.specs.Trees.{tree, at, element_commas, commas, load_argument, load_arguments}
use Rattle.starlark_lexer.specs.Kinds.{is}
use Rattle.starlark_spec.specs.Machine.States.{Place, Place.symbols_list_at, Place.comma_list_at, Place.comma_list_one_at, Place.comma_list_more_at}
use Rattle.starlark_spec.specs.Machine.States.State.{read, done, after_comma, after_symbol, their_due}
use Rattle.starlark_spec.specs.Machine.Sight.{Look, look_at}
use Rattle.starlark_spec.specs.Machine.Firsts.{starts_symbol}
use Rattle.starlark_spec.specs.Machine.Moves.{Keep, Fail, move_symbol, move_done}
use Rattle.starlark_spec.specs.Machine.Faults.{Moves, sym_fault}
use Rattle.starlark_parse_cursor.specs.Reading.{At, Advances, begin_at, stop_at}
use Rattle.starlark_parse_cursor.specs.Contract.{Goes, Goes.stays, Goes.keeps, Goes.takes, FailsFrom, Found}
use Rattle.starlark_parse_cursor.proofs.Paths.{after, at_same, further, due, wants, begin_seen}
use Rattle.starlark_parse.specs.Stmt.Lines.{FoundSymbols}
use Rattle.starlark_parse.proofs.StmtLemmas.Counted.{commas_counted, last_pushed, more_pushed}
use Rattle.starlark_parse.proofs.StmtLemmas.Rules.{passes, rule_breaks}

-- a symbol: the name that is bound, and the one that is loaded
abbrev pub FoundSymbol : {S : Type 0} → (S → Option CodeLexeme → S → Type 0) → Word × Word → At S → At S → Type 0
FoundSymbol steps names a b = Found steps (λ (p : Place Module Sym). read Sym p) (begin_at a) (λ d. (names ≡ tree d) × (sym_fault d ≡ None)) a b

no_symbol : {b : _} (p : Place b Sym) (x : Lexeme) (k : Kind) → is k kinds.String ≡ false → is k kinds.Identifier ≡ false → move_symbol p x k ≡ Fail
no_symbol p x kinds.String h g = cc
no_symbol p x kinds.Identifier h g = cc
no_symbol p x k h g = refl

-- Symbols were read after the first comma, with a comma after each, or none was read yet.
pub data Symbolled {S : Type 0} (steps : S → Option CodeLexeme → S → Type 0) (m b : At S) (args : List (LoadArg no_payload)) : Type 0 where
  none_yet : b ≡ m → args ≡ [] → Symbolled steps m b args
  some : (derivation : Derivation (CommaList symbols)) (comma : Span) → args ≡ load_arguments (tree derivation) (element_commas derivation ++ comma ∷ [])
      → ((p : Place Module (OptionalList symbols)) → Goes steps (read (OptionalList symbols) p) m (after_comma derivation comma p) b) → Symbolled steps m b args

-- symbols after the first comma
pub record FoundListed {S : Type 0} (steps : S → Option CodeLexeme → S → Type 0) (args : List (LoadArg no_payload)) (m b : At S) : Type 0 where
  pub derivation : Derivation (OptionalList symbols)
  pub means : args ≡ load_arguments (tree derivation) (commas derivation)
  pub goes : (p : Place Module (OptionalList symbols)) → Goes steps (read (OptionalList symbols) p) m (done derivation p) b

-- a symbol is due after those
record Next {S : Type 0} (steps : S → Option CodeLexeme → S → Type 0) (m b : At S) (args : List (LoadArg no_payload)) : Type 0 where
  place : Place Module (OptionalList symbols) → Place Module Sym
  more : Derivation Sym → Derivation (CommaList symbols)
  last : (d : Derivation Sym) → load_arguments (tree (more d)) (element_commas (more d)) ≡ args ++ load_argument (tree d) None ∷ []
  with_comma : (d : Derivation Sym) (c : Span) → load_arguments (tree (more d)) (element_commas (more d) ++ c ∷ []) ≡ args ++ load_argument (tree d)
      (Some c) ∷ []
  passes : (d : Derivation Sym) (p : Place Module (OptionalList symbols)) (l : Look) → move_done d (place p) l ≡ Keep (done (more d) (comma_list_at p))
  goes : (p : Place Module (OptionalList symbols)) → Goes steps (read (OptionalList symbols) p) m (read Sym (place p)) b

counted : (d : Derivation (CommaList symbols)) (c : Span) → length (element_commas d ++ c ∷ []) ≡ length (tree d)
counted d c = omega (arith, commas_counted d, length-append (element_commas d) (c ∷ []))

module _ {S : Type 0} {steps : S → Option CodeLexeme → S → Type 0} where
  -- ---- a symbol

  pub same_found : {a b : At S} {text : Text} {s : Span} {names : Word × Word} → Advances steps a (lexeme (tokens.String text) s) b
      → names ≡ (at text s, at text s) → FoundSymbol steps names a b
  same_found {text = text} {s = s} v h = record {
    derivation = sym_same text s;
    means = (h, refl);
    begin_is = λ rest. begin_seen v;
    end_is = λ before. v.end_is;
    goes = λ p. takes v refl stays;
  }

  -- no memory for another copy of the text
  pub same_wants : {a b : At S} {text : Text} {s : Span} → Advances steps a (lexeme (tokens.String text) s) b
      → FailsFrom steps (λ (p : Place Module Sym). read Sym p) a b memory
  same_wants {text = text} {s = s} v = wants (λ p. done (sym_same text s) p) (λ p. takes v refl stays)

  pub symbol_absent : {a b : At S} {r : Answer} → (is (look_at a.sight).kind kinds.String ≡ false) → (is (look_at a.sight).kind kinds.Identifier ≡ false)
      × (r ≡ stop_at b) × (b ≡ a) → FailsFrom steps (λ (p : Place Module Sym). read Sym p) a b r
  symbol_absent {a = a} h k = due (λ p. read Sym p) k.2 k.1 (λ p. stays)
      (λ p. ap (λ m. Moves m) (no_symbol p (look_at a.sight).first (look_at a.sight).kind h k.0))

  module _ {a m : At S} {text : Text} {i : Span} (v : Advances steps a (lexeme (tokens.Identifier text) i) m) where
    to_name : (p : Place Module Sym) → Goes steps (read Sym p) a (after_symbol text i p) m
    to_name p = takes v refl stays

    pub alone_breaks : {b : At S} {r : Answer} → (is (look_at m.sight).kind kinds.Equal ≡ false) × (b ≡ m)
        → r ≡ (if (look_at b.sight).no_memory then memory else broken_rule (rule.grammar_fault LoadNameWithoutEqual i))
        → FailsFrom steps (λ (p : Place Module Sym). read Sym p) a b r
    alone_breaks {r = r} h k =
        subst (λ x. FailsFrom steps (λ (p : Place Module Sym). read Sym p) a x r) (sym h.1)
        (rule_breaks (rule.grammar_fault LoadNameWithoutEqual i) (sym_alone text i) (λ p. p)
        (k ∙ ap (λ (x : At S). if (look_at x.sight).no_memory then memory else broken_rule (rule.grammar_fault LoadNameWithoutEqual i)) h.1)
        refl (λ p. after (to_name p) (keeps (rw h.0 refl) stays)))

    module _ {q : At S} {e : Span} (w : Advances steps m (lexeme tokens.Equal e) q) where
      to_their : (p : Place Module Sym) → Goes steps (read Sym p) a (their_due text i e p) q
      to_their p = after (to_name p) (takes w refl stays)

      pub their_absent : {b : At S} {r : Answer} → (is (look_at q.sight).kind kinds.String ≡ false) × (r ≡ stop_at b) × (b ≡ q)
          → FailsFrom steps (λ (p : Place Module Sym). read Sym p) a b r
      their_absent h = due (λ p. their_due text i e p) h.2 h.1 to_their (λ p. rw h.0 refl)

      pub other_found : {b : At S} {their : Text} {s : Span} {names : Word × Word} → Advances steps q (lexeme (tokens.String their) s) b
          → names ≡ (at text i, at their s) → FoundSymbol steps names a b
      other_found {their = their} {s = s} x h = record {
        derivation = sym_other text i e their s;
        means = (h, refl);
        begin_is = λ rest. begin_seen v;
        end_is = λ before. x.end_is;
        goes = λ p. after (to_their p) (takes x refl stays);
      }

  -- ---- symbols

  -- the same for equal values
  pub symbolled_as : {m b : At S} {args all : List (LoadArg no_payload)} → Symbolled steps m b args → all ≡ args → Symbolled steps m b all
  symbolled_as {m = m} {b = b} g h = subst (λ x. Symbolled steps m b x) (sym h) g

  next_symbol : {m q : At S} {args : List (LoadArg no_payload)} → Symbolled steps m q args → starts_symbol (look_at q.sight).kind ≡ true → Next steps m q args
  next_symbol {m = m} (none_yet same nothing) h = record {
    place = λ p. comma_list_one_at of_symbols (comma_list_at p);
    more = λ d. comma_list_one of_symbols d;
    last = λ d. ap (λ x. x ++ load_argument (tree d) None ∷ []) (sym nothing);
    with_comma = λ d c. ap (λ x. x ++ load_argument (tree d) (Some c) ∷ []) (sym nothing);
    goes = λ p. subst (λ x. Goes steps (read (OptionalList symbols) p) m (read Sym (comma_list_one_at of_symbols (comma_list_at p))) x) (sym same)
        (keeps {t = read (CommaList symbols) (comma_list_at p)} (rw (subst (λ (x : At S). starts_symbol (look_at x.sight).kind ≡ true) same h) refl)
        (keeps refl stays));
    passes = λ d p l. refl;
  }
  next_symbol (some derivation comma is path) h = record {
    place = λ p. comma_list_more_at of_symbols derivation comma (comma_list_at p);
    more = λ d. comma_list_more of_symbols derivation comma d;
    last = λ d. last_pushed (tree derivation) (element_commas derivation ++ comma ∷ []) (tree d) (counted derivation comma)
        ∙ ap (λ x. x ++ load_argument (tree d) None ∷ []) (sym is);
    with_comma = λ d c. more_pushed (tree derivation) (element_commas derivation ++ comma ∷ []) (tree d) c (counted derivation comma)
        ∙ ap (λ x. x ++ load_argument (tree d) (Some c) ∷ []) (sym is);
    goes = λ p. after (path p) (keeps (rw h refl) stays);
    passes = λ d p l. refl;
  }

  module _ {m q : At S} {args : List (LoadArg no_payload)} (g : Symbolled steps m q args) (h : starts_symbol (look_at q.sight).kind ≡ true) where
    pub symbol_fails : {b : At S} {r : Answer} → FailsFrom steps (λ (p : Place Module Sym). read Sym p) q b r
        → FailsFrom steps (λ (p : Place Module (OptionalList symbols)). read (OptionalList symbols) p) m b r
    symbol_fails f = let i = next_symbol g h in further i.place i.goes f

    module _ {n : At S} {names : Word × Word} (d : FoundSymbol steps names q n) where
      symbol_read : (p : Place Module (OptionalList symbols)) → Goes steps (read (OptionalList symbols) p) m
          (done ((next_symbol g h).more d.derivation) (comma_list_at p)) n
      symbol_read p = let i = next_symbol g h in after (i.goes p)
          (after (d.goes (i.place p)) (passes d.means.1 (i.passes d.derivation p (look_at n.sight)) stays))

      -- the symbols with this one, and no memory to hold it
      pub symbol_wants : {b : At S} → b ≡ n → FailsFrom steps (λ (p : Place Module (OptionalList symbols)). read (OptionalList symbols) p) m b memory
      symbol_wants e = wants (λ p. done ((next_symbol g h).more d.derivation) (comma_list_at p)) (λ p. at_same e (symbol_read p))

      pub symbols_more : {b : At S} {c : Span} {all : List (LoadArg no_payload)} → Advances steps n (lexeme tokens.Comma c) b
          → all ≡ args ++ load_argument names (Some c) ∷ [] → Symbolled steps m b all
      symbols_more {c = c} v e = let i = next_symbol g h in
          some (i.more d.derivation) c (e ∙ ap (λ x. args ++ load_argument x (Some c) ∷ []) d.means.0 ∙ sym (i.with_comma d.derivation c))
          (λ p. after (symbol_read p) (takes v refl stays))

      -- a symbol with a comma after it, and no memory to hold it
      pub comma_wants : {b : At S} {c : Span} → Advances steps n (lexeme tokens.Comma c) b
          → FailsFrom steps (λ (p : Place Module (OptionalList symbols)). read (OptionalList symbols) p) m b memory
      comma_wants {c = c} v = let i = next_symbol g h in wants (λ p. after_comma (i.more d.derivation) c p) (λ p. after (symbol_read p) (takes v refl stays))

      pub symbols_last : {b : At S} {all : List (LoadArg no_payload)} → (is (look_at n.sight).kind kinds.Comma ≡ false) × (b ≡ n)
          → all ≡ args ++ load_argument names None ∷ [] → FoundListed steps all m b
      symbols_last j e = let i = next_symbol g h in record {
        derivation = optional_list_plain (i.more d.derivation);
        means = e ∙ ap (λ x. args ++ load_argument x None ∷ []) d.means.0 ∙ sym (i.last d.derivation);
        goes = λ p. subst (λ y. Goes steps (read (OptionalList symbols) p) m (done (optional_list_plain (i.more d.derivation)) p) y) (sym j.1)
            (after (symbol_read p) (keeps (rw j.0 refl) stays));
      }

  pub symbols_all : {m b : At S} {args : List (LoadArg no_payload)} → Symbolled steps m b args → starts_symbol (look_at b.sight).kind ≡ false
      → FoundListed steps args m b
  symbols_all {m = m} (none_yet same nothing) h = record {
    derivation = optional_list_none;
    means = nothing;
    goes = λ p. subst (λ x. Goes steps (read (OptionalList symbols) p) m (done optional_list_none p) x) (sym same)
        (keeps (rw (subst (λ (x : At S). starts_symbol (look_at x.sight).kind ≡ false) same h) refl) stays);
  }
  symbols_all (some derivation comma is path) h = record {
    derivation = optional_list_comma derivation comma;
    means = is;
    goes = λ p. after (path p) (keeps (rw h refl) stays);
  }

  -- ---- what is between the module's text and `)`

  pub no_symbols_found : {a b : At S} {args : List (LoadArg no_payload)} → (is (look_at a.sight).kind kinds.Comma ≡ false) × (b ≡ a) → args ≡ []
      → FoundSymbols steps args a b
  no_symbols_found {a = a} h k = record {
    derivation = symbols_none;
    means = k;
    goes = λ p. subst (λ x. Goes steps (read Symbols p) a (done symbols_none p) x) (sym h.1) (keeps (rw h.0 refl) stays);
  }

  module _ {a m : At S} {c : Span} (v : Advances steps a (lexeme tokens.Comma c) m) where
    pub symbols_fail : {b : At S} {r : Answer} → FailsFrom steps (λ (p : Place Module (OptionalList symbols)). read (OptionalList symbols) p) m b r
        → FailsFrom steps (λ (p : Place Module Symbols). read Symbols p) a b r
    symbols_fail f = further (λ p. symbols_list_at c p) (λ p. takes v refl stays) f

    pub symbols_found : {b : At S} {args : List (LoadArg no_payload)} → FoundListed steps args m b → FoundSymbols steps args a b
    symbols_found d = record {
      derivation = symbols_list c d.derivation;
      means = d.means;
      goes = λ p. takes v refl (after (d.goes (symbols_list_at c p)) (keeps refl stays));
    }
