-- The source of a module that keeps every rule derives a module that keeps every rule, with the same tree apart from spans.
use Rattle.std.proofs.Common.{◌≡◌, ℕ, ◌^◌, ◌-◌, ◌<◌, List as Seq, [], length, map, IsUtf8, Ok, refl, sym, ap, ◌∙◌, subst, arith}
use Rattle.starlark_lexer.specs.Tokens.{Text, Lexeme}
use Rattle.starlark_lexer.specs.Lexemes.{lexemes}
use Rattle.starlark_lexer.proofs.TokenTexts.GivenTokens.{Rereads, AllAgain, lexemes_alone}
use Rattle.starlark_lexer.proofs.TokenTexts.StringValues.{utf8_bytes}
use Rattle.starlark_lexer.specs.declared.dialect.Dialect.{Dialect}
use Rattle.starlark_tree.specs.Ast.{no_payload, Statement}
use Rattle.starlark_spec.specs.Items.{Items, items, at_end}
use Rattle.starlark_spec.specs.Grammar.{Derivation, right_side, yield_of}
use Rattle.starlark_spec.specs.Grammar.Nonterminal.{Module}
use Rattle.starlark_spec.specs.Trees.{module_tree}
use Rattle.starlark_spec.specs.Answers.{IsModule, KeepsRules}
use Rattle.starlark_spec.specs.ByNodes.{NoneBreaks, RulesAreKeptByNodes}
use Rattle.starlark_validate.specs.Faults.{faults, faults_in}
use Rattle.starlark_validate.specs.Answers.{KeepsEveryRule, IsValidModule}
use Rattle.starlark_source.specs.Lines.{module_source, source_of}
use Rattle.starlark_source.specs.Parsed.{ParsesAs}
use Rattle.starlark_source.specs.Unspanned.{unspanned_statement}
use Rattle.starlark_source.proofs.Spans.Items.{items_of_yield}
use Rattle.starlark_source.proofs.RoundTrip.Derivations.{Returns, source_returns}
use Rattle.starlark_source.proofs.RoundTrip.TreeFaults.{faultless_too}
use Rattle.starlark_source.proofs.RoundTrip.TypeNotes.{notes, Kept, kept_so, statement_notes, module_notes, notes_placed}
use Rattle.starlark_source.proofs.RoundTrip.Nodes.{AreTypes, kept_by, types_by, none_breaks, types_placed, types_there}
use Rattle.starlark_source.proofs.RoundTrip.ValidTokens.{items_again, written, loads_name, said_so}
use Rattle.starlark_source.proofs.ReadBack.Orderly.{parsed_is_orderly}
use Rattle.starlark_source.proofs.Sources.Pieces.{Each}
use Rattle.starlark_source.proofs.Sources.Derivations.{module_said}
use Rattle.starlark_source.proofs.Sources.UnspannedStatements.{same_source}

-- the faults of a module are those of its tree (starlark_validate)
abbrev pub SameFaults : Type 0
SameFaults = (dialect : Dialect) (items : Items) (d : Derivation Module) → IsModule items d → KeepsRules dialect.enable_types items → faults dialect d
    ≡ faults_in dialect (module_tree d)

-- a text derives a module that keeps every rule, with this tree apart from spans
pub record ComesBack (dialect : Dialect) (m : Statement no_payload) (text : Text) : Type 0 where
  pub derivation : Derivation Module
  pub keeps : KeepsEveryRule dialect (items (lexemes text)) derivation
  pub looks : unspanned_statement (module_tree derivation) ≡ unspanned_statement m

-- if trees are equal apart from spans, the types of both are types or neither's are
types_too : (dialect : Dialect) (s u : Statement no_payload) → unspanned_statement s ≡ unspanned_statement u
    → AreTypes dialect.enable_types (statement_notes s)
    → AreTypes dialect.enable_types (statement_notes u)
types_too dialect s u same h =
    let types = dialect.enable_types in
    types_there types (statement_notes u)
    (subst (λ es. AreTypes types es) (sym (notes_placed s) ∙ ap (λ x. statement_notes x) same ∙ notes_placed u) (types_placed types (statement_notes s) h))

module _ (by_nodes : RulesAreKeptByNodes) (same_faults : SameFaults) (dialect : Dialect) where
  again : (its : Items) (d : Derivation Module) → KeepsEveryRule dialect its d → (text : Text) → Returns (module_tree d) text
      → ComesBack dialect (module_tree d) text
  again its d k text r =
      let types = dialect.enable_types in
      let none : NoneBreaks types its.tokens d = (by_nodes types its d k.derived).0 k.while_read in
      let kept : Kept (right_side d) = kept_by types its.tokens d k.derived.derives none in
      let e : Derivation Module = r.derivation in
      let kept_there : Kept (right_side e) = kept_so (right_side e) r.fine in
      let typed : AreTypes types (statement_notes (module_tree d)) =
      subst (λ es. AreTypes types es) (module_notes d kept) (types_by types its.tokens d k.derived.derives none) in
      let typed_there : AreTypes types (notes (right_side e)) =
      subst (λ es. AreTypes types es) (sym (module_notes e kept_there)) (types_too dialect (module_tree d) (module_tree e) (sym r.looks) typed) in
      let there : Items = record { tokens = r.lexemes_of; ending = at_end } in
      let derived : IsModule there e = record { at_end = refl; derives = r.derives } in
      let rules : KeepsRules types there = (by_nodes types there e derived).1 (none_breaks types r.lexemes_of e kept_there typed_there) in
      let faultless : faults dialect e ≡ [] =
      same_faults dialect there e derived rules
      ∙ faultless_too dialect (module_tree d) (module_tree e) (sym r.looks) (sym (same_faults dialect its d k.derived k.while_read) ∙ k.faultless) in
      let yielded : r.lexemes_of ≡ yield_of e [] = r.derives.0 in
      let is_there : there ≡ items (lexemes text) =
      sym (ap (λ ls. items ls) r.all ∙ ap (λ ls. items (map (λ l. Ok l) ls)) yielded ∙ items_of_yield e
      ∙ ap (λ ls. record { tokens = ls; ending = at_end }) (sym yielded)) in
      let keeps : KeepsEveryRule dialect there e = record { derived = derived; while_read = rules; faultless = faultless } in
      record { derivation = e; keeps = subst (λ i. KeepsEveryRule dialect i e) is_there keeps; looks = r.looks }

  pub comes_back : (its : Items) (d : Derivation Module) → KeepsEveryRule dialect its d → (text : Text) → source_of (module_tree d) ≡ Ok text
      → ComesBack dialect (module_tree d) text
  comes_back its d k text is = again its d k text (source_returns (module_tree d) text is (parsed_is_orderly d))

  -- ---- the source of a valid module

  of_the_one : (m : Statement no_payload) (text : Text) (b : ComesBack dialect m text) (s : Statement no_payload)
      → IsValidModule dialect (items (lexemes text)) s
      → unspanned_statement s ≡ unspanned_statement m
  of_the_one m text b s v = ap (λ x. unspanned_statement x) v.tree_is
      ∙ ap (λ (d : Derivation Module). unspanned_statement (module_tree d)) (sym (v.unique b.derivation b.keeps.derived)) ∙ b.looks

  source_again : (its : Items) (m : Statement no_payload) (v : IsValidModule dialect its m) (text : Text) → source_of m ≡ Ok text
      → ComesBack dialect (module_tree v.derivation) text
  source_again its m v text is = comes_back its v.derivation v.keeps text (ap source_of (sym v.tree_is) ∙ is)

  -- parses as that module
  pub parses_as : (its : Items) (m : Statement no_payload) → IsValidModule dialect its m → (text : Text) → source_of m ≡ Ok text → ParsesAs dialect text m
  parses_as its m v text is =
      let b : ComesBack dialect m text = subst (λ x. ComesBack dialect x text) (sym v.tree_is) (source_again its m v text is) in
      record {
        derivation = b.derivation;
        keeps = b.keeps;
        same = of_the_one m text b;
        again = λ s w. same_source m s text (sym (of_the_one m text b s w)) is;
      }

  -- ---- a valid module has a source

  pub has_source : (source : Text) (m : Statement no_payload) → IsUtf8 source → length source < 2 ^ 32 → IsValidModule dialect (items (lexemes source)) m
      → (text : Text) × (source_of m ≡ Ok text)
  has_source source m utf8 short v =
      let d : Derivation Module = v.derivation in
      let types = dialect.enable_types in
      let its : Items = items (lexemes source) in
      let bound : 2 ^ 32 - 1 < 2 ^ 32 = omega arith in
      let none : NoneBreaks types its.tokens d = (by_nodes types its d v.keeps.derived).0 v.keeps.while_read in
      let kept : Kept (right_side d) = kept_by types its.tokens d v.keeps.derived.derives none in
      let again : AllAgain (2 ^ 32 - 1) (lexemes source) = lexemes_alone (2 ^ 32 - 1) source (utf8_bytes source utf8, omega arith) in
      let words : Each (λ (l : Lexeme). Rereads (2 ^ 32 - 1) l.token) (yield_of d []) =
      subst (λ ls. Each (λ (l : Lexeme). Rereads (2 ^ 32 - 1) l.token) ls) v.keeps.derived.derives.0 (items_again (2 ^ 32 - 1) (lexemes source) again) in
      let faultless : faults_in dialect (module_tree d) ≡ [] = sym (same_faults dialect its d v.keeps.derived v.keeps.while_read) ∙ v.keeps.faultless in
      let said = module_said (2 ^ 32 - 1) bound d (written (2 ^ 32 - 1) bound (right_side d) [] words kept) (loads_name dialect (module_tree d) faultless) in
      let text = said_so (module_source (module_tree d)) said in
      (text.0, ap source_of v.tree_is ∙ text.1)
