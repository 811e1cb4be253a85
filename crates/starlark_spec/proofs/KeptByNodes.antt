-- The rules of a module are kept exactly if no node of its derivation breaks one.
use Rattle.std.proofs.Common.{◌≡◌, false, List, [], ◌∷◌, ◌++◌, map, refl, sym, ◌∙◌, ap, subst, Some, Err, ◌⊎◌, inl, inr}
use Rattle.starlark_lexer.specs.Tokens.{Span, Lexeme}
use Rattle.starlark_lexer.specs.declared.dialect.DialectTypes.{DialectTypes}
use Rattle.starlark_lexer.specs.declared.dialect.DialectTypes.TheVariants.{Disable, ParseOnly, Enable}
use Rattle.starlark_spec.specs.declared.error.GrammarError.TheVariants.{FStringConversion}
use Rattle.starlark_tree.specs.Ast.{Expression, no_payload}
use Rattle.starlark_spec.specs.Faults.{Fault, grammar_fault}
use Rattle.starlark_spec.specs.Types.{reading}
use Rattle.starlark_spec.specs.Items.{Items, Ending, at_end}
use Rattle.starlark_spec.specs.Grammar.{Nonterminal, Derivation, node, right_side, yield_of}
use Rattle.starlark_spec.specs.Grammar.Nonterminal.{Module}
use Rattle.starlark_spec.specs.Trees.{tree}
use Rattle.starlark_spec.specs.Nodes.{Occurrence, shifted, occurrences, IsMember, IsClosedBy}
use Rattle.starlark_spec.specs.Rules.{Breaks, no_conversion, other_conversion, comma_after_variables, no_target_in_clause, comma_after_list, name_alone}
use Rattle.starlark_spec.specs.Rules.{no_types, no_type, no_assignment, no_target_in_loop, up_to}
use Rattle.starlark_spec.specs.Answers.{IsModule, KeepsRules}
use Rattle.starlark_spec.specs.Machine.States.{Place}
use Rattle.starlark_spec.specs.Machine.States.State.{done}
use Rattle.starlark_spec.specs.Machine.Sight.{look}
use Rattle.starlark_spec.specs.Machine.Faults.{node_fault, type_fault, up_to_look, fault_of}
use Rattle.starlark_spec.specs.Machine.ReadParts.{seen_at}
use Rattle.starlark_spec.specs.Machine.Steps.{start, module_done, Config, config, step, Reaches, here, more, rests}
use Rattle.starlark_spec.proofs.KindTests.{no_ending}
use Rattle.starlark_spec.proofs.Runs.{stays}
use Rattle.starlark_spec.proofs.Blocks.{opened, none_after}
use Rattle.starlark_spec.proofs.BlockEnds.{IsSound, sound}
use Rattle.starlark_spec.proofs.Theorems.{ends}
use Rattle.starlark_spec.proofs.CompletedNodes.{settled}
use Rattle.starlark_spec.proofs.Viable.{occurrence_at}
use Rattle.starlark_spec.proofs.ConsumedTokens.{taken, passes, there}
use Rattle.starlark_spec.proofs.ClosedNodes.{Blamed, blamed}
use Rattle.starlark_spec.proofs.BrokenNodes.{Ahead, ahead, occurrence_there}
use Rattle.starlark_spec.specs.ByNodes.{NoneBreaks, RulesAreKeptByNodes}

tail : List Lexeme → List Lexeme
tail [] = []
tail (x ∷ xs) = xs

cancel : (xs : List Lexeme) {a b : List Lexeme} → xs ++ a ≡ xs ++ b → a ≡ b
unfolding tail
cancel [] e = e
cancel (x ∷ xs) e = cancel xs (ap tail e)

-- ---- a node that breaks a rule is one at whose end the machine finds it broken

up_to_same : (s : Span) (rest : List Lexeme) → up_to_look s (look at_end rest) ≡ up_to s rest
up_to_same s [] = refl
up_to_same s (x ∷ rest) = rw (no_ending x.token) refl

read_as : (types : DialectTypes) (e : Expression no_payload) (f : Fault) → ¬ (types ≡ Disable) → reading e ≡ Err f → type_fault types e ≡ Some f
read_as Disable e f on h = absurd (on refl)
read_as ParseOnly e f on h = ap fault_of h
read_as Enable e f on h = ap fault_of h

found : {types : DialectTypes} {n : Nonterminal} (d : Derivation n) {rest : List Lexeme} {f : Fault} → Breaks types (node d) rest f
    → node_fault types n d (look at_end rest) ≡ Some f
found d (no_conversion s rest) = ap (λ x. Some (grammar_fault FStringConversion x)) (up_to_same s rest)
found d (other_conversion s name i rest other) = rw other refl
found d (comma_after_variables e c rest) = refl
found d (no_target_in_clause f e i x rest fault is) = rw is refl
found d (comma_after_list e c rest) = refl
found d (name_alone text i rest) = refl
found d (no_types e rest off) = rw off refl
found {types = types} d (no_type e rest f on is) = read_as types (tree e) f on is
found d (no_assignment e n o s x rest f is) = rw is refl
found d (no_target_in_loop f e i x c s rest fault is) = rw is refl

has_memory : (rest : List Lexeme) → (look at_end rest).no_memory ≡ false
has_memory [] = refl
has_memory (x ∷ rest) = refl

own_blocks : {n : Nonterminal} (p : Place Module n) (d : Derivation n) (rest : List Lexeme) → IsSound at_end (config (done d p) rest)
    → (opened (right_side d) 0 ≡ 0) ⊎ ((rest ≡ []) × (at_end ≡ at_end))
own_blocks p d rest (inl h) = inl (none_after (seen_at p) (opened (right_side d) 0) h)
own_blocks p d rest (inr e) = inr (e.nothing_left, e.ends)

module _ (types : DialectTypes) (items : Items) (d : Derivation Module) (m : IsModule items d) where
  -- if the rules are kept, no node breaks one
  kept : KeepsRules types items → NoneBreaks types items.tokens d
  kept keeps occurrence others fault inside split breaks =
      let p = passes d m.derives.1 occurrence inside in
      let t = taken p.comes in
      let read : yield_of d [] ≡ occurrence.before ++ (occurrence.own ++ p.rest) = t.split ∙ sym (t.told p.rest)
      ∙ there p.place p.derivation occurrence p.rest p.is_it in
      let same : p.rest ≡ others = cancel occurrence.own (cancel occurrence.before (sym read ∙ sym m.derives.0 ∙ split)) in
      let wrong : Breaks types (node p.derivation) p.rest fault = subst (λ (r : List Lexeme). Breaks types (node p.derivation) r fault) (sym same)
      (subst (λ (x : Occurrence). Breaks types x.node others fault) p.is_it breaks) in
      let b : Blamed types p.derivation p.rest at_end fault =
      blamed types at_end p.rest fault (has_memory p.rest) p.derivation (own_blocks p.place p.derivation p.rest (sound p.comes (inl refl)))
      (settled p.comes tt) (found p.derivation wrong) in
      let closed : IsClosedBy occurrence.node others at_end =
      subst (λ (x : Occurrence). IsClosedBy x.node others at_end) (sym p.is_it)
      (subst (λ (r : List Lexeme). IsClosedBy (node p.derivation) r at_end) same b.closed) in
      keeps fault others (record {
        occurrence = occurrence;
        split = split;
        stands = record { more = others; derivation = d; derives = (sym split ∙ m.derives.0, m.derives.1); occurs = inside };
        closed = subst (λ (z : Ending). IsClosedBy occurrence.node others z) (sym m.at_end) closed;
        breaks = breaks;
      })

  -- a run continues to the end of another
  onward : {z : Ending} {a b c : Config Module} → Reaches z a b → Reaches z a c → step z c ≡ c → Reaches z b c
  onward here r stops = r
  onward {z = z} {b = b} (more q) here stops = subst (λ (x : Config Module). Reaches z b x) (sym (stays (more q) stops)) here
  onward (more q) (more r) stops = onward q r stops

  after_none : (hs : List Occurrence) → map (shifted []) hs ≡ hs
  after_none [] = refl
  after_none (h ∷ hs) = ap (λ x. h ∷ x) (after_none hs)

  -- and otherwise no rule is broken
  none : NoneBreaks types items.tokens d → KeepsRules types items
  none holds_none fault others k =
      let a : Ahead (config start items.tokens) k = ahead (config start items.tokens) rests k in
      let goes : Reaches at_end (config start (yield_of d [])) (config (done a.derivation a.place) others) =
      subst (λ (ts : List Lexeme). Reaches at_end (config start ts) (config (done a.derivation a.place) others)) m.derives.0
      (subst (λ (z : Ending). Reaches z (config start items.tokens) (config (done a.derivation a.place) others)) m.at_end a.goes) in
      let to_end : Reaches at_end (config (done a.derivation a.place) others) (config (module_done d) []) = onward goes (ends d m.derives.1) refl in
      let inside : IsMember (occurrence_at a.place a.derivation) (occurrences (right_side d)) =
      subst (λ (hs : List Occurrence). IsMember (occurrence_at a.place a.derivation) hs) (after_none (occurrences (right_side d)))
      ((taken to_end).kept (occurrence_at a.place a.derivation) (occurrence_there a.place a.derivation a.wrong_so.own a.wrong_so.is_marked)) in
      holds_none k.occurrence others fault (subst (λ (x : Occurrence). IsMember x (occurrences (right_side d))) (sym a.is_it) inside) k.split k.breaks

pub rules_are_kept_by_nodes : RulesAreKeptByNodes
rules_are_kept_by_nodes types items d m = (kept types items d m, none types items d m)
