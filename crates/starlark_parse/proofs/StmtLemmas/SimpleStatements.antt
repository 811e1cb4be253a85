-- The machine's paths through lines, in the form in which the code's answers cite them.
use Rattle.std.proofs.Common.{◌≡◌, true, false, List, [], ◌∷◌, ◌++◌, Option, refl, sym, ◌∙◌, ap, subst}
use Rattle.starlark_lexer.specs.Tokens.{Span, from_to, Lexeme, lexeme}
use Rattle.starlark_lexer.specs.Tokens as tokens
use Rattle.starlark_lexer.specs.Lexer.{CodeLexeme}
use Rattle.starlark_tree.specs.Ast.{no_payload, Statement}
use Rattle.starlark_lexer.specs.declared.kind.Kind.TheVariants as kinds
use Rattle.starlark_spec.specs.Answers.{Answer}
use Rattle.starlark_spec.specs.Answers.Answer.{memory}
use Rattle.starlark_spec.specs.Grammar.Nonterminal.{Module, Simple, Small}
use Rattle.starlark_spec.specs.Grammar.Derivation.{simple_line, simple_semicolon, smalls_one, smalls_more}
use Rattle.starlark_spec.specs.Trees.{tree, derivation_span, one_or_block}
use Rattle.starlark_lexer.specs.Kinds.{is}
use Rattle.starlark_spec.specs.Machine.States.{Place, Place.simple_smalls_at, Place.smalls_one_at, Place.smalls_more_at}
use Rattle.starlark_spec.specs.Machine.States.State.{read, done, after_semicolon, newline_due, line_end_due}
use Rattle.starlark_spec.specs.Machine.Sight.{look_at}
use Rattle.starlark_spec.specs.Machine.Firsts.{starts_small}
use Rattle.starlark_parse_cursor.specs.Reading.{At, Advances, begin_at, stop_at}
use Rattle.starlark_parse_cursor.specs.Contract.{Goes, Goes.stays, Goes.keeps, Goes.takes, FailsFrom, Found}
use Rattle.starlark_parse_cursor.proofs.Looks.{same_spans}
use Rattle.starlark_parse_cursor.proofs.Paths.{after, at_same, further, due, wants}
use Rattle.starlark_parse.specs.Stmt.Lines.{SmallsRead}
use Rattle.starlark_parse.proofs.StmtLemmas.Rules.{passes}
use Rattle.starlark_parse.proofs.StmtLemmas.SmallStatements.{AddedSmall}

-- a line
abbrev pub FoundSimple : {S : Type 0} → (S → Option CodeLexeme → S → Type 0) → Statement no_payload → At S → At S → Type 0
FoundSimple steps s a b = Found steps (λ (p : Place Module Simple). read Simple p) (begin_at a) (λ d. s ≡ tree d) a b

-- the same in terms of the statements before that of the line and after it
abbrev pub AddedLine : {S : Type 0} → (S → Option CodeLexeme → S → Type 0) → List (Statement no_payload) → List (Statement no_payload) → At S → At S → Type 0
AddedLine steps ss ts a b = Found steps (λ (p : Place Module Simple). read Simple p) (begin_at a) (λ d. ts ≡ ss ++ tree d ∷ []) a b

-- lists whose last elements are equal
pub lasts_same : {A : Type 0} (xs ys : List A) {x y : A} → xs ++ x ∷ [] ≡ ys ++ y ∷ [] → (xs ≡ ys) × (x ≡ y)
lasts_same [] [] h = (refl, cc)
lasts_same [] (z ∷ []) h = cc
lasts_same [] (z ∷ w ∷ zs) h = cc
lasts_same (z ∷ []) [] h = cc
lasts_same (z ∷ w ∷ zs) [] h = cc
lasts_same (z ∷ xs) (w ∷ ys) {x = x} {y = y} h =
    let r = lasts_same xs ys {x = x} {y = y} (cc) in
    (cc, r.1)

-- some statements end in no statement, if there are none
pub no_last : {A : Type 0} (xs : List A) (x : A) → [] ≡ xs ++ x ∷ [] → ⊥
no_last [] x h = cc
no_last (y ∷ xs) x h = cc

module _ {S : Type 0} {steps : S → Option CodeLexeme → S → Type 0} where
  to_small : {a : At S} (p : Place Module Simple) → Goes steps (read Simple p) a (read Small (smalls_one_at (simple_smalls_at p))) a
  to_small p = keeps refl (keeps refl stays)

  pub first_small_fails : {a b : At S} {r : Answer} → FailsFrom steps (λ (p : Place Module Small). read Small p) a b r
      → FailsFrom steps (λ (p : Place Module Simple). read Simple p) a b r
  first_small_fails f = further (λ p. smalls_one_at (simple_smalls_at p)) to_small f

  pub first_small : {a b : At S} (ss : List (Statement no_payload)) {ts : List (Statement no_payload)}
      (d : AddedSmall steps (λ p. read Small p) (begin_at a) ss ts a b) → SmallsRead steps a b (tree d.derivation ∷ [])
  first_small ss d = record {
    derivation = smalls_one d.derivation;
    means = refl;
    begin_is = d.begin_is;
    goes = λ p. after (to_small p) (after (d.goes (smalls_one_at (simple_smalls_at p))) (passes d.means.1 refl stays));
  }

  -- a line that was read is added
  pub line_added : {a b : At S} {s : Statement no_payload} (ss : List (Statement no_payload)) {ts : List (Statement no_payload)} → ts ≡ ss ++ s ∷ []
      → FoundSimple steps s a b → AddedLine steps ss ts a b
  line_added ss h f = record { derivation = f.derivation; means = h ∙ ap (λ x. ss ++ x ∷ []) f.means; begin_is = f.begin_is; end_is = f.end_is; goes = f.goes }

  -- a line that was added to nothing, joined
  pub line_alone : {a b : At S} {ss ts : List (Statement no_payload)} {s : Statement no_payload} (i : Span) → AddedLine steps ss ts a b → ss ≡ []
      → s ≡ one_or_block i ts → FoundSimple steps s a b
  line_alone i f e h = record {
    derivation = f.derivation;
    means = h ∙ ap (one_or_block i) f.means ∙ ap (λ x. one_or_block i (x ++ tree f.derivation ∷ [])) e;
    begin_is = f.begin_is;
    end_is = f.end_is;
    goes = f.goes;
  }

  module _ {a q : At S} {ss : List (Statement no_payload)} (g : SmallsRead steps a q ss) where
    -- the same for equal values
    pub smalls_as : {rs : List (Statement no_payload)} → rs ≡ ss → SmallsRead steps a q rs
    smalls_as h = subst (λ x. SmallsRead steps a q x) (sym h) g

    pub smalls_want : FailsFrom steps (λ (p : Place Module Simple). read Simple p) a q memory
    smalls_want = wants (λ p. done g.derivation (simple_smalls_at p)) g.goes

    -- ---- no `;` comes

    module _ {m : At S} (h : (is (look_at q.sight).kind kinds.Semicolon ≡ false) × (m ≡ q)) where
      to_newline : (p : Place Module Simple) → Goes steps (read Simple p) a (newline_due g.derivation p) m
      to_newline p = at_same h.1 (after (g.goes p) (keeps (rw h.0 refl) stays))

      pub newline_absent : {b : At S} {r : Answer} → (is (look_at m.sight).kind kinds.Newline ≡ false) × (r ≡ stop_at b) × (b ≡ m)
          → FailsFrom steps (λ (p : Place Module Simple). read Simple p) a b r
      newline_absent k = due (λ p. newline_due g.derivation p) k.2 k.1 to_newline (λ p. rw k.0 refl)

      pub line_wants : {b : At S} {n : Span} → Advances steps m (lexeme tokens.Newline n) b
          → FailsFrom steps (λ (p : Place Module Simple). read Simple p) a b memory
      line_wants {n = n} v = wants (λ p. done (simple_line g.derivation n) p) (λ p. after (to_newline p) (takes v refl stays))

      pub line_found : {b : At S} {n : Span} {s : Statement no_payload} → Advances steps m (lexeme tokens.Newline n) b
          → s ≡ one_or_block (from_to (begin_at a) b.end) ss → FoundSimple steps s a b
      line_found {n = n} v k = record {
        derivation = simple_line g.derivation n;
        means = k ∙ ap (λ x. one_or_block x ss) (same_spans (sym (g.begin_is _)) v.end_is)
            ∙ ap (λ x. one_or_block (derivation_span (simple_line g.derivation n)) x) g.means;
        begin_is = λ rest. g.begin_is _;
        end_is = λ before. v.end_is;
        goes = λ p. after (to_newline p) (takes v refl stays);
      }

    -- ---- after a `;`

    module _ {m : At S} {i : Span} (v : Advances steps q (lexeme tokens.Semicolon i) m) where
      following_semicolon : (p : Place Module Simple) → Goes steps (read Simple p) a (after_semicolon g.derivation i p) m
      following_semicolon p = after (g.goes p) (takes v refl stays)

      module _ (h : starts_small (look_at m.sight).kind ≡ true) where
        to_next : (p : Place Module Simple) → Goes steps (read Simple p) a (read Small (smalls_more_at g.derivation i (simple_smalls_at p))) m
        to_next p = after (following_semicolon p) (keeps (rw h refl) stays)

        pub next_small_fails : {b : At S} {r : Answer} → FailsFrom steps (λ (p : Place Module Small). read Small p) m b r
            → FailsFrom steps (λ (p : Place Module Simple). read Simple p) a b r
        next_small_fails f = further (λ p. smalls_more_at g.derivation i (simple_smalls_at p)) to_next f

        pub next_small : {b : At S} {ts : List (Statement no_payload)} → AddedSmall steps (λ p. read Small p) (begin_at m) ss ts m b → SmallsRead steps a b ts
        next_small d = record {
          derivation = smalls_more g.derivation i d.derivation;
          means = d.means.0 ∙ ap (λ x. x ++ tree d.derivation ∷ []) g.means;
          begin_is = λ rest. g.begin_is _;
          goes = λ p. after (to_next p) (after (d.goes (smalls_more_at g.derivation i (simple_smalls_at p))) (passes d.means.1 refl stays));
        }

      module _ (h : starts_small (look_at m.sight).kind ≡ false) where
        to_line_end : (p : Place Module Simple) → Goes steps (read Simple p) a (line_end_due g.derivation i p) m
        to_line_end p = after (following_semicolon p) (keeps (rw h refl) stays)

        pub line_end_absent : {b : At S} {r : Answer} → (is (look_at m.sight).kind kinds.Newline ≡ false) × (r ≡ stop_at b) × (b ≡ m)
            → FailsFrom steps (λ (p : Place Module Simple). read Simple p) a b r
        line_end_absent k = due (λ p. line_end_due g.derivation i p) k.2 k.1 to_line_end (λ p. rw k.0 refl)

        pub line_end_wants : {b : At S} {n : Span} → Advances steps m (lexeme tokens.Newline n) b
            → FailsFrom steps (λ (p : Place Module Simple). read Simple p) a b memory
        line_end_wants {n = n} w = wants (λ p. done (simple_semicolon g.derivation i n) p) (λ p. after (to_line_end p) (takes w refl stays))

        pub line_end_found : {b : At S} {n : Span} {s : Statement no_payload} → Advances steps m (lexeme tokens.Newline n) b
            → s ≡ one_or_block (from_to (begin_at a) b.end) ss → FoundSimple steps s a b
        line_end_found {n = n} w k = record {
          derivation = simple_semicolon g.derivation i n;
          means = k ∙ ap (λ x. one_or_block x ss) (same_spans (sym (g.begin_is _)) w.end_is)
              ∙ ap (λ x. one_or_block (derivation_span (simple_semicolon g.derivation i n)) x) g.means;
          begin_is = λ rest. g.begin_is _;
          end_is = λ before. w.end_is;
          goes = λ p. after (to_line_end p) (takes w refl stays);
        }
