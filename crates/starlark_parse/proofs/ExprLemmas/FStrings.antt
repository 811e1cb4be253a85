-- The machine's paths through f-strings, in the form in which the code's answers cite them.
use Rattle.std.proofs.Common.{◌≡◌, ℕ, Bool, true, false, if◌then◌else◌, List, [], ◌∷◌, ◌++◌, Option, Some, None, unwrap_or, refl, sym, ◌∙◌, ap, subst}
use Rattle.starlark_lexer.specs.Tokens.{Span, from_to, Lexeme, lexeme, Text}
use Rattle.starlark_lexer.specs.Tokens as tokens
use Rattle.starlark_lexer.specs.Lexer.{CodeLexeme}
use Rattle.starlark_lexer.specs.declared.token.FStringConv.{FStringConv}
use Rattle.starlark_lexer.specs.declared.token.FStringConv.TheVariants as conversions
use Rattle.starlark_lexer.specs.declared.token.FStringQuote.{FStringQuote}
use Rattle.starlark_tree.specs.Ast.{Expression, no_payload}
use Rattle.starlark_parse_held.specs.Held.{expression_of}
use Rattle.starlark_spec.specs.Trees.{Format, doubled, placeholder, conversion_of, f_string, tree}
use Rattle.starlark_parse_held.specs.declared.expression.HeldExpr.{HeldExpr}
use Rattle.starlark_lexer.specs.declared.kind.Kind.TheVariants as kinds
use Rattle.starlark_spec.specs.declared.error.GrammarError.TheVariants.{FStringConversion}
use Rattle.starlark_spec.specs.Faults.{Fault, grammar_fault}
use Rattle.starlark_spec.specs.Items.{at_end, fails, out_of_memory}
use Rattle.starlark_spec.specs.Answers.{Answer}
use Rattle.starlark_spec.specs.Answers.Answer.{memory, broken_rule}
use Rattle.starlark_spec.specs.Grammar.{Derivation}
use Rattle.starlark_spec.specs.Grammar.Nonterminal.{Module, Test, Atom, FStringParts, Conversion}
use Rattle.starlark_spec.specs.Grammar.Derivation.{atom_f_string, parts_none, parts_text, parts_replacement, conversion_default, conversion_absent}
use Rattle.starlark_spec.specs.Grammar.Derivation.{conversion_name}
use Rattle.starlark_lexer.specs.Kinds.{is, kind_of}
use Rattle.starlark_spec.specs.Machine.States.{Place, Place.parts_at, Place.replacement_at, Place.conversion_at}
use Rattle.starlark_spec.specs.Machine.States.State.{read, done, parts_tail, after_bang, replacement_due, f_string_due}
use Rattle.starlark_spec.specs.Machine.Sight.{Sight, quote_of, text_of, token, ending, look_at, is_ending}
use Rattle.starlark_spec.specs.Machine.Moves.{Keep}
use Rattle.starlark_spec.specs.Machine.Faults.{in_time, judged, unless, up_to_look}
use Rattle.starlark_parse_cursor.specs.Reading.{At, Advances, begin_at, begin_in, stop_at}
use Rattle.starlark_parse_cursor.specs.Contract.{Goes, Goes.stays, Goes.keeps, Goes.takes, FailsFrom, Found}
use Rattle.starlark_parse.specs.Expr.Contract.{FoundConversion, FoundHole, FoundPieces}
use Rattle.starlark_parse.specs.Expr.Expressions.{IsTest, IsAtom}
use Rattle.starlark_lexer.proofs.KindTests.{is_true}
use Rattle.starlark_spec.proofs.KindTests.{no_ending, first_quote, first_text}
use Rattle.starlark_parse_cursor.proofs.Paths.{after, further, due, wants}
use Rattle.starlark_parse.proofs.ExprLemmas.Checked.{node_fails}

-- a value and its place, after which its conversion is due
abbrev pub Hole : Type 0
Hole = Derivation FStringParts × Span × Derivation Test × Place Module FStringParts

-- a value's place
abbrev pub Opening : Type 0
Opening = Derivation FStringParts × Span × Place Module FStringParts

abbrev pub conversion_in : Hole → Place Module Conversion
conversion_in i = conversion_at i.0 i.1 i.2 i.3

abbrev pub made_of : Text → List (Expression no_payload) → Format
made_of text values = record { text = text; values = values }

pub formats_same : {s t : Text} {v w : List (Expression no_payload)} → s ≡ t → v ≡ w → made_of s v ≡ made_of t w
formats_same {s = s} {w = w} e f = ap (λ x. made_of s x) f ∙ ap (λ x. made_of x w) e

-- to the start of the item that is looked at
if_begins : {A : Type 0} (b : Bool) (x y : A) → b ≡ false → (if b then x else y) ≡ y
if_begins b x y h = rw h refl

up_to_sight : (x : Sight) (s : Span) (end : ℕ) → end ≡ s.end → from_to s.begin (begin_in x end) ≡ up_to_look s (look_at x)
up_to_sight (token x) s end h = sym (if_begins (is_ending (kind_of x.token)) s (from_to s.begin x.span.begin) (no_ending x.token))
up_to_sight (ending at_end) s end h = ap (λ n. from_to s.begin n) h
up_to_sight (ending (fails e)) s end h = ap (λ n. from_to s.begin n) h
up_to_sight (ending out_of_memory) s end h = ap (λ n. from_to s.begin n) h

-- a valid conversion breaks no rule
keeps_rule : (w : Bool) (o : Option FStringConv) (c : FStringConv) (f : Fault) → o ≡ Some c → in_time w (unless o f) ≡ None
keeps_rule w o c f h = ap (λ x. in_time w (unless x f)) h

-- the rule on conversions, with the same span
pub broken_at : {r : Answer} (no_memory : Bool) {s t : Span} → r ≡ (if no_memory then memory else broken_rule (grammar_fault FStringConversion s)) → s ≡ t
    → r ≡ (if no_memory then memory else broken_rule (grammar_fault FStringConversion t))
broken_at no_memory h e = h ∙ ap (λ x. if no_memory then memory else broken_rule (grammar_fault FStringConversion x)) e

-- pieces were read
pub record ReadsPieces {S : Type 0} (steps : S → Option CodeLexeme → S → Type 0) (f : Format) (a b : At S) : Type 0 where
  pub derivation : Derivation FStringParts
  pub means : f ≡ tree derivation
  pub goes : (p : Place Module FStringParts) → Goes steps (read FStringParts p) a (parts_tail derivation p) b

-- the same text between the same ends
pub same_f_string : {s t : Span} {x y : Format} → s ≡ t → x ≡ y → f_string s x ≡ f_string t y
same_f_string {s} {t} {x} {y} h k = ap (λ u. f_string u x) h ∙ ap (f_string t) k

module _ {S : Type 0} {steps : S → Option CodeLexeme → S → Type 0} where
  -- ---- the conversion

  pub default_found : {a b : At S} → (is (look_at a.sight).kind kinds.FStringBang ≡ false) × (b ≡ a) → FoundConversion steps conversions.None a b
  default_found {a = a} h = record {
    derivation = conversion_default;
    means = refl;
    goes = λ d o e p. subst (λ x. Goes steps (read Conversion (conversion_at d o e p)) a (replacement_due d o e conversion_default p) x) (sym h.1)
        (keeps {t = done conversion_default (conversion_at d o e p)} (rw h.0 refl) (keeps refl stays));
  }

  module _ {a m : At S} {s : Span} (v : Advances steps a (lexeme tokens.FStringBang s) m) where
    to_bang : (i : Hole) → Goes steps (read Conversion (conversion_in i)) a (after_bang s (conversion_in i)) m
    to_bang i = takes v refl stays

    pub absent_fails : {b : At S} {r : Answer} → (is (look_at m.sight).kind kinds.Identifier ≡ false) × (b ≡ m)
        → r ≡ (if (look_at b.sight).no_memory then memory else broken_rule (grammar_fault FStringConversion (from_to s.begin (begin_at b))))
        → FailsFrom steps (λ (i : Hole). read Conversion (conversion_in i)) a b r
    absent_fails {b = b} {r = r} k h =
        let g : (i : Hole) → Goes steps (read Conversion (conversion_in i)) a (done (conversion_absent s) (conversion_in i)) m =
        λ i. after (to_bang i) (keeps (rw k.0 refl) stays) in
        let f : Fault = grammar_fault FStringConversion (up_to_look s (look_at m.sight)) in
        let same : from_to s.begin (begin_at m) ≡ up_to_look s (look_at m.sight) = up_to_sight m.sight s m.end v.end_is in
        let answer : r ≡ (if (look_at m.sight).no_memory then memory else broken_rule (grammar_fault FStringConversion (up_to_look s (look_at m.sight)))) =
        h ∙ ap (λ (x : At S). if (look_at x.sight).no_memory then memory else broken_rule (grammar_fault FStringConversion (from_to s.begin (begin_at x)))) k.1
        ∙ ap (λ x. if (look_at m.sight).no_memory then memory else broken_rule (grammar_fault FStringConversion x)) same in
        subst (λ x. FailsFrom steps (λ (i : Hole). read Conversion (conversion_in i)) a x r) (sym k.1)
        (node_fails f (conversion_absent s) conversion_in refl answer g)

    module _ {b : At S} {name : Text} {i : Span} (w : Advances steps m (lexeme (tokens.Identifier name) i) b) where
      to_name : (q : Hole) → Goes steps (read Conversion (conversion_in q)) a (done (conversion_name s name i) (conversion_in q)) b
      to_name q = after (to_bang q) (takes w refl (keeps refl stays))

      pub name_found : (c : FStringConv) → Some c ≡ conversion_of name → FoundConversion steps c a b
      name_found c h = record {
        derivation = conversion_name s name i;
        means = ap (λ x. unwrap_or x conversions.None) h;
        goes = λ d o e p. after (to_name (d, o, e, p))
            (keeps
            (ap (λ x. judged x (Keep (replacement_due d o e (conversion_name s name i) p)))
            (keeps_rule (look_at b.sight).no_memory (conversion_of name) c (grammar_fault FStringConversion (from_to s.begin i.end)) (sym h)))
            stays);
      }

      pub other_fails : {r : Answer} → None ≡ conversion_of name
          → r ≡ (if (look_at b.sight).no_memory then memory else broken_rule (grammar_fault FStringConversion (from_to s.begin i.end)))
          → FailsFrom steps (λ (i : Hole). read Conversion (conversion_in i)) a b r
      other_fails h k =
          node_fails (grammar_fault FStringConversion (from_to s.begin i.end)) (conversion_name s name i) conversion_in
          (ap (λ (x : Option FStringConv). unless x (grammar_fault FStringConversion (from_to s.begin i.end))) (sym h)) k to_name

  -- ---- a value

  pub value_fails : {a b : At S} {r : Answer} → FailsFrom steps (λ (p : Place Module Test). read Test p) a b r
      → FailsFrom steps (λ (i : Opening). read Test (replacement_at i.0 i.1 i.2)) a b r
  value_fails f = further (λ (i : Opening). replacement_at i.0 i.1 i.2) (λ i. stays) f

  module _ {a q : At S} {begin : ℕ} (e : HeldExpr) (d : Found steps (λ (p : Place Module Test). read Test p) begin (IsTest e) a q) where
    to_conversion : (i : Opening) → Goes steps (read Test (replacement_at i.0 i.1 i.2)) a (read Conversion (conversion_at i.0 i.1 d.derivation i.2)) q
    to_conversion i = after (d.goes (replacement_at i.0 i.1 i.2)) (keeps refl stays)

    pub hole_fails : {b : At S} {r : Answer} → FailsFrom steps (λ (i : Hole). read Conversion (conversion_in i)) q b r
        → FailsFrom steps (λ (i : Opening). read Test (replacement_at i.0 i.1 i.2)) a b r
    hole_fails f = let into : Opening → Hole = λ i. (i.0, i.1, d.derivation, i.2) in further into to_conversion f

    module _ {n : At S} (c : FStringConv) (k : FoundConversion steps c q n) where
      to_closing : (i : Opening) → Goes steps (read Test (replacement_at i.0 i.1 i.2)) a (replacement_due i.0 i.1 d.derivation k.derivation i.2) n
      to_closing i = after (to_conversion i) (k.goes i.0 i.1 d.derivation i.2)

      pub not_closed : {b : At S} {r : Answer} → (is (look_at n.sight).kind kinds.FStringExprEnd ≡ false) × (r ≡ stop_at b) × (b ≡ n)
          → FailsFrom steps (λ (i : Opening). read Test (replacement_at i.0 i.1 i.2)) a b r
      not_closed h = due (λ (i : Opening). replacement_due i.0 i.1 d.derivation k.derivation i.2) h.2 h.1 to_closing (λ i. rw h.0 refl)

      pub hole_found : {b : At S} {x : Span} → Advances steps n (lexeme tokens.FStringExprEnd x) b → FoundHole steps (e, c) a b
      hole_found {x = x} v = record {
        derivation = d.derivation;
        conversion = k.derivation;
        closing = x;
        means = d.means;
        converts = k.means;
        goes = λ f o p. after (to_closing (f, o, p)) (takes v refl stays);
      }

  -- ---- all pieces

  pub no_pieces : (a : At S) (f : Format) → f ≡ record { text = []; values = [] } → ReadsPieces steps f a a
  no_pieces a f h = record { derivation = parts_none; means = h; goes = λ p. keeps refl stays }

  -- memory ran out after pieces
  pub pieces_want : {f : Format} {a q : At S} → ReadsPieces steps f a q → FailsFrom steps (λ (p : Place Module FStringParts). read FStringParts p) a q memory
  pieces_want g = wants (λ p. parts_tail g.derivation p) g.goes

  module _ {f : Format} {a q : At S} (g : ReadsPieces steps f a q) where
    pub one_text : {b : At S} {text : Text} {s : Span} (h : Format) → Advances steps q (lexeme (tokens.FStringText text) s) b
        → h ≡ record { text = f.text ++ doubled text; values = f.values } → ReadsPieces steps h a b
    one_text {text = text} {s = s} h v k = record {
      derivation = parts_text g.derivation text s;
      means = k ∙ ap (λ (x : Format). record { text = x.text ++ doubled text; values = x.values }) g.means;
      goes = λ p. after (g.goes p) (takes v refl stays);
    }

    pub hole_in_fails : {n m b : At S} {o : Span} {r : Answer} → n ≡ q → Advances steps n (lexeme tokens.FStringExprStart o) m
        → FailsFrom steps (λ (i : Opening). read Test (replacement_at i.0 i.1 i.2)) m b r
        → FailsFrom steps (λ (p : Place Module FStringParts). read FStringParts p) a b r
    hole_in_fails {m = m} {o = o} same w k =
        let v : Advances steps q (lexeme tokens.FStringExprStart o) m = subst (λ (x : At S). Advances steps x (lexeme tokens.FStringExprStart o) m) same w in
        let into : Place Module FStringParts → Opening = λ p. (g.derivation, o, p) in further into (λ p. after (g.goes p) (takes v refl stays)) k

    pub one_hole : {n m b : At S} {o : Span} (h : Format) (x : HeldExpr × FStringConv) → n ≡ q → Advances steps n (lexeme tokens.FStringExprStart o) m
        → FoundHole steps x m b
        → h ≡ record { text = f.text ++ placeholder x.1; values = f.values ++ expression_of x.0 ∷ [] } → ReadsPieces steps h a b
    one_hole {m = m} {o = o} h x same w d k = let v : Advances steps q (lexeme tokens.FStringExprStart o) m =
        subst (λ (y : At S). Advances steps y (lexeme tokens.FStringExprStart o) m) same w in record {
          derivation = parts_replacement g.derivation o d.derivation d.conversion d.closing;
          means = k ∙ ap (λ (y : Format). record { text = y.text ++ placeholder x.1; values = y.values ++ expression_of x.0 ∷ [] }) g.means
              ∙ ap (λ y. record { text = (tree g.derivation).text ++ placeholder y; values = (tree g.derivation).values ++ expression_of x.0 ∷ [] }) d.converts
              ∙ ap (λ y. record { text = (tree g.derivation).text ++ placeholder (tree d.conversion); values = (tree g.derivation).values ++ y ∷ [] }) d.means;
          goes = λ p. after (g.goes p) (takes v refl (d.goes g.derivation o p));
        }

    pub pieces_found : {m b : At S} → (is (look_at q.sight).kind kinds.FStringText ≡ false) × (m ≡ q)
        → (is (look_at m.sight).kind kinds.FStringExprStart ≡ false) × (b ≡ m) → FoundPieces steps f a b
    pieces_found h k = record {
      derivation = g.derivation;
      means = g.means;
      goes = λ p. subst (λ x. Goes steps (read FStringParts p) a (done g.derivation p) x) (sym (k.1 ∙ h.1))
          (after (g.goes p) (keeps (rw (h.0, subst (λ (x : At S). is (look_at x.sight).kind kinds.FStringExprStart ≡ false) h.1 k.0) refl) stays));
    }

  -- ---- the f-string

  -- what was consumed at the start of an f-string
  pub start_taken : {a m : At S} {x : Lexeme} → Advances steps a x m → is (look_at a.sight).kind kinds.FStringStart ≡ true
      → (quote : FStringQuote) × Advances steps a (lexeme (tokens.FStringStart quote) x.span) m
  start_taken {a = a} {m = m} {x = x} v h =
      let k : is (kind_of x.token) kinds.FStringStart ≡ true = ap (λ y. is (look_at y).kind kinds.FStringStart) (sym v.sees) ∙ h in
      (quote_of x.token, subst (λ y. Advances steps a y m) (first_quote x (is_true _ _ k)) v)

  pub text_taken : {a m : At S} {x : Lexeme} → Advances steps a x m → is (look_at a.sight).kind kinds.FStringText ≡ true
      → (span : Span) × Advances steps a (lexeme (tokens.FStringText (text_of x.token)) span) m
  text_taken {a = a} {m = m} {x = x} v h =
      let k : is (kind_of x.token) kinds.FStringText ≡ true = ap (λ y. is (look_at y).kind kinds.FStringText) (sym v.sees) ∙ h in
      (x.span, subst (λ y. Advances steps a y m) (first_text x (is_true _ _ k)) v)

  module _ {m : At S} (quote : FStringQuote) (s : Span) where
    pub pieces_fail : {b : At S} {r : Answer} → FailsFrom steps (λ (p : Place Module FStringParts). read FStringParts p) m b r
        → FailsFrom steps (λ (p : Place Module Atom). read FStringParts (parts_at quote s p)) m b r
    pieces_fail f = further (λ p. parts_at quote s p) (λ p. stays) f

    module _ {f : Format} {q : At S} (d : FoundPieces steps f m q) where
      to_end : (p : Place Module Atom) → Goes steps (read FStringParts (parts_at quote s p)) m (f_string_due quote s d.derivation p) q
      to_end p = after (d.goes (parts_at quote s p)) (keeps refl stays)

      pub not_ended : {b : At S} {r : Answer} → (is (look_at q.sight).kind kinds.FStringEnd ≡ false) × (r ≡ stop_at b) × (b ≡ q)
          → FailsFrom steps (λ (p : Place Module Atom). read FStringParts (parts_at quote s p)) m b r
      not_ended h = due (λ p. f_string_due quote s d.derivation p) h.2 h.1 to_end (λ p. rw h.0 refl)

      pub f_string_wants : {b : At S} {x : Span} → Advances steps q (lexeme tokens.FStringEnd x) b
          → FailsFrom steps (λ (p : Place Module Atom). read FStringParts (parts_at quote s p)) m b memory
      f_string_wants {x = x} w = wants (λ p. done (atom_f_string quote s d.derivation x) p) (λ p. after (to_end p) (takes w refl stays))

      pub f_string_found : {b : At S} {x : Span} (e : HeldExpr) → Advances steps q (lexeme tokens.FStringEnd x) b
          → expression_of e ≡ f_string (from_to s.begin b.end) f
          → Found steps (λ (p : Place Module Atom). read FStringParts (parts_at quote s p)) s.begin (IsAtom e) m b
      f_string_found {x = x} e w h = record {
        derivation = atom_f_string quote s d.derivation x;
        means = h ∙ ap (λ y. f_string (from_to s.begin y) f) w.end_is ∙ ap (λ y. f_string (from_to s.begin x.end) y) d.means;
        begin_is = λ rest. refl;
        end_is = λ before. w.end_is;
        goes = λ p. after (to_end p) (takes w refl stays);
      }
