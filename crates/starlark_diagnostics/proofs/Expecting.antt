-- What a message says is expected may come: from the set that the code holds, and the lexemes that it read.
use Rattle.std.proofs.Common.{◌≡◌, arith, codes, refl, sym, ◌∙◌, ap, subst, inl, inr, ◌⊎◌, ℕ, List, [], ◌∷◌, ◌++◌, map, take, length, Option, Some, None}
use Rattle.std.proofs.Common.{Result, Ok, Err, Bool, ◌+◌, ◌<◌, ◌≤◌, get_or}
use Rattle.std.specs.Prelude.{IfSome, IfNone, IsSomeAnd, slice_get, option_map}
use Rattle.std.specs.List.{AllByRecursion}
use Rattle.std.proofs.lemmas.List.{append_assoc, length-map, take-map, take_all, take_more}
use Rattle.std.proofs.lemmas.Option.{slice_get-map}
use Rattle.starlark_lexer.specs.Kinds.{kind_of}
use Rattle.starlark_lexer.specs.Lexemes.{lexemes}
use Rattle.starlark_lexer.specs.Lexer.{CodeLexeme, lexeme_of}
use Rattle.starlark_lexer.specs.Places.{text_between}
use Rattle.starlark_lexer.specs.Tokens.{Lexeme, LexerFault, Span, Text, from_to, span_of, terminal}
use Rattle.starlark_lexer.specs.declared.kind.Kind.{Kind}
use Rattle.starlark_lexer.specs.declared.span.Span.{Span as CodeSpan}
use Rattle.starlark_spec.specs.Items.{items}
use Rattle.starlark_spec.specs.Nodes.{IsMember}
use Rattle.starlark_spec.specs.Program.{BeginsProgram, IsProgram}
use Rattle.starlark_expected.specs.MayFollow.{IsExpected, MayFollow, tokens_of}
use Rattle.starlark_expected.specs.declared.set.Expected.{Expected}
use Rattle.starlark_diagnostics.specs.Stops.{HasMember, IsAt, IsIn, IsNext, IsStop}
use Rattle.starlark_diagnostics.specs.Things.{kinds_of, unexpected}
use Rattle.starlark_diagnostics.specs.Unexpected.{ComesNext, IsSentence, IsToken, MayCome, Names, SaysUnexpected, tokens_before}
use Rattle.starlark_diagnostics.specs.declared.stop.Stop.{Stop}
use Rattle.starlark_diagnostics.specs.declared.thing.Thing.{Thing}

pub each_snoc : {X : Type 0} (P : X → Type 0) (xs : List X) (x : X) → AllByRecursion P xs → P x → AllByRecursion P (xs ++ x ∷ [])
each_snoc P [] x all p = (p, tt)
each_snoc P (y ∷ ys) x (q, all) p = (q, each_snoc P ys x all p)

pub each_weaker : {X : Type 0} (P Q : X → Type 0) → ((x : X) → P x → Q x) → (xs : List X) → AllByRecursion P xs → AllByRecursion Q xs
each_weaker P Q weaker [] all = tt
each_weaker P Q weaker (x ∷ xs) (p, all) = (weaker x p, each_weaker P Q weaker xs all)

-- what is in the set may come
pub may_come : (tokens : List Lexeme) (set : List Kind) (is_end : Bool) → IsExpected tokens set is_end → (expected : List Thing)
    → AllByRecursion (IsIn set) expected
    → AllByRecursion (MayCome tokens) expected
may_come tokens set is_end exact expected all =
    each_weaker (IsIn set) (MayCome tokens)
    (λ thing inside. each_weaker (λ kind. IsMember kind set) (MayFollow tokens) (λ kind m. (exact.kinds kind).0 m) (kinds_of thing) inside) expected all

-- the same of the message if there may be no set
pub all_may_come : (tokens : List Lexeme) (set : Option Expected) (expected : List Thing) → IfSome set (λ e. IsExpected tokens e.kinds.items e.is_end)
    → IfSome set (λ e. AllByRecursion (IsIn e.kinds.items) expected) → IfNone set (expected ≡ []) → AllByRecursion (MayCome tokens) expected
all_may_come tokens (Some e) expected exact some none = may_come tokens e.kinds.items e.is_end exact expected some
all_may_come tokens None expected exact some none = subst (AllByRecursion (MayCome tokens)) (sym none) tt

begins_front : (a b : List Lexeme) → BeginsProgram (a ++ b) → BeginsProgram a
begins_front a b (more, program) = (b ++ more, subst IsProgram (append_assoc a b more) program)

-- what is not in the set cannot follow
pub cannot_follow : (tokens : List Lexeme) (set : Option Expected) (kind : Kind) → IfSome set (λ e. IsExpected tokens e.kinds.items e.is_end)
    → IfNone set (¬ BeginsProgram tokens) → ¬ HasMember set kind → ¬ MayFollow tokens kind
cannot_follow tokens None kind exact none out (x, is, begins) = none (begins_front tokens (x ∷ []) begins)
cannot_follow tokens (Some e) kind exact none out may = out ((exact.kinds kind).1 may)

-- the tokens of the first lexemes
pub same_tokens : (xs : List CodeLexeme) (text : Text) (count : ℕ) → map lexeme_of xs ≡ lexemes text → tokens_of (take count xs) ≡ tokens_before count text
same_tokens xs text count same = ap (λ ls. (items ls).tokens) (sym (take-map lexeme_of count xs) ∙ ap (take count) same)

same_span : (span : CodeSpan) (begin end : ℕ) → begin ≡ span.begin.byte → end ≡ span.end.byte → from_to begin end ≡ span_of span
same_span span begin end b e = ap (λ x. from_to x end) b ∙ ap (λ y. from_to span.begin.byte y) e

is_token : (span : CodeSpan) (kind : Kind) (x : CodeLexeme) → IsAt span kind x → IsToken (span_of span) kind (lexeme_of x)
is_token span kind (Ok x) (b, e, k) = (same_span span x.0 x.2 b e, k)
is_token span kind (Err e) h = h

some_token : (span : CodeSpan) (kind : Kind) (x : Option CodeLexeme) → IsSomeAnd x (IsAt span kind)
    → IsSomeAnd (option_map lexeme_of x) (IsToken (span_of span) kind)
some_token span kind (Some x) h = is_token span kind x h
some_token span kind None h = h

pub comes : (text : Text) (span : CodeSpan) (xs : List CodeLexeme) (count : ℕ) (set : Option Expected) (next : Option Kind) → map lexeme_of xs ≡ lexemes text
    → IfSome set (λ e. IsExpected (tokens_before count text) e.kinds.items e.is_end) → IfNone set (¬ BeginsProgram (tokens_before count text))
    → IsNext span xs count set next → ComesNext text (span_of span) count next
comes text span xs count set None same exact none is = is ∙ (sym (length-map xs lexeme_of) ∙ ap length same)
comes text span xs count set (Some kind) same exact none (at, out) = (
  subst (λ ls. IsSomeAnd (slice_get ls count) (IsToken (span_of span) kind)) same
      (subst (λ x. IsSomeAnd x (IsToken (span_of span) kind)) (sym (slice_get-map lexeme_of xs count)) (some_token span kind (slice_get xs count) at)),
  cannot_follow (tokens_before count text) set kind exact none out,
)

-- what the code says of a stop that it found
pub says : (text : Text) (span : CodeSpan) (xs : List CodeLexeme) (stop : Stop) (message : Text) → map lexeme_of xs ≡ lexemes text → IsStop xs span stop
    → IsSentence message ⊎ Names stop (text_between text span.begin.byte span.end.byte) message → SaysUnexpected text (span_of span) message
says text span xs stop message same found (inl sentence) = inl sentence
says text span xs stop message same found (inr names) =
    let before : tokens_of stop.before.now ≡ tokens_before found.count text = ap tokens_of found.before ∙ same_tokens xs text found.count same in
    let exact : IfSome stop.set (λ e. IsExpected (tokens_before found.count text) e.kinds.items e.is_end) =
    subst (λ ts. IfSome stop.set (λ e. IsExpected ts e.kinds.items e.is_end)) before found.exact in
    let none : IfNone stop.set (¬ BeginsProgram (tokens_before found.count text)) =
    subst (λ ts. IfNone stop.set (¬ BeginsProgram ts)) before found.none in
    inr (record {
      count = found.count;
      next = stop.kind;
      comes = comes text span xs found.count stop.set stop.kind same exact none found.next;
      expected = names.expected;
      may_come = all_may_come (tokens_before found.count text) stop.set names.expected exact names.some names.none;
      says = names.says;
    })

-- the next of a list, and those before it
pub each_next : {X : Type 0} (P : X → Type 0) (xs : List X) (i : ℕ) (d : X) → i < length xs → P (get_or xs i d) → AllByRecursion P (take i xs)
    → AllByRecursion P (take (i + 1) xs)
each_next P xs i d room p all = subst (AllByRecursion P) (sym (take_more xs i d room)) (each_snoc P (take i xs) (get_or xs i d) all p)

-- all of a list
pub each_of : {X : Type 0} (P : X → Type 0) (xs : List X) (i : ℕ) → length xs ≤ i → AllByRecursion P (take i xs) → AllByRecursion P xs
each_of P xs i past all = subst (AllByRecursion P) (take_all i xs past) all

-- one more is named
pub one_more : (set : List Kind) (old new : List Thing) (x : Thing) → AllByRecursion (IsIn set) old → IsIn set x → new ≡ old ++ x ∷ []
    → AllByRecursion (IsIn set) new
one_more set old new x all inside is = subst (AllByRecursion (IsIn set)) (sym is) (each_snoc (IsIn set) old x all inside)

-- the first is named
pub started : (set : List Kind) (start : Option Thing) (x : Thing) (old new : List Thing) → IfSome start (IsIn set) → start ≡ Some x → old ≡ []
    → new ≡ old ++ x ∷ [] → AllByRecursion (IsIn set) new
started set start x old new inside is none added =
    one_more set old new x (subst (AllByRecursion (IsIn set)) (sym none) tt) (subst (λ (o : Option Thing). IfSome o (IsIn set)) is inside) added

-- nothing is named if there is nothing, or too much
pub few : (name : Text) (xs : List Thing) → length xs < 1 → unexpected name xs ≡ codes "unexpected " ++ name
few name [] short = refl
few name (x ∷ xs) short = absurd (omega (arith, short))

pub many : (name : Text) (xs : List Thing) → 5 ≤ length xs → unexpected name xs ≡ codes "unexpected " ++ name
many name [] long = absurd (omega (arith, long))
many name (a ∷ []) long = absurd (omega (arith, long))
many name (a ∷ b ∷ []) long = absurd (omega (arith, long))
many name (a ∷ b ∷ c ∷ []) long = absurd (omega (arith, long))
many name (a ∷ b ∷ c ∷ d ∷ []) long = absurd (omega (arith, long))
many name (a ∷ b ∷ c ∷ d ∷ e ∷ xs) long = refl
