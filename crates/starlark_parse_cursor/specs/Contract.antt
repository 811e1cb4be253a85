-- The contracts of a parser's functions: the machine's runs over what a cursor consumes.
use Rattle.std.specs.Prelude.{◌≡◌, ℕ, ◌<◌, ◌≤◌, Bool, true, false, List, Option, Some, None, Result, Ok, Err, OnOk, IfSome, String, string_bytes}
use Rattle.std.specs.Global.{Global}
use Rattle.std.specs.Iterator.{Count}
use Rattle.starlark_lexer.specs.Tokens.{span_of, Lexeme, lexeme}
use Rattle.starlark_lexer.specs.Tokens as terminals
use Rattle.starlark_lexer.specs.Lexer.{CodeLexeme}
use Rattle.starlark_lexer.specs.declared.span.Span.{Span as CodeSpan}
use Rattle.starlark_lexer.specs.declared.span.Spanned.{Spanned}
use Rattle.starlark_lexer.specs.declared.kind.Kind.{Kind}
use Rattle.starlark_lexer.specs.declared.kind.Kind.TheVariants as kinds
use Rattle.starlark_spec.specs.Faults.{Fault}
use Rattle.starlark_spec.specs.Answers.{Answer}
use Rattle.starlark_spec.specs.Answers.Answer.{memory, broken_rule}
use Rattle.starlark_spec.specs.Grammar.{Nonterminal, ElementKind, Derivation, right_side, yield_of}
use Rattle.starlark_spec.specs.Grammar.Nonterminal.{Module, OptionalList}
use Rattle.starlark_spec.specs.Trees.{begin_of, end_of_last}
use Rattle.starlark_lexer.specs.Kinds.{is, token_of}
use Rattle.starlark_spec.specs.Machine.States.{Place, State}
use Rattle.starlark_spec.specs.Machine.States.State.{read, done}
use Rattle.starlark_spec.specs.Machine.Sight.{token, look_at}
use Rattle.starlark_spec.specs.Machine.Moves.{Keep, Take, Fail}
use Rattle.starlark_spec.specs.Machine.Faults.{Moves, Refuses, ruled}
use Rattle.starlark_parse_cursor.specs.declared.cursor.Cursor.{Cursor}
use Rattle.starlark_spec.specs.declared.refusal.Refusal.{Refusal}
use Rattle.starlark_spec.specs.Refusals.{refused}
use Rattle.starlark_parse_cursor.specs.Reading.{at, At, Advances, Ready, begin_at, left_at, stop_at}

abbrev pub CodeName : Type 0
CodeName = Spanned (String Global)

-- ---- the cursor afterwards

module _ {S : Type 0} (can : S → Type 0) (left : S → Count) (steps : S → Option CodeLexeme → S → Type 0) where
  -- at least one token was consumed, unless the result is an error
  pub record MovesOn {V E : Type 0} (a : Cursor S) (r : Result V E) (b : Cursor S) : Type 0 where
    pub same_reference : b.lexemes.ghost_name ≡ a.lexemes.ghost_name
    pub ready : OnOk r (Ready can left steps (at b))
    pub fewer : OnOk r (left_at left (at b) < left_at left (at a))
    pub later : OnOk r (begin_at (at a) ≤ b.end.byte)

  -- the same, but perhaps no token was consumed
  pub record MayMove {V E : Type 0} (a : Cursor S) (r : Result V E) (b : Cursor S) : Type 0 where
    pub same_reference : b.lexemes.ghost_name ≡ a.lexemes.ghost_name
    pub ready : OnOk r (Ready can left steps (at b))
    pub fewer : OnOk r (left_at left (at b) ≤ left_at left (at a))
    pub later : OnOk r (a.end.byte ≤ b.end.byte)

  -- one token was consumed if there is a value, and otherwise none
  pub record TakesOne {V : Type 0} (a : Cursor S) (r : Option V) (b : Cursor S) : Type 0 where
    pub same_reference : b.lexemes.ghost_name ≡ a.lexemes.ghost_name
    pub ready : Ready can left steps (at b)
    pub fewer : IfSome r (λ _. left_at left (at b) < left_at left (at a))
    pub later : IfSome r (λ _. begin_at (at a) ≤ b.end.byte)

-- ---- what was read

module _ {S : Type 0} (steps : S → Option CodeLexeme → S → Type 0) where
  -- the machine goes from a state and a cursor to others, and no rule is violated on the way
  pub data Goes : State Module → At S → State Module → At S → Type 0 where
    stays : {s : State Module} {a : At S} → Goes s a s a
    keeps : {s t u : State Module} {a c : At S} → ruled a.types s (look_at a.sight) ≡ Moves (Keep t) → Goes t a u c → Goes s a u c
    takes : {s t u : State Module} {a b c : At S} {x : Lexeme} → Advances steps a x b → ruled a.types s (look_at (token x)) ≡ Moves (Take t) → Goes t b u c
        → Goes s a u c

  -- the machine reaches that cursor
  pub record Comes (s : State Module) (a b : At S) : Type 0 where
    pub state : State Module
    pub goes : Goes s a state b

  -- the machine gets stuck there
  pub record Sticks (s : State Module) (a b : At S) : Type 0 where
    pub state : State Module
    pub goes : Goes s a state b
    pub fails : ruled b.types state (look_at b.sight) ≡ Moves Fail

  -- the machine reaches a violated rule there
  pub record Breaks (s : State Module) (a b : At S) (f : Fault) : Type 0 where
    pub state : State Module
    pub goes : Goes s a state b
    pub refuses : ruled b.types state (look_at b.sight) ≡ Refuses f

  -- An error where the machine may be at any i: out of memory only determines where the cursor is; a rule is violated; any other error
  -- names the item at which the machine gets stuck.
  pub data FailsFrom {I : Type 0} (from : I → State Module) (a b : At S) : Answer → Type 0 where
    no_memory : ((i : I) → Comes (from i) a b) → FailsFrom from a b memory
    sticks : {r : Answer} → r ≡ stop_at b → ((i : I) → Sticks (from i) a b) → FailsFrom from a b r
    breaks : {r : Answer} (f : Fault) → r ≡ broken_rule f → ((i : I) → Breaks (from i) a b f) → FailsFrom from a b r

  -- A derivation read from a state that belongs to its place. Its first token begins at `begin`, and its last is the last one consumed.
  pub record Found {n : Nonterminal} (from : Place Module n → State Module) (begin : ℕ) (Means : Derivation n → Type 0) (a b : At S) : Type 0 where
    pub derivation : Derivation n
    pub means : Means derivation
    pub begin_is : (rest : List Lexeme) → begin_of (yield_of derivation rest) ≡ begin
    pub end_is : (before : ℕ) → b.end ≡ end_of_last (right_side derivation) before
    pub goes : (p : Place Module n) → Goes (from p) a (done derivation p) b

  -- the result of reading the rest of a nonterminal
  abbrev pub ParsesFrom : {V : Type 0} {n : Nonterminal} → (Place Module n → State Module) → ℕ → (V → Derivation n → Type 0) → At S → Result V Refusal
      → At S → Type 0
  ParsesFrom from begin Means a (Ok v) b = Found from begin (Means v) a b
  ParsesFrom from begin Means a (Err e) b = FailsFrom from a b (refused e)

  -- the result of reading a nonterminal
  abbrev pub Parses : {V : Type 0} (n : Nonterminal) → (V → Derivation n → Type 0) → At S → Result V Refusal → At S → Type 0
  Parses n Means a r b = ParsesFrom (λ (p : Place Module n). read n p) (begin_at a) Means a r b

  -- the result of reading further from any of the states that the machine may be in
  abbrev pub Gives : {V I : Type 0} → (I → State Module) → (V → At S → Type 0) → At S → Result V Refusal → At S → Type 0
  Gives from Finds a (Ok v) b = Finds v b
  Gives from Finds a (Err e) b = FailsFrom from a b (refused e)

  -- What is read if it may have no tokens: then the last token is the one before it.
  pub record FoundPerhaps {n : Nonterminal} (Means : Derivation n → Type 0) (a b : At S) : Type 0 where
    pub derivation : Derivation n
    pub means : Means derivation
    pub end_is : b.end ≡ end_of_last (right_side derivation) a.end
    pub goes : (p : Place Module n) → Goes (read n p) a (done derivation p) b

  abbrev pub ParsesPerhaps : {V : Type 0} (n : Nonterminal) → (V → Derivation n → Type 0) → At S → Result V Refusal → At S → Type 0
  ParsesPerhaps n Means a r b = Gives (λ (p : Place Module n). read n p) (λ v c. FoundPerhaps (Means v) a c) a r b

  -- A list that is read. If there is no item, nothing is consumed.
  pub record FoundOptionalList {k : ElementKind} (Means : Derivation (OptionalList k) → Type 0) (a b : At S) : Type 0 where
    pub derivation : Derivation (OptionalList k)
    pub means : Means derivation
    pub goes : (p : Place Module (OptionalList k)) → Goes (read (OptionalList k) p) a (done derivation p) b

  abbrev pub ParsesOptionalList : {V : Type 0} (k : ElementKind) → (V → At S → Derivation (OptionalList k) → Type 0) → At S → Result V Refusal → At S → Type 0
  ParsesOptionalList k Means a r b = Gives (λ (p : Place Module (OptionalList k)). read (OptionalList k) p) (λ v c. FoundOptionalList (Means v c) a c) a r b

  -- ---- tokens

  -- the result of consuming a token of a kind, if the kind has no contents
  abbrev pub Takes : Kind → At S → Option CodeSpan → At S → Type 0
  Takes kind a (Some span) b = Advances steps a (lexeme (token_of kind) (span_of span)) b
  Takes kind a None b = (is (look_at a.sight).kind kind ≡ false) × (b ≡ a)

  -- the same if the token is required
  abbrev pub Expects : Kind → At S → Result CodeSpan Refusal → At S → Type 0
  Expects kind a (Ok span) b = Advances steps a (lexeme (token_of kind) (span_of span)) b
  Expects kind a (Err e) b = (is (look_at a.sight).kind kind ≡ false) × (refused e ≡ stop_at b) × (b ≡ a)

  -- the result of consuming a name
  abbrev pub TakesName : At S → Result CodeName Refusal → At S → Type 0
  TakesName a (Ok name) b = Advances steps a (lexeme (terminals.Identifier (string_bytes name.node)) (span_of name.span)) b
  TakesName a (Err e) b = (is (look_at a.sight).kind kinds.Identifier ≡ false) × (refused e ≡ stop_at b) × (b ≡ a)

  -- the result of consuming a string
  abbrev pub TakesString : At S → Result CodeName Refusal → At S → Type 0
  TakesString a (Ok text) b = Advances steps a (lexeme (terminals.String (string_bytes text.node)) (span_of text.span)) b
  TakesString a (Err e) b = (is (look_at a.sight).kind kinds.String ≡ false) × (refused e ≡ stop_at b) × (b ≡ a)

-- what a suffix of an operand begins with
abbrev pub starts_suffix : Kind → Bool
starts_suffix kinds.Dot = true
starts_suffix kinds.OpeningSquare = true
starts_suffix kinds.OpeningRound = true
starts_suffix _ = false

-- an expression that is read ends before it: the next item is not a suffix, not an operator and not `if`
abbrev pub ends_expression : Kind → Bool
ends_expression kinds.Newline = true
ends_expression kinds.Comma = true
ends_expression kinds.Semicolon = true
ends_expression kinds.Colon = true
ends_expression kinds.Equal = true
ends_expression kinds.ClosingRound = true
ends_expression kinds.ClosingSquare = true
ends_expression kinds.ClosingCurly = true
ends_expression kinds.Else = true
ends_expression kinds.For = true
ends_expression _ = false
