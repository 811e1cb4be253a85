-- The nodes of programs that may break a rule, and where they occur.
use Rattle.std.specs.Prelude.{◌≡◌, List, [], ◌∷◌, ◌++◌, map, ⊤, ◌⊎◌, Bool, true, false}
use Rattle.starlark_lexer.specs.Tokens.{Span, Lexeme, Terminal}
use Rattle.starlark_lexer.specs.Tokens as tokens
use Rattle.starlark_spec.specs.Items.{Ending, at_end, fails, out_of_memory}
use Rattle.starlark_spec.specs.Grammar.{Nonterminal, ElementKind, Derivation, Node, node, RightSide, side_yield, right_side, yield_of, Derives}
use Rattle.starlark_spec.specs.Grammar as G
use Rattle.starlark_spec.specs.Grammar.RightSide.{◌⨾◌}

-- an occurrence of a node: the tokens before it, the node, and its own tokens
pub record Occurrence : Type 0 where
  pub before : List Lexeme
  pub node : Node
  pub own : List Lexeme

-- the same occurrence after further tokens
abbrev pub shifted : List Lexeme → Occurrence → Occurrence
shifted tokens h = record h { before = tokens ++ h.before }

-- the occurrences of marked nodes in a right side, in the order in which they end
abbrev pub occurrences : RightSide → List Occurrence
occurrences G.nothing = []
occurrences (G.word token span) = []
occurrences (a ⨾ b) = occurrences a ++ map (shifted (side_yield a [])) (occurrences b)
occurrences G.tokens_end = []
occurrences (G.marked x a) = occurrences a ++ record { before = []; node = x; own = side_yield a [] } ∷ []

abbrev pub IsMember : {A : Type 0} → A → List A → Type 0
IsMember x [] = ⊥
IsMember x (y ∷ ys) = (x ≡ y) ⊎ IsMember x ys

-- a node occurs: some program that begins with the tokens before it and its own has it there
pub record Stands (h : Occurrence) : Type 0 where
  pub more : List Lexeme
  pub derivation : Derivation G.Module
  pub derives : Derives G.Module (h.before ++ (h.own ++ more)) [] derivation
  pub occurs : IsMember h (occurrences (right_side derivation))

-- a node can be extended by a token: its tokens, this one, and perhaps others after it derive its nonterminal
pub data CanBeExtendedBy : Node → Lexeme → Type 0 where
  extended : {n : _} {d : Derivation n} {x : Lexeme} (longer : Derivation n) (more : List Lexeme) → Derives n (yield_of d (x ∷ more)) [] longer
      → CanBeExtendedBy (node d) x

-- whether the last token of a derivation ends a comparison
abbrev pub ends_with_comparison : {n : Nonterminal} → Derivation n → Bool
ends_with_comparison (G.small_return_value return_at value) = ends_with_comparison value
ends_with_comparison (G.small_test d) = ends_with_comparison d
ends_with_comparison (G.small_assign left annotation sign sign_at right) = ends_with_comparison right
ends_with_comparison (G.list_plain d) = ends_with_comparison d
ends_with_comparison (G.note_test d) = ends_with_comparison d
ends_with_comparison (G.test_or d) = ends_with_comparison d
ends_with_comparison (G.test_if value if_at test else_at other) = ends_with_comparison other
ends_with_comparison (G.test_lambda lambda_at params colon_at body) = ends_with_comparison body
ends_with_comparison (G.left_one is_operand operand) = ends_with_comparison operand
ends_with_comparison (G.left_more is_operand left sign sign_at right) = ends_with_comparison right
ends_with_comparison (G.not_not not_at operand) = ends_with_comparison operand
ends_with_comparison (G.not_comp d) = ends_with_comparison d
ends_with_comparison (G.comp_two left sign right) = true
ends_with_comparison (G.for_clause for_at vars in_at source) = ends_with_comparison source
ends_with_comparison (G.comma_list_one is_element element) = ends_with_comparison element
ends_with_comparison (G.comma_list_more is_element listed comma_at element) = ends_with_comparison element
ends_with_comparison _ = false

-- the tokens that begin the operator of a comparison
abbrev pub begins_comparison : Terminal → Bool
begins_comparison tokens.EqualEqual = true
begins_comparison tokens.BangEqual = true
begins_comparison tokens.LessThan = true
begins_comparison tokens.GreaterThan = true
begins_comparison tokens.LessEqual = true
begins_comparison tokens.GreaterEqual = true
begins_comparison tokens.In = true
begins_comparison tokens.Not = true
begins_comparison _ = false

-- whether a loop's block lacks its Dedent
abbrev pub is_open : {n : Nonterminal} → Derivation n → Bool
is_open (G.for_loop f d i e c (G.suite_open n ns s b)) = true
is_open _ = false

abbrev pub is_open_node : Node → Bool
is_open_node (node d) = is_open d

-- A node is kept open by a token that does not extend it. The operator of a comparison keeps open what ends in a comparison, and `not` keeps open loop
-- variables with a comma: the token is reported before any rule is tested. Each token keeps open a loop whose block lacks its Dedent.
pub data KeptOpenBy : Node → Lexeme → Type 0 where
  compared : {n : Nonterminal} {d : Derivation n} {x : Lexeme} → ends_with_comparison d ≡ true → begins_comparison x.token ≡ true → KeptOpenBy (node d) x
  not_after_variables : {d : Derivation (G.CommaList ElementKind.variables)} {c : Span} {x : Lexeme}
      → x.token ≡ tokens.Not → KeptOpenBy (node (G.vars_comma d c)) x
  open_loop : {n : Nonterminal} {d : Derivation n} {x : Lexeme} → is_open d ≡ true → KeptOpenBy (node d) x

-- The item after a node closes it: it is the end, an error of the lexer, or a token that neither extends the node nor keeps it open. A loop whose block lacks
-- its Dedent is closed only by the end. Out of memory closes nothing.
abbrev pub IsClosedBy : Node → List Lexeme → Ending → Type 0
IsClosedBy x [] at_end = ⊤
IsClosedBy x [] (fails e) = is_open_node x ≡ false
IsClosedBy x [] out_of_memory = ⊥
IsClosedBy x (l ∷ rest) z = (¬ CanBeExtendedBy x l) × (¬ KeptOpenBy x l)
