-- The state after tokens, and the limit before each of them.
use Rattle.std.proofs.Common.{◌≡◌, ℕ, ◌≤◌, ◌&&◌, Bool, true, false, nat_lt, if◌then◌else◌, List, [], ◌∷◌, Option, Some, None}
use Rattle.std.proofs.Common.{Result, Ok, Err, refl, sym, ap, subst}
use Rattle.std.proofs.lemmas.Bool.{ltb-false}
use Rattle.std.specs.Bool.{⊤}
use Rattle.starlark_lexer.specs.Tokens.{Lexeme, LexerFault, Terminal}
use Rattle.starlark_lexer.specs.Tokens as tokens
use Rattle.starlark_spec.specs.Grammar.{RightSide, side_yield, side_condition}
use Rattle.starlark_spec.specs.Grammar.RightSide.{nothing, word, ◌⨾◌, marked, tokens_end}
use Rattle.starlark_spec.specs.Items.{items, is_comment}
use Rattle.starlark_depth.specs.Depths.{State, effect, applied, step, state_depth}
use Rattle.starlark_depth.specs.Limited.{limit_at, limited_from}
use Rattle.starlark_depth.specs.declared.effect.Effect.{Effect}
use Rattle.starlark_depth.specs.declared.effect.Effect.TheVariants as effects
use Rattle.starlark_spec.proofs.Constructors.{not_true}

-- The state after a right side. A block that the end of the tokens closes is closed as by a token.
abbrev pub run : RightSide → State → State
run nothing s = s
run (word token span) s = step (effect token) s
run (a ⨾ b) s = run b (run a s)
run (marked x a) s = run a s
run tokens_end s = applied effects.Dedent s

-- what is done one after another: by a token, or, for None, by the end of the tokens if that closes a block
abbrev pub Moves : Type 0
Moves = List (Option Effect)

-- what a right side does, and then more
abbrev pub moves : RightSide → Moves → Moves
moves nothing more = more
moves (word token span) more = Some (effect token) ∷ more
moves (a ⨾ b) more = moves a (moves b more)
moves (marked x a) more = moves a more
moves tokens_end more = None ∷ more

module _ (n : ℕ) where
  abbrev AreBelow : State → Type 0
  AreBelow s = state_depth s ≤ n

  -- nothing is deeper than n before each token
  abbrev pub Below : State → Moves → Type 0
  Below s [] = ⊤
  Below s (Some e ∷ more) = AreBelow s × Below (step e s) more
  Below s (None ∷ more) = Below (applied effects.Dedent s) more

  -- the same of lexemes
  abbrev pub Within : State → List Lexeme → Type 0
  Within s [] = ⊤
  Within s (l ∷ ls) = AreBelow s × Within (step (effect l.token) s) ls

  listed : (l : Lexeme) (ls : List (Result Lexeme LexerFault)) (u : State) (f : State → List (Result Lexeme LexerFault)) (b : Bool)
      → nat_lt n (state_depth u) ≡ b → limit_at l (if b then None else Some u) f ≡ Ok l ∷ ls → AreBelow u × (f u ≡ ls)
  listed l ls u f true less is = cc
  listed l ls u f false less is = (ltb-false n (state_depth u) less, cc)

  skipped : (b : Bool) (s t : State) → (if b && false then t else s) ≡ s
  skipped true s t = refl
  skipped false s t = refl

  comment_step : (t : Terminal) (s : State) → is_comment t ≡ true → step (effect t) s ≡ s
  comment_step (tokens.Comment text) s is = ap (applied effects.Comment) (skipped s.line_starts s _)
  comment_step _ s is = not_true is

  placed : (s : State) (l : Lexeme) (ls : List (Result Lexeme LexerFault)) (b : Bool) → is_comment l.token ≡ b → AreBelow s
      → Within (step (effect l.token) s) (items ls).tokens
      → Within s (if b then items ls else record { tokens = l ∷ (items ls).tokens; ending = (items ls).ending }).tokens
  placed s l ls true comment h w = subst (λ x. Within x (items ls).tokens) (comment_step l.token s comment) w
  placed s l ls false comment h w = (h, w)

  -- lexemes that the limit leaves as they are
  pub within_items : (s : State) (ls : List (Result Lexeme LexerFault)) → limited_from n s ls ≡ ls → AreBelow s → Within s (items ls).tokens
  within_items s [] is h = tt
  within_items s (Ok l ∷ ls) is h =
      let u = step (effect l.token) s in
      let (below, more) = listed l ls u (λ t. limited_from n t ls) (nat_lt n (state_depth u)) refl is in
      placed s l ls (is_comment l.token) refl h (within_items u ls more below)
  within_items s (Err e ∷ ls) is h = tt

  -- lexemes that are those of a right side and then others
  pub within_side : (a : RightSide) (rest : List Lexeme) (T : Type 0) (s : State) (more : Moves) → side_condition a rest T
      → Within s (side_yield a rest) → ((t : State) → T → Within t rest → Below t more) → Below s (moves a more)
  within_side nothing rest T s more c w f = f s c w
  within_side (word token span) rest T s more c w f = (w.0, f (step (effect token) s) c w.1)
  within_side (a ⨾ b) rest T s more c w f =
      within_side a (side_yield b rest) (side_condition b rest T) s (moves b more) c w (λ t d v. within_side b rest T t more d v f)
  within_side (marked x a) rest T s more c w f = within_side a rest T s more c w f
  within_side tokens_end rest T s more c w f = let end = applied effects.Dedent s in f end c.1 (subst (Within end) (sym c.0) tt)

  after_side : (a : RightSide) (s : State) (more : Moves) → Below s (moves a more) → Below (run a s) more
  after_side nothing s more w = w
  after_side (word token span) s more w = w.1
  after_side (a ⨾ b) s more w = after_side b (run a s) more (after_side a s (moves b more) w)
  after_side (marked x a) s more w = after_side a s more w
  after_side tokens_end s more w = w

  -- what follows a right side
  pub after : (a : RightSide) (s : State) {t : State} (more : Moves) → run a s ≡ t → Below s (moves a more) → Below t more
  after a s more is w = subst (λ z. Below z more) is (after_side a s more w)
