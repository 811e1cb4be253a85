-- The state of the lexer without positions, and the tokens that it returns from there on.
use Rattle.std.proofs.Common.{◌≡◌, ℕ, zero, suc, ◌+◌, ◌*◌, ◌<◌, ◌≤◌, Bool, true, false, List, [], ◌∷◌, ◌++◌, length, Some, None, Ok, refl, ap, ◌∙◌, arith}
use Rattle.std.proofs.Common.{map}
use Rattle.starlark_lexer.specs.declared.f_string.FString.{FString}
use Rattle.starlark_lexer.specs.Tokens.{Text, Terminal, Span, Lexeme, lexeme}
use Rattle.starlark_lexer.specs.Lexemes.{State, start, step, left, and_then, lexemes_from, lexemes}
use Rattle.starlark_lexer.proofs.TokenTexts.StringBytes.{marks}

-- How many delimiters and holes are open, whether a line begins, how many blocks are open, and the open f-strings, the innermost first:
-- each as how many delimiters and holes are open around it.
pub record Standing : Type 0 where
  pub depth : ℕ
  pub line_begins : Bool
  pub blocks : ℕ
  pub frames : List ℕ

-- each block is indented by four spaces more
abbrev pub levels_of : ℕ → List ℕ
levels_of zero = []
levels_of (suc n) = levels_of n ++ (4 * suc n) ∷ []

-- these f-strings are open, each between quotation marks
abbrev pub AreOpen : List ℕ → List FString → Type 0
AreOpen [] fs = fs ≡ []
AreOpen (d ∷ ds) fs = (f : FString) × (more : List FString) × (fs ≡ more ++ f ∷ []) × (f.style ≡ marks false true) × (f.depth ≡ d) × AreOpen ds more

abbrev pub state : ℕ → Text → Standing → List FString → State
state at rest c fs = record { at = at; rest = rest; depth = c.depth; line_begins = c.line_begins; levels = levels_of c.blocks; f_strings = fs; ended = false }

-- the lexer returns these tokens from a state on, and nothing more
abbrev pub Lexes : List Terminal → State → Type 0
Lexes [] s = step s ≡ None
Lexes (t ∷ ts) s = (b : Span) × (u : State) × (step s ≡ Some (Ok (lexeme t b), u)) × (left u < left s) × Lexes ts u

-- the lexer returns these tokens if its state is this one and this text is left
pub record At (c : Standing) (rest : Text) (ts : List Terminal) : Type 0 where
  pub lexes : (at : ℕ) (fs : List FString) → AreOpen c.frames fs → Lexes ts (state at rest c fs)

-- a state returns what another returns
pub as_another : (ts : List Terminal) (s t : State) → step s ≡ step t → left t ≤ left s → Lexes ts t → Lexes ts s
as_another [] s t same less h = same ∙ h
as_another (x ∷ ts) s t same less h = let shorter = h.3 in (h.0, h.1, same ∙ h.2, omega arith, h.4)

-- ---- all the lexemes

lexes_few : (ts : List Terminal) (s : State) → Lexes ts s → length ts ≤ left s
lexes_few [] s h = omega arith
lexes_few (t ∷ ts) s h = let shorter = h.3 in omega (arith, lexes_few ts h.1 h.4)

none_from : (n : ℕ) (s : State) → step s ≡ None → lexemes_from n s ≡ []
none_from zero s e = refl
none_from (suc n) s e = ap (λ o. and_then o (lexemes_from n)) e

all_from : (n : ℕ) (ts : List Terminal) (s : State) → Lexes ts s → length ts ≤ n
    → (ls : List Lexeme) × (lexemes_from n s ≡ map (λ l. Ok l) ls) × (map (λ l. l.token) ls ≡ ts)
all_from n [] s h room = ([], none_from n s h, refl)
all_from zero (t ∷ ts) s h room = absurd (omega arith)
all_from (suc n) (t ∷ ts) s h room =
    let more = all_from n ts h.1 h.4 (omega arith) in (
      lexeme t h.0 ∷ more.0,
      ap (λ o. and_then o (lexemes_from n)) h.2 ∙ ap (λ xs. Ok (lexeme t h.0) ∷ xs) more.1,
      ap (λ xs. t ∷ xs) more.2,
    )

-- a text whose lexemes are these tokens, wherever they lie
pub all_lexemes : (text : Text) (ts : List Terminal) → Lexes ts (start text)
    → (ls : List Lexeme) × (lexemes text ≡ map (λ l. Ok l) ls) × (map (λ l. l.token) ls ≡ ts)
unfolding lexemes
all_lexemes text ts h = all_from (2 + 2 * length text) ts (start text) h (omega (arith, lexes_few ts (start text) h))
