-- What is due after tokens decides what may follow them.
use Rattle.std.proofs.Common.{◌≡◌, ◌≤◌, ◌<◌, ℕ, zero, suc, arith, Bool, false, List, [], ◌∷◌, ◌++◌, refl, sym, ◌∙◌, ap, subst}
use Rattle.std.proofs.Common.{append_assoc, inl}
use Rattle.std.proofs.lemmas.List.{append-nil}
use Rattle.std.specs.Bool.{⊤}
use Rattle.starlark_lexer.specs.Tokens.{Lexeme, lexeme, Terminal, large, from_to}
use Rattle.starlark_lexer.specs.Tokens as tokens
use Rattle.starlark_lexer.specs.declared.token.FStringQuote.TheVariants.{Double}
use Rattle.starlark_lexer.specs.declared.kind.Kind.{Kind}
use Rattle.starlark_lexer.specs.declared.kind.Kind.TheVariants as kinds
use Rattle.starlark_lexer.specs.Kinds.{kind_of}
use Rattle.starlark_spec.specs.Items.{Ending, at_end}
use Rattle.starlark_spec.specs.Grammar.{Derivation, right_side}
use Rattle.starlark_spec.specs.Grammar.Nonterminal.{Module}
use Rattle.starlark_spec.specs.Program.{IsProgram, BeginsProgram}
use Rattle.starlark_spec.specs.Machine.States.{State, Rooted, top, module_root}
use Rattle.starlark_spec.specs.Machine.States.State.{done}
use Rattle.starlark_spec.specs.Machine.Sight.{Look, look, no_lexeme, is_ending}
use Rattle.starlark_spec.specs.Machine.Moves.{Move, Keep, Take, Fail, Finish, move}
use Rattle.starlark_spec.specs.Machine.ReadParts.{seen}
use Rattle.starlark_spec.specs.Machine.Steps.{start, module_done, Config, config, next, Reaches, here}
use Rattle.starlark_spec.proofs.Constructors.{not_false}
use Rattle.starlark_spec.proofs.Runs.{trans, leaves, takes, same_end}
use Rattle.starlark_spec.proofs.Theorems.{each_is_read, no_program, fitted}
use Rattle.starlark_spec.proofs.CorrectAnswers.{each_begins}
use Rattle.starlark_spec.proofs.BlockEnds.{sound, whole_state}
use Rattle.starlark_spec.proofs.ConsumedTokens.{taken}
use Rattle.starlark_spec.proofs.Viable.{IsFair, IsFair.takes as fair_takes, fair}
use Rattle.starlark_spec.proofs.StepBounds.{measure, Lessens, less, finishes, lessens}
use Rattle.starlark_expected.specs.declared.word.Word.{Word}
use Rattle.starlark_expected.specs.declared.word.Word.TheVariants.{ModuleTail}
use Rattle.starlark_expected.specs.Words.{Outcome, Took, Refused, Whole, outcome}
use Rattle.starlark_expected.specs.MayFollow.{IsTook, Decides}
use Rattle.starlark_expected.proofs.Shown.{looked, shown}
use Rattle.starlark_expected.proofs.Moves.{Acts, keeps_so, takes_so, fails_so, finishes_so}
use Rattle.starlark_expected.proofs.Acts.{acts}

-- The machine has read the tokens, whatever comes after them, and these words are due.
pub record Reading (ts : List Lexeme) (due : List Word) (named : Bool) : Type 0 where
  pub state : State Module
  pub run : (z : Ending) (rest : List Lexeme) → Reaches z (config start (ts ++ rest)) (config state rest)
  pub shows : (k : Kind) → outcome due named k ≡ shown state k

pub nothing_read : Reading [] (ModuleTail ∷ []) false
nothing_read = record { state = start; run = λ z rest. here; shows = λ k. refl }

-- ---- up to the move that is decided by what comes

-- it leaves no state at that look
abbrev IsDecided : Move Module → Type 0
IsDecided (Keep t) = ⊥
IsDecided m = ⊤

record Settling (l : Look) (s : State Module) : Type 0 where
  state : State Module
  run : (z : Ending) (rest : List Lexeme) → look z rest ≡ l → Reaches z (config s rest) (config state rest)
  shows : shown state l.kind ≡ shown s l.kind
  decided : IsDecided (move state l)

settle_by : (l : Look) (s : State Module) (m : Move Module) → move s l ≡ m → Lessens s (measure s) m → Acts m l.kind (shown s l.kind)
    → ((t : State Module) → measure t < measure s → Settling l t) → Settling l s
settle_by l s (Keep t) e (less h) (keeps_so g) on =
    let k = on t h in record {
      state = k.state;
      run = λ z rest f. leaves rest (ap (λ x. move s x) f ∙ e) (k.run z rest f);
      shows = k.shows ∙ g;
      decided = k.decided;
    }
settle_by l s (Take t) e h a on = record { state = s; run = λ z rest f. here; shows = refl; decided = subst IsDecided (sym e) tt }
settle_by l s Fail e h a on = record { state = s; run = λ z rest f. here; shows = refl; decided = subst IsDecided (sym e) tt }
settle_by l s (Finish d) e h a on = record { state = s; run = λ z rest f. here; shows = refl; decided = subst IsDecided (sym e) tt }

settle_within : (n : ℕ) (l : Look) (s : State Module) → measure s ≤ n → Settling l s
settle_within zero l s h =
    settle_by l s (move s l) refl (lessens s l) (acts s l.kind l.first l.no_memory) (λ t g. absurd (omega (arith, g, h)))
settle_within (suc n) l s h =
    settle_by l s (move s l) refl (lessens s l) (acts s l.kind l.first l.no_memory) (λ t g. settle_within n l t (omega (arith, g, h)))

settle : (l : Look) (s : State Module) → Settling l s
settle l s = settle_within (measure s) l s (omega arith)

-- ---- a token more

no_took : {s : List Word} {f : Bool} → Refused ≡ Took s f → ⊥
no_took e = cc

whole_took : {s : List Word} {f : Bool} → Whole ≡ Took s f → ⊥
whole_took e = cc

same_words : {s t : List Word} {f g : Bool} → Took s f ≡ Took t g → s ≡ t
same_words e = cc

same_named : {s t : List Word} {f g : Bool} → Took s f ≡ Took t g → f ≡ g
same_named e = cc

nothing_left : (x : Lexeme) (rest : List Lexeme) → x ∷ rest ≡ [] → ⊥
nothing_left x rest e = cc

module _ (ts : List Lexeme) (due : List Word) (named : Bool) (r : Reading ts due named) (x : Lexeme) where
  abbrev there : Settling (look at_end (x ∷ [])) r.state
  there = settle (look at_end (x ∷ [])) r.state

  comes : (z : Ending) (rest : List Lexeme) → Reaches z (config start (ts ++ x ∷ rest)) (config there.state (x ∷ rest))
  comes z rest = trans (r.run z (x ∷ rest)) (there.run z (x ∷ rest) refl)

  took_by : (m : Move Module) → move there.state (look at_end (x ∷ [])) ≡ m → IsDecided m → (o : Outcome) → Acts m (kind_of x.token) o
      → (s : List Word) (f : Bool) → o ≡ Took s f → Reading (ts ++ x ∷ []) s f
  took_by (Keep t) e d o a s f h = absurd d
  took_by (Take t) e d o (takes_so {s = s1} {f = f1} g) s f h = record {
    state = t;
    run = λ z rest.
        subst (λ l. Reaches z (config start l) (config t rest)) (sym (append_assoc ts (x ∷ []) rest)) (trans (comes z rest) (takes x rest e here));
    shows = λ j. ap (λ l. outcome l f j) (sym (same_words h)) ∙ ap (λ b. outcome s1 b j) (sym (same_named h)) ∙ g j;
  }
  took_by Fail e d o fails_so s f h = absurd (no_took h)
  took_by (Finish t) e d o finishes_so s f h = absurd (whole_took h)

  refused_by : (m : Move Module) → move there.state (look at_end (x ∷ [])) ≡ m → IsDecided m → (o : Outcome) → Acts m (kind_of x.token) o
      → ((s : List Word) (f : Bool) → o ≡ Took s f → ⊥) → BeginsProgram (ts ++ x ∷ []) → ⊥
  refused_by (Keep t) e d o a h p = absurd d
  refused_by (Take t) e d o (takes_so g) h p = absurd (h _ _ refl)
  refused_by Fail e d o fails_so h p =
      no_program (ts ++ x ∷ p.0) (x ∷ p.0) there.state (comes at_end p.0) e (subst IsProgram (append_assoc ts (x ∷ []) p.0) p.1)
  refused_by (Finish t) e d o finishes_so h p =
      let q = subst IsProgram (append_assoc ts (x ∷ []) p.0) p.1 in
      let same = same_end (comes at_end p.0) (each_is_read (ts ++ x ∷ p.0) q.0 q.1) (ap (λ m. next m (config there.state (x ∷ p.0))) e) refl in
      nothing_left x p.0 (ap (λ (c : Config Module). c.rest) same)

  abbrev acted : Acts (move there.state (look at_end (x ∷ []))) (kind_of x.token) (shown there.state (kind_of x.token))
  acted = acts there.state (kind_of x.token) x false

  -- if it is consumed, this is due then
  pub took : (s : List Word) (f : Bool) → outcome due named (kind_of x.token) ≡ Took s f → Reading (ts ++ x ∷ []) s f
  took s f h =
      took_by (move there.state (look at_end (x ∷ []))) refl there.decided (shown there.state (kind_of x.token)) acted s f
      (there.shows ∙ sym (r.shows (kind_of x.token)) ∙ h)

  -- and otherwise no program begins with these tokens
  pub refused : ((s : List Word) (f : Bool) → outcome due named (kind_of x.token) ≡ Took s f → ⊥) → BeginsProgram (ts ++ x ∷ []) → ⊥
  refused h p =
      refused_by (move there.state (look at_end (x ∷ []))) refl there.decided (shown there.state (kind_of x.token)) acted
      (λ s f g. h s f (r.shows (kind_of x.token) ∙ sym there.shows ∙ g)) p

-- ---- the end

no_whole : Refused ≡ Whole → ⊥
no_whole e = cc

module _ (ts : List Lexeme) (due : List Word) (named : Bool) (r : Reading ts due named) where
  abbrev last : Settling (look at_end []) r.state
  last = settle (look at_end []) r.state

  ends_there : Reaches at_end (config start ts) (config last.state [])
  ends_there = subst (λ l. Reaches at_end (config start l) (config last.state [])) (append-nil ts) (trans (r.run at_end []) (last.run at_end [] refl))

  program : (d : Derivation Module) → Reaches at_end (config start ts) (config (module_done d) []) → IsProgram ts
  program d q =
      let t = taken q in
      let same : ts ≡ t.before = t.split ∙ append-nil t.before in
      (d, (same ∙ sym (append-nil t.before) ∙ sym (t.told []), fitted (right_side d) (whole_state (module_done d) [] (sound q (inl refl)))))

  at_root : (d : Derivation Module) (u : Rooted Module) → last.state ≡ done d (top u) → IsProgram ts
  at_root d module_root h = program d (subst (λ (s : State Module). Reaches at_end (config start ts) (config s [])) h ends_there)

  whole_by : (m : Move Module) → IsFair (seen last.state) (look at_end []) m → Lessens last.state (measure last.state) m → IsDecided m → (o : Outcome)
      → Acts m kinds.End o → o ≡ Whole → IsProgram ts
  whole_by (Keep t) fair l d o a h = absurd d
  whole_by (Take t) (fair_takes v u w i) l d o a h = not_false i
  whole_by Fail fair l d o fails_so h = absurd (no_whole h)
  whole_by (Finish e) fair (finishes {u = u} g) d o a h = at_root e u g

  unfinished_by : (m : Move Module) → move last.state (look at_end []) ≡ m → IsFair (seen last.state) (look at_end []) m → IsDecided m → (o : Outcome)
      → Acts m kinds.End o → IsProgram ts → o ≡ Whole
  unfinished_by (Keep t) e fair d o a p = absurd d
  unfinished_by (Take t) e (fair_takes v u w i) d o a p = not_false i
  unfinished_by Fail e fair d o a p = absurd (no_program ts [] last.state ends_there e p)
  unfinished_by (Finish t) e fair d o finishes_so p = refl

  pub whole : outcome due named kinds.End ≡ Whole → IsProgram ts
  whole h =
      whole_by (move last.state (look at_end [])) (fair last.state (look at_end [])) (lessens last.state (look at_end [])) last.decided
      (shown last.state kinds.End) (acts last.state kinds.End no_lexeme false) (last.shows ∙ sym (r.shows kinds.End) ∙ h)

  pub is_whole : IsProgram ts → outcome due named kinds.End ≡ Whole
  is_whole p =
      r.shows kinds.End ∙ sym last.shows ∙ unfinished_by (move last.state (look at_end [])) refl (fair last.state (look at_end [])) last.decided
      (shown last.state kinds.End) (acts last.state kinds.End no_lexeme false) p

  pub begins : BeginsProgram ts
  begins = each_begins at_end ts [] r.state (r.run at_end [])

-- ---- kinds

-- a token of each kind that a token has
some_token : (k : Kind) → is_ending k ≡ false → (t : Terminal) × (kind_of t ≡ k)
some_token kinds.Identifier e = (tokens.Identifier [], refl)
some_token kinds.Int e = (tokens.Int (large []), refl)
some_token kinds.Float e = (tokens.Float [], refl)
some_token kinds.String e = (tokens.String [], refl)
some_token kinds.Bytes e = (tokens.Bytes [], refl)
some_token kinds.Comment e = (tokens.Comment [], refl)
some_token kinds.Newline e = (tokens.Newline, refl)
some_token kinds.Indent e = (tokens.Indent, refl)
some_token kinds.Dedent e = (tokens.Dedent, refl)
some_token kinds.FStringStart e = (tokens.FStringStart Double, refl)
some_token kinds.FStringText e = (tokens.FStringText [], refl)
some_token kinds.FStringExprStart e = (tokens.FStringExprStart, refl)
some_token kinds.FStringBang e = (tokens.FStringBang, refl)
some_token kinds.FStringExprEnd e = (tokens.FStringExprEnd, refl)
some_token kinds.FStringEnd e = (tokens.FStringEnd, refl)
some_token kinds.And e = (tokens.And, refl)
some_token kinds.Break e = (tokens.Break, refl)
some_token kinds.Continue e = (tokens.Continue, refl)
some_token kinds.Def e = (tokens.Def, refl)
some_token kinds.Elif e = (tokens.Elif, refl)
some_token kinds.Else e = (tokens.Else, refl)
some_token kinds.For e = (tokens.For, refl)
some_token kinds.If e = (tokens.If, refl)
some_token kinds.In e = (tokens.In, refl)
some_token kinds.Lambda e = (tokens.Lambda, refl)
some_token kinds.Load e = (tokens.Load, refl)
some_token kinds.Not e = (tokens.Not, refl)
some_token kinds.Or e = (tokens.Or, refl)
some_token kinds.Pass e = (tokens.Pass, refl)
some_token kinds.Return e = (tokens.Return, refl)
some_token kinds.Comma e = (tokens.Comma, refl)
some_token kinds.Semicolon e = (tokens.Semicolon, refl)
some_token kinds.Colon e = (tokens.Colon, refl)
some_token kinds.Dot e = (tokens.Dot, refl)
some_token kinds.Ellipsis e = (tokens.Ellipsis, refl)
some_token kinds.MinusGreater e = (tokens.MinusGreater, refl)
some_token kinds.OpeningRound e = (tokens.OpeningRound, refl)
some_token kinds.ClosingRound e = (tokens.ClosingRound, refl)
some_token kinds.OpeningSquare e = (tokens.OpeningSquare, refl)
some_token kinds.ClosingSquare e = (tokens.ClosingSquare, refl)
some_token kinds.OpeningCurly e = (tokens.OpeningCurly, refl)
some_token kinds.ClosingCurly e = (tokens.ClosingCurly, refl)
some_token kinds.Plus e = (tokens.Plus, refl)
some_token kinds.Minus e = (tokens.Minus, refl)
some_token kinds.Star e = (tokens.Star, refl)
some_token kinds.Slash e = (tokens.Slash, refl)
some_token kinds.SlashSlash e = (tokens.SlashSlash, refl)
some_token kinds.Percent e = (tokens.Percent, refl)
some_token kinds.StarStar e = (tokens.StarStar, refl)
some_token kinds.Ampersand e = (tokens.Ampersand, refl)
some_token kinds.Pipe e = (tokens.Pipe, refl)
some_token kinds.Caret e = (tokens.Caret, refl)
some_token kinds.Tilde e = (tokens.Tilde, refl)
some_token kinds.LessLess e = (tokens.LessLess, refl)
some_token kinds.GreaterGreater e = (tokens.GreaterGreater, refl)
some_token kinds.LessThan e = (tokens.LessThan, refl)
some_token kinds.GreaterThan e = (tokens.GreaterThan, refl)
some_token kinds.LessEqual e = (tokens.LessEqual, refl)
some_token kinds.GreaterEqual e = (tokens.GreaterEqual, refl)
some_token kinds.EqualEqual e = (tokens.EqualEqual, refl)
some_token kinds.BangEqual e = (tokens.BangEqual, refl)
some_token kinds.Equal e = (tokens.Equal, refl)
some_token kinds.PlusEqual e = (tokens.PlusEqual, refl)
some_token kinds.MinusEqual e = (tokens.MinusEqual, refl)
some_token kinds.StarEqual e = (tokens.StarEqual, refl)
some_token kinds.SlashEqual e = (tokens.SlashEqual, refl)
some_token kinds.SlashSlashEqual e = (tokens.SlashSlashEqual, refl)
some_token kinds.PercentEqual e = (tokens.PercentEqual, refl)
some_token kinds.AmpersandEqual e = (tokens.AmpersandEqual, refl)
some_token kinds.PipeEqual e = (tokens.PipeEqual, refl)
some_token kinds.CaretEqual e = (tokens.CaretEqual, refl)
some_token kinds.LessLessEqual e = (tokens.LessLessEqual, refl)
some_token kinds.GreaterGreaterEqual e = (tokens.GreaterGreaterEqual, refl)
some_token kinds.Fault e = not_false e
some_token kinds.End e = not_false e

is_token : (k : Kind) (l : Look) (s : State Module) (m : Move Module) → l.kind ≡ k → IsFair (seen s) l m → IsDecided m → (o : Outcome) → Acts m k o → IsTook o
    → is_ending k ≡ false
is_token k l s (Keep t) e fair d o a h = absurd d
is_token k l s (Take t) e (fair_takes v u w i) d o a h = ap is_ending (sym e) ∙ i
is_token k l s Fail e fair d o fails_so h = absurd h
is_token k l s (Finish t) e fair d o finishes_so h = absurd h

module _ (ts : List Lexeme) (due : List Word) (named : Bool) (r : Reading ts due named) where
  is_token_there : (k : Kind) → IsTook (outcome due named k) → is_ending k ≡ false
  is_token_there k h =
      let s = settle (looked k no_lexeme false) r.state in
      is_token k (looked k no_lexeme false) s.state (move s.state (looked k no_lexeme false)) refl (fair s.state (looked k no_lexeme false)) s.decided
      (shown s.state k) (acts s.state k no_lexeme false) (subst IsTook (r.shows k ∙ sym s.shows) h)

  by_token : (k : Kind) (x : Lexeme) → kind_of x.token ≡ k → (o : Outcome) → outcome due named k ≡ o → IsTook o → BeginsProgram (ts ++ x ∷ [])
  by_token k x e (Took s f) g h = begins (ts ++ x ∷ []) s f (took ts due named r x s f (ap (outcome due named) e ∙ g))
  by_token k x e Refused g h = absurd h
  by_token k x e Whole g h = absurd h

  by_program : (k : Kind) (x : Lexeme) → kind_of x.token ≡ k → BeginsProgram (ts ++ x ∷ []) → (o : Outcome) → outcome due named k ≡ o → IsTook o
  by_program k x e p (Took s f) g = tt
  by_program k x e p Refused g = absurd (refused ts due named r x (λ s f h. no_took (sym g ∙ ap (outcome due named) (sym e) ∙ h)) p)
  by_program k x e p Whole g = absurd (refused ts due named r x (λ s f h. whole_took (sym g ∙ ap (outcome due named) (sym e) ∙ h)) p)

  -- all that is due decides what may follow
  pub decides : Decides ts due named
  decides = record {
    begins = begins ts due named r;
    follows = λ k. (
      (λ h.
          let t = some_token k (is_token_there k h) in
          (lexeme t.0 (from_to 0 0), t.1, by_token k (lexeme t.0 (from_to 0 0)) t.1 (outcome due named k) refl h)),
      (λ m. by_program k m.0 m.1 m.2 (outcome due named k) refl),
    );
    ends = (whole ts due named r, is_whole ts due named r);
  }
