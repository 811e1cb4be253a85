-- From the machine's runs to the answers for all that an iterator may return.
use Rattle.std.proofs.Common.{◌≡◌, ℕ, true, List, [], ◌∷◌, ◌++◌, Option, Some, None, Result, Ok, Err, refl, sym, ◌∙◌, ap, subst}
use Rattle.starlark_lexer.specs.declared.token.LexerErrorKind.{LexerErrorKind}
use Rattle.starlark_lexer.specs.declared.token.LexerErrorKind.TheVariants as kinds
use Rattle.starlark_lexer.specs.Tokens.{Lexeme, LexerFault, fault_of}
use Rattle.starlark_lexer.specs.Lexer.{CodeLexeme}
use Rattle.starlark_lexer.specs.declared.dialect.DialectTypes.{DialectTypes}
use Rattle.starlark_parse_held.specs.declared.statement.HeldStmt.{HeldStmt}
use Rattle.starlark_spec.specs.Faults.{Fault}
use Rattle.starlark_spec.specs.Items.{Ending, at_end, fails, out_of_memory, ending_in}
use Rattle.starlark_spec.specs.Grammar.{Nonterminal, Derivation}
use Rattle.starlark_spec.specs.Grammar.Nonterminal.{Module}
use Rattle.starlark_spec.specs.Trees.{module_tree}
use Rattle.starlark_spec.specs.Answers.{Answer, end_of}
use Rattle.starlark_spec.specs.Answers.Answer.{module_of, memory, broken_rule}
use Rattle.starlark_spec.specs.Machine.States.{State, Place, top, module_root}
use Rattle.starlark_spec.specs.Machine.States.State.{read, done}
use Rattle.starlark_spec.specs.Machine.Sight.{Sight, token, ending, sight, look_at}
use Rattle.starlark_spec.specs.Machine.Moves.{Move, move}
use Rattle.starlark_spec.specs.Machine.Faults.{Refuses, fault_at, judged, in_time, node_fault}
use Rattle.starlark_spec.specs.Machine.Steps.{start, module_done, config, Clean}
use Rattle.starlark_spec.specs.Machine.Answers.{stop_of}
use Rattle.starlark_spec.specs.declared.refusal.Refusal.{Refusal}
use Rattle.starlark_spec.specs.Refusals.{refused}
use Rattle.starlark_parse_cursor.specs.Reading.{At, Pulls, item_of, IsItem}
use Rattle.starlark_parse_cursor.specs.Contract.{Sticks, Breaks, FailsFrom, FailsFrom.no_memory, FailsFrom.sticks, FailsFrom.breaks}
use Rattle.starlark_parse.specs.Stmt.Runs.{AnswersFrom, AnswersAfter, IsLastItem}
use Rattle.starlark_parse.specs.Stmt.Modules.{ParsesModule, answered}
use Rattle.starlark_parse.proofs.StmtLemmas.ListAnswers.{ended, stops_after, finishes_after, wants_after, breaks_after}
use Rattle.starlark_parse_cursor.proofs.TokenRuns.{token_run, end_after, no_fault}
use Rattle.starlark_parse.proofs.StmtLemmas.CallAnswers.{answers_from}

end_after-of : (ts : List Lexeme) (x : Lexeme) → end_after 0 (x ∷ ts) ≡ end_of (x ∷ ts)
end_after-of [] x = refl
end_after-of (y ∷ ts) x = end_after-of ts y

end_of_all : (ts : List Lexeme) → end_after 0 ts ≡ end_of ts
end_of_all [] = refl
end_of_all (x ∷ ts) = end_after-of ts x

-- ---- the last call, by the item that it returned

ending_same : {y z : Ending} → ending y ≡ ending z → y ≡ z
ending_same e = cc

token_same : {x y : Lexeme} → token x ≡ token y → x ≡ y
token_same e = cc

no_end_in : (kind : LexerErrorKind) (fault : LexerFault) → at_end ≡ ending_in kind fault → ⊥
no_end_in kinds.Memory fault e = cc
no_end_in kind fault e = cc

last_end : (l : Option CodeLexeme) → ending at_end ≡ item_of l → l ≡ None
last_end None e = refl
last_end (Some (Ok y)) e = cc
last_end (Some (Err y)) e = absurd (no_end_in y.kind (fault_of y) (ending_same e))

same_fault : (kind : LexerErrorKind) (fault f : LexerFault) → fails f ≡ ending_in kind fault → fault ≡ f
same_fault kinds.Memory fault f e = cc
same_fault kind fault f e = cc

-- the item that is reported when the machine stops is the last one
last_stop : (k : Sight) (end : ℕ) (l : Option CodeLexeme) → IsItem l → k ≡ item_of l → IsLastItem l (stop_of k end)
last_stop (token x) end None i e = cc
last_stop (token x) end (Some (Ok y)) i e = (i, ap (λ (x : Lexeme). x.span) (sym (token_same e)))
last_stop (token x) end (Some (Err y)) i e = cc
last_stop (ending at_end) end l i e = last_end l e
last_stop (ending (fails f)) end None i e = cc
last_stop (ending (fails f)) end (Some (Ok y)) i e = cc
last_stop (ending (fails f)) end (Some (Err y)) i e = same_fault y.kind (fault_of y) f (ending_same e)
last_stop (ending out_of_memory) end l i e = tt

-- no rule is reported if memory ran out
last_rule : (f : Fault) (k : Sight) (l : Option CodeLexeme) → IsItem l → k ≡ item_of l → (k ≡ ending out_of_memory → ⊥) → IsLastItem l (broken_rule f)
last_rule f k None i e n = tt
last_rule f k (Some (Ok y)) i e n = i
last_rule f k (Some (Err y)) i e n = λ o. n (e ∙ ap (λ z. ending z) o)

no_rule : (y : DialectTypes) (s : State Module) (f : Fault) (k : Sight) → fault_at y s (look_at k) ≡ Some f → k ≡ ending out_of_memory → ⊥
no_rule y s f k h e = wanting_says_none y s f (ap (λ x. fault_at y s (look_at x)) (sym e) ∙ h)
  where
    never : (o : Option Fault) (f : Fault) → in_time true o ≡ Some f → ⊥
    never None f h = cc
    never (Some g) f h = cc

    wanting_says_none : (y : DialectTypes) (s : State Module) (f : Fault) → fault_at y s (look_at (ending out_of_memory)) ≡ Some f → ⊥
    wanting_says_none y (done {n} d p) f h = never (node_fault y n d (look_at (ending out_of_memory))) f h
    wanting_says_none y s f h = cc

is_fault : {b : Nonterminal} (o : Option Fault) (m : Move b) (f : Fault) → judged o m ≡ Refuses f → o ≡ Some f
is_fault None m f e = cc
is_fault (Some g) m f e = cc

-- nothing comes after the end
at_the_end : (z : Ending) (rest : List Lexeme) → ending at_end ≡ sight z rest → (rest ≡ []) × (z ≡ at_end)
at_the_end z [] e = (refl, sym (ending_same e))
at_the_end z (x ∷ rest) e = cc

module _ {S : Type 0} {steps : S → Option CodeLexeme → S → Type 0} where
  stuck : {a b : At S} {o : S} → Pulls steps o a.sight a.state → a.end ≡ 0 → Sticks steps start a b
      → AnswersFrom steps a.types o (stop_of b.sight b.end) b.state
  stuck {a = a} {b = b} {o = o} p z h =
      let q = token_run h.goes in
      let c = q.calls o p in
      let f = no_fault _ _ _ h.fails in
      let end : b.end ≡ end_of q.tokens = q.end_is ∙ ap (λ n. end_after n q.tokens) z ∙ end_of_all q.tokens in
      answers_from a.types _ c (last_stop b.sight b.end c.last c.is_item c.sight_is) (λ y rest e.
      subst (λ x. AnswersAfter q.tokens a.types (ended (q.tokens ++ rest) y) x) (ap (λ k. stop_of k (end_of q.tokens)) (sym e)
      ∙ ap (λ n. stop_of b.sight n) (sym end))
      (stops_after a.types q.tokens rest y h.state (q.clean y rest e)
      (ap (λ k. fault_at a.types h.state (look_at k)) (sym e) ∙ ap (λ t. fault_at t h.state (look_at b.sight)) (sym q.same_types) ∙ f.0)
      (ap (λ k. move h.state (look_at k)) (sym e) ∙ f.1)))

  ruled_out : {a b : At S} {o : S} → Pulls steps o a.sight a.state → (f : Fault) → Breaks steps start a b f
      → AnswersFrom steps a.types o (broken_rule f) b.state
  ruled_out {a = a} {b = b} {o = o} p f h =
      let q = token_run h.goes in
      let c = q.calls o p in
      let g : fault_at a.types h.state (look_at b.sight) ≡ Some f = ap (λ t. fault_at t h.state (look_at b.sight)) (sym q.same_types)
      ∙ is_fault _ _ _ h.refuses in
      answers_from a.types _ c (last_rule f b.sight c.last c.is_item c.sight_is (no_rule a.types h.state f b.sight g)) (λ y rest e.
      breaks_after a.types q.tokens rest y h.state f (q.clean y rest e) (ap (λ k. fault_at a.types h.state (look_at k)) (sym e) ∙ g))

  refuses : {a : At S} (b : At S) {o : S} → Pulls steps o a.sight a.state → a.end ≡ 0 → (r : Answer)
      → FailsFrom steps (λ (p : Place Module Module). read Module p) a b r → AnswersFrom steps a.types o r b.state
  refuses {a = a} b {o = o} p z memory (no_memory w) =
      let q = token_run (w (top module_root)).goes in
      answers_from a.types memory (q.calls o p) tt (λ y rest e. wants_after a.types q.tokens (ended (q.tokens ++ rest) y))
  refuses {a = a} b {o = o} p z r (breaks f e h) = subst (λ x. AnswersFrom steps a.types o x b.state) (sym e) (ruled_out p f (h (top module_root)))
  refuses {a = a} b {o = o} p z r (sticks e h) = subst (λ x. AnswersFrom steps a.types o x b.state) (sym e) (stuck p z (h (top module_root)))

  -- the answer of a parse that began at the iterator's first item
  pub promised : {a : At S} (b : At S) {o : S} → Pulls steps o a.sight a.state → a.end ≡ 0 → (r : Result HeldStmt Refusal) → ParsesModule steps a r b
      → AnswersFrom steps a.types o (answered r) b.state
  promised {a = a} b {o = o} p z (Ok s) f =
      let q = token_run f.goes in
      let c = q.calls o p in
      subst (λ x. AnswersFrom steps a.types o (module_of x) b.state) (sym f.tree_is)
      (answers_from a.types (module_of (module_tree f.derivation)) c (last_end c.last (sym f.at_end ∙ c.sight_is)) (λ y rest e.
      let k = at_the_end y rest (sym f.at_end ∙ e) in
      finishes_so a.types q.tokens f.derivation y rest k.0 k.1 (q.clean y rest e)))
    where
      finishes_so : (y : DialectTypes) (ts : List Lexeme) (d : Derivation Module) (z : Ending) (rest : List Lexeme) → rest ≡ [] → z ≡ at_end
          → Clean y z (config start (ts ++ rest)) (config (module_done d) rest)
          → AnswersAfter ts y (ended (ts ++ rest) z) (module_of (module_tree d))
      finishes_so y ts d at_end [] h k q = finishes_after y ts d q
      finishes_so y ts d at_end (x ∷ rest) h k q = cc
      finishes_so y ts d z rest h k q = cc
  promised b p z (Err e) f = refuses b p z (refused e) f

  -- the same for the types and the state of the cursor
  pub promised_at : {a : At S} (b : At S) {o : S} (y : DialectTypes) (t : S) → Pulls steps o a.sight a.state → a.end ≡ 0 → a.types ≡ y
      → (r : Result HeldStmt Refusal) → ParsesModule steps a r b → t ≡ b.state → AnswersFrom steps y o (answered r) t
  promised_at {a = a} b {o = o} y t p z same r f e =
      subst (λ x. AnswersFrom steps x o (answered r) t) same (subst (λ x. AnswersFrom steps a.types o (answered r) x) (sym e) (promised b p z r f))
