use Rattle.std.proofs.Common.{◌≡◌, Some, sym, ap, ◌∙◌}
use Rattle.starlark_lexer.specs.Lexemes.{innermost, text_or_line_step, line_or_token_step, token_step}
use Rattle.starlark_lexer.specs.Lexer.{Gives, state_of}
use Rattle.starlark_lexer.proofs.RunLaws.{gives_left, gives_between, gives-live, lexer_valid, in-text, in-hole, no-f_string, at-line, in-line}
use Rattle.starlark_lexer.proofs.lexer.LexerIterator.next.Goals as goal
use Rattle.starlark_lexer.proofs.lexer.LexerIterator.next.Goals.{in-Some+else-f-self, in_default, then-self-2+in_default-line_step, else-self-2}

pub returns-then-f-self-clause-goes : goal.returns-then-f-self-clause-goes
returns-then-f-self-clause-goes c =
    let s = state_of c.args.self.now in
    let t = state_of c.text_step.new.self in
    let given = gives-live s c.text_step.result t c.if-self.false (rw (in-text s c.in-Some.f c.in-Some.ensures.last c.if-f-self.true) c.text_step.ensures) in
    let less = gives_left s c.text_step.result t (lexer_valid c.args.self.now) given in
    record { on = λ _. (tt, tt, less); keeps = tt; rests = λ _. tt }

pub returns-then-f-self-clause-steps : goal.returns-then-f-self-clause-steps
returns-then-f-self-clause-steps c =
    let s = state_of c.args.self.now in
    let t = state_of c.text_step.new.self in
    let given = gives-live s c.text_step.result t c.if-self.false (rw (in-text s c.in-Some.f c.in-Some.ensures.last c.if-f-self.true) c.text_step.ensures) in
    (given, gives_between s c.text_step.result t (lexer_valid c.args.self.now) given)

line_given : (c : goal.In-Some-line_step) → Gives (state_of c.args.self.now) (Some c.in-Some-line_step.lexeme) (state_of c.line_step.new.self)
line_given c =
    let s = state_of c.args.self.now in
    let outside : text_or_line_step s (innermost s.f_strings) ≡ line_or_token_step s =
    elim c.match-innermost.branch [
      | in-Some+else-f-self w ↦ in-hole s w.in-Some.f w.in-Some.ensures.last w.if-f-self.false
      | in_default w ↦ no-f_string s w.in_default.ensures.last
    ] in
    gives-live s c.in-Some-line_step.lexeme (state_of c.line_step.new.self) c.if-self.false
    (rw (outside, at-line s c.if-self-2.true) c.in-Some-line_step.ensures)

pub returns-in-Some-line_step-clause-goes : goal.returns-in-Some-line_step-clause-goes
returns-in-Some-line_step-clause-goes c =
    let s = state_of c.args.self.now in
    let t = state_of c.line_step.new.self in
    let less = gives_left s c.in-Some-line_step.lexeme t (lexer_valid c.args.self.now) (line_given c) in
    record { on = λ _. (tt, tt, less); keeps = tt; rests = λ _. tt }

pub returns-in-Some-line_step-clause-steps : goal.returns-in-Some-line_step-clause-steps
returns-in-Some-line_step-clause-steps c = (
  line_given c,
  gives_between (state_of c.args.self.now) c.in-Some-line_step.lexeme (state_of c.line_step.new.self) (lexer_valid c.args.self.now)
      (line_given c),
)

pub returns-clause-goes : goal.returns-clause-goes
returns-clause-goes c =
    let s = state_of c.args.self.now in
    let t = state_of c.token_step.new.self in
    let outside : text_or_line_step s (innermost s.f_strings) ≡ line_or_token_step s =
    elim c.match-innermost.branch [
      | in-Some+else-f-self w ↦ in-hole s w.in-Some.f w.in-Some.ensures.last w.if-f-self.false
      | in_default w ↦ no-f_string s w.in_default.ensures.last
    ] in
    let here : line_or_token_step s ≡ token_step (state_of c.if-self-2.self) =
    elim c.if-self-2.branch [
      | then-self-2+in_default-line_step w ↦ at-line s w.if-self-2.true ∙ w.in_default-line_step.ensures ∙ ap (λ l. token_step (state_of l)) (sym w.self-is)
      | else-self-2 w ↦ in-line s w.if-self-2.false ∙ ap (λ l. token_step (state_of l)) (sym w.self-is)
    ] in
    let given = gives-live s c.token_step.result t c.if-self.false (rw (outside, here) c.token_step.ensures) in
    let less = gives_left s c.token_step.result t (lexer_valid c.args.self.now) given in
    record { on = λ _. (tt, tt, less); keeps = tt; rests = λ _. tt }

pub returns-clause-steps : goal.returns-clause-steps
returns-clause-steps c =
    let s = state_of c.args.self.now in
    let t = state_of c.token_step.new.self in
    let outside : text_or_line_step s (innermost s.f_strings) ≡ line_or_token_step s =
    elim c.match-innermost.branch [
      | in-Some+else-f-self w ↦ in-hole s w.in-Some.f w.in-Some.ensures.last w.if-f-self.false
      | in_default w ↦ no-f_string s w.in_default.ensures.last
    ] in
    let here : line_or_token_step s ≡ token_step (state_of c.if-self-2.self) =
    elim c.if-self-2.branch [
      | then-self-2+in_default-line_step w ↦ at-line s w.if-self-2.true ∙ w.in_default-line_step.ensures ∙ ap (λ l. token_step (state_of l)) (sym w.self-is)
      | else-self-2 w ↦ in-line s w.if-self-2.false ∙ ap (λ l. token_step (state_of l)) (sym w.self-is)
    ] in
    let given = gives-live s c.token_step.result t c.if-self.false (rw (outside, here) c.token_step.ensures) in
    (given, gives_between s c.token_step.result t (lexer_valid c.args.self.now) given)
