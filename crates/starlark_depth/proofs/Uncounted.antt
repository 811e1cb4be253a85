-- What tokens that are not counted do to how deep a state is.
use Rattle.std.proofs.Common.{◌≡◌, ℕ, ◌+◌, ◌≤◌, ◌<◌, ◌&&◌, drop, get_or, Some, None, Bool, true, false}
use Rattle.std.proofs.Common.{if◌then◌else◌, List, [], ◌∷◌, ◌++◌, length, All, refl, sym, ap, ◌∙◌, subst, arith}
use Rattle.std.specs.List.{slice_get}
use Rattle.std.proofs.lemmas.Bool.{le-ltb}
use Rattle.std.proofs.lemmas.List.{drop_all, drop_more}
use Rattle.std.proofs.lemmas.List.Elements.{All-head, All-rest, All-tail}
use Rattle.starlark_lexer.specs.declared.kind.Kind.{Kind}
use Rattle.starlark_lexer.specs.declared.kind.Kind.TheVariants as kinds
use Rattle.starlark_depth.specs.Depths.{Line, State, effect_of, opened, close_in, closed, variables_closed, parameters_closed, in_line, line_at, line_depth}
use Rattle.starlark_depth.specs.Depths.{applied, dedented, line_of, starts_no_line, state_depth, statement_at, statement_of_line, step, within}
use Rattle.starlark_depth.specs.Counted.{state_of}
use Rattle.starlark_depth.specs.Nested.{IsNested, IsPlain, nested_in, steps}
use Rattle.starlark_depth.specs.declared.depth.Depth.{Depth}
use Rattle.starlark_depth.specs.declared.effect.Effect.{Effect}
use Rattle.starlark_depth.specs.declared.effect.Effect.TheVariants as effects
use Rattle.starlark_depth.specs.declared.levels.Level.{Level}
use Rattle.starlark_depth.specs.declared.levels.LevelKind.{LevelKind}
use Rattle.starlark_depth.specs.declared.levels.LevelKind.TheVariants.{Ordinary, Parameters, Variables}
use Rattle.starlark_depth.specs.declared.nesting.Nesting.{Nesting}
use Rattle.starlark_depth.specs.declared.nesting.StatementDepth.{StatementDepth}

-- ---- a token makes a line at most one deeper

close_in_depth : (inner : Level) (ls : List Level) → line_depth (close_in inner ls) ≤ line_depth (record { innermost = inner; outer = ls })
close_in_depth inner [] = omega arith
close_in_depth inner (l ∷ ls) = omega arith

closed_depth : (l : Line) → line_depth (closed l) ≤ line_depth l
closed_depth l = close_in_depth l.innermost l.outer

opened_depth : (k : LevelKind) (l : Line) → line_depth (opened k l) ≤ line_depth l
opened_depth k l = omega arith

variables_depth : (k : LevelKind) (l : Line) → line_depth (variables_closed k l) ≤ line_depth l
variables_depth Variables l = closed_depth l
variables_depth Ordinary l = omega arith
variables_depth Parameters l = omega arith

parameters_depth : (k : LevelKind) (l : Line) → line_depth (parameters_closed k l) ≤ line_depth l
parameters_depth Parameters l = closed_depth l
parameters_depth Ordinary l = omega arith
parameters_depth Variables l = omega arith

in_line_depth : (e : Effect) (l : Line) → line_depth (in_line e l) ≤ line_depth l + 1
in_line_depth effects.Deepen l = omega arith
in_line_depth effects.Else l = omega arith
in_line_depth effects.Open l = omega arith
in_line_depth effects.Lambda l = omega arith
in_line_depth effects.For l = omega arith
in_line_depth effects.In l = let less = variables_depth l.innermost.kind l in omega (arith, less)
in_line_depth effects.Colon l = let less = parameters_depth l.innermost.kind l in omega (arith, less)
in_line_depth effects.Close l = let less = closed_depth l in omega (arith, less)
in_line_depth effects.Separate l =
    let less = closed_depth l in
    let same = opened_depth l.innermost.kind (closed l) in
    omega (arith, less, same)
in_line_depth effects.Unchanged l = omega arith
in_line_depth effects.Newline l = omega arith
in_line_depth effects.Indent l = omega arith
in_line_depth effects.Dedent l = omega arith
in_line_depth effects.Elif l = omega arith
in_line_depth effects.Comment l = omega arith

-- ---- one token

abbrev state : Line → StatementDepth → List StatementDepth → Bool → State
state l t ts starts = record { line = l; statement = t; around = ts; line_starts = starts }

record Stepped (e : Effect) (s u : State) : Type 0 where
  depth : state_depth u ≤ state_depth s + 1
  ordered : u.statement.block ≤ u.statement.own
  around : u.around ≡ s.around
  starts : u.line_starts ≡ false
  statement : u.statement ≡ (if s.line_starts then statement_of_line e s.statement else s.statement)

goes_on : (e : Effect) (l : Line) (t : StatementDepth) (ts : List StatementDepth) → t.block ≤ t.own
    → Stepped e (state l t ts false) (state (in_line e l) t ts false)
goes_on e l t ts o =
    let less = in_line_depth e l in
    record { depth = omega (arith, less); ordered = o; around = refl; starts = refl; statement = refl }

begins : (e : Effect) (l : Line) (t : StatementDepth) (ts : List StatementDepth) → t.block ≤ t.own
    → Stepped e (state l t ts true) (state (in_line e (line_at (statement_of_line e t).own)) (statement_of_line e t) ts false)
begins effects.Elif l t ts o = record { depth = omega arith; ordered = omega (arith, o); around = refl; starts = refl; statement = refl }
begins effects.Else l t ts o = record { depth = omega arith; ordered = o; around = refl; starts = refl; statement = refl }
begins e l t ts o =
    let less = in_line_depth e (line_at (statement_of_line e t).own) in
    record { depth = omega (arith, less, o); ordered = omega arith; around = refl; starts = refl; statement = refl }

stepped : (e : Effect) (l : Line) (t : StatementDepth) (ts : List StatementDepth) (b : Bool) → starts_no_line e ≡ false → t.block ≤ t.own
    → Stepped e (state l t ts b) (step e (state l t ts b))
stepped effects.Newline l t ts b plain o = cc
stepped effects.Indent l t ts b plain o = cc
stepped effects.Dedent l t ts b plain o = cc
stepped effects.Comment l t ts b plain o = cc
stepped e l t ts true plain o = begins e l t ts o
stepped e l t ts false plain o = goes_on e l t ts o

-- ---- tokens

pub steps_push : (ks : List Kind) (k : Kind) (s : State) → steps (ks ++ k ∷ []) s ≡ step (effect_of k) (steps ks s)
steps_push [] k s = refl
steps_push (j ∷ ks) k s = steps_push ks k (step (effect_of j) s)

-- the statement of a line with these tokens, after a statement
abbrev pub line_statement : Bool → List Kind → StatementDepth → StatementDepth
line_statement true (k ∷ ks) t = statement_of_line (effect_of k) t
line_statement _ _ t = t

pub record Ran (ks : List Kind) (s : State) : Type 0 where
  pub depth : state_depth (steps ks s) ≤ state_depth s + length ks
  pub ordered : (steps ks s).statement.block ≤ (steps ks s).statement.own
  pub around : (steps ks s).around ≡ s.around
  pub statement : (steps ks s).statement ≡ line_statement s.line_starts ks s.statement

first_is : (b : Bool) (k : Kind) (ks : List Kind) (t : StatementDepth)
    → line_statement false ks (if b then statement_of_line (effect_of k) t else t) ≡ line_statement b (k ∷ ks) t
first_is true k ks t = refl
first_is false k ks t = refl

no_tokens : (b : Bool) (t : StatementDepth) → t ≡ line_statement b [] t
no_tokens true t = refl
no_tokens false t = refl

pub ran : (ks : List Kind) (s : State) → All IsPlain ks → s.statement.block ≤ s.statement.own → Ran ks s
ran [] s plain o = record { depth = omega arith; ordered = o; around = refl; statement = no_tokens s.line_starts s.statement }
ran (k ∷ ks) s plain o =
    let one = stepped (effect_of k) s.line s.statement s.around s.line_starts (All-head IsPlain k ks plain) o in
    let rest = ran ks (step (effect_of k) s) (All-tail IsPlain k ks plain) one.ordered in
    record {
      depth = omega (arith, one.depth, rest.depth);
      ordered = rest.ordered;
      around = rest.around ∙ one.around;
      statement = rest.statement ∙ ap (λ b. line_statement b ks (step (effect_of k) s).statement) one.starts
          ∙ ap (line_statement false ks) one.statement ∙ first_is s.line_starts k ks s.statement;
    }

pub first_statement : (ks : List Kind) (k : Kind) (t : StatementDepth) → Some k ≡ slice_get ks 0 → statement_of_line (effect_of k) t ≡ line_statement true ks t
first_statement [] k t is = cc
first_statement (j ∷ ks) k t is = cc

pub some_first : (ks : List Kind) (k : Kind) → Some k ≡ slice_get ks 0 → 0 < length ks
some_first [] k is = cc
some_first (j ∷ ks) k is = omega arith

pub no_first : (ks : List Kind) → None ≡ slice_get ks 0 → length ks ≡ 0
no_first [] is = refl
no_first (k ∷ ks) is = cc

-- tokens that are not counted start a line
pub starts_line : (b : Bool) (room : ℕ) (ks : List Kind) → (b ≡ false → room ≡ 0) → 0 < length ks → length ks ≤ room → b ≡ true
starts_line true room ks none some fits = refl
starts_line false room ks none some fits = let is = none refl in absurd (omega (arith, is, some, fits))

pub no_statement : (b : Bool) (ks : List Kind) (t : StatementDepth) → length ks ≡ 0 → t ≡ line_statement b ks t
no_statement true [] t is = refl
no_statement true (k ∷ ks) t is = absurd (omega (arith, is))
no_statement false ks t is = refl

pub is_plain : (k : Kind) → (k ≡ kinds.Comment → ⊥) → (k ≡ kinds.Newline → ⊥) → (k ≡ kinds.Indent → ⊥) → (k ≡ kinds.Dedent → ⊥) → IsPlain k
is_plain kinds.Comment c n i d = absurd (c refl)
is_plain kinds.Newline c n i d = absurd (n refl)
is_plain kinds.Indent c n i d = absurd (i refl)
is_plain kinds.Dedent c n i d = absurd (d refl)
is_plain _ c n i d = refl

-- ---- tokens that end a line, and comments

not_started : (b : Bool) (s t : State) → (if b && false then t else s) ≡ s
not_started true s t = refl
not_started false s t = refl

pub newline : (s : State) → step effects.Newline s ≡ line_of s.statement s.around true
newline s = ap (applied effects.Newline) (not_started s.line_starts s _)

pub indented : (s : State) → step effects.Indent s ≡ line_of (statement_at (s.statement.own + 2)) (s.statement ∷ s.around) true
indented s = ap (applied effects.Indent) (not_started s.line_starts s _)

pub dedent : (s : State) → step effects.Dedent s ≡ dedented s.statement s.around
dedent s = ap (applied effects.Dedent) (not_started s.line_starts s _)

pub comment : (s : State) → step effects.Comment s ≡ s
comment s = ap (applied effects.Comment) (not_started s.line_starts s _)

-- ---- nothing is deeper than the limit

pub within_limit : (d : Depth) → state_depth (state_of d) ≤ d.limit
within_limit d =
    let all = ran d.uncounted.items (nested_in d.nesting) d.plain d.nested.0 in
    omega (arith, all.depth, d.shallow, d.fits, d.uncounted.ok)

pub is_within : (n : ℕ) (s goal : State) → s ≡ goal → state_depth s ≤ n → within n goal ≡ Some s
is_within n s goal is less =
    ap (within n) (sym is) ∙ ap (λ b. if b then None else Some s) (le-ltb n (state_depth s) less)

-- ---- tokens that are counted after all

-- the first i of some tokens were counted
pub record CountedTo (n : ℕ) (ks : List Kind) (i : ℕ) (old now : Nesting) : Type 0 where
  pub nested : IsNested n now
  pub same : steps (drop i ks) (nested_in now) ≡ steps ks (nested_in old)
  pub depth : state_depth (nested_in now) + length (drop i ks) ≤ n
  pub plain : All IsPlain (drop i ks)

module _ {n : ℕ} {ks : List Kind} {i : ℕ} {old now : Nesting} (so_far : CountedTo n ks i old now) (more : i < length ks) where
  abbrev one : Kind
  one = get_or ks i kinds.Identifier

  next_is : drop i ks ≡ one ∷ drop (i + 1) ks
  next_is = drop_more ks i kinds.Identifier more

  pub next_plain : IsPlain one
  next_plain = All-head IsPlain one (drop (i + 1) ks) (subst (All IsPlain) next_is so_far.plain)

  next_room : state_depth (nested_in now) + 1 + length (drop (i + 1) ks) ≤ n
  next_room = let room = subst (λ ls. state_depth (nested_in now) + length ls ≤ n) next_is so_far.depth in omega (arith, room)

  next_depth : state_depth (step (effect_of one) (nested_in now)) ≤ state_depth (nested_in now) + 1
  next_depth = let s = nested_in now in (stepped (effect_of one) s.line s.statement s.around s.line_starts next_plain so_far.nested.0).depth

  pub next_counted : (u : Nesting) → nested_in u ≡ step (effect_of one) (nested_in now) → IsNested n u → CountedTo n ks (i + 1) old u
  next_counted u is nested =
      let room = next_room in
      let less = subst (λ s. state_depth s ≤ state_depth (nested_in now) + 1) (sym is) next_depth in
      record {
        nested = nested;
        same = ap (steps (drop (i + 1) ks)) is ∙ ap (λ ls. steps ls (nested_in now)) (sym next_is) ∙ so_far.same;
        depth = omega (arith, room, less);
        plain = All-rest IsPlain one (drop (i + 1) ks) (drop i ks) next_is so_far.plain;
      }

pub all_counted : {n : ℕ} {ks : List Kind} {i : ℕ} {old now : Nesting} → CountedTo n ks i old now → length ks ≤ i
    → nested_in now ≡ steps ks (nested_in old)
all_counted {ks = ks} {i = i} {now = now} so_far end = ap (λ ls. steps ls (nested_in now)) (sym (drop_all i ks end)) ∙ so_far.same
