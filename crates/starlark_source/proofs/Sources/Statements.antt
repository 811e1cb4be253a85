-- Statements whose parts a text denotes, if each load binds a name.
use Rattle.std.proofs.Common.{◌≡◌, ℕ, ◌+◌, List as Seq, [], ◌∷◌, ◌++◌, flat_map, Bool, true, false, Option, Some, None, Result, Ok, Err, refl, sym, subst}
use Rattle.std.specs.Bool.{⊤}
use Rattle.std.specs.Prelude.{is_ok}
use Rattle.std.specs.Str.{bytes_eq}
use Rattle.std.proofs.lemmas.Bool.{cond_both, cond-true}
use Rattle.std.proofs.lemmas.Slice.Eq.{bytes_eq-Decides}
use Rattle.starlark_lexer.specs.Tokens.{Text, Span, String}
use Rattle.starlark_lexer.specs.Tokens as tokens
use Rattle.starlark_tree.specs.Ast as t
use Rattle.starlark_tree.specs.Ast.{no_payload, Expression, Form, Statement, Statements, Word, parameters_of, statements_of}
use Rattle.starlark_tree.specs.declared.ast.operator.AssignOp.{AssignOp}
use Rattle.starlark_spec.specs.Targets.{target}
use Rattle.starlark_spec.specs.Assignments.{assigned, assigned_target}
use Rattle.starlark_spec.specs.Trees.{one_or_block, if_form, load_argument, load_arguments, target_of, at}
use Rattle.starlark_source.specs.Pieces.{Pieces, token, comma, listed, in_round, between}
use Rattle.starlark_source.specs.Literals.{name}
use Rattle.starlark_source.specs.Source.{test, target_source, maybe_type_source, parameter_sources}
use Rattle.starlark_source.specs.Lines.{Place, as_line, as_block, as_rest, if_word, load_arg, load_args, load, small, small_source, small_sources, semicolon}
use Rattle.starlark_source.specs.Lines.{small_line, line, margin, tested, looped, defined, suite, at_place, lines, form_lines, block, all_lines, module_form}
use Rattle.starlark_source.specs.Lines.{module_source}
use Rattle.starlark_source.proofs.ReadBack.Writing.{Sayable}
use Rattle.starlark_source.proofs.Sources.Pieces.{Each, each_more, joined, separated_said, listed_said, in_round_said}
use Rattle.starlark_source.proofs.Sources.Expressions.{Said, TypeSaid, ParameterSaid, parameters_said, type_said, list_said, aim_said, assigned_said}

-- ---- loads

-- each load in a statement binds a name
abbrev mutual
  pub LoadsNames : Statement no_payload → Type 0
  LoadsNames (t.statement s form) = FormLoadsNames form

  pub FormLoadsNames : Form no_payload → Type 0
  FormLoadsNames (t.Load file [] p) = ⊥
  FormLoadsNames (t.Load file (a ∷ names) p) = ⊤
  FormLoadsNames (t.Block ss) = AllLoadNames ss
  FormLoadsNames (t.IfThen e body) = LoadsNames body
  FormLoadsNames (t.IfElse e body other) = LoadsNames body × LoadsNames other
  FormLoadsNames (t.For x e body) = LoadsNames body
  FormLoadsNames (t.Def w p ps ty body q) = LoadsNames body
  FormLoadsNames _ = ⊤

  pub AllLoadNames : Statements no_payload → Type 0
  AllLoadNames t.no_statements = ⊤
  AllLoadNames (t.statements s ss) = LoadsNames s × AllLoadNames ss

abbrev pub LoadSaid : t.LoadArg no_payload → Type 0
LoadSaid a = Sayable (load_arg a)

abbrev pub SymbolSaid : Word × Word → Type 0
SymbolSaid names = LoadSaid (load_argument names None)

pub same_symbol : (text : Text) (s : Span) → SymbolSaid (at text s, at text s)
same_symbol text s =
    subst Sayable (sym (cond-true (bytes_eq text text) (token (String text) ∷ []) _ ((bytes_eq-Decides text text).1 refl))) tt

pub other_symbol : (local : Text) (s : Span) (their : Text) (r : Span) → Sayable (name (at local s)) → SymbolSaid (at local s, at their r)
other_symbol local s their r h =
    cond_both (bytes_eq local their) (token (String their) ∷ []) (name (at local s) ++ (between tokens.Equal ++ token (String their) ∷ [])) Sayable (λ _. tt)
    (λ _. joined (name (at local s)) (between tokens.Equal ++ token (String their) ∷ []) h tt)

pub loads_said : (ns : Seq (Word × Word)) (cs : Seq Span) → Each SymbolSaid ns → Each LoadSaid (load_arguments ns cs)
loads_said [] cs h = tt
loads_said (n ∷ ns) [] h = (h.0, loads_said ns [] h.1)
loads_said (n ∷ ns) (c ∷ cs) h = (h.0, loads_said ns cs h.1)

load_args_said : (args : Seq (t.LoadArg no_payload)) → Each LoadSaid args → Sayable (load_args args)
load_args_said [] h = tt
load_args_said (a ∷ args) h = joined (comma ++ load_arg a) (load_args args) h.0 (load_args_said args h.1)

load_said : (s : Span) (file : Word) (args : Seq (t.LoadArg no_payload)) → Each LoadSaid args → FormLoadsNames (t.Load file args tt)
    → Sayable (load s file args)
load_said s file [] h names = absurd names
load_said s file (a ∷ args) h names = in_round_said (token (String file.text) ∷ load_args (a ∷ args)) (load_args_said (a ∷ args) h)

-- ---- lines

suite_said : (ps : Pieces) → Sayable ps → Sayable (suite ps)
suite_said ps h = joined ps (token tokens.Dedent ∷ []) h tt

line_said : (depth : ℕ) (ps : Pieces) → Sayable ps → Sayable (line depth ps)
line_said depth ps h = joined ps (token tokens.Newline ∷ []) h tt

placed_said : (place : Place) (depth : ℕ) (lines_at : ℕ → Pieces) → ((d : ℕ) → Sayable (lines_at d)) → Sayable (at_place place depth lines_at)
placed_said as_line depth lines_at h = h depth
placed_said as_block depth lines_at h = h depth
placed_said as_rest depth lines_at h = suite_said (lines_at (depth + 1)) (h (depth + 1))

-- ---- statements

-- a statement has lines, wherever it is
pub record Lined (s : Statement no_payload) : Type 0 where
  pub said : LoadsNames s → (place : Place) (depth : ℕ) → Sayable (lines place depth s)

-- a statement has the lines of a block
pub record Suited (s : Statement no_payload) : Type 0 where
  pub in_block : LoadsNames s → (depth : ℕ) → Sayable (lines as_block depth s)
  pub in_rest : LoadsNames s → (depth : ℕ) → Sayable (lines as_rest depth s)

-- what is after the block of an `if`
abbrev pub RestSaid : Option (Statement no_payload) → Type 0
RestSaid None = ⊤
RestSaid (Some s) = LoadsNames s → (depth : ℕ) → Sayable (lines as_rest depth s)

-- a small statement
pub record SmallSaid (s : Statement no_payload) : Type 0 where
  pub small : LoadsNames s → Sayable (small_source s)
  pub lined : Lined s

pub suited : (s : Statement no_payload) → Lined s → Suited s
suited s h = record { in_block = λ names depth. h.said names as_block depth; in_rest = λ names depth. h.said names as_rest depth }

pub rest_of_suite : (s : Statement no_payload) → Suited s → RestSaid (Some s)
rest_of_suite s h = h.in_rest

pub rest_of_line : (s : Statement no_payload) → Lined s → RestSaid (Some s)
rest_of_line s h = λ names depth. h.said names as_rest depth

-- a form that is a line of its own
pub small_lined : (s : Span) (form : Form no_payload)
    → ((place : Place) (depth : ℕ) → at_place place depth (λ d. line d (small s form)) ≡ form_lines place depth s form)
    → (FormLoadsNames form → Sayable (small s form)) → SmallSaid (t.statement s form)
small_lined s form is h = record {
  small = h;
  lined = record {
    said = λ names place depth. subst Sayable (is place depth)
        (placed_said place depth (λ d. line d (small s form)) (λ d. line_said d (small s form) (h names)));
  };
}

pub load_small : (s : Span) (file : Word) (args : Seq (t.LoadArg no_payload)) → Each LoadSaid args → SmallSaid (t.statement s (t.Load file args tt))
load_small s file args h = small_lined s (t.Load file args tt) (λ place depth. refl) (λ names. load_said s file args h names)

pub assigned_small : (s : Span) (left : Expression no_payload) (ty : t.MaybeType no_payload) (o : Option AssignOp) (value : Expression no_payload) → Said left
    → TypeSaid ty → Said value → is_ok (assigned_target left ty o) ≡ true → SmallSaid (t.statement s (assigned ty o value (target_of left)))
assigned_small s left ty None value h k v ok =
    small_lined s (assigned ty None value (target_of left)) (λ place depth. refl) (λ _. assigned_said s left ty None value h k v ok)
assigned_small s left ty (Some o) value h k v ok =
    small_lined s (assigned ty (Some o) value (target_of left)) (λ place depth. refl) (λ _. assigned_said s left ty (Some o) value h k v ok)

-- ---- blocks

pub if_lined : (s : Span) (e : Expression no_payload) (body : Statement no_payload) (rest : Option (Statement no_payload)) → Said e → Suited body
    → RestSaid rest
    → Lined (t.statement s (if_form e body rest))
if_lined s e body None h b r = record {
  said = λ names place depth.
      joined (test e) (suite (lines as_block (depth + 1) body)) h (suite_said (lines as_block (depth + 1) body) (b.in_block names (depth + 1)));
}
if_lined s e body (Some other) h b r = record {
  said = λ names place depth.
      joined (margin depth ++ (tested (if_word place) e ++ suite (lines as_block (depth + 1) body))) (lines as_rest depth other)
      (joined (test e) (suite (lines as_block (depth + 1) body)) h (suite_said (lines as_block (depth + 1) body) (b.in_block names.0 (depth + 1))))
      (r names.1 depth);
}

pub loop_lined : (s : Span) (vars over : Expression no_payload) (body : Statement no_payload) → Said vars → is_ok (target vars) ≡ true → Said over
    → Suited body
    → Lined (t.statement s (t.For (target_of vars) over body))
loop_lined s vars over body h ok k b = record {
  said = λ names place depth.
      placed_said place depth (λ d. margin d ++ (looped (target_of vars) over ++ suite (lines as_block (d + 1) body))) (λ d.
      joined (looped (target_of vars) over) (suite (lines as_block (d + 1) body))
      (joined (target_source true (target_of vars)) (between tokens.In ++ test over) (aim_said vars h ok true) k)
      (suite_said (lines as_block (d + 1) body) (b.in_block names (d + 1))));
}

pub def_lined : (s : Span) (w : Word) (ps : Seq (t.Parameter no_payload)) (ty : t.MaybeType no_payload) (body : Statement no_payload) → Sayable (name w)
    → Each ParameterSaid ps
    → TypeSaid ty → Suited body → Lined (t.statement s (t.Def w tt (parameters_of ps) ty body tt))
def_lined s w ps ty body n h k b =
    let inside = listed (parameter_sources (parameters_of ps)) in
    let arrow = between tokens.MinusGreater in
    let head : Sayable (defined w (parameters_of ps) ty) =
    joined (name w) (in_round inside ++ maybe_type_source arrow ty) n
    (joined (in_round inside) (maybe_type_source arrow ty) (in_round_said inside (listed_said (parameter_sources (parameters_of ps)) (parameters_said ps h)))
    (type_said arrow tt ty k)) in
    record {
      said = λ names place depth.
          placed_said place depth (λ d. margin d ++ (defined w (parameters_of ps) ty ++ suite (lines as_block (d + 1) body))) (λ d.
          joined (defined w (parameters_of ps) ty) (suite (lines as_block (d + 1) body)) head
          (suite_said (lines as_block (d + 1) body) (b.in_block names (d + 1))));
    }

all_said : (depth : ℕ) (ss : Seq (Statement no_payload)) → Each Lined ss → AllLoadNames (statements_of ss)
    → Sayable (flat_map (λ more. more) (all_lines depth (statements_of ss)))
all_said depth [] h names = tt
all_said depth (s ∷ ss) h names =
    joined (lines as_line depth s) (flat_map (λ more. more) (all_lines depth (statements_of ss))) (h.0.said names.0 as_line depth)
    (all_said depth ss h.1 names.1)

pub block_suited : (s : Span) (ss : Seq (Statement no_payload)) → Each Lined ss → Suited (one_or_block s ss)
block_suited s [] h = record { in_block = λ names depth. tt; in_rest = λ names depth. tt }
block_suited s (a ∷ []) h = suited a h.0
block_suited s (a ∷ b ∷ ss) h = record {
  in_block = λ names depth. all_said depth (a ∷ b ∷ ss) h names;
  in_rest = λ names depth. suite_said (block (depth + 1) s (statements_of (a ∷ b ∷ ss))) (all_said (depth + 1) (a ∷ b ∷ ss) h names);
}

-- ---- small statements in a line

-- small statements, at least one
pub record SmallsSaid (ss : Seq (Statement no_payload)) : Type 0 where
  pub some : ¬ (ss ≡ [])
  pub each : Each SmallSaid ss

pub one_small : (s : Statement no_payload) → SmallSaid s → SmallsSaid (s ∷ [])
one_small s h = record { some = λ e. cc; each = (h, tt) }

added_some : (ss : Seq (Statement no_payload)) (s : Statement no_payload) → ss ++ s ∷ [] ≡ [] → ⊥
added_some [] s e = cc
added_some (x ∷ ss) s e = cc

pub more_smalls : (ss : Seq (Statement no_payload)) (s : Statement no_payload) → SmallsSaid ss → SmallSaid s → SmallsSaid (ss ++ s ∷ [])
more_smalls ss s h k = record { some = added_some ss s; each = each_more SmallSaid ss s h.each k }

each_lined : (ss : Seq (Statement no_payload)) → Each SmallSaid ss → Each Lined ss
each_lined [] h = tt
each_lined (s ∷ ss) h = (h.0.lined, each_lined ss h.1)

each_small : (ss : Seq (Statement no_payload)) → Each SmallSaid ss → AllLoadNames (statements_of ss) → Each Sayable (small_sources (statements_of ss))
each_small [] h names = tt
each_small (s ∷ ss) h names = (h.0.small names.0, each_small ss h.1 names.1)

pub smalls_lined : (s : Span) (ss : Seq (Statement no_payload)) → SmallsSaid ss → Lined (one_or_block s ss)
smalls_lined s [] h = absurd (h.some refl)
smalls_lined s (a ∷ []) h = h.each.0.lined
smalls_lined s (a ∷ b ∷ ss) h =
    let ls = each_lined (a ∷ b ∷ ss) h.each in
    let small : LoadsNames (one_or_block s (a ∷ b ∷ ss)) → (depth : ℕ) → Sayable (line depth (small_line s (statements_of (a ∷ b ∷ ss)))) =
    λ names depth. line_said depth (small_line s (statements_of (a ∷ b ∷ ss)))
    (separated_said semicolon tt (small_sources (statements_of (a ∷ b ∷ ss))) (each_small (a ∷ b ∷ ss) h.each names)) in
    let more = block_suited s (a ∷ b ∷ ss) ls in
    record { said = λ names place depth. several s a b ss small more names place depth }
  where
    several : (s : Span) (a b : Statement no_payload) (ss : Seq (Statement no_payload))
        → (LoadsNames (one_or_block s (a ∷ b ∷ ss)) → (depth : ℕ) → Sayable (line depth (small_line s (statements_of (a ∷ b ∷ ss)))))
        → Suited (one_or_block s (a ∷ b ∷ ss)) → LoadsNames (one_or_block s (a ∷ b ∷ ss)) → (place : Place) (depth : ℕ)
        → Sayable (lines place depth (one_or_block s (a ∷ b ∷ ss)))
    several s a b ss small more names as_line depth = small names depth
    several s a b ss small more names as_block depth = more.in_block names depth
    several s a b ss small more names as_rest depth = more.in_rest names depth

-- ---- modules

module_said : (m : Statement no_payload) → Sayable (lines as_block 0 m) → Sayable (module_source m)
module_said (t.statement s (t.Block t.no_statements)) h = tt
module_said (t.statement s (t.Block (t.statements a ss))) h = h
module_said (t.statement s form) h = h

pub whole_said : (s : Span) (ss : Seq (Statement no_payload)) → Each Lined ss → LoadsNames (one_or_block s ss) → Sayable (module_source (one_or_block s ss))
whole_said s ss h names = module_said (one_or_block s ss) ((block_suited s ss h).in_block names 0)
