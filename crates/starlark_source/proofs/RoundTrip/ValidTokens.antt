-- A valid module's tokens are read again if they are alone, its loads bind names, and what is sayable has a text.
use Rattle.std.proofs.Common.{◌≡◌, ℕ, ◌^◌, ◌<◌, List as Seq, [], ◌∷◌, ◌++◌, replicate, Result, Ok, Err, refl, ap}
use Rattle.std.specs.Bool.{⊤}
use Rattle.std.proofs.lemmas.Bool.{cond_both}
use Rattle.starlark_lexer.specs.Tokens.{Text, Terminal, Lexeme, LexerFault}
use Rattle.starlark_lexer.specs.declared.dialect.Dialect.{Dialect}
use Rattle.starlark_lexer.proofs.TokenTexts.GivenTokens.{Rereads, AllAgain}
use Rattle.starlark_tree.specs.Ast as t
use Rattle.starlark_tree.specs.Ast.{no_payload, Form, Statement, Statements}
use Rattle.starlark_spec.specs.Faults.{Fault}
use Rattle.starlark_spec.specs.Items.{Items, is_comment, items}
use Rattle.starlark_spec.specs.Grammar.{RightSide, side_yield}
use Rattle.starlark_spec.specs.Grammar.RightSide.{nothing, word, ◌⨾◌, marked, tokens_end}
use Rattle.starlark_validate.specs.Faults.{faults_in}
use Rattle.starlark_validate.specs.KeptTreeFaults.{in_expression, in_option, in_target, in_type, in_parameters, in_statement, in_form, in_statements}
use Rattle.starlark_validate.specs.Validity.{tree_faults}
use Rattle.starlark_source.specs.Pieces.{Pieces, token, text_byte, blank, unsayable, escaped_in_format, joined, said, spelled}
use Rattle.starlark_source.proofs.ReadBack.Writing.{Sayable}
use Rattle.starlark_source.proofs.RoundTrip.TypeNotes.{Kept}
use Rattle.starlark_source.proofs.Sources.Pieces.{Each}
use Rattle.starlark_source.proofs.Sources.Statements.{LoadsNames, FormLoadsNames, AllLoadNames}
use Rattle.starlark_source.proofs.Sources.Derivations.{IsWritten}

-- ---- tokens

abbrev pub Again : ℕ → Seq Lexeme → Type 0
Again most ls = Each (λ (l : Lexeme). Rereads most l.token) ls

pub items_again : (most : ℕ) (ls : Seq (Result Lexeme LexerFault)) → AllAgain most ls → Again most (items ls).tokens
items_again most [] h = tt
items_again most (Ok l ∷ ls) h =
    let more = items_again most ls h.1 in
    cond_both (is_comment l.token) (items ls) (record { tokens = l ∷ (items ls).tokens; ending = (items ls).ending }) (λ (i : Items). Again most i.tokens)
    (λ _. more) (λ _. (h.0, more))
items_again most (Err e ∷ ls) h = tt

-- the tokens after those of a right side
after : (most : ℕ) (a : RightSide) (rest : Seq Lexeme) → Again most (side_yield a rest) → Again most rest
after most nothing rest h = h
after most (word x s) rest h = h.1
after most (a ⨾ b) rest h = after most b rest (after most a (side_yield b rest) h)
after most (marked x a) rest h = after most a rest h
after most tokens_end rest h = h

pub written : (most : ℕ) (bound : most < 2 ^ 32) (a : RightSide) (rest : Seq Lexeme) → Again most (side_yield a rest) → Kept a → IsWritten most bound a
written most bound nothing rest h k = tt
written most bound (word x s) rest h k = h.0
written most bound (a ⨾ b) rest h k =
    (written most bound a (side_yield b rest) h k.0, written most bound b rest (after most a (side_yield b rest) h) k.1)
written most bound (marked x a) rest h k = (k.0, written most bound a rest h k.1)
written most bound tokens_end rest h k = tt

-- ---- loads

front_empty : {A : Type 0} (xs ys : Seq A) → xs ++ ys ≡ [] → xs ≡ []
front_empty [] ys e = refl
front_empty (x ∷ xs) ys e = absurd (cc)

back_empty : {A : Type 0} (xs ys : Seq A) → xs ++ ys ≡ [] → ys ≡ []
back_empty [] ys e = e
back_empty (x ∷ xs) ys e = absurd (cc)

mutual
  names_so : (d : Dialect) (s : Statement no_payload) → in_statement d s ≡ [] → LoadsNames s
  names_so d (t.statement s form) e = form_names d form e

  form_names : (d : Dialect) (form : Form no_payload) → in_form d form ≡ [] → FormLoadsNames form
  form_names d (t.Load file [] p) e = absurd (cc)
  form_names d (t.Load file (a ∷ names) p) e = tt
  form_names d (t.Block ss) e = all_name d ss e
  form_names d (t.IfThen c body) e = names_so d body (back_empty (in_expression d c) (in_statement d body) e)
  form_names d (t.IfElse c body other) e =
      let both = back_empty (in_expression d c) (in_statement d body ++ in_statement d other) e in (
        names_so d body (front_empty (in_statement d body) (in_statement d other) both),
        names_so d other
            (back_empty (in_statement d body) (in_statement d other) both),
      )
  form_names d (t.For x over body) e =
      names_so d body (back_empty (in_expression d over) (in_statement d body) (back_empty (in_target d x) (in_expression d over ++ in_statement d body) e))
  form_names d (t.Def w p ps ty body q) e =
      names_so d body (back_empty (in_type d ty) (in_statement d body) (back_empty (in_parameters d ps) (in_type d ty ++ in_statement d body) e))
  form_names d other e = tt

  all_name : (d : Dialect) (ss : Statements no_payload) → in_statements d ss ≡ [] → AllLoadNames ss
  all_name d t.no_statements e = tt
  all_name d (t.statements s ss) e =
      (names_so d s (front_empty (in_statement d s) (in_statements d ss) e), all_name d ss (back_empty (in_statement d s) (in_statements d ss) e))

-- each load of a module without faults binds a name
pub loads_name : (d : Dialect) (m : Statement no_payload) → faults_in d m ≡ [] → LoadsNames m
loads_name d m e = names_so d m (front_empty (in_statement d m) (tree_faults d m) e)

-- ---- texts

said_more : (text : Text) (ps : Pieces) → (more : Text) × (said ps ≡ Ok more) → (all : Text) × (joined text (said ps) ≡ Ok all)
said_more text ps r = (text ++ r.0, ap (joined text) r.1)

-- pieces that a text denotes have that text
pub said_so : (ps : Pieces) → Sayable ps → (text : Text) × (said ps ≡ Ok text)
said_so [] h = ([], refl)
said_so (token t ∷ ps) h = said_more (spelled t) ps (said_so ps h)
said_so (text_byte b ∷ ps) h = said_more (escaped_in_format b) ps (said_so ps h)
said_so (blank n ∷ ps) h = said_more (replicate n 32) ps (said_so ps h)
said_so (unsayable s ∷ ps) h = absurd h
