-- What the lexer returns for pieces, before whatever comes after them.
use Rattle.std.proofs.Common.{◌≡◌, false, ◌&&◌, List as Seq, [], ◌∷◌, ◌++◌, replicate, Result, Ok, Err, refl, sym, ap, ◌∙◌, subst}
use Rattle.std.proofs.lemmas.Bool.{cond-false, and_left}
use Rattle.starlark_lexer.specs.Tokens.{Text, Span, Terminal}
use Rattle.starlark_source.specs.Pieces.{Pieces, token, text_byte, blank, unsayable, spelled, escaped_in_format, joined, said}
use Rattle.starlark_source.specs.SourceTokens.{tokens_of, with_text, is_dedent, only_dedents, with_last_newline}
use Rattle.starlark_lexer.proofs.TokenTexts.LexerStates.{Standing, At}

-- the text of pieces before a text
abbrev pub write : Pieces → Text → Text
write [] rest = rest
write (token t ∷ ps) rest = spelled t ++ write ps rest
write (text_byte b ∷ ps) rest = escaped_in_format b ++ write ps rest
write (blank n ∷ ps) rest = replicate n 32 ++ write ps rest
write (unsayable s ∷ ps) rest = write ps rest

-- the tokens of pieces before tokens
abbrev pub before : Pieces → Seq Terminal → Seq Terminal
before [] ts = ts
before (token t ∷ ps) ts = t ∷ before ps ts
before (text_byte b ∷ ps) ts = with_text b (before ps ts)
before (blank n ∷ ps) ts = before ps ts
before (unsayable s ∷ ps) ts = before ps ts

pub write-append : (ps qs : Pieces) (rest : Text) → write (ps ++ qs) rest ≡ write ps (write qs rest)
write-append [] qs rest = refl
write-append (token t ∷ ps) qs rest = ap (λ x. spelled t ++ x) (write-append ps qs rest)
write-append (text_byte b ∷ ps) qs rest = ap (λ x. escaped_in_format b ++ x) (write-append ps qs rest)
write-append (blank n ∷ ps) qs rest = ap (λ x. replicate n 32 ++ x) (write-append ps qs rest)
write-append (unsayable s ∷ ps) qs rest = write-append ps qs rest

pub before-append : (ps qs : Pieces) (ts : Seq Terminal) → before (ps ++ qs) ts ≡ before ps (before qs ts)
before-append [] qs ts = refl
before-append (token t ∷ ps) qs ts = ap (λ x. t ∷ x) (before-append ps qs ts)
before-append (text_byte b ∷ ps) qs ts = ap (with_text b) (before-append ps qs ts)
before-append (blank n ∷ ps) qs ts = before-append ps qs ts
before-append (unsayable s ∷ ps) qs ts = before-append ps qs ts

pub before_none : (ps : Pieces) → before ps [] ≡ tokens_of ps
before_none [] = refl
before_none (token t ∷ ps) = ap (λ x. t ∷ x) (before_none ps)
before_none (text_byte b ∷ ps) = ap (with_text b) (before_none ps)
before_none (blank n ∷ ps) = before_none ps
before_none (unsayable s ∷ ps) = before_none ps

written_so : (front : Text) (r : Result Text Span) (ps : Pieces) (text : Text) → ((all : Text) → r ≡ Ok all → write ps [] ≡ all) → joined front r ≡ Ok text
    → front ++ write ps [] ≡ text
written_so front (Ok more) ps text h is = ap (λ x. front ++ x) (h more refl) ∙ cc
written_so front (Err s) ps text h is = absurd (cc)

-- the text of pieces
pub said_written : (ps : Pieces) (text : Text) → said ps ≡ Ok text → write ps [] ≡ text
said_written [] text is = cc
said_written (token t ∷ ps) text is = written_so (spelled t) (said ps) ps text (said_written ps) is
said_written (text_byte b ∷ ps) text is = written_so (escaped_in_format b) (said ps) ps text (said_written ps) is
said_written (blank n ∷ ps) text is = written_so (replicate n 32) (said ps) ps text (said_written ps) is
said_written (unsayable s ∷ ps) text is = absurd (cc)

-- ---- the Newline at the end

-- The lexer returns these tokens, and a Newline before the Dedents at their end, if its state is this one and this text is left.
pub record Lexed (c : Standing) (rest : Text) (us : Seq Terminal) : Type 0 where
  pub lexes : At c rest (with_last_newline us)

not_last : (t : Terminal) (us : Seq Terminal) → is_dedent t ≡ false → with_last_newline (t ∷ us) ≡ t ∷ with_last_newline us
not_last t us other = cond-false (is_dedent t && only_dedents us) _ _ (and_left (is_dedent t) (only_dedents us) other)

pub one_token : {c d : Standing} {rest text : Text} {us : Seq Terminal} (t : Terminal) → is_dedent t ≡ false
    → ((ts : Seq Terminal) → At d rest ts → At c text (t ∷ ts))
    → Lexed d rest us → Lexed c text (t ∷ us)
one_token {c = c} {text = text} {us = us} t other f r =
    record { lexes = subst (λ ts. At c text ts) (sym (not_last t us other)) (f (with_last_newline us) r.lexes) }

-- ---- pieces one after another

-- if what follows fits, the lexer returns the tokens of pieces from state c on, and is in state d after them
pub record Spells (c : Standing) (ps : Pieces) (d : Standing) (Fits : Text → Type 0) : Type 0 where
  pub spells : (rest : Text) (us : Seq Terminal) → Fits rest → Lexed d rest us → Lexed c (write ps rest) (before ps us)

pub followed : {c d e : Standing} {ps qs : Pieces} {F G : Text → Type 0} → Spells c ps d F → Spells d qs e G → ((rest : Text) → G rest → F (write qs rest))
    → Spells c (ps ++ qs) e G
followed {c = c} {e = e} {ps = ps} {qs = qs} a b fits = record {
  spells = λ rest us g r.
      subst (λ text. Lexed c text (before (ps ++ qs) us)) (sym (write-append ps qs rest))
      (subst (λ ts. Lexed c (write ps (write qs rest)) ts) (sym (before-append ps qs us))
      (a.spells (write qs rest) (before qs us) (fits rest g) (b.spells rest us g r)));
}
