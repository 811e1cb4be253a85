-- Lines and blocks, as they are written.
use Rattle.std.proofs.Common.{◌≡◌, ℕ, zero, suc, ◌+◌, ◌*◌, ◌<◌, ◌≤◌, true, false, List as Seq, [], ◌∷◌, ◌++◌, length, replicate, refl, sym, ap, ◌∙◌, subst}
use Rattle.std.proofs.Common.{arith, add-one}
use Rattle.std.proofs.lemmas.Bool.{cond-true, cond-false, and_left, and_right}
use Rattle.starlark_lexer.specs.Newlines.{first}
use Rattle.starlark_lexer.specs.Tokens.{Text, Terminal, Newline, Indent, Dedent, Colon, FStringText}
use Rattle.starlark_source.specs.Pieces.{Pieces, token, text_byte, blank, unsayable}
use Rattle.starlark_source.specs.SourceTokens.{with_text, is_dedent, only_dedents, with_last_newline}
use Rattle.starlark_source.specs.Lines.{margin, line, suite}
use Rattle.starlark_lexer.proofs.TokenTexts.LexerStates.{At}
use Rattle.starlark_lexer.proofs.TokenTexts.Indentation.{at_line, in_line, line_goes_on, line_ends, Filled, same_block, block_begins, block_ends, text_ends}
use Rattle.starlark_source.proofs.SourceLexemes.Pieces.{write, write-append, before, before-append, Lexed, one_token, Spells}
use Rattle.starlark_source.proofs.SourceLexemes.NextBytes.{Stops, is_begin, begins}
use Rattle.starlark_source.proofs.SourceLexemes.Lists.{colon_spelled}
use Rattle.starlark_source.proofs.SourceLexemes.SmallStatements.{BeginsLine}

-- a line of a depth, whose tokens these are, and those after it
pub record Line (k : ℕ) (whole : Text) (us : Seq Terminal) : Type 0 where
  pub text : Text
  pub is : whole ≡ replicate (4 * k) 32 ++ text
  pub filled : Filled text
  pub some : only_dedents us ≡ false
  pub lexed : Lexed (in_line k) text us

-- What comes after a line of a block: the end of the text, or a line that is not indented more.
pub data Next (k : ℕ) (rest : Text) (us : Seq Terminal) : Type 0 where
  over : rest ≡ [] → us ≡ replicate k Dedent → Next k rest us
  another : (j : ℕ) → j ≤ k → (text : Text) → Filled text → only_dedents us ≡ false → rest ≡ replicate (4 * j) 32 ++ text → Next k rest us

pub record Onward (k : ℕ) (rest : Text) (us : Seq Terminal) : Type 0 where
  pub next : Next k rest us
  pub lexed : Lexed (at_line k) rest us

-- a line where one of its depth is allowed
pub at_begin : {k : ℕ} {whole : Text} {us : Seq Terminal} → Line k whole us → Lexed (at_line k) whole us
at_begin {k = k} {us = us} l = subst (λ text. Lexed (at_line k) text us) (sym l.is) (record {
  lexes = same_block l.filled l.lexed.lexes;
})

pub onward : {k : ℕ} {whole : Text} {us : Seq Terminal} → Line k whole us → Onward k whole us
onward {k = k} l = record { next = another k (omega arith) l.text l.filled l.some l.is; lexed = at_begin l }

-- a line that begins a block
indented : {k : ℕ} {whole : Text} {us : Seq Terminal} → Line (suc k) whole us → Lexed (at_line k) whole (Indent ∷ us)
indented {k = k} {us = us} l = subst (λ text. Lexed (at_line k) text (Indent ∷ us)) (sym l.is) (record {
  lexes = block_begins l.filled l.lexed.lexes;
})

-- ---- the end of a block

all_dedents : (k : ℕ) → only_dedents (replicate k Dedent) ≡ true
all_dedents zero = refl
all_dedents (suc k) = all_dedents k

last_dedents : (k : ℕ) → with_last_newline (replicate (suc k) Dedent) ≡ Newline ∷ replicate (suc k) Dedent
last_dedents k = cond-true (only_dedents (replicate k Dedent)) _ _ (all_dedents k)

out_of_block : {k : ℕ} {rest : Text} {us : Seq Terminal} → Next k rest us → Lexed (at_line k) rest us → Lexed (at_line (suc k)) rest (Dedent ∷ us)
out_of_block {k = k} {rest = rest} {us = us} (over none all) r =
    subst (λ text. Lexed (at_line (suc k)) text (Dedent ∷ us)) (sym none)
    (subst (λ vs. Lexed (at_line (suc k)) [] (Dedent ∷ vs)) (sym all)
    (record { lexes = subst (λ ts. At (at_line (suc k)) [] ts) (sym (last_dedents k)) (text_ends (suc k)) }))
out_of_block {k = k} {rest = rest} {us = us} (another j out text filled some is) r = record {
  lexes = subst (λ ts. At (at_line (suc k)) rest ts) (sym (cond-false (only_dedents us) _ _ some))
      (subst (λ x. At (at_line (suc k)) x (Dedent ∷ with_last_newline us)) (sym is)
      (block_ends j out filled (subst (λ x. At (at_line k) x (with_last_newline us)) is r.lexes)));
}

next_out : {k : ℕ} {rest : Text} {us : Seq Terminal} → Next k rest us → Next (suc k) rest (Dedent ∷ us)
next_out (over none all) = over none (ap (λ vs. Dedent ∷ vs) all)
next_out (another j out text filled some is) = another j (omega arith) text filled some is

dedented : {k : ℕ} {rest : Text} {us : Seq Terminal} → Onward k rest us → Onward (suc k) rest (Dedent ∷ us)
dedented o = record { next = next_out o.next; lexed = out_of_block o.next o.lexed }

-- ---- pieces that are lines

-- before what may follow them these pieces are lines of a depth
pub record Lays (k : ℕ) (ps : Pieces) : Type 0 where
  pub lays : (rest : Text) (us : Seq Terminal) → Onward k rest us → Line k (write ps rest) (before ps us)

pub then_lays : {k : ℕ} {ps qs : Pieces} → Lays k ps → Lays k qs → Lays k (ps ++ qs)
then_lays {k = k} {ps = ps} {qs = qs} a b = record {
  lays = λ rest us o.
      subst (λ text. Line k text (before (ps ++ qs) us)) (sym (write-append ps qs rest))
      (subst (λ ts. Line k (write ps (write qs rest)) ts) (sym (before-append ps qs us))
      (a.lays (write qs rest) (before qs us) (onward (b.lays rest us o))));
}

begun : (ps : Pieces) (rest : Text) → BeginsLine ps → Filled (write ps rest)
begun ps rest h =
    let b = begins (first (write ps rest)) (h rest) in
    record { solid = record { some = some (write ps rest) (h rest); no_gap = b.no_gap }; no_comment = b.no_comment }
  where
    some : (text : Text) → is_begin (first text) ≡ true → 0 < length text
    some [] e = cc
    some (c ∷ cs) e = omega arith

newline_lexed : {k : ℕ} {rest : Text} {us : Seq Terminal} → Lexed (at_line k) rest us → Lexed (in_line k) (10 ∷ rest) (Newline ∷ us)
newline_lexed {k = k} {rest = rest} {us = us} r =
    one_token {c = in_line k} {d = at_line k} {rest = rest} {text = 10 ∷ rest} {us = us} Newline refl (λ ts h. line_ends h) r

-- ---- there are tokens besides Dedents

text_some : (b : ℕ) (us : Seq Terminal) → only_dedents (with_text b us) ≡ false
text_some b [] = refl
text_some b (FStringText text ∷ us) = refl
text_some b (_ ∷ us) = refl

token_some : (ps : Pieces) (t : Terminal) (qs : Pieces) (us : Seq Terminal) → is_dedent t ≡ false → only_dedents (before (ps ++ token t ∷ qs) us) ≡ false
token_some [] t qs us other = and_left (is_dedent t) _ other
token_some (token x ∷ ps) t qs us other = and_right (is_dedent x) _ (token_some ps t qs us other)
token_some (text_byte b ∷ ps) t qs us other = text_some b _
token_some (blank n ∷ ps) t qs us other = token_some ps t qs us other
token_some (unsayable s ∷ ps) t qs us other = token_some ps t qs us other

-- pieces on a line of their own
pub one_line : {k : ℕ} {ps : Pieces} → Spells (in_line k) ps (in_line k) Stops → BeginsLine ps → Lays k (line k ps)
one_line {k = k} {ps = ps} a h = record {
  lays = λ rest us o. record {
    text = write (ps ++ token Newline ∷ []) rest;
    is = refl;
    filled = begun (ps ++ token Newline ∷ []) rest (λ x. ap (λ text. is_begin (first text)) (write-append ps (token Newline ∷ []) x) ∙ h (10 ∷ x));
    some = token_some ps Newline [] us refl;
    lexed = subst (λ text. Lexed (in_line k) text (before (ps ++ token Newline ∷ []) us)) (sym (write-append ps (token Newline ∷ []) rest))
        (subst (λ ts. Lexed (in_line k) (write ps (10 ∷ rest)) ts) (sym (before-append ps (token Newline ∷ []) us))
        (a.spells (10 ∷ rest) (Newline ∷ us) refl (newline_lexed o.lexed)));
  };
}

-- a colon and the block after it
suite_lexed : {k : ℕ} {body : Pieces} {rest : Text} {us : Seq Terminal} → Lays (suc k) body → Onward k rest us
    → Lexed (in_line k) (write (suite body) rest) (before (suite body) us)
suite_lexed {k = k} {body = body} {rest = rest} {us = us} l o =
    let block = l.lays rest (Dedent ∷ us) (dedented o) in
    let after = body ++ token Dedent ∷ [] in
    let inside : Lexed (at_line k) (write after rest) (Indent ∷ before after us) =
    subst (λ text. Lexed (at_line k) text (Indent ∷ before after us)) (sym (write-append body (token Dedent ∷ []) rest))
    (subst (λ ts. Lexed (at_line k) (write body rest) (Indent ∷ ts)) (sym (before-append body (token Dedent ∷ []) us)) (indented block)) in
    (colon_spelled (line_goes_on k)).spells (10 ∷ write after rest) (Newline ∷ Indent ∷ before after us) tt (newline_lexed inside)

-- a line with a block
pub headed : {k : ℕ} {ps body : Pieces} → Spells (in_line k) ps (in_line k) Stops → BeginsLine ps → Lays (k + 1) body
    → Lays k (margin k ++ (ps ++ suite body))
headed {k = k} {ps = ps} {body = body} a h l = record {
  lays = λ rest us o. record {
    text = write (ps ++ suite body) rest;
    is = refl;
    filled = begun (ps ++ suite body) rest (λ x. ap (λ text. is_begin (first text)) (write-append ps (suite body) x) ∙ h (write (suite body) x));
    some = token_some ps Colon _ us refl;
    lexed = subst (λ text. Lexed (in_line k) text (before (ps ++ suite body) us)) (sym (write-append ps (suite body) rest))
        (subst (λ ts. Lexed (in_line k) (write ps (write (suite body) rest)) ts) (sym (before-append ps (suite body) us))
        (a.spells (write (suite body) rest) (before (suite body) us) refl (suite_lexed (subst (λ j. Lays j body) (add-one k) l) o)));
  };
}
