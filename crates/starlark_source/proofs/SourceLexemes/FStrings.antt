-- F-strings, as they are written.
use Rattle.std.proofs.Common.{◌≡◌, ℕ, zero, suc, Bool, false, ◌==◌, List as Seq, [], ◌∷◌, ◌++◌, slice_index, None, refl, sym, ap, ◌∙◌, subst}
use Rattle.std.specs.Bool.{⊤}
use Rattle.std.proofs.lemmas.Bool.{and_left}
use Rattle.starlark_lexer.specs.Newlines.{first}
use Rattle.starlark_lexer.specs.Tokens.{Text, Span, Terminal, Identifier, FStringStart, FStringText, FStringExprStart, FStringBang, FStringExprEnd}
use Rattle.starlark_lexer.specs.Tokens.{FStringEnd}
use Rattle.starlark_lexer.specs.declared.token.FStringQuote.TheVariants.{Double}
use Rattle.starlark_lexer.specs.Words.{keyword, is_reserved}
use Rattle.starlark_source.specs.declared.format.Mark.{Mark}
use Rattle.starlark_source.specs.declared.format.Mark.TheVariants as marks
use Rattle.starlark_source.specs.Pieces.{Pieces, token, escaped_in_format}
use Rattle.starlark_source.specs.Formats.{as_repr, mark_of, marked_source, filled_after, filled}
use Rattle.starlark_source.specs.SourceTokens.{with_text, with_last_newline}
use Rattle.starlark_lexer.proofs.TokenTexts.LexerStates.{Standing, At}
use Rattle.starlark_lexer.proofs.TokenTexts.LineTokens.{InLine}
use Rattle.starlark_lexer.proofs.TokenTexts.Names.{EndsName}
use Rattle.starlark_lexer.proofs.TokenTexts.Literals.{is_triple, spelled_begins}
use Rattle.starlark_lexer.proofs.TokenTexts.FStrings.{in_f_string, in_hole, f_string_begins, f_string_ends, hole_begins, hole_ends, hole_line}
use Rattle.starlark_lexer.proofs.TokenTexts.FStrings.{conversion_begins, TextThen, text_closed, text_hole, text_more, text_then, text_lexed}
use Rattle.starlark_source.proofs.ReadBack.Writing.{Sayable, split}
use Rattle.starlark_source.proofs.SourceLexemes.Pieces.{write, write-append, before, before-append, Lexed, one_token, Spells}
use Rattle.starlark_source.proofs.SourceLexemes.NextBytes.{StopsOr, Stops, no_mark}
use Rattle.starlark_source.proofs.SourceLexemes.Tokens.{given_token, name_token}
use Rattle.starlark_source.proofs.SourceLexemes.Literals.{format_escaped}

-- In the text of an f-string the lexer returns these tokens: a text, and what comes after it.
pub record LexedText (c : Standing) (rest : Text) (us : Seq Terminal) : Type 0 where
  pub value : Text
  pub after : Seq Terminal
  pub text : TextThen c rest value (with_last_newline after)
  pub are : us ≡ text_then value after
  pub no_text : (b : ℕ) → with_text b after ≡ FStringText (b ∷ []) ∷ after
  pub once : is_triple rest ≡ false

text_ended : (value : Text) (us : Seq Terminal) → text_then value (with_last_newline us) ≡ with_last_newline (text_then value us)
text_ended [] us = refl
text_ended (b ∷ bs) us = refl

pub as_lexed : {c : Standing} {rest : Text} {us : Seq Terminal} → LexedText c rest us → Lexed (in_f_string c) rest us
as_lexed {c = c} {rest = rest} r = record {
  lexes = subst (λ ts. At (in_f_string c) rest ts) (text_ended r.value r.after ∙ ap with_last_newline (sym r.are))
      (text_lexed c rest r.value (with_last_newline r.after) r.text);
}

longer_text : (value : Text) (b : ℕ) (after : Seq Terminal) → ((c : ℕ) → with_text c after ≡ FStringText (c ∷ []) ∷ after)
    → with_text b (text_then value after) ≡ text_then (b ∷ value) after
longer_text [] b after h = h b
longer_text (c ∷ cs) b after h = refl

byte_more : {c : Standing} {rest : Text} {us : Seq Terminal} (b : ℕ) → LexedText c rest us → LexedText c (escaped_in_format b ++ rest) (with_text b us)
byte_more {rest = rest} b r = record {
  value = b ∷ r.value;
  after = r.after;
  text = text_more (format_escaped b) r.text;
  are = ap (with_text b) r.are ∙ longer_text r.value b r.after r.no_text;
  no_text = r.no_text;
  once = and_left _ _ (spelled_begins rest (format_escaped b));
}

closing : {c : Standing} {rest : Text} {us : Seq Terminal} → (first rest == 34) ≡ false → Lexed c rest us → LexedText c (34 ∷ rest) (FStringEnd ∷ us)
closing {us = us} other r = record {
  value = [];
  after = FStringEnd ∷ us;
  text = text_closed (f_string_ends r.lexes);
  are = refl;
  no_text = λ b. refl;
  once = other;
}

hole_opens : {c : Standing} {rest : Text} {us : Seq Terminal} → (first rest == 123) ≡ false → Lexed (in_hole c) rest us
    → LexedText c (123 ∷ rest) (FStringExprStart ∷ us)
hole_opens {us = us} other r = record {
  value = [];
  after = FStringExprStart ∷ us;
  text = text_hole other (hole_begins other r.lexes);
  are = refl;
  no_text = λ b. refl;
  once = refl;
}

hole_closes : {c : Standing} {rest : Text} {us : Seq Terminal} → c.line_begins ≡ false → LexedText c rest us
    → Lexed (in_hole c) (125 ∷ rest) (FStringExprEnd ∷ us)
hole_closes {c = c} {rest = rest} {us = us} goes_on r =
    one_token {c = in_hole c} {d = in_f_string c} {rest = rest} {text = 125 ∷ rest} {us = us} FStringExprEnd refl (λ ts h. hole_ends goes_on h) (as_lexed r)

repr_plain : (keyword (114 ∷ []) ≡ None) × (is_reserved (114 ∷ []) ≡ false)
unfolding keyword is_reserved
repr_plain = (refl, refl)

-- the conversion of a hole
conversion_lexed : {c : Standing} {rest : Text} {us : Seq Terminal} → c.line_begins ≡ false → EndsName rest → Lexed (in_hole c) rest us
    → Lexed (in_hole c) (33 ∷ 114 ∷ rest) (FStringBang ∷ Identifier (114 ∷ []) ∷ us)
conversion_lexed {c = c} {rest = rest} {us = us} goes_on ends r =
    let named = given_token {c = in_hole c} {F = EndsName} (Identifier (114 ∷ [])) (hole_line c goes_on)
    (λ left f. name_token (114 ∷ []) left (record { all = refl; letter = refl; no_keyword = repr_plain.0; no_reserved = repr_plain.1 }) f) in
    one_token {c = in_hole c} {d = in_hole c} {rest = 114 ∷ rest} {text = 33 ∷ 114 ∷ rest} {us = Identifier (114 ∷ []) ∷ us} FStringBang refl
    (λ ts h. conversion_begins goes_on refl h) (named.spells rest us ends r)

-- ---- formats

-- what is in the holes of an f-string
pub record IsHole (c : Standing) (p : Pieces) : Type 0 where
  pub spelled : Sayable p → Spells (in_hole c) p (in_hole c) Stops
  pub no_brace : Sayable p → (rest : Text) → (first (write p rest) == 123) ≡ false

abbrev pub AreHoles : Standing → Seq Pieces → Type 0
AreHoles c [] = ⊤
AreHoles c (p ∷ ps) = IsHole c p × AreHoles c ps

-- pieces before the closing quote, and what is after it
abbrev Formats : Standing → Pieces → Text → Seq Terminal → Type 0
Formats c ps rest us = LexedText c (write ps (34 ∷ rest)) (before ps (FStringEnd ∷ us))

no_space : (ps : Pieces) (rest : Text) → EndsName (125 ∷ rest)
no_space ps rest = record { no_more = refl; no_quote = refl }

module _ (c : Standing) (rest : Text) (us : Seq Terminal) (goes_on : c.line_begins ≡ false) where
  hole_lexed : (e ps : Pieces) → IsHole c e → Sayable e → Formats c ps rest us → Formats c (token FStringExprStart ∷ (e ++ token FStringExprEnd ∷ ps)) rest us
  hole_lexed e ps is h r =
      let closed = hole_closes goes_on r in
      let inside = (is.spelled h).spells (125 ∷ write ps (34 ∷ rest)) (FStringExprEnd ∷ before ps (FStringEnd ∷ us)) refl closed in
      subst (λ text. LexedText c (123 ∷ text) (FStringExprStart ∷ before (e ++ token FStringExprEnd ∷ ps) (FStringEnd ∷ us)))
      (sym (write-append e (token FStringExprEnd ∷ ps) (34 ∷ rest)))
      (subst (λ ts. LexedText c (123 ∷ write e (125 ∷ write ps (34 ∷ rest))) (FStringExprStart ∷ ts))
      (sym (before-append e (token FStringExprEnd ∷ ps) (FStringEnd ∷ us)))
      (hole_opens (is.no_brace h (125 ∷ write ps (34 ∷ rest))) inside))

  repr_lexed : (e ps : Pieces) → IsHole c e → Sayable e → Formats c ps rest us
      → Formats c (token FStringExprStart ∷ (e ++ (as_repr ++ (token FStringExprEnd ∷ ps)))) rest us
  repr_lexed e ps is h r =
      let after = as_repr ++ (token FStringExprEnd ∷ ps) in
      let closed = conversion_lexed goes_on (record { no_more = refl; no_quote = refl }) (hole_closes goes_on r) in
      let inside = (is.spelled h).spells (write after (34 ∷ rest)) (before after (FStringEnd ∷ us)) refl closed in
      subst (λ text. LexedText c (123 ∷ text) (FStringExprStart ∷ before (e ++ after) (FStringEnd ∷ us))) (sym (write-append e after (34 ∷ rest)))
      (subst (λ ts. LexedText c (123 ∷ write e (write after (34 ∷ rest))) (FStringExprStart ∷ ts)) (sym (before-append e after (FStringEnd ∷ us)))
      (hole_opens (is.no_brace h (write after (34 ∷ rest))) inside))

  marked_lexed : (s : Span) (m : Mark) (b : ℕ) (es : Seq Pieces) (left : ℕ → Seq Pieces → Pieces) → AreHoles c es → Sayable (marked_source s m b es left)
      → ((k : ℕ) (ps : Seq Pieces) → AreHoles c ps → Sayable (left k ps) → Formats c (left k ps) rest us) → Formats c (marked_source s m b es left) rest us
  marked_lexed s marks.Text b es left are h f = byte_more b (f 0 es are h)
  marked_lexed s marks.Brace b es left are h f = byte_more b (f 1 es are h)
  marked_lexed s marks.Hole b [] left are h f = absurd h
  marked_lexed s marks.Hole b (e ∷ es) left are h f =
      let parts = split e (token FStringExprEnd ∷ left 1 es) h in hole_lexed e (left 1 es) are.0 parts.0 (f 1 es are.1 parts.1)
  marked_lexed s marks.ReprHole b [] left are h f = absurd h
  marked_lexed s marks.ReprHole b (e ∷ es) left are h f =
      let parts = split e (as_repr ++ (token FStringExprEnd ∷ left 3 es)) h in repr_lexed e (left 3 es) are.0 parts.0 (f 3 es are.1 parts.1)
  marked_lexed s marks.Broken b es left are h f = absurd h

  filled_lexed : (s : Span) (k : ℕ) (format : Text) (es : Seq Pieces) → AreHoles c es → Sayable (filled_after s k format es)
      → (first rest == 34) ≡ false → Lexed c rest us → Formats c (filled_after s k format es) rest us
  filled_lexed s k [] [] are h other r = closing other r
  filled_lexed s k [] (e ∷ es) are h other r = absurd h
  filled_lexed s zero (b ∷ text) es are h other r =
      marked_lexed s (mark_of b (slice_index text 0) (slice_index text 1) (slice_index text 2)) b es (λ k. filled_after s k text) are h
      (λ k ps all g. filled_lexed s k text ps all g other r)
  filled_lexed s (suc k) (b ∷ text) es are h other r = filled_lexed s k text es are h other r

pub f_string_spelled : {c : Standing} (p : Bool) (s : Span) (format : Text) (es : Seq Pieces) → InLine c → AreHoles c es
    → Sayable (token (FStringStart Double) ∷ (filled s format es ++ token FStringEnd ∷ []))
    → Spells c (token (FStringStart Double) ∷ (filled s format es ++ token FStringEnd ∷ [])) c (StopsOr p)
f_string_spelled {c = c} p s format es line are h = record { spells = λ rest us f r. go rest us f r }
  where
    go : (rest : Text) (us : Seq Terminal) → StopsOr p rest → Lexed c rest us
        → Lexed c (102 ∷ 34 ∷ write (filled s format es ++ token FStringEnd ∷ []) rest)
        (FStringStart Double ∷ before (filled s format es ++ token FStringEnd ∷ []) us)
    go rest us f r =
        let all = filled s format es in
        let inside = filled_lexed c rest us line.goes_on s 0 format es are (split all (token FStringEnd ∷ []) h).0 (no_mark p rest f) r in
        subst (λ text. Lexed c (102 ∷ 34 ∷ text) (FStringStart Double ∷ before (all ++ token FStringEnd ∷ []) us))
        (sym (write-append all (token FStringEnd ∷ []) rest))
        (subst (λ ts. Lexed c (102 ∷ 34 ∷ write all (34 ∷ rest)) (FStringStart Double ∷ ts)) (sym (before-append all (token FStringEnd ∷ []) us))
        (one_token {c = c} {d = in_f_string c} {rest = write all (34 ∷ rest)} {text = 102 ∷ 34 ∷ write all (34 ∷ rest)} {us = before all (FStringEnd ∷ us)}
        (FStringStart Double) refl
        (λ ts x. f_string_begins line inside.once x) (as_lexed inside)))
