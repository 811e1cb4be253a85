-- Names and literals of tokens that are read again are written.
use Rattle.std.proofs.Common.{◌≡◌, ℕ, ◌^◌, ◌<◌, ◌≤◌, nat_lt, Bool, true, false, ◌==◌, Some, None, Ok, length, refl, ap, ◌∙◌, arith, pos, negsuc}
use Rattle.std.specs.List.{list_all}
use Rattle.std.proofs.lemmas.Bool.{cond-true, lt-ltb, eq-eqb}
use Rattle.starlark_lexer.specs.Cuts.{token as cut_token}
use Rattle.starlark_lexer.specs.Tokens.{Text, Span, Terminal, Number, lexeme, from_to, Identifier, Int, Float, String, Bytes, small, large}
use Rattle.starlark_lexer.specs.Lexemes.{State, start, step}
use Rattle.starlark_lexer.proofs.TokenTexts.WholeTexts.{Cuts}
use Rattle.starlark_lexer.proofs.TokenTexts.GivenTokens.{Rereads, name_again, number_again}
use Rattle.starlark_tree.specs.Ast as t
use Rattle.starlark_spec.specs.Trees.{at}
use Rattle.starlark_source.specs.Literals.{name, sayable, int, is_byte, literal}
use Rattle.starlark_source.specs.Readings.{whole_of, only_token, reading_of, is_name, is_float, is_large_int, is_name_reading, is_float_reading}
use Rattle.starlark_source.specs.Readings.{is_large_reading}
use Rattle.starlark_source.proofs.ReadBack.Writing.{Sayable}
use Rattle.starlark_source.proofs.SourceLexemes.Tokens.{Named, Numbered, cuts_name, cuts_number}

said_if : (b : Bool) (t : Terminal) (s : Span) → b ≡ true → Sayable (sayable b t s)
said_if true t s e = tt
said_if false t s e = absurd (cc)

whole_is : (n : ℕ) (t : Terminal) (u : State) → whole_of n (Some (Ok (lexeme t (from_to 0 n)), u)) ≡ Some t
whole_is n t u = cond-true (n == n) (Some t) None (eq-eqb n n refl)

only_is : (w : Text) (t : Terminal) (u : State) → length w < 2 ^ 32 → step (start w) ≡ Some (Ok (lexeme t (from_to 0 (length w))), u) → only_token w ≡ Some t
unfolding only_token
only_is w t u short is =
    cond-true (nat_lt (length w) (2 ^ 32)) (whole_of (length w) (step (start w))) None (lt-ltb (length w) (2 ^ 32) short)
    ∙ ap (whole_of (length w)) is ∙ whole_is (length w) t u

module _ (most : ℕ) (bound : most < 2 ^ 32) where
  is_name_again : (w : Text) → Rereads most (Identifier w) → is_name w ≡ true
  is_name_again w h =
      let n : Named w = cuts_name h.0 in
      let short = h.1 in
      let again = name_again w n.all n.letter n.no_keyword n.no_reserved in
      ap (λ o. is_name_reading (reading_of o)) (only_is w (Identifier w) again.0 (omega arith) again.1)

  is_float_again : (w : Text) → Rereads most (Float w) → is_float w ≡ true
  is_float_again w h =
      let n : Numbered w (Float w) = cuts_number h.0 in
      let short = h.1 in
      let again = number_again w (Float w) n.begins n.cut in
      ap (λ o. is_float_reading (reading_of o)) (only_is w (Float w) again.0 (omega arith) again.1)

  is_large_again : (w : Text) → Rereads most (Int (large w)) → is_large_int w ≡ true
  is_large_again w h =
      let n : Numbered w (Int (large w)) = cuts_number h.0 in
      let short = h.1 in
      let again = number_again w (Int (large w)) n.begins n.cut in
      ap (λ o. is_large_reading (reading_of o)) (only_is w (Int (large w)) again.0 (omega arith) again.1)

  pub name_said : (w : Text) (s : Span) → Rereads most (Identifier w) → Sayable (name (at w s))
  name_said w s h = said_if (is_name w) (Identifier w) s (is_name_again w h)

  pub int_said : (s : Span) (n : Number) → Rereads most (Int n) → Sayable (int s n)
  int_said s (small (pos n)) h = said_if (nat_lt n (2 ^ 31)) (Int (small (pos n))) s (lt-ltb n (2 ^ 31) h.0)
  int_said s (small (negsuc n)) h = absurd h.0
  int_said s (large w) h = said_if (is_large_int w) (Int (large w)) s (is_large_again w h)

  pub float_said : (w : Text) (s : Span) → Rereads most (Float w) → Sayable (literal (t.Float (at w s)))
  float_said w s h = said_if (is_float w) (Float w) s (is_float_again w h)

  pub bytes_said : (w : Text) (s : Span) → Rereads most (Bytes w) → Sayable (literal (t.Bytes (at w s)))
  bytes_said w s h = said_if (list_all is_byte w) (Bytes w) s h.0
