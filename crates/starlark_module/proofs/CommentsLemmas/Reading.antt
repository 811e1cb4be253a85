-- Lexemes are read, one after the other.
use Rattle.std.proofs.Common.{◌≡◌, true, false, List, [], ◌∷◌, ◌++◌, map, Option, Some, None, option_map, is_none, Result, Ok, Err, refl, sym, ap, ◌∙◌, subst}
use Rattle.std.proofs.Common.{append_assoc, OnOk}
use Rattle.std.proofs.lemmas.Bool.{cond-true, cond-false}
use Rattle.std.proofs.lemmas.List.{append-nil}
use Rattle.std.proofs.lemmas.List.Elements.{All-nil, All-push, filter_map-append}
use Rattle.std.proofs.lemmas.List.Splits.{slice_split_at, slice_split_none}
use Rattle.std.specs.List.{filter_map, cons_option}
use Rattle.starlark_lexer.specs.Places.{line_of}
use Rattle.starlark_lexer.specs.Tokens as tokens
use Rattle.starlark_lexer.specs.Tokens.{Text, Span, Lexeme, LexerFault, lexeme}
use Rattle.starlark_module.specs.Comments.Comments.{Comment, comment_of, comments, is_no_comment, blocks}
use Rattle.starlark_module.specs.Comments.Suppressions.{Suppression, joined, names_in, is_empty, line_around, suppression_by, suppression_of, suppressions}
use Rattle.starlark_module.specs.Comments.Suppressions.{lines_span}
use Rattle.starlark_module.specs.Comments.Building.{IsRead, lines_of, suppressing}
use Rattle.starlark_tree.specs.Signatures.{merge}
use Rattle.starlark_module.proofs.CommentsLemmas.Joining.{joined_first, joined_more, suppression_first, suppression_more, lines_more, none_mapped, some_mapped}

abbrev Lexemes : Type 0
Lexemes = List (Result Lexeme LexerFault)

module _ (text : Text) where
  pub read_nothing : IsRead text [] [] None
  read_nothing = record { closed = []; run = []; run_is = All-nil (λ x. is_no_comment x ≡ false); split = λ more. refl; holds = refl; lines_are = refl }

  -- what the last block adds
  last_adds : (closed : List (List Comment)) (block : List Comment) → filter_map (suppression_of text) (closed ++ block ∷ [])
      ≡ filter_map (suppression_of text) closed ++ cons_option (suppression_of text block) []
  last_adds closed block = filter_map-append (suppression_of text) closed (block ∷ [])

  pub suppressed : {lexemes : Lexemes} {held : List Suppression} {lines : Option Span} → IsRead text lexemes held lines → held ≡ suppressions text lexemes
  suppressed {lexemes} r =
      let run_is = ap (map comments) (slice_split_none is_no_comment r.run r.run_is) in
      let blocks_are = ap blocks (sym (append-nil lexemes)) ∙ r.split [] ∙ ap (λ ys. r.closed ++ blocks ys) (append-nil r.run)
      ∙ ap (λ b. r.closed ++ b) run_is in
      r.holds ∙ ap (filter_map (suppression_of text)) (sym blocks_are)

module _ {text : Text} {lexemes : Lexemes} {held : List Suppression} {lines : Option Span} (r : IsRead text lexemes held lines) where
  -- any other lexeme ends the block
  pub block_ends : (x : Result Lexeme LexerFault) → comment_of x ≡ None → IsRead text (lexemes ++ x ∷ []) held None
  block_ends x other = record {
    closed = r.closed ++ comments r.run ∷ [];
    run = [];
    run_is = All-nil (λ x. is_no_comment x ≡ false);
    split = λ more. ap blocks (append_assoc lexemes (x ∷ []) more) ∙ r.split (x ∷ more)
        ∙ ap (λ b. r.closed ++ b) (ap (map comments) (slice_split_at is_no_comment r.run x more r.run_is (ap is_none other)))
        ∙ sym (append_assoc r.closed (comments r.run ∷ []) (blocks more));
    holds = r.holds ∙ sym (last_adds text (r.closed ++ comments r.run ∷ []) []
        ∙ append-nil (filter_map (suppression_of text) (r.closed ++ comments r.run ∷ [])));
    lines_are = refl;
  }

  module _ (said : Text) (span : Span) where
    abbrev c : Comment
    c = record { text = said; span = span }

    abbrev x : Result Lexeme LexerFault
    x = Ok (lexeme (tokens.Comment said) span)

    run_more : comments (r.run ++ x ∷ []) ≡ comments r.run ++ c ∷ []
    run_more = filter_map-append comment_of r.run (x ∷ [])

    -- a comment continues the block
    block_goes_on : {held' : List Suppression} {lines' : Option Span} → held' ≡ filter_map (suppression_of text) (r.closed ++ (comments r.run ++ c ∷ []) ∷ [])
        → lines' ≡ lines_of text (comments r.run ++ c ∷ [])
        → IsRead text (lexemes ++ x ∷ []) held' lines'
    block_goes_on holds lines_are = record {
      closed = r.closed;
      run = r.run ++ x ∷ [];
      run_is = All-push (λ x. is_no_comment x ≡ false) r.run x r.run_is refl;
      split = λ more. ap blocks (append_assoc lexemes (x ∷ []) more) ∙ r.split (x ∷ more)
          ∙ ap (λ ys. r.closed ++ blocks ys) (sym (append_assoc r.run (x ∷ []) more));
      holds = holds ∙ ap (λ b. filter_map (suppression_of text) (r.closed ++ b ∷ [])) (sym run_more);
      lines_are = lines_are ∙ ap (lines_of text) (sym run_more);
    }

    -- no comment of the block has named anything
    module _ (nothing : lines ≡ None) where
      still : joined (comments r.run) ≡ None
      still = none_mapped (λ j. lines_span text j.0 j.1) (joined (comments r.run)) (sym nothing ∙ r.lines_are)

      held_is : held ≡ filter_map (suppression_of text) r.closed
      held_is = r.holds ∙ last_adds text r.closed (comments r.run)
          ∙ ap (λ j. filter_map (suppression_of text) r.closed ++ cons_option (option_map (λ j. suppression_by text j.0 j.1) j) []) still
          ∙ append-nil (filter_map (suppression_of text) r.closed)

      -- with this one, what the block suppresses
      added : (o : Option (Comment × List Comment)) → joined (comments r.run ++ c ∷ []) ≡ o
          → filter_map (suppression_of text) r.closed ++ cons_option (option_map (λ j. suppression_by text j.0 j.1) o) [] ≡ filter_map (suppression_of text)
          (r.closed ++ (comments r.run ++ c ∷ []) ∷ [])
      added o e = sym (last_adds text r.closed (comments r.run ++ c ∷ [])
          ∙ ap (λ j. filter_map (suppression_of text) r.closed ++ cons_option (option_map (λ j. suppression_by text j.0 j.1) j) []) e)

      pub names_nothing : is_empty (names_in said) ≡ true → IsRead text (lexemes ++ x ∷ []) held None
      names_nothing e =
          let none = joined_first c (comments r.run) still ∙ cond-true (is_empty (names_in said)) None (Some (c, [])) e in
          block_goes_on (held_is ∙ sym (append-nil (filter_map (suppression_of text) r.closed)) ∙ added None none)
          (ap (option_map (λ j. lines_span text j.0 j.1)) (sym none))

      pub names_first : is_empty (names_in said) ≡ false → {held' : List Suppression}
          → held' ≡ held ++ suppressing text (names_in said) span (line_around text span.begin) (line_of text span.begin) false ∷ []
          → IsRead text (lexemes ++ x ∷ []) held' (Some (line_around text span.begin))
      names_first e more =
          let first = joined_first c (comments r.run) still ∙ cond-false (is_empty (names_in said)) None (Some (c, [])) e in
          block_goes_on (more ∙ ap (λ h. h ++ suppressing text (names_in said) span (line_around text span.begin) (line_of text span.begin) false ∷ []) held_is
          ∙ ap (λ s. filter_map (suppression_of text) r.closed ++ s ∷ []) (sym (suppression_first text c)) ∙ added (Some (c, [])) first)
          (ap (option_map (λ j. lines_span text j.0 j.1)) (sym first))

    -- some have
    module _ (before : Span) (d : Comment) (ds : List Comment) (some_join : joined (comments r.run) ≡ Some (d, ds))
        (before_is : before ≡ lines_span text d ds) where
      all_join : joined (comments r.run ++ c ∷ []) ≡ Some (d, ds ++ c ∷ [])
      all_join = joined_more c (comments r.run) (d, ds) some_join

      suppressed_before : held ≡ filter_map (suppression_of text) r.closed ++ suppression_by text d ds ∷ []
      suppressed_before =
          r.holds ∙ last_adds text r.closed (comments r.run)
          ∙ ap (λ j. filter_map (suppression_of text) r.closed ++ cons_option (option_map (λ j. suppression_by text j.0 j.1) j) []) some_join

      with_this : filter_map (suppression_of text) r.closed ++ suppressing text ((suppression_by text d ds).names ++ names_in said)
          (merge (suppression_by text d ds).token span) (merge before (line_around text span.begin)) (line_of text span.begin) true ∷ []
          ≡ filter_map (suppression_of text) (r.closed ++ (comments r.run ++ c ∷ []) ∷ [])
      with_this =
          ap (λ l. filter_map (suppression_of text) r.closed ++ suppressing text ((suppression_by text d ds).names ++ names_in said)
          (merge (suppression_by text d ds).token span) (merge l (line_around text span.begin)) (line_of text span.begin) true ∷ []) before_is
          ∙ ap (λ s. filter_map (suppression_of text) r.closed ++ s ∷ []) (sym (suppression_more text d c ds))
          ∙ sym (last_adds text r.closed (comments r.run ++ c ∷ [])
          ∙ ap (λ j. filter_map (suppression_of text) r.closed ++ cons_option (option_map (λ j. suppression_by text j.0 j.1) j) []) all_join)

      lines_with_this : Some (merge before (line_around text span.begin)) ≡ lines_of text (comments r.run ++ c ∷ [])
      lines_with_this =
          ap Some (ap (λ l. merge l (line_around text span.begin)) before_is ∙ sym (lines_more text d c ds)) ∙ ap (option_map (λ j. lines_span text j.0 j.1))
          (sym all_join)

    pub names_more : (before : Span) → lines ≡ Some before → {held' : List Suppression}
        → ((front : List Suppression) (last : Suppression) → held ≡ front ++ last ∷ []
        → held' ≡ front ++ suppressing text (last.names ++ names_in said) (merge last.token span) (merge before (line_around text span.begin))
        (line_of text span.begin) true ∷ [])
        → IsRead text (lexemes ++ x ∷ []) held' (Some (merge before (line_around text span.begin)))
    names_more before some more =
        let (j, some_join, before_is) = some_mapped (λ j. lines_span text j.0 j.1) (joined (comments r.run)) before (sym some ∙ r.lines_are) in
        block_goes_on
        (more (filter_map (suppression_of text) r.closed) (suppression_by text j.0 j.1) (suppressed_before before j.0 j.1 some_join before_is)
        ∙ with_this before j.0 j.1 some_join before_is)
        (lines_with_this before j.0 j.1 some_join before_is)

    -- ---- if memory was available

    pub first_ok : {T E : Type 0} (res : Result T E) (names : List Text) → names ≡ names_in said → lines ≡ None → is_empty (names_in said) ≡ false
        → (held' : List Suppression) (lines' : Option Span)
        → OnOk res (held' ≡ held ++ suppressing text names span (line_around text span.begin) (line_of text span.begin) false ∷ [])
        → OnOk res (lines' ≡ Some (line_around text span.begin)) → OnOk res (IsRead text (lexemes ++ x ∷ []) held' lines')
    first_ok (Ok _) names names_are nothing e held' lines' more lines_are =
        let first = names_first nothing e (more ∙ ap (λ n. held ++ suppressing text n span (line_around text span.begin) (line_of text span.begin) false ∷ [])
        names_are) in
        subst (λ l. IsRead text (lexemes ++ x ∷ []) held' l) (sym lines_are) first
    first_ok (Err _) names names_are nothing e held' lines' more lines_are = tt

    pub more_ok : {T E : Type 0} (res : Result T E) (names : List Text) → names ≡ names_in said → (before : Span) → lines ≡ Some before
        → (held' : List Suppression) (lines' : Option Span)
        → ((front : List Suppression) (last : Suppression) → held ≡ front ++ last ∷ []
        → OnOk res (held' ≡ front ++ suppressing text (last.names ++ names) (merge last.token span) (merge before (line_around text span.begin))
        (line_of text span.begin) true ∷ []))
        → OnOk res (lines' ≡ Some (merge before (line_around text span.begin))) → OnOk res (IsRead text (lexemes ++ x ∷ []) held' lines')
    more_ok (Ok _) names names_are before some held' lines' more lines_are =
        let named = λ (front : List Suppression) (last : Suppression) (ends_so : held ≡ front ++ last ∷ []). more front last ends_so
        ∙ ap (λ n. front ++ suppressing text (last.names ++ n) (merge last.token span) (merge before (line_around text span.begin)) (line_of text span.begin)
        true ∷ []) names_are in
        subst (λ l. IsRead text (lexemes ++ x ∷ []) held' l) (sym lines_are) (names_more before some named)
    more_ok (Err _) names names_are before some held' lines' more lines_are = tt
