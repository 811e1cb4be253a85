use Rattle.std.proofs.Common.{◌≡◌, codes, get_or, sym, ◌∙◌, arith}
use Rattle.std.proofs.lemmas.Bool.{false≢true}
use Rattle.starlark_lexer.specs.Words.{keyword, keywords}
use Rattle.starlark_lexer.proofs.WordLemmas.{long-keyword, beginning, none_spelled, spelled_so-beginning, none_begins}
use Rattle.starlark_lexer.proofs.words.keyword.Goals as goal
use Rattle.starlark_lexer.proofs.words.keyword.Goals.{in_default-via-in-97+else-is_word, in_default-via-in-98+else-is_word-2}
use Rattle.starlark_lexer.proofs.words.keyword.Goals.{in_default-via-in-99+else-is_word-3, in_default-via-in-100+else-is_word-4}
use Rattle.starlark_lexer.proofs.words.keyword.Goals.{in_default-via-in-101-2+else-is_word-6, in_default-via-in-102+else-is_word-7}
use Rattle.starlark_lexer.proofs.words.keyword.Goals.{in_default-via-in-105-2+else-is_word-9, in_default-via-in-108-2+else-is_word-11}
use Rattle.starlark_lexer.proofs.words.keyword.Goals.{in_default-via-in-110+else-is_word-12, in_default-via-in-111+else-is_word-13}
use Rattle.starlark_lexer.proofs.words.keyword.Goals.{in_default-via-in-112+else-is_word-14, in_default-via-in-114+else-is_word-15}
use Rattle.starlark_lexer.proofs.words.keyword.Goals.{in_default-via-in_default-1}

pub returns-in_default : goal.returns-in_default
unfolding keyword
returns-in_default c =
    elim c.in_default.branch [
      | in_default-via-in-97+else-is_word w ↦ let first : get_or c.args.name.now 0 0 ≡ 97 = cc in
          let not_and : c.args.name.now ≡ codes "and" → ⊥ = λ e. false≢true (w.if-is_word.ensures.1 e) in
          none_spelled c.args.name.now (beginning 97 keywords) (not_and, tt) ∙ sym (spelled_so-beginning c.args.name.now 97 keywords first)
      | in_default-via-in-98+else-is_word-2 w ↦ let first : get_or c.args.name.now 0 0 ≡ 98 = cc in
          let not_break : c.args.name.now ≡ codes "break" → ⊥ = λ e. false≢true (w.if-is_word-2.ensures.1 e) in
          none_spelled c.args.name.now (beginning 98 keywords) (not_break, tt) ∙ sym (spelled_so-beginning c.args.name.now 98 keywords first)
      | in_default-via-in-99+else-is_word-3 w ↦ let first : get_or c.args.name.now 0 0 ≡ 99 = cc in
          let not_continue : c.args.name.now ≡ codes "continue" → ⊥ = λ e. false≢true (w.if-is_word-3.ensures.1 e) in
          none_spelled c.args.name.now (beginning 99 keywords) (not_continue, tt) ∙ sym (spelled_so-beginning c.args.name.now 99 keywords first)
      | in_default-via-in-100+else-is_word-4 w ↦ let first : get_or c.args.name.now 0 0 ≡ 100 = cc in
          let not_def : c.args.name.now ≡ codes "def" → ⊥ = λ e. false≢true (w.if-is_word-4.ensures.1 e) in
          none_spelled c.args.name.now (beginning 100 keywords) (not_def, tt) ∙ sym (spelled_so-beginning c.args.name.now 100 keywords first)
      | in_default-via-in-101-2+else-is_word-6 w ↦ let first : get_or c.args.name.now 0 0 ≡ 101 = cc in
          let not_elif : c.args.name.now ≡ codes "elif" → ⊥ = λ e. false≢true (w.if-is_word-5.ensures.1 e) in
          let not_else : c.args.name.now ≡ codes "else" → ⊥ = λ e. false≢true (w.if-is_word-6.ensures.1 e) in
          none_spelled c.args.name.now (beginning 101 keywords) (not_elif, (not_else, tt)) ∙ sym (spelled_so-beginning c.args.name.now 101 keywords first)
      | in_default-via-in-102+else-is_word-7 w ↦ let first : get_or c.args.name.now 0 0 ≡ 102 = cc in
          let not_for : c.args.name.now ≡ codes "for" → ⊥ = λ e. false≢true (w.if-is_word-7.ensures.1 e) in
          none_spelled c.args.name.now (beginning 102 keywords) (not_for, tt) ∙ sym (spelled_so-beginning c.args.name.now 102 keywords first)
      | in_default-via-in-105-2+else-is_word-9 w ↦ let first : get_or c.args.name.now 0 0 ≡ 105 = cc in
          let not_if : c.args.name.now ≡ codes "if" → ⊥ = λ e. false≢true (w.if-is_word-8.ensures.1 e) in
          let not_in : c.args.name.now ≡ codes "in" → ⊥ = λ e. false≢true (w.if-is_word-9.ensures.1 e) in
          none_spelled c.args.name.now (beginning 105 keywords) (not_if, (not_in, tt)) ∙ sym (spelled_so-beginning c.args.name.now 105 keywords first)
      | in_default-via-in-108-2+else-is_word-11 w ↦ let first : get_or c.args.name.now 0 0 ≡ 108 = cc in
          let not_lambda : c.args.name.now ≡ codes "lambda" → ⊥ = λ e. false≢true (w.if-is_word-10.ensures.1 e) in
          let not_load : c.args.name.now ≡ codes "load" → ⊥ = λ e. false≢true (w.if-is_word-11.ensures.1 e) in
          none_spelled c.args.name.now (beginning 108 keywords) (not_lambda, (not_load, tt)) ∙ sym (spelled_so-beginning c.args.name.now 108 keywords first)
      | in_default-via-in-110+else-is_word-12 w ↦ let first : get_or c.args.name.now 0 0 ≡ 110 = cc in
          let not_not : c.args.name.now ≡ codes "not" → ⊥ = λ e. false≢true (w.if-is_word-12.ensures.1 e) in
          none_spelled c.args.name.now (beginning 110 keywords) (not_not, tt) ∙ sym (spelled_so-beginning c.args.name.now 110 keywords first)
      | in_default-via-in-111+else-is_word-13 w ↦ let first : get_or c.args.name.now 0 0 ≡ 111 = cc in
          let not_or : c.args.name.now ≡ codes "or" → ⊥ = λ e. false≢true (w.if-is_word-13.ensures.1 e) in
          none_spelled c.args.name.now (beginning 111 keywords) (not_or, tt) ∙ sym (spelled_so-beginning c.args.name.now 111 keywords first)
      | in_default-via-in-112+else-is_word-14 w ↦ let first : get_or c.args.name.now 0 0 ≡ 112 = cc in
          let not_pass : c.args.name.now ≡ codes "pass" → ⊥ = λ e. false≢true (w.if-is_word-14.ensures.1 e) in
          none_spelled c.args.name.now (beginning 112 keywords) (not_pass, tt) ∙ sym (spelled_so-beginning c.args.name.now 112 keywords first)
      | in_default-via-in-114+else-is_word-15 w ↦ let first : get_or c.args.name.now 0 0 ≡ 114 = cc in
          let not_return : c.args.name.now ≡ codes "return" → ⊥ = λ e. false≢true (w.if-is_word-15.ensures.1 e) in
          none_spelled c.args.name.now (beginning 114 keywords) (not_return, tt) ∙ sym (spelled_so-beginning c.args.name.now 114 keywords first)
      | in_default-via-in_default-1 w ↦ let first : get_or c.args.name.now 0 0 ≡ c.byte_at.result = cc in
          none_begins c.args.name.now c.byte_at.result keywords first (
            λ e. absurd (omega arith),
            (
              λ e. absurd (omega arith),
              (
                λ e. absurd (omega arith),
                (
                  λ e. absurd (omega arith),
                  (
                    λ e. absurd (omega arith),
                    (
                      λ e. absurd (omega arith),
                      (
                        λ e. absurd (omega arith),
                        (
                          λ e. absurd (omega arith),
                          (
                            λ e. absurd (omega arith),
                            (
                              λ e. absurd (omega arith),
                              (
                                λ e. absurd (omega arith),
                                (
                                  λ e. absurd (omega arith),
                                  (λ e. absurd (omega arith), (λ e. absurd (omega arith), (λ e. absurd (omega arith), tt))),
                                ),
                              ),
                            ),
                          ),
                        ),
                      ),
                    ),
                  ),
                ),
              ),
            ),
          )
    ]

pub returns-then-name-gt-LONGEST_WORD : goal.returns-then-name-gt-LONGEST_WORD
returns-then-name-gt-LONGEST_WORD c = long-keyword c.args.name.now c.if-name-gt-LONGEST_WORD.true
