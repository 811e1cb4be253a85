use Rattle.std.proofs.Common.{◌≡◌, codes, get_or, sym, ◌∙◌, arith}
use Rattle.std.proofs.lemmas.Bool.{false≢true}
use Rattle.starlark_lexer.specs.Words.{is_reserved, reserved_words}
use Rattle.starlark_lexer.proofs.WordLemmas.{long-reserved, alone_among, second_among, among-beginning, none_among_begins}
use Rattle.starlark_lexer.proofs.words.is_reserved.Goals as goal

pub returns-in-97 : goal.returns-in-97
unfolding is_reserved
returns-in-97 c =
    let first : get_or c.args.name.now 0 0 ≡ 97 = cc in
    alone_among c.is_word.result c.args.name.now (codes "as") c.is_word.ensures ∙ sym (among-beginning c.args.name.now 97 reserved_words first)

pub returns-in-99 : goal.returns-in-99
unfolding is_reserved
returns-in-99 c =
    let first : get_or c.args.name.now 0 0 ≡ 99 = cc in
    alone_among c.is_word-in-99.result c.args.name.now (codes "class") c.is_word-in-99.ensures ∙ sym (among-beginning c.args.name.now 99 reserved_words first)

pub returns-in-100 : goal.returns-in-100
unfolding is_reserved
returns-in-100 c =
    let first : get_or c.args.name.now 0 0 ≡ 100 = cc in
    alone_among c.is_word-in-100.result c.args.name.now (codes "del") c.is_word-in-100.ensures ∙ sym (among-beginning c.args.name.now 100 reserved_words first)

pub returns-in-101 : goal.returns-in-101
unfolding is_reserved
returns-in-101 c =
    let first : get_or c.args.name.now 0 0 ≡ 101 = cc in
    alone_among c.is_word-in-101.result c.args.name.now (codes "except") c.is_word-in-101.ensures
    ∙ sym (among-beginning c.args.name.now 101 reserved_words first)

pub returns-else-is_word : goal.returns-else-is_word
unfolding is_reserved
returns-else-is_word c =
    let first : get_or c.args.name.now 0 0 ≡ 102 = cc in
    let other : c.args.name.now ≡ codes "finally" → ⊥ = λ e. false≢true (c.if-is_word.ensures.1 e) in
    second_among c.is_word-else-is_word.result c.args.name.now (codes "finally") (codes "from") other c.is_word-else-is_word.ensures
    ∙ sym (among-beginning c.args.name.now 102 reserved_words first)

pub returns-in-103 : goal.returns-in-103
unfolding is_reserved
returns-in-103 c =
    let first : get_or c.args.name.now 0 0 ≡ 103 = cc in
    alone_among c.is_word-in-103.result c.args.name.now (codes "global") c.is_word-in-103.ensures
    ∙ sym (among-beginning c.args.name.now 103 reserved_words first)

pub returns-else-is_word-2 : goal.returns-else-is_word-2
unfolding is_reserved
returns-else-is_word-2 c =
    let first : get_or c.args.name.now 0 0 ≡ 105 = cc in
    let other : c.args.name.now ≡ codes "import" → ⊥ = λ e. false≢true (c.if-is_word-2.ensures.1 e) in
    second_among c.is_word-else-is_word-2.result c.args.name.now (codes "import") (codes "is") other c.is_word-else-is_word-2.ensures
    ∙ sym (among-beginning c.args.name.now 105 reserved_words first)

pub returns-in-110 : goal.returns-in-110
unfolding is_reserved
returns-in-110 c =
    let first : get_or c.args.name.now 0 0 ≡ 110 = cc in
    alone_among c.is_word-in-110.result c.args.name.now (codes "nonlocal") c.is_word-in-110.ensures
    ∙ sym (among-beginning c.args.name.now 110 reserved_words first)

pub returns-in-114 : goal.returns-in-114
unfolding is_reserved
returns-in-114 c =
    let first : get_or c.args.name.now 0 0 ≡ 114 = cc in
    alone_among c.is_word-in-114.result c.args.name.now (codes "raise") c.is_word-in-114.ensures
    ∙ sym (among-beginning c.args.name.now 114 reserved_words first)

pub returns-in-116 : goal.returns-in-116
unfolding is_reserved
returns-in-116 c =
    let first : get_or c.args.name.now 0 0 ≡ 116 = cc in
    alone_among c.is_word-in-116.result c.args.name.now (codes "try") c.is_word-in-116.ensures ∙ sym (among-beginning c.args.name.now 116 reserved_words first)

pub returns-else-is_word-3 : goal.returns-else-is_word-3
unfolding is_reserved
returns-else-is_word-3 c =
    let first : get_or c.args.name.now 0 0 ≡ 119 = cc in
    let other : c.args.name.now ≡ codes "while" → ⊥ = λ e. false≢true (c.if-is_word-3.ensures.1 e) in
    second_among c.is_word-else-is_word-3.result c.args.name.now (codes "while") (codes "with") other c.is_word-else-is_word-3.ensures
    ∙ sym (among-beginning c.args.name.now 119 reserved_words first)

pub returns-in-121 : goal.returns-in-121
unfolding is_reserved
returns-in-121 c =
    let first : get_or c.args.name.now 0 0 ≡ 121 = cc in
    alone_among c.is_word-in-121.result c.args.name.now (codes "yield") c.is_word-in-121.ensures
    ∙ sym (among-beginning c.args.name.now 121 reserved_words first)

pub returns-in_default : goal.returns-in_default
unfolding is_reserved
returns-in_default c =
    let first : get_or c.args.name.now 0 0 ≡ c.byte_at.result = cc in
    sym (none_among_begins c.args.name.now c.byte_at.result reserved_words first (
      λ e. absurd (omega arith),
      (
        λ e. absurd (omega arith),
        (
          λ e. absurd (omega arith),
          (
            λ e. absurd (omega arith),
            (
              λ e. absurd (omega arith),
              (
                λ e. absurd (omega arith),
                (
                  λ e. absurd (omega arith),
                  (
                    λ e. absurd (omega arith),
                    (
                      λ e. absurd (omega arith),
                      (
                        λ e. absurd (omega arith),
                        (
                          λ e. absurd (omega arith),
                          (
                            λ e. absurd (omega arith),
                            (
                              λ e. absurd (omega arith),
                              (
                                λ e. absurd (omega arith),
                                (
                                  λ e. absurd (omega arith),
                                  tt,
                                ),
                              ),
                            ),
                          ),
                        ),
                      ),
                    ),
                  ),
                ),
              ),
            ),
          ),
        ),
      ),
    ))

pub returns-then-name-gt-LONGEST_WORD : goal.returns-then-name-gt-LONGEST_WORD
returns-then-name-gt-LONGEST_WORD c = long-reserved c.args.name.now c.if-name-gt-LONGEST_WORD.true
