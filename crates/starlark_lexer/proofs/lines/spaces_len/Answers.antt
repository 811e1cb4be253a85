use Rattle.std.proofs.Common.{◌≡◌, ◌+◌, true, false, get_or, arith}
use Rattle.std.proofs.lemmas.List.Sums.{prefix_len-le-length}
use Rattle.starlark_lexer.specs.Classes.{is_space}
use Rattle.starlark_lexer.proofs.RunSteps.{run_goes_on, run_stops_at}
use Rattle.starlark_lexer.proofs.lines.spaces_len.Goals as goal

pub overflow_sub-rest : goal.overflow_sub-rest
overflow_sub-rest c = omega (arith, prefix_len-le-length is_space c.args.rest.now)

pub returns-then-not-is_whitespace_one-clause-len : goal.returns-then-not-is_whitespace_one-clause-len
returns-then-not-is_whitespace_one-clause-len c =
    let bytes = c.args.rest.now in
    let fails : is_space (get_or bytes c.fours.at 0) ≡ false = cc in
    run_stops_at is_space bytes c.fours.at (omega arith) fails

pub returns-then-not-is_whitespace_one-2-clause-len : goal.returns-then-not-is_whitespace_one-2-clause-len
returns-then-not-is_whitespace_one-2-clause-len c =
    let bytes = c.args.rest.now in
    let passes0 : is_space (get_or bytes c.fours.at 0) ≡ true = cc in
    let run0 = run_goes_on is_space bytes c.fours.at c.fours.invariant (omega arith) passes0 in
    let fails : is_space (get_or bytes (c.fours.at + 1) 0) ≡ false = cc in
    run_stops_at is_space bytes (c.fours.at + 1) (omega arith) fails

pub returns-then-not-is_whitespace_one-3-clause-len : goal.returns-then-not-is_whitespace_one-3-clause-len
returns-then-not-is_whitespace_one-3-clause-len c =
    let bytes = c.args.rest.now in
    let passes0 : is_space (get_or bytes c.fours.at 0) ≡ true = cc in
    let run0 = run_goes_on is_space bytes c.fours.at c.fours.invariant (omega arith) passes0 in
    let passes1 : is_space (get_or bytes (c.fours.at + 1) 0) ≡ true = cc in
    let run1 = run_goes_on is_space bytes (c.fours.at + 1) (omega arith) (omega arith) passes1 in
    let fails : is_space (get_or bytes (c.fours.at + 2) 0) ≡ false = cc in
    run_stops_at is_space bytes (c.fours.at + 2) (omega arith) fails

pub returns-then-not-is_whitespace_one-4-clause-len : goal.returns-then-not-is_whitespace_one-4-clause-len
returns-then-not-is_whitespace_one-4-clause-len c =
    let bytes = c.args.rest.now in
    let passes0 : is_space (get_or bytes c.fours.at 0) ≡ true = cc in
    let run0 = run_goes_on is_space bytes c.fours.at c.fours.invariant (omega arith) passes0 in
    let passes1 : is_space (get_or bytes (c.fours.at + 1) 0) ≡ true = cc in
    let run1 = run_goes_on is_space bytes (c.fours.at + 1) (omega arith) (omega arith) passes1 in
    let passes2 : is_space (get_or bytes (c.fours.at + 2) 0) ≡ true = cc in
    let run2 = run_goes_on is_space bytes (c.fours.at + 2) (omega arith) (omega arith) passes2 in
    let fails : is_space (get_or bytes (c.fours.at + 3) 0) ≡ false = cc in
    run_stops_at is_space bytes (c.fours.at + 3) (omega arith) fails

pub fours-preserved : goal.fours-preserved
fours-preserved c =
    let bytes = c.args.rest.now in
    let passes0 : is_space (get_or bytes c.fours.at 0) ≡ true = cc in
    let run0 = run_goes_on is_space bytes c.fours.at c.fours.invariant (omega arith) passes0 in
    let passes1 : is_space (get_or bytes (c.fours.at + 1) 0) ≡ true = cc in
    let run1 = run_goes_on is_space bytes (c.fours.at + 1) (omega arith) (omega arith) passes1 in
    let passes2 : is_space (get_or bytes (c.fours.at + 2) 0) ≡ true = cc in
    let run2 = run_goes_on is_space bytes (c.fours.at + 2) (omega arith) (omega arith) passes2 in
    let passes3 : is_space (get_or bytes (c.fours.at + 3) 0) ≡ true = cc in
    let run3 = run_goes_on is_space bytes (c.fours.at + 3) (omega arith) (omega arith) passes3 in
    omega arith

pub ones-preserved : goal.ones-preserved
ones-preserved c =
    let bytes = c.args.rest.now in
    let passes : is_space (get_or bytes c.ones.at 0) ≡ true = cc in
    run_goes_on is_space bytes c.ones.at c.ones.invariant (omega arith) passes

pub returns-else-is_whitespace_one-clause-len : goal.returns-else-is_whitespace_one-clause-len
returns-else-is_whitespace_one-clause-len c =
    let fails : is_space (get_or c.args.rest.now c.ones.at 0) ≡ false = cc in
    run_stops_at is_space c.args.rest.now c.ones.at c.ones.invariant fails

pub returns-after-ones-clause-len : goal.returns-after-ones-clause-len
returns-after-ones-clause-len c = omega (arith, prefix_len-le-length is_space c.args.rest.now)

pub returns-after-ones-clause-within : goal.returns-after-ones-clause-within
returns-after-ones-clause-within c = omega (arith, prefix_len-le-length is_space c.args.rest.now)
