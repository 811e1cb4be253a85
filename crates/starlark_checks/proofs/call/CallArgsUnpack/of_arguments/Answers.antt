use Rattle.std.proofs.Common.{map, refl, sym}
use Rattle.std.proofs.lemmas.Result.{err_from_is_err_and}
use Rattle.std.specs.Prelude.{option_copied}
use Rattle.starlark_checks.specs.Faults.{RefusesOutcome.by_fault}
use Rattle.starlark_tree.specs.Views.{argument_of}
use Rattle.starlark_checks.proofs.CallParts.{name_refused, parts_join, faultless, argument_refused, never_refused, empty_from_none, first_is}
use Rattle.starlark_checks.proofs.DistinctLemmas.{distinct_names}
use Rattle.starlark_checks.proofs.call.CallArgsUnpack.of_arguments.Goals as goal

pub returns-in-Some : goal.returns-in-Some
returns-in-Some g c =
    let p = rw (← c.split_at.ensures.front) at c.leading.ensures.all in
    let n = rw (← c.split_at-2.ensures.front) at c.leading-2.ensures.all in
    let twice = rw c.in-Some.is at c.in_ok-name.ensures in
    let refused = name_refused c.args.args.now c.split_at.result.0.now c.split_at-2.result.0.now c.split_at.result.1.now c.split_at-2.result.1.now
    c.split_at.ensures.by_index.0 c.split_at-2.ensures.by_index.0 p n _ twice in
    record {
      ok = tt;
      faultless = tt;
      err = by_fault _ refused c.in_ok-call_error.ensures;
      only_memory = λ shape. absurd (never_refused c.args.args.now shape _ refused);
    }

pub returns-in-None-clause-ok : goal.returns-in-None-clause-ok
returns-in-None-clause-ok g c =
    let p = rw (← c.split_at.ensures.front) at c.leading.ensures.all in
    let n = rw (← c.split_at-2.ensures.front) at c.leading-2.ensures.all in
    let distinct = rw c.in_default.is at c.in_ok-name.ensures in
    let empty = empty_from_none c.take_one-2.result.1.now c.in-None.ensures.value in
    record {
      joined = parts_join c.args.args.now c.split_at.result.0.now c.split_at-2.result.0.now c.split_at.result.1.now c.split_at-2.result.1.now
          c.split_at.ensures.by_index.0 c.split_at-2.ensures.by_index.0 p n c.take_one.result.1.now c.take_one-2.result.1.now
          (option_copied c.take_one.result.0) (option_copied c.take_one-2.result.0)
          c.take_one.ensures.joined c.take_one-2.ensures.joined distinct c.take_one.ensures.of_kind c.take_one-2.ensures.of_kind empty;
      positional = p;
      by_name = n;
      distinct = distinct_names (map argument_of c.split_at-2.result.0.now) (sym distinct);
      one_star = c.take_one.ensures.of_kind;
      one_star_star = c.take_one-2.ensures.of_kind;
    }

pub returns-in-None-clause-faultless : goal.returns-in-None-clause-faultless
returns-in-None-clause-faultless g c =
    let p = rw (← c.split_at.ensures.front) at c.leading.ensures.all in
    let n = rw (← c.split_at-2.ensures.front) at c.leading-2.ensures.all in
    let distinct = rw c.in_default.is at c.in_ok-name.ensures in
    let empty = empty_from_none c.take_one-2.result.1.now c.in-None.ensures.value in
    faultless c.args.args.now c.split_at.result.0.now c.split_at-2.result.0.now c.split_at.result.1.now c.split_at-2.result.1.now
    c.split_at.ensures.by_index.0 c.split_at-2.ensures.by_index.0 p n c.take_one.result.1.now c.take_one-2.result.1.now (option_copied c.take_one.result.0)
    (option_copied c.take_one-2.result.0)
    c.take_one.ensures.joined c.take_one-2.ensures.joined distinct c.take_one.ensures.of_kind c.take_one-2.ensures.of_kind empty

pub returns-in_ok-call_error-in-Some-first : goal.returns-in_ok-call_error-in-Some-first
returns-in_ok-call_error-in-Some-first g c =
    let p = rw (← c.split_at.ensures.front) at c.leading.ensures.all in
    let n = rw (← c.split_at-2.ensures.front) at c.leading-2.ensures.all in
    let distinct = rw c.in_default.is at c.in_ok-name.ensures in
    let s1 = rw (← c.split_at.ensures.back) at c.leading.ensures.stops in
    let s2 = rw (← c.split_at-2.ensures.back) at c.leading-2.ensures.stops in
    let (rest, e5) = first_is _ c.take_one-2.result.1.now c.in-Some-first.ensures.value in
    let error = rw c.misplaced.ensures at c.in_ok-call_error-in-Some-first.ensures in
    let refused = argument_refused c.args.args.now c.split_at.result.0.now c.split_at-2.result.0.now c.split_at.result.1.now c.split_at-2.result.1.now
    c.split_at.ensures.by_index.0 c.split_at-2.ensures.by_index.0 p n c.take_one.result.1.now c.take_one-2.result.1.now (option_copied c.take_one.result.0)
    (option_copied c.take_one-2.result.0)
    c.take_one.ensures.joined c.take_one-2.ensures.joined distinct c.take_one.ensures.of_kind c.take_one-2.ensures.of_kind
    _ rest e5 s1 s2 c.take_one.ensures.stops c.take_one-2.ensures.stops in
    record {
      ok = tt;
      faultless = tt;
      err = by_fault _ refused error;
      only_memory = λ shape. absurd (never_refused c.args.args.now shape _ refused);
    }

pub returns-in_err-call_error-in-Some-first-clause-only_memory :
    goal.returns-in_err-call_error-in-Some-first-clause-only_memory
returns-in_err-call_error-in-Some-first-clause-only_memory g c =
    let p = err_from_is_err_and c.from_residual-in_err-call_error-in-Some-first.result c.from_residual-in_err-call_error-in-Some-first.ensures.1 in
    rw (p.1, p.2) (λ _. refl)
