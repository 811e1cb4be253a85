-- What the walks along the parameters carry from one entry to the next. No public clause cites it.
use Rattle.std.specs.Prelude.{List as Seq, Bool, not, ◌||◌, ◌&&◌, Option, Some, None, if◌then◌else◌}
use Rattle.std.specs.List.{list_any}
use Rattle.std.specs.Option.{option_or}
use Rattle.starlark_lexer.specs.Tokens.{span_of}
use Rattle.starlark_tree.specs.Ast as t
use Rattle.starlark_tree.specs.Ast.{Payloads, Parameter}
use Rattle.starlark_spec.specs.Faults.{Fault}
use Rattle.starlark_checks.specs.Faults.{fault_if}
use Rattle.starlark_checks.specs.Parameters.{has_default, is_given, is_kwargs, is_slash, is_starred, misdeclared}
use Rattle.starlark_checks.specs.declared.def.Before.{Before}
use Rattle.starlark_checks.specs.declared.def.DefRegularParamMode.{DefRegularParamMode}
use Rattle.starlark_checks.specs.declared.def.DefRegularParamMode.TheVariants.{PosOrName, NameOnly}
use Rattle.starlark_checks.specs.declared.def.ParamsFault.{ParamsFault}
use Rattle.starlark_spec.specs.declared.error.ParamsError.{ParamsError}
use Rattle.starlark_spec.specs.declared.error.ParamsError.TheVariants as rule

abbrev pub fault_of : ParamsFault → Fault
fault_of f = misdeclared f.error (span_of f.span)

abbrev pub error_if : Bool → ParamsError → Option ParamsError
error_if broken error = if broken then Some error else None

module _ {P : Payloads} where
  -- what is among the entries
  abbrev pub among : Seq (Parameter P) → Before
  among ps = record { slash = list_any is_slash ps; starred = list_any is_starred ps; kwargs = list_any is_kwargs ps; default = list_any has_default ps }

  -- the same with an entry added
  abbrev pub with : Before → Parameter P → Before
  with b p = record {
    slash = is_slash p || b.slash;
    starred = is_starred p || b.starred;
    kwargs = is_kwargs p || b.kwargs;
    default = has_default p ||
        b.default;
  }

  -- an entry that is not allowed after these
  abbrev pub misplaced_after : Before → Parameter P → Option Fault
  misplaced_after before (t.Normal s w q ty v) =
      option_or (fault_if before.kwargs (misdeclared rule.AfterKwargs s))
      (fault_if (not (is_given v) && (before.default && not before.starred)) (misdeclared rule.PositionalAfterNonPositional s))
  misplaced_after before (t.NoArgs s) = fault_if (before.starred || before.kwargs) (misdeclared rule.ArgsAfterArgs s)
  misplaced_after before (t.Args s w q ty) = fault_if (before.starred || before.kwargs) (misdeclared rule.ArgsAfterArgs s)
  misplaced_after before (t.Slash s) = fault_if (before.slash || (before.starred || before.kwargs)) (misdeclared rule.MultipleSlash s)
  misplaced_after before (t.KwArgs s w q ty) = fault_if before.kwargs (misdeclared rule.MultipleKwargs s)

  -- how a plain parameter is passed after an entry, of a list whose entries are allowed where they are
  abbrev pub mode_after : DefRegularParamMode → Parameter P → DefRegularParamMode
  mode_after m (t.Slash s) = PosOrName
  mode_after m (t.NoArgs s) = NameOnly
  mode_after m (t.Args s w q ty) = NameOnly
  mode_after m _ = m
