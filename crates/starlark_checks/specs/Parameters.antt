-- Which parameters a function may have, and how they are passed (Starlark specification, "Function definitions").
use Rattle.std.specs.Prelude.{◌≡◌, ◌≤◌, ◌+◌, ◌-◌, ◌^◌, ℕ, List as Seq, [], ◌∷◌, ◌++◌, length, map, slice_get, option_copied, option_map}
use Rattle.std.specs.Prelude.{Bool, true, false, not, ◌||◌, ◌&&◌, nat_lt, Option, Some, None, IfSome, Result, if◌then◌else◌}
use Rattle.std.specs.List.{list_any, position_from, range_with_len, cons_option}
use Rattle.std.specs.Option.{option_or, unwrap_or}
use Rattle.std.specs.Str.{bytes_eq}
use Rattle.starlark_lexer.specs.Tokens.{Span, Text, from_to, span_of}
use Rattle.starlark_lexer.specs.declared.span.Spanned.{Spanned}
use Rattle.starlark_tree.specs.Ast as t
use Rattle.starlark_tree.specs.Ast.{Payloads, Word, Parameter, Maybe, MaybeType}
use Rattle.starlark_tree.specs.Views.{assign_word, expression_of, maybe_type_of, payloads}
use Rattle.starlark_tree.specs.Signatures.{merge_all}
use Rattle.starlark_tree.specs.declared.ast.ExprP.{ExprP}
use Rattle.starlark_checks.specs.Calls.{optional}
use Rattle.starlark_spec.specs.Faults.{Fault, rule_fault as fault, Params}
use Rattle.starlark_checks.specs.Faults.{fault_if, first_fault, unless_fault}
use Rattle.starlark_checks.specs.declared.def.DefParam.{DefParam}
use Rattle.starlark_checks.specs.declared.def.DefParamIndices.{DefParamIndices}
use Rattle.starlark_checks.specs.declared.def.DefParamKind.{DefParamKind}
use Rattle.starlark_checks.specs.declared.def.DefParamKind.TheVariants as kind
use Rattle.starlark_checks.specs.declared.def.DefRegularParamMode.{DefRegularParamMode}
use Rattle.starlark_checks.specs.declared.def.DefRegularParamMode.TheVariants.{PosOnly, PosOrName, NameOnly}
use Rattle.starlark_spec.specs.declared.error.ParamsError.{ParamsError}
use Rattle.starlark_spec.specs.declared.error.ParamsError.TheVariants as rule

abbrev pub misdeclared : ParamsError → Span → Fault
misdeclared error span = fault (Params error) span

module _ {P : Payloads} where
  abbrev pub is_slash : Parameter P → Bool
  is_slash (t.Slash s) = true
  is_slash _ = false

  abbrev pub is_plain : Parameter P → Bool
  is_plain (t.Normal s w q ty v) = true
  is_plain _ = false

  -- `*` or `*name`
  abbrev pub is_starred : Parameter P → Bool
  is_starred (t.NoArgs s) = true
  is_starred (t.Args s w q ty) = true
  is_starred _ = false

  abbrev pub is_kwargs : Parameter P → Bool
  is_kwargs (t.KwArgs s w q ty) = true
  is_kwargs _ = false

  abbrev pub is_given : Maybe P → Bool
  is_given t.absent = false
  is_given (t.present e) = true

  abbrev pub has_default : Parameter P → Bool
  has_default (t.Normal s w q ty v) = is_given v
  has_default _ = false

  abbrev pub has_name : Text → Parameter P → Bool
  has_name text (t.Normal s w q ty v) = bytes_eq w.text text
  has_name text (t.Args s w q ty) = bytes_eq w.text text
  has_name text (t.KwArgs s w q ty) = bytes_eq w.text text
  has_name text _ = false

  -- an entry that is not allowed after those before it
  abbrev pub misplaced : Seq (Parameter P) → Parameter P → Option Fault
  misplaced before (t.Normal s w q ty v) =
      option_or (fault_if (list_any is_kwargs before) (misdeclared rule.AfterKwargs s))
      (fault_if (not (is_given v) && (list_any has_default before && not (list_any is_starred before))) (misdeclared rule.PositionalAfterNonPositional s))
  misplaced before (t.NoArgs s) = fault_if (list_any is_starred before || list_any is_kwargs before) (misdeclared rule.ArgsAfterArgs s)
  misplaced before (t.Args s w q ty) = fault_if (list_any is_starred before || list_any is_kwargs before) (misdeclared rule.ArgsAfterArgs s)
  misplaced before (t.Slash s) =
      fault_if (list_any is_slash before || (list_any is_starred before || list_any is_kwargs before)) (misdeclared rule.MultipleSlash s)
  misplaced before (t.KwArgs s w q ty) = fault_if (list_any is_kwargs before) (misdeclared rule.MultipleKwargs s)

  -- a name that an earlier entry has
  abbrev pub repeated : Seq (Parameter P) → Parameter P → Option Fault
  repeated before (t.Normal s w q ty v) = fault_if (list_any (has_name w.text) before) (misdeclared rule.DuplicateName s)
  repeated before (t.Args s w q ty) = fault_if (list_any (has_name w.text) before) (misdeclared rule.DuplicateName s)
  repeated before (t.KwArgs s w q ty) = fault_if (list_any (has_name w.text) before) (misdeclared rule.DuplicateName s)
  repeated before _ = None

  abbrev pub entry_fault : Seq (Parameter P) → Parameter P → Option Fault
  entry_fault before p = option_or (repeated before p) (misplaced before p)

  -- the smallest span over all entries
  abbrev pub whole : Seq (Parameter P) → Span
  whole [] = from_to 0 0
  whole (p ∷ ps) = merge_all (t.parameter_span p) (map t.parameter_span ps)

  -- more entries than 32 bits count
  abbrev pub too_many : Seq (Parameter P) → Option Fault
  too_many ps = fault_if (nat_lt (2 ^ 32 - 1) (length ps)) (misdeclared rule.TooMany (whole ps))

  abbrev pub slash_first : Seq (Parameter P) → Option Fault
  slash_first (t.Slash s ∷ ps) = Some (misdeclared rule.SlashFirst s)
  slash_first _ = None

  -- a `*` that is not followed by a plain parameter: of an entry, and the next
  abbrev pub star_alone : Parameter P → Option (Parameter P) → Option Fault
  star_alone (t.NoArgs s) None = Some (misdeclared rule.StarLast s)
  star_alone (t.NoArgs s) (Some p) = fault_if (not (is_plain p)) (misdeclared rule.StarWithoutNamed (t.parameter_span p))
  star_alone _ next = None

  -- the first such `*`
  abbrev pub star_fault : Seq (Parameter P) → Option Fault
  star_fault [] = None
  star_fault (p ∷ ps) = option_or (star_alone p (slice_get ps 0)) (star_fault ps)

  abbrev pub params_fault : Seq (Parameter P) → Option Fault
  params_fault ps = option_or (too_many ps) (option_or (slash_first ps) (option_or (first_fault entry_fault [] ps) (star_fault ps)))

  -- the parameters, or their first fault
  abbrev pub checked : Seq (Parameter P) → Result (Seq (Parameter P)) Fault
  checked ps = unless_fault (params_fault ps) ps

-- what a parameter accepts
pub data Takes (P : Payloads) : Type 0 where
  Regular : DefRegularParamMode → Maybe P → Takes P
  Args Kwargs : Takes P

-- a parameter that has a name
pub record Named (P : Payloads) : Type 0 where
  pub ident : Word
  pub payload : P.assign
  pub takes : Takes P
  pub type : MaybeType P
  pub span : Span

module _ {P : Payloads} where
  -- how a plain parameter between these is passed
  abbrev pub mode : Seq (Parameter P) → Seq (Parameter P) → DefRegularParamMode
  mode before after = if list_any is_slash after then PosOnly else (if list_any is_starred before then NameOnly else PosOrName)

  -- the parameter, unless the entry is `/` or `*`
  abbrev pub unmarked : DefRegularParamMode → Parameter P → Option (Named P)
  unmarked m (t.Normal s w q ty v) = Some (record { ident = w; payload = q; takes = Regular m v; type = ty; span = s })
  unmarked m (t.Args s w q ty) = Some (record { ident = w; payload = q; takes = Args; type = ty; span = s })
  unmarked m (t.KwArgs s w q ty) = Some (record { ident = w; payload = q; takes = Kwargs; type = ty; span = s })
  unmarked m _ = None

  abbrev pub named_after : Seq (Parameter P) → Seq (Parameter P) → Seq (Named P)
  named_after before [] = []
  named_after before (p ∷ ps) = cons_option (unmarked (mode before ps) p) (named_after (before ++ p ∷ []) ps)

  -- the entries without `/` and `*`
  abbrev pub named : Seq (Parameter P) → Seq (Named P)
  named ps = named_after [] ps

  abbrev pub are_args : Takes P → Bool
  are_args Args = true
  are_args _ = false

  abbrev pub are_kwargs : Takes P → Bool
  are_kwargs Kwargs = true
  are_kwargs _ = false

  abbrev pub takes_args : Named P → Bool
  takes_args p = are_args p.takes

  abbrev pub takes_kwargs : Named P → Bool
  takes_kwargs p = are_kwargs p.takes

  -- the plain ones before the first `*`, `*name` or `**name`
  abbrev pub positional : Seq (Parameter P) → ℕ
  positional [] = 0
  positional (t.Normal s w q ty v ∷ ps) = 1 + positional ps
  positional (t.Slash s ∷ ps) = positional ps
  positional (p ∷ ps) = 0

  -- the entries before the `/`
  abbrev pub positional_only : Seq (Parameter P) → ℕ
  positional_only ps = unwrap_or (position_from is_slash 0 ps) 0

  abbrev pub indices : Seq (Parameter P) → DefParamIndices
  indices ps = record {
    num_positional = positional ps;
    num_positional_only = positional_only ps;
    args = position_from takes_args 0 (named ps);
    kwargs = position_from takes_kwargs 0 (named ps);
  }

-- where the parameters begin and end that are passed by name only, among this many
abbrev pub named_begin : DefParamIndices → ℕ
named_begin i = unwrap_or (option_map (λ place. place + 1) i.args) i.num_positional

abbrev pub named_end : DefParamIndices → ℕ → ℕ
named_end i count = unwrap_or i.kwargs count

-- from one index up to another
abbrev pub places : ℕ → ℕ → Seq ℕ
places begin end = range_with_len begin (end - begin)

-- the parts into which this many parameters are divided
pub record Parts (i : DefParamIndices) (count : ℕ) : Type 0 where
  pub positional_only : i.num_positional_only ≤ i.num_positional
  pub args : IfSome i.args (λ place. place ≡ i.num_positional)
  pub kwargs : IfSome i.kwargs (λ place. place + 1 ≡ count)
  pub joined : places 0 count
      ≡ places 0 i.num_positional_only ++ (places i.num_positional_only i.num_positional
      ++ (optional i.args ++ (places (named_begin i) (named_end i count) ++ optional i.kwargs)))

-- what the references lead to
module _ {P A B C D E : Type 0} where
  abbrev pub maybe_expression_of : Option (Spanned (ExprP P A B C D E)) → Maybe (payloads A B C D E)
  maybe_expression_of None = t.absent
  maybe_expression_of (Some e) = t.present (expression_of e)

  abbrev pub takes_of : DefParamKind P A B C D E → Takes (payloads A B C D E)
  takes_of (kind.Regular m v) = Regular m (maybe_expression_of (option_copied v))
  takes_of kind.Args = Args
  takes_of kind.Kwargs = Kwargs

  abbrev pub named_of : Spanned (DefParam P A B C D E) → Named (payloads A B C D E)
  named_of p =
      record {
        ident = assign_word p.node.ident.now;
        payload = p.node.ident.now.node.payload;
        takes = takes_of p.node.kind;
        type = maybe_type_of
            (option_copied p.node.ty);
        span = span_of p.span;
      }
