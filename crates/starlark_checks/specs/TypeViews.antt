-- A type in memory, as the type without its memory.
use Rattle.std.specs.Prelude.{List as Seq, map}
use Rattle.std.specs.Global.{Global}
use Rattle.std.specs.declared.vec.Vec.{Vec}
use Rattle.starlark_lexer.specs.Tokens.{span_of}
use Rattle.starlark_lexer.specs.declared.span.Spanned.{Spanned}
use Rattle.starlark_tree.specs.Views.{ident_word, payloads, word_at}
use Rattle.starlark_tree.specs.declared.ast.IdentP.{IdentP}
use Rattle.starlark_spec.specs.Types as types
use Rattle.starlark_checks.specs.declared.type_expr.TypePathP.{TypePathP}
use Rattle.starlark_checks.specs.declared.type_expr.TypeExprUnpackP

module _ {P A B C D E : Type 0} where
  abbrev pub name_seen : Spanned (IdentP P A B C D E) → types.Name (payloads A B C D E)
  name_seen n = types.name (ident_word n) n.node.payload

  abbrev pub path_seen : TypePathP P A B C D E → types.Path (payloads A B C D E)
  path_seen p = record { first = name_seen p.first.now; rest = map (λ w. word_at w.node.now (span_of w.span)) p.rem.items }

-- by the variants of the type
abbrev mutual
  pub form_seen : {P A B C D E : Type 0} → TypeExprUnpackP.TypeExprUnpackP P A B C D E → types.Form (payloads A B C D E)
  form_seen TypeExprUnpackP.Ellipsis = types.Ellipsis
  form_seen (TypeExprUnpackP.Path p) = types.PathType (path_seen p)
  form_seen (TypeExprUnpackP.Index' name p i s) = types.Index (name_seen name.now) (types.reads (span_of s) (form_seen i))
  form_seen (TypeExprUnpackP.Index2' path p i s q j r) =
      types.Index2 (span_of path.span) (path_seen path.node) (types.reads (span_of s) (form_seen i)) (types.reads (span_of r) (form_seen j))
  form_seen (TypeExprUnpackP.List' shape row) = types.List (forms_seen row)
  form_seen (TypeExprUnpackP.Union' shape row) = types.Union (forms_seen row)
  form_seen (TypeExprUnpackP.Tuple' shape row) = types.Tuple (forms_seen row)

  pub forms_seen : {P A B C D E : Type 0} {n : _} → TypeExprUnpackP.Row_of-TypeExprUnpackP-List-0-2 P A B C D E n → types.Readings (payloads A B C D E)
  forms_seen TypeExprUnpackP.end_of-TypeExprUnpackP-List-0-2 = types.no_readings
  forms_seen (TypeExprUnpackP.more_of-TypeExprUnpackP-List-0-2 e s rest) = types.readings_with (types.reads (span_of s) (form_seen e)) (forms_seen rest)

-- the same for types in memory
module _ {P A B C D E : Type 0} where
  abbrev pub type_seen : Spanned (TypeExprUnpackP.TypeExprUnpackP P A B C D E) → types.Reading (payloads A B C D E)
  type_seen ty = types.reads (span_of ty.span) (form_seen ty.node)

  abbrev pub all_types : Seq (Spanned (TypeExprUnpackP.TypeExprUnpackP P A B C D E)) → types.Readings (payloads A B C D E)
  all_types xs = types.readings_of (map type_seen xs)

  abbrev pub row_seen : Vec (Spanned (TypeExprUnpackP.TypeExprUnpackP P A B C D E)) Global → types.Readings (payloads A B C D E)
  row_seen v = all_types v.items
