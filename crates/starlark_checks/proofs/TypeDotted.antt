-- What is not names with dots between them.
use Rattle.std.proofs.Common.{◌≡◌, true, if◌then◌else◌, codes, Box, String, Global, Ok, Err, refl, ap, sym, ◌∙◌}
use Rattle.std.specs.Str.{bytes_eq}
use Rattle.starlark_lexer.specs.Tokens.{Span}
use Rattle.starlark_lexer.specs.declared.span.Spanned.{Spanned}
use Rattle.starlark_tree.specs.Ast.{Payloads, Word, expression}
use Rattle.starlark_tree.specs.Views.{expression_of, shape_seen, word}
use Rattle.starlark_tree.specs.declared.ast.ExprP
use Rattle.starlark_tree.specs.declared.ast.IdentP.{IdentP}
use Rattle.starlark_spec.specs.Faults.{DotInType, DotTypeBan, ExpectingPath}
use Rattle.starlark_spec.specs.Targets.{map_ok}
use Rattle.starlark_spec.specs.Types as types

module _ {P A B C D E : Type 0} (s : Span) where
  pub none_dotted : (node : ExprP.ExprP P A B C D E) → ((object : Box (Spanned (ExprP.ExprP P A B C D E)) Global) (name : Spanned (String Global))
      → node ≡ ExprP.Dot object name → ⊥)
      → ((name : Spanned (IdentP P A B C D E)) → node ≡ ExprP.Identifier name → ⊥) → types.dotted (expression s (shape_seen node))
      ≡ Err (types.mistyped DotInType s)
  none_dotted (ExprP.Dot' p e r name) dot identifier = absurd (dot (record { ptr = p.ptr; alloc = p.alloc; value = record { node = e; span = r } }) name refl)
  none_dotted (ExprP.Identifier name) dot identifier = absurd (identifier name refl)
  none_dotted _ dot identifier = refl

  pub no_path : (node : ExprP.ExprP P A B C D E) → ((object : Box (Spanned (ExprP.ExprP P A B C D E)) Global) (name : Spanned (String Global))
      → node ≡ ExprP.Dot object name → ⊥)
      → ((name : Spanned (IdentP P A B C D E)) → node ≡ ExprP.Identifier name → ⊥) → types.path (expression s (shape_seen node))
      ≡ Err (types.mistyped ExpectingPath s)
  no_path (ExprP.Dot' p e r name) dot identifier = absurd (dot (record { ptr = p.ptr; alloc = p.alloc; value = record { node = e; span = r } }) name refl)
  no_path (ExprP.Identifier name) dot identifier = absurd (identifier name refl)
  no_path _ dot identifier = refl

  pub dotted_longer : (node : ExprP.ExprP P A B C D E) (object : Box (Spanned (ExprP.ExprP P A B C D E)) Global) (name : Spanned (String Global))
      (inner : Spanned (ExprP.ExprP P A B C D E))
      → node ≡ ExprP.Dot object name → inner ≡ object.value → types.dotted (expression s (shape_seen node)) ≡ map_ok (λ p. types.longer p (word name))
      (types.dotted (expression_of inner))
  dotted_longer node object name inner is same =
      ap (λ n. types.dotted (expression s (shape_seen n))) is ∙ ap (λ e. map_ok (λ p. types.longer p (word name)) (types.dotted (expression_of e))) (sym same)

-- a path that ends with `type`
pub banned_path : {P : Payloads} (w : Word) (p : types.Path P) → bytes_eq w.text (codes "type") ≡ true → types.extended_unless_type w p
    ≡ Err (types.mistyped (DotTypeBan (types.path_text p)) p.first.word.span)
banned_path w p is = ap (λ b. if b then Err (types.mistyped (DotTypeBan (types.path_text p)) p.first.word.span) else Ok (types.longer p w)) is
