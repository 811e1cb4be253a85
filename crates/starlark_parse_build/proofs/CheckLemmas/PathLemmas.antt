-- The text of names with dots between them.
use Rattle.std.proofs.Common.{◌≡◌, true, codes, Some, None, Result, Ok, Err, IfOk, Box, String, Global, refl, ap, sym, subst, ◌∙◌}
use Rattle.std.specs.Bool.{⊤}
use Rattle.std.specs.Str.{bytes_eq}
use Rattle.starlark_lexer.specs.Tokens.{Span, Text}
use Rattle.starlark_lexer.specs.declared.span.Spanned.{Spanned}
use Rattle.starlark_tree.specs.Ast.{no_payload, Word, Expression, expression}
use Rattle.starlark_tree.specs.Views.{shape_seen, expression_of, ident_word, word}
use Rattle.starlark_tree.specs.declared.ast.ExprP as e
use Rattle.starlark_tree.specs.declared.ast.IdentP.{IdentP}
use Rattle.starlark_tree.specs.declared.ast.payload.AstNoPayload.{AstNoPayload}
use Rattle.starlark_spec.specs.Faults.{Fault, DotTypeBan}
use Rattle.starlark_spec.specs.Machine.Faults.{fault_of}
use Rattle.starlark_spec.specs.Types as types
use Rattle.starlark_spec.specs.Types.{Path, path_text, mistyped}
use Rattle.starlark_parse_build.specs.Check.Checks.{Names}
use Rattle.starlark_spec.specs.declared.refusal.Refusal.{Refusal}
use Rattle.starlark_parse_build.proofs.CheckLemmas.TypeForms.{Node, Code, banned}

module _ (s : Span) (node : Node) where
  module _ (name : Spanned (IdentP AstNoPayload ⊤ ⊤ ⊤ ⊤ ⊤)) (is : node ≡ e.Identifier name) where
    alone_is : types.dotted (expression s (shape_seen node)) ≡ Ok (types.alone (types.name (ident_word name) tt))
    alone_is = ap (λ n. types.dotted (expression s (shape_seen n))) is

    pub alone_dotted : fault_of (types.dotted (expression s (shape_seen node))) ≡ None
    alone_dotted = ap fault_of alone_is

    pub alone_path : fault_of (types.path (expression s (shape_seen node))) ≡ None
    alone_path = ap (λ n. fault_of (types.path (expression s (shape_seen n)))) is

  module _ (object : Box Code Global) (name : Spanned (String Global)) (inner : Code) (is : node ≡ e.Dot object name) (same : inner ≡ object.value) where
    pub path_member : fault_of (types.member (expression_of inner) (word name)) ≡ fault_of (types.path (expression s (shape_seen node)))
    path_member = ap (λ x. fault_of (types.member (expression_of x) (word name))) same ∙ sym (ap (λ n. fault_of (types.path (expression s (shape_seen n)))) is)

-- what is before `type`
pub banned_found : (x : Expression no_payload) (w : Word) (text : Text) (s : Span) (error : Refusal) → bytes_eq w.text (codes "type") ≡ true
    → fault_of (types.dotted x) ≡ None
    → IfOk (types.dotted x) (λ p. text ≡ path_text p) → IfOk (types.dotted x) (λ p. s ≡ p.first.word.span) → Names (Some (mistyped (DotTypeBan text) s)) error
    → Names (fault_of (types.member x w)) error
banned_found x w text s error ends fine texts places names = found (types.dotted x) refl fine texts places
  where
    found : (r : Result (Path no_payload) Fault) → types.dotted x ≡ r → fault_of r ≡ None → IfOk r (λ p. text ≡ path_text p)
        → IfOk r (λ p. s ≡ p.first.word.span) → Names (fault_of (types.member x w)) error
    found (Ok p) is none at place =
        subst (λ f. Names f error) (ap (λ t. Some (mistyped (DotTypeBan t) s)) at ∙ ap (λ q. Some (mistyped (DotTypeBan (path_text p)) q)) place
        ∙ banned x w p is ends) names
    found (Err f) is none at place = absurd (cc)
