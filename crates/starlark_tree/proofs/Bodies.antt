-- Which statements have a body.
use Rattle.std.proofs.Common.{◌≡◌, Box, Global, refl}
use Rattle.starlark_lexer.specs.declared.span.Spanned.{Spanned}
use Rattle.starlark_tree.specs.declared.ast.DefP.{DefP}
use Rattle.starlark_tree.specs.declared.ast.ExprP.{ExprP}
use Rattle.starlark_tree.specs.declared.ast.ForP.{ForP}
use Rattle.starlark_tree.specs.declared.ast.StmtP.{StmtP}
use Rattle.starlark_tree.specs.declared.ast.StmtP as stmt
use Rattle.starlark_tree.specs.Views.{form_seen}
use Rattle.starlark_tree.specs.Clones.{HasBody}

module _ {P A B C D E : Type 0} where
  pub if_has_body : (x : StmtP P A B C D E) (e : Spanned (ExprP P A B C D E)) (b : Box (Spanned (StmtP P A B C D E)) Global)
      → x ≡ stmt.If e b → HasBody (form_seen x)
  if_has_body x e b is = rw is tt

  pub for_has_body : (x : StmtP P A B C D E) (f : ForP P A B C D E) → x ≡ stmt.For f → HasBody (form_seen x)
  for_has_body x f is = rw is tt

  pub def_has_body : (x : StmtP P A B C D E) (d : DefP P A B C D E) → x ≡ stmt.Def d → HasBody (form_seen x)
  def_has_body x d is = rw is tt

  pub no_body : (x : StmtP P A B C D E) → HasBody (form_seen x)
      → ((e : Spanned (ExprP P A B C D E)) (b : Box (Spanned (StmtP P A B C D E)) Global) → x ≡ stmt.If e b → ⊥)
      → ((f : ForP P A B C D E) → x ≡ stmt.For f → ⊥) → ((d : DefP P A B C D E) → x ≡ stmt.Def d → ⊥) → ⊥
  no_body (stmt.If' e p s r) h no_if no_for no_def = no_if e (record { ptr = p.ptr; alloc = p.alloc; value = record { node = s; span = r } }) refl
  no_body (stmt.For' var over p s r) h no_if no_for no_def =
      no_for (record { var = var; over = over; body = record { ptr = p.ptr; alloc = p.alloc; value = record { node = s; span = r } } }) refl
  no_body (stmt.Def' name params ty p s r payload) h no_if no_for no_def =
      no_def (record {
        name = name;
        params = params;
        return_type = ty;
        body = record { ptr = p.ptr; alloc = p.alloc; value = record { node = s; span = r } };
        payload = payload;
      }) refl
  no_body _ h no_if no_for no_def = absurd h

pub ruleset bodies = (if_has_body, for_has_body, def_has_body)
