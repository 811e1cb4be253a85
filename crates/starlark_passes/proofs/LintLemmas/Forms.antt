-- Nodes of a tree that are not loads, dictionaries or literals, and the keys of those that are dictionaries.
use Rattle.std.proofs.Common.{◌≡◌, List as Seq, [], ◌∷◌, ◌++◌, Vec, Global, refl, sym, ap, ◌∙◌}
use Rattle.std.specs.List.{flat_map}
use Rattle.std.proofs.lemmas.Grind.{flat_map-append}
use Rattle.starlark_lexer.specs.Tokens.{Span}
use Rattle.starlark_lexer.specs.declared.span.Spanned.{Spanned}
use Rattle.starlark_tree.specs.Ast as t
use Rattle.starlark_tree.specs.declared.ast.AstLiteral.{AstLiteral}
use Rattle.starlark_tree.specs.declared.ast.ExprP as expr
use Rattle.starlark_tree.specs.declared.ast.ExprP.{ExprP}
use Rattle.starlark_tree.specs.declared.ast.ExprP.TheVariants as variant
use Rattle.starlark_tree.specs.declared.ast.LoadP.{LoadP}
use Rattle.starlark_tree.specs.declared.ast.StmtP as stmts
use Rattle.starlark_tree.specs.declared.ast.StmtP.{StmtP}
use Rattle.starlark_tree.specs.Inside.{inside}
use Rattle.starlark_tree.specs.Places.{children}
use Rattle.starlark_tree.specs.Views.{all_pairs, expression_of, form_seen, shape_seen}
use Rattle.starlark_tree.proofs.InsideLemmas.{below_children}
use Rattle.starlark_tree.proofs.Rows.{pairs_seen_of}
use Rattle.starlark_passes.specs.Lint.LintIssues.{loaded, repeated_keys, repeats, string_key, string_keys}

module _ {P A B C D E : Type 0} (at : Span) where
  pub no_load : (s : StmtP P A B C D E) → ((l : LoadP P A B C D E) → s ≡ stmts.Load l → ⊥) → loaded (t.statement at (form_seen s)) ≡ []
  no_load (stmts.Load l) none = absurd (none l refl)
  no_load _ none = refl

  pub no_string : (e : ExprP P A B C D E) → ((x : AstLiteral) → e ≡ expr.Literal x → ⊥) → string_key (t.expression at (shape_seen e)) ≡ []
  no_string (expr.Literal x) none = absurd (none x refl)
  no_string _ none = refl

  pub no_dict : (e : ExprP P A B C D E) → ((v : Vec (Spanned (ExprP P A B C D E) × Spanned (ExprP P A B C D E)) Global) → e ≡ expr.Dict v → ⊥)
      → repeated_keys (t.expression at (shape_seen e)) ≡ []
  no_dict (expr.Dict' shape row) none =
      absurd (none _ (sym (expr.roll-out-ExprP P A B C D E (expr.Dict' shape row)) ∙ ap (expr.roll-ExprP P A B C D E) (variant.outs-Dict' shape row)
      ∙ variant.rolls-Dict _))
  no_dict _ none = refl

module _ {P A B C D E : Type 0} where
  keys_in : (xs : Seq (Spanned (ExprP P A B C D E) × Spanned (ExprP P A B C D E))) → string_keys (all_pairs xs)
      ≡ flat_map (λ (p : Spanned (ExprP P A B C D E) × Spanned (ExprP P A B C D E)). string_key (expression_of p.0)) xs
  keys_in [] = refl
  keys_in (x ∷ xs) = ap (λ ks. string_key (expression_of x.0) ++ ks) (keys_in xs)

  pub dict_keys : (at : Span) (v : Vec (Spanned (ExprP P A B C D E) × Spanned (ExprP P A B C D E)) Global)
      → repeated_keys (t.expression at (shape_seen (expr.Dict v)))
      ≡ repeats [] (flat_map (λ (p : Spanned (ExprP P A B C D E) × Spanned (ExprP P A B C D E)). string_key (expression_of p.0)) v.items)
  dict_keys at v = ap (λ ks. repeats [] ks) (ap string_keys (pairs_seen_of v) ∙ keys_in v.items)

-- those inside each of some expressions
pub repeated_inside : {P : t.Payloads} (es : Seq (t.Expression P)) → flat_map repeated_keys (flat_map inside es)
    ≡ flat_map (λ e. flat_map repeated_keys (inside e)) es
repeated_inside [] = refl
repeated_inside (e ∷ es) = flat_map-append repeated_keys (inside e) (flat_map inside es) ∙ ap (λ ys. flat_map repeated_keys (inside e) ++ ys)
    (repeated_inside es)

module _ {P A B C D E : Type 0} where
  -- those of an expression, and those inside its children
  pub repeated_parted : (e : Spanned (ExprP P A B C D E))
      → flat_map repeated_keys (inside (expression_of e)) ≡ repeated_keys (expression_of e) ++ flat_map (λ x. flat_map repeated_keys (inside x))
      (children e.node)
  repeated_parted e =
      ap (λ ys. repeated_keys (expression_of e) ++ flat_map repeated_keys ys) (below_children (shape_seen e.node))
      ∙ ap (λ ys. repeated_keys (expression_of e) ++ ys) (repeated_inside (children e.node))
