-- Targets whose names are changed: those of a tuple are those of its parts.
use Rattle.std.proofs.Common.{◌≡◌, List, [], ◌∷◌, map, Result, Vec, Global, refl, sym, ap, ◌∙◌}
use Rattle.std.specs.List.{flat_map}
use Rattle.std.specs.Vec.{with_items}
use Rattle.starlark_lexer.specs.Tokens.{Span, nowhere}
use Rattle.starlark_lexer.specs.declared.span.Spanned.{Spanned}
use Rattle.starlark_tree.specs.declared.ast.AssignTargetP as target
use Rattle.starlark_tree.specs.declared.ast.AssignTargetP.{AssignTargetP}
use Rattle.starlark_tree.specs.Ast as t
use Rattle.starlark_tree.specs.Ast.{Word}
use Rattle.starlark_uniplate_mut.specs.Frames.{Dot, Index, Name, Parts, Unnamed, UnnamedParts, all_unnamed, no_parts, part, unnamed, unnamed_of}
use Rattle.starlark_tree.specs.Names.{lvalues_of}
use Rattle.starlark_tree.specs.Views.{all_targets, target_of, target_seen}
use Rattle.starlark_tree.specs.Walks.{Writing, WritesIn}
use Rattle.starlark_tree.proofs.BoundNames.{tuple_lvalues}
use Rattle.starlark_tree.proofs.Rows.{targets_seen_of}
use Rattle.starlark_uniplate_mut.proofs.Writing.{write_at}
use Rattle.starlark_uniplate_mut.proofs.Written.{items_as_framed}

module _ {Q : t.Payloads} where
  abbrev unnamed_at : Span → Unnamed Q → Unnamed Q
  unnamed_at s (Parts r xs) = Parts s xs
  unnamed_at s (Index r a i) = Index s a i
  unnamed_at s (Dot r e w) = Dot s e w
  unnamed_at s (Name r) = Name s

  abbrev listed : List (Unnamed Q) → UnnamedParts Q
  listed [] = no_parts
  listed (x ∷ xs) = part x (listed xs)

module _ {P A B C D E : Type 0} where
  unnamed_moved : (s : _) (x : AssignTargetP P A B C D E) → unnamed (target_seen s x) ≡ unnamed_at s (unnamed_of x)
  unnamed_moved s (target.Tuple' shape row) = refl
  unnamed_moved s (target.Index' p a r i q) = refl
  unnamed_moved s (target.Dot' p e r name) = refl
  unnamed_moved s (target.Identifier name) = refl

  -- equal rests are equal wherever the target is
  pub unnamed_same : (s : _) (a b : AssignTargetP P A B C D E) → unnamed_of b ≡ unnamed_of a → unnamed (target_seen s b) ≡ unnamed (target_seen s a)
  unnamed_same s a b e = unnamed_moved s b ∙ ap (unnamed_at s) e ∙ sym (unnamed_moved s a)

  all_listed : (xs : List (Spanned (AssignTargetP P A B C D E))) → all_unnamed (all_targets xs)
      ≡ listed (map (λ (x : Spanned (AssignTargetP P A B C D E)). unnamed (target_of x)) xs)
  all_listed [] = refl
  all_listed (x ∷ xs) = ap (part (unnamed (target_of x))) (all_listed xs)

  parts_unnamed : (v : Vec (Spanned (AssignTargetP P A B C D E)) Global)
      → unnamed_of (target.Tuple v) ≡ Parts nowhere (listed (map (λ (x : Spanned (AssignTargetP P A B C D E)). unnamed (target_of x)) v.items))
  parts_unnamed v = ap (λ ts. Parts nowhere (all_unnamed ts)) (targets_seen_of v) ∙ ap (Parts nowhere) (all_listed v.items)

module _ {P A B C D E S F : Type 0} {by : Writing S (Word × C) F} {s : S} {r : Result (Unit {0}) F} {u : S} where
  pub tuple_written : (v : Vec (Spanned (AssignTargetP P A B C D E)) Global) (xs ws : List (Spanned (AssignTargetP P A B C D E))) → xs ≡ v.items
      → WritesIn (flat_map (λ (z : Spanned (AssignTargetP P A B C D E)). lvalues_of z.node))
      (map (λ (z : Spanned (AssignTargetP P A B C D E)). unnamed (target_of z))) by s xs ws r u
      → WritesIn lvalues_of unnamed_of by s (target.Tuple v) (target.Tuple (with_items v ws)) r u
  tuple_written v xs ws same p =
      let framed = p.rest ∙ ap (map (λ (z : Spanned (AssignTargetP P A B C D E)). unnamed (target_of z))) same in
      let e = items_as_framed (λ (z : Spanned (AssignTargetP P A B C D E)). unnamed (target_of z)) v ws framed in
      record {
        calls =
            write_at
            (ap (flat_map (λ (z : Spanned (AssignTargetP P A B C D E)). lvalues_of z.node)) same ∙ sym (tuple_lvalues v))
            (sym (tuple_lvalues (with_items v ws) ∙ ap (flat_map (λ (z : Spanned (AssignTargetP P A B C D E)). lvalues_of z.node)) e))
            p.calls;
        rest =
            parts_unnamed (with_items v ws)
            ∙ ap (λ ys. Parts nowhere (listed (map (λ (z : Spanned (AssignTargetP P A B C D E)). unnamed (target_of z)) ys))) e
            ∙ ap (λ zs. Parts nowhere (listed zs)) framed
            ∙ sym (parts_unnamed v);
      }
