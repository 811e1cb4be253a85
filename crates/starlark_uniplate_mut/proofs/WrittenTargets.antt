-- Targets whose nodes are changed: those of a tuple are those of its parts.
use Rattle.std.proofs.Common.{◌≡◌, ℕ, ◌<◌, suc, List, [], ◌∷◌, ◌++◌, length, map, get_or, drop, Result, Vec, Global, refl, sym, ap, ◌∙◌, arith}
use Rattle.std.specs.List.{flat_map}
use Rattle.std.specs.Vec.{with_items}
use Rattle.starlark_lexer.specs.Tokens.{span_of, nowhere}
use Rattle.starlark_lexer.specs.declared.span.Spanned.{Spanned}
use Rattle.starlark_tree.specs.declared.ast.AssignTargetP as target
use Rattle.starlark_tree.specs.declared.ast.AssignTargetP.{AssignTargetP}
use Rattle.starlark_tree.specs.Ast as t
use Rattle.starlark_uniplate_mut.specs.Frames.{target_frame, target_frame_of}
use Rattle.starlark_tree.specs.Places.{exprs_in_target}
use Rattle.starlark_tree.specs.Views.{all_targets, payloads, target_of, target_seen}
use Rattle.starlark_tree.specs.Walks.{Writing, WritesIn}
use Rattle.starlark_uniplate_mut.proofs.Framed.{parts_frame}
use Rattle.starlark_tree.proofs.Nodes.{all_tuples, item_shorter, tuple_exprs, tuples}
use Rattle.starlark_tree.proofs.Rows.{targets_seen_of}
use Rattle.starlark_uniplate_mut.proofs.WriteLoops.{still_there}
use Rattle.starlark_uniplate_mut.proofs.Writing.{write_at}
use Rattle.starlark_uniplate_mut.proofs.Written.{items_as_framed}

module _ {P A B C D E : Type 0} where
  -- the measure of the recursions
  abbrev pub tuples_of_target : AssignTargetP P A B C D E → List ℕ
  tuples_of_target x = tuples (target_seen nowhere x)

  abbrev tuples_of_parts : List (Spanned (AssignTargetP P A B C D E)) → List ℕ
  tuples_of_parts xs = flat_map (λ (x : Spanned (AssignTargetP P A B C D E)). tuples (target_seen nowhere x.node)) xs

  tuples_moved : (s : _) (x : AssignTargetP P A B C D E) → tuples (target_seen s x) ≡ tuples_of_target x
  tuples_moved s (target.Tuple' shape row) = refl
  tuples_moved s (target.Index' p a r i q) = refl
  tuples_moved s (target.Dot' p e r name) = refl
  tuples_moved s (target.Identifier name) = refl

  tuples_listed : (xs : List (Spanned (AssignTargetP P A B C D E))) → all_tuples (all_targets xs) ≡ tuples_of_parts xs
  tuples_listed [] = refl
  tuples_listed (x ∷ xs) = ap (λ ys. ys ++ all_tuples (all_targets xs)) (tuples_moved (span_of x.span) x.node)
      ∙ ap (λ ys. tuples_of_target x.node ++ ys) (tuples_listed xs)

  tuples_in : (v : Vec (Spanned (AssignTargetP P A B C D E)) Global) → length (tuples_of_target (target.Tuple v)) ≡ suc (length (tuples_of_parts v.items))
  tuples_in v = ap (λ ys. suc (length ys)) (ap all_tuples (targets_seen_of v) ∙ tuples_listed v.items)

  -- a part that was not changed yet has fewer tuples
  pub part_falls : (v : Vec (Spanned (AssignTargetP P A B C D E)) Global) (old new : List (Spanned (AssignTargetP P A B C D E))) (i : ℕ)
      (d : Spanned (AssignTargetP P A B C D E)) → old ≡ v.items → i < length old → drop i new ≡ drop i old
      → length (tuples_of_target (get_or new i d).node) < length (tuples_of_target (target.Tuple v))
  part_falls v old new i d same within e =
      let least = item_shorter (λ (x : Spanned (AssignTargetP P A B C D E)). tuples (target_seen nowhere x.node)) old i (get_or new i d) within
      (still_there old new i d (get_or new i d) within e) in
      let all : length (tuples_of_target (target.Tuple v)) ≡ suc (length (tuples_of_parts old)) = tuples_in v
      ∙ ap (λ ys. suc (length (tuples_of_parts ys))) (sym same) in
      omega (arith, least, all)

module _ {P A B C D E S F : Type 0} {by : Writing S (t.Expression (payloads A B C D E)) F} {s : S} {r : Result (Unit {0}) F} {u : S} where
  pub tuple_written : (v : Vec (Spanned (AssignTargetP P A B C D E)) Global) (xs ws : List (Spanned (AssignTargetP P A B C D E))) → xs ≡ v.items
      → WritesIn (flat_map (λ (z : Spanned (AssignTargetP P A B C D E)). exprs_in_target z.node))
      (map (λ (z : Spanned (AssignTargetP P A B C D E)). target_frame (target_of z))) by s xs ws r u
      → WritesIn exprs_in_target target_frame_of by s (target.Tuple v) (target.Tuple (with_items v ws)) r u
  tuple_written v xs ws same p =
      let framed = p.rest ∙ ap (map (λ (z : Spanned (AssignTargetP P A B C D E)). target_frame (target_of z))) same in
      let e = items_as_framed (λ (z : Spanned (AssignTargetP P A B C D E)). target_frame (target_of z)) v ws framed in
      record {
        calls =
            write_at
            (ap (flat_map (λ (z : Spanned (AssignTargetP P A B C D E)). exprs_in_target z.node)) same ∙ sym (tuple_exprs v))
            (sym (tuple_exprs (with_items v ws) ∙ ap (flat_map (λ (z : Spanned (AssignTargetP P A B C D E)). exprs_in_target z.node)) e))
            p.calls;
        rest =
            parts_frame (with_items v ws)
            ∙ ap (λ ys. t.TupleTarget nowhere (t.targets_of (map (λ (z : Spanned (AssignTargetP P A B C D E)). target_frame (target_of z)) ys))) e
            ∙ ap (λ zs. t.TupleTarget nowhere (t.targets_of zs)) framed
            ∙ sym (parts_frame v);
      }
