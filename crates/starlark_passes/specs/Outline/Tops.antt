-- Other statements at the top of a tree.
use Rattle.std.specs.Prelude.{◌≡◌, List as Seq, [], ◌∷◌, drop, length}
use Rattle.std.specs.Fn.{Mut}
use Rattle.std.specs.List.{flat_map}
use denote.Ref.{MutBor}
use Rattle.starlark_tree.specs.Ast as t
use Rattle.starlark_tree.specs.Ast.{Payloads}
use Rattle.starlark_tree.specs.Walks.{Writes}
use Rattle.starlark_passes.specs.Outline.Outline.{top_statements}

abbrev pub first_or : {P : Payloads} → t.Statement P → Seq (t.Statement P) → t.Statement P
first_or s [] = s
first_or s (given ∷ more) = given

-- the tree with other statements at its top, in place of those that were there, as many as there are
abbrev mutual
  pub with_top : {P : Payloads} → t.Statement P → Seq (t.Statement P) → t.Statement P
  with_top (t.statement s (t.Block ss)) given = t.statement s (t.Block (all_with_top ss given))
  with_top (t.statement s other) given = first_or (t.statement s other) given

  pub all_with_top : {P : Payloads} → t.Statements P → Seq (t.Statement P) → t.Statements P
  all_with_top t.no_statements given = t.no_statements
  all_with_top (t.statements s ss) given = t.statements (with_top s given) (all_with_top ss (drop (length (top_statements s)) given))

-- the same for statements one after another
abbrev pub each_with_top : {P : Payloads} → Seq (t.Statement P) → Seq (t.Statement P) → Seq (t.Statement P)
each_with_top [] given = []
each_with_top (s ∷ ss) given = with_top s given ∷ each_with_top ss (drop (length (top_statements s)) given)

-- A closure writes each statement at the top, and the rest of the tree is unchanged.
module _ {F A : Type 0} {P : Payloads} (seen : A → t.Statement P) (g : Mut F (MutBor A × Unit {0}) (Unit {0} × (MutBor A × Unit {0}))) where
  pub record WritesTop (f : F) (old new : t.Statement P) (f' : F) : Type 0 where
    pub left : Seq (t.Statement P)
    pub calls : Writes seen g f (top_statements old) left f'
    pub stands : new ≡ with_top old left

  -- the same for statements one after another
  pub record WritesTops (f : F) (old new : Seq (t.Statement P)) (f' : F) : Type 0 where
    pub left : Seq (t.Statement P)
    pub calls : Writes seen g f (flat_map top_statements old) left f'
    pub stands : new ≡ each_with_top old left
