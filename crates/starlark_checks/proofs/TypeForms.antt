-- What each form of expression is read as.
use Rattle.std.proofs.Common.{◌≡◌, ℕ, ◌≤◌, List as Seq, [], ◌∷◌, length, map, get_or, take, drop, suc, ◌+◌, ◌<◌, ◌++◌, drop-cons, Result, Ok, Err, Box, Vec}
use Rattle.std.proofs.Common.{String, Global, codes, refl, ap, sym, ◌∙◌, arith}
use Rattle.std.proofs.lemmas.List.{map-append, take_more, take-append-drop}
use Rattle.starlark_lexer.specs.Places.{File}
use Rattle.starlark_lexer.specs.Tokens.{Span}
use Rattle.starlark_lexer.specs.declared.span.Spanned.{Spanned}
use Rattle.starlark_tree.specs.Ast as t
use Rattle.starlark_tree.specs.Ast.{Expression, expression, Expressions, expressions_of}
use Rattle.starlark_tree.specs.Views.{payloads, shape_seen, expression_of, all_expressions, literal_seen, word}
use Rattle.starlark_tree.specs.declared.ast.ArgumentP.TheBlock as Block
use Rattle.starlark_tree.specs.declared.ast.AstLiteral.{AstLiteral}
use Rattle.starlark_tree.specs.declared.ast.ExprP.{ExprP}
use Rattle.starlark_tree.specs.declared.ast.ExprP as e
use Rattle.starlark_tree.specs.declared.ast.ExprP.TheVariants.{outs-List', rolls-List}
use Rattle.starlark_tree.specs.declared.ast.IdentP.{IdentP}
use Rattle.starlark_tree.specs.declared.ast.operator.BinOp.{BinOp}
use Rattle.starlark_tree.specs.declared.ast.operator.BinOp.TheVariants.{BitOr}
use Rattle.starlark_tree.proofs.Rows.{expressions_seen_of}
use Rattle.starlark_spec.specs.Faults.{Fault, InvalidType, EmptyListInType}
use Rattle.starlark_checks.specs.Faults.{RefusesOutcome}
use Rattle.starlark_checks.specs.Refusals.{Refusal}
use Rattle.starlark_spec.specs.Targets.{map_ok, and_then, both}
use Rattle.starlark_spec.specs.Types as types
use Rattle.starlark_spec.specs.Types.{Reading, Readings, reads, form, reading, readings, argument, all_arguments, operands, either}
use Rattle.starlark_checks.specs.TypeViews.{name_seen, all_types}
use Rattle.starlark_checks.specs.declared.type_expr.TypeExprUnpackP.{TypeExprUnpackP}
use Rattle.starlark_checks.proofs.RefusalLemmas.{refuses_first, refuses_same}
use Rattle.starlark_checks.proofs.TypeLemmas.{all_from, operands-or}

-- one change after another
pub twice_made : {X Y Z : Type 0} (g : Y → Z) (f : X → Y) (r : Result X Fault) → map_ok g (map_ok f r) ≡ map_ok (λ x. g (f x)) r
twice_made g f (Ok x) = refl
twice_made g f (Err fault) = refl

module _ {P A B C D E : Type 0} (s : Span) (node : ExprP P A B C D E) where
  -- the form for the node
  pub form_is : (other : ExprP P A B C D E) → node ≡ other → form s (shape_seen node) ≡ form s (shape_seen other)
  form_is other is = ap (λ n. form s (shape_seen n)) is

  pub name_is : (name : Spanned (IdentP P A B C D E)) → node ≡ e.Identifier name → form s (shape_seen node) ≡ Ok (types.PathType (types.alone (name_seen name)))
  name_is name is = form_is (e.Identifier name) is

  pub dot_is : (object : Box (Spanned (ExprP P A B C D E)) Global) (name : Spanned (String Global)) (inner : Spanned (ExprP P A B C D E))
      → node ≡ e.Dot object name → inner ≡ object.value
      → form s (shape_seen node) ≡ map_ok types.PathType (types.member (expression_of inner) (word name))
  dot_is object name inner is same = form_is (e.Dot object name) is ∙ ap (λ x. map_ok types.PathType (types.member (expression_of x) (word name))) (sym same)

  pub tuple_is : (v : Vec (Spanned (ExprP P A B C D E)) Global) (xs : Seq (Spanned (ExprP P A B C D E))) → node ≡ e.Tuple v → xs ≡ v.items
      → form s (shape_seen node) ≡ map_ok types.Tuple (readings (all_expressions xs))
  tuple_is v xs is same =
      form_is (e.Tuple v) is ∙ ap (λ es. map_ok types.Tuple (readings es)) (expressions_seen_of v)
      ∙ ap (λ ys. map_ok types.Tuple (readings (all_expressions ys))) (sym same)

  pub list_is : (v : Vec (Spanned (ExprP P A B C D E)) Global) (xs : Seq (Spanned (ExprP P A B C D E))) → node ≡ e.List v → xs ≡ v.items
      → form s (shape_seen node) ≡ types.list s (all_expressions xs) (readings (all_expressions xs))
  list_is v xs is same =
      form_is (e.List v) is ∙ ap (λ es. types.list s es (readings es)) (expressions_seen_of v)
      ∙ ap (λ ys. types.list s (all_expressions ys) (readings (all_expressions ys))) (sym same)

  pub union_is : (l r : Box (Spanned (ExprP P A B C D E)) Global) (op : BinOp) (left right : Spanned (ExprP P A B C D E)) → node ≡ e.Op l op r → op ≡ BitOr
      → left ≡ l.value → right ≡ r.value
      → form s (shape_seen node) ≡ map_ok types.Union (either (operands (expression_of left)) (operands (expression_of right)))
  union_is l r op left right is bar same same_right =
      form_is (e.Op l BitOr r) (is ∙ ap (λ (o : BinOp). e.Op l o r) bar)
      ∙ ap (λ x. map_ok types.Union (either (operands (expression_of x)) (operands (expression_of r.value)))) (sym same)
      ∙ ap (λ x. map_ok types.Union (either (operands (expression_of left)) (operands (expression_of x)))) (sym same_right)

  pub index_is : (b : Box (Spanned (ExprP P A B C D E) × Spanned (ExprP P A B C D E)) Global) (parts : Spanned (ExprP P A B C D E)
      × Spanned (ExprP P A B C D E)) → node ≡ e.Index b → parts ≡ b.value
      → form s (shape_seen node) ≡ types.indexed s (expression_of parts.0) (reading (expression_of parts.1))
  index_is b parts is same =
      form_is (e.Index b) is ∙ ap (λ (p : Spanned (ExprP P A B C D E) × Spanned (ExprP P A B C D E)). types.indexed s (expression_of p.0)
      (reading (expression_of p.1))) (sym same)

  pub index_by_two_is : (b : Box (Spanned (ExprP P A B C D E) × Spanned (ExprP P A B C D E) × Spanned (ExprP P A B C D E)) Global)
      (parts : Spanned (ExprP P A B C D E) × Spanned (ExprP P A B C D E) × Spanned (ExprP P A B C D E)) → node ≡ e.Index2 b → parts ≡ b.value
      → form s (shape_seen node) ≡ types.indexed_by_two (expression_of parts.0) (argument (expression_of parts.1)) (argument (expression_of parts.2))
  index_by_two_is b parts is same =
      form_is (e.Index2 b) is
      ∙ ap (λ (p : Spanned (ExprP P A B C D E) × Spanned (ExprP P A B C D E) × Spanned (ExprP P A B C D E)). types.indexed_by_two (expression_of p.0)
      (argument (expression_of p.1)) (argument (expression_of p.2))) (sym same)

  pub literal_is : (literal : AstLiteral) → node ≡ e.Literal literal → form s (shape_seen node) ≡ map_ok (λ _. types.Ellipsis)
      (types.constant s (literal_seen literal))
  literal_is literal is = form_is (e.Literal literal) is

  pub listed_argument : (v : Vec (Spanned (ExprP P A B C D E)) Global) (xs : Seq (Spanned (ExprP P A B C D E))) → node ≡ e.List v → xs ≡ v.items
      → argument (expression s (shape_seen node)) ≡ map_ok (reads s) (map_ok types.List (all_arguments (all_expressions xs)))
  listed_argument v xs is same =
      ap (λ n. argument (expression s (shape_seen n))) is ∙ ap (λ es. map_ok (λ rs. reads s (types.List rs)) (all_arguments es)) (expressions_seen_of v)
      ∙ ap (λ ys. map_ok (λ rs. reads s (types.List rs)) (all_arguments (all_expressions ys))) (sym same)
      ∙ sym (twice_made (reads s) types.List (all_arguments (all_expressions xs)))

  pub operands_is : (l r : Box (Spanned (ExprP P A B C D E)) Global) (op : BinOp) (left right : Spanned (ExprP P A B C D E)) → node ≡ e.Op l op r → op ≡ BitOr
      → left ≡ l.value → right ≡ r.value
      → operands (expression s (shape_seen node)) ≡ either (operands (expression_of left)) (operands (expression_of right))
  operands_is l r op left right is bar same same_right =
      ap (λ n. operands (expression s (shape_seen n))) (is ∙ ap (λ (o : BinOp). e.Op l o r) bar) ∙ operands-or s (expression_of l.value) (expression_of r.value)
      ∙ ap (λ x. either (operands (expression_of x)) (operands (expression_of r.value))) (sym same)
      ∙ ap (λ x. either (operands (expression_of left)) (operands (expression_of x))) (sym same_right)

  -- the members on the left, before those on the right
  pub union_read : (l r : Box (Spanned (ExprP P A B C D E)) Global) (op : BinOp) (left right : Spanned (ExprP P A B C D E))
      (rs : Readings (payloads A B C D E)) → node ≡ e.Op l op r → op ≡ BitOr → left ≡ l.value → right ≡ r.value
      → operands (expression_of left) ≡ Ok rs → form s (shape_seen node) ≡ map_ok types.Union (map_ok (types.append rs) (operands (expression_of right)))
  union_read l r op left right rs is bar same same_right read = union_is l r op left right is bar same same_right
      ∙ ap (λ o. map_ok types.Union (either o (operands (expression_of right)))) read

  pub operands_read : (l r : Box (Spanned (ExprP P A B C D E)) Global) (op : BinOp) (left right : Spanned (ExprP P A B C D E))
      (rs : Readings (payloads A B C D E)) → node ≡ e.Op l op r → op ≡ BitOr → left ≡ l.value → right ≡ r.value
      → operands (expression_of left) ≡ Ok rs → operands (expression s (shape_seen node)) ≡ map_ok (types.append rs) (operands (expression_of right))
  operands_read l r op left right rs is bar same same_right read = operands_is l r op left right is bar same same_right
      ∙ ap (λ o. either o (operands (expression_of right))) read

  -- what refuses the left refuses both
  pub union_refused : {file : File} {refusal : Refusal} (l r : Box (Spanned (ExprP P A B C D E)) Global) (op : BinOp) (left : Spanned (ExprP P A B C D E))
      → node ≡ e.Op l op r → op ≡ BitOr → left ≡ l.value
      → RefusesOutcome file (operands (expression_of left)) refusal → RefusesOutcome file (form s (shape_seen node)) refusal
  union_refused l r op left is bar same refuses =
      refuses_same (operands (expression_of left)) (form s (shape_seen node))
      (λ f names. union_is l r op left r.value is bar same refl ∙ ap (λ o. map_ok types.Union (either o (operands (expression_of r.value)))) names) refuses

  pub operands_refused : {file : File} {refusal : Refusal} (l r : Box (Spanned (ExprP P A B C D E)) Global) (op : BinOp) (left : Spanned (ExprP P A B C D E))
      → node ≡ e.Op l op r → op ≡ BitOr → left ≡ l.value
      → RefusesOutcome file (operands (expression_of left)) refusal → RefusesOutcome file (operands (expression s (shape_seen node))) refusal
  operands_refused l r op left is bar same refuses =
      refuses_same (operands (expression_of left)) (operands (expression s (shape_seen node)))
      (λ f names. operands_is l r op left r.value is bar same refl ∙ ap (λ o. either o (operands (expression_of r.value))) names) refuses

module _ {P A B C D E : Type 0} (s : Span) where
  -- an operator that is not `|`
  pub other_operator : (l r : Box (Spanned (ExprP P A B C D E)) Global) (op : BinOp) → (op ≡ BitOr → ⊥)
      → form s (shape_seen (e.Op l op r)) ≡ types.invalid (codes "bin op except `|`") s
  other_operator l r BitOr other = absurd (other refl)
  other_operator l r _ other = refl

  pub other_operation : (node : ExprP P A B C D E) (l r : Box (Spanned (ExprP P A B C D E)) Global) (op : BinOp) → node ≡ e.Op l op r → (op ≡ BitOr → ⊥)
      → form s (shape_seen node) ≡ types.invalid (codes "bin op except `|`") s
  other_operation node l r op is other = ap (λ n. form s (shape_seen n)) is ∙ other_operator l r op other

  -- what is not a `|` is one member
  pub one_member : (node : ExprP P A B C D E) → ((l : Box (Spanned (ExprP P A B C D E)) Global) (op : BinOp) (r : Box (Spanned (ExprP P A B C D E)) Global)
      → node ≡ e.Op l op r → ⊥)
      → (x : Result (Reading (payloads A B C D E)) Fault) → map_ok (types.members (expression s (shape_seen node))) x
      ≡ map_ok (λ r. types.readings_with r types.no_readings) x
  one_member node no_operation (Err f) = refl
  one_member (e.Op' p l u op q r w) no_operation (Ok x) =
      absurd (no_operation (record { ptr = p.ptr; alloc = p.alloc; value = record { node = l; span = u } }) op
      (record { ptr = q.ptr; alloc = q.alloc; value = record { node = r; span = w } }) refl)
  one_member _ no_operation (Ok (reads q f)) = refl

  pub other_member : (node : ExprP P A B C D E) (l r : Box (Spanned (ExprP P A B C D E)) Global) (op : BinOp) → node ≡ e.Op l op r → (op ≡ BitOr → ⊥)
      → (x : Result (Reading (payloads A B C D E)) Fault) → map_ok (types.members (expression s (shape_seen node))) x
      ≡ map_ok (λ r. types.readings_with r types.no_readings) x
  other_member node l r op is other x = ap (λ n. map_ok (types.members (expression s (shape_seen n))) x) is ∙ single op other x
    where
      single : (op : BinOp) → (op ≡ BitOr → ⊥) → (x : Result (Reading (payloads A B C D E)) Fault)
          → map_ok (types.members (expression s (shape_seen (e.Op l op r)))) x ≡ map_ok (λ r. types.readings_with r types.no_readings) x
      single BitOr other x = absurd (other refl)
      single _ other (Err f) = refl
      single _ other (Ok (reads q f)) = refl

  -- what is not a list is read between the square brackets as everywhere
  pub plain_argument : (node : ExprP P A B C D E) → ((v : Vec (Spanned (ExprP P A B C D E)) Global) → node ≡ e.List v → ⊥)
      → argument (expression s (shape_seen node)) ≡ reading (expression s (shape_seen node))
  plain_argument (e.List' shape row) no_list = absurd (no_list (Block.shown-the_row-ExprP-Tuple-0-2-1 P A B C D E shape row) (list_of_row shape row))
    where
      list_of_row : (shape : _) (row : _) → e.List' shape row ≡ e.List (Block.shown-the_row-ExprP-Tuple-0-2-1 P A B C D E shape row)
      list_of_row shape row = sym (e.roll-out-ExprP P A B C D E (e.List' shape row)) ∙ ap (e.roll-ExprP P A B C D E) (outs-List' shape row) ∙ rolls-List _
  plain_argument _ no_list = refl

  -- only a name is indexed by one type
  pub indexed_name : (at : Span) (node : ExprP P A B C D E) (name : Spanned (IdentP P A B C D E)) (index : Result (Reading (payloads A B C D E)) Fault)
      → node ≡ e.Identifier name
      → types.indexed at (expression s (shape_seen node)) index ≡ map_ok (types.Index (name_seen name)) index
  indexed_name at node name index is = ap (λ n. types.indexed at (expression s (shape_seen n)) index) is

  pub not_indexed : (at : Span) (node : ExprP P A B C D E) (index : Result (Reading (payloads A B C D E)) Fault)
      → ((name : Spanned (IdentP P A B C D E)) → node ≡ e.Identifier name → ⊥)
      → types.indexed at (expression s (shape_seen node)) index
      ≡ Err (types.mistyped (InvalidType (codes "array indirection where array is not an identifier")) at)
  not_indexed at (e.Identifier name) index no_name = absurd (no_name name refl)
  not_indexed at _ index no_name = refl

-- an empty row, and one more type
module _ {P A B C D E : Type 0} where
  pub single_row : (ts : Seq (Spanned (TypeExprUnpackP P A B C D E))) (x : Result (Reading (payloads A B C D E)) Fault) → ts ≡ []
      → map_ok (λ r. types.readings_with r types.no_readings) x ≡ map_ok (λ r. types.append (all_types ts) (types.readings_with r types.no_readings)) x
  single_row ts x none = ap (λ (ys : Seq (Spanned (TypeExprUnpackP P A B C D E))). map_ok
      (λ r. types.append (all_types ys) (types.readings_with r types.no_readings)) x) (sym none)

-- the two types between square brackets, after a path
module _ {P : t.Payloads} (x : Expression P) (a b : Result (Reading P) Fault) where
  pub by_two_read : (p : types.Path P) → types.path x ≡ Ok p → types.indexed_by_two x a b ≡ both (types.Index2 (t.expression_span x) p) a b
  by_two_read p is = ap (λ r. and_then r (λ q. both (types.Index2 (t.expression_span x) q) a b)) is

  pub by_two_refused : {file : File} {refusal : Refusal} → RefusesOutcome file (types.path x) refusal → RefusesOutcome file (types.indexed_by_two x a b) refusal
  by_two_refused refuses = refuses_first (types.path x) (λ q. both (types.Index2 (t.expression_span x) q) a b) refuses

module _ {P A B C D E : Type 0} (s : Span) where
  pub list_empty : (xs : Seq (Spanned (ExprP P A B C D E))) (parts : Result (Readings (payloads A B C D E)) Fault) → length xs ≡ 0
      → types.list s (all_expressions xs) parts ≡ Err (types.mistyped EmptyListInType s)
  list_empty [] parts none = refl
  list_empty (x ∷ xs) parts none = absurd (omega arith)

  pub list_one : (xs : Seq (Spanned (ExprP P A B C D E))) (parts : Result (Readings (payloads A B C D E)) Fault) → length xs ≡ 1
      → types.list s (all_expressions xs) parts ≡ Err (types.mistyped (InvalidType (codes "list of 1 element")) s)
  list_one [] parts one = absurd (omega arith)
  list_one (x ∷ []) parts one = refl
  list_one (x ∷ (y ∷ xs)) parts one = absurd (omega arith)

  pub list_more : (xs : Seq (Spanned (ExprP P A B C D E))) (parts : Result (Readings (payloads A B C D E)) Fault) → 2 ≤ length xs
      → types.list s (all_expressions xs) parts ≡ map_ok types.Union parts
  list_more [] parts more = absurd (omega arith)
  list_more (x ∷ []) parts more = absurd (omega arith)
  list_more (x ∷ (y ∷ xs)) parts more = refl

-- the error of what is made of an outcome is the outcome's
made_error : {X Y : Type 0} (g : X → Y) (r : Result X Fault) (f : Fault) → map_ok g r ≡ Err f → r ≡ Err f
made_error g (Ok x) f is = absurd (cc)
made_error g (Err d) f is = cc

-- the parts of a list, up to an index
module _ {P A B C D E : Type 0} (one : Expression (payloads A B C D E) → Result (Reading (payloads A B C D E)) Fault)
    (all : Expressions (payloads A B C D E) → Result (Readings (payloads A B C D E)) Fault) (none : all t.no_expressions ≡ Ok types.no_readings)
    (more : (x : Expression (payloads A B C D E)) (xs : Expressions (payloads A B C D E)) → all (t.expressions x xs) ≡ both types.readings_with (one x)
    (all xs))
    (xs : Seq (Spanned (ExprP P A B C D E))) (i : ℕ) (x : Spanned (ExprP P A B C D E)) (within : i < length xs) (is : x ≡ get_or xs i x) where
  more_seen : map expression_of (take (i + 1) xs) ≡ map expression_of (take i xs) ++ expression_of x ∷ []
  more_seen = ap (map expression_of) (take_more xs i x within) ∙ map-append expression_of (take i xs) (get_or xs i x ∷ [])
      ∙ ap (λ y. map expression_of (take i xs) ++ expression_of y ∷ []) (sym is)

  whole_seen : map expression_of xs ≡ map expression_of (take i xs) ++ (expression_of x ∷ map expression_of (drop (suc i) xs))
  whole_seen =
      ap (map expression_of) (sym (take-append-drop i xs)) ∙ map-append expression_of (take i xs) (drop i xs)
      ∙ ap (λ ys. map expression_of (take i xs) ++ map expression_of ys) (drop-cons xs i x within ∙ ap (λ y. y ∷ drop (suc i) xs) (sym is))

  -- the parts so far, and one more
  with_part : (rs : Readings (payloads A B C D E)) (r : Result (Reading (payloads A B C D E)) Fault)
      → either (Ok rs) (both types.readings_with r (Ok types.no_readings)) ≡ map_ok (λ y. types.append rs (types.readings_with y types.no_readings)) r
  with_part rs (Ok y) = refl
  with_part rs (Err f) = refl

  pub part_read : (ts new : Seq (Spanned (TypeExprUnpackP P A B C D E))) → all (all_expressions (take i xs)) ≡ Ok (all_types ts)
      → map_ok (λ y. types.append (all_types ts) (types.readings_with y types.no_readings)) (one (expression_of x)) ≡ Ok (all_types new)
      → all (all_expressions (take (i + 1) xs)) ≡ Ok (all_types new)
  part_read ts new before made =
      ap (λ es. all (expressions_of es)) more_seen
      ∙ all_from one all none more (map expression_of (take i xs)) (expression_of x) []
      ∙ ap (λ r. either r (both types.readings_with (one (expression_of x)) (all t.no_expressions))) before
      ∙ ap (λ r. either (Ok (all_types ts)) (both types.readings_with (one (expression_of x)) r)) none
      ∙ with_part (all_types ts) (one (expression_of x)) ∙ made

  pub part_refused : {file : File} {refusal : Refusal} (ts : Seq (Spanned (TypeExprUnpackP P A B C D E))) → all (all_expressions (take i xs))
      ≡ Ok (all_types ts)
      → RefusesOutcome file (map_ok (λ y. types.append (all_types ts) (types.readings_with y types.no_readings)) (one (expression_of x))) refusal
      → RefusesOutcome file (all (all_expressions xs)) refusal
  part_refused ts before refuses =
      let rest = map expression_of (drop (suc i) xs) in
      refuses_same (map_ok (λ y. types.append (all_types ts) (types.readings_with y types.no_readings)) (one (expression_of x))) (all (all_expressions xs))
      (λ f names. ap (λ es. all (expressions_of es)) whole_seen
      ∙ all_from one all none more (map expression_of (take i xs)) (expression_of x) rest
      ∙ ap (λ r. either r (both types.readings_with (one (expression_of x)) (all (expressions_of rest)))) before
      ∙ ap (λ r. either (Ok (all_types ts)) (both types.readings_with r (all (expressions_of rest)))) (made_error _ (one (expression_of x)) f names)) refuses
