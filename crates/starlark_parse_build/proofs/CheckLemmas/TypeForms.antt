-- The faults of each form of expression as a type.
use Rattle.std.proofs.Common.{◌≡◌, ℕ, ◌≤◌, ◌<◌, ◌+◌, suc, true, false, List as Seq, [], ◌∷◌, ◌++◌, length, map, get_or, take, drop, drop-cons, if◌then◌else◌}
use Rattle.std.proofs.Common.{Option, Some, None, Result, Ok, Err, IfOk, Box, Vec, String, Global, codes, string_bytes, refl, ap, sym, subst, ◌∙◌, arith}
use Rattle.std.proofs.lemmas.List.{append_assoc, flat_map_more, map-append, take_more, take-append-drop}
use Rattle.std.specs.Bool.{⊤}
use Rattle.std.specs.Option.{option_or}
use Rattle.std.specs.Str.{bytes_eq}
use Rattle.starlark_lexer.specs.Tokens.{Span}
use Rattle.starlark_lexer.specs.declared.span.Spanned.{Spanned}
use Rattle.starlark_tree.specs.Ast as t
use Rattle.starlark_tree.specs.Ast.{no_payload, Word, Expression, expression, Expressions, expressions_of}
use Rattle.starlark_tree.specs.Views.{shape_seen, expression_of, all_expressions, literal_seen, word}
use Rattle.starlark_tree.specs.declared.ast.ArgumentP.TheBlock as Block
use Rattle.starlark_tree.specs.declared.ast.AstLiteral.{AstLiteral}
use Rattle.starlark_tree.specs.declared.ast.ExprP.{ExprP}
use Rattle.starlark_tree.specs.declared.ast.ExprP as e
use Rattle.starlark_tree.specs.declared.ast.ExprP.TheVariants.{outs-List', rolls-List}
use Rattle.starlark_tree.specs.declared.ast.IdentP.{IdentP}
use Rattle.starlark_tree.specs.declared.ast.operator.BinOp.{BinOp}
use Rattle.starlark_tree.specs.declared.ast.operator.BinOp.TheVariants.{BitOr}
use Rattle.starlark_tree.specs.declared.ast.payload.AstNoPayload.{AstNoPayload}
use Rattle.starlark_tree.proofs.Rows.{expressions_seen_of}
use Rattle.starlark_spec.specs.Faults.{Fault, InvalidType, EmptyListInType, DotInType, ExpectingPath, DotTypeBan}
use Rattle.starlark_spec.specs.Targets.{map_ok, and_then, both}
use Rattle.starlark_spec.specs.Machine.Faults.{fault_of}
use Rattle.starlark_spec.specs.Types as types
use Rattle.starlark_spec.specs.Types.{reads, form, reading, readings, argument, all_arguments, readings_with, mistyped}
use Rattle.starlark_parse_build.specs.Check.Checks.{Names}
use Rattle.starlark_spec.specs.declared.refusal.Refusal.{Refusal}
use Rattle.starlark_parse_build.proofs.CheckLemmas.FaultLemmas.{fault_map, fault_both, names_same, names_first}

abbrev pub Node : Type 0
Node = ExprP AstNoPayload ⊤ ⊤ ⊤ ⊤ ⊤

abbrev pub Code : Type 0
Code = Spanned Node

-- the fault of a type is that of its form
pub form_fault : (s : Span) (node other : Node) → node ≡ other → fault_of (form s (shape_seen other)) ≡ fault_of (reading (expression s (shape_seen node)))
form_fault s node other is = sym (ap (λ n. fault_of (reading (expression s (shape_seen n)))) is ∙ fault_map (reads s) (form s (shape_seen other)))

module _ (s : Span) (node : Node) where
  pub name_fault : (name : Spanned (IdentP AstNoPayload ⊤ ⊤ ⊤ ⊤ ⊤)) → node ≡ e.Identifier name → fault_of (reading (expression s (shape_seen node))) ≡ None
  name_fault name is = sym (form_fault s node (e.Identifier name) is)

  pub dot_fault : (object : Box Code Global) (name : Spanned (String Global)) (inner : Code) → node ≡ e.Dot object name → inner ≡ object.value
      → fault_of (types.member (expression_of inner) (word name)) ≡ fault_of (reading (expression s (shape_seen node)))
  dot_fault object name inner is same =
      ap (λ x. fault_of (types.member (expression_of x) (word name))) same
      ∙ sym (fault_map types.PathType (types.member (expression_of object.value) (word name)))
      ∙ form_fault s node (e.Dot object name) is

  pub tuple_fault : (v : Vec Code Global) (xs : Seq Code) → node ≡ e.Tuple v → xs ≡ v.items → fault_of (readings (all_expressions xs))
      ≡ fault_of (reading (expression s (shape_seen node)))
  tuple_fault v xs is same =
      ap (λ ys. fault_of (readings (all_expressions ys))) same ∙ sym (fault_map types.Tuple (readings (all_expressions v.items)))
      ∙ sym (ap (λ es. fault_of (map_ok types.Tuple (readings es))) (expressions_seen_of v)) ∙ form_fault s node (e.Tuple v) is

  pub list_fault : (v : Vec Code Global) (xs : Seq Code) → node ≡ e.List v → xs ≡ v.items
      → fault_of (types.list s (all_expressions xs) (readings (all_expressions xs))) ≡ fault_of (reading (expression s (shape_seen node)))
  list_fault v xs is same =
      ap (λ ys. fault_of (types.list s (all_expressions ys) (readings (all_expressions ys)))) same
      ∙ sym (ap (λ es. fault_of (types.list s es (readings es))) (expressions_seen_of v)) ∙ form_fault s node (e.List v) is

  -- a `|` has the first fault of its operands
  pub union_fault : (l r : Box Code Global) (op : BinOp) (left right : Code) → node ≡ e.Op l op r → op ≡ BitOr → left ≡ l.value → right ≡ r.value
      → option_or (fault_of (reading (expression_of left))) (fault_of (reading (expression_of right))) ≡ fault_of (reading (expression s (shape_seen node)))
  union_fault l r op left right is bar same same_right =
      ap (λ x. option_or (fault_of (reading (expression_of x))) (fault_of (reading (expression_of right)))) same
      ∙ ap (λ x. option_or (fault_of (reading (expression_of l.value))) (fault_of (reading (expression_of x)))) same_right
      ∙ sym (members_fault (expression_of l.value) (expression_of r.value))
      ∙ form_fault s node (e.Op l BitOr r) (is ∙ ap (λ (o : BinOp). e.Op l o r) bar)
    where
      members_fault : (a b : Expression no_payload)
          → fault_of (types.union (map_ok (types.members a) (reading a)) (map_ok (types.members b) (reading b))) ≡ option_or (fault_of (reading a))
          (fault_of (reading b))
      members_fault a b =
          fault_map types.Union (types.either (map_ok (types.members a) (reading a)) (map_ok (types.members b) (reading b)))
          ∙ fault_both types.append (map_ok (types.members a) (reading a)) (map_ok (types.members b) (reading b))
          ∙ ap (λ f. option_or f (fault_of (map_ok (types.members b) (reading b)))) (fault_map (types.members a) (reading a))
          ∙ ap (option_or (fault_of (reading a))) (fault_map (types.members b) (reading b))

  pub index_fault : (b : Box (Code × Code) Global) (parts : Code × Code) → node ≡ e.Index b → parts ≡ b.value
      → fault_of (types.indexed s (expression_of parts.0) (reading (expression_of parts.1))) ≡ fault_of (reading (expression s (shape_seen node)))
  index_fault b parts is same =
      ap (λ (p : Code × Code). fault_of (types.indexed s (expression_of p.0) (reading (expression_of p.1)))) same ∙ form_fault s node (e.Index b) is

  pub index_by_two_fault : (b : Box (Code × Code × Code) Global) (parts : Code × Code × Code) → node ≡ e.Index2 b → parts ≡ b.value
      → fault_of (types.indexed_by_two (expression_of parts.0) (argument (expression_of parts.1)) (argument (expression_of parts.2)))
      ≡ fault_of (reading (expression s (shape_seen node)))
  index_by_two_fault b parts is same =
      ap (λ (p : Code × Code × Code). fault_of (types.indexed_by_two (expression_of p.0) (argument (expression_of p.1)) (argument (expression_of p.2)))) same
      ∙ form_fault s node (e.Index2 b) is

  pub literal_fault : (literal : AstLiteral) → node ≡ e.Literal literal → fault_of (types.constant s (literal_seen literal))
      ≡ fault_of (reading (expression s (shape_seen node)))
  literal_fault literal is = sym (fault_map (λ _. types.Ellipsis) (types.constant s (literal_seen literal))) ∙ form_fault s node (e.Literal literal) is

  pub listed_fault : (v : Vec Code Global) (xs : Seq Code) → node ≡ e.List v → xs ≡ v.items
      → fault_of (all_arguments (all_expressions xs)) ≡ fault_of (argument (expression s (shape_seen node)))
  listed_fault v xs is same =
      ap (λ ys. fault_of (all_arguments (all_expressions ys))) same ∙ sym (fault_map (λ rs. reads s (types.List rs)) (all_arguments (all_expressions v.items)))
      ∙ sym (ap (λ es. fault_of (map_ok (λ rs. reads s (types.List rs)) (all_arguments es))) (expressions_seen_of v))
      ∙ sym (ap (λ n. fault_of (argument (expression s (shape_seen n)))) is)

module _ (s : Span) where
  other_operator : (l r : Box Code Global) (op : BinOp) → (op ≡ BitOr → ⊥) → form s (shape_seen (e.Op l op r)) ≡ types.invalid (codes "bin op except `|`") s
  other_operator l r BitOr other = absurd (other refl)
  other_operator l r _ other = refl

  -- an operator that is not `|`
  pub operator_fault : (node : Node) (l r : Box Code Global) (op : BinOp) → node ≡ e.Op l op r → (op ≡ BitOr → ⊥)
      → Some (mistyped (InvalidType (codes "bin op except `|`")) s) ≡ fault_of (reading (expression s (shape_seen node)))
  operator_fault node l r op is other = sym (ap fault_of (other_operator l r op other)) ∙ form_fault s node (e.Op l op r) is

  -- what is not a list is read between the square brackets as everywhere
  pub plain_fault : (node : Node) → ((v : Vec Code Global) → node ≡ e.List v → ⊥) → fault_of (reading (expression s (shape_seen node)))
      ≡ fault_of (argument (expression s (shape_seen node)))
  plain_fault (e.List' shape row) no_list = absurd (no_list (Block.shown-the_row-ExprP-Tuple-0-2-1 AstNoPayload ⊤ ⊤ ⊤ ⊤ ⊤ shape row) (list_of_row shape row))
    where
      list_of_row : (shape : _) (row : _) → e.List' shape row ≡ e.List (Block.shown-the_row-ExprP-Tuple-0-2-1 AstNoPayload ⊤ ⊤ ⊤ ⊤ ⊤ shape row)
      list_of_row shape row =
          sym (e.roll-out-ExprP AstNoPayload ⊤ ⊤ ⊤ ⊤ ⊤ (e.List' shape row)) ∙ ap (e.roll-ExprP AstNoPayload ⊤ ⊤ ⊤ ⊤ ⊤) (outs-List' shape row) ∙ rolls-List _
  plain_fault _ no_list = refl

  -- only a name is indexed by one type
  pub named_fault : (at : Span) (node : Node) (name : Spanned (IdentP AstNoPayload ⊤ ⊤ ⊤ ⊤ ⊤)) (index : Expression no_payload) → node ≡ e.Identifier name
      → fault_of (reading index) ≡ fault_of (types.indexed at (expression s (shape_seen node)) (reading index))
  named_fault at node name index is =
      sym (ap (λ n. fault_of (types.indexed at (expression s (shape_seen n)) (reading index))) is ∙ fault_map (types.Index _) (reading index))

  pub unnamed_fault : (at : Span) (node : Node) (index : Result (types.Reading no_payload) Fault)
      → ((name : Spanned (IdentP AstNoPayload ⊤ ⊤ ⊤ ⊤ ⊤)) → node ≡ e.Identifier name → ⊥)
      → Some (mistyped (InvalidType (codes "array indirection where array is not an identifier")) at)
      ≡ fault_of (types.indexed at (expression s (shape_seen node)) index)
  unnamed_fault at (e.Identifier name) index no_name = absurd (no_name name refl)
  unnamed_fault at _ index no_name = refl

  pub empty_fault : (xs : Seq Code) (parts : Result (types.Readings no_payload) Fault) → length xs ≡ 0
      → Some (mistyped EmptyListInType s) ≡ fault_of (types.list s (all_expressions xs) parts)
  empty_fault [] parts none = refl
  empty_fault (x ∷ xs) parts none = absurd (omega arith)

  pub alone_fault : (xs : Seq Code) (parts : Result (types.Readings no_payload) Fault) → length xs ≡ 1
      → Some (mistyped (InvalidType (codes "list of 1 element")) s) ≡ fault_of (types.list s (all_expressions xs) parts)
  alone_fault [] parts one = absurd (omega arith)
  alone_fault (x ∷ []) parts one = refl
  alone_fault (x ∷ (y ∷ xs)) parts one = absurd (omega arith)

  pub several_fault : (xs : Seq Code) (parts : Result (types.Readings no_payload) Fault) → 2 ≤ length xs
      → fault_of parts ≡ fault_of (types.list s (all_expressions xs) parts)
  several_fault [] parts more = absurd (omega arith)
  several_fault (x ∷ []) parts more = absurd (omega arith)
  several_fault (x ∷ (y ∷ xs)) parts more = sym (fault_map types.Union parts)

  -- names with dots between them
  pub none_dotted : (node : Node) → ((object : Box Code Global) (name : Spanned (String Global)) → node ≡ e.Dot object name → ⊥)
      → ((name : Spanned (IdentP AstNoPayload ⊤ ⊤ ⊤ ⊤ ⊤)) → node ≡ e.Identifier name → ⊥) → types.dotted (expression s (shape_seen node))
      ≡ Err (mistyped DotInType s)
  none_dotted (e.Dot' p x r name) dot identifier = absurd (dot (record { ptr = p.ptr; alloc = p.alloc; value = record { node = x; span = r } }) name refl)
  none_dotted (e.Identifier name) dot identifier = absurd (identifier name refl)
  none_dotted _ dot identifier = refl

  pub no_path : (node : Node) → ((object : Box Code Global) (name : Spanned (String Global)) → node ≡ e.Dot object name → ⊥)
      → ((name : Spanned (IdentP AstNoPayload ⊤ ⊤ ⊤ ⊤ ⊤)) → node ≡ e.Identifier name → ⊥) → Some (mistyped ExpectingPath s)
      ≡ fault_of (types.path (expression s (shape_seen node)))
  no_path (e.Dot' p x r name) dot identifier = absurd (dot (record { ptr = p.ptr; alloc = p.alloc; value = record { node = x; span = r } }) name refl)
  no_path (e.Identifier name) dot identifier = absurd (identifier name refl)
  no_path _ dot identifier = refl

  pub longer : (node : Node) (object : Box Code Global) (name : Spanned (String Global)) (inner : Code) → node ≡ e.Dot object name → inner ≡ object.value
      → map_ok (λ p. types.longer p (word name)) (types.dotted (expression_of inner)) ≡ types.dotted (expression s (shape_seen node))
  longer node object name inner is same =
      ap (λ x. map_ok (λ p. types.longer p (word name)) (types.dotted (expression_of x))) same ∙ sym (ap (λ n. types.dotted (expression s (shape_seen n))) is)

  pub longer_fault : (node : Node) (object : Box Code Global) (name : Spanned (String Global)) (inner : Code) → node ≡ e.Dot object name → inner ≡ object.value
      → fault_of (types.dotted (expression_of inner)) ≡ fault_of (types.dotted (expression s (shape_seen node)))
  longer_fault node object name inner is same = sym (fault_map (λ p. types.longer p (word name)) (types.dotted (expression_of inner)))
      ∙ ap fault_of (longer node object name inner is same)

  pub longer_text : (node : Node) (object : Box Code Global) (name : Spanned (String Global)) (inner : Code) (t u v n : Seq ℕ) → node ≡ e.Dot object name
      → inner ≡ object.value → IfOk (types.dotted (expression_of inner)) (λ p. t ≡ types.path_text p) → u ≡ t ++ codes "." → v ≡ u ++ n
      → n ≡ string_bytes name.node → IfOk (types.dotted (expression s (shape_seen node))) (λ p. v ≡ types.path_text p)
  longer_text node object name inner t u v n is same text dot more bytes =
      subst (λ r. IfOk r (λ p. v ≡ types.path_text p)) (longer node object name inner is same) (of_part (types.dotted (expression_of inner)) text)
    where
      of_part : (r : Result (types.Path no_payload) Fault) → IfOk r (λ p. t ≡ types.path_text p)
          → IfOk (map_ok (λ p. types.longer p (word name)) r) (λ p. v ≡ types.path_text p)
      of_part (Ok p) h =
          more ∙ ap (λ x. x ++ n) dot ∙ append_assoc t (codes ".") n ∙ ap (λ x. t ++ (codes "." ++ x)) bytes
          ∙ ap (λ x. x ++ (codes "." ++ string_bytes name.node)) h ∙ flat_map_more (λ (w : Word). codes "." ++ w.text) p.first.word.text p.rest (word name)
      of_part (Err e) h = tt

  pub longer_first : (node : Node) (object : Box Code Global) (name : Spanned (String Global)) (inner : Code) (at : Span) → node ≡ e.Dot object name
      → inner ≡ object.value → IfOk (types.dotted (expression_of inner)) (λ p. at ≡ p.first.word.span)
      → IfOk (types.dotted (expression s (shape_seen node))) (λ p. at ≡ p.first.word.span)
  longer_first node object name inner at is same first =
      subst (λ r. IfOk r (λ p. at ≡ p.first.word.span)) (longer node object name inner is same) (of_part (types.dotted (expression_of inner)) first)
    where
      of_part : (r : Result (types.Path no_payload) Fault) → IfOk r (λ p. at ≡ p.first.word.span)
          → IfOk (map_ok (λ p. types.longer p (word name)) r) (λ p. at ≡ p.first.word.span)
      of_part (Ok p) h = h
      of_part (Err e) h = tt

-- A path that ends with `type` is refused; any other keeps the fault of what is before.
module _ (x : Expression no_payload) (w : Word) where
  pub banned : (p : types.Path no_payload) → types.dotted x ≡ Ok p → bytes_eq w.text (codes "type") ≡ true
      → Some (mistyped (DotTypeBan (types.path_text p)) p.first.word.span) ≡ fault_of (types.member x w)
  banned p path is =
      sym (ap (λ r. fault_of (and_then r (types.extended_unless_type w))) path
      ∙ ap (λ b. fault_of (if b then Err (mistyped (DotTypeBan (types.path_text p)) p.first.word.span) else Ok (types.longer p w))) is)

  pub before_fault : (error : Refusal) → Names (fault_of (types.dotted x)) error → Names (fault_of (types.member x w)) error
  before_fault error names = names_same (fault_of (types.dotted x)) (fault_of (types.member x w)) error (λ f is. kept (types.dotted x) f is) names
    where
      kept : (r : Result (types.Path no_payload) Fault) (f : Fault) → fault_of r ≡ Some f → fault_of (and_then r (types.extended_unless_type w)) ≡ Some f
      kept (Ok p) f is = absurd (cc)
      kept (Err g) f is = is

  pub member_fault : bytes_eq w.text (codes "type") ≡ false → fault_of (types.dotted x) ≡ fault_of (types.member x w)
  member_fault other = kept (types.dotted x)
    where
      kept : (r : Result (types.Path no_payload) Fault) → fault_of r ≡ fault_of (and_then r (types.extended_unless_type w))
      kept (Ok p) = sym (ap (λ b. fault_of (if b then Err (mistyped (DotTypeBan (types.path_text p)) p.first.word.span) else Ok (types.longer p w))) other)
      kept (Err g) = refl

-- the two types between square brackets, after a path
module _ (x : Expression no_payload) (a b : Result (types.Reading no_payload) Fault) where
  pub by_two_fault : option_or (fault_of (types.path x)) (option_or (fault_of a) (fault_of b)) ≡ fault_of (types.indexed_by_two x a b)
  by_two_fault = kept (types.path x)
    where
      kept : (r : Result (types.Path no_payload) Fault) → option_or (fault_of r) (option_or (fault_of a) (fault_of b))
          ≡ fault_of (and_then r (λ p. both (types.Index2 (t.expression_span x) p) a b))
      kept (Ok p) = sym (fault_both (types.Index2 (t.expression_span x) p) a b)
      kept (Err g) = refl

option_or_assoc : {A : Type 0} (a b c : Option A) → option_or (option_or a b) c ≡ option_or a (option_or b c)
option_or_assoc None b c = refl
option_or_assoc (Some x) b c = refl

-- the parts of a list, up to an index
module _ (one : Expression no_payload → Option Fault) (all : Expressions no_payload → Option Fault) (none : all t.no_expressions ≡ None)
    (more : (x : Expression no_payload) (xs : Expressions no_payload) → all (t.expressions x xs) ≡ option_or (one x) (all xs)) where
  all-append : (xs ys : Seq (Expression no_payload)) → all (expressions_of (xs ++ ys)) ≡ option_or (all (expressions_of xs)) (all (expressions_of ys))
  all-append [] ys = sym (ap (λ o. option_or o (all (expressions_of ys))) none)
  all-append (x ∷ xs) ys =
      more x (expressions_of (xs ++ ys)) ∙ ap (option_or (one x)) (all-append xs ys)
      ∙ sym (option_or_assoc (one x) (all (expressions_of xs)) (all (expressions_of ys)))
      ∙ sym (ap (λ o. option_or o (all (expressions_of ys))) (more x (expressions_of xs)))

  module _ (xs : Seq Code) (i : ℕ) (x : Code) (within : i < length xs) (is : x ≡ get_or xs i x) (before : all (all_expressions (take i xs)) ≡ None) where
    more_seen : map expression_of (take (i + 1) xs) ≡ map expression_of (take i xs) ++ expression_of x ∷ []
    more_seen = ap (map expression_of) (take_more xs i x within) ∙ map-append expression_of (take i xs) (get_or xs i x ∷ [])
        ∙ ap (λ y. map expression_of (take i xs) ++ expression_of y ∷ []) (sym is)

    whole_seen : map expression_of xs ≡ map expression_of (take i xs) ++ (expression_of x ∷ map expression_of (drop (suc i) xs))
    whole_seen =
        ap (map expression_of) (sym (take-append-drop i xs)) ∙ map-append expression_of (take i xs) (drop i xs)
        ∙ ap (λ ys. map expression_of (take i xs) ++ map expression_of ys) (drop-cons xs i x within ∙ ap (λ y. y ∷ drop (suc i) xs) (sym is))

    pub part_kept : one (expression_of x) ≡ None → all (all_expressions (take (i + 1) xs)) ≡ None
    part_kept fine =
        ap (λ es. all (expressions_of es)) more_seen ∙ all-append (map expression_of (take i xs)) (expression_of x ∷ [])
        ∙ ap (λ o. option_or o (all (t.expressions (expression_of x) t.no_expressions))) before
        ∙ more (expression_of x) t.no_expressions ∙ ap (λ o. option_or o (all t.no_expressions)) fine ∙ none

    pub part_found : (error : Refusal) → Names (one (expression_of x)) error → Names (all (all_expressions xs)) error
    part_found error names =
        let rest = map expression_of (drop (suc i) xs) in
        names_same (option_or (one (expression_of x)) (all (expressions_of rest))) (all (all_expressions xs)) error
        (λ f found. ap (λ es. all (expressions_of es)) whole_seen ∙ all-append (map expression_of (take i xs)) (expression_of x ∷ rest)
        ∙ ap (λ o. option_or o (all (t.expressions (expression_of x) (expressions_of rest)))) before ∙ more (expression_of x) (expressions_of rest) ∙ found)
        (names_first (one (expression_of x)) (all (expressions_of rest)) error names)

pub readings_more : (x : Expression no_payload) (xs : Expressions no_payload) → fault_of (readings (t.expressions x xs)) ≡ option_or (fault_of (reading x))
    (fault_of (readings xs))
readings_more x xs = fault_both readings_with (reading x) (readings xs)

pub arguments_more : (x : Expression no_payload) (xs : Expressions no_payload) → fault_of (all_arguments (t.expressions x xs))
    ≡ option_or (fault_of (argument x)) (fault_of (all_arguments xs))
arguments_more x xs = fault_both readings_with (argument x) (all_arguments xs)
