-- Which expressions are types, and how they are read.
use Rattle.std.specs.Prelude.{List as Seq, [], ◌∷◌, ◌++◌, Bool, true, ◌==◌, if◌then◌else◌, Result, Ok, Err, codes, flat_map}
use Rattle.std.specs.Str.{bytes_eq}
use Rattle.starlark_lexer.specs.Tokens.{Span, Text}
use Rattle.starlark_tree.specs.Ast as t
use Rattle.starlark_tree.specs.Ast.{Payloads, Word, Expression, expression, Expressions, no_expressions, expressions, Shape}
use Rattle.starlark_tree.specs.declared.ast.operator.BinOp.TheVariants.{BitOr}
use Rattle.starlark_spec.specs.Faults.{Fault, rule_fault, TypeFault, InvalidType, EmptyListInType, DotInType, ExpectingPath, DotTypeBan, TypeExpr}
use Rattle.starlark_spec.specs.Targets.{map_ok, and_then, both}

-- a text that is empty, or begins with `_`
abbrev pub is_wildcard : Text → Bool
is_wildcard [] = true
is_wildcard (b ∷ rest) = b == 95

-- a name that is read
pub record Name (P : Payloads) : Type 0 where
  pub word : Word
  pub payload : P.ident

-- names separated by dots
pub record Path (P : Payloads) : Type 0 where
  pub first : Name P
  pub rest : Seq Word

-- A type without its memory. Each list has a type of its own.
mutual
  pub data Reading (P : Payloads) : Type 0 where
    reads : Span → Form P → Reading P

  pub data Form (P : Payloads) : Type 0 where
    Ellipsis : Form P
    PathType : Path P → Form P
    Index : Name P → Reading P → Form P
    Index2 : Span → Path P → Reading P → Reading P → Form P
    List Union Tuple : Readings P → Form P

  pub data Readings (P : Payloads) : Type 0 where
    no_readings : Readings P
    readings_with : Reading P → Readings P → Readings P

abbrev pub mistyped : TypeFault → Span → Fault
mistyped f s = rule_fault (TypeExpr f) s

abbrev pub invalid : {A : Type 0} → Text → Span → Result A Fault
invalid word s = Err (mistyped (InvalidType word) s)

-- of the literals only `...` is a type
abbrev pub constant : Span → t.Literal → Result (Unit {0}) Fault
constant s t.Ellipsis = Ok tt
constant s (t.Int r n) = invalid (codes "int") s
constant s (t.Float w) = invalid (codes "float") s
constant s (t.String w) = invalid (codes "string literal") s
constant s (t.Bytes w) = invalid (codes "bytes literal") s

module _ {P : Payloads} where
  abbrev pub readings_of : Seq (Reading P) → Readings P
  readings_of [] = no_readings
  readings_of (r ∷ rs) = readings_with r (readings_of rs)

  abbrev pub append : Readings P → Readings P → Readings P
  append no_readings more = more
  append (readings_with r rs) more = readings_with r (append rs more)

  abbrev pub name : Word → P.ident → Name P
  name word payload = record { word = word; payload = payload }

  abbrev pub alone : Name P → Path P
  alone first = record { first = first; rest = [] }

  abbrev pub longer : Path P → Word → Path P
  longer p w = record { first = p.first; rest = p.rest ++ w ∷ [] }

  abbrev pub path_text : Path P → Text
  path_text p = p.first.word.text ++ flat_map (λ w. codes "." ++ w.text) p.rest

  -- the names of `a.b.c`
  abbrev pub dotted : Expression P → Result (Path P) Fault
  dotted (expression s (t.Identifier w p)) = Ok (alone (name w p))
  dotted (expression s (t.Dot e w)) = map_ok (λ p. longer p w) (dotted e)
  dotted (expression s other) = Err (mistyped DotInType s)

  -- the last name of a path is not `type`
  abbrev pub extended_unless_type : Word → Path P → Result (Path P) Fault
  extended_unless_type w p = if bytes_eq w.text (codes "type") then Err (mistyped (DotTypeBan (path_text p)) p.first.word.span) else Ok (longer p w)

  -- the path `e.w`
  abbrev pub member : Expression P → Word → Result (Path P) Fault
  member e w = and_then (dotted e) (extended_unless_type w)

  -- the path before `[i, j]`
  abbrev pub path : Expression P → Result (Path P) Fault
  path (expression s (t.Identifier w p)) = Ok (alone (name w p))
  path (expression s (t.Dot e w)) = member e w
  path (expression s other) = Err (mistyped ExpectingPath s)

  -- a list of two or more is a union of them
  abbrev pub list : Span → Expressions P → Result (Readings P) Fault → Result (Form P) Fault
  list s no_expressions parts = Err (mistyped EmptyListInType s)
  list s (expressions e no_expressions) parts = invalid (codes "list of 1 element") s
  list s (expressions e (expressions f es)) parts = map_ok Union parts

  -- a `|` gives its members to the `|` around it, anything else is one member
  abbrev pub members : Expression P → Reading P → Readings P
  members (expression s (t.Op l BitOr r)) (reads q (Union rs)) = rs
  members e r = readings_with r no_readings

  -- the members of both, or the first fault
  abbrev pub either : Result (Readings P) Fault → Result (Readings P) Fault → Result (Readings P) Fault
  either left right = both append left right

  abbrev pub union : Result (Readings P) Fault → Result (Readings P) Fault → Result (Form P) Fault
  union left right = map_ok Union (either left right)

  -- only a name can be indexed by one type
  abbrev pub indexed : Span → Expression P → Result (Reading P) Fault → Result (Form P) Fault
  indexed s (expression r (t.Identifier w p)) index = map_ok (Index (name w p)) index
  indexed s other index = invalid (codes "array indirection where array is not an identifier") s

  abbrev pub indexed_by_two : Expression P → Result (Reading P) Fault → Result (Reading P) Fault → Result (Form P) Fault
  indexed_by_two e first second = and_then (path e) (λ p. both (Index2 (t.expression_span e) p) first second)

-- The type that an expression is read as, or the first fault from the left.
abbrev mutual
  pub reading : {P : Payloads} → Expression P → Result (Reading P) Fault
  reading (expression s shape) = map_ok (reads s) (form s shape)

  -- the form of an expression at a span
  pub form : {P : Payloads} → Span → Shape P → Result (Form P) Fault
  form s (t.Identifier w p) = Ok (PathType (alone (name w p)))
  form s (t.Dot e w) = map_ok PathType (member e w)
  form s (t.Tuple es) = map_ok Tuple (readings es)
  form s (t.List es) = list s es (readings es)
  form s (t.Op l BitOr r) = union (map_ok (members l) (reading l)) (map_ok (members r) (reading r))
  form s (t.Op l op r) = invalid (codes "bin op except `|`") s
  form s (t.Index a i) = indexed s a (reading i)
  form s (t.Index2 a i j) = indexed_by_two a (argument i) (argument j)
  form s (t.Constant literal) = map_ok (λ _. Ellipsis) (constant s literal)
  form s (t.Call f xs) = invalid (codes "call") s
  form s (t.Slice a from upto step) = invalid (codes "slice") s
  form s (t.Lambda ps e p) = invalid (codes "lambda") s
  form s (t.Not e) = invalid (codes "not") s
  form s (t.Minus e) = invalid (codes "minus") s
  form s (t.Plus e) = invalid (codes "plus") s
  form s (t.BitNot e) = invalid (codes "bit not") s
  form s (t.If c a b) = invalid (codes "if") s
  form s (t.Dict ps) = invalid (codes "dict") s
  form s (t.ListComprehension e for cs) = invalid (codes "list comprehension") s
  form s (t.DictComprehension k v for cs) = invalid (codes "dict comprehension") s
  form s (t.FString r w es) = invalid (codes "f-string") s

  pub readings : {P : Payloads} → Expressions P → Result (Readings P) Fault
  readings no_expressions = Ok no_readings
  readings (expressions e es) = both readings_with (reading e) (readings es)

  -- a list between the square brackets of `p[i, j]` is a list of types
  pub argument : {P : Payloads} → Expression P → Result (Reading P) Fault
  argument (expression s (t.List es)) = map_ok (λ rs. reads s (List rs)) (all_arguments es)
  argument (expression s other) = map_ok (reads s) (form s other)

  pub all_arguments : {P : Payloads} → Expressions P → Result (Readings P) Fault
  all_arguments no_expressions = Ok no_readings
  all_arguments (expressions e es) = both readings_with (argument e) (all_arguments es)

-- what an operand of `|` adds to its members
abbrev pub operands : {P : Payloads} → Expression P → Result (Readings P) Fault
operands e = map_ok (members e) (reading e)
