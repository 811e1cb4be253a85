-- A reader of the JSON of trees, by kinds and by the order of fields.
use Rattle.std.specs.Prelude.{ℕ, ℤ, List as Seq, [], ◌∷◌, codes, length, if◌then◌else◌, Option, Some, None, option_map, option_and_then}
use Rattle.std.specs.List.{find}
use Rattle.std.specs.Str.{bytes_eq}
use Rattle.std.specs.Str.Parse.{digits_value, signed_digits_value}
use Rattle.json.specs.Json.{Json, value, if_last, null, number, string, array, object, Items, no_items, item, Members, no_members, member}
use Rattle.json.specs.Lex as lex
use Rattle.starlark_lexer.specs.Tokens.{Span, Text, from_to}
use Rattle.starlark_lexer.specs.Tokens as tokens
use Rattle.starlark_tree.specs.Ast as t
use Rattle.starlark_tree.specs.Ast.{Word, no_payload}
use Rattle.starlark_tree.specs.Views.{word_at}
use Rattle.starlark_tree.specs.declared.ast.operator.BinOp.{BinOp}
use Rattle.starlark_tree.specs.declared.ast.operator.BinOp.TheVariants as op
use Rattle.starlark_tree.specs.declared.ast.operator.AssignOp.{AssignOp}
use Rattle.starlark_tree.specs.declared.ast.operator.AssignOp.TheVariants as assign
use Rattle.starlark_json.specs.Tree.Fields.{operator_name, assign_operator_name}

-- what is built of parts, if each is there
abbrev pub of_two : {A B R : Type 0} → (A → B → R) → Option A → Option B → Option R
of_two f a b = option_and_then (λ x. option_map (f x) b) a

abbrev pub of_three : {A B C R : Type 0} → (A → B → C → R) → Option A → Option B → Option C → Option R
of_three f a b c = option_and_then (λ x. of_two (f x) b c) a

abbrev pub of_four : {A B C D R : Type 0} → (A → B → C → D → R) → Option A → Option B → Option C → Option D → Option R
of_four f a b c d = option_and_then (λ x. of_three (f x) b c d) a

-- what is beside a name
abbrev pub beside : {R : Type 0} → Text → Seq (Text × Option R) → Option R
beside name [] = None
beside name (row ∷ rows) = if bytes_eq name row.0 then row.1 else beside name rows

-- null says that there is nothing; of another value, what was read of it
abbrev pub or_null : {A : Type 0} → A → Json → Option A → Option A
or_null nothing null read = Some nothing
or_null nothing _ read = read

abbrev pub read_span : Json → Option Span
read_span (array (item (number a) (item (number b) no_items))) = Some (from_to (digits_value 10 a) (digits_value 10 b))
read_span _ = None

abbrev pub read_text : Json → Option Text
read_text (string text) = Some text
read_text _ = None

abbrev pub read_word : Json → Option Word
read_word (object (member _ place (member _ text no_members))) = of_two word_at (read_text text) (read_span place)
read_word _ = None

abbrev pub read_int : Json → Option ℤ
read_int (number text) = Some (signed_digits_value 10 text)
read_int _ = None

abbrev pub read_numbers : Items → Option (Seq ℕ)
read_numbers no_items = Some []
read_numbers (item (number n) rest) = option_map (λ ns. digits_value 10 n ∷ ns) (read_numbers rest)
read_numbers _ = None

abbrev pub read_bytes : Json → Option (Seq ℕ)
read_bytes (array items) = read_numbers items
read_bytes _ = None

abbrev pub read_operator : Text → Option BinOp
read_operator name =
    find (λ o. bytes_eq (operator_name o) name)
    (op.Or ∷ op.And ∷ op.Equal ∷ op.NotEqual ∷ op.Less ∷ op.Greater ∷ op.LessOrEqual ∷ op.GreaterOrEqual ∷ op.In ∷ op.NotIn ∷ op.Subtract
    ∷ op.Add ∷ op.Multiply ∷ op.Percent ∷ op.Divide ∷ op.FloorDivide ∷ op.BitAnd ∷ op.BitOr ∷ op.BitXor ∷ op.LeftShift ∷ op.RightShift ∷ [])

abbrev pub read_assign_operator : Text → Option AssignOp
read_assign_operator name =
    find (λ o. bytes_eq (assign_operator_name o) name)
    (assign.Add ∷ assign.Subtract ∷ assign.Multiply ∷ assign.Divide ∷ assign.FloorDivide ∷ assign.Percent ∷ assign.BitAnd ∷ assign.BitOr
    ∷ assign.BitXor ∷ assign.LeftShift ∷ assign.RightShift ∷ [])

-- a literal of this kind and value, whose node is here
abbrev pub read_literal : Span → Text → Json → Option t.Literal
read_literal s kind value =
    beside kind
    ((codes "Int", option_map (λ n. t.Int s (tokens.small n)) (read_int value))
    ∷ (codes "BigInt", option_map (λ text. t.Int s (tokens.large text)) (read_text value))
    ∷ (codes "Float", option_map (λ text. t.Float (word_at text s)) (read_text value))
    ∷ (codes "String", option_map (λ text. t.String (word_at text s)) (read_text value))
    ∷ (codes "Bytes", option_map (λ bytes. t.Bytes (word_at bytes s)) (read_bytes value))
    ∷ [])

-- if it may be absent
abbrev pub or_absent : Json → Option (t.Expression no_payload) → Option (t.Maybe no_payload)
or_absent value e = or_null t.absent value (option_map t.present e)

abbrev mutual
  pub read_expression : Json → Option (t.Expression no_payload)
  read_expression (object (member _ (string kind) (member _ place fields))) =
      option_and_then (λ s. option_map (t.expression s) (read_shape s kind fields)) (read_span place)
  read_expression _ = None

  -- an expression of this kind and with these fields, whose node is here
  pub read_shape : Span → Text → Members → Option (t.Shape no_payload)
  read_shape s kind (member _ a no_members) =
      beside kind
      ((codes "Tuple", option_map t.Tuple (read_expressions a))
      ∷ (codes "List", option_map t.List (read_expressions a))
      ∷ (codes "Dict", option_map t.Dict (read_pairs a))
      ∷ (codes "Identifier", option_map (λ name. t.Identifier (word_at name s) tt) (read_text a))
      ∷ (codes "Literal", option_map (λ _. t.Constant t.Ellipsis) (read_text a))
      ∷ (codes "Not", option_map t.Not (read_expression a))
      ∷ (codes "Minus", option_map t.Minus (read_expression a))
      ∷ (codes "Plus", option_map t.Plus (read_expression a))
      ∷ (codes "BitNot", option_map t.BitNot (read_expression a))
      ∷ [])
  read_shape s kind (member _ a (member _ b no_members)) =
      beside kind
      ((codes "Dot", of_two t.Dot (read_expression a) (read_word b))
      ∷ (codes "Call", of_two t.Call (read_expression a) (read_arguments b))
      ∷ (codes "Index", of_two t.Index (read_expression a) (read_expression b))
      ∷ (codes "Lambda", of_two (λ ps e. t.Lambda ps e tt) (read_parameters a) (read_expression b))
      ∷ (codes "Literal", option_and_then (λ literal. option_map t.Constant (read_literal s literal b)) (read_text a))
      ∷ (codes "ListComprehension", of_two (λ e cs. t.ListComprehension e cs.0 cs.1) (read_expression a) (read_clauses b))
      ∷ (codes "FString", of_two (t.FString s) (read_word a) (read_expressions b))
      ∷ [])
  read_shape s kind (member _ a (member _ b (member _ c no_members))) =
      beside kind
      ((codes "Index2", of_three t.Index2 (read_expression a) (read_expression b) (read_expression c))
      ∷ (codes "Op", of_three (λ o l r. t.Op l o r) (option_and_then read_operator (read_text a)) (read_expression b) (read_expression c))
      ∷ (codes "If", of_three t.If (read_expression a) (read_expression b) (read_expression c))
      ∷ (codes "DictComprehension", of_three (λ k v cs. t.DictComprehension k v cs.0 cs.1) (read_expression a) (read_expression b) (read_clauses c))
      ∷ [])
  read_shape s kind (member _ a (member _ b (member _ c (member _ d no_members)))) =
      beside kind
      ((
        codes "Slice",
        of_four t.Slice (read_expression a) (or_absent b (read_expression b)) (or_absent c (read_expression c)) (or_absent d (read_expression d)),
      )
      ∷ [])
  read_shape s kind _ = None

  pub read_expressions : Json → Option (t.Expressions no_payload)
  read_expressions (array items) = each_expression items
  read_expressions _ = None

  pub each_expression : Items → Option (t.Expressions no_payload)
  each_expression no_items = Some t.no_expressions
  each_expression (item j js) = of_two t.expressions (read_expression j) (each_expression js)

  pub read_type : Json → Option (t.MaybeType no_payload)
  read_type null = Some t.no_type
  read_type (object (member _ place (member _ e no_members))) = of_two (λ s x. t.typed s x tt) (read_span place) (read_expression e)
  read_type _ = None

  pub read_pairs : Json → Option (t.Pairs no_payload)
  read_pairs (array items) = each_pair items
  read_pairs _ = None

  pub each_pair : Items → Option (t.Pairs no_payload)
  each_pair no_items = Some t.no_pairs
  each_pair (item (array (item k (item v no_items))) js) = of_three t.pairs (read_expression k) (read_expression v) (each_pair js)
  each_pair _ = None

  pub read_argument : Json → Option (t.Argument no_payload)
  read_argument (object (member _ (string kind) (member _ place (member _ a no_members)))) =
      option_and_then
      (λ s.
      beside kind
      ((codes "Positional", option_map (t.Positional s) (read_expression a))
      ∷ (codes "Args", option_map (t.Star s) (read_expression a))
      ∷ (codes "KwArgs", option_map (t.StarStar s) (read_expression a))
      ∷ []))
      (read_span place)
  read_argument (object (member _ _ (member _ place (member _ w (member _ a no_members))))) =
      of_three t.Named (read_span place) (read_word w) (read_expression a)
  read_argument _ = None

  pub read_arguments : Json → Option (t.Arguments no_payload)
  read_arguments (array items) = each_argument items
  read_arguments _ = None

  pub each_argument : Items → Option (t.Arguments no_payload)
  each_argument no_items = Some t.no_arguments
  each_argument (item j js) = of_two t.arguments (read_argument j) (each_argument js)

  pub read_parameter : Json → Option (t.Parameter no_payload)
  read_parameter (object (member _ (string kind) (member _ place no_members))) =
      option_and_then (λ s. beside kind ((codes "Slash", Some (t.Slash s)) ∷ (codes "NoArgs", Some (t.NoArgs s)) ∷ [])) (read_span place)
  read_parameter (object (member _ (string kind) (member _ place (member _ w (member _ ty no_members))))) =
      option_and_then
      (λ s.
      beside kind
      ((codes "Args", of_two (λ name type. t.Args s name tt type) (read_word w) (read_type ty))
      ∷ (codes "KwArgs", of_two (λ name type. t.KwArgs s name tt type) (read_word w) (read_type ty))
      ∷ []))
      (read_span place)
  read_parameter (object (member _ _ (member _ place (member _ w (member _ ty (member _ value no_members)))))) =
      of_four (λ s name type default. t.Normal s name tt type default) (read_span place) (read_word w) (read_type ty) (or_absent value (read_expression value))
  read_parameter _ = None

  pub read_parameters : Json → Option (t.Parameters no_payload)
  read_parameters (array items) = each_parameter items
  read_parameters _ = None

  pub each_parameter : Items → Option (t.Parameters no_payload)
  each_parameter no_items = Some t.no_parameters
  each_parameter (item j js) = of_two t.parameters (read_parameter j) (each_parameter js)

  pub read_for : Json → Option (t.ForIn no_payload)
  read_for (object (member _ _ (member _ x (member _ e no_members)))) = of_two t.for_in (read_target x) (read_expression e)
  read_for _ = None

  -- the first clause, and the others
  pub read_clauses : Json → Option (t.ForIn no_payload × t.Clauses no_payload)
  read_clauses (array (item first rest)) = of_two (λ c cs. (c, cs)) (read_for first) (each_clause rest)
  read_clauses _ = None

  pub read_clause : Json → Option (t.Clause no_payload)
  read_clause (object (member _ _ (member _ e no_members))) = option_map t.if_clause (read_expression e)
  read_clause (object (member _ _ (member _ x (member _ e no_members)))) = option_map t.for_clause (of_two t.for_in (read_target x) (read_expression e))
  read_clause _ = None

  pub each_clause : Items → Option (t.Clauses no_payload)
  each_clause no_items = Some t.no_clauses
  each_clause (item j js) = of_two t.clauses (read_clause j) (each_clause js)

  pub read_target : Json → Option (t.Target no_payload)
  read_target (object (member _ (string kind) (member _ place (member _ a no_members)))) =
      option_and_then
      (λ s.
      beside kind
      ((codes "Tuple", option_map (t.TupleTarget s) (read_targets a))
      ∷ (codes "Identifier", option_map (λ name. t.NameTarget s (word_at name s) tt) (read_text a))
      ∷ []))
      (read_span place)
  read_target (object (member _ (string kind) (member _ place (member _ a (member _ b no_members))))) =
      option_and_then
      (λ s.
      beside kind
      ((codes "Index", of_two (t.IndexTarget s) (read_expression a) (read_expression b))
      ∷ (codes "Dot", of_two (t.DotTarget s) (read_expression a) (read_word b))
      ∷ []))
      (read_span place)
  read_target _ = None

  pub read_targets : Json → Option (t.Targets no_payload)
  read_targets (array items) = each_target items
  read_targets _ = None

  pub each_target : Items → Option (t.Targets no_payload)
  each_target no_items = Some t.no_targets
  each_target (item j js) = of_two t.targets (read_target j) (each_target js)

abbrev pub read_load_arg : Json → Option (t.LoadArg no_payload)
read_load_arg (object (member _ local (member _ their (member _ comma no_members)))) =
    of_three (λ l r c. record { local = l; payload = tt; their = r; comma = c }) (read_word local) (read_word their)
    (or_null None comma (option_map Some (read_span comma)))
read_load_arg _ = None

abbrev pub each_load_arg : Items → Option (Seq (t.LoadArg no_payload))
each_load_arg no_items = Some []
each_load_arg (item j js) = of_two (λ a rest. a ∷ rest) (read_load_arg j) (each_load_arg js)

abbrev pub read_load_args : Json → Option (Seq (t.LoadArg no_payload))
read_load_args (array items) = each_load_arg items
read_load_args _ = None

abbrev mutual
  pub read_statement : Json → Option (t.Statement no_payload)
  read_statement (object (member _ (string kind) (member _ place fields))) = of_two t.statement (read_span place) (read_form kind fields)
  read_statement _ = None

  -- a statement of this kind and with these fields
  pub read_form : Text → Members → Option (t.Form no_payload)
  read_form kind no_members =
      beside kind ((codes "Break", Some t.Break) ∷ (codes "Continue", Some t.Continue) ∷ (codes "Pass", Some t.Pass) ∷ [])
  read_form kind (member _ a no_members) =
      beside kind
      ((codes "Return", option_map t.Return (or_null None a (option_map Some (read_expression a))))
      ∷ (codes "Expression", option_map t.Evaluate (read_expression a))
      ∷ (codes "Statements", option_map t.Block (read_statements a))
      ∷ [])
  read_form kind (member _ a (member _ b no_members)) =
      beside kind
      ((codes "If", of_two t.IfThen (read_expression a) (read_statement b))
      ∷ (codes "Load", of_two (λ path args. t.Load path args tt) (read_word a) (read_load_args b))
      ∷ [])
  read_form kind (member _ a (member _ b (member _ c no_members))) =
      beside kind
      ((codes "Assign", of_three t.Assign (read_target a) (read_type b) (read_expression c))
      ∷ (codes "AssignModify", of_three t.AssignModify (read_target a) (option_and_then read_assign_operator (read_text b)) (read_expression c))
      ∷ (codes "IfElse", of_three t.IfElse (read_expression a) (read_statement b) (read_statement c))
      ∷ (codes "For", of_three t.For (read_target a) (read_expression b) (read_statement c))
      ∷ [])
  read_form kind (member _ a (member _ b (member _ c (member _ d no_members)))) =
      beside kind
      ((codes "Def", of_four (λ name ps type body. t.Def name tt ps type body tt) (read_word a) (read_parameters b) (read_type c) (read_statement d)) ∷ [])
  read_form kind _ = None

  pub read_statements : Json → Option (t.Statements no_payload)
  read_statements (array items) = each_statement items
  read_statements _ = None

  pub each_statement : Items → Option (t.Statements no_payload)
  each_statement no_items = Some t.no_statements
  each_statement (item j js) = of_two t.statements (read_statement j) (each_statement js)

-- the value that a text is, however deep it nests
abbrev pub value_of : Text → Option Json
value_of text = let ts = lex.tokens text in option_and_then (λ p. if_last p.0 p.1) (value (length ts) ts)

-- the expression, or the statement, of which a text is the JSON
abbrev pub expression_of_text : Text → Option (t.Expression no_payload)
expression_of_text text = option_and_then read_expression (value_of text)

abbrev pub statement_of_text : Text → Option (t.Statement no_payload)
statement_of_text text = option_and_then read_statement (value_of text)
