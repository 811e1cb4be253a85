-- Whether an expression is a type does not depend on its spans.
use Rattle.std.proofs.Common.{◌≡◌, Bool, true, false, if◌then◌else◌, Result, Ok, Err, refl, sym, ap, ◌∙◌}
use Rattle.std.specs.Bool.{⊤}
use Rattle.std.specs.Prelude.{is_ok, codes}
use Rattle.std.specs.Str.{bytes_eq}
use Rattle.starlark_lexer.specs.Tokens.{Span, nowhere}
use Rattle.starlark_tree.specs.Ast as t
use Rattle.starlark_tree.specs.Ast.{no_payload, Word, Expression, Expressions, expression_span}
use Rattle.starlark_tree.specs.declared.ast.operator.BinOp.{BinOp}
use Rattle.starlark_tree.specs.declared.ast.operator.BinOp.TheVariants as op
use Rattle.starlark_spec.specs.Faults.{Fault}
use Rattle.starlark_spec.specs.Targets.{map_ok, and_then, both}
use Rattle.starlark_spec.specs.Types as types
use Rattle.starlark_spec.specs.Types.{Form, Path, Reading, Readings, readings_with, reading, readings, argument, all_arguments, dotted, extended_unless_type}
use Rattle.starlark_spec.specs.Types.{member, path, members, append, longer, alone, name}
use Rattle.starlark_source.specs.Unspanned.{unspanned, unspanned_shape, unspanned_all, unspanned_word}

module _ {A B E : Type 0} where
  mapped : {C D : Type 0} (f : A → C) (g : B → D) (r : Result A E) (q : Result B E) → is_ok r ≡ is_ok q → is_ok (map_ok f r) ≡ is_ok (map_ok g q)
  mapped f g (Ok x) (Ok y) h = refl
  mapped f g (Err x) (Err y) h = refl
  mapped f g (Ok x) (Err y) h = absurd (cc)
  mapped f g (Err x) (Ok y) h = absurd (cc)

  chained : {C D : Type 0} (f : A → Result C E) (g : B → Result D E) (r : Result A E) (q : Result B E) → is_ok r ≡ is_ok q
      → ((x : A) (y : B) → is_ok (f x) ≡ is_ok (g y)) → is_ok (and_then r f) ≡ is_ok (and_then q g)
  chained f g (Ok x) (Ok y) h k = k x y
  chained f g (Err x) (Err y) h k = refl
  chained f g (Ok x) (Err y) h k = absurd (cc)
  chained f g (Err x) (Ok y) h k = absurd (cc)

  paired : {C D G H : Type 0} (f : A → C → G) (g : B → D → H) (r : Result A E) (q : Result B E) (s : Result C E) (u : Result D E) → is_ok r ≡ is_ok q
      → is_ok s ≡ is_ok u
      → is_ok (both f r s) ≡ is_ok (both g q u)
  paired f g (Ok x) (Ok y) (Ok z) (Ok w) h k = refl
  paired f g (Ok x) (Ok y) (Err z) (Err w) h k = refl
  paired f g (Ok x) (Ok y) (Ok z) (Err w) h k = absurd (cc)
  paired f g (Ok x) (Ok y) (Err z) (Ok w) h k = absurd (cc)
  paired f g (Err x) (Err y) s u h k = refl
  paired f g (Ok x) (Err y) s u h k = absurd (cc)
  paired f g (Err x) (Ok y) s u h k = absurd (cc)

-- ---- paths

dotted_same : (e : Expression no_payload) → is_ok (dotted (unspanned e)) ≡ is_ok (dotted e)
dotted_same (t.expression s (t.Identifier w p)) = refl
dotted_same (t.expression s (t.Dot e w)) = mapped (λ p. longer p (unspanned_word w)) (λ p. longer p w) (dotted (unspanned e)) (dotted e) (dotted_same e)
dotted_same (t.expression s other) = refl

unless_type_same : (b : Bool) (f g : Fault) (p q : Path no_payload) → is_ok (if b then Err f else Ok p) ≡ is_ok (if b then Err g else Ok q)
unless_type_same true f g p q = refl
unless_type_same false f g p q = refl

member_same : (e : Expression no_payload) (w : Word) → is_ok (member (unspanned e) (unspanned_word w)) ≡ is_ok (member e w)
member_same e w = chained (extended_unless_type (unspanned_word w)) (extended_unless_type w) (dotted (unspanned e)) (dotted e) (dotted_same e)
    (λ p q. unless_type_same (bytes_eq w.text (codes "type")) _ _ (longer p (unspanned_word w)) (longer q w))

path_same : (e : Expression no_payload) → is_ok (path (unspanned e)) ≡ is_ok (path e)
path_same (t.expression s (t.Identifier w p)) = refl
path_same (t.expression s (t.Dot e w)) = member_same e w
path_same (t.expression s other) = refl

-- ---- types

mutual
  pub reading_same : (e : Expression no_payload) → is_ok (reading (unspanned e)) ≡ is_ok (reading e)
  reading_same (t.expression s shape) = mapped (types.reads nowhere) (types.reads s) (types.form nowhere (unspanned_shape shape)) (types.form s shape)
      (form_same s shape)

  form_same : (s : Span) (shape : t.Shape no_payload) → is_ok (types.form nowhere (unspanned_shape shape)) ≡ is_ok (types.form s shape)
  form_same s (t.Identifier w p) = refl
  form_same s (t.Dot e w) = mapped types.PathType types.PathType (member (unspanned e) (unspanned_word w)) (member e w) (member_same e w)
  form_same s (t.Tuple es) = mapped types.Tuple types.Tuple (readings (unspanned_all es)) (readings es) (readings_same es)
  form_same s (t.List t.no_expressions) = refl
  form_same s (t.List (t.expressions e t.no_expressions)) = refl
  form_same s (t.List (t.expressions e (t.expressions f es))) =
      mapped types.Union types.Union (readings (unspanned_all (t.expressions e (t.expressions f es)))) (readings (t.expressions e (t.expressions f es)))
      (readings_same (t.expressions e (t.expressions f es)))
  form_same s (t.Op l op.BitOr r) = mapped types.Union types.Union
      (both append (map_ok (members (unspanned l)) (reading (unspanned l))) (map_ok (members (unspanned r)) (reading (unspanned r))))
      (both append (map_ok (members l) (reading l)) (map_ok (members r) (reading r)))
      (paired append append (map_ok (members (unspanned l)) (reading (unspanned l))) (map_ok (members l) (reading l))
      (map_ok (members (unspanned r)) (reading (unspanned r))) (map_ok (members r) (reading r))
      (mapped (members (unspanned l)) (members l) (reading (unspanned l)) (reading l) (reading_same l))
      (mapped (members (unspanned r)) (members r) (reading (unspanned r)) (reading r) (reading_same r)))
  form_same s (t.Op l other r) = refl
  form_same s (t.Index (t.expression q (t.Identifier w p)) i) =
      mapped (types.Index (name (unspanned_word w) p)) (types.Index (name w p)) (reading (unspanned i)) (reading i) (reading_same i)
  form_same s (t.Index (t.expression q other) i) = refl
  form_same s (t.Index2 a i j) =
      chained (λ p. both (types.Index2 (expression_span (unspanned a)) p) (argument (unspanned i)) (argument (unspanned j)))
      (λ p. both (types.Index2 (expression_span a) p) (argument i) (argument j))
      (path (unspanned a)) (path a) (path_same a)
      (λ p q. paired (types.Index2 (expression_span (unspanned a)) p) (types.Index2 (expression_span a) q) (argument (unspanned i)) (argument i)
      (argument (unspanned j)) (argument j) (argument_same i) (argument_same j))
  form_same s (t.Constant t.Ellipsis) = refl
  form_same s (t.Constant (t.Int r n)) = refl
  form_same s (t.Constant (t.Float w)) = refl
  form_same s (t.Constant (t.String w)) = refl
  form_same s (t.Constant (t.Bytes w)) = refl
  form_same s (t.Call f xs) = refl
  form_same s (t.Slice a i j k) = refl
  form_same s (t.Lambda ps e p) = refl
  form_same s (t.Not e) = refl
  form_same s (t.Minus e) = refl
  form_same s (t.Plus e) = refl
  form_same s (t.BitNot e) = refl
  form_same s (t.If c a b) = refl
  form_same s (t.Dict ps) = refl
  form_same s (t.ListComprehension e x cs) = refl
  form_same s (t.DictComprehension k v x cs) = refl
  form_same s (t.FString r w es) = refl

  readings_same : (es : Expressions no_payload) → is_ok (readings (unspanned_all es)) ≡ is_ok (readings es)
  readings_same t.no_expressions = refl
  readings_same (t.expressions e es) = paired readings_with readings_with (reading (unspanned e)) (reading e) (readings (unspanned_all es)) (readings es)
      (reading_same e) (readings_same es)

  argument_same : (e : Expression no_payload) → is_ok (argument (unspanned e)) ≡ is_ok (argument e)
  argument_same (t.expression s (t.List es)) =
      mapped (λ rs. types.reads nowhere (types.List rs)) (λ rs. types.reads s (types.List rs)) (all_arguments (unspanned_all es)) (all_arguments es)
      (arguments_same es)
  argument_same (t.expression s other) = mapped (types.reads nowhere) (types.reads s) (types.form nowhere (unspanned_shape other)) (types.form s other)
      (form_same s other)

  arguments_same : (es : Expressions no_payload) → is_ok (all_arguments (unspanned_all es)) ≡ is_ok (all_arguments es)
  arguments_same t.no_expressions = refl
  arguments_same (t.expressions e es) = paired readings_with readings_with (argument (unspanned e)) (argument e) (all_arguments (unspanned_all es))
      (all_arguments es) (argument_same e) (arguments_same es)
