-- Targets, as expressions that are targets; and tuples where lists are allowed.
use Rattle.std.proofs.Common.{◌≡◌, List as Seq, [], ◌∷◌, false, Result, Ok, Err, refl, sym, ap, ap₂, ◌∙◌}
use Rattle.starlark_lexer.specs.Tokens.{Span, nowhere}
use Rattle.starlark_tree.specs.Ast as t
use Rattle.starlark_tree.specs.Ast.{no_payload, Expression, Expressions, Target, Targets, expressions_of, expression_list}
use Rattle.starlark_spec.specs.Faults.{Fault}
use Rattle.starlark_spec.specs.Targets.{map_ok, both, target, parts}
use Rattle.starlark_spec.specs.Grammar.Nonterminal.{Test, TestList, Primary, LoopVars}
use Rattle.starlark_spec.specs.Grammar.ElementOf.{of_elements, of_variables}
use Rattle.starlark_spec.specs.Grammar.Derivation.{comma_list_one, vars_plain, list_plain}
use Rattle.starlark_spec.specs.Trees.{tree}
use Rattle.starlark_source.specs.declared.level.Level.{Level}
use Rattle.starlark_source.specs.declared.level.Level.TheVariants as level
use Rattle.starlark_source.specs.Levels.{is_looser}
use Rattle.starlark_source.specs.Pieces.{Pieces, bare}
use Rattle.starlark_source.specs.Unspanned.{unspanned, unspanned_all, unspanned_target, unspanned_targets}
use Rattle.starlark_source.proofs.ReadBack.Writing.{Sayable, Reads, aimed}
use Rattle.starlark_source.proofs.ReadBack.Listing.{Offers, comma_list}
use Rattle.starlark_source.proofs.ReadBack.Levels.{At, nonterminal_of, seen_at, at_looser}
use Rattle.starlark_source.proofs.ReadBack.Productions.{plain, many_are_tuple, tuple_read}

-- ---- targets

abbrev mutual
  pub as_expression : Target no_payload → Expression no_payload
  as_expression (t.TupleTarget s xs) = plain (t.Tuple (as_expressions xs))
  as_expression (t.IndexTarget s a i) = plain (t.Index a i)
  as_expression (t.DotTarget s e w) = plain (t.Dot e w)
  as_expression (t.NameTarget s w p) = plain (t.Identifier w tt)

  pub as_expressions : Targets no_payload → Expressions no_payload
  as_expressions t.no_targets = t.no_expressions
  as_expressions (t.targets x xs) = t.expressions (as_expression x) (as_expressions xs)

mutual
  is_target : (x : Target no_payload) → target (as_expression (unspanned_target x)) ≡ Ok (unspanned_target x)
  is_target (t.TupleTarget s xs) = ap (map_ok (t.TupleTarget nowhere)) (are_targets xs)
  is_target (t.IndexTarget s a i) = refl
  is_target (t.DotTarget s e w) = refl
  is_target (t.NameTarget s w p) = refl

  are_targets : (xs : Targets no_payload) → parts (as_expressions (unspanned_targets xs)) ≡ Ok (unspanned_targets xs)
  are_targets t.no_targets = refl
  are_targets (t.targets x xs) = ap₂ (both t.targets) (is_target x) (are_targets xs)

-- a fault without its span
abbrev pub unplaced : {A : Type 0} → Result A Fault → Result A Fault
unplaced (Ok x) = Ok x
unplaced (Err f) = Err (record { rule = f.rule; span = nowhere })

tuple_unplaced : (s : Span) (r : Result (Targets no_payload) Fault)
    → map_ok (t.TupleTarget nowhere) (unplaced (map_ok (λ xs. unspanned_targets xs) r))
    ≡ unplaced (map_ok (λ x. unspanned_target x) (map_ok (t.TupleTarget s) r))
tuple_unplaced s (Ok xs) = refl
tuple_unplaced s (Err f) = refl

both_unplaced : (r : Result (Target no_payload) Fault) (q : Result (Targets no_payload) Fault)
    → both t.targets (unplaced (map_ok (λ x. unspanned_target x) r)) (unplaced (map_ok (λ xs. unspanned_targets xs) q))
    ≡ unplaced (map_ok (λ xs. unspanned_targets xs) (both t.targets r q))
both_unplaced (Ok x) (Ok xs) = refl
both_unplaced (Ok x) (Err f) = refl
both_unplaced (Err f) q = refl

mutual
  pub target_unspanned : (e : Expression no_payload) → target (unspanned e) ≡ unplaced (map_ok (λ x. unspanned_target x) (target e))
  target_unspanned (t.expression s (t.Tuple es)) = ap (map_ok (t.TupleTarget nowhere)) (parts_unspanned es) ∙ tuple_unplaced s (parts es)
  target_unspanned (t.expression s (t.List es)) = ap (map_ok (t.TupleTarget nowhere)) (parts_unspanned es) ∙ tuple_unplaced s (parts es)
  target_unspanned (t.expression s other) = refl

  parts_unspanned : (es : Expressions no_payload) → parts (unspanned_all es) ≡ unplaced (map_ok (λ xs. unspanned_targets xs) (parts es))
  parts_unspanned t.no_expressions = refl
  parts_unspanned (t.expressions e es) = ap₂ (both t.targets) (target_unspanned e) (parts_unspanned es) ∙ both_unplaced (target e) (parts es)

target_if_ok : (r : Result (Target no_payload) Fault) (y : Target no_payload) → unplaced (map_ok (λ x. unspanned_target x) r) ≡ Ok y → aimed r ≡ Ok y
target_if_ok (Ok x) y is = is
target_if_ok (Err f) y is = absurd (cc)

-- an expression that is seen as a target is that target
pub target_seen : (e : Expression no_payload) (x : Target no_payload) → unspanned e ≡ as_expression (unspanned_target x)
    → aimed (target e) ≡ Ok (unspanned_target x)
target_seen e x is = target_if_ok (target e) (unspanned_target x) (sym (target_unspanned e) ∙ ap target is ∙ is_target x)

-- ---- where lists are allowed

pub expressions_back : (es : Expressions no_payload) → expressions_of (expression_list es) ≡ es
expressions_back t.no_expressions = refl
expressions_back (t.expressions e es) = ap (t.expressions e) (expressions_back es)

offers_looser : (k : Level) → is_looser level.Primary k ≡ false → (ps : Seq Pieces) (es : Seq (Expression no_payload))
    → Offers Primary (λ v. unspanned v) ps es
    → Offers (nonterminal_of k) (λ v. seen_at k v) ps es
offers_looser k is [] [] o = tt
offers_looser k is [] (e ∷ es) o = absurd o
offers_looser k is (p ∷ ps) [] o = absurd o
offers_looser k is (p ∷ ps) (e ∷ es) o = (λ h. at_looser level.Primary k is (o.0 h), offers_looser k is ps es o.1)

pub test_list_of_one : {ps : Pieces} {e : Expression no_payload} → At level.Test ps e → Reads TestList (λ v. unspanned v) ps e
test_list_of_one r = record { derivation = list_plain (comma_list_one of_elements r.derivation); writes = r.writes; looks = r.looks }

vars_of_one : {ps : Pieces} {e : Expression no_payload} → At level.BitOr ps e → Reads LoopVars (λ v. unspanned v) ps e
vars_of_one r = record { derivation = vars_plain (comma_list_one of_variables r.derivation); writes = r.writes; looks = r.looks }

pub test_list_of_tuple : (ps : Seq Pieces) (es : Seq (Expression no_payload)) → Offers Test (λ v. unspanned v) ps es → Sayable (bare ps)
    → Reads TestList (λ v. unspanned v) (bare ps) (plain (t.Tuple (expressions_of es)))
test_list_of_tuple [] es o h = test_list_of_one (at_looser level.Primary level.Test refl (tuple_read [] es o h))
test_list_of_tuple (p ∷ []) es o h = test_list_of_one (at_looser level.Primary level.Test refl (tuple_read (p ∷ []) es o h))
test_list_of_tuple (p ∷ q ∷ ps) [] o h = absurd o
test_list_of_tuple (p ∷ q ∷ ps) (e ∷ []) o h = absurd o.1
test_list_of_tuple (p ∷ q ∷ ps) (e ∷ f ∷ es) o h =
    let l = comma_list of_elements (λ v. unspanned v) p (q ∷ ps) e (f ∷ es) o h in record {
      derivation = list_plain l.derivation;
      writes = l.writes;
      looks = many_are_tuple _ (tree l.derivation) e f es l.looks;
    }

pub vars_of_tuple : (ps : Seq Pieces) (es : Seq (Expression no_payload)) → Offers Primary (λ v. unspanned v) ps es → Sayable (bare ps)
    → Reads LoopVars (λ v. unspanned v) (bare ps) (plain (t.Tuple (expressions_of es)))
vars_of_tuple [] es o h = vars_of_one (at_looser level.Primary level.BitOr refl (tuple_read [] es (offers_looser level.Test refl [] es o) h))
vars_of_tuple (p ∷ []) es o h = vars_of_one (at_looser level.Primary level.BitOr refl
    (tuple_read (p ∷ []) es (offers_looser level.Test refl (p ∷ []) es o) h))
vars_of_tuple (p ∷ q ∷ ps) [] o h = absurd o
vars_of_tuple (p ∷ q ∷ ps) (e ∷ []) o h = absurd o.1
vars_of_tuple (p ∷ q ∷ ps) (e ∷ f ∷ es) o h =
    let l = comma_list of_variables (λ v. unspanned v) p (q ∷ ps) e (f ∷ es) (offers_looser level.BitOr refl (p ∷ q ∷ ps) (e ∷ f ∷ es) o) h in record {
      derivation = vars_plain l.derivation;
      writes = l.writes;
      looks = many_are_tuple _ (tree l.derivation) e f es l.looks;
    }

pub tuple_of_primaries : (ps : Seq Pieces) (es : Seq (Expression no_payload)) → Offers Primary (λ v. unspanned v) ps es → Offers Test (λ v. unspanned v) ps es
tuple_of_primaries ps es o = offers_looser level.Test refl ps es o

pub vars_alone : {ps : Pieces} {e : Expression no_payload} → At level.Primary ps e → Reads LoopVars (λ v. unspanned v) ps e
vars_alone r = vars_of_one (at_looser level.Primary level.BitOr refl r)
