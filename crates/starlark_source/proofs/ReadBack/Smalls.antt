-- Small statements are read back, alone and several in a line.
use Rattle.std.proofs.Common.{◌≡◌, ℕ, List as Seq, [], ◌∷◌, ◌++◌, map, flat_map, true, Some, None, Result, Ok, Err, refl, sym, ap, ◌∙◌, subst, append_assoc}
use Rattle.std.proofs.Common.{append-nil}
use Rattle.std.proofs.lemmas.List.{map-append}
use Rattle.std.specs.Prelude.{is_ok}
use Rattle.starlark_lexer.specs.Tokens.{Span, nowhere}
use Rattle.starlark_tree.specs.Ast as t
use Rattle.starlark_tree.specs.Ast.{no_payload, Expression, Target, MaybeType, Form, Statement, statement, Statements, statement_list, statements_of}
use Rattle.starlark_tree.specs.declared.ast.operator.AssignOp.{AssignOp}
use Rattle.starlark_tree.specs.declared.ast.operator.AssignOp.TheVariants as assign
use Rattle.starlark_spec.specs.Faults.{Fault}
use Rattle.starlark_spec.specs.Targets.{map_ok, and_then, target, parts}
use Rattle.starlark_spec.specs.Assignments.{assigned, assigned_target, refuse_annotation}
use Rattle.starlark_spec.specs.Grammar.{AssignSign, assign_token}
use Rattle.starlark_spec.specs.Grammar.AssignSign.{equal_sign, plus_equal, minus_equal, star_equal, slash_equal, slash_slash_equal, percent_equal}
use Rattle.starlark_spec.specs.Grammar.AssignSign.{ampersand_equal, pipe_equal, caret_equal, less_less_equal, greater_greater_equal}
use Rattle.starlark_spec.specs.Grammar.Nonterminal.{Small, Smalls, Stmt}
use Rattle.starlark_spec.specs.Grammar.Derivation.{small_return, small_return_value, small_break, small_continue, small_pass, small_test, small_assign}
use Rattle.starlark_spec.specs.Grammar.Derivation.{annotation_none, smalls_one, smalls_more, simple_line, stmt_simple}
use Rattle.starlark_spec.specs.Trees.{tree, target_of, one_or_block}
use Rattle.starlark_spec.specs.Trees as trees
use Rattle.starlark_source.specs.Pieces.{Pieces, between}
use Rattle.starlark_source.specs.Source.{colon, test_list, target_source, maybe_type_source}
use Rattle.starlark_source.specs.Lines.{assign_operator, target_type, modified, small, small_source, small_sources, semicolon, small_line, line}
use Rattle.starlark_source.specs.Unspanned.{unspanned_form, unspanned_statement, unspanned_statements, unspanned_target, unspanned_type}
use Rattle.starlark_source.proofs.ReadBack.Writing.{Sayable, split, Reads, one, followed, after, spaced, after_sign, with_mark, none_written, as_pieces}
use Rattle.starlark_source.proofs.ReadBack.Writing.{reads_as, aimed}
use Rattle.starlark_source.proofs.ReadBack.Productions.{aims_at}
use Rattle.starlark_source.proofs.ReadBack.Expressions.{test_read}
use Rattle.starlark_source.proofs.ReadBack.Heads.{annotation_read, target_list_read, test_list_read}
use Rattle.starlark_source.proofs.ReadBack.Loads.{load_read}

-- pieces are read as a small statement
abbrev SaysSmall : Pieces → Statement no_payload → Type 0
SaysSmall ps m = Reads Small (λ v. unspanned_statement v) ps m

-- ---- several statements without spans

abbrev pub all_unspanned : Seq (Statement no_payload) → Seq (Statement no_payload)
all_unspanned ss = map (λ s. unspanned_statement s) ss

-- pieces are read as small statements in a line
abbrev SaysSmalls : Pieces → Seq (Statement no_payload) → Type 0
SaysSmalls ps ms = Reads Smalls all_unspanned ps ms

-- pieces are read as a statement with its lines
abbrev pub Says : Pieces → Statement no_payload → Type 0
Says ps m = Reads Stmt (λ v. unspanned_statement v) ps m

pub seen_each : (ss : Seq (Statement no_payload)) → unspanned_statements (statements_of ss) ≡ statements_of (all_unspanned ss)
seen_each [] = refl
seen_each (s ∷ ss) = ap (λ l. t.statements (unspanned_statement s) l) (seen_each ss)

pub listed_each : (ss : Statements no_payload) → statements_of (all_unspanned (statement_list ss)) ≡ unspanned_statements ss
listed_each t.no_statements = refl
listed_each (t.statements s ss) = ap (λ l. t.statements (unspanned_statement s) l) (listed_each ss)

pub one_or_all : (span : Span) (ss : Seq (Statement no_payload)) → unspanned_statement (one_or_block span ss) ≡ one_or_block nowhere (all_unspanned ss)
one_or_all span [] = refl
one_or_all span (s ∷ []) = refl
one_or_all span (s ∷ r ∷ ss) = ap (λ l. statement nowhere (t.Block l)) (seen_each (s ∷ r ∷ ss))

-- ---- assignments

abbrev sign_of : AssignOp → AssignSign
sign_of assign.Add = plus_equal
sign_of assign.Subtract = minus_equal
sign_of assign.Multiply = star_equal
sign_of assign.Divide = slash_equal
sign_of assign.FloorDivide = slash_slash_equal
sign_of assign.Percent = percent_equal
sign_of assign.BitAnd = ampersand_equal
sign_of assign.BitOr = pipe_equal
sign_of assign.BitXor = caret_equal
sign_of assign.LeftShift = less_less_equal
sign_of assign.RightShift = greater_greater_equal

sign_written : (o : AssignOp) → between (assign_token (sign_of o)) ≡ assign_operator o
sign_written assign.Add = refl
sign_written assign.Subtract = refl
sign_written assign.Multiply = refl
sign_written assign.Divide = refl
sign_written assign.FloorDivide = refl
sign_written assign.Percent = refl
sign_written assign.BitAnd = refl
sign_written assign.BitOr = refl
sign_written assign.BitXor = refl
sign_written assign.LeftShift = refl
sign_written assign.RightShift = refl

sign_means : (o : AssignOp) → trees.assign_operator (sign_of o) ≡ Some o
sign_means assign.Add = refl
sign_means assign.Subtract = refl
sign_means assign.Multiply = refl
sign_means assign.Divide = refl
sign_means assign.FloorDivide = refl
sign_means assign.Percent = refl
sign_means assign.BitAnd = refl
sign_means assign.BitOr = refl
sign_means assign.BitXor = refl
sign_means assign.LeftShift = refl
sign_means assign.RightShift = refl

type_written : (x : Target no_payload) (ty : MaybeType no_payload) → Sayable (target_type x ty) → maybe_type_source colon ty ≡ target_type x ty
type_written x t.no_type h = refl
type_written (t.TupleTarget s xs) (t.typed r e p) h = absurd h
type_written (t.IndexTarget s a i) (t.typed r e p) h = refl
type_written (t.DotTarget s a w) (t.typed r e p) h = refl
type_written (t.NameTarget s w q) (t.typed r e p) h = refl

target_written : (x : Target no_payload) → Sayable (modified x) → target_source true x ≡ modified x
target_written (t.TupleTarget s xs) h = absurd h
target_written (t.IndexTarget s a i) h = refl
target_written (t.DotTarget s a w) h = refl
target_written (t.NameTarget s w q) h = refl

-- ---- the target of an assignment keeps the rules

types_well : (r : Result (Target no_payload) Fault) (ty : MaybeType no_payload) (x : Target no_payload) (as_written : MaybeType no_payload)
    → aimed r ≡ Ok (unspanned_target x) → unspanned_type ty ≡ unspanned_type as_written → Sayable (target_type x as_written)
    → is_ok (and_then r (λ y. refuse_annotation y ty None)) ≡ true
types_well (Err f) ty x as_written is same h = absurd (cc)
types_well (Ok y) t.no_type x as_written is same h = refl
types_well (Ok y) (t.typed s e p) x t.no_type is same h = absurd (cc)
types_well (Ok (t.TupleTarget r ys)) (t.typed s e p) (t.TupleTarget q xs) (t.typed s' e' p') is same h = absurd h
types_well (Ok (t.TupleTarget r ys)) (t.typed s e p) (t.IndexTarget q a i) (t.typed s' e' p') is same h = absurd (cc)
types_well (Ok (t.TupleTarget r ys)) (t.typed s e p) (t.DotTarget q a w) (t.typed s' e' p') is same h = absurd (cc)
types_well (Ok (t.TupleTarget r ys)) (t.typed s e p) (t.NameTarget q w n) (t.typed s' e' p') is same h = absurd (cc)
types_well (Ok (t.IndexTarget r a i)) (t.typed s e p) x as_written is same h = refl
types_well (Ok (t.DotTarget r a w)) (t.typed s e p) x as_written is same h = refl
types_well (Ok (t.NameTarget r w n)) (t.typed s e p) x as_written is same h = refl

assigns_well : (e : Expression no_payload) (ty : MaybeType no_payload) (x : Target no_payload) (as_written : MaybeType no_payload)
    → aimed (target e) ≡ Ok (unspanned_target x) → unspanned_type ty ≡ unspanned_type as_written → Sayable (target_type x as_written)
    → is_ok (assigned_target e ty None) ≡ true
assigns_well (t.expression s shape) ty x as_written is same h = types_well (target (t.expression s shape)) ty x as_written is same h

-- what is modified is not a tuple
no_tuple : (s : Span) (r : Result (t.Targets no_payload) Fault) (x : Target no_payload) → aimed (map_ok (t.TupleTarget s) r) ≡ Ok (unspanned_target x)
    → Sayable (modified x) → ⊥
no_tuple s (Err f) x is h = absurd (cc)
no_tuple s (Ok ys) (t.TupleTarget r xs) is h = absurd h
no_tuple s (Ok ys) (t.IndexTarget r a i) is h = absurd (cc)
no_tuple s (Ok ys) (t.DotTarget r a w) is h = absurd (cc)
no_tuple s (Ok ys) (t.NameTarget r w n) is h = absurd (cc)

modifies_well : (e : Expression no_payload) (o : AssignOp) (x : Target no_payload) → aimed (target e) ≡ Ok (unspanned_target x) → Sayable (modified x)
    → is_ok (assigned_target e t.no_type (Some o)) ≡ true
modifies_well (t.expression s (t.Tuple es)) o x is h = absurd (no_tuple s (parts es) x is h)
modifies_well (t.expression s (t.List es)) o x is h = absurd (no_tuple s (parts es) x is h)
modifies_well (t.expression s (t.Dot e w)) o x is h = refl
modifies_well (t.expression s (t.Index a i)) o x is h = refl
modifies_well (t.expression s (t.Identifier w p)) o x is h = refl
modifies_well (t.expression s other) o x is h = absurd (cc)

assign_read : (s : Span) (x : Target no_payload) (ty : MaybeType no_payload) (e : Expression no_payload) → Sayable (small s (t.Assign x ty e))
    → SaysSmall (small s (t.Assign x ty e)) (statement nowhere (unspanned_form (t.Assign x ty e)))
assign_read s x ty e h =
    let parts = split (target_source true x) _ h in
    let rest = split (target_type x ty) _ parts.1 in
    let left = target_list_read x parts.0 in
    let same = type_written x ty rest.0 in
    let note = annotation_read ty (subst (λ ps. Sayable ps) (sym same) rest.0) in
    let value = test_list_read e rest.1 in
    record {
      derivation = small_assign left.derivation note.derivation equal_sign nowhere value.derivation;
      writes = with_mark (assigns_well (tree left.derivation) (tree note.derivation) x ty left.looks note.looks rest.0)
          (followed left.writes (followed (as_pieces same note.writes) (after_sign value.writes)));
      looks = λ i. statement nowhere (t.Assign (aims_at (target (tree left.derivation)) left.looks i) (note.looks i) (value.looks i));
    }

modify_read : (s : Span) (x : Target no_payload) (o : AssignOp) (e : Expression no_payload) → Sayable (small s (t.AssignModify x o e))
    → SaysSmall (small s (t.AssignModify x o e)) (statement nowhere (unspanned_form (t.AssignModify x o e)))
modify_read s x o e h =
    let parts = split (modified x) _ h in
    let rest = split (assign_operator o) _ parts.1 in
    let same = target_written x parts.0 in
    let left = target_list_read x (subst (λ ps. Sayable ps) (sym same) parts.0) in
    let value = test_list_read e rest.1 in
    let sign = as_pieces (ap (λ ps. ps ++ test_list e) (sign_written o)) (after_sign value.writes) in
    record {
      derivation = small_assign left.derivation annotation_none (sign_of o) nowhere value.derivation;
      writes = with_mark (ap (λ op. is_ok (assigned_target (tree left.derivation) t.no_type op)) (sign_means o)
          ∙ modifies_well (tree left.derivation) o x left.looks parts.0)
          (followed (as_pieces same left.writes) (followed none_written sign));
      looks = ap (λ op. statement nowhere (unspanned_form (assigned t.no_type op (tree value.derivation) (target_of (tree left.derivation))))) (sign_means o)
          ∙ (λ i. statement nowhere (t.AssignModify (aims_at (target (tree left.derivation)) left.looks i) o (value.looks i)));
    }

pub small_read : (s : Span) (form : Form no_payload) → Sayable (small s form)
    → SaysSmall (small s form) (statement nowhere (unspanned_form form))
small_read s t.Break h = record { derivation = small_break nowhere; writes = one; looks = refl }
small_read s t.Continue h = record { derivation = small_continue nowhere; writes = one; looks = refl }
small_read s t.Pass h = record { derivation = small_pass nowhere; writes = one; looks = refl }
small_read s (t.Return None) h = record { derivation = small_return nowhere; writes = one; looks = refl }
small_read s (t.Return (Some e)) h =
    let value = test_list_read e h in
    record {
      derivation = small_return_value nowhere value.derivation;
      writes = after (spaced 1 value.writes);
      looks = λ i. statement nowhere (t.Return (Some (value.looks i)));
    }
small_read s (t.Evaluate e) h =
    let value = test_read e h in
    record { derivation = small_test value.derivation; writes = value.writes; looks = λ i. statement nowhere (t.Evaluate (value.looks i)) }
small_read s (t.Assign x ty e) h = assign_read s x ty e h
small_read s (t.AssignModify x o e) h = modify_read s x o e h
small_read s (t.Load file args p) h = load_read s file args h
small_read s _ h = absurd h

small_source_read : (m : Statement no_payload) → Sayable (small_source m) → SaysSmall (small_source m) (unspanned_statement m)
small_source_read (statement s form) h = small_read s form h

first_small : {ps : Pieces} {x : Statement no_payload} → SaysSmall ps x → SaysSmalls ps (x ∷ [])
first_small a = record { derivation = smalls_one a.derivation; writes = a.writes; looks = ap (λ y. y ∷ []) a.looks }

next_small : {ps qs : Pieces} {xs : Seq (Statement no_payload)} {y : Statement no_payload} → SaysSmalls ps xs
    → SaysSmall qs y → SaysSmalls (ps ++ (semicolon ++ qs)) (xs ++ y ∷ [])
next_small {xs = xs} l a = record {
  derivation = smalls_more l.derivation nowhere a.derivation;
  writes = followed l.writes (after (spaced 1 a.writes));
  looks = map-append (λ v. unspanned_statement v) (tree l.derivation) (tree a.derivation ∷ []) ∙ (λ i. l.looks i ++ a.looks i ∷ []);
}

more_smalls : (ss : Statements no_payload) {ps : Pieces} {xs : Seq (Statement no_payload)} → SaysSmalls ps xs
    → Sayable (flat_map (λ q. semicolon ++ q) (small_sources ss))
    → SaysSmalls (ps ++ flat_map (λ q. semicolon ++ q) (small_sources ss)) (xs ++ all_unspanned (statement_list ss))
more_smalls t.no_statements {ps = ps} {xs = xs} l h = reads_as (sym (append-nil ps)) (sym (append-nil xs)) l
more_smalls (t.statements s ss) {ps = ps} {xs = xs} l h =
    let rest = flat_map (λ q. semicolon ++ q) (small_sources ss) in
    let parts = split (semicolon ++ small_source s) rest h in
    reads_as (append_assoc ps (semicolon ++ small_source s) rest) (append_assoc xs (unspanned_statement s ∷ []) (all_unspanned (statement_list ss)))
    (more_smalls ss (next_small l (small_source_read s parts.0)) parts.1)

-- a small statement in a line of its own
pub one_line : (depth : ℕ) (s : Span) (form : Form no_payload) → Sayable (line depth (small s form))
    → Says (line depth (small s form)) (statement nowhere (unspanned_form form))
one_line depth s form h =
    let a = small_read s form (split (small s form) _ h).0 in
    record { derivation = stmt_simple (simple_line (smalls_one a.derivation) nowhere); writes = spaced _ (followed a.writes one); looks = a.looks }

-- several in a line
pub line_of : (depth : ℕ) (s : Span) (ss : Statements no_payload) → Sayable (line depth (small_line s ss))
    → Says (line depth (small_line s ss)) (statement nowhere (t.Block (unspanned_statements ss)))
line_of depth s t.no_statements h = absurd h
line_of depth s (t.statements a t.no_statements) h = absurd h
line_of depth s (t.statements a (t.statements b ss)) h =
    let all = split (small_line s (t.statements a (t.statements b ss))) _ h in
    let parts = split (small_source a) _ all.0 in
    let l = more_smalls (t.statements b ss) (first_small (small_source_read a parts.0)) parts.1 in
    record {
      derivation = stmt_simple (simple_line l.derivation nowhere);
      writes = spaced _ (followed l.writes one);
      looks = one_or_all _ (tree l.derivation) ∙ ap (one_or_block nowhere) l.looks
          ∙ ap (λ l. statement nowhere (t.Block l)) (listed_each (t.statements a (t.statements b ss)));
    }
