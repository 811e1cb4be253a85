-- The source of a module without its spans is that of the module, so modules that are equal apart from spans have the same source.
use Rattle.std.proofs.Common.{◌≡◌, ℕ, ◌+◌, List as Seq, [], ◌∷◌, ◌++◌, map, flat_map, replicate, Bool, true, false, Some, None, Result, Ok, Err, refl, sym}
use Rattle.std.proofs.Common.{ap, ◌∙◌}
use Rattle.std.specs.Str.{bytes_eq}
use Rattle.starlark_lexer.specs.Tokens.{Text, Span, String, nowhere}
use Rattle.starlark_lexer.specs.Tokens as tokens
use Rattle.starlark_tree.specs.Ast as t
use Rattle.starlark_tree.specs.Ast.{no_payload, Expression, Form, Statement, Word}
use Rattle.starlark_tree.specs.declared.ast.operator.AssignOp.{AssignOp}
use Rattle.starlark_tree.specs.declared.ast.operator.AssignOp.TheVariants as assign
use Rattle.starlark_source.specs.Pieces.{Pieces, token, text_byte, blank, unsayable, escaped_in_format, joined, said, spelled, separated, comma, listed}
use Rattle.starlark_source.specs.Pieces.{in_round, between}
use Rattle.starlark_source.specs.Literals.{name}
use Rattle.starlark_source.specs.Source.{colon, test, tests, maybe_source, maybe_type_source, target_source, test_list, parameter_source, parameter_sources}
use Rattle.starlark_source.specs.Lines.{Place, as_line, as_block, as_rest, if_word, assign_operator, target_type, modified, load_arg, load_args, load, small}
use Rattle.starlark_source.specs.Lines.{small_source, small_sources, semicolon, small_line, line, margin, tested, looped, defined, several_lines, suite}
use Rattle.starlark_source.specs.Lines.{at_place, several, lines, form_lines, block, all_lines, module_form, module_source, source_of}
use Rattle.starlark_source.specs.Unspanned.{unspanned_word, unspanned, unspanned_all, unspanned_type, unspanned_parameters, unspanned_parameter}
use Rattle.starlark_source.specs.Unspanned.{unspanned_target, unspanned_load, unspanned_value, unspanned_statement, unspanned_form, unspanned_statements}
use Rattle.starlark_source.proofs.Sources.UnspannedExpressions.{placeless, bare_pieces, each_bare, both, flat_bare, separated_bare, listed_as, in_round_as}
use Rattle.starlark_source.proofs.Sources.UnspannedExpressions.{tupled_as, name_bare, test_bare, tests_bare, maybe_bare, type_bare, target_bare}

-- ---- parts of statements

parameter_bare : (p : t.Parameter no_payload) → parameter_source (unspanned_parameter p) ≡ bare_pieces (parameter_source p)
parameter_bare (t.Slash s) = refl
parameter_bare (t.Normal s w p ty value) =
    both (name w) (maybe_type_source colon ty ++ maybe_source (between tokens.Equal) value) (name_bare w)
    (both (maybe_type_source colon ty) (maybe_source (between tokens.Equal) value) (type_bare colon refl ty) (maybe_bare (between tokens.Equal) refl value))
parameter_bare (t.NoArgs s) = refl
parameter_bare (t.Args s w p ty) = ap (λ ps. token tokens.Star ∷ ps) (both (name w) (maybe_type_source colon ty) (name_bare w) (type_bare colon refl ty))
parameter_bare (t.KwArgs s w p ty) = ap (λ ps. token tokens.StarStar ∷ ps) (both (name w) (maybe_type_source colon ty) (name_bare w) (type_bare colon refl ty))

parameters_bare : (ps : t.Parameters no_payload) → parameter_sources (unspanned_parameters ps) ≡ each_bare (parameter_sources ps)
parameters_bare t.no_parameters = refl
parameters_bare (t.parameters p ps) = λ i. parameter_bare p i ∷ parameters_bare ps i

list_bare : (e : Expression no_payload) → test_list (unspanned e) ≡ bare_pieces (test_list e)
list_bare (t.expression s (t.Tuple es)) = tupled_as true (tests es) (tests_bare es)
list_bare (t.expression s other) = test_bare (t.expression s other)

target_type_bare : (x : t.Target no_payload) (ty : t.MaybeType no_payload) → target_type (unspanned_target x) (unspanned_type ty)
    ≡ bare_pieces (target_type x ty)
target_type_bare x t.no_type = refl
target_type_bare (t.TupleTarget s xs) (t.typed r e p) = refl
target_type_bare (t.IndexTarget s a i) (t.typed r e p) = ap (λ ps. colon ++ ps) (test_bare e)
target_type_bare (t.DotTarget s a w) (t.typed r e p) = ap (λ ps. colon ++ ps) (test_bare e)
target_type_bare (t.NameTarget s w q) (t.typed r e p) = ap (λ ps. colon ++ ps) (test_bare e)

modified_bare : (x : t.Target no_payload) → modified (unspanned_target x) ≡ bare_pieces (modified x)
modified_bare (t.TupleTarget s xs) = refl
modified_bare (t.IndexTarget s a i) = target_bare true (t.IndexTarget s a i)
modified_bare (t.DotTarget s e w) = target_bare true (t.DotTarget s e w)
modified_bare (t.NameTarget s w p) = target_bare true (t.NameTarget s w p)

operator_bare : (o : AssignOp) → bare_pieces (assign_operator o) ≡ assign_operator o
operator_bare assign.Add = refl
operator_bare assign.Subtract = refl
operator_bare assign.Multiply = refl
operator_bare assign.Divide = refl
operator_bare assign.FloorDivide = refl
operator_bare assign.Percent = refl
operator_bare assign.BitAnd = refl
operator_bare assign.BitOr = refl
operator_bare assign.BitXor = refl
operator_bare assign.LeftShift = refl
operator_bare assign.RightShift = refl

load_arg_if : (a : t.LoadArg no_payload) (same : Bool) → bytes_eq a.local.text a.their.text ≡ same → load_arg (unspanned_load a) ≡ bare_pieces (load_arg a)
load_arg_if a true is = rw is refl
load_arg_if a false is = rw is (both (name a.local) (between tokens.Equal ++ token (String a.their.text) ∷ []) (name_bare a.local) refl)

load_arg_bare : (a : t.LoadArg no_payload) → load_arg (unspanned_load a) ≡ bare_pieces (load_arg a)
load_arg_bare a = load_arg_if a (bytes_eq a.local.text a.their.text) refl

load_args_bare : (args : Seq (t.LoadArg no_payload)) → load_args (map (λ a. unspanned_load a) args) ≡ bare_pieces (load_args args)
load_args_bare [] = refl
load_args_bare (a ∷ args) = both (comma ++ load_arg a) (load_args args) (ap (λ ps. comma ++ ps) (load_arg_bare a)) (load_args_bare args)

load_bare : (s : Span) (file : Word) (args : Seq (t.LoadArg no_payload)) → load nowhere (unspanned_word file) (map (λ a. unspanned_load a) args)
    ≡ bare_pieces (load s file args)
load_bare s file [] = refl
load_bare s file (a ∷ args) =
    ap (λ ps. token tokens.Load ∷ ps) (in_round_as (token (String file.text) ∷ load_args (a ∷ args))
    (ap (λ ps. token (String file.text) ∷ ps) (load_args_bare (a ∷ args))))

-- ---- small statements

small_bare : (s : Span) (form : Form no_payload) → small nowhere (unspanned_form form) ≡ bare_pieces (small s form)
small_bare s t.Break = refl
small_bare s t.Continue = refl
small_bare s t.Pass = refl
small_bare s (t.Return None) = refl
small_bare s (t.Return (Some e)) = ap (λ ps. token tokens.Return ∷ blank 1 ∷ ps) (list_bare e)
small_bare s (t.Evaluate e) = test_bare e
small_bare s (t.Assign x ty e) =
    both (target_source true x) (target_type x ty ++ (between tokens.Equal ++ test_list e)) (target_bare true x)
    (both (target_type x ty) (between tokens.Equal ++ test_list e) (target_type_bare x ty) (ap (λ ps. between tokens.Equal ++ ps) (list_bare e)))
small_bare s (t.AssignModify x o e) =
    both (modified x) (assign_operator o ++ test_list e) (modified_bare x) (both (assign_operator o) (test_list e) (sym (operator_bare o)) (list_bare e))
small_bare s (t.Load file args p) = load_bare s file args
small_bare s (t.Block ss) = refl
small_bare s (t.IfThen e body) = refl
small_bare s (t.IfElse e body other) = refl
small_bare s (t.For x e body) = refl
small_bare s (t.Def w p ps ty body q) = refl

small_source_bare : (m : Statement no_payload) → small_source (unspanned_statement m) ≡ bare_pieces (small_source m)
small_source_bare (t.statement s form) = small_bare s form

small_sources_bare : (ss : t.Statements no_payload) → small_sources (unspanned_statements ss) ≡ each_bare (small_sources ss)
small_sources_bare t.no_statements = refl
small_sources_bare (t.statements s ss) = λ i. small_source_bare s i ∷ small_sources_bare ss i

small_line_bare : (s : Span) (ss : t.Statements no_payload) → small_line nowhere (unspanned_statements ss) ≡ bare_pieces (small_line s ss)
small_line_bare s t.no_statements = refl
small_line_bare s (t.statements a t.no_statements) = refl
small_line_bare s (t.statements a (t.statements b ss)) =
    (λ i. separated semicolon (small_source_bare a i ∷ small_source_bare b i ∷ small_sources_bare ss i))
    ∙ separated_bare semicolon refl (small_source a ∷ small_source b ∷ small_sources ss)

line_as : (depth : ℕ) {q : Pieces} (p : Pieces) → q ≡ bare_pieces p → line depth q ≡ bare_pieces (line depth p)
line_as depth p is = ap (λ ps. margin depth ++ ps) (both p (token tokens.Newline ∷ []) is refl)

-- ---- lines

suite_as : {q : Pieces} (p : Pieces) → q ≡ bare_pieces p → suite q ≡ bare_pieces (suite p)
suite_as p is = ap (λ ps. token tokens.Colon ∷ token tokens.Newline ∷ token tokens.Indent ∷ ps) (both p (token tokens.Dedent ∷ []) is refl)

place_as : (place : Place) (depth : ℕ) (q p : ℕ → Pieces) → ((d : ℕ) → q d ≡ bare_pieces (p d)) → at_place place depth q ≡ bare_pieces (at_place place depth p)
place_as as_line depth q p h = h depth
place_as as_block depth q p h = h depth
place_as as_rest depth q p h = ap (λ ps. margin depth ++ (token tokens.Else ∷ ps)) (suite_as (p (depth + 1)) (h (depth + 1)))

several_as : (place : Place) (depth : ℕ) (q p : Pieces) (qs ps : ℕ → Pieces) → q ≡ bare_pieces p → ((d : ℕ) → qs d ≡ bare_pieces (ps d))
    → several place depth q qs ≡ bare_pieces (several place depth p ps)
several_as as_line depth q p qs ps is h = line_as depth p is
several_as as_block depth q p qs ps is h = h depth
several_as as_rest depth q p qs ps is h = ap (λ xs. margin depth ++ (token tokens.Else ∷ xs)) (suite_as (ps (depth + 1)) (h (depth + 1)))

tested_as : (place : Place) (e : Expression no_payload) {q : Pieces} (p : Pieces) → q ≡ bare_pieces p
    → tested (if_word place) (unspanned e) ++ suite q ≡ bare_pieces (tested (if_word place) e ++ suite p)
tested_as place e p is = ap (λ ps. token (if_word place) ∷ blank 1 ∷ ps) (both (test e) (suite p) (test_bare e) (suite_as p is))

several_lines_as : (s : Span) (first : Pieces) (rest : Seq Pieces) → several_lines nowhere (bare_pieces first) (each_bare rest)
    ≡ bare_pieces (several_lines s first rest)
several_lines_as s first [] = refl
several_lines_as s first (second ∷ rest) = both first (flat_map (λ more. more) (second ∷ rest)) refl (flat_bare [] refl (second ∷ rest))

small_as : (place : Place) (depth : ℕ) (s : Span) (form : Form no_payload)
    → at_place place depth (λ d. line d (small nowhere (unspanned_form form))) ≡ bare_pieces (at_place place depth (λ d. line d (small s form)))
small_as place depth s form =
    place_as place depth (λ d. line d (small nowhere (unspanned_form form))) (λ d. line d (small s form)) (λ d. line_as d (small s form) (small_bare s form))

loop_as : (d : ℕ) (x : t.Target no_payload) (e : Expression no_payload) (body : Statement no_payload)
    → lines as_block (d + 1) (unspanned_statement body) ≡ bare_pieces (lines as_block (d + 1) body)
    → margin d ++ (looped (unspanned_target x) (unspanned e) ++ suite (lines as_block (d + 1) (unspanned_statement body)))
    ≡ bare_pieces (margin d ++ (looped x e ++ suite (lines as_block (d + 1) body)))
loop_as d x e body is =
    let inside = suite (lines as_block (d + 1) body) in
    ap (λ ps. margin d ++ ps)
    (both (looped x e) inside
    (ap (λ ps. token tokens.For ∷ blank 1 ∷ ps)
    (both (target_source true x) (between tokens.In ++ test e) (target_bare true x) (ap (λ ps. between tokens.In ++ ps) (test_bare e))))
    (suite_as (lines as_block (d + 1) body) is))

def_as : (d : ℕ) (w : Word) (ps : t.Parameters no_payload) (ty : t.MaybeType no_payload) (body : Statement no_payload)
    → lines as_block (d + 1) (unspanned_statement body) ≡ bare_pieces (lines as_block (d + 1) body)
    → margin d ++ (defined (unspanned_word w) (unspanned_parameters ps) (unspanned_type ty) ++ suite (lines as_block (d + 1) (unspanned_statement body)))
    ≡ bare_pieces (margin d ++ (defined w ps ty ++ suite (lines as_block (d + 1) body)))
def_as d w ps ty body is =
    let arrow = between tokens.MinusGreater in
    let inside = in_round (listed (parameter_sources ps)) in
    ap (λ xs. margin d ++ xs)
    (both (defined w ps ty) (suite (lines as_block (d + 1) body))
    (ap (λ xs. token tokens.Def ∷ blank 1 ∷ xs)
    (both (name w) (inside ++ maybe_type_source arrow ty) (name_bare w)
    (both inside (maybe_type_source arrow ty) (in_round_as (listed (parameter_sources ps)) (listed_as (parameter_sources ps) (parameters_bare ps)))
    (type_bare arrow refl ty))))
    (suite_as (lines as_block (d + 1) body) is))

mutual
  lines_bare : (place : Place) (depth : ℕ) (m : Statement no_payload) → lines place depth (unspanned_statement m) ≡ bare_pieces (lines place depth m)
  lines_bare place depth (t.statement s form) = form_bare place depth s form

  form_bare : (place : Place) (depth : ℕ) (s : Span) (form : Form no_payload) → form_lines place depth nowhere (unspanned_form form)
      ≡ bare_pieces (form_lines place depth s form)
  form_bare place depth s (t.Block ss) =
      several_as place depth (small_line nowhere (unspanned_statements ss)) (small_line s ss) (λ d. block d nowhere (unspanned_statements ss))
      (λ d. block d s ss)
      (small_line_bare s ss) (λ d. block_bare d s ss)
  form_bare place depth s (t.IfThen e body) =
      ap (λ ps. margin depth ++ ps) (tested_as place e (lines as_block (depth + 1) body) (lines_bare as_block (depth + 1) body))
  form_bare place depth s (t.IfElse e body other) =
      both (margin depth ++ (tested (if_word place) e ++ suite (lines as_block (depth + 1) body))) (lines as_rest depth other)
      (ap (λ ps. margin depth ++ ps) (tested_as place e (lines as_block (depth + 1) body) (lines_bare as_block (depth + 1) body)))
      (lines_bare as_rest depth other)
  form_bare place depth s (t.For x e body) =
      place_as place depth (λ d. margin d ++ (looped (unspanned_target x) (unspanned e) ++ suite (lines as_block (d + 1) (unspanned_statement body))))
      (λ d. margin d ++ (looped x e ++ suite (lines as_block (d + 1) body))) (λ d. loop_as d x e body (lines_bare as_block (d + 1) body))
  form_bare place depth s (t.Def w p ps ty body q) =
      place_as place depth
      (λ d. margin d ++ (defined (unspanned_word w) (unspanned_parameters ps) (unspanned_type ty) ++ suite (lines as_block (d + 1) (unspanned_statement body))))
      (λ d. margin d ++ (defined w ps ty ++ suite (lines as_block (d + 1) body))) (λ d. def_as d w ps ty body (lines_bare as_block (d + 1) body))
  form_bare place depth s t.Break = small_as place depth s t.Break
  form_bare place depth s t.Continue = small_as place depth s t.Continue
  form_bare place depth s t.Pass = small_as place depth s t.Pass
  form_bare place depth s (t.Return e) = small_as place depth s (t.Return e)
  form_bare place depth s (t.Evaluate e) = small_as place depth s (t.Evaluate e)
  form_bare place depth s (t.Assign x ty e) = small_as place depth s (t.Assign x ty e)
  form_bare place depth s (t.AssignModify x o e) = small_as place depth s (t.AssignModify x o e)
  form_bare place depth s (t.Load file args p) = small_as place depth s (t.Load file args p)

  block_bare : (depth : ℕ) (s : Span) (ss : t.Statements no_payload) → block depth nowhere (unspanned_statements ss) ≡ bare_pieces (block depth s ss)
  block_bare depth s t.no_statements = refl
  block_bare depth s (t.statements a ss) =
      (λ i. several_lines nowhere (lines_bare as_line depth a i) (all_bare depth ss i)) ∙ several_lines_as s (lines as_line depth a) (all_lines depth ss)

  all_bare : (depth : ℕ) (ss : t.Statements no_payload) → all_lines depth (unspanned_statements ss) ≡ each_bare (all_lines depth ss)
  all_bare depth t.no_statements = refl
  all_bare depth (t.statements s ss) = λ i. lines_bare as_line depth s i ∷ all_bare depth ss i

-- ---- modules

module_bare : (m : Statement no_payload) → module_source (unspanned_statement m) ≡ bare_pieces (module_source m)
module_bare (t.statement s (t.Block t.no_statements)) = refl
module_bare (t.statement s (t.Block (t.statements a ss))) = form_bare as_block 0 s (t.Block (t.statements a ss))
module_bare (t.statement s other) = form_bare as_block 0 s other

-- a result without the span of what no text denotes
abbrev spanless : Result Text Span → Result Text Span
spanless (Ok text) = Ok text
spanless (Err s) = Err nowhere

more_bare : (text : Text) (r : Result Text Span) → joined text (spanless r) ≡ spanless (joined text r)
more_bare text (Ok more) = refl
more_bare text (Err s) = refl

said_bare : (ps : Pieces) → said (bare_pieces ps) ≡ spanless (said ps)
said_bare [] = refl
said_bare (token x ∷ ps) = ap (joined (spelled x)) (said_bare ps) ∙ more_bare (spelled x) (said ps)
said_bare (text_byte b ∷ ps) = ap (joined (escaped_in_format b)) (said_bare ps) ∙ more_bare (escaped_in_format b) (said ps)
said_bare (blank n ∷ ps) = ap (joined (replicate n 32)) (said_bare ps) ∙ more_bare (replicate n 32) (said ps)
said_bare (unsayable s ∷ ps) = refl

source_bare : (m : Statement no_payload) → source_of (unspanned_statement m) ≡ spanless (source_of m)
source_bare m = ap said (module_bare m) ∙ said_bare (module_source m)

spanless_ok : (r : Result Text Span) (text : Text) → spanless r ≡ Ok text → r ≡ Ok text
spanless_ok (Ok x) text is = is
spanless_ok (Err s) text is = absurd (cc)

-- modules that are equal apart from spans have the same source
pub same_source : (m u : Statement no_payload) (text : Text) → unspanned_statement m ≡ unspanned_statement u → source_of m ≡ Ok text → source_of u ≡ Ok text
same_source m u text same is = spanless_ok (source_of u) text (sym (source_bare u) ∙ ap source_of (sym same) ∙ source_bare m ∙ ap spanless is)
