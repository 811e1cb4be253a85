-- When one tree is another with its payloads mapped: the same shape, names, literals and spans, and each payload is
-- what the function returned for its source. The calls are made in the order in which they are written here.
use Rattle.std.specs.Prelude.{◌≡◌, Option, Some, None}
use Rattle.starlark_lexer.specs.Tokens.{Text}
use Rattle.starlark_tree.specs.Ast.{Payloads, Expression, expression, Shape, Tuple, Dot, Call, Index, Index2, Slice, Identifier, Lambda, Constant}
use Rattle.starlark_tree.specs.Ast.{Not, Minus, Plus, BitNot, Op, If, List, Dict, ListComprehension, DictComprehension, FString}
use Rattle.starlark_tree.specs.Ast.{Expressions, no_expressions, expressions, Maybe, absent, present, MaybeType, no_type, typed, Pairs}
use Rattle.starlark_tree.specs.Ast.{no_pairs, pairs, Arguments, no_arguments, arguments, Argument, Positional, Named, Star, StarStar}
use Rattle.starlark_tree.specs.Ast.{Parameters, no_parameters, parameters, Parameter, Slash, Normal, NoArgs, Args, KwArgs}
use Rattle.starlark_tree.specs.Ast.{ForIn, for_in, Clauses, no_clauses, clauses, Clause, for_clause, if_clause, Target}
use Rattle.starlark_tree.specs.Ast.{TupleTarget, IndexTarget, DotTarget, NameTarget, Targets, no_targets, targets}
use Rattle.starlark_tree.specs.Ast.{LoadArg, Statement, statement, Form, Break, Continue, Pass, Return, Evaluate, Assign, AssignModify}
use Rattle.starlark_tree.specs.Ast.{Block, IfThen, IfElse, For, Def, Load, Statements, no_statements, statements}
use Rattle.starlark_payload.specs.Function.Steps.{◌⨾◌, ◌and◌, nothing, never, Each}

-- What the five functions of a payload function do: each relates a payload, the result, and the function before and after.
-- That of a load has the path too.
pub record Calls (A B : Payloads) (F : Type 0) : Type 1 where
  pub load : Text → A.load → B.load → F → F → Type 0
  pub ident : A.ident → B.ident → F → F → Type 0
  pub assign : A.assign → B.assign → F → F → Type 0
  pub def : A.def → B.def → F → F → Type 0
  pub type : A.type → B.type → F → F → Type 0

-- each result is the payload itself
pub record AnswersItsArgument {P : Payloads} {F : Type 0} (calls : Calls P P F) : Type 0 where
  pub load : (path : Text) (a b : P.load) (before after : F) → calls.load path a b before after → b ≡ a
  pub ident : (a b : P.ident) (before after : F) → calls.ident a b before after → b ≡ a
  pub assign : (a b : P.assign) (before after : F) → calls.assign a b before after → b ≡ a
  pub def : (a b : P.def) (before after : F) → calls.def a b before after → b ≡ a
  pub type : (a b : P.type) (before after : F) → calls.type a b before after → b ≡ a

module _ {A B : Payloads} {F : Type 0} (calls : Calls A B F) where
  abbrev mutual
    pub MapsExpression : Expression A → Expression B → F → F → Type 0
    MapsExpression (expression s e) (expression s' e') = (s' ≡ s) and MapsShape e e'

    pub MapsShape : Shape A → Shape B → F → F → Type 0
    MapsShape (Tuple es) (Tuple es') = MapsExpressions es es'
    MapsShape (Dot e name) (Dot e' name') = (name' ≡ name) and MapsExpression e e'
    MapsShape (Call e args) (Call e' args') = MapsExpression e e' ⨾ MapsArguments args args'
    MapsShape (Index a i) (Index a' i') = MapsExpression a a' ⨾ MapsExpression i i'
    MapsShape (Index2 a i j) (Index2 a' i' j') = MapsExpression a a' ⨾ MapsExpression i i' ⨾ MapsExpression j j'
    MapsShape (Slice a i j k) (Slice a' i' j' k') = MapsExpression a a' ⨾ MapsMaybe i i' ⨾ MapsMaybe j j' ⨾ MapsMaybe k k'
    MapsShape (Identifier name p) (Identifier name' p') = (name' ≡ name) and calls.ident p p'
    MapsShape (Lambda params body p) (Lambda params' body' p') = MapsParameters params params' ⨾ MapsExpression body body' ⨾ calls.def p p'
    MapsShape (Constant c) (Constant c') = (c' ≡ c) and nothing
    MapsShape (Not e) (Not e') = MapsExpression e e'
    MapsShape (Minus e) (Minus e') = MapsExpression e e'
    MapsShape (Plus e) (Plus e') = MapsExpression e e'
    MapsShape (BitNot e) (BitNot e') = MapsExpression e e'
    MapsShape (Op l op r) (Op l' op' r') = (op' ≡ op) and MapsExpression l l' ⨾ MapsExpression r r'
    MapsShape (If c v w) (If c' v' w') = MapsExpression c c' ⨾ MapsExpression v v' ⨾ MapsExpression w w'
    MapsShape (List es) (List es') = MapsExpressions es es'
    MapsShape (Dict ps) (Dict ps') = MapsPairs ps ps'
    MapsShape (ListComprehension e f cs) (ListComprehension e' f' cs') = MapsExpression e e' ⨾ MapsForIn f f' ⨾ MapsClauses cs cs'
    MapsShape (DictComprehension k v f cs) (DictComprehension k' v' f' cs') =
        (MapsExpression k k' ⨾ MapsExpression v v') ⨾ MapsForIn f f' ⨾ MapsClauses cs cs'
    MapsShape (FString s w es) (FString s' w' es') = ((s' ≡ s) × (w' ≡ w)) and MapsExpressions es es'
    MapsShape _ _ = never

    pub MapsExpressions : Expressions A → Expressions B → F → F → Type 0
    MapsExpressions no_expressions no_expressions = nothing
    MapsExpressions (expressions e es) (expressions e' es') = MapsExpression e e' ⨾ MapsExpressions es es'
    MapsExpressions _ _ = never

    pub MapsMaybe : Maybe A → Maybe B → F → F → Type 0
    MapsMaybe absent absent = nothing
    MapsMaybe (present e) (present e') = MapsExpression e e'
    MapsMaybe _ _ = never

    pub MapsMaybeType : MaybeType A → MaybeType B → F → F → Type 0
    MapsMaybeType no_type no_type = nothing
    MapsMaybeType (typed s e p) (typed s' e' p') = (s' ≡ s) and MapsExpression e e' ⨾ calls.type p p'
    MapsMaybeType _ _ = never

    pub MapsPairs : Pairs A → Pairs B → F → F → Type 0
    MapsPairs no_pairs no_pairs = nothing
    MapsPairs (pairs k v ps) (pairs k' v' ps') = (MapsExpression k k' ⨾ MapsExpression v v') ⨾ MapsPairs ps ps'
    MapsPairs _ _ = never

    pub MapsArgument : Argument A → Argument B → F → F → Type 0
    MapsArgument (Positional s e) (Positional s' e') = (s' ≡ s) and MapsExpression e e'
    MapsArgument (Named s name e) (Named s' name' e') = ((s' ≡ s) × (name' ≡ name)) and MapsExpression e e'
    MapsArgument (Star s e) (Star s' e') = (s' ≡ s) and MapsExpression e e'
    MapsArgument (StarStar s e) (StarStar s' e') = (s' ≡ s) and MapsExpression e e'
    MapsArgument _ _ = never

    pub MapsArguments : Arguments A → Arguments B → F → F → Type 0
    MapsArguments no_arguments no_arguments = nothing
    MapsArguments (arguments a rest) (arguments a' rest') = MapsArgument a a' ⨾ MapsArguments rest rest'
    MapsArguments _ _ = never

    pub MapsParameter : Parameter A → Parameter B → F → F → Type 0
    MapsParameter (Slash s) (Slash s') = (s' ≡ s) and nothing
    MapsParameter (Normal s name p ty default) (Normal s' name' p' ty' default') =
        ((s' ≡ s) × (name' ≡ name)) and calls.assign p p' ⨾ MapsMaybeType ty ty' ⨾ MapsMaybe default default'
    MapsParameter (NoArgs s) (NoArgs s') = (s' ≡ s) and nothing
    MapsParameter (Args s name p ty) (Args s' name' p' ty') = ((s' ≡ s) × (name' ≡ name)) and calls.assign p p' ⨾ MapsMaybeType ty ty'
    MapsParameter (KwArgs s name p ty) (KwArgs s' name' p' ty') = ((s' ≡ s) × (name' ≡ name)) and calls.assign p p' ⨾ MapsMaybeType ty ty'
    MapsParameter _ _ = never

    pub MapsParameters : Parameters A → Parameters B → F → F → Type 0
    MapsParameters no_parameters no_parameters = nothing
    MapsParameters (parameters p ps) (parameters p' ps') = MapsParameter p p' ⨾ MapsParameters ps ps'
    MapsParameters _ _ = never

    pub MapsForIn : ForIn A → ForIn B → F → F → Type 0
    MapsForIn (for_in x e) (for_in x' e') = MapsTarget x x' ⨾ MapsExpression e e'

    pub MapsClause : Clause A → Clause B → F → F → Type 0
    MapsClause (for_clause f) (for_clause f') = MapsForIn f f'
    MapsClause (if_clause e) (if_clause e') = MapsExpression e e'
    MapsClause _ _ = never

    pub MapsClauses : Clauses A → Clauses B → F → F → Type 0
    MapsClauses no_clauses no_clauses = nothing
    MapsClauses (clauses c cs) (clauses c' cs') = MapsClause c c' ⨾ MapsClauses cs cs'
    MapsClauses _ _ = never

    pub MapsTarget : Target A → Target B → F → F → Type 0
    MapsTarget (TupleTarget s xs) (TupleTarget s' xs') = (s' ≡ s) and MapsTargets xs xs'
    MapsTarget (IndexTarget s a i) (IndexTarget s' a' i') = (s' ≡ s) and MapsExpression a a' ⨾ MapsExpression i i'
    MapsTarget (DotTarget s e name) (DotTarget s' e' name') = ((s' ≡ s) × (name' ≡ name)) and MapsExpression e e'
    MapsTarget (NameTarget s name p) (NameTarget s' name' p') = ((s' ≡ s) × (name' ≡ name)) and calls.assign p p'
    MapsTarget _ _ = never

    pub MapsTargets : Targets A → Targets B → F → F → Type 0
    MapsTargets no_targets no_targets = nothing
    MapsTargets (targets x xs) (targets x' xs') = MapsTarget x x' ⨾ MapsTargets xs xs'
    MapsTargets _ _ = never

  abbrev pub MapsLoadArg : LoadArg A → LoadArg B → F → F → Type 0
  MapsLoadArg a a' = ((a'.local ≡ a.local) × (a'.their ≡ a.their) × (a'.comma ≡ a.comma)) and calls.assign a.payload a'.payload

  abbrev pub MapsOption : Option (Expression A) → Option (Expression B) → F → F → Type 0
  MapsOption None None = nothing
  MapsOption (Some e) (Some e') = MapsExpression e e'
  MapsOption _ _ = never

  abbrev mutual
    pub MapsStatement : Statement A → Statement B → F → F → Type 0
    MapsStatement (statement s form) (statement s' form') = (s' ≡ s) and MapsForm form form'

    pub MapsForm : Form A → Form B → F → F → Type 0
    MapsForm Break Break = nothing
    MapsForm Continue Continue = nothing
    MapsForm Pass Pass = nothing
    MapsForm (Return e) (Return e') = MapsOption e e'
    MapsForm (Evaluate e) (Evaluate e') = MapsExpression e e'
    MapsForm (Assign x ty e) (Assign x' ty' e') = MapsTarget x x' ⨾ MapsMaybeType ty ty' ⨾ MapsExpression e e'
    MapsForm (AssignModify x op e) (AssignModify x' op' e') = (op' ≡ op) and MapsTarget x x' ⨾ MapsExpression e e'
    MapsForm (Block ss) (Block ss') = MapsStatements ss ss'
    MapsForm (IfThen e s) (IfThen e' s') = MapsExpression e e' ⨾ MapsStatement s s'
    MapsForm (IfElse e s t) (IfElse e' s' t') = MapsExpression e e' ⨾ MapsStatement s s' ⨾ MapsStatement t t'
    MapsForm (For x e s) (For x' e' s') = MapsTarget x x' ⨾ MapsExpression e e' ⨾ MapsStatement s s'
    MapsForm (Def name p params ty body d) (Def name' p' params' ty' body' d') =
        (name' ≡ name) and calls.assign p p' ⨾ MapsParameters params params' ⨾ MapsMaybeType ty ty' ⨾ MapsStatement body body' ⨾ calls.def d d'
    MapsForm (Load path args p) (Load path' args' p') = (path' ≡ path) and calls.load path.text p p' ⨾ Each MapsLoadArg args args'
    MapsForm _ _ = never

    pub MapsStatements : Statements A → Statements B → F → F → Type 0
    MapsStatements no_statements no_statements = nothing
    MapsStatements (statements s ss) (statements s' ss') = MapsStatement s s' ⨾ MapsStatements ss ss'
    MapsStatements _ _ = never
