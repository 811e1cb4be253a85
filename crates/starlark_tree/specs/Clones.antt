-- When one tree is a clone of another: it has the same shape, names, literals and spans, and each payload is a clone of its source.
use Rattle.std.specs.Prelude.{◌≡◌, ⊤, Option, Some, None}
use Rattle.std.specs.List.{AllZip}
use Rattle.starlark_tree.specs.declared.ast.StmtP.{StmtP}
use Rattle.starlark_tree.specs.declared.ast.StmtP as stmt
use Rattle.starlark_tree.specs.Views.{payloads}
use Rattle.starlark_tree.specs.Ast.{Payloads, Expression, expression, Shape, Tuple, Dot, Call, Index, Index2, Slice, Identifier, Lambda, Constant}
use Rattle.starlark_tree.specs.Ast.{Not, Minus, Plus, BitNot, Op, If, List, Dict, ListComprehension, DictComprehension, FString}
use Rattle.starlark_tree.specs.Ast.{Expressions, no_expressions, expressions, Maybe, absent, present, MaybeType, no_type, typed, Pairs}
use Rattle.starlark_tree.specs.Ast.{no_pairs, pairs, Arguments, no_arguments, arguments, Argument, Positional, Named, Star, StarStar}
use Rattle.starlark_tree.specs.Ast.{Parameters, no_parameters, parameters, Parameter, Slash, Normal, NoArgs, Args, KwArgs}
use Rattle.starlark_tree.specs.Ast.{ForIn, for_in, Clauses, no_clauses, clauses, Clause, for_clause, if_clause, Target}
use Rattle.starlark_tree.specs.Ast.{TupleTarget, IndexTarget, DotTarget, NameTarget, Targets, no_targets, targets}
use Rattle.starlark_tree.specs.Ast.{LoadArg, Statement, statement, Form, Break, Continue, Pass, Return, Evaluate, Assign, AssignModify}
use Rattle.starlark_tree.specs.Ast.{Block, IfThen, IfElse, For, Def, Load, Statements, no_statements, statements}

-- when one payload is a clone of another, for each of the five
pub record Cloning (P : Payloads) : Type 1 where
  pub load : P.load → P.load → Type 0
  pub ident : P.ident → P.ident → Type 0
  pub assign : P.assign → P.assign → Type 0
  pub def : P.def → P.def → Type 0
  pub type : P.type → P.type → Type 0

-- a clone of a payload is the payload
pub record IsExact {P : Payloads} (C : Cloning P) : Type 0 where
  pub load : (x y : P.load) → C.load x y → y ≡ x
  pub ident : (x y : P.ident) → C.ident x y → y ≡ x
  pub assign : (x y : P.assign) → C.assign x y → y ≡ x
  pub def : (x y : P.def) → C.def x y → y ≡ x
  pub type : (x y : P.type) → C.type x y → y ≡ x

module _ {P : Payloads} (C : Cloning P) where
  abbrev mutual
    pub ClonesExpression : Expression P → Expression P → Type 0
    ClonesExpression (expression s a) (expression s' b) = (s' ≡ s) × ClonesShape a b

    pub ClonesShape : Shape P → Shape P → Type 0
    ClonesShape (Tuple es) (Tuple es') = ClonesExpressions es es'
    ClonesShape (Dot e name) (Dot e' name') = ClonesExpression e e' × (name' ≡ name)
    ClonesShape (Call e args) (Call e' args') = ClonesExpression e e' × ClonesArguments args args'
    ClonesShape (Index a i) (Index a' i') = ClonesExpression a a' × ClonesExpression i i'
    ClonesShape (Index2 a i j) (Index2 a' i' j') = ClonesExpression a a' × ClonesExpression i i' × ClonesExpression j j'
    ClonesShape (Slice a i j k) (Slice a' i' j' k') = ClonesExpression a a' × ClonesMaybe i i' × ClonesMaybe j j' × ClonesMaybe k k'
    ClonesShape (Identifier name p) (Identifier name' p') = (name' ≡ name) × C.ident p p'
    ClonesShape (Lambda params body p) (Lambda params' body' p') = ClonesParameters params params' × ClonesExpression body body' × C.def p p'
    ClonesShape (Constant c) (Constant c') = c' ≡ c
    ClonesShape (Not e) (Not e') = ClonesExpression e e'
    ClonesShape (Minus e) (Minus e') = ClonesExpression e e'
    ClonesShape (Plus e) (Plus e') = ClonesExpression e e'
    ClonesShape (BitNot e) (BitNot e') = ClonesExpression e e'
    ClonesShape (Op l op r) (Op l' op' r') = ClonesExpression l l' × (op' ≡ op) × ClonesExpression r r'
    ClonesShape (If c v w) (If c' v' w') = ClonesExpression c c' × ClonesExpression v v' × ClonesExpression w w'
    ClonesShape (List es) (List es') = ClonesExpressions es es'
    ClonesShape (Dict ps) (Dict ps') = ClonesPairs ps ps'
    ClonesShape (ListComprehension e f cs) (ListComprehension e' f' cs') = ClonesExpression e e' × ClonesForIn f f' × ClonesClauses cs cs'
    ClonesShape (DictComprehension k v f cs) (DictComprehension k' v' f' cs') =
        ClonesExpression k k' × ClonesExpression v v' × ClonesForIn f f' × ClonesClauses cs cs'
    ClonesShape (FString s w es) (FString s' w' es') = (s' ≡ s) × (w' ≡ w) × ClonesExpressions es es'
    ClonesShape _ _ = ⊥

    pub ClonesExpressions : Expressions P → Expressions P → Type 0
    ClonesExpressions no_expressions no_expressions = ⊤
    ClonesExpressions (expressions e es) (expressions e' es') = ClonesExpression e e' × ClonesExpressions es es'
    ClonesExpressions _ _ = ⊥

    pub ClonesMaybe : Maybe P → Maybe P → Type 0
    ClonesMaybe absent absent = ⊤
    ClonesMaybe (present e) (present e') = ClonesExpression e e'
    ClonesMaybe _ _ = ⊥

    pub ClonesMaybeType : MaybeType P → MaybeType P → Type 0
    ClonesMaybeType no_type no_type = ⊤
    ClonesMaybeType (typed s e p) (typed s' e' p') = (s' ≡ s) × ClonesExpression e e' × C.type p p'
    ClonesMaybeType _ _ = ⊥

    pub ClonesPairs : Pairs P → Pairs P → Type 0
    ClonesPairs no_pairs no_pairs = ⊤
    ClonesPairs (pairs k v ps) (pairs k' v' ps') = ClonesExpression k k' × ClonesExpression v v' × ClonesPairs ps ps'
    ClonesPairs _ _ = ⊥

    pub ClonesArgument : Argument P → Argument P → Type 0
    ClonesArgument (Positional s e) (Positional s' e') = (s' ≡ s) × ClonesExpression e e'
    ClonesArgument (Named s name e) (Named s' name' e') = (s' ≡ s) × (name' ≡ name) × ClonesExpression e e'
    ClonesArgument (Star s e) (Star s' e') = (s' ≡ s) × ClonesExpression e e'
    ClonesArgument (StarStar s e) (StarStar s' e') = (s' ≡ s) × ClonesExpression e e'
    ClonesArgument _ _ = ⊥

    pub ClonesArguments : Arguments P → Arguments P → Type 0
    ClonesArguments no_arguments no_arguments = ⊤
    ClonesArguments (arguments a rest) (arguments a' rest') = ClonesArgument a a' × ClonesArguments rest rest'
    ClonesArguments _ _ = ⊥

    pub ClonesParameter : Parameter P → Parameter P → Type 0
    ClonesParameter (Slash s) (Slash s') = s' ≡ s
    ClonesParameter (Normal s name p ty default) (Normal s' name' p' ty' default') =
        (s' ≡ s) × (name' ≡ name) × C.assign p p' × ClonesMaybeType ty ty' × ClonesMaybe default default'
    ClonesParameter (NoArgs s) (NoArgs s') = s' ≡ s
    ClonesParameter (Args s name p ty) (Args s' name' p' ty') = (s' ≡ s) × (name' ≡ name) × C.assign p p' × ClonesMaybeType ty ty'
    ClonesParameter (KwArgs s name p ty) (KwArgs s' name' p' ty') = (s' ≡ s) × (name' ≡ name) × C.assign p p' × ClonesMaybeType ty ty'
    ClonesParameter _ _ = ⊥

    pub ClonesParameters : Parameters P → Parameters P → Type 0
    ClonesParameters no_parameters no_parameters = ⊤
    ClonesParameters (parameters a rest) (parameters a' rest') = ClonesParameter a a' × ClonesParameters rest rest'
    ClonesParameters _ _ = ⊥

    pub ClonesForIn : ForIn P → ForIn P → Type 0
    ClonesForIn (for_in x e) (for_in x' e') = ClonesTarget x x' × ClonesExpression e e'

    pub ClonesClause : Clause P → Clause P → Type 0
    ClonesClause (for_clause f) (for_clause f') = ClonesForIn f f'
    ClonesClause (if_clause e) (if_clause e') = ClonesExpression e e'
    ClonesClause _ _ = ⊥

    pub ClonesClauses : Clauses P → Clauses P → Type 0
    ClonesClauses no_clauses no_clauses = ⊤
    ClonesClauses (clauses c rest) (clauses c' rest') = ClonesClause c c' × ClonesClauses rest rest'
    ClonesClauses _ _ = ⊥

    pub ClonesTarget : Target P → Target P → Type 0
    ClonesTarget (TupleTarget s xs) (TupleTarget s' xs') = (s' ≡ s) × ClonesTargets xs xs'
    ClonesTarget (IndexTarget s a i) (IndexTarget s' a' i') = (s' ≡ s) × ClonesExpression a a' × ClonesExpression i i'
    ClonesTarget (DotTarget s e name) (DotTarget s' e' name') = (s' ≡ s) × ClonesExpression e e' × (name' ≡ name)
    ClonesTarget (NameTarget s name p) (NameTarget s' name' p') = (s' ≡ s) × (name' ≡ name) × C.assign p p'
    ClonesTarget _ _ = ⊥

    pub ClonesTargets : Targets P → Targets P → Type 0
    ClonesTargets no_targets no_targets = ⊤
    ClonesTargets (targets x rest) (targets x' rest') = ClonesTarget x x' × ClonesTargets rest rest'
    ClonesTargets _ _ = ⊥

  pub record ClonesLoadArg (a a' : LoadArg P) : Type 0 where
    pub local : a'.local ≡ a.local
    pub payload : C.assign a.payload a'.payload
    pub their : a'.their ≡ a.their
    pub comma : a'.comma ≡ a.comma

  abbrev pub ClonesOption : Option (Expression P) → Option (Expression P) → Type 0
  ClonesOption None None = ⊤
  ClonesOption (Some e) (Some e') = ClonesExpression e e'
  ClonesOption _ _ = ⊥

  abbrev mutual
    pub ClonesStatement : Statement P → Statement P → Type 0
    ClonesStatement (statement s f) (statement s' f') = (s' ≡ s) × ClonesForm f f'

    pub ClonesForm : Form P → Form P → Type 0
    ClonesForm Break Break = ⊤
    ClonesForm Continue Continue = ⊤
    ClonesForm Pass Pass = ⊤
    ClonesForm (Return e) (Return e') = ClonesOption e e'
    ClonesForm (Evaluate e) (Evaluate e') = ClonesExpression e e'
    ClonesForm (Assign x ty e) (Assign x' ty' e') = ClonesTarget x x' × ClonesMaybeType ty ty' × ClonesExpression e e'
    ClonesForm (AssignModify x op e) (AssignModify x' op' e') = ClonesTarget x x' × (op' ≡ op) × ClonesExpression e e'
    ClonesForm (Block ss) (Block ss') = ClonesStatements ss ss'
    ClonesForm (IfThen e s) (IfThen e' s') = ClonesExpression e e' × ClonesStatement s s'
    ClonesForm (IfElse e s t) (IfElse e' s' t') = ClonesExpression e e' × ClonesStatement s s' × ClonesStatement t t'
    ClonesForm (For x e s) (For x' e' s') = ClonesTarget x x' × ClonesExpression e e' × ClonesStatement s s'
    ClonesForm (Def name p params ty body d) (Def name' p' params' ty' body' d') =
        (name' ≡ name) × C.assign p p' × ClonesParameters params params' × ClonesMaybeType ty ty' × ClonesStatement body body' × C.def d d'
    ClonesForm (Load m args p) (Load m' args' p') = (m' ≡ m) × AllZip ClonesLoadArg args args' × C.load p p'
    ClonesForm _ _ = ⊥

    pub ClonesStatements : Statements P → Statements P → Type 0
    ClonesStatements no_statements no_statements = ⊤
    ClonesStatements (statements s rest) (statements s' rest') = ClonesStatement s s' × ClonesStatements rest rest'
    ClonesStatements _ _ = ⊥

  -- when the body of an `if` without `else`, of a loop or of a definition is a clone
  abbrev pub ClonesBody : Form P → Statement P → Type 0
  ClonesBody (IfThen e s) b = ClonesStatement s b
  ClonesBody (For x e s) b = ClonesStatement s b
  ClonesBody (Def name p params ty s d) b = ClonesStatement s b
  ClonesBody _ b = ⊥

-- an `if` without `else`, a loop or a definition
abbrev pub HasBody : {P : Payloads} → Form P → Type 0
HasBody (IfThen e s) = ⊤
HasBody (For x e s) = ⊤
HasBody (Def name p params ty s d) = ⊤
HasBody _ = ⊥

-- a statement that holds no other
abbrev pub IsSimple : {P A B C D E : Type 0} → StmtP P A B C D E → Type 0
IsSimple s = ((v : _) → s ≡ stmt.Statements v → ⊥) × ((e : _) (b : _) → s ≡ stmt.If e b → ⊥) × ((e : _) (b : _) → s ≡ stmt.IfElse e b → ⊥)
    × ((f : _) → s ≡ stmt.For f → ⊥) × ((d : _) → s ≡ stmt.Def d → ⊥)

-- by the relations of the payloads' own clones
abbrev pub cloning : {A B C D E : Type 0} → (A → A → Type 0) → (B → B → Type 0) → (C → C → Type 0) → (D → D → Type 0) → (E → E → Type 0)
    → Cloning (payloads A B C D E)
cloning a b c d e = record { load = a; ident = b; assign = c; def = d; type = e }
