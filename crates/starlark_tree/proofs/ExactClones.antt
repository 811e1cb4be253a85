-- If a payload's clone is the payload, a tree's clone is the tree.
use Rattle.std.proofs.Common.{◌≡◌, Option, Some, None, refl}
use Rattle.std.proofs.lemmas.List.Elements.{same_from_all_zip}
use Rattle.starlark_tree.specs.Ast.{Payloads, Expression, expression, Shape, Tuple, Dot, Call, Index, Index2, Slice, Identifier, Lambda, Constant, Not, Minus}
use Rattle.starlark_tree.specs.Ast.{Plus, BitNot, Op, If, List, Dict, ListComprehension, DictComprehension, FString}
use Rattle.starlark_tree.specs.Ast.{Expressions, no_expressions, expressions, Maybe, absent, present, MaybeType, no_type, typed, Pairs, no_pairs, pairs}
use Rattle.starlark_tree.specs.Ast.{Arguments, no_arguments, arguments, Argument, Positional, Named, Star, StarStar}
use Rattle.starlark_tree.specs.Ast.{Parameters, no_parameters, parameters, Parameter, Slash, Normal, NoArgs, Args, KwArgs, ForIn, for_in, Clauses, no_clauses}
use Rattle.starlark_tree.specs.Ast.{clauses, Clause, for_clause, if_clause, Target, TupleTarget, IndexTarget, DotTarget, NameTarget, Targets, no_targets}
use Rattle.starlark_tree.specs.Ast.{targets}
use Rattle.starlark_tree.specs.Ast.{LoadArg, Statement, statement, Form, Break, Continue, Pass, Return, Evaluate, Assign, AssignModify, Block, IfThen, IfElse}
use Rattle.starlark_tree.specs.Ast.{For, Def, Load, Statements, no_statements, statements}
use Rattle.starlark_tree.specs.Clones.{Cloning, IsExact, ClonesLoadArg, ClonesOption, ClonesExpression, ClonesShape, ClonesExpressions, ClonesMaybe}
use Rattle.starlark_tree.specs.Clones.{ClonesMaybeType, ClonesPairs, ClonesArgument, ClonesArguments, ClonesParameter, ClonesParameters, ClonesForIn}
use Rattle.starlark_tree.specs.Clones.{ClonesClause, ClonesClauses, ClonesTarget, ClonesTargets, ClonesStatement, ClonesForm, ClonesStatements}

module _ {P : Payloads} (R : Cloning P) (exact : IsExact R) where
  mutual
    pub same_expression : (e e' : Expression P) → ClonesExpression R e e' → e' ≡ e
    same_expression (expression s a) (expression s' b) h = let p1 : b ≡ a = same_shape a b h.1 in cc

    pub same_shape : (e e' : Shape P) → ClonesShape R e e' → e' ≡ e
    same_shape (Tuple es) (Tuple es') h = let p0 : es' ≡ es = same_expressions es es' h in cc
    same_shape (Dot e name) (Dot e' name') h = let p0 : e' ≡ e = same_expression e e' h.0 in cc
    same_shape (Call e args) (Call e' args') h = let p0 : e' ≡ e = same_expression e e' h.0 in let p1 : args' ≡ args = same_arguments args args' h.1 in cc
    same_shape (Index a i) (Index a' i') h = let p0 : a' ≡ a = same_expression a a' h.0 in let p1 : i' ≡ i = same_expression i i' h.1 in cc
    same_shape (Index2 a i j) (Index2 a' i' j') h = let p0 : a' ≡ a = same_expression a a' h.0 in let p1 : i' ≡ i = same_expression i i' h.1 in
        let p2 : j' ≡ j = same_expression j j' h.2 in cc
    same_shape (Slice a i j k) (Slice a' i' j' k') h = let p0 : a' ≡ a = same_expression a a' h.0 in let p1 : i' ≡ i = same_maybe i i' h.1 in
        let p2 : j' ≡ j = same_maybe j j' h.2 in let p3 : k' ≡ k = same_maybe k k' h.3 in cc
    same_shape (Identifier name p) (Identifier name' p') h = let p1 : p' ≡ p = exact.ident p p' h.1 in cc
    same_shape (Lambda params body p) (Lambda params' body' p') h = let p0 : params' ≡ params = same_parameters params params' h.0 in let p1 : body' ≡ body =
        same_expression body body' h.1 in let p2 : p' ≡ p = exact.def p p' h.2 in cc
    same_shape (Constant c) (Constant c') h = cc
    same_shape (Not e) (Not e') h = let p0 : e' ≡ e = same_expression e e' h in cc
    same_shape (Minus e) (Minus e') h = let p0 : e' ≡ e = same_expression e e' h in cc
    same_shape (Plus e) (Plus e') h = let p0 : e' ≡ e = same_expression e e' h in cc
    same_shape (BitNot e) (BitNot e') h = let p0 : e' ≡ e = same_expression e e' h in cc
    same_shape (Op l op r) (Op l' op' r') h = let p0 : l' ≡ l = same_expression l l' h.0 in let p2 : r' ≡ r = same_expression r r' h.2 in cc
    same_shape (If c v w) (If c' v' w') h = let p0 : c' ≡ c = same_expression c c' h.0 in let p1 : v' ≡ v = same_expression v v' h.1 in
        let p2 : w' ≡ w = same_expression w w' h.2 in cc
    same_shape (List es) (List es') h = let p0 : es' ≡ es = same_expressions es es' h in cc
    same_shape (Dict ps) (Dict ps') h = let p0 : ps' ≡ ps = same_pairs ps ps' h in cc
    same_shape (ListComprehension e f cs) (ListComprehension e' f' cs') h = let p0 : e' ≡ e = same_expression e e' h.0 in
        let p1 : f' ≡ f = same_for f f' h.1 in let p2 : cs' ≡ cs = same_clauses cs cs' h.2 in cc
    same_shape (DictComprehension k v f cs) (DictComprehension k' v' f' cs') h = let p0 : k' ≡ k = same_expression k k' h.0 in
        let p1 : v' ≡ v = same_expression v v' h.1 in let p2 : f' ≡ f = same_for f f' h.2 in let p3 : cs' ≡ cs = same_clauses cs cs' h.3 in cc
    same_shape (FString s w es) (FString s' w' es') h = let p2 : es' ≡ es = same_expressions es es' h.2 in cc
    same_shape _ _ h = absurd h

    pub same_expressions : (e e' : Expressions P) → ClonesExpressions R e e' → e' ≡ e
    same_expressions no_expressions no_expressions h = refl
    same_expressions (expressions e es) (expressions e' es') h = let p0 : e' ≡ e = same_expression e e' h.0 in
        let p1 : es' ≡ es = same_expressions es es' h.1 in cc
    same_expressions _ _ h = absurd h

    same_maybe : (e e' : Maybe P) → ClonesMaybe R e e' → e' ≡ e
    same_maybe absent absent h = refl
    same_maybe (present e) (present e') h = let p0 : e' ≡ e = same_expression e e' h in cc
    same_maybe _ _ h = absurd h

    pub same_type : (e e' : MaybeType P) → ClonesMaybeType R e e' → e' ≡ e
    same_type no_type no_type h = refl
    same_type (typed s e p) (typed s' e' p') h = let p1 : e' ≡ e = same_expression e e' h.1 in let p2 : p' ≡ p = exact.type p p' h.2 in cc
    same_type _ _ h = absurd h

    same_pairs : (e e' : Pairs P) → ClonesPairs R e e' → e' ≡ e
    same_pairs no_pairs no_pairs h = refl
    same_pairs (pairs k v ps) (pairs k' v' ps') h = let p0 : k' ≡ k = same_expression k k' h.0 in let p1 : v' ≡ v = same_expression v v' h.1 in
        let p2 : ps' ≡ ps = same_pairs ps ps' h.2 in cc
    same_pairs _ _ h = absurd h

    pub same_argument : (e e' : Argument P) → ClonesArgument R e e' → e' ≡ e
    same_argument (Positional s e) (Positional s' e') h = let p1 : e' ≡ e = same_expression e e' h.1 in cc
    same_argument (Named s name e) (Named s' name' e') h = let p2 : e' ≡ e = same_expression e e' h.2 in cc
    same_argument (Star s e) (Star s' e') h = let p1 : e' ≡ e = same_expression e e' h.1 in cc
    same_argument (StarStar s e) (StarStar s' e') h = let p1 : e' ≡ e = same_expression e e' h.1 in cc
    same_argument _ _ h = absurd h

    pub same_arguments : (e e' : Arguments P) → ClonesArguments R e e' → e' ≡ e
    same_arguments no_arguments no_arguments h = refl
    same_arguments (arguments a rest) (arguments a' rest') h = let p0 : a' ≡ a = same_argument a a' h.0 in let p1 : rest' ≡ rest =
        same_arguments rest rest' h.1 in cc
    same_arguments _ _ h = absurd h

    pub same_parameter : (e e' : Parameter P) → ClonesParameter R e e' → e' ≡ e
    same_parameter (Slash s) (Slash s') h = cc
    same_parameter (Normal s name p ty default) (Normal s' name' p' ty' default') h = let p2 : p' ≡ p = exact.assign p p' h.2 in
        let p3 : ty' ≡ ty = same_type ty ty' h.3 in let p4 : default' ≡ default = same_maybe default default' h.4 in cc
    same_parameter (NoArgs s) (NoArgs s') h = cc
    same_parameter (Args s name p ty) (Args s' name' p' ty') h = let p2 : p' ≡ p = exact.assign p p' h.2 in let p3 : ty' ≡ ty = same_type ty ty' h.3 in cc
    same_parameter (KwArgs s name p ty) (KwArgs s' name' p' ty') h = let p2 : p' ≡ p = exact.assign p p' h.2 in let p3 : ty' ≡ ty = same_type ty ty' h.3 in cc
    same_parameter _ _ h = absurd h

    same_parameters : (e e' : Parameters P) → ClonesParameters R e e' → e' ≡ e
    same_parameters no_parameters no_parameters h = refl
    same_parameters (parameters a rest) (parameters a' rest') h = let p0 : a' ≡ a = same_parameter a a' h.0 in let p1 : rest' ≡ rest =
        same_parameters rest rest' h.1 in cc
    same_parameters _ _ h = absurd h

    pub same_for : (e e' : ForIn P) → ClonesForIn R e e' → e' ≡ e
    same_for (for_in x e) (for_in x' e') h = let p0 : x' ≡ x = same_target x x' h.0 in let p1 : e' ≡ e = same_expression e e' h.1 in cc

    pub same_clause : (e e' : Clause P) → ClonesClause R e e' → e' ≡ e
    same_clause (for_clause f) (for_clause f') h = let p0 : f' ≡ f = same_for f f' h in cc
    same_clause (if_clause e) (if_clause e') h = let p0 : e' ≡ e = same_expression e e' h in cc
    same_clause _ _ h = absurd h

    same_clauses : (e e' : Clauses P) → ClonesClauses R e e' → e' ≡ e
    same_clauses no_clauses no_clauses h = refl
    same_clauses (clauses c rest) (clauses c' rest') h = let p0 : c' ≡ c = same_clause c c' h.0 in let p1 : rest' ≡ rest = same_clauses rest rest' h.1 in cc
    same_clauses _ _ h = absurd h

    pub same_target : (e e' : Target P) → ClonesTarget R e e' → e' ≡ e
    same_target (TupleTarget s xs) (TupleTarget s' xs') h = let p1 : xs' ≡ xs = same_targets xs xs' h.1 in cc
    same_target (IndexTarget s a i) (IndexTarget s' a' i') h = let p1 : a' ≡ a = same_expression a a' h.1 in let p2 : i' ≡ i = same_expression i i' h.2 in cc
    same_target (DotTarget s e name) (DotTarget s' e' name') h = let p1 : e' ≡ e = same_expression e e' h.1 in cc
    same_target (NameTarget s name p) (NameTarget s' name' p') h = let p2 : p' ≡ p = exact.assign p p' h.2 in cc
    same_target _ _ h = absurd h

    same_targets : (e e' : Targets P) → ClonesTargets R e e' → e' ≡ e
    same_targets no_targets no_targets h = refl
    same_targets (targets x rest) (targets x' rest') h = let p0 : x' ≡ x = same_target x x' h.0 in let p1 : rest' ≡ rest = same_targets rest rest' h.1 in cc
    same_targets _ _ h = absurd h

  pub same_load_arg : (e e' : LoadArg P) → ClonesLoadArg R e e' → e' ≡ e
  same_load_arg e e' h = λ i. record { local = h.local i; payload = exact.assign e.payload e'.payload h.payload i; their = h.their i; comma = h.comma i }

  same_option : (e e' : Option (Expression P)) → ClonesOption R e e' → e' ≡ e
  same_option None None h = refl
  same_option (Some e) (Some e') h = let p : e' ≡ e = same_expression e e' h in cc
  same_option _ _ h = absurd h

  mutual
    same_statement : (e e' : Statement P) → ClonesStatement R e e' → e' ≡ e
    same_statement (statement s f) (statement s' f') h = let p1 : f' ≡ f = same_form f f' h.1 in cc

    pub same_form : (e e' : Form P) → ClonesForm R e e' → e' ≡ e
    same_form Break Break h = refl
    same_form Continue Continue h = refl
    same_form Pass Pass h = refl
    same_form (Return e) (Return e') h = let p0 : e' ≡ e = same_option e e' h in cc
    same_form (Evaluate e) (Evaluate e') h = let p0 : e' ≡ e = same_expression e e' h in cc
    same_form (Assign x ty e) (Assign x' ty' e') h = let p0 : x' ≡ x = same_target x x' h.0 in let p1 : ty' ≡ ty = same_type ty ty' h.1 in
        let p2 : e' ≡ e = same_expression e e' h.2 in cc
    same_form (AssignModify x op e) (AssignModify x' op' e') h = let p0 : x' ≡ x = same_target x x' h.0 in let p2 : e' ≡ e = same_expression e e' h.2 in cc
    same_form (Block ss) (Block ss') h = let p0 : ss' ≡ ss = same_statements ss ss' h in cc
    same_form (IfThen e s) (IfThen e' s') h = let p0 : e' ≡ e = same_expression e e' h.0 in let p1 : s' ≡ s = same_statement s s' h.1 in cc
    same_form (IfElse e s t) (IfElse e' s' t') h = let p0 : e' ≡ e = same_expression e e' h.0 in let p1 : s' ≡ s = same_statement s s' h.1 in
        let p2 : t' ≡ t = same_statement t t' h.2 in cc
    same_form (For x e s) (For x' e' s') h = let p0 : x' ≡ x = same_target x x' h.0 in let p1 : e' ≡ e = same_expression e e' h.1 in
        let p2 : s' ≡ s = same_statement s s' h.2 in cc
    same_form (Def name p params ty body d) (Def name' p' params' ty' body' d') h = let p1 : p' ≡ p = exact.assign p p' h.1 in let p2 : params' ≡ params =
        same_parameters params params' h.2 in let p3 : ty' ≡ ty = same_type ty ty' h.3 in let p4 : body' ≡ body = same_statement body body' h.4 in
        let p5 : d' ≡ d = exact.def d d' h.5 in cc
    same_form (Load m args p) (Load m' args' p') h = let p1 : args' ≡ args = same_from_all_zip _ args args' h.1 same_load_arg in
        let p2 : p' ≡ p = exact.load p p' h.2 in cc
    same_form _ _ h = absurd h

    same_statements : (e e' : Statements P) → ClonesStatements R e e' → e' ≡ e
    same_statements no_statements no_statements h = refl
    same_statements (statements s rest) (statements s' rest') h = let p0 : s' ≡ s = same_statement s s' h.0 in let p1 : rest' ≡ rest =
        same_statements rest rest' h.1 in cc
    same_statements _ _ h = absurd h
