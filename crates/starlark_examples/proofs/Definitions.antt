-- What is documented of a definition.
use Rattle.std.proofs.Common.{◌≡◌, List, [], ◌∷◌, Option, map, string_bytes, refl, sym, ap, ◌∙◌}
use Rattle.starlark_syntax.specs.checks.Parameters.{Named, named}
use Rattle.starlark_syntax.specs.lexer.Tokens.{Text, span_of}
use Rattle.starlark_syntax.specs.lexer.declared.span.Spanned.{Spanned}
use Rattle.starlark_syntax.specs.tree.declared.ast.DefP.{DefP}
use Rattle.starlark_syntax.specs.tree.declared.ast.ParameterP.{ParameterP}
use Rattle.starlark_syntax.specs.tree.declared.ast.StmtP as stmts
use Rattle.starlark_syntax.specs.tree.Ast as t
use Rattle.starlark_syntax.specs.tree.Ast.{no_payload, parameter_list}
use Rattle.starlark_syntax.specs.tree.Views.{all_parameters, form_seen, parameter_of, statement_of}
use Rattle.starlark_examples.specs.Documentation.{Documented, docstring, documented}

parameters_listed : {P A B C D E : Type 0} (xs : List (Spanned (ParameterP P A B C D E))) → parameter_list (all_parameters xs) ≡ map parameter_of xs
parameters_listed [] = refl
parameters_listed (x ∷ xs) = ap (λ l. parameter_of x ∷ l) (parameters_listed xs)

abbrev entry : Text → List (Named no_payload) → Option Text → List Documented
entry name parameters text = record { name = name; parameters = parameters; docstring = text } ∷ []

module _ {P : Type 0} where
  pub definition_told : (s : Spanned (stmts.StmtP P (Unit {0}) (Unit {0}) (Unit {0}) (Unit {0}) (Unit {0})))
      (d : DefP P (Unit {0}) (Unit {0}) (Unit {0}) (Unit {0}) (Unit {0}))
      (name : Text) (parameters : List (Named no_payload)) (text : Option Text) → s.node ≡ stmts.Def d → name ≡ string_bytes d.name.node.ident
      → parameters ≡ named (map parameter_of d.params.items) → text ≡ docstring (form_seen d.body.value.node)
      → record { name = name; parameters = parameters; docstring = text } ∷ [] ≡ documented (statement_of s)
  definition_told s d name parameters text is name_is parameters_is text_is =
      ap (λ n. entry n parameters text) name_is
      ∙ ap (λ ps. entry (string_bytes d.name.node.ident) ps text) (parameters_is ∙ ap named (sym (parameters_listed d.params.items)))
      ∙ ap (λ x. entry (string_bytes d.name.node.ident) (named (parameter_list (all_parameters d.params.items))) x) text_is
      ∙ sym (ap (λ n. documented (t.statement (span_of s.span) (form_seen n))) is)
