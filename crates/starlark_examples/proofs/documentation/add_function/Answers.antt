use Rattle.std.proofs.Common.{[], ◌∷◌, ◌++◌, map, option_map, ap, ◌∙◌}
use Rattle.std.proofs.lemmas.List.{map-append}
use Rattle.starlark_syntax.specs.checks.Parameters.{named, named_of}
use Rattle.starlark_syntax.specs.tree.Views.{form_seen, parameter_of}
use Rattle.starlark_examples.specs.Documentation.{docstring, function_of, text_of}
use Rattle.starlark_examples.proofs.Definitions.{definition_told}
use Rattle.starlark_examples.proofs.documentation.add_function.Goals as goal

pub returns-in_ok-push-in-Def : goal.returns-in_ok-push-in-Def
returns-in_ok-push-in-Def c =
    ap (map function_of) c.in_ok-push-in-Def.ensures.items ∙ map-append function_of c.args.found.now.items (_ ∷ [])
    ∙ ap (λ l. map function_of c.args.found.now.items ++ l)
    (definition_told c.args.statement.now c.in-Def.def c.as_str.result.now (map named_of c.in_ok-params-in-Def.params.params.items)
    (option_map text_of c.docstring.result) c.in-Def.is
    c.as_str.ensures.value (c.in_ok-params-in-Def.ensures.params ∙ ap (λ ps. named (map parameter_of ps)) c.deref.ensures.value)
    (c.docstring.ensures ∙ ap (λ s. docstring (form_seen s.node)) c.deref-in-Def.ensures))
