-- A parsed module fits, so a reader gets it back.
use Rattle.std.proofs.Common.{[], sym, subst}
use Rattle.std.specs.List.{AllByRecursion}
use Rattle.starlark_json.specs.Parsed.{IsParsed, content_of}
use Rattle.starlark_json.specs.Reading.{ModuleFits}
use Rattle.starlark_lexer.specs.Lexemes.{lexemes}
use Rattle.starlark_lexer.specs.declared.dialect.Dialect.{Dialect}
use Rattle.starlark_module.specs.declared.module.AstModule.{AstModule}
use Rattle.starlark_spec.specs.Grammar.{Derivation, right_side}
use Rattle.starlark_spec.specs.Grammar.Nonterminal.{Module}
use Rattle.starlark_spec.specs.Items.{Items, items}
use Rattle.starlark_tree.specs.Ast.{Statement, no_payload}
use Rattle.starlark_json.specs.Tree.Fitting.{SpanFits, StatementFits}
use Rattle.starlark_validate.specs.Answers.{IsValidModule}
use Rattle.starlark_json.proofs.Fits.Tokens.{AllFit, side_fits}
use Rattle.starlark_json.proofs.Fits.Derivations.{module_fits}
use Rattle.starlark_json.proofs.Fits.Lexemes.{items_fit, comments_fit}

-- the tree of a valid module of tokens that fit
pub valid_fits : (dialect : Dialect) (its : Items) (s : Statement no_payload) → AllFit its.tokens → IsValidModule dialect its s → StatementFits s
valid_fits dialect its s fit v =
    let d : Derivation Module = v.derivation in
    let side = side_fits (right_side d) [] (subst AllFit v.keeps.derived.derives.0 fit) in
    subst StatementFits (sym v.tree_is) (module_fits d side)

pub parsed_fits : (m : AstModule) → IsParsed m → ModuleFits (content_of m)
parsed_fits m parsed = (
  subst (AllByRecursion SpanFits) (sym parsed.comments) (comments_fit m.codemap.text parsed.utf8 parsed.short),
  valid_fits m.dialect (items (lexemes m.codemap.text)) _ (items_fit m.codemap.text parsed.utf8 parsed.short) parsed.tree,
)
