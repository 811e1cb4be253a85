-- The output for the loads of a module.
use Rattle.std.specs.Prelude.{◌++◌, codes, flat_map}
use Rattle.starlark_syntax.specs.lexer.Places.{File}
use Rattle.starlark_syntax.specs.lexer.Tokens.{Text}
use Rattle.starlark_syntax.specs.modules.declared.module.AstModule.{AstModule}
use Rattle.starlark_syntax.specs.outline.Outline.{Load, loads}
use Rattle.starlark_syntax.specs.tree.Views.{statement_of}
use Rattle.starlark_examples.specs.Places.{place}

-- the line of a load: the position at which the other module is named, and its name
abbrev pub edge_line : File → Load → Text
edge_line file load = place file load.span ++ codes " loads " ++ load.module_id ++ codes "\n"

-- the lines of a module's loads, in order
abbrev pub edge_lines : AstModule → Text
edge_lines ast = flat_map (edge_line ast.codemap) (loads (statement_of ast.statement))
