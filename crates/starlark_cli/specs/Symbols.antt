-- What both programs print of the symbols of a load.
use Rattle.std.specs.Prelude.{◌++◌, codes}
use Rattle.starlark_lexer.specs.Tokens.{Text}
use Rattle.starlark_tree.specs.Literals.{quoted}

-- the local name, and the name in the module that is loaded
abbrev pub symbol_text : Text × Text → Text
symbol_text p = codes ", " ++ p.0 ++ codes " = " ++ quoted p.1
