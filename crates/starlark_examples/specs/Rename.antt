-- The spans at which a name means the functions that a module defines at its top, and a text with another name at these spans.
use Rattle.std.specs.Prelude.{◌≡◌, ℕ, ◌≤◌, List as Seq, [], ◌∷◌, ◌++◌, drop, flat_map, slice_range, if◌then◌else◌, ⊤, IsPermutation}
use Rattle.std.specs.Str.{bytes_eq}
use Rattle.starlark_syntax.specs.lexer.Tokens.{Span, Text}
use Rattle.starlark_syntax.specs.modules.declared.module.AstModule.{AstModule}
use Rattle.starlark_syntax.specs.outline.Outline.{top_statements}
use Rattle.starlark_syntax.specs.tree.Ast as t
use Rattle.starlark_syntax.specs.tree.Ast.{Payloads, Word}
use Rattle.starlark_syntax.specs.tree.Views.{statement_of}
use Rattle.starlark_syntax.specs.uniplate.Idents.{all_idents}

-- the span of an identifier, if it is that name
abbrev pub span_if : Text → Word → Seq Span
span_if name word = if bytes_eq word.text name then word.span ∷ [] else []

module _ {P : Payloads} where
  -- the span of the name at which a statement defines a function of it
  abbrev pub definition : Text → t.Statement P → Seq Span
  definition name (t.statement s (t.Def word p params ty body q)) = span_if name word
  definition name _ = []

  -- the spans at which the name is read
  abbrev pub reads : Text → t.Statement P → Seq Span
  reads name (t.statement s form) = flat_map (λ ident. span_if name ident.0) (all_idents form)

  -- the spans at which a module reads the name, and those at which it defines functions of the name at its top
  abbrev pub spans_of : Text → t.Statement P → Seq Span
  spans_of name top = reads name top ++ flat_map (definition name) (top_statements top)

-- spans that come in order, each after the one before it
abbrev pub are_apart : ℕ → Seq Span → Type 0
are_apart from [] = ⊤
are_apart from (span ∷ spans) = (from ≤ span.begin) × are_apart span.end spans

-- a text from a byte on, with a name instead of what is at spans
abbrev pub with_name : Text → Text → ℕ → Seq Span → Text
with_name text name from [] = drop from text
with_name text name from (span ∷ spans) = slice_range text from span.begin ++ (name ++ with_name text name span.end spans)

pub record WithName (text name : Text) (spans : Seq Span) (out : Text) : Type 0 where
  pub apart : are_apart 0 spans
  pub is : out ≡ with_name text name 0 spans

-- the text of a module, with the new name wherever the old one means a function at its top
pub record IsRenamed (ast : AstModule) (old new out : Text) : Type 0 where
  pub spans : Seq Span
  pub are_all : IsPermutation (spans_of old (statement_of ast.statement)) spans
  pub is_written : WithName ast.codemap.text new spans out
