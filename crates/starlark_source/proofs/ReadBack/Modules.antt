-- Modules are read back.
use Rattle.std.proofs.Common.{◌≡◌, List as Seq, [], ◌∷◌, ◌++◌, refl, sym, ap, ◌∙◌, subst, append_assoc, append-nil, Result, Ok, Err, String, Global}
use Rattle.std.proofs.Common.{string_bytes, IfOk}
use Rattle.std.proofs.lemmas.List.{map-append}
use Rattle.starlark_lexer.specs.Tokens.{Text, Span, nowhere}
use Rattle.starlark_tree.specs.Ast as t
use Rattle.starlark_tree.specs.Ast.{no_payload, Form, Statement, statement}
use Rattle.starlark_spec.specs.Grammar.{Derivation, right_side}
use Rattle.starlark_spec.specs.Grammar.Nonterminal.{Module}
use Rattle.starlark_spec.specs.Grammar.Derivation.{module_none, module_stmt}
use Rattle.starlark_spec.specs.Trees.{tree, module_span, module_tree, one_or_block}
use Rattle.starlark_source.specs.declared.error.SourceError.{SourceError}
use Rattle.starlark_source.specs.Pieces.{Pieces}
use Rattle.starlark_source.specs.Lines.{as_block, form_lines, module_source, module_form, source_of}
use Rattle.starlark_source.specs.Unspanned.{unspanned_form, unspanned_statement}
use Rattle.starlark_source.specs.ReadsBack.{FormHasNoEmptyBlock, IsOrderly, ReadsBack}
use Rattle.starlark_source.proofs.ReadBack.Writing.{Sayable, Writes, Reads, none_written, followed, reads_as}
use Rattle.starlark_source.proofs.ReadBack.Derived.{said_sayable}
use Rattle.starlark_source.proofs.ReadBack.Smalls.{all_unspanned, Says, one_or_all}
use Rattle.starlark_source.proofs.ReadBack.Suites.{Written, nothing_more, then_more, Lays}
use Rattle.starlark_source.proofs.ReadBack.Statements.{form_read}

-- ---- the statements of a module

abbrev Modules : Pieces → Seq (Statement no_payload) → Type 0
Modules ps xs = Reads Module all_unspanned ps xs

no_statement : Modules [] []
no_statement = record { derivation = module_none; writes = none_written; looks = refl }

next_statement : {ps qs : Pieces} {xs : Seq (Statement no_payload)} {y : Statement no_payload}
    → Modules ps xs → Says qs y → Modules (ps ++ qs) (xs ++ y ∷ [])
next_statement m a = record {
  derivation = module_stmt m.derivation a.derivation;
  writes = followed m.writes a.writes;
  looks = map-append (λ v. unspanned_statement v) (tree m.derivation) (tree a.derivation ∷ []) ∙ (λ i. m.looks i ++ a.looks i ∷ []);
}

more_statements : {ps qs : Pieces} {xs ys : Seq (Statement no_payload)} → Modules ps xs → Written qs ys → Modules (ps ++ qs) (xs ++ ys)
more_statements {ps = ps} {xs = xs} m nothing_more = reads_as (sym (append-nil ps)) (sym (append-nil xs)) m
more_statements {ps = ps} {xs = xs} m (then_more {ps = qs} {qs = rs} {x = y} {xs = ys} a more) =
    reads_as (append_assoc ps qs rs) (append_assoc xs (y ∷ []) ys) (more_statements (next_statement m a) more)

-- ---- the whole module

-- a derivation has the tokens of a module's source, and its tree is that module apart from spans
pub record ReadsModule (m : Statement no_payload) : Type 0 where
  pub derivation : Derivation Module
  pub writes : Writes (right_side derivation) (module_source m)
  pub looks : unspanned_statement (module_tree derivation) ≡ unspanned_statement m

-- statements that are read as those of a module
read_back : (m : Statement no_payload) (xs : Seq (Statement no_payload)) → Modules (module_source m) xs
    → one_or_block nowhere xs ≡ unspanned_statement m → ReadsModule m
read_back m xs r is = record {
  derivation = r.derivation;
  writes = r.writes;
  looks = one_or_all (module_span r.derivation) (tree r.derivation) ∙ ap (one_or_block nowhere) r.looks ∙ is;
}

-- the lines of a form that is not an empty block
lines_back : (s : Span) (form : Form no_payload) → module_form s form ≡ form_lines as_block 0 s form
    → Lays (form_lines as_block 0 s form) (statement nowhere (unspanned_form form)) → ReadsModule (statement s form)
lines_back s form is l =
    read_back (statement s form) (l.first ∷ l.others) (reads_as (sym is) refl (more_statements no_statement l.written)) l.is

form_back : (s : Span) (form : Form no_payload) → module_form s form ≡ form_lines as_block 0 s form → Sayable (module_form s form)
    → FormHasNoEmptyBlock form → ReadsModule (statement s form)
form_back s form is h o = lines_back s form is (form_read as_block 0 s form (subst (λ ps. Sayable ps) is h) o)

pub sayable_back : (m : Statement no_payload) → Sayable (module_source m) → IsOrderly m → ReadsModule m
sayable_back (statement s (t.Block t.no_statements)) h o = read_back (statement s (t.Block t.no_statements)) [] no_statement refl
sayable_back (statement s (t.Block (t.statements a ss))) h o = form_back s (t.Block (t.statements a ss)) refl h o
sayable_back (statement s form) h o = form_back s form refl h o
