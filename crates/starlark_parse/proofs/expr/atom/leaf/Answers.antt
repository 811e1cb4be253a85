use Rattle.std.proofs.Common.{◌≡◌, Ok, Err, sym, refl, ap, ◌∙◌}
use Rattle.starlark_lexer.specs.Tokens.{lexeme, span_of, terminal}
use Rattle.starlark_lexer.specs.declared.span.Pos.{Pos}
use Rattle.starlark_tree.specs.Views as seen
use Rattle.starlark_spec.specs.Machine.Sight.{look_at}
use Rattle.starlark_spec.specs.Machine.Firsts.{is_leaf}
use Rattle.starlark_parse_cursor.specs.declared.cursor.Look.TheVariants as looks
use Rattle.starlark_spec.specs.declared.refusal.Refusal.TheVariants as refusals
use Rattle.starlark_parse_cursor.specs.Reading.{Advances, at, sight_of}
use Rattle.starlark_parse_cursor.proofs.Paths.{exits}
use Rattle.starlark_parse.proofs.ExprLemmas.Leaves.{leaf_parses}
use Rattle.starlark_parse.proofs.expr.atom.leaf.Goals as goal

pub returns-in_ok-atom-in-Token-clause-parses : goal.returns-in_ok-atom-in-Token-clause-parses
returns-in_ok-atom-in-Token-clause-parses g c =
    let look : c.args.cursor.now.look ≡ looks.Token c.in-Token.token c.in-Token.span = cc in
    let v : Advances g.I.Iterator.next_gives (at c.args.cursor.now) (lexeme (terminal c.in-Token.token) (span_of c.in-Token.span)) (at c.advance.new.self) =
    record {
      sees = ap sight_of look;
      pulls = c.advance.ensures.pulls;
      end_is = ap (λ (p : Pos). p.byte) (c.advance.ensures.end ∙ c.end-cursor.ensures);
      same_types = c.advance.ensures.types;
    } in
    leaf_parses _ _ (Ok c.in_ok-atom-in-Token.field-0) _ _ v (ap (λ k. is_leaf (look_at k).kind) (sym v.sees) ∙ c.requires.leaf)
    (ap seen.expression_of (c.in_ok-atom-in-Token.ensures ∙ c.into_tree.ensures) ∙ c.in_ok-tree-in-Token.ensures)

pub returns-in_err-atom-in-Token-clause-parses : goal.returns-in_err-atom-in-Token-clause-parses
returns-in_err-atom-in-Token-clause-parses g c =
    let look : c.args.cursor.now.look ≡ looks.Token c.in-Token.token c.in-Token.span = cc in
    let v : Advances g.I.Iterator.next_gives (at c.args.cursor.now) (lexeme (terminal c.in-Token.token) (span_of c.in-Token.span)) (at c.advance.new.self) =
    record {
      sees = ap sight_of look;
      pulls = c.advance.ensures.pulls;
      end_is = ap (λ (p : Pos). p.byte) (c.advance.ensures.end ∙ c.end-cursor.ensures);
      same_types = c.advance.ensures.types;
    } in
    exits _ _ _ _ _ _ _ c.from_residual-in_err-atom-in-Token.ensures.1
    (leaf_parses _ _ (Err refusals.Memory) _ _ v (ap (λ k. is_leaf (look_at k).kind) (sym v.sees) ∙ c.requires.leaf) refl)
