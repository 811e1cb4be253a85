use Rattle.std.proofs.Common.{is_ok, le_refl}
use Rattle.std.proofs.lemmas.Str.{IsUtf8-had}
use Rattle.starlark_lexer.proofs.FStringLemmas.{opening_text, opened_more}
use Rattle.starlark_lexer.proofs.StringFits.{opening_ends}
use Rattle.starlark_lexer.proofs.lexer.Lexer.open_f_string.Goals as goal

pub invariant_of-self : goal.invariant_of-self
invariant_of-self c =
    let l = c.args.self.now in
    let fits = opening_ends c.args.style c.args.n l.rest.now (IsUtf8-had _ l.utf8) c.requires.opening in
    record {
      small = l.small;
      shallow = l.shallow;
      utf8 = l.utf8;
      opened = opened_more l.at l.f_strings.items c.push.new.self.items _ (is_ok c.push.result) c.push.ensures.items l.opened (record {
        quoted = fits.0;
        text = opening_text l.rest.now c.args.style c.args.n c.requires.opening c.requires.format;
        begin = le_refl l.at;
        depth = l.shallow;
      });
    }

pub take-requires : goal.take-requires
take-requires c = (opening_ends c.args.style c.args.n c.args.self.now.rest.now (IsUtf8-had _ c.args.self.now.utf8) c.requires.opening).2
