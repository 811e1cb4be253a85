-- The names of a load are read back.
use Rattle.std.proofs.Common.{◌≡◌, List as Seq, [], ◌∷◌, ◌++◌, map, Bool, true, false, if◌then◌else◌, None, refl, sym, append_assoc, append-nil, ap, ◌∙◌}
use Rattle.std.specs.Str.{bytes_eq}
use Rattle.std.proofs.lemmas.Slice.Eq.{bytes_eq-Decides}
use Rattle.starlark_lexer.specs.Tokens.{Span, String, nowhere}
use Rattle.starlark_lexer.specs.Tokens as tokens
use Rattle.starlark_tree.specs.Ast as t
use Rattle.starlark_tree.specs.Ast.{no_payload, LoadArg, Word, statement}
use Rattle.starlark_spec.specs.Grammar.Nonterminal.{Sym, Small, CommaList}
use Rattle.starlark_spec.specs.Grammar.ElementKind.{symbols}
use Rattle.starlark_spec.specs.Grammar.ElementOf.{of_symbols}
use Rattle.starlark_spec.specs.Grammar.Derivation.{sym_same, sym_other, symbols_list, optional_list_plain, small_load}
use Rattle.starlark_spec.specs.Trees.{tree, load_argument, load_arguments, commas}
use Rattle.starlark_source.specs.Pieces.{Pieces, token, comma, between}
use Rattle.starlark_source.specs.Literals.{name}
use Rattle.starlark_source.specs.Lines.{load_arg, load_args, load}
use Rattle.starlark_source.specs.Unspanned.{unspanned_word, unspanned_load, unspanned_statement}
use Rattle.starlark_source.proofs.ReadBack.Writing.{Sayable, split, Reads, one, followed, after, spaced, after_sign, reads_as, name_written}
use Rattle.starlark_source.proofs.ReadBack.Listing.{first_element, next_element}

-- two names, as those of a load's argument without spans
abbrev pub loaded : Word × Word → LoadArg no_payload
loaded names = unspanned_load (load_argument names None)

loaded_all : (ns : Seq (Word × Word)) (cs : Seq Span) → map (λ a. unspanned_load a) (load_arguments ns cs) ≡ map loaded ns
loaded_all [] cs = refl
loaded_all (n ∷ ns) [] = ap (λ l. loaded n ∷ l) (loaded_all ns [])
loaded_all (n ∷ ns) (c ∷ cs) = ap (λ l. loaded n ∷ l) (loaded_all ns cs)

symbol_if : (a : LoadArg no_payload) (same : Bool) → bytes_eq a.local.text a.their.text ≡ same
    → Sayable (if same then token (String a.their.text) ∷ [] else name a.local ++ (between tokens.Equal ++ token (String a.their.text) ∷ []))
    → Reads Sym loaded (if same then token (String a.their.text) ∷ [] else name a.local ++ (between tokens.Equal ++ token (String a.their.text) ∷ []))
    (unspanned_load a)
symbol_if a true is h = record {
  derivation = sym_same a.their.text nowhere;
  writes = one;
  looks = ap (λ text. record { local = record { text = text; span = nowhere }; payload = tt; their = unspanned_word a.their; comma = None })
      (sym ((bytes_eq-Decides a.local.text a.their.text).0 is));
}
symbol_if a false is h = record {
  derivation = sym_other a.local.text nowhere nowhere a.their.text nowhere;
  writes = followed (name_written a.local nowhere (split (name a.local) _ h).0) (after_sign one);
  looks = refl;
}

symbol_read : (a : LoadArg no_payload) → Sayable (load_arg a) → Reads Sym loaded (load_arg a) (unspanned_load a)
symbol_read a h = symbol_if a (bytes_eq a.local.text a.their.text) refl h

more_symbols : (args : Seq (LoadArg no_payload)) {ps : Pieces} {xs : Seq (LoadArg no_payload)} → Reads (CommaList symbols) (λ vs. map loaded vs) ps xs
    → Sayable (load_args args) → Reads (CommaList symbols) (λ vs. map loaded vs) (ps ++ load_args args) (xs ++ map (λ a. unspanned_load a) args)
more_symbols [] {ps = ps} {xs = xs} l h = reads_as (sym (append-nil ps)) (sym (append-nil xs)) l
more_symbols (a ∷ args) {ps = ps} {xs = xs} l h =
    let parts = split (comma ++ load_arg a) (load_args args) h in
    reads_as (append_assoc ps (comma ++ load_arg a) (load_args args)) (append_assoc xs (unspanned_load a ∷ []) (map (λ a. unspanned_load a) args))
    (more_symbols args (next_element of_symbols loaded l (symbol_read a parts.0)) parts.1)

pub load_read : (s : Span) (file : Word) (args : Seq (LoadArg no_payload)) → Sayable (load s file args)
    → Reads Small (λ v. unspanned_statement v) (load s file args) (statement nowhere (t.Load (unspanned_word file) (map (λ a. unspanned_load a) args) tt))
load_read s file [] h = absurd h
load_read s file (a ∷ args) h =
    let all = split (load_args (a ∷ args)) _ h in
    let parts = split (load_arg a) (load_args args) all.0 in
    let l = more_symbols args (first_element of_symbols loaded (symbol_read a parts.0)) parts.1 in
    let listed = optional_list_plain l.derivation in
    record {
      derivation = small_load nowhere nowhere file.text nowhere (symbols_list nowhere listed) nowhere;
      writes = after (after (after (followed (after (spaced 1 l.writes)) one)));
      looks = ap (λ l. statement nowhere (t.Load (unspanned_word file) l tt)) (loaded_all (tree listed) (commas listed) ∙ l.looks);
    }
