-- What is printed of files, one more at a time.
use Rattle.std.proofs.Common.{◌≡◌, ◌+◌, ◌<◌, ℕ, List, [], ◌∷◌, ◌++◌, append_assoc, append-nil, Option, Some, None, ap, refl, subst, sym, ◌∙◌}
use Rattle.std.proofs.Common.{drop, length, slice_index_or, take}
use Rattle.std.specs.Prelude.{Bool, flat_map, not}
use Rattle.std.specs.Io.KnownBytes.{Appends, Keeps}
use Rattle.std.proofs.lemmas.Grind.{flat_map-append}
use Rattle.std.proofs.lemmas.List.{map-append, take-append-drop, take_more}
use Rattle.std.proofs.lemmas.List.Sums.{fold-append}
use Rattle.starlark_lexer.specs.Tokens.{Text}
use Rattle.starlark_cli.specs.Tool.Cuts.{IsCut}
use Rattle.starlark_cli.specs.Tool.Tallies.{is_clean, no_files, with_file}
use Rattle.starlark_cli.specs.Tool.PrintedFiles.{ArePrinted, Entry, IsPrinted, Prints, PrintsEach, PrintsFirst, PrintsWhole}
use Rattle.starlark_cli.specs.Tool.PrintedFiles.{counts_of, err_of, left_of, out_of, tally_of, turn_after}
use Rattle.starlark_cli.specs.declared.tool.folder.Found.{Found}
use Rattle.starlark_cli.specs.declared.tool.report.Counts.{Counts}
use Rattle.starlark_cli.specs.declared.tool.request.Request.{Request}
use Rattle.starlark_cli.specs.declared.tool.tally.Tally.{Tally}
use Rattle.starlark_cli.specs.declared.tool.task.Turn.{Turn}

pub appends_none : (a : Option (List ℕ)) → Appends a a []
appends_none None = tt
appends_none (Some xs) = sym (append-nil xs)

pub appends_twice : (a b c : Option (List ℕ)) (x y : List ℕ) → Appends a b x → Appends b c y → Appends a c (x ++ y)
appends_twice None b c x y p q = tt
appends_twice (Some a) None c x y p q = absurd p
appends_twice (Some a) (Some b) None x y p q = absurd q
appends_twice (Some a) (Some b) (Some c) x y p q = q ∙ ap (λ l. l ++ y) p ∙ append_assoc a x y

pub appends_kept : (a b c : Option (List ℕ)) (x : List ℕ) → Appends a b x → Keeps b c → Appends a c x
appends_kept None b c x p q = tt
appends_kept (Some a) None c x p q = absurd p
appends_kept (Some a) (Some b) None x p q = absurd q
appends_kept (Some a) (Some b) (Some c) x p q = q ∙ p

-- nothing of a text
pub cut_none : (a : Option (List ℕ)) (text : Text) → IsCut a a text
cut_none a text = record { begin = []; rest = text; written = appends_none a; is_text = refl }

-- all of it
pub cut_whole : (a b : Option (List ℕ)) (text : Text) → Appends a b text → IsCut a b text
cut_whole a b text whole = record { begin = text; rest = []; written = whole; is_text = sym (append-nil text) }

-- a part of what follows
pub cut_after : (a b c : Option (List ℕ)) (x y : Text) → Appends a b x → IsCut b c y → IsCut a c (x ++ y)
cut_after a b c x y first cut = record {
  begin = x ++ cut.begin;
  rest = cut.rest;
  written = appends_twice a b c x cut.begin first cut.written;
  is_text = ap (λ l. x ++ l) cut.is_text ∙ sym (append_assoc x cut.begin cut.rest);
}

-- of a longer text
pub cut_longer : (a b : Option (List ℕ)) (x y : Text) → IsCut a b x → IsCut a b (x ++ y)
cut_longer a b x y cut = record {
  begin = cut.begin;
  rest = cut.rest ++ y;
  written = cut.written;
  is_text = ap (λ l. l ++ y) cut.is_text ∙ append_assoc cut.begin cut.rest y;
}

pub cut_kept : (a b c : Option (List ℕ)) (text : Text) → IsCut a b text → Keeps b c → IsCut a c text
cut_kept a b c text cut kept = record {
  begin = cut.begin;
  rest = cut.rest;
  written = appends_kept a b c cut.begin cut.written kept;
  is_text = cut.is_text;
}

parts_append : (f : Entry → Text) (entries : List Entry) (e : Entry) → flat_map f (entries ++ e ∷ []) ≡ flat_map f entries ++ f e
parts_append f entries e = flat_map-append f entries (e ∷ []) ∙ ap (λ l. flat_map f entries ++ l) (append-nil (f e))

are_printed_more : (r : Request) (many : Bool) (tally : Tally) (known : Option (List ℕ)) (entries : List Entry) (e : Entry)
    → ArePrinted r many tally known entries → IsPrinted r (turn_after (tally_of tally entries) many) (left_of known entries) e
    → ArePrinted r many tally known (entries ++ e ∷ [])
are_printed_more r many tally known [] e printed last = (last, tt)
are_printed_more r many tally known (x ∷ xs) e printed last =
    (printed.0, are_printed_more r many (with_file tally (counts_of x)) x.left xs e printed.1 last)

-- no files
pub prints_none : (r : Request) (many : Bool) (known out err : Option (List ℕ)) → PrintsEach r many [] known known out out err err no_files
prints_none r many known out err = record {
  entries = [];
  each_file = refl;
  printed = tt;
  its_left = refl;
  out = appends_none out;
  err = appends_none err;
  tally_is = refl;
}

-- in its turn, after those before
in_turn_of : (r : Request) (many : Bool) (tally now : Tally) (known left now_left : Option (List ℕ)) (e : Entry) → tally ≡ now → left ≡ now_left
    → IsPrinted r (turn_after tally many) left e → IsPrinted r (turn_after now many) now_left e
in_turn_of r many tally now known left now_left e same same_left printed =
    subst (λ (k : Option (List ℕ)). IsPrinted r (turn_after now many) k e) same_left
    (subst (λ (t : Tally). IsPrinted r (turn_after t many) left e) same printed)

-- one more file
pub prints_more : (r : Request) (many : Bool) (found : List Found) (f : Found) (known left left_new out out_now out_new err err_now err_new : Option (List ℕ))
    (tally tally_new : Tally) (counts : Counts)
    → PrintsEach r many found known left out out_now err err_now tally
    → PrintsWhole r (turn_after tally many) f left left_new out_now out_new err_now err_new counts
    → tally_new ≡ with_file tally counts
    → PrintsEach r many (found ++ f ∷ []) known left_new out out_new err err_new tally_new
prints_more r many found f known left left_new out out_now out_new err err_now err_new tally tally_new counts before file added = record {
  entries = before.entries ++ file.entry ∷ [];
  each_file = map-append (λ (e : Entry). e.found) before.entries (file.entry ∷ []) ∙ ap (λ l. l ++ file.entry.found ∷ []) before.each_file
      ∙ ap (λ p. found ++ p ∷ []) file.this_file;
  printed = are_printed_more r many no_files known before.entries file.entry before.printed
      (in_turn_of r many tally _ known left _ file.entry before.tally_is (sym before.its_left) file.printed);
  its_left = fold-append (λ (k : Option (List ℕ)) (e : Entry). e.left) known before.entries (file.entry ∷ []) ∙ file.its_left;
  out = rw (parts_append out_of before.entries file.entry) (appends_twice out out_now out_new _ _ before.out file.out);
  err = rw (parts_append (err_of r) before.entries file.entry) (appends_twice err err_now err_new _ _ before.err file.err);
  tally_is = added ∙ ap (λ c. with_file tally c) file.counts_are ∙ ap (λ t. with_file t (counts_of file.entry)) before.tally_is
      ∙ sym (fold-append (λ (t : Tally) (e : Entry). with_file t (counts_of e)) no_files before.entries (file.entry ∷ []));
}

-- one more file, of which writing failed
pub prints_cut : (r : Request) (many : Bool) (found others all : List Found) (f : Found) (known left left_new out out_now out_new err err_now : Option (List ℕ))
    (tally : Tally)
    → PrintsEach r many found known left out out_now err err_now tally
    → Prints r (turn_after tally many) f left left_new out_now out_new
    → (found ++ f ∷ []) ++ others ≡ all
    → PrintsFirst r many all known out out_new
prints_cut r many found others all f known left left_new out out_now out_new err err_now tally before file whole = record {
  entries = before.entries ++ file.entry ∷ [];
  others = others;
  first_files = ap (λ l. l ++ others) (map-append (λ (e : Entry). e.found) before.entries (file.entry ∷ [])
      ∙ ap (λ l. l ++ file.entry.found ∷ []) before.each_file ∙ ap (λ p. found ++ p ∷ []) file.this_file) ∙ whole;
  printed = are_printed_more r many no_files known before.entries file.entry before.printed
      (in_turn_of r many tally _ known left _ file.entry before.tally_is (sym before.its_left) file.printed);
  out = rw (parts_append out_of before.entries file.entry) (cut_after out out_now out_new _ _ before.out file.out);
}

-- of a new tally
pub prints_new : (r : Request) (many : Bool) (known out err : Option (List ℕ)) (tally : Tally) → tally ≡ no_files
    → PrintsEach r many [] known known out out err err tally
prints_new r many known out err tally new =
    subst (λ (t : Tally). PrintsEach r many [] known known out out err err t) (sym new) (prints_none r many known out err)

-- the turn of a file, if those before are clean or are not
abbrev turn_when : Bool → Bool → Turn
turn_when clean many = record { follows = not clean; is_one_of_many = many }

-- the next file of a list
module _ (r : Request) (many clean : Bool) (files : List Found) (i : ℕ) (f : Found) (known left left_new out out_now out_new err err_now : Option (List ℕ))
    (tally : Tally) (within : i < length files) (is : f ≡ slice_index_or files i f) (turn : clean ≡ is_clean tally)
    (before : PrintsEach r many (take i files) known left out out_now err err_now tally) where
  files_more : take (i + 1) files ≡ take i files ++ f ∷ []
  files_more = take_more files i f within ∙ ap (λ x. take i files ++ x ∷ []) (sym is)

  in_turn : turn_when clean many ≡ turn_after tally many
  in_turn = ap (λ b. turn_when b many) turn

  pub each_more : (err_new : Option (List ℕ)) (tally_new : Tally) (counts : Counts)
      → PrintsWhole r (turn_when clean many) f left left_new out_now out_new err_now err_new counts → tally_new ≡ with_file tally counts
      → PrintsEach r many (take (i + 1) files) known left_new out out_new err err_new tally_new
  each_more err_new tally_new counts file added =
      subst (λ (l : List Found). PrintsEach r many l known left_new out out_new err err_new tally_new) (sym files_more)
      (prints_more r many (take i files) f known left left_new out out_now out_new err err_now err_new tally tally_new counts before
      (subst (λ (t : Turn). PrintsWhole r t f left left_new out_now out_new err_now err_new counts) in_turn file) added)

  pub each_cut : Prints r (turn_when clean many) f left left_new out_now out_new → PrintsFirst r many files known out out_new
  each_cut file =
      prints_cut r many (take i files) (drop (i + 1) files) files f known left left_new out out_now out_new err err_now tally before
      (subst (λ (t : Turn). Prints r t f left left_new out_now out_new) in_turn file)
      (ap (λ l. l ++ drop (i + 1) files) (sym files_more) ∙ take-append-drop (i + 1) files)
