-- What is printed of a file, and of all files.
use Rattle.std.proofs.Common.{Global, String, ℕ, List, [], ◌++◌, append-nil, Option, Some, None, Result, Ok, Err, map, ap, inl, inr, refl, sym, ◌∙◌}
use Rattle.std.specs.Prelude.{IfOk, IsErr, MatchResult, codes, flat_map, length, nat_lt, string_bytes}
use Rattle.std.specs.Io.KnownBytes.{Appends, Keeps}
use Rattle.starlark_cli.proofs.ToolLemmas.PrintedFiles.{appends_kept, appends_none, appends_twice, cut_after, cut_longer, cut_none, cut_whole}
use Rattle.starlark_cli.specs.Tool.Cuts.{IsCut}
use Rattle.starlark_cli.specs.Tool.Folders.{StandFor}
use Rattle.starlark_cli.specs.Tool.PrintedFiles.{Entry, Prints, PrintsAll, PrintsEach, PrintsFile, PrintsFiles, PrintsFirst, PrintsFound}
use Rattle.starlark_cli.specs.Tool.PrintedFiles.{PrintsSome, PrintsWhole}
use Rattle.starlark_cli.specs.Tool.PrintedFiles.{all_err, all_out, closing_of, name_of, opening_of, out_of, summary_of}
use Rattle.starlark_cli.specs.Tool.Writing.{PrintsUnread}
use Rattle.starlark_cli.specs.declared.tool.folder.Found.{Found}
use Rattle.starlark_cli.specs.declared.tool.folder.Found.TheVariants.{Unread}
use Rattle.starlark_cli.specs.declared.tool.report.Counts.{Counts}
use Rattle.starlark_cli.specs.declared.tool.report.Finding.TheVariants.{Failed}
use Rattle.starlark_cli.specs.declared.tool.report.Report.{Report}
use Rattle.starlark_cli.specs.declared.tool.request.Request.{Request}
use Rattle.starlark_cli.specs.declared.tool.tally.Tally.{Tally}
use Rattle.starlark_cli.specs.declared.tool.task.Turn.{Turn}

module _ (r : Request) (turn : Turn) (f : Found) (known left : Option (List ℕ)) where
  pub whole : (report : Report) (o p e g : Option (List ℕ)) → PrintsFound r turn known left f report → Appends o p (string_bytes report.out)
      → Appends e g (string_bytes report.err) → PrintsWhole r turn f known left o p e g report.counts
  whole report o p e g printed out err = record {
    entry = record { found = f; report = Some report; left = left };
    this_file = refl;
    its_left = refl;
    printed = printed;
    out = out;
    err = err;
    counts_are = refl;
  }

  pub part : (report : Report) (o p : Option (List ℕ)) → PrintsFound r turn known left f report → IsCut o p (string_bytes report.out)
      → Prints r turn f known left o p
  part report o p printed out = record {
    entry = record { found = f; report = Some report; left = left };
    this_file = refl;
    its_left = refl;
    printed = printed;
    out = out;
  }

  pub whole_none : (o e g h : Option (List ℕ)) → Appends e g (name_of r f) → Appends g h (codes ": out of memory\n")
      → PrintsWhole r turn f known left o o e h (record { errors = 0; warnings = 0; finding = Failed })
  whole_none o e g h name line = record {
    entry = record { found = f; report = None; left = left };
    this_file = refl;
    its_left = refl;
    printed = tt;
    out = appends_none o;
    err = appends_twice e g h _ _ name line;
    counts_are = refl;
  }

  pub part_none : (o : Option (List ℕ)) → Prints r turn f known left o o
  part_none o = record {
    entry = record { found = f; report = None; left = left };
    this_file = refl;
    its_left = refl;
    printed = tt;
    out = cut_none o [];
  }

-- what is printed of a file or folder that could not be read
pub found_unread : {E : Type 0} (r : Request) (turn : Turn) (known : Option (List ℕ)) (path reason : String Global) (result : Result Report E)
    → IfOk result (PrintsUnread r.task turn (string_bytes path) (string_bytes reason)) → IfOk result (PrintsFound r turn known known (Unread path reason))
found_unread r turn known path reason (Ok report) h = (refl, h)
found_unread r turn known path reason (Err e) h = tt

-- what is printed if that failed
pub file_err : {E : Type 0} (r : Request) (turn : Turn) (f : Found) (known left o p e g : Option (List ℕ)) (result : Result Counts E) → IsErr result
    → Prints r turn f known left o p → PrintsFile r turn f known left o p e g result
file_err r turn f known left o p e g (Ok x) failed h = let bad : ⊥ = cc in absurd bad
file_err r turn f known left o p e g (Err x) failed h = h

pub files_err : {E : Type 0} (r : Request) (found : List Found) (known o p e g : Option (List ℕ)) (result : Result Tally E) → IsErr result
    → PrintsFirst r (nat_lt 1 (length found)) found known o p → PrintsFiles r found known o p e g result
files_err r found known o p e g (Ok x) failed h = let bad : ⊥ = cc in absurd bad
files_err r found known o p e g (Err x) failed h = h

pub all_failed : {E : Type 0} (r : Request) (known o p e g : Option (List ℕ)) (result : Result ℕ E) → IsErr result → PrintsSome r known o p
    → MatchResult result (PrintsAll r known o p e g) (λ _. PrintsSome r known o p)
all_failed r known o p e g (Ok x) failed h = let bad : ⊥ = cc in absurd bad
all_failed r known o p e g (Err x) failed h = h

-- nothing was written
pub some_none : (r : Request) (known a : Option (List ℕ)) → PrintsSome r known a a
some_none r known a = record {
  found = [];
  stands = inl refl;
  entries = [];
  others = [];
  first_files = refl;
  printed = tt;
  out = cut_none a (all_out r []);
}

module _ (r : Request) (known : Option (List ℕ)) (found : List Found) (stands : StandFor (map (λ p. p.now) r.paths.items) found) where
  pub some_opening : (a b : Option (List ℕ)) → IsCut a b (opening_of r.task) → PrintsSome r known a b
  some_opening a b cut = record {
    found = found;
    stands = inr stands;
    entries = [];
    others = found;
    first_files = refl;
    printed = tt;
    out = cut_longer a b (opening_of r.task) ([] ++ closing_of r.task) cut;
  }

  pub some_files : (a b c : Option (List ℕ)) → Appends a b (opening_of r.task) → PrintsFirst r (nat_lt 1 (length found)) found known b c
      → PrintsSome r known a c
  some_files a b c opening first = record {
    found = found;
    stands = inr stands;
    entries = first.entries;
    others = first.others;
    first_files = first.first_files;
    printed = first.printed;
    out = cut_after a b c (opening_of r.task) _ opening (cut_longer b c (flat_map out_of first.entries) (closing_of r.task) first.out);
  }

  pub some_closing : (left a b c d e g : Option (List ℕ)) (tally : Tally) → Appends a b (opening_of r.task)
      → PrintsEach r (nat_lt 1 (length found)) found known left b c e g tally → IsCut c d (closing_of r.task) → PrintsSome r known a d
  some_closing left a b c d e g tally opening each cut = record {
    found = found;
    stands = inr stands;
    entries = each.entries;
    others = [];
    first_files = append-nil (map (λ (x : Entry). x.found) each.entries) ∙ each.each_file;
    printed = each.printed;
    out = cut_after a b d (opening_of r.task) _ opening (cut_after b c d (flat_map out_of each.entries) (closing_of r.task) each.out cut);
  }

  pub some_all : (left a b c d d_kept e g : Option (List ℕ)) (tally : Tally) → Appends a b (opening_of r.task)
      → PrintsEach r (nat_lt 1 (length found)) found known left b c e g tally → Appends c d (closing_of r.task) → Keeps d d_kept → PrintsSome r known a d_kept
  some_all left a b c d d_kept e g tally opening each closing kept =
      some_closing left a b c d_kept e g tally opening each (cut_whole c d_kept (closing_of r.task) (appends_kept c d d_kept (closing_of r.task) closing kept))

  pub prints_all : (left a b c d d_kept e g h : Option (List ℕ)) (tally : Tally) → Appends a b (opening_of r.task)
      → PrintsEach r (nat_lt 1 (length found)) found known left b c e g tally → Appends c d (closing_of r.task) → Keeps d d_kept
      → Appends g h (summary_of r tally) → PrintsAll r known a d_kept e h tally.status
  prints_all left a b c d d_kept e g h tally opening each closing kept summary = record {
    found = found;
    stands = stands;
    entries = each.entries;
    each_file = each.each_file;
    printed = each.printed;
    out = appends_kept a d d_kept (all_out r each.entries)
        (appends_twice a b d (opening_of r.task) _ opening (appends_twice b c d (flat_map out_of each.entries) (closing_of r.task) each.out closing)) kept;
    err = rw (sym each.tally_is) (appends_twice e g h (all_err r each.entries) (summary_of r tally) each.err summary);
    status_is = ap (λ (t : Tally). t.status) each.tally_is;
  }
