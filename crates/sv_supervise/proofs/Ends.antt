-- What an end of the loop means for the daemon, and what is known of an outcome.
use Rattle.std.proofs.Common.{◌≡◌, ◌≤◌, ℕ, List, Some, Ok, Err, inl, inr, refl, sym, subst, arith}
use Rattle.sv_supervise.specs.Arguments.{arguments_of}
use Rattle.sv_supervise.specs.declared.arguments.Arguments.{Arguments}
use Rattle.sv_base.specs.declared.config.Host.{Host}
use Rattle.sv_supervise.specs.Begin.Beginnings.{BeginsWith, IsOfReading, IsUnread}
use Rattle.sv_supervise.specs.declared.begin.beginning.Beginning.{Beginning}
use Rattle.sv_supervise.specs.MainLoop.Telling.{Told}
use Rattle.sv_supervise.specs.declared.main_loop.serving.End.{End}
use Rattle.sv_supervise.specs.declared.main_loop.serving.End.TheVariants as end_is
use Rattle.sv_out.specs.Faults.{Rose}
use Rattle.sv_out.specs.Files.{Files}
use Rattle.sv_supervise.specs.declared.outcome.Outcome.{Outcome}
use Rattle.sv_supervise.specs.declared.outcome.Outcome.TheVariants.{Usage, NoFile, Refused, Unreadable, NoMemory, Unwritten, Halted, WorldFailed, InputEnded, Full, Misplaced}
use Rattle.sv_supervise.specs.Journal.Begun.{begun as begun_text}
use Rattle.sv_supervise.specs.Journal.Header.{header_text}
use Rattle.sv_supervise.specs.declared.journal.lines.JournalLines.{JournalLines}
use Rattle.sv_supervise.specs.Supervising.{ComesTo, Runs, RunsTo, Serves, header_of, lines_of, outcome_of}

-- the header of what was read
pub header_is : (P : List ℕ → Type 0) (lines : JournalLines) (beginning : Beginning) (host : Host) (sizes : List (List ℕ × ℕ)) (included : List (List ℕ × List ℕ))
    → sizes ≡ beginning.sizes.items → included ≡ beginning.loaded.included
    → P (begun_text lines (header_text host sizes beginning.loaded.main included)) → P (header_of lines beginning host)
header_is P lines beginning host sizes included same also holds =
    subst (λ (is : List (List ℕ × ℕ)). P (begun_text lines (header_text host is beginning.loaded.main beginning.loaded.included))) same
    (subst (λ (is : List (List ℕ × List ℕ)). P (begun_text lines (header_text host sizes beginning.loaded.main is))) also holds)

-- what the loop's end means
pub served : (lines : JournalLines) (beginning : Beginning) (host : Host) (old new : Told) (end : End) → Serves lines beginning host old new end
    → RunsTo lines beginning host old new (outcome_of end)
served lines beginning host old new end_is.Halted serves = serves
served lines beginning host old new end_is.NoMemory serves = inr (inr serves)
served lines beginning host old new end_is.Broken serves = serves
served lines beginning host old new end_is.Ended serves = serves
served lines beginning host old new end_is.Full serves = serves
served lines beginning host old new end_is.Unwritten serves = inr serves
served lines beginning host old new (end_is.Misplaced number) serves = serves

-- the world failed only where the loop ended so
pub broken_end : (end : End) → outcome_of end ≡ WorldFailed → end ≡ end_is.Broken
broken_end end_is.Halted is = cc
broken_end end_is.NoMemory is = cc
broken_end end_is.Broken is = refl
broken_end end_is.Ended is = cc
broken_end end_is.Full is = cc
broken_end end_is.Unwritten is = cc
broken_end (end_is.Misplaced number) is = cc

-- and the journal wasn't written only where it did
pub unwritten_end : (end : End) → outcome_of end ≡ Unwritten → end ≡ end_is.Unwritten
unwritten_end end_is.Halted is = cc
unwritten_end end_is.NoMemory is = cc
unwritten_end end_is.Broken is = cc
unwritten_end end_is.Ended is = cc
unwritten_end end_is.Full is = cc
unwritten_end end_is.Unwritten is = refl
unwritten_end (end_is.Misplaced number) is = cc

-- an outcome of reading isn't one of the loop
pub reading_unbroken : (outcome : Outcome) → IsOfReading outcome → outcome ≡ WorldFailed → ⊥
reading_unbroken outcome reading is = subst IsOfReading is reading

pub reading_written : (outcome : Outcome) → IsOfReading outcome → outcome ≡ Unwritten → ⊥
reading_written outcome reading is = subst IsOfReading is reading

-- the shelf failed where a name can't be read
pub reading_unread : (outcome : Outcome) (name : List ℕ) → outcome ≡ Unreadable name → IsUnread {A = Beginning} (Err outcome)
reading_unread outcome name is = subst (λ (o : Outcome). IsUnread {A = Beginning} (Err o)) (sym is) tt

-- no name is unreadable once all was read
pub run_read : (lines : JournalLines) (beginning : Beginning) (host : Host) (old new : Told) (outcome : Outcome) (name : List ℕ)
    → RunsTo lines beginning host old new outcome → outcome ≡ Unreadable name → ⊥
run_read lines beginning host old new outcome name runs is = subst (RunsTo lines beginning host old new) is runs

-- a daemon that can't begin
pub not_begun : (words : List (List ℕ)) (host : Host) (files : Files) (told : Told) (arguments : Arguments) (outcome : Outcome)
    → arguments_of words ≡ Some arguments → BeginsWith files arguments.file host (Err outcome) → ComesTo words host files told told outcome
not_begun words host files told arguments Usage said because = absurd because
not_begun words host files told arguments (NoFile name) said because =
    record { arguments = arguments; said = said; because = because; untouched = refl }
not_begun words host files told arguments (Refused text) said because =
    record { arguments = arguments; said = said; because = because; untouched = refl }
not_begun words host files told arguments (Unreadable name) said because =
    record { arguments = arguments; said = said; because = because; untouched = refl }
not_begun words host files told arguments NoMemory said because = inl refl
not_begun words host files told arguments Unwritten said because = absurd because
not_begun words host files told arguments Halted said because = absurd because
not_begun words host files told arguments WorldFailed said because = absurd because
not_begun words host files told arguments InputEnded said because = absurd because
not_begun words host files told arguments Full said because = absurd because
not_begun words host files told arguments (Misplaced number) said because = absurd because

run_of : (words : List (List ℕ)) (host : Host) (files : Files) (old new : Told) (arguments : Arguments) (beginning : Beginning) (lines : JournalLines) (outcome : Outcome)
    → arguments_of words ≡ Some arguments → BeginsWith files arguments.file host (Ok beginning) → lines ≡ lines_of arguments.journal
    → RunsTo lines beginning host old new outcome → Runs words host files old new outcome
run_of words host files old new arguments beginning lines outcome said begins is runs = record {
  reads = record { arguments = arguments; said = said; beginning = beginning; begins = begins };
  runs = subst (λ (kept : JournalLines). RunsTo kept beginning host old new outcome) is runs;
}

-- a daemon that has begun
pub begun : (words : List (List ℕ)) (host : Host) (files : Files) (old new : Told) (arguments : Arguments) (beginning : Beginning) (lines : JournalLines) (outcome : Outcome)
    → arguments_of words ≡ Some arguments → BeginsWith files arguments.file host (Ok beginning) → lines ≡ lines_of arguments.journal
    → RunsTo lines beginning host old new outcome → ComesTo words host files old new outcome
begun words host files old new arguments beginning lines Usage said begins is runs = absurd runs
begun words host files old new arguments beginning lines (NoFile name) said begins is runs = absurd runs
begun words host files old new arguments beginning lines (Refused text) said begins is runs = absurd runs
begun words host files old new arguments beginning lines (Unreadable name) said begins is runs = absurd runs
begun words host files old new arguments beginning lines NoMemory said begins is runs =
    inr (run_of words host files old new arguments beginning lines NoMemory said begins is runs)
begun words host files old new arguments beginning lines Unwritten said begins is runs =
    run_of words host files old new arguments beginning lines Unwritten said begins is runs
begun words host files old new arguments beginning lines Halted said begins is runs =
    run_of words host files old new arguments beginning lines Halted said begins is runs
begun words host files old new arguments beginning lines WorldFailed said begins is runs =
    run_of words host files old new arguments beginning lines WorldFailed said begins is runs
begun words host files old new arguments beginning lines InputEnded said begins is runs =
    run_of words host files old new arguments beginning lines InputEnded said begins is runs
begun words host files old new arguments beginning lines Full said begins is runs =
    run_of words host files old new arguments beginning lines Full said begins is runs
begun words host files old new arguments beginning lines (Misplaced number) said begins is runs =
    run_of words host files old new arguments beginning lines (Misplaced number) said begins is runs

-- a count that rose after it stood higher
pub rose_later : (before mid now : ℕ) → before ≤ mid → Rose mid now → Rose before now
rose_later before mid now first rose = omega (arith, rose)
