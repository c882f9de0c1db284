use Rattle.std.proofs.Common.{◌≡◌, ◌-◌, ℕ, List, Ok, None, refl, length, subst}
use Rattle.std.specs.Prelude.{slice_get}
use Rattle.sv_journal.specs.Names.{spaced_name_at, names_at}
use Rattle.sv_journal.proofs.ReadingNames.{names_more}
use Rattle.sv_journal.proofs.names_line.names_of.Goals as goal

pub loop-left-preserved : goal.loop-left-preserved
loop-left-preserved c =
    names_more c.loop-left.left (c.loop-left.left - 1) c.loop-left.rest.now c.in-Ok.after.now c.loop-left.names.items c.push.new.self.items c.in-Ok.next
    (names_at None c.args.count c.args.bytes.now) c.loop-left-test.true refl c.in_ok-push-in-Ok.ensures.items
    (subst (λ (names : List (List ℕ)). spaced_name_at (slice_get names (length names - 1)) c.loop-left.rest.now ≡ Ok (c.in-Ok.next, c.in-Ok.after.now)) c.as_slice.ensures.value c.in-Ok.ensures)
    c.loop-left.invariant
