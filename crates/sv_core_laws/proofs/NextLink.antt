-- A turn that opens a link is accepted where the number of it is the next.
use Rattle.std.proofs.Common.{◌≡◌, ◌+◌, ℕ, List, [], ◌∷◌, ◌++◌, Bool, true, false, ◌&&◌, Option, Some, None, ap, ◌∙◌, refl, if◌then◌else◌}
use Rattle.std.specs.Prelude.{length}
use Rattle.std.proofs.lemmas.Bool.{eqb-true, false≢true}
use Rattle.sv_base.specs.declared.kind.Kind.TheVariants as kind
use Rattle.sv_base.specs.declared.spec.LogSpec.{LogSpec}
use Rattle.sv_core.specs.Events.{announces, offers_change}
use Rattle.sv_core_laws.specs.LinkHistory.{next_link}
use Rattle.sv_core.specs.Logging.{drop_line, logs_if, notes_if, tells_drop, tells_drops}
use Rattle.sv_core.specs.MachineState.{may_begin_in}
use Rattle.sv_core.specs.World.{World}
use Rattle.sv_core.specs.declared.part.Cause.{Cause}
use Rattle.sv_core.specs.declared.part.Cause.TheVariants as cause_is
use Rattle.sv_events.specs.declared.fact.Fact.TheVariants as fact
use Rattle.sv_children.specs.Lines.Written.{written}
use Rattle.sv_children.specs.declared.lines.line.Line.{Line}
use Rattle.sv_links.specs.LinkBook.{LinkRecord, is_next}
use Rattle.sv_out.specs.declared.order.Order.{Order}
use Rattle.sv_pool.specs.Offers.{offer_reports, offered}

-- what is opened has the next number
abbrev pub OpensNext : Cause → List LinkRecord → Type 0
OpensNext (cause_is.Opened link side) book = link ≡ next_link book
OpensNext cause book = Unit {0}

pub both_parts : (a b : Bool) → (a && b) ≡ true → (a ≡ true) × (b ≡ true)
both_parts true b e = (refl, e)
both_parts false b e = absurd (false≢true e)

pub opens_next : (cause : Cause) (w : World) → may_begin_in w cause ≡ true → OpensNext cause w.links
opens_next (cause_is.Opened link side) w may =
    ap (λ (number : ℕ). record { 0 = number })
    (eqb-true link.0 (1 + length w.links) (both_parts (is_next link w.links) _ may).0)
opens_next cause_is.Tick w may = tt
opens_next (cause_is.Exit run how) w may = tt
opens_next (cause_is.Heard run stream bytes) w may = tt
opens_next (cause_is.PipeEnd run stream) w may = tt
opens_next (cause_is.Brought link bytes) w may = tt
opens_next (cause_is.LinkEnd link) w may = tt
opens_next (cause_is.Start name) w may = tt
opens_next (cause_is.Stop name) w may = tt
opens_next (cause_is.Signal signal) w may = tt

-- ---- an event changes no link

links_logged : (log : LogSpec) (bytes : Option (List ℕ)) (w : World) → (logs_if log bytes w).links ≡ w.links
links_logged log None w = refl
links_logged log (Some bytes) w = refl

links_noted : (line : Option Line) (w : World) → (notes_if line w).links ≡ w.links
links_noted None w = refl
links_noted (Some line) w = links_logged w.config.main (written w.config.level w.moment line) w

links_told : (reports : List Order) (w : World) → (tells_drops reports w).links ≡ w.links
links_told [] w = refl
links_told (report ∷ reports) w =
    links_told reports (tells_drop report w) ∙ links_noted (drop_line report) (record w { given = w.given ++ report ∷ [] })

pub links_announced : (w : World) → (announces w).links ≡ w.links
links_announced w = by_test w.course.announced where
  told : World
  told = record w { course = record w.course { announced = true } }

  by_test : (b : Bool) → (if b then w else offers_change kind.SupervisorStateChangeRunning told).links ≡ w.links
  by_test true = refl
  by_test false =
      links_told (offer_reports kind.SupervisorStateChangeRunning fact.Supervisor w.pools)
      (record told { pools = offered kind.SupervisorStateChangeRunning fact.Supervisor w.pools })
