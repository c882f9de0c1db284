-- Links that are taken in, and those that are let go.
use Rattle.sv_base.specs.declared.ids.LinkId.{LinkId}
use Rattle.sv_base.specs.declared.state.Side.{Side}
use Rattle.sv_parts.specs.Links.Opening.{Numbered}
use Rattle.sv_parts.specs.declared.links.live_links.LiveLinks.{LiveLinks}
use Rattle.sv_threads.specs.Opening.{AcceptsLink, LetsLinkGo, TakesLink}
use Rattle.sv_threads.specs.declared.world.Accepted.{Accepted}

pub accepts : (K : Type 0) (side : Side) (object : K) (link : LinkId) (before after : Accepted K) (old new : LiveLinks K)
    → TakesLink side object before after → Numbered K object old new link → AcceptsLink K side before after old new
accepts K side object link before after old new takes numbered =
    record { object = object; link = link; takes = takes; waits = numbered.waiting }

pub lets_go : (K : Type 0) (side : Side) (object : K) (before after : Accepted K) → TakesLink side object before after
    → LetsLinkGo K side before after
lets_go K side object before after takes = record { object = object; takes = takes }
