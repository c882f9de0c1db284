use Rattle.sv_lane.proofs.AnyRole.{posts_as, learns_nothing}
use Rattle.sv_lane.proofs.poster.Poster.post.Goals as goal

pub send_as-requires-clause-rule : goal.send_as-requires-clause-rule
send_as-requires-clause-rule g c = (posts_as _ _ _ _ c.loop.self.posting, learns_nothing _ _)
