-- `play`: no event leaves all as it was, and one event more is its call.
use Rattle.std.proofs.Common.{refl, add-one}
use Rattle.sessions.specs.Sessions.{played}
use Rattle.sessions.proofs.play.Goals as goal

pub loop-i-init : goal.loop-i-init
unfolding played
loop-i-init c = refl

pub loop-i-preserved : goal.loop-i-preserved
unfolding played
loop-i-preserved c = rw add-one (rw (← c.loop-i.invariant) c.play_event-total.ensures)
