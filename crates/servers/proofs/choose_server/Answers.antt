-- `choose_server`: the answers to what its invariant leaves.
use mathlib.Core.Path.{refl}
use Rattle.session.specs.Servers.{choose}
use native.Mathlib.Numerals.{add-one}
use Rattle.servers.proofs.choose_server.Goals as goal

pub loop-v-init : goal.loop-v-init
unfolding choose
loop-v-init c = refl

pub loop-v-preserved : goal.loop-v-preserved
unfolding choose
loop-v-preserved c = rw add-one (rw (← c.loop-v.invariant) c.better-best.ensures)
