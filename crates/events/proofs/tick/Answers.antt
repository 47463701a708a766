-- `tick` meets its contract, whatever store and output are.
use mathlib.Core.Path.{refl}
use Rattle.session.specs.InOctets.{Tick}
use Rattle.events.proofs.Events.{stepped_gives, tick_silent}
use Rattle.events.proofs.tick.Goals as goal

pub returns : goal.returns
returns c store out =
    rw c.take_stepped.ensures (stepped_gives _ store out _ Tick _ (tick_silent c.args.s.now) c.tick-stepped.ensures refl)
