-- `line_down` meets its contract, whatever store and output are.
use mathlib.Core.Path.{refl}
use Rattle.session.specs.InOctets.{LineDown}
use Rattle.events.proofs.Events.{stepped_gives, down_silent}
use Rattle.events.proofs.line_down.Goals as goal

pub returns : goal.returns
returns c store out =
    let a = c.args in
    rw c.take_stepped.ensures
    (stepped_gives _ store out _ (LineDown a.server) _ (down_silent a.s.now a.server) c.line_down-stepped.ensures refl)
