-- `events_sound`: one event more passes, or one that fails decides.
use mathlib.Core.Path.{sym}
use native.Mathlib.Omega.{arith}
use borrow.Author.Rules.{rules}
use Rattle.octets.specs.Each.{every}
use Rattle.octets.proofs.Each.{every_false, every_step}
use Rattle.contents.specs.Tape.{event_sound}
use Rattle.contents.proofs.events_sound.Goals as goal

pub loop-i-init : goal.loop-i-init
unfolding every
loop-i-init c = search rules

pub returns-then-not-event_sound : goal.returns-then-not-event_sound
returns-then-not-event_sound c =
    sym (every_false _ (event_sound c.args.tape.now) c.loop-i.i (omega arith) (search (rules, c.if-not-event_sound.true, c.event_sound.ensures)))

pub loop-i-preserved : goal.loop-i-preserved
loop-i-preserved c = every_step _ _ c.loop-i.invariant (search (rules, c.if-not-event_sound.false, c.event_sound.ensures))
