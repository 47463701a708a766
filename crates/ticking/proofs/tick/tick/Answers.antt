-- `tick` meets its contract. Soundness is judged once; the clock and the choice then give what a tick changes, which is applied to the
-- state.
use mathlib.Core.Path.{sym, ◌∙◌}
use Rattle.session.proofs.SoundFacts.{sound_facts}
use Rattle.ticking.proofs.Ticks.{tick_turned, tick_refused}
use Rattle.ticking.proofs.tick.tick.Goals as goal

pub returns-then-not-is_sound : goal.returns-then-not-is_sound
returns-then-not-is_sound c = tick_refused c.args.s (sym c.is_sound.ensures ∙ c.if-not-is_sound.true)

pub tick_clock-clock-requires : goal.tick_clock-clock-requires
tick_clock-clock-requires c = (sound_facts c.args.s (sym c.is_sound.ensures ∙ c.if-not-is_sound.false)).numbers.running

pub returns : goal.returns
returns c =
    rw (c.apply.ensures, c.tick_change-change.ensures, c.tick_clock-clock.ensures)
    (tick_turned c.args.s (sym c.is_sound.ensures ∙ c.if-not-is_sound.false))
