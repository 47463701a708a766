-- `event_sound` meets its contract: each part of the test is the definition's. What is read for it is what the contents have at the
-- event's place.
use mathlib.Core.Path.{refl}
use Rattle.contents.specs.Tape.{event_sound}
use Rattle.contents.proofs.event_sound.Goals as goal

pub returns : goal.returns
unfolding event_sound
returns c =
    rw (
      c.body_length_fits.ensures,
      c.body_length.ensures,
      c.server_fits.ensures,
      c.server_at.ensures,
      c.kind_fits.ensures,
      c.kind_at-kind.ensures,
    ) refl
