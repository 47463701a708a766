-- `settings_of` meets its contract: each number is read where the definition reads it. Past the end of the body both read 0.
use mathlib.Core.Path.{refl}
use Rattle.events.specs.Events.{settings_of}
use Rattle.events.proofs.settings_of.Goals as goal

pub returns : goal.returns
unfolding settings_of
returns c =
    rw (
      c.get.ensures,
      c.get-2.ensures,
      c.get-3.ensures,
      c.get-4.ensures,
      c.get-5.ensures,
      c.priorities_of.ensures,
      c.get-6.ensures,
      c.get-7.ensures,
    )
    refl
