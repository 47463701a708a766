-- `numbers_sound` meets its contract. Its tests are those of `numbers_sound`, joined in the same order.
use Rattle.session.specs.Sound.{numbers_sound}
use Rattle.soundness.proofs.sound.numbers_sound.Goals as goal

pub returns : goal.returns
unfolding numbers_sound
returns c = rw c.settings_sound.ensures
