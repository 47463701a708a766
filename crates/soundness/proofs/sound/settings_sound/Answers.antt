-- `settings_sound` meets its contract. Its tests are those of `settings_sound`, joined in the same order.
use mathlib.Core.Path.{refl}
use Rattle.session.specs.Sound.{settings_sound}
use Rattle.soundness.proofs.sound.settings_sound.Goals as goal

pub returns : goal.returns
unfolding settings_sound
returns c = refl
