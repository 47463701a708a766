-- `set_up` meets its contract. The settings are judged once: where they are in their limits a fresh state is handed back.
use mathlib.Core.Path.{refl, sym, ◌∙◌}
use Rattle.octets.specs.Answers.{judged, refusal_of}
use Rattle.session.specs.Steps.{set_up}
use Rattle.soundness.proofs.set_up.set_up.Goals as goal

pub returns-then-not-settings_sound : goal.returns-then-not-settings_sound
unfolding set_up judged refusal_of
returns-then-not-settings_sound c = rw (sym c.settings_sound.ensures ∙ c.if-not-settings_sound.true) (record { same = refl; number = refl })

pub returns : goal.returns
unfolding set_up judged
returns c = rw (sym c.settings_sound.ensures ∙ c.if-not-settings_sound.false, c.fresh_state.ensures) (record { same = refl; number = refl })
