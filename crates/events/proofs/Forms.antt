-- The rows of the two forms of settings hold: each is computed.
use mathlib.Core.Path.{refl}
use Rattle.octets.specs.Numbers.{number_of, uint_in}
use Rattle.session.specs.Sound.{settings_sound}
use Rattle.session.specs.Steps.{set_up}
use Rattle.session.specs.Order.{numbers_where}
use Rattle.contents.specs.Tape.{octets_at}
use Rattle.events.specs.Events.{settings_of, set_up_by}
use Rattle.events.specs.Forms.{SettingsForms}

pub settings_forms : SettingsForms
unfolding number_of uint_in settings_sound set_up numbers_where octets_at settings_of set_up_by
settings_forms =
    record { lengths = refl; shorter = refl; longer = refl; shorter_read = refl; longer_read = refl; store_read = refl }
