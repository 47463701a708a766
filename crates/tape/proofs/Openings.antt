-- The rows of opening tapes hold: each is computed.
use mathlib.Core.Path.{refl}
use Rattle.octets.specs.Numbers.{number_of, uint_in}
use Rattle.octets.specs.Each.{every, first_from}
use Rattle.wire.specs.FieldTypes.{is_type, width_of}
use Rattle.wire.specs.Table.{key_sound, block_end, head_sound, padding_sound, block_sound, block_at, table_sound}
use Rattle.session.specs.Sound.{settings_sound}
use Rattle.session.specs.Steps.{set_up}
use Rattle.session.specs.Claim.{begin}
use Rattle.contents.specs.Tape.{body_at, octets_at, event_sound, tape_sound}
use Rattle.events.specs.Events.{settings_of, set_up_by}
use Rattle.tape.specs.Replay.{calls_from, lines_of, replay}
use Rattle.tape.specs.Openings.{Openings}

pub openings : Openings
unfolding number_of uint_in every first_from is_type width_of key_sound block_end head_sound padding_sound block_sound block_at table_sound
    settings_sound set_up begin body_at octets_at event_sound tape_sound settings_of set_up_by calls_from lines_of replay
openings = refl
