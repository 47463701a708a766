-- The starred boundary examples hold: each row is shown by computing the definitions on it.
use mathlib.Core.Path.{refl}
use Rattle.octets.specs.Answers.{judged}
use Rattle.octets.specs.Numbers.{number_of, uint_in, octets_in}
use Rattle.octets.specs.Each.{every, first_from}
use Rattle.wire.specs.FieldTypes.{is_type, width_of}
use Rattle.wire.specs.Messages.{is_message, body_fits, message_of, layout_of, read_answer, data_head_of, meaning_of, read_of, part_at, part_of}
use Rattle.wire.specs.Table.{key_sound, block_end, head_sound, padding_sound, block_sound, block_at, table_sound, template_index, template_at}
use Rattle.wire.specs.Record.{fixed_length, field_length, field_at, record_valid, record_answer}
use Rattle.session.specs.Servers.{choose, changed, settle, acknowledged}
use Rattle.session.specs.Queue.{sum_of, has, drop_front}
use Rattle.session.specs.Sound.{settings_sound, numbers_sound, sound}
use Rattle.session.specs.Steps.{ack_count, answer, checks, after, settled, store_after, written, step}
use Rattle.session.specs.Examples.{stars, AllHold}

pub examples : AllHold stars
unfolding number_of uint_in octets_in every first_from is_type width_of is_message body_fits message_of layout_of read_answer data_head_of meaning_of
    read_of part_at part_of key_sound block_end head_sound padding_sound block_sound block_at table_sound template_index template_at fixed_length
    field_length field_at record_valid record_answer choose changed settle acknowledged sum_of has drop_front settings_sound numbers_sound sound
    ack_count answer checks after settled store_after written step judged
examples = (
  (refl, (refl, refl)),
  (
    (refl, (refl, refl)),
    (
      refl,
      (
        refl,
        (
          refl,
          (
            refl,
            (
              (refl, (refl, refl)),
              ((refl, (refl, refl)), ((refl, (refl, refl)), ((refl, (refl, refl)), ((refl, (refl, refl)), tt)))),
            ),
          ),
        ),
      ),
    ),
  ),
)
