-- The session of the front page goes as it is written: each call is computed from its definition, on what the call before it left.
use mathlib.Core.Path.{refl}
use Rattle.octets.specs.Numbers.{number_of, uint_in, octets_in, put_at}
use Rattle.octets.specs.Each.{every, first_from}
use Rattle.wire.specs.FieldTypes.{width_of, is_type, is_signed, is_number}
use Rattle.wire.specs.Table.{key_sound, block_end, head_sound, padding_sound, block_sound, block_at, table_sound, template_index, template_at}
use Rattle.wire.specs.Table.{find_of, locate_of}
use Rattle.wire.specs.Record.{fixed_length, blob_length, string_length, terminated_length, field_length, field_at, record_valid, record_answer}
use Rattle.wire.specs.Messages.{is_message, body_fits, message_of, layout_of, header_answer_for, header_reading_for, read_answer, data_head_of}
use Rattle.wire.specs.Messages.{meaning_of, read_of, part_at, part_of, write_answer}
use Rattle.session.specs.Servers.{choose, changed, settle, transition, sent_one, acknowledged, other_agreed, expired, ticked}
use Rattle.session.specs.Queue.{ring_read, ring_write, sum_of, record_at, held_from, has, has_other, pushed, drop_front, marked}
use Rattle.session.specs.Sound.{settings_sound, numbers_sound, sound}
use Rattle.session.specs.Steps.{ack_count, form_answer, call_of_message, received, head_of, written, checks, answer, after, settled, store_after}
use Rattle.session.specs.Steps.{step, fresh, set_up}
use Rattle.session.specs.Claim.{begin}
use Rattle.session.specs.InOctets.{after_event}
use Rattle.exporter.specs.Driving.{Driven}

pub driven : Driven
unfolding number_of uint_in octets_in put_at every first_from width_of is_type is_signed is_number key_sound block_end head_sound padding_sound
    block_sound block_at table_sound template_index template_at find_of locate_of fixed_length blob_length string_length terminated_length field_length
    field_at record_valid record_answer is_message body_fits message_of layout_of header_answer_for header_reading_for read_answer data_head_of meaning_of
    read_of part_at part_of write_answer choose changed settle transition sent_one acknowledged other_agreed expired ticked ring_read ring_write
    sum_of record_at held_from has has_other pushed drop_front marked settings_sound numbers_sound sound ack_count form_answer call_of_message received
    head_of written checks answer after settled store_after step fresh set_up begin after_event
driven = (
  (refl, refl),
  (
    (refl, refl),
    ((refl, refl), ((refl, refl), ((refl, refl), ((refl, refl), ((refl, refl), ((refl, refl), ((refl, refl), tt))))))),
  ),
)
