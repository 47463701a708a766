-- The refusals come in the paper's order: each turn's answer is computed.
use mathlib.Core.Path.{refl}
use Rattle.octets.specs.Numbers.{number_of, uint_in, octets_in}
use Rattle.octets.specs.Each.{every, first_from}
use Rattle.wire.specs.FieldTypes.{is_type, width_of}
use Rattle.wire.specs.Messages.{is_message, body_fits, message_of, layout_of, read_answer, meaning_of, write_answer, head_write_answer}
use Rattle.wire.specs.Table.{key_sound, block_end, head_sound, padding_sound, block_sound, block_at, table_sound, template_index, template_at}
use Rattle.wire.specs.Record.{fixed_length, field_length, field_at, record_valid}
use Rattle.session.specs.Servers.{choose}
use Rattle.session.specs.Queue.{ring_read, sum_of, record_at, has, has_other}
use Rattle.session.specs.Sound.{settings_sound, numbers_sound, sound}
use Rattle.session.specs.Steps.{ack_count, form_answer, call_of_message, received, head_of, written, checks, answer, step, set_up}
use Rattle.session.specs.Order.{numbers_where, RefusalOrder}

pub refusal_order : RefusalOrder
unfolding number_of uint_in octets_in every first_from is_type width_of is_message body_fits message_of layout_of read_answer meaning_of write_answer
    head_write_answer key_sound block_end head_sound padding_sound block_sound block_at table_sound template_index template_at fixed_length field_length
    field_at record_valid choose ring_read sum_of record_at has has_other settings_sound numbers_sound sound ack_count form_answer call_of_message
    received head_of written checks answer step set_up numbers_where
refusal_order =
    record {
      set_ups = (refl, (refl, (refl, refl)));
      sets = (refl, refl);
      put = refl;
      next_data = refl;
      offer = refl;
      line_down = refl;
      tick = refl;
      receive = refl;
      numbers = refl;
      data_ack = refl;
      reply = refl;
      reading = refl;
      read_numbers = refl;
      tmpl_data = refl;
      data_message = (refl, refl);
    }
