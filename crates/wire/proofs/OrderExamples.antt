-- The rows of record data under either flags hold: each is shown by computing the definitions on it.
use mathlib.Core.Path.{refl}
use Rattle.octets.specs.Answers.{judged}
use Rattle.octets.specs.Numbers.{number_of, uint_in, octets_in}
use Rattle.octets.specs.Each.{every, first_from}
use Rattle.octets.proofs.Each.{◌and◌}
use Rattle.field_types.specs.FieldTypes.{is_type, width_of, is_number, is_signed, is_turned, field_order}
use Rattle.tables.specs.Table.{order_of, key_sound, block_end, head_sound, padding_sound, block_sound, block_at, table_sound, template_index}
use Rattle.tables.specs.Table.{template_at}
use Rattle.records.specs.Record.{fixed_length, blob_length, string_length, terminated_length, field_length, field_at, record_valid, record_answer}
use Rattle.records.specs.Walk.{signed_at, value_at, twos_complement_at, integer_at, next_key, step_under, step_of, visited}
use Rattle.appending.specs.Append.{number_fits, negative_fits, octets_fit, octets_field, append_answer, append_of, append_out}
use Rattle.wire.specs.OrderExamples.{AllHold, rows}

pub order_examples : AllHold rows
unfolding judged number_of uint_in octets_in every first_from is_type width_of is_number is_signed is_turned field_order order_of key_sound block_end head_sound
    padding_sound block_sound block_at table_sound template_index template_at fixed_length blob_length string_length terminated_length field_length
    field_at record_valid record_answer signed_at value_at twos_complement_at integer_at next_key step_under step_of visited number_fits negative_fits
    octets_fit octets_field append_answer append_of append_out
order_examples =
    (refl, refl) and (refl, refl) and (refl, refl) and (refl, refl) and (refl, refl) and (refl, refl) and (refl, refl) and (refl, refl)
    and (refl, refl) and (refl, refl) and (refl, refl) and (refl, refl) and (refl, refl) and (refl, refl) and (refl, refl) and (refl, refl)
    and (refl, refl) and (refl, refl) and (refl, refl) and (refl, refl) and (refl, refl) and (refl, refl) and (refl, refl) and (refl, refl)
    and (refl, refl) and (refl, refl) and (refl, refl) and (refl, refl) and (refl, refl) and (refl, refl) and (refl, refl) and (refl, refl)
    and (refl, refl) and (refl, refl) and (refl, refl) and (refl, refl) and (refl, refl) and (refl, refl) and (refl, refl) and (refl, refl)
    and (refl, refl) and (refl, refl) and (refl, refl) and (refl, refl) and (refl, refl) and (refl, refl) and (refl, refl) and (refl, refl)
    and (refl, refl) and (refl, refl) and (refl, refl) and (refl, refl) and (refl, refl) and (refl, refl) and (refl, refl) and (refl, refl)
    and (refl, refl) and (refl, refl) and (refl, refl) and (refl, refl) and (refl, refl) and (refl, refl)
    and refl and refl and refl and refl and refl and refl and refl and refl and refl
    and refl and refl and refl and refl and refl and refl and refl and refl
    and (refl, refl) and (refl, refl) and (refl, refl)
    and tt
