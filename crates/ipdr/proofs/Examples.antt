-- The examples hold: each row is shown by computing the definitions on it.
use mathlib.Core.Path.{refl}
use Rattle.octets.specs.Answers.{judged, refusal_of}
use Rattle.octets.specs.Numbers.{number_of, uint_in, octets_in}
use Rattle.octets.proofs.Each.{◌and◌}
use Rattle.headers.specs.Headers.{header_answer_for, header_reading_for}
use Rattle.ipdr.specs.Fields.{counted_fits}
use Rattle.ipdr.specs.Messages.{is_message, widths_of, is_counted, content_by, body_of, layout_by, body_fits, read_answer, meaning_of, read_of}
use Rattle.ipdr.specs.Messages.{part_at, part_of, write_answer_by, write_by, write_out_by}
use Rattle.ipdr.specs.Examples.{AllHold, rows}

pub examples : AllHold rows
unfolding judged refusal_of number_of uint_in octets_in header_answer_for header_reading_for counted_fits is_message widths_of is_counted content_by body_of layout_by
    body_fits read_answer meaning_of read_of part_at part_of write_answer_by write_by write_out_by
examples =
    (refl, (refl, (refl, refl))) and (refl, (refl, (refl, refl))) and (refl, (refl, (refl, refl))) and (refl, (refl, (refl, refl)))
    and (refl, (refl, (refl, refl))) and (refl, (refl, (refl, refl))) and (refl, (refl, (refl, refl))) and (refl, (refl, (refl, refl)))
    and (refl, (refl, (refl, refl))) and (refl, (refl, (refl, refl))) and (refl, (refl, (refl, refl))) and (refl, (refl, (refl, refl)))
    and (refl, (refl, (refl, refl)))
    and (refl, (refl, refl)) and (refl, (refl, refl)) and (refl, (refl, refl)) and (refl, (refl, refl)) and (refl, (refl, refl))
    and (refl, (refl, refl)) and (refl, (refl, refl)) and (refl, (refl, refl)) and (refl, (refl, refl)) and (refl, (refl, refl))
    and (refl, (refl, refl)) and (refl, (refl, refl)) and (refl, (refl, refl)) and (refl, (refl, refl)) and (refl, (refl, refl))
    and (refl, (refl, refl)) and (refl, (refl, refl)) and (refl, (refl, refl)) and (refl, (refl, refl)) and (refl, (refl, refl))
    and (refl, (refl, refl)) and (refl, (refl, refl)) and (refl, (refl, refl)) and (refl, (refl, refl))
    and refl and refl and refl and refl
    and (refl, refl) and (refl, refl) and (refl, refl) and (refl, refl) and (refl, refl) and (refl, refl) and (refl, refl)
    and (refl, refl) and (refl, refl) and (refl, refl) and (refl, refl)
    and tt
