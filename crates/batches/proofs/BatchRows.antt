-- The batches that were worked out from the papers: each is computed. Where the records end before the given number, it does not matter how
-- large that number is: the largest is not counted down.
use mathlib.Core.Path.{refl}
use Prim.Native.Nat.{ℕ, suc}
use Rattle.octets.specs.Answers.{nothing_to_send}
use Rattle.octets.specs.Numbers.{octets_in}
use Rattle.octets.specs.Each.{every}
use Rattle.wire.specs.Messages.{message_of, layout_of}
use Rattle.session.specs.Servers.{choose, changed, settle, sent_one}
use Rattle.session.specs.Queue.{ring_read, sum_of, record_at, has, has_other, marked}
use Rattle.session.specs.Sound.{settings_sound, numbers_sound, sound}
use Rattle.session.specs.Steps.{head_of, written, checks, answer, after, settled, store_after, step}
use Rattle.batches.specs.Batches.{batch}
use Rattle.batches.specs.BatchRows.{row, Holds, BatchRows}
use Rattle.session.specs.declared.state.Phase.TheVariants.{Agreed}

-- two records are left, and the given number is 3 or more
records_end_lem : (n : ℕ) → Holds (row Agreed 1 1024 (suc (suc (suc n))) 1000 nothing_to_send 2 36 3)
unfolding octets_in every message_of layout_of choose changed settle sent_one ring_read sum_of record_at has has_other marked settings_sound
    numbers_sound sound head_of written checks answer after settled store_after step batch
records_end_lem n = (refl, refl)

-- so with the largest number
largest_number : Holds (row Agreed 1 1024 18446744073709551615 1000 nothing_to_send 2 36 3)
largest_number = records_end_lem 18446744073709551612

pub batch_rows : BatchRows
unfolding octets_in every message_of layout_of choose changed settle sent_one ring_read sum_of record_at has has_other marked settings_sound
    numbers_sound sound head_of written checks answer after settled store_after step batch
batch_rows = record {
  at_number = ((refl, refl), ((refl, refl), ((refl, refl), ((refl, refl), tt))));
  records_end = ((refl, refl), ((refl, refl), (largest_number, ((refl, refl), ((refl, refl), tt)))));
  refused = ((refl, refl), ((refl, refl), ((refl, refl), ((refl, refl), ((refl, refl), ((refl, refl), tt))))));
  none_asked = ((refl, refl), ((refl, refl), ((refl, refl), tt)));
  unsound = ((refl, refl), ((refl, refl), ((refl, refl), ((refl, refl), ((refl, refl), ((refl, refl), tt))))));
  octets = refl;
}
