-- `write_record` meets its contract. The head is written where the whole message fits, and the record's octets behind it, so that both
-- together are the layout. Where it does not fit nothing was written.
use Rattle.std.proofs.Common.{◌≡◌, ℕ, ◌+◌, ◌++◌, length, sym, refl, ap, ◌∙◌, arith}
use Rattle.octets.specs.Numbers.{octets_in}
use Rattle.wire.specs.Messages.{data_head_octets}
use Rattle.wire.proofs.Messages.{placed_short, placed, data_layout, data_length}
use Rattle.octets.proofs.Judging.{handed_on}
use Rattle.octets.proofs.Stores.{sets_then}
use Rattle.session.specs.Queue.{ring_read}
use lib.Seq.{sets}
use Rattle.session.proofs.Rings.{read_length}
use Rattle.queue.proofs.Rings.{copied_inside}
use Rattle.sending.proofs.Sends.{head_octets, head_refused, head_out, head_room, head_kept}
use Rattle.sending.proofs.next_data.write_record.Goals as goal

pub returns-in_err-n : goal.returns-in_err-n
returns-in_err-n c =
    let a = c.args in
    let w = c.write_data_head.ensures in
    let part = ring_read (length a.store.now) a.store.now a.at a.len in
    let n : length part ≡ a.len = read_length (length a.store.now) a.store.now a.at a.len in
    let k = head_refused a.len (length a.out.now) _ c.requires.1.1 (sym w.0.same ∙ c.in_err-n.was) in
    rw (handed_on c.from_residual.ensures.1, k.0, w.1, head_kept a.head a.len a.out.now c.requires.1.1 k.1)
    (placed_short _ a.out.now (omega (arith, data_length a.head part)))

pub returns : goal.returns
unfolding octets_in
returns c =
    let a = c.args in
    let w = c.write_data_head.ensures in
    let part = ring_read (length a.store.now) a.store.now a.at a.len in
    let n : length part ≡ a.len = read_length (length a.store.now) a.store.now a.at a.len in
    let k = head_octets a.len (length a.out.now) _ c.requires.1.1 (sym w.0.same ∙ c.in_ok-n.was) in
    let fits = head_room a.head a.len a.out.now _ w.1 c.requires.1.1 k.1 in
    placed _ a.out.now _ _ (data_length a.head part ∙ ap (λ (m : ℕ). 16 + m) n ∙ sym k.0) (omega arith)
    (c.ring_read.ensures
    ∙ copied_inside a.store.now a.at a.len _ 16 c.requires.0 c.requires.1.0 fits
    ∙ sets_then a.out.now (data_head_octets a.head a.len) part _ 16
    (w.1 ∙ head_out a.head a.len a.out.now c.requires.1.1 k.1) refl
    ∙ ap (sets a.out.now 0) (ap (λ (m : ℕ). data_head_octets a.head m ++ part) (sym n) ∙ sym (data_layout a.head part)))
