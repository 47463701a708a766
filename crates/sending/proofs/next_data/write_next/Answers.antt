-- `write_next` meets its contract. The record's place and length lie in the store, and what is read there is the record.
use Rattle.std.proofs.Common.{◌+◌, ◌∙◌, mod-lt, take, List, ℕ, arith, subst, length}
use Rattle.wire.specs.Messages.{Placed}
use Rattle.session.specs.Queue.{sum_of}
use Rattle.session.proofs.SoundFacts.{sound_facts}
use Rattle.queue.proofs.Rings.{start_inside}
use Rattle.soundness.proofs.Parts.{active_below}
use Rattle.sending.proofs.Sends.{next_octets, sent_few}
use Rattle.sending.proofs.next_data.write_next.Goals as goal

pub offset_bounds-s-s : goal.offset_bounds-s-s
offset_bounds-s-s c = omega (arith, sent_few c.args.s.now c.args.store.now c.requires.0)

pub bounds-s-s : goal.bounds-s-s
bounds-s-s c = sent_few c.args.s.now c.args.store.now c.requires.0

pub next_head-head-requires : goal.next_head-head-requires
next_head-head-requires c =
    let s = c.args.s.now in
    let r = c.requires.0 in
    let f = sound_facts s r.is_sound in
    (f.numbers.few, (sent_few s c.args.store.now r, (active_below s r.is_sound, f.known s.delivery.sent r.more)))

pub write_record-requires : goal.write_record-requires
write_record-requires c =
    let s = c.args.s.now in
    let r = c.requires.0 in
    let f = sound_facts s r.is_sound in
    let e = c.requires.1 ∙ start_inside s.capacity s.start s.queue.lengths s.delivery.sent f.numbers.inside in
    let l = mod-lt (s.start + sum_of (take s.delivery.sent s.queue.lengths)) {m = s.capacity} (omega (arith, f.numbers.inside)) in
    let short = f.short s.delivery.sent r.more in
    (omega (arith, e, l, r.stored), (omega (arith, short, r.stored, f.numbers.settings.some_room), short))

pub returns : goal.returns
returns c =
    let a = c.args in
    let s = a.s.now in
    let r = c.requires.0 in
    let e =
    next_octets s a.store.now c.next_head-head.result (length a.store.now) a.at c.next_head-head.ensures r.stored c.requires.1
    (sound_facts s r.is_sound).numbers.inside in
    subst (λ (o : List ℕ). Placed o a.out.now c.write_record.result c.write_record.new.out) e c.write_record.ensures
