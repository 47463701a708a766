-- `send_records`: the answers to what its invariant leaves.
use Rattle.std.proofs.Common.{◌-◌, length, drop, ap, arith, length-drop, take_all, rules}
use Rattle.octets.specs.Answers.{judged, refusal_of}
use Rattle.session.proofs.SoundFacts.{sound_facts}
use Rattle.session.proofs.SoundKept.{Sized}
use Rattle.soundness.proofs.Parts.{active_below}
use Rattle.session.specs.declared.state.State.{State}
use Rattle.session.specs.Steps.{after}
use Rattle.sending.proofs.Sends.{sent_few}
use Rattle.sending.proofs.Batches.{turned_by, turned_first, turned_facts, turned_inside, turned_more, turned_refused, turned_nothing}
use Rattle.sending.proofs.Batches.{turned_ended, part_back, counted_as}
use Rattle.sending.proofs.batch.send_records.Goals as goal

pub loop-count-init : goal.loop-count-init
loop-count-init c =
    let q = c.args.s.queue in
    let sized : Sized q = record { lengths = search rules; templates = search rules; receivers = search rules } in
    turned_by (omega arith) (turned_first c.args.limit _ _ _ _ c.requires sized c.record_start-at.ensures)

pub returns-then-state : goal.returns-then-state
unfolding judged refusal_of
returns-then-state c =
    let a = c.args in
    let h = c.loop-count in
    let s : State = h.state in
    let left = a.limit - h.count in
    let k = turned_nothing a.limit a.out.now a.store.now a.s left h.written s h.out h.at h.invariant (omega arith) c.if-state.true in
    (counted_as s _ h.written h.count (a.limit - left) (omega arith) k.0, k.1)

pub offset_bounds-state-state : goal.offset_bounds-state-state
offset_bounds-state-state c =
    let a = c.args in
    let h = c.loop-count in
    let f = turned_facts a.limit a.out.now a.store.now a.s _ h.written h.state h.out h.at h.invariant c.if-state.false in
    omega (arith, sent_few h.state a.store.now f)

pub bounds-state-state : goal.bounds-state-state
bounds-state-state c =
    let a = c.args in
    let h = c.loop-count in
    sent_few h.state a.store.now (turned_facts a.limit a.out.now a.store.now a.s _ h.written h.state h.out h.at h.invariant c.if-state.false)

pub slice_bounds-write_next-count : goal.slice_bounds-write_next-count
slice_bounds-write_next-count c = c.loop-count.invariant.under.inside

pub slice_bounds-write_next-start : goal.slice_bounds-write_next-start
slice_bounds-write_next-start c = omega (arith, c.loop-count.invariant.under.inside)

pub write_next-wrote-requires : goal.write_next-wrote-requires
write_next-wrote-requires c =
    let a = c.args in
    let h = c.loop-count in
    (turned_facts a.limit a.out.now a.store.now a.s _ h.written h.state h.out h.at h.invariant c.if-state.false, h.invariant.place)

pub mark_sent-requires : goal.mark_sent-requires
mark_sent-requires c =
    let a = c.args in
    let h = c.loop-count in
    let f = turned_facts a.limit a.out.now a.store.now a.s _ h.written h.state h.out h.at h.invariant c.if-state.false in
    (sent_few h.state a.store.now f, active_below h.state f.is_sound)

pub place_behind-at-requires : goal.place_behind-at-requires
unfolding after
place_behind-at-requires c =
    let a = c.args in
    let h = c.loop-count in
    let f = sound_facts h.state h.invariant.live.is_sound in
    let inside = turned_inside a.limit a.out.now a.store.now a.s _ h.written h.state h.out h.at h.invariant c.if-state.false in
    let short = f.short h.state.delivery.sent c.if-state.false in
    let e = ap (λ (s : State). s.capacity) c.mark_sent.ensures in
    (omega (arith, e, inside), (omega (arith, e, short, f.numbers.settings.some_room), omega (arith, e, f.numbers.settings.small_room)))

pub returns-in-Err : goal.returns-in-Err
returns-in-Err c =
    let a = c.args in
    let h = c.loop-count in
    let s : State = h.state in
    let left = a.limit - h.count in
    let k =
    turned_refused a.limit a.out.now a.store.now a.s left h.written s h.out h.at h.invariant c.if-state.false
    c.write_next-wrote.result _ c.write_next-wrote.new.out
    (take_all (length h.out - h.written) (drop h.written h.out) (omega (arith, length-drop h.written h.out)))
    c.write_next-wrote.ensures _ _ (omega arith) c.in-Err.is (part_back h.written h.out _) in
    (counted_as s _ h.written h.count (a.limit - left) (omega arith) k.0, k.1)

pub loop-count-preserved : goal.loop-count-preserved
loop-count-preserved c =
    let a = c.args in
    let h = c.loop-count in
    let s : State = h.state in
    let left = a.limit - h.count in
    turned_by (omega arith)
    (turned_more a.limit a.out.now a.store.now a.s left h.written s h.out h.at h.invariant c.if-state.false
    c.write_next-wrote.result _ c.write_next-wrote.new.out
    (take_all (length h.out - h.written) (drop h.written h.out) (omega (arith, length-drop h.written h.out)))
    c.write_next-wrote.ensures _ _ _ _ (omega arith) c.in-Ok.is (part_back h.written h.out _) c.mark_sent.ensures c.place_behind-at.ensures)

pub returns : goal.returns
unfolding judged
returns c =
    let a = c.args in
    let h = c.loop-count in
    let s : State = h.state in
    let left = a.limit - h.count in
    let k = turned_ended a.limit a.out.now a.store.now a.s left h.written s h.out h.at h.invariant (omega arith) in
    (counted_as s _ h.written a.limit (a.limit - left) (omega arith) k.0, k.1)
