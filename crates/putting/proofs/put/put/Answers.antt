-- `put` meets its contract. A refusal leaves what came. A record that can be put finds fewer than 64 held and has at most 1,024 octets, so
-- every sum fits; it fills the first unused entries, and its octets follow the held ones.
use Rattle.std.proofs.Common.{sym, ◌∙◌, arith}
use Rattle.queue.proofs.Rings.{stored_inside}
use Rattle.session.proofs.SoundFacts.{sound_facts}
use Rattle.octets.proofs.Judging.{judged_ok, handed_on}
use Rattle.putting.proofs.Puts.{put_judged, put_facts, put_refused, put_done}
use Rattle.putting.proofs.put.put.Goals as goal

pub returns-in_err-check_put : goal.returns-in_err-check_put
returns-in_err-check_put c =
    let a = c.args in
    let e = put_judged a.s a.store.now a.table.now a.id a.r.now c.octets_to-held.ensures c.check_put.ensures in
    rw (handed_on c.from_residual.ensures.1) (put_refused a.s a.store.now a.table.now a.id a.r.now (sym e ∙ c.in_err-check_put.was))

pub overflow_add-s : goal.overflow_add-s
overflow_add-s c =
    let a = c.args in
    let e = put_judged a.s a.store.now a.table.now a.id a.r.now c.octets_to-held.ensures c.check_put.ensures in
    let f = put_facts a.s a.store.now a.table.now a.id a.r.now (judged_ok _ tt (sym e ∙ c.in_ok-check_put.was)) in
    let g = sound_facts a.s f.is_sound in
    omega (arith, c.octets_to-held.ensures, g.fits, g.numbers.inside, g.numbers.settings.small_room)

pub overflow_cast-r : goal.overflow_cast-r
overflow_cast-r c =
    let a = c.args in
    let e = put_judged a.s a.store.now a.table.now a.id a.r.now c.octets_to-held.ensures c.check_put.ensures in
    let f = put_facts a.s a.store.now a.table.now a.id a.r.now (judged_ok _ tt (sym e ∙ c.in_ok-check_put.was)) in
    omega (arith, f.short)

pub push-requires : goal.push-requires
push-requires c =
    let a = c.args in
    let e = put_judged a.s a.store.now a.table.now a.id a.r.now c.octets_to-held.ensures c.check_put.ensures in
    let f = put_facts a.s a.store.now a.table.now a.id a.r.now (judged_ok _ tt (sym e ∙ c.in_ok-check_put.was)) in
    omega (arith, f.few)

pub returns : goal.returns
returns c =
    let a = c.args in
    let e = put_judged a.s a.store.now a.table.now a.id a.r.now c.octets_to-held.ensures c.check_put.ensures in
    let z = judged_ok _ tt (sym e ∙ c.in_ok-check_put.was) in
    let f = put_facts a.s a.store.now a.table.now a.id a.r.now z in
    let g = sound_facts a.s f.is_sound in
    let l = stored_inside a.store.now _ a.r.now (omega (arith, f.short, f.stored, g.numbers.settings.some_room)) in
    put_done a.s a.store.now a.table.now a.id a.r.now z c.push.ensures c.octets_to-held.ensures (c.ring_write.ensures ∙ l)
