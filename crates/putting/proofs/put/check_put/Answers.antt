-- `check_put` meets its contract. The state is judged first, then the record, then the room. A refusal of the record is that of the whole
-- list, and where there is none the room decides (laws `refused_first` and `passed_first`).
use Rattle.std.proofs.Common.{refl, sym, ◌∙◌}
use Rattle.octets.specs.Answers.{judged, refusal_of}
use Rattle.octets.proofs.Judging.{handed_on}
use Rattle.putting.proofs.Puts.{refused_first, passed_first}
use Rattle.putting.proofs.put.check_put.Goals as goal

pub returns-then-not-usable : goal.returns-then-not-usable
unfolding judged refusal_of
returns-then-not-usable c = rw (← c.is_sound.ensures, c.if-not-usable.true) refl

pub returns-in_err-check_record : goal.returns-in_err-check_record
returns-in_err-check_record c =
    let a = c.args in
    let s = a.s.now in
    rw (← c.is_sound.ensures, c.if-not-usable.false, handed_on c.from_residual.ensures.1)
    (refused_first s.settings s.capacity s.queue.count a.held a.table.now a.id a.r.now (sym c.check_record.ensures ∙ c.in_err-check_record.was))

pub returns : goal.returns
returns c =
    let a = c.args in
    let s = a.s.now in
    rw (← c.is_sound.ensures, c.if-not-usable.false)
    (passed_first s.settings s.capacity s.queue.count a.held a.table.now a.id a.r.now (sym c.check_record.ensures ∙ c.in_ok-check_record.was)
    c.check_room.ensures)
