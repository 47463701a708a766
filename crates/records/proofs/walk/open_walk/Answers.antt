-- `open_walk` meets its contract: the whole record is judged first.
use mathlib.Core.Path.{sym, ◌∙◌}
use Rattle.octets.proofs.Judging.{answered, handed_on, judged_ok, judged_err}
use Rattle.records.proofs.WalkLaws.{open_number, valid_opens}
use Rattle.records.specs.Record.{record_answer}
use Rattle.records.specs.Walk.{open_of, walk_start}
use Rattle.records.proofs.walk.open_walk.Goals as goal

pub returns : goal.returns
returns c =
    let a = c.args in
    let e = judged_ok (record_answer a.t.now a.id a.r.now) tt (sym c.check_record.ensures.same ∙ c.in_ok-check_record.was) in
    answered (open_number _ _ _) (sym (valid_opens a.t.now a.id a.r.now e))

pub returns-in_err-check_record : goal.returns-in_err-check_record
unfolding open_of
returns-in_err-check_record c =
    let a = c.args in
    answered (open_number _ _ _)
    (handed_on c.from_residual.ensures.1
    ∙ sym (judged_err (record_answer a.t.now a.id a.r.now) tt walk_start
    (sym c.check_record.ensures.same ∙ c.in_err-check_record.was)))
