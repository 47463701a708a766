-- `check_record` meets its contract: finding the template judges 21 and 15, and then the record is judged under it. A template that is
-- found lies within the table, so its keys can be read there.
use mathlib.Core.Bool.{not}
use mathlib.Core.List.{[], ◌∷◌}
use mathlib.Core.Path.{refl, sym, ◌∙◌}
use Rattle.octets.specs.Answers.{◌when◌, judged, record_invalid, refusal_of}
use Rattle.octets.proofs.Judging.{answered, handed_on, judged_number}
use Rattle.tables.specs.Table.{template_of}
use Rattle.tables.proofs.Tables.{found, found_within, not_found}
use Rattle.records.specs.Record.{record_valid, record_answer}
use Rattle.records.proofs.WalkLaws.{record_number}
use Rattle.records.proofs.record.check_record.Goals as goal

pub fields_valid-requires : goal.fields_valid-requires
fields_valid-requires c =
    let a = c.args in
    found_within a.t.now a.id _ (sym c.find_template.ensures.same ∙ c.in_ok-template.was)

pub returns-then-not-fields_valid : goal.returns-then-not-fields_valid
unfolding record_answer judged refusal_of
returns-then-not-fields_valid c =
    let a = c.args in
    let f = found a.t.now a.id _ (sym c.find_template.ensures.same ∙ c.in_ok-template.was) in
    answered (judged_number _ _ (record_number a.t.now a.id a.r.now))
    (rw (f.0, f.1.0, f.1.1, sym c.fields_valid.ensures ∙ c.if-not-fields_valid.true) refl)

pub returns : goal.returns
unfolding record_answer judged refusal_of
returns c =
    let a = c.args in
    let f = found a.t.now a.id _ (sym c.find_template.ensures.same ∙ c.in_ok-template.was) in
    answered (judged_number _ _ (record_number a.t.now a.id a.r.now))
    (rw (f.0, f.1.0, f.1.1, sym c.fields_valid.ensures ∙ c.if-not-fields_valid.false) refl)

pub returns-in_err-template : goal.returns-in_err-template
unfolding record_answer
returns-in_err-template c =
    let a = c.args in
    let n = not_found a.t.now a.id _ (sym c.find_template.ensures.same ∙ c.in_err-template.was) in
    answered (judged_number _ _ (record_number a.t.now a.id a.r.now))
    (handed_on c.from_residual.ensures.1
    ∙ sym (n ((record_invalid when not (record_valid a.t.now (template_of a.t.now a.id) a.r.now)) ∷ []) tt).1.1)
