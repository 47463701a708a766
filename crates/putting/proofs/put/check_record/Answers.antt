-- `check_record` meets its contract. wire judges table, template and record together (21, 15, 16); the session's Configuration ID is judged
-- first, since another one is 21 too, and the limit of octets behind the template.
use Rattle.std.proofs.Common.{◌≡◌, sym, ◌∙◌, rules}
use mathlib.Core.Logic.{inl, inr}
use Rattle.std.specs.Prelude.{Err}
use Rattle.numbers.specs.declared.refusal.Refusal.TheVariants.{RecordInvalid}
use Rattle.putting.proofs.Puts.{other_table, short_record, long_record, present, of_table}
use Rattle.putting.proofs.put.check_record.Goals as goal

pub returns-then-configuration_id-p : goal.returns-then-configuration_id-p
returns-then-configuration_id-p c =
    let a = c.args in
    other_table a.p a.table.now a.id a.r.now (λ e. c.if-configuration_id-p.true (c.configuration_id.ensures ∙ e))

pub returns-then-r-le-MAX_RECORD_OCTETS : goal.returns-then-r-le-MAX_RECORD_OCTETS
returns-then-r-le-MAX_RECORD_OCTETS c =
    let a = c.args in
    let same = sym c.configuration_id.ensures ∙ c.if-configuration_id-p.false in
    c.check_record-checked.ensures.same ∙ short_record a.p a.table.now a.id a.r.now same c.if-r-le-MAX_RECORD_OCTETS.true

pub returns-in-Ok : goal.returns-in-Ok
returns-in-Ok c =
    let a = c.args in
    let same = sym c.configuration_id.ensures ∙ c.if-configuration_id-p.false in
    let f = present a.p a.table.now a.id a.r.now (sym c.check_record-checked.ensures.same) (inl c.in-Ok.is) in
    long_record a.p a.table.now a.id a.r.now same c.if-r-le-MAX_RECORD_OCTETS.false f.0 f.1

pub returns-in-Err-RecordInvalid : goal.returns-in-Err-RecordInvalid
returns-in-Err-RecordInvalid c =
    let a = c.args in
    let same = sym c.configuration_id.ensures ∙ c.if-configuration_id-p.false in
    let w = c.in-Err-RecordInvalid in
    let k : w.field-0 ≡ RecordInvalid = rw w.is at w.field-0-is in
    let e : c.check_record-checked.result ≡ Err RecordInvalid = rw k at w.is in
    let f = present a.p a.table.now a.id a.r.now (sym c.check_record-checked.ensures.same) (inr e) in
    long_record a.p a.table.now a.id a.r.now same c.if-r-le-MAX_RECORD_OCTETS.false f.0 f.1

pub returns-in-Err : goal.returns-in-Err
returns-in-Err c =
    let a = c.args in
    let same = sym c.configuration_id.ensures ∙ c.if-configuration_id-p.false in
    of_table a.p a.table.now a.id a.r.now same (sym c.check_record-checked.ensures.same ∙ c.in-Err.is)
    (λ e. absurd (search (rules, rw e at c.in-Err.refusal-is)))
