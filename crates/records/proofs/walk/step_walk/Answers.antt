-- `step_walk` meets its contract: finding the template judges 21 and 15, and then the step is taken under it. A template that is found lies
-- within the table, so its keys can be read there.
use mathlib.Core.Path.{sym, ◌∙◌}
use Rattle.octets.proofs.Judging.{handed_on}
use Rattle.tables.proofs.Tables.{found, found_within}
use Rattle.records.specs.Walk.{step_of}
use Rattle.records.proofs.Integers.{stepped}
use Rattle.records.proofs.WalkLaws.{step_refused}
use native.Mathlib.Omega.{arith}
use Rattle.records.proofs.walk.step_walk.Goals as goal

pub step_under-requires : goal.step_under-requires
step_under-requires c =
    let a = c.args in
    found_within a.t.now a.id _ (sym c.find_template.ensures.same ∙ c.in_ok-template.was)

pub returns : goal.returns
unfolding step_of
returns c =
    let a = c.args in
    let f = found a.t.now a.id _ (sym c.find_template.ensures.same ∙ c.in_ok-template.was) in
    stepped a.t.now a.id a.r.now a.c _ (λ i. omega (arith, c.type_inv.r i)) (rw (f.0, f.1.0, f.1.1, c.step_under.ensures))

pub returns-in_err-template : goal.returns-in_err-template
returns-in_err-template c =
    let a = c.args in
    stepped a.t.now a.id a.r.now a.c _ (λ i. omega (arith, c.type_inv.r i))
    (handed_on c.from_residual.ensures.1
    ∙ sym (step_refused a.t.now a.id a.r.now a.c _ (sym c.find_template.ensures.same ∙ c.in_err-template.was)))
