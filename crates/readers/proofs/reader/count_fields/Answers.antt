-- `count_fields`: the answers to what its invariant leaves.
use mathlib.Core.Path.{◌≡◌, sym, ap, ◌∙◌}
use native.Mathlib.Omega.{arith}
use Rattle.std.specs.Prelude.{Ok}
use Rattle.octets.proofs.Judging.{answered, handed_on}
use Rattle.tables.specs.Table.{max_keys}
use Rattle.readers.proofs.Counts.{count_opened, count_refused, count_number, count_next, count_end, count_full, count_goes}
use Rattle.readers.proofs.reader.count_fields.Goals as goal

pub returns-in_err-c : goal.returns-in_err-c
returns-in_err-c c =
    answered (count_number _ _ _)
    (handed_on c.from_residual.ensures.1 ∙ count_refused _ _ _ _ (sym c.opening.ensures ∙ c.in_err-c.was))

pub loop-n-init : goal.loop-n-init
loop-n-init c = count_opened _ _ _ _ (sym c.opening.ensures ∙ c.in_ok-c.was)

pub returns-in_err-next : goal.returns-in_err-next
returns-in_err-next c = absurd (count_goes _ _ _ _ _ c.loop-n.invariant _ (sym c.step_at.ensures ∙ c.in_err-next.was))

pub returns-in-None : goal.returns-in-None
returns-in-None c =
    answered (count_number _ _ _)
    (count_end _ _ _ _ _ c.loop-n.invariant (sym c.step_at.ensures ∙ c.in_ok-next.was ∙ ap Ok c.in-None.is))

pub loop-n-preserved : goal.loop-n-preserved
loop-n-preserved c =
    count_next _ _ _ _ _ c.loop-n.invariant (omega arith) _ _ (sym c.step_at.ensures ∙ c.in_ok-next.was ∙ ap Ok c.in-Some.is)

pub returns : goal.returns
returns c =
    let l = c.loop-n in
    let full = count_full _ _ _ _ _ l.invariant (omega arith) in
    let e : max_keys ≡ l.n = omega arith in
    answered (count_number _ _ _) (ap Ok e ∙ full)
