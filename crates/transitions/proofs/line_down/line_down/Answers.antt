-- `line_down` meets its contract. It is the transition to closed, given no table and no output; that writes no message, so what is left out
-- of the result was 0.
use Rattle.session.specs.declared.state.Wrote.{Wrote}
use Rattle.octets.proofs.Judging.{handed_on}
use Rattle.session.proofs.StepLaws.{answered_other, answered_part}
use Rattle.transitions.proofs.line_down.line_down.Goals as goal

pub returns-in_err-left : goal.returns-in_err-left
returns-in_err-left c =
    rw (handed_on c.from_residual.ensures.1) (answered_other _ _ (rw c.in_err-left.was at c.move_server.ensures.0))

pub returns : goal.returns
returns c = answered_part _ (λ (w : Wrote). w.state) (rw c.in_ok-left.was at c.move_server.ensures.0)
