-- `call`: what its answer leaves is what is left of the outcome.
use mathlib.Core.Path.{sym, ap, ◌∙◌}
use Rattle.octets.specs.Answers.{refusal_number}
use Rattle.events.specs.Events.{settled}
use Rattle.events.proofs.call.Goals as goal

pub returns-in-Ok : goal.returns-in-Ok
returns-in-Ok c =
    let k = c.call_in_place.ensures in
    (ap (settled c.call_in_place.new.s) (sym c.in-Ok.is) ∙ k.0, k.1)

pub returns-in-Err : goal.returns-in-Err
returns-in-Err c =
    let k = c.call_in_place.ensures in (
      ap (λ n. record { state = c.call_in_place.new.s; answer = n; written = 0 }) c.number.ensures
          ∙ ap (settled c.call_in_place.new.s) (sym c.in-Err.is) ∙ k.0,
      k.1,
    )
