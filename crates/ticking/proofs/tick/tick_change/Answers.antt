-- `tick_change` meets its contract. Where the timer has not run out the definition chooses among no servers, so nothing but it changes.
use mathlib.Core.Path.{sym, ap, ◌∙◌}
use mathlib.Core.Bool.{Bool}
use borrow.Author.Tests.{not-true}
use Rattle.ticking.specs.Clocks.{tick_change_by}
use Rattle.ticking.proofs.Ticks.{unmoved}
use Rattle.ticking.proofs.tick.tick_change.Goals as goal

pub returns-then-not-clock : goal.returns-then-not-clock
returns-then-not-clock c =
    let a = c.args in
    unmoved a.p a.d a.due a.clock.timer
    ∙ ap (λ (b : Bool). tick_change_by a.p a.d a.due (record { timer = a.clock.timer; expired = b })) (sym (not-true a.clock.expired c.if-not-clock.true))
