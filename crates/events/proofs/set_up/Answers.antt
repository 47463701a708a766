-- `set_up` meets its contract: the test says whether the body names more servers than it has priorities, as the definition's does.
use mathlib.Core.Path.{refl, ap, ◌∙◌}
use Rattle.octets.specs.Answers.{judged, refusal_of}
use native.Mathlib.Omega.{arith}
use lib.ListN.{length}
use Rattle.session.specs.Steps.{set_up}
use Rattle.session.specs.declared.state.Settings.{Settings}
use Rattle.events.proofs.Events.{set_up_fewer, set_up_enough}
use Rattle.events.proofs.set_up.Goals as goal

pub returns-then-saturating_sub-settings : goal.returns-then-saturating_sub-settings
unfolding judged refusal_of
returns-then-saturating_sub-settings c =
    let b = c.args.b.now in
    let servers = ap (λ (p : Settings). p.servers) c.settings_of-settings.ensures in
    let priorities = c.saturating_sub.ensures in
    let few = set_up_fewer b (length c.args.store.now) (omega (arith, c.if-saturating_sub-settings.true, servers, priorities)) in
    rw (← few) (record { same = refl; number = refl })

pub returns : goal.returns
returns c =
    let a = c.args in
    let settings = c.settings_of-settings.ensures in
    let servers = ap (λ (p : Settings). p.servers) settings in
    let priorities = c.saturating_sub.ensures in
    let capacity = length a.store.now in
    let enough = set_up_enough a.b.now capacity (omega (arith, c.if-saturating_sub-settings.false, servers, priorities)) in
    rw (ap (λ (p : Settings). set_up p capacity) settings ∙ enough) at c.set_up.ensures
