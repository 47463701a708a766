-- A tick is its clock, and where that has run out one choice with the active server late. Somebody is chosen exactly where another is
-- agreed, so the change is the definition's; else the choice stays and no activation begins. An unsound state changes nothing.
use mathlib.Core.Path.{◌≡◌, refl, sym, ap, ◌∙◌, subst}
use mathlib.Core.Bool.{Bool, true, false, not, cond}
use mathlib.Core.List.{[]}
use Prim.Native.Nat.{ℕ, ◌+◌}
use borrow.Author.Tests.{not-true}
use lib.Dec.{eqb, ltb}
use Rattle.octets.specs.Answers.{done, unsound_state, judged, refusal_of, Answered, answer_number}
use Rattle.std.specs.Prelude.{Ok, Err}
use Rattle.numbers.specs.declared.refusal.Refusal.TheVariants.{UnsoundState}
use Rattle.octets.proofs.Each.{and_left}
use Rattle.session.specs.Servers.{choose, IsChoice, same_active, is_nobody, chosen, changed, activated, settle, with_servers, with_counts}
use Rattle.session.specs.Servers.{late_servers, expired, ticked_for, ticked}
use Rattle.session.specs.Sound.{sound}
use Rattle.wire.specs.Replies.{crane}
use Rattle.session.specs.Steps.{tick, answer, checks, after, settled, tick_step, stepped_of}
use Rattle.servers.specs.Changes.{settled_change, applied_to, number_of}
use Rattle.ticking.specs.Clocks.{clock_for, tick_change_to, tick_change_by}
use Rattle.servers.specs.declared.change.Change.{Change}
use Rattle.std.specs.Prelude.{Option, Some, None}
use Rattle.session.specs.declared.state.Settings.{Settings}
use Rattle.session.specs.declared.state.Delivery.{Delivery}
use Rattle.session.specs.declared.state.State.{State}
use Rattle.session.proofs.SoundFacts.{active_same, sound_facts}
use Rattle.session.proofs.Choice.{choice, late_phase, other_chosen}
use Rattle.session.proofs.StepLaws.{step_done, step_err, answered_ok}

-- ---- the choice made anew

-- where the active server is the one to be chosen, nothing changes
settle_kept : (p : Settings) (d : Delivery) (due : Bool) → d.active ≡ chosen p d
    → settled_change p d due ≡ record { delivery = d; due = due }
unfolding settle changed
settle_kept p d due e = rw (← e, active_same d.active)

-- where another is, an activation begins
settle_moved : (p : Settings) (d : Delivery) (due : Bool) (w : ℕ) → chosen p d ≡ Some w → same_active (Some w) d.active ≡ false
    → settled_change p d due
    ≡ record { delivery = activated d (Some w); due = true }
unfolding settle changed
settle_moved p d due w e f = rw (e, f)

-- ---- the tick

-- a tick of a sound state
turned_settled : (p : Settings) (d : Delivery) (due : Bool) → d.active ≡ chosen p d
    → tick_change_by p d due (clock_for p d d.active) ≡ settled_change p (ticked p d) due
unfolding choose ticked expired
turned_settled p d due e = go d.active refl
  where
    -- the timer has run out: with the active server late another is chosen, or nobody
    out : (v : ℕ) → d.active ≡ Some v → (a : Option ℕ) → choose p.priorities (late_servers d v) p.servers ≡ a
        → tick_change_to d due (record { timer = 0; expired = true }) (late_servers d v) a
        ≡ settled_change p (cond (not (is_nobody a)) (with_counts (with_servers d (late_servers d v)) d.sent d.reached 0)
        (with_counts d 0 d.reached 0)) due
    out v k None q = sym (settle_kept p (with_counts d 0 d.reached 0) due e)
    out v k (Some w) q =
        let b = subst (IsChoice p.priorities (late_servers d v) p.servers) q (choice p.priorities (late_servers d v) p.servers) in
        let n = and_left (not (eqb w v)) _ (sym (late_phase d.servers v w) ∙ b.agreed) in
        sym (settle_moved p (with_counts (with_servers d (late_servers d v)) d.sent d.reached 0) due w q
        (ap (same_active (Some w)) k ∙ not-true (eqb w v) n))

    -- a server is active: below the threshold or not, run out or not
    run : (v : ℕ) → d.active ≡ Some v → (t u : Bool)
        → tick_change_by p d due
        (cond t (record { timer = 0; expired = false })
        (cond u (record { timer = 0; expired = true }) (record { timer = d.timer + 1; expired = false })))
        ≡ settled_change p (cond t (with_counts d d.sent d.reached 0)
        (cond u (expired p v d) (with_counts d d.sent d.reached (d.timer + 1)))) due
    run v k true u = sym (settle_kept p (with_counts d d.sent d.reached 0) due e)
    run v k false false = sym (settle_kept p (with_counts d d.sent d.reached (d.timer + 1)) due e)
    run v k false true =
        rw (ap number_of k, ← other_chosen p.priorities d.servers v p.servers)
        (out v k (choose p.priorities (late_servers d v) p.servers) refl)

    go : (a : Option ℕ) → d.active ≡ a → tick_change_by p d due (clock_for p d a) ≡ settled_change p (ticked_for p d a) due
    go None k = sym (settle_kept p (with_counts d d.sent d.reached 0) due e)
    go (Some v) k = run v k (ltb d.reached p.threshold) (eqb (d.timer + 1) p.duration)

-- while the timer has not run out nothing but it changes
pub unmoved : (p : Settings) (d : Delivery) (due : Bool) (timer : ℕ)
    → ◌≡◌ {A = Change} (record { delivery = with_counts d d.sent d.reached timer; due = due })
    (tick_change_by p d due (record { timer = timer; expired = false }))
unfolding choose
unmoved p d due timer = refl

tick_done : (s : State) → sound s ≡ true → answer crane 0 tick s [] ≡ done
unfolding answer checks
tick_done s e = rw e

tick_unsound : (s : State) → sound s ≡ false → answer crane 0 tick s [] ≡ unsound_state
unfolding answer checks
tick_unsound s e = rw e

-- a tick of a sound state is accepted
pub tick_turned : (s : State) → sound s ≡ true
    → let o = tick_step s in
    Answered answer_number (Ok (applied_to s (tick_change_by s.settings s.delivery s.due (clock_for s.settings s.delivery s.delivery.active))))
    (stepped_of o) o.answer
unfolding after settled
tick_turned s e =
    rw (step_done crane 0 tick s [] (tick_done s e))
    (answered_ok refl (ap (applied_to s) (turned_settled s.settings s.delivery s.due (sound_facts s e).choice)))

-- of any other it is refused
pub tick_refused : (s : State) → sound s ≡ false
    → let o = tick_step s in Answered answer_number (Err UnsoundState) (stepped_of o) o.answer
unfolding checks judged refusal_of
tick_refused s e = step_err crane 0 tick s [] (tt {0}) _ refl (ap (λ (n : ℕ). judged n (tt {0})) (tick_unsound s e))
