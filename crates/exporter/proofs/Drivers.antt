-- Laws for a driver: what set-up leaves, where it goes on with the refused state after a refusal, and what a refused call leaves.
use mathlib.Core.Path.{◌≡◌, refl, sym, ap, ◌∙◌}
use mathlib.Core.Logic.{◌≢◌}
use mathlib.Core.Bool.{Bool, true, false, cond}
use mathlib.Core.List.{List, []}
use Prim.Native.Nat.{ℕ}
use Rattle.std.specs.Prelude.{Result, Ok, Err}
use Rattle.std.specs.Result.{result_unwrap_or}
use lib.ListN.{length}
use Rattle.octets.specs.Answers.{done, judged, Answered, answer_number}
use Rattle.numbers.specs.declared.refusal.Refusal.{Refusal}
use Rattle.session.specs.Sound.{settings_sound}
use Rattle.exporter.specs.Replies.{silent, crane}
use Rattle.session.specs.Servers.{down, offer}
use Rattle.session.specs.Steps.{put, next_data, tick, move, received, Outcome}
use Rattle.session.specs.Steps.{Made, made_of, fresh, refused_state, refused_set_up, set_up}
use Rattle.session.specs.Refusals.{Unchanged}
use Rattle.session.specs.Claim.{Exporter}
use Rattle.session.specs.InOctets.{Event, Put, NextData, Receive, OfferTemplates, LineDown, Tick, event_step}
use Rattle.session.proofs.Refusals.{refusals}
use Rattle.session.proofs.StepLaws.{refused_number}
use Rattle.session.specs.declared.state.Settings.{Settings}
use Rattle.session.specs.declared.state.State.{State}

-- one value was answered
pub same_ok : {A : Type 0} {x y : A} → ◌≡◌ {A = Result A Refusal} (Ok x) (Ok y) → x ≡ y
same_ok e = cc

-- the state that it goes on with is the one that was made, or the refused one
pub made_left : (m : Made) (x : Result State Refusal) → (m.answer ≢ done → m.state ≡ refused_state)
    → Answered answer_number x (made_of m) m.answer → result_unwrap_or x refused_state ≡ m.state
unfolding judged
made_left m (Ok s) h a =
    let z : m.answer ≡ done = sym a.number in
    same_ok (a.same ∙ ap (λ (n : ℕ). judged n m.state) z)
made_left m (Err refusal) h a = sym (h (λ z. refused_number m.state (sym a.same) z))

-- where set-up refuses, it leaves the refused state
pub refused_left : (p : Settings) (capacity : ℕ) → (set_up p capacity).answer ≢ done → (set_up p capacity).state ≡ refused_state
unfolding set_up
refused_left p capacity = go (settings_sound p capacity)
  where
    go : (b : Bool) → (cond b (record { answer = done; state = fresh p capacity }) refused_set_up).answer ≢ done
        → (cond b (record { answer = done; state = fresh p capacity }) refused_set_up).state ≡ refused_state
    go true h = absurd (h refl)
    go false h = refl

kept_by : {s : State} {octets : List ℕ} {o : Outcome} → Unchanged s octets o → (o.state ≡ s) × (o.written ≡ silent)
kept_by u = (u.state, u.written)

-- an event whose call is refused leaves the state, and writes nothing
pub event_kept : (x : Exporter) (e : Event) → (event_step x e).answer ≢ done
    → ((event_step x e).state ≡ x.state) × ((event_step x e).written ≡ silent)
event_kept x (Put table id r) h = kept_by (refusals.steps crane 0 (put table id r) x.state x.store h)
event_kept x (NextData out) h = kept_by (refusals.steps crane (length out) next_data x.state x.store h)
event_kept x (Receive v m out) h = kept_by (refusals.steps crane (length out) (received x.state.settings v m) x.state [] h)
event_kept x (OfferTemplates v table out) h = kept_by (refusals.steps crane (length out) (move v (offer table)) x.state [] h)
event_kept x (LineDown v) h = kept_by (refusals.steps crane 0 (move v down) x.state [] h)
event_kept x Tick h = kept_by (refusals.steps crane 0 tick x.state [] h)
