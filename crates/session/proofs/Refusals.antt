-- A refusal changes nothing: the step has two outcomes, and the one that is not answered 0 is what was given. A refused set-up's state has
-- no server, so that it is not sound. What is written fits the output (`octets_fit_lem`), so that the rest of it stays.
use mathlib.Core.Path.{◌≡◌, refl, ap, ◌∙◌}
use mathlib.Core.Logic.{◌≢◌}
use mathlib.Core.Bool.{Bool, true, false}
use mathlib.Core.List.{List, []}
use Prim.Native.Nat.{ℕ}
use lib.ListN.{length}
use Rattle.octets.specs.Answers.{done, unsound_state}
use Rattle.octets.proofs.Stores.{sets_first}
use Rattle.wire.specs.Replies.{Encoding, crane}
use Rattle.session.specs.Servers.{offer, down}
use Rattle.session.specs.Sound.{settings_sound, numbers_sound, sound}
use Rattle.session.specs.Steps.{Call, put, next_data, tick, ack, move, received, answer, sound_for, fresh, refused_state, set_up, step}
use Rattle.session.specs.Steps.{octets_written}
use Rattle.session.specs.Claim.{Exporter, advance}
use Rattle.session.specs.InOctets.{Event, Put, NextData, Receive, OfferTemplates, LineDown, Tick, event_step, after_event}
use Rattle.session.specs.Refusals.{StepRefused, CallRefused, CallRefusedInOctets, SetUpRefused, SetUpRefusedInOctets, OutputKept}
use Rattle.session.specs.Refusals.{Refusals}
use Rattle.session.specs.declared.state.Settings.{Settings}
use Rattle.session.specs.declared.state.State.{State}
use Rattle.session.proofs.StepLaws.{step_refused, step_answer_lem}
use Rattle.session.proofs.Written.{octets_fit_lem}

step_unchanged : StepRefused
step_unchanged enc room c s store h =
    rw (step_refused enc room c s store (answer enc room c s store) (λ e. h (step_answer_lem enc room c s store ∙ e)) refl)
    (record { state = refl; store = refl; written = refl; output = λ out. refl })

-- an exporter with another state
abbrev with_state : Exporter → State → Exporter
with_state x s = record { state = s; store = x.store }

call_unchanged : CallRefused
unfolding advance
call_unchanged z x i h =
    let u = step_unchanged z.encoding i.room i.call x.state x.store h in
    rw (u.state, u.store)

event_unchanged : CallRefusedInOctets
unfolding after_event
event_unchanged x (Put table id r) h =
    let u = step_unchanged crane 0 (put table id r) x.state x.store h in
    rw (u.state, u.store)
event_unchanged x (NextData out) h = ap (with_state x) (step_unchanged crane (length out) next_data x.state x.store h).state
event_unchanged x (Receive v m out) h =
    ap (with_state x) (step_unchanged crane (length out) (received x.state.settings v m) x.state [] h).state
event_unchanged x (OfferTemplates v table out) h =
    ap (with_state x) (step_unchanged crane (length out) (move v (offer table)) x.state [] h).state
event_unchanged x (LineDown v) h = ap (with_state x) (step_unchanged crane 0 (move v down) x.state [] h).state
event_unchanged x Tick h = ap (with_state x) (step_unchanged crane 0 tick x.state [] h).state

-- no call finds the state of a refused set-up sound
never_sound : (c : Call) (store : List ℕ) → sound_for c refused_state store ≡ false
unfolding sound numbers_sound settings_sound fresh
never_sound (put table id r) store = refl
never_sound next_data store = refl
never_sound tick store = refl
never_sound (ack v dsn config) store = refl
never_sound (move v m) store = refl

refused_set_up_lem : (enc : Encoding) (room : ℕ) (c : Call) (store : List ℕ) → (step enc room c refused_state store).answer ≡ unsound_state
unfolding answer
refused_set_up_lem enc room c store = step_answer_lem enc room c refused_state store ∙ rw (never_sound c store)

each_refused : (store : List ℕ) (e : Event) → (event_step (record { state = refused_state; store = store }) e).answer ≡ unsound_state
each_refused store (Put table id r) = refused_set_up_lem crane 0 (put table id r) store
each_refused store (NextData out) = refused_set_up_lem crane (length out) next_data store
each_refused store (Receive v m out) = refused_set_up_lem crane (length out) (received refused_state.settings v m) []
each_refused store (OfferTemplates v table out) = refused_set_up_lem crane (length out) (move v (offer table)) []
each_refused store (LineDown v) = refused_set_up_lem crane 0 (move v down) []
each_refused store Tick = refused_set_up_lem crane 0 tick []

-- what set-up leaves where it is refused
refused_state_lem : (p : Settings) (capacity : ℕ) → (set_up p capacity).answer ≢ done → (set_up p capacity).state ≡ refused_state
unfolding set_up
refused_state_lem p capacity h = go (settings_sound p capacity) refl
  where
    go : (b : Bool) → settings_sound p capacity ≡ b → (set_up p capacity).state ≡ refused_state
    go true x = absurd (h (rw x refl))
    go false x = rw x refl

set_up_refused : SetUpRefused
set_up_refused p capacity z store i h = rw (refused_state_lem p capacity h) (refused_set_up_lem z.encoding i.room i.call store)

set_up_refused_in_octets : SetUpRefusedInOctets
set_up_refused_in_octets p capacity store e h = rw (refused_state_lem p capacity h) (each_refused store e)

pub output_kept : OutputKept
output_kept out c s store =
    let octets : List ℕ = octets_written (step crane (length out) c s store) in
    sets_first out octets (octets_fit_lem (length out) c s store)

pub refusals : Refusals
refusals =
    record {
      steps = step_unchanged;
      calls = call_unchanged;
      calls_in_octets = event_unchanged;
      set_ups = set_up_refused;
      set_ups_in_octets = set_up_refused_in_octets;
      outputs = output_kept;
    }
