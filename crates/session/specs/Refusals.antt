-- A refusal changes nothing: not the state, the store or the output (01, "Answer numbers").
use Rattle.std.specs.Prelude.{◌≡◌, ◌≢◌, List, ◌++◌, ℕ, length, drop}
use Rattle.octets.specs.Answers.{done, unsound_state}
use Rattle.wire.specs.Replies.{silent, Encoding, crane}
use Rattle.session.specs.Steps.{Call, Outcome, step, octets_written, output_after, set_up}
use Rattle.session.specs.Claim.{Invocation, Session, Exporter, outcome, advance}
use Rattle.session.specs.InOctets.{Event, event_step, after_event}
use Rattle.session.specs.declared.state.Settings.{Settings}
use Rattle.session.specs.declared.state.State.{State}

-- State, store and any output are as they were, and nothing is written.
pub record Unchanged (s : State) (octets : List ℕ) (o : Outcome) : Type 0 where
  pub state : o.state ≡ s
  pub store : o.store ≡ octets
  pub written : o.written ≡ silent
  pub output : (out : List ℕ) → output_after out o ≡ out

-- The step of a call that is not answered 0 changes nothing, whatever the encoding, the call, the state, the store and the output's length.
abbrev pub StepRefused : Type 0
StepRefused =
    (e : Encoding) (room : ℕ) (c : Call) (s : State) (store : List ℕ)
    → (step e room c s store).answer ≢ done → Unchanged s store (step e room c s store)

-- So a refused call leaves the exporter as it was.
abbrev pub CallRefused : Type 0
CallRefused = (z : Session) (x : Exporter) (i : Invocation) → (outcome z x i).answer ≢ done → advance z x i ≡ x

-- The same of the code's calls.
abbrev pub CallRefusedInOctets : Type 0
CallRefusedInOctets = (x : Exporter) (e : Event) → (event_step x e).answer ≢ done → after_event x e ≡ x

-- What a refused set-up hands back, every call refuses with 1.
abbrev pub SetUpRefused : Type 0
SetUpRefused =
    (p : Settings) (capacity : ℕ) (z : Session) (store : List ℕ) (i : Invocation) → (set_up p capacity).answer ≢ done
    → (outcome z (record { state = (set_up p capacity).state; store = store }) i).answer ≡ unsound_state

-- The same of the code's calls.
abbrev pub SetUpRefusedInOctets : Type 0
SetUpRefusedInOctets =
    (p : Settings) (capacity : ℕ) (store : List ℕ) (e : Event) → (set_up p capacity).answer ≢ done
    → (event_step (record { state = (set_up p capacity).state; store = store }) e).answer ≡ unsound_state

-- Every message is written from the output's first octet, and no octet after it changes (01, "Exporter"): so it is with what a step writes
-- to an output of the length that it was judged by.
abbrev pub OutputKept : Type 0
OutputKept =
    (out : List ℕ) (c : Call) (s : State) (store : List ℕ)
    → let o = step crane (length out) c s store in output_after out o ≡ octets_written o ++ drop (length (octets_written o)) out

-- All of them.
pub record Refusals : Type 0 where
  pub steps : StepRefused
  pub calls : CallRefused
  pub calls_in_octets : CallRefusedInOctets
  pub set_ups : SetUpRefused
  pub set_ups_in_octets : SetUpRefusedInOctets
  pub outputs : OutputKept
