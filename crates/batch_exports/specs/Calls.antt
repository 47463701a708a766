-- A batch among the calls of a tape: an exporter is set up, calls of the tape are made, then one batch, then further calls of the tape.
use Rattle.std.specs.Prelude.{ℕ, zero, suc, ◌+◌, ◌-◌, min, max, ◌≡◌, cond, List, eqb, length, take}
use Rattle.octets.specs.Answers.{done}
use Rattle.exporter.specs.Steps.{output_after}
use Rattle.exporter.specs.InOctets.{Event}
use Rattle.batches.specs.Batches.{BatchOutcome, batch, batch_of, output_after_batch}
use Rattle.session.specs.declared.state.Batch.{Batch}
use Rattle.session.specs.declared.state.State.{State}
use Rattle.contents.specs.Tape.{event_count, kind_at, server_at, body_of, min_events}
use Rattle.events.specs.Events.{set_up_by, event_call, effect, effect_store, left_of}
use Rattle.events.specs.declared.Left.{Left}

-- ---- the calls of a tape, one after the other

-- Where the calls stand: what the last one answered, how many octets it wrote and the state that it left; the store and the output.
pub record Progress : Type 0 where
  pub last : Left
  pub store : List ℕ
  pub out : List ℕ

-- The same by its three parts.
abbrev pub progress : Left → List ℕ → List ℕ → Progress
progress last store out = record { last = last; store = store; out = out }

-- A state before the first call, as if a call had answered 0 and written nothing.
abbrev pub uncalled : State → Left
uncalled s = record { state = s; answer = done; written = 0 }

-- The call of event i, which is lent an output, and as table the body of event 1.
abbrev pub call_at : List ℕ → ℕ → List ℕ → Event
call_at t i out = event_call (kind_at t i) (server_at t i) (body_of t i) out (body_of t 1)

-- After the call of event i.
unfoldable pub after : List ℕ → ℕ → Progress → Progress
after t i p =
    let s = p.last.state in
    let e = call_at t i p.out in
    progress (left_of (effect s p.store e)) (effect_store s p.store e) (output_after p.out (effect s p.store e))

-- After the calls of n events, the first of which is event i.
unfoldable pub played : List ℕ → ℕ → ℕ → Progress → Progress
played t i zero p = p
played t i (suc n) p = after t (i + n) (played t i n p)

-- After the calls of the events from event i to the one before `end`, of those that the tape has; of none where i is not before both.
abbrev pub played_to : List ℕ → ℕ → ℕ → Progress → Progress
played_to t i end p = played t i (min end (event_count t) - i) p

-- ---- the batch among them

-- What is given: the tape; the place of the event before whose call the batch is made, and that of the event before which the calls end;
-- how many messages the batch writes at most, and how many octets of the store it is lent at most.
pub record Given : Type 0 where
  pub tape : List ℕ
  pub place : ℕ
  pub end : ℕ
  pub number : ℕ
  pub lent : ℕ

-- The place of the first call, after settings and table.
abbrev pub first_call : ℕ
first_call = min_events

-- After set-up by the body of event 0 and the calls before the batch.
abbrev pub reached : Given → List ℕ → List ℕ → Progress
reached g store out =
    let made = set_up_by (body_of g.tape 0) (length store) in
    played_to g.tape first_call g.place (progress (uncalled made.state) store out)

-- The batch, lent the first octets of the store and an output of so many octets.
abbrev pub batch_at : Given → ℕ → Progress → BatchOutcome
batch_at g room p = batch g.number room p.last.state (take g.lent p.store)

-- After the calls that follow the batch, which go on with the state that it left; none of them was made yet.
abbrev pub followed : Given → BatchOutcome → Progress → Progress
followed g b p = played_to g.tape (max g.place first_call) g.end (progress (uncalled b.state) p.store p.out)

-- Where all of it ends: the batch's outcome, and where the calls after it stand.
pub record End : Type 0 where
  pub outcome : BatchOutcome
  pub calls : Progress

-- The end, where the store and the output are lent to the calls, and an output of so many octets to the batch.
abbrev pub end_of : Given → List ℕ → List ℕ → ℕ → End
end_of g store out room =
    let p = reached g store out in
    let b = batch_at g room p in
    record { outcome = b; calls = followed g b p }

-- The number that is asked for: 0 the batch's answer, 1 how many messages it wrote, 2 how many octets; 3 the answer of the last call after
-- the batch, any other how many octets that call wrote, and 0 of both where none was made.
abbrev pub asked : ℕ → ℕ → Batch → Left → ℕ
asked part answer b last =
    cond (eqb part 0) answer
    (cond (eqb part 1) b.count
    (cond (eqb part 2) b.written
    (cond (eqb part 3) last.answer last.written)))

-- What is handed back: the number asked for, and the store, the output and the batch's own output at the end.
pub record HandedBack (end : End) (part : ℕ) (messages : List ℕ) (n : ℕ) (store out messages_after : List ℕ) : Type 0 where
  pub answered : n ≡ asked part end.outcome.answer (batch_of end.outcome) end.calls.last
  pub stored : store ≡ end.calls.store
  pub written : out ≡ end.calls.out
  pub batched : messages_after ≡ output_after_batch messages end.outcome
