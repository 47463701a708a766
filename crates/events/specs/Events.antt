-- The events of a tape: its settings, its table, and the call that an event makes (01, "Replay tape").
use Rattle.std.specs.Prelude.{ℕ, ◌+◌, ◌-◌, ◌≡◌, cond, not, List, [], ◌∷◌, eqb, ltb, length, drop, replicate, Result, Ok, Err}
use Rattle.std.proofs.lemmas.List.Edits.{sets}
use Rattle.octets.specs.Answers.{◌when◌, judge, done, unsound_table, Answered, answer_number, refusal_number}
use Rattle.octets.specs.Numbers.{uint_at}
use Rattle.exporter.specs.Steps.{is_sessions, Made, refused_set_up, set_up, Outcome, octets_written, wrote_of, output_after}
use Rattle.exporter.specs.InOctets.{Event, Put, NextData, Receive, OfferTemplates, LineDown, Tick, event_step, store_left}
use Rattle.numbers.specs.declared.refusal.Refusal.{Refusal}
use Rattle.session.specs.Limits.{max_servers}
use Rattle.session.specs.declared.state.Settings.{Settings}
use Rattle.session.specs.declared.state.State.{State}
use Rattle.session.specs.declared.state.Wrote.{Wrote}
use Rattle.events.specs.declared.Left.{Left}
use Rattle.contents.specs.Tape.{octets_at, priorities_at, template_id_octets, put_kind, message_kind, down_kind, tick_kind, next_kind}

-- ---- the first two events

-- The priorities in the body of event 0, one for each server that there can be; those that it does not have are 0.
abbrev pub priorities_of : List ℕ → List ℕ
priorities_of b = sets (replicate max_servers 0) 0 (octets_at b priorities_at max_servers)

-- The settings in the body of event 0: session, configuration, servers, threshold, duration, the length of the store (`store_length`), the
-- first DSN, boot time and the priorities.
unfoldable pub settings_of : List ℕ → Settings
settings_of b =
    record {
      session = uint_at b 0 1;
      config = uint_at b 1 1;
      servers = uint_at b 2 1;
      threshold = uint_at b 3 1;
      duration = uint_at b 4 2;
      initial = uint_at b 8 4;
      boot = uint_at b 12 4;
      priorities = priorities_of b;
    }

-- The length of the store; the body holds it minus 1.
abbrev pub store_length : List ℕ → ℕ
store_length b = uint_at b 6 2 + 1

-- Event 0 sets an exporter up, over a store of a length. It is refused with 20 where it names more servers than it has priorities, more
-- than 8 with 24 octets and more than 16 with 32 (02, ask 7); else it is judged as set-up judges its settings.
unfoldable pub set_up_by : List ℕ → ℕ → Made
set_up_by b capacity = cond (ltb (length b - priorities_at) (settings_of b).servers) refused_set_up (set_up (settings_of b) capacity)

-- Event 1 is judged as a put judges the table that it is lent.
abbrev pub table_answer : Settings → List ℕ → ℕ
table_answer p table = judge ((unsound_table when not (is_sessions p table)) ∷ [])

-- ---- the calls

-- The call of an event of a kind, with the server that it names, its body, and the output and the table that are lent; `Event` is the
-- exporter's name for a call with its arguments. A put's body is the template ID and the record. A sound tape has only the kinds 2 to 7
-- here; any other counts as an offer.
unfoldable pub event_call : ℕ → ℕ → List ℕ → List ℕ → List ℕ → Event
event_call kind server b out table =
    cond (eqb kind put_kind) (Put table (uint_at b 0 template_id_octets) (drop template_id_octets b))
    (cond (eqb kind message_kind) (Receive server b out)
    (cond (eqb kind down_kind) (LineDown server)
    (cond (eqb kind tick_kind) Tick
    (cond (eqb kind next_kind) (NextData out)
    (OfferTemplates server table out)))))

-- The outcome of a call of an exporter with a state and a store.
abbrev pub effect : State → List ℕ → Event → Outcome
effect s store e = event_step (record { state = s; store = store }) e

-- The store after that call.
abbrev pub effect_store : State → List ℕ → Event → List ℕ
effect_store s store e = store_left (record { state = s; store = store }) e (effect s store e)

-- What is left of an outcome: the state, the number that is answered, and how many octets are written.
abbrev pub left_of : Outcome → Left
left_of o = record { state = o.state; answer = o.answer; written = length (octets_written o) }

-- What is left by what a call answers, where s is the state that came: a refused call leaves it, and writes nothing.
abbrev pub left_by : State → Result Wrote Refusal → Left
left_by s (Ok w) = record { state = w.state; answer = done; written = w.written }
left_by s (Err refusal) = record { state = s; answer = refusal_number refusal; written = 0 }

-- The same of a call without output.
abbrev pub stepped_by : State → Result State Refusal → Left
stepped_by s (Ok next) = record { state = next; answer = done; written = 0 }
stepped_by s (Err refusal) = record { state = s; answer = refusal_number refusal; written = 0 }

-- What is left where s is the state after the call, and it answers how many octets it wrote, or a refusal.
abbrev pub settled : State → Result ℕ Refusal → Left
settled s (Ok written) = record { state = s; answer = done; written = written }
settled s (Err refusal) = record { state = s; answer = refusal_number refusal; written = 0 }

-- A call answers this, and leaves this store and this output.
abbrev pub Answers : State → List ℕ → List ℕ → Event → Result Wrote Refusal → List ℕ → List ℕ → Type 0
Answers s store out e r store_after out_after =
    let o = effect s store e in
    Answered answer_number r (wrote_of o) o.answer × ((store_after ≡ effect_store s store e) × (out_after ≡ output_after out o))

-- A call leaves this, and this store and this output.
abbrev pub Gives : State → List ℕ → List ℕ → Event → Left → List ℕ → List ℕ → Type 0
Gives s store out e left store_after out_after =
    (left ≡ left_of (effect s store e))
    × ((store_after ≡ effect_store s store e) × (out_after ≡ output_after out (effect s store e)))

-- The same of an event's call, which is lent this table.
abbrev pub Called : List ℕ → State → List ℕ → List ℕ → (List ℕ → Event) → Left → List ℕ → List ℕ → Type 0
Called table s store out call left store_after out_after = Gives s store out (call table) left store_after out_after
