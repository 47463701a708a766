-- A session: the calls that a list of events asks for, one after the other, from a fresh exporter on.
use Rattle.std.specs.Prelude.{◌≡◌, Result, Ok, Err, ℕ, zero, suc, ◌+◌, ◌*◌, ◌/◌, ◌%◌, ◌^◌, cond, List, length, take, drop, replicate, ◌==◌, slice_index, slice_index_or}
use Rattle.exporter.specs.Steps.{set_up, octets_written, output_after}
use Rattle.exporter.specs.Claim.{Exporter}
use Rattle.exporter.specs.InOctets.{Put, NextData, Receive, OfferTemplates, Tick, event_step, store_left}
use Rattle.batches.specs.Batches.{ListedCall, Single, SendBatch, batch, output_after_batch}
use Rattle.octets.specs.Answers.{done, refusal_number}
use Rattle.numbers.specs.declared.refusal.Refusal.{Refusal}
use Rattle.session.specs.Limits.{max_servers}
use Rattle.session.specs.declared.state.Settings.{Settings}
use Rattle.session.specs.declared.state.State.{State}
use Rattle.session.specs.declared.state.Wrote.{Wrote}

-- Session 7, configuration 1, boot time 3,600 and priorities of 0; the rest is given.
abbrev pub settings_of : ℕ → ℕ → ℕ → ℕ → Settings
settings_of servers threshold duration initial =
    record {
      session = 7;
      config = 1;
      boot = 3600;
      initial = initial;
      servers = servers;
      priorities = replicate max_servers 0;
      threshold = threshold;
      duration = duration;
    }

-- ---- events

-- An event is 19 octets: its call, its server, the length of its message modulo 17, and 16 octets, the first of which are the message.
abbrev pub event_octets : ℕ
event_octets = 19

-- How many lengths a message of an event can have, 0 to 16.
abbrev pub message_lengths : ℕ
message_lengths = 17

-- How many events there are; octets behind the last whole one do not count.
abbrev pub event_count : List ℕ → ℕ
event_count events = length events / event_octets

-- The message of the event at a place.
unfoldable pub message_at : List ℕ → ℕ → List ℕ
message_at events at = take (slice_index events (at + 2) % message_lengths) (drop (at + 3) events)

-- What every call of a session is lent besides store and output: the table, the template ID and the octets of the record that is put, and
-- the events.
pub record Lent : Type 0 where
  pub table : List ℕ
  pub template : ℕ
  pub octets : List ℕ
  pub events : List ℕ

-- The call of the event at a place, by its number: 0 put, 1 next data, 2 tick, 3 an offer, 4 a batch of at most as many messages as the
-- octet of the server says, any other a message that is received.
unfoldable pub call_at : Lent → ℕ → List ℕ → ListedCall
call_at l at out =
    let code = slice_index_or l.events at 0 in
    let server = slice_index_or l.events (at + 1) 0 in
    cond (code == 0) (Single (Put l.table l.template l.octets))
    (cond (code == 1) (Single (NextData out))
    (cond (code == 2) (Single Tick)
    (cond (code == 3) (Single (OfferTemplates server l.table out))
    (cond (code == 4) (SendBatch server out)
    (Single (Receive server (message_at l.events at) out))))))

-- ---- the calls, one after the other

-- Where a session stands: state and store, the output, and the sum of all answers, octets written and counts of batches.
pub record Progress : Type 0 where
  pub state : State
  pub store : List ℕ
  pub out : List ℕ
  pub total : ℕ

-- The same by its four parts.
abbrev pub progress : State → List ℕ → List ℕ → ℕ → Progress
progress state store out total = record { state = state; store = store; out = out; total = total }

-- State and store.
abbrev pub exporter_of : Progress → Exporter
exporter_of p = record { state = p.state; store = p.store }

-- A sum of 64 bits with an answer and a number of octets added.
abbrev pub added : ℕ → ℕ → ℕ → ℕ
added total answer written = ((total + answer) % 2 ^ 64 + written) % 2 ^ 64

-- The same with the count of a batch.
abbrev pub added_batch : ℕ → ℕ → ℕ → ℕ → ℕ
added_batch total answer written count = (added total answer written + count) % 2 ^ 64

-- State and sum after a call that writes no message, by its answer: a refused one leaves the state.
abbrev pub stepped : State → ℕ → Result State Refusal → State × ℕ
stepped s total (Ok next) = (next, added total done 0)
stepped s total (Err refusal) = (s, added total (refusal_number refusal) 0)

-- The same after a call that may write one.
abbrev pub wrote : State → ℕ → Result Wrote Refusal → State × ℕ
wrote s total (Ok w) = (w.state, added total done w.written)
wrote s total (Err refusal) = (s, added total (refusal_number refusal) 0)

-- After one more call.
unfoldable pub after : ListedCall → Progress → Progress
after (Single e) p =
    let o = event_step (exporter_of p) e in
    progress o.state (store_left (exporter_of p) e o) (output_after p.out o) (added p.total o.answer (length (octets_written o)))
after (SendBatch n out) p =
    let b = batch n (length out) p.state p.store in
    progress b.state p.store (output_after_batch out b) (added_batch p.total b.answer (length b.octets) b.count)

-- After the calls of the first n events.
unfoldable pub played : Lent → ℕ → Progress → Progress
played l zero p = p
played l (suc n) p = let q = played l n p in after (call_at l (event_octets * n) q.out) q

-- What set-up leaves and answers, before the first event.
abbrev pub opened : Settings → List ℕ → List ℕ → Progress
opened p store out = let made = set_up p (length store) in progress made.state store out made.answer

-- A whole session.
abbrev pub session_end : Settings → Lent → List ℕ → List ℕ → Progress
session_end p l store out = played l (event_count l.events) (opened p store out)

-- What a session hands back: the sum, the store and the output where it ends.
pub record PlayedTo (end : Progress) (total : ℕ) (store out : List ℕ) : Type 0 where
  pub summed : total ≡ end.total
  pub stored : store ≡ end.store
  pub written : out ≡ end.out
