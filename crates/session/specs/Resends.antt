-- S on records that are sent again (02, ask 2): what becomes of S being due under any call, and sessions with the DSN and S of every DATA
-- that they write.
use Rattle.std.specs.Prelude.{◌≡◌, ◌≢◌, Bool, true, false, List, [], ◌∷◌, ◌++◌, ℕ, ◌≤◌, ◌<◌, length, set, replicate}
use Rattle.octets.specs.Answers.{done}
use Rattle.wire.specs.Replies.{Reply, silent, message, Encoding, crane}
use Rattle.messages.specs.declared.message.Message.{Message}
use Rattle.messages.specs.declared.message.Message.TheVariants.{Start, StartAck, Stop, StopAck, TmplData, FinalTmplDataAck}
use Rattle.messages.specs.declared.message.Message.TheVariants.{StartNegotiate, StartNegotiateAck, Data, DataAck}
use Rattle.session.specs.Limits.{max_servers, min_store_octets}
use Rattle.session.specs.Servers.{start, offer, down, agree}
use Rattle.session.specs.Steps.{Call, put, next_data, tick, ack, move, step}
use Rattle.session.specs.History.{History, after_call, fresh_history}
use Rattle.session.specs.Claim.{Invocation, Session, dsn_bits, Exporter, outcome, advance, begin, due_reply}
use Rattle.session.specs.Examples.{a_table, settings_with}
use Rattle.session.specs.declared.state.State.{State}

-- ---- S being due, under any call

-- Another choice makes S due, a call that releases a record makes it due no more, and any other call leaves it.
pub record DueRules (s left : State) : Type 0 where
  pub begins : left.delivery.active ≢ s.delivery.active → left.due ≡ true
  pub releases : left.queue.count < s.queue.count → left.due ≡ false
  pub stays : left.delivery.active ≡ s.delivery.active → s.queue.count ≤ left.queue.count → left.due ≡ s.due

-- So it is for every state and every call, accepted or not, whatever the encoding.
abbrev pub DueRule : Type 0
DueRule = (e : Encoding) (room : ℕ) (c : Call) (s : State) (store : List ℕ) → DueRules s (step e room c s store).state

-- ---- the marks that a session writes

-- The DSN of a DATA, and whether it has S.
pub record Mark : Type 0 where
  pub dsn : ℕ
  pub first : Bool

-- A DATA with S.
abbrev pub with_s : ℕ → Mark
with_s dsn = record { dsn = dsn; first = true }

-- A DATA without S.
abbrev pub without_s : ℕ → Mark
without_s dsn = record { dsn = dsn; first = false }

-- The mark of a message, if it is DATA.
abbrev pub mark_of : Message → List Mark
mark_of (Start s) = []
mark_of (StartAck s boot) = []
mark_of (Stop s) = []
mark_of (StopAck s) = []
mark_of (TmplData s) = []
mark_of (FinalTmplDataAck s config) = []
mark_of (StartNegotiate s) = []
mark_of (StartNegotiateAck s) = []
mark_of (Data h) = record { dsn = h.dsn; first = h.first } ∷ []
mark_of (DataAck s dsn config) = []

-- The mark that a reply carries, if it is DATA.
abbrev pub mark_in : Reply → List Mark
mark_in silent = []
mark_in (message m part) = mark_of m

-- Two servers, the first of the higher priority; DSNs from 0 on; the timer runs out at every tick at which a record is reached.
abbrev pub a_session : Session
a_session = record { encoding = crane; settings = settings_with 2 (set (replicate max_servers 0) 0 1) 1 1 }

-- A call with an output that has room for any message here.
abbrev pub invoked : Call → Invocation
invoked c = record { call = c; room = 64 }

-- The answers of calls.
unfoldable pub answers_from : Exporter → List Call → List ℕ
answers_from x [] = []
answers_from x (c ∷ cs) = (outcome a_session x (invoked c)).answer ∷ answers_from (advance a_session x (invoked c)) cs

-- The marks that calls write.
unfoldable pub marks_from : Exporter → List Call → List Mark
marks_from x [] = []
marks_from x (c ∷ cs) = mark_in (outcome a_session x (invoked c)).written ++ marks_from (advance a_session x (invoked c)) cs

-- The marks that the history has of calls that are all accepted.
unfoldable pub marks_due : History → List Call → List Mark
marks_due h [] = []
marks_due h (c ∷ cs) =
    mark_in (due_reply a_session h c) ++ marks_due (after_call (dsn_bits a_session) a_session.settings c done h) cs

-- ---- sessions

-- Server v agrees to the table.
abbrev pub agreed : ℕ → List Call
agreed v = move v start ∷ move v (offer a_table) ∷ move v (agree 1) ∷ []

-- A record is put.
abbrev pub puts : Call
puts = put a_table 3 (0x00 ∷ 0x05 ∷ [])

-- The first server acknowledges a DSN.
abbrev pub acks : ℕ → Call
acks dsn = ack 0 dsn 1

-- The first server acknowledges the DSN before the first one, which is no record as long as none is released.
abbrev pub acks_none : Call
acks_none = acks 4294967295

-- The first server agrees, and is sent the records of the DSNs 0 and 1.
abbrev pub sent_two : List Call
sent_two = agreed 0 ++ (puts ∷ puts ∷ next_data ∷ next_data ∷ [])

-- Calls from a fresh exporter on, and the marks of the DATA that they write.
pub record Example : Type 0 where
  pub calls : List Call
  pub marks : List Mark

-- What calls from a fresh exporter on answer, the marks that they write, and those that the history has.
pub record Shown : Type 0 where
  pub answers : List ℕ
  pub written : List Mark
  pub due : List Mark

-- What is shown of an example's calls.
abbrev pub shown : Example → Shown
shown x =
    let fresh = begin a_session (replicate min_store_octets 0) in
    record {
      answers = answers_from fresh x.calls;
      written = marks_from fresh x.calls;
      due = marks_due fresh_history x.calls;
    }

-- What it says: each call is accepted, and its marks are those written and those due.
abbrev pub said : Example → Shown
said x = record { answers = replicate (length x.calls) done; written = x.marks; due = x.marks }

-- Every example holds.
abbrev pub ExamplesHold : List Example → Type 0
ExamplesHold [] = Unit {0}
ExamplesHold (x ∷ xs) = (shown x ≡ said x) × ExamplesHold xs

-- What the first server is sent again, and whether it has S.
abbrev pub examples_of_resends : List Example
examples_of_resends =
    -- before a release: by ticks, and by a DATA ACK of no record
    record {
      calls = sent_two ++ (tick ∷ next_data ∷ next_data ∷ tick ∷ next_data ∷ []);
      marks = with_s 0 ∷ without_s 1 ∷ with_s 0 ∷ without_s 1 ∷ with_s 0 ∷ [];
    }
    ∷ record { calls = sent_two ++ (acks_none ∷ next_data ∷ next_data ∷ []); marks = with_s 0 ∷ without_s 1 ∷ with_s 0 ∷ without_s 1 ∷ [] }
    -- after a release: by a tick, and by a DATA ACK of no record more
    ∷ record { calls = sent_two ++ (acks 0 ∷ tick ∷ next_data ∷ []); marks = with_s 0 ∷ without_s 1 ∷ without_s 1 ∷ [] }
    ∷ record { calls = sent_two ++ (acks 0 ∷ acks 0 ∷ next_data ∷ []); marks = with_s 0 ∷ without_s 1 ∷ without_s 1 ∷ [] }
    -- the release comes between the tick and the sending again
    ∷ record { calls = sent_two ++ (tick ∷ acks 0 ∷ next_data ∷ []); marks = with_s 0 ∷ without_s 1 ∷ without_s 1 ∷ [] }
    -- the release comes after the sending again: the next record has no S in this activation, and has it in the next one
    ∷ record {
      calls = sent_two ++ (tick ∷ next_data ∷ acks 1 ∷ puts ∷ next_data ∷ move 0 down ∷ []) ++ agreed 0 ++ (next_data ∷ []);
      marks = with_s 0 ∷ without_s 1 ∷ with_s 0 ∷ without_s 2 ∷ with_s 2 ∷ [];
    }
    ∷ []

-- With which record an activation begins.
abbrev pub examples_of_beginnings : List Example
examples_of_beginnings =
    -- none is held when the activation begins: with the first one put, also where a DATA ACK of no record comes before it
    record { calls = agreed 0 ++ (puts ∷ next_data ∷ tick ∷ next_data ∷ []); marks = with_s 0 ∷ with_s 0 ∷ [] }
    ∷ record { calls = agreed 0 ++ (acks_none ∷ puts ∷ next_data ∷ []); marks = with_s 0 ∷ [] }
    -- a queue that is emptied and filled again within an activation begins none
    ∷ record { calls = agreed 0 ++ (puts ∷ next_data ∷ acks 0 ∷ puts ∷ next_data ∷ []); marks = with_s 0 ∷ without_s 1 ∷ [] }
    -- the same server is active anew: with the first record held
    ∷ record {
      calls = sent_two ++ (acks 0 ∷ move 0 down ∷ []) ++ agreed 0 ++ (next_data ∷ tick ∷ next_data ∷ []);
      marks = with_s 0 ∷ without_s 1 ∷ with_s 1 ∷ with_s 1 ∷ [];
    }
    -- another server takes over: at line down, where the first turns late, and where one of higher priority agrees
    ∷ record {
      calls = agreed 1 ++ sent_two ++ (acks 0 ∷ move 0 down ∷ next_data ∷ []);
      marks = with_s 0 ∷ without_s 1 ∷ with_s 1 ∷ [];
    }
    ∷ record { calls = agreed 1 ++ sent_two ++ (acks 0 ∷ tick ∷ next_data ∷ []); marks = with_s 0 ∷ without_s 1 ∷ with_s 1 ∷ [] }
    ∷ record {
      calls = agreed 1 ++ (puts ∷ puts ∷ next_data ∷ ack 1 0 1 ∷ []) ++ agreed 0 ++ (next_data ∷ []);
      marks = with_s 0 ∷ with_s 1 ∷ [];
    }
    -- a server that agrees and is not chosen begins none: before a release, and after one
    ∷ record { calls = sent_two ++ agreed 1 ++ (acks_none ∷ next_data ∷ []); marks = with_s 0 ∷ without_s 1 ∷ with_s 0 ∷ [] }
    ∷ record {
      calls = sent_two ++ (acks 0 ∷ []) ++ agreed 1 ++ (acks 0 ∷ next_data ∷ []);
      marks = with_s 0 ∷ without_s 1 ∷ without_s 1 ∷ [];
    }
    ∷ []

-- All of them.
pub record ResendExamples : Type 0 where
  pub resends : ExamplesHold examples_of_resends
  pub beginnings : ExamplesHold examples_of_beginnings
