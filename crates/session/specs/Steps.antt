-- The calls: what each is refused for and in which order, what it leaves, and what it writes (01, "Answer numbers" and "Exporter").
-- Messages are taken by meaning; of their encoding a step knows how many bits sequence numbers have (w here), and how long messages are.
use Rattle.std.specs.Prelude.{ℕ, ◌+◌, ◌-◌, ◌%◌, ◌^◌, Bool, true, false, not, ◌&&◌, ◌||◌, cond, List, [], ◌∷◌, ◌++◌, eqb, leb, ltb, length, get_or, replicate}
use Rattle.std.proofs.lemmas.List.Edits.{sets}
use Rattle.octets.specs.Answers.{Check, ◌when◌, judge, judged, done, unsound_state, no_such_server, other_session, message_not_accepted}
use Rattle.octets.specs.Answers.{body_length_wrong, out_of_turn, other_configuration, dsn_not_acknowledgeable, output_too_short, no_active_server}
use Rattle.octets.specs.Answers.{nothing_to_send}
use Rattle.octets.specs.Answers.{template_not_found, record_invalid, record_too_long, queue_full, store_full, settings_outside_limits, unsound_table}
use Rattle.wire.specs.Table.{configuration_id, table_sound, is_missing, template_of}
use Rattle.wire.specs.Record.{record_valid}
use Rattle.wire.specs.Messages.{max_record_octets, header_checks, session_of, message_number, header_octets, body_fits, meaning_of}
use Rattle.wire.specs.Messages as wire
use Rattle.wire.specs.Replies.{Reply, silent, message, Encoding, size_of, crane, layout}
use Rattle.numbers.specs.declared.refusal.Refusal.{Refusal}
use Rattle.messages.specs.declared.message.Message.{Message}
use Rattle.messages.specs.declared.message.Message.TheVariants.{Start, StartAck, Stop, StopAck, TmplData, FinalTmplDataAck}
use Rattle.messages.specs.declared.message.Message.TheVariants.{StartNegotiate, StartNegotiateAck, Data, DataAck}
use Rattle.messages.specs.declared.message.DataHead.{DataHead}
use Rattle.session.specs.Servers.{phase_at, is_closed, is_offered, can_offer, same_active, is_nobody, changed, settle, fresh_delivery}
use Rattle.session.specs.Servers.{with_servers, Transition, start, stop, negotiate, offer, down, agree, malformed, transition, sent_one}
use Rattle.session.specs.Servers.{acknowledged, ticked}
use Rattle.session.specs.Queue.{held_octets, ring_place, record_at, ring_write, marked_set, has_other, pushed, drop_front, marked}
use Rattle.session.specs.Limits.{max_servers, max_held}
use Rattle.session.specs.Sound.{settings_sound, sound}
use Rattle.session.specs.declared.state.Phase.{Phase}
use Rattle.std.specs.Prelude.{Option, Some, None, Result}
use Rattle.session.specs.declared.state.Settings.{Settings}
use Rattle.session.specs.declared.state.Delivery.{Delivery}
use Rattle.session.specs.declared.state.Queue.{Queue}
use Rattle.session.specs.declared.state.State.{State}
use Rattle.session.specs.declared.state.Wrote.{Wrote}

-- ---- sequence numbers (01, "Exporter")

-- How many sequence numbers there are.
abbrev pub modulus : ℕ → ℕ
modulus w = 2 ^ w

-- The DSN of the first of `count` held records, by the next DSN, which stands for it where none is held.
abbrev pub first_held_by : ℕ → ℕ → ℕ → ℕ
first_held_by w next count = (next + (modulus w - count)) % modulus w

-- The DSN of the first held record of a state.
abbrev pub first_held : ℕ → State → ℕ
first_held w s = first_held_by w s.next s.queue.count

-- The DSN of the record at place i of `count` held ones, by the next DSN.
abbrev pub dsn_at_by : ℕ → ℕ → ℕ → ℕ → ℕ
dsn_at_by w next count i = (first_held_by w next count + i) % modulus w

-- The DSN of the record at place i of the queue.
abbrev pub dsn_at : ℕ → State → ℕ → ℕ
dsn_at w s i = dsn_at_by w s.next s.queue.count i

-- How many records a DATA ACK of this DSN names from the front of `count` held ones, by the next DSN: the DSN minus the first held one,
-- plus 1, modulo 2 ^ w.
abbrev pub ack_count_by : ℕ → ℕ → ℕ → ℕ → ℕ
ack_count_by w next count dsn = (dsn + (modulus w - first_held_by w next count) + 1) % modulus w

-- How many records it names of those that a state holds.
unfoldable pub ack_count : ℕ → State → ℕ → ℕ
ack_count w s dsn = ack_count_by w s.next s.queue.count dsn

-- ---- calls, by what they mean (01, "Messages")

-- Put of a record under a template ID, with the table that is lent; next data; tick; a DATA ACK from a server, of a DSN and a
-- Configuration ID; a transition of a server.
pub data Call : Type 0 where
  put : List ℕ → ℕ → List ℕ → Call
  next_data tick : Call
  ack : ℕ → ℕ → ℕ → Call
  move : ℕ → Transition → Call

-- The messages that receive accepts.
abbrev pub is_received : ℕ → Bool
is_received n =
    eqb n wire.start || eqb n wire.stop || eqb n wire.final_tmpl_data_ack || eqb n wire.start_negotiate || eqb n wire.data_ack

-- A received message is judged by its form 3 to 8.
unfoldable pub form_answer : Settings → List ℕ → ℕ
form_answer p m =
    judge
    (header_checks m
    ++ ((other_session when not (eqb (session_of m) p.session))
    ∷ (message_not_accepted when not (is_received (message_number m)))
    ∷ (body_length_wrong when not (body_fits (message_number m) (length m - header_octets)))
    ∷ []))

-- The call that a message from server v makes, by its meaning; `received` asks this only of messages that receive accepts.
unfoldable pub call_of_message : ℕ → Message → Call
call_of_message v (Start s) = move v start
call_of_message v (StartAck s boot) = move v (malformed message_not_accepted)
call_of_message v (Stop s) = move v stop
call_of_message v (StopAck s) = move v (malformed message_not_accepted)
call_of_message v (TmplData s) = move v (malformed message_not_accepted)
call_of_message v (FinalTmplDataAck s config) = move v (agree config)
call_of_message v (StartNegotiate s) = move v negotiate
call_of_message v (StartNegotiateAck s) = move v (malformed message_not_accepted)
call_of_message v (Data h) = move v (malformed message_not_accepted)
call_of_message v (DataAck s dsn config) = ack v dsn config

-- The call that receiving octets from server v makes.
unfoldable pub received : Settings → ℕ → List ℕ → Call
received p v m = cond (eqb (form_answer p m) done) (call_of_message v (meaning_of m)) (move v (malformed (form_answer p m)))

-- ---- what is written (01, "Messages" and "Exporter")

-- D: the record was sent to a server other than the active one.
abbrev pub is_duplicate : Settings → Option ℕ → ℕ → Bool
is_duplicate p None m = false
is_duplicate p (Some v) m = has_other p.servers v m

-- S (02, ask 2): it is due, since no record was released in this activation, and the record at place i is the first one held. That record
-- is then the one with which the activation began.
abbrev pub is_first : Bool → ℕ → Bool
is_first due i = due && eqb i 0

-- The head of the next DATA: the record at place "sent", S where it began the activation and none was released since, D where it was sent
-- to another server.
unfoldable pub head_of : ℕ → State → DataHead
head_of w s =
    let i = s.delivery.sent in
    record {
      session = s.settings.session;
      template = get_or s.queue.templates i 0;
      config = s.settings.config;
      first = is_first s.due i;
      duplicate = is_duplicate s.settings s.delivery.active (get_or s.queue.receivers i 0);
      dsn = dsn_at w s i;
    }

-- START, STOP and START NEGOTIATE are acknowledged; an offer writes TMPL DATA with the table; no other transition writes.
abbrev pub reply_to : Settings → Transition → Reply
reply_to p start = message (StartAck p.session p.boot) []
reply_to p stop = message (StopAck p.session) []
reply_to p negotiate = message (StartNegotiateAck p.session) []
reply_to p (offer table) = message (TmplData p.session) table
reply_to p down = silent
reply_to p (agree config) = silent
reply_to p (malformed a) = silent

-- What an accepted call writes.
unfoldable pub written : ℕ → Call → State → List ℕ → Reply
written w (put table id r) s store = silent
written w next_data s store = message (Data (head_of w s)) (record_at s store s.delivery.sent)
written w tick s store = silent
written w (ack v dsn config) s store = silent
written w (move v m) s store = reply_to s.settings m

-- ---- refusals (01, "Answer numbers")

-- A lent table is the session's.
abbrev pub is_sessions : Settings → List ℕ → Bool
is_sessions p table = table_sound table && eqb (configuration_id table) p.config

-- START NEGOTIATE is refused with 9 from a closed server.
abbrev pub negotiate_checks : Phase → List Check
negotiate_checks phase = (out_of_turn when is_closed phase) ∷ []

-- The refusals of a transition of a server in this phase, after 1 and 2, that do not look at the output.
abbrev pub turn_checks : Settings → Transition → Phase → List Check
turn_checks p start phase = []
turn_checks p stop phase = []
turn_checks p negotiate phase = negotiate_checks phase
turn_checks p (offer table) phase = (unsound_table when not (is_sessions p table)) ∷ (out_of_turn when not (can_offer phase)) ∷ []
turn_checks p down phase = []
turn_checks p (agree config) phase =
    (out_of_turn when not (is_offered phase)) ∷ (other_configuration when not (eqb config p.config)) ∷ []
turn_checks p (malformed a) phase = (a when true) ∷ []

-- 12, of a transition that writes a message.
abbrev pub reply_checks : Encoding → Settings → ℕ → Transition → List Check
reply_checks e p room start = (output_too_short when ltb room (size_of e (reply_to p start))) ∷ []
reply_checks e p room stop = (output_too_short when ltb room (size_of e (reply_to p stop))) ∷ []
reply_checks e p room negotiate = (output_too_short when ltb room (size_of e (reply_to p negotiate))) ∷ []
reply_checks e p room (offer table) = (output_too_short when ltb room (size_of e (reply_to p (offer table)))) ∷ []
reply_checks e p room down = []
reply_checks e p room (agree config) = []
reply_checks e p room (malformed a) = []

-- All refusals of a transition after 1 and 2.
abbrev pub transition_checks : Encoding → Settings → ℕ → Transition → Phase → List Check
transition_checks e p room t phase = turn_checks p t phase ++ reply_checks e p room t

-- The refusals of a record under a lent table: 21, 15, 17, 16.
abbrev pub record_checks : Settings → List ℕ → ℕ → List ℕ → List Check
record_checks p table id r =
    (unsound_table when not (is_sessions p table))
    ∷ (template_not_found when is_missing table id)
    ∷ (record_too_long when ltb max_record_octets (length r))
    ∷ (record_invalid when not (record_valid table (template_of table id) r))
    ∷ []

-- The refusals of a record beside n held ones, which have `octets` octets together: 18, 19.
abbrev pub room_checks : ℕ → ℕ → ℕ → List ℕ → List Check
room_checks capacity n octets r =
    (queue_full when leb max_held n) ∷ (store_full when ltb capacity (octets + length r)) ∷ []

-- The refusals of next data with n records held, after 1, that do not look at the output: 13, 14.
abbrev pub send_checks : Delivery → ℕ → List Check
send_checks d n = (no_active_server when is_nobody d.active) ∷ (nothing_to_send when leb n d.sent) ∷ []

-- The refusals of a DATA ACK from server v that names n records, after 1.
abbrev pub ack_checks : Settings → Delivery → ℕ → ℕ → ℕ → List Check
ack_checks p d v config n =
    (no_such_server when leb p.servers v)
    ∷ (out_of_turn when not (same_active d.active (Some v)))
    ∷ (other_configuration when not (eqb config p.config))
    ∷ (dsn_not_acknowledgeable when ltb d.reached n)
    ∷ []

-- The refusals of each call in their order, after 1. `room` is the output's length.
unfoldable pub checks : Encoding → ℕ → Call → State → List ℕ → List Check
checks e room (put table id r) s store =
    record_checks s.settings table id r ++ room_checks s.capacity s.queue.count (held_octets s.queue) r
checks e room next_data s store =
    send_checks s.delivery s.queue.count
    ++ ((output_too_short when ltb room (size_of e (written e.width next_data s store))) ∷ [])
checks e room tick s store = []
checks e room (ack v dsn config) s store = ack_checks s.settings s.delivery v config (ack_count e.width s dsn)
checks e room (move v m) s store =
    (no_such_server when leb s.settings.servers v)
    ∷ transition_checks e s.settings room m (phase_at s.delivery.servers v)

-- Put and next data are lent the store, which must have the length set.
abbrev pub sound_for : Call → State → List ℕ → Bool
sound_for (put table id r) s store = sound s && eqb (length store) s.capacity
sound_for next_data s store = sound s && eqb (length store) s.capacity
sound_for tick s store = sound s
sound_for (ack v dsn config) s store = sound s
sound_for (move v m) s store = sound s

-- The first refusal that applies, 1 before all others; 0 where none does.
unfoldable pub answer : Encoding → ℕ → Call → State → List ℕ → ℕ
answer e room c s store = judge ((unsound_state when not (sound_for c s store)) ∷ checks e room c s store)

-- ---- what an accepted call leaves (01, "Exporter")

-- A state with this delivery and S due or not.
abbrev pub with_due : State → Delivery → Bool → State
with_due s d due =
    record { settings = s.settings; capacity = s.capacity; delivery = d; due = due; queue = s.queue; start = s.start; next = s.next }

-- A state with this delivery.
abbrev pub with_delivery : State → Delivery → State
with_delivery s d = with_due s d s.due

-- The queue after the record at place i was sent to the active server.
abbrev pub marked_for : Option ℕ → Queue → ℕ → Queue
marked_for a q i = marked q i (marked_set a (get_or q.receivers i 0))

-- The state before the choice is made anew. A DATA ACK that releases a record makes S due no more; no other call changes that here.
unfoldable pub after : ℕ → Call → State → State
after w (put table id r) s =
    record {
      settings = s.settings;
      capacity = s.capacity;
      delivery = s.delivery;
      due = s.due;
      queue = pushed s.queue id (length r);
      start = s.start;
      next = (s.next + 1) % modulus w;
    }
after w next_data s =
    record {
      settings = s.settings;
      capacity = s.capacity;
      delivery = sent_one s.delivery;
      due = s.due;
      queue = marked_for s.delivery.active s.queue s.delivery.sent;
      start = s.start;
      next = s.next;
    }
after w tick s = with_delivery s (ticked s.settings s.delivery)
after w (ack v dsn config) s =
    let n = ack_count w s dsn in
    record {
      settings = s.settings;
      capacity = s.capacity;
      delivery = acknowledged n s.delivery;
      due = s.due && eqb n 0;
      queue = drop_front s.queue n;
      start = ring_place s.capacity s.start s.queue.lengths n;
      next = s.next;
    }
after w (move v m) s = with_delivery s (with_servers s.delivery (transition v m s.delivery.servers))

-- The choice made anew; a changed one makes S due.
unfoldable pub settled : State → State
settled s = with_due s (settle s.settings s.delivery) (changed s.settings s.delivery || s.due)

-- Only a put changes the store: its octets follow the held ones.
unfoldable pub store_after : Call → State → List ℕ → List ℕ
store_after (put table id r) s store = ring_write s.capacity store (s.start + held_octets s.queue) r
store_after next_data s store = store
store_after tick s store = store
store_after (ack v dsn config) s store = store
store_after (move v m) s store = store

-- ---- the step (01, "Answer numbers")

-- What a call answers and leaves, and what it writes, by its meaning. The store is [] where none was lent.
pub record Outcome : Type 0 where
  pub answer : ℕ
  pub state : State
  pub store : List ℕ
  pub written : Reply

-- An accepted call has its effect; any other leaves state and store as they were and writes nothing.
unfoldable pub step : Encoding → ℕ → Call → State → List ℕ → Outcome
step e room c s store =
    let a = answer e room c s store in
    let w = e.width in
    cond (eqb a done)
    (record { answer = done; state = settled (after w c s); store = store_after c s store; written = written w c s store })
    (record { answer = a; state = s; store = store; written = silent })

-- ---- the calls of the code, in CRANE (01, "Messages" and "Exporter")

-- Put of a record under a template ID, lent the store and a table.
abbrev pub put_step : State → List ℕ → List ℕ → ℕ → List ℕ → Outcome
put_step s store table id r = step crane 0 (put table id r) s store

-- Next data, lent the store and an output.
abbrev pub next_data_step : State → List ℕ → List ℕ → Outcome
next_data_step s store out = step crane (length out) next_data s store

-- A message from server v, lent an output; it sees no table and no store.
abbrev pub receive_step : State → ℕ → List ℕ → List ℕ → Outcome
receive_step s v m out = step crane (length out) (received s.settings v m) s []

-- An offer of the lent table to server v, lent an output.
abbrev pub offer_step : State → ℕ → List ℕ → List ℕ → Outcome
offer_step s v table out = step crane (length out) (move v (offer table)) s []

-- The line to server v is down: nothing is lent.
abbrev pub line_down_step : State → ℕ → Outcome
line_down_step s v = step crane 0 (move v down) s []

-- One tick: nothing is lent.
abbrev pub tick_step : State → Outcome
tick_step s = step crane 0 tick s []

-- The octets that a call writes in CRANE.
abbrev pub octets_written : Outcome → List ℕ
octets_written o = layout o.written

-- The output after a call: what it wrote stands from the first octet on, and every other octet is as it was.
abbrev pub output_after : List ℕ → Outcome → List ℕ
output_after out o = sets out 0 (octets_written o)

-- What a call answers that writes no message: the state that it leaves, or the refusal; a refused step leaves the state that came.
abbrev pub stepped_of : Outcome → Result State Refusal
stepped_of o = judged o.answer o.state

-- What a call answers that may write one: also how many octets it wrote; a refused step writes none.
abbrev pub wrote_of : Outcome → Result Wrote Refusal
wrote_of o = judged o.answer (record { state = o.state; written = length (octets_written o) })

-- ---- set-up (01, "Exporter")

-- A state that holds nothing: every server closed, all counters 0, S due, and the first record to take the initial DSN.
unfoldable pub fresh : Settings → ℕ → State
fresh p capacity =
    record {
      settings = p;
      capacity = capacity;
      delivery = fresh_delivery;
      due = true;
      queue = record { count = 0; lengths = replicate max_held 0; templates = replicate max_held 0; receivers = replicate max_held 0 };
      start = 0;
      next = p.initial;
    }

-- Settings of 0, which no set-up accepts.
abbrev pub no_settings : Settings
no_settings =
    record {
      session = 0;
      config = 0;
      boot = 0;
      initial = 0;
      servers = 0;
      priorities = replicate max_servers 0;
      threshold = 0;
      duration = 0;
    }

-- What is left where set-up refuses: a state without servers or store, which every call refuses.
abbrev pub refused_state : State
refused_state = fresh no_settings 0

-- What set-up is judged by and leaves.
pub record Made : Type 0 where
  pub answer : ℕ
  pub state : State

-- The same where it refuses.
abbrev pub refused_set_up : Made
refused_set_up = record { answer = settings_outside_limits; state = refused_state }

-- Set-up with a store of a length is judged 20.
unfoldable pub set_up : Settings → ℕ → Made
set_up p capacity =
    cond (settings_sound p capacity)
    (record { answer = done; state = fresh p capacity })
    refused_set_up

-- What set-up answers: the state that it makes, or the refusal.
abbrev pub made_of : Made → Result State Refusal
made_of m = judged m.answer m.state
