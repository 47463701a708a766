-- The collector (02, ask 4): its state and the memory that it is lent, what each call is refused for and in which order, what it leaves and
-- what it writes. Messages are taken by meaning; of their encoding a step knows how many bits sequence numbers have (w here), and how long
-- messages are.
use Rattle.std.specs.Prelude.{ℕ, ◌+◌, ◌-◌, ◌≡◌, Bool, true, false, not, ◌&&◌, ◌||◌, cond, List, [], ◌∷◌, ◌++◌, eqb, leb, ltb, length, take, drop, Option, Some, None}
use Rattle.std.proofs.lemmas.List.Edits.{sets}
use Rattle.octets.specs.Answers.{Check, ◌when◌, judge, done, unsound_state, message_not_accepted, out_of_turn, other_configuration}
use Rattle.octets.specs.Answers.{output_too_short, template_not_found, record_invalid, record_too_long, store_full, unsound_table}
use Rattle.wire.specs.Table.{configuration_id, table_sound, is_missing, template_of, max_table_octets}
use Rattle.wire.specs.Record.{record_valid}
use Rattle.wire.specs.Messages.{max_record_octets, header_octets, data_head_length, meaning_of}
use Rattle.wire.specs.Messages as wire
use Rattle.wire.specs.Received.{form_answer_for}
use Rattle.wire.specs.Sequence.{following}
use Rattle.wire.specs.Replies.{Reply, silent, message, Encoding, size_of, crane, layout}
use Rattle.messages.specs.declared.message.Message.{Message}
use Rattle.messages.specs.declared.message.Message.TheVariants.{Start, StartAck, Stop, StopAck, TmplData, FinalTmplDataAck}
use Rattle.messages.specs.declared.message.Message.TheVariants.{StartNegotiate, StartNegotiateAck, Data, DataAck}
use Rattle.messages.specs.declared.message.DataHead.{DataHead}
use Rattle.collection.specs.Journal.{JournalEntry, entry_length, entry_octets}
use Rattle.collection.specs.declared.state.Collector.{Collector}
use Rattle.collection.specs.declared.state.Collected.{Collected}

-- ---- the lent memory, and set-up

-- What a collector is lent: its journal, and the octets in which it keeps the agreed table.
pub record Memory : Type 0 where
  pub journal : List ℕ
  pub table : List ℕ

-- Set-up takes a session and any journal length, and is never refused: no table, nothing processed, an empty journal.
unfoldable pub fresh_collector : ℕ → ℕ → Collector
fresh_collector session capacity =
    record { session = session; capacity = capacity; used = 0; table = 0; config = 0; last = None }

-- No table is agreed.
abbrev pub is_unagreed : Collector → Bool
is_unagreed c = eqb c.table 0

-- The agreed table, as it stands in the memory.
abbrev pub kept_table : Collector → Memory → List ℕ
kept_table c m = take c.table m.table

-- ---- calls, by what they mean

-- Writing START or STOP; a START ACK or STOP ACK received; a TMPL DATA received, with its table; a DATA received, with its record; a
-- message that its form refuses, with the number of that refusal.
pub data Command : Type 0 where
  write_start write_stop note : Command
  agree_to : List ℕ → Command
  take_record : DataHead → List ℕ → Command
  malformed : ℕ → Command

-- The messages that a collector accepts.
abbrev pub is_collected : ℕ → Bool
is_collected n = eqb n wire.start_ack || eqb n wire.stop_ack || eqb n wire.tmpl_data || eqb n wire.data_number

-- A received message is judged by its form 3 to 8; a TMPL DATA's body fits whatever its length.
abbrev pub collected_form : ℕ → List ℕ → ℕ
collected_form session m = form_answer_for is_collected session m

-- The call that a message makes, by its octets and their meaning; `collected` asks this only of messages that a collector accepts.
unfoldable pub command_of_message : List ℕ → Message → Command
command_of_message m (Start s) = malformed message_not_accepted
command_of_message m (StartAck s boot) = note
command_of_message m (Stop s) = malformed message_not_accepted
command_of_message m (StopAck s) = note
command_of_message m (TmplData s) = agree_to (drop header_octets m)
command_of_message m (FinalTmplDataAck s config) = malformed message_not_accepted
command_of_message m (StartNegotiate s) = malformed message_not_accepted
command_of_message m (StartNegotiateAck s) = malformed message_not_accepted
command_of_message m (Data h) = take_record h (drop data_head_length m)
command_of_message m (DataAck s dsn config) = malformed message_not_accepted

-- The call that receiving octets makes.
unfoldable pub collected : ℕ → List ℕ → Command
collected session m =
    cond (eqb (collected_form session m) done) (command_of_message m (meaning_of m)) (malformed (collected_form session m))

-- ---- in sequence or not

-- The expected DSN is the last processed plus 1; with nothing processed there is none.
abbrev pub is_expected : ℕ → Option ℕ → ℕ → Bool
is_expected w None dsn = false
is_expected w (Some d) dsn = eqb dsn (following w d)

-- An S record sets the expected DSN, so it is in sequence; any other is where it is the expected one.
abbrev pub in_sequence : ℕ → Option ℕ → DataHead → Bool
in_sequence w l h = h.first || is_expected w l h.dsn

-- ---- what is written

-- DATA ACK of a DSN, with the agreed Configuration ID.
abbrev pub ack_of : Collector → ℕ → Reply
ack_of c dsn = message (DataAck c.session dsn c.config) []

-- DATA ACK of the last DSN processed; nothing where none was.
abbrev pub ack_of_last : Collector → Option ℕ → Reply
ack_of_last c None = silent
ack_of_last c (Some d) = ack_of c d

-- What an accepted call writes. A record in sequence is acknowledged by its own DSN, which then is the last one processed.
unfoldable pub written : ℕ → Command → Collector → Reply
written w write_start c = message (Start c.session) []
written w write_stop c = message (Stop c.session) []
written w note c = silent
written w (agree_to table) c = message (FinalTmplDataAck c.session (configuration_id table)) []
written w (take_record h r) c = cond (in_sequence w c.last h) (ack_of c h.dsn) (ack_of_last c c.last)
written w (malformed a) c = silent

-- ---- refusals

-- 12, of a call that writes a message.
abbrev pub reply_check : Encoding → ℕ → Command → Collector → Check
reply_check e room k c = output_too_short when ltb room (size_of e (written e.width k c))

-- A DATA is refused with 9 where no table is agreed, and with 10 where its Configuration ID is not the agreed one.
abbrev pub turn_checks : Collector → DataHead → List Check
turn_checks c h = (out_of_turn when is_unagreed c) ∷ (other_configuration when not (eqb h.config c.config)) ∷ []

-- The refusals of a record under a table: 21, 15, 17, 16.
abbrev pub record_checks : List ℕ → ℕ → List ℕ → List Check
record_checks table id r =
    (unsound_table when not (table_sound table))
    ∷ (template_not_found when is_missing table id)
    ∷ (record_too_long when ltb max_record_octets (length r))
    ∷ (record_invalid when not (record_valid table (template_of table id) r))
    ∷ []

-- 19: the entry of a record in sequence does not fit the octets left of the journal.
abbrev pub journal_check : ℕ → Collector → DataHead → List ℕ → Check
journal_check w c h r = store_full when (in_sequence w c.last h && ltb (c.capacity - c.used) (entry_length r))

-- The refusals of each call in their order, after 1. `room` is the output's length.
unfoldable pub checks : Encoding → ℕ → Command → Collector → Memory → List Check
checks e room write_start c m = reply_check e room write_start c ∷ []
checks e room write_stop c m = reply_check e room write_stop c ∷ []
checks e room note c m = []
checks e room (agree_to table) c m = (unsound_table when not (table_sound table)) ∷ reply_check e room (agree_to table) c ∷ []
checks e room (take_record h r) c m =
    turn_checks c h
    ++ record_checks (kept_table c m) h.template r
    ++ (journal_check e.width c h r ∷ reply_check e room (take_record h r) c ∷ [])
checks e room (malformed a) c m = (a when true) ∷ []

-- The journal's used octets, and the agreed table's, lie within what was set.
abbrev pub collector_sound : Collector → Bool
collector_sound c = leb c.used c.capacity && leb c.table max_table_octets

-- The lent memory has the lengths set.
abbrev pub memory_fits : Collector → Memory → Bool
memory_fits c m = eqb (length m.journal) c.capacity && eqb (length m.table) max_table_octets

-- Receive is lent the memory; writing START or STOP is lent none.
abbrev pub sound_for : Command → Collector → Memory → Bool
sound_for write_start c m = collector_sound c
sound_for write_stop c m = collector_sound c
sound_for note c m = collector_sound c && memory_fits c m
sound_for (agree_to table) c m = collector_sound c && memory_fits c m
sound_for (take_record h r) c m = collector_sound c && memory_fits c m
sound_for (malformed a) c m = collector_sound c && memory_fits c m

-- The first refusal that applies, 1 before all others; 0 where none does.
unfoldable pub answer : Encoding → ℕ → Command → Collector → Memory → ℕ
answer e room k c m = judge ((unsound_state when not (sound_for k c m)) ∷ checks e room k c m)

-- ---- what an accepted call leaves

-- START and STOP forget the agreed table and both DSNs, never the journal.
abbrev pub forgotten : Collector → Collector
forgotten c = record { session = c.session; capacity = c.capacity; used = c.used; table = 0; config = 0; last = None }

-- After a table was agreed to; DSNs and journal stay.
abbrev pub agreed_to : Collector → List ℕ → Collector
agreed_to c table =
    record {
      session = c.session;
      capacity = c.capacity;
      used = c.used;
      table = length table;
      config = configuration_id table;
      last = c.last;
    }

-- After a record with this DSN was processed, whose entry follows those before it.
abbrev pub processed : Collector → ℕ → List ℕ → Collector
processed c dsn r =
    record {
      session = c.session;
      capacity = c.capacity;
      used = c.used + entry_length r;
      table = c.table;
      config = c.config;
      last = Some dsn;
    }

-- The state after each call; a record that is not in sequence is discarded.
unfoldable pub after : ℕ → Command → Collector → Collector
after w write_start c = forgotten c
after w write_stop c = forgotten c
after w note c = c
after w (agree_to table) c = agreed_to c table
after w (take_record h r) c = cond (in_sequence w c.last h) (processed c h.dsn r) c
after w (malformed a) c = c

-- The entry of a DATA.
abbrev pub entry_for : DataHead → List ℕ → JournalEntry
entry_for h r = record { dsn = h.dsn; duplicate = h.duplicate; template = h.template; octets = r }

-- The memory with the entry of a DATA behind the used octets of the journal.
abbrev pub journaled : Collector → Memory → DataHead → List ℕ → Memory
journaled c m h r = record { journal = sets m.journal c.used (entry_octets (entry_for h r)); table = m.table }

-- The memory after each call: a table is kept from the first octet on, an entry follows those before it, and no other octet changes.
unfoldable pub memory_after : ℕ → Command → Collector → Memory → Memory
memory_after w write_start c m = m
memory_after w write_stop c m = m
memory_after w note c m = m
memory_after w (agree_to table) c m = record { journal = m.journal; table = sets m.table 0 table }
memory_after w (take_record h r) c m = cond (in_sequence w c.last h) (journaled c m h r) m
memory_after w (malformed a) c m = m

-- ---- the step

-- What a call answers and leaves, and what it writes, by its meaning.
pub record Outcome : Type 0 where
  pub answer : ℕ
  pub collector : Collector
  pub memory : Memory
  pub written : Reply

-- An accepted call has its effect; any other leaves state and memory as they were and writes nothing.
unfoldable pub step : Encoding → ℕ → Command → Collector → Memory → Outcome
step e room k c m =
    let a = answer e room k c m in
    let w = e.width in
    cond (eqb a done)
    (record { answer = done; collector = after w k c; memory = memory_after w k c m; written = written w k c })
    (record { answer = a; collector = c; memory = m; written = silent })

-- ---- the calls of the code, in CRANE

-- No memory is lent.
abbrev pub no_memory : Memory
no_memory = record { journal = []; table = [] }

-- Writing START, lent an output.
abbrev pub start_step : Collector → List ℕ → Outcome
start_step c out = step crane (length out) write_start c no_memory

-- Writing STOP, lent an output.
abbrev pub stop_step : Collector → List ℕ → Outcome
stop_step c out = step crane (length out) write_stop c no_memory

-- A message received, lent journal and table memory and an output.
abbrev pub receive_step : Collector → List ℕ → List ℕ → List ℕ → List ℕ → Outcome
receive_step c m journal table out = step crane (length out) (collected c.session m) c (record { journal = journal; table = table })

-- The octets that a call writes in CRANE.
abbrev pub octets_written : Outcome → List ℕ
octets_written o = layout o.written

-- The output after a call: what it wrote stands from the first octet on, and every other octet is as it was.
abbrev pub output_after : List ℕ → Outcome → List ℕ
output_after out o = sets out 0 (octets_written o)

-- What a call hands back.
abbrev pub collected_of : Outcome → Collected
collected_of o = record { answer = o.answer; written = length (octets_written o); collector = o.collector }

-- What receive hands back and leaves of the three things that it is lent.
pub record Received (o : Outcome) (out : List ℕ) (r : Collected) (journal table out_after : List ℕ) : Type 0 where
  pub handed : r ≡ collected_of o
  pub stored : journal ≡ o.memory.journal
  pub kept : table ≡ o.memory.table
  pub wrote : out_after ≡ output_after out o
