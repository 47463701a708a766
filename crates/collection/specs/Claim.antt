-- What is claimed of every list of a collector's calls from set-up on, each given the state and the memory that the last one left, which
-- nobody else writes (02, ask 4): no call is answered 1, and the journal's used octets walk back as exactly the records taken in sequence,
-- in order. The list of records is kept from the messages and the answers alone. Beside it, of one call on any state: a refusal changes
-- nothing, and no octet changes but those of the entry or the table that the call stores.
use Rattle.std.specs.Prelude.{ℕ, ◌<◌, ◌≤◌, ◌≡◌, cond, List, [], ◌∷◌, ◌++◌, eqb, length, get_or, take, Option, Some, None}
use Rattle.octets.specs.Answers.{done, unsound_state}
use Rattle.octets.specs.Numbers.{Octets}
use Rattle.wire.specs.Replies.{silent, crane}
use Rattle.wire.specs.Table.{max_table_octets}
use Rattle.messages.specs.declared.message.DataHead.{DataHead}
use Rattle.collection.specs.Journal.{JournalEntry, walked}
use Rattle.collection.specs.Collector.{Memory, Command, write_start, write_stop, note, agree_to, take_record, malformed, fresh_collector}
use Rattle.collection.specs.Collector.{collected, in_sequence, entry_for, Outcome, step}
use Rattle.collection.specs.declared.state.Collector.{Collector}

-- ---- the records taken, by messages and answers alone

-- The DSN that was processed last, and the entries of the records taken, the oldest first.
pub record Taken : Type 0 where
  pub last : Option ℕ
  pub entries : List JournalEntry

-- Nothing was taken.
abbrev pub nothing_taken : Taken
nothing_taken = record { last = None; entries = [] }

-- A record that is in sequence is taken; any other leaves all as it is.
abbrev pub with_record : DataHead → List ℕ → Taken → Taken
with_record h r t =
    cond (in_sequence 32 t.last h) (record { last = Some h.dsn; entries = t.entries ++ (entry_for h r ∷ []) }) t

-- What an accepted call makes of it: START and STOP forget the DSN, a DATA is taken or discarded.
abbrev pub taken_by : Command → Taken → Taken
taken_by write_start t = record { last = None; entries = t.entries }
taken_by write_stop t = record { last = None; entries = t.entries }
taken_by note t = t
taken_by (agree_to table) t = t
taken_by (take_record h r) t = with_record h r t
taken_by (malformed a) t = t

-- What a call makes of it, by its answer.
abbrev pub taken_after : Command → ℕ → Taken → Taken
taken_after k a t = cond (eqb a done) (taken_by k t) t

-- ---- lists of calls

-- The calls of the code: writing START or STOP, and receiving a message; each is lent an output of so many octets.
pub data CollectorCall : Type 0 where
  Start Stop : ℕ → CollectorCall
  Receive : List ℕ → ℕ → CollectorCall

-- The length of the output that a call is lent.
abbrev pub room_of : CollectorCall → ℕ
room_of (Start room) = room
room_of (Stop room) = room
room_of (Receive m room) = room

-- What a call means, in a session.
unfoldable pub command_of : ℕ → CollectorCall → Command
command_of session (Start room) = write_start
command_of session (Stop room) = write_stop
command_of session (Receive m room) = collected session m

-- Every message consists of octets, as any slice of them does.
abbrev pub AllOctets : List CollectorCall → Type 0
AllOctets [] = Unit {0}
AllOctets (Start room ∷ ks) = AllOctets ks
AllOctets (Stop room ∷ ks) = AllOctets ks
AllOctets (Receive m room ∷ ks) = Octets m × AllOctets ks

-- A collector with its memory, and the records taken so far.
pub record Progress : Type 0 where
  pub collector : Collector
  pub memory : Memory
  pub taken : Taken

-- What a call answers and leaves, lent the whole memory.
abbrev pub outcome_of : CollectorCall → Progress → Outcome
outcome_of k p = step crane (room_of k) (command_of p.collector.session k) p.collector p.memory

-- After a call.
abbrev pub after_call : CollectorCall → Progress → Progress
after_call k p =
    let o = outcome_of k p in
    record {
      collector = o.collector;
      memory = o.memory;
      taken = taken_after (command_of p.collector.session k) o.answer p.taken;
    }

-- After set-up with a journal and a memory for tables.
abbrev pub set_up_with : ℕ → Memory → Progress
set_up_with session m =
    record { collector = fresh_collector session (length m.journal); memory = m; taken = nothing_taken }

-- ---- the claim

-- What holds after any list of calls: the used octets of the journal lie within it and walk back, to their end, as the records taken; and
-- the state has the DSN that was processed last.
pub record Journaled (p : Progress) : Type 0 where
  pub within : p.collector.used ≤ length p.memory.journal
  pub entries : walked (take p.collector.used p.memory.journal) ≡ record { entries = p.taken.entries; answer = done }
  pub last : p.collector.last ≡ p.taken.last

-- What holds of each call of a list: it is not answered 1, and what it leaves is journaled.
abbrev pub EachCall : Progress → List CollectorCall → Type 0
EachCall p [] = Unit {0}
EachCall p (k ∷ ks) = ((outcome_of k p).answer ≡ unsound_state → ⊥) × (Journaled (after_call k p) × EachCall (after_call k p) ks)

-- From set-up on, with any journal and 16,384 octets for tables.
abbrev pub CollectorClaim : Type 0
CollectorClaim =
    (session : ℕ) (m : Memory) → length m.table ≡ max_table_octets → (ks : List CollectorCall) → AllOctets ks
    → EachCall (set_up_with session m) ks

-- ---- one call on any state

-- A call that is not answered 0 leaves state and memory as they were, and writes nothing.
abbrev pub RefusalsChangeNothing : Type 0
RefusalsChangeNothing =
    (room : ℕ) (k : Command) (c : Collector) (m : Memory) → let o = step crane room k c m in
    (o.answer ≡ done → ⊥) → o ≡ record { answer = o.answer; collector = c; memory = m; written = silent }

-- An octet of the journal changes only where the call stores an entry: from the used octets before it to those after it. Both memories
-- keep their lengths, and the memory for tables changes only in its first octets, by a table that is agreed to.
pub record Confined (k : Command) (c : Collector) (m : Memory) (o : Outcome) : Type 0 where
  pub before : (i : ℕ) → i < c.used → get_or o.memory.journal i 0 ≡ get_or m.journal i 0
  pub after : (i : ℕ) → o.collector.used ≤ i → get_or o.memory.journal i 0 ≡ get_or m.journal i 0
  pub journal : length o.memory.journal ≡ length m.journal
  pub table : length o.memory.table ≡ length m.table
  pub behind : (i : ℕ) → o.collector.table ≤ i → get_or o.memory.table i 0 ≡ get_or m.table i 0

-- So it is of every call.
abbrev pub CallsAreConfined : Type 0
CallsAreConfined = (room : ℕ) (k : Command) (c : Collector) (m : Memory) → Confined k c m (step crane room k c m)
