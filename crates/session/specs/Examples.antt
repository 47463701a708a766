-- The starred boundary examples (01, "Boundary examples"): each is a row of one table, and the one claim is that every row holds.
use Rattle.std.specs.Prelude.{◌≡◌, true, false, cond, List, [], ◌∷◌, ℕ, set, replicate, Some, None, Ok}
use Rattle.octets.specs.Answers.{done, dsn_not_acknowledgeable, record_invalid}
use Rattle.wire.specs.Messages.{layout_of, read_of, part_of}
use Rattle.wire.specs.Replies.{crane}
use Rattle.wire.specs.Table.{table_sound}
use Rattle.wire.specs.Record.{record_answer}
use Rattle.messages.specs.declared.message.Message.{Message}
use Rattle.messages.specs.declared.message.Message.TheVariants.{StartAck, Data}
use Rattle.session.specs.Limits.{max_servers, max_held, min_store_octets}
use Rattle.session.specs.Servers.{server, is_agreed}
use Rattle.session.specs.Steps.{ack, step}
use Rattle.session.specs.declared.state.Phase.{Phase}
use Rattle.session.specs.declared.state.Phase.TheVariants.{Closed, Agreed}
use Rattle.session.specs.declared.state.Settings.{Settings}
use Rattle.session.specs.declared.state.Delivery.{Delivery}
use Rattle.session.specs.declared.state.State.{State}

-- A row.
pub data Star : Type 0 where
  -- a message, its part and its octets: they are its layout and read back
  message : Message → List ℕ → List ℕ → Star
  -- a table that is sound
  table : List ℕ → Star
  -- a table, a template ID and a record, and the answer that judging it gives
  judged : List ℕ → ℕ → List ℕ → ℕ → Star
  -- how many records are held, the next DSN and the DSN acknowledged; the answer, how many records are held afterwards and how many of
  -- them count as sent
  acknowledges : ℕ → ℕ → ℕ → ℕ → ℕ → ℕ → Star

-- Session 7 with so many servers of these priorities, a threshold and a duration.
abbrev pub settings_with : ℕ → List ℕ → ℕ → ℕ → Settings
settings_with servers priorities threshold duration =
    record {
      session = 7;
      config = 1;
      boot = 3600;
      initial = 0;
      servers = servers;
      priorities = priorities;
      threshold = threshold;
      duration = duration;
    }

-- The same with a threshold of 1 and a duration of 10.
abbrev pub settings_of : ℕ → List ℕ → Settings
settings_of servers priorities = settings_with servers priorities 1 10

-- An exporter over the smallest store that holds records of these lengths under template 3, each sent to the servers of a set.
abbrev pub exporter_of : Settings → Delivery → ℕ → List ℕ → ℕ → ℕ → State
exporter_of p d count lengths receivers next =
    record {
      settings = p;
      capacity = min_store_octets;
      delivery = d;
      due = false;
      queue = record { count = count; lengths = lengths; templates = replicate max_held 3; receivers = replicate max_held receivers };
      start = 0;
      next = next;
    }

-- An exporter of one server in a phase, which is active where it is agreed and then was sent the first `sent` of the held records.
abbrev pub alone : Phase → ℕ → List ℕ → ℕ → ℕ → State
alone phase count lengths sent next =
    exporter_of (settings_of 1 (replicate max_servers 0))
    (record {
      servers = set (replicate max_servers (server Closed)) 0 (server phase);
      active = cond (is_agreed phase) (Some 0) None;
      sent = sent;
      reached = sent;
      timer = 0;
    })
    count lengths 1 next

-- An exporter of one server, which is agreed, and which was sent all the held records.
abbrev pub holding : ℕ → ℕ → State
holding count next = alone Agreed count (replicate max_held 2) count next

-- What a row says.
abbrev pub Holds : Star → Type 0
Holds (message m part octets) = (layout_of m part ≡ octets) × ((read_of octets ≡ Ok m) × (part_of octets ≡ part))
Holds (table octets) = table_sound octets ≡ true
Holds (judged t id octets answer) = record_answer t id octets ≡ answer
Holds (acknowledges count next dsn answer left sent) =
    let o = step crane 0 (ack 0 dsn 1) (holding count next) [] in
    (o.answer ≡ answer) × ((o.state.queue.count ≡ left) × (o.state.delivery.sent ≡ sent))

-- Every row holds.
abbrev pub AllHold : List Star → Type 0
AllHold [] = Unit {0}
AllHold (x ∷ xs) = Holds x × AllHold xs

-- The table of the examples: one template, ID 3, with one enabled key of type 4.
abbrev pub a_table : List ℕ
a_table =
    0x01 ∷ 0x01 ∷ 0x00 ∷ 0x01
    ∷ 0x00 ∷ 0x03 ∷ 0x00 ∷ 0x01 ∷ 0x00 ∷ 0x00 ∷ 0x00 ∷ 0x00 ∷ 0x00 ∷ 0x00 ∷ 0x00 ∷ 0x18
    ∷ 0x00 ∷ 0x00 ∷ 0x00 ∷ 0x09 ∷ 0x00 ∷ 0x04 ∷ 0x00 ∷ 0x00 ∷ 0x00 ∷ 0x00 ∷ 0x00 ∷ 0x00 ∷ []

-- The rows, in the paper's order. Acknowledgements: of three records from DSN 4,294,967,294 on; of an empty queue and the next DSN 5.
abbrev pub stars : List Star
stars =
    message (Data (record { session = 7; template = 3; config = 1; first = true; duplicate = false; dsn = 4294967295 }))
    (0x00 ∷ 0x05 ∷ [])
    (0x01 ∷ 0x20 ∷ 0x07 ∷ 0x00 ∷ 0x00 ∷ 0x00 ∷ 0x00 ∷ 0x12 ∷ 0x00 ∷ 0x03 ∷ 0x01 ∷ 0x01 ∷ 0xFF ∷ 0xFF ∷ 0xFF ∷ 0xFF ∷ 0x00 ∷ 0x05 ∷ [])
    ∷ message (StartAck 7 3600)
    []
    (0x01 ∷ 0x02 ∷ 0x07 ∷ 0x00 ∷ 0x00 ∷ 0x00 ∷ 0x00 ∷ 0x0C ∷ 0x00 ∷ 0x00 ∷ 0x0E ∷ 0x10 ∷ [])
    ∷ table a_table
    ∷ judged a_table 3 (0x00 ∷ 0x05 ∷ []) done
    ∷ judged a_table 3 (0x00 ∷ []) record_invalid
    ∷ judged a_table 3 (0x00 ∷ 0x05 ∷ 0x00 ∷ []) record_invalid
    ∷ acknowledges 3 1 0 done 0 0
    ∷ acknowledges 3 1 4294967293 done 3 0
    ∷ acknowledges 3 1 1 dsn_not_acknowledgeable 3 3
    ∷ acknowledges 0 5 4 done 0 0
    ∷ acknowledges 0 5 5 dsn_not_acknowledgeable 0 0
    ∷ []
