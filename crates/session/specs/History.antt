-- The history of a session: what can be known of it from the settings, the calls' arguments and their answers (01, "History").
use Rattle.std.specs.Prelude.{ℕ, zero, suc, ◌+◌, ◌-◌, ◌%◌, Bool, false, ◌&&◌, ◌||◌, cond, List, [], ◌∷◌, ◌++◌, eqb, Option, Some, None}
use Rattle.octets.specs.Answers.{done}
use Rattle.session.specs.Limits.{max_held}
use Rattle.session.specs.Servers.{fresh_delivery, changed, settle, with_servers, transition, sent_one, acknowledged, ticked}
use Rattle.session.specs.Queue.{Entry}
use Rattle.session.specs.Steps.{modulus, Call, put, next_data, tick, ack, move}
use Rattle.session.specs.declared.state.Settings.{Settings}
use Rattle.session.specs.declared.state.Delivery.{Delivery}

-- A writing: the record at this place was written to this server in this activation.
pub record Writing : Type 0 where
  pub place : ℕ
  pub server : ℕ
  pub activation : ℕ

-- The accepted records by place, from 1; how many are released; the writings, the latest in front; how often the choice has changed,
-- which numbers the activation; how many were released before it began.
pub record Ledger : Type 0 where
  pub records : List Entry
  pub released : ℕ
  pub writings : List Writing
  pub activation : ℕ
  pub released_before : ℕ

-- The ledger, and a delivery of the history's own.
pub record History : Type 0 where
  pub delivery : Delivery
  pub ledger : Ledger

-- The ledger with these records.
abbrev pub with_records : Ledger → List Entry → Ledger
with_records l records =
    record {
      records = records;
      released = l.released;
      writings = l.writings;
      activation = l.activation;
      released_before = l.released_before;
    }

-- The ledger with n records released.
abbrev pub with_released : Ledger → ℕ → Ledger
with_released l n =
    record {
      records = l.records;
      released = n;
      writings = l.writings;
      activation = l.activation;
      released_before = l.released_before;
    }

-- The ledger with one more writing.
abbrev pub with_writing : Ledger → Writing → Ledger
with_writing l x =
    record {
      records = l.records;
      released = l.released;
      writings = x ∷ l.writings;
      activation = l.activation;
      released_before = l.released_before;
    }

-- The ledger at the beginning of activation k.
abbrev pub with_activation : Ledger → ℕ → Ledger
with_activation l k =
    record {
      records = l.records;
      released = l.released;
      writings = l.writings;
      activation = k;
      released_before = l.released;
    }

-- The sequence number of place q: the initial one belongs to place 1, and place 0 has the number before it.
unfoldable pub dsn_of : ℕ → Settings → ℕ → ℕ
dsn_of w p q = (p.initial + q + (modulus w - 1)) % modulus w

-- The first of the n + 1 places from q on whose DSN is d; the last of them where none has it.
unfoldable pub place_of : ℕ → Settings → ℕ → ℕ → ℕ → ℕ
place_of w p zero q d = q
place_of w p (suc n) q d = cond (eqb (dsn_of w p q) d) q (place_of w p n (q + 1) d)

-- The place that a DATA ACK of DSN d names: one of the 65 from the released number on.
abbrev pub ack_place : ℕ → Settings → Ledger → ℕ → ℕ
ack_place w p l d = place_of w p max_held l.released d

-- The delivery takes the exporter's steps; how many records a DATA ACK releases is counted by places.
unfoldable pub delivery_after : ℕ → Settings → Call → Ledger → Delivery → Delivery
delivery_after w p (put table id r) l d = d
delivery_after w p next_data l d = sent_one d
delivery_after w p tick l d = ticked p d
delivery_after w p (ack v dsn config) l d = acknowledged (ack_place w p l dsn - l.released) d
delivery_after w p (move v m) l d = with_servers d (transition v m d.servers)

-- Place q is written to the server that is active.
abbrev pub written_by : Option ℕ → ℕ → Ledger → Ledger
written_by None q l = l
written_by (Some v) q l = with_writing l (record { place = q; server = v; activation = l.activation })

-- A put's record takes the next place; a DATA writes the place that stands "sent" behind the released ones; a DATA ACK releases up to
-- the place that it names.
unfoldable pub ledger_after : ℕ → Settings → Call → Delivery → Ledger → Ledger
ledger_after w p (put table id r) d l = with_records l (l.records ++ (record { template = id; octets = r } ∷ []))
ledger_after w p next_data d l = written_by d.active (l.released + (d.sent + 1)) l
ledger_after w p tick d l = l
ledger_after w p (ack v dsn config) d l = with_released l (ack_place w p l dsn)
ledger_after w p (move v m) d l = l

-- After an accepted call: the choice is made once more, and a changed one begins an activation.
unfoldable pub after_accepted : ℕ → Settings → Call → History → History
after_accepted w p c h =
    let d = delivery_after w p c h.ledger h.delivery in
    let l = ledger_after w p c h.delivery h.ledger in
    record { delivery = settle p d; ledger = cond (changed p d) (with_activation l (l.activation + 1)) l }

-- A call that is not accepted leaves the history as it was.
unfoldable pub after_call : ℕ → Settings → Call → ℕ → History → History
after_call w p c answer h = cond (eqb answer done) (after_accepted w p c h) h

-- Before the first call: no records, no writings, every server closed, all numbers 0.
unfoldable pub fresh_history : History
fresh_history =
    record {
      delivery = fresh_delivery;
      ledger = record { records = []; released = 0; writings = []; activation = 0; released_before = 0 };
    }

-- ---- questions to the writings

-- One of the writings passes a test.
unfoldable pub any_writing : (Writing → Bool) → List Writing → Bool
any_writing test [] = false
any_writing test (x ∷ xs) = test x || any_writing test xs

-- Place q was written to server v in activation k.
abbrev pub written_in : List Writing → ℕ → ℕ → ℕ → Bool
written_in ws q v k = any_writing (λ x. eqb x.place q && eqb x.server v && eqb x.activation k) ws

-- The place that was written first in activation k, or q where none was; the latest writing stands in front.
unfoldable pub first_written : List Writing → ℕ → ℕ → ℕ
first_written [] k q = q
first_written (x ∷ xs) k q = first_written xs k (cond (eqb x.activation k) x.place q)
