-- The order of refusals, as the paper gives it (01, "Answer numbers"). For each call a list of turns: the first has every fault at once,
-- and each next one lacks the first fault of the one before. Their answers are the paper's numbers in the paper's order.
use Rattle.std.specs.Prelude.{◌≡◌, Bool, true, false, not, cond, List, [], ◌∷◌, ◌++◌, map, ℕ, zero, suc, eqb, set, drop, replicate}
use Rattle.wire.specs.Messages.{read_answer, write_answer, head_write_answer}
use Rattle.messages.specs.declared.message.Message.TheVariants.{TmplData, Data}
use Rattle.session.specs.Limits.{max_servers, max_held, min_store_octets}
use Rattle.session.specs.Servers.{with_counts, fresh_delivery}
use Rattle.session.specs.Steps.{with_delivery, set_up}
use Rattle.session.specs.InOctets.{Event, Put, NextData, Receive, OfferTemplates, LineDown, Tick, event_step}
use Rattle.session.specs.Examples.{a_table, settings_with, settings_of, exporter_of, alone}
use Rattle.session.specs.Rules.{pair}
use Rattle.session.specs.declared.state.Phase.{Phase}
use Rattle.session.specs.declared.state.Phase.TheVariants.{Closed, Started, Offered, Agreed}
use Rattle.session.specs.declared.state.State.{State}

-- A call in a state, with a store of so many octets.
pub record Turn : Type 0 where
  pub state : State
  pub store : ℕ
  pub call : Event

-- The answer of a call.
abbrev pub answer_of : Turn → ℕ
answer_of t = (event_step (record { state = t.state; store = replicate t.store 0 }) t.call).answer

-- The answers of calls.
abbrev pub answers_of : List Turn → List ℕ
answers_of = map answer_of

-- A call over a store of the length set.
abbrev pub over : State → Event → Turn
over s e = record { state = s; store = min_store_octets; call = e }

-- The state made unsound: its timer is not below the duration.
abbrev pub unsound : State → State
unsound s = with_delivery s (with_counts s.delivery s.delivery.sent s.delivery.reached s.settings.duration)

-- One server in a phase, and no record held.
abbrev pub idle : Phase → State
idle phase = alone phase 0 (replicate max_held 0) 0 1

-- Octets that are no sound table.
abbrev pub no_table : List ℕ
no_table = 0x01 ∷ []

-- The table with another Configuration ID; the session has 1.
abbrev pub table_of : ℕ → List ℕ
table_of config = config ∷ drop 1 a_table

-- A message of these header fields, the length below 256, and a body.
abbrev pub frame : ℕ → ℕ → ℕ → ℕ → List ℕ → List ℕ
frame version number session len body = version ∷ number ∷ session ∷ 0 ∷ 0 ∷ 0 ∷ 0 ∷ len ∷ body

-- An output of n octets.
abbrev pub room : ℕ → List ℕ
room n = replicate n 0

-- The numbers below n that pass a test, in order.
unfoldable pub numbers_where : (ℕ → Bool) → ℕ → List ℕ
numbers_where test zero = []
numbers_where test (suc n) = numbers_where test n ++ cond (test n) (n ∷ []) []

-- ---- set-up

-- 20 outside the limits, and 0 at them: 1 to 16 servers, a threshold of 1 to 64, a duration of 1 to 65,535, a store of 1,024 to 65,536.
abbrev pub SetUpLimits : Type 0
SetUpLimits =
    let judged : ℕ → ℕ → ℕ → ℕ → ℕ = λ servers threshold duration store.
    (set_up (settings_with servers (replicate max_servers 255) threshold duration) store).answer in
    (map (λ n. judged n 1 1 1024) (0 ∷ 1 ∷ 16 ∷ 17 ∷ []) ≡ 20 ∷ 0 ∷ 0 ∷ 20 ∷ [])
    × ((map (λ n. judged 1 n 1 1024) (0 ∷ 1 ∷ 64 ∷ 65 ∷ []) ≡ 20 ∷ 0 ∷ 0 ∷ 20 ∷ [])
    × ((map (λ n. judged 1 1 n 1024) (0 ∷ 1 ∷ 65535 ∷ []) ≡ 20 ∷ 0 ∷ 0 ∷ [])
    × (map (λ n. judged 1 1 1 n) (1023 ∷ 1024 ∷ 65536 ∷ 65537 ∷ []) ≡ 20 ∷ 0 ∷ 0 ∷ 20 ∷ [])))

-- ---- sets of servers

-- With n servers the set of the first n is sound, and one that has server n is 1.
abbrev pub SetLimits : Type 0
SetLimits =
    let judged : ℕ → ℕ → ℕ = λ servers set.
    answer_of (over (exporter_of (settings_of servers (replicate max_servers 0)) fresh_delivery 1 (replicate max_held 2) set 1) Tick) in
    (judged 1 1 ∷ judged 8 255 ∷ judged 15 32767 ∷ judged 16 65535 ∷ [] ≡ 0 ∷ 0 ∷ 0 ∷ 0 ∷ [])
    × (judged 1 2 ∷ judged 8 256 ∷ judged 15 32768 ∷ judged 16 65536 ∷ [] ≡ 1 ∷ 1 ∷ 1 ∷ 1 ∷ [])

-- ---- the calls of an exporter

-- Put: 1 for the state or for a store that has not the length set, 21 for an unsound table or another configuration's, 15, 17, 16, 18, 19.
-- The record has 1,025 octets, then 3 where its template has 2; 64 records fill the store, then 63 leave one octet, then none is held.
abbrev pub PutOrder : Type 0
PutOrder =
    let full = alone Agreed 64 (replicate max_held 16) 0 1 in
    let almost = alone Agreed 63 (set (replicate max_held 16) 0 31) 0 1 in
    let long : List ℕ = replicate 1025 0 in
    let valid : List ℕ = 0x00 ∷ 0x05 ∷ [] in
    answers_of
    (over (unsound full) (Put no_table 4 long)
    ∷ record { state = full; store = 1023; call = Put no_table 4 long }
    ∷ record { state = full; store = 1025; call = Put no_table 4 long }
    ∷ over full (Put no_table 4 long)
    ∷ over full (Put (table_of 0) 4 long)
    ∷ over full (Put (table_of 2) 4 long)
    ∷ over full (Put a_table 4 long)
    ∷ over full (Put a_table 3 long)
    ∷ over full (Put a_table 3 (replicate 3 0))
    ∷ over full (Put a_table 3 valid)
    ∷ over almost (Put a_table 3 valid)
    ∷ over (idle Agreed) (Put a_table 3 valid)
    ∷ [])
    ≡ 1 ∷ 1 ∷ 1 ∷ 21 ∷ 21 ∷ 21 ∷ 15 ∷ 17 ∷ 16 ∷ 18 ∷ 19 ∷ 0 ∷ []

-- Next data: 1, 13, 14, 12. Nobody is active, then nothing is held, then the output is one octet short of a DATA's 18.
abbrev pub NextDataOrder : Type 0
NextDataOrder =
    let ready = alone Agreed 1 (replicate max_held 2) 0 1 in
    answers_of
    (over (unsound (idle Closed)) (NextData (room 0))
    ∷ record { state = idle Closed; store = 1023; call = NextData (room 0) }
    ∷ record { state = idle Closed; store = 1025; call = NextData (room 0) }
    ∷ over (idle Closed) (NextData (room 0))
    ∷ over (idle Agreed) (NextData (room 0))
    ∷ over ready (NextData (room 17))
    ∷ over ready (NextData (room 18))
    ∷ [])
    ≡ 1 ∷ 1 ∷ 1 ∷ 13 ∷ 14 ∷ 12 ∷ 0 ∷ []

-- Offer templates: 1, 2, 21, 9, 12. The TMPL DATA has 36 octets.
abbrev pub OfferOrder : Type 0
OfferOrder =
    answers_of
    (over (unsound (idle Closed)) (OfferTemplates 1 no_table (room 0))
    ∷ over (idle Closed) (OfferTemplates 1 no_table (room 0))
    ∷ over (idle Closed) (OfferTemplates 0 no_table (room 0))
    ∷ over (idle Closed) (OfferTemplates 0 (table_of 0) (room 0))
    ∷ over (idle Closed) (OfferTemplates 0 (table_of 2) (room 0))
    ∷ over (idle Closed) (OfferTemplates 0 a_table (room 0))
    ∷ over (idle Started) (OfferTemplates 0 a_table (room 35))
    ∷ over (idle Started) (OfferTemplates 0 a_table (room 36))
    ∷ [])
    ≡ 1 ∷ 2 ∷ 21 ∷ 21 ∷ 21 ∷ 9 ∷ 12 ∷ 0 ∷ []

-- Line down: 1, 2.
abbrev pub LineDownOrder : Type 0
LineDownOrder =
    answers_of (over (unsound (idle Closed)) (LineDown 1) ∷ over (idle Closed) (LineDown 1) ∷ over (idle Closed) (LineDown 0) ∷ [])
    ≡ 1 ∷ 2 ∷ 0 ∷ []

-- Tick: 1.
abbrev pub TickOrder : Type 0
TickOrder = answers_of (over (unsound (idle Closed)) Tick ∷ over (idle Closed) Tick ∷ []) ≡ 1 ∷ 0 ∷ []

-- Receive: 1 to 10. The message has 7 octets, then another version than 1, a wrong length, another session than 7, each one less and one
-- more; then it is a START ACK without its body, then a FINAL TMPL DATA ACK whose body has 3 or 5 octets for 4, from a closed server, of
-- another configuration than 1.
abbrev pub ReceiveOrder : Type 0
ReceiveOrder =
    let short : List ℕ = 2 ∷ 0x02 ∷ 8 ∷ 0 ∷ 0 ∷ 0 ∷ 0 ∷ [] in
    let from : Phase → List ℕ → Turn = λ phase m. over (idle phase) (Receive 0 m (room 0)) in
    answers_of
    (over (unsound (idle Closed)) (Receive 1 short (room 0))
    ∷ over (idle Closed) (Receive 1 short (room 0))
    ∷ from Closed short
    ∷ from Closed (frame 0 0x02 8 9 [])
    ∷ from Closed (frame 2 0x02 8 9 [])
    ∷ from Closed (frame 1 0x02 8 7 [])
    ∷ from Closed (frame 1 0x02 8 9 [])
    ∷ from Closed (frame 1 0x02 6 8 [])
    ∷ from Closed (frame 1 0x02 8 8 [])
    ∷ from Closed (frame 1 0x02 7 8 [])
    ∷ from Closed (frame 1 0x13 7 11 (2 ∷ 0 ∷ 0 ∷ []))
    ∷ from Closed (frame 1 0x13 7 13 (2 ∷ 0 ∷ 0 ∷ 0 ∷ 0 ∷ []))
    ∷ from Closed (frame 1 0x13 7 12 (2 ∷ 0 ∷ 0 ∷ 0 ∷ []))
    ∷ from Offered (frame 1 0x13 7 12 (0 ∷ 0 ∷ 0 ∷ 0 ∷ []))
    ∷ from Offered (frame 1 0x13 7 12 (2 ∷ 0 ∷ 0 ∷ 0 ∷ []))
    ∷ from Offered (frame 1 0x13 7 12 (1 ∷ 0 ∷ 0 ∷ 0 ∷ []))
    ∷ [])
    ≡ 1 ∷ 2 ∷ 3 ∷ 4 ∷ 4 ∷ 5 ∷ 5 ∷ 6 ∷ 6 ∷ 7 ∷ 8 ∷ 8 ∷ 9 ∷ 10 ∷ 10 ∷ 0 ∷ []

-- Receive accepts only these numbers: all others are 7, though the body of one octet has no message's length.
abbrev pub ReceivedNumbers : Type 0
ReceivedNumbers =
    numbers_where (λ n. not (eqb (answer_of (over (idle Closed) (Receive 0 (frame 1 n 7 9 (0 ∷ [])) (room 0)))) 7)) 256
    ≡ 0x01 ∷ 0x03 ∷ 0x13 ∷ 0x18 ∷ 0x21 ∷ []

-- Receive, 8 to 11 by a DATA ACK: of 7 or 9 octets for 8, from a server that is not agreed, from one that is agreed and not active, of
-- another configuration than 1, of DSN 5 where 0 is the last one released.
abbrev pub DataAckOrder : Type 0
DataAckOrder =
    let from : State → ℕ → ℕ → Turn = λ s dsn config.
    over s (Receive 0 (frame 1 0x21 7 16 (0 ∷ 0 ∷ 0 ∷ dsn ∷ config ∷ 0 ∷ 0 ∷ 0 ∷ [])) (room 0)) in
    answers_of
    (over (idle Started) (Receive 0 (frame 1 0x21 7 15 (replicate 7 5)) (room 0))
    ∷ over (idle Started) (Receive 0 (frame 1 0x21 7 17 (replicate 9 5)) (room 0))
    ∷ from (idle Started) 5 2
    ∷ from (pair 1 0 Agreed Agreed 0) 5 2
    ∷ from (idle Agreed) 5 0
    ∷ from (idle Agreed) 5 2
    ∷ from (idle Agreed) 5 1
    ∷ from (idle Agreed) 0 1
    ∷ [])
    ≡ 8 ∷ 8 ∷ 9 ∷ 9 ∷ 10 ∷ 10 ∷ 11 ∷ 0 ∷ []

-- Receive, 12: the output is one octet short of the reply; a START NEGOTIATE with a body, then from a closed server, is 8 and 9 first. A
-- START ACK has 12 octets, the other two replies have 8.
abbrev pub ReplyOrder : Type 0
ReplyOrder =
    answers_of
    (over (idle Closed) (Receive 0 (frame 1 0x18 7 9 (0 ∷ [])) (room 7))
    ∷ over (idle Closed) (Receive 0 (frame 1 0x18 7 8 []) (room 7))
    ∷ over (idle Started) (Receive 0 (frame 1 0x18 7 8 []) (room 7))
    ∷ over (idle Started) (Receive 0 (frame 1 0x18 7 8 []) (room 8))
    ∷ over (idle Closed) (Receive 0 (frame 1 0x01 7 8 []) (room 11))
    ∷ over (idle Closed) (Receive 0 (frame 1 0x01 7 8 []) (room 12))
    ∷ over (idle Closed) (Receive 0 (frame 1 0x03 7 8 []) (room 7))
    ∷ over (idle Closed) (Receive 0 (frame 1 0x03 7 8 []) (room 8))
    ∷ [])
    ≡ 8 ∷ 9 ∷ 12 ∷ 0 ∷ 12 ∷ 0 ∷ 12 ∷ 0 ∷ []

-- ---- messages alone

-- Reading: 3, 4, 5, 7, 8, and of a TMPL DATA 21 whatever its length.
abbrev pub ReadingOrder : Type 0
ReadingOrder =
    map read_answer
    ((2 ∷ 0xFF ∷ 8 ∷ 0 ∷ 0 ∷ 0 ∷ 0 ∷ [])
    ∷ frame 0 0xFF 8 9 []
    ∷ frame 2 0xFF 8 9 []
    ∷ frame 1 0xFF 8 7 []
    ∷ frame 1 0xFF 8 9 []
    ∷ frame 1 0xFF 8 8 []
    ∷ frame 1 0x21 8 15 (replicate 7 0)
    ∷ frame 1 0x21 8 17 (replicate 9 0)
    ∷ frame 1 0x10 8 8 []
    ∷ frame 1 0x10 8 36 a_table
    ∷ [])
    ≡ 3 ∷ 4 ∷ 4 ∷ 5 ∷ 5 ∷ 7 ∷ 8 ∷ 8 ∷ 21 ∷ 0 ∷ []

-- Reading knows the ten messages: every other number is 7.
abbrev pub ReadNumbers : Type 0
ReadNumbers =
    numbers_where (λ n. not (eqb (read_answer (frame 1 n 7 9 (0 ∷ []))) 7)) 256
    ≡ 0x01 ∷ 0x02 ∷ 0x03 ∷ 0x04 ∷ 0x10 ∷ 0x13 ∷ 0x18 ∷ 0x19 ∷ 0x20 ∷ 0x21 ∷ []

-- Writing a TMPL DATA: 21, 12.
abbrev pub TmplDataOrder : Type 0
TmplDataOrder =
    write_answer (TmplData 7) no_table 0 ∷ write_answer (TmplData 7) a_table 35 ∷ write_answer (TmplData 7) a_table 36 ∷ []
    ≡ 21 ∷ 12 ∷ 0 ∷ []

-- Writing a DATA, or its head alone: 17, 12.
abbrev pub DataOrder : Type 0
DataOrder =
    let write = write_answer (Data (record { session = 7; template = 3; config = 1; first = true; duplicate = false; dsn = 5 })) in
    (write (replicate 1025 0) 0 ∷ write (replicate 1024 0) 1039 ∷ write (replicate 1024 0) 1040 ∷ [] ≡ 17 ∷ 12 ∷ 0 ∷ [])
    × (head_write_answer 1025 0 ∷ head_write_answer 1024 1039 ∷ head_write_answer 1024 1040 ∷ [] ≡ 17 ∷ 12 ∷ 0 ∷ [])

-- All of them.
pub record RefusalOrder : Type 0 where
  pub set_ups : SetUpLimits
  pub sets : SetLimits
  pub put : PutOrder
  pub next_data : NextDataOrder
  pub offer : OfferOrder
  pub line_down : LineDownOrder
  pub tick : TickOrder
  pub receive : ReceiveOrder
  pub numbers : ReceivedNumbers
  pub data_ack : DataAckOrder
  pub reply : ReplyOrder
  pub reading : ReadingOrder
  pub read_numbers : ReadNumbers
  pub tmpl_data : TmplDataOrder
  pub data_message : DataOrder
