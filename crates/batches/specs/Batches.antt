-- Sending a batch in one call (02, ask 5): next data again and again into one output. What it is by single calls, and what is claimed of it
-- in a list of calls.
use Rattle.std.specs.Prelude.{ℕ, zero, suc, ◌+◌, ◌-◌, ◌≤◌, ◌<◌, ◌≡◌, not, cond, List, [], ◌∷◌, ◌++◌, map, eqb, length, take, drop, replicate}
use Rattle.std.proofs.lemmas.List.Edits.{sets}
use Rattle.octets.specs.Answers.{◌when◌, judge, judged, done, unsound_state}
use Rattle.wire.specs.Messages.{length_field, message_number, data_number, read_answer}
use Rattle.wire.specs.Replies.{crane}
use Rattle.session.specs.Limits.{max_held}
use Rattle.session.specs.Steps.{modulus, next_data, sound_for, Outcome, step, next_data_step, octets_written, set_up}
use Rattle.session.specs.Claim.{Exporter}
use Rattle.session.specs.InOctets.{Event, NextData, event_step, after_event, after_events, fresh_over, ClaimInOctets, AllOctets}
use Rattle.session.specs.declared.state.Settings.{Settings}
use Rattle.session.specs.declared.state.State.{State}
use Rattle.session.specs.declared.state.Batch.{Batch}

-- ---- the batch

-- What a batch answers and leaves: the answer it stopped with, how many messages it wrote, the state, and the messages' octets back to
-- back.
pub record BatchOutcome : Type 0 where
  pub answer : ℕ
  pub count : ℕ
  pub state : State
  pub octets : List ℕ

-- The answer at the given number: 0, or 1 on an unsound state or a store not of the length set.
abbrev pub answer_at_number : State → List ℕ → ℕ
answer_at_number s store = judge ((unsound_state when not (sound_for next_data s store)) ∷ [])

-- A batch of at most n messages into `room` octets: a single call, and where that is accepted a batch of one less into the octets left. The
-- first call that is refused stops it, with that call's answer.
unfoldable pub batch : ℕ → ℕ → State → List ℕ → BatchOutcome
batch zero room s store = record { answer = answer_at_number s store; count = 0; state = s; octets = [] }
batch (suc n) room s store =
    let o = step crane room next_data s store in
    let rest = batch n (room - length (octets_written o)) o.state store in
    cond (eqb o.answer done)
    (record { answer = rest.answer; count = rest.count + 1; state = rest.state; octets = octets_written o ++ rest.octets })
    (record { answer = o.answer; count = 0; state = o.state; octets = octets_written o })

-- What the call hands back: also how many octets it wrote.
abbrev pub batch_of : BatchOutcome → Batch
batch_of b = record { answer = judged b.answer tt; count = b.count; written = length b.octets; state = b.state }

-- The output after it: its messages stand from the first octet on, and every other octet is as it was.
abbrev pub output_after_batch : List ℕ → BatchOutcome → List ℕ
output_after_batch out b = sets out 0 b.octets

-- A batch into an output, on an exporter's state and store.
abbrev pub batch_into : ℕ → List ℕ → Exporter → BatchOutcome
batch_into n out x = batch n (length out) x.state x.store

-- ---- its single calls

-- The calls that a batch of at most n messages into an output stands for, from x on: each is lent the octets that the calls before it left
-- of the output, and one that is refused is the last.
unfoldable pub single_calls : ℕ → List ℕ → Exporter → List Event
single_calls zero out x = []
single_calls (suc n) out x =
    let o = event_step x (NextData out) in
    NextData out
    ∷ cond (eqb o.answer done) (single_calls n (drop (length (octets_written o)) out) (after_event x (NextData out))) []

-- The outcomes of a list of calls, from x on.
unfoldable pub outcomes : Exporter → List Event → List Outcome
outcomes x [] = []
outcomes x (e ∷ es) = event_step x e ∷ outcomes (after_event x e) es

-- The answer of the last call, or a where there is none.
unfoldable pub last_answer : ℕ → List Outcome → ℕ
last_answer a [] = a
last_answer a (o ∷ os) = last_answer o.answer os

-- What the accepted calls write, one message each.
unfoldable pub messages_of : List Outcome → List (List ℕ)
messages_of [] = []
messages_of (o ∷ os) = cond (eqb o.answer done) (octets_written o ∷ messages_of os) (messages_of os)

-- Messages back to back.
unfoldable pub joined : List (List ℕ) → List ℕ
joined [] = []
joined (m ∷ ms) = m ++ joined ms

-- The first n messages of octets, each as long as its own length field says (01, "Messages").
unfoldable pub messages_in : ℕ → List ℕ → List (List ℕ)
messages_in zero octets = []
messages_in (suc n) octets = take (length_field octets) octets ∷ messages_in n (drop (length_field octets) octets)

-- Every message of a list is read as DATA.
abbrev pub AllData : List (List ℕ) → Type 0
AllData [] = Unit {0}
AllData (m ∷ ms) = ((read_answer m ≡ done) × (message_number m ≡ data_number)) × AllData ms

-- ---- what is claimed of a batch

-- What is claimed of a batch of at most n messages into an output, on a state and a store: it is its single calls.
pub record BatchClaim (n : ℕ) (out : List ℕ) (x : Exporter) : Type 0 where
  -- it leaves the state and the store that they leave
  pub same_run : after_events x (single_calls n out x) ≡ record { state = (batch_into n out x).state; store = x.store }
  -- it is answered as the last of them, and where there is none as at the given number
  pub answered : (batch_into n out x).answer ≡ last_answer (answer_at_number x.state x.store) (outcomes x (single_calls n out x))
  -- it counts the accepted ones, and they are at most the given number
  pub counted : (batch_into n out x).count ≡ length (messages_of (outcomes x (single_calls n out x)))
  pub limited : (batch_into n out x).count ≤ n
  -- where it stopped short of the given number, one more call, lent the octets left, is answered as it is
  pub stopped : let b = batch_into n out x in
      b.count < n → (next_data_step b.state x.store (drop (length b.octets) out)).answer ≡ b.answer
  -- it writes their messages back to back, which fit the output; no octet behind them changes
  pub written : (batch_into n out x).octets ≡ joined (messages_of (outcomes x (single_calls n out x)))
  pub fits : length (batch_into n out x).octets ≤ length out
  pub output : let b = batch_into n out x in output_after_batch out b ≡ b.octets ++ drop (length b.octets) out
  -- as many messages as it counts are read from the output, each a DATA; they are the accepted calls' messages, and with `written` they are
  -- all that it wrote
  pub read : let b = batch_into n out x in messages_in b.count (output_after_batch out b) ≡ messages_of (outcomes x (single_calls n out x))
  pub are_data : AllData (messages_of (outcomes x (single_calls n out x)))

-- Every batch is its single calls, also on an unsound state, where the arrays have their 64 entries, as the code's have.
abbrev pub EveryBatch : Type 0
EveryBatch =
    (n : ℕ) (out : List ℕ) (x : Exporter) → length x.state.queue.lengths ≡ max_held → length x.state.queue.templates ≡ max_held
    → length x.state.queue.receivers ≡ max_held → BatchClaim n out x

-- ---- in a list of calls (01, "History"; 02, ask 5)

-- A call of a list: a single one, or a batch with its given number and its output.
pub data ListedCall : Type 0 where
  Single : Event → ListedCall
  SendBatch : ℕ → List ℕ → ListedCall

-- The single calls that it stands for, from x on.
abbrev pub calls_for : Exporter → ListedCall → List Event
calls_for x (Single e) = e ∷ []
calls_for x (SendBatch n out) = single_calls n out x

-- State and store after it.
abbrev pub after_listed : Exporter → ListedCall → Exporter
after_listed x (Single e) = after_event x e
after_listed x (SendBatch n out) = record { state = (batch_into n out x).state; store = x.store }

-- State and store after a list.
unfoldable pub after_list : Exporter → List ListedCall → Exporter
after_list x [] = x
after_list x (l ∷ ls) = after_list (after_listed x l) ls

-- The single calls that a list stands for, from x on.
unfoldable pub singles_of : Exporter → List ListedCall → List Event
singles_of x [] = []
singles_of x (l ∷ ls) = calls_for x l ++ singles_of (after_listed x l) ls

-- What is claimed of one call of a list beside demand 3. In a list from a fresh exporter on, no state is unsound: a batch is answered 0
-- exactly where the given number was reached, and it stands for as many accepted calls as it counts and, where its answer is not 0, one
-- refused call with that answer.
abbrev pub BatchInList : Exporter → ListedCall → Type 0
BatchInList x (Single e) = Unit {0}
BatchInList x (SendBatch n out) =
    let b = batch_into n out x in
    BatchClaim n out x
    × ((eqb b.answer done ≡ eqb b.count n)
    × (map (λ (o : Outcome). o.answer) (outcomes x (calls_for x (SendBatch n out)))
    ≡ replicate b.count done ++ cond (eqb b.answer done) [] (b.answer ∷ [])))

-- The same of every call of a list.
abbrev pub BatchesInList : Exporter → List ListedCall → Type 0
BatchesInList x [] = Unit {0}
BatchesInList x (l ∷ ls) = BatchInList x l × BatchesInList (after_listed x l) ls

-- What is claimed of a list with batches from a fresh exporter on.
pub record ClaimWithBatches (p : Settings) (store : List ℕ) (ls : List ListedCall) : Type 0 where
  -- it leaves the state and the store that its single calls leave
  pub same_run : let x = fresh_over p store in after_list x ls ≡ after_events x (singles_of x ls)
  -- demand 3 holds of its single calls, the refused ones that stop batches among them
  pub claim : ClaimInOctets p store (singles_of (fresh_over p store) ls)
  -- and every batch is its single calls
  pub batches : BatchesInList (fresh_over p store) ls

-- Every received message is a list of octets.
abbrev pub AllOctetsListed : List ListedCall → Type 0
AllOctetsListed [] = Unit {0}
AllOctetsListed (Single e ∷ ls) = AllOctets (e ∷ []) × AllOctetsListed ls
AllOctetsListed (SendBatch n out ∷ ls) = AllOctetsListed ls

-- Demand 3 of the code, for every list of its calls, batches among them: the first DSN has 32 bits, and received messages are octets.
abbrev pub Demand3WithBatches : Type 0
Demand3WithBatches = (p : Settings) (store : List ℕ) → (set_up p (length store)).answer ≡ done → p.initial < modulus 32
    → (ls : List ListedCall) → AllOctetsListed ls → ClaimWithBatches p store ls
