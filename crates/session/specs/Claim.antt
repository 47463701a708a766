-- Demand 3: what holds of every list of calls from a fresh exporter (01, "History"), with messages taken by meaning: for every width of
-- sequence numbers from 7 bits on, and whatever the sizes of messages. `InOctets` has the code's calls.
use Rattle.std.specs.Prelude.{ℕ, ◌+◌, ◌-◌, ◌≤◌, ◌<◌, ◌≡◌, ◌≢◌, ◌⊎◌, Bool, true, false, not, ◌&&◌, ◌||◌, cond, List, [], ◌∷◌, ◌++◌, eqb, leb, ltb, length, get_or, take}
use Rattle.octets.specs.Answers.{Check, ◌when◌, judge, done, unsound_state, no_such_server, short_message, body_length_wrong, out_of_turn}
use Rattle.octets.specs.Answers.{other_configuration, dsn_not_acknowledgeable, output_too_short, no_active_server, nothing_to_send, template_not_found}
use Rattle.octets.specs.Answers.{record_too_long, record_invalid, queue_full, store_full, unsound_table}
use Rattle.wire.specs.Table.{is_missing, template_of}
use Rattle.wire.specs.Record.{record_valid}
use Rattle.wire.specs.Messages.{max_record_octets}
use Rattle.wire.specs.Replies.{Reply, silent, message, Encoding, size_of}
use Rattle.messages.specs.declared.message.Message.{Message}
use Rattle.messages.specs.declared.message.DataHead.{DataHead}
use Rattle.messages.specs.declared.message.Message.TheVariants.{Data}
use Rattle.session.specs.Servers.{same_active, is_nobody, phase_at, Transition, start, stop, negotiate, offer, down, agree, malformed}
use Rattle.session.specs.Queue.{Entry, held}
use Rattle.session.specs.Limits.{max_held}
use Rattle.session.specs.Sound.{sound}
use Rattle.session.specs.Steps.{modulus, Call, put, next_data, tick, ack, move, is_sessions, reply_to, transition_checks, Outcome, step}
use Rattle.session.specs.Steps.{set_up}
use Rattle.session.specs.History.{Writing, Ledger, History, dsn_of, place_of, ack_place, after_call, fresh_history, any_writing, written_in}
use Rattle.session.specs.History.{first_written}
use Rattle.std.specs.Prelude.{Option, Some, None}
use Rattle.session.specs.declared.state.Settings.{Settings}
use Rattle.session.specs.declared.state.State.{State}

-- ---- a run, by the meanings of its calls

-- A call by its meaning, and the length of the output that it is lent, 0 where it is lent none.
pub record Invocation : Type 0 where
  pub call : Call
  pub room : ℕ

-- What a session is given once: the encoding of its messages, which says how wide its sequence numbers are, and its settings.
pub record Session : Type 0 where
  pub encoding : Encoding
  pub settings : Settings

-- How many bits its sequence numbers have.
abbrev pub dsn_bits : Session → ℕ
dsn_bits z = z.encoding.width

-- The state and the store between two calls.
pub record Exporter : Type 0 where
  pub state : State
  pub store : List ℕ

-- The outcome of a call: that of its step, on what the call before it left.
abbrev pub outcome : Session → Exporter → Invocation → Outcome
outcome z x i = step z.encoding i.room i.call x.state x.store

-- State and store after a call.
unfoldable pub advance : Session → Exporter → Invocation → Exporter
advance z x i = record { state = (outcome z x i).state; store = (outcome z x i).store }

-- State and store after a list of calls.
unfoldable pub run : Session → Exporter → List Invocation → Exporter
run z x [] = x
run z x (i ∷ is) = run z (advance z x i) is

-- What set-up leaves, with the store as it was lent.
unfoldable pub begin : Session → List ℕ → Exporter
begin z store = record { state = (set_up z.settings (length store)).state; store = store }

-- ---- what the history is fed

-- A call by its meaning, and its answer.
pub record AnsweredCall : Type 0 where
  pub call : Call
  pub answer : ℕ

-- The calls and answers of a list, from x on.
unfoldable pub transcript : Session → Exporter → List Invocation → List AnsweredCall
transcript z x [] = []
transcript z x (i ∷ is) = record { call = i.call; answer = (outcome z x i).answer } ∷ transcript z (advance z x i) is

-- The history after calls and their answers. Of a put it takes the template ID and the record: it looks at no table.
unfoldable pub history_from : ℕ → Settings → History → List AnsweredCall → History
history_from w p h [] = h
history_from w p h (k ∷ ks) = history_from w p (after_call w p k.call k.answer h) ks

-- ---- the premises

-- A width of 7 bits or more, settings that set-up accepts, and a first DSN of that width.
pub record Premises (z : Session) (store : List ℕ) : Type 0 where
  pub wide : 7 ≤ dsn_bits z
  pub accepted : (set_up z.settings (length store)).answer ≡ done
  pub initial : z.settings.initial < modulus (dsn_bits z)

-- A message that its form refuses is refused with one of 3 to 8; no other transition carries a refusal.
abbrev pub FormRefused : Transition → Type 0
FormRefused start = Unit {0}
FormRefused stop = Unit {0}
FormRefused negotiate = Unit {0}
FormRefused down = Unit {0}
FormRefused (offer table) = Unit {0}
FormRefused (agree config) = Unit {0}
FormRefused (malformed a) = (short_message ≤ a) × (a ≤ body_length_wrong)

-- The DSN of a DATA ACK has the session's width, and a message that its form refuses has the number of such a refusal.
abbrev pub InRange : ℕ → Call → Type 0
InRange w (put table id r) = Unit {0}
InRange w next_data = Unit {0}
InRange w tick = Unit {0}
InRange w (ack v d config) = d < modulus w
InRange w (move v m) = FormRefused m

-- The same of every call of a list.
abbrev pub AllInRange : ℕ → List Invocation → Type 0
AllInRange w [] = Unit {0}
AllInRange w (i ∷ is) = InRange w i.call × AllInRange w is

-- ---- what the history says of the next call

-- The record at place q, from 1.
abbrev pub entry_at : Ledger → ℕ → Entry
entry_at l q = get_or l.records (q - 1) (record { template = 0; octets = [] })

-- The place whose record is sent next: the one that stands "sent" behind the released ones.
abbrev pub next_place : History → ℕ
next_place h = h.ledger.released + (h.delivery.sent + 1)

-- Place q was written to a server other than v.
abbrev pub written_to_other : List Writing → ℕ → ℕ → Bool
written_to_other ws q v = any_writing (λ x. eqb x.place q && not (eqb x.server v)) ws

-- D: the place was written to a server other than the active one.
abbrev pub is_duplicate_for : Option ℕ → List Writing → ℕ → Bool
is_duplicate_for None writings q = false
is_duplicate_for (Some v) writings q = written_to_other writings q v

-- S (02, ask 2): the place is the one with which the activation began, the first behind those released before it, and none was released
-- since.
abbrev pub is_first_in : History → Bool
is_first_in h =
    let l = h.ledger in
    eqb (next_place h) (l.released_before + 1) && eqb l.released l.released_before

-- The head of the next DATA: the DSN of its place, S exactly where its record began the activation and none was released since, D exactly
-- where it was written to another server.
abbrev pub due_head : Session → History → DataHead
due_head z h =
    record {
      session = z.settings.session;
      template = (entry_at h.ledger (next_place h)).template;
      config = z.settings.config;
      first = is_first_in h;
      duplicate = is_duplicate_for h.delivery.active h.ledger.writings (next_place h);
      dsn = dsn_of (dsn_bits z) z.settings (next_place h);
    }

-- What a call writes where it is accepted.
abbrev pub due_reply : Session → History → Call → Reply
due_reply z h (put table id r) = silent
due_reply z h next_data = message (Data (due_head z h)) (entry_at h.ledger (next_place h)).octets
due_reply z h tick = silent
due_reply z h (ack v d config) = silent
due_reply z h (move v m) = reply_to z.settings m

-- DSN d belongs to the released number's place or to one of the `reached` places behind it.
abbrev pub is_reached : Session → History → ℕ → Bool
is_reached z h d = eqb (dsn_of (dsn_bits z) z.settings (place_of (dsn_bits z) z.settings h.delivery.reached h.ledger.released d)) d

-- How many octets records have together.
unfoldable pub octets_together : List Entry → ℕ
octets_together [] = 0
octets_together (x ∷ xs) = length x.octets + octets_together xs

-- The refusals that are due, by the history, the records held and the lengths of store and output. Answer 1 is not among them, since the
-- state is always sound.
abbrev pub due_checks : Session → ℕ → ℕ → History → List Entry → Call → List Check
due_checks z capacity room h hs (put table id r) =
    (unsound_table when not (is_sessions z.settings table))
    ∷ (template_not_found when is_missing table id)
    ∷ (record_too_long when ltb max_record_octets (length r))
    ∷ (record_invalid when not (record_valid table (template_of table id) r))
    ∷ (queue_full when leb max_held (length hs))
    ∷ (store_full when ltb capacity (octets_together hs + length r))
    ∷ []
due_checks z capacity room h hs next_data =
    (no_active_server when is_nobody h.delivery.active)
    ∷ (nothing_to_send when ltb (length h.ledger.records) (next_place h))
    ∷ (output_too_short when ltb room (size_of z.encoding (due_reply z h next_data)))
    ∷ []
due_checks z capacity room h hs tick = []
due_checks z capacity room h hs (ack v d config) =
    (no_such_server when leb z.settings.servers v)
    ∷ (out_of_turn when not (same_active h.delivery.active (Some v)))
    ∷ (other_configuration when not (eqb config z.settings.config))
    ∷ (dsn_not_acknowledgeable when not (is_reached z h d))
    ∷ []
due_checks z capacity room h hs (move v m) =
    (no_such_server when leb z.settings.servers v)
    ∷ transition_checks z.encoding z.settings room m (phase_at h.delivery.servers v)

-- ---- what is claimed of one call, made when the history was h and the records held were hs

-- A DATA ACK's place is the only one of the 65 from the released number on with its DSN, and is that number or an accepted record's.
pub record Named (w : ℕ) (p : Settings) (l : Ledger) (d : ℕ) : Type 0 where
  pub from : l.released ≤ ack_place w p l d
  pub up_to : ack_place w p l d ≤ l.released + max_held
  pub carries : dsn_of w p (ack_place w p l d) ≡ d
  pub only : (q : ℕ) → l.released ≤ q → q ≤ l.released + max_held → dsn_of w p q ≡ d → q ≡ ack_place w p l d
  pub accepted : ack_place w p l d ≤ length l.records

-- Place q is released by call c: c is a DATA ACK of the active server, and q was written to that server in the present activation.
pub record ReleasedBy (h : History) (c : Call) (q : ℕ) : Type 0 where
  pub server : ℕ
  pub dsn : ℕ
  pub config : ℕ
  pub acknowledges : c ≡ ack server dsn config
  pub is_active : h.delivery.active ≡ Some server
  pub was_written : written_in h.ledger.writings q server h.ledger.activation ≡ true

-- Server v can acknowledge place q: it is the released number, or a place behind it that was written to v in the present activation.
abbrev pub Acknowledgeable : History → ℕ → ℕ → Type 0
Acknowledgeable h v q =
    (q ≡ h.ledger.released) ⊎ ((h.ledger.released < q) × (written_in h.ledger.writings q v h.ledger.activation ≡ true))

-- Answers, messages and releases, sentence by sentence.
pub record CallClaim (z : Session) (capacity room : ℕ) (h : History) (hs : List Entry) (c : Call) (o : Outcome) : Type 0 where
  -- the answer is the first refusal that is due, and so never 1
  pub answered : o.answer ≡ judge (due_checks z capacity room h hs c)
  pub never_unsound : o.answer ≢ unsound_state
  -- an accepted call writes its message, and no other call writes
  pub writes : o.written ≡ cond (eqb o.answer done) (due_reply z h c) silent
  -- the DSN of a DATA stands for its place: no other record that may be held has it, and the record was accepted
  pub stands_for : c ≡ next_data → o.answer ≡ done → (q : ℕ) → h.ledger.released < q → q ≤ h.ledger.released + max_held
      → dsn_of (dsn_bits z) z.settings q ≡ dsn_of (dsn_bits z) z.settings (next_place h) → q ≡ next_place h
  pub accepted : c ≡ next_data → o.answer ≡ done → next_place h ≤ length h.ledger.records
  -- of the writings alone: a DATA has S exactly where its place is the one that was written first in the activation, or none was
  pub first_mark : c ≡ next_data → o.answer ≡ done
      → is_first_in h ≡ eqb (next_place h) (first_written h.ledger.writings h.ledger.activation (next_place h))
  -- an accepted DATA ACK names one place
  pub names : (v d config : ℕ) → c ≡ ack v d config → o.answer ≡ done → Named (dsn_bits z) z.settings h.ledger d
  -- whatever a call releases was written to the acknowledging server in its activation
  pub releases : (q : ℕ) → h.ledger.released < q → q ≤ (after_call (dsn_bits z) z.settings c o.answer h).ledger.released
      → ReleasedBy h c q
  -- a DATA ACK of the active server and the session's configuration is accepted where it names the released number or a place that was
  -- written to that server in its activation, sent again or not: so it is never answered 11
  pub ack_accepted : (v q : ℕ) → c ≡ ack v (dsn_of (dsn_bits z) z.settings q) z.settings.config → h.delivery.active ≡ Some v
      → Acknowledgeable h v q → o.answer ≡ done
  -- a sentence of the demand, which follows from `answered`: under a sound table of the session's Configuration ID a valid record of at
  -- most 1,024 octets is refused exactly where 64 are held or its octets do not fit beside the held ones
  pub putting : (table : List ℕ) (id : ℕ) (r : List ℕ) → c ≡ put table id r
      → is_sessions z.settings table ≡ true → is_missing table id ≡ false → record_valid table (template_of table id) r ≡ true
      → length r ≤ max_record_octets
      → not (eqb o.answer done) ≡ (leb max_held (length hs) || ltb capacity (octets_together hs + length r))

-- ---- what is claimed of a list

-- The accepted records are the released ones followed by the held ones.
pub record Account (l : Ledger) (hs : List Entry) : Type 0 where
  pub accounted : l.records ≡ take l.released l.records ++ hs
  pub counted : l.released + length hs ≡ length l.records

-- The place that a call's DATA ACK names where it is accepted, and r for any other call.
abbrev pub named_by : ℕ → Settings → Ledger → Call → ℕ → ℕ → ℕ
named_by w p l (put table id x) a r = r
named_by w p l next_data a r = r
named_by w p l tick a r = r
named_by w p l (ack v d config) a r = cond (eqb a done) (ack_place w p l d) r
named_by w p l (move v m) a r = r

-- The place named by the last accepted DATA ACK of a list, or r where there is none.
unfoldable pub last_named : ℕ → Settings → History → ℕ → List AnsweredCall → ℕ
last_named w p h r [] = r
last_named w p h r (k ∷ ks) =
    last_named w p (after_call w p k.call k.answer h) (named_by w p h.ledger k.call k.answer r) ks

-- The history of calls and their answers from a fresh exporter on.
abbrev pub history_of : Session → List AnsweredCall → History
history_of z ks = history_from (dsn_bits z) z.settings fresh_history ks

-- What is claimed of a list of calls from a fresh exporter on: x is what it leaves, ks are the calls and their answers, and `EachCall` is
-- what is claimed of each of them.
pub record Claim (z : Session) (x : Exporter) (ks : List AnsweredCall) (EachCall : Type 0) : Type 0 where
  -- the accepted records are the released ones, then the held ones as they are read from state and store
  pub account : Account (history_of z ks).ledger (held x.state x.store)
  -- the history counts releases as it should, whatever the exporter does: the number released is the place named by the last accepted
  -- DATA ACK, 0 before the first
  pub last : (history_of z ks).ledger.released ≡ last_named (dsn_bits z) z.settings fresh_history 0 ks
  -- of the places that are not released, exactly the first `reached` were written to the active server in its activation
  pub reached : let h = history_of z ks in (v q : ℕ) → h.delivery.active ≡ Some v → h.ledger.released < q
      → written_in h.ledger.writings q v h.ledger.activation ≡ leb q (h.ledger.released + h.delivery.reached)
  -- the activation began with the first place behind those released before it: what was written first in it, if anything was, is that place
  pub began_with : let l = (history_of z ks).ledger in
      first_written l.writings l.activation (l.released_before + 1) ≡ l.released_before + 1
  -- no fewer are released than before the activation, and S is due exactly where no more are
  pub no_fewer : let l = (history_of z ks).ledger in l.released_before ≤ l.released
  pub due : let l = (history_of z ks).ledger in x.state.due ≡ eqb l.released l.released_before
  -- every call is answered, writes and releases as the history has it
  pub calls : EachCall
  -- the state is sound, keeps its settings and its store's length, and agrees with the history
  pub is_sound : sound x.state ≡ true
  pub settings : x.state.settings ≡ z.settings
  pub stored : length x.store ≡ x.state.capacity
  pub agrees : (history_of z ks).delivery ≡ x.state.delivery

-- Every call of a list meets its claim, from an exporter x with history h on.
abbrev pub Calls : Session → Exporter → History → List Invocation → Type 0
Calls z x h [] = Unit {0}
Calls z x h (i ∷ is) =
    let o = outcome z x i in
    CallClaim z (length x.store) i.room h (held x.state x.store) i.call o
    × Calls z (advance z x i) (after_call (dsn_bits z) z.settings i.call o.answer h) is

-- The claim of a list of calls by their meanings.
abbrev pub ClaimByMeaning : Session → List ℕ → List Invocation → Type 0
ClaimByMeaning z store is = let x = begin z store in Claim z (run z x is) (transcript z x is) (Calls z x fresh_history is)

-- Demand 3, for every encoding of 7 bits or more, every session, store and list of calls, whatever tables and outputs they are lent.
abbrev pub Demand3 : Type 0
Demand3 =
    (z : Session) (store : List ℕ) → Premises z store → (is : List Invocation) → AllInRange (dsn_bits z) is → ClaimByMeaning z store is

-- An example: demand 3 of sequence numbers of 64 bits, the width of IPDR/SP (02, ask 1), whatever the sizes of messages.
abbrev pub Demand3Of64 : Type 0
Demand3Of64 = (size : Message → List ℕ → ℕ) (p : Settings) (store : List ℕ) → (set_up p (length store)).answer ≡ done
    → p.initial < modulus 64 → (is : List Invocation) → AllInRange 64 is
    → ClaimByMeaning (record { encoding = record { width = 64; size = size }; settings = p }) store is
