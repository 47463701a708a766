-- The rules about servers as one table, written from 01 ("Exporter") and not from the definitions of the steps, and claimed of them row by
-- row. A call concerns one server, its own; the table says what becomes of that one and of any other, and what the call writes.
use Rattle.std.specs.Prelude.{◌≡◌, ◌≢◌, Bool, true, not, ◌||◌, cond, List, [], ◌∷◌, ◌++◌, map, ℕ, ◌*◌, ◌-◌, eqb, get_or, set, replicate}
use Rattle.octets.specs.Answers.{done, out_of_turn}
use Rattle.session.specs.Limits.{max_servers, all_servers, max_held, min_store_octets}
use Rattle.session.specs.Servers.{server, phase_at, is_agreed, same_active, with_counts}
use Rattle.session.specs.Servers.{Transition, start, stop, negotiate, offer, down, agree, malformed, transition}
use Rattle.session.specs.Steps.{octets_written, set_up}
use Rattle.session.specs.InOctets.{Event, Receive, OfferTemplates, LineDown, Tick, event_step}
use Rattle.session.specs.Examples.{a_table, settings_of, exporter_of}
use Rattle.session.specs.declared.state.Phase.{Phase}
use Rattle.session.specs.declared.state.Phase.TheVariants.{Closed, Started, Offered, Agreed, Late}
use Rattle.session.specs.declared.state.Server as server_of
use Rattle.std.specs.Prelude.{Option, Some, None}
use Rattle.session.specs.declared.state.Settings.{Settings}
use Rattle.session.specs.declared.state.Delivery.{Delivery}
use Rattle.session.specs.declared.state.State.{State}

-- ---- the table

-- The server states, in the paper's order.
abbrev pub phases : List Phase
phases = Closed ∷ Started ∷ Offered ∷ Agreed ∷ Late ∷ []

-- A call that concerns server v, with three columns. By the phase of v, in the order above: the answer, and the phase of v afterwards. By
-- the phase of any other server, in the same order: that server's phase afterwards, where the answer is 0. Then too the octets written.
pub record Rule : Type 0 where
  pub call : ℕ → Event
  pub answers : List ℕ
  pub own : List Phase
  pub others : List Phase
  pub reply : List ℕ

-- A message from server v to session 7, with an output that has room for any reply.
abbrev pub from : List ℕ → ℕ → Event
from message v = Receive v message (replicate 64 0)

-- START, any state: started, START ACK with boot time 3,600. STOP or line down, any state: closed; STOP is answered with STOP ACK. Offer
-- templates: from started or offered, writes TMPL DATA, then offered; else 9. FINAL TMPL DATA ACK: offered to agreed, else 9. START
-- NEGOTIATE: 9 from a closed server; else acknowledged, and every server not closed becomes started.
abbrev pub rules : List Rule
rules =
    record {
      call = from (0x01 ∷ 0x01 ∷ 0x07 ∷ 0x00 ∷ 0x00 ∷ 0x00 ∷ 0x00 ∷ 0x08 ∷ []);
      answers = done ∷ done ∷ done ∷ done ∷ done ∷ [];
      own = Started ∷ Started ∷ Started ∷ Started ∷ Started ∷ [];
      others = phases;
      reply = 0x01 ∷ 0x02 ∷ 0x07 ∷ 0x00 ∷ 0x00 ∷ 0x00 ∷ 0x00 ∷ 0x0C ∷ 0x00 ∷ 0x00 ∷ 0x0E ∷ 0x10 ∷ [];
    }
    ∷ record {
      call = from (0x01 ∷ 0x03 ∷ 0x07 ∷ 0x00 ∷ 0x00 ∷ 0x00 ∷ 0x00 ∷ 0x08 ∷ []);
      answers = done ∷ done ∷ done ∷ done ∷ done ∷ [];
      own = Closed ∷ Closed ∷ Closed ∷ Closed ∷ Closed ∷ [];
      others = phases;
      reply = 0x01 ∷ 0x04 ∷ 0x07 ∷ 0x00 ∷ 0x00 ∷ 0x00 ∷ 0x00 ∷ 0x08 ∷ [];
    }
    ∷ record {
      call = LineDown;
      answers = done ∷ done ∷ done ∷ done ∷ done ∷ [];
      own = Closed ∷ Closed ∷ Closed ∷ Closed ∷ Closed ∷ [];
      others = phases;
      reply = [];
    }
    ∷ record {
      call = λ v. OfferTemplates v a_table (replicate 64 0);
      answers = out_of_turn ∷ done ∷ done ∷ out_of_turn ∷ out_of_turn ∷ [];
      own = Closed ∷ Offered ∷ Offered ∷ Agreed ∷ Late ∷ [];
      others = phases;
      reply = (0x01 ∷ 0x10 ∷ 0x07 ∷ 0x00 ∷ 0x00 ∷ 0x00 ∷ 0x00 ∷ 0x24 ∷ []) ++ a_table;
    }
    ∷ record {
      call = from (0x01 ∷ 0x13 ∷ 0x07 ∷ 0x00 ∷ 0x00 ∷ 0x00 ∷ 0x00 ∷ 0x0C ∷ 0x01 ∷ 0x00 ∷ 0x00 ∷ 0x00 ∷ []);
      answers = out_of_turn ∷ out_of_turn ∷ done ∷ out_of_turn ∷ out_of_turn ∷ [];
      own = Closed ∷ Started ∷ Agreed ∷ Agreed ∷ Late ∷ [];
      others = phases;
      reply = [];
    }
    ∷ record {
      call = from (0x01 ∷ 0x18 ∷ 0x07 ∷ 0x00 ∷ 0x00 ∷ 0x00 ∷ 0x00 ∷ 0x08 ∷ []);
      answers = out_of_turn ∷ done ∷ done ∷ done ∷ done ∷ [];
      own = Closed ∷ Started ∷ Started ∷ Started ∷ Started ∷ [];
      others = Closed ∷ Started ∷ Started ∷ Started ∷ Started ∷ [];
      reply = 0x01 ∷ 0x19 ∷ 0x07 ∷ 0x00 ∷ 0x00 ∷ 0x00 ∷ 0x00 ∷ 0x08 ∷ [];
    }
    ∷ []

-- A timer that runs out: the active server, which is agreed, turns late if another is agreed. Its phase afterwards, by the other's phase.
abbrev pub ran_out : List Phase
ran_out = Agreed ∷ Agreed ∷ Agreed ∷ Late ∷ Agreed ∷ []

-- ---- what it is claimed of: two servers v and u among as many as there can be, the others closed

-- The servers, v in phase `own` and u in phase `other`.
abbrev pub both : ℕ → ℕ → Phase → Phase → List server_of.Server
both v u own other = set (set (replicate max_servers (server Closed)) v (server own)) u (server other)

-- Of v and u the one that is active, v having the higher priority.
abbrev pub active_of : ℕ → ℕ → Phase → Phase → Option ℕ
active_of v u own other = cond (is_agreed own) (Some v) (cond (is_agreed other) (Some u) None)

-- An exporter of v and u in these phases. It holds one record, which was sent to all servers; where one of the two is active, it counts as
-- sent and reached, and the timer is the one given, of 10 ticks. S is not due.
abbrev pub pair : ℕ → ℕ → Phase → Phase → ℕ → State
pair v u own other timer =
    let sent : ℕ = cond (is_agreed own || is_agreed other) 1 0 in
    exporter_of (settings_of max_servers (set (replicate max_servers 0) v 1))
    (record { servers = both v u own other; active = active_of v u own other; sent = sent; reached = sent; timer = sent * timer })
    1 (replicate max_held 2) all_servers 1

-- An answer, what is left of the delivery, whether S is due, and the octets written.
pub record Result : Type 0 where
  pub answer : ℕ
  pub delivery : Delivery
  pub due : Bool
  pub written : List ℕ

-- What a call answers, leaves and writes.
abbrev pub result_of : Event → State → Result
result_of e s =
    let o = event_step (record { state = s; store = replicate min_store_octets 0 }) e in
    record { answer = o.answer; delivery = o.state.delivery; due = o.state.due; written = octets_written o }

-- With v and u in these phases, and counters as they are in a delivery: the active server is chosen anew, and a changed choice makes sent,
-- reached and timer 0 and S due; where the choice stays, S stays not due.
abbrev pub chosen_anew : ℕ → ℕ → Phase → Phase → Delivery → ℕ → List ℕ → Result
chosen_anew v u own other d answer written =
    let active = active_of v u own other in
    let same = same_active active d.active in
    record {
      answer = answer;
      delivery =
          record {
            servers = both v u own other;
            active = active;
            sent = cond same d.sent 0;
            reached = cond same d.reached 0;
            timer = cond same d.timer 0;
          };
      due = not same;
      written = written;
    }

-- The places of a column.
abbrev pub places : List ℕ
places = 0 ∷ 1 ∷ 2 ∷ 3 ∷ 4 ∷ []

-- A phase of a column.
abbrev pub at : List Phase → ℕ → Phase
at column i = get_or column i Closed

-- What a rule says of its call to v in phase i beside u in phase j; a refusal leaves both as they were and writes nothing.
abbrev pub ruled : ℕ → ℕ → Rule → ℕ → ℕ → Result
ruled v u r i j =
    let answer = get_or r.answers i 0 in
    let accepted = eqb answer done in
    let other = cond accepted (at r.others j) (at phases j) in
    chosen_anew v u (at r.own i) other (pair v u (at phases i) (at phases j) 5).delivery answer (cond accepted r.reply [])

-- Every call of a rule, by the phases of both servers, does what the rule says.
abbrev pub RuleHolds : ℕ → ℕ → Rule → Type 0
RuleHolds v u r =
    map (λ i. map (λ j. result_of (r.call v) (pair v u (at phases i) (at phases j) 5)) places) places
    ≡ map (λ i. map (ruled v u r i) places) places

-- All rules hold.
abbrev pub AllRulesHold : ℕ → ℕ → List Rule → Type 0
AllRulesHold v u [] = Unit {0}
AllRulesHold v u (r ∷ rs) = RuleHolds v u r × AllRulesHold v u rs

-- At the tenth tick the active server v becomes what the table says, beside u in phase j: the timer is 0, and where v stays, what was sent
-- is sent again.
abbrev pub RanOutHolds : ℕ → ℕ → Type 0
RanOutHolds v u =
    map (λ j. result_of Tick (pair v u Agreed (at phases j) 9)) places
    ≡ map (λ j.
    chosen_anew v u (at ran_out j) (at phases j) (with_counts (pair v u Agreed (at phases j) 9).delivery 0 1 0) done []) places

-- ---- any other server, however many there are

-- The phase of a server that a call does not concern, afterwards: only START NEGOTIATE changes it, where it is not closed.
abbrev pub other_after : Transition → Phase → Phase
other_after start phase = phase
other_after stop phase = phase
other_after negotiate Closed = Closed
other_after negotiate Started = Started
other_after negotiate Offered = Started
other_after negotiate Agreed = Started
other_after negotiate Late = Started
other_after (offer table) phase = phase
other_after down phase = phase
other_after (agree config) phase = phase
other_after (malformed a) phase = phase

-- So it is for every server u but v, whatever their number.
abbrev pub OthersHold : Type 0
OthersHold =
    (v u : ℕ) (t : Transition) (servers : List server_of.Server) → u ≢ v
    → phase_at (transition v t servers) u ≡ other_after t (phase_at servers u)

-- ---- a fresh exporter

-- It holds nothing, has every server closed, counters and ring start 0, and S due; the first record is to take the first DSN.
pub record Fresh (p : Settings) (octets : ℕ) (s : State) : Type 0 where
  pub settings : s.settings ≡ p
  pub capacity : s.capacity ≡ octets
  pub count : s.queue.count ≡ 0
  pub closed : (u : ℕ) → phase_at s.delivery.servers u ≡ Closed
  pub active : s.delivery.active ≡ None
  pub sent : s.delivery.sent ≡ 0
  pub reached : s.delivery.reached ≡ 0
  pub timer : s.delivery.timer ≡ 0
  pub start : s.start ≡ 0
  pub due : s.due ≡ true
  pub next : s.next ≡ p.initial

-- So is what an accepted set-up over a store of so many octets leaves.
abbrev pub FreshHolds : Type 0
FreshHolds = (p : Settings) (octets : ℕ) → (set_up p octets).answer ≡ done → Fresh p octets (set_up p octets).state

-- ---- all of it

-- The last server, where there are as many as there can be.
abbrev pub last_server : ℕ
last_server = max_servers - 1

-- The whole table holds of the steps, where v is the first server and u the last and where it is the other way round.
pub record ServerRules : Type 0 where
  pub first : AllRulesHold 0 last_server rules
  pub last : AllRulesHold last_server 0 rules
  pub first_ran_out : RanOutHolds 0 last_server
  pub last_ran_out : RanOutHolds last_server 0
  pub others : OthersHold
  pub fresh : FreshHolds
