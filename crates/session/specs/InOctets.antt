-- The code's calls over octets, in CRANE: each does what its octets mean, and so demand 3 holds of every list of them (01, "History" and
-- "Messages"). The calls' own outcomes feed the history, and what is claimed of messages is said of octets.
use Rattle.std.specs.Prelude.{ℕ, ◌<◌, ◌≡◌, cond, List, [], ◌∷◌, ◌++◌, map, eqb, length, drop}
use Rattle.octets.specs.Answers.{done}
use Rattle.octets.specs.Numbers.{Octets}
use Rattle.wire.specs.Replies.{crane, layout}
use Rattle.session.specs.Servers.{offer, down}
use Rattle.session.specs.Queue.{held}
use Rattle.session.specs.Steps.{modulus, Call, put, next_data, tick, move, received, Outcome, put_step, next_data_step, receive_step}
use Rattle.session.specs.Steps.{offer_step, line_down_step, tick_step, octets_written, output_after, set_up}
use Rattle.session.specs.History.{History, after_call, fresh_history}
use Rattle.session.specs.Claim.{Invocation, Session, dsn_bits, Exporter, outcome, run, begin, AnsweredCall, transcript, due_reply}
use Rattle.session.specs.Claim.{CallClaim, Claim}
use Rattle.session.specs.declared.state.Settings.{Settings}

-- ---- calls over octets

-- The six calls, each with its arguments besides state and store: the table that a put is lent, the template ID and the record; the output
-- of next data; the server, the message and the output of receive; the server, the lent table and the output of an offer; the server whose
-- line is down.
pub data Event : Type 0 where
  Put : List ℕ → ℕ → List ℕ → Event
  NextData : List ℕ → Event
  Receive : ℕ → List ℕ → List ℕ → Event
  OfferTemplates : ℕ → List ℕ → List ℕ → Event
  LineDown : ℕ → Event
  Tick : Event

-- The step of a call, which its contract cites, on what the call before it left.
abbrev pub event_step : Exporter → Event → Outcome
event_step x (Put table id r) = put_step x.state x.store table id r
event_step x (NextData out) = next_data_step x.state x.store out
event_step x (Receive v m out) = receive_step x.state v m out
event_step x (OfferTemplates v table out) = offer_step x.state v table out
event_step x (LineDown v) = line_down_step x.state v
event_step x Tick = tick_step x.state

-- The store after a call with this outcome: only a put is lent the store to change it.
abbrev pub store_left : Exporter → Event → Outcome → List ℕ
store_left x (Put table id r) o = o.store
store_left x (NextData out) o = x.store
store_left x (Receive v m out) o = x.store
store_left x (OfferTemplates v table out) o = x.store
store_left x (LineDown v) o = x.store
store_left x Tick o = x.store

-- What a call answers, leaves and writes, with the store also where its step has none.
abbrev pub event_outcome : Exporter → Event → Outcome
event_outcome x e =
    let o = event_step x e in
    record { answer = o.answer; state = o.state; store = store_left x e o; written = o.written }

-- State and store after a call.
unfoldable pub after_event : Exporter → Event → Exporter
after_event x e = record { state = (event_step x e).state; store = store_left x e (event_step x e) }

-- State and store after a list of calls.
unfoldable pub after_events : Exporter → List Event → Exporter
after_events x [] = x
after_events x (e ∷ es) = after_events (after_event x e) es

-- The output that a call is lent, [] where it is lent none.
abbrev pub output_of : Event → List ℕ
output_of (Put table id r) = []
output_of (NextData out) = out
output_of (Receive v m out) = out
output_of (OfferTemplates v table out) = out
output_of (LineDown v) = []
output_of Tick = []

-- How long it is.
abbrev pub room_of : Event → ℕ
room_of e = length (output_of e)

-- ---- what they mean

-- The call that an event makes, by the settings alone.
unfoldable pub call_of : Settings → Event → Call
call_of p (Put table id r) = put table id r
call_of p (NextData out) = next_data
call_of p (Receive v m out) = received p v m
call_of p (OfferTemplates v table out) = move v (offer table)
call_of p (LineDown v) = move v down
call_of p Tick = tick

-- The same with the length of the output.
abbrev pub invocation_of : Settings → Event → Invocation
invocation_of p e = record { call = call_of p e; room = room_of e }

-- A session in CRANE.
abbrev pub crane_session : Settings → Session
crane_session p = record { encoding = crane; settings = p }

-- A fresh exporter with these settings, over this store.
abbrev pub fresh_over : Settings → List ℕ → Exporter
fresh_over p store = begin (crane_session p) store

-- The calls by their meanings and the calls' own answers, from x on.
unfoldable pub event_transcript : Settings → Exporter → List Event → List AnsweredCall
event_transcript p x [] = []
event_transcript p x (e ∷ es) =
    record { call = call_of p e; answer = (event_step x e).answer } ∷ event_transcript p (after_event x e) es

-- ---- the claim

-- What is claimed of one call over octets, made when the exporter was x and the history was h.
pub record EventClaim (p : Settings) (x : Exporter) (h : History) (e : Event) : Type 0 where
  -- it answers, leaves and writes what its meaning does
  pub means : event_outcome x e ≡ outcome (crane_session p) x (invocation_of p e)
  -- its answer, its message and its releases are those that the history has
  pub call : CallClaim (crane_session p) (length x.store) (room_of e) h (held x.state x.store) (call_of p e) (event_step x e)
  -- an accepted call writes the octets of the message that is due by the history, and no other call writes an octet
  pub octets : octets_written (event_step x e)
      ≡ cond (eqb (event_step x e).answer done) (layout (due_reply (crane_session p) h (call_of p e))) []
  -- they stand from the output's first octet on, and no octet behind them changes
  pub output : let o = event_step x e in
      output_after (output_of e) o ≡ octets_written o ++ drop (length (octets_written o)) (output_of e)

-- Every call of a list meets its claim, from an exporter x with history h on; the call's own answer feeds the history.
abbrev pub EventClaims : Settings → Exporter → History → List Event → Type 0
EventClaims p x h [] = Unit {0}
EventClaims p x h (e ∷ es) =
    EventClaim p x h e
    × EventClaims p (after_event x e) (after_call (dsn_bits (crane_session p)) p (call_of p e) (event_step x e).answer h) es

-- What is claimed of a list of calls over octets from a fresh exporter on.
pub record ClaimInOctets (p : Settings) (store : List ℕ) (es : List Event) : Type 0 where
  -- the calls leave the state and the store that their meanings leave
  pub same_run : after_events (fresh_over p store) es ≡ run (crane_session p) (fresh_over p store) (map (invocation_of p) es)
  -- and they are answered as their meanings are
  pub same_answers : event_transcript p (fresh_over p store) es
      ≡ transcript (crane_session p) (fresh_over p store) (map (invocation_of p) es)
  -- every sentence of demand 3, of what the calls leave, of their own answers and of their octets
  pub claim : Claim (crane_session p) (after_events (fresh_over p store) es) (event_transcript p (fresh_over p store) es)
      (EventClaims p (fresh_over p store) fresh_history es)

-- Every received message is a list of octets.
abbrev pub AllOctets : List Event → Type 0
AllOctets [] = Unit {0}
AllOctets (Put table id r ∷ es) = AllOctets es
AllOctets (NextData out ∷ es) = AllOctets es
AllOctets (Receive v m out ∷ es) = Octets m × AllOctets es
AllOctets (OfferTemplates v table out ∷ es) = AllOctets es
AllOctets (LineDown v ∷ es) = AllOctets es
AllOctets (Tick ∷ es) = AllOctets es

-- Demand 3 of the code, for every list of its calls: the first DSN has 32 bits, and received messages are octets.
abbrev pub Demand3InOctets : Type 0
Demand3InOctets = (p : Settings) (store : List ℕ) → (set_up p (length store)).answer ≡ done → p.initial < modulus 32
    → (es : List Event) → AllOctets es → ClaimInOctets p store es
