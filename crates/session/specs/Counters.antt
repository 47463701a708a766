-- The rules about sent and reached, one by one (01, "Exporter", the lines on next data and DATA ACK), for every state: what an accepted
-- next data or DATA ACK leaves of the counters, of S being due (02, ask 2) and of the queue.
use Rattle.std.specs.Prelude.{◌≡◌, false, List, ℕ, ◌+◌, ◌-◌, ◌<◌, max}
use Rattle.octets.specs.Answers.{done}
use Rattle.wire.specs.Replies.{Encoding}
use Rattle.session.specs.Steps.{ack_count, ack, step}
use Rattle.session.specs.Steps as calls
use Rattle.session.specs.declared.state.State.{State}

-- What a call leaves of the servers and of the choice: both stay.
pub record SameServers (s left : State) : Type 0 where
  pub servers : left.delivery.servers ≡ s.delivery.servers
  pub active : left.delivery.active ≡ s.delivery.active

-- Next data: sent grows by 1, reached becomes the larger of itself and sent; the timer stays, and S is due as it was.
pub record SentOne (s left : State) : Type 0 where
  pub same : SameServers s left
  pub sent : left.delivery.sent ≡ s.delivery.sent + 1
  pub reached : left.delivery.reached ≡ max s.delivery.reached (s.delivery.sent + 1)
  pub timer : left.delivery.timer ≡ s.delivery.timer
  pub due : left.due ≡ s.due
  pub count : left.queue.count ≡ s.queue.count

-- A DATA ACK that names n records: they go, and reached falls by n. Where n is above 0, sent falls by n but not below 0, the timer is 0,
-- and S is due no more; where n is 0, sent is 0, the timer stays, and S is due as it was.
pub record Released (n : ℕ) (s left : State) : Type 0 where
  pub same : SameServers s left
  pub count : left.queue.count ≡ s.queue.count - n
  pub reached : left.delivery.reached ≡ s.delivery.reached - n
  pub sent : 0 < n → left.delivery.sent ≡ s.delivery.sent - n
  pub timer : 0 < n → left.delivery.timer ≡ 0
  pub sent_again : n ≡ 0 → left.delivery.sent ≡ 0
  pub timer_stays : n ≡ 0 → left.delivery.timer ≡ s.delivery.timer
  pub due : 0 < n → left.due ≡ false
  pub due_stays : n ≡ 0 → left.due ≡ s.due

-- Both rules.
pub record CounterRules (e : Encoding) (s : State) : Type 0 where
  pub next_data : (room : ℕ) (store : List ℕ) → let o = step e room calls.next_data s store in o.answer ≡ done → SentOne s o.state
  pub data_ack : (room v dsn config : ℕ) (store : List ℕ)
      → let o = step e room (ack v dsn config) s store in o.answer ≡ done → Released (ack_count e.width s dsn) s o.state

-- They hold of every state, whatever the encoding.
abbrev pub CounterRule : Type 0
CounterRule = (e : Encoding) (s : State) → CounterRules e s
