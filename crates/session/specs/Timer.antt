-- The rules about the timer, one by one (01, "Exporter", the line on ticks), for every sound state: what a tick leaves of it.
use Rattle.std.specs.Prelude.{◌≡◌, ◌≢◌, true, [], ℕ, ◌+◌, ◌≤◌, ◌<◌, set, Some, None}
use Rattle.octets.specs.Answers.{done}
use Rattle.session.specs.Servers.{server, phase_at, is_agreed, with_counts}
use Rattle.session.specs.Sound.{sound}
use Rattle.wire.specs.Replies.{Encoding}
use Rattle.session.specs.Steps.{with_delivery, tick, step}
use Rattle.session.specs.declared.state.Phase.TheVariants.{Late}
use Rattle.session.specs.declared.state.State.{State}

-- The state with another sent and timer, and nothing else changed.
abbrev pub with_sent_and_timer : State → ℕ → ℕ → State
with_sent_and_timer s sent timer = with_delivery s (with_counts s.delivery sent s.delivery.reached timer)

-- The timer of server v runs: v is active, and reached is at or above the threshold.
pub record Runs (s : State) (v : ℕ) : Type 0 where
  pub active : s.delivery.active ≡ Some v
  pub waiting : s.settings.threshold ≤ s.delivery.reached

-- A server other than v is agreed.
pub record OtherAgreed (s : State) (v : ℕ) : Type 0 where
  pub server : ℕ
  pub exists : server < s.settings.servers
  pub other : server ≢ v
  pub agreed : is_agreed (phase_at s.delivery.servers server) ≡ true

-- What is left where v turned late: of all phases only its own is another, somebody else is active, and that activation begins.
pub record TurnedLate (s : State) (v : ℕ) (left : State) : Type 0 where
  pub servers : left.delivery.servers ≡ set s.delivery.servers v (server Late)
  pub somebody : left.delivery.active ≢ None
  pub another : left.delivery.active ≢ Some v
  pub sent : left.delivery.sent ≡ 0
  pub reached : left.delivery.reached ≡ 0
  pub timer : left.delivery.timer ≡ 0
  pub due : left.due ≡ true
  pub queue : left.queue ≡ s.queue
  pub settings : left.settings ≡ s.settings
  pub capacity : left.capacity ≡ s.capacity
  pub start : left.start ≡ s.start
  pub next : left.next ≡ s.next

-- The rules.
pub record TimerRules (e : Encoding) (s : State) : Type 0 where
  -- a tick is answered 0
  pub answered : (step e 0 tick s []).answer ≡ done
  -- if no server is active, or reached is below the threshold, the timer is 0
  pub nobody : s.delivery.active ≡ None → (step e 0 tick s []).state ≡ with_sent_and_timer s s.delivery.sent 0
  pub below : s.delivery.reached < s.settings.threshold → (step e 0 tick s []).state ≡ with_sent_and_timer s s.delivery.sent 0
  -- else it grows by 1
  pub grows : (v : ℕ) → Runs s v → s.delivery.timer + 1 < s.settings.duration
      → (step e 0 tick s []).state ≡ with_sent_and_timer s s.delivery.sent (s.delivery.timer + 1)
  -- when it equals the duration it becomes 0, and the active server turns late if another is agreed, else sent is 0
  pub late : (v : ℕ) → Runs s v → s.delivery.timer + 1 ≡ s.settings.duration → OtherAgreed s v
      → TurnedLate s v (step e 0 tick s []).state
  pub sent_again : (v : ℕ) → Runs s v → s.delivery.timer + 1 ≡ s.settings.duration → (OtherAgreed s v → ⊥)
      → (step e 0 tick s []).state ≡ with_sent_and_timer s 0 0

-- They hold of every sound state, whatever the encoding.
abbrev pub TimerRule : Type 0
TimerRule = (e : Encoding) (s : State) → sound s ≡ true → TimerRules e s
