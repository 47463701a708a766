-- Server states, the choice of the active server, and the steps that the exporter and the history take alike (01, "Exporter").
--
use Rattle.std.specs.Prelude.{◌≡◌, ◌≢◌, ℕ, zero, suc, ◌+◌, ◌-◌, ◌≤◌, ◌<◌, max, Bool, true, false, not, ◌&&◌, ◌||◌, cond, List, map, get_or, set, replicate, eqb, ltb}
use Rattle.session.specs.Limits.{max_servers}
use Rattle.session.specs.declared.state.Phase.{Phase}
use Rattle.session.specs.declared.state.Phase.TheVariants.{Closed, Started, Offered, Agreed, Late}
use Rattle.session.specs.declared.state.Server.{Server}
use Rattle.std.specs.Prelude.{Option, Some, None}
use Rattle.session.specs.declared.state.Settings.{Settings}
use Rattle.session.specs.declared.state.Delivery.{Delivery}

-- ---- phases: server states of 01

-- A server in a phase.
abbrev pub server : Phase → Server
server phase = record { phase = phase }

-- The phase of server v, in a list of servers; closed past its end.
abbrev pub phase_at : List Server → ℕ → Phase
phase_at servers v = (get_or servers v (server Closed)).phase

-- The server is closed.
abbrev pub is_closed : Phase → Bool
is_closed Closed = true
is_closed Started = false
is_closed Offered = false
is_closed Agreed = false
is_closed Late = false

-- The server was offered the templates and has not answered.
abbrev pub is_offered : Phase → Bool
is_offered Closed = false
is_offered Started = false
is_offered Offered = true
is_offered Agreed = false
is_offered Late = false

-- Templates can be offered from started and from offered.
abbrev pub can_offer : Phase → Bool
can_offer Closed = false
can_offer Started = true
can_offer Offered = true
can_offer Agreed = false
can_offer Late = false

-- The server is agreed: only such a one can be active.
abbrev pub is_agreed : Phase → Bool
is_agreed Closed = false
is_agreed Started = false
is_agreed Offered = false
is_agreed Agreed = true
is_agreed Late = false

-- What START NEGOTIATE makes of a phase: closed stays, any other becomes started.
abbrev pub restarted : Phase → Phase
restarted Closed = Closed
restarted Started = Started
restarted Offered = Started
restarted Agreed = Started
restarted Late = Started

-- A server after START NEGOTIATE.
abbrev pub restart : Server → Server
restart s = server (restarted s.phase)

-- ---- the choice

-- Server v has a higher priority than the choice so far, or there is none so far.
abbrev pub beats : List ℕ → ℕ → Option ℕ → Bool
beats priorities v None = true
beats priorities v (Some b) = ltb (get_or priorities b 0) (get_or priorities v 0)

-- The choice so far, or server v where it is agreed and has a higher priority.
abbrev pub preferred : List ℕ → List Server → ℕ → Option ℕ → Option ℕ
preferred priorities servers v best = cond (is_agreed (phase_at servers v) && beats priorities v best) (Some v) best

-- Of the first n servers, the one to be active: agreed, no other agreed one has a higher priority, and of equals it has the lowest
-- number; nobody where none is agreed.
unfoldable pub choose : List ℕ → List Server → ℕ → Option ℕ
choose priorities servers zero = None
choose priorities servers (suc n) = preferred priorities servers n (choose priorities servers n)

-- Among the first n servers v is agreed, no agreed one has a higher priority, and none of a lower number has the same.
pub record Best (priorities : List ℕ) (servers : List Server) (n v : ℕ) : Type 0 where
  pub inside : v < n
  pub agreed : is_agreed (phase_at servers v) ≡ true
  pub highest : (u : ℕ) → u < n → is_agreed (phase_at servers u) ≡ true → get_or priorities u 0 ≤ get_or priorities v 0
  pub lowest : (u : ℕ) → u < v → is_agreed (phase_at servers u) ≡ true → get_or priorities u 0 ≢ get_or priorities v 0

-- What 01 says of the active server ("Exporter"); the law `choice` shows it of `choose`.
abbrev pub IsChoice : List ℕ → List Server → ℕ → Option ℕ → Type 0
IsChoice priorities servers n None = (u : ℕ) → u < n → is_agreed (phase_at servers u) ≡ false
IsChoice priorities servers n (Some v) = Best priorities servers n v

-- Two choices are the same.
abbrev pub same_active : Option ℕ → Option ℕ → Bool
same_active None None = true
same_active None (Some b) = false
same_active (Some a) None = false
same_active (Some a) (Some b) = eqb a b

-- Nobody is chosen.
abbrev pub is_nobody : Option ℕ → Bool
is_nobody None = true
is_nobody (Some v) = false

-- The server to be active by the settings and the servers' phases.
abbrev pub chosen : Settings → Delivery → Option ℕ
chosen p d = choose p.priorities d.servers p.servers

-- The choice is another than before.
unfoldable pub changed : Settings → Delivery → Bool
changed p d = not (same_active (chosen p d) d.active)

-- A new activation of a choice begins with sent, reached and timer 0.
abbrev pub activated : Delivery → Option ℕ → Delivery
activated d choice = record { servers = d.servers; active = choice; sent = 0; reached = 0; timer = 0 }

-- The choice made anew: where it differs from the active server an activation begins.
unfoldable pub settle : Settings → Delivery → Delivery
settle p d = cond (changed p d) (activated d (chosen p d)) d

-- Of a fresh exporter: every server is closed, nobody is active, and all counters are 0.
abbrev pub fresh_delivery : Delivery
fresh_delivery = record { servers = replicate max_servers (server Closed); active = None; sent = 0; reached = 0; timer = 0 }

-- ---- steps

-- A delivery with other servers.
abbrev pub with_servers : Delivery → List Server → Delivery
with_servers d servers = record { servers = servers; active = d.active; sent = d.sent; reached = d.reached; timer = d.timer }

-- A delivery with another sent, reached and timer.
abbrev pub with_counts : Delivery → ℕ → ℕ → ℕ → Delivery
with_counts d sent reached timer = record { servers = d.servers; active = d.active; sent = sent; reached = reached; timer = timer }

-- What can move a server: the messages START, STOP, START NEGOTIATE and, with a Configuration ID, FINAL TMPL DATA ACK; offering
-- templates, with the table that is lent; line down. A message that its form refuses, with the number of that refusal, moves nothing.
pub data Transition : Type 0 where
  start stop negotiate down : Transition
  offer : List ℕ → Transition
  agree malformed : ℕ → Transition

-- START: started. STOP and line down: closed. Offering: offered. FINAL TMPL DATA ACK: agreed. START NEGOTIATE: every server that is
-- not closed becomes started.
unfoldable pub transition : ℕ → Transition → List Server → List Server
transition v start servers = set servers v (server Started)
transition v stop servers = set servers v (server Closed)
transition v negotiate servers = map restart servers
transition v (offer table) servers = set servers v (server Offered)
transition v down servers = set servers v (server Closed)
transition v (agree config) servers = set servers v (server Agreed)
transition v (malformed a) servers = servers

-- Next data: sent grows by 1, and reached becomes the larger of itself and sent.
unfoldable pub sent_one : Delivery → Delivery
sent_one d = with_counts d (d.sent + 1) (max d.reached (d.sent + 1)) d.timer

-- After a DATA ACK that releases n: reached and sent fall by n, sent no further than to 0. n above 0 clears the timer; n of 0 sets sent to
-- 0, so that all is sent again, and leaves the timer.
unfoldable pub acknowledged : ℕ → Delivery → Delivery
acknowledged n d = cond (eqb n 0) (with_counts d 0 d.reached d.timer) (with_counts d (d.sent - n) (d.reached - n) 0)

-- The servers with server v late.
abbrev pub late_servers : Delivery → ℕ → List Server
late_servers d v = set d.servers v (server Late)

-- One of the first n servers, other than v, is agreed.
unfoldable pub other_agreed : List Server → ℕ → ℕ → Bool
other_agreed servers v zero = false
other_agreed servers v (suc n) = (not (eqb n v) && is_agreed (phase_at servers n)) || other_agreed servers v n

-- A server other than v is agreed.
abbrev pub another_agreed : Settings → ℕ → Delivery → Bool
another_agreed p v d = other_agreed d.servers v p.servers

-- The timer of the active server v has run out: it turns late if another server is agreed, else what was sent is sent again.
unfoldable pub expired : Settings → ℕ → Delivery → Delivery
expired p v d =
    cond (another_agreed p v d)
    (with_counts (with_servers d (late_servers d v)) d.sent d.reached 0)
    (with_counts d 0 d.reached 0)

-- A tick: the timer is 0 where nobody is active or reached is below the threshold; else it grows by 1, and at the duration runs out.
abbrev pub ticked_for : Settings → Delivery → Option ℕ → Delivery
ticked_for p d None = with_counts d d.sent d.reached 0
ticked_for p d (Some v) =
    cond (ltb d.reached p.threshold) (with_counts d d.sent d.reached 0)
    (cond (eqb (d.timer + 1) p.duration) (expired p v d)
    (with_counts d d.sent d.reached (d.timer + 1)))

-- A tick, by the server that is active.
unfoldable pub ticked : Settings → Delivery → Delivery
ticked p d = ticked_for p d d.active
