-- What a tick changes, by the clock. Renders no rule of 01.
use Rattle.std.specs.Prelude.{ℕ, ◌+◌, Bool, true, false, not, ◌||◌, cond, List, eqb, ltb, Option, Some, None}
use Rattle.session.specs.Servers.{choose, is_nobody, late_servers}
use Rattle.servers.specs.declared.change.Change.{Change}
use Rattle.ticking.specs.declared.tick.Clock.{Clock}
use Rattle.session.specs.declared.state.Server as server_of
use Rattle.session.specs.declared.state.Settings.{Settings}
use Rattle.session.specs.declared.state.Delivery.{Delivery}
use Rattle.servers.specs.Changes.{number_of}

-- The clock of an active server: 0 below the threshold, and again where the duration has passed.
abbrev pub running_clock : Settings → Delivery → Clock
running_clock p d =
    cond (ltb d.reached p.threshold) (record { timer = 0; expired = false })
    (cond (eqb (d.timer + 1) p.duration) (record { timer = 0; expired = true }) (record { timer = d.timer + 1; expired = false }))

-- The clock after a tick, by the server that is active.
abbrev pub clock_for : Settings → Delivery → Option ℕ → Clock
clock_for p d None = record { timer = 0; expired = false }
clock_for p d (Some v) = running_clock p d

-- What a tick changes by the clock after it, where `choice` is made among `late` servers.
abbrev pub tick_change_to : Delivery → Bool → Clock → List server_of.Server → Option ℕ → Change
tick_change_to d due k late choice =
    let switched = not (is_nobody choice) in
    record {
      delivery = record {
        servers = cond switched late d.servers;
        active = cond switched choice d.active;
        sent = cond k.expired 0 d.sent;
        reached = cond switched 0 d.reached;
        timer = k.timer;
      };
      due = switched || due;
    }

-- What a tick changes by the clock after it: only where the timer has run out there is a choice to make, with the active server late.
abbrev pub tick_change_by : Settings → Delivery → Bool → Clock → Change
tick_change_by p d due k =
    let late = late_servers d (number_of d.active) in
    tick_change_to d due k late (choose p.priorities late (cond k.expired p.servers 0))
