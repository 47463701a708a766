-- The limits of the settings, and the sound states (01, "Exporter").
use Rattle.std.specs.Prelude.{ℕ, ◌^◌, Bool, ◌&&◌, List, [], ◌∷◌, eqb, leb, ltb, get_or, Option, Some, None}
use Rattle.octets.specs.Each.{every, all_of}
use Rattle.wire.specs.Messages.{max_record_octets}
use Rattle.session.specs.Limits.{max_servers, max_threshold, min_store_octets, max_store_octets, max_held}
use Rattle.session.specs.Servers.{same_active, chosen}
use Rattle.session.specs.Queue.{held_octets, has}
use Rattle.session.specs.declared.state.Settings.{Settings}
use Rattle.session.specs.declared.state.Delivery.{Delivery}
use Rattle.session.specs.declared.state.State.{State}

-- ---- settings

-- 1 to 16 servers (02, ask 7), a threshold of 1 to 64, a duration of 1 or more, a store of 1,024 to 65,536 octets. A duration has 16 bits
-- and a priority 8, so neither needs an upper test.
unfoldable pub settings_sound : Settings → ℕ → Bool
settings_sound p room =
    leb 1 p.servers
    && leb p.servers max_servers
    && leb 1 p.threshold
    && leb p.threshold max_threshold
    && leb 1 p.duration
    && leb min_store_octets room
    && leb room max_store_octets

-- ---- sound states

-- With nobody active the three counters are 0; otherwise the active server was sent each of the records reached.
abbrev pub activation_sound : Delivery → List ℕ → Option ℕ → Bool
activation_sound d receivers None = eqb d.sent 0 && eqb d.reached 0 && eqb d.timer 0
activation_sound d receivers (Some v) = every d.reached (λ i. has (get_or receivers i 0) v)

-- The held record at place i has at most 1,024 octets, and was sent to existing servers only, by how many there are.
abbrev pub entry_sound : ℕ → List ℕ → List ℕ → ℕ → Bool
entry_sound servers lengths receivers i = leb (get_or lengths i 0) max_record_octets && ltb (get_or receivers i 0) (2 ^ servers)

-- The numbers of a state are in their limits.
unfoldable pub numbers_sound : Settings → ℕ → Delivery → ℕ → ℕ → Bool
numbers_sound p room d count start =
    settings_sound p room
    && leb count max_held
    && ltb start room
    && leb d.sent d.reached
    && leb d.reached count
    && ltb d.timer p.duration

-- The numbers are in their limits, the held records too, and they fit the store together; the active server is the one that the servers'
-- phases choose; with nobody active sent, reached and timer are 0, else the first `reached` records were sent to the active server.
-- Whether S is due plays no part (02, ask 2).
unfoldable pub sound : State → Bool
sound s =
    all_of
    (numbers_sound s.settings s.capacity s.delivery s.queue.count s.start
    ∷ every s.queue.count (entry_sound s.settings.servers s.queue.lengths s.queue.receivers)
    ∷ leb (held_octets s.queue) s.capacity
    ∷ same_active s.delivery.active (chosen s.settings s.delivery)
    ∷ activation_sound s.delivery s.queue.receivers s.delivery.active
    ∷ [])
