-- What a sending rests on.
use Rattle.std.specs.Prelude.{◌≡◌, ℕ, ◌<◌, true, false, List, length}
use Rattle.session.specs.Servers.{is_nobody}
use Rattle.session.specs.Sound.{sound}
use Rattle.session.specs.declared.state.State.{State}

-- There is a record to send and a server to send it to, and the lent store is that of the state.
pub record SendFacts (s : State) (store : List ℕ) : Type 0 where
  pub is_sound : sound s ≡ true
  pub stored : length store ≡ s.capacity
  pub some : is_nobody s.delivery.active ≡ false
  pub more : s.delivery.sent < s.queue.count
