-- What holds between the history and the exporter's state and store after every call. The state is sound by itself; beside that, the held
-- records are the accepted ones behind the released number, sets and reached are what the writings say, and S is due by what was released.
use mathlib.Core.Path.{◌≡◌}
use mathlib.Core.Bool.{Bool, true, false}
use mathlib.Core.List.{List}
use Prim.Native.Nat.{ℕ, ◌+◌, ◌≤◌, ◌<◌}
use lib.Dec.{eqb}
use lib.ListN.{length, get_or, drop}
use Rattle.session.specs.Queue.{Entry, has, held}
use Rattle.session.specs.Sound.{sound}
use Rattle.session.specs.History.{Writing, Ledger, History, dsn_of, any_writing, written_in, first_written}
use Rattle.std.specs.Prelude.{Some}
use Rattle.session.specs.declared.state.Settings.{Settings}
use Rattle.session.specs.declared.state.Queue.{Queue}
use Rattle.session.specs.declared.state.State.{State}
use Rattle.session.proofs.QueueLaws.{written_to}
use Rattle.session.proofs.SoundKept.{Sized}

-- something was written in activation k
abbrev pub written_during : List Writing → ℕ → Bool
written_during ws k = any_writing (λ x. eqb x.activation k) ws

-- the queue and the next DSN, against the records, the released number R and the writings
pub record Stock (w : ℕ) (p : Settings) (records : List Entry) (R : ℕ) (writings : List Writing) (q : Queue) (next : ℕ) : Type 0 where
  pub counted : R + q.count ≡ length records
  pub following : next ≡ dsn_of w p (length records + 1)
  -- a set names the servers that its record was written to
  pub marks : (i v : ℕ) → i < q.count → has (get_or q.receivers i 0) v ≡ written_to writings (R + (i + 1)) v
  -- only accepted records were written, and only to existing servers
  pub places : (k v : ℕ) → length records < k → written_to writings k v ≡ false
  pub existing : (k v : ℕ) → written_to writings k v ≡ true → v < p.servers

-- the ledger, and the state with its store
pub record Core (w : ℕ) (l : Ledger) (s : State) (store : List ℕ) : Type 0 where
  pub stored : length store ≡ s.capacity
  -- the records behind the released ones are the held ones
  pub behind : drop l.released l.records ≡ held s store
  pub stock : Stock w s.settings l.records l.released l.writings s.queue s.next
  -- no fewer are released than before the activation, and S is due exactly where no more are
  pub origin : l.released_before ≤ l.released
  pub starts : s.due ≡ eqb l.released l.released_before
  -- what was released in it was written in it, and nothing was written in a later one
  pub opened : l.released_before < l.released → written_during l.writings l.activation ≡ true
  pub later : (k : ℕ) → l.activation < k → written_during l.writings k ≡ false
  -- what was written first in it is the first place behind those released before it
  pub first : first_written l.writings l.activation (l.released_before + 1) ≡ l.released_before + 1
  -- each place that was reached was written to the active server in its activation
  pub since : (v k : ℕ) → s.delivery.active ≡ Some v → l.released < k → k ≤ l.released + s.delivery.reached
      → written_in l.writings k v l.activation ≡ true
  -- and none beyond those was
  pub until : (v k : ℕ) → written_in l.writings k v l.activation ≡ true → k ≤ l.released + s.delivery.reached

pub record Agrees (w : ℕ) (h : History) (s : State) (store : List ℕ) : Type 0 where
  pub delivery : h.delivery ≡ s.delivery
  pub is_sound : sound s ≡ true
  pub sized : Sized s.queue
  pub core : Core w h.ledger s store
