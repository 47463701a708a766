-- `wrapped` meets its contract. A place below the ring's length is its own remainder; from one past the end the length is taken away first.
use mathlib.Core.Path.{sym, ◌∙◌}
use native.Mathlib.Nat.{mod-eq_of_lt}
use Rattle.queue.proofs.Rings.{place_back}
use Rattle.queue.proofs.ring.wrapped.Goals as goal

pub returns-then-at-room : goal.returns-then-at-room
returns-then-at-room c = sym (mod-eq_of_lt c.if-at-room.true)

pub returns-then-past-room : goal.returns-then-past-room
returns-then-past-room c = sym (mod-eq_of_lt c.if-past-room.true) ∙ place_back _ _ c.if-at-room.false

pub returns : goal.returns
returns c = place_back _ _ c.if-at-room.false
