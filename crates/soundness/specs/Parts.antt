-- What soundness looks at of a state, and what the active server of a sound one is known by. These definitions render no rule of 01.
use Rattle.std.specs.Prelude.{ℕ, ◌<◌, false, [], Option, Some, None}
use Rattle.session.specs.declared.state.State.{State}

-- The active server, if there is one, has a number below n.
abbrev pub Below : ℕ → Option ℕ → Type 0
Below n None = Unit {0}
Below n (Some v) = v < n

-- A state without what soundness does not look at: whether S is due, the template IDs and the next DSN.
abbrev pub parts_in : State → State
parts_in s =
    let q = s.queue in
    record {
      settings = s.settings;
      capacity = s.capacity;
      delivery = s.delivery;
      due = false;
      queue = record { count = q.count; lengths = q.lengths; templates = []; receivers = q.receivers };
      start = s.start;
      next = 0;
    }
