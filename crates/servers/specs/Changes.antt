-- What a call changes of a state besides its queue, as a small value. Renders no rule of 01.
use Rattle.std.specs.Prelude.{ℕ, Bool, ◌||◌, Option, unwrap_or}
use Rattle.session.specs.Servers.{changed, settle}
use Rattle.session.specs.Steps.{with_due}
use Rattle.servers.specs.declared.change.Change.{Change}
use Rattle.session.specs.declared.state.Settings.{Settings}
use Rattle.session.specs.declared.state.Delivery.{Delivery}
use Rattle.session.specs.declared.state.State.{State}

-- The change of an accepted call: the choice made anew.
abbrev pub settled_change : Settings → Delivery → Bool → Change
settled_change p d due = record { delivery = settle p d; due = changed p d || due }

-- The state with a change.
abbrev pub applied_to : State → Change → State
applied_to s c = with_due s c.delivery c.due

-- The active server's number, 0 for nobody.
abbrev pub number_of : Option ℕ → ℕ
number_of a = unwrap_or a 0
