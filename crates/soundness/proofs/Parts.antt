-- Soundness looks at no other parts of a state, and the active server of a sound state is one of those that there are at most.
use mathlib.Core.Path.{◌≡◌, refl, sym, ◌∙◌}
use mathlib.Core.Bool.{true}
use Prim.Native.Nat.{ℕ, ◌≤◌}
use native.Mathlib.Omega.{arith}
use Rattle.session.specs.Limits.{max_servers}
use Rattle.session.specs.Servers.{chosen}
use Rattle.session.specs.Sound.{sound}
use Rattle.std.specs.Prelude.{Option, Some, None}
use Rattle.session.specs.declared.state.Settings.{Settings}
use Rattle.session.specs.declared.state.Delivery.{Delivery}
use Rattle.session.specs.declared.state.State.{State}
use Rattle.session.proofs.SoundFacts.{sound_facts}
use Rattle.session.proofs.Choice.{chosen_below}
use Rattle.soundness.specs.Parts.{Below, parts_in}

-- a state is sound where its parts are
pub parts_of : (s : State) → sound (parts_in s) ≡ sound s
unfolding sound
parts_of s = refl

-- an active server that is chosen among at most m is one of m
pub choice_below : (p : Settings) (d : Delivery) (m : ℕ) → d.active ≡ chosen p d → p.servers ≤ m → Below m d.active
choice_below p d m e l = go d.active refl
  where
    go : (a : Option ℕ) → d.active ≡ a → Below m a
    go None k = tt
    go (Some v) k = omega (arith, chosen_below p.priorities d.servers p.servers v (sym e ∙ k))

-- a sound state's active server is one of those that an exporter has at most
pub active_below : (s : State) → sound s ≡ true → Below max_servers s.delivery.active
active_below s e =
    let f = sound_facts s e in
    choice_below s.settings s.delivery max_servers f.choice f.numbers.settings.few_servers
