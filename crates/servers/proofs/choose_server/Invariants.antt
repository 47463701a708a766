-- `choose_server` meets its contract. The loop's invariant: best is the choice among the servers passed. A turn is one more step of
-- `choose`.
use mathlib.Core.Path.{◌≡◌}
use Rattle.session.specs.Servers.{choose}
use Rattle.servers.proofs.choose_server.Given as goal

abbrev pub invariant-loop-v : goal.invariant-loop-v
invariant-loop-v l = l.best ≡ choose l.priorities l.servers l.v
