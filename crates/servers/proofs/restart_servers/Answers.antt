-- `restart_servers` meets its contract: each entry is the restarted one.
use mathlib.Core.Path.{◌≡◌, ◌∙◌, sym}
use mathlib.Core.List.{map}
use lib.ListN.{length, get_or-map}
use native.Mathlib.Omega.{arith}
use borrow.Author.Rules.{rules}
use Rattle.std.proofs.lemmas.List.{ext_get_or, length-map}
use Rattle.session.specs.Limits.{max_servers}
use Rattle.session.specs.Servers.{restart, server}
use Rattle.session.specs.declared.state.Phase.TheVariants.{Closed}
use Rattle.servers.proofs.restart_servers.Goals as goal

pub returns : goal.returns
returns c =
    let d = server Closed in
    let m = c.map.ensures.items in
    let xs = c.args.servers in
    let l : length xs ≡ max_servers = search rules in
    ext_get_or d c.map.result (map restart xs) (omega (arith, m.long, l, length-map xs restart))
    (λ i h. let z = m.at i d d (omega (arith, m.long)) in z.2.met ∙ sym (get_or-map restart xs i d))
