-- `none_zero` meets its contract. The loop's invariant: ok says whether no octet passed is 0.
use mathlib.Core.Path.{◌≡◌}
use mathlib.Core.Bool.{not}
use lib.Dec.{eqb}
use lib.ListN.{get_or}
use Rattle.numbers.specs.Each.{every}
use Rattle.appending.proofs.append.none_zero.Given as goal

abbrev pub invariant-loop-octet : goal.invariant-loop-octet
invariant-loop-octet l = l.ok ≡ every l.octet-index (λ i. not (eqb (get_or l.octets i 0) 0))
