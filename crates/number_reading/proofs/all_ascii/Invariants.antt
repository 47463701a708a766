-- `all_ascii` meets its contract. The loop's invariant: ok says whether the octets passed are below 128. The loop ends after n octets or at
-- the end of the slice, and past the end every octet reads 0.
use mathlib.Core.Path.{◌≡◌}
use Rattle.numbers.specs.Numbers.{all_ascii}
use Rattle.number_reading.proofs.all_ascii.Given as goal

abbrev pub invariant-loop-octet : goal.invariant-loop-octet
invariant-loop-octet l = l.ok ≡ all_ascii l.s l.at l.octet-index
