-- `get_uint` meets its contract. The loop's invariant: the digits read so far, the most significant first, make v, modulo 2 to the 64.
use mathlib.Core.Path.{◌≡◌}
use lib.ListN.{get_or}
use Prim.Native.Nat.{◌+◌, ◌%◌, ◌^◌}
use Rattle.numbers.specs.Numbers.{number_of, place_in}
use Rattle.number_reading.proofs.get_uint.Given as goal

abbrev pub invariant-loop-i : goal.invariant-loop-i
invariant-loop-i l = l.v ≡ number_of (λ k. get_or l.s (l.at + place_in l.order l.w k) 0) l.i % 256 ^ 8
