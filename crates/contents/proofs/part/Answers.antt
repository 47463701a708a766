-- `part` meets its contract: what is taken of the octets behind the place is nothing, all of them, or the first n. The tests say which: by
-- the tape's end, then by what is left of it.
use mathlib.Core.Path.{◌≡◌}
use mathlib.Core.Path.{ap}
use Prim.Native.Nat.{ℕ, ◌+◌, ◌-◌}
use native.Mathlib.Omega.{arith}
use lib.ListN.{take, drop}
use Rattle.contents.specs.Tape.{octets_at}
use Rattle.contents.proofs.Parts.{part_past, part_rest}
use borrow.Author.Rules.{rules}
use Rattle.contents.proofs.part.Goals as goal

pub returns-then-len-at : goal.returns-then-len-at
unfolding octets_at
returns-then-len-at c =
    let a = c.args in
    part_past a.tape.now a.at a.n (search rules)

pub returns-then-len-at-2 : goal.returns-then-len-at-2
unfolding octets_at
returns-then-len-at-2 c =
    let a = c.args in
    part_rest a.tape.now a.at a.n (search rules)

pub returns : goal.returns
unfolding octets_at
returns c =
    let a = c.args in
    let e : a.at + a.n - a.at ≡ a.n = omega arith in
    ap (λ (k : ℕ). take k (drop a.at a.tape.now)) e
