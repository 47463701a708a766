-- `greatest` meets its contract: one test, computed over the table, compares each entry with the greatest number of its octets. The smaller
-- of the width and 8 is the width up to 8, and 8 past it.
use mathlib.Core.Path.{◌≡◌, refl}
use mathlib.Core.List.{List, [], ◌∷◌}
use Prim.Native.Nat.{ℕ, ◌-◌, ◌^◌, ◌<◌}
use native.Mathlib.Omega.{arith}
use borrow.Author.Tests.{eqb-true, le-leb, lt-leb}
use lib.Dec.{eqb}
use lib.ListN.{get_or}
use Rattle.numbers.specs.Each.{every}
use Rattle.numbers.proofs.Each.{every_at}
use Rattle.number_reading.proofs.greatest.Goals as goal

abbrev table : List ℕ
table =
    0
    ∷ 255
    ∷ 65535
    ∷ 16777215
    ∷ 4294967295
    ∷ 1099511627775
    ∷ 281474976710655
    ∷ 72057594037927935
    ∷ 18446744073709551615
    ∷ []

entry : (w : ℕ) → w < 9 → get_or table w 0 ≡ 256 ^ w - 1
unfolding every
entry w h = eqb-true (get_or table w 0) (256 ^ w - 1) (every_at 9 (λ w. eqb (get_or table w 0) (256 ^ w - 1)) refl w h)

pub returns-then-w-le8 : goal.returns-then-w-le8
returns-then-w-le8 c = rw (le-leb c.args.w 8 c.if-w-le8.true) (entry c.args.w (omega arith))

pub returns-else-w-le8 : goal.returns-else-w-le8
returns-else-w-le8 c = rw (lt-leb c.args.w 8 (omega arith)) refl
