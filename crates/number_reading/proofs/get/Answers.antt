-- `get` meets its contract: the number of a type's octets is below 256 to the width, and so below 256 to the 8.
use mathlib.Core.Path.{◌≡◌, ap, ◌∙◌}
use mathlib.Core.List.{List}
use Prim.Native.Nat.{ℕ, ◌%◌, ◌^◌, ◌<◌, ◌≤◌}
use native.Mathlib.Nat.{mod-eq_of_lt, pow-le-pow_right}
use native.Mathlib.Omega.{arith}
use Rattle.numbers.specs.Numbers.{uint_at}
use Rattle.numbers.specs.declared.OctetOrder.TheVariants.{BigEndian}
use Rattle.numbers.proofs.Numbers.{uint_in_below}
use Rattle.number_reading.proofs.get.Goals as goal

-- a number of at most eight octets is below 256 to the 8
within : (n w : ℕ) → n < 256 ^ w → w ≤ 8 → n % 256 ^ 8 % 256 ^ w ≡ n
within n w h k =
    let m : 256 ^ w ≤ 256 ^ 8 = pow-le-pow_right (omega arith) k in
    ap (λ (x : ℕ). x % 256 ^ w) (mod-eq_of_lt (omega arith)) ∙ mod-eq_of_lt h

-- a number that was read in k octets, where these are as many as asked for
as_wide : (s : List ℕ) (at k w : ℕ) {v : ℕ} → v ≡ uint_at s at k % 256 ^ 8 → k ≡ w → v ≡ uint_at s at w % 256 ^ 8
as_wide s at k w e h = e ∙ ap (λ (n : ℕ). uint_at s at n % 256 ^ 8) h

pub returns : goal.returns
returns g c =
    let a = c.args in
    let w = g.T.Unsigned.WIDTH in
    let below = uint_in_below BigEndian a.s.now (λ i. omega (arith, c.type_inv.s i)) a.at w in
    c.from_number.ensures
    ∙ ap (λ (x : ℕ). x % 256 ^ w) (as_wide a.s.now a.at _ w c.get_uint.ensures (omega (arith, c.WIDTH.ensures)))
    ∙ within (uint_at a.s.now a.at w) w below g.met.T.Unsigned.width_within
