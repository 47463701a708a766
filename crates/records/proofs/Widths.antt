-- Numbers of at most 8 octets are numbers of 64 bits, and half of 256 to the w is a number for every w above 0.
use mathlib.Core.Path.{◌≡◌, refl, sym}
use mathlib.Core.Bool.{Bool, true, false}
use mathlib.Core.List.{List}
use Prim.Native.Nat.{ℕ, zero, suc, ◌+◌, ◌-◌, ◌*◌, ◌/◌, ◌%◌, ◌^◌, ◌≤◌, ◌<◌}
use native.Mathlib.Nat.{one-le-pow, pow-suc, pow-le-pow_right, mod-eq_of_lt, lt_of_lt_of_le}
use native.Mathlib.Omega.{arith}
use borrow.Author.Tests.{le-leb, lt-leb, leb-true, leb-false}
use lib.Dec.{lit<, leb, ltb}
use Rattle.octets.specs.Numbers.{uint_in, Octets}
use Rattle.numbers.specs.declared.OctetOrder.{OctetOrder}
use Rattle.octets.proofs.Numbers.{uint_in_below}

-- the greatest of them
pub pow_u64 : (w : ℕ) → w ≤ 8 → 256 ^ w ≤ 256 ^ 8
pow_u64 w h = pow-le-pow_right (lit< tt) h

pub pow_above : (w : ℕ) → 1 ≤ 256 ^ w
pow_above w = one-le-pow w 256 (lit< tt)

-- half of it
pub pow_even : (w : ℕ) → 1 ≤ w → 256 ^ w / 2 * 2 ≡ 256 ^ w
pow_even zero h = absurd (omega arith)
pow_even (suc w) h = omega (arith, pow-suc 256 w)

-- the number in w octets is below 256 to the w, and itself modulo 2 to the 64
pub uint_u64 : (order : OctetOrder) (s : List ℕ) → Octets s → (at w : ℕ) → w ≤ 8
    → (uint_in order s at w < 256 ^ w) × (uint_in order s at w % 256 ^ 8 ≡ uint_in order s at w)
uint_u64 order s octet at w h =
    let below = uint_in_below order s octet at w in (below, mod-eq_of_lt (lt_of_lt_of_le below (pow_u64 w h)))

-- ---- the tests of the code, which has the greatest number of w octets in place of 256 to the w

-- two tests of which each says what the other says
pub same_test : (a b c d : ℕ) → (a ≤ b → c ≤ d) → (c ≤ d → a ≤ b) → leb a b ≡ leb c d
same_test a b c d h k = go (leb a b) refl
  where
    go : (t : Bool) → leb a b ≡ t → t ≡ leb c d
    go true e = sym (le-leb c d (h (leb-true a b e)))
    go false e = sym (lt-leb c d (omega (arith, leb-false a b e, absent (leb c d) refl)))
      where
        absent : (t : Bool) → leb c d ≡ t → d < c
        absent true f = absurd (omega (arith, k (leb-true c d f), leb-false a b e))
        absent false f = leb-false c d f

pub below_test : (n w : ℕ) → leb n (256 ^ w - 1) ≡ ltb n (256 ^ w)
below_test n w = same_test n (256 ^ w - 1) (suc n) (256 ^ w) (λ h. omega (arith, pow_above w)) (λ h. omega arith)

pub half_test : (n w : ℕ) → leb n ((256 ^ w - 1) / 2) ≡ ltb (2 * n) (256 ^ w)
half_test n w = same_test n ((256 ^ w - 1) / 2) (suc (2 * n)) (256 ^ w) (λ h. omega (arith, pow_above w)) (λ h. omega arith)

pub size_test : (n w : ℕ) → 1 ≤ w → leb n ((256 ^ w - 1) / 2 + 1) ≡ leb (2 * n) (256 ^ w)
size_test n w h =
    same_test n ((256 ^ w - 1) / 2 + 1) (2 * n) (256 ^ w) (λ k. omega (arith, pow_above w, pow_even w h)) (λ k. omega (arith, pow_even w h))
