-- Laws of the queue's arrays, by induction over lists and places: sums of lengths, sets of servers as bits, entries moved to the front.
-- Each law of a loop says what one more turn adds.
use mathlib.Core.Path.{◌≡◌, refl, sym, ap, ◌∙◌}
use mathlib.Core.Bool.{true, false, not, ◌&&◌, ◌||◌}
use mathlib.Core.List.{List, [], ◌∷◌, ◌++◌, map, append-nil}
use Prim.Native.Nat.{ℕ, zero, suc, ◌+◌, ◌-◌, ◌*◌, ◌/◌, ◌%◌, ◌^◌, ◌≤◌, ◌<◌}
use native.Mathlib.Nat.{mod-lt, one-mul, mod-eq_of_lt, pow-le-pow_right, div-eq_of_lt, zero-lt-suc, lt_of_lt_of_le, not-suc-le-zero}
use native.Mathlib.Nat.{le_of_suc-le-suc, zero-add, zero-mul, mod-one, pow-succ'}
use native.Mathlib.Decide.{dec_lt, ℕ_discrete}
use native.Mathlib.Numerals.{add-one}
use native.Mathlib.Omega.{arith}
use lib.Bits.{bit_and, and_zero_l, and_zero_r, and_self, and_shr, and_mod}
use borrow.Author.Tests.{eq-eqb, ne_eqb}
use lib.Arith.{mod-mul}
use lib.Dec.{eqb}
use lib.Pow.{pow_pos, pow-lt}
use lib.ListN.{length, get_or, set, take, drop, replicate, length-drop, length-replicate, replicate-append-replicate, drop_of_length-le}
use lib.Seq.{take-suc, take_all, drop_at, get_or-drop}
use Rattle.octets.specs.Each.{every}
use Rattle.octets.proofs.Each.{every_at}
use Rattle.session.specs.Limits.{max_servers, all_servers}
use Rattle.session.specs.Queue.{sum_of, has, has_other, shifted}

-- ---- sums

pub sum_append : (a b : List ℕ) → sum_of (a ++ b) ≡ sum_of a + sum_of b
unfolding sum_of
sum_append [] b = omega arith
sum_append (x ∷ a) b = omega (arith, sum_append a b)

-- fewer numbers sum up to no more
pub sum_fewer : (xs : List ℕ) (i n : ℕ) → i ≤ n → sum_of (take i xs) ≤ sum_of (take n xs)
unfolding sum_of
sum_fewer xs zero n h = omega arith
sum_fewer xs (suc i) zero h = absurd (omega arith)
sum_fewer [] (suc i) (suc n) h = omega arith
sum_fewer (x ∷ xs) (suc i) (suc n) h = omega (arith, sum_fewer xs i n (omega arith))

-- one more entry
pub sum_more : (xs : List ℕ) (i : ℕ) → i < length xs → sum_of (take (i + 1) xs) ≡ sum_of (take i xs) + get_or xs i 0
unfolding sum_of
sum_more xs i h = rw (add-one, take-suc xs i 0) (sum_append (take i xs) (get_or xs i 0 ∷ []) ∙ omega arith)

-- ---- sets of servers

-- a set of w bits has no server from w on
pub has_none : (w m v : ℕ) → m < 2 ^ w → w ≤ v → false ≡ has m v
unfolding has
has_none w m v h l =
    let b : m < 2 ^ v = lt_of_lt_of_le h (pow-le-pow_right {n = 2} (zero-lt-suc 1) l) in
    rw (div-eq_of_lt b)

-- a bit of w that is shifted from the first
pub one_shifted : (w v : ℕ) → v < w → 1 * 2 ^ v % 2 ^ w ≡ 2 ^ v
one_shifted w v h = ap (λ (x : ℕ). x % 2 ^ w) (one-mul (2 ^ v)) ∙ mod-eq_of_lt {m = 2 ^ w} (pow-lt {j = w} h)

-- a set with server n, and else servers below n only, is not that of another server alone
not_alone : (n v l : ℕ) → l < 2 ^ n → (n ≡ v → ⊥) → 2 ^ n + l ≡ 2 ^ v → ⊥
not_alone n v l h d e = go (dec_lt n v)
  where
    go : Dec (n < v) → ⊥
    go (yes z) = omega (arith, pow-le-pow_right {n = 2} (zero-lt-suc 1) {i = suc n} {j = v} z)
    go (no z) = omega (arith, pow-lt {i = v} {j = n} (omega arith))

-- one of the first n servers, other than v, is in a set exactly where its first n bits are neither 0 nor the bit of v alone
other_low : (n v m : ℕ) → has_other n v m ≡ not (eqb (m % 2 ^ n) 0) && not (eqb (m % 2 ^ n) (2 ^ v))
unfolding has_other has
other_low zero v m = rw (mod-one m)
other_low (suc n) v m =
    let low : m % 2 ^ suc n ≡ m / 2 ^ n % 2 * 2 ^ n + m % 2 ^ n =
    ap (λ (x : ℕ). m % x) (pow-succ' 2 n) ∙ mod-mul m {m = 2} {c = 2 ^ n} (omega arith) (pow_pos n) in
    rw (other_low n v m, low)
    (go (m / 2 ^ n % 2) (m % 2 ^ n) (mod-lt (m / 2 ^ n) {m = 2} (omega arith)) (mod-lt m (pow_pos n)) (ℕ_discrete n v))
  where
    go : (b l : ℕ) → b < 2 → l < 2 ^ n → Dec (n ≡ v)
        → (not (eqb n v) && eqb b 1) || (not (eqb l 0) && not (eqb l (2 ^ v)))
        ≡ not (eqb (b * 2 ^ n + l) 0) && not (eqb (b * 2 ^ n + l) (2 ^ v))
    go zero l h k (yes e) = rw (eq-eqb n v e, zero-mul (2 ^ n), zero-add l)
    go zero l h k (no e) = rw (ne_eqb n v e, zero-mul (2 ^ n), zero-add l)
    go (suc zero) l h k (no e) =
        rw (
          one-mul (2 ^ n),
          ne_eqb n v e,
          ne_eqb (2 ^ n + l) 0 (λ z. omega (arith, pow_pos n)),
          ne_eqb (2 ^ n + l) (2 ^ v) (not_alone n v l k e),
        )
    go (suc zero) zero h k (yes e) =
        let q = ap (λ (x : ℕ). 2 ^ x) e in
        rw (
          one-mul (2 ^ n),
          eq-eqb n v e,
          ne_eqb (2 ^ n + 0) 0 (λ z. omega (arith, pow_pos n)),
          eq-eqb (2 ^ n + 0) (2 ^ v) (omega (arith, q)),
        )
    go (suc zero) (suc l) h k (yes e) =
        let q = ap (λ (x : ℕ). 2 ^ x) e in
        rw (
          one-mul (2 ^ n),
          eq-eqb n v e,
          ne_eqb (suc l) 0 (λ z. omega arith),
          ne_eqb (suc l) (2 ^ v) (λ z. omega (arith, q)),
          ne_eqb (2 ^ n + suc l) 0 (λ z. omega arith),
          ne_eqb (2 ^ n + suc l) (2 ^ v) (λ z. omega (arith, q)),
        )
    go (suc (suc b)) l h k d = absurd (omega arith)

-- a set of the first n servers has another one than v exactly where it is neither empty nor v alone
pub other_only : (n v m : ℕ) → m < 2 ^ n → has_other n v m ≡ not (eqb m 0) && not (eqb m (2 ^ v))
other_only n v m h = other_low n v m ∙ ap (λ (x : ℕ). not (eqb x 0) && not (eqb x (2 ^ v))) (mod-eq_of_lt {m = 2 ^ n} h)

-- ---- entries moved to the front

-- a loop that copies s over the front of d, one store a turn
copy_suc : (d s : List ℕ) (i : ℕ) → i < length d → i < length s
    → set (take i s ++ drop i d) i (get_or s i 0) ≡ take (suc i) s ++ drop (suc i) d
copy_suc [] s i h g = absurd (not-suc-le-zero h)
copy_suc (x ∷ d) [] i h g = absurd (not-suc-le-zero g)
copy_suc (x ∷ d) (y ∷ s) zero h g = refl
copy_suc (x ∷ d) (y ∷ s) (suc i) h g = ap (λ (t : List ℕ). y ∷ t) (copy_suc d s i (le_of_suc-le-suc h) (le_of_suc-le-suc g))

-- b is m times 0 with the first i entries of a from n on moved to its front
abbrev pub Moved : List ℕ → ℕ → ℕ → ℕ → List ℕ → Type 0
Moved a m n i b = b ≡ take i (drop n a) ++ drop i (replicate m 0)

-- one more entry
pub moved_more : (a b : List ℕ) (m n i : ℕ) → length a ≡ m → n + i < m → Moved a m n i b → Moved a m n (i + 1) (set b i (get_or a (n + i) 0))
moved_more a b m n i l h e =
    rw (e, ← get_or-drop n a i 0, add-one)
    (copy_suc (replicate m 0) (drop n a) i (simp length-replicate (omega arith)) (simp length-drop (omega arith)))

-- all entries
pub moved_all : (a : List ℕ) (m n : ℕ) → length a ≡ m → n ≤ m → take (m - n) (drop n a) ++ drop (m - n) (replicate m 0) ≡ shifted a n
moved_all a m n e h =
    let k : m ≡ (m - n) + n = omega arith in
    let z : replicate {A = ℕ} m 0 ≡ replicate (m - n) 0 ++ replicate n 0 =
    ap (λ (j : ℕ). replicate {A = ℕ} j 0) k ∙ sym (replicate-append-replicate (m - n) n 0) in
    let l : length (drop n a) ≤ m - n = simp length-drop (omega arith) in
    rw (
      take_all (m - n) (drop n a) l,
      z,
      drop_at {A = ℕ} (replicate (m - n) 0) (replicate n 0) (m - n) (length-replicate {A = ℕ} (m - n) 0),
    )

-- a loop that puts f of each element in its place, one store a turn
pub map_suc : {A : Type 0} (f : A → A) (z : A) (s : List A) (i : ℕ) → i < length s
    → set (map f (take i s) ++ drop i s) i (f (get_or s i z)) ≡ map f (take (i + 1) s) ++ drop (i + 1) s
map_suc {A = A} f z s i h = rw add-one (go s i h)
  where
    go : (s : List A) (i : ℕ) → i < length s
        → set (map f (take i s) ++ drop i s) i (f (get_or s i z)) ≡ map f (take (suc i) s) ++ drop (suc i) s
    go [] i h = absurd (not-suc-le-zero h)
    go (x ∷ s) zero h = refl
    go (x ∷ s) (suc i) h = ap (λ (t : List A). f x ∷ t) (go s i (le_of_suc-le-suc h))

-- all elements
pub map_all : {A : Type 0} (f : A → A) (s : List A) (i : ℕ) → length s ≤ i → map f (take i s) ++ drop i s ≡ map f s
map_all f s i h = rw (take_all i s h, drop_of_length-le s h, append-nil)

-- ---- what sets have in common

-- of two digits
both_bits : (x y : ℕ) → x < 2 → y < 2 → eqb (bit_and x y) 1 ≡ eqb x 1 && eqb y 1
both_bits zero y h k = ap (λ (n : ℕ). eqb n 1) (and_zero_l y)
both_bits (suc zero) zero h k = ap (λ (n : ℕ). eqb n 1) (and_zero_r 1)
both_bits (suc zero) (suc zero) h k = ap (λ (n : ℕ). eqb n 1) (and_self 1)
both_bits (suc zero) (suc (suc y)) h k = absurd (omega arith)
both_bits (suc (suc x)) y h k = absurd (omega arith)

-- a server is in what two sets have in common where it is in both
pub has_both : (a b v : ℕ) → has (bit_and a b) v ≡ has a v && has b v
unfolding has
has_both a b v =
    ap (λ (n : ℕ). eqb n 1) (ap (λ (n : ℕ). n % 2) (and_shr a b v) ∙ and_mod (a / 2 ^ v) (b / 2 ^ v) 1)
    ∙ both_bits (a / 2 ^ v % 2) (b / 2 ^ v % 2) (mod-lt (a / 2 ^ v) {m = 2} (omega arith)) (mod-lt (b / 2 ^ v) {m = 2} (omega arith))

-- all servers that there can be are in the largest set
pub has_all : (v : ℕ) → v < max_servers → has all_servers v ≡ true
unfolding has every
has_all v l = every_at max_servers (λ u. has all_servers u) refl v l
