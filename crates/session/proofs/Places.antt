-- Places less than the modulus apart have different sequence numbers, since their distance is no multiple of it. So of the 65 places from
-- the released number on only one has a given DSN, and the search finds it.
use mathlib.Core.Path.{◌≡◌, sym, ap, ◌∙◌}
use mathlib.Core.Logic.{◌≢◌}
use mathlib.Core.Bool.{Bool, true, false, not, cond}
use Prim.Native.Nat.{ℕ, zero, suc, ◌+◌, ◌-◌, ◌*◌, ◌/◌, ◌%◌, ◌≤◌, ◌<◌}
use native.Mathlib.Nat.{div-add-mod', mul-le-mul_right, suc-mul, mod-add-mod, mod-lt, mod-eq_of_lt, add-mul-mod_self_right, add-mod_right}
use native.Mathlib.Nat.{pow-le-pow_right}
use native.Mathlib.Decide.{dec_le, dec_lt}
use native.Mathlib.Omega.{arith}
use lib.Dec.{eqb, ltb}
use borrow.Author.Tests.{eq-eqb, ne_eqb, lt-ltb, le-ltb}
use Rattle.session.specs.Steps.{modulus}
use Rattle.session.specs.History.{dsn_of, place_of}
use Rattle.session.specs.declared.state.Settings.{Settings}

-- ---- remainders

-- two numbers less than m apart have different remainders
pub apart : (m a b : ℕ) → a < b → b < a + m → a % m ≢ b % m
apart m a b h k e = go (dec_le (b / m) (a / m))
  where
    ea : a / m * m + a % m ≡ a
    ea = div-add-mod' a m

    eb : b / m * m + b % m ≡ b
    eb = div-add-mod' b m

    go : Dec (b / m ≤ a / m) → ⊥
    go (yes l) = omega (arith, mul-le-mul_right m l, ea, eb)
    go (no n) =
        let l : suc (a / m) ≤ b / m = omega arith in
        omega (arith, mul-le-mul_right m l, suc-mul (a / m) m, ea, eb)

-- 7 bits tell 65 places apart
pub wide_modulus : (w : ℕ) → 7 ≤ w → 64 < modulus w
wide_modulus w h = omega (arith, pow-le-pow_right {n = 2} (omega arith) h)

-- ---- places and their sequence numbers

module _ (w : ℕ) (p : Settings) (wide : 64 < modulus w) where
  pub dsn_add : (q n : ℕ) → (dsn_of w p q + n) % modulus w ≡ dsn_of w p (q + n)
  unfolding dsn_of
  dsn_add q n =
      let e : p.initial + q + (modulus w - 1) + n ≡ p.initial + (q + n) + (modulus w - 1) = omega arith in
      mod-add-mod _ _ n ∙ ap (λ (k : ℕ). k % modulus w) e

  -- the first place has the initial number
  pub dsn_first : p.initial < modulus w → p.initial ≡ dsn_of w p 1
  unfolding dsn_of
  dsn_first h =
      let e : p.initial + 1 + (modulus w - 1) ≡ p.initial + modulus w = omega arith in
      sym (ap (λ (k : ℕ). k % modulus w) e ∙ add-mod_right p.initial (modulus w) ∙ mod-eq_of_lt h)

  -- places less than the modulus apart with the same number are the same
  pub one_place : (q k : ℕ) → q < k + modulus w → k < q + modulus w → dsn_of w p q ≡ dsn_of w p k → q ≡ k
  unfolding dsn_of
  one_place q k lo hi x = go (dec_lt q k) (dec_lt k q)
    where
      f : ℕ → ℕ
      f n = p.initial + n + (modulus w - 1)

      go : Dec (q < k) → Dec (k < q) → q ≡ k
      go (yes l) g = absurd (apart (modulus w) (f q) (f k) (omega arith) (omega arith) x)
      go (no l) (yes g) = absurd (apart (modulus w) (f k) (f q) (omega arith) (omega arith) (sym x))
      go (no l) (no g) = omega arith

  -- counted back from the place behind the held ones
  pub dsn_back : (R count : ℕ) → count ≤ 64 → (dsn_of w p (R + count + 1) + (modulus w - count)) % modulus w ≡ dsn_of w p (R + 1)
  unfolding dsn_of
  dsn_back R count h =
      let e : p.initial + (R + count + 1 + (modulus w - count)) + (modulus w - 1) ≡ p.initial + (R + 1) + (modulus w - 1) + modulus w =
      omega arith in
      dsn_add (R + count + 1) (modulus w - count) ∙ ap (λ (k : ℕ). k % modulus w) e
      ∙ add-mod_right (p.initial + (R + 1) + (modulus w - 1)) (modulus w)

  -- d is the number of the place that lies d minus the first held number plus 1 behind R
  pub dsn_ack : (R d : ℕ) → d < modulus w → dsn_of w p (R + (d + (modulus w - dsn_of w p (R + 1)) + 1) % modulus w) ≡ d
  unfolding dsn_of
  dsn_ack R d h =
      let m : ℕ = modulus w in
      let x : ℕ = p.initial + (R + 1) + (m - 1) in
      let y : ℕ = d + (m - x % m) + 1 in
      let z : ℕ = p.initial + (R + y % m) + (m - 1) in
      let e : z + y / m * m ≡ d + suc (x / m) * m =
      omega (arith, div-add-mod' x m, div-add-mod' y m, suc-mul (x / m) m, mod-lt x {m = m} (omega arith)) in
      sym (add-mul-mod_self_right z (y / m) m) ∙ ap (λ (k : ℕ). k % m) e ∙ add-mul-mod_self_right d (suc (x / m)) m ∙ mod-eq_of_lt h

  -- a place that is looked for is one of the n + 1
  pub place_range : (n q d : ℕ) → (q ≤ place_of w p n q d) × (place_of w p n q d ≤ q + n)
  unfolding place_of
  place_range zero q d = (omega arith, omega arith)
  place_range (suc n) q d = go (eqb (dsn_of w p q) d) (place_range n (q + 1) d)
    where
      go : (b : Bool) → (q + 1 ≤ place_of w p n (q + 1) d) × (place_of w p n (q + 1) d ≤ q + 1 + n)
          → (q ≤ cond b q (place_of w p n (q + 1) d)) × (cond b q (place_of w p n (q + 1) d) ≤ q + suc n)
      go true r = (omega arith, omega arith)
      go false r = (omega arith, omega arith)

  -- the place k behind q that has the number is found, for the places before it have others
  pub place_found : (n q k d : ℕ) → k ≤ n → k < modulus w → dsn_of w p (q + k) ≡ d → place_of w p n q d ≡ q + k
  unfolding place_of
  place_found zero q zero d h l e = omega arith
  place_found zero q (suc k) d h l e = omega arith
  place_found (suc n) q zero d h l e =
      let z : q + 0 ≡ q = omega arith in
      rw (eq-eqb (dsn_of w p q) d (rw z at e)) (sym z)
  place_found (suc n) q (suc k) d h l e =
      let z : q + suc k ≡ q + 1 + k = omega arith in
      let here : dsn_of w p q ≢ d = λ x. let y : q ≡ q + suc k = one_place q (q + suc k) (omega arith) (omega arith) (x ∙ sym e) in
      omega arith in
      rw (ne_eqb (dsn_of w p q) d here) (place_found n (q + 1) k d (omega arith) (omega arith) (rw z at e) ∙ sym z)

  -- a number is that of one of the first n places from R on exactly where it lies at most n behind R
  pub reached_test : (n R k d : ℕ) → n ≤ 64 → k < modulus w → dsn_of w p (R + k) ≡ d → ltb n k ≡ not (eqb (dsn_of w p (place_of w p n R d)) d)
  reached_test n R k d h l e = go (dec_le k n)
    where
      go : Dec (k ≤ n) → ltb n k ≡ not (eqb (dsn_of w p (place_of w p n R d)) d)
      go (yes a) = rw (le-ltb n k a, place_found n R k d a l e, eq-eqb (dsn_of w p (R + k)) d e)
      go (no a) =
          let r = place_range n R d in
          let other : dsn_of w p (place_of w p n R d) ≢ d =
          λ x. let y : place_of w p n R d ≡ R + k = one_place (place_of w p n R d) (R + k) (omega arith) (omega arith) (x ∙ sym e) in
          omega arith in
          rw (lt-ltb n k (omega arith), ne_eqb (dsn_of w p (place_of w p n R d)) d other)
