-- Laws of Booleans and clauses, of `every` and of `first_from`, which every loop's proof cites. What every number below a bound passes goes
-- by induction on the bound.
use mathlib.Core.Path.{◌≡◌, refl, sym, ap, ◌∙◌}
use mathlib.Core.Bool.{Bool, true, false, ◌&&◌, false≢true, cond, not}
use Prim.Native.Nat.{ℕ, zero, suc, ◌+◌, ◌≤◌, ◌<◌, ◌-◌}
use native.Mathlib.Nat.{not-suc-le-zero, le_refl}
use native.Mathlib.Numerals.{add-one}
use native.Mathlib.Omega.{arith}
use borrow.Author.Tests.{ltb-true, ltb-false}
use lib.Dec.{ltb}
use lib.ListN.{length, get_or}
use mathlib.Core.List.{List, [], ◌∷◌}
use Rattle.std.specs.List.{list_all}
use Rattle.numbers.specs.Each.{every, first_from}
use Rattle.numbers.proofs.Stores.{cond_cases}

-- ---- both of two

pub and_left : (a b : Bool) → a && b ≡ true → a ≡ true
and_left true b e = refl
and_left false b e = e

pub and_right : (a b : Bool) → a && b ≡ true → b ≡ true
and_right true b e = e
and_right false b e = absurd (false≢true e)

-- ---- every

-- one number more
pub every_more : (n : ℕ) (p : ℕ → Bool) → every (n + 1) p ≡ every n p && p n
unfolding every
every_more n p = rw add-one refl

-- what every number below n passes, each does
pub every_at : (n : ℕ) (p : ℕ → Bool) → every n p ≡ true → (i : ℕ) → i < n → p i ≡ true
unfolding every
every_at zero p e i l = absurd (not-suc-le-zero l)
every_at (suc n) p e i l = go (ltb i n) refl (λ k. every_at n p (and_left (every n p) (p n) e) i k)
  where
    go : (b : Bool) → ltb i n ≡ b → (i < n → p i ≡ true) → p i ≡ true
    go true t below = below (ltb-true i n t)
    go false t below =
        let q : n ≡ i = omega (arith, ltb-false i n t) in
        ap p (sym q) ∙ and_right (every n p) (p n) e

-- what each number below n passes, every one does
pub every_intro : (n : ℕ) (p : ℕ → Bool) → ((i : ℕ) → i < n → p i ≡ true) → every n p ≡ true
unfolding every
every_intro zero p h = refl
every_intro (suc n) p h = rw (every_intro n p (λ i l. h i (omega arith))) (h n (le_refl (suc n)))

-- one number that fails
pub every_false : (n : ℕ) (p : ℕ → Bool) (i : ℕ) → i < n → p i ≡ false → every n p ≡ false
every_false n p i l e = go (every n p) refl
  where
    go : (b : Bool) → every n p ≡ b → every n p ≡ false
    go true t = absurd (false≢true (sym e ∙ every_at n p t i l))
    go false t = t

-- what all pass up to i, and i passes
pub every_step : (i : ℕ) (p : ℕ → Bool) → every i p ≡ true → p i ≡ true → every (i + 1) p ≡ true
every_step i p h e = every_more i p ∙ ap (λ (b : Bool). b && p i) h ∙ e

-- tests that agree below n
pub every_same : (n : ℕ) (p q : ℕ → Bool) → ((i : ℕ) → i < n → p i ≡ q i) → every n p ≡ every n q
unfolding every
every_same zero p q h = refl
every_same (suc n) p q h = rw (every_same n p q (λ i l. h i (omega arith)), h n (le_refl (suc n)))

-- fewer numbers
pub every_fewer : (n : ℕ) (p : ℕ → Bool) → every n p ≡ true → (m : ℕ) → m ≤ n → every m p ≡ true
unfolding every
every_fewer n p e zero l = refl
every_fewer n p e (suc m) l = rw (every_fewer n p e m (omega arith)) (every_at n p e m l)

-- where all from m on pass, the first m decide
pub every_enough : (n m : ℕ) (p : ℕ → Bool) → m ≤ n → ((i : ℕ) → m ≤ i → i < n → p i ≡ true) → every n p ≡ every m p
every_enough n m p l h = go (every m p) refl
  where
    go : (b : Bool) → every m p ≡ b → every n p ≡ b
    go true t = every_intro n p (λ i k. each i k (ltb i m) refl)
      where
        each : (i : ℕ) → i < n → (b : Bool) → ltb i m ≡ b → p i ≡ true
        each i k true e = every_at m p t i (ltb-true i m e)
        each i k false e = h i (ltb-false i m e) k
    go false t = none (every n p) refl
      where
        none : (b : Bool) → every n p ≡ b → b ≡ false
        none true e = absurd (false≢true (sym t ∙ every_fewer n p e m l))
        none false e = refl

-- the first number apart from the others
pub every_front : (n : ℕ) (p : ℕ → Bool) → every (suc n) p ≡ p 0 && every n (λ i. p (suc i))
unfolding every
every_front zero p = go (p 0)
  where
    go : (b : Bool) → true && b ≡ b && true
    go true = refl
    go false = refl
every_front (suc n) p = ap (λ (b : Bool). b && p (suc n)) (every_front n p) ∙ go (p 0)
  where
    go : (b : Bool) → b && every n (λ i. p (suc i)) && p (suc n) ≡ b && (every n (λ i. p (suc i)) && p (suc n))
    go true = refl
    go false = refl

-- every element of a list, by its place
pub every_listed : (p : ℕ → Bool) (xs : List ℕ) → list_all p xs ≡ every (length xs) (λ i. p (get_or xs i 0))
unfolding every
every_listed p [] = refl
every_listed p (x ∷ xs) = ap (λ (b : Bool). p x && b) (every_listed p xs) ∙ sym (every_front (length xs) (λ i. p (get_or (x ∷ xs) i 0)))

-- ---- bools

pub and_false : (a : Bool) → a && false ≡ false
and_false true = refl
and_false false = refl

pub cond_same : {A : Type 0} (b : Bool) (x : A) → cond b x x ≡ x
cond_same true x = refl
cond_same false x = refl

-- the first of some clauses that all hold, the others, and the last alone
pub clause_first : (a rest : Bool) → cond a rest false ≡ true → a ≡ true
clause_first true rest e = refl
clause_first false rest e = e

pub clause_rest : (a rest : Bool) → cond a rest false ≡ true → rest ≡ true
clause_rest true rest e = e
clause_rest false rest e = absurd (false≢true e)

pub clause_last : (a : Bool) → cond a true false ≡ a
clause_last true = refl
clause_last false = refl

-- two bools that are equal, as a bool, so that equality is computed
abbrev pub same : Bool → Bool → Bool
same a b = cond a b (not b)

pub same_true : (a b : Bool) → same a b ≡ true → a ≡ b
same_true true b e = sym e
same_true false true e = absurd (false≢true e)
same_true false false e = refl

-- ---- the first that passes

-- it is here
pub first_here : (i n : ℕ) (p : ℕ → Bool) → 0 < n → p i ≡ true → first_from i n p ≡ i
unfolding first_from
first_here i zero p h e = absurd (not-suc-le-zero h)
first_here i (suc n) p h e = rw e

-- it is further on
pub first_on : (i n : ℕ) (p : ℕ → Bool) → 0 < n → p i ≡ false → first_from i n p ≡ first_from (i + 1) (n - 1) p
unfolding first_from
first_on i zero p h e = absurd (not-suc-le-zero h)
first_on i (suc n) p h e =
    let k : n ≡ suc n - 1 = omega arith in
    rw e (ap (λ (k : ℕ). first_from (i + 1) k p) k)

-- none is left
pub first_none : (i n : ℕ) (p : ℕ → Bool) → n ≤ 0 → first_from i n p ≡ i
unfolding first_from
first_none i zero p h = refl
first_none i (suc n) p h = absurd (not-suc-le-zero h)

-- it is not before the start
pub first_least : (i n : ℕ) (p : ℕ → Bool) → i ≤ first_from i n p
unfolding first_from
first_least i zero p = le_refl i
first_least i (suc n) p =
    cond_cases (λ (k : ℕ). i ≤ k) (p i) i (first_from (i + 1) n p) (λ e. le_refl i) (λ e. omega (arith, first_least (i + 1) n p))

-- ---- tables of examples

-- What one row says, and those behind it.
infixr 20 ◌and◌
pub ◌and◌ : {A B : Type 0} → A → B → A × B
row and rest = (row, rest)
