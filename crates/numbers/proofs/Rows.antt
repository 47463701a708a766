-- Laws of `look_up`: what holds of every row of a table holds of the row with a number. Each goes by the rows in their order.
use mathlib.Core.Path.{◌≡◌, refl, sym, subst}
use mathlib.Core.Bool.{Bool, true, false, cond}
use mathlib.Core.List.{List, [], ◌∷◌}
use Prim.Native.Nat.{ℕ}
use native.Mathlib.Omega.{arith}
use borrow.Author.Tests.{ne_eqb, eqb-true}
use lib.Dec.{eqb}
use Rattle.numbers.proofs.Stores.{cond_cases}
use Rattle.numbers.specs.Each.{look_up}

module _ {R : Type 0} (number : R → ℕ) where
  -- A claim for every row.
  infixr 20 ◌and◌
  pub data EachRow (P : R → Type 0) : List R → Type 0 where
    none : EachRow P []
    ◌and◌ : {row : R} {rows : List R} → P row → EachRow P rows → EachRow P (row ∷ rows)

  -- what holds of every row, and of the value where there is none, holds of what is found
  pub found : {A : Type 0} (P : A → Type 0) (f : R → A) (other : A) (rows : List R) → EachRow (λ r. P (f r)) rows → P other
      → (n : ℕ) → P (look_up number f other rows n)
  found P f other [] none h n = h
  found P f other (row ∷ rows) (p and ps) h n =
      cond_cases P (eqb n (number row)) (f row) (look_up number f other rows n) (λ e. p) (λ e. found P f other rows ps h n)

  by_test : (P : ℕ → Type 0) (n k : ℕ) (b rest : Bool) → eqb n k ≡ b → P k → (rest ≡ true → P n) → cond b true rest ≡ true → P n
  by_test P n k true rest q h next e = subst P (sym (eqb-true n k q)) h
  by_test P n k false rest q h next e = next e

  -- what holds of every row's number holds of every number that a row has
  pub each_row : (P : ℕ → Type 0) (rows : List R) → EachRow (λ r. P (number r)) rows → (n : ℕ)
      → look_up number (λ r. true) false rows n ≡ true → P n
  each_row P [] none n e = let z : ◌≡◌ {A = ℕ} 0 1 = cc in absurd (omega arith)
  each_row P (row ∷ rows) (h and hs) n e =
      by_test P n (number row) (eqb n (number row)) (look_up number (λ r. true) false rows n) refl h (λ q. each_row P rows hs n q) e

  has_test : (b x rest known : Bool) → (rest ≡ true → known ≡ true) → cond b x rest ≡ true → cond b true known ≡ true
  has_test true x rest known next e = refl
  has_test false x rest known next e = next e

  -- where something true is found, a row has the number
  pub has_row : (f : R → Bool) (rows : List R) (n : ℕ) → look_up number f false rows n ≡ true → look_up number (λ r. true) false rows n ≡ true
  has_row f [] n e = e
  has_row f (row ∷ rows) n e =
      has_test (eqb n (number row)) (f row) (look_up number f false rows n) (look_up number (λ r. true) false rows n) (has_row f rows n) e

  -- U holds, and no row has the number n; in the form in which the last arm of a match is told it.
  abbrev pub Others : Type 0 → List R → ℕ → Type 0
  Others U [] n = U
  Others U (r ∷ rows) n = Others (U × (n ≡ number r → ⊥)) rows n

  -- then nothing is found
  pub not_found : {A : Type 0} (U : Type 0) (f : R → A) (other : A) (rows : List R) (n : ℕ) → Others U rows n
      → (look_up number f other rows n ≡ other) × U
  not_found U f other [] n h = (refl, h)
  not_found U f other (r ∷ rows) n h =
      let p = not_found (U × (n ≡ number r → ⊥)) f other rows n h in
      (rw (ne_eqb n (number r) p.1.1) p.0, p.1.0)
