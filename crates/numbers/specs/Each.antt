-- Tests of every number below a bound, the first number that passes a test, numbers that differ, a list of clauses, and a table's row by
-- its number.
use Rattle.std.specs.Prelude.{ℕ, zero, suc, ◌+◌, Bool, true, false, cond, not, ◌&&◌, List, [], ◌∷◌, eqb}

-- Every number below n passes.
unfoldable pub every : ℕ → (ℕ → Bool) → Bool
every zero test = true
every (suc n) test = every n test && test n

-- The first of the n numbers from i on that passes, or i + n where none does.
unfoldable pub first_from : ℕ → ℕ → (ℕ → Bool) → ℕ
first_from i zero test = i
first_from i (suc n) test = cond (test i) i (first_from (i + 1) n test)

-- None of the first n of a sequence of numbers is x.
abbrev pub absent : (ℕ → ℕ) → ℕ → ℕ → Bool
absent ids n x = every n (λ j. not (eqb (ids j) x))

-- No two of the first n are equal.
abbrev pub differ : (ℕ → ℕ) → ℕ → Bool
differ ids n = every n (λ k. absent ids k (ids k))

-- All clauses of a list hold.
abbrev pub all_of : List Bool → Bool
all_of [] = true
all_of (clause ∷ clauses) = cond clause (all_of clauses) false

-- What f gives of the first row of a table that has a number, or `other` where none has it.
abbrev pub look_up : {R A : Type 0} → (R → ℕ) → (R → A) → A → List R → ℕ → A
look_up number f other [] n = other
look_up number f other (r ∷ rs) n = cond (eqb n (number r)) (f r) (look_up number f other rs n)
