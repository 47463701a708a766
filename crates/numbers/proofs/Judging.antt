-- Laws of judging: what an answer of 0 says of the checks, one list of checks behind another, which numbers an answer can have, and the
-- number of what a call answers.
-- Each goes by the checks in their order, or by whether the answer is 0.
use mathlib.Core.Path.{◌≡◌, refl, sym, ap, ◌∙◌}
use mathlib.Core.Bool.{Bool, true, false, cond, not, ◌&&◌}
use mathlib.Core.List.{List, [], ◌∷◌, ◌++◌}
use Prim.Native.Nat.{ℕ, zero, suc, ◌≤◌}
use native.Mathlib.Omega.{arith}
use borrow.Author.Rules.{rules}
use borrow.Author.Tests.{lt-ltb, le-ltb, le-leb, lt-leb, eq-eqb, ne_eqb, eqb-true, eqb-false, leb-true, not-true}
use lib.Dec.{eqb, leb}
use Rattle.std.specs.Prelude.{Result, Ok, Err, IsErrAnd}
use Rattle.numbers.proofs.Each.{and_left, and_right, every_at}
use Rattle.numbers.specs.Each.{every}
use Rattle.numbers.specs.Answers.{Check, ◌when◌, judge, done, Answered, refusal_number, refusal_of, judged, answer_number}
use Rattle.numbers.specs.declared.refusal.Refusal.{Refusal}

-- what a search for a return needs: the value of each test on the way
pub ruleset tests = (lt-ltb, le-ltb, le-leb, lt-leb, eq-eqb, ne_eqb, rules)

-- No refusal has the number 0.
abbrev pub Refusals : List Check → Type 0
Refusals [] = Unit {0}
Refusals ((zero when test) ∷ checks) = ⊥
Refusals ((suc n when test) ∷ checks) = Refusals checks

-- No test holds.
abbrev pub Passed : List Check → Type 0
Passed [] = Unit {0}
Passed ((number when test) ∷ checks) = (test ≡ false) × Passed checks

-- where the answer is 0, no test holds
pub passed : (checks : List Check) → Refusals checks → judge checks ≡ done → Passed checks
passed [] r e = tt
passed ((zero when test) ∷ checks) r e = absurd r
passed ((suc n when true) ∷ checks) r e = absurd (omega arith)
passed ((suc n when false) ∷ checks) r e = (refl, passed checks r e)

-- where no test holds, the answer is 0
pub judged_done : (checks : List Check) → Passed checks → judge checks ≡ done
judged_done [] p = refl
judged_done ((number when test) ∷ checks) p = rw p.0 (judged_done checks p.1)

-- where the first list refuses, its answer stays
pub judged_first : (checks more : List Check) → (judge checks ≡ done → ⊥) → judge (checks ++ more) ≡ judge checks
judged_first [] more h = absurd (h refl)
judged_first ((number when true) ∷ checks) more h = refl
judged_first ((number when false) ∷ checks) more h = judged_first checks more h

-- where it does not, the second list judges
pub judged_next : (checks more : List Check) → Refusals checks → judge checks ≡ done → judge (checks ++ more) ≡ judge more
judged_next [] more r e = refl
judged_next ((zero when test) ∷ checks) more r e = absurd r
judged_next ((suc n when true) ∷ checks) more r e = absurd (omega arith)
judged_next ((suc n when false) ∷ checks) more r e = judged_next checks more r e

-- No check has this number, and it is not 0.
abbrev pub others : ℕ → List Check → Bool
others n [] = not (eqb done n)
others n ((a when b) ∷ cs) = not (eqb a n) && others n cs

-- an answer is none but the checks' numbers and 0
pub judge_other : (n : ℕ) (cs : List Check) → others n cs ≡ true → eqb (judge cs) n ≡ false
judge_other n [] e = not-true (eqb done n) e
judge_other n ((a when true) ∷ cs) e = not-true (eqb a n) (and_left (not (eqb a n)) (others n cs) e)
judge_other n ((a when false) ∷ cs) e = judge_other n cs (and_right (not (eqb a n)) (others n cs) e)

-- The checks' numbers lie between two.
abbrev pub numbered : ℕ → ℕ → List Check → Bool
numbered lo hi [] = true
numbered lo hi ((a when b) ∷ cs) = leb lo a && leb a hi && numbered lo hi cs

-- so a refusal lies between them
pub judge_numbered : (lo hi : ℕ) (cs : List Check) → numbered lo hi cs ≡ true → (judge cs ≡ done → ⊥) → (lo ≤ judge cs) × (judge cs ≤ hi)
judge_numbered lo hi [] e n = absurd (n refl)
judge_numbered lo hi ((a when true) ∷ cs) e n =
    let x = and_left (leb lo a && leb a hi) (numbered lo hi cs) e in
    (leb-true lo a (and_left (leb lo a) (leb a hi) x), leb-true a hi (and_right (leb lo a) (leb a hi) x))
judge_numbered lo hi ((a when false) ∷ cs) e n = judge_numbered lo hi cs (and_right (leb lo a && leb a hi) (numbered lo hi cs) e) n

-- the number of an answer that was made from a judged number is that number
pub kept : {A : Type 0} (number : A → ℕ) (ok : A) (refusal : ℕ → A) → number ok ≡ done → ((a : ℕ) → number (refusal a) ≡ a)
    → (a : ℕ) → number (cond (eqb a done) ok (refusal a)) ≡ a
kept number ok refusal o n a = go (eqb a done) refl
  where
    go : (b : Bool) → eqb a done ≡ b → number (cond b ok (refusal a)) ≡ a
    go true q = o ∙ sym (eqb-true a done q)
    go false q = n a

-- An answer that equals the one that a definition gives has that one's number.
pub answered : {R : Type 0} {number_in : R → ℕ} {result expected : R} {judged : ℕ} → number_in expected ≡ judged → result ≡ expected
    → Answered number_in result expected judged
answered {number_in = number_in} n e = record { same = e; number = ap number_in e ∙ n }

-- The same, with what is promised beside it.
pub answered_with_lem : {R : Type 0} {number_in : R → ℕ} {result expected : R} {judged : ℕ} {P : Type 0} → number_in expected ≡ judged
    → (result ≡ expected) × P → Answered number_in result expected judged × P
answered_with_lem n e = (answered n e.0, e.1)

-- ---- what a call answers

-- each number of a refusal is that of the refusal which has it
pub refusal_numbered : (n : ℕ) → n ≤ 22 → (n ≡ done → ⊥) → refusal_number (refusal_of n) ≡ n
unfolding refusal_of every
refusal_numbered zero l h = absurd (h refl)
refusal_numbered (suc n) l h =
    eqb-true (refusal_number (refusal_of (suc n))) (suc n)
    (every_at 22 (λ i. eqb (refusal_number (refusal_of (suc i))) (suc i)) refl n (omega arith))

-- the number of what a call answers that is judged by a number is that number
pub judged_number : {A : Type 0} (n : ℕ) (value : A) → n ≤ 22 → answer_number (judged n value) ≡ n
unfolding judged
judged_number n value l = go (eqb n done) refl
  where
    go : (b : Bool) → eqb n done ≡ b → answer_number (cond b (Ok value) (Err (refusal_of n))) ≡ n
    go true e = sym (eqb-true n done e)
    go false e = refusal_numbered n l (λ z. absurd (omega (arith, eqb-false n done e)))

-- an answer that is judged by checks has the number that they are judged by
pub judged_answered : {A : Type 0} {result : Result A Refusal} (value : A) (cs : List Check) → numbered 1 22 cs ≡ true
    → result ≡ judged (judge cs) value → Answered answer_number result (judged (judge cs) value) (judge cs)
judged_answered value cs h e = answered (judged_number (judge cs) value (go (eqb (judge cs) done) refl)) e
  where
    go : (b : Bool) → eqb (judge cs) done ≡ b → judge cs ≤ 22
    go true q = let z = eqb-true (judge cs) done q in omega arith
    go false q = (judge_numbered 1 22 cs h (eqb-false (judge cs) done q)).1

-- what is answered with a value was judged `done`
pub judged_ok : {A : Type 0} (n : ℕ) (value : A) {found : A} → judged n value ≡ Ok found → n ≡ done
unfolding judged
judged_ok n value {found = found} e = go (eqb n done) refl e
  where
    go : (b : Bool) → eqb n done ≡ b → cond b (Ok value) (Err (refusal_of n)) ≡ Ok found → n ≡ done
    go true q w = eqb-true n done q
    go false q w = absurd (search rules)

-- a refusal by a number stays it whatever the value would be
pub judged_err : {A B : Type 0} (n : ℕ) (value : A) (other : B) {refusal : Refusal} → judged n value ≡ Err refusal
    → judged n other ≡ Err refusal
unfolding judged
judged_err n value other {refusal = refusal} e = go (eqb n done) refl e
  where
    go : (b : Bool) → eqb n done ≡ b → cond b (Ok value) (Err (refusal_of n)) ≡ Err refusal
        → cond b (Ok other) (Err (refusal_of n)) ≡ Err refusal
    go true q w = absurd (search rules)
    go false q w = search rules

-- a refusal that `?` hands on is the one that was answered
pub handed_on : {A : Type 0} {refusal : Refusal} {result : Result A Refusal} → IsErrAnd result (λ r. r ≡ refusal) → result ≡ Err refusal
handed_on {result = Ok value} e = absurd (search rules)
handed_on {result = Err r} e = cc
