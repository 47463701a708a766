-- Laws of the parts of a tape, and of its soundness. A part ends no further on than the tape and is made of its octets; a tape is judged
-- by five tests, one after the other.
use mathlib.Core.Path.{◌≡◌, refl, sym, ap, ◌∙◌}
use mathlib.Core.Bool.{Bool, true, false, not, cond, ◌&&◌}
use mathlib.Core.List.{List, [], ◌∷◌}
use Prim.Native.Nat.{ℕ, zero, suc, ◌+◌, ◌-◌, ◌≤◌}
use native.Mathlib.Omega.{arith}
use lib.ListN.{length, take, drop, length-take, length-drop, drop_of_length-le}
use lib.Seq.{take_all, take-nil}
use Rattle.octets.specs.Answers.{done, unsound_tape}
use Rattle.octets.specs.Numbers.{Octets}
use Rattle.octets.specs.Each.{all_of}
use Rattle.octets.proofs.Stores.{take_rest}
use Rattle.contents.specs.Tape.{octets_at}
use Rattle.contents.specs.Tape.{tape_sound, tape_answer}

-- from a place past the end on nothing is left
pub part_past : (s : List ℕ) (at n : ℕ) → length s ≤ at → take (length s - length s) (drop (length s) s) ≡ take n (drop at s)
part_past s at n h =
    take_rest s (length s)
    ∙ drop_of_length-le s {i = length s} (omega arith)
    ∙ sym (ap (take n) (drop_of_length-le s h) ∙ take-nil n)

-- where n is no less than what is left, all of it is taken
pub part_rest : (s : List ℕ) (at n : ℕ) → length s - at ≤ n → take (length s - at) (drop at s) ≡ take n (drop at s)
part_rest s at n h = take_rest s at ∙ sym (take_all n (drop at s) (omega (arith, length-drop at s)))

-- five clauses all hold where their conjunction does
pub five_clauses : (a b c d e : Bool) → all_of (a ∷ b ∷ c ∷ d ∷ e ∷ []) ≡ (((a && b) && c) && d) && e
five_clauses false b c d e = refl
five_clauses true false c d e = refl
five_clauses true true false d e = refl
five_clauses true true true false e = refl
five_clauses true true true true false = refl
five_clauses true true true true true = refl

-- what the answer says of a tape
pub refused_unsound : (t : List ℕ) (a : ℕ) → a ≡ tape_answer t → (a ≡ done → ⊥) → tape_sound t ≡ false
refused_unsound t a e h = go (tape_sound t) (λ f. h (e ∙ f))
  where
    go : (b : Bool) → (cond (not b) unsound_tape done ≡ done → ⊥) → b ≡ false
    go true h = absurd (h refl)
    go false h = refl

pub done_sound : (t : List ℕ) (a : ℕ) → a ≡ tape_answer t → a ≡ done → tape_sound t ≡ true
done_sound t a e f = go (tape_sound t) (sym e ∙ f)
  where
    go : (b : Bool) → cond (not b) unsound_tape done ≡ done → b ≡ true
    go true h = refl
    go false h = absurd (omega arith)

-- a part ends no further on than its place and the tape's end
pub part_end : (t : List ℕ) (at n m : ℕ) → at ≤ m → length t ≤ m → at + length (octets_at t at n) ≤ m
unfolding octets_at
part_end t at n m h k = omega (arith, length-take n (drop at t), length-drop at t)

-- ---- a part of octets is octets

octets_take : (s : List ℕ) → Octets s → (n : ℕ) → Octets (take n s)
octets_take s h zero i = omega arith
octets_take [] h (suc n) i = omega arith
octets_take (x ∷ s) h (suc n) zero = h 0
octets_take (x ∷ s) h (suc n) (suc i) = octets_take s (λ j. h (suc j)) n i

octets_drop : (s : List ℕ) → Octets s → (at : ℕ) → Octets (drop at s)
octets_drop s h zero i = h i
octets_drop [] h (suc at) i = omega arith
octets_drop (x ∷ s) h (suc at) i = octets_drop s (λ j. h (suc j)) at i

pub octets_part : (t : List ℕ) → Octets t → (at n : ℕ) → Octets (octets_at t at n)
unfolding octets_at
octets_part t h at n = octets_take (drop at t) (octets_drop t h at) n
