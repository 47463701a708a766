-- A field lies within its record: whatever its type, the field that begins at a place is no longer than what is left from there.
-- Every length that a definition answers was compared with what is left, or is 0.
use mathlib.Core.Path.{◌≡◌}
use mathlib.Core.Bool.{Bool, true, false, cond, ◌&&◌}
use mathlib.Core.List.{List}
use Prim.Native.Nat.{ℕ, ◌+◌, ◌-◌, ◌≤◌, ◌<◌}
use native.Mathlib.Omega.{arith}
use borrow.Author.Tests.{ltb-true, ltb-false}
use lib.Dec.{eqb, ltb}
use lib.ListN.{length, get_or}
use Rattle.octets.specs.Numbers.{uint_in}
use Rattle.numbers.specs.declared.OctetOrder.{OctetOrder}
use Rattle.octets.proofs.Stores.{cond_cases}
use Rattle.octets.specs.Each.{every, first_from}
use Rattle.field_types.specs.FieldTypes.{width_of, field_order, boolean_type, string_type, terminated_type, blob_type}
use Rattle.records.specs.Record.{left, fixed_length, blob_length, string_length, terminated_length, field_length}

-- a choice of two lengths
choice : (n : ℕ) (b : Bool) (x y : ℕ) → (b ≡ true → x ≤ n) → (b ≡ false → y ≤ n) → cond b x y ≤ n
choice n = cond_cases (λ (l : ℕ). l ≤ n)

none : (n : ℕ) → 0 ≤ n
none n = omega arith

-- what follows a length of a octets
behind : (n a b at : ℕ) → ltb (n - at) a ≡ false → ltb (n - (at + a)) b ≡ false → a + b ≤ n - at
behind n a b at h k = omega (arith, ltb-false (n - at) a h, ltb-false (n - (at + a)) b k)

-- up to a place of the record, and that place
up_to : (n p at : ℕ) → ltb p n ≡ true → p + 1 - at ≤ n - at
up_to n p at h = omega (arith, ltb-true p n h)

pub fixed_within : (type : ℕ) (r : List ℕ) (at : ℕ) → fixed_length type r at ≤ left r at
unfolding fixed_length
fixed_within type r at =
    choice _ (ltb (left r at) (width_of type)) _ _ (λ e. none _)
    (λ e. choice _ (eqb type boolean_type && ltb 1 (get_or r at 0)) 0 (width_of type) (λ f. none _) (λ f. ltb-false _ _ e))

pub blob_within : (order : OctetOrder) (r : List ℕ) (at : ℕ) → blob_length order r at ≤ left r at
unfolding blob_length
blob_within order r at =
    choice _ _ _ _ (λ e. none _) (λ e. choice _ _ _ _ (λ f. none _) (λ f. behind (length r) 4 (uint_in order r at 4) at e f))

-- a blob has its length in front
pub blob_counts : (order : OctetOrder) (r : List ℕ) (at : ℕ) → 0 < blob_length order r at → 4 ≤ blob_length order r at
unfolding blob_length
blob_counts order r at =
    let n = uint_in order r at 4 in
    cond_cases (λ (n : ℕ). 0 < n → 4 ≤ n) (ltb (left r at) 4) 0 _ (λ e h. omega arith)
    (λ e. cond_cases (λ (n : ℕ). 0 < n → 4 ≤ n) (ltb (left r (at + 4)) n) 0 (4 + n) (λ f h. omega arith) (λ f h. omega arith))

pub string_within : (order : OctetOrder) (r : List ℕ) (at : ℕ) → string_length order r at ≤ left r at
unfolding string_length
string_within order r at =
    choice _ (every (blob_length order r at - 4) (λ i. ltb (get_or r (at + 4 + i) 0) 128)) _ _ (λ e. blob_within order r at) (λ e. none _)

pub terminated_within : (r : List ℕ) (at : ℕ) → terminated_length r at ≤ left r at
unfolding terminated_length
terminated_within r at = choice _ _ _ _ (up_to (length r) (first_from at (left r at) (λ p. eqb (get_or r p 0) 0)) at) (λ e. none _)

pub field_within : (order : OctetOrder) (type : ℕ) (r : List ℕ) (at : ℕ) → field_length order type r at ≤ length r - at
unfolding field_length
field_within order type r at =
    choice _ (ltb 0 (width_of type)) _ _ (λ e. fixed_within type r at)
    (λ e. choice _ (eqb type string_type) _ _ (λ f. string_within (field_order order type) r at)
    (λ f. choice _ (eqb type terminated_type) _ _ (λ g. terminated_within r at)
    (λ g. choice _ (eqb type blob_type) _ _ (λ h. blob_within (field_order order type) r at) (λ h. none _))))
