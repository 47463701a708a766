-- A field of a fixed width has its length under every table. A field that is due is valid exactly if its length is above 0, and lies within
-- the record; `fields_valid` cites this at each key.
use mathlib.Core.Path.{◌≡◌, refl}
use mathlib.Core.Bool.{Bool, true, false, not, ◌&&◌, ◌||◌, false≢true}
use mathlib.Core.List.{List}
use Prim.Native.Nat.{ℕ, zero, suc, ◌+◌, ◌-◌, ◌≤◌, ◌<◌}
use native.Mathlib.Numerals.{add-one}
use native.Mathlib.Omega.{arith}
use borrow.Author.Tests.{lt-ltb, eqb-true, eqb-false}
use lib.Dec.{eqb, ltb}
use lib.ListN.{length}
use Rattle.octets.proofs.Stores.{cond_cases}
use Rattle.tables.specs.Table.{table_order, key_at, key_type, is_enabled}
use Rattle.numbers.specs.declared.OctetOrder.{OctetOrder}
use Rattle.field_types.specs.FieldTypes.{width_of}
use Rattle.records.specs.Record.{fixed_length, field_length, length_under, field_at}
use Rattle.tables.specs.declared.table.Template.{Template}
use Rattle.records.proofs.FieldsWithin.{field_within}

-- a field of a fixed width has its length under a table of any order
pub fixed_length_lem : (order : OctetOrder) (type : ℕ) (r : List ℕ) (at : ℕ) → 0 < width_of type
    → fixed_length type r at ≡ field_length order type r at
unfolding field_length
fixed_length_lem order type r at some = rw (lt-ltb 0 (width_of type) some)

-- a field that is due is valid unless its length is 0
pub valid_field : (due : Bool) (n : ℕ) → due && eqb n 0 ≡ false → not due || ltb 0 n ≡ true
valid_field true n e = let h : 0 < n = positive n (eqb-false n 0 e) in lt-ltb 0 n h
  where
    positive : (n : ℕ) → (n ≡ 0 → ⊥) → 0 < n
    positive zero h = absurd (h refl)
    positive (suc n) h = omega arith
valid_field false n e = refl

pub invalid_field : (due : Bool) (n : ℕ) → due && eqb n 0 ≡ true → not due || ltb 0 n ≡ false
invalid_field true n e = let h : n ≡ 0 = eqb-true n 0 e in rw h
invalid_field false n e = absurd (false≢true e)

pub field_at_more : (t : List ℕ) (m : Template) (r : List ℕ) (k : ℕ)
    → field_at t m r (k + 1) ≡ field_at t m r k + length_under t m r k (field_at t m r k)
unfolding field_at
field_at_more t m r k = rw add-one refl

-- a key's field lies within the record
pub under_within : (t : List ℕ) (m : Template) (r : List ℕ) (k at : ℕ) → length_under t m r k at ≤ length r - at
under_within t m r k at =
    let type = key_type t (key_at m.keys k) in
    cond_cases (λ (n : ℕ). n ≤ length r - at) (is_enabled t (key_at m.keys k)) (field_length (table_order t) type r at) 0
    (λ e. field_within (table_order t) type r at) (λ e. omega arith)
