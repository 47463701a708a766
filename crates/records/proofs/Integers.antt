-- Laws of exact values: the integer that a field's value says is the one in its octets. The highest bit of the most significant octet says
-- whether the number reaches half of 256 to the width.
use mathlib.Core.Path.{◌≡◌, refl, sym, ap, ◌∙◌}
use mathlib.Core.Bool.{Bool, true, false, cond}
use mathlib.Core.List.{List}
use mathlib.Core.Option.{none, some}
use Prim.Native.Nat.{ℕ, zero, suc, ◌+◌, ◌-◌, ◌*◌, ◌^◌, ◌≤◌, ◌<◌}
use native.Mathlib.Nat.{add-zero, pow-suc, mul-le-mul_right}
use native.Mathlib.Omega.{arith}
use borrow.Author.Tests.{le-ltb, lt-ltb, leb-true, leb-false}
use lib.Dec.{eqb, leb, ltb}
use lib.IntN.{pos, neg_ℤ, sub_ℕ}
use lib.ListN.{get_or}
use Rattle.std.specs.Prelude.{Ok, Err, Some, None}
use Rattle.octets.specs.Answers.{done, answer_number, refusal_of, Answered}
use Rattle.octets.specs.Numbers.{place_in, uint_in, Octets}
use Rattle.numbers.specs.declared.OctetOrder.{OctetOrder}
use Rattle.numbers.specs.declared.OctetOrder.TheVariants.{BigEndian, LittleEndian}
use Rattle.octets.proofs.Numbers.{high_at, low_at, uint_in_within, uint_in_join, uint_in_one}
use Rattle.octets.proofs.Judging.{answered}
use Rattle.field_types.specs.FieldTypes.{width_of, is_number, is_signed, field_order}
use Rattle.field_types.proofs.TypeFacts.{number_width, signed_number}
use Rattle.tables.specs.Table.{table_order, key_at, key_type, template_of, find_answer}
use Rattle.tables.specs.declared.table.Template.{Template}
use Rattle.records.specs.Record.{field_length}
use Rattle.records.specs.Walk.{signed_at, value_at, integer_of, twos_complement_at, integer_at, field_of, next_key, step_under, step_judged}
use Rattle.records.specs.Walk.{step_of, Exact}
use Rattle.records.specs.declared.walk.Value.TheVariants as value
use Rattle.records.specs.declared.walk.Cursor.{Cursor}
use Rattle.records.specs.Step.{Step}
use Rattle.numbers.specs.declared.refusal.Refusal.TheVariants.{RecordInvalid}
use Rattle.records.proofs.WalkLaws.{step_number}

-- minus k is a difference of which the second is larger by k
minus : (k a b : ℕ) → a + k ≡ b → 0 < k → neg_ℤ (pos k) ≡ sub_ℕ a b
minus k a b e h =
    let n : k ≡ suc (b - suc a) = omega arith in
    rw (lt-ltb a b (omega arith)) (ap (λ (i : ℕ). neg_ℤ (pos i)) n)

-- the w + 1 octets at a place that are below 256
module _ (r : List ℕ) (at w : ℕ) (octet : (i : ℕ) → i < suc w → get_or r (at + i) 0 < 256) where
  -- the most significant of them
  abbrev high : OctetOrder → ℕ
  high order = get_or r (at + place_in order (suc w) 0) 0

  high_octet : (order : OctetOrder) → high order ≡ get_or r (high_at order at w) 0
  high_octet BigEndian = ap (λ (k : ℕ). get_or r k 0) (add-zero at)
  high_octet LittleEndian = ap (λ (k : ℕ). get_or r (at + k) 0) (omega arith)

  -- the others
  low_octets : (order : OctetOrder) (i : ℕ) → i < w → get_or r (low_at order at 1 + i) 0 < 256
  low_octets BigEndian i l = let e : at + 1 + i ≡ at + suc i = omega arith in rw e (octet (suc i) (omega arith))
  low_octets LittleEndian i l = octet i (omega arith)

  -- the most significant one weighs 256 to the w, and the others make less than that
  high_weighs : (order : OctetOrder)
      → (uint_in order r at (suc w) ≡ high order * 256 ^ w + uint_in order r (low_at order at 1) w)
      × (uint_in order r (low_at order at 1) w < 256 ^ w)
  high_weighs order =
      let n : suc w ≡ 1 + w = omega arith in
      let low = uint_in order r (low_at order at 1) w in (
        ap (uint_in order r at) n
            ∙ uint_in_join order r at 1 w
            ∙ ap (λ (a : ℕ). a * 256 ^ w + low) (uint_in_one order r (high_at order at w) ∙ sym (high_octet order)),
        uint_in_within order r (low_at order at 1) w (low_octets order),
      )

  -- so its highest bit is set from half on
  half_set : (order : OctetOrder) → leb 128 (high order) ≡ true → 256 ^ suc w ≤ 2 * uint_in order r at (suc w)
  half_set order e = omega (arith, high_weighs order, pow-suc 256 w, mul-le-mul_right (256 ^ w) (leb-true 128 (high order) e))

  half_clear : (order : OctetOrder) → leb 128 (high order) ≡ false → 2 * uint_in order r at (suc w) < 256 ^ suc w
  half_clear order e =
      let a : high order ≤ 127 = omega (arith, leb-false 128 (high order) e) in
      omega (arith, high_weighs order, pow-suc 256 w, mul-le-mul_right (256 ^ w) a)

  -- a signed value is the two's complement of its octets
  signed_exact : (order : OctetOrder) → integer_of (signed_at order r at (suc w)) ≡ some (twos_complement_at order r at (suc w))
  unfolding signed_at twos_complement_at
  signed_exact order = go (leb 128 (high order)) refl
    where
      u : ℕ
      u = uint_in order r at (suc w)

      go : (b : Bool) → leb 128 (high order) ≡ b → integer_of (signed_at order r at (suc w)) ≡ some (cond b (sub_ℕ u (256 ^ suc w)) (pos u))
      go true e =
          let below = uint_in_within order r at (suc w) octet in
          rw (le-ltb (2 * u) (256 ^ suc w) (half_set order e))
          (ap some (minus (256 ^ suc w - u) u (256 ^ suc w) (omega arith) (omega arith)))
      go false e = rw (lt-ltb (2 * u) (256 ^ suc w) (half_clear order e))

-- THE LAW OF EXACT VALUES, for every type, where the octets of its width are below 256
pub exact_value : (order : OctetOrder) (type : ℕ) (r : List ℕ) (at : ℕ) → ((i : ℕ) → i < width_of type → get_or r (at + i) 0 < 256)
    → integer_of (value_at order type r at) ≡ integer_at order type r at
unfolding value_at integer_at
exact_value order type r at octet = go (is_signed type) refl (is_number type)
  where
    o : OctetOrder
    o = field_order order type

    signed : (w : ℕ) → 1 ≤ w → ((i : ℕ) → i < w → get_or r (at + i) 0 < 256)
        → integer_of (signed_at o r at w) ≡ some (twos_complement_at o r at w)
    signed zero h below = absurd (omega arith)
    signed (suc w) h below = signed_exact r at w below o

    go : (s : Bool) → is_signed type ≡ s → (n : Bool)
        → integer_of (cond s (signed_at o r at (width_of type)) (cond n (value.Number (uint_in o r at (width_of type))) value.Octets))
        ≡ cond s (some (twos_complement_at o r at (width_of type))) (cond n (some (pos (uint_in o r at (width_of type)))) none)
    go true e n = signed (width_of type) (number_width type (signed_number type e)).0 octet
    go false e true = refl
    go false e false = refl

-- so the value of a field that a step answers is exact
pub step_exact : (t : List ℕ) (id : ℕ) (r : List ℕ) (c : Cursor) → Octets r → Exact t r (step_of t id r c)
unfolding step_of step_under
step_exact t id r c octet =
    go (eqb (find_answer t id) done) (leb m.count k) (eqb (field_length order type r c.at) 0)
    (exact_value order type r c.at (λ i l. octet (c.at + i)))
  where
    order : OctetOrder
    order = table_order t

    m : Template
    m = template_of t id

    k : ℕ
    k = next_key t m c.index

    type : ℕ
    type = key_type t (key_at m.keys k)

    go : (found last missing : Bool) → integer_of (value_at order type r c.at) ≡ integer_at order type r c.at
        → Exact t r
        (cond found
        (cond last (Ok None)
        (cond missing (Err RecordInvalid)
        (Ok (Some (field_of order type r c.at, record { index = k + 1; at = c.at + field_length order type r c.at })))))
        (Err (refusal_of (find_answer t id))))
    go false last missing e = tt
    go true true missing e = tt
    go true false true e = tt
    go true false false e = e

-- What is promised of a step, from its equation: its number is the one that it is judged by, and its value is exact.
pub stepped : (t : List ℕ) (id : ℕ) (r : List ℕ) (c : Cursor) (s : Step) → Octets r → s ≡ step_of t id r c
    → Answered answer_number s (step_of t id r c) (step_judged t id r c) × Exact t r s
stepped t id r c s octet e = (answered (step_number t id r c) e, rw e (step_exact t id r c octet))

-- where no number is read, the octets hold no integer, whatever they are
pub no_integer : (order : OctetOrder) (type : ℕ) (r : List ℕ) (at : ℕ) → value_at order type r at ≡ value.Octets
    → integer_at order type r at ≡ none
unfolding value_at signed_at integer_at
no_integer order type r at = go (is_signed type) (ltb (2 * u) (256 ^ width_of type)) (is_number type)
  where
    o : OctetOrder
    o = field_order order type

    u : ℕ
    u = uint_in o r at (width_of type)

    go : (s low n : Bool) → cond s (cond low (value.Number u) (value.Negative (256 ^ width_of type - u)))
        (cond n (value.Number u) value.Octets) ≡ value.Octets
        → cond s (some (twos_complement_at o r at (width_of type))) (cond n (some (pos u)) none) ≡ none
    go true true n e = let y : ◌≡◌ {A = ℕ} 0 1 = cc in absurd (omega arith)
    go true false n e = let y : ◌≡◌ {A = ℕ} 0 1 = cc in absurd (omega arith)
    go false low true e = let y : ◌≡◌ {A = ℕ} 0 1 = cc in absurd (omega arith)
    go false low false e = refl
