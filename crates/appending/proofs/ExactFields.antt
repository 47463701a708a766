-- A field that holds a value has the value's integer in its octets: a number's octets are below 256, so the law of exact values holds where
-- they stand, and the value is read back there.
use mathlib.Core.Path.{◌≡◌, sym, ap, ◌∙◌}
use mathlib.Core.Bool.{true}
use mathlib.Core.List.{List}
use Prim.Native.Nat.{ℕ, ◌+◌, ◌-◌, ◌^◌, ◌<◌}
use native.Mathlib.Omega.{arith}
use borrow.Author.Tests.{eq-eqb}
use lib.ListN.{get_or}
use Rattle.octets.specs.Answers.{done}
use Rattle.octets.specs.Numbers.{octets_in}
use Rattle.numbers.specs.declared.OctetOrder.{OctetOrder}
use Rattle.octets.proofs.Numbers.{octets_in_length, octets_in_below}
use Rattle.field_types.specs.FieldTypes.{width_of, field_order}
use Rattle.records.specs.Walk.{integer_of, integer_at}
use Rattle.records.specs.declared.walk.Value.{Value}
use Rattle.records.specs.declared.walk.Value.TheVariants.{Octets, Number, Negative}
use Rattle.records.proofs.Integers.{exact_value, no_integer}
use Rattle.appending.specs.Append.{value_fits, field_octets, append_answer, append_out}
use Rattle.appending.proofs.ReadBack.{Holds, sets_holds, reads_back_lem, append_done}

-- the octets of a number, where they stand
held_octet : (order : OctetOrder) (w n : ℕ) (r : List ℕ) (at : ℕ) → Holds r at (octets_in order w n) → (i : ℕ) → i < w
    → get_or r (at + i) 0 < 256
held_octet order w n r at h i l =
    let size = octets_in_length order w n in
    rw (h.octet i (omega arith)) (octets_in_below order w n i l)

-- THE LAW OF EXACT FIELDS: where the field of a value that fits its type stands, the octets hold the value's integer, and none for octets.
pub field_exact : (order : OctetOrder) (type : ℕ) (value : Value) (octets r : List ℕ) (at : ℕ) → value_fits type value octets ≡ true
    → Holds r at (field_octets order type value octets) → integer_at order type r at ≡ integer_of value
field_exact order type (Number n) octets r at fits h =
    sym (exact_value order type r at (held_octet (field_order order type) (width_of type) n r at h))
    ∙ ap integer_of (reads_back_lem order type (Number n) octets r at fits h).same
field_exact order type (Negative n) octets r at fits h =
    sym (exact_value order type r at (held_octet (field_order order type) (width_of type) (256 ^ width_of type - n) r at h))
    ∙ ap integer_of (reads_back_lem order type (Negative n) octets r at fits h).same
field_exact order type Octets octets r at fits h = no_integer order type r at (reads_back_lem order type Octets octets r at fits h).same

-- so appending that was done leaves the value's integer at its place
pub append_exact : (order : OctetOrder) (type : ℕ) (value : Value) (octets out : List ℕ) (at : ℕ)
    → append_answer order type value octets out at ≡ done
    → integer_at order type (append_out order type value octets out at) at ≡ integer_of value
unfolding append_out
append_exact order type value octets out at h =
    let d = append_done order type value octets out at h in
    rw (eq-eqb (append_answer order type value octets out at) done h)
    (field_exact order type value octets _ at d.0 (sets_holds out at (field_octets order type value octets) d.1))
