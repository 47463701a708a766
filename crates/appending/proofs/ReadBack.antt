-- What is appended is read back: where the field of a value stands in a record, whatever follows it, the field that is read there has its
-- length, its value and its octets. A number is read back by one law for every width and either order.
use mathlib.Core.Path.{◌≡◌, refl, sym, ap, ◌∙◌}
use mathlib.Core.Bool.{Bool, true, false, cond, not, ◌&&◌, false≢true}
use mathlib.Core.List.{List, [], ◌∷◌, ◌++◌}
use Prim.Native.Nat.{ℕ, zero, suc, ◌+◌, ◌-◌, ◌*◌, ◌^◌, ◌≤◌, ◌<◌}
use native.Mathlib.Nat.{add-zero, zero-add, add_assoc}
use native.Mathlib.Omega.{arith}
use borrow.Author.Tests.{lt-leb, lt-ltb, le-ltb, eq-eqb, ne_eqb, ltb-false, eqb-true, eqb-false, not-true}
use lib.Dec.{eqb, ltb, lit≤}
use lib.ListN.{length, get_or, take, drop, length-append, length-drop, get_or-append}
use lib.Seq.{sets, length-sets, length-take-le, get_or-append-add, get_or-append_seam, get_or-take, get_or-drop, ext_get_or}
use Rattle.std.specs.Prelude.{Ok, Some}
use Rattle.octets.specs.Answers.{done, judged, answer_number, record_invalid, output_too_short}
use Rattle.octets.specs.Numbers.{uint_in, octets_in}
use Rattle.numbers.specs.declared.OctetOrder.{OctetOrder}
use Rattle.octets.proofs.Numbers.{uint_in_same, uint_in_front, uint_in_one, octets_in_length, read_back_in}
use Rattle.octets.proofs.Judging.{judged_number}
use Rattle.octets.proofs.Stores.{sets_at}
use Rattle.octets.specs.Each.{every, first_from}
use Rattle.field_types.specs.FieldTypes.{width_of, is_number, is_signed, field_order, boolean_type, string_type, terminated_type, blob_type}
use Rattle.tables.specs.Table.{table_order, key_at, key_type}
use Rattle.records.specs.Record.{left, fixed_length, blob_length, string_length, terminated_length, field_length}
use Rattle.records.specs.Walk.{signed_at, value_at, next_key, step_under}
use Rattle.appending.specs.Append.{number_fits, negative_fits, value_fits, octets_field, field_octets, append_answer, append_of, append_out}
use Rattle.appending.specs.Append.{prefix_octets}
use Rattle.tables.specs.declared.table.Template.{Template}
use Rattle.records.specs.declared.walk.Value.{Value}
use Rattle.records.specs.declared.walk.Value.TheVariants.{Octets, Number, Negative}
use Rattle.records.specs.declared.walk.Cursor.{Cursor}
use Rattle.octets.proofs.Each.{every_at, every_same}
use Rattle.field_types.proofs.TypeFacts.{number_width, signed_number, boolean_unsigned, boolean_width, fixed_type, no_number}
use Rattle.appending.proofs.Appends.{octets_cases, NumberRange, number_range, negative_range, negative_signed}

-- ---- octets that stand at a place of a record

pub record Holds (r : List ℕ) (at : ℕ) (field : List ℕ) : Type 0 where
  pub within : at + length field ≤ length r
  pub octet : (i : ℕ) → i < length field → get_or r (at + i) 0 ≡ get_or field i 0

-- octets that were stored stand at their place
pub sets_holds : (out : List ℕ) (at : ℕ) (field : List ℕ) → at + length field ≤ length out → Holds (sets out at field) at field
sets_holds out at field h = record { within = rw (length-sets out at field) h; octet = λ i l. sets_at out at field i h l }

-- where the octets from a place on are a field and others, the field stands there
pub front_holds : (r : List ℕ) (at : ℕ) (field rest : List ℕ) → at ≤ length r → drop at r ≡ field ++ rest → Holds r at field
front_holds r at field rest h e =
    let n : length r - at ≡ length field + length rest = sym (length-drop at r) ∙ ap length e ∙ length-append field rest in
    record {
      within = omega arith;
      octet = λ i l. sym (get_or-drop at r i 0) ∙ ap (λ (s : List ℕ). get_or s i 0) e ∙ get_or-append field rest 0 i l;
    }

-- a number in front
holds_uint : (order : OctetOrder) (r : List ℕ) (at : ℕ) (field : List ℕ) (w : ℕ) → Holds r at field → w ≤ length field
    → uint_in order r at w ≡ uint_in order field 0 w
holds_uint order r at field w h l =
    uint_in_same order r field at 0 w (λ i k. h.octet i (omega arith) ∙ ap (λ (j : ℕ). get_or field j 0) (sym (zero-add i)))

-- a part of them from k on
holds_part : (r : List ℕ) (at : ℕ) (field part : List ℕ) (k : ℕ) → Holds r at field → k + length part ≤ length field
    → ((i : ℕ) → i < length part → get_or field (k + i) 0 ≡ get_or part i 0) → take (length part) (drop (at + k) r) ≡ part
holds_part r at field part k h l same =
    let n : length (take (length part) (drop (at + k) r)) ≡ length part =
    length-take-le (length part) (drop (at + k) r) (rw length-drop (omega (arith, h.within))) in
    ext_get_or 0 (take (length part) (drop (at + k) r)) part n
    (λ i b. get_or-take (length part) (drop (at + k) r) i 0 (omega arith) ∙ get_or-drop (at + k) r i 0
    ∙ ap (λ (j : ℕ). get_or r j 0) (add_assoc at k i) ∙ h.octet (k + i) (omega arith) ∙ same i (omega arith))

-- ---- fields of a fixed width

-- a field has its type's width where so many octets are left and a Boolean is 0 or 1
fixed_field : (order : OctetOrder) (type : ℕ) (r : List ℕ) (at : ℕ) → 0 < width_of type → at + width_of type ≤ length r
    → (type ≡ boolean_type → get_or r at 0 ≤ 1) → field_length order type r at ≡ width_of type
unfolding field_length fixed_length
fixed_field order type r at some fits boolean =
    rw (lt-ltb 0 (width_of type) some, le-ltb (left r at) (width_of type) (omega arith), test (eqb type boolean_type) refl)
  where
    test : (b : Bool) → eqb type boolean_type ≡ b → b && ltb 1 (get_or r at 0) ≡ false
    test true e = le-ltb 1 (get_or r at 0) (boolean (eqb-true type boolean_type e))
    test false e = refl

-- the field that holds a number v, at any width and in either order; v is 0 or 1 for a Boolean
number_field : (order : OctetOrder) (type : ℕ) (r : List ℕ) (at v : ℕ) → is_number type ≡ true → v < 256 ^ width_of type
    → (type ≡ boolean_type → v ≤ 1) → Holds r at (octets_in (field_order order type) (width_of type) v)
    → (field_length order type r at ≡ width_of type) × (uint_in (field_order order type) r at (width_of type) ≡ v)
number_field order type r at v number below boolean h =
    let w = width_of type in
    let o = field_order order type in
    let n : length (octets_in o w v) ≡ w = octets_in_length o w v in
    let u : uint_in o r at w ≡ v = holds_uint o r at (octets_in o w v) w h (omega arith) ∙ read_back_in o w v below in
    let one : get_or r at 0 ≡ uint_in o r at 1 = sym (uint_in_one o r at) in (
      fixed_field order type r at (omega (arith, number_width type number)) (rw n at h.within)
          (λ e. rw (one ∙ rw (boolean_width type e) at u) (boolean e)),
      u,
    )

-- ---- strings and blobs, whose length has an order

-- octets behind their length, in their field
behind_length_lem : (order : OctetOrder) (octets : List ℕ) (i : ℕ)
    → get_or (octets_in order 4 (length octets) ++ octets) (4 + i) 0 ≡ get_or octets i 0
behind_length_lem order octets i =
    rw (octets_in_length order 4 (length octets)) at (get_or-append-add (octets_in order 4 (length octets)) octets i 0)

counted_length : (order : OctetOrder) (octets : List ℕ) → length (octets_in order 4 (length octets) ++ octets) ≡ 4 + length octets
counted_length order octets = rw (length-append, octets_in_length)

blob_field : (order : OctetOrder) (r : List ℕ) (at : ℕ) (octets : List ℕ) → length octets < 2 ^ 32
    → Holds r at (octets_in order 4 (length octets) ++ octets) → blob_length order r at ≡ 4 + length octets
unfolding blob_length
blob_field order r at octets few h =
    let front = octets_in order 4 (length octets) in
    let n = counted_length order octets in
    let l : length front ≡ 4 = octets_in_length order 4 (length octets) in
    let u : uint_in order r at 4 ≡ length octets =
    holds_uint order r at (front ++ octets) 4 h (omega arith)
    ∙ uint_in_front order front octets 0 4 (omega arith)
    ∙ read_back_in order 4 (length octets) few in
    rw (u, le-ltb (left r at) 4 (omega (arith, h.within)), le-ltb (left r (at + 4)) (length octets) (omega (arith, h.within)))

string_field : (order : OctetOrder) (r : List ℕ) (at : ℕ) (octets : List ℕ) → length octets < 2 ^ 32
    → every (length octets) (λ i. ltb (get_or octets i 0) 128) ≡ true → Holds r at (octets_in order 4 (length octets) ++ octets)
    → string_length order r at ≡ 4 + length octets
unfolding string_length
string_field order r at octets few low h =
    let n = counted_length order octets in
    let b = blob_field order r at octets few h in
    let m : 4 + length octets - 4 ≡ length octets = omega arith in
    let same : every (length octets) (λ i. ltb (get_or r (at + 4 + i) 0) 128) ≡ every (length octets) (λ i. ltb (get_or octets i 0) 128) =
    every_same (length octets) (λ i. ltb (get_or r (at + 4 + i) 0) 128) (λ i. ltb (get_or octets i 0) 128)
    (λ i l. ap (λ (x : ℕ). ltb x 128)
    (ap (λ (j : ℕ). get_or r j 0) (add_assoc at 4 i) ∙ h.octet (4 + i) (omega arith) ∙ behind_length_lem order octets i)) in
    rw (b, m, same, low)

-- ---- null terminated strings

-- the first that passes, where none before it does
first_at : (p : ℕ → Bool) (i n k : ℕ) → k < n → ((j : ℕ) → j < k → p (i + j) ≡ false) → p (i + k) ≡ true → first_from i n p ≡ i + k
unfolding first_from
first_at p i zero k l miss hit = absurd (omega arith)
first_at p i (suc n) zero l miss hit = rw (rw add-zero at hit) (sym (add-zero i))
first_at p i (suc n) (suc k) l miss hit =
    rw (rw add-zero at (miss 0 (omega arith)))
    (first_at p (i + 1) n k (omega arith) (λ j b. ap p (omega arith) ∙ miss (suc j) (omega arith)) (ap p (omega arith) ∙ hit) ∙ omega arith)

terminated_field : (r : List ℕ) (at : ℕ) (octets : List ℕ) → every (length octets) (λ i. not (eqb (get_or octets i 0) 0)) ≡ true
    → Holds r at (octets ++ (0 ∷ [])) → terminated_length r at ≡ length octets + 1
unfolding terminated_length
terminated_field r at octets nonzero h =
    let n : length (octets ++ (0 ∷ [])) ≡ length octets + 1 = length-append octets (0 ∷ []) in
    let first : first_from at (left r at) (λ p. eqb (get_or r p 0) 0) ≡ at + length octets =
    first_at (λ p. eqb (get_or r p 0) 0) at (left r at) (length octets) (omega (arith, h.within))
    (λ j b. ap (λ (x : ℕ). eqb x 0) (h.octet j (omega arith) ∙ get_or-append octets (0 ∷ []) 0 j b)
    ∙ not-true (eqb (get_or octets j 0) 0) (every_at (length octets) (λ i. not (eqb (get_or octets i 0) 0)) nonzero j b))
    (ap (λ (x : ℕ). eqb x 0) (h.octet (length octets) (omega arith) ∙ get_or-append_seam octets 0 [] 0)) in
    rw (first, lt-ltb (at + length octets) (length r) (omega (arith, h.within))) (omega arith)

-- ---- what is read where the field of a value stands

-- The field has octets, its length is that of the value's field, its value is the value, and a value's octets stand in it.
pub record ReadsBack (order : OctetOrder) (type : ℕ) (value : Value) (octets r : List ℕ) (at : ℕ) : Type 0 where
  pub some : 0 < length (field_octets order type value octets)
  pub len : field_length order type r at ≡ length (field_octets order type value octets)
  pub same : value_at order type r at ≡ value
  pub stands : value ≡ Octets → take (length octets) (drop (at + prefix_octets type) r) ≡ octets

number_read : (order : OctetOrder) (type n : ℕ) (octets r : List ℕ) (at : ℕ) → number_fits type n ≡ true
    → Holds r at (octets_in (field_order order type) (width_of type) n) → ReadsBack order type (Number n) octets r at
unfolding value_at signed_at
number_read order type n octets r at fits h =
    let q = number_range type n fits in
    let f = number_field order type r at n q.number q.below q.boolean h in
    let l = octets_in_length (field_order order type) (width_of type) n in
    record {
      some = omega (arith, number_width type q.number);
      len = f.0 ∙ sym l;
      same = value f.1 (is_signed type) refl q;
      stands = λ e. let y : ◌≡◌ {A = ℕ} 0 1 = cc in absurd (omega arith);
    }
  where
    value : uint_in (field_order order type) r at (width_of type) ≡ n → (s : Bool) → is_signed type ≡ s → NumberRange type n
        → value_at order type r at ≡ Number n
    value u true e q = rw (e, u, lt-ltb (2 * n) (256 ^ width_of type) (q.half e))
    value u false e q = rw (e, q.number, u)

negative_read : (order : OctetOrder) (type n : ℕ) (octets r : List ℕ) (at : ℕ) → negative_fits type n ≡ true
    → Holds r at (octets_in (field_order order type) (width_of type) (256 ^ width_of type - n)) → ReadsBack order type (Negative n) octets r at
unfolding value_at signed_at
negative_read order type n octets r at fits h =
    let w = width_of type in
    let v = 256 ^ w - n in
    let q = negative_range type n fits in
    let s = negative_signed type n fits in
    let f =
    number_field order type r at v (signed_number type s) (omega (arith, q))
    (λ e. absurd (false≢true (sym (boolean_unsigned type e).1 ∙ s))) h in
    let l = octets_in_length (field_order order type) w v in
    record {
      some = omega (arith, q);
      len = f.0 ∙ sym l;
      same = rw (s, f.1, le-ltb (2 * v) (256 ^ w) (omega (arith, q))) (ap Negative (omega (arith, q)));
      stands = λ e. let y : ◌≡◌ {A = ℕ} 0 1 = cc in absurd (omega arith);
    }

-- octets behind their 32-bit length
counted_read : (order : OctetOrder) (type : ℕ) (octets r : List ℕ) (at : ℕ)
    → let field = octets_in (field_order order type) 4 (length octets) ++ octets in octets_field (field_order order type) type octets ≡ field
    → field_length order type r at ≡ 4 + length octets → value_at order type r at ≡ Octets → prefix_octets type ≡ 4
    → Holds r at field → ReadsBack order type Octets octets r at
counted_read order type octets r at field len same front h =
    let o = field_order order type in
    let n = counted_length o octets in
    record {
      some = rw field (omega arith);
      len = rw field (len ∙ sym n);
      same = same;
      stands =
          λ e. rw front (holds_part r at (octets_in o 4 (length octets) ++ octets) octets 4 h (omega arith)
          (λ i l. behind_length_lem o octets i));
    }

string_read : (order : OctetOrder) (octets r : List ℕ) (at : ℕ) → length octets < 2 ^ 32
    → every (length octets) (λ i. ltb (get_or octets i 0) 128) ≡ true
    → Holds r at (octets_field (field_order order string_type) string_type octets) → ReadsBack order string_type Octets octets r at
unfolding octets_field width_of is_number is_signed field_length value_at prefix_octets
string_read order octets r at few low h =
    counted_read order string_type octets r at refl (string_field (field_order order string_type) r at octets few low h) refl refl h

blob_read : (order : OctetOrder) (octets r : List ℕ) (at : ℕ) → length octets < 2 ^ 32
    → Holds r at (octets_field (field_order order blob_type) blob_type octets) → ReadsBack order blob_type Octets octets r at
unfolding octets_field width_of is_number is_signed field_length value_at prefix_octets
blob_read order octets r at few h =
    counted_read order blob_type octets r at refl (blob_field (field_order order blob_type) r at octets few h) refl refl h

terminated_read : (order : OctetOrder) (octets r : List ℕ) (at : ℕ) → every (length octets) (λ i. not (eqb (get_or octets i 0) 0)) ≡ true
    → Holds r at (octets_field (field_order order terminated_type) terminated_type octets) → ReadsBack order terminated_type Octets octets r at
unfolding octets_field width_of is_number is_signed field_length value_at prefix_octets
terminated_read order octets r at nonzero h =
    let n = length-append octets (0 ∷ []) in
    record {
      some = omega arith;
      len = terminated_field r at octets nonzero h ∙ sym n;
      same = refl;
      stands = λ e. holds_part r at (octets ++ (0 ∷ [])) octets 0 h (omega arith)
          (λ i l. ap (λ (j : ℕ). get_or (octets ++ (0 ∷ [])) j 0) (zero-add i) ∙ get_or-append octets (0 ∷ []) 0 i l);
    }

-- octets of a type of a fixed width, which is not one of the other three
address_read : (order : OctetOrder) (type : ℕ) (octets r : List ℕ) (at : ℕ) → 0 < width_of type → is_number type ≡ false
    → length octets ≡ width_of type → Holds r at (octets_field (field_order order type) type octets) → ReadsBack order type Octets octets r at
unfolding octets_field value_at prefix_octets
address_read order type octets r at some number size h =
    let q = no_number type number in
    let v = fixed_type type some in
    let f : octets_field (field_order order type) type octets ≡ octets = rw (v.1.0, lt-ltb 0 (width_of type) some) in
    let k : Holds r at octets = rw f at h in
    record {
      some = rw f (omega arith);
      len = rw f (fixed_field order type r at some (rw size at k.within) (λ e. absurd (eqb-false type boolean_type q.1 e)) ∙ sym size);
      same = rw (q.0, number);
      stands =
          λ e. rw (v.0, v.1.1) (holds_part r at octets octets 0 k (omega arith) (λ i l. ap (λ (j : ℕ). get_or octets j 0) (zero-add i)));
    }

-- The theorem: where the field of a value that fits its type stands in a record, whatever follows it, it is read back.
pub reads_back_lem : (order : OctetOrder) (type : ℕ) (value : Value) (octets r : List ℕ) (at : ℕ) → value_fits type value octets ≡ true
    → Holds r at (field_octets order type value octets) → ReadsBack order type value octets r at
reads_back_lem order type (Number n) octets r at fits h = number_read order type n octets r at fits h
reads_back_lem order type (Negative n) octets r at fits h = negative_read order type n octets r at fits h
reads_back_lem order type Octets octets r at fits h =
    octets_cases type octets fits (ReadsBack order type Octets octets r at)
    (λ e few low. rw e (string_read order octets r at few low (rw e at h)))
    (λ e nonzero. rw e (terminated_read order octets r at nonzero (rw e at h)))
    (λ e few. rw e (blob_read order octets r at few (rw e at h)))
    (λ some number size. address_read order type octets r at some number size h)

-- ---- after appending

-- the field is read back from the output it was stored in
pub stored_reads_back : (order : OctetOrder) (type : ℕ) (value : Value) (octets out : List ℕ) (at : ℕ) → value_fits type value octets ≡ true
    → at + length (field_octets order type value octets) ≤ length out
    → ReadsBack order type value octets (sets out at (field_octets order type value octets)) at
stored_reads_back order type value octets out at fits room =
    reads_back_lem order type value octets (sets out at (field_octets order type value octets)) at fits
    (sets_holds out at (field_octets order type value octets) room)

-- the answer number of appending is the number that it is judged by
pub append_answer_lem : (order : OctetOrder) (type : ℕ) (value : Value) (octets out : List ℕ) (at : ℕ)
    → answer_number (append_of order type value octets out at) ≡ append_answer order type value octets out at
unfolding append_of append_answer
append_answer_lem order type value octets out at =
    judged_number (append_answer order type value octets out at) _
    (go (value_fits type value octets) (ltb (length out) (at + length (field_octets order type value octets))))
  where
    go : (v s : Bool) → cond (not v) record_invalid (cond s output_too_short done) ≤ 22
    go false s = lit≤ tt
    go true true = lit≤ tt
    go true false = lit≤ tt

-- appending that was done: the value fits and so does its field, and it is read back from the output
pub append_done : (order : OctetOrder) (type : ℕ) (value : Value) (octets out : List ℕ) (at : ℕ)
    → append_answer order type value octets out at ≡ done
    → (value_fits type value octets ≡ true) × (at + length (field_octets order type value octets) ≤ length out)
unfolding append_answer
append_done order type value octets out at h =
    go (value_fits type value octets) refl (ltb (length out) (at + length (field_octets order type value octets))) refl h
  where
    go : (v : Bool) → value_fits type value octets ≡ v → (s : Bool)
        → ltb (length out) (at + length (field_octets order type value octets)) ≡ s
        → cond (not v) record_invalid (cond s output_too_short done) ≡ done
        → (v ≡ true) × (at + length (field_octets order type value octets) ≤ length out)
    go true e true f h = absurd (omega arith)
    go true e false f h = (refl, ltb-false (length out) (at + length (field_octets order type value octets)) f)
    go false e s f h = absurd (omega arith)

pub append_reads_back : (order : OctetOrder) (type : ℕ) (value : Value) (octets out : List ℕ) (at : ℕ)
    → append_answer order type value octets out at ≡ done → ReadsBack order type value octets (append_out order type value octets out at) at
unfolding append_out
append_reads_back order type value octets out at h =
    let d = append_done order type value octets out at h in
    rw (eq-eqb (append_answer order type value octets out at) done h) (stored_reads_back order type value octets out at d.0 d.1)

-- a value that fits and has room is appended
pub append_accepts : (order : OctetOrder) (type : ℕ) (value : Value) (octets out : List ℕ) (at : ℕ) → value_fits type value octets ≡ true
    → at + length (field_octets order type value octets) ≤ length out
    → (append_of order type value octets out at ≡ Ok (at + length (field_octets order type value octets)))
    × (append_out order type value octets out at ≡ sets out at (field_octets order type value octets))
unfolding append_answer append_of append_out judged
append_accepts order type value octets out at h room =
    let e = le-ltb (length out) (at + length (field_octets order type value octets)) room in (rw (h, e), rw (h, e))

-- a step of a walk whose next enabled key has the value's type, and that stands where the field stands, answers the field and goes past it
pub step_reads_back : (t : List ℕ) (m : Template) (type : ℕ) (value : Value) (octets r : List ℕ) (c : Cursor)
    → next_key t m c.index < m.count → key_type t (key_at m.keys (next_key t m c.index)) ≡ type
    → ReadsBack (table_order t) type value octets r c.at → step_under t m r c
    ≡ Ok (Some (
      record { kind = type; at = c.at; len = length (field_octets (table_order t) type value octets); value = value },
      record { index = next_key t m c.index + 1; at = c.at + length (field_octets (table_order t) type value octets) },
    ))
unfolding step_under
step_reads_back t m type value octets r c more kind b =
    rw (
      lt-leb m.count (next_key t m c.index) more,
      kind,
      b.len,
      b.same,
      ne_eqb (length (field_octets (table_order t) type value octets)) 0 (λ e. omega (arith, b.some)),
    )
