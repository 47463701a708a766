-- Laws of appending a field: what storing answers, appending as a choice between refusing and storing, and what it says of a value that it
-- fits its type.
use mathlib.Core.Path.{◌≡◌, refl, sym, ap, ◌∙◌}
use mathlib.Core.Bool.{Bool, true, false, cond, not, ◌&&◌, false≢true}
use mathlib.Core.List.{List, ◌++◌}
use Prim.Native.Nat.{ℕ, ◌+◌, ◌*◌, ◌^◌, ◌≤◌, ◌<◌}
use native.Mathlib.Omega.{arith}
use borrow.Author.Rules.{rules}
use borrow.Author.Tests.{le-leb, lt-leb, le-ltb, lt-ltb, leb-true, leb-false, ltb-true, eqb-true, eqb-false, not-true}
use lib.Dec.{eqb, leb, ltb}
use lib.ListN.{length, get_or, length-append}
use Rattle.std.specs.Prelude.{Result, Ok, Err}
use Rattle.octets.specs.Answers.{judged, refusal_of}
use Rattle.octets.specs.Numbers.{put_at}
use Rattle.numbers.specs.declared.OctetOrder.{OctetOrder}
use Rattle.octets.proofs.Stores.{put_short, put_join}
use Rattle.octets.specs.Each.{every}
use Rattle.field_types.specs.FieldTypes.{width_of, is_number, is_signed, boolean_type, string_type, terminated_type, blob_type}
use Rattle.appending.specs.Append.{value_fits, number_fits, negative_fits, octets_fit, field_octets, append_answer, append_of, append_out}
use Rattle.appending.specs.Append.{stored_of, Stored}
use Rattle.records.specs.declared.walk.Value.{Value}
use Rattle.numbers.specs.declared.refusal.Refusal.{Refusal}
use Rattle.numbers.specs.declared.refusal.Refusal.TheVariants.{OutputTooShort, RecordInvalid}
use Rattle.octets.proofs.Each.{and_left, and_right}
use Rattle.field_types.proofs.TypeFacts.{number_width, signed_number, boolean_unsigned, boolean_width}

-- what `place_after` says: there is room, and the place is the one behind; or there is none
pub has_room : (end room : ℕ) {place : ℕ} → ◌≡◌ {A = Result ℕ Refusal} (cond (leb end room) (Ok end) (Err OutputTooShort)) (Ok place)
    → (end ≤ room) × (place ≡ end)
has_room end room {place = place} = go (leb end room) refl
  where
    go : (b : Bool) → leb end room ≡ b → ◌≡◌ {A = Result ℕ Refusal} (cond b (Ok end) (Err OutputTooShort)) (Ok place)
        → (end ≤ room) × (place ≡ end)
    go true e h = (leb-true end room e, cc)
    go false e h = absurd (search rules)

pub no_room : (end room : ℕ) {refusal : Refusal} → cond (leb end room) (Ok end) (Err OutputTooShort) ≡ Err refusal
    → (room < end) × (refusal ≡ OutputTooShort)
no_room end room {refusal = refusal} = go (leb end room) refl
  where
    go : (b : Bool) → leb end room ≡ b → cond b (Ok end) (Err OutputTooShort) ≡ Err refusal → (room < end) × (refusal ≡ OutputTooShort)
    go true e h = absurd (search rules)
    go false e h = (leb-false end room e, cc)

-- a field that does not fit, and one that does
pub stored_short : (field out : List ℕ) (at : ℕ) → length out < at + length field → Stored field out at (Err OutputTooShort) out
unfolding stored_of
stored_short field out at h = (rw (lt-leb (at + length field) (length out) h), sym (put_short out at field h))

pub stored_fits : (field out : List ℕ) (at place : ℕ) (after : List ℕ) → at + length field ≤ length out → place ≡ at + length field
    → after ≡ put_at out at field → Stored field out at (Ok place) after
unfolding stored_of
stored_fits field out at place after h e f = (rw (le-leb (at + length field) (length out) h) (ap Ok e), f)

-- a field of two parts, one behind the other, and what does not fit of it
pub joined_short : (a b out : List ℕ) (at : ℕ) → length out < at + (length a + length b)
    → Stored (a ++ b) out at (Err OutputTooShort) out
joined_short a b out at h = stored_short (a ++ b) out at (rw length-append h)

pub joined_fits : (a b out : List ℕ) (at place : ℕ) (after : List ℕ) → at + length a + length b ≤ length out
    → place ≡ at + length a + length b → after ≡ put_at (put_at out at a) (at + length a) b → Stored (a ++ b) out at (Ok place) after
joined_fits a b out at place after h e f =
    let n = length-append a b in
    stored_fits (a ++ b) out at place after (omega arith) (omega arith) (f ∙ put_join out at a b h)

-- ---- appending is storing the field of a value that fits, and refusing any other

abbrev pub Appending : OctetOrder → ℕ → Value → List ℕ → List ℕ → ℕ → Result ℕ Refusal → List ℕ → Type 0
Appending order type value octets out at answer after =
    (answer ≡ append_of order type value octets out at) × (after ≡ append_out order type value octets out at)

stored_answer : (field out : List ℕ) (at : ℕ) (b : Bool) → leb (at + length field) (length out) ≡ b
    → ltb (length out) (at + length field) ≡ not b
stored_answer field out at true e = le-ltb (length out) (at + length field) (leb-true (at + length field) (length out) e)
stored_answer field out at false e = lt-ltb (length out) (at + length field) (leb-false (at + length field) (length out) e)

pub append_stores : (order : OctetOrder) (type : ℕ) (value : Value) (octets out : List ℕ) (at : ℕ) → value_fits type value octets ≡ true
    → Appending order type value octets out at (stored_of (field_octets order type value octets) out at)
    (put_at out at (field_octets order type value octets))
unfolding append_of append_out append_answer stored_of put_at judged refusal_of
append_stores order type value octets out at h = go (leb (at + length field) (length out)) refl
  where
    field : List ℕ
    field = field_octets order type value octets

    go : (b : Bool) → leb (at + length field) (length out) ≡ b
        → Appending order type value octets out at (stored_of field out at) (put_at out at field)
    go true e = (rw (h, stored_answer field out at true e, e), rw (h, stored_answer field out at true e, e))
    go false e = (rw (h, stored_answer field out at false e, e), rw (h, stored_answer field out at false e, e))

-- a value v that fits, whose field was stored
pub append_stored : (order : OctetOrder) (type : ℕ) (value v : Value) (octets out : List ℕ) (at : ℕ) (answer : Result ℕ Refusal)
    (after : List ℕ) → value ≡ v → value_fits type v octets ≡ true → Stored (field_octets order type v octets) out at answer after
    → Appending order type value octets out at answer after
append_stored order type value v octets out at answer after e h s =
    let a = append_stores order type v octets out at h in
    rw e (s.0 ∙ a.0, s.1 ∙ a.1)

-- a value v that does not fit
pub append_refused : (order : OctetOrder) (type : ℕ) (value v : Value) (octets out : List ℕ) (at : ℕ) → value ≡ v
    → value_fits type v octets ≡ false → Appending order type value octets out at (Err RecordInvalid) out
unfolding append_of append_out append_answer judged refusal_of
append_refused order type value v octets out at e h = rw (e, h) (refl, refl)

-- ---- the octets that fit a type, by the kind of type

pub octets_cases : (type : ℕ) (octets : List ℕ) → octets_fit type octets ≡ true → (P : Type 0)
    → (type ≡ string_type → length octets < 2 ^ 32 → every (length octets) (λ i. ltb (get_or octets i 0) 128) ≡ true → P)
    → (type ≡ terminated_type → every (length octets) (λ i. not (eqb (get_or octets i 0) 0)) ≡ true → P)
    → (type ≡ blob_type → length octets < 2 ^ 32 → P)
    → (0 < width_of type → is_number type ≡ false → length octets ≡ width_of type → P)
    → P
unfolding octets_fit
octets_cases type octets h P string terminated blob address =
    go (eqb type string_type) refl (eqb type terminated_type) refl (eqb type blob_type) refl h
  where
    few : Bool
    few = ltb (length octets) (2 ^ 32)

    low : Bool
    low = every (length octets) (λ i. ltb (get_or octets i 0) 128)

    nonzero : Bool
    nonzero = every (length octets) (λ i. not (eqb (get_or octets i 0) 0))

    alone : Bool
    alone = not (is_number type) && eqb (length octets) (width_of type)

    go : (s : Bool) → eqb type string_type ≡ s → (t : Bool) → eqb type terminated_type ≡ t → (b : Bool) → eqb type blob_type ≡ b
        → cond s (few && low) (cond t nonzero (cond b few (ltb 0 (width_of type) && alone))) ≡ true → P
    go true e t f b g h = string (eqb-true type string_type e) (ltb-true (length octets) (2 ^ 32) (and_left few low h)) (and_right few low h)
    go false e true f b g h = terminated (eqb-true type terminated_type f) h
    go false e false f true g h = blob (eqb-true type blob_type g) (ltb-true (length octets) (2 ^ 32) h)
    go false e false f false g h =
        let k : alone ≡ true = and_right (ltb 0 (width_of type)) alone h in
        address (ltb-true 0 (width_of type) (and_left (ltb 0 (width_of type)) alone h))
        (not-true (is_number type) (and_left (not (is_number type)) (eqb (length octets) (width_of type)) k))
        (eqb-true (length octets) (width_of type) (and_right (not (is_number type)) (eqb (length octets) (width_of type)) k))

-- ---- the numbers that fit a type

pub record NumberRange (type n : ℕ) : Type 0 where
  pub number : is_number type ≡ true
  pub below : n < 256 ^ width_of type
  pub boolean : type ≡ boolean_type → n ≤ 1
  pub half : is_signed type ≡ true → 2 * n < 256 ^ width_of type

pub number_range : (type n : ℕ) → number_fits type n ≡ true → NumberRange type n
unfolding number_fits
number_range type n h = go (eqb type boolean_type) refl (is_signed type) refl h
  where
    go : (b : Bool) → eqb type boolean_type ≡ b → (s : Bool) → is_signed type ≡ s
        → cond b (leb n 1) (cond s (ltb (2 * n) (256 ^ width_of type)) (is_number type && ltb n (256 ^ width_of type))) ≡ true
        → NumberRange type n
    go true e s f h =
        let b = eqb-true type boolean_type e in
        let l = leb-true n 1 h in
        record {
          number = (boolean_unsigned type b).0;
          below = rw (boolean_width type b) (omega arith);
          boolean = λ q. l;
          half = λ q. absurd (false≢true (sym (boolean_unsigned type b).1 ∙ q));
        }
    go false e true f h =
        let l = ltb-true (2 * n) (256 ^ width_of type) h in
        record { number = signed_number type f; below = omega arith; boolean = λ q. absurd (eqb-false type boolean_type e q); half = λ q. l }
    go false e false f h =
        let l = ltb-true n (256 ^ width_of type) (and_right (is_number type) (ltb n (256 ^ width_of type)) h) in
        record {
          number = and_left (is_number type) (ltb n (256 ^ width_of type)) h;
          below = l;
          boolean = λ q. absurd (eqb-false type boolean_type e q);
          half = λ q. absurd (false≢true (sym f ∙ q));
        }

pub negative_signed : (type n : ℕ) → negative_fits type n ≡ true → is_signed type ≡ true
unfolding negative_fits
negative_signed type n h = and_left (is_signed type) (leb 1 n && leb (2 * n) (256 ^ width_of type)) h

pub negative_range : (type n : ℕ) → negative_fits type n ≡ true
    → (1 ≤ n) × ((2 * n ≤ 256 ^ width_of type) × ((1 ≤ width_of type) × (width_of type ≤ 8)))
unfolding negative_fits
negative_range type n h =
    let s = negative_signed type n h in
    let r = and_right (is_signed type) (leb 1 n && leb (2 * n) (256 ^ width_of type)) h in (
      leb-true 1 n (and_left (leb 1 n) (leb (2 * n) (256 ^ width_of type)) r),
      (
        leb-true (2 * n) (256 ^ width_of type) (and_right (leb 1 n) (leb (2 * n) (256 ^ width_of type)) r),
        number_width type (signed_number type s),
      ),
    )
