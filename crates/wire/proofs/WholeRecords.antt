-- Whole records: values appended one after the other are their fields end to end; these are a valid record, and the walk over it answers
-- the fields. From key k on the claim goes by the keys that are left: a disabled key has no field, and at an enabled one the field of the
-- next value stands and is read back.
use mathlib.Core.Path.{◌≡◌, refl, sym, ap, subst, ◌∙◌}
use mathlib.Core.Bool.{Bool, true, false, cond}
use mathlib.Core.List.{List, [], ◌∷◌, ◌++◌, map}
use Prim.Native.Nat.{ℕ, zero, suc, ◌+◌, ◌-◌, ◌≤◌, ◌<◌}
use native.Mathlib.Nat.{add-zero}
use native.Mathlib.Omega.{arith}
use borrow.Author.Tests.{lt-ltb, eq-eqb, ltb-true, ltb-false}
use lib.Dec.{ltb}
use lib.ListN.{length, take, drop, length-append, length-drop}
use lib.Seq.{sets, sets-eq, length-sets, length-take-le, drop-append-le, drop-drop, drop_at, take-append_seam}
use Rattle.std.specs.Prelude.{Ok}
use Rattle.octets.specs.Answers.{done}
use Rattle.octets.specs.Each.{all_of}
use Rattle.octets.proofs.Stores.{sets_append}
use Rattle.octets.proofs.Each.{clause_first, clause_rest, every_intro}
use Rattle.numbers.specs.declared.OctetOrder.{OctetOrder}
use Rattle.tables.specs.Table.{table_order, key_at, key_type, is_enabled, template_of, find_answer}
use Rattle.tables.specs.declared.table.Template.{Template}
use Rattle.records.specs.Record.{field_at, field_valid, record_valid}
use Rattle.records.specs.Walk.{step_of, walk_start, visited, laid_out, enabled_from, field_under}
use Rattle.records.proofs.Records.{field_at_more}
use Rattle.records.proofs.WalkLaws.{ends_with_enough, found_valid, valid_opens, walk_opened, opened_types, opened_laid}
use Rattle.records.specs.declared.walk.Field.{Field}
use Rattle.appending.proofs.ExactFields.{field_exact}
use Rattle.appending.proofs.ReadBack.{front_holds, reads_back_lem, append_accepts}
use Rattle.wire.specs.Demand2.{TypedValue, Output, fits, octets_for, record_octets, append_all, fields_of}
use Rattle.wire.specs.Demand2.{FieldOf, EachField, ValuesFor, RecordOf, RecordsMade, RecordsReadBack, EmptyRecords}

-- ---- made by appending

-- Octets that were stored within a list are the part at their place.
pub stored_part : (l vs : List ℕ) (i : ℕ) → i + length vs ≤ length l → take (length vs) (drop i (sets l i vs)) ≡ vs
stored_part l vs i h =
    let rest = drop (i + length vs) l in
    let front = length-take-le i l (omega arith) in
    let whole = length-append (take i l) vs in
    ap (λ (s : List ℕ). take (length vs) (drop i s)) (sets-eq vs l i h)
    ∙ ap (take (length vs))
    (drop-append-le i (take i l ++ vs) rest (omega (arith, front, whole))
    ∙ ap (λ (s : List ℕ). s ++ rest) (drop_at (take i l) vs i front))
    ∙ take-append_seam vs rest

-- values from a place on
append_all_lem : (order : OctetOrder) (values : List TypedValue) (at : ℕ) (out : List ℕ) → all_of (map fits values) ≡ true
    → at + length (record_octets order values) ≤ length out
    → append_all order values (Ok at) out
    ≡ record { answer = Ok (at + length (record_octets order values)); out = sets out at (record_octets order values) }
unfolding append_all record_octets
append_all_lem order [] at out h room = ap (λ (k : ℕ). record { answer = Ok k; out = out }) (sym (add-zero at))
append_all_lem order (v ∷ values) at out h room =
    let field = octets_for order v in
    let rest = record_octets order values in
    let n = length-append field rest in
    let a =
    append_accepts order v.type v.value v.octets out at (clause_first (fits v) (all_of (map fits values)) h) (omega arith) in
    let l = length-sets out at field in
    rw (a.0, a.1)
    (append_all_lem order values (at + length field) (sets out at field) (clause_rest (fits v) (all_of (map fits values)) h) (omega arith)
    ∙ ap (λ (k : ℕ). record { answer = Ok k; out = sets (sets out at field) (at + length field) rest }) (omega arith)
    ∙ ap (λ (s : List ℕ). record { answer = Ok (at + length (field ++ rest)); out = s }) (sets_append field out at rest))

pub records_made : RecordsMade
records_made order values at out h room =
    let r = record_octets order values in
    append_all_lem order values at out h room
    ∙ ap (λ (s : List ℕ). record { answer = Ok (at + length r); out = s }) (sets-eq r out at room)

-- ---- read back

-- what follows a field
behind_field : (r : List ℕ) (at : ℕ) (field rest : List ℕ) → drop at r ≡ field ++ rest → drop (at + length field) r ≡ rest
behind_field r at field rest e =
    sym (drop-drop (length field) at r) ∙ ap (drop (length field)) e ∙ drop_at field rest (length field) refl

-- The fields from key k on, with l keys left, are those of the values, of which the first stands at a place.
record LaidFrom (t : List ℕ) (m : Template) (r : List ℕ) (k l : ℕ) (values : List TypedValue) (at : ℕ) : Type 0 where
  valid : (i : ℕ) → k ≤ i → i < m.count → field_valid t m r i ≡ true
  ends : field_at t m r m.count ≡ length r
  fields : map (field_under t m r) (enabled_from t m k l) ≡ fields_of (table_order t) values at

-- what holds of k and of each number above it
first_or_later : (k n : ℕ) (p : ℕ → Bool) → p k ≡ true → ((i : ℕ) → k + 1 ≤ i → i < n → p i ≡ true) → (i : ℕ) → k ≤ i → i < n → p i ≡ true
first_or_later k n p here later i a b = go (ltb k i) refl
  where
    go : (c : Bool) → ltb k i ≡ c → p i ≡ true
    go true e = later i (omega (arith, ltb-true k i e)) b
    go false e = let q : k ≡ i = omega (arith, ltb-false k i e) in ap p (sym q) ∙ here

-- the type of key k
abbrev type_at : List ℕ → Template → ℕ → ℕ
type_at t m k = key_type t (key_at m.keys k)

module _ (t : List ℕ) (m : Template) (r : List ℕ) where
  -- an enabled key at whose place the field of a value of its type stands: its field is valid, is the value's, and the next one follows it
  value_stands : (k at : ℕ) (v : TypedValue) (rest : List ℕ) → is_enabled t (key_at m.keys k) ≡ true → v.type ≡ type_at t m k
      → fits v ≡ true → field_at t m r k ≡ at → at ≤ length r → drop at r ≡ octets_for (table_order t) v ++ rest
      → (field_valid t m r k ≡ true)
      × ((field_under t m r k ≡ record { kind = v.type; at = at; len = length (octets_for (table_order t) v); value = v.value })
      × (field_at t m r (k + 1) ≡ at + length (octets_for (table_order t) v)))
  value_stands k at v rest on type fit place h e =
      let b =
      reads_back_lem (table_order t) v.type v.value v.octets r at fit (front_holds r at (octets_for (table_order t) v) rest h e) in (
        rw (on, place, ← type, b.len) (lt-ltb 0 (length (octets_for (table_order t) v)) b.some),
        (
          rw (place, ← type, b.len, b.same),
          field_at_more t m r k ∙ rw (on, place, ← type, b.len),
        ),
      )

  -- From key k on, where the octets from its field's place on are the record of values for the l keys that are left.
  laid_from : (l k at : ℕ) (values : List TypedValue) → k + l ≡ m.count → field_at t m r k ≡ at → at ≤ length r
      → drop at r ≡ record_octets (table_order t) values → map (λ v. v.type) values ≡ map (type_at t m) (enabled_from t m k l)
      → all_of (map fits values) ≡ true → LaidFrom t m r k l values at
  unfolding enabled_from record_octets fields_of
  laid_from zero k at [] e place h octets types fit =
      let q : k ≡ m.count = omega arith in
      let n = length-drop at r in
      let z = ap length octets in
      record {
        valid = λ i a b. absurd (omega arith);
        ends = ap (field_at t m r) (sym q) ∙ place ∙ omega arith;
        fields = refl;
      }
  laid_from zero k at (v ∷ values) e place h octets types fit = let y : ◌≡◌ {A = ℕ} 0 1 = cc in absurd (omega arith)
  laid_from (suc l) k at values e place h octets types fit =
      go (is_enabled t (key_at m.keys k)) refl values octets types fit (λ at vs. laid_from l (k + 1) at vs (omega arith))
    where
      keys : List ℕ
      keys = enabled_from t m (k + 1) l

      go : (b : Bool) → is_enabled t (key_at m.keys k) ≡ b → (values : List TypedValue) → drop at r ≡ record_octets (table_order t) values
          → map (λ v. v.type) values ≡ map (type_at t m) (cond b (k ∷ keys) keys) → all_of (map fits values) ≡ true
          → ((at : ℕ) (vs : List TypedValue) → field_at t m r (k + 1) ≡ at → at ≤ length r → drop at r ≡ record_octets (table_order t) vs
          → map (λ v. v.type) vs ≡ map (type_at t m) keys → all_of (map fits vs) ≡ true → LaidFrom t m r (k + 1) l vs at)
          → LaidFrom t m r k (suc l) values at
      go true on [] octets types fit rest = let y : ◌≡◌ {A = ℕ} 0 1 = cc in absurd (omega arith)
      go true on (v ∷ values) octets types fit rest =
          let field = octets_for (table_order t) v in
          let s =
          value_stands k at v (record_octets (table_order t) values) on (cc)
          (clause_first (fits v) (all_of (map fits values)) fit) place h octets in
          let w = (front_holds r at field (record_octets (table_order t) values) h octets).within in
          let x =
          rest (at + length field) values s.1.1 w (behind_field r at field (record_octets (table_order t) values) octets) (cc)
          (clause_rest (fits v) (all_of (map fits values)) fit) in
          record {
            valid = first_or_later k m.count (field_valid t m r) s.0 x.valid;
            ends = x.ends;
            fields = rw (on, s.1.0, x.fields);
          }
      go false off values octets types fit rest =
          let p : field_at t m r (k + 1) ≡ at = field_at_more t m r k ∙ rw (off, place) (add-zero at) in
          let x = rest at values p h octets types fit in
          record {
            valid = first_or_later k m.count (field_valid t m r) (rw off) x.valid;
            ends = x.ends;
            fields = rw (off, x.fields);
          }

-- a value whose field stands in front of others from a place on is the field there
pub field_of : (order : OctetOrder) (v : TypedValue) (r : List ℕ) (at : ℕ) (rest : List ℕ) → fits v ≡ true → at ≤ length r
    → drop at r ≡ octets_for order v ++ rest → FieldOf order v.type v.value v.octets r at
field_of order v r at rest h inside e =
    let holds = front_holds r at (octets_for order v) rest inside e in
    let b = reads_back_lem order v.type v.value v.octets r at h holds in
    record {
      len = b.len;
      same = b.same;
      exact = field_exact order v.type v.value v.octets r at h holds;
      stands = ap (take (length (octets_for order v))) e ∙ take-append_seam (octets_for order v) rest;
      content = b.stands;
    }

-- so is each of the values whose fields are what is left from a place on
each_field : (order : OctetOrder) (values : List TypedValue) (r : List ℕ) (at : ℕ) → all_of (map fits values) ≡ true → at ≤ length r
    → drop at r ≡ record_octets order values → EachField order values at r
unfolding record_octets
each_field order [] r at h inside e = tt
each_field order (v ∷ values) r at h inside e =
    let field = octets_for order v in
    let rest = record_octets order values in
    let long : length r - at ≡ length field + length rest = sym (length-drop at r) ∙ ap length e ∙ length-append field rest in (
      field_of order v r at rest (clause_first (fits v) (all_of (map fits values)) h) inside e,
      each_field order values r (at + length field) (clause_rest (fits v) (all_of (map fits values)) h) (omega arith)
          (behind_field r at field rest e),
    )

fields_length : (order : OctetOrder) (values : List TypedValue) (at : ℕ) → length (fields_of order values at) ≡ length values
unfolding fields_of
fields_length order [] at = refl
fields_length order (v ∷ values) at = ap suc (fields_length order values (at + length (octets_for order v)))

-- ---- the theorems

-- fields of all keys that end where the record ends are a valid record
all_valid : (t : List ℕ) (m : Template) (r : List ℕ) (values : List TypedValue) → LaidFrom t m r 0 m.count values 0
    → record_valid t m r ≡ true
unfolding record_valid
all_valid t m r values laid =
    rw (
      every_intro m.count (field_valid t m r) (λ i l. laid.valid i (omega arith) l),
      eq-eqb (field_at t m r m.count) (length r) laid.ends,
    )

-- the record of the values reads back
record_of : (t : List ℕ) (id : ℕ) (values : List TypedValue) → find_answer t id ≡ done → ValuesFor t id values
    → RecordOf t id values (record_octets (table_order t) values)
unfolding field_at
record_of t id values found given =
    let m = template_of t id in
    let r = record_octets (table_order t) values in
    let laid = laid_from t m r m.count 0 0 values (omega arith) refl (omega arith) refl given.types given.fit in
    let valid = found_valid t id r found (all_valid t m r values laid) in
    let opens = valid_opens t id r valid in
    let w = walk_opened t id r walk_start opens (suc m.count) (omega arith) in
    let all : visited (step_of t id r) (suc m.count) walk_start ≡ fields_of (table_order t) values 0 = w.visits ∙ laid.fields in
    let long = ap length all ∙ fields_length (table_order t) values 0 in
    record {
      valid = valid;
      opens = opens;
      visits = λ n h. (ends_with_enough (step_of t id r) (suc m.count) n walk_start w.ends (omega arith)).0 ∙ all;
      ends = λ n h. (ends_with_enough (step_of t id r) (suc m.count) n walk_start w.ends (omega arith)).1;
      each = each_field (table_order t) values r 0 given.fit (omega arith) refl;
    }

pub records_read_back : RecordsReadBack
records_read_back t id values at out found given room =
    let octets = record_octets (table_order t) values in
    let part : take (length octets) (drop at (append_all (table_order t) values (Ok at) out).out) ≡ octets =
    ap (λ (o : Output). take (length octets) (drop at o.out)) (append_all_lem (table_order t) values at out given.fit room)
    ∙ stored_part out octets at room in
    subst (RecordOf t id values) (sym part) (record_of t id values found given)

-- no fields have no octets
none_laid : (r : List ℕ) (fields : List Field) → map (λ f. f.kind) fields ≡ [] → laid_out r fields ≡ []
unfolding laid_out
none_laid r [] e = refl
none_laid r (f ∷ fields) e = let y : ◌≡◌ {A = ℕ} 0 1 = cc in absurd (omega arith)

pub empty_records : EmptyRecords
unfolding record_octets
empty_records t id found none = (
  record_of t id [] found (record { types = sym none; fit = refl }),
  λ r valid.
      let n = suc (template_of t id).count in
      let opens = valid_opens t id r valid in
      sym (opened_laid t id r walk_start opens n (omega arith))
      ∙ none_laid r (visited (step_of t id r) n walk_start) (opened_types t id r walk_start opens n (omega arith) ∙ none),
)
