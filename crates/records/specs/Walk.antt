-- Going through a record field by field (01, "Template table"; 02, ask 6).
use Rattle.std.specs.Prelude.{ℕ, zero, suc, ◌+◌, ◌-◌, ◌*◌, ◌^◌, ◌≡◌, Bool, cond, not, ◌&&◌, List, [], ◌∷◌, ◌++◌, map, eqb, leb}
use Rattle.std.proofs.Math.Option.{Option, none, some}
use Rattle.std.proofs.Math.IntN.{sub_ℕ}
use Rattle.std.specs.Prelude.{ltb, ℤ, pos, neg_ℤ, get_or, take, drop, Result, Ok, Err, Some, None, IsErrAnd}
use Rattle.octets.specs.Answers.{◌when◌, judge, judged, done, record_invalid, refusal_number, refusal_of, answer_number}
use Rattle.octets.specs.Numbers.{place_in, uint_in}
use Rattle.octets.specs.Each.{first_from}
use Rattle.numbers.specs.declared.OctetOrder.{OctetOrder}
use Rattle.field_types.specs.FieldTypes.{width_of, is_number, is_signed, field_order}
use Rattle.tables.specs.Table.{table_order, key_at, key_type, is_enabled, template_of, template_checks, find_answer}
use Rattle.records.specs.Record.{field_length, field_at, record_answer}
use Rattle.tables.specs.declared.table.Template.{Template}
use Rattle.records.specs.declared.walk.Value.{Value}
use Rattle.records.specs.declared.walk.Value.TheVariants.{Octets, Number, Negative}
use Rattle.records.specs.declared.walk.Field.{Field}
use Rattle.records.specs.declared.walk.Cursor.{Cursor}
use Rattle.records.specs.Step.{Step, StepOr}
use Rattle.numbers.specs.declared.refusal.Refusal.{Refusal}
use Rattle.numbers.specs.declared.refusal.Refusal.TheVariants.{RecordInvalid}

-- `Number n` is n and `Negative n` is minus n. In two's complement, u in w octets is u where it lies below half of 256 to the w, and
-- otherwise minus what it lacks of 256 to the w.
unfoldable pub signed_at : OctetOrder → List ℕ → ℕ → ℕ → Value
signed_at order r at w =
    let u = uint_in order r at w in
    cond (ltb (2 * u) (256 ^ w)) (Number u) (Negative (256 ^ w - u))

-- The exact value of a field that is a number, under a table of an octet order; addresses, strings and blobs are octets.
unfoldable pub value_at : OctetOrder → ℕ → List ℕ → ℕ → Value
value_at order type r at =
    cond (is_signed type) (signed_at (field_order order type) r at (width_of type))
    (cond (is_number type) (Number (uint_in (field_order order type) r at (width_of type))) Octets)

-- ---- exact values, in ℤ

-- The integer that a value stands for: n, or minus n; octets stand for none.
abbrev pub integer_of : Value → Option ℤ
integer_of (Number n) = some (pos n)
integer_of (Negative n) = some (neg_ℤ (pos n))
integer_of Octets = none

-- Two's complement: the unsigned number in w octets, less 256 to the w where its highest bit is set, which is that of the most significant
-- octet.
unfoldable pub twos_complement_at : OctetOrder → List ℕ → ℕ → ℕ → ℤ
twos_complement_at order r at w =
    let u = uint_in order r at w in
    cond (leb 128 (get_or r (at + place_in order w 0) 0)) (sub_ℕ u (256 ^ w)) (pos u)

-- The integer in the octets of a type at a place, under a table of an octet order: two's complement for signed types, the unsigned number
-- for the other types of numbers, times and the bits of floats too, and none for the rest.
unfoldable pub integer_at : OctetOrder → ℕ → List ℕ → ℕ → Option ℤ
integer_at order type r at =
    cond (is_signed type) (some (twos_complement_at (field_order order type) r at (width_of type)))
    (cond (is_number type) (some (pos (uint_in (field_order order type) r at (width_of type)))) none)

-- ---- a step, and opening

-- The field of a type that begins at a place, under a table of an octet order.
abbrev pub field_of : OctetOrder → ℕ → List ℕ → ℕ → Field
field_of order type r at = record { kind = type; at = at; len = field_length order type r at; value = value_at order type r at }

-- The first enabled key from a key on; the template's count or more where there is none.
unfoldable pub next_key : List ℕ → Template → ℕ → ℕ
next_key t m index = first_from index (m.count - index) (λ k. is_enabled t (key_at m.keys k))

-- The field of the next enabled key is read where the cursor stands: 16 where no valid one begins there; the end where no key is left.
unfoldable pub step_under : List ℕ → Template → List ℕ → Cursor → Step
step_under t m r c =
    let k = next_key t m c.index in
    let field = field_of (table_order t) (key_type t (key_at m.keys k)) r c.at in
    cond (leb m.count k) (Ok None)
    (cond (eqb field.len 0) (Err RecordInvalid)
    (Ok (Some (field, record { index = k + 1; at = c.at + field.len }))))

-- An enabled key is left, and no valid field of its type begins where the cursor stands.
abbrev pub field_missing : List ℕ → Template → List ℕ → Cursor → Bool
field_missing t m r c =
    let k = next_key t m c.index in
    not (leb m.count k) && eqb (field_length (table_order t) (key_type t (key_at m.keys k)) r c.at) 0

-- A step is judged 21, 15, then 16 by its field alone.
unfoldable pub step_judged : List ℕ → ℕ → List ℕ → Cursor → ℕ
step_judged t id r c = judge (template_checks t id ++ ((record_invalid when field_missing t (template_of t id) r c) ∷ []))

-- It answers what the step under the template does, or the refusal.
unfoldable pub step_of : List ℕ → ℕ → List ℕ → Cursor → Step
step_of t id r c =
    cond (eqb (find_answer t id) done) (step_under t (template_of t id) r c) (Err (refusal_of (find_answer t id)))

-- Before the first key, at the first octet.
abbrev pub walk_start : Cursor
walk_start = record { index = 0; at = 0 }

-- Opening is judged over the whole record, 21, 15, 16.
unfoldable pub open_of : List ℕ → ℕ → List ℕ → Result Cursor Refusal
open_of t id r = judged (record_answer t id r) walk_start

-- A step from where an opening stands: a walk whose opening was refused answers that refusal at every step.
unfoldable pub step_from : List ℕ → ℕ → List ℕ → Result Cursor Refusal → Step
step_from t id r (Ok c) = step_of t id r c
step_from t id r (Err refusal) = Err refusal

-- Its number: that of the step at a cursor, or the refusal's again.
abbrev pub step_from_judged : List ℕ → ℕ → List ℕ → Result Cursor Refusal → ℕ
step_from_judged t id r (Ok c) = step_judged t id r c
step_from_judged t id r (Err refusal) = refusal_number refusal

-- What a step answers, its refusal told as what `gives` holds of.
abbrev pub Told : {E : Type 0} → (Refusal → E → Type 0) → Step → StepOr E → Type 0
Told gives (Ok found) result = result ≡ Ok found
Told gives (Err refusal) result = IsErrAnd result (gives refusal)

-- The same where refusals are told as `gives` says, and an opening may be refused with anything of the type that they are told in: a walk
-- whose opening was refused answers that at every step.
abbrev pub StepFrom : {E : Type 0} → (Refusal → E → Type 0) → List ℕ → ℕ → List ℕ → Result Cursor E → StepOr E → Type 0
StepFrom gives t id r (Ok c) result = Told gives (step_of t id r c) result × (answer_number (step_of t id r c) ≡ step_judged t id r c)
StepFrom gives t id r (Err refused) result = result ≡ Err refused

-- What a step answers, its refusal told as its number.
abbrev pub numbered : Step → StepOr ℕ
numbered (Ok found) = Ok found
numbered (Err refusal) = Err (refusal_number refusal)

-- The number of that: `done`, or the refusal's.
abbrev pub told_number : StepOr ℕ → ℕ
told_number (Ok found) = done
told_number (Err a) = a

-- A step from where an opening stands, or was refused with any octet, where refusals are told as their numbers.
abbrev pub step_from_octet : List ℕ → ℕ → List ℕ → Result Cursor ℕ → StepOr ℕ
step_from_octet t id r (Ok c) = numbered (step_of t id r c)
step_from_octet t id r (Err a) = Err a

-- Its number: that of the step at a cursor, or the octet again.
abbrev pub octet_judged : List ℕ → ℕ → List ℕ → Result Cursor ℕ → ℕ
octet_judged t id r (Ok c) = step_judged t id r c
octet_judged t id r (Err a) = a

-- The value of a field that a step under a table answers stands for the integer in the field's octets; the end and a refusal have no value.
abbrev pub Exact : {E : Type 0} → List ℕ → List ℕ → StepOr E → Type 0
Exact t r (Ok (Some (f, c))) = integer_of f.value ≡ integer_at (table_order t) f.kind r f.at
Exact t r (Ok None) = Unit {0}
Exact t r (Err refusal) = Unit {0}

-- ---- the enabled keys

-- The enabled ones of the n keys from key k on, in order.
unfoldable pub enabled_from : List ℕ → Template → ℕ → ℕ → List ℕ
enabled_from t m k zero = []
enabled_from t m k (suc n) = cond (is_enabled t (key_at m.keys k)) (k ∷ enabled_from t m (k + 1) n) (enabled_from t m (k + 1) n)

-- The enabled keys of a template, in order.
abbrev pub enabled_keys : List ℕ → Template → List ℕ
enabled_keys t m = enabled_from t m 0 m.count

-- ---- a whole walk, by any step function; for theorems only: no contract cites these

-- What follows a step: where it answered a field and a cursor, what `next` makes of them, and otherwise `stop`.
abbrev pub after_step : {A : Type 0} → (Field → Cursor → A) → A → Step → A
after_step next stop (Ok (Some (f, c))) = next f c
after_step next stop (Ok None) = stop
after_step next stop (Err refusal) = stop

-- The fields that at most n steps from a cursor visit, up to the first answer that is no field.
unfoldable pub visited : (Cursor → Step) → ℕ → Cursor → List Field
visited walk zero c = []
visited walk (suc n) c = after_step (λ f d. f ∷ visited walk n d) [] (walk c)

-- The cursor where those steps end: that of the first answer that is no field, or the one after n fields.
unfoldable pub last_cursor : (Cursor → Step) → ℕ → Cursor → Cursor
last_cursor walk zero c = c
last_cursor walk (suc n) c = after_step (λ f d. last_cursor walk n d) c (walk c)

-- What is answered there.
abbrev pub last_answer : (Cursor → Step) → ℕ → Cursor → Step
last_answer walk n c = walk (last_cursor walk n c)

-- The octets of fields, laid end to end.
unfoldable pub laid_out : List ℕ → List Field → List ℕ
laid_out r [] = []
laid_out r (f ∷ fs) = take f.len (drop f.at r) ++ laid_out r fs

-- The field types of the enabled keys, in order.
abbrev pub enabled_types : List ℕ → Template → List ℕ
enabled_types t m = map (λ k. key_type t (key_at m.keys k)) (enabled_keys t m)

-- The field of key k in a record that is valid under the template.
abbrev pub field_under : List ℕ → Template → List ℕ → ℕ → Field
field_under t m r k = field_of (table_order t) (key_type t (key_at m.keys k)) r (field_at t m r k)
