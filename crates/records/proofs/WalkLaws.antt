-- Laws of a whole walk over a valid record: it never refuses, visits the fields of the enabled keys in order, ends at the record's end, and
-- the fields, laid end to end, are the record. From key k on the claim goes by the keys that are left: a disabled key changes nothing, and
-- an enabled one gives one field and leaves the rest of the record.
use mathlib.Core.Path.{◌≡◌, refl, sym, ap, ◌∙◌, fun_ext}
use mathlib.Core.Bool.{Bool, true, false, cond, not, ◌&&◌}
use mathlib.Core.List.{List, [], ◌∷◌, ◌++◌, map, map-map}
use Prim.Native.Nat.{ℕ, zero, suc, ◌+◌, ◌-◌, ◌≤◌, ◌<◌}
use native.Mathlib.Nat.{add-zero}
use native.Mathlib.Numerals.{add-one}
use native.Mathlib.Omega.{arith}
use borrow.Author.Rules.{rules}
use borrow.Author.Tests.{le-leb, lt-leb, ne_eqb, ltb-true, eqb-true}
use lib.Dec.{eqb, leb, ltb, lit≤}
use lib.ListN.{length, take, drop, take-append-drop, drop_of_length-le}
use lib.Seq.{drop-drop}
use Rattle.std.specs.Prelude.{Option, Result, Ok, Err, Some, None}
use Rattle.octets.specs.Answers.{done, ◌when◌, judged, Answered, answer_number, refusal_number, refusal_of, unsound_table}
use Rattle.octets.specs.Answers.{template_not_found, record_invalid}
use Rattle.octets.specs.Each.{every}
use Rattle.tables.specs.Table.{table_order, key_at, key_type, is_enabled, table_sound, is_missing, template_of, template_checks}
use Rattle.tables.specs.Table.{find_answer, find_of}
use Rattle.records.specs.Record.{field_length, length_under, field_at, field_valid, record_valid, record_answer}
use Rattle.records.specs.Walk.{field_of, step_judged, step_from, step_from_judged, Told, StepFrom, numbered, told_number, step_from_octet}
use Rattle.records.specs.Walk.{octet_judged}
use Rattle.records.specs.Walk.{next_key, step_under, step_of, walk_start, open_of, after_step, visited, last_cursor, last_answer, laid_out}
use Rattle.records.specs.Walk.{enabled_from, enabled_keys, enabled_types, field_under}
use Rattle.tables.specs.declared.table.Template.{Template}
use Rattle.records.specs.declared.walk.Field.{Field}
use Rattle.records.specs.declared.walk.Cursor.{Cursor}
use Rattle.records.specs.Step.{Step, StepOr}
use Rattle.numbers.specs.declared.refusal.Refusal.{Refusal}
use Rattle.numbers.specs.declared.refusal.Refusal.TheVariants.{RecordInvalid}
use Rattle.octets.proofs.Judging.{judged_next, judged_number, answered, handed_on}
use Rattle.octets.proofs.Each.{and_left, and_right, every_at, first_here, first_on, first_none}

-- ---- walks by any step function

module _ (walk : Cursor → Step) (n : ℕ) where
  -- two cursors with the same answer
  same_visited : (c d : Cursor) → walk c ≡ walk d → visited walk (suc n) c ≡ visited walk (suc n) d
  unfolding visited
  same_visited c d e = ap (after_step (λ f b. f ∷ visited walk n b) []) e

  -- a field
  pub next_visited : (c d : Cursor) (f : Field) → walk c ≡ Ok (Some (f, d)) → visited walk (suc n) c ≡ f ∷ visited walk n d
  unfolding visited
  next_visited c d f e = ap (after_step (λ f b. f ∷ visited walk n b) []) e

  pub next_last : (c d : Cursor) (f : Field) → walk c ≡ Ok (Some (f, d)) → last_cursor walk (suc n) c ≡ last_cursor walk n d
  unfolding last_cursor
  next_last c d f e = ap (after_step (λ f b. last_cursor walk n b) c) e

  -- the end
  pub end_visited : (c : Cursor) → walk c ≡ Ok None → visited walk (suc n) c ≡ []
  unfolding visited
  end_visited c e = ap (after_step (λ f b. f ∷ visited walk n b) []) e

  end_last : (c : Cursor) → walk c ≡ Ok None → last_cursor walk (suc n) c ≡ c
  unfolding last_cursor
  end_last c e = ap (after_step (λ f b. last_cursor walk n b) c) e

  -- what holds of the last cursor from d holds of that from c, where it does of d and c themselves
  same_last : (P : Cursor → Type 0) (c d : Cursor) → walk c ≡ walk d → (P d → P c) → P (last_cursor walk (suc n) d)
      → P (last_cursor walk (suc n) c)
  unfolding last_cursor
  same_last P c d e turn p = rw e (go (walk d) p)
    where
      go : (s : Step) → P (after_step (λ f b. last_cursor walk n b) d s) → P (after_step (λ f b. last_cursor walk n b) c s)
      go (Ok (Some (f, b))) p = p
      go (Ok None) p = turn p
      go (Err refusal) p = turn p

-- A walk of at most n steps from c visits the fields and then answers the end.
abbrev pub Ends : (Cursor → Step) → ℕ → Cursor → List Field → Type 0
Ends walk n c fields = (visited walk n c ≡ fields) × (last_answer walk n c ≡ Ok None)

at_end : (walk : Cursor → Step) (n : ℕ) (c : Cursor) → walk c ≡ Ok None → Ends walk n c []
unfolding visited last_cursor
at_end walk zero c e = (refl, e)
at_end walk (suc n) c e = (rw e, rw e e)

-- a walk that ends does so with every number of steps that is enough for its fields
pub ends_with_enough : (walk : Cursor → Step) (more n : ℕ) (c : Cursor) → last_answer walk more c ≡ Ok None
    → length (visited walk more c) ≤ n → Ends walk n c (visited walk more c)
unfolding visited last_cursor
ends_with_enough walk zero n c e h = at_end walk n c e
ends_with_enough walk (suc more) n c e h = go n (walk c) refl e h (λ n d. ends_with_enough walk more n d)
  where
    go : (n : ℕ) (s : Step) → walk c ≡ s → walk (after_step (λ f d. last_cursor walk more d) c s) ≡ Ok None
        → length (after_step (λ f d. f ∷ visited walk more d) [] s) ≤ n
        → ((n : ℕ) (d : Cursor) → last_answer walk more d ≡ Ok None → length (visited walk more d) ≤ n
        → Ends walk n d (visited walk more d)) → Ends walk n c (after_step (λ f d. f ∷ visited walk more d) [] s)
    go zero (Ok (Some (f, d))) q e h rest = absurd (omega arith)
    go (suc n) (Ok (Some (f, d))) q e h rest = let w = rest n d e (omega arith) in (rw (q, w.0), rw q w.1)
    go n (Ok None) q e h rest = at_end walk n c q
    go n (Err refusal) q e h rest = let y : ◌≡◌ {A = Step} (Err refusal) (Ok None) = sym q ∙ e in absurd (search rules)

-- A walk of at most n steps from c: the fields that it visits, its end, which is the record's, and that the fields are what was left.
pub record Walked (walk : Cursor → Step) (r : List ℕ) (n : ℕ) (c : Cursor) (fields : List Field) : Type 0 where
  pub visits : visited walk n c ≡ fields
  pub ends : last_answer walk n c ≡ Ok None
  pub place : (last_cursor walk n c).at ≡ length r
  pub laid : laid_out r fields ≡ drop c.at r

-- ---- the walk over a valid record

-- before key k, where its field begins
abbrev cursor_at : List ℕ → Template → List ℕ → ℕ → Cursor
cursor_at t m r k = record { index = k; at = field_at t m r k }

field_next : (t : List ℕ) (m : Template) (r : List ℕ) (k : ℕ)
    → field_at t m r (k + 1) ≡ field_at t m r k + length_under t m r k (field_at t m r k)
unfolding field_at
field_next t m r k = rw add-one refl

module _ (t : List ℕ) (m : Template) (r : List ℕ) (k : ℕ) where
  -- no key is left
  step_end : m.count ≤ k → step_under t m r (cursor_at t m r k) ≡ Ok None
  unfolding step_under next_key
  step_end h =
      rw (first_none k (m.count - k) (λ k. is_enabled t (key_at m.keys k)) (omega arith), le-leb m.count k h)

  -- a disabled key has no field
  step_skip : k < m.count → is_enabled t (key_at m.keys k) ≡ false
      → (step_under t m r (cursor_at t m r k) ≡ step_under t m r (cursor_at t m r (k + 1))) × (field_at t m r k ≡ field_at t m r (k + 1))
  unfolding step_under next_key
  step_skip h off =
      let p : field_at t m r (k + 1) ≡ field_at t m r k = field_next t m r k ∙ rw off (add-zero (field_at t m r k)) in
      let n : m.count - k - 1 ≡ m.count - (k + 1) = omega arith in
      (rw (p, first_on k (m.count - k) (λ k. is_enabled t (key_at m.keys k)) (omega arith) off, n), sym p)

  -- an enabled key's field
  step_field : record_valid t m r ≡ true → k < m.count → is_enabled t (key_at m.keys k) ≡ true
      → step_under t m r (cursor_at t m r k) ≡ Ok (Some (field_under t m r k, cursor_at t m r (k + 1)))
  unfolding step_under next_key record_valid
  step_field valid h on =
      let type = key_type t (key_at m.keys k) in
      let at = field_at t m r k in
      let some : ltb 0 (field_length (table_order t) type r at) ≡ true =
      rw on at (every_at m.count (field_valid t m r)
      (and_left (every m.count (field_valid t m r)) (eqb (field_at t m r m.count) (length r)) valid) k h) in
      let p : field_at t m r (k + 1) ≡ at + field_length (table_order t) type r at = field_next t m r k ∙ rw on in
      rw (
        first_here k (m.count - k) (λ k. is_enabled t (key_at m.keys k)) (omega arith) on,
        lt-leb m.count k h,
        ne_eqb (field_length (table_order t) type r at) 0 (λ e. omega (arith, ltb-true 0 (field_length (table_order t) type r at) some)),
        p,
      )

module _ (t : List ℕ) (m : Template) (r : List ℕ) (valid : record_valid t m r ≡ true) where
  -- the fields of all keys are the whole record
  ends_whole : field_at t m r m.count ≡ length r
  unfolding record_valid
  ends_whole =
      eqb-true (field_at t m r m.count) (length r)
      (and_right (every m.count (field_valid t m r)) (eqb (field_at t m r m.count) (length r)) valid)

  -- from key k on, with l keys left and n steps for them besides the one that answers the end
  walk_from : (l k n : ℕ) → k + l ≡ m.count → l ≤ n
      → Walked (step_under t m r) r (suc n) (cursor_at t m r k) (map (field_under t m r) (enabled_from t m k l))
  unfolding enabled_from laid_out
  walk_from zero k n e h =
      let walk = step_under t m r in
      let c = cursor_at t m r k in
      let q : k ≡ m.count = omega arith in
      let s = step_end t m r k (omega arith) in
      let p : field_at t m r k ≡ length r = ap (field_at t m r) q ∙ ends_whole in
      let z = end_last walk n c s in
      record {
        visits = end_visited walk n c s;
        ends = ap walk z ∙ s;
        place = ap (λ (c : Cursor). c.at) z ∙ p;
        laid = sym (drop_of_length-le r {i = field_at t m r k} (omega arith));
      }
  walk_from (suc l) k n e h =
      go (is_enabled t (key_at m.keys k)) refl (λ n b. walk_from l (k + 1) n (omega arith) b)
    where
      walk : Cursor → Step
      walk = step_under t m r

      c : Cursor
      c = cursor_at t m r k

      d : Cursor
      d = cursor_at t m r (k + 1)

      f : Field
      f = field_under t m r k

      keys : List ℕ
      keys = enabled_from t m (k + 1) l

      go : (b : Bool) → is_enabled t (key_at m.keys k) ≡ b → ((n : ℕ) → l ≤ n → Walked walk r (suc n) d (map (field_under t m r) keys))
          → Walked walk r (suc n) c (map (field_under t m r) (cond b (k ∷ keys) keys))
      go true on rest =
          let q : suc (n - 1) ≡ n = omega arith in
          let w = rw q at (rest (n - 1) (omega arith)) in
          let s = step_field t m r k valid (omega arith) on in
          let z = next_last walk n c d f s in
          let p : field_at t m r (k + 1) ≡ field_at t m r k + f.len = field_next t m r k ∙ rw on in
          record {
            visits = next_visited walk n c d f s ∙ ap (λ (fs : List Field). f ∷ fs) w.visits;
            ends = ap walk z ∙ w.ends;
            place = ap (λ (c : Cursor). c.at) z ∙ w.place;
            laid =
                ap (λ (s : List ℕ). take f.len (drop (field_at t m r k) r) ++ s)
                (w.laid ∙ ap (λ (i : ℕ). drop i r) p ∙ sym (drop-drop f.len (field_at t m r k) r))
                ∙ take-append-drop f.len (drop (field_at t m r k) r);
          }
      go false off rest =
          let w = rest n (omega arith) in
          let s = step_skip t m r k (omega arith) off in
          record {
            visits = same_visited walk n c d s.0 ∙ w.visits;
            ends = same_last walk n (λ c. walk c ≡ Ok None) c d s.0 (λ q. s.0 ∙ q) w.ends;
            place = same_last walk n (λ c. c.at ≡ length r) c d s.0 (λ q. s.1 ∙ q) w.place;
            laid = w.laid ∙ ap (λ (i : ℕ). drop i r) (sym s.1);
          }

  -- The whole walk from its start, with steps for all keys and the end.
  pub walk_whole : (n : ℕ) → m.count < n → Walked (step_under t m r) r n walk_start (map (field_under t m r) (enabled_keys t m))
  unfolding field_at
  walk_whole n h =
      let q : suc (n - 1) ≡ n = omega arith in
      rw q at (walk_from m.count 0 (n - 1) (omega arith) (omega arith))

-- The types of the fields that it visits are those of the enabled keys, in order.
pub walk_types : (t : List ℕ) (m : Template) (r : List ℕ) → map (λ f. f.kind) (map (field_under t m r) (enabled_keys t m)) ≡ enabled_types t m
walk_types t m r = map-map (λ f. f.kind) (field_under t m r) (enabled_keys t m)

-- ---- THE ANSWER NUMBERS: the number of an opening and of a step is the number that it is judged by

-- a record's number is that of an answer
pub record_number : (t : List ℕ) (id : ℕ) (r : List ℕ) → record_answer t id r ≤ 22
unfolding record_answer
record_number t id r = go (table_sound t) (is_missing t id) (record_valid t (template_of t id) r)
  where
    go : (s g v : Bool) → cond (not s) unsound_table (cond g template_not_found (cond (not v) record_invalid done)) ≤ 22
    go false g v = lit≤ tt
    go true true v = lit≤ tt
    go true false false = lit≤ tt
    go true false true = lit≤ tt

pub open_number : (t : List ℕ) (id : ℕ) (r : List ℕ) → answer_number (open_of t id r) ≡ record_answer t id r
unfolding open_of
open_number t id r = judged_number (record_answer t id r) walk_start (record_number t id r)

pub step_number : (t : List ℕ) (id : ℕ) (r : List ℕ) (c : Cursor) → answer_number (step_of t id r c) ≡ step_judged t id r c
unfolding step_of step_under step_judged refusal_of
step_number t id r c = go (table_sound t) (is_missing t id) (leb m.count k) (eqb (field_length (table_order t) type r c.at) 0)
  where
    m : Template
    m = template_of t id

    k : ℕ
    k = next_key t m c.index

    type : ℕ
    type = key_type t (key_at m.keys k)

    number : Bool → Bool → ℕ → ℕ
    number sound missing rest = cond (not sound) unsound_table (cond missing template_not_found rest)

    go : (sound missing last none : Bool)
        → answer_number {A = Option (Field × Cursor)}
        (cond (eqb (number sound missing done) done)
        (cond last (Ok None) (cond none (Err RecordInvalid)
        (Ok (Some (
          field_of (table_order t) type r c.at,
          record { index = k + 1; at = c.at + field_length (table_order t) type r c.at },
        )))))
        (Err (refusal_of (number sound missing done))))
        ≡ number sound missing (cond (not last && none) record_invalid done)
    go false missing last none = refl
    go true true last none = refl
    go true false true none = refl
    go true false false true = refl
    go true false false false = refl

-- ---- a step from where an opening stands

-- where refusals are told as they are
pub told_same : (s : Step) {result : Step} → Told (λ refusal told. told ≡ refusal) s result → result ≡ s
told_same (Ok found) h = h
told_same (Err refusal) h = handed_on h

pub step_from_refusal : (t : List ℕ) (id : ℕ) (r : List ℕ) (place : Result Cursor Refusal) {result : Step}
    → StepFrom (λ refusal told. told ≡ refusal) t id r place result
    → Answered answer_number result (step_from t id r place) (step_from_judged t id r place)
unfolding step_from
step_from_refusal t id r (Ok c) h = answered h.1 (told_same (step_of t id r c) h.0)
step_from_refusal t id r (Err refusal) {result} h = let e : ◌≡◌ {A = Step} result (Err refusal) = h in answered refl e

-- where they are told as their numbers, from any octet
told_numbered : (s : Step) {result : StepOr ℕ} → Told (λ refusal a. a ≡ refusal_number refusal) s result → result ≡ numbered s
told_numbered (Ok found) h = h
told_numbered (Err refusal) {result = Ok found} h = absurd (search rules)
told_numbered (Err refusal) {result = Err a} h = search rules

numbered_number : (s : Step) → told_number (numbered s) ≡ answer_number s
numbered_number (Ok found) = refl
numbered_number (Err refusal) = refl

pub step_from_any_octet : (t : List ℕ) (id : ℕ) (r : List ℕ) (place : Result Cursor ℕ) {result : StepOr ℕ}
    → StepFrom (λ refusal a. a ≡ refusal_number refusal) t id r place result
    → Answered told_number result (step_from_octet t id r place) (octet_judged t id r place)
step_from_any_octet t id r (Ok c) h = answered (numbered_number (step_of t id r c) ∙ h.1) (told_numbered (step_of t id r c) h.0)
step_from_any_octet t id r (Err a) {result} h = let e : ◌≡◌ {A = StepOr ℕ} result (Err a) = h in answered refl e

-- ---- the same of the public calls

-- a template that is not found refuses every step
pub step_refused : (t : List ℕ) (id : ℕ) (r : List ℕ) (c : Cursor) (refusal : Refusal) → find_of t id ≡ Err refusal
    → step_of t id r c ≡ Err refusal
unfolding step_of find_of judged
step_refused t id r c refusal = go (eqb (find_answer t id) done)
  where
    go : (b : Bool) → cond b (Ok (template_of t id)) (Err (refusal_of (find_answer t id))) ≡ Err refusal
        → cond b (step_under t (template_of t id) r c) (Err (refusal_of (find_answer t id))) ≡ Err refusal
    go true e = absurd (search rules)
    go false e = search rules

-- a valid record under a template that is found is not refused
pub found_valid : (t : List ℕ) (id : ℕ) (r : List ℕ) → find_answer t id ≡ done → record_valid t (template_of t id) r ≡ true
    → record_answer t id r ≡ done
unfolding record_answer
found_valid t id r found valid =
    judged_next (template_checks t id) ((record_invalid when not (record_valid t (template_of t id) r)) ∷ []) tt found ∙ rw valid

-- and a walk opens at its start
pub valid_opens : (t : List ℕ) (id : ℕ) (r : List ℕ) → record_answer t id r ≡ done → open_of t id r ≡ Ok walk_start
unfolding open_of judged
valid_opens t id r e = rw e refl

-- an opening that is accepted
pub record Accepted (t : List ℕ) (id : ℕ) (r : List ℕ) (c : Cursor) : Type 0 where
  pub sound : table_sound t ≡ true
  pub known : is_missing t id ≡ false
  pub valid : record_valid t (template_of t id) r ≡ true
  pub start : c ≡ walk_start

pub open_accepts : (t : List ℕ) (id : ℕ) (r : List ℕ) (c : Cursor) → open_of t id r ≡ Ok c → Accepted t id r c
unfolding open_of record_answer judged refusal_of
open_accepts t id r c h = go (table_sound t) refl (is_missing t id) refl (record_valid t (template_of t id) r) refl h
  where
    number : Bool → Bool → Bool → ℕ
    number s g v = cond (not s) unsound_table (cond g template_not_found (cond (not v) record_invalid done))

    go : (s : Bool) → table_sound t ≡ s → (g : Bool) → is_missing t id ≡ g → (v : Bool) → record_valid t (template_of t id) r ≡ v
        → judged (number s g v) walk_start ≡ Ok c → Accepted t id r c
    go true e false f true g h = record { sound = e; known = f; valid = g; start = cc }
    go true e false f false g h = absurd (search rules)
    go true e true f v g h = absurd (search rules)
    go false e m f v g h = absurd (search rules)

-- its steps are those under its template
pub step_under_lem : (t : List ℕ) (id : ℕ) (r : List ℕ) → table_sound t ≡ true → is_missing t id ≡ false
    → step_of t id r ≡ step_under t (template_of t id) r
unfolding step_of
step_under_lem t id r sound known = fun_ext (λ c. rw (sound, known))

-- The walk that `open_walk` opens and `step_walk` steps.
pub walk_opened : (t : List ℕ) (id : ℕ) (r : List ℕ) (c : Cursor) → open_of t id r ≡ Ok c → (n : ℕ) → (template_of t id).count < n
    → Walked (step_of t id r) r n c (map (field_under t (template_of t id) r) (enabled_keys t (template_of t id)))
walk_opened t id r c h n more =
    let a = open_accepts t id r c h in
    rw (a.start, step_under_lem t id r a.sound a.known) (walk_whole t (template_of t id) r a.valid n more)

-- Its fields have the types of the enabled keys, in order, and laid end to end they are the record.
pub opened_types : (t : List ℕ) (id : ℕ) (r : List ℕ) (c : Cursor) → open_of t id r ≡ Ok c → (n : ℕ) → (template_of t id).count < n
    → map (λ f. f.kind) (visited (step_of t id r) n c) ≡ enabled_types t (template_of t id)
opened_types t id r c h n more = rw (walk_opened t id r c h n more).visits (walk_types t (template_of t id) r)

pub opened_laid : (t : List ℕ) (id : ℕ) (r : List ℕ) (c : Cursor) → open_of t id r ≡ Ok c → (n : ℕ) → (template_of t id).count < n
    → laid_out r (visited (step_of t id r) n c) ≡ r
opened_laid t id r c h n more =
    let w = walk_opened t id r c h n more in
    rw w.visits (w.laid ∙ ap (λ (c : Cursor). drop c.at r) (open_accepts t id r c h).start)
