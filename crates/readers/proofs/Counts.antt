-- Laws of counting the fields of a record: who counts on the way of a walk counts the enabled keys. The fields counted and those that the
-- walk still visits are always as many as the enabled keys; no step refuses, and at the end nothing is left.
use mathlib.Core.Path.{◌≡◌, refl, sym, ap, ◌∙◌}
use mathlib.Core.Bool.{Bool, true, false, cond}
use mathlib.Core.List.{List, ◌∷◌}
use Prim.Native.Nat.{ℕ, zero, suc, ◌+◌, ◌-◌, ◌≤◌, ◌<◌}
use native.Mathlib.Nat.{zero-add, le_refl}
use native.Mathlib.Omega.{arith}
use borrow.Author.Rules.{rules}
use lib.ListN.{length, length-map}
use Rattle.std.specs.Prelude.{Ok, Err, Some, None}
use Rattle.octets.specs.Answers.{judged, answer_number}
use Rattle.octets.proofs.Judging.{judged_ok, judged_err, judged_number}
use Rattle.tables.specs.Table.{max_keys, key_at, is_enabled, template_of}
use Rattle.tables.specs.declared.table.Template.{Template}
use Rattle.tables.proofs.Tables.{template_few}
use Rattle.records.specs.Record.{record_answer}
use Rattle.records.specs.Walk.{step_of, walk_start, open_of, after_step, visited, last_cursor, last_answer, enabled_from, enabled_keys, field_under}
use Rattle.records.specs.declared.walk.Field.{Field}
use Rattle.records.specs.declared.walk.Cursor.{Cursor}
use Rattle.numbers.specs.declared.refusal.Refusal.{Refusal}
use Rattle.records.specs.Step.{Step}
use Rattle.records.proofs.WalkLaws.{next_visited, next_last, end_visited, open_accepts, walk_opened, record_number}
use Rattle.readers.specs.Count.{count_of}

-- no more keys are enabled than there are
enabled_few : (t : List ℕ) (m : Template) (k n : ℕ) → length (enabled_from t m k n) ≤ n
unfolding enabled_from
enabled_few t m k zero = le_refl 0
enabled_few t m k (suc n) = go (is_enabled t (key_at m.keys k)) (enabled_few t m (k + 1) n)
  where
    keys : List ℕ
    keys = enabled_from t m (k + 1) n

    go : (b : Bool) → length keys ≤ n → length (cond b (k ∷ keys) keys) ≤ suc n
    go true h = omega arith
    go false h = omega arith

-- After n fields of a valid record the walk stands at c, with one step more than are left of the most keys: these n and the fields that it
-- still visits are those of the enabled keys, and it ends there.
pub record Counting (t : List ℕ) (id : ℕ) (r : List ℕ) (n : ℕ) (c : Cursor) : Type 0 where
  pub answer : count_of t id r ≡ Ok (length (enabled_keys t (template_of t id)))
  pub few : length (enabled_keys t (template_of t id)) ≤ max_keys
  pub fields : n + length (visited (step_of t id r) (suc (max_keys - n)) c) ≡ length (enabled_keys t (template_of t id))
  pub ends : last_answer (step_of t id r) (suc (max_keys - n)) c ≡ Ok None

-- An accepted opening begins to count.
pub count_opened : (t : List ℕ) (id : ℕ) (r : List ℕ) (c : Cursor) → open_of t id r ≡ Ok c → Counting t id r 0 c
unfolding count_of open_of judged
count_opened t id r c h =
    let m = template_of t id in
    let a = open_accepts t id r c h in
    let l : m.count ≤ max_keys = template_few t id a.sound a.known in
    let w = walk_opened t id r c h 33 (omega arith) in
    record {
      answer = rw (judged_ok (record_answer t id r) walk_start h) refl;
      few = omega (arith, l, enabled_few t m 0 m.count);
      fields = zero-add _ ∙ ap length w.visits ∙ length-map (enabled_keys t m) (field_under t m r);
      ends = w.ends;
    }

-- A refused opening is the answer.
pub count_refused : (t : List ℕ) (id : ℕ) (r : List ℕ) (refusal : Refusal) → open_of t id r ≡ Err refusal → Err refusal ≡ count_of t id r
unfolding count_of open_of
count_refused t id r refusal h = sym (judged_err (record_answer t id r) walk_start (length (enabled_keys t (template_of t id))) h)

-- Its number is the one that the record is judged by.
pub count_number : (t : List ℕ) (id : ℕ) (r : List ℕ) → answer_number (count_of t id r) ≡ record_answer t id r
unfolding count_of
count_number t id r = judged_number (record_answer t id r) (length (enabled_keys t (template_of t id))) (record_number t id r)

module _ (t : List ℕ) (id : ℕ) (r : List ℕ) (n : ℕ) (c : Cursor) (l : Counting t id r n c) where
  -- A field is counted.
  pub count_next : n < max_keys → (f : Field) (d : Cursor) → step_of t id r c ≡ Ok (Some (f, d)) → Counting t id r (n + 1) d
  count_next h f d e =
      let q : max_keys - n ≡ suc (max_keys - (n + 1)) = omega arith in
      record {
        answer = l.answer;
        few = l.few;
        fields = rw (← q) (omega (arith, ap length (next_visited (step_of t id r) (max_keys - n) c d f e), l.fields));
        ends = rw (← q) (ap (step_of t id r) (sym (next_last (step_of t id r) (max_keys - n) c d f e)) ∙ l.ends);
      }

  -- At the end all are counted, and so they are after that many keys.
  pub count_end : step_of t id r c ≡ Ok None → Ok n ≡ count_of t id r
  count_end e = ap Ok (omega (arith, ap length (end_visited (step_of t id r) (max_keys - n) c e), l.fields)) ∙ sym l.answer

  pub count_full : max_keys ≤ n → Ok n ≡ count_of t id r
  count_full h = ap Ok (omega (arith, l.fields, l.few)) ∙ sym l.answer

  -- No step refuses.
  pub count_goes : (refusal : Refusal) → step_of t id r c ≡ Err refusal → ⊥
  unfolding last_cursor
  count_goes refusal e =
      let z : last_cursor (step_of t id r) (suc (max_keys - n)) c ≡ c =
      ap (after_step (λ f b. last_cursor (step_of t id r) (max_keys - n) b) c) e in
      let s : ◌≡◌ {A = Step} (Err refusal) (Ok None) = sym e ∙ ap (step_of t id r) (sym z) ∙ l.ends in
      absurd (search rules)
