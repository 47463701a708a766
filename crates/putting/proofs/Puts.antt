-- wire judges table, template and record together; the first laws put the Configuration ID and the limit of octets in their turn, and the
-- room behind them. An accepted put is the step of the definition.
use Rattle.std.proofs.Common.{◌≡◌, ne_eqb, arith, eq-eqb, le-ltb, lt-ltb, ℕ, ◌+◌, ◌%◌, ◌<◌, ◌≤◌, Bool, true, false, cond, not, ◌&&◌, eqb, List, [], ◌∷◌, ◌++◌, length, sym, refl, ◌∙◌, ltb-false, eqb-true, leb-false}
use borrow.Author.Tests.{not-false}
use mathlib.Core.Path.{ap}
use mathlib.Core.Logic.{◌⊎◌, inl, inr}
use Rattle.octets.specs.Answers.{◌when◌, judge, judged, refusal_of, done, unsound_state, Answered, answer_number}
use Rattle.octets.proofs.Judging.{passed, judged_first, judged_next, judged_ok}
use Rattle.std.specs.Prelude.{Result, Ok, Err}
use Rattle.numbers.specs.declared.refusal.Refusal.{Refusal}
use Rattle.numbers.specs.declared.refusal.Refusal.TheVariants.{UnsoundTable, TemplateNotFound, RecordInvalid, RecordTooLong}
use Rattle.octets.proofs.Each.{and_left, and_right}
use Rattle.wire.specs.Table.{table_sound, configuration_id, is_missing, template_of}
use Rattle.wire.specs.Record.{record_valid, record_answer}
use Rattle.wire.specs.Replies.{crane}
use Rattle.session.specs.Sound.{sound}
use Rattle.session.specs.Steps.{put, answer, checks, sound_for, after, store_after, Outcome, put_step, stepped_of}
use Rattle.session.specs.Steps.{record_checks, room_checks}
use Rattle.session.specs.Queue.{held_octets, ring_write, pushed}
use Rattle.session.specs.declared.state.Settings.{Settings}
use Rattle.session.specs.declared.state.Queue.{Queue}
use Rattle.session.specs.declared.state.State.{State}
use Rattle.session.proofs.SoundFacts.{sound_facts}
use Rattle.session.proofs.StepLaws.{settled_same, step_done, step_kept, step_err, answered_ok, refused_number}

-- what wire answers to a record
told_by : Bool → Bool → Bool → Result (Unit {0}) Refusal
told_by sound missing valid =
    cond (not sound) (Err UnsoundTable) (cond missing (Err TemplateNotFound) (cond valid (Ok (tt {0})) (Err RecordInvalid)))

module _ (p : Settings) (table : List ℕ) (id : ℕ) (r : List ℕ) where
  told : judged (record_answer table id r) (tt {0})
      ≡ told_by (table_sound table) (is_missing table id) (record_valid table (template_of table id) r)
  unfolding record_answer judged refusal_of told_by
  told = go (table_sound table) (is_missing table id) (record_valid table (template_of table id) r)
    where
      go : (sound missing valid : Bool)
          → judged (judge ((21 when not sound) ∷ (15 when missing) ∷ (16 when not valid) ∷ [])) (tt {0}) ≡ told_by sound missing valid
      go false missing valid = refl
      go true true valid = refl
      go true false true = refl
      go true false false = refl

  abbrev expected : Result (Unit {0}) Refusal
  expected = judged (judge (record_checks p table id r)) (tt {0})

  -- another configuration
  pub other_table : (configuration_id table ≡ p.config → ⊥) → Err UnsoundTable ≡ expected
  unfolding judged refusal_of
  other_table n = go (table_sound table) refl
    where
      go : (s : Bool) → table_sound table ≡ s → Err UnsoundTable ≡ expected
      go true e = rw (e, ne_eqb (configuration_id table) p.config n) refl
      go false e = rw e refl

  -- of the session's configuration, and not too long
  pub short_record : configuration_id table ≡ p.config → length r ≤ 1024 → judged (record_answer table id r) (tt {0}) ≡ expected
  unfolding judged refusal_of told_by
  short_record same l = told ∙ go (table_sound table) (is_missing table id) (record_valid table (template_of table id) r) refl refl refl
    where
      go : (s m v : Bool) → table_sound table ≡ s → is_missing table id ≡ m → record_valid table (template_of table id) r ≡ v
          → told_by s m v ≡ expected
      go false m v a b c = rw a refl
      go true true v a b c = rw (a, eq-eqb (configuration_id table) p.config same, b) refl
      go true false true a b c = rw (a, eq-eqb (configuration_id table) p.config same, b, le-ltb 1024 (length r) l, c) refl
      go true false false a b c = rw (a, eq-eqb (configuration_id table) p.config same, b, le-ltb 1024 (length r) l, c) refl

  -- too long: 17 where the table has the template
  pub long_record : configuration_id table ≡ p.config → 1024 < length r → table_sound table ≡ true → is_missing table id ≡ false
      → Err RecordTooLong ≡ expected
  unfolding judged refusal_of
  long_record same l a b = rw (a, eq-eqb (configuration_id table) p.config same, b, lt-ltb 1024 (length r) l) refl

  -- wire's answers of a template that there is
  pub present : {found : Result (Unit {0}) Refusal} → judged (record_answer table id r) (tt {0}) ≡ found
      → (found ≡ Ok (tt {0})) ⊎ (found ≡ Err RecordInvalid)
      → (table_sound table ≡ true) × (is_missing table id ≡ false)
  unfolding told_by
  present {found = found} e h = go (table_sound table) (is_missing table id) (record_valid table (template_of table id) r) (sym told ∙ e) h
    where
      go : (s m v : Bool) → told_by s m v ≡ found → (found ≡ Ok (tt {0})) ⊎ (found ≡ Err RecordInvalid) → (s ≡ true) × (m ≡ false)
      go false m v e (inl k) = let z : ◌≡◌ {A = ℕ} 0 1 = cc in absurd (omega arith)
      go false m v e (inr k) = let z : ◌≡◌ {A = ℕ} 0 1 = cc in absurd (omega arith)
      go true true v e (inl k) = let z : ◌≡◌ {A = ℕ} 0 1 = cc in absurd (omega arith)
      go true true v e (inr k) = let z : ◌≡◌ {A = ℕ} 0 1 = cc in absurd (omega arith)
      go true false v e h = (refl, refl)

  -- wire's other refusals are the first
  pub of_table : {refusal : Refusal} → configuration_id table ≡ p.config → judged (record_answer table id r) (tt {0}) ≡ Err refusal
      → (refusal ≡ RecordInvalid → ⊥) → Err refusal ≡ expected
  unfolding judged refusal_of told_by
  of_table {refusal = refusal} same e n =
      go (table_sound table) (is_missing table id) (record_valid table (template_of table id) r) refl refl (sym told ∙ e)
    where
      go : (s m v : Bool) → table_sound table ≡ s → is_missing table id ≡ m → told_by s m v ≡ Err refusal → Err refusal ≡ expected
      go false m v a b k = sym k ∙ rw a refl
      go true true v a b k = sym k ∙ rw (a, eq-eqb (configuration_id table) p.config same, b) refl
      go true false true a b k = let z : ◌≡◌ {A = ℕ} 0 1 = cc in absurd (omega arith)
      go true false false a b k = let z : refusal ≡ RecordInvalid = cc in absurd (n z)

-- the record is judged, and then the room
module _ (p : Settings) (capacity n held : ℕ) (table : List ℕ) (id : ℕ) (r : List ℕ) where
  -- a refusal of the record is the first
  pub refused_first : {refusal : Refusal} → judged (judge (record_checks p table id r)) (tt {0}) ≡ Err refusal
      → Err refusal ≡ judged (judge (record_checks p table id r ++ room_checks capacity n held r)) (tt {0})
  refused_first e =
      sym (ap (λ (k : ℕ). judged k (tt {0})) (judged_first (record_checks p table id r) (room_checks capacity n held r) (refused_number (tt {0}) e)) ∙ e)

  -- where there is none the room decides
  pub passed_first : {found : Unit {0}} {result : Result (Unit {0}) Refusal} → judged (judge (record_checks p table id r)) (tt {0}) ≡ Ok found
      → result ≡ judged (judge (room_checks capacity n held r)) (tt {0})
      → result ≡ judged (judge (record_checks p table id r ++ room_checks capacity n held r)) (tt {0})
  passed_first e k =
      k ∙ sym (ap (λ (k : ℕ). judged k (tt {0})) (judged_next (record_checks p table id r) (room_checks capacity n held r) tt (judged_ok _ (tt {0}) e)))

-- what an accepted put knows
pub record PutFacts (s : State) (store r : List ℕ) : Type 0 where
  pub is_sound : sound s ≡ true
  pub stored : length store ≡ s.capacity
  pub few : s.queue.count < 64
  pub short : length r ≤ 1024

module _ (s : State) (store table : List ℕ) (id : ℕ) (r : List ℕ) where
  -- what a put is judged, by the sum of the held octets
  pub put_judged : {held : ℕ} {result : Result (Unit {0}) Refusal} → held ≡ held_octets s.queue
      → result ≡ judged (judge ((unsound_state when not (sound s && eqb (length store) s.capacity))
      ∷ (record_checks s.settings table id r ++ room_checks s.capacity s.queue.count held r))) (tt {0})
      → result ≡ judged (answer crane 0 (put table id r) s store) (tt {0})
  unfolding answer checks
  put_judged h e = rw (← h) e

  pub put_facts : answer crane 0 (put table id r) s store ≡ done → PutFacts s store r
  unfolding answer checks
  put_facts e =
      let p = passed ((unsound_state when not (sound_for (put table id r) s store)) ∷ checks crane 0 (put table id r) s store) tt e in
      let both = not-false (sound s && eqb (length store) s.capacity) p.0 in
      record {
        is_sound = and_left (sound s) _ both;
        stored = eqb-true (length store) s.capacity (and_right (sound s) _ both);
        few = leb-false 64 s.queue.count p.1.1.1.1.1.0;
        short = ltb-false 1024 (length r) p.1.1.1.0;
      }

  -- a refused put changes nothing
  pub put_refused : {refusal : Refusal} → judged (answer crane 0 (put table id r) s store) (tt {0}) ≡ Err refusal
      → let o = put_step s store table id r in
      Answered answer_number (Err refusal) (stepped_of o) o.answer × (store ≡ o.store)
  unfolding checks
  put_refused e = (
    step_err crane 0 (put table id r) s store (tt {0}) (put_step s store table id r).state refl e,
    sym (ap (λ (o : Outcome). o.store) (step_kept crane 0 (put table id r) s store (tt {0}) e)),
  )

  -- an accepted one fills the first unused entries
  pub put_done : answer crane 0 (put table id r) s store ≡ done → {q : Queue} {held : ℕ} {left : List ℕ} → q ≡ pushed s.queue id (length r)
      → held ≡ held_octets s.queue → left ≡ ring_write (length store) store (s.start + held) r
      → let o = put_step s store table id r in
      Answered answer_number
      (Ok (record {
        settings = s.settings;
        capacity = s.capacity;
        delivery = s.delivery;
        due = s.due;
        queue = q;
        start = s.start;
        next = (s.next + 1) % 4294967296;
      }))
      (stepped_of o) o.answer × (left ≡ o.store)
  unfolding after store_after
  put_done e q h l =
      let f = put_facts e in
      rw (
        step_done crane 0 (put table id r) s store e,
        settled_same (after 32 (put table id r) s) (sound_facts s f.is_sound).choice,
      )
      (answered_ok refl (rw q refl), rw (h, f.stored) at l)
