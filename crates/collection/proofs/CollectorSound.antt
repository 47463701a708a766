-- A collector whose state lies within what was set, lent memory of the lengths set, stays so with every call, and no call of it is answered
-- 1 (02, ask 4). Each call's own refusals say what it needs: that an entry fits the octets left, that a table is sound and so short enough.
use mathlib.Core.Path.{◌≡◌, refl, sym, ◌∙◌}
use mathlib.Core.Bool.{Bool, true, false, ◌&&◌, cond}
use mathlib.Core.List.{List}
use Prim.Native.Nat.{ℕ, ◌+◌, ◌-◌, ◌≤◌}
use native.Mathlib.Omega.{arith}
use borrow.Author.Tests.{eqb-true, eqb-false, eq-eqb, ne_eqb, ltb-false, le-leb, not-false}
use lib.Dec.{eqb, ltb}
use lib.ListN.{length}
use lib.Seq.{length-sets}
use Rattle.octets.specs.Answers.{judge, done, unsound_state}
use Rattle.octets.proofs.Judging.{passed, judge_other}
use Rattle.wire.specs.Table.{table_sound, max_table_octets}
use Rattle.wire.specs.Messages.{meaning_of}
use Rattle.wire.specs.Replies.{Encoding, silent}
use Rattle.wire.proofs.Received.{form_numbered}
use Rattle.wire.proofs.Tables.{table_facts}
use Rattle.messages.specs.declared.message.DataHead.{DataHead}
use Rattle.messages.specs.declared.message.Message.{Message}
use Rattle.messages.specs.declared.message.Message.TheVariants.{Start, StartAck, Stop, StopAck, TmplData, FinalTmplDataAck}
use Rattle.messages.specs.declared.message.Message.TheVariants.{StartNegotiate, StartNegotiateAck, Data, DataAck}
use Rattle.collection.specs.Journal.{entry_length, entry_octets}
use Rattle.collection.specs.Collector.{Memory, Command, write_start, write_stop, note, agree_to, take_record, malformed, fresh_collector}
use Rattle.collection.specs.Collector.{collector_sound, memory_fits, sound_for, is_collected, collected_form, command_of_message, collected}
use Rattle.collection.specs.Collector.{in_sequence, processed, journaled, entry_for, written, checks, answer, after, memory_after}
use Rattle.collection.specs.Collector.{Outcome, step}
use Rattle.collection.specs.declared.state.Collector.{Collector}

-- the state and its memory are sound
pub record Fit (c : Collector) (m : Memory) : Type 0 where
  pub used : c.used ≤ c.capacity
  pub table : c.table ≤ max_table_octets
  pub journal : length m.journal ≡ c.capacity
  pub memory : length m.table ≡ max_table_octets

-- fresh, with 16,384 octets for tables
pub fresh_fit : (session : ℕ) (m : Memory) → length m.table ≡ max_table_octets → Fit (fresh_collector session (length m.journal)) m
unfolding fresh_collector
fresh_fit session m e = record { used = omega arith; table = omega arith; journal = refl; memory = e }

-- so no call judges it unsound
pub fit_sound : (k : Command) (c : Collector) (m : Memory) → Fit c m → sound_for k c m ≡ true
fit_sound k c m f = go k
  where
    inside : collector_sound c ≡ true
    inside = rw (le-leb c.used c.capacity f.used, le-leb c.table max_table_octets f.table)

    both : collector_sound c && memory_fits c m ≡ true
    both =
        rw (inside, eq-eqb (length m.journal) c.capacity f.journal, eq-eqb (length m.table) max_table_octets f.memory)

    go : (k : Command) → sound_for k c m ≡ true
    go write_start = inside
    go write_stop = inside
    go note = both
    go (agree_to table) = both
    go (take_record h r) = both
    go (malformed a) = both

-- a form's refusal is not 1
abbrev pub Fair : Command → Type 0
Fair write_start = Unit {0}
Fair write_stop = Unit {0}
Fair note = Unit {0}
Fair (agree_to table) = Unit {0}
Fair (take_record h r) = Unit {0}
Fair (malformed a) = (3 ≤ a)

-- what is received is fair
pub collected_fair : (session : ℕ) (m : List ℕ) → Fair (collected session m)
unfolding collected command_of_message
collected_fair session m = go (eqb (collected_form session m) done) refl (meaning_of m)
  where
    go : (b : Bool) → eqb (collected_form session m) done ≡ b → (x : Message)
        → Fair (cond b (command_of_message m x) (malformed (collected_form session m)))
    go true e (Start s) = omega arith
    go true e (StartAck s boot) = tt
    go true e (Stop s) = omega arith
    go true e (StopAck s) = tt
    go true e (TmplData s) = tt
    go true e (FinalTmplDataAck s config) = omega arith
    go true e (StartNegotiate s) = omega arith
    go true e (StartNegotiateAck s) = omega arith
    go true e (Data h) = tt
    go true e (DataAck s dsn config) = omega arith
    go false e x = (form_numbered is_collected session m (eqb-false (collected_form session m) done e)).0

module _ (e : Encoding) (room : ℕ) (c : Collector) (m : Memory) (f : Fit c m) where
  abbrev w : ℕ
  w = e.width

  judged : (k : Command) → answer e room k c m ≡ judge (checks e room k c m)
  unfolding answer
  judged k = rw (fit_sound k c m f)

  -- ---- every call keeps it

  -- an accepted record in sequence fits the octets left of the journal
  pub entry_fits : (h : DataHead) (r : List ℕ) → judge (checks e room (take_record h r) c m) ≡ done → in_sequence w c.last h ≡ true
      → c.used + entry_length r ≤ c.capacity
  unfolding checks
  entry_fits h r q s =
      let full : in_sequence w c.last h && ltb (c.capacity - c.used) (entry_length r) ≡ false =
      (passed (checks e room (take_record h r) c m) tt q).1.1.1.1.1.1.0 in
      let fits : entry_length r ≤ c.capacity - c.used = ltb-false (c.capacity - c.used) (entry_length r) (rw s at full) in
      omega (arith, f.used)

  record_fit : (h : DataHead) (r : List ℕ) → judge (checks e room (take_record h r) c m) ≡ done
      → Fit (after w (take_record h r) c) (memory_after w (take_record h r) c m)
  unfolding after memory_after
  record_fit h r q = go (in_sequence w c.last h) refl
    where
      go : (b : Bool) → in_sequence w c.last h ≡ b → Fit (cond b (processed c h.dsn r) c) (cond b (journaled c m h r) m)
      go true s =
          record {
            used = entry_fits h r q s;
            table = f.table;
            journal = length-sets m.journal c.used (entry_octets (entry_for h r)) ∙ f.journal;
            memory = f.memory;
          }
      go false s = f

  table_fit : (table : List ℕ) → judge (checks e room (agree_to table) c m) ≡ done
      → Fit (after w (agree_to table) c) (memory_after w (agree_to table) c m)
  unfolding checks after memory_after
  table_fit table q =
      let s : table_sound table ≡ true = not-false (table_sound table) (passed (checks e room (agree_to table) c m) tt q).0 in
      record {
        used = f.used;
        table = (table_facts table s).short;
        journal = f.journal;
        memory = length-sets m.table 0 table ∙ f.memory;
      }

  accepted_fit : (k : Command) → judge (checks e room k c m) ≡ done → Fit (after w k c) (memory_after w k c m)
  unfolding after memory_after
  accepted_fit write_start q = record { used = f.used; table = omega arith; journal = f.journal; memory = f.memory }
  accepted_fit write_stop q = record { used = f.used; table = omega arith; journal = f.journal; memory = f.memory }
  accepted_fit note q = f
  accepted_fit (agree_to table) q = table_fit table q
  accepted_fit (take_record h r) q = record_fit h r q
  accepted_fit (malformed a) q = f

  pub step_fit : (k : Command) → let o = step e room k c m in Fit o.collector o.memory
  unfolding step
  step_fit k = go (eqb (answer e room k c m) done) refl
    where
      go : (b : Bool) → eqb (answer e room k c m) done ≡ b
          → let o = cond {A = Outcome} b
          (record { answer = done; collector = after w k c; memory = memory_after w k c m; written = written w k c })
          (record { answer = answer e room k c m; collector = c; memory = m; written = silent }) in
          Fit o.collector o.memory
      go true q = accepted_fit k (sym (judged k) ∙ eqb-true (answer e room k c m) done q)
      go false q = f

  -- ---- and is not answered 1

  checks_fair : (k : Command) → Fair k → eqb (judge (checks e room k c m)) unsound_state ≡ false
  unfolding checks
  checks_fair write_start q = judge_other unsound_state (checks e room write_start c m) refl
  checks_fair write_stop q = judge_other unsound_state (checks e room write_stop c m) refl
  checks_fair note q = refl
  checks_fair (agree_to table) q = judge_other unsound_state (checks e room (agree_to table) c m) refl
  checks_fair (take_record h r) q = judge_other unsound_state (checks e room (take_record h r) c m) refl
  checks_fair (malformed a) q = ne_eqb a unsound_state (omega arith)

  pub never_unsound_lem : (k : Command) → Fair k → (step e room k c m).answer ≡ unsound_state → ⊥
  unfolding step
  never_unsound_lem k q = go (eqb (answer e room k c m) done) refl
    where
      go : (b : Bool) → eqb (answer e room k c m) done ≡ b
          → (cond {A = Outcome} b
          (record { answer = done; collector = after w k c; memory = memory_after w k c m; written = written w k c })
          (record { answer = answer e room k c m; collector = c; memory = m; written = silent })).answer ≡ unsound_state → ⊥
      go true p x = omega arith
      go false p x = eqb-false (judge (checks e room k c m)) unsound_state (checks_fair k q) (sym (judged k) ∙ x)
