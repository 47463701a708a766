-- The rules about sent and reached hold: an accepted call found the state sound, so its choice is the servers', and as no phase changes it
-- stays; the rest is what the step's definitions say.
use mathlib.Core.Path.{◌≡◌, refl, sym, ap, ◌∙◌}
use mathlib.Core.Bool.{Bool, true, false, not, ◌&&◌, cond, and-true, and-false}
use mathlib.Core.List.{List, ◌∷◌}
use Prim.Native.Nat.{ℕ, ◌-◌, ◌≤◌, ◌<◌}
use native.Mathlib.Omega.{arith}
use lib.Dec.{eqb}
use lib.ListN.{length}
use borrow.Author.Tests.{ltb-false, eqb-true, eqb-false, not-false, eq-eqb, ne_eqb}
use Rattle.octets.specs.Answers.{◌when◌, judge, done, unsound_state}
use Rattle.octets.proofs.Judging.{passed}
use Rattle.octets.proofs.Each.{and_left}
use Rattle.wire.specs.Replies.{Encoding}
use Rattle.session.specs.Servers.{choose, chosen, with_counts, sent_one, acknowledged}
use Rattle.session.specs.Queue.{drop_front, marked}
use Rattle.session.specs.Sound.{sound}
use Rattle.session.specs.Steps.{ack_count, Call, next_data, ack, answer, checks, sound_for, after, Outcome, step}
use Rattle.session.specs.Counters.{SentOne, Released, CounterRule}
use Rattle.session.specs.declared.state.Server as server_of
use Rattle.session.specs.declared.state.Delivery.{Delivery}
use Rattle.session.specs.declared.state.State.{State}
use Rattle.session.proofs.SoundFacts.{sound_facts}
use Rattle.session.proofs.StepLaws.{settled_same, step_done, step_answer_lem}

-- an accepted call found the state sound, and where no phase changes, its choice stays
module _ (enc : Encoding) (room : ℕ) (c : Call) (s : State) (store : List ℕ) (done₀ : (step enc room c s store).answer ≡ done) where
  judged : answer enc room c s store ≡ done
  judged = sym (step_answer_lem enc room c s store) ∙ done₀

  pub found_sound : sound_for c s store ≡ true
  unfolding answer
  found_sound = go (sound_for c s store) judged
    where
      go : (b : Bool) → cond (not b) unsound_state (judge (checks enc room c s store)) ≡ done → b ≡ true
      go true e = refl
      go false e = absurd (omega (arith, e))

  -- what the call leaves, where it changes neither servers nor choice
  left_alone : sound s ≡ true → (after enc.width c s).delivery.active ≡ s.delivery.active
      → chosen (after enc.width c s).settings (after enc.width c s).delivery ≡ chosen s.settings s.delivery
      → (step enc room c s store).state ≡ after enc.width c s
  left_alone h a b =
      ap (λ (o : Outcome). o.state) (step_done enc room c s store judged)
      ∙ settled_same (after enc.width c s) (a ∙ (sound_facts s h).choice ∙ sym b)

sent_one_lem : (enc : Encoding) (s : State) (room : ℕ) (store : List ℕ) → let o = step enc room next_data s store in
    o.answer ≡ done → SentOne s o.state
unfolding after sent_one marked
sent_one_lem enc s room store e =
    let h : sound s ≡ true = and_left (sound s) (eqb (length store) s.capacity) (found_sound enc room next_data s store e) in
    rw (left_alone enc room next_data s store e h refl refl)
    (record { same = record { servers = refl; active = refl }; sent = refl; reached = refl; timer = refl; due = refl; count = refl })

-- an accepted DATA ACK names no more records than are held, and so at most 64
pub ack_held : (enc : Encoding) (room v dsn config : ℕ) (s : State) (store : List ℕ) → answer enc room (ack v dsn config) s store ≡ done
    → (ack_count enc.width s dsn ≤ s.queue.count) × (ack_count enc.width s dsn ≤ 64)
unfolding answer checks
ack_held enc room v dsn config s store e =
    let p = passed ((unsound_state when not (sound s)) ∷ checks enc room (ack v dsn config) s store) tt e in
    let f = (sound_facts s (not-false (sound s) p.0)).numbers in
    let g = ltb-false s.delivery.reached (ack_count enc.width s dsn) p.1.1.1.1.0 in
    omega arith

-- the delivery after a DATA ACK that names n records
record Counted (n : ℕ) (d e : Delivery) : Type 0 where
  servers : e.servers ≡ d.servers
  active : e.active ≡ d.active
  reached : e.reached ≡ d.reached - n
  sent : 0 < n → e.sent ≡ d.sent - n
  timer : 0 < n → e.timer ≡ 0
  sent_again : n ≡ 0 → e.sent ≡ 0
  timer_stays : n ≡ 0 → e.timer ≡ d.timer

counted : (n : ℕ) (d : Delivery) → Counted n d (acknowledged n d)
unfolding acknowledged
counted n d = go (eqb n 0) refl
  where
    go : (b : Bool) → eqb n 0 ≡ b
        → Counted n d (cond b (with_counts d 0 d.reached d.timer) (with_counts d (d.sent - n) (d.reached - n) 0))
    go true e =
        let z : n ≡ 0 = eqb-true n 0 e in
        record {
          servers = refl;
          active = refl;
          reached = omega (arith, z);
          sent = λ l. absurd (omega (arith, l, z));
          timer = λ l. absurd (omega (arith, l, z));
          sent_again = λ x. refl;
          timer_stays = λ x. refl;
        }
    go false e =
        record {
          servers = refl;
          active = refl;
          reached = refl;
          sent = λ l. refl;
          timer = λ l. refl;
          sent_again = λ x. absurd (eqb-false n 0 e x);
          timer_stays = λ x. absurd (eqb-false n 0 e x);
        }

released : (enc : Encoding) (s : State) (room v dsn config : ℕ) (store : List ℕ)
    → let o = step enc room (ack v dsn config) s store in o.answer ≡ done → Released (ack_count enc.width s dsn) s o.state
unfolding after drop_front
released enc s room v dsn config store e =
    let c = ack v dsn config in
    let f = counted (ack_count enc.width s dsn) s.delivery in
    let same = ap (λ (servers : List server_of.Server). choose s.settings.priorities servers s.settings.servers) f.servers in
    rw (left_alone enc room c s store e (found_sound enc room c s store e) f.active same)
    (record {
      same = record { servers = f.servers; active = f.active };
      count = refl;
      reached = f.reached;
      sent = f.sent;
      timer = f.timer;
      sent_again = f.sent_again;
      timer_stays = f.timer_stays;
      due = λ l. due_no_more (ack_count enc.width s dsn) l;
      due_stays = λ z. due_still (ack_count enc.width s dsn) z;
    })
  where
    due_no_more : (n : ℕ) → 0 < n → s.due && eqb n 0 ≡ false
    due_no_more n l = rw (ne_eqb n 0 (λ z. omega (arith, l, z))) (and-false s.due)

    due_still : (n : ℕ) → n ≡ 0 → s.due && eqb n 0 ≡ s.due
    due_still n z = rw (eq-eqb n 0 z) (and-true s.due)

pub counter_rule : CounterRule
counter_rule enc s = record { next_data = sent_one_lem enc s; data_ack = released enc s }
