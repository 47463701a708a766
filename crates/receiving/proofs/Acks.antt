-- The DSN minus the first held one plus 1 is computed by two subtractions that wrap; the first law says that the remainders agree. An
-- accepted acknowledgement keeps servers and choice.
use Rattle.std.proofs.Common.{◌≡◌, ℕ, ◌+◌, ◌-◌, ◌%◌, ◌<◌, ◌≤◌, Bool, true, false, cond, ◌&&◌, eqb, List, [], sym, refl, ap, ◌∙◌, append-nil, le_of_lt, add_assoc, mod-eq_of_lt, add-sub_of_le, arith, ltb-false, eqb-true}
use native.Mathlib.Nat.{mod-add-mod, add-mod_right, sub-zero}
use borrow.Author.Tests.{eqb-false}
use Rattle.octets.specs.Answers.{judge, judged, refusal_of, done, unsound_state, Answered, answer_number}
use Rattle.std.specs.Prelude.{Result, Ok, Err}
use Rattle.numbers.specs.declared.refusal.Refusal.{Refusal}
use Rattle.octets.proofs.Judging.{passed}
use Rattle.session.specs.Servers.{chosen, with_counts, acknowledged}
use Rattle.session.specs.Queue.{ring_place, shifted, drop_front}
use Rattle.session.specs.Sound.{sound}
use Rattle.wire.specs.Replies.{Encoding}
use Rattle.session.specs.Steps.{ack_count, ack, checks, answer, after, settled, written, step, wrote_of, output_after, ack_count_by, ack_checks}
use Rattle.session.specs.declared.state.Queue.{Queue}
use Rattle.session.specs.declared.state.Settings.{Settings}
use Rattle.session.specs.declared.state.Delivery.{Delivery}
use Rattle.session.specs.declared.state.State.{State}
use Rattle.session.specs.declared.state.Wrote.{Wrote}
use Rattle.session.proofs.SoundFacts.{sound_facts}
use Rattle.session.proofs.StepLaws.{settled_same, step_refused, step_done, step_err, answered_ok}

-- ---- numbers that wrap at m

-- what was added is taken away again
back : (m x b : ℕ) → x < m → b ≤ m → ((x + b) % m + (m - b)) % m ≡ x
back m x b h k =
    mod-add-mod (x + b) m (m - b)
    ∙ ap (λ (n : ℕ). n % m) (add_assoc x b (m - b) ∙ ap (λ (n : ℕ). x + n) (add-sub_of_le k))
    ∙ add-mod_right x m
    ∙ mod-eq_of_lt h

-- the DSN minus the first held one plus 1, where the first held one is `count` before the next
pub named : (m next count dsn first place : ℕ) → first < m → place < m → count ≤ m → (first + count) % m ≡ next → (place + first) % m ≡ dsn
    → (place + 1) % m ≡ (dsn + (m - (next + (m - count)) % m) + 1) % m
named m next count dsn first place hf hp hc ef ep =
    let f : (next + (m - count)) % m ≡ first = ap (λ (n : ℕ). (n + (m - count)) % m) (sym ef) ∙ back m first count hf hc in
    let p : (dsn + (m - first)) % m ≡ place = ap (λ (n : ℕ). (n + (m - first)) % m) (sym ep) ∙ back m place first hp (le_of_lt hf) in
    ap (λ (n : ℕ). (n + 1) % m) (sym p) ∙ mod-add-mod (dsn + (m - first)) m 1 ∙ ap (λ (n : ℕ). (dsn + (m - n) + 1) % m) (sym f)

-- ---- a queue of which nothing is released

shifted_none : (xs : List ℕ) → shifted xs 0 ≡ xs
shifted_none xs = append-nil xs

pub dropped_none : (q : Queue) → drop_front q 0 ≡ q
unfolding drop_front
dropped_none q = rw (shifted_none q.lengths, shifted_none q.templates, shifted_none q.receivers, sub-zero q.count)

-- ---- a delivery after a release

-- its servers and its active one are as they were
acked_choice : (p : Settings) (d : Delivery) (n : ℕ) → d.active ≡ chosen p d → (acknowledged n d).active ≡ chosen p (acknowledged n d)
unfolding acknowledged
acked_choice p d n e = go (eqb n 0)
  where
    go : (b : Bool) → let g = cond b (with_counts d 0 d.reached d.timer) (with_counts d (d.sent - n) (d.reached - n) 0) in
        g.active ≡ chosen p g
    go true = e
    go false = e

-- ---- the call

-- a DATA ACK that is not refused names records that the active server was sent
pub ack_reached : (p : Settings) (d : Delivery) (v config n : ℕ) → judge (ack_checks p d v config n) ≡ done → n ≤ d.reached
ack_reached p d v config n e = ltb-false d.reached n (passed (ack_checks p d v config n) tt e).1.1.1.0

-- how many records a DSN names of a state
abbrev pub named_in : ℕ → State → ℕ → ℕ
named_in w s dsn = ack_count_by w s.next s.queue.count dsn

module _ (enc : Encoding) (v dsn config : ℕ) (s : State) where
  pub ack_unsound : sound s ≡ false → answer enc 0 (ack v dsn config) s [] ≡ unsound_state
  unfolding answer
  ack_unsound e = rw e

  pub ack_judged : sound s ≡ true
      → answer enc 0 (ack v dsn config) s [] ≡ judge (ack_checks s.settings s.delivery v config (named_in enc.width s dsn))
  unfolding answer checks ack_count
  ack_judged e = rw e

  -- an accepted one was made of a sound state
  pub ack_sound : answer enc 0 (ack v dsn config) s [] ≡ done → sound s ≡ true
  ack_sound e = go (sound s) refl
    where
      go : (b : Bool) → sound s ≡ b → b ≡ true
      go true q = refl
      go false q = let z : ◌≡◌ {A = ℕ} 1 0 = sym (ack_unsound q) ∙ e in absurd (omega (arith, z))

  -- and names records that were reached, which are held
  pub ack_few : answer enc 0 (ack v dsn config) s [] ≡ done
      → (named_in enc.width s dsn ≤ s.delivery.reached) × ((named_in enc.width s dsn ≤ s.queue.count) × (s.queue.count ≤ 64))
  ack_few e =
      let k = ack_sound e in
      let n = (sound_facts s k).numbers in
      let r = ack_reached s.settings s.delivery v config (named_in enc.width s dsn) (sym (ack_judged k) ∙ e) in
      (r, (omega (arith, r, n.reached_held), n.few))

  -- the servers stay, and so does the choice
  ack_settled : sound s ≡ true → settled (after enc.width (ack v dsn config) s) ≡ after enc.width (ack v dsn config) s
  unfolding after
  ack_settled e =
      settled_same (after enc.width (ack v dsn config) s)
      (acked_choice s.settings s.delivery (ack_count enc.width s dsn) (sound_facts s e).choice)

  -- what it leaves
  pub ack_done : answer enc 0 (ack v dsn config) s [] ≡ done → {d : Delivery} {q : Queue} {start : ℕ}
      → d ≡ acknowledged (named_in enc.width s dsn) s.delivery → q ≡ drop_front s.queue (named_in enc.width s dsn)
      → start ≡ ring_place s.capacity s.start s.queue.lengths (named_in enc.width s dsn)
      → let o = step enc 0 (ack v dsn config) s [] in
      Answered answer_number
      (Ok (record {
        state = record {
          settings = s.settings;
          capacity = s.capacity;
          delivery = d;
          due = s.due && eqb (named_in enc.width s dsn) 0;
          queue = q;
          start = start;
          next = s.next;
        };
        written = 0;
      }))
      (wrote_of o) o.answer
  unfolding after written ack_count
  ack_done e x y z =
      rw (step_done enc 0 (ack v dsn config) s [] e, ack_settled (ack_sound e)) (answered_ok refl (rw (x, y, z) refl))

  -- a refused one
  pub ack_refused : {refusal : Refusal} → judged (answer enc 0 (ack v dsn config) s []) (named_in enc.width s dsn) ≡ Err refusal
      → let o = step enc 0 (ack v dsn config) s [] in Answered answer_number (Err refusal) (wrote_of o) o.answer
  unfolding checks
  ack_refused e = step_err enc 0 (ack v dsn config) s [] (named_in enc.width s dsn) _ refl e

-- the value that was answered
pub named_ok : (n : ℕ) {k found : ℕ} → judged n k ≡ Ok found → k ≡ found
unfolding judged
named_ok n {k = k} {found = found} e = go (eqb n done) e
  where
    go : (b : Bool) → ◌≡◌ {A = Result ℕ Refusal} (cond b (Ok k) (Err (refusal_of n))) (Ok found) → k ≡ found
    go true q = cc
    go false q = let z : ◌≡◌ {A = ℕ} 0 1 = cc in absurd (omega arith)

-- ---- the output

-- a DATA ACK looks at no output and writes none
pub ack_wrote : (enc : Encoding) (room v dsn config : ℕ) (s : State) (out : List ℕ) (r : Result Wrote Refusal)
    → (let o = step enc 0 (ack v dsn config) s [] in Answered answer_number r (wrote_of o) o.answer)
    → let o = step enc room (ack v dsn config) s [] in
    Answered answer_number r (wrote_of o) o.answer × (out ≡ output_after out o)
unfolding step answer checks written
ack_wrote enc room v dsn config s out r e = (e, go (eqb (answer enc room (ack v dsn config) s []) done) refl)
  where
    go : (b : Bool) → eqb (answer enc room (ack v dsn config) s []) done ≡ b → out ≡ output_after out (step enc room (ack v dsn config) s [])
    go true q = rw (step_done enc room (ack v dsn config) s [] (eqb-true (answer enc room (ack v dsn config) s []) done q))
    go false q =
        rw (step_refused enc room (ack v dsn config) s [] (answer enc room (ack v dsn config) s [])
        (eqb-false (answer enc room (ack v dsn config) s []) done q) refl)
