-- A batch, message by message: how far it is between two turns, that a message more takes it one further, and that it is the whole where it
-- ends. What a single call's step is comes from `Sends`.
use Rattle.std.proofs.Common.{◌≡◌, ℕ, zero, suc, ◌+◌, ◌-◌, ◌%◌, ◌<◌, ◌≤◌, true, false, not, ◌&&◌, eqb, List, [], ◌∷◌, ◌++◌, length, get_or, take, drop, sym, refl, ap, ◌∙◌, subst, append_assoc, append-nil, add-zero, add_assoc, mod-lt, zero-add, arith, length-append, length-drop, length-set, take-append-drop, drop_of_length-le, length-take-le, drop-drop, take_at, drop_at, eq-eqb, ne_eqb, le-leb}
use native.Mathlib.Nat.{mod-add-mod}
use Rattle.octets.specs.Answers.{◌when◌, judge, judged, refusal_of, answer_number, done, unsound_state, output_too_short, nothing_to_send}
use Rattle.octets.proofs.Judging.{judged_number}
use Rattle.batches.proofs.Batches.{batch_numbered}
use Rattle.octets.proofs.Stores.{sets_first}
use Rattle.wire.specs.Messages.{Placed}
use Rattle.wire.specs.Replies.{crane}
use Rattle.std.specs.Prelude.{Result, Ok, Err}
use Rattle.numbers.specs.declared.refusal.Refusal.{Refusal}
use Rattle.session.specs.Servers.{is_nobody}
use Rattle.session.specs.Queue.{sum_of, marked}
use Rattle.session.specs.Sound.{sound}
use Rattle.session.specs.Steps.{next_data, answer, checks, after, Outcome, step, octets_written, output_after}
use Rattle.batches.specs.Batches.{BatchOutcome, batch, batch_of, output_after_batch}
use Rattle.session.specs.declared.state.State.{State}
use Rattle.session.specs.declared.state.Batch.{Batch}
use Rattle.sending.specs.Sendings.{SendFacts}
use Rattle.sending.proofs.Sends.{early_checks, send_refused, octets_next, sent_done, short_output}
use Rattle.queue.specs.Rings.{record_start}
use Rattle.queue.proofs.Rings.{start_inside}
use Rattle.session.proofs.Arrays.{sum_more}
use Rattle.session.proofs.SoundFacts.{sound_facts}
use Rattle.session.proofs.SoundKept.{Sized, kept_sound}
use Rattle.session.proofs.StepLaws.{step_refused, step_answer_lem, refused_number}
use Rattle.session.specs.Servers.{sent_one}
use Rattle.session.proofs.Written.{octets_fit_lem}

-- ---- single turns

-- the state is sound, the lent store its own, and somebody is active
pub record Live (s : State) (store : List ℕ) : Type 0 where
  pub is_sound : sound s ≡ true
  pub stored : length store ≡ s.capacity
  pub some : is_nobody s.delivery.active ≡ false

-- at the given number
batch_none : (room : ℕ) (s : State) (store : List ℕ) → Live s store
    → batch 0 room s store ≡ record { answer = done; count = 0; state = s; octets = [] }
unfolding batch
batch_none room s store l = rw (l.is_sound, eq-eqb (length store) s.capacity l.stored)

-- a message more
batch_more : (n room : ℕ) (s : State) (store : List ℕ) → 0 < n → (step crane room next_data s store).answer ≡ done
    → let o = step crane room next_data s store in
    let rest = batch (n - 1) (room - length (octets_written o)) o.state store in
    batch n room s store
    ≡ record { answer = rest.answer; count = rest.count + 1; state = rest.state; octets = octets_written o ++ rest.octets }
unfolding batch
batch_more zero room s store h e = let z : ⊥ = omega (arith, h) in absurd z
batch_more (suc n) room s store h e = let one : suc n - 1 ≡ n = omega arith in rw (e, one) refl

-- a call that is refused
batch_stopped : (n room : ℕ) (s : State) (store : List ℕ) (a : ℕ) → 0 < n → (a ≡ done → ⊥) → answer crane room next_data s store ≡ a
    → batch n room s store ≡ record { answer = a; count = 0; state = s; octets = [] }
unfolding batch
batch_stopped zero room s store a h d e = let z : ⊥ = omega (arith, h) in absurd z
batch_stopped (suc n) room s store a h d e = rw (step_refused crane room next_data s store a d e, ne_eqb a done d) refl

-- all held records were sent
nothing_left : (room : ℕ) (s : State) (store : List ℕ) → Live s store → s.queue.count ≤ s.delivery.sent
    → answer crane room next_data s store ≡ nothing_to_send
unfolding answer checks
nothing_left room s store l h =
    rw (l.is_sound, eq-eqb (length store) s.capacity l.stored, l.some, le-leb s.queue.count s.delivery.sent h) refl

-- ---- a batch that sends nothing

-- no message is asked for: only an unsound state or store is refused
pub none_asked : (s : State) (store out : List ℕ) {found : Result (Unit {0}) Refusal}
    → found ≡ judged (judge ((unsound_state when not (sound s && eqb (length store) s.capacity)) ∷ [])) (tt {0})
    → let b = batch 0 (length out) s store in
    (◌≡◌ {A = Batch} (record { state = s; answer = found; count = 0; written = 0 }) (batch_of b)) × (out ≡ output_after_batch out b)
unfolding batch
none_asked s store out e = (rw e refl, refl)

-- the first call is refused before the output is looked at
pub none_sent : (n : ℕ) (s : State) (store out : List ℕ) {found : Result (Unit {0}) Refusal} {refusal : Refusal} → (n ≡ 0 → ⊥)
    → found ≡ judged (judge (early_checks s store)) (tt {0}) → found ≡ Err refusal
    → let b = batch n (length out) s store in
    (◌≡◌ {A = Batch} (record { state = s; answer = found; count = 0; written = 0 }) (batch_of b)) × (out ≡ output_after_batch out b)
none_sent n s store out h e k =
    let d = refused_number (tt {0}) (sym e ∙ k) in
    let q = batch_stopped n (length out) s store _ (some_of h) d (sym (send_refused s store out d)) in
    (rw (q, e) refl, rw q refl)
  where
    some_of : (n ≡ 0 → ⊥) → 0 < n
    some_of y = omega (arith, y)

-- ---- between two turns

-- an outcome behind k messages of these octets
abbrev pub behind : ℕ → List ℕ → BatchOutcome → BatchOutcome
behind k octets b = record { answer = b.answer; count = b.count + k; state = b.state; octets = octets ++ b.octets }

-- A batch of n messages into an output, of which `left` are left: the first `written` octets of the output are those of the messages so
-- far, the others are as they were, and the rest of the batch behind them is the whole.
pub record Under (n : ℕ) (out₀ store : List ℕ) (s₀ : State) (left written : ℕ) (s : State) (out : List ℕ) : Type 0 where
  pub few : left ≤ n
  pub inside : written ≤ length out
  pub long : length out ≡ length out₀
  pub kept : drop written out ≡ drop written out₀
  pub whole : batch n (length out₀) s₀ store ≡ behind (n - left) (take written out) (batch left (length (drop written out)) s store)

module _ (n : ℕ) (out₀ store : List ℕ) (s₀ : State) where
  -- before the first turn
  pub under_first : Under n out₀ store s₀ n 0 s₀ out₀
  under_first =
      let b = batch n (length out₀) s₀ store in
      let e : n - n ≡ 0 = omega arith in
      record {
        few = omega arith;
        inside = omega arith;
        long = refl;
        kept = refl;
        whole = sym (
            ap (λ (k : ℕ). behind k [] b) e
            ∙ ap (λ (k : ℕ). record { answer = b.answer; count = k; state = b.state; octets = b.octets }) (add-zero b.count));
      }

  module _ (left written : ℕ) (s : State) (out : List ℕ) (u : Under n out₀ store s₀ left written s out) where
    -- the rest of the output
    abbrev part : List ℕ
    part = drop written out

    -- a call writes to the rest of the output what fits there
    abbrev single : Outcome
    single = step crane (length part) next_data s store

    -- a message more
    pub under_more : (k : ℕ) (out' : List ℕ) (s' : State) → 0 < left → single.answer ≡ done → k ≡ length (octets_written single)
        → s' ≡ single.state → out' ≡ take written out ++ output_after part single
        → Under n out₀ store s₀ (left - 1) (written + k) s' out'
    under_more k out' s' h d kk ss oo =
        let w : List ℕ = octets_written single in
        let rest : BatchOutcome = batch (left - 1) (length part - length w) single.state store in
        let fits : length w ≤ length part = octets_fit_lem (length part) next_data s store in
        let front : List ℕ = take written out ++ w in
        let e : out' ≡ front ++ drop (length w) part =
        oo ∙ ap (λ (l : List ℕ). take written out ++ l) (sets_first part w fits)
        ∙ sym (append_assoc (take written out) w (drop (length w) part)) in
        let m : length (take written out) ≡ written = length-take-le written out u.inside in
        let f : length front ≡ written + k = length-append (take written out) w ∙ rw (m, kk) refl in
        let t : take (written + k) out' ≡ front = ap (take (written + k)) e ∙ take_at front (drop (length w) part) (written + k) f in
        let r : drop (written + k) out' ≡ drop (length w) part =
        ap (drop (written + k)) e ∙ drop_at front (drop (length w) part) (written + k) f in
        let g : length (drop (written + k) out') ≡ length part - length w = ap length r ∙ length-drop (length w) part in
        let len : length out' ≡ length out =
        ap length e ∙ length-append front (drop (length w) part)
        ∙ omega (arith, f, length-drop (length w) part, length-drop written out, fits, u.inside, kk) in
        record {
          few = omega (arith, u.few);
          inside = omega (arith, len, fits, length-drop written out, u.inside, kk);
          long = len ∙ u.long;
          kept = r ∙ ap (drop (length w)) u.kept ∙ drop-drop (length w) written out₀ ∙ ap (λ (i : ℕ). drop (written + i) out₀) (sym kk);
          whole =
              u.whole
              ∙ ap (behind (n - left) (take written out)) (batch_more left (length part) s store h d)
              ∙ ap (λ (i : ℕ). record { answer = rest.answer; count = i; state = rest.state; octets = take written out ++ (w ++ rest.octets) })
              (omega (arith, h, u.few))
              ∙ ap (λ (l : List ℕ). record { answer = rest.answer; count = rest.count + (n - (left - 1)); state = rest.state; octets = l })
              (sym (append_assoc (take written out) w rest.octets))
              ∙ sym (
              ap (λ (l : List ℕ). behind (n - (left - 1)) l (batch (left - 1) (length (drop (written + k) out')) s' store)) t
              ∙ ap (λ (i : ℕ). behind (n - (left - 1)) front (batch (left - 1) i s' store)) g
              ∙ ap (λ (z : State). behind (n - (left - 1)) front (batch (left - 1) (length part - length w) z store)) ss);
        }

    -- what it is where it ends here with an answer
    abbrev ended : ℕ → BatchOutcome
    ended a = record { answer = a; count = n - left; state = s; octets = take written out }

    nothing_more : (a : ℕ) → behind (n - left) (take written out) (record { answer = a; count = 0; state = s; octets = [] }) ≡ ended a
    nothing_more a =
        ap (λ (i : ℕ). record { answer = a; count = i; state = s; octets = take written out ++ [] }) (zero-add (n - left))
        ∙ ap (λ (l : List ℕ). record { answer = a; count = n - left; state = s; octets = l }) (append-nil (take written out))

    -- the given number was reached
    pub under_number : left ≡ 0 → Live s store → batch n (length out₀) s₀ store ≡ ended done
    under_number e l =
        u.whole
        ∙ ap (behind (n - left) (take written out)) (ap (λ (i : ℕ). batch i (length part) s store) e ∙ batch_none (length part) s store l)
        ∙ nothing_more done

    -- a call is refused
    pub under_stopped : (a : ℕ) → 0 < left → (a ≡ done → ⊥) → answer crane (length part) next_data s store ≡ a
        → batch n (length out₀) s₀ store ≡ ended a
    under_stopped a h d e =
        u.whole ∙ ap (behind (n - left) (take written out)) (batch_stopped left (length part) s store a h d e) ∙ nothing_more a

    -- all held records were sent
    pub under_nothing : 0 < left → Live s store → s.queue.count ≤ s.delivery.sent
        → batch n (length out₀) s₀ store ≡ ended nothing_to_send
    under_nothing h l m = under_stopped nothing_to_send h (λ z. absurd (omega (arith, z))) (nothing_left (length part) s store l m)

    -- then the output is the one that it leaves
    pub under_output : (a : ℕ) → batch n (length out₀) s₀ store ≡ ended a → out ≡ output_after_batch out₀ (batch n (length out₀) s₀ store)
    under_output a e =
        let m : length (take written out) ≡ written = length-take-le written out u.inside in
        sym (
        ap (output_after_batch out₀) e
        ∙ sets_first out₀ (take written out) (omega (arith, m, u.inside, u.long))
        ∙ ap (λ (i : ℕ). take written out ++ drop i out₀) m
        ∙ ap (λ (l : List ℕ). take written out ++ l) (sym u.kept)
        ∙ take-append-drop written out)

    -- and it hands back what it should
    pub under_sent : (a : ℕ) → batch n (length out₀) s₀ store ≡ ended a
        → ◌≡◌ {A = Batch} (record { state = s; answer = judged a (tt {0}); count = n - left; written = written })
        (batch_of (batch n (length out₀) s₀ store))
    under_sent a e =
        ap (λ (i : ℕ). record { state = s; answer = judged a (tt {0}); count = n - left; written = i }) (sym (length-take-le written out u.inside))
        ∙ sym (ap batch_of e)

-- what a part of the output is put back to
pub part_back : (a : ℕ) (xs ys : List ℕ) → take a xs ++ (ys ++ drop (length xs - a) (drop a xs)) ≡ take a xs ++ ys
part_back a xs ys =
    ap (λ (l : List ℕ). take a xs ++ (ys ++ l)) (drop_of_length-le (drop a xs) {i = length xs - a} (omega (arith, length-drop a xs)))
    ∙ ap (λ (l : List ℕ). take a xs ++ l) (append-nil ys)

-- ---- the loop

-- Between two turns: the batch is under way, the state is live, and the next record begins at a place.
pub record Turned (n : ℕ) (out₀ store : List ℕ) (s₀ : State) (left written : ℕ) (s : State) (out : List ℕ) (at : ℕ) : Type 0 where
  pub under : Under n out₀ store s₀ left written s out
  pub live : Live s store
  pub sized : Sized s.queue
  pub place : at ≡ record_start s.capacity s.start s.queue.lengths s.delivery.sent

-- by another number that is the same
pub turned_by : {n : ℕ} {out₀ store : List ℕ} {s₀ : State} {left rest written : ℕ} {s : State} {out : List ℕ} {at : ℕ} → left ≡ rest
    → Turned n out₀ store s₀ left written s out at → Turned n out₀ store s₀ rest written s out at
turned_by {n = n} {out₀ = out₀} {store = store} {s₀ = s₀} {written = written} {s = s} {out = out} {at = at} e t =
    subst (λ (k : ℕ). Turned n out₀ store s₀ k written s out at) e t

-- before the first turn
pub turned_first : (n : ℕ) (out store : List ℕ) (s : State) (at : ℕ) → SendFacts s store → Sized s.queue
    → at ≡ record_start s.capacity s.start s.queue.lengths s.delivery.sent → Turned n out store s n 0 s out at
turned_first n out store s at f z e =
    record {
      under = under_first n out store s;
      live = record { is_sound = f.is_sound; stored = f.stored; some = f.some };
      sized = z;
      place = e;
    }

module _ (n : ℕ) (out₀ store : List ℕ) (s₀ : State) (left written : ℕ) (s : State) (out : List ℕ) (at : ℕ)
    (t : Turned n out₀ store s₀ left written s out at) where
  -- what is handed back where it ends, and the output
  abbrev Ended : ℕ → List ℕ → Type 0
  Ended a out' =
      let b = batch n (length out₀) s₀ store in
      (◌≡◌ {A = Batch} (record { state = s; answer = judged a (tt {0}); count = n - left; written = written }) (batch_of b))
      × (out' ≡ output_after_batch out₀ b)

  ended_with : (a : ℕ) (out' : List ℕ) → batch n (length out₀) s₀ store ≡ ended n out₀ store s₀ left written s out t.under a
      → out' ≡ out → Ended a out'
  ended_with a out' e o =
      let u = t.under in (
        under_sent n out₀ store s₀ left written s out u a e,
        o ∙ under_output n out₀ store s₀ left written s out u a e,
      )

  -- no message is left
  pub turned_ended : left ≡ 0 → Ended done out
  turned_ended z = ended_with done out (under_number n out₀ store s₀ left written s out t.under z t.live) refl

  -- no record is left
  pub turned_nothing : 0 < left → s.queue.count ≤ s.delivery.sent → Ended nothing_to_send out
  turned_nothing h m = ended_with nothing_to_send out (under_nothing n out₀ store s₀ left written s out t.under h t.live m) refl

  module _ (more : s.delivery.sent < s.queue.count) where
    pub turned_facts : SendFacts s store
    turned_facts = record { is_sound = t.live.is_sound; stored = t.live.stored; some = t.live.some; more = more }

    -- the record lies in the store
    pub turned_inside : at < s.capacity
    turned_inside =
        let f = (sound_facts s t.live.is_sound).numbers.inside in
        let e = t.place ∙ start_inside s.capacity s.start s.queue.lengths s.delivery.sent f in
        let l = mod-lt (s.start + sum_of (take s.delivery.sent s.queue.lengths)) {m = s.capacity} (omega (arith, f)) in
        omega (arith, e, l)

    module _ (r : Result ℕ Refusal) (part part' : List ℕ) (pp : part ≡ drop written out) (p : Placed (octets_next s store) part r part') where
      -- the single call's outcome
      abbrev call : Outcome
      call = step crane (length (drop written out)) next_data s store

      -- the message was written
      turned_done : (k : ℕ) → r ≡ Ok k
          → (call.answer ≡ done)
          × ((k ≡ length (octets_written call))
          × ((after 32 next_data s ≡ call.state) × (part' ≡ output_after (drop written out) call)))
      turned_done k e =
          let d = sent_done s store (drop written out) part' r k turned_facts (rw pp at p) e in
          (step_answer_lem crane (length (drop written out)) next_data s store ∙ d.0, d.1)

      -- so it fits the rest of the output
      pub turned_fits : (k : ℕ) → r ≡ Ok k → written + k ≤ length out
      turned_fits k e =
          let d = turned_done k e in
          let f = octets_fit_lem (length (drop written out)) next_data s store in
          omega (arith, d.1.0, f, length-drop written out, t.under.inside)

      -- a turn more
      pub turned_more : (k : ℕ) (out' : List ℕ) (s' : State) (at' : ℕ) → 0 < left → r ≡ Ok k → out' ≡ take written out ++ part'
          → s' ≡ after 32 next_data s → at' ≡ (at + get_or s.queue.lengths s.delivery.sent 0) % s'.capacity
          → Turned n out₀ store s₀ (left - 1) (written + k) s' out' at'
      unfolding after sent_one marked
      turned_more k out' s' at' some e oo ss aa =
          let d = turned_done k e in
          let known : sound (after 32 next_data s) ≡ true =
          ap sound d.1.1.0 ∙ kept_sound crane (length (drop written out)) next_data s store t.sized t.live.is_sound in
          let u =
          under_more n out₀ store s₀ left written s out t.under k out' s' some d.0 d.1.0 (ss ∙ d.1.1.0)
          (oo ∙ ap (λ (l : List ℕ). take written out ++ l) d.1.1.1) in
          record {
            under = u;
            live = rw ss (record { is_sound = known; stored = t.live.stored; some = t.live.some });
            sized = rw ss
                (record {
                  lengths = t.sized.lengths;
                  templates = t.sized.templates;
                  receivers = length-set s.queue.receivers s.delivery.sent _ ∙ t.sized.receivers;
                });
            place = rw ss (rw ss at aa ∙ next_start);
          }
        where
          next_start : (at + get_or s.queue.lengths s.delivery.sent 0) % s.capacity
              ≡ record_start s.capacity s.start s.queue.lengths (s.delivery.sent + 1)
          next_start =
              let f = (sound_facts s t.live.is_sound).numbers in
              let xs = s.queue.lengths in
              let i = s.delivery.sent in
              let len = get_or xs i 0 in
              ap (λ (j : ℕ). (j + len) % s.capacity) (t.place ∙ start_inside s.capacity s.start xs i f.inside)
              ∙ mod-add-mod (s.start + sum_of (take i xs)) s.capacity len
              ∙ ap (λ (j : ℕ). j % s.capacity)
              (add_assoc s.start (sum_of (take i xs)) len
              ∙ ap (λ (j : ℕ). s.start + j) (sym (sum_more xs i (omega (arith, more, f.few, t.sized.lengths)))))
              ∙ sym (start_inside s.capacity s.start xs (i + 1) f.inside)

      -- the message does not fit
      pub turned_refused : (a : Refusal) (out' : List ℕ) → 0 < left → r ≡ Err a → out' ≡ take written out ++ part'
          → let b = batch n (length out₀) s₀ store in
          (◌≡◌ {A = Batch} (record { state = s; answer = Err a; count = n - left; written = written }) (batch_of b))
          × (out' ≡ output_after_batch out₀ b)
      unfolding judged refusal_of
      turned_refused a out' some e oo =
          let d = short_output s store (drop written out) part' r a turned_facts (rw pp at p) e in
          let k =
          ended_with output_too_short out'
          (under_stopped n out₀ store s₀ left written s out t.under output_too_short some (λ z. absurd (omega (arith, z))) d.1.0)
          (oo ∙ ap (λ (l : List ℕ). take written out ++ l) d.1.1 ∙ take-append-drop written out) in
          (rw d.0 k.0, k.1)

-- what is handed back, by a count that is the same
pub counted_as : (s : State) (answer : Result (Unit {0}) Refusal) (written i j : ℕ) {b : Batch} → i ≡ j
    → (◌≡◌ {A = Batch} (record { state = s; answer = answer; count = j; written = written }) b)
    → ◌≡◌ {A = Batch} (record { state = s; answer = answer; count = i; written = written }) b
counted_as s answer written i j e k = ap (λ (n : ℕ). record { state = s; answer = answer; count = n; written = written }) e ∙ k

-- the number of what a batch answers is the number that it stopped with
pub with_number : (n room : ℕ) (s : State) (store : List ℕ) {x : Batch} {O : Type 0} → (x ≡ batch_of (batch n room s store)) × O
    → (x ≡ batch_of (batch n room s store)) × ((answer_number x.answer ≡ (batch n room s store).answer) × O)
with_number n room s store e =
    let number = judged_number (batch n room s store).answer (tt {0}) (batch_numbered n room s store) in
    (e.0, (ap (λ (b : Batch). answer_number b.answer) e.0 ∙ number, e.1))
