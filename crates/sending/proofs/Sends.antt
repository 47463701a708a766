-- Where next data is not refused before the output is looked at, the record's place and length lie in the store. The message is then
-- refused by the output's length alone. What is stored into the state is the step of the definition.
use Rattle.std.proofs.Common.{◌≡◌, ℕ, ◌+◌, ◌%◌, ◌<◌, ◌≤◌, Bool, true, false, cond, not, ◌&&◌, eqb, ltb, List, [], ◌∷◌, length, get_or, sym, refl, ap, ◌∙◌, arith, ltb-false, ltb-true, le-ltb, lt-ltb, eq-eqb, eqb-true, leb-false}
use mathlib.Core.Bool.{false≢true}
use native.Mathlib.Nat.{mod-mod}
use borrow.Author.Tests.{not-false, lt-leb}
use lib.Seq.{sets, length-sets}
use Rattle.std.specs.Prelude.{Result, Ok, Err, Option, Some, None, is_some}
use Rattle.octets.specs.Answers.{Check, ◌when◌, judge, judged, refusal_of, done, unsound_state, output_too_short, Answered, answer_number}
use Rattle.octets.proofs.Judging.{passed, judged_first, judged_ok}
use Rattle.octets.proofs.Stores.{put_fits, put_short}
use Rattle.octets.proofs.Each.{and_left, and_right}
use Rattle.numbers.specs.declared.refusal.Refusal.{Refusal}
use Rattle.numbers.specs.declared.refusal.Refusal.TheVariants.{OutputTooShort}
use Rattle.wire.specs.Messages.{Placed, layout_of, data_head_octets, head_write_answer, head_write_of, head_write_out}
use Rattle.messages.specs.declared.message.Message.TheVariants.{Data}
use Rattle.messages.specs.declared.message.DataHead.{DataHead}
use Rattle.wire.specs.Replies.{crane, layout}
use Rattle.session.specs.Servers.{sent_one, is_nobody}
use Rattle.session.specs.Queue.{ring_read, record_at, octets_to}
use Rattle.session.specs.Sound.{sound}
use Rattle.session.specs.Steps.{dsn_at, is_first, is_duplicate, head_of, send_checks, next_data, answer, checks, after}
use Rattle.session.specs.Steps.{written, Outcome, octets_written, next_data_step, wrote_of, output_after}
use Rattle.sending.specs.Sendings.{SendFacts}
use Rattle.session.specs.declared.state.State.{State}
use Rattle.session.proofs.Rings.{read_same}
use Rattle.queue.specs.Rings.{record_start}
use Rattle.queue.proofs.Rings.{start_inside}
use Rattle.session.proofs.SoundFacts.{sound_facts}
use Rattle.session.proofs.StepLaws.{settled_same, step_done, step_err, step_kept, answered_ok, refused_number}

-- ---- writing a head for a record of at most 1,024 octets

-- it was written: the whole message fits
pub head_octets : (n room k : ℕ) → n ≤ 1024 → head_write_of n room ≡ Ok k → (k ≡ 16 + n) × (16 + n ≤ room)
unfolding head_write_of head_write_answer judged
head_octets n room k h e = go (ltb room (16 + n)) refl (rw (le-ltb 1024 n h) at e)
  where
    go : (b : Bool) → ltb room (16 + n) ≡ b
        → ◌≡◌ {A = Result ℕ Refusal} (cond (eqb (cond b 12 0) 0) (Ok (16 + n)) (Err (refusal_of (cond b 12 0)))) (Ok k)
        → (k ≡ 16 + n) × (16 + n ≤ room)
    go true t x = let z : ◌≡◌ {A = ℕ} 0 1 = cc in absurd (omega arith)
    go false t x = (cc, ltb-false room (16 + n) t)

-- it was refused: the output is too short
pub head_refused : (n room : ℕ) (r : Refusal) → n ≤ 1024 → head_write_of n room ≡ Err r → (r ≡ OutputTooShort) × (room < 16 + n)
unfolding head_write_of head_write_answer judged refusal_of
head_refused n room r h e = go (ltb room (16 + n)) refl (rw (le-ltb 1024 n h) at e)
  where
    go : (b : Bool) → ltb room (16 + n) ≡ b
        → ◌≡◌ {A = Result ℕ Refusal} (cond (eqb (cond b 12 0) 0) (Ok (16 + n)) (Err (refusal_of (cond b 12 0)))) (Err r)
        → (r ≡ OutputTooShort) × (room < 16 + n)
    go true t x = (cc, ltb-true room (16 + n) t)
    go false t x = let z : ◌≡◌ {A = ℕ} 0 1 = cc in absurd (omega arith)

pub head_out : (h : DataHead) (n : ℕ) (out : List ℕ) → n ≤ 1024 → 16 + n ≤ length out
    → head_write_out h n out ≡ sets out 0 (data_head_octets h n)
unfolding head_write_out head_write_answer
head_out h n out l r = rw (le-ltb 1024 n l, le-ltb (length out) (16 + n) r)

-- it leaves the output's length
pub head_room : (h : DataHead) (n : ℕ) (out mid : List ℕ) → mid ≡ head_write_out h n out → n ≤ 1024 → 16 + n ≤ length out
    → 16 + n ≤ length mid
head_room h n out mid e l r = rw (e, head_out h n out l r, length-sets out 0 (data_head_octets h n)) r

pub head_kept : (h : DataHead) (n : ℕ) (out : List ℕ) → n ≤ 1024 → length out < 16 + n → head_write_out h n out ≡ out
unfolding head_write_out head_write_answer
head_kept h n out l r = rw (le-ltb 1024 n l, lt-ltb (length out) (16 + n) r)

-- ---- the call

-- the octets of the next DATA
abbrev pub octets_next : State → List ℕ → List ℕ
octets_next s store = layout (written 32 next_data s store)

-- what is judged before the room
abbrev pub early_checks : State → List ℕ → List Check
early_checks s store = (unsound_state when not (sound s && eqb (length store) s.capacity)) ∷ send_checks s.delivery s.queue.count

-- an unusable state or store is refused first
pub unusable : (b : Bool) (n : ℕ) {refusal : Refusal} → judged (judge ((unsound_state when not b) ∷ [])) (tt {0}) ≡ Err refusal
    → Err refusal ≡ judged (cond (not b) unsound_state n) (tt {0})
unusable true n e = absurd (refused_number (tt {0}) e refl)
unusable false n e = sym e

pub usable : (b : Bool) {found : Unit {0}} → judged (judge ((unsound_state when not b) ∷ [])) (tt {0}) ≡ Ok found → b ≡ true
usable true e = refl
usable false e = let z : ◌≡◌ {A = ℕ} 1 0 = judged_ok _ (tt {0}) e in absurd (omega (arith, z))

-- whether there is none is whether nobody is active
pub nobody_by : (a : Option ℕ) (b : Bool) {n : Bool} → is_some a ≡ not b → b ≡ n → is_nobody a ≡ n
nobody_by None true e k = k
nobody_by None false e k = absurd (false≢true e)
nobody_by (Some v) true e k = absurd (false≢true (sym e))
nobody_by (Some v) false e k = k

pub send_facts : (s : State) (store : List ℕ) → judge (early_checks s store) ≡ done → SendFacts s store
send_facts s store e =
    let p = passed (early_checks s store) tt e in
    let both = not-false (sound s && eqb (length store) s.capacity) p.0 in
    record {
      is_sound = and_left (sound s) _ both;
      stored = eqb-true (length store) s.capacity (and_right (sound s) _ both);
      some = p.1.0;
      more = leb-false s.queue.count s.delivery.sent p.1.1.0;
    }

-- a refusal before the room is judged is the call's
pub send_refused : (s : State) (store out : List ℕ) → (judge (early_checks s store) ≡ done → ⊥)
    → judge (early_checks s store) ≡ answer crane (length out) next_data s store
unfolding answer checks written
send_refused s store out n =
    sym (judged_first (early_checks s store) ((output_too_short when ltb (length out) (length (octets_next s store))) ∷ []) n)

-- where there is a record to send and a server to send it to, only the output's room is judged
answer_room : (s : State) (store out : List ℕ) → SendFacts s store
    → answer crane (length out) next_data s store ≡ cond (ltb (length out) (length (octets_next s store))) 12 0
unfolding answer checks written
answer_room s store out f =
    rw (f.is_sound, eq-eqb (length store) s.capacity f.stored, f.some, lt-leb s.queue.count s.delivery.sent f.more)

-- the record to be sent is one of the first 64
pub sent_few : (s : State) (store : List ℕ) → SendFacts s store → s.delivery.sent < 64
sent_few s store f = omega (arith, f.more, (sound_facts s f.is_sound).numbers.few)

-- the head by its fields: S, D and the DSN are found, the others are copied
pub head_made : (s : State) (first duplicate : Bool) (dsn : ℕ) → first ≡ is_first s.due s.delivery.sent
    → duplicate ≡ is_duplicate s.settings s.delivery.active (get_or s.queue.receivers s.delivery.sent 0)
    → dsn ≡ dsn_at 32 s s.delivery.sent
    → ◌≡◌ {A = DataHead}
    (record {
      session = s.settings.session;
      template = get_or s.queue.templates s.delivery.sent 0;
      config = s.settings.config;
      first = first;
      duplicate = duplicate;
      dsn = dsn;
    })
    (head_of 32 s)
unfolding head_of
head_made s first duplicate dsn x y z = rw (x, y, z)

-- the octets of the next DATA, where the record is read from a place inside the store
pub next_octets : (s : State) (store : List ℕ) (h : DataHead) (room at : ℕ) → h ≡ head_of 32 s → room ≡ s.capacity
    → at ≡ record_start s.capacity s.start s.queue.lengths s.delivery.sent → s.start < s.capacity
    → layout_of (Data h) (ring_read room store at (get_or s.queue.lengths s.delivery.sent 0)) ≡ octets_next s store
unfolding written record_at
next_octets s store h room at e r a l =
    rw (e, r)
    (ap (layout_of (Data (head_of 32 s)))
    (read_same s.capacity store at _ (get_or s.queue.lengths s.delivery.sent 0)
    (ap (λ (n : ℕ). n % s.capacity) (a ∙ start_inside s.capacity s.start s.queue.lengths s.delivery.sent l)
    ∙ mod-mod (s.start + octets_to s.queue s.delivery.sent) s.capacity)))

-- the message was written: so is the single call's
pub sent_done : (s : State) (store out after' : List ℕ) (r : Result ℕ Refusal) (n : ℕ) → SendFacts s store
    → Placed (octets_next s store) out r after' → r ≡ Ok n
    → let o = next_data_step s store out in
    (answer crane (length out) next_data s store ≡ done)
    × ((n ≡ length (octets_written o)) × ((after 32 next_data s ≡ o.state) × (after' ≡ output_after out o)))
unfolding after sent_one
sent_done s store out after' r n f p q = go (ltb (length out) (length octets)) refl (sym q ∙ p.answered)
  where
    octets : List ℕ
    octets = octets_next s store

    go : (b : Bool) → ltb (length out) (length octets) ≡ b → ◌≡◌ {A = Result ℕ Refusal} (Ok n) (cond b (Err OutputTooShort) (Ok (length octets)))
        → let o = next_data_step s store out in
        (answer crane (length out) next_data s store ≡ done)
        × ((n ≡ length (octets_written o)) × ((after 32 next_data s ≡ o.state) × (after' ≡ output_after out o)))
    go true t x = let z : ◌≡◌ {A = ℕ} 0 1 = cc in absurd (omega arith)
    go false t x =
        let e = answer_room s store out f ∙ ap (λ (b : Bool). cond b 12 0) t in
        let k : n ≡ length octets = cc in (
          e,
          rw (
            step_done crane (length out) next_data s store e,
            settled_same (after 32 next_data s) (sound_facts s f.is_sound).choice,
          )
              (k, (refl, p.left ∙ put_fits out 0 octets (omega (arith, ltb-false (length out) (length octets) t)))),
        )

-- it was not: the output is too short, and stays
pub short_output : (s : State) (store out after' : List ℕ) (r : Result ℕ Refusal) (a : Refusal) → SendFacts s store
    → Placed (octets_next s store) out r after' → r ≡ Err a
    → (a ≡ OutputTooShort) × ((answer crane (length out) next_data s store ≡ output_too_short) × (after' ≡ out))
short_output s store out after' r a f p q = go (ltb (length out) (length octets)) refl (sym q ∙ p.answered)
  where
    octets : List ℕ
    octets = octets_next s store

    go : (b : Bool) → ltb (length out) (length octets) ≡ b → ◌≡◌ {A = Result ℕ Refusal} (Err a) (cond b (Err OutputTooShort) (Ok (length octets)))
        → (a ≡ OutputTooShort) × ((answer crane (length out) next_data s store ≡ output_too_short) × (after' ≡ out))
    go false t x = let z : ◌≡◌ {A = ℕ} 0 1 = cc in absurd (omega arith)
    go true t x =
        let k : a ≡ OutputTooShort = cc in (
          k,
          (
            answer_room s store out f ∙ ap (λ (b : Bool). cond b 12 0) t,
            p.left ∙ put_short out 0 octets (omega (arith, ltb-true (length out) (length octets) t)),
          ),
        )

module _ (s : State) (store out : List ℕ) where
  -- a refused call
  kept : {refusal : Refusal} → judged (answer crane (length out) next_data s store) (tt {0}) ≡ Err refusal
      → let o = next_data_step s store out in
      Answered answer_number (Err refusal) (wrote_of o) o.answer × (out ≡ output_after out o)
  unfolding checks
  kept e = (
    step_err crane (length out) next_data s store (tt {0}) _ refl e,
    sym (ap (output_after out) (step_kept crane (length out) next_data s store (tt {0}) e)),
  )

  -- refused before the output is looked at
  pub next_err : {refusal : Refusal} → judged (judge (early_checks s store)) (tt {0}) ≡ Err refusal
      → let o = next_data_step s store out in
      Answered answer_number (Err refusal) (wrote_of o) o.answer × (out ≡ output_after out o)
  next_err e = kept (ap (λ (k : ℕ). judged k (tt {0})) (sym (send_refused s store out (refused_number (tt {0}) e))) ∙ e)

  -- refused for its length: the refusal is that of a short output
  pub next_short : (after' : List ℕ) (r : Result ℕ Refusal) (a : Refusal) → SendFacts s store → Placed (octets_next s store) out r after'
      → r ≡ Err a → (refusal : Refusal) → refusal ≡ OutputTooShort
      → let o = next_data_step s store out in
      Answered answer_number (Err refusal) (wrote_of o) o.answer × (after' ≡ output_after out o)
  unfolding judged refusal_of
  next_short after' r a f p q refusal e =
      let d = short_output s store out after' r a f p q in
      let k = kept (ap (λ (k : ℕ). judged k (tt {0})) d.1.0) in
      (rw e k.0, d.1.1 ∙ k.1)

  -- accepted
  pub next_done : (after' : List ℕ) (r : Result ℕ Refusal) (n : ℕ) (s' : State) → SendFacts s store → Placed (octets_next s store) out r after'
      → r ≡ Ok n → s' ≡ after 32 next_data s
      → let o = next_data_step s store out in
      Answered answer_number (Ok (record { state = s'; written = n })) (wrote_of o) o.answer × (after' ≡ output_after out o)
  next_done after' r n s' f p q k =
      let d = sent_done s store out after' r n f p q in
      let a : (next_data_step s store out).answer ≡ done = ap (λ (o : Outcome). o.answer) (step_done crane (length out) next_data s store d.0) in
      (answered_ok a (rw (k, d.1.1.0, d.1.0) refl), d.1.1.1)
