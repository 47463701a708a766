-- A batch is its single calls, by induction on the given number: each accepted call writes one DATA, which is read by its own length field,
-- and leaves a sound state. In a list of calls it stands for them, so that demand 3 holds of lists with batches.
use mathlib.Core.Path.{◌≡◌, refl, sym, ap, ap₂, ◌∙◌, subst}
use mathlib.Core.Bool.{Bool, true, false, not, cond}
use mathlib.Core.List.{List, [], ◌∷◌, ◌++◌, map, append_assoc}
use Prim.Native.Nat.{ℕ, zero, suc, ◌+◌, ◌-◌, ◌≤◌, ◌<◌}
use native.Mathlib.Numerals.{add-one}
use native.Mathlib.Omega.{arith}
use borrow.Author.Tests.{eqb-true, eqb-false, not-false, le-leb, leb-false}
use lib.Dec.{eqb, eqb-suc-suc, eqb-zero-suc}
use lib.ListN.{length, take, drop, replicate, length-append, length-drop, length-set}
use lib.Seq.{drop-drop, take_at, drop_at}
use Rattle.octets.specs.Answers.{◌when◌, done, unsound_state}
use Rattle.octets.specs.Numbers.{number_of, uint_in, octets_in}
use Rattle.octets.proofs.Numbers.{uint_one, uint_front, read_back}
use Rattle.octets.proofs.Stores.{cond_cases, sets_first}
use Rattle.octets.proofs.Each.{and_left, and_right}
use Rattle.octets.proofs.Judging.{passed}
use Rattle.wire.specs.Messages.{length_field, message_number, data_number, is_message, body_fits, message_of, data_front, layout_of, read_answer}
use Rattle.wire.specs.Messages.{max_record_octets}
use Rattle.wire.specs.Replies.{silent, crane, layout}
use Rattle.messages.specs.declared.message.DataHead.{DataHead}
use Rattle.messages.specs.declared.message.Message.TheVariants.{Data}
use Rattle.messages.proofs.Messages.{readable, reads, data_length}
use Rattle.session.specs.Queue.{record_at, marked}
use Rattle.session.specs.Sound.{sound}
use Rattle.session.specs.Steps.{next_data, head_of, written, checks, sound_for, answer, after, settled, store_after, Outcome, step}
use Rattle.session.specs.Steps.{next_data_step, octets_written}
use Rattle.session.specs.History.{History, fresh_history}
use Rattle.session.specs.Claim.{Exporter, transcript, history_from, Premises}
use Rattle.session.specs.InOctets.{Event, Put, NextData, Receive, OfferTemplates, LineDown, Tick, event_step, after_event, after_events}
use Rattle.session.specs.InOctets.{invocation_of, crane_session, fresh_over, AllOctets}
use Rattle.batches.specs.Batches.{BatchOutcome, answer_at_number, batch, batch_into, single_calls, outcomes, last_answer, messages_of}
use Rattle.batches.specs.Batches.{joined, messages_in, AllData, EveryBatch, ListedCall, Single, SendBatch, calls_for, after_listed}
use Rattle.batches.specs.Batches.{after_list, singles_of, BatchInList, BatchesInList, AllOctetsListed, Demand3WithBatches}
use Rattle.session.specs.declared.state.Settings.{Settings}
use Rattle.session.specs.declared.state.State.{State}
use Rattle.session.proofs.Rings.{read_length}
use Rattle.session.proofs.SoundFacts.{sound_facts}
use Rattle.session.proofs.SoundKept.{Sized, kept_sound}
use Rattle.session.proofs.Places.{wide_modulus}
use Rattle.session.proofs.Calls.{sound_for_lem}
use Rattle.session.proofs.Demand.{Kept, run_keeps, begin_kept}
use Rattle.session.proofs.InOctets.{run_means, all_in_range, demand3_in_octets}
use Rattle.session.proofs.StepLaws.{step_done, step_answer_lem, step_numbered}
use Rattle.session.proofs.Written.{octets_fit_lem}
use Rattle.session.proofs.Refusals.{refusals}

-- ---- a DATA message

-- a DATA whose record is not too long is read, as DATA
data_read : (h : DataHead) (part : List ℕ) → length part ≤ max_record_octets
    → (read_answer (layout_of (Data h) part) ≡ done) × (message_number (layout_of (Data h) part) ≡ data_number)
unfolding layout_of message_of is_message body_fits octets_in uint_in number_of
data_read h part short =
    let m = layout_of (Data h) part in
    let long : length m ≡ 16 + length part = data_length h part in
    let number : message_number m ≡ data_number = uint_one m 1 in
    let field : length_field m ≡ 8 + length (data_front h ++ part) = read_back 4 (8 + length (data_front h ++ part)) (omega arith) in (
      reads m (record {
        long = omega (arith, long);
        version = uint_one m 0;
        field = field ∙ omega arith;
        known = refl;
        fits = le-leb 8 (length m - 8) (omega (arith, long));
        table = λ e. absurd (omega (arith, number, e));
      }),
      number,
    )

-- messages that are read as DATA are found one behind the other by their length fields, whatever follows them
messages_back : (ms : List (List ℕ)) (rest : List ℕ) → AllData ms → messages_in (length ms) (joined ms ++ rest) ≡ ms
unfolding messages_in joined
messages_back [] rest d = refl
messages_back (m ∷ ms) rest d =
    let behind = joined ms ++ rest in
    let r = readable m d.0.0 in
    let field : length_field (m ++ behind) ≡ length m = uint_front m behind 4 4 r.long ∙ r.field in
    ap (messages_in (suc (length ms))) (append_assoc m (joined ms) rest)
    ∙ ap (λ (k : ℕ). take k (m ++ behind) ∷ messages_in (length ms) (drop k (m ++ behind))) field
    ∙ ap₂ (λ (l r : List ℕ). l ∷ messages_in (length ms) r) (take_at m behind (length m) refl) (drop_at m behind (length m) refl)
    ∙ ap (λ (l : List (List ℕ)). m ∷ l) (messages_back ms rest d.1)

-- ---- a single call

-- a state that next data finds sound, with arrays of the code's lengths
record Ready (s : State) (store : List ℕ) : Type 0 where
  found : sound_for next_data s store ≡ true
  sized : Sized s.queue

module _ (room : ℕ) (s : State) (store : List ℕ) where
  -- an accepted call found the state sound, so that the record it sends is not too long
  next_found : eqb (step crane room next_data s store).answer done ≡ true
      → (sound_for next_data s store ≡ true) × (length (record_at s store s.delivery.sent) ≤ max_record_octets)
  unfolding answer checks record_at
  next_found e =
      let p =
      passed ((unsound_state when not (sound_for next_data s store)) ∷ checks crane room next_data s store) tt
      (sym (step_answer_lem crane room next_data s store) ∙ eqb-true _ done e) in
      let found = not-false (sound_for next_data s store) p.0 in
      let f = sound_facts s (and_left (sound s) _ found) in
      let more = leb-false s.queue.count s.delivery.sent p.1.1.0 in
      (found, rw read_length (f.short s.delivery.sent more))

  -- it writes a DATA
  next_read : eqb (step crane room next_data s store).answer done ≡ true → let m = octets_written (step crane room next_data s store) in
      (read_answer m ≡ done) × (message_number m ≡ data_number)
  unfolding written
  next_read e =
      let a = sym (step_answer_lem crane room next_data s store) ∙ eqb-true _ done e in
      rw (step_done crane room next_data s store a) (data_read (head_of 32 s) (record_at s store s.delivery.sent) (next_found e).1)

  -- a refused one writes nothing
  next_silent : eqb (step crane room next_data s store).answer done ≡ false → octets_written (step crane room next_data s store) ≡ []
  next_silent e = ap layout (refusals.steps crane room next_data s store (eqb-false _ done e)).written

  -- and leaves the state
  next_refused : eqb (step crane room next_data s store).answer done ≡ false → (step crane room next_data s store).state ≡ s
  next_refused e = (refusals.steps crane room next_data s store (eqb-false _ done e)).state

  -- a call leaves the arrays their lengths, and the state the length of its store
  pub next_sized : Sized s.queue → Sized (step crane room next_data s store).state.queue
      × ((step crane room next_data s store).state.capacity ≡ s.capacity)
  unfolding step settled after marked
  next_sized z =
      let a = answer crane room next_data s store in
      cond_cases (λ (o : Outcome). Sized o.state.queue × (o.state.capacity ≡ s.capacity)) (eqb a done)
      (record {
        answer = done;
        state = settled (after 32 next_data s);
        store = store_after next_data s store;
        written = written 32 next_data s store;
      })
      (record { answer = a; state = s; store = store; written = silent })
      (λ h. (
        record { lengths = z.lengths; templates = z.templates; receivers = length-set s.queue.receivers _ _ ∙ z.receivers },
        refl,
      ))
      (λ h. (z, refl))

  -- and a sound state stays sound
  next_ready : Ready s store → Ready (step crane room next_data s store).state store
  next_ready r =
      let k = next_sized r.sized in
      record {
        found = rw (kept_sound crane room next_data s store r.sized (and_left (sound s) _ r.found), k.1)
            (and_right (sound s) _ r.found);
        sized = k.0;
      }

  -- so the answer at the given number is 0 behind an accepted call
  pub next_at_number : Sized s.queue → eqb (step crane room next_data s store).answer done ≡ true
      → answer_at_number (step crane room next_data s store).state store ≡ done
  next_at_number z e = rw (next_ready (record { found = (next_found e).0; sized = z })).found refl

-- ---- the batch

-- an accepted call writes one message more
accepted_message : (o : Outcome) (os : List Outcome) → eqb o.answer done ≡ true
    → messages_of (o ∷ os) ≡ octets_written o ∷ messages_of os
unfolding messages_of
accepted_message o os e = ap (λ (b : Bool). cond b (octets_written o ∷ messages_of os) (messages_of os)) e

-- a refused one none
refused_message : (o : Outcome) (os : List Outcome) → eqb o.answer done ≡ false → messages_of (o ∷ os) ≡ messages_of os
unfolding messages_of
refused_message o os e = ap (λ (b : Bool). cond b (octets_written o ∷ messages_of os) (messages_of os)) e

-- its answer stands in front of the others
accepted_answers : (k a : ℕ) (others last : List ℕ) → eqb a done ≡ true → others ≡ replicate k done ++ last
    → a ∷ others ≡ replicate (k + 1) done ++ last
accepted_answers k a others last e h =
    ap₂ (λ (b : ℕ) (l : List ℕ). b ∷ l) (eqb-true a done e) h ∙ ap (λ (n : ℕ). replicate n done ++ last) (sym (add-one k))

-- the octets that two messages leave are those that the second leaves of what the first left
drop_both : (m l out : List ℕ) → drop (length (m ++ l)) out ≡ drop (length l) (drop (length m) out)
drop_both m l out = ap (λ (k : ℕ). drop k out) (length-append m l) ∙ sym (drop-drop (length l) (length m) out)

-- a number is reached with one more where the number before it was
reached_next : (k n : ℕ) → eqb (k + 1) (suc n) ≡ eqb k n
reached_next k n = rw (add-one, eqb-suc-suc)

-- what holds of a batch b of at most n messages and of its single calls es
record Facts (n : ℕ) (out : List ℕ) (x : Exporter) (b : BatchOutcome) (es : List Event) : Type 0 where
  same_run : after_events x es ≡ record { state = b.state; store = x.store }
  counted : b.count ≡ length (messages_of (outcomes x es))
  limited : b.count ≤ n
  stopped : b.count < n → (next_data_step b.state x.store (drop (length b.octets) out)).answer ≡ b.answer
  written : b.octets ≡ joined (messages_of (outcomes x es))
  fits : length b.octets ≤ length out
  are_data : AllData (messages_of (outcomes x es))
  answered : Sized x.state.queue → b.answer ≡ last_answer (answer_at_number x.state x.store) (outcomes x es)
  -- the given number is reached exactly where the answer is 0; where it is not, a refused call with that answer is the last
  reached : Ready x.state x.store → eqb b.answer done ≡ eqb b.count n
  calls : Ready x.state x.store
      → map (λ (o : Outcome). o.answer) (outcomes x es) ≡ replicate b.count done ++ cond (eqb b.answer done) [] (b.answer ∷ [])

-- the first call, and where it is accepted the batch of one less from what it leaves
facts : (n : ℕ) (out : List ℕ) (x : Exporter) → Facts n out x (batch n (length out) x.state x.store) (single_calls n out x)
unfolding batch single_calls outcomes last_answer messages_of joined after_event after_events
facts zero out x =
    record {
      same_run = refl;
      counted = refl;
      limited = omega arith;
      stopped = λ s. absurd (omega (arith, s));
      written = refl;
      fits = omega arith;
      are_data = tt;
      answered = λ z. refl;
      reached = λ r. rw r.found refl;
      calls = λ r. rw r.found refl;
    }
facts (suc n) out x = go (eqb o.answer done) refl (rw length-drop at (facts n (drop (length m) out) next))
  where
    o : Outcome
    o = event_step x (NextData out)

    m : List ℕ
    m = octets_written o

    next : Exporter
    next = after_event x (NextData out)

    b : BatchOutcome
    b = batch n (length out - length m) o.state x.store

    es : List Event
    es = single_calls n (drop (length m) out) next

    go : (accepted : Bool) → eqb o.answer done ≡ accepted → Facts n (drop (length m) out) next b es
        → Facts (suc n) out x (batch (suc n) (length out) x.state x.store) (single_calls (suc n) out x)
    go true e f =
        let more = accepted_message o (outcomes next es) e in
        rw e
        (record {
          same_run = f.same_run;
          counted = ap (λ (k : ℕ). k + 1) f.counted ∙ add-one (length (messages_of (outcomes next es))) ∙ sym (ap length more);
          limited = omega (arith, f.limited);
          stopped = λ s.
              ap (λ (l : List ℕ). (next_data_step b.state x.store l).answer) (drop_both m b.octets out)
              ∙ f.stopped (omega (arith, s));
          written = ap (λ (l : List ℕ). m ++ l) f.written ∙ sym (ap joined more);
          fits =
              omega (
                arith,
                f.fits,
                length-append m b.octets,
                length-drop (length m) out,
                octets_fit_lem (length out) next_data x.state x.store,
              );
          are_data = subst AllData (sym more) (next_read (length out) x.state x.store e, f.are_data);
          answered = λ z.
              f.answered (next_sized (length out) x.state x.store z).0
              ∙ ap (λ (a : ℕ). last_answer a (outcomes next es))
              (next_at_number (length out) x.state x.store z e ∙ sym (eqb-true o.answer done e));
          reached = λ r. f.reached (next_ready (length out) x.state x.store r) ∙ sym (reached_next b.count n);
          calls = λ r.
              accepted_answers b.count o.answer _ _ e (f.calls (next_ready (length out) x.state x.store r));
        })
    go false e f =
        let none = refused_message o [] e in
        rw (e, next_silent (length out) x.state x.store e)
        (record {
          same_run = refl;
          counted = sym (ap length none);
          limited = omega arith;
          stopped = λ s. ap (λ (y : State). (next_data_step y x.store out).answer) (next_refused (length out) x.state x.store e);
          written = sym (ap joined none);
          fits = omega arith;
          are_data = subst AllData (sym none) tt;
          answered = λ z. refl;
          reached = λ r. e ∙ sym (eqb-zero-suc n);
          calls = λ r. rw e refl;
        })

-- the arrays have their entries: in shorter ones no set could be noted, and an accepted call would leave an unsound state
pub batch_claim : EveryBatch
batch_claim n out x lengths templates receivers =
    let f = facts n out x in
    let b = batch_into n out x in
    let ms = messages_of (outcomes x (single_calls n out x)) in
    let behind = drop (length b.octets) out in
    let output = sets_first out b.octets f.fits in
    record {
      same_run = f.same_run;
      answered = f.answered (record { lengths = lengths; templates = templates; receivers = receivers });
      counted = f.counted;
      limited = f.limited;
      stopped = f.stopped;
      written = f.written;
      fits = f.fits;
      output = output;
      read =
          ap (messages_in b.count) output
          ∙ ap (λ (k : ℕ). messages_in k (b.octets ++ behind)) f.counted
          ∙ ap (λ (l : List ℕ). messages_in (length ms) (l ++ behind)) f.written
          ∙ messages_back ms behind f.are_data;
      are_data = f.are_data;
    }

-- ---- what a list leaves

-- calls behind others go on from what those leave
after_both : (x : Exporter) (es fs : List Event) → after_events x (es ++ fs) ≡ after_events (after_events x es) fs
unfolding after_events
after_both x [] fs = refl
after_both x (e ∷ es) fs = after_both (after_event x e) es fs

-- a call of a list leaves what its single calls leave
listed_run : (x : Exporter) (l : ListedCall) → after_listed x l ≡ after_events x (calls_for x l)
unfolding after_events
listed_run x (Single e) = refl
listed_run x (SendBatch n out) = sym (facts n out x).same_run

-- so does a list
list_run : (x : Exporter) (ls : List ListedCall) → after_list x ls ≡ after_events x (singles_of x ls)
unfolding after_list singles_of after_events
list_run x [] = refl
list_run x (l ∷ ls) =
    let y = after_listed x l in
    list_run y ls
    ∙ ap (λ (z : Exporter). after_events z (singles_of y ls)) (listed_run x l)
    ∙ sym (after_both x (calls_for x l) (singles_of y ls))

-- ---- what a list receives

-- the messages of two lists of calls
octets_both : (es fs : List Event) → AllOctets es → AllOctets fs → AllOctets (es ++ fs)
octets_both [] fs o k = k
octets_both (Put table id r ∷ es) fs o k = octets_both es fs o k
octets_both (NextData out ∷ es) fs o k = octets_both es fs o k
octets_both (Receive v m out ∷ es) fs o k = (o.0, octets_both es fs o.1 k)
octets_both (OfferTemplates v table out ∷ es) fs o k = octets_both es fs o k
octets_both (LineDown v ∷ es) fs o k = octets_both es fs o k
octets_both (Tick ∷ es) fs o k = octets_both es fs o k

-- a batch receives no message
singles_octets : (n : ℕ) (out : List ℕ) (x : Exporter) → AllOctets (single_calls n out x)
unfolding single_calls
singles_octets zero out x = tt
singles_octets (suc n) out x =
    let o = event_step x (NextData out) in
    cond_cases AllOctets (eqb o.answer done) (single_calls n (drop (length (octets_written o)) out) (after_event x (NextData out))) []
    (λ e. singles_octets n (drop (length (octets_written o)) out) (after_event x (NextData out)))
    (λ e. tt)

-- those of one call of a list, and of the rest
listed_octets : (x : Exporter) (l : ListedCall) (ls : List ListedCall) → AllOctetsListed (l ∷ ls)
    → AllOctets (calls_for x l) × AllOctetsListed ls
listed_octets x (Single e) ls o = o
listed_octets x (SendBatch n out) ls o = (singles_octets n out x, o)

-- so the single calls of a list receive octets
list_octets : (x : Exporter) (ls : List ListedCall) → AllOctetsListed ls → AllOctets (singles_of x ls)
unfolding singles_of
list_octets x [] o = tt
list_octets x (l ∷ ls) o =
    let c = listed_octets x l ls o in
    octets_both (calls_for x l) (singles_of (after_listed x l) ls) c.0 (list_octets (after_listed x l) ls c.1)

-- ---- batches in a list

-- an exporter that calls from set-up on left, with their history
record Reached (p : Settings) (x : Exporter) : Type 0 where
  history : History
  kept : Kept (crane_session p) history x

module _ (p : Settings) where
  -- more calls leave such an exporter
  reached_after : (x : Exporter) (es : List Event) → AllOctets es → Reached p x → Reached p (after_events x es)
  reached_after x es o r =
      let z = crane_session p in
      let is = map (invocation_of p) es in
      record {
        history = history_from 32 p r.history (transcript z x is);
        kept = subst (Kept z (history_from 32 p r.history (transcript z x is))) (sym (run_means p x es r.kept.settings))
            (run_keeps z (wide_modulus 32 (omega arith)) x r.history is (all_in_range p es o) r.kept);
      }

  -- its arrays have their lengths, and next data finds it sound
  batch_in_list : (x : Exporter) (l : ListedCall) → Reached p x → BatchInList x l
  batch_in_list x (Single e) r = tt
  batch_in_list x (SendBatch n out) r =
      let a = r.kept.agrees in
      let z = a.sized in
      let f = facts n out x in
      let ready : Ready x.state x.store = record { found = sound_for_lem a next_data; sized = z } in
      (batch_claim n out x z.lengths z.templates z.receivers, (f.reached ready, f.calls ready))

  -- so it is with every batch of a list
  batches_in_list : (x : Exporter) (ls : List ListedCall) → AllOctetsListed ls → Reached p x → BatchesInList x ls
  batches_in_list x [] o r = tt
  batches_in_list x (l ∷ ls) o r =
      let c = listed_octets x l ls o in (
        batch_in_list x l r,
        batches_in_list (after_listed x l) ls c.1
            (subst (Reached p) (sym (listed_run x l)) (reached_after x (calls_for x l) c.0 r)),
      )

-- ---- the claim

pub demand3_with_batches : Demand3WithBatches
demand3_with_batches p store a i ls o =
    let x = fresh_over p store in
    let m : Premises (crane_session p) store = record { wide = omega arith; accepted = a; initial = i } in
    record {
      same_run = list_run x ls;
      claim = demand3_in_octets p store a i (singles_of x ls) (list_octets x ls o);
      batches = batches_in_list p x ls o (record { history = fresh_history; kept = begin_kept (crane_session p) store m });
    }

-- the answer of a batch is 0 or a refusal's number
pub batch_numbered : (n room : ℕ) (s : State) (store : List ℕ) → (batch n room s store).answer ≤ 22
unfolding batch checks
batch_numbered zero room s store = go (sound_for next_data s store)
  where
    go : (b : Bool) → cond (not b) unsound_state done ≤ 22
    go true = omega arith
    go false = omega arith
batch_numbered (suc n) room s store =
    cond_cases (λ (b : BatchOutcome). b.answer ≤ 22) (eqb (step crane room next_data s store).answer done) _ _
    (λ e. batch_numbered n _ _ store) (λ e. step_numbered crane room next_data s store refl)
