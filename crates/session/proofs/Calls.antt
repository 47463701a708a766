-- What is claimed of one call follows from what holds between the history and the exporter, which the call keeps: a place in the history
-- stands for a place of the queue, with the same record, DSN and servers, so that the checks of the state are those due by the history.
--
use mathlib.Core.Path.{◌≡◌, refl, sym, ap, ◌∙◌, subst}
use mathlib.Core.Logic.{inl, inr}
use mathlib.Core.Bool.{Bool, true, false, not, ◌&&◌, ◌||◌, cond, false≢true, and-true}
use mathlib.Core.List.{List, [], ◌∷◌, ◌++◌}
use Prim.Native.Nat.{ℕ, ◌+◌, ◌-◌, ◌≤◌, ◌<◌}
use native.Mathlib.Nat.{zero-add, mod-lt}
use native.Mathlib.Decide.{dec_lt, ℕ_discrete}
use native.Mathlib.Numerals.{unary_clauses}
use native.Mathlib.Omega.{arith}
use lib.Dec.{eqb, leb, ltb, eqb-suc-suc}
use lib.ListN.{length, get_or, take, take-append-drop}
use lib.Seq.{get_or-drop}
use borrow.Author.Tests.{leb-false, eqb-true, eqb-false, not-true, eq-eqb, ne_eqb, le-leb, lt-leb, lt-ltb, le-ltb}
use Rattle.octets.specs.Answers.{Check, ◌when◌, judge, done, unsound_state}
use Rattle.octets.proofs.Judging.{passed}
use Rattle.octets.proofs.Each.{and_left, and_right}
use Rattle.wire.specs.Table.{is_missing, template_of}
use Rattle.wire.specs.Record.{record_valid}
use Rattle.wire.specs.Messages.{max_record_octets}
use Rattle.wire.specs.Replies.{Reply, silent, message, Encoding}
use Rattle.messages.specs.declared.message.Message.TheVariants.{Data}
use Rattle.session.specs.Servers.{same_active, changed, settle, start, stop, negotiate, offer, down, agree, malformed}
use Rattle.session.specs.Queue.{Entry, sum_of, held_octets, record_at, held}
use Rattle.session.specs.Limits.{max_held}
use Rattle.session.specs.Steps.{modulus, ack_count, Call, put, next_data, tick, ack, move, is_duplicate, is_first, head_of, written}
use Rattle.session.specs.Steps.{is_sessions, checks, sound_for, answer, after, settled, store_after, Outcome, step}
use Rattle.session.specs.History.{Ledger, History, dsn_of, ack_place, delivery_after, ledger_after, after_accepted, after_call, written_in}
use Rattle.session.specs.History.{first_written}
use Rattle.session.specs.Claim.{Session, InRange, entry_at, next_place, is_duplicate_for, due_reply, octets_together, due_checks, Named}
use Rattle.session.specs.Claim.{is_first_in, ReleasedBy, Acknowledgeable, CallClaim, Account}
use Rattle.std.specs.Prelude.{Option, Some, None}
use Rattle.session.specs.declared.state.Delivery.{Delivery}
use Rattle.session.specs.declared.state.State.{State}
use Rattle.session.proofs.SoundFacts.{SoundFacts, sound_facts, active_same}
use Rattle.session.proofs.Choice.{chosen_below}
use Rattle.session.proofs.Places.{one_place, reached_test}
use Rattle.session.proofs.QueueLaws.{duplicate_same, no_entry, held_at, held_length, held_octets_lem}
use Rattle.session.proofs.Agrees.{Core, Agrees}
use Rattle.session.proofs.SoundKept.{active_some, after_sized, accepted_sound}
use Rattle.session.proofs.HeldLaws.{held_read}
use Rattle.session.proofs.StepLaws.{step_answer_lem}
use Rattle.session.proofs.Keeps.{begun, begun_released, written_released, none_more, settle_keeps, held_dsn, acked, ack_dsn}
use Rattle.session.proofs.Keeps.{ack_below, ack_named, acknowledger, first_place, call_keeps, call_delivery}

-- ---- the state is sound

pub sound_for_lem : {w : ℕ} {h : History} {s : State} {store : List ℕ} → Agrees w h s store → (k : Call) → sound_for k s store ≡ true
sound_for_lem {s} {store} a (put table id r) = rw a.is_sound (eq-eqb (length store) s.capacity a.core.stored)
sound_for_lem {s} {store} a next_data = rw a.is_sound (eq-eqb (length store) s.capacity a.core.stored)
sound_for_lem a tick = a.is_sound
sound_for_lem a (ack v d config) = a.is_sound
sound_for_lem a (move v m) = a.is_sound

-- so that a call is judged by its own checks
pub answer_checks : (enc : Encoding) {h : History} {s : State} {store : List ℕ} → Agrees enc.width h s store → (room : ℕ) (k : Call)
    → answer enc room k s store ≡ judge (checks enc room k s store)
unfolding answer
answer_checks enc a room k = rw (sound_for_lem a k)

-- ---- the step

abbrev accepted : ℕ → Call → State → List ℕ → Outcome
accepted w k s store =
    record { answer = done; state = settled (after w k s); store = store_after k s store; written = written w k s store }

abbrev refused : ℕ → State → List ℕ → Outcome
refused a s store = record { answer = a; state = s; store = store; written = silent }

-- the settings stay
pub after_settings : (w : ℕ) (k : Call) (s : State) → (after w k s).settings ≡ s.settings
unfolding after
after_settings w (put table id r) s = refl
after_settings w next_data s = refl
after_settings w tick s = refl
after_settings w (ack v d config) s = refl
after_settings w (move v m) s = refl

pub step_settings : (enc : Encoding) (room : ℕ) (k : Call) (s : State) (store : List ℕ)
    → (step enc room k s store).state.settings ≡ s.settings
unfolding step settled
step_settings enc room k s store = go (eqb (answer enc room k s store) done)
  where
    go : (b : Bool) → (cond b (accepted enc.width k s store) (refused (answer enc room k s store) s store)).state.settings ≡ s.settings
    go true = after_settings enc.width k s
    go false = refl

-- ---- an answer that is none of the checks' numbers

abbrev others : ℕ → List Check → Bool
others n [] = not (eqb done n)
others n ((a when b) ∷ cs) = not (eqb a n) && others n cs

judge_other : (n : ℕ) (cs : List Check) → others n cs ≡ true → eqb (judge cs) n ≡ false
judge_other n [] e = not-true (eqb done n) e
judge_other n ((a when true) ∷ cs) e = not-true (eqb a n) (and_left (not (eqb a n)) (others n cs) e)
judge_other n ((a when false) ∷ cs) e = judge_other n cs (and_right (not (eqb a n)) (others n cs) e)

-- a message that its form refuses is not refused with 1
form_other : (a : ℕ) → 3 ≤ a → eqb a unsound_state ≡ false
form_other a h = ne_eqb a 1 (omega arith)

never_unsound_lem : (enc : Encoding) (room : ℕ) (k : Call) (s : State) (store : List ℕ) → InRange enc.width k
    → eqb (judge (checks enc room k s store)) unsound_state ≡ false
unfolding checks
never_unsound_lem enc room (put table id r) s store f = judge_other unsound_state (checks enc room (put table id r) s store) refl
never_unsound_lem enc room next_data s store f = judge_other unsound_state (checks enc room next_data s store) refl
never_unsound_lem enc room tick s store f = refl
never_unsound_lem enc room (ack v d config) s store f = judge_other unsound_state (checks enc room (ack v d config) s store) refl
never_unsound_lem enc room (move v start) s store f = judge_other unsound_state (checks enc room (move v start) s store) refl
never_unsound_lem enc room (move v stop) s store f = judge_other unsound_state (checks enc room (move v stop) s store) refl
never_unsound_lem enc room (move v negotiate) s store f = judge_other unsound_state (checks enc room (move v negotiate) s store) refl
never_unsound_lem enc room (move v (offer table)) s store f = judge_other unsound_state (checks enc room (move v (offer table)) s store) refl
never_unsound_lem enc room (move v down) s store f = judge_other unsound_state (checks enc room (move v down) s store) refl
never_unsound_lem enc room (move v (agree config)) s store f = judge_other unsound_state (checks enc room (move v (agree config)) s store) refl
never_unsound_lem enc room (move v (malformed a)) s store f =
    judge_other unsound_state (checks enc room (move v (malformed a)) s store) (rw (form_other a f.0) refl)

-- ---- the held records

-- the record at place i of the queue is that of its place in the history
held_entry : {w : ℕ} {h : History} {s : State} {store : List ℕ} → Agrees w h s store → (i : ℕ) → i < s.queue.count
    → get_or h.ledger.records (h.ledger.released + i) no_entry ≡ held_at s store i
held_entry {h} {s} {store} a i g =
    sym (get_or-drop h.ledger.released h.ledger.records i no_entry)
    ∙ ap (λ (hs : List Entry). get_or hs i no_entry) a.core.behind
    ∙ held_read s store i g

-- ---- a call

-- a place behind the released ones is the one behind those released before only where none was released since
none_since : (q r b : ℕ) → b ≤ r → r < q → eqb q (b + 1) && eqb r b ≡ eqb q (b + 1)
none_since q r b h g = go (ℕ_discrete q (b + 1))
  where
    go : Dec (q ≡ b + 1) → eqb q (b + 1) && eqb r b ≡ eqb q (b + 1)
    go (yes x) = rw (eq-eqb r b (omega arith)) (and-true (eqb q (b + 1)))
    go (no x) = rw (ne_eqb q (b + 1) x)

-- the session that a state belongs to
abbrev pub session_at : Encoding → State → Session
session_at enc s = record { encoding = enc; settings = s.settings }

module _ (enc : Encoding) (room : ℕ) (h : History) (s : State) (store : List ℕ) (wide : 64 < modulus enc.width)
    (a : Agrees enc.width h s store) where
  -- how many bits a sequence number has
  abbrev w : ℕ
  w = enc.width

  -- what the sound state is known by
  facts : SoundFacts s
  facts = sound_facts s a.is_sound

  -- an accepted call
  accept_keeps : (k : Call) → InRange w k → judge (checks enc room k s store) ≡ done
      → Agrees w (after_accepted w s.settings k h) (settled (after w k s)) (store_after k s store)
  unfolding after_accepted settled
  accept_keeps k r e =
      let same : (after w k s).settings ≡ s.settings = after_settings w k s in
      let z : (after w k s).delivery ≡ delivery_after w s.settings k h.ledger s.delivery =
      call_delivery enc h.ledger s store wide a.is_sound a.sized a.core room k r e in
      let l : Ledger = ledger_after w s.settings k s.delivery h.ledger in
      let c = settle_keeps (call_keeps enc h.ledger s store wide a.is_sound a.sized a.core room k r e) in
      let q : changed (after w k s).settings (after w k s).delivery
      ≡ changed s.settings (delivery_after w s.settings k h.ledger s.delivery) =
      λ i. changed (same i) (z i) in
      rw a.delivery (record {
        delivery = λ i. settle (sym same i) (sym z i);
        is_sound = accepted_sound enc room k s store a.sized a.is_sound e;
        sized = after_sized s a.sized facts enc room k store e;
        core = subst (λ (b : Bool). Core w (begun b l) (settled (after w k s)) (store_after k s store)) q c;
      })

  pub step_keeps : (k : Call) → InRange w k
      → let o = step enc room k s store in Agrees w (after_call w s.settings k o.answer h) o.state o.store
  unfolding step after_call
  step_keeps k r = go (eqb (answer enc room k s store) done) refl
    where
      b₀ : ℕ
      b₀ = answer enc room k s store

      o : Bool → Outcome
      o b = cond b (accepted w k s store) (refused b₀ s store)

      go : (b : Bool) → eqb b₀ done ≡ b → Agrees w (after_call w s.settings k (o b).answer h) (o b).state (o b).store
      go true z = accept_keeps k r (sym (answer_checks enc a room k) ∙ eqb-true b₀ done z)
      go false z = rw z a

  -- ---- what the next DATA is

  sent_same : h.delivery.sent ≡ s.delivery.sent
  sent_same = ap (λ (d : Delivery). d.sent) a.delivery

  next_place_lem : next_place h ≡ h.ledger.released + (s.delivery.sent + 1)
  next_place_lem = ap (λ (n : ℕ). h.ledger.released + (n + 1)) sent_same

  -- the record at place "sent" of the queue is that of its place in the history
  next_entry : s.delivery.sent < s.queue.count
      → entry_at h.ledger (h.ledger.released + (s.delivery.sent + 1)) ≡ held_at s store s.delivery.sent
  next_entry g =
      let e : h.ledger.released + (s.delivery.sent + 1) - 1 ≡ h.ledger.released + s.delivery.sent = omega arith in
      ap (λ (n : ℕ). get_or h.ledger.records n no_entry) e ∙ held_entry a s.delivery.sent g

  duplicate_at : (v : Option ℕ) → s.delivery.sent < s.queue.count
      → is_duplicate s.settings v (get_or s.queue.receivers s.delivery.sent 0)
      ≡ is_duplicate_for v h.ledger.writings (h.ledger.released + (s.delivery.sent + 1))
  duplicate_at None g = refl
  duplicate_at (Some v) g =
      duplicate_same s.settings.servers v (get_or s.queue.receivers s.delivery.sent 0) h.ledger.writings
      (h.ledger.released + (s.delivery.sent + 1))
      (λ u. a.core.stock.marks s.delivery.sent u g)
      (a.core.stock.existing (h.ledger.released + (s.delivery.sent + 1)))

  -- S is set by the state exactly where its record began the activation and none was released since
  s_at : is_first s.due s.delivery.sent
      ≡ (eqb (h.ledger.released + (s.delivery.sent + 1)) (h.ledger.released_before + 1)
      && eqb h.ledger.released h.ledger.released_before)
  s_at =
      let n : ℕ = s.delivery.sent in
      let r : ℕ = h.ledger.released in
      let b : ℕ = h.ledger.released_before in
      let e : eqb (r + n) b ≡ eqb (r + (n + 1)) (b + 1) = simp (unary_clauses, eqb-suc-suc) in
      ap (λ (x : Bool). x && eqb n 0) a.core.starts ∙ none_more r n b a.core.origin ∙ e
      ∙ sym (none_since (r + (n + 1)) r b a.core.origin (omega arith))

  -- that record was written first in the activation, if any was
  first_written_lem : judge (checks enc room next_data s store) ≡ done
      → is_first_in h ≡ eqb (next_place h) (first_written h.ledger.writings h.ledger.activation (next_place h))
  unfolding checks
  first_written_lem e =
      let l = h.ledger in
      let v = active_some s.delivery.active (passed (checks enc room next_data s store) tt e).0 in
      let began : first_written l.writings l.activation (next_place h) ≡ l.released_before + 1 =
      rw next_place_lem (first_place enc l s store wide a.is_sound a.sized a.core v.0 v.1) in
      none_since (next_place h) l.released l.released_before a.core.origin (omega arith) ∙ ap (eqb (next_place h)) (sym began)

  -- the next DATA, with S or without
  next_with : Bool → Reply
  next_with b =
      let n = s.delivery.sent in
      let place = h.ledger.released + (n + 1) in
      message
      (Data
      (record {
        session = s.settings.session;
        template = get_or s.queue.templates n 0;
        config = s.settings.config;
        first = b;
        duplicate = is_duplicate_for s.delivery.active h.ledger.writings place;
        dsn = dsn_of w s.settings place;
      }))
      (record_at s store n)

  next_written : s.delivery.sent < s.queue.count → written w next_data s store ≡ due_reply (session_at enc s) h next_data
  unfolding written head_of next_with
  next_written g =
      let e = next_entry g in
      let c = a.core in
      rw (
        a.delivery,
        e,
        held_dsn enc h.ledger s store wide a.is_sound a.sized c s.delivery.sent,
        duplicate_at s.delivery.active g,
      ) (ap next_with s_at)

  -- ---- the refusals that are due

  count_held : length (held s store) ≡ s.queue.count
  count_held = held_length s store 0 s.queue.count

  octets_held_lem : octets_together (held s store) ≡ held_octets s.queue
  unfolding sum_of
  octets_held_lem =
      let n : ℕ = s.queue.count in
      sym (zero-add (octets_together (held s store))) ∙ held_octets_lem s store 0 n (omega (arith, a.sized.lengths, facts.numbers.few))
      ∙ ap (λ (i : ℕ). sum_of (take i s.queue.lengths)) (zero-add n)

  due_put : (table : List ℕ) (id : ℕ) (r : List ℕ)
      → judge (checks enc room (put table id r) s store)
      ≡ judge (due_checks (session_at enc s) (length store) room h (held s store) (put table id r))
  unfolding checks
  due_put table id r = rw (count_held, octets_held_lem, a.core.stored) refl

  due_next : judge (checks enc room next_data s store) ≡ judge (due_checks (session_at enc s) (length store) room h (held s store) next_data)
  unfolding checks
  due_next = go (dec_lt s.delivery.sent s.queue.count)
    where
      c : Core w h.ledger s store
      c = a.core

      active : h.delivery.active ≡ s.delivery.active
      active = ap (λ (d : Delivery). d.active) a.delivery

      go : Dec (s.delivery.sent < s.queue.count)
          → judge (checks enc room next_data s store) ≡ judge (due_checks (session_at enc s) (length store) room h (held s store) next_data)
      go (yes g) =
          rw (
            next_written g,
            active,
            lt-leb s.queue.count s.delivery.sent g,
            le-ltb (length h.ledger.records) (next_place h) (omega (arith, next_place_lem, c.stock.counted)),
          ) refl
      go (no g) =
          rw (
            active,
            le-leb s.queue.count s.delivery.sent (omega arith),
            lt-ltb (length h.ledger.records) (next_place h) (omega (arith, next_place_lem, c.stock.counted)),
          ) refl

  due_ack : (v d config : ℕ) → d < modulus w
      → judge (checks enc room (ack v d config) s store)
      ≡ judge (due_checks (session_at enc s) (length store) room h (held s store) (ack v d config))
  unfolding checks
  due_ack v d config r =
      let c = a.core in
      let l = h.ledger in
      rw (
        a.delivery,
        reached_test w s.settings wide s.delivery.reached l.released (ack_count w s d) d
            (omega (arith, facts.numbers.reached_held, facts.numbers.few))
            (ack_below enc l s store wide a.is_sound a.sized c d) (ack_dsn enc l s store wide a.is_sound a.sized c d r),
      ) refl

  due_answer : (k : Call) → InRange w k
      → judge (checks enc room k s store) ≡ judge (due_checks (session_at enc s) (length store) room h (held s store) k)
  unfolding checks
  due_answer (put table id r) i = due_put table id r
  due_answer next_data i = due_next
  due_answer tick i = refl
  due_answer (ack v d config) i = due_ack v d config i
  due_answer (move v m) i = rw a.delivery refl

  -- ---- what is claimed of an accepted call

  sent_held : judge (checks enc room next_data s store) ≡ done → s.delivery.sent < s.queue.count
  unfolding checks
  sent_held e = leb-false _ _ (passed (checks enc room next_data s store) tt e).1.0

  due_written : (k : Call) → judge (checks enc room k s store) ≡ done → written w k s store ≡ due_reply (session_at enc s) h k
  unfolding written
  due_written (put table id r) e = refl
  due_written next_data e = next_written (sent_held e)
  due_written tick e = refl
  due_written (ack v d config) e = refl
  due_written (move v m) e = refl

  stands_for_lem : judge (checks enc room next_data s store) ≡ done → (q : ℕ) → h.ledger.released < q → q ≤ h.ledger.released + 64
      → dsn_of w s.settings q ≡ dsn_of w s.settings (next_place h) → q ≡ next_place h
  stands_for_lem e q lo hi x =
      one_place w s.settings wide q (next_place h) (omega (arith, next_place_lem))
      (omega (arith, next_place_lem, sent_held e, facts.numbers.few)) x

  next_accepted : judge (checks enc room next_data s store) ≡ done → next_place h ≤ length h.ledger.records
  next_accepted e = omega (arith, next_place_lem, sent_held e, a.core.stock.counted)

  names_one : (v d config : ℕ) → d < modulus w → judge (checks enc room (ack v d config) s store) ≡ done
      → Named w s.settings h.ledger d
  names_one v d config b e =
      let l = h.ledger in
      let c = a.core in
      let n : ack_count w s d ≤ s.delivery.reached = acked enc l s store wide a.is_sound a.sized c room v d config e in
      let y : ack_place w s.settings l d ≡ l.released + ack_count w s d = ack_named enc l s store wide a.is_sound a.sized c d b n in
      let x : dsn_of w s.settings (ack_place w s.settings l d) ≡ d = rw y (ack_dsn enc l s store wide a.is_sound a.sized c d b) in
      record {
        from = omega arith;
        up_to = omega (arith, facts.numbers.reached_held, facts.numbers.few);
        carries = x;
        only = λ q lo hi k.
            one_place w s.settings wide q (ack_place w s.settings l d)
            (omega (arith, facts.numbers.reached_held, facts.numbers.few))
            (omega (arith, facts.numbers.reached_held, facts.numbers.few)) (k ∙ sym x);
        accepted = omega (arith, facts.numbers.reached_held, c.stock.counted);
      }

  ledger_releases : (k : Call) → InRange w k → judge (checks enc room k s store) ≡ done → (q : ℕ) → h.ledger.released < q
      → q ≤ (ledger_after w s.settings k h.delivery h.ledger).released → ReleasedBy h k q
  unfolding ledger_after checks
  ledger_releases (put table id r) i e q lo hi = let y : ⊥ = omega arith in absurd y
  ledger_releases next_data i e q lo hi =
      let y : ⊥ = omega (arith, written_released h.delivery.active (next_place h) h.ledger) in
      absurd y
  ledger_releases tick i e q lo hi = let y : ⊥ = omega arith in absurd y
  ledger_releases (move v m) i e q lo hi = let y : ⊥ = omega arith in absurd y
  ledger_releases (ack v d config) i e q lo hi =
      let active : s.delivery.active ≡ Some v =
      acknowledger enc h.ledger s store wide a.is_sound a.sized a.core room v d config e in
      let n : ack_count w s d ≤ s.delivery.reached =
      acked enc h.ledger s store wide a.is_sound a.sized a.core room v d config e in
      record {
        server = v;
        dsn = d;
        config = config;
        acknowledges = refl;
        is_active = ap (λ (x : Delivery). x.active) a.delivery ∙ active;
        was_written =
            a.core.since v q active lo (omega (arith, ack_named enc h.ledger s store wide a.is_sound a.sized a.core d i n));
      }

  dsn_below : (q : ℕ) → dsn_of w s.settings q < modulus w
  unfolding dsn_of
  dsn_below q = mod-lt _ (omega arith)

  -- a place that the active server can acknowledge is the released number, or one of those reached
  within_reached : (v q : ℕ) → Acknowledgeable h v q → (h.ledger.released ≤ q) × (q ≤ h.ledger.released + s.delivery.reached)
  within_reached v q (inl e) = (omega arith, omega arith)
  within_reached v q (inr x) = (omega (arith, x.0), a.core.until v q x.1)

  -- so its DATA ACK names no more than was reached, and passes every test
  ack_accepted_lem : (v q : ℕ) → s.delivery.active ≡ Some v → Acknowledgeable h v q
      → judge (checks enc room (ack v (dsn_of w s.settings q) s.settings.config) s store) ≡ done
  unfolding checks
  ack_accepted_lem v q active x =
      let d : ℕ = dsn_of w s.settings q in
      let n : ℕ = ack_count w s d in
      let c = a.core in
      let far = within_reached v q x in
      let same : h.ledger.released + n ≡ q =
      one_place w s.settings wide (h.ledger.released + n) q
      (omega (arith, ack_below enc h.ledger s store wide a.is_sound a.sized c d))
      (omega (arith, far.1, facts.numbers.reached_held, facts.numbers.few))
      (ack_dsn enc h.ledger s store wide a.is_sound a.sized c d (dsn_below q)) in
      let below : v < s.settings.servers =
      chosen_below s.settings.priorities s.delivery.servers s.settings.servers v (sym facts.choice ∙ active) in
      let turn : same_active s.delivery.active (Some v) ≡ true = rw active (active_same (Some v)) in
      rw (
        lt-leb s.settings.servers v below,
        turn,
        eq-eqb s.settings.config s.settings.config refl,
        le-ltb s.delivery.reached n (omega (arith, far.1)),
      )

  due_putting : (table : List ℕ) (id : ℕ) (r : List ℕ) → is_sessions s.settings table ≡ true → is_missing table id ≡ false
      → record_valid table (template_of table id) r ≡ true → length r ≤ max_record_octets
      → not (eqb (judge (checks enc room (put table id r) s store)) done)
      ≡ (leb max_held (length (held s store)) || ltb (length store) (octets_together (held s store) + length r))
  due_putting table id r t m v b =
      rw (due_put table id r, t, m, v, le-ltb max_record_octets (length r) b)
      (go (leb max_held (length (held s store))) (ltb (length store) (octets_together (held s store) + length r)))
    where
      go : (x y : Bool) → not (eqb (cond x 18 (cond y 19 0)) 0) ≡ x || y
      go true y = refl
      go false true = refl
      go false false = refl

  -- ---- what is claimed of any call

  call_answer : (k : Call) → (step enc room k s store).answer ≡ judge (checks enc room k s store)
  call_answer k = step_answer_lem enc room k s store ∙ answer_checks enc a room k

  step_writes : (k : Call)
      → let o = step enc room k s store in o.written ≡ cond (eqb o.answer done) (due_reply (session_at enc s) h k) silent
  unfolding step
  step_writes k = go (eqb (answer enc room k s store) done) refl
    where
      b₀ : ℕ
      b₀ = answer enc room k s store

      go : (b : Bool) → eqb b₀ done ≡ b
          → let o = cond b (accepted w k s store) (refused b₀ s store) in
          o.written ≡ cond (eqb o.answer done) (due_reply (session_at enc s) h k) silent
      go true e = due_written k (sym (answer_checks enc a room k) ∙ eqb-true b₀ done e)
      go false e = rw e refl

  step_releases : (k : Call) → InRange w k → (n : ℕ) → judge (checks enc room k s store) ≡ n → (q : ℕ) → h.ledger.released < q
      → q ≤ (after_call w s.settings k n h).ledger.released → ReleasedBy h k q
  unfolding after_call after_accepted
  step_releases k i n e q lo hi = go (eqb n done) refl hi
    where
      go : (b : Bool) → eqb n done ≡ b → q ≤ (cond b (after_accepted w s.settings k h) h).ledger.released → ReleasedBy h k q
      go true x y =
          ledger_releases k i (e ∙ eqb-true n done x) q lo
          (rw (begun_released (changed s.settings (delivery_after w s.settings k h.ledger h.delivery))
          (ledger_after w s.settings k h.delivery h.ledger)) at y)
      go false x y = let f : ⊥ = omega arith in absurd f

  pub call_claim : (k : Call) → InRange w k
      → CallClaim (session_at enc s) (length store) room h (held s store) k (step enc room k s store)
  call_claim k i =
      let o = step enc room k s store in
      let checked : (j : Call) → k ≡ j → o.answer ≡ done → judge (checks enc room j s store) ≡ done =
      λ j e x. subst (λ (j : Call). judge (checks enc room j s store) ≡ done) e (sym (call_answer k) ∙ x) in
      record {
        answered = call_answer k ∙ due_answer k i;
        never_unsound =
            λ x. eqb-false (judge (checks enc room k s store)) unsound_state (never_unsound_lem enc room k s store i) (sym (call_answer k) ∙ x);
        writes = step_writes k;
        stands_for = λ e x. stands_for_lem (checked next_data e x);
        accepted = λ e x. next_accepted (checked next_data e x);
        first_mark = λ e x. first_written_lem (checked next_data e x);
        names = λ v d config e x. names_one v d config (subst (InRange w) e i) (checked (ack v d config) e x);
        releases = step_releases k i o.answer (sym (call_answer k));
        ack_accepted = λ v q e active x.
            call_answer k
            ∙ ap (λ (j : Call). judge (checks enc room j s store)) e
            ∙ ack_accepted_lem v q (sym (ap (λ (y : Delivery). y.active) a.delivery) ∙ active) x;
        putting = λ table id r e t m v b.
            ap (λ (n : ℕ). not (eqb n done)) (call_answer k)
            ∙ ap (λ (j : Call). not (eqb (judge (checks enc room j s store)) done)) e
            ∙ due_putting table id r t m v b;
      }

-- of the places that are not released, exactly the reached ones were written to the active server in its activation
pub reached_written : {w : ℕ} {h : History} {s : State} {store : List ℕ} → Agrees w h s store → (v q : ℕ) → h.delivery.active ≡ Some v
    → h.ledger.released < q
    → written_in h.ledger.writings q v h.ledger.activation ≡ leb q (h.ledger.released + h.delivery.reached)
reached_written {w} {h} {s} {store} a v q active lo =
    rw a.delivery (go (written_in h.ledger.writings q v h.ledger.activation) refl)
  where
    go : (b : Bool) → written_in h.ledger.writings q v h.ledger.activation ≡ b
        → b ≡ leb q (h.ledger.released + s.delivery.reached)
    go true e = sym (le-leb q (h.ledger.released + s.delivery.reached) (a.core.until v q e))
    go false e =
        sym (lt-leb q (h.ledger.released + s.delivery.reached)
        (beyond (dec_lt (h.ledger.released + s.delivery.reached) q)))
      where
        beyond : Dec (h.ledger.released + s.delivery.reached < q) → h.ledger.released + s.delivery.reached < q
        beyond (yes y) = y
        beyond (no n) =
            absurd (false≢true (sym e
            ∙ a.core.since v q (sym (ap (λ (y : Delivery). y.active) a.delivery) ∙ active) lo (omega (arith, n))))

-- the accepted records are the released ones and the held ones
pub account_of : {w : ℕ} {h : History} {s : State} {store : List ℕ} → Agrees w h s store → Account h.ledger (held s store)
account_of {w} {h} {s} {store} a =
    let l = h.ledger in
    record {
      accounted =
          sym (take-append-drop l.released l.records)
          ∙ ap (λ (t : List Entry). take l.released l.records ++ t) a.core.behind;
      counted = ap (λ (n : ℕ). l.released + n) (held_length s store 0 s.queue.count) ∙ a.core.stock.counted;
    }
