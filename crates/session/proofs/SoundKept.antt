-- Set-up gives a sound state, and every call keeps a state sound, whatever its history. A call is accepted only within the limits that
-- soundness sets; it fills one entry, marks one, or moves all to the front, and leaves the others; then the choice is made anew.
--
use mathlib.Core.Path.{◌≡◌, refl, sym, ap, ◌∙◌}
use mathlib.Core.Logic.{◌≢◌}
use mathlib.Core.Bool.{Bool, true, false, not, ◌||◌, cond, false≢true}
use mathlib.Core.List.{List, ◌∷◌}
use Prim.Native.Nat.{ℕ, ◌+◌, ◌-◌, ◌%◌, ◌^◌, ◌≤◌, ◌<◌}
use native.Mathlib.Nat.{mod-lt}
use native.Mathlib.Decide.{ℕ_discrete}
use native.Mathlib.Omega.{arith}
use lib.Bits.{or_lt}
use lib.Dec.{eqb, ltb}
use lib.ListN.{length, get_or, set, length-set}
use lib.Pow.{pow_pos, pow-lt}
use lib.Seq.{get_or-set_same, get_or-set_other}
use borrow.Author.Tests.{leb-false, ltb-false, eqb-true, eqb-false, eq-eqb}
use Rattle.octets.specs.Answers.{◌when◌, judge, done, unsound_state, settings_outside_limits}
use Rattle.octets.proofs.Judging.{passed}
use Rattle.wire.specs.Messages.{max_record_octets}
use Rattle.wire.specs.Replies.{Encoding}
use Rattle.session.specs.Servers.{is_nobody, chosen, changed, settle, with_servers, with_counts, transition, sent_one, acknowledged}
use Rattle.session.specs.Servers.{late_servers, another_agreed, expired, ticked_for, ticked}
use Rattle.session.specs.Queue.{sum_of, octets_to, held_octets, has, with, marked_set, pushed, drop_front, marked}
use Rattle.session.specs.Limits.{max_servers, max_held}
use Rattle.session.specs.Sound.{settings_sound, sound}
use Rattle.session.specs.Steps.{Made, Call, put, next_data, tick, ack, move, ack_count, checks, sound_for, answer, with_delivery, after}
use Rattle.session.specs.Steps.{settled, step, fresh, refused_state, set_up}
use Rattle.session.specs.declared.state.Server as server_of
use Rattle.std.specs.Prelude.{Option, Some, None}
use Rattle.session.specs.declared.state.Settings.{Settings}
use Rattle.session.specs.declared.state.Delivery.{Delivery}
use Rattle.session.specs.declared.state.Queue.{Queue}
use Rattle.session.specs.declared.state.State.{State}
use Rattle.session.proofs.Arrays.{sum_more}
use Rattle.session.proofs.SoundFacts.{SettingsFacts, NumbersFacts, IdleFacts, SoundFacts, settings_facts, sound_facts, facts_sound}
use Rattle.session.proofs.Choice.{chosen_below, settle_choice, all_closed}
use Rattle.session.proofs.StepLaws.{step_done, step_refused}
use Rattle.session.proofs.QueueLaws.{set_cases, shifted_length, shifted_at, sum_set, sum_shifted, has_with}

-- ---- set-up

-- a state of which nothing was sent is sound by its limits, its records and its choice
unsent_facts : (s : State) → IdleFacts s.delivery → SettingsFacts s.settings s.capacity → s.queue.count ≤ max_held
    → s.start < s.capacity → ((i : ℕ) → i < s.queue.count → get_or s.queue.lengths i 0 ≤ max_record_octets)
    → ((i : ℕ) → i < s.queue.count → get_or s.queue.receivers i 0 < 2 ^ s.settings.servers)
    → held_octets s.queue ≤ s.capacity → s.delivery.active ≡ chosen s.settings s.delivery → SoundFacts s
unsent_facts s z p few inside short known fits choice =
    record {
      numbers =
          record {
            settings = p;
            few = few;
            inside = inside;
            sent_reached = omega (arith, z.sent);
            reached_held = omega (arith, z.reached);
            running = omega (arith, z.timer, p.some_duration);
          };
      short = short;
      known = known;
      fits = fits;
      choice = choice;
      idle = λ k. z;
      received = λ v k i l. let no : ⊥ = omega (arith, z.reached) in absurd no;
    }

-- a state that holds nothing is sound where its settings are
pub fresh_sound : (p : Settings) (capacity : ℕ) → settings_sound p capacity ≡ true → sound (fresh p capacity) ≡ true
unfolding fresh sum_of
fresh_sound p capacity e =
    let f = settings_facts p capacity e in
    facts_sound (fresh p capacity)
    (unsent_facts (fresh p capacity) (record { sent = refl; reached = refl; timer = refl }) f (omega arith) (omega (arith, f.some_room))
    (λ i l. let no : ⊥ = omega arith in absurd no) (λ i l. let no : ⊥ = omega arith in absurd no) (omega arith)
    (sym (all_closed p.priorities max_servers p.servers)))

-- an accepted set-up gives a sound state
pub set_up_sound : (p : Settings) (capacity : ℕ) → (set_up p capacity).answer ≡ 0 → sound (set_up p capacity).state ≡ true
unfolding set_up
set_up_sound p capacity = go (settings_sound p capacity) refl
  where
    made : Bool → Made
    made b = cond b (record { answer = done; state = fresh p capacity }) (record { answer = settings_outside_limits; state = refused_state })

    go : (b : Bool) → settings_sound p capacity ≡ b → (made b).answer ≡ 0 → sound (made b).state ≡ true
    go true e a = fresh_sound p capacity e
    go false e a = let z : ⊥ = omega (arith, a) in absurd z

-- ---- the choice

-- the arrays have their 64 entries, as the code's types have it
pub record Sized (q : Queue) : Type 0 where
  pub lengths : length q.lengths ≡ 64
  pub templates : length q.templates ≡ 64
  pub receivers : length q.receivers ≡ 64

-- what a state is known by before the choice is made anew: all that a sound one is, except the choice
record Fit (s : State) : Type 0 where
  numbers : NumbersFacts s.settings s.capacity s.delivery s.queue.count s.start
  short : (i : ℕ) → i < s.queue.count → get_or s.queue.lengths i 0 ≤ max_record_octets
  known : (i : ℕ) → i < s.queue.count → get_or s.queue.receivers i 0 < 2 ^ s.settings.servers
  fits : held_octets s.queue ≤ s.capacity
  idle : s.delivery.active ≡ None → IdleFacts s.delivery
  received : (v : ℕ) → s.delivery.active ≡ Some v → (i : ℕ) → i < s.delivery.reached → has (get_or s.queue.receivers i 0) v ≡ true

-- the choice made anew makes it sound
settle_fit : (s : State) → Fit s → sound (settled s) ≡ true
unfolding settled settle
settle_fit s f = facts_sound (settled s) (go (changed s.settings s.delivery) (settle_choice s.settings s.delivery))
  where
    d' : Bool → Delivery
    d' b =
        cond b
        (record { servers = s.delivery.servers; active = chosen s.settings s.delivery; sent = 0; reached = 0; timer = 0 })
        s.delivery

    s' : Bool → State
    s' b =
        record {
          settings = s.settings;
          capacity = s.capacity;
          delivery = d' b;
          due = b || s.due;
          queue = s.queue;
          start = s.start;
          next = s.next;
        }

    go : (b : Bool) → (d' b).active ≡ chosen s.settings (d' b) → SoundFacts (s' b)
    go true e =
        let n = f.numbers in
        unsent_facts (s' true) (record { sent = refl; reached = refl; timer = refl }) n.settings n.few n.inside
        f.short f.known f.fits e
    go false e =
        record {
          numbers = f.numbers;
          short = f.short;
          known = f.known;
          fits = f.fits;
          choice = e;
          idle = f.idle;
          received = f.received;
        }

-- ---- deliveries with the same choice, and as many records reached

pub record Calm (p : Settings) (d e : Delivery) : Type 0 where
  pub active : e.active ≡ d.active
  pub reached : e.reached ≡ d.reached
  pub sent : e.sent ≤ d.sent
  pub timer : d.timer < p.duration → e.timer < p.duration
  pub rest : d.active ≡ None → d.timer ≡ 0 → e.timer ≡ 0

-- moved servers
pub move_calm : {p : Settings} {d : Delivery} (servers : List server_of.Server) → Calm p d (with_servers d servers)
move_calm servers = record { active = refl; reached = refl; sent = omega arith; timer = λ h. h; rest = λ e h. h }

-- a tick
pub tick_calm : (p : Settings) (d : Delivery) → 0 < p.duration → Calm p d (ticked p d)
unfolding ticked expired
tick_calm p d patient = go d.active refl
  where
    go : (a : Option ℕ) → d.active ≡ a → Calm p d (ticked_for p d a)
    go None e = record { active = refl; reached = refl; sent = omega arith; timer = λ h. patient; rest = λ x h. refl }
    go (Some v) e = at (ltb d.reached p.threshold) (eqb (d.timer + 1) p.duration) refl (another_agreed p v d)
      where
        never : {X : Type 0} → d.active ≡ None → X
        never x = let z : ◌≡◌ {A = ℕ} 0 1 = cc in let y : ⊥ = omega arith in absurd y

        at : (a b : Bool) → eqb (d.timer + 1) p.duration ≡ b → (k : Bool)
            → Calm p d (cond a (with_counts d d.sent d.reached 0)
            (cond b (cond k (with_counts (with_servers d (late_servers d v)) d.sent d.reached 0) (with_counts d 0 d.reached 0))
            (with_counts d d.sent d.reached (d.timer + 1))))
        at true b z k = record { active = refl; reached = refl; sent = omega arith; timer = λ h. patient; rest = λ x h. refl }
        at false true z true = record { active = refl; reached = refl; sent = omega arith; timer = λ h. patient; rest = λ x h. refl }
        at false true z false = record { active = refl; reached = refl; sent = omega arith; timer = λ h. patient; rest = λ x h. refl }
        at false false z k =
            record {
              active = refl;
              reached = refl;
              sent = omega arith;
              timer = λ h. let y : d.timer + 1 ≢ p.duration = eqb-false (d.timer + 1) p.duration z in omega arith;
              rest = λ x h. never x;
            }

-- ---- the calls

pub active_some : (a : Option ℕ) → is_nobody a ≡ false → (v : ℕ) × (a ≡ Some v)
active_some None e = absurd (false≢true (sym e))
active_some (Some v) e = (v, refl)

-- a delivery with n records fewer reached and the same choice
pub record Lower (p : Settings) (n : ℕ) (d e : Delivery) : Type 0 where
  pub active : e.active ≡ d.active
  pub reached : e.reached ≡ d.reached - n
  pub sent : e.sent ≤ e.reached
  pub timer : e.timer < p.duration
  pub rest : d.active ≡ None → e.timer ≡ 0

module _ (s : State) (z : Sized s.queue) (f : SoundFacts s) where
  -- a queue whose entries are those from n on, and a delivery with n records fewer reached, whether S is due or not
  lower_fit : (n : ℕ) (d : Delivery) (due : Bool) (q : Queue) (start : ℕ) → Lower s.settings n s.delivery d → start < s.capacity
      → q.count ≡ s.queue.count - n
      → ((i : ℕ) → n + i < s.queue.count → get_or q.lengths i 0 ≡ get_or s.queue.lengths (n + i) 0)
      → ((i : ℕ) → n + i < s.queue.count → get_or q.receivers i 0 ≡ get_or s.queue.receivers (n + i) 0)
      → held_octets q ≤ s.capacity
      → Fit (record {
        settings = s.settings;
        capacity = s.capacity;
        delivery = d;
        due = due;
        queue = q;
        start = start;
        next = s.next;
      })
  lower_fit n d due q start m inside counted lengths receivers fits =
      let k = f.numbers in
      record {
        numbers =
            record {
              settings = k.settings;
              few = omega (arith, k.few);
              inside = inside;
              sent_reached = m.sent;
              reached_held = omega (arith, m.reached, k.reached_held);
              running = m.timer;
            };
        short = λ i l. rw (lengths i (omega arith)) (f.short (n + i) (omega arith));
        known = λ i l. rw (receivers i (omega arith)) (f.known (n + i) (omega arith));
        fits = fits;
        idle = λ e.
            let a : s.delivery.active ≡ None = sym m.active ∙ e in
            let y : s.delivery.reached ≡ 0 = (f.idle a).reached in
            record { sent = omega (arith, m.reached, m.sent); reached = omega (arith, m.reached); timer = m.rest a };
        received = λ v e i l.
            let y : n + i < s.delivery.reached = omega (arith, m.reached) in
            rw (receivers i (omega (arith, k.reached_held))) (f.received v (sym m.active ∙ e) (n + i) y);
      }

  -- a tick and a transition
  calm_fit : (d : Delivery) → Calm s.settings s.delivery d → Fit (with_delivery s d)
  calm_fit d m =
      let k = f.numbers in
      lower_fit 0 d _ s.queue s.start
      (record {
        active = m.active;
        reached = omega (arith, m.reached);
        sent = omega (arith, m.sent, m.reached, k.sent_reached);
        timer = m.timer k.running;
        rest = λ e. m.rest e (f.idle e).timer;
      })
      k.inside (omega arith) (λ i l. ap (λ (j : ℕ). get_or s.queue.lengths j 0) (omega arith))
      (λ i l. ap (λ (j : ℕ). get_or s.queue.receivers j 0) (omega arith)) f.fits

  -- a release of n
  pub ack_lower : (n : ℕ) → Lower s.settings n s.delivery (acknowledged n s.delivery)
  unfolding acknowledged
  ack_lower n = go (eqb n 0) refl
    where
      go : (b : Bool) → eqb n 0 ≡ b → Lower s.settings n s.delivery
          (cond b (with_counts s.delivery 0 s.delivery.reached s.delivery.timer)
          (with_counts s.delivery (s.delivery.sent - n) (s.delivery.reached - n) 0))
      go true e =
          record {
            active = refl;
            reached = omega (arith, eqb-true n 0 e);
            sent = omega arith;
            timer = f.numbers.running;
            rest = λ a. (f.idle a).timer;
          }
      go false e =
          record {
            active = refl;
            reached = refl;
            sent = omega (arith, f.numbers.sent_reached);
            timer = omega (arith, f.numbers.settings.some_duration);
            rest = λ a. refl;
          }

  -- a DATA ACK that names no more records than were reached
  ack_fit : (w v dsn config : ℕ) → ack_count w s dsn ≤ s.delivery.reached → Fit (after w (ack v dsn config) s)
  unfolding after drop_front
  ack_fit w v dsn config b =
      let k = f.numbers in
      let q = s.queue in
      let n : ℕ = ack_count w s dsn in
      let whole : n + (q.count - n) ≡ q.count = omega (arith, k.reached_held) in
      lower_fit n (acknowledged n s.delivery) _ (drop_front q n) ((s.start + octets_to q n) % s.capacity) (ack_lower n)
      (mod-lt (s.start + octets_to q n) (omega (arith, k.settings.some_room))) refl
      (λ i l. shifted_at q.lengths n i (omega (arith, z.lengths, k.few)))
      (λ i l. shifted_at q.receivers n i (omega (arith, z.receivers, k.few)))
      (omega (arith, rw whole at (sum_shifted q.lengths n (q.count - n) (omega (arith, z.lengths, k.few))), f.fits))

  -- a record of at most 1,024 octets put where there is room
  put_fit : (w : ℕ) (table : List ℕ) (id : ℕ) (r : List ℕ) → length r ≤ max_record_octets → s.queue.count < max_held
      → held_octets s.queue + length r ≤ s.capacity → Fit (after w (put table id r) s)
  unfolding after pushed
  put_fit w table id r brief free room =
      let k = f.numbers in
      let q = s.queue in
      let n : ℕ = q.count in
      let nl : n < length q.lengths = omega (arith, z.lengths) in
      let nr : n < length q.receivers = omega (arith, z.receivers) in
      record {
        numbers =
            record {
              settings = k.settings;
              few = omega arith;
              inside = k.inside;
              sent_reached = k.sent_reached;
              reached_held = omega (arith, k.reached_held);
              running = k.running;
            };
        short = λ i l. set_cases q.lengths (length r) 0 (λ i x. x ≤ max_record_octets) n nl i (λ ne. f.short i (omega arith)) brief;
        known = λ i l.
            set_cases q.receivers 0 0 (λ i x. x < 2 ^ s.settings.servers) n nr i (λ ne. f.known i (omega arith))
            (pow_pos s.settings.servers);
        fits =
            rw (
              sum_more (set q.lengths n (length r)) n (omega (arith, length-set q.lengths n (length r))),
              sum_set q.lengths n (length r) n (omega arith),
              get_or-set_same q.lengths n (length r) 0 nl,
            ) room;
        idle = f.idle;
        received = λ v e i l. rw (get_or-set_other q.receivers n i 0 0 (omega (arith, k.reached_held))) (f.received v e i l);
      }

  -- the next record sent to server v
  next_fit : (w v : ℕ) → s.delivery.active ≡ Some v → s.delivery.sent < s.queue.count → Fit (after w next_data s)
  unfolding after sent_one marked
  next_fit w v a h =
      let k = f.numbers in
      let q = s.queue in
      let at : ℕ = s.delivery.sent in
      let x : ℕ = with (get_or q.receivers at 0) v in
      let nr : at < length q.receivers = omega (arith, z.receivers, k.few) in
      let below : v < s.settings.servers =
      chosen_below s.settings.priorities s.delivery.servers s.settings.servers v (sym f.choice ∙ a) in
      rw a (record {
        numbers =
            record {
              settings = k.settings;
              few = k.few;
              inside = k.inside;
              sent_reached = omega arith;
              reached_held = omega (arith, k.reached_held);
              running = k.running;
            };
        short = f.short;
        known = λ i l. set_cases q.receivers x 0 (λ i m. m < 2 ^ s.settings.servers) at nr i (λ n. f.known i l)
            (or_lt s.settings.servers (get_or q.receivers at 0) (2 ^ v) (f.known at h) (pow-lt below));
        fits = f.fits;
        idle = λ e. let y : ◌≡◌ {A = ℕ} 0 1 = cc in let no : ⊥ = omega arith in absurd no;
        received = λ u e i l.
            let vu : v ≡ u = cc in
            set_cases q.receivers x 0 (λ i m. has m u ≡ true) at nr i (λ n. f.received u (a ∙ e) i (omega (arith, k.sent_reached)))
            (has_with (get_or q.receivers at 0) v u ∙ rw (eq-eqb v u vu) refl);
      })

  -- every accepted call
  after_fit : (enc : Encoding) (room : ℕ) (c : Call) (store : List ℕ) → judge (checks enc room c s store) ≡ done
      → Fit (after enc.width c s)
  unfolding checks after
  after_fit enc room (put table id r) store e =
      let p = passed (checks enc room (put table id r) s store) tt e in
      put_fit enc.width table id r (ltb-false _ _ p.1.1.0) (leb-false _ _ p.1.1.1.1.0) (ltb-false _ _ p.1.1.1.1.1.0)
  after_fit enc room next_data store e =
      let p = passed (checks enc room next_data s store) tt e in
      let v = active_some s.delivery.active p.0 in
      next_fit enc.width v.0 v.1 (leb-false _ _ p.1.0)
  after_fit enc room tick store e =
      calm_fit (ticked s.settings s.delivery) (tick_calm s.settings s.delivery f.numbers.settings.some_duration)
  after_fit enc room (ack v dsn config) store e =
      ack_fit enc.width v dsn config (ltb-false _ _ (passed (checks enc room (ack v dsn config) s store) tt e).1.1.1.0)
  after_fit enc room (move v m) store e =
      let servers = transition v m s.delivery.servers in
      calm_fit (with_servers s.delivery servers) (move_calm servers)

  -- it leaves the arrays their 64 entries
  pub after_sized : (enc : Encoding) (room : ℕ) (c : Call) (store : List ℕ) → judge (checks enc room c s store) ≡ done
      → Sized (after enc.width c s).queue
  unfolding checks after pushed marked drop_front
  after_sized enc room (put table id r) store e =
      let q = s.queue in
      record {
        lengths = length-set q.lengths q.count (length r) ∙ z.lengths;
        templates = length-set q.templates q.count id ∙ z.templates;
        receivers = length-set q.receivers q.count 0 ∙ z.receivers;
      }
  after_sized enc room next_data store e =
      let at : ℕ = s.delivery.sent in
      record {
        lengths = z.lengths;
        templates = z.templates;
        receivers = length-set s.queue.receivers at (marked_set s.delivery.active (get_or s.queue.receivers at 0)) ∙ z.receivers;
      }
  after_sized enc room tick store e = z
  after_sized enc room (ack v dsn config) store e =
      let q = s.queue in
      let n : ℕ = ack_count enc.width s dsn in
      let b : n ≤ s.delivery.reached = ltb-false _ _ (passed (checks enc room (ack v dsn config) s store) tt e).1.1.1.0 in
      let h : n ≤ 64 = omega (arith, f.numbers.reached_held, f.numbers.few) in
      record {
        lengths = shifted_length q.lengths n (omega (arith, z.lengths)) ∙ z.lengths;
        templates = shifted_length q.templates n (omega (arith, z.templates)) ∙ z.templates;
        receivers = shifted_length q.receivers n (omega (arith, z.receivers)) ∙ z.receivers;
      }
  after_sized enc room (move v m) store e = z

-- an accepted call leaves a sound state
pub accepted_sound : (enc : Encoding) (room : ℕ) (c : Call) (s : State) (store : List ℕ) → Sized s.queue → sound s ≡ true
    → judge (checks enc room c s store) ≡ done → sound (settled (after enc.width c s)) ≡ true
accepted_sound enc room c s store z e a = settle_fit (after enc.width c s) (after_fit s z (sound_facts s e) enc room c store a)

-- ---- every call

-- an accepted call has passed its own checks
own_checks : (enc : Encoding) (room : ℕ) (c : Call) (s : State) (store : List ℕ) → answer enc room c s store ≡ 0
    → judge (checks enc room c s store) ≡ done
unfolding answer
own_checks enc room c s store = go (not (sound_for c s store))
  where
    go : (b : Bool) → judge ((unsound_state when b) ∷ checks enc room c s store) ≡ done → judge (checks enc room c s store) ≡ done
    go true e = let z : ⊥ = omega (arith, e) in absurd z
    go false e = e

-- every call keeps a sound state sound
pub kept_sound : (enc : Encoding) (room : ℕ) (c : Call) (s : State) (store : List ℕ) → Sized s.queue → sound s ≡ true
    → sound (step enc room c s store).state ≡ true
kept_sound enc room c s store z e = go (ℕ_discrete (answer enc room c s store) 0)
  where
    go : Dec (answer enc room c s store ≡ 0) → sound (step enc room c s store).state ≡ true
    go (yes a) =
        rw (step_done enc room c s store a) (accepted_sound enc room c s store z e (own_checks enc room c s store a))
    go (no n) = rw (step_refused enc room c s store _ n refl) e
