-- Soundness is a list of tests; each test that holds is a fact, and a state of which all the facts hold passes every test. One test that
-- fails makes the state unsound. Soundness looks at no template ID and no next DSN, and not at whether S is due.
use mathlib.Core.Path.{◌≡◌, refl, sym, ap, ◌∙◌}
use mathlib.Core.Bool.{Bool, true, false, not, ◌&&◌, false≢true}
use mathlib.Core.List.{List, [], ◌∷◌}
use Prim.Native.Nat.{ℕ, zero, suc, ◌^◌, ◌≤◌, ◌<◌}
use lib.Dec.{eqb, leb, ltb}
use lib.ListN.{get_or}
use borrow.Author.Tests.{not-true, not-false, leb-true, ltb-true, eqb-true, le-leb, lt-ltb, eq-eqb}
use Rattle.octets.specs.Each.{every, all_of}
use Rattle.octets.proofs.Each.{and_left, and_right, every_at, every_intro, clause_first, clause_rest, cond_same}
use Rattle.wire.specs.Messages.{max_record_octets}
use Rattle.session.specs.Limits.{max_servers, max_threshold, min_store_octets, max_store_octets, max_held}
use Rattle.session.specs.Servers.{same_active, chosen}
use Rattle.session.specs.Queue.{held_octets, has}
use Rattle.session.specs.Sound.{settings_sound, numbers_sound, entry_sound, activation_sound, sound}
use Rattle.std.specs.Prelude.{Option, Some, None, nat_eq}
use Rattle.std.specs.Option.{option_eq}
use Rattle.session.specs.declared.state.Settings.{Settings}
use Rattle.session.specs.declared.state.Delivery.{Delivery}
use Rattle.session.specs.declared.state.State.{State}

-- ---- tests that all hold

-- tests joined from the left, as code joins them
abbrev both : Bool → List Bool → Bool
both b [] = b
both b (t ∷ ts) = both (b && t) ts

both_first : (b : Bool) (ts : List Bool) → both b ts ≡ true → b ≡ true
both_first b [] e = e
both_first b (t ∷ ts) e = and_left b t (both_first (b && t) ts e)

both_from : (b : Bool) (ts : List Bool) (i : ℕ) → both b ts ≡ true → get_or ts i true ≡ true
both_from b [] i e = refl
both_from b (t ∷ ts) zero e = and_right b t (both_first (b && t) ts e)
both_from b (t ∷ ts) (suc i) e = both_from (b && t) ts i e

-- each of the tests that are joined
both_at : (ts : List Bool) (i : ℕ) → both true ts ≡ true → get_or ts i true ≡ true
both_at = both_from true

-- each of a list of clauses
all_at : (ts : List Bool) (i : ℕ) → all_of ts ≡ true → get_or ts i true ≡ true
all_at [] i e = refl
all_at (t ∷ ts) zero e = clause_first t (all_of ts) e
all_at (t ∷ ts) (suc i) e = all_at ts i (clause_rest t (all_of ts) e)

-- one clause that fails
all_fails : (ts : List Bool) (i : ℕ) → get_or ts i true ≡ false → all_of ts ≡ false
all_fails [] i e = absurd (false≢true (sym e))
all_fails (t ∷ ts) zero e = rw e
all_fails (t ∷ ts) (suc i) e = rw (all_fails ts i e) (cond_same t false)

-- ---- numbers

pub record SettingsFacts (p : Settings) (room : ℕ) : Type 0 where
  pub some_servers : 1 ≤ p.servers
  pub few_servers : p.servers ≤ max_servers
  pub some_threshold : 1 ≤ p.threshold
  pub small_threshold : p.threshold ≤ max_threshold
  pub some_duration : 1 ≤ p.duration
  pub some_room : min_store_octets ≤ room
  pub small_room : room ≤ max_store_octets

pub settings_facts : (p : Settings) (room : ℕ) → settings_sound p room ≡ true → SettingsFacts p room
unfolding settings_sound
settings_facts p room e =
    let at =
    both_at
    (leb 1 p.servers ∷ leb p.servers max_servers ∷ leb 1 p.threshold ∷ leb p.threshold max_threshold ∷ leb 1 p.duration
    ∷ leb min_store_octets room ∷ leb room max_store_octets ∷ []) in
    record {
      some_servers = leb-true _ _ (at 0 e);
      few_servers = leb-true _ _ (at 1 e);
      some_threshold = leb-true _ _ (at 2 e);
      small_threshold = leb-true _ _ (at 3 e);
      some_duration = leb-true _ _ (at 4 e);
      some_room = leb-true _ _ (at 5 e);
      small_room = leb-true _ _ (at 6 e);
    }

settings_hold : (p : Settings) (room : ℕ) → SettingsFacts p room → settings_sound p room ≡ true
unfolding settings_sound
settings_hold p room f =
    rw (
      le-leb 1 p.servers f.some_servers,
      le-leb p.servers max_servers f.few_servers,
      le-leb 1 p.threshold f.some_threshold,
      le-leb p.threshold max_threshold f.small_threshold,
      le-leb 1 p.duration f.some_duration,
      le-leb min_store_octets room f.some_room,
      le-leb room max_store_octets f.small_room,
    )

pub record NumbersFacts (p : Settings) (room : ℕ) (d : Delivery) (count start : ℕ) : Type 0 where
  pub settings : SettingsFacts p room
  pub few : count ≤ max_held
  pub inside : start < room
  pub sent_reached : d.sent ≤ d.reached
  pub reached_held : d.reached ≤ count
  pub running : d.timer < p.duration

pub numbers_facts : (p : Settings) (room : ℕ) (d : Delivery) (count start : ℕ)
    → numbers_sound p room d count start ≡ true → NumbersFacts p room d count start
unfolding numbers_sound
numbers_facts p room d count start e =
    let at =
    both_at
    (settings_sound p room ∷ leb count max_held ∷ ltb start room ∷ leb d.sent d.reached ∷ leb d.reached count
    ∷ ltb d.timer p.duration ∷ []) in
    record {
      settings = settings_facts p room (at 0 e);
      few = leb-true _ _ (at 1 e);
      inside = ltb-true _ _ (at 2 e);
      sent_reached = leb-true _ _ (at 3 e);
      reached_held = leb-true _ _ (at 4 e);
      running = ltb-true _ _ (at 5 e);
    }

numbers_hold : (p : Settings) (room : ℕ) (d : Delivery) (count start : ℕ)
    → NumbersFacts p room d count start → numbers_sound p room d count start ≡ true
unfolding numbers_sound
numbers_hold p room d count start f =
    rw (
      settings_hold p room f.settings,
      le-leb count max_held f.few,
      lt-ltb start room f.inside,
      le-leb d.sent d.reached f.sent_reached,
      le-leb d.reached count f.reached_held,
      lt-ltb d.timer p.duration f.running,
    )

-- ---- sound states

-- two choices that are the same
pub same_active_lem : (a b : Option ℕ) → same_active a b ≡ true → a ≡ b
same_active_lem None None e = refl
same_active_lem None (Some b) e = absurd (false≢true e)
same_active_lem (Some a) None e = absurd (false≢true e)
same_active_lem (Some a) (Some b) e = ap Some (eqb-true a b e)

-- comparing two choices as options tells the same
pub active_eq : (a b : Option ℕ) → option_eq nat_eq a b ≡ same_active a b
active_eq None None = refl
active_eq None (Some b) = refl
active_eq (Some a) None = refl
active_eq (Some a) (Some b) = refl

pub active_same : (a : Option ℕ) → same_active a a ≡ true
active_same None = refl
active_same (Some v) = eq-eqb v v refl

-- no activation: nothing sent, nothing reached, no timer
pub record IdleFacts (d : Delivery) : Type 0 where
  pub sent : d.sent ≡ 0
  pub reached : d.reached ≡ 0
  pub timer : d.timer ≡ 0

idle_facts : (d : Delivery) (receivers : List ℕ) → activation_sound d receivers None ≡ true → IdleFacts d
idle_facts d receivers e =
    let at = both_at (eqb d.sent 0 ∷ eqb d.reached 0 ∷ eqb d.timer 0 ∷ []) in
    record { sent = eqb-true _ _ (at 0 e); reached = eqb-true _ _ (at 1 e); timer = eqb-true _ _ (at 2 e) }

-- the clauses of a sound state
abbrev pub clauses : State → List Bool
clauses s =
    let p = s.settings in
    let d = s.delivery in
    let q = s.queue in
    numbers_sound p s.capacity d q.count s.start
    ∷ every q.count (entry_sound p.servers q.lengths q.receivers)
    ∷ leb (held_octets q) s.capacity
    ∷ same_active d.active (chosen p d)
    ∷ activation_sound d q.receivers d.active
    ∷ []

-- a state of which one clause fails
pub unsound : (s : State) (i : ℕ) → get_or (clauses s) i true ≡ false → false ≡ sound s
unfolding sound
unsound s i e = sym (all_fails (clauses s) i e)

pub record SoundFacts (s : State) : Type 0 where
  pub numbers : NumbersFacts s.settings s.capacity s.delivery s.queue.count s.start
  pub short : (i : ℕ) → i < s.queue.count → get_or s.queue.lengths i 0 ≤ max_record_octets
  pub known : (i : ℕ) → i < s.queue.count → get_or s.queue.receivers i 0 < 2 ^ s.settings.servers
  pub fits : held_octets s.queue ≤ s.capacity
  pub choice : s.delivery.active ≡ chosen s.settings s.delivery
  pub idle : s.delivery.active ≡ None → IdleFacts s.delivery
  pub received : (v : ℕ) → s.delivery.active ≡ Some v → (i : ℕ) → i < s.delivery.reached
      → has (get_or s.queue.receivers i 0) v ≡ true

pub sound_facts : (s : State) → sound s ≡ true → SoundFacts s
unfolding sound
sound_facts s e =
    let p = s.settings in
    let d = s.delivery in
    let q = s.queue in
    let at = all_at (clauses s) in
    let entry : (i : ℕ) → i < q.count → entry_sound p.servers q.lengths q.receivers i ≡ true =
    every_at q.count (entry_sound p.servers q.lengths q.receivers) (at 1 e) in
    let sent : (a : Option ℕ) → d.active ≡ a → activation_sound d q.receivers a ≡ true =
    λ a k. ap (activation_sound d q.receivers) (sym k) ∙ at 4 e in
    record {
      numbers = numbers_facts p s.capacity d q.count s.start (at 0 e);
      short =
          λ i l. leb-true _ _ (and_left (leb (get_or q.lengths i 0) max_record_octets) (ltb (get_or q.receivers i 0) (2 ^ p.servers))
          (entry i l));
      known =
          λ i l. ltb-true _ _ (and_right (leb (get_or q.lengths i 0) max_record_octets) (ltb (get_or q.receivers i 0) (2 ^ p.servers))
          (entry i l));
      fits = leb-true _ _ (at 2 e);
      choice = same_active_lem d.active (chosen p d) (at 3 e);
      idle = λ k. idle_facts d q.receivers (sent None k);
      received = λ v k. every_at d.reached (λ i. has (get_or q.receivers i 0) v) (sent (Some v) k);
    }

-- a state of which these facts hold is sound
pub facts_sound : (s : State) → SoundFacts s → sound s ≡ true
unfolding sound
facts_sound s f =
    let p = s.settings in
    let d = s.delivery in
    let q = s.queue in
    let entry : (i : ℕ) → i < q.count → entry_sound p.servers q.lengths q.receivers i ≡ true =
    λ i l. rw (le-leb (get_or q.lengths i 0) max_record_octets (f.short i l))
    (lt-ltb (get_or q.receivers i 0) (2 ^ p.servers) (f.known i l)) in
    let choice : same_active d.active (chosen p d) ≡ true = rw (← f.choice) (active_same d.active) in
    rw (
      numbers_hold p s.capacity d q.count s.start f.numbers,
      every_intro q.count (entry_sound p.servers q.lengths q.receivers) entry,
      le-leb (held_octets q) s.capacity f.fits,
      choice,
      sent d.active refl,
    )
  where
    sent : (a : Option ℕ) → s.delivery.active ≡ a → activation_sound s.delivery s.queue.receivers a ≡ true
    sent None k = let e = f.idle k in rw (e.sent, e.reached, e.timer)
    sent (Some v) k = every_intro s.delivery.reached (λ i. has (get_or s.queue.receivers i 0) v) (f.received v k)

-- a state that passed the test, and one that failed it, by what the test came to
pub passed_sound : (s : State) (b : Bool) → b ≡ sound s → not b ≡ false → sound s ≡ true
passed_sound s b e h = sym e ∙ not-false b h

pub failed_sound : (s : State) (b : Bool) → b ≡ sound s → not b ≡ true → sound s ≡ false
failed_sound s b e h = sym e ∙ not-true b h
