-- Entries without a server are ignored: a step looks at the priorities and the phases of the servers that there are, and refuses a call to
-- any other whatever its phase is. So on a state with other unused priorities, and with the first n phases alone, a step answers and writes
-- the same, and leaves what it leaves otherwise, changed alike.
use mathlib.Core.Path.{◌≡◌, refl, sym, ap, ◌∙◌}
use mathlib.Core.Bool.{Bool, true, false, not, ◌&&◌, ◌||◌, cond}
use mathlib.Core.List.{List, [], ◌∷◌, map}
use Prim.Native.Nat.{ℕ, zero, suc, ◌+◌, ◌≤◌, ◌<◌}
use native.Mathlib.Omega.{arith}
use lib.Dec.{eqb, leb, ltb}
use lib.ListN.{length, set, take}
use lib.Seq.{get_or-take}
use borrow.Author.Tests.{leb-false}
use Rattle.octets.specs.Answers.{judge, done, no_such_server}
use Rattle.wire.specs.Replies.{silent, Encoding, crane}
use Rattle.session.specs.Servers.{server, phase_at, is_agreed, restart, beats, choose, same_active, chosen, changed, activated, settle}
use Rattle.session.specs.Servers.{with_servers, with_counts, Transition, start, stop, negotiate, offer, down, agree, malformed}
use Rattle.session.specs.Servers.{transition, sent_one, acknowledged, late_servers, other_agreed, expired, ticked_for, ticked}
use Rattle.session.specs.Queue.{record_at}
use Rattle.session.specs.Sound.{settings_sound, activation_sound, numbers_sound, sound}
use Rattle.session.specs.Steps.{Made, ack_count, Call, put, next_data, tick, ack, move, form_answer, received, is_duplicate, head_of, reply_to}
use Rattle.session.specs.Steps.{written, transition_checks, checks, sound_for, answer, with_due, after, settled, store_after, Outcome}
use Rattle.session.specs.Steps.{step, fresh, refused_set_up, set_up}
use Rattle.session.specs.Claim.{Exporter, begin}
use Rattle.session.specs.InOctets.{Event, Put, NextData, Receive, OfferTemplates, LineDown, Tick, event_step, store_left}
use Rattle.session.specs.InOctets.{after_event, fresh_over}
use Rattle.session.specs.Unused.{with_priorities, SameUsed, with_entries, cut_to, responses, UnusedEntries}
use Rattle.session.specs.declared.state.Phase.{Phase}
use Rattle.session.specs.declared.state.Phase.TheVariants.{Closed, Started, Offered, Agreed, Late}
use Rattle.session.specs.declared.state.Server as server_of
use Rattle.std.specs.Prelude.{Option, Some, None}
use Rattle.session.specs.declared.state.Settings.{Settings}
use Rattle.session.specs.declared.state.Delivery.{Delivery}
use Rattle.session.specs.declared.state.State.{State}
use Rattle.session.proofs.Choice.{chosen_below}
use Rattle.session.proofs.Calls.{after_settings}
use Rattle.session.proofs.InOctets.{settings_stay}

-- what is made of each case is made of the whole
of_cond : {A B : Type 0} (f : A → B) (b : Bool) (x y : A) → cond b (f x) (f y) ≡ f (cond b x y)
of_cond f true x y = refl
of_cond f false x y = refl

-- ---- the first entries

set_take : {A : Type 0} (n : ℕ) (l : List A) (v : ℕ) (a : A) → set (take n l) v a ≡ take n (set l v a)
set_take zero l v a = refl
set_take (suc n) [] v a = refl
set_take (suc n) (x ∷ l) zero a = refl
set_take {A = A} (suc n) (x ∷ l) (suc v) a = ap (λ (t : List A). x ∷ t) (set_take n l v a)

map_take : {A : Type 0} (f : A → A) (n : ℕ) (l : List A) → map f (take n l) ≡ take n (map f l)
map_take f zero l = refl
map_take f (suc n) [] = refl
map_take {A = A} f (suc n) (x ∷ l) = ap (λ (t : List A). f x ∷ t) (map_take f n l)

phase_take : (n : ℕ) (servers : List server_of.Server) (v : ℕ) → v < n → phase_at (take n servers) v ≡ phase_at servers v
phase_take n servers v h = ap (λ (x : server_of.Server). x.phase) (get_or-take n servers v (server Closed) h)

-- ---- what looks at several servers

choose_same : (a b : List ℕ) (n : ℕ) (servers : List server_of.Server) (k : ℕ) → SameUsed k a b → k ≤ n
    → choose b (take n servers) k ≡ choose a servers k
unfolding choose
choose_same a b n servers zero h l = refl
choose_same a b n servers (suc k) h l =
    rw (choose_same a b n servers k (λ v j. h v (omega arith)) (omega arith), phase_take n servers k (omega arith))
    (ap (λ (x : Bool). cond (is_agreed (phase_at servers k) && x) (Some k) (choose a servers k)) (go (choose a servers k) refl))
  where
    go : (c : Option ℕ) → choose a servers k ≡ c → beats b k c ≡ beats a k c
    go None e = refl
    go (Some v) e = rw (h v (omega (arith, chosen_below a servers k v e)), h k (omega arith)) refl

other_same : (n : ℕ) (servers : List server_of.Server) (v k : ℕ) → k ≤ n → other_agreed (take n servers) v k ≡ other_agreed servers v k
unfolding other_agreed
other_same n servers v zero l = refl
other_same n servers v (suc k) l = rw (other_same n servers v k (omega arith), phase_take n servers k (omega arith)) refl

-- ---- a step of a state with other entries

-- n entries and these priorities are enough for the settings: there is one for each server, and its priority is the same
record Enough (q : List ℕ) (n : ℕ) (p : Settings) : Type 0 where
  used : SameUsed p.servers p.priorities q
  entries : p.servers ≤ n

-- a delivery with the first n entries of its servers alone
abbrev delivery_with : ℕ → Delivery → Delivery
delivery_with n d = with_servers d (take n d.servers)

-- an outcome that leaves a state with other entries
abbrev outcome_with : List ℕ → ℕ → Outcome → Outcome
outcome_with q n o = record { answer = o.answer; state = with_entries q n o.state; store = o.store; written = o.written }

module _ (q : List ℕ) (n : ℕ) where
  duplicate_same : (p : Settings) (a : Option ℕ) (m : ℕ) → is_duplicate (with_priorities q p) a m ≡ is_duplicate p a m
  duplicate_same p None m = refl
  duplicate_same p (Some v) m = refl

  written_same : (w : ℕ) (c : Call) (s : State) (store : List ℕ) → written w c (with_entries q n s) store ≡ written w c s store
  unfolding written head_of record_at
  written_same w (put table id r) s store = refl
  written_same w next_data s store = rw (duplicate_same s.settings s.delivery.active) refl
  written_same w tick s store = refl
  written_same w (ack v dsn config) s store = refl
  written_same w (move v m) s store = go m
    where
      go : (m : Transition) → reply_to (with_priorities q s.settings) m ≡ reply_to s.settings m
      go start = refl
      go stop = refl
      go negotiate = refl
      go (offer table) = refl
      go down = refl
      go (agree config) = refl
      go (malformed a) = refl

  checks_same : (e : Encoding) (room : ℕ) (c : Call) (s : State) (store : List ℕ) → s.settings.servers ≤ n
      → judge (checks e room c (with_entries q n s) store) ≡ judge (checks e room c s store)
  unfolding checks ack_count
  checks_same e room (put table id r) s store l = refl
  checks_same e room next_data s store l = rw (written_same e.width next_data s store) refl
  checks_same e room tick s store l = refl
  checks_same e room (ack v dsn config) s store l = refl
  checks_same e room (move v m) s store l = known (leb s.settings.servers v) refl
    where
      p : Settings
      p = s.settings

      servers : List server_of.Server
      servers = s.delivery.servers

      go : (m : Transition) (phase : Phase)
          → transition_checks e (with_priorities q p) room m phase ≡ transition_checks e p room m phase
      go start phase = refl
      go stop phase = refl
      go negotiate phase = refl
      go (offer table) phase = refl
      go down phase = refl
      go (agree config) phase = refl
      go (malformed a) phase = refl

      known : (b : Bool) → leb p.servers v ≡ b
          → cond b no_such_server (judge (transition_checks e (with_priorities q p) room m (phase_at (take n servers) v)))
          ≡ cond b no_such_server (judge (transition_checks e p room m (phase_at servers v)))
      known true k = refl
      known false k =
          rw (phase_take n servers v (omega (arith, leb-false p.servers v k))) (ap judge (go m (phase_at servers v)))

  -- what a call leaves

  acknowledged_same : (k : ℕ) (d : Delivery) → acknowledged k (delivery_with n d) ≡ delivery_with n (acknowledged k d)
  unfolding acknowledged
  acknowledged_same k d = of_cond (delivery_with n) (eqb k 0) _ _

  transition_same : (v : ℕ) (m : Transition) (servers : List server_of.Server)
      → transition v m (take n servers) ≡ take n (transition v m servers)
  unfolding transition
  transition_same v start servers = set_take n servers v (server Started)
  transition_same v stop servers = set_take n servers v (server Closed)
  transition_same v negotiate servers = map_take restart n servers
  transition_same v (offer table) servers = set_take n servers v (server Offered)
  transition_same v down servers = set_take n servers v (server Closed)
  transition_same v (agree config) servers = set_take n servers v (server Agreed)
  transition_same v (malformed a) servers = refl

  expired_same : (p : Settings) (v : ℕ) (d : Delivery) → p.servers ≤ n
      → expired (with_priorities q p) v (delivery_with n d) ≡ delivery_with n (expired p v d)
  unfolding expired
  expired_same p v d l =
      rw (other_same n d.servers v p.servers, set_take n d.servers v (server Late))
      (of_cond (delivery_with n) (other_agreed d.servers v p.servers)
      (with_counts (with_servers d (late_servers d v)) d.sent d.reached 0)
      (with_counts d 0 d.reached 0))

  ticked_same : (p : Settings) (d : Delivery) → p.servers ≤ n
      → ticked (with_priorities q p) (delivery_with n d) ≡ delivery_with n (ticked p d)
  unfolding ticked
  ticked_same p d l = go d.active
    where
      go : (a : Option ℕ) → ticked_for (with_priorities q p) (delivery_with n d) a ≡ delivery_with n (ticked_for p d a)
      go None = refl
      go (Some v) =
          rw (expired_same p v d l)
          (each (ltb d.reached p.threshold) (eqb (d.timer + 1) p.duration) (with_counts d d.sent d.reached 0) (expired p v d)
          (with_counts d d.sent d.reached (d.timer + 1)))
        where
          each : (b t : Bool) (x y z : Delivery) → cond b (delivery_with n x) (cond t (delivery_with n y) (delivery_with n z))
              ≡ delivery_with n (cond b x (cond t y z))
          each true t x y z = refl
          each false t x y z = of_cond (delivery_with n) t y z

  after_same : (w : ℕ) (c : Call) (s : State) → s.settings.servers ≤ n → after w c (with_entries q n s) ≡ with_entries q n (after w c s)
  unfolding after ack_count sent_one
  after_same w (put table id r) s l = refl
  after_same w next_data s l = refl
  after_same w tick s l = rw (ticked_same s.settings s.delivery l) refl
  after_same w (ack v dsn config) s l = rw (acknowledged_same (ack_count w s dsn) s.delivery) refl
  after_same w (move v m) s l = rw (transition_same v m s.delivery.servers) refl

  store_same : (c : Call) (s : State) (store : List ℕ) → store_after c (with_entries q n s) store ≡ store_after c s store
  unfolding store_after
  store_same (put table id r) s store = refl
  store_same next_data s store = refl
  store_same tick s store = refl
  store_same (ack v dsn config) s store = refl
  store_same (move v m) s store = refl

  -- the choice

  chosen_same : (p : Settings) (d : Delivery) → Enough q n p → chosen (with_priorities q p) (delivery_with n d) ≡ chosen p d
  chosen_same p d h = choose_same p.priorities q n d.servers p.servers h.used h.entries

  settled_same : (s : State) → Enough q n s.settings → settled (with_entries q n s) ≡ with_entries q n (settled s)
  unfolding settled settle changed
  settled_same s h =
      let d = s.delivery in
      let c = chosen s.settings d in
      let new = not (same_active c d.active) in
      rw (chosen_same s.settings d h)
      (ap (λ (x : Delivery). with_due (with_entries q n s) x (new || s.due)) (of_cond (delivery_with n) new (activated d c) d))

  activation_same : (d : Delivery) (receivers : List ℕ) (a : Option ℕ)
      → activation_sound (delivery_with n d) receivers a ≡ activation_sound d receivers a
  activation_same d receivers None = refl
  activation_same d receivers (Some v) = refl

  sound_same : (s : State) → Enough q n s.settings → sound (with_entries q n s) ≡ sound s
  unfolding sound numbers_sound settings_sound
  sound_same s h =
      let d = s.delivery in
      rw (chosen_same s.settings d h, activation_same d s.queue.receivers d.active) refl

  sound_for_lem : (c : Call) (s : State) (store : List ℕ) → Enough q n s.settings → sound_for c (with_entries q n s) store ≡ sound_for c s store
  sound_for_lem (put table id r) s store h = rw (sound_same s h) refl
  sound_for_lem next_data s store h = rw (sound_same s h) refl
  sound_for_lem tick s store h = sound_same s h
  sound_for_lem (ack v dsn config) s store h = sound_same s h
  sound_for_lem (move v m) s store h = sound_same s h

  -- the step

  answer_same : (e : Encoding) (room : ℕ) (c : Call) (s : State) (store : List ℕ) → Enough q n s.settings
      → answer e room c (with_entries q n s) store ≡ answer e room c s store
  unfolding answer
  answer_same e room c s store h = rw (sound_for_lem c s store h, checks_same e room c s store h.entries) refl

  step_same : (e : Encoding) (room : ℕ) (c : Call) (s : State) (store : List ℕ) → Enough q n s.settings
      → step e room c (with_entries q n s) store ≡ outcome_with q n (step e room c s store)
  unfolding step
  step_same e room c s store h =
      let w = e.width in
      let g : Enough q n (after w c s).settings = rw (after_settings w c s) h in
      rw (
        answer_same e room c s store h,
        after_same w c s h.entries,
        settled_same (after w c s) g,
        store_same c s store,
        written_same w c s store,
      )
      (of_cond (outcome_with q n) (eqb (answer e room c s store) done)
      (record { answer = done; state = settled (after w c s); store = store_after c s store; written = written w c s store })
      (record { answer = answer e room c s store; state = s; store = store; written = silent }))

  received_same : (p : Settings) (v : ℕ) (m : List ℕ) → received (with_priorities q p) v m ≡ received p v m
  unfolding received form_answer
  received_same p v m = refl

  -- ---- a list of calls

  -- an exporter with other entries
  abbrev exporter_with : Exporter → Exporter
  exporter_with x = record { state = with_entries q n x.state; store = x.store }

  event_same : (x : Exporter) (e : Event) → Enough q n x.state.settings → event_step (exporter_with x) e ≡ outcome_with q n (event_step x e)
  event_same x (Put table id r) h = step_same crane 0 (put table id r) x.state x.store h
  event_same x (NextData out) h = step_same crane (length out) next_data x.state x.store h
  event_same x (Receive v m out) h =
      ap (λ (c : Call). step crane (length out) c (with_entries q n x.state) []) (received_same x.state.settings v m)
      ∙ step_same crane (length out) (received x.state.settings v m) x.state [] h
  event_same x (OfferTemplates v table out) h = step_same crane (length out) (move v (offer table)) x.state [] h
  event_same x (LineDown v) h = step_same crane 0 (move v down) x.state [] h
  event_same x Tick h = step_same crane 0 tick x.state [] h

  store_left_lem : (x : Exporter) (e : Event) (o : Outcome) → store_left (exporter_with x) e (outcome_with q n o) ≡ store_left x e o
  store_left_lem x (Put table id r) o = refl
  store_left_lem x (NextData out) o = refl
  store_left_lem x (Receive v m out) o = refl
  store_left_lem x (OfferTemplates v table out) o = refl
  store_left_lem x (LineDown v) o = refl
  store_left_lem x Tick o = refl

  after_event_lem : (x : Exporter) (e : Event) → Enough q n x.state.settings → after_event (exporter_with x) e ≡ exporter_with (after_event x e)
  unfolding after_event
  after_event_lem x e h = rw (event_same x e h, store_left_lem x e (event_step x e)) refl

  responses_same : (x : Exporter) (es : List Event) → Enough q n x.state.settings → responses (exporter_with x) es ≡ responses x es
  unfolding responses
  responses_same x [] h = refl
  responses_same x (e ∷ es) h =
      let g : Enough q n (after_event x e).state.settings = rw (settings_stay x.state.settings x e refl) h in
      rw (after_event_lem x e h, event_same x e h, responses_same (after_event x e) es g) refl

-- ---- from set-up on

-- what set-up hands back, where it takes the settings and where it does not
abbrev made : Bool → Settings → ℕ → Made
made b p octets = cond b (record { answer = done; state = fresh p octets }) refused_set_up

set_up_same : (p : Settings) (q : List ℕ) (octets : ℕ) → (set_up (with_priorities q p) octets).answer ≡ (set_up p octets).answer
unfolding set_up settings_sound
set_up_same p q octets = go (settings_sound p octets)
  where
    go : (b : Bool) → (made b (with_priorities q p) octets).answer ≡ (made b p octets).answer
    go true = refl
    go false = refl

-- both fresh exporters are the same with these priorities and the servers' own entries alone
calls_same : (p : Settings) (q store : List ℕ) → SameUsed p.servers p.priorities q → (es : List Event)
    → responses (fresh_over (with_priorities q p) store) es ≡ responses (fresh_over p store) es
unfolding begin set_up fresh settings_sound
calls_same p q store h es = go (settings_sound p (length store))
  where
    over : Bool → Settings → Exporter
    over b z = record { state = (made b z (length store)).state; store = store }

    go : (b : Bool) → responses (over b (with_priorities q p)) es ≡ responses (over b p) es
    go true =
        sym (responses_same q p.servers (over true (with_priorities q p)) es (record { used = λ v l. refl; entries = omega arith }))
        ∙ responses_same q p.servers (over true p) es (record { used = h; entries = omega arith })
    go false = refl

entries_same : (x : Exporter) (n : ℕ) → x.state.settings.servers ≤ n → (es : List Event) → responses (cut_to n x) es ≡ responses x es
entries_same x n l es =
    let a = x.state.settings.priorities in
    responses_same (take n a) n x es (record { used = λ v k. sym (get_or-take n a v 0 (omega arith)); entries = l })

pub unused_entries : UnusedEntries
unused_entries = record { set_ups = set_up_same; calls = calls_same; entries = entries_same }
