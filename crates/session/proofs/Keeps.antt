-- Each accepted call keeps what holds between the ledger and the exporter: the laws of the held records say what a put and a release leave
-- of them, and a set gains the server that the ledger notes of the same writing. That the state stays sound is shown for itself
-- (`SoundKept`).
use mathlib.Core.Path.{◌≡◌, refl, sym, ap, ◌∙◌}
use mathlib.Core.Bool.{Bool, true, false, ◌&&◌, ◌||◌, cond, false≢true, and-true, and-false}
use mathlib.Core.List.{List, [], ◌∷◌, ◌++◌}
use Prim.Native.Nat.{ℕ, zero, suc, ◌+◌, ◌-◌, ◌%◌, ◌≤◌, ◌<◌, max}
use native.Mathlib.Nat.{add-zero, mod-lt}
use native.Mathlib.Decide.{ℕ_discrete}
use native.Mathlib.Omega.{arith}
use lib.Dec.{eqb}
use lib.ListN.{length, get_or, drop, length-append}
use lib.Seq.{drop-append-le, drop-drop}
use borrow.Author.Tests.{ltb-false, leb-false, eqb-true, not-false, eq-eqb, ne_eqb}
use Rattle.octets.specs.Answers.{judge, done}
use Rattle.octets.proofs.Judging.{passed}
use Rattle.octets.proofs.Each.{and_right}
use Rattle.wire.specs.Replies.{Encoding}
use Rattle.session.specs.Servers.{same_active, chosen, changed, settle, with_servers, transition, sent_one, acknowledged, ticked}
use Rattle.session.specs.Queue.{Entry, held_octets, record_at, has, with, pushed, drop_front, marked}
use Rattle.session.specs.Sound.{sound}
use Rattle.session.specs.Steps.{modulus, first_held, dsn_at, ack_count, Call, put, next_data, tick, ack, move, checks, with_delivery}
use Rattle.session.specs.Steps.{after, settled, store_after}
use Rattle.session.specs.History.{Writing, Ledger, with_activation, dsn_of, ack_place, delivery_after, written_by, ledger_after, any_writing}
use Rattle.session.specs.History.{written_in, first_written}
use Rattle.session.specs.Claim.{InRange}
use Rattle.std.specs.Prelude.{Option, Some, None}
use Rattle.session.specs.declared.state.Delivery.{Delivery}
use Rattle.session.specs.declared.state.State.{State}
use Rattle.session.proofs.Choice.{chosen_below}
use Rattle.session.proofs.Places.{dsn_add, dsn_back, dsn_ack, place_found}
use Rattle.session.proofs.RingLaws.{write_length}
use Rattle.session.proofs.QueueLaws.{or_elim, or_right, set_cases, shifted_at, has_with, has_zero, written_to}
use Rattle.session.proofs.SoundFacts.{SoundFacts, sound_facts, same_active_lem}
use Rattle.session.proofs.SoundKept.{Sized, Calm, move_calm, tick_calm, active_some, ack_lower}
use Rattle.session.proofs.HeldLaws.{held_kept, held_put, held_release}
use Rattle.session.proofs.Agrees.{written_during, Core}

-- the ledger after the choice
abbrev pub begun : Bool → Ledger → Ledger
begun b l = cond b (with_activation l (l.activation + 1)) l

-- neither an activation nor a writing releases anything
pub begun_released : (b : Bool) (l : Ledger) → (begun b l).released ≡ l.released
begun_released true l = refl
begun_released false l = refl

pub written_released : (v : Option ℕ) (q : ℕ) (l : Ledger) → (written_by v q l).released ≡ l.released
written_released None q l = refl
written_released (Some v) q l = refl

-- with n more, as many are released as before exactly where as many were, and n is 0
pub none_more : (released n before : ℕ) → before ≤ released → eqb released before && eqb n 0 ≡ eqb (released + n) before
none_more r zero b h = and-true (eqb r b) ∙ ap (λ (x : ℕ). eqb x b) (sym (add-zero r))
none_more r (suc n) b h = rw (ne_eqb (suc n) 0 (omega arith), ne_eqb (r + suc n) b (omega arith)) (and-false (eqb r b))

-- what was written to a server in an activation was written in it
in_during : (ws : List Writing) (q v k : ℕ) → written_in ws q v k ≡ true → written_during ws k ≡ true
unfolding any_writing
in_during [] q v k e = e
in_during (x ∷ xs) q v k e =
    go (eqb x.place q) (eqb x.server v) (eqb x.activation k) (written_in xs q v k) (written_during xs k) e (in_during xs q v k)
  where
    go : (a b c r d : Bool) → (a && b && c) || r ≡ true → (r ≡ true → d ≡ true) → c || d ≡ true
    go true true true r d e f = refl
    go true true false r d e f = f e
    go true false true r d e f = refl
    go true false false r d e f = f e
    go false true true r d e f = refl
    go false true false r d e f = f e
    go false false true r d e f = refl
    go false false false r d e f = f e

-- what was written first in an activation, where nothing was, and where something was
none_written : (ws : List Writing) (k q : ℕ) → written_during ws k ≡ false → first_written ws k q ≡ q
unfolding any_writing first_written
none_written [] k q e = refl
none_written (x ∷ xs) k q e = go (eqb x.activation k) (none_written xs k q) e
  where
    go : (b : Bool) → (written_during xs k ≡ false → first_written xs k q ≡ q) → b || written_during xs k ≡ false
        → first_written xs k (cond b x.place q) ≡ q
    go true f h = absurd (false≢true (sym h))
    go false f h = f h

some_written : (ws : List Writing) (k q r : ℕ) → written_during ws k ≡ true → first_written ws k q ≡ first_written ws k r
unfolding any_writing first_written
some_written [] k q r e = absurd (false≢true e)
some_written (x ∷ xs) k q r e = go (eqb x.activation k) (some_written xs k q r) e
  where
    go : (b : Bool) → (written_during xs k ≡ true → first_written xs k q ≡ first_written xs k r) → b || written_during xs k ≡ true
        → first_written xs k (cond b x.place q) ≡ first_written xs k (cond b x.place r)
    go true f h = refl
    go false f h = f h

-- the choice made anew
pub settle_keeps : {w : ℕ} {l : Ledger} {s : State} {store : List ℕ} → Core w l s store
    → Core w (begun (changed s.settings s.delivery) l) (settled s) store
unfolding settled settle record_at
settle_keeps {w} {l} {s} {store} c = go (changed s.settings s.delivery)
  where
    s' : Bool → State
    s' b =
        record {
          settings = s.settings;
          capacity = s.capacity;
          delivery =
              cond b
              (record { servers = s.delivery.servers; active = chosen s.settings s.delivery; sent = 0; reached = 0; timer = 0 })
              s.delivery;
          due = b || s.due;
          queue = s.queue;
          start = s.start;
          next = s.next;
        }

    go : (b : Bool) → Core w (begun b l) (s' b) store
    go true =
        record {
          stored = c.stored;
          behind = c.behind ∙ sym (held_kept s (s' true) store refl (λ i. refl));
          stock = c.stock;
          origin = omega arith;
          starts = sym (eq-eqb l.released l.released refl);
          opened = λ x. let z : ⊥ = omega arith in absurd z;
          later = λ k h. c.later k (omega arith);
          first = none_written l.writings (l.activation + 1) (l.released + 1) (c.later (l.activation + 1) (omega arith));
          since = λ v k e h b. let z : ⊥ = omega arith in absurd z;
          until =
              λ v k e. absurd (false≢true
              (sym (c.later (l.activation + 1) (omega arith)) ∙ in_during l.writings k v (l.activation + 1) e));
        }
    go false =
        record {
          stored = c.stored;
          behind = c.behind ∙ sym (held_kept s (s' false) store refl (λ i. refl));
          stock = c.stock;
          origin = c.origin;
          starts = c.starts;
          opened = c.opened;
          later = c.later;
          first = c.first;
          since = c.since;
          until = c.until;
        }

-- a tick, and a transition of a server
calm_keeps : {w : ℕ} {l : Ledger} {s : State} {store : List ℕ} (d : Delivery) → Calm s.settings s.delivery d → Core w l s store
    → Core w l (with_delivery s d) store
unfolding record_at
calm_keeps {s} {store} d m c =
    record {
      stored = c.stored;
      behind = c.behind ∙ sym (held_kept s (with_delivery s d) store refl (λ i. refl));
      stock = c.stock;
      origin = c.origin;
      starts = c.starts;
      opened = c.opened;
      later = c.later;
      first = c.first;
      since = λ v k e h b. c.since v k (sym m.active ∙ e) h (omega arith);
      until = λ v k e. omega (arith, c.until v k e, m.reached);
    }

-- ---- the calls

module _ (enc : Encoding) (l : Ledger) (s : State) (store : List ℕ) (wide : 64 < modulus enc.width) (is_sound : sound s ≡ true)
    (z : Sized s.queue) (c : Core enc.width l s store) where
  -- how many bits a sequence number has
  abbrev w : ℕ
  w = enc.width

  -- what the sound state is known by
  f : SoundFacts s
  f = sound_facts s is_sound

  -- the active server exists
  below : (v : ℕ) → s.delivery.active ≡ Some v → v < s.settings.servers
  below v e = chosen_below s.settings.priorities s.delivery.servers s.settings.servers v (sym f.choice ∙ e)

  put_keeps : (room : ℕ) (table : List ℕ) (id : ℕ) (r : List ℕ) → judge (checks enc room (put table id r) s store) ≡ done
      → Core w (ledger_after w s.settings (put table id r) s.delivery l) (after w (put table id r) s)
      (store_after (put table id r) s store)
  unfolding checks ledger_after after store_after pushed
  put_keeps room table id r e =
      let a = passed (checks enc room (put table id r) s store) tt e in
      let k = c.stock in
      let q = s.queue in
      let n : ℕ = q.count in
      let y : Entry = record { template = id; octets = r } in
      let free : n < 64 = leb-false _ _ a.1.1.1.1.0 in
      let fit : held_octets q + length r ≤ s.capacity = ltb-false _ _ a.1.1.1.1.1.0 in
      let lr : length (l.records ++ (y ∷ [])) ≡ length l.records + 1 = length-append l.records (y ∷ []) in
      let nr : n < length q.receivers = omega (arith, z.receivers) in
      record {
        stored = write_length s.capacity store (s.start + held_octets q) r ∙ c.stored;
        behind =
            drop-append-le l.released l.records (y ∷ []) (omega (arith, k.counted))
            ∙ ap (λ (hs : List Entry). hs ++ (y ∷ [])) c.behind
            ∙ sym (held_put w s store table id r z is_sound c.stored free fit);
        stock = record {
          counted = omega (arith, k.counted);
          following =
              ap (λ (x : ℕ). (x + 1) % modulus w) k.following
              ∙ dsn_add w s.settings wide (length l.records + 1) 1
              ∙ ap (λ (x : ℕ). dsn_of w s.settings (x + 1)) (sym lr);
          marks = λ i v h. set_cases q.receivers 0 0 (λ i x. has x v ≡ written_to l.writings (l.released + (i + 1)) v) n nr i
              (λ ne. k.marks i v (omega arith))
              (has_zero v ∙ sym (k.places (l.released + (n + 1)) v (omega (arith, k.counted))));
          places = λ j v h. k.places j v (omega arith);
          existing = k.existing;
        };
        origin = c.origin;
        starts = c.starts;
        opened = c.opened;
        later = c.later;
        first = c.first;
        since = c.since;
        until = c.until;
      }

  -- where nothing was written in the activation, nothing was sent and nothing released in it
  nothing_released : (v : ℕ) → s.delivery.active ≡ Some v → written_during l.writings l.activation ≡ false
      → (s.delivery.sent ≡ 0) × (l.released ≡ l.released_before)
  nothing_released v ea none = (
    omega (arith, unreached (ℕ_discrete s.delivery.reached 0), f.numbers.sent_reached),
    unreleased (ℕ_discrete l.released l.released_before),
  )
    where
      unreached : Dec (s.delivery.reached ≡ 0) → s.delivery.reached ≡ 0
      unreached (yes x) = x
      unreached (no x) =
          absurd (false≢true (sym none
          ∙ in_during l.writings (l.released + 1) v l.activation (c.since v (l.released + 1) ea (omega arith) (omega (arith, x)))))

      unreleased : Dec (l.released ≡ l.released_before) → l.released ≡ l.released_before
      unreleased (yes x) = x
      unreleased (no x) = absurd (false≢true (sym none ∙ c.opened (omega (arith, x, c.origin))))

  -- the place written first in the activation, or the next one if nothing was written, is the first behind those released before it
  pub first_place : (v : ℕ) → s.delivery.active ≡ Some v
      → first_written l.writings l.activation (l.released + (s.delivery.sent + 1)) ≡ l.released_before + 1
  first_place v ea = go (written_during l.writings l.activation) refl
    where
      go : (b : Bool) → written_during l.writings l.activation ≡ b
          → first_written l.writings l.activation (l.released + (s.delivery.sent + 1)) ≡ l.released_before + 1
      go true e = some_written _ _ _ _ e ∙ c.first
      go false e = none_written _ _ _ e ∙ omega (arith, nothing_released v ea e)

  -- next data, where server v is active
  next_at : (v : ℕ) → s.delivery.active ≡ Some v → s.delivery.sent < s.queue.count
      → Core w (ledger_after w s.settings next_data s.delivery l) (after w next_data s) store
  unfolding ledger_after after sent_one marked any_writing first_written record_at
  next_at v ea h =
      let k = c.stock in
      let q = s.queue in
      let i₀ : ℕ = s.delivery.sent in
      let place : ℕ = l.released + (i₀ + 1) in
      let x : ℕ = with (get_or q.receivers i₀ 0) v in
      let nr : i₀ < length q.receivers = omega (arith, z.receivers, f.numbers.few) in
      rw ea (record {
        stored = c.stored;
        behind = c.behind ∙ sym (held_kept s _ store refl (λ i. refl));
        stock = record {
          counted = k.counted;
          following = k.following;
          marks = λ i j g.
              set_cases q.receivers x 0
              (λ i m. has m j ≡ (eqb place (l.released + (i + 1)) && eqb v j) || written_to l.writings (l.released + (i + 1)) j) i₀ nr i
              (λ n. rw (ne_eqb place (l.released + (i + 1)) (λ z. n (omega arith))) (k.marks i j g))
              (rw (eq-eqb place place refl) (has_with (get_or q.receivers i₀ 0) v j ∙ ap (λ (b : Bool). eqb v j || b) (k.marks i₀ j h)));
          places = λ j u g. rw (ne_eqb place j (λ z. omega (arith, k.counted))) (k.places j u g);
          existing = λ j u g. or_elim (eqb place j && eqb v u) (written_to l.writings j u) g
              (λ z. omega (arith, below v ea, eqb-true v u (and_right (eqb place j) (eqb v u) z))) (k.existing j u);
        };
        origin = c.origin;
        starts = c.starts;
        opened = λ x. rw (eq-eqb l.activation l.activation refl);
        later = λ j g. rw (ne_eqb l.activation j (λ z. omega arith)) (c.later j g);
        first =
            ap (λ (b : Bool). first_written l.writings l.activation (cond b place (l.released_before + 1)))
            (eq-eqb l.activation l.activation refl)
            ∙ first_place v ea;
        since = λ u j e lo hi. recent u j (cc) lo hi (ℕ_discrete j place);
        until = λ u j e. far u j e (ℕ_discrete j place);
      })
    where
      far : (u j : ℕ)
          → (eqb (l.released + (s.delivery.sent + 1)) j && eqb v u && eqb l.activation l.activation)
          || written_in l.writings j u l.activation ≡ true
          → Dec (j ≡ l.released + (s.delivery.sent + 1)) → j ≤ l.released + max s.delivery.reached (s.delivery.sent + 1)
      far u j e (yes z) = omega arith
      far u j e (no n) = omega (arith, c.until u j (rw (ne_eqb (l.released + (s.delivery.sent + 1)) j (λ y. n (sym y))) at e))

      recent : (u j : ℕ) → v ≡ u → l.released < j → j ≤ l.released + max s.delivery.reached (s.delivery.sent + 1)
          → Dec (j ≡ l.released + (s.delivery.sent + 1))
          → (eqb (l.released + (s.delivery.sent + 1)) j && eqb v u && eqb l.activation l.activation)
          || written_in l.writings j u l.activation ≡ true
      recent u j e lo hi (yes z) =
          rw (eq-eqb (l.released + (s.delivery.sent + 1)) j (sym z), eq-eqb v u e, eq-eqb l.activation l.activation refl)
      recent u j e lo hi (no n) =
          or_right (eqb (l.released + (s.delivery.sent + 1)) j && eqb v u && eqb l.activation l.activation)
          (written_in l.writings j u l.activation)
          (c.since u j (ea ∙ ap Some e) lo (omega (arith, f.numbers.sent_reached)))

  next_keeps : (room : ℕ) → judge (checks enc room next_data s store) ≡ done
      → Core w (ledger_after w s.settings next_data s.delivery l) (after w next_data s) store
  unfolding checks
  next_keeps room e =
      let a = passed (checks enc room next_data s store) tt e in
      let v = active_some s.delivery.active a.0 in
      next_at v.0 v.1 (leb-false _ _ a.1.0)

  -- the first held record has the number of the place behind the released ones
  pub first_held_lem : first_held w s ≡ dsn_of w s.settings (l.released + 1)
  first_held_lem =
      ap (λ (x : ℕ). (x + (modulus w - s.queue.count)) % modulus w)
      (c.stock.following ∙ ap (λ (x : ℕ). dsn_of w s.settings (x + 1)) (sym c.stock.counted))
      ∙ dsn_back w s.settings wide l.released s.queue.count f.numbers.few

  -- the record at place i of the queue has the number of its place
  pub held_dsn : (i : ℕ) → dsn_at w s i ≡ dsn_of w s.settings (l.released + (i + 1))
  held_dsn i =
      let e : l.released + 1 + i ≡ l.released + (i + 1) = omega arith in
      ap (λ (x : ℕ). (x + i) % modulus w) first_held_lem ∙ dsn_add w s.settings wide (l.released + 1) i ∙ ap (dsn_of w s.settings) e

  -- an accepted DATA ACK names no more records than were reached
  pub acked : (room v d config : ℕ) → judge (checks enc room (ack v d config) s store) ≡ done → ack_count w s d ≤ s.delivery.reached
  unfolding checks
  acked room v d config e = ltb-false _ _ (passed (checks enc room (ack v d config) s store) tt e).1.1.1.0

  -- and comes from the active server
  pub acknowledger : (room v d config : ℕ) → judge (checks enc room (ack v d config) s store) ≡ done → s.delivery.active ≡ Some v
  unfolding checks
  acknowledger room v d config e =
      same_active_lem s.delivery.active (Some v)
      (not-false (same_active s.delivery.active (Some v)) (passed (checks enc room (ack v d config) s store) tt e).1.0)

  -- the number of a DATA ACK is that of the place so many behind the released ones
  pub ack_dsn : (d : ℕ) → d < modulus w → dsn_of w s.settings (l.released + ack_count w s d) ≡ d
  unfolding ack_count
  ack_dsn d h = rw first_held_lem (dsn_ack w s.settings wide l.released d h)

  pub ack_below : (d : ℕ) → ack_count w s d < modulus w
  unfolding ack_count
  ack_below d = mod-lt _ (omega arith)

  -- which is the place that it names
  pub ack_named : (d : ℕ) → d < modulus w → ack_count w s d ≤ s.delivery.reached
      → ack_place w s.settings l d ≡ l.released + ack_count w s d
  ack_named d h n =
      place_found w s.settings wide 64 l.released (ack_count w s d) d (omega (arith, f.numbers.reached_held, f.numbers.few))
      (ack_below d) (ack_dsn d h)

  -- a DATA ACK of the active server that names no more records than were reached
  ack_at : (v d config : ℕ) → d < modulus w → s.delivery.active ≡ Some v → ack_count w s d ≤ s.delivery.reached
      → Core w (ledger_after w s.settings (ack v d config) s.delivery l) (after w (ack v d config) s) store
  unfolding ledger_after after drop_front
  ack_at v d config h active b =
      let k = c.stock in
      let q = s.queue in
      let n : ℕ = ack_count w s d in
      let e : ack_place w s.settings l d ≡ l.released + n = ack_named d h b in
      let nc : n ≤ q.count = omega (arith, f.numbers.reached_held) in
      let low = ack_lower s z f n in
      rw e (record {
        stored = c.stored;
        behind =
            sym (drop-drop n l.released l.records) ∙ ap (drop n) c.behind ∙ sym (held_release w s store v d config z is_sound nc);
        stock = record {
          counted = omega (arith, k.counted);
          following = k.following;
          marks = λ i j g.
              let y : l.released + (n + i + 1) ≡ l.released + n + (i + 1) = omega arith in
              rw (shifted_at q.receivers n i (omega (arith, z.receivers, f.numbers.few)), ← y) (k.marks (n + i) j (omega arith));
          places = k.places;
          existing = k.existing;
        };
        origin = omega (arith, c.origin);
        starts = ap (λ (x : Bool). x && eqb n 0) c.starts ∙ none_more l.released n l.released_before c.origin;
        opened = λ x. opens n b (ℕ_discrete n 0) x;
        later = c.later;
        first = c.first;
        since = λ u j x lo hi. c.since u j (sym low.active ∙ x) (omega arith) (omega (arith, low.reached));
        until = λ u j x. omega (arith, c.until u j x, low.reached);
      })
    where
      -- what is released was reached, and so was written
      opens : (n : ℕ) → n ≤ s.delivery.reached → Dec (n ≡ 0) → l.released_before < l.released + n
          → written_during l.writings l.activation ≡ true
      opens n b (yes e) x = c.opened (omega arith)
      opens n b (no e) x =
          in_during l.writings (l.released + 1) v l.activation (c.since v (l.released + 1) active (omega arith) (omega arith))

  -- every accepted call
  pub call_keeps : (room : ℕ) (k : Call) → InRange w k → judge (checks enc room k s store) ≡ done
      → Core w (ledger_after w s.settings k s.delivery l) (after w k s) (store_after k s store)
  unfolding ledger_after after store_after
  call_keeps room (put table id r) h e = put_keeps room table id r e
  call_keeps room next_data h e = next_keeps room e
  call_keeps room tick h e =
      calm_keeps (ticked s.settings s.delivery) (tick_calm s.settings s.delivery f.numbers.settings.some_duration) c
  call_keeps room (ack v d config) h e = ack_at v d config h (acknowledger room v d config e) (acked room v d config e)
  call_keeps room (move v m) h e =
      let servers = transition v m s.delivery.servers in
      calm_keeps (with_servers s.delivery servers) (move_calm servers) c

  -- the history's delivery takes the same step
  pub call_delivery : (room : ℕ) (k : Call) → InRange w k → judge (checks enc room k s store) ≡ done
      → (after w k s).delivery ≡ delivery_after w s.settings k l s.delivery
  unfolding after delivery_after
  call_delivery room (put table id r) h e = refl
  call_delivery room next_data h e = refl
  call_delivery room tick h e = refl
  call_delivery room (ack v d config) h e =
      let z : ack_count w s d ≡ ack_place w s.settings l d - l.released = omega (arith, ack_named d h (acked room v d config e)) in
      ap (λ (n : ℕ). acknowledged n s.delivery) z
  call_delivery room (move v m) h e = refl
