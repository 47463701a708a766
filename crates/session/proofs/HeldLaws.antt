-- Laws of the list of held records: what is read of it, what a put adds to it, and what a release takes from it. A put writes its octets
-- behind all held ones, and a release moves the ring's start by the octets released, so that every other record is read as before.
--
use mathlib.Core.Path.{◌≡◌, refl, sym, ap, ◌∙◌}
use mathlib.Core.Bool.{true}
use mathlib.Core.List.{List, [], ◌∷◌, ◌++◌}
use Prim.Native.Nat.{ℕ, ◌+◌, ◌%◌, ◌≤◌, ◌<◌}
use native.Mathlib.Nat.{zero-add, mod-add-mod}
use native.Mathlib.Omega.{arith}
use lib.ListN.{length, get_or, take, drop, length-append, length-drop, get_or-append}
use lib.Seq.{get_or-set_same, get_or-set_other, get_or-append_seam, get_or-drop, ext_get_or}
use Rattle.session.specs.Queue.{Entry, sum_of, octets_to, held_octets, record_at, held, pushed, shifted, drop_front}
use Rattle.session.specs.Sound.{sound}
use Rattle.session.specs.Steps.{put, ack, ack_count, after, store_after}
use Rattle.session.specs.declared.state.State.{State}
use Rattle.session.proofs.Rings.{read_same}
use Rattle.session.proofs.RingLaws.{read_before, read_written}
use Rattle.session.proofs.SoundFacts.{sound_facts}
use Rattle.session.proofs.QueueLaws.{last_cases, shifted_at, sum_upto, sum_set, sum_shifted, no_entry, held_at, held_length, held_at_lem}
use Rattle.session.proofs.SoundKept.{Sized}

-- next data reads the record at its place of the list
pub held_read : (s : State) (store : List ℕ) (i : ℕ) → i < s.queue.count → get_or (held s store) i no_entry ≡ held_at s store i
held_read s store i h = held_at_lem s store 0 s.queue.count i h ∙ ap (held_at s store) (zero-add i)

-- a list of as many records, each the one at its place of the queue, is that of the held records
held_same : (s : State) (store : List ℕ) (xs : List Entry) → length xs ≡ s.queue.count
    → ((i : ℕ) → i < s.queue.count → held_at s store i ≡ get_or xs i no_entry) → held s store ≡ xs
held_same s store xs l f =
    let n : length (held s store) ≡ s.queue.count = held_length s store 0 s.queue.count in
    ext_get_or no_entry (held s store) xs (n ∙ sym l)
    (λ i g. let h : i < s.queue.count = omega (arith, n) in held_read s store i h ∙ f i h)

-- a state with as many records, each of them read the same, holds the same
pub held_kept : (s s' : State) (store : List ℕ) → s'.queue.count ≡ s.queue.count → ((i : ℕ) → held_at s' store i ≡ held_at s store i)
    → held s' store ≡ held s store
held_kept s s' store n f =
    held_same s' store (held s store) (held_length s store 0 s.queue.count ∙ sym n)
    (λ i g. f i ∙ sym (held_read s store i (omega (arith, n))))

-- an accepted put leaves the held records and adds its own behind them
pub held_put : (w : ℕ) (s : State) (store table : List ℕ) (id : ℕ) (r : List ℕ) → Sized s.queue → sound s ≡ true
    → length store ≡ s.capacity → s.queue.count < 64 → held_octets s.queue + length r ≤ s.capacity
    → held (after w (put table id r) s) (store_after (put table id r) s store) ≡ held s store ++ (record { template = id; octets = r } ∷ [])
unfolding after store_after pushed record_at
held_put w s store table id r z e stored free fit =
    let q = s.queue in
    let n : ℕ = q.count in
    let y : Entry = record { template = id; octets = r } in
    let s' : State = after w (put table id r) s in
    let store' : List ℕ = store_after (put table id r) s store in
    let at : ℕ = s.start + held_octets q in
    let roomy : 0 < s.capacity = omega (arith, (sound_facts s e).numbers.settings.some_room) in
    let nl : n < length q.lengths = omega (arith, z.lengths) in
    let nt : n < length q.templates = omega (arith, z.templates) in
    let l : length (held s store) ≡ n = held_length s store 0 n in
    let earlier : (i : ℕ) → i < n → held_at s' store' i ≡ get_or (held s store ++ (y ∷ [])) i no_entry =
    λ i h.
    rw (
      get_or-append (held s store) (y ∷ []) no_entry i (omega (arith, l)),
      held_read s store i h,
      get_or-set_other q.templates n i id 0 (omega arith),
      get_or-set_other q.lengths n i (length r) 0 (omega arith),
      sum_set q.lengths n (length r) i (omega arith),
      read_before s.capacity store (s.start + octets_to q i) (get_or q.lengths i 0) at r
          (omega (arith, sum_upto q.lengths i n h (omega arith))) (omega arith),
    ) refl in
    let latest : held_at s' store' n ≡ y =
    rw (
      get_or-set_same q.templates n id 0 nt,
      get_or-set_same q.lengths n (length r) 0 nl,
      sum_set q.lengths n (length r) n (omega arith),
      read_written s.capacity store at r roomy stored (omega arith),
    ) refl in
    let seam : get_or (held s store ++ (y ∷ [])) n no_entry ≡ y =
    ap (λ (i : ℕ). get_or (held s store ++ (y ∷ [])) i no_entry) (sym l) ∙ get_or-append_seam (held s store) y [] no_entry in
    held_same s' store' (held s store ++ (y ∷ [])) (omega (arith, l, length-append (held s store) (y ∷ [])))
    (λ i h. last_cases (λ i. held_at s' store' i ≡ get_or (held s store ++ (y ∷ [])) i no_entry) n i h (earlier i) (latest ∙ sym seam))

-- a release takes the acknowledged records from the front and leaves the rest
pub held_release : (w : ℕ) (s : State) (store : List ℕ) (v dsn config : ℕ) → Sized s.queue → sound s ≡ true
    → ack_count w s dsn ≤ s.queue.count → held (after w (ack v dsn config) s) store ≡ drop (ack_count w s dsn) (held s store)
unfolding after drop_front record_at
held_release w s store v dsn config z e b =
    let q = s.queue in
    let n : ℕ = ack_count w s dsn in
    let s' : State = after w (ack v dsn config) s in
    let few : q.count ≤ 64 = (sound_facts s e).numbers.few in
    let l : length (held s store) ≡ q.count = held_length s store 0 q.count in
    held_same s' store (drop n (held s store)) (omega (arith, l, length-drop n (held s store)))
    (λ i g.
    let rest : ℕ = sum_of (take i (shifted q.lengths n)) in
    let at : s.start + octets_to q n + rest ≡ s.start + octets_to q (n + i) =
    omega (arith, sum_shifted q.lengths n i (omega (arith, z.lengths))) in
    let ring : ((s.start + octets_to q n) % s.capacity + rest) % s.capacity ≡ (s.start + octets_to q (n + i)) % s.capacity =
    mod-add-mod (s.start + octets_to q n) s.capacity rest ∙ ap (λ (x : ℕ). x % s.capacity) at in
    rw (
      get_or-drop n (held s store) i no_entry,
      held_read s store (n + i) (omega arith),
      shifted_at q.templates n i (omega (arith, z.templates)),
      shifted_at q.lengths n i (omega (arith, z.lengths)),
      read_same s.capacity store ((s.start + octets_to q n) % s.capacity + rest)
          (s.start + octets_to q (n + i)) (get_or q.lengths (n + i) 0) ring,
    ) refl)
