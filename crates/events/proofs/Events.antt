-- Laws of the events: the settings and what event 0 does with them; the call that an event makes, by its kind, and what the calls without
-- a message write. A kind is tested against each name in turn, so its call is that of the first test that holds. Of the output a call looks
-- at nothing but the length.
use mathlib.Core.Path.{◌≡◌, refl, sym, ap, ◌∙◌}
use mathlib.Core.Logic.{◌≢◌}
use mathlib.Core.Bool.{Bool, true, false, cond}
use mathlib.Core.List.{List, []}
use Prim.Native.Nat.{ℕ, ◌+◌, ◌-◌, ◌≤◌, ◌<◌}
use native.Mathlib.Omega.{arith}
use lib.ListN.{length, get_or, take, drop, replicate, length-take, length-drop, get_or-append, get_or-eq_default}
use lib.Seq.{sets-eq, length-sets, get_or-take, get_or-drop}
use lib.Dec.{eqb, ltb}
use borrow.Author.Tests.{ne_eqb, lt-ltb, le-ltb, ltb-true, ltb-false}
use Rattle.std.specs.Prelude.{Result, Ok, Err}
use Rattle.octets.specs.Answers.{done, judged, Answered, answer_number}
use Rattle.numbers.specs.declared.refusal.Refusal.{Refusal}
use Rattle.octets.specs.Numbers.{put_at, uint_at, Octets}
use Rattle.octets.proofs.Numbers.{uint_in_same, uint_below}
use Rattle.octets.proofs.Stores.{put_fits}
use Rattle.exporter.specs.Replies.{Reply, silent, crane, layout}
use Rattle.session.specs.Limits.{max_servers, max_store_octets}
use Rattle.session.specs.Servers.{down, offer}
use Rattle.session.specs.Steps.{put, next_data, tick, move, received, step, written, Outcome, octets_written, stepped_of, wrote_of, output_after}
use Rattle.session.specs.Steps.{put_step, tick_step, line_down_step, refused_state, refused_set_up, set_up}
use Rattle.session.specs.Claim.{Exporter}
use Rattle.session.proofs.StepLaws.{refused_number, answered_other, answered_part}
use Rattle.exporter.proofs.Drivers.{refused_left, event_kept, same_ok}
use Rattle.session.proofs.Written.{writes_nothing}
use Rattle.session.specs.Unused.{with_priorities, SameUsed}
use Rattle.session.specs.InOctets.{Event, Put, NextData, Receive, OfferTemplates, LineDown, Tick, event_step}
use Rattle.session.specs.declared.state.State.{State}
use Rattle.session.specs.declared.state.Wrote.{Wrote}
use Rattle.contents.specs.Tape.{put_kind, message_kind, down_kind, tick_kind, next_kind, body_length, body_at, octets_at, body_of, priorities_at}
use Rattle.contents.proofs.Parts.{octets_part}
use Rattle.events.specs.Events.{priorities_of, settings_of, set_up_by, event_call, store_length}
use Rattle.events.specs.Events.{effect, effect_store, left_of, left_by, stepped_by, Answers, Gives}
use Rattle.events.specs.declared.Left.{Left}

-- ---- the settings

-- no more priorities are read than there can be servers, so they fit their array
pub priorities_fit : (b : List ℕ) → put_at (replicate max_servers 0) 0 (octets_at b priorities_at max_servers) ≡ priorities_of b
unfolding octets_at
priorities_fit b =
    let part = drop priorities_at b in
    put_fits (replicate max_servers 0) 0 (take max_servers part) (omega (arith, length-take max_servers part))

-- one of them is the octet at its place; from the most servers on there is none
priority_at : (b : List ℕ) (v : ℕ) → v < max_servers → priorities_at + v < length b → get_or (priorities_of b) v 0 ≡ get_or b (priorities_at + v) 0
unfolding octets_at
priority_at b v l h =
    let part = take max_servers (drop priorities_at b) in
    let n = length-take max_servers (drop priorities_at b) in
    let k = length-drop priorities_at b in
    rw (sets-eq part (replicate max_servers 0) 0 (omega (arith, n)))
    (get_or-append part (drop (0 + length part) (replicate max_servers 0)) 0 v (omega (arith, n, k))
    ∙ get_or-take max_servers (drop priorities_at b) v 0 l ∙ get_or-drop priorities_at b v 0)

no_priority : (b : List ℕ) (v : ℕ) → max_servers ≤ v → get_or (priorities_of b) v 0 ≡ 0
no_priority b v h =
    let n = length-sets (replicate {A = ℕ} max_servers 0) 0 (octets_at b priorities_at max_servers) in
    get_or-eq_default (priorities_of b) 0 (omega (arith, n))

-- bodies that are the same up to the priorities of n servers have the same priorities for these
pub used_same : (b c : List ℕ) (n : ℕ) → priorities_at + n ≤ length b → priorities_at + n ≤ length c
    → ((i : ℕ) → i < priorities_at + n → get_or b i 0 ≡ get_or c i 0) → SameUsed n (settings_of b).priorities (priorities_of c)
unfolding settings_of
used_same b c n h k e v l = go (ltb v max_servers) refl
  where
    go : (x : Bool) → ltb v max_servers ≡ x → get_or (priorities_of b) v 0 ≡ get_or (priorities_of c) v 0
    go true g =
        let m = ltb-true v max_servers g in
        priority_at b v m (omega arith) ∙ e (priorities_at + v) (omega arith) ∙ sym (priority_at c v m (omega arith))
    go false g =
        let m = ltb-false v max_servers g in
        no_priority b v m ∙ sym (no_priority c v m)

-- and those that are the same up to the priorities have the same other settings and name the same store
number_same_at : (b c : List ℕ) → ((i : ℕ) → i < priorities_at → get_or b i 0 ≡ get_or c i 0) → (at w : ℕ) → at + w ≤ priorities_at
    → uint_at b at w ≡ uint_at c at w
number_same_at b c h at w l = uint_in_same _ b c at at w (λ i k. h (at + i) (omega arith))

pub settings_same : (b c : List ℕ) → ((i : ℕ) → i < priorities_at → get_or b i 0 ≡ get_or c i 0)
    → settings_of c ≡ with_priorities (priorities_of c) (settings_of b)
unfolding settings_of
settings_same b c h =
    let same = number_same_at b c h in
    rw (
      same 0 1 (omega arith),
      same 1 1 (omega arith),
      same 2 1 (omega arith),
      same 3 1 (omega arith),
      same 4 2 (omega arith),
      same 8 4 (omega arith),
      same 12 4 (omega arith),
    )
    refl

pub store_same : (b c : List ℕ) → ((i : ℕ) → i < priorities_at → get_or b i 0 ≡ get_or c i 0) → store_length b ≡ store_length c
store_same b c h = ap (λ (n : ℕ). n + 1) (number_same_at b c h 6 2 (omega arith))

-- an event 0 with fewer priorities than servers is refused, and one with a priority for every server does what set-up does
pub set_up_fewer : (b : List ℕ) (capacity : ℕ) → length b - priorities_at < (settings_of b).servers → refused_set_up ≡ set_up_by b capacity
unfolding set_up_by
set_up_fewer b capacity h =
    let p = settings_of b in
    sym (ap (λ (x : Bool). cond x refused_set_up (set_up p capacity)) (lt-ltb (length b - priorities_at) p.servers h))

pub set_up_enough : (b : List ℕ) (capacity : ℕ) → (settings_of b).servers ≤ length b - priorities_at
    → set_up (settings_of b) capacity ≡ set_up_by b capacity
unfolding set_up_by
set_up_enough b capacity h =
    let p = settings_of b in
    sym (ap (λ (x : Bool). cond x refused_set_up (set_up p capacity)) (le-ltb (length b - priorities_at) p.servers h))

-- an event 0 that is answered 0 did what set-up does with its settings
pub set_up_accepted : (b : List ℕ) (room : ℕ) → (set_up_by b room).answer ≡ done → set_up_by b room ≡ set_up (settings_of b) room
unfolding set_up_by
set_up_accepted b room e = go (ltb (length b - priorities_at) (settings_of b).servers) e
  where
    go : (x : Bool) → (cond x refused_set_up (set_up (settings_of b) room)).answer ≡ done
        → cond x refused_set_up (set_up (settings_of b) room) ≡ set_up (settings_of b) room
    go true e = absurd (omega (arith, e))
    go false e = refl

-- and one that is refused left the refused state
pub set_up_by_refused : (b : List ℕ) (room : ℕ) → (set_up_by b room).answer ≢ done → (set_up_by b room).state ≡ refused_state
unfolding set_up_by
set_up_by_refused b room = go (ltb (length b - priorities_at) (settings_of b).servers)
  where
    go : (x : Bool) → (cond x refused_set_up (set_up (settings_of b) room)).answer ≢ done
        → (cond x refused_set_up (set_up (settings_of b) room)).state ≡ refused_state
    go true h = refl
    go false h = refused_left (settings_of b) room h

-- ---- the call by the kind

pub is_put : (kind server : ℕ) (b out table : List ℕ) (id : ℕ) (r : List ℕ) → kind ≡ put_kind → id ≡ uint_at b 0 2 → r ≡ drop 2 b
    → event_call kind server b out table ≡ Put table id r
unfolding event_call
is_put kind server b out table id r e f g = rw (e, f, g) refl

pub is_message_lem : (kind server : ℕ) (b out table : List ℕ) → kind ≡ message_kind → event_call kind server b out table ≡ Receive server b out
unfolding event_call
is_message_lem kind server b out table e = rw e refl

pub is_down : (kind server : ℕ) (b out table : List ℕ) → kind ≡ down_kind → event_call kind server b out table ≡ LineDown server
unfolding event_call
is_down kind server b out table e = rw e refl

pub is_tick : (kind server : ℕ) (b out table : List ℕ) → kind ≡ tick_kind → event_call kind server b out table ≡ Tick
unfolding event_call
is_tick kind server b out table e = rw e refl

pub is_next : (kind server : ℕ) (b out table : List ℕ) → kind ≡ next_kind → event_call kind server b out table ≡ NextData out
unfolding event_call
is_next kind server b out table e = rw e refl

-- any other kind
pub is_offer : (kind server : ℕ) (b out table : List ℕ) → (kind ≡ put_kind → ⊥) → (kind ≡ message_kind → ⊥) → (kind ≡ down_kind → ⊥)
    → (kind ≡ tick_kind → ⊥) → (kind ≡ next_kind → ⊥) → event_call kind server b out table ≡ OfferTemplates server table out
unfolding event_call
is_offer kind server b out table p m d t n =
    rw (ne_eqb kind put_kind p, ne_eqb kind message_kind m, ne_eqb kind down_kind d, ne_eqb kind tick_kind t, ne_eqb kind next_kind n) refl

-- What holds of the calls of each kind, lent one output and another, holds of an event's calls.
pub by_kind : (R : Event → Event → Type 0) (kind server : ℕ) (b out more table : List ℕ)
    → R (Put table (uint_at b 0 2) (drop 2 b)) (Put table (uint_at b 0 2) (drop 2 b)) → R (Receive server b out) (Receive server b more)
    → R (LineDown server) (LineDown server) → R Tick Tick → R (NextData out) (NextData more)
    → R (OfferTemplates server table out) (OfferTemplates server table more)
    → R (event_call kind server b out table) (event_call kind server b more table)
unfolding event_call
by_kind R kind server b out more table p m d k n o =
    go (eqb kind put_kind) (eqb kind message_kind) (eqb kind down_kind) (eqb kind tick_kind) (eqb kind next_kind)
  where
    of : Bool → Bool → Bool → Bool → Bool → List ℕ → Event
    of c₁ c₂ c₃ c₄ c₅ lent =
        cond c₁ (Put table (uint_at b 0 2) (drop 2 b))
        (cond c₂ (Receive server b lent)
        (cond c₃ (LineDown server) (cond c₄ Tick (cond c₅ (NextData lent) (OfferTemplates server table lent)))))

    go : (c₁ c₂ c₃ c₄ c₅ : Bool) → R (of c₁ c₂ c₃ c₄ c₅ out) (of c₁ c₂ c₃ c₄ c₅ more)
    go true c₂ c₃ c₄ c₅ = p
    go false true c₃ c₄ c₅ = m
    go false false true c₄ c₅ = d
    go false false false true c₅ = k
    go false false false false true = n
    go false false false false false = o

-- the same outcome, and the same store after it
abbrev pub Same : State → List ℕ → Event → Event → Type 0
Same s store e f = (effect s store e ≡ effect s store f) × (effect_store s store e ≡ effect_store s store f)

-- A call looks at the output's length only.
pub same_call : (table : List ℕ) (s : State) (store : List ℕ) (kind server : ℕ) (b out more : List ℕ) → length out ≡ length more
    → Same s store (event_call kind server b out table) (event_call kind server b more table)
same_call table s store kind server b out more e =
    by_kind (Same s store) kind server b out more table (refl, refl)
    (ap (λ (n : ℕ). step crane n (received s.settings server b) s []) e, refl) (refl, refl) (refl, refl)
    (ap (λ (n : ℕ). step crane n next_data s store) e, refl)
    (ap (λ (n : ℕ). step crane n (move server (offer table)) s []) e, refl)

-- ---- each call, by what the exporter ensures of it

-- a call that writes nothing, in the form of one that may write
pub unwritten : (o : Outcome) → o.written ≡ silent → judged o.answer (record { state = o.state; written = 0 }) ≡ wrote_of o
unwritten o e = ap (λ (l : Reply). judged o.answer (record { state = o.state; written = length (layout l) })) (sym e)

pub nothing_written : (o : Outcome) (x : Result State Refusal) (s : State) → o.written ≡ silent → x ≡ Ok s
    → Answered answer_number x (stepped_of o) o.answer
    → Answered answer_number (Ok (record { state = s; written = 0 })) (wrote_of o) o.answer
nothing_written o x s none k a =
    rw (← unwritten o none) (answered_part o.state (λ s. record { state = s; written = 0 }) (rw k at a))

pub refused_on : (o : Outcome) (x : Result State Refusal) (refusal : Refusal) → x ≡ Err refusal
    → Answered answer_number x (stepped_of o) o.answer → Answered answer_number (Err refusal) (wrote_of o) o.answer
refused_on o x refusal k a = answered_other o.state _ (rw k at a)

pub put_silent : (s : State) (store table : List ℕ) (id : ℕ) (r : List ℕ) → (put_step s store table id r).written ≡ silent
unfolding written
put_silent s store table id r = writes_nothing crane 0 (put table id r) s store refl

pub down_silent : (s : State) (v : ℕ) → (line_down_step s v).written ≡ silent
unfolding written
down_silent s v = writes_nothing crane 0 (move v down) s [] refl

pub tick_silent : (s : State) → (tick_step s).written ≡ silent
unfolding written
tick_silent s = writes_nothing crane 0 tick s [] refl

pub put_called : (s : State) (store out : List ℕ) (e : Event) (table : List ℕ) (id : ℕ) (r : List ℕ) (x : Result Wrote Refusal)
    (after : List ℕ)
    → e ≡ Put table id r → let o = put_step s store table id r in
    Answered answer_number x (wrote_of o) o.answer → after ≡ o.store → Answers s store out e x after out
put_called s store out e table id r x after f g h = rw f (g, (h, rw (put_silent s store table id r) refl))

pub down_called : (s : State) (store out : List ℕ) (e : Event) (v : ℕ) (x : Result Wrote Refusal)
    → e ≡ LineDown v → let o = line_down_step s v in
    Answered answer_number x (wrote_of o) o.answer → Answers s store out e x store out
down_called s store out e v x f g = rw f (g, (refl, rw (down_silent s v) refl))

pub tick_called : (s : State) (store out : List ℕ) (e : Event) (x : Result Wrote Refusal)
    → e ≡ Tick → let o = tick_step s in
    Answered answer_number x (wrote_of o) o.answer → Answers s store out e x store out
tick_called s store out e x f g = rw f (g, (refl, rw (tick_silent s) refl))

-- a call that may write: its answer and its output are what the exporter ensures
pub wrote_called : (s : State) (store out : List ℕ) (e f : Event) (x : Result Wrote Refusal) (after : List ℕ) → e ≡ f
    → Answered answer_number x (wrote_of (effect s store f)) (effect s store f).answer → after ≡ output_after out (effect s store f)
    → store ≡ effect_store s store f → Answers s store out e x store after
wrote_called s store out e f x after g h k l = rw g (h, (l, k))

-- ---- what a call leaves

-- what an answer leaves is what is left of the outcome
pub left_called : (x : Exporter) (e : Event) (r : Result Wrote Refusal)
    → Answered answer_number r (wrote_of (event_step x e)) (event_step x e).answer → left_by x.state r ≡ left_of (event_step x e)
unfolding judged
left_called x e (Ok w) a =
    let o = event_step x e in
    let z : o.answer ≡ done = sym a.number in
    let v : w ≡ record { state = o.state; written = length (octets_written o) } =
    same_ok (a.same ∙ ap (λ (n : ℕ). judged n (record { state = o.state; written = length (octets_written o) })) z) in
    rw (v, z) refl
left_called x e (Err refusal) a =
    let o = event_step x e in
    let k = event_kept x e (λ z. refused_number (record { state = o.state; written = length (octets_written o) }) (sym a.same) z) in
    rw (k.0, k.1, a.number) refl

-- what a call without output hands back, in the form of one that may write
abbrev pub unwritten_of : Result State Refusal → Result Wrote Refusal
unwritten_of (Ok s) = Ok (record { state = s; written = 0 })
unwritten_of (Err refusal) = Err refusal

-- what such a call leaves
pub stepped : (x : Exporter) (e : Event) (s : Result State Refusal) (r : Left) → let o = event_step x e in
    o.written ≡ silent → Answered answer_number s (stepped_of o) o.answer → r ≡ left_by x.state (unwritten_of s) → r ≡ left_of o
stepped x e (Ok s) r f g h =
    h ∙ left_called x e (Ok (record { state = s; written = 0 })) (nothing_written (event_step x e) (Ok s) s f refl g)
stepped x e (Err refusal) r f g h = h ∙ left_called x e (Err refusal) (refused_on (event_step x e) (Err refusal) refusal refl g)

-- so an answer that is known gives what it leaves
pub called_left : (s : State) (store out : List ℕ) (e : Event) (r known : Result Wrote Refusal) (left : Left) (afters : List ℕ × List ℕ)
    → known ≡ r → left ≡ left_by s known → Answers s store out e r afters.0 afters.1 → Gives s store out e left afters.0 afters.1
called_left s store out e r known left afters k l a =
    (l ∙ ap (left_by s) k ∙ left_called (record { state = s; store = store }) e r a.0, a.1)

-- a call without output, and one that may write: what its answer leaves is what is left of the outcome
pub stepped_gives : (s : State) (store out store_after : List ℕ) (e : Event) (x : Result State Refusal)
    → (effect s store e).written ≡ silent
    → Answered answer_number x (stepped_of (effect s store e)) (effect s store e).answer → store_after ≡ effect_store s store e
    → Gives s store out e (stepped_by s x) store_after out
stepped_gives s store out store_after e (Ok next) none a k =
    let o = effect s store e in
    (left_called (record { state = s; store = store }) e _ (nothing_written o (Ok next) next none refl a), (k, rw none refl))
stepped_gives s store out store_after e (Err refusal) none a k =
    let o = effect s store e in
    (left_called (record { state = s; store = store }) e _ (refused_on o (Err refusal) refusal refl a), (k, rw none refl))

pub wrote_gives : (s : State) (store out out_after : List ℕ) (e : Event) (x : Result Wrote Refusal)
    → Answered answer_number x (wrote_of (effect s store e)) (effect s store e).answer → out_after ≡ output_after out (effect s store e)
    → store ≡ effect_store s store e → Gives s store out e (left_by s x) store out_after
wrote_gives s store out out_after e x a l k = (left_called (record { state = s; store = store }) e x a, (k, l))

-- an event's call is the call that it names
pub gives_of : (s : State) (store out : List ℕ) (e f : Event) (left : Left) (store_after out_after : List ℕ) → e ≡ f
    → Gives s store out f left store_after out_after → Gives s store out e left store_after out_after
gives_of s store out e f left store_after out_after g h = rw g h

-- the store that a tape names is no longer than the longest
pub store_small : (t : List ℕ) → Octets t → store_length (body_of t 0) ≤ max_store_octets
store_small t h =
    let n = uint_below (body_of t 0) (octets_part t h (body_at t 0) (body_length t 0)) 6 2 in
    omega (arith, n)
