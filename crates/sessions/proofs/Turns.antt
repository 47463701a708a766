-- Laws of a session: which call an event is, what a call's answer leaves of a session, and one event more. Each call's law takes what the
-- exporter ensures of it to what the definition has after that event.
use Rattle.std.proofs.Common.{◌≡◌, ℕ, ◌+◌, ◌*◌, List, length, get_or, sym, refl, ap, ◌∙◌, add-one, ne_eqb}
use Rattle.exporter.specs.Replies.{silent, crane}
use Rattle.session.proofs.Written.{writes_nothing}
use Rattle.batches.specs.Batches.{ListedCall, Single, SendBatch, batch, batch_of, output_after_batch}
use Rattle.std.specs.Prelude.{Result, Ok, Err}
use Rattle.octets.specs.Answers.{done, judged, Answered, answer_number}
use Rattle.numbers.specs.declared.refusal.Refusal.{Refusal}
use Rattle.session.specs.Steps.{put, tick, written, step, octets_written, stepped_of, wrote_of, output_after}
use Rattle.session.proofs.StepLaws.{refused_number}
use Rattle.exporter.proofs.Drivers.{same_ok, event_kept}
use Rattle.session.specs.InOctets.{Event, Put, NextData, Receive, OfferTemplates, Tick, event_step, store_left}
use Rattle.session.specs.declared.state.Batch.{Batch}
use Rattle.session.specs.declared.state.State.{State}
use Rattle.session.specs.declared.state.Wrote.{Wrote}
use Rattle.sessions.specs.Sessions.{Lent, message_at, call_at, event_octets, Progress, progress, exporter_of, added_batch}
use Rattle.sessions.specs.Sessions.{stepped, wrote, after, played, PlayedTo}

-- ---- the call of an event, by its number

module _ (l : Lent) (at : ℕ) (out : List ℕ) where
  pub call_put : get_or l.events at 0 ≡ 0 → call_at l at out ≡ Single (Put l.table l.template l.octets)
  unfolding call_at
  call_put h = rw h

  pub call_next : get_or l.events at 0 ≡ 1 → call_at l at out ≡ Single (NextData out)
  unfolding call_at
  call_next h = rw h

  pub call_tick : get_or l.events at 0 ≡ 2 → call_at l at out ≡ Single Tick
  unfolding call_at
  call_tick h = rw h

  pub call_offer : get_or l.events at 0 ≡ 3 → call_at l at out ≡ Single (OfferTemplates (get_or l.events (at + 1) 0) l.table out)
  unfolding call_at
  call_offer h = rw h

  pub call_batch : get_or l.events at 0 ≡ 4 → call_at l at out ≡ SendBatch (get_or l.events (at + 1) 0) out
  unfolding call_at
  call_batch h = rw h

  pub call_receive : (get_or l.events at 0 ≡ 0 → ⊥) → (get_or l.events at 0 ≡ 1 → ⊥) → (get_or l.events at 0 ≡ 2 → ⊥)
      → (get_or l.events at 0 ≡ 3 → ⊥) → (get_or l.events at 0 ≡ 4 → ⊥)
      → call_at l at out ≡ Single (Receive (get_or l.events (at + 1) 0) (message_at l.events at) out)
  unfolding call_at
  call_receive h0 h1 h2 h3 h4 = rw (ne_eqb _ _ h0, ne_eqb _ _ h1, ne_eqb _ _ h2, ne_eqb _ _ h3, ne_eqb _ _ h4)

-- ---- what a call's answer leaves

-- a put and a tick write nothing, accepted or not
pub put_writes_nothing : (table : List ℕ) (room id : ℕ) (r : List ℕ) (s : State) (store : List ℕ)
    → (step crane room (put table id r) s store).written ≡ silent
unfolding written
put_writes_nothing table room id r s store = writes_nothing crane room (put table id r) s store refl

pub tick_writes_nothing : (room : ℕ) (s : State) (store : List ℕ) → (step crane room tick s store).written ≡ silent
unfolding written
tick_writes_nothing room s store = writes_nothing crane room tick s store refl

module _ (q : Progress) (e : Event) where
  -- a call that writes nothing
  pub stepped_after : (x : Result State Refusal) (store : List ℕ) → (event_step (exporter_of q) e).written ≡ silent
      → Answered answer_number x (stepped_of (event_step (exporter_of q) e)) (event_step (exporter_of q) e).answer
      → store ≡ store_left (exporter_of q) e (event_step (exporter_of q) e)
      → progress (stepped q.state q.total x).0 store q.out (stepped q.state q.total x).1 ≡ after (Single e) q
  unfolding after judged
  stepped_after (Ok s) store none is left =
      let o = event_step (exporter_of q) e in
      let z : o.answer ≡ done = sym is.number in
      let v : s ≡ o.state = same_ok (is.same ∙ ap (λ (n : ℕ). judged n o.state) z) in
      rw (v, z, left, none) refl
  stepped_after (Err refusal) store none is left =
      let o = event_step (exporter_of q) e in
      let k = event_kept (exporter_of q) e (λ z. refused_number o.state (sym is.same) z) in
      rw (k.0, is.number, left, none) refl

  -- a call that may write a message, and leaves the store
  pub wrote_after : (x : Result Wrote Refusal) (out : List ℕ) → store_left (exporter_of q) e (event_step (exporter_of q) e) ≡ q.store
      → Answered answer_number x (wrote_of (event_step (exporter_of q) e)) (event_step (exporter_of q) e).answer
      → out ≡ output_after q.out (event_step (exporter_of q) e)
      → progress (wrote q.state q.total x).0 q.store out (wrote q.state q.total x).1 ≡ after (Single e) q
  unfolding after judged
  wrote_after (Ok w) out kept is left =
      let o = event_step (exporter_of q) e in
      let z : o.answer ≡ done = sym is.number in
      let whole : Wrote = record { state = o.state; written = length (octets_written o) } in
      let v : w ≡ whole = same_ok (is.same ∙ ap (λ (n : ℕ). judged n whole) z) in
      rw (v, z, left, kept) refl
  wrote_after (Err refusal) out kept is left =
      let o = event_step (exporter_of q) e in
      let whole : Wrote = record { state = o.state; written = length (octets_written o) } in
      let k = event_kept (exporter_of q) e (λ z. refused_number whole (sym is.same) z) in
      rw (k.0, is.number, left, kept, k.1) refl

-- a batch
pub batch_after : (q : Progress) (n : ℕ) (x : Batch) (out : List ℕ) → x ≡ batch_of (batch n (length q.out) q.state q.store)
    → answer_number x.answer ≡ (batch n (length q.out) q.state q.store).answer
    → out ≡ output_after_batch q.out (batch n (length q.out) q.state q.store)
    → progress x.state q.store out (added_batch q.total (answer_number x.answer) x.written x.count) ≡ after (SendBatch n q.out) q
unfolding after
batch_after q n x out is number left = rw (number, is, left) refl

-- the call of the event at a place
pub event_after : (l : Lent) (at : ℕ) (q next : Progress) (x : ListedCall) → call_at l at q.out ≡ x → next ≡ after x q
    → next ≡ after (call_at l at q.out) q
event_after l at q next x call left = left ∙ ap (λ (y : ListedCall). after y q) (sym call)

-- ---- one event more, and the end

pub same_progress : {s s' : State} {a a' b b' : List ℕ} {t t' : ℕ} → s ≡ s' → a ≡ a' → b ≡ b' → t ≡ t'
    → progress s a b t ≡ progress s' a' b' t'
same_progress es ea eb et = rw (es, ea, eb, et)

pub played_more : (l : Lent) (p q next : Progress) (i : ℕ) (x : ListedCall) → q ≡ played l i p
    → call_at l (event_octets * i) q.out ≡ x → next ≡ after x q → next ≡ played l (i + 1) p
unfolding played
played_more l p q next i x here call left =
    left ∙ rw (add-one, ← here) (ap (λ (y : ListedCall). after y q) (sym call))

pub played_to_lem : (l : Lent) (p : Progress) (n : ℕ) (state : State) (store out : List ℕ) (total i : ℕ) → i ≡ n
    → progress state store out total ≡ played l i p → PlayedTo (played l n p) total store out
played_to_lem l p n state store out total i e here = rw (← e, ← here) (record { summed = refl; stored = refl; written = refl })
