-- Turn by turn the lines are those of the whole replay: the bodies of a sound tape follow each other, so each turn takes the event that the
-- replay has at its place, with the state and the store that the one before left. A tape's calls are a list of calls of demand 3, since
-- its octets are below 256.
use mathlib.Core.Path.{◌≡◌, refl, sym, ap, ◌∙◌}
use mathlib.Core.Bool.{Bool, true, false, cond, false≢true}
use mathlib.Core.List.{List, [], ◌∷◌}
use Prim.Native.Nat.{ℕ, zero, suc, ◌+◌, ◌-◌, ◌≤◌, ◌<◌}
use native.Mathlib.Nat.{add-zero, add-suc, le_refl}
use native.Mathlib.Numerals.{add-one}
use native.Mathlib.Omega.{arith}
use borrow.Author.Tests.{eq-eqb, ne_eqb, eqb-true, leb-true}
use lib.Dec.{eqb, leb}
use lib.ListN.{length, drop, length-take, length-drop}
use Rattle.octets.specs.Answers.{done}
use Rattle.octets.specs.Numbers.{Octets}
use Rattle.octets.proofs.Numbers.{uint_below}
use Rattle.octets.specs.Each.{every}
use Rattle.session.specs.Steps.{octets_written}
use Rattle.session.specs.Claim.{Exporter, begin}
use Rattle.session.specs.InOctets.{Event, event_step, store_left, after_event, fresh_over, AllOctets}
use Rattle.session.proofs.InOctets.{demand3_in_octets}
use Rattle.session.specs.declared.state.State.{State}
use Rattle.contents.specs.Tape.{event_count, kind_at, server_at, body_length, body_at, octets_at, body_of, event_sound, max_tape_octets, min_events}
use Rattle.contents.specs.Tape.{max_events, tape_sound}
use Rattle.lines.specs.Lines.{line_of}
use Rattle.tape.specs.Replay.{output_buffer, calls_from, lines_of, if_done, tape_settings, tape_store, tape_calls, replay}
use Rattle.events.specs.Events.{set_up_by, table_answer, event_call, settings_of}
use Rattle.tape.specs.Turns.{Played, opened, played, turns_from, turns, TurnByTurn, CallsClaimed}
use Rattle.tape.specs.declared.replay.Progress.{Progress}
use Rattle.contents.proofs.Parts.{octets_part}
use Rattle.events.proofs.Events.{set_up_accepted, by_kind}

-- ---- the bodies of a sound tape lie within it

pub body_sum : (t : List ℕ) (i : ℕ) → body_at t (i + 1) ≡ body_at t i + body_length t i
unfolding body_at
body_sum t i = rw add-one refl

pub bodies_rise : (t : List ℕ) (i n : ℕ) → body_at t i ≤ body_at t (i + n)
bodies_rise t i zero = rw add-zero (le_refl _)
bodies_rise t i (suc n) =
    let h = bodies_rise t i n in
    let e : body_at t (i + suc n) ≡ body_at t (i + n) + body_length t (i + n) = rw (add-suc, ← add-one) (body_sum t (i + n)) in
    omega (arith, h, e)

-- What soundness says of the number of events and of the last body's end.
pub record Bounded (t : List ℕ) : Type 0 where
  pub some : 2 ≤ event_count t
  pub whole : body_at t (event_count t) ≡ length t

pub bounded : (t : List ℕ) → tape_sound t ≡ true → Bounded t
unfolding tape_sound
bounded t e =
    let f =
    go (leb (length t) max_tape_octets) (leb min_events (event_count t)) (leb (event_count t) max_events)
    (every (event_count t) (event_sound t)) (eqb (body_at t (event_count t)) (length t)) e in
    record { some = leb-true _ _ f.0; whole = eqb-true _ _ f.1 }
  where
    go : (a b c d f : Bool) → cond a (cond b (cond c (cond d (cond f true false) false) false) false) false ≡ true → (b ≡ true) × (f ≡ true)
    go true true true true true h = (refl, refl)
    go true true true true false h = absurd (false≢true h)
    go true true true false f h = absurd (false≢true h)
    go true true false d f h = absurd (false≢true h)
    go true false c d f h = absurd (false≢true h)
    go false b c d f h = absurd (false≢true h)

pub body_whole : (t : List ℕ) (i : ℕ) → Bounded t → i < event_count t → length (body_of t i) ≡ body_length t i
unfolding octets_at
body_whole t i f h =
    let r = bodies_rise t (i + 1) (event_count t - (i + 1)) in
    let e : i + 1 + (event_count t - (i + 1)) ≡ event_count t = omega arith in
    let r' : body_at t (i + 1) ≤ body_at t (event_count t) = rw e at r in
    omega (arith, r', body_sum t i, f.whole, length-take (body_length t i) (drop (body_at t i) t), length-drop (body_at t i) t)

-- ---- the calls

-- The turn of event i of a sound tape, with the state and the store of an exporter: its outcome is that of the call in the whole replay.
pub played_at : (t : List ℕ) → Bounded t → (n i : ℕ) → i + suc n ≡ event_count t → 2 ≤ i → (x : Exporter)
    → let e = event_call (kind_at t i) (server_at t i) (body_of t i) output_buffer (body_of t 1) in
    let o = event_step x e in
    played t (record { state = x.state; left = suc n; at = body_at t i }) x.store
    ≡ record {
      line = line_of i o.answer (octets_written o);
      written = octets_written o;
      progress = record { state = o.state; left = n; at = body_at t (i + 1) };
      store = store_left x e o;
    }
unfolding played
played_at t f n i c h x =
    let z : event_count t - suc n ≡ i = omega arith in
    let e = event_call (kind_at t i) (server_at t i) (body_of t i) output_buffer (body_of t 1) in
    let w : body_at t i + length (body_of t i) ≡ body_at t (i + 1) =
    ap (λ (j : ℕ). body_at t i + j) (body_whole t i f (omega arith)) ∙ sym (body_sum t i) in
    let less : suc n - 1 ≡ n = omega arith in
    rw (ne_eqb (suc n) 0 (λ y. absurd (omega (arith, y))), z, ne_eqb i 1 (λ y. absurd (omega (arith, y)))) (rw (w, less) refl)

-- no turn is taken where no event is left
none_left : (t : List ℕ) (n : ℕ) (p : Played) → p.progress.left ≡ 0 → turns_from t n p ≡ []
unfolding turns_from
none_left t zero p e = refl
none_left t (suc n) p e = rw (eq-eqb p.progress.left 0 e) refl

pub calls_turns : (t : List ℕ) → Bounded t → (n i fuel : ℕ) → i + n ≡ event_count t → 2 ≤ i → n ≤ fuel
    → (x : Exporter) (p : Played) → p.progress ≡ record { state = x.state; left = n; at = body_at t i } → p.store ≡ x.store
    → turns_from t fuel p ≡ lines_of x i (calls_from t i n)
unfolding turns_from lines_of calls_from after_event
calls_turns t f zero i fuel c h k x p r s = none_left t fuel p (ap (λ (q : Progress). q.left) r)
calls_turns t f (suc n) i zero c h k x p r s = absurd (omega arith)
calls_turns t f (suc n) i (suc fuel) c h k x p r s =
    let e = event_call (kind_at t i) (server_at t i) (body_of t i) output_buffer (body_of t 1) in
    let o = event_step x e in
    rw (r, s, played_at t f n i c h x)
    (rw (ne_eqb (suc n) 0 (λ y. absurd (omega (arith, y))))
    (ap (λ (ls : List (List ℕ)). line_of i o.answer (octets_written o) ∷ ls)
    (calls_turns t f n (i + 1) fuel (omega arith) (omega arith) (omega arith) (after_event x e) _ refl refl)))

-- ---- the table

-- The turn of the table of a sound tape.
pub table_at : (t store : List ℕ) → Bounded t → (m : ℕ) → m + 2 ≡ event_count t → (s : State)
    → let a = table_answer (tape_settings t) (body_of t 1) in
    played t (record { state = s; left = suc m; at = body_at t 1 }) store
    ≡ record {
      line = line_of 1 a [];
      written = [];
      progress = record { state = s; left = cond (eqb a done) m 0; at = body_at t 2 };
      store = store;
    }
unfolding played
table_at t store f m c s =
    let z : event_count t - suc m ≡ 1 = omega arith in
    let w : body_at t 1 + length (body_of t 1) ≡ body_at t 2 =
    ap (λ (j : ℕ). body_at t 1 + j) (body_whole t 1 f (omega arith)) ∙ sym (body_sum t 1) in
    let less : suc m - 1 ≡ m = omega arith in
    rw (ne_eqb (suc m) 0 (λ y. absurd (omega (arith, y))), z) (rw (w, less) refl)

-- The lines from the table on.
pub table_turns : (t : List ℕ) → Bounded t → (m fuel : ℕ) → m + 2 ≡ event_count t → m ≤ fuel → (p : Played) (x : Exporter)
    → p.progress ≡ record { state = x.state; left = suc m; at = body_at t 1 } → p.store ≡ x.store
    → let a = table_answer (tape_settings t) (body_of t 1) in
    turns_from t (suc fuel) p ≡ line_of 1 a [] ∷ if_done a (lines_of x 2 (calls_from t 2 m))
unfolding turns_from
table_turns t f m fuel c k p x r s =
    let a = table_answer (tape_settings t) (body_of t 1) in
    rw (r, s, table_at t x.store f m c x.state)
    (rw (ne_eqb (suc m) 0 (λ y. absurd (omega (arith, y))))
    (ap (λ (ls : List (List ℕ)). line_of 1 a [] ∷ ls) (go (eqb a done))))
  where
    go : (b : Bool)
        → turns_from t fuel (record {
          line = line_of 1 (table_answer (tape_settings t) (body_of t 1)) [];
          written = [];
          progress = record { state = x.state; left = cond b m 0; at = body_at t 2 };
          store = x.store;
        })
        ≡ cond b (lines_of x 2 (calls_from t 2 m)) []
    go true = calls_turns t f m 2 fuel (omega arith) (omega arith) k x _ refl refl
    go false = none_left t fuel _ refl

-- ---- the whole replay

pub turn_by_turn : TurnByTurn
unfolding opened replay begin
turn_by_turn t = sound? (tape_sound t) refl
  where
    made : ℕ
    made = (set_up_by (body_of t 0) (length (tape_store t))).answer

    accepted? : tape_sound t ≡ true → (b : Bool) → eqb made done ≡ b → turns t (tape_store t) ≡ replay t
    accepted? e false g = rw (none_left t (event_count t) (opened t (tape_store t)) (rw (e, g) refl), e, g) refl
    accepted? e true g =
        let f = bounded t e in
        let m = event_count t - 2 in
        let all : suc (event_count t - 1) ≡ event_count t = omega (arith, f.some) in
        let more : event_count t - 1 ≡ suc m = omega (arith, f.some) in
        let q =
        table_turns t f m (event_count t - 1) (omega (arith, f.some)) (omega arith) (opened t (tape_store t))
        (fresh_over (tape_settings t) (tape_store t))
        (rw (e, g, more, set_up_accepted (body_of t 0) (length (tape_store t)) (eqb-true made done g)) refl) refl in
        rw (rw all at q, e, g) refl

    sound? : (b : Bool) → tape_sound t ≡ b → turns t (tape_store t) ≡ replay t
    sound? false e = rw (none_left t (event_count t) (opened t (tape_store t)) (rw e refl), e) refl
    sound? true e = accepted? e (eqb made done) refl

-- ---- demand 3

-- one call more, whose message, if it is one, is octets
one_octets : (kind v : ℕ) (b table : List ℕ) (es : List Event) → Octets b → AllOctets es
    → AllOctets (event_call kind v b output_buffer table ∷ es)
one_octets kind v b table es h rest =
    by_kind (λ (e f : Event). AllOctets (e ∷ es)) kind v b output_buffer output_buffer table rest (h, rest) rest rest rest rest

-- every message of a tape's calls is octets
calls_octets : (t : List ℕ) → Octets t → (i n : ℕ) → AllOctets (calls_from t i n)
unfolding calls_from
calls_octets t h i zero = tt
calls_octets t h i (suc n) =
    one_octets (kind_at t i) (server_at t i) (body_of t i) (body_of t 1) (calls_from t (i + 1) n) (octets_part t h (body_at t i) (body_length t i))
    (calls_octets t h (i + 1) n)

pub calls_claimed : CallsClaimed
unfolding settings_of
calls_claimed t h e =
    demand3_in_octets (tape_settings t) (tape_store t) e (uint_below (body_of t 0) (octets_part t h (body_at t 0) (body_length t 0)) 8 4)
    (tape_calls t) (calls_octets t h 2 (event_count t - 2))
