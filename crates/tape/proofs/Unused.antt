-- Unused priorities change no line: the settings of both tapes differ in them alone, so set-up and every call answer and write the same,
-- and the lines say nothing else.
use mathlib.Core.Path.{◌≡◌, refl, sym, ap, ◌∙◌}
use mathlib.Core.List.{List, [], ◌∷◌}
use Prim.Native.Nat.{ℕ, ◌+◌}
use native.Mathlib.Omega.{arith}
use lib.ListN.{length, replicate}
use Rattle.session.specs.Steps.{octets_written}
use Rattle.session.specs.Claim.{Exporter}
use Rattle.session.specs.InOctets.{Event, event_step, after_event, fresh_over}
use Rattle.session.specs.Unused.{with_priorities, Response, responses}
use Rattle.session.proofs.Unused.{unused_entries}
use Rattle.session.specs.declared.state.Settings.{Settings}
use Rattle.contents.specs.Tape.{body_of}
use Rattle.lines.specs.Lines.{line_of}
use Rattle.events.specs.Events.{priorities_of, settings_of, set_up_by}
use Rattle.events.proofs.Events.{settings_same, used_same, store_same, set_up_enough}
use Rattle.tape.specs.Replay.{tape_store, tape_calls, lines_of, replay}
use Rattle.tape.specs.Unused.{UnusedPrinted}

-- the lines of what calls answer and write, the first of them at place i
unfoldable response_lines : ℕ → List Response → List (List ℕ)
response_lines i [] = []
response_lines i (r ∷ rs) = line_of i r.answer r.written ∷ response_lines (i + 1) rs

lines_of_lem : (x : Exporter) (i : ℕ) (es : List Event) → lines_of x i es ≡ response_lines i (responses x es)
unfolding lines_of response_lines responses
lines_of_lem x i [] = refl
lines_of_lem x i (e ∷ es) =
    let o = event_step x e in
    ap (λ (ls : List (List ℕ)). line_of i o.answer (octets_written o) ∷ ls) (lines_of_lem (after_event x e) (i + 1) es)

pub unused_printed : UnusedPrinted
unfolding replay
unused_printed t u h =
    let b = body_of t 0 in
    let c = body_of u 0 in
    let p = settings_of b in
    let q = priorities_of c in
    let room = length (tape_store t) in
    let stores : tape_store u ≡ tape_store t =
    ap (λ (n : ℕ). replicate n 0) (sym (store_same b c (λ i l. h.used i (omega arith)))) in
    let others : settings_of c ≡ with_priorities q p = settings_same b c (λ i l. h.used i (omega arith)) in
    let servers : (settings_of c).servers ≡ p.servers = ap (λ (z : Settings). z.servers) others in
    let first : (set_up_by c room).answer ≡ (set_up_by b room).answer =
    rw (
      ← set_up_enough c room (omega (arith, servers, h.enough_too)),
      ← set_up_enough b room (omega (arith, h.enough)),
      others,
    ) (unused_entries.set_ups p q room) in
    let es = tape_calls t in
    let lines : lines_of (fresh_over (with_priorities q p) (tape_store t)) 2 es ≡ lines_of (fresh_over p (tape_store t)) 2 es =
    lines_of_lem _ 2 es
    ∙ ap (response_lines 2) (unused_entries.calls p q (tape_store t) (used_same b c p.servers h.enough h.enough_too h.used) es)
    ∙ sym (lines_of_lem _ 2 es) in
    rw (h.sound, h.sound_too, stores, ← h.table, ← h.calls, others, first, lines) refl
