-- The rules about the timer hold: a tick is judged by soundness alone, and each rule is a case of `ticked`. Where no phase changes the
-- choice stays; where the active server turns late another is chosen, since one is agreed.
use mathlib.Core.Path.{◌≡◌, refl, sym, ap, ◌∙◌, subst}
use mathlib.Core.Logic.{◌≢◌}
use mathlib.Core.Bool.{Bool, true, false, not, ◌&&◌, ◌||◌, cond, false≢true}
use mathlib.Core.List.{List, []}
use Prim.Native.Nat.{ℕ, zero, suc, ◌+◌, ◌<◌}
use native.Mathlib.Decide.{ℕ_discrete}
use native.Mathlib.Omega.{arith}
use lib.Dec.{eqb}
use borrow.Author.Tests.{eq-eqb, ne_eqb, lt-ltb, le-ltb}
use Rattle.octets.specs.Answers.{done}
use Rattle.wire.specs.Replies.{Encoding}
use Rattle.session.specs.Servers.{phase_at, is_agreed, is_nobody, chosen, changed, settle, same_active, other_agreed, expired, late_servers}
use Rattle.session.specs.Servers.{with_counts, with_servers, ticked_for, ticked, IsChoice}
use Rattle.session.specs.Sound.{sound}
use Rattle.session.specs.Steps.{tick, answer, checks, after, settled, with_delivery, Outcome, step}
use Rattle.session.specs.Timer.{with_sent_and_timer, Runs, OtherAgreed, TurnedLate, TimerRule}
use Rattle.session.specs.declared.state.Server as server_of
use Rattle.std.specs.Prelude.{Option, Some, None}
use Rattle.session.specs.declared.state.Delivery.{Delivery}
use Rattle.session.specs.declared.state.State.{State}
use Rattle.session.proofs.SoundFacts.{sound_facts}
use Rattle.session.proofs.Choice.{choice, late_phase, other_chosen}
use Rattle.session.proofs.QueueLaws.{last_cases}
use Rattle.session.proofs.StepLaws.{settled_same, step_done}

-- the search for another agreed server finds one where there is one
finds : (servers : List server_of.Server) (v n u : ℕ) → u < n → u ≢ v → is_agreed (phase_at servers u) ≡ true → other_agreed servers v n ≡ true
unfolding other_agreed
finds servers v zero u l o a = absurd (omega arith)
finds servers v (suc n) u l o a =
    last_cases (λ k. k ≡ u → other_agreed servers v (suc n) ≡ true) n u (omega (arith, l))
    (λ m. λ e. rw (finds servers v n u m o a) (or_true (not (eqb n v) && is_agreed (phase_at servers n))))
    (λ e. rw (e, ne_eqb u v o, a))
    refl
  where
    or_true : (b : Bool) → b || true ≡ true
    or_true true = refl
    or_true false = refl

-- and none where there is none
finds_none : (servers : List server_of.Server) (v n : ℕ) → ((u : ℕ) → u < n → u ≢ v → is_agreed (phase_at servers u) ≡ true → ⊥)
    → other_agreed servers v n ≡ false
unfolding other_agreed
finds_none servers v zero h = refl
finds_none servers v (suc n) h =
    rw (finds_none servers v n (λ u l. h u (omega (arith, l)))) (go (ℕ_discrete n v) (is_agreed (phase_at servers n)) refl)
  where
    go : Dec (n ≡ v) → (a : Bool) → is_agreed (phase_at servers n) ≡ a → (not (eqb n v) && a) || false ≡ false
    go (yes e) a x = rw (eq-eqb n v e)
    go (no e) false x = rw (ne_eqb n v e)
    go (no e) true x = absurd (h n (omega arith) e x)

module _ (enc : Encoding) (s : State) (is_sound : sound s ≡ true) where
  tick_answer : answer enc 0 tick s [] ≡ done
  unfolding answer checks
  tick_answer = rw is_sound

  after_tick : (step enc 0 tick s []).state ≡ settled (with_delivery s (ticked s.settings s.delivery))
  unfolding after
  after_tick = ap (λ (o : Outcome). o.state) (step_done enc 0 tick s [] tick_answer)

  -- where only counters change the choice stays
  same_choice : (sent timer : ℕ) → ticked s.settings s.delivery ≡ with_counts s.delivery sent s.delivery.reached timer
      → (step enc 0 tick s []).state ≡ with_sent_and_timer s sent timer
  same_choice sent timer e =
      after_tick ∙ ap (λ (d : Delivery). settled (with_delivery s d)) e
      ∙ settled_same (with_sent_and_timer s sent timer) (sound_facts s is_sound).choice

  -- ---- the counters alone

  stopped_nobody : s.delivery.active ≡ None → (step enc 0 tick s []).state ≡ with_sent_and_timer s s.delivery.sent 0
  unfolding ticked
  stopped_nobody e = same_choice s.delivery.sent 0 (rw e refl)

  stopped_below : s.delivery.reached < s.settings.threshold → (step enc 0 tick s []).state ≡ with_sent_and_timer s s.delivery.sent 0
  unfolding ticked
  stopped_below l = same_choice s.delivery.sent 0 (go s.delivery.active)
    where
      go : (a : Option ℕ) → ticked_for s.settings s.delivery a ≡ with_counts s.delivery s.delivery.sent s.delivery.reached 0
      go None = refl
      go (Some v) = rw (lt-ltb s.delivery.reached s.settings.threshold l)

  -- ---- the timer runs

  running : (v : ℕ) → Runs s v
      → ticked s.settings s.delivery
      ≡ cond (eqb (s.delivery.timer + 1) s.settings.duration) (expired s.settings v s.delivery)
      (with_counts s.delivery s.delivery.sent s.delivery.reached (s.delivery.timer + 1))
  unfolding ticked
  running v r =
      ap (ticked_for s.settings s.delivery) r.active ∙ rw (le-ltb s.delivery.reached s.settings.threshold r.waiting)

  growing : (v : ℕ) → Runs s v → s.delivery.timer + 1 < s.settings.duration
      → (step enc 0 tick s []).state ≡ with_sent_and_timer s s.delivery.sent (s.delivery.timer + 1)
  growing v r l =
      same_choice s.delivery.sent (s.delivery.timer + 1)
      (running v r ∙ rw (ne_eqb (s.delivery.timer + 1) s.settings.duration (λ e. omega (arith, l, e))))

  -- ---- it has run out

  ran_out_lem : (v : ℕ) → Runs s v → s.delivery.timer + 1 ≡ s.settings.duration
      → ticked s.settings s.delivery ≡ expired s.settings v s.delivery
  ran_out_lem v r e = running v r ∙ rw (eq-eqb (s.delivery.timer + 1) s.settings.duration e)

  sent_again_lem : (v : ℕ) → Runs s v → s.delivery.timer + 1 ≡ s.settings.duration → (OtherAgreed s v → ⊥)
      → (step enc 0 tick s []).state ≡ with_sent_and_timer s 0 0
  unfolding expired
  sent_again_lem v r e h =
      same_choice 0 0
      (ran_out_lem v r e
      ∙ rw (finds_none s.delivery.servers v s.settings.servers
      (λ u l o a. h (record { server = u; exists = l; other = o; agreed = a }))))

  -- the state with v late, before the choice
  abbrev late_state : ℕ → State
  late_state v =
      with_delivery s (with_counts (with_servers s.delivery (late_servers s.delivery v)) s.delivery.sent s.delivery.reached 0)

  turned : (v : ℕ) → Runs s v → s.delivery.timer + 1 ≡ s.settings.duration → OtherAgreed s v
      → (step enc 0 tick s []).state ≡ settled (late_state v)
  unfolding expired
  turned v r e o =
      after_tick
      ∙ ap (λ (d : Delivery). settled (with_delivery s d))
      (ran_out_lem v r e ∙ rw (finds s.delivery.servers v s.settings.servers o.server o.exists o.other o.agreed))

  -- somebody is chosen then, and not v
  others_turn : (v : ℕ) → OtherAgreed s v → (a : Option ℕ) → chosen s.settings (late_state v).delivery ≡ a → (a ≢ None) × (a ≢ Some v)
  others_turn v o a e = (
    λ n. false≢true
        (sym (ap (λ (x : Option ℕ). not (is_nobody x)) (e ∙ n))
        ∙ other_chosen s.settings.priorities s.delivery.servers v s.settings.servers
        ∙ finds s.delivery.servers v s.settings.servers o.server o.exists o.other o.agreed),
    λ n. false≢true
        (sym (late_phase s.delivery.servers v v ∙ rw (eq-eqb v v refl))
        ∙ (subst (IsChoice s.settings.priorities (late_servers s.delivery v) s.settings.servers) (e ∙ n)
        (choice s.settings.priorities (late_servers s.delivery v) s.settings.servers)).agreed),
  )

  choice_changed : (v : ℕ) → Runs s v → OtherAgreed s v → changed s.settings (late_state v).delivery ≡ true
  unfolding changed
  choice_changed v r o = rw r.active (go (chosen s.settings (late_state v).delivery) refl)
    where
      go : (a : Option ℕ) → chosen s.settings (late_state v).delivery ≡ a → not (same_active a (Some v)) ≡ true
      go None e = refl
      go (Some u) e = rw (ne_eqb u v (λ x. (others_turn v o (Some u) e).1 (ap Some x)))

  turned_late : (v : ℕ) → Runs s v → s.delivery.timer + 1 ≡ s.settings.duration → OtherAgreed s v
      → TurnedLate s v (step enc 0 tick s []).state
  unfolding settled settle
  turned_late v r e o =
      let f = others_turn v o (chosen s.settings (late_state v).delivery) refl in
      rw (turned v r e o, choice_changed v r o)
      (record {
        servers = refl;
        somebody = f.0;
        another = f.1;
        sent = refl;
        reached = refl;
        timer = refl;
        due = refl;
        queue = refl;
        settings = refl;
        capacity = refl;
        start = refl;
        next = refl;
      })

pub timer_rule : TimerRule
timer_rule enc s is_sound =
    record {
      answered = ap (λ (o : Outcome). o.answer) (step_done enc 0 tick s [] (tick_answer enc s is_sound));
      nobody = stopped_nobody enc s is_sound;
      below = stopped_below enc s is_sound;
      grows = growing enc s is_sound;
      late = turned_late enc s is_sound;
      sent_again = sent_again_lem enc s is_sound;
    }
