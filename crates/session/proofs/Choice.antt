-- `choose` goes through the servers once and keeps the best so far. By induction that one is agreed, none has a higher priority, and none
-- before it the same. The rest are corollaries, and the law that ties a tick's one choice to whether another server is agreed.
use mathlib.Core.Path.{◌≡◌, refl, sym, ap, ◌∙◌, subst}
use mathlib.Core.Bool.{Bool, true, false, not, ◌&&◌, ◌||◌, cond, false≢true}
use mathlib.Core.List.{List, [], ◌∷◌}
use Prim.Native.Nat.{ℕ, zero, suc, ◌≤◌, ◌<◌}
use native.Mathlib.Decide.{ℕ_discrete}
use native.Mathlib.Omega.{arith}
use lib.Dec.{eqb, ltb}
use lib.ListN.{get_or, set, replicate}
use lib.Seq.{get_or-set_other}
use borrow.Author.Tests.{eq-eqb, ne_eqb, ltb-true, ltb-false}
use Rattle.session.specs.Servers.{server, phase_at, is_agreed, beats, choose, Best, IsChoice, is_nobody, other_agreed, same_active, chosen}
use Rattle.session.specs.Servers.{changed, activated, settle}
use Rattle.session.specs.declared.state.Phase.TheVariants.{Closed, Late}
use Rattle.session.specs.declared.state.Server as server_of
use Rattle.std.specs.Prelude.{Option, Some, None}
use Rattle.session.specs.declared.state.Settings.{Settings}
use Rattle.session.specs.declared.state.Delivery.{Delivery}
use Rattle.session.proofs.QueueLaws.{last_cases}
use Rattle.session.proofs.SoundFacts.{same_active_lem}

-- the server to be active is as 01 says it
pub choice : (priorities : List ℕ) (servers : List server_of.Server) (n : ℕ) → IsChoice priorities servers n (choose priorities servers n)
unfolding choose
choice priorities servers zero = λ u l. absurd (omega arith)
choice priorities servers (suc n) =
    go (choose priorities servers n) (choice priorities servers n) (is_agreed (phase_at servers n)) refl _ refl
  where
    agreed : ℕ → Type 0
    agreed u = is_agreed (phase_at servers u) ≡ true

    -- a law of the first n servers and of the next one
    each : (P : ℕ → Type 0) → ((u : ℕ) → u < n → P u) → P n → (u : ℕ) → u < suc n → P u
    each P h k u l = last_cases P n u (omega (arith, l)) (h u) k

    more : (v : ℕ) → Best priorities servers n v → (agreed n → get_or priorities n 0 ≤ get_or priorities v 0)
        → Best priorities servers (suc n) v
    more v b k =
        record {
          inside = omega (arith, b.inside);
          agreed = b.agreed;
          highest = each (λ u. agreed u → get_or priorities u 0 ≤ get_or priorities v 0) b.highest k;
          lowest = b.lowest;
        }

    new : agreed n → ((u : ℕ) → u < n → agreed u → get_or priorities u 0 < get_or priorities n 0) → Best priorities servers (suc n) n
    new a k =
        record {
          inside = omega arith;
          agreed = a;
          highest = each (λ u. agreed u → get_or priorities u 0 ≤ get_or priorities n 0) (λ u l x. omega (arith, k u l x)) (λ x. omega arith);
          lowest = λ u l x e. absurd (omega (arith, k u l x));
        }

    go : (a : Option ℕ) → IsChoice priorities servers n a → (g : Bool) → is_agreed (phase_at servers n) ≡ g → (t : Bool)
        → beats priorities n a ≡ t → IsChoice priorities servers (suc n) (cond (g && t) (Some n) a)
    go None h false p t q = each (λ u. is_agreed (phase_at servers u) ≡ false) h p
    go None h true p true q = new p (λ u l x. absurd (false≢true (sym (h u l) ∙ x)))
    go None h true p false q = absurd (false≢true (sym q))
    go (Some v) h false p t q = more v h (λ x. absurd (false≢true (sym p ∙ x)))
    go (Some v) h true p true q = new p (λ u l x. omega (arith, h.highest u l x, ltb-true (get_or priorities v 0) (get_or priorities n 0) q))
    go (Some v) h true p false q = more v h (λ x. ltb-false (get_or priorities v 0) (get_or priorities n 0) q)

-- where none is agreed nobody is chosen; that none is agreed where nobody is chosen is a case of `choice`
nobody_none : (priorities : List ℕ) (servers : List server_of.Server) (n : ℕ) → ((u : ℕ) → u < n → is_agreed (phase_at servers u) ≡ false)
    → choose priorities servers n ≡ None
nobody_none priorities servers n h = go (choose priorities servers n) refl (choice priorities servers n)
  where
    go : (a : Option ℕ) → choose priorities servers n ≡ a → IsChoice priorities servers n a → choose priorities servers n ≡ None
    go None e k = e
    go (Some v) e k = absurd (false≢true (sym (h v k.inside) ∙ k.agreed))

-- who is chosen is one of the servers
pub chosen_below : (priorities : List ℕ) (servers : List server_of.Server) (n v : ℕ) → choose priorities servers n ≡ Some v → v < n
chosen_below priorities servers n v e = (subst (IsChoice priorities servers n) e (choice priorities servers n)).inside

-- with v late, the others that were agreed are
pub late_phase : (servers : List server_of.Server) (v u : ℕ)
    → is_agreed (phase_at (set servers v (server Late)) u) ≡ not (eqb u v) && is_agreed (phase_at servers u)
late_phase servers v u = go (ℕ_discrete u v)
  where
    gone : (xs : List server_of.Server) (k : ℕ) → is_agreed (phase_at (set xs k (server Late)) k) ≡ false
    gone [] k = refl
    gone (x ∷ xs) zero = refl
    gone (x ∷ xs) (suc k) = gone xs k

    go : Dec (u ≡ v) → is_agreed (phase_at (set servers v (server Late)) u) ≡ not (eqb u v) && is_agreed (phase_at servers u)
    go (yes q) = rw (eq-eqb u v q, q) (gone servers v)
    go (no n) =
        rw (ne_eqb u v n) (ap (λ (x : server_of.Server). is_agreed x.phase) (get_or-set_other servers v u (server Late) (server Closed) n))

-- with v late somebody is chosen exactly where another is agreed
pub other_chosen : (priorities : List ℕ) (servers : List server_of.Server) (v n : ℕ)
    → not (is_nobody (choose priorities (set servers v (server Late)) n)) ≡ other_agreed servers v n
unfolding choose other_agreed
other_chosen priorities servers v zero = refl
other_chosen priorities servers v (suc n) =
    rw (late_phase servers v n, ← other_chosen priorities servers v n)
    (go (not (eqb n v) && is_agreed (phase_at servers n)) (choose priorities (set servers v (server Late)) n))
  where
    one : (b : ℕ) (t : Bool) → not (is_nobody (cond t (Some n) (Some b))) ≡ true
    one b true = refl
    one b false = refl

    go : (g : Bool) (a : Option ℕ) → not (is_nobody (cond (g && beats priorities n a) (Some n) a)) ≡ g || not (is_nobody a)
    go false a = refl
    go true None = refl
    go true (Some b) = one b (ltb (get_or priorities b 0) (get_or priorities n 0))

-- after the choice is made anew it is the servers'
pub settle_choice : (p : Settings) (d : Delivery) → (settle p d).active ≡ chosen p (settle p d)
unfolding settle changed
settle_choice p d = go (same_active (chosen p d) d.active) refl
  where
    go : (b : Bool) → same_active (chosen p d) d.active ≡ b
        → let g = cond (not b) (activated d (chosen p d)) d in g.active ≡ chosen p g
    go true e = sym (same_active_lem (chosen p d) d.active e)
    go false e = refl

-- where every server is closed, each one is
pub each_closed : (m u : ℕ) → phase_at (replicate m (server Closed)) u ≡ Closed
each_closed zero u = refl
each_closed (suc m) zero = refl
each_closed (suc m) (suc u) = each_closed m u

-- and nobody is chosen
pub all_closed : (priorities : List ℕ) (m n : ℕ) → choose priorities (replicate m (server Closed)) n ≡ None
all_closed priorities m n = nobody_none priorities (replicate m (server Closed)) n (λ u l. ap is_agreed (each_closed m u))
