-- Laws of the queue: sums and entries after a put and after a release, sets of servers, the writings, and the list of held records. A put
-- replaces one entry and a release moves all of them to the front, so that sums split there; a set is the bits of a number.
--
use mathlib.Core.Path.{◌≡◌, refl, sym, ap, ◌∙◌}
use mathlib.Core.Logic.{◌≢◌}
use mathlib.Core.Bool.{Bool, true, false, not, ◌&&◌, ◌||◌, false≢true}
use mathlib.Core.List.{List, [], ◌∷◌}
use Prim.Native.Nat.{ℕ, zero, suc, ◌+◌, ◌-◌, ◌/◌, ◌%◌, ◌^◌, ◌≤◌, ◌<◌}
use native.Mathlib.Nat.{add-zero, div_self, div-eq_of_lt, zero-div, mul-div_cancel, mul-mod_left, pow-suc}
use native.Mathlib.Decide.{dec_lt, ℕ_discrete}
use native.Mathlib.Omega.{arith}
use lib.Bits.{bit_or, or_shr, or_mod, or_zero_r, or_lt}
use lib.Dec.{eqb}
use lib.ListN.{length, get_or, set, take, drop, replicate, length-append, length-drop, length-replicate, get_or-append}
use lib.Pow.{pow_pos, pow-lt, pow-add}
use lib.Seq.{get_or-set_same, get_or-set_other, get_or-drop, take-append-le, take-add, take-set-le}
use borrow.Author.Tests.{eqb-true, eqb-false, eq-eqb, ne_eqb, not-true}
use Rattle.octets.proofs.Each.{and_left, and_right}
use Rattle.session.specs.Queue.{Entry, sum_of, has, with, has_other, shifted, record_at, held_from}
use Rattle.session.specs.History.{Writing, any_writing}
use Rattle.session.specs.Claim.{written_to_other, octets_together}
use Rattle.session.specs.declared.state.State.{State}
use Rattle.session.proofs.Arrays.{sum_append, sum_more, other_only}
use Rattle.session.proofs.Rings.{read_length}

-- ---- bools

pub or_elim : {X : Type 0} (a b : Bool) → a || b ≡ true → (a ≡ true → X) → (b ≡ true → X) → X
or_elim true b e f g = f refl
or_elim false b e f g = g e

pub or_right : (a b : Bool) → b ≡ true → a || b ≡ true
or_right true b e = refl
or_right false b e = e

-- bools that hold together are equal
pub iff_same : (a b : Bool) → (a ≡ true → b ≡ true) → (b ≡ true → a ≡ true) → a ≡ b
iff_same true b f g = sym (f refl)
iff_same false true f g = g refl
iff_same false false f g = refl

-- ---- entries

-- below n + 1 is below n, or n
pub last_cases : (P : ℕ → Type 0) (n i : ℕ) → i < n + 1 → (i < n → P i) → P n → P i
last_cases P n i h f g = go (dec_lt i n)
  where
    go : Dec (i < n) → P i
    go (yes l) = f l
    go (no l) = let e : i ≡ n = omega arith in rw e g

-- an entry of a list with entry k replaced
pub set_cases : {A : Type 0} (xs : List A) (x d : A) (P : ℕ → A → Type 0) (k : ℕ) → k < length xs → (i : ℕ)
    → (i ≢ k → P i (get_or xs i d)) → P k x → P i (get_or (set xs k x) i d)
set_cases xs x d P k h i f g = go (ℕ_discrete i k)
  where
    go : Dec (i ≡ k) → P i (get_or (set xs k x) i d)
    go (yes e) = rw (e, get_or-set_same xs k x d h) g
    go (no n) = rw (get_or-set_other xs k i x d n) (f n)

-- after a release of n
pub shifted_length : (xs : List ℕ) (n : ℕ) → n ≤ length xs → length (shifted xs n) ≡ length xs
shifted_length xs n h = omega (arith, length-append (drop n xs) (replicate n 0), length-drop n xs, length-replicate {A = ℕ} n 0)

pub shifted_at : (xs : List ℕ) (n i : ℕ) → n + i < length xs → get_or (shifted xs n) i 0 ≡ get_or xs (n + i) 0
shifted_at xs n i h = get_or-append (drop n xs) (replicate n 0) 0 i (omega (arith, length-drop n xs)) ∙ get_or-drop n xs i 0

-- ---- sums

-- an entry fits into the sum
pub sum_upto : (xs : List ℕ) (i n : ℕ) → i < n → n ≤ length xs → sum_of (take i xs) + get_or xs i 0 ≤ sum_of (take n xs)
unfolding sum_of
sum_upto [] i n h l = let z : ⊥ = omega arith in absurd z
sum_upto (x ∷ xs) i zero h l = let z : ⊥ = omega arith in absurd z
sum_upto (x ∷ xs) zero (suc n) h l = omega arith
sum_upto (x ∷ xs) (suc i) (suc n) h l = omega (arith, sum_upto xs i n (omega arith) (omega arith))

-- after a put at place k
pub sum_set : (xs : List ℕ) (k x i : ℕ) → i ≤ k → sum_of (take i (set xs k x)) ≡ sum_of (take i xs)
sum_set xs k x i h = ap sum_of (take-set-le i xs k x h)

-- after a release of n
pub sum_shifted : (xs : List ℕ) (n i : ℕ) → n + i ≤ length xs → sum_of (take n xs) + sum_of (take i (shifted xs n)) ≡ sum_of (take (n + i) xs)
sum_shifted xs n i h =
    rw (take-append-le i (drop n xs) (replicate n 0) (simp length-drop (omega arith)), take-add n i xs)
    (sym (sum_append (take n xs) (take i (drop n xs))))

-- ---- sets of servers

-- bit j of 2 to the v
bit_same : (j : ℕ) → 2 ^ j / 2 ^ j % 2 ≡ 1
bit_same j = ap (λ (x : ℕ). x % 2) (div_self (pow_pos j))

bit_other : (v j : ℕ) → v ≢ j → 2 ^ v / 2 ^ j % 2 ≡ 0
bit_other v j n = go (dec_lt v j)
  where
    go : Dec (v < j) → 2 ^ v / 2 ^ j % 2 ≡ 0
    go (yes l) = ap (λ (x : ℕ). x % 2) (div-eq_of_lt (pow-lt l))
    go (no l) =
        let k : ℕ = v - suc j in
        let e : v ≡ suc k + j = omega arith in
        ap (λ (x : ℕ). 2 ^ x / 2 ^ j % 2) e
        ∙ ap (λ (x : ℕ). x / 2 ^ j % 2) (pow-add 2 (suc k) j)
        ∙ ap (λ (x : ℕ). x % 2) (mul-div_cancel (2 ^ suc k) (pow_pos j))
        ∙ ap (λ (x : ℕ). x % 2) (pow-suc 2 k)
        ∙ mul-mod_left (2 ^ k) 2

or_one : (x : ℕ) → x < 2 → bit_or x 1 ≡ 1
or_one zero h = refl
or_one (suc zero) h = refl
or_one (suc (suc x)) h = let z : ⊥ = omega arith in absurd z

-- a set with one more server
pub has_with : (m v j : ℕ) → has (with m v) j ≡ eqb v j || has m j
unfolding has
has_with m v j =
    ap (λ (x : ℕ). eqb (x % 2) 1) (or_shr m (2 ^ v) j)
    ∙ ap (λ (x : ℕ). eqb x 1) (or_mod (m / 2 ^ j) (2 ^ v / 2 ^ j) 1)
    ∙ go (ℕ_discrete v j)
  where
    go : Dec (v ≡ j) → eqb (bit_or (m / 2 ^ j % 2) (2 ^ v / 2 ^ j % 2)) 1 ≡ eqb v j || eqb (m / 2 ^ j % 2) 1
    go (yes e) = rw (e, bit_same j, or_one (m / 2 ^ j % 2) (omega arith), eq-eqb j j refl)
    go (no n) = rw (bit_other v j n, or_zero_r (m / 2 ^ j % 2), ne_eqb v j n)

-- nobody is in the set 0
pub has_zero : (j : ℕ) → has 0 j ≡ false
unfolding has
has_zero j = rw (zero-div (2 ^ j))

-- a set with v is not empty
with_some : (m v : ℕ) → with m v ≢ 0
with_some m v e =
    false≢true (sym (has_zero v) ∙ ap (λ (x : ℕ). has x v) (sym e) ∙ has_with m v v ∙ rw (eq-eqb v v refl) refl)

-- a server other than v is in a set with v exactly where it is in the set
other_with : (k v m : ℕ) → has_other k v m ≡ has_other k v (with m v)
unfolding has_other
other_with zero v m = refl
other_with (suc k) v m = rw (has_with m v k, ← other_with k v m) (go (ℕ_discrete k v))
  where
    go : Dec (k ≡ v)
        → (not (eqb k v) && has m k) || has_other k v m ≡ (not (eqb k v) && (eqb v k || has m k)) || has_other k v m
    go (yes e) = rw (eq-eqb k v e)
    go (no n) = rw (ne_eqb k v n, ne_eqb v k (λ y. n (sym y)))

-- a set of the first n servers has another one than v exactly where the set with v is not v alone; it has k bits, that of v among them
pub other_beside : (n k v m : ℕ) → m < 2 ^ n → m < 2 ^ k → v < k → has_other n v m ≡ not (eqb (with m v) (2 ^ v))
other_beside n k v m h l b =
    other_only n v m h
    ∙ sym (other_only k v m l)
    ∙ other_with k v m
    ∙ other_only k v (with m v) (or_lt k m (2 ^ v) l (pow-lt {j = k} b))
    ∙ rw (ne_eqb (with m v) 0 (with_some m v)) refl

-- a server other than v that is in the set
other_some : (n v m : ℕ) → has_other n v m ≡ true → (u : ℕ) × (u ≢ v) × (has m u ≡ true)
unfolding has_other
other_some zero v m e = absurd (false≢true e)
other_some (suc n) v m e =
    or_elim (not (eqb n v) && has m n) (has_other n v m) e
    (λ z. (n, eqb-false n v (not-true (eqb n v) (and_left (not (eqb n v)) (has m n) z)), and_right (not (eqb n v)) (has m n) z))
    (other_some n v m)

other_found : (n v m u : ℕ) → u < n → u ≢ v → has m u ≡ true → has_other n v m ≡ true
unfolding has_other
other_found zero v m u h k e = let z : ⊥ = omega arith in absurd z
other_found (suc n) v m u h k e = go (ℕ_discrete u n) (λ b. other_found n v m u b k e)
  where
    go : Dec (u ≡ n) → (u < n → has_other n v m ≡ true) → (not (eqb n v) && has m n) || has_other n v m ≡ true
    go (yes z) ih = rw (ne_eqb n v (λ y. k (z ∙ y)), ← z, e)
    go (no z) ih = or_right (not (eqb n v) && has m n) (has_other n v m) (ih (omega arith))

-- ---- writings

-- a writing that passes a test, and by which any other test that it passes is passed too
pub record Found (test : Writing → Bool) (ws : List Writing) : Type 0 where
  pub writing : Writing
  pub passes : test writing ≡ true
  pub among : (other : Writing → Bool) → other writing ≡ true → any_writing other ws ≡ true

pub find_writing : (test : Writing → Bool) (ws : List Writing) → any_writing test ws ≡ true → Found test ws
unfolding any_writing
find_writing test [] e = absurd (false≢true e)
find_writing test (x ∷ ws) e =
    or_elim (test x) (any_writing test ws) e
    (λ z. record { writing = x; passes = z; among = λ other y. rw y refl })
    (λ z.
    let f = find_writing test ws z in
    record { writing = f.writing; passes = f.passes; among = λ other y. or_right (other x) (any_writing other ws) (f.among other y) })

-- place q was written to server v
abbrev pub written_to : List Writing → ℕ → ℕ → Bool
written_to ws q v = any_writing (λ x. eqb x.place q && eqb x.server v) ws

-- a server other than v that place q was written to
written_other_some : (ws : List Writing) (q v : ℕ) → written_to_other ws q v ≡ true → (u : ℕ) × (u ≢ v) × (written_to ws q u ≡ true)
written_other_some ws q v e =
    let f = find_writing (λ x. eqb x.place q && not (eqb x.server v)) ws e in
    let p = eqb f.writing.place q in
    let u = f.writing.server in (
      u,
      eqb-false u v (not-true (eqb u v) (and_right p (not (eqb u v)) f.passes)),
      f.among (λ x. eqb x.place q && eqb x.server u) (rw (and_left p (not (eqb u v)) f.passes, eq-eqb u u refl) refl),
    )

written_other_found : (ws : List Writing) (q v u : ℕ) → u ≢ v → written_to ws q u ≡ true → written_to_other ws q v ≡ true
written_other_found ws q v u n e =
    let f = find_writing (λ x. eqb x.place q && eqb x.server u) ws e in
    let p = eqb f.writing.place q in
    let s = f.writing.server in
    let same : s ≡ u = eqb-true s u (and_right p (eqb s u) f.passes) in
    f.among (λ x. eqb x.place q && not (eqb x.server v))
    (rw (and_left p (eqb s u) f.passes, ne_eqb s v (λ y. n (sym same ∙ y))) refl)

-- where the set has the servers that place q was written to, D is the same by both
pub duplicate_same : (n v m : ℕ) (ws : List Writing) (q : ℕ) → ((u : ℕ) → has m u ≡ written_to ws q u)
    → ((u : ℕ) → written_to ws q u ≡ true → u < n) → has_other n v m ≡ written_to_other ws q v
duplicate_same n v m ws q same below =
    iff_same (has_other n v m) (written_to_other ws q v)
    (λ e. let y = other_some n v m e in written_other_found ws q v y.0 y.1 (sym (same y.0) ∙ y.2))
    (λ e. let y = written_other_some ws q v e in other_found n v m y.0 (below y.0 y.2) y.1 (same y.0 ∙ y.2))

-- ---- the held records

abbrev pub no_entry : Entry
no_entry = record { template = 0; octets = [] }

-- the record at place i of the queue
abbrev pub held_at : State → List ℕ → ℕ → Entry
held_at s store i = record { template = get_or s.queue.templates i 0; octets = record_at s store i }

pub held_length : (s : State) (store : List ℕ) (i n : ℕ) → length (held_from s store i n) ≡ n
unfolding held_from
held_length s store i zero = refl
held_length s store i (suc n) = ap suc (held_length s store (i + 1) n)

pub held_at_lem : (s : State) (store : List ℕ) (i n j : ℕ) → j < n → get_or (held_from s store i n) j no_entry ≡ held_at s store (i + j)
unfolding held_from
held_at_lem s store i zero j h = let z : ⊥ = omega arith in absurd z
held_at_lem s store i (suc n) zero h = rw add-zero refl
held_at_lem s store i (suc n) (suc j) h =
    let e : i + 1 + j ≡ i + suc j = omega arith in
    rw (← e) (held_at_lem s store (i + 1) n j (omega arith))

pub held_octets_lem : (s : State) (store : List ℕ) (i n : ℕ) → i + n ≤ length s.queue.lengths
    → sum_of (take i s.queue.lengths) + octets_together (held_from s store i n) ≡ sum_of (take (i + n) s.queue.lengths)
unfolding held_from octets_together record_at
held_octets_lem s store i zero h = rw (add-zero i) (omega arith)
held_octets_lem s store i (suc n) h =
    let xs = s.queue.lengths in
    let e : i + 1 + n ≡ i + suc n = omega arith in
    let o : ℕ = octets_together (held_from s store (i + 1) n) in
    rw (read_length, ← e, ← held_octets_lem s store (i + 1) n (omega arith))
    (omega (arith, sum_more xs i (omega arith)))
