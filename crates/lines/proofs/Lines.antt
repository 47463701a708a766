-- Laws of a line's parts: digits stored one by one are the parts that the definitions name. Each part says where it ends and keeps the
-- text's length, so that the next can be stored behind it.
use mathlib.Core.Path.{◌≡◌, refl, sym, ap, ◌∙◌}
use mathlib.Core.List.{List, [], ◌∷◌, ◌++◌, append_assoc}
use Prim.Native.Nat.{ℕ, suc, ◌+◌, ◌*◌, ◌/◌, ◌%◌, ◌≤◌, ◌<◌}
use native.Mathlib.Nat.{add-zero}
use native.Mathlib.Numerals.{add-one}
use native.Mathlib.Omega.{arith}
use borrow.Author.Tests.{lt-ltb, le-ltb, le-leb, lt-leb}
use lib.ListN.{length, get_or, set, drop, length-append, drop_of_length-le}
use lib.Seq.{sets, length-sets, drop-cons}
use lib.Dec.{ltb}
use Rattle.octets.specs.Numbers.{octets_in, octets_of, put_at}
use Rattle.octets.proofs.Stores.{cond_cases, put_fits, sets_then, put_then}
use Rattle.lines.specs.Lines.{space, newline, digit, decimal, hex, written_text, line_of, number_digits, line_octets, fitted, Stored}
use Rattle.lines.specs.Lines.{Printed}

-- A number in decimal was stored at a place, and the place behind it answered.
abbrev pub Spelt : List ℕ → ℕ → ℕ → ℕ → List ℕ → Type 0
Spelt text at n = Stored text at (decimal n)

pub one_digit : (text : List ℕ) (at n d : ℕ) → n < 10 → d ≡ digit (n % 10) → Spelt text at n (at + 1) (set text at d)
unfolding decimal
one_digit text at n d h e =
    let m : n % 10 ≡ n = omega arith in
    rw (lt-ltb n 10 h) (refl, ap (set text at) (rw (lt-ltb n 10 h) at (e ∙ ap digit m)))

pub two_digits : (text : List ℕ) (at n c d : ℕ) → 10 ≤ n → n < 100 → c ≡ digit (n / 10 % 10) → d ≡ digit (n % 10)
    → Spelt text at n (at + 2) (set (set text at c) (at + 1) d)
unfolding decimal
two_digits text at n c d l h e f =
    let m : n / 10 % 10 ≡ n / 10 = omega arith in
    rw (le-ltb n 10 l, lt-ltb n 100 h) (refl, rw (f, e ∙ ap digit m, add-one at) refl)

pub three_digits : (text : List ℕ) (at n b c d : ℕ) → 100 ≤ n → b ≡ digit (n / 100 % 10) → c ≡ digit (n / 10 % 10) → d ≡ digit (n % 10)
    → Spelt text at n (at + 3) (set (set (set text at b) (at + 1) c) (at + 2) d)
unfolding decimal
three_digits text at n b c d l e f g =
    let ten : 10 ≤ n = omega arith in
    let two : at + 2 ≡ suc (suc at) = omega arith in
    rw (le-ltb n 10 ten, le-ltb n 100 l) (refl, rw (g, f, e, two, add-one at) refl)

-- a number below 1,000 has one to three digits, and storing it keeps the length
pub decimal_length : (n : ℕ) → length (decimal n) ≤ number_digits
unfolding decimal
decimal_length n =
    cond_cases (λ (l : List ℕ). length l ≤ number_digits) (ltb n 10) _ _ (λ e. omega arith)
    (λ e. cond_cases (λ (l : List ℕ). length l ≤ number_digits) (ltb n 100) _ _ (λ f. omega arith) (λ f. omega arith))

pub spelt_bounds : (text : List ℕ) (at n place : ℕ) (after : List ℕ) → Spelt text at n place after
    → (place ≤ at + number_digits) × (length after ≡ length text)
spelt_bounds text at n place after s =
    (omega (arith, s.0, decimal_length n), ap length s.1 ∙ length-sets text at (decimal n))

-- ---- hex

-- two digits an octet
pub hex_length : (octets : List ℕ) → length (hex octets) ≡ 2 * length octets
unfolding hex
hex_length [] = refl
hex_length (x ∷ octets) = let e = hex_length octets in omega (arith, e)

-- the digits of the octet at i are stored, and those behind it are left
pub hex_step : (text : List ℕ) (at : ℕ) (octets : List ℕ) (i a b : ℕ) → i < length octets
    → a ≡ digit (get_or octets i 0 / 16 % 16) → b ≡ digit (get_or octets i 0 % 16)
    → sets (set (set text (at + 2 * i) a) (at + 2 * i + 1) b) (at + 2 * (i + 1)) (hex (drop (i + 1) octets))
    ≡ sets text (at + 2 * i) (hex (drop i octets))
unfolding hex
hex_step text at octets i a b h e f =
    let next : at + 2 * (i + 1) ≡ suc (suc (at + 2 * i)) = omega arith in
    rw (next, drop-cons octets i 0 h, add-one i, add-one (at + 2 * i), e, f) refl

-- none are left
pub hex_done : (text : List ℕ) (k : ℕ) (octets : List ℕ) (i : ℕ) → length octets ≤ i → sets text k (hex (drop i octets)) ≡ text
unfolding hex
hex_done text k octets i h = rw (drop_of_length-le octets h) refl

-- ---- what was written, and the line

-- A space and the digits of some octets were stored at a place, or nothing where there are none.
abbrev pub Shown : List ℕ → ℕ → List ℕ → ℕ → List ℕ → Type 0
Shown text at octets = Stored text at (written_text octets)

pub nothing_shown : (text : List ℕ) (at : ℕ) (octets : List ℕ) → length octets ≡ 0 → Shown text at octets at text
nothing_shown text at [] e = (sym (add-zero at), refl)
nothing_shown text at (x ∷ octets) e = absurd (omega arith)

pub some_shown : (text : List ℕ) (at : ℕ) (octets first after : List ℕ) → (length octets ≡ 0 → ⊥) → at + 1 ≤ length text
    → first ≡ put_at text at (octets_of 1 space) → after ≡ sets first (at + 1) (hex octets)
    → Shown text at octets (at + 1 + 2 * length octets) after
unfolding octets_in
some_shown text at [] first after h l f e = absurd (h refl)
some_shown text at (x ∷ octets) first after h l f e =
    let n = hex_length (x ∷ octets) in
    (omega (arith, n), e ∙ rw (f ∙ put_fits text at (space ∷ []) l, add-one at) refl)

pub shown_bounds : (text : List ℕ) (at : ℕ) (octets : List ℕ) (place : ℕ) (after : List ℕ) → Shown text at octets place after
    → (place ≤ at + 1 + 2 * length octets) × (length after ≡ length text)
shown_bounds text at [] place after s = (omega (arith, s.0), ap length s.1)
shown_bounds text at (x ∷ octets) place after s =
    (omega (arith, s.0, hex_length (x ∷ octets)), ap length s.1 ∙ length-sets text at (written_text (x ∷ octets)))

-- the parts of a line, each stored behind the one before it
pub line_joined : (text octets t₁ t₂ t₃ t₄ t₅ : List ℕ) (p a first second last : ℕ) → line_octets (length octets) ≤ length text
    → Spelt text 0 p first t₁ → t₂ ≡ put_at t₁ first (octets_of 1 space) → Spelt t₂ (first + 1) a second t₃
    → Shown t₃ second octets last t₄ → t₅ ≡ put_at t₄ last (octets_of 1 newline)
    → (last + 1 ≡ length (line_of p a octets)) × (t₅ ≡ sets text 0 (line_of p a octets))
unfolding octets_in line_of
line_joined text octets t₁ t₂ t₃ t₄ t₅ p a first second last h s₁ e₂ s₃ s₄ e₅ =
    let d = decimal p in
    let sp : List ℕ = space ∷ [] in
    let da = decimal a in
    let w = written_text octets in
    let b₁ = spelt_bounds text 0 p first t₁ s₁ in
    let b₃ = spelt_bounds t₂ (first + 1) a second t₃ s₃ in
    let b₄ = shown_bounds t₃ second octets last t₄ s₄ in
    let l₁ : length d ≡ first = omega (arith, s₁.0) in
    let n₂ = length-append d sp in
    let n₃ = length-append (d ++ sp) da in
    let n₄ = length-append ((d ++ sp) ++ da) w in
    let n₅ = length-append (((d ++ sp) ++ da) ++ w) (newline ∷ []) in
    let m₁ = decimal_length p in
    let m₃ = decimal_length a in
    let j₂ = e₂ ∙ put_then text d sp t₁ first s₁.1 l₁ (omega arith) in
    let j₃ = s₃.1 ∙ sets_then text (d ++ sp) da t₂ (first + 1) j₂ (omega (arith, n₂, l₁)) in
    let j₄ = s₄.1 ∙ sets_then text ((d ++ sp) ++ da) w t₃ second j₃ (omega (arith, n₃, n₂, l₁, s₃.0)) in
    let l₄ : length (((d ++ sp) ++ da) ++ w) ≡ last = omega (arith, n₄, n₃, n₂, l₁, s₃.0, s₄.0) in
    let j₅ = e₅ ∙ put_then text (((d ++ sp) ++ da) ++ w) (newline ∷ []) t₄ last j₄ l₄ (omega (arith, b₄.0, s₃.0, l₁, m₁, m₃)) in
    let q = ap (λ (l : List ℕ). (l ++ w) ++ (newline ∷ [])) (append_assoc d sp da) in
    (omega (arith, n₅, l₄) ∙ ap length q, j₅ ∙ ap (sets text 0) q)

-- ---- a line where there is room for it

-- a text with room takes the line
pub printed_whole : (text line : List ℕ) (need len : ℕ) (after : List ℕ) → need ≤ length text
    → Printed text (fitted (length text) need line) len after → Printed text line len after
printed_whole text line need len after h p = rw (le-leb need (length text) h) at p

pub whole_printed : (text line : List ℕ) (need len : ℕ) (after : List ℕ) → need ≤ length text
    → Printed text line len after → Printed text (fitted (length text) need line) len after
whole_printed text line need len after h p = rw (le-leb need (length text) h) p

-- one without room takes nothing
pub printed_none : (text line : List ℕ) (need : ℕ) → length text < need → Printed text (fitted (length text) need line) 0 text
printed_none text line need h = rw (lt-leb need (length text) h) (refl, refl)
