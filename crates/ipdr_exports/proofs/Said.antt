-- Laws of numbers picked from a list: zeros behind it say nothing, and the first four can be left out.
use mathlib.Core.Path.{◌≡◌, refl, sym, ap, ◌∙◌}
use mathlib.Core.List.{List, [], ◌∷◌, ◌++◌}
use Prim.Native.Nat.{ℕ, zero, suc, ◌-◌, ◌≤◌}
use native.Mathlib.Omega.{arith}
use lib.ListN.{get_or, replicate}
use Rattle.ipdr.specs.declared.message.Content.{Content}
use Rattle.ipdr_exports.specs.Said.{content_numbers}

zeros : (n i : ℕ) → get_or (replicate {A = ℕ} n 0) i 0 ≡ 0
zeros zero i = refl
zeros (suc n) zero = refl
zeros (suc n) (suc i) = zeros n i

-- what stands behind a list's end is 0, as are zeros there
padded : (vs : List ℕ) (n i : ℕ) → get_or (vs ++ replicate {A = ℕ} n 0) i 0 ≡ get_or vs i 0
padded [] n i = zeros n i
padded (v ∷ vs) n zero = refl
padded (v ∷ vs) n (suc i) = padded vs n i

-- numbers that a message says, and zeros behind them
pub said_padded : (c x : Content) (r : List ℕ) (n : ℕ) → c ≡ x → r ≡ content_numbers x ++ replicate {A = ℕ} n 0
    → (i : ℕ) → get_or r i 0 ≡ get_or (content_numbers c) i 0
said_padded c x r n e h i =
    ap (λ (l : List ℕ). get_or l i 0) h ∙ padded (content_numbers x) n i ∙ ap (λ (k : Content). get_or (content_numbers k) i 0) (sym e)

-- behind four numbers
pub behind_four : (a b c d : ℕ) (vs : List ℕ) (i : ℕ) → 4 ≤ i → get_or (a ∷ b ∷ c ∷ d ∷ vs) i 0 ≡ get_or vs (i - 4) 0
behind_four a b c d vs zero h = absurd (omega arith)
behind_four a b c d vs (suc zero) h = absurd (omega arith)
behind_four a b c d vs (suc (suc zero)) h = absurd (omega arith)
behind_four a b c d vs (suc (suc (suc zero))) h = absurd (omega arith)
behind_four a b c d vs (suc (suc (suc (suc i)))) h = ap (λ (k : ℕ). get_or vs k 0) (omega arith)
