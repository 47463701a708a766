-- `copy` meets its contract: octets that do not fit change nothing, others are stored at their place.
use mathlib.Core.List.{List, ◌++◌, append_assoc}
use mathlib.Core.Path.{◌≡◌, sym, ap, ◌∙◌}
use Prim.Native.Nat.{ℕ, ◌+◌, ◌≤◌, ◌-◌}
use native.Mathlib.Omega.{arith}
use lib.ListN.{length, take, drop}
use lib.Seq.{sets-eq, drop-drop}
use borrow.Rule.Slice.PartMut.{put_mid}
use Rattle.numbers.specs.Numbers.{put_at}
use Rattle.numbers.proofs.Stores.{put_fits, put_short}
use Rattle.number_writing.proofs.copy.Goals as goal

-- a part that now holds the octets is those octets stored there
stored : (out octets part : List ℕ) (at : ℕ) → part ≡ octets → at + length octets ≤ length out
    → put_mid at (at + length octets - at) out part ≡ put_at out at octets
stored out octets part at e h =
    let n = length octets in
    let rest : at + (at + n - at) ≡ at + n = omega arith in
    ap (λ (l : List ℕ). put_mid at (at + n - at) out l) e
    ∙ ap (λ (l : List ℕ). take at out ++ (octets ++ l)) (drop-drop (at + n - at) at out ∙ ap (λ (k : ℕ). drop k out) rest)
    ∙ sym (append_assoc (take at out) octets (drop (at + n) out))
    ∙ sym (sets-eq octets out at h)
    ∙ sym (put_fits out at octets h)

pub returns-then-out-at : goal.returns-then-out-at
returns-then-out-at c = sym (put_short _ _ _ (omega arith))

pub returns-then-out-at-2 : goal.returns-then-out-at-2
returns-then-out-at-2 c = sym (put_short _ _ _ (omega arith))

pub returns : goal.returns
returns c = let a = c.args in stored a.out.now a.octets.now _ a.at c.copy_from_slice.ensures.after (omega arith)
