-- `all_zero` meets its contract: a test that every octet of a part passes is one that the octet at each place of it passes.
use mathlib.Core.List.{List}
use mathlib.Core.Path.{◌≡◌, ap, ◌∙◌}
use Prim.Native.Nat.{ℕ, ◌+◌, ◌-◌, ◌≤◌}
use native.Mathlib.Omega.{arith}
use Rattle.std.proofs.Common.{rules, tests}
use Rattle.std.proofs.lemmas.Iterator.{YieldsList-from_slice}
use Rattle.std.proofs.lemmas.Iterator.Search.{all_from_yields_List}
use lib.Dec.{eqb}
use lib.ListN.{length, get_or, take, drop, length-drop}
use lib.Seq.{length-take-le, get_or-take, get_or-drop}
use Rattle.octets.specs.Each.{every}
use Rattle.octets.proofs.Each.{every_listed, every_same}
use Rattle.tables.proofs.table.all_zero.Goals as goal

-- the octets of a part are those at its places
part_zero : (t : List ℕ) (at n : ℕ) → at + n ≤ length t
    → every (length (take (at + n - at) (drop at t))) (λ i. eqb (get_or (take (at + n - at) (drop at t)) i 0) 0)
    ≡ every n (λ i. eqb (get_or t (at + i) 0) 0)
part_zero t at n h =
    let part = take (at + n - at) (drop at t) in
    let size : length part ≡ n = length-take-le (at + n - at) (drop at t) (omega (arith, length-drop at t)) ∙ omega arith in
    ap (λ (k : ℕ). every k (λ i. eqb (get_or part i 0) 0)) size
    ∙ every_same n (λ i. eqb (get_or part i 0) 0) (λ i. eqb (get_or t (at + i) 0) 0)
    (λ i l. ap (λ (x : ℕ). eqb x 0) (get_or-take (at + n - at) (drop at t) i 0 (omega arith) ∙ get_or-drop at t i 0))

pub returns : goal.returns
returns c =
    let a = c.args in
    let part = take (a.at + a.n - a.at) (drop a.at a.t.now) in
    all_from_yields_List (λ x. eqb x 0) _ _ _ c.all.ensures.ran (YieldsList-from_slice part cc) (λ x b q k. search (rules, tests))
    ∙ every_listed (λ x. eqb x 0) part
    ∙ part_zero a.t.now a.at a.n (omega arith)
