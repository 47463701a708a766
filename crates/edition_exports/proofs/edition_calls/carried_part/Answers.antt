-- `carried_part` meets its contract: a DATA that is not refused has 16 octets and a TMPL DATA 8, what lies behind them is the part, and no
-- other message has one.
use mathlib.Core.List.{List}
use mathlib.Core.Path.{◌≡◌, sym, ap, ◌∙◌}
use Prim.Native.Nat.{ℕ, ◌-◌, ◌≤◌}
use native.Mathlib.Omega.{arith}
use borrow.Author.Tests.{leb-true}
use lib.ListN.{length}
use Rattle.octets.specs.Answers.{done}
use Rattle.octets.proofs.Stores.{take_rest}
use Rattle.messages.specs.Messages.{message_number, read_answer, data_number, data_head_length, body_fits}
use Rattle.messages.proofs.Messages.{readable, part_of_data, part_of_table, part_of_other}
use Rattle.edition_exports.proofs.edition_calls.carried_part.Goals as goal

-- a DATA that is not refused has its 16 octets
data_long : (m : List ℕ) → read_answer m ≡ done → message_number m ≡ data_number → data_head_length ≤ length m
unfolding body_fits
data_long m h e =
    let r = readable m h in
    let fits = leb-true 8 (length m - 8) (sym (ap (λ (n : ℕ). body_fits n (length m - 8)) e) ∙ r.fits) in
    omega (arith, r.long, fits)

pub slice_bounds-result-count : goal.slice_bounds-result-count
slice_bounds-result-count c = data_long _ c.requires (sym c.get-number.ensures ∙ c.if-number-eq-DATA.true)

pub slice_bounds-result-start : goal.slice_bounds-result-start
slice_bounds-result-start c =
    let long = data_long _ c.requires (sym c.get-number.ensures ∙ c.if-number-eq-DATA.true) in
    omega arith

pub returns-then-number-eq-DATA : goal.returns-then-number-eq-DATA
returns-then-number-eq-DATA c =
    let m = c.args.message.now in
    let p = part_of_data m c.requires (sym c.get-number.ensures ∙ c.if-number-eq-DATA.true) in
    take_rest m 16 ∙ sym p.1

pub slice_bounds-result-count-then-number-eq-TMPL_DATA : goal.slice_bounds-result-count-then-number-eq-TMPL_DATA
slice_bounds-result-count-then-number-eq-TMPL_DATA c = (readable _ c.requires).long

pub slice_bounds-result-start-then-number-eq-TMPL_DATA : goal.slice_bounds-result-start-then-number-eq-TMPL_DATA
slice_bounds-result-start-then-number-eq-TMPL_DATA c =
    let long = (readable _ c.requires).long in
    omega arith

pub returns-then-number-eq-TMPL_DATA : goal.returns-then-number-eq-TMPL_DATA
returns-then-number-eq-TMPL_DATA c =
    let m = c.args.message.now in
    let p = part_of_table m c.requires (sym c.get-number.ensures ∙ c.if-number-eq-TMPL_DATA.true) in
    take_rest m 8 ∙ sym p.1

pub returns : goal.returns
returns c =
    let number = c.get-number.ensures in
    let p = part_of_other _ (λ e. c.if-number-eq-DATA.false (number ∙ e)) (λ e. c.if-number-eq-TMPL_DATA.false (number ∙ e)) in
    sym p.1
