use Rattle.tso_laws.proofs.WellFormed.{well-formed}
use Rattle.tso_laws.proofs.Vocabulary.{◌≡◌, ◌<◌, ℕ, [], Some, slice_get, arith, refl, ap, ◌∙◌, rules, IsTest, sb, sb_choices, n6}
use Rattle.tso_laws.proofs.Vocabulary.{separated_order, loc_x, loc_y, entry, IsStorePart, Entry, R, W, LR, LW, n6_along}
use Rattle.tso_laws.proofs.SoFar.{test-locations}
use Rattle.tso_laws.proofs.Beginnings.{run-is-execution}
use Rattle.tso_laws.proofs.worked.worked_orders.Goals as goal

sb-is-test : IsTest sb
sb-is-test = search rules

n6-is-test : IsTest n6
n6-is-test = search rules

pub returns-clause-sb_is_allowed : goal.returns-clause-sb_is_allowed
returns-clause-sb_is_allowed c = (run-is-execution sb 4 sb_choices (test-locations sb (well-formed sb sb-is-test)) refl).order

pub returns-clause-n6_is_allowed : goal.returns-clause-n6_is_allowed
returns-clause-n6_is_allowed c = (run-is-execution n6 1 n6_along (test-locations n6 (well-formed n6 n6-is-test)) refl).order

pub returns-clause-short_is_not_whole : goal.returns-clause-short_is_not_whole
returns-clause-short_is_not_whole c = λ tso. let count : 3 ≡ 4 = tso.whole.count in absurd (omega arith)

pub returns-clause-turned_breaks_program_order : goal.returns-clause-turned_breaks_program_order
returns-clause-turned_breaks_program_order c = λ tso.
    let less : 3 < 2 = tso.program_order 3 2 (entry 1 0 W loc_y 2) (entry 1 1 W loc_x 2) refl refl refl refl in
    absurd (omega arith)

pub returns-clause-separated_is_not_adjacent : goal.returns-clause-separated_is_not_adjacent
returns-clause-separated_is_not_adjacent c = λ tso.
    let found : (y : Entry) × (slice_get separated_order 1 ≡ Some y) × IsStorePart (entry 0 0 LR loc_x 0) y = tso.adjacent 0 (entry 0 0 LR loc_x 0) refl refl in
    let next : Some (entry 1 0 W loc_x 1) ≡ Some found.0 = found.1 in
    let same : entry 1 0 W loc_x 1 ≡ found.0 = cc in
    let kind : W ≡ LW = ap (λ (e : Entry). e.kind) same ∙ found.2.kind in
    cc

not-0 : (n : ℕ) → n ≡ 0 → 0 < n → ⊥
not-0 n e h = omega arith

pub returns-clause-wrong_has_another_value : goal.returns-clause-wrong_has_another_value
returns-clause-wrong_has_another_value c = λ tso. not-0 1 (tso.read_values [] (entry 0 1 R loc_y 1) _ refl refl) (omega arith)
