use Rattle.tso_laws.proofs.BusVocabulary.{◌≡◌, ◌<◌, ℕ, zero, suc, [], ◌∷◌, arith, refl, inl, inr, entry, choices_in, loc_x, loc_y, R, W, LR}
use Rattle.tso_laws.proofs.BusVocabulary.{LW, IsRound, one_round}
use Rattle.tso_laws.proofs.worked_split.split_laws_need_their_premises.Goals as goal

pub returns-clause-store_between_is_refuted : goal.returns-clause-store_between_is_refuted
returns-clause-store_between_is_refuted c = λ tso.
    let due : ◌≡◌ {A = ℕ} 0 1 = tso.read_values (entry 1 0 W loc_x 1 ∷ []) (entry 0 0 LR loc_x 0) (entry 0 0 LW loc_x 1 ∷ []) refl refl in absurd (omega arith)

pub returns-clause-store_between_does_not_fit : goal.returns-clause-store_between_does_not_fit
returns-clause-store_between_does_not_fit c = λ h. h.1.1.1.0 loc_x refl refl (λ q. omega arith) refl

is-round : IsRound 1 (choices_in one_round)
is-round zero l = (inr (inl refl), inl refl)
is-round (suc k) l = absurd (omega arith)

pub returns-clause-two_rounds_are_cut : goal.returns-clause-two_rounds_are_cut
returns-clause-two_rounds_are_cut c = (choices_in one_round, _, refl, is-round, (choices_in one_round, [], refl, is-round, tt))

pub returns-clause-buffered_is_not_sequential : goal.returns-clause-buffered_is_not_sequential
returns-clause-buffered_is_not_sequential c = λ kept.
    let less : 2 < 0 = kept 2 0 (entry 0 0 W loc_x 1) (entry 0 1 R loc_y 0) refl refl refl in absurd (omega arith)
