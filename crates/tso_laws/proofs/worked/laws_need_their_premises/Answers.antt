use Rattle.tso_laws.proofs.Vocabulary.{◌≡◌, ◌<◌, ℕ, zero, suc, [], ◌∷◌, arith, refl, inl, inr, entry, loc_x, loc_y, R, W, IsRound, one_round}
use Rattle.tso_laws.proofs.worked.laws_need_their_premises.Goals as goal

pub returns-clause-wordless_is_refuted : goal.returns-clause-wordless_is_refuted
returns-clause-wordless_is_refuted c = λ tso.
    let due : ◌≡◌ {A = ℕ} 0 1 = tso.read_values (entry 0 0 W loc_x 1 ∷ []) (entry 0 1 R loc_x 0) [] refl refl in absurd (omega arith)

is-round : IsRound 1 one_round
is-round zero l = (inr (inl refl), inl refl)
is-round (suc k) l = absurd (omega arith)

pub returns-clause-one_round_is_cut : goal.returns-clause-one_round_is_cut
returns-clause-one_round_is_cut c = (one_round, [], refl, is-round, tt)

pub returns-clause-buffered_is_not_sequential : goal.returns-clause-buffered_is_not_sequential
returns-clause-buffered_is_not_sequential c = λ kept.
    let less : 2 < 0 = kept 2 0 (entry 0 0 W loc_x 1) (entry 0 1 R loc_y 0) refl refl refl in absurd (omega arith)
