-- Conditions are read as they are spelled.
use Rattle.litmus_reader.proofs.Vocabulary.{◌≡◌, ℕ, ◌≤◌, false, List, [], ◌∷◌, ◌++◌, length, None, Ok, refl, sym, ap, subst, ◌∙◌, ◌⊎◌, inl}
use Rattle.litmus_reader.proofs.Vocabulary.{inr, append_assoc, codes, Quantifier, Exists, NotExists, Forall, Stop, And, Or, Tilde, Term}
use Rattle.litmus_reader.proofs.Vocabulary.{name, symbol, Piece, is_symbol, is_symbol_term, symbol_at, name_at, most_open, there, or_unfit}
use Rattle.litmus_reader.proofs.Vocabulary.{word_after, Conditioned, conditioned, quantified, condition_at, proposition_at, terms, IsUnit}
use Rattle.litmus_reader.proofs.Vocabulary.{IsProposition, IsWithin, IsQuantifier, says_exists, says_forall, says_not_exists, IsCondition}
use Rattle.litmus_reader.proofs.Vocabulary.{condition, Phrase, part_of, BadCondition}
use Rattle.litmus_reader.proofs.GrammarTokens.{there_is, ok_is, bind_ok, or_unfit_ok, opened, symbol_takes, word_taken}
use Rattle.litmus_reader.proofs.GrammarConditions.{proposition_again, proposition_spelled}
use Rattle.litmus_reader.proofs.Readings.{with_claim, condition_by, ReadsCondition, SpellsCondition, ReadsNone}
use Rattle.litmus_reader.proofs.GrammarPhrases.{begins_with}

-- ---- found

quantified_found : (stop : Stop) (cores : ℕ) (quantifier : Quantifier) (names : List (List ℕ)) (ps : List Piece) (us back : List Term) (p : Phrase)
    → IsProposition (IsUnit most_open) us p
    → IsWithin cores 0 names p
    → terms ps ≡ us ++ back
    → begins_with (is_symbol_term And) back ≡ false
    → begins_with (is_symbol_term Or) back ≡ false
    → ReadsCondition (quantified stop cores quantifier names ps) names quantifier p back
unfolding quantified
quantified_found stop cores quantifier names ps us back p is within e no_and no_or =
    let f = proposition_again stop cores most_open 0 names ps us back p is within e no_and no_or in
    let whole : quantified stop cores quantifier names ps ≡ Ok (condition_by names quantifier p f.rest) = rw f.is refl in
    record { rest = f.rest; is = whole; after_it = f.after_it }

after_quantifier : (stop : Stop) (cores : ℕ) (names : List (List ℕ)) (ps : List Piece) (ts us : List Term)
    (quantifier : Quantifier)
    → IsQuantifier ts quantifier
    → terms ps ≡ ts ++ us
    → (rest : List Piece) × (condition_at stop cores names ps ≡ quantified stop cores quantifier names rest) × (terms rest ≡ us)
unfolding condition_at word_after name_at symbol_at is_symbol
after_quantifier stop cores names ps _ us _ says_exists e =
    opened (λ ps.
    (rest : List Piece)
    × (condition_at stop cores names ps ≡ quantified stop cores Exists names rest)
    × (terms rest ≡ us))
    ps (name (codes "exists")) us e
    (λ p rest is after_it. (rest, rw is refl, after_it))
after_quantifier stop cores names ps _ us _ says_forall e =
    opened (λ ps.
    (rest : List Piece)
    × (condition_at stop cores names ps ≡ quantified stop cores Forall names rest)
    × (terms rest ≡ us))
    ps (name (codes "forall")) us e
    (λ p rest is after_it. (rest, rw is refl, after_it))
after_quantifier stop cores names ps _ us _ says_not_exists e =
    opened (λ ps.
    (rest : List Piece)
    × (condition_at stop cores names ps ≡ quantified stop cores NotExists names rest)
    × (terms rest ≡ us))
    ps (symbol Tilde) (name (codes "exists") ∷ us) e (λ p later is then.
    opened (λ later.
    (rest : List Piece)
    × (condition_at stop cores names (p ∷ later) ≡ quantified stop cores NotExists names rest)
    × (terms rest ≡ us))
    later (name (codes "exists")) us then
    (λ q rest is_exists after_it. (rest, rw (is, is_exists) refl, after_it)))

pub condition_again : (stop : Stop) (cores : ℕ) (names : List (List ℕ)) (ps : List Piece) (ts back : List Term) (quantifier : Quantifier) (p : Phrase)
    → IsCondition ts quantifier p
    → IsWithin cores 0 names p
    → terms ps ≡ ts ++ back
    → begins_with (is_symbol_term And) back ≡ false
    → begins_with (is_symbol_term Or) back ≡ false
    → ReadsCondition (condition_at stop cores names ps) names quantifier p back
condition_again stop cores names ps _ back _ _ (condition ts us quantifier p is_quantifier is) within e no_and no_or =
    let q = after_quantifier stop cores names ps ts (us ++ back) quantifier is_quantifier (e ∙ append_assoc ts us back) in
    let f = quantified_found stop cores quantifier names q.0 us back p is within q.2 no_and no_or in
    record { rest = f.rest; is = q.1 ∙ f.is; after_it = f.after_it }

-- ---- taken

quantified_taken : (stop : Stop) (cores : ℕ) (quantifier : Quantifier) (names : List (List ℕ)) (all ps : List Piece)
    (ts : List Term) (c : Conditioned)
    → length names ≤ 16
    → IsQuantifier ts quantifier
    → terms all ≡ ts ++ terms ps → quantified stop cores quantifier names ps ≡ Ok c → SpellsCondition cores names all c
unfolding quantified
quantified_taken stop cores quantifier names all ps ts c le is front e =
    let a = bind_ok (proposition_at stop cores most_open 0 names ps) (λ c. Ok (with_claim quantifier c)) c e in
    let t = proposition_spelled stop cores most_open 0 names ps a.0 le a.1 in
    subst (SpellsCondition cores names all) (ok_is (with_claim quantifier a.0) c a.2) (record {
      ts = ts ++ t.ts;
      quantifier = quantifier;
      phrase = t.phrase;
      is = condition ts t.ts quantifier t.phrase is t.is;
      parts = front ∙ ap (λ (l : List Term). ts ++ l) t.parts ∙ sym (append_assoc ts t.ts (terms a.0.rest));
      within = t.within;
      given = ap (with_claim quantifier) t.given;
    })

pub condition_takes : (stop : Stop) (cores : ℕ) (names : List (List ℕ)) (ps : List Piece) (c : Conditioned)
    → length names ≤ 16
    → condition_at stop cores names ps ≡ Ok c
    → SpellsCondition cores names ps c ⊎ ReadsNone names ps c
unfolding condition_at
condition_takes stop cores names ps c le e =
    elim (there_is (word_after (codes "exists") ps) (quantified stop cores Exists names)
    (there (word_after (codes "forall") ps) (quantified stop cores Forall names)
    (there (symbol_at Tilde ps) _ (Ok (conditioned None names ps)))) (Ok c) e) [
      | inl at ↦
          inl (quantified_taken stop cores Exists names ps at.0 (name (codes "exists") ∷ []) c le says_exists
          (word_taken (codes "exists") ps at.0 at.1) at.2)
      | inr no_exists ↦ elim (there_is (word_after (codes "forall") ps) (quantified stop cores Forall names)
          (there (symbol_at Tilde ps) _ (Ok (conditioned None names ps))) (Ok c) no_exists.1) [
            | inl at ↦
                inl (quantified_taken stop cores Forall names ps at.0 (name (codes "forall") ∷ []) c le says_forall
                (word_taken (codes "forall") ps at.0 at.1) at.2)
            | inr no_forall ↦ elim (there_is (symbol_at Tilde ps) _ (Ok (conditioned None names ps)) (Ok c) no_forall.1) [
              | inl at ↦
                  let b =
                  bind_ok (or_unfit (part_of BadCondition stop) at.0 (word_after (codes "exists") at.0))
                  (λ rest. quantified stop cores NotExists names rest) c at.2 in
                  let word = word_taken (codes "exists") at.0 b.0 (or_unfit_ok (part_of BadCondition stop) at.0 (word_after (codes "exists") at.0) b.0 b.1) in
                  inl (quantified_taken stop cores NotExists names ps b.0 (symbol Tilde ∷ name (codes "exists") ∷ []) c le says_not_exists
                  (symbol_takes Tilde ps at.0 at.1 ∙ ap (λ (l : List Term). symbol Tilde ∷ l) word) b.2)
              | inr none ↦ inr (sym (ok_is (conditioned None names ps) c none.1))
            ]
          ]
    ]
