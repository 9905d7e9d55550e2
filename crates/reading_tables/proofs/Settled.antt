-- Where a round changes nothing, no later one does.
use Rattle.reading_tables.proofs.Vocabulary.{◌≡◌, ◌<◌, ◌≤◌, ◌+◌, ℕ, zero, suc, List, arith, sym, ap, ◌∙◌, ◌⊎◌, inl, inr, subst, length, map}
use Rattle.reading_tables.proofs.Vocabulary.{filter, Litmus, Entry}
use Rattle.tso_terms.specs.ProgramOrder.{is_read}
use Rattle.refutation_laws.specs.Known.{events_of}
use Rattle.possible_reads.specs.Facts.{Fact}
use Rattle.possible_reads.specs.Possible.{Reading, reading_after, readings_after, readings}

pub settled : (t : Litmus) (facts : List Fact) (n all : ℕ) → n ≤ all → readings_after t facts (suc n) ≡ readings_after t facts n
    → readings_after t facts all ≡ readings_after t facts n
settled t facts n zero l h = let e : zero ≡ n = omega (arith, l) in ap (readings_after t facts) e
settled t facts n (suc all) l h = elim (split n all l) [
  | inl e ↦ ap (readings_after t facts) e
  | inr m ↦ ap (λ table. map (reading_after t facts table) (filter is_read (events_of t))) (settled t facts n all m h) ∙ h
]
  where
    split : (i j : ℕ) → i ≤ suc j → (suc j ≡ i) ⊎ (i ≤ j)
    split i j m = grind arith

-- what one round more leaves
pub one-round : (t : Litmus) (facts : List Fact) (n : ℕ) (next table : List Reading)
    → next ≡ map (reading_after t facts table) (filter is_read (events_of t)) → table ≡ readings_after t facts n
    → next ≡ readings_after t facts (n + 1)
one-round t facts n next table is was =
    let e : suc n ≡ n + 1 = omega arith in
    is ∙ (ap (λ x. map (reading_after t facts x) (filter is_read (events_of t))) was ∙ ap (readings_after t facts) e)

-- the round that changes nothing
pub settled-at : (t : Litmus) (facts : List Fact) (events : List Entry) (n : ℕ) → events ≡ events_of t → n < length events → (next table : List Reading)
    → next ≡ map (reading_after t facts table) (filter is_read (events_of t)) → table ≡ readings_after t facts n → next ≡ table
    → next ≡ readings t facts
settled-at t facts events n e l next table is was same =
    let all : n ≤ length (events_of t) = subst (λ es. n ≤ length es) e (omega (arith, l)) in
    let m : n + 1 ≡ suc n = omega arith in
    let still : readings_after t facts (suc n) ≡ readings_after t facts n =
    ap (readings_after t facts) (sym m) ∙ (sym (one-round t facts n next table is was) ∙ (same ∙ was)) in
    same ∙ (was ∙ sym (settled t facts n (length (events_of t)) all still))
