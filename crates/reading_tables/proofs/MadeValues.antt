-- What all that was made can be, one after the other.
use Rattle.reading_tables.proofs.Vocabulary.{◌≡◌, ◌<◌, ◌+◌, ℕ, zero, suc, List, [], ◌∷◌, ◌++◌, Option, length, slice_index_or, get_or}
use Rattle.reading_tables.proofs.Vocabulary.{arith, sym, ap, ◌∙◌, map, map-append}
use Rattle.std.specs.Prelude.{Vec, take}
use Rattle.std.specs.Global.{Global}
use Rattle.possible_reads.specs.Expressions.{Expression}
use Rattle.possible_reads.specs.Possible as spec
use Rattle.reading_tables.specs.declared.expressions.Making.{Making}
use Rattle.reading_tables.specs.inner.Told.{making_of, all_made, known_of}
use Rattle.reading_tables.specs.inner.Tables.{AreMadeValues}
use Rattle.reading_tables.proofs.Makings.{take-more, made-more}

pub made-value-at : (f : Expression → spec.Values) (es : List Expression) (vs : List (Option (Vec ℕ Global))) (i : ℕ)
    (d : Option (Vec ℕ Global)) (e : Expression)
    → map known_of vs ≡ map f es → i < length vs → known_of (slice_index_or vs i d) ≡ f (slice_index_or es i e)
made-value-at f es [] i d e are l = absurd (omega arith)
made-value-at f [] (v ∷ vs) i d e are l = let z : ⊥ = cc in absurd z
made-value-at f (x ∷ es) (v ∷ vs) zero d e are l = let q : known_of v ≡ f x = cc in q
made-value-at f (x ∷ es) (v ∷ vs) (suc i) d e are l =
    made-value-at f es vs i d e (let q : map known_of vs ≡ map f es = cc in q) (omega (arith, l))

pub one-value-more : (table : List spec.Reading) (ms : List Making) (i : ℕ) (d : Making)
    (vs : List (Option (Vec ℕ Global))) (v : Option (Vec ℕ Global))
    → i < length ms
    → AreMadeValues table (all_made (take i ms)) vs
    → known_of v ≡ spec.values_of (spec.values_read table) (making_of (all_made (take i ms)) (get_or ms i d))
    → AreMadeValues table (all_made (take (i + 1) ms)) (vs ++ (v ∷ []))
one-value-more table ms i d vs v l are is =
    let f : Expression → spec.Values = spec.values_of (spec.values_read table) in
    let before = all_made (take i ms) in
    let last = making_of before (get_or ms i d) in
    let next : i + 1 ≡ suc i = omega arith in
    map-append known_of vs (v ∷ [])
    ∙ (ap (λ xs. xs ++ (known_of v ∷ [])) are
    ∙ (ap (λ x. map f before ++ (x ∷ [])) is
    ∙ (sym (map-append f before (last ∷ []))
    ∙ ap (map f) (sym (ap (λ n. all_made (take n ms)) next ∙ (ap all_made (take-more ms i d l) ∙ made-more [] (take i ms) (get_or ms i d)))))))
