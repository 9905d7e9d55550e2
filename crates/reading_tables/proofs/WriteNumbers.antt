-- Where a write stands among all writes, and what stands there of each.
use Rattle.reading_tables.proofs.Vocabulary.{◌≡◌, ◌≤◌, ◌<◌, ◌+◌, ◌==◌, ℕ, zero, suc, Bool, true, false, if◌then◌else◌, List, [], ◌∷◌, ◌++◌}
use Rattle.reading_tables.proofs.Vocabulary.{Option, Some, arith, refl, sym, ap, ◌∙◌, map, length, drop, get_or, slice_index_or, Entry, Litmus}
use Rattle.std.specs.Prelude.{Vec}
use Rattle.std.proofs.Common.{add-one}
use Rattle.std.specs.Global.{Global}
use Rattle.relational_model.proofs.KindFacts.{and-both, same-number, number-same}
use Rattle.relational_model.proofs.Found.{apart-three}
use Rattle.refutation_laws.specs.Known.{same_event}
use Rattle.tso_terms.specs.ProgramEntries.{is_at}
use Rattle.tso_terms.specs.ProgramOrder.{same_kind}
use Rattle.possible_reads.specs.Expressions.{Expression, Constant, expression_among}
use Rattle.possible_reads.specs.Possible.{Values, Reading, values_of, least_written}
use Rattle.reading_tables.specs.inner.Told.{held_of, written_of, known_of}
use Rattle.reading_tables.specs.inner.Bounds.{each_least}
use Rattle.reading_tables.specs.inner.Numbers.{number_among, others_before, AreOthersFirst}
use Rattle.reading_tables.specs.declared.expressions.Written.{Written}
use Rattle.reading_tables.proofs.LeastWritten.{same-least}

pub no-more-others : (ws : List Written) (core : ℕ) → others_before ws core ≤ length ws
no-more-others [] core = omega arith
no-more-others (w ∷ ws) core = either (w.write.core.0 == core) (no-more-others ws core)
  where
    either : (b : Bool) → others_before ws core ≤ length ws → (if b then 0 else others_before ws core + 1) ≤ suc (length ws)
    either true less = omega arith
    either false less = omega (arith, less)

-- one core more
pub pushed : (f : ℕ → ℕ) (ns : List ℕ) (n core : ℕ) → slice_index_or ns core 0 ≤ f core → n ≡ f (length ns)
    → slice_index_or (ns ++ (n ∷ [])) core 0 ≤ f core
pushed f [] n zero h e = omega (arith, e)
pushed f [] n (suc core) h e = omega arith
pushed f (m ∷ ms) n zero h e = h
pushed f (m ∷ ms) n (suc core) h e = pushed (λ k. f (suc k)) ms n core h e

-- one location more
pub told-more : (f : ℕ → Bool) (bs : List Bool) (b : Bool) (loc : ℕ) → slice_index_or bs loc (f loc) ≡ f loc → b ≡ f (length bs)
    → slice_index_or (bs ++ (b ∷ [])) loc (f loc) ≡ f loc
told-more f [] b zero h e = e
told-more f [] b (suc loc) h e = refl
told-more f (c ∷ cs) b zero h e = h
told-more f (c ∷ cs) b (suc loc) h e = told-more (λ k. f (suc k)) cs b loc h e

same-core : (x y : Entry) → same_event x y ≡ true → y.core.0 ≡ x.core.0
same-core x y h =
    let at = and-both (is_at x.core.0 x.place x.kind y) (x.loc.0 == y.loc.0) h in
    let parts = apart-three (y.core.0 == x.core.0) (y.place == x.place) (same_kind y.kind x.kind) at.0 in
    same-number y.core.0 x.core.0 parts.0

other-event : (x y : Entry) (core : ℕ) → y.core.0 ≡ core → (x.core.0 == core) ≡ false → same_event x y ≡ true → ⊥
other-event x y core e h s =
    let q : (x.core.0 == core) ≡ true = number-same x.core.0 core (sym (same-core x y s) ∙ e) in
    let z : ⊥ = cc in z

-- writes of other cores are passed by
pub passed : (ws : List Written) (core k : ℕ) (w : Entry) → w.core.0 ≡ core → k ≤ others_before ws core
    → number_among (drop k ws) w + k ≡ number_among ws w
passed ws core zero w e l = omega arith
passed [] core (suc k) w e l = absurd (omega (arith, l))
passed (x ∷ xs) core (suc k) w e l =
    own (x.write.core.0 == core) (same_event x.write w) (other-event x.write w core e) l (passed xs core k w e)
  where
    own : (b s : Bool) → (b ≡ false → s ≡ true → ⊥) → suc k ≤ (if b then 0 else others_before xs core + 1)
        → (k ≤ others_before xs core → number_among (drop k xs) w + k ≡ number_among xs w)
        → number_among (drop k xs) w + suc k ≡ (if s then 0 else number_among xs w + 1)
    own true t apart m rest = absurd (omega (arith, m))
    own false true apart m rest = absurd (apart refl refl)
    own false false apart m rest = omega (arith, rest (omega (arith, m)))

pub none-among : (made : List Expression) (ws : List Written) (w : Entry) → length ws ≤ number_among ws w
    → expression_among (map (written_of made) ws) w ≡ Constant 0
none-among made [] w l = refl
none-among made (x ∷ xs) w l = own (same_event x.write w) l (none-among made xs w)
  where
    own : (b : Bool) → suc (length xs) ≤ (if b then 0 else number_among xs w + 1)
        → (length xs ≤ number_among xs w → expression_among (map (written_of made) xs) w ≡ Constant 0)
        → (if b then held_of made x.value else expression_among (map (written_of made) xs) w) ≡ Constant 0
    own true m rest = absurd (omega (arith, m))
    own false m rest = rest (omega (arith, m))

pub values-among : (reads : Entry → Values) (made : List Expression) (ws : List Written) (vs : List (Option (Vec ℕ Global))) (w : Entry)
    (d : Option (Vec ℕ Global))
    → map known_of vs ≡ map (λ x. values_of reads (held_of made x.value)) ws ++ (Some (0 ∷ []) ∷ [])
    → known_of (slice_index_or vs (number_among ws w) d) ≡ values_of reads (expression_among (map (written_of made) ws) w)
values-among reads made [] [] w d e = let z : ⊥ = cc in absurd z
values-among reads made [] (v ∷ vs) w d e = let q : known_of v ≡ Some (0 ∷ []) = cc in q
values-among reads made (x ∷ xs) [] w d e = let z : ⊥ = cc in absurd z
values-among reads made (x ∷ xs) (v ∷ vs) w d e =
    let first : known_of v ≡ values_of reads (held_of made x.value) = cc in
    let others : map known_of vs ≡ map (λ x. values_of reads (held_of made x.value)) xs ++ (Some (0 ∷ []) ∷ []) = cc in
    own (same_event x.write w) first (values-among reads made xs vs w d others)
  where
    own : (b : Bool) → known_of v ≡ values_of reads (held_of made x.value)
        → known_of (slice_index_or vs (number_among xs w) d) ≡ values_of reads (expression_among (map (written_of made) xs) w)
        → known_of (slice_index_or (v ∷ vs) (if b then 0 else number_among xs w + 1) d)
        ≡ values_of reads (if b then held_of made x.value else expression_among (map (written_of made) xs) w)
    own true first rest = first
    own false first rest = ap (λ i. known_of (slice_index_or (v ∷ vs) i d)) (add-one (number_among xs w)) ∙ rest

least-there : (t : Litmus) (table : List Reading) (ws : List Written) (w : Entry) (d : ℕ) → number_among ws w < length (each_least t table ws)
    → get_or (each_least t table ws) (number_among ws w) d ≡ least_written t table w
least-there t table [] w d l = absurd (omega (arith, l))
least-there t table (x ∷ xs) w d l = own (same_event x.write w) refl l (least-there t table xs w d)
  where
    own : (b : Bool) → same_event x.write w ≡ b → (if b then 0 else number_among xs w + 1) < suc (length (each_least t table xs))
        → (number_among xs w < length (each_least t table xs)
        → get_or (each_least t table xs) (number_among xs w) d ≡ least_written t table w)
        → get_or (least_written t table x.write ∷ each_least t table xs) (if b then 0 else number_among xs w + 1) d ≡ least_written t table w
    own true h m rest = same-least t table x.write w h
    own false h m rest =
        ap (λ i. get_or (least_written t table x.write ∷ each_least t table xs) i d) (add-one (number_among xs w)) ∙ rest (omega (arith, m))

pub least-among : (t : Litmus) (table : List Reading) (ws : List Written) (ns : List ℕ) (w : Entry) (d : ℕ) → ns ≡ each_least t table ws
    → number_among ws w < length ns → get_or ns (number_among ws w) d ≡ least_written t table w
least-among t table ws ns w d e l =
    ap (λ ms. get_or ms (number_among ws w) d) e
    ∙ least-there t table ws w d (rw (sym e) l)
