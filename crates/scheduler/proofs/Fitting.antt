-- The entries of an execution are of its test.
use Rattle.scheduler.proofs.Vocabulary.{ℕ, ◌<◌, List, [], length, get_or, arith, slice_get-get_or, All-get_or, Litmus, IsTest, IsWellFormed}
use Rattle.scheduler.proofs.Vocabulary.{well-formed, IsProgram}
use Rattle.scheduler.proofs.Vocabulary.{IsWhole, StandsIn, Entry, FitsTest}

-- the law that each entry of a whole order is of the test
abbrev pub Fits : Type 0
Fits = (t : Litmus) (order : List Entry) (e : Entry) → IsWellFormed t → IsWhole t order → StandsIn order e → FitsTest t e

fits-at : Fits → (t : Litmus) (order : List Entry) → IsTest t → IsWhole t order → (k : ℕ) (d : Entry) → k < length order → FitsTest t (get_or order k d)
fits-at law t order test whole k d h = law t order (get_or order k d) (well-formed t test) whole (k, slice_get-get_or order k d h)

pub core-at : Fits
    → (t : Litmus) (order : List Entry)
    → IsTest t
    → IsWhole t order
    → (k : ℕ) (d : Entry)
    → k < length order
    → (get_or order k d).core.0 < length t.programs
core-at law t order test whole k d h = (fits-at law t order test whole k d h).core

pub place-at : Fits → (t : Litmus) (order : List Entry) → IsTest t → IsWhole t order → (k : ℕ) (d : Entry) → k < length order → (get_or order k d).place < 32
place-at law t order test whole k d h =
    let f = fits-at law t order test whole k d h in
    let p = All-get_or (IsProgram (length t.locations)) t.programs (get_or order k d).core.0 [] f.core test.programs_fit in
    omega (arith, f.place, p.size)
