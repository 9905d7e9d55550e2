-- How many cores and locations a final state has.
use Rattle.std.proofs.Common.{◌≡◌, ℕ, ◌+◌, suc, List, [], ◌∷◌, length, ap, refl}
use Rattle.tso_terms.specs.FinalState.{registers_from, words_from}
use Rattle.basic_laws.specs.Types.{Instr, Entry}

-- the final state has registers for each core, and a word for each location
pub registers-count : (core : ℕ) (programs : List (List Instr)) (registers : List (List ℕ)) (order : List Entry)
    → length (registers_from core programs registers order) ≡ length programs
registers-count core [] registers order = refl
registers-count core (p ∷ ps) registers order = ap suc (registers-count (core + 1) ps registers order)

pub words-count : (loc : ℕ) (words : List ℕ) (order : List Entry) → length (words_from loc words order) ≡ length words
words-count loc [] order = refl
words-count loc (word ∷ words) order = ap suc (words-count (loc + 1) words order)
