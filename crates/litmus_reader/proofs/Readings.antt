-- What readings give, as proofs speak of it.
use Rattle.std.specs.Prelude.{◌≡◌, List, ◌++◌, Result, Ok, ℕ, true, [], ◌∷◌, length, IsTrue, Option, Some, None, ◌+◌, Bool, ◌||◌}
use Rattle.litmus_reader.proofs.Vocabulary.{row_ends, section_of, Section, Term, Piece, Passes, Fault, Initial, words_of, registers_of}
use Rattle.litmus_reader.proofs.Vocabulary.{numbered, Stop, row_at, Rows, rows, terms, spelled_in, Claimed, claimed, Proposition}
use Rattle.litmus_reader.proofs.Vocabulary.{Conditioned, conditioned, Quantifier, AreRows, ends_rows, ends_rows_term, IsCondition, IsWithin}
use Rattle.litmus_reader.proofs.Vocabulary.{locations_in, atoms_of, claim_by, has_cores, names_in, first_words, first_registers, Shape}
use Rattle.litmus_reader.proofs.Vocabulary.{Setting, Phrase, cells_of, is_symbol_term, Tilde, Instructions}
use Rattle.litmus_reader.proofs.Placed.{Placed, placed_in, instrs_with, locations_of, EntriesWithin}

-- nothing is there, or a token with which no row begins
abbrev pub ends_table : List Term → Bool
ends_table [] = true
ends_table (t ∷ ts) = ends_rows_term t || is_symbol_term Tilde t

-- a reading gives this, and leaves these tokens
pub record Reads {X : Type 0} (reading : Result (X × List Piece) Fault) (x : X) (back : List Term) : Type 0 where
  pub rest : List Piece
  pub is : reading ≡ Ok (x, rest)
  pub after_it : terms rest ≡ back

-- What has been read is what the settings say: the names; the first words, whatever names come after these; and the first
-- registers of a test that has all their cores, where no other test has any.
pub record Says (settings : List Setting) (i : Initial) : Type 0 where
  pub names : i.names ≡ numbered [] (names_in settings)
  pub words : (others : List (List ℕ)) → words_of (length (numbered i.names others)) i.words ≡ first_words settings (numbered i.names others)
  pub registers : (cores : ℕ) → IsTrue (has_cores cores settings) → registers_of cores i.registers ≡ Ok (first_registers settings cores)
  pub cores : (cores : ℕ) (registers : List (List ℕ)) → registers_of cores i.registers ≡ Ok registers → IsTrue (has_cores cores settings)

-- a cell is read as nothing, or as this instruction
abbrev pub IsReadAs : Instructions → List Piece → Option Shape → Type 0
IsReadAs set [] None = Unit {0}
IsReadAs set [] (Some shape) = ⊥
IsReadAs set (p ∷ ps) None = ⊥
IsReadAs set (p ∷ ps) (Some shape) = spelled_in set (p ∷ ps) ≡ Some shape

-- cells are read so, one by one
abbrev pub AreReadAs : Instructions → List (List Piece) → List (Option Shape) → Type 0
AreReadAs set [] [] = Unit {0}
AreReadAs set [] (c ∷ cs) = ⊥
AreReadAs set (ps ∷ rest) [] = ⊥
AreReadAs set (ps ∷ rest) (c ∷ cs) = IsReadAs set ps c × AreReadAs set rest cs

-- a reading parts such a row from these tokens
pub record ReadsRow (set : Instructions) (stop : Stop) (ps : List Piece) (cells : List (Option Shape)) (back : List Term) : Type 0 where
  pub s : Section
  pub at : section_of row_ends stop ps ≡ s
  pub row : List Piece
  pub is : row_at s.stop s.tokens ≡ Ok row
  pub cells_are : AreReadAs set (cells_of row) cells
  pub after_it : terms s.rest ≡ back

-- what is read of entries after these names, where this comes after them
abbrev pub rows_by : List (List ℕ) → List Placed → List Piece → Rows
rows_by names entries rest = rows (instrs_with (numbered names (locations_of entries)) entries) (numbered names (locations_of entries)) rest

-- a reading gives these entries, and leaves these tokens
pub record ReadsPlaced (reading : Result Rows Fault) (names : List (List ℕ)) (entries : List Placed) (back : List Term) : Type 0 where
  pub rest : List Piece
  pub is : reading ≡ Ok (rows_by names entries rest)
  pub after_it : terms rest ≡ back

-- what was read are rows within the limits that the tokens at the front spell, and no row comes after them
pub record SpellsRows (set : Instructions) (cores : ℕ) (names : List (List ℕ)) (ps : List Piece) (r : Rows) : Type 0 where
  pub table : List (List (Option Shape))
  pub spelled : Passes (λ ts. AreRows set cores ts table) ps r.rest
  pub within : EntriesWithin names (placed_in table)
  pub given : r ≡ rows_by names (placed_in table) r.rest
  pub ended : ends_rows r.rest ≡ true

-- what is read of a phrase, where this comes after it
abbrev pub given_by : ℕ → List (List ℕ) → Phrase → List Piece → Claimed
given_by atoms names p rest = claimed (claim_by (numbered names (locations_in p)) p) (atoms + atoms_of p) (numbered names (locations_in p)) rest

-- a reading gives this phrase, and leaves these tokens
pub record ReadsPhrase (reading : Proposition) (atoms : ℕ) (names : List (List ℕ)) (p : Phrase) (back : List Term) (ps : List Piece) : Type 0 where
  pub rest : List Piece
  pub is : reading atoms names ps ≡ Ok (given_by atoms names p rest)
  pub after_it : terms rest ≡ back

-- what was read is a phrase within the limits that the tokens at the front spell
pub record SpellsPhrase (Is : List Term → Phrase → Type 0) (cores atoms : ℕ) (names : List (List ℕ)) (ps : List Piece) (c : Claimed) : Type 0 where
  pub ts : List Term
  pub phrase : Phrase
  pub is : Is ts phrase
  pub parts : terms ps ≡ ts ++ terms c.rest
  pub within : IsWithin cores atoms names phrase
  pub given : c ≡ given_by atoms names phrase c.rest

abbrev pub with_claim : Quantifier → Claimed → Conditioned
with_claim quantifier c = conditioned (Some (record { quantifier = quantifier; claim = c.claim })) c.names c.rest

-- what is read of a condition, where this comes after it
abbrev pub condition_by : List (List ℕ) → Quantifier → Phrase → List Piece → Conditioned
condition_by names quantifier p rest = with_claim quantifier (given_by 0 names p rest)

-- a reading gives this condition, and leaves these tokens
pub record ReadsCondition (reading : Result Conditioned Fault) (names : List (List ℕ)) (quantifier : Quantifier) (p : Phrase) (back : List Term) : Type 0 where
  pub rest : List Piece
  pub is : reading ≡ Ok (condition_by names quantifier p rest)
  pub after_it : terms rest ≡ back

-- what was read is a condition within the limits that the tokens at the front spell
pub record SpellsCondition (cores : ℕ) (names : List (List ℕ)) (ps : List Piece) (c : Conditioned) : Type 0 where
  pub ts : List Term
  pub quantifier : Quantifier
  pub phrase : Phrase
  pub is : IsCondition ts quantifier phrase
  pub parts : terms ps ≡ ts ++ terms c.rest
  pub within : IsWithin cores 0 names phrase
  pub given : c ≡ condition_by names quantifier phrase c.rest

-- what was read is no condition: nothing was taken
abbrev pub ReadsNone : List (List ℕ) → List Piece → Conditioned → Type 0
ReadsNone names ps c = c ≡ conditioned None names ps
