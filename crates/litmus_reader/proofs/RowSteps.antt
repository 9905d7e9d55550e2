-- All rows, one after the other.
use Rattle.litmus_reader.proofs.Vocabulary.{◌≡◌, ℕ, suc, ◌≤◌, ◌<◌, true, false, List, [], ◌∷◌, length, Result, Ok, Err, refl, arith, Stop}
use Rattle.litmus_reader.proofs.Vocabulary.{Piece, Fault, ReadError, CoreInstr, Fails, ◌>>=◌, Given, registers_of, Rows, rows, row_at}
use Rattle.litmus_reader.proofs.Vocabulary.{row_in, rows_within, rows_at, table, table_at, ends_rows, columns, most_cores, section_of}
use Rattle.litmus_reader.proofs.Vocabulary.{Section, row_ends, at_stop, fault, Unclosed, Instructions}
use Rattle.litmus_reader.proofs.Loops.{After, ends, goes_on}
use Rattle.litmus_tokens.specs.declared.fault.ReadError.TheVariants as errors
use Rattle.litmus_reader.proofs.SectionSteps.{section_shorter}

abbrev left : List CoreInstr × List (List ℕ) × List Piece → ℕ
left x = length x.2

abbrev steps : Instructions → Stop → ℕ → ℕ → List CoreInstr × List (List ℕ) × List Piece → Result Rows Fault
steps set stop cores n x = rows_within set n stop cores x.0 x.1 x.2

-- the total is what the rest gives
abbrev pub RowsAfter : Instructions → Stop → ℕ → List CoreInstr → List (List ℕ) → List Piece → Result Rows Fault → Type 0
RowsAfter set stop cores instrs names ps total = After left (steps set stop cores) (instrs, names, ps) total

pub rows_start : (set : Instructions) (stop : Stop) (cores : ℕ) (names : List (List ℕ)) (ps : List Piece)
    → RowsAfter set stop cores [] names ps (rows_at set stop cores names ps)
rows_start set stop cores names ps = record { count = length ps; enough = omega arith; same = refl }

nothing_left : (ps : List Piece) → length ps ≤ 0 → ends_rows ps ≡ true
unfolding ends_rows
nothing_left [] le = refl
nothing_left (p ∷ ps) le = absurd (omega arith)

pub rows_end : (set : Instructions) (stop : Stop) (cores : ℕ) (instrs : List CoreInstr) (names : List (List ℕ)) (ps : List Piece) (total : Result Rows Fault)
    → ends_rows ps ≡ true → RowsAfter set stop cores instrs names ps total → total ≡ Ok (rows instrs names ps)
unfolding rows_within
rows_end set stop cores instrs names ps total end b =
    ends left (steps set stop cores) (
      instrs,
      names,
      ps,
    ) (Ok (rows instrs names ps)) total (λ _. refl) (λ n. rw end refl) b

abbrev ReadCells : Type 0
ReadCells = Result (List CoreInstr × List (List ℕ)) Fault

-- a row that is read has a token, with which it ends
pub row_some : (set : Instructions) (cores : ℕ) (stop : Stop) (instrs : List CoreInstr) (names : List (List ℕ))
    (ps : List Piece) (x : List CoreInstr × List (List ℕ))
    → row_in set cores stop instrs names ps ≡ Ok x
    → 0 < length ps
unfolding row_in row_at
row_some set cores stop instrs names [] x e = let never : (let q : ReadCells = Err (at_stop (fault Unclosed 0) stop) in q) ≡ Ok x = e in absurd cc
row_some set cores stop instrs names (p ∷ ps) x e = omega arith

-- one row more
step : (set : Instructions) (n : ℕ) (stop : Stop) (cores : ℕ) (instrs : List CoreInstr) (names : List (List ℕ)) (ps : List Piece) (s : Section) (r : ReadCells)
    → ends_rows ps ≡ false → section_of row_ends stop ps ≡ s → row_in set cores s.stop instrs names s.tokens ≡ r
    → rows_within set (suc n) stop cores instrs names ps ≡ (r >>= λ read. rows_within set n stop cores read.0 read.1 s.rest)
unfolding rows_within
step set n stop cores instrs names ps s r more at is = rw (more, at, is) refl

pub row_shorter : (set : Instructions) (stop : Stop) (cores : ℕ) (instrs : List CoreInstr) (names : List (List ℕ))
    (ps : List Piece) (s : Section) (x : List CoreInstr × List (List ℕ))
    → section_of row_ends stop ps ≡ s → row_in set cores s.stop instrs names s.tokens ≡ Ok x → length s.rest < length ps
row_shorter set stop cores instrs names ps s x at read =
    let shorter : 0 < length s.tokens → length s.rest < length ps = rw at at (section_shorter row_ends stop ps) in
    shorter (row_some set cores s.stop instrs names s.tokens x read)

pub rows_go_on : (set : Instructions) (stop : Stop) (cores : ℕ) (instrs after : List CoreInstr)
    (names known : List (List ℕ)) (ps : List Piece) (s : Section) (total : Result Rows Fault)
    → ends_rows ps ≡ false → section_of row_ends stop ps ≡ s → row_in set cores s.stop instrs names s.tokens ≡ Ok (after, known)
    → RowsAfter set stop cores instrs names ps total → RowsAfter set stop cores after known s.rest total
rows_go_on set stop cores instrs after names known ps s total more at read b =
    let shorter = row_shorter set stop cores instrs names ps s (after, known) at read in
    goes_on left (steps set stop cores) (instrs, names, ps) (after, known, s.rest) total shorter
    (λ n. step set n stop cores instrs names ps s (Ok (after, known)) more at read) b

pub row_fails : (set : Instructions) (e : ReadError) (stop : Stop) (cores : ℕ) (instrs : List CoreInstr)
    (names : List (List ℕ)) (ps : List Piece) (s : Section) (total : Result Rows Fault)
    → ends_rows ps ≡ false → section_of row_ends stop ps ≡ s → Fails e (row_in set cores s.stop instrs names s.tokens)
    → RowsAfter set stop cores instrs names ps total → Fails e total
row_fails set errors.NoMemory stop cores instrs names ps s total more at read b = tt
row_fails set (errors.Fault f) stop cores instrs names ps s total more at read b =
    ends left (steps set stop cores) (instrs, names, ps) (Err f) total
    (λ none. let here : ends_rows ps ≡ true = nothing_left ps none in absurd cc)
    (λ n. step set n stop cores instrs names ps s (Err f) more at read) b

-- ---- the header row before them

-- the header row of these tokens, and what all rows give after it
pub table_is : (set : Instructions) (stop : Stop) (given : List Given) (names : List (List ℕ)) (ps : List Piece)
    (s : Section) (cores : ℕ) (registers : List (List ℕ))
    → section_of row_ends stop ps ≡ s
    → Ok cores ≡ columns s.stop most_cores 0 s.tokens
    → registers_of cores given ≡ Ok registers
    → table_at set stop given names ps
    ≡ (rows_at set stop cores names s.rest >>= λ rows. Ok (table cores registers rows))
unfolding table_at
table_is set stop given names ps s cores registers at few all = rw (at, ← few, all) refl

pub table_fails : (set : Instructions) (e : ReadError) (stop : Stop) (given : List Given) (names : List (List ℕ))
    (ps : List Piece) (s : Section) (cores : ℕ) (registers : List (List ℕ))
    → section_of row_ends stop ps ≡ s
    → Ok cores ≡ columns s.stop most_cores 0 s.tokens
    → registers_of cores given ≡ Ok registers
    → Fails e (rows_at set stop cores names s.rest)
    → Fails e (table_at set stop given names ps)
table_fails set errors.NoMemory stop given names ps s cores registers at few all is = tt
table_fails set (errors.Fault f) stop given names ps s cores registers at few all is =
    rw (table_is set stop given names ps s cores registers at few all, is) refl

pub registers_missing : (set : Instructions) (e : ReadError) (stop : Stop) (given : List Given) (names : List (List ℕ))
    (ps : List Piece) (s : Section) (cores : ℕ)
    → section_of row_ends stop ps ≡ s
    → Ok cores ≡ columns s.stop most_cores 0 s.tokens → Fails e (registers_of cores given) → Fails e (table_at set stop given names ps)
unfolding table_at
registers_missing set errors.NoMemory stop given names ps s cores at few is = tt
registers_missing set (errors.Fault f) stop given names ps s cores at few is = rw (at, ← few, is) refl

pub columns_missing : (set : Instructions) (f : Fault) (stop : Stop) (given : List Given) (names : List (List ℕ))
    (ps : List Piece) (s : Section)
    → section_of row_ends stop ps ≡ s
    → Err f ≡ columns s.stop most_cores 0 s.tokens
    → table_at set stop given names ps ≡ Err f
unfolding table_at
columns_missing set f stop given names ps s at is = rw (at, ← is) refl
