-- What the functions that read return: what a reading gives, unless memory ran out.
use Rattle.std.specs.Prelude.{◌≡◌, ◌≢◌, ℕ, Bool, List, map, Option, Result}
use denote.Ref.{Bor}
use Rattle.litmus_reader.specs.Vocabulary.{claim_of, Cond, Condition, Fault, Instructions, Piece, pieces, Token}
use Rattle.tso_terms.specs.declared.condition.Prop.{Prop}
use Rattle.litmus_tokens.specs.declared.fault.ReadError.{ReadError}
use Rattle.litmus_reader.specs.declared.fault.TextFault.{TextFault}
use Rattle.litmus_reader.specs.Conditions.{Proposition, Conditioned}
use Rattle.litmus_reader.specs.inner.Conditions.{claimed, conditioned}
use Rattle.litmus_tokens.specs.Faults.{Gives}
use Rattle.litmus_tokens.specs.inner.Returned.{GivesNamed}
use Rattle.litmus_reader.specs.inner.Initial.{given_of, initial}
use Rattle.litmus_reader.specs.Initial.{Initial, judged}
use Rattle.litmus_tokens.specs.Locations.{texts}
use Rattle.litmus_reader.specs.Rows.{Table}
use Rattle.litmus_reader.specs.inner.Rows.{table, rows}
use Rattle.litmus_reader.specs.inner.Sections.{tokens_in}
use Rattle.litmus_reader.specs.Written.{Setting}
use Rattle.litmus_reader.specs.Returned.{asked_of}
use Rattle.litmus_tokens.specs.declared.fault.Why.TheVariants as why
use Rattle.litmus_reader.specs.declared.initial.Initial as state
use Rattle.litmus_reader.specs.declared.row.Table as code

-- The reading of these tokens, after so many atoms and these names of locations, gives a claim, how many atoms there are at
-- the end, the names, and what comes after the claim.
abbrev pub GivesClaim : Proposition → ℕ → List (Bor (List ℕ)) → List Token → Result (Prop × Bor (List Token)) ReadError
    → ℕ → List (Bor (List ℕ)) → Type 0
GivesClaim reading atoms names tokens result atoms_new names_new =
    Gives (λ x. claimed (claim_of x.0) atoms_new (texts names_new) (pieces x.1.now)) result (reading atoms (texts names) (pieces tokens))

-- a condition, if there is one, the names of locations, and what comes after it
abbrev pub GivesCondition : Result (Option Cond × Bor (List Token)) ReadError → List (Bor (List ℕ)) → Result Conditioned Fault → Type 0
GivesCondition result names read = Gives (λ x. conditioned (asked_of x.0) (texts names) (pieces x.1.now)) result read

-- the condition that ends a text, if there is one, and the names of locations
abbrev pub GivesEnding : Result (Option Cond) ReadError → List (Bor (List ℕ)) → Result (Option Condition × List (List ℕ)) Fault → Type 0
GivesEnding result names read = GivesNamed (λ c. asked_of c) result names read

-- the initial state as far as it has been read
abbrev pub so_far : List (Bor (List ℕ)) → state.Initial → Initial
so_far names i = initial (texts names) i.words.items (map given_of i.registers.items)

-- An item at `remaining`, judged after what has been read, gives what has been read with it.
abbrev pub GivesJudged : {X : Type 0} → ℕ → Setting → List (Bor (List ℕ)) → state.Initial → Result X ReadError
    → List (Bor (List ℕ)) → state.Initial → Type 0
GivesJudged remaining s names old result names_new new = Gives (λ _. so_far names_new new) result (judged remaining (so_far names old) s)

-- the initial state with one item more, and whether it ends with that
abbrev pub GivesItem : Result Bool ReadError → List (Bor (List ℕ)) → state.Initial → Result (Initial × Bool) Fault → Type 0
GivesItem result names i read = Gives (λ is_last. (so_far names i, is_last)) result read

-- the whole initial state, and what comes after it
abbrev pub GivesInitial : Instructions → Result (Bor (List ℕ)) ReadError → List (Bor (List ℕ)) → state.Initial
    → Result (Initial × List Piece) Fault → Type 0
GivesInitial set result names i read = Gives (λ x. (so_far names i, tokens_in set x.now)) result read

-- the header row and all rows, the names of locations, and what comes after the rows
abbrev pub table_read : Instructions → code.Table → List (Bor (List ℕ)) → List ℕ → Table
table_read set t names rest = table t.cores t.registers.items (rows t.instrs.items (texts names) (tokens_in set rest))

-- The reading of a text's tokens, after these names of locations, gives the header row and all rows, the names, and what stands
-- after the rows.
abbrev pub GivesTable : Instructions → (List (List ℕ) → List Piece → Result Table Fault) → List (Bor (List ℕ)) → List ℕ
    → Result (Bor (List ℕ)) ReadError → List (Bor (List ℕ)) → code.Table → Type 0
GivesTable set reading names text result names_new t =
    Gives (λ x. table_read set t names_new x.now) result (reading (texts names) (tokens_in set text))

-- this refusal, unless memory ran out
abbrev pub IsUnlessMemory : TextFault → TextFault → Type 0
IsUnlessMemory fault refusal = refusal.why ≢ why.NoMemory → refusal ≡ fault
