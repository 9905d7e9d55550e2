-- What each call makes of one set's copies, and what a set always keeps: no line twice, none in state I, no more than its
-- ways. Of a line that stood there twice one copy would miss what is written to the other.
use Rattle.std.specs.Prelude.{◌≡◌, ◌≢◌, ◌<◌, ◌≤◌, ℕ, nat_eq, if◌then◌else◌, ⊤, List, [], ◌∷◌, length, map, take, Option, Some, None}
use Rattle.std.specs.Option.{option_map_or}
use Rattle.std.specs.Map.{lookup, remove_entry}
use Rattle.protocol_tables.specs.declared.state.State.TheVariants.{I}
use Rattle.cache_set.specs.declared.Line.{Line}
use Rattle.cache_set.specs.declared.Victim.{Victim}
use Rattle.cache_set.specs.Contents.{Contents, contents, copy_of}

-- no line comes twice in the list
abbrev pub NoLineTwice : List (ℕ × Line) → Type 0
NoLineTwice [] = ⊤
NoLineTwice (e ∷ es) = (lookup (nat_eq e.0) es ≡ None) × NoLineTwice es

-- no copy is in state I
abbrev pub NoneInvalid : List (ℕ × Line) → Type 0
NoneInvalid [] = ⊤
NoneInvalid (e ∷ es) = (e.1.state ≢ I) × NoneInvalid es

-- what holds of every set: room for a line, no more copies than ways, no line twice, none in state I
pub record IsCacheSet (s : Contents) : Type 0 where
  pub room : 0 < s.ways
  pub within : length s.copies ≤ s.ways
  pub once : NoLineTwice s.copies
  pub valid : NoneInvalid s.copies

-- the line's copy goes to the front, and the others stay in their order
abbrev pub to_front : ℕ → Contents → Contents
to_front line s = contents (option_map_or (λ copy. (line, copy) ∷ remove_entry (nat_eq line) s.copies) (copy_of s line) s.copies) s.ways

-- a new copy comes in at the front; where that is one too many, the last leaves
abbrev pub with_new : ℕ → Line → Contents → Contents
with_new line copy s = contents (take s.ways ((line, copy) ∷ s.copies)) s.ways

-- the same entry, its copy changed if it is this line's
abbrev pub changed_at : (Line → Line) → ℕ → ℕ × Line → ℕ × Line
changed_at change line e = if nat_eq line e.0 then (e.0, change e.1) else e

-- the line's copy is changed where it stands
abbrev pub with_changed : (Line → Line) → ℕ → Contents → Contents
with_changed change line s = contents (map (changed_at change line) s.copies) s.ways

-- the line's copy is gone, and the others stay in their order
abbrev pub without : ℕ → Contents → Contents
without line s = contents (remove_entry (nat_eq line) s.copies) s.ways

-- the copy found at k once a line came in, and the victim left, where `old` was found before
abbrev pub after_fill : ℕ → Line → Option Victim → ℕ → Option Line → Option Line
after_fill line copy None k old = if nat_eq k line then Some copy else old
after_fill line copy (Some v) k old = if nat_eq k line then Some copy else if nat_eq k v.line then None else old

-- what is found once a line came in with this copy, and this victim left
abbrev pub Fills : ℕ → Line → Contents → Contents → Option Victim → Type 0
Fills line copy old new victim = (k : ℕ) → copy_of new k ≡ after_fill line copy victim k (copy_of old k)

-- what is found once one line's copy was changed so, and no other
abbrev pub ChangesLine : ℕ → (Option Line → Option Line) → Contents → Contents → Type 0
ChangesLine line change old new = (k : ℕ) → copy_of new k ≡ (if nat_eq k line then change (copy_of old k) else copy_of old k)
