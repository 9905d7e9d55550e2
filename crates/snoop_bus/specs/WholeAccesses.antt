-- A whole access beside the same access in its two halves, made from one bus on: the words, memory, the lines and states. (Primer,
-- chapter 7.)
use Rattle.std.specs.Prelude.{◌≡◌, ℕ, Bool, true, false, Option, slice_set}
use Rattle.snoop_bus.specs.Vocabulary.{Core, Loc, WritesInPlace}
use Rattle.snoop_bus.specs.declared.access.AccessReport.{AccessReport}
use Rattle.snoop_bus.specs.declared.access.BusRequest.{BusRequest}
use Rattle.snoop_bus.specs.CacheContents.{requested_by}
use Rattle.snoop_bus.specs.Rows.{table_of_rows}
use Rattle.snoop_bus.specs.Bus.{BusModel, IsFree, IsCoherent, IsSameMachine, words_of}
use Rattle.snoop_bus.specs.Accesses.{contents_of, memory_of, would_hit, IsCurrentWord, LoadsAt, WritesAt, AsksFor, CompletesAt}

-- a core asked for an access at a location, by this request, which left this bus in between; and then completed it: the two
-- together did this
pub record InHalves (old between new : BusModel) (core : Core) (loc : Loc) (write : Bool) (report : AccessReport) : Type 0 where
  pub request : Option BusRequest
  pub completion : AccessReport
  pub asks : AsksFor old between core loc write request
  pub machine : IsSameMachine old between
  pub completes : CompletesAt between new core.0 loc.0 completion
  pub both : report ≡ requested_by request completion

-- a load that asked answered this word, and no word that is seen changed
pub record LoadsInHalves (old between new : BusModel) (core : Core) (loc : Loc) (word : ℕ) (report : AccessReport) : Type 0 where
  pub halves : InHalves old between new core loc false report
  pub word_is : IsCurrentWord between loc.0 word
  pub words : words_of new ≡ words_of between

-- a write access that asked wrote this word, at its completion or, of a locked instruction, after it; no other word that is seen
-- changed
pub record WritesInHalves (old between new : BusModel) (core : Core) (loc : Loc) (word : ℕ) (report : AccessReport) : Type 0 where
  pub halves : InHalves old between new core loc true report
  pub words : words_of new ≡ slice_set (words_of between) loc.0 word

-- two ways did the same and left the same: the words that are seen, memory, and the lines and states
pub record AccessesLeaveTheSame (one two : BusModel) (a b : AccessReport) : Type 0 where
  pub report : a ≡ b
  pub words : words_of one ≡ words_of two
  pub memory : memory_of one ≡ memory_of two
  pub contents : contents_of one ≡ contents_of two

-- a load that doesn't hit, on a bus that nobody holds: whole, and in halves, it answers the same word and leaves the same
pub record LoadsAgree (whole new : BusModel) (word other : ℕ) (a b : AccessReport) : Type 0 where
  pub answers : word ≡ other
  pub same : AccessesLeaveTheSame whole new a b

abbrev pub LoadsAgreeWithHalves : Type 0
LoadsAgreeWithHalves =
    (old whole between new : BusModel) (core : Core) (loc : Loc) (word other : ℕ) (a b : AccessReport)
    → would_hit old core.0 loc.0 false ≡ false → LoadsAt old whole core.0 loc.0 word a
    → LoadsInHalves old between new core loc other b → LoadsAgree whole new word other a b

-- a write access, on a bus that nobody holds, whose protocol writes M and E alone in place: whole, and in halves, it leaves the same
abbrev pub WritesAgreeWithHalves : Type 0
WritesAgreeWithHalves =
    (old whole between new : BusModel) (core : Core) (loc : Loc) (word : ℕ) (a b : AccessReport)
    → WritesInPlace (table_of_rows old.rows).written → IsFree old → IsCoherent old → WritesAt old whole core.0 loc.0 word a
    → WritesInHalves old between new core loc word b → AccessesLeaveTheSame whole new a b
