-- Memory, the lines and states, and the words after a whole access, and after its two halves.
use Rattle.snoop_bus.proofs.Vocabulary.{◌≡◌, ◌≢◌, inl, inr, ℕ, Bool, true, false, List, length, slice_get, slice_set, Option, Some, None}
use Rattle.snoop_bus.proofs.Vocabulary.{option_map, refl, sym, ap, ◌∙◌, subst, WritesInPlace, I, Line, Core, Loc, AccessReport, BusRequest}
use Rattle.snoop_bus.proofs.Vocabulary.{requested_by, with_request, Words, table_of_rows, Accessed, Sets, copy_at, tags_of}
use Rattle.snoop_bus.proofs.Vocabulary.{counted_copies_of, BusModel, IsFree, IsCoherent, AllCoherent, words_of, tag_at, completed}
use Rattle.snoop_bus.proofs.Vocabulary.{contents_of, line_of_location, load_of, write_of, would_hit, ask_of, completion_of, LoadsAt}
use Rattle.snoop_bus.proofs.Vocabulary.{WritesAt}
use Rattle.snoop_bus.specs.WholeAccesses.{InHalves, LoadsInHalves, WritesInHalves, AccessesLeaveTheSame, LoadsAgree}
use Rattle.cache_set.proofs.Numbers.{inside}
use Rattle.snoop_bus.proofs.AccessLemmas.{tag_here}
use Rattle.snoop_bus.proofs.HolderLemmas.{free-held}
use Rattle.snoop_bus.proofs.WholeAccess.{load_halves, write_halves, load-memory, write-memory}

-- what a completion is and leaves, said of the bus before the ask
pub completed-is : (old between new : BusModel) (core : Core) (loc : Loc) (write : Bool) (report : AccessReport)
    → (h : InHalves old between new core loc write report)
    → completion_of between core.0 loc.0
    ≡ completed (table_of_rows old.rows) core.0 (line_of_location old loc.0) (ask_of old core.0 loc.0 write).awaited
    (ask_of old core.0 loc.0 write).caches
completed-is old between new core loc write report h =
    rw (h.machine.rows, h.machine.shape, h.asks.awaited_is, h.asks.contents) refl

-- what both halves did, said of the bus before the ask
both-are : (old between new : BusModel) (core : Core) (loc : Loc) (write : Bool) (report : AccessReport) → (h : InHalves old between new core loc write report)
    → report ≡ (with_request (ask_of old core.0 loc.0 write).request (completion_of between core.0 loc.0)).report
both-are old between new core loc write report h =
    h.both
    ∙ ap (λ (q : Option BusRequest). requested_by q h.completion) h.asks.request_is
    ∙ ap (requested_by (ask_of old core.0 loc.0 write).request) h.completes.report_is

pub load-agrees : (old whole between new : BusModel) (core : Core) (loc : Loc) (word other : ℕ) (a b : AccessReport) → would_hit old core.0 loc.0 false ≡ false
    → LoadsAt old whole core.0 loc.0 word a → LoadsInHalves old between new core loc other b → LoadsAgree whole new word other a b
load-agrees old whole between new core loc word other a b misses one two =
    let t = table_of_rows old.rows in
    let line = line_of_location old loc.0 in
    let halves : load_of old core.0 loc.0 ≡ with_request (ask_of old core.0 loc.0 false).request (completion_of between core.0 loc.0) =
    load_halves t core.0 line (contents_of old) misses
    ∙ sym (ap (with_request (ask_of old core.0 loc.0 false).request) (completed-is old between new core loc false b two.halves)) in
    let kept : words_of between ≡ words_of old = two.halves.asks.words in
    let answers : Some word ≡ Some other = sym one.word_is ∙ sym (ap (λ ws. slice_get ws loc.0) kept) ∙ two.word_is in
    record {
      answers = let z : word ≡ other = cc in z;
      same = record {
        report = one.report_is ∙ ap (λ (z : Accessed). z.report) halves ∙ sym (both-are old between new core loc false b two.halves);
        words = one.words ∙ sym kept ∙ sym two.words;
        memory = one.memory ∙ load-memory t core.0 line old.caches between.caches old.memory two.halves.asks.own misses
            ∙ sym (two.halves.completes.memory
            ∙ rw (
              two.halves.machine.rows,
              two.halves.machine.shape,
              two.halves.asks.awaited_is,
              two.halves.asks.memory,
            ) refl);
        contents = one.contents ∙ ap (λ (z : Accessed). z.caches) halves ∙ sym two.halves.completes.contents;
      };
    }

-- where copies are coherent none is in I
pub valid-tag : (caches : List Sets) (memory : List Words) (core line : ℕ) → AllCoherent caches memory → tag_at core line (tags_of caches) ≢ Some I
valid-tag caches memory core line coherent e = by_copy (copy_at caches core line) refl (sym (tag_here caches core line) ∙ e)
  where
    by_copy : (o : Option Line) → copy_at caches core line ≡ o → option_map (λ (copy : Line). copy.state) o ≡ Some I → ⊥
    by_copy None at s = let z : ⊥ = cc in z
    by_copy (Some copy) at s = elim (inside line (length memory)) [
      | inl l ↦ (coherent.each line l).valid core copy at (let z : copy.state ≡ I = cc in z)
      | inr l ↦ let none = coherent.within line core l in let z : ⊥ = cc in z
    ]

pub write-agrees : (old whole between new : BusModel) (core : Core) (loc : Loc) (word : ℕ) (a b : AccessReport)
    → WritesInPlace (table_of_rows old.rows).written
    → IsFree old
    → IsCoherent old
    → WritesAt old whole core.0 loc.0 word a → WritesInHalves old between new core loc word b → AccessesLeaveTheSame whole new a b
write-agrees old whole between new core loc word a b law free coherent one two =
    let t = table_of_rows old.rows in
    let line = line_of_location old loc.0 in
    let unheld = free-held old.held free in
    let real : AllCoherent old.caches old.memory = subst (λ h. AllCoherent (counted_copies_of h old.caches) old.memory) unheld coherent in
    let valid : tag_at core.0 line (contents_of old) ≢ Some I = valid-tag old.caches old.memory core.0 line real in
    let halves : write_of old core.0 loc.0 ≡ with_request (ask_of old core.0 loc.0 true).request (completion_of between core.0 loc.0) =
    write_halves t law core.0 line (contents_of old) valid
    ∙ sym (ap (with_request (ask_of old core.0 loc.0 true).request) (completed-is old between new core loc true b two.halves)) in
    let kept : words_of between ≡ words_of old = two.halves.asks.words in
    record {
      report = one.report_is ∙ ap (λ (z : Accessed). z.report) halves ∙ sym (both-are old between new core loc true b two.halves);
      words = one.words ∙ sym (ap (λ ws. slice_set ws loc.0 word) kept) ∙ sym two.words;
      memory = one.memory ∙ write-memory t core.0 line old.caches between.caches old.memory two.halves.asks.own law valid
          ∙ sym (two.halves.completes.memory ∙ rw (two.halves.machine.rows, two.halves.machine.shape, two.halves.asks.awaited_is, two.halves.asks.memory) refl);
      contents = one.contents ∙ ap (λ (z : Accessed). z.caches) halves ∙ sym two.halves.completes.contents;
    }
