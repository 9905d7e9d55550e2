-- The line that a step tells as written back is the one that gave way in its set; and where one is written back it is told.
use Rattle.trace_report.proofs.Vocabulary.{arith, [], ◌∷◌, ◌≡◌, ◌∙◌, ◌<◌, ◌/◌, ◌==◌, ◌&&◌, ℕ, Bool, true, false, nat_lt, if◌then◌else◌}
use Rattle.trace_report.proofs.Vocabulary.{List, length, Option, Some, None, is_some, refl, sym, ap, subst, nat_tests, Litmus, IsTest}
use Rattle.trace_report.proofs.Vocabulary.{chosen, core_of, MemoryAccess, access_of, Choice, Table, table_of_rows, leaving, TagSets}
use Rattle.trace_report.proofs.Vocabulary.{tags_at, sets_of, dirty_in, Configuration, Caches, is_awaited, Running, new_machine, machine_use}
use Rattle.trace_report.proofs.Vocabulary.{machine_after, machine_effect, sets-leave, number_of_lines, among, left_in, written_line}
use Rattle.trace_report.proofs.Vocabulary.{WriteBacksAreTold, after_choices, KeepsNoCopyInI, tells_write_back}
use Rattle.std.specs.Option.{option_map}
use Rattle.snoop_bus.specs.CacheContents.{departing}
use Rattle.snoop_bus.specs.inner.CacheContents.{was_written_back}
use Rattle.snoop_bus.specs.declared.access.Departure.{Departure}
use Rattle.multiprocessor.proofs.EachUse.{each-use}
use Rattle.protocol_tables.specs.declared.state.State as protocol
use Rattle.trace_report.specs.Steps as steps
use Rattle.trace_report.proofs.Awaiting.{Fills}
use Rattle.trace_report.proofs.Kept.{IsKept, fills-of, kept-first, kept-along}
use Rattle.trace_report.proofs.InPlace.{wrote_in, IsConsistent}
use Rattle.trace_report.proofs.VictimsLeave.{completed-consistent, whole-consistent}

-- ---- the line that gives way

among-these : (lines line : ℕ) → line < lines → among lines (Some line) ≡ Some line
among-these lines line l = let there : nat_lt line lines ≡ true = grind (arith, nat_tests, l) in rw there refl

abbrev asked_by : Running → Choice → MemoryAccess
asked_by m choice = access_of m.test m.depth m.state.flat choice

-- where a dirty line is written back
record Gives (m : Running) (choice : Choice) : Type 0 where
  fills : Fills m.statistics.caches (chosen choice) (asked_by m choice) (machine_use m choice).how
  victim : ℕ × protocol.State
  last : leaving (tags_at (sets_of m.statistics.caches.contents (chosen choice)) fills.came) ≡ Some victim
  told : among (number_of_lines m) (written_line (left_in (machine_use m choice).how)) ≡ Some victim.0

gives : (m : Running) (choice : Choice) → IsKept m → chosen choice < length m.statistics.counts → wrote_in (machine_use m choice).how ≡ true → Gives m choice
gives m choice k there dirty = by_victim (leaving (tags_at sets f.came)) refl
  where
    core : ℕ
    core = chosen choice

    caches : Caches
    caches = m.statistics.caches

    sets : TagSets
    sets = sets_of caches.contents core

    f : Fills caches core (asked_by m choice) (machine_use m choice).how
    f = fills-of m choice k dirty

    by_victim : (o : Option (ℕ × protocol.State)) → leaving (tags_at sets f.came) ≡ o → Gives m choice
    by_victim None q = let none : false ≡ true = sym (ap (dirty_in (table_of_rows caches.rows)) q) ∙ f.line.writes in absurd (let z : ⊥ = cc in z)
    by_victim (Some v) q = record {
      fills = f;
      victim = v;
      last = q;
      told = ap (λ o. among (number_of_lines m) (written_line o)) (f.left ∙ ap (option_map (departing (table_of_rows caches.rows))) q)
          ∙ (ap (λ b. among (number_of_lines m) (if b then Some v.0 else None)) (sym (ap (dirty_in (table_of_rows caches.rows)) q) ∙ f.line.writes)
          ∙ among-these (number_of_lines m) v.0 (sets-leave (number_of_lines m) f.came v.1 sets v (k.neat core) f.line.absent q).within);
    }

-- ---- what a step tells

-- what a choice does with the caches tells a line exactly where it says that one was written back
consistent : (m : Running) (c : Choice) → IsConsistent (machine_use m c).how
consistent m c =
    let f = machine_effect m c in
    let caches = m.statistics.caches in
    let t = table_of_rows caches.rows in
    each-use (λ u. IsConsistent u.how) caches refl refl
    (λ k loc write. whole-consistent t write k (loc / caches.shape.words) caches.contents) (chosen c)
    (λ loc write. refl)
    (λ loc. completed-consistent t (chosen c) (loc / caches.shape.words) caches.awaited caches.contents)
    (is_awaited m.state.holder) (is_awaited f.holder) (access_of m.test m.depth m.state.flat c)
    (core_of m.state.flat (chosen c)).pending f.effect.commits

none-written : (o : Option Departure) → was_written_back o ≡ false → written_line o ≡ None
none-written None clean = refl
none-written (Some left) clean = ap (λ b. if b then Some left.line else None) clean

-- where none was, none is told
quiet-told : (m : Running) (c : Choice)
    → wrote_in (machine_use m c).how ≡ false
    → among (number_of_lines m) (written_line (left_in (machine_use m c).how)) ≡ None
quiet-told m c clean = ap (among (number_of_lines m)) (none-written (left_in (machine_use m c).how) (consistent m c ∙ clean))

pub step-told : (k : ℕ) (m : Running) (c : Choice)
    → IsKept m
    → chosen c < length m.statistics.counts
    → tells_write_back k (steps.trace_step_of m c) ≡ ((chosen c == k) && wrote_in (machine_use m c).how)
unfolding steps.trace_step_of
step-told k m c kept there = ap (λ b. (chosen c == k) && b) (by_wrote (wrote_in (machine_use m c).how) refl)
  where
    by_wrote : (b : Bool)
        → wrote_in (machine_use m c).how ≡ b
        → is_some (among (number_of_lines m) (written_line (left_in (machine_use m c).how)))
        ≡ wrote_in (machine_use m c).how
    by_wrote true q = ap is_some (gives m c kept there q).told ∙ sym q
    by_wrote false q = ap is_some (quiet-told m c q) ∙ sym q

gave-way : (m : Running) (choice : Choice) → IsKept m → chosen choice < length m.statistics.counts → WriteBacksAreTold m choice
unfolding steps.trace_step_of
gave-way m choice kept within line told =
    let g = gives m choice kept within (wrote (wrote_in (machine_use m choice).how) refl told) in
    let both : Some g.victim.0 ≡ Some line = sym g.told ∙ told in
    let same : g.victim.0 ≡ line = cc in
    record {
      came = g.fills.came;
      state = g.victim.1;
      accessed = g.fills.accessed;
      absent = g.fills.line.absent;
      last = subst (λ l. leaving (tags_at (sets_of m.statistics.caches.contents (chosen choice)) g.fills.came) ≡ Some (l, g.victim.1)) same g.last;
      dirty = subst (λ o. dirty_in (table_of_rows m.statistics.caches.rows) o ≡ true) g.last g.fills.line.writes;
    }
  where
    wrote : (b : Bool)
        → wrote_in (machine_use m choice).how ≡ b
        → among (number_of_lines m) (written_line (left_in (machine_use m choice).how)) ≡ Some line
        → wrote_in (machine_use m choice).how ≡ true
    wrote true q told = q
    wrote false q told = let none : None ≡ Some line = sym (quiet-told m choice q) ∙ told in absurd (let z : ⊥ = cc in z)

-- ---- along the choices

pub same-test : (m : Running) (choices : List Choice) → (after_choices m choices).test ≡ m.test
same-test m [] = refl
same-test m (c ∷ cs) = same-test (machine_after m c) cs

pub write-backs-told : (table : Table) (c : Configuration) (t : Litmus) (choices : List Choice) (choice : Choice)
    → IsTest t
    → 0 < c.shape.words
    → KeepsNoCopyInI table
    → chosen choice < length t.programs
    → WriteBacksAreTold (after_choices (new_machine table c t) choices) choice
write-backs-told table c t choices choice test words keeps within =
    let kept = kept-along (new_machine table c t) choices (kept-first table c t test words keeps) in
    let core : chosen choice < length (after_choices (new_machine table c t) choices).statistics.counts =
    subst (λ n. chosen choice < n) (sym (kept.cores ∙ ap (λ (x : Litmus). length x.programs) (same-test (new_machine table c t) choices))) within in
    gave-way (after_choices (new_machine table c t) choices) choice kept core
