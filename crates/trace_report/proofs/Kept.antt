-- What a machine keeps along the choices of a run: its lines are neat, and what it awaits may come in.
use Rattle.trace_report.proofs.Vocabulary.{arith, ◌≡◌, ◌≢◌, ◌∙◌, ◌/◌, ◌<◌, ℕ, zero, suc, Bool, true, false, List, length, map, replicate}
use Rattle.trace_report.proofs.Vocabulary.{slice_index_or, Some, inl, inr, sym, ap, subst, div_ceil, div_ceil_times, length-replicate}
use Rattle.trace_report.proofs.Vocabulary.{div-mul-le_self, mul-le-mul_right, lt-or, Litmus, IsTest, chosen, MemoryAccess, NoAccess}
use Rattle.trace_report.proofs.Vocabulary.{access_of, Choice, Table, table_of_rows, rows_of, tags_in, TagSet, Configuration, no_counts}
use Rattle.trace_report.proofs.Vocabulary.{Running, new_machine, machine_use, machine_after, length-counted, AreStoresKnown}
use Rattle.trace_report.proofs.Vocabulary.{number_of_lines, KeepsNoCopyInI, IsNeat, none-neat, no-sets, no_set, AllNeat, []}
use Rattle.trace_report.proofs.Vocabulary.{after_choices, core_of, is_awaited, ◌∷◌, machine_effect}
use Rattle.protocol_tables.specs.declared.state.State as protocol
use Rattle.protocol_tables.specs.declared.state.State.TheVariants as tag
use Rattle.trace_report.proofs.Awaiting.{HolderMayMake, IsWithin, FillsIf, neat-after, may-after, fills-by}
use Rattle.multiprocessor.proofs.EachUse.{used-machine}
use Rattle.trace_report.proofs.FlushesTold.{IsSound, sound-first, sound-after, uses-of}
use Rattle.trace_report.proofs.Places.{AccessKnown, access-known, stores-first}
use Rattle.trace_report.proofs.Whole.{words-kept, stores-kept}

-- ---- the lines of a test

-- the line of a location is among those of the test
pub line-below : (count words loc : ℕ) → 0 < words → loc < count → loc / words < div_ceil count words
line-below count words loc some within = elim (lt-or (div_ceil count words) (loc / words)) [
  | inl l ↦ l
  | inr past ↦
      let all = (div_ceil_times count words some).0 in
      let less = mul-le-mul_right words past in
      let here = div-mul-le_self loc words in
      absurd (let z : ⊥ = omega arith in z)
]

within-lines : (t : Litmus) (words : ℕ) (what : MemoryAccess) → 0 < words → AccessKnown t what → IsWithin (div_ceil (length t.locations) words) words what
within-lines t words NoAccess some h = tt
within-lines t words _ some h = line-below (length t.locations) words _ some h

-- ---- along the choices

-- a machine of a run, whose test is within the limits, whose lines have a word at least, and whose protocol keeps no copy in I
pub record IsKept (m : Running) : Type 0 where
  pub sound : IsSound m
  test : IsTest m.test
  known : AreStoresKnown m.test m.state.flat
  words : 0 < m.statistics.caches.shape.words
  pub cores : length m.statistics.counts ≡ length m.test.programs
  keeps : KeepsNoCopyInI (table_of_rows m.statistics.caches.rows)
  pub neat : AllNeat (number_of_lines m) m.statistics.caches.contents
  pub may : HolderMayMake (access_of m.test m.depth m.state.flat) m.state.holder m.statistics.caches

-- the rows of the protocol's table stay
pub rows-kept : (m : Running) (c : Choice) → (machine_after m c).statistics.caches.rows ≡ m.statistics.caches.rows
rows-kept m c =
    let f = machine_effect m c in
    (used-machine (is_awaited m.state.holder) (is_awaited f.holder) m.statistics.caches (chosen c)
    (access_of m.test m.depth m.state.flat c) (core_of m.state.flat (chosen c)).pending f.effect.commits).0

pub kept-after : (m : Running) (c : Choice) → IsKept m → IsKept (machine_after m c)
kept-after m c k =
    let caches = m.statistics.caches in
    let before : Choice → MemoryAccess = access_of m.test m.depth m.state.flat in
    let after : Choice → MemoryAccess = access_of m.test m.depth (machine_after m c).state.flat in
    let next = (machine_after m c).state.holder in
    let uses = (uses-of m c k.sound).0 in
    let within = within-lines m.test caches.shape.words (before c) k.words (access-known m.test m.depth m.state.flat c k.test k.known) in
    record {
      sound = sound-after m c k.sound;
      test = k.test;
      known = stores-kept m c k.test k.known;
      words = subst (λ n. 0 < n) (sym (words-kept m c)) k.words;
      cores = length-counted (chosen c) (machine_use m c).how m.statistics.counts ∙ k.cores;
      keeps = subst (λ rows. KeepsNoCopyInI (table_of_rows rows)) (sym (rows-kept m c)) k.keeps;
      neat =
          subst (λ n. AllNeat n (machine_use m c).caches.contents)
          (sym (ap (λ n. div_ceil (length m.test.locations) n) (words-kept m c)))
          (neat-after m.bus caches c before after m.state.holder next
          (machine_use m c) k.keeps k.may (number_of_lines m) uses within k.neat);
      may =
          may-after m.bus caches c before after m.state.holder next
          (machine_use m c) k.keeps k.may (number_of_lines m) uses k.neat;
    }

-- what a choice does that writes a line back
pub fills-of : (m : Running) (c : Choice) → IsKept m → FillsIf m.statistics.caches (chosen c) (access_of m.test m.depth m.state.flat c) (machine_use m c)
fills-of m c k =
    fills-by m.bus m.statistics.caches c (access_of m.test m.depth m.state.flat)
    (access_of m.test m.depth (machine_after m c).state.flat) m.state.holder (machine_after m c).state.holder
    (machine_use m c) k.keeps k.may (uses-of m c k.sound).0

-- the caches are empty at the beginning
empty-sets : {A : Type 0} (P : ℕ → protocol.State → Type 0) (f : A → TagSet) (x : A) (count i : ℕ)
    → IsNeat P (f x)
    → IsNeat P (slice_index_or (map f (replicate count x)) i no_set)
empty-sets P f x zero i h = none-neat P
empty-sets P f x (suc count) zero h = h
empty-sets P f x (suc count) (suc i) h = empty-sets P f x count i h

empty-neat : {A : Type 0} (lines : ℕ) (f : A → TagSet) (x : A) (cores count : ℕ)
    → ((P : ℕ → protocol.State → Type 0) → IsNeat P (f x))
    → AllNeat lines (map (map f) (replicate cores (replicate count x)))
empty-neat lines f x zero count h core = no-sets lines
empty-neat lines f x (suc cores) count h zero = λ i. empty-sets _ f x count i (h _)
empty-neat lines f x (suc cores) count h (suc core) = empty-neat lines f x cores count h core

keeps-first : (table : Table) → KeepsNoCopyInI table → KeepsNoCopyInI (table_of_rows (rows_of table))
keeps-first table keeps = record { filled = filled; written = written }
  where
    filled : (shared : Bool) → (table_of_rows (rows_of table)).filled shared ≢ tag.I
    filled true = keeps.filled true
    filled false = keeps.filled false

    written : (state : protocol.State) → (table_of_rows (rows_of table)).written state ≢ Some tag.I
    written tag.I = keeps.written tag.I
    written state = keeps.written state

pub kept-first : (table : Table) (c : Configuration) (t : Litmus) → IsTest t → 0 < c.shape.words → KeepsNoCopyInI table → IsKept (new_machine table c t)
kept-first table c t test words keeps = record {
  sound = sound-first table c t;
  test = test;
  known = stores-first t;
  words = words;
  cores = length-replicate (length t.programs) no_counts;
  keeps = keeps-first table keeps;
  neat = empty-neat (number_of_lines (new_machine table c t)) tags_in _ (length t.programs) c.shape.sets (λ P. record { kind = tt; once = tt });
  may = tt;
}

-- in each machine that choices of a test lead to
pub kept-along : (m : Running) (choices : List Choice) → IsKept m → IsKept (after_choices m choices)
kept-along m [] k = k
kept-along m (c ∷ cs) k = kept-along (machine_after m c) cs (kept-after m c k)
