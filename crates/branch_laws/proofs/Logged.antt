-- The same tree with what it read as its outputs: so what holds of outcomes holds of paths.
use Rattle.std.proofs.Common.{◌≡◌, ℕ, ◌+◌, zero, suc, List, [], ◌∷◌, ◌++◌, Some, None, map, ◌<◌, ◌≤◌, length, slice_index, slice_index_or}
use Rattle.std.proofs.Common.{slice_get, drop, arith, ap, sym, ◌∙◌, refl, subst, inl, inr, append_assoc}
use Rattle.basic_laws.proofs.Lists.{append-nil}
use Rattle.tso_terms.specs.Litmus.{IsTest}
use Rattle.tso_terms.specs.Thread.{entry, fence}
use Rattle.tso_terms.specs.ProgramEntries.{read_value}
use Rattle.basic_laws.specs.Types.{Entry, Instr, R, W, LR, LW, Eax, Ebx, Load, StoreImm, SetImm, Fence}
use Rattle.branch_laws.specs.Trees.{Tree, Done, Cut, Reads, Stores, Fences, Locks, written, operand, locking, path, entries_along, values_along, outputs_along}
use Rattle.branch_laws.specs.Branching.{Branching, Give, paths, zero_registers, straight, values_from, made_along, IsBranchExecution}
use Rattle.branch_laws.specs.Branching.{IsPathExecution, IsBranchOutcome, IsPathOutcome}
use Rattle.branch_laws.specs.Rounds.{StandsAmong, seen_at, may_write, all_may_write, round, all_paths, EachPathIsTest}
use Rattle.branch_laws.specs.SamePaths.{IsSamePath, both_end, both_read, both_store, both_fence, both_lock, stores_alone, other_stores}
use Rattle.branch_laws.specs.SamePaths.{HasTheSamePaths, SamePathsLeaveTheSame}
use Rattle.branch_laws.specs.Shown.{Keeping, InRegister, InLocation, Nowhere, first_keeping, note, tree_with_notes, all_noted, with_notes}
use Rattle.branch_laws.specs.Shown.{note_at, UsesFirst, AreOwn}
use Rattle.branch_laws.proofs.Among.{among-left, among-right, among-either, among-map, map-among, among-for-each, for-each-among}
use Rattle.branch_laws.proofs.Rounds.{all-more-writes, more-paths}
use Rattle.branch_laws.proofs.Splitting.{own-all, to-path, from-some}
use Rattle.branch_laws.proofs.Notes.{Beyond, first-beyond, rest-beyond, noted-outputs, noted-at, length-noted, same-with, same-without, notes-are-beyond}

abbrev logged : Tree → List ℕ → Tree
logged (Done outputs) seen = Done seen
logged Cut seen = Cut
logged (Reads loc next) seen = Reads loc (λ v. logged (next v) (seen ++ v ∷ []))
logged (Stores loc value next) seen = Stores loc value (logged next seen)
logged (Fences next) seen = Fences (logged next seen)
logged (Locks loc change next) seen = Locks loc change (λ v. logged (next v) (seen ++ v ∷ []))

abbrev all_logged : List Tree → List Tree
all_logged [] = []
all_logged (tree ∷ trees) = logged tree [] ∷ all_logged trees

abbrev log : Branching → Branching
log b = record { name = b.name; locations = b.locations; words = b.words; trees = all_logged b.trees }

log-entries : (c p : ℕ) (tree : Tree) (seen values : List ℕ) → entries_along c p (logged tree seen) values ≡ entries_along c p tree values
log-entries c p (Done o) seen values = refl
log-entries c p Cut seen values = refl
log-entries c p (Reads loc next) seen values =
    let v : ℕ = slice_index values 0 in ap (λ z. entry c p R loc v ∷ z) (log-entries c (p + 1) (next v) (seen ++ v ∷ []) (drop 1 values))
log-entries c p (Stores loc value next) seen values = ap (λ z. entry c p W loc value ∷ z) (log-entries c (p + 1) next seen values)
log-entries c p (Fences next) seen values = ap (λ z. fence c p ∷ z) (log-entries c (p + 1) next seen values)
log-entries c p (Locks loc change next) seen values =
    let v : ℕ = slice_index values 0 in
    ap (λ z. entry c (p + 1) LR loc v ∷ (entry c (p + 1) LW loc (written change v) ∷ z)) (log-entries c ((p + 1) + 1) (next v) (seen ++ v ∷ []) (drop 1 values))

log-values : (c p : ℕ) (tree : Tree) (seen : List ℕ) (order : List Entry) → values_along c p (logged tree seen) order ≡ values_along c p tree order
log-values c p (Done o) seen order = refl
log-values c p Cut seen order = refl
log-values c p (Reads loc next) seen order =
    let v : ℕ = read_value c p R order in ap (λ z. v ∷ z) (log-values c (p + 1) (next v) (seen ++ v ∷ []) order)
log-values c p (Stores loc value next) seen order = log-values c (p + 1) next seen order
log-values c p (Fences next) seen order = log-values c (p + 1) next seen order
log-values c p (Locks loc change next) seen order =
    let v : ℕ = read_value c (p + 1) LR order in ap (λ z. v ∷ z) (log-values c ((p + 1) + 1) (next v) (seen ++ v ∷ []) order)

log-outputs : (tree : Tree) (seen values outputs : List ℕ)
    → outputs_along tree values ≡ Some outputs
    → outputs_along (logged tree seen) values ≡ Some (seen ++ values)
log-outputs (Done o) seen [] outputs e = ap Some (sym (append-nil seen))
log-outputs (Done o) seen (v ∷ values) outputs e = absurd (let z : ⊥ = cc in z)
log-outputs Cut seen values outputs e = absurd (let z : ⊥ = cc in z)
log-outputs (Reads loc next) seen [] outputs e = absurd (let z : ⊥ = cc in z)
log-outputs (Reads loc next) seen (v ∷ values) outputs e = log-outputs (next v) (seen ++ v ∷ []) values outputs e ∙ ap Some (append_assoc seen (v ∷ []) values)
log-outputs (Stores loc value next) seen values outputs e = log-outputs next seen values outputs e
log-outputs (Fences next) seen values outputs e = log-outputs next seen values outputs e
log-outputs (Locks loc change next) seen [] outputs e = absurd (let z : ⊥ = cc in z)
log-outputs (Locks loc change next) seen (v ∷ values) outputs e =
    log-outputs (next v) (seen ++ v ∷ []) values outputs e ∙ ap Some (append_assoc seen (v ∷ []) values)

outputs-log : (tree : Tree) (seen values found : List ℕ) → outputs_along (logged tree seen) values ≡ Some found → seen ++ values ≡ found
outputs-log (Done o) seen [] found e = append-nil seen ∙ (let z : seen ≡ found = cc in z)
outputs-log (Done o) seen (v ∷ values) found e = absurd (let z : ⊥ = cc in z)
outputs-log Cut seen values found e = absurd (let z : ⊥ = cc in z)
outputs-log (Reads loc next) seen [] found e = absurd (let z : ⊥ = cc in z)
outputs-log (Reads loc next) seen (v ∷ values) found e = sym (append_assoc seen (v ∷ []) values) ∙ outputs-log (next v) (seen ++ v ∷ []) values found e
outputs-log (Stores loc value next) seen values found e = outputs-log next seen values found e
outputs-log (Fences next) seen values found e = outputs-log next seen values found e
outputs-log (Locks loc change next) seen [] found e = absurd (let z : ⊥ = cc in z)
outputs-log (Locks loc change next) seen (v ∷ values) found e = sym (append_assoc seen (v ∷ []) values) ∙ outputs-log (next v) (seen ++ v ∷ []) values found e

log-path : (tree : Tree) (seen values : List ℕ) → path (logged tree seen) values ≡ path tree values
log-path (Done o) seen values = refl
log-path Cut seen values = refl
log-path (Reads loc next) seen values = let v : ℕ = slice_index values 0 in ap (λ z. Load Eax loc ∷ z) (log-path (next v) (seen ++ v ∷ []) (drop 1 values))
log-path (Stores loc value next) seen values = ap (λ z. StoreImm loc value ∷ z) (log-path next seen values)
log-path (Fences next) seen values = ap (λ z. Fence ∷ z) (log-path next seen values)
log-path (Locks loc change next) seen values =
    let v : ℕ = slice_index values 0 in
    ap (λ z. SetImm Ebx (operand change v) ∷ (locking change loc Ebx ∷ z)) (log-path (next v) (seen ++ v ∷ []) (drop 1 values))

log-writes : (domain : ℕ → List ℕ) (target x : ℕ) (tree : Tree) (seen : List ℕ)
    → StandsAmong x (may_write domain target (logged tree seen))
    → StandsAmong x (may_write domain target tree)
log-writes domain target x (Done o) seen h = h
log-writes domain target x Cut seen h = h
log-writes domain target x (Reads loc next) seen h =
    let r = for-each-among x (domain loc.0) (λ v. may_write domain target (logged (next v) (seen ++ v ∷ []))) h in
    among-for-each x r.0 (domain loc.0) (λ v. may_write domain target (next v)) r.1 (log-writes domain target x (next r.0) (seen ++ r.0 ∷ []) r.2)
log-writes domain target x (Stores loc value next) seen h = elim (among-either x (seen_at target loc value) (may_write domain target (logged next seen)) h) [
  | inl k ↦ among-left x (seen_at target loc value) (may_write domain target next) k
  | inr k ↦ among-right x (seen_at target loc value) (may_write domain target next) (log-writes domain target x next seen k)
]
log-writes domain target x (Fences next) seen h = log-writes domain target x next seen h
log-writes domain target x (Locks loc change next) seen h =
    let r = for-each-among x (domain loc.0) (λ v. seen_at target loc (written change v) ++ may_write domain target (logged (next v) (seen ++ v ∷ []))) h in
    among-for-each x r.0 (domain loc.0) (λ v. seen_at target loc (written change v) ++ may_write domain target (next v)) r.1
    (elim (among-either x (seen_at target loc (written change r.0)) (may_write domain target (logged (next r.0) (seen ++ r.0 ∷ []))) r.2) [
      | inl k ↦ among-left x (seen_at target loc (written change r.0)) (may_write domain target (next r.0)) k
      | inr k ↦
          among-right x (seen_at target loc (written change r.0)) (may_write domain target (next r.0))
          (log-writes domain target x (next r.0) (seen ++ r.0 ∷ []) k)
    ])

log-all-writes : (domain : ℕ → List ℕ) (target x : ℕ) (trees : List Tree)
    → StandsAmong x (all_may_write domain target (all_logged trees))
    → StandsAmong x (all_may_write domain target trees)
log-all-writes domain target x [] h = h
log-all-writes domain target x (tree ∷ trees) h =
    elim (among-either x (may_write domain target (logged tree [])) (all_may_write domain target (all_logged trees)) h) [
      | inl k ↦ among-left x (may_write domain target tree) (all_may_write domain target trees) (log-writes domain target x tree [] k)
      | inr k ↦ among-right x (may_write domain target tree) (all_may_write domain target trees) (log-all-writes domain target x trees k)
    ]

log-paths : (domain : ℕ → List ℕ) (values : List ℕ) (tree : Tree) (seen : List ℕ)
    → StandsAmong values (all_paths domain (logged tree seen))
    → StandsAmong values (all_paths domain tree)
log-paths domain values (Done o) seen h = h
log-paths domain values Cut seen h = h
log-paths domain values (Reads loc next) seen h =
    let r = for-each-among values (domain loc.0) (λ v. map (λ z. v ∷ z) (all_paths domain (logged (next v) (seen ++ v ∷ [])))) h in
    let m = map-among (λ z. r.0 ∷ z) values (all_paths domain (logged (next r.0) (seen ++ r.0 ∷ []))) r.2 in
    among-for-each values r.0 (domain loc.0) (λ v. map (λ z. v ∷ z) (all_paths domain (next v))) r.1
    (subst (λ z. StandsAmong z (map (λ y. r.0 ∷ y) (all_paths domain (next r.0)))) (sym m.2)
    (among-map (λ z. r.0 ∷ z) m.0 (all_paths domain (next r.0)) (log-paths domain m.0 (next r.0) (seen ++ r.0 ∷ []) m.1)))
log-paths domain values (Stores loc value next) seen h = log-paths domain values next seen h
log-paths domain values (Fences next) seen h = log-paths domain values next seen h
log-paths domain values (Locks loc change next) seen h =
    let r = for-each-among values (domain loc.0) (λ v. map (λ z. v ∷ z) (all_paths domain (logged (next v) (seen ++ v ∷ [])))) h in
    let m = map-among (λ z. r.0 ∷ z) values (all_paths domain (logged (next r.0) (seen ++ r.0 ∷ []))) r.2 in
    among-for-each values r.0 (domain loc.0) (λ v. map (λ z. v ∷ z) (all_paths domain (next v))) r.1
    (subst (λ z. StandsAmong z (map (λ y. r.0 ∷ y) (all_paths domain (next r.0)))) (sym m.2)
    (among-map (λ z. r.0 ∷ z) m.0 (all_paths domain (next r.0)) (log-paths domain m.0 (next r.0) (seen ++ r.0 ∷ []) m.1)))

log-round : (b : Branching) (n loc v : ℕ) → StandsAmong v (round (log b) n loc) → StandsAmong v (round b n loc)
log-round b zero loc v h = h
log-round b (suc n) loc v h = elim (among-either v (round (log b) n loc) (all_may_write (round (log b) n) loc (all_logged b.trees)) h) [
  | inl k ↦ among-left v (round b n loc) (all_may_write (round b n) loc b.trees) (log-round b n loc v k)
  | inr k ↦ among-right v (round b n loc) (all_may_write (round b n) loc b.trees)
      (all-more-writes (round (log b) n) (round b n) loc v b.trees (log-round b n) (log-all-writes (round (log b) n) loc v b.trees k))
]

log-at : (trees : List Tree) (k : ℕ) → slice_index_or (all_logged trees) k Cut ≡ logged (slice_index_or trees k Cut) []
log-at [] k = refl
log-at (tree ∷ trees) zero = refl
log-at (tree ∷ trees) (suc k) = log-at trees k

length-log : (trees : List Tree) → length (all_logged trees) ≡ length trees
length-log [] = refl
length-log (tree ∷ trees) = ap suc (length-log trees)

log-programs : (trees : List Tree) (values : List (List ℕ)) → paths (all_logged trees) values ≡ paths trees values
log-programs [] values = refl
log-programs (tree ∷ trees) values =
    ap (λ z. z ∷ paths (all_logged trees) (drop 1 values)) (log-path tree [] (slice_index_or values 0 []))
    ∙ ap (λ z. path tree (slice_index_or values 0 []) ∷ z) (log-programs trees (drop 1 values))

log-zeros : (trees : List Tree) → zero_registers (all_logged trees) ≡ zero_registers trees
log-zeros [] = refl
log-zeros (tree ∷ trees) = ap (λ z. (0 ∷ (0 ∷ (0 ∷ (0 ∷ (0 ∷ (0 ∷ [])))))) ∷ z) (log-zeros trees)

log-tests : (b : Branching) → EachPathIsTest b → EachPathIsTest (log b)
log-tests b test n values are =
    let one : IsTest (straight b values) = test n values (λ k l. log-paths (round b n) (slice_index_or values k []) (slice_index_or b.trees k Cut) []
    (more-paths (round (log b) n) (round b n) (slice_index_or values k []) (logged (slice_index_or b.trees k Cut) []) (log-round b n)
    (subst (λ z. StandsAmong (slice_index_or values k []) (all_paths (round (log b) n) z)) (log-at b.trees k)
    (are k (let z = length-log b.trees in omega arith))))) in
    with-programs (zero_registers b.trees) (zero_registers (all_logged b.trees)) (paths b.trees values) (paths (all_logged b.trees) values)
    (sym (log-zeros b.trees)) (sym (log-programs b.trees values)) one
  where
    with-programs : (r s : List (List ℕ)) (p q : List (List Instr))
        → r ≡ s
        → p ≡ q
        → IsTest (record {
          name = b.name;
          locations = b.locations;
          words = b.words;
          registers = r;
          programs = p;
          condition = None;
        })
        → IsTest (record { name = b.name; locations = b.locations; words = b.words; registers = s; programs = q; condition = None })
    with-programs r s p q e f h =
        subst (λ z. IsTest (record { name = b.name; locations = b.locations; words = b.words; registers = s; programs = z; condition = None })) f
        (subst (λ z. IsTest (record { name = b.name; locations = b.locations; words = b.words; registers = z; programs = p; condition = None })) e h)

-- a path's outcome is one of the logged test with its values

all-log-values : (c : ℕ) (trees : List Tree) (order : List Entry) → values_from c (all_logged trees) order ≡ values_from c trees order
all-log-values c [] order = refl
all-log-values c (tree ∷ trees) order =
    ap (λ z. z ∷ values_from (c + 1) (all_logged trees) order) (log-values c 0 tree [] order)
    ∙ ap (λ z. values_along c 0 tree order ∷ z) (all-log-values (c + 1) trees order)

all-log-made : (c : ℕ) (trees : List Tree) (order : List Entry) → made_along c (all_logged trees) order ≡ made_along c trees order
all-log-made c [] order = refl
all-log-made c (tree ∷ trees) order =
    ap (λ z. entries_along c 0 (logged tree []) z ++ made_along (c + 1) (all_logged trees) order) (log-values c 0 tree [] order)
    ∙ ap (λ z. z ++ made_along (c + 1) (all_logged trees) order) (log-entries c 0 tree [] (values_along c 0 tree order))
    ∙ ap (λ z. entries_along c 0 tree (values_along c 0 tree order) ++ z) (all-log-made (c + 1) trees order)

give-log : (trees : List Tree) (values outputs : List (List ℕ)) → Give trees values outputs → Give (all_logged trees) values values
give-log [] [] [] g = tt
give-log [] [] (o ∷ outputs) g = absurd g
give-log [] (v ∷ values) outputs g = absurd g
give-log (tree ∷ trees) [] outputs g = absurd g
give-log (tree ∷ trees) (v ∷ values) [] g = absurd g
give-log (tree ∷ trees) (v ∷ values) (o ∷ outputs) g = (log-outputs tree [] v o g.0, give-log trees values outputs g.1)

log-give : (trees : List Tree) (values found : List (List ℕ)) → Give (all_logged trees) values found → values ≡ found
log-give [] [] [] g = refl
log-give [] [] (o ∷ found) g = absurd g
log-give [] (v ∷ values) found g = absurd g
log-give (tree ∷ trees) [] found g = absurd g
log-give (tree ∷ trees) (v ∷ values) [] g = absurd g
log-give (tree ∷ trees) (v ∷ values) (o ∷ found) g = ap (λ z. z ∷ values) (outputs-log tree [] v o g.0) ∙ ap (λ z. o ∷ z) (log-give trees values found g.1)

to-log : (b : Branching) (values outputs : List (List ℕ)) (memory : List ℕ) → IsPathOutcome b values outputs memory → IsBranchOutcome (log b) values memory
to-log b values outputs memory h =
    let order : List Entry = h.order in
    let e = from-some b values order outputs h.execution in
    let own : values_from 0 b.trees order ≡ values = own-all 0 b.trees values outputs order h.execution.done h.execution.reads in
    record {
      order = order;
      execution = record {
        done = subst (λ z. Give (all_logged b.trees) z values) (sym (all-log-values 0 b.trees order ∙ own)) (give-log b.trees values outputs h.execution.done);
        count = subst (λ z. length order ≡ length z) (sym (all-log-made 0 b.trees order)) e.count;
        each = subst (λ z. (k : ℕ) (e : Entry) → slice_get z k ≡ Some e → (i : ℕ) × (slice_get order i ≡ Some e)) (sym (all-log-made 0 b.trees order)) e.each;
        program_order = e.program_order;
        adjacent = e.adjacent;
        read_values = e.read_values;
      };
      memory_is = h.memory_is;
    }

from-log : (b : Branching) (values outputs : List (List ℕ)) (memory : List ℕ)
    → Give b.trees values outputs
    → IsBranchOutcome (log b) values memory
    → IsPathOutcome b values outputs memory
from-log b values outputs memory g h =
    let order : List Entry = h.order in
    let e = h.execution in
    let own : values_from 0 b.trees order ≡ values =
    log-give b.trees (values_from 0 b.trees order) values (subst (λ z. Give (all_logged b.trees) z values) (all-log-values 0 b.trees order) e.done) in
    let here : IsBranchExecution b order outputs = record {
      done = subst (λ z. Give b.trees z outputs) (sym own) g;
      count = subst (λ z. length order ≡ length z) (all-log-made 0 b.trees order) e.count;
      each = subst (λ z. (k : ℕ) (e : Entry) → slice_get z k ≡ Some e → (i : ℕ) × (slice_get order i ≡ Some e)) (all-log-made 0 b.trees order) e.each;
      program_order = e.program_order;
      adjacent = e.adjacent;
      read_values = e.read_values;
    } in
    record {
      order = order;
      execution = subst (λ z. IsPathExecution b z order outputs) own (to-path b order outputs here);
      memory_is = h.memory_is;
    }

-- notes beside a log

log-add : (n : ℕ) (k : Keeping) (v : ℕ) (tree other : Tree) (seen values : List ℕ) → ((own : ℕ) → StandsAmong own (note_at k) → n ≤ own)
    → IsSamePath n tree values (logged other seen) → IsSamePath n tree values (logged (note k v other) seen)
log-add n (InRegister reg) v tree other seen values f h = h
log-add n (InLocation reg own) v tree other seen values f h = other_stores own v tree values (logged other seen) (f own.0 (inl refl)) h
log-add n (Nowhere reg) v tree other seen values f h = h

log-drop : (n : ℕ) (k : Keeping) (v : ℕ) (tree other : Tree) (seen values : List ℕ) → ((own : ℕ) → StandsAmong own (note_at k) → n ≤ own)
    → IsSamePath n (logged tree seen) values other → IsSamePath n (logged (note k v tree) seen) values other
log-drop n (InRegister reg) v tree other seen values f h = h
log-drop n (InLocation reg own) v tree other seen values f h = stores_alone own v (logged tree seen) values other (f own.0 (inl refl)) h
log-drop n (Nowhere reg) v tree other seen values f h = h

log-gets : (n : ℕ) (tree : Tree) (seen values found : List ℕ) (keeps : List Keeping)
    → UsesFirst n tree
    → Beyond n keeps
    → outputs_along (logged tree seen) values ≡ Some found
    → IsSamePath n (logged tree seen) values (logged (tree_with_notes tree keeps) seen)
log-gets n (Done o) seen [] found keeps u f e = both_end seen
log-gets n (Done o) seen (v ∷ values) found keeps u f e = absurd (let z : ⊥ = cc in z)
log-gets n Cut seen values found keeps u f e = absurd (let z : ⊥ = cc in z)
log-gets n (Reads loc next) seen [] found keeps u f e = absurd (let z : ⊥ = cc in z)
log-gets n (Reads loc next) seen (v ∷ values) found keeps u f e =
    both_read loc (λ w. logged (next w) (seen ++ w ∷ []))
    (λ w. logged (note (first_keeping keeps) w (tree_with_notes (next w) (drop 1 keeps))) (seen ++ w ∷ [])) v values u.0
    (log-add n (first_keeping keeps) v (logged (next v) (seen ++ v ∷ [])) (tree_with_notes (next v) (drop 1 keeps))
    (seen ++ v ∷ []) values (first-beyond n keeps f)
    (log-gets n (next v) (seen ++ v ∷ []) values found (drop 1 keeps) (u.1 v) (rest-beyond n keeps f) e))
log-gets n (Stores loc value next) seen values found keeps u f e =
    both_store loc value (logged next seen) (logged (tree_with_notes next keeps) seen) values u.0 (log-gets n next seen values found keeps u.1 f e)
log-gets n (Fences next) seen values found keeps u f e =
    both_fence (logged next seen) (logged (tree_with_notes next keeps) seen) values (log-gets n next seen values found keeps u f e)
log-gets n (Locks loc change next) seen [] found keeps u f e = absurd (let z : ⊥ = cc in z)
log-gets n (Locks loc change next) seen (v ∷ values) found keeps u f e =
    both_lock loc change (λ w. logged (next w) (seen ++ w ∷ []))
    (λ w. logged (note (first_keeping keeps) w (tree_with_notes (next w) (drop 1 keeps))) (seen ++ w ∷ [])) v values u.0
    (log-add n (first_keeping keeps) v (logged (next v) (seen ++ v ∷ [])) (tree_with_notes (next v) (drop 1 keeps))
    (seen ++ v ∷ []) values (first-beyond n keeps f)
    (log-gets n (next v) (seen ++ v ∷ []) values found (drop 1 keeps) (u.1 v) (rest-beyond n keeps f) e))

-- a note has no outputs of its own
log-note : (k : Keeping) (v : ℕ) (tree : Tree) (seen values : List ℕ)
    → outputs_along (logged (note k v tree) seen) values ≡ outputs_along (logged tree seen) values
log-note (InRegister reg) v tree seen values = refl
log-note (InLocation reg own) v tree seen values = refl
log-note (Nowhere reg) v tree seen values = refl

log-loses : (n : ℕ) (tree : Tree) (seen values found : List ℕ) (keeps : List Keeping)
    → UsesFirst n tree
    → Beyond n keeps
    → outputs_along (logged (tree_with_notes tree keeps) seen) values ≡ Some found
    → IsSamePath n (logged (tree_with_notes tree keeps) seen) values (logged tree seen)
log-loses n (Done o) seen [] found keeps u f e = both_end seen
log-loses n (Done o) seen (v ∷ values) found keeps u f e = absurd (let z : ⊥ = cc in z)
log-loses n Cut seen values found keeps u f e = absurd (let z : ⊥ = cc in z)
log-loses n (Reads loc next) seen [] found keeps u f e = absurd (let z : ⊥ = cc in z)
log-loses n (Reads loc next) seen (v ∷ values) found keeps u f e =
    both_read loc
    (λ w. logged (note (first_keeping keeps) w (tree_with_notes (next w) (drop 1 keeps))) (seen ++ w ∷ []))
    (λ w. logged (next w) (seen ++ w ∷ [])) v values u.0
    (log-drop n (first_keeping keeps) v (tree_with_notes (next v) (drop 1 keeps)) (logged (next v) (seen ++ v ∷ []))
    (seen ++ v ∷ []) values (first-beyond n keeps f)
    (log-loses n (next v) (seen ++ v ∷ []) values found (drop 1 keeps) (u.1 v) (rest-beyond n keeps f)
    (sym (log-note (first_keeping keeps) v (tree_with_notes (next v) (drop 1 keeps)) (seen ++ v ∷ []) values) ∙ e)))
log-loses n (Stores loc value next) seen values found keeps u f e =
    both_store loc value (logged (tree_with_notes next keeps) seen) (logged next seen) values u.0 (log-loses n next seen values found keeps u.1 f e)
log-loses n (Fences next) seen values found keeps u f e =
    both_fence (logged (tree_with_notes next keeps) seen) (logged next seen) values (log-loses n next seen values found keeps u f e)
log-loses n (Locks loc change next) seen [] found keeps u f e = absurd (let z : ⊥ = cc in z)
log-loses n (Locks loc change next) seen (v ∷ values) found keeps u f e =
    both_lock loc change
    (λ w. logged (note (first_keeping keeps) w (tree_with_notes (next w) (drop 1 keeps))) (seen ++ w ∷ []))
    (λ w. logged (next w) (seen ++ w ∷ [])) v values u.0
    (log-drop n (first_keeping keeps) v (tree_with_notes (next v) (drop 1 keeps)) (logged (next v) (seen ++ v ∷ []))
    (seen ++ v ∷ []) values (first-beyond n keeps f)
    (log-loses n (next v) (seen ++ v ∷ []) values found (drop 1 keeps) (u.1 v) (rest-beyond n keeps f)
    (sym (log-note (first_keeping keeps) v (tree_with_notes (next v) (drop 1 keeps)) (seen ++ v ∷ []) values) ∙ e)))

both-at : (b : Branching) (keeps : List (List Keeping)) (k : ℕ)
    → slice_index_or (all_logged (all_noted b.trees keeps)) k Cut ≡ logged (tree_with_notes (slice_index_or b.trees k Cut) (slice_index_or keeps k [])) []
both-at b keeps k = log-at (all_noted b.trees keeps) k ∙ ap (λ z. logged z []) (noted-at b.trees keeps k)

log-with : (b : Branching) (names : List (List ℕ)) (keeps : List (List Keeping))
    → AreOwn b names keeps
    → HasTheSamePaths (length b.words) (log b) (log (with_notes b names keeps))
log-with b names keeps own =
    let s = same-with b names keeps own in
    record {
      cores = length-log (all_noted b.trees keeps) ∙ s.cores ∙ sym (length-log b.trees);
      locations = s.locations;
      other_locations = s.other_locations;
      words = s.words;
      paths = λ k values outputs l e. subst (λ z. IsSamePath (length b.words) (slice_index_or (all_logged b.trees) k Cut) values z) (sym (both-at b keeps k))
          (subst (λ z.
          IsSamePath (length b.words) z values (logged (tree_with_notes (slice_index_or b.trees k Cut) (slice_index_or keeps k [])) []))
          (sym (log-at b.trees k))
          (log-gets (length b.words) (slice_index_or b.trees k Cut) [] values outputs (slice_index_or keeps k [])
          (own.trees k (let z = length-log b.trees in omega arith)) (notes-are-beyond b names keeps own k)
          (subst (λ z. outputs_along z values ≡ Some outputs) (log-at b.trees k) e)));
    }

log-without : (b : Branching) (names : List (List ℕ)) (keeps : List (List Keeping))
    → AreOwn b names keeps
    → HasTheSamePaths (length b.words) (log (with_notes b names keeps)) (log b)
log-without b names keeps own =
    let s = same-without b names keeps own in
    record {
      cores = length-log b.trees ∙ s.cores ∙ sym (length-log (all_noted b.trees keeps));
      locations = s.locations;
      other_locations = s.other_locations;
      words = s.words;
      paths = λ k values outputs l e. subst (λ z. IsSamePath (length b.words) z values (slice_index_or (all_logged b.trees) k Cut)) (sym (both-at b keeps k))
          (subst (λ z.
          IsSamePath (length b.words) (logged (tree_with_notes (slice_index_or b.trees k Cut) (slice_index_or keeps k [])) []) values z)
          (sym (log-at b.trees k))
          (log-loses (length b.words) (slice_index_or b.trees k Cut) [] values outputs (slice_index_or keeps k [])
          (own.trees k (let z = length-log (all_noted b.trees keeps) in let y = length-noted b.trees keeps in omega arith))
          (notes-are-beyond b names keeps own k)
          (subst (λ z. outputs_along z values ≡ Some outputs) (both-at b keeps k) e)));
    }

give-noted : (trees : List Tree) (values outputs : List (List ℕ)) (keeps : List (List Keeping))
    → Give trees values outputs
    → Give (all_noted trees keeps) values outputs
give-noted [] [] [] keeps g = tt
give-noted [] [] (o ∷ outputs) keeps g = absurd g
give-noted [] (v ∷ values) outputs keeps g = absurd g
give-noted (tree ∷ trees) [] outputs keeps g = absurd g
give-noted (tree ∷ trees) (v ∷ values) [] keeps g = absurd g
give-noted (tree ∷ trees) (v ∷ values) (o ∷ outputs) keeps g =
    (noted-outputs tree v (slice_index_or keeps 0 []) ∙ g.0, give-noted trees values outputs (drop 1 keeps) g.1)

noted-give : (trees : List Tree) (values outputs : List (List ℕ)) (keeps : List (List Keeping))
    → Give (all_noted trees keeps) values outputs
    → Give trees values outputs
noted-give [] [] [] keeps g = tt
noted-give [] [] (o ∷ outputs) keeps g = absurd g
noted-give [] (v ∷ values) outputs keeps g = absurd g
noted-give (tree ∷ trees) [] outputs keeps g = absurd g
noted-give (tree ∷ trees) (v ∷ values) [] keeps g = absurd g
noted-give (tree ∷ trees) (v ∷ values) (o ∷ outputs) keeps g =
    (sym (noted-outputs tree v (slice_index_or keeps 0 [])) ∙ g.0, noted-give trees values outputs (drop 1 keeps) g.1)

pub path-with : SamePathsLeaveTheSame → (b : Branching) (names values outputs : List (List ℕ)) (keeps : List (List Keeping)) (memory : List ℕ)
    → AreOwn b names keeps → EachPathIsTest b → EachPathIsTest (with_notes b names keeps) → IsPathOutcome b values outputs memory
    → (more : List ℕ)
    × IsPathOutcome (with_notes b names keeps) values outputs more
    × ((loc : ℕ) → loc < length b.words → slice_index more loc ≡ slice_index memory loc)
path-with law b names values outputs keeps memory own tests noted_tests h =
    let r = law (length b.words) (log b) (log (with_notes b names keeps)) values memory (log-tests b tests) (log-tests (with_notes b names keeps) noted_tests)
    (log-with b names keeps own) (to-log b values outputs memory h) in
    (r.0, from-log (with_notes b names keeps) values outputs r.0 (give-noted b.trees values outputs keeps h.execution.done) r.1, r.2)

pub path-without : SamePathsLeaveTheSame → (b : Branching) (names values outputs : List (List ℕ)) (keeps : List (List Keeping)) (more : List ℕ)
    → AreOwn b names keeps → EachPathIsTest b → EachPathIsTest (with_notes b names keeps) → IsPathOutcome (with_notes b names keeps) values outputs more
    → (memory : List ℕ) × IsPathOutcome b values outputs memory × ((loc : ℕ) → loc < length b.words → slice_index memory loc ≡ slice_index more loc)
path-without law b names values outputs keeps more own tests noted_tests h =
    let r = law (length b.words) (log (with_notes b names keeps)) (log b) values more (log-tests (with_notes b names keeps) noted_tests) (log-tests b tests)
    (log-without b names keeps own) (to-log (with_notes b names keeps) values outputs more h) in
    (r.0, from-log b values outputs r.0 (noted-give b.trees values outputs keeps h.execution.done) r.1, r.2)
