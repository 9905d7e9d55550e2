-- The straight-line programs of a path make what the tree makes.
use Rattle.std.proofs.Common.{◌≡◌, ℕ, ◌+◌, zero, suc, List, [], ◌∷◌, ◌++◌, Some, length, slice_index, slice_index_or, slice_set, drop, ◌<◌}
use Rattle.std.proofs.Common.{◌↔◌, arith, ap, sym, ◌∙◌, refl, subst, get_or-set_same, slice_get}
use Rattle.std.proofs.Math.ListN.{length-set}
use Rattle.tso_terms.specs.Thread.{entry, fence, entries_of, with_value, value_in}
use Rattle.tso_terms.specs.ProgramEntries.{read_value, read_values, made_from, made_by}
use Rattle.tso_terms.specs.Axioms.{IsTsoExecution}
use Rattle.basic_laws.specs.Types.{Entry, R, W, LR, LW, Eax, Ebx}
use Rattle.branch_laws.specs.Trees.{Tree, Done, Cut, Reads, Stores, Fences, Locks, written, operand, entries_along, values_along, outputs_along, path}
use Rattle.branch_laws.proofs.Locking.{left-by-operand, locking-entries, locking-reads}
use Rattle.branch_laws.specs.Branching.{Branching, Give, values_from, made_along, paths, zero_registers, straight, all_read_values}
use Rattle.branch_laws.specs.Branching.{IsBranchExecution, IsPathExecution, IsBranchOutcome, IsPathOutcome}

pub still-long : (regs : List ℕ) (k v : ℕ) → 1 < length regs → 1 < length (slice_set regs k v)
still-long regs k v l = let e = length-set regs k v in omega arith

pub moved-in : (regs : List ℕ) (v : ℕ) → 1 < length regs → value_in (with_value regs Ebx v) Ebx ≡ v
moved-in regs v l = get_or-set_same regs 1 v 0 l

-- the program of a path makes the tree's entries
pub path-makes : (core place : ℕ) (tree : Tree) (values regs : List ℕ) → 1 < length regs
    → entries_of core place (path tree values) regs values ≡ entries_along core place tree values
path-makes core place (Done outputs) values regs l = refl
path-makes core place Cut values regs l = refl
path-makes core place (Reads loc next) values regs l =
    let v : ℕ = slice_index values 0 in
    ap (λ z. entry core place R loc v ∷ z) (path-makes core (place + 1) (next v) (drop 1 values) (with_value regs Eax v) (still-long regs 0 v l))
path-makes core place (Stores loc value next) values regs l =
    ap (λ z. entry core place W loc value ∷ z) (path-makes core (place + 1) next values regs l)
path-makes core place (Fences next) values regs l = ap (λ z. fence core place ∷ z) (path-makes core (place + 1) next values regs l)
path-makes core place (Locks loc change next) values regs l =
    let v : ℕ = slice_index values 0 in let u : ℕ = operand change v in let held : List ℕ = with_value regs Ebx u in
    locking-entries core place change loc Ebx (path (next v) (drop 1 values)) regs values u (moved-in regs u l)
    ∙ ap (λ z. entry core (place + 1) LR loc v ∷ (entry core (place + 1) LW loc z
    ∷ entries_of core ((place + 1) + 1) (path (next v) (drop 1 values)) (with_value held Ebx v) (drop 1 values))) (left-by-operand change v)
    ∙ ap (λ z. entry core (place + 1) LR loc v ∷ (entry core (place + 1) LW loc (written change v) ∷ z))
    (path-makes core ((place + 1) + 1) (next v) (drop 1 values) (with_value held Ebx v) (still-long held 1 v (still-long regs 1 u l)))

-- its reads return what the tree's do
pub path-reads : (core place : ℕ) (tree : Tree) (order : List Entry)
    → read_values core place (path tree (values_along core place tree order)) order ≡ values_along core place tree order
path-reads core place (Done outputs) order = refl
path-reads core place Cut order = refl
path-reads core place (Reads loc next) order =
    let v : ℕ = read_value core place R order in ap (λ z. v ∷ z) (path-reads core (place + 1) (next v) order)
path-reads core place (Stores loc value next) order = path-reads core (place + 1) next order
path-reads core place (Fences next) order = path-reads core (place + 1) next order
path-reads core place (Locks loc change next) order =
    let v : ℕ = read_value core (place + 1) LR order in let rest : List ℕ = values_along core ((place + 1) + 1) (next v) order in
    locking-reads core place change loc Ebx (path (next v) rest) (operand change v) order ∙ ap (λ z. v ∷ z) (path-reads core ((place + 1) + 1) (next v) order)

first-of : (v w : ℕ) (xs ys : List ℕ) → v ∷ xs ≡ w ∷ ys → v ≡ w
first-of v w xs ys e = cc

rest-of : (v w : ℕ) (xs ys : List ℕ) → v ∷ xs ≡ w ∷ ys → xs ≡ ys
rest-of v w xs ys e = cc

-- where the program of given values reads these very values, they are the tree's own
pub given-are-own : (core place : ℕ) (tree : Tree) (values outputs : List ℕ) (order : List Entry) → outputs_along tree values ≡ Some outputs
    → read_values core place (path tree values) order ≡ values → values_along core place tree order ≡ values
given-are-own core place (Done outs) [] outputs order e q = refl
given-are-own core place (Done outs) (v ∷ values) outputs order e q = absurd (let z : ⊥ = cc in z)
given-are-own core place Cut values outputs order e q = absurd (let z : ⊥ = cc in z)
given-are-own core place (Reads loc next) [] outputs order e q = absurd (let z : ⊥ = cc in z)
given-are-own core place (Reads loc next) (v ∷ values) outputs order e q =
    let w : ℕ = read_value core place R order in
    let first : w ≡ v = first-of w v _ _ q in
    let rest : values_along core (place + 1) (next v) order ≡ values = given-are-own core (place + 1) (next v) values outputs order e (rest-of w v _ _ q) in
    rw first (ap (λ z. v ∷ z) rest)
given-are-own core place (Stores loc value next) values outputs order e q = given-are-own core (place + 1) next values outputs order e q
given-are-own core place (Fences next) values outputs order e q = given-are-own core (place + 1) next values outputs order e q
given-are-own core place (Locks loc change next) [] outputs order e q = absurd (let z : ⊥ = cc in z)
given-are-own core place (Locks loc change next) (v ∷ values) outputs order e q =
    let w : ℕ = read_value core (place + 1) LR order in
    let q1 : w ∷ read_values core ((place + 1) + 1) (path (next v) values) order ≡ v ∷ values
    = sym (locking-reads core place change loc Ebx (path (next v) values) (operand change v) order) ∙ q in
    let first : w ≡ v = first-of w v _ _ q1 in
    let rest : values_along core ((place + 1) + 1) (next v) order ≡ values =
    given-are-own core ((place + 1) + 1) (next v) values outputs order e (rest-of w v _ _ q1) in
    rw first (ap (λ z. v ∷ z) rest)

-- all cores

pub long-at : (trees : List Tree) (k : ℕ) → k < length trees → 1 < length (slice_index_or (zero_registers trees) k [])
long-at [] k l = absurd (omega arith)
long-at (tree ∷ trees) zero l = omega arith
long-at (tree ∷ trees) (suc k) l = long-at trees k (omega arith)

makes-all : (core : ℕ) (trees : List Tree) (registers : List (List ℕ)) (order : List Entry)
    → ((k : ℕ) → k < core + length trees → 1 < length (slice_index_or registers k []))
    → made_from core (paths trees (values_from core trees order)) registers order ≡ made_along core trees order
makes-all core [] registers order f = refl
makes-all core (tree ∷ trees) registers order f =
    let values : List ℕ = values_along core 0 tree order in
    let regs : List ℕ = slice_index_or registers core [] in
    let one : made_by core (path tree values) regs order ≡ entries_along core 0 tree values =
    (ap (λ z. entries_of core 0 (path tree values) regs z) (path-reads core 0 tree order) ∙ path-makes core 0 tree values regs (f core (omega arith))) in
    ap (λ z. z ++ made_from (core + 1) (paths trees (values_from (core + 1) trees order)) registers order) one
    ∙ ap (λ z. entries_along core 0 tree values ++ z) (makes-all (core + 1) trees registers order (λ k l. f k (omega arith)))

reads-all : (core : ℕ) (trees : List Tree) (order : List Entry)
    → all_read_values core (paths trees (values_from core trees order)) order ≡ values_from core trees order
reads-all core [] order = refl
reads-all core (tree ∷ trees) order =
    ap (λ z. z ∷ all_read_values (core + 1) (paths trees (values_from (core + 1) trees order)) order) (path-reads core 0 tree order)
    ∙ ap (λ z. values_along core 0 tree order ∷ z) (reads-all (core + 1) trees order)

first-list : (v w : List ℕ) (xs ys : List (List ℕ)) → v ∷ xs ≡ w ∷ ys → v ≡ w
first-list v w xs ys e = cc

rest-list : (v w : List ℕ) (xs ys : List (List ℕ)) → v ∷ xs ≡ w ∷ ys → xs ≡ ys
rest-list v w xs ys e = cc

pub own-all : (core : ℕ) (trees : List Tree) (values outputs : List (List ℕ)) (order : List Entry) → Give trees values outputs
    → all_read_values core (paths trees values) order ≡ values → values_from core trees order ≡ values
own-all core [] [] [] order g q = refl
own-all core [] [] (o ∷ outputs) order g q = absurd g
own-all core [] (v ∷ values) outputs order g q = absurd (let z : ⊥ = cc in z)
own-all core (tree ∷ trees) [] outputs order g q = absurd (let z : ⊥ = cc in z)
own-all core (tree ∷ trees) (v ∷ values) [] order g q = absurd g
own-all core (tree ∷ trees) (v ∷ values) (o ∷ outputs) order g q =
    let one : values_along core 0 tree order ≡ v = given-are-own core 0 tree v o order g.0 (first-list _ v _ values q) in
    let others : values_from (core + 1) trees order ≡ values = own-all (core + 1) trees values outputs order g.1 (rest-list _ v _ values q) in
    ap (λ z. z ∷ values_from (core + 1) trees order) one ∙ ap (λ z. v ∷ z) others

pub makes-own : (b : Branching) (order : List Entry)
    → made_from 0 (paths b.trees (values_from 0 b.trees order)) (zero_registers b.trees) order ≡ made_along 0 b.trees order
makes-own b order = makes-all 0 b.trees (zero_registers b.trees) order (λ k l. long-at b.trees k (omega arith))

pub to-own : (b : Branching) (order : List Entry) (outputs : List (List ℕ)) → IsBranchExecution b order outputs
    → Give b.trees (values_from 0 b.trees order) outputs × IsTsoExecution (straight b (values_from 0 b.trees order)) order
to-own b order outputs h = (
  h.done,
  record {
    whole = record {
      count = subst (λ z. length order ≡ length z) (sym (makes-own b order)) h.count;
      each = subst (λ z. (k : ℕ) (e : Entry) → slice_get z k ≡ Some e → (i : ℕ) × (slice_get order i ≡ Some e)) (sym (makes-own b order)) h.each;
    };
    program_order = h.program_order;
    adjacent = h.adjacent;
    read_values = h.read_values;
  },
)

pub from-own : (b : Branching) (order : List Entry) (outputs : List (List ℕ)) → Give b.trees (values_from 0 b.trees order) outputs
    → IsTsoExecution (straight b (values_from 0 b.trees order)) order → IsBranchExecution b order outputs
from-own b order outputs g h = record {
  done = g;
  count = subst (λ z. length order ≡ length z) (makes-own b order) h.whole.count;
  each = subst (λ z. (k : ℕ) (e : Entry) → slice_get z k ≡ Some e → (i : ℕ) × (slice_get order i ≡ Some e)) (makes-own b order) h.whole.each;
  program_order = h.program_order;
  adjacent = h.adjacent;
  read_values = h.read_values;
}

pub own-path : (b : Branching) (order : List Entry) (outputs : List (List ℕ)) → IsBranchExecution b order outputs
    ↔ (Give b.trees (values_from 0 b.trees order) outputs × IsTsoExecution (straight b (values_from 0 b.trees order)) order)
own-path b order outputs = (λ h. to-own b order outputs h, λ h. from-own b order outputs h.0 h.1)

pub to-path : (b : Branching) (order : List Entry) (outputs : List (List ℕ)) → IsBranchExecution b order outputs
    → IsPathExecution b (values_from 0 b.trees order) order outputs
to-path b order outputs h = record { done = h.done; execution = (to-own b order outputs h).1; reads = reads-all 0 b.trees order }

pub to-some : (b : Branching) (order : List Entry) (outputs : List (List ℕ)) → IsBranchExecution b order outputs
    → (values : List (List ℕ)) × IsPathExecution b values order outputs
to-some b order outputs h = (values_from 0 b.trees order, to-path b order outputs h)

pub from-some : (b : Branching) (values : List (List ℕ)) (order : List Entry) (outputs : List (List ℕ)) → IsPathExecution b values order outputs
    → IsBranchExecution b order outputs
from-some b values order outputs h =
    let own : values_from 0 b.trees order ≡ values = own-all 0 b.trees values outputs order h.done h.reads in
    from-own b order outputs (subst (λ z. Give b.trees z outputs) (sym own) h.done) (subst (λ z. IsTsoExecution (straight b z) order) (sym own) h.execution)

pub some-path : (b : Branching) (order : List Entry) (outputs : List (List ℕ))
    → IsBranchExecution b order outputs ↔ ((values : List (List ℕ)) × IsPathExecution b values order outputs)
some-path b order outputs = (λ h. to-some b order outputs h, λ h. from-some b h.0 order outputs h.1)

pub same-outcomes : (b : Branching) (outputs : List (List ℕ)) (memory : List ℕ)
    → IsBranchOutcome b outputs memory ↔ ((values : List (List ℕ)) × IsPathOutcome b values outputs memory)
same-outcomes b outputs memory = (
  λ h. (let r = to-some b h.order outputs h.execution in (r.0, record { order = h.order; execution = r.1; memory_is = h.memory_is })),
  λ h. record { order = h.1.order; execution = from-some b h.0 h.1.order outputs h.1.execution; memory_is = h.1.memory_is },
)
