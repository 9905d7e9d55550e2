-- How the two machines begin and end.
use Rattle.std.proofs.Common.{◌≡◌, ℕ, ◌+◌, zero, suc, List, [], ◌∷◌, ◌++◌, Some, Bool, true, false, ◌<◌, ◌==◌, ◌&&◌, nat_lt, if◌then◌else◌}
use Rattle.std.proofs.Common.{length, slice_index, slice_index_or, drop, arith, ap, sym, ◌∙◌, refl, subst, inl, inr}
use Rattle.basic_laws.proofs.Basics.{decide, test-true}
use Rattle.basic_laws.proofs.Cores.{all-done}
use Rattle.basic_laws.proofs.Lists.{Each, each-append}
use Rattle.tso_terms.specs.Litmus.{Litmus}
use Rattle.tso_terms.specs.Thread.{entry, fence}
use Rattle.tso_terms.specs.FlatMachine.{CoreState, idle, program_of, core_of, is_none_pending, started, start}
use Rattle.tso_terms.specs.Runs.{CoresExist, is_done, has_ended}
use Rattle.tso_laws.specs.Choices.{state_after}
use Rattle.tso_laws.specs.Reached.{IsReached}
use Rattle.tso_laws.specs.inner.Laws.{RunsStopWhereTheyEnd}
use Rattle.basic_laws.specs.Types.{Entry, Instr, Choice, Step, Drain, W, LR, LW}
use Rattle.branch_laws.specs.Trees.{Tree, Done, Cut, Reads, Stores, Fences, Locks, written, path, values_along, outputs_along}
use Rattle.branch_laws.specs.Branching.{Branching, Give, values_from, paths, zero_registers, straight}
use Rattle.branch_laws.specs.TreeMachine.{TreeCore, TreeState, TreeEffect, stays, act, no_core, tree_core, tree_effect, tree_choice}
use Rattle.branch_laws.specs.TreeMachine.{tree_applied, tree_after, tree_commits, planted, tree_start, IsDoneWith, IsTreeReached}
use Rattle.branch_laws.proofs.Splitting.{long-at}
use Rattle.branch_laws.proofs.Values.{IsOwn, told, act-told, drain-told}
use Rattle.branch_laws.proofs.Core.{Even, drop-all, act-core, take-core, drop-own, left-other}
use Rattle.branch_laws.proofs.States.{Rel, Level, tree-changed, tree-follows}

-- what is pending stays a core's own

pub act-own : (d : ℕ) (memory : List ℕ) (c : ℕ) (tree : Tree) (s : TreeCore) → Each (IsOwn c) s.pending → Each (IsOwn c) (act d memory c tree s).after.pending
act-own d memory c (Done outputs) s o = o
act-own d memory c Cut s o = o
act-own d memory c (Reads loc next) s o = o
act-own d memory c (Stores loc value next) s o = go (nat_lt (length s.pending) d)
  where
    go : (t : Bool)
        → Each (IsOwn c) (if t
        then record {
          after = record { place = s.place + 1; rest = next; pending = s.pending ++ entry c s.place W loc value ∷ [] };
          commits = [];
        }
        else stays s).after.pending
    go true = each-append (IsOwn c) s.pending (entry c s.place W loc value ∷ []) o (record { core = refl; kind = refl }, tt)
    go false = o
act-own d memory c (Fences next) s o = go (is_none_pending s.pending)
  where
    go : (t : Bool)
        → Each (IsOwn c) (if t
        then record {
          after = record { place = s.place + 1; rest = next; pending = s.pending };
          commits = fence c s.place ∷ [];
        }
        else stays s).after.pending
    go true = o
    go false = o
act-own d memory c (Locks loc change next) s o = go (is_none_pending s.pending)
  where
    go : (t : Bool) → Each (IsOwn c) (if t then record {
      after = record { place = (s.place + 1) + 1; rest = next (slice_index memory loc.0); pending = s.pending };
      commits = entry c (s.place + 1) LR loc (slice_index memory loc.0) ∷ (entry c (s.place + 1) LW loc (written change (slice_index memory loc.0)) ∷ []);
    } else stays s).after.pending
    go true = o
    go false = o

abbrev pub AllOwn : ℕ → TreeState → Type 0
AllOwn n S = (k : ℕ) → k < n → Each (IsOwn k) (tree_core S k).pending

-- an effect of one core that keeps what is pending and tells no other outputs
pub record Tells (n : ℕ) (S : TreeState) (c : ℕ) (g : TreeEffect) (xs : List Entry) : Type 0 where
  pub own : AllOwn n (tree_applied S c g)
  pub same : (k : ℕ) → k < n → told k (tree_core S k) (g.commits ++ xs) ≡ told k (tree_core (tree_applied S c g) k) xs

pub tells : (n : ℕ) (S : TreeState) (c : ℕ) (g : TreeEffect) (xs : List Entry) → length S.cores ≡ n → c < n → AllOwn n S → Each (IsOwn c) g.after.pending
    → Each (λ e. e.core.0 ≡ c) g.commits → told c (tree_core S c) (g.commits ++ xs) ≡ told c g.after xs → Tells n S c g xs
tells n S c g xs size l all own of_core same =
    let w = tree-changed S c g (omega arith) in
    record {
      own = λ k m. elim (decide k c) [
        | inl q ↦ subst (λ z. Each (IsOwn z) (tree_core (tree_applied S c g) z).pending) (sym q) (subst (λ z. Each (IsOwn c) z.pending) (sym w.own) own)
        | inr q ↦ subst (λ z. Each (IsOwn k) z.pending) (sym (w.others k q)) (all k m)
      ];
      same = λ k m. elim (decide k c) [
        | inl q ↦ subst (λ z. told z (tree_core S z) (g.commits ++ xs) ≡ told z (tree_core (tree_applied S c g) z) xs) (sym q)
            (subst (λ z. told c (tree_core S c) (g.commits ++ xs) ≡ told c z xs) (sym w.own) same)
        | inr q ↦ subst (λ z. told k (tree_core S k) (g.commits ++ xs) ≡ told k z xs) (sym (w.others k q))
            (ap (λ z. outputs_along (tree_core S k).rest z) (left-other c k (tree_core S k) g.commits xs q of_core))
      ];
    }

pub choice-tells : (d n : ℕ) (S : TreeState) (x : Choice) (xs : List Entry) → length S.cores ≡ n → CoresExist n (x ∷ []) → AllOwn n S
    → (c : ℕ) × (c < n) × Tells n S c (tree_effect d S x) xs × (tree_choice d S x ≡ tree_applied S c (tree_effect d S x))
choice-tells d n S (Step k) xs size l all =
    let s : TreeCore = tree_core S k.0 in (
      k.0,
      l.0,
      tells n S k.0 (tree_effect d S (Step k)) xs size l.0 all (act-own d S.memory k.0 s.rest s (all k.0 l.0)) (act-core d S.memory k.0 s.rest s)
          (act-told d S.memory k.0 s.place s.rest s.pending xs),
      refl,
    )
choice-tells d n S (Drain k) xs size l all =
    let s : TreeCore = tree_core S k.0 in (
      k.0,
      l.0,
      tells n S k.0 (tree_effect d S (Drain k)) xs size l.0 all (drop-own k.0 s.pending (all k.0 l.0)) (take-core k.0 s.pending (all k.0 l.0))
          (ap (λ z. outputs_along s.rest z) (drain-told k.0 s xs (all k.0 l.0))),
      refl,
    )

-- a run tells from the beginning what it tells at its end
pub run-same : (d n : ℕ) (S : TreeState) (cs : List Choice) → length S.cores ≡ n → CoresExist n cs → AllOwn n S
    → (k : ℕ) → k < n → told k (tree_core S k) (tree_commits d S cs) ≡ told k (tree_core (tree_after d S cs) k) []
run-same d n S [] size l all k m = refl
run-same d n S (x ∷ cs) size l all k m =
    let r = choice-tells d n S x (tree_commits d (tree_choice d S x) cs) size (l.0, tt) all in
    let w = tree-changed S r.0 (tree_effect d S x) (let y = r.1 in omega arith) in
    let S1 : TreeState = tree_choice d S x in
    let is : S1 ≡ tree_applied S r.0 (tree_effect d S x) = r.3 in
    r.2.same k m ∙ ap (λ z. told k (tree_core z k) (tree_commits d S1 cs)) (sym is)
    ∙ run-same d n S1 cs (ap (λ z. length z.cores) is ∙ w.size ∙ size) l.1 (subst (λ z. AllOwn n z) (sym is) r.2.own) k m

pub run-told : (d n : ℕ) (S : TreeState) (cs : List Choice) (outputs : ℕ → List ℕ) → length S.cores ≡ n → CoresExist n cs → AllOwn n S
    → ((k : ℕ) → k < n → IsDoneWith (tree_core (tree_after d S cs) k) (outputs k))
    → (k : ℕ) → k < n → told k (tree_core S k) (tree_commits d S cs) ≡ Some (outputs k)
run-told d n S cs outputs size l all done k m =
    run-same d n S cs size l all k m
    ∙ subst (λ z. outputs_along z (values_along k (tree_core (tree_after d S cs) k).place z []) ≡ Some (outputs k)) (sym (done k m).rest) refl

-- beginnings

pub planted-at : (trees : List Tree) (k : ℕ) → slice_index_or (planted trees) k no_core ≡ record { place = 0; rest = slice_index_or trees k Cut; pending = [] }
planted-at [] k = refl
planted-at (tree ∷ trees) zero = refl
planted-at (tree ∷ trees) (suc k) = planted-at trees k

pub length-planted : (trees : List Tree) → length (planted trees) ≡ length trees
length-planted [] = refl
length-planted (tree ∷ trees) = ap suc (length-planted trees)

pub length-paths : (trees : List Tree) (values : List (List ℕ)) → length (paths trees values) ≡ length trees
length-paths [] values = refl
length-paths (tree ∷ trees) values = ap suc (length-paths trees (drop 1 values))

pub started-length : (c : ℕ) (ps : List (List Instr)) (registers : List (List ℕ)) → length (started c ps registers) ≡ length ps
started-length c [] registers = refl
started-length c (p ∷ ps) registers = ap suc (started-length (c + 1) ps registers)

pub started-at : (c : ℕ) (ps : List (List Instr)) (registers : List (List ℕ)) (k : ℕ) → k < length ps
    → slice_index_or (started c ps registers) k idle ≡ record { place = 0; registers = slice_index_or registers (c + k) []; pending = [] }
started-at c [] registers k l = absurd (omega arith)
started-at c (p ∷ ps) registers zero l =
    ap (λ z. let r : CoreState = record { place = 0; registers = slice_index_or registers z []; pending = [] } in r)
    (let z : c ≡ c + 0 = omega arith in z)
started-at c (p ∷ ps) registers (suc k) l =
    started-at (c + 1) ps registers k (omega arith)
    ∙ ap (λ z. let r : CoreState = record { place = 0; registers = slice_index_or registers z []; pending = [] } in r)
    (let z : (c + 1) + k ≡ c + suc k = omega arith in z)

pub path-at : (c : ℕ) (trees : List Tree) (order : List Entry) (k : ℕ) → k < length trees
    → slice_index_or (paths trees (values_from c trees order)) k []
    ≡ path (slice_index_or trees k Cut) (values_along (c + k) 0 (slice_index_or trees k Cut) order)
path-at c [] order k l = absurd (omega arith)
path-at c (tree ∷ trees) order zero l = ap (λ z. path tree (values_along z 0 tree order)) (let z : c ≡ c + 0 = omega arith in z)
path-at c (tree ∷ trees) order (suc k) l =
    path-at (c + 1) trees order k (omega arith)
    ∙ ap (λ z. path (slice_index_or trees k Cut) (values_along z 0 (slice_index_or trees k Cut) order)) (let z : (c + 1) + k ≡ c + suc k = omega arith in z)

abbrev pub own_test : Branching → List Entry → Litmus
own_test b order = straight b (values_from 0 b.trees order)

pub start-even : (b : Branching) (order : List Entry) (k : ℕ) → k < length b.trees
    → Even k (program_of (own_test b order) k) order (core_of (start (own_test b order)) k) (tree_core (tree_start b) k)
start-even b order k l =
    let ps : List (List Instr) = paths b.trees (values_from 0 b.trees order) in
    let size : length ps ≡ length b.trees = length-paths b.trees (values_from 0 b.trees order) in
    let tree : Tree = slice_index_or b.trees k Cut in
    subst (λ z. Even k (program_of (own_test b order) k) order (core_of (start (own_test b order)) k) z) (sym (planted-at b.trees k)) (record {
      registers = slice_index_or (zero_registers b.trees) k [];
      is =
          started-at 0 ps (zero_registers b.trees) k (omega arith)
          ∙ ap (λ z. let r : CoreState = record {
            place = 0;
            registers = slice_index_or (zero_registers b.trees) z [];
            pending = [];
          } in
          r)
          (let z : 0 + k ≡ k = omega arith in z);
      long = long-at b.trees k l;
      within = omega arith;
      own = tt;
      left_over = path-at 0 b.trees order k l ∙ ap (λ z. path tree (values_along z 0 tree order)) (let z : 0 + k ≡ k = omega arith in z);
    })

pub start-rel : (b : Branching) (order : List Entry) → Rel (Level (own_test b order)) (length b.trees) order (start (own_test b order)) (tree_start b)
start-rel b order = record {
  memory = refl;
  flat_size = started-length 0 (paths b.trees (values_from 0 b.trees order)) (zero_registers b.trees) ∙ length-paths b.trees (values_from 0 b.trees order);
  tree_size = length-planted b.trees;
  cores = λ k l. start-even b order k l;
}

pub start-own : (b : Branching) → AllOwn (length b.trees) (tree_start b)
start-own b k l = subst (λ z. Each (IsOwn k) z.pending) (sym (planted-at b.trees k)) tt

-- what is told at the beginning is what the trees give

pub give-told : (c : ℕ) (trees : List Tree) (outputs : List (List ℕ)) (order : List Entry) → length outputs ≡ length trees
    → ((k : ℕ)
    → k < length trees
    → outputs_along (slice_index_or trees k Cut) (values_along (c + k) 0 (slice_index_or trees k Cut) order)
    ≡ Some (slice_index_or outputs k []))
    → Give trees (values_from c trees order) outputs
give-told c [] [] order n f = tt
give-told c [] (o ∷ outputs) order n f = absurd (omega arith)
give-told c (tree ∷ trees) [] order n f = absurd (omega arith)
give-told c (tree ∷ trees) (o ∷ outputs) order n f = (
  subst (λ z. outputs_along tree (values_along z 0 tree order) ≡ Some o) (let z : c + 0 ≡ c = omega arith in z) (f 0 (omega arith)),
  give-told (c + 1) trees outputs order (omega arith)
      (λ k l.
      subst (λ z.
      outputs_along (slice_index_or trees k Cut) (values_along z 0 (slice_index_or trees k Cut) order)
      ≡ Some (slice_index_or outputs k []))
      (let z : c + suc k ≡ (c + 1) + k = omega arith in z) (f (suc k) (omega arith))),
)

-- ends

pub even-done : (c : ℕ) (program : List Instr) (f : CoreState) (s : TreeCore) (outputs : List ℕ)
    → Even c program [] f s
    → IsDoneWith s outputs
    → is_done program f ≡ true
even-done c program f s outputs e d =
    let none : drop s.place program ≡ [] = (e.left_over ∙ ap (λ z. path z (values_along c s.place z [])) d.rest) in
    let n : length program ≡ s.place = drop-all program s.place none e.within in
    subst (λ z. is_done program z ≡ true) (sym e.is)
    (subst (λ z. ((length program == s.place) && is_none_pending z) ≡ true) (sym d.pending)
    (subst (λ z. (z && true) ≡ true) (sym (test-true (length program) s.place n)) refl))

pub tree-runs-are-runs : RunsStopWhereTheyEnd → (b : Branching) (m : ℕ) (order : List Entry) (outputs : List (List ℕ)) → IsTreeReached b (suc m) order outputs
    → IsReached (own_test b order) (suc m) order × Give b.trees (values_from 0 b.trees order) outputs
tree-runs-are-runs stopping b m order outputs h =
    let t : Litmus = own_test b order in
    let n : ℕ = length b.trees in
    let r : Rel (Level t) n (tree_commits (suc m) (tree_start b) h.choices) (start t) (tree_start b) =
    subst (λ z. Rel (Level t) n z (start t) (tree_start b)) (sym h.commits) (start-rel b order) in
    let w = tree-follows t m n (start t) (tree_start b) h.choices h.exist r in
    let stops = stopping.stops t (suc m) w.choices in
    let ended : has_ended t (state_after t (suc m) (start t) w.choices) ≡ true = all-done t.programs (state_after t (suc m) (start t) w.choices).cores
    (λ k l.
    even-done k (program_of t k) (core_of (state_after t (suc m) (start t) w.choices) k)
    (tree_core (tree_after (suc m) (tree_start b) h.choices) k) (slice_index_or outputs k [])
    (w.rel.cores k (let z = w.rel.flat_size in omega arith)) (h.done k (let z = w.rel.flat_size in omega arith))) in
    let heard : (k : ℕ) → k < n → told k (tree_core (tree_start b) k) order ≡ Some (slice_index_or outputs k []) =
    (λ k l. subst (λ z. told k (tree_core (tree_start b) k) z ≡ Some (slice_index_or outputs k [])) h.commits
    (run-told (suc m) n (tree_start b) h.choices (λ j. slice_index_or outputs j []) (length-planted b.trees) h.exist (start-own b) h.done k l)) in (
      record {
        choices = w.choices;
        cores = subst (λ z. CoresExist z w.choices) (sym (length-paths b.trees (values_from 0 b.trees order))) w.exist;
        ended = stops.ended ∙ ap (λ z. has_ended t z) stops.all_state ∙ ended;
        commits = stops.all_commits ∙ w.commits ∙ h.commits;
      },
      give-told 0 b.trees outputs order h.count
          (λ k l.
          subst (λ z.
          outputs_along (slice_index_or b.trees k Cut) (values_along z 0 (slice_index_or b.trees k Cut) order)
          ≡ Some (slice_index_or outputs k []))
          (let z : k ≡ 0 + k = omega arith in z)
          (subst (λ z. told k z order ≡ Some (slice_index_or outputs k [])) (planted-at b.trees k) (heard k l))),
    )
