-- A run of the straight-line test of an order's own paths is followed by a run over the trees.
use Rattle.std.proofs.Common.{◌≡◌, ℕ, ◌+◌, zero, suc, List, [], ◌∷◌, ◌++◌, Some, true, ◌<◌, ◌≤◌, ◌==◌, length, slice_index_or, slice_get}
use Rattle.std.proofs.Common.{arith, ap, sym, ◌∙◌, refl, subst, ◌↔◌}
use Rattle.std.proofs.lemmas.Bool.Decides.{nat_tests}
use Rattle.basic_laws.proofs.Basics.{and-left, and-right}
use Rattle.basic_laws.proofs.Cores.{done-at}
use Rattle.basic_laws.proofs.Lists.{Each, drop-end}
use Rattle.tso_terms.specs.Litmus.{Litmus}
use Rattle.tso_laws.specs.WellFormed.{IsWellFormed}
use Rattle.tso_terms.specs.FlatMachine.{CoreState, State, Effect, program_of, core_of, is_none_pending, effect_of, step_of, drain_of}
use Rattle.tso_terms.specs.FlatMachine.{applied, after_choice, start}
use Rattle.tso_terms.specs.Runs.{CoresExist, is_done, has_ended}
use Rattle.tso_laws.specs.Choices.{state_after, commits_of}
use Rattle.tso_laws.specs.Depth.{needed}
use Rattle.tso_laws.specs.Reached.{IsReached}
use Rattle.tso_laws.specs.Laws.{RunsReachExactlyTheExecutions}
use Rattle.tso_laws.specs.inner.Laws.{RunsStopWhereTheyEnd}
use Rattle.basic_laws.specs.Types.{Entry, Instr, Choice, Step, Drain}
use Rattle.branch_laws.specs.Trees.{Tree, Done, Cut, Reads, Stores, Fences, Locks, path, values_along, outputs_along}
use Rattle.branch_laws.specs.Branching.{Branching, Give, values_from, straight, IsBranchExecution}
use Rattle.branch_laws.specs.TreeMachine.{TreeCore, TreeState, TreeEffect, stays, act, drain_tree, tree_core, tree_effect, tree_choice}
use Rattle.branch_laws.specs.TreeMachine.{tree_applied, tree_after, tree_commits, tree_start, IsDoneWith, IsTreeReached}
use Rattle.branch_laws.proofs.Splitting.{own-path}
use Rattle.branch_laws.proofs.Values.{told}
use Rattle.branch_laws.proofs.Core.{act-core, take-core}
use Rattle.branch_laws.proofs.States.{changed, Rel, rel-next, Keeps, tree-same}
use Rattle.branch_laws.proofs.Ends.{own_test, start-rel, start-own, planted-at, length-planted, length-paths, run-same, tree-runs-are-runs}
use Rattle.branch_laws.proofs.Back.{Tied, level, between, Back, quiet, loud, tied-back, tied-drain, tied-other}

abbrev pub TiedIn : Litmus → ℕ → List Entry → CoreState → TreeCore → Type 0
TiedIn t k xs f s = Tied k (program_of t k) xs f s

tied-keeps : (t : Litmus) → Keeps (TiedIn t)
tied-keeps t c k es xs f s n h e = tied-other c k (program_of t k) es xs f s n h e

-- an effect of the flat machine is followed by at most this one choice over the trees
data Answers (t : Litmus) (d n : ℕ) (xs : List Entry) (es : List Entry) (G : State) (S : TreeState) (x : Choice) : Type 0 where
  nothing : es ≡ [] → Rel (TiedIn t) n xs G S → Answers t d n xs es G S x
  same : (tree_effect d S x).commits ≡ es → Rel (TiedIn t) n xs G (tree_choice d S x) → Answers t d n xs es G S x

still : (t : Litmus) (n : ℕ) (xs : List Entry) (F : State) (S : TreeState) (c : ℕ) (φ : Effect)
    → c < n
    → φ.commits ≡ []
    → Rel (TiedIn t) n (φ.commits ++ xs) F S
    → Tied c (program_of t c) xs φ.after (tree_core S c) → Rel (TiedIn t) n xs (applied F c φ) S
still t n xs F S c φ l q r h =
    subst (λ z. Rel (TiedIn t) n xs (applied F c φ) z) (tree-same S c)
    (rel-next (TiedIn t) n xs F S c (stays (tree_core S c)) φ.after (applied F c φ) (tied-keeps t) l tt (subst (λ z. Rel (TiedIn t) n (z ++ xs) F S) q r)
    (changed F c φ [] (let z = r.flat_size in omega arith) q) h)

moves : (t : Litmus) (n : ℕ) (xs : List Entry) (F : State) (S : TreeState) (c : ℕ) (φ : Effect) (g : TreeEffect) → c < n → φ.commits ≡ g.commits
    → Each (λ e. e.core.0 ≡ c) g.commits → Rel (TiedIn t) n (φ.commits ++ xs) F S → Tied c (program_of t c) xs φ.after g.after
    → Rel (TiedIn t) n xs (applied F c φ) (tree_applied S c g)
moves t n xs F S c φ g l q of_core r h =
    rel-next (TiedIn t) n xs F S c g φ.after (applied F c φ) (tied-keeps t) l of_core (subst (λ z. Rel (TiedIn t) n (z ++ xs) F S) q r)
    (changed F c φ g.commits (let z = r.flat_size in omega arith) q) h

answers : (t : Litmus) (m n : ℕ) (xs : List Entry) (F : State) (S : TreeState) (x : Choice) → CoresExist n (x ∷ [])
    → Rel (TiedIn t) n ((effect_of t (suc m) F x).commits ++ xs) F S
    → Answers t (suc m) n xs (effect_of t (suc m) F x).commits (after_choice t (suc m) F x) S x
answers t m n xs F S (Step k) l r =
    go (tied-back m S.memory k.0 (program_of t k.0) xs (core_of F k.0) s φ
    (ap (λ z. step_of (suc m) z k.0 (slice_get (program_of t k.0) (core_of F k.0).place) (core_of F k.0)) r.memory) (r.cores k.0 l.0))
  where
    s : TreeCore
    s = tree_core S k.0

    φ : Effect
    φ = effect_of t (suc m) F (Step k)

    go : Back k.0 (program_of t k.0) xs φ s (act (suc m) S.memory k.0 s.rest s) → Answers t (suc m) n xs φ.commits (applied F k.0 φ) S (Step k)
    go (quiet q h) = nothing q (still t n xs F S k.0 φ l.0 q r h)
    go (loud q h) = same (sym q) (moves t n xs F S k.0 φ (act (suc m) S.memory k.0 s.rest s) l.0 q (act-core (suc m) S.memory k.0 s.rest s) r h)
answers t m n xs F S (Drain k) l r =
    let s : TreeCore = tree_core S k.0 in
    let φ : Effect = drain_of (core_of F k.0) in
    let h = tied-drain k.0 (program_of t k.0) xs (core_of F k.0) s (r.cores k.0 l.0) in
    same (sym h.commits) (moves t n xs F S k.0 φ (drain_tree s) l.0 h.commits (take-core k.0 s.pending h.own) r h.after)

record Returns (t : Litmus) (d n : ℕ) (S : TreeState) (G : State) (es : List Entry) : Type 0 where
  pub choices : List Choice
  pub exist : CoresExist n choices
  pub commits : tree_commits d S choices ≡ es
  pub rel : Rel (TiedIn t) n [] G (tree_after d S choices)

returns-all : (t : Litmus) (m n : ℕ) (F : State) (S : TreeState) (cs : List Choice) → CoresExist n cs → Rel (TiedIn t) n (commits_of t (suc m) F cs) F S
    → Returns t (suc m) n S (state_after t (suc m) F cs) (commits_of t (suc m) F cs)
returns-all t m n F S [] l r = record { choices = []; exist = tt; commits = refl; rel = r }
returns-all t m n F S (x ∷ cs) l r = go (λ z h. returns-all t m n (after_choice t (suc m) F x) z cs l.1 h) (answers t m n fs F S x (l.0, tt) r)
  where
    G : State
    G = after_choice t (suc m) F x

    es : List Entry
    es = (effect_of t (suc m) F x).commits

    fs : List Entry
    fs = commits_of t (suc m) G cs

    go : ((z : TreeState) → Rel (TiedIn t) n fs G z → Returns t (suc m) n z (state_after t (suc m) G cs) fs)
        → Answers t (suc m) n fs es G S x
        → Returns t (suc m) n S (state_after t (suc m) G cs) (es ++ fs)
    go again (nothing q h) =
        let w = again S h in
        record { choices = w.choices; exist = w.exist; commits = w.commits ∙ ap (λ z. z ++ fs) (sym q); rel = w.rel }
    go again (same q h) =
        let w = again (tree_choice (suc m) S x) h in
        record {
          choices = x ∷ w.choices;
          exist = (l.0, w.exist);
          commits = ap (λ z. z ++ tree_commits (suc m) (tree_choice (suc m) S x) w.choices) q ∙ ap (λ z. es ++ z) w.commits;
          rel = w.rel;
        }

-- the end of a program is the end of its tree

tree-at-end : (c p : ℕ) (tree : Tree) (outputs : List ℕ)
    → [] ≡ path tree (values_along c p tree [])
    → outputs_along tree (values_along c p tree []) ≡ Some outputs
    → tree ≡ Done outputs
tree-at-end c p (Done o) outputs e h = ap Done (let z : o ≡ outputs = cc in z)
tree-at-end c p Cut outputs e h = absurd (let z : ⊥ = cc in z)
tree-at-end c p (Reads loc next) outputs e h = absurd (let z : ⊥ = cc in z)
tree-at-end c p (Stores loc value next) outputs e h = absurd (let z : ⊥ = cc in z)
tree-at-end c p (Fences next) outputs e h = absurd (let z : ⊥ = cc in z)
tree-at-end c p (Locks loc change next) outputs e h = absurd (let z : ⊥ = cc in z)

none-pending : (q : List Entry) → is_none_pending q ≡ true → q ≡ []
none-pending [] e = refl
none-pending (x ∷ q) e = absurd (let z : ⊥ = cc in z)

same-number : (a b : ℕ) → (a == b) ≡ true → a ≡ b
same-number a b h = grind (arith, nat_tests)

tied-done : (c : ℕ) (program : List Instr) (f : CoreState) (s : TreeCore) (outputs : List ℕ) → Tied c program [] f s → is_done program f ≡ true
    → told c s [] ≡ Some outputs → IsDoneWith s outputs
tied-done c program f s outputs (level e) d h =
    let n : length program ≡ s.place =
    same-number (length program) f.place (and-left (length program == f.place) (is_none_pending f.pending) d)
    ∙ ap (λ z. z.place) e.is in
    let q : f.pending ≡ [] = none-pending f.pending (and-right (length program == f.place) (is_none_pending f.pending) d) in
    record {
      rest = tree-at-end c s.place s.rest outputs (sym (drop-end program s.place n) ∙ e.left_over) h;
      pending = sym (ap (λ z. z.pending) e.is) ∙ q;
    }
tied-done c program f s outputs (between e) d h =
    let n : length program ≡ e.place + 1 =
    same-number (length program) f.place (and-left (length program == f.place) (is_none_pending f.pending) d)
    ∙ ap (λ z. z.place) e.is in
    let a = sym (drop-end program (e.place + 1) n) ∙ e.left_over in
    absurd (let z : ⊥ = cc in z)

-- what the trees give is told at the beginning
record Heard (c : ℕ) (trees : List Tree) (outputs : List (List ℕ)) (order : List Entry) : Type 0 where
  pub count : length outputs ≡ length trees
  pub each : (k : ℕ)
      → k < length trees
      → outputs_along (slice_index_or trees k Cut) (values_along (c + k) 0 (slice_index_or trees k Cut) order)
      ≡ Some (slice_index_or outputs k [])

given : (c : ℕ) (trees : List Tree) (outputs : List (List ℕ)) (order : List Entry)
    → Give trees (values_from c trees order) outputs
    → Heard c trees outputs order
given c [] [] order g = record { count = refl; each = λ k l. absurd (omega arith) }
given c [] (o ∷ outputs) order g = absurd g
given c (tree ∷ trees) [] order g = absurd g
given c (tree ∷ trees) (o ∷ outputs) order g =
    let h = given (c + 1) trees outputs order g.1 in
    record { count = ap suc h.count; each = λ k l. at k l h }
  where
    at : (k : ℕ) → k < length (tree ∷ trees) → Heard (c + 1) trees outputs order
        → outputs_along (slice_index_or (tree ∷ trees) k Cut) (values_along (c + k) 0 (slice_index_or (tree ∷ trees) k Cut) order)
        ≡ Some (slice_index_or (o ∷ outputs) k [])
    at zero l h = subst (λ z. outputs_along tree (values_along z 0 tree order) ≡ Some o) (let z : c ≡ c + 0 = omega arith in z) g.0
    at (suc k) l h =
        subst (λ z.
        outputs_along (slice_index_or trees k Cut) (values_along z 0 (slice_index_or trees k Cut) order)
        ≡ Some (slice_index_or outputs k []))
        (let z : (c + 1) + k ≡ c + suc k = omega arith in z) (h.each k (omega arith))

pub runs-are-tree-runs : RunsStopWhereTheyEnd
    → (b : Branching) (m : ℕ) (order : List Entry) (outputs : List (List ℕ))
    → IsReached (own_test b order) (suc m) order
    → Give b.trees (values_from 0 b.trees order) outputs → IsTreeReached b (suc m) order outputs
runs-are-tree-runs stopping b m order outputs h g =
    let t : Litmus = own_test b order in
    let n : ℕ = length b.trees in
    let stops = stopping.stops t (suc m) h.choices in
    let commits : commits_of t (suc m) (start t) h.choices ≡ order = sym stops.all_commits ∙ h.commits in
    let G : State = state_after t (suc m) (start t) h.choices in
    let ended : has_ended t G ≡ true = ap (λ z. has_ended t z) (sym stops.all_state) ∙ sym stops.ended ∙ h.ended in
    let e = start-rel b order in
    let r : Rel (TiedIn t) n order (start t) (tree_start b) = record {
      memory = e.memory;
      flat_size = e.flat_size;
      tree_size = e.tree_size;
      cores = λ k l. level (e.cores k l);
    } in
    let w =
    returns-all t m n (start t) (tree_start b) h.choices
    (subst (λ z. CoresExist z h.choices) (length-paths b.trees (values_from 0 b.trees order)) h.cores)
    (subst (λ z. Rel (TiedIn t) n z (start t) (tree_start b)) (sym commits) r) in
    let x = given 0 b.trees outputs order g in
    let S : TreeState = tree_start b in
    let made : tree_commits (suc m) S w.choices ≡ order = w.commits ∙ commits in
    let at_end : (k : ℕ) → k < n → told k (tree_core (tree_after (suc m) S w.choices) k) [] ≡ Some (slice_index_or outputs k [])
    = (λ k l. sym (run-same (suc m) n S w.choices (length-planted b.trees) w.exist (start-own b) k l)
    ∙ ap (λ z. told k (tree_core S k) z) made ∙ ap (λ z. told k z order) (planted-at b.trees k)
    ∙ ap (λ z. outputs_along (slice_index_or b.trees k Cut) (values_along z 0 (slice_index_or b.trees k Cut) order))
    (let z : k ≡ 0 + k = omega arith in z)
    ∙ x.each k l) in
    record {
      choices = w.choices;
      exist = w.exist;
      commits = made;
      count = x.count;
      done = λ k l. tied-done k (program_of t k) (core_of G k) (tree_core (tree_after (suc m) S w.choices) k) (slice_index_or outputs k []) (w.rel.cores k l)
          (done-at t.programs G.cores k ended (let z = w.rel.flat_size in omega arith)) (at_end k l);
    }

pub tree-runs-exactly : RunsStopWhereTheyEnd → RunsReachExactlyTheExecutions → (b : Branching) (depth : ℕ) (order : List Entry) (outputs : List (List ℕ))
    → IsWellFormed (straight b (values_from 0 b.trees order)) → 0 < depth
    → IsTreeReached b depth order outputs ↔ (IsBranchExecution b order outputs × (needed order ≤ depth))
tree-runs-exactly stopping law b zero order outputs test l = absurd (omega arith)
tree-runs-exactly stopping law b (suc m) order outputs test l =
    let exactly = law.by_depth (straight b (values_from 0 b.trees order)) (suc m) order test l in
    let own = own-path b order outputs in (
      λ h. (let r = tree-runs-are-runs stopping b m order outputs h in let e = exactly.0 r.0 in (own.1 (r.1, e.0), e.1)),
      λ h. (let e = own.0 h.0 in runs-are-tree-runs stopping b m order outputs (exactly.1 (e.1, h.1)) e.0),
    )
