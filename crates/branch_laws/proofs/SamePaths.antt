-- A run over the one test's trees is followed by a run over the other's, which has the same paths.
use Rattle.std.proofs.Common.{◌≡◌, ◌≢◌, ℕ, ◌+◌, zero, suc, List, [], ◌∷◌, ◌++◌, Some, ◌<◌, ◌≤◌, max, length, slice_index, slice_index_or}
use Rattle.std.proofs.Common.{arith, ap, sym, ◌∙◌, refl, subst, inl, inr}
use Rattle.basic_laws.proofs.Basics.{decide, max-left, max-right}
use Rattle.basic_laws.proofs.Lists.{Each}
use Rattle.tso_terms.specs.FinalState.{words_from}
use Rattle.tso_terms.specs.FlatMachine.{memory_after}
use Rattle.tso_terms.specs.Runs.{CoresExist}
use Rattle.tso_terms.specs.FlatMachine as flat
use Rattle.tso_laws.specs.Laws.{RunsReachExactlyTheExecutions}
use Rattle.tso_laws.specs.inner.Laws.{RunsStopWhereTheyEnd, WholeOrdersHaveEachEntryOnce}
use Rattle.tso_laws.proofs.WellFormed.{well-formed}
use Rattle.basic_laws.specs.Types.{Entry, Choice, Step, Drain}
use Rattle.branch_laws.specs.Trees.{Tree, Done, Cut, values_along, outputs_along}
use Rattle.branch_laws.specs.Branching.{straight, Branching, values_from, IsBranchExecution, IsBranchOutcome}
use Rattle.branch_laws.specs.TreeMachine.{TreeCore, TreeState, TreeEffect, act, drain_tree, tree_core, tree_effect, tree_choice}
use Rattle.branch_laws.specs.TreeMachine.{tree_applied, tree_after, tree_commits, tree_start, IsDoneWith, IsTreeReached}
use Rattle.branch_laws.specs.Rounds.{EachPathIsTest, writes_in}
use Rattle.branch_laws.specs.SamePaths.{HasTheSamePaths}
use Rattle.branch_laws.proofs.Values.{left, drain-told}
use Rattle.branch_laws.proofs.Core.{act-core, take-core, left-other}
use Rattle.branch_laws.proofs.States.{tree-changed}
use Rattle.branch_laws.proofs.Ends.{planted-at, length-planted}
use Rattle.branch_laws.proofs.Returning.{tree-runs-exactly}
use Rattle.branch_laws.proofs.InRounds.{gives-at, paths-of-rounds}
use Rattle.branch_laws.proofs.Listed.{runs-listed}
use Rattle.branch_laws.proofs.TreeEnds.{Ended, Greatest, memory-left, reach}
use Rattle.branch_laws.proofs.KeptStores.{Goes, stop, step, drain, Agree, none, at_tree}
use Rattle.branch_laws.proofs.OneCoreGoes.{Runs, counted, Tie, Answer, at-step, at-drain, finish}

-- choices of one core in a state
pub record Moves (d n c : ℕ) (S : TreeState) (m : List ℕ) (s : TreeCore) : Type 0 where
  pub choices : List Choice
  pub exist : CoresExist n choices
  pub memory : (tree_after d S choices).memory ≡ m
  pub size : length (tree_after d S choices).cores ≡ length S.cores
  pub own : tree_core (tree_after d S choices) c ≡ s
  pub others : (k : ℕ) → k ≢ c → tree_core (tree_after d S choices) k ≡ tree_core S k

pub lift : (d n c : ℕ) (m : List ℕ) (s : TreeCore) (k : List ℕ) (t : TreeCore) → Goes d c m s k t → (S : TreeState) → S.memory ≡ m → tree_core S c ≡ s
    → c < length S.cores → c < n → Moves d n c S k t
lift d n c m s k t (stop x y) S e f l b = record { choices = []; exist = tt; memory = e; size = refl; own = f; others = λ j z. refl }
lift d n c m s k t (step x y z w g) S e f l b =
    let h : TreeEffect = act d S.memory c (tree_core S c).rest (tree_core S c) in
    let same : h ≡ act d m c s.rest s = ap (λ z. act d z c (tree_core S c).rest (tree_core S c)) e ∙ ap (λ z. act d m c z.rest z) f in
    let T : TreeState = tree_applied S c h in
    let v = tree-changed S c h l in
    let r =
    lift d n c _ _ k t g T (ap (λ z. memory_after h.commits z) e ∙ ap (λ z. memory_after z.commits m) same)
    (v.own ∙ ap (λ z. z.after) same) (let z = v.size in omega arith) b in
    record {
      choices = flat.step c ∷ r.choices;
      exist = (b, r.exist);
      memory = r.memory;
      size = r.size ∙ v.size;
      own = r.own;
      others = λ j z. r.others j z ∙ v.others j z;
    }
lift d n c m s k t (drain x y z w g) S e f l b =
    let h : TreeEffect = drain_tree (tree_core S c) in
    let same : h ≡ drain_tree s = ap (λ z. drain_tree z) f in
    let T : TreeState = tree_applied S c h in
    let v = tree-changed S c h l in
    let r =
    lift d n c _ _ k t g T (ap (λ z. memory_after h.commits z) e ∙ ap (λ z. memory_after z.commits m) same)
    (v.own ∙ ap (λ z. z.after) same) (let z = v.size in omega arith) b in
    record {
      choices = flat.drain c ∷ r.choices;
      exist = (b, r.exist);
      memory = r.memory;
      size = r.size ∙ v.size;
      own = r.own;
      others = λ j z. r.others j z ∙ v.others j z;
    }

-- two states
record Both (n d2 cores : ℕ) (xs : List Entry) (S T : TreeState) : Type 0 where
  pub first : length S.cores ≡ cores
  pub second : length T.cores ≡ cores
  pub agree : Agree n S.memory T.memory
  pub ties : (k : ℕ) → k < cores → Tie n d2 k xs (tree_core S k) (tree_core T k)

tie-other : (n d c k : ℕ) (es xs : List Entry) (s t : TreeCore) → k ≢ c → Each (λ e. e.core.0 ≡ c) es → Tie n d k (es ++ xs) s t → Tie n d k xs s t
tie-other n d c k es xs s t z h i = record {
  stores = i.stores;
  path = subst (λ y. Runs n i.stores s.rest y t.rest) (left-other c k s es xs z h) i.path;
  kept = i.kept;
  room = i.room;
  own = i.own;
}

record Followed (n d2 cores : ℕ) (xs : List Entry) (S T : TreeState) : Type 0 where
  pub choices : List Choice
  pub exist : CoresExist cores choices
  pub both : Both n d2 cores xs S (tree_after d2 T choices)

by-answer : (n d2 cores c : ℕ) (xs : List Entry) (S T : TreeState) (g : TreeEffect)
    → c < cores
    → Each (λ e. e.core.0 ≡ c) g.commits
    → Both n d2 cores (g.commits ++ xs) S T
    → Answer n d2 c xs (memory_after g.commits S.memory) g.after T.memory (tree_core T c) → Followed n d2 cores xs (tree_applied S c g) T
by-answer n d2 cores c xs S T g l of_core b a =
    let v = tree-changed S c g (let z = b.first in omega arith) in
    let w = lift d2 cores c T.memory (tree_core T c) a.memory a.after a.goes T refl refl (let z = b.second in omega arith) l in
    let U : TreeState = tree_after d2 T w.choices in
    record {
      choices = w.choices;
      exist = w.exist;
      both = record {
        first = v.size ∙ b.first;
        second = w.size ∙ b.second;
        agree = subst (λ z. Agree n (memory_after g.commits S.memory) z) (sym w.memory) a.agree;
        ties = λ k m. elim (decide k c) [
          | inl q ↦ subst (λ z. Tie n d2 z xs (tree_core (tree_applied S c g) z) (tree_core U z)) (sym q)
              (subst (λ z. Tie n d2 c xs z (tree_core U c)) (sym v.own) (subst (λ z. Tie n d2 c xs g.after z) (sym w.own) a.tie))
          | inr q ↦ subst (λ z. Tie n d2 k xs z (tree_core U k)) (sym (v.others k q))
              (subst (λ z. Tie n d2 k xs (tree_core S k) z) (sym (w.others k q))
              (tie-other n d2 c k g.commits xs (tree_core S k) (tree_core T k) q of_core (b.ties k m)))
        ];
      };
    }

follow-one : (n d d2 cores : ℕ) (xs : List Entry) (S T : TreeState) (x : Choice)
    → CoresExist cores (x ∷ [])
    → Both n d2 cores ((tree_effect d S x).commits ++ xs) S T
    → Followed n d2 cores xs (tree_choice d S x) T
follow-one n d d2 cores xs S T (Step j) l b =
    let c : ℕ = j.0 in let s : TreeCore = tree_core S c in let t : TreeCore = tree_core T c in let i = b.ties c l.0 in
    by-answer n d2 cores c xs S T (act d S.memory c s.rest s) l.0 (act-core d S.memory c s.rest s) b
    (at-step n d d2 c i.stores xs S.memory T.memory s.place s.rest s.pending t.place t.rest t.pending
    (left c s ((act d S.memory c s.rest s).commits ++ xs)) b.agree i.kept i.room i.own i.path refl)
follow-one n d d2 cores xs S T (Drain j) l b =
    let c : ℕ = j.0 in let s : TreeCore = tree_core S c in let t : TreeCore = tree_core T c in let i = b.ties c l.0 in
    by-answer n d2 cores c xs S T (drain_tree s) l.0 (take-core c s.pending i.own) b
    (at-drain n d2 c i.stores xs S.memory T.memory s.place s.rest s.pending t.place t.rest t.pending b.agree i.kept i.room i.own
    (subst (λ z. Runs n i.stores s.rest z t.rest) (drain-told c s xs i.own) i.path))

pub exist-append : (n : ℕ) (xs ys : List Choice) → CoresExist n xs → CoresExist n ys → CoresExist n (xs ++ ys)
exist-append n [] ys a b = b
exist-append n (x ∷ xs) ys a b = (a.0, exist-append n xs ys a.1 b)

pub after-both : (d : ℕ) (S : TreeState) (xs ys : List Choice) → tree_after d S (xs ++ ys) ≡ tree_after d (tree_after d S xs) ys
after-both d S [] ys = refl
after-both d S (x ∷ xs) ys = after-both d (tree_choice d S x) xs ys

follow-all : (n d d2 cores : ℕ) (S T : TreeState) (cs : List Choice) → CoresExist cores cs → Both n d2 cores (tree_commits d S cs) S T
    → Followed n d2 cores [] (tree_after d S cs) T
follow-all n d d2 cores S T [] l b = record { choices = []; exist = tt; both = b }
follow-all n d d2 cores S T (x ∷ cs) l b =
    let a = follow-one n d d2 cores (tree_commits d (tree_choice d S x) cs) S T x (l.0, tt) b in
    let r = follow-all n d d2 cores (tree_choice d S x) (tree_after d2 T a.choices) cs l.1 a.both in
    record {
      choices = a.choices ++ r.choices;
      exist = exist-append cores a.choices r.choices a.exist r.exist;
      both = subst (λ z. Both n d2 cores [] (tree_after d (tree_choice d S x) cs) z) (sym (after-both d2 T a.choices r.choices)) r.both;
    }

-- the cores below j have gone to their ends
record EndedBelow (n d2 cores j : ℕ) (outputs : ℕ → List ℕ) (S T : TreeState) : Type 0 where
  pub choices : List Choice
  pub exist : CoresExist cores choices
  pub second : length (tree_after d2 T choices).cores ≡ cores
  pub agree : Agree n S.memory (tree_after d2 T choices).memory
  pub done : (k : ℕ) → k < j → IsDoneWith (tree_core (tree_after d2 T choices) k) (outputs k)
  pub others : (k : ℕ) → j ≤ k → tree_core (tree_after d2 T choices) k ≡ tree_core T k

end-all : (n d2 cores : ℕ) (outputs : ℕ → List ℕ) (S T : TreeState) → Both n d2 cores [] S T → ((k : ℕ) → k < cores → IsDoneWith (tree_core S k) (outputs k))
    → (j : ℕ) → j ≤ cores → EndedBelow n d2 cores j outputs S T
end-all n d2 cores outputs S T b done zero l =
    record { choices = []; exist = tt; second = b.second; agree = b.agree; done = λ k m. absurd (omega arith); others = λ k m. refl }
end-all n d2 cores outputs S T b done (suc j) l =
    let r = end-all n d2 cores outputs S T b done j (omega arith) in
    let U : TreeState = tree_after d2 T r.choices in
    let s : TreeCore = tree_core S j in
    let i = b.ties j (omega arith) in
    let e = done j (omega arith) in
    let t : TreeCore = tree_core T j in
    let f =
    finish n d2 j i.stores S.memory U.memory s.rest s.pending t.place t.rest t.pending (left j s []) (outputs j)
    r.agree i.kept i.room e.pending e.rest i.path in
    let w =
    lift d2 cores j U.memory t f.memory (at_tree f.place (Done (outputs j)) []) f.goes U refl
    (r.others j (omega arith)) (let z = r.second in omega arith) (omega arith) in
    let end : TreeState = tree_after d2 U w.choices in
    let is : tree_after d2 T (r.choices ++ w.choices) ≡ end = after-both d2 T r.choices w.choices in
    record {
      choices = r.choices ++ w.choices;
      exist = exist-append cores r.choices w.choices r.exist w.exist;
      second = ap (λ z. length z.cores) is ∙ w.size ∙ r.second;
      agree = subst (λ z. Agree n S.memory z) (sym (ap (λ z. z.memory) is ∙ w.memory)) f.agree;
      done = λ k m. subst (λ z. IsDoneWith (tree_core z k) (outputs k)) (sym is) (elim (decide k j) [
        | inl q ↦
            subst (λ z. IsDoneWith (tree_core end z) (outputs z)) (sym q)
            (subst (λ z. IsDoneWith z (outputs j)) (sym w.own) (record { rest = refl; pending = refl }))
        | inr q ↦ subst (λ z. IsDoneWith z (outputs k)) (sym (w.others k q)) (r.done k (omega arith))
      ]);
      others = λ k m. ap (λ z. tree_core z k) is ∙ w.others k (let z : k ≢ j = (λ q. let y : ⊥ = omega arith in y) in z) ∙ r.others k (omega arith);
    }

-- a number above one that each core has
enough : (cores : ℕ) (P : ℕ → ℕ → Type 0) → ((k : ℕ) → k < cores → (w : ℕ) × P k w) → (d : ℕ) × ((k : ℕ) → k < cores → (w : ℕ) × P k w × (w < suc d))
enough zero P f = (0, λ k l. absurd (omega arith))
enough (suc cores) P f =
    let r = enough cores P (λ k l. f k (omega arith)) in
    let last = f cores (omega arith) in (
      max r.0 last.0,
      λ k l. elim (decide k cores) [
        | inl q ↦ subst (λ z. (w : ℕ) × P z w × (w < suc (max r.0 last.0))) (sym q) (last.0, last.1, (let z = max-right r.0 last.0 in omega arith))
        | inr q ↦ (let i = r.1 k (omega arith) in (i.0, i.1, (let z = max-left r.0 last.0 in let y = i.2 in omega arith)))
      ],
    )

own-path-of : (n : ℕ) (b other : Branching) (order : List Entry) (outputs : List (List ℕ))
    → HasTheSamePaths n b other
    → IsBranchExecution b order outputs
    → (k : ℕ) → k < length b.trees
    → (w : ℕ) × Runs n w (slice_index_or b.trees k Cut) (values_along k 0 (slice_index_or b.trees k Cut) order) (slice_index_or other.trees k Cut)
own-path-of n b other order outputs same h k l =
    let tree : Tree = slice_index_or b.trees k Cut in
    let e = subst (λ z. outputs_along tree (values_along z 0 tree order) ≡ Some (slice_index_or outputs k [])) (let z : 0 + k ≡ k = omega arith in z)
    (gives-at 0 b.trees outputs order k h.done l) in
    counted n tree (values_along k 0 tree order) (slice_index_or other.trees k Cut)
    (same.paths k (values_along k 0 tree order) (slice_index_or outputs k []) l e)

start-both : (n d : ℕ) (b other : Branching) (order : List Entry) → HasTheSamePaths n b other
    → ((k : ℕ)
    → k < length b.trees
    → (w : ℕ)
    × Runs n w (slice_index_or b.trees k Cut) (values_along k 0 (slice_index_or b.trees k Cut) order) (slice_index_or other.trees k Cut)
    × (w < suc d))
    → Both n (suc d) (length b.trees) order (tree_start b) (tree_start other)
start-both n d b other order same f = record {
  first = length-planted b.trees;
  second = length-planted other.trees ∙ same.cores;
  agree = record { first = same.locations; second = same.other_locations; same = same.words };
  ties = λ k l. (
      let i = f k l in
      subst (λ z. Tie n (suc d) k order z (tree_core (tree_start other) k)) (sym (planted-at b.trees k))
      (subst (λ z. Tie n (suc d) k order (at_tree 0 (slice_index_or b.trees k Cut) []) z) (sym (planted-at other.trees k))
      (record { stores = i.0; path = i.1; kept = none; room = (let z = i.2 in omega arith); own = tt }))
      );
}

pub leave-the-same : RunsStopWhereTheyEnd → WholeOrdersHaveEachEntryOnce → RunsReachExactlyTheExecutions → Ended → Greatest
    → (n : ℕ) (b other : Branching) (outputs : List (List ℕ)) (memory : List ℕ)
    → EachPathIsTest b → EachPathIsTest other → HasTheSamePaths n b other → IsBranchOutcome b outputs memory
    → (kept : List ℕ) × IsBranchOutcome other outputs kept × ((loc : ℕ) → loc < n → slice_index kept loc ≡ slice_index memory loc)
leave-the-same stopping whole law ended greatest n b other outputs memory test other_test same h =
    let order : List Entry = h.order in
    let cores : ℕ = length b.trees in
    let own = test (writes_in order) (values_from 0 b.trees order) (paths-of-rounds whole b order outputs h.execution) in
    let r = reach stopping law greatest b order outputs own h.execution in
    let i =
    enough cores (λ k w.
    Runs n w (slice_index_or b.trees k Cut) (values_along k 0 (slice_index_or b.trees k Cut) order) (slice_index_or other.trees k Cut))
    (own-path-of n b other order outputs same h.execution) in
    let d : ℕ = i.0 in
    let S : TreeState = tree_start b in let T : TreeState = tree_start other in
    let f = follow-all n 32 (suc d) cores S T r.choices r.exist
    (subst (λ z. Both n (suc d) cores z S T) (sym r.commits) (start-both n d b other order same i.1)) in
    let e =
    end-all n (suc d) cores (λ k. slice_index_or outputs k []) (tree_after 32 S r.choices)
    (tree_after (suc d) T f.choices) f.both r.done cores (omega arith) in
    let cs : List Choice = f.choices ++ e.choices in
    let is : tree_after (suc d) T cs ≡ tree_after (suc d) (tree_after (suc d) T f.choices) e.choices = after-both (suc d) T f.choices e.choices in
    let made : List Entry = tree_commits (suc d) T cs in
    let reached : IsTreeReached other (suc d) made outputs = record {
      choices = cs;
      exist = subst (λ z. CoresExist z cs) (sym same.cores) (exist-append cores f.choices e.choices f.exist e.exist);
      commits = refl;
      count = r.count ∙ sym same.cores;
      done = λ k l. subst (λ z. IsDoneWith (tree_core z k) (slice_index_or outputs k [])) (sym is) (e.done k (let z = same.cores in omega arith));
    } in
    let other_own = other_test (length cs) (values_from 0 other.trees made) (runs-listed other (suc d) made outputs reached) in
    let left_b = memory-left stopping ended b 31 order outputs own r in
    let left_other = memory-left stopping ended other d made outputs other_own reached in (
      words_from 0 other.words made,
      record {
        order = made;
        execution =
            ((tree-runs-exactly stopping law other (suc d) made outputs
            (well-formed (straight other (values_from 0 other.trees made)) other_own) (omega arith)).0
            reached).0;
        memory_is = refl;
      },
      λ loc l. ap (λ z. slice_index z loc) (sym left_other ∙ ap (λ z. z.memory) is) ∙ e.agree.same loc l ∙ ap (λ z. slice_index z loc) (left_b ∙ h.memory_is),
    )
