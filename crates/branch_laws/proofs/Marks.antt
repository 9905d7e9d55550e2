-- The marked test goes along with the bounded one, and each of its cores can go on to its end.
use Rattle.std.proofs.Common.{◌≡◌, ◌≢◌, ℕ, ◌+◌, zero, suc, List, [], ◌∷◌, ◌++◌, Some, Bool, true, false, ◌⊎◌, ◌<◌, ◌≤◌, nat_lt}
use Rattle.std.proofs.Common.{if◌then◌else◌, length, slice_index, slice_index_or, arith, ap, sym, ◌∙◌, refl, subst, inl, inr}
use Rattle.basic_laws.proofs.Basics.{decide}
use Rattle.tso_terms.specs.Thread.{entry}
use Rattle.tso_terms.specs.FlatMachine.{memory_after}
use Rattle.tso_terms.specs.Runs.{CoresExist}
use Rattle.tso_laws.specs.Laws.{RunsReachExactlyTheExecutions}
use Rattle.tso_laws.specs.inner.Laws.{RunsStopWhereTheyEnd, WholeOrdersHaveEachEntryOnce}
use Rattle.basic_laws.specs.Types.{Entry, Choice, Step, Drain, Loc, W, LR, LW}
use Rattle.branch_laws.specs.Trees.{Tree, Done, Cut, Reads, Stores, Fences, Locks, written, values_along, outputs_along}
use Rattle.branch_laws.specs.Branching.{Branching, Give, values_from}
use Rattle.branch_laws.specs.TreeMachine.{TreeCore, TreeState, TreeEffect, stays, seen_value, act, drain_tree, tree_core, tree_effect}
use Rattle.branch_laws.specs.TreeMachine.{tree_choice, tree_applied, tree_after, tree_start, IsDoneWith, IsTreeReached, IsTreeEnd}
use Rattle.branch_laws.specs.Rounds.{EachPathIsTest, writes_in}
use Rattle.branch_laws.specs.Laws.{TreeEndsAreTheOutcomes}
use Rattle.branch_laws.specs.Bounds.{IsCutFrom, AreCutFrom, IsBounded, NoneIsCutOff, marked, all_marked, with_marks, NoOutcomeIsCutOff}
use Rattle.branch_laws.proofs.Values.{told}
use Rattle.branch_laws.proofs.States.{tree-changed}
use Rattle.branch_laws.proofs.Ends.{planted-at, length-planted, run-told, start-own, give-told}
use Rattle.branch_laws.proofs.InRounds.{paths-of-rounds}
use Rattle.branch_laws.proofs.TreeEnds.{Greatest, reach}
use Rattle.branch_laws.proofs.KeptStores.{Goes, stop, step, drain, goes-on, step-by, at_tree}
use Rattle.branch_laws.proofs.OneCoreGoes.{lt-true}
use Rattle.branch_laws.proofs.SamePaths.{lift, exist-append, after-both}
use Rattle.branch_laws.proofs.CutSteps.{AlikeCores, AlikeStates, FollowsOrStops, follows, stops, follow-or-stop}

-- the marked test goes along with the bounded one

abbrev mark : TreeCore → TreeCore
mark s = at_tree s.place (marked s.rest) s.pending

record MarkedStates (n : ℕ) (U T : TreeState) : Type 0 where
  pub memory : T.memory ≡ U.memory
  pub first : length U.cores ≡ n
  pub second : length T.cores ≡ n
  pub cores : (k : ℕ) → k < n → tree_core T k ≡ mark (tree_core U k)

marked-act : (d : ℕ) (m : List ℕ) (c p : ℕ) (tree : Tree) (q : List Entry) → act d m c (marked tree) (at_tree p (marked tree) q)
    ≡ record { after = mark (act d m c tree (at_tree p tree q)).after; commits = (act d m c tree (at_tree p tree q)).commits }
marked-act d m c p (Done o) q = refl
marked-act d m c p Cut q = refl
marked-act d m c p (Reads loc next) q = refl
marked-act d m c p (Stores loc value next) q = go (nat_lt (length q) d)
  where
    go : (t : Bool)
        → (let g : TreeEffect =
        if t
        then record { after = at_tree (p + 1) (marked next) (q ++ entry c p W loc value ∷ []); commits = [] }
        else stays (at_tree p (marked (Stores loc value next)) q) in
        g)
        ≡ (let h : TreeEffect =
        (if t
        then record { after = at_tree (p + 1) next (q ++ entry c p W loc value ∷ []); commits = [] }
        else stays (at_tree p (Stores loc value next) q)) in
        record { after = mark h.after; commits = h.commits })
    go true = refl
    go false = refl
marked-act d m c p (Fences next) [] = refl
marked-act d m c p (Fences next) (x ∷ q) = refl
marked-act d m c p (Locks loc change next) [] = refl
marked-act d m c p (Locks loc change next) (x ∷ q) = refl

next-marked : (n c : ℕ) (U T : TreeState) (g h : TreeEffect) → c < n → MarkedStates n U T → h ≡ record { after = mark g.after; commits = g.commits }
    → MarkedStates n (tree_applied U c g) (tree_applied T c h)
next-marked n c U T g h l a e =
    let v = tree-changed U c g (let z = a.first in omega arith) in
    let w = tree-changed T c h (let z = a.second in omega arith) in
    record {
      memory = ap (λ z. memory_after z.commits T.memory) e ∙ ap (λ z. memory_after g.commits z) a.memory;
      first = v.size ∙ a.first;
      second = w.size ∙ a.second;
      cores = λ j m. elim (decide j c) [
        | inl q ↦
            subst (λ z. tree_core (tree_applied T c h) z ≡ mark (tree_core (tree_applied U c g) z)) (sym q)
            (w.own ∙ ap (λ z. z.after) e ∙ sym (ap (λ z. mark z) v.own))
        | inr q ↦ w.others j q ∙ a.cores j m ∙ sym (ap (λ z. mark z) (v.others j q))
      ];
    }

marked-after : (d n : ℕ) (U T : TreeState) (cs : List Choice) → CoresExist n cs → MarkedStates n U T → MarkedStates n (tree_after d U cs) (tree_after d T cs)
marked-after d n U T [] l a = a
marked-after d n U T (Step j ∷ cs) l a =
    let s : TreeCore = tree_core U j.0 in
    let e : tree_effect d T (Step j) ≡ record { after = mark (tree_effect d U (Step j)).after; commits = (tree_effect d U (Step j)).commits } =
    ap (λ z. act d z j.0 (tree_core T j.0).rest (tree_core T j.0)) a.memory ∙ ap (λ z. act d U.memory j.0 z.rest z) (a.cores j.0 l.0)
    ∙ marked-act d U.memory j.0 s.place s.rest s.pending in
    marked-after d n (tree_choice d U (Step j)) (tree_choice d T (Step j)) cs l.1
    (next-marked n j.0 U T (tree_effect d U (Step j)) (tree_effect d T (Step j)) l.0 a e)
marked-after d n U T (Drain j ∷ cs) l a =
    marked-after d n (tree_choice d U (Drain j)) (tree_choice d T (Drain j)) cs l.1
    (next-marked n j.0 U T (drain_tree (tree_core U j.0)) (drain_tree (tree_core T j.0)) l.0 a (ap (λ z. drain_tree z) (a.cores j.0 l.0)))

-- a core goes on to its end

record GoesToEnd (d c : ℕ) (m : List ℕ) (t : TreeCore) : Type 0 where
  pub memory : List ℕ
  pub place : ℕ
  pub outputs : List ℕ
  pub goes : Goes d c m t memory (at_tree place (Done outputs) [])

record DrainsAll (d c : ℕ) (m : List ℕ) (p : ℕ) (tree : Tree) (q : List Entry) : Type 0 where
  pub memory : List ℕ
  pub goes : Goes d c m (at_tree p tree q) memory (at_tree p tree [])

drains-all : (d c : ℕ) (m : List ℕ) (p : ℕ) (tree : Tree) (q : List Entry) → DrainsAll d c m p tree q
drains-all d c m p tree [] = record { memory = m; goes = stop m (at_tree p tree []) }
drains-all d c m p tree (e ∷ q) =
    let r = drains-all d c (memory_after (e ∷ []) m) p tree q in
    record { memory = r.memory; goes = drain m (at_tree p tree (e ∷ q)) r.memory (at_tree p tree []) r.goes }

first-drains : (d c : ℕ) (m : List ℕ) (p : ℕ) (tree : Tree) (q : List Entry)
    → ((k : List ℕ) → GoesToEnd d c k (at_tree p tree []))
    → GoesToEnd d c m (at_tree p tree q)
first-drains d c m p tree q f =
    let r = drains-all d c m p tree q in
    let e = f r.memory in
    record {
      memory = e.memory;
      place = e.place;
      outputs = e.outputs;
      goes = goes-on d c m (at_tree p tree q) r.memory (at_tree p tree []) e.memory (at_tree e.place (Done e.outputs) []) r.goes e.goes;
    }

steps-first : (d c : ℕ) (m : List ℕ) (s : TreeCore) → GoesToEnd d c (memory_after (act d m c s.rest s).commits m) (act d m c s.rest s).after → GoesToEnd d c m s
steps-first d c m s e = record {
  memory = e.memory;
  place = e.place;
  outputs = e.outputs;
  goes = step m s e.memory (at_tree e.place (Done e.outputs) []) e.goes;
}

stores-first : (d c : ℕ) (k : List ℕ) (p : ℕ) (loc : Loc) (value : ℕ) (next : Tree) → GoesToEnd (suc d) c k (at_tree (p + 1) next (entry c p W loc value ∷ []))
    → GoesToEnd (suc d) c k (at_tree p (Stores loc value next) [])
stores-first d c k p loc value next e =
    let g : TreeEffect = record { after = at_tree (p + 1) next (entry c p W loc value ∷ []); commits = [] } in
    let f : TreeEffect = stays (at_tree p (Stores loc value next) []) in
    record {
      memory = e.memory;
      place = e.place;
      outputs = e.outputs;
      goes = step-by (suc d) c k (at_tree p (Stores loc value next) []) g e.memory (at_tree e.place (Done e.outputs) [])
          (ap (λ z. if z then g else f) (lt-true 0 (suc d) (omega arith))) e.goes;
    }

goes-to-end : (d c : ℕ) (tree : Tree) (m : List ℕ) (p : ℕ) (q : List Entry) → GoesToEnd (suc d) c m (at_tree p (marked tree) q)
goes-to-end d c (Done o) m p q =
    let r = drains-all (suc d) c m p (Done (0 ∷ o)) q in record { memory = r.memory; place = p; outputs = 0 ∷ o; goes = r.goes }
goes-to-end d c Cut m p q =
    let r = drains-all (suc d) c m p (Done (1 ∷ [])) q in record { memory = r.memory; place = p; outputs = 1 ∷ []; goes = r.goes }
goes-to-end d c (Reads loc next) m p q =
    steps-first (suc d) c m (at_tree p (marked (Reads loc next)) q) (goes-to-end d c (next (seen_value m q loc.0)) m (p + 1) q)
goes-to-end d c (Stores loc value next) m p q =
    first-drains (suc d) c m p (marked (Stores loc value next)) q
    (λ k. stores-first d c k p loc value (marked next) (goes-to-end d c next k (p + 1) (entry c p W loc value ∷ [])))
goes-to-end d c (Fences next) m p q =
    first-drains (suc d) c m p (marked (Fences next)) q (λ k. steps-first (suc d) c k (at_tree p (marked (Fences next)) []) (goes-to-end d c next k (p + 1) []))
goes-to-end d c (Locks loc change next) m p q =
    first-drains (suc d) c m p (marked (Locks loc change next)) q
    (λ k. steps-first (suc d) c k (at_tree p (marked (Locks loc change next)) [])
    (goes-to-end d c (next (slice_index k loc.0))
    (memory_after (entry c (p + 1) LR loc (slice_index k loc.0) ∷ (entry c (p + 1) LW loc (written change (slice_index k loc.0)) ∷ [])) k)
    ((p + 1) + 1) []))

cut-outputs : (d c : ℕ) (tree : Tree) (m : List ℕ) (p : ℕ) (q : List Entry) → tree ≡ Cut → (goes-to-end d c tree m p q).outputs ≡ 1 ∷ []
unfolding goes-to-end
cut-outputs d c Cut m p q e = refl
cut-outputs d c (Done o) m p q e = absurd (let z : ⊥ = cc in z)
cut-outputs d c (Reads loc next) m p q e = absurd (let z : ⊥ = cc in z)
cut-outputs d c (Stores loc value next) m p q e = absurd (let z : ⊥ = cc in z)
cut-outputs d c (Fences next) m p q e = absurd (let z : ⊥ = cc in z)
cut-outputs d c (Locks loc change next) m p q e = absurd (let z : ⊥ = cc in z)

-- all cores go on to their ends; the core c, which was cut off, with its mark

record Ends (d n c j : ℕ) (T : TreeState) : Type 0 where
  pub choices : List Choice
  pub exist : CoresExist n choices
  pub size : length (tree_after d T choices).cores ≡ n
  pub done : (k : ℕ) → k < j → (o : List ℕ) × IsDoneWith (tree_core (tree_after d T choices) k) o × (k ≡ c → o ≡ 1 ∷ [])
  pub others : (k : ℕ) → j ≤ k → tree_core (tree_after d T choices) k ≡ tree_core T k

ends-all : (d n c : ℕ) (U T : TreeState) → MarkedStates n U T → (tree_core U c).rest ≡ Cut → (j : ℕ) → j ≤ n → Ends (suc d) n c j T
ends-all d n c U T a cut zero l = record { choices = []; exist = tt; size = a.second; done = λ k m. absurd (omega arith); others = λ k m. refl }
ends-all d n c U T a cut (suc j) l =
    let r = ends-all d n c U T a cut j (omega arith) in
    let V : TreeState = tree_after (suc d) T r.choices in
    let s : TreeCore = tree_core U j in
    let e = goes-to-end d j s.rest V.memory s.place s.pending in
    let w =
    lift (suc d) n j V.memory (mark s) e.memory (at_tree e.place (Done e.outputs) []) e.goes V refl
    (r.others j (omega arith) ∙ a.cores j (omega arith)) (let z = r.size in omega arith) (omega arith) in
    let last : TreeState = tree_after (suc d) V w.choices in
    let is : tree_after (suc d) T (r.choices ++ w.choices) ≡ last = after-both (suc d) T r.choices w.choices in
    record {
      choices = r.choices ++ w.choices;
      exist = exist-append n r.choices w.choices r.exist w.exist;
      size = ap (λ z. length z.cores) is ∙ w.size ∙ r.size;
      done = λ k m. subst (λ z. (o : List ℕ) × IsDoneWith (tree_core z k) o × (k ≡ c → o ≡ 1 ∷ [])) (sym is) (elim (decide k j) [
        | inl q ↦ (
          e.outputs,
          subst (λ z. IsDoneWith (tree_core last z) e.outputs) (sym q)
              (subst (λ z. IsDoneWith z e.outputs) (sym w.own) (record { rest = refl; pending = refl })),
          λ i. cut-outputs d j s.rest V.memory s.place s.pending (ap (λ z. (tree_core U z).rest) (sym q ∙ i) ∙ cut),
        )
        | inr q ↦ (let b = r.done k (omega arith) in (b.0, subst (λ z. IsDoneWith z b.0) (sym (w.others k q)) b.1, b.2))
      ]);
      others = λ k m. ap (λ z. tree_core z k) is ∙ w.others k (let z : k ≢ j = (λ q. let y : ⊥ = omega arith in y) in z) ∙ r.others k (omega arith);
    }

-- a list of what each number below n has
record Collected (n : ℕ) (P : ℕ → List ℕ → Type 0) : Type 0 where
  pub all : List (List ℕ)
  pub size : length all ≡ n
  pub each : (k : ℕ) → k < n → P k (slice_index_or all k [])

collect : (n : ℕ) (P : ℕ → List ℕ → Type 0) → ((k : ℕ) → k < n → (o : List ℕ) × P k o) → Collected n P
collect zero P f = record { all = []; size = refl; each = λ k l. absurd (omega arith) }
collect (suc n) P f =
    let first = f 0 (omega arith) in
    let r = collect n (λ k o. P (suc k) o) (λ k l. f (suc k) (omega arith)) in
    record { all = first.0 ∷ r.all; size = ap suc r.size; each = λ k l. at k l first r }
  where
    at : (k : ℕ) → k < suc n → (first : (o : List ℕ) × P 0 o) → (r : Collected n (λ k o. P (suc k) o)) → P k (slice_index_or (first.0 ∷ r.all) k [])
    at zero l first r = first.1
    at (suc k) l first r = r.each k (omega arith)

-- beginnings

cut-at : (trees wholes : List Tree) (k : ℕ) → AreCutFrom trees wholes → IsCutFrom (slice_index_or trees k Cut) (slice_index_or wholes k Cut)
cut-at [] [] k h = tt
cut-at [] (w ∷ wholes) k h = absurd h
cut-at (tree ∷ trees) [] k h = absurd h
cut-at (tree ∷ trees) (w ∷ wholes) zero h = h.0
cut-at (tree ∷ trees) (w ∷ wholes) (suc k) h = cut-at trees wholes k h.1

cut-length : (trees wholes : List Tree) → AreCutFrom trees wholes → length trees ≡ length wholes
cut-length [] [] h = refl
cut-length [] (w ∷ wholes) h = absurd h
cut-length (tree ∷ trees) [] h = absurd h
cut-length (tree ∷ trees) (w ∷ wholes) h = ap suc (cut-length trees wholes h.1)

marked-at : (trees : List Tree) (k : ℕ) → k < length trees → slice_index_or (all_marked trees) k Cut ≡ marked (slice_index_or trees k Cut)
marked-at [] k l = absurd (omega arith)
marked-at (tree ∷ trees) zero l = refl
marked-at (tree ∷ trees) (suc k) l = marked-at trees k (omega arith)

length-marked : (trees : List Tree) → length (all_marked trees) ≡ length trees
length-marked [] = refl
length-marked (tree ∷ trees) = ap suc (length-marked trees)

start-alike : (b whole : Branching) → IsBounded b whole → AlikeStates (length whole.trees) (tree_start b) (tree_start whole)
start-alike b whole w = record {
  memory = w.words;
  first = length-planted b.trees ∙ cut-length b.trees whole.trees w.trees;
  second = length-planted whole.trees;
  cores = λ k l. subst (λ z. AlikeCores z (tree_core (tree_start whole) k)) (sym (planted-at b.trees k))
      (subst (λ z. AlikeCores (at_tree 0 (slice_index_or b.trees k Cut) []) z) (sym (planted-at whole.trees k))
      (record { place = refl; pending = refl; cut = cut-at b.trees whole.trees k w.trees }));
}

start-marked : (b : Branching) → MarkedStates (length b.trees) (tree_start b) (tree_start (with_marks b))
start-marked b = record {
  memory = refl;
  first = length-planted b.trees;
  second = length-planted (all_marked b.trees) ∙ length-marked b.trees;
  cores = λ k l. planted-at (all_marked b.trees) k ∙ ap (λ z. at_tree 0 z []) (marked-at b.trees k l) ∙ sym (ap (λ z. mark z) (planted-at b.trees k));
}

-- a core that is cut off shows in an outcome of the marked test
cut-shows : TreeEndsAreTheOutcomes → (b : Branching) (cs : List Choice) (c : ℕ) → EachPathIsTest (with_marks b) → NoOutcomeIsCutOff b
    → CoresExist (length b.trees) cs → c < length b.trees → (tree_core (tree_after 32 (tree_start b) cs) c).rest ≡ Cut → ⊥
cut-shows law b cs c test clear l m cut =
    let n : ℕ = length b.trees in
    let U : TreeState = tree_after 32 (tree_start b) cs in
    let T : TreeState = tree_after 32 (tree_start (with_marks b)) cs in
    let a : MarkedStates n U T = marked-after 32 n (tree_start b) (tree_start (with_marks b)) cs l (start-marked b) in
    let r = ends-all 31 n c U T a cut n (omega arith) in
    let o =
    collect n (λ k o. IsDoneWith (tree_core (tree_after 32 T r.choices) k) o × (k ≡ c → o ≡ 1 ∷ []))
    (λ k i. (let x = r.done k i in (x.0, (x.1, x.2)))) in
    let is : tree_after 32 (tree_start (with_marks b)) (cs ++ r.choices) ≡ tree_after 32 T r.choices = after-both 32 (tree_start (with_marks b)) cs r.choices in
    let end : IsTreeEnd (with_marks b) 32 o.all (tree_after 32 (tree_start (with_marks b)) (cs ++ r.choices)).memory = record {
      choices = cs ++ r.choices;
      exist = subst (λ z. CoresExist z (cs ++ r.choices)) (sym (length-marked b.trees)) (exist-append n cs r.choices l r.exist);
      count = o.size ∙ sym (length-marked b.trees);
      done = λ k i. subst (λ z. IsDoneWith (tree_core z k) (slice_index_or o.all k [])) (sym is) (o.each k (let z = length-marked b.trees in omega arith)).0;
      memory_is = refl;
    } in
    clear o.all (tree_after 32 (tree_start (with_marks b)) (cs ++ r.choices)).memory c
    ((law (with_marks b) o.all (tree_after 32 (tree_start (with_marks b)) (cs ++ r.choices)).memory test).0 end)
    ((o.each c m).1 refl)

-- a tree that is done in the whole is done or cut off in the bounded one
done-or-cut : (tree whole : Tree) (outputs : List ℕ) → IsCutFrom tree whole → whole ≡ Done outputs → (tree ≡ Cut) ⊎ (tree ≡ Done outputs)
done-or-cut Cut whole outputs h e = inl refl
done-or-cut (Done o) (Done u) outputs h e = inr (ap Done h ∙ e)
done-or-cut (Done o) Cut outputs h e = absurd h
done-or-cut (Done o) (Reads at more) outputs h e = absurd h
done-or-cut (Done o) (Stores at other more) outputs h e = absurd h
done-or-cut (Done o) (Fences more) outputs h e = absurd h
done-or-cut (Done o) (Locks at other more) outputs h e = absurd h
done-or-cut (Reads loc next) whole outputs h e = absurd (let z : IsCutFrom (Reads loc next) (Done outputs) = subst (λ y. IsCutFrom (Reads loc next) y) e h in z)
done-or-cut (Stores loc value next) whole outputs h e =
    absurd (let z : IsCutFrom (Stores loc value next) (Done outputs) = subst (λ y. IsCutFrom (Stores loc value next) y) e h in z)
done-or-cut (Fences next) whole outputs h e = absurd (let z : IsCutFrom (Fences next) (Done outputs) = subst (λ y. IsCutFrom (Fences next) y) e h in z)
done-or-cut (Locks loc change next) whole outputs h e =
    absurd (let z : IsCutFrom (Locks loc change next) (Done outputs) = subst (λ y. IsCutFrom (Locks loc change next) y) e h in z)

pub none-cut-off : RunsStopWhereTheyEnd → WholeOrdersHaveEachEntryOnce → RunsReachExactlyTheExecutions → Greatest → TreeEndsAreTheOutcomes
    → (b whole : Branching) → IsBounded b whole → EachPathIsTest whole → EachPathIsTest (with_marks b) → NoOutcomeIsCutOff b → NoneIsCutOff b whole
none-cut-off stopping law runs greatest tree_ends b whole w whole_test test clear order outputs h =
    let own = whole_test (writes_in order) (values_from 0 whole.trees order) (paths-of-rounds law whole order outputs h) in
    let r = reach stopping runs greatest whole order outputs own h in
    go r (follow-or-stop 32 (length whole.trees) (tree_start b) (tree_start whole) r.choices r.exist (start-alike b whole w))
  where
    size : length b.trees ≡ length whole.trees
    size = cut-length b.trees whole.trees w.trees

    within : (k : ℕ) → k < length b.trees → k < length whole.trees
    within k m = let z = size in omega arith

    back : (k : ℕ) → k < length whole.trees → k < length b.trees
    back k m = let z = size in omega arith

    go : (r : IsTreeReached whole 32 order outputs) → FollowsOrStops 32 (length whole.trees) (tree_start b) (tree_start whole) r.choices
        → (others : List (List ℕ)) × Give b.trees (values_from 0 b.trees order) others
    go r (stops some k x m q) = absurd (cut-shows tree_ends b some k test clear (subst (λ z. CoresExist z some) (sym size) x) (back k m) q)
    go r (follows q a) =
        let U : TreeState = tree_after 32 (tree_start b) r.choices in
        let l : CoresExist (length b.trees) r.choices = subst (λ z. CoresExist z r.choices) (sym size) r.exist in
        let done : (k : ℕ) → k < length b.trees → IsDoneWith (tree_core U k) (slice_index_or outputs k []) = (λ k m. (
        let i = a.cores k (within k m) in
        let e = r.done k (within k m) in
        record {
          rest =
              elim (done-or-cut (tree_core U k).rest
              (tree_core (tree_after 32 (tree_start whole) r.choices) k).rest (slice_index_or outputs k []) i.cut
              e.rest) [
                | inl c ↦ absurd (cut-shows tree_ends b r.choices k test clear l m c)
                | inr c ↦ c
              ];
          pending = i.pending ∙ e.pending;
        }
        )) in (
          outputs,
          give-told 0 b.trees outputs order (r.count ∙ sym size) (λ k m.
              subst (λ z.
              outputs_along (slice_index_or b.trees k Cut) (values_along z 0 (slice_index_or b.trees k Cut) order)
              ≡ Some (slice_index_or outputs k []))
              (let z : k ≡ 0 + k = omega arith in z)
              (subst (λ z. told k z order ≡ Some (slice_index_or outputs k [])) (planted-at b.trees k)
              (subst (λ z. told k (tree_core (tree_start b) k) z ≡ Some (slice_index_or outputs k [])) (q ∙ r.commits)
              (run-told 32 (length b.trees) (tree_start b) r.choices (λ j. slice_index_or outputs j []) (length-planted b.trees) l (start-own b) done k m)))),
        )
