-- A run of the whole test is one of the bounded test until a core is cut off.
use Rattle.std.proofs.Common.{◌≡◌, ℕ, List, [], ◌∷◌, ◌++◌, Bool, true, false, ◌⊎◌, ◌<◌, nat_lt, length, slice_index, take, drop, arith, ap}
use Rattle.std.proofs.Common.{sym, ◌∙◌, refl, subst, inl, inr}
use Rattle.basic_laws.proofs.Basics.{decide}
use Rattle.tso_terms.specs.FlatMachine.{memory_after}
use Rattle.tso_terms.specs.Runs.{CoresExist}
use Rattle.basic_laws.specs.Types.{Entry, Choice, Step, Drain}
use Rattle.branch_laws.specs.Trees.{Tree, Done, Cut, Reads, Stores, Fences, Locks}
use Rattle.branch_laws.specs.TreeMachine.{TreeCore, TreeState, TreeEffect, seen_value, act, drain_tree, tree_core, tree_effect, tree_choice}
use Rattle.branch_laws.specs.TreeMachine.{tree_applied, tree_after, tree_commits}
use Rattle.branch_laws.specs.Bounds.{IsCutFrom}
use Rattle.branch_laws.proofs.States.{tree-changed}
use Rattle.branch_laws.proofs.KeptStores.{at_tree}

-- one core: a step of the whole tree is one of the bounded tree that isn't cut off here
record StepsAlike (d : ℕ) (memory : List ℕ) (c p : ℕ) (tree whole : Tree) (q : List Entry) : Type 0 where
  pub commits : (act d memory c tree (at_tree p tree q)).commits ≡ (act d memory c whole (at_tree p whole q)).commits
  pub place : (act d memory c tree (at_tree p tree q)).after.place ≡ (act d memory c whole (at_tree p whole q)).after.place
  pub pending : (act d memory c tree (at_tree p tree q)).after.pending ≡ (act d memory c whole (at_tree p whole q)).after.pending
  pub cut : IsCutFrom (act d memory c tree (at_tree p tree q)).after.rest (act d memory c whole (at_tree p whole q)).after.rest

steps-alike : (d : ℕ) (memory : List ℕ) (c p : ℕ) (tree whole : Tree) (q : List Entry)
    → IsCutFrom tree whole
    → (tree ≡ Cut) ⊎ StepsAlike d memory c p tree whole q
steps-alike d memory c p Cut whole q h = inl refl
steps-alike d memory c p (Done o) (Done u) q h = inr (record { commits = refl; place = refl; pending = refl; cut = h })
steps-alike d memory c p (Done o) Cut q h = absurd h
steps-alike d memory c p (Done o) (Reads at more) q h = absurd h
steps-alike d memory c p (Done o) (Stores at other more) q h = absurd h
steps-alike d memory c p (Done o) (Fences more) q h = absurd h
steps-alike d memory c p (Done o) (Locks at other more) q h = absurd h
steps-alike d memory c p (Reads loc next) (Reads at more) q h =
    inr (subst (λ z. StepsAlike d memory c p (Reads loc next) (Reads z more) q) h.0 (record {
      commits = refl;
      place = refl;
      pending = refl;
      cut = h.1 (seen_value memory q loc.0);
    }))
steps-alike d memory c p (Reads loc next) Cut q h = absurd h
steps-alike d memory c p (Reads loc next) (Done u) q h = absurd h
steps-alike d memory c p (Reads loc next) (Stores at other more) q h = absurd h
steps-alike d memory c p (Reads loc next) (Fences more) q h = absurd h
steps-alike d memory c p (Reads loc next) (Locks at other more) q h = absurd h
steps-alike d memory c p (Stores loc value next) (Stores at other more) q h =
    inr (subst (λ z. StepsAlike d memory c p (Stores loc value next) (Stores z other more) q) h.0
    (subst (λ z. StepsAlike d memory c p (Stores loc value next) (Stores loc z more) q) h.1 (go (nat_lt (length q) d) refl)))
  where
    go : (t : Bool) → nat_lt (length q) d ≡ t → StepsAlike d memory c p (Stores loc value next) (Stores loc value more) q
    go true e = record { commits = rw e refl; place = rw e refl; pending = rw e refl; cut = rw e h.2 }
    go false e = record { commits = rw e refl; place = rw e refl; pending = rw e refl; cut = rw e (refl, refl, h.2) }
steps-alike d memory c p (Stores loc value next) Cut q h = absurd h
steps-alike d memory c p (Stores loc value next) (Done u) q h = absurd h
steps-alike d memory c p (Stores loc value next) (Reads at more) q h = absurd h
steps-alike d memory c p (Stores loc value next) (Fences more) q h = absurd h
steps-alike d memory c p (Stores loc value next) (Locks at other more) q h = absurd h
steps-alike d memory c p (Fences next) (Fences more) [] h = inr (record { commits = refl; place = refl; pending = refl; cut = h })
steps-alike d memory c p (Fences next) (Fences more) (x ∷ q) h = inr (record { commits = refl; place = refl; pending = refl; cut = h })
steps-alike d memory c p (Fences next) Cut q h = absurd h
steps-alike d memory c p (Fences next) (Done u) q h = absurd h
steps-alike d memory c p (Fences next) (Reads at more) q h = absurd h
steps-alike d memory c p (Fences next) (Stores at other more) q h = absurd h
steps-alike d memory c p (Fences next) (Locks at other more) q h = absurd h
steps-alike d memory c p (Locks loc change next) (Locks at other more) [] h =
    inr (subst (λ z. StepsAlike d memory c p (Locks loc change next) (Locks z other more) []) h.0
    (subst (λ z. StepsAlike d memory c p (Locks loc change next) (Locks loc z more) []) h.1
    (record { commits = refl; place = refl; pending = refl; cut = h.2 (slice_index memory loc.0) })))
steps-alike d memory c p (Locks loc change next) (Locks at other more) (x ∷ q) h = inr (record { commits = refl; place = refl; pending = refl; cut = h })
steps-alike d memory c p (Locks loc change next) Cut q h = absurd h
steps-alike d memory c p (Locks loc change next) (Done u) q h = absurd h
steps-alike d memory c p (Locks loc change next) (Reads at more) q h = absurd h
steps-alike d memory c p (Locks loc change next) (Stores at other more) q h = absurd h
steps-alike d memory c p (Locks loc change next) (Fences more) q h = absurd h

-- cores of the two tests
pub record AlikeCores (u s : TreeCore) : Type 0 where
  pub place : u.place ≡ s.place
  pub pending : u.pending ≡ s.pending
  pub cut : IsCutFrom u.rest s.rest

pub record AlikeStates (n : ℕ) (U S : TreeState) : Type 0 where
  pub memory : U.memory ≡ S.memory
  pub first : length U.cores ≡ n
  pub second : length S.cores ≡ n
  pub cores : (k : ℕ) → k < n → AlikeCores (tree_core U k) (tree_core S k)

next-alike : (n c : ℕ) (U S : TreeState) (g h : TreeEffect) → c < n → AlikeStates n U S → g.commits ≡ h.commits → AlikeCores g.after h.after
    → AlikeStates n (tree_applied U c g) (tree_applied S c h)
next-alike n c U S g h l a e k =
    let v = tree-changed U c g (let z = a.first in omega arith) in
    let w = tree-changed S c h (let z = a.second in omega arith) in
    record {
      memory = ap (λ z. memory_after z U.memory) e ∙ ap (λ z. memory_after h.commits z) a.memory;
      first = v.size ∙ a.first;
      second = w.size ∙ a.second;
      cores = λ j m. elim (decide j c) [
        | inl q ↦ subst (λ z. AlikeCores (tree_core (tree_applied U c g) z) (tree_core (tree_applied S c h) z)) (sym q)
            (subst (λ z. AlikeCores z (tree_core (tree_applied S c h) c)) (sym v.own) (subst (λ z. AlikeCores g.after z) (sym w.own) k))
        | inr q ↦
            subst (λ z. AlikeCores z (tree_core (tree_applied S c h) j)) (sym (v.others j q))
            (subst (λ z. AlikeCores (tree_core U j) z) (sym (w.others j q)) (a.cores j m))
      ];
    }

-- the bounded test follows the whole one to the end of the choices, or stops at a core that is cut off
pub data FollowsOrStops (d n : ℕ) (U S : TreeState) (cs : List Choice) : Type 0 where
  follows : tree_commits d U cs ≡ tree_commits d S cs → AlikeStates n (tree_after d U cs) (tree_after d S cs) → FollowsOrStops d n U S cs
  stops : (some : List Choice) (k : ℕ) → CoresExist n some → k < n → (tree_core (tree_after d U some) k).rest ≡ Cut → FollowsOrStops d n U S cs

same-act : (d : ℕ) (m k : List ℕ) (c : ℕ) (u s : TreeCore) → m ≡ k → AlikeCores u s → (u.rest ≡ Cut)
    ⊎ ((act d m c u.rest u).commits ≡ (act d k c s.rest s).commits × AlikeCores (act d m c u.rest u).after (act d k c s.rest s).after)
same-act d m k c u s e a = elim (steps-alike d k c s.place u.rest s.rest s.pending a.cut) [
  | inl q ↦ inl q
  | inr q ↦ inr (
      subst (λ z. (act d z c u.rest u).commits ≡ (act d k c s.rest s).commits × AlikeCores (act d z c u.rest u).after (act d k c s.rest s).after) (sym e)
      (subst (λ z. (act d k c u.rest z).commits ≡ (act d k c s.rest s).commits × AlikeCores (act d k c u.rest z).after (act d k c s.rest s).after) (sym u-is)
      (q.commits, record { place = q.place; pending = q.pending; cut = q.cut })))
]
  where
    u-is : u ≡ at_tree s.place u.rest s.pending
    u-is = ap (λ z. at_tree z u.rest u.pending) a.place ∙ ap (λ z. at_tree s.place u.rest z) a.pending

pub follow-or-stop : (d n : ℕ) (U S : TreeState) (cs : List Choice) → CoresExist n cs → AlikeStates n U S → FollowsOrStops d n U S cs
follow-or-stop d n U S [] l a = follows refl a
follow-or-stop d n U S (Step j ∷ cs) l a =
    go (same-act d U.memory S.memory j.0 (tree_core U j.0) (tree_core S j.0) a.memory (a.cores j.0 l.0))
    (λ b. follow-or-stop d n (tree_choice d U (Step j)) (tree_choice d S (Step j)) cs l.1 b)
  where
    g : TreeEffect
    g = tree_effect d U (Step j)

    h : TreeEffect
    h = tree_effect d S (Step j)

    more : g.commits ≡ h.commits → FollowsOrStops d n (tree_choice d U (Step j)) (tree_choice d S (Step j)) cs → FollowsOrStops d n U S (Step j ∷ cs)
    more e (follows q b) = follows (ap (λ z. z ++ tree_commits d (tree_choice d U (Step j)) cs) e ∙ ap (λ z. h.commits ++ z) q) b
    more e (stops some k x m q) = stops (Step j ∷ some) k (l.0, x) m q

    go : (((tree_core U j.0).rest ≡ Cut) ⊎ (g.commits ≡ h.commits × AlikeCores g.after h.after))
        → (AlikeStates n (tree_choice d U (Step j)) (tree_choice d S (Step j)) → FollowsOrStops d n (tree_choice d U (Step j)) (tree_choice d S (Step j)) cs)
        → FollowsOrStops d n U S (Step j ∷ cs)
    go (inl q) again = stops [] j.0 tt l.0 q
    go (inr q) again = more q.0 (again (next-alike n j.0 U S g h l.0 a q.0 q.1))
follow-or-stop d n U S (Drain j ∷ cs) l a = more (follow-or-stop d n (tree_choice d U (Drain j)) (tree_choice d S (Drain j)) cs l.1
    (next-alike n j.0 U S (drain_tree (tree_core U j.0)) (drain_tree (tree_core S j.0)) l.0 a (ap (λ z. take 1 z) (a.cores j.0 l.0).pending)
    (record { place = (a.cores j.0 l.0).place; pending = ap (λ z. drop 1 z) (a.cores j.0 l.0).pending; cut = (a.cores j.0 l.0).cut })))
  where
    more : FollowsOrStops d n (tree_choice d U (Drain j)) (tree_choice d S (Drain j)) cs → FollowsOrStops d n U S (Drain j ∷ cs)
    more (follows q b) =
        follows (ap (λ z. take 1 z ++ tree_commits d (tree_choice d U (Drain j)) cs) (a.cores j.0 l.0).pending
        ∙ ap (λ z. take 1 (tree_core S j.0).pending ++ z) q)
        b
    more (stops some k x m q) = stops (Drain j ∷ some) k (l.0, x) m q
