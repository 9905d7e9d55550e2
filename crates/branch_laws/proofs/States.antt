-- States of the flat machine and of the machine over trees, core by core.
use Rattle.std.proofs.Common.{◌≡◌, ◌≢◌, ℕ, suc, List, [], ◌∷◌, ◌++◌, Some, ◌<◌, length, slice_get, take, arith, ap, sym, ◌∙◌, refl, subst}
use Rattle.std.proofs.Common.{inl, inr, get_or-set_same, get_or-set_other, length-set, append_assoc}
use Rattle.std.proofs.lemmas.List.{set-get_or}
use Rattle.basic_laws.proofs.Basics.{decide}
use Rattle.basic_laws.proofs.Lists.{Each, append-nil}
use Rattle.tso_terms.specs.Litmus.{Litmus}
use Rattle.tso_terms.specs.Actions.{action_of}
use Rattle.tso_terms.specs.FlatMachine.{CoreState, State, Effect, idle, program_of, core_of, effect_by, effect_of, after_choice, step_of}
use Rattle.tso_terms.specs.FlatMachine.{drain_of, applied, memory_after, step, drain}
use Rattle.tso_terms.specs.Runs.{CoresExist}
use Rattle.tso_laws.specs.Choices.{state_after, commits_of}
use Rattle.basic_laws.specs.Types.{Entry, Instr, Choice, Step, Drain}
use Rattle.branch_laws.specs.TreeMachine.{TreeCore, TreeState, TreeEffect, stays, act, drain_tree, no_core, tree_core, tree_effect}
use Rattle.branch_laws.specs.TreeMachine.{tree_applied, tree_choice, tree_after, tree_commits}
use Rattle.branch_laws.proofs.Core.{flat, Even, even-other, OneCore, none, one, two, one-core, act-core, take-core, even-drain, drains}

-- a flat state after one core has changed
pub record Changed (F : State) (c : ℕ) (es : List Entry) (f : CoreState) (G : State) : Type 0 where
  pub memory : G.memory ≡ memory_after es F.memory
  pub size : length G.cores ≡ length F.cores
  pub own : core_of G c ≡ f
  pub others : (k : ℕ) → k ≢ c → core_of G k ≡ core_of F k

pub changed : (F : State) (c : ℕ) (φ : Effect) (es : List Entry) → c < length F.cores → φ.commits ≡ es → Changed F c es φ.after (applied F c φ)
changed F c φ es l q = record {
  memory = ap (λ z. memory_after z F.memory) q;
  size = length-set F.cores c φ.after;
  own = get_or-set_same F.cores c φ.after idle l;
  others = λ k n. get_or-set_other F.cores c k φ.after idle n;
}

pub changed-twice : (F G H : State) (c : ℕ) (es : List Entry) (f g : CoreState) → Changed F c [] f G → Changed G c es g H → Changed F c es g H
changed-twice F G H c es f g a b = record {
  memory = b.memory ∙ ap (λ z. memory_after es z) a.memory;
  size = b.size ∙ a.size;
  own = b.own;
  others = λ k n. b.others k n ∙ a.others k n;
}

-- a tree state after one core has changed
pub record TreeChanged (S : TreeState) (c : ℕ) (g : TreeEffect) : Type 0 where
  pub size : length (tree_applied S c g).cores ≡ length S.cores
  pub own : tree_core (tree_applied S c g) c ≡ g.after
  pub others : (k : ℕ) → k ≢ c → tree_core (tree_applied S c g) k ≡ tree_core S k

pub tree-changed : (S : TreeState) (c : ℕ) (g : TreeEffect) → c < length S.cores → TreeChanged S c g
tree-changed S c g l = record {
  size = length-set S.cores c g.after;
  own = get_or-set_same S.cores c g.after no_core l;
  others = λ k n. get_or-set_other S.cores c k g.after no_core n;
}

pub tree-same : (S : TreeState) (c : ℕ) → tree_applied S c (stays (tree_core S c)) ≡ S
tree-same S c = ap (λ z. let r : TreeState = record { memory = S.memory; cores = z } in r) (set-get_or S.cores c no_core)

-- two states whose cores are related one by one
pub record Rel (P : ℕ → List Entry → CoreState → TreeCore → Type 0) (n : ℕ) (xs : List Entry) (F : State) (S : TreeState) : Type 0 where
  pub memory : F.memory ≡ S.memory
  pub flat_size : length F.cores ≡ n
  pub tree_size : length S.cores ≡ n
  pub cores : (k : ℕ) → k < n → P k xs (core_of F k) (tree_core S k)

-- entries of one core change nothing for the others
abbrev pub Keeps : (ℕ → List Entry → CoreState → TreeCore → Type 0) → Type 0
Keeps P = (c k : ℕ) (es xs : List Entry) (f : CoreState) (s : TreeCore) → k ≢ c → Each (λ e. e.core.0 ≡ c) es → P k (es ++ xs) f s → P k xs f s

pub rel-next : (P : ℕ → List Entry → CoreState → TreeCore → Type 0) (n : ℕ) (xs : List Entry) (F : State) (S : TreeState) (c : ℕ) (g : TreeEffect)
    (f : CoreState) (G : State) → Keeps P → c < n → Each (λ e. e.core.0 ≡ c) g.commits → Rel P n (g.commits ++ xs) F S → Changed F c g.commits f G
    → P c xs f g.after → Rel P n xs G (tree_applied S c g)
rel-next P n xs F S c g f G keeps l of_core r h p =
    let w = tree-changed S c g (let z = r.tree_size in omega arith) in
    record {
      memory = h.memory ∙ ap (λ z. memory_after g.commits z) r.memory;
      flat_size = h.size ∙ r.flat_size;
      tree_size = w.size ∙ r.tree_size;
      cores = λ k m. elim (decide k c) [
        | inl q ↦ subst (λ z. P z xs (core_of G z) (tree_core (tree_applied S c g) z)) (sym q)
            (subst (λ z. P c xs z (tree_core (tree_applied S c g) c)) (sym h.own) (subst (λ z. P c xs f z) (sym w.own) p))
        | inr q ↦ subst (λ z. P k xs z (tree_core (tree_applied S c g) k)) (sym (h.others k q))
            (subst (λ z. P k xs (core_of F k) z) (sym (w.others k q)) (keeps c k g.commits xs (core_of F k) (tree_core S k) q of_core (r.cores k m)))
      ];
    }

pub flat-step : (t : Litmus) (d : ℕ) (F : State) (c : ℕ) (memory : List ℕ) (f : CoreState) (i : Instr) → F.memory ≡ memory → core_of F c ≡ f
    → slice_get (program_of t c) f.place ≡ Some i → effect_of t d F (step c) ≡ effect_by d memory c (action_of i) f
flat-step t d F c memory f i m e q =
    ap (λ z. step_of d z c (slice_get (program_of t c) (core_of F c).place) (core_of F c)) m
    ∙ ap (λ z. step_of d memory c (slice_get (program_of t c) z.place) z) e
    ∙ ap (λ z. step_of d memory c z f) q

-- choices of the flat machine that follow what the tree does
pub record Follows (P : ℕ → List Entry → CoreState → TreeCore → Type 0) (t : Litmus) (d n : ℕ) (F : State) (S : TreeState) (es xs : List Entry) : Type 0 where
  pub choices : List Choice
  pub exist : CoresExist n choices
  pub commits : commits_of t d F choices ≡ es
  pub rel : Rel P n xs (state_after t d F choices) S

exist-append : (n : ℕ) (xs ys : List Choice) → CoresExist n xs → CoresExist n ys → CoresExist n (xs ++ ys)
exist-append n [] ys a b = b
exist-append n (x ∷ xs) ys a b = (a.0, exist-append n xs ys a.1 b)

commits-append : (t : Litmus) (d : ℕ) (F : State) (xs ys : List Choice)
    → commits_of t d F (xs ++ ys) ≡ commits_of t d F xs ++ commits_of t d (state_after t d F xs) ys
commits-append t d F [] ys = refl
commits-append t d F (x ∷ xs) ys =
    ap (λ z. (effect_of t d F x).commits ++ z) (commits-append t d (after_choice t d F x) xs ys)
    ∙ sym (append_assoc (effect_of t d F x).commits _ _)

after-append : (t : Litmus) (d : ℕ) (F : State) (xs ys : List Choice) → state_after t d F (xs ++ ys) ≡ state_after t d (state_after t d F xs) ys
after-append t d F [] ys = refl
after-append t d F (x ∷ xs) ys = after-append t d (after_choice t d F x) xs ys

pub follows-more : (P : ℕ → List Entry → CoreState → TreeCore → Type 0) (t : Litmus) (d n : ℕ) (F : State) (S1 S2 : TreeState) (es fs xs ys : List Entry)
    → (a : Follows P t d n F S1 es ys) → Follows P t d n (state_after t d F a.choices) S2 fs xs → Follows P t d n F S2 (es ++ fs) xs
follows-more P t d n F S1 S2 es fs xs ys a b = record {
  choices = a.choices ++ b.choices;
  exist = exist-append n a.choices b.choices a.exist b.exist;
  commits =
      commits-append t d F a.choices b.choices
      ∙ ap (λ z. z ++ commits_of t d (state_after t d F a.choices) b.choices) a.commits
      ∙ ap (λ z. es ++ z) b.commits;
  rel = subst (λ z. Rel P n xs z S2) (sym (after-append t d F a.choices b.choices)) b.rel;
}

-- the relation in which each core is where its tree does
abbrev pub Level : Litmus → ℕ → List Entry → CoreState → TreeCore → Type 0
Level t k xs f s = Even k (program_of t k) xs f s

pub level-keeps : (t : Litmus) → Keeps (Level t)
level-keeps t c k es xs f s n h e = even-other c k (program_of t k) es xs f s n h e

step-follows : (t : Litmus) (m n : ℕ) (xs : List Entry) (F : State) (S : TreeState) (c : ℕ) → c < n
    → Rel (Level t) n ((act (suc m) S.memory c (tree_core S c).rest (tree_core S c)).commits ++ xs) F S
    → Follows (Level t) t (suc m) n F
    (tree_applied S c (act (suc m) S.memory c (tree_core S c).rest (tree_core S c)))
    (act (suc m) S.memory c (tree_core S c).rest (tree_core S c)).commits xs
step-follows t m n xs F S c l r =
    let h = r.cores c l in
    go h (one-core m S.memory c (program_of t c) xs h.registers s.place s.rest s.pending h.long h.within h.own h.left_over)
  where
    s : TreeCore
    s = tree_core S c

    g : TreeEffect
    g = act (suc m) S.memory c s.rest s

    in_flat : c < length F.cores
    in_flat = let z = r.flat_size in omega arith

    go : (h : Even c (program_of t c) (g.commits ++ xs) (core_of F c) s) → OneCore (suc m) S.memory c (program_of t c) xs s h.registers g
        → Follows (Level t) t (suc m) n F (tree_applied S c g) g.commits xs
    go h (none q) = record {
      choices = [];
      exist = tt;
      commits = sym (ap (λ z. z.commits) q);
      rel = subst (λ z. Rel (Level t) n xs F (tree_applied S c z)) (sym q)
          (subst (λ z. Rel (Level t) n xs F z) (sym (tree-same S c)) (subst (λ z. Rel (Level t) n (z.commits ++ xs) F S) q r));
    }
    go h (one i first at is commits even) =
        let e : effect_of t (suc m) F (step c) ≡ first = flat-step t (suc m) F c S.memory (flat s h.registers) i r.memory h.is at ∙ is in
        record {
          choices = step c ∷ [];
          exist = (l, tt);
          commits = append-nil (effect_of t (suc m) F (step c)).commits ∙ ap (λ z. z.commits) e ∙ commits;
          rel = subst (λ z. Rel (Level t) n xs (applied F c z) (tree_applied S c g)) (sym e)
              (rel-next (Level t) n xs F S c g first.after (applied F c first) (level-keeps t) l (act-core (suc m) S.memory c s.rest s) r
              (changed F c first g.commits in_flat commits) even);
        }
    go h (two i j first second at is none_yet at2 is2 commits even) =
        let e : effect_of t (suc m) F (step c) ≡ first = flat-step t (suc m) F c S.memory (flat s h.registers) i r.memory h.is at ∙ is in
        let G : State = applied F c first in
        let w : Changed F c [] first.after G = changed F c first [] in_flat none_yet in
        let e2 : effect_of t (suc m) G (step c) ≡ second = flat-step t (suc m) G c S.memory first.after j (w.memory ∙ r.memory) w.own at2 ∙ is2 in
        let x : Changed G c g.commits second.after (applied G c second) =
        changed G c second g.commits (let z = w.size in let y = in_flat in omega arith) commits in
        record {
          choices = step c ∷ (step c ∷ []);
          exist = (l, (l, tt));
          commits = ap (λ z. z.commits ++ ((effect_of t (suc m) (applied F c z) (step c)).commits ++ [])) e
              ∙ ap (λ z. z ++ ((effect_of t (suc m) G (step c)).commits ++ [])) none_yet
              ∙ append-nil (effect_of t (suc m) G (step c)).commits ∙ ap (λ z. z.commits) e2 ∙ commits;
          rel = subst (λ z. Rel (Level t) n xs (applied (applied F c z) c (effect_of t (suc m) (applied F c z) (step c))) (tree_applied S c g)) (sym e)
              (subst (λ z. Rel (Level t) n xs (applied G c z) (tree_applied S c g)) (sym e2)
              (rel-next (Level t) n xs F S c g second.after (applied G c second) (level-keeps t) l (act-core (suc m) S.memory c s.rest s) r
              (changed-twice F G (applied G c second) c g.commits first.after second.after w x) even));
        }

drain-follows : (t : Litmus) (d n : ℕ) (xs : List Entry) (F : State) (S : TreeState) (c : ℕ) → c < n
    → Rel (Level t) n (take 1 (tree_core S c).pending ++ xs) F S
    → Follows (Level t) t d n F (tree_applied S c (drain_tree (tree_core S c))) (take 1 (tree_core S c).pending) xs
drain-follows t d n xs F S c l r =
    let s : TreeCore = tree_core S c in
    let h = r.cores c l in
    let φ : Effect = drain_of (flat s h.registers) in
    let w = drains s.place s.rest s.pending h.registers in
    let e : effect_of t d F (drain c) ≡ φ = ap (λ z. drain_of z) h.is in
    record {
      choices = drain c ∷ [];
      exist = (l, tt);
      commits = append-nil (effect_of t d F (drain c)).commits ∙ ap (λ z. z.commits) e ∙ w.commits;
      rel = subst (λ z. Rel (Level t) n xs (applied F c z) (tree_applied S c (drain_tree s))) (sym e)
          (rel-next (Level t) n xs F S c (drain_tree s) φ.after (applied F c φ) (level-keeps t) l (take-core c s.pending h.own) r
          (changed F c φ (take 1 s.pending) (let z = r.flat_size in omega arith) w.commits)
          (even-drain c (program_of t c) xs (core_of F c) s h));
    }

-- all choices
pub tree-follows : (t : Litmus) (m n : ℕ) (F : State) (S : TreeState) (cs : List Choice) → CoresExist n cs
    → Rel (Level t) n (tree_commits (suc m) S cs) F S → Follows (Level t) t (suc m) n F (tree_after (suc m) S cs) (tree_commits (suc m) S cs) []
tree-follows t m n F S [] x r = record { choices = []; exist = tt; commits = refl; rel = r }
tree-follows t m n F S (Step k ∷ cs) x r =
    let S1 : TreeState = tree_choice (suc m) S (Step k) in
    let es : List Entry = (tree_effect (suc m) S (Step k)).commits in
    let fs : List Entry = tree_commits (suc m) S1 cs in
    let a = step-follows t m n fs F S k.0 x.0 r in
    let b = tree-follows t m n (state_after t (suc m) F a.choices) S1 cs x.1 a.rel in
    follows-more (Level t) t (suc m) n F S1 (tree_after (suc m) S1 cs) es fs [] fs a b
tree-follows t m n F S (Drain k ∷ cs) x r =
    let S1 : TreeState = tree_choice (suc m) S (Drain k) in
    let es : List Entry = (tree_effect (suc m) S (Drain k)).commits in
    let fs : List Entry = tree_commits (suc m) S1 cs in
    let a = drain-follows t (suc m) n fs F S k.0 x.0 r in
    let b = tree-follows t m n (state_after t (suc m) F a.choices) S1 cs x.1 a.rel in
    follows-more (Level t) t (suc m) n F S1 (tree_after (suc m) S1 cs) es fs [] fs a b
