-- Where a path isn't cut off, the bounded tree and the whole one make the same entries of it.
use Rattle.std.proofs.Common.{◌≡◌, ℕ, ◌+◌, List, [], ◌∷◌, ◌++◌, Some, true, length, slice_index, slice_get, ◌↔◌, ap, sym, ◌∙◌, refl, subst}
use Rattle.tso_terms.specs.Thread.{entry, fence}
use Rattle.tso_terms.specs.ProgramEntries.{read_value}
use Rattle.tso_terms.specs.FinalState.{words_from}
use Rattle.tso_terms.specs.ProgramOrder.{is_read}
use Rattle.tso_terms.specs.Axioms.{last_value, counting}
use Rattle.basic_laws.specs.Types.{Entry, R, W, LR, LW}
use Rattle.branch_laws.specs.Trees.{Tree, Done, Cut, Reads, Stores, Fences, Locks, written, entries_along, values_along, outputs_along}
use Rattle.branch_laws.specs.Branching.{Branching, Give, values_from, made_along, IsBranchExecution, IsBranchOutcome}
use Rattle.branch_laws.specs.Bounds.{IsCutFrom, AreCutFrom, IsBounded, NoneIsCutOff}

-- of one core: the whole tree reads the same values, makes the same entries and has the same outputs
record Agrees (c p : ℕ) (tree whole : Tree) (order : List Entry) (outputs : List ℕ) : Type 0 where
  pub values : values_along c p whole order ≡ values_along c p tree order
  pub entries : entries_along c p whole (values_along c p tree order) ≡ entries_along c p tree (values_along c p tree order)
  pub gives : outputs_along whole (values_along c p tree order) ≡ Some outputs

agrees : (c p : ℕ) (tree whole : Tree) (order : List Entry) (outputs : List ℕ) → IsCutFrom tree whole
    → outputs_along tree (values_along c p tree order) ≡ Some outputs → Agrees c p tree whole order outputs
agrees c p Cut whole order outputs h e = absurd (let z : ⊥ = cc in z)
agrees c p (Done o) (Done others) order outputs h e = record { values = refl; entries = refl; gives = ap (λ z. Some z) (sym h) ∙ e }
agrees c p (Done o) Cut order outputs h e = absurd h
agrees c p (Done o) (Reads at more) order outputs h e = absurd h
agrees c p (Done o) (Stores at other more) order outputs h e = absurd h
agrees c p (Done o) (Fences more) order outputs h e = absurd h
agrees c p (Done o) (Locks at other more) order outputs h e = absurd h
agrees c p (Reads loc next) (Reads at more) order outputs h e =
    let v : ℕ = read_value c p R order in
    let r = agrees c (p + 1) (next v) (more v) order outputs (h.1 v) e in
    record {
      values = ap (λ z. v ∷ z) r.values;
      entries = subst (λ z. entry c p R z v ∷ entries_along c (p + 1) (more v) (values_along c (p + 1) (next v) order)
          ≡ entry c p R loc v ∷ entries_along c (p + 1) (next v) (values_along c (p + 1) (next v) order)) h.0 (ap (λ z. entry c p R loc v ∷ z) r.entries);
      gives = r.gives;
    }
agrees c p (Reads loc next) Cut order outputs h e = absurd h
agrees c p (Reads loc next) (Done others) order outputs h e = absurd h
agrees c p (Reads loc next) (Stores at other more) order outputs h e = absurd h
agrees c p (Reads loc next) (Fences more) order outputs h e = absurd h
agrees c p (Reads loc next) (Locks at other more) order outputs h e = absurd h
agrees c p (Stores loc value next) (Stores at other more) order outputs h e =
    let r = agrees c (p + 1) next more order outputs h.2 e in
    record {
      values = r.values;
      entries =
          ap (λ z. z ∷ entries_along c (p + 1) more (values_along c (p + 1) next order))
          (ap (λ z. entry c p W z other) (sym h.0) ∙ ap (λ z. entry c p W loc z) (sym h.1))
          ∙ ap (λ z. entry c p W loc value ∷ z) r.entries;
      gives = r.gives;
    }
agrees c p (Stores loc value next) Cut order outputs h e = absurd h
agrees c p (Stores loc value next) (Done others) order outputs h e = absurd h
agrees c p (Stores loc value next) (Reads at more) order outputs h e = absurd h
agrees c p (Stores loc value next) (Fences more) order outputs h e = absurd h
agrees c p (Stores loc value next) (Locks at other more) order outputs h e = absurd h
agrees c p (Fences next) (Fences more) order outputs h e =
    let r = agrees c (p + 1) next more order outputs h e in
    record { values = r.values; entries = ap (λ z. fence c p ∷ z) r.entries; gives = r.gives }
agrees c p (Fences next) Cut order outputs h e = absurd h
agrees c p (Fences next) (Done others) order outputs h e = absurd h
agrees c p (Fences next) (Reads at more) order outputs h e = absurd h
agrees c p (Fences next) (Stores at other more) order outputs h e = absurd h
agrees c p (Fences next) (Locks at other more) order outputs h e = absurd h
agrees c p (Locks loc change next) (Locks at other more) order outputs h e =
    let v : ℕ = read_value c (p + 1) LR order in
    let rest : List ℕ = values_along c ((p + 1) + 1) (next v) order in
    let r = agrees c ((p + 1) + 1) (next v) (more v) order outputs (h.2 v) e in
    record {
      values = ap (λ z. v ∷ z) r.values;
      entries =
          ap (λ z. entry c (p + 1) LR z v ∷ (entry c (p + 1) LW z (written other v) ∷ entries_along c ((p + 1) + 1) (more v) rest)) (sym h.0)
          ∙ ap (λ z. entry c (p + 1) LR loc v ∷ (entry c (p + 1) LW loc (written z v) ∷ entries_along c ((p + 1) + 1) (more v) rest)) (sym h.1)
          ∙ ap (λ z. entry c (p + 1) LR loc v ∷ (entry c (p + 1) LW loc (written change v) ∷ z)) r.entries;
      gives = r.gives;
    }
agrees c p (Locks loc change next) Cut order outputs h e = absurd h
agrees c p (Locks loc change next) (Done others) order outputs h e = absurd h
agrees c p (Locks loc change next) (Reads at more) order outputs h e = absurd h
agrees c p (Locks loc change next) (Stores at other more) order outputs h e = absurd h
agrees c p (Locks loc change next) (Fences more) order outputs h e = absurd h

-- all cores
record AllAgree (c : ℕ) (trees wholes : List Tree) (order : List Entry) (outputs : List (List ℕ)) : Type 0 where
  pub values : values_from c wholes order ≡ values_from c trees order
  pub made : made_along c wholes order ≡ made_along c trees order
  pub gives : Give wholes (values_from c trees order) outputs

all-agree : (c : ℕ) (trees wholes : List Tree) (order : List Entry) (outputs : List (List ℕ)) → AreCutFrom trees wholes
    → Give trees (values_from c trees order) outputs → AllAgree c trees wholes order outputs
all-agree c [] [] order outputs h g = record { values = refl; made = refl; gives = g }
all-agree c [] (w ∷ wholes) order outputs h g = absurd h
all-agree c (tree ∷ trees) [] order outputs h g = absurd h
all-agree c (tree ∷ trees) (w ∷ wholes) order [] h g = absurd g
all-agree c (tree ∷ trees) (w ∷ wholes) order (o ∷ outputs) h g =
    let a = agrees c 0 tree w order o h.0 g.0 in
    let r = all-agree (c + 1) trees wholes order outputs h.1 g.1 in
    record {
      values = ap (λ z. z ∷ values_from (c + 1) wholes order) a.values ∙ ap (λ z. values_along c 0 tree order ∷ z) r.values;
      made = ap (λ z. entries_along c 0 w z ++ made_along (c + 1) wholes order) a.values
          ∙ ap (λ z. z ++ made_along (c + 1) wholes order) a.entries
          ∙ ap (λ z. entries_along c 0 tree (values_along c 0 tree order) ++ z) r.made;
      gives = (a.gives, r.gives);
    }

-- where the bounded trees have outputs, the two tests have the same executions
to-whole : (b whole : Branching) (order : List Entry) (outputs : List (List ℕ))
    → IsBounded b whole
    → IsBranchExecution b order outputs
    → IsBranchExecution whole order outputs
to-whole b whole order outputs w h =
    let a = all-agree 0 b.trees whole.trees order outputs w.trees h.done in
    record {
      done = subst (λ z. Give whole.trees z outputs) (sym a.values) a.gives;
      count = subst (λ z. length order ≡ length z) (sym a.made) h.count;
      each = subst (λ z. (k : ℕ) (e : Entry) → slice_get z k ≡ Some e → (i : ℕ) × (slice_get order i ≡ Some e)) (sym a.made) h.each;
      program_order = h.program_order;
      adjacent = h.adjacent;
      read_values = subst (λ z. (front : List Entry) (x : Entry) (back : List Entry) → order ≡ front ++ (x ∷ back) → is_read x ≡ true
          → x.value ≡ last_value (counting x front back) (slice_index z x.loc.0)) w.words h.read_values;
    }

same-outputs : (trees : List Tree) (values outputs others : List (List ℕ)) → Give trees values outputs → Give trees values others → outputs ≡ others
same-outputs [] [] [] [] g h = refl
same-outputs [] [] [] (o ∷ others) g h = absurd h
same-outputs [] [] (o ∷ outputs) others g h = absurd g
same-outputs [] (v ∷ values) outputs others g h = absurd g
same-outputs (tree ∷ trees) [] outputs others g h = absurd g
same-outputs (tree ∷ trees) (v ∷ values) [] others g h = absurd g
same-outputs (tree ∷ trees) (v ∷ values) (o ∷ outputs) [] g h = absurd h
same-outputs (tree ∷ trees) (v ∷ values) (o ∷ outputs) (u ∷ others) g h =
    ap (λ z. z ∷ outputs) (let a = g.0 in let b = h.0 in let z : o ≡ u = cc in z) ∙ ap (λ z. u ∷ z) (same-outputs trees values outputs others g.1 h.1)

from-whole : (b whole : Branching) (order : List Entry) (outputs : List (List ℕ)) → IsBounded b whole → NoneIsCutOff b whole
    → IsBranchExecution whole order outputs → IsBranchExecution b order outputs
from-whole b whole order outputs w none h =
    let some = none order outputs h in
    let a = all-agree 0 b.trees whole.trees order some.0 w.trees some.1 in
    let same : some.0 ≡ outputs = same-outputs whole.trees (values_from 0 b.trees order) some.0 outputs a.gives
    (subst (λ z. Give whole.trees z outputs) a.values h.done) in
    record {
      done = subst (λ z. Give b.trees (values_from 0 b.trees order) z) same some.1;
      count = subst (λ z. length order ≡ length z) a.made h.count;
      each = subst (λ z. (k : ℕ) (e : Entry) → slice_get z k ≡ Some e → (i : ℕ) × (slice_get order i ≡ Some e)) a.made h.each;
      program_order = h.program_order;
      adjacent = h.adjacent;
      read_values = subst (λ z. (front : List Entry) (x : Entry) (back : List Entry) → order ≡ front ++ (x ∷ back) → is_read x ≡ true
          → x.value ≡ last_value (counting x front back) (slice_index z x.loc.0)) (sym w.words) h.read_values;
    }

pub each-outcome : (b whole : Branching) (outputs : List (List ℕ)) (memory : List ℕ)
    → IsBounded b whole
    → IsBranchOutcome b outputs memory
    → IsBranchOutcome whole outputs memory
each-outcome b whole outputs memory w h = record {
  order = h.order;
  execution = to-whole b whole h.order outputs w h.execution;
  memory_is = ap (λ z. words_from 0 z h.order) (sym w.words) ∙ h.memory_is;
}

pub all-outcomes : (b whole : Branching) (outputs : List (List ℕ)) (memory : List ℕ) → IsBounded b whole → NoneIsCutOff b whole
    → IsBranchOutcome whole outputs memory ↔ IsBranchOutcome b outputs memory
all-outcomes b whole outputs memory w none = (
  λ h. record {
    order = h.order;
    execution = from-whole b whole h.order outputs w none h.execution;
    memory_is = ap (λ z. words_from 0 z h.order) w.words ∙ h.memory_is;
  },
  λ h. each-outcome b whole outputs memory w h,
)
