-- A locked change written out makes the same entries, reads the same values and has the same outputs.
use Rattle.std.proofs.Common.{◌≡◌, ℕ, ◌+◌, List, [], ◌∷◌, ◌++◌, Some, length, slice_index, slice_get, drop, ◌↔◌, ap, sym, ◌∙◌, refl, subst}
use Rattle.tso_terms.specs.Thread.{entry, fence}
use Rattle.tso_terms.specs.ProgramEntries.{read_value}
use Rattle.basic_laws.specs.Types.{Entry, Loc, R, W, LR, LW, Ebx, SetImm, Xadd}
use Rattle.branch_laws.specs.Trees.{Tree, Done, Cut, Reads, Stores, Fences, Locks, Adds, written, entries_along, values_along, outputs_along, path}
use Rattle.branch_laws.specs.Branching.{Branching, Give, values_from, made_along, IsBranchExecution}
use Rattle.branch_laws.specs.Additions.{written_out, all_written_out, with_updates}

out-entries : (c p : ℕ) (tree : Tree) (values : List ℕ) → entries_along c p (written_out tree) values ≡ entries_along c p tree values
out-entries c p (Done outputs) values = refl
out-entries c p Cut values = refl
out-entries c p (Reads loc next) values =
    ap (λ z. entry c p R loc (slice_index values 0) ∷ z) (out-entries c (p + 1) (next (slice_index values 0)) (drop 1 values))
out-entries c p (Stores loc value next) values = ap (λ z. entry c p W loc value ∷ z) (out-entries c (p + 1) next values)
out-entries c p (Fences next) values = ap (λ z. fence c p ∷ z) (out-entries c (p + 1) next values)
out-entries c p (Locks loc change next) values =
    ap (λ z. entry c (p + 1) LR loc (slice_index values 0) ∷ (entry c (p + 1) LW loc (written change (slice_index values 0)) ∷ z))
    (out-entries c ((p + 1) + 1) (next (slice_index values 0)) (drop 1 values))

out-values : (c p : ℕ) (tree : Tree) (order : List Entry) → values_along c p (written_out tree) order ≡ values_along c p tree order
out-values c p (Done outputs) order = refl
out-values c p Cut order = refl
out-values c p (Reads loc next) order =
    let v : ℕ = read_value c p R order in ap (λ z. v ∷ z) (out-values c (p + 1) (next v) order)
out-values c p (Stores loc value next) order = out-values c (p + 1) next order
out-values c p (Fences next) order = out-values c (p + 1) next order
out-values c p (Locks loc change next) order =
    let v : ℕ = read_value c (p + 1) LR order in ap (λ z. v ∷ z) (out-values c ((p + 1) + 1) (next v) order)

out-outputs : (tree : Tree) (values : List ℕ) → outputs_along (written_out tree) values ≡ outputs_along tree values
out-outputs (Done outputs) [] = refl
out-outputs (Done outputs) (v ∷ values) = refl
out-outputs Cut values = refl
out-outputs (Reads loc next) [] = refl
out-outputs (Reads loc next) (v ∷ values) = out-outputs (next v) values
out-outputs (Stores loc value next) values = out-outputs next values
out-outputs (Fences next) values = out-outputs next values
out-outputs (Locks loc change next) [] = refl
out-outputs (Locks loc change next) (v ∷ values) = out-outputs (next v) values

all-values : (c : ℕ) (trees : List Tree) (order : List Entry) → values_from c (all_written_out trees) order ≡ values_from c trees order
all-values c [] order = refl
all-values c (tree ∷ trees) order =
    ap (λ z. z ∷ values_from (c + 1) (all_written_out trees) order) (out-values c 0 tree order)
    ∙ ap (λ z. values_along c 0 tree order ∷ z) (all-values (c + 1) trees order)

all-made : (c : ℕ) (trees : List Tree) (order : List Entry) → made_along c (all_written_out trees) order ≡ made_along c trees order
all-made c [] order = refl
all-made c (tree ∷ trees) order =
    ap (λ z. entries_along c 0 (written_out tree) z ++ made_along (c + 1) (all_written_out trees) order) (out-values c 0 tree order)
    ∙ ap (λ z. z ++ made_along (c + 1) (all_written_out trees) order) (out-entries c 0 tree (values_along c 0 tree order))
    ∙ ap (λ z. entries_along c 0 tree (values_along c 0 tree order) ++ z) (all-made (c + 1) trees order)

give-out : (trees : List Tree) (values outputs : List (List ℕ)) → Give trees values outputs → Give (all_written_out trees) values outputs
give-out [] [] [] g = tt
give-out [] [] (o ∷ outputs) g = absurd g
give-out [] (v ∷ values) outputs g = absurd g
give-out (tree ∷ trees) [] outputs g = absurd g
give-out (tree ∷ trees) (v ∷ values) [] g = absurd g
give-out (tree ∷ trees) (v ∷ values) (o ∷ outputs) g = (out-outputs tree v ∙ g.0, give-out trees values outputs g.1)

give-in : (trees : List Tree) (values outputs : List (List ℕ)) → Give (all_written_out trees) values outputs → Give trees values outputs
give-in [] [] [] g = tt
give-in [] [] (o ∷ outputs) g = absurd g
give-in [] (v ∷ values) outputs g = absurd g
give-in (tree ∷ trees) [] outputs g = absurd g
give-in (tree ∷ trees) (v ∷ values) [] g = absurd g
give-in (tree ∷ trees) (v ∷ values) (o ∷ outputs) g = (sym (out-outputs tree v) ∙ g.0, give-in trees values outputs g.1)

pub same-executions : (b : Branching) (order : List Entry) (outputs : List (List ℕ))
    → IsBranchExecution b order outputs ↔ IsBranchExecution (with_updates b) order outputs
same-executions b order outputs = (
  λ h. record {
    done =
        subst (λ z. Give (all_written_out b.trees) z outputs) (sym (all-values 0 b.trees order))
        (give-out b.trees (values_from 0 b.trees order) outputs h.done);
    count = subst (λ z. length order ≡ length z) (sym (all-made 0 b.trees order)) h.count;
    each = subst (λ z. (k : ℕ) (e : Entry) → slice_get z k ≡ Some e → (i : ℕ) × (slice_get order i ≡ Some e)) (sym (all-made 0 b.trees order)) h.each;
    program_order = h.program_order;
    adjacent = h.adjacent;
    read_values = h.read_values;
  },
  λ h. record {
    done = give-in b.trees (values_from 0 b.trees order) outputs (subst (λ z. Give (all_written_out b.trees) z outputs) (all-values 0 b.trees order) h.done);
    count = subst (λ z. length order ≡ length z) (all-made 0 b.trees order) h.count;
    each = subst (λ z. (k : ℕ) (e : Entry) → slice_get z k ≡ Some e → (i : ℕ) × (slice_get order i ≡ Some e)) (all-made 0 b.trees order) h.each;
    program_order = h.program_order;
    adjacent = h.adjacent;
    read_values = h.read_values;
  },
)

pub same-program : (loc : Loc) (number v w : ℕ) (next : ℕ → Tree) (values others : List ℕ) → path (next v) values ≡ path (next w) others
    → path (Locks loc (Adds number) next) (v ∷ values) ≡ path (Locks loc (Adds number) next) (w ∷ others)
same-program loc number v w next values others q = ap (λ z. SetImm Ebx number ∷ (Xadd loc Ebx ∷ z)) q
