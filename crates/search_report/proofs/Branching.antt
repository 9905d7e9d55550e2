-- The nodes of a tree, each in its branch: one after the other, as the loop goes over them.
use Rattle.search_report.proofs.Vocabulary.{◌≡◌, ◌∙◌, ◌<◌, ◌+◌, ◌-◌, ℕ, suc, List, [], ◌∷◌, ◌++◌, map, length, take, drop, get_or, refl}
use Rattle.search_report.proofs.Vocabulary.{sym, ap, append_assoc, append-nil, drop_more, length-map, Litmus, Model}
use Rattle.std.proofs.lemmas.List.{take-map}
use Rattle.std.specs.Prelude.{Vec}
use Rattle.std.specs.Global.{Global}
use Rattle.possible_reads.specs.Facts as possible
use Rattle.reading_tables.specs.Told.{fact_of, facts_of}
use Rattle.reading_tables.specs.declared.facts.Fact.{Fact}
use Rattle.refutation_checker.specs.Trees.{node_of}
use Rattle.refutation_checker.specs.declared.tree.Node.{Node}
use Rattle.refutation_checker.specs.inner.Stack.{branches_of}
use Rattle.lemma_refutations.specs.Refutations.{answers, known_from}
use Rattle.lemma_refutations.specs.Refutations as refutations
use Rattle.search_report.specs.Lines as spec
use Rattle.search_report.specs.inner.Standing.{branch_in, branch_of, stack_of}
use Rattle.search_report.specs.declared.standing.Branch.{Branch}
use Rattle.search_report.proofs.Lining.{branch_pushed}

-- ---- one node

-- the facts of the last answer stand first
pub answer-first : (before n : ℕ) (facts : List Fact)
    → n ≡ length facts - before
    → facts_of (take n facts) ≡ spec.last_answer (branch_of before (facts_of facts))
answer-first before n facts is =
    sym (take-map fact_of n facts) ∙ ap (λ m. take m (facts_of facts)) (is ∙ ap (λ m. m - before) (sym (length-map facts fact_of)))

-- as many branches as answers
pub as-many : (below : List (Vec Fact Global)) (facts : List possible.Fact) (all : List (List possible.Fact))
    → branches_of below ≡ map (λ answer. answer ++ facts) all ++ [] → length below ≡ length all
as-many below facts all are = sym (same below) ∙ (ap length (are ∙ append-nil _) ∙ length-map all (λ answer. answer ++ facts))
  where
    more : (xs : List (List possible.Fact)) (x : List possible.Fact) → length (xs ++ (x ∷ [])) ≡ suc (length xs)
    more [] x = refl
    more (y ∷ xs) x = ap suc (more xs x)

    same : (bs : List (Vec Fact Global)) → length (branches_of bs) ≡ length bs
    same [] = refl
    same (b ∷ bs) = more (branches_of bs) (facts_of b.items) ∙ ap suc (same bs)

-- the branches of a node, before others
pub below-added : (t : Litmus) (b : spec.Branch) (n : refutations.Node) (below : List (List possible.Fact)) (before : ℕ) (old new : List spec.Branch)
    → below ≡ map (λ answer. answer ++ b.facts) (answers t (known_from t b.facts) n) ++ [] → before ≡ length b.facts
    → new ≡ map (branch_of before) below ++ old → new ≡ spec.branches_below t b n ++ old
below-added t b n below before old new are is e =
    e ∙ ap (λ bs. bs ++ old) ((λ i. map (branch_of (is i)) ((are ∙ append-nil _) i)) ∙ each (answers t (known_from t b.facts) n))
  where
    each : (all : List (List possible.Fact))
        → map (branch_of (length b.facts)) (map (λ answer. answer ++ b.facts) all)
        ≡ map (λ answer. record { facts = answer ++ b.facts; before = length b.facts }) all
    each [] = refl
    each (a ∷ all) = ap (λ bs. branch_of (length b.facts) (a ++ b.facts) ∷ bs) (each all)

-- ---- all nodes

-- one more node stands in the branch that is taken
pub one-more-stands : (model : Model) (t : Litmus) (nodes : List Node) (i : ℕ) (n : Node) → i < length nodes → n ≡ get_or nodes i n
    → (old rest new : List Branch) (b : Branch) → old ≡ rest ++ (b ∷ [])
    → (done more whole : List spec.Standing) → more ≡ done ++ (spec.standing_at model t (branch_in b) (node_of n) ∷ [])
    → stack_of new ≡ spec.branches_below t (branch_in b) (node_of n) ++ stack_of rest
    → done ++ spec.standing model t (stack_of old) (map node_of (drop i nodes)) ≡ whole
    → more ++ spec.standing model t (stack_of new) (map node_of (drop (i + 1) nodes)) ≡ whole
one-more-stands model t nodes i n within is old rest new b taken done more whole e f so =
    let left = map node_of (drop (i + 1) nodes) in
    let s = spec.standing_at model t (branch_in b) (node_of n) in
    (λ j. e j ++ spec.standing model t (f j) left)
    ∙ (append_assoc done (s ∷ []) (spec.standing model t (spec.branches_below t (branch_in b) (node_of n) ++ stack_of rest) left)
    ∙ (sym (λ j. done ++ spec.standing model t (branch_pushed rest old b taken j)
    ((ap (map node_of) (drop_more nodes i n within) ∙ ap (λ m. node_of m ∷ left) (sym is)) j))
    ∙ so))
