-- The search's state: its nodes are part of a tree, whose open branches are these; they weigh, with the nodes, no more than all cases.
use Rattle.found_reasons.proofs.Vocabulary.{◌≡◌, ◌<◌, ◌≤◌, ◌+◌, ◌*◌, ◌/◌, ℕ, ◌&&◌, Bool, true, false, if◌then◌else◌, List, [], ◌∷◌, ◌++◌}
use Rattle.found_reasons.proofs.Vocabulary.{length, length_push, length-map, map, Some, None, arith, mul-le, div-lt_iff_lt-mul, refl, sym}
use Rattle.found_reasons.proofs.Vocabulary.{ap, ◌∙◌, subst, Litmus, Model, events_of, may_ask, is_answered, asked_claim, Fact, facts_of}
use Rattle.found_reasons.proofs.Vocabulary.{branches_of, Node, known_from, is_node, close, refutes, product, sources_in, all_orders, below}
use Rattle.found_reasons.proofs.Vocabulary.{Option, counted_as, given_at_first, most_cases, node_of, answers_told}
use Rattle.found_reasons.proofs.Vocabulary.{as_question, as_node, IsBranch, IsCaseStep, AreOpenAfter}
use Rattle.refutations.specs.inner.Trees as found
use Rattle.refutations.specs.declared.tree.Node as step
use Rattle.std.specs.Prelude.{Vec}
use Rattle.std.specs.Global.{Global}
use Rattle.reading_tables.specs.declared.facts.Fact as declared
use Rattle.refutation_checker.specs.declared.tree.Node as code
use Rattle.refutation_checker.proofs.Stack.{branches-push}
use Rattle.found_reasons.specs.declared.reason.Step.TheVariants.{Leaf, Question}
use Rattle.found_reasons.proofs.Weighing.{some-weight, weight, weight-at-first}
use Rattle.found_reasons.proofs.Answering.{first-branch, none-at-first}
use Rattle.found_reasons.proofs.Narrowing.{AreBranches, total_of, total-both, are-both, question-branches, question-lighter, question-stands}

-- the branches that are still open after these nodes; none where one of them may not stand
abbrev pub still_open_after : Model → Litmus → List (List Fact) → List Node → Option (List (List Fact))
still_open_after model t branches [] = Some branches
still_open_after model t [] (n ∷ ns) = None
still_open_after model t (facts ∷ rest) (n ∷ ns) =
    if is_node model t [] (known_from t facts) n then still_open_after model t (below t facts n ++ rest) ns else None

pub record IsSearch (model : Model) (t : Litmus) (branches : List (List Fact)) (nodes : List Node) : Type 0 where
  pub is_part : still_open_after model t (given_at_first t ∷ []) nodes ≡ Some branches
  pub fit : AreBranches t branches
  pub bound : length nodes + total_of 1 t branches ≤ product (sources_in t) (events_of t) * all_orders (events_of t)

-- each open branch weighs something
some-total : (t : Litmus) (branches : List (List Fact)) → length branches ≤ total_of 1 t branches
some-total t [] = omega arith
some-total t (facts ∷ rest) = let w = some-weight 1 t (answers_told facts) in let h = some-total t rest in omega (arith, w, h)

-- ---- one node more

module _ (model : Model) (t : Litmus) where
  one-more : (facts : List Fact) (rest : List (List Fact)) (n : Node) → is_node model t [] (known_from t facts) n ≡ true
      → still_open_after model t (facts ∷ rest) (n ∷ []) ≡ Some (below t facts n ++ rest)
  one-more facts rest n h = go (is_node model t [] (known_from t facts) n) h
    where
      go : (b : Bool) → b ≡ true → (if b then Some (below t facts n ++ rest) else None) ≡ Some (below t facts n ++ rest)
      go true e = refl
      go false e = let z : ⊥ = cc in absurd z

  onwards : (ks : List (List Fact)) (ns : List Node) (facts : List Fact) (rest : List (List Fact)) (n : Node)
      → still_open_after model t ks ns ≡ Some (facts ∷ rest) → is_node model t [] (known_from t facts) n ≡ true
      → still_open_after model t ks (ns ++ (n ∷ [])) ≡ Some (below t facts n ++ rest)
  onwards ks [] facts rest n e h =
      let same : ks ≡ facts ∷ rest = cc in ap (λ cs. still_open_after model t cs (n ∷ [])) same ∙ one-more facts rest n h
  onwards [] (m ∷ ns) facts rest n e h = let z : ⊥ = cc in absurd z
  onwards (j ∷ js) (m ∷ ns) facts rest n e h =
      go (is_node model t [] (known_from t j) m) e (λ f. onwards (below t j m ++ js) ns facts rest n f h)
    where
      go : (b : Bool) → (if b then still_open_after model t (below t j m ++ js) ns else None) ≡ Some (facts ∷ rest)
          → (still_open_after model t (below t j m ++ js) ns ≡ Some (facts ∷ rest)
          → still_open_after model t (below t j m ++ js) (ns ++ (n ∷ [])) ≡ Some (below t facts n ++ rest))
          → (if b then still_open_after model t (below t j m ++ js) (ns ++ (n ∷ [])) else None) ≡ Some (below t facts n ++ rest)
      go true f later = later f
      go false f later = let z : ⊥ = cc in absurd z

  all-closed : (ks : List (List Fact)) (ns : List Node) → still_open_after model t ks ns ≡ Some [] → close model t [] ks ns ≡ true
  all-closed [] [] e = refl
  all-closed (facts ∷ ks) [] e = let z : ⊥ = cc in absurd z
  all-closed [] (n ∷ ns) e = let z : ⊥ = cc in absurd z
  all-closed (facts ∷ ks) (n ∷ ns) e = go (is_node model t [] (known_from t facts) n) e (λ f. all-closed (below t facts n ++ ks) ns f)
    where
      go : (b : Bool) → (if b then still_open_after model t (below t facts n ++ ks) ns else None) ≡ Some []
          → (still_open_after model t (below t facts n ++ ks) ns ≡ Some [] → close model t [] (below t facts n ++ ks) ns ≡ true)
          → (b && close model t [] (below t facts n ++ ks) ns) ≡ true
      go true f later = later f
      go false f later = let z : ⊥ = cc in absurd z

-- ---- the search's steps

module _ (model : Model) (t : Litmus) where
  pub at-first : IsSearch model t (given_at_first t ∷ []) []
  at-first = record {
    is_part = refl;
    fit = (first-branch t, tt);
    bound = let d = ap (weight 1 t) (none-at-first t) in let e = weight-at-first t in omega (arith, d, e);
  }

  module _ (facts : List Fact) (rest : List (List Fact)) (nodes : List Node) (s : IsSearch model t (facts ∷ rest) nodes) where
    with-leaf : (n : Node) → is_node model t [] (known_from t facts) n ≡ true → below t facts n ≡ [] → IsSearch model t rest (nodes ++ (n ∷ []))
    with-leaf n stands none =
        let d = some-weight 1 t (answers_told facts) in
        let e = s.bound in
        let f = length_push nodes n in
        record {
          is_part = onwards model t (given_at_first t ∷ []) nodes facts rest n s.is_part stands ∙ ap (λ xs. Some (xs ++ rest)) none;
          fit = s.fit.1;
          bound = omega (arith, d, e, f);
        }

    with-question : (n : Node) → may_ask t (as_question n) ≡ true → is_answered (answers_told facts) (as_question n) ≡ false
        → IsSearch model t (below t facts n ++ rest) (nodes ++ (n ∷ []))
    with-question n ask fresh =
        let d = (question-lighter t facts n ask fresh).1 in
        let e = s.bound in
        let f = total-both 1 t (below t facts n) rest in
        let g = length_push nodes n in
        record {
          is_part = onwards model t (given_at_first t ∷ []) nodes facts rest n s.is_part (question-stands t facts model n ask);
          fit = are-both t (below t facts n) rest (question-branches t facts n ask fresh s.fit.0) s.fit.1;
          bound = omega (arith, d, e, f, g);
        }

    -- as many nodes and further branches as may be, and a branch that is open
    too-many : (limit : ℕ) → 0 < counted_as (length (events_of t)) → limit / counted_as (length (events_of t)) ≤ length nodes + length rest
        → limit < most_cases t
    too-many limit some late = let a = more in let b = mul-le all cost most cost all-below (omega arith) in omega (arith, a, b)
      where
        cost : ℕ
        cost = counted_as (length (events_of t))

        all : ℕ
        all = length nodes + length (facts ∷ rest)

        most : ℕ
        most = product (sources_in t) (events_of t) * all_orders (events_of t)

        all-below : all ≤ most
        all-below = let h = some-total t (facts ∷ rest) in let e = s.bound in omega (arith, h, e)

        more : limit < all * cost
        more =
            (div-lt_iff_lt-mul {k = cost} {x = limit} {y = all} some).0 (let l = late in omega (arith, l))

-- ---- the steps as the code takes them

length-branches : (cases : List (Vec declared.Fact Global)) → length (branches_of cases) ≡ length cases
length-branches [] = refl
length-branches (c ∷ cs) =
    let pushed = length_push (branches_of cs) (facts_of c.items) in
    let before = length-branches cs in
    omega (arith, pushed, before)

map-more : (ns : List code.Node) (n : code.Node) → map node_of (ns ++ (n ∷ [])) ≡ map node_of ns ++ (node_of n ∷ [])
map-more [] n = refl
map-more (m ∷ ns) n = ap (λ xs. node_of m ∷ xs) (map-more ns n)

-- fs are the facts of the branch that is taken
module _ (model : Model) (t : Litmus) (before after : List (Vec declared.Fact Global)) (a : Vec declared.Fact Global) (popped : before ≡ after ++ (a ∷ []))
    (fs : List declared.Fact) (same : fs ≡ a.items) where
  abbrev facts : List Fact
  facts = facts_of fs

  first : branches_of before ≡ facts ∷ branches_of after
  first = ap branches_of popped ∙ (branches-push after a ∙ ap (λ ds. facts_of ds ∷ branches_of after) (sym same))

  at-case : (nodes : List Node) → IsSearch model t (branches_of before) nodes → IsSearch model t (facts ∷ branches_of after) nodes
  at-case nodes s = subst (λ ks. IsSearch model t ks nodes) first s

  pub its-branch : (nodes : List Node) → IsSearch model t (branches_of before) nodes → IsBranch t facts
  its-branch nodes s = (at-case nodes s).fit.0

  -- o is what is done, and n its node over facts
  module _ (o : step.Node) (n : code.Node) (told : node_of n ≡ as_node (found.node_of o)) (nodes more : List code.Node)
      (e : more ≡ nodes ++ (n ∷ [])) (s : IsSearch model t (branches_of before) (map node_of nodes)) (newer : List (Vec declared.Fact Global)) where
    pushed : map node_of nodes ++ (as_node (found.node_of o) ∷ []) ≡ map node_of more
    pushed = ap (λ m. map node_of nodes ++ (m ∷ [])) (sym told) ∙ sym (ap (map node_of) e ∙ map-more nodes n)

    pub after-leaf : IsCaseStep model t facts (Leaf o) → AreOpenAfter t facts (branches_of after) (branches_of newer) (Leaf o)
        → IsSearch model t (branches_of newer) (map node_of more)
    after-leaf h added =
        subst (λ ks. IsSearch model t ks (map node_of more)) (sym added)
        (subst (λ ns. IsSearch model t (branches_of after) ns) pushed
        (with-leaf model t facts (branches_of after) (map node_of nodes) (at-case (map node_of nodes) s) (as_node (found.node_of o)) h.0 h.1))

    pub after-question : IsCaseStep model t facts (Question o) → AreOpenAfter t facts (branches_of after) (branches_of newer) (Question o)
        → IsSearch model t (branches_of newer) (map node_of more)
    after-question h added =
        subst (λ ks. IsSearch model t ks (map node_of more)) (sym added)
        (subst (λ ns. IsSearch model t (below t facts (as_node (found.node_of o)) ++ branches_of after) ns) pushed
        (with-question model t facts (branches_of after) (map node_of nodes) (at-case (map node_of nodes) s) (as_node (found.node_of o)) h.0 h.1.0))

  module _ (o : step.Node) (newer : List (Vec declared.Fact Global)) where
    pub lighter-by-leaf : AreOpenAfter t facts (branches_of after) (branches_of newer) (Leaf o)
        → total_of 1 t (branches_of newer) < total_of 1 t (branches_of before)
    lighter-by-leaf added =
        let e = ap (total_of 1 t) first in
        let f = ap (total_of 1 t) added in
        let w = some-weight 1 t (answers_told facts) in
        omega (arith, e, f, w)

    pub lighter-by-question : IsCaseStep model t facts (Question o) → AreOpenAfter t facts (branches_of after) (branches_of newer) (Question o)
        → total_of 1 t (branches_of newer) < total_of 1 t (branches_of before)
    lighter-by-question h added =
        let e = ap (total_of 1 t) first in
        let f = ap (total_of 1 t) added in
        let g = total-both 1 t (below t facts (as_node (found.node_of o))) (branches_of after) in
        let w = (question-lighter t facts (as_node (found.node_of o)) h.0 h.1.0).1 in
        omega (arith, e, f, g, w)

  pub one-too-many : (nodes : List code.Node) (limit : ℕ) → IsSearch model t (branches_of before) (map node_of nodes)
      → 0 < counted_as (length (events_of t)) → limit / counted_as (length (events_of t)) ≤ length nodes + length after
      → limit < most_cases t
  one-too-many nodes limit s some late =
      let told = length-map nodes node_of in
      let open-ones = length-branches after in
      too-many model t facts (branches_of after) (map node_of nodes) (at-case (map node_of nodes) s) limit some (omega (arith, told, open-ones, late))

pub first-case : (model : Model) (t : Litmus) (empty branches : List (Vec declared.Fact Global)) (given : List declared.Fact) → empty ≡ []
    → branches_of branches ≡ facts_of given ∷ branches_of empty → facts_of given ≡ given_at_first t → IsSearch model t (branches_of branches) []
first-case model t empty branches given e f g =
    subst (λ ks. IsSearch model t ks []) (sym (f ∙ (ap (λ cs. facts_of given ∷ branches_of cs) e ∙ ap (λ ks. ks ∷ []) g))) (at-first model t)

pub all-done : (model : Model) (t : Litmus) (branches : List (Vec declared.Fact Global)) (nodes : List Node) → branches ≡ []
    → IsSearch model t (branches_of branches) nodes → refutes model t (asked_claim t.condition) [] nodes ≡ true
all-done model t branches nodes e s =
    all-closed model t (given_at_first t ∷ []) nodes
    (subst (λ xs. IsSearch model t (branches_of xs) nodes) e s).is_part
