-- Some relation leads from x to y just where a first one does.
use Rattle.refutation_checker.proofs.Vocabulary.{◌≡◌, ◌||◌, cond, Bool, true, false, List, [], ◌∷◌, Some, refl, Litmus, Entry, Knowledge}
use Rattle.refutation_checker.proofs.Vocabulary.{◌<◌, ◌+◌, ◌&&◌, ℕ, Option, None, length, get_or, drop, at_drop_more, sym, ap, ◌∙◌}
use Rattle.refutation_checker.proofs.Vocabulary.{relates, is_edge, first_that_relates, Relation, is_cycle, leads_back, is_event, list_all}

abbrev pub is_found : Option Relation → Bool
is_found None = false
is_found (Some r) = true

pub found : (t : Litmus) (k : Knowledge) (relations : List Relation) (x y : Entry)
    → is_found (first_that_relates t k relations x y) ≡ is_edge t k relations x y
found t k [] x y = refl
found t k (r ∷ rs) x y = go (relates t k r x y) (found t k rs x y)
  where
    go : (b : Bool) → is_found (first_that_relates t k rs x y) ≡ is_edge t k rs x y
        → is_found (cond b (Some r) (first_that_relates t k rs x y)) ≡ (b || is_edge t k rs x y)
    go true h = refl
    go false h = h

-- the events of a cycle, one by one

module _ (edge : Entry → Entry → Bool) (first last : Entry) (rest : List Entry) (i : ℕ) (d : Entry) (within : i < length rest) (whole : Bool)
    (so : whole ≡ leads_back edge first last (drop i rest)) where
  pub leads-on : edge last (get_or rest i d) ≡ true → whole ≡ leads_back edge first (get_or rest i d) (drop (i + 1) rest)
  leads-on h = so ∙ (at_drop_more (leads_back edge first last) rest i d within ∙ ap (λ b. b && leads_back edge first (get_or rest i d) (drop (i + 1) rest)) h)

  pub leads-off : edge last (get_or rest i d) ≡ false → false ≡ whole
  leads-off h =
      sym (so
      ∙ (at_drop_more (leads_back edge first last) rest i d within
      ∙ ap (λ b. b && leads_back edge first (get_or rest i d) (drop (i + 1) rest)) h))

pub begun : (t : Litmus) (edge : Entry → Entry → Bool) (cycle : List Entry) (first : Entry) (rest : List Entry) (b : Bool) → cycle ≡ first ∷ rest
    → list_all (is_event t) cycle ≡ b → is_cycle t edge cycle ≡ (b && leads_back edge first first rest)
begun t edge cycle first rest b at all =
    ap (is_cycle t edge) at ∙ ap (λ z. z && leads_back edge first first rest) (ap (list_all (is_event t)) (sym at) ∙ all)
