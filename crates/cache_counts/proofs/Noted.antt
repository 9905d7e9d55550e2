-- What is noted along a run is what its choices had to do with the caches.
use Rattle.std.proofs.Common.{◌≡◌, ◌≤◌, ◌+◌, ℕ, Bool, true, false, if◌then◌else◌, List, [], ◌∷◌, ◌++◌, length, refl, sym, ap, ◌∙◌, arith}
use Rattle.std.proofs.lemmas.List.{append_assoc, append-nil}
use Rattle.tso_terms.specs.Runs.{has_ended}
use Rattle.tso_terms.specs.declared.choice.Choice.{Choice}
use Rattle.machine_core.specs.Running.{Running, machine_after}
use Rattle.machine_runs.specs.inner.Observed.{Watched, none_left, over, next, IsWatched}
use Rattle.cache_counts.specs.Uses.{core_use_at, uses_from}
use Rattle.cache_counts.specs.declared.noting.Noter.{Noter}

-- each choice is noted after those before it
abbrev pub Notes : Noter → Running → ℕ → Choice → Noter → Type 0
Notes o m number choice n = n.uses.items ≡ o.uses.items ++ core_use_at m choice ∷ []

uses-end : (m : Running) (cs : List Choice) → has_ended m.test m.state.flat ≡ true → uses_from m cs ≡ []
uses-end m [] h = refl
uses-end m (c ∷ cs) h = ap (λ b. if b then [] else core_use_at m c ∷ uses_from (machine_after m c) cs) h

uses-next : (m : Running) (c : Choice) (cs : List Choice)
    → has_ended m.test m.state.flat ≡ false
    → uses_from m (c ∷ cs) ≡ core_use_at m c ∷ uses_from (machine_after m c) cs
uses-next m c cs h = ap (λ b. if b then [] else core_use_at m c ∷ uses_from (machine_after m c) cs) h

noted-along : (o last : Noter) (m left : Running) (number : ℕ) (choices : List Choice) → Watched Notes o m number choices last left
    → last.uses.items ≡ o.uses.items ++ uses_from m choices
noted-along o _ m _ _ _ (none_left _ _ _) = sym (append-nil o.uses.items)
noted-along o _ m _ _ choices (over _ _ _ _ ended) = sym (append-nil o.uses.items) ∙ ap (λ us. o.uses.items ++ us) (sym (uses-end m choices ended))
noted-along o last m left number _ (next _ mid _ _ _ _ c rest live one w) =
    let after = machine_after m c in
    noted-along mid last after left (number + 1) rest w ∙ (ap (λ us. us ++ uses_from after rest) one
    ∙ (append_assoc o.uses.items (core_use_at m c ∷ []) (uses_from after rest) ∙ ap (λ us. o.uses.items ++ us) (sym (uses-next m c rest live))))

-- one who has noted nothing, and looks at a whole run
pub noted-whole : (m : Running) (old new : Noter) (choices : List Choice)
    → IsWatched (λ o _ n. n.uses.items ≡ o.uses.items) Notes (λ o _ n. n.uses.items ≡ o.uses.items) old m choices new
    → old.uses.items ≡ [] → new.uses.items ≡ uses_from m choices
noted-whole m old new choices w none =
    w.ends ∙ (noted-along w.begun w.driven m w.left 1 choices w.watched ∙ ap (λ us. us ++ uses_from m choices) (w.opens ∙ none))

-- one for each choice at most
pub few-noted : (m : Running) (choices : List Choice) → length (uses_from m choices) ≤ length choices
few-noted m [] = omega arith
few-noted m (c ∷ cs) = by_end (has_ended m.test m.state.flat) (few-noted (machine_after m c) cs)
  where
    by_end : (b : Bool) → length (uses_from (machine_after m c) cs) ≤ length cs
        → length (if b then [] else core_use_at m c ∷ uses_from (machine_after m c) cs) ≤ length (c ∷ cs)
    by_end true few = omega arith
    by_end false few = omega arith
