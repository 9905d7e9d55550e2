-- What is shown is there; and what is shown where nothing more is asked for.
use Rattle.std.proofs.Common.{◌≡◌, ◌∙◌, ◌+◌, Bool, true, false, ◌||◌, cond, List, [], ◌∷◌, ◌++◌, length, filter, All, ap, sym, subst, refl}
use Rattle.std.proofs.lemmas.List.Elements.{All-filter}
use Rattle.tso_terms.specs.Litmus.{Litmus}
use Rattle.tso_report.specs.Tally.{is_looked_at, named_registers, named_locations, looked_at}
use Rattle.tso_report.specs.declared.named.Named.{Named}
use Rattle.tso_report.specs.inner.Tally.{NameExists}
use Rattle.tso_report.proofs.Looking.{names-known}
use Rattle.tso_report.specs.ShownNames.{is_shown, names_shown}
use Rattle.tso_report.specs.declared.show.Show.{Show}
use Rattle.tso_report.specs.declared.show.Show.TheVariants.{Condition}

pub shown-known : (show : Show) (t : Litmus) (list : List Named) → list ≡ names_shown show t → All (NameExists (length t.programs) (length t.locations)) list
shown-known show t list is =
    subst (All (NameExists (length t.programs) (length t.locations))) (sym is)
    (All-filter (is_shown show t) (NameExists (length t.programs) (length t.locations))
    (named_registers 0 (length t.programs) ++ named_locations 0 (length t.locations)) (names-known t))

or-false : (b : Bool) → b || false ≡ b
or-false true = refl
or-false false = refl

same-filter : (p q : Named → Bool) (names : List Named) → ((n : Named) → p n ≡ q n) → filter p names ≡ filter q names
same-filter p q [] same = refl
same-filter p q (n ∷ names) same =
    ap (λ b. cond b (n ∷ filter p names) (filter p names)) (same n)
    ∙ ap (λ rest. cond (q n) (n ∷ rest) rest) (same-filter p q names same)

pub nothing-added : (t : Litmus) → names_shown Condition t ≡ looked_at t
nothing-added t =
    same-filter (is_shown Condition t) (is_looked_at t.condition) (named_registers 0 (length t.programs) ++ named_locations 0 (length t.locations))
    (λ n. or-false (is_looked_at t.condition n))
