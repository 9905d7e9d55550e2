-- What a breach names can be printed: it names entries of the order, or entries that the programs make.
use Rattle.tso_cli.proofs.Vocabulary.{◌≡◌, ◌≢◌, ℕ, ◌<◌, List, length, Some, slice_get, All, subst, get_or_from_slice_get, slice_get_within, Litmus}
use Rattle.tso_terms.specs.ProgramEntries.{made}
use Rattle.tso_terms.specs.Standing.{StandsIn}
use Rattle.basic_laws.specs.Types.{Entry, Kind, R, W, F, LR, LW}
use Rattle.tso_laws.specs.Entries.{FitsTest}
use Rattle.order_builder.specs.PrintedOrder.{HasLocation, IsLocationFor}
use Rattle.order_breaches.specs.FirstBreach.{IsFirstBreach}
use Rattle.order_breaches.specs.declared.breach.Breach.{Breach}
use Rattle.order_breaches.specs.declared.breach.Breach.TheVariants.{Extra, Twice, Missing, WrongValue, ProgramOrder, NotAdjacent, ReadValue, NoMemory}
use Rattle.tso_cli.specs.inner.CheckLines.{CanBeNamed}

in-order : (t : Litmus) (order : List Entry) (at : ℕ) (x : Entry) → All (HasLocation t) order → slice_get order at ≡ Some x → HasLocation t x
in-order t order at x all stands =
    subst (HasLocation t) (get_or_from_slice_get order at x x stands) (all at x (slice_get_within order at x stands))

location : (t : Litmus) (kind : Kind) (loc : ℕ) → (kind ≢ F → loc < length t.locations) → IsLocationFor t kind loc
location t R loc known = known (λ e. absurd cc)
location t W loc known = known (λ e. absurd cc)
location t F loc known = tt
location t LR loc known = known (λ e. absurd cc)
location t LW loc known = known (λ e. absurd cc)

pub named : (t : Litmus) (order : List Entry) (b : Breach) → ((e : Entry) → StandsIn (made t order) e → FitsTest t e)
    → All (HasLocation t) order → (b ≢ NoMemory → IsFirstBreach t order b) → CanBeNamed t b
named t order (Extra x) fits all is = let first = (is (λ e. absurd cc)).1 in in-order t order first.0 x all first.1.stands
named t order (Twice x) fits all is = let first = (is (λ e. absurd cc)).1 in in-order t order first.0 x all first.1.stands
named t order (Missing core place kind loc) fits all is =
    let first = (is (λ e. absurd cc)).1 in
    location t kind loc.0 (fits _ (first.0, first.2.stands)).location
named t order (WrongValue x due) fits all is = let first = (is (λ e. absurd cc)).2 in in-order t order first.0 x all first.1.stands
named t order (ProgramOrder x y) fits all is =
    let both = (is (λ e. absurd cc)).1 in
    (in-order t order both.0 x all both.2.stands, in-order t order both.1 y all both.3.stands)
named t order (NotAdjacent x) fits all is = let first = (is (λ e. absurd cc)).2 in in-order t order first.0 x all first.1.stands
named t order (ReadValue x due) fits all is = let first = (is (λ e. absurd cc)).3 in in-order t order first.0 x all first.1.stands
named t order NoMemory fits all is = tt
