-- Kinds of entries by themselves, and program order as an order of numbers.
use Rattle.std.proofs.Common.{◌≡◌, ℕ, ◌+◌, Bool, true, false, not, ◌==◌, ◌&&◌, ◌||◌, nat_lt, arith, ap}
use Rattle.std.proofs.lemmas.Bool.Decides.{nat_tests}
use Rattle.tso_terms.specs.ProgramOrder.{same_kind, is_before}
use Rattle.basic_laws.specs.Types.{Entry, Kind, R, W, LR, LW}
use Rattle.basic_laws.specs.Ranks.{part_of, rank}

abbrev pub is_load_kind : Kind → Bool
is_load_kind k = same_kind k R

abbrev pub is_store_kind : Kind → Bool
is_store_kind k = same_kind k W

abbrev pub is_read_kind : Kind → Bool
is_read_kind k = same_kind k R || same_kind k LR

abbrev pub is_write_kind : Kind → Bool
is_write_kind k = same_kind k W || same_kind k LW

together : (p q : ℕ) → (nat_lt p q || ((p == q) && false)) ≡ nat_lt (p + p + 0) (q + q + 0)
together p q = grind (arith, nat_tests)

both-later : (p q : ℕ) → (nat_lt p q || ((p == q) && false)) ≡ nat_lt (p + p + 1) (q + q + 1)
both-later p q = grind (arith, nat_tests)

first-later : (p q : ℕ) → (nat_lt p q || ((p == q) && false)) ≡ nat_lt (p + p + 1) (q + q + 0)
first-later p q = grind (arith, nat_tests)

second-later : (p q : ℕ) → (nat_lt p q || ((p == q) && true)) ≡ nat_lt (p + p + 0) (q + q + 1)
second-later p q = grind (arith, nat_tests)

kinds-rank : (j k : Kind) (p q : ℕ)
    → (nat_lt p q || ((p == q) && (same_kind k LW && not (same_kind j LW)))) ≡ nat_lt (p + p + part_of j) (q + q + part_of k)
kinds-rank LW LW p q = both-later p q
kinds-rank LW _ p q = first-later p q
kinds-rank _ LW p q = second-later p q
kinds-rank _ _ p q = together p q

-- program order goes by rank
pub by-rank : (x y : Entry) → is_before x y ≡ ((x.core.0 == y.core.0) && nat_lt (rank x) (rank y))
by-rank x y = ap (λ b. (x.core.0 == y.core.0) && b) (kinds-rank x.kind y.kind x.place y.place)
