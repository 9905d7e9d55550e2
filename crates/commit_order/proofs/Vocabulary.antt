-- The names that the proofs of this crate bring in from definitions and from crates below; each file takes its own from here.
pub use Rattle.std.proofs.Common.{◌≡◌, ◌≢◌, ℕ, ◌<◌, List, length, Some, None, refl, subst, suc, ◌+◌, false, [], ◌∷◌, ◌++◌, ap, ◌∙◌, arith}
pub use Rattle.std.proofs.Common.{zero, Bool, true, sym, take, drop, ◌==◌, ◌&&◌, if◌then◌else◌, drop-cons, add-one, slice_index_or}
pub use Rattle.std.proofs.Common.{slice_get}
pub use Rattle.basic_laws.specs.Types.{Entry, Kind, LR, LW}
pub use Rattle.std.proofs.lemmas.Bool.Decides.{nat_tests}
pub use Rattle.tso_terms.specs.ProgramOrder.{same_kind, IsStorePart}
pub use Rattle.tso_terms.specs.ProgramEntries.{is_at}
pub use Rattle.tso_terms.specs.Together.{put_before, put_together}
pub use Rattle.commit_order.specs.Pairs.{has_its_store_part, are_answered, IsPaired}
pub use Rattle.commit_order.specs.inner.Waiting.{all_put, first_of_core, others_of, IsNoneOf, AreWaiting, IsBuiltSoFar}
pub use Rattle.tso_terms.specs.Axioms.{IsAdjacent}
