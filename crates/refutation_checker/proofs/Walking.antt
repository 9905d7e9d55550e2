-- The walk over a list in a loop: one element more, and the end.
pub use Rattle.refutations.proofs.Walking.{one-more, all-done, appended, all-appended}
