-- The names that the proofs of this crate bring in from definitions and from crates below; each file takes its own from here.
pub use Rattle.std.proofs.Common.{◌≡◌, ◌<◌, ◌≤◌, ◌+◌, length, Some, slice_get, arith, ap, sym, ◌∙◌, subst, refl, None, IfSome}
pub use Rattle.tso_terms.specs.ProgramEntries.{made}
pub use Rattle.tso_terms.specs.Litmus.{Litmus}
pub use Rattle.order_breaches.specs.FirstBreach.{IsFirstBreach}
pub use Rattle.std.proofs.lemmas.List.{length-set}
pub use Rattle.std.specs.Option.{unwrap_or}
pub use Rattle.order_breaches.specs.inner.Passing.{HasMet}
pub use Rattle.std.proofs.lemmas.Result.{err_from_is_err_and}
