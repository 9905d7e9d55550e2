-- The names that the proofs of this crate bring in from definitions and from crates below; each file takes its own from here.
pub use Rattle.std.proofs.Common.{◌≡◌, ℕ, ◌+◌, ◌-◌, ◌<◌, ◌≤◌, List, [], ◌∷◌, ◌++◌, length, get_or, take, refl, sym, ap, ◌∙◌, arith, All}
pub use Rattle.std.proofs.Common.{append_assoc, zero, suc, drop, replicate, add-one}
pub use Rattle.std.proofs.lemmas.List.{append-nil, drop_all, drop_more}
pub use Rattle.basic_laws.specs.Types.{Choice, Entry, R, Instr}
pub use Rattle.std.proofs.lemmas.List.Elements.{All-get_or}
pub use Rattle.tso_terms.specs.Litmus.{Litmus}
pub use Rattle.std.proofs.Math.ListN.{length-set}
pub use Rattle.tso_laws.specs.Along.{steps, beginnings, choices_for, places_after, last_steps, choices_from, choices_along}
