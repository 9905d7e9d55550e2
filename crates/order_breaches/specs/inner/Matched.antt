-- An order that holds each action of the programs once: what its values are is still to be judged.
use Rattle.std.specs.Prelude.{ℕ, ◌<◌, ◌≡◌, true, List, Some, slice_get}
use Rattle.tso_terms.specs.Litmus.{Litmus}
use Rattle.tso_terms.specs.ProgramOrder.{is_write}
use Rattle.tso_terms.specs.ProgramEntries.{made}
use Rattle.tso_terms.specs.declared.execution.Entry.{Entry}
use Rattle.order_breaches.specs.First.{IsNowhere}
use Rattle.order_breaches.specs.Entries.{IsExtra, IsStray, IsMissing}

-- each action of the programs is in the order once, and nothing else does; values aside
pub record IsMatched (t : Litmus) (order : List Entry) : Type 0 where
  pub no_stray : IsNowhere order (IsStray (made t order) order)
  pub no_missing : IsNowhere (made t order) (IsMissing order)

-- each entry of the order is one of those that the programs made, but for its value; there are so many cores and words
pub record AreOfPrograms (made : List Entry) (cores words : ℕ) (order : List Entry) : Type 0 where
  pub made_by_one : (k : ℕ) (x : Entry) → slice_get order k ≡ Some x → ¬ IsExtra made x
  pub of_a_core : (k : ℕ) (x : Entry) → slice_get order k ≡ Some x → x.core.0 < cores
  pub to_a_word : (k : ℕ) (x : Entry) → slice_get order k ≡ Some x → is_write x ≡ true → x.loc.0 < words
