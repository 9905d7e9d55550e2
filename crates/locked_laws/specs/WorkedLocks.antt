-- Worked tests: a lock that two cores take by an exchange, and a counter to which two cores add by locked additions.
use Rattle.std.specs.Prelude.{ℕ, List, [], ◌∷◌, None, codes}
use Rattle.tso_terms.specs.Litmus.{Litmus}
use Rattle.tso_terms.specs.Examples.{loc_x}
use Rattle.basic_laws.specs.Types.{Eax, Instr, Xchg, Xadd}
use Rattle.relational_model.specs.WorkedCandidates.{one_in_eax}

-- two cores with 1 in EAX, and this instruction each, on x, which begins as 0
abbrev pub each_does : List ℕ → Instr → Litmus
each_does name instruction = record {
  name = name;
  locations = codes "x" ∷ [];
  words = 0 ∷ [];
  registers = one_in_eax ∷ (one_in_eax ∷ []);
  programs = (instruction ∷ []) ∷ ((instruction ∷ []) ∷ []);
  condition = None;
}

-- a core has the lock if its XCHG read 0
abbrev pub lock : Litmus
lock = each_does (codes "lock") (Xchg loc_x Eax)

abbrev pub counter : Litmus
counter = each_does (codes "counter") (Xadd loc_x Eax)
