-- Registers that no printed value shows.
use Rattle.std.specs.Prelude.{ℕ, ◌<◌, ◌≡◌, Bool, true, false, List, length, slice_index_or}
use Rattle.tso_terms.specs.Litmus.{Litmus}
use Rattle.tso_terms.specs.Registers.{index_of}
use Rattle.tso_terms.specs.declared.register.Reg.{Reg}
use Rattle.tso_laws.specs.Dead.{seen, hidden_of}
use Rattle.tso_report.specs.Tally.{named_register}
use Rattle.tso_report.specs.declared.named.Named.{Named}
use Rattle.tso_report.specs.ShownNames.{is_shown, values_at}
use Rattle.tso_report.specs.declared.show.Show.{Show}

-- final states that differ in these alone look alike, where what is shown has these names
abbrev pub AreNotShown : List Named → List (List Bool) → Type 0
AreNotShown names hidden =
    (registers others : List (List ℕ)) (memory : List ℕ)
    → seen hidden registers ≡ seen hidden others → values_at names registers memory ≡ values_at names others memory

-- the register of this core is among them
abbrev pub IsHidden : List (List Bool) → ℕ → Reg → Type 0
IsHidden hidden core reg = slice_index_or (hidden_of hidden core) (index_of reg) false ≡ true

-- every register that isn't shown is: a search need not tell states apart by it
abbrev pub AreAllNotShown : Show → Litmus → List (List Bool) → Type 0
AreAllNotShown show t hidden =
    (core : ℕ) (reg : Reg) → core < length t.programs → is_shown show t (named_register core reg) ≡ false → IsHidden hidden core reg
