-- Worked tests, and orders of their entries: store buffering and its like, on which definitions can be held against what
-- everyone knows of them. (x86-TSO, section 3; Primer, chapter 4.)
use Rattle.std.specs.Prelude.{ℕ, List, [], ◌∷◌, None, codes}
use Rattle.tso_terms.specs.Litmus.{Litmus}
use Rattle.tso_terms.specs.Thread.{entry}
use Rattle.tso_terms.specs.FlatMachine.{step, drain}
use Rattle.tso_terms.specs.declared.register.Reg.TheVariants.{Eax, Ebx}
use Rattle.tso_terms.specs.declared.instruction.Loc.{Loc}
use Rattle.tso_terms.specs.declared.instruction.Instr.TheVariants.{StoreImm, Load, Xadd}
use Rattle.tso_terms.specs.declared.execution.Entry.{Entry}
use Rattle.tso_terms.specs.declared.execution.Kind.TheVariants.{R, W, LR, LW}
use Rattle.tso_terms.specs.declared.choice.Choice.{Choice}

abbrev pub loc_x : Loc
loc_x = record { 0 = 0 }

abbrev pub loc_y : Loc
loc_y = record { 0 = 1 }

abbrev pub zeros : List ℕ
zeros = 0 ∷ (0 ∷ (0 ∷ (0 ∷ (0 ∷ (0 ∷ [])))))

-- store buffering: each core stores to one location and loads the other
abbrev pub sb : Litmus
sb = record {
  name = codes "SB";
  locations = codes "x" ∷ (codes "y" ∷ []);
  words = 0 ∷ (0 ∷ []);
  registers = zeros ∷ (zeros ∷ []);
  programs = (StoreImm loc_x 1 ∷ (Load Eax loc_y ∷ [])) ∷ ((StoreImm loc_y 1 ∷ (Load Eax loc_x ∷ [])) ∷ []);
  condition = None;
}

-- both loads pass their own store
abbrev pub sb_order : List Entry
sb_order = entry 0 1 R loc_y 0 ∷ (entry 1 1 R loc_x 0 ∷ (entry 0 0 W loc_x 1 ∷ (entry 1 0 W loc_y 1 ∷ [])))

abbrev pub sb_choices : List Choice
sb_choices = step 0 ∷ (step 1 ∷ (step 0 ∷ (step 1 ∷ (drain 0 ∷ (drain 1 ∷ [])))))

-- a core that reads its own store before memory has it
abbrev pub n6 : Litmus
n6 = record {
  name = codes "n6";
  locations = codes "x" ∷ (codes "y" ∷ []);
  words = 0 ∷ (0 ∷ []);
  registers = zeros ∷ (zeros ∷ []);
  programs =
      (StoreImm loc_x 1 ∷ (Load Eax loc_x ∷ (Load Ebx loc_y ∷ [])))
      ∷ ((StoreImm loc_y 2 ∷ (StoreImm loc_x 2 ∷ [])) ∷ []);
  condition = None;
}

-- the load of x comes before its own store
abbrev pub n6_order : List Entry
n6_order =
    entry 0 1 R loc_x 1 ∷ (entry 0 2 R loc_y 0 ∷ (entry 1 0 W loc_y 2 ∷ (entry 1 1 W loc_x 2 ∷ (entry 0 0 W loc_x 1 ∷ []))))

-- a locked addition beside a store to the same location
abbrev pub added : Litmus
added = record {
  name = codes "added";
  locations = codes "x" ∷ [];
  words = 0 ∷ [];
  registers = zeros ∷ (zeros ∷ []);
  programs = (Xadd loc_x Eax ∷ []) ∷ ((StoreImm loc_x 1 ∷ []) ∷ []);
  condition = None;
}

-- the store comes between the two parts of the addition
abbrev pub separated_order : List Entry
separated_order = entry 0 0 LR loc_x 0 ∷ (entry 1 0 W loc_x 1 ∷ (entry 0 0 LW loc_x 0 ∷ []))
