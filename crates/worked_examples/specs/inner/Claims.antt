-- Propositions on one final state, in which all registers and words differ:
--   Registers P0 EAX=11 EBX=12 ECX=13 EDX=14 ESI=15 EDI=16
--   Registers P1 EAX=21 EBX=22 ECX=23 EDX=24 ESI=25 EDI=26
--   Memory x=3 y=4
use Rattle.std.specs.Prelude.{Bool, true, false, [], ◌∷◌}
use Rattle.worked_examples.specs.Vocabulary.{AndClaim, Claim, LocClaim, NotClaim, OrClaim, RegClaim, truth_of, TruthClaim}
use Rattle.tso_terms.specs.declared.register.Reg.TheVariants.{Ecx, Esi}
use Rattle.worked_examples.specs.Written.{six}

-- whether a proposition is true in that state
abbrev pub holds : Claim → Bool
holds claim = truth_of (six 11 12 13 14 15 16 ∷ six 21 22 23 24 25 26 ∷ []) (3 ∷ 4 ∷ []) claim

-- `true` and `false`
abbrev pub true_atom : Claim
true_atom = TruthClaim true

abbrev pub false_atom : Claim
false_atom = TruthClaim false

-- 1:ECX=23 /\ (not (0:ESI=15) \/ (y=4 /\ not not true))
abbrev pub nested : Claim
nested = AndClaim (RegClaim 1 Ecx 23) (OrClaim (NotClaim (RegClaim 0 Esi 15)) (AndClaim (LocClaim 1 4) (NotClaim (NotClaim true_atom))))
