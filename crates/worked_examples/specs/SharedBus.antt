-- One choice of one of two cores on a split bus, after others. Each choice is given with the caches' answer whether its access
-- hits.
--   X86 shared
--   { x=3; y=4;
--     0:EAX=11; 0:EBX=12; 0:ECX=13; 0:EDX=14; 0:ESI=15; 0:EDI=16;
--     1:EAX=21; 1:EBX=22; 1:ECX=23; 1:EDX=24; 1:ESI=25; 1:EDI=26; }
--    P0 | P1 ;
--    .. | .. ;
use Rattle.std.specs.Prelude.{true, false, List, [], ◌∷◌, None, codes}
use Rattle.worked_examples.specs.Vocabulary.{Attempt, Litmus}
use Rattle.basic_laws.specs.Types.{Choice, Instr}
use Rattle.worked_examples.specs.Written.{six}

-- a choice whose access misses, and one whose access hits
abbrev pub missing : Choice → Attempt
missing c = record { choice = c; hits = false }

abbrev pub hitting : Choice → Attempt
hitting c = record { choice = c; hits = true }

abbrev pub shared : List Instr → List Instr → Litmus
shared p q = record {
  name = codes "shared";
  locations = codes "x" ∷ codes "y" ∷ [];
  words = 3 ∷ 4 ∷ [];
  registers = six 11 12 13 14 15 16 ∷ six 21 22 23 24 25 26 ∷ [];
  programs = p ∷ q ∷ [];
  condition = None;
}
