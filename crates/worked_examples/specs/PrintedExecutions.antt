-- The literature's small tests with what they ask; and what is printed of an execution of one of them, byte for byte.
use Rattle.std.specs.Prelude.{List, ℕ, [], ◌∷◌, ◌++◌, Some, codes}
use Rattle.basic_laws.specs.Types.{Choice, Exists, NotExists, Quantifier, W}
use Rattle.tso_terms.specs.Condition.{Claim}
use Rattle.tso_terms.specs.Litmus.{Litmus}
use Rattle.order_builder.specs.PrintedOrder.{printed_lines}
use Rattle.tso_terms.specs.Examples.{sb, n6}
use Rattle.tso_terms.specs.FlatMachine.{step, drain}
use Rattle.relational_model.specs.WorkedCandidates.{passing, between}
use Rattle.refutation_laws.specs.Worked.{both_zero, passed, other_first, lost}

-- the test with a condition
abbrev pub asking : Litmus → Quantifier → Claim → Litmus
asking t quantifier claim = record {
  name = t.name;
  locations = t.locations;
  words = t.words;
  registers = t.registers;
  programs = t.programs;
  condition = Some (record { quantifier = quantifier; claim = claim });
}

abbrev pub sb_asked : Litmus
sb_asked = asking sb Exists both_zero

abbrev pub passing_asked : Litmus
passing_asked = asking passing Exists passed

abbrev pub n6_asked : Litmus
n6_asked = asking n6 NotExists other_first

abbrev pub between_asked : Litmus
between_asked = asking between Exists lost

-- each core's store and load, and then both stores drain
abbrev pub sb_choices : List Choice
sb_choices = step 0 ∷ (step 0 ∷ (step 1 ∷ (step 1 ∷ (drain 0 ∷ (drain 1 ∷ [])))))

-- store buffering: both loads read 0
abbrev pub sb_text : List ℕ
sb_text = printed_lines
    (codes "Test SB"
    ∷ (codes "Allowed tso"
    ∷ (codes "Asked exists true"
    ∷ (codes "From P0:1 R y=0 initial"
    ∷ (codes "From P1:1 R x=0 initial"
    ∷ (codes "Coherence x P0:0 W x=1"
    ∷ (codes "Coherence y P1:0 W y=1"
    ∷ (codes "By 0s 0s 1s 1s 0d 1d"
    ∷ (codes "State 0:EAX=0 1:EAX=0"
    ∷ (codes "Verdict Ok"
    ∷ []))))))))))

abbrev pub sb_json : List ℕ
sb_json =
    codes "{\"answer\":\"allowed\",\"asked\":{\"kind\":\"exists\",\"truth\":true},\"choices\":\"0s 0s 1s 1s 0d 1d\","
    ++ (codes "\"coherence\":{\"x\":[\"P0:0 W x=1\"],\"y\":[\"P1:0 W y=1\"]},\"model\":\"tso\","
    ++ (codes "\"sources\":[{\"read\":\"P0:1 R y=0\",\"write\":\"initial\"},{\"read\":\"P1:1 R x=0\",\"write\":\"initial\"}],"
    ++ (codes "\"test\":\"SB\",\"values\":{\"0:EAX\":0,\"1:EAX\":0},\"verdict\":\"Ok\"}\n")))
