-- What is printed of the final states of store buffering, and what is shown of a test.
--   X86 SB
--   { }
--    P0          | P1          ;
--    MOV [x],$1  | MOV [y],$1  ;
--    MOV EAX,[y] | MOV EAX,[x] ;
use Rattle.std.specs.Prelude.{ℕ, List, [], ◌∷◌, ◌++◌, Some, None, codes}
use Rattle.worked_examples.specs.Vocabulary.{AndClaim, Claim, Litmus, NotClaim, RegClaim}
use Rattle.basic_laws.specs.Types.{Quantifier, Exists, Reg, Eax, Ebx, Ecx, Edx, Esi, StoreImm, StoreReg, Load, SetImm, SetReg, Fence, Xchg, Xadd}
use Rattle.tso_report.specs.Report.{line}
use Rattle.tso_report.specs.Tally.{named_register}
use Rattle.tso_report.specs.declared.named.Named.{Named}
use Rattle.tso_report.specs.declared.named.Named.TheVariants.{Location}
use Rattle.tso_report.specs.ShownNames.{names_shown}
use Rattle.tso_report.specs.declared.show.Show.TheVariants.{Condition}
use Rattle.search_report.specs.Outcomes.{Outcome, condition_lines, outcomes_text}
use Rattle.search_report.specs.MetOutcomes.{decided_line, met_json, met_text}
use Rattle.search_report.specs.Outcomes.{is_met_in}
use Rattle.search_report.specs.OutcomesJson.{outcomes_json}
use Rattle.worked_examples.specs.Written.{loc_x, loc_y, step, drain, six}

abbrev pub both_zero : Claim
both_zero = AndClaim (RegClaim 0 Eax 0) (RegClaim 1 Eax 0)

-- in no state
abbrev pub one_is_two : Claim
one_is_two = RegClaim 0 Eax 2

abbrev pub store_buffering : Litmus
store_buffering = record {
  name = codes "SB";
  locations = codes "x" ∷ codes "y" ∷ [];
  words = 0 ∷ 0 ∷ [];
  registers = six 0 0 0 0 0 0 ∷ six 0 0 0 0 0 0 ∷ [];
  programs = (StoreImm loc_x 1 ∷ Load Eax loc_y ∷ []) ∷ (StoreImm loc_y 1 ∷ Load Eax loc_x ∷ []) ∷ [];
  condition = Some (record { quantifier = Exists; claim = both_zero });
}

-- its four final states, by what both cores read
abbrev pub four : List Outcome
four =
    record { registers = six 0 0 0 0 0 0 ∷ six 0 0 0 0 0 0 ∷ []; memory = 1 ∷ 1 ∷ []; choices = step 0 ∷ step 0 ∷ step 1 ∷ step 1 ∷ drain 0 ∷ drain 1 ∷ [] }
    ∷ record { registers = six 0 0 0 0 0 0 ∷ six 1 0 0 0 0 0 ∷ []; memory = 1 ∷ 1 ∷ []; choices = step 0 ∷ drain 0 ∷ step 0 ∷ step 1 ∷ step 1 ∷ drain 1 ∷ [] }
    ∷ record { registers = six 1 0 0 0 0 0 ∷ six 0 0 0 0 0 0 ∷ []; memory = 1 ∷ 1 ∷ []; choices = step 1 ∷ drain 1 ∷ step 1 ∷ step 0 ∷ step 0 ∷ drain 0 ∷ [] }
    ∷ record { registers = six 1 0 0 0 0 0 ∷ six 1 0 0 0 0 0 ∷ []; memory = 1 ∷ 1 ∷ []; choices = step 0 ∷ drain 0 ∷ step 1 ∷ drain 1 ∷ step 0 ∷ step 1 ∷ [] }
    ∷ []

-- what is said of a condition in these four states
abbrev pub said_of : Quantifier → Claim → List ℕ
said_of quantifier claim = condition_lines (codes "SB") (Some (record { quantifier = quantifier; claim = claim })) four

-- three lines
abbrev pub three_lines : List ℕ → List ℕ → List ℕ → List ℕ
three_lines first second third = line first ++ (line second ++ line third)

abbrev pub printed : List ℕ
printed = outcomes_text store_buffering (names_shown Condition store_buffering) 32 four

abbrev pub printed_lines_of_it : List ℕ
printed_lines_of_it =
    codes "Test SB\nOutcomes depth=32 states=4\n"
    ++ (codes "State 0:EAX=0 1:EAX=0\nBy 0s 0s 1s 1s 0d 1d\n"
    ++ (codes "State 0:EAX=0 1:EAX=1\nBy 0s 0d 0s 1s 1s 1d\n"
    ++ (codes "State 0:EAX=1 1:EAX=0\nBy 1s 1d 1s 0s 0s 0d\n"
    ++ (codes "State 0:EAX=1 1:EAX=1\nBy 0s 0d 1s 1d 0s 1s\n"
    ++ codes "Observation SB Sometimes 1 3\nTrue 1\nVerdict Ok\n"))))

abbrev pub printed_json : List ℕ
printed_json = outcomes_json store_buffering (names_shown Condition store_buffering) 32 four

abbrev pub printed_object : List ℕ
printed_object =
    codes "{\"depth\":32,\"observation\":{\"false\":3,\"true\":1,\"word\":\"Sometimes\"},\"states\":["
    ++ (codes "{\"choices\":\"0s 0s 1s 1s 0d 1d\",\"holds\":true,\"values\":{\"0:EAX\":0,\"1:EAX\":0}},"
    ++ (codes "{\"choices\":\"0s 0d 0s 1s 1s 1d\",\"holds\":false,\"values\":{\"0:EAX\":0,\"1:EAX\":1}},"
    ++ (codes "{\"choices\":\"1s 1d 1s 0s 0s 0d\",\"holds\":false,\"values\":{\"0:EAX\":1,\"1:EAX\":0}},"
    ++ (codes "{\"choices\":\"0s 0d 1s 1d 0s 1s\",\"holds\":false,\"values\":{\"0:EAX\":1,\"1:EAX\":1}}],"
    ++ codes "\"test\":\"SB\",\"verdict\":\"Ok\"}\n"))))

-- ---- of a search that met its limit

-- two of the four were met
abbrev pub two : List Outcome
two =
    record { registers = six 0 0 0 0 0 0 ∷ six 0 0 0 0 0 0 ∷ []; memory = 1 ∷ 1 ∷ []; choices = step 0 ∷ step 0 ∷ step 1 ∷ step 1 ∷ drain 0 ∷ drain 1 ∷ [] }
    ∷ record { registers = six 1 0 0 0 0 0 ∷ six 0 0 0 0 0 0 ∷ []; memory = 1 ∷ 1 ∷ []; choices = step 1 ∷ drain 1 ∷ step 1 ∷ step 0 ∷ step 0 ∷ drain 0 ∷ [] }
    ∷ []

abbrev pub met : List ℕ
met = met_text store_buffering (names_shown Condition store_buffering) 6 two

abbrev pub met_lines_of_it : List ℕ
met_lines_of_it =
    codes "Unfinished states=6\nMet 2\n"
    ++ (codes "State 0:EAX=0 1:EAX=0\nBy 0s 0s 1s 1s 0d 1d\n"
    ++ (codes "State 0:EAX=1 1:EAX=0\nBy 1s 1d 1s 0s 0s 0d\n"
    ++ codes "Verdict Ok\n"))

abbrev pub met_as_json : List ℕ
met_as_json = met_json store_buffering (names_shown Condition store_buffering) 6 two

abbrev pub met_object : List ℕ
met_object =
    codes "{\"met\":["
    ++ (codes "{\"choices\":\"0s 0s 1s 1s 0d 1d\",\"holds\":true,\"values\":{\"0:EAX\":0,\"1:EAX\":0}},"
    ++ (codes "{\"choices\":\"1s 1d 1s 0s 0s 0d\",\"holds\":false,\"values\":{\"0:EAX\":1,\"1:EAX\":0}}],"
    ++ codes "\"test\":\"SB\",\"unfinished\":{\"states\":6},\"verdict\":\"Ok\"}\n"))

-- where none was met nothing is decided
abbrev pub none_met : List ℕ
none_met = met_text store_buffering (names_shown Condition store_buffering) 6 []

abbrev pub none_as_json : List ℕ
none_as_json = met_json store_buffering (names_shown Condition store_buffering) 6 []

-- what two states decide of a condition
abbrev pub decided_of : Quantifier → Claim → List ℕ
decided_of quantifier claim =
    let condition = Some (record { quantifier = quantifier; claim = claim }) in decided_line condition (is_met_in condition two)

-- ---- what is shown

-- a core stores, fences and loads, and each kind of instruction that writes a register has one of its own
--    P0                | P1              ;
--    MOV [x],$1        | MOV EBX,[y]     ;
--    MFENCE            | MOV ECX,$7      ;
--    MOV [x],EDX       | MOV EDX,EAX     ;
--    LOCK XADD [y],ESI | XCHG [x],EAX    ;
--    exists (1:EBX=1)
abbrev pub all_kinds : Litmus
all_kinds = record {
  name = codes "kinds";
  locations = codes "x" ∷ codes "y" ∷ [];
  words = 0 ∷ 0 ∷ [];
  registers = six 0 0 0 0 0 0 ∷ six 0 0 0 0 0 0 ∷ [];
  programs = (StoreImm loc_x 1 ∷ Fence ∷ StoreReg loc_x Edx ∷ Xadd loc_y Esi ∷ [])
      ∷ (Load Ebx loc_y ∷ SetImm Ecx 7 ∷ SetReg Edx Eax ∷ Xchg loc_x Eax ∷ []) ∷ [];
  condition = Some (record { quantifier = Exists; claim = NotClaim (RegClaim 1 Ebx 0) });
}

-- the same without a condition
abbrev pub without_condition : Litmus
without_condition = record all_kinds { condition = None }

abbrev pub register : ℕ → Reg → Named
register core reg = named_register core reg

-- the registers that are written there
abbrev pub written_registers : List Named
written_registers = register 0 Esi ∷ register 1 Eax ∷ register 1 Ebx ∷ register 1 Ecx ∷ register 1 Edx ∷ []

abbrev pub both_locations : List Named
both_locations = Location loc_x ∷ Location loc_y ∷ []
