-- Worked candidates: the literature's small tests, and what the relational model allows of each. (Herding Cats, 2014.)
use Rattle.std.specs.Prelude.{ℕ, ◌==◌, ◌&&◌, if◌then◌else◌, List, [], ◌∷◌, Option, Some, None, zero, suc, codes}
use Rattle.tso_terms.specs.Litmus.{Litmus}
use Rattle.tso_terms.specs.Thread.{entry}
use Rattle.tso_terms.specs.Examples.{loc_x, loc_y, zeros}
use Rattle.basic_laws.specs.Types.{Eax, Ebx, Instr, StoreImm, Load, Fence, Xchg, Xadd, Entry, W, LW}
use Rattle.relational_model.specs.Candidates.{Candidate}

-- the coherence orders of x and y
abbrev pub of_x_and_y : List Entry → List Entry → ℕ → List Entry
of_x_and_y xs ys zero = xs
of_x_and_y xs ys (suc zero) = ys
of_x_and_y xs ys (suc (suc n)) = []

-- each read reads the initial word
abbrev pub initial : Entry → Option Entry
initial r = None

-- the read of this core and place reads from w, the others as they are told
abbrev pub reading : ℕ → ℕ → Entry → (Entry → Option Entry) → Entry → Option Entry
reading core place w others r = if (r.core.0 == core) && (r.place == place) then Some w else others r

-- a test on x and y, which begin as 0
abbrev pub on_x_and_y : List ℕ → List (List Instr) → List (List ℕ) → Litmus
on_x_and_y name programs registers = record {
  name = name;
  locations = codes "x" ∷ (codes "y" ∷ []);
  words = 0 ∷ (0 ∷ []);
  registers = registers;
  programs = programs;
  condition = None;
}

abbrev pub two_cores : List (List ℕ)
two_cores = zeros ∷ (zeros ∷ [])

-- 1 in EAX
abbrev pub one_in_eax : List ℕ
one_in_eax = 1 ∷ (0 ∷ (0 ∷ (0 ∷ (0 ∷ (0 ∷ [])))))

-- store buffering: both loads read 0
abbrev pub sb_candidate : Candidate
sb_candidate = record {
  reads = (0 ∷ []) ∷ ((0 ∷ []) ∷ []);
  source = initial;
  coherence = of_x_and_y (entry 0 0 W loc_x 1 ∷ []) (entry 1 0 W loc_y 1 ∷ []);
}

-- n6: the first core reads x from its own store, which reaches memory last
abbrev pub n6_candidate : Candidate
n6_candidate = record {
  reads = (1 ∷ (0 ∷ [])) ∷ ([] ∷ []);
  source = reading 0 1 (entry 0 0 W loc_x 1) initial;
  coherence = of_x_and_y (entry 1 1 W loc_x 2 ∷ (entry 0 0 W loc_x 1 ∷ [])) (entry 1 0 W loc_y 2 ∷ []);
}

-- store buffering with a fence after each store: both loads read 0
abbrev pub fenced : Litmus
fenced = on_x_and_y (codes "SB+mfences")
    ((StoreImm loc_x 1 ∷ (Fence ∷ (Load Eax loc_y ∷ []))) ∷ ((StoreImm loc_y 1 ∷ (Fence ∷ (Load Eax loc_x ∷ []))) ∷ []))
    two_cores

abbrev pub fenced_candidate : Candidate
fenced_candidate = sb_candidate

-- store buffering with XCHG in place of each store: both loads read 0
abbrev pub exchanged : Litmus
exchanged = on_x_and_y (codes "SB+xchgs")
    ((Xchg loc_x Eax ∷ (Load Ebx loc_y ∷ [])) ∷ ((Xchg loc_y Eax ∷ (Load Ebx loc_x ∷ [])) ∷ []))
    (one_in_eax ∷ (one_in_eax ∷ []))

abbrev pub exchanged_candidate : Candidate
exchanged_candidate = record {
  reads = (0 ∷ (0 ∷ [])) ∷ ((0 ∷ (0 ∷ [])) ∷ []);
  source = initial;
  coherence = of_x_and_y (entry 0 0 LW loc_x 1 ∷ []) (entry 1 0 LW loc_y 1 ∷ []);
}

-- message passing: the flag y is read as set, and x as not yet stored
abbrev pub passing : Litmus
passing = on_x_and_y (codes "MP")
    ((StoreImm loc_x 1 ∷ (StoreImm loc_y 1 ∷ [])) ∷ ((Load Eax loc_y ∷ (Load Ebx loc_x ∷ [])) ∷ []))
    two_cores

abbrev pub passing_candidate : Candidate
passing_candidate = record {
  reads = [] ∷ ((1 ∷ (0 ∷ [])) ∷ []);
  source = reading 1 0 (entry 0 1 W loc_y 1) initial;
  coherence = of_x_and_y (entry 0 0 W loc_x 1 ∷ []) (entry 0 1 W loc_y 1 ∷ []);
}

-- load buffering: each core reads what the other one stores afterwards
abbrev pub buffering : Litmus
buffering = on_x_and_y (codes "LB")
    ((Load Eax loc_x ∷ (StoreImm loc_y 1 ∷ [])) ∷ ((Load Eax loc_y ∷ (StoreImm loc_x 1 ∷ [])) ∷ []))
    two_cores

abbrev pub buffering_candidate : Candidate
buffering_candidate = record {
  reads = (1 ∷ []) ∷ ((1 ∷ []) ∷ []);
  source = reading 0 0 (entry 1 1 W loc_x 1) (reading 1 0 (entry 0 1 W loc_y 1) initial);
  coherence = of_x_and_y (entry 1 1 W loc_x 1 ∷ []) (entry 0 1 W loc_y 1 ∷ []);
}

-- independent reads of independent writes: two cores see the two stores in opposite orders
abbrev pub independent : Litmus
independent = on_x_and_y (codes "IRIW")
    ((StoreImm loc_x 1 ∷ []) ∷ ((StoreImm loc_y 1 ∷ [])
    ∷ ((Load Eax loc_x ∷ (Load Ebx loc_y ∷ [])) ∷ ((Load Eax loc_y ∷ (Load Ebx loc_x ∷ [])) ∷ []))))
    (zeros ∷ (zeros ∷ two_cores))

abbrev pub independent_candidate : Candidate
independent_candidate = record {
  reads = [] ∷ ([] ∷ ((1 ∷ (0 ∷ [])) ∷ ((1 ∷ (0 ∷ [])) ∷ [])));
  source = reading 2 0 (entry 0 0 W loc_x 1) (reading 3 0 (entry 1 0 W loc_y 1) initial);
  coherence = of_x_and_y (entry 0 0 W loc_x 1 ∷ []) (entry 1 0 W loc_y 1 ∷ []);
}

-- the registers that tell of it: each reader has read its first location as stored, and its second one as not yet stored
abbrev pub opposite_registers : List (List ℕ)
opposite_registers = zeros ∷ (zeros ∷ (one_in_eax ∷ (one_in_eax ∷ [])))

-- a locked addition of 0, and a store of another core that comes between its two parts
abbrev pub between : Litmus
between = on_x_and_y (codes "between") ((Xadd loc_x Eax ∷ []) ∷ ((StoreImm loc_x 1 ∷ []) ∷ [])) two_cores

abbrev pub between_candidate : Candidate
between_candidate = record {
  reads = (0 ∷ []) ∷ ([] ∷ []);
  source = initial;
  coherence = of_x_and_y (entry 1 0 W loc_x 1 ∷ (entry 0 0 LW loc_x 0 ∷ [])) [];
}

-- a core's load of the location that it has just stored to (iwp2.3.b): the load reads the initial word
abbrev pub unseen : Litmus
unseen = on_x_and_y (codes "iwp2.3.b") ((StoreImm loc_x 1 ∷ (Load Eax loc_x ∷ [])) ∷ []) (zeros ∷ [])

abbrev pub unseen_candidate : Candidate
unseen_candidate = record {
  reads = (0 ∷ []) ∷ [];
  source = initial;
  coherence = of_x_and_y (entry 0 0 W loc_x 1 ∷ []) [];
}
