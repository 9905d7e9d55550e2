-- The walk over a core's program: what is done after one more instruction, and at the end.
use Rattle.std.proofs.Common.{◌≡◌, ◌<◌, ◌≤◌, ℕ, ◌+◌, suc, Bool, true, false, if◌then◌else◌, List, [], ◌∷◌, ◌++◌, length, get_or, drop}
use Rattle.std.proofs.Common.{append-nil, arith, sym, ap, ◌∙◌}
use Rattle.std.proofs.lemmas.List.{at_drop_more, at_drop_all}
use Rattle.tso_terms.specs.Actions.{action_of}
use Rattle.tso_terms.specs.Thread.{entries_of, registers_after, reads_in, is_reading}
use Rattle.tso_terms.specs.declared.instruction.Instr.{Instr}
use Rattle.tso_terms.specs.declared.execution.Entry.{Entry}

one-by-one : (reads : Bool) (behind : ℕ) → (if reads then suc behind else behind) ≡ (if reads then 1 else 0) + behind
one-by-one true behind = omega arith
one-by-one false behind = omega arith

-- one more instruction
module _ (program : List Instr) (i : ℕ) (d : Instr) (within : i < length program) where
  pub entries-more : (core place : ℕ) (registers values later left : List ℕ) (whole done after : List Entry)
      → ((rest : List Instr)
      → done ++ entries_of core place (get_or program i d ∷ rest) registers values
      ≡ after ++ entries_of core (place + 1) rest later left)
      → whole ≡ done ++ entries_of core place (drop i program) registers values → whole ≡ after ++ entries_of core (place + 1) (drop (i + 1) program) later left
  entries-more core place registers values later left whole done after step so =
      so ∙ ap (λ es. done ++ es) (at_drop_more (λ p. entries_of core place p registers values) program i d within) ∙ step (drop (i + 1) program)

  pub registers-more : (registers values later left whole : List ℕ)
      → ((rest : List Instr)
      → registers_after (get_or program i d ∷ rest) registers values ≡ registers_after rest later left)
      → whole ≡ registers_after (drop i program) registers values → whole ≡ registers_after (drop (i + 1) program) later left
  registers-more registers values later left whole step so =
      so ∙ at_drop_more (λ p. registers_after p registers values) program i d within ∙ step (drop (i + 1) program)

  split : reads_in (drop i program) ≡ reads_in (get_or program i d ∷ []) + reads_in (drop (i + 1) program)
  split = at_drop_more reads_in program i d within ∙ one-by-one (is_reading (action_of (get_or program i d))) (reads_in (drop (i + 1) program))

  pub reads-here : (values : ℕ) → values ≡ reads_in (drop i program) → reads_in (get_or program i d ∷ []) ≤ values
  reads-here values is = let s = split in omega (arith, s)

  pub reads-more : (values left : ℕ)
      → left + reads_in (get_or program i d ∷ []) ≡ values
      → values ≡ reads_in (drop i program)
      → left ≡ reads_in (drop (i + 1) program)
  reads-more values left step is = let s = split in omega (arith, s)

-- no instruction is left
module _ (program : List Instr) (i : ℕ) (all : length program ≤ i) where
  pub entries-all : (core place : ℕ) (registers values : List ℕ) (whole done : List Entry)
      → whole ≡ done ++ entries_of core place (drop i program) registers values
      → done ≡ whole
  entries-all core place registers values whole done so =
      sym (so ∙ ap (λ es. done ++ es) (at_drop_all (λ p. entries_of core place p registers values) program i all) ∙ append-nil done)

  pub registers-all : (registers values whole : List ℕ) → whole ≡ registers_after (drop i program) registers values → registers ≡ whole
  registers-all registers values whole so = sym (so ∙ at_drop_all (λ p. registers_after p registers values) program i all)
