use Rattle.refutation_laws.proofs.Vocabulary.{◌≡◌, List, ℕ, false, subst, sym, Litmus, Claim, truth_of, registers_in, Run, run, Candidate}
use Rattle.refutation_laws.proofs.Vocabulary.{registers_left, words_left, IsCandidateOfRun, IsEnd}
use Rattle.refutation_laws.specs.declared.model.Model.TheVariants.{Tso, Sequential}
use Rattle.lemma_refutations.proofs.refuted_claims.no_run_meets_what_is_refuted.Goals as goal

of-the-run : (t : Litmus) (r : Run) (d : Candidate) (claim : Claim) → IsCandidateOfRun t r d
    → truth_of (registers_left t d) (words_left t d) claim ≡ false → truth_of (registers_in r.state) r.state.memory claim ≡ false
of-the-run t r d claim of h =
    subst (λ rs. truth_of rs r.state.memory claim ≡ false) (sym of.registers)
    (subst (λ ws. truth_of (registers_left t d) ws claim ≡ false) (sym of.memory) h)

of-the-end : (t : Litmus) (depth : ℕ) (registers : List (List ℕ)) (memory : List ℕ) (claim : Claim) (e : IsEnd t depth registers memory)
    → truth_of (registers_in (run t depth e.choices).state) (run t depth e.choices).state.memory claim ≡ false
    → truth_of registers memory claim ≡ false
of-the-end t depth registers memory claim e h =
    subst (λ rs. truth_of rs memory claim ≡ false) e.registers_are
    (subst (λ ws. truth_of (registers_in (run t depth e.choices).state) ws claim ≡ false) e.memory_is h)

pub returns-clause-tso : goal.returns-clause-tso
returns-clause-tso c = λ t claim lemmas nodes depth choices test names h ended.
    let d = c.runs_have_exactly_the_allowed_candidates.ensures.allowed t depth choices test ended in
    of-the-run t (run t depth choices) d.0 claim d.2 (c.refutations_by_lemmas_are_sound.ensures.candidates Tso t claim lemmas nodes d.0 names h d.1)

pub returns-clause-sequential : goal.returns-clause-sequential
returns-clause-sequential c = λ t claim lemmas nodes choices test names h ended.
    let d = c.unbuffered_runs_have_exactly_the_sequential_candidates.ensures.sequential t choices test ended in
    of-the-run t (run t 0 choices) d.0 claim d.2 (c.refutations_by_lemmas_are_sound.ensures.candidates Sequential t claim lemmas nodes d.0 names h d.1)

pub returns-clause-ends : goal.returns-clause-ends
returns-clause-ends c = λ t claim lemmas nodes depth registers memory test names h e.
    of-the-end t depth registers memory claim e (returns-clause-tso c t claim lemmas nodes depth e.choices test names h e.ended)

pub returns-clause-unbuffered_ends : goal.returns-clause-unbuffered_ends
returns-clause-unbuffered_ends c = λ t claim lemmas nodes registers memory test names h e.
    of-the-end t 0 registers memory claim e (returns-clause-sequential c t claim lemmas nodes e.choices test names h e.ended)
