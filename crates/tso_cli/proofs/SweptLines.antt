-- Each state of a sweep has its line in what is written.
use Rattle.tso_cli.proofs.Vocabulary.{◌<◌, ℕ, zero, suc, List, [], ◌∷◌, ◌++◌, length, slice_index_or, All, refl, sym, ap, ◌∙◌, append_assoc}
use Rattle.tso_cli.proofs.Vocabulary.{arith, Litmus, ProtocolKind, Configuration, head, RunCounts, counted_state_line, counted_state_lines}
use Rattle.tso_cli.proofs.Vocabulary.{sweep_line, ended_in, observation, Plan, HasPart, sweep_lines, States}

after : (first text line : List ℕ) → HasPart text line → HasPart (first ++ text) line
after first text line has = (first ++ has.0, has.1, ap (λ (x : List ℕ). first ++ x) has.2 ∙ sym (append_assoc first has.0 (line ++ has.1)))

before : (text last line : List ℕ) → HasPart text line → HasPart (text ++ last) line
before text last line has = (
  has.0,
  has.1 ++ last,
  ap (λ (x : List ℕ). x ++ last) has.2
      ∙ append_assoc has.0 (line ++ has.1) last
      ∙ ap (λ (x : List ℕ). has.0 ++ x) (append_assoc line has.1 last),
)

state-there : (t : Litmus) (states : States) (k : ℕ) (d : List ℕ × ℕ)
    → k < length states
    → HasPart (counted_state_lines t states) (counted_state_line t (slice_index_or states k d))
state-there t [] k d l = absurd (omega arith)
state-there t (s ∷ rest) zero d l = ([], counted_state_lines t rest, refl)
state-there t (s ∷ rest) (suc k) d l =
    after (counted_state_line t s) (counted_state_lines t rest) (counted_state_line t (slice_index_or rest k d))
    (state-there t rest k d (omega arith))

pub each-line : (t : Litmus) (kind : ProtocolKind) (c : Configuration) (plan : Plan) (counts : RunCounts)
    → All (λ state. HasPart (sweep_lines t kind c plan counts) (counted_state_line t state)) counts.states
each-line t kind c plan counts = λ k d l.
    let line = counted_state_line t (slice_index_or counts.states k d) in
    after (head t kind c) _ line (after (sweep_line (ended_in counts) counts.unfinished plan.from plan.length) _ line
    (before (counted_state_lines t counts.states) (observation t.name t.condition counts.held counts.failed) line (state-there t counts.states k d l)))
