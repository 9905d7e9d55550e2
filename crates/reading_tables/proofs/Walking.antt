-- One instruction more, and one core more: what it writes comes behind what those before it write, and their registers stay as they are.
use Rattle.reading_tables.proofs.Vocabulary.{◌≡◌, ◌<◌, ◌+◌, ℕ, List, [], ◌∷◌, ◌++◌, ◌⊎◌, inl, inr, length, drop, slice_index_or, get_or}
use Rattle.reading_tables.proofs.Vocabulary.{arith, subst, sym, ap, ◌∙◌, append_assoc, at_drop_more, Instr, map}
use Rattle.tso_terms.specs.Actions.{action_of}
use Rattle.basic_laws.specs.Types.{Action}
use Rattle.reading_tables.specs.declared.expressions.Held.{Held}
use Rattle.reading_tables.specs.declared.expressions.Making.{Making}
use Rattle.reading_tables.specs.inner.Told.{held_of, all_made, HaveBeenMade, IsMore}
use Rattle.reading_tables.proofs.Makings.{at-front, at-end, all-in-more, held-kept}
use Rattle.possible_reads.specs.Expressions.{Expression, Written, written_by, registers_after_action, written_in, registers_at_end}
use Rattle.possible_reads.specs.Expressions.{written_from, first_registers}

-- one instruction: what it writes comes behind what those before it wrote
pub write-step : (core place : ℕ) (instr : Instr) (action : Action) (rest : List Instr) (old new : List Written) (registers after : List Expression)
    → action ≡ action_of instr → new ≡ old ++ written_by core place action registers → after ≡ registers_after_action core place action registers
    → old ++ written_in core place (instr ∷ rest) registers ≡ new ++ written_in core (place + 1) rest after
write-step core place instr action rest old new registers after is writes left =
    let own = written_by core place action registers in
    let more = written_in core (place + 1) rest (registers_after_action core place action registers) in
    ap (λ a. old ++ (written_by core place a registers ++ written_in core (place + 1) rest (registers_after_action core place a registers))) (sym is)
    ∙ (sym (append_assoc old own more)
    ∙ (ap (λ z. z ++ more) (sym writes) ∙ ap (λ r. new ++ written_in core (place + 1) rest r) (sym left)))

pub register-step : (core place : ℕ) (instr : Instr) (action : Action) (rest : List Instr) (registers after : List Expression)
    → action ≡ action_of instr → after ≡ registers_after_action core place action registers
    → registers_at_end core place (instr ∷ rest) registers ≡ registers_at_end core (place + 1) rest after
register-step core place instr action rest registers after is left =
    ap (λ a. registers_at_end core (place + 1) rest (registers_after_action core place a registers)) (sym is)
    ∙ ap (registers_at_end core (place + 1) rest) (sym left)

-- one core
pub core-more : (programs : List (List Instr)) (registers : List (List ℕ)) (number : ℕ) (first : List Expression)
    (before after whole : List Written) → number < length programs → first ≡ first_registers registers number
    → after ≡ before ++ written_in number 0 (get_or programs number []) first
    → whole ≡ before ++ written_from number (drop number programs) registers
    → whole ≡ after ++ written_from (number + 1) (drop (number + 1) programs) registers
core-more programs registers number first before after whole within same more so =
    let p = get_or programs number [] in
    let own = written_in number 0 p (first_registers registers number) in
    let left = written_from (number + 1) (drop (number + 1) programs) registers in
    let is : after ≡ before ++ own = more ∙ ap (λ f. before ++ written_in number 0 p f) same in
    so
    ∙ (at_drop_more (λ ps. before ++ written_from number ps registers) programs number [] within
    ∙ (sym (append_assoc before own left) ∙ ap (λ z. z ++ left) (sym is)))

-- the registers of the cores so far, and of one core more
module _ (a b : List Making) (more : IsMore a b) (rows : List (List Held)) (row : List Held) (number core : ℕ) (size : length rows ≡ number) where
  abbrev longer : List (List Held)
  longer = rows ++ (row ∷ [])

  either : core < number + 1 → (core < number) ⊎ (core ≡ number)
  either l = grind arith

  before : core < number → slice_index_or longer core [] ≡ slice_index_or rows core []
  before l = at-front rows (row ∷ []) core [] (omega (arith, l, size))

  last : core ≡ number → slice_index_or longer core [] ≡ row
  last e = ap (λ n. slice_index_or longer n []) (e ∙ sym size) ∙ at-end rows row []

  pub inside-more : core < number + 1 → (core < number → HaveBeenMade (length a) (slice_index_or rows core [])) → HaveBeenMade (length b) row
      → HaveBeenMade (length b) (slice_index_or longer core [])
  inside-more l old new = elim (either l) [
    | inl m ↦ subst (HaveBeenMade (length b)) (sym (before m)) (all-in-more (length a) (length b) (slice_index_or rows core []) more.longer (old m))
    | inr e ↦ subst (HaveBeenMade (length b)) (sym (last e)) new
  ]

  pub each-more : (due : ℕ → List Expression) → core < number + 1 → (core < number → HaveBeenMade (length a) (slice_index_or rows core []))
      → (core < number → map (held_of (all_made a)) (slice_index_or rows core []) ≡ due core) → map (held_of (all_made b)) row ≡ due number
      → map (held_of (all_made b)) (slice_index_or longer core []) ≡ due core
  each-more due l inside old new = elim (either l) [
    | inl m ↦
        ap (map (held_of (all_made b))) (before m) ∙ (held-kept a b (slice_index_or rows core []) more (inside m) ∙ old m)
    | inr e ↦ ap (map (held_of (all_made b))) (last e) ∙ (new ∙ ap due (sym e))
  ]
