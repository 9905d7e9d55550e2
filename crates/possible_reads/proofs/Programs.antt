-- What a candidate's programs write, and leave in their registers, is what its reads return, put into their expressions.
use Rattle.possible_reads.proofs.Vocabulary.{◌≡◌, ℕ, zero, suc, ◌+◌, Bool, true, false, if◌then◌else◌, List, [], ◌∷◌, ◌++◌, refl, sym, ap}
use Rattle.possible_reads.proofs.Vocabulary.{◌∙◌, ◌⊎◌, inl, inr, subst, ◌==◌, Option, Some, None, map, filter, map-append, filter-append}
use Rattle.possible_reads.proofs.Vocabulary.{slice_index, slice_index_or, slice_set, Entry, LR, LW, R, W, Reg, Instr, Operand, Number, Held}
use Rattle.possible_reads.proofs.Vocabulary.{Update, Action, Store, Load, Move, Fence, Lock, Litmus, action_of, index_of, entry, value_in}
use Rattle.possible_reads.proofs.Vocabulary.{updated, entries_by, registers_by, values_after, entries_of, registers_after, IsIn, in-case}
use Rattle.possible_reads.proofs.Vocabulary.{in-none, in-first, in-later, in-filter, filter-in, in-left, in-right, bare, same_event, Stands}
use Rattle.possible_reads.proofs.Vocabulary.{Candidate, events, events_from, is_read, is_write, Sound}
use Rattle.tso_terms.specs.Thread as thread
use Rattle.tso_terms.specs.Thread.{combined, difference_of, changed, with_taken}
use Rattle.basic_laws.specs.Types.{Eax, Replace, Negate, CompareExchange, Change, Keep, Set, Swap}
use Rattle.tso_terms.specs.declared.action.Update.TheVariants.{Combine}
use Rattle.refutation_laws.proofs.Standing.{same-bare, one-entry}
use Rattle.refutation_laws.proofs.Soundness.{bare-same}
use Rattle.possible_reads.specs.Expressions.{Expression, Constant, Returned, Written, held_in, operand_in, updated_by, changed_by, taken_by}
use Rattle.possible_reads.specs.Expressions.{written_by, registers_after_action, written_in, registers_at_end, first_registers}
use Rattle.possible_reads.specs.Expressions.{written_from, written, expression_among, expression_of}
use Rattle.possible_reads.proofs.Values.{value_of}

-- ---- lists

at-map : (f : Expression → ℕ) (os : List Expression) (i : ℕ) → f (Constant 0) ≡ 0
    → f (slice_index_or os i (Constant 0)) ≡ slice_index (map f os) i
at-map f [] i z = z
at-map f (o ∷ os) zero z = refl
at-map f (o ∷ os) (suc i) z = at-map f os i z

set-map : (f : Expression → ℕ) (os : List Expression) (i : ℕ) (o : Expression) → map f (slice_set os i o) ≡ slice_set (map f os) i (f o)
set-map f [] i o = refl
set-map f (p ∷ os) zero o = refl
set-map f (p ∷ os) (suc i) o = ap (λ ns. f p ∷ ns) (set-map f os i o)

-- ---- programs

-- what each of these reads returns
abbrev pub Given : (Entry → ℕ) → List Entry → Type 0
Given returned es = (x : Entry) → IsIn es x → is_read x ≡ true → returned (bare x) ≡ x.value

module _ (returned : Entry → ℕ) where
  abbrev now : List Expression → List ℕ
  now os = map (value_of returned) os

  -- a write, with its value
  abbrev pub filled : Written → Entry
  filled x = entry x.write.core.0 x.write.place x.write.kind x.write.loc (value_of returned x.value)

  held : (os : List Expression) (reg : Reg) → value_of returned (held_in os reg) ≡ value_in (now os) reg
  held os reg = at-map (value_of returned) os (index_of reg) refl

  operand : (os : List Expression) (o : Operand) → value_of returned (operand_in os o) ≡ thread.value_of (now os) o
  operand os (Number value) = refl
  operand os (Held reg) = held os reg

  updating : (os : List Expression) (u : Update) (word : Expression) (v : ℕ) → value_of returned word ≡ v
      → value_of returned (updated_by u os word) ≡ updated u (now os) v
  updating os (Replace o) word v h = operand os o
  updating os (Combine operator o) word v h =
      ap (λ n. combined operator n (value_of returned (operand_in os o))) h ∙ ap (λ n. combined operator v n) (operand os o)
  updating os Negate word v h = ap (difference_of 0) h
  updating os (CompareExchange reg) word v h =
      ap (λ n. if n == value_of returned (held_in os Eax) then value_of returned (held_in os reg) else n) h
      ∙ (ap (λ n. if v == n then value_of returned (held_in os reg) else v) (held os Eax)
      ∙ ap (λ n. if v == value_in (now os) Eax then n else v) (held os reg))

  changing : (os : List Expression) (change : Change) → now (changed_by change os) ≡ changed change (now os)
  changing os Keep = refl
  changing os (Set reg u) =
      set-map (value_of returned) os (index_of reg) (updated_by u os (held_in os reg))
      ∙ ap (λ n. slice_set (now os) (index_of reg) n) (updating os u (held_in os reg) (value_in (now os) reg) (held os reg))
  changing os (Swap reg other) =
      set-map (value_of returned) (slice_set os (index_of reg) (held_in os other)) (index_of other) (held_in os reg)
      ∙ (ap (λ ns. slice_set ns (index_of other) (value_of returned (held_in os reg)))
      (set-map (value_of returned) os (index_of reg) (held_in os other))
      ∙ (ap (λ n. slice_set (slice_set (now os) (index_of reg) n) (index_of other) (value_of returned (held_in os reg))) (held os other)
      ∙ ap (λ n. slice_set (slice_set (now os) (index_of reg) (value_in (now os) other)) (index_of other) n) (held os reg)))

  taking : (os : List Expression) (target : Option Reg) (read : Entry) (v : ℕ) → returned read ≡ v
      → now (taken_by os target (Returned read)) ≡ with_taken (now os) target v
  taking os None read v h = refl
  taking os (Some reg) read v h =
      set-map (value_of returned) os (index_of reg) (Returned read) ∙ ap (λ n. slice_set (now os) (index_of reg) n) h

  after-by : (core place : ℕ) (a : Action) (os : List Expression) (v : ℕ) → Given returned (entries_by core place a (now os) v)
      → registers_by a (now os) v ≡ now (registers_after_action core place a os)
  after-by core place (Store loc o) os v g = refl
  after-by core place (Load reg loc) os v g =
      sym (set-map (value_of returned) os (index_of reg) (Returned (entry core place R loc 0))
      ∙ ap (λ n. slice_set (now os) (index_of reg) n) (g (entry core place R loc v) (0, refl) refl))
  after-by core place (Move change) os v g = sym (changing os change)
  after-by core place Fence os v g = refl
  after-by core place (Lock loc target u) os v g =
      sym (taking os target (entry core place LR loc 0) v (g (entry core place LR loc v) (0, refl) refl))

  writes-by : (core place : ℕ) (a : Action) (os : List Expression) (v : ℕ) → Given returned (entries_by core place a (now os) v)
      → filter is_write (entries_by core place a (now os) v) ≡ map filled (written_by core place a os)
  writes-by core place (Store loc o) os v g = ap (λ n. entry core place W loc n ∷ []) (sym (operand os o))
  writes-by core place (Load reg loc) os v g = refl
  writes-by core place (Move change) os v g = refl
  writes-by core place Fence os v g = refl
  writes-by core place (Lock loc target u) os v g =
      ap (λ n. entry core place LW loc n ∷ [])
      (sym (updating os u (Returned (entry core place LR loc 0)) v (g (entry core place LR loc v) (0, refl) refl)))

  writes-of : (core place : ℕ) (p : List Instr) (os : List Expression) (values : List ℕ) → Given returned (entries_of core place p (now os) values)
      → filter is_write (entries_of core place p (now os) values) ≡ map filled (written_in core place p os)
  writes-of core place [] os values g = refl
  writes-of core place (i ∷ p) os values g =
      filter-append is_write first (rest (registers_by (action_of i) (now os) (slice_index values 0)))
      ∙ (ap (λ es. es ++ filter is_write (rest (registers_by (action_of i) (now os) (slice_index values 0))))
      (writes-by core place (action_of i) os (slice_index values 0) given-first)
      ∙ (ap (λ es. map filled (written_by core place (action_of i) os) ++ es)
      (ap (λ ns. filter is_write (rest ns)) later
      ∙ writes-of core (place + 1) p (registers_after_action core place (action_of i) os) (values_after (action_of i) values) given-rest)
      ∙ sym (map-append filled (written_by core place (action_of i) os) _)))
    where
      first : List Entry
      first = entries_by core place (action_of i) (now os) (slice_index values 0)

      rest : List ℕ → List Entry
      rest ns = entries_of core (place + 1) p ns (values_after (action_of i) values)

      given-first : Given returned first
      given-first x j r = g x (in-left first (rest (registers_by (action_of i) (now os) (slice_index values 0))) x j) r

      later : registers_by (action_of i) (now os) (slice_index values 0) ≡ now (registers_after_action core place (action_of i) os)
      later = after-by core place (action_of i) os (slice_index values 0) given-first

      given-rest : Given returned (rest (now (registers_after_action core place (action_of i) os)))
      given-rest x j r =
          g x (in-right first (rest (registers_by (action_of i) (now os) (slice_index values 0))) x
          (subst (λ ns. IsIn (rest ns) x) (sym later) j)) r

  left-by : (core place : ℕ) (p : List Instr) (os : List Expression) (values : List ℕ) → Given returned (entries_of core place p (now os) values)
      → registers_after p (now os) values ≡ now (registers_at_end core place p os)
  left-by core place [] os values g = refl
  left-by core place (i ∷ p) os values g =
      ap (λ ns. registers_after p ns (values_after (action_of i) values)) later
      ∙ left-by core (place + 1) p (registers_after_action core place (action_of i) os) (values_after (action_of i) values) given-rest
    where
      first : List Entry
      first = entries_by core place (action_of i) (now os) (slice_index values 0)

      rest : List ℕ → List Entry
      rest ns = entries_of core (place + 1) p ns (values_after (action_of i) values)

      later : registers_by (action_of i) (now os) (slice_index values 0) ≡ now (registers_after_action core place (action_of i) os)
      later = after-by core place (action_of i) os (slice_index values 0)
          (λ x j r. g x (in-left first (rest (registers_by (action_of i) (now os) (slice_index values 0))) x j) r)

      given-rest : Given returned (rest (now (registers_after_action core place (action_of i) os)))
      given-rest x j r =
          g x (in-right first (rest (registers_by (action_of i) (now os) (slice_index values 0))) x
          (subst (λ ns. IsIn (rest ns) x) (sym later) j)) r

  first-now : (ns : List ℕ) → now (map (λ value. Constant value) ns) ≡ ns
  first-now [] = refl
  first-now (n ∷ ns) = ap (λ ms. n ∷ ms) (first-now ns)

  pub writes-from : (core : ℕ) (ps : List (List Instr)) (registers reads : List (List ℕ)) → Given returned (events_from core ps registers reads)
      → filter is_write (events_from core ps registers reads) ≡ map filled (written_from core ps registers)
  writes-from core [] registers reads g = refl
  writes-from core (p ∷ ps) registers reads g =
      filter-append is_write (first (slice_index_or registers core [])) rest
      ∙ (ap (λ es. es ++ filter is_write rest) here
      ∙ (ap (λ es. map filled (written_in core 0 p (first_registers registers core)) ++ es)
      (writes-from (core + 1) ps registers reads (λ x j r. g x (in-right (first (slice_index_or registers core [])) rest x j) r))
      ∙ sym (map-append filled (written_in core 0 p (first_registers registers core)) _)))
    where
      first : List ℕ → List Entry
      first ns = entries_of core 0 p ns (slice_index_or reads core [])

      rest : List Entry
      rest = events_from (core + 1) ps registers reads

      same : now (first_registers registers core) ≡ slice_index_or registers core []
      same = first-now (slice_index_or registers core [])

      here : filter is_write (first (slice_index_or registers core [])) ≡ map filled (written_in core 0 p (first_registers registers core))
      here =
          ap (λ ns. filter is_write (first ns)) (sym same)
          ∙ writes-of core 0 p (first_registers registers core) (slice_index_or reads core [])
          (λ x j r. g x (in-left (first (slice_index_or registers core [])) rest x (subst (λ ns. IsIn (first ns) x) same j)) r)

  -- the registers of one core
  pub left-of : (core : ℕ) (p : List Instr) (registers : List (List ℕ)) (values : List ℕ)
      → Given returned (entries_of core 0 p (slice_index_or registers core []) values)
      → registers_after p (slice_index_or registers core []) values ≡ now (registers_at_end core 0 p (first_registers registers core))
  left-of core p registers values g =
      ap (λ ns. registers_after p ns values) (sym same)
      ∙ left-by core 0 p (first_registers registers core) values
      (λ x j r. g x (subst (λ ns. IsIn (entries_of core 0 p ns values) x) same j) r)
    where
      same : now (first_registers registers core) ≡ slice_index_or registers core []
      same = first-now (slice_index_or registers core [])

  pub held-at-end : (os : List Expression) (ns : List ℕ) (reg : Reg) → ns ≡ now os → value_in ns reg ≡ value_of returned (held_in os reg)
  held-at-end os ns reg e = ap (λ ms. value_in ms reg) e ∙ sym (held os reg)

  -- what a write among these writes
  pub among : (xs : List Written) (w x : Entry) → IsIn (map filled xs) x
      → ((y : Entry) → IsIn (map filled xs) y → bare y ≡ bare x → y ≡ x) → bare w ≡ bare x
      → value_of returned (expression_among xs w) ≡ x.value
  among [] w x i one h = absurd (in-none x i)
  among (y ∷ ys) w x i one h =
      go (same_event y.write w) refl (in-case (filled y) (map filled ys) x i)
      (λ j. among ys w x j (λ z k. one z (in-later (filled y) (map filled ys) z k)) h)
    where
      go : (b : Bool) → same_event y.write w ≡ b → (x ≡ filled y) ⊎ IsIn (map filled ys) x
          → (IsIn (map filled ys) x → value_of returned (expression_among ys w) ≡ x.value)
          → value_of returned (if b then y.value else expression_among ys w) ≡ x.value
      go true q k rest =
          ap (λ (z : Entry). z.value) (one (filled y) (in-first (filled y) (map filled ys) (filled y) refl) (same-bare y.write w q ∙ h))
      go false q (inl e) rest =
          let s : same_event y.write w ≡ true = bare-same y.write w (ap bare (sym e) ∙ sym h) in
          let z : ⊥ = cc in absurd z
      go false q (inr j) rest = rest j

-- ---- a candidate

-- what these events return
abbrev pub returned_by : List Entry → Entry → ℕ
returned_by [] e = 0
returned_by (x ∷ xs) e = if same_event x e then x.value else returned_by xs e

returned-right : (xs : List Entry) (e x : Entry) → ((y : Entry) → IsIn xs y → bare y ≡ bare x → y ≡ x) → IsIn xs x → bare e ≡ bare x
    → returned_by xs e ≡ x.value
returned-right [] e x one i h = absurd (in-none x i)
returned-right (y ∷ ys) e x one i h =
    go (same_event y e) refl (in-case y ys x i) (λ j. returned-right ys e x (λ z k. one z (in-later y ys z k)) j h)
  where
    go : (b : Bool) → same_event y e ≡ b → (x ≡ y) ⊎ IsIn ys x → (IsIn ys x → returned_by ys e ≡ x.value)
        → (if b then y.value else returned_by ys e) ≡ x.value
    go true q k rest = ap (λ (z : Entry). z.value) (one y (in-first y ys y refl) (same-bare y e q ∙ h))
    go false q (inl s) rest =
        let a : same_event y e ≡ true = bare-same y e (ap bare (sym s) ∙ sym h) in
        let z : ⊥ = cc in absurd z
    go false q (inr j) rest = rest j

module _ (t : Litmus) (c : Candidate) (d : Sound t c) where
  abbrev pub returned_in : Entry → ℕ
  returned_in e = returned_by (events t c) e

  pub returns : (e x : Entry) → Stands t c e x → returned_in e ≡ x.value
  returns e x s =
      returned-right (events t c) e x (λ y i h. one-entry t c d y x i s.inside h) s.inside s.same

  pub given : Given returned_in (events t c)
  given x i r = returns (bare x) x (record { inside = i; same = refl })

  -- each write writes the value of its expression
  pub writes-value : (w x : Entry) → Stands t c w x → is_write x ≡ true → value_of returned_in (expression_of t w) ≡ x.value
  writes-value w x s h =
      among returned_in (written t) w x
      (subst (λ es. IsIn es x) all (filter-in is_write (events t c) x s.inside h))
      (λ y i e. one-entry t c d y x (in-filter is_write (events t c) y (subst (λ es. IsIn es y) (sym all) i)).0 s.inside e) s.same
    where
      all : filter is_write (events t c) ≡ map (filled returned_in) (written t)
      all = writes-from returned_in 0 t.programs t.registers c.reads given
