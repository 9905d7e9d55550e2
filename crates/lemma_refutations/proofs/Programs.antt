-- What relates numbers, what reads return and what instructions make of these relates each write's expression to its value, and each
-- register's at the end: by the reads before the write in its program alone.
use Rattle.refutation_laws.proofs.Vocabulary.{◌≡◌, ◌<◌, ◌≤◌, ◌==◌, ◌&&◌, ℕ, zero, suc, ◌+◌, true, false, if◌then◌else◌, List, [], ◌∷◌, ◌++◌}
use Rattle.refutation_laws.proofs.Vocabulary.{length, slice_index, slice_index_or, slice_set, Option, Some, None, arith, refl, sym, ap, ◌∙◌}
use Rattle.refutation_laws.proofs.Vocabulary.{inl, inr, subst, map, append_assoc, Litmus, index_of, action_of, entry, value_in, value_of}
use Rattle.refutation_laws.proofs.Vocabulary.{updated, entries_by, registers_by, values_after, entries_of, registers_after, is_before}
use Rattle.refutation_laws.proofs.Vocabulary.{is_read, is_write, same_kind, is_at, Reg, Loc, Kind, Instr, Operand, Number, Held, Update}
use Rattle.refutation_laws.proofs.Vocabulary.{Action, Store, Load, Move, Fence, Lock, Entry, R, W, LR, LW, rank, part-small, IsIn}
use Rattle.refutation_laws.proofs.Vocabulary.{events_from, in-case, in-none, in-append, in-left, in-right, rank-before, only, here-by}
use Rattle.refutation_laws.proofs.Vocabulary.{from-place, bare, same_event, registers_left_from, same-number, is-false, and-both}
use Rattle.tso_terms.specs.Thread.{combined, difference_of, changed, with_taken}
use Rattle.basic_laws.specs.Types.{Eax, Operator, Replace, Negate, CompareExchange, Change, Keep, Set, Swap}
use Rattle.tso_terms.specs.declared.action.Update.TheVariants.{Combine}
use Rattle.possible_reads.specs.Expressions.{Expression, Constant, Returned, Combined, Negated, Exchanged, Written, held_in, operand_in}
use Rattle.possible_reads.specs.Expressions.{updated_by, changed_by, taken_by, written_by, registers_after_action, written_in}
use Rattle.possible_reads.specs.Expressions.{registers_at_end, first_registers, written_from, expression_among, expression_of}
use Rattle.possible_reads.specs.Expressions.{register_left}
use Rattle.refutation_laws.proofs.Building.{unwritten}
use Rattle.refutation_laws.proofs.Soundness.{itself}
use Rattle.refutation_laws.proofs.Tests.{pick, pass}

-- ---- what is among writes

-- a write of another place in its program, or of another core's, isn't looked for here
elsewhere : (x : Written) (rest : List Written) (y : Entry) → same_event x.write y ≡ false → expression_among (x ∷ rest) y ≡ expression_among rest y
elsewhere x rest y h = pass (same_event x.write y) x.value (expression_among rest y) h

here : (x : Written) (rest : List Written) (y : Entry) → same_event x.write y ≡ true → expression_among (x ∷ rest) y ≡ x.value
here x rest y h = pick (same_event x.write y) x.value (expression_among rest y) h

other-place : (core place : ℕ) (kind : Kind) (loc : Loc) (y : Entry) → place + 1 ≤ y.place → same_event (entry core place kind loc 0) y ≡ false
other-place core place kind loc y l = is-false _ (λ h.
    let m = and-both (is_at core place kind y) (loc.0 == y.loc.0) h in
    let n = and-both ((y.core.0 == core) && (y.place == place)) (same_kind y.kind kind) m.0 in
    let p = and-both (y.core.0 == core) (y.place == place) n.0 in
    let e : y.place ≡ place = same-number y.place place p.1 in
    omega (arith, l, e))

other-core : (core place : ℕ) (kind : Kind) (loc : Loc) (y : Entry) → (y.core.0 ≡ core → ⊥) → same_event (entry core place kind loc 0) y ≡ false
other-core core place kind loc y d = is-false _ (λ h.
    let m = and-both (is_at core place kind y) (loc.0 == y.loc.0) h in
    let n = and-both ((y.core.0 == core) && (y.place == place)) (same_kind y.kind kind) m.0 in
    d (same-number y.core.0 core (and-both (y.core.0 == core) (y.place == place) n.0).0))

pass-by : (core place : ℕ) (a : Action) (os : List Expression) (rest : List Written) (y : Entry)
    → ((kind : Kind) (loc : Loc) → same_event (entry core place kind loc 0) y ≡ false)
    → expression_among (written_by core place a os ++ rest) y ≡ expression_among rest y
pass-by core place (Store loc operand) os rest y h =
    elsewhere (record { write = entry core place W loc 0; value = operand_in os operand }) rest y (h W loc)
pass-by core place (Load reg loc) os rest y h = refl
pass-by core place (Move change) os rest y h = refl
pass-by core place Fence os rest y h = refl
pass-by core place (Lock loc reg update) os rest y h =
    elsewhere (record { write = entry core place LW loc 0; value = updated_by update os (Returned (entry core place LR loc 0)) }) rest y
    (h LW loc)

pass-core : (core place : ℕ) (p : List Instr) (os : List Expression) (rest : List Written) (y : Entry) → (y.core.0 ≡ core → ⊥)
    → expression_among (written_in core place p os ++ rest) y ≡ expression_among rest y
pass-core core place [] os rest y d = refl
pass-core core place (s ∷ p) os rest y d =
    ap (λ xs. expression_among xs y) (append_assoc (written_by core place (action_of s) os) later rest)
    ∙ (pass-by core place (action_of s) os (later ++ rest) y (λ kind loc. other-core core place kind loc y d)
    ∙ pass-core core (place + 1) p (registers_after_action core place (action_of s) os) rest y d)
  where
    later : List Written
    later = written_in core (place + 1) p (registers_after_action core place (action_of s) os)

same-among : (xs : List Written) (y : Entry) → expression_among xs y ≡ expression_among xs (bare y)
same-among [] y = refl
same-among (x ∷ xs) y = ap (λ e. if same_event x.write y then x.value else e) (same-among xs y)

pub same-expression : (t : Litmus) (y : Entry) → expression_of t y ≡ expression_of t (bare y)
same-expression t y = same-among (written_from 0 t.programs t.registers) y

-- ---- programs

-- it relates numbers to themselves, and what instructions make of what it relates
pub record Relates (Rel : Expression → ℕ → Type 0) : Type 0 where
  pub constant : (n : ℕ) → Rel (Constant n) n
  pub combine : (operator : Operator) (a b : Expression) (m n : ℕ) → Rel a m → Rel b n → Rel (Combined operator a b) (combined operator m n)
  pub negate : (a : Expression) (n : ℕ) → Rel a n → Rel (Negated a) (difference_of 0 n)
  pub exchange : (word eax new : Expression) (m e n : ℕ) → Rel word m → Rel eax e → Rel new n → Rel (Exchanged word eax new) (if m == e then n else m)

module _ (Rel : Expression → ℕ → Type 0) (related : Relates Rel) where
  abbrev Fits : List Expression → List ℕ → Type 0
  Fits [] [] = Unit {0}
  Fits [] (n ∷ ns) = ⊥
  Fits (o ∷ os) [] = ⊥
  Fits (o ∷ os) (n ∷ ns) = Rel o n × Fits os ns

  -- each read before y is related to what it returns
  abbrev Early : List Entry → Entry → Type 0
  Early es y = (x : Entry) → IsIn es x → is_read x ≡ true → is_before x y ≡ true → Rel (Returned (bare x)) x.value

  abbrev All : List Entry → Type 0
  All es = (x : Entry) → IsIn es x → is_read x ≡ true → Rel (Returned (bare x)) x.value

  fits-at : (os : List Expression) (ns : List ℕ) (i : ℕ) → Fits os ns → Rel (slice_index_or os i (Constant 0)) (slice_index ns i)
  fits-at [] [] i f = related.constant 0
  fits-at [] (n ∷ ns) i f = absurd f
  fits-at (o ∷ os) [] i f = absurd f
  fits-at (o ∷ os) (n ∷ ns) zero f = f.0
  fits-at (o ∷ os) (n ∷ ns) (suc i) f = fits-at os ns i f.1

  fits-set : (os : List Expression) (ns : List ℕ) (i : ℕ) (o : Expression) (n : ℕ) → Fits os ns → Rel o n → Fits (slice_set os i o) (slice_set ns i n)
  fits-set [] [] i o n f r = tt
  fits-set [] (m ∷ ns) i o n f r = absurd f
  fits-set (p ∷ os) [] i o n f r = absurd f
  fits-set (p ∷ os) (m ∷ ns) zero o n f r = (r, f.1)
  fits-set (p ∷ os) (m ∷ ns) (suc i) o n f r = (f.0, fits-set os ns i o n f.1 r)

  fits-first : (ns : List ℕ) → Fits (map (λ value. Constant value) ns) ns
  fits-first [] = tt
  fits-first (n ∷ ns) = (related.constant n, fits-first ns)

  fits-operand : (os : List Expression) (ns : List ℕ) (operand : Operand) → Fits os ns → Rel (operand_in os operand) (value_of ns operand)
  fits-operand os ns (Number value) f = related.constant value
  fits-operand os ns (Held reg) f = fits-at os ns (index_of reg) f

  fits-update : (u : Update) (os : List Expression) (ns : List ℕ) (word : Expression) (v : ℕ) → Fits os ns → Rel word v
      → Rel (updated_by u os word) (updated u ns v)
  fits-update (Replace operand) os ns word v f g = fits-operand os ns operand f
  fits-update (Combine operator operand) os ns word v f g =
      related.combine operator word (operand_in os operand) v (value_of ns operand) g (fits-operand os ns operand f)
  fits-update Negate os ns word v f g = related.negate word v g
  fits-update (CompareExchange reg) os ns word v f g =
      related.exchange word (held_in os Eax) (held_in os reg) v (value_in ns Eax) (value_in ns reg) g (fits-at os ns (index_of Eax) f)
      (fits-at os ns (index_of reg) f)

  fits-change : (change : Change) (os : List Expression) (ns : List ℕ) → Fits os ns → Fits (changed_by change os) (changed change ns)
  fits-change Keep os ns f = f
  fits-change (Set reg update) os ns f =
      fits-set os ns (index_of reg) _ _ f (fits-update update os ns (held_in os reg) (value_in ns reg) f (fits-at os ns (index_of reg) f))
  fits-change (Swap reg other) os ns f =
      fits-set (slice_set os (index_of reg) (held_in os other)) (slice_set ns (index_of reg) (value_in ns other)) (index_of other) _ _
      (fits-set os ns (index_of reg) _ _ f (fits-at os ns (index_of other) f)) (fits-at os ns (index_of reg) f)

  fits-taken : (target : Option Reg) (os : List Expression) (ns : List ℕ) (word : Expression) (v : ℕ) → Fits os ns → Rel word v
      → Fits (taken_by os target word) (with_taken ns target v)
  fits-taken None os ns word v f g = f
  fits-taken (Some reg) os ns word v f g = fits-set os ns (index_of reg) word v f g

  fits-after : (core place : ℕ) (a : Action) (os : List Expression) (ns : List ℕ) (v : ℕ) → Fits os ns → All (entries_by core place a ns v)
      → Fits (registers_after_action core place a os) (registers_by a ns v)
  fits-after core place (Store loc operand) os ns v f g = f
  fits-after core place (Load reg loc) os ns v f g = fits-set os ns (index_of reg) _ v f (g (entry core place R loc v) (0, refl) refl)
  fits-after core place (Move change) os ns v f g = fits-change change os ns f
  fits-after core place Fence os ns v f g = f
  fits-after core place (Lock loc target update) os ns v f g = fits-taken target os ns _ v f (g (entry core place LR loc v) (0, refl) refl)

  fits-end : (core place : ℕ) (p : List Instr) (os : List Expression) (ns values : List ℕ) → Fits os ns → All (entries_of core place p ns values)
      → Fits (registers_at_end core place p os) (registers_after p ns values)
  fits-end core place [] os ns values f g = f
  fits-end core place (s ∷ p) os ns values f g =
      fits-end core (place + 1) p (registers_after_action core place (action_of s) os) (registers_by (action_of s) ns (slice_index values 0))
      (values_after (action_of s) values)
      (fits-after core place (action_of s) os ns (slice_index values 0) f
      (λ x j r. g x (in-left (entries_by core place (action_of s) ns (slice_index values 0)) _ x j) r))
      (λ x j r. g x (in-right (entries_by core place (action_of s) ns (slice_index values 0)) _ x j) r)

  -- ---- a write

  found : (core place : ℕ) (kind : Kind) (loc : Loc) (value : Expression) (rest : List Written) (v : ℕ) (y : Entry) → y ≡ entry core place kind loc v
      → Rel value v → Rel (expression_among (record { write = entry core place kind loc 0; value = value } ∷ rest) y) y.value
  found core place kind loc value rest v y q h =
      subst (λ (z : Entry). Rel (expression_among (record { write = entry core place kind loc 0; value = value } ∷ rest) z) z.value) (sym q)
      (subst (λ e. Rel e v)
      (sym (here (record { write = entry core place kind loc 0; value = value }) rest (entry core place kind loc v) (itself (entry core place kind loc v)))) h)

  by-action : (core place : ℕ) (a : Action) (os : List Expression) (ns : List ℕ) (v : ℕ) (rest : List Written) (y : Entry) → Fits os ns
      → IsIn (entries_by core place a ns v) y → is_write y ≡ true → Early (entries_by core place a ns v) y
      → Rel (expression_among (written_by core place a os ++ rest) y) y.value
  by-action core place (Store loc operand) os ns v rest y f i w g =
      found core place W loc (operand_in os operand) rest (value_of ns operand) y (only (entry core place W loc (value_of ns operand)) y i)
      (fits-operand os ns operand f)
  by-action core place (Load reg loc) os ns v rest y f i w g =
      absurd (unwritten (entry core place R loc v) y (only (entry core place R loc v) y i) refl w)
  by-action core place (Move change) os ns v rest y f i w g = absurd (in-none y i)
  by-action core place Fence os ns v rest y f i w g = absurd (unwritten _ y (only _ y i) refl w)
  by-action core place (Lock loc reg update) os ns v rest y f i w g = elim (in-case first (second ∷ []) y i) [
    | inl q ↦ absurd (unwritten first y q refl w)
    | inr j ↦
        let q : y ≡ second = only second y j in
        let l : rank first < rank second = omega arith in
        let b : is_before first y ≡ true = subst (λ z. is_before first z ≡ true) (sym q) (rank-before first second refl l) in
        found core place LW loc (updated_by update os (Returned (entry core place LR loc 0))) rest (updated update ns v) y q
        (fits-update update os ns (Returned (entry core place LR loc 0)) v f (g first (0, refl) refl b))
  ]
    where
      first : Entry
      first = entry core place LR loc v

      second : Entry
      second = entry core place LW loc (updated update ns v)

  earlier-place : (x y : Entry) (place : ℕ) → x.core.0 ≡ y.core.0 → x.place ≡ place → place + 1 ≤ y.place → is_before x y ≡ true
  earlier-place x y place c e l = let s = part-small x.kind in rank-before x y c (omega (arith, e, l, s))

  by-program : (core place : ℕ) (p : List Instr) (os : List Expression) (ns values : List ℕ) (rest : List Written) (y : Entry) → Fits os ns
      → IsIn (entries_of core place p ns values) y → is_write y ≡ true → Early (entries_of core place p ns values) y
      → Rel (expression_among (written_in core place p os ++ rest) y) y.value
  by-program core place [] os ns values rest y f i w g = absurd (in-none y i)
  by-program core place (s ∷ p) os ns values rest y f i w g =
      subst (λ xs. Rel (expression_among xs y) y.value) (sym (append_assoc own later rest))
      (elim (in-append first entries y i) [
        | inl j ↦
            by-action core place (action_of s) os ns (slice_index values 0) (later ++ rest) y f j w (λ x k r b. g x (in-left first entries x k) r b)
        | inr j ↦
            let m = from-place core (place + 1) p (registers_by (action_of s) ns (slice_index values 0)) (values_after (action_of s) values) y j in
            subst (λ e. Rel e y.value) (sym (pass-by core place (action_of s) os (later ++ rest) y (λ kind loc. other-place core place kind loc y m.1)))
            (by-program core (place + 1) p (registers_after_action core place (action_of s) os) (registers_by (action_of s) ns (slice_index values 0))
            (values_after (action_of s) values) rest y
            (fits-after core place (action_of s) os ns (slice_index values 0) f (λ x k r. g x (in-left first entries x k) r (before x k j))) j w
            (λ x k r b. g x (in-right first entries x k) r b))
      ])
    where
      own : List Written
      own = written_by core place (action_of s) os

      later : List Written
      later = written_in core (place + 1) p (registers_after_action core place (action_of s) os)

      first : List Entry
      first = entries_by core place (action_of s) ns (slice_index values 0)

      entries : List Entry
      entries = entries_of core (place + 1) p (registers_by (action_of s) ns (slice_index values 0)) (values_after (action_of s) values)

      before : (x : Entry) → IsIn first x → IsIn entries y → is_before x y ≡ true
      before x j k =
          let h = here-by core place (action_of s) ns (slice_index values 0) x j in
          let m = from-place core (place + 1) p (registers_by (action_of s) ns (slice_index values 0)) (values_after (action_of s) values) y k in
          earlier-place x y place (h.0 ∙ sym m.0) h.1 m.1

  in-core : (core : ℕ) (ps : List (List Instr)) (registers reads : List (List ℕ)) (y : Entry) → IsIn (events_from core ps registers reads) y
      → core ≤ y.core.0
  in-core core [] registers reads y i = absurd (in-none y i)
  in-core core (p ∷ ps) registers reads y i = elim (in-append (entries_of core 0 p (slice_index_or registers core []) (slice_index_or reads core [])) _ y i) [
    | inl j ↦ let m = (from-place core 0 p (slice_index_or registers core []) (slice_index_or reads core []) y j).0 in omega (arith, m)
    | inr j ↦ let l = in-core (core + 1) ps registers reads y j in omega (arith, l)
  ]

  by-programs : (core : ℕ) (ps : List (List Instr)) (registers reads : List (List ℕ)) (y : Entry) → IsIn (events_from core ps registers reads) y
      → is_write y ≡ true → Early (events_from core ps registers reads) y → Rel (expression_among (written_from core ps registers) y) y.value
  by-programs core [] registers reads y i w g = absurd (in-none y i)
  by-programs core (p ∷ ps) registers reads y i w g = elim (in-append first rest y i) [
    | inl j ↦
        by-program core 0 p (first_registers registers core) (slice_index_or registers core []) (slice_index_or reads core [])
        (written_from (core + 1) ps registers) y (fits-first (slice_index_or registers core [])) j w (λ x k r b. g x (in-left first rest x k) r b)
    | inr j ↦
        let l = in-core (core + 1) ps registers reads y j in
        subst (λ e. Rel e y.value)
        (sym (pass-core core 0 p (first_registers registers core) (written_from (core + 1) ps registers) y (λ e. omega (arith, l, e))))
        (by-programs (core + 1) ps registers reads y j w (λ x k r b. g x (in-right first rest x k) r b))
  ]
    where
      first : List Entry
      first = entries_of core 0 p (slice_index_or registers core []) (slice_index_or reads core [])

      rest : List Entry
      rest = events_from (core + 1) ps registers reads

  pub related-write : (t : Litmus) (reads : List (List ℕ)) (y : Entry) → IsIn (events_from 0 t.programs t.registers reads) y → is_write y ≡ true
      → ((x : Entry) → IsIn (events_from 0 t.programs t.registers reads) x → is_read x ≡ true → is_before x y ≡ true
      → Rel (Returned (bare x)) x.value) → Rel (expression_of t (bare y)) y.value
  related-write t reads y i w g =
      subst (λ e. Rel e y.value) (same-expression t y) (by-programs 0 t.programs t.registers reads y i w g)

  -- ---- a register at the end

  left-at : (core : ℕ) (ps : List (List Instr)) (registers reads : List (List ℕ)) (i n : ℕ) → n ≡ core + i → i < length ps
      → All (events_from core ps registers reads)
      → Fits (registers_at_end n 0 (slice_index_or ps i []) (first_registers registers n))
      (slice_index_or (registers_left_from core ps registers reads) i [])
  left-at core [] registers reads i n e l g = absurd (omega arith)
  left-at core (p ∷ ps) registers reads zero n e l g =
      let q : core ≡ n = omega (arith, e) in
      subst (λ m. Fits (registers_at_end m 0 p (first_registers registers m))
      (registers_after p (slice_index_or registers core []) (slice_index_or reads core []))) q
      (fits-end core 0 p (first_registers registers core) (slice_index_or registers core []) (slice_index_or reads core [])
      (fits-first (slice_index_or registers core []))
      (λ x i r. g x (in-left (entries_of core 0 p (slice_index_or registers core []) (slice_index_or reads core [])) _ x i) r))
  left-at core (p ∷ ps) registers reads (suc i) n e l g =
      left-at (core + 1) ps registers reads i n (omega (arith, e)) (omega (arith, l))
      (λ x j r. g x (in-right (entries_of core 0 p (slice_index_or registers core []) (slice_index_or reads core [])) _ x j) r)

  pub related-register : (t : Litmus) (reads : List (List ℕ)) (core : ℕ) (reg : Reg) → core < length t.programs
      → ((x : Entry) → IsIn (events_from 0 t.programs t.registers reads) x → is_read x ≡ true → Rel (Returned (bare x)) x.value)
      → Rel (register_left t core reg) (value_in (slice_index_or (registers_left_from 0 t.programs t.registers reads) core []) reg)
  related-register t reads core reg l g =
      fits-at _ _ (index_of reg) (left-at 0 t.programs t.registers reads core core (omega arith) l g)
