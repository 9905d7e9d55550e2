-- Values that are known are those of each candidate that agrees.
use Rattle.std.specs.Prelude.{◌==◌}
use Rattle.tso_terms.specs.Thread.{with_taken, changed, combined, difference_of}
use Rattle.refutation_laws.specs.Values.{known_changed, known_combined, known_negated, known_exchanged, known_taken}
use Rattle.basic_laws.specs.Types.{Eax, Operator, Replace, Negate, CompareExchange, Change, Keep, Set, Swap}
use Rattle.tso_terms.specs.declared.action.Update.TheVariants.{Combine}
use Rattle.refutation_laws.proofs.Vocabulary.{◌≡◌, ℕ, zero, suc, ◌+◌, Bool, true, false, if◌then◌else◌, List, [], ◌∷◌, ◌++◌, Option, Some}
use Rattle.refutation_laws.proofs.Vocabulary.{None, slice_index, slice_index_or, refl, sym, ap, ◌∙◌, ◌⊎◌, inl, inr, subst, map, slice_set}
use Rattle.refutation_laws.proofs.Vocabulary.{Litmus, index_of, action_of, entry, value_in, value_of, updated, entries_by, registers_by}
use Rattle.refutation_laws.proofs.Vocabulary.{values_after, entries_of, registers_after, is_read, Reg, Loc, Instr, Operand, Number, Held}
use Rattle.refutation_laws.proofs.Vocabulary.{Update, Action, Store, Load, Move, Fence, Lock, Entry, Kind, R, W, LR, LW, IsIn, Candidate}
use Rattle.refutation_laws.proofs.Vocabulary.{Returns, events_from, events, in-none, in-first, in-later, in-append, in-left, in-right, only}
use Rattle.refutation_laws.proofs.Vocabulary.{Sound, Known, bare, same_event, Source, known_in, known_operand, known_update, write_with}
use Rattle.refutation_laws.proofs.Vocabulary.{word_given, writes_by, registers_left_by, writes_of, left_of, known_first_registers}
use Rattle.refutation_laws.proofs.Vocabulary.{writes_from, value_among, returned_from, returned, known_writes, Stands, IsSameSource}
use Rattle.refutation_laws.proofs.Vocabulary.{HasSources, Agrees}
use Rattle.refutation_laws.proofs.Standing.{same-bare, one-entry}

-- ---- registers

-- what is known of this number is right
abbrev pub Tells : Option ℕ → ℕ → Type 0
Tells None n = Unit {0}
Tells (Some v) n = v ≡ n

abbrev pub Fits : List (Option ℕ) → List ℕ → Type 0
Fits [] [] = Unit {0}
Fits [] (n ∷ ns) = ⊥
Fits (o ∷ os) [] = ⊥
Fits (o ∷ os) (n ∷ ns) = Tells o n × Fits os ns

fits-at : (os : List (Option ℕ)) (ns : List ℕ) (i : ℕ) → Fits os ns → Tells (slice_index_or os i None) (slice_index ns i)
fits-at [] [] i f = tt
fits-at [] (n ∷ ns) i f = absurd f
fits-at (o ∷ os) [] i f = absurd f
fits-at (o ∷ os) (n ∷ ns) zero f = f.0
fits-at (o ∷ os) (n ∷ ns) (suc i) f = fits-at os ns i f.1

fits-set : (os : List (Option ℕ)) (ns : List ℕ) (i : ℕ) (o : Option ℕ) (n : ℕ) → Fits os ns → Tells o n
    → Fits (slice_set os i o) (slice_set ns i n)
fits-set [] [] i o n f t = tt
fits-set [] (m ∷ ns) i o n f t = absurd f
fits-set (p ∷ os) [] i o n f t = absurd f
fits-set (p ∷ os) (m ∷ ns) zero o n f t = (t, f.1)
fits-set (p ∷ os) (m ∷ ns) (suc i) o n f t = (f.0, fits-set os ns i o n f.1 t)

pub fits-first : (ns : List ℕ) → Fits (map (λ v. Some v) ns) ns
fits-first [] = tt
fits-first (n ∷ ns) = (refl, fits-first ns)

pub tells-in : (os : List (Option ℕ)) (ns : List ℕ) (reg : Reg) → Fits os ns → Tells (known_in os reg) (value_in ns reg)
tells-in os ns reg f = fits-at os ns (index_of reg) f

tells-operand : (os : List (Option ℕ)) (ns : List ℕ) (operand : Operand) → Fits os ns → Tells (known_operand os operand) (value_of ns operand)
tells-operand os ns (Number value) f = refl
tells-operand os ns (Held reg) f = tells-in os ns reg f

tells-combined : (o : Operator) (w v : Option ℕ) (word value : ℕ) → Tells w word → Tells v value → Tells (known_combined o w v) (combined o word value)
tells-combined o None v word value a b = tt
tells-combined o (Some x) None word value a b = tt
tells-combined o (Some x) (Some y) word value a b = ap (λ n. combined o n y) a ∙ ap (λ n. combined o word n) b

tells-negated : (w : Option ℕ) (word : ℕ) → Tells w word → Tells (known_negated w) (difference_of 0 word)
tells-negated None word a = tt
tells-negated (Some x) word a = ap (λ n. difference_of 0 n) a

tells-exchanged : (w e v : Option ℕ) (word eax value : ℕ) → Tells w word → Tells e eax → Tells v value
    → Tells (known_exchanged w e v) (if word == eax then value else word)
tells-exchanged None e v word eax value a b c = tt
tells-exchanged (Some x) None v word eax value a b c = tt
tells-exchanged (Some x) (Some y) v word eax value a b c = rw (a, b) (go (word == eax))
  where
    go : (d : Bool) → Tells (if d then v else Some word) (if d then value else word)
    go true = c
    go false = refl

tells-update : (u : Update) (os : List (Option ℕ)) (ns : List ℕ) (w : Option ℕ) (word : ℕ)
    → Fits os ns
    → Tells w word
    → Tells (known_update u os w) (updated u ns word)
tells-update (Replace operand) os ns w word f a = tells-operand os ns operand f
tells-update (Combine operator operand) os ns w word f a =
    tells-combined operator w (known_operand os operand) word (value_of ns operand) a (tells-operand os ns operand f)
tells-update Negate os ns w word f a = tells-negated w word a
tells-update (CompareExchange reg) os ns w word f a =
    tells-exchanged w (known_in os Eax) (known_in os reg) word (value_in ns Eax) (value_in ns reg) a (tells-in os ns Eax f) (tells-in os ns reg f)

fits-taken : (os : List (Option ℕ)) (ns : List ℕ) (target : Option Reg) (o : Option ℕ) (n : ℕ)
    → Fits os ns
    → Tells o n
    → Fits (known_taken os target o) (with_taken ns target n)
fits-taken os ns None o n f t = f
fits-taken os ns (Some reg) o n f t = fits-set os ns (index_of reg) o n f t

fits-changed : (change : Change) (os : List (Option ℕ)) (ns : List ℕ) → Fits os ns → Fits (known_changed change os) (changed change ns)
fits-changed Keep os ns f = f
fits-changed (Set reg update) os ns f =
    fits-set os ns (index_of reg) _ (updated update ns (value_in ns reg)) f
    (tells-update update os ns (known_in os reg) (value_in ns reg) f (tells-in os ns reg f))
fits-changed (Swap reg other) os ns f =
    fits-set (slice_set os (index_of reg) (known_in os other)) (slice_set ns (index_of reg) (value_in ns other))
    (index_of other) (known_in os reg) (value_in ns reg)
    (fits-set os ns (index_of reg) (known_in os other) (value_in ns other) f (tells-in os ns other f)) (tells-in os ns reg f)

-- ---- programs

-- what is given of each of these reads is right
abbrev pub Given : (Entry → Option ℕ) → List Entry → Type 0
Given given es = (x : Entry) → IsIn es x → is_read x ≡ true → Tells (given (bare x)) x.value

left-by : (given : Entry → Option ℕ) (core place : ℕ) (a : Action) (os : List (Option ℕ)) (ns : List ℕ) (v : ℕ) → Fits os ns
    → Given given (entries_by core place a ns v) → Fits (registers_left_by a os (word_given given core place a)) (registers_by a ns v)
left-by given core place (Store loc operand) os ns v f g = f
left-by given core place (Load reg loc) os ns v f g =
    fits-set os ns (index_of reg) _ v f (g (entry core place R loc v) (0, refl) refl)
left-by given core place (Move change) os ns v f g = fits-changed change os ns f
left-by given core place Fence os ns v f g = f
left-by given core place (Lock loc reg update) os ns v f g =
    fits-taken os ns reg _ v f (g (entry core place LR loc v) (0, refl) refl)

pub left-fits : (given : Entry → Option ℕ) (core place : ℕ) (p : List Instr) (os : List (Option ℕ)) (ns values : List ℕ) → Fits os ns
    → Given given (entries_of core place p ns values) → Fits (left_of given core place p os) (registers_after p ns values)
left-fits given core place [] os ns values f g = f
left-fits given core place (i ∷ p) os ns values f g =
    left-fits given core (place + 1) p _ (registers_by (action_of i) ns (slice_index values 0)) (values_after (action_of i) values)
    (left-by given core place (action_of i) os ns (slice_index values 0) f
    (λ x j r. g x (in-left (entries_by core place (action_of i) ns (slice_index values 0)) _ x j) r))
    (λ x j r. g x (in-right (entries_by core place (action_of i) ns (slice_index values 0)) _ x j) r)

-- a write whose value is known
with-value : (core place : ℕ) (kind : Kind) (loc : Loc) (o : Option ℕ) (v : ℕ) → Tells o v → (x : Entry)
    → IsIn (write_with core place kind loc o) x → x ≡ entry core place kind loc v
with-value core place kind loc None v t x i = absurd (in-none x i)
with-value core place kind loc (Some w) v t x i = only (entry core place kind loc w) x i ∙ ap (λ n. entry core place kind loc n) t

write-by : (given : Entry → Option ℕ) (core place : ℕ) (a : Action) (os : List (Option ℕ)) (ns : List ℕ) (v : ℕ) → Fits os ns
    → Given given (entries_by core place a ns v) → (x : Entry) → IsIn (writes_by core place a os (word_given given core place a)) x
    → IsIn (entries_by core place a ns v) x
write-by given core place (Store loc operand) os ns v f g x i =
    in-first (entry core place W loc (value_of ns operand)) [] x
    (with-value core place W loc (known_operand os operand) (value_of ns operand) (tells-operand os ns operand f) x i)
write-by given core place (Load reg loc) os ns v f g x i = absurd (in-none x i)
write-by given core place (Move change) os ns v f g x i = absurd (in-none x i)
write-by given core place Fence os ns v f g x i = absurd (in-none x i)
write-by given core place (Lock loc reg update) os ns v f g x i =
    in-later (entry core place LR loc v) (entry core place LW loc (updated update ns v) ∷ []) x
    (in-first (entry core place LW loc (updated update ns v)) [] x
    (with-value core place LW loc (known_update update os (given (entry core place LR loc 0)))
    (updated update ns v)
    (tells-update update os ns (given (entry core place LR loc 0)) v f
    (g (entry core place LR loc v) (0, refl) refl)) x i))

writes-in : (given : Entry → Option ℕ) (core place : ℕ) (p : List Instr) (os : List (Option ℕ)) (ns values : List ℕ) → Fits os ns
    → Given given (entries_of core place p ns values) → (x : Entry) → IsIn (writes_of given core place p os) x
    → IsIn (entries_of core place p ns values) x
writes-in given core place [] os ns values f g x i = absurd (in-none x i)
writes-in given core place (s ∷ p) os ns values f g x i =
    go (in-append (writes_by core place (action_of s) os (word_given given core place (action_of s))) _ x i)
    (λ j. writes-in given core (place + 1) p (registers_left_by (action_of s) os (word_given given core place (action_of s)))
    (registers_by (action_of s) ns (slice_index values 0)) (values_after (action_of s) values)
    (left-by given core place (action_of s) os ns (slice_index values 0) f (λ y k r. g y (in-left first rest y k) r))
    (λ y k r. g y (in-right first rest y k) r) x j)
  where
    first : List Entry
    first = entries_by core place (action_of s) ns (slice_index values 0)

    rest : List Entry
    rest = entries_of core (place + 1) p (registers_by (action_of s) ns (slice_index values 0)) (values_after (action_of s) values)

    later : List Entry
    later = writes_of given core (place + 1) p (registers_left_by (action_of s) os (word_given given core place (action_of s)))

    go : IsIn (writes_by core place (action_of s) os (word_given given core place (action_of s))) x ⊎ IsIn later x
        → (IsIn later x → IsIn rest x) → IsIn (first ++ rest) x
    go (inl j) more =
        in-left first rest x
        (write-by given core place (action_of s) os ns (slice_index values 0) f (λ y k r. g y (in-left first rest y k) r) x j)
    go (inr j) more = in-right first rest x (more j)

pub all-writes-in : (given : Entry → Option ℕ) (core : ℕ) (ps : List (List Instr)) (registers reads : List (List ℕ))
    → Given given (events_from core ps registers reads) → (x : Entry) → IsIn (writes_from given core ps registers) x
    → IsIn (events_from core ps registers reads) x
all-writes-in given core [] registers reads g x i = absurd (in-none x i)
all-writes-in given core (p ∷ ps) registers reads g x i = elim (in-append (writes_of given core 0 p (known_first_registers registers core)) _ x i) [
  | inl j ↦
      in-left first rest x
      (writes-in given core 0 p (known_first_registers registers core) (slice_index_or registers core []) (slice_index_or reads core [])
      (fits-first (slice_index_or registers core [])) (λ y k r. g y (in-left first rest y k) r) x j)
  | inr j ↦ in-right first rest x (all-writes-in given (core + 1) ps registers reads (λ y k r. g y (in-right first rest y k) r) x j)
]
  where
    first : List Entry
    first = entries_of core 0 p (slice_index_or registers core []) (slice_index_or reads core [])

    rest : List Entry
    rest = events_from (core + 1) ps registers reads

-- ---- reads

module _ (t : Litmus) (c : Candidate) (d : Sound t c) where
  pub tells-among : (ws : List Entry) → ((x : Entry) → IsIn ws x → IsIn (events t c) x) → (w z : Entry) → Stands t c w z
      → Tells (value_among ws w) z.value
  tells-among [] f w z s = tt
  tells-among (x ∷ xs) f w z s = go (same_event x w) refl (tells-among xs (λ y i. f y (in-later x xs y i)) w z s)
    where
      go : (b : Bool) → same_event x w ≡ b → Tells (value_among xs w) z.value → Tells (if b then Some x.value else value_among xs w) z.value
      go true h more =
          ap (λ (y : Entry). y.value) (one-entry t c d x z (f x (in-first x xs x refl)) s.inside (same-bare x w h ∙ s.same))
      go false h more = more

  from-source : (ws : List Entry) → ((x : Entry) → IsIn ws x → IsIn (events t c) x) → (r : Entry) (o s : Option Entry) → IsSameSource o s
      → Returns t c r s → Tells (returned_from t ws (bare r) o) r.value
  from-source ws f r None None i h = sym h
  from-source ws f r None (Some z) i h = absurd i
  from-source ws f r (Some w) None i h = absurd i
  from-source ws f r (Some w) (Some z) i h =
      subst (Tells (value_among ws w)) (sym h.2) (tells-among ws f w z (record { inside = h.0; same = i }))

  tells-returned : (ws : List Entry) → ((x : Entry) → IsIn ws x → IsIn (events t c) x) → (ss : List Source) → HasSources t c ss
      → Given (returned t ws ss) (events t c)
  tells-returned ws f [] h r i read = tt
  tells-returned ws f (s ∷ ss) h r i read = go (same_event s.read (bare r)) refl (tells-returned ws f ss h.1 r i read)
    where
      go : (b : Bool) → same_event s.read (bare r) ≡ b → Tells (returned t ws ss (bare r)) r.value
          → Tells (if b then returned_from t ws (bare r) s.write else returned t ws ss (bare r)) r.value
      go true q more =
          from-source ws f r s.write (c.source r) (h.0 r (record { inside = i; same = same-bare s.read (bare r) q })).1
          (d.candidate.reads r i read)
      go false q more = more

  pub known-in : (k : Known) → Agrees t c k → (n : ℕ) (x : Entry) → IsIn (known_writes t k n) x → IsIn (events t c) x
  known-in k h zero x i = absurd (in-none x i)
  known-in k h (suc n) x i =
      all-writes-in (returned t (known_writes t k n) k.sources) 0 t.programs t.registers c.reads
      (tells-returned (known_writes t k n) (λ y j. known-in k h n y j) k.sources h.sources) x i

  pub given-known : (k : Known) → Agrees t c k → (n : ℕ) → Given (returned t (known_writes t k n) k.sources) (events t c)
  given-known k h n = tells-returned (known_writes t k n) (λ y j. known-in k h n y j) k.sources h.sources
