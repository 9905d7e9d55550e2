-- The events of a test are those of each of its candidates, without their values.
use Rattle.refutation_laws.proofs.Vocabulary.{◌≡◌, ℕ, ◌+◌, ◌==◌, true, List, [], ◌∷◌, ◌++◌, slice_index, slice_index_or, refl, sym, ap, ◌∙◌}
use Rattle.refutation_laws.proofs.Vocabulary.{inl, inr, subst, map, Litmus, action_of, entry, entries_by, registers_by, values_after}
use Rattle.refutation_laws.proofs.Vocabulary.{entries_of, same_kind, is_at, Instr, Action, Store, Load, Move, Fence, Lock, Entry, part_of}
use Rattle.refutation_laws.proofs.Vocabulary.{IsIn, Candidate, events_from, events, in-case, in-none, in-first, in-later, equal-kinds}
use Rattle.refutation_laws.proofs.Vocabulary.{apart-three, and-both, same-number, Sound, bare, events_of, same_event, is_event, Stands}
use Rattle.refutation_laws.proofs.Vocabulary.{map-append}
use Rattle.refutation_laws.proofs.Tests.{any-holds}

-- ---- one event

bare-eq : (x y : Entry) → x.core.0 ≡ y.core.0 → x.place ≡ y.place → x.kind ≡ y.kind → x.loc.0 ≡ y.loc.0 → bare x ≡ bare y
bare-eq x y a b d e =
    ap (λ n. entry n x.place x.kind x.loc 0) a
    ∙ (ap (λ n. entry y.core.0 n x.kind x.loc 0) b
    ∙ (ap (λ k. entry y.core.0 y.place k x.loc 0) d
    ∙ ap (λ l. entry y.core.0 y.place y.kind (record { 0 = l }) 0) e))

pub same-bare : (x y : Entry) → same_event x y ≡ true → bare x ≡ bare y
same-bare x y h =
    let a = and-both (is_at x.core.0 x.place x.kind y) (x.loc.0 == y.loc.0) h in
    let b = apart-three (y.core.0 == x.core.0) (y.place == x.place) (same_kind y.kind x.kind) a.0 in
    bare-eq x y (sym (same-number y.core.0 x.core.0 b.0)) (sym (same-number y.place x.place b.1)) (sym (equal-kinds y.kind x.kind b.2))
    (same-number x.loc.0 y.loc.0 a.1)

-- ---- the same events, whatever the reads return

by-action : (core place : ℕ) (a : Action) (r s : List ℕ) (v w : ℕ)
    → map bare (entries_by core place a r v) ≡ map bare (entries_by core place a s w)
by-action core place (Store loc operand) r s v w = refl
by-action core place (Load reg loc) r s v w = refl
by-action core place (Move change) r s v w = refl
by-action core place Fence r s v w = refl
by-action core place (Lock loc reg update) r s v w = refl

appended : (xs ys us vs : List Entry) → map bare xs ≡ map bare us → map bare ys ≡ map bare vs → map bare (xs ++ ys) ≡ map bare (us ++ vs)
appended xs ys us vs p q =
    map-append bare xs ys ∙ (ap (λ zs. zs ++ map bare ys) p ∙ (ap (λ zs. map bare us ++ zs) q ∙ sym (map-append bare us vs)))

pub by-program : (core place : ℕ) (p : List Instr) (r s values others : List ℕ)
    → map bare (entries_of core place p r values) ≡ map bare (entries_of core place p s others)
by-program core place [] r s values others = refl
by-program core place (i ∷ p) r s values others =
    appended (entries_by core place (action_of i) r (slice_index values 0)) _
    (entries_by core place (action_of i) s (slice_index others 0)) _
    (by-action core place (action_of i) r s (slice_index values 0) (slice_index others 0))
    (by-program core (place + 1) p (registers_by (action_of i) r (slice_index values 0))
    (registers_by (action_of i) s (slice_index others 0))
    (values_after (action_of i) values) (values_after (action_of i) others))

by-programs : (core : ℕ) (ps : List (List Instr)) (registers reads others : List (List ℕ))
    → map bare (events_from core ps registers reads) ≡ map bare (events_from core ps registers others)
by-programs core [] registers reads others = refl
by-programs core (p ∷ ps) registers reads others =
    appended (entries_of core 0 p (slice_index_or registers core []) (slice_index_or reads core [])) _
    (entries_of core 0 p (slice_index_or registers core []) (slice_index_or others core [])) _
    (by-program core 0 p (slice_index_or registers core []) (slice_index_or registers core []) (slice_index_or reads core [])
    (slice_index_or others core []))
    (by-programs (core + 1) ps registers reads others)

pub bare-events : (t : Litmus) (c : Candidate) → map bare (events t c) ≡ events_of t
bare-events t c = by-programs 0 t.programs t.registers c.reads []

-- ---- where an event stands

pub in-map : (f : Entry → Entry) (xs : List Entry) (x : Entry) → IsIn xs x → IsIn (map f xs) (f x)
in-map f [] x i = absurd (in-none x i)
in-map f (y ∷ ys) x i = elim (in-case y ys x i) [
  | inl e ↦ in-first (f y) (map f ys) (f x) (ap f e)
  | inr j ↦ in-later (f y) (map f ys) (f x) (in-map f ys x j)
]

pub record Of (xs : List Entry) (e : Entry) : Type 0 where
  pub entry : Entry
  pub inside : IsIn xs entry
  pub same : e ≡ bare entry

pub of-map : (xs : List Entry) (e : Entry) → IsIn (map bare xs) e → Of xs e
of-map [] e i = absurd (in-none e i)
of-map (x ∷ xs) e i = elim (in-case (bare x) (map bare xs) e i) [
  | inl q ↦ record { entry = x; inside = in-first x xs x refl; same = q }
  | inr j ↦ let o = of-map xs e j in record { entry = o.entry; inside = in-later x xs o.entry o.inside; same = o.same }
]

-- an entry of a candidate is of an event of the test
pub event-in : (t : Litmus) (c : Candidate) (x : Entry) → IsIn (events t c) x → IsIn (events_of t) (bare x)
event-in t c x i = subst (λ es. IsIn es (bare x)) (bare-events t c) (in-map bare (events t c) x i)

pub of-event : (t : Litmus) (c : Candidate) (e : Entry) → IsIn (events_of t) e → Of (events t c) e
of-event t c e i = of-map (events t c) e (subst (λ es. IsIn es e) (sym (bare-events t c)) i)

pub record Standing (t : Litmus) (c : Candidate) (e : Entry) : Type 0 where
  pub entry : Entry
  pub stands : Stands t c e entry

pub standing : (t : Litmus) (c : Candidate) (e : Entry) → is_event t e ≡ true → Standing t c e
standing t c e h =
    let k = any-holds (same_event e) (events_of t) h in
    let o = of-event t c k.entry k.inside in
    record { entry = o.entry; stands = record { inside = o.inside; same = same-bare e k.entry k.holds ∙ ap bare o.same } }

pub one-entry : (t : Litmus) (c : Candidate) → Sound t c → (x y : Entry) → IsIn (events t c) x → IsIn (events t c) y → bare x ≡ bare y
    → x ≡ y
one-entry t c k x y i j h =
    k.same x y i j (ap (λ (z : Entry). z.core.0) h) (ap (λ (z : Entry). z.place) h) (ap (λ (z : Entry). part_of z.kind) h)

pub one-stands : (t : Litmus) (c : Candidate) → Sound t c → (e x y : Entry) → Stands t c e x → Stands t c e y → x ≡ y
one-stands t c k e x y a b = one-entry t c k x y a.inside b.inside (sym a.same ∙ b.same)
