-- What is due to a read, by the write that its own program has before it.
use Rattle.order_breaches.proofs.Vocabulary.{◌≡◌, ◌<◌, ◌≤◌, ℕ, ◌+◌, suc, zero, List, [], ◌∷◌, Option, Some, None, slice_get, slice_index}
use Rattle.order_breaches.proofs.Vocabulary.{take, drop, filter, Bool, true, false, not, ◌==◌, cond, if◌then◌else◌, arith, ap, sym, ◌∙◌}
use Rattle.order_breaches.proofs.Vocabulary.{inl, inr, subst, refl, cases_order, eq-eqb, eqb-true, and_from, and_parts, not-true, and_right}
use Rattle.order_breaches.proofs.Vocabulary.{not_from_false, leb_tells, Litmus, is_before, may_be_passed, is_read, is_load, is_store}
use Rattle.order_breaches.proofs.Vocabulary.{is_write, writes_to, rank, is_load_kind, is_read_kind, is_write_kind, made, IsWhole}
use Rattle.order_breaches.proofs.Vocabulary.{KeepsProgramOrder, last_value, Entry, Kind, due_at, IsLastOwn, IsSource, due_from}
use Rattle.order_breaches.proofs.Firsts.{some-is, at-place}
use Rattle.order_breaches.proofs.OwnReads.{made-read}
use Rattle.order_breaches.proofs.Actions.{SameAction, one-place}
use Rattle.order_breaches.proofs.Whole.{whole-clean, in-made, none-twice}
use Rattle.order_breaches.proofs.Made.{one-at, made-ascends, made-once}
use Rattle.order_breaches.proofs.Finds.{last_counting}
use Rattle.order_breaches.proofs.Marking.{IsMark, past_loads}
use Rattle.order_breaches.proofs.Sooner.{Before, before-from, before-parts}

-- what is due to a read: its source's value where that hasn't come, else the word
skips : (b c : Bool) (x : Entry) (q : Entry → Bool) (rest : List Entry)
    → q x ≡ c
    → (b ≡ true → c ≡ true → ⊥)
    → filter q rest ≡ []
    → filter q (cond b (x ∷ rest) rest) ≡ []
skips false c x q rest e n h = h
skips true true x q rest e n h = absurd (n refl refl)
skips true false x q rest e n h = ap (λ z. cond z (x ∷ filter q rest) (filter q rest)) e ∙ h

none-kept : (p q : Entry → Bool) (list : List Entry)
    → ((k : ℕ) (e : Entry) → slice_get list k ≡ Some e → p e ≡ true → q e ≡ true → ⊥)
    → filter q (filter p list) ≡ []
none-kept p q [] h = refl
none-kept p q (x ∷ xs) h = skips (p x) (q x) x q (filter p xs) refl (λ a b. h 0 x refl a b) (none-kept p q xs (λ k y f. h (suc k) y f))

passes : (b c : Bool) (x : Entry) (q : Entry → Bool) (rest : List Entry) (w v : ℕ)
    → q x ≡ c
    → ((u : ℕ) → last_value (filter q rest) u ≡ v)
    → last_value (filter q (cond b (x ∷ rest) rest)) w ≡ v
passes false c x q rest w v e h = h w
passes true true x q rest w v e h = ap (λ z. last_value (cond z (x ∷ filter q rest) (filter q rest)) w) e ∙ h x.value
passes true false x q rest w v e h = ap (λ z. last_value (cond z (x ∷ filter q rest) (filter q rest)) w) e ∙ h w

last-kept : (p q : Entry → Bool) (list : List Entry) (j : ℕ) (s : Entry) (w : ℕ) → slice_get list j ≡ Some s → p s ≡ true → q s ≡ true
    → ((k : ℕ) (e : Entry) → j < k → slice_get list k ≡ Some e → p e ≡ true → q e ≡ true → ⊥) → last_value (filter q (filter p list)) w ≡ s.value
last-kept p q [] j s w here ps qs h = absurd (let z : ⊥ = cc in z)
last-kept p q (x ∷ xs) zero s w here ps qs h =
    let same : x ≡ s = some-is x s here in
    let px : p x ≡ true = ap p same ∙ ps in
    let qx : q x ≡ true = ap q same ∙ qs in
    let none : filter q (filter p xs) ≡ [] = none-kept p q xs (λ k e f. h (suc k) e (omega arith) f) in
    ap (λ b. last_value (filter q (cond b (x ∷ filter p xs) (filter p xs))) w) px
    ∙ ap (λ b. last_value (cond b (x ∷ filter q (filter p xs)) (filter q (filter p xs))) w) qx
    ∙ ap (λ es. last_value es x.value) none ∙ ap (λ e. e.value) same
last-kept p q (x ∷ xs) (suc j) s w here ps qs h =
    passes (p x) (q x) x q (filter p xs) w s.value refl (λ v. last-kept p q xs j s v here ps qs (λ k e l f. h (suc k) e (omega arith) f))

-- places after a place
after-by : (list : List Entry) (n j m : ℕ) (e : Entry) → m ≡ n + j → slice_get (drop n list) j ≡ Some e → slice_get list m ≡ Some e
after-by [] zero j m e q h = absurd (let z : ⊥ = cc in z)
after-by [] (suc n) j m e q h = absurd (let z : ⊥ = cc in z)
after-by (x ∷ xs) zero j m e q h = ap (λ i. slice_get (x ∷ xs) i) (let r : m ≡ j = omega arith in r) ∙ h
after-by (x ∷ xs) (suc n) j zero e q h = absurd (omega arith)
after-by (x ∷ xs) (suc n) j (suc m) e q h = after-by xs n j m e (omega arith) h

after-at : (list : List Entry) (n j : ℕ) (e : Entry) → slice_get (drop n list) j ≡ Some e → slice_get list (n + j) ≡ Some e
after-at list n j e h = after-by list n j (n + j) e refl h

at-after : (list : List Entry) (n k : ℕ) (e : Entry) → n ≤ k → slice_get list k ≡ Some e → (j : ℕ) × (slice_get (drop n list) j ≡ Some e) × (n + j ≡ k)
at-after [] n k e l h = absurd (let z : ⊥ = cc in z)
at-after (x ∷ xs) zero k e l h = (k, h, omega arith)
at-after (x ∷ xs) (suc n) zero e l h = absurd (omega arith)
at-after (x ∷ xs) (suc n) (suc k) e l h = let r = at-after xs n k e (omega arith) h in let q = r.2 in (r.0, r.1, omega arith)

write-is-no-load : (k : Kind) → is_write_kind k ≡ true → is_load_kind k ≡ false
write-is-no-load k h = grind arith

write-is-no-read : (k : Kind) → is_write_kind k ≡ true → is_read_kind k ≡ true → ⊥
write-is-no-read k h r = grind arith

not-passed : (x y : Entry) → is_load y ≡ false → may_be_passed x y ≡ false
not-passed x y h = and_right (is_store x) (is_load y) h

-- a read in an order that is whole and keeps program order
module _ (t : Litmus) (order : List Entry) (at : ℕ) (x : Entry) (here : slice_get order at ≡ Some x)
    (read : is_read x ≡ true) (whole : IsWhole t order) (keeps : KeepsProgramOrder order) where
  own-made : (k : ℕ) (e : Entry) → slice_get order k ≡ Some e → (j : ℕ) × (slice_get (made t order) j ≡ Some e)
  own-made k e f =
      let m = in-made (made t order) order (made-once t order) (made-read t order) (whole-clean t order whole) k e f in (m.0, m.1)

  same-entry : (e d : Entry) (k j : ℕ) → slice_get order k ≡ Some e → slice_get order j ≡ Some d → e.core.0 ≡ d.core.0 → rank e ≡ rank d → (k ≡ j) × (e ≡ d)
  same-entry e d k j f g c r =
      let m = own-made k e f in
      let n = own-made j d g in
      let q : m.0 ≡ n.0 = one-at (made t order) (made-ascends t order) m.0 n.0 e d m.1 n.1 c r in
      let p : e ≡ d = at-place (made t order) n.0 m.0 d e n.1 m.1 q in
      let s : SameAction e d = record { core = ap (λ z. z.core.0) p; place = ap (λ z. z.place) p; kind = ap (λ z. z.kind) p } in
      (one-place order (none-twice (made t order) order (whole-clean t order whole).no_stray) k j e d f g s, p)

  -- a write of the read's program that comes after the read
  abbrev Follows : ℕ → Entry → Type 0
  Follows k e = (at < k) × (slice_get order k ≡ Some e) × Before e x × (writes_to x.loc.0 e ≡ true)

  follows-of : (j : ℕ) (e : Entry) → slice_get (drop (suc at) order) j ≡ Some e → is_before e x ≡ true → writes_to x.loc.0 e ≡ true → Follows (suc at + j) e
  follows-of j e f b w = ((let l : at < suc at + j = omega arith in l), after-at order (suc at) j e f, before-parts e x b, w)

  none-follow : (word : ℕ)
      → ((k : ℕ) (e : Entry) → Follows k e → ⊥)
      → last_value (filter (writes_to x.loc.0) (filter (λ e. is_before e x) (drop (suc at) order))) word ≡ word
  none-follow word none =
      ap (λ es. last_value es word)
      (none-kept (λ e. is_before e x) (writes_to x.loc.0) (drop (suc at) order) (λ j e f b w. none (suc at + j) e (follows-of j e f b w)))

  module _ (mark : ℕ) (marked : IsMark order at (past_loads x.core.0) mark) where
    due-none : (word : ℕ)
        → IsSource (made t order) x None
        → word ≡ last_value (filter (writes_to x.loc.0) (filter (λ e. is_before e x) (drop (suc at) order))) word
    due-none word none = sym (none-follow word (λ k e f. let m = own-made k e f.1 in none m.0 e m.1 (before-from e x f.2) f.3))

    due-come : (word : ℕ) (s : Entry)
        → IsLastOwn (made t order) x s
        → rank s < mark
        → word ≡ last_value (filter (writes_to x.loc.0) (filter (λ e. is_before e x) (drop (suc at) order))) word
    due-come word s own l = sym (none-follow word (λ k e f.
        let m = own-made k e f.1 in
        let up_to = own.last m.0 e m.1 (before-from e x f.2) f.3 in
        elim marked.tight [
          | inl z ↦ omega (arith, z, l)
          | inr b ↦
              let p = and_parts (b.1.core.0 == x.core.0) (not (is_load b.1)) b.4 in
              let same : e.core.0 ≡ b.1.core.0 = f.2.core ∙ sym (eqb-true b.1.core.0 x.core.0 p.0) in
              let after = f.0 in
              let front = b.2 in
              let reach = b.5 in
              elim (cases_order (rank e) (rank b.1)) [
                | inl q ↦ let r = (same-entry e b.1 k b.0 f.1 b.3 same q).0 in omega arith
                | inr w ↦ elim w [
                  | inl n ↦
                      let r =
                      keeps k b.0 e b.1 f.1 b.3 (before-from e b.1 (record { core = same; sooner = n }))
                      (not-passed e b.1 (not-true (is_load b.1) p.1)) in
                      omega arith
                  | inr n ↦ omega arith
                ]
              ]
        ]))

    due-pending : (word : ℕ) (s : Entry)
        → IsLastOwn (made t order) x s
        → mark ≤ rank s
        → s.value ≡ last_value (filter (writes_to x.loc.0) (filter (λ e. is_before e x) (drop (suc at) order))) word
    due-pending word s own l =
        let stands = whole.each own.place s own.stands in
        let b = before-parts s x own.before in
        let w = and_parts (is_write s) (s.loc.0 == x.loc.0) own.writes in
        let no_load : is_load s ≡ false = write-is-no-load s.kind w.0 in
        let after : at < stands.0 = elim (cases_order at stands.0) [
          | inl q ↦
              let p : s ≡ x = at-place order at stands.0 x s here stands.1 (sym q) in
              absurd (write-is-no-read s.kind w.0 (subst (λ z. is_read z ≡ true) (sym p) read))
          | inr d ↦ elim d [
            | inl m ↦ m
            | inr m ↦
                let a =
                marked.above stands.0 s m stands.1
                (and_from (s.core.0 == x.core.0) (not (is_load s)) (eq-eqb s.core.0 x.core.0 b.core) (not_from_false (is_load s) no_load)) in
                absurd (omega arith)
          ]
        ] in
        let r = at-after order (suc at) stands.0 s (omega arith) stands.1 in
        sym (last-kept (λ e. is_before e x) (writes_to x.loc.0) (drop (suc at) order) r.0 s word r.1 own.before own.writes (λ j e m f be we.
        let fo = follows-of j e f be we in
        let n = own-made (suc at + j) e fo.1 in
        let up_to = own.last n.0 e n.1 be we in
        let core : e.core.0 ≡ s.core.0 = fo.2.core ∙ sym b.core in
        let place = r.2 in
        elim (cases_order (rank e) (rank s)) [
          | inl q ↦ let z = (same-entry e s (suc at + j) stands.0 fo.1 stands.1 core q).0 in omega arith
          | inr d ↦ elim d [
            | inl v ↦
                let z =
                keeps (suc at + j) stands.0 e s fo.1 stands.1 (before-from e s (record { core = core; sooner = v })) (not-passed e s no_load) in
                omega arith
            | inr v ↦ omega arith
          ]
        ]))

pub due-right : (t : Litmus) (order : List Entry) (at : ℕ) (x : Entry)
    → slice_get order at ≡ Some x
    → is_read x ≡ true
    → IsWhole t order
    → KeepsProgramOrder order
    → (settled words : List ℕ) → IsMark order at (past_loads x.core.0) (slice_index settled x.core.0)
    → slice_index words x.loc.0
    ≡ last_value (filter (writes_to x.loc.0) (take at order)) (slice_index t.words x.loc.0)
    → (source : Option Entry) → IsSource (made t order) x source → due_from source settled words x ≡ due_at t order at x
due-right t order at x here read whole keeps settled words marked word None own =
    word
    ∙ due-none t order at x here read whole keeps (slice_index settled x.core.0) marked
    (last_value (filter (writes_to x.loc.0) (take at order)) (slice_index t.words x.loc.0)) own
    ∙ sym (last_counting x (take at order) (drop (suc at) order) (slice_index t.words x.loc.0))
due-right t order at x here read whole keeps settled words marked word (Some s) own = elim (leb_tells (slice_index settled x.core.0) (rank s)) [
  | inl p ↦
      ap (λ b. if b then s.value else slice_index words x.loc.0) p.0
      ∙ due-pending t order at x here read whole keeps (slice_index settled x.core.0) marked
      (last_value (filter (writes_to x.loc.0) (take at order)) (slice_index t.words x.loc.0)) s own p.1
      ∙ sym (last_counting x (take at order) (drop (suc at) order) (slice_index t.words x.loc.0))
  | inr p ↦
      ap (λ b. if b then s.value else slice_index words x.loc.0) p.0 ∙ word
      ∙ due-come t order at x here read whole keeps (slice_index settled x.core.0) marked
      (last_value (filter (writes_to x.loc.0) (take at order)) (slice_index t.words x.loc.0)) s own p.1
      ∙ sym (last_counting x (take at order) (drop (suc at) order) (slice_index t.words x.loc.0))
]
