-- What the programs make has one shape, whatever their reads return: only values differ.
use Rattle.order_breaches.proofs.Vocabulary.{◌≡◌, ℕ, ◌+◌, suc, zero, List, [], ◌∷◌, ◌++◌, Some, slice_get, slice_index, slice_index_or}
use Rattle.order_breaches.proofs.Vocabulary.{take, drop, map, Bool, true, false, ◌==◌, ◌&&◌, ◌||◌, if◌then◌else◌, ap, sym, ◌∙◌, refl, subst}
use Rattle.order_breaches.proofs.Vocabulary.{map-append, action_of, entry, entries_by, entries_of, reads_in, Litmus, same_kind, is_read}
use Rattle.order_breaches.proofs.Vocabulary.{is_write, is_read_kind, is_write_kind, made, Instr, Action, Store, Load, Move, Fence, Lock}
use Rattle.order_breaches.proofs.Vocabulary.{Entry, Kind, F, same_action, same_but_value, IsExtra, made_reading, arith}
use Rattle.order_breaches.proofs.Actions.{SameAction, same-parts}
use Rattle.order_breaches.proofs.Made.{of-made}

-- an entry without the value that it reads or writes
abbrev pub blank : Entry → Entry
blank e = entry e.core.0 e.place e.kind e.loc (if same_kind e.kind F then e.value else 0)

-- the lists differ at most in such values
abbrev pub AreAlike : List Entry → List Entry → Type 0
AreAlike xs ys = map blank xs ≡ map blank ys

pub record IsAlike (x y : Entry) : Type 0 where
  pub action : SameAction x y
  pub loc : x.loc.0 ≡ y.loc.0
  pub tested : (z : Entry) → same_but_value x z ≡ same_but_value y z

fence-alone : (k : Kind) (v w : ℕ)
    → (is_read_kind k || is_write_kind k || (v == w))
    ≡ (is_read_kind k || is_write_kind k || (v == (if same_kind k F then w else 0)))
fence-alone k v w = grind arith

where-same : (a b c d : Bool) → (a ≡ true → c ≡ d) → (a && b && c) ≡ (a && b && d)
where-same true b c d h = ap (λ z. b && z) (h refl)
where-same false b c d h = refl

blank-tested : (x z : Entry) → same_but_value x z ≡ same_but_value (blank x) z
blank-tested x z =
    where-same (same_action x z) (z.loc.0 == x.loc.0) (is_read z || is_write z || (z.value == x.value))
    (is_read z || is_write z || (z.value == (blank x).value))
    (λ s.
    subst (λ k.
    (is_read_kind z.kind || is_write_kind z.kind || (z.value == x.value))
    ≡ (is_read_kind z.kind || is_write_kind z.kind || (z.value == (if same_kind k F then x.value else 0))))
    (sym (same-parts x z s).kind) (fence-alone z.kind z.value x.value))

blank-alike : (x y : Entry) → blank x ≡ blank y → IsAlike x y
blank-alike x y q = record {
  action = record { core = ap (λ e. e.core.0) q; place = ap (λ e. e.place) q; kind = ap (λ e. e.kind) q };
  loc = ap (λ e. e.loc.0) q;
  tested = λ z. blank-tested x z ∙ ap (λ e. same_but_value e z) q ∙ sym (blank-tested y z);
}

pub alike-at : (xs ys : List Entry) → AreAlike xs ys → (k : ℕ) (x : Entry) → slice_get xs k ≡ Some x → (y : Entry) × (slice_get ys k ≡ Some y) × IsAlike x y
alike-at [] ys h k x e = absurd (let z : ⊥ = cc in z)
alike-at (x ∷ xs) [] h k z e = absurd (let z : ⊥ = cc in z)
alike-at (x ∷ xs) (y ∷ ys) h zero z e = let q : x ≡ z = cc in let r : blank x ≡ blank y = cc in (y, refl, subst (λ v. IsAlike v y) q (blank-alike x y r))
alike-at (x ∷ xs) (y ∷ ys) h (suc k) z e = alike-at xs ys (let r : map blank xs ≡ map blank ys = cc in r) k z e

blank-by : (core place : ℕ) (a : Action) (r s : List ℕ) (v w : ℕ) → AreAlike (entries_by core place a r v) (entries_by core place a s w)
blank-by core place (Store loc operand) r s v w = refl
blank-by core place (Load reg loc) r s v w = refl
blank-by core place (Move change) r s v w = refl
blank-by core place Fence r s v w = refl
blank-by core place (Lock loc reg update) r s v w = refl

alike-append : (xs ys zs ws : List Entry) → AreAlike xs ys → AreAlike zs ws → AreAlike (xs ++ zs) (ys ++ ws)
alike-append xs ys zs ws h k = map-append blank xs zs ∙ ap (λ l. l ++ map blank zs) h ∙ ap (λ l. map blank ys ++ l) k ∙ sym (map-append blank ys ws)

entries-alike : (core place : ℕ) (program : List Instr) (r s v w : List ℕ) → AreAlike (entries_of core place program r v) (entries_of core place program s w)
entries-alike core place [] r s v w = refl
entries-alike core place (i ∷ rest) r s v w =
    alike-append _ _ _ _ (blank-by core place (action_of i) r s (slice_index v 0) (slice_index w 0)) (entries-alike core (place + 1) rest _ _ _ _)

readings-alike : (core : ℕ) (programs : List (List Instr)) (registers : List (List ℕ)) (v w : List ℕ)
    → AreAlike (made_reading core programs registers v) (made_reading core programs registers w)
readings-alike core [] registers v w = refl
readings-alike core (p ∷ ps) registers v w =
    alike-append _ _ _ _
    (entries-alike core 0 p (slice_index_or registers core []) (slice_index_or registers core []) (take (reads_in p) v) (take (reads_in p) w))
    (readings-alike (core + 1) ps registers (drop (reads_in p) v) (drop (reads_in p) w))

pub shape-alike : (t : Litmus) (order : List Entry) (reads : List ℕ) → AreAlike (made_reading 0 t.programs t.registers reads) (made t order)
shape-alike t order reads = of-made (AreAlike (made_reading 0 t.programs t.registers reads)) t order (readings-alike 0 t.programs t.registers reads)

-- what one of the lists doesn't have, the other doesn't have
pub extra-alike : (xs ys : List Entry) → AreAlike xs ys → (z : Entry) → IsExtra xs z → IsExtra ys z
extra-alike xs ys h z extra k e s = let m = alike-at ys xs (sym h) k e s in m.2.tested z ∙ extra k m.0 m.1
