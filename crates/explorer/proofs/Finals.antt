-- The final states among the kept ones, one more at a time.
use Rattle.explorer.proofs.Vocabulary.{◌≡◌, ◌<◌, ℕ, ◌+◌, Bool, true, false, List, [], ◌∷◌, ◌++◌, length, map, Some, slice_get, inl, inr}
use Rattle.explorer.proofs.Vocabulary.{arith, ap, sym, ◌∙◌, subst, refl, IsDistinct, lt-or, Litmus, IsTest, well-formed, State, registers_in, run}
use Rattle.explorer.proofs.Vocabulary.{has_ended, RunsStopWhereTheyEnd, PartlyClosedStatesMissNone, forgotten, AreAlike, seen}
use Rattle.explorer.proofs.Vocabulary.{DeadRegistersChangeNothing, AreAllAlike, AlikeCoresAreExchangeable, state_of_packed, HaveCores}
use Rattle.explorer.proofs.Vocabulary.{AreReached, Have, HaveEveryEnd, AreDistinct, IsFinalOf, IsMadeOf, AreFinalsOf, MissesNoEnd, Packed}
use Rattle.explorer.proofs.Vocabulary.{FinalState}
use Rattle.explorer.specs.contracts.packed.PackedPartialEq.TheImpl as packed_eq
use Rattle.explorer.proofs.Counting.{states-apart}
use Rattle.explorer.proofs.Ending.{ended-same, leads-to-end}
use Rattle.explorer.proofs.Linking.{get-left, get-back, get-last, get-one, kept-at}
use Rattle.explorer.proofs.Completing.{found-back, end-cores}
use Rattle.explorer.proofs.Searching.{from-list, in-grown}

pub cores-at : (t : Litmus) (xs : List Packed) (i : ℕ) (s : Packed)
    → HaveCores t xs
    → slice_get xs i ≡ Some s
    → length (state_of_packed s).cores ≡ length t.programs
cores-at t xs i s h q = (kept-at t xs i s h q).cores

-- ---- what is seen of a state that has ended

seen-same : DeadRegistersChangeNothing
    → (t : Litmus) (hidden : List (List Bool)) (s r : State)
    → AreAlike t hidden s r
    → has_ended t s ≡ true
    → seen hidden (registers_in s) ≡ seen hidden (registers_in r)
seen-same law t hidden s r a e = sym (law.at_the_end t hidden s e) ∙ ap registers_in a ∙ law.at_the_end t hidden r (sym (law.ended t hidden s r a) ∙ e)

module _ (law : DeadRegistersChangeNothing) (d : ℕ) (t : Litmus) (hidden : List (List Bool)) (x : Packed)
    (f : FinalState) (h : IsFinalOf d t hidden (state_of_packed x) f) (ended : has_ended t (state_of_packed x) ≡ true) where
  kept-alike : AreAlike t hidden (state_of_packed x) h.last
  kept-alike = ap (forgotten t hidden) (sym h.kept_is) ∙ law.twice t hidden h.last

  last-ended : has_ended t h.last ≡ true
  last-ended = sym (law.ended t hidden (state_of_packed x) h.last kept-alike) ∙ ended

  kept-registers : registers_in (state_of_packed x) ≡ seen hidden f.registers.items
  kept-registers = ap registers_in (sym h.kept_is) ∙ law.at_the_end t hidden h.last last-ended ∙ ap (seen hidden) h.registers_are

  kept-memory : (state_of_packed x).memory ≡ f.memory.items
  kept-memory = ap (λ z. z.memory) (sym h.kept_is) ∙ h.memory_is

  seen-registers : seen hidden f.registers.items ≡ seen hidden (registers_in (state_of_packed x))
  seen-registers = ap (seen hidden) (sym h.registers_are) ∙ sym (seen-same law t hidden (state_of_packed x) h.last kept-alike ended)

-- ---- one more at a time

made-later : (d : ℕ) (t : Litmus) (hidden : List (List Bool)) (xs : List Packed) (n : ℕ) (f : FinalState)
    → IsMadeOf d t hidden xs n f
    → IsMadeOf d t hidden xs (n + 1) f
made-later d t hidden xs n f h = record {
  at = h.at;
  kept = h.kept;
  within = let l = h.within in omega (arith, l);
  stands = h.stands;
  ended = h.ended;
  made = h.made;
}

pub finals-none : (d : ℕ) (t : Litmus) (hidden : List (List Bool)) (xs : List Packed) → AreFinalsOf d t hidden xs 0 []
finals-none d t hidden xs = record {
  each = λ i f q. absurd (let z : ⊥ = cc in z);
  all = λ i s l. absurd (let z : ⊥ = omega (arith, l) in z);
  once = λ i j f g p. absurd (let z : ⊥ = cc in z);
}

-- the next state hasn't ended
pub finals-skip : (d : ℕ) (t : Litmus) (hidden : List (List Bool)) (xs : List Packed) (n : ℕ) (fs : List FinalState)
    (x : Packed)
    → AreFinalsOf d t hidden xs n fs
    → slice_get xs n ≡ Some x → has_ended t (state_of_packed x) ≡ false → AreFinalsOf d t hidden xs (n + 1) fs
finals-skip d t hidden xs n fs x h at e = record {
  each = λ i f q. made-later d t hidden xs n f (h.each i f q);
  all = λ i s l q w. elim (lt-or n i) [
    | inl m ↦ h.all i s m q w
    | inr m ↦
        let same : i ≡ n = omega (arith, l, m) in
        let is : s ≡ x = get-one xs n s x (subst (λ z. slice_get xs z ≡ Some s) same q) at in
        absurd (let r = ap (λ z. has_ended t (state_of_packed z)) is in let z : ⊥ = cc in z)
  ];
  once = h.once;
}

-- the next state has ended
module _ (law : DeadRegistersChangeNothing) (d : ℕ) (t : Litmus) (hidden : List (List Bool)) (xs : List Packed) (n : ℕ) (fs : List FinalState) (f : FinalState)
    (distinct : IsDistinct (packed_eq.eq-value).it xs) (cores : HaveCores t xs) (h : AreFinalsOf d t hidden xs n fs)
    (made : IsMadeOf d t hidden xs (n + 1) f) (at : made.at ≡ n) where
  -- no earlier one has the same memory and the same registers
  new : (i : ℕ) (g : FinalState) → slice_get fs i ≡ Some g → seen hidden g.registers.items ≡ seen hidden f.registers.items → g.memory.items ≡ f.memory.items → ⊥
  new i g q r m =
      let w = h.each i g q in
      let same =
      ended-same t (state_of_packed w.kept) (state_of_packed made.kept) (cores-at t xs w.at w.kept cores w.stands)
      (cores-at t xs made.at made.kept cores made.stands) w.ended made.ended
      (kept-registers law d t hidden w.kept g w.made w.ended ∙ r ∙ sym (kept-registers law d t hidden made.kept f made.made made.ended))
      (kept-memory law d t hidden w.kept g w.made w.ended ∙ m ∙ sym (kept-memory law d t hidden made.kept f made.made made.ended)) in
      let e = states-apart t xs distinct cores w.at made.at w.kept made.kept w.stands made.stands same in
      let l = w.within in let z : ⊥ = omega (arith, e, at, l) in z

  each : (i : ℕ) (g : FinalState) → slice_get (fs ++ f ∷ []) i ≡ Some g → IsMadeOf d t hidden xs (n + 1) g
  each i g q = elim (lt-or (length fs) i) [
    | inl l ↦ made-later d t hidden xs n g (h.each i g (get-back fs (f ∷ []) i g l q))
    | inr l ↦ subst (λ z. IsMadeOf d t hidden xs (n + 1) z) (get-last fs f g i l q).1 made
  ]

  have-more : (r : List (List ℕ)) (m : List ℕ) → Have hidden fs r m → Have hidden (fs ++ f ∷ []) r m
  have-more r m w = record {
    at = w.at;
    final = w.final;
    stands = get-left fs (f ∷ []) w.at w.final w.stands;
    registers_are = w.registers_are;
    memory_is = w.memory_is;
  }

  last-stands : (gs : List FinalState) → slice_get (gs ++ f ∷ []) (length gs) ≡ Some f
  last-stands [] = refl
  last-stands (g ∷ gs) = last-stands gs

  all : (i : ℕ) (s : Packed)
      → i < n + 1
      → slice_get xs i ≡ Some s
      → has_ended t (state_of_packed s) ≡ true
      → Have hidden (fs ++ f ∷ []) (registers_in (state_of_packed s)) (state_of_packed s).memory
  all i s l q w = elim (lt-or n i) [
    | inl m ↦ have-more (registers_in (state_of_packed s)) (state_of_packed s).memory (h.all i s m q w)
    | inr m ↦
        let same : i ≡ made.at = omega (arith, l, m, at) in
        let is : made.kept ≡ s = get-one xs made.at made.kept s made.stands (subst (λ z. slice_get xs z ≡ Some s) same q) in
        record {
          at = length fs;
          final = f;
          stands = last-stands fs;
          registers_are = seen-registers law d t hidden made.kept f made.made made.ended ∙ ap (λ z. seen hidden (registers_in (state_of_packed z))) is;
          memory_is = sym (kept-memory law d t hidden made.kept f made.made made.ended) ∙ ap (λ z. (state_of_packed z).memory) is;
        }
  ]

  once : AreDistinct hidden (fs ++ f ∷ [])
  once i j a b p q r m = elim (lt-or (length fs) i) [
    | inl l ↦ elim (lt-or (length fs) j) [
      | inl k ↦ h.once i j a b (get-back fs (f ∷ []) i a l p) (get-back fs (f ∷ []) j b k q) r m
      | inr k ↦ let e = (get-last fs f b j k q).1 in
          absurd (new i a (get-back fs (f ∷ []) i a l p) (r ∙ ap (λ z. seen hidden z.registers.items) (sym e)) (m ∙ ap (λ z. z.memory.items) (sym e)))
    ]
    | inr l ↦ elim (lt-or (length fs) j) [
      | inl k ↦ let e = (get-last fs f a i l p).1 in
          absurd (new j b (get-back fs (f ∷ []) j b k q) (sym r ∙ ap (λ z. seen hidden z.registers.items) (sym e)) (sym m ∙ ap (λ z. z.memory.items) (sym e)))
      | inr k ↦ (get-last fs f a i l p).0 ∙ sym (get-last fs f b j k q).0
    ]
  ]

  pub finals-more : AreFinalsOf d t hidden xs (n + 1) (fs ++ f ∷ [])
  finals-more = record { each = each; all = all; once = once }

-- ---- what a search answers

pub finals-reached : DeadRegistersChangeNothing
    → (d : ℕ) (t : Litmus) (hidden : List (List Bool)) (xs : List Packed) (n : ℕ) (fs : List FinalState)
    → AreFinalsOf d t hidden xs n fs
    → AreReached t d fs
finals-reached law d t hidden xs n fs h i f q =
    let m = h.each i f q in
    leads-to-end d t f.choices.items m.made.last f.registers.items f.memory.items m.made.leads
    (last-ended law d t hidden m.kept f m.made m.ended) m.made.registers_are m.made.memory_is

-- the states of a search that came to its end
pub record AreAll (d : ℕ) (t : Litmus) (hidden : List (List Bool)) (pairs : List (ℕ × ℕ)) (xs : List Packed) : Type 0 where
  pub alike : AreAllAlike t hidden pairs
  pub cores : HaveCores t xs
  pub whole : MissesNoEnd d t hidden pairs xs

pub finals-complete : DeadRegistersChangeNothing
    → AlikeCoresAreExchangeable
    → PartlyClosedStatesMissNone
    → RunsStopWhereTheyEnd
    → (d : ℕ) (t : Litmus) (hidden : List (List Bool)) (pairs : List (ℕ × ℕ))
    (xs : List Packed) (fs : List FinalState) → IsTest t → AreAll d t hidden pairs xs → AreFinalsOf d t hidden xs (length xs) fs → HaveEveryEnd t d hidden fs
finals-complete law all closed stop d t hidden pairs xs fs test w h registers memory e =
    let m = closed d t hidden pairs (map state_of_packed w.whole.earlier) e.choices (well-formed t test) w.alike w.whole.closed e.ended in
    let last : State = (run t d e.choices).state in
    let ended : has_ended t last ≡ true = sym (stop.stops t d e.choices).ended ∙ e.ended in
    let k =
    found-back law all t hidden pairs xs w.alike w.cores w.whole.exchanged m.exchanges m.of_pairs last
    (end-cores stop d t e.choices) ended m.kept (in-grown w.whole.earlier xs m.kept w.whole.grows m.among)
    m.alike in
    let r = from-list xs k.among.0 k.state k.among.1 in
    let kept_ended : has_ended t k.state ≡ true = law.ended t hidden k.state last k.alike ∙ ended in
    let f = h.all k.among.0 r.0 r.3 r.1 (subst (λ z. has_ended t z ≡ true) (sym r.2) kept_ended) in
    record {
      at = f.at;
      final = f.final;
      stands = f.stands;
      registers_are =
          f.registers_are
          ∙ ap (λ z. seen hidden (registers_in z)) r.2
          ∙ seen-same law t hidden k.state last k.alike kept_ended
          ∙ ap (seen hidden) e.registers_are;
      memory_is = f.memory_is ∙ ap (λ z. z.memory) r.2 ∙ ap (λ z. z.memory) k.alike ∙ e.memory_is;
    }

-- what goes by one depth, test and list of hidden registers goes by the same ones
pub went-by : (P : ℕ → Litmus → List (List Bool) → Type 0)
    → (d e : ℕ) (t u : Litmus) (hidden other : List (List Bool))
    → d ≡ e
    → t ≡ u
    → hidden ≡ other
    → P d t hidden
    → P e u other
went-by P d e t u hidden other p q r h = subst (λ z. P z u other) p (subst (λ z. P d z other) q (subst (λ z. P d t z) r h))
