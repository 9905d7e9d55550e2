-- The breach that is named where an entry is extra, twice there or missing is the first; else each action is there once.
use Rattle.order_breaches.proofs.Vocabulary.{◌≡◌, ◌≤◌, ℕ, true, inl, List, length, Option, sym, subst, arith, Litmus, IsTest, is_write_kind}
use Rattle.order_breaches.proofs.Vocabulary.{made, Entry, IsFirst, IsEarliest, IsNowhere, IsExtra, IsStray, made_reading, reads_that_came}
use Rattle.order_breaches.proofs.Vocabulary.{IsIndex, HasCome, HasNotCome, NamesStray, IsMatched, AreOfPrograms, IsFirstBreach, Breach}
use Rattle.order_breaches.proofs.Vocabulary.{Extra, Twice, Missing}
use Rattle.order_breaches.proofs.Whole.{made-of}
use Rattle.order_breaches.proofs.Made.{made-within}
use Rattle.order_breaches.proofs.Shapes.{AreAlike, extra-alike, shape-alike}
use Rattle.order_breaches.proofs.Coming.{stray-alike, first-missing, none-missing, index-alike}
use Rattle.order_breaches.proofs.Reading.{ReadsAll, came-reads}

pub of-programs : (t : Litmus) (order entries : List Entry) (cores words : ℕ)
    → IsTest t
    → IsMatched t order
    → entries ≡ made t order
    → length t.programs ≤ cores
    → words ≡ length t.locations
    → AreOfPrograms entries cores words order
of-programs t order entries cores words valid matched is c w = record {
  made_by_one = λ k x f extra. matched.no_stray k x f (inl (subst (λ es. IsExtra es x) is extra));
  of_a_core = λ k x f.
      let m = made-of (made t order) x (λ q. matched.no_stray k x f (inl q)) in
      let l = (made-within t order valid m.place m.entry m.stands).core in
      let q = m.same.action.core in omega arith;
  to_a_word = λ k x f write.
      let m = made-of (made t order) x (λ q. matched.no_stray k x f (inl q)) in
      let l = (made-within t order valid m.place m.entry m.stands).known (subst (λ n. is_write_kind n ≡ true) (sym m.same.action.kind) write) in
      let q = m.same.loc in omega (arith, l, q, w);
}

stray-first : (xs ys order : List Entry) → AreAlike xs ys → (x : Entry) → IsEarliest order (IsStray xs order) x → IsEarliest order (IsStray ys order) x
stray-first xs ys order alike x first = (
  first.0,
  record {
    stands = first.1.stands;
    holds = stray-alike xs ys order alike first.0 x first.1.holds;
    earliest = λ k y l f s. first.1.earliest k y l f (stray-alike ys xs order (sym alike) k y s);
  },
)

pub names-first-stray : (t : Litmus) (order shape : List Entry)
    → AreAlike shape (made t order)
    → (b : Breach) → NamesStray shape order b
    → IsFirstBreach t order b
names-first-stray t order shape alike (Extra x) h = (extra-alike shape (made t order) alike x h.0, stray-first shape (made t order) order alike x h.1)
names-first-stray t order shape alike (Twice x) h =
    (λ e. h.0 (extra-alike (made t order) shape (sym alike) x e), stray-first shape (made t order) order alike x h.1)
names-first-stray t order shape alike _ h = absurd h

-- what the programs make with some reads
abbrev pub IsShape : Litmus → List Entry → Type 0
IsShape t shape = (reads : List ℕ) × (shape ≡ made_reading 0 t.programs t.registers reads)

pub alike-of : (t : Litmus) (order shape : List Entry) → IsShape t shape → AreAlike shape (made t order)
alike-of t order shape is = subst (λ s. AreAlike s (made t order)) (sym is.1) (shape-alike t order is.0)

-- after a first pass that met nothing
module _ (t : Litmus) (order shape : List Entry) (is : IsShape t shape) (slots : List (Option ℕ)) (index : IsIndex shape slots) (came : List (Option ℕ))
    (stray : IsNowhere order (IsStray shape order)) (come : HasCome shape order (length order) came) where
  looks-alike : AreAlike shape (made t order)
  looks-alike = alike-of t order shape is

  no-strays : IsNowhere order (IsStray (made t order) order)
  no-strays k x f s = stray k x f (stray-alike (made t order) shape order (sym looks-alike) k x s)

  pub names-first-missing : (e : Entry) (k : ℕ) → IsFirst shape (HasNotCome came) k e → IsFirstBreach t order (Missing e.core e.place e.kind e.loc)
  names-first-missing e k first =
      let m = first-missing shape (made t order) order slots (length order) came looks-alike index come (omega arith) e k first in (no-strays, (k, m.0, m.1))

  pub all-matched : IsNowhere shape (HasNotCome came) → IsMatched t order
  all-matched none = record { no_stray = no-strays; no_missing = none-missing shape (made t order) order (length order) came looks-alike come none }

  pub all-read : IsNowhere shape (HasNotCome came) → ReadsAll t order (reads_that_came 0 came shape)
  all-read none = came-reads t order (length order) came shape is stray come none

  pub made-index : IsIndex (made t order) slots
  made-index = index-alike shape (made t order) slots looks-alike index
