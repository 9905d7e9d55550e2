-- What each call of `lru` makes of a set's ways, and that it makes of the copies in them what the set's contents are to be.
use Rattle.cache_set.proofs.Vocabulary.{arith, ◌≡◌, ◌<◌, ◌-◌, ℕ, zero, suc, true, false, List, [], ◌∷◌, ap, length, take, slice_get, Option}
use Rattle.cache_set.proofs.Vocabulary.{Some, None, IsSome, option_map, nat_eq, inl, inr, refl, sym, ◌∙◌, eq-eqb, take_all, lookup}
use Rattle.cache_set.proofs.Vocabulary.{remove_entry, set_value, I, Line, Victim, Way, Contents, contents, victim_of, IsCacheSet, to_front}
use Rattle.cache_set.proofs.Vocabulary.{with_new, with_changed, without, is_invalid, is_empty, copies_in, way_of, first_empty, IsForNew}
use Rattle.cache_set.proofs.Vocabulary.{copy_left, NumbersBelow, AreWays}
use Rattle.lru.specs.LruCache.{lru_cache, promoted, put_entries}
use Rattle.cache_set.proofs.Entries.{set_value-changed}
use Rattle.cache_set.proofs.WayLists.{NoNumberTwice, way_of-found, lookup-way, copies-remove, copies-set, copies-emptied, lookup_entry-way}
use Rattle.cache_set.proofs.WayLists.{length-set, below-set, numbered-front, below-found, below-remove, below-more, length-remove-way}
use Rattle.cache_set.proofs.WayLists.{absent-below, length-some-empty, empty-way, copies-take, copies-at, full-at, lookup-way-at}
use Rattle.cache_set.proofs.WayLists.{remove-last, past-end}

-- a way with this line and this copy
abbrev pub way_with : ℕ → Line → Way
way_with line copy = record { line = line; copy = copy }

-- A way goes to the front.

promoted-is : (w : ℕ) (way : Way) (es : List (ℕ × Way)) → lookup (nat_eq w) es ≡ Some way → promoted (nat_eq w) es ≡ (w, way) ∷ remove_entry (nat_eq w) es
promoted-is w way es found = rw (lookup_entry-way w es, found) refl

pub contents-promoted : (line w room : ℕ) (es : List (ℕ × Way)) → NoNumberTwice es → way_of line es ≡ Some w
    → contents (copies_in (promoted (nat_eq w) es)) room ≡ to_front line (contents (copies_in es) room)
contents-promoted line w room es once h =
    let there = way_of-found line w es h in
    let is = lookup-way line w there.0 es once h there.1 in
    rw (promoted-is w there.0 es there.1, is.1.0, is.1.1, is.0, copies-remove line w es once h) refl

pub AreWays-promoted : (line w room : ℕ) (es : List (ℕ × Way)) → way_of line es ≡ Some w → AreWays es room → AreWays (promoted (nat_eq w) es) room
AreWays-promoted line w room es h ways =
    let there = way_of-found line w es h in
    let size = length-remove-way w there.0 es there.1 in
    rw (promoted-is w there.0 es there.1) (record {
      few = ways.few;
      all = size ∙ ways.all;
      numbered =
          numbered-front (length es) w there.0 (remove_entry (nat_eq w) es) size
          (below-found (length es) w there.0 es ways.numbered there.1) (below-remove (length es) w es ways.numbered);
    })

-- A copy is changed, or leaves its way empty.

pub contents-changed : (change : Line → Line) (line w room : ℕ) (way : Way) (es : List (ℕ × Way)) → IsCacheSet (contents (copies_in es) room) → NoNumberTwice es
    → way_of line es ≡ Some w → lookup (nat_eq w) es ≡ Some way → is_invalid (change way.copy).state ≡ false
    → contents (copies_in (set_value (nat_eq w) es (record way { copy = change way.copy }))) room ≡ with_changed change line (contents (copies_in es) room)
contents-changed change line w room way es valid once h found full =
    let is = lookup-way line w way es once h found in
    rw (
      copies-set line w (record way { copy = change way.copy }) es once h is.0 full,
      set_value-changed change line way.copy (copies_in es) valid.once is.1.1,
    )
    refl

abbrev pub emptied : Way → Way
emptied way = record way { copy = record way.copy { state = I } }

pub contents-emptied : (line w room : ℕ) (way : Way) (es : List (ℕ × Way)) → NoNumberTwice es → way_of line es ≡ Some w
    → contents (copies_in (set_value (nat_eq w) es (emptied way))) room ≡ without line (contents (copies_in es) room)
contents-emptied line w room way es once h = rw (copies-emptied line w (emptied way) es once h refl) refl

pub AreWays-set : (w room : ℕ) (new : Way) (es : List (ℕ × Way)) → AreWays es room → AreWays (set_value (nat_eq w) es new) room
AreWays-set w room new es ways = record {
  few = ways.few;
  all = length-set w new es ∙ ways.all;
  numbered = rw (length-set w new es) (below-set (length es) w new es ways.numbered);
}

-- A line comes in.

module _ (line n : ℕ) (copy : Line) (es : List (ℕ × Way)) (valid : is_invalid copy.state ≡ false) (full : length es ≡ suc n) (once : NoNumberTwice es) where
  abbrev old : Contents
  old = contents (copies_in es) (suc n)

  -- what the ways hold then, and which copy leaves
  abbrev IsFilled : List (ℕ × Way) → Option Victim → Type 0
  IsFilled new left = (contents (copies_in new) (suc n) ≡ with_new line copy old) × (left ≡ victim_of old)

  one : suc n - 1 ≡ n
  one = omega arith

  module _ (w : ℕ) (way : Way) (found : lookup (nat_eq w) es ≡ Some way) where
    abbrev over : List (ℕ × Way)
    over = (w, way_with line copy) ∷ remove_entry (nat_eq w) es

    -- an empty way is taken over: nothing leaves
    over-empty : first_empty es ≡ Some w → IsFilled over (copy_left way)
    over-empty h =
        let e = empty-way w es once h in
        let there : Some e.0.0 ≡ Some way = sym e.0.1.0 ∙ found in
        let same : e.0.0 ≡ way = cc in
        let empty : is_empty way ≡ true = rw same at e.0.1.1 in
        let fewer = length-some-empty w es h in
        let whole : take (suc n) ((line, copy) ∷ copies_in es) ≡ (line, copy) ∷ copies_in es = take_all (suc n) ((line, copy) ∷ copies_in es) (omega arith) in
        let none : slice_get (copies_in es) n ≡ None = past-end n (copies_in es) (omega arith) in
        (rw (valid, e.1, whole) refl, rw (empty, one, none) refl)

    -- the last way of a full set: its line leaves
    over-last : (x : ℕ × Way) → first_empty es ≡ None → slice_get es n ≡ Some x → x.0 ≡ w → IsFilled over (copy_left way)
    over-last x none last same =
        let there : Some x.1 ≡ Some way = sym (rw same at (lookup-way-at n x es once last)) ∙ found in
        let is : x.1 ≡ way = cc in
        let cut : remove_entry (nat_eq w) es ≡ take n es = rw same at (remove-last n x es once full last) in
        let held : is_empty way ≡ false = rw is at (full-at n x es none last) in
        (rw (valid, cut, copies-take n es none) refl, rw (held, one, copies-at n es none, last, is) refl)

    pub is-taken-over : IsForNew es w → IsFilled over (copy_left way)
    is-taken-over h = elim h [
      | inl e ↦ over-empty e
      | inr f ↦ at-last (slice_get es (length es - 1)) f.0 refl f.1
    ]
      where
        at-last : (o : Option (ℕ × Way))
            → first_empty es ≡ None
            → slice_get es (length es - 1) ≡ o
            → option_map (λ e. e.0) o ≡ Some w
            → IsFilled over (copy_left way)
        at-last None none last h = cc
        at-last (Some x) none last h = over-last x none (rw (full, one) at last) cc

-- what the ways hold once a line came in, which copy leaves, and that they are ways still
abbrev pub Fills : ℕ → Line → List (ℕ × Way) → ℕ → List (ℕ × Way) → Option Victim → Type 0
Fills line copy es room new left =
    (contents (copies_in new) room ≡ with_new line copy (contents (copies_in es) room))
    × ((left ≡ victim_of (contents (copies_in es) room)) × AreWays new room)

pub taken-over-fills : (line w room : ℕ) (copy : Line) (way : Way) (es : List (ℕ × Way))
    → 0 < room
    → is_invalid copy.state ≡ false
    → NoNumberTwice es
    → AreWays es room
    → lookup (nat_eq w) es ≡ Some way → IsForNew es w → Fills line copy es room ((w, way_with line copy) ∷ remove_entry (nat_eq w) es) (copy_left way)
taken-over-fills line w zero copy way es some valid once ways found h = absurd (omega arith)
taken-over-fills line w (suc n) copy way es some valid once ways found h =
    let size = length-remove-way w way es found in
    let filled = is-taken-over line n copy es valid ways.all once w way found h in (
      filled.0,
      (
        filled.1,
        record {
          few = ways.few;
          all = size ∙ ways.all;
          numbered =
              numbered-front (length es) w (way_with line copy) (remove_entry (nat_eq w) es) size
              (below-found (length es) w way es ways.numbered found) (below-remove (length es) w es ways.numbered);
        },
      ),
    )

-- one more of the ways that are there from the beginning
pub put-unused : (n room : ℕ) (way : Way) (es : List (ℕ × Way)) → n < room → length es ≡ n → NumbersBelow n es → copies_in es ≡ [] → is_empty way ≡ true
    → (length (put_entries nat_eq (lru_cache es room) n way) ≡ suc n)
    × (NumbersBelow (suc n) (put_entries nat_eq (lru_cache es room) n way)
    × (copies_in (put_entries nat_eq (lru_cache es room) n way) ≡ []))
put-unused n room way es less size numbered nothing empty =
    let absent : lookup (nat_eq n) es ≡ None = absent-below n n es numbered (omega arith) in
    let all : take (room - 1) es ≡ es = take_all (room - 1) es (omega arith) in
    let is : put_entries nat_eq (lru_cache es room) n way ≡ (n, way) ∷ es = rw (lookup_entry-way n es, absent, all) refl in
    rw is (ap suc size, ((omega arith, below-more n es numbered), rw empty nothing))

-- a way that is there is written at the front
pub set-promoted : (w : ℕ) (way new : Way) (es : List (ℕ × Way))
    → lookup (nat_eq w) es ≡ Some way
    → set_value (nat_eq w) (promoted (nat_eq w) es) new ≡ (w, new) ∷ remove_entry (nat_eq w) es
set-promoted w way new es found = rw (promoted-is w way es found, eq-eqb w w refl) refl

-- the way that a new line takes over is there
pub taken-over-found : (w : ℕ) (es : List (ℕ × Way)) → NoNumberTwice es → IsForNew es w → IsSome (lookup (nat_eq w) es)
taken-over-found w es once h = elim h [
  | inl e ↦ let there = empty-way w es once e in rw there.0.1.0 refl
  | inr f ↦ at-last (slice_get es (length es - 1)) refl f.1
]
  where
    at-last : (o : Option (ℕ × Way)) → slice_get es (length es - 1) ≡ o → option_map (λ e. e.0) o ≡ Some w → IsSome (lookup (nat_eq w) es)
    at-last None last h = cc
    at-last (Some x) last h = let same : x.0 ≡ w = cc in rw (rw same at (lookup-way-at (length es - 1) x es once last)) refl
