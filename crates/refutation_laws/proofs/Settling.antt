-- In a full case with no cycle all values are known: a read is given after so many rounds as its place in a row of the model's global relation says. The
-- candidate of the case has those values.
use Rattle.refutation_laws.proofs.Vocabulary.{◌≡◌, ◌<◌, ◌≤◌, ℕ, zero, suc, ◌==◌, ◌&&◌, ◌||◌, Bool, true, false, if◌then◌else◌, List, []}
use Rattle.refutation_laws.proofs.Vocabulary.{◌∷◌, length, Option, Some, None, slice_get, slice_index, arith, refl, sym, ap, ◌∙◌, ◌⊎◌, inl}
use Rattle.refutation_laws.proofs.Vocabulary.{inr, subst, filter, list_any, Litmus, is_before, is_read, is_write, writes_to, Entry, rank}
use Rattle.refutation_laws.proofs.Vocabulary.{part_of, part-small, IsIn, LeadsTo, at_once, onward, Candidate, Returns, is_access}
use Rattle.refutation_laws.proofs.Vocabulary.{share_location, in-case, in-none, in-first, in-later, in-filter, and-both, write-is-no-read}
use Rattle.refutation_laws.proofs.Vocabulary.{rank-before, before-trans, number, location, share, LinearExtension, Ordered, in-a-row, Known}
use Rattle.refutation_laws.proofs.Vocabulary.{bare, events_of, same_event, is_event, is_write_of, reads_from, comes_before, Source}
use Rattle.refutation_laws.proofs.Vocabulary.{on_location, global_in, is_edge, Model, Tso, Sequential, value_among, returned_from, returned}
use Rattle.refutation_laws.proofs.Vocabulary.{known_writes, all_known, IsPossibleSource, ArePossible, IsFull, order-of, halves, writes}
use Rattle.refutation_laws.proofs.Standing.{Of, event-in, of-event, same-bare}
use Rattle.refutation_laws.proofs.Soundness.{itself, bare-same}
use Rattle.refutation_laws.proofs.Tests.{and-of, or-first, or-second, any-in, pick, pass, different}
use Rattle.refutation_laws.proofs.Relating.{edge-by, of-bare}
use Rattle.refutation_laws.proofs.Rows.{edge-forward, ordered-acyclic, Edge, edge-decided}
use Rattle.refutation_laws.proofs.Building.{or_zero, reads_given, events_given, returns-chosen, one-event, same-place, known-value}
use Rattle.refutation_laws.proofs.Determined.{HaveSix, EarlyGiven, AllGiven, known-write}

-- ---- the source of a read

-- the entry of an event among these
abbrev pub entry_among : List Entry → Entry → Option Entry
entry_among [] w = None
entry_among (x ∷ xs) w = if same_event w x then Some x else entry_among xs w

abbrev pub entry_of : List Entry → Option Entry → Option Entry
entry_of es None = None
entry_of es (Some w) = entry_among es w

abbrev pub source_in : List Entry → List Source → Entry → Option Entry
source_in es [] r = None
source_in es (s ∷ ss) r = if same_event s.read r then entry_of es s.write else source_in es ss r

-- the first source that is known of a read
pub record First (t : Litmus) (ss : List Source) (r : Entry) : Type 0 where
  pub source : Source
  pub same : same_event source.read r ≡ true
  pub possible : IsPossibleSource t source.read source.write
  pub given : (ws : List Entry) → returned t ws ss (bare r) ≡ returned_from t ws (bare r) source.write
  pub from : (es : List Entry) → source_in es ss r ≡ entry_of es source.write
  pub among : (p : Source → Bool) → p source ≡ true → list_any (λ (s : Source). same_event s.read r && p s) ss ≡ true

pub first-of : (t : Litmus) (ss : List Source) → ArePossible t ss → (r : Entry) → list_any (λ (s : Source). same_event s.read r) ss ≡ true
    → First t ss r
first-of t [] ps r h = let z : ⊥ = cc in absurd z
first-of t (s ∷ ss) ps r h = go (same_event s.read r) refl h (λ g. first-of t ss ps.1 r g)
  where
    go : (b : Bool) → same_event s.read r ≡ b → (b || list_any (λ (s : Source). same_event s.read r) ss) ≡ true
        → (list_any (λ (s : Source). same_event s.read r) ss ≡ true → First t ss r) → First t (s ∷ ss) r
    go true q g later = record {
      source = s;
      same = q;
      possible = ps.0;
      given = λ ws. pick (same_event s.read r) (returned_from t ws (bare r) s.write) (returned t ws ss (bare r)) q;
      from = λ es. pick (same_event s.read r) (entry_of es s.write) (source_in es ss r) q;
      among = λ p h. or-first (same_event s.read r && p s) _ (and-of (same_event s.read r) (p s) q h);
    }
    go false q g later =
        let f = later g in
        record {
          source = f.source;
          same = f.same;
          possible = f.possible;
          given = λ ws. pass (same_event s.read r) (returned_from t ws (bare r) s.write) (returned t ws ss (bare r)) q ∙ f.given ws;
          from = λ es. pass (same_event s.read r) (entry_of es s.write) (source_in es ss r) q ∙ f.from es;
          among = λ p h. or-second (same_event s.read r && p s) _ (f.among p h);
        }

pub found : (xs : List Entry) (w y : Entry) → ((x : Entry) → IsIn xs x → bare x ≡ bare y → x ≡ y) → bare w ≡ bare y → IsIn xs y
    → entry_among xs w ≡ Some y
found [] w y one h i = absurd (in-none y i)
found (x ∷ xs) w y one h i = go (same_event w x) refl (in-case x xs y i) (λ j. found xs w y (λ z k. one z (in-later x xs z k)) h j)
  where
    go : (b : Bool) → same_event w x ≡ b → (y ≡ x) ⊎ IsIn xs y → (IsIn xs y → entry_among xs w ≡ Some y)
        → (if b then Some x else entry_among xs w) ≡ Some y
    go true q k later = ap (λ z. Some z) (one x (in-first x xs x refl) (sym (same-bare w x q) ∙ h))
    go false q (inl e) later =
        let same : same_event w x ≡ true = bare-same w x (h ∙ ap bare e) in
        let z : ⊥ = cc in absurd z
    go false q (inr j) later = later j

pub get-length : (xs : List Entry) (i : ℕ) (x : Entry) → slice_get xs i ≡ Some x → i < length xs
get-length [] i x e = let z : ⊥ = cc in absurd z
get-length (y ∷ ys) zero x e = omega arith
get-length (y ∷ ys) (suc i) x e = let l = get-length ys i x e in omega (arith, l)

-- an event is for itself among the events
pub is-event : (t : Litmus) (x : Entry) → IsIn (events_of t) x → is_event t x ≡ true
is-event t x i = any-in (same_event x) (events_of t) x i (itself x)

read-access : (x : Entry) → is_read x ≡ true → is_access x ≡ true
read-access x r = or-first (is_read x) (is_write x) r

write-access : (x : Entry) → is_write x ≡ true → is_access x ≡ true
write-access x w = or-second (is_read x) (is_write x) w

-- ---- edges

-- a read before an access in its program
pub read-edge : (model : Model) (t : Litmus) (k : Known) (x y : Entry) → is_before x y ≡ true → is_read x ≡ true → is_access y ≡ true
    → is_edge t k (global_in model) x y ≡ true
read-edge Tso t k x y b r a =
    edge-by t k (global_in Tso) x y
    (inl (and-of (is_before x y) _ b (or-second (is_write x && is_write y) _ (and-of (is_read x) (is_access y) r a))))
read-edge Sequential t k x y b r a = edge-by t k (global_in Sequential) x y (inl b)

-- a read from another core's write
pub other-edge : (model : Model) (t : Litmus) (k : Known) (w r : Entry) → reads_from k w r ≡ true → (w.core.0 ≡ r.core.0 → ⊥)
    → is_edge t k (global_in model) w r ≡ true
other-edge Tso t k w r h n = edge-by t k (global_in Tso) w r (inr (inr (inr (inl (and-of (reads_from k w r) _ h (different w.core.0 r.core.0 n))))))
other-edge Sequential t k w r h n = edge-by t k (global_in Sequential) w r (inr (inl h))

po-edge : (t : Litmus) (k : Known) (x y : Entry) → is_before x y ≡ true → share_location x y ≡ true → is_edge t k on_location x y ≡ true
po-edge t k x y b s = edge-by t k on_location x y (inl (and-of (is_before x y) _ b s))

rf-edge : (t : Litmus) (k : Known) (x y : Entry) → reads_from k x y ≡ true → is_edge t k on_location x y ≡ true
rf-edge t k x y h = edge-by t k on_location x y (inr (inl h))

co-edge : (t : Litmus) (k : Known) (x y : Entry) → comes_before k x y ≡ true → is_edge t k on_location x y ≡ true
co-edge t k x y h = edge-by t k on_location x y (inr (inr (inl h)))

-- ---- a full case with no cycle

pub record IsOpen (model : Model) (t : Litmus) (k : Known) : Type 0 where
  pub full : IsFull t k
  pub six : HaveSix 0 (length t.programs) t.registers
  pub within_locations : Ordered (Edge (is_edge t k on_location)) (events_of t)
  pub globally : Ordered (Edge (is_edge t k (global_in model))) (events_of t)

module _ (model : Model) (t : Litmus) (k : Known) (o : IsOpen model t k) where
  -- what is known of each read after so many rounds
  abbrev pub given_after : ℕ → Entry → Option ℕ
  given_after m = returned t (known_writes t k m) k.sources

  abbrev pub rounds : ℕ
  rounds = length (events_of t)

  abbrev pub own_reads : List (List ℕ)
  own_reads = reads_given t (given_after rounds)

  abbrev pub own_events : List Entry
  own_events = events_given t (given_after rounds)

  -- a candidate with these events, whatever else
  abbrev plain : Candidate
  plain = record { reads = own_reads; source = λ r. None; coherence = λ loc. [] }

  pub own-in : (x : Entry) → IsIn own_events x → IsIn (events_of t) (bare x)
  own-in x i = event-in t plain x i

  carried-way : (p : Entry → Bool) (a b : Entry) → LeadsTo (filter p own_events) (Edge (comes_before k)) a b
      → LeadsTo (events_of t) (Edge (is_edge t k on_location)) (bare a) (bare b)
  carried-way p _ _ (at_once a b i j h) =
      at_once (bare a) (bare b) (own-in a (in-filter p own_events a i).0) (own-in b (in-filter p own_events b j).0)
      (of-bare t k on_location a b (co-edge t k a b h))
  carried-way p _ _ (onward a b d i h rest) =
      onward (bare a) (bare b) (bare d) (own-in a (in-filter p own_events a i).0) (of-bare t k on_location a b (co-edge t k a b h)) (carried-way p b d rest)

  pub writes-row : (loc : ℕ) → LinearExtension (Edge (comes_before k)) (filter (writes_to loc) own_events)
  writes-row loc =
      in-a-row (filter (writes_to loc) own_events) (Edge (comes_before k)) (edge-decided (comes_before k))
      (λ x way. ordered-acyclic (Edge (is_edge t k on_location)) (events_of t) o.within_locations (bare x) (carried-way (writes_to loc) x x way))

  -- the candidate of the case
  abbrev pub own_candidate : Candidate
  own_candidate = record {
    reads = own_reads;
    source = source_in own_events k.sources;
    coherence = λ loc. (writes-row loc).row;
  }

  pub record Settled (x : Entry) (i : ℕ) : Type 0 where
    pub at : (m : ℕ) → i < m → given_after m (bare x) ≡ Some x.value
    pub returns : Returns t own_candidate x (source_in own_events k.sources x)

  abbrev pub Place : Entry → Type 0
  Place x = IsIn o.globally.in_a_row.row (bare x)

  pub place : (x : Entry) → IsIn own_events x → Place x
  place x i = o.globally.in_a_row.inside (bare x) (own-in x i)

  pub within : (i : ℕ) (e : Entry) → slice_get o.globally.in_a_row.row i ≡ Some e → i < rounds
  within i e q = let l = get-length o.globally.in_a_row.row i e q in let n = o.globally.in_a_row.count in omega (arith, l, n)

  pub edge-places : (x y : Entry) (i j : ℕ) → slice_get o.globally.in_a_row.row i ≡ Some (bare x)
      → slice_get o.globally.in_a_row.row j ≡ Some (bare y) → is_edge t k (global_in model) x y ≡ true → i < j
  edge-places x y i j p q h =
      edge-forward (Edge (is_edge t k (global_in model))) (events_of t) o.globally i j (bare x) (bare y) p q (of-bare t k (global_in model) x y h)

  pub one-own : (x y : Entry) → IsIn own_events x → IsIn own_events y → bare x ≡ bare y → x ≡ y
  one-own x y i j h = one-event t own_reads x y i j h

  pub first-source : (x : Entry) → IsIn own_events x → is_read x ≡ true → First t k.sources x
  first-source x i r =
      first-of t k.sources o.full.possible x
      (o.full.sources (bare x) (own-in x i) (and-of (is_event t (bare x)) _ (is-event t (bare x) (own-in x i)) r))

  -- a source in the program of its read comes before it
  before-read : (x y : Entry) → IsIn own_events x → IsIn own_events y → is_read x ≡ true → writes_to x.loc.0 y ≡ true
      → reads_from k y x ≡ true → y.core.0 ≡ x.core.0 → is_before y x ≡ true
  before-read x y i j r w f e = elim (order-of (rank y) (rank x)) [
    | inl l ↦ rank-before y x e l
    | inr (inl q) ↦
        let s = halves y.place (part_of y.kind) x.place (part_of x.kind) (part-small y.kind) (part-small x.kind) q in
        let same : y ≡ x = same-place t own_reads y x j i e s.0 s.1 in
        absurd (write-is-no-read y is-write (subst (λ z. is_read z ≡ true) (sym same) r))
    | inr (inr l) ↦
        absurd (ordered-acyclic (Edge (is_edge t k on_location)) (events_of t) o.within_locations (bare x)
        (onward (bare x) (bare y) (bare x) (own-in x i)
        (of-bare t k on_location x y
        (po-edge t k x y (rank-before x y (sym e) l) (share x y (read-access x r) (write-access y is-write) (sym (location x.loc.0 y w)))))
        (at_once (bare y) (bare x) (own-in y j) (own-in x i) (of-bare t k on_location y x (rf-edge t k y x f)))))
  ]
    where
      is-write : is_write y ≡ true
      is-write = writes x.loc.0 y w

  -- a read before the source of a read x comes before x in the row
  earlier : (x y z : Entry) → IsIn own_events x → IsIn own_events y → IsIn own_events z → is_read x ≡ true → writes_to x.loc.0 y ≡ true
      → reads_from k y x ≡ true → is_read z ≡ true → is_before z y ≡ true → (i j : ℕ)
      → slice_get o.globally.in_a_row.row i ≡ Some (bare x) → slice_get o.globally.in_a_row.row j ≡ Some (bare z) → j < i
  earlier x y z ix iy iz rx w f rz b i j p q = elim (number y.core.0 x.core.0) [
    | inl e ↦ edge-places z x j i q p (read-edge model t k z x (before-trans z y x b (before-read x y ix iy rx w f e)) rz (read-access x rx))
    | inr n ↦
        let at = place y iy in
        let l : j < at.0 = edge-places z y j at.0 q at.1 (read-edge model t k z y b rz (write-access y (writes x.loc.0 y w))) in
        let m : at.0 < i = edge-places y x at.0 i at.1 p (other-edge model t k y x f n) in
        omega (arith, l, m)
  ]

  settle : (i : ℕ)
      → ((j : ℕ) → j < i → (z : Entry) → IsIn own_events z → is_read z ≡ true → slice_get o.globally.in_a_row.row j ≡ Some (bare z) → Settled z j)
      → (x : Entry) → IsIn own_events x → is_read x ≡ true → slice_get o.globally.in_a_row.row i ≡ Some (bare x) → Settled x i
  settle i below x ix rx at = go f.source.write refl
    where
      f : First t k.sources x
      f = first-source x ix rx

      value : (v : ℕ) → given_after rounds (bare x) ≡ Some v → x.value ≡ v
      value v e = returns-chosen t (given_after rounds) x ix rx ∙ ap or_zero e

      go : (s : Option Entry) → f.source.write ≡ s → Settled x i
      go None q =
          let given : (m : ℕ) → given_after m (bare x) ≡ Some (slice_index t.words x.loc.0) =
          (λ m. f.given (known_writes t k m) ∙ ap (λ s. returned_from t (known_writes t k m) (bare x) s) q) in
          let v : x.value ≡ slice_index t.words x.loc.0 = value (slice_index t.words x.loc.0) (given rounds) in
          let src : source_in own_events k.sources x ≡ None = f.from own_events ∙ ap (λ s. entry_of own_events s) q in
          record {
            at = λ m l. given m ∙ ap (λ n. Some n) (sym v);
            returns = subst (λ s. Returns t own_candidate x s) (sym src) v;
          }
      go (Some w) q = record {
        at = λ m l. given m l ∙ ap (λ n. Some n) (sym v);
        returns = subst (λ s. Returns t own_candidate x s) (sym src) (iy, to, v);
      }
        where
          p : IsPossibleSource t f.source.read (Some w)
          p = subst (λ s. IsPossibleSource t f.source.read s) q f.possible

          of : Of own_events w
          of = of-event t plain w p.0

          y : Entry
          y = of.entry

          iy : IsIn own_events y
          iy = of.inside

          same : bare w ≡ bare y
          same = ap bare of.same

          to : writes_to x.loc.0 y ≡ true
          to =
              let l : f.source.read.loc.0 ≡ x.loc.0 = ap (λ (z : Entry). z.loc.0) (same-bare f.source.read x f.same) in
              let a : writes_to x.loc.0 w ≡ true = subst (λ n. writes_to n w ≡ true) l p.1 in
              subst (λ z. writes_to x.loc.0 z ≡ true) of.same a

          writes : is_write y ≡ true
          writes = (and-both (is_write y) (y.loc.0 == x.loc.0) to).0

          reads : reads_from k y x ≡ true
          reads =
              f.among (λ (s : Source). is_write_of y s.write)
              (subst (λ s. is_write_of y s ≡ true) (sym q) (bare-same w y same))

          early : (m : ℕ) → i ≤ m → EarlyGiven (given_after m) own_events y
          early m l z iz rz b =
              let pz = place z iz in
              let n : pz.0 < i = earlier x y z ix iy iz rx to reads rz b i pz.0 at pz.1 in
              (below pz.0 n z iz rz pz.1).at m (omega (arith, n, l))

          known : (m : ℕ) → i < m → value_among (known_writes t k m) w ≡ Some y.value
          known zero l = absurd (omega arith)
          known (suc m) l =
              known-value t (given_after m) w y same
              (known-write t (given_after m) own_reads y o.six iy writes (early m (omega (arith, l))))

          given : (m : ℕ) → i < m → given_after m (bare x) ≡ Some y.value
          given m l =
              f.given (known_writes t k m) ∙ (ap (λ s. returned_from t (known_writes t k m) (bare x) s) q ∙ known m l)

          v : x.value ≡ y.value
          v = value y.value (given rounds (within i (bare x) at))

          src : source_in own_events k.sources x ≡ Some y
          src =
              f.from own_events
              ∙ (ap (λ s. entry_of own_events s) q ∙ found own_events w y (λ z iz h. one-own z y iz iy h) same iy)

  settled-to : (n i : ℕ) → i < n → (x : Entry) → IsIn own_events x → is_read x ≡ true
      → slice_get o.globally.in_a_row.row i ≡ Some (bare x) → Settled x i
  settled-to zero i l x ix rx at = absurd (omega arith)
  settled-to (suc n) i l x ix rx at =
      settle i (λ j m z iz rz q. settled-to n j (omega (arith, l, m)) z iz rz q) x ix rx at

  pub settled : (x : Entry) → IsIn own_events x → is_read x ≡ true → (i : ℕ) → slice_get o.globally.in_a_row.row i ≡ Some (bare x) → Settled x i
  settled x ix rx i at = settled-to (suc i) i (omega arith) x ix rx at

  -- after all rounds each read is given
  pub all-given : AllGiven (given_after rounds) own_events
  all-given x ix rx = let p = place x ix in (settled x ix rx p.0 p.1).at rounds (within p.0 (bare x) p.1)

  known-after : (y : Entry) → IsIn own_events y → is_write y ≡ true → (i : ℕ) → slice_get o.globally.in_a_row.row i ≡ Some (bare y)
      → (m : ℕ) → i < m → value_among (known_writes t k m) (bare y) ≡ Some y.value
  known-after y iy wy i at zero l = absurd (omega arith)
  known-after y iy wy i at (suc m) l =
      known-value t (given_after m) (bare y) y refl (known-write t (given_after m) own_reads y o.six iy wy early)
    where
      early : EarlyGiven (given_after m) own_events y
      early z iz rz b =
          let p = place z iz in
          let n : p.0 < i = edge-places z y p.0 i p.1 at (read-edge model t k z y b rz (write-access y wy)) in
          (settled z iz rz p.0 p.1).at m (omega (arith, n, l))

  -- and each write is known
  pub all-known-values : (y : Entry) → IsIn own_events y → is_write y ≡ true → value_among (all_known t k) (bare y) ≡ Some y.value
  all-known-values y iy wy = let p = place y iy in known-after y iy wy p.0 p.1 rounds (within p.0 (bare y) p.1)
