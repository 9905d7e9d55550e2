-- What a tree writes and which path it takes rest on what it reads before: where these values are of a domain, so are they.
use Rattle.std.proofs.Common.{◌≡◌, ℕ, ◌+◌, List, [], ◌∷◌, ◌++◌, map, Some, true, false, if◌then◌else◌, ◌<◌, ◌≤◌, slice_index, drop, arith}
use Rattle.std.proofs.Common.{ap, sym, ◌∙◌, refl, subst, inl, inr}
use Rattle.std.proofs.lemmas.Bool.Decides.{nat_tests}
use Rattle.basic_laws.proofs.Basics.{before, test-true}
use Rattle.basic_laws.proofs.Lists.{Each, each-map}
use Rattle.tso_terms.specs.Thread.{entry}
use Rattle.tso_terms.specs.ProgramOrder.{is_before, is_read, is_write}
use Rattle.tso_terms.specs.ProgramEntries.{read_value}
use Rattle.basic_laws.specs.Types.{Entry, Loc, R, LR, LW}
use Rattle.branch_laws.specs.Trees.{Tree, Done, Cut, Reads, Stores, Fences, Locks, written, entries_along, values_along, outputs_along}
use Rattle.branch_laws.specs.Rounds.{StandsAmong, seen_at, may_write, all_paths}
use Rattle.branch_laws.proofs.Among.{among-left, among-right, among-map, among-for-each}

-- where the entries of a tree stand
pub record IsPlaced (c p : ℕ) (e : Entry) : Type 0 where
  pub core : e.core.0 ≡ c
  pub place : p ≤ e.place

further : (c p q : ℕ) (es : List Entry) → q ≤ p → Each (IsPlaced c p) es → Each (IsPlaced c q) es
further c p q es l h = each-map (IsPlaced c p) (IsPlaced c q) es (λ e k. record { core = k.core; place = (let z = k.place in omega arith) }) h

pub placed : (c p : ℕ) (tree : Tree) (values : List ℕ) → Each (IsPlaced c p) (entries_along c p tree values)
placed c p (Done outputs) values = tt
placed c p Cut values = tt
placed c p (Reads loc next) values =
    (record { core = refl; place = omega arith }, further c (p + 1) p _ (omega arith) (placed c (p + 1) (next (slice_index values 0)) (drop 1 values)))
placed c p (Stores loc value next) values = (record { core = refl; place = omega arith }, further c (p + 1) p _ (omega arith) (placed c (p + 1) next values))
placed c p (Fences next) values = (record { core = refl; place = omega arith }, further c (p + 1) p _ (omega arith) (placed c (p + 1) next values))
placed c p (Locks loc change next) values = (
  record { core = refl; place = omega arith },
  (
    record { core = refl; place = omega arith },
    further c ((p + 1) + 1) p _ (omega arith) (placed c ((p + 1) + 1) (next (slice_index values 0)) (drop 1 values)),
  ),
)

pub each-among : {A : Type 0} (P : A → Type 0) (x : A) (xs : List A) → Each P xs → StandsAmong x xs → P x
each-among P x [] h k = absurd k
each-among P x (y ∷ xs) h (inl q) = subst P (sym q) h.0
each-among P x (y ∷ xs) h (inr k) = each-among P x xs h.1 k

-- the value of an entry is one of its location's
abbrev pub IsOf : (ℕ → List ℕ) → Entry → Type 0
IsOf domain e = StandsAmong e.value (domain e.loc.0)

-- the reads of these entries that come before w have values of the domains
abbrev pub ReadsBefore : (ℕ → List ℕ) → Entry → List Entry → Type 0
ReadsBefore domain w es = (r : Entry) → StandsAmong r es → is_read r ≡ true → is_before r w ≡ true → IsOf domain r

pub seen-here : (loc : Loc) (value : ℕ) → StandsAmong value (seen_at loc.0 loc value)
seen-here loc value = subst (λ z. StandsAmong value (if z then value ∷ [] else [])) (sym (test-true loc.0 loc.0 refl)) (inl refl)

earlier : (x w : Entry) (c p : ℕ) → x.core.0 ≡ c → x.place ≤ p → IsPlaced c (p + 1) w → is_before x w ≡ true
earlier x w c p e l h = before-place x w (e ∙ sym h.core) (let z = h.place in omega arith)
  where
    before-place : (x w : Entry) → x.core.0 ≡ w.core.0 → x.place < w.place → is_before x w ≡ true
    before-place x w e l = grind (arith, nat_tests)

own-part : (c p : ℕ) (loc : Loc) (v u : ℕ) → is_before (entry c p LR loc v) (entry c p LW loc u) ≡ true
own-part c p loc v u = before (entry c p LR loc v) (entry c p LW loc u) refl (omega arith)

pub write-rests : (domain : ℕ → List ℕ) (c p : ℕ) (tree : Tree) (order : List Entry) (w : Entry)
    → StandsAmong w (entries_along c p tree (values_along c p tree order)) → is_write w ≡ true
    → ReadsBefore domain w (entries_along c p tree (values_along c p tree order)) → StandsAmong w.value (may_write domain w.loc.0 tree)
write-rests domain c p (Done outputs) order w m i f = absurd m
write-rests domain c p Cut order w m i f = absurd m
write-rests domain c p (Reads loc next) order w (inl q) i f = absurd (let z : false ≡ true = ap is_write (sym q) ∙ i in let y : ⊥ = cc in y)
write-rests domain c p (Reads loc next) order w (inr m) i f =
    let v : ℕ = read_value c p R order in
    let h = each-among (IsPlaced c (p + 1)) w _ (placed c (p + 1) (next v) (values_along c (p + 1) (next v) order)) m in
    among-for-each w.value v (domain loc.0) (λ v. may_write domain w.loc.0 (next v))
    (f (entry c p R loc v) (inl refl) refl (earlier (entry c p R loc v) w c p refl (omega arith) h))
    (write-rests domain c (p + 1) (next v) order w m i (λ r k. f r (inr k)))
write-rests domain c p (Stores loc value next) order w (inl q) i f =
    among-left w.value (seen_at w.loc.0 loc value) (may_write domain w.loc.0 next)
    (subst (λ z. StandsAmong z.value (seen_at z.loc.0 loc value)) (sym q) (seen-here loc value))
write-rests domain c p (Stores loc value next) order w (inr m) i f =
    among-right w.value (seen_at w.loc.0 loc value) (may_write domain w.loc.0 next) (write-rests domain c (p + 1) next order w m i (λ r k. f r (inr k)))
write-rests domain c p (Fences next) order w (inl q) i f = absurd (let z : false ≡ true = ap is_write (sym q) ∙ i in let y : ⊥ = cc in y)
write-rests domain c p (Fences next) order w (inr m) i f = write-rests domain c (p + 1) next order w m i (λ r k. f r (inr k))
write-rests domain c p (Locks loc change next) order w (inl q) i f = absurd (let z : false ≡ true = ap is_write (sym q) ∙ i in let y : ⊥ = cc in y)
write-rests domain c p (Locks loc change next) order w (inr (inl q)) i f =
    let v : ℕ = read_value c (p + 1) LR order in
    among-for-each w.value v (domain loc.0) (λ v. seen_at w.loc.0 loc (written change v) ++ may_write domain w.loc.0 (next v))
    (f (entry c (p + 1) LR loc v) (inl refl) refl
    (subst (λ z. is_before (entry c (p + 1) LR loc v) z ≡ true) (sym q) (own-part c (p + 1) loc v (written change v))))
    (among-left w.value (seen_at w.loc.0 loc (written change v)) (may_write domain w.loc.0 (next v))
    (subst (λ z. StandsAmong z.value (seen_at z.loc.0 loc (written change v))) (sym q) (seen-here loc (written change v))))
write-rests domain c p (Locks loc change next) order w (inr (inr m)) i f =
    let v : ℕ = read_value c (p + 1) LR order in
    let h = each-among (IsPlaced c ((p + 1) + 1)) w _ (placed c ((p + 1) + 1) (next v) (values_along c ((p + 1) + 1) (next v) order)) m in
    among-for-each w.value v (domain loc.0) (λ v. seen_at w.loc.0 loc (written change v) ++ may_write domain w.loc.0 (next v))
    (f (entry c (p + 1) LR loc v) (inl refl) refl (earlier (entry c (p + 1) LR loc v) w c (p + 1) refl (omega arith) h))
    (among-right w.value (seen_at w.loc.0 loc (written change v)) (may_write domain w.loc.0 (next v))
    (write-rests domain c ((p + 1) + 1) (next v) order w m i (λ r k. f r (inr (inr k)))))

pub path-rests : (domain : ℕ → List ℕ) (c p : ℕ) (tree : Tree) (order : List Entry) (outputs : List ℕ)
    → outputs_along tree (values_along c p tree order) ≡ Some outputs
    → ((r : Entry) → StandsAmong r (entries_along c p tree (values_along c p tree order)) → is_read r ≡ true → IsOf domain r)
    → StandsAmong (values_along c p tree order) (all_paths domain tree)
path-rests domain c p (Done o) order outputs e f = inl refl
path-rests domain c p Cut order outputs e f = absurd (let z : ⊥ = cc in z)
path-rests domain c p (Reads loc next) order outputs e f =
    let v : ℕ = read_value c p R order in let rest : List ℕ = values_along c (p + 1) (next v) order in
    among-for-each (v ∷ rest) v (domain loc.0) (λ v. map (λ z. v ∷ z) (all_paths domain (next v))) (f (entry c p R loc v) (inl refl) refl)
    (among-map (λ z. v ∷ z) rest (all_paths domain (next v)) (path-rests domain c (p + 1) (next v) order outputs e (λ r k. f r (inr k))))
path-rests domain c p (Stores loc value next) order outputs e f = path-rests domain c (p + 1) next order outputs e (λ r k. f r (inr k))
path-rests domain c p (Fences next) order outputs e f = path-rests domain c (p + 1) next order outputs e (λ r k. f r (inr k))
path-rests domain c p (Locks loc change next) order outputs e f =
    let v : ℕ = read_value c (p + 1) LR order in let rest : List ℕ = values_along c ((p + 1) + 1) (next v) order in
    among-for-each (v ∷ rest) v (domain loc.0) (λ v. map (λ z. v ∷ z) (all_paths domain (next v))) (f (entry c (p + 1) LR loc v) (inl refl) refl)
    (among-map (λ z. v ∷ z) rest (all_paths domain (next v)) (path-rests domain c ((p + 1) + 1) (next v) order outputs e (λ r k. f r (inr (inr k)))))
