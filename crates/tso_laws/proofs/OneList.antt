-- What a core's commits and pending writes keep, as one list, when an entry is added.
use Rattle.tso_laws.proofs.Vocabulary.{◌≡◌, ◌≢◌, ◌<◌, ◌≤◌, ℕ, ◌+◌, suc, List, [], ◌∷◌, ◌++◌, true, false, length, slice_index, arith, ap}
use Rattle.tso_laws.proofs.Vocabulary.{sym, ◌∙◌, refl, subst, ◌&&◌, length-append, nat_lt, ◌==◌, nat_tests, is_write, is_read, is_before}
use Rattle.tso_laws.proofs.Vocabulary.{writes_to, is_store, is_load, is_write_kind, is_read_kind, by-rank, rank, test-false, test-true}
use Rattle.tso_laws.proofs.Vocabulary.{and-false, before, Entry, Kind, R, W, LW, Each, each-insert, each-map, each-all, each-append}
use Rattle.tso_laws.proofs.Vocabulary.{each-left, each-right, Member, member-insert, member-inserted, append-nil}
use Rattle.tso_laws.proofs.Folds.{last_word, passed}
use Rattle.tso_laws.proofs.Entries.{Fine, Ordered, ordered-insert, Few, few-insert, passed-length, DueIn, Uncounted, OwnDue, due-insert}
use Rattle.tso_laws.proofs.Entries.{not_both, count, count-insert-own, count-insert-other, last_own-all}

abbrev pub Precedes : ℕ → ℕ → Entry → Type 0
Precedes c place e = e.core.0 ≡ c → rank e < place

-- a pending write of core c, to one of so many locations
pub record Queued (c locations : ℕ) (e : Entry) : Type 0 where
  pub own : e.core.0 ≡ c
  pub kind : e.kind ≡ W
  pub known : e.loc.0 < locations

-- the list has what core c has done before the place: in order, with the values that are due, and as many as were made
pub record OneList (d c place : ℕ) (words : List ℕ) (done list : List Entry) : Type 0 where
  pub preceding : Each (Precedes c place) list
  pub kept : Ordered d c list
  pub few : Few d c list
  pub due : DueIn c words [] list
  pub counted : length done ≡ count c list
  pub members : Each (λ e. Member e list) done

not_before : (c place : ℕ) (x e : Entry) → e.core.0 ≡ c → place ≤ rank e → Precedes c place x → is_before e x ≡ false
not_before c place x e k p h = by-rank e x ∙ (let z : ((e.core.0 == x.core.0) && nat_lt (rank e) (rank x)) ≡ false = grind (arith, nat_tests) in z)

apart : (x e : Entry) → x.core.0 ≢ e.core.0 → is_before x e ≡ false
apart x e k = grind (arith, nat_tests)

no_write : (loc : ℕ) (e : Entry) → is_read e ≡ true → writes_to loc e ≡ false
no_write loc e h = let w : is_write e ≡ false = reads_only e.kind h in rw w refl
  where
    reads_only : (k : Kind) → is_read_kind k ≡ true → is_write_kind k ≡ false
    reads_only W h = cc
    reads_only LW h = cc
    reads_only _ h = refl

-- an entry of another core
pub sees-other : (d c place : ℕ) (words : List ℕ) (done xs ys : List Entry) (e : Entry)
    → OneList d c place words done (xs ++ ys)
    → Each (λ y. is_write y ≡ true) ys
    → e.core.0 ≢ c → OneList d c place words done ((xs ++ (e ∷ [])) ++ ys)
sees-other d c place words done xs ys e h w n = record {
  preceding = each-insert (Precedes c place) xs ys e h.preceding (λ k. absurd (n k));
  kept = ordered-insert d c xs ys e h.kept (each-all (λ x. Fine d c x e) xs (λ x k b. absurd (n k)))
      (each-all (λ y. Fine d c e y) ys (λ y k b. let f : is_before y e ≡ false = apart y e (λ q. n (sym q ∙ k)) in absurd (let z : ⊥ = cc in z)));
  few =
      few-insert d c xs ys e h.few
      (each-all (λ x. x.core.0 ≡ c → (is_store e && is_before e x) ≡ false) xs (λ x k. rw (apart e x (λ q. n (q ∙ k))) (and-false (is_store e))))
      (λ k r. absurd (n k));
  due = due-insert c words [] xs ys e h.due w
      (each-all (Uncounted c e) xs (λ x k r. rw (apart e x (λ q. n (q ∙ k))) (and-false (writes_to x.loc.0 e)))) (λ k r. absurd (n k));
  counted = h.counted ∙ sym (count-insert-other c xs ys e (test-false e.core.0 c n));
  members = each-map (λ a. Member a (xs ++ ys)) (λ a. Member a ((xs ++ (e ∷ [])) ++ ys)) done (λ a m. member-insert a xs ys e m) h.members;
}

more-members : (done xs ys : List Entry) (e : Entry) → Each (λ a. Member a (xs ++ ys)) done → Each (λ a. Member a ((xs ++ (e ∷ [])) ++ ys)) (done ++ (e ∷ []))
more-members done xs ys e h =
    let P : Entry → Type 0 = λ a. Member a ((xs ++ (e ∷ [])) ++ ys) in
    each-append P done (e ∷ []) (each-map (λ a. Member a (xs ++ ys)) P done (λ a m. member-insert a xs ys e m) h) (member-inserted xs ys e, tt)

more-count : (c : ℕ) (done xs ys : List Entry) (e : Entry)
    → e.core.0 ≡ c
    → length done ≡ count c (xs ++ ys)
    → length (done ++ (e ∷ [])) ≡ count c ((xs ++ (e ∷ [])) ++ ys)
more-count c done xs ys e k h =
    length-append done (e ∷ [])
    ∙ (let q : length done + 1 ≡ suc (count c (xs ++ ys)) = omega arith in q)
    ∙ sym (count-insert-own c xs ys e (test-true e.core.0 c k))

one-more : (c place next : ℕ) (xs : List Entry) → place ≤ next → Each (Precedes c place) xs → Each (Precedes c next) xs
one-more c place next xs m h = each-map (Precedes c place) (Precedes c next) xs (λ x f k. let l = f k in omega (arith, l)) h

-- with nothing new the core may be further on
pub sees-later : (d c place next : ℕ) (words : List ℕ) (done xs : List Entry) → place ≤ next → OneList d c place words done xs → OneList d c next words done xs
sees-later d c place next words done xs m h = record {
  preceding = one-more c place next xs m h.preceding;
  kept = h.kept;
  few = h.few;
  due = h.due;
  counted = h.counted;
  members = h.members;
}

-- an entry of the core, at the place, that no later entry must come before
pub sees-own : (d c place next : ℕ) (words : List ℕ) (done xs ys : List Entry) (e : Entry)
    → OneList d c place words done (xs ++ ys)
    → Each (λ y. is_write y ≡ true) ys
    → e.core.0 ≡ c
    → place ≤ rank e
    → rank e < next
    → Each (λ y. Fine d c e y) ys
    → Each (Uncounted c e) xs
    → OwnDue c words xs ys e
    → (is_load e ≡ true → passed e ys ≤ d)
    → OneList d c next words (done ++ (e ∷ [])) ((xs ++ (e ∷ [])) ++ ys)
sees-own d c place next words done xs ys e h w k p l later uncounted own few = record {
  preceding =
      each-insert (Precedes c next) xs ys e
      (one-more c place next (xs ++ ys) (let m : rank e ≤ next = omega (arith, l) in omega (arith, p, l)) h.preceding)
      (λ q. l);
  kept = ordered-insert d c xs ys e h.kept
      (each-map (Precedes c place) (λ x. Fine d c x e) xs
      (λ x b q t. let f : is_before e x ≡ false = not_before c place x e k p b in absurd (let z : ⊥ = cc in z))
      (each-left (Precedes c place) xs ys h.preceding))
      later;
  few = few-insert d c xs ys e h.few (each-map (Precedes c place) (λ x. x.core.0 ≡ c → (is_store e && is_before e x) ≡ false) xs
      (λ x b q. rw (not_before c place x e k p b) (and-false (is_store e))) (each-left (Precedes c place) xs ys h.preceding)) (λ q. few);
  due = due-insert c words [] xs ys e h.due w uncounted own;
  counted = more-count c done xs ys e k h.counted;
  members = more-members done xs ys e h.members;
}

-- a load of the core, with the value of the newest pending write, else of the last commit
pub sees-load : (d c place next : ℕ) (words : List ℕ) (done xs ys : List Entry) (e : Entry)
    → OneList d c place words done (xs ++ ys)
    → Each (Queued c (length words)) ys
    → length ys ≤ d
    → e.core.0 ≡ c → place ≤ rank e → rank e < next → e.kind ≡ R → e.value ≡ last_word e.loc.0 ys (last_word e.loc.0 xs (slice_index words e.loc.0))
    → OneList d c next words (done ++ (e ∷ [])) ((xs ++ (e ∷ [])) ++ ys)
sees-load d c place next words done xs ys e h q n k p l r v =
    sees-own d c place next words done xs ys e h (each-map (Queued c (length words)) (λ y. is_write y ≡ true) ys (λ y z. ap is_write_kind z.kind) q) k p l
    (later ys q (room ys n))
    (each-all (Uncounted c e) xs (λ x b t. rw (no_write x.loc.0 e (ap is_read_kind r)) refl))
    (λ b t. v ∙ sym (last_own-all e ys _ (all_before ys q (each-right (Precedes c place) xs ys h.preceding))))
    (λ t. let m = passed-length e ys in omega arith)
  where
    room : (zs : List Entry) → length zs ≤ d → Each (λ z. 0 < d) zs
    room [] m = tt
    room (z ∷ zs) m = (omega arith, each-all (λ z. 0 < d) zs (λ x. omega arith))

    later : (zs : List Entry) → Each (Queued c (length words)) zs → Each (λ z. 0 < d) zs → Each (Fine d c e) zs
    later [] a b = tt
    later (z ∷ zs) a b = (λ t u. (rw (a.0.kind, r) refl, b.0), later zs a.1 b.1)

    all_before : (zs : List Entry) → Each (Queued c (length words)) zs → Each (Precedes c place) zs → Each (λ y. is_before y e ≡ true) zs
    all_before [] a b = tt
    all_before (z ∷ zs) a b = (before z e (a.0.own ∙ sym k) (let l = b.0 a.0.own in omega (arith, l, p)), all_before zs a.1 b.1)

-- a store of the core, at the end
pub sees-store : (d c place next : ℕ) (words : List ℕ) (done xs : List Entry) (e : Entry) → OneList d c place words done xs
    → e.core.0 ≡ c → place ≤ rank e → rank e < next → is_write e ≡ true → OneList d c next words (done ++ (e ∷ [])) (xs ++ (e ∷ []))
sees-store d c place next words done xs e h k p m w =
    subst (λ l. OneList d c next words (done ++ (e ∷ [])) l) (append-nil (xs ++ (e ∷ [])))
    (sees-own d c place next words done xs [] e (subst (λ l. OneList d c place words done l) (sym (append-nil xs)) h) tt k p m tt
    (each-map (Precedes c place) (Uncounted c e) xs (λ x b q r. rw (not_before c place x e k p b) (and-false (writes_to x.loc.0 e))) h.preceding)
    (λ q r. absurd (let f : is_read e ≡ false = not_both e.kind w in let z : ⊥ = cc in z)) (λ t. omega arith))

-- an entry of the core that writes nothing, at the end
pub sees-last : (d c place next : ℕ) (words : List ℕ) (done xs : List Entry) (e : Entry) → OneList d c place words done xs
    → e.core.0 ≡ c
    → place ≤ rank e
    → rank e < next
    → is_write e ≡ false
    → (is_read e ≡ true → e.value ≡ last_word e.loc.0 xs (slice_index words e.loc.0))
    → OneList d c next words (done ++ (e ∷ [])) (xs ++ (e ∷ []))
sees-last d c place next words done xs e h k p m w v =
    subst (λ l. OneList d c next words (done ++ (e ∷ [])) l) (append-nil (xs ++ (e ∷ [])))
    (sees-own d c place next words done xs [] e (subst (λ l. OneList d c place words done l) (sym (append-nil xs)) h) tt k p m tt
    (each-all (Uncounted c e) xs (λ x b t. rw w refl))
    (λ q r. v r) (λ t. omega arith))
