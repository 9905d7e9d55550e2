-- Exchanges of cores that are alike, in choices that lead from the first state to another one.
use Rattle.explorer.proofs.Vocabulary.{◌≡◌, ◌<◌, ℕ, ◌+◌, zero, suc, Bool, true, false, List, [], ◌∷◌, ◌++◌, length, map, Some, slice_get}
use Rattle.explorer.proofs.Vocabulary.{if◌then◌else◌, ◌==◌, ap, sym, ◌∙◌, subst, refl, append_assoc, length-set, length-map, length-swap}
use Rattle.explorer.proofs.Vocabulary.{Litmus, State, started, start, effect_of, after_choice, chosen, stall_count, Instr, Choice, Step}
use Rattle.explorer.proofs.Vocabulary.{Drain, forgotten, exchanged_core, exchanged_choice, renamed, exchanged, exchanged_by, AreOf}
use Rattle.explorer.proofs.Vocabulary.{CoresAreAlike, AreAllAlike, IsExchangeable, AlikeCoresAreExchangeable, LeadsBy, LeadsToForgotten}
use Rattle.explorer.proofs.Vocabulary.{played, Made, Exchanged, append-nil}

-- ---- pairs

pub first-alike : (t : Litmus) (hidden : List (List Bool)) (e : ℕ × ℕ) (es : List (ℕ × ℕ)) → AreAllAlike t hidden (e ∷ es) → CoresAreAlike t hidden e
first-alike t hidden e es h = h e (0, refl)

pub rest-alike : (t : Litmus) (hidden : List (List Bool)) (e : ℕ × ℕ) (es : List (ℕ × ℕ)) → AreAllAlike t hidden (e ∷ es) → AreAllAlike t hidden es
rest-alike t hidden e es h = λ pair m. h pair (suc m.0, m.1)

pub none-alike : (t : Litmus) (hidden : List (List Bool)) (es : List (ℕ × ℕ)) → es ≡ [] → AreAllAlike t hidden es
none-alike t hidden es q = λ pair m. absurd (none m.0 pair (subst (λ z. slice_get z m.0 ≡ Some pair) q m.1))
  where
    none : (i : ℕ) (pair : ℕ × ℕ) → slice_get [] i ≡ Some pair → ⊥
    none i pair p = let z : ⊥ = cc in z

pub of-alike : (t : Litmus) (hidden : List (List Bool)) (pairs es : List (ℕ × ℕ)) → AreAllAlike t hidden pairs → AreOf pairs es → AreAllAlike t hidden es
of-alike t hidden pairs es h k = λ pair m. go es k m.0 pair m.1
  where
    go : (es : List (ℕ × ℕ)) → AreOf pairs es → (i : ℕ) (pair : ℕ × ℕ) → slice_get es i ≡ Some pair → CoresAreAlike t hidden pair
    go [] k i pair q = absurd (let z : ⊥ = cc in z)
    go (e ∷ es) k zero pair q = let z : e ≡ pair = cc in subst (CoresAreAlike t hidden) z (h e k.0)
    go (e ∷ es) k (suc i) pair q = go es k.1 i pair q

-- ---- how many cores there are

pub start-cores : (t : Litmus) → length (start t).cores ≡ length t.programs
start-cores t = go 0 t.programs t.registers
  where
    go : (c : ℕ) (ps : List (List Instr)) (rs : List (List ℕ)) → length (started c ps rs) ≡ length ps
    go c [] rs = refl
    go c (p ∷ ps) rs = ap suc (go (c + 1) ps rs)

pub length-exchanged : (pair : ℕ × ℕ) (s : State) → length (exchanged pair s).cores ≡ length s.cores
length-exchanged pair s = length-swap (map (renamed pair) s.cores) pair.0 pair.1 ∙ length-map s.cores (renamed pair)

pub leads-length : (d : ℕ) (t : Litmus) (s : State) (cs : List Choice) (r : State) → LeadsBy d t s cs r → length r.cores ≡ length s.cores
leads-length d t s [] r q = ap (λ z. length z.cores) (sym q)
leads-length d t s (c ∷ cs) r l = leads-length d t (after_choice t d s c) cs r l.2 ∙ length-set s.cores (chosen c) (effect_of t d s c).after

core-within : (pair : ℕ × ℕ) (n k : ℕ) → pair.0 < n → pair.1 < n → k < n → exchanged_core pair k < n
core-within pair n k p q l = go (k == pair.0) (k == pair.1)
  where
    go : (b c : Bool) → (if b then pair.1 else (if c then pair.0 else k)) < n
    go true c = q
    go false true = p
    go false false = l

chosen-within : (pair : ℕ × ℕ) (n : ℕ) (c : Choice) → pair.0 < n → pair.1 < n → chosen c < n → chosen (exchanged_choice pair c) < n
chosen-within pair n (Step k) p q l = core-within pair n k.0 p q l
chosen-within pair n (Drain k) p q l = core-within pair n k.0 p q l

-- ---- choices with cores exchanged

-- these exchanges, one after the other, in each of the choices
abbrev pub exchanged_choices : List (ℕ × ℕ) → List Choice → List Choice
exchanged_choices [] choices = choices
exchanged_choices (pair ∷ pairs) choices = exchanged_choices pairs (map (exchanged_choice pair) choices)

played-exchanges : (es : List (ℕ × ℕ)) (cs : List Choice) → played (map Exchanged es) cs ≡ exchanged_choices es cs
played-exchanges [] cs = refl
played-exchanges (e ∷ es) cs = played-exchanges es (map (exchanged_choice e) cs)

pub played-is : (ds : List Choice) (es : List (ℕ × ℕ)) (cs : List Choice) → played (map Made ds ++ map Exchanged es) cs ≡ exchanged_choices es (cs ++ ds)
played-is [] es cs = played-exchanges es cs ∙ ap (exchanged_choices es) (sym (append-nil cs))
played-is (d ∷ ds) es cs = played-is ds es (cs ++ d ∷ []) ∙ ap (exchanged_choices es) (append_assoc cs (d ∷ []) ds)

module _ (d : ℕ) (t : Litmus) (hidden : List (List Bool)) where
  leads-one : (pair : ℕ × ℕ)
      → CoresAreAlike t hidden pair
      → IsExchangeable t hidden pair
      → (s : State) (cs : List Choice) (r : State)
      → length s.cores ≡ length t.programs
      → LeadsBy d t s cs r
      → LeadsBy d t (exchanged pair s) (map (exchanged_choice pair) cs) (exchanged pair r)
  leads-one pair h law s [] r n q = ap (exchanged pair) q
  leads-one pair h law s (c ∷ cs) r n l = (
    chosen-within pair (length t.programs) c h.first h.second l.0,
    ap stall_count (law.outcome d s c n) ∙ l.1,
    subst (λ z. LeadsBy d t z (map (exchanged_choice pair) cs) (exchanged pair r)) (sym (law.after d s c n))
        (leads-one pair h law (after_choice t d s c) cs r (length-set s.cores (chosen c) (effect_of t d s c).after ∙ n) l.2),
  )

  module _ (law : AlikeCoresAreExchangeable) where
    leads-by : (es : List (ℕ × ℕ))
        → AreAllAlike t hidden es
        → (s : State) (cs : List Choice) (r : State)
        → length s.cores ≡ length t.programs
        → LeadsBy d t s cs r
        → LeadsBy d t (exchanged_by es s) (exchanged_choices es cs) (exchanged_by es r)
    leads-by [] h s cs r n l = l
    leads-by (e ∷ es) h s cs r n l =
        let a = first-alike t hidden e es h in
        leads-by es (rest-alike t hidden e es h) (exchanged e s) (map (exchanged_choice e) cs) (exchanged e r)
        (length-exchanged e s ∙ n) (leads-one e a (law t hidden e a) s cs r n l)

    start-by : (es : List (ℕ × ℕ)) → AreAllAlike t hidden es → exchanged_by es (start t) ≡ start t
    start-by [] h = refl
    start-by (e ∷ es) h = ap (exchanged_by es) (law t hidden e (first-alike t hidden e es h)).first ∙ start-by es (rest-alike t hidden e es h)

    forgotten-by : (es : List (ℕ × ℕ))
        → AreAllAlike t hidden es
        → (s : State) → length s.cores ≡ length t.programs
        → forgotten t hidden (exchanged_by es s) ≡ exchanged_by es (forgotten t hidden s)
    forgotten-by [] h s n = refl
    forgotten-by (e ∷ es) h s n =
        forgotten-by es (rest-alike t hidden e es h) (exchanged e s) (length-exchanged e s ∙ n)
        ∙ ap (exchanged_by es) ((law t hidden e (first-alike t hidden e es h)).dead s n)

    -- what choices lead to from the first state, those with cores exchanged lead to with these exchanged
    pub leads-exchanged : (cs : List Choice) (es : List (ℕ × ℕ)) (r : State) → AreAllAlike t hidden es → LeadsBy d t (start t) cs r
        → LeadsToForgotten d t hidden (start t) (exchanged_choices es cs) (exchanged_by es (forgotten t hidden r))
    leads-exchanged cs es r h l = record {
      last = exchanged_by es r;
      leads = subst (λ z. LeadsBy d t z (exchanged_choices es cs) (exchanged_by es r)) (start-by es h) (leads-by es h (start t) cs r (start-cores t) l);
      kept_is = forgotten-by es h r (leads-length d t (start t) cs r l ∙ start-cores t);
    }
