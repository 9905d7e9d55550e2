-- Closed states miss none of the ended ones, but for dead registers and exchanges of cores that are alike.
use Rattle.tso_laws.proofs.EagerVocabulary.{◌≡◌, ◌<◌, ◌⊎◌, ℕ, zero, suc, List, [], ◌∷◌, ◌++◌, Bool, true, length, inl, inr, refl, ap, sym}
use Rattle.tso_laws.proofs.EagerVocabulary.{◌∙◌, subst, Litmus, IsWellFormed, State, start, chosen, after_choice, run, Choice, state_after}
use Rattle.tso_laws.proofs.EagerVocabulary.{RunsStopWhereTheyEnd, lt-or, IsEager, IsDead, Reaches, IsSized, forgotten, AreAlike}
use Rattle.tso_laws.proofs.EagerVocabulary.{exchanged_choice, exchanged, exchanged_by, IsOneOf, AreOf, AreAllAlike, IsExchangeable}
use Rattle.tso_laws.proofs.EagerVocabulary.{LeadsEagerly, IsAmongStates, IsCovered, AreClosed, IsPartlyExpanded, ArePartlyClosed}
use Rattle.tso_laws.proofs.EagerVocabulary.{IsAlikeOneOf}
use Rattle.tso_laws.proofs.Waits.{eager-first}
use Rattle.tso_laws.proofs.Alike.{alike-after}
use Rattle.tso_laws.proofs.EagerAlike.{eager-alike, stubborn-alike}
use Rattle.tso_laws.proofs.First.{one-first}
use Rattle.tso_laws.proofs.Seeing.{forgotten-twice}
use Rattle.tso_laws.proofs.Names.{choice-twice, cores-exchanged}
use Rattle.tso_laws.proofs.Exchanging.{exchangeable, length-forgotten}
use Rattle.tso_laws.proofs.Beside.{beside, eager-alive, sized-after, sized-start, absent-same}

reaches-after : (d : ℕ) (t : Litmus) (s : State) (cs : List Choice) → Reaches d t (length cs) s (state_after t d s cs)
reaches-after d t s [] = refl
reaches-after d t s (c ∷ cs) = inr (c, reaches-after d t (after_choice t d s c) cs)

reaches-sized : (d : ℕ) (t : Litmus) (n : ℕ) (s last : State) → IsSized t s → Reaches d t n s last → IsSized t last
reaches-sized d t zero s last z q = subst (IsSized t) q z
reaches-sized d t (suc n) s last z (inl h) = reaches-sized d t n s last z h
reaches-sized d t (suc n) s last z (inr (c, h)) = reaches-sized d t n (after_choice t d s c) last (sized-after d t s c z) h

-- ---- one exchange

module _ (d : ℕ) (t : Litmus) (hidden : List (List Bool)) (pair : ℕ × ℕ) (law : IsExchangeable t hidden pair) where
  sized-one : (s : State) → IsSized t s → IsSized t (exchanged pair s)
  sized-one s z = record { words = z.words; cores = cores-exchanged pair s ∙ z.cores }

  dead-one : (last : State) → IsSized t last → IsDead d t last → IsDead d t (exchanged pair last)
  dead-one last z dead c =
      ap (after_choice t d (exchanged pair last)) (sym (choice-twice pair c)) ∙ law.after d last (exchanged_choice pair c) z.cores
      ∙ ap (exchanged pair) (dead (exchanged_choice pair c))

  reaches-one : (n : ℕ) (s last : State) → IsSized t s → Reaches d t n s last → Reaches d t n (exchanged pair s) (exchanged pair last)
  reaches-one zero s last z q = ap (exchanged pair) q
  reaches-one (suc n) s last z (inl h) = inl (reaches-one n s last z h)
  reaches-one (suc n) s last z (inr (c, h)) =
      inr (
        exchanged_choice pair c,
        subst (λ y. Reaches d t n y (exchanged pair last)) (sym (law.after d s c z.cores))
            (reaches-one n (after_choice t d s c) last (sized-after d t s c z) h),
      )

-- ---- some exchanges, one after the other

exchanged-append : (es fs : List (ℕ × ℕ)) (s : State) → exchanged_by (es ++ fs) s ≡ exchanged_by fs (exchanged_by es s)
exchanged-append [] fs s = refl
exchanged-append (e ∷ es) fs s = exchanged-append es fs (exchanged e s)

of-append : (pairs es fs : List (ℕ × ℕ)) → AreOf pairs es → AreOf pairs fs → AreOf pairs (es ++ fs)
of-append pairs [] fs h k = k
of-append pairs (e ∷ es) fs h k = (h.0, of-append pairs es fs h.1 k)

module _ (d : ℕ) (t : Litmus) (hidden : List (List Bool)) (pairs : List (ℕ × ℕ)) (alike : AreAllAlike t hidden pairs) where
  law : (e : ℕ × ℕ) → IsOneOf pairs e → IsExchangeable t hidden e
  law e m = exchangeable t hidden e (alike e m)

  sized-by : (es : List (ℕ × ℕ)) → AreOf pairs es → (s : State) → IsSized t s → IsSized t (exchanged_by es s)
  sized-by [] h s z = z
  sized-by (e ∷ es) h s z = sized-by es h.1 (exchanged e s) (sized-one d t hidden e (law e h.0) s z)

  dead-by : (es : List (ℕ × ℕ)) → AreOf pairs es → (last : State) → IsSized t last → IsDead d t last → IsDead d t (exchanged_by es last)
  dead-by [] h last z dead = dead
  dead-by (e ∷ es) h last z dead = dead-by es h.1 (exchanged e last) (sized-one d t hidden e (law e h.0) last z) (dead-one d t hidden e (law e h.0) last z dead)

  reaches-by : (es : List (ℕ × ℕ))
      → AreOf pairs es
      → (n : ℕ) (s last : State)
      → IsSized t s
      → Reaches d t n s last
      → Reaches d t n (exchanged_by es s) (exchanged_by es last)
  reaches-by [] h n s last z r = r
  reaches-by (e ∷ es) h n s last z r =
      reaches-by es h.1 n (exchanged e s) (exchanged e last) (sized-one d t hidden e (law e h.0) s z) (reaches-one d t hidden e (law e h.0) n s last z r)

  forgotten-by : (es : List (ℕ × ℕ))
      → AreOf pairs es
      → (s : State) → length s.cores ≡ length t.programs
      → forgotten t hidden (exchanged_by es s) ≡ exchanged_by es (forgotten t hidden s)
  forgotten-by [] h s n = refl
  forgotten-by (e ∷ es) h s n = forgotten-by es h.1 (exchanged e s) (cores-exchanged e s ∙ n) ∙ ap (exchanged_by es) ((law e h.0).dead s n)

  alike-by : (es : List (ℕ × ℕ)) → AreOf pairs es → (s r : State) → length s.cores ≡ length t.programs → length r.cores ≡ length t.programs
      → AreAlike t hidden s r → AreAlike t hidden (exchanged_by es s) (exchanged_by es r)
  alike-by es h s r n m a = forgotten-by es h s n ∙ ap (exchanged_by es) a ∙ sym (forgotten-by es h r m)

  sized-alike : (s r : State) → AreAlike t hidden s r → length r.cores ≡ length t.programs → length s.cores ≡ length t.programs
  sized-alike s r a n = sym (length-forgotten t hidden 0 s.cores) ∙ ap (λ z. length z.cores) a ∙ length-forgotten t hidden 0 r.cores ∙ n

-- ---- the states of a closed list

module _ (d : ℕ) (t : Litmus) (test : IsWellFormed t) where
  eager-one : (last : State)
      → IsDead d t last
      → (n : ℕ) (s : State) (e : Choice)
      → IsSized t s
      → IsEager d t s e
      → Reaches d t n s last
      → Reaches d t n (after_choice t d s e) last
  eager-one last dead zero s e z h q = absurd (eager-alive d t s e z h (subst (λ y. IsDead d t y) (sym q) dead))
  eager-one last dead (suc n) s e z h r = inl (eager-first d t (beside d t test) (eager-alive d t) (sized-after d t) last dead n s e z h r)

  module _ (hidden : List (List Bool)) where
    -- a state that is sized, is the other but for dead registers, and has the last state within reach
    record Follows (last : State) (n : ℕ) (s : State) : Type 0 where
      real : State
      sized : IsSized t real
      alike : AreAlike t hidden s real
      reaches : Reaches d t n real last

    -- along eager choices the last state stays within reach
    along : (last : State) → IsDead d t last → (n : ℕ) (s r : State) (es : List Choice) → LeadsEagerly d t s es r → Follows last n s → Follows last n r
    along last dead n s r [] q h = subst (λ y. Follows last n y) q h
    along last dead n s r (e ∷ es) l h =
        let eager = eager-alike t hidden s h.real h.alike d e l.0 in
        along last dead n (after_choice t d s e) r es l.1 (record {
          real = after_choice t d h.real e;
          sized = sized-after d t h.real e h.sized;
          alike = alike-after t hidden s h.real h.alike d e;
          reaches = eager-one last dead n h.real e h.sized eager h.reaches;
        })

    module _ (pairs : List (ℕ × ℕ)) (all : AreAllAlike t hidden pairs) (states : List State) (closed : ArePartlyClosed d t hidden pairs states) where
      -- what exchanges make of the state is alike one of the list, so the state is too
      unexchanged : (es : List (ℕ × ℕ))
          → AreOf pairs es
          → (last : State) → IsAlikeOneOf t hidden pairs states (exchanged_by es last)
          → IsAlikeOneOf t hidden pairs states last
      unexchanged es h last w = record {
        exchanges = es ++ w.exchanges;
        of_pairs = of-append pairs es w.exchanges h w.of_pairs;
        kept = w.kept;
        among = w.among;
        alike = w.alike ∙ ap (forgotten t hidden) (sym (exchanged-append es w.exchanges last));
      }

      -- that a state of the list stands for each that differs from it in dead registers alone
      abbrev StandsFor : ℕ → Type 0
      StandsFor n =
          (last : State) → IsDead d t last
          → (s u : State) → IsAmongStates states s
          → IsSized t u
          → AreAlike t hidden s u
          → Reaches d t n u last
          → IsAlikeOneOf t hidden pairs states last

      -- so does one that is in the list once cores are exchanged
      turned : (n : ℕ)
          → StandsFor n
          → (last : State) → IsDead d t last
          → (s : State) (es : List (ℕ × ℕ))
          → AreOf pairs es
          → IsAmongStates states (exchanged_by es (forgotten t hidden s))
          → Follows last n s
          → IsAlikeOneOf t hidden pairs states last
      turned n later last dead s es h m f =
          let there = reaches-sized d t n f.real last f.sized f.reaches in
          let n2 : length (forgotten t hidden s).cores ≡ length t.programs =
          length-forgotten t hidden 0 s.cores ∙ sized-alike d t hidden pairs all s f.real f.alike f.sized.cores in
          unexchanged es h last
          (later (exchanged_by es last) (dead-by d t hidden pairs all es h last there dead) (exchanged_by es (forgotten t hidden s)) (exchanged_by es f.real) m
          (sized-by d t hidden pairs all es h f.real f.sized)
          (alike-by d t hidden pairs all es h (forgotten t hidden s) f.real n2 f.sized.cores (forgotten-twice t hidden s ∙ f.alike))
          (reaches-by d t hidden pairs all es h n f.real last f.sized f.reaches))

      -- one choice, and then what is left of the way
      taken : (n : ℕ)
          → StandsFor n
          → (last : State) → IsDead d t last
          → (s u : State) → IsAmongStates states s
          → IsSized t u
          → AreAlike t hidden s u
          → (c : Choice) → Reaches d t n (after_choice t d u c) last
          → (chosen c < length t.programs
          → (after_choice t d s c ≡ s) ⊎ IsCovered d t hidden pairs states (after_choice t d s c))
          → IsAlikeOneOf t hidden pairs states last
      taken n later last dead s u m z a c h each =
          let after = alike-after t hidden s u a d c in
          let sized = sized-after d t u c z in
          elim (lt-or (length t.programs) (chosen c)) [
            | inr l ↦ later last dead s u m z a (subst (λ y. Reaches d t n y last) (absent-same d t u c z.cores l) h)
            | inl l ↦ elim (each l) [
              | inl q ↦ later last dead s (after_choice t d u c) m sized (subst (λ y. AreAlike t hidden y (after_choice t d u c)) q after) h
              | inr v ↦
                  turned n later last dead v.last v.exchanges v.of_pairs v.among
                  (along last dead n (after_choice t d s c) v.last v.eager v.leads (record {
                    real = after_choice t d u c;
                    sized = sized;
                    alike = after;
                    reaches = h;
                  }))
            ]
          ]

      -- one of a stubborn set, made first
      partly-taken : (n : ℕ) → StandsFor n → (last : State) → IsDead d t last → (s u : State) → IsAmongStates states s → IsSized t u → AreAlike t hidden s u
          → IsPartlyExpanded d t hidden pairs states s → Reaches d t (suc n) u last → IsAlikeOneOf t hidden pairs states last
      partly-taken n later last dead s u m z a part way =
          let f = one-first d t test part.set last dead n u z (stubborn-alike t hidden s u a d part.set part.stubborn) way in
          taken n later last dead s u m z a f.0 f.2 (part.each f.0 f.1)

      within : (n : ℕ) → StandsFor n
      within zero last dead s u m z a q = record { exchanges = []; of_pairs = tt; kept = s; among = m; alike = subst (λ y. AreAlike t hidden s y) q a }
      within (suc n) last dead s u m z a (inl h) = within n last dead s u m z a h
      within (suc n) last dead s u m z a (inr (c, h)) = elim (closed.each s m) [
        | inl all ↦ taken n (within n) last dead s u m z a c h (all c)
        | inr part ↦ partly-taken n (within n) last dead s u m z a part (inr (c, h))
      ]

      pub from-start : (last : State) → IsDead d t last → (n : ℕ) → Reaches d t n (start t) last → IsAlikeOneOf t hidden pairs states last
      from-start last dead n h =
          let f = closed.first in
          turned n (within n) last dead f.last f.exchanges f.of_pairs f.among
          (along last dead n (start t) f.last f.eager f.leads (record { real = start t; sized = sized-start t test; alike = refl; reaches = h }))

pub partly-miss-none : RunsStopWhereTheyEnd
    → (d : ℕ) (t : Litmus) (hidden : List (List Bool)) (pairs : List (ℕ × ℕ)) (states : List State) (choices : List Choice)
    → IsWellFormed t
    → AreAllAlike t hidden pairs
    → ArePartlyClosed d t hidden pairs states
    → (run t d choices).ended ≡ true
    → IsAlikeOneOf t hidden pairs states (run t d choices).state
partly-miss-none law d t hidden pairs states choices test all closed e =
    let r : State = (run t d choices).state in
    from-start d t test hidden pairs all states closed r (λ c. (law.nothing_more t d choices c e).same) (length choices)
    (subst (λ y. Reaches d t (length choices) (start t) y) (sym (law.stops t d choices).all_state) (reaches-after d t (start t) choices))

pub miss-none : RunsStopWhereTheyEnd
    → (d : ℕ) (t : Litmus) (hidden : List (List Bool)) (pairs : List (ℕ × ℕ)) (states : List State) (choices : List Choice)
    → IsWellFormed t
    → AreAllAlike t hidden pairs
    → AreClosed d t hidden pairs states
    → (run t d choices).ended ≡ true
    → IsAlikeOneOf t hidden pairs states (run t d choices).state
miss-none law d t hidden pairs states choices test all closed e =
    partly-miss-none law d t hidden pairs states choices test all (record { first = closed.first; each = λ s m. inl (closed.each s m) }) e
