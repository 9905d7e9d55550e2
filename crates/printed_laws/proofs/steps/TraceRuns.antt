-- The steps of two traces of a test are the same where their choices are, and the JSON value of a trace tells its steps.
use Rattle.printed_laws.proofs.Vocabulary.{◌≡◌, ◌∙◌, ℕ, Bool, true, false, if◌then◌else◌, List, [], ◌∷◌, map, length, refl, sym, ap, subst}
use Rattle.printed_laws.proofs.Vocabulary.{arith, Data, items_of, outline, items_outline, Litmus, IsTest, has_ended, CoresExist, Choice}
use Rattle.printed_laws.proofs.Vocabulary.{table_of, ProtocolKind, Configuration, IsConfigurationWithinLimits, Running, new_machine}
use Rattle.printed_laws.proofs.Vocabulary.{machine_after, trace_step_of, steps_from, trace_under, IsTraced, traced-first, traced-next}
use Rattle.printed_laws.proofs.Vocabulary.{words_per_line, machine_json, step_json, own_words, Sourced, sourced_by, step_to, steps_json}
use Rattle.printed_laws.proofs.Vocabulary.{trace_json, told_by_object, TraceStepFits, ShownStep}
use Rattle.json.specs.Json as json
use Rattle.printed_laws.proofs.json.JsonTexts.{value_at, items_in, first_item, more_items, has_item, uneven}
use Rattle.printed_laws.proofs.steps.StepsFit.{MachineFits, fits-first, fits-next, step-fits}
use Rattle.printed_laws.proofs.steps.TraceObjects.{step-told}

-- ---- the choices of steps make them again

abbrev pub choices_of : List ShownStep → List Choice
choices_of steps = map (λ s. s.choice) steps

chosen-is : (m : Running) (choice : Choice) → (trace_step_of m choice).choice ≡ choice
unfolding trace_step_of
chosen-is m choice = refl

again : (m : Running) (choices : List Choice) → steps_from m (choices_of (steps_from m choices)) ≡ steps_from m choices
again m [] = refl
again m (choice ∷ choices) = by_end (has_ended m.test m.state.flat) refl (again (machine_after m choice) choices)
  where
    by_end : (ended : Bool)
        → has_ended m.test m.state.flat ≡ ended
        → steps_from (machine_after m choice) (choices_of (steps_from (machine_after m choice) choices))
        ≡ steps_from (machine_after m choice) choices
        → steps_from m (choices_of (if ended then [] else trace_step_of m choice ∷ steps_from (machine_after m choice) choices))
        ≡ (if ended then [] else trace_step_of m choice ∷ steps_from (machine_after m choice) choices)
    by_end true is further = refl
    by_end false is further =
        let next = machine_after m choice in
        let later = choices_of (steps_from next choices) in
        ap (λ (c : Choice). steps_from m (c ∷ later)) (chosen-is m choice)
        ∙ (ap (λ (b : Bool). if b then [] else trace_step_of m choice ∷ steps_from next later) is
        ∙ ap (λ (ss : List ShownStep). trace_step_of m choice ∷ ss) further)

pub same-steps : (t : Litmus) (kind : ProtocolKind) (c : Configuration) (choices other : List Choice)
    → choices_of (trace_under t kind c choices) ≡ choices_of (trace_under t kind c other)
    → trace_under t kind c choices ≡ trace_under t kind c other
same-steps t kind c choices other same =
    let m = new_machine (table_of kind) c t in
    sym (again m choices) ∙ (ap (steps_from m) same ∙ again m other)

-- a view of a step that tells its choice
pub choices-told : (view : ShownStep → ShownStep)
    → ((s : ShownStep) → (view s).choice ≡ s.choice)
    → (xs ys : List ShownStep) → map view xs ≡ map view ys
    → choices_of xs ≡ choices_of ys
choices-told view keeps xs ys same = sym (kept xs) ∙ (ap choices_of same ∙ kept ys)
  where
    kept : (ss : List ShownStep) → choices_of (map view ss) ≡ choices_of ss
    kept [] = refl
    kept (s ∷ ss) = λ i. keeps s i ∷ kept ss i

-- ---- the steps in a value

-- a step with the machine after it, by the test and the configuration
as-step : (t : Litmus) (c : Configuration) (s : Sourced) (next : Running) (own : List ℕ)
    → IsTraced t c next
    → step_to s next own ≡ step_json t c.shape.words s.step s.supplied (machine_json next own)
as-step t c s next own traced =
    ap (λ (u : Litmus). step_json u (words_per_line next) s.step s.supplied (machine_json next own)) traced.test
    ∙ ap (λ (x : Configuration). step_json t x.shape.words s.step s.supplied (machine_json next own)) traced.config

-- a machine on which choices of the test's cores are made
record Makes (t : Litmus) (c : Configuration) (m : Running) (choices : List Choice) : Type 0 where
  within : IsConfigurationWithinLimits c
  traced : IsTraced t c m
  exist : CoresExist (length t.programs) choices
  fits : MachineFits m

module _ (t : Litmus) (c d : Configuration) (test : IsTest t) (words : d.shape.words ≡ c.shape.words) where
  makes-next : (x : Configuration) (m : Running) (choice : Choice) (choices : List Choice)
      → Makes t x m (choice ∷ choices)
      → Makes t x (machine_after m choice) choices
  makes-next x m choice choices f =
      let few = test.cores in
      let here = f.exist.0 in
      record {
        within = f.within;
        traced = traced-next t x m choice test f.traced;
        exist = f.exist.1;
        fits = fits-next m choice (omega (arith, few, here)) f.fits;
      }

  abbrev Value : Running → List ℕ → List Choice → json.Items
  Value m own choices = items_outline (items_of (steps_json m own choices))

  first-told : (m n : Running) (x y : Choice) (xs ys : List Choice) (own other : List ℕ) → Makes t c m (x ∷ xs) → Makes t d n (y ∷ ys)
      → outline (step_to (sourced_by m x) (machine_after m x) own)
      ≡ outline (step_to (sourced_by n y) (machine_after n y) other)
      → told_by_object (trace_step_of m x) ≡ told_by_object (trace_step_of n y)
  first-told m n x y xs ys own other f g same =
      let after = machine_json (machine_after m x) own in
      let after' = machine_json (machine_after n y) other in
      let a = as-step t c (sourced_by m x) (machine_after m x) own (makes-next c m x xs f).traced in
      let b =
      as-step t d (sourced_by n y) (machine_after n y) other (makes-next d n y ys g).traced
      ∙ ap (λ (k : ℕ). step_json t k (trace_step_of n y) (sourced_by n y).supplied after') words in
      let fits = subst (λ (k : ℕ). TraceStepFits t k (trace_step_of n y)) words (step-fits t d n y test g.within g.traced g.exist.0 g.fits) in
      (step-told t c.shape.words (trace_step_of m x) (trace_step_of n y) (sourced_by m x).supplied
      (sourced_by n y).supplied after after' test (step-fits t c m x test f.within f.traced f.exist.0 f.fits) fits
      (sym (ap outline a) ∙ (same ∙ ap outline b))).0

  abbrev Items : Bool → Data → List Data → json.Items
  Items ended d ds = items_outline (items_of (if ended then [] else d ∷ ds))

  abbrev Told : Bool → ShownStep → List ShownStep → List ShownStep
  Told ended s ss = map told_by_object (if ended then [] else s ∷ ss)

  -- of two machines, each of which has ended or goes on
  either : (a b : Bool) (d e : Data) (ds es : List Data) (s u : ShownStep) (ss us : List ShownStep)
      → (outline d ≡ outline e → told_by_object s ≡ told_by_object u)
      → (items_outline (items_of ds) ≡ items_outline (items_of es) → map told_by_object ss ≡ map told_by_object us)
      → Items a d ds ≡ Items b e es
      → Told a s ss ≡ Told b u us
  either true true d e ds es s u ss us first further same = refl
  either true false d e ds es s u ss us first further same = uneven (sym (ap has_item same))
  either false true d e ds es s u ss us first further same = uneven (ap has_item same)
  either false false d e ds es s u ss us first further same = λ i. first (ap first_item same) i ∷ further (ap more_items same) i

  -- nothing, and a machine that has ended or goes on
  nothing : (b : Bool) (e : Data) (es : List Data) (u : ShownStep) (us : List ShownStep) → json.no_items ≡ Items b e es → [] ≡ Told b u us
  nothing true e es u us same = refl
  nothing false e es u us same = uneven (sym (ap has_item same))

  steps-told : (m n : Running) (own other : List ℕ) (xs ys : List Choice) → Makes t c m xs → Makes t d n ys → Value m own xs ≡ Value n other ys
      → map told_by_object (steps_from m xs) ≡ map told_by_object (steps_from n ys)
  steps-told m n own other [] [] f g same = refl
  steps-told m n own other [] (y ∷ ys) f g same =
      let next = machine_after n y in
      nothing (has_ended n.test n.state.flat) (step_to (sourced_by n y) next (own_words next other))
      (steps_json next (own_words next other) ys) (trace_step_of n y) (steps_from next ys) same
  steps-told m n own other (x ∷ xs) [] f g same =
      let next = machine_after m x in
      sym (nothing (has_ended m.test m.state.flat) (step_to (sourced_by m x) next (own_words next own))
      (steps_json next (own_words next own) xs) (trace_step_of m x) (steps_from next xs) (sym same))
  steps-told m n own other (x ∷ xs) (y ∷ ys) f g same =
      let p = machine_after m x in
      let q = machine_after n y in
      either (has_ended m.test m.state.flat) (has_ended n.test n.state.flat)
      (step_to (sourced_by m x) p (own_words p own)) (step_to (sourced_by n y) q (own_words q other))
      (steps_json p (own_words p own) xs) (steps_json q (own_words q other) ys) (trace_step_of m x) (trace_step_of n y) (steps_from p xs) (steps_from q ys)
      (first-told m n x y xs ys (own_words p own) (own_words q other) f g)
      (steps-told p q (own_words p own) (own_words q other) xs ys (makes-next c m x xs f) (makes-next d n y ys g)) same

  pub trace-told : (kind other_kind : ProtocolKind) (xs ys : List Choice)
      → IsConfigurationWithinLimits c
      → IsConfigurationWithinLimits d
      → CoresExist (length t.programs) xs
      → CoresExist (length t.programs) ys
      → outline (trace_json t kind c xs) ≡ outline (trace_json t other_kind d ys)
      → map told_by_object (trace_under t kind c xs) ≡ map told_by_object (trace_under t other_kind d ys)
  trace-told kind other_kind xs ys within within' exist exist' same =
      let m = new_machine (table_of kind) c t in
      let n = new_machine (table_of other_kind) d t in
      steps-told m n t.words t.words xs ys
      (record { within = within; traced = traced-first (table_of kind) c t; exist = exist; fits = fits-first (table_of kind) c t test })
      (record { within = within'; traced = traced-first (table_of other_kind) d t; exist = exist'; fits = fits-first (table_of other_kind) d t test })
      (ap (λ (j : json.Json). items_in (value_at 1 j)) same)
