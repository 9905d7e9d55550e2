-- Which tokens spell which proposition: `/\` binds closer than `\/`, and `~` closer than both, so each is read in one way.
use Rattle.std.specs.Prelude.{◌≤◌, ℕ, zero, suc, ◌+◌, true, false, List, [], ◌∷◌, ◌++◌, length, codes, IsTrue, Bool, ◌||◌}
use Rattle.std.specs.List.{list_all}
use Rattle.litmus_reader.specs.Vocabulary.{And, AndClaim, Claim, CloseRound, decimal_value, Exists, Forall, is_symbol_term, LocClaim}
use Rattle.litmus_reader.specs.Vocabulary.{most_atoms, most_locations, most_open, NotClaim, NotExists, number_of, numbered, OpenRound, Or}
use Rattle.litmus_reader.specs.Vocabulary.{OrClaim, Quantifier, RegClaim, Symbol, Tilde, TruthClaim}
use Rattle.litmus_tokens.specs.Terms.{Term, name, symbol}
use Rattle.litmus_reader.specs.GrammarItems.{IsSetting}
use Rattle.litmus_reader.specs.GrammarInitial.{names_in, is_allowed}
use Rattle.litmus_reader.specs.Written.{Setting, of_register, of_location, Phrase, truth, atom, negation, both, either}
use Rattle.litmus_reader.specs.Keywords.{is_word}

-- `true`, `false`, `c:REG=v`, `x=v` or `[x]=v`
pub data IsAtom : List Term → Phrase → Type 0 where
  says_true : IsAtom (name (codes "true") ∷ []) (truth true)
  says_false : IsAtom (name (codes "false") ∷ []) (truth false)
  says_setting : (ts : List Term) (s : Setting) → IsSetting ts s → IsAtom ts (atom s)

-- parts with a symbol between them, joined from the left
pub data AreJoined (s : Symbol) (join : Phrase → Phrase → Phrase)
    (IsPart : List Term → Phrase → Type 0) : List Term → Phrase → Type 0 where
  one : (ts : List Term) (p : Phrase) → IsPart ts p → AreJoined s join IsPart ts p
  more : (ts us : List Term) (p q : Phrase) → AreJoined s join IsPart ts p → IsPart us q
      → AreJoined s join IsPart (ts ++ symbol s ∷ us) (join p q)

-- units joined by `/\`
abbrev pub IsConjunction : (List Term → Phrase → Type 0) → List Term → Phrase → Type 0
IsConjunction IsUnit = AreJoined And both IsUnit

-- conjunctions joined by `\/`
abbrev pub IsProposition : (List Term → Phrase → Type 0) → List Term → Phrase → Type 0
IsProposition IsUnit = AreJoined Or either (IsConjunction IsUnit)

-- `~` or `not`
abbrev pub is_negation : Term → Bool
is_negation t = is_symbol_term Tilde t || is_word (codes "not") t

-- a unit, whose own units are so
pub data IsUnitOf (IsInner : List Term → Phrase → Type 0) : List Term → Phrase → Type 0 where
  -- an atom
  plain : (ts : List Term) (p : Phrase) → IsAtom ts p → IsUnitOf IsInner ts p
  -- `~` or `not`, and a unit
  negated : (t : Term) (ts : List Term) (p : Phrase) → IsTrue (is_negation t) → IsInner ts p
      → IsUnitOf IsInner (t ∷ ts) (negation p)
  -- a proposition in brackets
  in_brackets : (ts : List Term) (p : Phrase) → IsProposition IsInner ts p
      → IsUnitOf IsInner (symbol OpenRound ∷ ts ++ symbol CloseRound ∷ []) p

-- a unit, in which n negations and brackets may be open at once
abbrev pub IsUnit : ℕ → List Term → Phrase → Type 0
IsUnit zero = IsAtom
IsUnit (suc n) = IsUnitOf (IsUnit n)

-- the settings that a phrase is made of, in their order
abbrev pub settings_in : Phrase → List Setting
settings_in (truth b) = []
settings_in (atom s) = s ∷ []
settings_in (negation p) = settings_in p
settings_in (both p q) = settings_in p ++ settings_in q
settings_in (either p q) = settings_in p ++ settings_in q

-- the locations that it names, in their order
abbrev pub locations_in : Phrase → List (List ℕ)
locations_in p = names_in (settings_in p)

-- how many atoms it has
abbrev pub atoms_of : Phrase → ℕ
atoms_of (truth b) = 1
atoms_of (atom s) = 1
atoms_of (negation p) = atoms_of p
atoms_of (both p q) = atoms_of p + atoms_of q
atoms_of (either p q) = atoms_of p + atoms_of q

-- each core is one of so many, and a word has room for each number
abbrev pub PhraseFits : ℕ → Phrase → Type 0
PhraseFits cores p = IsTrue (list_all (is_allowed cores) (settings_in p))

-- what it claims, where these are the names of the locations by their numbers
abbrev pub claim_by : List (List ℕ) → Phrase → Claim
claim_by names (truth b) = TruthClaim b
claim_by names (atom (of_register core reg v)) = RegClaim (decimal_value core) reg v
claim_by names (atom (of_location x v)) = LocClaim (number_of names x) v
claim_by names (negation p) = NotClaim (claim_by names p)
claim_by names (both p q) = AndClaim (claim_by names p) (claim_by names q)
claim_by names (either p q) = OrClaim (claim_by names p) (claim_by names q)

-- after so many atoms, and after what named these locations, a phrase is within the limits of a test with so many cores
pub record IsWithin (cores atoms : ℕ) (names : List (List ℕ)) (p : Phrase) : Type 0 where
  pub fits : PhraseFits cores p
  pub few : atoms + atoms_of p ≤ most_atoms
  pub room : length (numbered names (locations_in p)) ≤ most_locations

-- `exists`, `forall` or `~ exists`
pub data IsQuantifier : List Term → Quantifier → Type 0 where
  says_exists : IsQuantifier (name (codes "exists") ∷ []) Exists
  says_forall : IsQuantifier (name (codes "forall") ∷ []) Forall
  says_not_exists : IsQuantifier (symbol Tilde ∷ name (codes "exists") ∷ []) NotExists

-- a condition: a quantifier and a proposition
pub data IsCondition : List Term → Quantifier → Phrase → Type 0 where
  condition : (ts us : List Term) (q : Quantifier) (p : Phrase) → IsQuantifier ts q
      → IsProposition (IsUnit most_open) us p → IsCondition (ts ++ us) q p
