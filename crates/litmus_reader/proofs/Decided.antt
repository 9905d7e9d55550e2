-- A text spells a test or is refused.
use Rattle.litmus_reader.proofs.Vocabulary.{◌≡◌, ◌≢◌, ℕ, List, Some, Result, Ok, Err, IfErr, MatchResult, refl, sym, ap, ◌∙◌, ◌⊎◌, inl, inr}
use Rattle.litmus_reader.proofs.Vocabulary.{Litmus, Why, NoMemory, Fault, ReadError, refusal, reading_of, Gives, Instructions}
use Rattle.litmus_tokens.specs.Line.{line_of}
use Rattle.litmus_reader.specs.declared.fault.TextFault.{TextFault}
use Rattle.litmus_tokens.specs.declared.fault.ReadError.TheVariants as errors
use Rattle.litmus_reader.specs.inner.Reading.{refusal_in, refusal_of}
use Rattle.litmus_reader.specs.Spelling.{SpellsTest, IsRefused, IsDecided}
use Rattle.litmus_reader.proofs.GrammarTokens.{some_is, ok_is}

same_refusal : (text : List ℕ) (r : TextFault) (f : Fault) → r.line ≡ line_of text f.remaining → r.why ≡ f.why → refusal text f ≡ r
same_refusal text r f line why =
    let first : refusal text f ≡ record { line = r.line; why = f.why } =
    ap (λ (n : ℕ). (let x : TextFault = record { line = n; why = f.why } in x)) (sym line) in
    first ∙ ap (λ (w : Why). (let x : TextFault = record { line = r.line; why = w } in x)) (sym why)

pub read_so : (set : Instructions) (text : List ℕ) (r : TextFault) → IsRefused set text r → refusal_of set text ≡ Some r
unfolding refusal_of
read_so set text r is = ap (refusal_in text) is.is ∙ ap (λ (x : TextFault). Some x) (same_refusal text r is.at_fault is.line is.why)

refused_so : (set : Instructions) (text : List ℕ) (r : TextFault) → refusal_of set text ≡ Some r → IsRefused set text r
unfolding refusal_of
refused_so set text r e = by_reading (reading_of set text) refl e
  where
    by_reading : (read : Result Litmus Fault) → reading_of set text ≡ read → refusal_in text read ≡ Some r → IsRefused set text r
    by_reading (Ok t) is h = absurd cc
    by_reading (Err f) is h =
        let same : refusal text f ≡ r = some_is (refusal text f) r h in
        record { at_fault = f; is = is; line = ap (λ (x : TextFault). x.line) (sym same); why = ap (λ (x : TextFault). x.why) (sym same) }

pub refused_where_read : (set : Instructions)
    → {T : Type 0} (result : Result T TextFault) (text : List ℕ)
    → IfErr result (λ r. r.why ≢ NoMemory → refusal_of set text ≡ Some r)
    → IfErr result (λ r. r.why ≢ NoMemory → IsRefused set text r)
refused_where_read set (Ok x) text h = tt
refused_where_read set (Err r) text h = λ other. refused_so set text r (h other)

-- what is returned where the reading gives a test
pub read_only : (result : Result Litmus ReadError) (t : Litmus) (read : Result Litmus Fault) → read ≡ Ok t → Gives (λ test. test) result read
    → MatchResult result (λ test. test ≡ t) (λ e. e ≡ errors.NoMemory)
read_only (Ok test) t read is gives = ok_is test t (sym gives ∙ is)
read_only (Err errors.NoMemory) t read is gives = refl
read_only (Err (errors.Fault f)) t read is gives = absurd (let never = sym gives ∙ is in cc)

pub decided : (set : Instructions) (text : List ℕ) → IsDecided set text
decided set text = record {
  one_test = λ t other first second. ok_is t other (sym first ∙ second);
  one_refusal = λ r other first second. some_is r other (sym (read_so set text r first) ∙ read_so set text other second);
  never_both = λ t r spelled is. let never = sym spelled ∙ is.is in cc;
  always = by_reading (reading_of set text) refl;
}
  where
    by_reading : (read : Result Litmus Fault) → reading_of set text ≡ read → ((t : Litmus) × SpellsTest set text t) ⊎ ((r : TextFault) × IsRefused set text r)
    by_reading (Ok t) is = inl (t, is)
    by_reading (Err f) is = inr (refusal text f, record { at_fault = f; is = is; line = refl; why = refl })
