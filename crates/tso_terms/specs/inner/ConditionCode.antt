-- No claim rests on this: it serves the model of a test alone. A claim written down as a list of numbers and read back, by
-- which a proof tells stored claims apart.
use Rattle.std.specs.Prelude.{ℕ, ◌==◌, ◌≡◌, refl, Bool, true, false, if◌then◌else◌, List, [], ◌∷◌, ◌++◌}
use Rattle.std.specs.Coded.{Coded, code_by, coded×, coded_ℕ, coded_list}
use Rattle.std.proofs.Common.{append_assoc, append-nil, ap, ◌∙◌, sym}
use Rattle.tso_terms.specs.Condition.{Claim, TruthClaim, RegClaim, LocClaim, NotClaim, AndClaim, OrClaim}
use Rattle.tso_terms.specs.Registers.{index_of}
use Rattle.tso_terms.specs.declared.register.Reg.{Reg}
use Rattle.tso_terms.specs.declared.register.Reg.TheVariants.{Eax, Ebx, Ecx, Edx, Esi, Edi}

-- a form's number, and three numbers that it takes
abbrev pub Token : Type 0
Token = (ℕ × ℕ) × (ℕ × ℕ)

abbrev pub token : ℕ → ℕ → ℕ → ℕ → Token
token form a b c = ((form, a), (b, c))

abbrev pub bit_of : Bool → ℕ
bit_of true = 1
bit_of false = 0

-- the claim with each form after its parts
abbrev pub tokens_of : Claim → List Token
tokens_of (TruthClaim truth) = token 0 (bit_of truth) 0 0 ∷ []
tokens_of (RegClaim core reg value) = token 1 core (index_of reg) value ∷ []
tokens_of (LocClaim loc value) = token 2 loc value 0 ∷ []
tokens_of (NotClaim inner) = tokens_of inner ++ token 3 0 0 0 ∷ []
tokens_of (AndClaim left right) = (tokens_of left ++ tokens_of right) ++ token 4 0 0 0 ∷ []
tokens_of (OrClaim left right) = (tokens_of left ++ tokens_of right) ++ token 5 0 0 0 ∷ []

abbrev pub reg_at : ℕ → Reg
reg_at n =
    if n == 0 then Eax else (if n == 1 then Ebx else (if n == 2 then Ecx else (if n == 3 then Edx
    else (if n == 4 then Esi else Edi))))

abbrev pub negated : List Claim → List Claim
negated [] = []
negated (c ∷ cs) = NotClaim c ∷ cs

abbrev pub joined : (Claim → Claim → Claim) → List Claim → List Claim
joined join [] = []
joined join (right ∷ []) = []
joined join (right ∷ (left ∷ cs)) = join left right ∷ cs

-- the claims read so far, the newest first, after one more token
abbrev pub after_token : Token → List Claim → List Claim
after_token t stack =
    if t.0.0 == 0 then TruthClaim (t.0.1 == 1) ∷ stack
    else (if t.0.0 == 1 then RegClaim t.0.1 (reg_at t.1.0) t.1.1 ∷ stack
    else (if t.0.0 == 2 then LocClaim t.0.1 t.1.0 ∷ stack
    else (if t.0.0 == 3 then negated stack
    else (if t.0.0 == 4 then joined (λ left right. AndClaim left right) stack
    else joined (λ left right. OrClaim left right) stack))))

abbrev pub after_tokens : List Token → List Claim → List Claim
after_tokens [] stack = stack
after_tokens (t ∷ ts) stack = after_tokens ts (after_token t stack)

abbrev pub first_claim : List Claim → Claim
first_claim [] = TruthClaim false
first_claim (c ∷ cs) = c

abbrev pub claim_from : List Token → Claim
claim_from ts = first_claim (after_tokens ts [])

reg_at-index_of : (reg : Reg) → reg_at (index_of reg) ≡ reg
reg_at-index_of Eax = refl
reg_at-index_of Ebx = refl
reg_at-index_of Ecx = refl
reg_at-index_of Edx = refl
reg_at-index_of Esi = refl
reg_at-index_of Edi = refl

bit-back : (b : Bool) → (bit_of b == 1) ≡ b
bit-back true = refl
bit-back false = refl

after_tokens-tokens_of : (c : Claim) (rest : List Token) (stack : List Claim)
    → after_tokens (tokens_of c ++ rest) stack ≡ after_tokens rest (c ∷ stack)
after_tokens-tokens_of (TruthClaim truth) rest stack = ap (λ b. after_tokens rest (TruthClaim b ∷ stack)) (bit-back truth)
after_tokens-tokens_of (RegClaim core reg value) rest stack =
    ap (λ r. after_tokens rest (RegClaim core r value ∷ stack)) (reg_at-index_of reg)
after_tokens-tokens_of (LocClaim loc value) rest stack = refl
after_tokens-tokens_of (NotClaim inner) rest stack =
    rw (append_assoc (tokens_of inner) (token 3 0 0 0 ∷ []) rest) (after_tokens-tokens_of inner (token 3 0 0 0 ∷ rest) stack)
after_tokens-tokens_of (AndClaim left right) rest stack =
    rw (
      append_assoc (tokens_of left ++ tokens_of right) (token 4 0 0 0 ∷ []) rest,
      append_assoc (tokens_of left) (tokens_of right) (token 4 0 0 0 ∷ rest),
    )
    (after_tokens-tokens_of left (tokens_of right ++ token 4 0 0 0 ∷ rest) stack
    ∙ after_tokens-tokens_of right (token 4 0 0 0 ∷ rest) (left ∷ stack))
after_tokens-tokens_of (OrClaim left right) rest stack =
    rw (
      append_assoc (tokens_of left ++ tokens_of right) (token 5 0 0 0 ∷ []) rest,
      append_assoc (tokens_of left) (tokens_of right) (token 5 0 0 0 ∷ rest),
    )
    (after_tokens-tokens_of left (tokens_of right ++ token 5 0 0 0 ∷ rest) stack
    ∙ after_tokens-tokens_of right (token 5 0 0 0 ∷ rest) (left ∷ stack))

pub claim_from-tokens_of : (c : Claim) → claim_from (tokens_of c) ≡ c
claim_from-tokens_of c = ap first_claim (ap (λ ts. after_tokens ts []) (sym (append-nil (tokens_of c))) ∙ after_tokens-tokens_of c [] [])

abbrev pub claim_code : Coded Claim
claim_code =
    code_by (List Token) (coded_list (coded× (coded× coded_ℕ coded_ℕ) (coded× coded_ℕ coded_ℕ)))
    tokens_of claim_from claim_from-tokens_of
