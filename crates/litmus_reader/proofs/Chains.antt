-- Propositions with a symbol between them, one after the other.
use Rattle.litmus_reader.proofs.Vocabulary.{◌≡◌, ℕ, suc, ◌≤◌, ◌<◌, List, [], ◌∷◌, length, Some, None, Result, Ok, Err, refl, sym, subst}
use Rattle.litmus_reader.proofs.Vocabulary.{arith, Claim, Symbol, Piece, symbol_at, Fault, ReadError, Fails, ◌>>=◌, Claimed, Proposition}
use Rattle.litmus_reader.proofs.Vocabulary.{chain, chain_of}
use Rattle.litmus_reader.proofs.Loops.{After, ends, goes_on}
use Rattle.litmus_tokens.specs.declared.fault.ReadError.TheVariants as errors
use Rattle.litmus_reader.proofs.GrammarTokens.{ok_is}

abbrev pub joined_to : (Claim → Claim → Claim) → Claim → Claimed → Claimed
joined_to join left right = record right { claim = join left right.claim }

abbrev left : Claimed → ℕ
left c = length c.rest

-- the total is what has been read and then what the rest gives
abbrev pub ChainAfter : Symbol → (Claim → Claim → Claim) → Proposition → Claimed → Result Claimed Fault → Type 0
ChainAfter symbol join unit c total = After left (chain symbol join unit) c total

pub chain_start : (symbol : Symbol) (join : Claim → Claim → Claim) (unit : Proposition) (atoms : ℕ) (names : List (List ℕ)) (ps : List Piece) (first : Claimed)
    → unit atoms names ps ≡ Ok first → ChainAfter symbol join unit first (chain_of symbol join unit atoms names ps)
unfolding chain_of
chain_start symbol join unit atoms names ps first is = record { count = length first.rest; enough = omega arith; same = rw is refl }

nothing_left : (symbol : Symbol) (ps : List Piece) → length ps ≤ 0 → symbol_at symbol ps ≡ None
unfolding symbol_at
nothing_left symbol [] le = refl
nothing_left symbol (p ∷ ps) le = absurd (omega arith)

pub chain_end : (symbol : Symbol) (join : Claim → Claim → Claim) (unit : Proposition) (c : Claimed) (total : Result Claimed Fault)
    → symbol_at symbol c.rest ≡ None → ChainAfter symbol join unit c total → total ≡ Ok c
unfolding chain
chain_end symbol join unit c total none b = ends left (chain symbol join unit) c (Ok c) total (λ _. refl) (λ n. rw none refl) b

step : (n : ℕ) (symbol : Symbol) (join : Claim → Claim → Claim) (unit : Proposition) (c : Claimed) (rest : List Piece) (r : Result Claimed Fault)
    → symbol_at symbol c.rest ≡ Some rest
    → unit c.atoms c.names rest ≡ r
    → chain symbol join unit (suc n) c ≡ (r >>= λ right. chain symbol join unit n (joined_to join c.claim right))
unfolding chain
step n symbol join unit c rest r at is = rw (at, is) refl

chain_go_on : (symbol : Symbol) (join : Claim → Claim → Claim) (unit : Proposition) (c right : Claimed) (rest : List Piece) (total : Result Claimed Fault)
    → symbol_at symbol c.rest ≡ Some rest → unit c.atoms c.names rest ≡ Ok right → length right.rest < length c.rest
    → ChainAfter symbol join unit c total → ChainAfter symbol join unit (joined_to join c.claim right) total
chain_go_on symbol join unit c right rest total at is shorter b =
    goes_on left (chain symbol join unit) c (joined_to join c.claim right) total shorter (λ n. step n symbol join unit c rest (Ok right) at is) b

chain_fails : (e : ReadError) (symbol : Symbol) (join : Claim → Claim → Claim) (unit : Proposition) (c : Claimed)
    (rest : List Piece) (total : Result Claimed Fault)
    → symbol_at symbol c.rest ≡ Some rest → Fails e (unit c.atoms c.names rest) → ChainAfter symbol join unit c total → Fails e total
chain_fails errors.NoMemory symbol join unit c rest total at is b = tt
chain_fails (errors.Fault f) symbol join unit c rest total at is b =
    ends left (chain symbol join unit) c (Err f) total
    (λ none. let missing : symbol_at symbol c.rest ≡ None = nothing_left symbol c.rest none in absurd cc)
    (λ n. step n symbol join unit c rest (Err f) at is) b

pub chain_never_starts : (e : ReadError) (symbol : Symbol) (join : Claim → Claim → Claim) (unit : Proposition)
    (atoms : ℕ) (names : List (List ℕ)) (ps : List Piece)
    → Fails e (unit atoms names ps) → Fails e (chain_of symbol join unit atoms names ps)
unfolding chain_of
chain_never_starts errors.NoMemory symbol join unit atoms names ps is = tt
chain_never_starts (errors.Fault f) symbol join unit atoms names ps is = rw is refl

-- ---- one step more, as it is read: what the next unit gives, joined to what has been read

failed_in : (e : ReadError) (r : Result Claimed Fault) (f : Claimed → Claimed) → Fails e (r >>= λ x. Ok (f x)) → Fails e r
failed_in errors.NoMemory r f is = tt
failed_in (errors.Fault g) (Ok x) f is = absurd (let z : ⊥ = cc in z)
failed_in (errors.Fault g) (Err h) f is = is

pub chain_stops : (e : ReadError) (symbol : Symbol) (join : Claim → Claim → Claim) (unit : Proposition) (c : Claimed)
    (rest : List Piece) (total : Result Claimed Fault)
    → Some rest ≡ symbol_at symbol c.rest
    → Fails e (unit c.atoms c.names rest >>= λ right. Ok (joined_to join c.claim right))
    → ChainAfter symbol join unit c total
    → Fails e total
chain_stops e symbol join unit c rest total at is b =
    chain_fails e symbol join unit c rest total (sym at) (failed_in e (unit c.atoms c.names rest) (joined_to join c.claim) is) b

pub chain_joined : (symbol : Symbol) (join : Claim → Claim → Claim) (unit : Proposition) (c new : Claimed) (rest : List Piece) (total : Result Claimed Fault)
    → Some rest ≡ symbol_at symbol c.rest
    → (unit c.atoms c.names rest >>= λ right. Ok (joined_to join c.claim right)) ≡ Ok new
    → length new.rest < length c.rest
    → ChainAfter symbol join unit c total → ChainAfter symbol join unit new total
chain_joined symbol join unit c new rest total at is shorter b = by_unit (unit c.atoms c.names rest) refl is
  where
    by_unit : (r : Result Claimed Fault)
        → unit c.atoms c.names rest ≡ r
        → (r >>= λ right. Ok (joined_to join c.claim right)) ≡ Ok new
        → ChainAfter symbol join unit new total
    by_unit (Ok right) read same =
        let e : joined_to join c.claim right ≡ new = ok_is (joined_to join c.claim right) new same in
        let less : length right.rest < length c.rest = subst (λ (x : Claimed). length x.rest < length c.rest) (sym e) shorter in
        let P : Claimed → Type 0 = λ x. ChainAfter symbol join unit x total in
        subst P e (chain_go_on symbol join unit c right rest total (sym at) read less b)
    by_unit (Err f) read same = absurd (let z : ⊥ = cc in z)
