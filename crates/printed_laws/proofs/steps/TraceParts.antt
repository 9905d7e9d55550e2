-- The parts of a step's line, each after a space: what each begins a text with is told by the text. A part may be missing; which one
-- is there is told by its first letters, or behind a core's number by the byte after it.
use Rattle.printed_laws.proofs.Vocabulary.{◌≡◌, ℕ, ◌<◌, Bool, true, false, List, [], ◌∷◌, ◌++◌, get_or, drop, refl, sym, ap, ◌∙◌, ◌≤◌}
use Rattle.printed_laws.proofs.Vocabulary.{Option, arith, ◌+◌, length, All, Some, None, ◌==◌, ◌||◌, ◌/◌, if◌then◌else◌, ◌*◌, take, IfSome}
use Rattle.printed_laws.proofs.Vocabulary.{decimal, list_all, is_ascii_digit, and_parts, append_cancel_left, append_assoc, drop_more}
use Rattle.printed_laws.proofs.Vocabulary.{get_or-take, length-take, codes, Litmus, IsTest, continues_name, IsWord, name_of, Reg, Entry}
use Rattle.printed_laws.proofs.Vocabulary.{printed_entry, letters_of, printed_access, IsOrderFor, IsEntryFor, Eax, Core, IsD, ImD, SmD}
use Rattle.printed_laws.proofs.Vocabulary.{AccessKind, IsLine, access_name, request_name, state_name, after_plus, joined_by_plus, line_name}
use Rattle.printed_laws.proofs.Vocabulary.{entries_text, moved_text, forwarded_text, access_text, request_text, flush_text, write_back_text}
use Rattle.printed_laws.proofs.Vocabulary.{changes_text, printed_change, LineRequest, LineState, StateChange}
use Rattle.std.proofs.Math.Nat.{mul-div_cancel}
use Rattle.protocol_tables.specs.declared.requests.Request.{Request}
use Rattle.protocol_tables.specs.declared.requests.Request.TheVariants.{GetS, GetM}
use Rattle.protocol_tables.specs.declared.state.State.TheVariants as tag
use Rattle.snoop_bus.specs.declared.access.AccessKind.TheVariants.{Hit, Upgrade, Miss}
use Rattle.trace_report.specs.declared.step.Given.{Given}
use Rattle.trace_report.specs.declared.step.Moved.{Moved}
use Rattle.trace_report.specs.declared.step.Moved.TheVariants.{One, Both}
use Rattle.trace_report.specs.Lines.{printed_given}
use Rattle.printed_laws.specs.Traces.{MovesWords}
use Rattle.trace_report.specs.declared.step.LineState.TheVariants as state
use Rattle.printed_laws.proofs.texts.Cutting.{next-cut, same-cut}
use Rattle.printed_laws.proofs.texts.Digits.{all-digits}
use Rattle.printed_laws.proofs.texts.Lists.{Tells, list-cut, all-told}
use Rattle.printed_laws.proofs.steps.TraceWords.{Ends, ends-stop, word-cut, read-cut, register-cut, same-core, location-cut, entry-cut}

-- ---- which part is there

-- the first byte after the digits that a text begins with
abbrev behind : List ℕ → ℕ
behind [] = 0
behind (b ∷ bs) = if is_ascii_digit b then behind bs else b

-- of an entry, of a change, of a buffer
abbrev rank_behind : ℕ → ℕ
rank_behind b = if b == 58 then 1 else if b == 46 then 8 else if b == 91 then 9 else 10

-- by the two bytes after the space
abbrev rank_by : ℕ → ℕ → List ℕ → ℕ
rank_by first second rest =
    if first == 80 then rank_behind (behind rest)
    else if first == 69 then 2
    else if first == 102 then (if second == 111 then 3 else 6)
    else if (first == 104) || ((first == 117) || (first == 109)) then 4
    else if first == 71 then 5
    else if first == 119 then 7
    else 10

-- the number of the part that a text begins with, in the order of the parts; 10 for the end of the line
abbrev pub rank : List ℕ → ℕ
rank text = if get_or text 0 0 == 32 then rank_by (get_or text 1 0) (get_or text 2 0) (drop 2 text) else 10

-- the text begins with a part of this number at least, or with the end of the line
pub record Follows (number : ℕ) (text : List ℕ) : Type 0 where
  pub ends : Ends text
  pub later : number ≤ rank text

pub ending-follows : (rest : List ℕ) → Follows 10 (10 ∷ rest)
ending-follows rest = record { ends = refl; later = omega arith }

pub earlier : (number : ℕ) (text : List ℕ) → Follows (number + 1) text → Follows number text
earlier number text f = let later = f.later in record { ends = f.ends; later = omega (arith, later) }

pub is-part : (number : ℕ) (text : List ℕ) → Ends text → rank text ≡ number → Follows number text
is-part number text ends is = record { ends = ends; later = omega (arith, is) }

-- a text that begins with a part is none that begins with a later one
pub missing : {A : Type 0} (number : ℕ) (xs ys : List ℕ) → rank xs ≡ number → Follows (number + 1) ys → xs ≡ ys → A
missing number xs ys is f same = let later = f.later in let both = ap rank same in absurd (omega (arith, is, later, both))

behind-digits : (xs rest : List ℕ) (b : ℕ) → list_all is_ascii_digit xs ≡ true → is_ascii_digit b ≡ false → behind (xs ++ b ∷ rest) ≡ b
behind-digits [] rest b all stop = ap (λ (c : Bool). if c then behind rest else b) stop
behind-digits (x ∷ xs) rest b all stop =
    let parts = and_parts (is_ascii_digit x) (list_all is_ascii_digit xs) all in
    ap (λ (c : Bool). if c then behind (xs ++ b ∷ rest) else x) parts.0 ∙ behind-digits xs rest b parts.1 stop

behind-number : (n : ℕ) (rest : List ℕ) (b : ℕ) → is_ascii_digit b ≡ false → behind (decimal n ++ b ∷ rest) ≡ b
behind-number n rest b stop = behind-digits (decimal n) rest b (all-digits n) stop

-- the core's number, and the byte after it
pub core-rank : (n : ℕ) (rest : List ℕ) (b : ℕ) → is_ascii_digit b ≡ false → rank (codes " P" ++ (decimal n ++ b ∷ rest)) ≡ rank_behind b
core-rank n rest b stop = ap rank_behind (behind-number n rest b stop)

-- ---- entries

entry-flat : (core place kind access more : List ℕ) → codes " " ++ ((codes "P" ++ (core ++ (codes ":" ++ (place ++ (codes " " ++ (kind ++ access)))))) ++ more)
    ≡ codes " P" ++ (core ++ 58 ∷ (place ++ (codes " " ++ (kind ++ (access ++ more)))))
entry-flat core place kind access more = simp append_assoc

entry-rank : (t : Litmus) (e : Entry) (more : List ℕ) → rank ((codes " " ++ printed_entry t e) ++ more) ≡ 1
entry-rank t e more =
    ap rank (entry-flat (decimal e.core.0) (decimal e.place) (letters_of e.kind) (printed_access t e.kind e.loc.0 e.value) more)
    ∙ core-rank e.core.0 (decimal e.place ++ (codes " " ++ (letters_of e.kind ++ (printed_access t e.kind e.loc.0 e.value ++ more)))) 58 refl

pub entries-follow : (t : Litmus) (es : List Entry) (rest : List ℕ) → Follows 2 rest → Follows 1 (entries_text t es ++ rest)
entries-follow t [] rest f = earlier 1 rest f
entries-follow t (e ∷ es) rest f =
    is-part 1 (entries_text t (e ∷ es) ++ rest) refl
    (ap rank (append_assoc (codes " " ++ printed_entry t e) (entries_text t es) rest)
    ∙ entry-rank t e (entries_text t es ++ rest))

pub entries-cut : (t : Litmus) (xs ys : List Entry) (rest other : List ℕ) → IsTest t → IsOrderFor t xs → IsOrderFor t ys → Follows 2 rest → Follows 2 other
    → entries_text t xs ++ rest ≡ entries_text t ys ++ other → (xs ≡ ys) × (rest ≡ other)
entries-cut t xs ys rest other test p q f f' same =
    let cut = list-cut (IsEntryFor t) Ends (Follows 2) (λ n e. codes " " ++ printed_entry t e) (λ n. entries_text t) (λ e. e) (λ n. refl) (λ n e es. refl)
    (λ n a b rest other p q ends ends' e.
    entry-cut t a b rest other test p q ends ends' (append_cancel_left (codes " ") (printed_entry t a ++ rest) (printed_entry t b ++ other) e))
    (λ n es rest all f. (entries-follow t es rest f).ends)
    (λ n e more rest fits f same.
    missing 1 ((codes " " ++ printed_entry t e) ++ more) rest (entry-rank t e more) f same)
    0 xs ys rest other p q f f' same in
    (all-told xs ys cut.0, cut.1)

-- ---- registers

moved-flat : (name value rest : List ℕ) → (codes " " ++ (name ++ (codes "=" ++ value))) ++ rest ≡ codes " " ++ (name ++ (codes "=" ++ (value ++ rest)))
moved-flat name value rest = simp append_assoc

-- ` EAX=5`
abbrev given_text : Given → List ℕ
given_text g = moved_text (Some (One g))

given-rank : (reg : Reg) (value : ℕ) (rest : List ℕ) → rank (given_text (record { reg = reg; value = value }) ++ rest) ≡ 2
given-rank Eax value rest = refl
given-rank reg value rest = refl

both-flat : (one other rest : List ℕ) → (codes " " ++ (one ++ (codes " " ++ other))) ++ rest ≡ (codes " " ++ one) ++ ((codes " " ++ other) ++ rest)
both-flat one other rest = simp append_assoc

moved-rank : (m : Moved) (rest : List ℕ) → rank (moved_text (Some m) ++ rest) ≡ 2
moved-rank (One g) rest = given-rank g.reg g.value rest
moved-rank (Both g h) rest = ap rank (both-flat (printed_given g) (printed_given h) rest) ∙ given-rank g.reg g.value (given_text h ++ rest)

given-ends : (g : Given) (rest : List ℕ) → Ends (given_text g ++ rest)
given-ends g rest = refl

pub moved-follows : (m : Option Moved) (rest : List ℕ) → Follows 3 rest → Follows 2 (moved_text m ++ rest)
moved-follows None rest f = earlier 2 rest f
moved-follows (Some m) rest f = is-part 2 (moved_text (Some m) ++ rest) refl (moved-rank m rest)

given-cut : (a b : Given) (rest other : List ℕ)
    → IsWord a.value
    → IsWord b.value
    → Ends rest
    → Ends other
    → given_text a ++ rest ≡ given_text b ++ other
    → (a ≡ b) × (rest ≡ other)
given-cut a b rest other p q ends ends' e =
    let flat = sym (moved-flat (name_of a.reg) (decimal a.value) rest) ∙ (e ∙ moved-flat (name_of b.reg) (decimal b.value) other) in
    let reg =
    register-cut a.reg b.reg (codes "=" ++ (decimal a.value ++ rest)) (codes "=" ++ (decimal b.value ++ other))
    (append_cancel_left (codes " ") _ _ flat) in
    let value = next-cut (codes "=") a.value b.value rest other (omega (arith, p)) (omega (arith, q)) (ends-stop rest ends) (ends-stop other ends') reg.1 in
    ((λ i. record { reg = reg.0 i; value = value.0 i }), value.1)

pub moved-cut : (a b : Option Moved) (rest other : List ℕ) → IfSome a (λ m. MovesWords m) → IfSome b (λ m. MovesWords m) → Follows 3 rest → Follows 3 other
    → moved_text a ++ rest ≡ moved_text b ++ other → (a ≡ b) × (rest ≡ other)
moved-cut None None rest other p q f f' e = (refl, e)
moved-cut None (Some b) rest other p q f f' e = missing 2 (moved_text (Some b) ++ other) rest (moved-rank b other) f (sym e)
moved-cut (Some a) None rest other p q f f' e = missing 2 (moved_text (Some a) ++ rest) other (moved-rank a rest) f' e
moved-cut (Some (One a)) (Some (One b)) rest other p q f f' e =
    let cut = given-cut a b rest other p q f.ends f'.ends e in
    (ap (λ (g : Given). Some (One g)) cut.0, cut.1)
moved-cut (Some (One a)) (Some (Both b d)) rest other p q f f' e =
    let cut = given-cut a b rest (given_text d ++ other) p q.0 f.ends (given-ends d other) (e ∙ both-flat (printed_given b) (printed_given d) other) in
    missing 2 (given_text d ++ other) rest (given-rank d.reg d.value other) f (sym cut.1)
moved-cut (Some (Both a c)) (Some (One b)) rest other p q f f' e =
    let cut = given-cut a b (given_text c ++ rest) other p.0 q (given-ends c rest) f'.ends (sym (both-flat (printed_given a) (printed_given c) rest) ∙ e) in
    missing 2 (given_text c ++ rest) other (given-rank c.reg c.value rest) f' cut.1
moved-cut (Some (Both a c)) (Some (Both b d)) rest other p q f f' e =
    let flat = sym (both-flat (printed_given a) (printed_given c) rest) ∙ (e ∙ both-flat (printed_given b) (printed_given d) other) in
    let first = given-cut a b (given_text c ++ rest) (given_text d ++ other) p.0 q.0 (given-ends c rest) (given-ends d other) flat in
    let second = given-cut c d rest other p.1 q.1 f.ends f'.ends first.1 in
    ((λ i. Some (Both (first.0 i) (second.0 i))), second.1)

-- ---- the access

pub forwarded-follows : (b : Bool) (rest : List ℕ) → Follows 4 rest → Follows 3 (forwarded_text b ++ rest)
forwarded-follows false rest f = earlier 3 rest f
forwarded-follows true rest f = is-part 3 (forwarded_text true ++ rest) refl refl

pub forwarded-cut : (a b : Bool) (rest other : List ℕ)
    → Follows 4 rest
    → Follows 4 other
    → forwarded_text a ++ rest ≡ forwarded_text b ++ other
    → (a ≡ b) × (rest ≡ other)
forwarded-cut false false rest other f f' e = (refl, e)
forwarded-cut false true rest other f f' e = missing 3 (forwarded_text true ++ other) rest refl f (sym e)
forwarded-cut true false rest other f f' e = missing 3 (forwarded_text true ++ rest) other refl f' e
forwarded-cut true true rest other f f' e = (refl, append_cancel_left (codes " forwarded") rest other e)

access-rank : (kind : AccessKind) (rest : List ℕ) → rank (access_text (Some kind) ++ rest) ≡ 4
access-rank Hit rest = refl
access-rank kind rest = refl

pub access-follows : (a : Option AccessKind) (rest : List ℕ) → Follows 5 rest → Follows 4 (access_text a ++ rest)
access-follows None rest f = earlier 4 rest f
access-follows (Some kind) rest f = is-part 4 (access_text (Some kind) ++ rest) refl (access-rank kind rest)

abbrev read_access : List ℕ → AccessKind
read_access text = if get_or text 0 0 == 104 then Hit else if get_or text 0 0 == 117 then Upgrade else Miss

access-again : (kind : AccessKind) (rest : List ℕ) → read_access (access_name kind ++ rest) ≡ kind
access-again Hit rest = refl
access-again kind rest = refl

pub access-cut : (a b : Option AccessKind) (rest other : List ℕ)
    → Follows 5 rest
    → Follows 5 other
    → access_text a ++ rest ≡ access_text b ++ other
    → (a ≡ b) × (rest ≡ other)
access-cut None None rest other f f' e = (refl, e)
access-cut None (Some b) rest other f f' e = missing 4 (access_text (Some b) ++ other) rest (access-rank b other) f (sym e)
access-cut (Some a) None rest other f f' e = missing 4 (access_text (Some a) ++ rest) other (access-rank a rest) f' e
access-cut (Some a) (Some b) rest other f f' e =
    let cut =
    read-cut access_name read_access a b rest other access-again
    (append_cancel_left (codes " ") (access_name a ++ rest) (access_name b ++ other) e) in
    (ap Some cut.0, cut.1)

-- ---- lines of the caches, by the names of their locations

-- the first name of a line, and the others
line-begins : (t : Litmus) (words number : ℕ) → IsLine t words number → line_name t words number
    ≡ get_or t.locations (number * words) [] ++ after_plus (drop (number * words + 1) (take (number * words + words) t.locations))
line-begins t words number known =
    let some = known.some in
    let begins = known.begins in
    let stop = number * words + words in
    let within : number * words < stop = omega (arith, some) in
    let room : number * words < length (take stop t.locations) = omega (arith, some, begins, length-take stop t.locations) in
    ap joined_by_plus (drop_more (take stop t.locations) (number * words) [] room
    ∙ ap (λ name. name ∷ drop (number * words + 1) (take stop t.locations)) (get_or-take stop t.locations (number * words) [] within))

others-end : (names : List (List ℕ)) (rest : List ℕ) → Ends rest → Ends (after_plus names ++ rest)
others-end [] rest ends = ends
others-end (name ∷ names) rest ends = refl

pub line-cut : (t : Litmus) (words m n : ℕ) (rest other : List ℕ) → IsTest t → IsLine t words m → IsLine t words n → Ends rest → Ends other
    → line_name t words m ++ rest ≡ line_name t words n ++ other → (m ≡ n) × (rest ≡ other)
line-cut t words m n rest other test known known' ends ends' e =
    let others = λ (number : ℕ). after_plus (drop (number * words + 1) (take (number * words + words) t.locations)) in
    let split = λ (number : ℕ) (is : IsLine t words number) (after : List ℕ).
    ap (λ (l : List ℕ). l ++ after) (line-begins t words number is) ∙ append_assoc (get_or t.locations (number * words) []) (others number) after in
    let first = location-cut t (m * words) (n * words) (others m ++ rest) (others n ++ other) test known.begins known'.begins
    (others-end (drop (m * words + 1) (take (m * words + words) t.locations)) rest ends)
    (others-end (drop (n * words + 1) (take (n * words + words) t.locations)) other ends')
    (sym (split m known rest) ∙ (e ∙ split n known' other)) in
    let same : m ≡ n = sym (mul-div_cancel m known.some) ∙ (ap (λ (k : ℕ). k / words) first.0 ∙ mul-div_cancel n known'.some) in
    (same, same-cut (line_name t words m) (line_name t words n) rest other (ap (line_name t words) same) e)

-- ---- the bus

abbrev read_request : List ℕ → Request
read_request text = if get_or text 3 0 == 83 then GetS else GetM

request-again : (r : Request) (rest : List ℕ) → read_request (request_name r ++ rest) ≡ r
request-again GetS rest = refl
request-again GetM rest = refl

request-flat : (name line rest : List ℕ) → (codes " " ++ (name ++ (codes " " ++ line))) ++ rest ≡ codes " " ++ (name ++ (codes " " ++ (line ++ rest)))
request-flat name line rest = simp append_assoc

request-rank : (t : Litmus) (words : ℕ) (r : Request) (number : ℕ) (rest : List ℕ)
    → rank (request_text t words (Some (record { request = r; line = number })) ++ rest) ≡ 5
request-rank t words GetS number rest = refl
request-rank t words GetM number rest = refl

pub request-follows : (t : Litmus) (words : ℕ) (r : Option LineRequest) (rest : List ℕ) → Follows 6 rest → Follows 5 (request_text t words r ++ rest)
request-follows t words None rest f = earlier 5 rest f
request-follows t words (Some r) rest f = is-part 5 (request_text t words (Some r) ++ rest) refl (request-rank t words r.request r.line rest)

pub request-cut : (t : Litmus) (words : ℕ) (a b : Option LineRequest) (rest other : List ℕ)
    → IsTest t
    → IfSome a (λ r. IsLine t words r.line)
    → IfSome b (λ r. IsLine t words r.line)
    → Follows 6 rest → Follows 6 other → request_text t words a ++ rest ≡ request_text t words b ++ other → (a ≡ b) × (rest ≡ other)
request-cut t words None None rest other test p q f f' e = (refl, e)
request-cut t words None (Some b) rest other test p q f f' e =
    missing 5 (request_text t words (Some b) ++ other) rest (request-rank t words b.request b.line other) f (sym e)
request-cut t words (Some a) None rest other test p q f f' e =
    missing 5 (request_text t words (Some a) ++ rest) other (request-rank t words a.request a.line rest) f' e
request-cut t words (Some a) (Some b) rest other test p q f f' e =
    let flat =
    sym (request-flat (request_name a.request) (line_name t words a.line) rest)
    ∙ (e ∙ request-flat (request_name b.request) (line_name t words b.line) other) in
    let name =
    read-cut request_name read_request a.request b.request (codes " " ++ (line_name t words a.line ++ rest))
    (codes " " ++ (line_name t words b.line ++ other)) request-again
    (append_cancel_left (codes " ") _ _ flat) in
    let line =
    line-cut t words a.line b.line rest other test p q f.ends f'.ends
    (append_cancel_left (codes " ") (line_name t words a.line ++ rest) (line_name t words b.line ++ other) name.1) in
    (ap Some (λ i. record { request = name.0 i; line = line.0 i }), line.1)

pub flush-follows : (core : Option Core) (rest : List ℕ) → Follows 7 rest → Follows 6 (flush_text core ++ rest)
flush-follows None rest f = earlier 6 rest f
flush-follows (Some core) rest f = is-part 6 (flush_text (Some core) ++ rest) refl refl

pub flush-cut : (a b : Option Core) (rest other : List ℕ) → IfSome a (λ core. core.0 < 256) → IfSome b (λ core. core.0 < 256) → Follows 7 rest → Follows 7 other
    → flush_text a ++ rest ≡ flush_text b ++ other → (a ≡ b) × (rest ≡ other)
flush-cut None None rest other p q f f' e = (refl, e)
flush-cut None (Some b) rest other p q f f' e = missing 6 (flush_text (Some b) ++ other) rest refl f (sym e)
flush-cut (Some a) None rest other p q f f' e = missing 6 (flush_text (Some a) ++ rest) other refl f' e
flush-cut (Some a) (Some b) rest other p q f f' e =
    let core = next-cut (codes " flush P") a.0 b.0 rest other (omega (arith, p)) (omega (arith, q)) (ends-stop rest f.ends) (ends-stop other f'.ends) e in
    (ap Some (same-core a b core.0), core.1)

pub write-back-follows : (t : Litmus) (words : ℕ) (line : Option ℕ) (rest : List ℕ) → Follows 8 rest → Follows 7 (write_back_text t words line ++ rest)
write-back-follows t words None rest f = earlier 7 rest f
write-back-follows t words (Some line) rest f = is-part 7 (write_back_text t words (Some line) ++ rest) refl refl

pub write-back-cut : (t : Litmus) (words : ℕ) (a b : Option ℕ) (rest other : List ℕ)
    → IsTest t
    → IfSome a (IsLine t words)
    → IfSome b (IsLine t words)
    → Follows 8 rest
    → Follows 8 other
    → write_back_text t words a ++ rest ≡ write_back_text t words b ++ other → (a ≡ b) × (rest ≡ other)
write-back-cut t words None None rest other test p q f f' e = (refl, e)
write-back-cut t words None (Some b) rest other test p q f f' e = missing 7 (write_back_text t words (Some b) ++ other) rest refl f (sym e)
write-back-cut t words (Some a) None rest other test p q f f' e = missing 7 (write_back_text t words (Some a) ++ rest) other refl f' e
write-back-cut t words (Some a) (Some b) rest other test p q f f' e =
    let cut =
    line-cut t words a b rest other test p q f.ends f'.ends
    (append_cancel_left (codes " write-back ") (line_name t words a ++ rest) (line_name t words b ++ other) e) in
    (ap Some cut.0, cut.1)

-- ---- the lines whose states changed

abbrev pub read_state : List ℕ → LineState
read_state text =
    let first = get_or text 0 0 in
    let second = get_or text 1 0 in
    if second == 83 then state.Transient IsD
    else if second == 77 then (if first == 73 then state.Transient ImD else state.Transient SmD)
    else if first == 73 then state.Stable tag.I
    else if first == 83 then state.Stable tag.S
    else if first == 69 then state.Stable tag.E
    else if first == 79 then state.Stable tag.O
    else state.Stable tag.M

state-plain : (s : LineState) → list_all continues_name (state_name s) ≡ true
state-plain (state.Stable tag.I) = refl
state-plain (state.Transient IsD) = refl
state-plain s = refl

pub state-again : (s : LineState) → read_state (state_name s) ≡ s
state-again (state.Stable tag.I) = refl
state-again (state.Transient IsD) = refl
state-again s = refl

change-flat : (core line before after more : List ℕ)
    → (codes " " ++ (codes "P" ++ (core ++ (codes "." ++ (line ++ (codes " " ++ (before ++ (codes ">" ++ after))))))))
    ++ more
    ≡ codes " P" ++ (core ++ 46 ∷ (line ++ (codes " " ++ (before ++ (codes ">" ++ (after ++ more))))))
change-flat core line before after more = simp append_assoc

-- what a change's text is behind the core's number
abbrev behind-core : Litmus → ℕ → StateChange → List ℕ → List ℕ
behind-core t words c after = line_name t words c.line ++ (codes " " ++ (state_name c.before ++ (codes ">" ++ (state_name c.after ++ after))))

change-split : (t : Litmus) (words : ℕ) (c : StateChange) (more : List ℕ)
    → (codes " " ++ printed_change t words c) ++ more
    ≡ codes " P" ++ (decimal c.core.0 ++ 46 ∷ behind-core t words c more)
change-split t words c more = change-flat (decimal c.core.0) (line_name t words c.line) (state_name c.before) (state_name c.after) more

change-rank : (t : Litmus) (words : ℕ) (c : StateChange) (more : List ℕ) → rank ((codes " " ++ printed_change t words c) ++ more) ≡ 8
change-rank t words c more = ap rank (change-split t words c more) ∙ core-rank c.core.0 (behind-core t words c more) 46 refl

pub changes-follow : (t : Litmus) (words : ℕ) (cs : List StateChange) (rest : List ℕ) → Follows 9 rest → Follows 8 (changes_text t words cs ++ rest)
changes-follow t words [] rest f = earlier 8 rest f
changes-follow t words (c ∷ cs) rest f =
    is-part 8 (changes_text t words (c ∷ cs) ++ rest) refl
    (ap rank (append_assoc (codes " " ++ printed_change t words c) (changes_text t words cs) rest)
    ∙ change-rank t words c (changes_text t words cs ++ rest))

-- a change of one of the test's lines, by a core's number
abbrev pub ChangeFits : Litmus → ℕ → StateChange → Type 0
ChangeFits t words c = (c.core.0 < 256) × IsLine t words c.line

change-cut : (t : Litmus) (words : ℕ) → IsTest t → Tells (ChangeFits t words) Ends (λ c. codes " " ++ printed_change t words c) (λ c. c)
change-cut t words test a b rest other p q ends ends' e =
    let small = p.0 in
    let small' = q.0 in
    let from_after = λ (c : StateChange) (after : List ℕ). state_name c.after ++ after in
    let from_before = λ (c : StateChange) (after : List ℕ). state_name c.before ++ (codes ">" ++ from_after c after) in
    let core =
    next-cut (codes " P") a.core.0 b.core.0 (46 ∷ behind-core t words a rest) (46 ∷ behind-core t words b other)
    (omega (arith, small)) (omega (arith, small')) refl refl
    (sym (change-split t words a rest) ∙ (e ∙ change-split t words b other)) in
    let line = line-cut t words a.line b.line (codes " " ++ from_before a rest) (codes " " ++ from_before b other) test p.1 q.1 refl refl
    (append_cancel_left (codes ".") (behind-core t words a rest) (behind-core t words b other) core.1) in
    let before =
    word-cut state_name read_state a.before b.before (codes ">" ++ from_after a rest)
    (codes ">" ++ from_after b other) state-plain state-again refl refl
    (append_cancel_left (codes " ") (from_before a rest) (from_before b other) line.1) in
    let after =
    word-cut state_name read_state a.after b.after rest other state-plain state-again ends ends'
    (append_cancel_left (codes ">") (from_after a rest) (from_after b other) before.1) in
    let cores = same-core a.core b.core core.0 in
    ((λ i. record { core = cores i; line = line.0 i; before = before.0 i; after = after.0 i }), after.1)

pub changes-cut : (t : Litmus) (words : ℕ) (xs ys : List StateChange) (rest other : List ℕ)
    → IsTest t
    → All (ChangeFits t words) xs
    → All (ChangeFits t words) ys
    → Follows 9 rest → Follows 9 other → changes_text t words xs ++ rest ≡ changes_text t words ys ++ other → (xs ≡ ys) × (rest ≡ other)
changes-cut t words xs ys rest other test p q f f' e =
    let cut =
    list-cut (ChangeFits t words) Ends (Follows 9) (λ n c. codes " " ++ printed_change t words c)
    (λ n. changes_text t words) (λ c. c) (λ n. refl) (λ n c cs. refl) (λ n. change-cut t words test)
    (λ n cs rest all f. (changes-follow t words cs rest f).ends)
    (λ n c more rest fits f same.
    missing 8 ((codes " " ++ printed_change t words c) ++ more) rest (change-rank t words c more) f same)
    0 xs ys rest other p q f f' e in
    (all-told xs ys cut.0, cut.1)
