-- What is looked at, one core and one location at a time.
use Rattle.tso_report.proofs.Vocabulary.{◌≡◌, ◌∙◌, ℕ, zero, suc, ◌+◌, ◌-◌, ◌<◌, ◌≤◌, Bool, List, [], ◌∷◌, ◌++◌, length, map, filter, drop}
use Rattle.tso_report.proofs.Vocabulary.{drop_all, All, ap, sym, subst, append_assoc, append-nil, arith, filter-append, All-filter}
use Rattle.tso_report.proofs.Vocabulary.{All-append, All-cons, All-nil, slice_index, slice_index_or, shown_value, Litmus, Reg, Named}
use Rattle.tso_report.proofs.Vocabulary.{all_registers, is_looked_at, named_register, named_location, named_registers, named_locations}
use Rattle.tso_report.proofs.Vocabulary.{looked_at, NameExists}
use Rattle.basic_laws.specs.Types.{Core, Loc}
use Rattle.tso_terms.specs.Registers.{index_of}
use Rattle.tso_report.specs.declared.named.Named.TheVariants.{Register, Location}

count-next : (i n : ℕ) → i < n → n - i ≡ suc (n - (i + 1))
count-next i n h = omega arith

-- after what was noted, the next part and what comes after it
part-noted : (p : Named → Bool) (list before after part rest : List Named) → after ≡ before ++ filter p part → before ++ filter p (part ++ rest) ≡ list
    → after ++ filter p rest ≡ list
part-noted p list before after part rest is was =
    ap (λ noted. noted ++ filter p rest) is ∙ (append_assoc before (filter p part) (filter p rest)
    ∙ (ap (λ further. before ++ further) (sym (filter-append p part rest)) ∙ was))

pub core-noted : (p : Named → Bool) (list before after : List Named) (core n : ℕ) → core < n
    → after ≡ before ++ filter p (map (named_register core) all_registers) → before ++ filter p (named_registers core (n - core)) ≡ list
    → after ++ filter p (named_registers (core + 1) (n - (core + 1))) ≡ list
core-noted p list before after core n small is was =
    part-noted p list before after (map (named_register core) all_registers) (named_registers (core + 1) (n - (core + 1))) is
    (ap (λ count. before ++ filter p (named_registers core count)) (sym (count-next core n small)) ∙ was)

pub register-noted : (p : Named → Bool) (list before after : List Named) (named : Named) (rest all : List Named) → after ≡ before ++ filter p (named ∷ [])
    → all ≡ named ∷ rest → before ++ filter p all ≡ list → after ++ filter p rest ≡ list
register-noted p list before after named rest all is next was =
    part-noted p list before after (named ∷ []) rest is (sym (ap (λ l. before ++ filter p l) next) ∙ was)

-- and no register of the core is left at its end
pub registers-over : (p : Named → Bool) (list noted : List Named) (core i : ℕ) (regs : List Reg) → length regs ≤ i
    → list ++ filter p (map (named_register core) (drop i regs)) ≡ noted → list ≡ noted
registers-over p list noted core i regs over so =
    sym (append-nil list) ∙ (sym (ap (λ rest. list ++ filter p (map (named_register core) rest)) (drop_all i regs over)) ∙ so)

pub location-noted : (p : Named → Bool) (list before after : List Named) (loc n : ℕ) → loc < n
    → after ≡ before ++ filter p (named_location loc ∷ []) → before ++ filter p (named_locations loc (n - loc)) ≡ list
    → after ++ filter p (named_locations (loc + 1) (n - (loc + 1))) ≡ list
location-noted p list before after loc n small is was =
    part-noted p list before after (named_location loc ∷ []) (named_locations (loc + 1) (n - (loc + 1))) is
    (ap (λ count. before ++ filter p (named_locations loc count)) (sym (count-next loc n small)) ∙ was)

-- ---- what is looked at is there

core-known : (cores locations core : ℕ) (regs : List Reg) → core < cores → All (NameExists cores locations) (map (named_register core) regs)
core-known cores locations core [] small = All-nil (NameExists cores locations)
core-known cores locations core (reg ∷ regs) small =
    All-cons (NameExists cores locations) (named_register core reg) (map (named_register core) regs) small
    (core-known cores locations core regs small)

registers-known : (cores locations core count : ℕ) → core + count ≤ cores → All (NameExists cores locations) (named_registers core count)
registers-known cores locations core zero fits = All-nil (NameExists cores locations)
registers-known cores locations core (suc count) fits =
    All-append (NameExists cores locations) (map (named_register core) all_registers) (named_registers (core + 1) count)
    (core-known cores locations core all_registers (omega (arith, fits))) (registers-known cores locations (core + 1) count (omega (arith, fits)))

locations-known : (cores locations loc count : ℕ) → loc + count ≤ locations → All (NameExists cores locations) (named_locations loc count)
locations-known cores locations loc zero fits = All-nil (NameExists cores locations)
locations-known cores locations loc (suc count) fits =
    All-cons (NameExists cores locations) (named_location loc) (named_locations (loc + 1) count) (omega (arith, fits))
    (locations-known cores locations (loc + 1) count (omega (arith, fits)))

-- all registers and locations of a test
pub names-known : (t : Litmus)
    → All (NameExists (length t.programs) (length t.locations)) (named_registers 0 (length t.programs) ++ named_locations 0 (length t.locations))
names-known t =
    let cores = length t.programs in
    let locations = length t.locations in
    All-append (NameExists cores locations) (named_registers 0 cores) (named_locations 0 locations)
    (registers-known cores locations 0 cores (omega arith)) (locations-known cores locations 0 locations (omega arith))

pub looked-known : (t : Litmus) → All (NameExists (length t.programs) (length t.locations)) (looked_at t)
looked-known t =
    All-filter (is_looked_at t.condition) (NameExists (length t.programs) (length t.locations))
    (named_registers 0 (length t.programs) ++ named_locations 0 (length t.locations)) (names-known t)

-- all of them are noted, registers first, after nothing
pub registers-noted : (p : Named → Bool) (t : Litmus) (first list : List Named) → first ≡ [] → list ≡ first ++ filter p (named_registers 0 (length t.programs))
    → list ++ filter p (named_locations 0 (length t.locations - 0)) ≡ filter p (named_registers 0 (length t.programs) ++ named_locations 0 (length t.locations))
registers-noted p t first list none is =
    let registers = named_registers 0 (length t.programs) in
    let locations = named_locations 0 (length t.locations) in
    let all : length t.locations - 0 ≡ length t.locations = omega arith in
    ap (λ count. list ++ filter p (named_locations 0 count)) all
    ∙ ap (λ noted. noted ++ filter p locations) (is ∙ ap (λ noted. noted ++ filter p registers) none)
    ∙ sym (filter-append p registers locations)

-- and no location is left at the end
pub all-noted : (p : Named → Bool) (t : Litmus) (all list : List Named) (loc : ℕ) → length t.locations ≤ loc
    → list ++ filter p (named_locations loc (length t.locations - loc)) ≡ all → list ≡ all
all-noted p t all list loc over so =
    let none : length t.locations - loc ≡ 0 = omega (arith, over) in
    sym (append-nil list) ∙ (sym (ap (λ count. list ++ filter p (named_locations loc count)) none) ∙ so)

pub noted-known : (t : Litmus) (list : List Named) → list ≡ looked_at t → All (NameExists (length t.programs) (length t.locations)) list
noted-known t list is = subst (All (NameExists (length t.programs) (length t.locations))) (sym is) (looked-known t)

-- ---- the value of what is looked at

pub register-shown : (registers : List (List ℕ)) (memory : List ℕ) (named : Named) (core : Core) (reg : Reg)
    (index value : ℕ)
    → named ≡ Register core reg
    → index ≡ index_of reg
    → value ≡ slice_index (slice_index_or registers core.0 []) index → value ≡ shown_value registers memory named
register-shown registers memory named core reg index value is index_is value_is =
    value_is ∙ (ap (slice_index (slice_index_or registers core.0 [])) index_is ∙ sym (ap (shown_value registers memory) is))

pub location-shown : (registers : List (List ℕ)) (memory : List ℕ) (named : Named) (loc : Loc) (value : ℕ) → named ≡ Location loc
    → value ≡ slice_index memory loc.0 → value ≡ shown_value registers memory named
location-shown registers memory named loc value is value_is = value_is ∙ sym (ap (shown_value registers memory) is)
