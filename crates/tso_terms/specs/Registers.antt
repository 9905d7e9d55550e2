-- Words of 32 bits, and the six general registers that litmus tests use: their numbers and their names. (Intel's manual:
-- EAX and so on; ESP and EBP are none of them.)
use Rattle.std.specs.Prelude.{ℕ, ◌<◌, ◌≡◌, ◌^◌, List, length, map, All, Bool, Option, Some, None, if◌then◌else◌, codes}
use Rattle.std.specs.Str.{bytes_eq}
use Rattle.std.specs.Char.{to_ascii_lowercase}
use Rattle.tso_terms.specs.declared.register.Reg.{Reg}
use Rattle.tso_terms.specs.declared.register.Reg.TheVariants.{Eax, Ebx, Ecx, Edx, Esi, Edi}

-- what a location or a register holds: 32 bits
abbrev pub IsWord : ℕ → Type 0
IsWord n = n < 2 ^ 32

-- the six registers of a core
pub record AreRegisters (registers : List ℕ) : Type 0 where
  pub six : length registers ≡ 6
  pub words : All IsWord registers

-- the register's place in a list of six
abbrev pub index_of : Reg → ℕ
index_of Eax = 0
index_of Ebx = 1
index_of Ecx = 2
index_of Edx = 3
index_of Esi = 4
index_of Edi = 5

-- the name as it is printed
abbrev pub name_of : Reg → List ℕ
name_of Eax = codes "EAX"
name_of Ebx = codes "EBX"
name_of Ecx = codes "ECX"
name_of Edx = codes "EDX"
name_of Esi = codes "ESI"
name_of Edi = codes "EDI"

-- the same letters, in whatever case
abbrev pub same_letters : List ℕ → List ℕ → Bool
same_letters xs ys = bytes_eq (map to_ascii_lowercase xs) (map to_ascii_lowercase ys)

-- the register of this name in any case of letters
abbrev pub register_named : List ℕ → Option Reg
register_named name =
    if same_letters name (codes "EAX") then Some Eax
    else (if same_letters name (codes "EBX") then Some Ebx
    else (if same_letters name (codes "ECX") then Some Ecx
    else (if same_letters name (codes "EDX") then Some Edx
    else (if same_letters name (codes "ESI") then Some Esi
    else (if same_letters name (codes "EDI") then Some Edi
    else None)))))
