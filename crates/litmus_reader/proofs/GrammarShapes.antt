-- Instructions keep their locations' numbers as other names appear.
use Rattle.litmus_reader.proofs.Vocabulary.{◌≡◌, ℕ, List, [], ◌∷◌, refl, ap, ◌∙◌, StoreImm, StoreReg, Load, Xchg, Xadd, CoreInstr, numbered}
use Rattle.litmus_reader.proofs.Vocabulary.{location, instr_with, location_in, of_core, Shape, store_imm, store_reg, load, set_imm, set_reg}
use Rattle.litmus_reader.proofs.Vocabulary.{fence, xchg, xadd}
use Rattle.litmus_tokens.specs.Shapes.{compare_exchange, locked_constant, locked_register, locked_negate, combine_constant}
use Rattle.litmus_tokens.specs.Shapes.{combine_register, negate, swap, nothing}
use Rattle.tso_terms.specs.declared.instruction.Instr.TheVariants.{CompareExchange, LockedCombine, LockedNegate}
use Rattle.basic_laws.specs.Types.{Number, Held}
use Rattle.litmus_reader.proofs.Placed.{Placed, instrs_with, locations_of}
use Rattle.litmus_reader.proofs.GrammarNames.{AllKnown, known_parts, number_more}

pub instr_stays : (shape : Shape) (xs names : List (List ℕ))
    → AllKnown names (location_in shape)
    → instr_with (numbered names xs) shape ≡ instr_with names shape
instr_stays (store_imm x v) xs names is = ap (λ n. StoreImm (location n) v) (number_more xs names x is.0)
instr_stays (store_reg x reg) xs names is = ap (λ n. StoreReg (location n) reg) (number_more xs names x is.0)
instr_stays (load reg x) xs names is = ap (λ n. Load reg (location n)) (number_more xs names x is.0)
instr_stays (set_imm reg v) xs names is = refl
instr_stays (set_reg reg other) xs names is = refl
instr_stays fence xs names is = refl
instr_stays (xchg x reg) xs names is = ap (λ n. Xchg (location n) reg) (number_more xs names x is.0)
instr_stays (xadd x reg) xs names is = ap (λ n. Xadd (location n) reg) (number_more xs names x is.0)
instr_stays (compare_exchange x reg) xs names is = ap (λ n. CompareExchange (location n) reg) (number_more xs names x is.0)
instr_stays (locked_constant operator x v) xs names is = ap (λ n. LockedCombine (location n) operator (Number v)) (number_more xs names x is.0)
instr_stays (locked_register operator x reg) xs names is = ap (λ n. LockedCombine (location n) operator (Held reg)) (number_more xs names x is.0)
instr_stays (locked_negate x) xs names is = ap (λ n. LockedNegate (location n)) (number_more xs names x is.0)
instr_stays (combine_constant operator reg v) xs names is = refl
instr_stays (combine_register operator reg other) xs names is = refl
instr_stays (negate reg) xs names is = refl
instr_stays (swap reg other) xs names is = refl
instr_stays nothing xs names is = refl

pub instrs_stay : (es : List Placed) (xs names : List (List ℕ)) → AllKnown names (locations_of es) → instrs_with (numbered names xs) es ≡ instrs_with names es
instrs_stay [] xs names are = refl
instrs_stay (e ∷ es) xs names are =
    let parts = known_parts (location_in e.shape) (locations_of es) names are in
    ap (λ (i : _). of_core e.core i ∷ instrs_with (numbered names xs) es) (instr_stays e.shape xs names parts.0)
    ∙ ap (λ (l : List CoreInstr). of_core e.core (instr_with names e.shape) ∷ l) (instrs_stay es xs names parts.1)
