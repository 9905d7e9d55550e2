use Rattle.scheduler.proofs.Vocabulary.{◌≡◌, ℕ, ◌-◌, ◌*◌, ◌%◌, sym, ap, subst, ◌∙◌}
use Rattle.std.specs.Int.Bits.{bit_and}
use Rattle.std.proofs.lemmas.Nat.{and_mask}
use Rattle.scheduler.proofs.seeds.pick_of.Goals as goal

-- to keep the bits below those of a power of two is to divide by it
pub returns-then-is_power_of_two : goal.returns-then-is_power_of_two
returns-then-is_power_of_two c =
    let power = c.is_power_of_two.ensures c.if-is_power_of_two.true in
    ap (λ (r : ℕ). bit_and c.args.word (2 * r - 1)) c.from-choices.ensures
    ∙ subst (λ (n : ℕ). bit_and c.args.word (n - 1) ≡ c.args.word % n) (sym power.1) (and_mask c.args.word power.0)
