use Rattle.scheduler.proofs.Vocabulary.{length, arith, sym, ap, subst, refl, ◌∙◌, err_from_is_err_and, bytes_eq, codes, most_choices, One}
use Rattle.scheduler.proofs.Vocabulary.{words_of_text, AreItems, none}
use Rattle.std.specs.Prelude.{◌≡◌, ◌-◌, true, false}
use Rattle.scheduler.proofs.Items.{item_one, item_seeded}
use Rattle.scheduler.proofs.Loop.{went_on, refused_at, all_read}
use Rattle.scheduler.proofs.choices.choices_of.Goals as goal

pub loop-word-init : goal.loop-word-init
loop-word-init c = record {
  items = subst (AreItems c.args.cores _) (sym c.new-choices.ensures.items) none;
  few = omega (arith, ap length c.new-choices.ensures.items);
  to_come = refl;
  within = omega arith;
}

pub returns-in_err-read-clause-refused : goal.returns-in_err-read-clause-refused
returns-in_err-read-clause-refused c =
    let p = err_from_is_err_and c.from_residual.result c.from_residual.ensures.1 in
    let i = c.loop-word.invariant in
    let seed : bytes_eq c.in-Some.word.now (codes "seed") ≡ true = sym c.is_seed.ensures ∙ c.if-is_seed.true in
    rw (p.1, p.2) (λ _.
    refused_at c.args.cores (most_choices - c.len-room.result) c.loop-word.words (words_of_text c.args.text.now)
    (words_of_text c.in-Some.after.now) c.in-Some.word.now c.loop-word.choices.items _
    c.requires i.few (omega (arith, c.len-room.ensures)) (i.to_come ∙ c.in-Some.ensures.some)
    (item_seeded c.args.cores _ _ c.in-Some.word.now (words_of_text c.in-Some.after.now) _ seed c.in_err-read.ensures.item) i.items)

pub returns-in_err-read_one-clause-refused : goal.returns-in_err-read_one-clause-refused
returns-in_err-read_one-clause-refused c =
    let p = err_from_is_err_and c.from_residual-in_err-read_one.result c.from_residual-in_err-read_one.ensures.1 in
    let i = c.loop-word.invariant in
    let other : bytes_eq c.in-Some.word.now (codes "seed") ≡ false = sym c.is_seed.ensures ∙ c.if-is_seed.false in
    rw (p.1, p.2) (λ _.
    refused_at c.args.cores (most_choices - c.len-room.result) c.loop-word.words (words_of_text c.args.text.now)
    (words_of_text c.in-Some.after.now) c.in-Some.word.now c.loop-word.choices.items _
    c.requires i.few (omega (arith, c.len-room.ensures)) (i.to_come ∙ c.in-Some.ensures.some)
    (item_one c.args.cores _ _ c.in-Some.word.now (words_of_text c.in-Some.after.now) _ other c.in_err-read_one.ensures.fault) i.items)

pub loop-word-preserved-then-is_seed : goal.loop-word-preserved-then-is_seed
loop-word-preserved-then-is_seed c =
    let i = c.loop-word.invariant in
    let seed : bytes_eq c.in-Some.word.now (codes "seed") ≡ true = sym c.is_seed.ensures ∙ c.if-is_seed.true in
    let on =
    went_on c.args.cores (most_choices - c.len-room.result) _ c.loop-word.words (words_of_text c.args.text.now)
    (words_of_text c.in-Some.after.now) (words_of_text c.in_ok-read.read.after.now) c.in-Some.word.now
    c.loop-word.choices.items c.in_ok-read.read.item c.requires i.few (omega (arith, c.len-room.ensures)) (i.to_come ∙ c.in-Some.ensures.some)
    (item_seeded c.args.cores _ _ c.in-Some.word.now (words_of_text c.in-Some.after.now) _ seed c.in_ok-read.ensures.item) c.in_ok-read.ensures.after i.items in
    let shorter = c.in-Some.ensures.shorter in
    let used = c.in_ok-read.ensures.shorter in
    rw (c.words.ensures, c.in_ok-push_to.ensures) (record {
      items = on.items;
      few = on.few;
      to_come = on.to_come;
      within = omega (arith, i.within, shorter, used);
    })

pub loop-word-preserved : goal.loop-word-preserved
loop-word-preserved c =
    let i = c.loop-word.invariant in
    let other : bytes_eq c.in-Some.word.now (codes "seed") ≡ false = sym c.is_seed.ensures ∙ c.if-is_seed.false in
    let on =
    went_on c.args.cores (most_choices - c.len-room.result) _ c.loop-word.words (words_of_text c.args.text.now)
    (words_of_text c.in-Some.after.now) (words_of_text c.in-Some.after.now) c.in-Some.word.now
    c.loop-word.choices.items (One c.in_ok-read_one.field-0) c.requires i.few (omega (arith, c.len-room.ensures)) (i.to_come ∙ c.in-Some.ensures.some)
    (item_one c.args.cores _ _ c.in-Some.word.now (words_of_text c.in-Some.after.now) _ other c.in_ok-read_one.ensures.choice) refl i.items in
    let shorter = c.in-Some.ensures.shorter in
    rw c.in_ok-push.ensures.items (record { items = on.items; few = on.few; to_come = on.to_come; within = omega (arith, i.within, shorter) })

pub returns-clause-found : goal.returns-clause-found
returns-clause-found c =
    let i = c.loop-word.invariant in
    record { items = all_read c.args.cores c.loop-word.words _ _ _ i.items i.to_come c.in_default.ensures.none; few = i.few }
