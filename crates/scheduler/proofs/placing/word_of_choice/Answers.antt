use Rattle.scheduler.proofs.Vocabulary.{subst, sym, arith, ◌∙◌, IfSome, words_of_text, SayAt}
use Rattle.scheduler.proofs.Stopping.{Passed, at_first, passed_on, fits_room, found, only, no_word, is_there}
use Rattle.scheduler.proofs.placing.word_of_choice.Goals as goal

pub loop-word-init : goal.loop-word-init
loop-word-init c = record { passed = at_first c.args.cores (words_of_text c.args.text.now) c.args.place; within = omega arith }

-- the room that is left is that before the item that was read
pub overflow_sub-room : goal.overflow_sub-room
overflow_sub-room c =
    fits_room c.args.cores c.args.place c.loop-word.words c.loop-word.room _ (words_of_text c.args.text.now)
    (words_of_text c.in-Some.after.now) c.in-Some.word.now c.in-Ok.read.item
    c.requires.some c.requires.within
    (subst (Passed c.args.cores (words_of_text c.args.text.now) c.args.place c.loop-word.words c.loop-word.room)
    c.in-Some.ensures.some c.loop-word.invariant.passed)
    c.in-Ok.ensures.item (c.choices-room.ensures c.args.cores)

pub loop-word-preserved : goal.loop-word-preserved
loop-word-preserved c =
    let p =
    subst (Passed c.args.cores (words_of_text c.args.text.now) c.args.place c.loop-word.words c.loop-word.room)
    c.in-Some.ensures.some c.loop-word.invariant.passed in
    let on =
    passed_on c.args.cores c.args.place c.loop-word.words c.loop-word.room c.choices-room.result
    (words_of_text c.args.text.now) (words_of_text c.in-Some.after.now) (words_of_text c.in-Ok.read.after.now)
    c.in-Some.word.now c.in-Ok.read.item
    c.requires.some c.requires.within p c.in-Ok.ensures.item c.in-Ok.ensures.after (c.choices-room.ensures c.args.cores) in
    let shorter = c.in-Some.ensures.shorter in
    let used = c.in-Ok.ensures.shorter in
    rw c.words-words.ensures (record { passed = on; within = omega (arith, c.loop-word.invariant.within, shorter, used) })

pub returns-in-Err-clause-found : goal.returns-in-Err-clause-found
returns-in-Err-clause-found c =
    let p =
    subst (Passed c.args.cores (words_of_text c.args.text.now) c.args.place c.loop-word.words c.loop-word.room)
    c.in-Some.ensures.some c.loop-word.invariant.passed in
    subst (λ answer. IfSome answer (SayAt c.args.cores (words_of_text c.args.text.now) c.args.place)) (sym c.too_many_at.ensures)
    (found c.args.cores c.args.place c.loop-word.words c.loop-word.room (words_of_text c.args.text.now)
    (words_of_text c.in-Some.after.now) c.in-Some.word.now c.in-Err.fault
    c.requires.some c.requires.within p c.in-Err.ensures.item)

pub returns-in-Err-clause-only : goal.returns-in-Err-clause-only
returns-in-Err-clause-only c =
    let p =
    subst (Passed c.args.cores (words_of_text c.args.text.now) c.args.place c.loop-word.words c.loop-word.room)
    c.in-Some.ensures.some c.loop-word.invariant.passed in
    λ number s.
    c.too_many_at.ensures
    ∙ only c.args.cores c.args.place c.loop-word.words c.loop-word.room (words_of_text c.args.text.now)
    (words_of_text c.in-Some.after.now) c.in-Some.word.now c.in-Err.fault
    c.requires.some c.requires.within p c.in-Err.ensures.item number s

pub returns-in-Err-clause-there : goal.returns-in-Err-clause-there
returns-in-Err-clause-there c = is_there c.args.cores c.args.place (words_of_text c.args.text.now) c.too_many_at.result (returns-in-Err-clause-only c)

pub returns-clause-only : goal.returns-clause-only
returns-clause-only c =
    λ number s.
    absurd (no_word c.args.cores c.args.place c.loop-word.words c.loop-word.room (words_of_text c.args.text.now) _
    c.requires.some c.requires.within c.loop-word.invariant.passed c.in_default.ensures.none number s)

pub returns-clause-there : goal.returns-clause-there
returns-clause-there c = is_there c.args.cores c.args.place (words_of_text c.args.text.now) _ (returns-clause-only c)
