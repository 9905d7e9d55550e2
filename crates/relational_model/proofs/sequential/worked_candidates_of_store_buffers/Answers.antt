use Rattle.relational_model.proofs.Vocabulary.{arith, refl, entry, loc_x, loc_y, R, W, at_once, onward, po}
use Rattle.relational_model.specs.SequentialModel.{co, fr}
use Rattle.relational_model.proofs.sequential.worked_candidates_of_store_buffers.Goals as goal

pub returns-clause-sb_is_not_sequential : goal.returns-clause-sb_is_not_sequential
returns-clause-sb_is_not_sequential c = λ a.
    let w = entry 0 0 W loc_x 1 in
    let r = entry 0 1 R loc_y 0 in
    let v = entry 1 0 W loc_y 1 in
    let q = entry 1 1 R loc_x 0 in
    a.global w
    (onward w r w (0, refl) (po w r refl)
    (onward r v w (1, refl) (fr r v (record { read = refl; overwritten = (0, refl) }))
    (onward v q w (2, refl) (po v q refl)
    (at_once q w (3, refl) (0, refl) (fr q w (record { read = refl; overwritten = (0, refl) }))))))

pub returns-clause-n6_is_not_sequential : goal.returns-clause-n6_is_not_sequential
returns-clause-n6_is_not_sequential c = λ a.
    let w = entry 0 0 W loc_x 1 in
    let r = entry 0 2 R loc_y 0 in
    let v = entry 1 0 W loc_y 2 in
    let u = entry 1 1 W loc_x 2 in
    a.global w
    (onward w r w (0, refl) (po w r refl)
    (onward r v w (2, refl) (fr r v (record { read = refl; overwritten = (0, refl) }))
    (onward v u w (3, refl) (po v u refl)
    (at_once u w (4, refl) (0, refl) (co u w (record { first = 0; second = 1; is_first = refl; is_second = refl; before = omega arith }))))))
