-- Lines, parts and branches that loops make one after the other.
use Rattle.search_report.proofs.Vocabulary.{◌≡◌, ◌∙◌, ◌<◌, ◌+◌, ◌==◌, ℕ, suc, Bool, true, false, take, List, [], ◌∷◌, ◌++◌, map, length}
use Rattle.search_report.proofs.Vocabulary.{drop, get_or, Some, None, refl, sym, ap, arith, append_assoc, append-nil, drop_more, flat_map}
use Rattle.search_report.proofs.Vocabulary.{Litmus}
use Rattle.search_report.specs.Lines as spec
use Rattle.search_report.specs.inner.LineViews.{reason_line_of}
use Rattle.search_report.specs.inner.LineParts.{closed_of, grown_by, reason_lines_in, open_of, part_in, stacked_parts}
use Rattle.search_report.specs.inner.Standing.{branch_in, stack_of, standing_of}
use Rattle.search_report.specs.declared.cases_of_lines.Closed.{Closed}
use Rattle.search_report.specs.declared.cases_of_lines.Part.{Part}
use Rattle.search_report.specs.declared.lines.Line.{Line}
use Rattle.search_report.specs.declared.cases_of_lines.Open.{Open}
use Rattle.search_report.specs.declared.standing.Branch.{Branch}
use Rattle.search_report.specs.declared.standing.Standing.{Standing}
use Rattle.std.proofs.lemmas.Bool.Decides.{nat_tests}

-- ---- what is pushed comes first

pub branch_pushed : (old new : List Branch) (b : Branch) → new ≡ old ++ (b ∷ []) → stack_of new ≡ branch_in b ∷ stack_of old
branch_pushed old new b e = ap stack_of e ∙ go old
  where
    go : (bs : List Branch) → stack_of (bs ++ (b ∷ [])) ≡ branch_in b ∷ stack_of bs
    go [] = refl
    go (x ∷ bs) = ap (λ cs. cs ++ (branch_in x ∷ [])) (go bs)

pub line_pushed : (old new : List Line) (l : Line) → new ≡ old ++ (l ∷ []) → reason_lines_in new ≡ reason_line_of l ∷ reason_lines_in old
line_pushed old new l e = ap reason_lines_in e ∙ go old
  where
    go : (ls : List Line) → reason_lines_in (ls ++ (l ∷ [])) ≡ reason_line_of l ∷ reason_lines_in ls
    go [] = refl
    go (x ∷ ls) = ap (λ ms. ms ++ (reason_line_of x ∷ [])) (go ls)

pub part_pushed : (old new : List Part) (p : Part) → new ≡ old ++ (p ∷ []) → stacked_parts new ≡ part_in p ∷ stacked_parts old
part_pushed old new p e = ap stacked_parts e ∙ go old
  where
    go : (ps : List Part) → stacked_parts (ps ++ (p ∷ [])) ≡ part_in p ∷ stacked_parts ps
    go [] = refl
    go (x ∷ ps) = ap (λ qs. qs ++ (part_in x ∷ [])) (go ps)

-- ---- the last one of a list

pub map-last : {X Y : Type 0} (f : X → Y) (xs : List X) (x : X) → map f (xs ++ (x ∷ [])) ≡ map f xs ++ (f x ∷ [])
map-last f [] x = refl
map-last f (y ∷ xs) x = ap (λ ys. f y ∷ ys) (map-last f xs x)

pub flat-last : {X Y : Type 0} (f : X → List Y) (xs : List X) (x : X) → flat_map f (xs ++ (x ∷ [])) ≡ flat_map f xs ++ f x
flat-last f [] x = append-nil (f x)
flat-last f (y ∷ xs) x = ap (λ ys. f y ++ ys) (flat-last f xs x) ∙ sym (append_assoc (f y) (flat_map f xs) (f x))

-- all cases of a question are closed: the last one is what is left
pub closed-last : (question : List ℕ) (cs : List spec.Closed) (c : spec.Closed)
    → spec.closed_cases question (cs ++ (c ∷ [])) ≡ map (spec.closed_case question) cs ++ (spec.So 0 question c.answers (Some c.closing) ∷ [])
closed-last question [] c = refl
closed-last question (d ∷ []) c = refl
closed-last question (d ∷ (e ∷ cs)) c = ap (λ ls. spec.closed_case question d ∷ ls) (closed-last question (e ∷ cs) c)

-- ---- parts

pub part-open : (t : Litmus) (s : spec.Standing) (ps : List spec.Part) → 0 < length ps
    → spec.part_of t s ps
    ≡ spec.IsOpen (record { answer = s.answer; lines = spec.question_lines s.question (spec.closed_among t [] ps) (spec.open_among ps) })
part-open t s [] some = absurd (omega (arith, some))
part-open t s (p ∷ ps) some = refl

pub grown-last : (t : Litmus) (ss : List spec.Standing) (s : spec.Standing) (ps : List spec.Part)
    → grown_by t (ss ++ (s ∷ [])) ps ≡ grown_by t ss (spec.grown t s ps)
grown-last t [] s ps = refl
grown-last t (x ∷ ss) s ps = ap (spec.grown t x) (grown-last t ss s ps)

pub grown-all : (t : Litmus) (ss : List spec.Standing) → grown_by t ss [] ≡ spec.tree_parts t ss
grown-all t [] = refl
grown-all t (s ∷ ss) = ap (spec.grown t s) (grown-all t ss)

-- ---- loops

-- what is made of the next item comes before what is made, and behind what is made of those that are left
pub stacked : {X Y : Type 0} (G : List X → List Y) (g : X → Y) → ((x : X) (xs : List X) → G (x ∷ xs) ≡ G xs ++ (g x ∷ [])) → (xs : List X) (i : ℕ) (x : X)
    → i < length xs → x ≡ get_or xs i x → (old new whole : List Y) → new ≡ g x ∷ old → G (drop i xs) ++ old ≡ whole → G (drop (i + 1) xs) ++ new ≡ whole
stacked G g goes xs i x within is old new whole e so =
    let rest = drop (i + 1) xs in
    ap (λ ys. G rest ++ ys) e
    ∙ (sym (append_assoc (G rest) (g x ∷ []) old)
    ∙ (sym (ap (λ ys. ys ++ old) (ap G (drop_more xs i x within ∙ ap (λ y. y ∷ rest) (sym is)) ∙ goes x rest)) ∙ so))

-- the last one is taken, and what is made of it comes before what is made
pub pop-map : {X Y : Type 0} (f : X → Y) (before after : List X) (x : X) → before ≡ after ++ (x ∷ []) → (old new whole : List Y) → new ≡ f x ∷ old
    → map f before ++ old ≡ whole → map f after ++ new ≡ whole
pop-map f before after x taken old new whole e so =
    ap (λ ys. map f after ++ ys) e
    ∙ (sym (append_assoc (map f after) (f x ∷ []) old) ∙ (sym (ap (λ ys. ys ++ old) (ap (map f) taken ∙ map-last f after x)) ∙ so))

pub pop-flat : {X Y : Type 0} (f : X → List Y) (before after : List X) (x : X) → before ≡ after ++ (x ∷ []) → (old new whole : List Y) → new ≡ f x ++ old
    → flat_map f before ++ old ≡ whole → flat_map f after ++ new ≡ whole
pop-flat f before after x taken old new whole e so =
    ap (λ ys. flat_map f after ++ ys) e
    ∙ (sym (append_assoc (flat_map f after) (f x) old) ∙ (sym (ap (λ ys. ys ++ old) (ap (flat_map f) taken ∙ flat-last f after x)) ∙ so))

-- the last one is taken, and what is made of it comes before what is made
pub taken : {X Y : Type 0} (G : List X → List Y) (before after : List X) (x : X) (ys : List Y) → G (after ++ (x ∷ [])) ≡ G after ++ ys
    → before ≡ after ++ (x ∷ []) → (old new whole : List Y) → new ≡ ys ++ old → G before ++ old ≡ whole → G after ++ new ≡ whole
taken G before after x ys goes is old new whole e so =
    ap (λ zs. G after ++ zs) e ∙ (sym (append_assoc (G after) ys old) ∙ (sym (ap (λ zs. zs ++ old) (ap G is ∙ goes)) ∙ so))

-- the first one is taken, and what is made of it comes before what is made
pub taken-first : {X Y : Type 0} (G : List X → List Y) (before rest : List X) (x : X) (ys : List Y) → G (x ∷ rest) ≡ G rest ++ ys
    → before ≡ x ∷ rest → (old new whole : List Y) → new ≡ ys ++ old → G before ++ old ≡ whole → G rest ++ new ≡ whole
taken-first G before rest x ys goes is old new whole e so =
    ap (λ zs. G rest ++ zs) e ∙ (sym (append_assoc (G rest) ys old) ∙ (sym (ap (λ zs. zs ++ old) (ap G is ∙ goes)) ∙ so))

-- of each of these, by way of another
pub maps-last : {X Y Z : Type 0} (f : Y → Z) (g : X → Y) (xs : List X) (x : X) → map f (map g (xs ++ (x ∷ []))) ≡ map f (map g xs) ++ (f (g x) ∷ [])
maps-last f g xs x = ap (map f) (map-last g xs x) ∙ map-last f (map g xs) (g x)

pub flat-maps-last : {X Y Z : Type 0} (f : Y → List Z) (g : X → Y) (xs : List X) (x : X)
    → flat_map f (map g (xs ++ (x ∷ []))) ≡ flat_map f (map g xs) ++ f (g x)
flat-maps-last f g xs x = ap (flat_map f) (map-last g xs x) ∙ flat-last f (map g xs) (g x)

-- a line is taken, and stands behind those that are done
pub line-moved : (before after : List Line) (l : Line) → before ≡ after ++ (l ∷ []) → (old new : List Line) → new ≡ old ++ (l ∷ [])
    → (whole : List spec.Line) → map reason_line_of old ++ reason_lines_in before ≡ whole → map reason_line_of new ++ reason_lines_in after ≡ whole
line-moved before after l taken old new e whole so =
    ap (λ ls. map reason_line_of ls ++ reason_lines_in after) e
    ∙ (ap (λ ls. ls ++ reason_lines_in after) (map-last reason_line_of old l)
    ∙ (append_assoc (map reason_line_of old) (reason_line_of l ∷ []) (reason_lines_in after)
    ∙ (sym (ap (λ ls. map reason_line_of old ++ ls) (line_pushed after before l taken)) ∙ so)))

-- ---- the lines of a question

-- all cases are closed: the last one, which is taken, is what is left
pub closed-lines : (question : List ℕ) (closed left : List Closed) (case : Closed) → closed ≡ left ++ (case ∷ []) → (last whole : List spec.Line)
    → last ≡ spec.So 0 question (closed_of case).answers (Some (closed_of case).closing) ∷ []
    → whole ≡ map (spec.closed_case question) (map closed_of left) ++ last → whole ≡ spec.closed_cases question (map closed_of closed)
closed-lines question closed left case taken last whole e so =
    so ∙ (ap (λ ls. map (spec.closed_case question) (map closed_of left) ++ ls) e
    ∙ sym (ap (λ cs. spec.closed_cases question (map closed_of cs)) taken
    ∙ (ap (spec.closed_cases question) (map-last closed_of left case) ∙ closed-last question (map closed_of left) (closed_of case))))

-- one case is left, which has a part
pub one-left : (question : List ℕ) (cs : List spec.Closed) (before after : List Open) (o : Open) → before ≡ after ++ (o ∷ []) → after ≡ []
    → spec.question_lines question cs (map open_of before)
    ≡ map (spec.closed_case question) cs ++ (spec.So 0 question ((open_of o).answer ∷ []) None ∷ (open_of o).lines)
one-left question cs before after o taken none = ap (λ os. spec.question_lines question cs (map open_of os)) (taken ∙ ap (λ os. os ++ (o ∷ [])) none)

-- no item is left
pub none-left : {X : Type 0} (xs : List X) (n : ℕ) (empty : Bool) → n ≡ length xs → empty ≡ (n == 0) → empty ≡ true → xs ≡ []
none-left [] n empty size is so = refl
none-left (x ∷ xs) n empty size is so = absurd (let no : false ≡ true = sym (more (length xs)) ∙ (ap (λ m. m == 0) (sym size) ∙ (sym is ∙ so)) in cc)
  where
    more : (m : ℕ) → (suc m == 0) ≡ false
    more m = grind (arith, nat_tests)

-- ---- parts, one by one

pub part-grown : (t : Litmus) (before after : List Standing) (s : Standing)
    → before ≡ after ++ (s ∷ [])
    → (old rest new : List Part) (p : Part)
    → new ≡ rest ++ (p ∷ [])
    → part_in p ≡ spec.part_of t (standing_of s) (take s.count (stacked_parts old)) → stacked_parts rest ≡ drop s.count (stacked_parts old)
    → (whole : List spec.Part) → grown_by t (map standing_of before) (stacked_parts old) ≡ whole
    → grown_by t (map standing_of after) (stacked_parts new) ≡ whole
part-grown t before after s taken old rest new p e is left whole so =
    ap (grown_by t (map standing_of after)) (part_pushed rest new p e ∙ (λ i. is i ∷ left i))
    ∙ (sym (ap (λ ss. grown_by t ss (stacked_parts old)) (ap (map standing_of) taken ∙ map-last standing_of after s)
    ∙ grown-last t (map standing_of after) (standing_of s) (stacked_parts old)) ∙ so)

pub part-moved : (before after : List Part) (p : Part) → before ≡ after ++ (p ∷ []) → (old new : List Line)
    → map reason_line_of new ≡ map reason_line_of old ++ spec.part_lines (part_in p)
    → (whole : List spec.Line) → map reason_line_of old ++ flat_map spec.part_lines (stacked_parts before) ≡ whole
    → map reason_line_of new ++ flat_map spec.part_lines (stacked_parts after) ≡ whole
part-moved before after p taken old new e whole so =
    ap (λ ls. ls ++ flat_map spec.part_lines (stacked_parts after)) e
    ∙ (append_assoc (map reason_line_of old) (spec.part_lines (part_in p)) (flat_map spec.part_lines (stacked_parts after))
    ∙ (sym (ap (λ ps. map reason_line_of old ++ flat_map spec.part_lines ps) (part_pushed after before p taken)) ∙ so))
