-- What is made, one after the other: more that is made leaves what was made before as it is.
use Rattle.reading_tables.proofs.Vocabulary.{◌≡◌, ◌<◌, ◌≤◌, ◌+◌, ℕ, zero, suc, List, [], ◌∷◌, ◌++◌, length, slice_index_or, get_or, arith}
use Rattle.reading_tables.proofs.Vocabulary.{refl, sym, ap, ◌∙◌, subst, map, map-append}
use Rattle.std.specs.Prelude.{slice_set, take, Vec}
use Rattle.std.specs.Global.{Global}
use Rattle.possible_reads.specs.Expressions.{Expression}
use Rattle.reading_tables.specs.declared.expressions.Held.{Held}
use Rattle.reading_tables.specs.declared.expressions.Making.{Making}
use Rattle.reading_tables.specs.declared.expressions.Written.{Written}
use Rattle.reading_tables.specs.declared.expressions.Walk.{Walk}
use Rattle.reading_tables.specs.declared.expressions.Held.TheVariants.{Number, Returned as Read, Made}
use Rattle.reading_tables.specs.inner.Told.{unmade, held_of, making_of, made_after, all_made, written_of, HasBeenMade, HaveBeenMade, IsMore}
use Rattle.reading_tables.specs.inner.Told.{IsWalk, made_in, held_registers, told_writes}

-- ---- lists

pub length-more : {A : Type 0} (xs : List A) (y : A) → length (xs ++ (y ∷ [])) ≡ suc (length xs)
length-more [] y = refl
length-more (x ∷ xs) y = ap suc (length-more xs y)

pub at-front : {A : Type 0} (xs ys : List A) (i : ℕ) (d : A) → i < length xs → slice_index_or (xs ++ ys) i d ≡ slice_index_or xs i d
at-front [] ys i d l = absurd (omega arith)
at-front (x ∷ xs) ys zero d l = refl
at-front (x ∷ xs) ys (suc i) d l = at-front xs ys i d (omega (arith, l))

pub at-end : {A : Type 0} (xs : List A) (y d : A) → slice_index_or (xs ++ (y ∷ [])) (length xs) d ≡ y
at-end [] y d = refl
at-end (x ∷ xs) y d = at-end xs y d

pub take-more : {A : Type 0} (xs : List A) (i : ℕ) (d : A) → i < length xs → take (suc i) xs ≡ take i xs ++ (get_or xs i d ∷ [])
take-more [] i d l = absurd (omega arith)
take-more (x ∷ xs) zero d l = refl
take-more (x ∷ xs) (suc i) d l = ap (λ ys. x ∷ ys) (take-more xs i d (omega (arith, l)))

-- ---- what is made

pub made-more : (made : List Expression) (ms : List Making) (m : Making)
    → made_after made (ms ++ (m ∷ [])) ≡ made_after made ms ++ (making_of (made_after made ms) m ∷ [])
made-more made [] m = refl
made-more made (n ∷ ms) m = made-more (made ++ (making_of made n ∷ [])) ms m

count-after : (made : List Expression) (ms : List Making) → length (made_after made ms) ≡ length made + length ms
count-after made [] = omega arith
count-after made (m ∷ ms) =
    let a = count-after (made ++ (making_of made m ∷ [])) ms in
    let b = length-more made (making_of made m) in
    omega (arith, a, b)

pub count : (ms : List Making) → length (all_made ms) ≡ length ms
count ms = let a = count-after [] ms in omega (arith, a)

held-front : (made : List Expression) (e : Expression) (h : Held) → HasBeenMade (length made) h → held_of (made ++ (e ∷ [])) h ≡ held_of made h
held-front made e (Number number) i = refl
held-front made e (Read read) i = refl
held-front made e (Made number) i = at-front made (e ∷ []) number unmade i

-- one making more
pub one-made : (ms : List Making) (m : Making) → IsMore ms (ms ++ (m ∷ []))
one-made ms m = record {
  longer = let a = length-more ms m in omega (arith, a);
  kept = λ h i.
      ap (λ xs. held_of xs h) (made-more [] ms m)
      ∙ held-front (all_made ms) (making_of (all_made ms) m) h (subst (λ n. HasBeenMade n h) (sym (count ms)) i);
}

pub last-made : (ms : List Making) (m : Making) → held_of (all_made (ms ++ (m ∷ []))) (Made (length ms)) ≡ making_of (all_made ms) m
last-made ms m =
    ap (λ xs. slice_index_or xs (length ms) unmade) (made-more [] ms m)
    ∙ (ap (λ n. slice_index_or (all_made ms ++ (making_of (all_made ms) m ∷ [])) n unmade) (sym (count ms))
    ∙ at-end (all_made ms) (making_of (all_made ms) m) unmade)

pub last-inside : (ms : List Making) (m : Making) → HasBeenMade (length (ms ++ (m ∷ []))) (Made (length ms))
last-inside ms m = let a = length-more ms m in omega (arith, a)

-- ---- more

pub as-before : (ms : List Making) → IsMore ms ms
as-before ms = record { longer = omega arith; kept = λ h i. refl }

pub made-in-more : (m n : ℕ) (h : Held) → m ≤ n → HasBeenMade m h → HasBeenMade n h
made-in-more m n (Number number) l i = tt
made-in-more m n (Read read) l i = tt
made-in-more m n (Made number) l i = omega (arith, l, i)

pub all-in-more : (m n : ℕ) (hs : List Held) → m ≤ n → HaveBeenMade m hs → HaveBeenMade n hs
all-in-more m n [] l i = tt
all-in-more m n (h ∷ hs) l i = (made-in-more m n h l i.0, all-in-more m n hs l i.1)

pub and-more : (a b c : List Making) → IsMore a b → IsMore b c → IsMore a c
and-more a b c p q = record {
  longer = let l = p.longer in let m = q.longer in omega (arith, l, m);
  kept = λ h i. q.kept h (made-in-more (length a) (length b) h p.longer i) ∙ p.kept h i;
}

pub held-kept : (a b : List Making) (hs : List Held) → IsMore a b → HaveBeenMade (length a) hs
    → map (held_of (all_made b)) hs ≡ map (held_of (all_made a)) hs
held-kept a b [] p i = refl
held-kept a b (h ∷ hs) p i =
    ap (λ e. e ∷ map (held_of (all_made b)) hs) (p.kept h i.0) ∙ ap (λ es. held_of (all_made a) h ∷ es) (held-kept a b hs p i.1)

pub writes-kept : (a b : List Making) (ws : List Written) → IsMore a b → HaveBeenMade (length a) (map (λ (x : Written). x.value) ws)
    → map (written_of (all_made b)) ws ≡ map (written_of (all_made a)) ws
writes-kept a b [] p i = refl
writes-kept a b (w ∷ ws) p i =
    ap (λ e. record { write = w.write; value = e } ∷ map (written_of (all_made b)) ws) (p.kept w.value i.0)
    ∙ ap (λ es. written_of (all_made a) w ∷ es) (writes-kept a b ws p i.1)

-- ---- registers

pub made-at : (n : ℕ) (hs : List Held) (i : ℕ) (d : Held) → i < length hs → HaveBeenMade n hs → HasBeenMade n (slice_index_or hs i d)
made-at n [] i d l a = absurd (omega arith)
made-at n (h ∷ hs) zero d l a = a.0
made-at n (h ∷ hs) (suc i) d l a = made-at n hs i d (omega (arith, l)) a.1

pub made-set : (n : ℕ) (hs : List Held) (i : ℕ) (h : Held) → HaveBeenMade n hs → HasBeenMade n h → HaveBeenMade n (slice_set hs i h)
made-set n [] i h a b = tt
made-set n (k ∷ hs) zero h a b = (b, a.1)
made-set n (k ∷ hs) (suc i) h a b = (a.0, made-set n hs i h a.1 b)

pub made-last : (n : ℕ) (hs : List Held) (h : Held) → HaveBeenMade n hs → HasBeenMade n h → HaveBeenMade n (hs ++ (h ∷ []))
made-last n [] h a b = (b, tt)
made-last n (k ∷ hs) h a b = (a.0, made-last n hs h a.1 b)

-- ---- a walk in which more was made, and nothing else was done

module _ (old new : Walk) (more : IsMore old.makings.items new.makings.items) (walk : IsWalk old) where
  pub same-registers : new.registers ≡ old.registers → held_registers new ≡ held_registers old
  same-registers same =
      ap (map (held_of (made_in new))) same ∙ held-kept old.makings.items new.makings.items old.registers more walk.registers

  pub same-writes : new.written ≡ old.written → told_writes new ≡ told_writes old
  same-writes same =
      ap (λ (ws : Vec Written Global). map (written_of (made_in new)) ws.items) same
      ∙ writes-kept old.makings.items new.makings.items old.written.items more walk.written

  pub still-walk : new.written ≡ old.written → new.registers ≡ old.registers → IsWalk new
  still-walk writes registers = record {
    registers = subst (HaveBeenMade (length new.makings.items)) (sym registers)
        (all-in-more (length old.makings.items) (length new.makings.items) old.registers more.longer walk.registers);
    written = subst (λ (ws : Vec Written Global). HaveBeenMade (length new.makings.items) (map (λ (x : Written). x.value) ws.items)) (sym writes)
        (all-in-more (length old.makings.items) (length new.makings.items) (map (λ (x : Written). x.value) old.written.items) more.longer walk.written);
  }

-- one write more
pub written-more : (n : ℕ) (ws : List Written) (w : Written) → HaveBeenMade n (map (λ (x : Written). x.value) ws) → HasBeenMade n w.value
    → HaveBeenMade n (map (λ (x : Written). x.value) (ws ++ (w ∷ [])))
written-more n ws w a b =
    subst (HaveBeenMade n) (sym (map-append (λ (x : Written). x.value) ws (w ∷ []))) (made-last n (map (λ (x : Written). x.value) ws) w.value a b)
