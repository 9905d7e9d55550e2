-- The value at a key of a JSON object, wherever the bytes of the key belong.
use Rattle.printed_laws.proofs.Vocabulary.{◌≡◌, ◌≢◌, ℕ, cond, List, refl, sym, ap, ◌∙◌, nat_cmp, match_ordering, is_eq, slice_cmp, Ordering}
use Rattle.printed_laws.proofs.Vocabulary.{Less, Equal, Greater, Data, Members, no_members, member, put, outline, members_outline}
use Rattle.std.proofs.lemmas.Cmp.{nat_list_cmp_total, tied_itself}
use Rattle.std.proofs.lemmas.Map.Lookups.{exact_bytes}
use Rattle.json.specs.Json as json

abbrev pub found : List ℕ → json.Members → json.Json
found k json.no_members = json.null
found k (json.member l j ms) = cond (is_eq (slice_cmp nat_cmp k l)) j (found k ms)

pub own-value : (k : List ℕ) (v : Data) (ms : Members) → found k (members_outline (put k v ms)) ≡ outline v
own-value k v no_members = ap (λ o. cond (is_eq o) (outline v) json.null) (tied_itself nat_list_cmp_total k)
own-value k v (member l d ms) = by_order (slice_cmp nat_cmp k l) refl (own-value k v ms)
  where
    by_order : (o : Ordering) → slice_cmp nat_cmp k l ≡ o → found k (members_outline (put k v ms)) ≡ outline v
        → found k (members_outline (match_ordering o (member k v (member l d ms)) (member l v ms) (member l d (put k v ms)))) ≡ outline v
    by_order Less is further = ap (λ o. cond (is_eq o) (outline v) (found k (members_outline (member l d ms)))) (tied_itself nat_list_cmp_total k)
    by_order Equal is further = ap (λ o. cond (is_eq o) (outline v) (found k (members_outline ms))) is
    by_order Greater is further = ap (λ o. cond (is_eq o) (outline d) (found k (members_outline (put k v ms)))) is ∙ further

skipped : (other k : List ℕ) (here rest : json.Json) → other ≢ k → cond (is_eq (slice_cmp nat_cmp other k)) here rest ≡ rest
skipped other k here rest differ = by_order (slice_cmp nat_cmp other k) refl
  where
    by_order : (r : Ordering) → slice_cmp nat_cmp other k ≡ r → cond (is_eq r) here rest ≡ rest
    by_order Less is = refl
    by_order Equal is = absurd (differ (exact_bytes other k is))
    by_order Greater is = refl

pub other-value : (other k : List ℕ) (v : Data) (ms : Members) → other ≢ k → found other (members_outline (put k v ms)) ≡ found other (members_outline ms)
other-value other k v no_members differ = skipped other k (outline v) json.null differ
other-value other k v (member l d ms) differ = by_order (slice_cmp nat_cmp k l) refl (other-value other k v ms differ)
  where
    by_order : (o : Ordering) → slice_cmp nat_cmp k l ≡ o → found other (members_outline (put k v ms)) ≡ found other (members_outline ms)
        → found other (members_outline (match_ordering o (member k v (member l d ms)) (member l v ms) (member l d (put k v ms))))
        ≡ found other (members_outline (member l d ms))
    by_order Less is further = skipped other k (outline v) (found other (members_outline (member l d ms))) differ
    by_order Equal is further =
        let apart : other ≢ l = λ same. differ (same ∙ sym (exact_bytes k l is)) in
        skipped other l (outline v) (found other (members_outline ms)) apart ∙ sym (skipped other l (outline d) (found other (members_outline ms)) apart)
    by_order Greater is further = ap (λ o. cond (is_eq (slice_cmp nat_cmp other l)) (outline d) o) further
