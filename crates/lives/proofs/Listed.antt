-- The labels that entries tell, where one entry changes.
use Rattle.std.proofs.Common.{◌≡◌, ℕ, zero, suc, ◌+◌, ◌<◌, List, [], ◌∷◌, length, get_or, set, Some, None, Option, sym, refl, arith}
use Rattle.labels.proofs.Tally.{one, tally, one_is, Within}
use Rattle.std.proofs.lemmas.Option.{none-some, same_Some}
use Rattle.search.specs.Search.{labels_in}
use Rattle.station.proofs.Layouts.{length_labels_in}

-- an entry less
pub one_less : (ls : List (Option ℕ)) (i : ℕ) → Within (labels_in (set ls i None)) (labels_in ls)
one_less [] i x = omega arith
one_less (None ∷ ls) zero x = omega arith
one_less (Some a ∷ ls) zero x = omega arith
one_less (None ∷ ls) (suc i) x = one_less ls i x
one_less (Some a ∷ ls) (suc i) x = omega (arith, one_less ls i x)

-- an entry more
pub one_more : (ls : List (Option ℕ)) (i a : ℕ) → i < length ls → get_or ls i None ≡ None → (x : ℕ) → tally x (labels_in (set ls i (Some a))) ≡ tally x (labels_in ls) + one a x
one_more [] i a lt e x = absurd (omega arith)
one_more (None ∷ ls) zero a lt e x = omega arith
one_more (Some b ∷ ls) zero a lt e x = absurd (none-some b (sym e))
one_more (None ∷ ls) (suc i) a lt e x = one_more ls i a (omega arith) e x
one_more (Some b ∷ ls) (suc i) a lt e x = omega (arith, one_more ls i a (omega arith) e x)

-- a label that stands at a place is listed
pub is_listed : (ls : List (Option ℕ)) (i x : ℕ) → get_or ls i None ≡ Some x → 0 < tally x (labels_in ls)
is_listed [] i x e = absurd (none-some x e)
is_listed (None ∷ ls) zero x e = absurd (none-some x e)
is_listed (Some a ∷ ls) zero x e = omega (arith, one_is a x (same_Some a x e))
is_listed (None ∷ ls) (suc i) x e = is_listed ls i x e
is_listed (Some a ∷ ls) (suc i) x e = omega (arith, is_listed ls i x e)

-- a place without a label leaves fewer labels than places
pub fewer_listed : (ls : List (Option ℕ)) (i : ℕ) → i < length ls → get_or ls i None ≡ None → length (labels_in ls) < length ls
fewer_listed [] i lt e = absurd (omega arith)
fewer_listed (None ∷ ls) zero lt e = omega (arith, length_labels_in ls)
fewer_listed (Some a ∷ ls) zero lt e = absurd (none-some a (sym e))
fewer_listed (None ∷ ls) (suc i) lt e = omega (arith, fewer_listed ls i (omega arith) e)
fewer_listed (Some a ∷ ls) (suc i) lt e = omega (arith, fewer_listed ls i (omega arith) e)

pub none_listed : (ls : List (Option ℕ)) → ((i : ℕ) → get_or ls i None ≡ None) → labels_in ls ≡ []
none_listed [] none = refl
none_listed (None ∷ ls) none = none_listed ls (λ i. none (suc i))
none_listed (Some a ∷ ls) none = absurd (none-some a (sym (none 0)))
