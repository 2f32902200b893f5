-- The labels of a buffer, gathered entry by entry, of which twenty are kept.
use Rattle.std.proofs.Common.{◌≡◌, ℕ, zero, suc, ◌+◌, ◌<◌, List, [], ◌∷◌, ◌++◌, map, length, get_or, take, Some, None, Option, sym, refl, ap, ◌∙◌}
use Rattle.std.proofs.lemmas.List.{map_more}
use Rattle.search.specs.Search.{labels_in}

labels_in_some : (ls : List (Option ℕ)) (a : ℕ) → labels_in (ls ++ Some a ∷ []) ≡ labels_in ls ++ a ∷ []
labels_in_some [] a = refl
labels_in_some (None ∷ ls) a = labels_in_some ls a
labels_in_some (Some b ∷ ls) a = ap (λ l. b ∷ l) (labels_in_some ls a)

labels_in_none : (ls : List (Option ℕ)) → labels_in (ls ++ None ∷ []) ≡ labels_in ls
labels_in_none [] = refl
labels_in_none (None ∷ ls) = labels_in_none ls
labels_in_none (Some b ∷ ls) = ap (λ l. b ∷ l) (labels_in_none ls)

-- what is cut off before one more comes is cut off afterwards too
cut_then_push : (n : ℕ) (l : List ℕ) (a : ℕ) → take n (take n l ++ a ∷ []) ≡ take n (l ++ a ∷ [])
cut_then_push zero l a = refl
cut_then_push (suc n) [] a = refl
cut_then_push (suc n) (x ∷ l) a = ap (λ r. x ∷ r) (cut_then_push n l a)

-- a turn of the walk, at an entry x that told o
module _ {X : Type 0} (f : X → Option ℕ) (xs : List X) (i : ℕ) (x : X) (within : i < length xs) (is : x ≡ get_or xs i x) (o : Option ℕ) (told : o ≡ f x) (old new : List ℕ) (so_far : old ≡ take 20 (labels_in (map f (take i xs)))) where
  one_more : labels_in (map f (take (i + 1) xs)) ≡ labels_in (map f (take i xs) ++ o ∷ [])
  one_more = ap labels_in (map_more f xs i x within ∙ ap (λ z. map f (take i xs) ++ f z ∷ []) (sym is) ∙ ap (λ z. map f (take i xs) ++ z ∷ []) (sym told))

  pub gathered : (a : ℕ) → o ≡ Some a → new ≡ take 20 (old ++ a ∷ []) → new ≡ take 20 (labels_in (map f (take (i + 1) xs)))
  gathered a e n =
      n ∙ ap (λ l. take 20 (l ++ a ∷ [])) so_far ∙ cut_then_push 20 (labels_in (map f (take i xs))) a
      ∙ sym (ap (take 20) (one_more ∙ ap (λ o. labels_in (map f (take i xs) ++ o ∷ [])) e ∙ labels_in_some (map f (take i xs)) a))

  pub passed : o ≡ None → new ≡ old → new ≡ take 20 (labels_in (map f (take (i + 1) xs)))
  passed e n = n ∙ so_far ∙ sym (ap (take 20) (one_more ∙ ap (λ o. labels_in (map f (take i xs) ++ o ∷ [])) e ∙ labels_in_none (map f (take i xs))))
