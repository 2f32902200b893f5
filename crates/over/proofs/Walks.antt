-- What one label more does to the distinct outer parts and to the inner parts under one of them.
use Rattle.std.proofs.Common.{◌≡◌, ℕ, ◌+◌, ◌/◌, ◌%◌, ◌<◌, not, eqb, List, [], ◌∷◌, ◌++◌, map, length, get_or, take, filter, sym, refl, ap, ◌∙◌, inl, inr, arith}
use Rattle.std.proofs.lemmas.List.{append-nil, map-append, map_push, take_more}
use Rattle.std.proofs.lemmas.List.Elements.{filter-append}
use Rattle.std.proofs.lemmas.Bool.{eq-eqb, ne_eqb, cond-true, cond-false, cases_lt}
use Rattle.labels.proofs.Tally.{tally, one_is, one_pos}
use Rattle.over.specs.Over.{firsts, outer_parts, under}
use Rattle.over.proofs.Parts.{but, firsts_has, firsts_from}

under_push : (n m x : ℕ) (l : List ℕ) → x / n ≡ m → under n m (l ++ x ∷ []) ≡ under n m l ++ (x % n) ∷ []
under_push n m x l e =
    ap (map (λ y. y % n)) (filter-append (λ y. eqb (y / n) m) l (x ∷ []) ∙ ap (λ z. filter (λ y. eqb (y / n) m) l ++ z) (cond-true (eqb (x / n) m) (x ∷ []) [] (eq-eqb (x / n) m e))) ∙ map-append (λ y. y % n) (filter (λ y. eqb (y / n) m) l) (x ∷ [])

under_pass : (n m x : ℕ) (l : List ℕ) → (x / n ≡ m → ⊥) → under n m (l ++ x ∷ []) ≡ under n m l
under_pass n m x l d =
    ap (map (λ y. y % n)) (filter-append (λ y. eqb (y / n) m) l (x ∷ []) ∙ ap (λ z. filter (λ y. eqb (y / n) m) l ++ z) (cond-false (eqb (x / n) m) (x ∷ []) [] (ne_eqb (x / n) m d)) ∙ append-nil (filter (λ y. eqb (y / n) m) l))

firsts_new : (y : ℕ) (l : List ℕ) → tally y l ≡ 0 → firsts (l ++ y ∷ []) ≡ firsts l ++ y ∷ []
firsts_new y [] h = refl
firsts_new y (x ∷ xs) h =
    let d : x ≡ y → ⊥ = λ e. omega (arith, one_is x y e) in
    let r = firsts_new y xs (omega arith) in
    ap (λ z. x ∷ but x z) r ∙ ap (λ z. x ∷ z) (filter-append (λ z. not (eqb z x)) (firsts xs) (y ∷ []) ∙ ap (λ z. but x (firsts xs) ++ z) (cond-true (not (eqb y x)) (y ∷ []) [] (ap not (ne_eqb y x (λ e. d (sym e))))))

firsts_old : (y : ℕ) (l : List ℕ) → 0 < tally y l → firsts (l ++ y ∷ []) ≡ firsts l
firsts_old y [] h = absurd (omega arith)
firsts_old y (x ∷ xs) h =
    elim (cases_lt 0 (tally y xs)) [
      | inl p ↦ ap (λ z. x ∷ but x z) (firsts_old y xs p)
      | inr q ↦
          let e : x ≡ y = one_pos x y (omega arith) in
          let r = firsts_new y xs (omega arith) in
          ap (λ z. x ∷ but x z) r ∙ ap (λ z. x ∷ z) (filter-append (λ z. not (eqb z x)) (firsts xs) (y ∷ []) ∙ ap (λ z. but x (firsts xs) ++ z) (cond-false (not (eqb y x)) (y ∷ []) [] (ap not (eq-eqb y x (sym e)))) ∙ append-nil (but x (firsts xs)))
    ]

-- one turn of a walk over xs
module _ (n : ℕ) (xs : List ℕ) (i : ℕ) (within : i < length xs) where
  pub under_more : (m : ℕ) → get_or xs i 0 / n ≡ m → under n m (take (i + 1) xs) ≡ under n m (take i xs) ++ (get_or xs i 0 % n) ∷ []
  under_more m e = ap (under n m) (take_more xs i 0 within) ∙ under_push n m (get_or xs i 0) (take i xs) e

  pub under_same : (m : ℕ) → (get_or xs i 0 / n ≡ m → ⊥) → under n m (take (i + 1) xs) ≡ under n m (take i xs)
  under_same m d = ap (under n m) (take_more xs i 0 within) ∙ under_pass n m (get_or xs i 0) (take i xs) d

  abbrev part : ℕ
  part = get_or xs i 0 / n

  outer_one_more : outer_parts n (take (i + 1) xs) ≡ firsts (map (λ x. x / n) (take i xs) ++ part ∷ [])
  outer_one_more = ap (outer_parts n) (take_more xs i 0 within) ∙ ap firsts (map_push (λ y. y / n) (take i xs) (get_or xs i 0))

  pub outer_more : tally part (outer_parts n (take i xs)) ≡ 0 → outer_parts n (take (i + 1) xs) ≡ outer_parts n (take i xs) ++ part ∷ []
  outer_more none = outer_one_more ∙ firsts_new part (map (λ x. x / n) (take i xs)) new
    where
      new : tally part (map (λ x. x / n) (take i xs)) ≡ 0
      new = elim (cases_lt 0 (tally part (map (λ x. x / n) (take i xs)))) [ inl p ↦ absurd (omega (arith, firsts_has part (map (λ x. x / n) (take i xs)) p)) | inr z ↦ omega arith ]

  pub outer_same : 0 < tally part (outer_parts n (take i xs)) → outer_parts n (take (i + 1) xs) ≡ outer_parts n (take i xs)
  outer_same here = outer_one_more ∙ firsts_old part (map (λ x. x / n) (take i xs)) (firsts_from part (map (λ x. x / n) (take i xs)) here)
