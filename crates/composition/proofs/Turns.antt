-- One turn of the walks that collect parts of labels.
use Rattle.std.proofs.Common.{◌≡◌, ℕ, ◌+◌, ◌/◌, ◌%◌, ◌<◌, ◌≤◌, true, false, not, eqb, List, [], ◌∷◌, ◌++◌, map, length, get_or, take, filter, sym, refl, ap, ◌∙◌, subst, inl, inr, arith}
use Rattle.std.specs.List.{list_any}
use Rattle.std.proofs.lemmas.List.{length-map, length-take-le, take_all}
use Rattle.std.proofs.lemmas.Bool.{false≢true, or_cases, or_parts, eqb-true, eqb-false}
use Rattle.labels.specs.Plain.{Distinct}
use Rattle.labels.proofs.Tally.{tally, one_is, one_other}
use Rattle.labels.proofs.Shorts.{pushed_whole}
use Rattle.labels.proofs.Chains.{distinct_from_once}
use Rattle.over.specs.Over.{firsts, outer_parts, under}
use Rattle.over.proofs.Parts.{outer_once, kept_short}
use Rattle.over.proofs.Walks.{outer_more, outer_same, under_more, under_same}

-- what was collected is never longer than what was walked
firsts_short : (l : List ℕ) → length (firsts l) ≤ length l
firsts_short [] = omega arith
firsts_short (x ∷ xs) = omega (arith, firsts_short xs, kept_short (λ y. not (eqb y x)) (firsts xs))

-- a number that a list has, or has not, by the test for it
has_not : (l : List ℕ) (x : ℕ) → list_any (λ y. eqb y x) l ≡ false → tally x l ≡ 0
has_not [] x e = refl
has_not (y ∷ ys) x e =
    let p = or_parts (eqb y x) (list_any (λ y. eqb y x) ys) e in
    omega (arith, one_other y x (eqb-false y x p.0), has_not ys x p.1)

has : (l : List ℕ) (x : ℕ) → list_any (λ y. eqb y x) l ≡ true → 0 < tally x l
has [] x e = absurd (false≢true e)
has (y ∷ ys) x e =
    elim (or_cases (eqb y x) (list_any (λ y. eqb y x) ys) e) [
      | inl t ↦ omega (arith, one_is y x (eqb-true y x t))
      | inr t ↦ omega (arith, has ys x t)
    ]

module _ (n : ℕ) (xs : List ℕ) (i : ℕ) (within : i < length xs) (few : length xs ≤ 20) (old new : List ℕ) where
  taken : length (take i xs) ≡ i
  taken = length-take-le i xs (omega arith)

  pub new_part : old ≡ outer_parts n (take i xs) → list_any (λ y. eqb y (get_or xs i 0 / n)) old ≡ false → new ≡ take 20 (old ++ get_or xs i 0 / n ∷ []) → new ≡ outer_parts n (take (i + 1) xs)
  new_part so_far none grown =
      let short : length old < 20 = omega (arith, ap length so_far, firsts_short (map (λ x. x / n) (take i xs)), length-map (take i xs) (λ x. x / n), taken) in
      let more = outer_more n xs i within (subst (λ l. tally (get_or xs i 0 / n) l ≡ 0) so_far (has_not old (get_or xs i 0 / n) none)) in
      grown ∙ pushed_whole old (get_or xs i 0 / n) short ∙ ap (λ l. l ++ get_or xs i 0 / n ∷ []) so_far ∙ sym more

  pub old_part : old ≡ outer_parts n (take i xs) → list_any (λ y. eqb y (get_or xs i 0 / n)) old ≡ true → new ≡ old → new ≡ outer_parts n (take (i + 1) xs)
  old_part so_far here same = same ∙ so_far ∙ sym (outer_same n xs i within (subst (λ l. 0 < tally (get_or xs i 0 / n) l) so_far (has old (get_or xs i 0 / n) here)))

  pub one_under : (m : ℕ) → old ≡ under n m (take i xs) → get_or xs i 0 / n ≡ m → new ≡ take 20 (old ++ get_or xs i 0 % n ∷ []) → new ≡ under n m (take (i + 1) xs)
  one_under m so_far here grown =
      let kept = filter (λ x. eqb (x / n) m) (take i xs) in
      let short : length old < 20 = omega (arith, ap length so_far, length-map kept (λ x. x % n), kept_short (λ x. eqb (x / n) m) (take i xs), taken) in
      grown ∙ pushed_whole old (get_or xs i 0 % n) short ∙ ap (λ l. l ++ get_or xs i 0 % n ∷ []) so_far ∙ sym (under_more n xs i within m here)

  pub none_under : (m : ℕ) → old ≡ under n m (take i xs) → (get_or xs i 0 / n ≡ m → ⊥) → new ≡ old → new ≡ under n m (take (i + 1) xs)
  none_under m so_far other same = same ∙ so_far ∙ sym (under_same n xs i within m other)

pub parts_distinct : (n : ℕ) (xs l : List ℕ) → l ≡ outer_parts n xs → Distinct l
parts_distinct n xs l e = subst Distinct (sym e) (distinct_from_once (outer_parts n xs) (λ y. outer_once n y xs))

-- the turns of the two walks, and their ends
pub ruleset outer_turns = (new_part, old_part, take_all, parts_distinct)

pub ruleset inner_turns = (one_under, none_under, take_all)
