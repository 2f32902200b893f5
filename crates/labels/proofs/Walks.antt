-- Tests of every entry of a list, as a walk over the list makes them.
use Rattle.std.proofs.Common.{◌≡◌, ℕ, suc, ◌<◌, ◌≤◌, Bool, true, false, ◌&&◌, ltb, List, [], ◌∷◌, length, get_or, sym, ap, ◌∙◌, inl, inr, arith}
use Rattle.std.specs.List.{AllByRecursion, list_all}
use Rattle.std.proofs.lemmas.List.Elements.{All-from_recursion, recursion_from_All}
use Rattle.std.proofs.lemmas.List.Sums.{AllPass-from_list_all, list_all-from_AllPass}
use Rattle.std.proofs.ByRecursion.{All-weaker}
use Rattle.std.proofs.lemmas.Bool.{lt-ltb, ltb-true, ltb-false, and_parts, and_from, cases_Bool}
use Rattle.labels.specs.Plain.{all_below, takes_one_more}

pub all_from_tests : (test : ℕ → Bool) (l : List ℕ) → list_all test l ≡ true → AllByRecursion (λ x. test x ≡ true) l
all_from_tests test l e = recursion_from_All _ l (AllPass-from_list_all test l e)

pub tests_from_all : (test : ℕ → Bool) (l : List ℕ) → AllByRecursion (λ x. test x ≡ true) l → list_all test l ≡ true
tests_from_all test l h = list_all-from_AllPass test l (All-from_recursion _ l h)

pub fails_at : (test : ℕ → Bool) (l : List ℕ) → list_all test l ≡ false → (k : ℕ) × (k < length l) × (test (get_or l k 0) ≡ false)
fails_at test [] e = let z : ◌≡◌ {A = ℕ} 0 1 = cc in absurd (omega arith)
fails_at test (x ∷ xs) e =
    elim (cases_Bool (test x)) [
      | inl t ↦
          let r = fails_at test xs (sym (ap (λ b. b && list_all test xs) t) ∙ e) in
          (suc r.0, omega (arith, r.1), r.2)
      | inr f ↦ (0, omega arith, f)
    ]

pub labels_from_below : (n : ℕ) (l : List ℕ) → all_below n l ≡ true → AllByRecursion (λ x. x < n) l
labels_from_below n l e = All-weaker _ (λ x. x < n) (λ x. ltb-true x n) l (all_from_tests _ l e)

pub below_from_labels : (n : ℕ) (l : List ℕ) → AllByRecursion (λ x. x < n) l → all_below n l ≡ true
below_from_labels n l h = tests_from_all _ l (All-weaker (λ x. x < n) _ (λ x. lt-ltb x n) l h)

pub no_label_at : (n : ℕ) (l : List ℕ) → all_below n l ≡ false → (k : ℕ) × (k < length l) × (n ≤ get_or l k 0)
no_label_at n l e = let r = fails_at _ l e in (r.0, r.1, ltb-false (get_or l r.0 0) n r.2)

-- a list that takes one more
pub room_and_labels : (order count : ℕ) (l : List ℕ) → takes_one_more order count l ≡ true → (length l < order) × AllByRecursion (λ x. x < count) l
room_and_labels order count l t =
    let p = and_parts (ltb (length l) order) (all_below count l) t in
    (ltb-true (length l) order p.0, labels_from_below count l p.1)

pub takes_from : (order count : ℕ) (l : List ℕ) → length l < order → AllByRecursion (λ x. x < count) l → takes_one_more order count l ≡ true
takes_from order count l room labels = and_from (ltb (length l) order) (all_below count l) (lt-ltb (length l) order room) (below_from_labels count l labels)
