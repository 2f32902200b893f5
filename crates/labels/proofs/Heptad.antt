-- The heptad chooses the least label that beats what is listed, and shows the laws.
use Rattle.std.proofs.Common.{◌≡◌, ℕ, zero, suc, ◌+◌, ◌-◌, ◌%◌, ◌<◌, ◌≤◌, Bool, true, false, cond, not, ◌&&◌, ◌||◌, eqb, ltb, ◌⊎◌, ◌↔◌, List, [], ◌∷◌, length, is_some, Some, None, Option, sym, refl, ap, ◌∙◌, subst, inl, inr, arith, lit≤, MatchOption}
use Rattle.std.specs.List.{AllByRecursion}
use Rattle.std.proofs.lemmas.Bool.{cases_eq, cond-true, cond-false, cond_both, both_ways, and_parts, and_from, not-true, ltb-true, lt-ltb, agree_below, agree_below_at, eqb-true, eq-eqb, or_cases, or_left, or_right}
use Rattle.std.proofs.lemmas.List.{take_all}
use Rattle.std.proofs.lemmas.List.Folds.{list_all_more, list_all_at}
use Rattle.labels.specs.System.{Laws}
use Rattle.labels.specs.Least.{LeastChosen, NothingChosen, no_winner, ChoosesLeast, AheadBySquare}
use Rattle.labels.specs.Plain.{ahead, paley, bounded, takes_one_more, beats_all, least_from, heptad_choice, heptad}
use Rattle.labels.proofs.Walks.{all_from_tests, tests_from_all, room_and_labels, takes_from}
use Rattle.labels.proofs.Exact.{exactly, nothing_without_room}
use Rattle.labels.proofs.Chains.{given_from_least, lawful_plain}

abbrev pub beats7 : ℕ → ℕ → Bool
beats7 = bounded 7 paley

-- beats by residues
paley_from : (a b : ℕ) → (ahead a b ≡ 1) ⊎ ((ahead a b ≡ 2) ⊎ (ahead a b ≡ 4)) → paley a b ≡ true
paley_from a b (inl e) = or_left (eqb (ahead a b) 1 || eqb (ahead a b) 2) (eqb (ahead a b) 4) (or_left (eqb (ahead a b) 1) (eqb (ahead a b) 2) (eq-eqb (ahead a b) 1 e))
paley_from a b (inr (inl e)) = or_left (eqb (ahead a b) 1 || eqb (ahead a b) 2) (eqb (ahead a b) 4) (or_right (eqb (ahead a b) 1) (eqb (ahead a b) 2) (eq-eqb (ahead a b) 2 e))
paley_from a b (inr (inr e)) = or_right (eqb (ahead a b) 1 || eqb (ahead a b) 2) (eqb (ahead a b) 4) (eq-eqb (ahead a b) 4 e)

square_from : (a b : ℕ) → paley a b ≡ true → (ahead a b ≡ 1) ⊎ ((ahead a b ≡ 2) ⊎ (ahead a b ≡ 4))
square_from a b e =
    elim (or_cases (eqb (ahead a b) 1 || eqb (ahead a b) 2) (eqb (ahead a b) 4) e) [
      | inl s ↦ elim (or_cases (eqb (ahead a b) 1) (eqb (ahead a b) 2) s) [ inl one ↦ inl (eqb-true (ahead a b) 1 one) | inr two ↦ inr (inl (eqb-true (ahead a b) 2 two)) ]
      | inr four ↦ inr (inr (eqb-true (ahead a b) 4 four))
    ]

ahead_is : (a b step : ℕ) → a < 7 → b < 7 → step < 7 → (b + step) % 7 ≡ a % 7 → ahead a b ≡ step
ahead_is a b step ha hb hs e = omega arith

pub beats_by_square : (a b : ℕ) → (beats7 a b ≡ true) ↔ AheadBySquare a b
beats_by_square a b = (to, from)
  where
    to : beats7 a b ≡ true → AheadBySquare a b
    to e =
        let p = and_parts (ltb a 7 && ltb b 7) (paley a b) e in
        let q = and_parts (ltb a 7) (ltb b 7) p.0 in
        let ha : a < 7 = ltb-true a 7 q.0 in
        let hb : b < 7 = ltb-true b 7 q.1 in
        record { first_label = ha; second_label = hb; step = ahead a b; square = square_from a b p.1; meets = omega arith }

    from : AheadBySquare a b → beats7 a b ≡ true
    from h =
        and_from (ltb a 7 && ltb b 7) (paley a b) (and_from (ltb a 7) (ltb b 7) (lt-ltb a 7 h.first_label) (lt-ltb b 7 h.second_label))
        (paley_from a b (elim h.square [
          | inl one ↦ inl (ahead_is a b 1 h.first_label h.second_label (omega arith) (omega (arith, h.meets, one)))
          | inr more ↦
              elim more [
                | inl two ↦ inr (inl (ahead_is a b 2 h.first_label h.second_label (omega arith) (omega (arith, h.meets, two))))
                | inr four ↦ inr (inr (ahead_is a b 4 h.first_label h.second_label (omega arith) (omega (arith, h.meets, four))))
              ]
        ]))

-- the search from y on finds the first of n numbers that passes, or none of them passes
least_from_right : (beats : ℕ → ℕ → Bool) (l : List ℕ) (n y : ℕ) → MatchOption (least_from beats l n y) ((z : ℕ) → y ≤ z → z < y + n → beats_all beats z l ≡ true → ⊥) (λ x. (x < y + n) × (beats_all beats x l ≡ true) × ((z : ℕ) → y ≤ z → z < x → beats_all beats z l ≡ true → ⊥))
least_from_right beats l zero y = λ z le lt e. omega arith
least_from_right beats l (suc n) y =
    cond_both (beats_all beats y l) (Some y) (least_from beats l n (y + 1)) Right (λ t. (omega arith, t, λ z le lt e. omega arith)) (λ f. later (least_from beats l n (y + 1)) f (least_from_right beats l n (y + 1)))
  where
    Right : Option ℕ → Type 0
    Right r = MatchOption r ((z : ℕ) → y ≤ z → z < y + suc n → beats_all beats z l ≡ true → ⊥) (λ x. (x < y + suc n) × (beats_all beats x l ≡ true) × ((z : ℕ) → y ≤ z → z < x → beats_all beats z l ≡ true → ⊥))

    later : (r : Option ℕ) → beats_all beats y l ≡ false → MatchOption r ((z : ℕ) → y + 1 ≤ z → z < y + 1 + n → beats_all beats z l ≡ true → ⊥) (λ x. (x < y + 1 + n) × (beats_all beats x l ≡ true) × ((z : ℕ) → y + 1 ≤ z → z < x → beats_all beats z l ≡ true → ⊥)) → Right r
    later None f h = λ z le lt e. elim (cases_eq z y) [ inl s ↦ both_ways (beats_all beats y l) f (sym (ap (λ w. beats_all beats w l) s) ∙ e) | inr d ↦ h z (omega arith) (omega arith) e ]
    later (Some x) f h = (
      omega (arith, h.0),
      h.1,
      λ z le lt e. elim (cases_eq z y) [ inl s ↦ both_ways (beats_all beats y l) f (sym (ap (λ w. beats_all beats w l) s) ∙ e) | inr d ↦ h.2 z (omega arith) lt e ],
    )

pub heptad_least : (l : List ℕ) → ChoosesLeast heptad l (heptad_choice l)
heptad_least l =
    exactly heptad l (heptad_choice l)
    (cond_both (takes_one_more 3 7 l) (least_from beats7 l 7 0) None (λ r. MatchOption r (NothingChosen heptad l) (LeastChosen heptad l)) (λ t. found (least_from beats7 l 7 0) (room_and_labels 3 7 l t) (least_from_right beats7 l 7 0)) (nothing_without_room heptad l))
  where
    found : (r : Option ℕ) → (length l < 3) × AllByRecursion (λ y. y < 7) l → MatchOption r ((z : ℕ) → 0 ≤ z → z < 0 + 7 → beats_all beats7 z l ≡ true → ⊥) (λ x. (x < 0 + 7) × (beats_all beats7 x l ≡ true) × ((z : ℕ) → 0 ≤ z → z < x → beats_all beats7 z l ≡ true → ⊥)) → MatchOption r (NothingChosen heptad l) (LeastChosen heptad l)
    found None free h = no_winner (λ z lt b. h z (omega arith) (omega arith) (tests_from_all (beats7 z) l b))
    found (Some x) free h = record {
      room = free.0;
      labels = free.1;
      label = omega (arith, h.0);
      beats_all = all_from_tests (beats7 x) l h.1;
      least = λ z lt b. h.2 z (omega arith) lt (tests_from_all (beats7 z) l b);
    }

-- a test of all pairs of labels, computed
abbrev all_pairs : (ℕ → ℕ → Bool) → Bool
all_pairs test = agree_below (λ u. agree_below (test u) (λ _. true) 7) (λ _. true) 7

pairs_true : (test : ℕ → ℕ → Bool) → all_pairs test ≡ true → (a b : ℕ) → a < 7 → b < 7 → test a b ≡ true
pairs_true test e a b ha hb =
    agree_below_at (test a) (λ _. true) 7 b (agree_below_at (λ u. agree_below (test u) (λ _. true) 7) (λ _. true) 7 a e ha) hb

pub heptad_laws : Laws heptad
heptad_laws = lawful_plain 3 7 paley heptad_choice true (record {
  in_range = record { order_at_most = lit≤ tt; count_at_most = lit≤ tt };
  one_way = λ a b ha hb e f. both_ways (paley a b && paley b a) (not-true (paley a b && paley b a) (pairs_true (λ u v. not (paley u v && paley v u)) refl a b ha hb)) (and_from (paley a b) (paley b a) e f);
  chosen = λ l x e. given_from_least heptad l x (((heptad_least l).label_exactly x).0 e);
  some = some;
})
  where
    open_choice : (l : List ℕ) → length l < 3 → AllByRecursion (λ y. y < 7) l → is_some (least_from beats7 l 7 0) ≡ true
    open_choice [] lt h = refl
    open_choice (a ∷ []) lt h = agree_below_at (λ u. is_some (least_from beats7 (u ∷ []) 7 0)) (λ _. true) 7 a refl h.0
    open_choice (a ∷ b ∷ []) lt h = pairs_true (λ u v. is_some (least_from beats7 (u ∷ v ∷ []) 7 0)) refl a b h.0 h.1.0
    open_choice (a ∷ b ∷ c ∷ l) lt h = absurd (omega arith)

    some : true ≡ true → (l : List ℕ) → length l < 3 → AllByRecursion (λ y. y < 7) l → heptad_choice l ≡ None → ⊥
    some _ l lt h n =
        let none : least_from beats7 l 7 0 ≡ None = sym (cond-true (takes_one_more 3 7 l) (least_from beats7 l 7 0) None (takes_from 3 7 l lt h)) ∙ n in
        both_ways (is_some (least_from beats7 l 7 0)) (ap is_some none) (open_choice l lt h)

-- the choice where the list takes one more
pub listed : (l : List ℕ) → takes_one_more 3 7 l ≡ true → heptad_choice l ≡ least_from beats7 l 7 0
listed l t = cond-true (takes_one_more 3 7 l) (least_from beats7 l 7 0) None t

-- one candidate more: it is passed over, or it is the least
module _ (beats : ℕ → ℕ → Bool) (l : List ℕ) (x n : ℕ) (within : x < n) where
  one_more : least_from beats l (n - x) x ≡ cond (beats_all beats x l) (Some x) (least_from beats l (n - (x + 1)) (x + 1))
  one_more = let e : n - x ≡ suc (n - (x + 1)) = omega arith in ap (λ k. least_from beats l k x) e

  pub passed_over : beats_all beats x l ≡ false → least_from beats l (n - (x + 1)) (x + 1) ≡ least_from beats l (n - x) x
  passed_over f = sym (one_more ∙ cond-false (beats_all beats x l) (Some x) (least_from beats l (n - (x + 1)) (x + 1)) f)

  pub is_least : beats_all beats x l ≡ true → least_from beats l (n - x) x ≡ Some x
  is_least t = one_more ∙ cond-true (beats_all beats x l) (Some x) (least_from beats l (n - (x + 1)) (x + 1)) t

pub none_least : (beats : ℕ → ℕ → Bool) (l : List ℕ) (x n : ℕ) → n ≤ x → least_from beats l (n - x) x ≡ None
none_least beats l x n h = let e : n - x ≡ 0 = omega arith in ap (λ k. least_from beats l k x) e

-- what holds by the definition holds of an answer that equals it
pub heptad_chooses : (l : List ℕ) (r : Option ℕ) → r ≡ heptad_choice l → ChoosesLeast heptad l r
heptad_chooses l r e = subst (ChoosesLeast heptad l) (sym e) (heptad_least l)

pub heptad_beats : (a b : ℕ) (r : Bool) → r ≡ beats7 a b → (r ≡ true) ↔ AheadBySquare a b
heptad_beats a b r e = subst (λ (s : Bool). (s ≡ true) ↔ AheadBySquare a b) (sym e) (beats_by_square a b)

-- a turn of the search: one label more of the list, one candidate more, and the search at its end
pub ruleset least_search = (list_all_more, list_all_at, take_all, listed, passed_over, is_least, none_least)
