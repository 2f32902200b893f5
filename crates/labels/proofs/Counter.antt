-- A counter chooses the least label that beats what is listed, which is just above it, and shows the laws.
use Rattle.std.proofs.Common.{◌≡◌, ℕ, suc, ◌+◌, ◌^◌, ◌<◌, ◌≤◌, max, Bool, true, false, cond, ◌&&◌, ltb, List, [], ◌∷◌, length, get_or, IfSome, Some, None, Option, sym, refl, ap, ◌∙◌, subst, inl, inr, arith, MatchOption}
use Rattle.std.specs.List.{AllByRecursion}
use Rattle.std.proofs.lemmas.Bool.{cases_lt, cond-true, cond_both, and_parts, and_from, ltb-true, ltb-false, lt-ltb}
use Rattle.std.proofs.ByRecursion.{All-weaker, All-get_or}
use Rattle.labels.specs.System.{Laws}
use Rattle.labels.specs.Least.{BeatsAll, LeastChosen, NothingChosen, no_winner, ChoosesLeast, JustAbove, IsLargest}
use Rattle.labels.specs.Plain.{bounded, takes_one_more, largest, past, counter_choice, counter}
use Rattle.labels.proofs.Walks.{room_and_labels}
use Rattle.labels.proofs.Exact.{exactly, nothing_without_room}
use Rattle.labels.proofs.Chains.{given_from_least, lawful_plain}

pub largest_above : (l : List ℕ) → AllByRecursion (λ y. y ≤ largest l) l
largest_above [] = tt
largest_above (x ∷ xs) = (omega arith, All-weaker (λ y. y ≤ largest xs) (λ y. y ≤ max x (largest xs)) (λ y h. omega arith) xs (largest_above xs))

-- a number above every entry is above the largest, unless nothing is listed
over_largest : (z x : ℕ) (xs : List ℕ) → AllByRecursion (λ y. y < z) (x ∷ xs) → largest (x ∷ xs) < z
over_largest z x [] h = omega (arith, h.0)
over_largest z x (y ∷ ys) h = omega (arith, h.0, over_largest z y ys h.1)

module _ (order ceiling : ℕ) where
  abbrev pub over : ℕ → ℕ → Bool
  over = bounded ceiling (λ a b. ltb b a)

  pub over_from : (a b : ℕ) → a < ceiling → b < a → over a b ≡ true
  over_from a b ha lt = and_from (ltb a ceiling && ltb b ceiling) (ltb b a) (and_from (ltb a ceiling) (ltb b ceiling) (lt-ltb a ceiling ha) (lt-ltb b ceiling (omega arith))) (lt-ltb b a lt)

  above_from : (z : ℕ) (l : List ℕ) → BeatsAll (counter order ceiling) l z → AllByRecursion (λ y. y < z) l
  above_from z l h = All-weaker (λ y. over z y ≡ true) (λ y. y < z) (λ y e. ltb-true y z (and_parts (ltb z ceiling && ltb y ceiling) (ltb y z) e).1) l h

  pub counter_least : 1 ≤ ceiling → (l : List ℕ) → ChoosesLeast (counter order ceiling) l (counter_choice order ceiling l)
  counter_least pos l =
      exactly (counter order ceiling) l (counter_choice order ceiling l)
      (cond_both (takes_one_more order ceiling l) (past ceiling l) None (λ r. MatchOption r (NothingChosen (counter order ceiling) l) (LeastChosen (counter order ceiling) l)) (λ t. beyond l (room_and_labels order ceiling l t)) (nothing_without_room (counter order ceiling) l))
    where
      beyond : (l : List ℕ) → (length l < order) × AllByRecursion (λ y. y < ceiling) l → MatchOption (past ceiling l) (NothingChosen (counter order ceiling) l) (LeastChosen (counter order ceiling) l)
      beyond [] free = record { room = free.0; labels = tt; label = omega arith; beats_all = tt; least = λ z lt _. omega arith }
      beyond (x ∷ xs) free =
          let top : ℕ = largest (x ∷ xs) + 1 in
          cond_both (ltb top ceiling) (Some top) None (λ r. MatchOption r (NothingChosen (counter order ceiling) (x ∷ xs)) (LeastChosen (counter order ceiling) (x ∷ xs)))
          (λ t. record {
            room = free.0;
            labels = free.1;
            label = ltb-true top ceiling t;
            beats_all = All-weaker (λ y. y ≤ largest (x ∷ xs)) (λ y. over top y ≡ true) (λ y h. over_from top y (ltb-true top ceiling t) (omega arith)) (x ∷ xs) (largest_above (x ∷ xs));
            least = λ z lt h. omega (arith, over_largest z x xs (above_from z (x ∷ xs) h));
          })
          (λ f. no_winner (λ z lt h. omega (arith, ltb-false top ceiling f, over_largest z x xs (above_from z (x ∷ xs) h))))

  pub just_above : (l : List ℕ) (x : ℕ) → LeastChosen (counter order ceiling) l x → JustAbove l x
  just_above l x h = record {
    above = above_from x l h.beats_all;
    least = λ z above.
        elim (cases_lt z x) [
          | inl lt ↦ absurd (h.least z lt (All-weaker (λ y. y < z) (λ y. over z y ≡ true) (λ y b. over_from z y (omega (arith, h.label)) b) l above))
          | inr ge ↦ ge
        ];
  }

  pub counter_chosen : 1 ≤ ceiling → (l : List ℕ) (r : Option ℕ) → r ≡ counter_choice order ceiling l → (r ≡ counter_choice order ceiling l) × (ChoosesLeast (counter order ceiling) l r × IfSome r (JustAbove l))
  counter_chosen pos l r e = let least = subst (ChoosesLeast (counter order ceiling) l) (sym e) (counter_least pos l) in (e, (least, above r least))
    where
      above : (r : Option ℕ) → ChoosesLeast (counter order ceiling) l r → IfSome r (JustAbove l)
      above None h = tt
      above (Some x) h = just_above l x ((h.label_exactly x).0 refl)

  pub counter_laws : order ≤ 20 → 1 ≤ ceiling → ceiling ≤ 2 ^ 28 → Laws (counter order ceiling)
  counter_laws few pos small = lawful_plain order ceiling (λ a b. ltb b a) (counter_choice order ceiling) false (record {
    in_range = record { order_at_most = few; count_at_most = small };
    one_way = λ a b ha hb e f. omega (arith, ltb-true b a e, ltb-true a b f);
    chosen = λ l x e. given_from_least (counter order ceiling) l x (((counter_least pos l).label_exactly x).0 e);
    some = λ e. let z : ◌≡◌ {A = ℕ} 0 1 = cc in absurd (omega arith);
  })

-- the largest entry as the code finds it is the largest of the definition
above_every : (m : ℕ) (l : List ℕ) → ((k : ℕ) → k < length l → get_or l k 0 ≤ m) → largest l ≤ m
above_every m [] h = omega arith
above_every m (x ∷ xs) h = omega (arith, h 0 (omega arith), above_every m xs (λ k lt. h (suc k) (omega arith)))

pub largest_is : (l : List ℕ) (m : ℕ) → IsLargest l m → largest l ≡ m
largest_is l m h =
    let k = h.listed in
    omega (arith, above_every m l h.at_least, All-get_or (λ y. y ≤ largest l) l k.0 0 k.1 (largest_above l), k.2)

-- the choice where the list takes one more, as the code comes to it
module _ (order ceiling : ℕ) (l : List ℕ) (free : takes_one_more order ceiling l ≡ true) where
  listed : counter_choice order ceiling l ≡ past ceiling l
  listed = cond-true (takes_one_more order ceiling l) (past ceiling l) None free

  pub largest_below : (m : ℕ) → IsLargest l m → m < ceiling
  largest_below m h = let k = h.listed in subst (λ y. y < ceiling) k.2 (All-get_or (λ y. y < ceiling) l k.0 0 k.1 (room_and_labels order ceiling l free).1)

  pub past_largest : (m : ℕ) → IsLargest l m → counter_choice order ceiling l ≡ cond (ltb (m + 1) ceiling) (Some (m + 1)) None
  past_largest m h = listed ∙ at l h (largest_is l m h)
    where
      at : (l : List ℕ) → IsLargest l m → largest l ≡ m → past ceiling l ≡ cond (ltb (m + 1) ceiling) (Some (m + 1)) None
      at [] h e = absurd (omega (arith, h.listed.1))
      at (x ∷ xs) h e = ap (λ n. cond (ltb (n + 1) ceiling) (Some (n + 1)) None) e
