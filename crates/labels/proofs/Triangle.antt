-- The triangle chooses the least label that beats what is listed, and shows the laws.
use Rattle.std.proofs.Common.{◌≡◌, ℕ, ◌<◌, Bool, true, ◌&&◌, eqb, ltb, List, [], ◌∷◌, length, Some, None, Option, sym, refl, ◌∙◌, subst, arith, lit<, lit≤, MatchOption}
use Rattle.std.specs.List.{AllByRecursion}
use Rattle.std.proofs.lemmas.Bool.{eqb-true, eq-eqb, cond-true, cond_both, and_parts, and_from, ltb-true, ltb-false, lt-ltb}
use Rattle.labels.specs.System.{Laws}
use Rattle.labels.specs.Least.{LeastChosen, NothingChosen, no_room, no_label, ChoosesLeast}
use Rattle.labels.specs.Plain.{next_in_ring, triangle_choice, triangle, bounded}
use Rattle.std.proofs.lemmas.Option.{none-some}
use Rattle.labels.proofs.Exact.{exactly}
use Rattle.labels.proofs.Chains.{given_from_least, lawful_plain}

abbrev ring : ℕ → ℕ → Bool
ring a b = eqb a (next_in_ring b)

only_next : (a b : ℕ) → bounded 3 ring a b ≡ true → a ≡ next_in_ring b
only_next a b e = eqb-true a (next_in_ring b) (and_parts (ltb a 3 && ltb b 3) (ring a b) e).1

next_beats : (b : ℕ) → b < 3 → bounded 3 ring (next_in_ring b) b ≡ true
next_beats b h =
    let a : ℕ = next_in_ring b in
    and_from (ltb a 3 && ltb b 3) (ring a b) (and_from (ltb a 3) (ltb b 3) (lt-ltb a 3 (omega arith)) (lt-ltb b 3 h)) (eq-eqb a a refl)

pub triangle_least : (l : List ℕ) → ChoosesLeast triangle l (triangle_choice l)
triangle_least l = exactly triangle l (triangle_choice l) (right l)
  where
    right : (l : List ℕ) → MatchOption (triangle_choice l) (NothingChosen triangle l) (LeastChosen triangle l)
    right [] = record { room = lit< tt; labels = tt; label = lit< tt; beats_all = tt; least = λ z lt _. omega arith }
    right (b ∷ []) =
        cond_both (ltb b 3) (Some (next_in_ring b)) None (λ r. MatchOption r (NothingChosen triangle (b ∷ [])) (LeastChosen triangle (b ∷ [])))
        (λ t. record {
          room = lit< tt;
          labels = (ltb-true b 3 t, tt);
          label = omega arith;
          beats_all = (next_beats b (ltb-true b 3 t), tt);
          least = λ z lt h. omega (arith, only_next z b h.0);
        })
        (λ f. no_label 0 (lit< tt) (ltb-false b 3 f))
    right (b ∷ c ∷ l) = no_room (omega arith)

pub triangle_laws : Laws triangle
triangle_laws = lawful_plain 2 3 ring triangle_choice true (record {
  in_range = record { order_at_most = lit≤ tt; count_at_most = lit≤ tt };
  one_way = λ a b ha hb e f. omega (arith, eqb-true a (next_in_ring b) e, eqb-true b (next_in_ring a) f);
  chosen = λ l x e. given_from_least triangle l x (((triangle_least l).label_exactly x).0 e);
  some = some;
})
  where
    some : true ≡ true → (l : List ℕ) → length l < 2 → AllByRecursion (λ y. y < 3) l → triangle_choice l ≡ None → ⊥
    some _ [] lt h n = none-some 0 (sym n)
    some _ (b ∷ []) lt h n = none-some (next_in_ring b) (sym n ∙ cond-true (ltb b 3) (Some (next_in_ring b)) None (lt-ltb b 3 h.0))
    some _ (b ∷ c ∷ l) lt h n = omega arith

pub triangle_chooses : (l : List ℕ) (r : Option ℕ) → r ≡ triangle_choice l → ChoosesLeast triangle l r
triangle_chooses l r e = subst (ChoosesLeast triangle l) (sym e) (triangle_least l)
