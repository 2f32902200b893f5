-- Lists with one item for each seat, by rising seat.
use Rattle.std.proofs.Common.{◌≡◌, ℕ, zero, suc, ◌+◌, ◌-◌, ◌<◌, ◌≤◌, ◌≢◌, List, [], ◌∷◌, map, length, get_or, set, sym, refl, ap, ◌∙◌, inl, inr, arith}
use Rattle.std.proofs.lemmas.List.{ext_get_or, length-map, length-set, get_or-set_same, get_or-set_other}
use Rattle.std.proofs.lemmas.Bool.{cases_eq}
use Rattle.lives.specs.History.{from, rising}

length_from : (a n : ℕ) → length (from a n) ≡ n
length_from a zero = refl
length_from a (suc n) = ap suc (length_from (suc a) n)

module _ {X : Type 0} where
  at_from : (g : ℕ → X) (a n i : ℕ) (d : X) → i < n → get_or (map g (from a n)) i d ≡ g (a + i)
  at_from g a zero i d l = absurd (omega arith)
  at_from g a (suc n) zero d l = ap g (omega arith)
  at_from g a (suc n) (suc i) d l = at_from g (suc a) n i d (omega arith) ∙ ap g (omega arith)

  pub length_by_seat : (g : ℕ → X) (n : ℕ) → length (map g (rising n)) ≡ n
  length_by_seat g n = length-map (rising n) g ∙ length_from 1 n

  pub at_place : (g : ℕ → X) (n i : ℕ) (d : X) → i < n → get_or (map g (rising n)) i d ≡ g (suc i)
  at_place g n i d l = at_from g 1 n i d l ∙ ap g (omega arith)

  pub same_by_seat : (g h : ℕ → X) (n : ℕ) → X → ((seat : ℕ) → 1 ≤ seat → seat ≤ n → g seat ≡ h seat) → map g (rising n) ≡ map h (rising n)
  same_by_seat g h n d e =
      ext_get_or d (map g (rising n)) (map h (rising n)) (length_by_seat g n ∙ sym (length_by_seat h n))
      (λ i l. let less : i < n = omega (arith, length_by_seat g n) in at_place g n i d less ∙ e (suc i) (omega arith) (omega arith) ∙ sym (at_place h n i d less))

  -- one seat's item changed
  pub set_by_seat : (g h : ℕ → X) (n seat : ℕ) (x : X) → 1 ≤ seat → seat ≤ n → h seat ≡ x → ((q : ℕ) → q ≢ seat → h q ≡ g q) → set (map g (rising n)) (seat - 1) x ≡ map h (rising n)
  set_by_seat g h n seat x low high here other =
      ext_get_or x (set (map g (rising n)) (seat - 1) x) (map h (rising n)) (length-set (map g (rising n)) (seat - 1) x ∙ length_by_seat g n ∙ sym (length_by_seat h n)) each
    where
      each : (i : ℕ) → i < length (set (map g (rising n)) (seat - 1) x) → get_or (set (map g (rising n)) (seat - 1) x) i x ≡ get_or (map h (rising n)) i x
      each i less =
          let within : i < n = omega (arith, length-set (map g (rising n)) (seat - 1) x, length_by_seat g n) in
          elim (cases_eq i (seat - 1)) [
            | inl e ↦
                let at : suc i ≡ seat = omega arith in
                ap (λ k. get_or (set (map g (rising n)) (seat - 1) x) k x) e
                ∙ get_or-set_same (map g (rising n)) (seat - 1) x x (omega (arith, length_by_seat g n))
                ∙ sym (at_place h n i x within ∙ ap h at ∙ here)
            | inr ne ↦ get_or-set_other (map g (rising n)) (seat - 1) i x x ne ∙ at_place g n i x within ∙ sym (at_place h n i x within ∙ other (suc i) (omega arith))
          ]

pub map_map : {X Y Z : Type 0} (h : Y → Z) (g : X → Y) (xs : List X) → map h (map g xs) ≡ map (λ x. h (g x)) xs
map_map h g [] = refl
map_map h g (x ∷ xs) = ap (λ r. h (g x) ∷ r) (map_map h g xs)
