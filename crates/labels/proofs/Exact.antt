-- Least choices exclude each other and exclude that nothing is chosen, so one answer that is right is the only one.
use Rattle.std.proofs.Common.{◌≡◌, ℕ, ◌<◌, false, ltb, ◌⊎◌, List, length, Some, None, Option, sym, refl, subst, inl, inr, arith, MatchOption}
use Rattle.std.proofs.lemmas.Bool.{cases_order, and_cases, ltb-false}
use Rattle.std.proofs.lemmas.Option.{none-some}
use Rattle.std.proofs.ByRecursion.{All-get_or}
use Rattle.labels.specs.System.{System}
use Rattle.labels.specs.Plain.{all_below, takes_one_more}
use Rattle.labels.specs.Least.{LeastChosen, NothingChosen, no_room, no_label, no_winner, ChoosesLeast}
use Rattle.labels.proofs.Walks.{no_label_at}

module _ (s : System) (l : List ℕ) where
  pub one_least : (x y : ℕ) → LeastChosen s l x → LeastChosen s l y → x ≡ y
  one_least x y hx hy =
      elim (cases_order x y) [
        | inl e ↦ e
        | inr d ↦ elim d [ inl lt ↦ absurd (hy.least x lt hx.beats_all) | inr lt ↦ absurd (hx.least y lt hy.beats_all) ]
      ]

  pub chosen_or_nothing : (x : ℕ) → LeastChosen s l x → NothingChosen s l → ⊥
  chosen_or_nothing x h (no_room full) = omega (arith, h.room)
  chosen_or_nothing x h (no_label k within stray) = omega (arith, All-get_or (λ y. y < s.count) l k 0 within h.labels)
  chosen_or_nothing x h (no_winner beaten) = beaten x h.label h.beats_all

  pub exactly : (r : Option ℕ) → MatchOption r (NothingChosen s l) (LeastChosen s l) → ChoosesLeast s l r
  exactly None h = record {
    label_exactly = λ x. (λ e. absurd (none-some x e), λ c. absurd (chosen_or_nothing x c h));
    none_exactly = (λ _. h, λ _. refl);
  }
  exactly (Some y) h = record {
    label_exactly = λ x. (λ e. let s : y ≡ x = cc in rw s at h, λ c. let e : y ≡ x = one_least y x h c in cc);
    none_exactly = (λ e. absurd (none-some y (sym e)), λ n. absurd (chosen_or_nothing y h n));
  }

pub nothing_without_room : (s : System) (l : List ℕ) → takes_one_more s.order s.count l ≡ false → NothingChosen s l
nothing_without_room s l f =
    elim (and_cases (ltb (length l) s.order) (all_below s.count l) f) [
      | inl long ↦ no_room (ltb-false (length l) s.order long)
      | inr stray ↦ let k = no_label_at s.count l stray in no_label k.0 k.1 k.2
    ]

pub some_or_none : (o : Option ℕ) → (o ≡ None) ⊎ ((x : ℕ) × (o ≡ Some x))
some_or_none None = inl refl
some_or_none (Some x) = inr (x, refl)

-- what holds of a value by its definition holds of an answer that equals it
pub with_law : {X : Type 0} (P : X → Type 0) (r c : X) → P c → r ≡ c → (r ≡ c) × P r
with_law P r c h e = (e, subst P (sym e) h)
