-- The entry that leads a list, by how often labels stand in it instead of by places.
use Rattle.std.proofs.Common.{◌≡◌, ℕ, ◌+◌, ◌<◌, ◌≤◌, Bool, true, ◌⊎◌, List, [], ◌∷◌, ◌++◌, get_or, sym, ap, ◌∙◌, subst, inl, inr, arith}
use Rattle.std.proofs.lemmas.Bool.{cases_lt}
use Rattle.labels.specs.System.{LeadsAt}
use Rattle.labels.proofs.Tally.{one, tally, place_of, tally_at, tally_two, other_place, tally_append}

-- a stands once in l, and beats whatever else stands there
pub record Leads (beats : ℕ → ℕ → Bool) (l : List ℕ) (a : ℕ) : Type 0 where
  pub single : tally a l ≡ 1
  pub ahead : (b : ℕ) → 0 < tally b l → (b ≡ a → ⊥) → beats a b ≡ true

pub leads_from_at : (beats : ℕ → ℕ → Bool) (l : List ℕ) (k : ℕ) → ((a : ℕ) → beats a a ≡ true → ⊥) → LeadsAt beats l k → Leads beats l (get_or l k 0)
leads_from_at beats l k loose h = record {
  single = once (cases_lt 1 (tally (get_or l k 0) l));
  ahead = λ b p d.
      let q = place_of b l p in
      subst (λ z. beats (get_or l k 0) z ≡ true) q.2 (h.beats_others q.0 q.1 (λ e. d (sym q.2 ∙ ap (λ j. get_or l j 0) e)));
}
  where
    once : (1 < tally (get_or l k 0) l) ⊎ (tally (get_or l k 0) l ≤ 1) → tally (get_or l k 0) l ≡ 1
    once (inr le) = omega (arith, tally_at l k h.within)
    once (inl two) =
        let j = other_place l k h.within two in
        absurd (loose (get_or l k 0) (subst (λ z. beats (get_or l k 0) z ≡ true) j.3 (h.beats_others j.0 j.1 j.2)))

pub at_from_leads : (beats : ℕ → ℕ → Bool) (l : List ℕ) (a : ℕ) → Leads beats l a → (k : ℕ) × LeadsAt beats l k × (get_or l k 0 ≡ a)
at_from_leads beats l a h =
    let p = place_of a l (omega (arith, h.single)) in
    let e : tally (get_or l p.0 0) l ≡ 1 = ap (λ z. tally z l) p.2 ∙ h.single in (
      p.0,
      record {
        within = p.1;
        beats_others = λ j lt d. subst (λ z. beats z (get_or l j 0) ≡ true) (sym p.2) (h.ahead (get_or l j 0) (tally_at l j lt) (λ q. absurd (omega (arith, e, tally_two l j p.0 lt p.1 d (q ∙ sym p.2)))));
      },
      p.2,
    )

-- one label more at the end
pub tally_added : (x y : ℕ) (l : List ℕ) → tally y (l ++ x ∷ []) ≡ tally y l + one x y
tally_added x y l = omega (arith, tally_append y l (x ∷ []))
