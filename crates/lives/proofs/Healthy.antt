-- Stays whose labels are in order and lawful stay so as they come and go. Here the laws of label systems are used.
use Rattle.std.proofs.Common.{◌≡◌, ℕ, suc, ◌-◌, ◌<◌, ◌≤◌, true, false, [], ◌∷◌, ◌++◌, length, set, Some, None, Option, sym, refl, ap, ◌∙◌, subst, inl, inr, arith}
use Rattle.std.proofs.lemmas.Bool.{cases_Bool}
use Rattle.std.proofs.lemmas.Option.{none-some}
use Rattle.labels.specs.System.{System, Laws}
use Rattle.labels.proofs.Tally.{part_kept, all_tally, shuffled_from_tally}
use Rattle.labels.proofs.Leaders.{tally_added}
use Rattle.search.specs.Search.{labels_in}
use Rattle.lives.specs.History.{Stay, Stays, stay_label, entries, labels_by_seat, with_stay}
use Rattle.lives.specs.Promises.{InOrder}
use Rattle.lives.proofs.BySeat.{length_by_seat}
use Rattle.lives.proofs.Listed.{one_less, one_more, is_listed, fewer_listed, none_listed}
use Rattle.lives.proofs.Stays.{without_some, with_some, entries_with, entry_at, entry_none}

-- the stays of n seats, all begun before now
pub record Healthy (s : System) (n : ℕ) (f : Stays) (now : ℕ) : Type 0 where
  pub seats : (a : ℕ) (v : Stay) → f a ≡ Some v → (1 ≤ a) × (a ≤ n)
  pub order : InOrder s f
  pub earlier : (a : ℕ) (v : Stay) → f a ≡ Some v → v.since < now
  pub lawful : s.lawful (labels_by_seat n f)

pub none_beyond : (s : System) (n : ℕ) (f : Stays) (now : ℕ) → Healthy s n f now → (q : ℕ) → (1 ≤ q → q ≤ n → ⊥) → f q ≡ None
none_beyond s n f now h q out = go (f q) refl
  where
    go : (o : Option Stay) → f q ≡ o → f q ≡ None
    go None e = e
    go (Some v) e = absurd (out (h.seats q v e).0 (h.seats q v e).1)

pub healthy_later : (s : System) (n : ℕ) (f : Stays) (now : ℕ) → Healthy s n f now → Healthy s n f (suc now)
healthy_later s n f now h = record { seats = h.seats; order = h.order; earlier = λ a v e. omega (arith, h.earlier a v e); lawful = h.lawful }

pub healthy_none : (s : System) → Laws s → (n : ℕ) (f : Stays) (now : ℕ) → ((q : ℕ) → f q ≡ None) → Healthy s n f now
healthy_none s laws n f now none = record {
  seats = λ a v e. absurd (none-some _ (sym (none a) ∙ e));
  order = record {
    later_beats = λ a b v w e d l. absurd (none-some _ (sym (none a) ∙ e));
    earlier_loses = λ a b v w e d l. absurd (none-some _ (sym (none a) ∙ e));
    apart = λ a b v w e d l. absurd (none-some _ (sym (none a) ∙ e));
  };
  earlier = λ a v e. absurd (none-some _ (sym (none a) ∙ e));
  lawful = subst s.lawful (sym (none_listed (entries n f) (entry_none n f none))) laws.empty_lawful;
}

lawful_without : (s : System) → Laws s → (n : ℕ) (f : Stays) (seat : ℕ) → 1 ≤ seat → seat ≤ n → s.lawful (labels_by_seat n f) → s.lawful (labels_by_seat n (with_stay f seat None))
lawful_without s laws n f seat low high h =
    subst (λ ls. s.lawful (labels_in ls)) (sym (entries_with n f seat None low high))
    (part_kept s.lawful laws.removed_lawful laws.reordered_lawful (labels_in (set (entries n f) (seat - 1) None)) (labels_by_seat n f) (one_less (entries n f) (seat - 1)) h)

pub healthy_without : (s : System) → Laws s → (n : ℕ) (f : Stays) (now : ℕ) → Healthy s n f now → (seat : ℕ) → 1 ≤ seat → seat ≤ n → Healthy s n (with_stay f seat None) now
healthy_without s laws n f now h seat low high = record {
  seats = λ a v e. h.seats a v (without_some f seat a v e);
  order = record {
    later_beats = λ a b v w e d l. h.order.later_beats a b v w (without_some f seat a v e) (without_some f seat b w d) l;
    earlier_loses = λ a b v w e d l. h.order.earlier_loses a b v w (without_some f seat a v e) (without_some f seat b w d) l;
    apart = λ a b v w e d l. h.order.apart a b v w (without_some f seat a v e) (without_some f seat b w d) l;
  };
  earlier = λ a v e. h.earlier a v (without_some f seat a v e);
  lawful = lawful_without s laws n f seat low high h.lawful;
}

not_both : (s : System) → Laws s → (a b : ℕ) → s.beats a b ≡ true → s.beats b a ≡ false
not_both s laws a b won = elim (cases_Bool (s.beats b a)) [ inl back ↦ absurd (laws.one_way a b won back) | inr e ↦ e ]

-- a newcomer with the label chosen beside the others
module _ (s : System) (laws : Laws s) (n : ℕ) (f : Stays) (now : ℕ) (h : Healthy s n f now) (seat : ℕ) (low : 1 ≤ seat) (high : seat ≤ n) (none : f seat ≡ None) (x : Stay) (at-now : x.since ≡ now) (chosen : s.choice (labels_by_seat n f) ≡ Some x.label) where
  beats_old : (a : ℕ) (v : Stay) → f a ≡ Some v → s.beats x.label v.label ≡ true
  beats_old a v e =
      let within = h.seats a v e in
      all_tally (λ y. s.beats x.label y ≡ true) (labels_by_seat n f) v.label (laws.chosen_beats (labels_by_seat n f) x.label chosen h.lawful) (is_listed (entries n f) (a - 1) v.label (entry_at n f a within.0 within.1 ∙ ap stay_label e))

  lawful_with : s.lawful (labels_by_seat n (with_stay f seat (Some x)))
  lawful_with =
      let room : seat - 1 < length (entries n f) = omega (arith, length_by_seat (λ q. stay_label (f q)) n) in
      let more = one_more (entries n f) (seat - 1) x.label room (entry_at n f seat low high ∙ ap stay_label none) in
      subst (λ ls. s.lawful (labels_in ls)) (sym (entries_with n f seat (Some x) low high))
      (laws.reordered_lawful (labels_by_seat n f ++ x.label ∷ []) (labels_in (set (entries n f) (seat - 1) (Some x.label))) (shuffled_from_tally (labels_by_seat n f ++ x.label ∷ []) (labels_in (set (entries n f) (seat - 1) (Some x.label))) (λ y. more y ∙ sym (tally_added x.label y (labels_by_seat n f))))
      (laws.chosen_lawful (labels_by_seat n f) x.label chosen h.lawful))

  beats_with : (a b : ℕ) (v w : Stay) → with_stay f seat (Some x) a ≡ Some v → with_stay f seat (Some x) b ≡ Some w → v.since < w.since → s.beats w.label v.label ≡ true
  beats_with a b v w e d less =
      elim (with_some f seat x b w d) [
        | inl q ↦
            elim (with_some f seat x a v e) [
              | inl p ↦ absurd (omega (arith, ap (λ (r : Stay). r.since) p.1, ap (λ (r : Stay). r.since) q.1))
              | inr p ↦ subst (λ (r : Stay). s.beats r.label v.label ≡ true) (sym q.1) (beats_old a v p)
            ]
        | inr q ↦
            elim (with_some f seat x a v e) [
              | inl p ↦ absurd (omega (arith, ap (λ (r : Stay). r.since) p.1, h.earlier b w q))
              | inr p ↦ h.order.later_beats a b v w p q less
            ]
      ]

  apart_with : (a b : ℕ) (v w : Stay) → with_stay f seat (Some x) a ≡ Some v → with_stay f seat (Some x) b ≡ Some w → v.since ≡ w.since → a ≡ b
  apart_with a b v w e d together =
      elim (with_some f seat x a v e) [
        | inl p ↦
            elim (with_some f seat x b w d) [
              | inl q ↦ p.0 ∙ sym q.0
              | inr q ↦ absurd (omega (arith, ap (λ (r : Stay). r.since) p.1, h.earlier b w q))
            ]
        | inr p ↦
            elim (with_some f seat x b w d) [
              | inl q ↦ absurd (omega (arith, ap (λ (r : Stay). r.since) q.1, h.earlier a v p))
              | inr q ↦ h.order.apart a b v w p q together
            ]
      ]

  pub healthy_with : Healthy s n (with_stay f seat (Some x)) (suc now)
  healthy_with = record {
    seats = λ a v e. elim (with_some f seat x a v e) [ inl p ↦ omega (arith, p.0) | inr p ↦ h.seats a v p ];
    order = record {
      later_beats = beats_with;
      earlier_loses = λ a b v w e d less. not_both s laws w.label v.label (beats_with a b v w e d less);
      apart = apart_with;
    };
    earlier = λ a v e. elim (with_some f seat x a v e) [ inl p ↦ omega (arith, ap (λ (r : Stay). r.since) p.1) | inr p ↦ omega (arith, h.earlier a v p) ];
    lawful = lawful_with;
  }

-- an endless system has a label for a seat without a stay
pub never_none : (s : System) → Laws s → (n : ℕ) (f : Stays) (now : ℕ) → n ≤ s.order → Healthy s n f now → (seat : ℕ) → 1 ≤ seat → seat ≤ n → f seat ≡ None → s.endless ≡ true → s.choice (labels_by_seat n f) ≡ None → ⊥
never_none s laws n f now reach h seat low high none endless nothing =
    let size = length_by_seat (λ q. stay_label (f q)) n in
    let few = fewer_listed (entries n f) (seat - 1) (omega (arith, size)) (entry_at n f seat low high ∙ ap stay_label none) in
    let p = laws.endless_some endless (labels_by_seat n f) h.lawful (omega (arith, size, few)) in
    none-some _ (sym nothing ∙ p.1)
