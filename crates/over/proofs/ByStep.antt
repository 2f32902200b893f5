-- The choice of one system over another, step by step, and as the relation that it amounts to.
use Rattle.std.proofs.Common.{◌≡◌, ℕ, ◌+◌, ◌*◌, ◌/◌, ◌<◌, ◌≤◌, true, eqb, ltb, List, [], ◌∷◌, length, get_or, Some, None, Option, sym, refl, ap, ◌∙◌, subst, inl, inr, arith}
use Rattle.std.proofs.lemmas.Bool.{cases_Bool, cases_lt, cond-true, cond-false, lt-ltb, le-ltb, eq-eqb, ne_eqb}
use Rattle.labels.specs.System.{System, Laws}
use Rattle.labels.specs.Plain.{takes_one_more}
use Rattle.labels.proofs.Tally.{tally, place_of, tally_at}
use Rattle.labels.proofs.Chains.{distinct_from_once}
use Rattle.std.proofs.lemmas.Option.{none-some}
use Rattle.labels.proofs.Walks.{room_and_labels, takes_from}
use Rattle.over.specs.Over.{outer_parts, under, leader, joined, over_order, over_count, beside_leader, by_parts, over_choice}
use Rattle.over.specs.Steps.{LedBy, Step, first, grows, outward, Chosen, ChoosesByStep}
use Rattle.over.proofs.Parts.{outer_has, outer_from, outer_once}
use Rattle.over.proofs.Leading.{leader_from_led, led_from_leader}
use Rattle.over.proofs.Sizes.{parts_of_label}

joined_some : (n : ℕ) (p q : Option ℕ) (x : ℕ) → joined n p q ≡ Some x → (a : ℕ) × (b : ℕ) × (p ≡ Some a) × (q ≡ Some b) × (x ≡ a * n + b)
joined_some n (Some a) (Some b) x e = (a, b, refl, refl, cc)
joined_some n (Some a) None x e = absurd (none-some x e)
joined_some n None q x e = absurd (none-some x e)

pub joined_from : (n : ℕ) (p q : Option ℕ) (a b : ℕ) → p ≡ Some a → q ≡ Some b → joined n p q ≡ Some (a * n + b)
joined_from n p q a b ep eq = ap (λ z. joined n z q) ep ∙ ap (joined n (Some a)) eq

module _ (o i : System) (l : List ℕ) where
  abbrev D : List ℕ
  D = outer_parts i.count l

  -- the steps, where the list takes one more
  module _ (free : takes_one_more (over_order o i) (over_count o i) l ≡ true) where
    choice_by_parts : over_choice o i l ≡ by_parts o i l
    choice_by_parts = cond-true (takes_one_more (over_order o i) (over_count o i) l) (by_parts o i l) None free

    pub first_step : length l ≡ 0 → over_choice o i l ≡ joined i.count (o.choice []) (i.choice [])
    first_step none = choice_by_parts ∙ cond-true (eqb (length l) 0) _ _ (eq-eqb (length l) 0 none)

    module _ (some : 0 < length l) where
      choice_beside : over_choice o i l ≡ beside_leader o i l (leader o.beats D)
      choice_beside = choice_by_parts ∙ cond-false (eqb (length l) 0) _ _ (ne_eqb (length l) 0 (λ e. omega arith))

      pub no_leader : leader o.beats D ≡ None → over_choice o i l ≡ None
      no_leader e = choice_beside ∙ ap (beside_leader o i l) e

      module _ (m : ℕ) (leads : leader o.beats D ≡ Some m) where
        abbrev grow : Option ℕ
        grow = joined i.count (Some m) (i.choice (under i.count m l))

        abbrev out : Option ℕ
        out = joined i.count (o.choice D) (i.choice [])

        pub grow_step : length (under i.count m l) < i.order → over_choice o i l ≡ grow
        grow_step lt = choice_beside ∙ ap (beside_leader o i l) leads ∙ cond-true (ltb (length (under i.count m l)) i.order) grow out (lt-ltb (length (under i.count m l)) i.order lt)

        pub outward_step : i.order ≤ length (under i.count m l) → over_choice o i l ≡ out
        outward_step ge = choice_beside ∙ ap (beside_leader o i l) leads ∙ cond-false (ltb (length (under i.count m l)) i.order) grow out (le-ltb (length (under i.count m l)) i.order ge)

module _ (o i : System) (lo : Laws o) (li : Laws i) (l : List ℕ) where
  -- a choice was made by one of the steps
  pub step_of : (x : ℕ) → over_choice o i l ≡ Some x → Chosen o i l x
  step_of x e = elim (cases_Bool (takes_one_more (over_order o i) (over_count o i) l)) [ inl t ↦ taken t | inr f ↦ absurd (none-some x (sym (cond-false (takes_one_more (over_order o i) (over_count o i) l) (by_parts o i l) None f) ∙ e)) ]
    where
      beside : (free : takes_one_more (over_order o i) (over_count o i) l ≡ true) → 0 < length l → (M : Option ℕ) → leader o.beats (outer_parts i.count l) ≡ M → Step o i l x
      beside free some None lead = absurd (none-some x (sym (no_leader o i l free some lead) ∙ e))
      beside free some (Some m) lead =
          let led = led_from_leader o lo (outer_parts i.count l) (λ y. outer_once i.count y l) m lead in
          elim (cases_lt (length (under i.count m l)) i.order) [
            | inl lt ↦
                let j = joined_some i.count (Some m) (i.choice (under i.count m l)) x (sym (grow_step o i l free some m lead lt) ∙ e) in
                let same : m ≡ j.0 = cc j.2 in
                grows m j.1 led lt j.3 (j.4 ∙ ap (λ z. z * i.count + j.1) (sym same))
            | inr ge ↦
                let j = joined_some i.count (o.choice (outer_parts i.count l)) (i.choice []) x (sym (outward_step o i l free some m lead ge) ∙ e) in
                outward m j.0 j.1 led ge j.2 j.3 j.4
          ]

      begun : (free : takes_one_more (over_order o i) (over_count o i) l ≡ true) → (k : List ℕ) → l ≡ k → Step o i l x
      begun free [] none =
          let j = joined_some i.count (o.choice []) (i.choice []) x (sym (first_step o i l free (ap length none)) ∙ e) in
          first j.0 j.1 none j.2 j.3 j.4
      begun free (y ∷ ys) is = beside free (omega (arith, ap length is)) (leader o.beats (outer_parts i.count l)) refl

      taken : takes_one_more (over_order o i) (over_count o i) l ≡ true → Chosen o i l x
      taken free =
          let p = room_and_labels (over_order o i) (over_count o i) l free in
          record { room = p.0; labels = p.1; step = begun free l refl }

  -- what a step gives is the choice
  pub choice_of : (x : ℕ) → Chosen o i l x → over_choice o i l ≡ Some x
  choice_of x h = by h.step
    where
      free : takes_one_more (over_order o i) (over_count o i) l ≡ true
      free = takes_from (over_order o i) (over_count o i) l h.room h.labels

      -- there is a leading place, so the list is not empty
      some : (m : ℕ) → LedBy o.beats (outer_parts i.count l) m → 0 < length l
      some m led = at l led
        where
          at : (l : List ℕ) → LedBy o.beats (outer_parts i.count l) m → 0 < length l
          at [] led = absurd (omega (arith, led.leads.within))
          at (y ∷ ys) led = omega arith

      by : Step o i l x → over_choice o i l ≡ Some x
      by (first a b none ea eb is) = first_step o i l free (ap length none) ∙ joined_from i.count (o.choice []) (i.choice []) a b ea eb ∙ ap Some (sym is)
      by (grows m b led lt eb is) =
          grow_step o i l free (some m led) m (leader_from_led o lo (outer_parts i.count l) m led) lt ∙ joined_from i.count (Some m) (i.choice (under i.count m l)) m b refl eb ∙ ap Some (sym is)
      by (outward m a b led ge ea eb is) =
          outward_step o i l free (some m led) m (leader_from_led o lo (outer_parts i.count l) m led) ge ∙ joined_from i.count (o.choice (outer_parts i.count l)) (i.choice []) a b ea eb ∙ ap Some (sym is)

  pub chooses_by_step : ChoosesByStep o i l (over_choice o i l)
  chooses_by_step = record {
    label_exactly = λ x. (step_of x, choice_of x);
    parts_once = distinct_from_once (outer_parts i.count l) (λ y. outer_once i.count y l);
    parts_of_labels = λ m. (
      λ p.
          let x = outer_from i.count m l (subst (λ z. 0 < tally z (outer_parts i.count l)) p.2 (tally_at (outer_parts i.count l) p.0 p.1)) in
          let k = place_of x.0 l x.1 in
          (k.0, k.1, ap (λ z. z / i.count) k.2 ∙ x.2),
      λ p. place_of m (outer_parts i.count l) (subst (λ z. 0 < tally z (outer_parts i.count l)) p.2 (outer_has i.count (get_or l p.0 0) l (tally_at l p.0 p.1))),
    );
    label_of_parts = parts_of_label o i lo li;
  }
