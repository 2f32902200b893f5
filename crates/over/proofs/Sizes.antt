-- The order and the count of one system over another, and its labels as two parts.
use Rattle.std.proofs.Common.{◌≡◌, ℕ, ◌+◌, ◌-◌, ◌*◌, ◌/◌, ◌%◌, ◌^◌, ◌<◌, ◌≤◌, true, ◌&&◌, ltb, leb, List, length, inl, inr, mod-lt, div-lt_iff_lt-mul, mul-zero, div-add-mod', arith}
use lib.Arith.{digits_lt}
use Rattle.std.proofs.lemmas.Bool.{cases_Bool, cases_lt, cond-true, cond-false, and_parts, ltb-true, leb-true}
use Rattle.labels.specs.System.{System, Laws, InRange}
use Rattle.over.specs.Over.{fits, over_order, over_count, over}

-- what holds where the two fit together
pub record Fitting (o i : System) : Type 0 where
  pub outer_pos : 0 < o.order
  pub inner_pos : 0 < i.order
  pub order_is : over_order o i ≡ o.order + i.order - 1
  pub count_is : over_count o i ≡ o.count * i.count
  pub order_le : over_order o i ≤ 20
  pub count_le : over_count o i ≤ 2 ^ 28

fitting : (o i : System) → fits o i ≡ true → Fitting o i
fitting o i f =
    let g : ℕ = o.order in
    let h : ℕ = i.order in
    let p = and_parts (ltb 0 g && ltb 0 h && leb (g + h - 1) 20) (leb (o.count * i.count) (2 ^ 28)) f in
    let q = and_parts (ltb 0 g && ltb 0 h) (leb (g + h - 1) 20) p.0 in
    let r = and_parts (ltb 0 g) (ltb 0 h) q.0 in
    let order = cond-true (fits o i) (g + h - 1) 0 f in
    let count = cond-true (fits o i) (o.count * i.count) 0 f in
    record {
      outer_pos = ltb-true 0 g r.0;
      inner_pos = ltb-true 0 h r.1;
      order_is = order;
      count_is = count;
      order_le = omega (arith, order, leb-true (g + h - 1) 20 q.1);
      count_le = omega (arith, count, leb-true (o.count * i.count) (2 ^ 28) p.1);
    }

module _ (o i : System) (lo : Laws o) (li : Laws i) where
  few_parties : over_order o i ≤ 20
  few_parties = elim (cases_Bool (fits o i)) [ inl t ↦ (fitting o i t).order_le | inr f ↦ omega (arith, cond-false (fits o i) (o.order + i.order - 1) 0 f) ]

  few_labels : over_count o i ≤ 2 ^ 28
  few_labels = elim (cases_Bool (fits o i)) [ inl t ↦ (fitting o i t).count_le | inr f ↦ omega (arith, cond-false (fits o i) (o.count * i.count) 0 f) ]

  -- where there is a label, or room for one, the two fit
  label_fits : (x : ℕ) → x < over_count o i → Fitting o i
  label_fits x h = elim (cases_Bool (fits o i)) [ inl t ↦ fitting o i t | inr f ↦ absurd (omega (arith, cond-false (fits o i) (o.count * i.count) 0 f)) ]

  pub room_fits : (l : List ℕ) → length l < over_order o i → Fitting o i
  room_fits l h = elim (cases_Bool (fits o i)) [ inl t ↦ fitting o i t | inr f ↦ absurd (omega (arith, cond-false (fits o i) (o.order + i.order - 1) 0 f)) ]

  pub inner_pos : (x : ℕ) → x < over_count o i → 0 < i.count
  inner_pos x h =
      elim (cases_lt 0 i.count) [
        | inl p ↦ p
        | inr z ↦
            let e : i.count ≡ 0 = omega arith in
            let m : o.count * i.count ≡ 0 = rw e (mul-zero o.count) in
            absurd (omega (arith, (label_fits x h).count_is))
      ]

  pub outer_label : (x : ℕ) → x < over_count o i → x / i.count < o.count
  outer_label x h = (div-lt_iff_lt-mul (inner_pos x h)).1 (omega (arith, (label_fits x h).count_is))

  pub made_label : (a b : ℕ) → Fitting o i → a < o.count → b < i.count → a * i.count + b < over_count o i
  made_label a b f ha hb = let d = digits_lt ha hb in omega (arith, f.count_is)

  pub over_in_range : InRange (over o i)
  over_in_range = record { order_at_most = few_parties; count_at_most = few_labels }

  pub parts_of_label : (x : ℕ) → x < over_count o i → (x / i.count < o.count) × (x % i.count < i.count) × (x / i.count * i.count + x % i.count ≡ x)
  parts_of_label x h = (outer_label x h, mod-lt x (inner_pos x h), div-add-mod' x i.count)
