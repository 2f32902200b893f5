-- Two systems that show the laws show them one over the other.
use Rattle.std.proofs.Common.{◌≡◌, ℕ, ◌+◌, ◌*◌, ◌/◌, ◌%◌, ◌<◌, ◌≤◌, Bool, true, ◌&&◌, ◌||◌, eqb, ltb, ◌⊎◌, List, [], ◌∷◌, ◌++◌, length, get_or, Some, None, sym, refl, ap, ◌∙◌, subst, inl, inr, div-add-mod', arith}
use lib.Arith.{digits_div, digits_mod}
use Rattle.std.specs.List.{remove, AllByRecursion}
use Rattle.std.specs.List.Sorted.{IsPermutation}
use Rattle.std.proofs.lemmas.Bool.{cases_eq, eqb-true, eq-eqb, cond-false, cases_lt, and_parts, and_from, or_cases, or_left, or_right, ltb-true, lt-ltb, le-ltb, and_left}
use Rattle.std.proofs.lemmas.List.{length-append}
use Rattle.std.proofs.ByRecursion.{All-push}
use Rattle.labels.specs.System.{System, Laws, LeadsAt}
use Rattle.labels.specs.Plain.{all_below, takes_one_more}
use Rattle.over.specs.Over.{outer_parts, under, over_order, over_count, over_beats, OverLawful, by_parts, over_choice, over}
use Rattle.labels.proofs.Tally.{tally, one_is, Within, part_kept, all_tally, tally_all, tally_at, tally_removed, tally_shuffled, within_length, place_of}
use Rattle.labels.proofs.Leaders.{Leads, leads_from_at, at_from_leads, tally_added}
use Rattle.over.proofs.Parts.{outer_has, outer_from, outer_once, outer_within, tally_under, under_below, under_within, under_has, under_none, parts_length, outer_added, under_added, under_added_elsewhere}
use Rattle.over.specs.Steps.{LedBy, Step, first, grows, outward}
use Rattle.over.proofs.Sizes.{Fitting, room_fits, inner_pos, outer_label, made_label, over_in_range}
use Rattle.over.proofs.Leading.{leads_from_led}
use Rattle.over.proofs.ByStep.{step_of, choice_of}

length_pos : (x : ℕ) (l : List ℕ) → 0 < tally x l → 0 < length l
length_pos x l h = let p = place_of x l h in omega (arith, p.1)

module _ (o i : System) (lo : Laws o) (li : Laws i) where
  -- how one label beats another
  record Ahead (a b : ℕ) : Type 0 where
    left : a < over_count o i
    right : b < over_count o i
    by : (o.beats (a / i.count) (b / i.count) ≡ true) ⊎ ((a / i.count ≡ b / i.count) × (i.beats (a % i.count) (b % i.count) ≡ true))

  ahead_from : (a b : ℕ) → over_beats o i a b ≡ true → Ahead a b
  ahead_from a b e =
      let N : ℕ = over_count o i in
      let n : ℕ = i.count in
      let outside : Bool = o.beats (a / n) (b / n) in
      let same : Bool = eqb (a / n) (b / n) in
      let inside : Bool = i.beats (a % n) (b % n) in
      let p = and_parts (ltb a N && ltb b N) (outside || (same && inside)) e in
      let q = and_parts (ltb a N) (ltb b N) p.0 in
      record {
        left = ltb-true a N q.0;
        right = ltb-true b N q.1;
        by = elim (or_cases outside (same && inside) p.1) [ inl t ↦ inl t | inr u ↦ let r = and_parts same inside u in inr (eqb-true (a / n) (b / n) r.0, r.1) ];
      }

  beats_from : (a b : ℕ) → Ahead a b → over_beats o i a b ≡ true
  beats_from a b h =
      let N : ℕ = over_count o i in
      let n : ℕ = i.count in
      let outside : Bool = o.beats (a / n) (b / n) in
      let same : Bool = eqb (a / n) (b / n) in
      let inside : Bool = i.beats (a % n) (b % n) in
      and_from (ltb a N && ltb b N) (outside || (same && inside))
      (and_from (ltb a N) (ltb b N) (lt-ltb a N h.left) (lt-ltb b N h.right))
      (elim h.by [
        | inl t ↦ or_left outside (same && inside) t
        | inr u ↦ or_right outside (same && inside) (and_from same inside (eq-eqb (a / n) (b / n) u.0) u.1)
      ])

  between_labels : (a b : ℕ) → over_beats o i a b ≡ true → (a < over_count o i) × (b < over_count o i)
  between_labels a b e = let h = ahead_from a b e in (h.left, h.right)

  one_way : (a b : ℕ) → over_beats o i a b ≡ true → over_beats o i b a ≡ true → ⊥
  one_way a b e f = go (ahead_from a b e).by (ahead_from b a f).by
    where
      p : ℕ
      p = a / i.count

      q : ℕ
      q = b / i.count

      go : (o.beats p q ≡ true) ⊎ ((p ≡ q) × (i.beats (a % i.count) (b % i.count) ≡ true)) → (o.beats q p ≡ true) ⊎ ((q ≡ p) × (i.beats (b % i.count) (a % i.count) ≡ true)) → ⊥
      go (inl t) (inl u) = lo.one_way p q t u
      go (inl t) (inr u) = lo.one_way p q t (ap (λ z. o.beats z p) u.0 ∙ ap (λ z. o.beats p z) (sym u.0) ∙ t)
      go (inr t) (inl u) = lo.one_way q p u (ap (λ z. o.beats z q) t.0 ∙ ap (λ z. o.beats q z) (sym t.0) ∙ u)
      go (inr t) (inr u) = li.one_way (a % i.count) (b % i.count) t.1 u.1

  empty_lawful : OverLawful o i []
  empty_lawful = record { short = omega arith; labels = tt; outside = lo.empty_lawful; inside = tt }

  -- the inner parts under every number are lawful
  inside_any : (l : List ℕ) → OverLawful o i l → (m : ℕ) → i.lawful (under i.count m l)
  inside_any l h m =
      elim (cases_lt 0 (tally m (outer_parts i.count l))) [
        | inl p ↦ all_tally (λ z. i.lawful (under i.count z l)) (outer_parts i.count l) m h.inside p
        | inr z ↦ subst i.lawful (sym (under_none i.count m l (omega arith))) li.empty_lawful
      ]

  outer_kept : (k l : List ℕ) → Within k l → o.lawful l → o.lawful k
  outer_kept = part_kept o.lawful lo.removed_lawful lo.reordered_lawful

  inner_kept : (k l : List ℕ) → Within k l → i.lawful l → i.lawful k
  inner_kept = part_kept i.lawful li.removed_lawful li.reordered_lawful

  label_of : (l : List ℕ) → OverLawful o i l → (x : ℕ) → 0 < tally x l → x < over_count o i
  label_of l h x p = all_tally (λ z. z < over_count o i) l x h.labels p

  over_kept : (k l : List ℕ) → Within k l → OverLawful o i l → OverLawful o i k
  over_kept k l w h = record {
    short = omega (arith, h.short, within_length k l w);
    labels = tally_all (λ z. z < over_count o i) k (λ x p. label_of l h x (omega (arith, w x)));
    outside = outer_kept (outer_parts i.count k) (outer_parts i.count l) (outer_within i.count k l w) h.outside;
    inside = tally_all (λ m. i.lawful (under i.count m k)) (outer_parts i.count k) (λ m p.
        let x = outer_from i.count m k p in
        let pos = inner_pos o i lo li x.0 (label_of l h x.0 (omega (arith, w x.0, x.1))) in
        inner_kept (under i.count m k) (under i.count m l) (under_within i.count m k l pos w) (inside_any l h m));
  }

  removed_lawful : (l : List ℕ) (k : ℕ) → k < length l → OverLawful o i l → OverLawful o i (remove l k)
  removed_lawful l k lt h = over_kept (remove l k) l (λ x. omega (arith, tally_removed x l k lt)) h

  reordered_lawful : (l m : List ℕ) → IsPermutation l m → OverLawful o i l → OverLawful o i m
  reordered_lawful l m s h = over_kept m l (λ x. omega (arith, tally_shuffled x l m s)) h

  -- a list with an entry has an outer part
  outer_some : (l : List ℕ) → 0 < length l → 0 < length (outer_parts i.count l)
  outer_some l pos = length_pos (get_or l 0 0 / i.count) (outer_parts i.count l) (outer_has i.count (get_or l 0 0) l (tally_at l 0 pos))

  outer_led : (l : List ℕ) → OverLawful o i l → 0 < length l → (m : ℕ) × Leads o.beats (outer_parts i.count l) m
  outer_led l h pos =
      let D : List ℕ = outer_parts i.count l in
      let k = lo.lawful_led D h.outside (outer_some l pos) in
      (get_or D k.0 0, leads_from_at o.beats D k.0 (λ a e. lo.one_way a a e e) k.1)

  led : (l : List ℕ) → OverLawful o i l → 0 < length l → (k : ℕ) × LeadsAt (over_beats o i) l k
  led l h pos =
      let n : ℕ = i.count in
      let M = outer_led l h pos in
      let m : ℕ = M.0 in
      let x = outer_from n m l (omega (arith, M.1.single)) in
      let hn : 0 < n = inner_pos o i lo li x.0 (label_of l h x.0 x.1) in
      let R : List ℕ = under n m l in
      let xin : 0 < tally (x.0 % n) R = rw x.2 at (under_has n x.0 l hn x.1) in
      let k = li.lawful_led R (inside_any l h m) (length_pos (x.0 % n) R xin) in
      let L = leads_from_at i.beats R k.0 (λ a e. li.one_way a a e e) k.1 in
      let r : ℕ = get_or R k.0 0 in
      let hr : r < n = under_below n m r l hn (omega (arith, L.single)) in
      let once : tally (m * n + r) l ≡ 1 = sym (tally_under n m r l hr) ∙ L.single in
      let found = at_from_leads (over_beats o i) l (m * n + r) (record {
        single = once;
        ahead = λ b p d. beats_from (m * n + r) b (record {
          left = label_of l h (m * n + r) (omega arith);
          right = label_of l h b p;
          by = elim (cases_eq (b / n) m) [
            | inl e ↦ inr (
              digits_div m hr ∙ sym e,
              ap (λ z. i.beats z (b % n)) (digits_mod m hr) ∙ L.ahead (b % n) (rw e at (under_has n b l hn p)) (λ q. d (sym (div-add-mod' b n) ∙ ap (λ z. z * n + b % n) e ∙ ap (λ z. m * n + z) q)),
            )
            | inr f ↦ inl (ap (λ z. o.beats z (b / n)) (digits_div m hr) ∙ M.1.ahead (b / n) (outer_has n b l p) f)
          ];
        });
      }) in
      (found.0, found.1)

  -- the leading outer part is one of the list's
  part_led : (l : List ℕ) (m : ℕ) → LedBy o.beats (outer_parts i.count l) m → 0 < tally m (outer_parts i.count l)
  part_led l m led = omega (arith, (leads_from_led o lo (outer_parts i.count l) m led).single)

  outer_part_label : (l : List ℕ) (m : ℕ) → AllByRecursion (λ y. y < over_count o i) l → 0 < tally m (outer_parts i.count l) → m < o.count
  outer_part_label l m labels p =
      let y = outer_from i.count m l p in
      rw y.2 at (outer_label o i lo li y.0 (all_tally (λ z. z < over_count o i) l y.0 labels y.1))

  -- a choice that goes outward, also from the empty list
  first_outward : (l : List ℕ) (a : ℕ) → l ≡ [] → o.choice [] ≡ Some a → o.choice (outer_parts i.count l) ≡ Some a
  first_outward l a none e = ap (λ k. o.choice (outer_parts i.count k)) none ∙ e

  chosen_label : (l : List ℕ) (x : ℕ) → over_choice o i l ≡ Some x → x < over_count o i
  chosen_label l x e = let c = step_of o i lo li l x e in by_step c.labels (room_fits o i lo li l c.room) c.step
    where
      by_step : AllByRecursion (λ y. y < over_count o i) l → Fitting o i → Step o i l x → x < over_count o i
      by_step labels fit (first a b none ea eb is) = rw is (made_label o i lo li a b fit (lo.chosen_label [] a ea) (li.chosen_label [] b eb))
      by_step labels fit (grows m b led lt eb is) = rw is (made_label o i lo li m b fit (outer_part_label l m labels (part_led l m led)) (li.chosen_label (under i.count m l) b eb))
      by_step labels fit (outward m a b led ge ea eb is) = rw is (made_label o i lo li a b fit (lo.chosen_label (outer_parts i.count l) a ea) (li.chosen_label [] b eb))

  chosen_beats : (l : List ℕ) (x : ℕ) → over_choice o i l ≡ Some x → OverLawful o i l → AllByRecursion (λ y. over_beats o i x y ≡ true) l
  chosen_beats l x e h = tally_all (λ y. over_beats o i x y ≡ true) l (λ y p. beats_from x y (record {
    left = chosen_label l x e;
    right = label_of l h y p;
    by = by_step y p (step_of o i lo li l x e).step;
  }))
    where
      n : ℕ
      n = i.count

      beats_outside : (y : ℕ) → 0 < tally y l → (a b : ℕ) → o.choice (outer_parts n l) ≡ Some a → i.choice [] ≡ Some b → x ≡ a * n + b → o.beats (x / n) (y / n) ≡ true
      beats_outside y p a b ea eb is =
          let xa : x / n ≡ a = ap (λ z. z / n) is ∙ digits_div a (li.chosen_label [] b eb) in
          ap (λ z. o.beats z (y / n)) xa ∙ all_tally (λ z. o.beats a z ≡ true) (outer_parts n l) (y / n) (lo.chosen_beats (outer_parts n l) a ea h.outside) (outer_has n y l p)

      by_step : (y : ℕ) → 0 < tally y l → Step o i l x → (o.beats (x / n) (y / n) ≡ true) ⊎ ((x / n ≡ y / n) × (i.beats (x % n) (y % n) ≡ true))
      by_step y p (first a b none ea eb is) = inl (beats_outside y p a b (first_outward l a none ea) eb is)
      by_step y p (grows m b led lt eb is) =
          let hb : b < n = li.chosen_label (under n m l) b eb in
          let hn : 0 < n = omega arith in
          let xa : x / n ≡ m = ap (λ z. z / n) is ∙ digits_div m hb in
          let xb : x % n ≡ b = ap (λ z. z % n) is ∙ digits_mod m hb in
          elim (cases_eq (y / n) m) [
            | inl q ↦ inr (
              xa ∙ sym q,
              ap (λ z. i.beats z (y % n)) xb ∙ all_tally (λ z. i.beats b z ≡ true) (under n m l) (y % n) (li.chosen_beats (under n m l) b eb (inside_any l h m)) (rw q at (under_has n y l hn p)),
            )
            | inr d ↦ inl (ap (λ z. o.beats z (y / n)) xa ∙ (leads_from_led o lo (outer_parts n l) m led).ahead (y / n) (outer_has n y l p) d)
          ]
      by_step y p (outward m a b led ge ea eb is) = inl (beats_outside y p a b ea eb is)

  -- a label may be added where its parts may
  added : (l : List ℕ) (a b : ℕ) → OverLawful o i l → length l < over_order o i → a < o.count → b < i.count → o.lawful (outer_parts i.count (l ++ (a * i.count + b) ∷ [])) → i.lawful (under i.count a l ++ b ∷ []) → OverLawful o i (l ++ (a * i.count + b) ∷ [])
  added l a b h room ha hb outside inside =
      let n : ℕ = i.count in
      let x : ℕ = a * n + b in
      record {
        short = omega (arith, length-append l (x ∷ []));
        labels = All-push (λ z. z < over_count o i) l x h.labels (made_label o i lo li a b (room_fits o i lo li l room) ha hb);
        outside = outside;
        inside = tally_all (λ m. i.lawful (under n m (l ++ x ∷ []))) (outer_parts n (l ++ x ∷ [])) (λ m _.
            elim (cases_eq a m) [
              | inl e ↦ subst (λ z. i.lawful (under n z (l ++ x ∷ []))) e (inner_kept (under n a (l ++ x ∷ [])) (under n a l ++ b ∷ []) (under_added n a b l hb) inside)
              | inr d ↦ inner_kept (under n m (l ++ x ∷ [])) (under n m l) (under_added_elsewhere n a b m l hb d) (inside_any l h m)
            ]);
      }

  chosen_lawful : (l : List ℕ) (x : ℕ) → over_choice o i l ≡ Some x → OverLawful o i l → OverLawful o i (l ++ x ∷ [])
  chosen_lawful l x e h = let c = step_of o i lo li l x e in by_step c.room c.step
    where
      n : ℕ
      n = i.count

      D : List ℕ
      D = outer_parts n l

      grown : length l < over_order o i → (m b : ℕ) → 0 < tally m D → i.choice (under n m l) ≡ Some b → x ≡ m * n + b → OverLawful o i (l ++ x ∷ [])
      grown room m b here eb is =
          let hb : b < n = li.chosen_label (under n m l) b eb in
          let D' : List ℕ = outer_parts n (l ++ (m * n + b) ∷ []) in
          let w : Within D' D = λ z.
          elim (cases_lt 0 (tally z D')) [
            | inl p ↦
                elim (outer_added n (m * n + b) z l p) [
                  | inl q ↦ omega (arith, outer_once n z (l ++ (m * n + b) ∷ []))
                  | inr q ↦
                      let old : 0 < tally z D = subst (λ v. 0 < tally v D) (sym (digits_div m hb) ∙ q) here in
                      omega (arith, outer_once n z (l ++ (m * n + b) ∷ []))
                ]
            | inr q ↦ omega arith
          ] in
          subst (λ z. OverLawful o i (l ++ z ∷ [])) (sym is) (added l m b h room (outer_part_label l m h.labels here) hb (outer_kept D' D w h.outside) (li.chosen_lawful (under n m l) b eb (inside_any l h m)))

      gone_outward : length l < over_order o i → (a b : ℕ) → o.choice D ≡ Some a → i.choice [] ≡ Some b → x ≡ a * n + b → OverLawful o i (l ++ x ∷ [])
      gone_outward room a b ea eb is =
          let hb : b < n = li.chosen_label [] b eb in
          let D' : List ℕ = outer_parts n (l ++ (a * n + b) ∷ []) in
          let w : Within D' (D ++ a ∷ []) = λ z.
          elim (cases_lt 0 (tally z D')) [
            | inl p ↦
                elim (outer_added n (a * n + b) z l p) [
                  | inl q ↦ omega (arith, outer_once n z (l ++ (a * n + b) ∷ []), tally_added a z D)
                  | inr q ↦ omega (arith, outer_once n z (l ++ (a * n + b) ∷ []), tally_added a z D, one_is a z (sym (digits_div a hb) ∙ q))
                ]
            | inr q ↦ omega arith
          ] in
          let new : tally a D ≡ 0 = elim (cases_lt 0 (tally a D)) [
            | inl p ↦ let self = all_tally (λ z. o.beats a z ≡ true) D a (lo.chosen_beats D a ea h.outside) p in absurd (lo.one_way a a self self)
            | inr z ↦ omega arith
          ] in
          let alone : i.lawful (under n a l ++ b ∷ []) = subst (λ r. i.lawful (r ++ b ∷ [])) (sym (under_none n a l new)) (li.chosen_lawful [] b eb li.empty_lawful) in
          subst (λ z. OverLawful o i (l ++ z ∷ [])) (sym is) (added l a b h room (lo.chosen_label D a ea) hb (outer_kept D' (D ++ a ∷ []) w (lo.chosen_lawful D a ea h.outside)) alone)

      by_step : length l < over_order o i → Step o i l x → OverLawful o i (l ++ x ∷ [])
      by_step room (first a b none ea eb is) = gone_outward room a b (first_outward l a none ea) eb is
      by_step room (grows m b led lt eb is) = grown room m b (part_led l m led) eb is
      by_step room (outward m a b led ge ea eb is) = gone_outward room a b ea eb is

  full_none : (l : List ℕ) → over_order o i ≤ length l → over_choice o i l ≡ None
  full_none l h = cond-false (takes_one_more (over_order o i) (over_count o i) l) (by_parts o i l) None (and_left (ltb (length l) (over_order o i)) (all_below (over_count o i) l) (le-ltb (length l) (over_order o i) h))

  endless_some : (o.endless && i.endless) ≡ true → (l : List ℕ) → OverLawful o i l → length l < over_order o i → (x : ℕ) × (over_choice o i l ≡ Some x)
  endless_some both l h room = begun l refl
    where
      n : ℕ
      n = i.count

      ends : (o.endless ≡ true) × (i.endless ≡ true)
      ends = and_parts o.endless i.endless both

      fit : Fitting o i
      fit = room_fits o i lo li l room

      chosen : (x : ℕ) → Step o i l x → (y : ℕ) × (over_choice o i l ≡ Some y)
      chosen x step = (x, choice_of o i lo li l x (record { room = room; labels = h.labels; step = step }))

      inner_first : (b : ℕ) × (i.choice [] ≡ Some b)
      inner_first = li.endless_some ends.1 [] li.empty_lawful fit.inner_pos

      begun : (k : List ℕ) → l ≡ k → (x : ℕ) × (over_choice o i l ≡ Some x)
      begun [] none =
          let a = lo.endless_some ends.0 [] lo.empty_lawful fit.outer_pos in
          let b = inner_first in
          chosen (a.0 * n + b.0) (first a.0 b.0 none a.1 b.1 refl)
      begun (y ∷ ys) is =
          let k = lo.lawful_led (outer_parts n l) h.outside (outer_some l (omega (arith, ap length is))) in
          let m : ℕ = get_or (outer_parts n l) k.0 0 in
          let led : LedBy o.beats (outer_parts n l) m = record { place = k.0; leads = k.1; is = refl } in
          elim (cases_lt (length (under n m l)) i.order) [
            | inl lt ↦
                let b = li.endless_some ends.1 (under n m l) (inside_any l h m) lt in
                chosen (m * n + b.0) (grows m b.0 led lt b.1 refl)
            | inr ge ↦
                let a = lo.endless_some ends.0 (outer_parts n l) h.outside (omega (arith, parts_length n m l, fit.order_is, fit.outer_pos)) in
                let b = inner_first in
                chosen (a.0 * n + b.0) (outward m a.0 b.0 led ge a.1 b.1 refl)
          ]

  pub over_laws : Laws (over o i)
  over_laws = record {
    between_labels = between_labels;
    one_way = one_way;
    empty_lawful = empty_lawful;
    removed_lawful = removed_lawful;
    reordered_lawful = reordered_lawful;
    lawful_short = λ l h. h.short;
    lawful_labels = λ l h. h.labels;
    lawful_led = led;
    chosen_label = chosen_label;
    chosen_beats = chosen_beats;
    chosen_lawful = chosen_lawful;
    full_none = full_none;
    endless_some = endless_some;
    in_range = over_in_range o i lo li;
  }
