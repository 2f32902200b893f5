-- What the definition of the leading place amounts to, and that what a relation finds is what the definition gives.
use Rattle.std.proofs.Common.{◌≡◌, ℕ, zero, suc, ◌+◌, ◌-◌, ◌<◌, ◌≤◌, Bool, true, cond, ◌||◌, eqb, ltb, List, [], ◌∷◌, length, get_or, Some, None, Option, sym, refl, ap, ◌∙◌, subst, inl, inr, arith, MatchOption}
use Rattle.std.specs.List.{remove}
use Rattle.std.proofs.lemmas.Bool.{cases_Bool, cases_eq, cases_lt, lt-ltb, le-ltb, cond-true, cond-false, and_parts, and_from, or_cases, or_left, or_right, eqb-true, eq-eqb}
use Rattle.std.proofs.lemmas.List.Edits.{get_or-remove_below, get_or-remove_above, length-remove}
use Rattle.labels.specs.System.{System, Laws, LeadsAt}
use Rattle.std.proofs.lemmas.Option.{none-some, same_Some}
use Rattle.labels.proofs.Exact.{some_or_none}
use Rattle.search.proofs.Passes.{labelled_inside}
use Rattle.search.specs.Candidates.{IsLeading}
use Rattle.search.specs.Search.{leads_rest, first_leading, leading_place, LeadsFrom, Finds, labels_in, FoundWhereLawful, head_of, tail_of}

-- a place one further on
one_on : (k q : ℕ) → k + 1 + q ≡ k + suc q
one_on k q = omega arith

-- the test of the rest, by places
rest_gives : (leads : ℕ → ℕ → Bool) (a p k : ℕ) (ls : List (Option ℕ)) → leads_rest leads a p k ls ≡ true → (q b : ℕ) → (k + q ≡ p → ⊥) → get_or ls q None ≡ Some b → leads a b ≡ true
rest_gives leads a p k [] e q b d h = absurd (none-some b h)
rest_gives leads a p k (None ∷ ls) e zero b d h = absurd (none-some b h)
rest_gives leads a p k (None ∷ ls) e (suc q) b d h = rest_gives leads a p (k + 1) ls e q b (λ s. d (omega (arith, s))) h
rest_gives leads a p k (Some c ∷ ls) e zero b d h =
    let s = same_Some c b h in
    elim (or_cases (eqb k p) (leads a c) (and_parts (eqb k p || leads a c) (leads_rest leads a p (k + 1) ls) e).0) [
      | inl t ↦ absurd (d (omega (arith, eqb-true k p t)))
      | inr t ↦ subst (λ z. leads a z ≡ true) s t
    ]
rest_gives leads a p k (Some c ∷ ls) e (suc q) b d h =
    rest_gives leads a p (k + 1) ls (and_parts (eqb k p || leads a c) (leads_rest leads a p (k + 1) ls) e).1 q b (λ s. d (omega (arith, s))) h

rest_from : (leads : ℕ → ℕ → Bool) (a p k : ℕ) (ls : List (Option ℕ)) → ((q b : ℕ) → (k + q ≡ p → ⊥) → get_or ls q None ≡ Some b → leads a b ≡ true) → leads_rest leads a p k ls ≡ true
rest_from leads a p k [] h = refl
rest_from leads a p k (None ∷ ls) h = rest_from leads a p (k + 1) ls (λ q b d e. h (suc q) b (λ s. d (omega (arith, s))) e)
rest_from leads a p k (Some c ∷ ls) h =
    and_from (eqb k p || leads a c) (leads_rest leads a p (k + 1) ls)
    (elim (cases_eq k p) [ inl s ↦ or_left (eqb k p) (leads a c) (eq-eqb k p s) | inr d ↦ or_right (eqb k p) (leads a c) (h 0 c (λ s. d (omega (arith, s))) refl) ])
    (rest_from leads a p (k + 1) ls (λ q b d e. h (suc q) b (λ s. d (omega (arith, s))) e))

module _ (leads : ℕ → ℕ → Bool) (all : List (Option ℕ)) where
  -- the first place that leads stands where the definition says
  first_found : (k : ℕ) (ls : List (Option ℕ)) (p : ℕ) → ((q : ℕ) → get_or all (k + q) None ≡ get_or ls q None) → first_leading leads all k ls ≡ Some p → LeadsFrom leads all p
  first_found k [] p same e = absurd (none-some p e)
  first_found k (None ∷ ls) p same e = first_found (k + 1) ls p (λ q. ap (λ n. get_or all n None) (one_on k q) ∙ same (suc q)) e
  first_found k (Some a ∷ ls) p same e =
      elim (cases_Bool (leads_rest leads a k 0 all)) [
        | inl t ↦
            let s : k ≡ p = same_Some k p (sym (cond-true (leads_rest leads a k 0 all) (Some k) (first_leading leads all (k + 1) ls) t) ∙ e) in
            subst (LeadsFrom leads all) s (record {
              label = a;
              here = ap (λ n. get_or all n None) start ∙ same 0;
              others = λ q b d h. rest_gives leads a k 0 all t q b (λ z. d (omega (arith, z))) h;
            })
        | inr f ↦ first_found (k + 1) ls p (λ q. ap (λ n. get_or all n None) (one_on k q) ∙ same (suc q)) (sym (cond-false (leads_rest leads a k 0 all) (Some k) (first_leading leads all (k + 1) ls) f) ∙ e)
      ]
    where
      start : k ≡ k + 0
      start = omega arith

  -- a place that leads is not passed over
  first_finds : (k : ℕ) (ls : List (Option ℕ)) (q a : ℕ) → get_or ls q None ≡ Some a → leads_rest leads a (k + q) 0 all ≡ true → first_leading leads all k ls ≡ None → ⊥
  first_finds k [] q a here t e = none-some a here
  first_finds k (None ∷ ls) zero a here t e = none-some a here
  first_finds k (None ∷ ls) (suc q) a here t e = first_finds (k + 1) ls q a here (ap (λ n. leads_rest leads a n 0 all) (one_on k q) ∙ t) e
  first_finds k (Some c ∷ ls) zero a here t e =
      let s = same_Some c a here in
      let u : leads_rest leads c k 0 all ≡ true = ap (λ z. leads_rest leads z k 0 all) s ∙ ap (λ n. leads_rest leads a n 0 all) start ∙ t in
      none-some k (sym e ∙ cond-true (leads_rest leads c k 0 all) (Some k) (first_leading leads all (k + 1) ls) u)
    where
      start : k ≡ k + 0
      start = omega arith
  first_finds k (Some c ∷ ls) (suc q) a here t e =
      elim (cases_Bool (leads_rest leads c k 0 all)) [
        | inl u ↦ none-some k (sym e ∙ cond-true (leads_rest leads c k 0 all) (Some k) (first_leading leads all (k + 1) ls) u)
        | inr f ↦ first_finds (k + 1) ls q a here (ap (λ n. leads_rest leads a n 0 all) (one_on k q) ∙ t) (sym (cond-false (leads_rest leads c k 0 all) (Some k) (first_leading leads all (k + 1) ls) f) ∙ e)
      ]

module _ (leads : ℕ → ℕ → Bool) (one_way : (a b : ℕ) → leads a b ≡ true → leads b a ≡ true → ⊥) (ls : List (Option ℕ)) where
  pub only_one : (p q : ℕ) → LeadsFrom leads ls p → LeadsFrom leads ls q → p ≡ q
  only_one p q hp hq =
      elim (cases_eq p q) [
        | inl e ↦ e
        | inr d ↦ absurd (one_way hp.label hq.label (hp.others q hq.label (λ e. d (sym e)) hq.here) (hq.others p hp.label d hp.here))
      ]

  none_leads : leading_place leads ls ≡ None → (p : ℕ) → LeadsFrom leads ls p → ⊥
  none_leads e p h =
      let start : 0 + p ≡ p = omega arith in
      first_finds leads ls 0 ls p h.label h.here (ap (λ n. leads_rest leads h.label n 0 ls) start ∙ rest_from leads h.label p 0 ls (λ q b d. h.others q b (λ s. d (omega (arith, s))))) e

  found_leads : (p : ℕ) → leading_place leads ls ≡ Some p → LeadsFrom leads ls p
  found_leads p e = first_found leads ls 0 ls p (λ q. let s : 0 + q ≡ q = omega arith in ap (λ n. get_or ls n None) s) e

  -- a search that finds a place that leads, or shows that there is none, gives what the definition gives
  pub is_leading_place : (r : Option ℕ) → MatchOption r ((p : ℕ) → LeadsFrom leads ls p → ⊥) (LeadsFrom leads ls) → r ≡ leading_place leads ls
  is_leading_place None h = elim (some_or_none (leading_place leads ls)) [ inl e ↦ sym e | inr p ↦ absurd (h p.0 (found_leads p.0 p.1)) ]
  is_leading_place (Some p) h =
      elim (some_or_none (leading_place leads ls)) [
        | inl e ↦ absurd (none_leads e p h)
        | inr q ↦ ap Some (only_one p q.0 h (found_leads q.0 q.1)) ∙ sym q.1
      ]

  pub finds : (r : Option ℕ) → r ≡ leading_place leads ls → Finds leads ls r
  finds r is = record {
    found = λ p e. found_leads p (sym is ∙ e);
    within = λ p e. let h = found_leads p (sym is ∙ e) in labelled_inside ls p h.label h.here;
    only = only_one;
    none_found = λ e. none_leads (sym is ∙ e);
  }

-- the k-th label stands at a place of the buffer, and every label stands at a place among the labels
place_of_label : (ls : List (Option ℕ)) (k : ℕ) → k < length (labels_in ls) → (p : ℕ) × (get_or ls p None ≡ Some (get_or (labels_in ls) k 0)) × ((q b : ℕ) → (q ≡ p → ⊥) → get_or ls q None ≡ Some b → (j : ℕ) × (j < length (labels_in ls)) × (j ≡ k → ⊥) × (get_or (labels_in ls) j 0 ≡ b))
place_of_label [] k h = absurd (omega arith)
place_of_label (None ∷ ls) k h =
    let r = place_of_label ls k h in
    (suc r.0, r.1, others r.0 r.2)
  where
    others : (p : ℕ) → ((q b : ℕ) → (q ≡ p → ⊥) → get_or ls q None ≡ Some b → (j : ℕ) × (j < length (labels_in ls)) × (j ≡ k → ⊥) × (get_or (labels_in ls) j 0 ≡ b)) → (q b : ℕ) → (q ≡ suc p → ⊥) → get_or (None ∷ ls) q None ≡ Some b → (j : ℕ) × (j < length (labels_in ls)) × (j ≡ k → ⊥) × (get_or (labels_in ls) j 0 ≡ b)
    others p r zero b d e = absurd (none-some b e)
    others p r (suc q) b d e = r q b (λ s. d (ap suc s)) e
place_of_label (Some a ∷ ls) zero h = (0, refl, others)
  where
    any : (ls : List (Option ℕ)) (q b : ℕ) → get_or ls q None ≡ Some b → (j : ℕ) × (j < length (labels_in ls)) × (get_or (labels_in ls) j 0 ≡ b)
    any [] q b e = absurd (none-some b e)
    any (None ∷ ls) zero b e = absurd (none-some b e)
    any (None ∷ ls) (suc q) b e = any ls q b e
    any (Some c ∷ ls) zero b e = (0, omega arith, same_Some c b e)
    any (Some c ∷ ls) (suc q) b e = let r = any ls q b e in (suc r.0, omega (arith, r.1), r.2)

    others : (q b : ℕ) → (q ≡ 0 → ⊥) → get_or (Some a ∷ ls) q None ≡ Some b → (j : ℕ) × (j < length (a ∷ labels_in ls)) × (j ≡ 0 → ⊥) × (get_or (a ∷ labels_in ls) j 0 ≡ b)
    others zero b d e = absurd (d refl)
    others (suc q) b d e = let r = any ls q b e in (suc r.0, omega (arith, r.1), (λ s. omega (arith, s)), r.2)
place_of_label (Some a ∷ ls) (suc k) h =
    let r = place_of_label ls k (omega arith) in
    (suc r.0, r.1, others r.0 r.2)
  where
    others : (p : ℕ) → ((q b : ℕ) → (q ≡ p → ⊥) → get_or ls q None ≡ Some b → (j : ℕ) × (j < length (labels_in ls)) × (j ≡ k → ⊥) × (get_or (labels_in ls) j 0 ≡ b)) → (q b : ℕ) → (q ≡ suc p → ⊥) → get_or (Some a ∷ ls) q None ≡ Some b → (j : ℕ) × (j < length (a ∷ labels_in ls)) × (j ≡ suc k → ⊥) × (get_or (a ∷ labels_in ls) j 0 ≡ b)
    others p r zero b d e = (0, omega arith, (λ s. omega (arith, s)), same_Some a b e)
    others p r (suc q) b d e = let j = r q b (λ s. d (ap suc s)) e in (suc j.0, omega (arith, j.1), (λ s. j.2 (omega (arith, s))), j.3)

-- a place among the labels that leads all others there leads in the buffer, so that the search finds a place
found_from_labels : (leads : ℕ → ℕ → Bool) → ((a b : ℕ) → leads a b ≡ true → leads b a ≡ true → ⊥) → (ls : List (Option ℕ)) (k : ℕ) → LeadsAt leads (labels_in ls) k → leading_place leads ls ≡ None → ⊥
found_from_labels leads one_way ls k h none =
    let p = place_of_label ls k h.within in
    none_leads leads one_way ls none p.0 (record {
      label = get_or (labels_in ls) k 0;
      here = p.1;
      others = λ q b d e.
          let j = p.2 q b d e in
          subst (λ z. leads (get_or (labels_in ls) k 0) z ≡ true) j.3 (h.beats_others j.0 j.1 j.2);
    })

pub head_where_lawful : (s : System) → Laws s → (ls : List (Option ℕ)) (r : Option ℕ) → r ≡ head_of s ls → FoundWhereLawful s ls r
head_where_lawful s laws ls r is lawful some none =
    let k = laws.lawful_led (labels_in ls) lawful some in
    found_from_labels s.beats laws.one_way ls k.0 k.1 (sym is ∙ none)

-- the place in l of place i of what is left of l without place p
abbrev past_gap : ℕ → ℕ → ℕ
past_gap p i = cond (ltb i p) i (i + 1)

module _ (l : List ℕ) (p : ℕ) (within : p < length l) where
  whole_place : (i : ℕ) → i < length (remove l p) → (past_gap p i < length l) × (past_gap p i ≡ p → ⊥) × (get_or (remove l p) i 0 ≡ get_or l (past_gap p i) 0)
  whole_place i lt =
      let size = length-remove l p within in
      elim (cases_lt i p) [
        | inl below ↦
            let e : past_gap p i ≡ i = cond-true (ltb i p) i (i + 1) (lt-ltb i p below) in
            (omega arith, omega arith, get_or-remove_below l p 0 i below within ∙ ap (λ n. get_or l n 0) (sym e))
        | inr above ↦
            let e : past_gap p i ≡ i + 1 = cond-false (ltb i p) i (i + 1) (le-ltb i p above) in
            (omega arith, omega arith, get_or-remove_above l p 0 i above within ∙ ap (λ n. get_or l n 0) (sym e))
      ]

  left_place : (j : ℕ) → j < length l → (j ≡ p → ⊥) → (i : ℕ) × (i < length (remove l p)) × (past_gap p i ≡ j)
  left_place j lt d =
      let size = length-remove l p within in
      elim (cases_lt j p) [
        | inl below ↦ (j, omega arith, cond-true (ltb j p) j (j + 1) (lt-ltb j p below))
        | inr above ↦
            let past : p ≤ j - 1 = omega (arith, d) in
            (j - 1, omega (arith, d), cond-false (ltb (j - 1) p) (j - 1) (j - 1 + 1) (le-ltb (j - 1) p past) ∙ omega (arith, d))
      ]

  -- the lowest of what is left is the lowest, since the leader beats it too
  lowest_of_left : (beats : ℕ → ℕ → Bool) → LeadsAt beats l p → (i : ℕ) → LeadsAt (λ a b. beats b a) (remove l p) i → LeadsAt (λ a b. beats b a) l (past_gap p i)
  lowest_of_left beats leader i low =
      let k = whole_place i low.within in
      record { within = k.0; beats_others = λ j lt d. elim (cases_eq j p) [ inl e ↦ by_leader j e k.0 k.1 | inr other ↦ by_left j (left_place j lt other) d ] }
    where
      by_leader : (j : ℕ) → j ≡ p → past_gap p i < length l → (past_gap p i ≡ p → ⊥) → beats (get_or l j 0) (get_or l (past_gap p i) 0) ≡ true
      by_leader j e lt d = ap (λ z. beats (get_or l z 0) (get_or l (past_gap p i) 0)) e ∙ leader.beats_others (past_gap p i) lt d

      by_left : (j : ℕ) → (m : ℕ) × (m < length (remove l p)) × (past_gap p m ≡ j) → (j ≡ past_gap p i → ⊥) → beats (get_or l j 0) (get_or l (past_gap p i) 0) ≡ true
      by_left j m d =
          ap (λ z. beats (get_or l z 0) (get_or l (past_gap p i) 0)) (sym m.2)
          ∙ ap (λ z. beats z (get_or l (past_gap p i) 0)) (sym (whole_place m.0 m.1).2)
          ∙ ap (beats (get_or (remove l p) m.0 0)) (sym (whole_place i low.within).2)
          ∙ low.beats_others m.0 m.1 (λ e. d (sym m.2 ∙ ap (past_gap p) e))

lowest : (s : System) → Laws s → (n : ℕ) (l : List ℕ) → length l ≡ suc n → s.lawful l → (k : ℕ) × LeadsAt (λ a b. s.beats b a) l k
lowest s laws zero l len lawful = (0, record { within = omega arith; beats_others = λ j lt d. absurd (d (omega arith)) })
lowest s laws (suc n) l len lawful =
    let led = laws.lawful_led l lawful (omega arith) in
    let within = led.1.within in
    let size = length-remove l led.0 within in
    let low = lowest s laws n (remove l led.0) (omega arith) (laws.removed_lawful l led.0 within lawful) in
    (past_gap led.0 low.0, lowest_of_left l led.0 within s.beats led.1 low.0 low.1)

pub tail_where_lawful : (s : System) → Laws s → (ls : List (Option ℕ)) (r : Option ℕ) → r ≡ tail_of s ls → FoundWhereLawful s ls r
tail_where_lawful s laws ls r is lawful some none =
    let e : length (labels_in ls) ≡ suc (length (labels_in ls) - 1) = omega arith in
    let k = lowest s laws (length (labels_in ls) - 1) (labels_in ls) e lawful in
    found_from_labels (λ a b. s.beats b a) (λ a b. laws.one_way b a) ls k.0 k.1 (sym is ∙ none)

-- what a search gives where it finds a place that leads, or that none does
searched : (s : System) (leads : ℕ → ℕ → Bool) → ((a b : ℕ) → leads a b ≡ true → leads b a ≡ true → ⊥) → ((ls : List (Option ℕ)) (r : Option ℕ) → r ≡ leading_place leads ls → FoundWhereLawful s ls r) → (ls : List (Option ℕ)) (r : Option ℕ) → IsLeading leads ls r → (r ≡ leading_place leads ls) × Finds leads ls r × FoundWhereLawful s ls r
searched s leads one_way where_lawful ls r h =
    let is = is_leading_place leads one_way ls r h in
    (is, finds leads one_way ls r is, where_lawful ls r is)

pub head_searched : (s : System) → Laws s → (ls : List (Option ℕ)) (r : Option ℕ) → IsLeading s.beats ls r → (r ≡ head_of s ls) × Finds s.beats ls r × FoundWhereLawful s ls r
head_searched s laws = searched s s.beats laws.one_way (head_where_lawful s laws)

pub tail_searched : (s : System) → Laws s → (ls : List (Option ℕ)) (r : Option ℕ) → IsLeading (λ a b. s.beats b a) ls r → (r ≡ tail_of s ls) × Finds (λ a b. s.beats b a) ls r × FoundWhereLawful s ls r
tail_searched s laws = searched s (λ a b. s.beats b a) (λ a b. laws.one_way b a) (tail_where_lawful s laws)
