-- The pass that narrows the search to one candidate, turn by turn.
use Rattle.std.proofs.Common.{◌≡◌, ℕ, ◌+◌, ◌<◌, ◌≤◌, Bool, true, false, eqb, List, map, length, get_or, Some, None, Option, sym, ap, ◌∙◌, subst, inl, inr, arith, MatchOption}
use Rattle.std.proofs.lemmas.List.{get_or-map, get_or_past}
use Rattle.std.proofs.lemmas.Bool.{cases_eq, cases_lt, false≢true, both_ways, cond_both, or_cases, or_parts, eqb-true, eqb-false}
use Rattle.std.proofs.lemmas.Option.{none-some, same_Some}
use Rattle.search.specs.Search.{LeadsFrom}
use Rattle.search.specs.Candidates.{next_best, led_by, OnlyCandidate, Narrows}
use Rattle.search.specs.declared.search.Candidate.{Candidate}

pub labelled_inside : (ls : List (Option ℕ)) (q b : ℕ) → get_or ls q None ≡ Some b → q < length ls
labelled_inside ls q b e = elim (cases_lt q (length ls)) [ inl lt ↦ lt | inr ge ↦ absurd (none-some b (sym (get_or_past ls q None ge) ∙ e)) ]

module _ (leads : ℕ → ℕ → Bool) (ls : List (Option ℕ)) where
  -- of the places below i only the candidate's can lead
  abbrev pub SoFar : ℕ → Option Candidate → Type 0
  SoFar i best = MatchOption best ((p : ℕ) → p < i → LeadsFrom leads ls p → ⊥) (λ c. (get_or ls c.place None ≡ Some c.label) × (c.place < i) × ((p : ℕ) → p < i → LeadsFrom leads ls p → p ≡ c.place))

  -- the candidate's label leads at the places below i
  abbrev pub LedSoFar : ℕ → Candidate → Type 0
  LedSoFar i c = (q b : ℕ) → q < i → (q ≡ c.place → ⊥) → get_or ls q None ≡ Some b → leads c.label b ≡ true

  -- a place without a label cannot lead
  pub unlabelled : (i : ℕ) (best : Option Candidate) → get_or ls i None ≡ None → SoFar i best → SoFar (i + 1) best
  unlabelled i None none h = λ p lt t.
      elim (cases_eq p i) [
        | inl e ↦ none-some t.label (sym none ∙ ap (λ n. get_or ls n None) (sym e) ∙ t.here)
        | inr d ↦ h p (omega arith) t
      ]
  unlabelled i (Some c) none h = (
    h.0,
    omega (arith, h.1),
    λ p lt t.
        elim (cases_eq p i) [
          | inl e ↦ absurd (none-some t.label (sym none ∙ ap (λ n. get_or ls n None) (sym e) ∙ t.here))
          | inr d ↦ h.2 p (omega arith) t
        ],
  )

  -- a label that leads the candidate takes its place: the old candidate cannot lead
  taken : ((a b : ℕ) → leads a b ≡ true → leads b a ≡ true → ⊥) → (i a : ℕ) (c : Candidate) → get_or ls i None ≡ Some a → leads a c.label ≡ true → SoFar i (Some c) → SoFar (i + 1) (Some (record { place = i; label = a }))
  taken one_way i a c here t h = (
    here,
    omega arith,
    λ p lt top.
        elim (cases_eq p i) [
          | inl e ↦ e
          | inr d ↦
              let at : p ≡ c.place = h.2 p (omega arith) top in
              let same : top.label ≡ c.label = same_Some top.label c.label (sym top.here ∙ ap (λ n. get_or ls n None) at ∙ h.0) in
              absurd (one_way a c.label t (subst (λ z. leads z a ≡ true) same (top.others i a (λ e. d (sym e)) here)))
        ],
  )

  -- a label that does not lead the candidate cannot lead
  kept : (i a : ℕ) (c : Candidate) → get_or ls i None ≡ Some a → leads a c.label ≡ false → SoFar i (Some c) → SoFar (i + 1) (Some c)
  kept i a c here f h = (
    h.0,
    omega (arith, h.1),
    λ p lt top.
        elim (cases_eq p i) [
          | inl e ↦
              let same : top.label ≡ a = same_Some top.label a (sym top.here ∙ ap (λ n. get_or ls n None) e ∙ here) in
              absurd (both_ways (leads a c.label) f (subst (λ z. leads z c.label ≡ true) same (top.others c.place c.label (λ q. omega (arith, q, e, h.1)) h.0)))
          | inr d ↦ h.2 p (omega arith) top
        ],
  )

  pub narrowed : (n : ℕ) (best : Option Candidate) → length ls ≤ n → SoFar n best → Narrows leads ls best
  narrowed n best le h = by best h
    where
      inside : (p : ℕ) → LeadsFrom leads ls p → p < n
      inside p t = omega (arith, labelled_inside ls p t.label t.here)

      by : (best : Option Candidate) → SoFar n best → Narrows leads ls best
      by None h = λ p t. h p (inside p t) t
      by (Some c) h = record { here = h.0; only = λ p t. h.2 p (inside p t) t }

  -- the candidate leads where it led at every place
  pub all_led : (c : Candidate) (n : ℕ) → length ls ≤ n → OnlyCandidate leads ls c → LedSoFar n c → LeadsFrom leads ls c.place
  all_led c n le o h = record { label = c.label; here = o.here; others = λ q b d e. h q b (omega (arith, labelled_inside ls q b e)) d e }

-- a turn of a pass, where the walk has come to the entry x at place i, which told its label or none
module _ {X : Type 0} (leads : ℕ → ℕ → Bool) (f : X → Option ℕ) (xs : List X) (i : ℕ) (x : X) (label : Option ℕ) (within : i < length xs) (is : x ≡ get_or xs i x) (told : label ≡ f x) where
  abbrev ls : List (Option ℕ)
  ls = map f xs

  pub told_here : get_or ls i None ≡ label
  told_here = get_or-map f xs i x None within ∙ ap f (sym is) ∙ sym told

  -- the next candidate
  pub next_turn : ((a b : ℕ) → leads a b ≡ true → leads b a ≡ true → ⊥) → (best next : Option Candidate) → next ≡ next_best leads i label best → SoFar leads ls i best → SoFar leads ls (i + 1) next
  next_turn one_way best next is h = subst (SoFar leads ls (i + 1)) (sym is) (by label best told_here h)
    where
      by : (label : Option ℕ) (best : Option Candidate) → get_or ls i None ≡ label → SoFar leads ls i best → SoFar leads ls (i + 1) (next_best leads i label best)
      by None best here h = unlabelled leads ls i best here h
      by (Some a) None here h = (here, omega arith, λ p lt top. elim (cases_eq p i) [ inl e ↦ e | inr d ↦ absurd (h p (omega arith) top) ])
      by (Some a) (Some c) here h = cond_both (leads a c.label) (Some (record { place = i; label = a })) (Some c) (SoFar leads ls (i + 1)) (λ t. taken leads ls one_way i a c here t h) (λ f. kept leads ls i a c here f h)

  -- the check of the candidate
  pub led_next : (c : Candidate) → true ≡ led_by leads c i label → LedSoFar leads ls i c → LedSoFar leads ls (i + 1) c
  led_next c t h q b lt d e =
      elim (cases_eq q i) [
        | inl s ↦ by label (sym t) s (sym told_here ∙ ap (λ n. get_or ls n None) (sym s) ∙ e)
        | inr n ↦ h q b (omega arith) d e
      ]
    where
      by : (label : Option ℕ) → led_by leads c i label ≡ true → q ≡ i → label ≡ Some b → leads c.label b ≡ true
      by None t s e = absurd (none-some b e)
      by (Some x) t s e =
          elim (or_cases (eqb i c.place) (leads c.label x) t) [
            | inl own ↦ absurd (d (s ∙ eqb-true i c.place own))
            | inr led ↦ subst (λ z. leads c.label z ≡ true) (same_Some x b e) led
          ]

  -- nothing leads where the candidate did not lead at some place
  pub not_led : (c : Candidate) → OnlyCandidate leads ls c → false ≡ led_by leads c i label → (p : ℕ) → LeadsFrom leads ls p → ⊥
  not_led c o f p top = by label told_here f
    where
      by : (label : Option ℕ) → get_or ls i None ≡ label → false ≡ led_by leads c i label → ⊥
      by None here f = false≢true f
      by (Some b) here f =
          let at : p ≡ c.place = o.only p top in
          let same : top.label ≡ c.label = same_Some top.label c.label (sym top.here ∙ ap (λ n. get_or ls n None) at ∙ o.here) in
          let fails = or_parts (eqb i c.place) (leads c.label b) (sym f) in
          both_ways (leads c.label b) fails.1 (subst (λ z. leads z b ≡ true) same (top.others i b (λ s. eqb-false i c.place fails.0 (s ∙ at)) here))
