-- The labels held in a rolling group stay lawful, so that every newcomer's label beats them.
use Rattle.std.proofs.Common.{◌≡◌, ℕ, zero, suc, ◌+◌, ◌-◌, ◌<◌, ◌≤◌, true, List, [], ◌∷◌, ◌++◌, length, get_or, drop, Some, None, Option, sym, refl, ap, ◌∙◌, subst, inl, inr, add-one, arith}
use Rattle.std.specs.List.{AllByRecursion}
use Rattle.std.proofs.lemmas.List.{length-append, length-drop, drop-drop, drop-append-le, get_or-drop, get_or_append_left, get_or_at}
use Rattle.std.proofs.ByRecursion.{All-get_or}
use Rattle.std.proofs.lemmas.Bool.{cases_lt, cases_eq}
use Rattle.labels.specs.System.{System, Laws}
use Rattle.rolling.specs.Rolling.{latest, added, rolled, Rolled}

length_latest : (n : ℕ) (l : List ℕ) → length (latest n l) ≤ n
length_latest n l = omega (arith, length-drop (length l - n) l)

-- with one entry more, the last n are the old ones and that entry, less the first of them where they were n
latest_grown : (n : ℕ) (l : List ℕ) (x : ℕ) → length l < n → latest n (l ++ x ∷ []) ≡ latest n l ++ x ∷ []
latest_grown n l x lt =
    let e : length (l ++ x ∷ []) - n ≡ 0 = omega (arith, length-append l (x ∷ [])) in
    let d : length l - n ≡ 0 = omega arith in
    ap (λ k. drop k (l ++ x ∷ [])) e ∙ sym (ap (λ k. drop k l ++ x ∷ []) d)

latest_moved : (n : ℕ) (l : List ℕ) (x : ℕ) → n ≤ length l → latest n (l ++ x ∷ []) ≡ drop 1 (latest n l ++ x ∷ [])
latest_moved n l x le =
    let a : ℕ = length l - n in
    let e : length (l ++ x ∷ []) - n ≡ a + 1 = omega (arith, length-append l (x ∷ [])) in
    ap (λ k. drop k (l ++ x ∷ [])) e ∙ sym (drop-drop 1 a (l ++ x ∷ [])) ∙ ap (drop 1) (drop-append-le a l (x ∷ []) (omega arith))

-- a round without a choice is the last to change anything
rolled_stays : (s : System) (n m : ℕ) → s.choice (latest (s.order - 1) (rolled s n)) ≡ None → n ≤ m → rolled s m ≡ rolled s n
rolled_stays s n zero none le = let e : zero ≡ n = omega arith in ap (rolled s) e
rolled_stays s n (suc m) none le =
    elim (cases_eq n (suc m)) [
      | inl e ↦ ap (rolled s) (sym e)
      | inr d ↦
          let h = rolled_stays s n m none (omega arith) in
          ap (λ l. added l (s.choice (latest (s.order - 1) l))) h ∙ ap (added (rolled s n)) none
    ]

module _ (s : System) (laws : Laws s) where
  abbrev held : List ℕ → List ℕ
  held given = latest (s.order - 1) given

  held_grown : (given : List ℕ) (x : ℕ) → s.lawful (held given ++ x ∷ []) → s.lawful (held (given ++ x ∷ []))
  held_grown given x h =
      elim (cases_lt (length given) (s.order - 1)) [
        | inl lt ↦ subst s.lawful (sym (latest_grown (s.order - 1) given x lt)) h
        | inr ge ↦ subst s.lawful (sym (latest_moved (s.order - 1) given x ge)) (laws.removed_lawful (held given ++ x ∷ []) 0 (omega (arith, length-append (held given) (x ∷ []))) h)
      ]

  held_added : (given : List ℕ) (r : Option ℕ) → s.choice (held given) ≡ r → s.lawful (held given) → s.lawful (held (added given r))
  held_added given None e h = h
  held_added given (Some x) e h = held_grown given x (laws.chosen_lawful (held given) x e h)

  held_lawful : (n : ℕ) → s.lawful (held (rolled s n))
  held_lawful zero = let e : 0 - (s.order - 1) ≡ 0 = omega arith in rw e laws.empty_lawful
  held_lawful (suc n) = held_added (rolled s n) (s.choice (held (rolled s n))) refl (held_lawful n)

  abbrev NewerBeats : List ℕ → Type 0
  NewerBeats given = (i j : ℕ) → i < j → j < length given → j < i + s.order → s.beats (get_or given j 0) (get_or given i 0) ≡ true

  newest_beats : (given : List ℕ) (x : ℕ) → AllByRecursion (λ y. s.beats x y ≡ true) (held given) → (i : ℕ) → i < length given → length given < i + s.order → s.beats x (get_or given i 0) ≡ true
  newest_beats given x all i within near =
      let start : ℕ = length given - (s.order - 1) in
      let e : start + (i - start) ≡ i = omega arith in
      subst (λ y. s.beats x y ≡ true) (get_or-drop start given (i - start) 0 ∙ ap (λ k. get_or given k 0) e) (All-get_or (λ y. s.beats x y ≡ true) (held given) (i - start) 0 (omega (arith, length-drop start given)) all)

  beats_added : (given : List ℕ) (r : Option ℕ) → s.choice (held given) ≡ r → s.lawful (held given) → NewerBeats given → NewerBeats (added given r)
  beats_added given None e h b i j lt within near = b i j lt within near
  beats_added given (Some x) e h b i j lt within near =
      let size = length-append given (x ∷ []) in
      let old : get_or (given ++ x ∷ []) i 0 ≡ get_or given i 0 = get_or_append_left given (x ∷ []) 0 i (omega arith) in
      elim (cases_eq j (length given)) [
        | inl last ↦
            let new : get_or (given ++ x ∷ []) j 0 ≡ x = get_or_at given x [] 0 j (sym last) in
            rw (new, old) (newest_beats given x (laws.chosen_beats (held given) x e h) i (omega arith) (omega arith))
        | inr d ↦
            let kept : get_or (given ++ x ∷ []) j 0 ≡ get_or given j 0 = get_or_append_left given (x ∷ []) 0 j (omega arith) in
            rw (kept, old) (b i j lt (omega arith) near)
      ]

  rolled_beats : (n : ℕ) → NewerBeats (rolled s n)
  rolled_beats zero i j lt within near = absurd (omega arith)
  rolled_beats (suc n) i j lt within near = beats_added (rolled s n) (s.choice (held (rolled s n))) refl (held_lawful n) (rolled_beats n) i j lt within near

  rolled_length : s.endless ≡ true → 0 < s.order → (n : ℕ) → length (rolled s n) ≡ n
  rolled_length on pos zero = refl
  rolled_length on pos (suc n) =
      let p = laws.endless_some on (held (rolled s n)) (held_lawful n) (omega (arith, length_latest (s.order - 1) (rolled s n))) in
      ap (λ r. length (added (rolled s n) r)) p.1 ∙ length-append (rolled s n) (p.0 ∷ []) ∙ omega (arith, rolled_length on pos n)

  pub all_rounds : (n : ℕ) (given : List ℕ) → given ≡ rolled s n → Rolled s n given
  all_rounds n given e = record {
    by_choice = e;
    newer_beats = subst NewerBeats (sym e) (rolled_beats n);
    never_spent = λ on pos. ap length e ∙ rolled_length on pos n;
  }

-- a turn of the code's loop: slice is what was given, held the part that is cut off, r the choice for it
module _ (s : System) (n : ℕ) (items slice held : List ℕ) (r : Option ℕ) (choice : r ≡ s.choice held) (part : held ≡ latest (s.order - 1) slice) (whole : slice ≡ items) (so_far : items ≡ rolled s n) where
  choice_is : s.choice (latest (s.order - 1) (rolled s n)) ≡ r
  choice_is = sym (choice ∙ ap s.choice (part ∙ ap (latest (s.order - 1)) (whole ∙ so_far)))

  pub next_round : (x : ℕ) (more : List ℕ) → r ≡ Some x → more ≡ items ++ x ∷ [] → more ≡ rolled s (n + 1)
  next_round x more is grown = grown ∙ ap (λ l. l ++ x ∷ []) so_far ∙ sym (ap (rolled s) (add-one n) ∙ ap (added (rolled s n)) (choice_is ∙ is))

  pub last_round : (m : ℕ) → r ≡ None → n ≤ m → items ≡ rolled s m
  last_round m is le = so_far ∙ sym (rolled_stays s n m (choice_is ∙ is) le)
