-- The outer parts of a list, and the inner parts under one of them, by tallies.
use Rattle.std.proofs.Common.{◌≡◌, ℕ, ◌+◌, ◌*◌, ◌/◌, ◌%◌, ◌<◌, ◌≤◌, Bool, true, not, ◌||◌, eqb, ◌⊎◌, List, [], ◌∷◌, ◌++◌, map, length, Some, filter, sym, refl, ap, ◌∙◌, subst, inl, inr, mod-lt, div-add-mod', arith}
use lib.Arith.{digits_div, digits_mod}
use Rattle.std.proofs.lemmas.Bool.{cases_eq, cases_Bool, eqb-true, eq-eqb, ne_eqb, cond-true, cond-false, cases_lt, both_ways, or_cases, or_left, or_right}
use Rattle.std.proofs.lemmas.List.Sums.{length-filter, count_by-le-length}
use Rattle.over.specs.Over.{firsts, outer_parts, under, beats_others, first_that, leader}
use Rattle.labels.proofs.Tally.{one, tally, one_is, one_other, tally_kept, Within, tally_map, tally_map_from, nil_from_tally, all_tally, tally_all}
use Rattle.labels.proofs.Leaders.{Leads, tally_added}
use Rattle.labels.proofs.Walks.{all_from_tests, tests_from_all}

pub tally_firsts_le : (x : ℕ) (l : List ℕ) → tally x (firsts l) ≤ 1
tally_firsts_le x [] = omega arith
tally_firsts_le x (y ∷ ys) =
    let h = tally_firsts_le x ys in
    let k = tally_kept (λ z. not (eqb z y)) x (firsts ys) in
    grind (arith, one_is y x, one_other y x)

pub firsts_has : (x : ℕ) (l : List ℕ) → 0 < tally x l → 0 < tally x (firsts l)
firsts_has x [] p = omega arith
firsts_has x (y ∷ ys) p =
    let h : 0 < tally x ys → 0 < tally x (firsts ys) = firsts_has x ys in
    let k = tally_kept (λ z. not (eqb z y)) x (firsts ys) in
    grind (arith, one_is y x, one_other y x)

pub firsts_from : (x : ℕ) (l : List ℕ) → 0 < tally x (firsts l) → 0 < tally x l
firsts_from x [] p = omega arith
firsts_from x (y ∷ ys) p =
    let h : 0 < tally x (firsts ys) → 0 < tally x ys = firsts_from x ys in
    let k = tally_kept (λ z. not (eqb z y)) x (firsts ys) in
    grind (arith, one_is y x, one_other y x)

module _ (n : ℕ) where
  pub outer_has : (x : ℕ) (l : List ℕ) → 0 < tally x l → 0 < tally (x / n) (outer_parts n l)
  outer_has x l h = firsts_has (x / n) (map (λ y. y / n) l) (tally_map (λ y. y / n) x l h)

  pub outer_from : (m : ℕ) (l : List ℕ) → 0 < tally m (outer_parts n l) → (x : ℕ) × (0 < tally x l) × (x / n ≡ m)
  outer_from m l h = tally_map_from (λ y. y / n) m l (firsts_from m (map (λ y. y / n) l) h)

  pub outer_once : (m : ℕ) (l : List ℕ) → tally m (outer_parts n l) ≤ 1
  outer_once m l = tally_firsts_le m (map (λ y. y / n) l)

  pub outer_within : (k l : List ℕ) → Within k l → Within (outer_parts n k) (outer_parts n l)
  outer_within k l w m =
      elim (cases_lt 0 (tally m (outer_parts n k))) [
        | inl p ↦
            let x = outer_from m k p in
            let q : 0 < tally (x.0 / n) (outer_parts n l) = outer_has x.0 l (omega (arith, w x.0, x.1)) in
            let q' : 0 < tally m (outer_parts n l) = rw x.2 at q in
            omega (arith, outer_once m k)
        | inr z ↦ omega arith
      ]

-- z under m is the label m * n + z
one_under : (n m z y : ℕ) → z < n → y / n ≡ m → one (y % n) z ≡ one y (m * n + z)
one_under n m z y lt e =
    elim (cases_eq (y % n) z) [
      | inl q ↦ one_is (y % n) z q ∙ sym (one_is y (m * n + z) (sym (div-add-mod' y n) ∙ ap (λ a. a * n + y % n) e ∙ ap (λ b. m * n + b) q))
      | inr d ↦ one_other (y % n) z d ∙ sym (one_other y (m * n + z) (λ q. d (ap (λ a. a % n) q ∙ digits_mod m lt)))
    ]

one_elsewhere : (n m z y : ℕ) → z < n → (y / n ≡ m → ⊥) → one y (m * n + z) ≡ 0
one_elsewhere n m z y lt d = one_other y (m * n + z) (λ q. d (ap (λ a. a / n) q ∙ digits_div m lt))

under_cons_here : (n m y : ℕ) (ys : List ℕ) → y / n ≡ m → under n m (y ∷ ys) ≡ y % n ∷ under n m ys
under_cons_here n m y ys e = ap (map (λ x. x % n)) (cond-true (eqb (y / n) m) (y ∷ filter (λ x. eqb (x / n) m) ys) (filter (λ x. eqb (x / n) m) ys) (eq-eqb (y / n) m e))

under_cons_elsewhere : (n m y : ℕ) (ys : List ℕ) → (y / n ≡ m → ⊥) → under n m (y ∷ ys) ≡ under n m ys
under_cons_elsewhere n m y ys d = ap (map (λ x. x % n)) (cond-false (eqb (y / n) m) (y ∷ filter (λ x. eqb (x / n) m) ys) (filter (λ x. eqb (x / n) m) ys) (ne_eqb (y / n) m d))

pub tally_under : (n m z : ℕ) (l : List ℕ) → z < n → tally z (under n m l) ≡ tally (m * n + z) l
tally_under n m z [] lt = refl
tally_under n m z (y ∷ ys) lt =
    let h = tally_under n m z ys lt in
    elim (cases_eq (y / n) m) [
      | inl e ↦ ap (tally z) (under_cons_here n m y ys e) ∙ omega (arith, one_under n m z y lt e)
      | inr d ↦ ap (tally z) (under_cons_elsewhere n m y ys d) ∙ omega (arith, one_elsewhere n m z y lt d)
    ]

pub under_below : (n m z : ℕ) (l : List ℕ) → 0 < n → 0 < tally z (under n m l) → z < n
under_below n m z l pos h =
    let p = tally_map_from (λ x. x % n) z (filter (λ x. eqb (x / n) m) l) h in
    subst (λ a. a < n) p.2 (mod-lt p.0 pos)

pub under_within : (n m : ℕ) (k l : List ℕ) → 0 < n → Within k l → Within (under n m k) (under n m l)
under_within n m k l pos w z =
    elim (cases_lt 0 (tally z (under n m k))) [
      | inl p ↦
          let lt = under_below n m z k pos p in
          omega (arith, tally_under n m z k lt, tally_under n m z l lt, w (m * n + z))
      | inr q ↦ omega arith
    ]

-- the label x of l is, under its outer part, its inner part
pub under_has : (n x : ℕ) (l : List ℕ) → 0 < n → 0 < tally x l → 0 < tally (x % n) (under n (x / n) l)
under_has n x l pos h =
    let e = tally_under n (x / n) (x % n) l (mod-lt x pos) in
    let f : tally (x / n * n + x % n) l ≡ tally x l = ap (λ a. tally a l) (div-add-mod' x n) in
    omega arith

-- no outer part, no inner parts
pub under_none : (n m : ℕ) (l : List ℕ) → tally m (outer_parts n l) ≡ 0 → under n m l ≡ []
under_none n m l none = nil_from_tally (under n m l) (λ z. at z (cases_lt 0 (tally z (under n m l))))
  where
    at : (z : ℕ) → (0 < tally z (under n m l)) ⊎ (tally z (under n m l) ≤ 0) → tally z (under n m l) ≡ 0
    at z (inr le) = omega arith
    at z (inl p) =
        let x = tally_map_from (λ y. y % n) z (filter (λ y. eqb (y / n) m) l) p in
        let k = tally_kept (λ y. eqb (y / n) m) x.0 l in
        elim (cases_eq (x.0 / n) m) [
          | inl e ↦
              let q = outer_has n x.0 l (omega (arith, x.1, cond-true (eqb (x.0 / n) m) (tally x.0 l) 0 (eq-eqb (x.0 / n) m e))) in
              let q' : 0 < tally m (outer_parts n l) = rw e at q in
              omega arith
          | inr d ↦ omega (arith, x.1, cond-false (eqb (x.0 / n) m) (tally x.0 l) 0 (ne_eqb (x.0 / n) m d))
        ]

-- a kept list is no longer
pub kept_short : (p : ℕ → Bool) (l : List ℕ) → length (filter p l) ≤ length l
kept_short p l = omega (arith, length-filter p l, count_by-le-length p l)

kept_both : (p q : ℕ → Bool) (l : List ℕ) → length (filter p (filter q l)) ≤ length (filter p l)
kept_both p q [] = omega arith
kept_both p q (y ∷ ys) = let h = kept_both p q ys in grind arith

-- all members but m
abbrev pub but : ℕ → List ℕ → List ℕ
but m l = filter (λ z. not (eqb z m)) l

but_cons_here : (m x : ℕ) (l : List ℕ) → x ≡ m → but m (x ∷ l) ≡ but m l
but_cons_here m x l e = cond-false (not (eqb x m)) (x ∷ but m l) (but m l) (ap not (eq-eqb x m e))

but_cons_other : (m x : ℕ) (l : List ℕ) → (x ≡ m → ⊥) → but m (x ∷ l) ≡ x ∷ but m l
but_cons_other m x l d = cond-true (not (eqb x m)) (x ∷ but m l) (but m l) (ap not (ne_eqb x m d))

pub length_but : (m : ℕ) (l : List ℕ) → length l ≡ tally m l + length (but m l)
length_but m [] = refl
length_but m (y ∷ ys) =
    let h = length_but m ys in
    elim (cases_eq y m) [
      | inl e ↦ omega (arith, one_is y m e, ap length (but_cons_here m y ys e))
      | inr d ↦ omega (arith, one_other y m d, ap length (but_cons_other m y ys d))
    ]

-- each label is under m, or gives another outer part, or neither
parts_but : (n m : ℕ) (l : List ℕ) → length (under n m l) + length (but m (outer_parts n l)) ≤ length l
parts_but n m [] = omega arith
parts_but n m (y ∷ ys) =
    let h = parts_but n m ys in
    let D : List ℕ = outer_parts n ys in
    let k = kept_both (λ z. not (eqb z m)) (λ z. not (eqb z (y / n))) D in
    elim (cases_eq (y / n) m) [
      | inl e ↦ omega (arith, ap length (under_cons_here n m y ys e), ap length (but_cons_here m (y / n) (but (y / n) D) e))
      | inr d ↦ omega (arith, ap length (under_cons_elsewhere n m y ys d), ap length (but_cons_other m (y / n) (but (y / n) D) d))
    ]

pub parts_length : (n m : ℕ) (l : List ℕ) → length (under n m l) + length (outer_parts n l) ≤ length l + 1
parts_length n m l = omega (arith, parts_but n m l, length_but m (outer_parts n l), outer_once n m l)

-- the search for the leader
pub first_that_some : (test : ℕ → Bool) (l : List ℕ) (x : ℕ) → first_that test l ≡ Some x → (test x ≡ true) × (0 < tally x l)
first_that_some test [] x e = let z : ◌≡◌ {A = ℕ} 0 1 = cc in absurd (omega arith)
first_that_some test (y ∷ ys) x e =
    elim (cases_Bool (test y)) [
      | inl t ↦
          let s : y ≡ x = cc (cond-true (test y) (Some y) (first_that test ys) t) in
          (subst (λ z. test z ≡ true) s t, omega (arith, one_is y x s))
      | inr f ↦
          let r = first_that_some test ys x (sym (cond-false (test y) (Some y) (first_that test ys) f) ∙ e) in
          (r.0, omega (arith, r.1))
    ]

pub first_that_finds : (test : ℕ → Bool) (l : List ℕ) (x : ℕ) → test x ≡ true → 0 < tally x l → (y : ℕ) × (first_that test l ≡ Some y)
first_that_finds test [] x t h = absurd (omega arith)
first_that_finds test (y ∷ ys) x t h =
    elim (cases_Bool (test y)) [
      | inl u ↦ (y, cond-true (test y) (Some y) (first_that test ys) u)
      | inr f ↦
          let d : y ≡ x → ⊥ = λ e. both_ways (test y) f (ap test e ∙ t) in
          let r = first_that_finds test ys x t (omega (arith, one_other y x d)) in
          (r.0, cond-false (test y) (Some y) (first_that test ys) f ∙ r.1)
    ]

pub beats_others_gives : (beats : ℕ → ℕ → Bool) (x : ℕ) (l : List ℕ) → beats_others beats x l ≡ true → (y : ℕ) → 0 < tally y l → (y ≡ x → ⊥) → beats x y ≡ true
beats_others_gives beats x l h y p d =
    elim (or_cases (eqb y x) (beats x y) (all_tally (λ z. (eqb z x || beats x z) ≡ true) l y (all_from_tests (λ z. eqb z x || beats x z) l h) p)) [
      | inl q ↦ absurd (d (eqb-true y x q))
      | inr b ↦ b
    ]

pub beats_others_from : (beats : ℕ → ℕ → Bool) (x : ℕ) (l : List ℕ) → ((y : ℕ) → 0 < tally y l → (y ≡ x → ⊥) → beats x y ≡ true) → beats_others beats x l ≡ true
beats_others_from beats x l h = tests_from_all (λ z. eqb z x || beats x z) l (tally_all (λ z. (eqb z x || beats x z) ≡ true) l (λ y p.
    elim (cases_eq y x) [ inl e ↦ or_left (eqb y x) (beats x y) (eq-eqb y x e) | inr d ↦ or_right (eqb y x) (beats x y) (h y p d) ]))

pub leader_some : (beats : ℕ → ℕ → Bool) (l : List ℕ) (x : ℕ) → leader beats l ≡ Some x → (0 < tally x l) × ((y : ℕ) → 0 < tally y l → (y ≡ x → ⊥) → beats x y ≡ true)
leader_some beats l x e =
    let r = first_that_some (λ y. beats_others beats y l) l x e in
    (r.1, beats_others_gives beats x l r.0)

pub leader_finds : (beats : ℕ → ℕ → Bool) (l : List ℕ) (a : ℕ) → Leads beats l a → (y : ℕ) × (leader beats l ≡ Some y)
leader_finds beats l a h =
    first_that_finds (λ y. beats_others beats y l) l a (beats_others_from beats a l h.ahead) (omega (arith, h.single))

-- one label more
pub outer_added : (n x y : ℕ) (l : List ℕ) → 0 < tally y (outer_parts n (l ++ x ∷ [])) → (0 < tally y (outer_parts n l)) ⊎ (x / n ≡ y)
outer_added n x y l h =
    let z = outer_from n y (l ++ x ∷ []) h in
    elim (cases_eq x z.0) [
      | inl e ↦ inr (ap (λ a. a / n) e ∙ z.2)
      | inr d ↦
          let q : 0 < tally (z.0 / n) (outer_parts n l) = outer_has n z.0 l (omega (arith, z.1, tally_added x z.0 l, one_other x z.0 d)) in
          inl (rw z.2 at q)
    ]

one_shift : (n a b z : ℕ) → b < n → z < n → one (a * n + b) (a * n + z) ≡ one b z
one_shift n a b z hb hz =
    elim (cases_eq b z) [
      | inl e ↦ one_is (a * n + b) (a * n + z) (ap (λ w. a * n + w) e) ∙ sym (one_is b z e)
      | inr d ↦ one_other (a * n + b) (a * n + z) (λ e. d (omega (arith, e))) ∙ sym (one_other b z d)
    ]

pub under_added : (n a b : ℕ) (l : List ℕ) → b < n → Within (under n a (l ++ (a * n + b) ∷ [])) (under n a l ++ b ∷ [])
under_added n a b l hb z =
    elim (cases_lt 0 (tally z (under n a (l ++ (a * n + b) ∷ [])))) [
      | inl p ↦
          let lt = under_below n a z (l ++ (a * n + b) ∷ []) (omega arith) p in
          omega (arith, tally_under n a z (l ++ (a * n + b) ∷ []) lt, tally_under n a z l lt, tally_added (a * n + b) (a * n + z) l, tally_added b z (under n a l), one_shift n a b z hb lt)
      | inr q ↦ omega arith
    ]

pub under_added_elsewhere : (n a b m : ℕ) (l : List ℕ) → b < n → (a ≡ m → ⊥) → Within (under n m (l ++ (a * n + b) ∷ [])) (under n m l)
under_added_elsewhere n a b m l hb d z =
    elim (cases_lt 0 (tally z (under n m (l ++ (a * n + b) ∷ [])))) [
      | inl p ↦
          let lt = under_below n m z (l ++ (a * n + b) ∷ []) (omega arith) p in
          omega (arith, tally_under n m z (l ++ (a * n + b) ∷ []) lt, tally_under n m z l lt, tally_added (a * n + b) (m * n + z) l, one_elsewhere n m z (a * n + b) lt (λ e. d (sym (digits_div a hb) ∙ e)))
      | inr q ↦ omega arith
    ]
