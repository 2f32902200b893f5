-- A plain system whose beats is one-way and whose choice beats every entry shows the laws.
use Rattle.std.proofs.Common.{◌≡◌, ℕ, zero, suc, ◌<◌, ◌≤◌, Bool, true, ◌&&◌, ltb, List, [], ◌∷◌, ◌++◌, length, get_or, Some, None, filter, Option, sym, refl, ap, subst, inl, inr, arith}
use Rattle.std.specs.List.{remove, AllByRecursion}
use Rattle.std.specs.List.Sorted.{IsPermutation}
use Rattle.std.proofs.lemmas.Bool.{cases_eq, cond-true, cond-false, cond_both, cases_lt, and_parts, ltb-true, lt-ltb, le-ltb}
use Rattle.std.proofs.lemmas.List.{length-append}
use Rattle.std.proofs.ByRecursion.{All-push, All-get_or, All-from_get_or, all_kept_by}
use Rattle.labels.specs.System.{System, InRange, Laws, LeadsAt}
use Rattle.labels.specs.Least.{LeastChosen}
use Rattle.labels.specs.Plain.{Climbs, Distinct, ShortChain, plain, bounded}
use Rattle.labels.proofs.Tally.{tally, one_same, one_other, one_le, one_pos, Within, all_tally, tally_all, tally_at, tally_two, other_place, place_of, tally_kept, tally_removed, tally_shuffled, within_length, shuffled_from_tally}
use Rattle.labels.proofs.Leaders.{at_from_leads, tally_added}
use Rattle.labels.proofs.Exact.{some_or_none}

-- each beats all before it, step by step
abbrev Up : (ℕ → ℕ → Bool) → List ℕ → Type 0
Up beats [] = Unit {0}
Up beats (x ∷ xs) = AllByRecursion (λ y. beats y x ≡ true) xs × Up beats xs

up_from_climbs : (beats : ℕ → ℕ → Bool) (l : List ℕ) → Climbs beats l → Up beats l
up_from_climbs beats [] h = tt
up_from_climbs beats (x ∷ xs) h = (
  All-from_get_or (λ y. beats y x ≡ true) xs 0 (λ k lt. h 0 (suc k) (omega arith) (omega arith)),
  up_from_climbs beats xs (λ i j lt hj. h (suc i) (suc j) (omega arith) (omega arith)),
)

climbs_from_up : (beats : ℕ → ℕ → Bool) (l : List ℕ) → Up beats l → Climbs beats l
climbs_from_up beats [] h i j lt hj = absurd (omega arith)
climbs_from_up beats (x ∷ xs) h i zero lt hj = absurd (omega arith)
climbs_from_up beats (x ∷ xs) h zero (suc j) lt hj = All-get_or (λ y. beats y x ≡ true) xs j 0 (omega arith) h.0
climbs_from_up beats (x ∷ xs) h (suc i) (suc j) lt hj = climbs_from_up beats xs h.1 i j (omega arith) (omega arith)

up_kept : (beats : ℕ → ℕ → Bool) (p : ℕ → Bool) (l : List ℕ) → Up beats l → Up beats (filter p l)
up_kept beats p [] h = tt
up_kept beats p (x ∷ xs) h =
    cond_both (p x) (x ∷ filter p xs) (filter p xs) (Up beats) (λ _. (all_kept_by p (λ y. beats y x ≡ true) xs h.0, up_kept beats p xs h.1)) (λ _. up_kept beats p xs h.1)

up_push : (beats : ℕ → ℕ → Bool) (l : List ℕ) (x : ℕ) → Up beats l → AllByRecursion (λ y. beats x y ≡ true) l → Up beats (l ++ x ∷ [])
up_push beats [] x h a = (tt, tt)
up_push beats (y ∷ ys) x h a = (All-push (λ z. beats z y ≡ true) ys x h.0 a.0, up_push beats ys x h.1 a.1)

-- the last one leads
up_led : (beats : ℕ → ℕ → Bool) (x : ℕ) (l : List ℕ) → Up beats (x ∷ l) → (a : ℕ) × (0 < tally a (x ∷ l)) × ((b : ℕ) → 0 < tally b (x ∷ l) → (b ≡ a → ⊥) → beats a b ≡ true)
up_led beats x [] h = (x, omega (arith, one_same x), λ b p d. absurd (d (sym (one_pos x b (omega arith)))))
up_led beats x (y ∷ ys) h =
    let r = up_led beats y ys h.1 in (
      r.0,
      omega (arith, r.1),
      λ b p d.
          elim (cases_eq x b) [
            | inl e ↦ subst (λ z. beats r.0 z ≡ true) e (all_tally (λ z. beats z x ≡ true) (y ∷ ys) r.0 h.0 r.1)
            | inr n ↦ r.2 b (omega (arith, one_other x b n)) d
          ],
    )

-- distinct labels, by tallies
pub once_from_distinct : (l : List ℕ) → Distinct l → (x : ℕ) → tally x l ≤ 1
once_from_distinct l h x =
    elim (cases_lt 1 (tally x l)) [
      | inl two ↦
          let p = place_of x l (omega arith) in
          let j = other_place l p.0 p.1 (subst (λ z. 1 < tally z l) (sym p.2) two) in
          elim (cases_lt j.0 p.0) [
            | inl lt ↦ absurd (h j.0 p.0 lt p.1 j.3)
            | inr ge ↦ let lt : p.0 < j.0 = omega (arith, j.2) in absurd (h p.0 j.0 lt j.1 (sym j.3))
          ]
      | inr le ↦ le
    ]

pub distinct_from_once : (l : List ℕ) → ((x : ℕ) → tally x l ≤ 1) → Distinct l
distinct_from_once l h i j lt hj e = omega (arith, h (get_or l j 0), tally_two l i j (omega arith) hj (omega arith) e)

chain_kept : (order count : ℕ) (beats : ℕ → ℕ → Bool) (k l : List ℕ) → Within k l → ShortChain order count beats l → ShortChain order count beats k
chain_kept order count beats k l w h =
    let r = h.chain in
    let line : List ℕ = filter (λ x. ltb 0 (tally x k)) r.line in
    let once : (x : ℕ) → tally x l ≤ 1 = once_from_distinct l r.distinct in
    record {
      short = omega (arith, h.short, within_length k l w);
      chain = record {
        labels = tally_all (λ x. x < count) k (λ x p. all_tally (λ z. z < count) l x r.labels (omega (arith, w x)));
        distinct = distinct_from_once k (λ x. omega (arith, w x, once x));
        line = line;
        same = shuffled_from_tally k line (λ x.
            let a = tally_kept (λ z. ltb 0 (tally z k)) x r.line in
            let b = tally_shuffled x l r.line r.same in
            elim (cases_lt 0 (tally x k)) [
              | inl p ↦ omega (arith, w x, once x, cond-true (ltb 0 (tally x k)) (tally x r.line) 0 (lt-ltb 0 (tally x k) p))
              | inr z ↦ omega (arith, cond-false (ltb 0 (tally x k)) (tally x r.line) 0 (le-ltb 0 (tally x k) z))
            ]);
        climbs = climbs_from_up beats line (up_kept beats (λ x. ltb 0 (tally x k)) r.line (up_from_climbs beats r.line r.climbs));
      };
    }

-- what a chosen label owes: it is a label that beats every entry, beside a list that has room
pub record Given (order count : ℕ) (beats : ℕ → ℕ → Bool) (l : List ℕ) (x : ℕ) : Type 0 where
  pub room : length l < order
  pub label : x < count
  pub beats_all : AllByRecursion (λ y. beats x y ≡ true) l

-- what a plain system owes
pub record Duties (order count : ℕ) (beats : ℕ → ℕ → Bool) (choice : List ℕ → Option ℕ) (endless : Bool) : Type 0 where
  pub in_range : InRange (plain order count beats choice endless)
  pub one_way : (a b : ℕ) → a < count → b < count → beats a b ≡ true → beats b a ≡ true → ⊥
  pub chosen : (l : List ℕ) (x : ℕ) → choice l ≡ Some x → Given order count (bounded count beats) l x
  -- a list of labels with room left always has a choice
  pub some : endless ≡ true → (l : List ℕ) → length l < order → AllByRecursion (λ y. y < count) l → choice l ≡ None → ⊥

module _ (order count : ℕ) (beats : ℕ → ℕ → Bool) (choice : List ℕ → Option ℕ) (endless : Bool) (s : Duties order count beats choice endless) where
  abbrev bounds : ℕ → ℕ → Bool
  bounds = bounded count beats

  parts : (a b : ℕ) → bounds a b ≡ true → (a < count) × (b < count) × (beats a b ≡ true)
  parts a b e =
      let p = and_parts (ltb a count && ltb b count) (beats a b) e in
      let q = and_parts (ltb a count) (ltb b count) p.0 in
      (ltb-true a count q.0, ltb-true b count q.1, p.1)

  one_way : (a b : ℕ) → bounds a b ≡ true → bounds b a ≡ true → ⊥
  one_way a b e f = let p = parts a b e in s.one_way a b p.0 p.1 p.2 (parts b a f).2

  led : (l : List ℕ) → ShortChain order count bounds l → 0 < length l → (k : ℕ) × LeadsAt bounds l k
  led l h pos = go h.chain.line h.chain.same (up_from_climbs bounds h.chain.line h.chain.climbs)
    where
      go : (line : List ℕ) → IsPermutation l line → Up bounds line → (k : ℕ) × LeadsAt bounds l k
      go [] same up = absurd (omega (arith, tally_at l 0 pos, tally_shuffled (get_or l 0 0) l [] same))
      go (x ∷ xs) same up =
          let r = up_led bounds x xs up in
          let found = at_from_leads bounds l r.0 (record {
            single = omega (arith, r.1, tally_shuffled r.0 l (x ∷ xs) same, once_from_distinct l h.chain.distinct r.0);
            ahead = λ b p d. r.2 b (omega (arith, tally_shuffled b l (x ∷ xs) same)) d;
          }) in
          (found.0, found.1)

  chosen_lawful : (l : List ℕ) (x : ℕ) → choice l ≡ Some x → ShortChain order count bounds l → ShortChain order count bounds (l ++ x ∷ [])
  chosen_lawful l x e h =
      let c = h.chain in
      let p = s.chosen l x e in
      let a = p.beats_all in
      let new : (y : ℕ) → tally y (l ++ x ∷ []) ≤ 1 = λ y.
      elim (cases_eq x y) [
        | inl q ↦
            elim (cases_lt 0 (tally x l)) [
              | inl p ↦ let self = all_tally (λ z. bounds x z ≡ true) l x a p in absurd (one_way x x self self)
              | inr z ↦ omega (arith, tally_added x y l, one_le x y, ap (λ w. tally w l) q)
            ]
        | inr d ↦ omega (arith, tally_added x y l, one_other x y d, once_from_distinct l c.distinct y)
      ] in
      record {
        short = omega (arith, p.room, length-append l (x ∷ []));
        chain = record {
          labels = All-push (λ z. z < count) l x c.labels p.label;
          distinct = distinct_from_once (l ++ x ∷ []) new;
          line = c.line ++ x ∷ [];
          same = shuffled_from_tally (l ++ x ∷ []) (c.line ++ x ∷ []) (λ y. omega (arith, tally_added x y l, tally_added x y c.line, tally_shuffled y l c.line c.same));
          climbs = climbs_from_up bounds (c.line ++ x ∷ []) (up_push bounds c.line x (up_from_climbs bounds c.line c.climbs) (tally_all (λ y. bounds x y ≡ true) c.line (λ y p. all_tally (λ z. bounds x z ≡ true) l y a (omega (arith, tally_shuffled y l c.line c.same)))));
        };
      }

  full_none : (l : List ℕ) → order ≤ length l → choice l ≡ None
  full_none l h = elim (some_or_none (choice l)) [ inl n ↦ n | inr p ↦ absurd (omega (arith, (s.chosen l p.0 p.1).room)) ]

  endless_some : endless ≡ true → (l : List ℕ) → ShortChain order count bounds l → length l < order → (x : ℕ) × (choice l ≡ Some x)
  endless_some e l h lt = elim (some_or_none (choice l)) [ inl n ↦ absurd (s.some e l lt h.chain.labels n) | inr p ↦ p ]

  pub lawful_plain : Laws (plain order count beats choice endless)
  lawful_plain = record {
    between_labels = λ a b e. let p = parts a b e in (p.0, p.1);
    one_way = one_way;
    empty_lawful = record {
      short = omega arith;
      chain = record { labels = tt; distinct = λ i j lt hj e. omega arith; line = []; same = shuffled_from_tally [] [] (λ x. refl); climbs = λ i j lt hj. absurd (omega arith) };
    };
    removed_lawful = λ l k lt h. chain_kept order count bounds (remove l k) l (λ x. omega (arith, tally_removed x l k lt)) h;
    reordered_lawful = λ l m p h. chain_kept order count bounds m l (λ x. omega (arith, tally_shuffled x l m p)) h;
    lawful_short = λ l h. h.short;
    lawful_labels = λ l h. h.chain.labels;
    lawful_led = led;
    chosen_label = λ l x e. (s.chosen l x e).label;
    chosen_beats = λ l x e h. (s.chosen l x e).beats_all;
    chosen_lawful = chosen_lawful;
    full_none = full_none;
    endless_some = endless_some;
    in_range = s.in_range;
  }

-- a least choice is such a label
pub given_from_least : (s : System) (l : List ℕ) (x : ℕ) → LeastChosen s l x → Given s.order s.count s.beats l x
given_from_least s l x h = record { room = h.room; label = h.label; beats_all = h.beats_all }
