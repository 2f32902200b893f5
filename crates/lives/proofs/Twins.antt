-- Two stations opened with equal seats and then given the same calls: each seat's stays are alike in both.
use Rattle.std.proofs.Common.{◌≡◌, ℕ, ◌+◌, ◌≤◌, Bool, true, false, cond, eqb, List, [], ◌∷◌, length, is_some, Some, None, Option, sym, refl, ap, ◌∙◌, subst, ⊎_elim, arith}
use Rattle.std.proofs.lemmas.Bool.{cases_eq, ne_eqb}
use Rattle.std.proofs.lemmas.Option.{none-some}
use Rattle.labels.specs.System.{System}
use Rattle.station.specs.declared.call.Call.{Call}
use Rattle.station.specs.declared.call.Call.TheVariants.{Write}
use Rattle.lives.specs.History.{Moment, History, Event, event, seats, holder, Stay, Stays, Change, comes, goes, same, stays, waiting, standing, someone}
use Rattle.lives.specs.Answers.{Nobody, Longest, Latest, InForce, Compared, Begins}

-- One seat's stay in both stations, opened at the moments a and b: it began equally long after the opening, with the same call.
abbrev pub Pair : ℕ → ℕ → Option Stay → Option Stay → Type 0
Pair a b None None = Unit {0}
Pair a b None (Some w) = ⊥
Pair a b (Some v) None = ⊥
Pair a b (Some v) (Some w) = (v.since + b ≡ w.since + a) × (v.by ≡ w.by)

-- each seat's stays are a pair
abbrev pub Pairs : ℕ → ℕ → Stays → Stays → Type 0
Pairs a b f g = (seat : ℕ) → Pair a b (f seat) (g seat)

-- two histories that tell the same since the openings, but for labels
pub record Twin (s u : System) (a b : ℕ) (past then : History) : Type 0 where
  pub seats_same : seats past ≡ seats then
  pub some : 1 ≤ seats past
  pub holder_same : holder past ≡ holder then
  pub clock : length past + b ≡ length then + a
  pub line : Pairs a b (waiting s past) (waiting u then)
  pub register : Pairs a b (standing s past) (standing u then)

-- Pairs

-- a seat has a stay in both or in neither
pub pair_isSome : (a b : ℕ) (o p : Option Stay) → Pair a b o p → is_some o ≡ is_some p
pair_isSome a b None None h = refl
pair_isSome a b None (Some w) h = absurd h
pair_isSome a b (Some v) None h = absurd h
pair_isSome a b (Some v) (Some w) h = refl

-- a stay in the first has its fellow in the second
pair_there : (a b : ℕ) (o p : Option Stay) (v : Stay) → Pair a b o p → o ≡ Some v
    → (w : Stay) × (p ≡ Some w) × (v.since + b ≡ w.since + a) × (v.by ≡ w.by)
pair_there a b None p v h e = absurd (none-some _ e)
pair_there a b (Some x) None v h e = absurd h
pair_there a b (Some x) (Some w) v h e =
    let d : x ≡ v = cc in
    (w, refl, subst (λ (y : Stay). y.since + b ≡ w.since + a) d h.0, subst (λ (y : Stay). y.by ≡ w.by) d h.1)

-- a stay in the second has its fellow in the first
pair_back : (a b : ℕ) (o p : Option Stay) (w : Stay) → Pair a b o p → p ≡ Some w → (v : Stay) × (o ≡ Some v) × (v.since + b ≡ w.since + a)
pair_back a b o None w h e = absurd (none-some _ e)
pair_back a b None (Some x) w h e = absurd h
pair_back a b (Some v) (Some x) w h e =
    let d : x ≡ w = cc in
    (v, refl, subst (λ (y : Stay). v.since + b ≡ y.since + a) d h.0)

-- two seats without a stay are a pair
pub pair_none : (a b : ℕ) (o p : Option Stay) → o ≡ None → p ≡ None → Pair a b o p
pair_none a b o p e d = rw (e, d) tt

-- two stays begun equally late with the same call are a pair
pair_some : (a b : ℕ) (o p : Option Stay) (v w : Stay) → o ≡ Some v → p ≡ Some w → v.since + b ≡ w.since + a → v.by ≡ w.by → Pair a b o p
pair_some a b o p v w e d since by = rw (e, d) (since, by)

-- a pair remains one where a test may end both stays
pair_ended : (a b : ℕ) (t : Bool) (o p : Option Stay) → Pair a b o p → Pair a b (cond t None o) (cond t None p)
pair_ended a b true o p h = tt
pair_ended a b false o p h = h

module _ (a b : ℕ) (f g : Stays) (pairs : Pairs a b f g) where
  -- one of the seats has a stay in both or in neither
  pub someone_same : (l : List ℕ) → someone f l ≡ someone g l
  someone_same [] = refl
  someone_same (seat ∷ l) = rw (pair_isSome a b (f seat) (g seat) (pairs seat), someone_same l)

  -- where the first has no stay, the second has none
  nobody_there : (seat : ℕ) (w : Stay) → Nobody f → g seat ≡ Some w → ⊥
  nobody_there seat w nobody e =
      let (v, there, _) = pair_back a b (f seat) (g seat) w (pairs seat) e in
      none-some _ (sym (nobody seat) ∙ there)

  -- where the second has no stay, the first has none
  nobody_back : (seat : ℕ) (v : Stay) → Nobody g → f seat ≡ Some v → ⊥
  nobody_back seat v nobody e =
      let (w, there, _, _) = pair_there a b (f seat) (g seat) v (pairs seat) e in
      none-some _ (sym (nobody seat) ∙ there)

  -- the stay that has lasted longest is the same seat's in both
  pub longest_same : (i j : ℕ) → Longest f i → Longest g j → i ≡ j
  longest_same i j l m = ⊎_elim {C = i ≡ j} (λ is. is) (λ ne. absurd (clash ne)) (cases_eq i j)
    where
      clash : (i ≡ j → ⊥) → ⊥
      clash ne =
          let (w, there, c, _) = pair_there a b (f i) (g i) l.stay (pairs i) l.here in
          let (v, back, d) = pair_back a b (f j) (g j) m.stay (pairs j) m.here in
          let x = l.first j v back (λ is. ne (sym is)) in
          let y = m.first i w there ne in
          omega arith

  -- the stay that began last is the same seat's in both, and began with the same call
  pub latest_same : (i j : ℕ) (c d : Call) → Latest f i c → Latest g j d → (i ≡ j) × (c ≡ d)
  latest_same i j c d l m = ⊎_elim {C = (i ≡ j) × (c ≡ d)} (λ is. (is, calls is)) (λ ne. absurd (clash ne)) (cases_eq i j)
    where
      calls : i ≡ j → c ≡ d
      calls is =
          let (w, there, _, by) = pair_there a b (f i) (g i) l.stay (pairs i) l.here in
          let here = m.here in
          let at_i : g i ≡ Some m.stay = cc in
          let one : w ≡ m.stay = cc in
          sym l.by ∙ by ∙ ap (λ (y : Stay). y.by) one ∙ m.by

      clash : (i ≡ j → ⊥) → ⊥
      clash ne =
          let (w, there, e, _) = pair_there a b (f i) (g i) l.stay (pairs i) l.here in
          let (v, back, k) = pair_back a b (f j) (g j) m.stay (pairs j) m.here in
          let x = l.last j v back (λ is. ne (sym is)) in
          let y = m.last i w there ne in
          omega arith

  -- the same map is in force
  pub in_force_same : (o p : Option ℕ) → InForce f o → InForce g p → o ≡ p
  in_force_same None None x y = refl
  in_force_same None (Some n) x (j, y) = absurd (nobody_there j y.stay x y.here)
  in_force_same (Some m) None (i, x) y = absurd (nobody_back i x.stay y x.here)
  in_force_same (Some m) (Some n) (i, x) (j, y) =
      let (_, one) = latest_same i j (Write i m) (Write j n) x y in
      let maps : m ≡ n = cc in
      ap Some maps

  -- comparisons have the same verdict
  pub compared_same : (i j : ℕ) (x y : Bool) → Compared f i j x → Compared g i j y → x ≡ y
  compared_same i j x y l m =
      let (v, e, c, _) = pair_there a b (f i) (g i) l.one (pairs i) l.one_here in
      let (w, k, d, _) = pair_there a b (f j) (g j) l.other (pairs j) l.other_here in
      let here = m.one_here in
      let there = m.other_here in
      let same-v : v ≡ m.one = cc in
      let same_w : w ≡ m.other = cc in
      let since-v = ap (λ (z : Stay). z.since) same-v in
      let since-w = ap (λ (z : Stay). z.since) same_w in
      same_bool x y (λ is. m.right.1 (let z = l.right.0 is in omega arith)) (λ is. l.right.1 (let z = m.right.0 is in omega arith))
    where
      same_bool : (x y : Bool) → (x ≡ true → y ≡ true) → (y ≡ true → x ≡ true) → x ≡ y
      same_bool true y there back = sym (there refl)
      same_bool false true there back = back refl
      same_bool false false there back = refl

module _ (s u : System) (change : Event → Change) (beside : Stays → ℕ → Stays) (a b : ℕ) (past then : History) (m k : Moment) where
  -- one seat's stays after the two moments
  abbrev After : ℕ → Type 0
  After seat = Pair a b (stays s change beside (m ∷ past) seat) (stays u change beside (k ∷ then) seat)

  -- after the same event by the same call the stays are pairs again, if what comes is there from now on
  pub pairs_after : Pairs a b (stays s change beside past) (stays u change beside then) → event m ≡ event k → m.call ≡ k.call
      → length past + b ≡ length then + a → Begins (stays s change beside) change past m → Begins (stays u change beside) change then k
      → (seat : ℕ) → After seat
  pairs_after pairs events calls clock begins-s begins-u seat = go (change (event m)) refl (ap change (sym events))
    where
      new : (i : ℕ) → change (event m) ≡ comes i → change (event k) ≡ comes i → i ≡ seat → After seat
      new i e d is =
          let (v, here-v, since-v, by-v) = begins-s seat (e ∙ ap comes is) in
          let (w, here-w, since-w, by-w) = begins-u seat (d ∙ ap comes is) in
          pair_some a b (stays s change beside (m ∷ past) seat) (stays u change beside (k ∷ then) seat) v w here-v here-w (omega arith) (by-v ∙ calls ∙ sym by-w)

      old : (i : ℕ) → change (event m) ≡ comes i → change (event k) ≡ comes i → (i ≡ seat → ⊥) → After seat
      old i e d ne = rw (e, d, ne_eqb i seat ne) (pairs seat)

      go : (c : Change) → change (event m) ≡ c → change (event k) ≡ c → After seat
      go same e d = rw (e, d) (pairs seat)
      go (goes i) e d = rw (e, d) (pair_ended a b (eqb i seat) (stays s change beside past seat) (stays u change beside then seat) (pairs seat))
      go (comes i) e d = ⊎_elim {C = After seat} (new i e d) (old i e d) (cases_eq i seat)
