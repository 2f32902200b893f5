-- Where a list takes one more, it is short, and every label that is joined from two parts is small.
use Rattle.std.proofs.Common.{◌≡◌, ℕ, ◌^◌, ◌<◌, ◌≤◌, true, false, eqb, List, length, get_or, IfSome, Some, None, Option, sym, ap, ◌∙◌, subst, arith}
use Rattle.std.specs.List.{AllByRecursion}
use Rattle.std.proofs.lemmas.Bool.{eqb-false}
use Rattle.std.proofs.ByRecursion.{All-get_or}
use Rattle.labels.specs.System.{System, Laws}
use Rattle.labels.specs.Plain.{takes_one_more}
use Rattle.labels.proofs.Tally.{all_tally}
use Rattle.labels.proofs.Walks.{room_and_labels}
use Rattle.over.specs.Over.{outer_parts, leader, joined, over_order, over_count}
use Rattle.over.proofs.Parts.{outer_from, leader_some}
use Rattle.over.proofs.Sizes.{Fitting, room_fits, inner_pos, outer_label, made_label}

-- a part that is a label, if there is one
abbrev pub LabelOf : System → Option ℕ → Type 0
LabelOf s p = IfSome p (λ a. a < s.count)

pub chosen_part : (s : System) → Laws s → (l : List ℕ) (p : Option ℕ) → p ≡ s.choice l → LabelOf s p
chosen_part s laws l None e = tt
chosen_part s laws l (Some a) e = laws.chosen_label l a (sym e)

-- two systems with their laws
pub record Two : Type 1 where
  pub o : System
  pub i : System
  pub lo : Laws o
  pub li : Laws i

-- what the code knows of a list once it has asked whether the list takes one more
pub record Begun (t : Two) (order count width : ℕ) (l : List ℕ) : Type 0 where
  pub order_is : order ≡ over_order t.o t.i
  pub count_is : count ≡ over_count t.o t.i
  pub width_is : width ≡ t.i.count
  pub free : true ≡ takes_one_more order count l

module _ {t : Two} {order count width : ℕ} {l : List ℕ} (b : Begun t order count width l) where
  abbrev o : System
  o = t.o

  abbrev i : System
  i = t.i

  lo : Laws o
  lo = t.lo

  li : Laws i
  li = t.li

  room : length l < over_order o i
  room = omega (arith, (room_and_labels order count l (sym b.free)).0, b.order_is)

  labels : AllByRecursion (λ y. y < over_count o i) l
  labels = subst (λ n. AllByRecursion (λ y. y < n) l) b.count_is (room_and_labels order count l (sym b.free)).1

  fit : Fitting o i
  fit = room_fits o i lo li l room

  pub short_and_wide : false ≡ eqb (length l) 0 → (length l ≤ 20) × (0 < width)
  short_and_wide some =
      let pos : 0 < length l = omega (arith, eqb-false (length l) 0 (sym some)) in
      (omega (arith, room, fit.order_le), omega (arith, b.width_is, inner_pos o i lo li (get_or l 0 0) (All-get_or (λ y. y < over_count o i) l 0 0 pos labels)))

  pub joined_small : (p q : Option ℕ) → LabelOf o p → LabelOf i q → IfSome (joined width p q) (λ x. x < 2 ^ 28)
  joined_small None q hp hq = tt
  joined_small (Some x) None hp hq = tt
  joined_small (Some x) (Some y) hp hq = rw b.width_is (omega (arith, made_label o i lo li x y fit hp hq, fit.count_le))

  pub leader_part : (m : ℕ) (slice parts : List ℕ) → Some m ≡ leader o.beats slice → slice ≡ parts → parts ≡ outer_parts width l → LabelOf o (Some m)
  leader_part m slice parts e is_Slice is-parts =
      let D : List ℕ = outer_parts i.count l in
      let at : slice ≡ D = is_Slice ∙ is-parts ∙ ap (λ n. outer_parts n l) b.width_is in
      let x = outer_from i.count m l (leader_some o.beats D m (ap (leader o.beats) (sym at) ∙ sym e)).0 in
      rw x.2 at (outer_label o i lo li x.0 (all_tally (λ y. y < over_count o i) l x.0 labels x.1))

  -- two choices joined, and the leading part joined with a choice
  pub chosen_small : (p q : Option ℕ) (k j : List ℕ) → p ≡ o.choice k → q ≡ i.choice j → IfSome (joined width p q) (λ x. x < 2 ^ 28)
  chosen_small p q k j ep eq = joined_small p q (chosen_part o lo k p ep) (chosen_part i li j q eq)

  pub grown_small : (m : ℕ) (slice parts : List ℕ) (q : Option ℕ) (j : List ℕ) → Some m ≡ leader o.beats slice → slice ≡ parts → parts ≡ outer_parts width l → q ≡ i.choice j → IfSome (joined width (Some m) q) (λ x. x < 2 ^ 28)
  grown_small m slice parts q j e is_Slice is-parts eq = joined_small (Some m) q (leader_part m slice parts e is_Slice is-parts) (chosen_part i li j q eq)
