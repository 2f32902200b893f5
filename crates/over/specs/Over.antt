-- One label system over another. In what follows the outer system o has order g and count G, the inner system i has
-- order h and count H, and a label is outer part × H + inner part.
use Rattle.std.specs.Prelude.{ℕ, ◌+◌, ◌-◌, ◌*◌, ◌/◌, ◌%◌, ◌^◌, ◌<◌, ◌≤◌, Bool, cond, not, ◌&&◌, ◌||◌, List, [], ◌∷◌, map, length, Some, None, filter, Option, ◌==◌, nat_eq, nat_le, nat_lt}
use Rattle.std.specs.List.{AllByRecursion, list_all}
use Rattle.labels.specs.System.{System}
use Rattle.labels.specs.Plain.{takes_one_more}

-- the entries of a list, each once, in order of first appearance
abbrev pub firsts : List ℕ → List ℕ
firsts [] = []
firsts (x ∷ xs) = x ∷ filter (λ y. not (y == x)) (firsts xs)

-- the distinct outer parts of the listed labels
abbrev pub outer_parts : ℕ → List ℕ → List ℕ
outer_parts H l = firsts (map (λ x. x / H) l)

-- the inner parts of those listed labels that have the outer part m, repeats counted
abbrev pub under : ℕ → ℕ → List ℕ → List ℕ
under H m l = map (λ x. x % H) (filter (λ x. nat_eq (x / H) m) l)

-- whether x beats every other member
abbrev pub beats_others : (ℕ → ℕ → Bool) → ℕ → List ℕ → Bool
beats_others beats x l = list_all (λ y. (y == x) || beats x y) l

abbrev pub first_that : (ℕ → Bool) → List ℕ → Option ℕ
first_that test [] = None
first_that test (x ∷ xs) = cond (test x) (Some x) (first_that test xs)

-- the member that beats every other, or none
abbrev pub leader : (ℕ → ℕ → Bool) → List ℕ → Option ℕ
leader beats l = first_that (λ x. beats_others beats x l) l

-- the label of two parts, or none where one of them is none
abbrev pub joined : ℕ → Option ℕ → Option ℕ → Option ℕ
joined H (Some a) (Some b) = Some (a * H + b)
joined H (Some a) None = None
joined H None b = None

-- whether the two fit together: both orders are at least 1, and neither range is exceeded
abbrev pub fits : System → System → Bool
fits o i = nat_lt 0 o.order && nat_lt 0 i.order && nat_le (o.order + i.order - 1) 20 && nat_le (o.count * i.count) (2 ^ 28)

abbrev pub over_order : System → System → ℕ
over_order o i = cond (fits o i) (o.order + i.order - 1) 0

abbrev pub over_count : System → System → ℕ
over_count o i = cond (fits o i) (o.count * i.count) 0

-- a label beats another when its outer part does, or the outer parts are equal and its inner part does
abbrev pub over_beats : System → System → ℕ → ℕ → Bool
over_beats o i a b =
    nat_lt a (over_count o i) && nat_lt b (over_count o i) && (o.beats (a / i.count) (b / i.count) || (a / i.count == b / i.count && i.beats (a % i.count) (b % i.count)))

pub record OverLawful (o i : System) (l : List ℕ) : Type 0 where
  pub short : length l ≤ over_order o i
  pub labels : AllByRecursion (λ x. x < over_count o i) l
  pub outside : o.lawful (outer_parts i.count l)
  pub inside : AllByRecursion (λ m. i.lawful (under i.count m l)) (outer_parts i.count l)

-- where m leads the outer parts: the group under m grows while it is not full, else the choice goes outward
abbrev pub beside_leader : System → System → List ℕ → Option ℕ → Option ℕ
beside_leader o i l None = None
beside_leader o i l (Some m) =
    cond (nat_lt (length (under i.count m l)) i.order) (joined i.count (Some m) (i.choice (under i.count m l))) (joined i.count (o.choice (outer_parts i.count l)) (i.choice []))

-- where nothing is listed, both parts are first choices
abbrev pub by_parts : System → System → List ℕ → Option ℕ
by_parts o i l =
    cond (length l == 0) (joined i.count (o.choice []) (i.choice [])) (beside_leader o i l (leader o.beats (outer_parts i.count l)))

abbrev pub over_choice : System → System → List ℕ → Option ℕ
over_choice o i l = cond (takes_one_more (over_order o i) (over_count o i) l) (by_parts o i l) None

abbrev pub over : System → System → System
over o i = record {
  order = over_order o i;
  count = over_count o i;
  beats = over_beats o i;
  lawful = OverLawful o i;
  choice = over_choice o i;
  endless = o.endless && i.endless;
}
