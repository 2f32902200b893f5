-- Rows laid out one by one, and what a search reads off them.
use Rattle.std.proofs.Common.{◌≡◌, ℕ, zero, suc, ◌+◌, ◌-◌, ◌<◌, ◌≤◌, true, leb, List, [], ◌∷◌, map, length, get_or, take, set, Some, None, Option, refl, ap, ◌∙◌, arith}
use Rattle.std.proofs.lemmas.List.{take_all, length-map, length-set, map-set}
use Rattle.std.proofs.Math.Seq.{take-set-lt}
use Rattle.std.proofs.lemmas.Bool.{and_from, le-leb}
use Rattle.station.specs.declared.row.Row.{Row}
use Rattle.station.specs.Table.{Table, seated}
use Rattle.search.specs.Search.{labels_in}
use Rattle.station.specs.Layout.{laid_out}

module _ {X : Type 0} (make : ℕ → Row → X) where
  pub laid_entries : {Y : Type 0} (f : X → Y) (g : Row → Y) → ((n : ℕ) (row : Row) → f (make n row) ≡ g row) → (k : ℕ) (t : Table) → map f (laid_out make k t) ≡ map g t
  laid_entries f g same k [] = refl
  laid_entries f g same k (row ∷ t) = ap (λ y. y ∷ map f (laid_out make (k + 1) t)) (same k row) ∙ ap (λ l. g row ∷ l) (laid_entries f g same (k + 1) t)

  pub length_laid_out : (k : ℕ) (t : Table) → length (laid_out make k t) ≡ length t
  length_laid_out k [] = refl
  length_laid_out k (row ∷ t) = ap suc (length_laid_out (k + 1) t)

  pub laid_at : (k : ℕ) (t : Table) (i : ℕ) (d : X) (e : Row) → i < length t → get_or (laid_out make k t) i d ≡ make (i + k) (get_or t i e)
  laid_at k [] i d e lt = absurd (omega arith)
  laid_at k (row ∷ t) zero d e lt = ap (λ n. make n row) none_on
    where
      none_on : k ≡ 0 + k
      none_on = omega arith
  laid_at k (row ∷ t) (suc i) d e lt = laid_at (k + 1) t i d e (omega arith) ∙ ap (λ n. make n (get_or t i e)) one_on
    where
      one_on : i + (k + 1) ≡ suc i + k
      one_on = omega arith

-- what rows laid out tell of their labels is what the seats tell
pub entries_of : {X : Type 0} (make : ℕ → Row → X) (f : X → Option ℕ) (g : Row → Option ℕ) → ((n : ℕ) (row : Row) → f (make n row) ≡ g row) → (t : Table) (rows : List X) → rows ≡ laid_out make 1 t → map f rows ≡ map g t
entries_of make f g same t rows is = ap (map f) is ∙ laid_entries make f g same 1 t

pub seated_at : (t : Table) (k : ℕ) → k < length t → seated t (k + 1) ≡ true
seated_at t k lt = and_from (leb 1 (k + 1)) (leb (k + 1) (length t)) (le-leb 1 (k + 1) (omega arith)) (le-leb (k + 1) (length t) (omega arith))

-- the labels that are listed for a choice
pub length_labels_in : (ls : List (Option ℕ)) → length (labels_in ls) ≤ length ls
length_labels_in [] = omega arith
length_labels_in (None ∷ ls) = omega (arith, length_labels_in ls)
length_labels_in (Some a ∷ ls) = omega (arith, length_labels_in ls)

pub all_listed : (ls : List (Option ℕ)) → length ls ≤ 20 → take 20 (labels_in ls) ≡ labels_in ls
all_listed ls few = take_all 20 (labels_in ls) (omega (arith, length_labels_in ls))

-- rows in front of an array, of which one is left out: the labels that are listed are those of the other seats
pub listed_others : {X : Type 0} (make : ℕ → Row → X) (f : X → Option ℕ) (g : Row → Option ℕ) (same : (n : ℕ) (row : Row) → f (make n row) ≡ g row) (t slice : Table) (arr : List X) (is : slice ≡ t) (few : length slice ≤ 20) (laid : take (length slice) arr ≡ laid_out make 1 slice) (i : ℕ) (none : X) → f none ≡ None → i < length slice → (others : List X) → others ≡ set arr i none → take 20 (labels_in (map f (take (length slice - 0) others))) ≡ labels_in (set (map g t) i None)
listed_others {X} make f g same t slice arr is few laid i none blank lt others left =
    let front : take (length slice) (set arr i none) ≡ set (laid_out make 1 t) i none = take-set-lt (length slice) arr i none lt ∙ ap (λ (l : List X). set l i none) (laid ∙ ap (laid_out make 1) is) in
    let whole : length slice - 0 ≡ length slice = omega arith in
    let e : map f (take (length slice - 0) (set arr i none)) ≡ set (map g t) i None =
    ap (λ n. map f (take n (set arr i none))) whole ∙ ap (map f) front ∙ map-set f (laid_out make 1 t) i none ∙ ap (λ (l : List (Option ℕ)). set l i (f none)) (laid_entries make f g same 1 t) ∙ ap (set (map g t) i) blank in
    ap (λ (l : List X). take 20 (labels_in (map f (take (length slice - 0) l)))) left ∙ ap (λ (l : List (Option ℕ)). take 20 (labels_in l)) e ∙ all_listed (set (map g t) i None) (omega (arith, length-set (map g t) i None, length-map t g, ap length is))
