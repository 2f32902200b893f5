-- Stays seat by seat: one of them changed, and what they tell of their labels.
use Rattle.std.proofs.Common.{◌≡◌, ℕ, suc, ◌-◌, ◌≤◌, eqb, ◌≢◌, ◌⊎◌, get_or, set, Some, None, Option, sym, refl, ap, ◌∙◌, inl, inr, arith}
use mathlib.Core.Path.{fun_ext}
use Rattle.std.proofs.lemmas.List.{get_or_past}
use Rattle.std.proofs.lemmas.Bool.{cases_eq, cases_lt, eq-eqb, ne_eqb, cond-true, cond-false}
use Rattle.std.proofs.lemmas.Option.{none-some}
use Rattle.lives.specs.History.{Stay, Stays, stay_label, entries, with_stay}
use Rattle.lives.proofs.BySeat.{length_by_seat, at_place, set_by_seat}

module _ (f : Stays) (seat : ℕ) (o : Option Stay) where
  pub with_same : with_stay f seat o seat ≡ o
  with_same = cond-true (eqb seat seat) o (f seat) (eq-eqb seat seat refl)

  pub with_other : (q : ℕ) → q ≢ seat → with_stay f seat o q ≡ f q
  with_other q ne = cond-false (eqb seat q) o (f q) (ne_eqb seat q (λ e. ne (sym e)))

-- the stays seat by seat, at the one that changed and at the others
pub with_is : (f g : Stays) (seat : ℕ) (o : Option Stay) → o ≡ g seat → ((q : ℕ) → q ≢ seat → f q ≡ g q) → with_stay f seat o ≡ g
with_is f g seat o here other =
    fun_ext (λ q. elim (cases_eq q seat) [ inl e ↦ ap (with_stay f seat o) e ∙ with_same f seat o ∙ here ∙ ap g (sym e) | inr ne ↦ with_other f seat o q ne ∙ other q ne ])

pub with_twice : (f : Stays) (seat : ℕ) (o p : Option Stay) → with_stay (with_stay f seat o) seat p ≡ with_stay f seat p
with_twice f seat o p = with_is (with_stay f seat o) (with_stay f seat p) seat p (sym (with_same f seat p)) (λ q ne. with_other f seat o q ne ∙ sym (with_other f seat p q ne))

-- a seat that had no stay has none still
pub without_none : (f : Stays) (seat : ℕ) → f seat ≡ None → with_stay f seat None ≡ f
without_none f seat none = with_is f f seat None (sym none) (λ q ne. refl)

-- who is there after one has gone
pub without_some : (f : Stays) (seat q : ℕ) (v : Stay) → with_stay f seat None q ≡ Some v → f q ≡ Some v
without_some f seat q v h = elim (cases_eq q seat) [ inl e ↦ absurd (none-some _ (sym (ap (with_stay f seat None) e ∙ with_same f seat None) ∙ h)) | inr ne ↦ sym (with_other f seat None q ne) ∙ h ]

-- who is there after one has come
pub with_some : (f : Stays) (seat : ℕ) (w : Stay) (q : ℕ) (v : Stay) → with_stay f seat (Some w) q ≡ Some v → ((q ≡ seat) × (v ≡ w)) ⊎ (f q ≡ Some v)
with_some f seat w q v h =
    elim (cases_eq q seat) [
      | inl e ↦ let here : with_stay f seat (Some w) q ≡ Some w = ap (with_stay f seat (Some w)) e ∙ with_same f seat (Some w) in inl (e, cc)
      | inr ne ↦ inr (sym (with_other f seat (Some w) q ne) ∙ h)
    ]

-- what the seats tell, with one stay changed
pub entries_with : (n : ℕ) (f : Stays) (seat : ℕ) (o : Option Stay) → 1 ≤ seat → seat ≤ n → entries n (with_stay f seat o) ≡ set (entries n f) (seat - 1) (stay_label o)
entries_with n f seat o low high =
    sym (set_by_seat (λ q. stay_label (f q)) (λ q. stay_label (with_stay f seat o q)) n seat (stay_label o) low high (ap stay_label (with_same f seat o)) (λ q ne. ap stay_label (with_other f seat o q ne)))

pub entry_at : (n : ℕ) (f : Stays) (seat : ℕ) → 1 ≤ seat → seat ≤ n → get_or (entries n f) (seat - 1) None ≡ stay_label (f seat)
entry_at n f seat low high = at_place (λ q. stay_label (f q)) n (seat - 1) None (omega arith) ∙ ap (λ q. stay_label (f q)) (omega arith)

label_some : (o : Option Stay) (x : ℕ) → stay_label o ≡ Some x → (v : Stay) × (o ≡ Some v) × (v.label ≡ x)
label_some None x h = let z : ◌≡◌ {A = ℕ} 0 1 = cc in absurd (omega arith)
label_some (Some v) x h = (v, refl, cc)

-- an entry with a label is a stay's
pub entry_some : (n : ℕ) (f : Stays) (i x : ℕ) → get_or (entries n f) i None ≡ Some x → (v : Stay) × (f (suc i) ≡ Some v) × (v.label ≡ x)
entry_some n f i x h =
    elim (cases_lt i n) [
      | inl l ↦ label_some (f (suc i)) x (sym (at_place (λ q. stay_label (f q)) n i None l) ∙ h)
      | inr l ↦ absurd (none-some _ (sym (get_or_past (entries n f) i None (omega (arith, length_by_seat (λ q. stay_label (f q)) n))) ∙ h))
    ]

pub entry_none : (n : ℕ) (f : Stays) → ((q : ℕ) → f q ≡ None) → (i : ℕ) → get_or (entries n f) i None ≡ None
entry_none n f none i =
    elim (cases_lt i n) [
      | inl l ↦ at_place (λ q. stay_label (f q)) n i None l ∙ ap stay_label (none (suc i))
      | inr l ↦ get_or_past (entries n f) i None (omega (arith, length_by_seat (λ q. stay_label (f q)) n))
    ]
