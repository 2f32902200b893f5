-- The seat that a search finds among healthy stays is the first or the last that began.
use Rattle.std.proofs.Common.{◌≡◌, ℕ, suc, ◌-◌, ◌<◌, Bool, true, false, ◌≢◌, get_or, Some, None, Option, sym, refl, ap, ◌∙◌, subst, inl, inr, arith}
use Rattle.std.proofs.lemmas.Bool.{cases_order}
use Rattle.labels.specs.System.{System, Laws}
use Rattle.labels.proofs.Tally.{place_of}
use Rattle.search.specs.Search.{head_of, tail_of, LeadsFrom, FoundWhereLawful}
use Rattle.search.proofs.Tops.{finds, head_where_lawful, tail_where_lawful}
use Rattle.lives.specs.History.{Stay, Stays, stay_label, entries, labels_by_seat}
use Rattle.lives.specs.Answers.{Nobody}
use Rattle.lives.proofs.Listed.{is_listed}
use Rattle.lives.proofs.Stays.{entry_at, entry_some}
use Rattle.lives.proofs.Healthy.{Healthy}

module _ (s : System) (laws : Laws s) (n : ℕ) (f : Stays) (now : ℕ) (h : Healthy s n f now) where
  -- what beats is later
  pub beats_later : (a b : ℕ) (v w : Stay) → f a ≡ Some v → f b ≡ Some w → a ≢ b → s.beats w.label v.label ≡ true → v.since < w.since
  beats_later a b v w e d ne won =
      elim (cases_order v.since w.since) [
        | inl together ↦ absurd (ne (h.order.apart a b v w e d together))
        | inr r ↦ elim r [ inl l ↦ l | inr l ↦ absurd (clash (h.order.earlier_loses b a w v d e l)) ]
      ]
    where
      clash : s.beats w.label v.label ≡ false → ⊥
      clash lost = let z : ◌≡◌ {A = ℕ} 0 1 = cc in omega arith

  at_entry : (a : ℕ) (v : Stay) → f a ≡ Some v → get_or (entries n f) (a - 1) None ≡ Some v.label
  at_entry a v e = entry_at n f a (h.seats a v e).0 (h.seats a v e).1 ∙ ap stay_label e

  -- the stay at a place that leads, and what its label has before every other
  led : (leads : ℕ → ℕ → Bool) (k : ℕ) → LeadsFrom leads (entries n f) k → (w : Stay) × (f (suc k) ≡ Some w) × ((other : ℕ) (v : Stay) → f other ≡ Some v → other ≢ suc k → leads w.label v.label ≡ true)
  led leads k top =
      let p = entry_some n f k top.label top.here in
      (p.0, p.1, λ other v e ne. subst (λ x. leads x v.label ≡ true) (sym p.2) (top.others (other - 1) v.label (λ at. ne (omega (arith, at, h.seats other v e))) (at_entry other v e)))

  pub tail_some : (k : ℕ) → tail_of s (entries n f) ≡ Some k → (w : Stay) × (f (suc k) ≡ Some w) × ((other : ℕ) (v : Stay) → f other ≡ Some v → other ≢ suc k → w.since < v.since)
  tail_some k e =
      let p = led (λ a b. s.beats b a) k ((finds (λ a b. s.beats b a) (λ a b. laws.one_way b a) (entries n f) (Some k) (sym e)).found k refl) in
      (p.0, p.1, λ other v d ne. beats_later (suc k) other p.0 v p.1 d (λ at. ne (sym at)) (p.2 other v d ne))

  pub head_some : (k : ℕ) → head_of s (entries n f) ≡ Some k → (w : Stay) × (f (suc k) ≡ Some w) × ((other : ℕ) (v : Stay) → f other ≡ Some v → other ≢ suc k → v.since < w.since)
  head_some k e =
      let p = led s.beats k ((finds s.beats laws.one_way (entries n f) (Some k) (sym e)).found k refl) in
      (p.0, p.1, λ other v d ne. beats_later other (suc k) v p.0 d p.1 ne (p.2 other v d ne))

  -- where a search finds nothing there is nobody
  nobody : (r : Option ℕ) → FoundWhereLawful s (entries n f) r → r ≡ None → Nobody f
  nobody r found none q = go (f q) refl
    where
      go : (o : Option Stay) → f q ≡ o → f q ≡ None
      go None e = e
      go (Some v) e = absurd (found h.lawful (omega (arith, (place_of v.label (labels_by_seat n f) (is_listed (entries n f) (q - 1) v.label (at_entry q v e))).1)) none)

  pub tail_none : tail_of s (entries n f) ≡ None → Nobody f
  tail_none e = nobody (tail_of s (entries n f)) (tail_where_lawful s laws (entries n f) (tail_of s (entries n f)) refl) e

  pub head_none : head_of s (entries n f) ≡ None → Nobody f
  head_none e = nobody (head_of s (entries n f)) (head_where_lawful s laws (entries n f) (head_of s (entries n f)) refl) e
