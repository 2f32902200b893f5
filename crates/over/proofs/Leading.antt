-- The member of the distinct outer parts that beats every other, as the definition finds it and as a relation.
use Rattle.std.proofs.Common.{◌≡◌, ℕ, ◌≤◌, List, Some, None, Option, sym, ap, ◌∙◌, subst, inl, inr, arith, MatchOption}
use Rattle.std.proofs.lemmas.Bool.{cases_eq}
use Rattle.labels.specs.System.{System, Laws, LeadsAt}
use Rattle.labels.proofs.Tally.{tally}
use Rattle.labels.proofs.Leaders.{Leads, leads_from_at, at_from_leads}
use Rattle.labels.proofs.Exact.{some_or_none}
use Rattle.over.specs.Over.{leader}
use Rattle.over.specs.Steps.{LedBy}
use Rattle.over.proofs.Parts.{leader_some, leader_finds}

module _ (o : System) (lo : Laws o) (l : List ℕ) where
  pub leads_from_led : (m : ℕ) → LedBy o.beats l m → Leads o.beats l m
  leads_from_led m h = subst (Leads o.beats l) h.is (leads_from_at o.beats l h.place (λ a e. lo.one_way a a e e) h.leads)

  pub leader_from_led : (m : ℕ) → LedBy o.beats l m → leader o.beats l ≡ Some m
  leader_from_led m h =
      let leads = leads_from_led m h in
      let y = leader_finds o.beats l m leads in
      let found = leader_some o.beats l y.0 y.1 in
      elim (cases_eq y.0 m) [
        | inl e ↦ y.1 ∙ ap Some e
        | inr d ↦ absurd (lo.one_way y.0 m (found.1 m (omega (arith, leads.single)) (λ e. d (sym e))) (leads.ahead y.0 found.0 d))
      ]

  module _ (once : (x : ℕ) → tally x l ≤ 1) where
    pub led_from_leader : (m : ℕ) → leader o.beats l ≡ Some m → LedBy o.beats l m
    led_from_leader m e =
        let found = leader_some o.beats l m e in
        let at = at_from_leads o.beats l m (record { single = omega (arith, found.0, once m); ahead = found.1 }) in
        record { place = at.0; leads = at.1; is = at.2 }

    -- what a search over the places finds
    pub leader_found : (r : Option ℕ) → MatchOption r ((k : ℕ) → LeadsAt o.beats l k → ⊥) (LedBy o.beats l) → r ≡ leader o.beats l
    leader_found None h =
        elim (some_or_none (leader o.beats l)) [
          | inl e ↦ sym e
          | inr p ↦ let led = led_from_leader p.0 p.1 in absurd (h led.place led.leads)
        ]
    leader_found (Some m) h = sym (leader_from_led m h)
