-- The skipping counter shows the laws.
use Rattle.std.specs.Prelude.{◌≡◌, ℕ, ◌+◌, ◌%◌, ◌<◌, max, Bool, true, false, cond, ◌&&◌, ltb, List, [], ◌∷◌, Some, None, Option, nat_lt}
use Rattle.std.proofs.Common.{sym, ◌∙◌, inl, inr, arith, lit<, lit≤}
use Rattle.std.proofs.lemmas.Bool.{cases_Bool, cond-true, cond-false, ltb-true}
use Rattle.labels.specs.System.{Laws}
use Rattle.labels.specs.Plain.{bounded}
use Rattle.std.proofs.lemmas.Option.{none-some, cond_some}
use Rattle.labels.proofs.Counter.{over_from}
use Rattle.labels.proofs.Chains.{Given, lawful_plain}
use Rattle.made_up.specs.Skipping.{past, skipping_choice, skipping}

-- what a passed test leaves
kept : (b : Bool) (o : Option ℕ) (x : ℕ) → cond b o None ≡ Some x → (b ≡ true) × (o ≡ Some x)
kept b o x e = elim (cases_Bool b) [ inl t ↦ (t, sym (cond-true b o None t) ∙ e) | inr f ↦ absurd (none-some x (sym (cond-false b o None f) ∙ e)) ]

above : (a b x : ℕ) → past a b ≡ Some x → (x < 100) × (a < x) × (b < x)
above a b x e =
    let n : ℕ = max a b + 1 + a % 2 in
    let p = cond_some (nat_lt n 100) n x e in
    (omega (arith, ltb-true n 100 p.0, p.1), omega (arith, p.1), omega (arith, p.1))

chosen : (l : List ℕ) (x : ℕ) → skipping_choice l ≡ Some x → Given 3 100 (bounded 100 (λ a b. ltb b a)) l x
chosen [] x e = let z : ◌≡◌ {A = ℕ} 0 x = cc in record { room = lit< tt; label = omega arith; beats_all = tt }
chosen (a ∷ []) x e =
    let h = above a a x (kept (nat_lt a 100) (past a a) x e).1 in
    record { room = lit< tt; label = h.0; beats_all = (over_from 3 100 x a h.0 h.1, tt) }
chosen (a ∷ b ∷ []) x e =
    let h = above a b x (kept (nat_lt a 100 && nat_lt b 100) (past a b) x e).1 in
    record { room = lit< tt; label = h.0; beats_all = (over_from 3 100 x a h.0 h.1, (over_from 3 100 x b h.0 h.2, tt)) }
chosen (a ∷ b ∷ c ∷ l) x e = absurd (none-some x e)

pub skipping_laws : Laws skipping
skipping_laws = lawful_plain 3 100 (λ a b. ltb b a) skipping_choice false (record {
  in_range = record { order_at_most = lit≤ tt; count_at_most = lit≤ tt };
  one_way = λ a b ha hb e f. omega (arith, ltb-true b a e, ltb-true a b f);
  chosen = chosen;
  some = λ e. let z : ◌≡◌ {A = ℕ} 0 1 = cc in absurd (omega arith);
})
