-- Stays as they are told moment by moment are the intervals from their beginnings on.
use Rattle.std.proofs.Common.{◌≡◌, ℕ, true, eqb, [], ◌∷◌, ◌++◌, length, Some, None, Option, sym, refl, ap, ◌∙◌, inl, inr}
use Rattle.std.proofs.lemmas.Bool.{cases_eq, eqb-false, ne_eqb, not-true, not_from_false}
use Rattle.std.specs.List.{AllByRecursion}
use Rattle.std.proofs.lemmas.Option.{none-some}
use Rattle.labels.specs.System.{System}
use Rattle.station.specs.declared.call.Call.{Call}
use Rattle.lives.specs.History.{Moment, History, Event, event, seats, Stay, Stays, Change, comes, goes, same, labels_by_seat, with_stay, begun, stays, stays_after}
use Rattle.lives.specs.Intervals.{leaves_alone, LastsSince, Intervals}
use Rattle.lives.proofs.Stays.{with_same, with_other}

module _ (s : System) (change : Event → Change) (beside : Stays → ℕ → Stays) (seat : ℕ) (w : Stay) where
  abbrev Lasts : History → Type 0
  Lasts past = LastsSince s change beside past seat w

  -- one moment more that leaves the seat alone
  one_more : (m : Moment) (past : History) → leaves_alone seat (change (event m)) ≡ true → Lasts past → Lasts (m ∷ past)
  one_more m past alone h = record {
    later = m ∷ h.later;
    beginning = h.beginning;
    earlier = h.earlier;
    split = ap (λ l. m ∷ l) h.split;
    begins = h.begins;
    lasts = (alone, h.lasts);
    since = h.since;
    by = h.by;
    label = h.label;
  }

  -- a stay that began just now
  just_begun : (m : Moment) (past : History) → change (event m) ≡ comes seat → (o : Option ℕ) → s.choice (labels_by_seat (seats past) (beside (stays s change beside past) seat)) ≡ o → begun (length past) m.call o ≡ Some w → Lasts (m ∷ past)
  just_begun m past e None chosen h = absurd (none-some _ h)
  just_begun m past e (Some x) chosen h =
      let is : record { since = length past; by = m.call; label = x } ≡ w = cc in
      record {
        later = [];
        beginning = m;
        earlier = past;
        split = refl;
        begins = e;
        lasts = tt;
        since = sym (ap (λ (v : Stay). v.since) is);
        by = sym (ap (λ (v : Stay). v.by) is);
        label = chosen ∙ ap (λ (v : Stay). Some v.label) is;
      }

  told_lasts : (past : History) → stays s change beside past seat ≡ Some w → Lasts past
  told_lasts [] h = absurd (none-some _ h)
  told_lasts (m ∷ past) h = go (change (event m)) refl (told_lasts past)
    where
      go : (c : Change) → change (event m) ≡ c → (stays s change beside past seat ≡ Some w → Lasts past) → Lasts (m ∷ past)
      go same e before = one_more m past (ap (leaves_alone seat) e) (before (sym (ap (λ x. stays_after s beside (seats past) (length past) m.call x (stays s change beside past) seat) e) ∙ h))
      go (goes named) e before =
          let is : with_stay (stays s change beside past) named None seat ≡ Some w = sym (ap (λ x. stays_after s beside (seats past) (length past) m.call x (stays s change beside past) seat) e) ∙ h in
          elim (cases_eq named seat) [
            | inl at ↦ absurd (none-some _ (sym (with_same (stays s change beside past) seat None) ∙ ap (λ q. with_stay (stays s change beside past) q None seat) (sym at) ∙ is))
            | inr ne ↦ one_more m past (ap (leaves_alone seat) e ∙ not_from_false (eqb named seat) (ne_eqb named seat ne)) (before (sym (with_other (stays s change beside past) named None seat (λ at. ne (sym at))) ∙ is))
          ]
      go (comes named) e before =
          let o = s.choice (labels_by_seat (seats past) (beside (stays s change beside past) named)) in
          let is : with_stay (stays s change beside past) named (begun (length past) m.call o) seat ≡ Some w = sym (ap (λ x. stays_after s beside (seats past) (length past) m.call x (stays s change beside past) seat) e) ∙ h in
          elim (cases_eq named seat) [
            | inl at ↦
                let choice : ℕ → Option ℕ = λ q. s.choice (labels_by_seat (seats past) (beside (stays s change beside past) q)) in
                just_begun m past (e ∙ ap comes at) (choice seat) refl (sym (ap (λ q. with_stay (stays s change beside past) q (begun (length past) m.call (s.choice (labels_by_seat (seats past) (beside (stays s change beside past) q)))) seat) at ∙ with_same (stays s change beside past) seat (begun (length past) m.call (choice seat))) ∙ is)
            | inr ne ↦ one_more m past (ap (leaves_alone seat) e ∙ not_from_false (eqb named seat) (ne_eqb named seat ne)) (before (sym (with_other (stays s change beside past) named (begun (length past) m.call o) seat (λ at. ne (sym at))) ∙ is))
          ]

  -- a moment that leaves the seat alone leaves its stay
  kept : (c : Change) (n since : ℕ) (call : Call) (f : Stays) → leaves_alone seat c ≡ true → stays_after s beside n since call c f seat ≡ f seat
  kept (comes named) n since call f alone = with_other f named (begun since call (s.choice (labels_by_seat n (beside f named)))) seat (λ at. eqb-false named seat (not-true (eqb named seat) alone) (sym at))
  kept (goes named) n since call f alone = with_other f named None seat (λ at. eqb-false named seat (not-true (eqb named seat) alone) (sym at))
  kept same n since call f alone = refl

  begins_told : (m : Moment) (past : History) → change (event m) ≡ comes seat → w.since ≡ length past → w.by ≡ m.call → s.choice (labels_by_seat (seats past) (beside (stays s change beside past) seat)) ≡ Some w.label → stays s change beside (m ∷ past) seat ≡ Some w
  begins_told m past e since by label =
      let made : record { since = length past; by = m.call; label = w.label } ≡ w = λ i. record { since = sym since i; by = sym by i; label = w.label } in
      ap (λ x. stays_after s beside (seats past) (length past) m.call x (stays s change beside past) seat) e
      ∙ with_same (stays s change beside past) seat (begun (length past) m.call (s.choice (labels_by_seat (seats past) (beside (stays s change beside past) seat))))
      ∙ ap (begun (length past) m.call) label ∙ ap Some made

  lasts_told : (later : History) (m : Moment) (past : History) → AllByRecursion (λ x. leaves_alone seat (change (event x)) ≡ true) later → stays s change beside (m ∷ past) seat ≡ Some w → stays s change beside (later ++ m ∷ past) seat ≡ Some w
  lasts_told [] m past alone h = h
  lasts_told (x ∷ later) m past alone h =
      kept (change (event x)) (seats (later ++ m ∷ past)) (length (later ++ m ∷ past)) x.call (stays s change beside (later ++ m ∷ past)) alone.0 ∙ lasts_told later m past alone.1 h

pub intervals : (s : System) (change : Event → Change) (beside : Stays → ℕ → Stays) (past : History) → Intervals s change beside past
intervals s change beside past seat w = (
  told_lasts s change beside seat w past,
  λ h. ap (λ p. stays s change beside p seat) h.split ∙ lasts_told s change beside seat w h.later h.beginning h.earlier h.lasts (begins_told s change beside seat w h.beginning h.earlier h.begins h.since h.by h.label),
)
