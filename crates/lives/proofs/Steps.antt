-- Every call keeps the table and the history together.
use Rattle.std.proofs.Common.{◌≡◌, ℕ, suc, ◌+◌, ◌-◌, ◌<◌, ◌≤◌, Bool, true, false, cond, not, ◌&&◌, leb, ◌≢◌, List, [], ◌∷◌, map, length, get_or, set, is_some as option_is_some, Some, None, Ok, Option, sym, refl, ap, ◌∙◌, subst, inl, inr, arith}
use Rattle.std.proofs.lemmas.List.{length-replicate, get_or-replicate, ext_get_or}
use Rattle.std.proofs.lemmas.Bool.{and_parts, leb-true, eqb-true, eq-eqb, ne_eqb, not-true}
use Rattle.std.specs.List.{AllByRecursion}
use Rattle.std.proofs.lemmas.Option.{none-some}
use Rattle.labels.specs.System.{System, Laws}
use Rattle.search.specs.Search.{tail_of, labels_in}
use Rattle.station.specs.declared.call.Call.{Call}
use Rattle.station.specs.declared.call.Call.TheVariants.{Open, Join, Leave, Start, Finish, Write, Strike, Read, Earlier, Newer, Label}
use Rattle.station.specs.declared.refusal.Refusal.{Refusal}
use Rattle.station.specs.declared.row.Line.{Line}
use Rattle.station.specs.declared.row.Line.TheVariants.{Idle, Waiting, Holding}
use Rattle.station.specs.declared.row.Writing.{Writing}
use Rattle.station.specs.declared.row.Row.{Row}
use Rattle.station.specs.Table.{Table, blank, opened_for, row_of, with_row, with_line, with_writing}
use Rattle.station.specs.Questions.{Asked, first_no, replied, settled}
use Rattle.station.specs.Facts.{Facts, questions_over}
use Rattle.station.specs.Rules.{waiting_row, found_row, line_tail, waiting_seat, waiting_entries, waiting_choice, standing_choice, or_zero, answer, after, reply, next, questions as asked_of}
use Rattle.station.proofs.Asking.{row_alike, beside_alike, asked_alike}
use Rattle.lives.specs.History.{History, seats, holder, Stay, Stays, rising, labels_by_seat, with_stay, begun, waiting, standing, is_seat, facts_told}
use Rattle.lives.specs.Answers.{Nobody, Longest}
use Rattle.lives.specs.Promises.{line_told, writing_told}
use Rattle.lives.proofs.BySeat.{length_by_seat, at_place, set_by_seat}
use Rattle.lives.proofs.Stays.{with_same, with_other, with_twice, without_none, without_some, with_some}
use Rattle.lives.proofs.Healthy.{Healthy, none_beyond, healthy_later, healthy_none, healthy_without, healthy_with}
use Rattle.lives.proofs.Found.{tail_some}
use Rattle.lives.proofs.Shown.{told_row, told_rows, Shown, is_seat_true, not_holding, row_shown, line_entries, choice_waits, choice_stands, facts_agree}

-- the table of a station with this history
abbrev pub Fits : System → Table → History → Type 0
Fits s t past = Shown s t (seats past) (waiting s past) (standing s past) (holder past) (length past)

-- Questions that are answered yes

yes_first : (b : Bool) (o : Option Refusal) (e : Refusal) → cond b o (Some e) ≡ None → (b ≡ true) × (o ≡ None)
yes_first true o e h = (refl, h)
yes_first false o e h = absurd (none-some _ (sym h))

-- without a first no every question is answered yes
pub all_yes : (qs : List Asked) → first_no qs ≡ None → AllByRecursion (λ (q : Asked). q.holds ≡ true) qs
all_yes [] h = tt
all_yes (q ∷ qs) h =
    let p = yes_first q.holds (first_no qs) (record { reason = q.reason; seat = q.seat }) h in
    (p.0, all_yes qs p.1)

pub in_seats : (n seat : ℕ) → (leb 1 seat && leb seat n) ≡ true → (1 ≤ seat) × (seat ≤ n)
in_seats n seat e = let p = and_parts (leb 1 seat) (leb seat n) e in (leb-true 1 seat p.0, leb-true seat n p.1)

pub is_some : {X : Type 0} (o : Option X) → option_is_some o ≡ true → (x : X) × (o ≡ Some x)
is_some None e = let z : ◌≡◌ {A = ℕ} 0 1 = cc in absurd (omega arith)
is_some (Some x) e = (x, refl)

pub is_none : {X : Type 0} (o : Option X) → option_is_some o ≡ false → o ≡ None
is_none None e = refl
is_none (Some x) e = let z : ◌≡◌ {A = ℕ} 0 1 = cc in absurd (omega arith)

-- an idle seat neither waits nor holds the start
pub idle_seat : (o : Option Stay) (b : Bool) → (not (option_is_some o) && not b) ≡ true → (o ≡ None) × (b ≡ false)
idle_seat o b e =
    let p = and_parts (not (option_is_some o)) (not b) e in
    (is_none o (not-true (option_is_some o) p.0), not-true b p.1)

-- One row changed

module _ (s : System) (laws : Laws s) (t : Table) (n : ℕ) (f g : Stays) (hold : Option ℕ) (now : ℕ) (h : Shown s t n f g hold now) (seat : ℕ) (low : 1 ≤ seat) (high : seat ≤ n) where
  row_changed : (row : Row) (f' g' : Stays) (hold' : Option ℕ) → told_rows f' g' hold' seat ≡ row → ((q : ℕ) → q ≢ seat → told_rows f' g' hold' q ≡ told_rows f g hold q) → with_row t seat row ≡ map (told_rows f' g' hold') (rising n)
  row_changed row f' g' hold' here other = ap (λ r. set r (seat - 1) row) h.rows ∙ set_by_seat (told_rows f g hold) (told_rows f' g' hold') n seat row low high here other

  pub line_changed : (l : Line) (o : Option Stay) (hold' : Option ℕ) → line_told o (is_seat hold' seat) ≡ l → ((q : ℕ) → q ≢ seat → is_seat hold' q ≡ is_seat hold q) → Healthy s n (with_stay f seat o) (suc now) → ((q : ℕ) → hold' ≡ Some q → (1 ≤ q) × (q ≤ n) × (with_stay f seat o q ≡ None)) → Shown s (with_line t seat l) n (with_stay f seat o) g hold' (suc now)
  line_changed l o hold' is other healthy held = record {
    rows = row_changed (record { line = l; writing = (row_of t seat).writing }) (with_stay f seat o) g hold' here others;
    few = h.few;
    reach = h.reach;
    line = healthy;
    register = healthy_later s n g now h.register;
    writers = h.writers;
    held = held;
  }
    where
      here : told_rows (with_stay f seat o) g hold' seat ≡ record { line = l; writing = (row_of t seat).writing }
      here =
          let line : line_told (with_stay f seat o seat) (is_seat hold' seat) ≡ l = ap (λ x. line_told x (is_seat hold' seat)) (with_same f seat o) ∙ is in
          let writing : writing_told (g seat) ≡ (row_of t seat).writing = sym (ap (λ (r : Row). r.writing) (row_alike t seat low ∙ row_shown s laws t n f g hold now h seat)) in
          cc

      others : (q : ℕ) → q ≢ seat → told_rows (with_stay f seat o) g hold' q ≡ told_rows f g hold q
      others q ne = ap (λ x. told_row x (is_seat hold' q) (g q)) (with_other f seat o q ne) ∙ ap (λ b. told_row (f q) b (g q)) (other q ne)

  pub writing_changed : (w : Option Writing) (o : Option Stay) → writing_told o ≡ w → Healthy s n (with_stay g seat o) (suc now) → ((a : ℕ) (v : Stay) → with_stay g seat o a ≡ Some v → (m : ℕ) × (v.by ≡ Write a m)) → Shown s (with_writing t seat w) n f (with_stay g seat o) hold (suc now)
  writing_changed w o is healthy writers = record {
    rows = row_changed (record { line = (row_of t seat).line; writing = w }) f (with_stay g seat o) hold here others;
    few = h.few;
    reach = h.reach;
    line = healthy_later s n f now h.line;
    register = healthy;
    writers = writers;
    held = h.held;
  }
    where
      here : told_rows f (with_stay g seat o) hold seat ≡ record { line = (row_of t seat).line; writing = w }
      here =
          let line : line_told (f seat) (is_seat hold seat) ≡ (row_of t seat).line = sym (ap (λ (r : Row). r.line) (row_alike t seat low ∙ row_shown s laws t n f g hold now h seat)) in
          let writing : writing_told (with_stay g seat o seat) ≡ w = ap writing_told (with_same g seat o) ∙ is in
          cc

      others : (q : ℕ) → q ≢ seat → told_rows f (with_stay g seat o) hold q ≡ told_rows f g hold q
      others q ne = ap (λ x. told_row (f q) (is_seat hold q) x) (with_other g seat o q ne)

  -- the line without this seat
  gone_from_line : Healthy s n (with_stay f seat None) (suc now)
  gone_from_line = healthy_later s n (with_stay f seat None) now (healthy_without s laws n f now h.line seat low high)

  pub left_line : (hold ≡ Some seat → ⊥) → Shown s (with_line t seat Idle) n (with_stay f seat None) g hold (suc now)
  left_line no_start =
      line_changed Idle None hold (ap (line_told None) (not_holding s laws t n f g hold now h seat no_start)) (λ q ne. refl) gone_from_line
      (λ q e. let p = h.held q e in (p.0, p.1, with_other f seat None q (λ at. no_start (e ∙ ap Some at)) ∙ p.2))

  pub took_start : hold ≡ None → Shown s (with_line t seat Holding) n (with_stay f seat None) g (Some seat) (suc now)
  took_start free =
      line_changed Holding None (Some seat) (ap (line_told None) (eq-eqb seat seat refl)) (λ q ne. ne_eqb seat q (λ at. ne (sym at)) ∙ sym (ap (λ o. is_seat o q) free)) gone_from_line
      (λ q e. let at : seat ≡ q = cc in (omega arith, omega arith, ap (with_stay f seat None) (sym at) ∙ with_same f seat None))

  pub gave_start : hold ≡ Some seat → Shown s (with_line t seat Idle) n f g None (suc now)
  gave_start mine =
      subst (λ (r : Stays). Shown s (with_line t seat Idle) n r g None (suc now)) (without_none f seat (h.held seat mine).2)
      (line_changed Idle None None refl (λ q ne. sym (ap (λ o. is_seat o q) mine ∙ ne_eqb seat q (λ at. ne (sym at)))) gone_from_line (λ q e. let z : ◌≡◌ {A = ℕ} 0 1 = cc in absurd (omega arith)))

  -- a newcomer in the line
  pub joined_line : (by : Call) (o p : Option ℕ) → o ≡ p → s.choice (labels_by_seat n f) ≡ p → option_is_some p ≡ true → f seat ≡ None → is_seat hold seat ≡ false → Shown s (with_line t seat (Waiting (or_zero o))) n (with_stay f seat (begun now by p)) g hold (suc now)
  joined_line by o None e chosen some none free = let z : ◌≡◌ {A = ℕ} 0 1 = cc in absurd (omega arith)
  joined_line by o (Some x) e chosen some none free =
      let stay : Stay = record { since = now; by = by; label = x } in
      subst (λ z. Shown s (with_line t seat (Waiting (or_zero z))) n (with_stay f seat (Some stay)) g hold (suc now)) (sym e)
      (line_changed (Waiting x) (Some stay) hold refl (λ q ne. refl) (healthy_with s laws n f now h.line seat low high none stay refl chosen)
      (λ q d. let p = h.held q d in (p.0, p.1, with_other f seat (Some stay) q (λ at. holds q at d) ∙ p.2)))
    where
      holds : (q : ℕ) → q ≡ seat → hold ≡ Some q → ⊥
      holds q at d =
          let yes' : is_seat hold seat ≡ true = ap (λ o. is_seat o seat) d ∙ eq-eqb q seat at in
          let z : ◌≡◌ {A = ℕ} 0 1 = cc in
          omega arith

  -- a new writing in the register
  pub wrote : (m : ℕ) (o p : Option ℕ) → o ≡ p → s.choice (labels_by_seat n (with_stay g seat None)) ≡ p → option_is_some p ≡ true → Shown s (with_writing t seat (Some (record { label = or_zero o; map = m }))) n f (with_stay g seat (begun now (Write seat m) p)) hold (suc now)
  wrote m o None e chosen some = let z : ◌≡◌ {A = ℕ} 0 1 = cc in absurd (omega arith)
  wrote m o (Some x) e chosen some =
      let stay : Stay = record { since = now; by = Write seat m; label = x } in
      let healthy = healthy_with s laws n (with_stay g seat None) now (healthy_without s laws n g now h.register seat low high) seat low high (with_same g seat None) stay refl chosen in
      subst (λ z. Shown s (with_writing t seat (Some (record { label = or_zero z; map = m }))) n f (with_stay g seat (Some stay)) hold (suc now)) (sym e)
      (writing_changed (Some (record { label = x; map = m })) (Some stay) refl (subst (λ (r : Stays). Healthy s n r (suc now)) (with_twice g seat None (Some stay)) healthy) (writers stay refl))
    where
      writers : (stay : Stay) → stay.by ≡ Write seat m → (a : ℕ) (v : Stay) → with_stay g seat (Some stay) a ≡ Some v → (k : ℕ) × (v.by ≡ Write a k)
      writers stay by a v e =
          elim (with_some g seat stay a v e) [
            | inl p ↦ (m, ap (λ (r : Stay). r.by) p.1 ∙ by ∙ ap (λ q. Write q m) (sym p.0))
            | inr d ↦ h.writers a v d
          ]

  pub struck_out : Shown s (with_writing t seat None) n f (with_stay g seat None) hold (suc now)
  struck_out = writing_changed None None refl (healthy_later s n (with_stay g seat None) now (healthy_without s laws n g now h.register seat low high)) (λ a v e. h.writers a v (without_some g seat a v e))

-- blank rows show that nobody waits and nothing stands
pub shown_blank : (s : System) → Laws s → (n : ℕ) (f g : Stays) (hold : Option ℕ) (now : ℕ) → n ≤ 20 → n ≤ s.order → Nobody f → Nobody g → hold ≡ None → Shown s (opened_for n) n f g hold now
shown_blank s laws n f g hold now few reach nobody nothing free = record {
  rows = ext_get_or blank (opened_for n) (map (told_rows f g hold) (rising n)) (length-replicate n blank ∙ sym (length_by_seat (told_rows f g hold) n)) each;
  few = few;
  reach = reach;
  line = healthy_none s laws n f now nobody;
  register = healthy_none s laws n g now nothing;
  writers = λ a w e. absurd (none-some _ (sym (nothing a) ∙ e));
  held = λ seat e. absurd (none-some _ (sym free ∙ e));
}
  where
    blank_row : (q : ℕ) → told_rows f g hold q ≡ blank
    blank_row q = ap (λ x. told_row x (is_seat hold q) (g q)) (nobody q) ∙ ap (λ o. told_row None (is_seat o q) (g q)) free ∙ ap (told_row None false) (nothing q)

    each : (i : ℕ) → i < length (opened_for n) → get_or (opened_for n) i blank ≡ get_or (map (told_rows f g hold) (rising n)) i blank
    each i less =
        let within : i < n = omega (arith, length-replicate n blank) in
        get_or-replicate n i blank blank within ∙ sym (at_place (told_rows f g hold) n i blank within ∙ blank_row (suc i))

module _ (s : System) (laws : Laws s) (t : Table) (past : History) (h : Fits s t past) where
  -- before an opening nobody waits, nothing stands and nobody holds the start
  pub closed : seats past ≡ 0 → Nobody (waiting s past) × Nobody (standing s past) × (holder past ≡ None)
  closed none = (
    λ q. none_beyond s (seats past) (waiting s past) (length past) h.line q (λ l u. omega arith),
    λ q. none_beyond s (seats past) (standing s past) (length past) h.register q (λ l u. omega arith),
    go (holder past) refl,
  )
    where
      go : (o : Option ℕ) → holder past ≡ o → o ≡ None
      go None e = refl
      go (Some seat) e = absurd (omega (arith, (h.held seat e).0, (h.held seat e).1))

  -- the questions are answered as the history tells
  pub same_questions : (call : Call) → first_no (asked_of s t call) ≡ first_no (questions_over (facts_told s past) call)
  same_questions call = asked_alike s t call ∙ ap (λ (x : Facts). first_no (questions_over x call)) (facts_agree s laws t (seats past) (waiting s past) (standing s past) (holder past) (length past) h)

  -- the seat that a start goes to has waited longest
  pub first_in_line : (facts_told s past).has_tail ≡ true → Longest (waiting s past) (waiting_seat (line_tail s t))
  first_in_line some = go (tail_of s (waiting_entries t)) refl
    where
      tail_there : option_is_some (line_tail s t) ≡ true
      tail_there = ap (λ (x : Facts). x.has_tail) (facts_agree s laws t (seats past) (waiting s past) (standing s past) (holder past) (length past) h) ∙ some

      go : (o : Option ℕ) → tail_of s (waiting_entries t) ≡ o → Longest (waiting s past) (waiting_seat (line_tail s t))
      go None e =
          let there : option_is_some (found_row waiting_row t None) ≡ true = ap (λ o. option_is_some (found_row waiting_row t o)) (sym e) ∙ tail_there in
          let z : ◌≡◌ {A = ℕ} 0 1 = cc in
          absurd (omega arith)
      go (Some k) e =
          let p = tail_some s laws (seats past) (waiting s past) (length past) h.line k (ap (tail_of s) (sym (line_entries s laws t (seats past) (waiting s past) (standing s past) (holder past) (length past) h)) ∙ e) in
          let on : suc k ≡ k + 1 = omega arith in
          let seat : waiting_seat (line_tail s t) ≡ suc k = ap (λ o. waiting_seat (found_row waiting_row t o)) e ∙ sym on in
          rw seat (record { stay = p.0; here = p.1; first = p.2 })

  -- a moment that changes nothing
  stays_so : Shown s t (seats past) (waiting s past) (standing s past) (holder past) (suc (length past))
  stays_so = record { rows = h.rows; few = h.few; reach = h.reach; line = healthy_later s (seats past) (waiting s past) (length past) h.line; register = healthy_later s (seats past) (standing s past) (length past) h.register; writers = h.writers; held = h.held }

  abbrev Yes : Call → Type 0
  Yes call = AllByRecursion (λ (q : Asked). q.holds ≡ true) (questions_over (facts_told s past) call)

  accepted : (call : Call) → Yes call → Fits s (after s t call) (record { call = call; reply = Ok (answer s t call) } ∷ past)
  accepted (Open n) yes' =
      let none = closed (eqb-true (seats past) 0 yes'.0) in
      shown_blank s laws n (waiting s past) (standing s past) (holder past) (suc (length past)) (in_seats 20 n yes'.1.0).1 (leb-true n s.order yes'.1.1.0) none.0 none.1 none.2
  accepted (Join seat) yes' =
      let within = in_seats (seats past) seat yes'.0 in
      let idle = idle_seat (waiting s past seat) (is_seat (holder past) seat) yes'.1.0 in
      joined_line s laws t (seats past) (waiting s past) (standing s past) (holder past) (length past) h seat within.0 within.1 (Join seat) (waiting_choice s t) (s.choice (labels_by_seat (seats past) (waiting s past))) (choice_waits s laws t (seats past) (waiting s past) (standing s past) (holder past) (length past) h) refl yes'.1.1.0 idle.0 idle.1
  accepted (Leave seat) yes' =
      let within = in_seats (seats past) seat yes'.0 in
      let waits = is_some (waiting s past seat) yes'.1.0 in
      left_line s laws t (seats past) (waiting s past) (standing s past) (holder past) (length past) h seat within.0 within.1 (λ e. none-some _ (sym (h.held seat e).2 ∙ waits.1))
  accepted Start yes' =
      let first = first_in_line yes'.1.0 in
      let within = h.line.seats (waiting_seat (line_tail s t)) first.stay first.here in
      took_start s laws t (seats past) (waiting s past) (standing s past) (holder past) (length past) h (waiting_seat (line_tail s t)) within.0 within.1 (is_none (holder past) (not-true (option_is_some (holder past)) yes'.0))
  accepted (Finish seat) yes' =
      let within = in_seats (seats past) seat yes'.0 in
      gave_start s laws t (seats past) (waiting s past) (standing s past) (holder past) (length past) h seat within.0 within.1 (is_seat_true (holder past) seat yes'.1.0)
  accepted (Write seat m) yes' =
      let within = in_seats (seats past) seat yes'.0 in
      wrote s laws t (seats past) (waiting s past) (standing s past) (holder past) (length past) h seat within.0 within.1 m (standing_choice s t seat) (s.choice (labels_by_seat (seats past) (with_stay (standing s past) seat None))) (ap (λ ls. s.choice (labels_in ls)) (beside_alike t seat within.0) ∙ choice_stands s laws t (seats past) (waiting s past) (standing s past) (holder past) (length past) h seat) refl yes'.1.1.0
  accepted (Strike seat) yes' =
      let within = in_seats (seats past) seat yes'.0 in
      struck_out s laws t (seats past) (waiting s past) (standing s past) (holder past) (length past) h seat within.0 within.1
  accepted Read yes' = stays_so
  accepted (Earlier a b) yes' = stays_so
  accepted (Newer a b) yes' = stays_so
  accepted (Label seat) yes' = stays_so

  -- every call keeps them together
  pub step : (call : Call) → Fits s (next s t call) (record { call = call; reply = reply s t call } ∷ past)
  step call = go (first_no (asked_of s t call)) refl
    where
      go : (o : Option Refusal) → first_no (asked_of s t call) ≡ o → Fits s (settled o t (after s t call)) (record { call = call; reply = replied o (answer s t call) } ∷ past)
      go None e = accepted call (all_yes (questions_over (facts_told s past) call) (sym (same_questions call) ∙ e))
      go (Some refusal) e = stays_so

pub fits_new : (s : System) → Laws s → Fits s [] []
fits_new s laws = shown_blank s laws 0 (waiting s []) (standing s []) None 0 (omega arith) (omega arith) (λ q. refl) (λ q. refl) refl
