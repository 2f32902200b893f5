-- A table that shows who waits, what stands and who holds the start tells the same facts as they do.
use Rattle.std.proofs.Common.{◌≡◌, ℕ, zero, suc, ◌+◌, ◌-◌, ◌<◌, ◌≤◌, Bool, true, false, not, ◌&&◌, List, [], ◌∷◌, map, length, get_or, set, is_some, Some, None, Option, sym, refl, ap, ◌∙◌, inl, inr, arith}
use Rattle.std.proofs.lemmas.List.{get_or_past, set_past, length-map}
use Rattle.std.proofs.lemmas.List.Elements.{All-from_get_or}
use Rattle.std.proofs.lemmas.List.Folds.{list_any_none, list_any_at}
use Rattle.std.proofs.lemmas.Bool.{cases_eq, cases_lt, cases_Bool, eq-eqb, eqb-true, or_left, or_right, or_from}
use Rattle.std.proofs.lemmas.Option.{none-some}
use Rattle.labels.specs.System.{System, Laws}
use Rattle.search.specs.Search.{labels_in, head_of, tail_of}
use Rattle.station.specs.declared.call.Call.TheVariants.{Write}
use Rattle.station.specs.declared.row.Row.{Row}
use Rattle.station.specs.Table.{Table, blank, line_label, writing_label, waiting_label, standing_label, is_idle, is_holding}
use Rattle.station.specs.Facts.{Facts}
use Rattle.station.specs.Rules.{waiting_entries, standing_entries, waiting_row, writing_row, found_row, line_tail, register_head, waiting_choice, some_holds}
use Rattle.station.specs.Told.{row_at, entries_beside, facts}
use Rattle.lives.specs.History.{Stay, Stays, stay_label, from, rising, entries, labels_by_seat, with_stay, others, someone, is_seat}
use Rattle.lives.specs.Promises.{line_told, writing_told}
use Rattle.lives.proofs.BySeat.{length_by_seat, at_place, same_by_seat, map_map}
use Rattle.lives.proofs.Stays.{without_none, entries_with}
use Rattle.lives.proofs.Healthy.{Healthy, none_beyond}
use Rattle.lives.proofs.Found.{tail_some, tail_none, head_some, head_none}

-- the row of a seat with these stays in the line and in the register
abbrev pub told_row : Option Stay → Bool → Option Stay → Row
told_row waits holds stands = record { line = line_told waits holds; writing = writing_told stands }

abbrev pub told_rows : Stays → Stays → Option ℕ → ℕ → Row
told_rows f g hold seat = told_row (f seat) (is_seat hold seat) (g seat)

-- the table shows the stays f of the line and g of the register, all begun before now, and who holds the start
pub record Shown (s : System) (t : Table) (n : ℕ) (f g : Stays) (hold : Option ℕ) (now : ℕ) : Type 0 where
  pub rows : t ≡ map (told_rows f g hold) (rising n)
  pub few : n ≤ 20
  pub reach : n ≤ s.order
  pub line : Healthy s n f now
  pub register : Healthy s n g now
  pub writers : (a : ℕ) (w : Stay) → g a ≡ Some w → (m : ℕ) × (w.by ≡ Write a m)
  pub held : (seat : ℕ) → hold ≡ Some seat → (1 ≤ seat) × (seat ≤ n) × (f seat ≡ None)

-- what told rows tell

line_label_told : (o : Option Stay) (b : Bool) → line_label (line_told o b) ≡ stay_label o
line_label_told None true = refl
line_label_told None false = refl
line_label_told (Some w) b = refl

writing_label_told : (o : Option Stay) → writing_label (writing_told o) ≡ stay_label o
writing_label_told None = refl
writing_label_told (Some w) = refl

has_label : (o : Option Stay) → is_some (stay_label o) ≡ is_some o
has_label None = refl
has_label (Some w) = refl

idle_row : (o : Option Stay) (b : Bool) (p : Option Stay) → is_idle (told_row o b p) ≡ (not (is_some o) && not b)
idle_row None true p = refl
idle_row None false p = refl
idle_row (Some w) b p = refl

holding_row : (o : Option Stay) (b : Bool) (p : Option Stay) → (b ≡ true → o ≡ None) → is_holding (told_row o b p) ≡ b
holding_row None true p h = refl
holding_row None false p h = refl
holding_row (Some w) true p h = absurd (none-some _ (sym (h refl)))
holding_row (Some w) false p h = refl

same_row : (o o' : Option Stay) (b b' : Bool) (p p' : Option Stay) → o ≡ o' → b ≡ b' → p ≡ p' → told_row o b p ≡ told_row o' b' p'
same_row o o' b b' p p' eo eb ep = ap (λ x. told_row x b p) eo ∙ ap (λ x. told_row o' x p) eb ∙ ap (λ x. told_row o' b' x) ep

-- who is somewhere among the seats

pub is_seat_true : (hold : Option ℕ) (seat : ℕ) → is_seat hold seat ≡ true → hold ≡ Some seat
is_seat_true None seat e = let z : ◌≡◌ {A = ℕ} 0 1 = cc in absurd (omega arith)
is_seat_true (Some named) seat e = ap Some (eqb-true named seat e)

someone_from : (f : Stays) (a n seat : ℕ) (w : Stay) → a ≤ seat → seat < a + n → f seat ≡ Some w → someone f (from a n) ≡ true
someone_from f a zero seat w low high e = absurd (omega arith)
someone_from f a (suc n) seat w low high e =
    elim (cases_eq seat a) [
      | inl at ↦ or_left (is_some (f a)) (someone f (from (suc a) n)) (ap (λ q. is_some (f q)) (sym at) ∙ ap is_some e)
      | inr ne ↦ or_right (is_some (f a)) (someone f (from (suc a) n)) (someone_from f (suc a) n seat w (omega (arith, ne)) (omega arith) e)
    ]

nobody_from : (f : Stays) (seats : List ℕ) → ((q : ℕ) → f q ≡ None) → someone f seats ≡ false
nobody_from f [] none = refl
nobody_from f (q ∷ seats) none = or_from (is_some (f q)) (someone f seats) (ap is_some (none q)) (nobody_from f seats none)

-- where none of the seats has a stay there is nobody
pub nobody_else : (s : System) (n : ℕ) (f : Stays) (now : ℕ) → Healthy s n f now → someone f (rising n) ≡ false → (q : ℕ) → f q ≡ None
nobody_else s n f now h none q = go (f q) refl
  where
    clash : someone f (rising n) ≡ true → ⊥
    clash some = let z : ◌≡◌ {A = ℕ} 0 1 = cc in omega arith

    go : (o : Option Stay) → f q ≡ o → f q ≡ None
    go None e = e
    go (Some w) e = let within = h.seats q w e in absurd (clash (someone_from f 1 n q w within.0 (omega arith) e))

found_some : {X : Type 0} (make : ℕ → Row → X) (t : Table) (o : Option ℕ) → is_some (found_row make t o) ≡ is_some o
found_some make t None = refl
found_some make t (Some k) = refl

module _ (s : System) (laws : Laws s) (t : Table) (n : ℕ) (f g : Stays) (hold : Option ℕ) (now : ℕ) (h : Shown s t n f g hold now) where
  pub size : length t ≡ n
  size = ap length h.rows ∙ length_by_seat (told_rows f g hold) n

  pub not_holding : (seat : ℕ) → (hold ≡ Some seat → ⊥) → is_seat hold seat ≡ false
  not_holding seat no_one = elim (cases_Bool (is_seat hold seat)) [ inl e ↦ absurd (no_one (is_seat_true hold seat e)) | inr e ↦ e ]

  blank_beyond : (seat : ℕ) → (1 ≤ seat → seat ≤ n → ⊥) → told_rows f g hold seat ≡ blank
  blank_beyond seat out =
      same_row (f seat) None (is_seat hold seat) false (g seat) None
      (none_beyond s n f now h.line seat out) (not_holding seat (λ e. out (h.held seat e).0 (h.held seat e).1)) (none_beyond s n g now h.register seat out)

  -- each seat's row
  pub row_shown : (seat : ℕ) → row_at t seat ≡ told_rows f g hold seat
  row_shown zero = sym (blank_beyond 0 (λ l u. omega arith))
  row_shown (suc k) =
      elim (cases_lt k n) [
        | inl l ↦ ap (λ r. get_or r k blank) h.rows ∙ at_place (told_rows f g hold) n k blank l
        | inr l ↦ get_or_past t k blank (omega (arith, size)) ∙ sym (blank_beyond (suc k) (λ a b. omega arith))
      ]

  pub holds_told : (seat : ℕ) → is_holding (row_at t seat) ≡ is_seat hold seat
  holds_told seat = ap is_holding (row_shown seat) ∙ holding_row (f seat) (is_seat hold seat) (g seat) (λ e. (h.held seat (is_seat_true hold seat e)).2)

  pub label_waits : (seat : ℕ) → waiting_label (row_at t seat) ≡ stay_label (f seat)
  label_waits seat = ap waiting_label (row_shown seat) ∙ line_label_told (f seat) (is_seat hold seat)

  pub label_stands : (seat : ℕ) → standing_label (row_at t seat) ≡ stay_label (g seat)
  label_stands seat = ap standing_label (row_shown seat) ∙ writing_label_told (g seat)

  -- what the searches look through, and what a choice is made beside
  pub line_entries : waiting_entries t ≡ entries n f
  line_entries = ap waiting_entries h.rows ∙ map_map waiting_label (told_rows f g hold) (rising n) ∙ same_by_seat (λ q. waiting_label (told_rows f g hold q)) (λ q. stay_label (f q)) n None (λ q l u. line_label_told (f q) (is_seat hold q))

  pub register_entries : standing_entries t ≡ entries n g
  register_entries = ap standing_entries h.rows ∙ map_map standing_label (told_rows f g hold) (rising n) ∙ same_by_seat (λ q. standing_label (told_rows f g hold q)) (λ q. stay_label (g q)) n None (λ q l u. writing_label_told (g q))

  pub choice_waits : waiting_choice s t ≡ s.choice (labels_by_seat n f)
  choice_waits = ap (λ ls. s.choice (labels_in ls)) line_entries

  other_entries : (seat : ℕ) → entries_beside t seat ≡ entries n (with_stay g seat None)
  other_entries zero = register_entries ∙ ap (entries n) (sym (without_none g 0 (none_beyond s n g now h.register 0 (λ l u. omega arith))))
  other_entries (suc k) =
      elim (cases_lt k n) [
        | inl l ↦
            let at : k ≡ suc k - 1 = omega arith in
            ap (λ e. set e k None) register_entries ∙ ap (λ p. set (entries n g) p None) at ∙ sym (entries_with n g (suc k) None (omega arith) (omega arith))
        | inr l ↦
            set_past (standing_entries t) k None (omega (arith, size, length-map t standing_label)) ∙ register_entries
            ∙ ap (entries n) (sym (without_none g (suc k) (none_beyond s n g now h.register (suc k) (λ a b. omega arith))))
      ]

  pub choice_stands : (seat : ℕ) → s.choice (labels_in (entries_beside t seat)) ≡ s.choice (labels_by_seat n (with_stay g seat None))
  choice_stands seat = ap (λ ls. s.choice (labels_in ls)) (other_entries seat)

  -- the facts
  waits_told : (seat : ℕ) → is_some (waiting_label (row_at t seat)) ≡ is_some (f seat)
  waits_told seat = ap is_some (label_waits seat) ∙ has_label (f seat)

  stands_told : (seat : ℕ) → is_some (standing_label (row_at t seat)) ≡ is_some (g seat)
  stands_told seat = ap is_some (label_stands seat) ∙ has_label (g seat)

  idle_told : (seat : ℕ) → is_idle (row_at t seat) ≡ (not (is_some (f seat)) && not (is_seat hold seat))
  idle_told seat = ap is_idle (row_shown seat) ∙ idle_row (f seat) (is_seat hold seat) (g seat)

  some_holds_told : some_holds t ≡ is_some hold
  some_holds_told = go hold refl
    where
      go : (o : Option ℕ) → hold ≡ o → some_holds t ≡ is_some o
      go None e = list_any_none is_holding t (All-from_get_or (λ row. is_holding row ≡ false) t blank (λ i l. holds_told (suc i) ∙ not_holding (suc i) (λ d. none-some _ (sym e ∙ d))))
      go (Some seat) e =
          let within = h.held seat e in
          let at : suc (seat - 1) ≡ seat = omega arith in
          list_any_at is_holding t (seat - 1) blank (omega (arith, size, within.0, within.1)) (holds_told (suc (seat - 1)) ∙ ap (λ q. is_seat hold q) at ∙ ap (λ (o : Option ℕ). is_seat o seat) e ∙ eq-eqb seat seat refl)

  tail_told : is_some (line_tail s t) ≡ someone f (rising n)
  tail_told = found_some waiting_row t (tail_of s (waiting_entries t)) ∙ ap (λ e. is_some (tail_of s e)) line_entries ∙ go (tail_of s (entries n f)) refl
    where
      go : (o : Option ℕ) → tail_of s (entries n f) ≡ o → is_some o ≡ someone f (rising n)
      go None e = sym (nobody_from f (rising n) (tail_none s laws n f now h.line e))
      go (Some k) e =
          let p = tail_some s laws n f now h.line k e in
          let within = h.line.seats (suc k) p.0 p.1 in
          sym (someone_from f 1 n (suc k) p.0 within.0 (omega arith) p.1)

  head_told : is_some (register_head s t) ≡ someone g (rising n)
  head_told = found_some writing_row t (head_of s (standing_entries t)) ∙ ap (λ e. is_some (head_of s e)) register_entries ∙ go (head_of s (entries n g)) refl
    where
      go : (o : Option ℕ) → head_of s (entries n g) ≡ o → is_some o ≡ someone g (rising n)
      go None e = sym (nobody_from g (rising n) (head_none s laws n g now h.register e))
      go (Some k) e =
          let p = head_some s laws n g now h.register k e in
          let within = h.register.seats (suc k) p.0 p.1 in
          sym (someone_from g 1 n (suc k) p.0 within.0 (omega arith) p.1)

  -- what the stays tell of all that the questions are about
  abbrev pub Told : Facts
  Told = record {
    seats = n;
    order = s.order;
    idle = λ seat. not (is_some (f seat)) && not (is_seat hold seat);
    waits = λ seat. is_some (f seat);
    holds = λ seat. is_seat hold seat;
    stands = λ seat. is_some (g seat);
    start_free = not (is_some hold);
    has_tail = someone f (rising n);
    has_head = someone g (rising n);
    label_to_wait = is_some (s.choice (labels_by_seat n f));
    label_to_write = λ seat. is_some (s.choice (labels_by_seat n (others g seat)));
  }

  pub facts_agree : facts s t ≡ Told
  facts_agree = λ i. record {
    seats = size i;
    order = s.order;
    idle = λ seat. idle_told seat i;
    waits = λ seat. waits_told seat i;
    holds = λ seat. holds_told seat i;
    stands = λ seat. stands_told seat i;
    start_free = not (some_holds_told i);
    has_tail = tail_told i;
    has_head = head_told i;
    label_to_wait = is_some (choice_waits i);
    label_to_write = λ seat. is_some (choice_stands seat i);
  }
