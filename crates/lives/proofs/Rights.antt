-- Every reply is right.
use Rattle.std.proofs.Common.{◌≡◌, ℕ, suc, ◌+◌, ◌<◌, Bool, true, false, cond, not, ◌&&◌, eqb, leb, ◌⊎◌, ◌↔◌, List, [], ◌∷◌, ◌++◌, length, get_or, is_some as option_is_some, Some, None, Ok, Err, Option, sym, refl, ap, ◌∙◌, subst, inl, inr, arith}
use Rattle.std.proofs.lemmas.Bool.{cases_eq, and_parts, not-true, eqb-false}
use Rattle.std.specs.List.{AllByRecursion}
use Rattle.std.proofs.lemmas.Option.{none-some}
use Rattle.labels.specs.System.{System, Laws}
use Rattle.search.specs.Search.{head_of}
use Rattle.station.specs.declared.call.Call.{Call}
use Rattle.station.specs.declared.call.Call.TheVariants.{Open, Join, Leave, Start, Finish, Write, Strike, Read, Earlier, Newer, Label}
use Rattle.station.specs.declared.answer.Answer.{Answer}
use Rattle.station.specs.declared.answer.Answer.TheVariants.{Reading, Verdict, Labelled}
use Rattle.station.specs.declared.refusal.Reason.TheVariants.{NoSuchSeat, MapTooLarge, NotIdle, StartTaken, NobodyWaits, NothingStands, NoLabelLeft}
use Rattle.station.specs.declared.refusal.Refusal.{Refusal}
use Rattle.station.specs.declared.row.Row.{Row}
use Rattle.station.specs.Numbers.{number}
use Rattle.station.specs.Table.{Table, blank, row_of, waiting_label, standing_label}
use Rattle.station.specs.Questions.{Asked, ask, first_no, Reply, replied}
use Rattle.station.specs.Facts.{Facts, is_seat, questions_over}
use Rattle.station.specs.Rules.{standing_entries, writing_row, written_map, found_row, line_tail, register_head, waiting_seat, writing_seat, map_in_force, or_zero, label_beats, answer, reply, questions as asked_of}
use Rattle.station.proofs.Asking.{row_alike}
use Rattle.lives.specs.History.{History, seats, holder, Stay, Stays, comes, line_change, register_change, labels_by_seat, with_stay, begun, stay_label, waiting, standing, is_seat as holds-seat, facts_told}
use Rattle.lives.specs.Answers.{Latest, InForce, Compared, RightAnswer, refusal, RefusedWith, Begins, Right}
use Rattle.lives.specs.Promises.{writing_told, map_written}
use Rattle.lives.proofs.Stays.{with_same}
use Rattle.lives.proofs.Healthy.{Healthy, healthy_without, never_none}
use Rattle.lives.proofs.Found.{beats_later, head_some, head_none}
use Rattle.lives.proofs.Shown.{nobody_else, row_shown, label_waits, label_stands, register_entries, facts_agree}
use Rattle.lives.proofs.Steps.{Fits, all_yes, in_seats, is_some, is_none, idle_seat, same_questions, first_in_line}

-- Refusals by their numbers

-- no question of the list has this number
abbrev absent_in : ℕ → List Asked → Bool
absent_in n [] = true
absent_in n (q ∷ qs) = not (eqb (number q.reason) n) && absent_in n qs

passed : (b : Bool) (o : Option Refusal) (e d : Refusal) → cond b o (Some e) ≡ Some d → ((b ≡ false) × (e ≡ d)) ⊎ ((b ≡ true) × (o ≡ Some d))
passed true o e d h = inr (refl, h)
passed false o e d h = inl (refl, cc)

-- where the number stands only at the last question, that one is answered no and all before it yes
only_last : (n : ℕ) (qs : List Asked) (q : Asked) → absent_in n qs ≡ true → (e : Refusal) → first_no (qs ++ q ∷ []) ≡ Some e → number e.reason ≡ n → AllByRecursion (λ (x : Asked). x.holds ≡ true) qs × (q.holds ≡ false)
only_last n [] q absent e h is =
    elim (passed q.holds None (record { reason = q.reason; seat = q.seat }) e h) [ inl p ↦ (tt, p.0) | inr p ↦ absurd (none-some _ p.1) ]
only_last n (x ∷ qs) q absent e h is =
    let apart = and_parts (not (eqb (number x.reason) n)) (absent_in n qs) absent in
    elim (passed x.holds (first_no (qs ++ q ∷ [])) (record { reason = x.reason; seat = x.seat }) e h) [
      | inl p ↦ absurd (eqb-false (number x.reason) n (not-true (eqb (number x.reason) n) apart.0) (ap (λ (r : Refusal). number r.reason) p.1 ∙ is))
      | inr p ↦ let rest = only_last n qs q apart.1 e p.1 is in ((p.0, rest.0), rest.1)
    ]

absent : (n : ℕ) (qs : List Asked) → absent_in n qs ≡ true → (e : Refusal) → first_no qs ≡ Some e → number e.reason ≡ n → ⊥
absent n [] none e h is = none-some _ h
absent n (x ∷ qs) none e h is =
    let apart = and_parts (not (eqb (number x.reason) n)) (absent_in n qs) none in
    elim (passed x.holds (first_no qs) (record { reason = x.reason; seat = x.seat }) e h) [
      | inl p ↦ eqb-false (number x.reason) n (not-true (eqb (number x.reason) n) apart.0) (ap (λ (r : Refusal). number r.reason) p.1 ∙ is)
      | inr p ↦ absent n qs apart.1 e p.1 is
    ]

module _ (f : Facts) where
  -- nobody is said to wait only by a start
  no_tail : (call : Call) (e : Refusal) → first_no (questions_over f call) ≡ Some e → number e.reason ≡ 10 → f.has_tail ≡ false
  no_tail (Open n) e h is = absurd (absent 10 (questions_over f (Open n)) refl e h is)
  no_tail (Join seat) e h is = absurd (absent 10 (questions_over f (Join seat)) refl e h is)
  no_tail (Leave seat) e h is = absurd (absent 10 (questions_over f (Leave seat)) refl e h is)
  no_tail Start e h is = (only_last 10 (ask f.start_free StartTaken 0 ∷ []) (ask f.has_tail NobodyWaits 0) refl e h is).1
  no_tail (Finish seat) e h is = absurd (absent 10 (questions_over f (Finish seat)) refl e h is)
  no_tail (Write seat m) e h is = absurd (absent 10 (questions_over f (Write seat m)) refl e h is)
  no_tail (Strike seat) e h is = absurd (absent 10 (questions_over f (Strike seat)) refl e h is)
  no_tail Read e h is = absurd (absent 10 (questions_over f Read) refl e h is)
  no_tail (Earlier a b) e h is = absurd (absent 10 (questions_over f (Earlier a b)) refl e h is)
  no_tail (Newer a b) e h is = absurd (absent 10 (questions_over f (Newer a b)) refl e h is)
  no_tail (Label seat) e h is = absurd (absent 10 (questions_over f (Label seat)) refl e h is)

  -- nothing is said to stand only by a reading
  no_head : (call : Call) (e : Refusal) → first_no (questions_over f call) ≡ Some e → number e.reason ≡ 12 → f.has_head ≡ false
  no_head (Open n) e h is = absurd (absent 12 (questions_over f (Open n)) refl e h is)
  no_head (Join seat) e h is = absurd (absent 12 (questions_over f (Join seat)) refl e h is)
  no_head (Leave seat) e h is = absurd (absent 12 (questions_over f (Leave seat)) refl e h is)
  no_head Start e h is = absurd (absent 12 (questions_over f Start) refl e h is)
  no_head (Finish seat) e h is = absurd (absent 12 (questions_over f (Finish seat)) refl e h is)
  no_head (Write seat m) e h is = absurd (absent 12 (questions_over f (Write seat m)) refl e h is)
  no_head (Strike seat) e h is = absurd (absent 12 (questions_over f (Strike seat)) refl e h is)
  no_head Read e h is = (only_last 12 [] (ask f.has_head NothingStands 0) refl e h is).1
  no_head (Earlier a b) e h is = absurd (absent 12 (questions_over f (Earlier a b)) refl e h is)
  no_head (Newer a b) e h is = absurd (absent 12 (questions_over f (Newer a b)) refl e h is)
  no_head (Label seat) e h is = absurd (absent 12 (questions_over f (Label seat)) refl e h is)

  -- a label is said to be missing by a join or a writing of a seat that may have one
  pub data Missing : Type 0 where
    to_wait : (seat : ℕ) → is_seat f seat ≡ true → f.idle seat ≡ true → f.label_to_wait ≡ false → Missing
    to_write : (seat : ℕ) → is_seat f seat ≡ true → f.label_to_write seat ≡ false → Missing

  no_label : (call : Call) (e : Refusal) → first_no (questions_over f call) ≡ Some e → number e.reason ≡ 13 → Missing
  no_label (Open n) e h is = absurd (absent 13 (questions_over f (Open n)) refl e h is)
  no_label (Join seat) e h is =
      let p = only_last 13 (ask (is_seat f seat) NoSuchSeat seat ∷ ask (f.idle seat) NotIdle seat ∷ []) (ask f.label_to_wait NoLabelLeft seat) refl e h is in
      to_wait seat p.0.0 p.0.1.0 p.1
  no_label (Leave seat) e h is = absurd (absent 13 (questions_over f (Leave seat)) refl e h is)
  no_label Start e h is = absurd (absent 13 (questions_over f Start) refl e h is)
  no_label (Finish seat) e h is = absurd (absent 13 (questions_over f (Finish seat)) refl e h is)
  no_label (Write seat m) e h is =
      let p = only_last 13 (ask (is_seat f seat) NoSuchSeat seat ∷ ask (leb m 65535) MapTooLarge seat ∷ []) (ask (f.label_to_write seat) NoLabelLeft seat) refl e h is in
      to_write seat p.0.0 p.1
  no_label (Strike seat) e h is = absurd (absent 13 (questions_over f (Strike seat)) refl e h is)
  no_label Read e h is = absurd (absent 13 (questions_over f Read) refl e h is)
  no_label (Earlier a b) e h is = absurd (absent 13 (questions_over f (Earlier a b)) refl e h is)
  no_label (Newer a b) e h is = absurd (absent 13 (questions_over f (Newer a b)) refl e h is)
  no_label (Label seat) e h is = absurd (absent 13 (questions_over f (Label seat)) refl e h is)

-- Replies

refusal_replied : (o : Option Refusal) (a : Answer) → refusal (replied o a) ≡ o
refusal_replied None a = refl
refusal_replied (Some e) a = refl

accepted_reply : (o : Option Refusal) (x a : Answer) → replied o x ≡ Ok a → (o ≡ None) × (x ≡ a)
accepted_reply None x a h = (refl, cc)
accepted_reply (Some e) x a h = let z : ◌≡◌ {A = ℕ} 0 1 = cc in absurd (omega arith)

refused_reply : (r : Reply) (e : Refusal) → refusal r ≡ Some e → r ≡ Err e
refused_reply (Ok a) e h = absurd (none-some _ h)
refused_reply (Err d) e h = let same : d ≡ e = cc in ap Err same

refusal_of : (r : Reply) (e : Refusal) → r ≡ Err e → refusal r ≡ Some e
refusal_of r e h = ap refusal h

-- a start is refused 9 exactly while a seat holds it
taken : (r : Reply) (hold : Option ℕ) (tail : Bool) → refusal r ≡ first_no (ask (not (option_is_some hold)) StartTaken 0 ∷ ask tail NobodyWaits 0 ∷ []) → RefusedWith 9 r ↔ ((seat : ℕ) × (hold ≡ Some seat))
taken r None tail h = (
  λ p. absurd (absent 9 (ask tail NobodyWaits 0 ∷ []) refl p.0 (sym h ∙ refusal_of r p.0 p.1) p.2),
  λ p. absurd (none-some _ p.1),
)
taken r (Some seat) tail h = (λ p. (seat, refl), λ p. (record { reason = StartTaken; seat = 0 }, refused_reply r (record { reason = StartTaken; seat = 0 }) h, refl))

-- what begins is there
begun_here : (f : Stays) (named seat now : ℕ) (by : Call) (o : Option ℕ) → comes named ≡ comes seat → option_is_some o ≡ true → (w : Stay) × (with_stay f named (begun now by o) seat ≡ Some w) × (w.since ≡ now) × (w.by ≡ by)
begun_here f named seat now by None at some = let z : ◌≡◌ {A = ℕ} 0 1 = cc in absurd (omega arith)
begun_here f named seat now by (Some x) at some =
    let stay : Stay = record { since = now; by = by; label = x } in
    let same : seat ≡ named = cc in
    (stay, ap (with_stay f named (Some stay)) same ∙ with_same f named (Some stay), refl, refl)

-- the verdict on two stays is yes exactly when the second is the later
compared : (s : System) → Laws s → (n : ℕ) (f : Stays) (now : ℕ) → Healthy s n f now → (a b : ℕ) (v w : Stay) → f a ≡ Some v → f b ≡ Some w → Compared f a b (s.beats w.label v.label)
compared s laws n f now h a b v w e d = record { one = v; other = w; one_here = e; other_here = d; right = (later (cases_eq a b), h.order.later_beats a b v w e d) }
  where
    itself : a ≡ b → s.beats w.label v.label ≡ true → ⊥
    itself at won =
        let there : f b ≡ Some v = ap f (sym at) ∙ e in
        let same : v ≡ w = cc in
        let self : s.beats w.label w.label ≡ true = subst (λ (x : Stay). s.beats w.label x.label ≡ true) same won in
        laws.one_way w.label w.label self self

    later : (a ≡ b) ⊎ (a ≡ b → ⊥) → s.beats w.label v.label ≡ true → v.since < w.since
    later (inl at) won = absurd (itself at won)
    later (inr ne) won = beats_later s laws n f now h a b v w e d ne won

module _ (s : System) (laws : Laws s) (t : Table) (past : History) (h : Fits s t past) where
  -- the writing at the head is the last that began
  head_read : (k : ℕ) → head_of s (standing_entries t) ≡ Some k → Latest (standing s past) (k + 1) (Write (k + 1) (written_map (get_or t k blank).writing))
  head_read k e =
      let p = head_some s laws (seats past) (standing s past) (length past) h.register k (ap (head_of s) (sym (register_entries s laws t (seats past) (waiting s past) (standing s past) (holder past) (length past) h)) ∙ e) in
      let by = h.writers (suc k) p.0 p.1 in
      let written : written_map (get_or t k blank).writing ≡ by.0 = ap (λ (r : Row). written_map r.writing) (row_shown s laws t (seats past) (waiting s past) (standing s past) (holder past) (length past) h (suc k)) ∙ ap (λ o. written_map (writing_told o)) p.1 ∙ ap map_written by.1 in
      let on : suc k ≡ k + 1 = omega arith in
      subst (λ seat. Latest (standing s past) seat (Write seat (written_map (get_or t k blank).writing))) on
      (record { stay = p.0; here = p.1; by = by.1 ∙ ap (Write (suc k)) (sym written); last = p.2 })

  in_force : InForce (standing s past) (map_in_force (register_head s t))
  in_force = go (head_of s (standing_entries t)) refl
    where
      go : (o : Option ℕ) → head_of s (standing_entries t) ≡ o → InForce (standing s past) (map_in_force (found_row writing_row t o))
      go None e = head_none s laws (seats past) (standing s past) (length past) h.register (ap (head_of s) (sym (register_entries s laws t (seats past) (waiting s past) (standing s past) (holder past) (length past) h)) ∙ e)
      go (Some k) e = (k + 1, head_read k e)

  abbrev Yes : Call → Type 0
  Yes call = AllByRecursion (λ (q : Asked). q.holds ≡ true) (questions_over (facts_told s past) call)

  reading : (facts_told s past).has_head ≡ true → RightAnswer s past Read (answer s t Read)
  reading some = go (head_of s (standing_entries t)) refl
    where
      head_there : option_is_some (register_head s t) ≡ true
      head_there = ap (λ (x : Facts). x.has_head) (facts_agree s laws t (seats past) (waiting s past) (standing s past) (holder past) (length past) h) ∙ some

      go : (o : Option ℕ) → head_of s (standing_entries t) ≡ o → RightAnswer s past Read (answer s t Read)
      go None e =
          let there : option_is_some (found_row writing_row t None) ≡ true = ap (λ o. option_is_some (found_row writing_row t o)) (sym e) ∙ head_there in
          let z : ◌≡◌ {A = ℕ} 0 1 = cc in
          absurd (omega arith)
      go (Some k) e = record { seat = k + 1; map = written_map (get_or t k blank).writing; is = ap (λ o. Reading (record { seat = writing_seat (found_row writing_row t o); map = or_zero (map_in_force (found_row writing_row t o)) })) e; latest = head_read k e }

  answered : (call : Call) → Yes call → RightAnswer s past call (answer s t call)
  answered (Open n) yes' = refl
  answered (Join seat) yes' = refl
  answered (Leave seat) yes' = refl
  answered Start yes' = record { seat = waiting_seat (line_tail s t); map = map_in_force (register_head s t); is = refl; longest = first_in_line s laws t past h yes'.1.0; in_force = in_force }
  answered (Finish seat) yes' = refl
  answered (Write seat m) yes' = refl
  answered (Strike seat) yes' = refl
  answered Read yes' = reading yes'.0
  answered (Earlier a b) yes' =
      let v = is_some (waiting s past a) yes'.1.1.0 in
      let w = is_some (waiting s past b) yes'.1.1.1.0 in
      let at_a = ap waiting_label (row_alike t a (in_seats (seats past) a yes'.0).0) ∙ label_waits s laws t (seats past) (waiting s past) (standing s past) (holder past) (length past) h a ∙ ap stay_label v.1 in
      let at_b = ap waiting_label (row_alike t b (in_seats (seats past) b yes'.1.0).0) ∙ label_waits s laws t (seats past) (waiting s past) (standing s past) (holder past) (length past) h b ∙ ap stay_label w.1 in
      (s.beats w.0.label v.0.label, ap (λ x. Verdict (label_beats s x (waiting_label (row_of t a)))) at_b ∙ ap (λ x. Verdict (label_beats s (Some w.0.label) x)) at_a, compared s laws (seats past) (waiting s past) (length past) h.line a b v.0 w.0 v.1 w.1)
  answered (Newer a b) yes' =
      let v = is_some (standing s past a) yes'.1.1.0 in
      let w = is_some (standing s past b) yes'.1.1.1.0 in
      let at_a = ap standing_label (row_alike t a (in_seats (seats past) a yes'.0).0) ∙ label_stands s laws t (seats past) (waiting s past) (standing s past) (holder past) (length past) h a ∙ ap stay_label v.1 in
      let at_b = ap standing_label (row_alike t b (in_seats (seats past) b yes'.1.0).0) ∙ label_stands s laws t (seats past) (waiting s past) (standing s past) (holder past) (length past) h b ∙ ap stay_label w.1 in
      (s.beats v.0.label w.0.label, ap (λ x. Verdict (label_beats s x (standing_label (row_of t b)))) at_a ∙ ap (λ x. Verdict (label_beats s (Some v.0.label) x)) at_b, compared s laws (seats past) (standing s past) (length past) h.register b a w.0 v.0 w.1 v.1)
  answered (Label seat) yes' =
      let w = is_some (standing s past seat) yes'.1.0 in
      (w.0, w.1, ap (λ x. Labelled (or_zero x)) (ap standing_label (row_alike t seat (in_seats (seats past) seat yes'.0).0) ∙ label_stands s laws t (seats past) (waiting s past) (standing s past) (holder past) (length past) h seat ∙ ap stay_label w.1))

  yes_where_accepted : (call : Call) → first_no (asked_of s t call) ≡ None → Yes call
  yes_where_accepted call e = all_yes (questions_over (facts_told s past) call) (sym (same_questions s laws t past h call) ∙ e)

  joins : (call : Call) (o : Option Refusal) → first_no (asked_of s t call) ≡ o → Begins (waiting s) line_change past (record { call = call; reply = replied o (answer s t call) })
  joins call (Some e) is seat change = let z : ◌≡◌ {A = ℕ} 0 1 = cc in absurd (omega arith)
  joins (Open n) None is seat change = let z : ◌≡◌ {A = ℕ} 0 1 = cc in absurd (omega arith)
  joins (Join named) None is seat change = begun_here (waiting s past) named seat (length past) (Join named) (s.choice (labels_by_seat (seats past) (waiting s past))) change (yes_where_accepted (Join named) is).1.1.0
  joins (Leave named) None is seat change = let z : ◌≡◌ {A = ℕ} 0 1 = cc in absurd (omega arith)
  joins Start None is seat change = let z : ◌≡◌ {A = ℕ} 0 1 = cc in absurd (omega arith)
  joins (Finish named) None is seat change = let z : ◌≡◌ {A = ℕ} 0 1 = cc in absurd (omega arith)
  joins (Write named m) None is seat change = let z : ◌≡◌ {A = ℕ} 0 1 = cc in absurd (omega arith)
  joins (Strike named) None is seat change = let z : ◌≡◌ {A = ℕ} 0 1 = cc in absurd (omega arith)
  joins Read None is seat change = let z : ◌≡◌ {A = ℕ} 0 1 = cc in absurd (omega arith)
  joins (Earlier a b) None is seat change = let z : ◌≡◌ {A = ℕ} 0 1 = cc in absurd (omega arith)
  joins (Newer a b) None is seat change = let z : ◌≡◌ {A = ℕ} 0 1 = cc in absurd (omega arith)
  joins (Label named) None is seat change = let z : ◌≡◌ {A = ℕ} 0 1 = cc in absurd (omega arith)

  writes : (call : Call) (o : Option Refusal) → first_no (asked_of s t call) ≡ o → Begins (standing s) register_change past (record { call = call; reply = replied o (answer s t call) })
  writes call (Some e) is seat change = let z : ◌≡◌ {A = ℕ} 0 1 = cc in absurd (omega arith)
  writes (Open n) None is seat change = let z : ◌≡◌ {A = ℕ} 0 1 = cc in absurd (omega arith)
  writes (Join named) None is seat change = let z : ◌≡◌ {A = ℕ} 0 1 = cc in absurd (omega arith)
  writes (Leave named) None is seat change = let z : ◌≡◌ {A = ℕ} 0 1 = cc in absurd (omega arith)
  writes Start None is seat change = let z : ◌≡◌ {A = ℕ} 0 1 = cc in absurd (omega arith)
  writes (Finish named) None is seat change = let z : ◌≡◌ {A = ℕ} 0 1 = cc in absurd (omega arith)
  writes (Write named m) None is seat change = begun_here (standing s past) named seat (length past) (Write named m) (s.choice (labels_by_seat (seats past) (with_stay (standing s past) named None))) change (yes_where_accepted (Write named m) is).1.1.0
  writes (Strike named) None is seat change = let z : ◌≡◌ {A = ℕ} 0 1 = cc in absurd (omega arith)
  writes Read None is seat change = let z : ◌≡◌ {A = ℕ} 0 1 = cc in absurd (omega arith)
  writes (Earlier a b) None is seat change = let z : ◌≡◌ {A = ℕ} 0 1 = cc in absurd (omega arith)
  writes (Newer a b) None is seat change = let z : ◌≡◌ {A = ℕ} 0 1 = cc in absurd (omega arith)
  writes (Label named) None is seat change = let z : ◌≡◌ {A = ℕ} 0 1 = cc in absurd (omega arith)

  never_missing : s.endless ≡ true → Missing (facts_told s past) → ⊥
  never_missing endless (to_wait seat seated idle none) =
      let within = in_seats (seats past) seat seated in
      never_none s laws (seats past) (waiting s past) (length past) h.reach h.line seat within.0 within.1 (idle_seat (waiting s past seat) (holds-seat (holder past) seat) idle).0 endless (is_none (s.choice (labels_by_seat (seats past) (waiting s past))) none)
  never_missing endless (to_write seat seated none) =
      let within = in_seats (seats past) seat seated in
      never_none s laws (seats past) (with_stay (standing s past) seat None) (length past) h.reach (healthy_without s laws (seats past) (standing s past) (length past) h.register seat within.0 within.1) seat within.0 within.1 (with_same (standing s past) seat None) endless (is_none (s.choice (labels_by_seat (seats past) (with_stay (standing s past) seat None))) none)

  refused : (call : Call) → refusal (reply s t call) ≡ first_no (questions_over (facts_told s past) call)
  refused call = refusal_replied (first_no (asked_of s t call)) (answer s t call) ∙ same_questions s laws t past h call

  pub right : (call : Call) → Right s past (record { call = call; reply = reply s t call })
  right call = record {
    refused = refused call;
    answered = λ a e. let p = accepted_reply (first_no (asked_of s t call)) (answer s t call) a e in subst (λ (x : Answer). RightAnswer s past call x) p.1 (answered call (yes_where_accepted call p.0));
    joins = joins call (first_no (asked_of s t call)) refl;
    writes = writes call (first_no (asked_of s t call)) refl;
    start_taken = λ is. taken (reply s t call) (holder past) (facts_told s past).has_tail (refused call ∙ ap (λ (c : Call). first_no (questions_over (facts_told s past) c)) is);
    nobody_waits = λ p. nobody_else s (seats past) (waiting s past) (length past) h.line (no_tail (facts_told s past) call p.0 (sym (refused call) ∙ refusal_of (reply s t call) p.0 p.1) p.2);
    nothing_stands = λ p. nobody_else s (seats past) (standing s past) (length past) h.register (no_head (facts_told s past) call p.0 (sym (refused call) ∙ refusal_of (reply s t call) p.0 p.1) p.2);
    never_spent = λ endless p. never_missing endless (no_label (facts_told s past) call p.0 (sym (refused call) ∙ refusal_of (reply s t call) p.0 p.1) p.2);
  }
