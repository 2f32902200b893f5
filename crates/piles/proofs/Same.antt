-- Two piles with the same system are the same, since that it answers as the pile has one proof at most.
use Rattle.std.proofs.Common.{◌≡◌, ap, subst}
use Rattle.std.proofs.Props.{props}
use Rattle.labels.specs.System.{System}
use Rattle.piles.specs.Answers.{AnswersAs}
use Rattle.piles.specs.declared.pile.Pile.{Pile}

in_one_way : (s t : System) → IsProp (AnswersAs s t)
in_one_way s t = Prim.hlevel props

pub same_pile : {S : Type 0} {ships : _} {answers : _} (a b : Pile S ships answers) → a.system ≡ b.system → a ≡ b
same_pile {S} {ships} {answers} a b e =
    let with_same : (s : S) → Type 0 = λ s. (q : AnswersAs (answers.meaning s) ships.pile) → ◌≡◌ {A = Pile S ships answers} a (record { system = s; as_shipped = q }) in
    subst with_same e (λ q. ap (λ p. record { system = a.system; as_shipped = p }) (in_one_way _ _ a.as_shipped q)) b.as_shipped
