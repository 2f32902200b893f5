-- The four piles show the laws.
use Rattle.std.proofs.Common.{◌^◌, lit≤}
use Rattle.labels.specs.System.{Laws}
use Rattle.labels.specs.Plain.{triangle, heptad}
use Rattle.labels.proofs.Triangle.{triangle_laws}
use Rattle.labels.proofs.Heptad.{heptad_laws}
use Rattle.labels.proofs.Counter.{counter_laws}
use Rattle.over.specs.Over.{over}
use Rattle.over.specs.Piles.{pile_1, pile_2, pile_3, two_of_pile_2, pile_4}
use Rattle.over.proofs.OverLaws.{over_laws}

pub pile_1_laws : Laws pile_1
pile_1_laws = over_laws triangle (over triangle (over triangle triangle)) triangle_laws (over_laws triangle (over triangle triangle) triangle_laws (over_laws triangle triangle triangle_laws triangle_laws))

pub pile_2_laws : Laws pile_2
pile_2_laws = over_laws heptad heptad heptad_laws heptad_laws

pub pile_3_laws : Laws pile_3
pile_3_laws = counter_laws 20 (2 ^ 28) (lit≤ tt) (lit≤ tt) (lit≤ tt)

two_of_pile_2_laws : Laws two_of_pile_2
two_of_pile_2_laws = over_laws pile_2 pile_2 pile_2_laws pile_2_laws

pub pile_4_laws : Laws pile_4
pile_4_laws =
    over_laws triangle (over heptad (over two_of_pile_2 two_of_pile_2)) triangle_laws (over_laws heptad (over two_of_pile_2 two_of_pile_2) heptad_laws (over_laws two_of_pile_2 two_of_pile_2 two_of_pile_2_laws two_of_pile_2_laws))
