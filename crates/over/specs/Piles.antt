-- The four piles: ready systems, made of the plain ones.
use Rattle.std.specs.Prelude.{◌^◌}
use Rattle.labels.specs.System.{System}
use Rattle.labels.specs.Plain.{triangle, heptad, counter}
use Rattle.over.specs.Over.{over}

abbrev pub pile_1 : System
pile_1 = over triangle (over triangle (over triangle triangle))

abbrev pub pile_2 : System
pile_2 = over heptad heptad

abbrev pub pile_3 : System
pile_3 = counter 20 (2 ^ 28)

abbrev pub two_of_pile_2 : System
two_of_pile_2 = over pile_2 pile_2

abbrev pub pile_4 : System
pile_4 = over triangle (over heptad (over two_of_pile_2 two_of_pile_2))
