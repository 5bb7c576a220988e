-- A label at fault as the code tells it, in the words of the rules.
-- Main definition: fault_is.
use Rattle.rules.specs.Names.{PlacedFault, not_below, used_before}
use Rattle.label_faults.specs.declared.LabelFault.{LabelFault}
use Rattle.label_faults.specs.declared.LabelFault.TheVariants.{Stray, Double}

unfoldable pub fault_is : LabelFault → PlacedFault
fault_is (Stray place) = (not_below, place)
fault_is (Double place) = (used_before, place)
