-- `search::place_in` meets its contract: each half is the definition's. The width falls.
use Rattle.records.proofs.search.+place_in.Given as goal

abbrev pub decreases-place_in : goal.decreases-place_in
decreases-place_in l = l.width
