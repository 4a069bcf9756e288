-- Lines put one behind another. Assumes nothing.
use mathlib.Core.Path.{◌≡◌, refl, sym}
use mathlib.Core.List.{List, [], ◌∷◌, ◌++◌, append_assoc}
use Rattle.model.specs.Trace.{Line, text, printed}

pub printed-append : (a b : List Line) → printed (a ++ b) ≡ printed a ++ printed b
unfolding printed
printed-append [] b = refl
printed-append (x ∷ a) b = rw (printed-append a b) (sym (append_assoc (text x) (10 ∷ printed a) (printed b)))
