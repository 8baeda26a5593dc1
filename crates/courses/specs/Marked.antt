-- A marked loop over one loop variable, with elements that are private to each iteration.
use Rattle.std.specs.Prelude.{ℕ, ℤ, pos, ◌+ℤ◌, List, ◌∷◌}
use Rattle.courses.specs.Element.{Whole, Element}
use Rattle.courses.specs.Interaction.{Turn}
use Rattle.courses.specs.Course.{Course, Nothing, Way, Normal, Give, Put, Tell, Loop, and_then}
use Rattle.courses.specs.Copying.{among, wiped}

-- iteration i, counted from 0: what is private is undefined, the loop variable is low + i, and then the body
abbrev pub iteration : Element → List Element → ℤ → Course Way → ℕ → Course Nothing
iteration id es low q i = Tell Turn (wiped es (Put id (Whole (low +ℤ pos i)) (and_then q (λ g. Give tt))))

-- n iterations, after which the loop variable and what is private are undefined
abbrev pub marked : Element → List Element → ℤ → ℕ → Course Way → Course Way
marked id es low n q = Loop n (among (id ∷ es)) (iteration id es low q) (wiped (id ∷ es) (Give Normal))
