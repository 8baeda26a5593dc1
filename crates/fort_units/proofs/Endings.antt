-- What ends leave open doesn't depend on the innermost list.
use Rattle.std.proofs.Common.{◌≡◌, Option, None, Some, refl}
use Rattle.fort_units.specs.declared.around.Around.{Around}
use Rattle.fort_units.specs.declared.around.Heading.{Heading}
use Rattle.fort_units.specs.declared.around.Listing.{Listing}
use Rattle.fort_units.specs.Opens.{ended}

pub ended_anyway : (h : Option Heading) (o : Around) (l : Listing) → ended h (record o { list = l }) ≡ ended h o
ended_anyway None o l = refl
ended_anyway (Some x) o l = refl
