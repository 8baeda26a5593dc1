use Rattle.std.proofs.Common.{◌≡◌, ◌<◌, ◌∙◌, [], length, Option, subst, sym, ap}
use Rattle.std.specs.Prelude.{MatchOption}
use Rattle.fort_tree.specs.declared.fault.Fault.{Fault}
use Rattle.fort_tree.specs.declared.place.Place.{Place}
use Rattle.scalar_units.specs.Unbuilt.{IsFirst}
use Rattle.claw_top.specs.KeptBack.{kept_back}
use Rattle.claw_top.specs.Sources.{begins_at}
use Rattle.claw_top.proofs.Refusing.{kept-within}
use Rattle.claw_top.proofs.compiling.translate.Goals as goal

-- src/compiling.rt
pub returns-in-Some-clause-in_files : goal.returns-in-Some-clause-in_files
returns-in-Some-clause-in_files c =
    let places = kept_back c.args.program.now.file in
    let first : IsFirst c.in-Some.place places = subst (λ (o : Option Place). MatchOption o (places ≡ []) (λ at. IsFirst at places)) c.in-Some.is c.in_ok-first_kept_back.ensures in
    subst (λ (fault : Fault). fault.place.file < length c.args.sources.now) (sym c.outside_profile.ensures)
    (subst (λ (at : Place). at.file < length c.args.sources.now) (ap (begins_at c.in-Some.place) (sym c.items.ensures) ∙ sym c.begins_at-begin.ensures)
    (kept-within (length c.args.sources.now) c.args.lines.now c.args.program.now.file c.in-Some.place c.requires.in_files c.requires.spelled first))
