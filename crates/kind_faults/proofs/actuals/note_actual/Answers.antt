use Rattle.std.proofs.Common.{List, ◌∷◌, map, sym, ap, ◌∙◌}
use Rattle.std.specs.Prelude.{flat_map}
use Rattle.claw_meaning.specs.Plain.{plain_decl}
use Rattle.claw_meaning.specs.Syntax.{Text}
use Rattle.sound_programs.specs.Faults.{found}
use Rattle.sound_programs.specs.Placed.{Subscripts}
use Rattle.sound_programs.specs.Walks.{matched}
use Rattle.fort_names.specs.Leasts.{noted}
use Rattle.fort_names.specs.Sights.{means}
use Rattle.kind_faults.specs.Fitting.{code_of_fit, unfit}
use Rattle.fort_kinds.proofs.Levels.{of_alone}
use Rattle.kind_faults.proofs.actuals.note_actual.Goals as goal

-- src/actuals.rt
pub returns-in-One : goal.returns-in-One
returns-in-One c =
    λ (xs : List Text) (rest : Subscripts). c.note_next.ensures (matched xs (map plain_decl c.args.callee.now.decls) rest)
    ∙ ap (λ (s : Subscripts). noted (found (code_of_fit c.args.fit) (flat_map (unfit (means c.args.sight.now) c.args.fit) (matched (c.args.dummy.now ∷ xs) (map plain_decl c.args.callee.now.decls) s))) c.args.least.now)
    (sym (of_alone c.args.arg.now c.in-One.expr c.in-One.is rest))
