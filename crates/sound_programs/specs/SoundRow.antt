-- The small sound program: its forms nest into its file, and the file is sound.
use Rattle.std.specs.Prelude.{List, [], ◌∷◌, codes, Some, None}
use Rattle.fort_tree.specs.declared.choice.Mode.TheVariants.{Source}
use Rattle.fort_arith.specs.declared.op.Op.TheVariants.{Add, Mul}
use Rattle.fort_tree.specs.declared.unit.Intent.TheVariants.{In, InOut}
use Rattle.fort_tree.specs.declared.statement.EndWord.TheVariants as word
use Rattle.fort_tree.specs.declared.statement.Statement.TheOpen.{Statement-F}
use Rattle.sound_programs.specs.Forms.{Form, Says}
use Rattle.sound_programs.specs.Nesting.{Nests}
use Rattle.sound_programs.specs.Placed.{Name, Reference, One, No_more, Binary}
use Rattle.sound_programs.specs.Rows.{HasNone}
use Rattle.sound_programs.specs.SmallPrograms.{place, named, dummy, local, use_only, number, sound, n_decl, q_decl, q_of_k}
use Rattle.sound_programs.specs.Sound.{Sound}
use Rattle.sound_programs.specs.Writing.{written, written_decl, written_subs, file_of}

abbrev pub sound_forms : List Form
sound_forms =
    Says (place 1 1) (Statement-F.Module (named (codes "mo") (place 1 8)))
    ∷ Says (place 2 3) (Statement-F.Declare (written_decl n_decl ∷ []))
    ∷ Says (place 3 1) Statement-F.Contains
    ∷ Says (place 4 3) (Statement-F.Function None (named (codes "twice") (place 4 12)) (named (codes "x") (place 4 18) ∷ []) None)
    ∷ Says (place 5 5) (Statement-F.Declare (written_decl (local (codes "twice") (place 5 16)) ∷ []))
    ∷ Says (place 6 5) (Statement-F.Declare (written_decl (dummy (codes "x") (place 6 28) In) ∷ []))
    ∷ Says (place 7 5) (Statement-F.Assign (written (Name (codes "twice") (place 7 5))) (written (Binary Mul (Name (codes "x") (place 7 13)) (number 2 (place 7 15)))))
    ∷ Says (place 8 3) (Statement-F.End (Some word.Function) (Some (codes "twice")))
    ∷ Says (place 9 1) (Statement-F.End (Some word.Module) (Some (codes "mo")))
    ∷ Says (place 10 1) (Statement-F.Subroutine (named (codes "s") (place 10 12)) (named (codes "q") (place 10 14) ∷ []))
    ∷ Says (place 11 3) (Statement-F.Using (use_only (codes "mo") (place 11 7) (named (codes "n") (place 11 17) ∷ named (codes "twice") (place 11 20) ∷ [])))
    ∷ Says (place 12 3) (Statement-F.Declare (written_decl q_decl ∷ []))
    ∷ Says (place 13 3) (Statement-F.Declare (written_decl (local (codes "k") (place 13 14)) ∷ []))
    ∷ Says (place 14 3) (Statement-F.Do (record { var = codes "k"; at = place 14 6; from = written (number 1 (place 14 10)); to = written (Name (codes "n") (place 14 13)); step = None }))
    ∷ Says (place 15 5) (Statement-F.Assign (written (q_of_k 5)) (written (Reference (codes "twice") (One (q_of_k 18) No_more) (place 15 12))))
    ∷ Says (place 16 3) Statement-F.EndDo
    ∷ Says (place 17 3) (Statement-F.Call (named (codes "inc") (place 17 8)) (written_subs (One (Reference (codes "q") (One (number 1 (place 17 14)) No_more) (place 17 12)) No_more)))
    ∷ Says (place 18 1) (Statement-F.End (Some word.Subroutine) (Some (codes "s")))
    ∷ Says (place 19 1) (Statement-F.Subroutine (named (codes "inc") (place 19 12)) (named (codes "y") (place 19 16) ∷ []))
    ∷ Says (place 20 3) (Statement-F.Declare (written_decl (dummy (codes "y") (place 20 29) InOut) ∷ []))
    ∷ Says (place 21 3) (Statement-F.Assign (written (Name (codes "y") (place 21 3))) (written (Binary Add (Name (codes "y") (place 21 7)) (number 1 (place 21 9)))))
    ∷ Says (place 22 1) (Statement-F.End (Some word.Subroutine) (Some (codes "inc")))
    ∷ []

pub record SoundRow : Type 0 where
  pub nested : Nests Source sound_forms (file_of sound)
  pub no_fault : HasNone Source sound
  pub sound_file : Sound Source (file_of sound)
