-- The forms that the nesting of forms speaks of.
use Rattle.std.specs.Prelude.{ℕ, suc, List, [], ◌∷◌}
use Rattle.form_nesting.specs.declared.form.Form.{Form as Given}
use Rattle.form_nesting.specs.declared.form.Form.TheVariants as given
use Rattle.sound_programs.specs.Forms.{Form, Says, says, Directs}

abbrev pub form_of : Given → Form
form_of (given.Says at s) = says at s
form_of (given.Directs d) = Directs d

-- how many statements are among the forms
abbrev pub statements_among : List Form → ℕ
statements_among [] = 0
statements_among (Says at level ∷ fs) = suc (statements_among fs)
statements_among (Directs d ∷ fs) = statements_among fs
