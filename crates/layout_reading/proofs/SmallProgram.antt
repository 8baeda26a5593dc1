-- The small program is printable, and this is its text.
use Rattle.std.proofs.Common.{◌≡◌, [], ◌∷◌, Some, false, refl, subst, codes}
use Rattle.fort_tree.specs.declared.choice.Mode.TheVariants.{Target}
use Rattle.fort_tree.specs.declared.statement.EndWord.TheVariants as end_word
use Rattle.fort_tree.specs.declared.statement.Statement.TheOpen.{Statement-F}
use Rattle.fort_tree.specs.declared.statement.Statement.TheVariants as statement
use Rattle.fort_tree.specs.declared.statement.Token.{Token}
use Rattle.fort_tree.specs.declared.stmt.Named.{Named}
use Rattle.fort_tree.specs.Unplaced.{nowhere}
use Rattle.fort_grammar.specs.declared.class.Class.TheVariants as class
use Rattle.fort_grammar.specs.Token.{text_class}
use Rattle.fort_stmt.specs.Form as f
use Rattle.fort_stmt.specs.Form.{IsStatement}
use Rattle.fort_spell.specs.Rows.{laid}
use Rattle.fort_spell.specs.Units.{layout_of}
use Rattle.sound_programs.specs.Forms.{Form, Says}
use Rattle.sound_programs.specs.Nesting as nesting
use Rattle.sound_programs.specs.Nesting.{Nests}
use Rattle.layout_reading.specs.FormLines.{TokenLine, HasForm, says, no_form, form}
use Rattle.layout_reading.specs.Programs.{IsPrintableFile}
use Rattle.layout_reading.specs.SmallPrograms.{idle_file, idle_text}
use Rattle.layout_reading.proofs.Classes.{open_class_is, close_class_is}
use Rattle.layout_reading.proofs.Keywords
use Rattle.layout_reading.proofs.Keywords.{Keyword, keyword}
use Rattle.layout_reading.proofs.Outs

abbrev t_subroutine : Token
t_subroutine = record { text = codes "subroutine"; at = nowhere; whole = refl }

abbrev t_end : Token
t_end = record { text = codes "end"; at = nowhere; whole = refl }

abbrev t_a : Token
t_a = record { text = codes "a"; at = nowhere; whole = refl }

abbrev t_open : Token
t_open = record { text = codes "("; at = nowhere; whole = refl }

abbrev t_close : Token
t_close = record { text = codes ")"; at = nowhere; whole = refl }

a_free : Keyword (codes "a") class.Name
unfolding text_class
a_free = record { class_is = refl; is_name = record { form = refl; lower = refl } }

abbrev a_name : Named
a_name = record { name = codes "a"; at = nowhere }

header : IsStatement (t_subroutine ∷ t_a ∷ t_open ∷ t_close ∷ []) (statement.Subroutine a_name [])
header =
    f.subroutine t_subroutine t_a (keyword t_subroutine (codes "subroutine") class.Subroutine Keywords.k_subroutine refl) (keyword t_a (codes "a") class.Name a_free refl)
    (f.dummies t_open t_close (open_class_is t_open refl) f.no_names (close_class_is t_close refl))

ending : IsStatement (t_end ∷ t_subroutine ∷ t_a ∷ []) (statement.End (Some end_word.Subroutine) (Some (codes "a")))
ending =
    f.end_subroutine (f.apart t_end t_subroutine (keyword t_end (codes "end") class.End Keywords.k_end refl) (keyword t_subroutine (codes "subroutine") class.Subroutine Keywords.k_subroutine refl))
    (f.some_name t_a (keyword t_a (codes "a") class.Name a_free refl))

abbrev first_line : TokenLine
first_line = record { directive = false; tokens = t_subroutine ∷ t_a ∷ t_open ∷ t_close ∷ [] }

abbrev last_line : TokenLine
last_line = record { directive = false; tokens = t_end ∷ t_subroutine ∷ t_a ∷ [] }

abbrev first_form : Form
first_form = Says nowhere (Statement-F.Subroutine a_name [])

abbrev last_form : Form
last_form = Says nowhere (Statement-F.End (Some end_word.Subroutine) (Some (codes "a")))

has_first : HasForm first_line first_form
has_first = subst (λ x. HasForm first_line (Says nowhere x)) (Outs.out_subroutine a_name []) (says header)

has_last : HasForm last_line last_form
has_last = subst (λ x. HasForm last_line (Says nowhere x)) (Outs.out_end (Some end_word.Subroutine) (Some (codes "a"))) (says ending)

nests : Nests Target (first_form ∷ last_form ∷ []) idle_file
nests =
    nesting.unit_first
    (nesting.subroutine
    (record {
      after_uses = last_form ∷ [];
      after_implicit = last_form ∷ [];
      after_decls = last_form ∷ [];
      among_uses = [];
      among_decls = [];
      used = nesting.no_more_uses;
      implicit = nesting.unsaid;
      declared = nesting.no_more_decls;
      paired = refl;
      marked = nesting.unmarked;
    })
    nesting.unpaired nesting.done (nesting.with_name refl))
    nesting.no_more

pub idle_printable : IsPrintableFile idle_file
idle_printable = record { lines = first_line ∷ last_line ∷ []; forms = first_form ∷ last_form ∷ []; written = idle_file; have = form has_first (form has_last no_form); nest = nests; same = refl }

pub idle_laid : layout_of idle_file ≡ idle_text
unfolding laid
idle_laid = refl
