-- Lines that have forms which nest into a file are read as no other program.
use Rattle.std.proofs.Common.{◌≡◌, ℕ, List, [], ◌∷◌, ◌++◌, map, refl, sym, ap, ◌∙◌, subst}
use Rattle.std.proofs.lemmas.Bool.{true≢false}
use Rattle.fort_tree.specs.declared.choice.Mode.{Mode}
use Rattle.fort_tree.specs.declared.choice.Mode.TheVariants.{Target}
use Rattle.fort_tree.specs.declared.fault.Fault.{Fault}
use Rattle.fort_tree.specs.declared.statement.Line.{Line}
use Rattle.fort_tree.specs.declared.statement.Statement.{out-Statement}
use Rattle.fort_tree.specs.declared.unit.File.{File}
use Rattle.fort_tree.specs.declared.unit.Item as tree_item
use Rattle.fort_tree.specs.declared.unit.Module.{Module}
use Rattle.fort_tree.specs.declared.unit.Unit as tree_unit
use Rattle.fort_expr.specs.Words.{front_place}
use Rattle.fort_units.specs.declared.item.Item.{Item}
use Rattle.fort_units.specs.Passing.{faults}
use Rattle.fort_units.specs.Program as program
use Rattle.fort_units.specs.Program.{HasLine, nothing, whole, faulty, unread, HasLines, no_line, a_line, mode_of, IsProgram}
use Rattle.claw_lines.specs.Forms.{IsLine, first_place}
use Rattle.claw_meaning.specs.Plain.{plain_file}
use Rattle.sound_programs.specs.Forms as forms
use Rattle.sound_programs.specs.Forms.{Form, Says}
use Rattle.sound_programs.specs.Nesting.{Nests, Nests_from, no_more, module_first, unit_first}
use Rattle.layout_reading.specs.FormLines.{TokenLine, HaveForms, no_form, form}
use Rattle.layout_reading.specs.Programs.{AreFile, token_line}
use Rattle.layout_reading.proofs.Declarations.{Each}
use Rattle.layout_reading.proofs.Elements.{first_none, second_none, some_none}
use Rattle.layout_reading.proofs.FirstTokens.{IsHeaded}
use Rattle.layout_reading.proofs.OneForm.{Gives, a_statement, a_mark, gives, AreBuilt, AskOnce, one_list}

-- A LINE

pub line_front : {mode : Mode} (line : Line) → IsHeaded mode line → line.at ≡ front_place line.tokens
line_front line h = h.at_first ∙ sym (ap front_place h.tokens_are)

pub line_first : {mode : Mode} (line : Line) → IsHeaded mode line → first_place line.at line.tokens ≡ front_place line.tokens
line_first line h = ap (first_place line.at) h.tokens_are ∙ sym (ap front_place h.tokens_are)

-- forms nest into one file at most
abbrev pub NestOnce : Type 0
NestOnce = (mode : Mode) (fs : List Form) (f g : File) → Nests mode fs f → Nests mode fs g → f ≡ g

module _ (once : AskOnce) where
  -- a line without a fault of its own has one form
  line_same : {mode : Mode} (line : Line) {is : List Item} {fs : List Fault} {hs : List Form} {g : Form} → IsHeaded mode line → HasLine line is fs hs → fs ≡ [] → Gives (token_line line) g → hs ≡ g ∷ []
  line_same line h (nothing d e) n k = absurd (some_none (sym h.tokens_are ∙ e))
  line_same line h (whole {s = s} d a) n (a_statement x e r f) =
      ap (λ p. Says p (out-Statement s) ∷ []) (line_front line h)
      ∙ (ap (λ y. Says (front_place line.tokens) (out-Statement y) ∷ []) (sym (a.0.unique x r)) ∙ ap (λ y. y ∷ []) (sym f))
  line_same line h (whole d a) n (a_mark x e r f) = absurd (true≢false (sym e ∙ d))
  line_same line h (faulty d a i) n k = absurd (some_none n)
  line_same line h (program.directs d a) n (a_statement x e r f) = absurd (true≢false (sym d ∙ e))
  line_same line h (program.directs {directives = directives} d a) n (a_mark x e r f) =
      ap (map forms.Directs) (once line directives (x ∷ []) a (record { whole = a.whole; form = subst (λ p. IsLine p line.tokens (x ∷ [])) (sym (line_first line h)) r }))
      ∙ ap (λ y. y ∷ []) (sym f)
  line_same line h (unread d a) n k = absurd (some_none n)

  -- lines without a fault of their own have one list of forms
  lines_same : (mode : Mode) (lines : List Line) {is : List Item} {fs : List Fault} {hs gs : List Form} → Each (IsHeaded mode) lines → HasLines lines is fs hs → fs ≡ [] → HaveForms (map token_line lines) gs → hs ≡ gs
  lines_same mode [] h no_line n no_form = refl
  lines_same mode (l ∷ lines) h (a_line {fs = fs} {gs = gs} {hs = hs} {ks = ks} here others) n (form {g = g} k more) =
      ap (λ x. x ++ ks) (line_same l h.0 here (first_none fs gs n) (gives k)) ∙ ap (λ x. g ∷ x) (lines_same mode lines h.1 others (second_none fs gs n) more)

-- FILES

-- no forms nest the same in every mode
pub none_nests : {mode : Mode} (other : Mode) {n m : ℕ} {ms : List Module} {us : List tree_unit.Unit} {order : List tree_item.Item} → Nests_from mode n m [] ms us order → Nests_from other n m [] ms us order
none_nests other no_more = no_more
none_nests other (module_first a rest) = elim a [ ]
none_nests other (unit_first a rest) = elim a [ ]

in_target : (lines : List Line) (fs : List Form) (f : File) → Each (IsHeaded Target) lines → HaveForms (map token_line lines) fs → Nests (mode_of lines) fs f → Nests Target fs f
in_target [] fs f h no_form n = none_nests Target n
in_target (l ∷ lines) fs f h k n = subst (λ m. Nests m fs f) h.0.in_mode n

pub one_program : AskOnce → NestOnce → (lines : List Line) (file other : File) → Each (IsHeaded Target) lines → AreFile (map token_line lines) file → IsProgram lines other → plain_file other ≡ plain_file file
one_program once nest_once lines file other h a p =
    let own : p.judged.own ≡ [] = first_none p.judged.own (faults (mode_of lines) p.judged.items) p.sound in
    let same : p.judged.forms ≡ a.forms = lines_same once Target lines h p.judged.are own a.have in
    let nests : Nests Target a.forms other = in_target lines a.forms other h a.have (subst (λ x. Nests (mode_of lines) x other) same p.nests) in
    ap plain_file (nest_once Target a.forms other a.read nests a.nest) ∙ a.same

-- Lines with forms of two files have those of one, places set aside.
pub one_text : AreBuilt → AskOnce → NestOnce → (lines : List TokenLine) (file other : File) → AreFile lines file → AreFile lines other → plain_file other ≡ plain_file file
one_text built once nest_once lines file other a b =
    let nests : Nests Target a.forms b.read = subst (λ x. Nests Target x b.read) (one_list built once lines b.forms a.forms b.have a.have) b.nest in
    sym b.same ∙ (ap plain_file (nest_once Target a.forms b.read a.read nests a.nest) ∙ a.same)
