-- Forms that nest have no fault of nesting but that statements are too deep, and lines whose forms do are a program.
use Rattle.std.proofs.Common.{◌≡◌, ℕ, ◌≤◌, List, [], ◌∷◌, ◌++◌, Bool, true, false, cond, ◌&&◌, not, map, refl, sym, ap, subst, ◌∙◌, arith}
use Rattle.std.specs.List.{list_all, AllByRecursion}
use Rattle.std.proofs.lemmas.List.Elements.{All-from_recursion, recursion_from_All}
use Rattle.std.proofs.lemmas.Bool.{and_parts, and_from}
use Rattle.fort_tree.specs.declared.fault.Code.TheVariants.{E70}
use Rattle.fort_tree.specs.declared.fault.Fault.{Fault}
use Rattle.fort_tree.specs.declared.place.Place.{Place}
use Rattle.fort_tree.specs.declared.statement.Line.{Line}
use Rattle.fort_tree.specs.declared.statement.Token.{Token}
use Rattle.fort_tree.specs.declared.stmt.Directive.{Directive}
use Rattle.fort_tree.specs.declared.stmt.DirectiveWord.{DirectiveWord}
use Rattle.sound_programs.specs.Forms.{Form}
use Rattle.sound_programs.specs.Forms as forms
use Rattle.claw_lines.specs.Forms.{IsLine, asked, Asks, dimension, both, of_parts, Defines, defines, sentinel_place}
use Rattle.fort_units.specs.declared.item.Item.{Item}
use Rattle.fort_units.specs.Passing.{top, faults}
use Rattle.fort_units.specs.Program.{HasLine, nothing, whole, faulty, directs, unread, HasLines, no_line, a_line, mode_of, item_of_directive}
use Rattle.fort_units.specs.Shown.{items_of, FilesFrom}
use Rattle.fort_units.specs.Within.{NestingFaultless, line_file, LinesFrom, StandsAlone, NestingProgram, ProgramsWithin}
use Rattle.fort_units.proofs.Shapes.{nonempty}
use Rattle.fort_units.proofs.Statements.{both_empty}
use Rattle.fort_units.proofs.AddLaws.{plain, all_plain, agrees}
use Rattle.fort_units.proofs.Passes.{AreLimits}
use Rattle.fort_units.proofs.UnitsPass.{all_pass}

by_recursion : (fs : List Fault) → AreLimits fs → AllByRecursion (λ (fault : Fault). fault.code ≡ E70) fs
by_recursion [] h = tt
by_recursion (f ∷ fs) h = (h.0, by_recursion fs h.1)

pub nesting_faultless : NestingFaultless
nesting_faultless mode forms file f n =
    let d = all_pass mode 0 0 0 f n in
    record {
      too_deep = All-from_recursion (λ (fault : Fault). fault.code ≡ E70) (faults mode (items_of forms)) (by_recursion (faults mode (items_of forms)) d.limits);
      none = (λ e. (let k = d.fits (omega arith) e in omega arith), λ h. d.none (omega arith));
    }

-- ---- Lines

-- the directives of a line stand at its sentinel
defined_at : {at : Place} {tokens rest : List Token} {d : Directive} → Defines at tokens rest d → d.at ≡ at
defined_at (defines name open_mark colon bound close a b c d e f) = refl

abbrev AllAt : Place → List Directive → Type 0
AllAt at ds = AllByRecursion (λ (d : Directive). d.at ≡ at) ds

asked_at : {at : Place} {form : DirectiveWord} {tokens : List Token} {ds : List Directive} → Asks at form tokens ds → AllAt at ds
asked_at (dimension a) = (defined_at a, tt)
asked_at (both a b c) = (defined_at a, (refl, tt))
asked_at (of_parts a b c) = (refl, tt)

line_at : {at : Place} {tokens : List Token} {ds : List Directive} → IsLine at tokens ds → AllAt at ds
line_at (asked a b) = asked_at b

-- the forms behind stand in later files
later : (n m : ℕ) (ks : List Form) → n ≤ m → FilesFrom m ks → FilesFrom n ks
later n m [] h k = tt
later n m (f ∷ ks) h k = let first = k.0 in (omega (arith, h, first), k.1)

directives_from : (n : ℕ) (at : Place) (ds : List Directive) (ks : List Form) → n ≤ at.file → AllAt at ds → FilesFrom at.file ks → FilesFrom n (map forms.Directs ds ++ ks)
directives_from n at [] ks h a k = later n at.file ks h k
directives_from n at (d ∷ ds) ks h a k =
    let same = ap (λ (p : Place). p.file) a.0 in (omega (arith, h, same), directives_from d.at.file at ds ks (omega (arith, same)) a.1 k)

line_from : (n : ℕ) (line : Line) (is : List Item) (fs : List Fault) (hs ks : List Form) → HasLine line is fs hs → n ≤ line_file line → FilesFrom (line_file line) ks → FilesFrom n (hs ++ ks)
line_from n line is fs hs ks (nothing d e) h k = later n (line_file line) ks h k
line_from n line is fs hs ks (whole d a) h k =
    let same : line_file line ≡ line.at.file = ap (λ b. cond b (sentinel_place line).file line.at.file) d in
    (omega (arith, h, same), subst (λ m. FilesFrom m ks) same k)
line_from n line is fs hs ks (faulty d a i) h k = later n (line_file line) ks h k
line_from n line is fs hs ks (directs {directives = ds} d a) h k =
    let same : line_file line ≡ (sentinel_place line).file = ap (λ b. cond b (sentinel_place line).file line.at.file) d in
    directives_from n (sentinel_place line) ds ks (omega (arith, h, same)) (line_at a.form) (subst (λ m. FilesFrom m ks) same k)
line_from n line is fs hs ks (unread d a) h k = later n (line_file line) ks h k

files_from : (n : ℕ) (lines : List Line) (is : List Item) (fs : List Fault) (hs : List Form) → HasLines lines is fs hs → LinesFrom n lines → FilesFrom n hs
files_from n [] is fs hs no_line h = tt
files_from n (line ∷ lines) is fs hs (a_line {is = i} {js = js} {fs = f} {gs = g} {hs = x} {ks = ks} here more) h =
    line_from n line i f x ks here h.0 (files_from (line_file line) lines js g ks more h.1)

-- items of lines that stand alone
plain_directives : (within : Bool) (ds : List Directive) → within ≡ false → list_all plain (map (item_of_directive within) ds) ≡ true
plain_directives within [] e = refl
plain_directives within (d ∷ ds) e = ap (λ b. not b && list_all plain (map (item_of_directive within) ds)) e ∙ plain_directives within ds e

alone_line : (line : Line) (is : List Item) (fs : List Fault) (hs : List Form) → HasLine line is fs hs → fs ≡ [] → StandsAlone line → list_all plain is ≡ true
alone_line line is fs hs (nothing d e) n h = refl
alone_line line is fs hs (whole d a) n h = refl
alone_line line is fs hs (faulty d a i) n h = absurd (nonempty n)
alone_line line is fs hs (directs {directives = ds} d a) n h = plain_directives line.within ds (h d)
alone_line line is fs hs (unread d a) n h = absurd (nonempty n)

all_join : (is js : List Item) → list_all plain is ≡ true → list_all plain js ≡ true → list_all plain (is ++ js) ≡ true
all_join [] js h k = k
all_join (i ∷ is) js h k = let parts = and_parts (plain i) (list_all plain is) h in and_from (plain i) (list_all plain (is ++ js)) parts.0 (all_join is js parts.1 k)

alone_lines : (lines : List Line) (is : List Item) (fs : List Fault) (hs : List Form) → HasLines lines is fs hs → fs ≡ [] → AllByRecursion StandsAlone lines → list_all plain is ≡ true
alone_lines [] is fs hs no_line n h = refl
alone_lines (line ∷ lines) is fs hs (a_line {is = i} {js = js} {fs = f} {gs = g} {hs = x} {ks = ks} here more) n h =
    let parts = both_empty f g n in all_join i js (alone_line line i f x here parts.0 h.0) (alone_lines lines js g ks more parts.1 h.1)

pub nesting_program : NestingProgram
nesting_program lines judged file from alone own nests within =
    let a = agrees lines judged.items judged.own judged.forms judged.are own (alone_lines lines judged.items judged.own judged.forms judged.are own (recursion_from_All StandsAlone lines alone)) in
    let clean = (nesting_faultless (mode_of lines) judged.forms file (files_from 0 lines judged.items judged.own judged.forms judged.are from) nests).none.1 within in
    record {
      judged = judged;
      sound = ap (λ fs. fs ++ faults (mode_of lines) judged.items) own ∙ (ap (faults (mode_of lines)) a.same ∙ clean);
      nests = nests;
    }

pub programs_within : ProgramsWithin
programs_within lines file from p =
    let j = p.judged in
    let parts = both_empty j.own (faults (mode_of lines) j.items) p.sound in
    let a = agrees lines j.items j.own j.forms j.are parts.0 (all_plain (mode_of lines) (top 0) j.items parts.1) in
    (nesting_faultless (mode_of lines) j.forms file (files_from 0 lines j.items j.own j.forms j.are from) p.nests).none.0 (ap (faults (mode_of lines)) (sym a.same) ∙ parts.1)
