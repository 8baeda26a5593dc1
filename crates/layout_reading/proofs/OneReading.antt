-- Lines are read as one program, places included.
use Rattle.std.proofs.Common.{◌≡◌, ◌<◌, List, [], ◌∷◌, ◌++◌, map, length, refl, sym, ap, ◌∙◌, subst, arith}
use Rattle.std.specs.List.{All}
use Rattle.std.proofs.lemmas.Bool.{true≢false}
use Rattle.std.proofs.lemmas.List.Elements.{All-head, All-tail}
use Rattle.fort_tree.specs.declared.fault.Fault.{Fault}
use Rattle.fort_tree.specs.declared.statement.Line.{Line}
use Rattle.fort_tree.specs.declared.statement.Statement.{out-Statement}
use Rattle.fort_tree.specs.declared.statement.Token.{Token}
use Rattle.fort_tree.specs.declared.unit.File.{File}
use Rattle.fort_units.specs.declared.item.Item.{Item}
use Rattle.fort_units.specs.Passing.{faults}
use Rattle.fort_units.specs.Program as program
use Rattle.fort_units.specs.Program.{HasLine, nothing, whole, faulty, unread, HasLines, no_line, a_line, mode_of, IsProgram}
use Rattle.sound_programs.specs.Nesting.{Nests}
use Rattle.sound_programs.specs.Forms as forms
use Rattle.sound_programs.specs.Forms.{Form, Says}
use Rattle.layout_reading.specs.Readings.{HasToken}
use Rattle.layout_reading.proofs.OneForm.{AskOnce}
use Rattle.layout_reading.proofs.Elements.{first_none, second_none, some_none}
use Rattle.layout_reading.proofs.OneProgram.{NestOnce}

no_token : (tokens : List Token) → 0 < length tokens → tokens ≡ [] → ⊥
no_token tokens h e = let k = ap (λ (ts : List Token). length ts) e in omega (arith, h, k)

module _ (once : AskOnce) where
  -- a line without a fault of its own has one list of forms
  one_line : (line : Line) {is js : List Item} {fs gs : List Fault} {hs ks : List Form} → HasToken line → HasLine line is fs hs → fs ≡ [] → HasLine line js gs ks → gs ≡ [] → hs ≡ ks
  one_line line h (nothing d e) n b m = absurd (no_token line.tokens h e)
  one_line line h (whole d a) n (nothing f e) m = absurd (no_token line.tokens h e)
  one_line line h (whole {s = s} d a) n (whole {s = t} f b) m = ap (λ y. Says line.at (out-Statement y) ∷ []) (b.0.unique s a.0.spelled)
  one_line line h (whole d a) n (faulty f b i) m = absurd (some_none m)
  one_line line h (whole d a) n (program.directs f b) m = absurd (true≢false (sym f ∙ d))
  one_line line h (whole d a) n (unread f b) m = absurd (some_none m)
  one_line line h (faulty d a i) n b m = absurd (some_none n)
  one_line line h (program.directs d a) n (nothing f e) m = absurd (no_token line.tokens h e)
  one_line line h (program.directs d a) n (whole f b) m = absurd (true≢false (sym d ∙ f))
  one_line line h (program.directs d a) n (faulty f b i) m = absurd (some_none m)
  one_line line h (program.directs {directives = x} d a) n (program.directs {directives = y} f b) m = ap (map forms.Directs) (once line x y a b)
  one_line line h (program.directs d a) n (unread f b) m = absurd (some_none m)
  one_line line h (unread d a) n b m = absurd (some_none n)

  one_list : (lines : List Line) {is js : List Item} {fs gs : List Fault} {hs ks : List Form} → All HasToken lines → HasLines lines is fs hs → fs ≡ [] → HasLines lines js gs ks → gs ≡ [] → hs ≡ ks
  one_list [] h no_line n no_line m = refl
  one_list (l ∷ lines) h (a_line {fs = fs} {gs = gs} {hs = hs} {ks = ks} a more) n (a_line {fs = fs'} {gs = gs'} {hs = hs'} {ks = ks'} b others) m =
      ap (λ x. x ++ ks) (one_line l (All-head HasToken l lines h) a (first_none fs gs n) b (first_none fs' gs' m))
      ∙ ap (λ x. hs' ++ x) (one_list lines (All-tail HasToken l lines h) more (second_none fs gs n) others (second_none fs' gs' m))

pub one_reading : AskOnce → NestOnce → (lines : List Line) (file other : File) → All HasToken lines → IsProgram lines file → IsProgram lines other → file ≡ other
one_reading once nest_once lines file other h p q =
    let own = first_none p.judged.own (faults (mode_of lines) p.judged.items) p.sound in
    let owned = first_none q.judged.own (faults (mode_of lines) q.judged.items) q.sound in
    let same : p.judged.forms ≡ q.judged.forms = one_list once lines h p.judged.are own q.judged.are owned in
    nest_once (mode_of lines) q.judged.forms file other (subst (λ x. Nests (mode_of lines) x file) same p.nests) q.nests
