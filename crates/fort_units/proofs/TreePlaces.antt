-- All places of the program that lines give are places of the lines.
use Rattle.std.proofs.Common.{ℕ, List}
use Rattle.std.proofs.lemmas.List.Elements.{recursion_from_All}
use Rattle.std.specs.List.{AllByRecursion}
use Rattle.fort_tree.specs.declared.fault.Fault.{Fault}
use Rattle.fort_tree.specs.declared.statement.Line.{Line}
use Rattle.fort_tree.specs.declared.statement.Token.{Token}
use Rattle.sound_programs.specs.Forms.{Form, Directs}
use Rattle.fort_units.specs.declared.item.Item.{Item}
use Rattle.fort_units.specs.Places.{InFiles, LineInFiles, ProgramInFiles}
use Rattle.fort_units.specs.Program.{HasLine, nothing, whole, faulty, directs, unread, HasLines, no_line, a_line, mode_of}
use Rattle.fort_units.proofs.ExpressionPlaces.{all_map, all_join, AtTokens}
use Rattle.fort_units.proofs.StatementPlaces.{form_at}
use Rattle.fort_units.proofs.DirectivePlaces.{line_at}
use Rattle.fort_units.proofs.BodyPlaces.{AtForm, AtForms}
use Rattle.fort_units.proofs.UnitPlaces.{nests_at}
use Rattle.fort_units.proofs.LinePlaces.{sentinel_in}

tokens_at : (n : ℕ) (line : Line) → LineInFiles n line → AtTokens (InFiles n) line.tokens
tokens_at n line h = recursion_from_All (λ (t : Token). InFiles n t.at) line.tokens h.tokens

has_line_at : (n : ℕ) (line : Line) {is : List Item} {fs : List Fault} {forms : List Form} → LineInFiles n line → HasLine line is fs forms → AtForms (InFiles n) forms
has_line_at n line h (nothing a b) = tt
has_line_at n line h (whole a b) = ((h.at, form_at (InFiles n) (tokens_at n line h) b.0.spelled), tt)
has_line_at n line h (faulty a b c) = tt
has_line_at n line h (directs {directives = ds} a b) = all_map (AtForm (InFiles n)) Directs ds (line_at (InFiles n) (sentinel_in n line h) (tokens_at n line h) b.form)
has_line_at n line h (unread a b) = tt

has_lines_at : (n : ℕ) {lines : List Line} {is : List Item} {fs : List Fault} {forms : List Form} → AllByRecursion (LineInFiles n) lines → HasLines lines is fs forms → AtForms (InFiles n) forms
has_lines_at n h no_line = tt
has_lines_at n h (a_line {line = line} {hs = hs} {ks = ks} a b) = all_join (AtForm (InFiles n)) hs ks (has_line_at n line h.0 a) (has_lines_at n h.1 b)

pub program_in_files : ProgramInFiles
program_in_files n lines file h p = nests_at (InFiles n) (mode_of lines) p.judged.forms file (has_lines_at n (recursion_from_All (LineInFiles n) lines h) p.judged.are) p.nests
