-- What a source says of a unit of column scalars lets its names and sums be written.
use Rattle.std.proofs.Common.{◌≡◌, ℕ, List, [], ◌∷◌, true, false, map, refl, ap}
use Rattle.std.specs.List.{AllByRecursion, list_all}
use Rattle.std.proofs.lemmas.Bool.{and_parts}
use Rattle.fort_tree.specs.declared.choice.Mode.{Mode}
use Rattle.fort_tree.specs.declared.expr.Expr.{Expr}
use Rattle.fort_tree.specs.declared.statement.Line.{Line}
use Rattle.fort_tree.specs.declared.statement.Token.{Token}
use Rattle.fort_tree.specs.declared.unit.Decl.{Decl}
use Rattle.fort_tree.specs.declared.unit.File.{File}
use Rattle.fort_tree.specs.declared.unit.Item as tree_item
use Rattle.fort_tree.specs.declared.unit.Module.{Module}
use Rattle.fort_tree.specs.declared.unit.Unit as tree_unit
use Rattle.fort_tree.specs.Token.{is_token}
use Rattle.fort_tree.specs.Unplaced.{nowhere}
use Rattle.fort_expr.specs.Expression.{IsExpr}
use Rattle.fort_spell.specs.Pieces.{Piece, text_of}
use Rattle.fort_spell.specs.Expressions.{expr_pieces}
use Rattle.fort_units.specs.Program.{mode_of, IsProgram}
use Rattle.claw_meaning.specs.Plain.{plain_expr, plain_unit, plain_module}
use Rattle.claw_meaning.specs.Syntax as plain
use Rattle.column_scalars.specs.Scalars.{Scalars, IsScalars, source_unit}
use Rattle.sound_programs.specs.Forms.{Form, Says, Directs}
use Rattle.sound_programs.specs.Nesting as nesting
use Rattle.sound_programs.specs.Nesting.{Nests_from}
use Rattle.layout_reading.specs.Tokens.{texts, piece_texts}
use Rattle.layout_reading.specs.WideUnits.{IsDerived, AreWritable, SourcesWritable}
use Rattle.layout_reading.proofs.Declarations.{Each, DeclFit, variable, constant}
use Rattle.layout_reading.proofs.DefineNames.{DefinesFreeNames}
use Rattle.layout_reading.proofs.Elements.{one_item}
use Rattle.layout_reading.proofs.Expressions.{all_real, starts_pieces}
use Rattle.layout_reading.proofs.FreeNames.{HasFreeName, free_of}
use Rattle.layout_reading.proofs.LineForms.{forms_known}
use Rattle.layout_reading.proofs.Parts.{Fit}
use Rattle.layout_reading.proofs.Plain.{same_plain}
use Rattle.layout_reading.proofs.ScalarUnits.{GivesNames, unit_ok}
use Rattle.layout_reading.proofs.Statements.{Fits, form_fits}
use Rattle.layout_reading.proofs.Whole.{pieces_whole}

-- ---- Sums

tokens_of : (ps : List Piece) → list_all is_token (map (λ (p : Piece). text_of p.token) ps) ≡ true → (ts : List Token) × (texts ts ≡ piece_texts ps)
tokens_of [] h = ([], refl)
tokens_of (p ∷ ps) h =
    let parts = and_parts (is_token (text_of p.token)) (list_all is_token (map (λ (p : Piece). text_of p.token) ps)) h in
    let more = tokens_of ps parts.1 in (record { text = text_of p.token; at = nowhere; whole = parts.0 } ∷ more.0, ap (λ x. text_of p.token ∷ x) more.1)

fit_derived : (e : Expr) → Fit IsExpr e → IsDerived (plain_expr e)
fit_derived e f =
    let ps = expr_pieces e false [] in
    let ts = tokens_of ps (pieces_whole ps (starts_pieces ps (f.stands false [] tt))) in
    let a = f.again false [] ts.0 ts.1 in
    record { tokens = ts.0; rest = a.rest; tree = a.tree; derive = a.is; same = same_plain a.tree e a.same }

-- ---- Forms

abbrev FormOk : Form → Type 0
FormOk (Says at level) = Fits level
FormOk (Directs d) = DefinesFreeNames d

decl_free : {d : Decl} → DeclFit d → HasFreeName d
decl_free (variable f s) = free_of f
decl_free (constant f v) = free_of f

decls_free : (l : List Decl) → Each DeclFit l → AllByRecursion HasFreeName l
decls_free [] h = tt
decls_free (d ∷ l) h = (decl_free h.0, decls_free l h.1)

forms_give : GivesNames FormOk
forms_give = record {
  declared = λ at l h. decls_free l h;
  assigned = λ at left right h. fit_derived right h.1;
  named = λ at name dummies h. free_of h.0;
  defined = λ d h. h;
}

forms_ok : {lines : List Line} {file : File} (p : IsProgram lines file) → AllByRecursion FormOk p.judged.forms
forms_ok p = forms_known FormOk (λ at tokens s h. form_fits h (all_real tokens)) (λ d h. h) p

-- ---- Files

module _ (mode : Mode) where
  file_ok : (u : Scalars) {m n : ℕ} {fs : List Form} {ms : List Module} {us : List tree_unit.Unit} {order : List tree_item.Item} → IsScalars u → Nests_from mode m n fs ms us order → AllByRecursion FormOk fs →
      map plain_module ms ≡ [] → map plain_unit us ≡ source_unit u ∷ [] → AreWritable u
  file_ok u s nesting.no_more k e f = absurd cc
  file_ok u s (nesting.module_first a more) k e f = absurd cc
  file_ok u s (nesting.unit_first x more) k e f = unit_ok FormOk forms_give mode u s x k (one_item f)

pub sources_writable : SourcesWritable
sources_writable lines directed u s p e = file_ok (mode_of lines) u s p.nests (forms_ok p) (ap (λ (x : plain.Program). x.modules) e) (ap (λ (x : plain.Program). x.units) e)
