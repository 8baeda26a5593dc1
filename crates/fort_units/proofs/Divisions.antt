-- Each statement that divides or ends a construct, and brings no fault, is a step on the way to a program.
use Rattle.std.proofs.Common.{ℕ, List, [], ◌∷◌, Bool, true, false, Option, None, Some, refl, subst, IsTrue}
use Rattle.std.specs.List.{list_all}
use Rattle.std.proofs.lemmas.Bool.{false≢true}
use Rattle.fort_tree.specs.declared.choice.Mode.{Mode}
use Rattle.fort_tree.specs.declared.expr.Expr.{Expr}
use Rattle.fort_tree.specs.declared.place.Place.{Place}
use Rattle.fort_tree.specs.declared.statement.Statement.TheOpen.{Statement-F}
use Rattle.fort_tree.specs.declared.stmt.Range.{Range}
use Rattle.sound_programs.specs.Forms.{Form, Says, is_range}
use Rattle.sound_programs.specs.Nesting.{Inside, Body, end_if, else_last, else_if, Cases, end_select, case_of, default}
use Rattle.fort_units.specs.declared.around.Waiting.{Waiting}
use Rattle.fort_stmt.specs.declared.sort.Sort.TheVariants as sort
use Rattle.fort_units.proofs.Shapes.{nonempty, in_if, in_else, in_select, in_case, in_do, inside_of, Shape, body, Filled, CasesThen, InNest, UnitEnd, Nested, at_once}
use Rattle.fort_units.proofs.Statements.{Ahead, Stands, Clean}

module _ (mode : Mode) where
  -- the unit's own list has no construct to go on with
  pub an_else_if : (file line : ℕ) (w : Option Waiting) (s : Shape) (at : Place) (test : Expr) (forms : List Form) → Stands mode file line w s sort.ElseIf → Clean mode file line w s at sort.ElseIf →
      Ahead mode file line w s at sort.ElseIf forms → Nested mode file s (Says at (Statement-F.ElseIf test) ∷ forms)
  an_else_if file line w (body host sub name (in_if d [] n)) at test forms m c ahead =
      let h = ahead (body host sub name (in_if d [] n)) refl in
      let a = h.follows in
      at_once mode (record { arms = _ ∷ a.arms; other = a.other; rest = a.rest; are = else_if h.filled a.are; follows = a.follows })
  an_else_if file line w (body host sub name (in_if d (b ∷ bs) n)) at test forms m c ahead = absurd (nonempty c)
  an_else_if file line w (body host sub name n) at test forms m c ahead = absurd (false≢true m)
  an_else_if file line w s at test forms m c ahead = absurd (false≢true m)

  pub an_else : (file line : ℕ) (w : Option Waiting) (s : Shape) (at : Place) (forms : List Form) → Stands mode file line w s sort.Else → Clean mode file line w s at sort.Else →
      Ahead mode file line w s at sort.Else forms → Nested mode file s (Says at Statement-F.Else ∷ forms)
  an_else file line w (body host sub name (in_if d [] n)) at forms m c ahead =
      let h = ahead (body host sub name (in_else d [] n)) refl in
      let e = h.follows in
      at_once mode (record { arms = []; other = Some h.stmts; rest = e.rest; are = else_last (subst (λ next. Body mode (inside_of n) forms h.stmts next) e.is h.filled); follows = e.follows })
  an_else file line w (body host sub name (in_if d (b ∷ bs) n)) at forms m c ahead = absurd (nonempty c)
  an_else file line w (body host sub name n) at forms m c ahead = absurd (false≢true m)
  an_else file line w s at forms m c ahead = absurd (false≢true m)

  pub an_end_if : (file line : ℕ) (w : Option Waiting) (s : Shape) (at : Place) (forms : List Form) → Stands mode file line w s sort.EndIf → Clean mode file line w s at sort.EndIf →
      Ahead mode file line w s at sort.EndIf forms → Nested mode file s (Says at Statement-F.EndIf ∷ forms)
  an_end_if file line w (body host sub name (in_if d [] n)) at forms m c ahead =
      at_once mode (record { arms = []; other = None; rest = forms; are = end_if; follows = ahead (body host sub name n) refl })
  an_end_if file line w (body host sub name (in_else d [] n)) at forms m c ahead = at_once mode (record { at = at; rest = forms; is = refl; follows = ahead (body host sub name n) refl })
  an_end_if file line w (body host sub name (in_if d (b ∷ bs) n)) at forms m c ahead = absurd (nonempty c)
  an_end_if file line w (body host sub name (in_else d (b ∷ bs) n)) at forms m c ahead = absurd (nonempty c)
  an_end_if file line w (body host sub name n) at forms m c ahead = absurd (false≢true m)
  an_end_if file line w s at forms m c ahead = absurd (false≢true m)

  pub an_end_do : (file line : ℕ) (w : Option Waiting) (s : Shape) (at : Place) (forms : List Form) → Stands mode file line w s sort.EndDo → Clean mode file line w s at sort.EndDo →
      Ahead mode file line w s at sort.EndDo forms → Nested mode file s (Says at Statement-F.EndDo ∷ forms)
  an_end_do file line w (body host sub name (in_do mark d [] n)) at forms m c ahead = at_once mode (record { at = at; rest = forms; is = refl; follows = ahead (body host sub name n) refl })
  an_end_do file line w (body host sub name (in_do mark d (b ∷ bs) n)) at forms m c ahead = absurd (nonempty c)
  an_end_do file line w (body host sub name n) at forms m c ahead = absurd (false≢true m)
  an_end_do file line w s at forms m c ahead = absurd (false≢true m)

  -- the cases end here
  cases_end : (around : Inside) (had : Bool) (K : List Form → Type 0) (at : Place) (forms : List Form) → K forms → CasesThen mode around had K (Says at Statement-F.EndSelect ∷ forms)
  cases_end around had K at forms k = record { cases = []; other = None; rest = forms; are = end_select; once = λ _. refl; follows = k }

  pub an_end_select : (file line : ℕ) (w : Option Waiting) (s : Shape) (at : Place) (forms : List Form) → Stands mode file line w s sort.EndSelect → Clean mode file line w s at sort.EndSelect →
      Ahead mode file line w s at sort.EndSelect forms → Nested mode file s (Says at Statement-F.EndSelect ∷ forms)
  an_end_select file line w (body host sub name (in_select d n)) at forms m c ahead =
      cases_end (inside_of n) false (InNest mode n (UnitEnd mode file host sub name)) at forms (ahead (body host sub name n) refl)
  an_end_select file line w (body host sub name (in_case had d [] n)) at forms m c ahead =
      at_once mode (cases_end (inside_of n) had (InNest mode n (UnitEnd mode file host sub name)) at forms (ahead (body host sub name n) refl))
  an_end_select file line w (body host sub name (in_case had d (b ∷ bs) n)) at forms m c ahead = absurd (nonempty c)
  an_end_select file line w (body host sub name n) at forms m c ahead = absurd (false≢true m)
  an_end_select file line w s at forms m c ahead = absurd (false≢true m)

  -- a case, and the cases behind it
  case_then : (around : Inside) (had : Bool) (K : List Form → Type 0) (at : Place) (ranges : List Range) (forms : List Form) → IsTrue (list_all is_range ranges) →
      Filled mode around (CasesThen mode around had K) forms → CasesThen mode around had K (Says at (Statement-F.Case ranges) ∷ forms)
  case_then around had K at ranges forms e h =
      let a = h.follows in
      record { cases = _ ∷ a.cases; other = a.other; rest = a.rest; are = case_of e h.filled a.are; once = a.once; follows = a.follows }

  pub a_case : (file line : ℕ) (w : Option Waiting) (s : Shape) (at : Place) (ranges : List Range) (forms : List Form) → IsTrue (list_all is_range ranges) → Stands mode file line w s sort.Case →
      Clean mode file line w s at sort.Case → Ahead mode file line w s at sort.Case forms → Nested mode file s (Says at (Statement-F.Case ranges) ∷ forms)
  a_case file line w (body host sub name (in_select d n)) at ranges forms e m c ahead =
      case_then (inside_of n) false (InNest mode n (UnitEnd mode file host sub name)) at ranges forms e (ahead (body host sub name (in_case false d [] n)) refl)
  a_case file line w (body host sub name (in_case had d [] n)) at ranges forms e m c ahead =
      at_once mode (case_then (inside_of n) had (InNest mode n (UnitEnd mode file host sub name)) at ranges forms e (ahead (body host sub name (in_case had d [] n)) refl))
  a_case file line w (body host sub name (in_case had d (b ∷ bs) n)) at ranges forms e m c ahead = absurd (nonempty c)
  a_case file line w (body host sub name n) at ranges forms e m c ahead = absurd (false≢true m)
  a_case file line w s at ranges forms e m c ahead = absurd (false≢true m)

  -- the first CASE DEFAULT, and the cases behind it
  default_then : (around : Inside) (K : List Form → Type 0) (at : Place) (forms : List Form) → Filled mode around (CasesThen mode around true K) forms →
      CasesThen mode around false K (Says at Statement-F.CaseDefault ∷ forms)
  default_then around K at forms h =
      let a = h.follows in
      record {
        cases = a.cases;
        other = Some h.stmts;
        rest = a.rest;
        are = default h.filled (subst (λ other. Cases mode around h.next a.cases other a.rest) (a.once refl) a.are);
        once = λ e. absurd (false≢true e);
        follows = a.follows;
      }

  pub a_default : (file line : ℕ) (w : Option Waiting) (s : Shape) (at : Place) (forms : List Form) → Stands mode file line w s sort.CaseDefault → Clean mode file line w s at sort.CaseDefault →
      Ahead mode file line w s at sort.CaseDefault forms → Nested mode file s (Says at Statement-F.CaseDefault ∷ forms)
  a_default file line w (body host sub name (in_select d n)) at forms m c ahead =
      default_then (inside_of n) (InNest mode n (UnitEnd mode file host sub name)) at forms (ahead (body host sub name (in_case true d [] n)) refl)
  a_default file line w (body host sub name (in_case false d [] n)) at forms m c ahead =
      at_once mode (default_then (inside_of n) (InNest mode n (UnitEnd mode file host sub name)) at forms (ahead (body host sub name (in_case true d [] n)) refl))
  a_default file line w (body host sub name (in_case false d (b ∷ bs) n)) at forms m c ahead = absurd (nonempty c)
  a_default file line w (body host sub name (in_case true d bs n)) at forms m c ahead = absurd (false≢true m)
  a_default file line w (body host sub name n) at forms m c ahead = absurd (false≢true m)
  a_default file line w s at forms m c ahead = absurd (false≢true m)
