-- What the placed statements of a unit tell of its plain ones: which names they refer to and call, and that no directive stands on them.
use Rattle.std.proofs.Common.{◌≡◌, List, [], ◌∷◌, ◌++◌, Bool, true, false, ◌||◌, not, Option, None, Some, refl}
use Rattle.std.specs.Prelude.{is_none}
use Rattle.std.specs.Option.{option_map, option_to_list}
use Rattle.std.proofs.lemmas.Bool.{and_from}
use Rattle.fort_tree.specs.declared.place.Place.{Place}
use Rattle.fort_tree.specs.Intrinsic.{intrinsic_named}
use Rattle.claw_meaning.specs.Syntax as plain
use Rattle.claw_meaning.specs.Syntax.{Text}
use Rattle.sound_programs.specs.Laws.{Each}
use Rattle.sound_programs.specs.Placed.{Expr, Numeral, Boolean, Name, Reference, Signed, Binary, Paren, Subscripts, No_more, One, Section, Limit, Unbounded, Bounded, Head, Directive, Stmt, Assign, Call, If, Select, Do, Block, Piece, Exit, Cycle, Return, Stmts, Done, Then, Arms, No_arm, Arm, Cases, No_case, Case, Otherwise, Nothing_else, Else, bare, bare_subs, bare_limit, bare_option, bare_head, bare_stmt, bare_stmts, bare_arms, bare_cases, bare_otherwise}
use Rattle.sound_programs.specs.Walks.{Stands, steps, steps_in, steps_in_arms, steps_in_cases, steps_in_otherwise, in_limit, in_subscripts, in_head, beside, read_by, left_of, parts, parts_in, parts_in_limit, name_in, name_before_parenthesis}
use Rattle.translated_programs.specs.Directed.{directed, directed_in, directed_in_arms, directed_in_cases, directed_in_otherwise, place_of_mark}
use Rattle.plain_units.specs.Undirected.{is_undirected, are_undirected, arms_undirected, cases_undirected, otherwise_undirected}
use Rattle.plain_units.specs.Calling.{Refers, AllRefer, LimitRefers, OptionRefers, HeadRefers, Calls, AllCall, ArmsCall, CasesCall, OtherwiseCalls}
use Rattle.scalar_units.specs.Unbuilt.{unless}
use Rattle.sound_programs.proofs.Empties.{no_head, left_empty, right_empty}
use Rattle.sound_programs.proofs.LeftSides.{IsLeft, HasLefts, HaveLefts, ArmsHaveLefts, CasesHaveLefts, OtherwiseHasLefts}
use Rattle.sound_programs.proofs.WithinLists.{each_left, each_right}

-- ---- No directives

forward_off : (f c : Bool) (at : Place) → unless (not (f || c)) at ≡ [] → (not f ≡ true) × (c ≡ false)
forward_off true c at e = absurd (no_head at [] e)
forward_off false true at e = absurd (no_head at [] e)
forward_off false false at e = (refl, refl)

no_mark : (mark : Option Directive) (f : Directive → plain.Directive) → place_of_mark mark ≡ [] → is_none (option_map f mark) ≡ true
no_mark None f e = refl
no_mark (Some d) f e = absurd (no_head d.at [] e)

module _ (is_column : Text → Bool) where
  mutual
    pub undirected : (s : Stmt) → directed is_column s ≡ [] → is_undirected (bare_stmt s) ≡ true
    undirected (Assign at left right) e = refl
    undirected (Call at name args forward) e = (forward_off forward (is_column name.name) at e).0
    undirected (If at arms other) e =
        and_from _ _ (undirected_arms arms (left_empty (directed_in_arms is_column arms) (directed_in_otherwise is_column other) e))
        (undirected_otherwise other (right_empty (directed_in_arms is_column arms) (directed_in_otherwise is_column other) e))
    undirected (Select at on cases other) e =
        and_from _ _ (undirected_cases cases (left_empty (directed_in_cases is_column cases) (directed_in_otherwise is_column other) e))
        (undirected_otherwise other (right_empty (directed_in_cases is_column cases) (directed_in_otherwise is_column other) e))
    undirected (Do at head body mark) e =
        and_from _ _ (no_mark mark _ (left_empty (place_of_mark mark) (directed_in is_column body) e)) (undirected_all body (right_empty (place_of_mark mark) (directed_in is_column body) e))
    undirected (Block at mark body) e = absurd (no_head at (directed_in is_column body) e)
    undirected (Piece body) e = absurd (no_head _ (directed_in is_column body) e)
    undirected (Exit at) e = refl
    undirected (Cycle at) e = refl
    undirected (Return at) e = refl

    pub undirected_all : (body : Stmts) → directed_in is_column body ≡ [] → are_undirected (bare_stmts body) ≡ true
    undirected_all Done e = refl
    undirected_all (Then s rest) e =
        and_from _ _ (undirected s (left_empty (directed is_column s) (directed_in is_column rest) e)) (undirected_all rest (right_empty (directed is_column s) (directed_in is_column rest) e))

    undirected_arms : (arms : Arms) → directed_in_arms is_column arms ≡ [] → arms_undirected (bare_arms arms) ≡ true
    undirected_arms No_arm e = refl
    undirected_arms (Arm test body rest) e =
        and_from _ _ (undirected_all body (left_empty (directed_in is_column body) (directed_in_arms is_column rest) e))
        (undirected_arms rest (right_empty (directed_in is_column body) (directed_in_arms is_column rest) e))

    undirected_cases : (cases : Cases) → directed_in_cases is_column cases ≡ [] → cases_undirected (bare_cases cases) ≡ true
    undirected_cases No_case e = refl
    undirected_cases (Case ranges body rest) e =
        and_from _ _ (undirected_all body (left_empty (directed_in is_column body) (directed_in_cases is_column rest) e))
        (undirected_cases rest (right_empty (directed_in is_column body) (directed_in_cases is_column rest) e))

    undirected_otherwise : (other : Otherwise) → directed_in_otherwise is_column other ≡ [] → otherwise_undirected (bare_otherwise other) ≡ true
    undirected_otherwise Nothing_else e = refl
    undirected_otherwise (Else body) e = undirected_all body e

-- ---- What is referred to and called

module _ (IsSo : Text → Type 0) where
  -- each name with parentheses that is read is so, but for the intrinsic functions
  abbrev pub PartSo : Expr → Type 0
  PartSo e = Each (name_before_parenthesis e) (λ n. intrinsic_named n.name ≡ None → IsSo n.name)

  abbrev pub PartsSo : Expr → Type 0
  PartsSo e = Each (parts e) PartSo

  abbrev pub LeftSo : Expr → Type 0
  LeftSo e = Each (name_in e) (λ n. IsSo n.name)

  -- all that a step reads, and its left side
  abbrev pub StepSo : Stands → Type 0
  StepSo s = Each (read_by s.step) PartsSo × Each (left_of s.step) LeftSo

  mutual
    refers : (e : Expr) → PartsSo e → Refers IsSo (bare e)
    refers (Numeral n kind at) h = tt
    refers (Boolean b at) h = tt
    refers (Name x at) h = tt
    refers (Reference x subs at) h = (h.0.0, all_refer subs h.1)
    refers (Signed sign e at) h = refers e h.1
    refers (Binary op a b) h = (refers a (each_left PartSo (parts a) (parts b) h.1), refers b (each_right PartSo (parts a) (parts b) h.1))
    refers (Paren e at) h = refers e h.1

    all_refer : (subs : Subscripts) → Each (parts_in subs) PartSo → AllRefer IsSo (bare_subs subs)
    all_refer No_more h = tt
    all_refer (One e rest) h = (refers e (each_left PartSo (parts e) (parts_in rest) h), all_refer rest (each_right PartSo (parts e) (parts_in rest) h))
    all_refer (Section lower upper at rest) h =
        let others = each_right PartSo (parts_in_limit lower) (parts_in_limit upper ++ parts_in rest) h in (
          limit_refers lower (each_left PartSo (parts_in_limit lower) (parts_in_limit upper ++ parts_in rest) h),
          limit_refers upper (each_left PartSo (parts_in_limit upper) (parts_in rest) others),
          all_refer rest (each_right PartSo (parts_in_limit upper) (parts_in rest) others),
        )

    limit_refers : (l : Limit) → Each (parts_in_limit l) PartSo → LimitRefers IsSo (bare_limit l)
    limit_refers Unbounded h = tt
    limit_refers (Bounded e) h = refers e h

  limit_read : (l : Limit) → Each (in_limit l) PartsSo → LimitRefers IsSo (bare_limit l)
  limit_read Unbounded h = tt
  limit_read (Bounded e) h = refers e h.0

  args_read : (args : Subscripts) → Each (in_subscripts args) PartsSo → AllRefer IsSo (bare_subs args)
  args_read No_more h = tt
  args_read (One e rest) h = (refers e h.0, args_read rest h.1)
  args_read (Section lower upper at rest) h =
      let others = each_right PartsSo (in_limit lower) (in_limit upper ++ in_subscripts rest) h in (
        limit_read lower (each_left PartsSo (in_limit lower) (in_limit upper ++ in_subscripts rest) h),
        limit_read upper (each_left PartsSo (in_limit upper) (in_subscripts rest) others),
        args_read rest (each_right PartsSo (in_limit upper) (in_subscripts rest) others),
      )

  left_refers : (left : Expr) → IsLeft left → LeftSo left → Each (beside left) PartsSo → Refers IsSo (bare left)
  left_refers (Name x at) is h b = tt
  left_refers (Reference x subs at) is h b = (λ own. h.0, args_read subs b)
  left_refers (Numeral n kind at) is h b = tt
  left_refers (Boolean v at) is h b = tt
  left_refers (Signed sign e at) is h b = absurd is
  left_refers (Binary op a c) is h b = absurd is
  left_refers (Paren e at) is h b = absurd is

  option_read : (e : Option Expr) → Each (option_to_list e) PartsSo → OptionRefers IsSo (bare_option e)
  option_read None h = tt
  option_read (Some e) h = refers e h.0

  head_read : (h : Head) → Each (in_head h) PartsSo → HeadRefers IsSo (bare_head h)
  head_read h all = (refers h.from all.0, refers h.to all.1.0, option_read h.step all.1.1)

  module _ (is_column : Text → Bool) (plain_name : (x : Text) → is_column x ≡ false → IsSo x) where
    mutual
      pub calls : (loops : List Text) (s : Stmt) → HasLefts s → directed is_column s ≡ [] → Each (steps loops s) StepSo → Calls IsSo IsSo (bare_stmt s)
      calls loops (Assign at left right) l e h =
          let reads = h.0.0 in (
            left_refers left l h.0.1.0 (each_left PartsSo (beside left) (right ∷ []) reads),
            refers right (each_right PartsSo (beside left) (right ∷ []) reads).0,
          )
      calls loops (Call at name args forward) l e h = (plain_name name.name (forward_off forward (is_column name.name) at e).1, args_read args h.0.0)
      calls loops (If at arms other) l e h = (
        arms_call loops arms l.0 (left_empty (directed_in_arms is_column arms) (directed_in_otherwise is_column other) e) (each_left StepSo (steps_in_arms loops arms) (steps_in_otherwise loops other) h),
        otherwise_calls loops other l.1 (right_empty (directed_in_arms is_column arms) (directed_in_otherwise is_column other) e) (each_right StepSo (steps_in_arms loops arms) (steps_in_otherwise loops other) h),
      )
      calls loops (Select at on cases other) l e h = (
        refers on h.0.0.0,
        cases_call loops cases l.0 (left_empty (directed_in_cases is_column cases) (directed_in_otherwise is_column other) e) (each_left StepSo (steps_in_cases loops cases) (steps_in_otherwise loops other) h.1),
        otherwise_calls loops other l.1 (right_empty (directed_in_cases is_column cases) (directed_in_otherwise is_column other) e) (each_right StepSo (steps_in_cases loops cases) (steps_in_otherwise loops other) h.1),
      )
      calls loops (Do at head body mark) l e h = (head_read head h.0.0, all_call (head.variable ∷ loops) body l (right_empty (place_of_mark mark) (directed_in is_column body) e) h.1)
      calls loops (Block at mark body) l e h = absurd (no_head at (directed_in is_column body) e)
      calls loops (Piece body) l e h = absurd (no_head _ (directed_in is_column body) e)
      calls loops (Exit at) l e h = tt
      calls loops (Cycle at) l e h = tt
      calls loops (Return at) l e h = tt

      pub all_call : (loops : List Text) (body : Stmts) → HaveLefts body → directed_in is_column body ≡ [] → Each (steps_in loops body) StepSo → AllCall IsSo IsSo (bare_stmts body)
      all_call loops Done l e h = tt
      all_call loops (Then s rest) l e h = (
        calls loops s l.0 (left_empty (directed is_column s) (directed_in is_column rest) e) (each_left StepSo (steps loops s) (steps_in loops rest) h),
        all_call loops rest l.1 (right_empty (directed is_column s) (directed_in is_column rest) e) (each_right StepSo (steps loops s) (steps_in loops rest) h),
      )

      arms_call : (loops : List Text) (arms : Arms) → ArmsHaveLefts arms → directed_in_arms is_column arms ≡ [] → Each (steps_in_arms loops arms) StepSo → ArmsCall IsSo IsSo (bare_arms arms)
      arms_call loops No_arm l e h = tt
      arms_call loops (Arm test body rest) l e h = (
        refers test h.0.0.0,
        all_call loops body l.0 (left_empty (directed_in is_column body) (directed_in_arms is_column rest) e) (each_left StepSo (steps_in loops body) (steps_in_arms loops rest) h.1),
        arms_call loops rest l.1 (right_empty (directed_in is_column body) (directed_in_arms is_column rest) e) (each_right StepSo (steps_in loops body) (steps_in_arms loops rest) h.1),
      )

      cases_call : (loops : List Text) (cases : Cases) → CasesHaveLefts cases → directed_in_cases is_column cases ≡ [] → Each (steps_in_cases loops cases) StepSo → CasesCall IsSo IsSo (bare_cases cases)
      cases_call loops No_case l e h = tt
      cases_call loops (Case ranges body rest) l e h = (
        all_call loops body l.0 (left_empty (directed_in is_column body) (directed_in_cases is_column rest) e) (each_left StepSo (steps_in loops body) (steps_in_cases loops rest) h),
        cases_call loops rest l.1 (right_empty (directed_in is_column body) (directed_in_cases is_column rest) e) (each_right StepSo (steps_in loops body) (steps_in_cases loops rest) h),
      )

      otherwise_calls : (loops : List Text) (other : Otherwise) → OtherwiseHasLefts other → directed_in_otherwise is_column other ≡ [] → Each (steps_in_otherwise loops other) StepSo → OtherwiseCalls IsSo IsSo (bare_otherwise other)
      otherwise_calls loops Nothing_else l e h = tt
      otherwise_calls loops (Else body) l e h = all_call loops body l e h
