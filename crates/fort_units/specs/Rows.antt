-- Small texts and all their faults.
use Rattle.std.specs.Prelude.{◌≡◌, ℕ, [], ◌∷◌, ◌++◌, replicate, codes, None, Some, true, false}
use Rattle.fort_tree.specs.declared.choice.Mode.TheVariants.{Source, Target}
use Rattle.fort_tree.specs.declared.place.Place.{Place}
use Rattle.fort_tree.specs.declared.statement.EndWord.TheVariants as word
use Rattle.fort_tree.specs.declared.stmt.DirectiveWord.{DirectiveWord}
use Rattle.fort_tree.specs.declared.stmt.DirectiveWord.TheVariants as directive
use Rattle.fort_stmt.specs.declared.sort.ActionSort.TheVariants as act
use Rattle.fort_stmt.specs.declared.sort.Sort.{Sort}
use Rattle.fort_stmt.specs.declared.sort.Sort.TheVariants as sort
use Rattle.fort_units.specs.declared.item.Item.{Item}
use Rattle.fort_units.specs.declared.item.Item.TheVariants as item
use Rattle.fort_units.specs.Faults.{unnested, misplaced, not_of_mode, too_deep}
use Rattle.fort_units.specs.Passing.{faults}

-- the start of a line of the first file
abbrev pub on : ℕ → Place
on line = record { file = 0; line = line; column = 1 }

abbrev pub says : ℕ → Sort → Item
says line s = item.Statement (on line) s

abbrev pub directs : ℕ → DirectiveWord → Item
directs line w = item.Directive (on line) false w

abbrev pub begins : Item
begins = says 1 (sort.Subroutine (codes "s"))

abbrev pub ends : ℕ → Item
ends line = says line (sort.End None None)

abbrev pub assigns : ℕ → Item
assigns line = says line (sort.Act act.Assign)

-- statements
pub record Statements : Type 0 where
  pub nothing : faults Source [] ≡ []
  pub loop : faults Source (begins ∷ says 2 sort.Do ∷ says 3 (sort.IfAct act.Exit) ∷ says 4 sort.EndDo ∷ ends 5 ∷ []) ≡ []
  pub exit_in_no_loop : faults Source (begins ∷ says 2 (sort.IfAct act.Exit) ∷ ends 3 ∷ []) ≡ unnested (on 2) ∷ []
  pub end_do_without_do : faults Source (begins ∷ says 2 sort.EndDo ∷ assigns 3 ∷ ends 4 ∷ []) ≡ unnested (on 2) ∷ []
  pub late_declaration : faults Source (begins ∷ assigns 2 ∷ says 3 sort.Declare ∷ ends 4 ∷ []) ≡ unnested (on 3) ∷ []
  pub before_case : faults Source (begins ∷ says 2 sort.Select ∷ assigns 3 ∷ says 4 sort.CaseDefault ∷ says 5 sort.Case ∷ says 6 sort.EndSelect ∷ ends 7 ∷ []) ≡ unnested (on 3) ∷ []
  pub default_twice : faults Source (begins ∷ says 2 sort.Select ∷ says 3 sort.CaseDefault ∷ says 4 sort.CaseDefault ∷ says 5 sort.EndSelect ∷ ends 6 ∷ []) ≡ unnested (on 4) ∷ []
  pub no_case : faults Source (begins ∷ says 2 sort.Select ∷ says 3 sort.EndSelect ∷ ends 4 ∷ []) ≡ []
  pub contains_nothing : faults Source (says 1 (sort.Module (codes "m")) ∷ says 2 sort.Contains ∷ says 3 (sort.End (Some word.Module) (Some (codes "m"))) ∷ []) ≡ []
  pub other_name : faults Source (begins ∷ says 2 (sort.End (Some word.Subroutine) (Some (codes "t"))) ∷ ends 3 ∷ []) ≡ unnested (on 2) ∷ []
  pub other_word : faults Source (begins ∷ says 2 (sort.End (Some word.Function) None) ∷ ends 3 ∷ []) ≡ unnested (on 2) ∷ []
  pub unended : faults Source (begins ∷ item.Absent (record { file = 0; line = 2; column = 5 }) ∷ []) ≡ unnested (on 2) ∷ []
  pub across_files : faults Source (begins ∷ item.Statement (record { file = 1; line = 1; column = 3 }) (sort.End None None) ∷ []) ≡ unnested (on 1) ∷ unnested (record { file = 1; line = 1; column = 3 }) ∷ []

-- directives directly before a statement
pub record Before_statements : Type 0 where
  pub before_loop : faults Source (begins ∷ directs 2 directive.Fusion ∷ item.Absent (on 3) ∷ says 4 sort.Do ∷ says 5 sort.EndDo ∷ ends 6 ∷ []) ≡ []
  pub before_assignment : faults Source (begins ∷ directs 2 directive.Cache ∷ assigns 3 ∷ ends 4 ∷ []) ≡ misplaced (on 2) ∷ []
  pub before_call : faults Source (begins ∷ directs 2 directive.Forward ∷ says 3 (sort.Act act.Call) ∷ directs 4 directive.Fusion ∷ says 5 (sort.Act act.Call) ∷ ends 6 ∷ []) ≡ misplaced (on 4) ∷ []
  pub before_if_call : faults Source (begins ∷ directs 2 directive.Forward ∷ says 3 (sort.IfAct act.Call) ∷ ends 4 ∷ []) ≡ misplaced (on 2) ∷ []
  pub second : faults Source (begins ∷ directs 2 directive.Fusion ∷ directs 3 directive.Cache ∷ says 4 sort.Do ∷ says 5 sort.EndDo ∷ ends 6 ∷ []) ≡ misplaced (on 3) ∷ []
  pub block_between : faults Source (begins ∷ directs 2 directive.Fusion ∷ directs 3 directive.Transform ∷ says 4 sort.Do ∷ says 5 sort.EndDo ∷ directs 6 directive.EndTransform ∷ ends 7 ∷ []) ≡ misplaced (on 2) ∷ []
  pub at_the_end : faults Source (directs 1 directive.Fusion ∷ []) ≡ misplaced (on 1) ∷ []
  pub within : faults Source (begins ∷ assigns 2 ∷ item.Directive (on 3) true directive.Fusion ∷ ends 4 ∷ []) ≡ misplaced (on 3) ∷ []

-- `define` and `parallelize`
pub record Heads : Type 0 where
  pub both : faults Source (begins ∷ directs 2 directive.Parallelize ∷ says 3 sort.Use ∷ directs 4 directive.Define ∷ ends 5 ∷ []) ≡ []
  pub alone : faults Source (begins ∷ directs 2 directive.Define ∷ assigns 3 ∷ ends 4 ∷ []) ≡ misplaced (on 2) ∷ []
  pub partner_misplaced : faults Source (begins ∷ directs 2 directive.Define ∷ assigns 3 ∷ directs 4 directive.Parallelize ∷ ends 5 ∷ []) ≡ misplaced (on 2) ∷ misplaced (on 4) ∷ []
  pub twice : faults Source (begins ∷ directs 2 directive.Define ∷ directs 3 directive.Parallelize ∷ directs 4 directive.Define ∷ ends 5 ∷ []) ≡ misplaced (on 4) ∷ []
  pub in_function : faults Source (says 1 (sort.Function (codes "f")) ∷ directs 2 directive.Define ∷ directs 3 directive.Parallelize ∷ ends 4 ∷ []) ≡ misplaced (on 2) ∷ misplaced (on 3) ∷ []

-- blocks
pub record Blocks : Type 0 where
  pub closed : faults Source (begins ∷ directs 2 directive.Transform ∷ assigns 3 ∷ directs 4 directive.EndTransform ∷ ends 5 ∷ []) ≡ []
  pub across_lists :
      faults Source (begins ∷ says 2 sort.Do ∷ directs 3 directive.Hoist ∷ says 4 sort.EndDo ∷ directs 5 directive.EndHoist ∷ ends 6 ∷ []) ≡ misplaced (on 3) ∷ misplaced (on 5) ∷ []
  pub not_innermost :
      faults Source (begins ∷ directs 2 directive.Hoist ∷ directs 3 directive.Transform ∷ directs 4 directive.EndHoist ∷ directs 5 directive.EndTransform ∷ directs 6 directive.EndHoist ∷ ends 7 ∷ [])
      ≡ misplaced (on 4) ∷ []
  pub before_declaration : faults Source (begins ∷ directs 2 directive.Transform ∷ directs 3 directive.EndTransform ∷ says 4 sort.Declare ∷ ends 5 ∷ []) ≡ misplaced (on 2) ∷ []
  pub before_case : faults Source (begins ∷ says 2 sort.Select ∷ directs 3 directive.Transform ∷ says 4 sort.Case ∷ says 5 sort.EndSelect ∷ ends 6 ∷ []) ≡ misplaced (on 3) ∷ []
  pub unclosed : faults Source (begins ∷ assigns 2 ∷ directs 3 directive.Transform ∷ ends 4 ∷ []) ≡ misplaced (on 3) ∷ []
  pub outside : faults Source (directs 1 directive.Transform ∷ directs 2 directive.EndTransform ∷ []) ≡ misplaced (on 1) ∷ misplaced (on 2) ∷ []

-- marks
pub record Marks : Type 0 where
  pub in_source : faults Source (begins ∷ directs 2 directive.OpenMpLoop ∷ item.Unread (on 3) true true ∷ ends 4 ∷ []) ≡ not_of_mode (on 2) ∷ not_of_mode (on 3) ∷ []
  pub directive_in_target : faults Target (begins ∷ directs 2 directive.Fusion ∷ ends 3 ∷ []) ≡ not_of_mode (on 2) ∷ []
  pub loop : faults Target (begins ∷ directs 2 directive.OpenMpLoop ∷ says 3 sort.Do ∷ says 4 (sort.Act act.Cycle) ∷ says 5 sort.EndDo ∷ ends 6 ∷ []) ≡ []
  pub exit : faults Target (begins ∷ directs 2 directive.OpenAccLoop ∷ says 3 sort.Do ∷ says 4 (sort.IfAct act.Exit) ∷ says 5 sort.EndDo ∷ ends 6 ∷ []) ≡ misplaced (on 2) ∷ []
  pub exit_of_inner :
      faults Target (begins ∷ directs 2 directive.OpenAccLoop ∷ says 3 sort.Do ∷ says 4 sort.Do ∷ says 5 (sort.Act act.Exit) ∷ says 6 sort.EndDo ∷ says 7 sort.EndDo ∷ ends 8 ∷ []) ≡ []
  pub return_in_inner :
      faults Target (begins ∷ directs 2 directive.OpenAccLoop ∷ says 3 sort.Do ∷ says 4 sort.Do ∷ says 5 (sort.Act act.Return) ∷ says 6 sort.EndDo ∷ says 7 sort.EndDo ∷ ends 8 ∷ []) ≡ misplaced (on 2) ∷ []
  pub routine : faults Target (begins ∷ says 2 sort.Declare ∷ directs 3 directive.Routine ∷ assigns 4 ∷ ends 5 ∷ []) ≡ []
  pub early_routine : faults Target (begins ∷ directs 2 directive.Routine ∷ says 3 sort.Declare ∷ ends 4 ∷ []) ≡ misplaced (on 2) ∷ []
  pub routine_twice : faults Target (begins ∷ directs 2 directive.Routine ∷ directs 3 directive.Routine ∷ ends 4 ∷ []) ≡ misplaced (on 3) ∷ []
  pub late_routine : faults Target (begins ∷ assigns 2 ∷ directs 3 directive.Routine ∷ ends 4 ∷ []) ≡ misplaced (on 3) ∷ []

-- limits of nesting
pub record Limits : Type 0 where
  pub at_limit : faults Source (begins ∷ (replicate 31 (says 2 sort.IfThen) ++ says 3 (sort.IfAct act.Assign) ∷ (replicate 31 (says 4 sort.EndIf) ++ ends 5 ∷ []))) ≡ []
  pub one_line : faults Source (begins ∷ (replicate 32 (says 2 sort.IfThen) ++ says 3 (sort.IfAct act.Assign) ∷ (replicate 32 (says 4 sort.EndIf) ++ ends 5 ∷ []))) ≡ too_deep (on 3) ∷ []
  pub in_target : faults Target (begins ∷ (replicate 64 (says 2 sort.Do) ++ (replicate 64 (says 4 sort.EndDo) ++ ends 5 ∷ []))) ≡ []
  pub block : faults Source (begins ∷ (replicate 32 (says 2 sort.IfThen) ++ directs 3 directive.Transform ∷ directs 4 directive.EndTransform ∷ (replicate 32 (says 5 sort.EndIf) ++ ends 6 ∷ []))) ≡ too_deep (on 3) ∷ []
