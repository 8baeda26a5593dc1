-- The pieces of a statement by itself, and when two statements are the same, places set aside.
use Rattle.std.specs.Prelude.{ℕ, ◌≡◌, true, false, List, [], ◌∷◌, Option, None, Some, codes, map, option_map, ⊤}
use Rattle.fort_arith.specs.declared.kind.Kind.{Kind}
use Rattle.fort_tree.specs.declared.place.Place.{Place}
use Rattle.fort_tree.specs.declared.expr.Expr.{Expr}
use Rattle.fort_tree.specs.declared.expr.Sub.{Sub}
use Rattle.fort_tree.specs.declared.statement.EndWord.{EndWord}
use Rattle.fort_tree.specs.declared.statement.EndWord.TheVariants as end_word
use Rattle.fort_tree.specs.declared.statement.Statement.{Statement, out-Statement}
use Rattle.fort_tree.specs.declared.statement.Statement.TheOpen.{Statement-F}
use Rattle.fort_tree.specs.declared.statement.Token.{Token}
use Rattle.fort_tree.specs.declared.stmt.Head.{Head}
use Rattle.fort_tree.specs.declared.stmt.Named.{Named}
use Rattle.fort_tree.specs.declared.stmt.Range.{Range}
use Rattle.fort_tree.specs.declared.stmt.Range.TheVariants as range
use Rattle.fort_tree.specs.declared.unit.Bound.{Bound}
use Rattle.fort_tree.specs.declared.unit.Decl.{Decl}
use Rattle.fort_tree.specs.declared.unit.Use.{Use}
use Rattle.fort_tree.specs.Unplaced.{nowhere, unplaced, unplaced_sub}
use Rattle.fort_spell.specs.Pieces.{Piece, Spelling, word, bracketed, pair, name_pieces, end_pieces}
use Rattle.fort_spell.specs.Statements.{assign_pieces, call_pieces, if_pieces, then_pieces, else_if_pieces, do_pieces, select_pieces, case_pieces}
use Rattle.fort_spell.specs.Units.{named_pieces, use_pieces, decl_pieces, function_clause}
use Rattle.fort_stmt.specs.Form.{IsStatement}

-- PIECES

abbrev pub end_text : EndWord → List ℕ
end_text end_word.Module = codes "module"
end_text end_word.Subroutine = codes "subroutine"
end_text end_word.Function = codes "function"

abbrev pub nothing : Spelling
nothing s k = k

abbrev pub end_statement : Option EndWord → Option (List ℕ) → Spelling
end_statement None n = name_pieces (codes "end")
end_statement (Some w) None = pair (codes "end") (end_text w)
end_statement (Some w) (Some n) = end_pieces (end_text w) n

-- the name of a function's result: its own where none is given
abbrev pub result_name : Named → Option Named → Named
result_name name None = name
result_name name (Some r) = r

abbrev pub header : List ℕ → List ℕ → List Named → (List Piece → List Piece) → Spelling
header opening name dummies behind s k = word s opening (word true name (bracketed true (map named_pieces dummies) false (behind k)))

-- one declaration; what declares several names is written as a line for each
abbrev pub declaration : List Decl → Spelling
declaration [] = nothing
declaration (d ∷ ds) = decl_pieces d

-- what may stand behind IF on its line
abbrev pub action_pieces : Statement-F Statement → Spelling
action_pieces (Statement-F.Assign l r) = assign_pieces l r
action_pieces (Statement-F.Call name args) = call_pieces name.name args
action_pieces Statement-F.Exit = name_pieces (codes "exit")
action_pieces Statement-F.Cycle = name_pieces (codes "cycle")
action_pieces Statement-F.Return = name_pieces (codes "return")
action_pieces _ = nothing

-- The pieces of a statement. A FUNCTION has no type before it.
abbrev pub statement_pieces : Statement-F Statement → Spelling
statement_pieces (Statement-F.Module name) = pair (codes "module") name.name
statement_pieces Statement-F.Contains = name_pieces (codes "contains")
statement_pieces (Statement-F.End w n) = end_statement w n
statement_pieces (Statement-F.Subroutine name dummies) = header (codes "subroutine") name.name dummies (λ k. k)
statement_pieces (Statement-F.Function prefix name dummies result) = header (codes "function") name.name dummies (function_clause name.name (Some (result_name name result)))
statement_pieces (Statement-F.Using u) = use_pieces u
statement_pieces Statement-F.ImplicitNone = pair (codes "implicit") (codes "none")
statement_pieces (Statement-F.Declare l) = declaration l
statement_pieces (Statement-F.Assign l r) = assign_pieces l r
statement_pieces (Statement-F.Call name args) = call_pieces name.name args
statement_pieces (Statement-F.IfAction test at action) = λ s k. if_pieces test s (action_pieces (out-Statement action) true k)
statement_pieces (Statement-F.IfThen test) = then_pieces test
statement_pieces (Statement-F.ElseIf test) = else_if_pieces test
statement_pieces Statement-F.Else = name_pieces (codes "else")
statement_pieces Statement-F.EndIf = pair (codes "end") (codes "if")
statement_pieces (Statement-F.Do head) = do_pieces head
statement_pieces Statement-F.EndDo = pair (codes "end") (codes "do")
statement_pieces Statement-F.Exit = name_pieces (codes "exit")
statement_pieces Statement-F.Cycle = name_pieces (codes "cycle")
statement_pieces Statement-F.Return = name_pieces (codes "return")
statement_pieces (Statement-F.Select on) = select_pieces on
statement_pieces Statement-F.EndSelect = pair (codes "end") (codes "select")
statement_pieces (Statement-F.Case ranges) = case_pieces ranges
statement_pieces Statement-F.CaseDefault = pair (codes "case") (codes "default")

-- SAMENESS

abbrev pub names : List Named → List (List ℕ)
names = map (λ (n : Named). n.name)

abbrev pub bare_head : Head → Head
bare_head h = record { var = h.var; at = nowhere; from = unplaced h.from; to = unplaced h.to; step = option_map unplaced h.step }

abbrev pub bare_range : Range → Range
bare_range (range.One e) = range.One (unplaced e)
bare_range (range.Span a b) = range.Span (option_map unplaced a) (option_map unplaced b)

abbrev pub bare_bound : Bound → Bound
bare_bound b = record { lower = option_map unplaced b.lower; upper = option_map unplaced b.upper }

abbrev pub bare_decl : Decl → Decl
bare_decl d = record { name = d.name; at = nowhere; kind = d.kind; intent = d.intent; shape = map bare_bound d.shape; value = option_map unplaced d.value }

-- The first is what the second is read as again, places set aside. A FUNCTION has no type before it then, and names its result where it has
-- another name.
pub data SameStatement : Statement-F Statement → Statement-F Statement → Type 0 where
  same_module : {a b : Named} → a.name ≡ b.name → SameStatement (Statement-F.Module a) (Statement-F.Module b)
  same_contains : SameStatement Statement-F.Contains Statement-F.Contains
  same_end : {w : Option EndWord} {m n : Option (List ℕ)} → m ≡ n → SameStatement (Statement-F.End w m) (Statement-F.End w n)
  same_subroutine : {a b : Named} {k l : List Named} → a.name ≡ b.name → names k ≡ names l → SameStatement (Statement-F.Subroutine a k) (Statement-F.Subroutine b l)
  same_function : {p : Option (Kind × Place)} {a b : Named} {k l : List Named} {r t : Option Named} → a.name ≡ b.name → names k ≡ names l → (result_name a r).name ≡ (result_name b t).name →
      SameStatement (Statement-F.Function None a k r) (Statement-F.Function p b l t)
  same_use : {u v : Use} → u.name ≡ v.name → option_map names u.only ≡ option_map names v.only → SameStatement (Statement-F.Using u) (Statement-F.Using v)
  same_implicit : SameStatement Statement-F.ImplicitNone Statement-F.ImplicitNone
  same_declare : {d e : Decl} → bare_decl d ≡ bare_decl e → SameStatement (Statement-F.Declare (d ∷ [])) (Statement-F.Declare (e ∷ []))
  same_assign : {a b c d : Expr} → unplaced a ≡ unplaced c → unplaced b ≡ unplaced d → SameStatement (Statement-F.Assign a b) (Statement-F.Assign c d)
  same_call : {a b : Named} {k l : List Sub} → a.name ≡ b.name → map unplaced_sub k ≡ map unplaced_sub l → SameStatement (Statement-F.Call a k) (Statement-F.Call b l)
  same_if_action : {e f : Expr} {p q : Place} {s t : Statement} → unplaced e ≡ unplaced f → SameStatement (out-Statement s) (out-Statement t) →
      SameStatement (Statement-F.IfAction e p s) (Statement-F.IfAction f q t)
  same_if_then : {e f : Expr} → unplaced e ≡ unplaced f → SameStatement (Statement-F.IfThen e) (Statement-F.IfThen f)
  same_else_if : {e f : Expr} → unplaced e ≡ unplaced f → SameStatement (Statement-F.ElseIf e) (Statement-F.ElseIf f)
  same_else : SameStatement Statement-F.Else Statement-F.Else
  same_end_if : SameStatement Statement-F.EndIf Statement-F.EndIf
  same_do : {h i : Head} → bare_head h ≡ bare_head i → SameStatement (Statement-F.Do h) (Statement-F.Do i)
  same_end_do : SameStatement Statement-F.EndDo Statement-F.EndDo
  same_exit : SameStatement Statement-F.Exit Statement-F.Exit
  same_cycle : SameStatement Statement-F.Cycle Statement-F.Cycle
  same_return : SameStatement Statement-F.Return Statement-F.Return
  same_select : {e f : Expr} → unplaced e ≡ unplaced f → SameStatement (Statement-F.Select e) (Statement-F.Select f)
  same_end_select : SameStatement Statement-F.EndSelect Statement-F.EndSelect
  same_case : {k l : List Range} → map bare_range k ≡ map bare_range l → SameStatement (Statement-F.Case k) (Statement-F.Case l)
  same_default : SameStatement Statement-F.CaseDefault Statement-F.CaseDefault

-- Some tokens are the statement, however it was written.
pub record IsStatementOfTokens (s : Statement) : Type 0 where
  pub tokens : List Token
  pub form : IsStatement tokens s

-- the tokens are the statement again, places set aside
pub record AreStatement (tokens : List Token) (s : Statement) : Type 0 where
  pub statement : Statement
  pub form : IsStatement tokens statement
  pub same : SameStatement (out-Statement statement) (out-Statement s)

-- It is written as one row: not a declaration of several names, which is a row for each.
abbrev pub IsOneRow : Statement-F Statement → Type 0
IsOneRow (Statement-F.Declare []) = ⊥
IsOneRow (Statement-F.Declare (d ∷ [])) = ⊤
IsOneRow (Statement-F.Declare (d ∷ e ∷ l)) = ⊥
IsOneRow _ = ⊤
