-- Two readings that tell column units apart in different ways read statements without directives that call none as the same.
use Rattle.std.proofs.Common.{◌≡◌, ℕ, refl, ap, sym, ◌∙◌, Bool, true, false, Option, Some, None}
use Rattle.std.specs.Prelude.{if◌then◌else◌, ◌&&◌, is_none}
use Rattle.std.proofs.lemmas.Bool.{false≢true}
use mathlib.Core.Path.{ap₂}
use Rattle.fort_tree.specs.Intrinsic.{intrinsic_named}
use Rattle.claw_meaning.specs.Syntax.{Text, Expr, Numeral, Boolean, Name, Reference, Signed, Binary, Paren, Subscripts, No_more, At, Section, Between, Limit, Unbounded, Bounded, Head, Directive, Stmt, Assign, Call, If, Select, Do, Block, Piece, Exit, Cycle, Return, Stmts, Done, Then, Arms, No_arm, Arm, Cases, No_case, Case, Otherwise, Nothing_else, Else}
use Rattle.claw_meaning.specs.Dependence.{is_size}
use Rattle.claw_meaning.specs.Erasure.{ColumnCallee, Reading, read, read_all, read_limit, read_option, read_head, read_call, reference_read, losing, alone, appended, is_column_loop, read_loop, read_stmt, read_stmts, read_arms, read_cases, read_otherwise}
use Rattle.plain_units.specs.Undirected.{is_undirected, are_undirected, arms_undirected, cases_undirected, otherwise_undirected}
use Rattle.plain_units.specs.Calling.{Calls, AllCall, ArmsCall, CasesCall, OtherwiseCalls}
use Rattle.plain_units.proofs.Trees.{both}

module _ (rank : Text → ℕ) (lost : Text → Option ℕ) (id : Option Text) (c c' : Text → Option ColumnCallee) where
  abbrev r : Reading
  r = record { rank = rank; lost = lost; id = id; columns = c }

  abbrev r' : Reading
  r' = record { rank = rank; lost = lost; id = id; columns = c' }

  reference_same : (b : Bool) (x : Text) (subs : Subscripts) → read_all r subs ≡ read_all r' subs → reference_read r b x subs (read_all r subs) ≡ reference_read r' b x subs (read_all r' subs)
  reference_same true x subs h = refl
  reference_same false x subs h = ap (losing x (lost x)) h

  mutual
    read_same : (e : Expr) → read r e ≡ read r' e
    read_same (Numeral n suffix) = refl
    read_same (Boolean b) = refl
    read_same (Name x) = refl
    read_same (Reference x subs) = reference_same (is_size (intrinsic_named x)) x subs (all_same subs)
    read_same (Signed sign e) = ap (Signed sign) (read_same e)
    read_same (Binary op a b) = ap₂ (Binary op) (read_same a) (read_same b)
    read_same (Paren e) = ap Paren (read_same e)

    all_same : (subs : Subscripts) → read_all r subs ≡ read_all r' subs
    all_same No_more = refl
    all_same (At e rest) = ap₂ At (read_same e) (all_same rest)
    all_same (Section lower upper rest) = λ t. Section (limit_same lower t) (limit_same upper t) (all_same rest t)
    all_same (Between m n rest) = ap (Between m n) (all_same rest)

    limit_same : (l : Limit) → read_limit r l ≡ read_limit r' l
    limit_same Unbounded = refl
    limit_same (Bounded e) = ap Bounded (read_same e)

  option_same : (e : Option Expr) → read_option r e ≡ read_option r' e
  option_same None = refl
  option_same (Some e) = ap Some (read_same e)

  head_same : (h : Head) → read_head r h ≡ read_head r' h
  head_same h = λ t. record { variable = h.variable; from = read_same h.from t; to = read_same h.to t; step = option_same h.step t }

  loop_same : (h : Head) (mark : Option Directive) (body : Stmts) → is_none mark ≡ true → read_stmts r body ≡ read_stmts r' body → read_loop r h mark body (read_stmts r body) ≡ read_loop r' h mark body (read_stmts r' body)
  loop_same h (Some d) body e same = absurd (false≢true e)
  loop_same h None body e same = go (is_column_loop id h)
    where
      go : (b : Bool) → (if b then read_stmts r body else alone (Do (read_head r h) (read_stmts r body) None)) ≡ (if b then read_stmts r' body else alone (Do (read_head r' h) (read_stmts r' body) None))
      go true = same
      go false = ap₂ (λ f s. alone (Do f s None)) (head_same h) same

  module _ (IsCalled IsReferred : Text → Type 0) (none : (x : Text) → IsCalled x → (c x ≡ None) × (c' x ≡ None)) where
    call_same : (x : Text) (args : Subscripts) → IsCalled x → read_call r (c x) args ≡ read_call r' (c' x) args
    call_same x args is = ap (λ o. read_call r o args) (none x is).0 ∙ (all_same args ∙ sym (ap (λ o. read_call r' o args) (none x is).1))

    mutual
      stmt_same : (s : Stmt) → is_undirected s ≡ true → Calls IsCalled IsReferred s → read_stmt r s ≡ read_stmt r' s
      stmt_same (Assign left right) u h = ap₂ (λ a b. alone (Assign a b)) (read_same left) (read_same right)
      stmt_same (Call x args forward) u h = ap (λ a. alone (Call x a false)) (call_same x args h.0)
      stmt_same (If arms other) u h = let w = both (arms_undirected arms) (otherwise_undirected other) u in ap₂ (λ a o. alone (If a o)) (arms_same arms w.0 h.0) (otherwise_same other w.1 h.1)
      stmt_same (Select e cases other) u h =
          let w = both (cases_undirected cases) (otherwise_undirected other) u in
          λ t. alone (Select (read_same e t) (cases_same cases w.0 h.1 t) (otherwise_same other w.1 h.2 t))
      stmt_same (Do d body mark) u h = let w = both (is_none mark) (are_undirected body) u in loop_same d mark body w.0 (stmts_same body w.1 h.1)
      stmt_same (Block d body) u h = absurd (false≢true u)
      stmt_same (Piece body) u h = absurd (false≢true u)
      stmt_same Exit u h = refl
      stmt_same Cycle u h = refl
      stmt_same Return u h = refl

      pub stmts_same : (s : Stmts) → are_undirected s ≡ true → AllCall IsCalled IsReferred s → read_stmts r s ≡ read_stmts r' s
      stmts_same Done u h = refl
      stmts_same (Then s rest) u h = let w = both (is_undirected s) (are_undirected rest) u in ap₂ appended (stmt_same s w.0 h.0) (stmts_same rest w.1 h.1)

      arms_same : (a : Arms) → arms_undirected a ≡ true → ArmsCall IsCalled IsReferred a → read_arms r a ≡ read_arms r' a
      arms_same No_arm u h = refl
      arms_same (Arm test body rest) u h =
          let w = both (are_undirected body) (arms_undirected rest) u in
          λ t. Arm (read_same test t) (stmts_same body w.0 h.1 t) (arms_same rest w.1 h.2 t)

      cases_same : (k : Cases) → cases_undirected k ≡ true → CasesCall IsCalled IsReferred k → read_cases r k ≡ read_cases r' k
      cases_same No_case u h = refl
      cases_same (Case ranges body rest) u h = let w = both (are_undirected body) (cases_undirected rest) u in ap₂ (Case ranges) (stmts_same body w.0 h.0) (cases_same rest w.1 h.1)

      otherwise_same : (o : Otherwise) → otherwise_undirected o ≡ true → OtherwiseCalls IsCalled IsReferred o → read_otherwise r o ≡ read_otherwise r' o
      otherwise_same Nothing_else u h = refl
      otherwise_same (Else body) u h = ap Else (stmts_same body u h)
