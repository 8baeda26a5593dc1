-- Tokens are one statement at most, and lines have one list of forms at most.
use Rattle.std.proofs.Common.{◌≡◌, List, [], ◌∷◌, ◌++◌, None, Some, true, false, refl, sym, ap, ◌∙◌, subst}
use Rattle.std.proofs.lemmas.Bool.{true≢false}
use Rattle.fort_tree.specs.declared.choice.Mode.TheVariants.{Target}
use Rattle.fort_tree.specs.declared.statement.Line.{Line}
use Rattle.fort_tree.specs.declared.statement.Statement.{Statement, out-Statement}
use Rattle.fort_tree.specs.declared.statement.Token.{Token}
use Rattle.fort_tree.specs.declared.stmt.Directive.{Directive}
use Rattle.fort_grammar.specs.declared.table.Action.{Action}
use Rattle.fort_grammar.specs.declared.table.Part.{Part}
use Rattle.fort_grammar.specs.declared.table.Symbol.{Symbol}
use Rattle.fort_grammar.specs.declared.table.Symbol.TheVariants.{Call}
use Rattle.fort_grammar.specs.Choose.{chosen}
use Rattle.fort_grammar.specs.Derives.{In, Derives}
use Rattle.fort_grammar.specs.Derives as derives
use Rattle.fort_grammar.specs.Engine.{look_of}
use Rattle.fort_grammar.specs.First.{Good}
use Rattle.fort_grammar.specs.Table.{Choice, table}
use Rattle.fort_grammar.proofs.Theory.{begins, begins-ready, chosen-ready, expands, good-call, inv-build, inv-nil, inv-take, order_of}
use Rattle.fort_expr.specs.Words.{front_place}
use Rattle.fort_stmt.specs.declared.value.Draft.{Draft}
use Rattle.fort_stmt.specs.Form.{IsStatement}
use Rattle.fort_stmt.specs.Machine.{Spelled, start}
use Rattle.fort_stmt.specs.Values.{blank, take_in, act_on}
use Rattle.claw_lines.specs.Forms as directive_line
use Rattle.claw_lines.specs.Forms.{IsLine, first_place}
use Rattle.sound_programs.specs.Forms as forms
use Rattle.sound_programs.specs.Forms.{Form, Says}
use Rattle.layout_reading.specs.FormLines.{TokenLine, HasForm, says, directs, HaveForms, no_form, form}

-- DERIVATIONS

heads : (t x : Token) (w v : List Token) → t ∷ w ≡ x ∷ v → t ≡ x
heads t x w v h = cc

tails : (t x : Token) (w v : List Token) → t ∷ w ≡ x ∷ v → w ≡ v
tails t x w v h = cc

module _ (V : Type 0) (shift : Token → V → V) (apply : Action → V → V) where
  abbrev Der : List Symbol → List Token → V → V → Type 0
  Der ss w v u = Derives V shift apply ss w v u

  called : {w : List Token} {v u : V} (n : Part) (r : Choice) (ss : List Symbol) → Good (Call n ∷ ss) → In r (table n) → Der (r.symbols ++ ss) w v u → chosen (look_of w) (table n) ≡ Some r
  called {w = w} n r ss g i d = chosen-ready n (look_of w) (table n) (order_of n) r i (begins-ready n r ss w i g (begins V shift apply d))

  -- a derivation goes by the rows that the tokens call for, so its values are one
  one_derivation : {ss : List Symbol} {w : List Token} {v u y : V} → Good ss → Der ss w v u → Der ss w v y → u ≡ y
  one_derivation g derives.done k = (inv-nil V shift apply k).1
  one_derivation {y = y} g (derives.take {rest = ss} {w = w} {v = v} t e d) k =
      let p = inv-take V shift apply k in
      one_derivation g d (subst (λ q. Der ss w (shift q v) y) (sym (heads t p.0 w p.1 p.2)) (subst (λ q. Der ss q (shift p.0 v) y) (sym (tails t p.0 w p.1 p.2)) p.4))
  one_derivation g (derives.build d) k = one_derivation g d (inv-build V shift apply k)
  one_derivation {y = y} g (derives.row {n = n} {rest = ss} {w = w} {v = v} r i d) k = one_derivation (good-call n r ss i g) d (expands V shift apply n r ss w v y g (called n r ss g i d) k)

start_good : Good start
start_good = (λ c h. absurd (true≢false (sym h)), tt)

-- STATEMENTS

-- what tokens are as a statement is built where the grammar derives them
abbrev pub AreBuilt : Type 0
AreBuilt = (tokens : List Token) (statement : Statement) → IsStatement tokens statement → (built : Draft) × Spelled start tokens blank built × (built.statement ≡ statement)

-- a directive line asks for one list of directives at most
abbrev pub AskOnce : Type 0
AskOnce = (line : Line) (these those : List Directive) → directive_line.Directs line these → directive_line.Directs line those → these ≡ those

first_directive : (d e : Directive) → ◌≡◌ {A = List Directive} (d ∷ []) (e ∷ []) → d ≡ e
first_directive d e h = cc

front_first : (tokens : List Token) → first_place (front_place tokens) tokens ≡ front_place tokens
front_first [] = refl
front_first (t ∷ tokens) = refl

-- a directive line of these tokens
abbrev alone : List Token → Line
alone tokens = record { at = front_place tokens; mode = Target; directive = true; unfinished = None; within = false; tokens = tokens }

alone_directs : (tokens : List Token) (l : List Directive) → IsLine (front_place tokens) tokens l → directive_line.Directs (alone tokens) l
alone_directs tokens l h = record { whole = refl; form = subst (λ p. IsLine p tokens l) (sym (front_first tokens)) h }

-- what the line says or asks for
pub data Gives (l : TokenLine) (g : Form) : Type 0 where
  a_statement : (s : Statement) → l.directive ≡ false → IsStatement l.tokens s → g ≡ Says (front_place l.tokens) (out-Statement s) → Gives l g
  a_mark : (d : Directive) → l.directive ≡ true → IsLine (front_place l.tokens) l.tokens (d ∷ []) → g ≡ forms.Directs d → Gives l g

pub gives : {l : TokenLine} {g : Form} → HasForm l g → Gives l g
gives (says {s = s} h) = a_statement s refl h refl
gives (directs {d = d} h) = a_mark d refl h refl

module _ (built : AreBuilt) (once : AskOnce) where
  pub one_statement : (tokens : List Token) (s x : Statement) → IsStatement tokens s → IsStatement tokens x → s ≡ x
  one_statement tokens s x d e =
      let a = built tokens s d in
      let b = built tokens x e in
      sym a.2 ∙ (ap (λ (y : Draft). y.statement) (one_derivation Draft take_in act_on start_good a.1 b.1) ∙ b.2)

  one_form : (l : TokenLine) (g h : Form) → Gives l g → Gives l h → g ≡ h
  one_form l g h (a_statement s d i e) (a_statement x c j f) = e ∙ (ap (λ y. Says (front_place l.tokens) (out-Statement y)) (one_statement l.tokens s x i j) ∙ sym f)
  one_form l g h (a_statement s d i e) (a_mark x c j f) = absurd (true≢false (sym c ∙ d))
  one_form l g h (a_mark s d i e) (a_statement x c j f) = absurd (true≢false (sym d ∙ c))
  one_form l g h (a_mark s d i e) (a_mark x c j f) =
      e ∙ (ap forms.Directs (first_directive s x (once (alone l.tokens) (s ∷ []) (x ∷ []) (alone_directs l.tokens (s ∷ []) i) (alone_directs l.tokens (x ∷ []) j))) ∙ sym f)

  -- lines have one list of forms at most
  pub one_list : (ls : List TokenLine) (gs hs : List Form) → HaveForms ls gs → HaveForms ls hs → gs ≡ hs
  one_list [] gs hs no_form no_form = refl
  one_list (l ∷ ls) gs hs (form {g = g} {gs = fs} d ds) (form {g = h} {gs = ks} e es) = ap (λ x. x ∷ fs) (one_form l g h (gives d) (gives e)) ∙ ap (λ x. h ∷ x) (one_list ls fs ks ds es)
