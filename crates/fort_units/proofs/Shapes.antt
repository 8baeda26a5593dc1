-- The shapes of what is open behind lines without a fault, and what the lines from there on must be to nest.
use Rattle.std.proofs.Common.{◌≡◌, ℕ, List, [], ◌∷◌, Bool, true, false, Option, None, Some, refl, IsTrue}
use Rattle.std.specs.Prelude.{is_some}
use Rattle.fort_tree.specs.declared.choice.Mode.{Mode}
use Rattle.fort_tree.specs.declared.place.Place.{Place}
use Rattle.fort_tree.specs.declared.statement.EndWord.{EndWord}
use Rattle.fort_tree.specs.declared.statement.EndWord.TheVariants as word
use Rattle.fort_tree.specs.declared.statement.Statement.{Statement}
use Rattle.fort_tree.specs.declared.statement.Statement.TheOpen.{Statement-F}
use Rattle.fort_tree.specs.declared.stmt.Arm.{Arm}
use Rattle.fort_tree.specs.declared.stmt.Case.{Case}
use Rattle.fort_tree.specs.declared.stmt.Directive.{Directive}
use Rattle.fort_tree.specs.declared.stmt.DirectiveWord.{DirectiveWord}
use Rattle.fort_tree.specs.declared.stmt.Stmt.{Stmt}
use Rattle.fort_tree.specs.declared.unit.Decl.{Decl}
use Rattle.fort_tree.specs.declared.unit.Item as tree_item
use Rattle.fort_tree.specs.declared.unit.Module.{Module}
use Rattle.fort_tree.specs.declared.unit.Unit as unit
use Rattle.fort_tree.specs.declared.unit.Use.{Use}
use Rattle.sound_programs.specs.Forms.{Form, Says, Directs, is_define, is_parallelize, ends_block}
use Rattle.sound_programs.specs.Nesting.{Inside, in_unit, in_loop_under, Body, done, more, One, Arms, Cases, no_more_uses, unsaid, Declares, no_more_decls, Marked, unmarked, Paired, unpaired, Head-part, Ends, AreUnits, Contained, Nests_from}
use Rattle.fort_units.specs.declared.around.Around.{Around}
use Rattle.fort_units.specs.declared.around.Block.{Block}
use Rattle.fort_units.specs.declared.around.Construct.TheVariants as construct
use Rattle.fort_units.specs.declared.around.Exits.TheVariants as exits
use Rattle.fort_units.specs.declared.around.Heading.{Heading}
use Rattle.fort_units.specs.declared.around.Listing.{Listing}
use Rattle.fort_units.specs.declared.around.Part.{Part}
use Rattle.fort_units.specs.declared.around.Part.TheVariants as part
use Rattle.fort_units.specs.declared.around.Waiting.{Waiting}
use Rattle.fort_units.specs.Opens.{unit_list, exits_of, or_else}
use Rattle.fort_units.specs.Faults.{alone_of}

-- a list has something or nothing
pub nonempty : {A : Type 0} {x : A} {xs : List A} → x ∷ xs ≡ [] → ⊥
nonempty e = cc

-- ---- Lists in lists, each with its depth and its open blocks

pub data Nest : Type 0 where
  base : ℕ → List Block → Nest
  in_if : ℕ → List Block → Nest → Nest
  in_else : ℕ → List Block → Nest → Nest
  in_select : ℕ → Nest → Nest
  in_case : Bool → ℕ → List Block → Nest → Nest
  in_do : Option Place → ℕ → List Block → Nest → Nest

abbrev pub list_of : Nest → Listing
list_of (base d bs) = record { construct = None; exits = exits.Nowhere; returns = None; depth = d; blocks = bs }
list_of (in_if d bs n) = record { construct = Some construct.If; exits = (list_of n).exits; returns = (list_of n).returns; depth = d; blocks = bs }
list_of (in_else d bs n) = record { construct = Some construct.Else; exits = (list_of n).exits; returns = (list_of n).returns; depth = d; blocks = bs }
list_of (in_select d n) = record { construct = Some construct.Select; exits = (list_of n).exits; returns = (list_of n).returns; depth = d; blocks = [] }
list_of (in_case had d bs n) = record { construct = Some (construct.Case had); exits = (list_of n).exits; returns = (list_of n).returns; depth = d; blocks = bs }
list_of (in_do mark d bs n) = record { construct = Some construct.Do; exits = exits_of mark; returns = or_else (list_of n).returns mark; depth = d; blocks = bs }

abbrev pub outside_of : Nest → List Listing
outside_of (base d bs) = []
outside_of (in_if d bs n) = list_of n ∷ outside_of n
outside_of (in_else d bs n) = list_of n ∷ outside_of n
outside_of (in_select d n) = list_of n ∷ outside_of n
outside_of (in_case had d bs n) = list_of n ∷ outside_of n
outside_of (in_do mark d bs n) = list_of n ∷ outside_of n

abbrev pub inside_of : Nest → Inside
inside_of (base d bs) = in_unit
inside_of (in_if d bs n) = inside_of n
inside_of (in_else d bs n) = inside_of n
inside_of (in_select d n) = inside_of n
inside_of (in_case had d bs n) = inside_of n
inside_of (in_do mark d bs n) = in_loop_under (is_some mark) (inside_of n)

-- ---- What is open as a whole

pub data Shape : Type 0 where
  top : Shape
  module_head : Bool → List ℕ → Shape  -- whether USE lines can stand
  contained : List ℕ → Shape
  unit_head : Option (List ℕ) → Bool → Bool → List ℕ → Option Place → Option Place → Shape  -- whether USE lines can stand, whether it is a SUBROUTINE
  early : Option (List ℕ) → Bool → Bool → List ℕ → Option Place → Option Place → Place → ℕ → List Block → Shape  -- a block or a mark stands that no more of the head may follow
  body : Option (List ℕ) → Bool → List ℕ → Nest → Shape

abbrev pub word_of : Bool → EndWord
word_of true = word.Subroutine
word_of false = word.Function

abbrev pub part_of : Bool → Part
part_of true = part.Uses
part_of false = part.Declarations

abbrev pub heading : Bool → List ℕ → Option Heading
heading sub name = Some (record { word = word_of sub; name = name })

abbrev pub around_of : ℕ → ℕ → Option Waiting → Shape → Around
around_of file line w top = record { file = file; line = line; host = None; unit = None; part = part.Body; list = unit_list; outside = []; define = None; parallelize = None; head_end = None; waiting = w }
around_of file line w (module_head uses h) =
    record { file = file; line = line; host = Some h; unit = None; part = part_of uses; list = unit_list; outside = []; define = None; parallelize = None; head_end = None; waiting = w }
around_of file line w (contained h) =
    record { file = file; line = line; host = Some h; unit = None; part = part.Body; list = unit_list; outside = []; define = None; parallelize = None; head_end = None; waiting = w }
around_of file line w (unit_head host uses sub name d p) =
    record { file = file; line = line; host = host; unit = heading sub name; part = part_of uses; list = unit_list; outside = []; define = d; parallelize = p; head_end = None; waiting = w }
around_of file line w (early host uses sub name d p at depth bs) =
    record { file = file; line = line; host = host; unit = heading sub name; part = part_of uses; list = list_of (base depth bs); outside = []; define = d; parallelize = p; head_end = Some at; waiting = w }
around_of file line w (body host sub name n) =
    record { file = file; line = line; host = host; unit = heading sub name; part = part.Body; list = list_of n; outside = outside_of n; define = None; parallelize = None; head_end = None; waiting = w }

-- ---- What must follow

module _ (mode : Mode) where
  -- statements, and then what follows them
  pub record Filled (around : Inside) (K : List Form → Type 0) (forms : List Form) : Type 0 where
    pub stmts : List Stmt
    pub next : List Form
    pub filled : Body mode around forms stmts next
    pub follows : K next

  -- the last line of a block, and then what follows it
  pub record Closed (b : Block) (K : List Form → Type 0) (forms : List Form) : Type 0 where
    pub end : Directive
    pub rest : List Form
    pub is : forms ≡ Directs end ∷ rest
    pub ends : IsTrue (ends_block b.word end.word)
    pub follows : K rest

  abbrev pub InBlocks : Inside → List Block → (List Form → Type 0) → List Form → Type 0
  InBlocks around [] K forms = Filled around K forms
  InBlocks around (b ∷ bs) K forms = Filled around (Closed b (InBlocks around bs K)) forms

  pub record ArmsThen (around : Inside) (K : List Form → Type 0) (forms : List Form) : Type 0 where
    pub arms : List Arm
    pub other : Option (List Stmt)
    pub rest : List Form
    pub are : Arms mode around forms arms other rest
    pub follows : K rest

  pub record CasesThen (around : Inside) (had : Bool) (K : List Form → Type 0) (forms : List Form) : Type 0 where
    pub cases : List Case
    pub other : Option (List Stmt)
    pub rest : List Form
    pub are : Cases mode around forms cases other rest
    pub once : had ≡ true → other ≡ None
    pub follows : K rest

  pub record SaysThen (level : Statement-F Statement) (K : List Form → Type 0) (forms : List Form) : Type 0 where
    pub at : Place
    pub rest : List Form
    pub is : forms ≡ Says at level ∷ rest
    pub follows : K rest

  abbrev pub InNest : Nest → (List Form → Type 0) → List Form → Type 0
  InNest (base d bs) K forms = InBlocks in_unit bs K forms
  InNest (in_if d bs n) K forms = InBlocks (inside_of n) bs (ArmsThen (inside_of n) (InNest n K)) forms
  InNest (in_else d bs n) K forms = InBlocks (inside_of n) bs (SaysThen Statement-F.EndIf (InNest n K)) forms
  InNest (in_select d n) K forms = CasesThen (inside_of n) false (InNest n K) forms
  InNest (in_case had d bs n) K forms = InBlocks (inside_of n) bs (CasesThen (inside_of n) had (InNest n K)) forms
  InNest (in_do mark d bs n) K forms = InBlocks (in_loop_under (is_some mark) (inside_of n)) bs (SaysThen Statement-F.EndDo (InNest n K)) forms

  -- the END of a unit or a module whose header stands in the file
  pub record EndsThen (file : ℕ) (w : EndWord) (name : List ℕ) (K : List Form → Type 0) (forms : List Form) : Type 0 where
    pub end : Form
    pub rest : List Form
    pub is : forms ≡ end ∷ rest
    pub ends : (header : Place) → header.file ≡ file → Ends mode w name header end
    pub follows : K rest

  -- the rest of a program, the modules and units before it being so many
  pub record Nesting (m u : ℕ) (forms : List Form) : Type 0 where
    pub modules : List Module
    pub units : List unit.Unit
    pub order : List tree_item.Item
    pub nests : Nests_from mode m u forms modules units order

  abbrev pub OnTop : List Form → Type 0
  OnTop forms = (m u : ℕ) → Nesting m u forms

  pub record UnitsThen (number : ℕ) (K : List Form → Type 0) (forms : List Form) : Type 0 where
    pub units : List unit.Unit
    pub rest : List Form
    pub are : AreUnits mode (Some number) forms units rest
    pub follows : K rest

  abbrev pub InModule : ℕ → List ℕ → List Form → Type 0
  InModule file h forms = (number : ℕ) → UnitsThen number (EndsThen file word.Module h OnTop) forms

  abbrev pub AfterUnit : ℕ → Option (List ℕ) → List Form → Type 0
  AfterUnit file None = OnTop
  AfterUnit file (Some h) = InModule file h

  pub record ContainedThen (number : ℕ) (K : List Form → Type 0) (forms : List Form) : Type 0 where
    pub units : List unit.Unit
    pub rest : List Form
    pub are : Contained mode number forms units rest
    pub follows : K rest

  -- a head in which USE lines can stand, and one in which they can't
  pub record FullHead (Owes : List Directive → List Directive → Type 0) (K : List Form → Type 0) (forms : List Form) : Type 0 where
    pub lines : List Use
    pub decls : List Decl
    pub pair : List Directive
    pub mark : List Directive
    pub inside : List Form
    pub head : Head-part mode forms lines decls pair mark inside
    pub owes : Owes pair mark
    pub follows : K inside

  pub record LateHead (Owes : List Directive → List Directive → Type 0) (K : List Form → Type 0) (forms : List Form) : Type 0 where
    pub decls : List Decl
    pub pair : List Directive
    pub mark : List Directive
    pub after_decls : List Form
    pub inside : List Form
    pub declared : Declares mode forms decls pair after_decls
    pub marked : Marked mode after_decls mark inside
    pub owes : Owes pair mark
    pub follows : K inside

  abbrev pub InHead : Bool → (List Directive → List Directive → Type 0) → (List Form → Type 0) → List Form → Type 0
  InHead true Owes K forms = FullHead Owes K forms
  InHead false Owes K forms = LateHead Owes K forms

  -- no directive stands in the head of a module
  abbrev pub OwesNone : List Directive → List Directive → Type 0
  OwesNone pair mark = (pair ≡ []) × (mark ≡ [])

  pub record OnlyOne (is : DirectiveWord → Bool) (pair : List Directive) : Type 0 where
    pub one : Directive
    pub is_one : pair ≡ one ∷ []
    pub has : IsTrue (is one.word)

  -- what is still to come of `define` and `parallelize`, of which these stand already
  abbrev pub Owed : Bool → Option Place → Option Place → List Directive → List Directive → Type 0
  Owed false d p pair mark = pair ≡ []
  Owed true None None pair mark = Paired mode pair
  Owed true (Some d) None pair mark = OnlyOne is_parallelize pair
  Owed true None (Some p) pair mark = OnlyOne is_define pair
  Owed true (Some d) (Some p) pair mark = pair ≡ []

  abbrev pub UnitEnd : ℕ → Option (List ℕ) → Bool → List ℕ → List Form → Type 0
  UnitEnd file host sub name = EndsThen file (word_of sub) name (AfterUnit file host)

  -- the lines from here on nest
  abbrev pub Nested : ℕ → Shape → List Form → Type 0
  Nested file top forms = OnTop forms
  Nested file (module_head uses h) forms = (number : ℕ) → InHead uses OwesNone (ContainedThen number (EndsThen file word.Module h OnTop)) forms
  Nested file (contained h) forms = InModule file h forms
  Nested file (unit_head host uses sub name d p) forms = InHead uses (Owed sub d p) (InNest (base 0 []) (UnitEnd file host sub name)) forms
  Nested file (early host uses sub name d p at depth bs) forms = Owed sub d p [] [] × InNest (base depth bs) (UnitEnd file host sub name) forms
  Nested file (body host sub name n) forms = InNest n (UnitEnd file host sub name) forms

  -- ---- Steps back

  pub add : {around : Inside} {K : List Form → Type 0} {forms next : List Form} {s : Stmt} → One mode around forms s next → Filled around K next → Filled around K forms
  add one h = record { stmts = _ ∷ h.stmts; next = h.next; filled = more one h.filled; follows = h.follows }

  pub add_in : (around : Inside) (bs : List Block) (K : List Form → Type 0) {forms next : List Form} {s : Stmt} → One mode around forms s next → InBlocks around bs K next → InBlocks around bs K forms
  add_in around [] K one h = add one h
  add_in around (b ∷ bs) K one h = add one h

  -- no statement stands before what follows
  pub at_once : {around : Inside} {K : List Form → Type 0} {forms : List Form} → K forms → Filled around K forms
  at_once k = record { stmts = []; next = _; filled = done; follows = k }

  pub late_full : (Owes : List Directive → List Directive → Type 0) (K : List Form → Type 0) (forms : List Form) → LateHead Owes K forms → FullHead Owes K forms
  late_full Owes K forms h = record {
    lines = [];
    decls = h.decls;
    pair = h.pair;
    mark = h.mark;
    inside = h.inside;
    head = record {
      after_uses = forms;
      after_implicit = forms;
      after_decls = h.after_decls;
      among_uses = [];
      among_decls = h.pair;
      used = no_more_uses;
      implicit = unsaid;
      declared = h.declared;
      paired = refl;
      marked = h.marked;
    };
    owes = h.owes;
    follows = h.follows;
  }

  -- nothing of the head stands any more
  late_over : (Owes : List Directive → List Directive → Type 0) (K : List Form → Type 0) (forms : List Form) → Owes [] [] → K forms → LateHead Owes K forms
  late_over Owes K forms o k =
      record { decls = []; pair = []; mark = []; after_decls = forms; inside = forms; declared = no_more_decls; marked = unmarked; owes = o; follows = k }

  pub head_over : (uses : Bool) (Owes : List Directive → List Directive → Type 0) (K : List Form → Type 0) (forms : List Form) → Owes [] [] → K forms → InHead uses Owes K forms
  head_over false Owes K forms o k = late_over Owes K forms o k
  head_over true Owes K forms o k = late_full Owes K forms (late_over Owes K forms o k)

  pub none_alone : (sub : Bool) (d p : Option Place) → alone_of d p ≡ [] → Owed sub d p [] []
  none_alone false d p h = refl
  none_alone true None None h = unpaired
  none_alone true (Some d) (Some p) h = refl
  none_alone true (Some d) None h = absurd (nonempty h)
  none_alone true None (Some p) h = absurd (nonempty h)
