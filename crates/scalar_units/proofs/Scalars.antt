-- A unit that passes the tests is one of column scalars, on plain trees.
use Rattle.std.proofs.Common.{◌≡◌, ℕ, ◌≤◌, ◌<◌, length, arith, Bool, true, false, ◌&&◌, not, List, [], ◌∷◌, Option, None, Some, map, refl, sym, ap, ◌∙◌, subst, Contains, ◌⊎◌, inl, inr}
use Rattle.std.specs.Prelude.{is_none, is_some}
use Rattle.std.specs.List.{list_all}
use Rattle.std.specs.Str.{bytes_eq}
use Rattle.std.proofs.lemmas.Bool.{and_parts, false≢true, not-true, leb-true}
use Rattle.fort_arith.specs.declared.kind.Kind.{Kind}
use Rattle.fort_arith.specs.declared.kind.Kind.TheVariants.{I4}
use Rattle.fort_arith.specs.declared.op.Op.{Op}
use Rattle.fort_arith.specs.declared.op.Op.TheVariants.{Add, Sub, Mul}
use Rattle.fort_tree.specs.declared.expr.Unary.{Unary}
use Rattle.fort_tree.specs.declared.expr.Unary.TheVariants.{Plus, Minus}
use Rattle.fort_tree.specs.declared.stmt.DirectiveWord.{DirectiveWord}
use Rattle.fort_tree.specs.declared.stmt.DirectiveWord.TheVariants as word
use Rattle.fort_tree.specs.declared.unit.Intent.{Intent}
use Rattle.fort_tree.specs.declared.unit.Intent.TheVariants.{In}
use Rattle.claw_meaning.specs.Syntax.{Text, Expr, Numeral, Name, Signed, Binary, Dimension, Decl, Directive, Stmt, Stmts, Then, Assign, Use, Unit}
use Rattle.claw_meaning.specs.Plain.{in_a_row}
use Rattle.column_scalars.specs.Scalars.{Scalars, IsScalars, source_unit, IsSum, AreSums, IsTermOp, IsTermSign, assignments, dummy_decl, decls_of, define, parallelize, Distinct}
use Rattle.column_scalars.proofs.MemberCases.{same_itself, contains_here, contains_none, contains_cases}
use Rattle.scalar_units.specs.Units.{is_among, stands_once, names_of, is_ordinary, is_dummy, is_empty, is_header, is_default, is_declaration, is_small_number, is_define_word, is_parallelize_word, is_bare, is_new, are_new, is_define, is_parallelize, is_term_op, is_term_sign, is_sum, is_input, is_target, is_assignment}
use Rattle.scalar_units.proofs.Counting.{Once, once, once_of, among, not_among, all_among, no_intrinsics, none_fresh}

-- ---- tests

three : (a b c : Bool) → (a && b && c) ≡ true → (a ≡ true) × (b ≡ true) × (c ≡ true)
three a b c h = let q = and_parts (a && b) c h in let p = and_parts a b q.0 in (p.0, p.1, q.1)

four : (a b c d : Bool) → (a && b && c && d) ≡ true → (a ≡ true) × (b ≡ true) × (c ≡ true) × (d ≡ true)
four a b c d h = let q = and_parts (a && b && c) d h in let p = three a b c q.0 in (p.0, p.1, p.2, q.1)

none_is : {A : Type 0} (o : Option A) → is_none o ≡ true → o ≡ None
none_is None h = refl
none_is (Some x) h = absurd (false≢true h)

not_is : (b : Bool) → not b ≡ true → b ≡ false
not_is b h = not-true b h

all_of : {A : Type 0} (p q : A → Bool) (xs : List A) → ((x : A) → p x ≡ true → q x ≡ true) → list_all p xs ≡ true → list_all q xs ≡ true
all_of p q [] next h = refl
all_of p q (x ∷ xs) next h = let parts = and_parts (p x) (list_all p xs) h in rw (next x parts.0, all_of p q xs next parts.1) refl

-- ---- sums

sign_is : (s : Unary) → is_term_sign s ≡ true → IsTermSign s
sign_is Plus h = tt
sign_is Minus h = tt
sign_is other h = absurd (false≢true h)

op_is : (o : Op) → is_term_op o ≡ true → IsTermOp o
op_is Add h = tt
op_is Sub h = tt
op_is Mul h = tt
op_is other h = absurd (false≢true h)

sum_is : (names : List Text) (e : Expr) → is_sum names e ≡ true → IsSum names e
sum_is names (Numeral n None) h = leb-true n 2147483647 h
sum_is names (Name x) h = among names x h
sum_is names (Signed sign e) h = let parts = and_parts (is_term_sign sign) (is_sum names e) h in (sign_is sign parts.0, sum_is names e parts.1)
sum_is names (Binary op a b) h =
    let parts = three (is_term_op op) (is_sum names a) (is_sum names b) h in (op_is op parts.0, sum_is names a parts.1, sum_is names b parts.2)
sum_is names other h = absurd (false≢true h)

-- ---- statements

abbrev named : Expr → Text
named (Name x) = x
named other = []

abbrev assigned : Stmt → Text × Expr
assigned (Assign left right) = (named left, right)
assigned other = ([], Numeral 0 None)

target_is : (u : Unit) (e : Expr) → is_target u e ≡ true → (e ≡ Name (named e)) × Contains u.dummies (named e)
target_is u (Name x) h = let parts = and_parts (is_among u.dummies x) (not (is_input u.decls x)) h in (refl, among u.dummies x parts.0)
target_is u other h = absurd (false≢true h)

assignment_is : (u : Unit) (s : Stmt) → is_assignment u s ≡ true → (s ≡ Assign (Name (assigned s).0) (assigned s).1) × Contains u.dummies (assigned s).0 × IsSum u.dummies (assigned s).1
assignment_is u (Assign left right) h =
    let parts = and_parts (is_target u left) (is_sum u.dummies right) h in
    let to = target_is u left parts.0 in
    (ap (λ e. Assign e right) to.0, to.1, sum_is u.dummies right parts.1)
assignment_is u other h = absurd (false≢true h)

body_is : (u : Unit) (body : List Stmt) → list_all (is_assignment u) body ≡ true → (in_a_row body ≡ assignments (map assigned body)) × AreSums u.dummies (map assigned body)
body_is u [] h = (refl, tt)
body_is u (s ∷ rest) h =
    let parts = and_parts (is_assignment u s) (list_all (is_assignment u) rest) h in
    let first = assignment_is u s parts.0 in
    let more = body_is u rest parts.1 in
    (ap (λ t. Then t (in_a_row rest)) first.0 ∙ ap (Then (Assign (Name (assigned s).0) (assigned s).1)) more.0, (first.1, first.2, more.1))

-- ---- declarations

abbrev intent_or : Option Intent → Intent
intent_or None = In
intent_or (Some i) = i

default_is : (k : Kind) → is_default k ≡ true → k ≡ I4
default_is I4 h = refl
default_is other h = absurd (false≢true h)

some_is : (i : Option Intent) → is_some i ≡ true → i ≡ Some (intent_or i)
some_is None h = absurd (false≢true h)
some_is (Some i) h = refl

empty_is : {A : Type 0} (xs : List A) → is_empty xs ≡ true → xs ≡ []
empty_is [] h = refl
empty_is (x ∷ xs) h = absurd (false≢true h)

abbrev declared : Decl → Text × Intent
declared d = (d.name, intent_or d.intent)

decl_is : (u : Unit) (d : Decl) → is_declaration u d ≡ true → (d ≡ dummy_decl d.name (intent_or d.intent)) × Contains u.dummies d.name
decl_is u d h =
    let parts = and_parts (is_default d.kind && is_some d.intent && is_empty d.shape && is_none d.value) (is_among u.dummies d.name) h in
    let fields = four (is_default d.kind) (is_some d.intent) (is_empty d.shape) (is_none d.value) parts.0 in
    let of : Kind → Option Intent → List Dimension → Option Expr → Decl = λ k i s v. record { name = d.name; kind = k; intent = i; shape = s; value = v } in (
      ap (λ k. of k d.intent d.shape d.value) (default_is d.kind fields.0) ∙ ap (λ i. of I4 i d.shape d.value) (some_is d.intent fields.1)
          ∙ ap (λ s. of I4 (Some (intent_or d.intent)) s d.value) (empty_is d.shape fields.2) ∙ ap (of I4 (Some (intent_or d.intent)) []) (none_is d.value fields.3),
      among u.dummies d.name parts.1,
    )

record Declared (u : Unit) (ds : List Decl) : Type 0 where
  are : ds ≡ decls_of (map declared ds)
  names : map (λ d. d.0) (map declared ds) ≡ names_of ds
  dummies : (x : Text) → Contains (names_of ds) x → Contains u.dummies x

decls_are : (u : Unit) (ds : List Decl) → list_all (is_declaration u) ds ≡ true → Declared u ds
decls_are u [] h = record { are = refl; names = refl; dummies = λ x t. absurd (contains_none x t) }
decls_are u (d ∷ ds) h =
    let parts = and_parts (is_declaration u d) (list_all (is_declaration u) ds) h in
    let first = decl_is u d parts.0 in
    let more = decls_are u ds parts.1 in
    record {
      are = ap (λ e. e ∷ ds) first.0 ∙ ap (λ es. dummy_decl d.name (intent_or d.intent) ∷ es) more.are;
      names = ap (λ (ns : List Text). d.name ∷ ns) more.names;
      dummies = λ x t. go x (contains_cases d.name (names_of ds) x t) first.1 (more.dummies x);
    }
  where
    go : (x : Text) → (d.name ≡ x) ⊎ Contains (names_of ds) x → Contains u.dummies d.name → (Contains (names_of ds) x → Contains u.dummies x) → Contains u.dummies x
    go x (inl is) here next = subst (Contains u.dummies) is here
    go x (inr later) here next = next later

-- ---- directives

abbrev number_in : Option Expr → ℕ
number_in (Some (Numeral n k)) = n
number_in other = 0

abbrev name_in : Option Expr → Text
name_in (Some (Name x)) = x
name_in other = []

abbrev first : List Text → Text
first [] = []
first (x ∷ xs) = x

lower_is : (e : Option Expr) → is_small_number e ≡ true → (e ≡ Some (Numeral (number_in e) None)) × (number_in e ≤ 2147483647)
lower_is (Some (Numeral n None)) h = (refl, leb-true n 2147483647 h)
lower_is other h = absurd (false≢true h)

record New (u : Unit) (ids : List Text) (upper : Option Expr) : Type 0 where
  ids_are : ids ≡ first ids ∷ []
  upper_is : upper ≡ Some (Name (name_in upper))
  id : Contains u.dummies (first ids) → ⊥
  id_unit : first ids ≡ u.name → ⊥
  bound : Contains u.dummies (name_in upper) → ⊥
  bound_unit : name_in upper ≡ u.name → ⊥
  apart : first ids ≡ name_in upper → ⊥

not_same : (x y : Text) → not (bytes_eq x y) ≡ true → x ≡ y → ⊥
not_same x y h e = false≢true (sym (not-true (bytes_eq x y) h) ∙ rw e (same_itself y))

new_is : (u : Unit) (ids : List Text) (upper : Option Expr) → are_new u ids upper ≡ true → New u ids upper
new_is u (id ∷ []) (Some (Name x)) h =
    let parts = three (is_new u id) (is_new u x) (not (bytes_eq id x)) h in
    let own = and_parts (not (is_among u.dummies id)) (not (bytes_eq id u.name)) parts.0 in
    let other = and_parts (not (is_among u.dummies x)) (not (bytes_eq x u.name)) parts.1 in
    record {
      ids_are = refl;
      upper_is = refl;
      id = not_among u.dummies id own.0;
      id_unit = not_same id u.name own.1;
      bound = not_among u.dummies x other.0;
      bound_unit = not_same x u.name other.1;
      apart = not_same id x parts.2;
    }
new_is u ids upper h = absurd (false≢true h)

define_word : (w : DirectiveWord) → is_define_word w ≡ true → w ≡ word.Define
define_word word.Define h = refl
define_word other h = absurd (false≢true h)

parallelize_word : (w : DirectiveWord) → is_parallelize_word w ≡ true → w ≡ word.Parallelize
parallelize_word word.Parallelize h = refl
parallelize_word other h = absurd (false≢true h)

-- a directive of a word, names and bounds alone
abbrev bare : DirectiveWord → List Text → Option Expr → Option Expr → Directive
bare w ns lower upper = record { word = w; names = ns; over = None; number = None; group = None; init = false; lower = lower; upper = upper }

bare_is : (d : Directive) → is_bare d ≡ true → d ≡ bare d.word d.names d.lower d.upper
bare_is d h =
    let parts = four (is_none d.over) (is_none d.number) (is_none d.group) (not d.init) h in
    ap (λ o. record d { over = o }) (none_is d.over parts.0)
    ∙ ap (λ n. record d { over = None; number = n }) (none_is d.number parts.1)
    ∙ ap (λ g. record d { over = None; number = None; group = g }) (none_is d.group parts.2)
    ∙ ap (λ i. record d { over = None; number = None; group = None; init = i }) (not_is d.init parts.3)

record Defines (u : Unit) (d : Directive) : Type 0 where
  is : d ≡ define (first d.names) (number_in d.lower) (name_in d.upper)
  small : number_in d.lower ≤ 2147483647
  new : New u d.names d.upper

define_is : (u : Unit) (d : Directive) → is_define u d ≡ true → Defines u d
define_is u d h =
    let parts = four (is_define_word d.word) (is_bare d) (is_small_number d.lower) (are_new u d.names d.upper) h in
    let low = lower_is d.lower parts.2 in
    let new = new_is u d.names d.upper parts.3 in
    record {
      is = bare_is d parts.1
          ∙ ap (λ w. bare w d.names d.lower d.upper) (define_word d.word parts.0)
          ∙ ap (λ ns. bare word.Define ns d.lower d.upper) new.ids_are
          ∙ ap (λ l. bare word.Define (first d.names ∷ []) l d.upper) low.0
          ∙ ap (bare word.Define (first d.names ∷ []) (Some (Numeral (number_in d.lower) None))) new.upper_is;
      small = low.1;
      new = new;
    }

record Parallelizes (u : Unit) (d : Directive) : Type 0 where
  is : d ≡ parallelize d.names
  listed : Once u.dummies d.names

parallelize_is : (u : Unit) (d : Directive) → is_parallelize u d ≡ true → Parallelizes u d
parallelize_is u d h =
    let all = and_parts (is_parallelize_word d.word && is_bare d && is_none d.lower && is_none d.upper && list_all (is_among u.dummies) d.names) (list_all (stands_once d.names) u.dummies) h in
    let parts = and_parts (is_parallelize_word d.word && is_bare d && is_none d.lower && is_none d.upper) (list_all (is_among u.dummies) d.names) all.0 in
    let fields = four (is_parallelize_word d.word) (is_bare d) (is_none d.lower) (is_none d.upper) parts.0 in
    record {
      is = bare_is d fields.1
          ∙ ap (λ w. bare w d.names d.lower d.upper) (parallelize_word d.word fields.0)
          ∙ ap (λ l. bare word.Parallelize d.names l d.upper) (none_is d.lower fields.2)
          ∙ ap (bare word.Parallelize d.names None) (none_is d.upper fields.3);
      listed = once_of u.dummies d.names all.1 parts.1;
    }

-- ---- the unit

-- the tests of the parts of a unit with these directives and statements
pub record Passes (u : Unit) (d p : Directive) (body : List Stmt) : Type 0 where
  pub header : is_header u ≡ true
  pub uses : u.uses ≡ []
  pub decls : list_all (is_declaration u) u.decls ≡ true
  pub marks : u.marks ≡ d ∷ p ∷ []
  pub define : is_define u d ≡ true
  pub parallelize : is_parallelize u p ≡ true
  pub is : u.body ≡ in_a_row body
  pub all : list_all (is_assignment u) body ≡ true

abbrev pub scalars_of : Unit → Directive → Directive → List Stmt → Scalars
scalars_of u d p body = record {
  name = u.name;
  dummies = u.dummies;
  declared = map declared u.decls;
  listed = p.names;
  id = first d.names;
  lower = number_in d.lower;
  upper = name_in d.upper;
  assigned = map assigned body;
}

record Header (u : Unit) : Type 0 where
  host : u.host ≡ None
  result : u.result ≡ None
  some : is_empty u.dummies ≡ false
  ordinary : list_all is_ordinary u.dummies ≡ true
  once_each : list_all (stands_once u.dummies) u.dummies ≡ true
  declared_once : list_all (stands_once (names_of u.decls)) u.dummies ≡ true

header_is : (u : Unit) → is_header u ≡ true → Header u
header_is u h =
    let parts = four (is_none u.host) (is_none u.result) (not (is_empty u.dummies)) (list_all (is_dummy u) u.dummies) h in
    let each : (x : Text) → is_dummy u x ≡ true → (is_ordinary x ≡ true) × (stands_once u.dummies x ≡ true) × (stands_once (names_of u.decls) x ≡ true) =
    λ x t. three (is_ordinary x) (stands_once u.dummies x) (stands_once (names_of u.decls) x) t in
    record {
      host = none_is u.host parts.0;
      result = none_is u.result parts.1;
      some = not_is (is_empty u.dummies) parts.2;
      ordinary = all_of (is_dummy u) is_ordinary u.dummies (λ x t. (each x t).0) parts.3;
      once_each = all_of (is_dummy u) (stands_once u.dummies) u.dummies (λ x t. (each x t).1) parts.3;
      declared_once = all_of (is_dummy u) (stands_once (names_of u.decls)) u.dummies (λ x t. (each x t).2) parts.3;
    }

some_listed : (dummies names : List Text) → is_empty dummies ≡ false → ((x : Text) → Contains dummies x → Contains names x) → names ≡ [] → ⊥
some_listed [] names h all e = false≢true (sym h)
some_listed (x ∷ xs) names h all e = contains_none x (subst (λ (ns : List Text). Contains ns x) e (all x (contains_here x xs)))

pub passes_are_scalars : (u : Unit) (d p : Directive) (body : List Stmt) → Passes u d p body → IsScalars (scalars_of u d p body)
passes_are_scalars u d p body t =
    let head = header_is u t.header in
    let decls = decls_are u u.decls t.decls in
    let def = define_is u d t.define in
    let par = parallelize_is u p t.parallelize in
    let here = once_of u.dummies u.dummies head.once_each (all_among u.dummies) in
    let all_declared = once u.dummies (names_of u.decls) head.declared_once decls.dummies in
    record {
      dummies = here.distinct;
      plain = no_intrinsics u.dummies head.ordinary;
      own = none_fresh u.dummies head.ordinary;
      declared = subst Distinct (sym decls.names) all_declared.distinct;
      all_declared = λ x c. subst (λ (ns : List Text). Contains ns x) (sym decls.names) (all_declared.all x c);
      declared_dummies = λ x c. all_declared.only x (subst (λ (ns : List Text). Contains ns x) decls.names c);
      all_data = par.listed.all;
      data_dummies = par.listed.only;
      some_data = some_listed u.dummies p.names head.some par.listed.all;
      lower = def.small;
      id = def.new.id;
      id_unit = def.new.id_unit;
      upper = def.new.bound;
      upper_unit = def.new.bound_unit;
      apart = def.new.apart;
      assigned = (body_is u body t.all).1;
    }

pub passes_are_source : (u : Unit) (d p : Directive) (body : List Stmt) → Passes u d p body → u ≡ source_unit (scalars_of u d p body)
passes_are_source u d p body t =
    let head = header_is u t.header in
    let decls = decls_are u u.decls t.decls in
    let def = define_is u d t.define in
    let par = parallelize_is u p t.parallelize in
    let of : Option Text → List Use → List Decl → List Directive → Stmts → Option ℕ → Unit = λ r us ds ms b host. record {
      name = u.name;
      dummies = u.dummies;
      result = r;
      uses = us;
      decls = ds;
      marks = ms;
      body = b;
      host = host;
    } in
    let two : List Directive = define (first d.names) (number_in d.lower) (name_in d.upper) ∷ parallelize p.names ∷ [] in
    ap (λ r. of r u.uses u.decls u.marks u.body u.host) head.result
    ∙ ap (λ us. of None us u.decls u.marks u.body u.host) t.uses
    ∙ ap (λ ds. of None [] ds u.marks u.body u.host) decls.are
    ∙ ap (λ ms. of None [] (decls_of (map declared u.decls)) ms u.body u.host) (t.marks ∙ ap (λ e. e ∷ p ∷ []) def.is ∙ ap (λ e. define (first d.names) (number_in d.lower) (name_in d.upper) ∷ e ∷ []) par.is)
    ∙ ap (λ b. of None [] (decls_of (map declared u.decls)) two b u.host) (t.is ∙ (body_is u body t.all).0)
    ∙ ap (of None [] (decls_of (map declared u.decls)) two (assignments (map assigned body))) head.host

pub one_name : (u : Unit) (d : Directive) → is_define u d ≡ true → 0 < length d.names
one_name u d h = subst (λ (ns : List Text). 0 < length ns) (sym (define_is u d h).new.ids_are) (omega arith)
