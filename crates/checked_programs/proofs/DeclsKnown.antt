-- In a sound program each bound and each value of a declaration has a kind, and so has each of its parts: others are faults of
-- kinds (E32).
use Rattle.std.proofs.Common.{◌≡◌, List, [], Bool, true, false, ◌&&◌, not, cond, Option, None, Some, refl, ap, ◌∙◌}
use Rattle.std.proofs.lemmas.Bool.{false≢true, and_parts, not-false}
use Rattle.std.specs.Prelude.{pos, flat_map, is_some, int_le}
use Rattle.std.specs.Option.{option_to_list}
use Rattle.fort_arith.specs.declared.kind.Kind.{Kind}
use Rattle.fort_arith.specs.declared.kind.Kind.TheVariants.{I1, I2, I4, I8, Logical}
use Rattle.fort_arith.specs.declared.op.Op.TheVariants.{Pow, Mul, Div, Add, Sub, Eq, Ne, Lt, Le, Gt, Ge, And, Or, Eqv, Neqv}
use Rattle.fort_arith.specs.Range.{is_whole, in_kind, least, greatest}
use Rattle.fort_tree.specs.declared.choice.Mode.{Mode}
use Rattle.fort_tree.specs.declared.expr.Unary.TheVariants.{Plus, Minus, Not}
use Rattle.fort_tree.specs.declared.unit.File.{File}
use Rattle.claw_meaning.specs.Syntax.{Text}
use Rattle.claw_meaning.specs.Scope.{Entity, Unknown, Variable, Constant, Procedure}
use Rattle.claw_meaning.specs.Kinds.{or_default}
use Rattle.sound_programs.specs.KindFaults.{literal_fault, written_number, is_number_in, is_truth, is_value_of, value_fault, is_at_most_4, is_bounding_dummy, may_bound, suffixed, name_fault, bound_fault, kind_faults_of_decls, kind_faults_in_scope, kind_faults}
use Rattle.sound_programs.specs.Kinding.{kind, is_integer, kind_of_entity}
use Rattle.sound_programs.specs.Laws.{Each}
use Rattle.sound_programs.specs.Placed.{Expr, Numeral, Boolean, Name, Reference, Signed, Binary, Paren, Decl, first, bare_program}
use Rattle.sound_programs.specs.Places.{where_place}
use Rattle.sound_programs.specs.Placing.{placed}
use Rattle.sound_programs.specs.Scopes.{Scope, Of_unit, Of_module, scopes, decls_of, entity_in}
use Rattle.sound_programs.specs.Sound.{Sound}
use Rattle.sound_programs.specs.Walks.{parts, bounds_in}
use Rattle.sound_programs.proofs.SoundLaws.{empty_if_nowhere}
use Rattle.sound_programs.proofs.WithinLists.{each_append, each_of_each, each_by, each_right, each_flat, both_of}
use Rattle.sound_programs.proofs.Empties.{left_empty, right_empty, no_head, each_empty, not_placed}
use Rattle.checked_programs.specs.Fitting.{HasKind, in_decls}
use Rattle.checked_programs.proofs.PartsFit.{integer_is, integer_known, greater_known}

at_most_whole : (k : Kind) → is_at_most_4 k ≡ true → is_whole k ≡ true
at_most_whole I1 h = refl
at_most_whole I2 h = refl
at_most_whole I4 h = refl
at_most_whole I8 h = refl
at_most_whole Logical h = h

in_whole : (k : Kind) (n : _) → in_kind k n ≡ true → is_whole k ≡ true
unfolding in_kind
in_whole k n h = (and_parts (is_whole k) (int_le (least k) n && int_le n (greatest k)) h).0

module _ (s : Scope) (entity : Text → Entity) where
  abbrev AllKnown : Expr → Type 0
  AllKnown e = Each (parts e) (HasKind entity)

  -- it has an INTEGER kind, and so have its parts
  abbrev IsBound : Expr → Type 0
  IsBound e = (is_integer (kind entity e) ≡ true) × AllKnown e

  may_integer : (x : Text) (a : Entity) → may_bound s x a ≡ true → is_integer (kind_of_entity a) ≡ true
  may_integer x Unknown h = h
  may_integer x (Variable home d) h = at_most_whole d.kind (and_parts (is_bounding_dummy s home x d) (is_at_most_4 d.kind) h).1
  may_integer x (Constant d) h = at_most_whole d.kind h
  may_integer x (Procedure v) h = absurd (false≢true h)

  literal_bound : (e : Expr) → suffixed e ≡ [] → IsBound e
  literal_bound (Numeral n None at) none = (refl, (refl, tt))
  literal_bound (Numeral n (Some k) at) none = absurd (no_head at [] none)
  literal_bound (Boolean b at) none = absurd (no_head at [] none)
  literal_bound (Name x at) none = absurd (no_head at [] none)
  literal_bound (Reference x subs at) none = absurd (no_head at [] none)
  literal_bound (Signed sign e at) none = absurd (no_head at [] none)
  literal_bound (Binary op a b) none = absurd (no_head (first a) [] none)
  literal_bound (Paren e at) none = absurd (no_head at [] none)

  name_bound : (e : Expr) → name_fault s entity e ≡ [] → IsBound e
  name_bound (Name x at) none =
      let h : is_integer (kind_of_entity (entity x)) ≡ true = may_integer x (entity x) (not-false _ (not_placed _ _ none)) in (h, (integer_known _ h, tt))
  name_bound (Numeral n suffix at) none = absurd (no_head at [] none)
  name_bound (Boolean b at) none = absurd (no_head at [] none)
  name_bound (Reference x subs at) none = absurd (no_head at [] none)
  name_bound (Signed sign e at) none = absurd (no_head at [] none)
  name_bound (Binary op a b) none = absurd (no_head (first a) [] none)
  name_bound (Paren e at) none = absurd (no_head at [] none)

  minus_known : (e : Expr) → IsBound e → (at : _) → AllKnown (Signed Minus e at)
  minus_known e h at = (ap is_some (integer_is (kind entity e) h.0) ∙ integer_known (kind entity e) h.0, h.1)

  bound_known : (e : Expr) → bound_fault s entity e ≡ [] → AllKnown e
  bound_known (Numeral n suffix at) none = (refl, tt)
  bound_known (Boolean b at) none = absurd (no_head at [] none)
  bound_known (Name x at) none = (name_bound (Name x at) none).1
  bound_known (Reference x subs at) none = absurd (no_head at [] none)
  bound_known (Signed Plus e at) none = absurd (no_head at [] none)
  bound_known (Signed Minus e at) none = minus_known e (literal_bound e none) at
  bound_known (Signed Not e at) none = absurd (no_head at [] none)
  bound_known (Binary Add a b) none =
      let h = name_bound a (left_empty _ _ none) in
      let k = literal_bound b (right_empty _ _ none) in (greater_known _ _ h.0 k.0, each_append (HasKind entity) (parts a) (parts b) h.1 k.1)
  bound_known (Binary Sub a b) none =
      let h = name_bound a (left_empty _ _ none) in
      let k = literal_bound b (right_empty _ _ none) in (greater_known _ _ h.0 k.0, each_append (HasKind entity) (parts a) (parts b) h.1 k.1)
  bound_known (Binary Pow a b) none = absurd (no_head (first a) [] none)
  bound_known (Binary Mul a b) none = absurd (no_head (first a) [] none)
  bound_known (Binary Div a b) none = absurd (no_head (first a) [] none)
  bound_known (Binary Eq a b) none = absurd (no_head (first a) [] none)
  bound_known (Binary Ne a b) none = absurd (no_head (first a) [] none)
  bound_known (Binary Lt a b) none = absurd (no_head (first a) [] none)
  bound_known (Binary Le a b) none = absurd (no_head (first a) [] none)
  bound_known (Binary Gt a b) none = absurd (no_head (first a) [] none)
  bound_known (Binary Ge a b) none = absurd (no_head (first a) [] none)
  bound_known (Binary And a b) none = absurd (no_head (first a) [] none)
  bound_known (Binary Or a b) none = absurd (no_head (first a) [] none)
  bound_known (Binary Eqv a b) none = absurd (no_head (first a) [] none)
  bound_known (Binary Neqv a b) none = absurd (no_head (first a) [] none)
  bound_known (Paren e at) none = absurd (no_head at [] none)

  -- a literal whose number lies in its kind is INTEGER
  literal_whole : (n : _) (suffix : Option Kind) (at : _) → literal_fault (Numeral n suffix at) ≡ [] → is_whole (or_default suffix) ≡ true
  literal_whole n suffix at none = in_whole (or_default suffix) (pos n) (not-false _ (not_placed _ _ none))

  number_known : (k : Kind) (e : Expr) → Each (parts e) (λ p. literal_fault p ≡ []) → is_number_in k (written_number e) ≡ true → AllKnown e
  number_known k (Numeral n suffix at) none h = (refl, tt)
  number_known k (Signed Minus (Numeral n suffix at) place) none h = minus_known (Numeral n suffix at) (literal_whole n suffix at none.1.0, (refl, tt)) place
  number_known k (Signed Minus (Boolean b at) place) none h = absurd (false≢true h)
  number_known k (Signed Minus (Name x at) place) none h = absurd (false≢true h)
  number_known k (Signed Minus (Reference x subs at) place) none h = absurd (false≢true h)
  number_known k (Signed Minus (Signed sign e at) place) none h = absurd (false≢true h)
  number_known k (Signed Minus (Binary op a b) place) none h = absurd (false≢true h)
  number_known k (Signed Minus (Paren e at) place) none h = absurd (false≢true h)
  number_known k (Signed Plus e place) none h = absurd (false≢true h)
  number_known k (Signed Not e place) none h = absurd (false≢true h)
  number_known k (Boolean b at) none h = absurd (false≢true h)
  number_known k (Name x at) none h = absurd (false≢true h)
  number_known k (Reference x subs at) none h = absurd (false≢true h)
  number_known k (Binary op a b) none h = absurd (false≢true h)
  number_known k (Paren e at) none h = absurd (false≢true h)

  truth_known : (e : Expr) → is_truth e ≡ true → AllKnown e
  truth_known (Boolean b at) h = (refl, tt)
  truth_known (Numeral n suffix at) h = absurd (false≢true h)
  truth_known (Name x at) h = absurd (false≢true h)
  truth_known (Reference x subs at) h = absurd (false≢true h)
  truth_known (Signed sign e at) h = absurd (false≢true h)
  truth_known (Binary op a b) h = absurd (false≢true h)
  truth_known (Paren e at) h = absurd (false≢true h)

  value_known : (k : Kind) (e : Expr) → Each (parts e) (λ p. literal_fault p ≡ []) → is_value_of k e ≡ true → AllKnown e
  value_known k e none h = go (is_whole k) h
    where
      go : (b : Bool) → cond b (is_number_in k (written_number e)) (is_truth e) ≡ true → AllKnown e
      go true h = number_known k e none h
      go false h = truth_known e h

  option_known : (k : Kind) (o : Option Expr) → Each (option_to_list o) (λ e. Each (parts e) (λ p. literal_fault p ≡ []))
      → flat_map (λ e. where_place (not (is_value_of k e)) (first e)) (option_to_list o) ≡ [] → Each (option_to_list o) AllKnown
  option_known k None literals none = tt
  option_known k (Some e) literals none = (value_known k e literals.0 (not-false _ (not_placed _ _ (left_empty _ _ none))), tt)

  decls_known : (decls : List Decl) → kind_faults_of_decls s entity decls ≡ [] → Each (flat_map parts (in_decls decls)) (HasKind entity)
  decls_known decls none =
      let values : List Expr = flat_map (λ (d : Decl). option_to_list d.value) decls in
      let literals : Each (in_decls decls) (λ e. Each (parts e) (λ p. literal_fault p ≡ [])) =
      each_flat parts (λ p. literal_fault p ≡ []) (in_decls decls) (each_empty literal_fault (flat_map parts (in_decls decls)) (left_empty _ _ none)) in
      let in_values : Each decls (λ d. Each (option_to_list d.value) (λ e. Each (parts e) (λ p. literal_fault p ≡ []))) =
      each_flat (λ (d : Decl). option_to_list d.value) (λ e. Each (parts e) (λ p. literal_fault p ≡ [])) decls (each_right _ (bounds_in decls) values literals) in
      let valued : Each decls (λ d. Each (option_to_list d.value) AllKnown) =
      each_by decls (λ (d : Decl) h. option_known d.kind d.value h.0 h.1)
      (both_of _ _ decls in_values (each_empty value_fault decls (left_empty _ _ (right_empty _ _ none)))) in
      let bounds : Each (bounds_in decls) AllKnown =
      each_by (bounds_in decls) bound_known (each_empty (bound_fault s entity) (bounds_in decls) (right_empty _ _ (right_empty _ _ none))) in
      each_of_each AllKnown (HasKind entity) parts (in_decls decls) (λ e h. h)
      (each_append AllKnown (bounds_in decls) values bounds
      (each_of_each (λ (d : Decl). Each (option_to_list d.value) AllKnown) AllKnown (λ (d : Decl). option_to_list d.value) decls (λ d h. h) valued))

abbrev KnownIn : File → Scope → Type 0
KnownIn file s = Each (flat_map parts (in_decls (decls_of s))) (HasKind (entity_in (bare_program (placed file)) s))

known_in_scope : (file : File) (s : Scope) → kind_faults_in_scope (bare_program (placed file)) s ≡ [] → KnownIn file s
known_in_scope file (Of_unit u) none = decls_known (Of_unit u) (entity_in (bare_program (placed file)) (Of_unit u)) u.decls (left_empty _ _ none)
known_in_scope file (Of_module n m) none = decls_known (Of_module n m) (entity_in (bare_program (placed file)) (Of_module n m)) m.decls none

pub declarations_known : (mode : Mode) (file : File) → Sound mode file → Each (scopes (placed file)) (KnownIn file)
declarations_known mode file sound =
    let p = placed file in
    each_by (scopes p) (known_in_scope file) (each_empty (kind_faults_in_scope (bare_program p)) (scopes p) (empty_if_nowhere (kind_faults p) sound.kinds_fit))
