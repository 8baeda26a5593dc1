-- What modules declare, with one more unit.
use Rattle.std.proofs.Common.{◌≡◌, ℕ, zero, suc, ◌+◌, ◌≤◌, ◌<◌, Bool, true, false, List, [], ◌∷◌, ◌++◌, map, length, Option, None, Some, refl, sym, ap, ◌∙◌, arith, set, get_or, if◌then◌else◌, append_assoc, take, drop, drop-cons, add-one}
use Rattle.std.proofs.lemmas.Bool.{eq-eqb, ne_eqb}
use Rattle.std.proofs.lemmas.List.{take_more}
use Rattle.fort_tree.specs.declared.fault.Code.{Code}
use Rattle.fort_tree.specs.declared.stmt.Named.{Named}
use Rattle.fort_tree.specs.declared.unit.Module as tree_module
use Rattle.fort_tree.specs.declared.unit.Unit as tree_unit
use Rattle.claw_meaning.specs.Scope.{same_host}
use Rattle.claw_meaning.specs.Syntax.{Text}
use Rattle.sound_programs.specs.Faults.{Found, found}
use Rattle.fort_names.specs.declared.shared.Shared.{Shared}
use Rattle.fort_names.specs.Declaring.{names_of_decls, names_within, module_names, push_at, push_within, modules_twice}
use Rattle.fort_names.specs.Leasts.{noted, name_of_unit}
use Rattle.fort_names.specs.Using.{scope_twice}
use Rattle.fort_names.proofs.FirstOf.{noted_places}

-- one more unit behind the units
one_unit : (n : ℕ) (us : List tree_unit.Unit) (u : tree_unit.Unit) → names_within n (us ++ u ∷ []) ≡ (if same_host u.host (Some n) then names_within n us ++ name_of_unit u ∷ [] else names_within n us)
one_unit n [] u = refl
one_unit n (v ∷ us) u = go (one_unit n us u) (same_host v.host (Some n)) (same_host u.host (Some n)) refl
  where
    go : names_within n (us ++ u ∷ []) ≡ (if same_host u.host (Some n) then names_within n us ++ name_of_unit u ∷ [] else names_within n us) → (t b : Bool) → same_host u.host (Some n) ≡ b
        → (if t then name_of_unit v ∷ names_within n (us ++ u ∷ []) else names_within n (us ++ u ∷ []))
        ≡ (if b then (if t then name_of_unit v ∷ names_within n us else names_within n us) ++ name_of_unit u ∷ [] else (if t then name_of_unit v ∷ names_within n us else names_within n us))
    go h true true e = ap (λ l. name_of_unit v ∷ l) (h ∙ ap (λ b. if b then names_within n us ++ name_of_unit u ∷ [] else names_within n us) e)
    go h true false e = ap (λ l. name_of_unit v ∷ l) (h ∙ ap (λ b. if b then names_within n us ++ name_of_unit u ∷ [] else names_within n us) e)
    go h false true e = h ∙ ap (λ b. if b then names_within n us ++ name_of_unit u ∷ [] else names_within n us) e
    go h false false e = h ∙ ap (λ b. if b then names_within n us ++ name_of_unit u ∷ [] else names_within n us) e

elsewhere : (n : ℕ) (us : List tree_unit.Unit) (u : tree_unit.Unit) → same_host u.host (Some n) ≡ false → names_within n (us ++ u ∷ []) ≡ names_within n us
elsewhere n us u e = one_unit n us u ∙ ap (λ b. if b then names_within n us ++ name_of_unit u ∷ [] else names_within n us) e

here : (n : ℕ) (us : List tree_unit.Unit) (u : tree_unit.Unit) → same_host u.host (Some n) ≡ true → names_within n (us ++ u ∷ []) ≡ names_within n us ++ name_of_unit u ∷ []
here n us u e = one_unit n us u ∙ ap (λ b. if b then names_within n us ++ name_of_unit u ∷ [] else names_within n us) e

-- a unit in none of the modules
in_none : (n : ℕ) (ms : List tree_module.Module) (us : List tree_unit.Unit) (u : tree_unit.Unit) → ((k : ℕ) → n ≤ k → same_host u.host (Some k) ≡ false) → module_names n ms (us ++ u ∷ []) ≡ module_names n ms us
in_none n [] us u h = refl
in_none n (m ∷ ms) us u h =
    λ i. (names_of_decls m.decls ++ elsewhere n us u (h n (omega arith)) i) ∷ in_none (n + 1) ms us u (λ k le. h k (omega (arith, le))) i

-- a unit in the module at the number
in_one : (k n : ℕ) (ms : List tree_module.Module) (us : List tree_unit.Unit) (u : tree_unit.Unit) → u.host ≡ Some (n + k) → module_names n ms (us ++ u ∷ []) ≡ push_at k (name_of_unit u) (module_names n ms us)
in_one k n [] us u e = refl
in_one zero n (m ∷ ms) us u e =
    λ i. (ap (λ l. names_of_decls m.decls ++ l) (here n us u (ap (λ h. same_host h (Some n)) e ∙ eq-eqb (n + 0) n (omega arith))) ∙ sym (append_assoc (names_of_decls m.decls) (names_within n us) (name_of_unit u ∷ []))) i
    ∷ in_none (n + 1) ms us u (λ j le. ap (λ h. same_host h (Some j)) e ∙ ne_eqb (n + 0) j (λ same. absurd (omega (arith, same, le)))) i
in_one (suc k) n (m ∷ ms) us u e =
    let further : n + suc k ≡ n + 1 + k = omega arith in
    λ i. (names_of_decls m.decls ++ elsewhere n us u (ap (λ h. same_host h (Some n)) e ∙ ne_eqb (n + suc k) n (λ same. absurd (omega (arith, same)))) i)
    ∷ in_one k (n + 1) ms us u (e ∙ ap Some further) i

pub one_more : (ms : List tree_module.Module) (us : List tree_unit.Unit) (u : tree_unit.Unit) → module_names 0 ms (us ++ u ∷ []) ≡ push_within u.host (name_of_unit u) (module_names 0 ms us)
one_more ms us u = go u.host refl
  where
    go : (o : Option ℕ) → u.host ≡ o → module_names 0 ms (us ++ u ∷ []) ≡ push_within o (name_of_unit u) (module_names 0 ms us)
    go None e = in_none 0 ms us u (λ k le. ap (λ h. same_host h (Some k)) e)
    go (Some n) e = let at : n ≡ 0 + n = omega arith in in_one n 0 ms us u (e ∙ ap Some at)

-- the step of a loop over the units
pub next_unit : (ms : List tree_module.Module) (units : List tree_unit.Unit) (i : ℕ) (u : tree_unit.Unit) → i < length units → u ≡ get_or units i u → (lists next : List (List Named))
    → lists ≡ module_names 0 ms (take i units) → next ≡ push_within u.host (name_of_unit u) lists → next ≡ module_names 0 ms (take (i + 1) units)
next_unit ms units i u within is lists next before pushed =
    let more : take (i + 1) units ≡ take i units ++ u ∷ [] = take_more units i u within ∙ ap (λ x. take i units ++ x ∷ []) (sym is) in
    pushed ∙ ap (push_within u.host (name_of_unit u)) before ∙ sym (one_more ms (take i units) u) ∙ ap (module_names 0 ms) (sym more)

-- a push at a place of the list, or past its end
pub push_there : (n : ℕ) (a : Named) (lists : List (List Named)) (l : List Named) → n < length lists → l ≡ get_or lists n l → push_at n a lists ≡ set lists n (l ++ a ∷ [])
push_there n a [] l h e = absurd (omega (arith, h))
push_there zero a (k ∷ lists) l h e = ap (λ x. (x ++ a ∷ []) ∷ lists) (sym e)
push_there (suc n) a (k ∷ lists) l h e = ap (λ x. k ∷ x) (push_there n a lists l (omega (arith, h)) e)

pub push_past : (n : ℕ) (a : Named) (lists : List (List Named)) → length lists ≤ n → push_at n a lists ≡ lists
push_past n a [] h = refl
push_past zero a (k ∷ lists) h = absurd (omega (arith, h))
push_past (suc n) a (k ∷ lists) h = ap (λ x. k ∷ x) (push_past n a lists (omega (arith, h)))

append_nothing : {A : Type 0} (xs : List A) → xs ++ [] ≡ xs
append_nothing [] = refl
append_nothing (x ∷ xs) = ap (λ l. x ∷ l) (append_nothing xs)

-- without units
pub no_units : (n : ℕ) (ms : List tree_module.Module) → map (λ m. names_of_decls m.decls) ms ≡ module_names n ms []
no_units n [] = refl
no_units n (m ∷ ms) = λ i. sym (append_nothing (names_of_decls m.decls)) i ∷ no_units (n + 1) ms i

pub as_many : (n : ℕ) (ms : List tree_module.Module) (us : List tree_unit.Unit) → length (module_names n ms us) ≡ length ms
as_many n [] us = refl
as_many n (m ∷ ms) us = ap suc (as_many (n + 1) ms us)

-- what is written back through a loan of a whole list
drop_all : {A : Type 0} (xs : List A) (n : ℕ) → n ≡ length xs → drop n xs ≡ []
drop_all [] n e = ap (λ k. drop k []) e
drop_all (x ∷ xs) n e = ap (λ k. drop k (x ∷ xs)) e ∙ drop_all xs (length xs) refl

take_all : {A : Type 0} (xs : List A) (n : ℕ) → n ≡ length xs → take n xs ≡ xs
take_all [] n e = ap (λ k. take k []) e
take_all (x ∷ xs) n e = ap (λ k. take k (x ∷ xs)) e ∙ ap (λ l. x ∷ l) (take_all xs (length xs) refl)

pub written_back : {A : Type 0} (len : ℕ) (new items : List A) → length new ≡ length items → len ≡ length items → take len (new ++ drop (length new) items) ≡ new
written_back len new items same all =
    ap (λ l. take len (new ++ l)) (drop_all items (length new) same) ∙ ap (take len) (append_nothing new) ∙ take_all new len (all ∙ sym same)

-- the step of a loop over modules and what each declares
pub next_lists : (code : Code) (s : Shared) (contested : List Text) (lists : List (List Named)) (ms : List tree_module.Module) (i : ℕ) (l : List Named) (m : tree_module.Module)
    → i < length lists → i < length ms → l ≡ get_or lists i l → m ≡ get_or ms i m → (old new : Option Found) → new ≡ noted (found code (scope_twice s contested l m.uses)) old
    → noted (found code (modules_twice s contested (drop (i + 1) lists) (drop (i + 1) ms))) new ≡ noted (found code (modules_twice s contested (drop i lists) (drop i ms))) old
next_lists code s contested lists ms i l m in_lists in_ms is_list is_module old new e =
    let at : drop i lists ≡ l ∷ drop (i + 1) lists = rw (add-one, drop-cons lists i l) (ap (λ x. x ∷ drop (suc i) lists) (sym is_list)) in
    let there : drop i ms ≡ m ∷ drop (i + 1) ms = rw (add-one, drop-cons ms i m) (ap (λ x. x ∷ drop (suc i) ms) (sym is_module)) in
    ap (noted (found code (modules_twice s contested (drop (i + 1) lists) (drop (i + 1) ms)))) e
    ∙ sym (noted_places code (scope_twice s contested l m.uses) (modules_twice s contested (drop (i + 1) lists) (drop (i + 1) ms)) old)
    ∙ sym (λ j. noted (found code (modules_twice s contested (at j) (there j))) old)
