-- Where all places of a program have a property, so have those of lists that are made from its names, and so have all in each
-- of its scopes.
use Rattle.std.proofs.Common.{ℕ, List, [], ◌∷◌, ◌++◌, map, Bool, true, false, cond, Option, None, Some}
use Rattle.std.specs.Prelude.{flat_map}
use Rattle.std.specs.List.{filter, enumerate_from}
use Rattle.fort_tree.specs.declared.place.Place.{Place}
use Rattle.fort_tree.specs.declared.stmt.Named.{Named}
use Rattle.sound_programs.specs.Laws.{Each}
use Rattle.sound_programs.specs.NameFaults.{places_where}
use Rattle.sound_programs.specs.Placed.{Decl, Module, Program}
use Rattle.sound_programs.specs.Places.{is_earlier, later_of, earlier_of, first_of, the_first, where_place}
use Rattle.sound_programs.specs.Scopes.{Scope, Of_unit, Of_module, scopes, decls_of}
use Rattle.sound_programs.specs.Within.{InOption, AllInDecl, AllInUnit, AllInModule, AtNamed, AllPlaces}
use Rattle.sound_programs.proofs.WithinLists.{each_append, each_of_each, each_of_any, each_image, each_kept, each_numbered}

module _ (P : Place → Type 0) where
  -- ---- Lists of places

  -- each of them has the property
  abbrev pub Within : List Place → Type 0
  Within places = Each places P

  pub within_both : (xs ys : List Place) → Within xs → Within ys → Within (xs ++ ys)
  within_both xs ys = each_append P xs ys

  pub within_each : {A : Type 0} (R : A → Type 0) (f : A → List Place) (xs : List A) → ((x : A) → R x → Within (f x)) → Each xs R → Within (flat_map f xs)
  within_each R f xs = each_of_each R P f xs

  pub within_any : {A : Type 0} (f : A → List Place) (xs : List A) → ((x : A) → Within (f x)) → Within (flat_map f xs)
  within_any f xs = each_of_any P f xs

  pub within_where : (b : Bool) (at : Place) → P at → Within (where_place b at)
  within_where true at h = (h, tt)
  within_where false at h = tt

  pub within_names : (test : Named → Bool) (names : List Named) → Each names (AtNamed P) → Within (places_where test names)
  within_names test names all = each_image (AtNamed P) P (λ n. n.at) (filter test names) (λ n h. h) (each_kept (AtNamed P) test names all)

  pub within_decls : (test : Decl → Bool) (decls : List Decl) → Each decls (AllInDecl P) → Within (map (λ d. d.at) (filter test decls))
  within_decls test decls all = each_image (AllInDecl P) P (λ d. d.at) (filter test decls) (λ d h. h.0) (each_kept (AllInDecl P) test decls all)

  pub at_one_of : (b : Bool) (x y : Place) → P x → P y → P (cond b x y)
  at_one_of true x y h h' = h
  at_one_of false x y h h' = h'

  pub at_later : (a b : Place) → P a → P b → P (later_of a b)
  at_later a b h h' = at_one_of (is_earlier a b) b a h' h

  at_earlier : (a : Place) (b : Option Place) → P a → InOption P b → P (earlier_of a b)
  at_earlier a None h h' = h
  at_earlier a (Some b) h h' = at_one_of (is_earlier b a) b a h' h

  in_first : (places : List Place) → Within places → InOption P (first_of places)
  in_first [] all = tt
  in_first (a ∷ rest) all = at_earlier a (first_of rest) all.0 (in_first rest all.1)

  pub within_first : (places : List Place) → Within places → Within (the_first places)
  within_first [] all = tt
  within_first (a ∷ rest) all = (at_earlier a (first_of rest) all.0 (in_first rest all.1), tt)

  -- ---- Scopes

  abbrev pub AllInScope : Scope → Type 0
  AllInScope (Of_unit u) = AllInUnit P u
  AllInScope (Of_module n m) = AllInModule P m

  pub each_scope : (p : Program) → AllPlaces P p → Each (scopes p) AllInScope
  each_scope p h =
      each_append AllInScope (map (λ m. Of_module m.0 m.1) (enumerate_from 0 p.modules)) (map Of_unit p.units)
      (each_image (λ (m : ℕ × Module). AllInModule P m.1) AllInScope (λ m. Of_module m.0 m.1) (enumerate_from 0 p.modules) (λ m h. h) (each_numbered (AllInModule P) 0 p.modules h.0))
      (each_image (AllInUnit P) AllInScope Of_unit p.units (λ u h. h) h.1)

  pub each_decl : (s : Scope) → AllInScope s → Each (decls_of s) (AllInDecl P)
  each_decl (Of_unit u) h = h.decls
  each_decl (Of_module n m) h = h.decls
