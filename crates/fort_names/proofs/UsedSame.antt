-- Declarations of names that USE lines give: by line and the first declaration of each name, or by declaration, the first is one.
use Rattle.std.proofs.Common.{◌≡◌, Bool, true, ◌&&◌, List, map, Option, None, Some, refl, sym, ap, ◌∙◌, subst, arith}
use Rattle.std.specs.Prelude.{flat_map}
use Rattle.std.specs.List.{list_any}
use Rattle.std.specs.Option.{option_map}
use Rattle.std.specs.Str.{bytes_eq}
use Rattle.std.proofs.lemmas.Bool.{and_parts, and_from}
use Rattle.std.proofs.lemmas.Bool.Decides.{nat_tests}
use Rattle.std.proofs.lemmas.Slice.Eq.{bytes_eq-Decides}
use Rattle.fort_tree.specs.declared.fault.Code.{Code}
use Rattle.fort_tree.specs.declared.place.Place.{Place}
use Rattle.fort_tree.specs.declared.stmt.Named.{Named}
use Rattle.fort_tree.specs.declared.unit.Use.{Use}
use Rattle.claw_meaning.specs.Scope.{brought}
use Rattle.claw_meaning.specs.Syntax.{Text}
use Rattle.sound_programs.specs.Faults.{Found, found}
use Rattle.sound_programs.specs.Places.{later_of, where_place}
use Rattle.sound_programs.specs.Scopes.{only_names, place_of_only, place_of_use}
use Rattle.fort_names.specs.declared.shared.Shared.{Shared}
use Rattle.fort_names.specs.Leasts.{noted}
use Rattle.fort_names.specs.Reached.{is_by, some_by, option_by}
use Rattle.fort_names.specs.Sharing.{gives}
use Rattle.fort_names.specs.Twice.{named_by, IsFirstPlace}
use Rattle.fort_names.specs.Using.{gives_it, used_again, used_first, used_by, used_by_lines}
use Rattle.fort_names.proofs.Members.{Member, any_member, member_any, same_test, any_same, any_flat, any_map}
use Rattle.fort_names.proofs.Reaching.{later_by, same_least}
use Rattle.fort_names.proofs.Seconds.{where_by}

any_swap : {A B : Type 0} (R : A → B → Bool) (xs : List A) (ys : List B) → list_any (λ a. list_any (R a) ys) xs ≡ list_any (λ b. list_any (λ a. R a b) xs) ys
any_swap {A} {B} R xs ys = same_test (list_any (λ a. list_any (R a) ys) xs) (list_any (λ b. list_any (λ a. R a b) xs) ys) there back
  where
    there : list_any (λ a. list_any (R a) ys) xs ≡ true → list_any (λ b. list_any (λ a. R a b) xs) ys ≡ true
    there h =
        let r : (a : A) × Member xs a × (list_any (R a) ys ≡ true) = any_member (λ a. list_any (R a) ys) xs h in
        let t : (b : B) × Member ys b × (R r.0 b ≡ true) = any_member (R r.0) ys r.2 in
        member_any (λ b. list_any (λ a. R a b) xs) t.1 (member_any (λ a. R a t.0) r.1 t.2)

    back : list_any (λ b. list_any (λ a. R a b) xs) ys ≡ true → list_any (λ a. list_any (R a) ys) xs ≡ true
    back h =
        let r : (b : B) × Member ys b × (list_any (λ a. R a b) xs ≡ true) = any_member (λ b. list_any (λ a. R a b) xs) ys h in
        let t : (a : A) × Member xs a × (R a r.0 ≡ true) = any_member (λ a. R a r.0) xs r.2 in
        member_any (λ a. list_any (R a) ys) t.1 (member_any (R t.0) r.1 t.2)

pub later_where : (at : Place) (t : Bool) (p q : Place) → some_by at (where_place t (later_of p q)) ≡ (t && (is_by at p && is_by at q))
later_where at t p q = where_by at t (later_of p q) ∙ ap (λ b. t && b) (later_by at p q)

first_where : (at : Place) (o : Option Place) (t : Bool) (p : Place) → some_by at (used_first o t p) ≡ (option_by at o && (t && is_by at p))
first_where at None t p = refl
first_where at (Some f) t p = later_where at t f p ∙ turn t (is_by at f) (is_by at p)
  where
    turn : (t f p : Bool) → (t && (f && p)) ≡ (f && (t && p))
    turn t f p = grind (arith, nat_tests)

module _ (s : Shared) (declared : List Named) (first : Text → Option Place) (firsts : IsFirstPlace declared first) (at : Place) (line : Use) where
  abbrev Meets : Option (List Named) → Named → Bool
  Meets o n = (brought (option_map (map (λ (e : Named). e.name)) o) n.name && gives s line.name n.name) && (is_by at n.at && is_by at (place_of_only (only_names o) n.name line.at))

  by_line : (o : Option (List Named)) → some_by at (used_by s first declared line o) ≡ list_any (Meets o) declared
  by_line None =
      any_flat (is_by at) (λ (n : Named). where_place (gives s line.name n.name) (later_of n.at line.at)) declared
      ∙ any_same (λ (n : Named). some_by at (where_place (gives s line.name n.name) (later_of n.at line.at))) (Meets None) declared (λ n. later_where at (gives s line.name n.name) n.at line.at)
  by_line (Some only) =
      any_flat (is_by at) listed only
      ∙ any_same (λ n. some_by at (listed n)) tested only (λ n. first_where at (first n.name) (gives s line.name n.name) (place_of_only only n.name line.at) ∙ ap (λ b. b && (gives s line.name n.name && is_by at (place_of_only only n.name line.at))) (firsts.place n.name at))
      ∙ same_test (list_any tested only) (list_any (Meets (Some only)) declared) there back
    where
      listed : Named → List Place
      listed n = used_first (first n.name) (gives s line.name n.name) (place_of_only only n.name line.at)

      tested : Named → Bool
      tested n = named_by declared n.name at && (gives s line.name n.name && is_by at (place_of_only only n.name line.at))

      among : (x : Text) → brought (option_map (map (λ (e : Named). e.name)) (Some only)) x ≡ list_any (λ (e : Named). bytes_eq e.name x) only
      among x = any_map (λ y. bytes_eq y x) (λ (e : Named). e.name) only

      there : list_any tested only ≡ true → list_any (Meets (Some only)) declared ≡ true
      there h =
          let r : (e : Named) × Member only e × (tested e ≡ true) = any_member tested only h in
          let e = r.0 in
          let parts : (named_by declared e.name at ≡ true) × ((gives s line.name e.name && is_by at (place_of_only only e.name line.at)) ≡ true) = and_parts _ _ r.2 in
          let t : (n : Named) × Member declared n × ((bytes_eq e.name n.name && is_by at n.at) ≡ true) = any_member (λ n. bytes_eq e.name n.name && is_by at n.at) declared parts.0 in
          let named : (bytes_eq e.name t.0.name ≡ true) × (is_by at t.0.at ≡ true) = and_parts _ _ t.2 in
          let same : e.name ≡ t.0.name = (bytes_eq-Decides e.name t.0.name).0 named.0 in
          let given : (gives s line.name t.0.name && is_by at (place_of_only only t.0.name line.at)) ≡ true = subst (λ x. (gives s line.name x && is_by at (place_of_only only x line.at)) ≡ true) same parts.1 in
          let both : (gives s line.name t.0.name ≡ true) × (is_by at (place_of_only only t.0.name line.at) ≡ true) = and_parts _ _ given in
          let brings_it : brought (option_map (map (λ (e : Named). e.name)) (Some only)) t.0.name ≡ true = among t.0.name ∙ member_any (λ (e : Named). bytes_eq e.name t.0.name) r.1 named.0 in
          member_any (Meets (Some only)) t.1 (and_from _ _ (and_from _ _ brings_it both.0) (and_from _ _ named.1 both.1))

      back : list_any (Meets (Some only)) declared ≡ true → list_any tested only ≡ true
      back h =
          let r : (n : Named) × Member declared n × (Meets (Some only) n ≡ true) = any_member (Meets (Some only)) declared h in
          let n = r.0 in
          let parts : ((brought (option_map (map (λ (e : Named). e.name)) (Some only)) n.name && gives s line.name n.name) ≡ true) × ((is_by at n.at && is_by at (place_of_only only n.name line.at)) ≡ true) = and_parts _ _ r.2 in
          let given : (brought (option_map (map (λ (e : Named). e.name)) (Some only)) n.name ≡ true) × (gives s line.name n.name ≡ true) = and_parts _ _ parts.0 in
          let by : (is_by at n.at ≡ true) × (is_by at (place_of_only only n.name line.at) ≡ true) = and_parts _ _ parts.1 in
          let t : (e : Named) × Member only e × (bytes_eq e.name n.name ≡ true) = any_member (λ (e : Named). bytes_eq e.name n.name) only (sym (among n.name) ∙ given.0) in
          let same : n.name ≡ t.0.name = sym ((bytes_eq-Decides t.0.name n.name).0 t.2) in
          let there_is : named_by declared t.0.name at ≡ true = member_any (λ m. bytes_eq t.0.name m.name && is_by at m.at) r.1 (and_from _ _ t.2 by.0) in
          let rest : (gives s line.name t.0.name && is_by at (place_of_only only t.0.name line.at)) ≡ true = subst (λ x. (gives s line.name x && is_by at (place_of_only only x line.at)) ≡ true) same (and_from _ _ given.1 by.1) in
          member_any tested t.1 (and_from _ _ there_is rest)

module _ (s : Shared) (declared : List Named) (first : Text → Option Place) (firsts : IsFirstPlace declared first) (lines : List Use) where
  used_same : (at : Place) → some_by at (used_by_lines s first declared lines) ≡ some_by at (used_again s declared lines)
  used_same at =
      any_flat (is_by at) (λ (line : Use). used_by s first declared line line.only) lines
      ∙ any_same (λ (line : Use). some_by at (used_by s first declared line line.only)) (λ line. list_any (meets line) declared) lines (λ line. by_line s declared first firsts at line line.only)
      ∙ any_swap meets lines declared
      ∙ sym (any_same (λ n. some_by at (in_lines n)) (λ n. list_any (λ line. meets line n) lines) declared
      (λ n. any_flat (is_by at) (in_line n) lines ∙ any_same (λ line. some_by at (in_line n line)) (λ line. meets line n) lines (λ line. later_where at (gives_it s line n.name) n.at (place_of_use line n.name))))
      ∙ sym (any_flat (is_by at) in_lines declared)
    where
      meets : Use → Named → Bool
      meets line n = gives_it s line n.name && (is_by at n.at && is_by at (place_of_use line n.name))

      in_line : Named → Use → List Place
      in_line n line = where_place (gives_it s line n.name) (later_of n.at (place_of_use line n.name))

      in_lines : Named → List Place
      in_lines n = flat_map (in_line n) lines

  -- what is noted by lines is what is declared and used
  pub noted_again : (code : Code) (r new : Option Found) → new ≡ noted (found code (used_by_lines s first declared lines)) r → new ≡ noted (found code (used_again s declared lines)) r
  noted_again code r new e = e ∙ same_least code (used_by_lines s first declared lines) (used_again s declared lines) used_same r
