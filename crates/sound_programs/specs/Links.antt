-- Chains of links: of references from unit to unit, and of USE lines from module to module.
use Rattle.std.specs.Prelude.{ℕ, zero, suc, Bool, true, ◌&&◌, ◌||◌, IsTrue, List, length}
use Rattle.std.specs.List.{list_any}
use Rattle.std.specs.Str.{bytes_eq}
use Rattle.claw_meaning.specs.Syntax.{Text}

-- a link leads from its first name to its second
abbrev pub Links : Type 0
Links = List (Text × Text)

-- in at most n links the first name leads to the second; in none each name leads to itself
abbrev pub leads_within : Links → ℕ → Text → Text → Bool
leads_within links zero x y = bytes_eq x y
leads_within links (suc n) x y = bytes_eq x y || list_any (λ link. bytes_eq link.0 x && leads_within links n link.1 y) links

-- A chain that takes no link twice has at most as many as there are, and what a longer one leads to, such a one does.
abbrev pub leads : Links → Text → Text → Bool
leads links = leads_within links (length links)

-- the link lies on a cycle: what it leads to leads back
abbrev pub is_on_cycle : Links → Text × Text → Bool
is_on_cycle links link = leads links link.1 link.0

-- a chain of n links begins at the name
abbrev pub begins_chain : Links → ℕ → Text → Bool
begins_chain links zero x = true
begins_chain links (suc n) x = list_any (λ link. bytes_eq link.0 x && begins_chain links n link.1) links

-- the name leads to a cycle
abbrev pub leads_to_cycle : Links → Text → Bool
leads_to_cycle links x = list_any (λ link. leads links x link.0 && is_on_cycle links link) links

-- the second name can be reached from the first, in any number of links
abbrev pub Reaches : Links → Text → Text → Type 0
Reaches links x y = (n : ℕ) × IsTrue (leads_within links n x y)
