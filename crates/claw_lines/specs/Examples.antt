-- Lines with their tokens at columns of line 1.
use Rattle.std.specs.Prelude.{ℕ, ◌≡◌, true, List, [], ◌∷◌, None, codes, refl}
use Rattle.fort_tree.specs.declared.expr.Expr.TheVariants.{Number as TheNumber, Ref, One}
use Rattle.fort_tree.specs.declared.expr.Unary.TheVariants.{Minus}
use Rattle.fort_tree.specs.declared.place.Place.{Place}
use Rattle.fort_tree.specs.declared.statement.Token.{Token}
use Rattle.fort_tree.specs.declared.stmt.Directive.{Directive}
use Rattle.fort_tree.specs.declared.stmt.DirectiveWord.TheVariants.{Forward, Parallelize}
use Rattle.fort_tree.specs.Token.{is_token}
use Rattle.claw_lines.specs.Forms.{nothing, dimension_of, directive_of}

abbrev pub column : ℕ → Place
column n = record { file = 0; line = 1; column = n }

abbrev pub token : ℕ → (text : List ℕ) → is_token text ≡ true → Token
token n text whole = record { text = text; at = column n; whole = whole }

-- !$claw parallelize forward
abbrev pub forward_line : List Token
forward_line = token 1 (codes "!$claw") refl ∷ token 8 (codes "parallelize") refl ∷ token 20 (codes "forward") refl ∷ []

abbrev pub forwarded : List Directive
forwarded = directive_of (column 1) Forward nothing ∷ []

abbrev pub data_of_a : List Token
data_of_a = token 28 (codes "data") refl ∷ token 32 (codes "(") refl ∷ token 33 (codes "a") refl ∷ token 34 (codes ")") refl ∷ []

-- !$claw parallelize forward data(a)
abbrev pub forward_with_data : List Token
forward_with_data = token 1 (codes "!$claw") refl ∷ token 8 (codes "parallelize") refl ∷ token 20 (codes "forward") refl ∷ data_of_a

abbrev pub empty_list : List Token
empty_list = token 18 (codes "(") refl ∷ token 19 (codes ")") refl ∷ []

-- !$claw loop-hoist()
abbrev pub hoist_of_nothing : List Token
hoist_of_nothing = token 1 (codes "!$claw") refl ∷ token 8 (codes "loop") refl ∷ token 12 (codes "-") refl ∷ token 13 (codes "hoist") refl ∷ empty_list

abbrev pub last_word : List Token
last_word = token 33 (codes "parallelize") refl ∷ []

abbrev pub bounds_and_word : List Token
bounds_and_word =
    token 25 (codes "j") refl ∷ token 26 (codes "(") refl ∷ token 27 (codes "-") refl ∷ token 28 (codes "1") refl ∷ token 29 (codes ":") refl ∷ token 30 (codes "n") refl
    ∷ token 31 (codes ")") refl ∷ last_word

-- !$claw define dimension j(-1:n) parallelize
abbrev pub dimension_line : List Token
dimension_line = token 1 (codes "!$claw") refl ∷ token 8 (codes "define") refl ∷ token 15 (codes "dimension") refl ∷ bounds_and_word

abbrev pub dimension_j : Directive
dimension_j = dimension_of (column 1) (codes "j") (One Minus (TheNumber 1 None (column 28)) (column 27)) (Ref (codes "n") None (column 30))

abbrev pub dimensioned : List Directive
dimensioned = dimension_j ∷ directive_of (column 1) Parallelize nothing ∷ []
