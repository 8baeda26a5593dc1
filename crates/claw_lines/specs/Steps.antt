-- What the functions read from the front of tokens.
use Rattle.std.specs.Prelude.{ℕ, Bool, true, false, cond, List, [], ◌∷◌, ◌++◌, Option, None, Some, option_map, is_some, codes}
use Rattle.std.specs.Option.{option_and_then}
use Rattle.fort_tree.specs.declared.expr.Expr.{Expr}
use Rattle.fort_tree.specs.declared.expr.Expr.TheVariants.{Ref, One}
use Rattle.fort_tree.specs.declared.expr.Unary.TheVariants.{Minus}
use Rattle.fort_tree.specs.declared.place.Place.{Place}
use Rattle.fort_tree.specs.declared.statement.Token.{Token}
use Rattle.fort_tree.specs.declared.stmt.Directive.{Directive}
use Rattle.fort_tree.specs.declared.stmt.DirectiveWord.{DirectiveWord}
use Rattle.fort_tree.specs.declared.stmt.DirectiveWord.TheVariants as word
use Rattle.claw_lines.specs.declared.given.Given.{Given}
use Rattle.claw_lines.specs.declared.part.Part.{Part}
use Rattle.claw_lines.specs.declared.part.Part.TheVariants as part
use Rattle.claw_lines.specs.Words.{opening, parts}
use Rattle.claw_lines.specs.Items.{is_text, free_item, position_item, literal_item, count_item}
use Rattle.claw_lines.specs.Forms.{dimension_of}

-- the tokens behind these words
abbrev pub after : List (List ℕ) → List Token → Option (List Token)
after [] tokens = Some tokens
after (text ∷ texts) [] = None
after (text ∷ texts) (token ∷ tokens) = cond (is_text token text) (after texts tokens) None

abbrev pub found_or : {A : Type 0} → A → Option (List Token) → Option (A × List Token) → Option (A × List Token)
found_or x (Some rest) other = Some (x, rest)
found_or x None other = other

-- the first of these with whose words the tokens begin, and what stands behind them
abbrev pub found : {A : Type 0} → (A → List (List ℕ)) → List A → List Token → Option (A × List Token)
found words [] tokens = None
found words (x ∷ xs) tokens = found_or x (after (words x) tokens) (found words xs tokens)

-- the token in front, whether a `)` or a comma stands behind it, and what stands behind that
abbrev pub marked : List Token → Option (Token × Bool × List Token)
marked [] = None
marked (token ∷ []) = None
marked (token ∷ mark ∷ tokens) = cond (is_text mark (codes ")")) (Some (token, true, tokens)) (cond (is_text mark (codes ",")) (Some (token, false, tokens)) None)

-- the items up to a `)`, with commas between, behind those that were read
abbrev pub listed_from : {A : Type 0} → (Token → Option A) → List A → List Token → Option (List A × List Token)
listed_from item read [] = None
listed_from item read (token ∷ []) = None
listed_from item read (token ∷ mark ∷ tokens) =
    option_and_then (λ x. cond (is_text mark (codes ")")) (Some (read ++ x ∷ [], tokens)) (cond (is_text mark (codes ",")) (listed_from item (read ++ x ∷ []) tokens) None)) (item token)

-- one item and a `)`
abbrev pub single : {A : Type 0} → (Token → Option A) → List Token → Option (A × List Token)
single item [] = None
single item (token ∷ []) = None
single item (token ∷ close ∷ rest) = cond (is_text close (codes ")")) (option_map (λ x. (x, rest)) (item token)) None

-- ---- parts

abbrev pub with_names : Given → List (List ℕ) → Given
with_names given names = record given { names = Some names }

abbrev pub with_over : Given → List (Option (List ℕ)) → Given
with_over given positions = record given { over = Some positions }

abbrev pub with_group : Given → List ℕ → Given
with_group given id = record given { group = Some id }

abbrev pub with_number : Given → ℕ → Given
with_number given number = record given { number = Some number }

-- what was read is given; nothing where it was given before
abbrev pub once : {A : Type 0} → Bool → (A → Given) → Option (A × List Token) → Option (Given × List Token)
once true with read = None
once false with read = option_map (λ r. (with r.0, r.1)) read

abbrev pub take_names : DirectiveWord → Given → List Token → Option (Given × List Token)
take_names form given tokens = once (is_some given.names) (with_names given) (listed_from (free_item form) [] tokens)

abbrev pub take_part : DirectiveWord → Given → Part → List Token → Option (Given × List Token)
take_part form given part.List tokens = take_names form given tokens
take_part form given part.Data tokens = take_names form given tokens
take_part form given part.Private tokens = take_names form given tokens
take_part form given part.Over tokens = once (is_some given.over) (with_over given) (listed_from (position_item form) [] tokens)
take_part form given part.Group tokens = once (is_some given.group) (with_group given) (single (free_item form) tokens)
take_part form given part.Collapse tokens = once (is_some given.number) (with_number given) (single count_item tokens)
take_part form given part.Offset tokens = cond given.offset None (Some (record given { offset = true }, tokens))
take_part form given part.Init tokens = cond given.init None (Some (record given { init = true }, tokens))

abbrev pub next_part : DirectiveWord → Given → List Token → Option (Given × List Token)
next_part form given tokens = option_and_then (λ r. take_part form given r.0 r.1) (found opening (parts form) tokens)

-- ---- the bounds of a dimension

abbrev pub lower_first : List Token → Option (Expr × List Token)
lower_first [] = None
lower_first (token ∷ tokens) = option_map (λ bound. (bound, tokens)) (literal_item token)

abbrev pub signed_at : Place → Expr × List Token → Expr × List Token
signed_at at r = (One Minus r.0 at, r.1)

abbrev pub lower_bound : List Token → Option (Expr × List Token)
lower_bound [] = None
lower_bound (token ∷ tokens) = cond (is_text token (codes "-")) (option_map (signed_at token.at) (lower_first tokens)) (lower_first (token ∷ tokens))

abbrev pub or_name : Token → Option Expr → Option Expr
or_name token (Some bound) = Some bound
or_name token None = option_map (λ id. Ref id None token.at) (free_item word.Define token)

abbrev pub upper_bound : Token → Option Expr
upper_bound token = or_name token (literal_item token)

-- behind the lower bound: a colon, the upper bound and a `)`
abbrev pub upper_of : List Token → Option (Expr × List Token)
upper_of [] = None
upper_of (colon ∷ tokens) = cond (is_text colon (codes ":")) (single upper_bound tokens) None

-- a name and a `(`
abbrev pub named_front : List Token → Option (List ℕ × List Token)
named_front [] = None
named_front (token ∷ []) = None
named_front (token ∷ mark ∷ rest) = cond (is_text mark (codes "(")) (option_map (λ id. (id, rest)) (free_item word.Define token)) None

abbrev pub dimension_with : Place → List ℕ × List Token → Expr × List Token → Expr × List Token → Directive × List Token
dimension_with at name lower upper = (dimension_of at name.0 lower.0 upper.0, upper.1)

abbrev pub dimension_upper : Place → List ℕ × List Token → Expr × List Token → Option (Directive × List Token)
dimension_upper at name lower = option_map (dimension_with at name lower) (upper_of lower.1)

abbrev pub dimension_lower : Place → List ℕ × List Token → Option (Directive × List Token)
dimension_lower at name = option_and_then (dimension_upper at name) (lower_bound name.1)

-- a name, a `(` and the bounds
abbrev pub dimension : Place → List Token → Option (Directive × List Token)
dimension at tokens = option_and_then (dimension_lower at) (named_front tokens)
