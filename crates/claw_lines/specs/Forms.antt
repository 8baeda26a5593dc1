-- The forms of directive and mark lines.
use Rattle.std.specs.Prelude.{ℕ, ◌≡◌, Bool, true, false, ◌||◌, not, List, [], ◌∷◌, Option, None, Some, is_some, codes}
use Rattle.fort_tree.specs.declared.expr.Expr.{Expr}
use Rattle.fort_tree.specs.declared.expr.Expr.TheVariants.{Ref, One}
use Rattle.fort_tree.specs.declared.expr.Unary.TheVariants.{Minus}
use Rattle.fort_tree.specs.declared.place.Place.{Place}
use Rattle.fort_tree.specs.declared.statement.Line.{Line}
use Rattle.fort_tree.specs.declared.statement.Token.{Token}
use Rattle.fort_tree.specs.declared.stmt.Directive.{Directive}
use Rattle.fort_tree.specs.declared.stmt.DirectiveWord.{DirectiveWord}
use Rattle.fort_tree.specs.declared.stmt.DirectiveWord.TheVariants as word
use Rattle.claw_lines.specs.declared.given.Given.{Given}
use Rattle.claw_lines.specs.declared.part.Part.{Part}
use Rattle.claw_lines.specs.declared.part.Part.TheVariants as part
use Rattle.claw_lines.specs.Words.{phrase, opening, parts, needs_names}
use Rattle.claw_lines.specs.Items.{free_item, position_item, literal_item, count_item}

-- x is one of these
pub data IsAmong (A : Type 0) : A → List A → Type 0 where
  here : {x : A} {xs : List A} → IsAmong A x (x ∷ xs)
  there : {x y : A} {xs : List A} → IsAmong A x xs → IsAmong A x (y ∷ xs)

-- The tokens begin with these words, and the rest stands behind them.
pub data Begins : List (List ℕ) → List Token → List Token → Type 0 where
  none : {rest : List Token} → Begins [] rest rest
  next : {text : List ℕ} {texts : List (List ℕ)} {tokens rest : List Token} (token : Token) → token.text ≡ text → Begins texts tokens rest →
      Begins (text ∷ texts) (token ∷ tokens) rest

-- The tokens are these items with commas between and a `)` behind the last, and the rest stands behind it.
pub data Listed (A : Type 0) (item : Token → Option A) : List Token → List Token → List A → Type 0 where
  last : {rest : List Token} {x : A} (token close : Token) → item token ≡ Some x → close.text ≡ codes ")" → Listed A item (token ∷ close ∷ rest) rest (x ∷ [])
  more : {tokens rest : List Token} {x : A} {xs : List A} (token comma : Token) → item token ≡ Some x → comma.text ≡ codes "," → Listed A item tokens rest xs →
      Listed A item (token ∷ comma ∷ tokens) rest (x ∷ xs)

-- ---- what stands behind the words of a form

abbrev pub nothing : Given
nothing = record { names = None; over = None; number = None; group = None; offset = false; init = false }

-- The part is read of the tokens behind its opening words. It isn't given before, and is given after, and the rest stands behind it.
pub data Takes (form : DirectiveWord) (before : Given) : Part → List Token → List Token → Given → Type 0 where
  list : {tokens rest : List Token} {names : List (List ℕ)} → before.names ≡ None → Listed (List ℕ) (free_item form) tokens rest names →
      Takes form before part.List tokens rest (record before { names = Some names })
  data_list : {tokens rest : List Token} {names : List (List ℕ)} → before.names ≡ None → Listed (List ℕ) (free_item form) tokens rest names →
      Takes form before part.Data tokens rest (record before { names = Some names })
  private_list : {tokens rest : List Token} {names : List (List ℕ)} → before.names ≡ None → Listed (List ℕ) (free_item form) tokens rest names →
      Takes form before part.Private tokens rest (record before { names = Some names })
  over : {tokens rest : List Token} {positions : List (Option (List ℕ))} → before.over ≡ None → Listed (Option (List ℕ)) (position_item form) tokens rest positions →
      Takes form before part.Over tokens rest (record before { over = Some positions })
  group : {rest : List Token} {id : List ℕ} (token close : Token) → before.group ≡ None → free_item form token ≡ Some id → close.text ≡ codes ")" →
      Takes form before part.Group (token ∷ close ∷ rest) rest (record before { group = Some id })
  collapse : {rest : List Token} {count : ℕ} (token close : Token) → before.number ≡ None → count_item token ≡ Some count → close.text ≡ codes ")" →
      Takes form before part.Collapse (token ∷ close ∷ rest) rest (record before { number = Some count })
  offset : {rest : List Token} → before.offset ≡ false → Takes form before part.Offset rest rest (record before { offset = true })
  init : {rest : List Token} → before.init ≡ false → Takes form before part.Init rest rest (record before { init = true })

-- The tokens are parts of the form, each given at most once.
pub data Parts (form : DirectiveWord) : Given → List Token → Given → Type 0 where
  end : {given : Given} → Parts form given [] given
  one : {which : Part} {before between after : Given} {tokens behind rest : List Token} → IsAmong Part which (parts form) → Begins (opening which) tokens behind →
      Takes form before which behind rest between → Parts form between rest after → Parts form before tokens after

-- ---- the bounds of a dimension

-- The tokens begin with a number, which may have a `-` before it.
pub data Lower : List Token → List Token → Expr → Type 0 where
  plain : {rest : List Token} {bound : Expr} (number : Token) → literal_item number ≡ Some bound → Lower (number ∷ rest) rest bound
  minus : {rest : List Token} {bound : Expr} (sign number : Token) → sign.text ≡ codes "-" → literal_item number ≡ Some bound →
      Lower (sign ∷ number ∷ rest) rest (One Minus bound sign.at)

-- the token is a number or a name
pub data Upper (token : Token) : Expr → Type 0 where
  number : {bound : Expr} → literal_item token ≡ Some bound → Upper token bound
  name : {id : List ℕ} → free_item word.Define token ≡ Some id → Upper token (Ref id None token.at)

abbrev pub dimension_of : Place → List ℕ → Expr → Expr → Directive
dimension_of at id lower upper =
    record { at = at; word = word.Define; names = id ∷ []; over = None; number = None; group = None; init = false; lower = Some lower; upper = Some upper }

-- Behind `define dimension` the tokens are id ( lower : upper ), and the rest stands behind that.
pub data Defines (at : Place) : List Token → List Token → Directive → Type 0 where
  defines : {tokens rest : List Token} {id : List ℕ} {lower upper : Expr} (name open_mark colon bound close : Token) → free_item word.Define name ≡ Some id →
      open_mark.text ≡ codes "(" → Lower tokens (colon ∷ bound ∷ close ∷ rest) lower → colon.text ≡ codes ":" → Upper bound upper → close.text ≡ codes ")" →
      Defines at (name ∷ open_mark ∷ tokens) rest (dimension_of at id lower upper)

-- ---- lines

abbrev pub names_or_none : Option (List (List ℕ)) → List (List ℕ)
names_or_none None = []
names_or_none (Some names) = names

-- the directive or mark of a form with what is given; what isn't given is none
abbrev pub directive_of : Place → DirectiveWord → Given → Directive
directive_of at form given =
    record { at = at; word = form; names = names_or_none given.names; over = given.over; number = given.number; group = given.group; init = given.init; lower = None; upper = None }

-- a form of words and parts alone
abbrev pub is_of_parts : DirectiveWord → Bool
is_of_parts word.Define = false
is_of_parts word.Column = false
is_of_parts _ = true

-- no names are missing
abbrev pub is_whole : DirectiveWord → Given → Bool
is_whole form given = not (needs_names form) || is_some given.names

-- What these tokens ask for, behind the words of the form. The sentinel stands at the place.
pub data Asks (at : Place) : DirectiveWord → List Token → List Directive → Type 0 where
  dimension : {tokens : List Token} {directive : Directive} → Defines at tokens [] directive → Asks at word.Define tokens (directive ∷ [])
  both : {tokens more behind : List Token} {directive : Directive} {given : Given} → Defines at tokens more directive → Begins (codes "parallelize" ∷ []) more behind →
      Parts word.Parallelize nothing behind given → Asks at word.Define tokens (directive ∷ directive_of at word.Parallelize given ∷ [])
  of_parts : {form : DirectiveWord} {tokens : List Token} {given : Given} → is_of_parts form ≡ true → Parts form nothing tokens given → is_whole form given ≡ true →
      Asks at form tokens (directive_of at form given ∷ [])

-- The tokens of a line, its sentinel among them, ask for these directives or this mark.
pub data IsLine (at : Place) : List Token → List Directive → Type 0 where
  asked : {form : DirectiveWord} {tokens behind : List Token} {directives : List Directive} → Begins (phrase form) tokens behind → Asks at form behind directives →
      IsLine at tokens directives

-- the place of the first token, which is the sentinel
abbrev pub first_place : Place → List Token → Place
first_place at [] = at
first_place at (token ∷ tokens) = token.at

abbrev pub sentinel_place : Line → Place
sentinel_place line = first_place line.at line.tokens

-- The line asks for these, and what continues it isn't missing.
pub record Directs (line : Line) (directives : List Directive) : Type 0 where
  pub whole : line.unfinished ≡ None
  pub form : IsLine (sentinel_place line) line.tokens directives
