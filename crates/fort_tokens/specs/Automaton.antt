-- The forms that a token's text has on its way.
use Rattle.std.specs.Prelude.{ℕ, Bool, false, true, cond, ◌==◌, List, [], ◌∷◌, ◌++◌}
use Rattle.std.specs.Char.{is_ascii_lowercase, is_ascii_digit}
use Rattle.fort_tokens.specs.Texts.{is_name_byte, is_kind, is_begun, is_fixed}

pub data State : Type 0 where
  start : State
  name : State
  digits : State
  under : State
  suffixed : State
  fixed : List ℕ → State
  dead : State

abbrev begun : List ℕ → State
begun t = cond (is_begun t) (fixed t) dead

-- one byte more
abbrev pub next : State → ℕ → State
next start b = cond (is_ascii_lowercase b) name (cond (is_ascii_digit b) digits (begun (b ∷ [])))
next name b = cond (is_name_byte b) name dead
next digits b = cond (is_ascii_digit b) digits (cond (b == 95) under dead)
next under b = cond (is_kind b) suffixed dead
next suffixed b = dead
next (fixed t) b = begun (t ++ b ∷ [])
next dead b = dead

abbrev pub run : State → List ℕ → State
run s [] = s
run s (b ∷ bs) = run (next s b) bs

-- the text is a number, however large
abbrev pub numeric : State → Bool
numeric digits = true
numeric suffixed = true
numeric _ = false

abbrev pub accepts : State → Bool
accepts start = false
accepts name = true
accepts digits = true
accepts under = false
accepts suffixed = true
accepts (fixed t) = is_fixed t
accepts dead = false

-- the text has a token's form, its length and value set aside
abbrev pub has_form : List ℕ → Bool
has_form t = accepts (run start t)

-- it is a number, however large
abbrev pub has_number_form : List ℕ → Bool
has_number_form t = numeric (run start t)
