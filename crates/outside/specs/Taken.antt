-- What a sink took.
use Rattle.std.specs.Prelude.{◌≡◌, ℕ, ◌<◌, List, ◌++◌, length, take}
use Rattle.std.specs.Option.{option_map}
use Rattle.std.specs.declared.option.Option.{Option}

-- The sink took these bytes after those before, where it tells what it took. A sink that tells nothing goes on telling nothing.
abbrev pub Took : Option (List ℕ) → Option (List ℕ) → List ℕ → Type 0
Took before now bytes = now ≡ option_map (λ taken. taken ++ bytes) before

-- The sink took a first part of the text that is shorter than the text.
pub record TookPrefix (before now : Option (List ℕ)) (text : List ℕ) : Type 0 where
  pub count : ℕ
  pub within : count < length text
  pub taken : Took before now (take count text)
