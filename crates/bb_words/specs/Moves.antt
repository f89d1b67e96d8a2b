-- Between functions: Bits that are moved (rule of this project).
use Rattle.std.specs.Prelude.{ℕ, ◌*◌, Bool, List, [], ◌∷◌, ◌++◌, length, take, drop, replicate}
use Rattle.bb_aig.specs.Bits.{paired, pick}
use Rattle.bb_words.specs.declared.shifts.Direction.{Direction}
use Rattle.bb_words.specs.declared.shifts.Direction.TheVariants.{Up, Down}

-- moved by so many places, as many as there were, with the same in those that are left
abbrev pub moved : {A : Type 0} → Direction → A → ℕ → List A → List A
moved Up fill k xs = take (length xs) (replicate k fill ++ xs)
moved Down fill k xs = take (length xs) (drop k xs ++ replicate k fill)

-- moved by a number of which the lowest bit counts k
abbrev pub shift_bits : Direction → Bool → ℕ → List Bool → List Bool → List Bool
shift_bits d fill k xs [] = xs
shift_bits d fill k xs (y ∷ ys) = shift_bits d fill (2 * k) (paired (pick y) (moved d fill k xs) xs) ys
