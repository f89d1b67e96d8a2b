-- Meaning: The names of the Verilog files. Rule of this project.
use Rattle.std.specs.Prelude.{ℕ, zero, suc, if◌then◌else◌, nat_eq, List, [], ◌∷◌, ◌++◌, map, codes}
use Rattle.std.specs.List.{starts_with}
use Rattle.ck_cfg.specs.declared.config.Config.{Config}

-- a name behind so many bytes that were read already: `@basedir@` is the base folder and `@core@` the core's name,
-- taken from left to right; what is put in isn't read
abbrev pub filled_behind : List ℕ → List ℕ → ℕ → List ℕ → List ℕ
filled_behind core basedir n [] = []
filled_behind core basedir (suc n) (b ∷ bs) = filled_behind core basedir n bs
filled_behind core basedir zero (b ∷ bs) =
    if starts_with nat_eq (b ∷ bs) (codes "@basedir@") then basedir ++ filled_behind core basedir 8 bs
    else if starts_with nat_eq (b ∷ bs) (codes "@core@") then core ++ filled_behind core basedir 5 bs
    else b ∷ filled_behind core basedir 0 bs

-- a name with the base folder and the core's name put in
abbrev pub filled : List ℕ → List ℕ → List ℕ → List ℕ
filled core basedir name = filled_behind core basedir 0 name

-- the names, in the order of their lines
abbrev pub file_names_of : Config → List ℕ → List ℕ → List (List ℕ)
file_names_of c core basedir = map (filled core basedir) c.files
