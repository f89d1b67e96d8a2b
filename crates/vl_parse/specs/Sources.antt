-- Between functions: What functions promise each other, and what they stand on. Where a source begins. Rule of this
-- project.
use Rattle.std.specs.Prelude.{◌≡◌, List, [], ◌∷◌}
use Rattle.fv_text.specs.declared.pos.Pos.{Pos}
use Rattle.fv_text.specs.declared.token.Token.{Token}

-- the place of the first token, or 1:1 of file 1 where there is none
abbrev pub IsStart : Pos → List Token → Type 0
IsStart p [] = p ≡ record { file = 1; line = 1; col = 1 }
IsStart p (t ∷ ts) = t.pos ≡ p
