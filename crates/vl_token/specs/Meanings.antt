-- Between functions: What the code finds a piece to be. Rule of this project.
use Rattle.std.specs.Prelude.{◌≡◌, true, false}
use Rattle.vl_token.specs.declared.meaning.Meaning.{Meaning}
use Rattle.vl_token.specs.declared.meaning.Meaning.TheVariants.{Gap, Token, BadNumber}
use Rattle.vl_token.specs.Number.{is_bad}
use Rattle.vl_token.specs.Piece.{Piece, number}
use Rattle.vl_token.specs.Tokens.{is_token, IsKind}

abbrev pub IsBadNumber : Piece → Type 0
IsBadNumber (number m) = is_bad m ≡ true
IsBadNumber p = ⊥

abbrev pub IsMeaning : Piece → Meaning → Type 0
IsMeaning p Gap = is_token p ≡ false
IsMeaning p (Token kind) = (is_token p ≡ true) × IsKind p kind
IsMeaning p BadNumber = IsBadNumber p
