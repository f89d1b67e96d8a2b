use Rattle.vl_token.proofs.Reading.{well_named, token_on}
use Rattle.vl_token.proofs.lexer.take_piece.Goals as goal

pub add_token-requires : goal.add_token-requires
add_token-requires c =
    let m = rw c.in-Ok-Token.field-0-is at c.in-Ok-Token.ensures in well_named _ _ _ c.requires.stands m.1

pub returns-in-Ok : goal.returns-in-Ok
returns-in-Ok c =
    let m = rw c.in-Ok-Token.field-0-is at c.in-Ok-Token.ensures in
    token_on _ _ _ _ _ _ _ _ c.requires m.0 m.1 c.place_moved-in-Ok.ensures c.in-Ok.ensures
