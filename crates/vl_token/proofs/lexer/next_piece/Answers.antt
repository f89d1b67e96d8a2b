use Rattle.std.proofs.Common.{refl}
use Rattle.vl_token.proofs.Reading.{cut_piece, cut_ended, cut_comment, cut_string, cut_bad}
use Rattle.vl_token.proofs.lexer.next_piece.Goals as goal

pub take_piece-requires : goal.take_piece-requires
take_piece-requires c = cut_piece _ _ _ c.in-Piece.ensures

pub returns-in-Ended : goal.returns-in-Ended
returns-in-Ended c = (cut_ended _ c.in-Ended.ensures, refl)

pub returns-in-OpenComment : goal.returns-in-OpenComment
returns-in-OpenComment c = (cut_comment _ c.in-OpenComment.ensures, refl)

pub returns-in-OpenString : goal.returns-in-OpenString
returns-in-OpenString c = (cut_string _ c.in-OpenString.ensures, refl)

pub returns-in-BadChar : goal.returns-in-BadChar
returns-in-BadChar c = (cut_bad _ c.in-BadChar.ensures, refl)
