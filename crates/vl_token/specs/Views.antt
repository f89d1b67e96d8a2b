-- Between functions: The parts of a text as the code has them, slices of it, seen as lists. Rule of this project.
use Rattle.vl_token.specs.declared.format.Format as source
use Rattle.vl_token.specs.declared.format.Numeral as written
use Rattle.vl_token.specs.declared.format.Numeral.TheVariants as n
use Rattle.vl_token.specs.declared.piece.Piece as part
use Rattle.vl_token.specs.declared.piece.Piece.TheVariants as p
use Rattle.vl_token.specs.declared.piece.Cut as slice
use Rattle.vl_token.specs.declared.piece.Cut.TheVariants as c
use Rattle.vl_token.specs.Numeral.{Format, Numeral, plain, based}
use Rattle.vl_token.specs.Piece.{Piece, blank, line_comment, block_comment, word, number, sign, system, tick, quoted}
use Rattle.vl_token.specs.Piece.{continue}
use Rattle.vl_token.specs.Cut.{Cut, ended, piece, open_comment, open_string, bad_char}

abbrev pub view_format : source.Format → Format
view_format f =
    record {
      size = f.size.now;
      before = f.before.now;
      sign = f.sign.now;
      base = f.base;
      behind = f.behind.now;
      digits = f.digits.now;
    }

abbrev pub view_numeral : written.Numeral → Numeral
view_numeral (n.Plain digits) = plain digits.now
view_numeral (n.Based f) = based (view_format f)

abbrev pub view_piece : part.Piece → Piece
view_piece (p.Blank b) = blank b
view_piece (p.LineComment body) = line_comment body.now
view_piece (p.BlockComment body) = block_comment body.now
view_piece (p.Word w) = word w.now
view_piece (p.Number m) = number (view_numeral m)
view_piece (p.Sign s) = sign s
view_piece (p.System w) = system w.now
view_piece (p.Tick w) = tick w.now
view_piece (p.Quoted body) = quoted body.now
view_piece p.Continue = continue

abbrev pub view_cut : slice.Cut → Cut
view_cut c.Ended = ended
view_cut (c.Piece x rest) = piece (view_piece x) rest.now
view_cut c.OpenComment = open_comment
view_cut c.OpenString = open_string
view_cut c.BadChar = bad_char
