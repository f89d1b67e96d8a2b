use Rattle.std.proofs.Common.{sym, ◌∙◌}
use Rattle.vl_token.specs.Number.{digits_of, radix, worth, number_by}
use Rattle.vl_token.specs.Numeral.{is_wild, is_unknown}
use Rattle.vl_token.proofs.Marks.{neither, no_items, long_in, marks_in, cut_long, wild_bits, unknown_bits}
use Rattle.vl_token.proofs.number.based_number.Goals as goal

pub returns : goal.returns
returns c =
    let base = c.args.format.now.base in
    let ds = digits_of c.args.format.now.digits.now in
    let small = c.in_ok-width.ensures.range.1 in (
      neither _ _ (sym c.is_misspelt.ensures ∙ c.if-is_misspelt.false) c.in_ok-width.ensures.fits.0,
      record {
        sized = no_items _ _ c.is_empty.ensures;
        signed = no_items _ _ c.is_empty-2.ensures;
        width = c.in_ok-width.ensures.fits.1;
        value = cut_long (number_by worth (radix base) ds) _ _ _ small
            (long_in _ _ _ ds c.radix-radix.ensures.value c.long_value.ensures) c.cut_to.ensures.value;
        wild = wild_bits base _ _ _ ds small
            (marks_in is_wild _ _ _ ds c.mark_radix-marks.ensures.value c.mark_bits.ensures) c.cut_to-2.ensures.value;
        unknown = unknown_bits base _ _ _ ds small
            (marks_in is_unknown _ _ _ ds c.mark_radix-marks.ensures.value c.mark_bits-2.ensures)
            c.cut_to-3.ensures.value;
      },
    )
