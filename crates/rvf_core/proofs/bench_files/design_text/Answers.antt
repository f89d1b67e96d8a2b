use Rattle.std.proofs.Common.{◌∙◌}
use Rattle.rvf_core.proofs.BenchText.{design_is}
use Rattle.rvf_core.proofs.bench_files.design_text.Goals as goal

pub returns : goal.returns
returns c =
    design_is c.args.size c.as_bytes-digits.result.now _ _ _ _ _ _ _ (c.as_bytes-digits.ensures.value ∙ c.format.ensures.text)
    c.in_ok-text.ensures.items c.in_ok-extend_from_slice.ensures.items c.in_ok-extend_from_slice-2.ensures.items
    c.in_ok-extend_from_slice-3.ensures.items c.in_ok-extend_from_slice-4.ensures.items
    c.in_ok-extend_from_slice-5.ensures.items c.in_ok-extend_from_slice-6.ensures.items
