use Rattle.std.proofs.Common.{◌∷◌, [], codes}
use Rattle.vcd_dump.specs.Vcd.{name_lines}
use Rattle.vcd_dump.proofs.WriteLemmas.{line_put, lines_put}
use Rattle.vcd_dump.proofs.write.put_header.Goals as goal

pub returns : goal.returns
returns c =
    let o0 = c.args.out.now.items in
    let o1 = c.put_line.new.out.items in
    let o2 = c.put_line-2.new.out.items in
    let o3 = c.put_names.new.out.items in
    let o4 = c.put_line-3.new.out.items in
    let o5 = c.put_line-4.new.out.items in
    let l1 = codes "$timescale 1 ns $end" in
    let l2 = codes "$scope module rvfi_wrapper $end" in
    let l3 = codes "$upscope $end" in
    let l4 = codes "$enddefinitions $end" in
    let ns = name_lines 0 c.args.names.now in
    lines_put o0 o3 o5 (l1 ∷ l2 ∷ ns) (l3 ∷ l4 ∷ [])
    (lines_put o0 o2 o3 (l1 ∷ l2 ∷ []) ns (lines_put o0 o1 o2 (l1 ∷ []) (l2 ∷ [])
    (line_put o0 o1 l1 c.in_ok-put_line.ensures)
    (line_put o1 o2 l2 c.in_ok-put_line-2.ensures)) c.in_ok-put_names.ensures)
    (lines_put o3 o4 o5 (l3 ∷ []) (l4 ∷ []) (line_put o3 o4 l3 c.in_ok-put_line-3.ensures)
    (line_put o4 o5 l4 c.in_ok-put_line-4.ensures))
