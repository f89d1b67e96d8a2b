use Rattle.std.proofs.Common.{◌∷◌, [], codes}
use Rattle.vcd_dump.specs.Vcd.{value_lines}
use Rattle.vcd_dump.proofs.WriteLemmas.{line_put, lines_put}
use Rattle.vcd_dump.proofs.write.put_first.Goals as goal

pub returns : goal.returns
returns c =
    let o0 = c.args.out.now.items in
    let o1 = c.put_line.new.out.items in
    let o2 = c.put_line-2.new.out.items in
    let o3 = c.put_values.new.out.items in
    let o4 = c.put_line-3.new.out.items in
    let l1 = codes "#0" in
    let l2 = codes "$dumpvars" in
    let l3 = codes "$end" in
    let vs = value_lines 0 c.args.names.now c.args.values.now in
    lines_put o0 o3 o4 (l1 ∷ l2 ∷ vs) (l3 ∷ [])
    (lines_put o0 o2 o3 (l1 ∷ l2 ∷ []) vs (lines_put o0 o1 o2 (l1 ∷ []) (l2 ∷ [])
    (line_put o0 o1 l1 c.in_ok-put_line.ensures)
    (line_put o1 o2 l2 c.in_ok-put_line-2.ensures)) c.in_ok-put_values.ensures)
    (line_put o3 o4 l3 c.in_ok-put_line-3.ensures)
