use Rattle.std.proofs.Common.{arith, length, vec_len, inl, inr, ◌≡◌}
use Rattle.vcd_text.proofs.Ends.{no_end, ends_as, none_whole, one_whole}
use Rattle.vcd_text.proofs.reader.Reader.finish.Goals as goal

pub returns-then-is_empty : goal.returns-then-is_empty
returns-then-is_empty c =
    let s = c.args.self in
    let l : vec_len s.cycles ≡ length s.cycles.items = omega (arith, s.cycles.ok.0) in
    no_end s.part s.names.items s.cycles.items s.values.items s.next
    (inl (none_whole s.cycles.items c.is_empty.result (vec_len s.cycles) c.is_empty.ensures c.if-is_empty.true l))

pub returns-then-next-gt0 : goal.returns-then-next-gt0
returns-then-next-gt0 c =
    let s = c.args.self in no_end s.part s.names.items s.cycles.items s.values.items s.next (inr c.if-next-gt0.true)

pub returns : goal.returns
returns c =
    let s = c.args.self in
    let l : vec_len s.cycles ≡ length s.cycles.items = omega (arith, s.cycles.ok.0) in
    let z : s.next ≡ 0 = omega (arith, c.if-next-gt0.false) in
    ends_as s c.from_vec.result c.from_vec-2.result c.from_vec.ensures c.from_vec-2.ensures
    (one_whole s.cycles.items c.is_empty.result
    (vec_len s.cycles) c.is_empty.ensures c.if-is_empty.false l) z c.requires
