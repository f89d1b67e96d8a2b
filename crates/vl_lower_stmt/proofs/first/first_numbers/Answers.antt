use Rattle.std.proofs.Common.{◌≡◌, ◌+◌, ◌≤◌, ◌++◌, ◌∷◌, [], List, ap, sym, subst, ◌∙◌, length, take, arith}
use Rattle.std.specs.Prelude.{map}
use Rattle.std.proofs.lemmas.Grind.{common_steps}
use Rattle.std.proofs.lemmas.List.{take_all}
use Rattle.vl_mean.specs.declared.driver.Start.{Start}
use Rattle.vl_lower_assign.specs.Frames.{cells_of}
use Rattle.wn_net.specs.Net.{AreNodes, value_at}
use Rattle.vl_lower_stmt.specs.First.{Starts, all_written, nothing_given}
use Rattle.vl_lower_stmt.proofs.FirstNumbers.{all_first, cells_there, no_starts, nothing_is, one_start_more}
use Rattle.vl_lower_stmt.proofs.ZeroCells.{zero_frame}
use Rattle.vl_lower_stmt.proofs.first.first_numbers.Goals as goal

pub loop-start-init : goal.loop-start-init
loop-start-init c =
    let ds = c.args.decls.now in
    let net = c.zero_frame.new.net in
    let f = cells_of c.in_ok-frame.frame in no_starts ds net f (zero_frame net ds f c.in_ok-frame.ensures.zeros)

pub loop-start-preserved : goal.loop-start-preserved
loop-start-preserved c =
    let xs = c.args.starts.now in
    let i = c.loop-start.start-index in
    let x = c.start-item.result in
    let more : take (i + 1) xs ≡ take i xs ++ x ∷ [] = grind (arith, common_steps) in
    one_start_more c.args.decls.now c.zero_frame.new.net c.loop-start.net c.write_start.new.net
    (cells_of c.in_ok-frame.frame) (cells_of c.loop-start.frame) (cells_of c.write_start.new.frame) (take i xs)
    (take (i + 1) xs) x c.loop-start.invariant c.in_ok-write_start.ensures more

pub numbers_of-requires-clause-cells : goal.numbers_of-requires-clause-cells
numbers_of-requires-clause-cells c =
    let net = c.loop-start.net in
    subst (AreNodes net) (sym c.as_slice-2.ensures.value)
    (cells_there c.args.decls.now net c.loop-start.frame.next.items c.loop-start.invariant.frame.next)

pub returns : goal.returns
returns c =
    let ds = c.args.decls.now in
    let xs = c.args.starts.now in
    let i = c.loop-start.start-index in
    let a = c.zero_frame.new.net in
    let net = c.loop-start.net in
    let f = cells_of c.in_ok-frame.frame in
    let k = cells_of c.loop-start.frame in
    let adds = c.in_ok-frame.ensures.adds in
    let past : length xs ≤ i = grind (arith, common_steps) in
    all_first ds a net f k xs c.in_ok-numbers_of.field-0 c.in_ok-frame.ensures.zeros
    (nothing_is a (adds.inputs ∙ c.new-net.ensures.inputs) (adds.regs ∙ c.new-net.ensures.regs)
    (adds.mems ∙ c.new-net.ensures.mems))
    (subst (λ (ys : List Start). Starts ds a net f k (all_written ds ys)) (take_all i xs past) c.loop-start.invariant)
    (c.in_ok-numbers_of.ensures ∙ ap (map (value_at net nothing_given)) c.as_slice-2.ensures.value)
