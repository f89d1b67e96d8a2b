use Rattle.std.specs.Prelude.{◌+◌, ℕ}
use Rattle.std.proofs.Common.{sym, ◌∙◌, arith, subst}
use Rattle.wn_net.specs.Net.{IsNode}
use Rattle.bm_induct.specs.declared.how.Rebuild.TheVariants.{Freed}
use Rattle.bm_induct.specs.Past.{SaysRun, fails_last}
use Rattle.bm_induct.proofs.Ends.{has_step}
use Rattle.bm_induct.proofs.Halves.{all_chosen, all_widths}
use Rattle.bm_induct.proofs.Within.{is_within, no_watch, node_anew, regs_many, step_sources}
use Rattle.bm_induct.proofs.anywhere.step.Goals as goal

pub overflow_add-higher : goal.overflow_add-higher
overflow_add-higher c = omega (arith, c.requires.bad, c.in_ok-made.ensures.few, c.offset_of-more.ensures.few)

pub fails_now-requires-clause-bad : goal.fails_now-requires-clause-bad
fails_now-requires-clause-bad c =
    let made = c.in_ok-made.made in
    let P : ℕ → Type 0 = λ more. IsNode made (c.args.bad + more) in
    subst P (sym c.offset_of-more.ensures.value)
    (node_anew Freed c.args.net.now made c.args.bad c.in_ok-made.ensures.anew c.requires.bad)

pub fails_now-requires-clause-room : goal.fails_now-requires-clause-room
fails_now-requires-clause-room c =
    let many = regs_many Freed c.args.net.now c.in_ok-made.made c.in_ok-made.ensures.anew in
    let within = c.requires.within.1 in
    omega (arith, many, within)

pub unroll-requires-clause-bad : goal.unroll-requires-clause-bad
unroll-requires-clause-bad c = c.in_ok-failed.ensures.node.0

pub unroll-requires-clause-within : goal.unroll-requires-clause-within
unroll-requires-clause-within c =
    is_within Freed 1 c.args.net.now c.in_ok-made.made c.fails_now.new.net c.requires.within
    c.in_ok-made.ensures.anew c.in_ok-failed.ensures.known

pub returns-clause-roots : goal.returns-clause-roots
returns-clause-roots c =
    let made = c.in_ok-made.made in
    let last = c.fails_now.new.net in
    let P : ℕ → Type 0 = λ more. SaysRun 1 (fails_last (c.args.bad + more)) made last c.in_ok-failed.failed in
    has_step c.args.net.now made last c.args.bad c.args.k c.in_ok-failed.failed c.nodes.ensures.whole
    c.nodes-2.ensures.whole c.nodes-3.ensures.whole c.requires.bad c.in_ok-made.ensures.anew
    (subst P c.offset_of-more.ensures.value c.in_ok-failed.ensures)
    c.in_ok-frames.frames c.in_ok-frames.ensures.sources c.in_ok-frames.ensures.roots

pub returns-clause-watch : goal.returns-clause-watch
returns-clause-watch c = no_watch c.fails_now.new.net c.args.k c.in_ok-frames.frames c.in_ok-frames.ensures.watch

pub returns-clause-sources : goal.returns-clause-sources
returns-clause-sources c =
    step_sources c.args.net.now c.in_ok-made.made c.fails_now.new.net 1 c.args.k c.in_ok-frames.frames.sources
    c.in_ok-made.ensures.anew c.in_ok-failed.ensures.known c.in_ok-frames.ensures.sources

pub returns-clause-widths : goal.returns-clause-widths
returns-clause-widths c =
    c.in_ok-frames.ensures.widths
    ∙ all_widths Freed c.args.net.now c.in_ok-made.made c.fails_now.new.net 1 c.args.k
    c.in_ok-made.ensures.anew c.in_ok-failed.ensures.known c.in_ok-frames.frames.sources
    c.in_ok-frames.ensures.sources

pub returns-clause-chosen : goal.returns-clause-chosen
returns-clause-chosen c =
    all_chosen Freed c.args.net.now c.in_ok-made.made c.fails_now.new.net 1 c.args.k
    c.in_ok-made.ensures.anew c.in_ok-failed.ensures.known c.in_ok-frames.frames.widths c.in_ok-frames.frames.sources
    c.in_ok-frames.ensures.sources c.in_ok-frames.ensures.chosen
