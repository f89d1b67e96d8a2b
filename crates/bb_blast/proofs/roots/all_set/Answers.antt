use Rattle.std.specs.Prelude.{◌≤◌, length}
use Rattle.std.proofs.Common.{arith}
use Rattle.bb_aig.proofs.Growth.{lit_on}
use Rattle.bb_words.proofs.Lits.{lits_on}
use Rattle.bb_blast.proofs.Nodes.{word_is}
use Rattle.bb_blast.proofs.Rooting.{rooting_none, rooting_next, rooted_all, root_in}
use Rattle.bb_blast.proofs.roots.all_set.Goals as goal

pub loop-root-init : goal.loop-root-init
loop-root-init c =
    rooting_none c.args.gates.now c.args.table.now c.args.roots.now c.constant-all.result c.constant-all.ensures

pub word_at-requires : goal.word_at-requires
word_at-requires c =
    let i = root_in (length c.requires.node_widths) c.args.roots.now c.loop-root.root-index 0 c.requires.fitting
    (omega arith) in
    omega (arith, i, c.requires.words.each)

pub is_any-requires-clause-word : goal.is_any-requires-clause-word
is_any-requires-clause-word c =
    let i = root_in (length c.requires.node_widths) c.args.roots.now c.loop-root.root-index 0 c.requires.fitting
    (omega arith) in
    let w = word_is c.args.gates.now c.requires.node_widths c.requires.means c.args.table.now _ c.word_at.result.now
    c.word_at.ensures c.requires.words i in
    lits_on c.args.gates.now c.loop-root.gates c.word_at.result.now c.loop-root.invariant.grows w.there

pub is_any-requires-clause-told : goal.is_any-requires-clause-told
is_any-requires-clause-told c = c.constant-none.ensures.there

pub and-requires-clause-left : goal.and-requires-clause-left
and-requires-clause-left c =
    lit_on c.loop-root.gates c.is_any.new.gates c.loop-root.all c.in_ok-any.ensures.grows c.loop-root.invariant.there

pub and-requires-clause-right : goal.and-requires-clause-right
and-requires-clause-right c = c.in_ok-any.ensures.made.there

pub loop-root-preserved : goal.loop-root-preserved
loop-root-preserved c =
    rooting_next c.args.gates.now c.loop-root.gates c.is_any.new.gates c.and.new.self c.args.table.now c.args.roots.now
    c.loop-root.root-index 0 c.loop-root.all c.constant-none.result c.in_ok-any.any c.in_ok-all.all
    c.word_at.result.now (omega arith) c.word_at.ensures c.loop-root.invariant c.constant-none.ensures
    c.in_ok-any.ensures.grows c.in_ok-any.ensures.made c.in_ok-all.ensures.grows c.in_ok-all.ensures.made

pub returns-clause-made : goal.returns-clause-made
returns-clause-made c =
    let past : length c.args.roots.now ≤ c.loop-root.root-index = omega arith in
    rooted_all c.args.gates.now c.loop-root.gates c.args.table.now c.args.roots.now c.loop-root.root-index
    c.loop-root.all past c.loop-root.invariant
